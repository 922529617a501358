-- What a reply leaves of a read.
use Rattle.std.proofs.Common.{◌==◌, ◌&&◌, nat_lt, nat_le, if◌then◌else◌, IsTrue, ◌≡◌, ◌<◌, ◌+◌, ℕ, List, [], ◌∷◌, ◌++◌, Bool, true, false, Option, Some, None, IsSome, slice_get, length, drop, refl, ap, sym, ◌∙◌, arith}
use Rattle.raid_base.specs.declared.numbers.HostNo.{HostNo}
use Rattle.raid_base.specs.declared.numbers.Number.{Number}
use Rattle.raid_base.specs.declared.jobs.Cause.{Cause}
use Rattle.raid_base.specs.declared.jobs.Cause.TheVariants.{Quit}
use Rattle.raid_base.specs.declared.jobs.Ended.TheVariants.{Refused}
use Rattle.raid_base.specs.declared.messages.Reply.{Reply}
use Rattle.raid_base.specs.declared.messages.Errand.{Errand}
use Rattle.raid_base.specs.declared.messages.Grant.{Grant}
use Rattle.raid_base.specs.Replies.{grant_of}
use Rattle.raid_base.specs.First.{first_errand}
use Rattle.raid_base.specs.Steps.{Steps, next_errand, answer, stopped, draws, settled, behind, bind, Walk, Through, Stopped, run}
use Rattle.raid_base.proofs.DrawLemmas.{settled-asks}
use Rattle.attempts.specs.Taking.{Access, Finish, Row, Rows, Taken, behind_from, refusal, with_grant}
use Rattle.attempts.specs.Releases.{refused_steps, read_releases}
use Rattle.raid_base.specs.declared.numbers.RowNo.{RowNo}
use Rattle.raid_base.specs.declared.jobs.RowPart.{RowPart}
use Rattle.raid_base.specs.Replies.{is_done}
use Rattle.raid_base.proofs.RunLemmas.{behind-run-some}
use Rattle.std.proofs.lemmas.Bool.Decides.{nat_tests}
use Rattle.attempts.specs.Parts.{are_parts}
use Rattle.attempts.specs.Releases.{releasing, end_as}
use Rattle.attempts.specs.Reading.{sharing, read_refused, read_rows, freeing, read_freed, first_row}
use Rattle.attempts.proofs.TakingLemmas.{before-kept, taking-some, taking-last, taking-none, why-cause}
use Rattle.host_read.specs.declared.stages.ReadStage.{ReadStage}
use Rattle.host_read.specs.declared.stages.ReadStage.TheVariants.{Wanted, Parity, Others, Drawing, Freeing, Releasing}
use Rattle.host_read.specs.Stages.{is_kept, is_settled}
use Rattle.host_read.specs.Left.{left_of, rest_of}

-- where nothing is drawn the steps stand as they are
pub stands : (host : HostNo) (seen : Number) (s s' : Steps Finish) → s' ≡ s → draws s' ≡ false → record { seen = seen; steps = s' } ≡ settled host seen s
stands host seen s s' e h = sym (settled-asks host seen s' h) ∙ ap (settled host seen) e

-- the reply refuses
pub stop-left : (a : Access) (keep : Option Grant → Row → Row) (f : Walk Taken → Steps Finish) (t : Taken) (es : List Errand) (r : Reply) (cause : Cause) (s' : Steps Finish)
    → 0 < length es → refusal (behind_from a.mode a.id) t.missing (first_errand es).bay r ≡ Some cause
    → f (Stopped t (first_errand es) r) ≡ read_refused a t (first_errand es) r
    → s' ≡ refused_steps (read_releases a (t.before ++ t.row ∷ [])) cause
    → s' ≡ behind (bind (run (sharing a keep) es t) f) r
stop-left a keep f t es r cause s' some why is e =
    e
    ∙ ap (refused_steps (read_releases a (t.before ++ t.row ∷ []))) (sym (why-cause (behind_from a.mode a.id) t (first_errand es) r cause why))
    ∙ sym is
    ∙ sym (taking-none (behind_from a.mode a.id) keep es t f r cause some why)

module _ (a : Access) (keep : Option Grant → Row → Row) (F : (Rows → Steps Finish) → Walk Taken → Steps Finish) where
  -- the reply is kept, and the walk goes on
  pub on-left : (t t' : Taken) (es es' : List Errand) (r : Reply)
      → 0 < length es → refusal (behind_from a.mode a.id) t.missing (first_errand es).bay r ≡ None
      → t' ≡ with_grant keep t (first_errand es).bay (grant_of r) → es' ≡ drop 1 es
      → bind (run (sharing a keep) es' t') (F (rest_of a t')) ≡ behind (bind (run (sharing a keep) es t) (F (rest_of a t))) r
  on-left t t' es es' r some why kept more =
      ap (λ xs. bind (run (sharing a keep) xs t') (F (rest_of a t'))) more
      ∙ ap (λ u. bind (run (sharing a keep) (drop 1 es) u) (F (rest_of a u))) kept
      ∙ ap (λ before. bind (run (sharing a keep) (drop 1 es) (with_grant keep t (first_errand es).bay (grant_of r))) (F (read_rows a (drop (length before + 1) a.parts))))
      (before-kept keep t (first_errand es).bay (grant_of r))
      ∙ sym (taking-some (behind_from a.mode a.id) keep es t (F (rest_of a t)) r some why)

  -- the reply is kept, and the walk is over
  pub last-left : (t t' : Taken) (es : List Errand) (r : Reply) (s' : Steps Finish)
      → length es ≡ 1 → refusal (behind_from a.mode a.id) t.missing (first_errand es).bay r ≡ None
      → t' ≡ with_grant keep t (first_errand es).bay (grant_of r) → s' ≡ F (rest_of a t') (Through t')
      → s' ≡ behind (bind (run (sharing a keep) es t) (F (rest_of a t))) r
  last-left t t' es r s' one why kept e =
      e
      ∙ ap (λ u. F (rest_of a u) (Through u)) kept
      ∙ ap (λ before. F (read_rows a (drop (length before + 1) a.parts)) (Through (with_grant keep t (first_errand es).bay (grant_of r))))
      (before-kept keep t (first_errand es).bay (grant_of r))
      ∙ sym (taking-last (behind_from a.mode a.id) keep es t (F (rest_of a t)) r one why)

-- the first of the queue comes next
pub next-left : (stage : ReadStage) (a : Access) (t : Taken) (es : List Errand) (parts : ℕ) → is_kept stage parts (length es) t ≡ true → is_settled stage ≡ true
    → next_errand (left_of stage a t es) ≡ slice_get es 0
next-left Wanted a t (x ∷ es) parts k h = refl
next-left Parity a t (x ∷ es) parts k h = refl
next-left Others a t (x ∷ es) parts k h = refl
next-left Drawing a t es parts k h = cc
next-left (Freeing n row) a t (x ∷ es) parts k h = refl
next-left (Releasing cause) a t (x ∷ es) parts k h = refl
next-left Wanted a t [] parts k h = cc
next-left Parity a t [] parts k h = cc
next-left Others a t [] parts k h = cc
next-left (Freeing n None) a t [] parts k h = refl
next-left (Freeing n (Some row)) a t [] parts k h = refl
next-left (Releasing cause) a t [] parts k h = refl

-- no answer while an errand is left
pub asks-left : (stage : ReadStage) (a : Access) (t : Taken) (es : List Errand) → 0 < length es → answer (left_of stage a t es) ≡ None
asks-left stage a t [] h = absurd (omega arith)
asks-left Wanted a t (x ∷ es) h = refl
asks-left Parity a t (x ∷ es) h = refl
asks-left Others a t (x ∷ es) h = refl
asks-left Drawing a t (x ∷ es) h = refl
asks-left (Freeing n row) a t (x ∷ es) h = refl
asks-left (Releasing cause) a t (x ∷ es) h = refl

-- an errand is left until there is an answer
pub has-errand : (stage : ReadStage) (a : Access) (t : Taken) (es : List Errand) (parts : ℕ) → is_kept stage parts (length es) t ≡ true → is_settled stage ≡ true
    → answer (left_of stage a t es) ≡ None → 0 < length es
has-errand stage a t (x ∷ es) parts k h n = omega arith
has-errand Wanted a t [] parts k h n = cc
has-errand Parity a t [] parts k h n = cc
has-errand Others a t [] parts k h n = cc
has-errand Drawing a t [] parts k h n = cc
has-errand (Freeing m None) a t [] parts k h n = cc
has-errand (Freeing m (Some row)) a t [] parts k h n = cc
has-errand (Releasing cause) a t [] parts k h n = cc

pub first-some : (es : List Errand) → 0 < length es → IsSome (slice_get es 0)
first-some [] h = absurd (omega arith)
first-some (x ∷ es) h = refl

pub some-first : (es : List Errand) → IsSome (slice_get es 0) → 0 < length es
some-first [] h = cc
some-first (x ∷ es) h = omega arith

pub none-first : (es : List Errand) → slice_get es 0 ≡ None → length es ≡ 0
none-first [] h = refl
none-first (x ∷ es) h = cc

-- where the host stops
pub quits-left : (stage : ReadStage) (a : Access) (t : Taken) (es : List Errand) → 0 < length es → is_settled stage ≡ true → Some (Refused Quit) ≡ stopped (left_of stage a t es)
quits-left stage a t [] h k = absurd (omega arith)
quits-left Wanted a t (x ∷ es) h k = refl
quits-left Parity a t (x ∷ es) h k = refl
quits-left Others a t (x ∷ es) h k = refl
quits-left Drawing a t (x ∷ es) h k = cc
quits-left (Freeing n row) a t (x ∷ es) h k = refl
quits-left (Releasing cause) a t (x ∷ es) h k = refl

-- what the stages keep
pub some-wanted : (t : Taken) (es : List Errand) (parts : ℕ) → is_kept Wanted parts (length es) t ≡ true → 0 < length es
some-wanted t [] parts k = cc
some-wanted t (x ∷ es) parts k = omega arith

pub some-others : (t : Taken) (es : List Errand) (parts : ℕ) → is_kept Others parts (length es) t ≡ true → 0 < length es
some-others t [] parts k = cc
some-others t (x ∷ es) parts k = omega arith

is-one : (n : ℕ) (b : Bool) → ((n == 1) && b) ≡ true → n ≡ 1
is-one n b h = grind (arith, nat_tests)

pub one-parity : (t : Taken) (es : List Errand) (parts : ℕ) → is_kept Parity parts (length es) t ≡ true → length es ≡ 1
one-parity t es parts k =
    is-one (length es) (nat_lt (length t.before) parts && nat_le (length t.row.wanted + 0) 16 && nat_le (length t.row.others + 0) 16)
    (grind (arith, nat_tests))

-- some part is there
pub some-parts : (n : ℕ) (parts : List RowPart) → IsTrue (are_parts n parts) → 0 < length parts
some-parts n [] h = cc
some-parts n (x ∷ parts) h = omega arith

-- releases that are done
pub released-left : (a : Access) (t : Taken) (cause : Cause) (es es' : List Errand) (r : Reply) → 0 < length es → es' ≡ drop 1 es
    → left_of (Releasing cause) a t es' ≡ behind (left_of (Releasing cause) a t es) r
released-left a t cause es es' r some e =
    ap (λ xs. left_of (Releasing cause) a t xs) e ∙ sym (behind-run-some releasing es tt (end_as (Refused cause)) r tt some refl)

pub freed-left : (a : Access) (t : Taken) (n : Number) (row row' : Option RowNo) (es es' : List Errand) (r : Reply) → 0 < length es → es' ≡ drop 1 es
    → row' ≡ (if is_done r then row else first_row row (first_errand es).request)
    → left_of (Freeing n row') a t es' ≡ behind (left_of (Freeing n row) a t es) r
freed-left a t n row row' es es' r some e is =
    ap (λ xs. left_of (Freeing n row') a t xs) e ∙ sym (behind-run-some freeing es row (read_freed a n t.before) r row' some (ap (λ x. Some x) (sym is)))

pub ruleset tries = (asks-left, has-errand)
