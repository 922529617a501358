-- What a reply leaves of a write.
use Rattle.std.proofs.Common.{◌==◌, ◌&&◌, if◌then◌else◌, IsTrue, ◌≡◌, ◌<◌, ◌+◌, ℕ, List, [], ◌∷◌, ◌++◌, Bool, true, false, Option, Some, None, IsSome, slice_get, option_map, length, drop, refl, ap, sym, ◌∙◌, arith}
use Rattle.std.proofs.lemmas.Bool.Decides.{nat_tests}
use Rattle.std.proofs.lemmas.List.{length_push}
use Rattle.raid_base.specs.declared.numbers.Number.{Number}
use Rattle.raid_base.specs.declared.jobs.RowPart.{RowPart}
use Rattle.raid_base.specs.declared.jobs.Cause.{Cause}
use Rattle.raid_base.specs.declared.jobs.Cause.TheVariants.{Quit}
use Rattle.raid_base.specs.declared.jobs.Ended.{Ended}
use Rattle.raid_base.specs.declared.jobs.Ended.TheVariants.{Refused}
use Rattle.raid_base.specs.declared.messages.Reply.{Reply}
use Rattle.raid_base.specs.declared.messages.Errand.{Errand}
use Rattle.raid_base.specs.declared.messages.Grant.{Grant}
use Rattle.raid_base.specs.declared.messages.PutEnd.{PutEnd}
use Rattle.raid_base.specs.Replies.{grant_of, put_end}
use Rattle.raid_base.specs.First.{first_errand}
use Rattle.raid_base.specs.Steps.{Steps, next_errand, answer, stopped, behind, bind, Walk, Through, run}
use Rattle.raid_base.proofs.RunLemmas.{behind-run-some, behind-run-last, behind-run-none}
use Rattle.attempts.specs.Parts.{are_parts}
use Rattle.attempts.specs.Taking.{Access, Finish as Outcome, Row, Rows, Taken, behind_from, refusal, with_grant}
use Rattle.attempts.specs.Releases.{refused_steps, write_releases, releasing, end_as}
use Rattle.attempts.specs.Puts.{Puts, with_trouble, trouble_of, unit_of, data_put_by, parity_put_by, putting_data, putting_parity, part_by_quit}
use Rattle.attempts.specs.Writing.{claiming, claim_rows, confirming, confirm_rows, confirm_cause, row_or_change, row_confirmed, data_done, parity_done, finishing, write_end}
use Rattle.attempts.proofs.TakingLemmas.{before-kept, taking-last}
use Rattle.host_write.specs.declared.stages.WriteStage.{WriteStage}
use Rattle.host_write.specs.declared.stages.WriteStage.TheVariants.{ClaimParity, ClaimWanted, ClaimSmall, ShareUntil, ShareAfter, Confirm, Draw, PutData, PutParity, Finish, Release}
use Rattle.host_write.specs.Stages.{is_kept, is_settled}
use Rattle.host_write.specs.Left.{left_of, rest_of, row_at, confirmed_so_far, confirms_of, puts_of}

-- the reply is kept, and the walk is over
pub last-left : (a : Access) (keep : Option Grant → Row → Row) (F : (Rows → Steps Outcome) → Walk Taken → Steps Outcome) (t t' : Taken) (es : List Errand) (r : Reply) (s' : Steps Outcome)
    → length es ≡ 1 → refusal (behind_from a.mode a.id) t.missing (first_errand es).bay r ≡ None
    → t' ≡ with_grant keep t (first_errand es).bay (grant_of r) → s' ≡ F (rest_of a t') (Through t')
    → s' ≡ behind (bind (run (claiming a keep) es t) (F (rest_of a t))) r
last-left a keep F t t' es r s' one why kept e =
    e
    ∙ ap (λ u. F (rest_of a u) (Through u)) kept
    ∙ ap (λ before. F (claim_rows a (drop (length before + 1) a.parts)) (Through (with_grant keep t (first_errand es).bay (grant_of r))))
    (before-kept keep t (first_errand es).bay (grant_of r))
    ∙ sym (taking-last (behind_from a.mode a.id) keep es t (F (rest_of a t)) r one why)

module _ (a : Access) (t : Taken) (rows : List Row) (puts : Puts) (es : List Errand) (r : Reply) where
  -- a row is confirmed
  pub confirm-left : (row : Row) (rows' : List Row) (s' : Steps Outcome) → length es ≡ 1
      → row_or_change (behind_from a.mode a.id) t.missing (first_errand es).bay (row_at t.before (length rows)) r ≡ Some row → rows' ≡ rows ++ row ∷ []
      → s' ≡ confirm_rows a t.before (drop (length rows') t.before) (confirmed_so_far t rows')
      → s' ≡ behind (left_of Confirm a t rows puts es) r
  confirm-left row rows' s' one held more e =
      e
      ∙ ap (λ xs. confirm_rows a t.before (drop (length xs) t.before) (confirmed_so_far t xs)) more
      ∙ ap (λ k. confirm_rows a t.before (drop k t.before) (confirmed_so_far t (rows ++ row ∷ []))) (length_push rows row)
      ∙ sym (behind-run-last (confirming a (row_at t.before (length rows))) es (confirmed_so_far t rows) (row_confirmed a t.before (row_at t.before (length rows)) (confirms_of a t (length rows))) r (confirmed_so_far t (rows ++ row ∷ [])) one
      (ap (λ o. option_map (λ (x : Row). confirmed_so_far t (rows ++ x ∷ [])) o) held))

  -- a row is not
  pub unconfirmed-left : (cause : Cause) (s' : Steps Outcome) → 0 < length es
      → row_or_change (behind_from a.mode a.id) t.missing (first_errand es).bay (row_at t.before (length rows)) r ≡ None
      → cause ≡ confirm_cause a (row_at t.before (length rows)) (confirmed_so_far t rows) (first_errand es) r
      → s' ≡ refused_steps (write_releases a t.before) cause
      → s' ≡ behind (left_of Confirm a t rows puts es) r
  unconfirmed-left cause s' some changed why e =
      e
      ∙ ap (refused_steps (write_releases a t.before)) why
      ∙ sym (behind-run-none (confirming a (row_at t.before (length rows))) es (confirmed_so_far t rows) (row_confirmed a t.before (row_at t.before (length rows)) (confirms_of a t (length rows))) r some
      (ap (λ o. option_map (λ (x : Row). confirmed_so_far t (rows ++ x ∷ [])) o) changed))

  module _ (n : Number) (k : ℕ) where
    -- the last put of a row's data
    pub data-last : (puts' : Puts) → length es ≡ 1 → data_put_by a (row_at rows k) puts (unit_of a (row_at rows k) (first_errand es)) (put_end r) ≡ Some puts'
        → data_done a n (row_at rows k) (puts_of a n rows k) (Through puts') ≡ behind (left_of (PutData n k) a t rows puts es) r
    data-last puts' one e = sym (behind-run-last (putting_data a n (row_at rows k)) es puts (data_done a n (row_at rows k) (puts_of a n rows k)) r puts' one e)

    -- a put that stops the row
    pub data-stop : 0 < length es → data_put_by a (row_at rows k) puts (unit_of a (row_at rows k) (first_errand es)) (put_end r) ≡ None
        → puts_of a n rows k (with_trouble puts (trouble_of (row_at rows k) (first_errand es) r)) ≡ behind (left_of (PutData n k) a t rows puts es) r
    data-stop some e = sym (behind-run-none (putting_data a n (row_at rows k)) es puts (data_done a n (row_at rows k) (puts_of a n rows k)) r some e)

    -- the put of a parity
    pub parity-last : (puts' : Puts) → length es ≡ 1 → parity_put_by a (row_at rows k) puts (put_end r) ≡ Some puts'
        → puts_of a n rows k puts' ≡ behind (left_of (PutParity n k) a t rows puts es) r
    parity-last puts' one e = sym (behind-run-last (putting_parity a n (row_at rows k)) es puts (parity_done (row_at rows k) (puts_of a n rows k)) r puts' one e)

    pub parity-stop : 0 < length es → parity_put_by a (row_at rows k) puts (put_end r) ≡ None
        → puts_of a n rows k (with_trouble puts (trouble_of (row_at rows k) (first_errand es) r)) ≡ behind (left_of (PutParity n k) a t rows puts es) r
    parity-stop some e = sym (behind-run-none (putting_parity a n (row_at rows k)) es puts (parity_done (row_at rows k) (puts_of a n rows k)) r some e)

  pub released-left : (cause : Cause) (es' : List Errand) → 0 < length es → es' ≡ drop 1 es → left_of (Release cause) a t rows puts es' ≡ behind (left_of (Release cause) a t rows puts es) r
  released-left cause es' some e =
      ap (λ xs. left_of (Release cause) a t rows puts xs) e ∙ sym (behind-run-some releasing es tt (end_as (Refused cause)) r tt some refl)

  pub finished-left : (n : Number) (es' : List Errand) → 0 < length es → es' ≡ drop 1 es → left_of (Finish n) a t rows puts es' ≡ behind (left_of (Finish n) a t rows puts es) r
  finished-left n es' some e =
      ap (λ xs. left_of (Finish n) a t rows puts xs) e ∙ sym (behind-run-some (finishing a n) es puts (write_end a n) r puts some refl)

-- what a put says, of the row as it was read
pub data-some : (a : Access) (row row' : Row) (puts puts' : Puts) (unit : ℕ) (e : Errand) (pe : PutEnd) (b : Bool) → row ≡ row' → unit ≡ unit_of a row' e
    → data_put_by a row puts unit pe ≡ (if b then Some puts' else None) → b ≡ true → data_put_by a row' puts (unit_of a row' e) pe ≡ Some puts'
data-some a row row' puts puts' unit e pe b same at is holds =
    ap (λ u. data_put_by a row' puts u pe) (sym at) ∙ ap (λ x. data_put_by a x puts unit pe) (sym same) ∙ is ∙ ap (λ c. if c then Some puts' else None) holds

pub data-none : (a : Access) (row row' : Row) (puts puts' : Puts) (unit : ℕ) (e : Errand) (pe : PutEnd) (b : Bool) → row ≡ row' → unit ≡ unit_of a row' e
    → data_put_by a row puts unit pe ≡ (if b then Some puts' else None) → b ≡ false → data_put_by a row' puts (unit_of a row' e) pe ≡ None
data-none a row row' puts puts' unit e pe b same at is fails =
    ap (λ u. data_put_by a row' puts u pe) (sym at) ∙ ap (λ x. data_put_by a x puts unit pe) (sym same) ∙ is ∙ ap (λ c. if c then Some puts' else None) fails

pub parity-some : (a : Access) (row row' : Row) (puts puts' : Puts) (pe : PutEnd) (b : Bool) → row ≡ row'
    → parity_put_by a row puts pe ≡ (if b then Some puts' else None) → b ≡ true → parity_put_by a row' puts pe ≡ Some puts'
parity-some a row row' puts puts' pe b same is holds =
    ap (λ x. parity_put_by a x puts pe) (sym same) ∙ is ∙ ap (λ c. if c then Some puts' else None) holds

pub parity-none : (a : Access) (row row' : Row) (puts puts' : Puts) (pe : PutEnd) (b : Bool) → row ≡ row'
    → parity_put_by a row puts pe ≡ (if b then Some puts' else None) → b ≡ false → parity_put_by a row' puts pe ≡ None
parity-none a row row' puts puts' pe b same is fails =
    ap (λ x. parity_put_by a x puts pe) (sym same) ∙ is ∙ ap (λ c. if c then Some puts' else None) fails

-- the first of the queue comes next
pub next-left : (stage : WriteStage) (a : Access) (t : Taken) (rows : List Row) (puts : Puts) (es : List Errand) (n : ℕ) (parts : List RowPart)
    → is_kept stage n parts (length es) t rows puts ≡ true → is_settled stage ≡ true → next_errand (left_of stage a t rows puts es) ≡ slice_get es 0
next-left ClaimParity a t rows puts [] n parts k h = cc
next-left ClaimWanted a t rows puts [] n parts k h = cc
next-left ClaimSmall a t rows puts [] n parts k h = cc
next-left ShareUntil a t rows puts [] n parts k h = cc
next-left ShareAfter a t rows puts [] n parts k h = cc
next-left Confirm a t rows puts [] n parts k h = cc
next-left Draw a t rows puts [] n parts k h = cc
next-left (PutData m row) a t rows puts [] n parts k h = cc
next-left (PutParity m row) a t rows puts [] n parts k h = cc
next-left (Finish m) a t rows puts [] n parts k h = refl
next-left (Release cause) a t rows puts [] n parts k h = refl
next-left ClaimParity a t rows puts (x ∷ es) n parts k h = refl
next-left ClaimWanted a t rows puts (x ∷ es) n parts k h = refl
next-left ClaimSmall a t rows puts (x ∷ es) n parts k h = refl
next-left ShareUntil a t rows puts (x ∷ es) n parts k h = refl
next-left ShareAfter a t rows puts (x ∷ es) n parts k h = refl
next-left Confirm a t rows puts (x ∷ es) n parts k h = refl
next-left Draw a t rows puts (x ∷ es) n parts k h = cc
next-left (PutData m row) a t rows puts (x ∷ es) n parts k h = refl
next-left (PutParity m row) a t rows puts (x ∷ es) n parts k h = refl
next-left (Finish m) a t rows puts (x ∷ es) n parts k h = refl
next-left (Release cause) a t rows puts (x ∷ es) n parts k h = refl

-- no answer while an errand is left
pub asks-left : (stage : WriteStage) (a : Access) (t : Taken) (rows : List Row) (puts : Puts) (es : List Errand) → 0 < length es → answer (left_of stage a t rows puts es) ≡ None
asks-left stage a t rows puts [] h = absurd (omega arith)
asks-left ClaimParity a t rows puts (x ∷ es) h = refl
asks-left ClaimWanted a t rows puts (x ∷ es) h = refl
asks-left ClaimSmall a t rows puts (x ∷ es) h = refl
asks-left ShareUntil a t rows puts (x ∷ es) h = refl
asks-left ShareAfter a t rows puts (x ∷ es) h = refl
asks-left Confirm a t rows puts (x ∷ es) h = refl
asks-left Draw a t rows puts (x ∷ es) h = refl
asks-left (PutData m row) a t rows puts (x ∷ es) h = refl
asks-left (PutParity m row) a t rows puts (x ∷ es) h = refl
asks-left (Finish m) a t rows puts (x ∷ es) h = refl
asks-left (Release cause) a t rows puts (x ∷ es) h = refl

-- an errand is left until there is an answer
pub has-errand : (stage : WriteStage) (a : Access) (t : Taken) (rows : List Row) (puts : Puts) (es : List Errand) (n : ℕ) (parts : List RowPart)
    → is_kept stage n parts (length es) t rows puts ≡ true → is_settled stage ≡ true → answer (left_of stage a t rows puts es) ≡ None → 0 < length es
has-errand stage a t rows puts (x ∷ es) n parts k h e = omega arith
has-errand ClaimParity a t rows puts [] n parts k h e = cc
has-errand ClaimWanted a t rows puts [] n parts k h e = cc
has-errand ClaimSmall a t rows puts [] n parts k h e = cc
has-errand ShareUntil a t rows puts [] n parts k h e = cc
has-errand ShareAfter a t rows puts [] n parts k h e = cc
has-errand Confirm a t rows puts [] n parts k h e = cc
has-errand Draw a t rows puts [] n parts k h e = cc
has-errand (PutData m row) a t rows puts [] n parts k h e = cc
has-errand (PutParity m row) a t rows puts [] n parts k h e = cc
has-errand (Finish m) a t rows puts [] n parts k h e = cc
has-errand (Release cause) a t rows puts [] n parts k h e = cc

pub first-some : (es : List Errand) → 0 < length es → IsSome (slice_get es 0)
first-some [] h = absurd (omega arith)
first-some (x ∷ es) h = refl

pub some-first : (es : List Errand) → IsSome (slice_get es 0) → 0 < length es
some-first [] h = cc
some-first (x ∷ es) h = omega arith

pub none-first : (es : List Errand) → slice_get es 0 ≡ None → length es ≡ 0
none-first [] h = refl
none-first (x ∷ es) h = cc

-- where the host stops
abbrev pub stop_of : WriteStage → Puts → Ended
stop_of (PutData n row) puts = part_by_quit n puts
stop_of (PutParity n row) puts = part_by_quit n puts
stop_of (Finish n) puts = part_by_quit n puts
stop_of _ puts = Refused Quit

pub quits-left : (stage : WriteStage) (a : Access) (t : Taken) (rows : List Row) (puts : Puts) (es : List Errand) → 0 < length es → is_settled stage ≡ true
    → Some (stop_of stage puts) ≡ stopped (left_of stage a t rows puts es)
quits-left stage a t rows puts [] h k = absurd (omega arith)
quits-left ClaimParity a t rows puts (x ∷ es) h k = refl
quits-left ClaimWanted a t rows puts (x ∷ es) h k = refl
quits-left ClaimSmall a t rows puts (x ∷ es) h k = refl
quits-left ShareUntil a t rows puts (x ∷ es) h k = refl
quits-left ShareAfter a t rows puts (x ∷ es) h k = refl
quits-left Confirm a t rows puts (x ∷ es) h k = refl
quits-left Draw a t rows puts (x ∷ es) h k = cc
quits-left (PutData m row) a t rows puts (x ∷ es) h k = refl
quits-left (PutParity m row) a t rows puts (x ∷ es) h k = refl
quits-left (Finish m) a t rows puts (x ∷ es) h k = refl
quits-left (Release cause) a t rows puts (x ∷ es) h k = refl

-- one errand where the stage has one
is-one : (n : ℕ) (b : Bool) → ((n == 1) && b) ≡ true → n ≡ 1
is-one n b h = grind (arith, nat_tests)

pub one-parity : (n : ℕ) (parts : List RowPart) (es : List Errand) (t : Taken) (rows : List Row) (puts : Puts) → is_kept ClaimParity n parts (length es) t rows puts ≡ true → length es ≡ 1
one-parity n parts es t rows puts k = grind (arith, nat_tests)

pub one-confirm : (n : ℕ) (parts : List RowPart) (es : List Errand) (t : Taken) (rows : List Row) (puts : Puts) → is_kept Confirm n parts (length es) t rows puts ≡ true → length es ≡ 1
one-confirm n parts es t rows puts k = grind (arith, nat_tests)

pub within-confirm : (n : ℕ) (parts : List RowPart) (es : List Errand) (t : Taken) (rows : List Row) (puts : Puts) → is_kept Confirm n parts (length es) t rows puts ≡ true → length rows < length t.before
within-confirm n parts es t rows puts k = grind (arith, nat_tests)

pub one-put : (m : Number) (row n : ℕ) (parts : List RowPart) (es : List Errand) (t : Taken) (rows : List Row) (puts : Puts) → is_kept (PutParity m row) n parts (length es) t rows puts ≡ true → length es ≡ 1
one-put m row n parts es t rows puts k = grind (arith, nat_tests)

pub within-put : (m : Number) (row n : ℕ) (parts : List RowPart) (es : List Errand) (t : Taken) (rows : List Row) (puts : Puts) → is_kept (PutParity m row) n parts (length es) t rows puts ≡ true → row < length rows
within-put m row n parts es t rows puts k = grind (arith, nat_tests)

pub within-data : (m : Number) (row n : ℕ) (parts : List RowPart) (es : List Errand) (t : Taken) (rows : List Row) (puts : Puts) → is_kept (PutData m row) n parts (length es) t rows puts ≡ true → row < length rows
within-data m row n parts es t rows puts k = grind (arith, nat_tests)

pub some-data : (m : Number) (row n : ℕ) (parts : List RowPart) (es : List Errand) (t : Taken) (rows : List Row) (puts : Puts) → is_kept (PutData m row) n parts (length es) t rows puts ≡ true → 0 < length es
some-data m row n parts es t rows puts k = grind (arith, nat_tests)

pub some-small : (n : ℕ) (parts : List RowPart) (es : List Errand) (t : Taken) (rows : List Row) (puts : Puts) → is_kept ClaimSmall n parts (length es) t rows puts ≡ true → 0 < length es
some-small n parts es t rows puts k = grind (arith, nat_tests)

pub some-parts : (n : ℕ) (parts : List RowPart) → IsTrue (are_parts n parts) → 0 < length parts
some-parts n [] h = cc
some-parts n (x ∷ parts) h = omega arith

pub ruleset tries = (asks-left, has-errand)
