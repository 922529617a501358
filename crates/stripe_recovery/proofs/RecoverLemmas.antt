-- What a reply leaves of a recovery.
use Rattle.std.proofs.Common.{◌≡◌, ◌<◌, ◌++◌, ◌==◌, ◌&&◌, nat_le, ℕ, List, [], ◌∷◌, Bool, true, false, if◌then◌else◌, Option, Some, None, IsSome, slice_get, unwrap_or, length, drop, Result, Ok, Err, refl, ap, sym, ◌∙◌, arith}
use Rattle.std.proofs.lemmas.Bool.Decides.{nat_tests}
use Rattle.raid_base.specs.declared.numbers.HostNo.{HostNo}
use Rattle.raid_base.specs.declared.numbers.Number.{Number}
use Rattle.raid_base.specs.declared.numbers.Spent.{Spent}
use Rattle.raid_base.specs.declared.jobs.Cause.TheVariants as causes
use Rattle.raid_base.specs.declared.jobs.Ended.{Ended}
use Rattle.raid_base.specs.declared.messages.Reply.{Reply}
use Rattle.raid_base.specs.declared.messages.Errand.{Errand}
use Rattle.raid_base.specs.First.{first_errand}
use Rattle.raid_base.specs.Replies.{grant_of, is_done}
use Rattle.raid_base.specs.Numbers.{draw, seen_drawn}
use Rattle.raid_base.specs.Steps.{Steps, Standing, next_errand, answer, stopped, draws, settled, behind, bind, Through, run}
use Rattle.raid_base.proofs.DrawLemmas.{settled-asks}
use Rattle.raid_base.proofs.RunLemmas.{behind-run-some, behind-run-last, behind-run-none}
use Rattle.attempts.specs.declared.Rescue.{Rescue}
use Rattle.attempts.specs.Taking.{Finish, Row, Taken, refusal, with_grant, with_wanted}
use Rattle.attempts.specs.Releases.{releasing, end_as}
use Rattle.attempts.specs.Recovery.{Verdict, Leaves, Sums, verdict, unseized_data, unseized_parity, granted_data, give_back, units_seized, stays, recover_confirming, recover_confirmed, recover_drawn, recover_by, recover_refused, recover_putting, recover_put, closing}
use Rattle.attempts.proofs.TakingLemmas.{taking-last}
use Rattle.stripe_recovery.specs.declared.stages.RecoverStage.{RecoverStage}
use Rattle.stripe_recovery.specs.declared.stages.RecoverStage.TheVariants.{Parity, Units, Confirming, Putting, Closing, Releasing}
use Rattle.stripe_recovery.specs.Stages.{is_kept, quit_end}
use Rattle.stripe_recovery.specs.Left.{left_of}

-- where nothing is drawn the steps stand as they are
pub stands : (host : HostNo) (seen : Number) (s s' : Steps Finish) → s' ≡ s → draws s' ≡ false → record { seen = seen; steps = s' } ≡ settled host seen s
stands host seen s s' e h = sym (settled-asks host seen s' h) ∙ ap (settled host seen) e

-- giving back draws nothing
pub draws-released : (es : List Errand) (w : Ended) → draws (bind (run releasing es tt) (end_as w)) ≡ false
draws-released [] w = refl
draws-released (x ∷ es) w = refl

pub draws-closing : (n : Number) (lost : Option ℕ) (es : List Errand) (w : Ended) → draws (bind (run (closing n lost) es tt) (end_as w)) ≡ false
draws-closing n lost [] w = refl
draws-closing n lost (x ∷ es) w = refl

-- nor does any stage
pub draws-left : (stage : RecoverStage) (r : Rescue) (t : Taken) (es : List Errand) → is_kept stage (length es) t ≡ true → draws (left_of stage r t es) ≡ false
draws-left Parity r t [] k = cc
draws-left Units r t [] k = cc
draws-left Confirming r t [] k = cc
draws-left (Putting n lost) r t [] k = cc
draws-left Parity r t (x ∷ es) k = refl
draws-left Units r t (x ∷ es) k = refl
draws-left Confirming r t (x ∷ es) k = refl
draws-left (Putting n lost) r t (x ∷ es) k = refl
draws-left (Closing n lost) r t es k = draws-closing n lost es _
draws-left (Releasing why) r t es k = draws-released es why

-- what follows the number draws no other
draws-by : (r : Rescue) (row : Row) (n : Number) (v : Verdict) → draws (recover_by r row n v) ≡ false
draws-by r row n Leaves = draws-released _ _
draws-by r row n (Sums lost) = refl

pub draws-drawn : (r : Rescue) (row : Row) (d : Result Number Spent) → draws (recover_drawn r row d) ≡ false
draws-drawn r row (Err spent) = draws-released (give_back r (unseized_data r row ++ unseized_parity r row.parity)) _
draws-drawn r row (Ok n) = draws-by r row n (verdict r row)

-- the first of the queue comes next
pub next-left : (stage : RecoverStage) (r : Rescue) (t : Taken) (es : List Errand) → is_kept stage (length es) t ≡ true → next_errand (left_of stage r t es) ≡ slice_get es 0
next-left Parity r t [] k = cc
next-left Units r t [] k = cc
next-left Confirming r t [] k = cc
next-left (Putting n lost) r t [] k = cc
next-left (Closing n lost) r t [] k = refl
next-left (Releasing why) r t [] k = refl
next-left Parity r t (x ∷ es) k = refl
next-left Units r t (x ∷ es) k = refl
next-left Confirming r t (x ∷ es) k = refl
next-left (Putting n lost) r t (x ∷ es) k = refl
next-left (Closing n lost) r t (x ∷ es) k = refl
next-left (Releasing why) r t (x ∷ es) k = refl

-- no answer while an errand is left
pub asks-left : (stage : RecoverStage) (r : Rescue) (t : Taken) (es : List Errand) → 0 < length es → answer (left_of stage r t es) ≡ None
asks-left stage r t [] h = absurd (omega arith)
asks-left Parity r t (x ∷ es) h = refl
asks-left Units r t (x ∷ es) h = refl
asks-left Confirming r t (x ∷ es) h = refl
asks-left (Putting n lost) r t (x ∷ es) h = refl
asks-left (Closing n lost) r t (x ∷ es) h = refl
asks-left (Releasing why) r t (x ∷ es) h = refl

-- an errand is left until there is an answer
pub has-errand : (stage : RecoverStage) (r : Rescue) (t : Taken) (es : List Errand) → is_kept stage (length es) t ≡ true → answer (left_of stage r t es) ≡ None → 0 < length es
has-errand stage r t (x ∷ es) k n = omega arith
has-errand Parity r t [] k n = cc
has-errand Units r t [] k n = cc
has-errand Confirming r t [] k n = cc
has-errand (Putting m lost) r t [] k n = cc
has-errand (Closing m lost) r t [] k n = cc
has-errand (Releasing why) r t [] k n = cc

pub some-first : (es : List Errand) → IsSome (slice_get es 0) → 0 < length es
some-first [] h = cc
some-first (x ∷ es) h = omega arith

pub none-first : (es : List Errand) → slice_get es 0 ≡ None → length es ≡ 0
none-first [] h = refl
none-first (x ∷ es) h = cc

-- where the host stops
pub quits-left : (stage : RecoverStage) (r : Rescue) (t : Taken) (es : List Errand) → 0 < length es → Some (quit_end stage) ≡ stopped (left_of stage r t es)
quits-left stage r t [] h = absurd (omega arith)
quits-left Parity r t (x ∷ es) h = refl
quits-left Units r t (x ∷ es) h = refl
quits-left Confirming r t (x ∷ es) h = refl
quits-left (Putting n lost) r t (x ∷ es) h = refl
quits-left (Closing n lost) r t (x ∷ es) h = refl
quits-left (Releasing why) r t (x ∷ es) h = refl

-- what the stages keep
pub some-units : (t : Taken) (es : List Errand) → is_kept Units (length es) t ≡ true → 0 < length es
some-units t [] k = cc
some-units t (x ∷ es) k = omega arith

is-one : (n : ℕ) (b : Bool) → ((n == 1) && b) ≡ true → n ≡ 1
is-one n b h = grind (arith, nat_tests)

pub one-confirm : (t : Taken) (es : List Errand) → is_kept Confirming (length es) t ≡ true → length es ≡ 1
one-confirm t es k = is-one (length es) (nat_le (length t.row.wanted) 16) k

pub one-put : (n : Number) (lost : Option ℕ) (t : Taken) (es : List Errand) → is_kept (Putting n lost) (length es) t ≡ true → length es ≡ 1
one-put n lost t es k = grind (arith, nat_tests)

-- the claim of the last unit
pub unit-last : (r : Rescue) (t t' : Taken) (es : List Errand) (rep : Reply) (s' : Steps Finish)
    → length es ≡ 1 → refusal None t.missing (first_errand es).bay rep ≡ None → t' ≡ with_grant with_wanted t (first_errand es).bay (grant_of rep)
    → s' ≡ units_seized r (Through t') → s' ≡ behind (left_of Units r t es) rep
unit-last r t t' es rep s' one why kept e =
    e ∙ ap (λ u. units_seized r (Through u)) kept ∙ sym (taking-last None with_wanted es t (units_seized r) rep one why)

-- the parity is as before, and the number is drawn
abbrev at : Number → Steps Finish → Standing Finish
at seen steps = record { seen = seen; steps = steps }

pub settled-confirm : (host : HostNo) (seen seen' : Number) (r : Rescue) (t : Taken) (es : List Errand) (rep : Reply) (d : Result Number Spent) (s' : Steps Finish)
    → length es ≡ 1 → stays t (first_errand es).bay rep ≡ true → d ≡ draw host seen → seen' ≡ seen_drawn seen (draw host seen) → s' ≡ recover_drawn r t.row d
    → record { seen = seen'; steps = s' } ≡ settled host seen (behind (left_of Confirming r t es) rep)
settled-confirm host seen seen' r t es rep d s' one same is new e =
    let u : Unit {0} = tt in
    let n = draw host seen in
    ap (at seen') (e ∙ ap (recover_drawn r t.row) is)
    ∙ ap (λ x. at x (recover_drawn r t.row n)) new
    ∙ sym (settled-asks host (seen_drawn seen n) (recover_drawn r t.row n) (draws-drawn r t.row n))
    ∙ ap (settled host seen)
    (sym (behind-run-last (recover_confirming t) es u (recover_confirmed r t) rep u one (ap (λ b. if b then Some u else None) same)))

-- or not
pub confirm-refused : (r : Rescue) (t : Taken) (es : List Errand) (rep : Reply) (s' : Steps Finish)
    → 0 < length es → stays t (first_errand es).bay rep ≡ false
    → s' ≡ recover_refused r t.row (unwrap_or (refusal None t.missing (first_errand es).bay rep) (causes.Changed r.row)) → s' ≡ behind (left_of Confirming r t es) rep
confirm-refused r t es rep s' some other e =
    let u : Unit {0} = tt in
    let none : Option (Unit {0}) = None in
    e ∙ sym (behind-run-none (recover_confirming t) es u (recover_confirmed r t) rep some (ap (λ b. if b then Some u else none) other))

-- the put
pub put-done : (r : Rescue) (t : Taken) (n : Number) (lost : Option ℕ) (es es' : List Errand) (rep : Reply)
    → length es ≡ 1 → is_done rep ≡ true → es' ≡ give_back r (granted_data r t.row) → left_of (Closing n lost) r t es' ≡ behind (left_of (Putting n lost) r t es) rep
put-done r t n lost es es' rep one done e =
    let u : Unit {0} = tt in
    ap (left_of (Closing n lost) r t) e
    ∙ sym (behind-run-last (recover_putting r lost) es u (recover_put r t.row n lost) rep u one (ap (λ b. if b then Some u else None) done))

-- releases that are done
pub released-left : (r : Rescue) (t : Taken) (why : Ended) (es es' : List Errand) (rep : Reply) → 0 < length es → es' ≡ drop 1 es
    → left_of (Releasing why) r t es' ≡ behind (left_of (Releasing why) r t es) rep
released-left r t why es es' rep some e =
    ap (λ xs. left_of (Releasing why) r t xs) e ∙ sym (behind-run-some releasing es tt (end_as why) rep tt some refl)

pub closed-left : (r : Rescue) (t : Taken) (n : Number) (lost : Option ℕ) (es es' : List Errand) (rep : Reply) → 0 < length es → es' ≡ drop 1 es
    → left_of (Closing n lost) r t es' ≡ behind (left_of (Closing n lost) r t es) rep
closed-left r t n lost es es' rep some e =
    ap (λ xs. left_of (Closing n lost) r t xs) e ∙ sym (behind-run-some (closing n lost) es tt (end_as _) rep tt some refl)
