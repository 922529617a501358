-- What a reply leaves of a rebuild.
use Rattle.std.proofs.Common.{◌≡◌, ◌<◌, ℕ, List, [], ◌∷◌, Bool, true, false, Some, None, IsSome, option_map, ◌++◌, if◌then◌else◌, slice_get, length, drop, Result, Ok, Err, refl, ap, sym, ◌∙◌, arith}
use Rattle.std.proofs.lemmas.Bool.Decides.{nat_tests}
use Rattle.raid_base.specs.declared.numbers.HostNo.{HostNo}
use Rattle.raid_base.specs.declared.numbers.Number.{Number}
use Rattle.raid_base.specs.declared.numbers.Spent.{Spent}
use Rattle.raid_base.specs.declared.jobs.Ended.{Ended}
use Rattle.raid_base.specs.declared.jobs.Ended.TheVariants.{Refused}
use Rattle.raid_base.specs.declared.jobs.Cause.TheVariants.{Quit}
use Rattle.raid_base.specs.declared.messages.Reply.{Reply}
use Rattle.raid_base.specs.declared.messages.Errand.{Errand}
use Rattle.raid_base.specs.First.{first_errand}
use Rattle.raid_base.specs.Replies.{is_held, is_done}
use Rattle.raid_base.specs.Numbers.{draw, seen_drawn}
use Rattle.raid_base.specs.Steps.{Steps, Standing, next_errand, answer, stopped, draws, settled, behind, bind, Through, run}
use Rattle.raid_base.proofs.DrawLemmas.{draws-run, settled-asks, settled-draws}
use Rattle.raid_base.proofs.RunLemmas.{behind-run-some, behind-run-last, behind-run-none}
use Rattle.attempts.specs.declared.Repair.{Repair}
use Rattle.attempts.specs.declared.Hold.{Hold}
use Rattle.attempts.specs.Taking.{Finish}
use Rattle.attempts.specs.Releases.{releasing, end_as}
use Rattle.attempts.specs.Mending.{hold_of, mending, mend_claimed, is_shown, mend_releases, mend_confirming, mend_confirmed, mend_drawn, mend_putting, mend_put}
use Rattle.rebuild_txn.specs.declared.stages.MendStage.{MendStage}
use Rattle.rebuild_txn.specs.declared.stages.MendStage.TheVariants.{Claiming, Confirming, Putting, Releasing}
use Rattle.rebuild_txn.specs.Stages.{is_kept}
use Rattle.rebuild_txn.specs.Left.{left_of}

-- where nothing is drawn the steps stand as they are
pub stands : (host : HostNo) (seen : Number) (s s' : Steps Finish) → s' ≡ s → draws s' ≡ false → record { seen = seen; steps = s' } ≡ settled host seen s
stands host seen s s' e h = sym (settled-asks host seen s' h) ∙ ap (settled host seen) e

-- giving back draws nothing
pub draws-released : (es : List Errand) (w : Ended) → draws (bind (run releasing es tt) (end_as w)) ≡ false
draws-released [] w = refl
draws-released (x ∷ es) w = refl

-- nor does any stage
pub draws-left : (stage : MendStage) (m : Repair) (holds : List Hold) (es : List Errand) (held : ℕ) → is_kept stage (length es) held ≡ true
    → draws (left_of stage m holds es) ≡ false
draws-left Claiming m holds [] held k = cc
draws-left Confirming m holds [] held k = cc
draws-left Putting m holds [] held k = cc
draws-left Claiming m holds (x ∷ es) held k = refl
draws-left Confirming m holds (x ∷ es) held k = refl
draws-left Putting m holds (x ∷ es) held k = refl
draws-left (Releasing why) m holds es held k = draws-released es why

-- what follows the number draws no other
pub draws-drawn : (m : Repair) (holds : List Hold) (d : Result Number Spent) → draws (mend_drawn m holds d) ≡ false
draws-drawn m holds (Err spent) = draws-released (mend_releases m holds) _
draws-drawn m holds (Ok n) = numbered (is_shown m.target holds) refl where
  numbered : (b : Bool) → is_shown m.target holds ≡ b → draws (mend_drawn m holds (Ok n)) ≡ false
  numbered true h = rw h (draws-released (mend_releases m holds) _)
  numbered false h = rw h refl

-- the first of the queue comes next
pub next-left : (stage : MendStage) (m : Repair) (holds : List Hold) (es : List Errand) (held : ℕ) → is_kept stage (length es) held ≡ true
    → next_errand (left_of stage m holds es) ≡ slice_get es 0
next-left Claiming m holds [] held k = cc
next-left Confirming m holds [] held k = cc
next-left Putting m holds [] held k = cc
next-left (Releasing why) m holds [] held k = refl
next-left Claiming m holds (x ∷ es) held k = refl
next-left Confirming m holds (x ∷ es) held k = refl
next-left Putting m holds (x ∷ es) held k = refl
next-left (Releasing why) m holds (x ∷ es) held k = refl

-- no answer while an errand is left
pub asks-left : (stage : MendStage) (m : Repair) (holds : List Hold) (es : List Errand) → 0 < length es → answer (left_of stage m holds es) ≡ None
asks-left stage m holds [] h = absurd (omega arith)
asks-left Claiming m holds (x ∷ es) h = refl
asks-left Confirming m holds (x ∷ es) h = refl
asks-left Putting m holds (x ∷ es) h = refl
asks-left (Releasing why) m holds (x ∷ es) h = refl

-- an errand is left until there is an answer
pub has-errand : (stage : MendStage) (m : Repair) (holds : List Hold) (es : List Errand) (held : ℕ) → is_kept stage (length es) held ≡ true
    → answer (left_of stage m holds es) ≡ None → 0 < length es
has-errand stage m holds (x ∷ es) held k n = omega arith
has-errand Claiming m holds [] held k n = cc
has-errand Confirming m holds [] held k n = cc
has-errand Putting m holds [] held k n = cc
has-errand (Releasing why) m holds [] held k n = cc

pub some-first : (es : List Errand) → IsSome (slice_get es 0) → 0 < length es
some-first [] h = cc
some-first (x ∷ es) h = omega arith

pub none-first : (es : List Errand) → slice_get es 0 ≡ None → length es ≡ 0
none-first [] h = refl
none-first (x ∷ es) h = cc

-- where the host stops
pub quits-left : (stage : MendStage) (m : Repair) (holds : List Hold) (es : List Errand) → 0 < length es → Some (Refused Quit) ≡ stopped (left_of stage m holds es)
quits-left stage m holds [] h = absurd (omega arith)
quits-left Claiming m holds (x ∷ es) h = refl
quits-left Confirming m holds (x ∷ es) h = refl
quits-left Putting m holds (x ∷ es) h = refl
quits-left (Releasing why) m holds (x ∷ es) h = refl

-- releases that are done
pub released-left : (m : Repair) (holds : List Hold) (why : Ended) (es es' : List Errand) (r : Reply) → 0 < length es → es' ≡ drop 1 es
    → left_of (Releasing why) m holds es' ≡ behind (left_of (Releasing why) m holds es) r
released-left m holds why es es' r some e =
    ap (λ xs. left_of (Releasing why) m holds xs) e ∙ sym (behind-run-some releasing es tt (end_as why) r tt some refl)

pub ruleset confirms = (settled-asks, settled-draws, draws-drawn, draws-released, behind-run-last, behind-run-none)

-- what each stage keeps
pub some-claims : (es : List Errand) (held : ℕ) → is_kept Claiming (length es) held ≡ true → 0 < length es
some-claims [] held k = cc
some-claims (x ∷ es) held k = omega arith

pub one-confirm : (es : List Errand) (held : ℕ) → is_kept Confirming (length es) held ≡ true → length es ≡ 1
one-confirm es held k = grind (arith, nat_tests)

-- the last claim is kept
pub claim-last : (m : Repair) (hs : List Hold) (es : List Errand) (r : Reply) (h : Hold) → length es ≡ 1 → hold_of m (first_errand es).bay r ≡ Some h
    → behind (left_of Claiming m hs es) r ≡ mend_claimed m (Through (hs ++ h ∷ []))
claim-last m hs es r h one e =
    behind-run-last (mending m) es hs (mend_claimed m) r (hs ++ h ∷ []) one (ap (option_map (λ (h : Hold). hs ++ h ∷ [])) e)

-- the note is held, and the number is drawn
abbrev at : Number → Steps Finish → Standing Finish
at seen steps = record { seen = seen; steps = steps }

pub settled-confirm : (host : HostNo) (seen seen' : Number) (m : Repair) (hs : List Hold) (es : List Errand) (r : Reply) (d : Result Number Spent) (s' : Steps Finish)
    → length es ≡ 1 → is_held r ≡ true → d ≡ draw host seen → seen' ≡ seen_drawn seen (draw host seen) → s' ≡ mend_drawn m hs d
    → record { seen = seen'; steps = s' } ≡ settled host seen (behind (left_of Confirming m hs es) r)
settled-confirm host seen seen' m hs es r d s' one held is new e =
    let u : Unit {0} = tt in
    let n = draw host seen in
    ap (at seen') (e ∙ ap (mend_drawn m hs) is)
    ∙ ap (λ x. at x (mend_drawn m hs n)) new
    ∙ sym (settled-asks host (seen_drawn seen n) (mend_drawn m hs n) (draws-drawn m hs n))
    ∙ ap (settled host seen)
    (sym (behind-run-last mend_confirming es u (mend_confirmed m hs) r u one (ap (λ b. if b then Some u else None) held)))

-- the put is done
pub put-done : (m : Repair) (hs : List Hold) (es : List Errand) (r : Reply) → length es ≡ 1 → is_done r ≡ true
    → behind (left_of Putting m hs es) r ≡ mend_put m hs (Through tt)
put-done m hs es r one done =
    let u : Unit {0} = tt in
    behind-run-last mend_putting es u (mend_put m hs) r u one (ap (λ b. if b then Some u else None) done)

pub one-put : (es : List Errand) (held : ℕ) → is_kept Putting (length es) held ≡ true → length es ≡ 1
one-put es held k = grind (arith, nat_tests)
