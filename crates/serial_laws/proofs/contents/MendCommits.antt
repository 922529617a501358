-- A rebuild commits nothing.
use Rattle.std.proofs.Common.{◌≡◌, refl, subst, Bool, true, false, List, [], ◌∷◌, Option, Some, None, Result, Ok, Err}
use Rattle.raid_base.specs.declared.numbers.BayNo.{BayNo}
use Rattle.raid_base.specs.declared.numbers.HostNo.{HostNo}
use Rattle.raid_base.specs.declared.numbers.Number.{Number}
use Rattle.raid_base.specs.declared.numbers.Spent.{Spent}
use Rattle.raid_base.specs.declared.messages.How.TheVariants.{Mend}
use Rattle.raid_base.specs.declared.messages.Call.{Call}
use Rattle.raid_base.specs.declared.messages.Errand.{Errand}
use Rattle.raid_base.specs.declared.messages.Reply.{Reply}
use Rattle.raid_base.specs.declared.jobs.Cause.TheVariants as causes
use Rattle.raid_base.specs.declared.jobs.Ended.{Ended}
use Rattle.raid_base.specs.declared.jobs.Ended.TheVariants as ends
use Rattle.raid_base.specs.declared.jobs.Task.{Task}
use Rattle.raid_base.specs.declared.jobs.Task.TheVariants as tasks
use Rattle.raid_base.specs.Numbers.{draw, seen_drawn, sees}
use Rattle.raid_base.specs.Replies.{grant_of}
use Rattle.raid_base.specs.Steps.{Steps, Asks, Draws, Ends, Standing, bind, go_on, Walk, Through, Stopped, Phase, run, settled, behind, commits_next}
use Rattle.stripe_layout.specs.Placement.{parity_bay, parity_first}
use Rattle.attempts.specs.declared.Repair.{Repair}
use Rattle.attempts.specs.declared.Hold.{Hold}
use Rattle.attempts.specs.Taking.{Finish, claims, confirm}
use Rattle.attempts.specs.Releases.{releasing, end_as, released_steps}
use Rattle.attempts.specs.Puts.{put}
use Rattle.attempts.specs.Mending.{mending, with_hold, mend_why, mend_releases, without_target, mended_cell, put_cause, mend_putting, mend_put, mend_numbered, mend_drawn, is_shown, mend_confirmed, mend_confirming, mend_claimed, mend_steps}
use Rattle.script_text.specs.Script.{Script}
use Rattle.histories.specs.Hands.{Led}
use Rattle.histories.specs.Progress.{Progress, attempt}
use Rattle.histories.specs.History.{progress_at}
use Rattle.row_laws.specs.Hands.{HasHand}

abbrev CommitsNothing : Steps Finish → Type 0
CommitsNothing (Ends f) = Unit {0}
CommitsNothing (Draws k) = (d : Result Number Spent) → CommitsNothing (k d)
CommitsNothing (Asks e s c k) = (c ≡ []) × ((r : Reply) → CommitsNothing (k r))

-- Walks
settled-nothing : (host : HostNo) (seen : Number) (s : Steps Finish) → CommitsNothing s → CommitsNothing (settled host seen s).steps
settled-nothing host seen (Asks e t c k) h = h
settled-nothing host seen (Draws k) h = settled-nothing host (seen_drawn seen (draw host seen)) (k (draw host seen)) (h (draw host seen))
settled-nothing host seen (Ends f) h = h

behind-nothing : (s : Steps Finish) (r : Reply) → CommitsNothing s → CommitsNothing (behind s r)
behind-nothing (Asks e t c k) r h = h.1 r
behind-nothing (Draws k) r h = h
behind-nothing (Ends f) r h = h

next-nothing : (s : Steps Finish) → CommitsNothing s → commits_next s ≡ []
next-nothing (Asks e t c k) h = h.0
next-nothing (Draws k) h = refl
next-nothing (Ends f) h = refl

led-nothing : (host : HostNo) (start : Standing Finish) (calls : List Call) (now : Standing Finish) → CommitsNothing start.steps → Led host start calls now → CommitsNothing now.steps
led-nothing host start [] now h led = subst (λ (x : Standing Finish). CommitsNothing x.steps) led h
led-nothing host start (call ∷ earlier) now h (before, led, asked, fit, later) =
    subst (λ (x : Standing Finish). CommitsNothing x.steps) later
    (settled-nothing host (sees before.seen call.answer.reply) (behind before.steps call.answer.reply)
    (behind-nothing before.steps call.answer.reply (led-nothing host start earlier before h led)))

module _ {A : Type 0} where
  nothing-go : (o : Option A) (g : A → Steps (Walk A)) (s : Steps (Walk A)) (f : Walk A → Steps Finish)
      → ((a : A) → CommitsNothing (bind (g a) f)) → CommitsNothing (bind s f) → CommitsNothing (bind (go_on o g s) f)
  nothing-go (Some a) g s f on off = on a
  nothing-go None g s f on off = off

  nothing-run : (phase : Phase A) (f : Walk A → Steps Finish) → ((walk : Walk A) → CommitsNothing (f walk)) → ((a : A) (e : Errand) → phase.commits a e ≡ [])
      → (es : List Errand) (a : A) → CommitsNothing (bind (run phase es a) f)
  nothing-run phase f on none [] a = on (Through a)
  nothing-run phase f on none (e ∷ es) a =
      (none a e, λ r. nothing-go (phase.step a e r) (λ b. run phase es b) (Ends (Stopped a e r)) f (λ b. nothing-run phase f on none es b) (on (Stopped a e r)))

-- Rebuilds
module _ (m : Repair) where
  released : (errands : List Errand) (ended : Ended) → CommitsNothing (released_steps errands ended)
  released errands ended = nothing-run releasing (end_as ended) (λ walk. tt) (λ u e. refl) errands tt

  puts : (holds : List Hold) (walk : Walk (Unit {0})) → CommitsNothing (mend_put m holds walk)
  puts holds (Through u) = released (mend_releases m (without_target m holds)) ends.Mended
  puts holds (Stopped u e r) = released (mend_releases m holds) (ends.Refused (put_cause m.row e r))

  has-number : (holds : List Hold) (n : Number) (shown : Bool) → CommitsNothing (mend_numbered m holds n shown)
  has-number holds n true = released (mend_releases m holds) ends.Mended
  has-number holds n false = nothing-run mend_putting (mend_put m holds) (puts holds) (λ u e. refl) (put m.id m.row n (mended_cell m holds) m.target ∷ []) tt

  has-drawn : (holds : List Hold) (d : Result Number Spent) → CommitsNothing (mend_drawn m holds d)
  has-drawn holds (Err spent) = released (mend_releases m holds) (ends.Refused (causes.Spent spent.seen))
  has-drawn holds (Ok n) = has-number holds n (is_shown m.target holds)

  has-confirmed : (holds : List Hold) (walk : Walk (Unit {0})) → CommitsNothing (mend_confirmed m holds walk)
  has-confirmed holds (Stopped u e r) = released (mend_releases m holds) (ends.Refused (mend_why e r (causes.Changed m.row)))
  has-confirmed holds (Through u) = λ d. has-drawn holds d

  has-claimed : (walk : Walk (List Hold)) → CommitsNothing (mend_claimed m walk)
  has-claimed (Stopped holds e r) = released (mend_releases m (with_hold holds e.bay (grant_of r))) (ends.Refused (mend_why e r (causes.Gone e.bay)))
  has-claimed (Through holds) = nothing-run mend_confirming (mend_confirmed m holds) (has-confirmed holds) (λ u e. refl) (confirm m.id m.row false (parity_bay m.n m.row) ∷ []) tt

  mends-nothing : CommitsNothing (mend_steps m)
  mends-nothing = nothing-run (mending m) (mend_claimed m) has-claimed (λ h e. refl) (claims m.id m.row Mend true (parity_first m.n m.row)) []

-- with any of its calls
pub rebuild-commits : (script : Script) (history : List Call) (host : HostNo) (steps : Steps Finish) (h : HasHand script history host steps) (bay : BayNo) → h.hand.task ≡ tasks.Rebuild bay → commits_next steps ≡ []
rebuild-commits script history host steps h bay task =
    let p : Progress = progress_at script host history in
    let now : Standing Finish = record { seen = p.seen; steps = steps } in
    let s : Steps Finish = attempt script host h.hand.id p.row (tasks.Rebuild bay) in
    let led : Led host (settled host h.hand.id s) p.calls now =
    subst (λ (t : Task). Led host (settled host h.hand.id (attempt script host h.hand.id p.row t)) p.calls now) task h.hand.led in
    let first : CommitsNothing (settled host h.hand.id s).steps = settled-nothing host h.hand.id s (mends-nothing (record { n = script.n; id = h.hand.id; row = record { 0 = p.row }; target = bay })) in
    next-nothing steps (led-nothing host (settled host h.hand.id s) p.calls now first led)
