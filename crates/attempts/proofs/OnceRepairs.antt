-- Rebuilds and recoveries take each slot once.
use Rattle.std.proofs.Common.{ℕ, ◌≤◌, ◌==◌, Bool, true, false, if◌then◌else◌, List, [], ◌∷◌, ◌++◌, Option, Some, None, Result, Ok, Err}
use Rattle.raid_base.specs.declared.numbers.BayNo.{BayNo}
use Rattle.raid_base.specs.declared.numbers.Number.{Number}
use Rattle.raid_base.specs.declared.numbers.Spent.{Spent}
use Rattle.raid_base.specs.declared.messages.How.TheVariants.{Mend, Seize}
use Rattle.raid_base.specs.declared.messages.Grant.{Grant}
use Rattle.raid_base.specs.declared.jobs.Cause.{Cause}
use Rattle.raid_base.specs.declared.jobs.Cause.TheVariants as causes
use Rattle.raid_base.specs.declared.jobs.Ended.{Ended}
use Rattle.raid_base.specs.declared.jobs.Ended.TheVariants as ends
use Rattle.raid_base.specs.Replies.{grant_of}
use Rattle.raid_base.specs.Steps.{Walk, Through, Stopped}
use Rattle.stripe_layout.specs.Placement.{parity_bay, bays_of, units, parity_first}
use Rattle.attempts.specs.declared.Repair.{Repair}
use Rattle.attempts.specs.declared.Rescue.{Rescue}
use Rattle.attempts.specs.declared.Hold.{Hold}
use Rattle.attempts.specs.Taking.{Row, no_rows, Taken, begun, with_parity, with_wanted, taking, why, claim, confirm}
use Rattle.attempts.specs.Releases.{end_as, released_steps, parity_granted}
use Rattle.attempts.specs.Puts.{put}
use Rattle.attempts.specs.Mending.{mending, with_hold, mend_why, mend_releases, without_target, mended_cell, put_cause, mend_putting, mend_put, mend_numbered, mend_drawn, is_shown, mend_confirmed, mend_confirming, mend_claimed, mend_steps}
use Rattle.attempts.specs.Recovery.{whole_part, unseized_data, granted_data, unseized_parity, give_back, recover_refused, Verdict, Leaves, Sums, verdict, recovered_parity, recover_putting, closing, recover_put, recover_by, recover_drawn, recover_confirmed, recover_confirming, units_seized, seize_units, parity_taken, parity_seized, recover_steps}
use Rattle.attempts.specs.Phases.{Slot}
use Rattle.attempts.specs.Once.{Once}
use Rattle.attempts.proofs.PhaseLemmas.{any}
use Rattle.attempts.proofs.OnceLemmas.{others-none, units-apart, parity-units, Stands, go-later, begin-only, claim-takes, once-take, idle-releases, once-idle, once-released}

-- Rebuilds
module _ (m : Repair) where
  module _ (slots : List Slot) where
    mend-released : (holds : List Hold) (ended : Ended) → Once slots (released_steps (mend_releases m holds) ended)
    mend-released holds ended = once-released slots (mend_releases m holds) ended (idle-releases m.id m.row None _)

    mend-puts : (holds : List Hold) (walk : Walk (Unit {0})) → Once slots (mend_put m holds walk)
    mend-puts holds (Through u) = mend-released (without_target m holds) ends.Mended
    mend-puts holds (Stopped u e r) = mend-released holds (ends.Refused (put_cause m.row e r))

    mends-numbered : (holds : List Hold) (n : Number) (shown : Bool) → Once slots (mend_numbered m holds n shown)
    mends-numbered holds n true = mend-released holds ends.Mended
    mends-numbered holds n false = once-idle slots mend_putting (mend_put m holds) (mend-puts holds) (put m.id m.row n (mended_cell m holds) m.target ∷ []) (tt, tt) tt

    mends-drawn : (holds : List Hold) (d : Result Number Spent) → Once slots (mend_drawn m holds d)
    mends-drawn holds (Err spent) = mend-released holds (ends.Refused (causes.Spent spent.seen))
    mends-drawn holds (Ok n) = mends-numbered holds n (is_shown m.target holds)

    mends-confirmed : (holds : List Hold) (walk : Walk (Unit {0})) → Once slots (mend_confirmed m holds walk)
    mends-confirmed holds (Stopped u e r) = mend-released holds (ends.Refused (mend_why e r (causes.Changed m.row)))
    mends-confirmed holds (Through u) = mends-drawn holds

    mends-claimed : (walk : Walk (List Hold)) → Once slots (mend_claimed m walk)
    mends-claimed (Stopped holds e r) = mend-released (with_hold holds e.bay (grant_of r)) (ends.Refused (mend_why e r (causes.Gone e.bay)))
    mends-claimed (Through holds) =
        once-idle slots mend_confirming (mend_confirmed m holds) (mends-confirmed holds) (confirm m.id m.row false (parity_bay m.n m.row) ∷ []) (tt, tt) tt

  pub mends-once : 3 ≤ m.n → Once [] (mend_steps m)
  mends-once least =
      once-take (λ (holds : List Hold). Unit {0}) [] m.row [] (claim m.id m.row Mend 0 true) (claim-takes m.id m.row Mend 0 true) (mending m) (mend_claimed m)
      (λ holds e r u. any ((mending m).step holds e r))
      (λ slots holds u s. mends-claimed slots (Through holds))
      (λ now slots holds bay r u s. mends-claimed slots (Stopped holds (claim m.id m.row Mend 0 true bay) r))
      (parity_first m.n m.row) [] [] tt
      (begin-only m.row (parity_first m.n m.row) [] (parity-units m.n m.row least, units-apart m.n m.row least) (others-none (parity_first m.n m.row)))

-- Recoveries
module _ (r : Rescue) where
  module _ (slots : List Slot) where
    gives-back : (bays : List BayNo) (ended : Ended) → Once slots (released_steps (give_back r bays) ended)
    gives-back bays ended = once-released slots (give_back r bays) ended (idle-releases r.id r.row None bays)

    recover-refuses : (row : Row) (cause : Cause) → Once slots (recover_refused r row cause)
    recover-refuses row cause = gives-back (unseized_data r row ++ unseized_parity r row.parity) (ends.Refused cause)

    recover-puts : (n : Number) (row : Row) (lost : Option ℕ) (walk : Walk (Unit {0})) → Once slots (recover_put r row n lost walk)
    recover-puts n row lost (Stopped u e reply) = gives-back (unseized_data r row) (ends.Refused (put_cause r.row e reply))
    recover-puts n row lost (Through u) =
        once-idle slots (closing n lost) (end_as (ends.Recovered n true lost)) (λ walk. tt) (give_back r (granted_data r row))
        (idle-releases r.id r.row None (granted_data r row)) tt

    recovers-by : (n : Number) (row : Row) (v : Verdict) → Once slots (recover_by r row n v)
    recovers-by n row Leaves = gives-back (granted_data r row ++ parity_granted r.n r.row row.parity) (ends.Recovered n true None)
    recovers-by n row (Sums lost) =
        once-idle slots (recover_putting r lost) (recover_put r row n lost) (recover-puts n row lost)
        (put r.id r.row n (recovered_parity row lost) (parity_bay r.n r.row) ∷ []) (tt, tt) tt

    recovers-drawn : (row : Row) (d : Result Number Spent) → Once slots (recover_drawn r row d)
    recovers-drawn row (Err spent) = recover-refuses row (causes.Spent spent.seen)
    recovers-drawn row (Ok n) = recovers-by n row (verdict r row)

    recovers-confirmed : (taken : Taken) (walk : Walk (Unit {0})) → Once slots (recover_confirmed r taken walk)
    recovers-confirmed taken (Stopped u e reply) = recover-refuses taken.row _
    recovers-confirmed taken (Through u) = recovers-drawn taken.row

    seized : (walk : Walk Taken) → Once slots (units_seized r walk)
    seized (Stopped taken e reply) = recover-refuses taken.row (why None taken e reply)
    seized (Through taken) =
        once-idle slots (recover_confirming taken) (recover_confirmed r taken) (recovers-confirmed taken)
        (confirm r.id r.row false (parity_bay r.n r.row) ∷ []) (tt, tt) tt

  -- the parity's slot, and then those of the units
  module _ (least : 3 ≤ r.n) where
    abbrev data_bays : List BayNo
    data_bays = bays_of r.n r.row (units r.n)

    seizes : (slots : List Slot) (taken : Taken) → Stands [] r.row [] data_bays slots → Once slots (seize_units r taken)
    seizes slots taken s =
        once-take (λ (t : Taken). Unit {0}) [] r.row [] (claim r.id r.row Seize 0 true) (claim-takes r.id r.row Seize 0 true) (taking None with_wanted) (units_seized r)
        (λ t e reply u. any ((taking None with_wanted).step t e reply))
        (λ slots t u s. seized slots (Through t))
        (λ now slots t bay reply u s. seized slots (Stopped t (claim r.id r.row Seize 0 true bay) reply))
        data_bays slots taken tt (go-later [] r.row [] data_bays slots (units-apart r.n r.row least) s)

    lacking : (slots : List Slot) (taken : Taken) → Stands [] r.row [] data_bays slots → (operator : Bool)
        → Once slots (if operator then seize_units r taken else recover_refused r taken.row (causes.Gone (parity_bay r.n r.row)))
    lacking slots taken s true = seizes slots taken s
    lacking slots taken s false = recover-refuses slots taken.row (causes.Gone (parity_bay r.n r.row))

    takes-parity : (slots : List Slot) (taken : Taken) → Stands [] r.row [] data_bays slots → (grant : Option Grant) → Once slots (parity_taken r taken grant)
    takes-parity slots taken s (Some grant) = seizes slots taken s
    takes-parity slots taken s None = lacking slots taken s (r.host.0 == 0)

    recovers-once : Once [] (recover_steps r)
    recovers-once =
        once-take (λ (t : Taken). Unit {0}) [] r.row data_bays (claim r.id r.row Seize 0 true) (claim-takes r.id r.row Seize 0 true) (taking None with_parity) (parity_seized r)
        (λ t e reply u. any ((taking None with_parity).step t e reply))
        (λ slots t u s. takes-parity slots t s t.row.parity)
        (λ now slots t bay reply u s. recover-refuses slots t.row (why None t (claim r.id r.row Seize 0 true bay) reply))
        (parity_bay r.n r.row ∷ []) [] (begun (whole_part r) no_rows) tt
        (begin-only r.row (parity_bay r.n r.row ∷ []) data_bays (tt, tt) (parity-units r.n r.row least, tt))

pub recoveries-once : (r : Rescue) → 3 ≤ r.n → Once [] (recover_steps r)
recoveries-once r least = recovers-once r least
