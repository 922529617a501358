-- How rebuilds and recoveries end.
use Rattle.std.proofs.Common.{◌==◌, refl, ℕ, Bool, true, false, if◌then◌else◌, List, [], ◌∷◌, ◌++◌, Option, Some, None, Result, Ok, Err}
use Rattle.raid_base.specs.declared.numbers.Number.{Number}
use Rattle.raid_base.specs.declared.numbers.Spent.{Spent}
use Rattle.raid_base.specs.declared.messages.Errand.{Errand}
use Rattle.raid_base.specs.declared.messages.Grant.{Grant}
use Rattle.raid_base.specs.declared.messages.How.TheVariants.{Mend, Seize}
use Rattle.raid_base.specs.declared.jobs.Cause.{Cause}
use Rattle.raid_base.specs.declared.jobs.Cause.TheVariants as causes
use Rattle.raid_base.specs.declared.jobs.Ended.{Ended}
use Rattle.raid_base.specs.declared.jobs.Ended.TheVariants as ends
use Rattle.raid_base.specs.Replies.{grant_of}
use Rattle.raid_base.specs.Steps.{Walk, Through, Stopped}
use Rattle.stripe_layout.specs.Placement.{parity_bay, bays_of, units, parity_first}
use Rattle.attempts.specs.declared.Repair.{Repair}
use Rattle.attempts.specs.declared.Rescue.{Rescue}
use Rattle.attempts.specs.declared.Hold.{Hold}
use Rattle.attempts.specs.Taking.{Row, no_rows, Taken, begun, with_parity, with_wanted, taking, why, claim, claims, confirm}
use Rattle.attempts.specs.Releases.{releasing, end_as, released_steps, refused_steps, parity_granted}
use Rattle.attempts.specs.Puts.{put}
use Rattle.attempts.specs.Mending.{mending, with_hold, mend_why, mend_releases, without_target, mended_cell, put_cause, mend_putting, mend_put, mend_numbered, is_shown, mend_drawn, mend_confirmed, mend_confirming, mend_claimed, mend_steps}
use Rattle.attempts.specs.Recovery.{whole_part, unseized_data, granted_data, give_back, recover_refused, Verdict, Leaves, Sums, verdict, recovered_parity, recover_putting, closing, recover_put, recover_by, recover_drawn, recover_confirmed, recover_confirming, units_seized, seize_units, parity_taken, parity_seized, recover_steps}
use Rattle.attempts.specs.Finishes.{IsNoRead, GivesNone, Finishes}
use Rattle.attempts.proofs.FinishLemmas.{finishes-run}

released-ends : (es : List Errand) (ended : Ended) → IsNoRead ended → Finishes GivesNone (released_steps es ended)
released-ends es ended none = finishes-run GivesNone releasing (end_as ended) (λ u. tt) (λ walk. record { ended = none; contents = refl }) es tt

refused-ends : (es : List Errand) (cause : Cause) → Finishes GivesNone (refused_steps es cause)
refused-ends es cause = released-ends es (ends.Refused cause) tt

module _ (m : Repair) where
  put-ends : (holds : List Hold) (walk : Walk (Unit {0})) → Finishes GivesNone (mend_put m holds walk)
  put-ends holds (Through u) = released-ends (mend_releases m (without_target m holds)) ends.Mended tt
  put-ends holds (Stopped u e r) = refused-ends (mend_releases m holds) (put_cause m.row e r)

  numbered-ends : (holds : List Hold) (n : Number) (shown : Bool) → Finishes GivesNone (mend_numbered m holds n shown)
  numbered-ends holds n true = released-ends (mend_releases m holds) ends.Mended tt
  numbered-ends holds n false = finishes-run GivesNone mend_putting (mend_put m holds) (λ u. tt) (put-ends holds) (put m.id m.row n (mended_cell m holds) m.target ∷ []) tt

  drawn-ends : (holds : List Hold) (d : Result Number Spent) → Finishes GivesNone (mend_drawn m holds d)
  drawn-ends holds (Err spent) = refused-ends (mend_releases m holds) (causes.Spent spent.seen)
  drawn-ends holds (Ok n) = numbered-ends holds n (is_shown m.target holds)

  confirmed-ends : (holds : List Hold) (walk : Walk (Unit {0})) → Finishes GivesNone (mend_confirmed m holds walk)
  confirmed-ends holds (Stopped u e r) = refused-ends (mend_releases m holds) (mend_why e r (causes.Changed m.row))
  confirmed-ends holds (Through u) = λ d. drawn-ends holds d

  claimed-ends : (walk : Walk (List Hold)) → Finishes GivesNone (mend_claimed m walk)
  claimed-ends (Stopped holds e r) = refused-ends (mend_releases m (with_hold holds e.bay (grant_of r))) (mend_why e r (causes.Gone e.bay))
  claimed-ends (Through holds) =
      finishes-run GivesNone mend_confirming (mend_confirmed m holds) (λ u. tt) (confirmed-ends holds) (confirm m.id m.row false (parity_bay m.n m.row) ∷ []) tt

  pub mends_finish : Finishes GivesNone (mend_steps m)
  mends_finish = finishes-run GivesNone (mending m) (mend_claimed m) (λ u. tt) claimed-ends (claims m.id m.row Mend true (parity_first m.n m.row)) []

module _ (r : Rescue) where
  close-ends : (n : Number) (lost : Option ℕ) (walk : Walk (Unit {0})) → Finishes GivesNone (end_as (ends.Recovered n true lost) walk)
  close-ends n lost walk = record { ended = tt; contents = refl }

  recover-put-ends : (row : Row) (n : Number) (lost : Option ℕ) (walk : Walk (Unit {0})) → Finishes GivesNone (recover_put r row n lost walk)
  recover-put-ends row n lost (Stopped u e reply) = refused-ends (give_back r (unseized_data r row)) (put_cause r.row e reply)
  recover-put-ends row n lost (Through u) =
      finishes-run GivesNone (closing n lost) (end_as (ends.Recovered n true lost)) (λ u. tt) (close-ends n lost) (give_back r (granted_data r row)) tt

  by-ends : (row : Row) (n : Number) (v : Verdict) → Finishes GivesNone (recover_by r row n v)
  by-ends row n Leaves = released-ends (give_back r (granted_data r row ++ parity_granted r.n r.row row.parity)) (ends.Recovered n true None) tt
  by-ends row n (Sums lost) =
      finishes-run GivesNone (recover_putting r lost) (recover_put r row n lost) (λ u. tt) (recover-put-ends row n lost)
      (put r.id r.row n (recovered_parity row lost) (parity_bay r.n r.row) ∷ []) tt

  recover-refuses : (row : Row) (cause : Cause) → Finishes GivesNone (recover_refused r row cause)
  recover-refuses row cause = refused-ends _ cause

  recover-drawn-ends : (row : Row) (d : Result Number Spent) → Finishes GivesNone (recover_drawn r row d)
  recover-drawn-ends row (Err spent) = recover-refuses row (causes.Spent spent.seen)
  recover-drawn-ends row (Ok n) = by-ends row n (verdict r row)

  recover-confirmed-ends : (taken : Taken) (walk : Walk (Unit {0})) → Finishes GivesNone (recover_confirmed r taken walk)
  recover-confirmed-ends taken (Stopped u e reply) = recover-refuses taken.row _
  recover-confirmed-ends taken (Through u) = λ d. recover-drawn-ends taken.row d

  seized-ends : (walk : Walk Taken) → Finishes GivesNone (units_seized r walk)
  seized-ends (Stopped taken e reply) = recover-refuses taken.row (why None taken e reply)
  seized-ends (Through taken) =
      finishes-run GivesNone (recover_confirming taken) (recover_confirmed r taken) (λ u. tt) (recover-confirmed-ends taken) (confirm r.id r.row false (parity_bay r.n r.row) ∷ []) tt

  seize-ends : (taken : Taken) → Finishes GivesNone (seize_units r taken)
  seize-ends taken = finishes-run GivesNone (taking None with_wanted) (units_seized r) (λ u. tt) seized-ends (claims r.id r.row Seize true (bays_of r.n r.row (units r.n))) taken

  lacking-ends : (taken : Taken) (operator : Bool) → Finishes GivesNone (if operator then seize_units r taken else recover_refused r taken.row (causes.Gone (parity_bay r.n r.row)))
  lacking-ends taken true = seize-ends taken
  lacking-ends taken false = recover-refuses taken.row (causes.Gone (parity_bay r.n r.row))

  taken-ends : (taken : Taken) (grant : Option Grant) → Finishes GivesNone (parity_taken r taken grant)
  taken-ends taken (Some grant) = seize-ends taken
  taken-ends taken None = lacking-ends taken (r.host.0 == 0)

  parity-ends : (walk : Walk Taken) → Finishes GivesNone (parity_seized r walk)
  parity-ends (Stopped taken e reply) = recover-refuses taken.row (why None taken e reply)
  parity-ends (Through taken) = taken-ends taken taken.row.parity

  pub recoveries_finish : Finishes GivesNone (recover_steps r)
  recoveries_finish =
      finishes-run GivesNone (taking None with_parity) (parity_seized r) (λ u. tt) parity-ends (claim r.id r.row Seize 0 true (parity_bay r.n r.row) ∷ []) (begun (whole_part r) no_rows)
