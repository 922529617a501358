-- Rebuilds and recoveries keep to the bound of each bay.
use Rattle.std.proofs.Common.{ℕ, ◌+◌, ◌≤◌, ◌==◌, Bool, true, false, cond, List, [], ◌∷◌, ◌++◌, Option, Some, None, Result, Ok, Err, filter, zip, map, refl, arith}
use Rattle.raid_base.specs.declared.numbers.BayNo.{BayNo}
use Rattle.raid_base.specs.declared.numbers.RowNo.{RowNo}
use Rattle.raid_base.specs.declared.numbers.Number.{Number}
use Rattle.raid_base.specs.declared.numbers.Spent.{Spent}
use Rattle.raid_base.specs.declared.messages.How.TheVariants.{Mend, Seize}
use Rattle.raid_base.specs.declared.messages.Grant.{Grant}
use Rattle.raid_base.specs.declared.jobs.Cause.{Cause}
use Rattle.raid_base.specs.declared.jobs.Cause.TheVariants as causes
use Rattle.raid_base.specs.declared.jobs.Ended.{Ended}
use Rattle.raid_base.specs.declared.jobs.Ended.TheVariants as ends
use Rattle.raid_base.specs.Replies.{grant_of}
use Rattle.raid_base.specs.Steps.{◌>>=◌, Walk, Through, Stopped, run}
use Rattle.stripe_layout.specs.Placement.{parity_bay, bay_of, bays_of, units, row_bays, parity_first}
use Rattle.attempts.specs.declared.Repair.{Repair}
use Rattle.attempts.specs.declared.Rescue.{Rescue}
use Rattle.attempts.specs.declared.Hold.{Hold}
use Rattle.attempts.specs.Taking.{Row, Taken, no_rows, begun, why, with_parity, with_wanted, taking, claim, claims, confirm}
use Rattle.attempts.specs.Releases.{releases, releasing, end_as, released_steps, parity_granted}
use Rattle.attempts.specs.Puts.{put}
use Rattle.attempts.specs.Mending.{with_hold, mending, mend_why, is_held_at, mend_releases, without_target, is_shown, mended_cell, mend_putting, put_cause, mend_put, mend_numbered, mend_drawn, mend_confirmed, mend_confirming, mend_claimed}
use Rattle.attempts.specs.Recovery.{whole_part, unseized, unseized_data, is_seized, unseized_parity, granted_data, give_back, recover_refused, Verdict, Leaves, Sums, verdict, recovered_parity, recover_putting, closing, recover_put, recover_by, recover_drawn, recover_confirmed, recover_confirming, units_seized, seize_units, parity_taken, parity_seized}
use Rattle.attempts.specs.BayBounds.{ObeysAt, MendsObeyAt, RecoveriesObeyAt}
use Rattle.attempts.proofs.RepairObeys.{any}
use Rattle.attempts.proofs.BayLemmas.{hit, hits, hit-le, asks-map, asks-releases, hits-append, hits-filter, granted-hits, row-once, bays-once, parity-hits, at-run}

-- gives back to bays of the row, and ends
released-at : (at : BayNo) (id : Number) (row : RowNo) (bays : List BayNo) (ended : Ended) (room : ℕ) → hits at bays ≤ room
    → ObeysAt at room (released_steps (releases id row None bays) ended)
released-at at id row bays ended room le =
    at-run at (λ (u : Unit {0}). Unit {0}) releasing (end_as ended) 0 (λ u e r i. tt) (λ u i. tt) (λ u e r i. tt)
    (releases id row None bays) tt room (omega (arith, asks-releases at id row None bays)) tt

-- Rebuilds
module _ (at : BayNo) (m : Repair) (least : 3 ≤ m.n) where
  gives-back : (holds : List Hold) (ended : Ended) (room : ℕ) → 1 ≤ room → ObeysAt at room (released_steps (mend_releases m holds) ended)
  gives-back holds ended room le =
      released-at at m.id m.row (filter (is_held_at holds) (row_bays m.n m.row)) ended room
      (omega (arith, hits-filter at (is_held_at holds) (row_bays m.n m.row), bays-once at m.n m.row least))

  numbered-at : (holds : List Hold) (n : Number) (b : Bool) → ObeysAt at 2 (mend_numbered m holds n b)
  numbered-at holds n true = gives-back holds ends.Mended 2 (omega arith)
  numbered-at holds n false =
      at-run at (λ (u : Unit {0}). Unit {0}) mend_putting (mend_put m holds) 1
      (λ u e r i. any (mend_putting.step u e r))
      (λ u i. gives-back (without_target m holds) ends.Mended 1 (omega arith))
      (λ u e r i. gives-back holds (ends.Refused (put_cause m.row e r)) 1 (omega arith))
      (put m.id m.row n (mended_cell m holds) m.target ∷ []) tt 2 (omega (arith, hit-le at m.target)) tt

  drawn-at : (holds : List Hold) (d : Result Number Spent) → ObeysAt at 2 (mend_drawn m holds d)
  drawn-at holds (Err spent) = gives-back holds (ends.Refused (causes.Spent spent.seen)) 2 (omega arith)
  drawn-at holds (Ok n) = numbered-at holds n (is_shown m.target holds)

  claimed-at : (walk : Walk (List Hold)) → ObeysAt at 3 (mend_claimed m walk)
  claimed-at (Stopped holds e r) = gives-back (with_hold holds e.bay (grant_of r)) (ends.Refused (mend_why e r (causes.Gone e.bay))) 3 (omega arith)
  claimed-at (Through holds) =
      at-run at (λ (u : Unit {0}). Unit {0}) mend_confirming (mend_confirmed m holds) 2
      (λ u e r i. any (mend_confirming.step u e r))
      (λ u i d drawn. drawn-at holds d)
      (λ u e r i. gives-back holds (ends.Refused (mend_why e r (causes.Changed m.row))) 2 (omega arith))
      (confirm m.id m.row false (parity_bay m.n m.row) ∷ []) tt 3 (omega (arith, hit-le at (parity_bay m.n m.row))) tt

  mends-at : ObeysAt at 4 (run (mending m) (claims m.id m.row Mend true (parity_first m.n m.row)) [] >>= mend_claimed m)
  mends-at =
      at-run at (λ (holds : List Hold). Unit {0}) (mending m) (mend_claimed m) 3
      (λ holds e r i. any ((mending m).step holds e r)) (λ holds i. claimed-at (Through holds)) (λ holds e r i. claimed-at (Stopped holds e r))
      (claims m.id m.row Mend true (parity_first m.n m.row)) [] 4
      (omega (arith, asks-map at (claim m.id m.row Mend 0 true) (λ other. refl) (parity_first m.n m.row), row-once at m.n m.row least))
      tt

pub rebuilds_keep_bay_bounds : MendsObeyAt
rebuilds_keep_bay_bounds m rows is at = mends-at at m is.least

-- Recoveries
unseized-hits : (at : BayNo) (g : ℕ → BayNo) (us : List ℕ) (gs : List (Option Grant)) → hits at (map g (unseized (zip us gs))) ≤ hits at (map g us)
unseized-hits at g [] gs = omega arith
unseized-hits at g (u ∷ us) [] = omega arith
unseized-hits at g (u ∷ us) (None ∷ gs) = let h : hits at (map g (unseized (zip us gs))) ≤ hits at (map g us) = unseized-hits at g us gs in omega arith
unseized-hits at g (u ∷ us) (Some x ∷ gs) = one (is_seized x) (unseized-hits at g us gs) where
  one : (b : Bool) → hits at (map g (unseized (zip us gs))) ≤ hits at (map g us)
      → hits at (map g (cond b (unseized (zip us gs)) (u ∷ unseized (zip us gs)))) ≤ hit at (g u) + hits at (map g us)
  one true h = omega arith
  one false h = omega arith

module _ (at : BayNo) (r : Rescue) (least : 3 ≤ r.n) where
  abbrev unit_hits : ℕ
  unit_hits = hits at (bays_of r.n r.row (units r.n))

  abbrev parity_hit : ℕ
  parity_hit = hit at (parity_bay r.n r.row)

  once : parity_hit + unit_hits ≤ 1
  once = row-once at r.n r.row least

  granted-data-hits : (row : Row) → hits at (granted_data r row) ≤ unit_hits
  granted-data-hits row = granted-hits at (bay_of r.n r.row) (units r.n) row.wanted

  unseized-data-hits : (row : Row) → hits at (unseized_data r row) ≤ unit_hits
  unseized-data-hits row = unseized-hits at (bay_of r.n r.row) (units r.n) row.wanted

  unseized-parity-hits : (o : Option Grant) → hits at (unseized_parity r o) ≤ parity_hit
  unseized-parity-hits None = omega arith
  unseized-parity-hits (Some grant) = one (is_seized grant) where
    one : (b : Bool) → hits at (cond b [] (parity_bay r.n r.row ∷ [])) ≤ parity_hit
    one true = omega arith
    one false = omega arith

  recover-refuses-at : (row : Row) (cause : Cause) (room : ℕ) → 1 ≤ room → ObeysAt at room (recover_refused r row cause)
  recover-refuses-at row cause room le =
      released-at at r.id r.row (unseized_data r row ++ unseized_parity r row.parity) (ends.Refused cause) room
      (omega (arith, hits-append at (unseized_data r row) (unseized_parity r row.parity), unseized-data-hits row, unseized-parity-hits row.parity, once))

  -- after the put
  put-at : (row : Row) (n : Number) (lost : Option ℕ) (walk : Walk (Unit {0})) → ObeysAt at 1 (recover_put r row n lost walk)
  put-at row n lost (Stopped u e reply) =
      released-at at r.id r.row (unseized_data r row) (ends.Refused (put_cause r.row e reply)) 1 (omega (arith, unseized-data-hits row, once))
  put-at row n lost (Through u) =
      at-run at (λ (u : Unit {0}). Unit {0}) (closing n lost) (end_as (ends.Recovered n true lost)) 0
      (λ u e reply i. tt) (λ u i. tt) (λ u e reply i. tt)
      (give_back r (granted_data r row)) tt 1 (omega (arith, asks-releases at r.id r.row None (granted_data r row), granted-data-hits row, once)) tt

  by-at : (row : Row) (n : Number) (v : Verdict) → ObeysAt at 2 (recover_by r row n v)
  by-at row n Leaves =
      released-at at r.id r.row (granted_data r row ++ parity_granted r.n r.row row.parity) (ends.Recovered n true None) 2
      (omega (arith, hits-append at (granted_data r row) (parity_granted r.n r.row row.parity), granted-data-hits row, parity-hits at r.n r.row least row.parity, once))
  by-at row n (Sums lost) =
      at-run at (λ (u : Unit {0}). Unit {0}) (recover_putting r lost) (recover_put r row n lost) 1
      (λ u e reply i. any ((recover_putting r lost).step u e reply))
      (λ u i. put-at row n lost (Through u)) (λ u e reply i. put-at row n lost (Stopped u e reply))
      (put r.id r.row n (recovered_parity row lost) (parity_bay r.n r.row) ∷ []) tt 2 (omega (arith, hit-le at (parity_bay r.n r.row))) tt

  recover-drawn-at : (row : Row) (d : Result Number Spent) → ObeysAt at 2 (recover_drawn r row d)
  recover-drawn-at row (Err spent) = recover-refuses-at row (causes.Spent spent.seen) 2 (omega arith)
  recover-drawn-at row (Ok n) = by-at row n (verdict r row)

  confirmed-at : (taken : Taken) (walk : Walk (Unit {0})) → ObeysAt at 2 (recover_confirmed r taken walk)
  confirmed-at taken (Stopped u e reply) = recover-refuses-at taken.row _ 2 (omega arith)
  confirmed-at taken (Through u) = λ d drawn. recover-drawn-at taken.row d

  seized-at : (walk : Walk Taken) → ObeysAt at 3 (units_seized r walk)
  seized-at (Stopped taken e reply) = recover-refuses-at taken.row (why None taken e reply) 3 (omega arith)
  seized-at (Through taken) =
      at-run at (λ (u : Unit {0}). Unit {0}) (recover_confirming taken) (recover_confirmed r taken) 2
      (λ u e reply i. any ((recover_confirming taken).step u e reply))
      (λ u i. confirmed-at taken (Through u)) (λ u e reply i. confirmed-at taken (Stopped u e reply))
      (confirm r.id r.row false (parity_bay r.n r.row) ∷ []) tt 3 (omega (arith, hit-le at (parity_bay r.n r.row))) tt

  seize-at : (taken : Taken) → ObeysAt at (unit_hits + 3) (seize_units r taken)
  seize-at taken =
      at-run at (λ (taken : Taken). Unit {0}) (taking None with_wanted) (units_seized r) 3
      (λ taken e reply i. any ((taking None with_wanted).step taken e reply))
      (λ taken i. seized-at (Through taken)) (λ taken e reply i. seized-at (Stopped taken e reply))
      (claims r.id r.row Seize true (bays_of r.n r.row (units r.n))) taken (unit_hits + 3)
      (omega (arith, asks-map at (claim r.id r.row Seize 0 true) (λ other. refl) (bays_of r.n r.row (units r.n)))) tt

  taken-at : (taken : Taken) (o : Option Grant) → ObeysAt at (unit_hits + 3) (parity_taken r taken o)
  taken-at taken (Some grant) = seize-at taken
  taken-at taken None = one (r.host.0 == 0) where
    one : (b : Bool) → ObeysAt at (unit_hits + 3) (cond b (seize_units r taken) (recover_refused r taken.row (causes.Gone (parity_bay r.n r.row))))
    one true = seize-at taken
    one false = recover-refuses-at taken.row (causes.Gone (parity_bay r.n r.row)) (unit_hits + 3) (omega arith)

  parity-at : (walk : Walk Taken) → ObeysAt at (unit_hits + 3) (parity_seized r walk)
  parity-at (Stopped taken e reply) = recover-refuses-at taken.row (why None taken e reply) (unit_hits + 3) (omega arith)
  parity-at (Through taken) = taken-at taken taken.row.parity

  recovers-at : ObeysAt at 4 (run (taking None with_parity) (claim r.id r.row Seize 0 true (parity_bay r.n r.row) ∷ []) (begun (whole_part r) no_rows) >>= parity_seized r)
  recovers-at =
      at-run at (λ (taken : Taken). Unit {0}) (taking None with_parity) (parity_seized r) (unit_hits + 3)
      (λ taken e reply i. any ((taking None with_parity).step taken e reply))
      (λ taken i. parity-at (Through taken)) (λ taken e reply i. parity-at (Stopped taken e reply))
      (claim r.id r.row Seize 0 true (parity_bay r.n r.row) ∷ []) (begun (whole_part r) no_rows) 4 (omega (arith, once)) tt

pub recoveries_keep_bay_bounds : RecoveriesObeyAt
recoveries_keep_bay_bounds r rows is at = recovers-at at r is.least
