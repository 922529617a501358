-- The attempt to rebuild one row's slot on a bay.
use Rattle.std.specs.Prelude.{ℕ, ◌==◌, not, ◌&&◌, Bool, true, false, if◌then◌else◌, List, [], ◌∷◌, ◌++◌, map, filter, Option, Some, None, is_none, is_some, option_map, unwrap_or, Result, Ok, Err}
use Rattle.raid_base.specs.declared.numbers.BayNo.{BayNo}
use Rattle.raid_base.specs.declared.numbers.RowNo.{RowNo}
use Rattle.raid_base.specs.declared.numbers.Number.{Number}
use Rattle.raid_base.specs.declared.numbers.Spent.{Spent}
use Rattle.raid_base.specs.declared.messages.How.TheVariants.{Mend}
use Rattle.raid_base.specs.declared.cells.Cell.{Cell}
use Rattle.raid_base.specs.declared.jobs.Cause.{Cause}
use Rattle.raid_base.specs.declared.jobs.Cause.TheVariants as causes
use Rattle.raid_base.specs.declared.jobs.Ended.TheVariants as ends
use Rattle.raid_base.specs.declared.messages.Reply.{Reply}
use Rattle.raid_base.specs.declared.messages.Errand.{Errand}
use Rattle.raid_base.specs.Cells.{zero_cell}
use Rattle.raid_base.specs.declared.messages.Grant.{Grant}
use Rattle.raid_base.specs.Replies.{grant_of, is_held, is_done, is_fault}
use Rattle.raid_base.specs.Steps.{Steps, ◌>>=◌, drawn, Walk, Through, Stopped, Phase, run}
use Rattle.stripe_layout.specs.Placement.{parity_bay, unit_at, row_bays, parity_first}
use Rattle.raid_xor.specs.Parities.{parity_of}
use Rattle.degraded_plans.specs.Missing.{missing_of}
use Rattle.attempts.specs.declared.Repair.{Repair}
use Rattle.attempts.specs.declared.Hold.{Hold}
use Rattle.attempts.specs.Taking.{Finish, harmless, refusal, claims, confirm}
use Rattle.attempts.specs.Releases.{releases, released_steps, refused_steps}
use Rattle.attempts.specs.Reading.{cell_in}
use Rattle.attempts.specs.Puts.{put}

abbrev pub is_at : BayNo → BayNo → Bool
is_at x y = x.0 == y.0

-- a slot without a cell on another bay than the target is gone
abbrev pub is_bare : Repair → BayNo → Grant → Bool
is_bare m bay grant = is_none grant.cell && not (is_at bay m.target)

abbrev pub with_hold : List Hold → BayNo → Option Grant → List Hold
with_hold holds bay None = holds
with_hold holds bay (Some grant) = holds ++ record { bay = bay; grant = grant } ∷ []

abbrev pub good_grant : Repair → BayNo → Option Grant → Option Hold
good_grant m bay None = None
good_grant m bay (Some grant) = if is_bare m bay grant then None else Some (record { bay = bay; grant = grant })

-- the slot that a reply gives, which is not bare
abbrev pub hold_of : Repair → BayNo → Reply → Option Hold
hold_of m bay reply = good_grant m bay (grant_of reply)

abbrev pub mending : Repair → Phase (List Hold)
mending m = harmless (λ holds errand reply. option_map (λ (hold : Hold). holds ++ hold ∷ []) (hold_of m errand.bay reply))

-- why the reply that stopped did so
abbrev pub mend_why : Errand → Reply → Cause → Cause
mend_why errand reply other = unwrap_or (refusal None None errand.bay reply) other

-- what is given back of these: the data ascending, and then the parity
abbrev pub is_held_at : List Hold → BayNo → Bool
is_held_at [] bay = false
is_held_at (hold ∷ holds) bay = if is_at hold.bay bay then true else is_held_at holds bay

abbrev pub mend_releases : Repair → List Hold → List Errand
mend_releases m holds = releases m.id m.row None (filter (is_held_at holds) (row_bays m.n m.row))

abbrev pub without_target : Repair → List Hold → List Hold
without_target m holds = filter (λ hold. not (is_at hold.bay m.target)) holds

abbrev pub holds_but : BayNo → List Hold → List Hold
holds_but bay holds = filter (λ hold. not (is_at hold.bay bay)) holds

-- the cells on these bays
abbrev pub cells_of : List Hold → List Cell
cells_of holds = map (λ hold. cell_in hold.grant) holds

abbrev pub cell_at : BayNo → List Hold → Cell
cell_at bay [] = zero_cell
cell_at bay (hold ∷ holds) = if is_at hold.bay bay then cell_in hold.grant else cell_at bay holds

-- whether the slot on the target showed a cell
abbrev pub is_shown : BayNo → List Hold → Bool
is_shown bay [] = false
is_shown bay (hold ∷ holds) = if is_at hold.bay bay then is_some hold.grant.cell else is_shown bay holds

-- the cell that is put: a unit from the parity and the other units, the parity from all units
abbrev pub mended_unit : Repair → List Hold → Option ℕ → Cell
mended_unit m holds None = parity_of (cells_of (holds_but (parity_bay m.n m.row) holds))
mended_unit m holds (Some unit) =
    missing_of (cell_at (parity_bay m.n m.row) holds) (cells_of (holds_but m.target (holds_but (parity_bay m.n m.row) holds))) unit

abbrev pub mended_cell : Repair → List Hold → Cell
mended_cell m holds = mended_unit m holds (unit_at m.n m.row m.target)

abbrev pub on_done : Unit {0} → Errand → Reply → Option (Unit {0})
on_done u errand reply = if is_done reply then Some u else None

abbrev pub put_cause : RowNo → Errand → Reply → Cause
put_cause row errand reply = if is_fault reply then causes.Fault errand.bay else causes.Seized row

abbrev pub mend_putting : Phase (Unit {0})
mend_putting = harmless on_done

abbrev pub mend_put : Repair → List Hold → Walk (Unit {0}) → Steps Finish
mend_put m holds (Through u) = released_steps (mend_releases m (without_target m holds)) ends.Mended
mend_put m holds (Stopped u errand reply) = refused_steps (mend_releases m holds) (put_cause m.row errand reply)

-- where the target showed a cell nothing is put
abbrev pub mend_numbered : Repair → List Hold → Number → Bool → Steps Finish
mend_numbered m holds n true = released_steps (mend_releases m holds) ends.Mended
mend_numbered m holds n false = do
  walk ← run mend_putting (put m.id m.row n (mended_cell m holds) m.target ∷ []) tt
  mend_put m holds walk

abbrev pub mend_drawn : Repair → List Hold → Result Number Spent → Steps Finish
mend_drawn m holds (Err spent) = refused_steps (mend_releases m holds) (causes.Spent spent.seen)
mend_drawn m holds (Ok n) = mend_numbered m holds n (is_shown m.target holds)

abbrev pub mend_confirmed : Repair → List Hold → Walk (Unit {0}) → Steps Finish
mend_confirmed m holds (Stopped u errand reply) = refused_steps (mend_releases m holds) (mend_why errand reply (causes.Changed m.row))
mend_confirmed m holds (Through u) = do
  d ← drawn
  mend_drawn m holds d

abbrev pub mend_confirming : Phase (Unit {0})
mend_confirming = harmless (λ u errand reply. if is_held reply then Some u else None)

abbrev pub mend_claimed : Repair → Walk (List Hold) → Steps Finish
mend_claimed m (Stopped holds errand reply) =
    refused_steps (mend_releases m (with_hold holds errand.bay (grant_of reply))) (mend_why errand reply (causes.Gone errand.bay))
mend_claimed m (Through holds) = do
  walk ← run mend_confirming (confirm m.id m.row false (parity_bay m.n m.row) ∷ []) tt
  mend_confirmed m holds walk

-- The rebuild of one row's slot: every slot is claimed, the parity first.
abbrev pub mend_steps : Repair → Steps Finish
mend_steps m = do
  walk ← run (mending m) (claims m.id m.row Mend true (parity_first m.n m.row)) []
  mend_claimed m walk
