-- The attempt to recover one row.
use Rattle.std.specs.Prelude.{ℕ, ◌-◌, ◌^◌, ◌==◌, not, ◌&&◌, ◌||◌, Bool, true, false, if◌then◌else◌, List, [], ◌∷◌, ◌++◌, zip, Option, Some, None, is_some, unwrap_or, Result, Ok, Err}
use Rattle.raid_base.specs.declared.numbers.BayNo.{BayNo}
use Rattle.raid_base.specs.declared.numbers.Number.{Number}
use Rattle.raid_base.specs.declared.numbers.Spent.{Spent}
use Rattle.raid_base.specs.declared.messages.How.TheVariants.{Seize}
use Rattle.raid_base.specs.declared.cells.Cell.{Cell}
use Rattle.raid_base.specs.declared.messages.Note.{Note}
use Rattle.raid_base.specs.declared.cells.Content.TheVariants.{Lost}
use Rattle.raid_base.specs.declared.jobs.Cause.{Cause}
use Rattle.raid_base.specs.declared.jobs.Cause.TheVariants as causes
use Rattle.raid_base.specs.declared.jobs.Ended.TheVariants as ends
use Rattle.raid_base.specs.declared.messages.Reply.{Reply}
use Rattle.raid_base.specs.declared.jobs.RowPart.{RowPart}
use Rattle.raid_base.specs.declared.messages.Errand.{Errand}
use Rattle.raid_base.specs.Cells.{has_unit, with_unit}
use Rattle.raid_base.specs.declared.messages.Grant.{Grant}
use Rattle.raid_base.specs.Replies.{is_held, is_missing}
use Rattle.raid_base.specs.Steps.{Steps, ◌>>=◌, drawn, Commit, Walk, Through, Stopped, Phase, run}
use Rattle.stripe_layout.specs.Placement.{parity_bay, bays_of, units}
use Rattle.raid_xor.specs.Parities.{parity_of}
use Rattle.attempts.specs.declared.Rescue.{Rescue}
use Rattle.attempts.specs.Taking.{Finish, refused_by_quit, harmless, Row, no_rows, Taken, begun, with_parity, with_wanted, refusal, taking, why, claim, claims, confirm}
use Rattle.attempts.specs.Releases.{releases, end_as, released_steps, refused_steps, granted_of, parity_granted}
use Rattle.attempts.specs.Reading.{cells_in}
use Rattle.attempts.specs.Puts.{put}
use Rattle.attempts.specs.Mending.{on_done, put_cause}

-- all units of the row
abbrev pub whole_part : Rescue → RowPart
whole_part r = record { row = r.row; mask = 2 ^ (r.n - 1) - 1; at = 0; count = r.n - 1 }

-- Releases. What was granted without seizing a note
abbrev pub is_seized : Grant → Bool
is_seized grant = is_some grant.seized

abbrev pub unseized : List (ℕ × Option Grant) → List ℕ
unseized [] = []
unseized ((unit, None) ∷ pairs) = unseized pairs
unseized ((unit, Some grant) ∷ pairs) = if is_seized grant then unseized pairs else unit ∷ unseized pairs

abbrev pub unseized_data : Rescue → Row → List BayNo
unseized_data r row = bays_of r.n r.row (unseized (zip (units r.n) row.wanted))

abbrev pub unseized_parity : Rescue → Option Grant → List BayNo
unseized_parity r None = []
unseized_parity r (Some grant) = if is_seized grant then [] else parity_bay r.n r.row ∷ []

abbrev pub granted_data : Rescue → Row → List BayNo
granted_data r row = bays_of r.n r.row (granted_of (zip (units r.n) row.wanted))

abbrev pub give_back : Rescue → List BayNo → List Errand
give_back r bays = releases r.id r.row None bays

-- a refused recovery keeps what it seized
abbrev pub recover_refused : Rescue → Row → Cause → Steps Finish
recover_refused r row cause = refused_steps (give_back r (unseized_data r row ++ unseized_parity r row.parity)) cause

-- Torn rows. The unit that is missing
abbrev pub missing_in : List (ℕ × Option Grant) → Option ℕ
missing_in [] = None
missing_in ((unit, None) ∷ pairs) = Some unit
missing_in ((unit, Some grant) ∷ pairs) = missing_in pairs

-- a present unit of the note's mask was put by the note's origin
abbrev pub is_put : Note → List (ℕ × Option Grant) → Bool
is_put note [] = false
is_put note ((unit, None) ∷ pairs) = is_put note pairs
is_put note ((unit, Some grant) ∷ pairs) = (has_unit note.mask unit && (grant.last.0 == note.origin.0)) || is_put note pairs

abbrev pub is_torn_by : Option Note → List (ℕ × Option Grant) → ℕ → Bool
is_torn_by None pairs unit = false
is_torn_by (Some note) pairs unit = not (note.mask == 0) && (has_unit note.mask unit || is_put note pairs)

abbrev pub seized_note : Option Grant → Option Note
seized_note None = None
seized_note (Some grant) = grant.seized

-- the row is torn, with this unit missing
abbrev pub is_torn : Rescue → Row → ℕ → Bool
is_torn r row unit = is_torn_by (seized_note row.parity) (zip (units r.n) row.wanted) unit

-- what a recovery does to its row: nothing, or it puts the parity and names a unit lost or none
pub data Verdict : Type 0 where
  Leaves : Verdict
  Sums : (lost : Option ℕ) → Verdict

abbrev pub hole_verdict : Rescue → Row → Option ℕ → Verdict
hole_verdict r row None = Sums None
hole_verdict r row (Some unit) = if is_torn r row unit then Sums (Some unit) else Leaves

abbrev pub verdict_of : Rescue → Row → Option Grant → Verdict
verdict_of r row None = Leaves
verdict_of r row (Some grant) = hole_verdict r row (missing_in (zip (units r.n) row.wanted))

abbrev pub verdict : Rescue → Row → Verdict
verdict r row = verdict_of r row row.parity

-- the parity that is put: the sum of the present cells, with the lost unit
abbrev pub mark_lost : Cell → Option ℕ → Cell
mark_lost cell None = cell
mark_lost cell (Some unit) = record cell { lost = with_unit cell.lost unit }

abbrev pub recovered_parity : Row → Option ℕ → Cell
recovered_parity row lost = mark_lost (parity_of (cells_in row.wanted)) lost

abbrev pub lost_commits : Rescue → Option ℕ → List Commit
lost_commits r None = []
lost_commits r (Some unit) = record { row = r.row; unit = unit; content = Lost } ∷ []

abbrev pub recover_putting : Rescue → Option ℕ → Phase (Unit {0})
recover_putting r lost = record {
  step = on_done;
  stop = refused_by_quit;
  commits = λ _ _. lost_commits r lost;
}

-- after the put the host may stop, and the row is recovered but not closed
abbrev pub closing : Number → Option ℕ → Phase (Unit {0})
closing n lost = record { step = λ u errand reply. Some u; stop = λ _. ends.Recovered n false lost; commits = λ _ _. [] }

abbrev pub recover_put : Rescue → Row → Number → Option ℕ → Walk (Unit {0}) → Steps Finish
recover_put r row n lost (Stopped u errand reply) = refused_steps (give_back r (unseized_data r row)) (put_cause r.row errand reply)
recover_put r row n lost (Through u) = do
  walk ← run (closing n lost) (give_back r (granted_data r row)) tt
  end_as (ends.Recovered n true lost) walk

abbrev pub recover_by : Rescue → Row → Number → Verdict → Steps Finish
recover_by r row n Leaves = released_steps (give_back r (granted_data r row ++ parity_granted r.n r.row row.parity)) (ends.Recovered n true None)
recover_by r row n (Sums lost) = do
  walk ← run (recover_putting r lost) (put r.id r.row n (recovered_parity row lost) (parity_bay r.n r.row) ∷ []) tt
  recover_put r row n lost walk

abbrev pub recover_drawn : Rescue → Row → Result Number Spent → Steps Finish
recover_drawn r row (Err spent) = recover_refused r row (causes.Spent spent.seen)
recover_drawn r row (Ok n) = recover_by r row n (verdict r row)

abbrev pub recover_confirmed : Rescue → Taken → Walk (Unit {0}) → Steps Finish
recover_confirmed r taken (Stopped u errand reply) =
    recover_refused r taken.row (unwrap_or (refusal None taken.missing errand.bay reply) (causes.Changed r.row))
recover_confirmed r taken (Through u) = do
  d ← drawn
  recover_drawn r taken.row d

-- a parity that was granted is held, and one that was missing is missing
abbrev pub is_as_before : Option Grant → Reply → Bool
is_as_before None reply = is_missing reply
is_as_before (Some grant) reply = is_held reply

abbrev pub stays_unless : Option Cause → Bool → Bool
stays_unless (Some cause) stays = false
stays_unless None stays = stays

abbrev pub stays : Taken → BayNo → Reply → Bool
stays taken bay reply = stays_unless (refusal None taken.missing bay reply) (is_as_before taken.row.parity reply)

abbrev pub recover_confirming : Taken → Phase (Unit {0})
recover_confirming taken = harmless (λ u errand reply. if stays taken errand.bay reply then Some u else None)

abbrev pub units_seized : Rescue → Walk Taken → Steps Finish
units_seized r (Stopped taken errand reply) = recover_refused r taken.row (why None taken errand reply)
units_seized r (Through taken) = do
  walk ← run (recover_confirming taken) (confirm r.id r.row false (parity_bay r.n r.row) ∷ []) tt
  recover_confirmed r taken walk

abbrev pub seize_units : Rescue → Taken → Steps Finish
seize_units r taken = do
  walk ← run (taking None with_wanted) (claims r.id r.row Seize true (bays_of r.n r.row (units r.n))) taken
  units_seized r walk

-- only the operator recovers a row whose parity is missing
abbrev pub parity_taken : Rescue → Taken → Option Grant → Steps Finish
parity_taken r taken (Some grant) = seize_units r taken
parity_taken r taken None = if r.host.0 == 0 then seize_units r taken else recover_refused r taken.row (causes.Gone (parity_bay r.n r.row))

abbrev pub parity_seized : Rescue → Walk Taken → Steps Finish
parity_seized r (Stopped taken errand reply) = recover_refused r taken.row (why None taken errand reply)
parity_seized r (Through taken) = parity_taken r taken taken.row.parity

-- The recovery of one row: every slot is seized, the parity first.
abbrev pub recover_steps : Rescue → Steps Finish
recover_steps r = do
  walk ← run (taking None with_parity) (claim r.id r.row Seize 0 true (parity_bay r.n r.row) ∷ []) (begun (whole_part r) no_rows)
  parity_seized r walk
