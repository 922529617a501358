-- Which slots have no cell.
use Rattle.std.specs.Prelude.{◌≡◌, ◌≢◌, ℕ, ◌<◌, List, IsNone}
use Rattle.raid_base.specs.declared.numbers.BayNo.{BayNo}
use Rattle.raid_base.specs.declared.numbers.RowNo.{RowNo}
use Rattle.raid_base.specs.declared.messages.Call.{Call}
use Rattle.raid_base.specs.declared.jobs.Task.{Task}
use Rattle.raid_base.specs.declared.jobs.Task.TheVariants.{Rebuild}
use Rattle.raid_base.specs.declared.jobs.Cause.TheVariants.{Gone}
use Rattle.raid_base.specs.declared.jobs.JobEnd.TheVariants.{Gave}
use Rattle.script_text.specs.Script.{Script}
use Rattle.script_text.specs.Ranges.{IsScript}
use Rattle.histories.specs.History.{IsHistory}
use Rattle.histories.specs.RowStates.{cell_at}
use Rattle.histories.specs.Results.{EachEnding}

-- One bay is missing at most: two bays with a missing slot are the same.
abbrev pub HasMissing : Script → List Call → BayNo → Type 0
HasMissing script history at = (row : RowNo) × (row.0 < script.rows) × IsNone (cell_at script history row at)

abbrev pub OneIsMissing : Type 0
OneIsMissing = (script : Script) (history : List Call) → IsScript script → IsHistory script history → (x y : BayNo) → x.0 < script.n → y.0 < script.n →
    HasMissing script history x → HasMissing script history y → x ≡ y

-- So no rebuild ends because a slot is gone.
abbrev pub IsRebuild : Task → Type 0
IsRebuild (Rebuild bay) = Unit {0}
IsRebuild _ = ⊥

abbrev pub RebuildsMeetNoGone : Type 0
RebuildsMeetNoGone = (script : Script) (history : List Call) → IsScript script → IsHistory script history →
    EachEnding script history (λ host e. IsRebuild e.job.task → (bay : BayNo) (tries : ℕ) → e.ended ≢ Gave tries (Gone bay))
