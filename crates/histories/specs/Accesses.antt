-- The reads and writes of a slot, with their numbers.
use Rattle.std.specs.Prelude.{◌≡◌, ℕ, ◌<◌, ◌≤◌, max, false, if◌then◌else◌, List, [], ◌∷◌, Option, Some, None}
use Rattle.std.specs.List.{AllByRecursion}
use Rattle.raid_base.specs.declared.numbers.BayNo.{BayNo}
use Rattle.raid_base.specs.declared.numbers.RowNo.{RowNo}
use Rattle.raid_base.specs.declared.numbers.Number.{Number}
use Rattle.raid_base.specs.declared.messages.Call.{Call}
use Rattle.script_text.specs.Script.{Script}
use Rattle.script_text.specs.Ranges.{IsScript}
use Rattle.histories.specs.History.{IsHistory, bay_at}
use Rattle.histories.specs.RowStates.{slot_at}
use Rattle.histories.specs.Calls.{write_of, read_of, is_at}

-- Accesses of a slot: the numbers of its writes and of its reads
abbrev pub with_some : Option Number → List Number → List Number
with_some None ns = ns
with_some (Some n) ns = n ∷ ns

abbrev pub writes : BayNo → RowNo → List Call → List Number
writes bay row [] = []
writes bay row (call ∷ earlier) =
    let before = writes bay row earlier in
    if is_at bay row call then with_some (write_of call.ask.what call.answer.reply) before else before

abbrev pub reads : Script → BayNo → RowNo → List Call → List Number
reads script bay row [] = []
reads script bay row (call ∷ earlier) =
    let before = reads script bay row earlier in
    if is_at bay row call then with_some (read_of script.mode call.ask.what call.answer.reply) before else before

abbrev pub AtMost : ℕ → List Number → Type 0
AtMost n numbers = AllByRecursion (λ (x : Number). x.0 ≤ n) numbers

abbrev pub AllBelow : Number → List Number → Type 0
AllBelow n numbers = AllByRecursion (λ (x : Number). x.0 < n.0) numbers

-- Accesses are covered: by the slot's numbers while its device is there, and always by the bay's high number.
pub record IsCovered (script : Script) (history : List Call) (at : BayNo) (row : RowNo) : Type 0 where
  pub high_reads : AtMost (bay_at script at history).high.0 (reads script at row history)
  pub high_writes : AtMost (bay_at script at history).high.0 (writes at row history)
  pub slot_reads : (bay_at script at history).empty ≡ false →
      AtMost (max (slot_at script history at row).read_no.0 (slot_at script history at row).write_no.0) (reads script at row history)
  pub slot_writes : (bay_at script at history).empty ≡ false → AtMost (slot_at script history at row).write_no.0 (writes at row history)

abbrev pub AccessesAreCovered : Type 0
AccessesAreCovered = (script : Script) (history : List Call) → IsScript script → IsHistory script history → (at : BayNo) (row : RowNo) →
    at.0 < script.n → row.0 < script.rows → IsCovered script history at row
