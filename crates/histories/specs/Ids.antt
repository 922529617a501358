-- Ids: no two attempts have one.
use Rattle.std.specs.Prelude.{◌≡◌, ℕ, ◌%◌, ◌<◌, ◌≤◌, ◌==◌, Bool, false, if◌then◌else◌, List, [], ◌∷◌, Option, Some, None}
use Rattle.std.specs.List.{AllByRecursion}
use Rattle.raid_base.specs.declared.numbers.HostNo.{HostNo}
use Rattle.raid_base.specs.declared.numbers.BayNo.{BayNo}
use Rattle.raid_base.specs.declared.numbers.RowNo.{RowNo}
use Rattle.raid_base.specs.declared.numbers.Number.{Number}
use Rattle.raid_base.specs.declared.messages.Note.{Note}
use Rattle.raid_base.specs.declared.messages.How.{How}
use Rattle.raid_base.specs.declared.messages.Request.TheVariants.{Claim}
use Rattle.raid_base.specs.declared.messages.Errand.{Errand}
use Rattle.raid_base.specs.declared.messages.Call.{Call}
use Rattle.script_text.specs.Script.{Script}
use Rattle.script_text.specs.Ranges.{IsScript}
use Rattle.histories.specs.Progress.{work_errand}
use Rattle.histories.specs.History.{IsHistory, progress_at}
use Rattle.histories.specs.Calls.{Happened, id_of}
use Rattle.histories.specs.RowStates.{slot_at}

-- the calls with this id, the newest first
abbrev pub is_id : Number → Option Number → Bool
is_id id None = false
is_id id (Some n) = n.0 == id.0

abbrev pub calls_with : Number → List Call → List Call
calls_with id [] = []
calls_with id (call ∷ earlier) =
    let before = calls_with id earlier in
    if is_id id (id_of call.ask.what) then call ∷ before else before

-- an id leaves its host by 16, and its host has seen it
abbrev pub IsOwnId : Call → Type 0
IsOwnId call = (id : Number) → id_of call.ask.what ≡ Some id → id.0 % 16 ≡ call.ask.host.0

abbrev pub IsSeenBy : HostNo → Number → Call → Type 0
IsSeenBy host seen call = call.ask.host.0 ≡ host.0 → (id : Number) → id_of call.ask.what ≡ Some id → id.0 ≤ seen.0

-- a claim of this slot with this note's id, by its host
abbrev pub IsNoteClaim : BayNo → RowNo → Note → Call → Type 0
IsNoteClaim at row note call =
    (call.bay ≡ at) × (call.ask.host ≡ note.host) × (how : How) × (mask : ℕ) × (want : Bool) × (call.ask.what ≡ Claim row note.id how mask want)

-- Ids are apart: an id is its host's, who has seen it; all calls with the id of an attempt in hand are that attempt's; and a
-- note has the id of a claim of its host.
pub record AreApart (script : Script) (history : List Call) : Type 0 where
  pub own : AllByRecursion IsOwnId history
  pub seen : (host : HostNo) → AllByRecursion (IsSeenBy host (progress_at script host history).seen) history
  pub in_hand : (host : HostNo) (errand : Errand) (id : Number) → work_errand (progress_at script host history).work ≡ Some errand →
      id_of errand.request ≡ Some id → calls_with id history ≡ (progress_at script host history).calls
  pub notes : (at : BayNo) (row : RowNo) (note : Note) → row.0 < script.rows → (slot_at script history at row).note ≡ Some note →
      Happened (IsNoteClaim at row note) history

abbrev pub IdsAreApart : Type 0
IdsAreApart = (script : Script) (history : List Call) → IsScript script → IsHistory script history → AreApart script history
