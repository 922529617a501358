-- What a recovery leaves of its row.
use Rattle.std.specs.Prelude.{◌≡◌, ◌≢◌, ℕ, ◌==◌, true, false, if◌then◌else◌, List, [], ◌∷◌, ◌++◌, Option, Some}
use Rattle.std.specs.List.{AllByRecursion}
use Rattle.raid_base.specs.declared.numbers.HostNo.{HostNo}
use Rattle.raid_base.specs.declared.numbers.RowNo.{RowNo}
use Rattle.raid_base.specs.declared.numbers.Number.{Number}
use Rattle.raid_base.specs.declared.messages.Call.{Call}
use Rattle.raid_base.specs.declared.jobs.Task.TheVariants as tasks
use Rattle.raid_base.specs.declared.jobs.JobEnd.TheVariants as ends
use Rattle.attempts.specs.Phases.{IsIn}
use Rattle.script_text.specs.Script.{Script}
use Rattle.script_text.specs.Ranges.{IsScript}
use Rattle.histories.specs.Calls.{row_of}
use Rattle.histories.specs.Progress.{Ending}
use Rattle.histories.specs.History.{IsHistory, endings_at}
use Rattle.histories.specs.RowStates.{is_open}

-- the calls of this host among these
abbrev pub calls_by : HostNo → List Call → List Call
calls_by host [] = []
calls_by host (call ∷ earlier) = let before = calls_by host earlier in if call.ask.host.0 == host.0 then call ∷ before else before

-- no other host asked a slot of the row
abbrev pub OthersKeepOff : HostNo → RowNo → List Call → Type 0
OthersKeepOff host row calls = AllByRecursion (λ (call : Call). call.ask.host ≢ host → row_of call.ask.what ≢ Some row) calls

-- A recovery closes its row: where it has ended as recovered and closed, and no other host asked a slot of the row while its
-- last attempt made its calls, no slot of the row has a note.
abbrev pub RecoveriesClose : Type 0
RecoveriesClose = (script : Script) (during before : List Call) (host : HostNo) (row : RowNo) (e : Ending) (n : Number) (lost : Option ℕ) →
    IsScript script → IsHistory script (during ++ before) → IsIn e (endings_at script (during ++ before) host) →
    e.job.task ≡ tasks.Recover row → e.ended ≡ ends.Recovered n true lost →
    calls_by host during ≡ e.calls → OthersKeepOff host row during → is_open script (during ++ before) row ≡ false
