-- What every history keeps to.
use Rattle.std.specs.Prelude.{◌-◌, ◌≤◌, List, length, sum_by, All}
use Rattle.std.specs.List.{Contains, AllByRecursion}
use Rattle.raid_base.specs.declared.numbers.HostNo.{HostNo}
use Rattle.raid_base.specs.declared.numbers.BayNo.{BayNo}
use Rattle.raid_base.specs.declared.messages.Call.{Call}
use Rattle.script_text.specs.Script.{Script, host_numbers}
use Rattle.script_text.specs.Ranges.{IsScript}
use Rattle.histories.specs.Progress.{Ending}
use Rattle.histories.specs.History.{progress_at, transcript, journal, clock_at, endings_at, IsHistory}
use Rattle.histories.specs.Asked.{AreAsked}
use Rattle.histories.specs.Bounds.{Keeps, IsPlayable, host_requests, host_contents}
use Rattle.histories.specs.Causes.{MeetsCause}

-- a history with no more calls than its script's jobs may need, and with clocks that count calls
pub record IsBounded (script : Script) (history : List Call) : Type 0 where
  pub keeps : (host : HostNo) → Keeps script (progress_at script host history) (host_requests script host - length (transcript host history)) (host_contents script host)
  pub transcripts : (host : HostNo) → length (transcript host history) ≤ host_requests script host
  pub callers : All (λ (call : Call). Contains (host_numbers script) call.ask.host) history
  pub calls : length history ≤ sum_by (host_requests script) (host_numbers script)
  pub journals : (bay : BayNo) → length (journal bay history) ≤ length history
  pub bay_clocks : (bay : BayNo) → clock_at bay history ≤ length history
  pub host_clocks : (host : HostNo) → (progress_at script host history).clock ≤ length history
  pub answers : All (λ (call : Call). call.answer.clock ≤ length history) history

-- Every history in which each call is the next of its host is bounded by the script's jobs.
abbrev pub RequestsAreBounded : Type 0
RequestsAreBounded = (script : Script) (history : List Call) → IsPlayable script → AreAsked script history → IsBounded script history

-- Along every history of a script each result that gives a cause has it.
abbrev pub CausesAreMet : Type 0
CausesAreMet = (script : Script) (history : List Call) → IsScript script → IsHistory script history → (host : HostNo) →
    AllByRecursion (λ (e : Ending). MeetsCause script history host e e.ended) (endings_at script history host)
