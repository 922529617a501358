-- What the results of a play tell: their jobs and numbers, and what was committed.
use Rattle.std.specs.Prelude.{◌≡◌, ℕ, ◌+◌, ◌<◌, true, List, flat_map, Some, IsSome, Ok}
use Rattle.std.specs.List.{AllByRecursion}
use Rattle.raid_base.specs.declared.numbers.HostNo.{HostNo}
use Rattle.raid_base.specs.declared.numbers.RowNo.{RowNo}
use Rattle.raid_base.specs.declared.numbers.Number.{Number}
use Rattle.raid_base.specs.declared.messages.Call.{Call}
use Rattle.raid_base.specs.declared.jobs.Ended.{Ended}
use Rattle.raid_base.specs.declared.jobs.Task.{Task}
use Rattle.raid_base.specs.declared.jobs.Task.TheVariants as tasks
use Rattle.raid_base.specs.declared.jobs.RowPart.{RowPart}
use Rattle.raid_base.specs.Steps.{Commit}
use Rattle.attempts.specs.Phases.{IsIn}
use Rattle.script_text.specs.Script.{Script, host_numbers, parts_of, blocks_of}
use Rattle.script_text.specs.Ranges.{IsScript}
use Rattle.serial_array.specs.Serial.{number_of, numbered, HasResults}
use Rattle.serial_array.specs.Ordered.{AreApart}
use Rattle.histories.specs.Progress.{Ending, quit_end, access}
use Rattle.histories.specs.History.{IsHistory, endings_at}
use Rattle.histories.specs.Turns.{all_ended}
use Rattle.histories.specs.Results.{EachEnding}
use Rattle.serial_laws.specs.Headline.{reported_at}
use Rattle.row_laws.specs.Effects.{HasWrittenSo, RecoveryTells, CommitsNothing}
use Rattle.serial_laws.specs.Rising.{Taken, taken_at}

-- Once all hosts have ended, the results of each are those of its jobs, to the last or to one that may quit, and their numbers rise.
abbrev pub HostsHaveResults : Type 0
HostsHaveResults = (script : Script) (history : List Call) → IsScript script → IsHistory script history → all_ended script history ≡ true → (host : HostNo) →
    HasResults script host (reported_at script history host)

-- No two results have one number.
abbrev pub NumbersAreApart : Type 0
NumbersAreApart = (script : Script) (history : List Call) → IsScript script → IsHistory script history →
    AreApart (numbered (flat_map (reported_at script history) (host_numbers script)))

-- what the last attempt of a job tells that it has committed
abbrev pub TaskTells : Script → HostNo → Number → Task → List Commit → Ended → Type 0
TaskTells script host id (tasks.Write object first from count) done ended =
    (parts : List RowPart) × (parts_of script object first count ≡ Ok parts) × HasWrittenSo (access script id parts (blocks_of script from count)) done ended
TaskTells script host id (tasks.Recover row) done ended = RecoveryTells (record { n = script.n; host = host; id = id; row = row }) done ended
TaskTells script host id _ done ended = CommitsNothing done ended

-- A result with a number tells what was committed with that number: its units have taken this, and no unit anything else with it.
pub record Tells (script : Script) (history : List Call) (host : HostNo) (e : Ending) : Type 0 where
  pub number : Number
  pub numbered : number_of e.ended ≡ Some number
  pub id : Number
  pub done : List Commit
  pub ended : Ended
  pub same : e.ended ≡ quit_end e.tries ended
  pub tells : TaskTells script host id e.job.task done ended
  pub taken : (commit : Commit) → IsIn commit done → IsIn (record { number = number; content = commit.content }) (taken_at script history commit.row commit.unit)
  pub only : (row : RowNo) (unit : ℕ) (t : Taken) → row.0 < script.rows → unit + 1 < script.n → IsIn t (taken_at script history row unit) → t.number ≡ number →
      IsIn (record { row = row; unit = unit; content = t.content }) done

-- it is the content of a result
abbrev pub IsOfResult : Script → List Call → Taken → Type 0
IsOfResult script history t = (host : HostNo) × (e : Ending) × IsIn host (host_numbers script) × IsIn e (endings_at script history host) × (number_of e.ended ≡ Some t.number)

-- Once all hosts have ended, each content that a unit has taken has the number of a result.
abbrev pub ResultsTell : Type 0
ResultsTell = (script : Script) (history : List Call) → IsScript script → IsHistory script history →
    EachEnding script history (λ host e. IsSome (number_of e.ended) → Tells script history host e)
    × (all_ended script history ≡ true → (row : RowNo) (unit : ℕ) → row.0 < script.rows → unit + 1 < script.n → AllByRecursion (IsOfResult script history) (taken_at script history row unit))
