-- Plays without loss, recovery, stop or fault.
use Rattle.std.specs.Prelude.{◌≡◌, ◌≢◌, ℕ, ◌+◌, ◌<◌, true, false, List, None}
use Rattle.std.specs.List.{AllByRecursion}
use Rattle.raid_base.specs.declared.numbers.RowNo.{RowNo}
use Rattle.raid_base.specs.declared.messages.Call.{Call}
use Rattle.raid_base.specs.declared.jobs.Job.{Job}
use Rattle.raid_base.specs.declared.jobs.Task.{Task}
use Rattle.raid_base.specs.declared.jobs.Task.TheVariants as tasks
use Rattle.raid_base.specs.declared.cells.Shown.TheVariants.{Hidden}
use Rattle.script_text.specs.Script.{HostJobs, Script}
use Rattle.script_text.specs.Ranges.{IsScript}
use Rattle.histories.specs.History.{IsHistory}
use Rattle.histories.specs.RowStates.{is_open, shown_at}
use Rattle.histories.specs.Turns.{all_ended}
use Rattle.attempt_laws.specs.Lone.{AreFaultless}

-- a task that neither recovers a row nor loses a device
abbrev pub IsCalmTask : Task → Type 0
IsCalmTask (tasks.Recover row) = ⊥
IsCalmTask (tasks.Lose bay) = ⊥
IsCalmTask _ = Unit {0}

-- a job with such a task, in which the host is not to stop
abbrev pub IsCalmJob : Job → Type 0
IsCalmJob job = IsCalmTask job.task × (job.quit ≡ None)

-- all jobs of the script are such
abbrev pub IsCalm : Script → Type 0
IsCalm script = AllByRecursion (λ (h : HostJobs). AllByRecursion IsCalmJob h.jobs) script.hosts

-- Once all hosts of a calm script have ended, and no bay has answered Fault, each row is closed, and each of its units is shown.
abbrev pub CalmPlaysClose : Type 0
CalmPlaysClose = (script : Script) (history : List Call) → IsScript script → IsHistory script history → all_ended script history ≡ true →
    IsCalm script → AreFaultless history → (row : RowNo) → row.0 < script.rows →
    (is_open script history row ≡ false) × ((unit : ℕ) → unit + 1 < script.n → shown_at script history row unit ≢ Hidden)
