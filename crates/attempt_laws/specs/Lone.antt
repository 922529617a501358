-- One host alone, and no faults.
use Rattle.std.specs.Prelude.{◌≡◌, ◌^◌, ◌≤◌, false, List, None, IsOk}
use Rattle.std.specs.List.{AllByRecursion}
use Rattle.raid_base.specs.declared.numbers.HostNo.{HostNo}
use Rattle.raid_base.specs.declared.messages.Call.{Call}
use Rattle.raid_base.specs.declared.jobs.Job.{Job}
use Rattle.raid_base.specs.Replies.{is_fault}
use Rattle.script_text.specs.Script.{HostJobs, Script}
use Rattle.script_text.specs.Ranges.{IsScript}
use Rattle.script_text.specs.Weights.{total}
use Rattle.histories.specs.Plain.{task_parts}
use Rattle.histories.specs.Progress.{Ending}
use Rattle.histories.specs.Causes.{IsReadOrWrite}
use Rattle.histories.specs.Completeness.{IsDoneBy}
use Rattle.histories.specs.History.{IsHistory, endings_at}

-- a job is this host's, only reads or writes, and is not to stop
abbrev pub IsLoneJob : HostNo → HostNo → Job → Type 0
IsLoneJob host whose job = (whose ≡ host) × IsReadOrWrite job.task × (job.quit ≡ None)

-- all jobs of the script are such
abbrev pub IsLone : HostNo → Script → Type 0
IsLone host script = AllByRecursion (λ (h : HostJobs). AllByRecursion (IsLoneJob host h.host) h.jobs) script.hosts

-- no bay has answered Fault
abbrev pub AreFaultless : List Call → Type 0
AreFaultless history = AllByRecursion (λ (call : Call). is_fault call.answer.reply ≡ false) history

-- a job that has parts is done at its first attempt
abbrev pub IsDoneAtOnce : Script → Ending → Type 0
IsDoneAtOnce script e = IsOk (task_parts script e.job.task) → (e.tries ≡ 1) × IsDoneBy e.job.task e.ended

-- where one host alone reads and writes, and no bay has answered Fault, each job that has ended is so
abbrev pub LoneJobsAreDone : Script → List Call → Type 0
LoneJobsAreDone script history = (host : HostNo) → IsLone host script → AreFaultless history → AllByRecursion (IsDoneAtOnce script) (endings_at script history host)

-- So it is in every history.
abbrev pub LoneHostsAreDone : Type 0
LoneHostsAreDone = (script : Script) (history : List Call) → IsScript script → total script ≤ 2 ^ 20 → IsHistory script history → LoneJobsAreDone script history
