-- What the jobs that have ended give.
use Rattle.std.specs.Prelude.{◌≡◌, ℕ, List, length, take, map}
use Rattle.std.specs.List.{AllByRecursion}
use Rattle.raid_base.specs.declared.numbers.HostNo.{HostNo}
use Rattle.raid_base.specs.declared.messages.Call.{Call}
use Rattle.raid_base.specs.declared.jobs.JobEnd.{JobEnd}
use Rattle.raid_base.specs.declared.jobs.JobEnd.TheVariants as job_ends
use Rattle.script_text.specs.Script.{Script, jobs_of}
use Rattle.script_text.specs.Ranges.{IsScript}
use Rattle.histories.specs.Plain.{task_count}
use Rattle.histories.specs.Progress.{Ending}
use Rattle.histories.specs.History.{endings_at}

-- a read that is done has a content for each of its blocks, and no other job has any
abbrev pub contents_due : JobEnd → ℕ → ℕ
contents_due (job_ends.Read n) blocks = blocks
contents_due _ blocks = 0

abbrev pub IsFilled : Ending → Type 0
IsFilled e = length e.contents ≡ contents_due e.ended (task_count e.job.task)

-- the endings are those of a host's first jobs
pub record AreEndings (script : Script) (host : HostNo) (endings : List Ending) : Type 0 where
  pub jobs : map (λ (e : Ending). e.job) endings ≡ take (length endings) (jobs_of script host)
  pub filled : AllByRecursion IsFilled endings

-- So it is after every list of calls.
abbrev pub EndingsAreFilled : Type 0
EndingsAreFilled = (script : Script) (history : List Call) (host : HostNo) → IsScript script → AreEndings script host (endings_at script history host)
