-- How many requests a script may need.
use Rattle.std.specs.Prelude.{ℕ, ◌*◌, List, length, Result, Ok, Err}
use Rattle.std.specs.List.{sum_by}
use Rattle.raid_base.specs.declared.numbers.HostNo.{HostNo}
use Rattle.raid_base.specs.declared.jobs.Job.{Job}
use Rattle.raid_base.specs.declared.jobs.Task.{Task}
use Rattle.raid_base.specs.declared.jobs.Task.TheVariants.{Read, Write, Recover, Lose, Fit, Rebuild}
use Rattle.raid_base.specs.declared.jobs.RowPart.{RowPart}
use Rattle.raid_base.specs.declared.jobs.PartsFault.{PartsFault}
use Rattle.script_text.specs.Script.{Script, HostJobs, jobs_of, parts_of}

-- the rows that a read or write touches, and none where it is refused
abbrev pub touched : Result (List RowPart) PartsFault → ℕ
touched (Ok parts) = length parts
touched (Err fault) = 0

-- at most so many requests go to any one bay for a job
abbrev pub weight : Script → Task → ℕ
weight script (Read object first count) = 4 * script.tries * touched (parts_of script object first count)
weight script (Write object first from count) = 4 * script.tries * touched (parts_of script object first count)
weight script (Recover row) = 4 * script.tries
weight script (Rebuild bay) = 4 * script.tries * script.rows
weight script (Lose bay) = 1
weight script (Fit bay) = 1

abbrev pub weights : Script → List Job → ℕ
weights script jobs = sum_by (λ (job : Job). weight script job.task) jobs

-- those of a host
abbrev pub quota : Script → HostNo → ℕ
quota script host = weights script (jobs_of script host)

-- those of all hosts at all bays
abbrev pub total : Script → ℕ
total script = script.n * sum_by (λ (host : HostJobs). weights script host.jobs) script.hosts
