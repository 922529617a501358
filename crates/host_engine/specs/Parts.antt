-- The parts of a job as code has them.
use Rattle.std.specs.Prelude.{◌==◌, List, find, Result, Ok, Err}
use Rattle.raid_base.specs.declared.numbers.HostNo.{HostNo}
use Rattle.raid_base.specs.declared.jobs.Job.{Job}
use Rattle.script_text.specs.Script.{HostJobs, jobs_in}
use Rattle.raid_base.specs.declared.jobs.RowPart.{RowPart}
use Rattle.raid_base.specs.declared.jobs.PartsFault.{PartsFault}
use Rattle.arrayvec.specs.ArrayVec.{ArrayVec}

abbrev pub parts_as_items : Result (ArrayVec RowPart) PartsFault → Result (List RowPart) PartsFault
parts_as_items (Ok parts) = Ok parts.items
parts_as_items (Err fault) = Err fault

-- the jobs of the host among these
abbrev pub jobs_in_hosts : List HostJobs → HostNo → List Job
jobs_in_hosts hosts host = jobs_in (find (λ (h : HostJobs). h.host.0 == host.0) hosts)
