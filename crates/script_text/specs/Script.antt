-- A script, as contracts see it.
use Rattle.std.specs.Prelude.{ℕ, ◌==◌, List, [], take, drop, map, find, Option, Some, None, Result}
use Rattle.raid_base.specs.declared.numbers.HostNo.{HostNo}
use Rattle.raid_base.specs.declared.names.Name.{Name}
use Rattle.raid_base.specs.declared.messages.Mode.{Mode}
use Rattle.raid_base.specs.declared.jobs.Job.{Job}
use Rattle.raid_base.specs.declared.messages.Turn.{Turn}
use Rattle.raid_base.specs.declared.jobs.RowPart.{RowPart}
use Rattle.raid_base.specs.declared.jobs.PartsFault.{PartsFault}
use Rattle.virtual_objects.specs.Objects.{Object, parts}

pub record HostJobs : Type 0 where
  pub host : HostNo
  pub jobs : List Job

pub record Script : Type 0 where
  pub n : ℕ
  pub rows : ℕ
  pub mode : Mode
  pub patience : ℕ
  pub tries : ℕ
  pub objects : List Object
  pub hosts : List HostJobs
  pub blocks : List (List ℕ)
  pub turns : List Turn

abbrev pub jobs_in : Option HostJobs → List Job
jobs_in None = []
jobs_in (Some host) = host.jobs

-- a host's jobs
abbrev pub jobs_of : Script → HostNo → List Job
jobs_of script host = jobs_in (find (λ (h : HostJobs). h.host.0 == host.0) script.hosts)

abbrev pub host_numbers : Script → List HostNo
host_numbers script = map (λ (h : HostJobs). h.host) script.hosts

-- the rows and units of a job
abbrev pub parts_of : Script → Name → ℕ → ℕ → Result (List RowPart) PartsFault
parts_of script object first count = parts script.n script.objects object first count

-- the blocks of a write
abbrev pub blocks_of : Script → ℕ → ℕ → List (List ℕ)
blocks_of script from count = take count (drop from script.blocks)
