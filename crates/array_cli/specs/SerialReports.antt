-- What a report promises, said of the report alone: an array without devices gives these results and these blocks.
use Rattle.std.specs.Prelude.{◌≡◌, ◌==◌, List, length, map, flat_map, filter, slice_get, Option, Some, None}
use Rattle.std.specs.List.{Contains, filter_map, range_with_len, zip}
use Rattle.raid_base.specs.declared.numbers.HostNo.{HostNo}
use Rattle.raid_base.specs.declared.cells.Content.{Content}
use Rattle.raid_base.specs.declared.cells.Shown.{Shown}
use Rattle.raid_base.specs.declared.cells.Shown.TheVariants.{Seen}
use Rattle.raid_base.specs.declared.jobs.Job.{Job}
use Rattle.raid_base.specs.declared.jobs.JobResult.{JobResult}
use Rattle.virtual_objects.specs.Objects.{Address}
use Rattle.script_text.specs.Script.{Script, jobs_of}
use Rattle.report_text.specs.Report.{ReportOf}
use Rattle.report_text.specs.Views.{object_blocks, flags_of}
use Rattle.serial_array.specs.Serial.{Array, IsSerial, Reported}

-- a host's results in a report, each with what it read
abbrev pub results_in : ReportOf → HostNo → List (JobResult × List Content)
results_in report host =
    filter (λ (r : JobResult × List Content). r.0.host.0 == host.0) (zip report.results report.contents)

-- such a result, with its job if there is one
abbrev pub with_job : Option Job → JobResult × List Content → Option Reported
with_job None result = None
with_job (Some job) (result, contents) = Some (record { job = job; ended = result.«end»; contents = contents })

-- what a report tells of a host's jobs: each of its results in order, with its job and what it read
abbrev pub reported_in : Script → ReportOf → HostNo → List Reported
reported_in script report host =
    filter_map (λ (r : JobResult × List Content). with_job (slice_get (jobs_of script host) r.0.job) r) (results_in report host)

-- An array exists, such that the results of the report are a serial run of it, by their numbers, and each
-- block that the report shows as seen is that array's. A host's results are numbered from 0, and each is of
-- a job of the host. All blocks of all objects are shown, in order. A part has a flag for each of its blocks.
pub record IsSerialReport (script : Script) (report : ReportOf) : Type 0 where
  pub last : Array
  pub serial : IsSerial script (reported_in script report) last
  pub shown : (address : Address) (content : Content) →
      Contains report.blocks (address, Seen content) → content ≡ last address
  pub jobs : (host : HostNo) →
      map (λ (r : JobResult × List Content). r.0.job) (results_in report host)
      ≡ range_with_len 0 (length (reported_in script report host))
  pub blocks : map (λ (b : Address × Shown). b.0) report.blocks ≡ flat_map (object_blocks script.n) script.objects
  pub flags : report.flags ≡ map (flags_of script) report.results
