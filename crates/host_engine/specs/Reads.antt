-- What each job of a host has read.
use Rattle.std.specs.Prelude.{ℕ, ◌==◌, if◌then◌else◌, List, [], ◌∷◌, map, take, drop, slice_get, slice_index_or, Option, Some, None}
use Rattle.raid_base.specs.declared.cells.Content.{Content}
use Rattle.raid_base.specs.declared.jobs.Job.{Job}
use Rattle.raid_base.specs.declared.jobs.JobEnd.{JobEnd}
use Rattle.raid_base.specs.declared.jobs.JobEnd.TheVariants.{Read}
use Rattle.raid_base.specs.declared.jobs.JobResult.{JobResult}
use Rattle.histories.specs.Plain.{task_count}
use Rattle.histories.specs.Endings.{contents_due}
use Rattle.histories.specs.Progress.{Ending}

-- what a job has read: its contents where it is a read that is done
abbrev pub read_by : JobEnd → List Content → List Content
read_by (Read n) contents = contents
read_by _ contents = []

-- and the job of this number: nothing where it has not ended
abbrev pub contents_at : List Ending → ℕ → List Content
contents_at endings job = slice_index_or (map (λ (e : Ending). read_by e.ended e.contents) endings) job []

-- how many contents a job has that has ended so
abbrev pub job_due : JobEnd → Option Job → ℕ
job_due ended None = 0
job_due ended (Some job) = contents_due ended (task_count job.task)

abbrev pub count_due : List Job → JobResult → ℕ
count_due jobs result = job_due result.«end» (slice_get jobs result.job)

-- those of one job, out of those of all results, which stand one after another
abbrev pub contents_among : List Job → List JobResult → List Content → ℕ → List Content
contents_among jobs [] contents job = []
contents_among jobs (result ∷ results) contents job =
    if result.job == job then take (count_due jobs result) contents
    else contents_among jobs results (drop (count_due jobs result) contents) job
