-- The report of a finished array: of its script, results, contents, turns, cells and open rows. Contents stand one after another,
-- in the order of results.
use Rattle.std.specs.Prelude.{ℕ, ◌-◌, ◌*◌, not, Bool, List, [], ◌∷◌, map, length, take, drop, slice_get, Option, Some, None}
use Rattle.std.specs.List.{flat_map, range_with_len}
use Rattle.raid_base.specs.declared.names.Name.{Name}
use Rattle.raid_base.specs.declared.numbers.RowNo.{RowNo}
use Rattle.raid_base.specs.declared.cells.Cell.{Cell}
use Rattle.raid_base.specs.declared.cells.Content.{Content}
use Rattle.raid_base.specs.declared.cells.Shown.{Shown}
use Rattle.raid_base.specs.declared.cells.Shown.TheVariants.{Hidden}
use Rattle.raid_base.specs.declared.messages.Turn.{Turn}
use Rattle.raid_base.specs.declared.jobs.Task.{Task}
use Rattle.raid_base.specs.declared.jobs.Task.TheVariants.{Read, Write, Recover, Lose, Fit, Rebuild}
use Rattle.raid_base.specs.declared.jobs.Job.{Job}
use Rattle.raid_base.specs.declared.jobs.JobEnd.{JobEnd}
use Rattle.raid_base.specs.declared.jobs.JobEnd.TheVariants as ends
use Rattle.raid_base.specs.declared.jobs.JobResult.{JobResult}
use Rattle.virtual_objects.specs.Objects.{Object, Address, place}
use Rattle.script_text.specs.Script.{Script, jobs_of}
use Rattle.report_text.specs.Report.{ReportOf, block_line}
use Rattle.report_text.specs.Rows.{shown_in}

-- how many blocks a job reads or writes
abbrev pub task_blocks : Task → ℕ
task_blocks (Read object first count) = count
task_blocks (Write object first from count) = count
task_blocks (Recover row) = 0
task_blocks (Lose bay) = 0
task_blocks (Fit bay) = 0
task_blocks (Rebuild bay) = 0

abbrev pub job_blocks : Option Job → ℕ
job_blocks None = 0
job_blocks (Some job) = task_blocks job.task

-- the job of a result
abbrev pub blocks_of_result : Script → JobResult → ℕ
blocks_of_result script result = job_blocks (slice_get (jobs_of script result.host) result.job)

-- a read has a content for each block of its job
abbrev pub content_count : JobEnd → ℕ → ℕ
content_count (ends.Read n) blocks = blocks
content_count _ blocks = 0

-- and a part a flag
abbrev pub flag_count : JobEnd → ℕ → ℕ
flag_count (ends.Part n made cause) blocks = blocks
flag_count _ blocks = 0

abbrev pub contents_of : Script → JobResult → ℕ
contents_of script result = content_count result.«end» (blocks_of_result script result)

abbrev pub flags_of : Script → JobResult → ℕ
flags_of script result = flag_count result.«end» (blocks_of_result script result)

-- the contents of each result
abbrev pub contents_by_result : Script → List JobResult → List Content → List (List Content)
contents_by_result script [] contents = []
contents_by_result script (result ∷ results) contents =
    take (contents_of script result) contents ∷ contents_by_result script results (drop (contents_of script result) contents)

-- the first blocks of an object, so many
abbrev pub first_blocks : Name → ℕ → List Address
first_blocks object count = map (λ block. record { object = object; block = block }) (range_with_len 0 count)

-- and all of them, n - 1 in a row
abbrev pub object_blocks : ℕ → Object → List Address
object_blocks n object = first_blocks object.name (length object.rows * (n - 1))

abbrev pub shown_place : ℕ → List (Option Cell) → List Bool → Option (RowNo × ℕ) → Shown
shown_place n cells opened None = Hidden
shown_place n cells opened (Some (row, unit)) = shown_in n cells opened row unit

-- what is shown of a block
abbrev pub shown_block : ℕ → List Object → List (Option Cell) → List Bool → Address → Shown
shown_block n objects cells opened address = shown_place n cells opened (place n objects address)

-- its line
abbrev pub shown_line : ℕ → List Object → List (Option Cell) → List Bool → Address → List ℕ
shown_line n objects cells opened address = block_line (address, shown_block n objects cells opened address)

abbrev pub report_in : Script → List JobResult → List Content → List Turn → List (Option Cell) → List Bool → ReportOf
report_in script results contents turns cells opened = record {
  results = results;
  contents = contents_by_result script results contents;
  flags = map (flags_of script) results;
  turns = turns;
  blocks = map (λ address. (address, shown_block script.n script.objects cells opened address)) (flat_map (object_blocks script.n) script.objects);
  closed = map not opened;
}
