-- What a history gives: the results of its jobs, with what they read, and what is shown of each block.
use Rattle.std.specs.Prelude.{ℕ, List, Option, Some, None, map, flat_map}
use Rattle.std.specs.List.{AllByRecursion, enumerate_from}
use Rattle.raid_base.specs.declared.numbers.RowNo.{RowNo}
use Rattle.raid_base.specs.declared.cells.Content.{Content}
use Rattle.raid_base.specs.declared.messages.Call.{Call}
use Rattle.raid_base.specs.declared.numbers.HostNo.{HostNo}
use Rattle.raid_base.specs.declared.cells.Shown.{Shown}
use Rattle.raid_base.specs.declared.cells.Shown.TheVariants.{Hidden}
use Rattle.raid_base.specs.declared.jobs.JobResult.{JobResult}
use Rattle.virtual_objects.specs.Objects.{Address, place}
use Rattle.script_text.specs.Script.{Script, host_numbers}
use Rattle.histories.specs.Progress.{Ending}
use Rattle.histories.specs.History.{endings_at}
use Rattle.histories.specs.RowStates.{shown_at}
use Rattle.histories.specs.Torn.{IsLostRightly}

-- Results by host, then by job
abbrev pub result_of : HostNo → ℕ × Ending → JobResult
result_of host (job, e) = record { host = host; job = job; «end» = e.ended }

abbrev pub host_results : Script → List Call → HostNo → List JobResult
host_results script history host = map (result_of host) (enumerate_from 0 (endings_at script history host))

abbrev pub results : Script → List Call → List JobResult
results script history = flat_map (host_results script history) (host_numbers script)

-- the contents of each result's read
abbrev pub contents : Script → List Call → List (List Content)
contents script history = map (λ (e : Ending). e.contents) (flat_map (endings_at script history) (host_numbers script))

-- what is shown of a block
abbrev pub shown_place : Script → List Call → Option (RowNo × ℕ) → Shown
shown_place script history None = Hidden
shown_place script history (Some (row, unit)) = shown_at script history row unit

abbrev pub shown_block : Script → List Call → Address → Shown
shown_block script history address = shown_place script history (place script.n script.objects address)

-- each job that has ended is so
abbrev pub EachEnding : Script → List Call → (HostNo → Ending → Type 0) → Type 0
EachEnding script history P = (host : HostNo) → AllByRecursion (P host) (endings_at script history host)

-- Lost blocks: only missing units of torn rows are named lost
abbrev pub NamesLostRightly : Script → List Call → Type 0
NamesLostRightly script history = EachEnding script history (λ host e. IsLostRightly script history e e.job.task e.ended)
