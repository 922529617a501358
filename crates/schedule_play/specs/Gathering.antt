-- What is gathered of a world at its end.
use Rattle.std.specs.Prelude.{◌≡◌, ℕ, ◌+◌, ◌*◌, ◌≤◌, List, [], length, sum_by}
use Rattle.std.specs.List.{flat_map}
use Rattle.std.specs.Vec.{vec_len, vec_capacity}
use Rattle.raid_base.specs.declared.numbers.HostNo.{HostNo}
use Rattle.raid_base.specs.declared.cells.Content.{Content}
use Rattle.raid_base.specs.declared.messages.Call.{Call}
use Rattle.block_store.specs.declared.store.Store.{Ghosts}
use Rattle.script_text.specs.Script.{Script, host_numbers, jobs_of}
use Rattle.histories.specs.Bounds.{host_contents}
use Rattle.schedule_play.specs.declared.gathering.Gathered.{Gathered}
use Rattle.schedule_play.specs.declared.world.World.{World}
use Rattle.histories.specs.Results.{results, contents}
use Rattle.schedule_play.specs.Rows.{cells_after, opened_after}

-- how many jobs a host has
abbrev pub job_count : Script → HostNo → ℕ
job_count script host = length (jobs_of script host)

-- nothing, and room for all that a play of the script may leave
pub record IsBlank (script : Script) (now : Gathered) : Type 0 where
  pub results : now.results.items ≡ []
  pub contents : now.contents.items ≡ []
  pub cells : now.cells.items ≡ []
  pub opened : now.opened.items ≡ []
  pub journals : now.journals.items ≡ []
  pub results_room : sum_by (job_count script) (host_numbers script) ≤ vec_capacity now.results
  pub contents_room : sum_by (host_contents script) (host_numbers script) ≤ vec_capacity now.contents
  pub cells_room : script.rows * script.n ≤ vec_capacity now.cells
  pub opened_room : script.rows ≤ vec_capacity now.opened
  pub journals_room : script.n ≤ vec_capacity now.journals

-- what a history has come to: the results, the contents of the reads one after another, the cells row by row, and the open rows
pub record IsGathered (script : Script) (history : List Call) (now : Gathered) : Type 0 where
  pub results : now.results.items ≡ results script history
  pub contents : now.contents.items ≡ flat_map (λ (read : List Content). read) (contents script history)
  pub cells : now.cells.items ≡ cells_after script history
  pub opened : now.opened.items ≡ opened_after script history

-- what closing a world needs: room for all stores and journals
pub record IsClosable {D : Type 0} {g : Ghosts D} (now : World D g) : Type 0 where
  pub stores : vec_len now.others + vec_len now.bays ≤ vec_capacity now.others
  pub none : now.gathered.journals.items ≡ []
  pub journals : vec_len now.bays ≤ vec_capacity now.gathered.journals
