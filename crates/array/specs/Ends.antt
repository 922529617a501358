-- What the program has done for the words behind its name.
use Rattle.std.specs.Prelude.{◌≡◌, ℕ, List, Some}
use Rattle.raid_base.specs.declared.status.Status.{Status}
use Rattle.raid_base.specs.declared.streams.Source.{Ghosts as SourceGhosts}
use Rattle.raid_base.specs.declared.streams.Sink.{Ghosts as SinkGhosts}
use Rattle.block_store.specs.contracts.memory.MemoryStoreStore.TheImpl.{ghosts as memory_stores}
use Rattle.array_cli.specs.Commands.{command_of}
use Rattle.array_cli.specs.Calls.{IsCall, IsLoad, IsNoCall, IsNoCallFor}
use Rattle.array_cli.specs.ThreadRuns.{IsRun}
use Rattle.array_cli.specs.declared.calls.Outcome.{Outcome}
use Rattle.array_cli.specs.declared.words.Command.TheVariants.{Sim, Run, Load}

-- what the words ask for was done, over stores in memory, and has ended with this status
pub record HasRun {S K : Type 0} (s : SourceGhosts S) (k : SinkGhosts K) (words : List (List ℕ)) (source later : S) (sink after : K) (stores : List (List (List ℕ))) (status : Status) : Type 0 where
  pub outcome : Outcome (List (List ℕ))
  pub sim : command_of words ≡ Some Sim → IsCall s k memory_stores source later sink after stores outcome
  pub run : command_of words ≡ Some Run → IsRun s k memory_stores source later sink after stores outcome
  pub load : (n : ℕ) → command_of words ≡ Some (Load n) → IsLoad k memory_stores n sink after stores outcome × (later ≡ source)
  pub others : IsNoCallFor (command_of words) → IsNoCall stores outcome × (later ≡ source) × (after ≡ sink)
  pub status_is : status ≡ outcome.status
