-- How hosts get their passes, and how the passes come back.
use Rattle.std.specs.Prelude.{◌≡◌, ℕ, ◌-◌, true, false, All, List, [], ◌∷◌, length, map, replicate, reverse, slice_set}
use Rattle.raid_base.specs.declared.messages.Call.{Call}
use Rattle.block_store.specs.declared.store.Store.{Ghosts}
use Rattle.script_text.specs.Script.{Script}
use Rattle.host_engine.specs.declared.host.Host.{Host}
use Rattle.rack_turns.specs.declared.pass.Pass.{Pass}
use Rattle.rack_turns.specs.declared.rack.Rack.{Rack}
use Rattle.rack_turns.specs.Passes.{is_first, out_count, seen, IsPassOf}
use Rattle.host_workers.specs.declared.workers.Worker.{Worker}
use Rattle.host_workers.specs.Workers.{IsAtStart}

abbrev pub host_in : Worker → Host
host_in worker = worker.host

-- a worker whose pass may be joined
pub record IsBack {D : Type 0} {g : Ghosts D} (rack : Rack D g) (worker : Worker) : Type 0 where
  pub pass : IsPassOf rack worker.pass
  pub guest : is_first worker.pass ≡ false

-- all hosts have a pass, which they haven't asked with, and the first pass has none back
pub record HaveTheirPasses {D : Type 0} {g : Ghosts D} (script : Script) (rack : Rack D g)
    (hosts : List Host) (first : Pass) (workers : List Worker) : Type 0 where
  pub pass : IsPassOf rack first
  pub role : is_first first ≡ true
  pub out : out_count first ≡ length workers
  pub ended : (seen first).ended ≡ replicate 16 []
  pub hosts_are : map host_in (reverse workers) ≡ hosts
  pub start : All (IsAtStart script rack) workers
  pub guests : All (λ (worker : Worker). is_first worker.pass ≡ false) workers

-- what the first pass keeps of each host once these workers' passes are joined in turn
abbrev pub ended_with : List (List Call) → List Worker → List (List Call)
ended_with ended [] = ended
ended_with ended (worker ∷ workers) =
    ended_with (slice_set ended (seen worker.pass).standing.host.0 (seen worker.pass).asked) workers

-- the first pass has taken these workers' passes back in turn
pub record HasTakenBack {D : Type 0} {g : Ghosts D} (rack : Rack D g) (workers : List Worker) (old new : Pass) : Type 0 where
  pub pass : IsPassOf rack new
  pub role : is_first new ≡ true
  pub out : out_count new ≡ out_count old - length workers
  pub ended : (seen new).ended ≡ ended_with (seen old).ended workers
