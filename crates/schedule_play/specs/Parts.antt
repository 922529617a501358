-- The parts of a world, and the history that they have come to.
use Rattle.std.specs.Prelude.{◌≡◌, ◌≤◌, List, length, map}
use Rattle.std.specs.Vec.{vec_capacity}
use Rattle.raid_base.specs.declared.messages.Call.{Call}
use Rattle.block_store.specs.declared.store.Store.{Ghosts}
use Rattle.script_text.specs.Script.{Script, host_numbers}
use Rattle.host_engine.specs.declared.host.Host.{Host}
use Rattle.histories.specs.History.{IsHistory, turns_of}
use Rattle.histories.specs.Asked.{AreAsked}
use Rattle.schedule_play.specs.World.{EachAt, HostShows, BayShows, AllTell, all_requests}
use Rattle.schedule_play.specs.declared.world.World.{World}
use Rattle.schedule_play.specs.declared.parting.Parts.{Parts}

-- the world of these parts
abbrev pub world_of : {D : Type 0} {g : Ghosts D} → Parts D g → World D g
world_of parts = record {
  script = parts.script;
  hosts = parts.hosts;
  bays = parts.bays;
  turns = parts.turns;
  others = parts.others;
  gathered = parts.gathered;
}

-- hosts and bays have come to this history, by these turns
pub record PartsShow {D : Type 0} {g : Ghosts D} (script : Script) (history : List Call) (parts : Parts D g) : Type 0 where
  pub plays : parts.script.now ≡ script
  pub asked : AreAsked script history
  pub hosts_stand : EachAt (λ k host. HostShows script history host) parts.hosts.items
  pub numbers : map (λ (host : Host). host.no) parts.hosts.items ≡ host_numbers script
  pub bays_stand : EachAt (BayShows script history) parts.bays.items
  pub bay_count : length parts.bays.items ≡ script.n
  pub turns_are : parts.turns.items ≡ turns_of history
  pub turn_room : all_requests script ≤ vec_capacity parts.turns
  pub told : AllTell parts.bays.items → IsHistory script history
