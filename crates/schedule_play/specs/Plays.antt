-- A whole play of a world.
use Rattle.std.specs.Prelude.{◌≡◌, ℕ, ◌<◌, ◌≤◌, ◌&&◌, nat_le, not, Bool, true, false, List, length, slice_index_or, Option, Some, None}
use Rattle.raid_base.specs.declared.numbers.HostNo.{HostNo}
use Rattle.raid_base.specs.declared.messages.Call.{Call}
use Rattle.raid_base.specs.declared.messages.Turn.{Turn}
use Rattle.block_store.specs.declared.store.Store.{Ghosts}
use Rattle.script_text.specs.Script.{Script}
use Rattle.host_engine.specs.declared.host.Host.{Host}
use Rattle.histories.specs.History.{Faults, faults_in, has_ended, play}
use Rattle.histories.specs.Played.{Told}
use Rattle.histories.specs.Turns.{all_ended, last_moment, rounds}
use Rattle.schedule_play.specs.World.{AllTell, Shows, all_requests}
use Rattle.schedule_play.specs.declared.world.World.{World}

-- the number of a host that has not ended
abbrev pub unless_ended : Bool → HostNo → Option HostNo
unless_ended true host = None
unless_ended false host = Some host

-- from this number on, and not ended
abbrev pub waits : Script → List Call → ℕ → HostNo → Bool
waits script history from host = nat_le from host.0 && not (has_ended script history host)

-- the place and the number of this host
abbrev pub IsFound : List Host → Option HostNo → Option (ℕ × HostNo) → Type 0
IsFound hosts wanted None = wanted ≡ None
IsFound hosts wanted (Some (place, number)) = (wanted ≡ Some number) × (place < length hosts) × ((host : Host) → host ≡ slice_index_or hosts place host → host.no ≡ number)

-- a history to which these turns lead from an earlier one, with the faults that it tells
abbrev pub Plays : Script → List Call → List Turn → List Call → Type 0
Plays script earlier turns history = (faults : Faults) → Told script faults history → play script faults earlier turns ≡ history

pub record HasPlayed {D : Type 0} {g : Ghosts D} (script : Script) (earlier : List Call) (turns : List Turn) (now : World D g) : Type 0 where
  pub history : List Call
  pub shows : Shows script history now
  pub plays : Plays script earlier turns history

-- Where the script's turns and then at most so many in rounds lead from an earlier history. From none it is the simulator's
abbrev pub sim_from : Script → Faults → List Call → ℕ → List Call
sim_from script faults earlier most = rounds script faults most (play script faults earlier script.turns) 0 (last_moment script.turns)

-- the world is where these lead from there, with the faults that its history tells, and every host has ended
pub record Played {D : Type 0} {g : Ghosts D} (script : Script) (earlier : List Call) (now : World D g) : Type 0 where
  pub history : List Call
  pub shows : Shows script history now
  pub ended : all_ended script history ≡ true
  pub simulated : AllTell now.bays.items → (most : ℕ) → all_requests script ≤ most → history ≡ sim_from script (faults_in history) earlier most
