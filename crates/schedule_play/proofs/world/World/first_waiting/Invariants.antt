use Rattle.std.proofs.Common.{◌≡◌, ℕ, ◌<◌, false, List, get_or}
use Rattle.raid_base.specs.declared.messages.Call.{Call}
use Rattle.script_text.specs.Script.{Script}
use Rattle.host_engine.specs.declared.host.Host.{Host}
use Rattle.schedule_play.specs.Plays.{waits}
use Rattle.schedule_play.specs.World.{Shows}
use Rattle.schedule_play.proofs.world.World.first_waiting.Given as goal

abbrev pub invariant-loop-place : goal.invariant-loop-place
invariant-loop-place g l = (script : Script) (history : List Call) → Shows script history l.self → (k : ℕ) (d : Host) → k < l.place →
    waits script history l.from (get_or l.self.hosts.items k d).no ≡ false
