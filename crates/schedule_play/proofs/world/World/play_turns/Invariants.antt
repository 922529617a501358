use Rattle.std.proofs.Common.{◌≡◌, List, take}
use Rattle.raid_base.specs.declared.messages.Call.{Call}
use Rattle.script_text.specs.Script.{Script}
use Rattle.schedule_play.specs.Plays.{HasPlayed}
use Rattle.schedule_play.specs.World.{Shows, IsReady, AllTell, Keeps}
use Rattle.schedule_play.proofs.world.World.play_turns.Given as goal

abbrev pub invariant-loop-turn : goal.invariant-loop-turn
invariant-loop-turn g l = IsReady l.self × (l.self.script.now ≡ l.initial.self.script.now) × (AllTell l.initial.self.bays.items → AllTell l.self.bays.items) × Keeps l.initial.self l.self × ((script : Script) (earlier : List Call) → Shows script earlier l.initial.self → HasPlayed script earlier (take l.turn-index script.turns) l.self)
