use Rattle.std.proofs.Common.{◌≡◌, ◌<◌, ◌-◌, ◌^◌, List}
use Rattle.raid_base.specs.declared.messages.Call.{Call}
use Rattle.std.specs.Vec.{vec_len}
use Rattle.script_text.specs.Script.{Script}
use Rattle.histories.specs.Turns.{last_moment}
use Rattle.schedule_play.specs.Plays.{HasPlayed}
use Rattle.schedule_play.specs.World.{IsReady, AllTell, Keeps, all_requests}
use Rattle.schedule_play.proofs.PlayLemmas.{HasReached}
use Rattle.schedule_play.proofs.world.World.play_rounds.Given as goal

abbrev pub invariant-loop-place : goal.invariant-loop-place
invariant-loop-place g l = IsReady l.self × (l.moment < 2 ^ 40)
    × (AllTell l.initial.self.bays.items → AllTell l.self.bays.items)
    × Keeps l.initial.self l.self
    × ((script : Script) (earlier : List Call) → HasPlayed script earlier script.turns l.initial.self → l.initial.moment ≡ last_moment script.turns → HasReached script earlier l.self l.from l.moment)

abbrev pub decreases-loop-place : goal.decreases-loop-place
decreases-loop-place g l = all_requests l.self.script.now - vec_len l.self.turns
