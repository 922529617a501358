use Rattle.std.proofs.Common.{sym, subst, Option}
use Rattle.raid_base.specs.declared.numbers.HostNo.{HostNo}
use Rattle.schedule_play.specs.Plays.{IsFound}
use Rattle.schedule_play.proofs.PlayLemmas.{next-zero}
use Rattle.schedule_play.proofs.world.World.next_waiting.Goals as goal

pub returns-in-None : goal.returns-in-None
returns-in-None g c script history shows =
    subst (λ (o : Option HostNo). IsFound c.args.self.now.hosts.items o c.first_waiting-in-None.result)
    (sym (next-zero script history c.args.from (c.in-None.ensures script history shows))) (c.first_waiting-in-None.ensures script history shows)
