use Rattle.std.proofs.Common.{rules}
use Rattle.raid_base.specs.Exchanges.{exchange-back}
use Rattle.raid_base.proofs.messages.EntryPartialEq.eq.Goals as goal

pub returns : goal.returns
returns c =
    rw (← c.t1-1.view_is, ← c.t2-1.view_is, exchange-back c.t1-1.inside.exchange, exchange-back c.t2-1.inside.exchange) (search rules)
