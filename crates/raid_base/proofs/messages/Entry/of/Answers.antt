use Rattle.raid_base.proofs.ExchangeLemmas.{entry-shows}
use Rattle.raid_base.proofs.messages.Entry.of.Goals as goal

pub returns : goal.returns
returns c = entry-shows c.args.ask.now.what c.args.reply.now c.of.result c.of.ensures c.requires.kept c.args.ask.now.host c.args.ask.now.clock c.args.ask.now.moment c.args.clock
