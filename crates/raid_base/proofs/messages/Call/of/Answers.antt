use Rattle.raid_base.proofs.ExchangeLemmas.{call-shows}
use Rattle.raid_base.proofs.messages.Call.of.Goals as goal

pub returns : goal.returns
returns c =
    call-shows c.args.ask.now.what c.args.answer.now.reply c.of.result c.of.ensures c.requires.kept c.args.bay c.args.ask.now.host c.args.ask.now.clock c.args.ask.now.moment
    c.args.answer.now.clock
