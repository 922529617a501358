use Rattle.std.proofs.Common.{arith}
use Rattle.report_text.specs.Views.{shown_block}
use Rattle.load_maker.proofs.TallyLemmas.{block-more}
use Rattle.load_maker.proofs.tally.Tally.add_first.Goals as goal

pub loop-block-preserved : goal.loop-block-preserved
loop-block-preserved c =
    let script = c.args.view.now.script.now in (
      block-more c.args.self.now c.loop-block.self c.add.new.self (shown_block script.n script.objects c.args.view.now.cells.now c.args.view.now.opened.now) c.args.object.now c.loop-block.block c.shown_block.result c.loop-block.invariant.0 c.shown_block.ensures c.add.ensures.value,
      omega (arith, c.add.ensures.lost, c.loop-block.invariant.1),
      omega (arith, c.add.ensures.hidden, c.loop-block.invariant.2),
    )
