use Rattle.std.proofs.Common.{◌≡◌, ◌≤◌, ◌+◌, map}
use Rattle.report_text.specs.Views.{first_blocks, shown_block}
use Rattle.load_maker.specs.Tallies.{with_blocks}
use Rattle.load_maker.proofs.tally.Tally.add_first.Given as goal

abbrev pub invariant-loop-block : goal.invariant-loop-block
invariant-loop-block l =
    let script = l.view.script.now in
    (l.self ≡ with_blocks l.initial.self (map (shown_block script.n script.objects l.view.cells.now l.view.opened.now) (first_blocks l.object l.block)))
    × (l.self.lost ≤ l.initial.self.lost + l.block)
    × (l.self.hidden ≤ l.initial.self.hidden + l.block)
