use Rattle.std.proofs.Common.{◌≡◌, ◌≤◌, ◌*◌, ◌^◌, map, take}
use Rattle.std.specs.List.{flat_map}
use Rattle.report_text.specs.Views.{object_blocks, shown_block}
use Rattle.load_maker.specs.Tallies.{no_blocks, with_blocks}
use Rattle.load_maker.proofs.tally.tally_blocks.Given as goal

abbrev pub invariant-loop-object : goal.invariant-loop-object
invariant-loop-object l =
    let script = l.view.script.now in
    (l.tally ≡ with_blocks no_blocks (map (shown_block script.n script.objects l.view.cells.now l.view.opened.now) (flat_map (object_blocks script.n) (take l.object-index script.objects))))
    × (l.tally.lost ≤ l.object-index * 2 ^ 32)
    × (l.tally.hidden ≤ l.object-index * 2 ^ 32)
