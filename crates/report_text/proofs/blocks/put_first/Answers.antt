use Rattle.std.proofs.Common.{arith, ℕ}
use Rattle.std.proofs.lemmas.List.FromFn.{get_or-map-range_with_len, length-map-range_with_len}
use Rattle.virtual_objects.specs.Objects.{Address}
use Rattle.report_text.specs.Views.{shown_line, first_blocks}
use Rattle.report_text.proofs.Appending.{appends-item, item-fails, appends-all}
use Rattle.report_text.proofs.blocks.put_first.Goals as goal

pub returns-in_err-put_shown : goal.returns-in_err-put_shown
returns-in_err-put_shown g c =
    let address : ℕ → Address = λ block. record { object = c.args.object.now; block = block } in
    let line = shown_line c.args.objects.now.n c.args.objects.now.objects c.args.cells.now c.args.opened.now in
    let len = length-map-range_with_len address 0 c.args.blocks in
    let at = get_or-map-range_with_len address 0 c.args.blocks c.loop-block.block c.loop-block.block (address 0) (omega arith) (omega arith) in
    item-fails line (first_blocks c.args.object.now c.args.blocks) c.loop-block.block (address 0) (address c.loop-block.block) (omega (arith, len)) at c.loop-block.invariant c.in_err-put_shown.ensures c.from_residual.ensures.0

pub loop-block-preserved : goal.loop-block-preserved
loop-block-preserved g c =
    let address : ℕ → Address = λ block. record { object = c.args.object.now; block = block } in
    let line = shown_line c.args.objects.now.n c.args.objects.now.objects c.args.cells.now c.args.opened.now in
    let len = length-map-range_with_len address 0 c.args.blocks in
    let at = get_or-map-range_with_len address 0 c.args.blocks c.loop-block.block c.loop-block.block (address 0) (omega arith) (omega arith) in
    appends-item line (first_blocks c.args.object.now c.args.blocks) c.loop-block.block (address 0) (address c.loop-block.block) (omega (arith, len)) at c.loop-block.invariant c.in_ok-put_shown.ensures

pub returns : goal.returns
returns g c =
    let address : ℕ → Address = λ block. record { object = c.args.object.now; block = block } in
    let len = length-map-range_with_len address 0 c.args.blocks in
    appends-all (shown_line c.args.objects.now.n c.args.objects.now.objects c.args.cells.now c.args.opened.now) (first_blocks c.args.object.now c.args.blocks) c.loop-block.block (omega (arith, len)) c.loop-block.invariant
