use Rattle.std.proofs.Common.{arith, get_or, length, sym, ap, ◌∙◌}
use Rattle.std.specs.List.{flat_map}
use Rattle.virtual_objects.specs.Objects.{Object}
use Rattle.report_text.specs.Views.{shown_line, object_blocks}
use Rattle.report_text.proofs.Appending.{appends-item, item-fails, appends-all}
use Rattle.report_text.proofs.BlockLines.{flat_map-flat_map, rows-short}
use Rattle.report_text.proofs.blocks.put_objects.Goals as goal

pub put_object-requires : goal.put_object-requires
put_object-requires g c =
    let all = c.as_slice-object-items.ensures in
    let at = c.object-item.is ∙ ap (λ os. get_or os c.loop-object.object-index c.object-item.result) all.value in
    let few = rows-short c.args.objects.now c.loop-object.object-index c.object-item.result all.objects (omega (arith, ap length all.value)) in
    omega (arith, few, ap (λ (o : Object). length o.rows) at)

pub returns-in_err-put_object : goal.returns-in_err-put_object
returns-in_err-put_object g c =
    let n = c.args.objects.now.n in
    let line = shown_line n c.args.objects.now.objects c.args.cells.now c.args.opened.now in
    let all = c.as_slice-object-items.ensures in
    let at = sym (c.object-item.is ∙ ap (λ os. get_or os c.loop-object.object-index c.object-item.result) all.value) in
    rw flat_map-flat_map (item-fails (λ object. flat_map line (object_blocks n object)) c.args.objects.now.objects c.loop-object.object-index c.object-item.result c.object-item.result (omega (arith, ap length all.value)) at c.loop-object.invariant c.in_err-put_object.ensures c.from_residual.ensures.0)

pub loop-object-preserved : goal.loop-object-preserved
loop-object-preserved g c =
    let n = c.args.objects.now.n in
    let line = shown_line n c.args.objects.now.objects c.args.cells.now c.args.opened.now in
    let all = c.as_slice-object-items.ensures in
    let at = sym (c.object-item.is ∙ ap (λ os. get_or os c.loop-object.object-index c.object-item.result) all.value) in
    appends-item (λ object. flat_map line (object_blocks n object)) c.args.objects.now.objects c.loop-object.object-index c.object-item.result c.object-item.result (omega (arith, ap length all.value)) at c.loop-object.invariant c.in_ok-put_object.ensures

pub returns : goal.returns
returns g c =
    let n = c.args.objects.now.n in
    let line = shown_line n c.args.objects.now.objects c.args.cells.now c.args.opened.now in
    rw flat_map-flat_map (appends-all (λ object. flat_map line (object_blocks n object)) c.args.objects.now.objects c.loop-object.object-index (omega (arith, ap length c.as_slice-object-items.ensures.value)) c.loop-object.invariant)
