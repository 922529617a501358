use Rattle.std.proofs.Common.{◌≡◌, ◌≤◌, ◌<◌, ◌-◌, ap, ◌∙◌, arith}
use Rattle.script_text.specs.Script.{Script}
use Rattle.load_maker.proofs.TallyLemmas.{unit-below}
use Rattle.load_maker.proofs.tally.shown_block.Goals as goal

pub shown-requires : goal.shown-requires
shown-requires c =
    let table = c.script.inside.objects in
    let same : table.n ≡ c.args.view.now.script.now.n = c.script.invariant.0 ∙ ap (λ (s : Script). s.n) c.script.view_is in
    let least : 3 ≤ table.n = omega (arith, c.requires) in
    let below : c.in-Some.unit < table.n - 1 = unit-below table.n table.objects (record { object = c.args.object.now; block = c.args.block }) c.in-Some.row c.in-Some.unit least c.in-Some.ensures in
    omega arith
