use Rattle.std.proofs.Common.{◌≡◌, ◌∙◌, ap, arith, rules, List}
use Rattle.std.proofs.lemmas.Grind.{common_steps}
use Rattle.script_text.specs.Script.{Script}
use Rattle.serial_array.specs.Blocks.{ObjectBlocks, content_at, zero_objects}
use Rattle.serial_array.proofs.BlockLemmas.{zeros-at}
use Rattle.serial_array.proofs.blocks.SerialArray.make.Goals as goal

pub returns-clause-zeros : goal.returns-clause-zeros
returns-clause-zeros c =
    let all : c.loop-object.objects.items ≡ zero_objects c.args.script.now = first_of (search rules, grind (arith, common_steps)) in
    let least = c.devices.ensures.objects.devices_least in
    let same = c.script.invariant.0 in
    let seen = ap (λ (s : Script). s.n) c.script.view_is in
    λ address. ap (λ (xs : List ObjectBlocks). content_at xs address) all ∙ zeros-at c.args.script.now address (omega arith)
