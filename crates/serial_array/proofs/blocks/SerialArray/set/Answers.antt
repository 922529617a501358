use Rattle.std.proofs.Common.{◌∙◌, sym}
use Rattle.serial_array.proofs.BlockLemmas.{found-there, found-set, not-found}
use Rattle.serial_array.proofs.blocks.SerialArray.set.Goals as goal

pub returns-in-Some-clause-there : goal.returns-in-Some-clause-there
returns-in-Some-clause-there c =
    c.set.ensures.there
    ∙ found-there c.self.inside.objects.items c.args.self.now c.in-Some.index c.index_mut.result.now c.args.name.now c.args.block
    c.self.view_is c.in-Some.ensures c.index_mut.ensures.value

pub returns-in-Some-clause-after : goal.returns-in-Some-clause-after
returns-in-Some-clause-after c = λ address.
    found-set c.self.inside.objects.items c.args.self.now c.in-Some.index c.index_mut.result.now c.set.new.self c.args.name.now c.args.block c.args.content c.set.result address
    c.self.view_is c.in-Some.ensures c.index_mut.ensures.value c.set.ensures.after c.set.ensures.there

pub returns-in-None-clause-there : goal.returns-in-None-clause-there
returns-in-None-clause-there c = sym (not-found c.args.self.now c.args.name.now c.args.block c.in-None.ensures)
