use Rattle.std.proofs.Common.{rules}
use Rattle.virtual_objects.specs.Table.{ObjectTable, held}
use Rattle.virtual_objects.proofs.TableLemmas.{added_inside, kept_inside}
use Rattle.virtual_objects.proofs.table.Objects.add.Goals as goal

pub invariant_of-self-in-Ok : goal.invariant_of-self-in-Ok
invariant_of-self-in-Ok c =
    let table : ObjectTable = record { n = c.self.inside.n; rows = c.self.inside.rows; objects = c.self.inside.objects.items } in
    added_inside table c.args.name c.args.rows.now _ _ _ c.self.invariant (search rules) (search rules) c.requires.rows_some (search rules)
    (c.in_default.ensures.marks (held table.objects) c.self.invariant.1) c.in_default.ensures.len c.in-Ok.ensures.added

pub invariant_of-self-in-Err : goal.invariant_of-self-in-Err
invariant_of-self-in-Err c =
    let table : ObjectTable = record { n = c.self.inside.n; rows = c.self.inside.rows; objects = c.self.inside.objects.items } in
    kept_inside table c.args.rows.now _ _ _ _ c.self.invariant
    (c.in_default.ensures.marks (held table.objects) c.self.invariant.1) c.in_default.ensures.len c.clear.ensures.cleared c.clear.ensures.len c.in-Err.ensures.same
