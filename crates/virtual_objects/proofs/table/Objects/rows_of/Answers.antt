use Rattle.std.proofs.Common.{◌≡◌, sym, ap, rules, arith, Some}
use Rattle.std.proofs.lemmas.Grind.{common_steps}
use Rattle.virtual_objects.specs.Objects.{rows_of}
use Rattle.virtual_objects.specs.Table.{ObjectTable}
use Rattle.virtual_objects.proofs.TableLemmas.{rows_few}
use Rattle.virtual_objects.proofs.table.Objects.rows_of.Goals as goal

pub returns-then-eq-clause-few : goal.returns-then-eq-clause-few
returns-then-eq-clause-few c =
    let table : ObjectTable = record { n = c.self.inside.n; rows = c.self.inside.rows; objects = c.self.inside.objects.items } in
    let found : Some c.as_slice.result.now ≡ rows_of table.objects c.args.name.now = first_of (search rules, grind (arith, common_steps)) in
    omega (arith, rows_few table c.args.name.now c.as_slice.result.now c.self.invariant.0 (sym found), ap (λ (t : ObjectTable). t.rows) c.self.view_is)
