use Rattle.std.proofs.Common.{subst}
use Rattle.virtual_objects.specs.Table.{AreObjects}
use Rattle.virtual_objects.proofs.TableLemmas.{each_few}
use Rattle.virtual_objects.proofs.table.Objects.as_slice.Goals as goal

pub returns-clause-few : goal.returns-clause-few
returns-clause-few c = each_few c.args.self.now (subst AreObjects c.self.view_is c.self.invariant.0)
