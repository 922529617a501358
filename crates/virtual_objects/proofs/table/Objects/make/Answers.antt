use Rattle.std.proofs.lemmas.List.{length-replicate}
use Rattle.virtual_objects.proofs.TableLemmas.{no_objects_are}
use Rattle.virtual_objects.proofs.MarkLemmas.{none_marked}
use Rattle.virtual_objects.proofs.table.Objects.make.Goals as goal

pub invariant_of-result : goal.invariant_of-result
invariant_of-result c = rw (c.new.ensures.items, c.in_ok-used.ensures)
    (no_objects_are c.args.n c.args.rows c.requires.devices_least c.requires.devices_most c.requires.rows_least c.requires.rows_most, none_marked c.args.rows, length-replicate _ _)
