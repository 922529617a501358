use Rattle.std.proofs.Common.{◌+◌, ◌-◌, ◌/◌, arith, drop}
use Rattle.std.proofs.lemmas.List.{length-take}
use Rattle.virtual_objects.proofs.JobLemmas.{last_starts}
use Rattle.virtual_objects.proofs.parts.parts_in.Goals as goal

pub parts_from-requires-clause-ends : goal.parts_from-requires-clause-ends
parts_from-requires-clause-ends c =
    last_starts c.args.units c.args.first (c.args.first + c.from.result) _ c.args.rows.now c.requires.units_least (omega arith) c.if-blocks-last.false
    (omega (arith, length-take (c.args.first / c.args.units + ((c.args.first + c.from.result - 1) / c.args.units + 1 - c.args.first / c.args.units) - c.args.first / c.args.units) (drop (c.args.first / c.args.units) c.args.rows.now)))
