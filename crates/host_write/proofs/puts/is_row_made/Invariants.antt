use Rattle.std.proofs.Common.{◌≡◌, ◌+◌, drop}
use Rattle.std.specs.List.{list_all}
use Rattle.stripe_layout.specs.Placement.{units_in}
use Rattle.virtual_objects.specs.Objects.{rank}
use Rattle.attempts.specs.Releases.{is_among}
use Rattle.host_write.proofs.puts.is_row_made.Given as goal

abbrev pub invariant-loop-i : goal.invariant-loop-i
invariant-loop-i l =
    list_all (λ unit. is_among l.made (l.part.at + rank unit (units_in l.n l.part.mask))) (drop l.i l.units.items)
    ≡ list_all (λ unit. is_among l.made (l.part.at + rank unit (units_in l.n l.part.mask))) (units_in l.n l.part.mask)
