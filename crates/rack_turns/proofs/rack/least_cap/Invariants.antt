use Rattle.std.proofs.Common.{◌≡◌, ◌≤◌, ◌*◌, ◌-◌, ◌^◌, drop, length}
use Rattle.rack_turns.specs.Shadows.{shadows}
use Rattle.rack_turns.specs.Views.{total, cap_of, least_cap}
use Rattle.rack_turns.proofs.rack.least_cap.Given as goal

abbrev pub invariant-loop-k : goal.invariant-loop-k
invariant-loop-k g l =
    (l.k ≤ length l.fn.bays)
    × (l.least ≡ least_cap (shadows (drop l.k l.fn.bays)))
    × (total cap_of (shadows (drop l.k l.fn.bays)) ≤ (length l.fn.bays - l.k) * (2 ^ 32 - 1))

abbrev pub decreases-loop-k : goal.decreases-loop-k
decreases-loop-k g l = l.k
