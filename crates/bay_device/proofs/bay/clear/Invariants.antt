use Rattle.std.proofs.Common.{◌≡◌, ◌≤◌, IsTrue, take, drop, replicate}
use Rattle.raid_base.specs.Cells.{zeros}
use Rattle.bay_device.proofs.bay.clear.Given as goal

abbrev pub invariant-loop-row : goal.invariant-loop-row
invariant-loop-row g l =
    (g.D.Store.tells l.store ≡ g.D.Store.tells l.fn.store)
    × (g.D.Store.size l.store ≡ g.D.Store.size l.fn.store)
    × (g.D.Store.faults l.fn.store ≤ g.D.Store.faults l.store)
    × (IsTrue (g.D.Store.tells l.fn.store) → take l.row (g.D.Store.content l.store) ≡ replicate l.row zeros)
    × (drop l.row (g.D.Store.content l.store) ≡ drop l.row (g.D.Store.content l.fn.store))
