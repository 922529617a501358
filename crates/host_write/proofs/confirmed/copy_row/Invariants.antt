use Rattle.std.proofs.Common.{◌≡◌, [], take, length}
use Rattle.host_write.proofs.confirmed.copy_row.Given as goal

-- the wanted slots so far
abbrev pub invariant-loop-grant : goal.invariant-loop-grant
invariant-loop-grant l =
    (l.room ≡ record { part = l.row.part; parity = l.fn.parity; wanted = take l.grant-index l.row.wanted; others = [] })
    × (length l.room.wanted ≡ l.grant-index)

-- all of them, and the others so far
abbrev pub invariant-loop-grant-2 : goal.invariant-loop-grant-2
invariant-loop-grant-2 l =
    (l.room ≡ record { part = l.row.part; parity = l.fn.parity; wanted = l.row.wanted; others = take l.grant-index l.row.others })
    × (length l.room.others ≡ l.grant-index)
