use Rattle.std.proofs.Common.{◌≡◌, ◌≤◌, ◌+◌, ◌*◌, length}
use Rattle.load_maker.specs.Load.{host_blocks, load_hosts}
use Rattle.load_maker.proofs.load.load_hosts.Given as goal

abbrev pub invariant-loop-host : goal.invariant-loop-host
invariant-loop-host l =
    (l.hosts.items ≡ load_hosts l.n l.host)
    × (l.blocks.items ≡ host_blocks l.n l.host)
    × (length l.hosts.items ≡ l.host + 1)
    × (length l.blocks.items ≤ 8 * 1500 * l.host)
