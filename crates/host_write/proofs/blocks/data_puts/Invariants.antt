use Rattle.std.proofs.Common.{◌≡◌, map, take}
use Rattle.raid_base.specs.Cells.{plain_cell}
use Rattle.stripe_layout.specs.Placement.{bay_of}
use Rattle.attempts.specs.Accesses.{access_of}
use Rattle.attempts.specs.Puts.{block_at, put}
use Rattle.host_write.proofs.blocks.data_puts.Given as goal

abbrev pub invariant-loop-unit : goal.invariant-loop-unit
invariant-loop-unit l =
    l.puts
    ≡ record {
      id = l.job.id;
      row = l.part.row;
      number = l.fn.number;
      errands = map (λ unit. put l.job.id l.part.row l.fn.number (plain_cell (block_at (access_of l.job l.blocks) l.part unit)) (bay_of l.job.n l.part.row unit)) (take l.unit-index l.unit-items);
    }
