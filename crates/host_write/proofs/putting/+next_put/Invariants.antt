use Rattle.std.proofs.Common.{◌-◌, length}
use Rattle.host_write.proofs.putting.+next_put.Given as goal

abbrev pub decreases-next_put : goal.decreases-next_put
decreases-next_put l = length l.rows.now - l.row
