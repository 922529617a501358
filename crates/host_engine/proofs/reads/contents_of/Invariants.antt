use Rattle.std.proofs.Common.{◌≡◌, drop}
use Rattle.host_engine.specs.Reads.{contents_among}
use Rattle.host_engine.proofs.reads.contents_of.Given as goal

abbrev pub invariant-loop-ended : goal.invariant-loop-ended
invariant-loop-ended l = contents_among l.jobs l.results l.contents l.job ≡ contents_among l.jobs (drop l.ended-index l.results) l.left l.job
