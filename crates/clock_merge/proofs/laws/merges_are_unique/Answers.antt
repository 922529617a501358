use Rattle.clock_merge.proofs.UniqueMerges.{merges_are_unique}
use Rattle.clock_merge.proofs.laws.merges_are_unique.Goals as goal

pub returns : goal.returns
returns c = merges_are_unique
