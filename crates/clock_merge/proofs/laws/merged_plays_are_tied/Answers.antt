use Rattle.clock_merge.proofs.MergedPlays.{merged_plays_are_tied}
use Rattle.clock_merge.proofs.laws.merged_plays_are_tied.Goals as goal

pub returns : goal.returns
returns c = merged_plays_are_tied
