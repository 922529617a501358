use Rattle.clock_merge.proofs.MergedCalls.{merged_calls_are_tied}
use Rattle.clock_merge.proofs.laws.merged_calls_are_tied.Goals as goal

pub returns : goal.returns
returns c = merged_calls_are_tied
