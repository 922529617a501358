use Rattle.std.proofs.Common.{refl}
use Rattle.text_lines.proofs.BlockLemmas.{candidate_short, candidate_long}
use Rattle.text_lines.proofs.blocks.candidate.Goals as goal

pub returns-then-text-eq2 : goal.returns-then-text-eq2
returns-then-text-eq2 c = λ block b is. candidate_short c.args.text.now block _ _ refl c.if-text-eq2.true c.repeated.ensures b is

pub returns-else-text-eq2 : goal.returns-else-text-eq2
returns-else-text-eq2 c = λ block b is. candidate_long c.args.text.now block _ _ refl c.if-text-eq2.false (c.decoded.ensures block) b is
