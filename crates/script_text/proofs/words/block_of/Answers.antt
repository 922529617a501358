use Rattle.script_text.proofs.WordTexts.{block-read}
use Rattle.script_text.proofs.words.block_of.Goals as goal

pub returns-clause-some : goal.returns-clause-some
returns-clause-some c = (block-read _ _ c.read_block.ensures.block c.read_block.ensures.text c.read_block.ensures.of_text).0

pub returns-clause-value : goal.returns-clause-value
returns-clause-value c = (block-read _ _ c.read_block.ensures.block c.read_block.ensures.text c.read_block.ensures.of_text).1
