use Rattle.report_text.proofs.ContentReading.{same-read}
use Rattle.report_text.proofs.reading.contents.block_of.Goals as goal

pub returns : goal.returns
returns c = same-read _ c.args.word.now c.read_block.ensures.block c.read_block.ensures.text c.read_block.ensures.of_text
