use Rattle.text_lines.proofs.WriteLemmas.{spaced_is, writes_text}
use Rattle.text_lines.proofs.writing.write_block.Goals as goal

pub returns : goal.returns
returns g c = writes_text _ _ _ _ _ _ _ _ (spaced_is _ _ _ c.as_slice.ensures.value c.block_text.ensures.text) c.write_pieces.ensures
