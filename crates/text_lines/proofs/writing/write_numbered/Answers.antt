use Rattle.text_lines.proofs.WriteLemmas.{numbered_is, writes_text}
use Rattle.text_lines.proofs.writing.write_numbered.Goals as goal

pub returns : goal.returns
returns g c = writes_text _ _ _ _ _ _ _ _ (numbered_is c.args.word.now _ _ _ c.as_slice.ensures.value c.number_text.ensures) c.write_pieces.ensures
