use Rattle.std.proofs.Common.{ap, Some}
use Rattle.text_lines.proofs.BlockLemmas.{decoded}
use Rattle.text_lines.proofs.blocks.decoded.Goals as goal

pub returns-in-Ok : goal.returns-in-Ok
returns-in-Ok c = λ block b is. let d = decoded c.args.text.now block 64 _ _ c.decode_to_slice.ensures.value b.size b.bytes is in ap Some d.out_is

pub returns-in-Err : goal.returns-in-Err
returns-in-Err c = λ block b is. let d = decoded c.args.text.now block 64 _ _ c.decode_to_slice.ensures.value b.size b.bytes is in absurd (cc (d.done, c.in-Err.is))
