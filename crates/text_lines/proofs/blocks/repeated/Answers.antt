use Rattle.std.proofs.Common.{ap, Some, replicate, get_or, ℕ, List}
use Rattle.text_lines.proofs.BlockLemmas.{decoded_byte}
use Rattle.text_lines.proofs.blocks.repeated.Goals as goal

pub returns-in-Ok : goal.returns-in-Ok
returns-in-Ok c = λ byte l is. let d = decoded_byte c.args.text.now byte _ _ c.decode_to_slice.ensures.value l is in ap (λ (out : List ℕ). Some (replicate 64 (get_or out 0 0))) d.out_is

pub returns-in-Err : goal.returns-in-Err
returns-in-Err c = λ byte l is. let d = decoded_byte c.args.text.now byte _ _ c.decode_to_slice.ensures.value l is in absurd (cc (d.done, c.in-Err.is))
