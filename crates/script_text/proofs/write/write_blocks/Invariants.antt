use Rattle.std.proofs.Common.{take, Ok, List, ℕ}
use Rattle.std.specs.List.{flat_map}
use Rattle.text_lines.specs.Blocks.{block_text}
use Rattle.text_lines.specs.Lines.{spaced}
use Rattle.text_lines.specs.Writing.{Writes}
use Rattle.script_text.proofs.write.write_blocks.Given as goal

abbrev pub invariant-loop-block : goal.invariant-loop-block
invariant-loop-block g l = Writes g.K.Sink.written g.K.Sink.tells g.K.Sink.faults l.initial.sink l.sink (Ok tt) (flat_map (λ (block : List ℕ). spaced (block_text block)) (take l.block-index l.blocks))
