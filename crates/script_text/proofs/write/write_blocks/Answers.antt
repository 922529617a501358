use Rattle.std.proofs.Common.{List, [], ℕ}
use Rattle.text_lines.specs.Blocks.{block_text}
use Rattle.text_lines.specs.Lines.{spaced}
use Rattle.text_lines.proofs.WriteLemmas.{handed_on, writes_stopped}
use Rattle.script_text.proofs.write.write_blocks.Goals as goal

pub returns-in_err-write_block : goal.returns-in_err-write_block
returns-in_err-write_block g c =
    handed_on _ _ _ _ _ _ _ _ c.from_residual.ensures.0 (writes_stopped g.K.Sink.written g.K.Sink.tells g.K.Sink.faults (λ (block : List ℕ). spaced (block_text block)) c.args.blocks.now c.loop-block.block-index [] _ _ _ _ c.loop-block-test.true c.loop-block.invariant c.in_err-write_block.ensures)
