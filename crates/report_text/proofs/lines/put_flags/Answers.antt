use Rattle.std.proofs.Common.{ap, ◌∙◌, ◌≡◌, take, arith}
use Rattle.std.proofs.lemmas.List.FromFn.{take-map-range_with_len}
use Rattle.report_text.specs.Report.{flag, flags_text}
use Rattle.report_text.proofs.lines.put_flags.Goals as goal

pub returns : goal.returns
returns g c =
    let text : take c.args.blocks c.flags-flags.result ≡ flags_text c.args.made c.args.blocks =
    ap (take c.args.blocks) c.flags-flags.ensures ∙ take-map-range_with_len (flag c.args.made) 0 255 c.args.blocks (omega arith) in
    rw (← text) (rw c.from.ensures at c.put_word.ensures)
