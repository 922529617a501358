use Rattle.std.proofs.Common.{rules}
use Rattle.std.proofs.lemmas.List.FromFn.{fill_by_all}
use Rattle.report_text.specs.Report.{flag}
use Rattle.report_text.proofs.texts.flags.Goals as goal

pub returns : goal.returns
returns c = fill_by_all (flag c.args.made) c.loop-block.digits 255 0 c.loop-block.invariant.0 (search rules)
