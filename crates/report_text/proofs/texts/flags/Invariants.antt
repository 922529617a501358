use Rattle.std.proofs.Common.{◌≡◌, ℕ, ◌<◌, length, get_or}
use Rattle.report_text.specs.Report.{flag}
use Rattle.report_text.proofs.texts.flags.Given as goal

abbrev pub invariant-loop-block : goal.invariant-loop-block
invariant-loop-block l = (length l.digits ≡ 255) × ((k : ℕ) → k < l.block → get_or l.digits k 0 ≡ flag l.made k)
