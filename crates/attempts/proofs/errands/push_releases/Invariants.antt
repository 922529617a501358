use Rattle.std.proofs.Common.{◌≡◌, take}
use Rattle.attempts.specs.Batches.{with_releases}
use Rattle.attempts.proofs.errands.push_releases.Given as goal

abbrev pub invariant-loop-bay : goal.invariant-loop-bay
invariant-loop-bay l = l.releases ≡ with_releases l.initial.releases l.row (take l.bay-index l.bays)
