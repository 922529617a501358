use Rattle.std.proofs.Common.{◌≡◌, ◌*◌, ◌^◌, ◌≤◌, take}
use Rattle.script_text.specs.Weights.{weights}
use Rattle.script_text.proofs.weights.weights_of.Given as goal

abbrev pub invariant-loop-job : goal.invariant-loop-job
invariant-loop-job l = (l.sum ≡ weights l.script (take l.job-index l.jobs)) × (l.sum ≤ 2 ^ 20 * l.job-index)
