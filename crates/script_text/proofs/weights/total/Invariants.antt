use Rattle.std.proofs.Common.{◌≡◌, ◌*◌, ◌^◌, ◌≤◌, length, take}
use Rattle.std.specs.List.{flat_map, sum_by}
use Rattle.script_text.specs.Script.{HostJobs}
use Rattle.script_text.specs.Weights.{weights}
use Rattle.script_text.proofs.weights.total.Given as goal

abbrev pub invariant-loop-entry : goal.invariant-loop-entry
invariant-loop-entry l =
    (l.sum ≡ sum_by (λ (host : HostJobs). weights l.script host.jobs) (take l.entry-index l.hosts))
    × (l.sum ≤ 2 ^ 20 * length (flat_map (λ (host : HostJobs). host.jobs) (take l.entry-index l.hosts)))
