use Rattle.std.proofs.Common.{◌∙◌, ap, arith}
use Rattle.script_text.specs.Script.{HostJobs}
use Rattle.script_text.proofs.WeightLemmas.{item_few}
use Rattle.script_text.proofs.weights.quota.Goals as goal

pub weights_of-requires-clause-few : goal.weights_of-requires-clause-few
weights_of-requires-clause-few c =
    let few = item_few c.args.script.now c.hosts-hosts.result.now c.loop-entry.entry-index c.entry-item.result c.as_slice.result.now c.hosts-hosts.ensures c.loop-entry-test.true c.entry-item.is (c.as_slice.ensures.value ∙ ap (λ (host : HostJobs). host.jobs) c.entry.view_is) in
    omega arith
