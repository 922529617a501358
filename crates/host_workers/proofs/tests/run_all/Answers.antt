use Rattle.std.proofs.Common.{ap, ◌∙◌, length}
use Rattle.host_workers.proofs.TestLemmas.{guests-back, lent-back}
use Rattle.host_workers.proofs.tests.run_all.Goals as goal

pub returns : goal.returns
returns g c =
    let r = c.requires.ready in
    let lent = c.as_mut_slice.ensures.value in
    guests-back r.script c.args.rack.now c.args.workers.items c.as_mut_slice.result.now c.run_hosts.new.workers _ r.run lent (c.run_hosts.ensures.run r.script) c.run_hosts.ensures.count c.requires.guests
    (lent-back c.run_hosts.new.workers c.args.workers.items c.args.workers.len (c.run_hosts.ensures.count ∙ ap length lent) c.args.workers.ok.0)
