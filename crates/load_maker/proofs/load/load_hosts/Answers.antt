use Rattle.std.proofs.Common.{◌≡◌, ◌∷◌, [], ◌++◌, List, ◌≤◌, ◌+◌, ◌*◌, length, ap, ◌∙◌, arith}
use Rattle.script_text.specs.Script.{HostJobs}
use Rattle.load_maker.specs.Load.{host_blocks, load_hosts, operator}
use Rattle.load_maker.proofs.DealLemmas.{hosts-more, blocks-more}
use Rattle.load_maker.proofs.load.load_hosts.Goals as goal

pub loop-host-init : goal.loop-host-init
unfolding host_blocks load_hosts
loop-host-init c =
    let pushed : c.push.new.self.items ≡ operator ∷ [] = c.push.ensures.items ∙ ap (λ (hs : List HostJobs). hs ++ c.in_ok-operator.field-0 ∷ []) c.new_in-hosts.ensures ∙ ap (λ (h : HostJobs). h ∷ []) c.in_ok-operator.ensures in
    (pushed, c.requires.empty, ap length pushed, omega (arith, ap length c.requires.empty))

pub loop-host-preserved : goal.loop-host-preserved
loop-host-preserved c =
    let n = c.args.n in
    let host = c.loop-host.host in
    let few = c.in_ok-jobs.ensures.few in
    let count : length c.push-in-loop-host.new.self.items ≡ host + 1 + 1 = omega (arith, c.push-in-loop-host.ensures.len, c.loop-host.invariant.2) in
    let room : length c.host_jobs.new.blocks.items ≤ 12000 * (host + 1) = omega (arith, few, c.loop-host.invariant.3, c.requires.most) in (
      hosts-more n host c.in_ok-jobs.jobs.items c.loop-host.hosts.items c.push-in-loop-host.new.self.items c.loop-host.blocks.items c.loop-host.invariant.0 c.loop-host.invariant.1 c.in_ok-jobs.ensures.jobs c.push-in-loop-host.ensures.items,
      blocks-more n host c.loop-host.blocks.items c.host_jobs.new.blocks.items c.loop-host.invariant.1 c.in_ok-jobs.ensures.blocks,
      count,
      room,
    )
