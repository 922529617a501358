use Rattle.std.proofs.Common.{◌∙◌, ap, sym, length}
use Rattle.load_maker.specs.Load.{after_job}
use Rattle.load_maker.proofs.DealLemmas.{deal-jobs, deal-blocks, deal-few, next-job}
use Rattle.load_maker.proofs.jobs.host_jobs.Goals as goal

pub loop-i-preserved : goal.loop-i-preserved
loop-i-preserved c =
    let n = c.args.n in
    let host = c.args.host in
    let i = c.loop-i.i in
    let before = c.args.blocks.now.items in
    let jobs = c.in_ok-deal_job.ensures.jobs in
    let blocks = c.in_ok-deal_job.ensures.blocks in (
      c.after_job-state.ensures ∙ ap after_job c.loop-i.invariant.0 ∙ sym (next-job n i),
      deal-jobs n host i c.loop-i.state c.loop-i.jobs.items c.deal_job.new.jobs.items before c.loop-i.blocks.items c.loop-i.invariant.0 c.loop-i.invariant.1 c.loop-i.invariant.2 jobs,
      deal-blocks n host i c.loop-i.state before c.loop-i.blocks.items c.deal_job.new.blocks.items c.loop-i.invariant.0 c.loop-i.invariant.2 blocks,
      deal-few host i c.loop-i.state (length before) c.loop-i.blocks.items c.deal_job.new.blocks.items c.loop-i.invariant.3 blocks,
    )
