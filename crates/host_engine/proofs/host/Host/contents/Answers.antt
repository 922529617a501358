use Rattle.std.proofs.Common.{◌≡◌, ◌∙◌, ℕ, ◌+◌, List, ap, sym, arith}
use Rattle.std.specs.Prelude.{slice_get}
use Rattle.raid_base.specs.declared.cells.Content.{Content}
use Rattle.raid_base.specs.declared.jobs.Job.{Job}
use Rattle.raid_base.specs.declared.jobs.JobResult.{JobResult}
use Rattle.script_text.specs.Script.{jobs_of}
use Rattle.host_engine.specs.Stands.{results_of, contents_of}
use Rattle.host_engine.specs.Reads.{contents_among}
use Rattle.host_engine.proofs.ReadLemmas.{reads-apart}
use Rattle.host_engine.proofs.host.Host.contents.Goals as goal

pub returns : goal.returns
returns c = λ script host p stands endings.
    let jobs = jobs_of script host in
    let results = results_of host p.endings in
    c.contents_of.ensures
    ∙ ap (λ (own : List Job). contents_among own c.as_slice.result.now c.as_slice-2.result.now c.args.job) stands.counts.listed
    ∙ ap (λ (told : List JobResult). contents_among jobs told c.as_slice-2.result.now c.args.job) (c.as_slice.ensures.value ∙ stands.counts.results)
    ∙ ap (λ (read : List Content). contents_among jobs results read c.args.job) (c.as_slice-2.ensures.value ∙ stands.counts.contents)
    ∙ ap (contents_among jobs results (contents_of p.endings)) (whole c.args.job)
    ∙ reads-apart jobs host 0 jobs p.endings c.args.job (λ j. ap (slice_get jobs) (sym (whole j))) endings.jobs endings.filled
  where
    whole : (k : ℕ) → k ≡ 0 + k
    whole k = omega arith
