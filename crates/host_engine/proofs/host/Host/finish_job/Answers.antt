use Rattle.std.proofs.Common.{List, ◌++◌, refl, ap, ◌∙◌}
use Rattle.raid_base.specs.declared.cells.Content.{Content}
use Rattle.host_engine.specs.Left.{contents_kept}
use Rattle.host_engine.proofs.HostLemmas.{counts-finished}
use Rattle.host_engine.proofs.host.Host.finish_job.Goals as goal

pub returns-clause-counts : goal.returns-clause-counts
returns-clause-counts c = λ script host p h.
    counts-finished script host c.args.self.now _ p c.args.end (contents_kept c.args.kept c.args.self.now.attempt) h c.requires.job refl refl refl refl refl refl refl refl refl refl c.push_reserved.ensures.items
    (c.in-Ok.ensures.items ∙ ap (λ (read : List Content). c.args.self.now.contents.items ++ read) c.kept.ensures)
