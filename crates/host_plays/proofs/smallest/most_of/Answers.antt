use Rattle.std.proofs.Common.{◌≡◌, true, List, subst, sym}
use Rattle.raid_base.specs.declared.jobs.Job.{Job}
use Rattle.histories.specs.Plain.{are_sized}
use Rattle.histories.proofs.bounds.ScriptLemmas.{jobs-sized}
use Rattle.host_plays.proofs.smallest.most_of.Goals as goal

pub requests_in-requires-clause-sized : goal.requests_in-requires-clause-sized
requests_in-requires-clause-sized c = subst (λ (jobs : List Job). are_sized jobs ≡ true) (sym c.jobs_of-jobs.ensures) (jobs-sized c.args.script.now c.requires c.args.no)
