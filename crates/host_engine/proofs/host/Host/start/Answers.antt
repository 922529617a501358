use Rattle.std.proofs.Common.{sym, ◌∙◌, ◌≤◌, length, subst, Bool, false, arith}
use Rattle.histories.specs.Progress.{Progress}
use Rattle.host_engine.specs.Stands.{Stands, Skips, BeginsFirst}
use Rattle.host_engine.proofs.HostLemmas.{start-more, start-over, start-stands}
use Rattle.host_engine.proofs.host.Host.start.Goals as goal

pub loop-self-preserved : goal.loop-self-preserved
loop-self-preserved c =
    let i = c.loop-self.invariant in
    let new = c.begin_job.new.self in
    let skips : Skips false c.loop-self.self new = rw c.if-begin_job.false at c.begin_job.ensures.job in
    record {
      keeps = record {
        jobs = c.begin_job.ensures.room.jobs ∙ i.keeps.jobs;
        plays = c.begin_job.ensures.room.plays ∙ i.keeps.plays;
        transcript = c.begin_job.ensures.room.transcript ∙ i.keeps.transcript;
        contents = omega (arith, c.begin_job.ensures.room.contents, i.keeps.contents);
      };
      fresh = skips.1;
      none = skips.2 ∙ i.none;
      goes = λ script host p h.
          let q = i.goes script host p h in
          let begun = subst (λ (b : Bool). BeginsFirst script host q.0.jobs b q.0 new) c.if-begin_job.false (c.begin_job.ensures.begun script host q.0 q.1) in
          let more = start-more script host c.loop-self.self.job q.0 new q.1.jobs skips.0 begun in
          (more.0, more.1, q.2 ∙ more.2);
    }

pub returns-then-begin_job-clause-stands : goal.returns-then-begin_job-clause-stands
returns-then-begin_job-clause-stands c = λ script host p h.
    let q = c.loop-self.invariant.goes script host p h in
    let begun = subst (λ (b : Bool). BeginsFirst script host q.0.jobs b q.0 c.begin_job.new.self) c.if-begin_job.true (c.begin_job.ensures.begun script host q.0 q.1) in
    subst (λ (r : Progress). Stands script host c.begin_job.new.self r) (sym q.2) (start-stands script host q.0 c.begin_job.new.self begun)

pub returns-clause-stands : goal.returns-clause-stands
returns-clause-stands c = λ script host p h.
    let now = c.loop-self.self in
    let q = c.loop-self.invariant.goes script host p h in
    let past : length now.jobs.now ≤ now.job = omega (arith, c.loop-self-test.false) in
    subst (λ (r : Progress). Stands script host now r) (sym q.2) (start-over script host now q.0 q.1 c.loop-self.invariant.none past)
