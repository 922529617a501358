use Rattle.std.proofs.Common.{◌≡◌, ◌-◌, length, None}
use Rattle.raid_base.specs.declared.numbers.HostNo.{HostNo}
use Rattle.script_text.specs.Script.{Script}
use Rattle.histories.specs.Progress.{Progress, start_jobs}
use Rattle.host_engine.specs.Stands.{Counts, KeepsRoom}
use Rattle.host_engine.proofs.host.Host.start.Given as goal

abbrev pub invariant-loop-self : goal.invariant-loop-self
invariant-loop-self l = record {
  keeps : KeepsRoom l.initial.self l.self;
  fresh : l.self.tries ≡ 0;
  none : l.self.duty ≡ None;
  goes : (script : Script) (host : HostNo) (p : Progress) → Counts script host l.initial.self p →
      (q : Progress) × Counts script host l.self q × (start_jobs script host p.jobs p ≡ start_jobs script host q.jobs q);
}

abbrev pub decreases-loop-self : goal.decreases-loop-self
decreases-loop-self l = length l.initial.self.jobs.now - l.self.job
