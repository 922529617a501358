use Rattle.std.proofs.Common.{◌≡◌, ◌≤◌, take, map, length}
use Rattle.std.specs.Vec.{vec_len, vec_capacity}
use Rattle.script_text.specs.Script.{HostJobs}
use Rattle.host_engine.specs.declared.host.Host.{Host}
use Rattle.host_engine.specs.Stands.{IsFreshHost}
use Rattle.schedule_play.specs.World.{EachAt}
use Rattle.schedule_play.proofs.making.make_hosts.Given as goal

abbrev pub invariant-loop-jobs : goal.invariant-loop-jobs
invariant-loop-jobs l = record {
  numbers : map (λ (h : Host). h.no) l.hosts.items ≡ map (λ (h : HostJobs). h.host) (take l.jobs-index l.jobs-items);
  fresh : EachAt (λ k (h : Host). IsFreshHost l.script h.no h) l.hosts.items;
  count : vec_len l.hosts ≡ l.jobs-index;
  room : length l.jobs-items ≤ vec_capacity l.hosts;
}
