use Rattle.std.proofs.Common.{◌≡◌, ◌≤◌, ◌<◌, ◌+◌, ◌∷◌, ◌∙◌, List, sym, ap, subst, arith, refl, length}
use Rattle.std.specs.Vec.{vec_len, vec_capacity}
use Rattle.host_engine.specs.declared.host.Host.{Host}
use Rattle.host_workers.proofs.Backs.{AreTaking, taking-start, taking-more, last-back, last-room, taken-hosts, taken-back, none-left}
use Rattle.host_workers.proofs.playing.take_passes.Goals as goal

pub loop-worker-init : goal.loop-worker-init
loop-worker-init g c = record {
  taking = taking-start c.args.rack.now c.args.first.now c.args.hosts.now.items c.args.workers.items (vec_capacity c.args.hosts.now) c.requires.pass.0 c.requires.pass.1 c.requires.back
      (omega (arith, c.requires.room, c.args.hosts.now.ok.0, c.args.workers.ok.0));
  room = refl;
}

pub join-requires-clause-other : goal.join-requires-clause-other
join-requires-clause-other g c = (last-back c.args.rack.now c.args.first.now c.loop-worker.first c.args.hosts.now.items c.loop-worker.hosts.items c.args.workers.items c.loop-worker.workers.items c.pop.new.self.items c.in-Some.worker
    (vec_capacity c.args.hosts.now) c.in-Some.ensures.items c.loop-worker.invariant.taking).pass

pub join-requires-clause-guest : goal.join-requires-clause-guest
join-requires-clause-guest g c = (last-back c.args.rack.now c.args.first.now c.loop-worker.first c.args.hosts.now.items c.loop-worker.hosts.items c.args.workers.items c.loop-worker.workers.items c.pop.new.self.items c.in-Some.worker
    (vec_capacity c.args.hosts.now) c.in-Some.ensures.items c.loop-worker.invariant.taking).guest

pub push_reserved-requires : goal.push_reserved-requires
push_reserved-requires g c =
    let less = last-room c.args.rack.now c.args.first.now c.loop-worker.first c.args.hosts.now.items c.loop-worker.hosts.items c.args.workers.items c.loop-worker.workers.items c.pop.new.self.items c.in-Some.worker
    (vec_capacity c.args.hosts.now) c.in-Some.ensures.items c.loop-worker.invariant.taking in
    omega (arith, less, c.loop-worker.hosts.ok.0, c.loop-worker.invariant.room)

pub loop-worker-preserved : goal.loop-worker-preserved
loop-worker-preserved g c = record {
  taking = subst (λ (hs : List Host). AreTaking c.args.rack.now c.args.first.now c.join.new.pass c.args.hosts.now.items hs c.args.workers.items c.pop.new.self.items (vec_capacity c.args.hosts.now))
      (sym c.push_reserved.ensures.items)
      (taking-more c.args.rack.now c.args.first.now c.loop-worker.first c.args.hosts.now.items c.loop-worker.hosts.items c.args.workers.items c.loop-worker.workers.items c.pop.new.self.items c.in-Some.worker
      (vec_capacity c.args.hosts.now) c.in-Some.ensures.items c.loop-worker.invariant.taking
      c.join.new.pass c.join.ensures.pass c.join.ensures.joined);
  room = c.push_reserved.ensures.capacity ∙ c.loop-worker.invariant.room;
}

pub returns-clause-hosts : goal.returns-clause-hosts
returns-clause-hosts g c = taken-hosts c.args.rack.now c.args.first.now c.loop-worker.first c.args.hosts.now.items c.loop-worker.hosts.items c.args.workers.items c.loop-worker.workers.items
    (vec_capacity c.args.hosts.now) (none-left c.loop-worker.workers.items (omega (arith, c.in_default.ensures.cases.0, c.loop-worker.workers.ok.0))) c.loop-worker.invariant.taking

pub returns-clause-first : goal.returns-clause-first
returns-clause-first g c = taken-back c.args.rack.now c.args.first.now c.loop-worker.first c.args.hosts.now.items c.loop-worker.hosts.items c.args.workers.items c.loop-worker.workers.items
    (vec_capacity c.args.hosts.now) (none-left c.loop-worker.workers.items (omega (arith, c.in_default.ensures.cases.0, c.loop-worker.workers.ok.0))) c.loop-worker.invariant.taking
