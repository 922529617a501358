use Rattle.std.proofs.Common.{◌≡◌, ◌≤◌, ◌<◌, ◌+◌, ◌∷◌, ◌∙◌, ℕ, List, false, sym, ap, subst, arith, refl, length}
use Rattle.std.specs.Vec.{vec_len, vec_capacity}
use Rattle.raid_base.specs.declared.numbers.HostNo.{HostNo}
use Rattle.script_text.specs.Script.{HostJobs}
use Rattle.script_text.specs.Weights.{quota}
use Rattle.rack_turns.specs.Passes.{HasGiven, IsNewGuest, was_given, room_of}
use Rattle.host_workers.specs.declared.workers.Worker.{Worker}
use Rattle.host_workers.proofs.Passes.{AreGiving, giving-start, giving-more, next-at, next-below, next-room, next-new, number-same}
use Rattle.host_workers.proofs.playing.give_passes.Goals as goal

pub loop-host-init : goal.loop-host-init
loop-host-init g c = record {
  giving = giving-start c.args.script.now c.args.rack.now c.args.hosts.now.items c.args.first.now (vec_capacity c.args.workers) c.requires.may c.args.workers.items c.requires.empty;
  room = refl;
  space = omega (arith, c.args.workers.ok.0, ap length c.requires.empty, c.args.hosts.now.ok.0, c.requires.may.workers);
}

pub overflow_cast-quota : goal.overflow_cast-quota
overflow_cast-quota g c =
    let at = next-at c.args.script.now c.args.rack.now c.args.hosts.now.items c.args.first.now (vec_capacity c.args.workers) c.requires.may
    c.loop-host.hosts.items c.pop.new.self.items c.in-Some.host c.loop-host.first c.loop-host.workers.items c.in-Some.ensures.items c.loop-host.invariant.giving in
    let same : c.its.inside.host ≡ c.in-Some.host.no =
    ap (λ (j : HostJobs). j.host) c.its.view_is
    ∙ number-same c.args.script.now.hosts c.hosts-jobs.result.now (length c.pop.new.self.items) c.len.result c.in-Some.host c.index-jobs-len.result at c.hosts-jobs.ensures
    (c.len.ensures ∙ c.pop.new.self.ok.0) c.index-jobs-len.is in
    let few = next-room c.args.script.now c.args.rack.now c.args.hosts.now.items c.args.first.now (vec_capacity c.args.workers) c.requires.may
    c.loop-host.hosts.items c.pop.new.self.items c.in-Some.host c.loop-host.first c.loop-host.workers.items c.in-Some.ensures.items c.loop-host.invariant.giving in
    let most : c.quota.result ≡ quota c.args.script.now c.in-Some.host.no = c.quota.ensures ∙ ap (quota c.args.script.now) same in
    omega (arith, few, most, c.loop-host.invariant.giving.small)

pub split-pass-requires-clause-host : goal.split-pass-requires-clause-host
split-pass-requires-clause-host g c =
    let at = next-at c.args.script.now c.args.rack.now c.args.hosts.now.items c.args.first.now (vec_capacity c.args.workers) c.requires.may
    c.loop-host.hosts.items c.pop.new.self.items c.in-Some.host c.loop-host.first c.loop-host.workers.items c.in-Some.ensures.items c.loop-host.invariant.giving in
    let same : c.its.inside.host ≡ c.in-Some.host.no =
    ap (λ (j : HostJobs). j.host) c.its.view_is
    ∙ number-same c.args.script.now.hosts c.hosts-jobs.result.now (length c.pop.new.self.items) c.len.result c.in-Some.host c.index-jobs-len.result at c.hosts-jobs.ensures
    (c.len.ensures ∙ c.pop.new.self.ok.0) c.index-jobs-len.is in
    subst (λ (h : HostNo). h.0 < 16) (sym same) (next-below c.args.script.now c.args.rack.now c.args.hosts.now.items c.args.first.now (vec_capacity c.args.workers) c.requires.may
    c.loop-host.hosts.items c.pop.new.self.items c.in-Some.host c.loop-host.first c.loop-host.workers.items c.in-Some.ensures.items c.loop-host.invariant.giving)

pub split-pass-requires-clause-quota : goal.split-pass-requires-clause-quota
split-pass-requires-clause-quota g c =
    let at = next-at c.args.script.now c.args.rack.now c.args.hosts.now.items c.args.first.now (vec_capacity c.args.workers) c.requires.may
    c.loop-host.hosts.items c.pop.new.self.items c.in-Some.host c.loop-host.first c.loop-host.workers.items c.in-Some.ensures.items c.loop-host.invariant.giving in
    let same : c.its.inside.host ≡ c.in-Some.host.no =
    ap (λ (j : HostJobs). j.host) c.its.view_is
    ∙ number-same c.args.script.now.hosts c.hosts-jobs.result.now (length c.pop.new.self.items) c.len.result c.in-Some.host c.index-jobs-len.result at c.hosts-jobs.ensures
    (c.len.ensures ∙ c.pop.new.self.ok.0) c.index-jobs-len.is in
    let few = next-room c.args.script.now c.args.rack.now c.args.hosts.now.items c.args.first.now (vec_capacity c.args.workers) c.requires.may
    c.loop-host.hosts.items c.pop.new.self.items c.in-Some.host c.loop-host.first c.loop-host.workers.items c.in-Some.ensures.items c.loop-host.invariant.giving in
    let most : c.quota.result ≡ quota c.args.script.now c.in-Some.host.no = c.quota.ensures ∙ ap (quota c.args.script.now) same in
    omega (arith, few, most)

pub split-pass-requires-clause-new : goal.split-pass-requires-clause-new
split-pass-requires-clause-new g c =
    let at = next-at c.args.script.now c.args.rack.now c.args.hosts.now.items c.args.first.now (vec_capacity c.args.workers) c.requires.may
    c.loop-host.hosts.items c.pop.new.self.items c.in-Some.host c.loop-host.first c.loop-host.workers.items c.in-Some.ensures.items c.loop-host.invariant.giving in
    let same : c.its.inside.host ≡ c.in-Some.host.no =
    ap (λ (j : HostJobs). j.host) c.its.view_is
    ∙ number-same c.args.script.now.hosts c.hosts-jobs.result.now (length c.pop.new.self.items) c.len.result c.in-Some.host c.index-jobs-len.result at c.hosts-jobs.ensures
    (c.len.ensures ∙ c.pop.new.self.ok.0) c.index-jobs-len.is in
    subst (λ (h : HostNo). was_given c.loop-host.first h ≡ false) (sym same) (next-new c.args.script.now c.args.rack.now c.args.hosts.now.items c.args.first.now (vec_capacity c.args.workers) c.requires.may
    c.loop-host.hosts.items c.pop.new.self.items c.in-Some.host c.loop-host.first c.loop-host.workers.items c.in-Some.ensures.items c.loop-host.invariant.giving)

pub loop-host-preserved : goal.loop-host-preserved
loop-host-preserved g c =
    let at = next-at c.args.script.now c.args.rack.now c.args.hosts.now.items c.args.first.now (vec_capacity c.args.workers) c.requires.may
    c.loop-host.hosts.items c.pop.new.self.items c.in-Some.host c.loop-host.first c.loop-host.workers.items c.in-Some.ensures.items c.loop-host.invariant.giving in
    let same : c.its.inside.host ≡ c.in-Some.host.no =
    ap (λ (j : HostJobs). j.host) c.its.view_is
    ∙ number-same c.args.script.now.hosts c.hosts-jobs.result.now (length c.pop.new.self.items) c.len.result c.in-Some.host c.index-jobs-len.result at c.hosts-jobs.ensures
    (c.len.ensures ∙ c.pop.new.self.ok.0) c.index-jobs-len.is in
    let given : HasGiven c.its.inside.host.0 (quota c.args.script.now c.its.inside.host) c.loop-host.first c.split-pass.new.pass =
    subst (λ (q : ℕ). HasGiven c.its.inside.host.0 q c.loop-host.first c.split-pass.new.pass) c.quota.ensures c.split-pass.ensures.pass.1 in
    let new : IsNewGuest c.its.inside.host.0 (quota c.args.script.now c.its.inside.host) c.loop-host.first c.split-pass.result =
    subst (λ (q : ℕ). IsNewGuest c.its.inside.host.0 q c.loop-host.first c.split-pass.result) c.quota.ensures c.split-pass.ensures.guest.1 in
    record {
      giving = subst (λ (ws : List Worker). AreGiving c.args.script.now c.args.rack.now c.args.hosts.now.items c.pop.new.self.items c.split-pass.new.pass ws) (sym c.push_reserved.ensures.items)
          (giving-more c.args.script.now c.args.rack.now c.args.hosts.now.items c.args.first.now (vec_capacity c.args.workers) c.requires.may
          c.loop-host.hosts.items c.pop.new.self.items c.in-Some.host c.loop-host.first c.loop-host.workers.items c.in-Some.ensures.items c.loop-host.invariant.giving
          c.its.inside.host same c.split-pass.new.pass c.split-pass.result c.split-pass.ensures.pass.0 given c.split-pass.ensures.guest.0 new);
      room = c.in-Some.ensures.capacity ∙ c.loop-host.invariant.room;
      space = omega (arith, c.push_reserved.ensures.len, c.in-Some.ensures.cases, c.push_reserved.ensures.capacity, c.loop-host.invariant.space);
    }
