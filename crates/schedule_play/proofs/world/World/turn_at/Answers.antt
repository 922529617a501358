use Rattle.std.proofs.Common.{◌<◌, ◌^◌, refl, subst, arith, is_some, sym, ap, ◌∙◌}
use Rattle.host_engine.specs.declared.host.Host.{Host}
use Rattle.host_engine.specs.Stands.{CanTake, IsSentBy}
use Rattle.script_text.specs.Script.{Script}
use Rattle.histories.specs.Bounds.{IsPlayable}
use Rattle.schedule_play.specs.World.{all_requests}
use Rattle.schedule_play.proofs.TurnLemmas.{turn-facts, read-bay, ask-fits-bay, can-take, shown-sent}
use Rattle.schedule_play.proofs.TurnedLemmas.{one-script, tells-asked, tells-back, tells-on, turned-none, turned-some}
use Rattle.schedule_play.proofs.WorldLemmas.{same_read}
use Rattle.schedule_play.proofs.KeepLemmas.{keeps-nothing, keeps-turn}
use Rattle.schedule_play.proofs.world.World.turn_at.Goals as goal

pub returns-in-None-clause-turned : goal.returns-in-None-clause-turned
returns-in-None-clause-turned g c = λ host is script history shows.
    turned-none script history c.args.self.now c.args.place host c.index-host.result.now c.args.moment c.next.result shows c.requires.place is c.index-host.ensures c.next.ensures c.in-None.is

pub index_mut-device-requires : goal.index_mut-device-requires
index_mut-device-requires g c =
    let r = c.requires.ready in
    let f = turn-facts r.script r.history c.args.self.now c.args.place c.index-host.result.now c.args.moment c.in-Some.sent.0 c.in-Some.sent.1 c.next.result
    r.playable r.few r.shows c.requires.place c.index-host.ensures c.next.ensures c.in-Some.is in
    let h = c.args.self.now.bays.ok.0 in
    omega (arith, f.inside, h)

pub handle-answer-requires-clause-ask : goal.handle-answer-requires-clause-ask
handle-answer-requires-clause-ask g c =
    let r = c.requires.ready in
    let f = turn-facts r.script r.history c.args.self.now c.args.place c.index-host.result.now c.args.moment c.in-Some.sent.0 c.in-Some.sent.1 c.next.result
    r.playable r.few r.shows c.requires.place c.index-host.ensures c.next.ensures c.in-Some.is in
    (ask-fits-bay r.script r.history c.index-host.result.now c.args.moment (record { bay = c.in-Some.sent.0; ask = c.in-Some.sent.1 }) c.index_mut-device.result.now f.facts
    (read-bay r.script r.history c.args.self.now c.in-Some.sent.0.0 c.index_mut-device.result.now r.shows f.inside c.index_mut-device.ensures.value)).0

pub handle-answer-requires-clause-room : goal.handle-answer-requires-clause-room
handle-answer-requires-clause-room g c =
    let r = c.requires.ready in
    let f = turn-facts r.script r.history c.args.self.now c.args.place c.index-host.result.now c.args.moment c.in-Some.sent.0 c.in-Some.sent.1 c.next.result
    r.playable r.few r.shows c.requires.place c.index-host.ensures c.next.ensures c.in-Some.is in
    (ask-fits-bay r.script r.history c.index-host.result.now c.args.moment (record { bay = c.in-Some.sent.0; ask = c.in-Some.sent.1 }) c.index_mut-device.result.now f.facts
    (read-bay r.script r.history c.args.self.now c.in-Some.sent.0.0 c.index_mut-device.result.now r.shows f.inside c.index_mut-device.ensures.value)).1

pub heard-requires : goal.heard-requires
heard-requires g c =
    let r = c.requires.ready in
    let f = turn-facts r.script r.history c.args.self.now c.args.place c.index-host.result.now c.args.moment c.in-Some.sent.0 c.in-Some.sent.1 c.next.result
    r.playable r.few r.shows c.requires.place c.index-host.ensures c.next.ensures c.in-Some.is in
    let same = same_read c.args.self.now.hosts.items c.args.place c.index-host.result.now c.index_mut-host.result.now c.requires.place c.index-host.ensures c.index_mut-host.ensures.value in
    record {
      ready = subst (λ (h : Host). CanTake h c.args.moment c.handle-answer.result) same
          (can-take r.script r.history c.index-host.result.now c.args.moment (record { bay = c.in-Some.sent.0; ask = c.in-Some.sent.1 }) c.handle-answer.result r.playable r.shows.asked f.shows_host f.asked c.handle-answer.ensures.fits);
      sent = subst (λ (h : Host). IsSentBy h c.args.moment (record { bay = c.in-Some.sent.0; ask = c.in-Some.sent.1 })) same
          (shown-sent r.script r.history c.index-host.result.now c.args.moment (record { bay = c.in-Some.sent.0; ask = c.in-Some.sent.1 }) f.shows_host f.asked);
    }

pub push_reserved-requires : goal.push_reserved-requires
push_reserved-requires g c =
    let r = c.requires.ready in
    let f = turn-facts r.script r.history c.args.self.now c.args.place c.index-host.result.now c.args.moment c.in-Some.sent.0 c.in-Some.sent.1 c.next.result
    r.playable r.few r.shows c.requires.place c.index-host.ensures c.next.ensures c.in-Some.is in
    f.room

pub returns-clause-turned : goal.returns-clause-turned
returns-clause-turned g c = λ host is script history shows.
    let r = c.requires.ready in
    let same = one-script r.script script r.history history c.args.self.now r.shows shows in
    turned-some script history c.args.self.now _ c.args.place c.args.moment host c.index-host.result.now c.index_mut-host.result.now c.heard.new.self
    c.in-Some.sent.0 c.in-Some.sent.1 c.next.result c.handle-answer.result c.index_mut-device.result.now c.handle-answer.new.self
    (subst IsPlayable same r.playable) (subst (λ (s : Script). all_requests s < 2 ^ 62) same r.few) shows c.requires.place is c.index-host.ensures c.index_mut-host.ensures.value c.next.ensures c.in-Some.is
    c.index_mut-device.ensures.value
    (record {
      told = c.handle-answer.ensures.told;
      tells = c.handle-answer.ensures.store.0;
      clock = c.handle-answer.ensures.clock;
      clocked = c.handle-answer.ensures.answered;
      entries = c.handle-answer.ensures.journal;
      rows = c.handle-answer.ensures.rows;
      cap = c.handle-answer.ensures.cap;
    })
    c.heard.ensures refl refl refl c.push_reserved.ensures.items c.push_reserved.ensures.capacity

pub returns-clause-tells : goal.returns-clause-tells
returns-clause-tells g c =
    let r = c.requires.ready in
    let f = turn-facts r.script r.history c.args.self.now c.args.place c.index-host.result.now c.args.moment c.in-Some.sent.0 c.in-Some.sent.1 c.next.result
    r.playable r.few r.shows c.requires.place c.index-host.ensures c.next.ensures c.in-Some.is in
    tells-back c.args.self.now.bays.items c.in-Some.sent.0.0 c.index_mut-device.result.now c.handle-answer.new.self f.inside c.index_mut-device.ensures.value c.handle-answer.ensures.store.0

pub returns-in-None-clause-asked : goal.returns-in-None-clause-asked
returns-in-None-clause-asked g c = λ host is script history shows.
    sym (ap is_some c.in-None.is)
    ∙ tells-asked script history c.args.self.now c.args.place host c.index-host.result.now c.args.moment c.next.result shows c.requires.place is c.index-host.ensures c.next.ensures

pub returns-clause-asked : goal.returns-clause-asked
returns-clause-asked g c = λ host is script history shows.
    sym (ap is_some c.in-Some.is)
    ∙ tells-asked script history c.args.self.now c.args.place host c.index-host.result.now c.args.moment c.next.result shows c.requires.place is c.index-host.ensures c.next.ensures

pub returns-clause-telling : goal.returns-clause-telling
returns-clause-telling g c =
    let r = c.requires.ready in
    let f = turn-facts r.script r.history c.args.self.now c.args.place c.index-host.result.now c.args.moment c.in-Some.sent.0 c.in-Some.sent.1 c.next.result
    r.playable r.few r.shows c.requires.place c.index-host.ensures c.next.ensures c.in-Some.is in
    tells-on c.args.self.now.bays.items c.in-Some.sent.0.0 c.index_mut-device.result.now c.handle-answer.new.self f.inside c.index_mut-device.ensures.value c.handle-answer.ensures.store.0

pub returns-in-None-clause-keeps : goal.returns-in-None-clause-keeps
returns-in-None-clause-keeps g c = keeps-nothing c.args.self.now

pub returns-clause-keeps : goal.returns-clause-keeps
returns-clause-keeps g c =
    let r = c.requires.ready in
    let f = turn-facts r.script r.history c.args.self.now c.args.place c.index-host.result.now c.args.moment c.in-Some.sent.0 c.in-Some.sent.1 c.next.result
    r.playable r.few r.shows c.requires.place c.index-host.ensures c.next.ensures c.in-Some.is in
    keeps-turn c.args.self.now _ c.in-Some.sent.0.0 c.index_mut-device.result.now c.handle-answer.new.self f.inside c.index_mut-device.ensures.value
    (record { tells = c.handle-answer.ensures.store.0; size = c.handle-answer.ensures.store.1; faults = c.handle-answer.ensures.faults }) refl refl refl
