use Rattle.std.proofs.Common.{sym, ◌∙◌}
use Rattle.schedule_play.proofs.PlayLemmas.{host-says, found-here, none-here, passed, waits-below, waits-none}
use Rattle.schedule_play.proofs.world.World.first_waiting.Goals as goal
use Rattle.schedule_play.proofs.world.World.first_waiting.Goals.{in-Some+else-from-no, in_default}

pub returns-then-from-no : goal.returns-then-from-no
returns-then-from-no g c script history shows =
    found-here c.args.self.now c.deref-host-items.result.now c.loop-place.place c.args.from c.host-item.result c.in-Some.no c.waiting.result
    c.deref-host-items.ensures.value c.loop-place-test.true c.host-item.is c.in-Some.is c.if-from-no.true script history shows
    (host-says c.args.self.now c.deref-host-items.result.now c.loop-place.place c.host-item.result c.waiting.result c.requires c.deref-host-items.ensures.value c.loop-place-test.true c.host-item.is
    c.waiting.ensures script history shows)
    (c.loop-place.invariant script history shows)

pub loop-place-preserved : goal.loop-place-preserved
loop-place-preserved g c script history shows =
    passed c.args.self.now c.deref-host-items.result.now c.loop-place.place c.args.from c.host-item.result c.deref-host-items.ensures.value c.loop-place-test.true c.host-item.is script history
    (c.loop-place.invariant script history shows)
    (let says = host-says c.args.self.now c.deref-host-items.result.now c.loop-place.place c.host-item.result c.waiting.result c.requires c.deref-host-items.ensures.value c.loop-place-test.true c.host-item.is
    c.waiting.ensures script history shows in
    elim c.match-waiting.branch [
      | in-Some+else-from-no w ↦ waits-below script history c.args.from c.host-item.result.no w.in-Some.no (sym w.in-Some.is ∙ says) w.if-from-no.false
      | in_default w ↦ waits-none script history c.args.from c.host-item.result.no (sym w.in_default.is ∙ says)
    ])

pub returns : goal.returns
returns g c script history shows =
    none-here c.args.self.now c.deref-host-items.result.now c.loop-place.place c.args.from c.deref-host-items.ensures.value c.loop-place-test.false script history shows
    (c.loop-place.invariant script history shows)
