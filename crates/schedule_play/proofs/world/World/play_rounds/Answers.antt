use Rattle.std.proofs.Common.{◌<◌, ◌^◌, ℕ, sym, subst}
use Rattle.schedule_play.proofs.PlayLemmas.{round-turn, round-smaller, round-ready, round-reaches, rounds-start, rounds-end, found-nothing, found-inside, next-small}
use Rattle.schedule_play.proofs.KeepLemmas.{keeps-nothing, keeps-both}
use Rattle.schedule_play.proofs.world.World.play_rounds.Goals as goal

pub loop-place-init : goal.loop-place-init
loop-place-init g c = (c.requires.ready, c.requires.moment, (λ all. all), keeps-nothing c.args.self.now, λ script earlier played at. rounds-start c.args.self.now c.args.last script earlier played at)

pub turn_at-requires-clause-place : goal.turn_at-requires-clause-place
turn_at-requires-clause-place g c =
    let r = c.loop-place.invariant.0 in
    found-inside c.loop-place.self.hosts.items _ c.next_waiting.result c.in-Some.place c.in-Some.host (c.next_waiting.ensures r.script r.history r.shows) c.in-Some.is

pub turn_at-requires-clause-moment : goal.turn_at-requires-clause-moment
turn_at-requires-clause-moment g c = subst (λ (m : ℕ). m < 2 ^ 40) (sym c.next_moment-moment.ensures) (next-small c.loop-place.moment)

pub turn_at-requires-clause-ready : goal.turn_at-requires-clause-ready
turn_at-requires-clause-ready g c = c.loop-place.invariant.0

pub loop-place-smaller : goal.loop-place-smaller
loop-place-smaller g c =
    round-smaller c.loop-place.self c.turn_at.new.self c.loop-place.invariant.0 c.loop-place.from c.next_moment-moment.result c.in-Some.host
    (round-turn c.loop-place.self c.turn_at.new.self c.loop-place.invariant.0 c.in-Some.place c.loop-place.from c.next_moment-moment.result c.in-Some.host c.next_waiting.result c.next_waiting.ensures
    c.in-Some.is c.turn_at.ensures.turned)

pub loop-place-preserved : goal.loop-place-preserved
loop-place-preserved g c =
    let turn = round-turn c.loop-place.self c.turn_at.new.self c.loop-place.invariant.0 c.in-Some.place c.loop-place.from c.next_moment-moment.result c.in-Some.host c.next_waiting.result
    c.next_waiting.ensures c.in-Some.is c.turn_at.ensures.turned in (
      round-ready c.loop-place.self c.turn_at.new.self c.loop-place.invariant.0 c.loop-place.from c.next_moment-moment.result c.in-Some.host turn,
      subst (λ (m : ℕ). m < 2 ^ 40) (sym c.next_moment-moment.ensures) (next-small c.loop-place.moment),
      (λ all. c.turn_at.ensures.telling (c.loop-place.invariant.2 all)),
      keeps-both _ c.loop-place.self c.turn_at.new.self c.loop-place.invariant.3 c.turn_at.ensures.keeps,
      λ script earlier played at. round-reaches c.loop-place.self c.turn_at.new.self c.loop-place.from c.loop-place.moment c.next_moment-moment.result c.in-Some.host c.next_moment-moment.ensures script earlier
          (turn script) (c.loop-place.invariant.4 script earlier played at),
    )

pub returns-clause-played : goal.returns-clause-played
returns-clause-played g c script earlier played at =
    rounds-end c.loop-place.self c.loop-place.invariant.0 c.loop-place.from c.loop-place.moment script earlier
    (λ history shows. found-nothing c.loop-place.self.hosts.items _ c.next_waiting.result (c.next_waiting.ensures script history shows) c.in_default.not-Some)
    (c.loop-place.invariant.4 script earlier played at)

pub returns-clause-telling : goal.returns-clause-telling
returns-clause-telling g c = c.loop-place.invariant.2

pub returns-clause-keeps : goal.returns-clause-keeps
returns-clause-keeps g c = c.loop-place.invariant.3

pub returns-clause-ready : goal.returns-clause-ready
returns-clause-ready g c = c.loop-place.invariant.0
