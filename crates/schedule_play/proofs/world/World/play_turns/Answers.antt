use Rattle.std.proofs.Common.{sym, ◌∙◌, refl, ap}
use Rattle.schedule_play.proofs.PlayLemmas.{turn-of-script, turned-ready, played-more, played-all, played-none}
use Rattle.schedule_play.proofs.KeepLemmas.{keeps-nothing, keeps-both}
use Rattle.schedule_play.proofs.world.World.play_turns.Goals as goal

pub loop-turn-init : goal.loop-turn-init
loop-turn-init g c = (c.requires.ready, refl, (λ all. all), keeps-nothing c.args.self.now, λ script earlier shows. played-none c.args.self.now script earlier shows)

pub take_turn-requires-clause-ready : goal.take_turn-requires-clause-ready
take_turn-requires-clause-ready g c = c.loop-turn.invariant.0

pub take_turn-requires-clause-moment : goal.take_turn-requires-clause-moment
take_turn-requires-clause-moment g c =
    (turn-of-script c.loop-turn.self c.loop-turn.invariant.0 c.turns-turn-items.result.now (c.turns-turn-items.ensures ∙ ap (λ s. s.turns) (sym c.loop-turn.invariant.1)) c.loop-turn.turn-index _ c.loop-turn-test.true).1

pub take_turn-requires-clause-host : goal.take_turn-requires-clause-host
take_turn-requires-clause-host g c =
    (turn-of-script c.loop-turn.self c.loop-turn.invariant.0 c.turns-turn-items.result.now (c.turns-turn-items.ensures ∙ ap (λ s. s.turns) (sym c.loop-turn.invariant.1)) c.loop-turn.turn-index _ c.loop-turn-test.true).0

pub loop-turn-preserved : goal.loop-turn-preserved
loop-turn-preserved g c =
    let next = turned-ready c.loop-turn.self c.take_turn.new.self c.loop-turn.invariant.0 _ c.take_turn.ensures.turned in (
      next.0,
      next.1 ∙ c.loop-turn.invariant.1,
      (λ all. c.take_turn.ensures.telling (c.loop-turn.invariant.2 all)),
      keeps-both _ c.loop-turn.self c.take_turn.new.self c.loop-turn.invariant.3 c.take_turn.ensures.keeps,
      λ script earlier shows. played-more c.loop-turn.self c.take_turn.new.self script earlier c.turns-turn-items.result.now c.loop-turn.turn-index _ (c.turns-turn-items.ensures ∙ ap (λ s. s.turns) shows.plays) c.loop-turn-test.true
          c.take_turn.ensures.turned (c.loop-turn.invariant.4 script earlier shows),
    )

pub returns-clause-ready : goal.returns-clause-ready
returns-clause-ready g c = c.loop-turn.invariant.0

pub returns-clause-played : goal.returns-clause-played
returns-clause-played g c script earlier shows =
    played-all c.loop-turn.self script earlier c.turns-turn-items.result.now c.loop-turn.turn-index (c.turns-turn-items.ensures ∙ ap (λ s. s.turns) shows.plays) c.loop-turn-test.false (c.loop-turn.invariant.4 script earlier shows)

pub returns-clause-telling : goal.returns-clause-telling
returns-clause-telling g c = c.loop-turn.invariant.2

pub returns-clause-keeps : goal.returns-clause-keeps
returns-clause-keeps g c = c.loop-turn.invariant.3
