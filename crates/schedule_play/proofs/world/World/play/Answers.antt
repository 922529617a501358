use Rattle.std.proofs.Common.{◌<◌, ◌^◌, ℕ, sym, ◌∙◌, ap, subst}
use Rattle.histories.specs.Turns.{last_moment}
use Rattle.schedule_play.proofs.PlayLemmas.{last-small}
use Rattle.schedule_play.proofs.KeepLemmas.{keeps-both}
use Rattle.schedule_play.proofs.world.World.play.Goals as goal

pub play_rounds-requires-clause-moment : goal.play_rounds-requires-clause-moment
play_rounds-requires-clause-moment g c =
    subst (λ (m : ℕ). m < 2 ^ 40) (sym (c.last_moment-last.ensures ∙ ap last_moment c.turns.ensures)) (last-small c.args.self.now c.requires.ready)

pub returns-clause-played : goal.returns-clause-played
returns-clause-played g c script earlier shows =
    c.play_rounds.ensures.played script earlier (c.play_turns.ensures.played script earlier shows)
    (c.last_moment-last.ensures ∙ ap last_moment (c.turns.ensures ∙ ap (λ s. s.turns) shows.plays))

pub returns-clause-telling : goal.returns-clause-telling
returns-clause-telling g c = λ all. c.play_rounds.ensures.telling (c.play_turns.ensures.telling all)

pub returns-clause-keeps : goal.returns-clause-keeps
returns-clause-keeps g c = keeps-both c.args.self.now c.play_turns.new.self c.play_rounds.new.self c.play_turns.ensures.keeps c.play_rounds.ensures.keeps
