use Rattle.std.proofs.Common.{ap, sym, ◌∙◌}
use Rattle.raid_base.specs.Numbers.{draw, seen_drawn}
use Rattle.raid_base.specs.Steps.{settled}
use Rattle.attempts.specs.Accesses.{access_of}
use Rattle.attempts.specs.Writing.{write_drawn}
use Rattle.host_write.specs.Left.{left_of}
use Rattle.host_write.proofs.DrawnLemmas.{stands, draws-left}
use Rattle.host_write.proofs.putting.settled.Goals as goal

pub returns-in-Draw-clause-left : goal.returns-in-Draw-clause-left
returns-in-Draw-clause-left c =
    let a = access_of c.args.job.now c.args.blocks.now in
    let t = c.args.taken.now in
    let rows = c.args.rows.now in
    let host = c.args.numbers.now.host in
    let seen = c.args.numbers.now.seen in
    let now = c.draw-number.new.self.seen in
    stands host now (write_drawn a rows c.draw-number.result) (left_of c.drawn.result.stage a t rows c.drawn.new.puts c.drawn.result.queue)
    (c.drawn.ensures.left t)
    (draws-left c.drawn.result.stage a t rows c.drawn.new.puts c.drawn.result.queue c.args.job.now.n c.args.job.now.parts.items (c.drawn.ensures.kept t) c.drawn.ensures.awake)
    ∙ ap (λ x. settled host x (write_drawn a rows c.draw-number.result)) (ap (λ n. n.seen) c.draw-number.ensures.new)
    ∙ ap (λ d. settled host (seen_drawn seen (draw host seen)) (write_drawn a rows d)) c.draw-number.ensures.value
    ∙ ap (λ s. settled host seen (left_of s a t rows c.args.puts.now c.args.ahead.queue)) (sym c.in-Draw.is)
