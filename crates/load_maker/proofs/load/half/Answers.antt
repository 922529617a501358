use Rattle.std.proofs.Common.{◌≡◌, ◌+◌, ◌++◌, ◌∷◌, [], rules}
use Rattle.load_maker.proofs.HalfLemmas.{half-more, half-is}
use Rattle.load_maker.proofs.load.half.Goals as goal

pub loop-more-preserved : goal.loop-more-preserved
loop-more-preserved c =
    let pushed : c.push.new.self.items ≡ c.loop-more.rows.items ++ record { 0 = c.args.row + c.loop-more.more } ∷ [] = search rules in
    half-more c.args.row c.loop-more.more c.loop-more.rows.items c.push.new.self.items c.loop-more.invariant pushed

pub returns : goal.returns
returns c = half-is c.args.row c.loop-more.more c.loop-more.rows.items c.loop-more.invariant c.loop-more.auto.more-end c.loop-more-test.false
