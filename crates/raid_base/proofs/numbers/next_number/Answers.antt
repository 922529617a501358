use Rattle.raid_base.proofs.LeastLemmas.{least-not_spent}
use Rattle.raid_base.proofs.numbers.next_number.Goals as goal

pub returns-then-next-lt-NUMBERS_END-clause-spent : goal.returns-then-next-lt-NUMBERS_END-clause-spent
returns-then-next-lt-NUMBERS_END-clause-spent c =
    (λ e. cc, λ s. absurd (least-not_spent c.args.host.0 c.args.floor.0 c.least_above-next.result c.requires c.least_above-next.ensures c.if-next-lt-NUMBERS_END.true s))
