use Rattle.std.proofs.Common.{◌≡◌, ◌∙◌, true, false, sym, arith}
use Rattle.schedule_play.proofs.OpenedLemmas.{marked-set, marked-none}
use Rattle.schedule_play.proofs.rows.mark_row.Goals.{else-noted-via-then-noted+else-place-len, else-noted-via-else-noted}
use Rattle.schedule_play.proofs.rows.mark_row.Goals as goal

pub returns-then-place-len-clause-marked : goal.returns-then-place-len-clause-marked
returns-then-place-len-clause-marked c = marked-set c.args.opened.now.items c.args.place c.args.noted c.if-noted.true (omega arith)

pub returns-else-noted-clause-marked : goal.returns-else-noted-clause-marked
returns-else-noted-clause-marked c =
    elim c.else-noted.branch [
      | else-noted-via-then-noted+else-place-len w ↦ marked-none c.args.opened.now.items c.args.place c.args.noted (λ h. omega arith)
      | else-noted-via-else-noted w ↦ marked-none c.args.opened.now.items c.args.place c.args.noted (λ h. absurd (let bad : true ≡ false = sym h ∙ w.if-noted.false in cc))
    ]
