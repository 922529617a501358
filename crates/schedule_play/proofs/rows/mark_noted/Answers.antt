use Rattle.std.proofs.Common.{◌≡◌, ◌∙◌, ◌+◌, ◌==◌, ◌&&◌, Option, is_some, ap, subst, arith}
use Rattle.raid_base.specs.declared.messages.Note.{Note}
use Rattle.schedule_play.specs.Rows.{IsMarked, has_note}
use Rattle.schedule_play.proofs.OpenedLemmas.{marks-none, marks-more, marks-all}
use Rattle.schedule_play.proofs.rows.mark_noted.Goals as goal

pub loop-k-init : goal.loop-k-init
loop-k-init g c = (marks-none c.args.bay.now c.args.first c.args.opened.now.items, omega arith, omega arith)

pub loop-k-preserved : goal.loop-k-preserved
loop-k-preserved g c =
    let i = c.loop-k.invariant in
    let count = c.open_rows-k-end.ensures.count in
    let low = c.loop-k-test.true in
    let noted : c.is_some-noted.result ≡ has_note {g = g.D.Store} c.open_row-row.result c.args.bay.now =
    c.is_some-noted.ensures ∙ ap (λ (n : Option Note). is_some n) (c.note.ensures (g.D.Store.content c.args.bay.now.store)) in
    let step : IsMarked c.loop-k.opened.items c.mark_row.new.opened.items (λ j. c.is_some-noted.result && (j == (c.args.first + c.open_row-row.result.0))) =
    subst (λ n. IsMarked c.loop-k.opened.items c.mark_row.new.opened.items (λ j. c.is_some-noted.result && (j == (c.args.first + n)))) c.from.ensures c.mark_row.ensures.marked in (
      marks-more c.args.bay.now c.args.first c.loop-k.k c.open_row-row.result c.is_some-noted.result c.args.opened.now.items c.loop-k.opened.items c.mark_row.new.opened.items
          c.open_row-row.ensures (omega arith) noted (omega (arith, i)) i.0 step,
      omega (arith, i, c.mark_row.ensures.len),
      omega (arith, i, c.mark_row.ensures.capacity),
    )

pub returns-clause-marked : goal.returns-clause-marked
returns-clause-marked g c =
    let count = c.open_rows-k-end.ensures.count in
    let low = c.loop-k.auto.k-end in
    let high = c.loop-k-test.false in
    marks-all c.args.bay.now c.args.first c.loop-k.k c.args.opened.now.items c.loop-k.opened.items c.open_rows-k-end.ensures.listed (omega arith) c.loop-k.invariant.0
