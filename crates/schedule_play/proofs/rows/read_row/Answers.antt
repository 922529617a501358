use Rattle.std.proofs.Common.{is_err, arith, ap, ◌∙◌}
use Rattle.schedule_play.proofs.RowLemmas.{looked-more, failed-here, cells-more}
use Rattle.schedule_play.proofs.rows.read_row.Goals as goal

pub returns-in-Err-clause-looked : goal.returns-in-Err-clause-looked
returns-in-Err-clause-looked g c =
    let e = c.look.ensures in
    looked-more c.args.bays.now c.loop-at.bays c.loop-at.at c.index-bays-at.result c.look.new.self c.loop-at.invariant.0 (omega (arith, c.loop-at.invariant.0.count))
    (record { slots = e.slots; clock = e.clock; journal = e.journal; cap = e.cap; content = e.store.0; tells = e.store.1; size = e.store.2; faults = e.cause.later })

pub returns-in-Err-clause-failed : goal.returns-in-Err-clause-failed
returns-in-Err-clause-failed g c =
    failed-here c.args.bays.now c.loop-at.bays c.loop-at.at c.index-bays-at.result c.look.new.self c.loop-at.invariant.0 (omega (arith, c.loop-at.invariant.0.count))
    (c.look.ensures.cause.failed (ap is_err c.in-Err.is))

pub loop-at-preserved : goal.loop-at-preserved
loop-at-preserved g c =
    let e = c.look.ensures in (
      looked-more c.args.bays.now c.loop-at.bays c.loop-at.at c.index-bays-at.result c.look.new.self c.loop-at.invariant.0 (omega (arith, c.loop-at.invariant.0.count))
          (record { slots = e.slots; clock = e.clock; journal = e.journal; cap = e.cap; content = e.store.0; tells = e.store.1; size = e.store.2; faults = e.cause.later }),
      λ tell. cells-more c.args.bays.now c.loop-at.bays c.loop-at.at c.index-bays-at.result c.args.row c.args.cells.now.items c.loop-at.cells.items c.push_reserved.new.self.items c.in-Ok.cell
          c.loop-at.invariant.0 (omega (arith, c.loop-at.invariant.0.count)) tell (c.loop-at.invariant.1 tell) (λ t. c.in-Ok.ensures.told t) c.push_reserved.ensures.items,
      omega (arith, c.loop-at.invariant, c.push_reserved.ensures.len),
      c.push_reserved.ensures.capacity ∙ c.loop-at.invariant.3,
    )
