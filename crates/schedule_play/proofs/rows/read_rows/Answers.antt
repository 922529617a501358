use Rattle.std.proofs.Common.{◌≡◌, ◌∙◌, ◌++◌, ℕ, Bool, List, length, ap, sym, arith}
use Rattle.block_store.specs.declared.store.Store.{Ghosts}
use Rattle.bay_device.specs.declared.bay.Bay.{Bay}
use Rattle.schedule_play.specs.Rows.{opened_now}
use Rattle.schedule_play.proofs.RowLemmas.{looked-all, failed-since, tell-kept, shows-kept, rows-more, one-row, after-all}
use Rattle.schedule_play.proofs.rows.read_rows.Goals as goal

pub returns-in-Err-clause-failed : goal.returns-in-Err-clause-failed
returns-in-Err-clause-failed g c = failed-since _ c.args.bays.now c.loop-row.bays c.read_row.new.bays c.loop-row.invariant.0 c.in-Err.ensures.failed

pub loop-row-preserved : goal.loop-row-preserved
loop-row-preserved g c =
    let i = c.loop-row.invariant in
    let e = c.in-Ok.ensures in (
      looked-all c.args.bays.now c.loop-row.bays c.read_row.new.bays i.0 c.read_row.ensures.looked,
      λ tell. rows-more c.args.bays.now c.loop-row.bays c.loop-row.row c.args.cells.now.items c.loop-row.cells.items c.read_row.new.cells.items i.0 (i.1 tell)
          (e.cells (tell-kept c.args.bays.now c.loop-row.bays tell i.0)),
      omega (arith, i, e.count, i.0.count, one-row c.loop-row.row (length c.args.bays.now)),
      omega (arith, e.capacity, i),
    )

read-all : {D : Type 0} {g : Ghosts D} (row rows : ℕ) (opened before : List Bool) (bays : List (Bay D g)) → row ≡ rows → opened ≡ before ++ opened_now rows bays → opened ≡ before ++ opened_now row bays
read-all row rows opened before bays same is = is ∙ ap (λ n. before ++ opened_now n bays) (sym same)

pub returns-clause-after : goal.returns-clause-after
returns-clause-after g c = λ script history show all.
    after-all script history c.args.bays.now c.loop-row.row c.args.cells.now.items c.loop-row.cells.items c.args.opened.now.items c.read_open.new.opened.items
    show (omega (arith, all)) (c.loop-row.invariant.1 show.told) (read-all c.loop-row.row c.args.rows c.read_open.new.opened.items c.args.opened.now.items c.args.bays.now (omega arith) c.read_open.ensures.opened)

pub returns-clause-shows : goal.returns-clause-shows
returns-clause-shows g c = λ script history shows. shows-kept script history c.args.bays.now c.loop-row.bays c.loop-row.invariant.0 shows
