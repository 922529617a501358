use Rattle.std.proofs.Common.{◌≡◌, ◌++◌, Bool, List, false, replicate, take, length, length-append, ap, refl, sym, subst, arith}
use Rattle.std.proofs.lemmas.List.{length-replicate}
use Rattle.schedule_play.specs.Rows.{IsMarked}
use Rattle.schedule_play.proofs.OpenedLemmas.{marked_by, bays-none, bays-more, opened-all}
use Rattle.schedule_play.proofs.rows.read_open.Goals as goal

pub loop-at-init : goal.loop-at-init
loop-at-init g c =
    let blank = c.args.opened.now.items ++ replicate c.args.rows false in (
      subst (λ (xs : List Bool). IsMarked blank xs (marked_by (take 0 c.args.bays.now) c.len-first.result)) (sym c.push_closed.ensures.items) (bays-none c.args.bays.now c.len-first.result blank),
      omega (arith, ap (λ (xs : List Bool). length xs) c.push_closed.ensures.items, length-append c.args.opened.now.items (replicate c.args.rows false), length-replicate c.args.rows false, c.args.opened.now.ok.0, c.push_closed.new.opened.ok.0),
      c.push_closed.ensures.capacity,
    )

pub loop-at-preserved : goal.loop-at-preserved
loop-at-preserved g c =
    let i = c.loop-at.invariant in
    let blank = c.args.opened.now.items ++ replicate c.args.rows false in (
      bays-more c.args.bays.now c.loop-at.at c.len-first.result c.index-bays-at.result blank c.loop-at.opened.items c.mark_noted.new.opened.items c.loop-at-test.true c.index-bays-at.is
          (omega (arith, i, length-append c.args.opened.now.items (replicate c.args.rows false), length-replicate c.args.rows false, c.args.opened.now.ok.0, c.loop-at.opened.ok.0)) i.0 c.mark_noted.ensures.marked,
      omega (arith, i, c.mark_noted.ensures.len),
      omega (arith, i, c.mark_noted.ensures.capacity),
    )

pub returns-clause-opened : goal.returns-clause-opened
returns-clause-opened g c =
    let i = c.loop-at.invariant in
    let low = c.loop-at.auto.at-end in
    let high = c.loop-at-test.false in
    let first : c.len-first.result ≡ length c.args.opened.now.items = omega (arith, c.len-first.ensures, c.args.opened.now.ok.0) in
    let blank = c.args.opened.now.items ++ replicate c.args.rows false in
    opened-all c.args.bays.now c.args.rows c.loop-at.at c.args.opened.now.items blank c.loop-at.opened.items (omega arith) refl
    (omega (arith, i, length-append c.args.opened.now.items (replicate c.args.rows false), length-replicate c.args.rows false, c.args.opened.now.ok.0, c.loop-at.opened.ok.0))
    (subst (λ n. IsMarked blank c.loop-at.opened.items (marked_by (take c.loop-at.at c.args.bays.now) n)) first i.0)
