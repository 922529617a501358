use Rattle.std.proofs.lemmas.List.{length-map, take_all}
use Rattle.std.proofs.Common.{length, arith, ◌≡◌, ◌∙◌, ap, subst, sym, List}
use Rattle.std.specs.Borrow.{Bor}
use Rattle.std.specs.List.{AllByRecursion}
use Rattle.raid_base.specs.declared.messages.Entry.{Entry}
use Rattle.clock_merge.specs.Heads.{entries_in, AreShort}
use Rattle.array_cli.proofs.BaySlices.{journals_of, bay-on}
use Rattle.array_cli.proofs.thread_runs.merge_bays.Goals as goal

pub loop-bay-preserved : goal.loop-bay-preserved
loop-bay-preserved g c =
    ap (λ (slices : List (Bor (List Entry))). entries_in slices) c.push.ensures.items
    ∙ bay-on c.args.bays.now c.loop-bay.bay-index c.bay-item.result c.loop-bay.journals.items c.as_slice.result c.loop-bay-test.true c.loop-bay.invariant
    (c.as_slice.ensures.value ∙ ap (λ (b : _). b.journal.items) c.bay-item.is)
