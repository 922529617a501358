use Rattle.std.proofs.lemmas.List.{length-map, take_all}
use Rattle.std.proofs.Common.{Vec, Global, length, arith, ◌≡◌, ◌∙◌, ap, subst, sym, List}
use Rattle.std.specs.Borrow.{Bor}
use Rattle.raid_base.specs.declared.messages.Entry.{Entry}
use Rattle.clock_merge.specs.Heads.{entries_in, AreShort}
use Rattle.clock_merge.proofs.Slices.{lists, lists-short, slice-on}
use Rattle.clock_merge.proofs.merging.merge.Goals as goal

pub loop-journal-preserved : goal.loop-journal-preserved
loop-journal-preserved c =
    ap (λ (slices : List (Bor (List Entry))). entries_in slices) c.push.ensures.items
    ∙ slice-on c.args.journals.now c.loop-journal.journal-index c.journal-item.result c.loop-journal.slices.items c.as_slice.result c.loop-journal-test.true c.loop-journal.invariant
    (c.as_slice.ensures.value ∙ ap (λ (j : _). j.items) c.journal-item.is)

pub merge_slices-requires-clause-short : goal.merge_slices-requires-clause-short
merge_slices-requires-clause-short c =
    let many : length (lists c.args.journals.now) ≡ length c.args.journals.now = length-map c.args.journals.now (λ (j : Vec Entry Global). j.items) in
    let here : entries_in c.as_slice-2.result.now ≡ lists c.args.journals.now =
    ap (λ (slices : List (Bor (List Entry))). entries_in slices) c.as_slice-2.ensures.value ∙ c.loop-journal.invariant
    ∙ take_all c.loop-journal.journal-index (lists c.args.journals.now) (omega (arith, many, c.loop-journal-test.false)) in
    subst AreShort (sym here) (lists-short c.args.journals.now)
