use Rattle.std.proofs.Common.{List, get_or, ap, ◌∙◌}
use Rattle.std.specs.Borrow.{Bor}
use Rattle.std.specs.List.{slice_get}
use Rattle.raid_base.specs.declared.messages.Entry.{Entry}
use Rattle.clock_merge.specs.Heads.{heads_at, entries_in}
use Rattle.clock_merge.proofs.LinesSoFar.{head-is}
use Rattle.clock_merge.proofs.merging.first_head.Goals as goal

pub loop-bay-preserved : goal.loop-bay-preserved
loop-bay-preserved c =
    c.earlier-first.ensures (heads_at (entries_in c.args.journals.now) c.args.places.now) c.loop-bay.invariant
    (head-is c.args.journals.now c.args.places.now c.loop-bay.bay c.index-journals-bay.result c.head.result c.loop-bay-test.true
    (c.head.ensures ∙ ap (λ (journal : Bor (List Entry)). slice_get journal.now (get_or c.args.places.now c.loop-bay.bay 0)) c.index-journals-bay.is))
