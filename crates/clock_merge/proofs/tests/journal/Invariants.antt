use Rattle.std.proofs.Common.{◌≡◌, ◌≤◌, length}
use Rattle.std.specs.List.{AllByRecursion}
use Rattle.raid_base.specs.declared.messages.Entry.{Entry}
use Rattle.clock_merge.specs.Merge.{ClocksRise}
use Rattle.clock_merge.proofs.tests.journal.Given as goal

abbrev pub invariant-loop-next : goal.invariant-loop-next
invariant-loop-next l = record {
  rises : ClocksRise l.journal.items;
  below : AllByRecursion (λ (entry : Entry). entry.clock ≤ l.last) l.journal.items;
  long : length l.journal.items ≡ l.next-index;
}
