use Rattle.std.proofs.Common.{◌≡◌, ℕ, List, length}
use Rattle.virtual_objects.specs.Marks.{IsMarked}
use Rattle.virtual_objects.proofs.MarkLemmas.{MarksTo}
use Rattle.virtual_objects.proofs.marks.mark_rows.Given as goal

abbrev pub invariant-loop-i : goal.invariant-loop-i
invariant-loop-i l = record { marked : (held : List ℕ) → IsMarked l.initial.marks held → MarksTo held l.rows l.i l.marks; len : length l.marks ≡ length l.initial.marks }
