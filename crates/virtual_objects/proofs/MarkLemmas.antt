-- Marks on rows that are held.
use Rattle.std.proofs.Common.{◌≡◌, ◌∙◌, sym, ap, refl, ℕ, inl, inr, arith, Bool, true, false, cond, ◌||◌, List, [], ◌++◌, take, drop, get_or, replicate, None}
use Rattle.std.proofs.lemmas.Bool.{cases_lt}
use Rattle.std.proofs.lemmas.List.{get_or-set_same, get_or-set_other, set_past, get_or_past, get_or-replicate, append-nil}
use Rattle.raid_base.specs.declared.numbers.RowNo.{RowNo}
use Rattle.virtual_objects.specs.Table.{numbers, is_held, first_used}
use Rattle.virtual_objects.specs.Marks.{IsMarked, Cleared}
use Rattle.virtual_objects.proofs.HeldLemmas.{held-append, or_false, free_all}

no_mark : (n k : ℕ) → get_or (replicate n false) k false ≡ false
no_mark n k = elim (cases_lt k n) [ inl below ↦ get_or-replicate n k false false below | inr above ↦ get_or_past (replicate n false) k false (omega (arith, Rattle.std.proofs.lemmas.List.length-replicate n false)) ]

pub none_marked : (n : ℕ) → IsMarked (replicate n false) []
none_marked n = record { at = λ k. no_mark n k }

-- marks of the rows up to a place: none of them was held before
pub record MarksTo (held : List ℕ) (rows : List RowNo) (i : ℕ) (marks : List Bool) : Type 0 where
  pub marked : IsMarked marks (held ++ numbers (take i rows))
  pub fresh : (k : ℕ) → is_held (numbers (take i rows)) k ≡ true → is_held held k ≡ false
  pub told : first_used held rows ≡ first_used (held ++ numbers (take i rows)) (drop i rows)

unmarked_at : (held xs : List ℕ) (k : ℕ) (b mark : Bool) → is_held xs k ≡ b → (is_held xs k ≡ true → is_held held k ≡ false) → mark ≡ is_held (held ++ xs) k
    → cond b false mark ≡ is_held held k
unmarked_at held xs k true mark e fresh m = sym (fresh e)
unmarked_at held xs k false mark e fresh m = m ∙ held-append held xs k ∙ ap (λ (c : Bool). is_held held k || c) e ∙ or_false (is_held held k)

-- the marks of rows that were not held are taken off again
pub unmarked : (held : List ℕ) (rows : List RowNo) (marks new : List Bool) → first_used held rows ≡ None → IsMarked marks (held ++ numbers rows) → Cleared marks (numbers rows) new → IsMarked new held
unmarked held rows marks new e m c = record {
  at = λ k. c.at k ∙ unmarked_at held (numbers rows) k _ _ refl (free_all held rows k e) (m.at k);
}
