-- Which rows are held.
use Rattle.std.proofs.Common.{◌≡◌, ◌∙◌, sym, ap, refl, subst, ℕ, ◌<◌, ◌⊎◌, inl, inr, arith, eqb, Bool, true, false, cond, ◌||◌, List, [], ◌∷◌, ◌++◌, Some, None, append_assoc, All}
use Rattle.std.proofs.lemmas.Bool.{eqb-true, or_cases, or_parts}
use Rattle.std.proofs.lemmas.List.{append-nil}
use Rattle.std.proofs.lemmas.List.Folds.{list_any-append}
use Rattle.std.proofs.lemmas.List.Elements.{All-head, All-tail}
use Rattle.std.proofs.lemmas.Map.Keys.{IsDistinct-push}
use Rattle.std.specs.Cmp.{nat_eq_equiv}
use Rattle.std.specs.List.{IsDistinct}
use Rattle.raid_base.specs.declared.numbers.RowNo.{RowNo}
use Rattle.virtual_objects.specs.Table.{numbers, is_held, first_used}

pub held-append : (xs ys : List ℕ) (k : ℕ) → is_held (xs ++ ys) k ≡ (is_held xs k || is_held ys k)
held-append xs ys k = list_any-append (eqb k) xs ys

pub or_false : (b : Bool) → (b || false) ≡ b
or_false true = refl
or_false false = refl

cons_cases : (k row : ℕ) (xs : List ℕ) → is_held (row ∷ xs) k ≡ true → (k ≡ row) ⊎ (is_held xs k ≡ true)
cons_cases k row xs e = elim (or_cases (eqb k row) (is_held xs k) e) [ inl same ↦ inl (eqb-true k row same) | inr rest ↦ inr rest ]

-- where no row is used, the first is free, and then the others
pub free_first : (held : List ℕ) (row : RowNo) (more : List RowNo) → first_used held (row ∷ more) ≡ None → (is_held held row.0 ≡ false) × (first_used (held ++ row.0 ∷ []) more ≡ None)
free_first held row more e = by (is_held held row.0) e
  where
    by : (b : Bool) → cond b (Some row) (first_used (held ++ row.0 ∷ []) more) ≡ None → (b ≡ false) × (first_used (held ++ row.0 ∷ []) more ≡ None)
    by true e = absurd (cc)
    by false e = (refl, e)

-- where no row is used, none of them is held
pub free_all : (held : List ℕ) (rows : List RowNo) (k : ℕ) → first_used held rows ≡ None → is_held (numbers rows) k ≡ true → is_held held k ≡ false
free_all held [] k e h = absurd (cc)
free_all held (row ∷ more) k e h = elim (cons_cases k row.0 (numbers more) h) [
  | inl same ↦ ap (is_held held) same ∙ (free_first held row more e).0
  | inr rest ↦ (or_parts (is_held held k) _ (sym (held-append held (row.0 ∷ []) k) ∙ free_all (held ++ row.0 ∷ []) more k (free_first held row more e).1 rest)).0
]

-- and all together are distinct
pub distinct_all : (held : List ℕ) (rows : List RowNo) → first_used held rows ≡ None → IsDistinct eqb held → IsDistinct eqb (held ++ numbers rows)
distinct_all held [] e d = rw append-nil d
distinct_all held (row ∷ more) e d =
    let free = free_first held row more e in
    let pushed : IsDistinct eqb (held ++ row.0 ∷ []) = IsDistinct-push nat_eq_equiv held row.0 d free.0 in
    subst (IsDistinct eqb) (append_assoc held (row.0 ∷ []) (numbers more)) (distinct_all (held ++ row.0 ∷ []) more free.1 pushed)

-- rows below a bound
pub below_all : (rows : List RowNo) (bound k : ℕ) → All (λ (row : RowNo). row.0 < bound) rows → is_held (numbers rows) k ≡ true → k < bound
below_all [] bound k all h = absurd (cc)
below_all (row ∷ more) bound k all h = elim (cons_cases k row.0 (numbers more) h) [
  | inl same ↦ (let first : row.0 < bound = All-head (λ (r : RowNo). r.0 < bound) row more all in omega arith)
  | inr rest ↦ below_all more bound k (All-tail (λ (r : RowNo). r.0 < bound) row more all) rest
]
