-- The objects of a load hold each row once.
use Rattle.std.proofs.Common.{◌≡◌, ℕ, ◌+◌, ◌-◌, ◌<◌, ◌≤◌, ◌⊎◌, inl, inr, eqb, true, false, List, [], ◌∷◌, ◌++◌, get_or, length, sym, subst, ap, ◌∙◌, refl, arith, lit≤}
use Rattle.std.specs.Prelude.{codes}
use Rattle.std.specs.List.{All, IsDistinct}
use Rattle.std.proofs.lemmas.List.{append-nil, length-append, length-map, get_or-map, get_or_append_left, get_or-append_right}
use Rattle.std.proofs.lemmas.List.Elements.{All-nil, All-cons}
use Rattle.std.proofs.lemmas.Bool.{or_cases}
use Rattle.std.proofs.lemmas.Bool.Decides.{eqb_tells}
use Rattle.std.proofs.lemmas.Map.Keys.{IsDistinct-from_apart}
use Rattle.raid_base.specs.declared.numbers.RowNo.{RowNo}
use Rattle.raid_base.specs.Names.{IsNameText, is_text}
use Rattle.virtual_objects.specs.Objects.{Object}
use Rattle.virtual_objects.specs.Table.{AreObjects, held, is_held, names, numbers}
use Rattle.virtual_objects.proofs.HeldLemmas.{below_all, held-append}
use Rattle.script_text.specs.Ranges.{table_of}
use Rattle.load_maker.specs.Load.{half, load_objects, load_script}
use Rattle.load_maker.proofs.HalfLemmas.{half-at, half-below, half-some, length-half}

length-numbers : (row : ℕ) → length (numbers (half row)) ≡ 256
length-numbers row = length-map (half row) (λ (r : RowNo). r.0) ∙ length-half row

number-at : (row k d : ℕ) → k < 256 → get_or (numbers (half row)) k d ≡ row + k
number-at row k d h =
    let there : k < length (half row) = omega (arith, length-half row) in
    get_or-map (λ (r : RowNo). r.0) (half row) k (record { 0 = 0 }) d there ∙ ap (λ (r : RowNo). r.0) (half-at row k (record { 0 = 0 }) h)

abbrev rows_held : List ℕ
rows_held = numbers (half 0) ++ numbers (half 256)

held-is : held load_objects ≡ rows_held
held-is = ap (λ (rows : List ℕ). numbers (half 0) ++ rows) (append-nil (numbers (half 256)))

length-held : length rows_held ≡ 512
length-held = length-append (numbers (half 0)) (numbers (half 256)) ∙ omega (arith, length-numbers 0, length-numbers 256)

held-in : (k d : ℕ) → k < 512 → (k < 256) ⊎ (256 ≤ k) → get_or rows_held k d ≡ k
held-in k d h (inl low) =
    let there : k < length (numbers (half 0)) = omega (arith, length-numbers 0) in
    get_or_append_left (numbers (half 0)) (numbers (half 256)) d k there ∙ number-at 0 k d low ∙ omega arith
held-in k d h (inr high) = get_or-append_right (numbers (half 0)) (numbers (half 256)) 256 k d (length-numbers 0) high ∙ number-at 256 (k - 256) d (omega arith) ∙ omega arith

split-at : (k : ℕ) → (k < 256) ⊎ (256 ≤ k)
split-at k = grind arith

held-at : (k d : ℕ) → k < 512 → get_or rows_held k d ≡ k
held-at k d h = held-in k d h (split-at k)

apart : (i j : ℕ) → i < j → eqb i j ≡ false
apart i j h = elim (eqb_tells i j) [ inl same ↦ (let e = same.1 in absurd (omega (arith, e))) | inr differs ↦ differs.0 ]

rows-apart : IsDistinct eqb (held load_objects)
rows-apart =
    subst (IsDistinct eqb) (sym held-is) (IsDistinct-from_apart eqb rows_held (λ i j d h l.
    let i_at : get_or rows_held i d ≡ i = held-at i d (omega (arith, length-held)) in
    let j_at : get_or rows_held j d ≡ j = held-at j d (omega (arith, length-held)) in
    ap (λ (x : ℕ). eqb x (get_or rows_held j d)) i_at ∙ ap (eqb i) j_at ∙ apart i j h))

rows-below : (row : ℕ) → is_held (held load_objects) row ≡ true → row < 512
rows-below row h =
    let among = sym (held-append (numbers (half 0)) (numbers (half 256)) row) ∙ ap (λ (rows : List ℕ). is_held rows row) (sym held-is) ∙ h in
    elim (or_cases (is_held (numbers (half 0)) row) (is_held (numbers (half 256)) row) among) [
      | inl first ↦ below_all (half 0) 512 row (half-below 0 (omega arith)) first
      | inr second ↦ below_all (half 256) 512 row (half-below 256 (omega arith)) second
    ]

names-apart : IsDistinct is_text (names load_objects)
unfolding IsDistinct
names-apart = ((refl, tt), (tt, tt))

two-objects : (P : Object → Type 0) → P (record { name = codes "a"; rows = half 0 }) → P (record { name = codes "b"; rows = half 256 }) → All P load_objects
two-objects P a b =
    let other : Object = record { name = codes "b"; rows = half 256 } in
    All-cons P (record { name = codes "a"; rows = half 0 }) (other ∷ []) a (All-cons P other [] b (All-nil P))

pub objects-are : (n : ℕ) → AreObjects (table_of (load_script n))
objects-are n = record {
  devices_least = lit≤ tt;
  devices_most = lit≤ tt;
  rows_least = lit≤ tt;
  rows_most = lit≤ tt;
  few = lit≤ tt;
  names_apart = names-apart;
  rows_apart = rows-apart;
  rows_below = rows-below;
  rows_some = two-objects (λ (object : Object). 0 < length object.rows) (half-some 0) (half-some 256);
}

pub names-are : All (λ (object : Object). IsNameText object.name) load_objects
names-are = two-objects (λ (object : Object). IsNameText object.name) refl refl
