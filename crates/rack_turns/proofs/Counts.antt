-- Lists, and numbers added up over them.
use Rattle.std.proofs.Common.{◌≡◌, ◌≢◌, ℕ, zero, suc, ◌+◌, ◌<◌, ◌≤◌, eqb, if◌then◌else◌, List, [], ◌∷◌, ◌++◌, length, set, refl, sym, ap, subst, arith, eq-eqb, ne_eqb}
use mathlib.Core.Option.{some, some-injective, some-ne-none}
use lib.ListN.{get_elem?}
use Rattle.raid_base.specs.declared.messages.Entry.{Entry}
use Rattle.rack_turns.specs.declared.view.Shadow.{Shadow}
use Rattle.rack_turns.specs.Views.{total, cap_of}

module _ {X : Type 0} where
  -- the total after one element has changed
  pub total-set : (f : X → ℕ) (xs : List X) (i : ℕ) (v w : X) → get_elem? xs i ≡ some v → total f (set xs i w) + f v ≡ total f xs + f w
  total-set f [] i v w at = absurd (some-ne-none v (sym at))
  total-set f (x ∷ xs) zero v w at = let same : f x ≡ f v = ap f (some-injective x v at) in omega (arith, same)
  total-set f (x ∷ xs) (suc i) v w at = let rest : total f (set xs i w) + f v ≡ total f xs + f w = total-set f xs i v w at in omega (arith, rest)

  -- it stays where f does
  pub total-same : (f : X → ℕ) (xs : List X) (i : ℕ) (v w : X) → get_elem? xs i ≡ some v → f w ≡ f v → total f (set xs i w) ≡ total f xs
  total-same f xs i v w at same = let e : total f (set xs i w) + f v ≡ total f xs + f w = total-set f xs i v w at in omega (arith, e, same)

  -- an element has no more than all
  pub total-at : (f : X → ℕ) (xs : List X) (i : ℕ) (v : X) → get_elem? xs i ≡ some v → f v ≤ total f xs
  total-at f [] i v at = absurd (some-ne-none v (sym at))
  total-at f (x ∷ xs) zero v at = let same : f x ≡ f v = ap f (some-injective x v at) in omega (arith, same)
  total-at f (x ∷ xs) (suc i) v at = let rest : f v ≤ total f xs = total-at f xs i v at in omega (arith, rest)

  pub total-snoc : (f : X → ℕ) (xs : List X) (x : X) → total f (xs ++ x ∷ []) ≡ total f xs + f x
  total-snoc f [] x = omega arith
  total-snoc f (y ∷ ys) x = let rest : total f (ys ++ x ∷ []) ≡ total f ys + f x = total-snoc f ys x in omega (arith, rest)

  -- inside a list there is an element
  pub there : (xs : List X) (i : ℕ) → i < length xs → (x : X) × (get_elem? xs i ≡ some x)
  there [] i h = absurd (omega arith)
  there (x ∷ xs) zero h = (x, refl)
  there (x ∷ xs) (suc i) h = there xs i (omega arith)

  -- an element stands inside of its list
  pub inside : (xs : List X) (i : ℕ) (x : X) → get_elem? xs i ≡ some x → i < length xs
  inside [] i x at = absurd (some-ne-none x (sym at))
  inside (y ∷ ys) zero x at = omega arith
  inside (y ∷ ys) (suc i) x at = let rest : i < length ys = inside ys i x at in omega (arith, rest)

-- where each length is at most the cap at its place, so are all together
pub lengths-below : (xs : List (List Entry)) (os : List Shadow) → length xs ≡ length os → ((i : ℕ) (x : List Entry) (o : Shadow) → get_elem? xs i ≡ some x → get_elem? os i ≡ some o → length x ≤ o.cap) → total length xs ≤ total cap_of os
lengths-below [] os long each = omega arith
lengths-below (x ∷ xs) [] long each = absurd (omega arith)
lengths-below (x ∷ xs) (o ∷ os) long each =
    let rest : total length xs ≤ total cap_of os = lengths-below xs os (omega arith) (λ i y p. each (suc i) y p) in
    let here : length x ≤ o.cap = each 0 x o refl refl in
    omega (arith, rest, here)

-- f with another value at i
abbrev pub put : {A : Type 0} → (ℕ → A) → ℕ → A → ℕ → A
put f i a j = if eqb j i then a else f j

module _ {A : Type 0} (f : ℕ → A) (i : ℕ) (a : A) where
  pub put-here : put f i a i ≡ a
  put-here = subst (λ b. (if b then a else f i) ≡ a) (sym (eq-eqb i i refl)) refl

  pub put-at : (j : ℕ) → j ≡ i → put f i a j ≡ a
  put-at j e = subst (λ b. (if b then a else f j) ≡ a) (sym (eq-eqb j i e)) refl

  pub put-else : (j : ℕ) → j ≢ i → put f i a j ≡ f j
  put-else j ne = subst (λ b. (if b then a else f j) ≡ f j) (sym (ne_eqb j i ne)) refl
