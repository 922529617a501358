-- The cells of all units of a row but one.
use Rattle.std.proofs.Common.{◌≡◌, ◌≢◌, ℕ, zero, suc, ◌<◌, ◌≤◌, ◌+◌, ◌-◌, List, [], ◌∷◌, ◌++◌, take, drop, get_or, length, Option, Some, None, refl, sym, ap, ◌∙◌, arith, append_assoc, append-nil, length-append, length-drop, ◌⊎◌, inl, inr}
use Rattle.std.proofs.Math.ListN.{drop_of_length-le}
use Rattle.std.proofs.lemmas.List.{take_more, take_all, length-take-le, take-append-le, get_or-take, get_or-drop, get_or_append_left, get_or-append-add, length-take, drop-append-le}
use Rattle.std.proofs.Common.{map, slice_get}
use Rattle.std.proofs.lemmas.Option.{slice_get-get_or}
use Rattle.std.proofs.lemmas.List.FromFn.{get_or-map-range_with_len, length-map-range_with_len}
use Rattle.stripe_layout.specs.Placement.{units}
use Rattle.raid_base.specs.declared.cells.Cell.{Cell}
use Rattle.degraded_plans.specs.Rows.{all_present, with_cell, others_of}

push-at : (x c : Cell) (cs : List Cell) (ps later : Option (List Cell)) → ((qs : List Cell) → ps ≡ Some qs → later ≡ Some (qs ++ c ∷ [])) → with_cell (Some x) ps ≡ Some cs → with_cell (Some x) later ≡ Some (cs ++ c ∷ [])
push-at x c cs None later f e = cc
push-at x c cs (Some ps) later f e =
    let q : x ∷ ps ≡ cs = cc in
    ap (with_cell (Some x)) (f ps refl) ∙ ap (λ y. Some (y ++ c ∷ [])) q

-- one more cell that is there
all_present-push : (xs : List (Option Cell)) (c : Cell) (cs : List Cell) → all_present xs ≡ Some cs → all_present (xs ++ Some c ∷ []) ≡ Some (cs ++ c ∷ [])
all_present-push [] c cs e = let q : [] ≡ cs = cc in ap (λ x. Some (x ++ c ∷ [])) q
all_present-push (None ∷ xs) c cs e = cc
all_present-push (Some x ∷ xs) c cs e = push-at x c cs (all_present xs) (all_present (xs ++ Some c ∷ [])) (λ qs p. all_present-push xs c qs p) e

-- one that is not
all_present-none : (xs : List (Option Cell)) (i : ℕ) → i < length xs → get_or xs i None ≡ None → all_present xs ≡ None
all_present-none [] i h e = absurd (omega arith)
all_present-none (None ∷ xs) i h e = refl
all_present-none (Some x ∷ xs) zero h e = cc
all_present-none (Some x ∷ xs) (suc i) h e = ap (with_cell (Some x)) (all_present-none xs i (omega arith) e)

-- the cells before a unit's own, and behind it
others-below : (unit : ℕ) (ys : List (Option Cell)) → length ys ≤ unit → others_of unit ys ≡ ys
others-below unit ys h =
    let none : drop (unit + 1) ys ≡ [] = drop_of_length-le ys {i = unit + 1} (omega arith) in
    ap (λ z. z ++ drop (unit + 1) ys) (take_all unit ys h) ∙ ap (λ z. ys ++ z) none ∙ append-nil ys

others-skip : (unit : ℕ) (ys : List (Option Cell)) (x : Option Cell) → length ys ≡ unit → others_of unit (ys ++ x ∷ []) ≡ others_of unit ys
others-skip unit ys x e =
    let none : drop (unit + 1) ys ≡ [] = drop_of_length-le ys {i = unit + 1} (omega arith) in
    let later : drop (unit + 1) (ys ++ x ∷ []) ≡ [] = drop_of_length-le (ys ++ x ∷ []) {i = unit + 1} (omega (arith, length-append ys (x ∷ []))) in
    ap (λ z. z ++ drop (unit + 1) (ys ++ x ∷ [])) (take-append-le unit ys (x ∷ []) (omega arith)) ∙ ap (λ z. take unit ys ++ z) (later ∙ sym none)

others-push-at : (unit : ℕ) (ys : List (Option Cell)) (x : Option Cell) → (length ys < unit) ⊎ (unit < length ys) → others_of unit (ys ++ x ∷ []) ≡ others_of unit ys ++ x ∷ []
others-push-at unit ys x (inl h) =
    others-below unit (ys ++ x ∷ []) (omega (arith, length-append ys (x ∷ []))) ∙ ap (λ z. z ++ x ∷ []) (sym (others-below unit ys (omega arith)))
others-push-at unit ys x (inr h) =
    ap (λ z. z ++ drop (unit + 1) (ys ++ x ∷ [])) (take-append-le unit ys (x ∷ []) (omega arith))
    ∙ ap (λ z. take unit ys ++ z) (drop-append-le (unit + 1) ys (x ∷ []) (omega arith))
    ∙ sym (append_assoc (take unit ys) (drop (unit + 1) ys) (x ∷ []))

others-push : (unit : ℕ) (ys : List (Option Cell)) (x : Option Cell) → length ys ≢ unit → others_of unit (ys ++ x ∷ []) ≡ others_of unit ys ++ x ∷ []
others-push unit ys x e = others-push-at unit ys x (grind arith)

-- one step of a walk over the units
pub walk-skip : (unit k : ℕ) (us : List (Option Cell)) (cs : List Cell) → k < length us → k ≡ unit → all_present (others_of unit (take k us)) ≡ Some cs → all_present (others_of unit (take (k + 1) us)) ≡ Some cs
walk-skip unit k us cs h e p =
    ap (λ z. all_present (others_of unit z)) (take_more us k None h) ∙ ap all_present (others-skip unit (take k us) (get_or us k None) (length-take-le k us (omega arith) ∙ e)) ∙ p

pub walk-push : (unit k : ℕ) (us : List (Option Cell)) (cs : List Cell) (c : Cell) → k < length us → k ≢ unit → get_or us k None ≡ Some c → all_present (others_of unit (take k us)) ≡ Some cs → all_present (others_of unit (take (k + 1) us)) ≡ Some (cs ++ c ∷ [])
walk-push unit k us cs c h e g p =
    let len = length-take-le k us (omega arith) in
    ap (λ z. all_present (others_of unit z)) (take_more us k None h)
    ∙ ap all_present (others-push unit (take k us) (get_or us k None) (λ q. e (sym len ∙ q)))
    ∙ ap (λ z. all_present (others_of unit (take k us) ++ z ∷ [])) g
    ∙ all_present-push (others_of unit (take k us)) c cs p

-- a missing cell of another unit
others-at : (unit k : ℕ) (us : List (Option Cell)) → k < length us → (k < unit) ⊎ (unit < k) → get_or us k None ≡ None → all_present (others_of unit us) ≡ None
others-at unit k us h (inl b) g =
    let len = length-take unit us in
    all_present-none (others_of unit us) k (omega (arith, length-append (take unit us) (drop (unit + 1) us), len))
    (get_or_append_left (take unit us) (drop (unit + 1) us) None k (omega (arith, len)) ∙ get_or-take unit us k None b ∙ g)
others-at unit k us h (inr b) g =
    let len : length (take unit us) ≡ unit = length-take-le unit us (omega arith) in
    let more = length-drop (unit + 1) us in
    let at : unit + (k - (unit + 1)) ≡ k - 1 = omega arith in
    let back : unit + 1 + (k - (unit + 1)) ≡ k = omega arith in
    all_present-none (others_of unit us) (k - 1) (omega (arith, length-append (take unit us) (drop (unit + 1) us), len, more))
    (ap (λ i. get_or (others_of unit us) i None) (sym at ∙ ap (λ i. i + (k - (unit + 1))) (sym len))
    ∙ get_or-append-add (take unit us) (drop (unit + 1) us) (k - (unit + 1)) None
    ∙ get_or-drop (unit + 1) us (k - (unit + 1)) None ∙ ap (λ i. get_or us i None) back ∙ g)

pub walk-none : (unit k : ℕ) (us : List (Option Cell)) → k < length us → k ≢ unit → get_or us k None ≡ None → all_present (others_of unit us) ≡ None
walk-none unit k us h e g = others-at unit k us h (grind arith) g

-- the cell of a unit, among those of all units
pub unit-got : (f : ℕ → Option Cell) (n unit : ℕ) (cell : Option Cell) → unit < n - 1 → f unit ≡ cell → slice_get (map f (units n)) unit ≡ Some cell
unit-got f n unit cell h e =
    slice_get-get_or (map f (units n)) unit None (omega (arith, length-map-range_with_len f 0 (n - 1)))
    ∙ ap (λ x. Some x) (get_or-map-range_with_len f 0 (n - 1) unit unit None h (omega arith) ∙ e)
