-- Units that are passed by one.
use Rattle.std.proofs.Common.{min, is_some, append_assoc, length-drop, ◌≡◌, ℕ, ◌+◌, ◌<◌, ◌≤◌, Bool, cond, List, [], ◌∷◌, ◌++◌, Option, Some, None, length, get_or, drop, zip, refl, ap, sym, ◌∙◌, arith}
use Rattle.std.specs.List.{All, range_with_len, filter}
use Rattle.std.proofs.lemmas.List.{map-id, at_drop_more, nil_from_length}
use Rattle.std.proofs.lemmas.Slice.Zip.{length-zip}
use Rattle.std.proofs.lemmas.List.Elements.{All-filter, All-from_get_or, All-nil, All-cons, All-head, All-tail}
use Rattle.std.proofs.lemmas.List.FromFn.{length-range_with_len, get_or-range_with_len, filter_of_map_range_with_len_more}
use Rattle.raid_base.specs.declared.messages.Grant.{Grant}
use Rattle.attempts.specs.Releases.{granted_of}

-- one more number
pub filter-range_more : (p : ℕ → Bool) (k : ℕ) → filter p (range_with_len 0 (k + 1)) ≡ filter p (range_with_len 0 k) ++ cond (p k) (k ∷ []) []
filter-range_more p k =
    ap (filter p) (sym (map-id (range_with_len 0 (k + 1))))
    ∙ filter_of_map_range_with_len_more p (λ x. x) 0 k k (omega arith)
    ∙ ap (λ xs. filter p xs ++ cond (p k) (k ∷ []) []) (map-id (range_with_len 0 k))

module _ {X Y Z : Type 0} where
  -- a function of the pairs that are left, one step on
  pub at_zip_more : (F : List (X × Y) → Z) (xs : List X) (ys : List Y) (i : ℕ) (d : X) (e : Y) → i < length xs → i < length ys
      → F (zip (drop i xs) (drop i ys)) ≡ F ((get_or xs i d, get_or ys i e) ∷ zip (drop (i + 1) xs) (drop (i + 1) ys))
  at_zip_more F xs ys i d e h g =
      at_drop_more (λ zs. F (zip zs (drop i ys))) xs i d h
      ∙ at_drop_more (λ zs. F (zip (get_or xs i d ∷ drop (i + 1) xs) zs)) ys i e g

  -- and at the end
  pub at_zip_all : (F : List (X × Y) → Z) (xs : List X) (ys : List Y) (i : ℕ) → min (length xs) (length ys) ≤ i → F (zip (drop i xs) (drop i ys)) ≡ F []
  at_zip_all F xs ys i h = ap F (nil_from_length (zip (drop i xs) (drop i ys)) (omega (arith, length-zip (drop i xs) (drop i ys), length-drop i xs, length-drop i ys)))

-- numbers up from 0 are below their count
range-below : (n : ℕ) → All (λ unit. unit < n) (range_with_len 0 n)
range-below n = All-from_get_or (λ unit. unit < n) (range_with_len 0 n) 0 below where
  below : (i : ℕ) → i < length (range_with_len 0 n) → get_or (range_with_len 0 n) i 0 < n
  below i h =
      let less : i < n = omega (arith, length-range_with_len 0 n) in
      omega (arith, get_or-range_with_len 0 n i 0 less)

pub filter-range-below : (p : ℕ → Bool) (n : ℕ) → All (λ unit. unit < n) (filter p (range_with_len 0 n))
filter-range-below p n = All-filter p (λ unit. unit < n) (range_with_len 0 n) (range-below n)

pub granted-below : (m : ℕ) (us : List ℕ) (gs : List (Option Grant)) → All (λ unit. unit < m) us → All (λ unit. unit < m) (granted_of (zip us gs))
granted-below m [] gs h = h
granted-below m (u ∷ us) [] h = All-nil (λ unit. unit < m)
granted-below m (u ∷ us) (Some g ∷ gs) h =
    All-cons (λ unit. unit < m) u (granted_of (zip us gs)) (All-head (λ unit. unit < m) u us h) (granted-below m us gs (All-tail (λ unit. unit < m) u us h))
granted-below m (u ∷ us) (None ∷ gs) h = granted-below m us gs (All-tail (λ unit. unit < m) u us h)

pub ruleset units = (filter-range_more, filter-range-below)

pub granted_more : (acc us : List ℕ) (gs : List (Option Grant)) (i : ℕ) (d : ℕ) (e : Option Grant) → i < length us → i < length gs
    → acc ++ granted_of (zip (drop i us) (drop i gs))
    ≡ (acc ++ cond (is_some (get_or gs i e)) (get_or us i d ∷ []) []) ++ granted_of (zip (drop (i + 1) us) (drop (i + 1) gs))
granted_more acc us gs i d e h g =
    ap (λ xs. acc ++ xs) (at_zip_more granted_of us gs i d e h g ∙ granted-cons (get_or us i d) (get_or gs i e) (zip (drop (i + 1) us) (drop (i + 1) gs)))
    ∙ sym (append_assoc acc (cond (is_some (get_or gs i e)) (get_or us i d ∷ []) []) (granted_of (zip (drop (i + 1) us) (drop (i + 1) gs)))) where
      granted-cons : (u : ℕ) (x : Option Grant) (ps : List (ℕ × Option Grant)) → granted_of ((u, x) ∷ ps) ≡ cond (is_some x) (u ∷ []) [] ++ granted_of ps
      granted-cons u (Some x) ps = refl
      granted-cons u None ps = refl

pub ruleset granted = (granted_more, at_zip_all)
