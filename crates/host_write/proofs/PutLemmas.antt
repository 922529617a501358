-- What puts have made.
use Rattle.std.proofs.Common.{◌≡◌, ℕ, ◌+◌, ◌<◌, ◌≤◌, ◌&&◌, Bool, true, List, ◌∷◌, length, get_or, drop, refl, ◌∙◌}
use Rattle.std.specs.List.{list_all}
use Rattle.std.proofs.lemmas.List.{at_drop_more, at_drop_all}

-- a test of what is left, one step on
pub all_more : (p : ℕ → Bool) (xs : List ℕ) (i d : ℕ) → i < length xs → list_all p (drop i xs) ≡ (p (get_or xs i d) && list_all p (drop (i + 1) xs))
all_more p xs i d h = at_drop_more (list_all p) xs i d h ∙ list_all-cons p (get_or xs i d) (drop (i + 1) xs) where
  list_all-cons : (p : ℕ → Bool) (x : ℕ) (xs : List ℕ) → list_all p (x ∷ xs) ≡ (p x && list_all p xs)
  list_all-cons p x xs = refl

pub all_done : (p : ℕ → Bool) (xs : List ℕ) (i : ℕ) → length xs ≤ i → list_all p (drop i xs) ≡ true
all_done p xs i h = at_drop_all (list_all p) xs i h

pub ruleset made = (all_more, all_done)
