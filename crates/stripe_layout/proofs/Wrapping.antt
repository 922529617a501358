-- Places around a ring of bays.
use Rattle.std.proofs.Common.{◌≡◌, ◌∙◌, ℕ, ◌+◌, ◌-◌, ◌%◌, ◌<◌, ◌≤◌, ◌⊎◌, inl, inr, arith}
use Rattle.std.proofs.Math.Nat.{mod-eq_of_lt, mod-eq-sub-mod}
use Rattle.std.proofs.lemmas.Bool.{cases_lt}

-- a place at most once around: below n, or n less
pub wrap : (n x : ℕ) → x < n + n → ((x < n) × (x % n ≡ x)) ⊎ ((n ≤ x) × (x % n ≡ x - n))
wrap n x h = elim (cases_lt x n) [
  | inl below ↦ inl (below, mod-eq_of_lt below)
  | inr above ↦ inr (above, mod-eq-sub-mod above ∙ mod-eq_of_lt (let e : x - n < n = omega arith in e))
]

pub wrap_below : (n x : ℕ) → x < n + n → x % n < n
wrap_below n x h = elim (wrap n x h) [ inl w ↦ omega arith | inr w ↦ omega arith ]

-- a unit behind the parity does not reach it
pub wrap_apart : (n p u : ℕ) → p < n → u < n - 1 → (p + 1 + u) % n ≡ p → ⊥
wrap_apart n p u hp hu e = elim (wrap n (p + 1 + u) (omega arith)) [ inl w ↦ omega arith | inr w ↦ omega arith ]

pub wrap_back : (n p u : ℕ) → p < n → u < n - 1 → ((p + 1 + u) % n + n - p - 1) % n ≡ u
wrap_back n p u hp hu = elim (wrap n (p + 1 + u) (omega arith)) [
  | inl w ↦ elim (wrap n ((p + 1 + u) % n + n - p - 1) (omega arith)) [ inl v ↦ omega arith | inr v ↦ omega arith ]
  | inr w ↦ elim (wrap n ((p + 1 + u) % n + n - p - 1) (omega arith)) [ inl v ↦ omega arith | inr v ↦ omega arith ]
]

pub wrap_forth : (n p b : ℕ) → p < n → b < n → (b ≡ p → ⊥) → (p + 1 + (b + n - p - 1) % n) % n ≡ b
wrap_forth n p b hp hb ne = elim (wrap n (b + n - p - 1) (omega arith)) [
  | inl w ↦ elim (wrap n (p + 1 + (b + n - p - 1) % n) (omega arith)) [ inl v ↦ omega arith | inr v ↦ omega arith ]
  | inr w ↦ elim (wrap n (p + 1 + (b + n - p - 1) % n) (omega arith)) [ inl v ↦ omega arith | inr v ↦ omega arith ]
]

pub wrap_unit : (n p b : ℕ) → p < n → b < n → (b ≡ p → ⊥) → (b + n - p - 1) % n < n - 1
wrap_unit n p b hp hb ne = elim (wrap n (b + n - p - 1) (omega arith)) [ inl w ↦ omega arith | inr w ↦ omega arith ]
