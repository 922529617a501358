-- In each row every bay holds the parity or exactly one unit.
use Rattle.std.proofs.Common.{◌≡◌, ◌≢◌, ◌∙◌, sym, ap, refl, subst, ℕ, ◌+◌, ◌-◌, ◌%◌, ◌<◌, ◌≤◌, ◌⊎◌, inl, inr, arith, Some, None}
use Rattle.std.proofs.lemmas.Bool.{cases_eq, eq-eqb, ne_eqb, cond-true, cond-false}
use Rattle.std.proofs.lemmas.Nat.{mod_below}
use Rattle.raid_base.specs.declared.numbers.BayNo.{BayNo}
use Rattle.raid_base.specs.declared.numbers.RowNo.{RowNo}
use Rattle.stripe_layout.specs.Placement.{bay, parity_at, parity_bay, bay_of, unit_at}
use Rattle.stripe_layout.specs.Layout.{HoldsUnit, IsLaidOut}
use Rattle.stripe_layout.proofs.Wrapping.{wrap_apart, wrap_back, wrap_forth, wrap_unit}

pub parity_in : (n : ℕ) (row : RowNo) → 3 ≤ n → parity_at n row < n
parity_in n row h = omega (arith, mod_below)

-- the unit on a bay other than the parity's
pub unit_at_other : (n : ℕ) (row : RowNo) (at : BayNo) → (at.0 ≡ parity_at n row → ⊥) → unit_at n row at ≡ Some ((at.0 + n - parity_at n row - 1) % n)
unit_at_other n row at ne = cond-false _ _ _ (ne_eqb _ _ ne)

pub unit_at_parity : (n : ℕ) (row : RowNo) → unit_at n row (parity_bay n row) ≡ None
unit_at_parity n row = cond-true _ _ _ (eq-eqb (parity_at n row) (parity_at n row) refl)

pub unit_apart : (n : ℕ) (row : RowNo) (unit : ℕ) → 3 ≤ n → unit < n - 1 → bay_of n row unit ≢ parity_bay n row
unit_apart n row unit h hu e = wrap_apart n (parity_at n row) unit (parity_in n row h) hu (ap (λ (b : BayNo). b.0) e)

-- a unit's bay has that unit
pub unit_back : (n : ℕ) (row : RowNo) (unit : ℕ) → 3 ≤ n → unit < n - 1 → unit_at n row (bay_of n row unit) ≡ Some unit
unit_back n row unit h hu =
    unit_at_other n row (bay_of n row unit) (λ e. wrap_apart n (parity_at n row) unit (parity_in n row h) hu e)
    ∙ ap (λ (u : ℕ). Some u) (wrap_back n (parity_at n row) unit (parity_in n row h) hu)

pub unit_distinct : (n : ℕ) (row : RowNo) (unit other : ℕ) → 3 ≤ n → unit < n - 1 → other < n - 1 → bay_of n row unit ≡ bay_of n row other → unit ≡ other
unit_distinct n row unit other h hu ho e =
    let some : Some unit ≡ Some other = sym (unit_back n row unit h hu) ∙ ap (unit_at n row) e ∙ unit_back n row other h ho in
    cc

-- the unit that a bay other than the parity's has, and no other
pub holds_other : (n : ℕ) (row : RowNo) (at : BayNo) → 3 ≤ n → at.0 < n → (at.0 ≡ parity_at n row → ⊥) → HoldsUnit n row at ((at.0 + n - parity_at n row - 1) % n)
holds_other n row at h ha ne =
    let p : ℕ = parity_at n row in
    let hp : p < n = parity_in n row h in
    let inside : (at.0 + n - p - 1) % n < n - 1 = wrap_unit n p at.0 hp ha ne in
    let stands : bay_of n row ((at.0 + n - p - 1) % n) ≡ at = ap bay (wrap_forth n p at.0 hp ha ne) in
    record {
      unit_in = inside;
      stands = stands;
      alone = λ other ho e. unit_distinct n row other _ h ho inside (e ∙ sym stands);
    }

pub holds_some : (n : ℕ) (row : RowNo) (at : BayNo) (unit : ℕ) → 3 ≤ n → at.0 < n → unit_at n row at ≡ Some unit → HoldsUnit n row at unit
holds_some n row at unit h ha e = elim (cases_eq at.0 (parity_at n row)) [
  | inl same ↦ absurd (let none : unit_at n row at ≡ None = cond-true _ _ _ (eq-eqb at.0 (parity_at n row) same) in let no : ⊥ = cc in no)
  | inr ne ↦
      let is : (at.0 + n - parity_at n row - 1) % n ≡ unit = (let s : Some ((at.0 + n - parity_at n row - 1) % n) ≡ Some unit = sym (unit_at_other n row at ne) ∙ e in cc) in
      subst (HoldsUnit n row at) is (holds_other n row at h ha ne)
]

pub covered : (n : ℕ) (row : RowNo) (at : BayNo) → 3 ≤ n → at.0 < n → (at ≡ parity_bay n row) ⊎ ((unit : ℕ) × HoldsUnit n row at unit)
covered n row at h ha = elim (cases_eq at.0 (parity_at n row)) [
  | inl same ↦ inl (ap bay same)
  | inr ne ↦ inr (_, holds_other n row at h ha ne)
]

pub laid_out : (n : ℕ) (row : RowNo) → 3 ≤ n → IsLaidOut n row
laid_out n row h = record {
  parity_in = parity_in n row h;
  units_in = λ unit hu. mod_below _ n (omega arith);
  covered = λ at ha. covered n row at h ha;
  apart = λ unit hu. unit_apart n row unit h hu;
  distinct = λ unit other hu ho e. unit_distinct n row unit other h hu ho e;
  parity_has_none = unit_at_parity n row;
  back = λ unit hu. unit_back n row unit h hu;
  forth = λ at unit ha e. holds_some n row at unit h ha e;
}
