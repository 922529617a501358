-- Attempts whose errands count, each so much and all together at most so much.
use Rattle.std.proofs.Common.{◌≡◌, ℕ, zero, suc, ◌-◌, ◌≤◌, Some, Result, subst, arith}
use Rattle.raid_base.specs.declared.numbers.HostNo.{HostNo}
use Rattle.raid_base.specs.declared.numbers.BayNo.{BayNo}
use Rattle.raid_base.specs.declared.numbers.Number.{Number}
use Rattle.raid_base.specs.declared.numbers.Spent.{Spent}
use Rattle.raid_base.specs.declared.messages.Errand.{Errand}
use Rattle.raid_base.specs.declared.messages.Reply.{Reply}
use Rattle.raid_base.specs.Numbers.{draw, seen_drawn, sees}
use Rattle.raid_base.specs.Steps.{Steps, Asks, Draws, Ends, settled, told, next_errand}
use Rattle.attempts.specs.Discipline.{Obeys, IsDrawn}
use Rattle.attempts.specs.BayBounds.{count_at, ObeysAt}
use Rattle.histories.proofs.bounds.BoundsTries.{draw-within}

-- Whatever the replies and the numbers drawn: each errand is P, they count at most so much together, and the answer is Q.
abbrev pub ObeysBy : {A : Type 0} → (Errand → ℕ) → (Errand → Type 0) → (A → Type 0) → ℕ → Steps A → Type 0
ObeysBy f P Q most (Ends a) = Q a
ObeysBy f P Q most (Draws k) = (d : Result Number Spent) → IsDrawn d → ObeysBy f P Q most (k d)
ObeysBy f P Q most (Asks e s c k) = P e × (f e ≤ most) × ((r : Reply) → ObeysBy f P Q (most - f e) (k r))

-- each errand counts one
abbrev pub one : Errand → ℕ
one e = 1

module _ {A : Type 0} (P : Errand → Type 0) (Q : A → Type 0) where
  pub by-one : (most : ℕ) (s : Steps A) → Obeys P Q most s → ObeysBy one P Q most s
  by-one most (Ends a) o = o
  by-one most (Draws k) o = λ d drawn. by-one most (k d) (o d drawn)
  by-one zero (Asks e t c k) o = absurd o
  by-one (suc m) (Asks e t c k) o =
      let left : m ≡ suc m - 1 = omega arith in
      (o.0, omega arith, λ r. subst (λ (n : ℕ). ObeysBy one P Q n (k r)) left (by-one m (k r) (o.1 r)))

  pub of-one : (most : ℕ) (s : Steps A) → ObeysBy one P Q most s → Obeys P Q most s
  of-one most (Ends a) o = o
  of-one most (Draws k) o = λ d drawn. of-one most (k d) (o d drawn)
  of-one zero (Asks e t c k) o = absurd (omega (arith, o.1))
  of-one (suc m) (Asks e t c k) o =
      let left : suc m - 1 ≡ m = omega arith in
      (o.0, λ r. of-one m (k r) (subst (λ (n : ℕ). ObeysBy one P Q n (k r)) left (o.2 r)))

  -- an errand counts where it goes to this bay
  pub by-bay : (bay : BayNo) (most few : ℕ) (s : Steps A) → Obeys P Q most s → ObeysAt bay few s → ObeysBy (count_at bay) P Q few s
  by-bay bay most few (Ends a) o at = o
  by-bay bay most few (Draws k) o at = λ d drawn. by-bay bay most few (k d) (o d drawn) (at d drawn)
  by-bay bay zero few (Asks e t c k) o at = absurd o
  by-bay bay (suc most) few (Asks e t c k) o at = (o.0, at.0, λ r. by-bay bay most (few - count_at bay e) (k r) (o.1 r) (at.1 r))

  module _ (f : Errand → ℕ) (host : HostNo) where
    -- what obeys still does once it is settled
    pub settled-obeys : (most : ℕ) (seen : Number) (s : Steps A) → ObeysBy f P Q most s → ObeysBy f P Q most (settled host seen s).steps
    settled-obeys most seen (Asks e t c k) o = o
    settled-obeys most seen (Draws k) o = settled-obeys most (seen_drawn seen (draw host seen)) (k (draw host seen)) (o (draw host seen) (draw-within host seen))
    settled-obeys most seen (Ends a) o = o

    -- one request less
    pub told-obeys : (most : ℕ) (seen : Number) (s : Steps A) (e : Errand) (r : Reply) → ObeysBy f P Q most s → next_errand s ≡ Some e →
        (f e ≤ most) × ObeysBy f P Q (most - f e) (told host (record { seen = seen; steps = s }) r).steps
    told-obeys most seen (Asks e t c k) errand r o is =
        let same : e ≡ errand = cc in
        subst (λ (x : Errand). (f x ≤ most) × ObeysBy f P Q (most - f x) (settled host (sees seen r) (k r)).steps) same
        (o.1, settled-obeys (most - f e) (sees seen r) (k r) (o.2 r))
    told-obeys most seen (Draws k) errand r o is = cc
    told-obeys most seen (Ends a) errand r o is = cc
