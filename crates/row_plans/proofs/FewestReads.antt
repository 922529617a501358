-- Which plan reads the fewest cells.
use Rattle.std.proofs.Common.{◌≡◌, ℕ, ◌+◌, ◌-◌, ◌<◌, ◌≤◌, ◌==◌, nat_le, Bool, true, false, refl, arith}
use Rattle.std.proofs.lemmas.Bool.Decides.{nat_tests}
use Rattle.raid_base.specs.declared.jobs.Plan.{Plan}
use Rattle.raid_base.specs.declared.jobs.Plan.TheVariants.{Full, Small, Reconstruct}
use Rattle.row_plans.specs.Plans.{choose}
use Rattle.row_plans.specs.Laws.{reads, Serves}

small_least : (d k : ℕ) → k + 1 ≤ d - k → (plan : Plan) → Serves plan d k → k + 1 ≤ reads plan d k
small_least d k p Small s = omega arith
small_least d k p Reconstruct s = p
small_least d k p Full s = absurd (omega arith)

reconstruct_least : (d k : ℕ) → d - k ≤ k + 1 → k < d → (plan : Plan) → Serves plan d k → d - k ≤ reads plan d k
reconstruct_least d k p q Small s = p
reconstruct_least d k p q Reconstruct s = omega arith
reconstruct_least d k p q Full s = absurd (omega arith)

fewest_by : (d k : ℕ) (full small : Bool) → (k == d) ≡ full → nat_le (k + 1) (d - k) ≡ small → k ≤ d → Serves (choose d k) d k × ((plan : Plan) → Serves plan d k → reads (choose d k) d k ≤ reads plan d k)
fewest_by d k true small e f q = rw e (grind (arith, nat_tests), λ plan s. omega arith)
fewest_by d k false true e f q = rw (e, f) (tt, small_least d k (grind (arith, nat_tests)))
fewest_by d k false false e f q = rw (e, f) (tt, reconstruct_least d k (grind (arith, nat_tests)) (grind (arith, nat_tests)))

pub fewest : (d k : ℕ) → 1 ≤ k → k ≤ d → Serves (choose d k) d k × ((plan : Plan) → Serves plan d k → reads (choose d k) d k ≤ reads plan d k)
fewest d k p q = fewest_by d k (k == d) (nat_le (k + 1) (d - k)) refl refl q
