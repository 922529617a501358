-- Some plans.
use Rattle.std.proofs.Common.{◌≡◌, refl}
use Rattle.raid_base.specs.declared.jobs.Plan.TheVariants.{Full, Small, Reconstruct}
use Rattle.row_plans.specs.Plans.{choose}

one_of_four : choose 4 1 ≡ Small
one_of_four = refl

two_of_four : choose 4 2 ≡ Reconstruct
two_of_four = refl

three_of_four : choose 4 3 ≡ Reconstruct
three_of_four = refl

four_of_four : choose 4 4 ≡ Full
four_of_four = refl

one_of_three : choose 3 1 ≡ Small
one_of_three = refl

one_of_two : choose 2 1 ≡ Reconstruct
one_of_two = refl
