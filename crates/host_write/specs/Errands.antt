-- What a write asks of a row, as the code has it at hand.
use Rattle.std.specs.Prelude.{◌-◌, Bool, List, [], ◌∷◌}
use Rattle.raid_base.specs.declared.jobs.RowPart.{RowPart}
use Rattle.raid_base.specs.declared.messages.Errand.{Errand}
use Rattle.raid_base.specs.declared.messages.How.TheVariants.{Plain}
use Rattle.stripe_layout.specs.Placement.{bays_of, parity_bay, units_in, units_out}
use Rattle.row_plans.specs.Plans.{choose}
use Rattle.attempts.specs.declared.assignment.Assignment.{Assignment}
use Rattle.attempts.specs.Taking.{Row, shares, claims, claim, confirm, lacks}
use Rattle.attempts.specs.Puts.{is_small_plan}

-- the claim of a part's parity, with its cell where the plan reads it
abbrev pub parity_claim_of : Assignment → RowPart → List Errand
parity_claim_of job part = claim job.id part.row Plain part.mask (is_small_plan (choose (job.n - 1) part.count)) (parity_bay job.n part.row) ∷ []

-- the claims of a part's units, with their cells or without
abbrev pub wanted_claims_of : Assignment → Bool → RowPart → List Errand
wanted_claims_of job want part = claims job.id part.row Plain want (bays_of job.n part.row (units_in job.n part.mask))

-- the shares of the other units of its row
abbrev pub other_shares_of : Assignment → RowPart → List Errand
other_shares_of job part = shares job.id part.row (bays_of job.n part.row (units_out job.n part.mask))

-- the confirm of a row's parity, with its cell where a unit was missing that is not wanted
abbrev pub row_confirm_of : Assignment → Row → List Errand
row_confirm_of job row = confirm job.id row.part.row (lacks row.others) (parity_bay job.n row.part.row) ∷ []
