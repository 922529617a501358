-- What may be asked names a row of the script.
use Rattle.std.proofs.Common.{ℕ, ◌<◌}
use Rattle.std.specs.Prelude.{IfSome}
use Rattle.raid_base.specs.declared.messages.Request.{Request}
use Rattle.raid_base.specs.declared.messages.Request.TheVariants.{Share, Claim, Confirm, Put, Release, Lose, Fit}
use Rattle.slot_rules.specs.Serving.{row_of}
use Rattle.attempts.specs.Discipline.{IsAskable}

pub asked-row : (rows : ℕ) (request : Request) → IsAskable rows request → IfSome (row_of request) (λ row. row.0 < rows)
asked-row rows (Share row id want) a = a.0
asked-row rows (Claim row id how mask want) a = a.0
asked-row rows (Confirm row id want) a = a.0
asked-row rows (Put row id n cell) a = a.0
asked-row rows (Release row id n) a = a.0
asked-row rows Lose a = tt
asked-row rows Fit a = tt
