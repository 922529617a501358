-- The life that a slot shows of a unit.
use Rattle.std.specs.Prelude.{ℕ, ◌==◌, if◌then◌else◌, Option, Some, None}
use Rattle.raid_base.specs.declared.messages.Grant.{Grant}

-- where it is that unit's and was granted
abbrev pub life_at : ℕ → ℕ → Option Grant → Option ℕ
life_at unit other None = None
life_at unit other (Some grant) = if other == unit then Some grant.life else None
