-- What is settled has no number left to draw.
use Rattle.std.proofs.Common.{◌≡◌, false, refl}
use Rattle.raid_base.specs.declared.numbers.HostNo.{HostNo}
use Rattle.raid_base.specs.declared.numbers.Number.{Number}
use Rattle.raid_base.specs.Numbers.{draw, seen_drawn}
use Rattle.raid_base.specs.Steps.{Steps, Asks, Draws, Ends, draws, settled}

-- once settled nothing is to be drawn
pub draws-settled : {A : Type 0} (host : HostNo) (seen : Number) (s : Steps A) → draws (settled host seen s).steps ≡ false
draws-settled host seen (Asks e t c k) = refl
draws-settled host seen (Draws k) = draws-settled host (seen_drawn seen (draw host seen)) (k (draw host seen))
draws-settled host seen (Ends a) = refl
