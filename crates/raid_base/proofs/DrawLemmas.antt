-- Where steps draw a number and where they do not.
use Rattle.std.proofs.Common.{◌≡◌, ◌<◌, List, [], ◌∷◌, true, false, length, refl, arith}
use Rattle.raid_base.specs.declared.numbers.HostNo.{HostNo}
use Rattle.raid_base.specs.declared.numbers.Number.{Number}
use Rattle.raid_base.specs.declared.messages.Errand.{Errand}
use Rattle.raid_base.specs.Numbers.{draw, seen_drawn}
use Rattle.raid_base.specs.Steps.{Steps, Asks, Draws, Ends, settled, draws, behind_number, bind, run, Walk, Phase}

-- a walk with an errand left asks
pub draws-run : {A B : Type 0} (phase : Phase A) (es : List Errand) (a : A) (f : Walk A → Steps B) → 0 < length es → draws (bind (run phase es a) f) ≡ false
draws-run phase [] a f h = absurd (omega arith)
draws-run phase (x ∷ es) a f h = refl

module _ {A : Type 0} where
  -- nothing is drawn where nothing is to be drawn
  pub settled-asks : (host : HostNo) (seen : Number) (s : Steps A) → draws s ≡ false → settled host seen s ≡ record { seen = seen; steps = s }
  settled-asks host seen (Asks e t c k) h = refl
  settled-asks host seen (Draws k) h = cc
  settled-asks host seen (Ends a) h = refl

  pub settled-draws : (host : HostNo) (seen : Number) (s : Steps A) → draws s ≡ true
      → settled host seen s ≡ settled host (seen_drawn seen (draw host seen)) (behind_number s (draw host seen))
  settled-draws host seen (Asks e t c k) h = cc
  settled-draws host seen (Draws k) h = refl
  settled-draws host seen (Ends a) h = cc
