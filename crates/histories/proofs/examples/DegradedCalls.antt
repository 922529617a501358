-- Calls of attempts with a missing slot, which no reply refuses, and some that refuse.
use Rattle.std.proofs.Common.{◌≡◌, ℕ, ◌==◌, true, false, List, [], ◌∷◌, Some, None, refl, ap}
use Rattle.std.proofs.lemmas.Bool.{eq-eqb}
use Rattle.raid_base.specs.declared.numbers.BayNo.{BayNo}
use Rattle.raid_base.specs.declared.messages.Mode.TheVariants.{Lock, Order}
use Rattle.raid_base.specs.declared.messages.How.TheVariants.{Plain}
use Rattle.raid_base.specs.declared.messages.Request.{Request}
use Rattle.raid_base.specs.declared.messages.Request.TheVariants.{Share, Claim, Confirm, Release}
use Rattle.raid_base.specs.declared.messages.Reply.{Reply}
use Rattle.raid_base.specs.declared.messages.Reply.TheVariants.{Granted, Missing, Held, NoNote}
use Rattle.raid_base.specs.declared.messages.Call.{Call}
use Rattle.raid_base.specs.Cells.{zero_cell}
use Rattle.raid_base.specs.Numbers.{number}
use Rattle.histories.specs.Completeness.{AreUnrefused}
use Rattle.histories.proofs.examples.Heads.{host, bay, row}

abbrev said : ℕ → Request → Reply → Call
said k what reply = record {
  bay = bay k;
  ask = record { host = host 1; clock = 0; moment = 0; what = what };
  answer = record { clock = 0; reply = reply };
}

abbrev granted : Reply
granted = Granted (Some zero_cell) (number 0) (number 0) (number 0) 0 None

abbrev share : ℕ → ℕ → Reply → Call
share k id reply = said k (Share (row 0) (number id) true) reply

-- a read of a missing unit, under stamps with an id above the floor
abbrev degraded_read : List Call
degraded_read = share 1 17 granted ∷ share 4 17 granted ∷ share 0 17 (Missing (number 3)) ∷ []

read_on : AreUnrefused Order degraded_read
read_on = (refl, (refl, (refl, tt)))

-- with an id that is not, and with a second bay missing
read_behind : AreUnrefused Order (share 0 1 (Missing (number 3)) ∷ []) → ⊥
read_behind (behind, rest) = cc

read_broken : AreUnrefused Lock (share 1 17 (Missing (number 3)) ∷ share 0 17 (Missing (number 3)) ∷ []) → ⊥
read_broken (broken, rest) = cc

-- a write that finds another unit missing: its confirm wants the parity's cell
abbrev claimed_calls : List Call
claimed_calls = share 1 17 (Missing (number 3)) ∷ said 4 (Claim (row 0) (number 17) Plain 1 true) granted ∷ []

abbrev confirm : Reply → Call
confirm reply = said 4 (Confirm (row 0) (number 17) true) reply

other-bay : bay 1 ≡ bay 4 → ⊥
other-bay same = let t : (1 == 4) ≡ true = eq-eqb 1 4 (ap (λ (b : BayNo). b.0) same) in cc

confirm_held : AreUnrefused Lock (confirm (Held (Some zero_cell)) ∷ claimed_calls)
confirm_held = ((refl, (λ c. absurd (other-bay c.0), (λ c. refl, tt))), (refl, (refl, tt)))

-- held without it, or missing, or its note gone
confirm_bare : AreUnrefused Lock (confirm (Held None) ∷ claimed_calls) → ⊥
confirm_bare (met, rest) = let undue : true ≡ false = met.1.1.0 (refl, number 17, Plain, 1, true, refl) in cc

confirm_missing : AreUnrefused Lock (confirm (Missing (number 3)) ∷ said 4 (Claim (row 0) (number 17) Plain 1 true) granted ∷ []) → ⊥
confirm_missing (met, rest) = let undue : true ≡ false = met.1.0 (refl, number 17, Plain, 1, true, refl) in cc

confirm_unnoted : AreUnrefused Lock (confirm (NoNote 0) ∷ claimed_calls) → ⊥
confirm_unnoted (met, rest) = let undue : true ≡ false = met.1.1.0 (refl, number 17, Plain, 1, true, refl) in cc

-- the reply to a release matters where that tells a number
release_untold : AreUnrefused Lock (said 1 (Release (row 0) (number 17) None) (NoNote 0) ∷ [])
release_untold = (tt, tt)

release_told : AreUnrefused Lock (said 1 (Release (row 0) (number 17) (Some (number 33))) (NoNote 0) ∷ []) → ⊥
release_told (unnoted, rest) = cc
