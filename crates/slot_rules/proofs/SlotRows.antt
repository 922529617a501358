-- One slot, request by request.
use Rattle.std.proofs.Common.{◌≡◌, ℕ, List, [], ◌∷◌, Some, None, true, false, refl}
use Rattle.raid_base.specs.declared.messages.Mode.TheVariants.{Lock, Order}
use Rattle.raid_base.specs.declared.messages.How.TheVariants.{Plain, Seize, Mend}
use Rattle.raid_base.specs.declared.messages.Note.{Note}
use Rattle.raid_base.specs.declared.messages.Request.{Request}
use Rattle.raid_base.specs.declared.messages.Request.TheVariants.{Share, Claim, Put, Release, Lose, Fit}
use Rattle.raid_base.specs.declared.messages.Reply.{Reply}
use Rattle.raid_base.specs.declared.messages.Reply.TheVariants.{Granted, Busy, Late, Young, Missing, NoNote, Done, Emptied, Fitted}
use Rattle.raid_base.specs.declared.messages.Ask.{Ask}
use Rattle.raid_base.specs.declared.numbers.RowNo.{RowNo}
use Rattle.raid_base.specs.Numbers.{number}
use Rattle.raid_base.specs.Cells.{zero_cell}
use Rattle.slot_rules.specs.Slots.{Bay, first_bay}
use Rattle.slot_rules.specs.Rules.{rule}

abbrev row : RowNo
row = record { 0 = 0 }

abbrev ask : ℕ → ℕ → Request → Ask
ask host moment what = record { host = record { 0 = host }; clock = 0; moment = moment; what = what }

-- the replies to some asks, one after the other
abbrev replies : Bay → List Ask → List Reply
replies bay [] = []
replies bay (x ∷ xs) = (rule bay x false).reply ∷ replies (rule bay x false).bay xs

abbrev granted : ℕ → ℕ → ℕ → Reply
granted read_no write_no last = Granted None (number read_no) (number write_no) (number last) 0 None

abbrev note : ℕ → ℕ → ℕ → Note
note host id moment = record { host = record { 0 = host }; id = number id; origin = number id; mask = 0; moment = moment }

stamps : replies (first_bay Order 1 3)
    (ask 1 1 (Claim row (number 17) Plain 0 false) ∷ ask 2 2 (Share row (number 34) false) ∷ ask 2 3 (Share row (number 2) false)
    ∷ ask 1 4 (Put row (number 17) (number 17) zero_cell) ∷ ask 2 5 (Share row (number 2) false) ∷ ask 2 6 (Share row (number 34) false)
    ∷ ask 1 7 (Claim row (number 33) Plain 0 false) ∷ ask 2 8 (Claim row (number 50) Plain 0 false) ∷ [])
    ≡ granted 0 0 0 ∷ Busy (note 1 17 1) ∷ granted 0 0 0 ∷ Done ∷ Late (number 17) ∷ granted 2 17 17 ∷ Late (number 34) ∷ granted 34 17 17 ∷ []
stamps = refl

locks : replies (first_bay Lock 1 3)
    (ask 1 1 (Share row (number 1) false) ∷ ask 2 2 (Share row (number 2) false) ∷ ask 3 3 (Claim row (number 3) Plain 0 false)
    ∷ ask 1 4 (Release row (number 1) (Some (number 17))) ∷ ask 2 5 (Release row (number 2) (Some (number 18)))
    ∷ ask 3 6 (Claim row (number 3) Plain 0 false) ∷ [])
    ≡ granted 0 0 0 ∷ granted 0 0 0 ∷ Busy (note 1 1 1) ∷ Done ∷ Done ∷ granted 18 0 0 ∷ []
locks = refl

-- a lost device comes back with the bay's high number, and a seizure closes an old note on a blank slot
lost : replies (first_bay Order 1 3)
    (ask 1 1 (Share row (number 17) false) ∷ ask 0 2 Lose ∷ ask 1 3 (Share row (number 33) true) ∷ ask 0 4 Fit ∷ ask 1 5 (Share row (number 33) true)
    ∷ ask 0 6 (Claim row (number 48) Mend 0 true) ∷ ask 2 7 (Claim row (number 50) Seize 0 true) ∷ ask 2 9 (Claim row (number 50) Seize 0 true)
    ∷ ask 0 10 (Put row (number 48) (number 64) zero_cell) ∷ [])
    ≡ granted 0 0 0 ∷ Emptied ∷ Missing (number 17) ∷ Fitted ∷ Missing (number 17) ∷ Granted None (number 17) (number 17) (number 0) 1 None
    ∷ Young (note 0 48 6) ∷ Missing (number 17) ∷ NoNote 1 ∷ []
lost = refl
