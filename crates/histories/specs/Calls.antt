-- What has happened in some calls, the newest first.
use Rattle.std.specs.Prelude.{◌≡◌, ◌⊎◌, ℕ, ◌==◌, ◌&&◌, Bool, false, List, [], ◌∷◌, Option, Some, None}
use Rattle.raid_base.specs.declared.numbers.BayNo.{BayNo}
use Rattle.raid_base.specs.declared.numbers.RowNo.{RowNo}
use Rattle.raid_base.specs.declared.numbers.Number.{Number}
use Rattle.raid_base.specs.declared.messages.How.{How}
use Rattle.raid_base.specs.declared.messages.Mode.{Mode}
use Rattle.raid_base.specs.declared.messages.Mode.TheVariants.{Lock, Order}
use Rattle.raid_base.specs.declared.messages.Request.{Request}
use Rattle.raid_base.specs.declared.messages.Request.TheVariants.{Share, Claim, Confirm, Put, Release, Lose, Fit}
use Rattle.raid_base.specs.declared.messages.Reply.{Reply}
use Rattle.raid_base.specs.declared.messages.Reply.TheVariants.{Granted, Done}
use Rattle.raid_base.specs.declared.messages.Call.{Call}

-- one of the calls is such
abbrev pub Happened : (Call → Type 0) → List Call → Type 0
Happened P [] = ⊥
Happened P (c ∷ cs) = P c ⊎ Happened P cs

-- one of the calls is such, and an earlier one is so
abbrev pub HappenedAfter : (Call → Type 0) → (Call → Type 0) → List Call → Type 0
HappenedAfter P Q [] = ⊥
HappenedAfter P Q (c ∷ cs) = (P c × Happened Q cs) ⊎ HappenedAfter P Q cs

-- the history was so after each call, and at the start
abbrev pub Always : (List Call → Type 0) → List Call → Type 0
Always P [] = P []
Always P (c ∷ cs) = Always P cs × P (c ∷ cs)

-- the history was so after some call, or at the start
abbrev pub Sometime : (List Call → Type 0) → List Call → Type 0
Sometime P [] = P []
Sometime P (c ∷ cs) = P (c ∷ cs) ⊎ Sometime P cs

-- the row of a request, none of Lose and Fit
abbrev pub row_of : Request → Option RowNo
row_of (Share row id want) = Some row
row_of (Claim row id how mask want) = Some row
row_of (Confirm row id want) = Some row
row_of (Put row id n cell) = Some row
row_of (Release row id n) = Some row
row_of Lose = None
row_of Fit = None

-- the id of a request
abbrev pub id_of : Request → Option Number
id_of (Share row id want) = Some id
id_of (Claim row id how mask want) = Some id
id_of (Confirm row id want) = Some id
id_of (Put row id n cell) = Some id
id_of (Release row id n) = Some id
id_of Lose = None
id_of Fit = None

-- Calls by their requests: of this row at this bay
abbrev pub IsShare : BayNo → RowNo → Call → Type 0
IsShare bay row call = (call.bay ≡ bay) × (id : Number) × (want : Bool) × (call.ask.what ≡ Share row id want)

abbrev pub IsClaim : BayNo → RowNo → Call → Type 0
IsClaim bay row call = (call.bay ≡ bay) × (id : Number) × (how : How) × (mask : ℕ) × (want : Bool) × (call.ask.what ≡ Claim row id how mask want)

abbrev pub IsPut : BayNo → RowNo → Number → Call → Type 0
IsPut bay row id call = (call.bay ≡ bay) × (n : Number) × (cell : _) × (call.ask.what ≡ Put row id n cell)

abbrev pub IsDone : Call → Type 0
IsDone call = call.answer.reply ≡ Done

abbrev pub Answers : Reply → Call → Type 0
Answers reply call = call.answer.reply ≡ reply

-- Accesses of a slot. A write is a put that was done, with its number
abbrev pub write_of : Request → Reply → Option Number
write_of (Put row id n cell) Done = Some n
write_of _ reply = None

-- a read is under stamps a share that was granted, and under locks a release with a number that was done
abbrev pub read_of : Mode → Request → Reply → Option Number
read_of Order (Share row id want) (Granted cell read_no write_no last life seized) = Some id
read_of Lock (Release row id n) Done = n
read_of _ _ reply = None

abbrev pub is_row : RowNo → Option RowNo → Bool
is_row row None = false
is_row row (Some r) = r.0 == row.0

abbrev pub is_at : BayNo → RowNo → Call → Bool
is_at bay row call = (call.bay.0 == bay.0) && is_row row (row_of call.ask.what)
