-- What an attempt takes row by row, and which replies refuse it.
use Rattle.std.specs.Prelude.{ℕ, nat_le, ◌==◌, Bool, true, false, if◌then◌else◌, List, [], ◌∷◌, ◌++◌, map, Option, Some, None, is_none, option_map, unwrap_or}
use Rattle.std.specs.List.{list_any}
use Rattle.raid_base.specs.declared.numbers.BayNo.{BayNo}
use Rattle.raid_base.specs.declared.numbers.RowNo.{RowNo}
use Rattle.raid_base.specs.declared.numbers.Number.{Number}
use Rattle.raid_base.specs.declared.messages.Mode.{Mode}
use Rattle.raid_base.specs.declared.messages.Mode.TheVariants.{Lock, Order}
use Rattle.raid_base.specs.declared.messages.How.{How}
use Rattle.raid_base.specs.declared.jobs.Cause.{Cause}
use Rattle.raid_base.specs.declared.jobs.Cause.TheVariants as causes
use Rattle.raid_base.specs.declared.jobs.Ended.{Ended}
use Rattle.raid_base.specs.declared.jobs.Ended.TheVariants as ends
use Rattle.raid_base.specs.declared.cells.Content.{Content}
use Rattle.raid_base.specs.declared.messages.Request.TheVariants.{Share, Claim, Confirm}
use Rattle.raid_base.specs.declared.messages.Reply.{Reply}
use Rattle.raid_base.specs.declared.messages.Reply.TheVariants.{Granted, Busy, Late, Young, Missing, Held, NoNote, Done, Fault, Emptied, Fitted}
use Rattle.raid_base.specs.declared.jobs.RowPart.{RowPart}
use Rattle.raid_base.specs.declared.messages.Errand.{Errand}
use Rattle.raid_base.specs.declared.messages.Grant.{Grant}
use Rattle.raid_base.specs.Replies.{grant_of}
use Rattle.raid_base.specs.Steps.{Phase}

-- an attempt to read or write: its units row by row, and the blocks to write
pub record Access : Type 0 where
  pub mode : Mode
  pub n : ℕ
  pub id : Number
  pub parts : List RowPart
  pub blocks : List (List ℕ)

-- how an attempt ended, with the contents that it read
pub record Finish : Type 0 where
  pub ended : Ended
  pub contents : List Content

abbrev pub finish : Ended → Finish
finish ended = record { ended = ended; contents = [] }

-- the host stops in an attempt that has done nothing yet
abbrev pub refused_by_quit : {A : Type 0} → A → Ended
refused_by_quit a = ends.Refused causes.Quit

-- a phase that does nothing yet
abbrev pub harmless : {A : Type 0} → (A → Errand → Reply → Option A) → Phase A
harmless step = record { step = step; stop = refused_by_quit; commits = λ _ _. [] }

-- what was taken of a row: none where a slot answered that it is missing
pub record Row : Type 0 where
  pub part : RowPart
  pub parity : Option Grant
  pub wanted : List (Option Grant)
  pub others : List (Option Grant)

abbrev pub fresh_row : RowPart → Row
fresh_row part = record { part = part; parity = None; wanted = []; others = [] }

-- the rows so far, and the bay that was missing
pub record Rows : Type 0 where
  pub rows : List Row
  pub missing : Option BayNo

abbrev pub no_rows : Rows
no_rows = record { rows = []; missing = None }

-- with a row in hand
pub record Taken : Type 0 where
  pub before : List Row
  pub row : Row
  pub missing : Option BayNo

abbrev pub begun : RowPart → Rows → Taken
begun part done = record { before = done.rows; row = fresh_row part; missing = done.missing }

abbrev pub row_ended : Taken → Rows
row_ended taken = record { rows = taken.before ++ taken.row ∷ []; missing = taken.missing }

abbrev pub with_parity : Option Grant → Row → Row
with_parity grant row = record row { parity = grant }

abbrev pub with_wanted : Option Grant → Row → Row
with_wanted grant row = record row { wanted = row.wanted ++ grant ∷ [] }

abbrev pub with_other : Option Grant → Row → Row
with_other grant row = record row { others = row.others ++ grant ∷ [] }

-- whether a slot of these was missing
abbrev pub lacks : List (Option Grant) → Bool
lacks grants = list_any is_none grants

-- Refusals. Under stamps a read or write is behind from its id on
abbrev pub behind_from : Mode → Number → Option Number
behind_from Order id = Some id
behind_from Lock id = None

abbrev pub is_behind : Option Number → Number → Bool
is_behind None floor = false
is_behind (Some id) floor = nat_le id.0 floor.0

-- two bays are missing
abbrev pub broken : Option BayNo → BayNo → Option Cause
broken None bay = None
broken (Some first) bay = if first.0 == bay.0 then None else Some (causes.Broken first bay)

-- why a reply to a share, claim or confirm refuses the attempt
abbrev pub refusal : Option Number → Option BayNo → BayNo → Reply → Option Cause
refusal least missing bay (Busy holder) = Some (causes.Busy holder)
refusal least missing bay (Late above) = Some (causes.Late above)
refusal least missing bay (Young note) = Some (causes.Young note)
refusal least missing bay Fault = Some (causes.Fault bay)
refusal least missing bay (Missing floor) = if is_behind least floor then Some (causes.Behind floor) else broken missing bay
refusal least missing bay (Granted cell read_no write_no last life seized) = None
refusal least missing bay (Held cell) = None
refusal least missing bay (NoNote life) = None
refusal least missing bay Done = None
refusal least missing bay Emptied = None
refusal least missing bay Fitted = None

-- the row with one more grant, or with a slot that is missing
abbrev pub with_grant : (Option Grant → Row → Row) → Taken → BayNo → Option Grant → Taken
with_grant keep taken bay (Some grant) = record taken { row = keep (Some grant) taken.row }
with_grant keep taken bay None = record taken { row = keep None taken.row; missing = Some bay }

-- what a reply that does not refuse gives: a grant, or none where the slot is missing
abbrev pub unless : {A : Type 0} → Option Cause → A → Option A
unless (Some cause) a = None
unless None a = Some a

abbrev pub grant_or_gap : Option Number → Option BayNo → BayNo → Reply → Option (Option Grant)
grant_or_gap least missing bay reply = unless (refusal least missing bay reply) (grant_of reply)

-- what each reply to a share or claim does
abbrev pub take_step : Option Number → (Option Grant → Row → Row) → Taken → Errand → Reply → Option Taken
take_step least keep taken errand reply = option_map (with_grant keep taken errand.bay) (grant_or_gap least taken.missing errand.bay reply)

abbrev pub taking : Option Number → (Option Grant → Row → Row) → Phase Taken
taking least keep = harmless (take_step least keep)

-- why the reply that stopped did so
abbrev pub why : Option Number → Taken → Errand → Reply → Cause
why least taken errand reply = unwrap_or (refusal least taken.missing errand.bay reply) causes.Quit

-- The same up to the first missing slot
abbrev pub take_until_step : (Option Grant → Row → Row) → Taken → Errand → Reply → Option Taken
take_until_step keep taken errand reply = option_map (λ grant. with_grant keep taken errand.bay (Some grant)) (grant_of reply)

abbrev pub taking_until : (Option Grant → Row → Row) → Phase Taken
taking_until keep = harmless (take_until_step keep)

-- Errands
abbrev pub share : Number → RowNo → BayNo → Errand
share id row bay = record { bay = bay; request = Share row id true }

abbrev pub shares : Number → RowNo → List BayNo → List Errand
shares id row bays = map (share id row) bays

abbrev pub claim : Number → RowNo → How → ℕ → Bool → BayNo → Errand
claim id row how mask want bay = record { bay = bay; request = Claim row id how mask want }

abbrev pub claims : Number → RowNo → How → Bool → List BayNo → List Errand
claims id row how want bays = map (claim id row how 0 want) bays

abbrev pub confirm : Number → RowNo → Bool → BayNo → Errand
confirm id row want bay = record { bay = bay; request = Confirm row id want }
