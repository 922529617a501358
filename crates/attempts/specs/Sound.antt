-- What an attempt reads and puts, where the replies show it the cells of sound rows. A missing slot stands for what the
-- others make of it.
use Rattle.std.specs.Prelude.{◌≡◌, ℕ, ◌-◌, ◌^◌, ◌≤◌, ◌==◌, if◌then◌else◌, true, length, List, [], ◌∷◌, map, flat_map, Option, Some, None, Result}
use Rattle.std.specs.List.{AllByRecursion, slice_set}
use Rattle.raid_base.specs.declared.numbers.BayNo.{BayNo}
use Rattle.raid_base.specs.declared.numbers.RowNo.{RowNo}
use Rattle.raid_base.specs.declared.numbers.Number.{Number}
use Rattle.raid_base.specs.declared.numbers.Spent.{Spent}
use Rattle.raid_base.specs.declared.cells.Cell.{Cell}
use Rattle.raid_base.specs.declared.cells.Content.{Content}
use Rattle.raid_base.specs.declared.cells.Content.TheVariants.{Lost}
use Rattle.raid_base.specs.declared.messages.Request.{Request}
use Rattle.raid_base.specs.declared.messages.Request.TheVariants.{Share, Claim, Confirm, Put, Release, Lose, Fit}
use Rattle.raid_base.specs.declared.messages.Reply.{Reply}
use Rattle.raid_base.specs.declared.messages.Errand.{Errand}
use Rattle.raid_base.specs.declared.messages.Grant.{Grant}
use Rattle.raid_base.specs.declared.jobs.RowPart.{RowPart}
use Rattle.raid_base.specs.declared.jobs.Ended.{Ended}
use Rattle.raid_base.specs.declared.jobs.Ended.TheVariants as ends
use Rattle.raid_base.specs.Cells.{zeros, content_of}
use Rattle.raid_base.specs.Fits.{fits}
use Rattle.raid_base.specs.Replies.{grant_of, held_of}
use Rattle.raid_base.specs.Steps.{Steps, Asks, Draws, Ends, Commit}
use Rattle.raid_xor.specs.Laws.{AreBlocks}
use Rattle.stripe_layout.specs.Placement.{parity_bay, unit_at, units_in}
use Rattle.virtual_objects.specs.RowParts.{AreRowParts}
use Rattle.raid_xor.specs.Parities.{parity_of}
use Rattle.degraded_plans.specs.Rows.{AreDataCells, IsSound}
use Rattle.degraded_plans.specs.Laws.{Change, changed, cell_of}
use Rattle.attempts.specs.declared.Repair.{Repair}
use Rattle.attempts.specs.declared.Rescue.{Rescue}
use Rattle.attempts.specs.Taking.{Access, Finish}
use Rattle.attempts.specs.Parts.{blocks_in}
use Rattle.attempts.specs.Reading.{read_steps}
use Rattle.attempts.specs.Puts.{block_at}
use Rattle.attempts.specs.Writing.{write_steps}
use Rattle.attempts.specs.Mending.{mend_steps}
use Rattle.attempts.specs.Recovery.{recover_steps}
use Rattle.attempts.specs.Discipline.{IsAccess, IsRepair, IsRescue}

-- the cells of all rows: the parity, and the data unit by unit
pub record Cells : Type 0 where
  pub parity : RowNo → Cell
  pub units : RowNo → List Cell

abbrev pub role_cell : Cell → List Cell → Option ℕ → Cell
role_cell parity units None = parity
role_cell parity units (Some unit) = cell_of units unit

-- the cell of a slot
abbrev pub cell_on : ℕ → Cells → BayNo → RowNo → Cell
cell_on n cells bay row = role_cell (cells.parity row) (cells.units row) (unit_at n row bay)

-- a row of n bays that is sound
pub record IsSoundRow (n : ℕ) (cells : Cells) (row : RowNo) : Type 0 where
  pub count : length (cells.units row) ≡ n - 1
  pub blocks : AreBlocks (cells.parity row ∷ cells.units row)
  pub sound : IsSound (cells.parity row) (cells.units row)

abbrev pub AreSoundRows : ℕ → Cells → List RowPart → Type 0
AreSoundRows n cells parts = AllByRecursion (λ (part : RowPart). IsSoundRow n cells part.row) parts

-- Replies that show these cells
abbrev pub IsThis : Cell → Option Cell → Type 0
IsThis cell None = Unit {0}
IsThis cell (Some other) = other ≡ cell

abbrev pub GrantShows : Cell → Option Grant → Type 0
GrantShows cell None = Unit {0}
GrantShows cell (Some grant) = IsThis cell grant.cell

abbrev pub HeldShows : Cell → Option (Option Cell) → Type 0
HeldShows cell None = Unit {0}
HeldShows cell (Some other) = IsThis cell other

abbrev pub ReplyShows : ℕ → Cells → BayNo → Request → Reply → Type 0
ReplyShows n cells bay (Share row id want) reply = GrantShows (cell_on n cells bay row) (grant_of reply)
ReplyShows n cells bay (Claim row id how mask want) reply = GrantShows (cell_on n cells bay row) (grant_of reply)
ReplyShows n cells bay (Confirm row id want) reply = HeldShows (cell_on n cells bay row) (held_of reply)
ReplyShows n cells bay (Put row id number cell) reply = Unit {0}
ReplyShows n cells bay (Release row id number) reply = Unit {0}
ReplyShows n cells bay Lose reply = Unit {0}
ReplyShows n cells bay Fit reply = Unit {0}

-- the reply fits its request, and a cell that it shows is that of the slot
pub record Shows (n : ℕ) (cells : Cells) (errand : Errand) (reply : Reply) : Type 0 where
  pub fitting : fits errand.request reply ≡ true
  pub cell : ReplyShows n cells errand.bay errand.request reply

-- Whatever the replies that show these cells, and the numbers drawn: each errand is P of what it commits, and the end is Q.
abbrev pub Showing : {A : Type 0} → ℕ → Cells → (Errand → List Commit → Type 0) → (A → Type 0) → Steps A → Type 0
Showing n cells P Q (Ends a) = Q a
Showing n cells P Q (Draws k) = (d : Result Number Spent) → Showing n cells P Q (k d)
Showing n cells P Q (Asks e s c k) = P e c × ((r : Reply) → Shows n cells e r → Showing n cells P Q (k r))

-- Puts
abbrev pub IfPut : (RowNo → Cell → Type 0) → Request → Type 0
IfPut P (Share row id want) = Unit {0}
IfPut P (Claim row id how mask want) = Unit {0}
IfPut P (Confirm row id want) = Unit {0}
IfPut P (Put row id number cell) = P row cell
IfPut P (Release row id number) = Unit {0}
IfPut P Lose = Unit {0}
IfPut P Fit = Unit {0}

-- what is committed is what the unit then has
abbrev pub AreCommitted : Cells → List Commit → Type 0
AreCommitted later commits = AllByRecursion (λ (c : Commit). c.content ≡ content_of (cell_of (later.units c.row) c.unit)) commits

-- a put is of the cell that its slot then has
pub record PutsCell (n : ℕ) (later : Cells) (errand : Errand) (commits : List Commit) : Type 0 where
  pub cell : IfPut (λ row cell. cell ≡ cell_on n later errand.bay row) errand.request
  pub committed : AreCommitted later commits

-- no put
pub record PutsNothing (errand : Errand) (commits : List Commit) : Type 0 where
  pub cell : IfPut (λ row cell. ⊥) errand.request
  pub committed : commits ≡ []

-- Reads. The contents of the units of these parts
abbrev pub part_contents : ℕ → Cells → RowPart → List Content
part_contents n cells part = map (λ unit. content_of (cell_of (cells.units part.row) unit)) (units_in n part.mask)

abbrev pub TellsIfRead : List Content → List Content → Ended → Type 0
TellsIfRead contents told (ends.Read n) = told ≡ contents
TellsIfRead contents told (ends.Wrote n) = Unit {0}
TellsIfRead contents told (ends.Part n made cause) = Unit {0}
TellsIfRead contents told (ends.Refused cause) = Unit {0}
TellsIfRead contents told (ends.Recovered n closed lost) = Unit {0}
TellsIfRead contents told ends.Mended = Unit {0}

-- a read that is done tells the contents of its units
pub record TellsContents (a : Access) (cells : Cells) (finish : Finish) : Type 0 where
  pub told : TellsIfRead (flat_map (part_contents a.n cells) a.parts) finish.contents finish.ended

-- Writes. The blocks that the units of a part take
abbrev pub part_changes : Access → RowPart → List Change
part_changes a part = map (λ unit. record { unit = unit; block = block_at a part unit }) (units_in a.n part.mask)

-- a row's data once the write is done
abbrev pub written_units : Access → List RowPart → RowNo → List Cell → List Cell
written_units a [] row units = units
written_units a (part ∷ parts) row units = if part.row.0 == row.0 then changed units (part_changes a part) else written_units a parts row units

-- and its parity
abbrev pub written_parity : Access → List RowPart → RowNo → Cell → List Cell → Cell
written_parity a [] row parity units = parity
written_parity a (part ∷ parts) row parity units =
    if part.row.0 == row.0 then parity_of (changed units (part_changes a part)) else written_parity a parts row parity units

-- all rows once it is done
abbrev pub written_cells : Access → Cells → Cells
written_cells a cells = record {
  parity = λ row. written_parity a a.parts row (cells.parity row) (cells.units row);
  units = λ row. written_units a a.parts row (cells.units row);
}

-- the write of some blocks
pub record IsWriting (a : Access) : Type 0 where
  pub least : 3 ≤ a.n
  pub most : a.n ≤ 16
  pub parts : AreRowParts a.n a.parts
  pub blocks : AllByRecursion (λ (block : List ℕ). length block ≡ 64) a.blocks
  pub enough : blocks_in a.parts ≤ length a.blocks

-- Recoveries. A row's data once its units are lost
abbrev pub lost_units : List Cell → List Commit → List Cell
lost_units units [] = units
lost_units units (c ∷ commits) = lost_units (slice_set units c.unit (record { bytes = zeros; lost = 2 ^ c.unit })) commits

-- a put is of a row's parity, and makes the row sound with what it commits lost
pub record PutsParity (n : ℕ) (cells : Cells) (errand : Errand) (commits : List Commit) : Type 0 where
  pub cell : IfPut (λ row cell. (errand.bay ≡ parity_bay n row) × IsSound cell (lost_units (cells.units row) commits)) errand.request
  pub committed : AllByRecursion (λ (c : Commit). c.content ≡ Lost) commits

-- the data of a row may be any
pub record IsDataRow (n : ℕ) (cells : Cells) (row : RowNo) : Type 0 where
  pub count : length (cells.units row) ≡ n - 1
  pub blocks : AreBlocks (cells.units row)
  pub data_cells : AreDataCells 0 (cells.units row)

-- A read puts nothing, and where it is done it tells the contents of its units.
abbrev pub ReadsTell : Type 0
ReadsTell = (a : Access) (rows count : ℕ) (cells : Cells) → IsAccess a rows count → AreSoundRows a.n cells a.parts →
    Showing a.n cells PutsNothing (TellsContents a cells) (read_steps a)

-- A write puts the cells of rows that are sound again, with its blocks in their units.
pub record WritesSoundly (a : Access) (cells : Cells) : Type 0 where
  pub puts : Showing a.n cells (PutsCell a.n (written_cells a cells)) (λ (finish : Finish). Unit {0}) (write_steps a)
  pub sound : AreSoundRows a.n (written_cells a cells) a.parts

abbrev pub WritesKeepRowsSound : Type 0
WritesKeepRowsSound = (a : Access) (cells : Cells) → IsWriting a → AreSoundRows a.n cells a.parts → WritesSoundly a cells

-- A rebuild puts the cell that its slot had.
abbrev pub MendsRestore : Type 0
MendsRestore = (m : Repair) (rows : ℕ) (cells : Cells) → IsRepair m rows → IsSoundRow m.n cells m.row →
    Showing m.n cells (PutsCell m.n cells) (λ (finish : Finish). Unit {0}) (mend_steps m)

-- A recovery puts a parity that is sound with the row's data, whatever the parity was.
abbrev pub RecoveriesMakeSound : Type 0
RecoveriesMakeSound = (r : Rescue) (rows : ℕ) (cells : Cells) → IsRescue r rows → IsDataRow r.n cells r.row →
    Showing r.n cells (PutsParity r.n cells) (λ (finish : Finish). Unit {0}) (recover_steps r)
