-- The reports that have a text.
use Rattle.std.specs.Prelude.{◌≡◌, ℕ, ◌+◌, ◌-◌, ◌^◌, ◌<◌, ◌≤◌, ◌==◌, ◌&&◌, ◌||◌, not, nat_lt, Bool, true, false, List, [], ◌∷◌, ◌++◌, length, All, Option, Some, None, slice_get, if◌then◌else◌}
use Rattle.std.specs.Option.{option_map_or}
use Rattle.std.specs.List.{list_any}
use Rattle.raid_base.specs.declared.numbers.HostNo.{HostNo}
use Rattle.raid_base.specs.declared.numbers.BayNo.{BayNo}
use Rattle.raid_base.specs.declared.numbers.RowNo.{RowNo}
use Rattle.raid_base.specs.declared.numbers.Number.{Number}
use Rattle.raid_base.specs.declared.messages.Note.{Note}
use Rattle.raid_base.specs.declared.messages.Turn.{Turn}
use Rattle.raid_base.specs.declared.cells.Content.{Content}
use Rattle.raid_base.specs.declared.cells.Content.TheVariants as contents
use Rattle.raid_base.specs.declared.cells.Shown.{Shown}
use Rattle.raid_base.specs.declared.cells.Shown.TheVariants.{Seen, Hidden}
use Rattle.raid_base.specs.declared.jobs.Cause.{Cause}
use Rattle.raid_base.specs.declared.jobs.Cause.TheVariants as causes
use Rattle.raid_base.specs.declared.jobs.JobEnd.{JobEnd}
use Rattle.raid_base.specs.declared.jobs.JobEnd.TheVariants as ends
use Rattle.raid_base.specs.declared.jobs.JobResult.{JobResult}
use Rattle.raid_base.specs.Names.{IsNameText, is_text}
use Rattle.virtual_objects.specs.Objects.{Address}
use Rattle.text_lines.specs.Blocks.{IsBlock}
use Rattle.report_text.specs.Report.{ReportOf}

-- a number from least to most
pub record IsWithin (least most n : ℕ) : Type 0 where
  pub low : least ≤ n
  pub high : n ≤ most

-- an id or a number
abbrev pub IsNo : Number → Type 0
IsNo number = IsWithin 1 (2 ^ 62 - 1) number.0

-- what a slot has seen, which may be 0
abbrev pub IsFloor : Number → Type 0
IsFloor number = IsWithin 0 (2 ^ 62 - 1) number.0

abbrev pub IsBay : BayNo → Type 0
IsBay bay = IsWithin 0 15 bay.0

abbrev pub IsRow : RowNo → Type 0
IsRow row = IsWithin 0 4095 row.0

-- a count of jobs, turns, blocks or rows
abbrev pub IsCount : ℕ → Type 0
IsCount n = IsWithin 0 (2 ^ 32 - 1) n

-- a note of which the text tells host and id alone
pub record IsHolder (note : Note) : Type 0 where
  pub host : IsWithin 0 15 note.host.0
  pub id : IsNo note.id
  pub origin : note.origin ≡ note.id
  pub mask : note.mask ≡ 0
  pub moment : note.moment ≡ 0

abbrev pub IsCause : Cause → Type 0
IsCause (causes.Busy holder) = IsHolder holder
IsCause (causes.Late above) = IsFloor above
IsCause (causes.Young note) = IsHolder note
IsCause (causes.Behind floor) = IsFloor floor
IsCause (causes.Fault bay) = IsBay bay
IsCause (causes.Broken first second) = IsBay first × IsBay second
IsCause (causes.Gone bay) = IsBay bay
IsCause (causes.Changed row) = IsRow row
IsCause (causes.Released row) = IsRow row
IsCause (causes.Seized row) = IsRow row
IsCause (causes.Spent seen) = IsFloor seen
IsCause causes.Quit = Unit {0}

abbrev pub IsContent : Content → Type 0
IsContent (contents.Bytes block) = IsBlock block
IsContent contents.Lost = Unit {0}

abbrev pub IsShown : Shown → Type 0
IsShown (Seen content) = IsContent content
IsShown Hidden = Unit {0}

-- the contents of a read
pub record AreContents (all : List Content) : Type 0 where
  pub each : All IsContent all
  pub some : 1 ≤ length all
  pub few : length all ≤ 120

-- so many blocks, and which of them are made
pub record AreFlags (made blocks : ℕ) : Type 0 where
  pub some : 1 ≤ blocks
  pub few : blocks ≤ 120
  pub within : made < 2 ^ blocks

abbrev pub IsUnit : Option ℕ → Type 0
IsUnit None = Unit {0}
IsUnit (Some unit) = IsWithin 0 14 unit

-- an end that is neither a read nor a part
abbrev pub IsPlain : JobEnd → Type 0
IsPlain (ends.Read n) = ⊥
IsPlain (ends.Wrote n) = IsNo n
IsPlain (ends.Part n made cause) = ⊥
IsPlain (ends.Recovered n closed lost) = IsNo n × IsUnit lost
IsPlain ends.Lost = Unit {0}
IsPlain ends.Fitted = Unit {0}
IsPlain ends.Rebuilt = Unit {0}
IsPlain (ends.Gave tries cause) = IsWithin 1 64 tries × IsCause cause
IsPlain (ends.StillMissing bay) = IsBay bay
IsPlain (ends.NotLost bay) = IsBay bay
IsPlain (ends.NotFitted bay) = IsBay bay
IsPlain ends.NoObject = Unit {0}
IsPlain (ends.PastEnd blocks) = IsCount blocks
IsPlain (ends.TooManyRows rows) = IsCount rows

-- an end, with the contents of a read alone and the flags of a part alone
abbrev pub IsEnd : JobEnd → List Content → ℕ → Type 0
IsEnd (ends.Read n) all flags = IsNo n × AreContents all × (flags ≡ 0)
IsEnd (ends.Part n made cause) all flags = IsNo n × AreFlags made flags × IsCause cause × (all ≡ [])
IsEnd how all flags = IsPlain how × (all ≡ []) × (flags ≡ 0)

-- a result with its contents and flags
pub record IsJob (result : JobResult) (all : List Content) (flags : ℕ) : Type 0 where
  pub host : IsWithin 0 15 result.host.0
  pub job : IsCount result.job
  pub «end» : IsEnd result.«end» all flags

-- each result has contents and flags
abbrev pub AreJobs : List JobResult → List (List Content) → List ℕ → Type 0
AreJobs [] [] [] = Unit {0}
AreJobs (result ∷ results) (all ∷ contents) (blocks ∷ flags) = IsJob result all blocks × AreJobs results contents flags
AreJobs _ _ _ = ⊥

-- a turn that a report's text may have
pub record IsTurn (turn : Turn) : Type 0 where
  pub host : IsWithin 0 15 turn.host.0
  pub moment : IsWithin 0 (2 ^ 40 - 1) turn.moment

pub record IsBlockShown (block : Address × Shown) : Type 0 where
  pub object : IsNameText block.0.object
  pub number : IsCount block.0.block
  pub shown : IsShown block.1

-- the last of a list, if it has one
abbrev pub last_of : {X : Type 0} → List X → Option X
last_of xs = slice_get xs (length xs - 1)

-- hosts rise, and jobs within a host
abbrev pub job_follows : List JobResult → HostNo → ℕ → Bool
job_follows before host job =
    option_map_or (λ (last : JobResult). nat_lt last.host.0 host.0 || (last.host.0 == host.0 && nat_lt last.job job)) (last_of before) true

-- the block behind the last one, of its object
abbrev pub block_goes_on : List (Address × Shown) → List ℕ → ℕ → Bool
block_goes_on before object block =
    option_map_or (λ (last : Address × Shown). is_text last.0.object object && (last.0.block + 1 == block)) (last_of before) false

-- an object's blocks stand together and count from 0
abbrev pub block_follows : List (Address × Shown) → List ℕ → ℕ → Bool
block_follows before object block =
    if block == 0 then not (list_any (λ (b : Address × Shown). is_text b.0.object object) before) else block_goes_on before object block

-- each may stand behind those before it
abbrev pub EachFollows : {X : Type 0} → (List X → X → Type 0) → List X → List X → Type 0
EachFollows Follows before [] = Unit {0}
EachFollows Follows before (x ∷ xs) = Follows before x × EachFollows Follows (before ++ x ∷ []) xs

-- all that a report's text says keeps its range and its order
pub record IsReport (report : ReportOf) : Type 0 where
  pub jobs : AreJobs report.results report.contents report.flags
  pub jobs_rise : EachFollows (λ before (r : JobResult). job_follows before r.host r.job ≡ true) [] report.results
  pub turns : All IsTurn report.turns
  pub turns_few : IsCount (length report.turns)
  pub blocks : All IsBlockShown report.blocks
  pub blocks_in_order : EachFollows (λ before (b : Address × Shown). block_follows before b.0.object b.0.block ≡ true) [] report.blocks
  pub rows_some : 1 ≤ length report.closed
  pub rows_few : length report.closed ≤ 4096
