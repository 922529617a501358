-- Who gives a unit its content.
use Rattle.std.specs.Prelude.{◌≡◌, ◌⊎◌, ◌+◌, ◌<◌, List, ◌∷◌}
use Rattle.std.specs.List.{AllByRecursion}
use Rattle.raid_base.specs.declared.numbers.Number.{Number}
use Rattle.raid_base.specs.declared.cells.Cell.{Cell}
use Rattle.raid_base.specs.declared.messages.Request.TheVariants.{Put}
use Rattle.raid_base.specs.declared.messages.Call.{Call}
use Rattle.raid_base.specs.Cells.{content_of}
use Rattle.raid_base.specs.Steps.{Commit}
use Rattle.stripe_layout.specs.Placement.{parity_bay, bay_of}
use Rattle.script_text.specs.Script.{Script}
use Rattle.script_text.specs.Ranges.{IsScript}
use Rattle.histories.specs.Calls.{IsPut, IsDone}
use Rattle.histories.specs.History.{IsHistory}
use Rattle.row_laws.specs.Laws.{commits_of}
use Rattle.row_laws.specs.Holding.{Owns}

-- the call puts the unit, with this content, and its attempt owns the row
pub record IsOwnPut (script : Script) (earlier : List Call) (call : Call) (commit : Commit) : Type 0 where
  pub id : Number
  pub number : Number
  pub cell : Cell
  pub place : call.bay ≡ bay_of script.n commit.row commit.unit
  pub put : call.ask.what ≡ Put commit.row id number cell
  pub content : commit.content ≡ content_of cell
  pub owns : commit.row.0 < script.rows → Owns script earlier commit.row id

-- it puts the parity of the row
abbrev pub IsParityPut : Script → Call → Commit → Type 0
IsParityPut script call commit = (id : Number) × IsPut (parity_bay script.n commit.row) commit.row id call

pub record IsGiven (script : Script) (earlier : List Call) (call : Call) (commit : Commit) : Type 0 where
  pub unit : commit.unit + 1 < script.n
  pub done : IsDone call
  pub whose : IsOwnPut script earlier call commit ⊎ IsParityPut script call commit

-- A unit takes a content only by a put of itself that is done, of an attempt that owns the row, or of its row's parity.
abbrev pub CommitsAreOfOwners : Type 0
CommitsAreOfOwners = (script : Script) (earlier : List Call) (call : Call) → IsScript script → IsHistory script (call ∷ earlier) →
    AllByRecursion (IsGiven script earlier call) (commits_of script earlier call)
