-- The contents that a unit has taken, with the numbers of the puts that gave them.
use Rattle.std.specs.Prelude.{ℕ, ◌+◌, ◌<◌, if◌then◌else◌, List, [], ◌∷◌, Option, Some, None}
use Rattle.std.specs.List.{AllByRecursion}
use Rattle.raid_base.specs.declared.numbers.RowNo.{RowNo}
use Rattle.raid_base.specs.declared.numbers.Number.{Number}
use Rattle.raid_base.specs.declared.cells.Content.{Content}
use Rattle.raid_base.specs.declared.messages.Request.{Request}
use Rattle.raid_base.specs.declared.messages.Request.TheVariants.{Put}
use Rattle.raid_base.specs.declared.messages.Call.{Call}
use Rattle.raid_base.specs.Steps.{Commit}
use Rattle.script_text.specs.Script.{Script}
use Rattle.script_text.specs.Ranges.{IsScript}
use Rattle.histories.specs.History.{IsHistory}
use Rattle.row_laws.specs.Laws.{commits_of}
use Rattle.serial_laws.specs.Laws.{is_of}

-- a content, with its number
pub record Taken : Type 0 where
  pub number : Number
  pub content : Content

-- the number of a put
abbrev pub put_no : Request → Option Number
put_no (Put row id n cell) = Some n
put_no _ = None

-- the newest first
abbrev pub taken_by : RowNo → ℕ → Option Number → List Commit → List Taken → List Taken
taken_by row unit None commits takens = takens
taken_by row unit (Some n) [] takens = takens
taken_by row unit (Some n) (commit ∷ commits) takens =
    taken_by row unit (Some n) commits (if is_of row unit commit then record { number = n; content = commit.content } ∷ takens else takens)

abbrev pub taken_at : Script → List Call → RowNo → ℕ → List Taken
taken_at script [] row unit = []
taken_at script (call ∷ earlier) row unit = taken_by row unit (put_no call.ask.what) (commits_of script earlier call) (taken_at script earlier row unit)

-- each has a number above those of all before it
abbrev pub AreRising : List Taken → Type 0
AreRising [] = Unit {0}
AreRising (t ∷ ts) = AllByRecursion (λ (x : Taken). x.number.0 < t.number.0) ts × AreRising ts

-- Contents rise: each content that a unit takes has a number above those that it took before.
abbrev pub ContentsRise : Type 0
ContentsRise = (script : Script) (history : List Call) → IsScript script → IsHistory script history → (row : RowNo) (unit : ℕ) →
    row.0 < script.rows → unit + 1 < script.n → AreRising (taken_at script history row unit)
