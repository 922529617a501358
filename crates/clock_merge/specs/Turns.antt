-- A list of turns with room made beforehand.
use Rattle.std.specs.Prelude.{◌≡◌, ℕ, List, ◌++◌, map}
use Rattle.raid_base.specs.declared.messages.Entry.{Entry}
use Rattle.raid_base.specs.declared.messages.Turn.{Turn}
use Rattle.clock_merge.specs.Merge.{Line, IsMerge, turn_of}

-- the turns, and for how many there is room in all
pub record Turns : Type 0 where
  pub items : List Turn
  pub room : ℕ

-- the turns of a merge of these journals were appended
abbrev pub AppendsMerge : List (List Entry) → List Turn → List Turn → Type 0
AppendsMerge journals before after = (lines : List Line) × IsMerge journals lines × (after ≡ before ++ map turn_of lines)
