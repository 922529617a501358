-- What keeps to the slot rule can be merged.
use Rattle.std.specs.Prelude.{ℕ, List}
use Rattle.raid_base.specs.declared.messages.Entry.{Entry}
use Rattle.slot_rules.specs.Slots.{Bay}
use Rattle.slot_rules.specs.Replay.{Replays}
use Rattle.clock_merge.specs.Merge.{ClocksRise, Ticks}

-- Clocks rise along each journal that replays.
abbrev pub JournalsRise : Type 0
JournalsRise = (bay later : Bay) (clock end : ℕ) (entries : List Entry) → Replays bay clock entries later end → ClocksRise entries

-- So they do along each whose clocks tick,
abbrev pub TicksRise : Type 0
TicksRise = (clock end : ℕ) (entries : List Entry) → Ticks clock entries end → ClocksRise entries

-- and the clocks of each that replays do.
abbrev pub ReplaysTick : Type 0
ReplaysTick = (bay later : Bay) (clock end : ℕ) (entries : List Entry) → Replays bay clock entries later end → Ticks clock entries end
