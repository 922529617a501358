-- Clocks rise along each journal that ticks, and one that replays does.
use Rattle.std.proofs.Common.{ℕ, List, [], ◌∷◌, arith}
use Rattle.raid_base.specs.declared.messages.Entry.{Entry}
use Rattle.raid_base.specs.Replies.{is_fault}
use Rattle.slot_rules.specs.Rules.{rule}
use Rattle.clock_merge.specs.Merge.{ClocksRiseFrom, Ticks}
use Rattle.clock_merge.specs.Rising.{JournalsRise, TicksRise, ReplaysTick}

rise-from : (first : Entry) (end : ℕ) (entries : List Entry) → Ticks first.clock entries end → ClocksRiseFrom first entries
rise-from first end [] ticks = tt
rise-from first end (entry ∷ entries) ticks =
    let next = ticks.0 in
    (omega (arith, next), rise-from entry end entries ticks.1)

pub ticks_rise : TicksRise
ticks_rise clock end [] ticks = tt
ticks_rise clock end (entry ∷ entries) ticks = rise-from entry end entries ticks.1

pub replays_tick : ReplaysTick
replays_tick bay later clock end [] replays = replays.1
replays_tick bay later clock end (entry ∷ entries) replays =
    (replays.1, replays_tick (rule bay entry.ask (is_fault entry.reply)).bay later entry.clock end entries replays.2)

pub journals_rise : JournalsRise
journals_rise bay later clock end entries replays = ticks_rise clock end entries (replays_tick bay later clock end entries replays)
