-- At which moments the hosts of a history have asked.
use Rattle.std.specs.Prelude.{ℕ, ◌-◌, ◌^◌, ◌≤◌, List}
use Rattle.std.specs.List.{AllByRecursion}
use Rattle.raid_base.specs.declared.messages.Call.{Call}
use Rattle.script_text.specs.Script.{Script}
use Rattle.script_text.specs.Ranges.{IsScript}
use Rattle.histories.specs.History.{Faults}
use Rattle.histories.specs.Turns.{sim}

-- each at a moment below 2^40, as those of a script's turns are
abbrev pub AreTimely : List Call → Type 0
AreTimely history = AllByRecursion (λ (call : Call). call.ask.moment ≤ 2 ^ 40 - 1) history

-- So it is in the simulator's history.
abbrev pub MomentsAreBounded : Type 0
MomentsAreBounded = (script : Script) (faults : Faults) (most : ℕ) → IsScript script →
    AreTimely (sim script faults most)
