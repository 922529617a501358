-- Plays and histories are the same.
use Rattle.std.specs.Prelude.{◌≡◌, ℕ, List, [], ◌∷◌, length}
use Rattle.raid_base.specs.declared.messages.Call.{Call}
use Rattle.raid_base.specs.declared.messages.Turn.{Turn}
use Rattle.script_text.specs.Script.{Script}
use Rattle.histories.specs.History.{Faults, answered, faults_in, journal, turns_of, IsHistory, play}
use Rattle.histories.specs.Turns.{sim}

-- each call is what its bay answers with these faults
abbrev pub Told : Script → Faults → List Call → Type 0
Told script faults [] = Unit {0}
Told script faults (call ∷ earlier) =
    Told script faults earlier
    × (call ≡ answered script earlier (record { bay = call.bay; ask = call.ask }) (faults call.bay (length (journal call.bay earlier))))

-- Every play of turns, with whatever faults, is a history, the simulator's too,
abbrev pub PlaysAreHistories : Type 0
PlaysAreHistories =
    ((script : Script) (faults : Faults) (turns : List Turn) → IsHistory script (play script faults [] turns))
    × ((script : Script) (faults : Faults) (most : ℕ) → IsHistory script (sim script faults most))

-- and a history is the play of its turns with the faults that it tells.
abbrev pub HistoriesArePlays : Type 0
HistoriesArePlays =
    (script : Script) (history : List Call) → IsHistory script history → play script (faults_in history) [] (turns_of history) ≡ history
