-- Histories and the simulator.
use Rattle.std.specs.Prelude.{◌≡◌, ℕ, true, List}
use Rattle.raid_base.specs.declared.numbers.HostNo.{HostNo}
use Rattle.raid_base.specs.declared.numbers.BayNo.{BayNo}
use Rattle.raid_base.specs.declared.messages.Call.{Call}
use Rattle.raid_base.specs.declared.messages.Turn.{Turn}
use Rattle.script_text.specs.Script.{Script}
use Rattle.histories.specs.History.{progress_at, bay_at, turns_of, faults_in, IsHistory}
use Rattle.histories.specs.Turns.{all_ended, sim}

-- the script with these turn lines
abbrev pub with_turns : Script → List Turn → Script
with_turns script turns = record script { turns = turns }

-- Where hosts and bays stand after some calls does not hang on the script's turn lines.
pub record AreTheSame (script other : Script) (history : List Call) : Type 0 where
  pub progress : (host : HostNo) → progress_at other host history ≡ progress_at script host history
  pub bays : (at : BayNo) → bay_at other at history ≡ bay_at script at history

abbrev pub TurnLinesAreFree : Type 0
TurnLinesAreFree = (script : Script) (turns : List Turn) (history : List Call) → AreTheSame script (with_turns script turns) history

-- A history at whose end all hosts have ended is the simulator's of the script with its turns as turn lines.
abbrev pub EndedAreSimulated : Type 0
EndedAreSimulated = (script : Script) (history : List Call) (most : ℕ) → IsHistory script history → all_ended script history ≡ true →
    history ≡ sim (with_turns script (turns_of history)) (faults_in history) most
