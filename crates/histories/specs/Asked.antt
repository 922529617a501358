-- Histories in which each call is the next of its host, whatever is answered.
use Rattle.std.specs.Prelude.{◌≡◌, List, [], ◌∷◌, Some}
use Rattle.raid_base.specs.declared.messages.Call.{Call}
use Rattle.slot_rules.specs.Replay.{next_clock}
use Rattle.script_text.specs.Script.{Script}
use Rattle.histories.specs.Progress.{asks}
use Rattle.histories.specs.History.{progress_at, clock_at}

-- the call is the next of its host, and its clock is the bay's
pub record IsAsked (script : Script) (earlier : List Call) (call : Call) : Type 0 where
  pub asked : asks call.ask.host (progress_at script call.ask.host earlier) call.ask.moment ≡ Some (record { bay = call.bay; ask = call.ask })
  pub clocked : call.answer.clock ≡ next_clock (clock_at call.bay earlier) call.ask

abbrev pub AreAsked : Script → List Call → Type 0
AreAsked script [] = Unit {0}
AreAsked script (call ∷ earlier) = AreAsked script earlier × IsAsked script earlier call
