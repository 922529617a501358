-- A history at whose end all hosts have ended is the simulator's of the script with its turns as turn lines.
use Rattle.std.proofs.Common.{◌≡◌, ◌∙◌, ℕ, zero, suc, Bool, true, false, not, ◌&&◌, cond, List, [], ◌∷◌, Option, Some, None, refl, sym, ap}
use Rattle.std.specs.Prelude.{nat_le, find}
use Rattle.std.specs.List.{list_all}
use Rattle.raid_base.specs.declared.numbers.HostNo.{HostNo}
use Rattle.raid_base.specs.declared.messages.Call.{Call}
use Rattle.raid_base.specs.Replies.{is_fault}
use Rattle.slot_rules.specs.Slots.{Bay}
use Rattle.slot_rules.specs.Rules.{rule}
use Rattle.slot_rules.specs.Replay.{next_clock}
use Rattle.script_text.specs.Script.{Script, host_numbers}
use Rattle.histories.specs.Progress.{Progress, asks, is_over}
use Rattle.histories.specs.History.{Faults, IsHistory, clock_at, has_ended, faults_in, turns_of, play}
use Rattle.histories.specs.Turns.{all_ended, next_host, or_first, rounds, round_on, last_moment}
use Rattle.histories.specs.Simulated.{with_turns, AreTheSame, EndedAreSimulated}
use Rattle.histories.proofs.plays.OtherTurns.{turn_lines_are_free}
use Rattle.histories.proofs.plays.PlayedHistories.{histories_are_plays}

-- where all pass, none is found that doesn't
and-both : (a b : Bool) → (a && b) ≡ true → (a ≡ true) × (b ≡ true)
and-both true b e = (refl, e)
and-both false b e = absurd (cc)

none-waits : (ended : HostNo → Bool) (also : HostNo → Bool) (hosts : List HostNo) → list_all ended hosts ≡ true → find (λ (host : HostNo). also host && not (ended host)) hosts ≡ None
none-waits ended also [] all = refl
none-waits ended also (host ∷ hosts) all = by (also host) (ended host) both.0 (none-waits ended also hosts both.1) where
  both : (ended host ≡ true) × (list_all ended hosts ≡ true)
  both = and-both (ended host) (list_all ended hosts) all

  by : (a b : Bool) → b ≡ true → find (λ (h : HostNo). also h && not (ended h)) hosts ≡ None → cond (a && not b) (Some host) (find (λ (h : HostNo). also h && not (ended h)) hosts) ≡ None
  by true true e rest = rest
  by true false e rest = absurd (cc)
  by false b e rest = rest

module _ (script : Script) (history : List Call) (over : all_ended script history ≡ true) where
  none-next : (from : ℕ) → next_host script history from ≡ None
  none-next from =
      ap (λ (o : Option HostNo). or_first o (find (λ (host : HostNo). not (has_ended script history host)) (host_numbers script)))
      (none-waits (has_ended script history) (λ host. nat_le from host.0) (host_numbers script) over)
      ∙ none-waits (has_ended script history) (λ host. true) (host_numbers script) over

  -- rounds change nothing
  pub rounds-over : (faults : Faults) (most from moment : ℕ) → rounds script faults most history from moment ≡ history
  rounds-over faults zero from moment = refl
  rounds-over faults (suc most) from moment = ap (λ (o : Option HostNo). round_on (rounds script faults most) script faults history moment o) (none-next from)

-- the same for a script for which hosts and bays stand the same
module _ (script other : Script) (same : (history : List Call) → AreTheSame script other history) where
  pub history-same : (history : List Call) → IsHistory script history → IsHistory other history
  history-same [] is = tt
  history-same (call ∷ earlier) is = (
    history-same earlier is.0,
    record {
      asked = ap (λ (p : Progress). asks call.ask.host p call.ask.moment) ((same earlier).progress call.ask.host) ∙ is.1.asked;
      replied =
          is.1.replied
          ∙ ap (λ (b : Bay). record {
            bay = call.bay;
            ask = call.ask;
            answer = record { clock = next_clock (clock_at call.bay earlier) call.ask; reply = (rule b call.ask (is_fault call.answer.reply)).reply };
          }) (sym ((same earlier).bays call.bay));
    },
  )

  pub ended-same : (hosts : List HostNo) (history : List Call) → list_all (has_ended script history) hosts ≡ list_all (has_ended other history) hosts
  ended-same [] history = refl
  ended-same (host ∷ hosts) history =
      ap (λ (p : Progress). is_over p.work && list_all (has_ended script history) hosts) (sym ((same history).progress host))
      ∙ ap (λ (b : Bool). has_ended other history host && b) (ended-same hosts history)

pub ended_are_simulated : EndedAreSimulated
ended_are_simulated script history most is over =
    let other : Script = with_turns script (turns_of history) in
    let same : (later : List Call) → AreTheSame script other later = turn_lines_are_free script (turns_of history) in
    let ended : all_ended other history ≡ true = sym (ended-same script other same (host_numbers script) history) ∙ over in
    let played : play other (faults_in history) [] (turns_of history) ≡ history = histories_are_plays other history (history-same script other same history is) in
    sym (
    ap (λ (now : List Call). rounds other (faults_in history) most now 0 (last_moment (turns_of history))) played
    ∙ rounds-over other history ended (faults_in history) most 0 (last_moment (turns_of history))
    )
