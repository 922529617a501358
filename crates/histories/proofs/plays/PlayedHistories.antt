-- Each play is a history, and each history a play.
use Rattle.std.proofs.Common.{◌≡◌, ℕ, zero, suc, ◌+◌, Bool, true, false, List, [], ◌∷◌, ◌++◌, length, Option, Some, None, refl, sym, ap, subst, ◌∙◌}
use Rattle.raid_base.specs.declared.numbers.HostNo.{HostNo}
use Rattle.raid_base.specs.declared.messages.Ask.{Ask}
use Rattle.raid_base.specs.declared.messages.Call.{Call}
use Rattle.raid_base.specs.declared.messages.Errand.{Errand}
use Rattle.raid_base.specs.declared.messages.Turn.{Turn}
use Rattle.raid_base.specs.Replies.{is_fault}
use Rattle.slot_rules.specs.Slots.{Bay}
use Rattle.slot_rules.specs.Rules.{rule}
use Rattle.slot_rules.proofs.RuleLaws.{faults_lem}
use Rattle.script_text.specs.Script.{Script}
use Rattle.histories.specs.Progress.{Sent, sent_by, asks, work_errand}
use Rattle.histories.specs.History.{Faults, progress_at, bay_at, journal, turn_of, turns_of, faults_in, IsHistory, answered, after_sent, after_turn, play}
use Rattle.histories.specs.Turns.{sim, rounds, round_on, next_host, next_moment, last_moment}
use Rattle.histories.specs.Played.{Told, PlaysAreHistories, HistoriesArePlays}
use Rattle.histories.proofs.plays.ToldFaults.{history-told}

-- whether the store failed is told by the reply
fails-told : (bay : Bay) (ask : Ask) (fails : Bool) → rule bay ask fails ≡ rule bay ask (is_fault (rule bay ask fails).reply)
fails-told bay ask false = ap (rule bay ask) (sym (faults_lem bay ask).works)
fails-told bay ask true = by (is_fault (rule bay ask true).reply) refl where
  by : (b : Bool) → is_fault (rule bay ask true).reply ≡ b → rule bay ask true ≡ rule bay ask b
  by true e = refl
  by false e = (faults_lem bay ask).spared e

-- what is sent is the host's, at that moment
sent-own : (host : HostNo) (clock moment : ℕ) (o : Option Errand) (sent : Sent) → sent_by host clock moment o ≡ Some sent → (sent.ask.host ≡ host) × (sent.ask.moment ≡ moment)
sent-own host clock moment None sent e = absurd (cc)
sent-own host clock moment (Some errand) sent e =
    let same : record { bay = errand.bay; ask = record { host = host; clock = clock; moment = moment; what = errand.request } } ≡ sent = cc in
    (ap (λ (s : Sent). s.ask.host) (sym same), ap (λ (s : Sent). s.ask.moment) (sym same))

module _ (script : Script) (faults : Faults) where
  -- one turn
  sent-history : (earlier : List Call) (host : HostNo) (moment : ℕ) → IsHistory script earlier → (o : Option Sent) → asks host (progress_at script host earlier) moment ≡ o →
      IsHistory script (after_sent script faults earlier o)
  sent-history earlier host moment is None e = is
  sent-history earlier host moment is (Some sent) e = (is, record { asked = asked; replied = replied }) where
    fails : Bool
    fails = faults sent.bay (length (journal sent.bay earlier))

    own : (sent.ask.host ≡ host) × (sent.ask.moment ≡ moment)
    own = sent-own host (progress_at script host earlier).clock moment (work_errand (progress_at script host earlier).work) sent e

    asked : asks sent.ask.host (progress_at script sent.ask.host earlier) sent.ask.moment ≡ Some sent
    asked =
        subst (λ (h : HostNo). asks h (progress_at script h earlier) sent.ask.moment ≡ Some sent) (sym own.0)
        (subst (λ (m : ℕ). asks host (progress_at script host earlier) m ≡ Some sent) (sym own.1) e)

    replied : answered script earlier sent fails ≡ answered script earlier sent (is_fault (rule (bay_at script sent.bay earlier) sent.ask fails).reply)
    replied = by _ (fails-told (bay_at script sent.bay earlier) sent.ask fails) where
      by : (b : Bool) → rule (bay_at script sent.bay earlier) sent.ask fails ≡ rule (bay_at script sent.bay earlier) sent.ask b → answered script earlier sent fails ≡ answered script earlier sent b
      by b same = ap (λ r. record { bay = sent.bay; ask = sent.ask; answer = record { clock = (answered script earlier sent fails).answer.clock; reply = r.reply } }) same

  turn-history : (earlier : List Call) (turn : Turn) → IsHistory script earlier → IsHistory script (after_turn script faults earlier turn)
  turn-history earlier turn is = sent-history earlier turn.host turn.moment is (asks turn.host (progress_at script turn.host earlier) turn.moment) refl

  pub play-history : (history : List Call) (turns : List Turn) → IsHistory script history → IsHistory script (play script faults history turns)
  play-history history [] is = is
  play-history history (turn ∷ turns) is = play-history (after_turn script faults history turn) turns (turn-history history turn is)

  -- rounds
  rounds-history : (most : ℕ) (history : List Call) (from moment : ℕ) → IsHistory script history → IsHistory script (rounds script faults most history from moment)
  rounds-history zero history from moment is = is
  rounds-history (suc most) history from moment is = by (next_host script history from) (λ later host. rounds-history most later (host.0 + 1) (next_moment moment)) where
    by : (o : Option HostNo) → ((later : List Call) (host : HostNo) → IsHistory script later → IsHistory script (rounds script faults most later (host.0 + 1) (next_moment moment))) →
        IsHistory script (round_on (rounds script faults most) script faults history moment o)
    by None goes = is
    by (Some host) goes =
        let turn : Turn = record { host = host; moment = next_moment moment } in
        goes (after_turn script faults history turn) host (turn-history history turn is)

  pub sim-history : (most : ℕ) → IsHistory script (sim script faults most)
  sim-history most = rounds-history most (play script faults [] script.turns) 0 (last_moment script.turns) (play-history [] script.turns tt)

  -- one more turn
  pub play-more : (start : List Call) (turns : List Turn) (turn : Turn) → play script faults start (turns ++ turn ∷ []) ≡ after_turn script faults (play script faults start turns) turn
  play-more start [] turn = refl
  play-more start (t ∷ turns) turn = play-more (after_turn script faults start t) turns turn

  -- the turns of a history, with faults that it tells
  pub turns-played : (history : List Call) → IsHistory script history → Told script faults history → play script faults [] (turns_of history) ≡ history
  turns-played [] is told = refl
  turns-played (call ∷ earlier) is told =
      play-more [] (turns_of earlier) (turn_of call)
      ∙ ap (λ (h : List Call). after_turn script faults h (turn_of call)) (turns-played earlier is.0 told.0)
      ∙ ap (λ (o : Option Sent). after_sent script faults earlier o) is.1.asked
      ∙ ap (λ (c : Call). c ∷ earlier) (sym told.1)

pub plays_are_histories : PlaysAreHistories
plays_are_histories = (λ script faults turns. play-history script faults [] turns tt, λ script faults most. sim-history script faults most)

pub histories_are_plays : HistoriesArePlays
histories_are_plays script history is = turns-played script (faults_in history) history is (history-told script history is)
