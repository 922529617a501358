-- Over stores that fail at the same calls the simulator has one play of a script.
use Rattle.std.proofs.Common.{◌≡◌, ◌∙◌, ℕ, zero, suc, ◌+◌, Bool, true, List, [], ◌∷◌, Option, Some, None, length, refl, sym, ap, subst, arith}
use Rattle.raid_base.specs.declared.numbers.HostNo.{HostNo}
use Rattle.raid_base.specs.declared.messages.Call.{Call}
use Rattle.raid_base.specs.declared.messages.Turn.{Turn}
use Rattle.script_text.specs.Script.{Script}
use Rattle.report_text.specs.Report.{ReportOf}
use Rattle.histories.specs.Progress.{Sent, asks}
use Rattle.histories.specs.History.{Faults, faults_in, answered, after_sent, after_turn, journal, play, progress_at}
use Rattle.histories.specs.Turns.{all_ended, last_moment, next_host, next_moment, round_on, rounds, sim}
use Rattle.histories.proofs.plays.SimulatedHistories.{rounds-over}
use Rattle.schedule_play.specs.Reported.{report_of}
use Rattle.serial_laws.specs.Headline.{IsPlayOf}
use Rattle.array_cli.specs.Calls.{IsReported}
use Rattle.array_cli.specs.Laws.{FailAlike, SimulatedReportsAreOne}

module _ (script : Script) (faults others : Faults) (alike : FailAlike faults others) where
  sent-one : (earlier : List Call) (o : Option Sent) → after_sent script faults earlier o ≡ after_sent script others earlier o
  sent-one earlier None = refl
  sent-one earlier (Some sent) = ap (λ (fails : Bool). answered script earlier sent fails ∷ earlier) (alike sent.bay (length (journal sent.bay earlier)))

  turn-one : (earlier : List Call) (turn : Turn) → after_turn script faults earlier turn ≡ after_turn script others earlier turn
  turn-one earlier turn = sent-one earlier (asks turn.host (progress_at script turn.host earlier) turn.moment)

  play-one : (history : List Call) (turns : List Turn) → play script faults history turns ≡ play script others history turns
  play-one history [] = refl
  play-one history (turn ∷ turns) = ap (λ (h : List Call). play script faults h turns) (turn-one history turn) ∙ play-one (after_turn script others history turn) turns

  rounds-one : (most : ℕ) (history : List Call) (from moment : ℕ) → rounds script faults most history from moment ≡ rounds script others most history from moment
  rounds-one zero history from moment = refl
  rounds-one (suc most) history from moment = by (next_host script history from) (λ later host. rounds-one most later (host.0 + 1) (next_moment moment)) where
    by : (o : Option HostNo) → ((later : List Call) (host : HostNo) → rounds script faults most later (host.0 + 1) (next_moment moment) ≡ rounds script others most later (host.0 + 1) (next_moment moment)) →
        round_on (rounds script faults most) script faults history moment o ≡ round_on (rounds script others most) script others history moment o
    by None goes = refl
    by (Some host) goes =
        let turn : Turn = record { host = host; moment = next_moment moment } in
        ap (λ (h : List Call). rounds script faults most h (host.0 + 1) (next_moment moment)) (turn-one history turn) ∙ goes (after_turn script others history turn) host

  sim-one : (most : ℕ) → sim script faults most ≡ sim script others most
  sim-one most =
      ap (λ (h : List Call). rounds script faults most h 0 (last_moment script.turns)) (play-one [] script.turns)
      ∙ rounds-one most (play script others [] script.turns) 0 (last_moment script.turns)

-- once all hosts have ended more rounds change nothing
module _ (script : Script) (faults : Faults) where
  rounds-more : (most more : ℕ) (history : List Call) (from moment : ℕ) → all_ended script (rounds script faults most history from moment) ≡ true →
      rounds script faults (most + more) history from moment ≡ rounds script faults most history from moment
  rounds-more zero more history from moment over =
      let none : more ≡ 0 + more = omega arith in
      subst (λ (n : ℕ). rounds script faults n history from moment ≡ history) none (rounds-over script history over faults more from moment)
  rounds-more (suc most) more history from moment over =
      subst (λ (n : ℕ). rounds script faults n history from moment ≡ rounds script faults (suc most) history from moment) is
      (by (next_host script history from) (λ later host. rounds-more most more later (host.0 + 1) (next_moment moment)) over) where
        is : suc (most + more) ≡ suc most + more
        is = omega arith

        by : (o : Option HostNo) →
            ((later : List Call) (host : HostNo) → all_ended script (rounds script faults most later (host.0 + 1) (next_moment moment)) ≡ true →
            rounds script faults (most + more) later (host.0 + 1) (next_moment moment) ≡ rounds script faults most later (host.0 + 1) (next_moment moment)) →
            all_ended script (round_on (rounds script faults most) script faults history moment o) ≡ true →
            round_on (rounds script faults (most + more)) script faults history moment o ≡ round_on (rounds script faults most) script faults history moment o
        by None goes over = refl
        by (Some host) goes over = goes (after_turn script faults history (record { host = host; moment = next_moment moment })) host over

  sim-more : (most more : ℕ) → all_ended script (sim script faults most) ≡ true → sim script faults (most + more) ≡ sim script faults most
  sim-more most more over = rounds-more most more (play script faults [] script.turns) 0 (last_moment script.turns) over

one-play : (script : Script) (one other : List Call) (faults others : Faults) (most more : ℕ) → FailAlike faults others → one ≡ sim script faults most → other ≡ sim script others more →
    all_ended script one ≡ true → all_ended script other ≡ true → one ≡ other
one-play script one other faults others most more alike is same over ended =
    let again : other ≡ sim script faults more = same ∙ sym (sim-one script faults others alike more) in
    let first : sim script faults (most + more) ≡ sim script faults most = sim-more script faults most more (subst (λ (h : List Call). all_ended script h ≡ true) is over) in
    let second : sim script faults (more + most) ≡ sim script faults more = sim-more script faults more most (subst (λ (h : List Call). all_ended script h ≡ true) again ended) in
    let sum : most + more ≡ more + most = omega arith in
    is ∙ sym first ∙ ap (λ (n : ℕ). sim script faults n) sum ∙ second ∙ sym again

pub simulated_reports_are_one : SimulatedReportsAreOne
simulated_reports_are_one script one other report again first second alike =
    let a = first.played.headline.play in
    let b = second.played.headline.play in
    first.input_output
    ∙ ap (λ (history : List Call). report_of script history)
    (one-play script first.history second.history (faults_in first.history) (faults_in second.history) a.most b.most alike a.played b.played a.over b.over)
    ∙ sym second.input_output
