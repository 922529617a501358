-- The moments of the simulator's history are below 2^40.
use Rattle.std.proofs.Common.{◌≡◌, ℕ, zero, suc, ◌+◌, ◌-◌, ◌^◌, ◌<◌, ◌≤◌, List, [], ◌∷◌, Option, Some, None, refl, sym, ap, arith}
use Rattle.std.specs.List.{AllByRecursion, Contains}
use Rattle.std.proofs.lemmas.List.Elements.{recursion_from_All}
use Rattle.raid_base.specs.declared.numbers.HostNo.{HostNo}
use Rattle.raid_base.specs.declared.messages.Call.{Call}
use Rattle.raid_base.specs.declared.messages.Turn.{Turn}
use Rattle.raid_base.specs.declared.messages.Errand.{Errand}
use Rattle.script_text.specs.Script.{Script, host_numbers}
use Rattle.histories.specs.Progress.{Sent, sent_by, asks, work_errand}
use Rattle.histories.specs.History.{Faults, progress_at, after_sent, after_turn, play}
use Rattle.histories.specs.Turns.{rounds, round_on, next_host, next_moment, last_moment}
use Rattle.array_cli.specs.Moments.{AreTimely, MomentsAreBounded}

-- what is sent is sent at that moment
sent-moment : (host : HostNo) (clock moment : ℕ) (o : Option Errand) (sent : Sent) → sent_by host clock moment o ≡ Some sent → sent.ask.moment ≡ moment
sent-moment host clock moment None sent e = absurd (cc)
sent-moment host clock moment (Some errand) sent e =
    let same : record { bay = errand.bay; ask = record { host = host; clock = clock; moment = moment; what = errand.request } } ≡ sent = cc in
    ap (λ (s : Sent). s.ask.moment) (sym same)

abbrev IsEarly : Turn → Type 0
IsEarly turn = turn.moment ≤ 2 ^ 40 - 1

module _ (script : Script) (faults : Faults) where
  turn-timely : (earlier : List Call) (turn : Turn) → AreTimely earlier → IsEarly turn → AreTimely (after_turn script faults earlier turn)
  turn-timely earlier turn are early = by (asks turn.host (progress_at script turn.host earlier) turn.moment) refl
    where
      by : (o : Option Sent) → asks turn.host (progress_at script turn.host earlier) turn.moment ≡ o → AreTimely (after_sent script faults earlier o)
      by None e = are
      by (Some sent) e =
          let p = progress_at script turn.host earlier in
          let at : sent.ask.moment ≡ turn.moment = sent-moment turn.host p.clock turn.moment (work_errand p.work) sent e in
          (omega (arith, at, early), are)

  play-timely : (history : List Call) (turns : List Turn) → AreTimely history → AllByRecursion IsEarly turns → AreTimely (play script faults history turns)
  play-timely history [] are early = are
  play-timely history (turn ∷ turns) are early = play-timely (after_turn script faults history turn) turns (turn-timely history turn are early.0) early.1

  next-early : (moment : ℕ) → next_moment moment ≤ 2 ^ 40 - 1
  next-early moment = omega arith

  rounds-timely : (most : ℕ) (history : List Call) (from moment : ℕ) → AreTimely history → AreTimely (rounds script faults most history from moment)
  rounds-timely zero history from moment are = are
  rounds-timely (suc most) history from moment are = by (next_host script history from) (λ later host. rounds-timely most later (host.0 + 1) (next_moment moment))
    where
      by : (o : Option HostNo) → ((later : List Call) (host : HostNo) → AreTimely later → AreTimely (rounds script faults most later (host.0 + 1) (next_moment moment))) →
          AreTimely (round_on (rounds script faults most) script faults history moment o)
      by None goes = are
      by (Some host) goes =
          let turn : Turn = record { host = host; moment = next_moment moment } in
          goes (after_turn script faults history turn) host (turn-timely history turn are (next-early moment))

turns-early : (hosts : List HostNo) (turns : List Turn) → AllByRecursion (λ (turn : Turn). Contains hosts turn.host × (turn.moment < 2 ^ 40)) turns → AllByRecursion IsEarly turns
turns-early hosts [] all = tt
turns-early hosts (turn ∷ turns) all = (let low : turn.moment < 2 ^ 40 = all.0.1 in omega (arith, low), turns-early hosts turns all.1)

pub moments_are_bounded : MomentsAreBounded
moments_are_bounded script faults most is =
    let turns : AllByRecursion (λ (turn : Turn). Contains (host_numbers script) turn.host × (turn.moment < 2 ^ 40)) script.turns =
    recursion_from_All (λ (turn : Turn). Contains (host_numbers script) turn.host × (turn.moment < 2 ^ 40)) script.turns is.turns in
    rounds-timely script faults most (play script faults [] script.turns) 0 (last_moment script.turns)
    (play-timely script faults [] script.turns tt (turns-early (host_numbers script) script.turns turns))
