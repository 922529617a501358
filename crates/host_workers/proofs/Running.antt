-- A host that has run so far: what it may ask next, and how it goes on.
use Rattle.std.proofs.Common.{◌≡◌, ℕ, ◌+◌, ◌<◌, ◌≤◌, max, eqb, Bool, true, false, List, [], ◌∷◌, ◌++◌, reverse, Option, Some, None, refl, sym, ap, subst, ◌∙◌, arith, eq-eqb}
use Rattle.std.specs.Prelude.{IsSome}
use Rattle.std.proofs.lemmas.List.{reverse-append, reverse-reverse}
use Rattle.raid_base.specs.declared.numbers.HostNo.{HostNo}
use Rattle.raid_base.specs.declared.numbers.BayNo.{BayNo}
use Rattle.raid_base.specs.declared.messages.Ask.{Ask}
use Rattle.raid_base.specs.declared.messages.Call.{Call}
use Rattle.raid_base.specs.declared.messages.Errand.{Errand}
use Rattle.raid_base.specs.declared.messages.Reply.TheVariants.{Done}
use Rattle.slot_rules.specs.Serving.{IsAskFor}
use Rattle.script_text.specs.Script.{Script}
use Rattle.script_text.specs.Ranges.{IsScript}
use Rattle.script_text.specs.Weights.{quota}
use Rattle.histories.specs.Progress.{Progress, Sent, asks, sent_by, takes, at_start, work_errand, is_over}
use Rattle.histories.specs.History.{if_taken, progress_at}
use Rattle.histories.specs.HostRuns.{IsHostRun, IsRunBounded}
use Rattle.histories.specs.Quotas.{calls_at}
use Rattle.histories.proofs.bounds.AskedRows.{asked-row}
use Rattle.histories.proofs.bounds.Awake.{IsAwake, start-awake, takes-awake, work-asks}
use Rattle.histories.proofs.bounds.BoundsTakes.{asks-within, sent-errand}
use Rattle.histories.proofs.bounds.BoundsClocks.{takes-clock, start-at-zero}
use Rattle.histories.proofs.bounds.RunQuotas.{host_runs_keep_quotas}
use Rattle.host_engine.specs.Stands.{sent_pair}
use Rattle.rack_turns.specs.Views.{greatest_clock}

-- what is handed out is what is asked
pub pair-sent : (o : Option Sent) (bay : BayNo) (ask : Ask) → Some (bay, ask) ≡ sent_pair o → o ≡ Some (record { bay = bay; ask = ask })
pair-sent None bay ask e = cc
pair-sent (Some sent) bay ask e =
    let same : (bay, ask) ≡ (sent.bay, sent.ask) = cc in
    ap (λ (s : Sent). Some s) (sym (ap (λ (x : BayNo × Ask). record { bay = x.0; ask = x.1 }) same))

pub pair-none : (o : Option Sent) → None ≡ sent_pair o → o ≡ None
pair-none None e = refl
pair-none (Some sent) e = cc

-- it says its number and the moment
sent-by : (host : HostNo) (clock moment : ℕ) (o : Option Errand) (sent : Sent) → sent_by host clock moment o ≡ Some sent → (sent.ask.host ≡ host) × (sent.ask.moment ≡ moment)
sent-by host clock moment None sent e = absurd (cc)
sent-by host clock moment (Some errand) sent e =
    let same : record { bay = errand.bay; ask = record { host = host; clock = clock; moment = moment; what = errand.request } } ≡ sent = cc in
    (sym (ap (λ (x : Sent). x.ask.host) same), sym (ap (λ (x : Sent). x.ask.moment) same))

-- the greatest clock is this one or the greatest before
greatest-last : (calls : List Call) (call : Call) → greatest_clock (calls ++ call ∷ []) ≡ max (greatest_clock calls) call.answer.clock
greatest-last [] call = omega arith
greatest-last (first ∷ calls) call = let rest : greatest_clock (calls ++ call ∷ []) ≡ max (greatest_clock calls) call.answer.clock = greatest-last calls call in omega (arith, rest)

-- the newest call is the first when the list is turned
pub turned-more : (items : List Call) (call : Call) → reverse (items ++ call ∷ []) ≡ call ∷ reverse items
turned-more items call = reverse-append items (call ∷ [])

module _ (script : Script) (host : HostNo) where
  own : (call : Call) → call.ask.host ≡ host → eqb call.ask.host.0 host.0 ≡ true
  own call same = eq-eqb call.ask.host.0 host.0 (ap (λ (h : HostNo). h.0) same)

  -- after a call of its own
  pub progress-more : (call : Call) (earlier : List Call) → call.ask.host ≡ host → progress_at script host (call ∷ earlier) ≡ takes script host (progress_at script host earlier) call
  progress-more call earlier same = ap (λ (b : Bool). if_taken script host (progress_at script host earlier) call b) (own call same)

  -- its clock is one that it was answered, or 0
  pub clock-answered : (items : List Call) → IsHostRun script host (reverse items) → (progress_at script host (reverse items)).clock ≤ greatest_clock items
  clock-answered items run = subst (λ (l : List Call). (progress_at script host (reverse items)).clock ≤ greatest_clock l) (reverse-reverse items) (by (reverse items) run)
    where
      by : (calls : List Call) → IsHostRun script host calls → (progress_at script host calls).clock ≤ greatest_clock (reverse calls)
      by [] run = let e : (at_start script host).clock ≡ 0 = start-at-zero script host in omega (arith, e)
      by (call ∷ earlier) run =
          let p = progress_at script host earlier in
          let here : (progress_at script host (call ∷ earlier)).clock ≡ call.answer.clock =
          ap (λ (q : Progress). q.clock) (progress-more call earlier run.1) ∙ takes-clock script host p call in
          let turned : greatest_clock (reverse (call ∷ earlier)) ≡ max (greatest_clock (reverse earlier)) call.answer.clock =
          ap greatest_clock (reverse-append (call ∷ []) earlier) ∙ greatest-last (reverse earlier) call in
          omega (arith, here, turned)

  module _ (is : IsScript script) where
    bounded : (calls : List Call) → IsHostRun script host calls → IsRunBounded script host calls
    bounded calls run = host_runs_keep_quotas script host calls (record { ranges = is }) run

    -- while it has not ended it has a request to make
    awake : (calls : List Call) → IsHostRun script host calls → IsAwake (progress_at script host calls).work
    awake [] run = start-awake script is host
    awake (call ∷ earlier) run =
        subst (λ (q : Progress). IsAwake q.work) (sym (progress-more call earlier run.1))
        (takes-awake script is host (progress_at script host earlier) call _ _ (bounded earlier run.0).keeps)

    -- where it asks nothing it has ended
    pub none-over : (calls : List Call) (moment : ℕ) → IsHostRun script host calls → asks host (progress_at script host calls) moment ≡ None → is_over (progress_at script host calls).work ≡ true
    none-over calls moment run none = by _ refl
      where
        p : Progress
        p = progress_at script host calls

        by : (over : Bool) → is_over p.work ≡ over → over ≡ true
        by true e = refl
        by false e = absurd (asked (work_errand p.work) (work-asks p.work (awake calls run) e) none)
          where
            asked : (o : Option Errand) → IsSome o → sent_by host p.clock moment o ≡ None → ⊥
            asked None some e = cc
            asked (Some errand) some e = cc

    -- one more call at its bay is within the quota
    with-one : (call : Call) (earlier : List Call) → call.ask.host ≡ host → calls_at host call.bay (call ∷ earlier) ≡ calls_at host call.bay earlier + 1
    with-one call earlier same = rw (own call same, eq-eqb call.bay.0 call.bay.0 refl) refl

    -- what it asks next
    pub record AsksNext (calls : List Call) (moment : ℕ) (sent : Sent) : Type 0 where
      pub bay : sent.bay.0 < script.n
      pub ask : host.0 < 16 → IsAskFor script.rows sent.ask
      pub asker : sent.ask.host ≡ host
      pub at : sent.ask.moment ≡ moment
      pub clock : sent.ask.clock ≡ (progress_at script host calls).clock
      pub again : asks host (progress_at script host calls) sent.ask.moment ≡ Some (record { bay = sent.bay; ask = sent.ask })
      pub few : calls_at host sent.bay calls + 1 ≤ quota script host

    pub asks-next : (calls : List Call) (moment : ℕ) (sent : Sent) → IsHostRun script host calls → asks host (progress_at script host calls) moment ≡ Some sent → AsksNext calls moment sent
    asks-next calls moment sent run asked =
        let p = progress_at script host calls in
        let said = sent-errand host p.clock moment (work_errand p.work) sent asked in
        let whose = sent-by host p.clock moment (work_errand p.work) sent asked in
        let within = asks-within script host p _ _ moment sent (bounded calls run).keeps asked in
        let again : asks host p sent.ask.moment ≡ Some (record { bay = sent.bay; ask = sent.ask }) = ap (λ (k : ℕ). asks host p k) whose.1 ∙ asked in
        let call : Call = record { bay = sent.bay; ask = sent.ask; answer = record { clock = 0; reply = Done } } in
        let more = bounded (call ∷ calls) (run, whose.0, within.bay, again) in
        record {
          bay = within.bay;
          ask = λ below. record { row = asked-row script.rows sent.ask.what within.request; host = subst (λ (h : HostNo). h.0 < 16) (sym whose.0) below };
          asker = whose.0;
          at = whose.1;
          clock = said.3;
          again = again;
          few = omega (arith, more.asked sent.bay, with-one call calls whose.0);
        }
