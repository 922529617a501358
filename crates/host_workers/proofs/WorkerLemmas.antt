-- A worker that asks: what its rack and its host may count on, and what one request makes of it.
use Rattle.std.proofs.Common.{◌≡◌, ◌≢◌, ℕ, zero, suc, ◌+◌, ◌-◌, ◌<◌, ◌≤◌, ◌^◌, ◌==◌, ◌&&◌, if◌then◌else◌, eqb, Bool, true, false, List, [], ◌∷◌, ◌++◌, length, set, reverse, Option, Some, None, refl, sym, ap, subst, ◌∙◌, ◌⊎◌, inl, inr, arith, eq-eqb}
use Rattle.std.specs.Prelude.{IsTrue, All, slice_index}
use Rattle.std.specs.Vec.{vec_len}
use Rattle.std.proofs.lemmas.Bool.Decides.{eqb_tells}
use Rattle.std.proofs.lemmas.List.{length-append, length-reverse}
use Rattle.std.proofs.lemmas.List.Elements.{All-push}
use Rattle.raid_base.specs.declared.numbers.HostNo.{HostNo}
use Rattle.raid_base.specs.declared.numbers.BayNo.{BayNo}
use Rattle.raid_base.specs.declared.messages.Ask.{Ask}
use Rattle.raid_base.specs.declared.messages.Answer.{Answer}
use Rattle.raid_base.specs.declared.messages.Call.{Call}
use Rattle.raid_base.specs.Fits.{fits}
use Rattle.block_store.specs.declared.store.Store.{Ghosts}
use Rattle.slot_rules.specs.Serving.{IsAskFor}
use Rattle.script_text.specs.Script.{Script}
use Rattle.script_text.specs.Weights.{quota}
use Rattle.histories.specs.Progress.{Progress, Sent, asks}
use Rattle.histories.specs.History.{progress_at}
use Rattle.histories.specs.HostRuns.{IsHostRun}
use Rattle.histories.specs.Bounds.{host_requests, host_contents}
use Rattle.histories.specs.Quotas.{calls_at}
use Rattle.histories.proofs.bounds.RunQuotas.{host_runs_keep_quotas}
use Rattle.host_engine.specs.Stands.{Stands, IsSentBy, Takes, CanTake, sent_pair}
use Rattle.host_engine.specs.Ready.{IsReady}
use Rattle.host_engine.specs.declared.host.Host.{Host}
use Rattle.host_engine.proofs.TakeLemmas.{sent-is}
use Rattle.host_engine.proofs.ReadyLemmas.{ready-takes}
use Rattle.rack_turns.specs.declared.pass.Pass.{Pass}
use Rattle.rack_turns.specs.declared.rack.Rack.{Rack}
use Rattle.rack_turns.specs.declared.view.View.{View}
use Rattle.rack_turns.specs.declared.view.Standing.{Standing}
use Rattle.rack_turns.specs.Views.{greatest_clock}
use Rattle.rack_turns.specs.Passes.{IsPassOf, IsAskAt, HasAskedAt, seen, openings_of}
use Rattle.host_workers.specs.declared.workers.Worker.{Worker}
use Rattle.host_workers.specs.Workers.{IsRackFor, IsAlong, HasGoneOn, HasEnded, MayGoOn, calls_of, progress_of}
use Rattle.host_workers.proofs.Running.{AsksNext, asks-next, pair-sent, pair-none, none-over, clock-answered, turned-more, progress-more}

-- what the host hands out at a moment
abbrev pub Hands : Host → ℕ → Option (BayNo × Ask) → Type 0
Hands now moment result = (script : Script) (host : HostNo) (p : Progress) → Stands script host now p → result ≡ sent_pair (asks host p moment)

-- an ask that the rack may take from this pass
pub record MayAsk {D : Type 0} {g : Ghosts D} (rack : Rack D g) (pass : Pass) (bay : BayNo) (ask : Ask) : Type 0 where
  pub bay_is : bay.0 < length (openings_of rack)
  pub host : ask.host ≡ pass.standing.host
  pub left : 1 ≤ slice_index pass.standing.left bay.0
  pub clock : ask.clock ≤ pass.clock
  pub fitting : IsAskAt (openings_of rack) bay.0 ask

-- one place of a list is one less
left-here : (left : List ℕ) (bay n m : ℕ) → slice_index left bay + n ≡ m → 1 ≤ slice_index left bay → slice_index (set left bay (slice_index left bay - 1)) bay + (n + 1) ≡ m
left-here [] bay n m sum enough = absurd (omega arith)
left-here (x ∷ left) zero n m sum enough = omega (arith, sum, enough)
left-here (x ∷ left) (suc bay) n m sum enough = left-here left bay n m sum enough

left-there : (left : List ℕ) (bay other value n m : ℕ) → bay ≢ other → slice_index left other + n ≡ m → slice_index (set left bay value) other + n ≡ m
left-there [] bay other value n m apart sum = sum
left-there (x ∷ left) zero zero value n m apart sum = absurd (apart refl)
left-there (x ∷ left) zero (suc other) value n m apart sum = sum
left-there (x ∷ left) (suc bay) zero value n m apart sum = sum
left-there (x ∷ left) (suc bay) (suc other) value n m apart sum = left-there left bay other value n m (λ e. apart (ap suc e)) sum

-- and the calls at it are one more
left-more : (left : List ℕ) (bay other n m : ℕ) → slice_index left other + n ≡ m → 1 ≤ slice_index left bay →
    slice_index (set left bay (slice_index left bay - 1)) other + (if bay == other then n + 1 else n) ≡ m
left-more left bay other n m sum enough = by (eqb_tells bay other)
  where
    after : List ℕ
    after = set left bay (slice_index left bay - 1)

    by : ((eqb bay other ≡ true) × (bay ≡ other)) ⊎ ((eqb bay other ≡ false) × (bay ≢ other)) → slice_index after other + (if bay == other then n + 1 else n) ≡ m
    by (inl (is, same)) =
        subst (λ (b : Bool). slice_index after other + (if b then n + 1 else n) ≡ m) (sym is)
        (subst (λ (k : ℕ). slice_index after k + (n + 1) ≡ m) same (left-here left bay n m (subst (λ (k : ℕ). slice_index left k + n ≡ m) (sym same) sum) enough))
    by (inr (is, apart)) =
        subst (λ (b : Bool). slice_index after other + (if b then n + 1 else n) ≡ m) (sym is) (left-there left bay other (slice_index left bay - 1) n m apart sum)

left-is : (host : HostNo) (left : List ℕ) (call : Call) (other : BayNo) (earlier : List Call) (m : ℕ) → call.ask.host ≡ host → 1 ≤ slice_index left call.bay.0 →
    slice_index left other.0 + calls_at host other earlier ≡ m → slice_index (set left call.bay.0 (slice_index left call.bay.0 - 1)) other.0 + calls_at host other (call ∷ earlier) ≡ m
left-is host left call other earlier m same enough sum =
    let before = calls_at host other earlier in
    let own : eqb call.ask.host.0 host.0 ≡ true = eq-eqb call.ask.host.0 host.0 (ap (λ (h : HostNo). h.0) same) in
    let counted : calls_at host other (call ∷ earlier) ≡ (if call.bay.0 == other.0 then before + 1 else before) =
    ap (λ (b : Bool). if b && (call.bay.0 == other.0) then before + 1 else before) own in
    subst (λ (n : ℕ). slice_index (set left call.bay.0 (slice_index left call.bay.0 - 1)) other.0 + n ≡ m) (sym counted)
    (left-more left call.bay.0 other.0 before m sum enough)

module _ {D : Type 0} {g : Ghosts D} (script : Script) (rack : Rack D g) (host : HostNo) (fits_rack : IsRackFor script rack) where
  -- its number is one of a host
  below : (worker : Worker) → IsAlong script rack host worker → host.0 < 16
  below worker along = subst (λ (h : HostNo). h.0 < 16) along.stands.counts.draws worker.host.numbers.is_host

  -- its host may be told what it asked
  pub ready-of : (worker : Worker) → IsAlong script rack host worker → IsReady worker.host
  ready-of worker along =
      let all = host_runs_keep_quotas script host (calls_of worker) (record { ranges = fits_rack.ranges }) along.run in
      let long : length (calls_of worker) ≡ vec_len worker.host.transcript = length-reverse worker.host.transcript.items ∙ sym worker.host.transcript.ok.0 in
      record {
        script = script;
        host = host;
        p = progress_of script host worker;
        requests = host_requests script host - length (calls_of worker);
        contents = host_contents script host;
        ranges = fits_rack.ranges;
        stands = along.stands;
        keeps = all.keeps;
        calls = omega (arith, long, all.all, along.calls);
        reads = along.reads;
      }

  -- what it hands out is what it asks next
  pub handed : (worker : Worker) (moment : ℕ) (result : Option (BayNo × Ask)) (bay : BayNo) (ask : Ask) → IsAlong script rack host worker → Hands worker.host moment result → result ≡ Some (bay, ask) →
      asks host (progress_of script host worker) moment ≡ Some (record { bay = bay; ask = ask })
  handed worker moment result bay ask along hands is =
      pair-sent (asks host (progress_of script host worker) moment) bay ask (sym is ∙ hands script host (progress_of script host worker) along.stands)

  pub next-of : (worker : Worker) (moment : ℕ) (result : Option (BayNo × Ask)) (bay : BayNo) (ask : Ask) → IsAlong script rack host worker → Hands worker.host moment result → result ≡ Some (bay, ask) →
      AsksNext script host fits_rack.ranges (calls_of worker) moment (record { bay = bay; ask = ask })
  next-of worker moment result bay ask along hands is =
      asks-next script host fits_rack.ranges (calls_of worker) moment (record { bay = bay; ask = ask }) along.run (handed worker moment result bay ask along hands is)

  -- the rack may take it
  pub may-ask : (worker : Worker) (moment : ℕ) (bay : BayNo) (ask : Ask) → IsAlong script rack host worker → AsksNext script host fits_rack.ranges (calls_of worker) moment (record { bay = bay; ask = ask }) →
      MayAsk rack worker.pass bay ask
  may-ask worker moment bay ask along next =
      let greatest : worker.pass.clock ≡ greatest_clock worker.host.transcript.items = along.pass.clock ∙ ap greatest_clock along.asked in
      record {
        bay_is = omega (arith, next.bay, fits_rack.bays.many);
        host = next.asker ∙ sym along.number;
        left = omega (arith, next.few, along.left bay next.bay);
        clock = omega (arith, next.clock, greatest, clock-answered script host worker.host.transcript.items along.run);
        fitting = λ opening at. subst (λ (n : ℕ). IsAskFor n ask) (sym (fits_rack.bays.rows bay.0 opening at)) (next.ask (below worker along));
      }

  -- it has sent it
  pub sent-of : (worker : Worker) (moment : ℕ) (result : Option (BayNo × Ask)) (bay : BayNo) (ask : Ask) → IsAlong script rack host worker → Hands worker.host moment result → result ≡ Some (bay, ask) →
      IsSentBy worker.host moment (record { bay = bay; ask = ask })
  sent-of worker moment result bay ask along hands is =
      sym (sent-is script host worker.host (progress_of script host worker) moment along.stands) ∙ handed worker moment result bay ask along hands is

  -- where it hands out nothing it has ended
  pub ended-of : (worker : Worker) (moment : ℕ) (result : Option (BayNo × Ask)) → IsAlong script rack host worker → Hands worker.host moment result → result ≡ None → HasEnded script host worker
  ended-of worker moment result along hands is =
      none-over script host fits_rack.ranges (calls_of worker) moment along.run
      (pair-none (asks host (progress_of script host worker) moment) (sym is ∙ hands script host (progress_of script host worker) along.stands))

  -- what it was answered is one call more of its run
  pub gone-on : (old new : Worker) (moment : ℕ) (bay : BayNo) (ask : Ask) (answer : Answer) → IsAlong script rack host old → moment < 2 ^ 40 →
      AsksNext script host fits_rack.ranges (calls_of old) moment (record { bay = bay; ask = ask }) → MayAsk rack old.pass bay ask → IsSentBy old.host moment (record { bay = bay; ask = ask }) →
      IsPassOf rack new.pass → HasAskedAt bay.0 ask answer old.pass new.pass → ((sent : Sent) → IsSentBy old.host moment sent → Takes old.host new.host moment answer sent) →
      HasGoneOn script rack host old new
  gone-on old new moment bay ask answer along early next may sent pass asked took =
      let call : Call = record { bay = bay; ask = ask; answer = answer } in
      let taken = took (record { bay = bay; ask = ask }) sent in
      let turned : calls_of new ≡ call ∷ calls_of old = ap reverse taken.call ∙ turned-more old.host.transcript.items call in
      let before = asked.before in
      let met : (seen before).asked ≡ (seen old.pass).asked = ap (λ (v : View). v.asked) asked.meets.view in
      let standing : before.standing ≡ old.pass.standing = asked.meets.standing in
      let more : (seen new.pass).asked ≡ (seen before).asked ++ call ∷ [] = ap (λ (v : View). v.asked) asked.asks.view in
      let left : new.pass.standing.left ≡ set old.pass.standing.left bay.0 (slice_index old.pass.standing.left bay.0 - 1) =
      ap (λ (s : Standing). s.left) asked.asks.standing ∙ ap (λ (s : Standing). set s.left bay.0 (slice_index s.left bay.0 - 1)) standing in
      record {
        along = record {
          pass = pass;
          number = ap (λ (s : Standing). s.host) asked.asks.standing ∙ ap (λ (s : Standing). s.host) standing ∙ along.number;
          asked = more ∙ ap (λ (l : List Call). l ++ call ∷ []) (met ∙ along.asked) ∙ sym taken.call;
          run = subst (λ (l : List Call). IsHostRun script host l) (sym turned) (along.run, next.asker, next.bay, next.again);
          stands = subst (λ (l : List Call). Stands script host new.host (progress_at script host l)) (sym turned)
              (subst (λ (p : Progress). Stands script host new.host p) (sym (progress-more script host call (calls_of old) next.asker)) (taken.stands script host (progress_of script host old) along.stands));
          moments = subst (λ (l : List Call). All (λ (c : Call). c.ask.moment < 2 ^ 40) l) (sym taken.call)
              (All-push (λ (c : Call). c.ask.moment < 2 ^ 40) old.host.transcript.items call along.moments (subst (λ (k : ℕ). k < 2 ^ 40) (sym next.at) early));
          left = λ other inside.
              let before = along.left other inside in
              let after = left-is host old.pass.standing.left call other (calls_of old) (quota script host) next.asker may.left before in
              subst (λ (l : List ℕ). slice_index l other.0 + calls_at host other (calls_of new) ≡ quota script host) (sym left)
              (subst (λ (l : List Call). slice_index (set old.pass.standing.left bay.0 (slice_index old.pass.standing.left bay.0 - 1)) other.0 + calls_at host other l ≡ quota script host) (sym turned) after);
          calls = omega (arith, along.calls, taken.calls);
          reads = omega (arith, along.reads, taken.reads);
        };
        first = asked.asks.first ∙ asked.meets.first;
        more = ap length taken.call ∙ length-append old.host.transcript.items (call ∷ []);
      }

-- the same of what a host has handed out
module _ {D : Type 0} {g : Ghosts D} (rack : Rack D g) (worker : Worker) (moment : ℕ) (result : Option (BayNo × Ask)) (bay : BayNo) (ask : Ask) (hands : Hands worker.host moment result) (is : result ≡ Some (bay, ask)) where
  pub now-asks : MayGoOn rack worker → MayAsk rack worker.pass bay ask
  now-asks r =
      may-ask r.script rack r.host r.rack_is worker moment bay ask r.along (next-of r.script rack r.host r.rack_is worker moment result bay ask r.along hands is)

  pub now-sent : MayGoOn rack worker → IsSentBy worker.host moment (record { bay = bay; ask = ask })
  now-sent r = sent-of r.script rack r.host r.rack_is worker moment result bay ask r.along hands is

  pub now-takes : MayGoOn rack worker → (answer : Answer) → IsTrue (fits ask.what answer.reply) → CanTake worker.host moment answer
  now-takes r answer fitting = ready-takes worker.host moment answer (ready-of r.script rack r.host r.rack_is worker r.along) result bay ask hands is fitting

  pub now-gone-on : (script : Script) (host : HostNo) → IsRackFor script rack → IsAlong script rack host worker → (new : Worker) (answer : Answer) → moment < 2 ^ 40 →
      IsPassOf rack new.pass → HasAskedAt bay.0 ask answer worker.pass new.pass → ((sent : Sent) → IsSentBy worker.host moment sent → Takes worker.host new.host moment answer sent) →
      HasGoneOn script rack host worker new
  now-gone-on script host rack_is along new answer early pass asked took =
      let next = next-of script rack host rack_is worker moment result bay ask along hands is in
      gone-on script rack host rack_is worker new moment bay ask answer along early next (may-ask script rack host rack_is worker moment bay ask along next)
      (sent-of script rack host rack_is worker moment result bay ask along hands is) pass asked took
