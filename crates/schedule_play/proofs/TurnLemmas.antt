-- What a host that asks may count on in its world.
use Rattle.std.proofs.Common.{◌≡◌, ℕ, ◌+◌, ◌-◌, ◌<◌, ◌≤◌, ◌^◌, true, eqb, Option, Some, None, List, [], ◌∷◌, length, get_or, refl, sym, ap, subst, ◌∙◌, arith, eq-eqb, length-append}
use Rattle.std.specs.Vec.{vec_len, vec_capacity}
use Rattle.raid_base.specs.declared.numbers.HostNo.{HostNo}
use Rattle.raid_base.specs.declared.numbers.BayNo.{BayNo}
use Rattle.raid_base.specs.declared.messages.Ask.{Ask}
use Rattle.raid_base.specs.declared.messages.Answer.{Answer}
use Rattle.raid_base.specs.declared.messages.Reply.{Reply}
use Rattle.raid_base.specs.declared.messages.Reply.TheVariants.{Done}
use Rattle.raid_base.specs.declared.messages.Request.{Request}
use Rattle.raid_base.specs.declared.messages.Request.TheVariants.{Lose}
use Rattle.raid_base.specs.declared.messages.Errand.{Errand}
use Rattle.raid_base.specs.declared.messages.Call.{Call}
use Rattle.raid_base.specs.Fits.{fits}
use Rattle.slot_rules.specs.Replay.{next_clock}
use Rattle.bay_device.specs.Handling.{IsAskOfBay}
use Rattle.script_text.specs.Script.{Script}
use Rattle.host_engine.specs.declared.host.Host.{Host}
use Rattle.histories.specs.Progress.{Progress, Sent, asks, sent_by, work_errand}
use Rattle.histories.specs.History.{progress_at, clock_at, journal, entry_of, transcript, turns_of, turn_of}
use Rattle.histories.specs.Asked.{AreAsked}
use Rattle.histories.specs.Quotas.{all_quotas}
use Rattle.histories.specs.Bounds.{IsPlayable, host_requests, host_contents}
use Rattle.histories.specs.HostLaws.{IsBounded}
use Rattle.histories.specs.Plain.{FitsNext}
use Rattle.host_engine.specs.Stands.{Stands, CanTake, IsSentBy, sent_pair}
use Rattle.schedule_play.specs.World.{HostShows, BayShows, Shows, all_requests}
use Rattle.schedule_play.specs.declared.world.World.{World}
use Rattle.block_store.specs.declared.store.Store.{Ghosts}
use Rattle.bay_device.specs.declared.bay.Bay.{Bay}
use Rattle.stripe_layout.specs.Placement.{bay}
use Rattle.histories.proofs.bounds.AskedRows.{asked-row}
use Rattle.histories.proofs.bounds.BoundsTakes.{asks-within, sent-errand}
use Rattle.histories.proofs.bounds.BoundsHistory.{requests_are_bounded}
use Rattle.histories.proofs.bounds.Quotas.{requests_keep_quotas}
use Rattle.host_engine.proofs.TakeLemmas.{sent-is}

-- what is handed out is what is asked
pub pair-sent : (o : Option Sent) (bay : BayNo) (ask : Ask) → Some (bay, ask) ≡ sent_pair o → o ≡ Some (record { bay = bay; ask = ask })
pair-sent None bay ask e = cc
pair-sent (Some sent) bay ask e =
    let same : (bay, ask) ≡ (sent.bay, sent.ask) = cc in
    ap (λ (s : Sent). Some s) (sym (ap (λ (x : BayNo × Ask). record { bay = x.0; ask = x.1 }) same))

pub pair-none : (o : Option Sent) → None ≡ sent_pair o → o ≡ None
pair-none None e = refl
pair-none (Some sent) e = cc

asked-fits : (host : HostNo) (clock moment : ℕ) (o : Option Errand) (sent : Sent) (reply : Reply) → sent_by host clock moment o ≡ Some sent → fits sent.ask.what reply ≡ true → FitsNext o reply
asked-fits host clock moment None sent reply e f = cc
asked-fits host clock moment (Some errand) sent reply e f =
    let same : errand.request ≡ sent.ask.what = ap (λ (o : Option Sent). what-of o) e in
    ap (λ (r : Request). fits r reply) same ∙ f
  where
    what-of : Option Sent → Request
    what-of None = Lose
    what-of (Some s) = s.ask.what

sent-by : (host : HostNo) (clock moment : ℕ) (o : Option Errand) (sent : Sent) → sent_by host clock moment o ≡ Some sent → (sent.ask.host ≡ host) × (sent.ask.moment ≡ moment)
sent-by host clock moment None sent e = absurd (cc)
sent-by host clock moment (Some errand) sent e =
    let same : record { bay = errand.bay; ask = record { host = host; clock = clock; moment = moment; what = errand.request } } ≡ sent = cc in
    (sym (ap (λ (x : Sent). x.ask.host) same), sym (ap (λ (x : Sent). x.ask.moment) same))

pub asked-again : (script : Script) (history : List Call) (host : HostNo) (moment : ℕ) (sent : Sent) → sent.ask.host ≡ host → sent.ask.moment ≡ moment →
    asks host (progress_at script host history) moment ≡ Some sent →
    asks sent.ask.host (progress_at script sent.ask.host history) sent.ask.moment ≡ Some (record { bay = sent.bay; ask = sent.ask })
asked-again script history host moment sent h m e =
    ap (λ (x : HostNo). asks x (progress_at script x history) sent.ask.moment) h ∙ ap (λ (k : ℕ). asks host (progress_at script host history) k) m ∙ e

transcript-here : (history : List Call) (call : Call) (host : HostNo) → eqb call.ask.host.0 host.0 ≡ true → length (transcript host (call ∷ history)) ≡ length (transcript host history) + 1
transcript-here history call host e = rw e (length-append (transcript host history) (call ∷ []))

journal-here : (history : List Call) (call : Call) → length (journal call.bay (call ∷ history)) ≡ length (journal call.bay history) + 1
journal-here history call =
    let e : eqb call.bay.0 call.bay.0 ≡ true = eq-eqb call.bay.0 call.bay.0 refl in
    rw e (length-append (journal call.bay history) (entry_of call ∷ []))

-- a host that asks in a world at this history
pub record AsksNow (script : Script) (history : List Call) (host : Host) (moment : ℕ) (sent : Sent) : Type 0 where
  pub bay : sent.bay.0 < script.n
  pub ask : IsAskOfBay script.rows sent.ask
  pub asker : sent.ask.host ≡ host.no
  pub at : sent.ask.moment ≡ moment
  pub more : length history < all_requests script
  pub calls : length (transcript host.no history) + 1 ≤ host_requests script host.no
  pub entries : length (journal sent.bay history) < all_quotas script

pub asks-now : (script : Script) (history : List Call) (host : Host) (moment : ℕ) (sent : Sent) → IsPlayable script → all_requests script < 2 ^ 62 → AreAsked script history →
    HostShows script history host → asks host.no (progress_at script host.no history) moment ≡ Some sent → AsksNow script history host moment sent
asks-now script history host moment sent playable few asked shows asks_it =
    let p = progress_at script host.no history in
    let now : IsBounded script history = requests_are_bounded script history playable asked in
    let said = sent-errand host.no p.clock moment (work_errand p.work) sent asks_it in
    let within = asks-within script host.no p (host_requests script host.no - length (transcript host.no history)) (host_contents script host.no) moment sent (now.keeps host.no) asks_it in
    let call : Call = record { bay = sent.bay; ask = sent.ask; answer = record { clock = next_clock (clock_at sent.bay history) sent.ask; reply = Done } } in
    let whose = sent-by host.no p.clock moment (work_errand p.work) sent asks_it in
    let asked_too : AreAsked script (call ∷ history) = (asked, record { asked = asked-again script history host.no moment sent whose.0 whose.1 asks_it; clocked = refl }) in
    let later : IsBounded script (call ∷ history) = requests_are_bounded script (call ∷ history) playable asked_too in
    let more : length history < all_requests script = let h = later.calls in omega arith in
    let below : host.no.0 < 16 = subst (λ (h : HostNo). h.0 < 16) shows.stands.counts.draws host.numbers.is_host in
    let clock : sent.ask.clock < 2 ^ 62 = omega (arith, said.3, now.host_clocks host.no, more, few) in
    record {
      bay = within.bay;
      ask = record { served = record { row = asked-row script.rows sent.ask.what within.request; host = subst (λ (h : HostNo). h.0 < 16) (sym whose.0) below }; clock = clock };
      asker = whose.0;
      at = whose.1;
      more = more;
      entries =
          let h = (requests_keep_quotas script (call ∷ history) playable asked_too).journals sent.bay in
          omega (arith, h, journal-here history call);
      calls = let h = later.transcripts host.no in let e : eqb sent.ask.host.0 host.no.0 ≡ true = eq-eqb _ _ (ap (λ (n : HostNo). n.0) whose.0) in
          subst (λ (n : ℕ). n ≤ host_requests script host.no) (transcript-here history call host.no e) h;
    }

-- a host with room takes the answer
pub can-take : (script : Script) (history : List Call) (host : Host) (moment : ℕ) (sent : Sent) (given : Answer) → IsPlayable script → AreAsked script history →
    HostShows script history host → asks host.no (progress_at script host.no history) moment ≡ Some sent → fits sent.ask.what given.reply ≡ true → CanTake host moment given
can-take script history host moment sent given playable asked shows asks_it fit =
    let p = progress_at script host.no history in
    let now : IsBounded script history = requests_are_bounded script history playable asked in
    record {
      script = script;
      host = host.no;
      p = p;
      requests = host_requests script host.no - length (transcript host.no history);
      contents = host_contents script host.no;
      stands = shows.stands;
      keeps = now.keeps host.no;
      asked = asked-fits host.no p.clock moment (work_errand p.work) sent given.reply asks_it fit;
      calls = omega (arith, host.transcript.ok.0, ap length shows.calls, shows.room, now.transcripts host.no);
      reads = shows.reads;
    }

-- what a host asks in its world is what it has sent
pub shown-sent : (script : Script) (history : List Call) (host : Host) (moment : ℕ) (sent : Sent) → HostShows script history host →
    asks host.no (progress_at script host.no history) moment ≡ Some sent → IsSentBy host moment sent
shown-sent script history host moment sent shows asks_it =
    sym (sent-is script host.no host (progress_at script host.no history) moment shows.stands) ∙ asks_it

pub length-turns : (history : List Call) → length (turns_of history) ≡ length history
length-turns [] = refl
length-turns (call ∷ earlier) = length-append (turns_of earlier) (turn_of call ∷ []) ∙ let h = length-turns earlier in omega arith

module _ {D : Type 0} {g : Ghosts D} where
  -- the host that is read, and what it asks
  pub record TurnFacts (script : Script) (history : List Call) (now : World D g) (host : Host) (moment : ℕ) (sent : Sent) : Type 0 where
    pub shows_host : HostShows script history host
    pub asked : asks host.no (progress_at script host.no history) moment ≡ Some sent
    pub facts : AsksNow script history host moment sent
    pub inside : sent.bay.0 < length now.bays.items
    pub room : vec_len now.turns < vec_capacity now.turns

  pub read-host : (script : Script) (history : List Call) (now : World D g) (place : ℕ) (host : Host) → Shows script history now → place < length now.hosts.items →
      host ≡ get_or now.hosts.items place host → HostShows script history host
  read-host script history now place host s inside is = subst (λ (h : Host). HostShows script history h) (sym is) (s.hosts place host inside)

  pub turn-facts : (script : Script) (history : List Call) (now : World D g) (place : ℕ) (host : Host) (moment : ℕ) (at : BayNo) (ask : Ask) (result : Option (BayNo × Ask)) →
      IsPlayable script → all_requests script < 2 ^ 62 → Shows script history now → place < length now.hosts.items → host ≡ get_or now.hosts.items place host →
      ((s : Script) (h : HostNo) (p : Progress) → Stands s h host p → result ≡ sent_pair (asks h p moment)) → result ≡ Some (at, ask) →
      TurnFacts script history now host moment (record { bay = at; ask = ask })
  turn-facts script history now place host moment at ask result playable few s inside is next some =
      let hs = read-host script history now place host s inside is in
      let asked = pair-sent (asks host.no (progress_at script host.no history) moment) at ask (sym some ∙ next script host.no (progress_at script host.no history) hs.stands) in
      let facts = asks-now script history host moment (record { bay = at; ask = ask }) playable few s.asked hs asked in
      record {
        shows_host = hs;
        asked = asked;
        facts = facts;
        inside = omega (arith, facts.bay, s.bay_count);
        room = omega (arith, now.turns.ok.0, ap length s.turns, length-turns history, facts.more, s.turn_room);
      }

  pub read-bay : (script : Script) (history : List Call) (now : World D g) (at : ℕ) (device : Bay D g) → Shows script history now → at < length now.bays.items →
      device ≡ get_or now.bays.items at device → BayShows script history at device
  read-bay script history now at device s inside is = subst (λ (b : Bay D g). BayShows script history at b) (sym is) (s.bays at device inside)

  pub ask-fits-bay : (script : Script) (history : List Call) (host : Host) (moment : ℕ) (sent : Sent) (device : Bay D g) → AsksNow script history host moment sent →
      BayShows script history sent.bay.0 device → IsAskOfBay (length device.slots.slots) sent.ask × (vec_len device.journal < device.cap)
  ask-fits-bay script history host moment sent device a b = (
    subst (λ (n : ℕ). IsAskOfBay n sent.ask) (sym b.rows) a.ask,
    omega (arith, device.journal.ok.0, ap length b.entries, a.entries, b.room),
  )
