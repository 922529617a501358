-- A world after a turn.
use Rattle.std.proofs.Common.{◌≡◌, ◌≢◌, ℕ, ◌<◌, ◌^◌, zero, suc, Bool, true, false, eqb, Option, Some, None, is_some, List, [], ◌∷◌, ◌++◌, length, get_or, map, refl, sym, ap, subst, ◌∙◌, inl, inr, ◌⊎◌, arith, get_or-set_other, get_or-set_same, IsTrue}
use Rattle.std.proofs.Math.ListN.{set, length-set}
use Rattle.std.proofs.lemmas.Bool.Decides.{eqb_tells}
use Rattle.std.specs.Vec.{vec_capacity}
use Rattle.raid_base.specs.declared.numbers.HostNo.{HostNo}
use Rattle.raid_base.specs.declared.numbers.BayNo.{BayNo}
use Rattle.raid_base.specs.declared.messages.Ask.{Ask}
use Rattle.raid_base.specs.declared.messages.Answer.{Answer}
use Rattle.raid_base.specs.declared.messages.Call.{Call}
use Rattle.raid_base.specs.declared.messages.Turn.{Turn}
use Rattle.slot_rules.specs.Replay.{next_clock}
use Rattle.slot_rules.specs.Handling.{Handled}
use Rattle.block_store.specs.declared.store.Store.{Ghosts}
use Rattle.bay_device.specs.declared.bay.Bay.{Bay}
use Rattle.script_text.specs.Script.{Script}
use Rattle.host_engine.specs.declared.host.Host.{Host}
use Rattle.histories.specs.Progress.{Progress, Sent, asks}
use Rattle.histories.specs.History.{progress_at, turns_of}
use Rattle.histories.specs.Asked.{IsAsked}
use Rattle.histories.specs.Bounds.{IsPlayable}
use Rattle.host_engine.specs.Stands.{Stands, Takes, IsSentBy, sent_pair}
use Rattle.host_engine.proofs.TakeLemmas.{sent-is}
use Rattle.schedule_play.specs.declared.world.World.{World}
use Rattle.schedule_play.specs.World.{EachAt, HostShows, BayShows, AllTell, LeadsTo, TurnLeads, Shows, Turned, turn_of, all_requests}
use Rattle.schedule_play.proofs.WorldLemmas.{each-set, same_read, default-free, numbers-apart, host-other, host-here, bay-other, bay-here, told-next}
use Rattle.schedule_play.proofs.TurnLemmas.{turn-facts, read-host, read-bay, pair-none, asked-again}

pair-some : (o : Option Sent) → is_some (sent_pair o) ≡ is_some o
pair-some None = refl
pair-some (Some sent) = refl

length-set-of : {X : Type 0} (xs : List X) (i : ℕ) (x : X) → length (set xs i x) ≡ length xs
length-set-of xs i x = rw length-set refl

map-set : {X Y : Type 0} (f : X → Y) (xs : List X) (i : ℕ) (x d : X) → i < length xs → f x ≡ f (get_or xs i d) → map f (set xs i x) ≡ map f xs
map-set f [] i x d inside same = refl
map-set f (y ∷ xs) zero x d inside same = ap (λ z. z ∷ map f xs) same
map-set f (y ∷ xs) (suc i) x d inside same = ap (λ zs. f y ∷ zs) (map-set f xs i x d (omega arith) same)

module _ {D : Type 0} {g : Ghosts D} where
  -- a world shows one script
  pub one-script : (script other : Script) (history earlier : List Call) (now : World D g) → Shows script history now → Shows other earlier now → script ≡ other
  one-script script other history earlier now s o = sym s.plays ∙ o.plays

  -- a turn tells whether the host has asked
  pub tells-asked : (script : Script) (history : List Call) (now : World D g) (place : ℕ) (host read : Host) (moment : ℕ) (result : Option (BayNo × Ask)) →
      Shows script history now → place < length now.hosts.items → host ≡ get_or now.hosts.items place host → read ≡ get_or now.hosts.items place read →
      ((s : Script) (h : HostNo) (p : Progress) → Stands s h read p → result ≡ sent_pair (asks h p moment)) →
      is_some result ≡ is_some (asks host.no (progress_at script host.no history) moment)
  tells-asked script history now place host read moment result s inside is at next =
      let same : read ≡ host = same_read now.hosts.items place read host inside at is in
      let hs = read-host script history now place read s inside at in
      ap is_some (next script read.no (progress_at script read.no history) hs.stands) ∙ pair-some (asks read.no (progress_at script read.no history) moment)
      ∙ ap (λ (h : Host). is_some (asks h.no (progress_at script h.no history) moment)) same

  -- where the host asks nothing all stays
  pub turned-none : (script : Script) (history : List Call) (now : World D g) (place : ℕ) (host read : Host) (moment : ℕ) (result : Option (BayNo × Ask)) →
      Shows script history now → place < length now.hosts.items → host ≡ get_or now.hosts.items place host → read ≡ get_or now.hosts.items place read →
      ((s : Script) (h : HostNo) (p : Progress) → Stands s h read p → result ≡ sent_pair (asks h p moment)) → result ≡ None → Turned script (turn_of host moment) history now
  turned-none script history now place host read moment result s inside is at next none =
      let same : read ≡ host = same_read now.hosts.items place read host inside at is in
      let hs = read-host script history now place read s inside at in
      let asks_none : asks read.no (progress_at script read.no history) moment ≡ None =
      pair-none (asks read.no (progress_at script read.no history) moment) (sym none ∙ next script read.no (progress_at script read.no history) hs.stands) in
      record {
        later = history;
        leads = subst (λ (h : Host). TurnLeads script (turn_of h moment) history history) same
            (subst (λ (o : Option Sent). LeadsTo o history history) (sym asks_none) refl);
        shows = s;
      }

  -- a bay that is asked tells as before
  pub tells-back : (bays : List (Bay D g)) (i : ℕ) (old new : Bay D g) → i < length bays → old ≡ get_or bays i old → g.tells new.store ≡ g.tells old.store →
      AllTell (set bays i new) → AllTell bays
  tells-back bays i old new inside is tells all k d within = go (eqb_tells k i)
    where
      go : ((eqb k i ≡ true) × (k ≡ i)) ⊎ ((eqb k i ≡ false) × (k ≢ i)) → IsTrue (g.tells (get_or bays k d).store)
      go (inl e) =
          let here : IsTrue (g.tells (get_or (set bays i new) i d).store) = all i d (rw length-set inside) in
          let new_tells : IsTrue (g.tells new.store) = subst (λ (b : Bay D g). IsTrue (g.tells b.store)) (get_or-set_same bays i new d inside) here in
          let old_tells : IsTrue (g.tells old.store) = subst (λ (b : Bool). IsTrue b) tells new_tells in
          let same : old ≡ get_or bays k d = is ∙ default-free bays i old d inside ∙ ap (λ (n : ℕ). get_or bays n d) (sym e.1) in
          subst (λ (b : Bay D g). IsTrue (g.tells b.store)) same old_tells
      go (inr e) =
          let there : IsTrue (g.tells (get_or (set bays i new) k d).store) = all k d (rw length-set within) in
          let apart : k ≢ i = e.1 in
          subst (λ (b : Bay D g). IsTrue (g.tells b.store)) (get_or-set_other bays i k new d apart) there

  pub tells-on : (bays : List (Bay D g)) (i : ℕ) (old new : Bay D g) → i < length bays → old ≡ get_or bays i old → g.tells new.store ≡ g.tells old.store →
      AllTell bays → AllTell (set bays i new)
  tells-on bays i old new inside is tells all =
      each-set (λ k now. IsTrue (g.tells now.store)) (λ k now. IsTrue (g.tells now.store)) bays i new all (λ k d within apart other. other)
      (subst (λ (b : Bool). IsTrue b) (sym tells) (subst (λ (b : Bay D g). IsTrue (g.tells b.store)) (sym is) (all i old inside)))

  -- what a bay does in a turn
  pub record BayTurn (old new : Bay D g) (ask : Ask) (given : Answer) : Type 0 where
    pub told : IsTrue (g.tells old.store) → Handled old.slots (g.content old.store) ask given.reply new.slots (g.content new.store)
    pub tells : g.tells new.store ≡ g.tells old.store
    pub clock : new.clock ≡ next_clock old.clock ask
    pub clocked : given.clock ≡ new.clock
    pub entries : new.journal.items ≡ old.journal.items ++ record { ask = ask; clock = given.clock; reply = given.reply } ∷ []
    pub rows : length new.slots.slots ≡ length old.slots.slots
    pub cap : new.cap ≡ old.cap

  -- the host's request is answered
  pub turned-some : (script : Script) (history : List Call) (now new : World D g) (place moment : ℕ) (host read old_host new_host : Host) (at : BayNo) (ask : Ask) (result : Option (BayNo × Ask)) (given : Answer) (old_bay new_bay : Bay D g) →
      IsPlayable script → all_requests script < 2 ^ 62 → Shows script history now → place < length now.hosts.items → host ≡ get_or now.hosts.items place host → read ≡ get_or now.hosts.items place read →
      old_host ≡ get_or now.hosts.items place old_host →
      ((s : Script) (h : HostNo) (p : Progress) → Stands s h read p → result ≡ sent_pair (asks h p moment)) → result ≡ Some (at, ask) →
      old_bay ≡ get_or now.bays.items at.0 old_bay → BayTurn old_bay new_bay ask given →
      ((sent : Sent) → IsSentBy old_host moment sent → Takes old_host new_host moment given sent) →
      new.script ≡ now.script → new.hosts.items ≡ set now.hosts.items place new_host → new.bays.items ≡ set now.bays.items at.0 new_bay →
      new.turns.items ≡ now.turns.items ++ record { host = ask.host; moment = moment } ∷ [] → vec_capacity new.turns ≡ vec_capacity now.turns →
      Turned script (turn_of host moment) history new
  turned-some script history now new place moment host read old_host new_host at ask result given old_bay new_bay playable few s inside is read_is old_is next some bay_is b takes_it
      script_is hosts_is bays_is turns_is room_is =
      let sent : Sent = record { bay = at; ask = ask } in
      let call : Call = record { bay = at; ask = ask; answer = given } in
      let later : List Call = call ∷ history in
      let f = turn-facts script history now place read moment at ask result playable few s inside read_is next some in
      let read_host : read ≡ host = same_read now.hosts.items place read host inside read_is is in
      let read_old : read ≡ old_host = same_read now.hosts.items place read old_host inside read_is old_is in
      let asked : asks host.no (progress_at script host.no history) moment ≡ Some sent = subst (λ (h : Host). asks h.no (progress_at script h.no history) moment ≡ Some sent) read_host f.asked in
      let asked_old : asks old_host.no (progress_at script old_host.no history) moment ≡ Some sent = subst (λ (h : Host). asks h.no (progress_at script h.no history) moment ≡ Some sent) read_old f.asked in
      let shows_old : HostShows script history old_host = subst (λ (h : Host). HostShows script history h) read_old f.shows_host in
      let asker : ask.host ≡ old_host.no = subst (λ (h : Host). ask.host ≡ h.no) read_old f.facts.asker in
      let t : Takes old_host new_host moment given sent = takes_it sent (sym (sent-is script old_host.no old_host (progress_at script old_host.no history) moment shows_old.stands) ∙ asked_old) in
      let kept : new_host.no ≡ old_host.no = (t.stands script old_host.no (progress_at script old_host.no history) shows_old.stands).counts.number in
      let here : HostShows script later new_host = host-here script history old_host new_host moment given sent kept asker t shows_old in
      let bay_shows : BayShows script history at.0 old_bay = read-bay script history now at.0 old_bay s f.inside bay_is in
      let bay_later : BayShows script later at.0 new_bay = bay-here script history old_bay new_bay sent given b.told b.tells b.clock b.clocked b.entries b.rows b.cap bay_shows in
      let is_asked : IsAsked script history call = record {
        asked = asked-again script history old_host.no moment sent asker f.facts.at asked_old;
        clocked = b.clocked ∙ b.clock ∙ ap (λ (k : ℕ). next_clock k ask) bay_shows.clock;
      } in
      record {
        later = later;
        leads = subst (λ (o : Option Sent). LeadsTo o history later) (sym asked) (given, refl);
        shows = record {
          plays = ap (λ (x : _). x.now) script_is ∙ s.plays;
          asked = (s.asked, is_asked);
          hosts = subst (λ (hs : List Host). EachAt (λ k h. HostShows script later h) hs) (sym hosts_is)
              (each-set (λ k h. HostShows script history h) (λ k h. HostShows script later h) now.hosts.items place new_host s.hosts
              (λ k d within apart other. host-other script history call (get_or now.hosts.items k d)
              (λ (e : (get_or now.hosts.items k d).no.0 ≡ ask.host.0). numbers-apart script now.hosts.items place k d old_host playable.ranges.hosts s.numbers inside within apart (e ∙ ap (λ (n : HostNo). n.0) (asker ∙ ap (λ (h : Host). h.no) old_is))) other)
              here);
          numbers = ap (map (λ (h : Host). h.no)) hosts_is ∙ map-set (λ (h : Host). h.no) now.hosts.items place new_host old_host inside (kept ∙ ap (λ (h : Host). h.no) old_is) ∙ s.numbers;
          bays = subst (λ (bs : List (Bay D g)). EachAt (BayShows script later) bs) (sym bays_is)
              (each-set (BayShows script history) (BayShows script later) now.bays.items at.0 new_bay s.bays
              (λ k d within apart other. bay-other script history call k (get_or now.bays.items k d) apart other) bay_later);
          bay_count = ap length bays_is ∙ length-set-of now.bays.items at.0 new_bay ∙ s.bay_count;
          turns = turns_is ∙ ap (λ (ts : List Turn). ts ++ record { host = ask.host; moment = moment } ∷ []) s.turns ∙ ap (λ (m : ℕ). turns_of history ++ record { host = ask.host; moment = m } ∷ []) (sym f.facts.at);
          turn_room = omega (arith, s.turn_room, room_is);
          told = λ all.
              let before = tells-back now.bays.items at.0 old_bay new_bay f.inside bay_is b.tells (subst (λ (bs : List (Bay D g)). AllTell bs) bays_is all) in
              let tells : IsTrue (g.tells old_bay.store) = subst (λ (x : Bay D g). IsTrue (g.tells x.store)) (sym bay_is) (before at.0 old_bay f.inside) in
              (s.told before, told-next script history old_bay sent given new_bay is_asked (b.told tells) tells bay_shows);
        };
      }
