-- One more call keeps what a world shows of its history.
use Rattle.std.proofs.Common.{◌≡◌, ◌≢◌, ℕ, ◌+◌, ◌<◌, ◌≤◌, zero, suc, Bool, true, false, eqb, List, [], ◌∷◌, ◌++◌, length, get_or, map, refl, sym, ap, subst, ◌∙◌, inl, inr, ◌⊎◌, arith, eq-eqb, get_or-set_other, get_or-set_same, IsTrue}
use Rattle.std.proofs.Math.ListN.{set, length-set}
use Rattle.std.proofs.lemmas.Bool.Decides.{nat_tests, eqb_tells}
use Rattle.std.proofs.lemmas.Bool.{cases_lt}
use Rattle.std.specs.Vec.{vec_capacity}
use Rattle.raid_base.specs.declared.numbers.HostNo.{HostNo}
use Rattle.raid_base.specs.declared.messages.Answer.{Answer}
use Rattle.raid_base.specs.declared.messages.Call.{Call}
use Rattle.raid_base.specs.declared.messages.Entry.{Entry}
use Rattle.raid_base.specs.Replies.{is_fault}
use Rattle.slot_rules.specs.Slots.{Bay as BayState}
use Rattle.slot_rules.specs.Rules.{rule}
use Rattle.slot_rules.specs.Replay.{next_clock}
use Rattle.block_store.specs.declared.store.Store.{Ghosts}
use Rattle.bay_device.specs.declared.bay.Bay.{Bay}
use Rattle.slot_rules.specs.Handling.{Handled}
use Rattle.script_text.specs.Script.{Script, host_numbers}
use Rattle.script_text.specs.Ranges.{Rise}
use Rattle.host_engine.specs.declared.host.Host.{Host}
use Rattle.histories.specs.Progress.{Progress, Sent}
use Rattle.histories.specs.History.{IsNext, progress_at, bay_at, transcript}
use Rattle.histories.specs.Asked.{IsAsked}
use Rattle.histories.specs.Bounds.{host_requests, host_contents}
use Rattle.host_engine.specs.Stands.{Stands, Takes}
use Rattle.schedule_play.specs.World.{EachAt, HostShows, BayShows}

pub each-set : {X : Type 0} (P Q : ℕ → X → Type 0) (xs : List X) (i : ℕ) (x : X) →
    EachAt P xs → ((k : ℕ) (d : X) → k < length xs → k ≢ i → P k (get_or xs k d) → Q k (get_or xs k d)) → Q i x → EachAt Q (set xs i x)
each-set P Q xs i x all other here k d inside = go (eqb_tells k i)
  where
    within : k < length xs
    within = rw length-set at inside

    go : ((eqb k i ≡ true) × (k ≡ i)) ⊎ ((eqb k i ≡ false) × (k ≢ i)) → Q k (get_or (set xs i x) k d)
    go (inl e) =
        let at : i < length xs = omega (arith, within) in
        rw e.1 (rw (get_or-set_same xs i x d at) here)
    go (inr e) =
        let apart : k ≢ i = e.1 in
        rw get_or-set_other (other k d within apart (all k d within))

-- two reads of one element, whatever the defaults
pub same_read : {X : Type 0} (xs : List X) (i : ℕ) (x y : X) → i < length xs → x ≡ get_or xs i x → y ≡ get_or xs i y → x ≡ y
same_read [] i x y h e f = absurd (omega arith)
same_read (z ∷ xs) zero x y h e f = e ∙ sym f
same_read (z ∷ xs) (suc i) x y h e f = same_read xs i x y (omega arith) e f

pub default-free : {X : Type 0} (xs : List X) (i : ℕ) (d e : X) → i < length xs → get_or xs i d ≡ get_or xs i e
default-free [] i d e h = absurd (omega arith)
default-free (x ∷ xs) zero d e h = refl
default-free (x ∷ xs) (suc i) d e h = default-free xs i d e (omega arith)

-- host numbers that rise differ
pub rise-least : (from : ℕ) (hosts : List HostNo) (k : ℕ) (d : HostNo) → Rise from hosts → k < length hosts → from + k ≤ (get_or hosts k d).0
rise-least from [] k d r h = absurd (omega arith)
rise-least from (host ∷ hosts) zero d r h = omega (arith, r.0)
rise-least from (host ∷ hosts) (suc k) d r h = omega (arith, r.0, rise-least (host.0 + 1) hosts k d r.2 (omega arith))

rise-apart : (from : ℕ) (hosts : List HostNo) (i j : ℕ) (d e : HostNo) → Rise from hosts → i < j → j < length hosts → (get_or hosts i d).0 < (get_or hosts j e).0
rise-apart from [] i j d e r l h = absurd (omega arith)
rise-apart from (host ∷ hosts) zero zero d e r l h = absurd (omega arith)
rise-apart from (host ∷ hosts) zero (suc j) d e r l h = omega (arith, rise-least (host.0 + 1) hosts j e r.2 (omega arith))
rise-apart from (host ∷ hosts) (suc i) zero d e r l h = absurd (omega arith)
rise-apart from (host ∷ hosts) (suc i) (suc j) d e r l h = rise-apart (host.0 + 1) hosts i j d e r.2 (omega arith) (omega arith)

no-of : (hosts : List Host) (k : ℕ) (d : Host) → k < length hosts → get_or (map (λ (h : Host). h.no) hosts) k d.no ≡ (get_or hosts k d).no
no-of [] k d h = absurd (omega arith)
no-of (host ∷ hosts) zero d h = refl
no-of (host ∷ hosts) (suc k) d h = no-of hosts k d (omega arith)

length-map-of : {X Y : Type 0} (f : X → Y) (xs : List X) → length (map f xs) ≡ length xs
length-map-of f [] = refl
length-map-of f (x ∷ xs) = ap suc (length-map-of f xs)

pub numbers-apart : (script : Script) (hosts : List Host) (i k : ℕ) (d e : Host) → Rise 0 (host_numbers script) → map (λ (h : Host). h.no) hosts ≡ host_numbers script →
    i < length hosts → k < length hosts → k ≢ i → (get_or hosts k d).no.0 ≢ (get_or hosts i e).no.0
numbers-apart script hosts i k d e rise same hi hk apart eq =
    let len : length (host_numbers script) ≡ length hosts = ap length (sym same) ∙ length-map-of (λ (h : Host). h.no) hosts in
    let kk : (get_or (host_numbers script) k d.no).0 ≡ (get_or hosts k d).no.0 = ap (λ (ns : List HostNo). (get_or ns k d.no).0) (sym same) ∙ ap (λ (n : HostNo). n.0) (no-of hosts k d hk) in
    let ii : (get_or (host_numbers script) i e.no).0 ≡ (get_or hosts i e).no.0 = ap (λ (ns : List HostNo). (get_or ns i e.no).0) (sym same) ∙ ap (λ (n : HostNo). n.0) (no-of hosts i e hi) in
    apart-by (order k i apart)
    (λ l. rise-apart 0 (host_numbers script) k i d.no e.no rise l (omega (arith, len)))
    (λ l. rise-apart 0 (host_numbers script) i k e.no d.no rise l (omega (arith, len))) kk ii eq
  where
    order : (a b : ℕ) → a ≢ b → (a < b) ⊎ (b < a)
    order a b n = go (cases_lt a b)
      where
        go : (a < b) ⊎ (b ≤ a) → (a < b) ⊎ (b < a)
        go (inl l) = inl l
        go (inr l) = inr (omega (arith, n))

    apart-by : (k < i) ⊎ (i < k) → (k < i → (get_or (host_numbers script) k d.no).0 < (get_or (host_numbers script) i e.no).0) →
        (i < k → (get_or (host_numbers script) i e.no).0 < (get_or (host_numbers script) k d.no).0) →
        (get_or (host_numbers script) k d.no).0 ≡ (get_or hosts k d).no.0 → (get_or (host_numbers script) i e.no).0 ≡ (get_or hosts i e).no.0 →
        (get_or hosts k d).no.0 ≡ (get_or hosts i e).no.0 → ⊥
    apart-by (inl l) f g a b c = omega (arith, f l, a, b, c)
    apart-by (inr l) f g a b c = omega (arith, g l, a, b, c)

-- another host
pub host-other : (script : Script) (history : List Call) (call : Call) (host : Host) → host.no.0 ≢ call.ask.host.0 → HostShows script history host → HostShows script (call ∷ history) host
host-other script history call host apart s =
    let e : eqb call.ask.host.0 host.no.0 ≡ false = grind (arith, nat_tests) in
    record {
      stands = subst (λ (p : Progress). Stands script host.no host p) (rw e refl) s.stands;
      calls = s.calls ∙ rw e refl;
      room = s.room;
      reads = s.reads;
    }

-- the host that has asked
pub host-here : (script : Script) (history : List Call) (old new : Host) (moment : ℕ) (given : Answer) (sent : Sent) → new.no ≡ old.no → sent.ask.host ≡ old.no →
    Takes old new moment given sent → HostShows script history old →
    HostShows script (record { bay = sent.bay; ask = sent.ask; answer = given } ∷ history) new
host-here script history old new moment given sent same asker t s =
    let e : eqb sent.ask.host.0 old.no.0 ≡ true = eq-eqb _ _ (ap (λ (n : HostNo). n.0) asker) in
    let call : Call = record { bay = sent.bay; ask = sent.ask; answer = given } in
    let stands : Stands script old.no new (progress_at script old.no (call ∷ history)) =
    subst (λ (p : Progress). Stands script old.no new p) (rw e refl) (t.stands script old.no (progress_at script old.no history) s.stands) in
    record {
      stands = subst (λ (n : HostNo). Stands script n new (progress_at script n (call ∷ history))) (sym same) stands;
      calls = subst (λ (n : HostNo). new.transcript.items ≡ transcript n (call ∷ history)) (sym same)
          (t.call ∙ ap (λ (cs : List Call). cs ++ call ∷ []) s.calls ∙ rw e refl);
      room = subst (λ (n : HostNo). host_requests script n ≤ vec_capacity new.transcript) (sym same) (omega (arith, s.room, t.calls));
      reads = subst (λ (n : HostNo). host_contents script n ≤ vec_capacity new.contents) (sym same) (omega (arith, s.reads, t.reads));
    }

module _ {D : Type 0} {g : Ghosts D} where
  -- another bay
  pub bay-other : (script : Script) (history : List Call) (call : Call) (at : ℕ) (now : Bay D g) → at ≢ call.bay.0 → BayShows script history at now → BayShows script (call ∷ history) at now
  bay-other script history call at now apart s =
      let e : eqb call.bay.0 at ≡ false = grind (arith, nat_tests) in
      record {
        told = λ t. s.told t ∙ rw e refl;
        clock = s.clock ∙ rw e refl;
        entries = s.entries ∙ rw e refl;
        rows = s.rows;
        room = s.room;
      }

  -- the bay that was asked
  pub bay-here : (script : Script) (history : List Call) (old new : Bay D g) (sent : Sent) (given : Answer) →
      (IsTrue (g.tells old.store) → Handled old.slots (g.content old.store) sent.ask given.reply new.slots (g.content new.store)) →
      g.tells new.store ≡ g.tells old.store → new.clock ≡ next_clock old.clock sent.ask → given.clock ≡ new.clock →
      new.journal.items ≡ old.journal.items ++ record { ask = sent.ask; clock = given.clock; reply = given.reply } ∷ [] → length new.slots.slots ≡ length old.slots.slots → new.cap ≡ old.cap →
      BayShows script history sent.bay.0 old → BayShows script (record { bay = sent.bay; ask = sent.ask; answer = given } ∷ history) sent.bay.0 new
  bay-here script history old new sent given told tells clock clocked entries rows cap s =
      let e : eqb sent.bay.0 sent.bay.0 ≡ true = eq-eqb _ _ refl in
      record {
        told = λ t.
            let before : IsTrue (g.tells old.store) = subst (λ (b : Bool). IsTrue b) tells t in
            (told before).bay_is ∙ ap (λ (b : BayState). (rule b sent.ask (is_fault given.reply)).bay) (s.told before) ∙ rw e refl;
        clock = sym clocked ∙ rw e refl;
        entries = entries ∙ ap (λ (es : List Entry). es ++ record { ask = sent.ask; clock = given.clock; reply = given.reply } ∷ []) s.entries ∙ rw e refl;
        rows = rows ∙ s.rows;
        room = omega (arith, s.room, cap);
      }

  -- the call is the next of its history, where its bay tells
  pub told-next : (script : Script) (history : List Call) (old : Bay D g) (sent : Sent) (given : Answer) (new : Bay D g) →
      IsAsked script history (record { bay = sent.bay; ask = sent.ask; answer = given }) →
      Handled old.slots (g.content old.store) sent.ask given.reply new.slots (g.content new.store) → IsTrue (g.tells old.store) → BayShows script history sent.bay.0 old →
      IsNext script history (record { bay = sent.bay; ask = sent.ask; answer = given })
  told-next script history old sent given new asked handled tells s = record {
    asked = asked.asked;
    replied =
        let reply : given.reply ≡ (rule (bay_at script sent.bay history) sent.ask (is_fault given.reply)).reply =
        handled.reply_is ∙ ap (λ (b : BayState). (rule b sent.ask (is_fault given.reply)).reply) (s.told tells) in
        ap (λ (r : _). record { bay = sent.bay; ask = sent.ask; answer = record { clock = given.clock; reply = r } }) reply
        ∙ ap (λ (k : ℕ). record { bay = sent.bay; ask = sent.ask; answer = record { clock = k; reply = (rule (bay_at script sent.bay history) sent.ask (is_fault given.reply)).reply } }) asked.clocked;
  }
