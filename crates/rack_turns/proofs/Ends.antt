-- The step with which a turn ends keeps the rule.
use Rattle.std.proofs.Common.{◌≡◌, ◌≢◌, ◌⊎◌, ℕ, zero, suc, ◌+◌, ◌-◌, ◌<◌, ◌≤◌, max, List, [], ◌∷◌, ◌++◌, length, get_or, set, refl, sym, ap, ◌∙◌, subst, ⊎_elim, inl, inr, arith, Some, None, get_or-set_other, get_or-set_same, length-set, length-append}
use Rattle.std.specs.Prelude.{All, slice_index}
use Rattle.std.proofs.lemmas.List.Elements.{All-weaker}
use mathlib.Core.Option.{none, some, some-injective}
use mathlib.Core.Option as maybe
use mathlib.Core.Logic.{dite}
use native.Mathlib.Decide.{ℕ_discrete}
use lib.ListN.{get_elem?}
use Rattle.atomic_table.specs.Table.{State, Me, step, gives, stepped, Allows, rest}
use Rattle.atomic_table.proofs.Lists.{at_set, set_here, set_else}
use Rattle.raid_base.specs.declared.messages.Call.{Call}
use Rattle.raid_base.specs.declared.messages.Entry.{Entry}
use Rattle.rack_turns.specs.declared.view.Meeting.{Meeting}
use Rattle.rack_turns.specs.declared.view.Role.{Role}
use Rattle.rack_turns.specs.declared.view.Shadow.{Shadow}
use Rattle.rack_turns.specs.declared.view.Standing.{Standing}
use Rattle.rack_turns.specs.declared.view.View.{View}
use Rattle.rack_turns.specs.Views.{total, held, share_of, share_by, out_of, cap_of, entries_of, calls_at, call_of, greatest_clock, last_clock, with_call}
use Rattle.rack_turns.specs.Shadows.{IsLater}
use Rattle.rack_turns.specs.Ruling.{AtHome, IsOut, GuestKnows, FirstKnows, KnowsBy, WasThere, Racked}
use Rattle.rack_turns.specs.Plays.{HasEnded, ended}
use Rattle.rack_turns.specs.Passes.{MayEnd}
use Rattle.rack_turns.proofs.Counts.{total-set, total-same, inside, put, put-here, put-else}
use Rattle.rack_turns.proofs.Entries.{entries-own, entries-other, calls-own, calls-other, clock-snoc, greatest-snoc, same-last, same-bay}
use Rattle.rack_turns.proofs.Views.{knows-moves, guest-at, one-guest}
use Rattle.rack_turns.proofs.Begins.{clocks-below}

-- where a number above 0 stands is inside of the list
within : (l : List ℕ) (k : ℕ) → 0 < get_or l k 0 → k < length l
within [] k some-left = absurd (omega arith)
within (x ∷ l) zero some-left = omega arith
within (x ∷ l) (suc k) some-left = let inner : k < length l = within l k some-left in omega (arith, inner)

module _ {S : Type 0} (now : S → Shadow) (openings : List Shadow) (s : State S View) (r : Racked now openings s) (id k : ℕ) (me : Me S View) (may : MayEnd now k me) (at : get_elem? s.views id ≡ some me.0) where
  abbrev v : View
  v = me.0

  abbrev host : ℕ
  host = me.0.standing.host.0

  abbrev entry : Entry
  entry = may.entry

  abbrev journal' : List Entry
  journal' = may.journal ++ may.entry ∷ []

  abbrev journals' : List (List Entry)
  journals' = set r.journals k journal'

  abbrev calls' : List Call
  calls' = me.0.asked ++ call_of k may.entry ∷ []

  abbrev lists' : ℕ → List Call
  lists' = put r.lists host calls'

  abbrev words' : List ℕ
  words' = set s.words k 0

  abbrev homes' : List (maybe.Option S)
  homes' = set s.homes k (some may.value)

  abbrev w : View
  w = with_call k may.entry me.0

  abbrev views' : List View
  views' = set s.views id w

  known : GuestKnows openings s.words r.journals r.lists r.seats id v
  known = guest-at now openings s r id v at may.guest

  mine : (slice_index s.words k ≡ suc host) × (get_elem? r.journals k ≡ some may.journal)
  mine = known.turn k may.journal may.turn

  inside-journals : k < length r.journals
  inside-journals = inside r.journals k may.journal mine.1

  inside-words : k < length s.words
  inside-words = let a : k < length r.journals = inside-journals in let b : length s.words ≡ length openings = r.wide in let c : length r.journals ≡ length openings = r.many in omega (arith, a, b, c)

  inside-homes : k < length s.homes
  inside-homes = let a : k < length r.journals = inside-journals in let b : length s.homes ≡ length openings = r.deep in let c : length r.journals ≡ length openings = r.many in omega (arith, a, b, c)

  one-longer : length journal' ≡ length may.journal + 1
  one-longer = length-append may.journal (may.entry ∷ [])

  -- there is one entry more
  one-more : total length journals' ≡ total length r.journals + 1
  one-more = let a : total length journals' + length may.journal ≡ total length r.journals + length journal' = total-set (λ (l : List Entry). length l) r.journals k may.journal journal' mine.1 in let b : length journal' ≡ length may.journal + 1 = one-longer in omega (arith, a, b)

  same-opening : (o : Shadow) → get_elem? openings k ≡ some o → may.opening ≡ o
  same-opening o at-o = some-injective may.opening o (sym may.opening_is ∙ (ap (λ (l : List Shadow). get_elem? l k) known.opened ∙ at-o))

  other-seat : (bay : ℕ) (journal : List Entry) (o : IsOut s.words s.views bay journal) → bay ≢ k → o.seat ≢ id
  other-seat bay journal o apart same =
      let is : v ≡ o.view = some-injective v o.view (sym at ∙ (ap (λ (n : ℕ). get_elem? s.views n) (sym same) ∙ o.at)) in
      apart (same-bay (held bay journal) (held k may.journal) (sym o.turn ∙ (ap (λ (x : View). x.turn) (sym is) ∙ may.turn)))

  bay-at-k : AtHome now openings words' homes' k journal'
  bay-at-k = record {
    free = get_or-set_same s.words k 0 0 inside-words;
    value = may.value;
    home = set_here s.homes k (some may.value) inside-homes;
    later = λ o at-o. subst (λ (x : Shadow). IsLater x (now may.value)) (same-opening o at-o) may.later;
    keeps = may.gained;
  }

  bay-else : (bay : ℕ) (journal : List Entry) → bay ≢ k → AtHome now openings s.words s.homes bay journal ⊎ IsOut s.words s.views bay journal → AtHome now openings words' homes' bay journal ⊎ IsOut words' views' bay journal
  bay-else bay journal apart stands = ⊎_elim
      (λ (h : AtHome now openings s.words s.homes bay journal). inl record {
        free = get_or-set_other s.words k bay 0 0 apart ∙ h.free;
        value = h.value;
        home = set_else s.homes k bay (some may.value) apart ∙ h.home;
        later = h.later;
        keeps = h.keeps;
      })
      (λ (o : IsOut s.words s.views bay journal). inr record {
        seat = o.seat;
        view = o.view;
        at = set_else s.views id o.seat w (other-seat bay journal o apart) ∙ o.at;
        guest = o.guest;
        turn = o.turn;
        taken = get_or-set_other s.words k bay 0 0 apart ∙ o.taken;
      })
      stands

  list-at-k : (h : ℕ) → entries_of h journal' ≡ calls_at k (lists' h)
  list-at-k h = dite (ℕ_discrete h host)
      (λ (same : h ≡ host). subst (λ (x : ℕ). entries_of x journal' ≡ calls_at k (lists' x)) (sym same)
      (entries-own host may.journal may.entry may.host
      ∙ (ap (λ (l : List Entry). l ++ may.entry ∷ []) (r.each_list k may.journal mine.1 host ∙ ap (λ (l : List Call). calls_at k l) known.asked)
      ∙ (sym (calls-own k me.0.asked may.entry) ∙ ap (λ (l : List Call). calls_at k l) (sym (put-here r.lists host calls'))))))
      (λ (other : h ≢ host). entries-other h may.journal may.entry (λ e. other (sym e ∙ may.host))
      ∙ (r.each_list k may.journal mine.1 h ∙ ap (λ (l : List Call). calls_at k l) (sym (put-else r.lists host calls' h other))))

  list-else : (bay : ℕ) (journal : List Entry) → bay ≢ k → get_elem? r.journals bay ≡ some journal → (h : ℕ) → entries_of h journal ≡ calls_at bay (lists' h)
  list-else bay journal apart there-j h = dite (ℕ_discrete h host)
      (λ (same : h ≡ host). subst (λ (x : ℕ). entries_of x journal ≡ calls_at bay (lists' x)) (sym same)
      (r.each_list bay journal there-j host
      ∙ (ap (λ (l : List Call). calls_at bay l) known.asked
      ∙ (sym (calls-other k bay me.0.asked may.entry (λ e. apart (sym e))) ∙ ap (λ (l : List Call). calls_at bay l) (sym (put-here r.lists host calls'))))))
      (λ (other : h ≢ host). r.each_list bay journal there-j h ∙ ap (λ (l : List Call). calls_at bay l) (sym (put-else r.lists host calls' h other)))

  share-v : (bay : ℕ) → share_of bay v ≡ slice_index me.0.standing.left bay
  share-v bay = ap (λ (x : Role). share_by x me.0.standing bay) may.guest

  share-w : (bay : ℕ) → share_of bay w ≡ slice_index (set me.0.standing.left k (slice_index me.0.standing.left k - 1)) bay
  share-w bay = let st : Standing = record me.0.standing { left = set me.0.standing.left k (slice_index me.0.standing.left k - 1) } in ap (λ (x : Role). share_by x st bay) may.guest

  room-at-k : (o : Shadow) → get_elem? openings k ≡ some o → length journal' + total (share_of k) views' ≤ o.cap
  room-at-k o at-o =
      let before : length may.journal + total (share_of k) s.views ≤ o.cap = r.each_room k may.journal mine.1 o at-o in
      let moves : total (share_of k) views' + share_of k v ≡ total (share_of k) s.views + share_of k w = total-set (share_of k) s.views id v w at in
      let a : share_of k v ≡ slice_index me.0.standing.left k = share-v k in
      let b : share_of k w ≡ slice_index me.0.standing.left k - 1 = share-w k ∙ get_or-set_same me.0.standing.left k (slice_index me.0.standing.left k - 1) 0 (within me.0.standing.left k may.left) in
      let some-left : 0 < slice_index me.0.standing.left k = may.left in
      let longer : length journal' ≡ length may.journal + 1 = one-longer in
      omega (arith, before, moves, a, b, some-left, longer)

  room-else : (bay : ℕ) (journal : List Entry) (o : Shadow) → bay ≢ k → get_elem? r.journals bay ≡ some journal → get_elem? openings bay ≡ some o → length journal + total (share_of bay) views' ≤ o.cap
  room-else bay journal o apart there-j at-o =
      let before : length journal + total (share_of bay) s.views ≤ o.cap = r.each_room bay journal there-j o at-o in
      let same : share_of bay w ≡ share_of bay v = share-w bay ∙ (get_or-set_other me.0.standing.left k bay (slice_index me.0.standing.left k - 1) 0 apart ∙ sym (share-v bay)) in
      let moves : total (share_of bay) views' ≡ total (share_of bay) s.views = total-same (share_of bay) s.views id v w at same in
      omega (arith, before, moves)

  clock-low : may.entry.clock ≤ total length journals'
  clock-low =
      let a : last_clock may.journal ≤ total length r.journals = r.each_clock k may.journal mine.1 in
      let b : greatest_clock me.0.asked ≤ total length r.journals = known.clock in
      let c : may.entry.clock ≤ suc (max (last_clock may.journal) (greatest_clock me.0.asked)) = may.clock in
      let d : total length journals' ≡ total length r.journals + 1 = one-more in
      omega (arith, a, b, c, d)

  mine-knows : GuestKnows openings words' journals' lists' r.seats id w
  mine-knows = record {
    host = known.host;
    opened = known.opened;
    seated = known.seated;
    asked = put-here r.lists host calls';
    clock =
        let a : greatest_clock calls' ≡ max (greatest_clock me.0.asked) may.entry.clock = greatest-snoc me.0.asked (call_of k may.entry) in
        let b : greatest_clock me.0.asked ≤ total length r.journals = known.clock in
        let c : may.entry.clock ≤ total length journals' = clock-low in
        let d : total length journals' ≡ total length r.journals + 1 = one-more in
        omega (arith, a, b, c, d);
    turn = λ bay journal has. absurd (let bad : None ≡ Some (held bay journal) = has in cc);
  }

  other-knows : (seat : ℕ) (u : View) → seat ≢ id → get_elem? s.views seat ≡ some u → KnowsBy u.role openings words' journals' views' lists' r.seats seat u
  other-knows seat u apart there-u = knows-moves u.role openings s.words words' r.journals journals' s.views views' r.lists lists' r.seats r.seats seat u
      (λ (f : FirstKnows openings s.views r.lists r.seats seat u). record {
        seat_is = f.seat_is;
        opened = f.opened;
        no_turn = f.no_turn;
        out = f.out ∙ sym (total-same out_of s.views id v w at refl);
        many = f.many;
        back = λ h none-there. put-else r.lists host calls' h (λ e. let bad : None ≡ Some id = sym none-there ∙ (ap r.seats e ∙ known.seated) in absurd (cc)) ∙ f.back h none-there;
        new = f.new;
      })
      (λ is-guest (g : GuestKnows openings s.words r.journals r.lists r.seats seat u).
      let differ : u.standing.host.0 ≢ host = (λ e. apart (one-guest now openings s r seat id u v there-u is-guest at may.guest e)) in
      let off : (bay : ℕ) → slice_index s.words bay ≡ suc u.standing.host.0 → bay ≢ k = (λ bay word e. differ (let a : slice_index s.words bay ≡ suc host = ap (λ (n : ℕ). slice_index s.words n) e ∙ mine.0 in omega (arith, a, word))) in
      record {
        host = g.host;
        opened = g.opened;
        seated = g.seated;
        asked = put-else r.lists host calls' u.standing.host.0 differ ∙ g.asked;
        clock = (let a : greatest_clock u.asked ≤ total length r.journals = g.clock in let d : total length journals' ≡ total length r.journals + 1 = one-more in omega (arith, a, d));
        turn = λ bay journal has. let t = g.turn bay journal has in
            (get_or-set_other s.words k bay 0 0 (off bay t.0) ∙ t.0, set_else r.journals k bay journal' (off bay t.0) ∙ t.1);
      })
      (r.each_view seat u there-u)

  one-call : 1 ≤ length (calls_at k (lists' host))
  one-call =
      let a : calls_at k (lists' host) ≡ calls_at k me.0.asked ++ may.entry ∷ [] = ap (λ (l : List Call). calls_at k l) (put-here r.lists host calls') ∙ calls-own k me.0.asked may.entry in
      let b : length (calls_at k (lists' host)) ≡ length (calls_at k me.0.asked) + 1 = ap (λ (l : List Entry). length l) a ∙ length-append (calls_at k me.0.asked) (may.entry ∷ []) in
      omega (arith, b)

  -- no calls are lost
  grows : (bay : ℕ) → length (calls_at bay (r.lists host)) ≤ length (calls_at bay (lists' host))
  grows bay =
      let was : length (calls_at bay (r.lists host)) ≡ length (calls_at bay me.0.asked) = ap (λ (l : List Call). length (calls_at bay l)) known.asked in
      let is : length (calls_at bay (lists' host)) ≡ length (calls_at bay calls') = ap (λ (l : List Call). length (calls_at bay l)) (put-here r.lists host calls') in
      dite (ℕ_discrete bay k)
      (λ (same : bay ≡ k).
      let more : length (calls_at k calls') ≡ length (calls_at k me.0.asked) + 1 = ap (λ (l : List Entry). length l) (calls-own k me.0.asked may.entry) ∙ length-append (calls_at k me.0.asked) (may.entry ∷ []) in
      let a : length (calls_at bay calls') ≡ length (calls_at k calls') = ap (λ (n : ℕ). length (calls_at n calls')) same in
      let b : length (calls_at bay me.0.asked) ≡ length (calls_at k me.0.asked) = ap (λ (n : ℕ). length (calls_at n me.0.asked)) same in
      omega (arith, was, is, more, a, b))
      (λ (other : bay ≢ k).
      let a : length (calls_at bay calls') ≡ length (calls_at bay me.0.asked) = ap (λ (l : List Entry). length l) (calls-other k bay me.0.asked may.entry (λ e. other (sym e))) in
      omega (arith, was, is, a))

  -- who was met there in this turn has asked there by now
  met-still : (m : Meeting) → WasThere s.words r.lists m → WasThere words' lists' m
  met-still m = ⊎_elim
      (λ (e : slice_index s.words m.bay.0 ≡ suc m.holder.0). dite (ℕ_discrete m.bay.0 k)
      (λ (same : m.bay.0 ≡ k).
      let a : slice_index s.words m.bay.0 ≡ suc host = ap (λ (n : ℕ). slice_index s.words n) same ∙ mine.0 in
      let is : m.holder.0 ≡ host = (omega (arith, a, e)) in
      inr (subst (λ (z : ℕ × ℕ). 1 ≤ length (calls_at z.0 (lists' z.1))) (λ i. (sym same i, sym is i)) one-call))
      (λ (other : m.bay.0 ≢ k). inl (get_or-set_other s.words k m.bay.0 0 0 other ∙ e)))
      (λ (e : 1 ≤ length (calls_at m.bay.0 (r.lists m.holder.0))). dite (ℕ_discrete m.holder.0 host)
      (λ (same : m.holder.0 ≡ host). inr (
      let a : length (calls_at m.bay.0 (r.lists m.holder.0)) ≡ length (calls_at m.bay.0 (r.lists host)) = ap (λ (n : ℕ). length (calls_at m.bay.0 (r.lists n))) same in
      let b : length (calls_at m.bay.0 (lists' m.holder.0)) ≡ length (calls_at m.bay.0 (lists' host)) = ap (λ (n : ℕ). length (calls_at m.bay.0 (lists' n))) same in
      let more : length (calls_at m.bay.0 (r.lists host)) ≤ length (calls_at m.bay.0 (lists' host)) = grows m.bay.0 in
      omega (arith, e, a, b, more)))
      (λ (other : m.holder.0 ≢ host). inr (subst (λ (l : List Call). 1 ≤ length (calls_at m.bay.0 l)) (sym (put-else r.lists host calls' m.holder.0 other)) e)))

  given-back : Racked now openings (record { words = words'; homes = homes'; views = views' })
  given-back = record {
    journals = journals';
    lists = lists';
    seats = r.seats;
    wide = length-set s.words k 0 ∙ r.wide;
    deep = length-set s.homes k (some may.value) ∙ r.deep;
    many = length-set r.journals k journal' ∙ r.many;
    each_bay = λ bay journal there-j. ⊎_elim
        (λ (t : (bay ≡ k) × (journal' ≡ journal)). inl (subst (λ (z : ℕ × List Entry). AtHome now openings words' homes' z.0 z.1) (λ i. (sym t.0 i, t.1 i)) bay-at-k))
        (λ (t : (bay ≢ k) × (get_elem? r.journals bay ≡ some journal)). bay-else bay journal t.0 (r.each_bay bay journal t.1))
        (at_set r.journals k bay journal' journal there-j);
    each_list = λ bay journal there-j h. ⊎_elim
        (λ (t : (bay ≡ k) × (journal' ≡ journal)). subst (λ (z : ℕ × List Entry). entries_of h z.1 ≡ calls_at z.0 (lists' h)) (λ i. (sym t.0 i, t.1 i)) (list-at-k h))
        (λ (t : (bay ≢ k) × (get_elem? r.journals bay ≡ some journal)). list-else bay journal t.0 t.1 h)
        (at_set r.journals k bay journal' journal there-j);
    each_room = λ bay journal there-j o at-o. ⊎_elim
        (λ (t : (bay ≡ k) × (journal' ≡ journal)). subst (λ (z : ℕ × List Entry). get_elem? openings z.0 ≡ some o → length z.1 + total (share_of z.0) views' ≤ o.cap) (λ i. (sym t.0 i, t.1 i)) (room-at-k o) at-o)
        (λ (t : (bay ≢ k) × (get_elem? r.journals bay ≡ some journal)). room-else bay journal o t.0 t.1 at-o)
        (at_set r.journals k bay journal' journal there-j);
    each_clock = λ bay journal there-j. ⊎_elim
        (λ (t : (bay ≡ k) × (journal' ≡ journal)). subst (λ (x : List Entry). last_clock x ≤ total length journals') t.1
        (let a : last_clock journal' ≡ may.entry.clock = clock-snoc 0 may.journal may.entry in let b : may.entry.clock ≤ total length journals' = clock-low in omega (arith, a, b)))
        (λ (t : (bay ≢ k) × (get_elem? r.journals bay ≡ some journal)).
        let a : last_clock journal ≤ total length r.journals = r.each_clock bay journal t.1 in let d : total length journals' ≡ total length r.journals + 1 = one-more in omega (arith, a, d))
        (at_set r.journals k bay journal' journal there-j);
    each_view = λ seat u there-u. ⊎_elim
        (λ (t : (seat ≡ id) × (w ≡ u)). subst (λ (z : ℕ × View). KnowsBy z.1.role openings words' journals' views' lists' r.seats z.0 z.1) (λ i. (sym t.0 i, t.1 i))
        (subst (λ (x : Role). KnowsBy x openings words' journals' views' lists' r.seats id w) (sym may.guest) mine-knows))
        (λ (t : (seat ≢ id) × (get_elem? s.views seat ≡ some u)). other-knows seat u t.0 t.1)
        (at_set s.views id seat w u there-u);
    each_host = λ h seat has. let t = r.each_host h seat has in dite (ℕ_discrete seat id)
        (λ (same : seat ≡ id).
        let is : v ≡ t.0 = some-injective v t.0 (sym at ∙ (ap (λ (n : ℕ). get_elem? s.views n) (sym same) ∙ t.1)) in
        (w, ap (λ (n : ℕ). get_elem? views' n) same ∙ set_here s.views id w (inside s.views id v at), may.guest, ap (λ (x : View). x.standing.host.0) is ∙ t.3))
        (λ (other : seat ≢ id). (t.0, set_else s.views id seat w other ∙ t.1, t.2, t.3));
    each_meeting = λ seat u there-u. ⊎_elim
        (λ (t : (seat ≡ id) × (w ≡ u)). subst (λ (x : View). All (WasThere words' lists') x.meetings) t.1 (All-weaker (WasThere s.words r.lists) (WasThere words' lists') met-still v.meetings (r.each_meeting id v at)))
        (λ (t : (seat ≢ id) × (get_elem? s.views seat ≡ some u)). All-weaker (WasThere s.words r.lists) (WasThere words' lists') met-still u.meetings (r.each_meeting seat u t.1))
        (at_set s.views id seat w u there-u);
  }

  tells : HasEnded now k me (w, rest me.1)
  unfolding given-back
  tells = record {
    entry = may.entry;
    hand = ap (λ (l : List (ℕ × S)). rest l) may.hand;
    view = refl;
    which = λ value journal e hand gained.
        let is : may.value ≡ value = ap (λ (l : List (ℕ × S)). (get_or l 0 (0, may.value)).1) (sym may.hand ∙ hand) in
        same-last may.journal journal may.entry e (sym may.gained ∙ (ap (λ (x : S). (now x).journal) is ∙ gained));
    clock =
        let a : may.entry.clock ≤ total length journals' = clock-low in
        let b : total length journals' ≤ total cap_of openings = clocks-below now openings (record { words = words'; homes = homes'; views = views' }) given-back in
        let c : total cap_of me.0.openings ≡ total cap_of openings = ap (λ (l : List Shadow). total cap_of l) known.opened in
        omega (arith, a, b, c);
  }

-- whatever the table is, the turn may end, and the entry is the pass's
pub ends : {S : Type 0} (now : S → Shadow) (openings : List Shadow) (slots id : ℕ) (me : Me S View) (k : ℕ) → MayEnd now k me → Allows (Racked now openings) slots id me k (λ _. 0) (λ _. ended now (step slots k 0 0 none) me 0)
ends {S} now openings slots id me k may s r deep at fits = (
  with_call k may.entry me.0,
  gives,
  tt,
  subst (λ (c : List (ℕ × S)). Racked now openings (stepped s k 0 id c (with_call k may.entry me.0) gives)) (sym may.hand) (given-back now openings s r id k me may at),
  tells now openings s r id k me may at,
)
