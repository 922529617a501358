-- The step with which a turn begins keeps the rule.
use Rattle.std.proofs.Common.{◌≡◌, ◌≢◌, ℕ, suc, ◌+◌, ◌-◌, ◌<◌, ◌≤◌, eqb, List, [], ◌∷◌, ◌++◌, length, set, refl, sym, ap, ◌∙◌, subst, ⊎_elim, inl, inr, arith, Option, Some, get_or-set_other, get_or-set_same, length-set, eq-eqb, ne_eqb}
use Rattle.std.specs.Prelude.{slice_index}
use Rattle.std.proofs.lemmas.List.Elements.{All-push}
use mathlib.Core.Option.{none, some, some-injective, some-ne-none}
use mathlib.Core.Option as maybe
use mathlib.Core.Logic.{dite}
use native.Mathlib.Decide.{ℕ_discrete}
use lib.ListN.{get_elem?}
use lib.Seq.{set-get_or}
use prog.Atomic.{either}
use Rattle.atomic_table.specs.Table.{State, Me, step, Act, keeps, takes, stepped, carried_after, Valid, Allows}
use Rattle.atomic_table.proofs.Lists.{set_here, set_else}
use Rattle.raid_base.specs.declared.messages.Entry.{Entry}
use Rattle.rack_turns.specs.declared.view.Held.{Held}
use Rattle.rack_turns.specs.declared.view.Role.{Role}
use Rattle.rack_turns.specs.declared.view.Shadow.{Shadow}
use Rattle.rack_turns.specs.declared.view.View.{View}
use Rattle.rack_turns.specs.Views.{total, held, share_of, share_by, cap_of, greatest_clock, meeting, with_meeting}
use Rattle.rack_turns.specs.Ruling.{AtHome, IsOut, GuestKnows, WasThere, Racked}
use Rattle.rack_turns.specs.Plays.{began}
use Rattle.rack_turns.specs.Passes.{IsReady}
use Rattle.rack_turns.proofs.Counts.{total-at, there, inside, lengths-below}
use Rattle.rack_turns.proofs.Entries.{same-bay, same-journal}
use Rattle.rack_turns.proofs.Views.{guest-at, one-guest, not-out-with, still-met, moved}

module _ {S : Type 0} (now : S → Shadow) (openings : List Shadow) where
  abbrev Rule : State S View → Type 0
  Rule = Racked now openings

  abbrev After : State S View → ℕ → ℕ → Me S View → ℕ → ℕ → Type 0
  After s slots id me k new =
      (w : View) × (a : Act S) × Valid s.homes me.1 a × Rule (stepped s k (either (eqb (slice_index s.words k) 0) new (slice_index s.words k)) id me.1 w a)
      × began now (step slots k 0 new none) me (slice_index s.words k) (w, carried_after me.1 a)

  -- the journals have together at most as many entries as the sum of the caps
  pub clocks-below : (s : State S View) (r : Rule s) → total length r.journals ≤ total cap_of openings
  clocks-below s r = lengths-below r.journals openings r.many (λ i x o at-x at-o. let room : length x + total (share_of i) s.views ≤ o.cap = r.each_room i x at-x o at-o in omega (arith, room))

  taken : (s : State S View) (r : Rule s) (slots id k host : ℕ) (me : Me S View) (journal : List Entry) → get_elem? s.views id ≡ some me.0 → IsReady host me.0 → get_elem? r.journals k ≡ some journal
      → slice_index s.words k ≡ 0 → AtHome now openings s.words s.homes k journal → After s slots id me k (host + 1)
  taken s r slots id k host me journal at ready here free home =
      let v : View = me.0 in
      let turn : Option Held = Some (held k (now home.value).journal) in
      let w : View = record v { turn = turn } in
      let known : GuestKnows openings s.words r.journals r.lists r.seats id v = guest-at now openings s r id v at ready.guest in
      let wide : k < length s.words = (let a : k < length r.journals = inside r.journals k journal here in let b : length s.words ≡ length openings = r.wide in let c : length r.journals ≡ length openings = r.many in omega (arith, a, b, c)) in
      let words' : List ℕ = set s.words k (host + 1) in
      let homes' : List (maybe.Option S) = set s.homes k none in
      let now-word : slice_index words' k ≡ host + 1 = get_or-set_same s.words k (host + 1) 0 wide in
      let mine : host + 1 ≡ suc v.standing.host.0 = (let e : v.standing.host.0 ≡ host = ready.host_is in omega (arith, e)) in
      let kept : (bay h : ℕ) → slice_index s.words bay ≡ suc h → slice_index words' bay ≡ suc h =
      (λ bay h has. dite (ℕ_discrete bay k)
      (λ (same : bay ≡ k). absurd (let z : slice_index s.words bay ≡ 0 = ap (λ (n : ℕ). slice_index s.words n) same ∙ free in omega (arith, z, has)))
      (λ (other : bay ≢ k). get_or-set_other s.words k bay (host + 1) 0 other ∙ has)) in
      let room : (o : Shadow) → get_elem? openings k ≡ some o → length journal + slice_index v.standing.left k ≤ o.cap =
      (λ o at-o.
      let all : length journal + total (share_of k) s.views ≤ o.cap = r.each_room k journal here o at-o in
      let own : share_of k v ≤ total (share_of k) s.views = total-at (share_of k) s.views id v at in
      let left : share_of k v ≡ slice_index v.standing.left k = ap (λ (x : Role). share_by x v.standing k) ready.guest in
      omega (arith, all, own, left)) in (
        w,
        takes k home.value,
        home.home,
        subst (λ b. Rule (stepped s k (either b (host + 1) (slice_index s.words k)) id me.1 w (takes k home.value))) (sym (eq-eqb (slice_index s.words k) 0 free))
            (moved now openings s r id v turn v.meetings words' homes' at ready.guest (length-set s.words k (host + 1)) (length-set s.homes k none)
            (λ bay j there-j. dite (ℕ_discrete bay k)
            (λ (same : bay ≡ k).
            let is : journal ≡ j = some-injective journal j (sym here ∙ (ap (λ (n : ℕ). get_elem? r.journals n) (sym same) ∙ there-j)) in
            inr record {
              seat = id;
              view = w;
              at = set_here s.views id w (inside s.views id v at);
              guest = ready.guest;
              turn = (λ i. Some (held (sym same i) ((home.keeps ∙ is) i)));
              taken = ap (λ (n : ℕ). slice_index words' n) same ∙ (now-word ∙ mine);
            })
            (λ (other : bay ≢ k). ⊎_elim
            (λ (h : AtHome now openings s.words s.homes bay j). inl record {
              free = get_or-set_other s.words k bay (host + 1) 0 other ∙ h.free;
              value = h.value;
              home = set_else s.homes k bay none other ∙ h.home;
              later = h.later;
              keeps = h.keeps;
            })
            (λ (o : IsOut s.words s.views bay j). inr record {
              seat = o.seat;
              view = o.view;
              at = set_else s.views id o.seat w (not-out-with now openings s r id bay v j at ready.no_turn o) ∙ o.at;
              guest = o.guest;
              turn = o.turn;
              taken = get_or-set_other s.words k bay (host + 1) 0 other ∙ o.taken;
            })
            (r.each_bay bay j there-j)))
            (λ bay j has.
            let is-bay : k ≡ bay = same-bay (held k (now home.value).journal) (held bay j) has in
            let is-journal : (now home.value).journal ≡ j = same-journal (held k (now home.value).journal) (held bay j) has in (
              ap (λ (n : ℕ). slice_index words' n) (sym is-bay) ∙ (now-word ∙ mine),
              ap (λ (n : ℕ). get_elem? r.journals n) (sym is-bay) ∙ (here ∙ ap (λ (l : List Entry). some l) (sym home.keeps ∙ is-journal)),
            ))
            kept
            (still-met now openings s r words' v.meetings kept (r.each_meeting id v at))),
        (
          (λ _. record {
            value = home.value;
            hand = refl;
            view = refl;
            later = λ o at-o. home.later o (ap (λ (l : List Shadow). get_elem? l k) (sym known.opened) ∙ at-o);
            room = λ o at-o.
                let here-o : get_elem? openings k ≡ some o = ap (λ (l : List Shadow). get_elem? l k) (sym known.opened) ∙ at-o in
                let fits : length journal + slice_index v.standing.left k ≤ o.cap = room o here-o in
                let same : length (now home.value).journal ≡ length journal = ap (λ (l : List Entry). length l) home.keeps in
                omega (arith, fits, same);
            clock =
                let low : greatest_clock v.asked ≤ total length r.journals = known.clock in
                let high : total length r.journals ≤ total cap_of openings = clocks-below s r in
                let same : total cap_of v.openings ≡ total cap_of openings = ap (λ (l : List Shadow). total cap_of l) known.opened in
                omega (arith, low, high, same);
          }),
          (λ not. absurd (not free)),
        ),
      )

  met : (s : State S View) (r : Rule s) (slots id k host : ℕ) (me : Me S View) (journal : List Entry) → get_elem? s.views id ≡ some me.0 → IsReady host me.0 → get_elem? r.journals k ≡ some journal
      → slice_index s.words k ≢ 0 → IsOut s.words s.views k journal → After s slots id me k (host + 1)
  met s r slots id k host me journal at ready here busy out =
      let v : View = me.0 in
      let word : ℕ = slice_index s.words k in
      let w : View = with_meeting k (word - 1) v in
      let known : GuestKnows openings s.words r.journals r.lists r.seats id v = guest-at now openings s r id v at ready.guest in
      let theirs : GuestKnows openings s.words r.journals r.lists r.seats out.seat out.view = guest-at now openings s r out.seat out.view out.at out.guest in (
        w,
        keeps,
        tt,
        subst (λ b. Rule (stepped s k (either b (host + 1) word) id me.1 w keeps)) (sym (ne_eqb word 0 busy))
            (subst (λ (ws : List ℕ). Rule record { words = ws; homes = s.homes; views = set s.views id w }) (sym (set-get_or s.words k 0))
            (moved now openings s r id v v.turn (v.meetings ++ meeting k (word - 1) ∷ []) s.words s.homes at ready.guest refl refl
            (λ bay j there-j. ⊎_elim
            (λ (h : AtHome now openings s.words s.homes bay j). inl h)
            (λ (o : IsOut s.words s.views bay j). inr record {
              seat = o.seat;
              view = o.view;
              at = set_else s.views id o.seat w (not-out-with now openings s r id bay v j at ready.no_turn o) ∙ o.at;
              guest = o.guest;
              turn = o.turn;
              taken = o.taken;
            })
            (r.each_bay bay j there-j))
            known.turn
            (λ bay h has. has)
            (All-push (WasThere s.words r.lists) v.meetings (meeting k (word - 1)) (r.each_meeting id v at) (inl (let a : word ≡ suc out.view.standing.host.0 = out.taken in omega (arith, a)))))),
        (
          (λ free. absurd (busy free)),
          (λ _. record {
            hand = refl;
            view = refl;
            host = (let a : slice_index s.words k ≡ suc out.view.standing.host.0 = out.taken in let b : out.view.standing.host.0 < 16 = theirs.host in omega (arith, a, b));
            other = λ same. not-out-with now openings s r id k v journal at ready.no_turn out
                (one-guest now openings s r out.seat id out.view v out.at out.guest at ready.guest (let a : slice_index s.words k ≡ suc out.view.standing.host.0 = out.taken in let b : slice_index s.words k ≡ suc v.standing.host.0 = same in omega (arith, a, b)));
          }),
        ),
      )

  -- whatever the table is, the turn begins where the word is 0, and another host is met where it isn't
  pub begins : (slots id : ℕ) (me : Me S View) (k host : ℕ) → IsReady host me.0 → k < slots → Allows Rule slots id me k (λ x. either (eqb x 0) (host + 1) x) (began now (step slots k 0 (host + 1) none) me)
  begins slots id me k host ready near s r deep at fits =
      let inside-j : k < length r.journals = (let a : length s.homes ≡ length openings = r.deep in let b : length r.journals ≡ length openings = r.many in omega (arith, a, b, deep, near)) in
      let j = there r.journals k inside-j in
      dite (ℕ_discrete (slice_index s.words k) 0)
      (λ free. ⊎_elim (λ (h : AtHome now openings s.words s.homes k j.0). taken s r slots id k host me j.0 at ready j.1 free h)
      (λ (o : IsOut s.words s.views k j.0). absurd (let a : slice_index s.words k ≡ suc o.view.standing.host.0 = o.taken in omega (arith, a, free)))
      (r.each_bay k j.0 j.1))
      (λ busy. ⊎_elim (λ (h : AtHome now openings s.words s.homes k j.0). absurd (busy h.free))
      (λ (o : IsOut s.words s.views k j.0). met s r slots id k host me j.0 at ready j.1 busy o)
      (r.each_bay k j.0 j.1))
