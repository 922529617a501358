-- What is known of each pass, after another pass has changed.
use Rattle.std.proofs.Common.{◌≡◌, ◌≢◌, ◌⊎◌, ℕ, suc, ◌+◌, ◌≤◌, List, length, set, refl, sym, ap, ◌∙◌, subst, ⊎_elim, inl, inr, arith, Option, Some, None}
use Rattle.std.specs.Prelude.{All, slice_index}
use Rattle.std.proofs.lemmas.List.Elements.{All-weaker}
use mathlib.Core.Option.{some, some-injective, some-ne-none}
use mathlib.Core.Option as maybe
use mathlib.Core.Logic.{dite}
use native.Mathlib.Decide.{ℕ_discrete}
use lib.ListN.{get_elem?}
use Rattle.atomic_table.specs.Table.{State}
use Rattle.atomic_table.proofs.Lists.{at_set, set_here, set_else}
use Rattle.raid_base.specs.declared.messages.Call.{Call}
use Rattle.raid_base.specs.declared.messages.Entry.{Entry}
use Rattle.rack_turns.specs.declared.view.Held.{Held}
use Rattle.rack_turns.specs.declared.view.Meeting.{Meeting}
use Rattle.rack_turns.specs.declared.view.Role.{Role}
use Rattle.rack_turns.specs.declared.view.Role.TheVariants.{First, Guest, Gone}
use Rattle.rack_turns.specs.declared.view.Shadow.{Shadow}
use Rattle.rack_turns.specs.declared.view.View.{View}
use Rattle.rack_turns.specs.Views.{total, held, share_of, out_of, calls_at}
use Rattle.rack_turns.specs.Ruling.{AtHome, IsOut, GuestKnows, FirstKnows, KnowsBy, WasThere, Racked}
use Rattle.rack_turns.proofs.Counts.{total-same, inside}
use Rattle.rack_turns.proofs.Entries.{same-seat}

-- by what a pass is: what is known of the first and of a guest is carried over
pub knows-moves : (role : Role) (openings : List Shadow) (words words' : List ℕ) (journals journals' : List (List Entry)) (views views' : List View) (lists lists' : ℕ → List Call) (seats seats' : ℕ → Option ℕ) (seat : ℕ) (u : View)
    → (FirstKnows openings views lists seats seat u → FirstKnows openings views' lists' seats' seat u)
    → (role ≡ Guest → GuestKnows openings words journals lists seats seat u → GuestKnows openings words' journals' lists' seats' seat u)
    → KnowsBy role openings words journals views lists seats seat u → KnowsBy role openings words' journals' views' lists' seats' seat u
knows-moves First openings words words' journals journals' views views' lists lists' seats seats' seat u first guest known = first known
knows-moves Guest openings words words' journals journals' views views' lists lists' seats seats' seat u first guest known = guest refl known
knows-moves Gone openings words words' journals journals' views views' lists lists' seats seats' seat u first guest known = known

module _ {S : Type 0} (now : S → Shadow) (openings : List Shadow) (s : State S View) (r : Racked now openings s) where
  -- what is known of a guest
  pub guest-at : (id : ℕ) (v : View) → get_elem? s.views id ≡ some v → v.role ≡ Guest → GuestKnows openings s.words r.journals r.lists r.seats id v
  guest-at id v at guest = subst (λ (x : Role). KnowsBy x openings s.words r.journals s.views r.lists r.seats id v) guest (r.each_view id v at)

  -- what is known of the first pass
  pub first-at : (id : ℕ) (v : View) → get_elem? s.views id ≡ some v → v.role ≡ First → FirstKnows openings s.views r.lists r.seats id v
  first-at id v at first = subst (λ (x : Role). KnowsBy x openings s.words r.journals s.views r.lists r.seats id v) first (r.each_view id v at)

  -- two guests of one host are one
  pub one-guest : (i j : ℕ) (v w : View) → get_elem? s.views i ≡ some v → v.role ≡ Guest → get_elem? s.views j ≡ some w → w.role ≡ Guest → v.standing.host.0 ≡ w.standing.host.0 → i ≡ j
  one-guest i j v w at guest at' guest' same =
      let a : r.seats v.standing.host.0 ≡ Some i = (guest-at i v at guest).seated in
      let b : r.seats w.standing.host.0 ≡ Some j = (guest-at j w at' guest').seated in
      let c : Some i ≡ Some j = sym a ∙ (ap r.seats same ∙ b) in
      same-seat i j c

  -- a bay that is out is out with another seat than one that has no turn
  pub not-out-with : (id bay : ℕ) (v : View) (journal : List Entry) → get_elem? s.views id ≡ some v → v.turn ≡ None → (out : IsOut s.words s.views bay journal) → out.seat ≢ id
  not-out-with id bay v journal at none out same =
      let here : get_elem? s.views id ≡ some out.view = ap (λ (n : ℕ). get_elem? s.views n) (sym same) ∙ out.at in
      let is : v ≡ out.view = some-injective v out.view (sym at ∙ here) in
      let bad : None ≡ Some (held bay journal) = sym none ∙ (ap (λ (x : View). x.turn) is ∙ out.turn) in
      absurd (let b : Some (held bay journal) ≡ None = sym bad in cc)

  -- who was met stays so where words that name a host still do
  pub still-met : (words' : List ℕ) (meetings : List Meeting) → ((bay host : ℕ) → slice_index s.words bay ≡ suc host → slice_index words' bay ≡ suc host) → All (WasThere s.words r.lists) meetings → All (WasThere words' r.lists) meetings
  still-met words' meetings kept = All-weaker (WasThere s.words r.lists) (WasThere words' r.lists)
      (λ m. ⊎_elim (λ (e : slice_index s.words m.bay.0 ≡ suc m.holder.0). inl (kept m.bay.0 m.holder.0 e)) (λ (e : 1 ≤ length (calls_at m.bay.0 (r.lists m.holder.0))). inr e))
      meetings

  -- a step that leaves all lists: it changes words and homes, and of one guest the meetings and the turn
  pub moved : (id : ℕ) (v : View) (turn : Option Held) (meetings : List Meeting) (words' : List ℕ) (homes' : List (maybe.Option S))
      → get_elem? s.views id ≡ some v → v.role ≡ Guest → length words' ≡ length s.words → length homes' ≡ length s.homes
      → ((bay : ℕ) (journal : List Entry) → get_elem? r.journals bay ≡ some journal → AtHome now openings words' homes' bay journal ⊎ IsOut words' (set s.views id (record v { turn = turn; meetings = meetings })) bay journal)
      → ((bay : ℕ) (journal : List Entry) → turn ≡ Some (held bay journal) → (slice_index words' bay ≡ suc v.standing.host.0) × (get_elem? r.journals bay ≡ some journal))
      → ((bay host : ℕ) → slice_index s.words bay ≡ suc host → slice_index words' bay ≡ suc host)
      → All (WasThere words' r.lists) meetings
      → Racked now openings (record { words = words'; homes = homes'; views = set s.views id (record v { turn = turn; meetings = meetings }) })
  moved id v turn meetings words' homes' at guest wide deep bays mine kept met =
      let w : View = record v { turn = turn; meetings = meetings } in
      let views' : List View = set s.views id w in
      let known : GuestKnows openings s.words r.journals r.lists r.seats id v = guest-at id v at guest in
      record {
        journals = r.journals;
        lists = r.lists;
        seats = r.seats;
        wide = wide ∙ r.wide;
        deep = deep ∙ r.deep;
        many = r.many;
        each_bay = bays;
        each_list = r.each_list;
        each_room = λ bay journal there-j opening there-o.
            let before : length journal + total (share_of bay) s.views ≤ opening.cap = r.each_room bay journal there-j opening there-o in
            let same : total (share_of bay) (set s.views id w) ≡ total (share_of bay) s.views = total-same (share_of bay) s.views id v w at refl in
            omega (arith, before, same);
        each_clock = r.each_clock;
        each_view = λ seat u there-u. ⊎_elim
            (λ (t : (seat ≡ id) × (w ≡ u)). subst (λ (z : ℕ × View). KnowsBy z.1.role openings words' r.journals views' r.lists r.seats z.0 z.1) (λ i. (sym t.0 i, t.1 i))
            (subst (λ (x : Role). KnowsBy x openings words' r.journals views' r.lists r.seats id w) (sym guest)
            record { host = known.host; opened = known.opened; seated = known.seated; asked = known.asked; clock = known.clock; turn = mine }))
            (λ (t : (seat ≢ id) × (get_elem? s.views seat ≡ some u)).
            knows-moves u.role openings s.words words' r.journals r.journals s.views views' r.lists r.lists r.seats r.seats seat u
            (λ f. record { seat_is = f.seat_is; opened = f.opened; no_turn = f.no_turn; out = f.out ∙ sym (total-same out_of s.views id v w at refl); many = f.many; back = f.back; new = f.new })
            (λ is-guest g. record { host = g.host; opened = g.opened; seated = g.seated; asked = g.asked; clock = g.clock; turn = λ bay journal has. (kept bay u.standing.host.0 (g.turn bay journal has).0, (g.turn bay journal has).1) })
            (r.each_view seat u t.1))
            (at_set s.views id seat w u there-u);
        each_host = λ host seat has. let t = r.each_host host seat has in dite (ℕ_discrete seat id)
            (λ same.
            let is : v ≡ t.0 = some-injective v t.0 (sym at ∙ (ap (λ (n : ℕ). get_elem? s.views n) (sym same) ∙ t.1)) in
            (w, ap (λ (n : ℕ). get_elem? views' n) same ∙ set_here s.views id w (inside s.views id v at), guest, ap (λ (x : View). x.standing.host.0) is ∙ t.3))
            (λ other. (t.0, set_else s.views id seat w other ∙ t.1, t.2, t.3));
        each_meeting = λ seat u there-u. ⊎_elim
            (λ (t : (seat ≡ id) × (w ≡ u)). subst (λ (x : View). All (WasThere words' r.lists) x.meetings) t.1 met)
            (λ (t : (seat ≢ id) × (get_elem? s.views seat ≡ some u)). still-met words' u.meetings kept (r.each_meeting seat u t.1))
            (at_set s.views id seat w u there-u);
      }
