-- The step with which a pass is taken back keeps the rule.
use Rattle.std.proofs.Common.{◌≡◌, ◌≢◌, ℕ, ◌+◌, ◌-◌, ◌<◌, ◌≤◌, List, [], length, set, refl, sym, ap, ◌∙◌, subst, ⊎_elim, inl, inr, arith, Option, Some, None, get_or-set_other, get_or-set_same, length-set}
use Rattle.std.specs.Prelude.{All, slice_index_or}
use Rattle.std.proofs.lemmas.List.Elements.{All-nil, All-append}
use mathlib.Core.Option.{some, some-injective}
use mathlib.Core.Logic.{dite}
use native.Mathlib.Decide.{ℕ_discrete}
use lib.ListN.{get_elem?}
use Rattle.atomic_table.specs.Table.{State, Joins}
use Rattle.atomic_table.proofs.Lists.{at_set, set_else}
use Rattle.rack_turns.specs.declared.view.Role.{Role}
use Rattle.rack_turns.specs.declared.view.Role.TheVariants.{First, Guest}
use Rattle.rack_turns.specs.declared.view.Shadow.{Shadow}
use Rattle.rack_turns.specs.declared.view.Standing.{Standing}
use Rattle.rack_turns.specs.declared.view.View.{View}
use Rattle.rack_turns.specs.Views.{total, share_of, share_by, out_of, out_by, gone, joined}
use Rattle.rack_turns.specs.Ruling.{AtHome, IsOut, GuestKnows, FirstKnows, KnowsBy, WasThere, Racked}
use Rattle.rack_turns.proofs.Counts.{total-set, total-at, put, put-at, put-else}
use Rattle.rack_turns.proofs.Views.{knows-moves, first-at, guest-at, one-guest, not-out-with}

module _ {S : Type 0} (now : S → Shadow) (openings : List Shadow) (id other : ℕ) (v w : View) (first : v.role ≡ First) (guest : w.role ≡ Guest) (no-turn : w.turn ≡ None) (s : State S View) (r : Racked now openings s) (at : get_elem? s.views id ≡ some v) (apart : other ≢ id) (there : get_elem? (set s.views id (joined v w)) other ≡ some w) where
  abbrev both : View
  both = joined v w

  abbrev host : ℕ
  host = w.standing.host.0

  abbrev views₁ : List View
  views₁ = set s.views id both

  abbrev views' : List View
  views' = set views₁ other gone

  abbrev seats' : ℕ → Option ℕ
  seats' = put r.seats host None

  at-other : get_elem? s.views other ≡ some w
  at-other = sym (set_else s.views id other both apart) ∙ there

  known : FirstKnows openings s.views r.lists r.seats id v
  known = first-at now openings s r id v at first

  theirs : GuestKnows openings s.words r.journals r.lists r.seats other w
  theirs = guest-at now openings s r other w at-other guest

  differ : (seat : ℕ) (u : View) → get_elem? s.views seat ≡ some u → u.role ≡ Guest → seat ≢ id
  differ seat u there-u is-guest same =
      let is : v ≡ u = some-injective v u (sym at ∙ (ap (λ (n : ℕ). get_elem? s.views n) (sym same) ∙ there-u)) in
      let bad : First ≡ Guest = sym first ∙ (ap (λ (x : View). x.role) is ∙ is-guest) in
      absurd (cc)

  stays : (seat : ℕ) (u : View) → get_elem? s.views seat ≡ some u → seat ≢ id → seat ≢ other → get_elem? views' seat ≡ some u
  stays seat u there-u not-id not-other = set_else views₁ other seat gone not-other ∙ (set_else s.views id seat both not-id ∙ there-u)

  totals : (f : View → ℕ) → (total f views' + f w ≡ total f views₁ + f gone) × (total f views₁ + f v ≡ total f s.views + f both)
  totals f = (total-set f views₁ other w gone there, total-set f s.views id v both at)

  -- some pass is out
  out-some : 0 < v.standing.out
  out-some =
      let a : v.standing.out ≡ total out_of s.views = known.out in
      let b : out_of w ≤ total out_of s.views = total-at out_of s.views other w at-other in
      let d : out_of w ≡ 1 = ap (λ (x : Role). out_by x) guest in
      omega (arith, a, b, d)

  seat-stays : (h : ℕ) → r.seats h ≡ None → seats' h ≡ None
  seat-stays h none = dite (ℕ_discrete h host)
      (λ (same : h ≡ host). put-at r.seats host None h same)
      (λ (not : h ≢ host). put-else r.seats host None h not ∙ none)

  first-knows : FirstKnows openings views' r.lists seats' id both
  first-knows = record {
    seat_is = known.seat_is;
    opened = known.opened;
    no_turn = known.no_turn;
    out =
        let t = totals out_of in
        let a : total out_of views' + out_of w ≡ total out_of views₁ + out_of gone = t.0 in
        let b : total out_of views₁ + out_of v ≡ total out_of s.views + out_of both = t.1 in
        let d : v.standing.out ≡ total out_of s.views = known.out in
        let e : out_of w ≡ 1 = ap (λ (x : Role). out_by x) guest in
        let f : out_of both ≡ out_of v = refl in
        let h : out_of gone ≡ 0 = refl in
        omega (arith, a, b, d, e, f, h);
    many = length-set v.ended host w.asked ∙ known.many;
    back = λ h none-there. dite (ℕ_discrete h host)
        (λ (same : h ≡ host). subst (λ (x : ℕ). r.lists x ≡ slice_index_or (set v.ended host w.asked) x []) (sym same)
        (theirs.asked ∙ sym (get_or-set_same v.ended host w.asked [] (let a : length v.ended ≡ 16 = known.many in let b : host < 16 = theirs.host in omega (arith, a, b)))))
        (λ (not : h ≢ host). known.back h (sym (put-else r.seats host None h not) ∙ none-there) ∙ sym (get_or-set_other v.ended host h w.asked [] not));
    new = λ h free.
        let was = known.new h free in
        let not : h ≢ host = (λ same. absurd (let bad : None ≡ Some other = sym was.0 ∙ (ap r.seats same ∙ theirs.seated) in cc)) in
        (seat-stays h was.0, get_or-set_other v.ended host h w.asked [] not ∙ was.1);
  }

  other-knows : (seat : ℕ) (u : View) → seat ≢ id → seat ≢ other → get_elem? s.views seat ≡ some u → KnowsBy u.role openings s.words r.journals views' r.lists seats' seat u
  other-knows seat u not-id not-other there-u = knows-moves u.role openings s.words s.words r.journals r.journals s.views views' r.lists r.lists r.seats seats' seat u
      (λ (f : FirstKnows openings s.views r.lists r.seats seat u). absurd (not-id (f.seat_is ∙ sym known.seat_is)))
      (λ is-guest (g : GuestKnows openings s.words r.journals r.lists r.seats seat u). record {
        host = g.host;
        opened = g.opened;
        seated = put-else r.seats host None u.standing.host.0 (λ e. not-other (one-guest now openings s r seat other u w there-u is-guest at-other guest e)) ∙ g.seated;
        asked = g.asked;
        clock = g.clock;
        turn = g.turn;
      })
      (r.each_view seat u there-u)

  taken-back : Racked now openings (record { words = s.words; homes = s.homes; views = views' })
  taken-back = record {
    journals = r.journals;
    lists = r.lists;
    seats = seats';
    wide = r.wide;
    deep = r.deep;
    many = r.many;
    each_bay = λ bay journal there-j. ⊎_elim
        (λ (h : AtHome now openings s.words s.homes bay journal). inl h)
        (λ (o : IsOut s.words s.views bay journal). inr record {
          seat = o.seat;
          view = o.view;
          at = stays o.seat o.view o.at (differ o.seat o.view o.at o.guest) (not-out-with now openings s r other bay w journal at-other no-turn o);
          guest = o.guest;
          turn = o.turn;
          taken = o.taken;
        })
        (r.each_bay bay journal there-j);
    each_list = r.each_list;
    each_room = λ bay journal there-j o at-o.
        let before : length journal + total (share_of bay) s.views ≤ o.cap = r.each_room bay journal there-j o at-o in
        let t = totals (share_of bay) in
        let a : total (share_of bay) views' + share_of bay w ≡ total (share_of bay) views₁ + share_of bay gone = t.0 in
        let b : total (share_of bay) views₁ + share_of bay v ≡ total (share_of bay) s.views + share_of bay both = t.1 in
        let d : share_of bay v ≡ v.standing.room = ap (λ (x : Role). share_by x v.standing bay) first in
        let st : Standing = record v.standing { out = v.standing.out - 1 } in
        let e : share_of bay both ≡ v.standing.room = ap (λ (x : Role). share_by x st bay) first in
        let f : share_of bay gone ≡ 0 = refl in
        omega (arith, before, a, b, d, e, f);
    each_clock = r.each_clock;
    each_view = λ seat u there-u. ⊎_elim
        (λ (t : (seat ≡ other) × (gone ≡ u)). subst (λ (z : View). KnowsBy z.role openings s.words r.journals views' r.lists seats' seat z) t.1 refl)
        (λ (t : (seat ≢ other) × (get_elem? views₁ seat ≡ some u)). ⊎_elim
        (λ (q : (seat ≡ id) × (both ≡ u)). subst (λ (z : ℕ × View). KnowsBy z.1.role openings s.words r.journals views' r.lists seats' z.0 z.1) (λ i. (sym q.0 i, q.1 i))
        (subst (λ (x : Role). KnowsBy x openings s.words r.journals views' r.lists seats' id both) (sym first) first-knows))
        (λ (q : (seat ≢ id) × (get_elem? s.views seat ≡ some u)). other-knows seat u q.0 t.0 q.1)
        (at_set s.views id seat both u t.1))
        (at_set views₁ other seat gone u there-u);
    each_host = λ h seat has.
        let not : h ≢ host = (λ same. absurd (let bad : None ≡ Some seat = sym (put-at r.seats host None h same) ∙ has in cc)) in
        let t = r.each_host h seat (sym (put-else r.seats host None h not) ∙ has) in
        let not-other : seat ≢ other = (λ same.
        let is : w ≡ t.0 = some-injective w t.0 (sym at-other ∙ (ap (λ (n : ℕ). get_elem? s.views n) (sym same) ∙ t.1)) in
        not (sym (ap (λ (x : View). x.standing.host.0) is ∙ t.3))) in
        (t.0, stays seat t.0 t.1 (differ seat t.0 t.1 t.2) not-other, t.2, t.3);
    each_meeting = λ seat u there-u. ⊎_elim
        (λ (t : (seat ≡ other) × (gone ≡ u)). subst (λ (x : View). All (WasThere s.words r.lists) x.meetings) t.1 (All-nil (WasThere s.words r.lists)))
        (λ (t : (seat ≢ other) × (get_elem? views₁ seat ≡ some u)). ⊎_elim
        (λ (q : (seat ≡ id) × (both ≡ u)). subst (λ (x : View). All (WasThere s.words r.lists) x.meetings) q.1
        (All-append (WasThere s.words r.lists) v.meetings w.meetings (r.each_meeting id v at) (r.each_meeting other w at-other)))
        (λ (q : (seat ≢ id) × (get_elem? s.views seat ≡ some u)). r.each_meeting seat u q.1)
        (at_set s.views id seat both u t.1))
        (at_set views₁ other seat gone u there-u);
  }

-- a pass may be taken back
pub joins-pass : {S : Type 0} (now : S → Shadow) (openings : List Shadow) (id other : ℕ) (v w : View) → v.role ≡ First → w.role ≡ Guest → w.turn ≡ None → Joins (Racked now openings) id v other w (joined v w) gone
joins-pass now openings id other v w first guest no-turn s r at apart there = taken-back now openings id other v w first guest no-turn s r at apart there
