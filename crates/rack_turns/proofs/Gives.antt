-- The step with which a pass is given keeps the rule.
use Rattle.std.proofs.Common.{◌≡◌, ◌≢◌, ◌⊎◌, ℕ, zero, suc, ◌+◌, ◌-◌, ◌<◌, ◌≤◌, true, false, List, [], ◌∷◌, ◌++◌, length, set, replicate, refl, sym, ap, ◌∙◌, subst, ⊎_elim, inl, inr, arith, Option, Some, None, get_or-set_other, get_or-set_same, length-set}
use Rattle.std.specs.Prelude.{All, slice_index, slice_index_or}
use Rattle.std.proofs.lemmas.List.Elements.{All-nil}
use mathlib.Core.Option.{some, some-injective, some-ne-none}
use mathlib.Core.Logic.{dite}
use native.Mathlib.Decide.{ℕ_discrete}
use lib.ListN.{get_elem?}
use Rattle.atomic_table.specs.Table.{State, Splits}
use Rattle.atomic_table.proofs.Lists.{at_set, set_else, at_longer, at_last}
use Rattle.rack_turns.specs.declared.view.Role.{Role}
use Rattle.rack_turns.specs.declared.view.Role.TheVariants.{First, Guest}
use Rattle.rack_turns.specs.declared.view.Shadow.{Shadow}
use Rattle.rack_turns.specs.declared.view.Standing.{Standing}
use Rattle.rack_turns.specs.declared.view.View.{View}
use Rattle.rack_turns.specs.Views.{total, held, share_of, share_by, out_of, giving, new_guest}
use Rattle.rack_turns.specs.Ruling.{AtHome, IsOut, GuestKnows, FirstKnows, KnowsBy, WasThere, Racked}
use Rattle.rack_turns.specs.Passes.{MayGive}
use Rattle.rack_turns.proofs.Counts.{total-set, total-snoc, put, put-here, put-at, put-else}
use Rattle.rack_turns.proofs.Entries.{same-seat}
use Rattle.rack_turns.proofs.Views.{knows-moves, first-at}

-- an element of a list with one more stands in the list, or is the last one
at-end : {X : Type 0} (l : List X) (a b : X) (j : ℕ) → get_elem? (l ++ a ∷ []) j ≡ some b → (get_elem? l j ≡ some b) ⊎ ((j ≡ length l) × (a ≡ b))
at-end [] a b zero e = inr (refl, some-injective a b e)
at-end [] a b (suc j) e = absurd (some-ne-none b (sym e))
at-end (x ∷ xs) a b zero e = inl e
at-end (x ∷ xs) a b (suc j) e = ⊎_elim (λ t. inl t) (λ (t : (j ≡ length xs) × (a ≡ b)). inr (ap suc t.0, t.1)) (at-end xs a b j e)

-- a number in a list of one number is at most that
replicas : (n q k : ℕ) → slice_index (replicate n q) k ≤ q
replicas zero q k = omega arith
replicas (suc n) q zero = omega arith
replicas (suc n) q (suc k) = replicas n q k

module _ {S : Type 0} (now : S → Shadow) (openings : List Shadow) (id host quota : ℕ) (v : View) (may : MayGive host quota v) (s : State S View) (r : Racked now openings s) (at : get_elem? s.views id ≡ some v) where
  abbrev left : View
  left = giving host quota v

  abbrev right : View
  right = new_guest host quota v

  abbrev views₁ : List View
  views₁ = set s.views id left

  abbrev views' : List View
  views' = views₁ ++ right ∷ []

  abbrev seats' : ℕ → Option ℕ
  seats' = put r.seats host (Some (length s.views))

  known : FirstKnows openings s.views r.lists r.seats id v
  known = first-at now openings s r id v at may.first

  absent : (r.seats host ≡ None) × (slice_index_or v.ended host [] ≡ [])
  absent = known.new host may.new

  no-calls : r.lists host ≡ []
  no-calls = known.back host absent.0 ∙ absent.1

  differ : (seat : ℕ) (u : View) → get_elem? s.views seat ≡ some u → u.role ≡ Guest → seat ≢ id
  differ seat u there-u guest same =
      let is : v ≡ u = some-injective v u (sym at ∙ (ap (λ (n : ℕ). get_elem? s.views n) (sym same) ∙ there-u)) in
      let bad : First ≡ Guest = sym may.first ∙ (ap (λ (x : View). x.role) is ∙ guest) in
      absurd (cc)

  stays : (seat : ℕ) (u : View) → get_elem? s.views seat ≡ some u → seat ≢ id → get_elem? views' seat ≡ some u
  stays seat u there-u apart = at_longer views₁ (right ∷ []) seat u (set_else s.views id seat left apart ∙ there-u)

  long : length views₁ ≡ length s.views
  long = length-set s.views id left

  last-is : get_elem? views' (length s.views) ≡ some right
  last-is = at_last views₁ right (length s.views) long

  totals : (f : View → ℕ) → total f views' + f v ≡ total f s.views + f left + f right
  totals f = let a : total f views' ≡ total f views₁ + f right = total-snoc f views₁ right in let b : total f views₁ + f v ≡ total f s.views + f left = total-set f s.views id v left at in omega (arith, a, b)

  other-host : (h seat : ℕ) → r.seats h ≡ Some seat → h ≢ host
  other-host h seat has same = absurd (let bad : None ≡ Some seat = sym absent.0 ∙ (ap r.seats (sym same) ∙ has) in cc)

  first-knows : FirstKnows openings views' r.lists seats' id left
  first-knows = record {
    seat_is = known.seat_is;
    opened = known.opened;
    no_turn = known.no_turn;
    out =
        let a : total out_of views' + out_of v ≡ total out_of s.views + out_of left + out_of right = totals out_of in
        let b : v.standing.out ≡ total out_of s.views = known.out in
        let d : out_of left ≡ out_of v = refl in
        let e : out_of right ≡ 1 = refl in
        omega (arith, a, b, d, e);
    many = known.many;
    back = λ h none-there. dite (ℕ_discrete h host)
        (λ (same : h ≡ host). absurd (let bad : Some (length s.views) ≡ None = sym (put-at r.seats host (Some (length s.views)) h same) ∙ none-there in cc))
        (λ (other : h ≢ host). known.back h (sym (put-else r.seats host (Some (length s.views)) h other) ∙ none-there));
    new = λ h free. dite (ℕ_discrete h host)
        (λ (same : h ≡ host). absurd (let set-true : slice_index_or (set v.standing.given host true) host false ≡ true = get_or-set_same v.standing.given host true false (let a : length v.standing.given ≡ 16 = may.many in let b : host < 16 = may.below in omega (arith, a, b)) in
        let bad : false ≡ true = sym free ∙ (ap (λ (n : ℕ). slice_index_or (set v.standing.given host true) n false) same ∙ set-true) in cc))
        (λ (other : h ≢ host).
        let was = known.new h (sym (get_or-set_other v.standing.given host h true false other) ∙ free) in
        (put-else r.seats host (Some (length s.views)) h other ∙ was.0, was.1));
  }

  guest-knows : GuestKnows openings s.words r.journals r.lists seats' (length s.views) right
  guest-knows = record {
    host = may.below;
    opened = known.opened;
    seated = put-here r.seats host (Some (length s.views));
    asked = no-calls;
    clock = omega arith;
    turn = λ bay journal has. absurd (let bad : None ≡ Some (held bay journal) = has in cc);
  }

  other-knows : (seat : ℕ) (u : View) → seat ≢ id → get_elem? s.views seat ≡ some u → KnowsBy u.role openings s.words r.journals views' r.lists seats' seat u
  other-knows seat u apart there-u = knows-moves u.role openings s.words s.words r.journals r.journals s.views views' r.lists r.lists r.seats seats' seat u
      (λ (f : FirstKnows openings s.views r.lists r.seats seat u). absurd (apart (f.seat_is ∙ sym known.seat_is)))
      (λ is-guest (g : GuestKnows openings s.words r.journals r.lists r.seats seat u). record {
        host = g.host;
        opened = g.opened;
        seated = put-else r.seats host (Some (length s.views)) u.standing.host.0 (other-host u.standing.host.0 seat g.seated) ∙ g.seated;
        asked = g.asked;
        clock = g.clock;
        turn = g.turn;
      })
      (r.each_view seat u there-u)

  given-out : Racked now openings (record { words = s.words; homes = s.homes; views = views' })
  given-out = record {
    journals = r.journals;
    lists = r.lists;
    seats = seats';
    wide = r.wide;
    deep = r.deep;
    many = r.many;
    each_bay = λ bay journal there-j. ⊎_elim
        (λ (h : AtHome now openings s.words s.homes bay journal). inl h)
        (λ (o : IsOut s.words s.views bay journal). inr record { seat = o.seat; view = o.view; at = stays o.seat o.view o.at (differ o.seat o.view o.at o.guest); guest = o.guest; turn = o.turn; taken = o.taken })
        (r.each_bay bay journal there-j);
    each_list = r.each_list;
    each_room = λ bay journal there-j o at-o.
        let before : length journal + total (share_of bay) s.views ≤ o.cap = r.each_room bay journal there-j o at-o in
        let moves : total (share_of bay) views' + share_of bay v ≡ total (share_of bay) s.views + share_of bay left + share_of bay right = totals (share_of bay) in
        let a : share_of bay v ≡ v.standing.room = ap (λ (x : Role). share_by x v.standing bay) may.first in
        let st : Standing = record v.standing { room = v.standing.room - quota; out = v.standing.out + 1; given = set v.standing.given host true } in
        let b : share_of bay left ≡ v.standing.room - quota = ap (λ (x : Role). share_by x st bay) may.first in
        let d : share_of bay right ≤ quota = replicas 16 quota bay in
        let e : quota ≤ v.standing.room = may.room in
        omega (arith, before, moves, a, b, d, e);
    each_clock = r.each_clock;
    each_view = λ seat u there-u. ⊎_elim
        (λ (inner : get_elem? views₁ seat ≡ some u). ⊎_elim
        (λ (t : (seat ≡ id) × (left ≡ u)). subst (λ (z : ℕ × View). KnowsBy z.1.role openings s.words r.journals views' r.lists seats' z.0 z.1) (λ i. (sym t.0 i, t.1 i))
        (subst (λ (x : Role). KnowsBy x openings s.words r.journals views' r.lists seats' id left) (sym may.first) first-knows))
        (λ (t : (seat ≢ id) × (get_elem? s.views seat ≡ some u)). other-knows seat u t.0 t.1)
        (at_set s.views id seat left u inner))
        (λ (t : (seat ≡ length views₁) × (right ≡ u)). subst (λ (z : ℕ × View). KnowsBy z.1.role openings s.words r.journals views' r.lists seats' z.0 z.1) (λ i. (sym (t.0 ∙ long) i, t.1 i)) guest-knows)
        (at-end views₁ right u seat there-u);
    each_host = λ h seat has. dite (ℕ_discrete h host)
        (λ (same : h ≡ host).
        let is : length s.views ≡ seat = same-seat (length s.views) seat (sym (put-at r.seats host (Some (length s.views)) h same) ∙ has) in
        (right, ap (λ (n : ℕ). get_elem? views' n) (sym is) ∙ last-is, refl, sym same))
        (λ (other : h ≢ host).
        let t = r.each_host h seat (sym (put-else r.seats host (Some (length s.views)) h other) ∙ has) in
        (t.0, stays seat t.0 t.1 (differ seat t.0 t.1 t.2), t.2, t.3));
    each_meeting = λ seat u there-u. ⊎_elim
        (λ (inner : get_elem? views₁ seat ≡ some u). ⊎_elim
        (λ (t : (seat ≡ id) × (left ≡ u)). subst (λ (x : View). All (WasThere s.words r.lists) x.meetings) t.1 (r.each_meeting id v at))
        (λ (t : (seat ≢ id) × (get_elem? s.views seat ≡ some u)). r.each_meeting seat u t.1)
        (at_set s.views id seat left u inner))
        (λ (t : (seat ≡ length views₁) × (right ≡ u)). subst (λ (x : View). All (WasThere s.words r.lists) x.meetings) t.1 (All-nil (WasThere s.words r.lists)))
        (at-end views₁ right u seat there-u);
  }

-- a pass may be given
pub gives-pass : {S : Type 0} (now : S → Shadow) (openings : List Shadow) (id host quota : ℕ) (v : View) → MayGive host quota v → Splits (Racked now openings) id v (giving host quota v) (new_guest host quota v)
gives-pass now openings id host quota v may s r at = given-out now openings id host quota v may s r at
