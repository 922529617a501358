-- The bays of a rack whose passes are all back.
use Rattle.std.proofs.Common.{◌≡◌, ◌≢◌, ℕ, zero, suc, ◌<◌, ◌≤◌, List, [], ◌∷◌, ◌++◌, length, map, take, refl, sym, ap, ◌∙◌, subst, ⊎_elim, arith, Option, Some, None}
use Rattle.std.specs.Prelude.{slice_index, slice_index_or}
use mathlib.Core.Option.{some, some-injective, some-ne-none}
use lib.ListN.{get_elem?, length-map}
use Rattle.atomic_table.specs.Table.{State}
use Rattle.atomic_table.proofs.Lists.{at_map}
use Rattle.raid_base.specs.declared.messages.Call.{Call}
use Rattle.raid_base.specs.declared.messages.Entry.{Entry}
use Rattle.rack_turns.specs.declared.view.Meeting.{Meeting}
use Rattle.rack_turns.specs.declared.view.Role.{Role}
use Rattle.rack_turns.specs.declared.view.Role.TheVariants.{First, Guest}
use Rattle.rack_turns.specs.declared.view.Shadow.{Shadow}
use Rattle.rack_turns.specs.declared.view.View.{View}
use Rattle.rack_turns.specs.Views.{total, out_of, out_by, entries_of, calls_at}
use Rattle.rack_turns.specs.Ruling.{AtHome, IsOut, FirstKnows, Racked}
use Rattle.rack_turns.specs.Closing.{IsClosedBay, AreClosed, WereThere}
use Rattle.rack_turns.proofs.Counts.{total-at, there, inside}
use Rattle.rack_turns.proofs.Views.{first-at}

module _ {X : Type 0} where
  -- the first elements, and one more
  pub take-more : (l : List X) (i : ℕ) (x : X) → get_elem? l i ≡ some x → take (suc i) l ≡ take i l ++ x ∷ []
  take-more [] i x at = absurd (some-ne-none x (sym at))
  take-more (y ∷ l) zero x at = λ k. some-injective y x at k ∷ []
  take-more (y ∷ l) (suc i) x at = ap (λ (z : List X). y ∷ z) (take-more l i x at)

module _ {S : Type 0} (now : S → Shadow) (openings : List Shadow) (s : State S View) (r : Racked now openings s) (id : ℕ) (v : View) (at : get_elem? s.views id ≡ some v) (first : v.role ≡ First) (none-out : v.standing.out ≡ 0) where
  known : FirstKnows openings s.views r.lists r.seats id v
  known = first-at now openings s r id v at first

  no-guest : (seat : ℕ) (u : View) → get_elem? s.views seat ≡ some u → u.role ≢ Guest
  no-guest seat u there-u guest =
      let a : v.standing.out ≡ total out_of s.views = known.out in
      let b : out_of u ≤ total out_of s.views = total-at out_of s.views seat u there-u in
      let d : out_of u ≡ 1 = ap (λ (x : Role). out_by x) guest in
      absurd (omega (arith, a, b, d, none-out))

  no-seat : (host : ℕ) → r.seats host ≡ None
  no-seat host = by (r.seats host) refl
    where
      by : (o : Option ℕ) → r.seats host ≡ o → r.seats host ≡ None
      by None e = e
      by (Some seat) e = let t = r.each_host host seat e in absurd (no-guest seat t.0 t.1 t.2)

  closed-bay : (bay : ℕ) (opening : Shadow) (journal : List Entry) (h : AtHome now openings s.words s.homes bay journal) → get_elem? r.journals bay ≡ some journal → get_elem? openings bay ≡ some opening → IsClosedBay opening v.ended bay (now h.value)
  closed-bay bay opening journal h there-j at-o = record {
    later = h.later opening at-o;
    entries = λ host. ap (λ (l : List Entry). entries_of host l) h.keeps ∙ (r.each_list bay journal there-j host ∙ ap (λ (l : List Call). calls_at bay l) (known.back host (no-seat host)));
  }

  pub closes : (bays : List S) → length s.homes ≡ length bays → ((k : ℕ) (y : S) → get_elem? s.homes k ≡ some (some y) → get_elem? bays k ≡ some y) → AreClosed openings v.ended (map now bays)
  closes bays long same = record {
    many = length-map bays now ∙ (sym long ∙ r.deep);
    each = λ bay opening value at-o at-n.
        let near : bay < length r.journals = (let a : bay < length openings = inside openings bay opening at-o in let b : length r.journals ≡ length openings = r.many in omega (arith, a, b)) in
        let j = there r.journals bay near in
        ⊎_elim
        (λ (h : AtHome now openings s.words s.homes bay j.0).
        let is : now h.value ≡ value = some-injective (now h.value) value (sym (at_map now bays bay h.value (same bay h.value h.home)) ∙ at-n) in
        subst (λ (x : Shadow). IsClosedBay opening v.ended bay x) is (closed-bay bay opening j.0 h j.1 at-o))
        (λ (o : IsOut s.words s.views bay j.0). absurd (no-guest o.seat o.view o.at o.guest))
        (r.each_bay bay j.0 j.1);
  }

  pub were-there : (bays : List S) → length s.homes ≡ length bays → ((k : ℕ) (y : S) → get_elem? s.homes k ≡ some (some y) → get_elem? bays k ≡ some y) → WereThere v.meetings (map now bays)
  were-there bays long same i d within bay at-b =
      let m : Meeting = slice_index_or v.meetings i d in
      let k : ℕ = m.bay.0 in
      let all : AreClosed openings v.ended (map now bays) = closes bays long same in
      let near : k < length openings = (let a : k < length (map now bays) = inside (map now bays) k bay at-b in let b : length (map now bays) ≡ length openings = all.many in omega (arith, a, b)) in
      let o = there openings k near in
      let j = there r.journals k (let b : length r.journals ≡ length openings = r.many in omega (arith, near, b)) in
      let is : IsClosedBay o.0 v.ended k bay = all.each k o.0 bay o.1 at-b in
      let calls : entries_of m.holder.0 bay.journal ≡ calls_at k (r.lists m.holder.0) = is.entries m.holder.0 ∙ ap (λ (l : List Call). calls_at k l) (sym (known.back m.holder.0 (no-seat m.holder.0))) in
      ⊎_elim
      (λ (word : slice_index s.words k ≡ suc m.holder.0). ⊎_elim
      (λ (h : AtHome now openings s.words s.homes k j.0). absurd (let free : slice_index s.words k ≡ 0 = h.free in omega (arith, free, word)))
      (λ (h : IsOut s.words s.views k j.0). absurd (no-guest h.seat h.view h.at h.guest))
      (r.each_bay k j.0 j.1))
      (λ (asked : 1 ≤ length (calls_at k (r.lists m.holder.0))).
      let e : length (entries_of m.holder.0 bay.journal) ≡ length (calls_at k (r.lists m.holder.0)) = ap (λ (l : List Entry). length l) calls in
      omega (arith, asked, e))
      (r.each_meeting id v at i d within)
