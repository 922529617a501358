-- The rule holds of bays that were asked nothing yet.
use Rattle.std.proofs.Common.{◌≡◌, ℕ, zero, suc, ◌<◌, ◌≤◌, List, [], ◌∷◌, length, map, replicate, take, refl, sym, ap, ◌∙◌, subst, inl, arith, Some, None}
use Rattle.std.specs.Prelude.{All, slice_index, slice_index_or}
use Rattle.std.proofs.lemmas.List.Elements.{All-nil}
use mathlib.Core.Option.{some, some-injective, some-ne-none}
use lib.ListN.{get_elem?, length-map}
use Rattle.atomic_table.specs.Table.{opening}
use Rattle.atomic_table.proofs.Lists.{at_map}
use Rattle.raid_base.specs.declared.messages.Call.{Call}
use Rattle.raid_base.specs.declared.messages.Entry.{Entry}
use Rattle.slot_rules.specs.Replay.{Replays}
use Rattle.slot_rules.specs.Tables.{with_blocks}
use Rattle.rack_turns.specs.declared.view.Shadow.{Shadow}
use Rattle.rack_turns.specs.declared.view.View.{View}
use Rattle.rack_turns.specs.Views.{least_cap, first_view, last_clock, entries_of}
use Rattle.rack_turns.specs.Shadows.{ReplaysSomehow, IsLater}
use Rattle.rack_turns.specs.Ruling.{KnowsBy, WasThere, Racked}
use Rattle.rack_turns.specs.Passes.{AreNew}
use Rattle.rack_turns.proofs.Counts.{there, inside}

-- each of some empty journals is empty
blank-at : (os : List Shadow) (k : ℕ) (j : List Entry) → get_elem? (map (λ (o : Shadow). let none-yet : List Entry = [] in none-yet) os) k ≡ some j → j ≡ []
blank-at [] k j at = absurd (some-ne-none j (sym at))
blank-at (o ∷ os) zero j at = sym (some-injective [] j at)
blank-at (o ∷ os) (suc k) j at = blank-at os k j at

no-lists : (n h : ℕ) → [] ≡ slice_index_or (replicate n (let none-yet : List Call = [] in none-yet)) h []
no-lists zero h = refl
no-lists (suc n) zero = refl
no-lists (suc n) (suc h) = no-lists n h

-- the least cap is at most each
pub least-below : (os : List Shadow) (k : ℕ) (o : Shadow) → get_elem? os k ≡ some o → least_cap os ≤ o.cap
least-below [] k o at = absurd (some-ne-none o (sym at))
least-below (x ∷ os) zero o at = let same : x.cap ≡ o.cap = ap (λ (y : Shadow). y.cap) (some-injective x o at) in omega (arith, same)
least-below (x ∷ os) (suc k) o at = let rest : least_cap os ≤ o.cap = least-below os k o at in omega (arith, rest)

-- a bay that was asked nothing yet is later than itself
pub later-self : (o : Shadow) → o.journal ≡ [] → o.clock ≡ 0 → IsLater o o
later-self o empty clock = record {
  mode = refl;
  patience = refl;
  rows = refl;
  cap = refl;
  tells = refl;
  size = refl;
  replays = λ told. subst (λ (l : List Entry). Replays (with_blocks o.slots o.blocks) o.clock l (with_blocks o.slots o.blocks) o.clock) (sym empty) (refl, refl);
  somehow = subst (λ (l : List Entry). ReplaysSomehow o.slots o.clock l o.slots o.clock) (sym empty) (refl, refl);
  faults = subst (λ (l : List Entry). Rattle.bay_device.specs.Handling.RisesByFaults l o.faults o.faults) (sym empty) (omega arith);
  clock = clock ∙ ap (λ (l : List Entry). last_clock l) (sym empty);
}

module _ {S : Type 0} (now : S → Shadow) where
  pub starts : (bays : List S) (words : List ℕ) → length words ≡ length bays → ((k : ℕ) → slice_index words k ≡ 0) → AreNew (map now bays) → Racked now (map now bays) (opening words bays (first_view (map now bays)))
  starts bays words wide blank new =
      let os : List Shadow = map now bays in
      let first : View = first_view os in
      let journals : List (List Entry) = map (λ (o : Shadow). let none-yet : List Entry = [] in none-yet) os in
      let long : length os ≡ length bays = length-map bays now in
      let many : length journals ≡ length os = length-map os (λ (o : Shadow). let none-yet : List Entry = [] in none-yet) in
      record {
        journals = journals;
        lists = λ h. [];
        seats = λ h. None;
        wide = wide ∙ sym long;
        deep = length-map bays (λ (b : S). some b) ∙ sym long;
        many = many;
        each_bay = λ k j at-j.
            let b = there bays k (let a : k < length journals = inside journals k j at-j in omega (arith, a, many, long)) in
            let o : get_elem? os k ≡ some (now b.0) = at_map now bays k b.0 b.1 in
            let fresh = new k (now b.0) o in
            inl record {
              free = blank k;
              value = b.0;
              home = at_map (λ (x : S). some x) bays k b.0 b.1;
              later = λ p at-p. subst (λ (x : Shadow). IsLater x (now b.0)) (some-injective (now b.0) p (sym o ∙ at-p)) (later-self (now b.0) fresh.0 fresh.1);
              keeps = fresh.0 ∙ sym (blank-at os k j at-j);
            };
        each_list = λ k j at-j h. ap (λ (l : List Entry). entries_of h l) (blank-at os k j at-j);
        each_room = λ k j at-j o at-o.
            let low : least_cap os ≤ o.cap = least-below os k o at-o in
            let none-yet : length j ≡ 0 = ap (λ (l : List Entry). length l) (blank-at os k j at-j) in
            omega (arith, low, none-yet);
        each_clock = λ k j at-j. let none-yet : last_clock j ≡ 0 = ap (λ (l : List Entry). last_clock l) (blank-at os k j at-j) in omega (arith, none-yet);
        each_view = views;
        each_host = λ h seat has. absurd (let bad : None ≡ Some seat = has in cc);
        each_meeting = meetings;
      }
    where
      views : (seat : ℕ) (v : View) → get_elem? (first_view (map now bays) ∷ []) seat ≡ some v → KnowsBy v.role (map now bays) words (map (λ (o : Shadow). let none-yet : List Entry = [] in none-yet) (map now bays)) (first_view (map now bays) ∷ []) (λ h. []) (λ h. None) seat v
      views zero v at = subst (λ (x : View). KnowsBy x.role (map now bays) words (map (λ (o : Shadow). let none-yet : List Entry = [] in none-yet) (map now bays)) (first_view (map now bays) ∷ []) (λ h. []) (λ h. None) 0 x) (some-injective (first_view (map now bays)) v at)
          record { seat_is = refl; opened = refl; no_turn = refl; out = refl; many = refl; back = λ h none-there. no-lists 16 h; new = λ h free. (refl, sym (no-lists 16 h)) }
      views (suc seat) v at = absurd (some-ne-none v (sym at))

      meetings : (seat : ℕ) (v : View) → get_elem? (first_view (map now bays) ∷ []) seat ≡ some v → All (WasThere words (λ h. [])) v.meetings
      meetings zero v at = subst (λ (x : View). All (WasThere words (λ h. [])) x.meetings) (some-injective (first_view (map now bays)) v at) (All-nil (WasThere words (λ h. [])))
      meetings (suc seat) v at = absurd (some-ne-none v (sym at))

-- so many of some zeros are that many zeros
pub zeros-long : (m n : ℕ) → n ≤ m → length (take n (replicate m (let none : ℕ = 0 in none))) ≡ n
zeros-long zero zero le = refl
zeros-long zero (suc n) le = absurd (omega arith)
zeros-long (suc m) zero le = refl
zeros-long (suc m) (suc n) le = ap suc (zeros-long m n (omega arith))

pub zeros-taken : (m n k : ℕ) → slice_index (take n (replicate m 0)) k ≡ 0
zeros-taken zero zero k = refl
zeros-taken zero (suc n) k = refl
zeros-taken (suc m) zero k = refl
zeros-taken (suc m) (suc n) zero = refl
zeros-taken (suc m) (suc n) (suc k) = zeros-taken m n k
