-- What a closed world hands out: the journals and the stores of its history.
use Rattle.std.proofs.Common.{◌≡◌, ℕ, ◌<◌, ◌≤◌, zero, suc, List, [], ◌∷◌, ◌++◌, length, get_or, map, drop, Option, Some, None, refl, sym, ap, subst, ◌∙◌, arith, IsTrue, length-append}
use Rattle.std.specs.Prelude.{slice_get}
use Rattle.std.specs.List.{range_with_len}
use Rattle.std.proofs.lemmas.List.{length-drop}
use Rattle.raid_base.specs.declared.numbers.RowNo.{RowNo}
use Rattle.raid_base.specs.declared.cells.Cell.{Cell}
use Rattle.raid_base.specs.declared.messages.Call.{Call}
use Rattle.raid_base.specs.Counts.{RisesBy}
use Rattle.stripe_layout.specs.Placement.{bay}
use Rattle.slot_rules.specs.Slots.{Slot, Bay as BayState, slot_of}
use Rattle.slot_rules.specs.Tables.{Kept, slots_with, cell_of}
use Rattle.block_store.specs.declared.store.Store.{Ghosts}
use Rattle.bay_device.specs.declared.bay.Bay.{Bay}
use Rattle.bay_device.specs.Handling.{count_faults}
use Rattle.script_text.specs.Script.{Script}
use Rattle.histories.specs.History.{journal}
use Rattle.schedule_play.specs.Making.{IsBack, AreBack, stores_of}
use Rattle.histories.specs.RowStates.{cell_at}
use Rattle.histories.specs.Stored.{HoldsCell, HoldsBay, StoresHold}
use Rattle.schedule_play.specs.World.{EachAt, BayShows, AllTell, IsOver, AreOver}
use Rattle.schedule_play.proofs.RowLemmas.{map-as-range}

-- the block of a present slot is its cell's
block-of-cell : (mark : Option ℕ) (block : List ℕ) (cell : Cell) → cell_of mark block ≡ Some cell → block ≡ cell.bytes
block-of-cell None block cell e = absurd (cc)
block-of-cell (Some lost) block cell e = cc

pub block-of : (slots : List Kept) (blocks : List (List ℕ)) (row : ℕ) (d : Slot) (cell : Cell) → length slots ≤ length blocks → row < length slots →
    (get_or (slots_with slots blocks) row d).cell ≡ Some cell → slice_get blocks row ≡ Some cell.bytes
block-of [] blocks row d cell enough inside e = absurd (omega arith)
block-of (slot ∷ slots) [] row d cell enough inside e = absurd (omega arith)
block-of (slot ∷ slots) (block ∷ blocks) zero d cell enough inside e = ap Some (block-of-cell slot.mark block cell e)
block-of (slot ∷ slots) (block ∷ blocks) (suc row) d cell enough inside e = block-of slots blocks row d cell (omega (arith, enough)) (omega (arith, inside)) e

-- counts
rises-none-of : (n before now : ℕ) → RisesBy n before now → RisesBy 0 before now
rises-none-of n before now r = grind (arith)

drop-front : {X : Type 0} (xs ys : List X) → drop (length xs) (xs ++ ys) ≡ ys
drop-front [] ys = refl
drop-front (x ∷ xs) ys = drop-front xs ys

module _ {D : Type 0} {g : Ghosts D} where
  length-stores : (bays : List (Bay D g)) → length (stores_of bays) ≡ length bays
  length-stores [] = refl
  length-stores (b ∷ bays) = ap suc (length-stores bays)

  -- the journals
  pub closed-journals : (script : Script) (history : List Call) (bays : List (Bay D g)) → EachAt (BayShows script history) bays → length bays ≡ script.n →
      map (λ (b : Bay D g). b.journal.items) bays ≡ map (λ k. journal (bay k) history) (range_with_len 0 script.n)
  closed-journals script history bays shows count =
      map-as-range (λ (b : Bay D g). b.journal.items) (λ k. journal (bay k) history) bays 0 script.n count
      (λ k d inside. (shows k d inside).entries ∙ ap (λ (m : ℕ). journal (bay m) history) (omega arith))

  -- a store holds the bytes of the present slots of its bay
  holds-bay : (script : Script) (history : List Call) (k : ℕ) (now : Bay D g) → BayShows script history k now → IsTrue (g.tells now.store) → length now.slots.slots ≤ length (g.content now.store) →
      HoldsBay script history (bay k) (g.content now.store)
  holds-bay script history k now shows tells enough row below = go (cell_at script history at (bay k)) refl
    where
      at : RowNo
      at = record { 0 = row }

      inside : row < length now.slots.slots
      inside = omega (arith, below, shows.rows)

      go : (o : Option Cell) → cell_at script history at (bay k) ≡ o → HoldsCell (g.content now.store) row o
      go None e = tt
      go (Some cell) e =
          block-of now.slots.slots (g.content now.store) row _ cell enough inside
          (ap (λ (b : BayState). (slot_of b at).cell) (shows.told tells) ∙ e)

  -- the store at a place of those that were handed out
  record IsAt (P : ℕ → Bay D g → Type 0) (k : ℕ) (store : List (List ℕ)) : Type 0 where
    now : Bay D g
    holds : P k now
    is : store ≡ g.content now.store

  at-place : (P : ℕ → Bay D g → Type 0) (bays : List (Bay D g)) (others : List D) (k : ℕ) (store : List (List ℕ)) → EachAt P bays → k < length bays →
      slice_get (map g.content (stores_of bays ++ others)) k ≡ Some store → IsAt P k store
  at-place P [] others k store all inside e = absurd (omega arith)
  at-place P (b ∷ bays) others zero store all inside e = record { now = b; holds = all 0 b (omega arith); is = cc }
  at-place P (b ∷ bays) others (suc k) store all inside e =
      let rest = at-place (λ j now. P (suc j) now) bays others k store (λ j d within. all (suc j) d (omega (arith, within))) (omega (arith, inside)) e in
      record { now = rest.now; holds = rest.holds; is = rest.is }

  pub closed-stores : (script : Script) (history : List Call) (bays : List (Bay D g)) (others : List D) → EachAt (BayShows script history) bays → AllTell bays → length bays ≡ script.n →
      ((store : D) → IsTrue (g.tells store) → length (g.content store) ≡ g.size store) →
      StoresHold script history (map g.content (stores_of bays ++ others))
  closed-stores script history bays others shows told count whole k store below e =
      let at = at-place (λ j now. HoldsBay script history (bay j) (g.content now.store)) bays others k store
      (λ j d inside.
      let now = get_or bays j d in
      holds-bay script history j now (shows j d inside) (told j d inside) (omega (arith, whole now.store (told j d inside), now.stored)))
      (omega (arith, below, count)) e in
      subst (λ (blocks : List (List ℕ)). HoldsBay script history (bay k) blocks) (sym at.is) at.holds

  -- all stores come back
  back-of : (store : D) (now : Bay D g) → IsOver store now → IsBack g store now.store
  back-of store now over = record { tells_is = over.tells; size_is = over.size; faults_least = rises-none-of (count_faults now.journal.items) _ _ over.faults }

  each-back : (bays : List (Bay D g)) (stores : List D) → length bays ≤ length stores → AreOver stores bays → (k : ℕ) (d : D) →
      IsBack g (get_or stores k d) (get_or (stores_of bays ++ drop (length bays) stores) k d)
  each-back [] stores few over k d = record { tells_is = refl; size_is = refl; faults_least = grind (arith) }
  each-back (b ∷ bays) [] few over k d = absurd (omega (arith, few))
  each-back (b ∷ bays) (s ∷ stores) few over zero d = back-of s b (over 0 s b (omega arith))
  each-back (b ∷ bays) (s ∷ stores) few over (suc k) d = each-back bays stores (omega (arith, few)) (λ j x y inside. over (suc j) x y (omega (arith, inside))) k d

  pub closed-back : (n : ℕ) (stores : List D) (bays : List (Bay D g)) (others back : List D) → AreOver stores bays → length bays ≡ n → n ≤ length stores → others ≡ drop n stores →
      back ≡ stores_of bays ++ others → AreBack g n stores back
  closed-back n stores bays others back over count few rest all =
      let same : back ≡ stores_of bays ++ drop (length bays) stores = all ∙ ap (λ (xs : List D). stores_of bays ++ xs) (rest ∙ ap (λ (m : ℕ). drop m stores) (sym count)) in
      subst (λ (xs : List D). AreBack g n stores xs) (sym same) (record {
        count = omega (arith, length-append (stores_of bays) (drop (length bays) stores), length-stores bays, length-drop (length bays) stores, count, few);
        each = λ k d inside. each-back bays stores (omega (arith, count, few)) over k d;
        others = ap (λ (m : ℕ). drop m (stores_of bays ++ drop (length bays) stores)) (sym (length-stores bays ∙ count))
            ∙ drop-front (stores_of bays) (drop (length bays) stores) ∙ ap (λ (m : ℕ). drop m stores) count;
      })
