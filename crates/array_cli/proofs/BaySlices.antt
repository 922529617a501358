-- Bays, and the slices of their journals.
use Rattle.std.proofs.Common.{◌≡◌, ◌∙◌, ℕ, suc, ◌+◌, ◌<◌, List, [], ◌∷◌, ◌++◌, length, map, take, get_or, sym, ap, arith}
use Rattle.std.specs.Borrow.{Bor}
use Rattle.std.proofs.Math.Seq.{take-suc}
use Rattle.std.proofs.lemmas.List.{map-append, length-map, get_or-map}
use Rattle.raid_base.specs.declared.messages.Entry.{Entry}
use Rattle.block_store.specs.declared.store.Store.{Ghosts}
use Rattle.bay_device.specs.declared.bay.Bay.{Bay}
use Rattle.clock_merge.specs.Heads.{entries_in}

module _ {D : Type 0} {g : Ghosts D} where
  -- the journals of some bays
  abbrev pub journals_of : List (Bay D g) → List (List Entry)
  journals_of bays = map (λ (b : Bay D g). b.journal.items) bays

  -- the slice of one journal more
  pub bay-on : (bays : List (Bay D g)) (k : ℕ) (d : Bay D g) (slices : List (Bor (List Entry))) (slice : Bor (List Entry)) → k < length bays →
      entries_in slices ≡ take k (journals_of bays) → slice.now ≡ (get_or bays k d).journal.items → entries_in (slices ++ slice ∷ []) ≡ take (k + 1) (journals_of bays)
  bay-on bays k d slices slice below so_far is =
      let inside : k < length (journals_of bays) = omega (arith, below, length-map bays (λ (b : Bay D g). b.journal.items)) in
      let last : get_or (journals_of bays) k [] ≡ slice.now = get_or-map (λ (b : Bay D g). b.journal.items) bays k d [] below ∙ sym is in
      let next : take (suc k) (journals_of bays) ≡ take k (journals_of bays) ++ slice.now ∷ [] =
      take-suc (journals_of bays) k [] inside ∙ ap (λ (es : List Entry). take k (journals_of bays) ++ es ∷ []) last in
      let same : suc k ≡ k + 1 = omega arith in
      map-append (λ (s : Bor (List Entry)). s.now) slices (slice ∷ []) ∙ ap (λ (es : List (List Entry)). es ++ slice.now ∷ []) so_far ∙ sym next
      ∙ ap (λ (n : ℕ). take n (journals_of bays)) same
