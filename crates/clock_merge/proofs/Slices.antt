-- Journals, and the slices of them.
use Rattle.std.proofs.Common.{Vec, Global, ◌≡◌, ◌∙◌, ℕ, suc, ◌+◌, ◌<◌, ◌^◌, List, [], ◌∷◌, ◌++◌, length, map, take, get_or, sym, ap, arith}
use Rattle.std.specs.Borrow.{Bor}
use Rattle.std.proofs.Math.Seq.{take-suc}
use Rattle.std.proofs.lemmas.List.{map-append, length-map, get_or-map}
use Rattle.raid_base.specs.declared.messages.Entry.{Entry}
use Rattle.clock_merge.specs.Heads.{entries_in, AreShort}

-- the lists that journals hold
abbrev pub lists : List (Vec Entry Global) → List (List Entry)
lists journals = map (λ (journal : Vec Entry Global). journal.items) journals

-- no list in memory is longer than that
pub lists-short : (journals : List (Vec Entry Global)) → AreShort (lists journals)
lists-short [] = tt
lists-short (journal ∷ journals) = (let few : length journal.items < 2 ^ 63 = omega (arith, journal.ok.0, journal.ok.1, journal.small) in few, lists-short journals)

-- the slice of one journal more
pub slice-on : (journals : List (Vec Entry Global)) (k : ℕ) (d : Vec Entry Global) (slices : List (Bor (List Entry))) (slice : Bor (List Entry)) → k < length journals →
    entries_in slices ≡ take k (lists journals) → slice.now ≡ (get_or journals k d).items → entries_in (slices ++ slice ∷ []) ≡ take (k + 1) (lists journals)
slice-on journals k d slices slice below so_far is =
    let inside : k < length (lists journals) = omega (arith, below, length-map journals (λ (j : Vec Entry Global). j.items)) in
    let last : get_or (lists journals) k [] ≡ slice.now = get_or-map (λ (j : Vec Entry Global). j.items) journals k d [] below ∙ sym is in
    let next : take (suc k) (lists journals) ≡ take k (lists journals) ++ slice.now ∷ [] =
    take-suc (lists journals) k [] inside ∙ ap (λ (es : List Entry). take k (lists journals) ++ es ∷ []) last in
    let same : suc k ≡ k + 1 = omega arith in
    map-append (λ (s : Bor (List Entry)). s.now) slices (slice ∷ []) ∙ ap (λ (es : List (List Entry)). es ++ slice.now ∷ []) so_far ∙ sym next
    ∙ ap (λ (n : ℕ). take n (lists journals)) same
