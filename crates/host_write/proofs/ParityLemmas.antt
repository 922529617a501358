-- The changes of units in a parity, one by one.
use Rattle.std.proofs.Common.{◌≡◌, ℕ, ◌+◌, ◌<◌, ◌≤◌, min, List, [], ◌∷◌, Option, Some, None, length, get_or, drop, refl, ◌∙◌, arith, length-drop}
use Rattle.std.proofs.lemmas.List.{at_drop_more}
use Rattle.raid_base.specs.declared.cells.Cell.{Cell}
use Rattle.raid_base.specs.declared.messages.Grant.{Grant}
use Rattle.attempts.specs.Puts.{folded}

folded-cons : (acc : Cell) (u : ℕ) (g : Option Grant) (b : List ℕ) (us : List ℕ) (gs : List (Option Grant)) (bs : List (List ℕ))
    → folded acc (u ∷ us) (g ∷ gs) (b ∷ bs) ≡ folded (folded acc (u ∷ []) (g ∷ []) (b ∷ [])) us gs bs
folded-cons acc u (Some g) b us gs bs = refl
folded-cons acc u None b us gs bs = refl

pub folded_more : (acc : Cell) (us : List ℕ) (gs : List (Option Grant)) (bs : List (List ℕ)) (i : ℕ) (d : ℕ) (e : Option Grant) (x : List ℕ) → i < length us → i < length gs → i < length bs
    → folded acc (drop i us) (drop i gs) (drop i bs)
    ≡ folded (folded acc (get_or us i d ∷ []) (get_or gs i e ∷ []) (get_or bs i x ∷ [])) (drop (i + 1) us) (drop (i + 1) gs) (drop (i + 1) bs)
folded_more acc us gs bs i d e x h g b =
    at_drop_more (λ xs. folded acc xs (drop i gs) (drop i bs)) us i d h
    ∙ at_drop_more (λ xs. folded acc (get_or us i d ∷ drop (i + 1) us) xs (drop i bs)) gs i e g
    ∙ at_drop_more (λ xs. folded acc (get_or us i d ∷ drop (i + 1) us) (get_or gs i e ∷ drop (i + 1) gs) xs) bs i x b
    ∙ folded-cons acc (get_or us i d) (get_or gs i e) (get_or bs i x) (drop (i + 1) us) (drop (i + 1) gs) (drop (i + 1) bs)

folded-none : (acc : Cell) (us : List ℕ) (gs : List (Option Grant)) (bs : List (List ℕ)) → min (min (length us) (length gs)) (length bs) ≡ 0 → folded acc us gs bs ≡ acc
folded-none acc [] gs bs h = refl
folded-none acc (u ∷ us) [] bs h = refl
folded-none acc (u ∷ us) (g ∷ gs) [] h = refl
folded-none acc (u ∷ us) (g ∷ gs) (b ∷ bs) h = absurd (omega arith)

pub folded_all : (acc : Cell) (us : List ℕ) (gs : List (Option Grant)) (bs : List (List ℕ)) (i : ℕ) → min (min (length us) (length gs)) (length bs) ≤ i
    → folded acc (drop i us) (drop i gs) (drop i bs) ≡ acc
folded_all acc us gs bs i h = folded-none acc (drop i us) (drop i gs) (drop i bs) (omega (arith, length-drop i us, length-drop i gs, length-drop i bs))

pub ruleset folds = (folded_more, folded_all)
