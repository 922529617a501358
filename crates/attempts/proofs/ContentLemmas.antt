-- Cells and contents of a row.
use Rattle.std.proofs.Common.{◌≡◌, ℕ, ◌+◌, ◌<◌, ◌≤◌, min, List, [], ◌∷◌, ◌++◌, append_assoc, append-nil, Option, Some, None, length, get_or, take, drop, map, zip, refl, ap, sym, ◌∙◌}
use Rattle.std.proofs.lemmas.List.{take_more}
use Rattle.raid_base.specs.declared.messages.Grant.{Grant}
use Rattle.raid_base.specs.declared.cells.Content.{Content}
use Rattle.attempts.specs.Taking.{Row}
use Rattle.attempts.specs.Reading.{cell_in, cells_in, unit_content}
use Rattle.attempts.proofs.UnitLemmas.{at_zip_more, at_zip_all}

cells-append : (xs ys : List (Option Grant)) → cells_in (xs ++ ys) ≡ cells_in xs ++ cells_in ys
cells-append [] ys = refl
cells-append (Some x ∷ xs) ys = ap (λ cs. cell_in x ∷ cs) (cells-append xs ys)
cells-append (None ∷ xs) ys = cells-append xs ys

pub cells_more : (xs : List (Option Grant)) (i : ℕ) (d : Option Grant) → i < length xs → cells_in (take (i + 1) xs) ≡ cells_in (take i xs) ++ cells_in (get_or xs i d ∷ [])
cells_more xs i d h = ap cells_in (take_more xs i d h) ∙ cells-append (take i xs) (get_or xs i d ∷ [])

-- the contents of the pairs that are left
pub contents_more : (row : Row) (acc : List Content) (us : List ℕ) (gs : List (Option Grant)) (i : ℕ) (d : ℕ) (e : Option Grant) → i < length us → i < length gs
    → acc ++ map (unit_content row) (zip (drop i us) (drop i gs))
    ≡ (acc ++ unit_content row (get_or us i d, get_or gs i e) ∷ []) ++ map (unit_content row) (zip (drop (i + 1) us) (drop (i + 1) gs))
contents_more row acc us gs i d e h g =
    ap (λ xs. acc ++ xs) (at_zip_more (map (unit_content row)) us gs i d e h g)
    ∙ sym (append_assoc acc (unit_content row (get_or us i d, get_or gs i e) ∷ []) (map (unit_content row) (zip (drop (i + 1) us) (drop (i + 1) gs))))

pub contents_all : (row : Row) (acc : List Content) (us : List ℕ) (gs : List (Option Grant)) (i : ℕ) → min (length us) (length gs) ≤ i
    → acc ++ map (unit_content row) (zip (drop i us) (drop i gs)) ≡ acc
contents_all row acc us gs i h = ap (λ xs. acc ++ xs) (at_zip_all (map (unit_content row)) us gs i h) ∙ append-nil acc

pub ruleset contents = (contents_more, contents_all)
