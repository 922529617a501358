-- What a report takes from a finished array: its contents one after another, its cells row by row, and its open rows.
use Rattle.std.proofs.Common.{◌≡◌, ℕ, ◌<◌, ◌≤◌, ◌+◌, ◌-◌, Bool, false, not, List, [], ◌∷◌, ◌++◌, map, take, drop, get_or, length, Option, refl, sym, ap, ◌∙◌, arith}
use Rattle.std.proofs.Math.Seq.{take-append_seam, drop-append_seam}
use Rattle.std.proofs.lemmas.List.FromFn.{fill_by_all}
use Rattle.virtual_objects.proofs.PartLemmas.{map-range_same}
use Rattle.std.specs.List.{flat_map, range_with_len}
use Rattle.raid_base.specs.declared.numbers.BayNo.{BayNo}
use Rattle.raid_base.specs.declared.numbers.RowNo.{RowNo}
use Rattle.raid_base.specs.declared.cells.Cell.{Cell}
use Rattle.raid_base.specs.declared.cells.Content.{Content}
use Rattle.raid_base.specs.declared.jobs.JobResult.{JobResult}
use Rattle.stripe_layout.specs.Placement.{parity_bay, bay_of, units}
use Rattle.degraded_plans.specs.Rows.{RowCells, shown}
use Rattle.script_text.specs.Script.{Script}
use Rattle.report_text.specs.Rows.{cell_in, unit_in, row_in, shown_in}
use Rattle.report_text.specs.Views.{contents_of, contents_by_result}

-- each result has as many contents as its job has blocks, if it is a read, and else none
abbrev pub HaveContents : Script → List JobResult → List (List Content) → Type 0
HaveContents script [] [] = Unit {0}
HaveContents script [] (read ∷ contents) = ⊥
HaveContents script (result ∷ results) [] = ⊥
HaveContents script (result ∷ results) (read ∷ contents) = (length read ≡ contents_of script result) × HaveContents script results contents

-- contents that were put one after another come back result by result
pub contents-back : (script : Script) (results : List JobResult) (contents : List (List Content)) → HaveContents script results contents → contents_by_result script results (flat_map (λ read. read) contents) ≡ contents
contents-back script [] [] h = refl
contents-back script [] (read ∷ contents) h = absurd h
contents-back script (result ∷ results) [] h = absurd h
contents-back script (result ∷ results) (read ∷ contents) h =
    let later = flat_map (λ (r : List Content). r) contents in
    let first : take (contents_of script result) (read ++ later) ≡ read = ap (λ n. take n (read ++ later)) (sym h.0) ∙ take-append_seam read later in
    let others : drop (contents_of script result) (read ++ later) ≡ later = ap (λ n. drop n (read ++ later)) (sym h.0) ∙ drop-append_seam read later in
    ap (λ x. x ∷ contents_by_result script results (drop (contents_of script result) (read ++ later))) first
    ∙ ap (λ x. read ∷ contents_by_result script results x) others
    ∙ ap (λ x. read ∷ x) (contents-back script results contents h.1)

-- the cells of a row are those that another view of the array tells
pub row-same : (n : ℕ) (cells : List (Option Cell)) (row : RowNo) (cell : BayNo → Option Cell) → 3 ≤ n
    → ((bay : BayNo) → bay.0 < n → cell_in n cells row bay ≡ cell bay)
    → row_in n cells row ≡ record { parity = cell (parity_bay n row); units = map (λ unit. cell (bay_of n row unit)) (units n) }
row-same n cells row cell three same =
    let all : map (unit_in n cells row) (units n) ≡ map (λ unit. cell (bay_of n row unit)) (units n) =
    map-range_same (unit_in n cells row) (λ unit. cell (bay_of n row unit)) 0 0 (n - 1) (λ k h. same (bay_of n row (0 + k)) (omega arith)) in
    let with_parity : Option Cell → RowCells = λ x. record { parity = x; units = map (unit_in n cells row) (units n) } in
    let with_units : List (Option Cell) → RowCells = λ x. record { parity = cell (parity_bay n row); units = x } in
    ap with_parity (same (parity_bay n row) (omega arith)) ∙ ap with_units all

-- and so is what is shown of a unit
pub shown-same : (n : ℕ) (cells : List (Option Cell)) (opened : List Bool) (row : RowNo) (unit : ℕ) (cell : BayNo → Option Cell) (open_row : Bool) → 3 ≤ n
    → ((bay : BayNo) → bay.0 < n → cell_in n cells row bay ≡ cell bay) → get_or opened row.0 false ≡ open_row
    → shown_in n cells opened row unit ≡ shown open_row (record { parity = cell (parity_bay n row); units = map (λ u. cell (bay_of n row u)) (units n) }) unit
shown-same n cells opened row unit cell open_row three same is =
    ap (λ o. shown o (row_in n cells row) unit) is ∙ ap (λ r. shown open_row r unit) (row-same n cells row cell three same)

not-all : (open_row : ℕ → Bool) (rows : List ℕ) → map not (map open_row rows) ≡ map (λ k. not (open_row k)) rows
not-all open_row [] = refl
not-all open_row (row ∷ rows) = ap (λ x. not (open_row row) ∷ x) (not-all open_row rows)

-- the closed rows are those that are not open
pub closed-same : (opened : List Bool) (rows : ℕ) (open_row : ℕ → Bool) → length opened ≡ rows → ((k : ℕ) → k < rows → get_or opened k false ≡ open_row k)
    → map not opened ≡ map (λ k. not (open_row k)) (range_with_len 0 rows)
closed-same opened rows open_row all same = ap (map not) (fill_by_all open_row opened rows false all same) ∙ not-all open_row (range_with_len 0 rows)
