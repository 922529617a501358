-- What is left of the lines of rows.
use Rattle.std.proofs.Common.{◌≡◌, ℕ, ◌<◌, ◌≤◌, ◌+◌, Bool, false, not, List, [], ◌∷◌, ◌++◌, map, drop, get_or, length, sym, ap, ◌∙◌, append_assoc, append-nil, arith}
use Rattle.std.proofs.lemmas.List.{at_drop_more, at_drop_all}
use Rattle.report_text.specs.Report.{row_line, row_lines}

pub rows-turn : (opened : List Bool) (i : ℕ) → i < length opened → row_lines i (map not (drop i opened)) ≡ row_line i (not (get_or opened i false)) ++ row_lines (i + 1) (map not (drop (i + 1) opened))
rows-turn opened i h = at_drop_more (λ xs. row_lines i (map not xs)) opened i false h

pub rows-end : (opened : List Bool) (i : ℕ) → length opened ≤ i → row_lines i (map not (drop i opened)) ≡ []
rows-end opened i h = at_drop_all (λ xs. row_lines i (map not xs)) opened i h

-- one more row
pub rows-push : (row : ℕ) (rows : List Bool) (closed : Bool) → row_lines row (rows ++ closed ∷ []) ≡ row_lines row rows ++ row_line (row + length rows) closed
rows-push row [] closed =
    let same : row ≡ row + 0 = omega arith in
    append-nil (row_line row closed) ∙ ap (λ k. row_line k closed) same
rows-push row (c ∷ rows) closed =
    let next : row + 1 + length rows ≡ row + length (c ∷ rows) = omega arith in
    ap (λ x. row_line row c ++ x) (rows-push (row + 1) rows closed ∙ ap (λ k. row_lines (row + 1) rows ++ row_line k closed) next)
    ∙ sym (append_assoc (row_line row c) (row_lines (row + 1) rows) (row_line (row + length (c ∷ rows)) closed))

-- one more row of a text
pub rows-read : (text left rest : List ℕ) (rows more : List Bool) (row : ℕ) (closed : Bool) → length rows ≡ row → text ≡ row_lines 0 rows ++ left → left ≡ row_line row closed ++ rest → more ≡ rows ++ closed ∷ [] → text ≡ row_lines 0 more ++ rest
rows-read text left rest rows more row closed n t l m =
    let at : row ≡ 0 + length rows = omega arith in
    t ∙ ap (λ x. row_lines 0 rows ++ x) (l ∙ ap (λ k. row_line k closed ++ rest) at)
    ∙ sym (append_assoc (row_lines 0 rows) (row_line (0 + length rows) closed) rest)
    ∙ ap (λ x. x ++ rest) (sym (rows-push 0 rows closed)) ∙ ap (λ x. row_lines 0 x ++ rest) (sym m)
