-- Claims of a row.
use Rattle.std.proofs.Common.{◌≡◌, ℕ, ◌+◌, ◌<◌, ◌≤◌, ◌-◌, ◌&&◌, nat_le, not, Bool, true, false, IsTrue, List, [], ◌∷◌, ◌++◌, length, get_or, drop, refl, ap, sym, ◌∙◌, arith}
use Rattle.std.specs.List.{list_all, range_with_len}
use Rattle.std.proofs.lemmas.Bool.Decides.{nat_tests}
use Rattle.std.proofs.lemmas.List.{at_drop_more, length_push}
use Rattle.std.proofs.lemmas.List.Filters.{length-filter_both}
use Rattle.std.proofs.lemmas.List.Folds.{list_all_at, list_all-append}
use Rattle.std.proofs.lemmas.List.FromFn.{length-range_with_len}
use Rattle.raid_base.proofs.RunLemmas.{run-none}
use Rattle.raid_base.specs.declared.jobs.RowPart.{RowPart}
use Rattle.raid_base.specs.declared.messages.Errand.{Errand}
use Rattle.raid_base.specs.Cells.{has_unit}
use Rattle.raid_base.specs.Steps.{bind, run}
use Rattle.stripe_layout.specs.Placement.{units_in}
use Rattle.attempts.specs.Parts.{blocks_in, is_part, are_parts}
use Rattle.attempts.specs.Taking.{Access, Row, Rows, Taken, begun, with_parity}
use Rattle.attempts.specs.Puts.{Puts}
use Rattle.attempts.specs.Writing.{claiming, parity_claim, parity_claimed, claim_rows, confirm_rows, row_confirm}
use Rattle.host_write.specs.Stages.{is_row, are_rows}
use Rattle.host_write.specs.declared.stages.WriteStage.TheVariants.{ClaimParity, Confirm}
use Rattle.host_write.specs.Left.{left_of, row_at, confirmed_so_far}

pub ruleset none_asked = (run-none)

counted : (n total : ℕ) (part : RowPart) → is_part n total part ≡ true → part.count ≡ length (units_in n part.mask)
counted n total part h = grind (arith, nat_tests)

-- a part has no more units than a row
pub part-most : (n total : ℕ) (part : RowPart) → is_part n total part ≡ true → part.count ≤ n - 1
part-most n total part h =
    omega (arith, counted n total part h, length-filter_both (has_unit part.mask) (λ unit. not (has_unit part.mask unit)) (λ _. refl) (range_with_len 0 (n - 1)), length-range_with_len 0 (n - 1))

pub part-some : (n total : ℕ) (part : RowPart) → is_part n total part ≡ true → 1 ≤ part.count
part-some n total part h = grind (arith, nat_tests)

pub part-within : (n total : ℕ) (part : RowPart) → is_part n total part ≡ true → part.at + part.count ≤ total
part-within n total part h = grind (arith, nat_tests)

all-at : {X : Type 0} (p : X → Bool) (xs : List X) (i : ℕ) (d : X) → i < length xs → list_all p xs ≡ true → p (get_or xs i d) ≡ true
all-at p xs i d h all = at_true (p (get_or xs i d)) (list_all_at p xs i d h) where
  at_true : (b : Bool) → (b ≡ false → list_all p xs ≡ false) → b ≡ true
  at_true true f = refl
  at_true false f = cc (f refl)

-- each of the parts is one
pub part-at : (n : ℕ) (parts : List RowPart) (i : ℕ) (d : RowPart) → i < length parts → IsTrue (are_parts n parts) → is_part n (blocks_in parts) (get_or parts i d) ≡ true
part-at n parts i d h formed = all-at (is_part n (blocks_in parts)) parts i d h (last (nat_le 1 (length parts)) (nat_le (length parts) 8) (nat_le (blocks_in parts) 120) (list_all (is_part n (blocks_in parts)) parts) formed) where
  last : (a b c e : Bool) → (a && b && c && e) ≡ true → e ≡ true
  last true true true e h = h
  last true true false e h = cc
  last true false c e h = cc
  last false b c e h = cc

rows-all : (n total : ℕ) (rows : List Row) → are_rows n total rows ≡ true → list_all (is_row n total) rows ≡ true
rows-all n total rows h = second (nat_le (length rows) 8) (list_all (is_row n total) rows) h where
  second : (a b : Bool) → (a && b) ≡ true → b ≡ true
  second true b h = h
  second false b h = cc

pub row-of : (n total : ℕ) (rows : List Row) (i : ℕ) (d : Row) → i < length rows → are_rows n total rows ≡ true → is_row n total (get_or rows i d) ≡ true
row-of n total rows i d h all = all-at (is_row n total) rows i d h (rows-all n total rows all)

-- one more row
pub rows-push : (n total : ℕ) (rows : List Row) (row : Row) → length rows < 8 → are_rows n total rows ≡ true → is_row n total row ≡ true → are_rows n total (rows ++ row ∷ []) ≡ true
rows-push n total rows row h all one =
    both (nat_le (length (rows ++ row ∷ [])) 8) (list_all (is_row n total) (rows ++ row ∷ [])) few each where
      both : (a b : Bool) → a ≡ true → b ≡ true → (a && b) ≡ true
      both true b e f = f
      both false b e f = cc

      few : nat_le (length (rows ++ row ∷ [])) 8 ≡ true
      few = grind (arith, nat_tests, length_push rows row)

      each : list_all (is_row n total) (rows ++ row ∷ []) ≡ true
      each = list_all-append (is_row n total) rows (row ∷ []) ∙ both (list_all (is_row n total) rows) (list_all (is_row n total) (row ∷ [])) (rows-all n total rows all) (both (is_row n total row) true one refl)

pub ruleset parts = (part-most, part-some, part-at, rows-push, row-of)

-- the claim of a parity begins a row
pub row_begins : (a : Access) (done : Rows) (i : ℕ) (d part : RowPart) (t : Taken) (rows : List Row) (puts : Puts) (es : List Errand)
    → i < length a.parts → part ≡ get_or a.parts i d → t ≡ begun part done → es ≡ parity_claim a part ∷ [] → length done.rows ≡ i
    → left_of ClaimParity a t rows puts es ≡ claim_rows a (drop i a.parts) done
row_begins a done i d part t rows puts es h is begins asks many =
    ap (λ xs. left_of ClaimParity a t rows puts xs) asks
    ∙ ap (λ u. left_of ClaimParity a u rows puts (parity_claim a part ∷ [])) begins
    ∙ ap (λ k. bind (run (claiming a with_parity) (parity_claim a part ∷ []) (begun part done)) (parity_claimed a (claim_rows a (drop (k + 1) a.parts)))) many
    ∙ ap (λ p. claim_rows a (p ∷ drop (i + 1) a.parts) done) is
    ∙ sym (at_drop_more (λ ps. claim_rows a ps done) a.parts i d h)

-- the confirm of a row begins it
pub confirm_begins : (a : Access) (t : Taken) (rows : List Row) (puts : Puts) (row : Row) (es : List Errand)
    → length rows < length t.before → row ≡ row_at t.before (length rows) → es ≡ row_confirm a row ∷ []
    → left_of Confirm a t rows puts es ≡ confirm_rows a t.before (drop (length rows) t.before) (confirmed_so_far t rows)
confirm_begins a t rows puts row es h is asks =
    ap (λ xs. left_of Confirm a t rows puts xs) (asks ∙ ap (λ r. row_confirm a r ∷ []) is)
    ∙ sym (at_drop_more (λ left. confirm_rows a t.before left (confirmed_so_far t rows)) t.before (length rows) _ h)
