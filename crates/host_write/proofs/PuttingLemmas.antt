-- The puts of a row.
use Rattle.std.proofs.Common.{◌≡◌, ℕ, ◌+◌, ◌<◌, ◌≤◌, ◌-◌, ◌&&◌, nat_le, Bool, true, false, List, [], ◌∷◌, Some, None, length, get_or, drop, refl, ap, sym, ◌∙◌, arith}
use Rattle.std.proofs.lemmas.Bool.Decides.{nat_tests}
use Rattle.std.proofs.lemmas.List.{at_drop_more}
use Rattle.raid_base.specs.declared.numbers.Number.{Number}
use Rattle.raid_base.specs.declared.messages.Errand.{Errand}
use Rattle.raid_base.specs.declared.messages.Grant.{Grant}
use Rattle.raid_base.proofs.RunLemmas.{run-none}
use Rattle.attempts.specs.Parts.{is_part}
use Rattle.attempts.specs.Taking.{Access, Row, Taken}
use Rattle.attempts.specs.Puts.{Puts, at_row, data_puts, putting_data, parity_put}
use Rattle.attempts.specs.Writing.{put_rows, put_parity, data_done, write_last}
use Rattle.host_write.specs.Stages.{is_row, are_rows}
use Rattle.host_write.specs.declared.stages.WriteStage.TheVariants.{PutData, PutParity}
use Rattle.host_write.specs.Left.{left_of, row_at, puts_of}
use Rattle.host_write.proofs.ClaimLemmas.{part-most, part-some, part-within, row-of}

row-part : (n total : ℕ) (row : Row) → is_row n total row ≡ true → is_part n total row.part ≡ true
row-part n total row h = first (is_part n total row.part) (nat_le (length row.wanted) 16) (nat_le (length row.others) 16) h where
  first : (a b c : Bool) → (a && b && c) ≡ true → a ≡ true
  first true b c h = refl
  first false b c h = cc

-- what is known of a row of some
pub row-some : (n total : ℕ) (rows : List Row) (i : ℕ) (d : Row) → i < length rows → are_rows n total rows ≡ true → 1 ≤ (get_or rows i d).part.count
row-some n total rows i d h all = part-some n total (get_or rows i d).part (row-part n total (get_or rows i d) (row-of n total rows i d h all))

pub row-most : (n total : ℕ) (rows : List Row) (i : ℕ) (d : Row) → i < length rows → are_rows n total rows ≡ true → (get_or rows i d).part.count ≤ n - 1
row-most n total rows i d h all = part-most n total (get_or rows i d).part (row-part n total (get_or rows i d) (row-of n total rows i d h all))

pub row-within : (n total : ℕ) (rows : List Row) (i : ℕ) (d : Row) → i < length rows → are_rows n total rows ≡ true → (get_or rows i d).part.at + (get_or rows i d).part.count ≤ total
row-within n total rows i d h all = part-within n total (get_or rows i d).part (row-part n total (get_or rows i d) (row-of n total rows i d h all))

few-others : (n total : ℕ) (row : Row) → is_row n total row ≡ true → length row.others ≤ 16
few-others n total row h = grind (arith, nat_tests)

pub row-others : (n total : ℕ) (rows : List Row) (i : ℕ) (d : Row) → i < length rows → are_rows n total rows ≡ true → length (get_or rows i d).others ≤ 16
row-others n total rows i d h all = few-others n total (get_or rows i d) (row-of n total rows i d h all)

module _ (a : Access) (n : Number) (t : Taken) (rows : List Row) (k : ℕ) (puts : Puts) (row : Row) where
  -- the data puts begin a row
  pub data_begins : (es : List Errand) → k < length rows → row ≡ row_at rows k → es ≡ data_puts a n row
      → left_of (PutData n k) a t rows (at_row puts) es ≡ put_rows a n (write_last a n rows) (drop k rows) puts
  data_begins es h is asks =
      ap (λ xs. left_of (PutData n k) a t rows (at_row puts) xs) (asks ∙ ap (data_puts a n) is)
      ∙ sym (at_drop_more (λ left. put_rows a n (write_last a n rows) left puts) rows k _ h)

  -- where there are none the parity follows
  pub data_none : (es : List Errand) → k < length rows → row ≡ row_at rows k → es ≡ data_puts a n row → length es ≡ 0
      → put_parity a n (row_at rows k) (puts_of a n rows k) (at_row puts) (row_at rows k).parity ≡ put_rows a n (write_last a n rows) (drop k rows) puts
  data_none es h is asks none =
      sym (run-none (putting_data a n (row_at rows k)) es (at_row puts) (data_done a n (row_at rows k) (puts_of a n rows k)) none)
      ∙ data_begins es h is asks

  pub parity_begins : (es : List Errand) (grant : Grant) → row ≡ row_at rows k → es ≡ parity_put a n row ∷ [] → row.parity ≡ Some grant
      → left_of (PutParity n k) a t rows puts es ≡ put_parity a n (row_at rows k) (puts_of a n rows k) puts (row_at rows k).parity
  parity_begins es grant is asks some =
      ap (λ xs. left_of (PutParity n k) a t rows puts xs) (asks ∙ ap (λ r. parity_put a n r ∷ []) is)
      ∙ ap (put_parity a n (row_at rows k) (puts_of a n rows k) puts) (sym some ∙ ap (λ (r : Row). r.parity) is)

  pub parity_none : row ≡ row_at rows k → row.parity ≡ None
      → puts_of a n rows k puts ≡ put_parity a n (row_at rows k) (puts_of a n rows k) puts (row_at rows k).parity
  parity_none is none = ap (put_parity a n (row_at rows k) (puts_of a n rows k) puts) (sym none ∙ ap (λ (r : Row). r.parity) is)

pub ruleset puts = (row-some, row-most, row-within, row-others)
