-- Cells of contents, and tables of them.
use Rattle.std.proofs.Common.{◌≡◌, inl, inr, ◌∙◌, ℕ, zero, suc, ◌+◌, ◌-◌, ◌^◌, ◌<◌, ◌≤◌, ◌==◌, Bool, false, if◌then◌else◌, List, [], ◌∷◌, length, map, Some, refl, sym, ap, subst, arith}
use Rattle.std.specs.List.{range_with_len}
use Rattle.std.proofs.lemmas.Bool.Decides.{nat_tests}
use Rattle.std.proofs.lemmas.Nat.{pow_pos}
use Rattle.raid_base.specs.declared.numbers.BayNo.{BayNo}
use Rattle.raid_base.specs.declared.numbers.RowNo.{RowNo}
use Rattle.raid_base.specs.declared.cells.Cell.{Cell}
use Rattle.raid_base.specs.declared.cells.Content.{Content}
use Rattle.raid_base.specs.declared.cells.Content.TheVariants.{Bytes, Lost}
use Rattle.raid_base.specs.declared.messages.Call.{Call}
use Rattle.raid_base.specs.declared.messages.Request.{Request}
use Rattle.raid_base.specs.declared.messages.Request.TheVariants.{Share, Claim, Confirm, Put, Release, Lose, Fit}
use Rattle.raid_base.specs.Cells.{zeros, content_of}
use Rattle.raid_xor.specs.Laws.{AreBlocks}
use Rattle.raid_base.specs.declared.messages.Reply.{Reply}
use Rattle.raid_base.specs.Replies.{grant_of, held_of}
use Rattle.stripe_layout.specs.Placement.{parity_bay, bay_of, unit_at}
use Rattle.raid_xor.specs.Parities.{parity_of}
use Rattle.degraded_plans.specs.Rows.{IsSound, IsDataCell, AreDataCells}
use Rattle.degraded_plans.specs.Laws.{cell_of}
use Rattle.degraded_plans.proofs.SoundRows.{parity_blocks, parity_sound}
use Rattle.attempts.specs.Sound.{Cells, role_cell, cell_on, IsSoundRow, GrantShows, HeldShows, ReplyShows}
use Rattle.attempts.proofs.SoundLemmas.{parity-on, unit-on, one-parity}
use Rattle.histories.specs.Calls.{row_of}
use Rattle.serial_laws.specs.Contents.{cell_with, cells_with}
use Rattle.serial_laws.proofs.contents.ContentStates.{table, IsShownOf, AreShownIn}

-- the same contents of some units make the same cells
cells-same-from : (x y : ℕ → Content) (first count : ℕ) → ((unit : ℕ) → unit < first + count → x unit ≡ y unit) →
    map (λ unit. cell_with unit (x unit)) (range_with_len first count) ≡ map (λ unit. cell_with unit (y unit)) (range_with_len first count)
cells-same-from x y first zero same = refl
cells-same-from x y first (suc count) same =
    ap (λ (c : Content). cell_with first c ∷ map (λ unit. cell_with unit (x unit)) (range_with_len (first + 1) count)) (same first (omega arith))
    ∙ ap (λ (cs : List Cell). cell_with first (y first) ∷ cs) (cells-same-from x y (first + 1) count (λ unit below. same unit (omega (arith, below))))

pub cells-same : (n : ℕ) (x y : ℕ → Content) → ((unit : ℕ) → unit + 1 < n → x unit ≡ y unit) → cells_with n x ≡ cells_with n y
cells-same n x y same = cells-same-from x y 0 (n - 1) (λ unit below. same unit (omega (arith, below)))

-- how many they are, and which
range-length : (f : ℕ → Cell) (first count : ℕ) → length (map f (range_with_len first count)) ≡ count
range-length f first zero = refl
range-length f first (suc count) = let rest : length (map f (range_with_len (first + 1) count)) ≡ count = range-length f (first + 1) count in omega (arith, rest)

pub cells-count : (n : ℕ) (x : ℕ → Content) → length (cells_with n x) ≡ n - 1
cells-count n x = range-length (λ unit. cell_with unit (x unit)) 0 (n - 1)

range-at : (f : ℕ → Cell) (first count k : ℕ) → k < count → cell_of (map f (range_with_len first count)) k ≡ f (first + k)
range-at f first zero k below = absurd (omega arith)
range-at f first (suc count) zero below = let same : first ≡ first + 0 = omega arith in ap f same
range-at f first (suc count) (suc k) below = let same : first + 1 + k ≡ first + suc k = omega arith in range-at f (first + 1) count k (omega (arith, below)) ∙ ap f same

pub cells-at : (n : ℕ) (x : ℕ → Content) (unit : ℕ) → unit + 1 < n → cell_of (cells_with n x) unit ≡ cell_with unit (x unit)
cells-at n x unit below =
    let same : 0 + unit ≡ unit = omega arith in
    range-at (λ u. cell_with u (x u)) 0 (n - 1) unit (omega (arith, below)) ∙ ap (λ (u : ℕ). cell_with u (x u)) same

-- Tables
module _ (n : ℕ) (least : 3 ≤ n) (counted contents : RowNo → ℕ → Content) (row : RowNo) where
  pub table-unit : (unit : ℕ) → unit + 1 < n → cell_on n (table n counted contents) (bay_of n row unit) row ≡ cell_with unit (contents row unit)
  table-unit unit below = unit-on n (table n counted contents) row unit least (omega (arith, below)) ∙ cells-at n (contents row) unit below

  pub table-parity : cell_on n (table n counted contents) (parity_bay n row) row ≡ parity_of (cells_with n (counted row))
  table-parity = parity-on n (table n counted contents) row

-- What a call was shown of a row hangs on the cells of that row alone
module _ (n : ℕ) (x y : Cells) (row : RowNo) (parity : x.parity row ≡ y.parity row) (cells : x.units row ≡ y.units row) where
  cell-same : (bay : BayNo) → cell_on n x bay row ≡ cell_on n y bay row
  cell-same bay =
      ap (λ (p : Cell). role_cell p (x.units row) (unit_at n row bay)) parity
      ∙ ap (λ (cs : List Cell). role_cell (y.parity row) cs (unit_at n row bay)) cells

  cell-at : (bay : BayNo) (at : RowNo) → Some at ≡ Some row → cell_on n x bay at ≡ cell_on n y bay at
  cell-at bay at e = let same : at ≡ row = cc in subst (λ (r : RowNo). cell_on n x bay r ≡ cell_on n y bay r) (sym same) (cell-same bay)

  reply-same : (bay : BayNo) (what : Request) (reply : Reply) → row_of what ≡ Some row → ReplyShows n x bay what reply → ReplyShows n y bay what reply
  reply-same bay (Share at id want) reply of h = subst (λ (c : Cell). GrantShows c (grant_of reply)) (cell-at bay at of) h
  reply-same bay (Claim at id how mask want) reply of h = subst (λ (c : Cell). GrantShows c (grant_of reply)) (cell-at bay at of) h
  reply-same bay (Confirm at id want) reply of h = subst (λ (c : Cell). HeldShows c (held_of reply)) (cell-at bay at of) h
  reply-same bay (Put at id k cell) reply of h = tt
  reply-same bay (Release at id k) reply of h = tt
  reply-same bay Lose reply of h = tt
  reply-same bay Fit reply of h = tt

  pub shown-same : (call : Call) → row_of call.ask.what ≡ Some row → IsShownOf n x call → IsShownOf n y call
  shown-same call of h = reply-same call.bay call.ask.what call.answer.reply of h

  pub all-shown-same : (calls : List Call) → AreShownIn n row x calls → AreShownIn n row y calls
  all-shown-same [] h = tt
  all-shown-same (call ∷ earlier) h = (λ of. shown-same call of (h.0 of), all-shown-same earlier h.1)

-- the same for tables of contents
module _ (n : ℕ) (counted contents counted' contents' : RowNo → ℕ → Content) (row : RowNo) (calls : List Call)
    (parity : (unit : ℕ) → unit + 1 < n → counted row unit ≡ counted' row unit) (cells : (unit : ℕ) → unit + 1 < n → contents row unit ≡ contents' row unit) where
  pub tables-show : AreShownIn n row (table n counted contents) calls → AreShownIn n row (table n counted' contents') calls
  tables-show =
      all-shown-same n (table n counted contents) (table n counted' contents') row (ap parity_of (cells-same n (counted row) (counted' row) parity))
      (cells-same n (contents row) (contents' row) cells) calls

-- Contents and their cells
power-some : (unit : ℕ) → (2 ^ unit == 0) ≡ false
power-some unit = let some = pow_pos unit in grind (arith, nat_tests)

pub content-back : (unit : ℕ) (c : Content) → content_of (cell_with unit c) ≡ c
content-back unit (Bytes bytes) = refl
content-back unit Lost = ap (λ (b : Bool). if b then Bytes zeros else Lost) (power-some unit)

data-cell : (unit : ℕ) (c : Content) → IsDataCell unit (cell_with unit c)
data-cell unit (Bytes bytes) = inl refl
data-cell unit Lost = inr (refl, refl)

data-cells : (x : ℕ → Content) (first count : ℕ) → AreDataCells first (map (λ unit. cell_with unit (x unit)) (range_with_len first count))
data-cells x first zero = tt
data-cells x first (suc count) = (data-cell first (x first), data-cells x (first + 1) count)

pub cells-data : (n : ℕ) (x : ℕ → Content) → AreDataCells 0 (cells_with n x)
cells-data n x = data-cells x 0 (n - 1)

-- a table whose parities count its contents is sound
pub table-sound : (n : ℕ) (contents : RowNo → ℕ → Content) (row : RowNo) → AreBlocks (cells_with n (contents row)) → IsSoundRow n (table n contents contents) row
table-sound n contents row blocks = record {
  count = cells-count n (contents row);
  blocks = parity_blocks (cells_with n (contents row)) blocks;
  sound = parity_sound (cells_with n (contents row)) blocks (cells-data n (contents row));
}

-- one parity is sound with a row
pub sound-parity : (parity : Cell) (cells : List Cell) → AreBlocks (parity ∷ cells) → AreDataCells 0 cells → IsSound parity cells → parity ≡ parity_of cells
sound-parity parity cells blocks data_cells sound =
    let both = parity_blocks cells blocks.1 in
    one-parity parity (parity_of cells) cells (blocks.0, both) sound (parity_sound cells blocks.1 data_cells)
