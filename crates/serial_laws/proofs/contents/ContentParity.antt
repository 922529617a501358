-- What the cells of rows say: each unit shows its content, and a parity without a note is sound with its row.
use Rattle.std.proofs.Common.{◌≡◌, ◌⊎◌, inl, inr, ◌∙◌, ℕ, zero, suc, ◌+◌, ◌-◌, ◌<◌, ◌≤◌, ◌==◌, ◌||◌, Bool, true, false, List, [], ◌∷◌, ◌++◌, length, map, take, drop, Option, Some, None, is_some, nat_lt, slice_get, mod-lt, refl, sym, ap, subst, arith}
use Rattle.std.specs.List.{range_with_len, list_any}
use Rattle.std.proofs.lemmas.Bool.Decides.{nat_tests}
use Rattle.std.proofs.lemmas.List.FromFn.{take-map-range_with_len}
use Rattle.raid_base.specs.declared.numbers.BayNo.{BayNo}
use Rattle.raid_base.specs.declared.numbers.RowNo.{RowNo}
use Rattle.raid_base.specs.declared.cells.Cell.{Cell}
use Rattle.raid_base.specs.declared.cells.Content.{Content}
use Rattle.raid_base.specs.declared.cells.Shown.TheVariants.{Seen, Hidden}
use Rattle.raid_base.specs.declared.messages.Note.{Note}
use Rattle.raid_base.specs.declared.messages.Call.{Call}
use Rattle.raid_base.specs.Cells.{content_of}
use Rattle.raid_xor.specs.Laws.{AreBlocks}
use Rattle.stripe_layout.specs.Placement.{parity_bay, bay_of, bays_of, units}
use Rattle.stripe_layout.proofs.LayoutLemmas.{unit_distinct}
use Rattle.raid_xor.specs.Parities.{parity_of}
use Rattle.degraded_plans.specs.Rows.{RowCells, IsSound, all_present, with_cell, IsSoundIfPresent, rebuilt, others_of, shown_missing, shown_cell}
use Rattle.degraded_plans.specs.Missing.{missing_of}
use Rattle.degraded_plans.proofs.SoundRows.{parity_blocks, parity_sound}
use Rattle.degraded_plans.proofs.Writes.{others_make}
use Rattle.attempts.specs.Sound.{IsThis}
use Rattle.script_text.specs.Script.{Script}
use Rattle.script_text.specs.Ranges.{IsScript}
use Rattle.histories.specs.History.{IsHistory}
use Rattle.histories.specs.RowStates.{slot_at, cell_at, row_cells, is_open, AreRowsSound}
use Rattle.serial_laws.specs.Laws.{content_at, IsCellOf, CellsAreCommitted, IsSoundBut, IsSoundOrFilled, IsParityGood, ParityIsCovered, ParityIsKept}
use Rattle.serial_laws.specs.Contents.{base_at, cell_with, cells_with, HoldsContents, IsPending, ContentsAreShown}
use Rattle.histories.proofs.missing.MissingBays.{one_bay_is_missing}
use Rattle.serial_laws.proofs.contents.ContentFacts.{cells-same, cells-count, cells-at, content-back, cells-data}
use Rattle.serial_laws.proofs.contents.ContentsCovered.{contents_are_covered}
use Rattle.serial_laws.proofs.contents.ContentRows.{rows_hold_contents}

-- Units
pub cells_are_committed : CellsAreCommitted
cells_are_committed script history is along row unit below inside =
    by (cell_at script history row (bay_of script.n row unit)) ((rows_hold_contents script history is along row below).units unit inside)
  where
    by : (o : Option Cell) → IsThis (cell_with unit (content_at script history row unit)) o → IsCellOf (content_at script history row unit) o
    by None h = tt
    by (Some cell) h = ap content_of h ∙ content-back unit (content_at script history row unit)

-- Ranges of units
module _ {X : Type 0} (f : ℕ → X) where
  get-range : (first count k : ℕ) → k < count → slice_get (map f (range_with_len first count)) k ≡ Some (f (first + k))
  get-range first zero k l = absurd (omega arith)
  get-range first (suc count) zero l = let same : first ≡ first + 0 = omega arith in ap (λ (x : ℕ). Some (f x)) same
  get-range first (suc count) (suc k) l = let same : first + 1 + k ≡ first + suc k = omega arith in get-range (first + 1) count k (omega arith) ∙ ap (λ (x : ℕ). Some (f x)) same

  get-past : (first count k : ℕ) → count ≤ k → slice_get (map f (range_with_len first count)) k ≡ None
  get-past first zero k l = refl
  get-past first (suc count) zero l = absurd (omega arith)
  get-past first (suc count) (suc k) l = get-past (first + 1) count k (omega arith)

  drop-range : (first count k : ℕ) → k ≤ count → drop k (map f (range_with_len first count)) ≡ map f (range_with_len (first + k) (count - k))
  drop-range first count zero l =
      let same : first ≡ first + 0 = omega arith in
      let all : count ≡ count - 0 = omega arith in
      ap (λ (x : ℕ). map f (range_with_len x count)) same ∙ ap (λ (k : ℕ). map f (range_with_len (first + 0) k)) all
  drop-range first zero (suc k) l = absurd (omega arith)
  drop-range first (suc count) (suc k) l =
      let same : first + 1 + k ≡ first + suc k = omega arith in
      let left : count - k ≡ suc count - suc k = omega arith in
      drop-range (first + 1) count k (omega arith) ∙ ap (λ (x : ℕ). map f (range_with_len x (count - k))) same ∙ ap (λ (x : ℕ). map f (range_with_len (first + suc k) x)) left

module _ (due : ℕ → Cell) (shown : ℕ → Option Cell) where
  -- each of these units has its cell, or one of them has none
  abbrev AreDue : ℕ → ℕ → Type 0
  AreDue first count = (unit : ℕ) → first ≤ unit → unit < first + count → IsThis (due unit) (shown unit)

  abbrev Given : ℕ → ℕ → Type 0
  Given first count = all_present (map shown (range_with_len first count)) ≡ Some (map due (range_with_len first count))

  record Lacks (first count : ℕ) : Type 0 where
    unit : ℕ
    low : first ≤ unit
    high : unit < first + count
    none : shown unit ≡ None

  later-due : (first count : ℕ) → AreDue first (suc count) → AreDue (first + 1) count
  later-due first count h unit low high = h unit (omega (arith, low)) (omega (arith, high))

  given-or : (first count : ℕ) → AreDue first count → Given first count ⊎ Lacks first count
  given-or first zero h = inl refl
  given-or first (suc count) h = by (shown first) refl (h first (omega arith) (omega arith)) (given-or (first + 1) count (later-due first count h))
    where
      by : (o : Option Cell) → shown first ≡ o → IsThis (due first) o → Given (first + 1) count ⊎ Lacks (first + 1) count → Given first (suc count) ⊎ Lacks first (suc count)
      by None e is rest = inr (record { unit = first; low = omega arith; high = omega arith; none = e })
      by (Some cell) e is (inl given) =
          inl
          (ap (λ (o : Option Cell). with_cell o (all_present (map shown (range_with_len (first + 1) count)))) e
          ∙ ap (λ (o : Option (List Cell)). with_cell (Some cell) o) given
          ∙ ap (λ (c : Cell). Some (c ∷ map due (range_with_len (first + 1) count))) is)
      by (Some cell) e is (inr lacks) = let low = lacks.low in let high = lacks.high in inr (record { unit = lacks.unit; low = omega (arith, low); high = omega (arith, high); none = lacks.none })

  given : (first count : ℕ) → AreDue first count → (Lacks first count → ⊥) → Given first count
  given first count h none = by (given-or first count h)
    where
      by : Given first count ⊎ Lacks first count → Given first count
      by (inl g) = g
      by (inr l) = absurd (none l)

-- a list with a gap isn't all there
pub gap-none : (first count : ℕ) (shown : ℕ → Option Cell) (unit : ℕ) → first ≤ unit → unit < first + count → shown unit ≡ None → all_present (map shown (range_with_len first count)) ≡ None
gap-none first zero shown unit low high none = absurd (omega arith)
gap-none first (suc count) shown unit low high none = by (first == unit) refl (λ (apart : first + 1 ≤ unit). gap-none (first + 1) count shown unit apart (omega (arith, high)) none)
  where
    rest : (o : Option Cell) → with_cell o None ≡ None
    rest None = refl
    rest (Some cell) = refl

    by : (b : Bool) → (first == unit) ≡ b → (first + 1 ≤ unit → all_present (map shown (range_with_len (first + 1) count)) ≡ None) →
        with_cell (shown first) (all_present (map shown (range_with_len (first + 1) count))) ≡ None
    by true e later =
        let same : unit ≡ first = grind (arith, nat_tests) in
        ap (λ (o : Option Cell). with_cell o (all_present (map shown (range_with_len (first + 1) count)))) (ap shown (sym same) ∙ none)
    by false e later =
        let apart : first + 1 ≤ unit = grind (arith, nat_tests) in
        ap (λ (o : Option (List Cell)). with_cell (shown first) o) (later apart) ∙ rest (shown first)

all-append : (xs ys : List (Option Cell)) (cs ds : List Cell) → all_present xs ≡ Some cs → all_present ys ≡ Some ds → all_present (xs ++ ys) ≡ Some (cs ++ ds)
all-append [] ys cs ds e f = let none : [] ≡ cs = cc in f ∙ ap (λ (front : List Cell). Some (front ++ ds)) none
all-append (None ∷ xs) ys cs ds e f = absurd (cc)
all-append (Some c ∷ xs) ys cs ds e f = by (all_present xs) refl e (λ rest is. all-append xs ys rest ds is f)
  where
    by : (o : Option (List Cell)) → all_present xs ≡ o → with_cell (Some c) o ≡ Some cs → ((rest : List Cell) → all_present xs ≡ Some rest → all_present (xs ++ ys) ≡ Some (rest ++ ds)) →
        with_cell (Some c) (all_present (xs ++ ys)) ≡ Some (cs ++ ds)
    by None is all further = absurd (cc)
    by (Some rest) is all further =
        let same : c ∷ rest ≡ cs = cc in
        ap (λ (o : Option (List Cell)). with_cell (Some c) o) (further rest is) ∙ ap (λ (front : List Cell). Some (front ++ ds)) same

module _ (script : Script) (is : IsScript script) (history : List Call) (along : IsHistory script history) (row : RowNo) (below : row.0 < script.rows) where
  abbrev n : ℕ
  n = script.n

  abbrev P : BayNo
  P = parity_bay script.n row

  hold : HoldsContents script history row
  hold = rows_hold_contents script history is along row below

  abbrev due : ℕ → Cell
  due unit = cell_with unit (content_at script history row unit)

  abbrev shown : ℕ → Option Cell
  shown unit = cell_at script history row (bay_of script.n row unit)

  abbrev cells : List Cell
  cells = cells_with script.n (content_at script history row)

  all-due : AreDue due shown 0 (n - 1)
  all-due unit low high = (hold).units unit (omega (arith, high))

  -- one unit at most is missing
  one-lacks : (u v : ℕ) → u < n - 1 → v < n - 1 → shown u ≡ None → shown v ≡ None → u ≡ v
  one-lacks u v hu hv eu ev =
      unit_distinct n row u v is.devices_least hu hv
      (one_bay_is_missing script history is along (bay_of n row u) (bay_of n row v) (bay-below u) (bay-below v) (row, below, ap is_some eu) (row, below, ap is_some ev))
    where
      bay-below : (u : ℕ) → (bay_of n row u).0 < n
      bay-below u = let wide = is.devices_least in mod-lt ((parity_bay n row).0 + 1 + u) (omega (arith, wide))

  -- the parity is there and has no note
  module _ (parity : Cell) (there : cell_at script history row P ≡ Some parity) (free : (slot_at script history P row).note ≡ None) where
    settled : (unit : ℕ) → unit + 1 < n → content_at script history row unit ≡ base_at script history row unit
    settled unit inside = by (contents_are_covered script history is along row unit below inside)
      where
        by : (content_at script history row unit ≡ base_at script history row unit) ⊎ ((cell_at script history row P ≡ None) ⊎ ((note : Note) × IsPending script history row unit note)) →
            content_at script history row unit ≡ base_at script history row unit
        by (inl same) = same
        by (inr (inl none)) = absurd (let bad : Some parity ≡ None = sym there ∙ none in cc)
        by (inr (inr (note, pending))) = absurd (let bad : Some note ≡ None = sym pending.noted ∙ free in cc)

    is-parity : parity ≡ parity_of cells
    is-parity =
        subst (λ (o : Option Cell). IsThis (parity_of (cells_with script.n (base_at script history row))) o) there (hold).parity
        ∙ ap parity_of (sym (cells-same n (content_at script history row) (base_at script history row) settled))

    sound : IsSound parity cells
    sound = subst (λ (p : Cell). IsSound p cells) (sym is-parity) (parity_sound cells (hold).blocks (cells-data n (content_at script history row)))

    blocks : AreBlocks (parity ∷ cells)
    blocks = subst (λ (p : Cell). AreBlocks (p ∷ cells)) (sym is-parity) (parity_blocks cells (hold).blocks)

    whole : Given due shown 0 (n - 1) → IsSoundOrFilled parity (row_cells script history row).units (all_present (row_cells script history row).units)
    whole g = subst (λ (o : Option (List Cell)). IsSoundOrFilled parity (row_cells script history row).units o) (sym g) sound

    -- but one unit
    module _ (l : Lacks due shown 0 (n - 1)) where
      front : Given due shown 0 l.unit
      front = given due shown 0 l.unit (λ unit low high. all-due unit low (let top = l.high in omega (arith, high, top))) (λ other. absurd (two other))
        where
          two : Lacks due shown 0 l.unit → ⊥
          two other =
              let top = l.high in
              let high = other.high in
              let same : other.unit ≡ l.unit = one-lacks other.unit l.unit (omega (arith, high, top)) (omega (arith, top)) other.none l.none in
              omega (arith, same, high)

      back : Given due shown (l.unit + 1) (n - 1 - (l.unit + 1))
      back = given due shown (l.unit + 1) (n - 1 - (l.unit + 1)) (λ unit low high. all-due unit (omega arith) (let top = l.high in omega (arith, high, top))) (λ other. absurd (two other))
        where
          two : Lacks due shown (l.unit + 1) (n - 1 - (l.unit + 1)) → ⊥
          two other =
              let top = l.high in
              let low = other.low in
              let high = other.high in
              let same : other.unit ≡ l.unit = one-lacks other.unit l.unit (omega (arith, high, top)) (omega (arith, top)) other.none l.none in
              omega (arith, same, low)

      before : all_present (take l.unit (row_cells script history row).units) ≡ Some (take l.unit cells)
      before =
          let top = l.high in
          ap all_present (take-map-range_with_len shown 0 (n - 1) l.unit (omega (arith, top))) ∙ front ∙ ap (λ (cs : List Cell). Some cs) (sym (take-map-range_with_len due 0 (n - 1) l.unit (omega (arith, top))))

      later : all_present (drop (l.unit + 1) (row_cells script history row).units) ≡ Some (drop (l.unit + 1) cells)
      later =
          let top = l.high in
          ap all_present (drop-range shown 0 (n - 1) (l.unit + 1) (omega (arith, top)))
          ∙ from ∙ ap (λ (cs : List Cell). Some cs) (sym (drop-range due 0 (n - 1) (l.unit + 1) (omega (arith, top))))
        where
          from : all_present (map shown (range_with_len (0 + (l.unit + 1)) (n - 1 - (l.unit + 1)))) ≡ Some (map due (range_with_len (0 + (l.unit + 1)) (n - 1 - (l.unit + 1))))
          from = let same : l.unit + 1 ≡ 0 + (l.unit + 1) = omega arith in subst (λ (k : ℕ). Given due shown k (n - 1 - (l.unit + 1))) same back

      made : IsSound parity (take l.unit cells ++ missing_of parity (take l.unit cells ++ drop (l.unit + 1) cells) l.unit ∷ drop (l.unit + 1) cells)
      made =
          let top = l.high in
          let count : length cells ≡ n - 1 = cells-count n (content_at script history row) in
          (others_make parity cells l.unit blocks (omega (arith, top, count)) sound).sound

      filled : IsSoundBut parity l.unit (all_present (take l.unit (row_cells script history row).units)) (all_present (drop (l.unit + 1) (row_cells script history row).units))
      filled =
          subst (λ (o : Option (List Cell)). IsSoundBut parity l.unit o (all_present (drop (l.unit + 1) (row_cells script history row).units))) (sym before)
          (subst (λ (o : Option (List Cell)). IsSoundBut parity l.unit (Some (take l.unit cells)) o) (sym later) made)

      -- what the others make of it is its content
      seen : rebuilt l.unit (Some parity) (all_present (others_of l.unit (row_cells script history row).units)) ≡ Seen (content_at script history row l.unit)
      seen =
          let top = l.high in
          let count : length cells ≡ n - 1 = cells-count n (content_at script history row) in
          ap (rebuilt l.unit (Some parity)) (all-append (take l.unit (row_cells script history row).units) (drop (l.unit + 1) (row_cells script history row).units) (take l.unit cells) (drop (l.unit + 1) cells) before later)
          ∙ ap (λ (c : Cell). Seen (content_of c)) ((others_make parity cells l.unit blocks (omega (arith, top, count)) sound).makes ∙ cells-at n (content_at script history row) l.unit (omega (arith, top)))
          ∙ ap (λ (c : Content). Seen c) (content-back l.unit (content_at script history row l.unit))

    pub covered : IsSoundOrFilled parity (row_cells script history row).units (all_present (row_cells script history row).units)
    covered = by (given-or due shown 0 (n - 1) all-due) (all_present (row_cells script history row).units) refl
      where
        by : Given due shown 0 (n - 1) ⊎ Lacks due shown 0 (n - 1) → (o : Option (List Cell)) → all_present (row_cells script history row).units ≡ o → IsSoundOrFilled parity (row_cells script history row).units o
        by (inl g) o e = subst (λ (x : Option (List Cell)). IsSoundOrFilled parity (row_cells script history row).units x) (sym g ∙ e) sound
        by (inr l) None e = (l.unit, filled l)
        by (inr l) (Some all) e = absurd (let low = l.low in let high = l.high in let bad : None ≡ Some all = sym (gap-none 0 (n - 1) shown l.unit low high l.none) ∙ e in cc)

pub parity_is_covered : ParityIsCovered
parity_is_covered script history is along row below = by (cell_at script history row (parity_bay script.n row)) refl (slot_at script history (parity_bay script.n row) row).note refl
  where
    by : (p : Option Cell) → cell_at script history row (parity_bay script.n row) ≡ p → (o : Option Note) → (slot_at script history (parity_bay script.n row) row).note ≡ o →
        IsParityGood (row_cells script history row) p o
    by None there o free = tt
    by (Some parity) there (Some note) free = tt
    by (Some parity) there None free = covered script is history along row below parity there free

-- Closed rows: none has a note at its parity
closed-parity : (script : Script) (history : List Call) (row : RowNo) → is_open script history row ≡ false → (slot_at script history (parity_bay script.n row) row).note ≡ None
closed-parity script history row closed = none-of (slot_at script history (parity_bay script.n row) row).note (last-false (λ bay. is_some (slot_at script history bay row).note) (bays_of script.n row (units script.n)) (parity_bay script.n row) closed)
  where
    none-of : (o : Option Note) → is_some o ≡ false → o ≡ None
    none-of None e = refl
    none-of (Some note) e = absurd (cc)

    or-false : (a b : Bool) → (a || b) ≡ false → b ≡ false
    or-false true b e = absurd (cc)
    or-false false b e = e

    last-false : (f : BayNo → Bool) (bays : List BayNo) (last : BayNo) → list_any f (bays ++ last ∷ []) ≡ false → f last ≡ false
    last-false f [] last e = or-left-false (f last) e
      where
        or-left-false : (a : Bool) → (a || false) ≡ false → a ≡ false
        or-left-false true e = absurd (cc)
        or-left-false false e = refl
    last-false f (bay ∷ bays) last e = last-false f bays last (or-false (f bay) (list_any f (bays ++ last ∷ [])) e)

-- and a whole one is sound
whole-sound : (row : RowCells) (note : Option Note) → note ≡ None → IsParityGood row row.parity note → IsSoundIfPresent row.parity (all_present row.units)
whole-sound row at free good = by row.parity (all_present row.units) refl (subst (λ (o : Option Note). IsParityGood row row.parity o) free good)
  where
    by : (p : Option Cell) (all : Option (List Cell)) → all_present row.units ≡ all → IsParityGood row p None → IsSoundIfPresent p all
    by None all e h = tt
    by (Some parity) None e h = tt
    by (Some parity) (Some all) e h = subst (λ (o : Option (List Cell)). IsSoundOrFilled parity row.units o) e h

rows-sound : (script : Script) → IsScript script → (history : List Call) → IsHistory script history → AreRowsSound script history
rows-sound script is history along row below closed =
    whole-sound (row_cells script history row) (slot_at script history (parity_bay script.n row) row).note (closed-parity script history row closed)
    (parity_is_covered script history is along row below)

pub parity_is_kept : ParityIsKept
parity_is_kept script [] is along = rows-sound script is [] along
parity_is_kept script (call ∷ earlier) is along = (parity_is_kept script earlier is along.0, rows-sound script is (call ∷ earlier) along)

-- What is shown of a unit
module _ (script : Script) (is : IsScript script) (history : List Call) (along : IsHistory script history) (row : RowNo) (below : row.0 < script.rows) (unit : ℕ) where
  abbrev Units : List (Option Cell)
  Units = (row_cells script history row).units

  here : unit < script.n - 1 → slice_get (Units) unit ≡ Some (shown script is history along row below unit)
  here inside = let same : 0 + unit ≡ unit = omega arith in get-range (shown script is history along row below) 0 (script.n - 1) unit inside ∙ ap (λ (u : ℕ). Some (shown script is history along row below u)) same

  past : script.n - 1 ≤ unit → slice_get (Units) unit ≡ None
  past outside = get-past (shown script is history along row below) 0 (script.n - 1) unit outside

  hidden : (content : Content) → Hidden ≡ Seen content → ⊥
  hidden content e = cc

  same-seen : (x content : Content) → Seen x ≡ Seen content → content ≡ x
  same-seen x content e = let same : x ≡ content = cc in sym same

  missing-shown : unit < script.n - 1 → shown script is history along row below unit ≡ None → (opened : Bool) → is_open script history row ≡ opened →
      (content : Content) → shown_missing opened (row_cells script history row) unit ≡ Seen content → content ≡ content_at script history row unit
  missing-shown inside none true e content seen = absurd (hidden content seen)
  missing-shown inside none false e content told = by (cell_at script history row (parity_bay script.n row)) refl told
    where
      lacks : Lacks (due script is history along row below) (shown script is history along row below) 0 (script.n - 1)
      lacks = record { unit = unit; low = omega arith; high = omega (arith, inside); none = none }

      by : (p : Option Cell) → cell_at script history row (parity_bay script.n row) ≡ p → rebuilt unit p (all_present (others_of unit (Units))) ≡ Seen content → content ≡ content_at script history row unit
      by None there h = absurd (hidden content h)
      by (Some parity) there h =
          same-seen (content_at script history row unit) content (sym (seen script is history along row below parity there (closed-parity script history row e) lacks) ∙ h)

  shown-as : (o : Option (Option Cell)) → slice_get (Units) unit ≡ o → (content : Content) → shown_cell (is_open script history row) (row_cells script history row) unit o ≡ Seen content → content ≡ content_at script history row unit
  shown-as None e content h = absurd (hidden content h)
  shown-as (Some o) e content h = by (nat_lt unit (script.n - 1)) refl
    where
      by : (b : Bool) → nat_lt unit (script.n - 1) ≡ b → content ≡ content_at script history row unit
      by false out = absurd (let outside : script.n - 1 ≤ unit = grind (arith, nat_tests) in let bad : Some o ≡ None = sym e ∙ past outside in cc)
      by true in_it = let inside : unit < script.n - 1 = grind (arith, nat_tests) in given-as inside o (let both : Some (shown script is history along row below unit) ≡ Some o = sym (here inside) ∙ e in cc) h
        where
          given-as : unit < script.n - 1 → (x : Option Cell) → shown script is history along row below unit ≡ x →
              shown_cell (is_open script history row) (row_cells script history row) unit (Some x) ≡ Seen content → content ≡ content_at script history row unit
          given-as inside None is_none told = missing-shown inside is_none (is_open script history row) refl content told
          given-as inside (Some cell) is_some told =
              same-seen (content_of cell) content told
              ∙ subst (λ (x : Option Cell). IsCellOf (content_at script history row unit) x) is_some (cells_are_committed script history is along row unit below (omega (arith, inside)))

pub contents_are_shown : ContentsAreShown
contents_are_shown script history is along row unit below content h = shown-as script is history along row below unit (slice_get (row_cells script history row).units unit) refl content h
