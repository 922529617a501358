-- Reads tell the contents of their units.
use Rattle.std.proofs.Common.{◌≡◌, ◌≢◌, ◌∙◌, ◌⊎◌, inl, inr, refl, sym, ap, subst, ℕ, ◌-◌, ◌<◌, ◌≤◌, ◌==◌, not, Bool, true, false, cond, List, [], ◌∷◌, ◌++◌, append_assoc, append-nil, Option, Some, None, IfSome, option_map, unwrap_or, map, filter, zip, flat_map, length, Result, Ok, Err, arith}
use Rattle.std.specs.List.{AllByRecursion}
use Rattle.std.proofs.lemmas.Bool.{cond-true, cond-false}
use Rattle.std.proofs.lemmas.Bool.Decides.{eqb_tells}
use Rattle.std.proofs.lemmas.Grind.{flat_map-append}
use Rattle.raid_base.specs.declared.numbers.BayNo.{BayNo}
use Rattle.raid_base.specs.declared.numbers.RowNo.{RowNo}
use Rattle.raid_base.specs.declared.numbers.Number.{Number}
use Rattle.raid_base.specs.declared.numbers.Spent.{Spent}
use Rattle.raid_base.specs.declared.cells.Cell.{Cell}
use Rattle.raid_base.specs.declared.cells.Content.{Content}
use Rattle.raid_base.specs.declared.messages.Mode.{Mode}
use Rattle.raid_base.specs.declared.messages.Mode.TheVariants.{Lock, Order}
use Rattle.raid_base.specs.declared.messages.Reply.{Reply}
use Rattle.raid_base.specs.declared.messages.Errand.{Errand}
use Rattle.raid_base.specs.declared.messages.Grant.{Grant}
use Rattle.raid_base.specs.declared.jobs.Cause.{Cause}
use Rattle.raid_base.specs.declared.jobs.Cause.TheVariants as causes
use Rattle.raid_base.specs.declared.jobs.Ended.TheVariants as ends
use Rattle.raid_base.specs.declared.jobs.RowPart.{RowPart}
use Rattle.raid_base.specs.Cells.{zero_cell, content_of, has_unit}
use Rattle.raid_base.specs.Steps.{Steps, bind, Walk, Through, Stopped, run}
use Rattle.stripe_layout.specs.Placement.{parity_bay, bay_of, bays_of, units, units_in, units_out}
use Rattle.stripe_layout.proofs.LayoutLemmas.{unit_apart, unit_distinct}
use Rattle.raid_xor.specs.Laws.{AreBlocks}
use Rattle.degraded_plans.specs.Missing.{missing_of}
use Rattle.degraded_plans.specs.Laws.{cell_of}
use Rattle.degraded_plans.proofs.Writes.{others_make}
use Rattle.degraded_plans.proofs.RowUnits.{any_order}
use Rattle.attempts.specs.Taking.{Access, Finish, Row, Rows, no_rows, Taken, begun, row_ended, lacks, behind_from, why, with_grant, with_parity, with_wanted, with_other, grant_or_gap, share, shares}
use Rattle.attempts.specs.Releases.{release, releases, releasing, end_as, refused_steps, read_holds, read_releases}
use Rattle.attempts.specs.Reading.{cells_in, parity_in, unit_content, row_contents, contents_of, sharing, read_refused, row_readers, numbered_releases, freeing, read_freed, read_drawn, read_numbered, row_shared, parity_shared, share_rest, wanted_shared, read_rows}
use Rattle.attempts.specs.Recovery.{missing_in}
use Rattle.attempts.specs.Sound.{Cells, cell_on, IsSoundRow, AreSoundRows, Shows, Showing, PutsNothing, part_contents, TellsContents, ReadsTell}
use Rattle.attempts.proofs.PhaseLemmas.{all-weaken, all-flat}
use Rattle.attempts.proofs.RoomLemmas.{all-made}
use Rattle.attempts.proofs.SoundLemmas.{shows-units, shows-one, shows-any, parity-on, unit-on, units-all, all-filter, but, row-but, others-blocks}
use Rattle.attempts.proofs.GotLemmas.{share-gives, Took, took, range-ascends, filter-ascends, AreNot, gap-in, Got, still-all, got-next, gap-at, others-got, one-gap}

-- Units that a mask has
filter-swap : (p q : ℕ → Bool) (us : List ℕ) → filter p (filter q us) ≡ filter q (filter p us)
filter-swap p q [] = refl
filter-swap p q (u ∷ us) = one (p u) (q u) refl refl (filter-swap p q us) where
  one : (b c : Bool) → p u ≡ b → q u ≡ c → filter p (filter q us) ≡ filter q (filter p us)
      → filter p (cond c (u ∷ filter q us) (filter q us)) ≡ filter q (cond b (u ∷ filter p us) (filter p us))
  one true true e f rest = cond-true (p u) _ _ e ∙ ap (λ (vs : List ℕ). u ∷ vs) rest ∙ sym (cond-true (q u) _ _ f)
  one true false e f rest = rest ∙ sym (cond-false (q u) _ _ f)
  one false true e f rest = cond-false (p u) _ _ e ∙ rest
  one false false e f rest = rest

-- one that does not pass may as well be left out
filter-but : (test : ℕ → Bool) (unit : ℕ) → test unit ≡ false → (us : List ℕ) → filter test us ≡ filter test (but unit us)
filter-but test unit fails [] = refl
filter-but test unit fails (u ∷ us) = one (u == unit) (eqb_tells u unit) (filter-but test unit fails us) where
  one : (b : Bool) → ((b ≡ true) × (u ≡ unit)) ⊎ ((b ≡ false) × (u ≢ unit)) → filter test us ≡ filter test (but unit us)
      → filter test (u ∷ us) ≡ filter test (cond (not b) (u ∷ but unit us) (but unit us))
  one true (inl same) rest = cond-false (test u) _ _ (ap test same.1 ∙ fails) ∙ rest
  one true (inr apart) rest = cc
  one false tells rest = ap (λ (vs : List ℕ). cond (test u) (u ∷ vs) vs) rest

filter-passes : (test : ℕ → Bool) (us : List ℕ) → AllByRecursion (λ u. test u ≡ true) (filter test us)
filter-passes test [] = tt
filter-passes test (u ∷ us) = one (test u) refl (filter-passes test us) where
  one : (b : Bool) → test u ≡ b → AllByRecursion (λ v. test v ≡ true) (filter test us) → AllByRecursion (λ v. test v ≡ true) (cond b (u ∷ filter test us) (filter test us))
  one true e rest = (e, rest)
  one false e rest = rest

module _ (n : ℕ) (mask : ℕ) where
  in-below : AllByRecursion (λ u. u < n - 1) (units_in n mask)
  in-below = all-filter (λ u. u < n - 1) (has_unit mask) (units n) (units-all n)

  out-below : AllByRecursion (λ u. u < n - 1) (units_out n mask)
  out-below = all-filter (λ u. u < n - 1) (λ u. not (has_unit mask u)) (units n) (units-all n)

  out-apart : (unit : ℕ) → has_unit mask unit ≡ true → AreNot unit (units_out n mask)
  out-apart unit has = all-weaken (λ u. not (has_unit mask u) ≡ true) (λ u. u ≢ unit) (λ u passes same. differs (has_unit mask u) passes (ap (has_unit mask) same ∙ has)) (units_out n mask)
      (filter-passes (λ u. not (has_unit mask u)) (units n)) where
        differs : (b : Bool) → not b ≡ true → b ≡ true → ⊥
        differs true e f = cc
        differs false e f = cc

-- Contents of a row
module _ (n : ℕ) (cells : Cells) (row : RowNo) (least : 3 ≤ n) where
  abbrev data_cell : ℕ → Cell
  data_cell unit = cell_of (cells.units row) unit

  -- the others make a missing unit's cell, those of a mask first and then the rest
  made : (mask unit : ℕ) → IsSoundRow n cells row → unit < n - 1 → has_unit mask unit ≡ true
      → missing_of (cells.parity row) (map data_cell (but unit (units_in n mask)) ++ map data_cell (units_out n mask)) unit ≡ data_cell unit
  made mask unit sound below has =
      let parity : Cell = cells.parity row in
      let rest : List ℕ = but unit (units n) in
      let inside : unit < length (cells.units row) = omega (arith, sound.count) in
      let blocks : AreBlocks (map data_cell rest) = subst AreBlocks (sym (row-but n (cells.units row) unit sound.count)) (others-blocks (cells.units row) unit sound.blocks.1) in
      ap (λ (us : List ℕ). missing_of parity (map data_cell us ++ map data_cell (units_out n mask)) unit) (filter-swap (λ other. not (other == unit)) (has_unit mask) (units n))
      ∙ ap (λ (us : List ℕ). missing_of parity (map data_cell (filter (has_unit mask) rest) ++ map data_cell us) unit)
      (filter-but (λ u. not (has_unit mask u)) unit (ap not has) (units n))
      ∙ (any_order parity data_cell (has_unit mask) rest unit (sound.blocks.0, blocks)).0
      ∙ ap (λ (present : List Cell). missing_of parity present unit) (row-but n (cells.units row) unit sound.count)
      ∙ (others_make parity (cells.units row) unit sound.blocks inside sound.sound).makes

  -- all were granted
  contents-granted : (taken : Row) (missing : Option BayNo) (us : List ℕ) (gs : List (Option Grant)) → AllByRecursion (λ u. u < n - 1) us → Got n cells row missing us [] gs → lacks gs ≡ false
      → map (unit_content taken) (zip us gs) ≡ map (λ unit. content_of (data_cell unit)) us
  contents-granted taken missing [] [] below got e = refl
  contents-granted taken missing [] (g ∷ gs) below got e = absurd got
  contents-granted taken missing (u ∷ us) [] below got e = cc
  contents-granted taken missing (u ∷ us) (None ∷ gs) below got e = cc
  contents-granted taken missing (u ∷ us) (Some grant ∷ gs) below got e =
      ap (λ (cell : Cell). content_of cell ∷ map (unit_content taken) (zip us gs)) (got.0 ∙ unit-on n cells row u least below.0)
      ∙ ap (λ (rest : List Content). content_of (data_cell u) ∷ rest) (contents-granted taken missing us gs below.1 got.1 e)

  -- and where one was missing, it is made
  contents-made : (taken : Row) (missing : Option BayNo)
      → ((u : ℕ) → u < n - 1 → missing ≡ Some (bay_of n row u) → missing_of (parity_in taken) (cells_in taken.wanted ++ cells_in taken.others) u ≡ data_cell u)
      → (us : List ℕ) (gs : List (Option Grant)) → AllByRecursion (λ u. u < n - 1) us → Got n cells row missing us [] gs
      → map (unit_content taken) (zip us gs) ≡ map (λ unit. content_of (data_cell unit)) us
  contents-made taken missing makes [] [] below got = refl
  contents-made taken missing makes [] (g ∷ gs) below got = absurd got
  contents-made taken missing makes (u ∷ us) [] below got = cc
  contents-made taken missing makes (u ∷ us) (None ∷ gs) below got =
      ap (λ (cell : Cell). content_of cell ∷ map (unit_content taken) (zip us gs)) (makes u below.0 got.0)
      ∙ ap (λ (rest : List Content). content_of (data_cell u) ∷ rest) (contents-made taken missing makes us gs below.1 got.1)
  contents-made taken missing makes (u ∷ us) (Some grant ∷ gs) below got =
      ap (λ (cell : Cell). content_of cell ∷ map (unit_content taken) (zip us gs)) (got.0 ∙ unit-on n cells row u least below.0)
      ∙ ap (λ (rest : List Content). content_of (data_cell u) ∷ rest) (contents-made taken missing makes us gs below.1 got.1)

  -- a slot that is missing
  lacks-gap : (missing : Option BayNo) (us : List ℕ) (gs : List (Option Grant)) → Got n cells row missing us [] gs → lacks gs ≡ true → (unit : ℕ) × (missing_in (zip us gs) ≡ Some unit)
  lacks-gap missing [] [] got e = cc
  lacks-gap missing [] (g ∷ gs) got e = absurd got
  lacks-gap missing (u ∷ us) [] got e = cc
  lacks-gap missing (u ∷ us) (None ∷ gs) got e = (u, refl)
  lacks-gap missing (u ∷ us) (Some grant ∷ gs) got e = lacks-gap missing us gs got.1 e

  -- the whole row was shared, but for a unit
  record IsShared (mask unit : ℕ) (left : List ℕ) (missing : Option BayNo) (taken : Row) : Type 0 where
    wanted : Got n cells row missing (units_in n mask) [] taken.wanted
    gap : missing_in (zip (units_in n mask) taken.wanted) ≡ Some unit
    parity : parity_in taken ≡ cells.parity row
    others : Got n cells row missing (units_out n mask) left taken.others

  shared-made : (mask unit : ℕ) (missing : Option BayNo) (taken : Row) → IsSoundRow n cells row → IsShared mask unit [] missing taken
      → map (unit_content taken) (zip (units_in n mask) taken.wanted) ≡ map (λ u. content_of (data_cell u)) (units_in n mask)
  shared-made mask unit missing taken sound j =
      contents-made taken missing makes (units_in n mask) taken.wanted (in-below n mask) j.wanted where
        below : unit < n - 1
        below = gap-in (λ u. u < n - 1) (units_in n mask) taken.wanted unit j.gap (in-below n mask)

        has : has_unit mask unit ≡ true
        has = gap-in (λ u. has_unit mask u ≡ true) (units_in n mask) taken.wanted unit j.gap (filter-passes (has_unit mask) (units n))

        at : missing ≡ Some (bay_of n row unit)
        at = gap-at n cells row missing (units_in n mask) taken.wanted unit j.wanted j.gap

        same-unit : (u : ℕ) → u < n - 1 → Some (bay_of n row u) ≡ Some (bay_of n row unit) → u ≡ unit
        same-unit u hu e = let bays : bay_of n row u ≡ bay_of n row unit = cc in unit_distinct n row u unit least hu below bays

        wanted-cells : cells_in taken.wanted ≡ map data_cell (but unit (units_in n mask))
        wanted-cells =
            one-gap n cells row least missing 0 (units_in n mask) taken.wanted unit (filter-ascends (has_unit mask) 0 (units n) (range-ascends 0 (n - 1)))
            (in-below n mask) j.wanted j.gap

        other-cells : cells_in taken.others ≡ map data_cell (units_out n mask)
        other-cells = others-got n cells row least missing unit below at (units_out n mask) taken.others (out-below n mask) (out-apart n mask unit has) j.others

        makes : (u : ℕ) → u < n - 1 → missing ≡ Some (bay_of n row u) → missing_of (parity_in taken) (cells_in taken.wanted ++ cells_in taken.others) u ≡ data_cell u
        makes u hu e =
            ap (missing_of (parity_in taken) (cells_in taken.wanted ++ cells_in taken.others)) (same-unit u hu (sym e ∙ at))
            ∙ ap (λ (parity : Cell). missing_of parity (cells_in taken.wanted ++ cells_in taken.others) unit) j.parity
            ∙ ap (λ (first : List Cell). missing_of (cells.parity row) (first ++ cells_in taken.others) unit) wanted-cells
            ∙ ap (λ (rest : List Cell). missing_of (cells.parity row) (map data_cell (but unit (units_in n mask)) ++ rest) unit) other-cells
            ∙ made mask unit sound below has
            ∙ ap data_cell (sym (same-unit u hu (sym e ∙ at)))

-- Walks
module _ (a : Access) (cells : Cells) (least : 3 ≤ a.n) where
  abbrev Tells : Steps Finish → Type 0
  Tells s = Showing a.n cells PutsNothing (TellsContents a cells) s

  abbrev all_contents : List RowPart → List Content
  all_contents parts = flat_map (part_contents a.n cells) parts

  quiet : (A : Type 0) (n : Option Number) (gives : Row → List BayNo) (rows : List Row)
      → AllByRecursion (λ (e : Errand). (b : A) → PutsNothing e []) (flat_map (λ (row : Row). releases a.id row.part.row n (gives row)) rows)
  quiet A n gives rows =
      all-flat (λ (e : Errand). (b : A) → PutsNothing e []) (λ (row : Row). releases a.id row.part.row n (gives row))
      (λ row. all-made (λ (e : Errand). (b : A) → PutsNothing e []) (release a.id row.part.row n) (λ at b. record { cell = tt; committed = refl }) (gives row)) rows

  refuses : (rows : List Row) (cause : Cause) → Tells (refused_steps (read_releases a rows) cause)
  refuses rows cause =
      shows-any a.n cells PutsNothing (TellsContents a cells) releasing (end_as (ends.Refused cause)) (read_releases a rows) tt (quiet (Unit {0}) None (read_holds a.mode a.n) rows)
      (λ walk. record { told = tt })

  freed-tells : (n : Number) (rows : List Row) → contents_of a.n rows ≡ all_contents a.parts → (walk : Walk (Option RowNo)) → Tells (read_freed a n rows walk)
  freed-tells n rows same (Through None) = record { told = same }
  freed-tells n rows same (Through (Some row)) = record { told = tt }
  freed-tells n rows same (Stopped row e r) = record { told = same }

  drawn-tells : (rows : List Row) → contents_of a.n rows ≡ all_contents a.parts → (d : Result Number Spent) → Tells (read_drawn a rows d)
  drawn-tells rows same (Err spent) = refuses rows (causes.Spent spent.seen)
  drawn-tells rows same (Ok n) =
      shows-any a.n cells PutsNothing (TellsContents a cells) freeing (read_freed a n rows) (numbered_releases a n rows) None (quiet (Option RowNo) (Some n) (row_readers a.n) rows)
      (λ walk. freed-tells n rows same walk)

  numbered-tells : (mode : Mode) (rows : List Row) → contents_of a.n rows ≡ all_contents a.parts → Tells (read_numbered mode a rows)
  numbered-tells Order rows same = record { told = same }
  numbered-tells Lock rows same = λ d. drawn-tells rows same d

  -- a row
  module _ (rest : Rows → Steps Finish) (done : Rows) (part : RowPart) (left : List RowPart) (sound : IsSoundRow a.n cells part.row)
      (so_far : contents_of a.n done.rows ++ all_contents (part ∷ left) ≡ all_contents a.parts)
      (rest_tells : (now : Rows) → contents_of a.n now.rows ++ all_contents left ≡ all_contents a.parts → Tells (rest now)) where
    -- the units that were granted so far, and those that are left
    record Wanting (us : List ℕ) (taken : Taken) : Type 0 where
      before : taken.before ≡ done.rows
      part_is : taken.row.part ≡ part
      got : Got a.n cells part.row taken.missing (units_in a.n part.mask) us taken.row.wanted
      none : taken.row.others ≡ []

    -- the same of the others
    record Sharing (unit : ℕ) (us : List ℕ) (taken : Taken) : Type 0 where
      before : taken.before ≡ done.rows
      part_is : taken.row.part ≡ part
      is_shared : IsShared a.n cells part.row least part.mask unit us taken.missing taken.row

    row-tells : (taken : Taken) → taken.before ≡ done.rows → taken.row.part ≡ part
        → map (unit_content taken.row) (zip (units_in a.n part.mask) taken.row.wanted) ≡ part_contents a.n cells part
        → Tells (rest (row_ended taken))
    row-tells taken before part_is told =
        rest_tells (row_ended taken) (
        ap (λ (contents : List Content). contents ++ all_contents left) (
        flat_map-append (row_contents a.n) taken.before (taken.row ∷ [])
        ∙ ap (λ (contents : List Content). contents_of a.n taken.before ++ contents) (append-nil (row_contents a.n taken.row))
        ∙ ap (λ (rows : List Row). contents_of a.n rows ++ row_contents a.n taken.row) before
        ∙ ap (λ (p : RowPart). contents_of a.n done.rows ++ map (unit_content taken.row) (zip (units_in a.n p.mask) taken.row.wanted)) part_is
        ∙ ap (λ (contents : List Content). contents_of a.n done.rows ++ contents) told
        )
        ∙ append_assoc (contents_of a.n done.rows) (part_contents a.n cells part) (all_contents left)
        ∙ so_far
        )

    stopped-tells : (taken : Taken) (e : Errand) (r : Reply) → Tells (read_refused a taken e r)
    stopped-tells taken e r = refuses (taken.before ++ taken.row ∷ []) (why (behind_from a.mode a.id) taken e r)

    share-took : (at : BayNo) (missing : Option BayNo) (r : Reply) → Shows a.n cells (share a.id part.row at) r
        → Took true (cell_on a.n cells at part.row) missing at (grant_or_gap (behind_from a.mode a.id) missing at r)
    share-took at missing r s = took true (cell_on a.n cells at part.row) (behind_from a.mode a.id) missing at r (share-gives true r s.fitting) s.cell

    -- the others of the row
    other-kept : (unit u : ℕ) (us : List ℕ) (taken : Taken) → Sharing unit (u ∷ us) taken → (o : Option (Option Grant))
        → Took true (cell_on a.n cells (bay_of a.n part.row u) part.row) taken.missing (bay_of a.n part.row u) o
        → IfSome (option_map (with_grant with_other taken (bay_of a.n part.row u)) o) (Sharing unit us)
    other-kept unit u us taken j None t = tt
    other-kept unit u us taken j (Some None) t = record {
      before = j.before;
      part_is = j.part_is;
      is_shared = record {
        wanted =
            still-all a.n cells part.row (cell_on a.n cells (bay_of a.n part.row u) part.row) taken.missing (bay_of a.n part.row u) None t
            (units_in a.n part.mask) [] taken.row.wanted j.is_shared.wanted;
        gap = j.is_shared.gap;
        parity = j.is_shared.parity;
        others = got-next a.n cells part.row taken.missing (units_out a.n part.mask) us u taken.row.others None j.is_shared.others t;
      };
    }
    other-kept unit u us taken j (Some (Some grant)) t = record {
      before = j.before;
      part_is = j.part_is;
      is_shared = record {
        wanted = j.is_shared.wanted;
        gap = j.is_shared.gap;
        parity = j.is_shared.parity;
        others = got-next a.n cells part.row taken.missing (units_out a.n part.mask) us u taken.row.others (Some grant) j.is_shared.others t;
      };
    }

    others-tell : (unit : ℕ) (taken : Taken) → Sharing unit (units_out a.n part.mask) taken → Tells (parity_shared a rest (Through taken))
    others-tell unit taken j =
        subst (λ (p : RowPart). Tells (bind (run (sharing a with_other) (shares a.id p.row (bays_of a.n p.row (units_out a.n p.mask))) taken) (row_shared a rest))) (sym j.part_is)
        (shows-units a.n cells PutsNothing (TellsContents a cells) (bay_of a.n part.row) (share a.id part.row) (Sharing unit) (sharing a with_other) (row_shared a rest)
        (λ u us taken j. record { cell = tt; committed = refl })
        (λ u us taken r j s. other-kept unit u us taken j (grant_or_gap (behind_from a.mode a.id) taken.missing (bay_of a.n part.row u) r) (share-took (bay_of a.n part.row u) taken.missing r s))
        (λ taken j. row-tells taken j.before j.part_is (shared-made a.n cells part.row least part.mask unit taken.missing taken.row sound j.is_shared))
        (λ u us taken r j s. stopped-tells taken (share a.id part.row (bay_of a.n part.row u)) r)
        (units_out a.n part.mask) taken j)

    -- the parity
    parity-tells : (unit : ℕ) (taken : Taken) → Wanting [] taken → missing_in (zip (units_in a.n part.mask) taken.row.wanted) ≡ Some unit → (o : Option (Option Grant))
        → Took true (cell_on a.n cells (parity_bay a.n part.row) part.row) taken.missing (parity_bay a.n part.row) o
        → IfSome (option_map (with_grant with_parity taken (parity_bay a.n part.row)) o) (λ (now : Taken). Tells (parity_shared a rest (Through now)))
    parity-tells unit taken j gap None t = tt
    parity-tells unit taken j gap (Some None) t = absurd (not-both t) where
      at : taken.missing ≡ Some (bay_of a.n part.row unit)
      at = gap-at a.n cells part.row taken.missing (units_in a.n part.mask) taken.row.wanted unit j.got gap

      below : unit < a.n - 1
      below = gap-in (λ u. u < a.n - 1) (units_in a.n part.mask) taken.row.wanted unit gap (in-below a.n part.mask)

      differ : Some (bay_of a.n part.row unit) ≡ Some (parity_bay a.n part.row) → ⊥
      differ e = let bays : bay_of a.n part.row unit ≡ parity_bay a.n part.row = cc in unit_apart a.n part.row unit least below bays

      not-both : (taken.missing ≡ None) ⊎ (taken.missing ≡ Some (parity_bay a.n part.row)) → ⊥
      not-both (inl none) = let e : None ≡ Some (bay_of a.n part.row unit) = sym none ∙ at in cc
      not-both (inr same) = differ (sym at ∙ same)
    parity-tells unit taken j gap (Some (Some grant)) t =
        others-tell unit (with_grant with_parity taken (parity_bay a.n part.row) (Some grant)) (record {
          before = j.before;
          part_is = j.part_is;
          is_shared = record {
            wanted = j.got;
            gap = gap;
            parity = ap (λ (shown : Option Cell). unwrap_or shown zero_cell) t ∙ parity-on a.n cells part.row;
            others = subst (λ (gs : List (Option Grant)). Got a.n cells part.row taken.missing (units_out a.n part.mask) (units_out a.n part.mask) gs) (sym j.none) refl;
          };
        })

    whole-tells : (unit : ℕ) (taken : Taken) → Wanting [] taken → missing_in (zip (units_in a.n part.mask) taken.row.wanted) ≡ Some unit → Tells (share_rest a rest taken true)
    whole-tells unit taken j gap =
        subst (λ (p : RowPart). Tells (bind (run (sharing a with_parity) (share a.id p.row (parity_bay a.n p.row) ∷ []) taken) (parity_shared a rest))) (sym j.part_is)
        (shows-one a.n cells PutsNothing (TellsContents a cells) (sharing a with_parity) (parity_shared a rest) (share a.id part.row (parity_bay a.n part.row)) taken
        (record { cell = tt; committed = refl })
        (λ r s. parity-tells unit taken j gap (grant_or_gap (behind_from a.mode a.id) taken.missing (parity_bay a.n part.row) r) (share-took (parity_bay a.n part.row) taken.missing r s))
        (λ r s. stopped-tells taken (share a.id part.row (parity_bay a.n part.row)) r))

    wanted-tells : (taken : Taken) → Wanting [] taken → (b : Bool) → lacks taken.row.wanted ≡ b → Tells (share_rest a rest taken b)
    wanted-tells taken j false e =
        row-tells taken j.before j.part_is
        (contents-granted a.n cells part.row least taken.row taken.missing (units_in a.n part.mask) taken.row.wanted (in-below a.n part.mask) j.got e)
    wanted-tells taken j true e =
        let gap = lacks-gap a.n cells part.row least taken.missing (units_in a.n part.mask) taken.row.wanted j.got e in
        whole-tells gap.0 taken j gap.1

    -- the wanted units
    wanted-kept : (u : ℕ) (us : List ℕ) (taken : Taken) → Wanting (u ∷ us) taken → (o : Option (Option Grant))
        → Took true (cell_on a.n cells (bay_of a.n part.row u) part.row) taken.missing (bay_of a.n part.row u) o
        → IfSome (option_map (with_grant with_wanted taken (bay_of a.n part.row u)) o) (Wanting us)
    wanted-kept u us taken j None t = tt
    wanted-kept u us taken j (Some None) t = record {
      before = j.before;
      part_is = j.part_is;
      got = got-next a.n cells part.row taken.missing (units_in a.n part.mask) us u taken.row.wanted None j.got t;
      none = j.none;
    }
    wanted-kept u us taken j (Some (Some grant)) t = record {
      before = j.before;
      part_is = j.part_is;
      got = got-next a.n cells part.row taken.missing (units_in a.n part.mask) us u taken.row.wanted (Some grant) j.got t;
      none = j.none;
    }

    part-tells : Tells (bind (run (sharing a with_wanted) (shares a.id part.row (bays_of a.n part.row (units_in a.n part.mask))) (begun part done)) (wanted_shared a rest))
    part-tells =
        shows-units a.n cells PutsNothing (TellsContents a cells) (bay_of a.n part.row) (share a.id part.row) Wanting (sharing a with_wanted) (wanted_shared a rest)
        (λ u us taken j. record { cell = tt; committed = refl })
        (λ u us taken r j s. wanted-kept u us taken j (grant_or_gap (behind_from a.mode a.id) taken.missing (bay_of a.n part.row u) r) (share-took (bay_of a.n part.row u) taken.missing r s))
        (λ taken j. wanted-tells taken j (lacks taken.row.wanted) refl)
        (λ u us taken r j s. stopped-tells taken (share a.id part.row (bay_of a.n part.row u)) r)
        (units_in a.n part.mask) (begun part done) (record { before = refl; part_is = refl; got = refl; none = refl })

  rows-tell : (left : List RowPart) → AreSoundRows a.n cells left → (done : Rows) → contents_of a.n done.rows ++ all_contents left ≡ all_contents a.parts → Tells (read_rows a left done)
  rows-tell [] sound done so_far = numbered-tells a.mode done.rows (sym (append-nil (contents_of a.n done.rows)) ∙ so_far)
  rows-tell (part ∷ left) sound done so_far = part-tells (read_rows a left) done part left sound.0 so_far (λ now same. rows-tell left sound.1 now same)

pub reads_tell : ReadsTell
reads_tell a rows count cells is sound = rows-tell a cells is.least a.parts sound no_rows refl
