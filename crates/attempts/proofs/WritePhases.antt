-- Writes keep the order.
use Rattle.std.proofs.Common.{◌≡◌, ◌⊎◌, inl, inr, refl, sym, ap, subst, ◌∙◌, ℕ, zero, suc, ◌+◌, ◌-◌, ◌<◌, ◌≤◌, Bool, true, false, cond, List, [], ◌∷◌, ◌++◌, Option, Some, None, IfSome, is_some, option_map, map, zip, filter, Result, Ok, Err, arith}
use Rattle.std.specs.List.{AllByRecursion, range_with_len}
use Rattle.std.proofs.lemmas.List.{append-nil}
use Rattle.raid_base.specs.declared.numbers.BayNo.{BayNo}
use Rattle.raid_base.specs.declared.numbers.RowNo.{RowNo}
use Rattle.raid_base.specs.declared.numbers.Number.{Number}
use Rattle.raid_base.specs.declared.numbers.Spent.{Spent}
use Rattle.raid_base.specs.declared.messages.How.TheVariants as hows
use Rattle.raid_base.specs.declared.messages.Mode.{Mode}
use Rattle.raid_base.specs.declared.messages.Mode.TheVariants.{Lock, Order}
use Rattle.raid_base.specs.declared.messages.Reply.{Reply}
use Rattle.raid_base.specs.declared.messages.Reply.TheVariants.{Granted, Busy, Late, Young, Missing, Held, NoNote, Done, Fault, Emptied, Fitted}
use Rattle.raid_base.specs.declared.messages.Errand.{Errand}
use Rattle.raid_base.specs.declared.messages.Grant.{Grant}
use Rattle.raid_base.specs.declared.cells.Cell.{Cell}
use Rattle.raid_base.specs.declared.jobs.Cause.{Cause}
use Rattle.raid_base.specs.declared.jobs.Cause.TheVariants as causes
use Rattle.raid_base.specs.declared.jobs.Ended.TheVariants as ends
use Rattle.raid_base.specs.declared.jobs.Plan.{Plan}
use Rattle.raid_base.specs.declared.jobs.Plan.TheVariants.{Full, Small, Reconstruct}
use Rattle.raid_base.specs.declared.jobs.RowPart.{RowPart}
use Rattle.raid_base.specs.Cells.{has_unit}
use Rattle.raid_base.specs.Replies.{grant_of, held_of, is_held, is_missing}
use Rattle.raid_base.specs.Steps.{Steps, ◌>>=◌, Walk, Through, Stopped, run}
use Rattle.stripe_layout.specs.Placement.{parity_bay, bay_of, bays_of, units, units_in, units_out}
use Rattle.stripe_layout.proofs.LayoutLemmas.{unit_distinct}
use Rattle.attempts.specs.Taking.{Access, Finish, finish, Row, Rows, no_rows, Taken, begun, row_ended, lacks, behind_from, refusal, with_grant, unless, taking_until, why, with_parity, with_wanted, with_other, share, claim}
use Rattle.attempts.specs.Releases.{releasing, end_as, refused_steps, granted_of, wanted_granted, others_granted, write_holds, write_releases}
use Rattle.attempts.specs.Puts.{plan_of, Puts, no_puts, at_row, data_put, putting_data, parity_put, putting_parity, with_trouble, trouble_of, first_cause, written_or}
use Rattle.attempts.specs.Writing.{write_stopped, finishing, reader_releases, write_end, write_last, parity_done, put_parity, data_done, put_rows, put_steps, write_drawn, write_numbered, held_row, confirmed_row, unrefused_row, confirming, row_confirm, confirm_cause, row_confirmed, confirm_rows, claiming, row_claimed, wanted_claims, claim_wanted, share_others, small_claimed, share_stopped, others_shared, claim_row, parity_claimed, parity_claim, claim_rows}
use Rattle.attempts.specs.Phases.{Slot, is_slot, has_slot, parity_slot, IsIn, Past, begins, number_of, MayPut, is_due, grants, after, after_number, Keeps, HasWritten, HasRow, RowsDiffer, WritesKeepPhases}
use Rattle.attempts.proofs.RoomLemmas.{all-append, parts_of}
use Rattle.attempts.proofs.TakenLemmas.{SoFar, so_far-more, IsTaking, taking-ended, keeps-parity, keeps-wanted, keeps-other, taking-granted, taking-step, until-step}
use Rattle.attempts.proofs.PhaseLemmas.{slot_on, row-apart, in-has, has-in, has-behind, has-grants, has-none, Aside, units-aside, aside-slot, all-weaken, in-grants, both-some, IsRelease, row-releases, keeps-walk, keeps-units, keeps-one, gives-back}

-- Lists
-- what is left of the units once so many grants came
abbrev rest_of : List ℕ → List (Option Grant) → List ℕ
rest_of us [] = us
rest_of [] (o ∷ os) = []
rest_of (u ∷ us) (o ∷ os) = rest_of us os

rest-more : (us : List ℕ) (os : List (Option Grant)) (o : Option Grant) (v : ℕ) (vs : List ℕ) → rest_of us os ≡ v ∷ vs → rest_of us (os ++ o ∷ []) ≡ vs
rest-more [] [] o v vs same = absurd (cc)
rest-more [] (x ∷ os) o v vs same = absurd (cc)
rest-more (u ∷ us) [] o v vs same = cc
rest-more (u ∷ us) (x ∷ os) o v vs same = rest-more us os o v vs same

module _ (P : ℕ → Type 0) where
  none-granted : (us : List ℕ) → AllByRecursion P (granted_of (zip us []))
  none-granted [] = tt
  none-granted (u ∷ us) = tt

  granted-more : (us : List ℕ) (os : List (Option Grant)) (o : Option Grant) (v : ℕ) (vs : List ℕ) → rest_of us os ≡ v ∷ vs → AllByRecursion P (granted_of (zip us os))
      → IfSome o (λ (grant : Grant). P v) → AllByRecursion P (granted_of (zip us (os ++ o ∷ [])))
  granted-more [] [] o v vs same all one = tt
  granted-more [] (x ∷ os) o v vs same all one = tt
  granted-more (u ∷ us) [] None v vs same all one = none-granted us
  granted-more (u ∷ us) [] (Some grant) v vs same all one = (let e : v ≡ u = cc in subst P e one, none-granted us)
  granted-more (u ∷ us) (None ∷ os) o v vs same all one = granted-more us os o v vs same all one
  granted-more (u ∷ us) (Some x ∷ os) o v vs same all one = (all.0, granted-more us os o v vs same all.1 one)

  pub all-granted : (us : List ℕ) (os : List (Option Grant)) → AllByRecursion P us → AllByRecursion P (granted_of (zip us os))
  all-granted [] os all = tt
  all-granted (u ∷ us) [] all = tt
  all-granted (u ∷ us) (None ∷ os) all = all-granted us os all.1
  all-granted (u ∷ us) (Some x ∷ os) all = (all.0, all-granted us os all.1)

  all-kept : (test : ℕ → Bool) (us : List ℕ) → AllByRecursion P us → AllByRecursion P (filter test us)
  all-kept test [] all = tt
  all-kept test (u ∷ us) all = one (test u) (all-kept test us all.1) where
    one : (b : Bool) → AllByRecursion P (filter test us) → AllByRecursion P (cond b (u ∷ filter test us) (filter test us))
    one true rest = (all.0, rest)
    one false rest = rest

-- each two of them
abbrev Pairs : (ℕ → ℕ → Type 0) → List ℕ → Type 0
Pairs R [] = Unit {0}
Pairs R (u ∷ us) = AllByRecursion (R u) us × Pairs R us

module _ (R : ℕ → ℕ → Type 0) where
  pairs-granted : (us : List ℕ) (os : List (Option Grant)) → Pairs R us → Pairs R (granted_of (zip us os))
  pairs-granted [] os all = tt
  pairs-granted (u ∷ us) [] all = tt
  pairs-granted (u ∷ us) (None ∷ os) all = pairs-granted us os all.1
  pairs-granted (u ∷ us) (Some x ∷ os) all = (all-granted (R u) us os all.0, pairs-granted us os all.1)

  pairs-kept : (test : ℕ → Bool) (us : List ℕ) → Pairs R us → Pairs R (filter test us)
  pairs-kept test [] all = tt
  pairs-kept test (u ∷ us) all = one (test u) (pairs-kept test us all.1) where
    one : (b : Bool) → Pairs R (filter test us) → Pairs R (cond b (u ∷ filter test us) (filter test us))
    one true rest = (all-kept (R u) test us all.0, rest)
    one false rest = rest

not-in : {X : Type 0} (x : X) (xs : List X) → AllByRecursion (λ y. y ≡ x → ⊥) xs → IsIn x xs → ⊥
not-in x [] all i = i
not-in x (y ∷ ys) all (inl same) = all.0 same
not-in x (y ∷ ys) all (inr i) = not-in x ys all.1 i

-- rows
abbrev rows_in : List Row → List RowNo
rows_in rows = map (λ (row : Row). row.part.row) rows

in-rows : (before : List Row) (row : Row) (x : RowNo) → (row.part.row ≡ x) ⊎ IsIn x (rows_in before) → IsIn x (rows_in (before ++ row ∷ []))
in-rows [] row x (inl same) = inl same
in-rows [] row x (inr i) = absurd i
in-rows (other ∷ before) row x (inl same) = inr (in-rows before row x (inl same))
in-rows (other ∷ before) row x (inr (inl same)) = inl same
in-rows (other ∷ before) row x (inr (inr i)) = inr (in-rows before row x (inr i))

has-row : (rows : List Row) (x : RowNo) → IsIn x (rows_in rows) → HasRow x (parts_of rows)
has-row [] x i = i
has-row (row ∷ rows) x (inl same) = inl same
has-row (row ∷ rows) x (inr i) = inr (has-row rows x i)

part-later : (before : List Row) (part : RowPart) (left : List RowPart) → HasRow part.row (parts_of before ++ part ∷ left)
part-later [] part left = inl refl
part-later (row ∷ before) part left = inr (part-later before part left)

differ-before : (before : List Row) (part : RowPart) (left : List RowPart) → RowsDiffer (parts_of before ++ part ∷ left) → AllByRecursion (λ (row : Row). row.part.row ≡ part.row → ⊥) before
differ-before [] part left differ = tt
differ-before (row ∷ before) part left differ =
    (λ same. differ.0 (subst (λ (x : RowNo). HasRow x (parts_of before ++ part ∷ left)) (sym same) (part-later before part left)), differ-before before part left differ.1)

not-among : (rows : List Row) (x : RowNo) → AllByRecursion (λ (row : Row). row.part.row ≡ x → ⊥) rows → IsIn x (rows_in rows) → ⊥
not-among [] x apart i = i
not-among (row ∷ rows) x apart (inl same) = apart.0 same
not-among (row ∷ rows) x apart (inr i) = not-among rows x apart.1 i

module _ (a : Access) (least : 3 ≤ a.n) where
  abbrev Writes : Past → Steps Finish → Type 0
  Writes p s = Keeps a.n a.id HasWritten p s

  abbrev unit_slot : RowNo → ℕ → Slot
  unit_slot row u = slot_on row (bay_of a.n row u)

  -- what was granted of a row: the units of its grants, and the parity where it has its grant
  record Covered (slots : List Slot) (row : Row) : Type 0 where
    wanted : AllByRecursion (λ u. IsIn (unit_slot row.part.row u) slots) (wanted_granted a.n row)
    parity : has_slot (parity_slot a.n row.part.row) slots ≡ is_some row.parity

  parity-in : (row : RowNo) (slots : List Slot) (o : Option Grant) → has_slot (parity_slot a.n row) slots ≡ is_some o → IfSome o (λ (grant : Grant). IsIn (parity_slot a.n row) slots)
  parity-in row slots None has = tt
  parity-in row slots (Some grant) has = has-in (parity_slot a.n row) slots has

  covered-more : (o : Option Grant) (slot : Slot) (slots : List Slot) (row : Row) → (row.part.row ≡ slot.row → ⊥) → Covered slots row → Covered (grants o slot slots) row
  covered-more o slot slots row apart c = record {
    wanted =
        all-weaken (λ u. IsIn (unit_slot row.part.row u) slots) (λ u. IsIn (unit_slot row.part.row u) (grants o slot slots)) (λ u i. in-grants (unit_slot row.part.row u) o slot slots i)
        (wanted_granted a.n row) c.wanted;
    parity = has-grants (parity_slot a.n row.part.row) o slot slots (is_some row.parity) (row-apart (parity_slot a.n row.part.row) slot apart) c.parity;
  }

  all-covered : (o : Option Grant) (slot : Slot) (slots : List Slot) (rows : List Row) → AllByRecursion (λ (row : Row). row.part.row ≡ slot.row → ⊥) rows
      → AllByRecursion (Covered slots) rows → AllByRecursion (Covered (grants o slot slots)) rows
  all-covered o slot slots [] apart all = tt
  all-covered o slot slots (row ∷ rows) apart all = (covered-more o slot slots row apart.0 all.0, all-covered o slot slots rows apart.1 all.1)

  -- refused, it has put nothing
  refuses : (p : Past) → p.put ≡ [] → (rows : List Row) (cause : Cause) → Writes p (refused_steps (write_releases a rows) cause)
  refuses p none rows cause =
      gives-back a.n a.id HasWritten releasing (end_as (ends.Refused cause)) (write_releases a rows) p tt (row-releases a.id None (write_holds a.mode a.n) rows)
      (λ m walk. record { ended = none })

  -- The end
  written-ends : (p : Past) (n : Number) (made : List ℕ) → p.number ≡ Some n → (o : Option Cause) → HasWritten p (finish (written_or n made o))
  written-ends p n made numbered None = record { ended = numbered }
  written-ends p n made numbered (Some cause) = record { ended = numbered }

  end-keeps : (p : Past) (n : Number) → p.number ≡ Some n → (walk : Walk Puts) → Writes p (write_end a n walk)
  end-keeps p n numbered (Through puts) = written-ends p n puts.made numbered (first_cause a puts.made puts.troubles)
  end-keeps p n numbered (Stopped puts e r) = written-ends p n puts.made numbered (first_cause a puts.made puts.troubles)

  reader-releases : (mode : Mode) (rows : List Row) → AllByRecursion (λ (e : Errand). IsRelease a.id e.request) (reader_releases mode a rows)
  reader-releases Order rows = tt
  reader-releases Lock rows = row-releases a.id None (λ (row : Row). bays_of a.n row.part.row (others_granted a.n row)) rows

  last-keeps : (p : Past) (n : Number) (rows : List Row) (puts : Puts) → p.number ≡ Some n → Writes p (write_last a n rows puts)
  last-keeps p n rows puts numbered =
      gives-back a.n a.id HasWritten (finishing a n) (write_end a n) (reader_releases a.mode a rows) p puts (reader-releases a.mode rows)
      (λ m walk. end-keeps (record p { phase = m }) n numbered walk)

  -- Puts
  record Putting (n : Number) (left : List Row) (p : Past) : Type 0 where
    phase : p.phase ≤ 2
    number : p.number ≡ Some n
    claimed : AllByRecursion (λ (claim : Slot). IsIn claim.row p.confirmed) p.claimed
    covered : AllByRecursion (Covered p.granted) left
    put : AllByRecursion (λ (slot : Slot). IsIn slot.row (rows_in left) → ⊥) p.put
    differ : RowsDiffer (parts_of left)

  abbrev Differ : RowNo → ℕ → ℕ → Type 0
  Differ row u v = bay_of a.n row u ≡ bay_of a.n row v → ⊥

  range-differs : (row : RowNo) (u first count : ℕ) → u < first → first + count ≤ a.n - 1 → AllByRecursion (Differ row u) (range_with_len first count)
  range-differs row u first zero less le = tt
  range-differs row u first (suc count) less le =
      (λ same. apart (unit_distinct a.n row u first least (omega arith) (omega arith) same), range-differs row u (first + 1) count (omega arith) (omega arith)) where
        apart : u ≡ first → ⊥
        apart same = absurd (omega arith)

  range-pairs : (row : RowNo) (first count : ℕ) → first + count ≤ a.n - 1 → Pairs (Differ row) (range_with_len first count)
  range-pairs row first zero le = tt
  range-pairs row first (suc count) le = (range-differs row first (first + 1) count (omega arith) (omega arith), range-pairs row (first + 1) count (omega arith))

  -- the slot is none of these, and not the parity's
  record IsFree (row : RowNo) (us : List ℕ) (slot : Slot) : Type 0 where
    units : AllByRecursion (λ u. slot ≡ unit_slot row u → ⊥) us
    parity : slot ≡ parity_slot a.n row → ⊥

  all-other : (row : RowNo) (slot : Slot) → (slot.row ≡ row → ⊥) → (us : List ℕ) → AllByRecursion (λ u. slot ≡ unit_slot row u → ⊥) us
  all-other row slot other [] = tt
  all-other row slot other (u ∷ us) = (λ same. other (ap (λ (s : Slot). s.row) same), all-other row slot other us)

  module _ (n : Number) (row : Row) (left : List Row) (rest : Puts → Steps Finish) (rest_keeps : (p : Past) (puts : Puts) → Putting n left p → Writes p (rest puts)) where
    abbrev this : RowNo
    this = row.part.row

    record PuttingRow (us : List ℕ) (p : Past) : Type 0 where
      phase : p.phase ≤ 2
      number : p.number ≡ Some n
      claimed : AllByRecursion (λ (claim : Slot). IsIn claim.row p.confirmed) p.claimed
      granted : AllByRecursion (λ u. IsIn (unit_slot this u) p.granted) us
      parity : IfSome row.parity (λ (grant : Grant). IsIn (parity_slot a.n this) p.granted)
      covered : AllByRecursion (Covered p.granted) left
      pairs : Pairs (Differ this) us
      aside : AllByRecursion (Aside a.n this) us
      free : AllByRecursion (IsFree this us) p.put
      put : AllByRecursion (λ (slot : Slot). IsIn slot.row (rows_in left) → ⊥) p.put
      apart : IsIn this (rows_in left) → ⊥
      differ : RowsDiffer (parts_of left)

    -- what follows the row
    goes-on : (us : List ℕ) (p : Past) → PuttingRow us p → Putting n left p
    goes-on us p j = record { phase = j.phase; number = j.number; claimed = j.claimed; covered = j.covered; put = j.put; differ = j.differ }

    with-put : (us : List ℕ) (p : Past) (bay : BayNo) → PuttingRow us p → Putting n left (record p { phase = 2; put = slot_on this bay ∷ p.put })
    with-put us p bay j = record { phase = omega arith; number = j.number; claimed = j.claimed; covered = j.covered; put = (j.apart, j.put); differ = j.differ }

    unit-put : (u : ℕ) (us : List ℕ) (p : Past) → PuttingRow (u ∷ us) p → PuttingRow us (record p { phase = 2; put = unit_slot this u ∷ p.put })
    unit-put u us p j = record {
      phase = omega arith;
      number = j.number;
      claimed = j.claimed;
      granted = j.granted.1;
      parity = j.parity;
      covered = j.covered;
      pairs = j.pairs.1;
      aside = j.aside.1;
      free = (
        record {
          units = all-weaken (Differ this u) (λ v. unit_slot this u ≡ unit_slot this v → ⊥) (λ v no same. no (ap (λ (s : Slot). s.bay) same)) us j.pairs.0;
          parity = λ same. j.aside.0 (ap (λ (s : Slot). s.bay) same);
        },
        all-weaken (IsFree this (u ∷ us)) (IsFree this us) (λ slot f. record { units = f.units.1; parity = f.parity }) p.put j.free,
      );
      put = (j.apart, j.put);
      apart = j.apart;
      differ = j.differ;
    }

    may-put : (u : ℕ) (us : List ℕ) (p : Past) → PuttingRow (u ∷ us) p → MayPut a.n p (unit_slot this u)
    may-put u us p j = record {
      granted = j.granted.0;
      confirmed = j.claimed;
      once = not-in (unit_slot this u) p.put (all-weaken (IsFree this (u ∷ us)) (λ (slot : Slot). slot ≡ unit_slot this u → ⊥) (λ slot f. f.units.0) p.put j.free);
      parity_last = not-in (parity_slot a.n this) p.put (all-weaken (IsFree this (u ∷ us)) (λ (slot : Slot). slot ≡ parity_slot a.n this → ⊥) (λ slot f. f.parity) p.put j.free);
    }

    parity-done-keeps : (p : Past) → Putting n left p → (walk : Walk Puts) → Writes p (parity_done row rest walk)
    parity-done-keeps p j (Through puts) = rest_keeps p puts j
    parity-done-keeps p j (Stopped puts e r) = rest_keeps p (with_trouble puts (trouble_of row e r)) j

    parity-keeps : (p : Past) (puts : Puts) → PuttingRow [] p → (o : Option Grant) → IfSome o (λ (grant : Grant). IsIn (parity_slot a.n this) p.granted)
        → Writes p (put_parity a n row rest puts o)
    parity-keeps p puts j None granted = rest_keeps p puts (goes-on [] p j)
    parity-keeps p puts j (Some grant) granted =
        keeps-one a.n a.id HasWritten (putting_parity a n row) (parity_done row rest) (parity_put a n row) p puts (
          refl,
          j.phase,
          j.number,
          record {
            granted = granted;
            confirmed = j.claimed;
            once = free;
            parity_last = free;
          },
        )
        (λ r. given ((putting_parity a n row).step puts (parity_put a n row) r))
        (λ r. parity-done-keeps (record p { phase = 2; put = parity_slot a.n this ∷ p.put }) (with-put [] p (parity_bay a.n this) j) (Stopped puts (parity_put a n row) r)) where
          free : IsIn (parity_slot a.n this) p.put → ⊥
          free = not-in (parity_slot a.n this) p.put (all-weaken (IsFree this []) (λ (slot : Slot). slot ≡ parity_slot a.n this → ⊥) (λ slot f. f.parity) p.put j.free)

          given : (o : Option Puts) → IfSome o (λ (b : Puts). Writes (record p { phase = 2; put = parity_slot a.n this ∷ p.put }) (parity_done row rest (Through b)))
          given None = tt
          given (Some b) = parity-done-keeps (record p { phase = 2; put = parity_slot a.n this ∷ p.put }) (with-put [] p (parity_bay a.n this) j) (Through b)

    data-stopped : (u : ℕ) (us : List ℕ) (p : Past) (puts : Puts) (r : Reply) → PuttingRow (u ∷ us) p
        → Writes (after p (data_put a n row u) r) (data_done a n row rest (Stopped puts (data_put a n row u) r))
    data-stopped u us p puts r j =
        rest_keeps (record p { phase = 2; put = unit_slot this u ∷ p.put }) (with_trouble puts (trouble_of row (data_put a n row u) r)) (with-put (u ∷ us) p (bay_of a.n this u) j)

    row-keeps : (p : Past) (puts : Puts) (us : List ℕ) → PuttingRow us p
        → Writes p (run (putting_data a n row) (map (data_put a n row) us) puts >>= data_done a n row rest)
    row-keeps p puts us j =
        keeps-walk a.n a.id HasWritten (data_put a n row) (λ us p puts. PuttingRow us p) (putting_data a n row) (data_done a n row rest)
        (λ u us p puts j. (refl, j.phase, j.number, may-put u us p j))
        (λ u us p puts r j. given us (record p { phase = 2; put = unit_slot this u ∷ p.put }) (unit-put u us p j) ((putting_data a n row).step puts (data_put a n row u) r))
        (λ p puts j. parity-keeps p puts j row.parity j.parity)
        (λ u us p puts r j. data-stopped u us p puts r j)
        us p puts j where
          given : (us : List ℕ) (p : Past) → PuttingRow us p → (o : Option Puts) → IfSome o (λ (b : Puts). PuttingRow us p)
          given us p j None = tt
          given us p j (Some b) = j

  rows-put : (n : Number) (last : Puts → Steps Finish) → ((p : Past) (puts : Puts) → p.number ≡ Some n → Writes p (last puts))
      → (left : List Row) (p : Past) (puts : Puts) → Putting n left p → Writes p (put_rows a n last left puts)
  rows-put n last last_keeps [] p puts j = last_keeps p puts j.number
  rows-put n last last_keeps (row ∷ left) p puts j =
      row-keeps n row left (put_rows a n last left) (λ p puts j. rows-put n last last_keeps left p puts j) p (at_row puts) us (record {
        phase = j.phase;
        number = j.number;
        claimed = j.claimed;
        granted = j.covered.0.wanted;
        parity = parity-in row.part.row p.granted row.parity j.covered.0.parity;
        covered = j.covered.1;
        pairs =
            pairs-granted (Differ row.part.row) (units_in a.n row.part.mask) row.wanted
            (pairs-kept (Differ row.part.row) (has_unit row.part.mask) (units a.n) (range-pairs row.part.row 0 (a.n - 1) (omega arith)));
        aside =
            all-granted (Aside a.n row.part.row) (units_in a.n row.part.mask) row.wanted
            (all-kept (Aside a.n row.part.row) (has_unit row.part.mask) (units a.n) (units-aside a.n row.part.row));
        free =
            all-weaken (λ (slot : Slot). IsIn slot.row (rows_in (row ∷ left)) → ⊥) (IsFree row.part.row us)
            (λ slot out. record {
              units = all-other row.part.row slot (λ same. out (inl (sym same))) us;
              parity = λ same. out (inl (sym (ap (λ (s : Slot). s.row) same)));
            }) p.put j.put;
        put =
            all-weaken (λ (slot : Slot). IsIn slot.row (rows_in (row ∷ left)) → ⊥) (λ (slot : Slot). IsIn slot.row (rows_in left) → ⊥)
            (λ slot out i. out (inr i)) p.put j.put;
        apart = λ i. j.differ.0 (has-row left row.part.row i);
        differ = j.differ.1;
      }) where
        us : List ℕ
        us = granted_of (zip (units_in a.n row.part.mask) row.wanted)

  -- The lock point
  record Ready (rows : List Row) (p : Past) : Type 0 where
    phase : p.phase ≤ 2
    put : p.put ≡ []
    claimed : AllByRecursion (λ (claim : Slot). IsIn claim.row p.confirmed) p.claimed
    covered : AllByRecursion (Covered p.granted) rows
    differ : RowsDiffer (parts_of rows)

  puts-keep : (n : Number) (rows : List Row) (p : Past) → Ready rows p → p.number ≡ Some n → Writes p (put_steps a n rows)
  puts-keep n rows p j numbered =
      rows-put n (write_last a n rows) (λ p puts numbered. last-keeps p n rows puts numbered) rows p no_puts (record {
        phase = j.phase;
        number = numbered;
        claimed = j.claimed;
        covered = j.covered;
        put = subst (AllByRecursion (λ (slot : Slot). IsIn slot.row (rows_in rows) → ⊥)) (sym j.put) tt;
        differ = j.differ;
      })

  drawn-keeps : (rows : List Row) (p : Past) → Ready rows p → (d : Result Number Spent) → Writes (after_number p d) (write_drawn a rows d)
  drawn-keeps rows p j (Err spent) = refuses (record p { phase = 3 }) j.put rows (causes.Spent spent.seen)
  drawn-keeps rows p j (Ok n) =
      puts-keep n rows (record p { number = Some n; phase = 2 }) (record { phase = omega arith; put = j.put; claimed = j.claimed; covered = j.covered; differ = j.differ }) refl

  numbered-keeps : (mode : Mode) (rows : List Row) (p : Past) → p.phase ≤ 1 → Ready rows p → p.number ≡ number_of mode a.id → Writes p (write_numbered mode a rows)
  numbered-keeps Order rows p early j numbered = puts-keep a.id rows p j numbered
  numbered-keeps Lock rows p early j numbered = (numbered, early, λ d. drawn-keeps rows p j d)

  -- Confirms
  record Confirming (done left : List Row) (p : Past) : Type 0 where
    phase : p.phase ≤ 1
    number : p.number ≡ number_of a.mode a.id
    put : p.put ≡ []
    claimed : AllByRecursion (λ (claim : Slot). IsIn claim.row p.confirmed ⊎ IsIn claim.row (rows_in left)) p.claimed
    covered : AllByRecursion (Covered p.granted) done
    ahead : AllByRecursion (Covered p.granted) left

  module _ (differ : RowsDiffer a.parts) where
    ready : (rows : List Row) (p : Past) → SoFar a rows [] → Confirming rows [] p → Ready rows p
    ready rows p so_far j = record {
      phase = omega (arith, j.phase);
      put = j.put;
      claimed = all-weaken (λ (claim : Slot). IsIn claim.row p.confirmed ⊎ ⊥) (λ (claim : Slot). IsIn claim.row p.confirmed) (λ claim i. only claim i) p.claimed j.claimed;
      covered = j.covered;
      differ = subst RowsDiffer (sym (sym (append-nil (parts_of rows)) ∙ so_far)) differ;
    } where
      only : (claim : Slot) → IsIn claim.row p.confirmed ⊎ ⊥ → IsIn claim.row p.confirmed
      only claim (inl i) = i
      only claim (inr i) = absurd i

    -- one more row is confirmed
    confirmed-more : (done left : List Row) (row other : Row) (p : Past) → Confirming done (row ∷ left) p → Covered p.granted other
        → Confirming (done ++ other ∷ []) left (record p { phase = 1; confirmed = row.part.row ∷ p.confirmed })
    confirmed-more done left row other p j c = record {
      phase = omega arith;
      number = j.number;
      put = j.put;
      claimed =
          all-weaken (λ (claim : Slot). IsIn claim.row p.confirmed ⊎ IsIn claim.row (rows_in (row ∷ left)))
          (λ (claim : Slot). IsIn claim.row (row.part.row ∷ p.confirmed) ⊎ IsIn claim.row (rows_in left)) (λ claim i. moves claim i) p.claimed j.claimed;
      covered = all-append (Covered p.granted) done (other ∷ []) j.covered (c, tt);
      ahead = j.ahead.1;
    } where
      moves : (claim : Slot) → IsIn claim.row p.confirmed ⊎ IsIn claim.row (rows_in (row ∷ left)) → IsIn claim.row (row.part.row ∷ p.confirmed) ⊎ IsIn claim.row (rows_in left)
      moves claim (inl i) = inl (inr i)
      moves claim (inr (inl same)) = inl (inl same)
      moves claim (inr (inr i)) = inr i

    module _ (taken : List Row) (row : Row) (left : List Row) (p : Past) (done : Rows) (j : Confirming done.rows (row ∷ left) p) (so_far : SoFar a done.rows (parts_of (row ∷ left)))
        (rest : Rows → Steps Finish)
        (rest_keeps : (p : Past) (done : Rows) → Confirming done.rows left p → SoFar a done.rows (parts_of left) → Writes p (rest done)) where
      abbrev Goes : Bool → Rows → Type 0
      Goes b done = Writes (record p { phase = 1; confirmed = cond b (row.part.row ∷ p.confirmed) p.confirmed }) (rest done)

      abbrev more : Row → Rows
      more r = record done { rows = done.rows ++ r ∷ [] }

      goes : (other : Row) → Covered p.granted other → other.part ≡ row.part → Goes true (more other)
      goes other c same =
          rest_keeps (record p { phase = 1; confirmed = row.part.row ∷ p.confirmed }) (more other) (confirmed-more done.rows left row other p j c)
          (so_far-more a done.rows other row.part (parts_of left) same so_far)

      goes-missing : (reply : Reply) → IfSome (option_map more (cond (is_missing reply) (Some row) None)) (Goes (is_missing reply))
      goes-missing reply = one (is_missing reply) where
        one : (b : Bool) → IfSome (option_map more (cond b (Some row) None)) (Goes b)
        one true = goes row j.ahead.0 refl
        one false = tt

      goes-held : (grant : Grant) → has_slot (parity_slot a.n row.part.row) p.granted ≡ true → (want : Bool) (cell : Option Cell)
          → IfSome (option_map more (held_row row grant want (Some cell))) (Goes true)
      goes-held grant has true None = tt
      goes-held grant has true (Some cell) = goes (record row { parity = Some (record grant { cell = Some cell }) }) (record { wanted = j.ahead.0.wanted; parity = has }) refl
      goes-held grant has false cell = goes row j.ahead.0 refl

      -- a reply that shows what is held is Held
      goes-granted : (grant : Grant) → has_slot (parity_slot a.n row.part.row) p.granted ≡ true → (want : Bool) (reply : Reply)
          → IfSome (option_map more (held_row row grant want (held_of reply))) (Goes (is_held reply))
      goes-granted grant has want (Granted cell read_no write_no last life seized) = tt
      goes-granted grant has want (Busy holder) = tt
      goes-granted grant has want (Late above) = tt
      goes-granted grant has want (Young note) = tt
      goes-granted grant has want (Missing floor) = tt
      goes-granted grant has want (Held cell) = goes-held grant has want cell
      goes-granted grant has want (NoNote life) = tt
      goes-granted grant has want Done = tt
      goes-granted grant has want Fault = tt
      goes-granted grant has want Emptied = tt
      goes-granted grant has want Fitted = tt

      goes-confirmed : (reply : Reply) (o : Option Grant) → has_slot (parity_slot a.n row.part.row) p.granted ≡ is_some o
          → IfSome (option_map more (confirmed_row row reply o)) (Goes (is_due (is_some o) reply))
      goes-confirmed reply None has = goes-missing reply
      goes-confirmed reply (Some grant) has = goes-granted grant has (lacks row.others) reply

      goes-unrefused : (reply : Reply) (o : Option Cause) → IfSome (option_map more (unrefused_row row reply o)) (Goes (is_due (is_some row.parity) reply))
      goes-unrefused reply (Some cause) = tt
      goes-unrefused reply None = goes-confirmed reply row.parity j.ahead.0.parity

      goes-due : (reply : Reply) (o : Option Cause) → IfSome (option_map more (unrefused_row row reply o)) (Goes (is_due (has_slot (parity_slot a.n row.part.row) p.granted) reply))
      goes-due reply o =
          subst (λ (b : Bool). IfSome (option_map more (unrefused_row row reply o)) (Goes (is_due b reply))) (sym j.ahead.0.parity) (goes-unrefused reply o)

      confirm-one : Writes p (run (confirming a row) (row_confirm a row ∷ []) done >>= row_confirmed a taken row rest)
      confirm-one =
          keeps-one a.n a.id HasWritten (confirming a row) (row_confirmed a taken row rest) (row_confirm a row) p done
          (refl, j.phase, refl)
          (λ reply. goes-due reply (refusal (behind_from a.mode a.id) done.missing (parity_bay a.n row.part.row) reply))
          (λ reply. refuses (after p (row_confirm a row) reply) j.put taken (confirm_cause a row done (row_confirm a row) reply))

    confirms-keep : (taken left : List Row) (p : Past) (done : Rows) → Confirming done.rows left p → SoFar a done.rows (parts_of left) → Writes p (confirm_rows a taken left done)
    confirms-keep taken [] p done j so_far = numbered-keeps a.mode done.rows p j.phase (ready done.rows p so_far j) j.number
    confirms-keep taken (row ∷ left) p done j so_far =
        confirm-one taken row left p done j so_far (confirm_rows a taken left) (λ p done j so_far. confirms-keep taken left p done j so_far)

    -- Claims. The rows taken so far
    record Took (rows : List Row) (p : Past) : Type 0 where
      phase : p.phase ≤ 0
      number : p.number ≡ number_of a.mode a.id
      put : p.put ≡ []
      claimed : AllByRecursion (λ (claim : Slot). IsIn claim.row (rows_in rows)) p.claimed
      granted : AllByRecursion (λ (slot : Slot). IsIn slot.row (rows_in rows)) p.granted
      covered : AllByRecursion (Covered p.granted) rows

    -- and a row in hand, of which these units are still to be claimed
    record InHand (q : RowPart) (us : List ℕ) (p : Past) (taken : Taken) : Type 0 where
      same : taken.row.part ≡ q
      phase : p.phase ≤ 0
      number : p.number ≡ number_of a.mode a.id
      put : p.put ≡ []
      claimed : AllByRecursion (λ (claim : Slot). (q.row ≡ claim.row) ⊎ IsIn claim.row (rows_in taken.before)) p.claimed
      granted : AllByRecursion (λ (slot : Slot). (q.row ≡ slot.row) ⊎ IsIn slot.row (rows_in taken.before)) p.granted
      first : IsIn (parity_slot a.n q.row) p.claimed
      apart : AllByRecursion (λ (row : Row). row.part.row ≡ q.row → ⊥) taken.before
      before : AllByRecursion (Covered p.granted) taken.before
      wanted : AllByRecursion (λ u. IsIn (unit_slot q.row u) p.granted) (granted_of (zip (units_in a.n q.mask) taken.row.wanted))
      parity : has_slot (parity_slot a.n q.row) p.granted ≡ is_some taken.row.parity
      left : rest_of (units_in a.n q.mask) taken.row.wanted ≡ us
      aside : AllByRecursion (Aside a.n q.row) us

    in-part : (q : RowPart) (us : List ℕ) (p : Past) (taken : Taken) → InHand q us p taken → InHand taken.row.part us p taken
    in-part q us p taken j = subst (λ (q : RowPart). InHand q us p taken) (sym j.same) j

    -- the row is taken
    row-took : (us : List ℕ) (p : Past) (taken : Taken) → InHand taken.row.part us p taken → Took (taken.before ++ taken.row ∷ []) p
    row-took us p taken j = record {
      phase = j.phase;
      number = j.number;
      put = j.put;
      claimed = taken-rows p.claimed j.claimed;
      granted = taken-rows p.granted j.granted;
      covered = all-append (Covered p.granted) taken.before (taken.row ∷ []) j.before (record { wanted = j.wanted; parity = j.parity }, tt);
    } where
      taken-rows : (slots : List Slot) → AllByRecursion (λ (slot : Slot). (taken.row.part.row ≡ slot.row) ⊎ IsIn slot.row (rows_in taken.before)) slots
          → AllByRecursion (λ (slot : Slot). IsIn slot.row (rows_in (taken.before ++ taken.row ∷ []))) slots
      taken-rows slots all =
          all-weaken (λ (slot : Slot). (taken.row.part.row ≡ slot.row) ⊎ IsIn slot.row (rows_in taken.before)) (λ (slot : Slot). IsIn slot.row (rows_in (taken.before ++ taken.row ∷ [])))
          (λ slot i. in-rows taken.before taken.row slot.row i) slots all

    -- a share changes nothing of that
    other-kept : (q : RowPart) (us : List ℕ) (p : Past) (taken : Taken) (bay : BayNo) (o : Option Grant) → InHand q us p taken → InHand q us p (with_grant with_other taken bay o)
    other-kept q us p taken bay (Some grant) j = record {
      same = j.same;
      phase = j.phase;
      number = j.number;
      put = j.put;
      claimed = j.claimed;
      granted = j.granted;
      first = j.first;
      apart = j.apart;
      before = j.before;
      wanted = j.wanted;
      parity = j.parity;
      left = j.left;
      aside = j.aside;
    }
    other-kept q us p taken bay None j = record {
      same = j.same;
      phase = j.phase;
      number = j.number;
      put = j.put;
      claimed = j.claimed;
      granted = j.granted;
      first = j.first;
      apart = j.apart;
      before = j.before;
      wanted = j.wanted;
      parity = j.parity;
      left = j.left;
      aside = j.aside;
    }

    -- a claim of the next unit
    unit-kept : (q : RowPart) (u : ℕ) (us : List ℕ) (p : Past) (taken : Taken) → InHand q (u ∷ us) p taken → (c : Option Cause) (o : Option Grant)
        → IfSome (option_map (with_grant with_wanted taken (bay_of a.n q.row u)) (unless c o))
        (InHand q us (record p { claimed = unit_slot q.row u ∷ p.claimed; granted = grants o (unit_slot q.row u) p.granted }))
    unit-kept q u us p taken j (Some cause) o = tt
    unit-kept q u us p taken j None None = record {
      same = j.same;
      phase = j.phase;
      number = j.number;
      put = j.put;
      claimed = (inl refl, j.claimed);
      granted = j.granted;
      first = inr j.first;
      apart = j.apart;
      before = j.before;
      wanted = granted-more (λ u. IsIn (unit_slot q.row u) p.granted) (units_in a.n q.mask) taken.row.wanted None u us j.left j.wanted tt;
      parity = j.parity;
      left = rest-more (units_in a.n q.mask) taken.row.wanted None u us j.left;
      aside = j.aside.1;
    }
    unit-kept q u us p taken j None (Some grant) = record {
      same = j.same;
      phase = j.phase;
      number = j.number;
      put = j.put;
      claimed = (inl refl, j.claimed);
      granted = (inl refl, j.granted);
      first = inr j.first;
      apart = j.apart;
      before = all-covered (Some grant) (unit_slot q.row u) p.granted taken.before j.apart j.before;
      wanted =
          granted-more (λ v. IsIn (unit_slot q.row v) (unit_slot q.row u ∷ p.granted)) (units_in a.n q.mask) taken.row.wanted (Some grant) u us j.left
          (all-weaken (λ v. IsIn (unit_slot q.row v) p.granted) (λ v. IsIn (unit_slot q.row v) (unit_slot q.row u ∷ p.granted)) (λ v i. inr i)
          (granted_of (zip (units_in a.n q.mask) taken.row.wanted)) j.wanted)
          (inl refl);
      parity = has-behind (parity_slot a.n q.row) (unit_slot q.row u) p.granted (is_some taken.row.parity) (aside-slot a.n q.row u j.aside.0) j.parity;
      left = rest-more (units_in a.n q.mask) taken.row.wanted (Some grant) u us j.left;
      aside = j.aside.1;
    }

    module _ (part : RowPart) (left : List RowPart) (rest : Rows → Steps Finish)
        (rest_keeps : (p : Past) (done : Rows) → Took done.rows p → SoFar a done.rows left → Writes p (rest done)) where
      -- with all its units still to be claimed, or none
      abbrev Has : RowPart → List ℕ → Past → Taken → Type 0
      Has q us p taken = InHand q us p taken × IsTaking a part left taken

      abbrev AtUnits : Past → Taken → Type 0
      AtUnits p taken = Has taken.row.part (units_in a.n taken.row.part.mask) p taken

      stopped-keeps : (p : Past) (taken : Taken) (e : Errand) (r : Reply) → p.put ≡ [] → Writes p (write_stopped a taken e r)
      stopped-keeps p taken e r none = refuses p none (taken.before ++ taken.row ∷ []) (why (behind_from a.mode a.id) taken e r)

      ended-keeps : (q : RowPart) (us : List ℕ) (p : Past) (taken : Taken) → Has q us p taken → Writes p (rest (row_ended taken))
      ended-keeps q us p taken h = rest_keeps p (row_ended taken) (row-took us p taken (in-part q us p taken h.0)) (taking-ended a part left taken h.1)

      -- a walk over the units, whatever follows
      claims-keep : (want : Bool) (f : Walk Taken → Steps Finish) → ((q : RowPart) (p : Past) (taken : Taken) → Has q [] p taken → Writes p (f (Through taken)))
          → ((p : Past) (taken : Taken) (e : Errand) (r : Reply) → p.put ≡ [] → Writes p (f (Stopped taken e r)))
          → (p : Past) (taken : Taken) → AtUnits p taken → Writes p (run (claiming a with_wanted) (wanted_claims a want taken.row.part) taken >>= f)
      claims-keep want f on off p taken h =
          let q : RowPart = taken.row.part in
          keeps-units a.n a.id HasWritten (bay_of a.n q.row) (claim a.id q.row hows.Plain 0 want) (Has q) (claiming a with_wanted) f
          (λ u us p taken j. (refl, j.0.phase, inr j.0.first))
          (λ u us p taken r j. both-some
          (InHand q us (after p (claim a.id q.row hows.Plain 0 want (bay_of a.n q.row u)) r)) (IsTaking a part left)
          ((claiming a with_wanted).step taken (claim a.id q.row hows.Plain 0 want (bay_of a.n q.row u)) r)
          (unit-kept q u us p taken j.0 (refusal (behind_from a.mode a.id) taken.missing (bay_of a.n q.row u) r) (grant_of r))
          (taking-step a part left with_wanted keeps-wanted taken (claim a.id q.row hows.Plain 0 want (bay_of a.n q.row u)) r j.1))
          (λ p taken j. on q p taken j)
          (λ u us p taken r j. off (after p (claim a.id q.row hows.Plain 0 want (bay_of a.n q.row u)) r) taken (claim a.id q.row hows.Plain 0 want (bay_of a.n q.row u)) r j.0.put)
          (units_in a.n q.mask) p taken h

      claim-wanted-keeps : (want : Bool) (p : Past) (taken : Taken) → AtUnits p taken → Writes p (claim_wanted a rest want taken)
      claim-wanted-keeps want p taken h =
          claims-keep want (row_claimed a rest) (λ q p taken h. ended-keeps q [] p taken h) stopped-keeps p taken h

      share-others-keeps : (b : Bool) (q : RowPart) (p : Past) (taken : Taken) → Has q [] p taken → Writes p (share_others a rest taken b)
      share-others-keeps false q p taken h = ended-keeps q [] p taken h
      share-others-keeps true q p taken h =
          let x : RowPart = taken.row.part in
          keeps-units a.n a.id HasWritten (bay_of a.n x.row) (share a.id x.row) (λ us p taken. Has q [] p taken) (claiming a with_other) (row_claimed a rest)
          (λ u us p taken j. (refl, j.0.phase))
          (λ u us p taken r j. both-some (InHand q [] p) (IsTaking a part left) ((claiming a with_other).step taken (share a.id x.row (bay_of a.n x.row u)) r)
          (shared p taken j.0 (bay_of a.n x.row u) (refusal (behind_from a.mode a.id) taken.missing (bay_of a.n x.row u) r) (grant_of r))
          (taking-step a part left with_other keeps-other taken (share a.id x.row (bay_of a.n x.row u)) r j.1))
          (λ p taken j. ended-keeps q [] p taken j)
          (λ u us p taken r j. stopped-keeps p taken (share a.id x.row (bay_of a.n x.row u)) r j.0.put)
          (units_out a.n x.mask) p taken h where
            shared : (p : Past) (taken : Taken) → InHand q [] p taken → (bay : BayNo) (c : Option Cause) (o : Option Grant)
                → IfSome (option_map (with_grant with_other taken bay) (unless c o)) (InHand q [] p)
            shared p taken j bay (Some cause) o = tt
            shared p taken j bay None o = other-kept q [] p taken bay o j

      share-stopped-keeps : (p : Past) (taken : Taken) (bay : BayNo) → AtUnits p taken → (o : Option Cause) → Writes p (share_stopped a rest taken bay o)
      share-stopped-keeps p taken bay h (Some cause) = refuses p h.0.put (taken.before ++ taken.row ∷ []) cause
      share-stopped-keeps p taken bay h None =
          claim-wanted-keeps true p (with_grant with_other taken bay None)
          (other-kept taken.row.part (units_in a.n taken.row.part.mask) p taken bay None h.0, taking-granted a part left with_other keeps-other taken bay None h.1)

      claim-row-keeps : (p : Past) (taken : Taken) → AtUnits p taken → (o : Option Grant) (plan : Plan) → Writes p (claim_row a rest taken o plan)
      claim-row-keeps p taken h None plan = claim-wanted-keeps false p taken h
      claim-row-keeps p taken h (Some grant) Full = claim-wanted-keeps false p taken h
      claim-row-keeps p taken h (Some grant) Small =
          claims-keep true (small_claimed a rest) (λ q p taken h. share-others-keeps (lacks taken.row.wanted) q p taken h) stopped-keeps p taken h
      claim-row-keeps p taken h (Some grant) Reconstruct =
          let q : RowPart = taken.row.part in
          keeps-units a.n a.id HasWritten (bay_of a.n q.row) (share a.id q.row) (λ us p taken. Has q (units_in a.n q.mask) p taken) (taking_until with_other) (others_shared a rest)
          (λ u us p taken j. (refl, j.0.phase))
          (λ u us p taken r j. both-some (InHand q (units_in a.n q.mask) p) (IsTaking a part left) ((taking_until with_other).step taken (share a.id q.row (bay_of a.n q.row u)) r)
          (shared q p taken j.0 (bay_of a.n q.row u) (grant_of r))
          (until-step a part left with_other keeps-other taken (share a.id q.row (bay_of a.n q.row u)) r j.1))
          (λ p taken j. claim-wanted-keeps false p taken (at-part q p taken j))
          (λ u us p taken r j. share-stopped-keeps p taken (bay_of a.n q.row u) (at-part q p taken j) (refusal (behind_from a.mode a.id) taken.missing (bay_of a.n q.row u) r))
          (units_out a.n q.mask) p taken h where
            at-part : (q : RowPart) (p : Past) (taken : Taken) → Has q (units_in a.n q.mask) p taken → AtUnits p taken
            at-part q p taken j = subst (λ (q : RowPart). Has q (units_in a.n q.mask) p taken) (sym j.0.same) j

            shared : (q : RowPart) (p : Past) (taken : Taken) → InHand q (units_in a.n q.mask) p taken → (bay : BayNo) (o : Option Grant)
                → IfSome (option_map (λ (grant : Grant). with_grant with_other taken bay (Some grant)) o) (InHand q (units_in a.n q.mask) p)
            shared q p taken j bay None = tt
            shared q p taken j bay (Some grant) = other-kept q (units_in a.n q.mask) p taken bay (Some grant) j

      -- the parity of the row
      abbrev parity_past : Past → Option Grant → Past
      parity_past p o = record p { claimed = parity_slot a.n part.row ∷ p.claimed; granted = grants o (parity_slot a.n part.row) p.granted }

      -- the rows before are others
      apart-before : (before : List Row) → SoFar a before (part ∷ left) → AllByRecursion (λ (row : Row). row.part.row ≡ part.row → ⊥) before
      apart-before before so_far = differ-before before part left (subst RowsDiffer (sym so_far) differ)

      rows-more : (rows : List Row) (slots : List Slot) → AllByRecursion (λ (slot : Slot). IsIn slot.row (rows_in rows)) slots
          → AllByRecursion (λ (slot : Slot). (part.row ≡ slot.row) ⊎ IsIn slot.row (rows_in rows)) slots
      rows-more rows slots all =
          all-weaken (λ (slot : Slot). IsIn slot.row (rows_in rows)) (λ (slot : Slot). (part.row ≡ slot.row) ⊎ IsIn slot.row (rows_in rows)) (λ slot i. inr i) slots all

      -- no slot of the row was granted yet
      fresh : (rows : List Row) (slots : List Slot) → AllByRecursion (λ (row : Row). row.part.row ≡ part.row → ⊥) rows
          → AllByRecursion (λ (slot : Slot). IsIn slot.row (rows_in rows)) slots → has_slot (parity_slot a.n part.row) slots ≡ false
      fresh rows slots apart all =
          has-none (parity_slot a.n part.row) slots
          (all-weaken (λ (slot : Slot). IsIn slot.row (rows_in rows)) (λ (slot : Slot). is_slot (parity_slot a.n part.row) slot ≡ false)
          (λ slot i. row-apart (parity_slot a.n part.row) slot (λ same. not-among rows part.row apart (subst (λ (x : RowNo). IsIn x (rows_in rows)) (sym same) i))) slots all)

      begun-row : (p : Past) (done : Rows) (o : Option Grant) → Took done.rows p → SoFar a done.rows (part ∷ left)
          → AtUnits (parity_past p o) (with_grant with_parity (begun part done) (parity_bay a.n part.row) o)
      begun-row p done None j so_far = (
        record {
          same = refl;
          phase = j.phase;
          number = j.number;
          put = j.put;
          claimed = (inl refl, rows-more done.rows p.claimed j.claimed);
          granted = rows-more done.rows p.granted j.granted;
          first = inl refl;
          apart = apart-before done.rows so_far;
          before = j.covered;
          wanted = none-granted (λ u. IsIn (unit_slot part.row u) p.granted) (units_in a.n part.mask);
          parity = fresh done.rows p.granted (apart-before done.rows so_far) j.granted;
          left = refl;
          aside = all-kept (Aside a.n part.row) (has_unit part.mask) (units a.n) (units-aside a.n part.row);
        },
        taking-granted a part left with_parity keeps-parity (begun part done) (parity_bay a.n part.row) None (record { row = refl; parts = so_far }),
      )
      begun-row p done (Some grant) j so_far = (
        record {
          same = refl;
          phase = j.phase;
          number = j.number;
          put = j.put;
          claimed = (inl refl, rows-more done.rows p.claimed j.claimed);
          granted = (inl refl, rows-more done.rows p.granted j.granted);
          first = inl refl;
          apart = apart-before done.rows so_far;
          before = all-covered (Some grant) (parity_slot a.n part.row) p.granted done.rows (apart-before done.rows so_far) j.covered;
          wanted = none-granted (λ u. IsIn (unit_slot part.row u) (parity_slot a.n part.row ∷ p.granted)) (units_in a.n part.mask);
          parity = in-has (parity_slot a.n part.row) (parity_slot a.n part.row ∷ p.granted) (inl refl);
          left = refl;
          aside = all-kept (Aside a.n part.row) (has_unit part.mask) (units a.n) (units-aside a.n part.row);
        },
        taking-granted a part left with_parity keeps-parity (begun part done) (parity_bay a.n part.row) (Some grant) (record { row = refl; parts = so_far }),
      )

      row-claims-keep : (p : Past) (done : Rows) → Took done.rows p → SoFar a done.rows (part ∷ left)
          → Writes p (run (claiming a with_parity) (parity_claim a part ∷ []) (begun part done) >>= parity_claimed a rest)
      row-claims-keep p done j so_far =
          keeps-one a.n a.id HasWritten (claiming a with_parity) (parity_claimed a rest) (parity_claim a part) p (begun part done)
          (refl, j.phase, inl refl)
          (λ r. given (refusal (behind_from a.mode a.id) done.missing (parity_bay a.n part.row) r) (grant_of r))
          (λ r. stopped-keeps (parity_past p (grant_of r)) (begun part done) (parity_claim a part) r j.put) where
            given : (c : Option Cause) (o : Option Grant)
                → IfSome (option_map (with_grant with_parity (begun part done) (parity_bay a.n part.row)) (unless c o)) (λ (taken : Taken). Writes (parity_past p o) (parity_claimed a rest (Through taken)))
            given (Some cause) o = tt
            given None o =
                let taken : Taken = with_grant with_parity (begun part done) (parity_bay a.n part.row) o in
                claim-row-keeps (parity_past p o) taken (begun-row p done o j so_far) taken.row.parity (plan_of a taken.row.part)

    rows-keep : (left : List RowPart) (p : Past) (done : Rows) → Took done.rows p → SoFar a done.rows left → Writes p (claim_rows a left done)
    rows-keep [] p done j so_far =
        confirms-keep done.rows done.rows p (record done { rows = [] })
        (record {
          phase = omega (arith, j.phase);
          number = j.number;
          put = j.put;
          claimed =
              all-weaken (λ (claim : Slot). IsIn claim.row (rows_in done.rows)) (λ (claim : Slot). IsIn claim.row p.confirmed ⊎ IsIn claim.row (rows_in done.rows)) (λ claim i. inr i)
              p.claimed j.claimed;
          covered = tt;
          ahead = j.covered;
        })
        (sym (append-nil (parts_of done.rows)) ∙ so_far)
    rows-keep (part ∷ left) p done j so_far = row-claims-keep part left (claim_rows a left) (λ p done j so_far. rows-keep left p done j so_far) p done j so_far

pub writes_keep_phases : WritesKeepPhases
writes_keep_phases a least differ =
    rows-keep a least differ a.parts (begins (number_of a.mode a.id)) no_rows (record { phase = omega arith; number = refl; put = refl; claimed = tt; granted = tt; covered = tt }) refl
