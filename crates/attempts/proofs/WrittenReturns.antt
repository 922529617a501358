-- A write that is done holds nothing.
use Rattle.std.proofs.Common.{◌≡◌, ◌⊎◌, inl, inr, refl, sym, ap, subst, ◌∙◌, ℕ, zero, suc, ◌+◌, ◌-◌, ◌<◌, ◌≤◌, ◌==◌, ◌&&◌, ◌||◌, Bool, true, false, cond, List, [], ◌∷◌, ◌++◌, Option, Some, None, map, zip, filter, length, unwrap_or, arith}
use Rattle.std.specs.List.{AllByRecursion, All, list_all, range_with_len}
use Rattle.std.proofs.lemmas.Bool.{eq-eqb, ne_eqb, eqb-true}
use Rattle.std.proofs.lemmas.List.Elements.{All-head, All-tail}
use Rattle.raid_base.specs.declared.numbers.BayNo.{BayNo}
use Rattle.raid_base.specs.declared.numbers.Number.{Number}
use Rattle.raid_base.specs.declared.messages.Mode.{Mode}
use Rattle.raid_base.specs.declared.messages.Mode.TheVariants.{Lock, Order}
use Rattle.raid_base.specs.declared.messages.Request.{Request}
use Rattle.raid_base.specs.declared.messages.Reply.{Reply}
use Rattle.raid_base.specs.declared.messages.Reply.TheVariants.{Granted, Busy, Late, Young, Missing, Held, NoNote, Done, Fault, Emptied, Fitted}
use Rattle.raid_base.specs.declared.messages.Errand.{Errand}
use Rattle.raid_base.specs.declared.messages.Grant.{Grant}
use Rattle.raid_base.specs.declared.jobs.Cause.{Cause}
use Rattle.raid_base.specs.declared.jobs.Cause.TheVariants as causes
use Rattle.raid_base.specs.declared.jobs.RowPart.{RowPart}
use Rattle.raid_base.specs.Cells.{has_unit}
use Rattle.raid_base.specs.Fits.{fits, fits_put}
use Rattle.raid_base.specs.Replies.{put_end}
use Rattle.raid_base.specs.Steps.{Steps, Ends, bind, go_on, Stopped, run}
use Rattle.stripe_layout.specs.Placement.{parity_bay, bay_of, bays_of, units, units_in}
use Rattle.stripe_layout.proofs.LayoutLemmas.{unit_back}
use Rattle.virtual_objects.specs.Objects.{rank}
use Rattle.virtual_objects.specs.RowParts.{IsPart, AreInTurn}
use Rattle.attempts.specs.Taking.{Access, Finish, finish, Row, no_rows}
use Rattle.attempts.specs.Releases.{releases, granted_of, wanted_granted, others_granted, parity_granted, is_among, claims_granted}
use Rattle.attempts.specs.Puts.{block_no, Trouble, Faulted, Robbed, Puts, no_puts, at_row, with_made, with_trouble, with_left, part_by_quit, data_put, unit_of, granted_life, data_put_by, putting_data, missing_units, parity_units, parity_put, parity_put_by, putting_parity, trouble_cause, or_else, first_cause, written_or, written}
use Rattle.attempts.specs.Writing.{finishing, reader_releases, write_end, write_last, parity_done, put_parity, data_done, put_rows, put_steps, write_steps}
use Rattle.attempts.specs.Phases.{Slot, IsIn}
use Rattle.attempts.specs.Returns.{Holding, without_slot, mark_failed, after_put, held_after, FittingReturns, WrittenHolds, HasLetGoAll, WrittenWritesReturn}
use Rattle.attempts.proofs.RoomLemmas.{parts_of}
use Rattle.attempts.proofs.PhaseLemmas.{all-weaken, IsRelease, row-releases, slot_on}
use Rattle.attempts.proofs.ReturnLemmas.{in-either, in-map, in-filtered, Among, without-slot, IsFreed, freed-left, freed-right, freed-bays, nothing-held, granted-among, InRows, HeldIn, ReturnsIf, gives-all-back}
use Rattle.attempts.proofs.WriteReturns.{write_gives, rows-return}

-- the replies fit the requests
abbrev Fits : Request → Reply → Type 0
Fits request reply = fits request reply ≡ true

fitting : {A : Type 0} (mode : Mode) (Q : List Holding → A → Type 0) (held : List Holding) (s : Steps A) → ReturnsIf Fits mode Q held s → FittingReturns mode Q held s
fitting mode Q held (Ends a) h = h
fitting mode Q held (Steps.Draws k) h = λ d. fitting mode Q held (k d) (h d)
fitting mode Q held (Steps.Asks e s c k) h = λ r fit. fitting mode Q (held_after mode held e.bay e.request r) (k r) (h r fit)

-- Lists
all-in : {X : Type 0} (P : X → Type 0) (x : X) (xs : List X) → AllByRecursion P xs → IsIn x xs → P x
all-in P x [] all i = absurd i
all-in P x (y ∷ xs) all (inl same) = subst P same all.0
all-in P x (y ∷ xs) all (inr i) = all-in P x xs all.1 i

all-among : {X : Type 0} (xs ys : List X) → Among xs ys → AllByRecursion (λ x. IsIn x ys) xs
all-among [] ys among = tt
all-among (x ∷ xs) ys among = (among x (inl refl), all-among xs ys (λ z i. among z (inr i)))

all-both : {X : Type 0} (P : X → Type 0) (xs ys : List X) → AllByRecursion P xs → AllByRecursion P ys → AllByRecursion P (xs ++ ys)
all-both P [] ys p q = q
all-both P (x ∷ xs) ys p q = (p.0, all-both P xs ys p.1 q)

all-map : {X Y : Type 0} (P : X → Type 0) (Q : Y → Type 0) (f : X → Y) → ((x : X) → P x → Q (f x)) → (xs : List X) → AllByRecursion P xs → AllByRecursion Q (map f xs)
all-map P Q f each [] all = tt
all-map P Q f each (x ∷ xs) all = (each x all.0, all-map P Q f each xs all.1)

-- no two are the same
abbrev Apart : List ℕ → Type 0
Apart [] = Unit {0}
Apart (u ∷ us) = (IsIn u us → ⊥) × Apart us

range-low : (u first count : ℕ) → IsIn u (range_with_len first count) → first ≤ u
range-low u first zero i = absurd i
range-low u first (suc count) (inl same) = omega arith
range-low u first (suc count) (inr i) = (let h : first + 1 ≤ u = range-low u (first + 1) count i in omega arith)

range-high : (u first count : ℕ) → IsIn u (range_with_len first count) → u < first + count
range-high u first zero i = absurd i
range-high u first (suc count) (inl same) = omega arith
range-high u first (suc count) (inr i) = (let h : u < (first + 1) + count = range-high u (first + 1) count i in omega arith)

apart-range : (first count : ℕ) → Apart (range_with_len first count)
apart-range first zero = tt
apart-range first (suc count) = (λ i. (let h : first + 1 ≤ first = range-low first (first + 1) count i in absurd (omega arith)), apart-range (first + 1) count)

apart-filter : (test : ℕ → Bool) (us : List ℕ) → Apart us → Apart (filter test us)
apart-filter test [] apart = tt
apart-filter test (u ∷ us) apart = one (test u) (apart-filter test us apart.1) where
  one : (b : Bool) → Apart (filter test us) → Apart (cond b (u ∷ filter test us) (filter test us))
  one true rest = (λ i. apart.0 (in-filtered u test us i), rest)
  one false rest = rest

apart-granted : (us : List ℕ) (os : List (Option Grant)) → Apart us → Apart (granted_of (zip us os))
apart-granted [] os apart = tt
apart-granted (u ∷ us) [] apart = tt
apart-granted (u ∷ us) (None ∷ os) apart = apart-granted us os apart.1
apart-granted (u ∷ us) (Some grant ∷ os) apart = (λ i. apart.0 (granted-among us os u i), apart-granted us os apart.1)

missing-among : (us : List ℕ) (os : List (Option Grant)) → Among (missing_units (zip us os)) us
missing-among [] os x i = absurd i
missing-among (u ∷ us) [] x i = absurd i
missing-among (u ∷ us) (Some grant ∷ os) x i = inr (missing-among us os x i)
missing-among (u ∷ us) (None ∷ os) x (inl same) = inl same
missing-among (u ∷ us) (None ∷ os) x (inr i) = inr (missing-among us os x i)

-- a unit's place among others
rank-less : (u : ℕ) (us : List ℕ) → IsIn u us → rank u us < length us
rank-less u [] i = absurd i
rank-less u (v ∷ us) (inl same) = subst (λ b. cond b 0 (rank u us + 1) < length (v ∷ us)) (sym (eq-eqb v u same)) (omega arith)
rank-less u (v ∷ us) (inr i) = one (v == u) (rank-less u us i) where
  one : (b : Bool) → rank u us < length us → cond b 0 (rank u us + 1) < length (v ∷ us)
  one true less = omega arith
  one false less = omega arith

rank-same : (u v : ℕ) (us : List ℕ) → IsIn u us → IsIn v us → rank u us ≡ rank v us → u ≡ v
rank-same u v [] i j same = absurd i
rank-same u v (w ∷ us) i j same = one (w == u) (w == v) refl refl (rank-same u v us) i j same where
  one : (b c : Bool) → (w == u) ≡ b → (w == v) ≡ c → (IsIn u us → IsIn v us → rank u us ≡ rank v us → u ≡ v) → (w ≡ u) ⊎ IsIn u us → (w ≡ v) ⊎ IsIn v us
      → cond b 0 (rank u us + 1) ≡ cond c 0 (rank v us + 1) → u ≡ v
  one true true p q rest i j same = sym (eqb-true w u p) ∙ eqb-true w v q
  one true false p q rest i j same = absurd (omega arith)
  one false true p q rest i j same = absurd (omega arith)
  one false false p q rest (inl x) j same = absurd (let e : (w == u) ≡ true = eq-eqb w u x in cc)
  one false false p q rest (inr i) (inl y) same = absurd (let e : (w == v) ≡ true = eq-eqb w v y in cc)
  one false false p q rest (inr i) (inr j) same = rest i j (omega arith)

not-among : (made : List ℕ) (b : ℕ) → (IsIn b made → ⊥) → is_among made b ≡ false
not-among [] b out = refl
not-among (x ∷ made) b out = one (x == b) (is_among made b) (ne_eqb x b (λ same. out (inl same))) (not-among made b (λ i. out (inr i))) where
  one : (c d : Bool) → c ≡ false → d ≡ false → (c || d) ≡ false
  one true d p q = p
  one false d p q = q

not-all : (test : ℕ → Bool) (us : List ℕ) (u : ℕ) → IsIn u us → test u ≡ false → list_all test us ≡ false
not-all test [] u i fails = absurd i
not-all test (v ∷ us) u (inl same) fails = ap (λ b. b && list_all test us) (subst (λ w. test w ≡ false) (sym same) fails)
not-all test (v ∷ us) u (inr i) fails = one (test v) (not-all test us u i fails) where
  one : (b : Bool) → list_all test us ≡ false → (b && list_all test us) ≡ false
  one true rest = rest
  one false rest = refl

module _ (a : Access) where
  -- a unit whose block, one of those before this, is not made
  record IsUnmade (at : ℕ) (made : List ℕ) (part : RowPart) : Type 0 where
    unit : ℕ
    wanted : IsIn unit (units_in a.n part.mask)
    early : block_no a part unit < at
    unmade : IsIn (block_no a part unit) made → ⊥

  -- a trouble that counts whatever is made from there on
  abbrev Dooms : ℕ → List ℕ → Trouble → Type 0
  Dooms at made (Faulted bay) = Unit {0}
  Dooms at made (Robbed part) = IsUnmade at made part

  abbrev Doomed : ℕ → List ℕ → List Trouble → Type 0
  Doomed at made [] = ⊥
  Doomed at made (trouble ∷ troubles) = Dooms at made trouble ⊎ Doomed at made troubles

  dooms-more : (at later : ℕ) (made blocks : List ℕ) (trouble : Trouble) → at ≤ later → AllByRecursion (λ b. at ≤ b) blocks → Dooms at made trouble → Dooms later (made ++ blocks) trouble
  dooms-more at later made blocks (Faulted bay) le all d = tt
  dooms-more at later made blocks (Robbed part) le all d = record { unit = d.unit; wanted = d.wanted; early = (let h : block_no a part d.unit < at = d.early in omega arith); unmade = out } where
    out : IsIn (block_no a part d.unit) (made ++ blocks) → ⊥
    out i = elim (in-either (block_no a part d.unit) made blocks i) [
      | inl j ↦ d.unmade j
      | inr j ↦ (let h : at ≤ block_no a part d.unit = all-in (λ b. at ≤ b) (block_no a part d.unit) blocks all j in let g : block_no a part d.unit < at = d.early in absurd (omega arith))
    ]

  doomed-more : (at later : ℕ) (made blocks : List ℕ) (troubles : List Trouble) → at ≤ later → AllByRecursion (λ b. at ≤ b) blocks → Doomed at made troubles
      → Doomed later (made ++ blocks) troubles
  doomed-more at later made blocks [] le all d = absurd d
  doomed-more at later made blocks (trouble ∷ troubles) le all (inl d) = inl (dooms-more at later made blocks trouble le all d)
  doomed-more at later made blocks (trouble ∷ troubles) le all (inr d) = inr (doomed-more at later made blocks troubles le all d)

  dooms-later : (at later : ℕ) (made : List ℕ) (trouble : Trouble) → at ≤ later → Dooms at made trouble → Dooms later made trouble
  dooms-later at later made (Faulted bay) le d = tt
  dooms-later at later made (Robbed part) le d = record { unit = d.unit; wanted = d.wanted; early = (let h : block_no a part d.unit < at = d.early in omega arith); unmade = d.unmade }

  doomed-later : (at later : ℕ) (made : List ℕ) (troubles : List Trouble) → at ≤ later → Doomed at made troubles → Doomed later made troubles
  doomed-later at later made [] le d = absurd d
  doomed-later at later made (trouble ∷ troubles) le (inl d) = inl (dooms-later at later made trouble le d)
  doomed-later at later made (trouble ∷ troubles) le (inr d) = inr (doomed-later at later made troubles le d)

  doomed-with : (at : ℕ) (made : List ℕ) (troubles : List Trouble) (trouble : Trouble) → Doomed at made troubles → Doomed at made (troubles ++ trouble ∷ [])
  doomed-with at made [] trouble d = absurd d
  doomed-with at made (x ∷ troubles) trouble (inl d) = inl d
  doomed-with at made (x ∷ troubles) trouble (inr d) = inr (doomed-with at made troubles trouble d)

  doomed-new : (at : ℕ) (made : List ℕ) (troubles : List Trouble) (trouble : Trouble) → Dooms at made trouble → Doomed at made (troubles ++ trouble ∷ [])
  doomed-new at made [] trouble d = inl d
  doomed-new at made (x ∷ troubles) trouble d = inr (doomed-new at made troubles trouble d)

  -- then the write is a part
  doomed-ends : (held : List Holding) (n : Number) (made : List ℕ) (at : ℕ) (troubles : List Trouble) → Doomed at made troubles
      → WrittenHolds held (written_or n made (first_cause a made troubles))
  doomed-ends held n made at [] d = absurd d
  doomed-ends held n made at (Faulted bay ∷ troubles) (inl d) = tt
  doomed-ends held n made at (Robbed part ∷ troubles) (inl d) =
      subst (λ b. WrittenHolds held (written_or n made (or_else (cond b None (Some (causes.Seized part.row))) (first_cause a made troubles))))
      (sym (not-all (λ unit. is_among made (block_no a part unit)) (units_in a.n part.mask) d.unit d.wanted (not-among made (block_no a part d.unit) d.unmade))) tt
  doomed-ends held n made at (trouble ∷ troubles) (inr d) = one (trouble_cause a made trouble) (doomed-ends held n made at troubles d) where
    one : (o : Option Cause) → WrittenHolds held (written_or n made (first_cause a made troubles)) → WrittenHolds held (written_or n made (or_else o (first_cause a made troubles)))
    one (Some cause) rest = tt
    one None rest = rest

  nothing-ends : (held : List Holding) (n : Number) (made : List ℕ) (o : Option Cause) → held ≡ [] → WrittenHolds held (written_or n made o)
  nothing-ends held n made None none = none
  nothing-ends held n made (Some cause) none = tt

  -- The units of a part
  abbrev wanted : RowPart → List ℕ
  wanted part = units_in a.n part.mask

  unit-below : (part : RowPart) (u : ℕ) → IsIn u (wanted part) → u < a.n - 1
  unit-below part u i = (let h : u < 0 + (a.n - 1) = range-high u 0 (a.n - 1) (in-filtered u (has_unit part.mask) (units a.n) i) in omega arith)

  apart-wanted : (part : RowPart) → Apart (wanted part)
  apart-wanted part = apart-filter (has_unit part.mask) (units a.n) (apart-range 0 (a.n - 1))

  block-below : (part : RowPart) → IsPart a.n part → (u : ℕ) → IsIn u (wanted part) → block_no a part u < part.at + part.count
  block-below part is u i = (
      let less : rank u (wanted part) < length (wanted part) = rank-less u (wanted part) i in
      let counted : length (wanted part) ≡ part.count = is.counted in
      omega arith
      )

  block-from : (part : RowPart) (u : ℕ) → part.at ≤ block_no a part u
  block-from part u = omega arith

  block-same : (part : RowPart) (u v : ℕ) → IsIn u (wanted part) → IsIn v (wanted part) → block_no a part u ≡ block_no a part v → u ≡ v
  block-same part u v i j same = rank-same u v (wanted part) i j (omega (arith, same))

module _ (a : Access) (least : 3 ≤ a.n) (n : Number) (rows : List Row) where
  abbrev Writes : List Holding → Steps Finish → Type 0
  Writes held s = ReturnsIf Fits a.mode HasLetGoAll held s

  -- a reader that is released at the end
  abbrev IsReader : Holding → Type 0
  IsReader h = IsFreed (reader_releases a.mode a rows) h.slot

  abbrev Claimed : List Row → Slot → Type 0
  Claimed left slot = InRows (claims_granted a.n) left slot

  abbrev AllStill : List Row → List Holding → Type 0
  AllStill left held = AllByRecursion (λ (h : Holding). IsReader h ⊎ Claimed left h.slot) held

  -- before a row: the blocks that were made come before its own, and what is held is still to be put or released, unless
  -- the write is a part whatever comes
  record Putting (at : ℕ) (left : List Row) (held : List Holding) (puts : Puts) : Type 0 where
    made : AllByRecursion (λ b. b < at) puts.made
    state : Doomed a at puts.made puts.troubles ⊎ AllStill left held

  -- The end
  reader-releases : (mode : Mode) → AllByRecursion (λ (e : Errand). IsRelease a.id e.request) (reader_releases mode a rows)
  reader-releases Order = tt
  reader-releases Lock = row-releases a.id None (λ (row : Row). bays_of a.n row.part.row (others_granted a.n row)) rows

  doomed-last : (puts : Puts) → ((held : List Holding) → HasLetGoAll held (finish (written a n puts))) → (es : List Errand) (held : List Holding)
      → Writes held (bind (run (finishing a n) es puts) (write_end a n))
  doomed-last puts fine [] held = fine held
  doomed-last puts fine (e ∷ es) held = λ r fit. doomed-last puts fine es (held_after a.mode held e.bay e.request r)

  last-returns : (at : ℕ) (held : List Holding) (puts : Puts) → Putting at [] held puts → Writes held (write_last a n rows puts)
  last-returns at held puts j = elim j.state [
    | inl doomed ↦ doomed-last puts (λ held. doomed-ends a held n puts.made at puts.troubles doomed) (reader_releases a.mode a rows) held
    | inr still ↦
        gives-all-back Fits a.mode HasLetGoAll a.id (λ h. ⊥) (λ puts e r. puts) (part_by_quit n) (λ _ _. []) (write_end a n)
        (λ held puts none. nothing-ends a held n puts.made (first_cause a puts.made puts.troubles) (nothing-held held none))
        (reader_releases a.mode a rows) held puts (reader-releases a.mode)
        (all-weaken (λ (h : Holding). IsReader h ⊎ ⊥) (λ (h : Holding). ⊥ ⊎ IsReader h) swap held still)
  ] where
    swap : (h : Holding) → IsReader h ⊎ ⊥ → ⊥ ⊎ IsReader h
    swap h (inl i) = inr i
    swap h (inr i) = inl i

  -- A row
  module _ (row : Row) (left : List Row) (is : IsPart a.n row.part) (rest : Puts → Steps Finish)
      (rest_returns : (held : List Holding) (puts : Puts) → Putting (row.part.at + row.part.count) left held puts → Writes held (rest puts)) where
    abbrev part : RowPart
    part = row.part

    abbrev begin : ℕ
    begin = part.at

    abbrev end : ℕ
    end = part.at + part.count

    abbrev slots : List BayNo → List Slot
    slots bays = map (slot_on part.row) bays

    abbrev parity_slots : List Slot
    parity_slots = slots (parity_granted a.n part.row row.parity)

    -- held for later
    abbrev IsKept : Holding → Type 0
    IsKept h = IsReader h ⊎ (Claimed left h.slot ⊎ IsIn h.slot parity_slots)

    abbrev IsFresh : List ℕ → ℕ → Type 0
    IsFresh us b = (b < end) × AllByRecursion (λ u. b ≡ block_no a part u → ⊥) us

    -- with these units still to be put
    record PuttingRow (us : List ℕ) (held : List Holding) (puts : Puts) : Type 0 where
      made : AllByRecursion (IsFresh us) puts.made
      left_over : AllByRecursion (λ u. IsIn u (wanted a part)) puts.left
      among : AllByRecursion (λ u. IsIn u (wanted a part)) us
      apart : Apart us
      state : Doomed a begin puts.made puts.troubles ⊎ AllByRecursion (λ (h : Holding). IsKept h ⊎ IsIn h.slot (slots (bays_of a.n part.row us))) held

    made-below : (us : List ℕ) (made : List ℕ) → AllByRecursion (IsFresh us) made → AllByRecursion (λ b. b < end) made
    made-below us made all = all-weaken (IsFresh us) (λ b. b < end) (λ b fresh. fresh.0) made all

    -- the row is done
    row-ends : (us : List ℕ) (held later : List Holding) (puts : Puts) → PuttingRow us held puts → AllStill left later ⊎ Doomed a end puts.made puts.troubles
        → Writes later (rest puts)
    row-ends us held later puts j (inl still) = rest_returns later puts (record { made = made-below us puts.made j.made; state = inr still })
    row-ends us held later puts j (inr doomed) = rest_returns later puts (record { made = made-below us puts.made j.made; state = inl doomed })

    row-troubled : (us : List ℕ) (held later : List Holding) (puts : Puts) (trouble : Trouble) → PuttingRow us held puts
        → AllStill left later ⊎ Doomed a end puts.made (puts.troubles ++ trouble ∷ []) → Writes later (rest (with_trouble puts trouble))
    row-troubled us held later puts trouble j (inl still) = rest_returns later (with_trouble puts trouble) (record { made = made-below us puts.made j.made; state = inr still })
    row-troubled us held later puts trouble j (inr doomed) = rest_returns later (with_trouble puts trouble) (record { made = made-below us puts.made j.made; state = inl doomed })

    -- The parity
    parity-only : (o : Option Grant) (slot : Slot) → IsIn slot (slots (parity_granted a.n part.row o)) → slot_on part.row (parity_bay a.n part.row) ≡ slot
    parity-only None slot i = absurd i
    parity-only (Some grant) slot (inl same) = same
    parity-only (Some grant) slot (inr i) = absurd i

    without-parity : (held : List Holding) → AllByRecursion (λ (h : Holding). IsKept h ⊎ ⊥) held → AllStill left (without_slot (slot_on part.row (parity_bay a.n part.row)) held)
    without-parity held all =
        without-slot (λ (h : Holding). IsKept h ⊎ ⊥) (λ (h : Holding). IsReader h ⊎ Claimed left h.slot) (slot_on part.row (parity_bay a.n part.row)) each held all where
          each : (h : Holding) → (slot_on part.row (parity_bay a.n part.row) ≡ h.slot → ⊥) → IsKept h ⊎ ⊥ → IsReader h ⊎ Claimed left h.slot
          each h other (inl (inl i)) = inl i
          each h other (inl (inr (inl i))) = inr i
          each h other (inl (inr (inr i))) = absurd (other (parity-only row.parity h.slot i))
          each h other (inr i) = absurd i

    no-parity : (held : List Holding) → row.parity ≡ None → AllByRecursion (λ (h : Holding). IsKept h ⊎ ⊥) held → AllStill left held
    no-parity held none all = all-weaken (λ (h : Holding). IsKept h ⊎ ⊥) (λ (h : Holding). IsReader h ⊎ Claimed left h.slot) each held all where
      each : (h : Holding) → IsKept h ⊎ ⊥ → IsReader h ⊎ Claimed left h.slot
      each h (inl (inl i)) = inl i
      each h (inl (inr (inl i))) = inr i
      each h (inl (inr (inr i))) = absurd (subst (λ o. IsIn h.slot (slots (parity_granted a.n part.row o))) none i)
      each h (inr i) = absurd i

    later-doomed : (puts : Puts) → Doomed a begin puts.made puts.troubles → Doomed a end puts.made puts.troubles
    later-doomed puts doomed = doomed-later a begin end puts.made puts.troubles (omega arith) doomed

    blocks-below : (us : List ℕ) → AllByRecursion (λ u. IsIn u (wanted a part)) us → AllByRecursion (λ b. b < end) (map (block_no a part) us)
    blocks-below us all = all-map (λ u. IsIn u (wanted a part)) (λ b. b < end) (block_no a part) (λ u i. block-below a part is u i) us all

    blocks-from : (us : List ℕ) → AllByRecursion (λ u. IsIn u (wanted a part)) us → AllByRecursion (λ b. begin ≤ b) (map (block_no a part) us)
    blocks-from us all = all-map (λ u. IsIn u (wanted a part)) (λ b. begin ≤ b) (block_no a part) (λ u i. block-from a part u) us all

    parity-made : (held : List Holding) (puts : Puts) → PuttingRow [] held puts
        → Writes (without_slot (slot_on part.row (parity_bay a.n part.row)) held) (rest (with_made puts (map (block_no a part) (parity_units a row puts))))
    parity-made held puts j =
        rest_returns (without_slot (slot_on part.row (parity_bay a.n part.row)) held) (with_made puts (map (block_no a part) (parity_units a row puts)))
        (record {
          made = all-both (λ b. b < end) puts.made (map (block_no a part) (parity_units a row puts)) (made-below [] puts.made j.made) (blocks-below (parity_units a row puts) among);
          state = elim j.state [
            | inl doomed ↦ inl (doomed-more a begin end puts.made (map (block_no a part) (parity_units a row puts)) puts.troubles (omega arith) (blocks-from (parity_units a row puts) among) doomed)
            | inr still ↦ inr (without-parity held still)
          ];
        }) where
          among : AllByRecursion (λ u. IsIn u (wanted a part)) (parity_units a row puts)
          among =
              all-both (λ u. IsIn u (wanted a part)) (missing_units (zip (wanted a part) row.wanted)) puts.left
              (all-among (missing_units (zip (wanted a part) row.wanted)) (wanted a part) (missing-among (wanted a part) row.wanted)) j.left_over

    abbrev the_put : Errand
    the_put = parity_put a n row

    parity-answered : (held : List Holding) (puts : Puts) → PuttingRow [] held puts → (r : Reply) → fits_put r ≡ true
        → Writes (after_put (slot_on part.row (parity_bay a.n part.row)) (put_end r) held)
        (bind (go_on (parity_put_by a row puts (put_end r)) (λ b. run (putting_parity a n row) [] b) (Ends (Stopped puts the_put r))) (parity_done row rest))
    parity-answered held puts j Done fit = parity-made held puts j
    parity-answered held puts j (NoNote life) fit =
        row-troubled [] held (without_slot (slot_on part.row (parity_bay a.n part.row)) held) puts (Robbed part) j (elim j.state [
          | inl doomed ↦ inr (doomed-with a end puts.made puts.troubles (Robbed part) (later-doomed puts doomed))
          | inr still ↦ inl (without-parity held still)
        ])
    parity-answered held puts j Fault fit =
        row-troubled [] held (map (mark_failed (slot_on part.row (parity_bay a.n part.row))) held) puts (Faulted the_put.bay) j
        (inr (doomed-new a end puts.made puts.troubles (Faulted the_put.bay) tt))
    parity-answered held puts j (Granted cell read_no write_no last life seized) fit = absurd (cc)
    parity-answered held puts j (Busy holder) fit = absurd (cc)
    parity-answered held puts j (Late above) fit = absurd (cc)
    parity-answered held puts j (Young note) fit = absurd (cc)
    parity-answered held puts j (Missing floor) fit = absurd (cc)
    parity-answered held puts j (Held cell) fit = absurd (cc)
    parity-answered held puts j Emptied fit = absurd (cc)
    parity-answered held puts j Fitted fit = absurd (cc)

    parity-returns : (held : List Holding) (puts : Puts) → PuttingRow [] held puts → (o : Option Grant) → row.parity ≡ o → Writes held (put_parity a n row rest puts o)
    parity-returns held puts j (Some grant) same = λ r fit. parity-answered held puts j r fit
    parity-returns held puts j None same =
        row-ends [] held held puts j (elim j.state [
          | inl doomed ↦ inr (later-doomed puts doomed)
          | inr still ↦ inl (no-parity held same still)
        ])

    -- The data
    abbrev slot_of : ℕ → Slot
    slot_of u = slot_on part.row (bay_of a.n part.row u)

    without-unit : (u : ℕ) (us : List ℕ) (held : List Holding) → AllByRecursion (λ (h : Holding). IsKept h ⊎ IsIn h.slot (slots (bays_of a.n part.row (u ∷ us)))) held
        → AllByRecursion (λ (h : Holding). IsKept h ⊎ IsIn h.slot (slots (bays_of a.n part.row us))) (without_slot (slot_of u) held)
    without-unit u us held all =
        without-slot (λ (h : Holding). IsKept h ⊎ IsIn h.slot (slots (bays_of a.n part.row (u ∷ us)))) (λ (h : Holding). IsKept h ⊎ IsIn h.slot (slots (bays_of a.n part.row us)))
        (slot_of u) each held all where
          each : (h : Holding) → (slot_of u ≡ h.slot → ⊥) → IsKept h ⊎ ((slot_of u ≡ h.slot) ⊎ IsIn h.slot (slots (bays_of a.n part.row us)))
              → IsKept h ⊎ IsIn h.slot (slots (bays_of a.n part.row us))
          each h other (inl i) = inl i
          each h other (inr (inl same)) = absurd (other same)
          each h other (inr (inr i)) = inr i

    state-without : (u : ℕ) (us : List ℕ) (held : List Holding) (puts : Puts) → PuttingRow (u ∷ us) held puts
        → Doomed a begin puts.made puts.troubles
        ⊎ AllByRecursion (λ (h : Holding). IsKept h ⊎ IsIn h.slot (slots (bays_of a.n part.row us))) (without_slot (slot_of u) held)
    state-without u us held puts j = elim j.state [
      | inl doomed ↦ inl doomed
      | inr still ↦ inr (without-unit u us held still)
    ]

    fresh-less : (u : ℕ) (us : List ℕ) (made : List ℕ) → AllByRecursion (IsFresh (u ∷ us)) made → AllByRecursion (IsFresh us) made
    fresh-less u us made all = all-weaken (IsFresh (u ∷ us)) (IsFresh us) (λ b fresh. (fresh.0, fresh.1.1)) made all

    fresh-unit : (u : ℕ) (us : List ℕ) → AllByRecursion (λ v. IsIn v (wanted a part)) (u ∷ us) → (IsIn u us → ⊥) → IsFresh us (block_no a part u)
    fresh-unit u us among apart = (block-below a part is u among.0, others us among.1 apart) where
      others : (vs : List ℕ) → AllByRecursion (λ v. IsIn v (wanted a part)) vs → (IsIn u vs → ⊥) → AllByRecursion (λ v. block_no a part u ≡ block_no a part v → ⊥) vs
      others [] all out = tt
      others (v ∷ vs) all out = (λ same. out (inl (sym (block-same a part u v among.0 all.0 same))), others vs all.1 (λ i. out (inr i)))

    unit-made : (u : ℕ) (us : List ℕ) (held : List Holding) (puts : Puts) (v : ℕ) → v ≡ u → PuttingRow (u ∷ us) held puts
        → PuttingRow us (without_slot (slot_of u) held) (with_made puts (block_no a part v ∷ []))
    unit-made u us held puts v same j = record {
      made = all-both (IsFresh us) puts.made (block_no a part v ∷ []) (fresh-less u us puts.made j.made)
          (subst (λ w. IsFresh us (block_no a part w)) (sym same) (fresh-unit u us j.among j.apart.0), tt);
      left_over = j.left_over;
      among = j.among.1;
      apart = j.apart.1;
      state = elim (state-without u us held puts j) [
        | inl doomed ↦ inl (doomed-more a begin begin puts.made (block_no a part v ∷ []) puts.troubles (omega arith) (block-from a part v, tt) doomed)
        | inr still ↦ inr still
      ];
    }

    unit-left : (u : ℕ) (us : List ℕ) (held : List Holding) (puts : Puts) (v : ℕ) → v ≡ u → PuttingRow (u ∷ us) held puts
        → PuttingRow us (without_slot (slot_of u) held) (with_left puts part v)
    unit-left u us held puts v same j = record {
      made = fresh-less u us puts.made j.made;
      left_over = all-both (λ w. IsIn w (wanted a part)) puts.left (v ∷ []) j.left_over (subst (λ w. IsIn w (wanted a part)) (sym same) j.among.0, tt);
      among = j.among.1;
      apart = j.apart.1;
      state = elim (state-without u us held puts j) [
        | inl doomed ↦ inl (doomed-with a begin puts.made puts.troubles (Robbed part) doomed)
        | inr still ↦ inr still
      ];
    }

    -- a row that is stopped at a unit
    unit-unmade : (u : ℕ) (us : List ℕ) (held : List Holding) (puts : Puts) → PuttingRow (u ∷ us) held puts → IsUnmade a end puts.made part
    unit-unmade u us held puts j = record {
      unit = u;
      wanted = j.among.0;
      early = block-below a part is u j.among.0;
      unmade = λ i. (all-in (IsFresh (u ∷ us)) (block_no a part u) puts.made j.made i).1.0 refl;
    }

    unit-at : (u : ℕ) → IsIn u (wanted a part) → unit_of a row (data_put a n row u) ≡ u
    unit-at u i = ap (λ o. unwrap_or o 0) (unit_back a.n part.row u least (unit-below a part u i))

    abbrev goes-on : List ℕ → Puts → Steps Finish
    goes-on us puts = bind (run (putting_data a n row) (map (data_put a n row) us) puts) (data_done a n row rest)

    data-answered : (u : ℕ) (us : List ℕ) (held : List Holding) (puts : Puts) → PuttingRow (u ∷ us) held puts
        → ((held : List Holding) (puts : Puts) → PuttingRow us held puts → Writes held (goes-on us puts)) → (r : Reply) → fits_put r ≡ true
        → Writes (after_put (slot_of u) (put_end r) held)
        (bind (go_on (data_put_by a row puts (unit_of a row (data_put a n row u)) (put_end r)) (λ b. run (putting_data a n row) (map (data_put a n row) us) b)
        (Ends (Stopped puts (data_put a n row u) r))) (data_done a n row rest))
    data-answered u us held puts j next Done fit =
        next (without_slot (slot_of u) held) (with_made puts (block_no a part (unit_of a row (data_put a n row u)) ∷ []))
        (unit-made u us held puts (unit_of a row (data_put a n row u)) (unit-at u j.among.0) j)
    data-answered u us held puts j next (NoNote life) fit = one (life == granted_life a row (unit_of a row (data_put a n row u))) where
      one : (b : Bool) → Writes (without_slot (slot_of u) held)
          (bind (go_on (cond b None (Some (with_left puts part (unit_of a row (data_put a n row u))))) (λ b. run (putting_data a n row) (map (data_put a n row) us) b)
          (Ends (Stopped puts (data_put a n row u) (NoNote life)))) (data_done a n row rest))
      one true =
          row-troubled (u ∷ us) held (without_slot (slot_of u) held) puts (Robbed part) j
          (inr (doomed-new a end puts.made puts.troubles (Robbed part) (unit-unmade u us held puts j)))
      one false =
          next (without_slot (slot_of u) held) (with_left puts part (unit_of a row (data_put a n row u)))
          (unit-left u us held puts (unit_of a row (data_put a n row u)) (unit-at u j.among.0) j)
    data-answered u us held puts j next Fault fit =
        row-troubled (u ∷ us) held (map (mark_failed (slot_of u)) held) puts (Faulted (bay_of a.n part.row u)) j
        (inr (doomed-new a end puts.made puts.troubles (Faulted (bay_of a.n part.row u)) tt))
    data-answered u us held puts j next (Granted cell read_no write_no last life seized) fit = absurd (cc)
    data-answered u us held puts j next (Busy holder) fit = absurd (cc)
    data-answered u us held puts j next (Late above) fit = absurd (cc)
    data-answered u us held puts j next (Young note) fit = absurd (cc)
    data-answered u us held puts j next (Missing floor) fit = absurd (cc)
    data-answered u us held puts j next (Held cell) fit = absurd (cc)
    data-answered u us held puts j next Emptied fit = absurd (cc)
    data-answered u us held puts j next Fitted fit = absurd (cc)

    data-returns : (us : List ℕ) (held : List Holding) (puts : Puts) → PuttingRow us held puts → Writes held (goes-on us puts)
    data-returns [] held puts j = parity-returns held puts j row.parity refl
    data-returns (u ∷ us) held puts j = λ r fit. data-answered u us held puts j (λ held puts j. data-returns us held puts j) r fit

    -- the row begins
    fresh-before : (us : List ℕ) (b : ℕ) → b < begin → IsFresh us b
    fresh-before us b less = (omega arith, others us) where
      others : (us : List ℕ) → AllByRecursion (λ u. b ≡ block_no a part u → ⊥) us
      others [] = tt
      others (u ∷ us) = (λ same. (let h : begin ≤ block_no a part u = block-from a part u in absurd (omega arith)), others us)

    abbrev granted : List ℕ
    granted = wanted_granted a.n row

    row-still : (h : Holding) → IsReader h ⊎ Claimed (row ∷ left) h.slot → IsKept h ⊎ IsIn h.slot (slots (bays_of a.n part.row granted))
    row-still h (inl i) = inl (inl i)
    row-still h (inr (inr i)) = inl (inr (inl i))
    row-still h (inr (inl i)) =
        elim (in-either h.slot.bay (bays_of a.n part.row granted) (parity_granted a.n part.row row.parity) i.1) [
          | inl w ↦ inr (on-row (bays_of a.n part.row granted) w)
          | inr p ↦ inl (inr (inr (on-row (parity_granted a.n part.row row.parity) p)))
        ] where
          on-row : (bays : List BayNo) → IsIn h.slot.bay bays → IsIn h.slot (slots bays)
          on-row bays j = subst (λ r. IsIn (slot_on r h.slot.bay) (slots bays)) i.0 (in-map (slot_on part.row) h.slot.bay bays j)

    row-returns : (held : List Holding) (puts : Puts) → Putting begin (row ∷ left) held puts → Writes held (goes-on granted (at_row puts))
    row-returns held puts j =
        data-returns granted held (at_row puts)
        (record {
          made = all-weaken (λ b. b < begin) (IsFresh granted) (fresh-before granted) puts.made j.made;
          left_over = tt;
          among = all-among granted (wanted a part) (granted-among (wanted a part) row.wanted);
          apart = apart-granted (wanted a part) row.wanted (apart-wanted a part);
          state = elim j.state [
            | inl doomed ↦ inl doomed
            | inr still ↦ inr (all-weaken (λ (h : Holding). IsReader h ⊎ Claimed (row ∷ left) h.slot) (λ (h : Holding). IsKept h ⊎ IsIn h.slot (slots (bays_of a.n part.row granted)))
                row-still held still)
          ];
        })

  -- All rows
  rows-put : (left : List Row) (at : ℕ) (held : List Holding) (puts : Puts) → AreInTurn at (parts_of left) → All (IsPart a.n) (parts_of left) → Putting at left held puts
      → Writes held (put_rows a n (write_last a n rows) left puts)
  rows-put [] at held puts turn parts j = last-returns at held puts j
  rows-put (row ∷ left) at held puts turn parts j =
      row-returns row left (All-head (IsPart a.n) row.part (parts_of left) parts) (put_rows a n (write_last a n rows) left)
      (λ held puts j. rows-put left (row.part.at + row.part.count) held puts
      (subst (λ (k : ℕ). AreInTurn (k + row.part.count) (parts_of left)) (sym turn.0) turn.1) (All-tail (IsPart a.n) row.part (parts_of left) parts) j)
      held puts (subst (λ (k : ℕ). Putting k (row ∷ left) held puts) (sym turn.0) j)

  -- what is held before the puts
  split : (mode : Mode) (left : List Row) (slot : Slot) → InRows (write_gives a.n mode) left slot → IsFreed (reader_releases mode a left) slot ⊎ Claimed left slot
  split Order left slot i = inr i
  split Lock [] slot i = absurd i
  split Lock (row ∷ left) slot (inl i) =
      elim (in-either slot.bay (claims_granted a.n row) (bays_of a.n row.part.row (others_granted a.n row)) i.1) [
        | inl j ↦ inr (inl (i.0, j))
        | inr j ↦ inl (freed-left slot (releases a.id row.part.row None (bays_of a.n row.part.row (others_granted a.n row))) (reader_releases Lock a left)
            (subst (λ r. IsFreed (releases a.id row.part.row None (bays_of a.n row.part.row (others_granted a.n row))) (slot_on r slot.bay)) i.0
            (freed-bays a.id row.part.row None slot.bay (bays_of a.n row.part.row (others_granted a.n row)) j)))
      ]
  split Lock (row ∷ left) slot (inr i) = elim (split Lock left slot i) [
    | inl f ↦ inl (freed-right slot (releases a.id row.part.row None (bays_of a.n row.part.row (others_granted a.n row))) (reader_releases Lock a left) f)
    | inr j ↦ inr (inr j)
  ]

  puts-return : (held : List Holding) → AreInTurn 0 (parts_of rows) → All (IsPart a.n) (parts_of rows) → HeldIn (write_gives a.n a.mode) rows held → Writes held (put_steps a n rows)
  puts-return held turn parts all =
      rows-put rows 0 held no_puts turn parts
      (record {
        made = tt;
        state = inr (all-weaken (λ (h : Holding). InRows (write_gives a.n a.mode) rows h.slot) (λ (h : Holding). IsReader h ⊎ Claimed rows h.slot) (λ h i. split a.mode rows h.slot i) held all);
      })

pub written_writes_return : WrittenWritesReturn
written_writes_return a least parts =
    fitting a.mode HasLetGoAll [] (write_steps a)
    (rows-return a Fits HasLetGoAll (λ held cause none. none)
    (λ n rows held same all. puts-return a least n rows held (subst (AreInTurn 0) (sym same) parts.in_turn) (subst (All (IsPart a.n)) (sym same) parts.each) all)
    a.parts no_rows [] refl tt)
