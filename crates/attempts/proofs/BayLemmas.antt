-- How often one bay stands in a row and in lists of errands.
use Rattle.std.proofs.Common.{◌≡◌, ◌≢◌, ◌∙◌, sym, ap, refl, ℕ, zero, suc, ◌+◌, ◌-◌, ◌<◌, ◌≤◌, ◌==◌, ◌||◌, Bool, true, false, cond, not, List, [], ◌∷◌, ◌++◌, Option, Some, None, IfSome, map, filter, zip, flat_map, length, inl, inr, arith}
use Rattle.std.specs.List.{AllByRecursion, range_with_len}
use Rattle.std.proofs.lemmas.Bool.{cases_eq, ne_eqb, cond-false}
use Rattle.raid_base.specs.declared.numbers.BayNo.{BayNo}
use Rattle.raid_base.specs.declared.numbers.RowNo.{RowNo}
use Rattle.raid_base.specs.declared.numbers.Number.{Number}
use Rattle.raid_base.specs.declared.messages.Mode.{Mode}
use Rattle.raid_base.specs.declared.messages.Mode.TheVariants.{Lock, Order}
use Rattle.raid_base.specs.declared.messages.Reply.{Reply}
use Rattle.raid_base.specs.declared.messages.Errand.{Errand}
use Rattle.raid_base.specs.declared.messages.Grant.{Grant}
use Rattle.raid_base.specs.Cells.{has_unit}
use Rattle.raid_base.specs.Steps.{Steps, Asks, Draws, Ends, bind, go_on, Walk, Through, Stopped, Phase, run}
use Rattle.stripe_layout.specs.Placement.{bay, parity_bay, bay_of, bays_of, units, units_in, units_out, row_bays}
use Rattle.stripe_layout.proofs.LayoutLemmas.{unit_apart, unit_distinct}
use Rattle.attempts.specs.Taking.{Row}
use Rattle.attempts.specs.Releases.{release, releases, granted_of, wanted_granted, others_granted, parity_granted, is_among, ascending, all_granted, claims_granted, write_holds, read_holds}
use Rattle.attempts.specs.Reading.{row_readers}
use Rattle.attempts.specs.BayBounds.{count_at, ObeysAt}

-- how often a bay stands in a list
abbrev pub hit : BayNo → BayNo → ℕ
hit at other = cond (other.0 == at.0) 1 0

abbrev pub hits : BayNo → List BayNo → ℕ
hits at [] = 0
hits at (other ∷ others) = hit at other + hits at others

-- how many errands go to it
abbrev pub asks : BayNo → List Errand → ℕ
asks at [] = 0
asks at (e ∷ es) = count_at at e + asks at es

module _ (at : BayNo) where
  pub hit-le : (other : BayNo) → hit at other ≤ 1
  hit-le other = one (other.0 == at.0) where
    one : (b : Bool) → cond b 1 0 ≤ 1
    one true = omega arith
    one false = omega arith

  pub asks-map : (f : BayNo → Errand) → ((other : BayNo) → (f other).bay ≡ other) → (others : List BayNo) → asks at (map f others) ≡ hits at others
  asks-map f same [] = refl
  asks-map f same (other ∷ others) = omega (arith, ap (hit at) (same other), asks-map f same others)

  pub asks-units : {X : Type 0} (f : X → Errand) (g : X → BayNo) → ((x : X) → (f x).bay ≡ g x) → (xs : List X) → asks at (map f xs) ≡ hits at (map g xs)
  asks-units f g same [] = refl
  asks-units f g same (x ∷ xs) = omega (arith, ap (hit at) (same x), asks-units f g same xs)

  asks-append : (es fs : List Errand) → asks at (es ++ fs) ≡ asks at es + asks at fs
  asks-append [] fs = omega arith
  asks-append (e ∷ es) fs = omega (arith, asks-append es fs)

  pub hits-append : (xs ys : List BayNo) → hits at (xs ++ ys) ≡ hits at xs + hits at ys
  hits-append [] ys = omega arith
  hits-append (x ∷ xs) ys = omega (arith, hits-append xs ys)

  -- a row's releases
  pub asks-releases : (id : Number) (row : RowNo) (n : Option Number) (others : List BayNo) → asks at (releases id row n others) ≡ hits at others
  asks-releases id row n others = asks-map (release id row n) (λ other. refl) others

  pub asks-rows : (id : Number) (n : Option Number) (gives : Row → List BayNo) → ((row : Row) → hits at (gives row) ≤ 1) → (rows : List Row)
      → asks at (flat_map (λ (row : Row). releases id row.part.row n (gives row)) rows) ≤ length rows
  asks-rows id n gives few [] = omega arith
  asks-rows id n gives few (row ∷ rows) =
      omega (
        arith,
        asks-append (releases id row.part.row n (gives row)) (flat_map (λ (row : Row). releases id row.part.row n (gives row)) rows),
        asks-releases id row.part.row n (gives row),
        few row,
        asks-rows id n gives few rows,
      )

  -- parts of a list
  pub hits-filter : (test : BayNo → Bool) (xs : List BayNo) → hits at (filter test xs) ≤ hits at xs
  hits-filter test [] = omega arith
  hits-filter test (x ∷ xs) = one (test x) (hits-filter test xs) where
    one : (b : Bool) → hits at (filter test xs) ≤ hits at xs → hits at (cond b (x ∷ filter test xs) (filter test xs)) ≤ hit at x + hits at xs
    one true h = omega arith
    one false h = omega arith

  module _ (g : ℕ → BayNo) where
    units-filter : (test : ℕ → Bool) (us : List ℕ) → hits at (map g (filter test us)) ≤ hits at (map g us)
    units-filter test [] = omega arith
    units-filter test (u ∷ us) = one (test u) (units-filter test us) where
      one : (b : Bool) → hits at (map g (filter test us)) ≤ hits at (map g us) → hits at (map g (cond b (u ∷ filter test us) (filter test us))) ≤ hit at (g u) + hits at (map g us)
      one true h = omega arith
      one false h = omega arith

    units-both : (test : ℕ → Bool) (us : List ℕ) → hits at (map g (filter test us)) + hits at (map g (filter (λ u. not (test u)) us)) ≡ hits at (map g us)
    units-both test [] = refl
    units-both test (u ∷ us) = one (test u) (units-both test us) where
      one : (b : Bool) → hits at (map g (filter test us)) + hits at (map g (filter (λ u. not (test u)) us)) ≡ hits at (map g us)
          → hits at (map g (cond b (u ∷ filter test us) (filter test us))) + hits at (map g (cond (not b) (u ∷ filter (λ u. not (test u)) us) (filter (λ u. not (test u)) us)))
          ≡ hit at (g u) + hits at (map g us)
      one true h = omega arith
      one false h = omega arith

    pub granted-hits : (us : List ℕ) (gs : List (Option Grant)) → hits at (map g (granted_of (zip us gs))) ≤ hits at (map g us)
    granted-hits [] gs = omega arith
    granted-hits (u ∷ us) [] = omega arith
    granted-hits (u ∷ us) (Some x ∷ gs) = let h : hits at (map g (granted_of (zip us gs))) ≤ hits at (map g us) = granted-hits us gs in omega arith
    granted-hits (u ∷ us) (None ∷ gs) = let h : hits at (map g (granted_of (zip us gs))) ≤ hits at (map g us) = granted-hits us gs in omega arith

  -- A row has each bay once
  hit-none : (other : BayNo) → (other.0 ≡ at.0 → ⊥) → hit at other ≡ 0
  hit-none other ne = cond-false _ _ _ (ne_eqb other.0 at.0 ne)

  others-none : (x : BayNo) → x.0 ≡ at.0 → (xs : List BayNo) → AllByRecursion (λ y. x ≢ y) xs → hits at xs ≡ 0
  others-none x same [] all = refl
  others-none x same (y ∷ ys) all = omega (arith, hit-none y (λ is. all.0 (ap bay (same ∙ sym is))), others-none x same ys all.1)

  once-more : (x : BayNo) (xs : List BayNo) → AllByRecursion (λ y. x ≢ y) xs → hits at xs ≤ 1 → hit at x + hits at xs ≤ 1
  once-more x xs all le = elim (cases_eq x.0 at.0) [
    | inl same ↦ omega (arith, others-none x same xs all, hit-le x)
    | inr ne ↦ omega (arith, hit-none x ne)
  ]

  module _ (n : ℕ) (row : RowNo) (least : 3 ≤ n) where
    range-apart : (x : BayNo) (first count : ℕ) → first + count ≤ n - 1 → ((u : ℕ) → first ≤ u → u < n - 1 → x ≢ bay_of n row u)
        → AllByRecursion (λ y. x ≢ y) (map (bay_of n row) (range_with_len first count))
    range-apart x first zero le apart = tt
    range-apart x first (suc count) le apart =
        (apart first (omega arith) (omega arith), range-apart x (first + 1) count (omega arith) (λ u from below. apart u (omega arith) below))

    range-once : (first count : ℕ) → first + count ≤ n - 1 → hits at (map (bay_of n row) (range_with_len first count)) ≤ 1
    range-once first zero le = omega arith
    range-once first (suc count) le =
        once-more (bay_of n row first) (map (bay_of n row) (range_with_len (first + 1) count))
        (range-apart (bay_of n row first) (first + 1) count (omega arith) (λ u from below same. differs u from (unit_distinct n row first u least (omega arith) below same)))
        (range-once (first + 1) count (omega arith)) where
          differs : (u : ℕ) → first + 1 ≤ u → first ≡ u → ⊥
          differs u from same = absurd (omega arith)

    pub row-once : hit at (parity_bay n row) + hits at (bays_of n row (units n)) ≤ 1
    row-once =
        once-more (parity_bay n row) (bays_of n row (units n))
        (range-apart (parity_bay n row) 0 (n - 1) (omega arith) (λ u from below same. unit_apart n row u least below (sym same)))
        (range-once 0 (n - 1) (omega arith))

    pub bays-once : hits at (row_bays n row) ≤ 1
    bays-once = omega (arith, hits-append (bays_of n row (units n)) (parity_bay n row ∷ []), row-once)

    -- the units that a mask has, and those that it has not
    pub mask-both : (mask : ℕ) → hits at (bays_of n row (units_in n mask)) + hits at (bays_of n row (units_out n mask)) ≡ hits at (bays_of n row (units n))
    mask-both mask = units-both (bay_of n row) (has_unit mask) (units n)

    pub parity-hits : (o : Option Grant) → hits at (parity_granted n row o) ≤ hit at (parity_bay n row)
    parity-hits None = omega arith
    parity-hits (Some grant) = omega arith

  module _ (n : ℕ) (least : 3 ≤ n) where
    pub others-hits : (row : Row) → hits at (bays_of n row.part.row (others_granted n row)) ≤ hits at (bays_of n row.part.row (units_out n row.part.mask))
    others-hits row = granted-hits (bay_of n row.part.row) (units_out n row.part.mask) row.others

    wanted-hits : (row : Row) → hits at (bays_of n row.part.row (wanted_granted n row)) ≤ hits at (bays_of n row.part.row (units_in n row.part.mask))
    wanted-hits row = granted-hits (bay_of n row.part.row) (units_in n row.part.mask) row.wanted

    pub others-once : (row : Row) → hits at (bays_of n row.part.row (others_granted n row)) ≤ 1
    others-once row = omega (arith, others-hits row, mask-both n row.part.row least row.part.mask, row-once n row.part.row least)

    all-granted-once : (row : Row) → hits at (all_granted n row) ≤ 1
    all-granted-once row =
        let us : List ℕ = ascending n (wanted_granted n row) (others_granted n row) in
        omega (
          arith,
          hits-append (bays_of n row.part.row us) (parity_granted n row.part.row row.parity),
          units-filter (bay_of n row.part.row) (λ unit. is_among (wanted_granted n row) unit || is_among (others_granted n row) unit) (units n),
          parity-hits n row.part.row least row.parity,
          row-once n row.part.row least,
        )

    claims-hits : (row : Row) → hits at (claims_granted n row) ≤ hits at (bays_of n row.part.row (units_in n row.part.mask)) + hit at (parity_bay n row.part.row)
    claims-hits row =
        omega (
          arith,
          hits-append (bays_of n row.part.row (wanted_granted n row)) (parity_granted n row.part.row row.parity),
          wanted-hits row,
          parity-hits n row.part.row least row.parity,
        )

    pub readers-once : (row : Row) → hits at (row_readers n row) ≤ 1
    readers-once row =
        omega (
          arith,
          hits-append (claims_granted n row) (bays_of n row.part.row (others_granted n row)),
          claims-hits row,
          others-hits row,
          mask-both n row.part.row least row.part.mask,
          row-once n row.part.row least,
        )

    pub write-holds-once : (mode : Mode) (row : Row) → hits at (write_holds mode n row) ≤ 1
    write-holds-once Lock row = all-granted-once row
    write-holds-once Order row = omega (arith, claims-hits row, mask-both n row.part.row least row.part.mask, row-once n row.part.row least)

    pub read-holds-once : (mode : Mode) (row : Row) → hits at (read_holds mode n row) ≤ 1
    read-holds-once Lock row = all-granted-once row
    read-holds-once Order row = omega arith

-- Walks
module _ {B : Type 0} (at : BayNo) where
  -- more room is fine
  pub at-more : (n m : ℕ) (s : Steps B) → n ≤ m → ObeysAt at n s → ObeysAt at m s
  at-more n m (Ends a) le h = h
  at-more n m (Draws k) le h = λ d is. at-more n m (k d) le (h d is)
  at-more n m (Asks e s c k) le h =
      let few : count_at at e ≤ n = h.0 in
      (omega arith, λ r. at-more (n - count_at at e) (m - count_at at e) (k r) (omega arith) (h.1 r))

module _ {A B : Type 0} (at : BayNo) (I : A → Type 0) where
  at-go : (n : ℕ) (o : Option A) (g : A → Steps (Walk A)) (s : Steps (Walk A)) (f : Walk A → Steps B)
      → IfSome o I → ((a : A) → I a → ObeysAt at n (bind (g a) f)) → ObeysAt at n (bind s f) → ObeysAt at n (bind (go_on o g s) f)
  at-go n (Some a) g s f i on off = on a i
  at-go n None g s f i on off = off

  -- a walk whose replies keep I, and what follows it
  pub at-run : (phase : Phase A) (f : Walk A → Steps B) (m : ℕ)
      → ((a : A) (e : Errand) (r : Reply) → I a → IfSome (phase.step a e r) I)
      → ((a : A) → I a → ObeysAt at m (f (Through a)))
      → ((a : A) (e : Errand) (r : Reply) → I a → ObeysAt at m (f (Stopped a e r)))
      → (es : List Errand) (a : A) (room : ℕ) → asks at es + m ≤ room → I a → ObeysAt at room (bind (run phase es a) f)
  at-run phase f m kept on off [] a room le i = at-more at m room (f (Through a)) (omega arith) (on a i)
  at-run phase f m kept on off (e ∷ es) a room le i =
      let less : asks at es + m ≤ room - count_at at e = omega arith in (
        omega arith,
        λ r. at-go (room - count_at at e) (phase.step a e r) (λ b. run phase es b) (Ends (Stopped a e r)) f (kept a e r i)
            (λ b ib. at-run phase f m kept on off es b (room - count_at at e) less ib)
            (at-more at m (room - count_at at e) (f (Stopped a e r)) (omega arith) (off a e r i)),
      )

module _ {A B : Type 0} (at : BayNo) where
  -- a walk of one errand
  pub at-one : (phase : Phase A) (f : Walk A → Steps B) (m : ℕ) (e : Errand) (a : A) (room : ℕ) → count_at at e + m ≤ room
      → ((r : Reply) → IfSome (phase.step a e r) (λ b. ObeysAt at m (f (Through b))))
      → ((r : Reply) → ObeysAt at m (f (Stopped a e r)))
      → ObeysAt at room (bind (run phase (e ∷ []) a) f)
  at-one phase f m e a room le on off =
      let less : m ≤ room - count_at at e = omega arith in (
        omega arith,
        λ r. at-go at (λ b. ObeysAt at m (f (Through b))) (room - count_at at e) (phase.step a e r) (λ b. run phase [] b) (Ends (Stopped a e r)) f (on r)
            (λ b ok. at-more at m (room - count_at at e) (f (Through b)) less ok)
            (at-more at m (room - count_at at e) (f (Stopped a e r)) less (off r)),
      )
