-- The blocks that a write tells as made, and what it has committed: they go side by side.
use Rattle.std.proofs.Common.{◌≡◌, ◌⊎◌, inl, inr, ◌∙◌, ◌+◌, ◌^◌, ◌<◌, ◌≤◌, ◌==◌, ◌&&◌, ◌||◌, ℕ, max, Bool, true, false, cond, List, [], ◌∷◌, ◌++◌, map, zip, fold, bit_or, length, Option, Some, None, refl, sym, ap, subst, arith}
use Rattle.std.specs.Int.{bit_at}
use Rattle.std.specs.List.{All, AllByRecursion, list_all}
use Rattle.std.proofs.lemmas.Bool.{eqb-true, eq-eqb}
use Rattle.std.proofs.lemmas.List.Elements.{All-head, All-tail}
use Rattle.std.proofs.lemmas.Nat.Bits.{bit_at-zero, bit_at_or, bit_at-pow_same, bit_at-pow_other}
use Rattle.raid_base.specs.declared.messages.Grant.{Grant}
use Rattle.raid_base.specs.declared.jobs.Cause.TheVariants as causes
use Rattle.raid_base.specs.declared.jobs.RowPart.{RowPart}
use Rattle.raid_base.specs.Cells.{has_unit}
use Rattle.raid_base.specs.Steps.{Commit}
use Rattle.stripe_layout.specs.Placement.{units, units_in}
use Rattle.raid_xor.proofs.UnitBits.{bit_of_true, bit_of_false}
use Rattle.virtual_objects.specs.Objects.{rank}
use Rattle.virtual_objects.specs.RowParts.{IsPart, AreInTurn, AreRowParts}
use Rattle.attempts.specs.Taking.{Access, lacks}
use Rattle.attempts.specs.Releases.{granted_of, is_among}
use Rattle.attempts.specs.Puts.{block_no, Trouble, Faulted, Robbed, flags, missing_units, is_row_made, or_else, first_cause}
use Rattle.attempts.specs.Phases.{IsIn, RowsDiffer}
use Rattle.attempts.proofs.ReturnLemmas.{in-filter}
use Rattle.attempts.proofs.WriteSums.{Filled}
use Rattle.row_laws.specs.Effects.{commit_in, IsOfParts}
use Rattle.row_laws.proofs.torn.RecoveryFinds.{in-units}
use Rattle.row_laws.proofs.hands.WriteMasks.{one-part}

-- Bits of flags
one-bit : (made : List ℕ) (start k : ℕ) → bit_at (fold (λ n block. bit_or n (2 ^ block)) start made) k ≡ 1 → (bit_at start k ≡ 1) ⊎ IsIn k made
one-bit [] start k e = inl e
one-bit (block ∷ made) start k e = by (one-bit made (bit_or start (2 ^ block)) k e) (block == k) refl
  where
    by : (bit_at (bit_or start (2 ^ block)) k ≡ 1) ⊎ IsIn k made → (b : Bool) → (block == k) ≡ b → (bit_at start k ≡ 1) ⊎ ((block ≡ k) ⊎ IsIn k made)
    by (inr i) b is = inr (inr i)
    by (inl h) true is = inr (inl (eqb-true block k is))
    by (inl h) false is =
        let both : bit_at (bit_or start (2 ^ block)) k ≡ max (bit_at start k) (bit_at (2 ^ block) k) = bit_at_or start (2 ^ block) k in
        let none : bit_at (2 ^ block) k ≡ 0 = bit_at-pow_other block k (λ same. (let no : false ≡ true = sym is ∙ eq-eqb block k (sym same) in cc)) in
        inl (omega (arith, both, none, h))

kept-bit : (made : List ℕ) (start k : ℕ) → 1 ≤ bit_at start k → 1 ≤ bit_at (fold (λ n block. bit_or n (2 ^ block)) start made) k
kept-bit [] start k h = h
kept-bit (block ∷ made) start k h =
    let both : bit_at (bit_or start (2 ^ block)) k ≡ max (bit_at start k) (bit_at (2 ^ block) k) = bit_at_or start (2 ^ block) k in
    kept-bit made (bit_or start (2 ^ block)) k (omega (arith, both, h))

its-bit : (made : List ℕ) (start k : ℕ) → IsIn k made → 1 ≤ bit_at (fold (λ n block. bit_or n (2 ^ block)) start made) k
its-bit [] start k i = absurd i
its-bit (block ∷ made) start k (inr i) = its-bit made (bit_or start (2 ^ block)) k i
its-bit (block ∷ made) start k (inl same) =
    let both : bit_at (bit_or start (2 ^ block)) k ≡ max (bit_at start k) (bit_at (2 ^ block) k) = bit_at_or start (2 ^ block) k in
    let own : bit_at (2 ^ block) k ≡ 1 = subst (λ (b : ℕ). bit_at (2 ^ block) b ≡ 1) same (bit_at-pow_same block) in
    kept-bit made (bit_or start (2 ^ block)) k (omega (arith, both, own))

pub flag-made : (made : List ℕ) (k : ℕ) → has_unit (flags made) k ≡ true → IsIn k made
flag-made made k has = by (one-bit made 0 k (bit_of_true (flags made) k has))
  where
    by : (bit_at 0 k ≡ 1) ⊎ IsIn k made → IsIn k made
    by (inr i) = i
    by (inl h) = (let none : bit_at 0 k ≡ 0 = bit_at-zero k in absurd (omega (arith, none, h)))

pub made-flag : (made : List ℕ) (k : ℕ) → IsIn k made → has_unit (flags made) k ≡ true
made-flag made k i = by (has_unit (flags made) k) refl
  where
    by : (b : Bool) → has_unit (flags made) k ≡ b → b ≡ true
    by true e = refl
    by false e =
        let none : bit_at (flags made) k ≡ 0 = bit_of_false (flags made) k e in
        let some : 1 ≤ bit_at (flags made) k = its-bit made 0 k i in
        absurd (omega (arith, none, some))

-- What is made
pub among-in : (made : List ℕ) (b : ℕ) → is_among made b ≡ true → IsIn b made
among-in [] b e = absurd (cc)
among-in (x ∷ made) b e = by (x == b) refl e (among-in made b)
  where
    by : (c : Bool) → (x == b) ≡ c → (c || is_among made b) ≡ true → (is_among made b ≡ true → IsIn b made) → (x ≡ b) ⊎ IsIn b made
    by true is e more = inl (eqb-true x b is)
    by false is e more = inr (more e)

all-true : (test : ℕ → Bool) (us : List ℕ) (u : ℕ) → list_all test us ≡ true → IsIn u us → test u ≡ true
all-true test [] u all i = absurd i
all-true test (v ∷ us) u all i = by (test v) refl all i (all-true test us u)
  where
    by : (b : Bool) → test v ≡ b → (b && list_all test us) ≡ true → (v ≡ u) ⊎ IsIn u us → (list_all test us ≡ true → IsIn u us → test u ≡ true) → test u ≡ true
    by true e all (inl same) more = subst (λ (w : ℕ). test w ≡ true) same e
    by true e all (inr i) more = more all i
    by false e all i more = absurd (cc)

-- a unit's place among others
rank-less : (u : ℕ) (us : List ℕ) → IsIn u us → rank u us < length us
rank-less u [] i = absurd i
rank-less u (v ∷ us) (inl same) = subst (λ b. cond b 0 (rank u us + 1) < length (v ∷ us)) (sym (eq-eqb v u same)) (omega arith)
rank-less u (v ∷ us) (inr i) = one (v == u) (rank-less u us i)
  where
    one : (b : Bool) → rank u us < length us → cond b 0 (rank u us + 1) < length (v ∷ us)
    one true less = omega arith
    one false less = omega arith

rank-same : (u v : ℕ) (us : List ℕ) → IsIn u us → IsIn v us → rank u us ≡ rank v us → u ≡ v
rank-same u v [] i j same = absurd i
rank-same u v (w ∷ us) i j same = one (w == u) (w == v) refl refl (rank-same u v us) i j same
  where
    one : (b c : Bool) → (w == u) ≡ b → (w == v) ≡ c → (IsIn u us → IsIn v us → rank u us ≡ rank v us → u ≡ v) → (w ≡ u) ⊎ IsIn u us → (w ≡ v) ⊎ IsIn v us
        → cond b 0 (rank u us + 1) ≡ cond c 0 (rank v us + 1) → u ≡ v
    one true true p q rest i j same = sym (eqb-true w u p) ∙ eqb-true w v q
    one true false p q rest i j same = absurd (omega arith)
    one false true p q rest i j same = absurd (omega arith)
    one false false p q rest (inl x) j same = absurd (let e : (w == u) ≡ true = eq-eqb w u x in cc)
    one false false p q rest (inr i) (inl y) same = absurd (let e : (w == v) ≡ true = eq-eqb w v y in cc)
    one false false p q rest (inr i) (inr j) same = rest i j (omega arith)

-- each unit was granted or is missing, and none is missing where none lacks
pub given-or-missing : (P : ℕ → Option Grant → Type 0) (us : List ℕ) (os : List (Option Grant)) → Filled P us os [] → (unit : ℕ) → IsIn unit us →
    IsIn unit (granted_of (zip us os)) ⊎ IsIn unit (missing_units (zip us os))
given-or-missing P [] os f unit i = absurd i
given-or-missing P (u ∷ us) [] f unit i = absurd (cc)
given-or-missing P (u ∷ us) (None ∷ os) f unit (inl same) = inr (inl same)
given-or-missing P (u ∷ us) (None ∷ os) f unit (inr i) = elim (given-or-missing P us os f.1 unit i) [
  | inl j ↦ inl j
  | inr j ↦ inr (inr j)
]
given-or-missing P (u ∷ us) (Some grant ∷ os) f unit (inl same) = inl (inl same)
given-or-missing P (u ∷ us) (Some grant ∷ os) f unit (inr i) = elim (given-or-missing P us os f.1 unit i) [
  | inl j ↦ inl (inr j)
  | inr j ↦ inr j
]

pub none-missing : (us : List ℕ) (os : List (Option Grant)) → lacks os ≡ false → (unit : ℕ) → IsIn unit (missing_units (zip us os)) → ⊥
none-missing [] os e unit i = i
none-missing (u ∷ us) [] e unit i = i
none-missing (u ∷ us) (None ∷ os) e unit i = absurd (cc)
none-missing (u ∷ us) (Some grant ∷ os) e unit i = none-missing us os e unit i

pub missing-all : (P : ℕ → Type 0) (us : List ℕ) (os : List (Option Grant)) → AllByRecursion P us → AllByRecursion P (missing_units (zip us os))
missing-all P [] os all = tt
missing-all P (u ∷ us) [] all = tt
missing-all P (u ∷ us) (Some grant ∷ os) all = missing-all P us os all.1
missing-all P (u ∷ us) (None ∷ os) all = (all.0, missing-all P us os all.1)

module _ (a : Access) where
  -- a unit that a part of the write wants
  pub record IsWanted (part : RowPart) (unit : ℕ) : Type 0 where
    pub part_in : IsIn part a.parts
    pub inside : unit + 1 < a.n
    pub masked : has_unit part.mask unit ≡ true

  pub wanted-in : (part : RowPart) (unit : ℕ) → unit + 1 < a.n → has_unit part.mask unit ≡ true → IsIn unit (units_in a.n part.mask)
  wanted-in part unit inside has = in-filter unit (has_unit part.mask) (units a.n) (in-units a.n unit (omega arith)) has

  -- a block of a part comes before the blocks of those after it
  block-from : (parts : List RowPart) (at : ℕ) → AreInTurn at parts → (part : RowPart) → IsIn part parts → at ≤ part.at
  block-from [] at turn part i = absurd i
  block-from (first ∷ parts) at turn part (inl same) =
      let own : first.at ≡ at = turn.0 in
      let its : first.at ≡ part.at = ap (λ (p : RowPart). p.at) same in
      omega arith
  block-from (first ∷ parts) at turn part (inr i) =
      let later : at + first.count ≤ part.at = block-from parts (at + first.count) turn.1 part i in
      omega arith

  pub block-below : (part : RowPart) → IsPart a.n part → (u : ℕ) → IsIn u (units_in a.n part.mask) → block_no a part u < part.at + part.count
  block-below part is u i =
      let less : rank u (units_in a.n part.mask) < length (units_in a.n part.mask) = rank-less u (units_in a.n part.mask) i in
      let counted : length (units_in a.n part.mask) ≡ part.count = is.counted in
      omega arith

  -- one block is of one part
  same-part : (parts : List RowPart) (at : ℕ) → AreInTurn at parts → All (IsPart a.n) parts → (part other : RowPart) (u v : ℕ) → IsIn part parts → IsIn other parts →
      IsIn u (units_in a.n part.mask) → IsIn v (units_in a.n other.mask) → block_no a part u ≡ block_no a other v → part ≡ other
  same-part [] at turn each part other u v i j iu iv same = absurd i
  same-part (first ∷ parts) at turn each part other u v (inl p) (inl q) iu iv same = sym p ∙ q
  same-part (first ∷ parts) at turn each part other u v (inr i) (inr j) iu iv same =
      same-part parts (at + first.count) turn.1 (All-tail (IsPart a.n) first parts each) part other u v i j iu iv same
  same-part (first ∷ parts) at turn each part other u v (inl p) (inr j) iu iv same =
      let own : first.at ≡ at = turn.0 in
      let below : block_no a part u < part.at + part.count = block-below part (subst (IsPart a.n) p (All-head (IsPart a.n) first parts each)) u iu in
      let starts : first.at ≡ part.at = ap (λ (x : RowPart). x.at) p in
      let counts : first.count ≡ part.count = ap (λ (x : RowPart). x.count) p in
      let from : at + first.count ≤ other.at = block-from parts (at + first.count) turn.1 other j in
      absurd (omega arith)
  same-part (first ∷ parts) at turn each part other u v (inr i) (inl q) iu iv same =
      let own : first.at ≡ at = turn.0 in
      let below : block_no a other v < other.at + other.count = block-below other (subst (IsPart a.n) q (All-head (IsPart a.n) first parts each)) v iv in
      let starts : first.at ≡ other.at = ap (λ (x : RowPart). x.at) q in
      let counts : first.count ≡ other.count = ap (λ (x : RowPart). x.count) q in
      let from : at + first.count ≤ part.at = block-from parts (at + first.count) turn.1 part i in
      absurd (omega arith)

  -- Side by side: each block made, with its commit
  pub record IsPair (block : ℕ) (commit : Commit) : Type 0 where
    pub part : RowPart
    pub unit : ℕ
    pub wanted : IsWanted part unit
    pub numbered : block ≡ block_no a part unit
    pub committed : commit ≡ commit_in a part unit

  abbrev pub Paired : List ℕ → List Commit → Type 0
  Paired [] [] = Unit {0}
  Paired [] (c ∷ cs) = ⊥
  Paired (b ∷ bs) [] = ⊥
  Paired (b ∷ bs) (c ∷ cs) = IsPair b c × Paired bs cs

  pub paired-more : (bs : List ℕ) (cs : List Commit) (later : List ℕ) (more : List Commit) → Paired bs cs → Paired later more → Paired (bs ++ later) (cs ++ more)
  paired-more [] [] later more p q = q
  paired-more [] (c ∷ cs) later more p q = absurd p
  paired-more (b ∷ bs) [] later more p q = absurd p
  paired-more (b ∷ bs) (c ∷ cs) later more p q = (p.0, paired-more bs cs later more p.1 q)

  pub paired-nothing : (cs : List Commit) → Paired [] cs → cs ≡ []
  paired-nothing [] p = refl
  paired-nothing (c ∷ cs) p = absurd p

  pub paired-units : (part : RowPart) (us : List ℕ) → AllByRecursion (IsWanted part) us → Paired (map (block_no a part) us) (map (commit_in a part) us)
  paired-units part [] all = tt
  paired-units part (u ∷ us) all = (record { part = part; unit = u; wanted = all.0; numbered = refl; committed = refl }, paired-units part us all.1)

  pub paired-only : (bs : List ℕ) (cs : List Commit) → Paired bs cs → AllByRecursion (IsOfParts a) cs
  paired-only [] [] p = tt
  paired-only [] (c ∷ cs) p = absurd p
  paired-only (b ∷ bs) [] p = absurd p
  paired-only (b ∷ bs) (c ∷ cs) p =
      ((p.0.part, p.0.unit, p.0.wanted.part_in, p.0.wanted.inside, p.0.wanted.masked, p.0.committed), paired-only bs cs p.1)

  module _ (are : AreRowParts a.n a.parts) (differ : RowsDiffer a.parts) (part : RowPart) (unit : ℕ) (wanted : IsWanted part unit) where
    pub made-committed : (bs : List ℕ) (cs : List Commit) → Paired bs cs → IsIn (block_no a part unit) bs → IsIn (commit_in a part unit) cs
    made-committed [] cs p i = absurd i
    made-committed (b ∷ bs) [] p i = absurd p
    made-committed (b ∷ bs) (c ∷ cs) p (inr i) = inr (made-committed bs cs p.1 i)
    made-committed (b ∷ bs) (c ∷ cs) p (inl same) =
        let other : RowPart = p.0.part in
        let v : ℕ = p.0.unit in
        let is : IsWanted other v = p.0.wanted in
        let block : block_no a other v ≡ block_no a part unit = sym p.0.numbered ∙ same in
        let iv : IsIn v (units_in a.n other.mask) = wanted-in other v is.inside is.masked in
        let iu : IsIn unit (units_in a.n part.mask) = wanted-in part unit wanted.inside wanted.masked in
        let one : other ≡ part = same-part a.parts 0 are.in_turn are.each other part v unit is.part_in wanted.part_in iv iu block in
        inl (p.0.committed ∙ by other one v iv iu block)
      where
        by : (other : RowPart) → other ≡ part → (v : ℕ) → IsIn v (units_in a.n other.mask) → IsIn unit (units_in a.n part.mask) →
            block_no a other v ≡ block_no a part unit → commit_in a other v ≡ commit_in a part unit
        by other one v iv iu block =
            let here : IsIn v (units_in a.n part.mask) = subst (λ (x : RowPart). IsIn v (units_in a.n x.mask)) one iv in
            let numbers : block_no a part v ≡ block_no a part unit = subst (λ (x : RowPart). block_no a x v ≡ block_no a part unit) one block in
            let ranks : rank v (units_in a.n part.mask) ≡ rank unit (units_in a.n part.mask) = omega (arith, numbers) in
            ap (λ (x : RowPart). commit_in a x v) one ∙ ap (commit_in a part) (rank-same v unit (units_in a.n part.mask) here iu ranks)

    pub committed-made : (bs : List ℕ) (cs : List Commit) → Paired bs cs → IsIn (commit_in a part unit) cs → IsIn (block_no a part unit) bs
    committed-made bs [] p i = absurd i
    committed-made [] (c ∷ cs) p i = absurd p
    committed-made (b ∷ bs) (c ∷ cs) p (inr i) = inr (committed-made bs cs p.1 i)
    committed-made (b ∷ bs) (c ∷ cs) p (inl same) =
        let both : commit_in a p.0.part p.0.unit ≡ commit_in a part unit = sym p.0.committed ∙ same in
        let rows : p.0.part.row ≡ part.row = ap (λ (x : Commit). x.row) both in
        let units : p.0.unit ≡ unit = ap (λ (x : Commit). x.unit) both in
        let one : p.0.part ≡ part = one-part a.parts differ p.0.part part p.0.wanted.part_in wanted.part_in rows in
        inl (p.0.numbered ∙ ap (λ (x : RowPart). block_no a x p.0.unit) one ∙ ap (block_no a part) units)

  -- A part is made, or has a trouble
  abbrev pub IsMade : List ℕ → RowPart → Type 0
  IsMade made part = (unit : ℕ) → IsIn unit (units_in a.n part.mask) → IsIn (block_no a part unit) made

  abbrev pub Blamed : RowPart → List Trouble → Type 0
  Blamed part [] = ⊥
  Blamed part (Faulted bay ∷ troubles) = Unit {0}
  Blamed part (Robbed other ∷ troubles) = (other ≡ part) ⊎ Blamed part troubles

  pub blamed-more : (part : RowPart) (troubles : List Trouble) (trouble : Trouble) → Blamed part troubles → Blamed part (troubles ++ trouble ∷ [])
  blamed-more part [] trouble h = absurd h
  blamed-more part (Faulted bay ∷ troubles) trouble h = tt
  blamed-more part (Robbed other ∷ troubles) trouble (inl same) = inl same
  blamed-more part (Robbed other ∷ troubles) trouble (inr h) = inr (blamed-more part troubles trouble h)

  pub blamed-new : (part : RowPart) (troubles : List Trouble) (trouble : Trouble) → Blamed part (trouble ∷ []) → Blamed part (troubles ++ trouble ∷ [])
  blamed-new part [] trouble h = h
  blamed-new part (Faulted bay ∷ troubles) trouble h = tt
  blamed-new part (Robbed other ∷ troubles) trouble h = inr (blamed-new part troubles trouble h)

  row-made : (made : List ℕ) (part : RowPart) → is_row_made a made part ≡ true → IsMade made part
  row-made made part e unit i = among-in made (block_no a part unit) (all-true (λ u. is_among made (block_no a part u)) (units_in a.n part.mask) unit e i)

  -- a part that has a trouble is made, where none counts
  pub blamed-made : (made : List ℕ) (part : RowPart) (troubles : List Trouble) → first_cause a made troubles ≡ None → Blamed part troubles → IsMade made part
  blamed-made made part [] none h = absurd h
  blamed-made made part (Faulted bay ∷ troubles) none h = absurd (cc)
  blamed-made made part (Robbed other ∷ troubles) none h = by (is_row_made a made other) refl none h (blamed-made made part troubles)
    where
      by : (b : Bool) → is_row_made a made other ≡ b → or_else (cond b None (Some (causes.Seized other.row))) (first_cause a made troubles) ≡ None →
          (other ≡ part) ⊎ Blamed part troubles → (first_cause a made troubles ≡ None → Blamed part troubles → IsMade made part) → IsMade made part
      by true e none (inl same) more = subst (IsMade made) same (row-made made other e)
      by true e none (inr h) more = more none h
      by false e none h more = absurd (cc)
