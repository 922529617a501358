-- Where a slot stands in the rows of an attempt, and what becomes of it row by row.
use Rattle.std.proofs.Common.{◌≡◌, inl, inr, ◌∙◌, sym, ap, refl, subst, ◌==◌, ◌&&◌, ◌≤◌, ◌+◌, Bool, true, false, ℕ, List, [], ◌∷◌, ◌++◌, zip, Option, Some, None, arith}
use Rattle.std.specs.List.{AllByRecursion}
use Rattle.std.proofs.lemmas.Bool.Decides.{nat_tests}
use Rattle.raid_base.specs.declared.numbers.BayNo.{BayNo}
use Rattle.raid_base.specs.declared.numbers.RowNo.{RowNo}
use Rattle.raid_base.specs.declared.numbers.Number.{Number}
use Rattle.raid_base.specs.declared.messages.Mode.{Mode}
use Rattle.raid_base.specs.declared.messages.Grant.{Grant}
use Rattle.raid_base.specs.declared.jobs.RowPart.{RowPart}
use Rattle.stripe_layout.specs.Placement.{parity_bay, bays_of, units_in, units_out}
use Rattle.attempts.specs.Taking.{lacks}
use Rattle.attempts.specs.Releases.{granted_of}
use Rattle.attempts.specs.Phases.{HasRow, RowsDiffer}
use Rattle.attempts.proofs.BayLemmas.{hits, mask-both, row-once}
use Rattle.attempt_laws.proofs.lone.LoneWalks.{Use, Untouched, IsLetGo, has, has-hits}

-- Grants of some units: all of the first of them, with those that are left
abbrev pub IsThere : Option Grant → Type 0
IsThere None = ⊥
IsThere (Some grant) = Unit {0}

abbrev pub Pairs : List ℕ → List ℕ → List (Option Grant) → Type 0
Pairs us left [] = us ≡ left
Pairs [] left (grant ∷ gs) = ⊥
Pairs (u ∷ us) left (grant ∷ gs) = IsThere grant × Pairs us left gs

pub pairs-more : (us left : List ℕ) (u : ℕ) (gs : List (Option Grant)) (grant : Grant) → Pairs us (u ∷ left) gs → Pairs us left (gs ++ Some grant ∷ [])
pairs-more us left u [] grant h = subst (λ (xs : List ℕ). Pairs xs left (Some grant ∷ [])) (sym h) (tt, refl)
pairs-more [] left u (g ∷ gs) grant h = absurd h
pairs-more (v ∷ us) left u (g ∷ gs) grant h = (h.0, pairs-more us left u gs grant h.1)

pub pairs-all : (us : List ℕ) (gs : List (Option Grant)) → Pairs us [] gs → granted_of (zip us gs) ≡ us
pairs-all [] [] h = refl
pairs-all (u ∷ us) [] h = absurd (let bad : u ∷ us ≡ [] = h in cc)
pairs-all [] (g ∷ gs) h = absurd h
pairs-all (u ∷ us) (Some g ∷ gs) h = ap (λ (xs : List ℕ). u ∷ xs) (pairs-all us gs h.1)
pairs-all (u ∷ us) (None ∷ gs) h = absurd h.0

pub pairs-there : (us left : List ℕ) (gs : List (Option Grant)) → Pairs us left gs → lacks gs ≡ false
pairs-there us left [] h = refl
pairs-there [] left (g ∷ gs) h = absurd h
pairs-there (u ∷ us) left (Some g ∷ gs) h = pairs-there us left gs h.1
pairs-there (u ∷ us) left (None ∷ gs) h = absurd h.0

pub none-granted : (us : List ℕ) → granted_of (zip us []) ≡ []
none-granted [] = refl
none-granted (u ∷ us) = refl

-- Where the slot stands in a part
pub data Role : Type 0 where
  AtParity : Role
  AtWanted : Role
  AtOther : Role
  Elsewhere : Role

abbrev pub IsAt : Role → Type 0
IsAt AtParity = Unit {0}
IsAt AtWanted = Unit {0}
IsAt AtOther = Unit {0}
IsAt Elsewhere = ⊥

abbrev pub is_parity : Role → Bool
is_parity AtParity = true
is_parity AtWanted = false
is_parity AtOther = false
is_parity Elsewhere = false

abbrev pub is_wanted : Role → Bool
is_wanted AtParity = false
is_wanted AtWanted = true
is_wanted AtOther = false
is_wanted Elsewhere = false

abbrev pub is_other : Role → Bool
is_other AtParity = false
is_other AtWanted = false
is_other AtOther = true
is_other Elsewhere = false

abbrev pub role_by : Bool → Bool → Bool → Bool → Role
role_by false parity wanted other = Elsewhere
role_by true true wanted other = AtParity
role_by true false true other = AtWanted
role_by true false false true = AtOther
role_by true false false false = Elsewhere

-- what a row makes of the use
abbrev pub turn : Role → Use → Use → Use
turn AtParity to state = to
turn AtWanted to state = to
turn AtOther to state = to
turn Elsewhere to state = state

module _ (mode : Mode) (id : Number) (n : ℕ) (least : 3 ≤ n) (at : BayNo) (row : RowNo) where
  abbrev pub parity_of_part : RowPart → List BayNo
  parity_of_part part = parity_bay n part.row ∷ []

  abbrev pub wanted_of_part : RowPart → List BayNo
  wanted_of_part part = bays_of n part.row (units_in n part.mask)

  abbrev pub others_of_part : RowPart → List BayNo
  others_of_part part = bays_of n part.row (units_out n part.mask)

  abbrev Has : List BayNo → Bool
  Has bays = has at bays

  abbrev pub role : RowPart → Role
  role part = role_by (part.row.0 == row.0) (Has (parity_of_part part)) (Has (wanted_of_part part)) (Has (others_of_part part))

  pub record HasRole (part : RowPart) (is : Role) : Type 0 where
    pub parity : (Has (parity_of_part part) && (part.row.0 == row.0)) ≡ is_parity is
    pub wanted : (Has (wanted_of_part part) && (part.row.0 == row.0)) ≡ is_wanted is
    pub other : (Has (others_of_part part) && (part.row.0 == row.0)) ≡ is_other is

  -- each bay once
  pub all-once : (part : RowPart) → hits at (parity_of_part part) + hits at (wanted_of_part part) + hits at (others_of_part part) ≤ 1
  all-once part = omega (arith, mask-both at n part.row least part.mask, row-once at n part.row least)

  pub has-role : (part : RowPart) → HasRole part (role part)
  has-role part = by (part.row.0 == row.0) (Has (parity_of_part part)) (Has (wanted_of_part part)) (Has (others_of_part part)) (has-hits at (parity_of_part part)) (has-hits at (wanted_of_part part)) (has-hits at (others_of_part part)) refl refl refl refl
    where
      once : hits at (parity_of_part part) + hits at (wanted_of_part part) + hits at (others_of_part part) ≤ 1
      once = all-once part

      both : (x : Bool) → x ≡ true → (part.row.0 == row.0) ≡ true → (x && (part.row.0 == row.0)) ≡ true
      both x e f = ap (λ (q : Bool). q && (part.row.0 == row.0)) e ∙ f

      nothing : (x : Bool) → (x && false) ≡ false
      nothing true = refl
      nothing false = refl

      off : (x : Bool) → (part.row.0 == row.0) ≡ false → (x && (part.row.0 == row.0)) ≡ false
      off x e = ap (λ (q : Bool). x && q) e ∙ nothing x

      none : (x : Bool) → x ≡ false → (x && (part.row.0 == row.0)) ≡ false
      none x e = ap (λ (q : Bool). q && (part.row.0 == row.0)) e

      by : (s p w o : Bool) → (p ≡ true → 1 ≤ hits at (parity_of_part part)) → (w ≡ true → 1 ≤ hits at (wanted_of_part part)) → (o ≡ true → 1 ≤ hits at (others_of_part part)) →
          (part.row.0 == row.0) ≡ s → Has (parity_of_part part) ≡ p → Has (wanted_of_part part) ≡ w → Has (others_of_part part) ≡ o → HasRole part (role_by s p w o)
      by false p w o hp hw ho es ep ew eo =
          record { parity = off (Has (parity_of_part part)) es; wanted = off (Has (wanted_of_part part)) es; other = off (Has (others_of_part part)) es }
      by true true true o hp hw ho es ep ew eo = let x = hp refl in let y = hw refl in absurd (omega (arith, x, y, once))
      by true true false true hp hw ho es ep ew eo = let x = hp refl in let y = ho refl in absurd (omega (arith, x, y, once))
      by true true false false hp hw ho es ep ew eo = record { parity = both (Has (parity_of_part part)) ep es; wanted = none (Has (wanted_of_part part)) ew; other = none (Has (others_of_part part)) eo }
      by true false true true hp hw ho es ep ew eo = let x = hw refl in let y = ho refl in absurd (omega (arith, x, y, once))
      by true false true false hp hw ho es ep ew eo = record { parity = none (Has (parity_of_part part)) ep; wanted = both (Has (wanted_of_part part)) ew es; other = none (Has (others_of_part part)) eo }
      by true false false true hp hw ho es ep ew eo = record { parity = none (Has (parity_of_part part)) ep; wanted = none (Has (wanted_of_part part)) ew; other = both (Has (others_of_part part)) eo es }
      by true false false false hp hw ho es ep ew eo = record { parity = none (Has (parity_of_part part)) ep; wanted = none (Has (wanted_of_part part)) ew; other = none (Has (others_of_part part)) eo }

  -- What becomes of the use along some parts
  abbrev pub advance : (RowPart → Use) → List RowPart → Use → Use
  advance F [] state = state
  advance F (part ∷ parts) state = advance F parts (turn (role part) (F part) state)

  -- it is what the slot's part says
  abbrev pub Stands : (RowPart → Use) → List RowPart → Use → Type 0
  Stands F parts state = AllByRecursion (λ (part : RowPart). IsAt (role part) → state ≡ F part) parts

  abbrev pub AllElse : List RowPart → Type 0
  AllElse parts = AllByRecursion (λ (part : RowPart). role part ≡ Elsewhere) parts

  abbrev pub OneAt : List RowPart → Type 0
  OneAt [] = Unit {0}
  OneAt (part ∷ parts) = (IsAt (role part) → AllElse parts) × OneAt parts

  same-row : (part : RowPart) → IsAt (role part) → part.row ≡ row
  same-row part h = by (part.row.0 == row.0) refl h
    where
      by : (s : Bool) → (part.row.0 == row.0) ≡ s → IsAt (role_by s (Has (parity_of_part part)) (Has (wanted_of_part part)) (Has (others_of_part part))) → part.row ≡ row
      by true e i = let same : part.row.0 ≡ row.0 = grind (arith, nat_tests) in ap (λ (k : ℕ). let r : RowNo = record { 0 = k } in r) same
      by false e i = absurd i

  else-all : (part : RowPart) → part.row ≡ row → (parts : List RowPart) → (HasRow part.row parts → ⊥) → AllElse parts
  else-all part own [] apart = tt
  else-all part own (p ∷ parts) apart = (by (p.row.0 == row.0) refl, else-all part own parts (λ h. apart (inr h)))
    where
      by : (s : Bool) → (p.row.0 == row.0) ≡ s → role_by s (Has (parity_of_part p)) (Has (wanted_of_part p)) (Has (others_of_part p)) ≡ Elsewhere
      by true e = let same : p.row.0 ≡ row.0 = grind (arith, nat_tests) in absurd (apart (inl (ap (λ (k : ℕ). let r : RowNo = record { 0 = k } in r) same ∙ sym own)))
      by false e = refl

  pub one-at : (parts : List RowPart) → RowsDiffer parts → OneAt parts
  one-at [] d = tt
  one-at (part ∷ parts) d = (λ i. else-all part (same-row part i) parts d.0, one-at parts d.1)

  pub advance-else : (F : RowPart → Use) (parts : List RowPart) (state : Use) → AllElse parts → advance F parts state ≡ state
  advance-else F [] state h = refl
  advance-else F (part ∷ parts) state h = ap (λ (r : Role). advance F parts (turn r (F part) state)) h.0 ∙ advance-else F parts state h.1

  stands-else : (F : RowPart → Use) (parts : List RowPart) (state : Use) → AllElse parts → Stands F parts state
  stands-else F [] state h = tt
  stands-else F (part ∷ parts) state h = (λ i. absurd (subst IsAt h.0 i), stands-else F parts state h.1)

  -- once a part is passed
  pub stands-next : (F : RowPart → Use) (to : Use) (part : RowPart) (parts : List RowPart) (state : Use) → OneAt (part ∷ parts) → Stands F (part ∷ parts) state →
      Stands F parts (turn (role part) to state)
  stands-next F to part parts state one s = by (role part) one.0
    where
      by : (r : Role) → (IsAt r → AllElse parts) → Stands F parts (turn r to state)
      by AtParity f = stands-else F parts to (f tt)
      by AtWanted f = stands-else F parts to (f tt)
      by AtOther f = stands-else F parts to (f tt)
      by Elsewhere f = s.1

  -- after all of them
  pub advance-stands : (F : RowPart → Use) (parts : List RowPart) (state : Use) → OneAt parts → Stands F parts (advance F parts state)
  advance-stands F [] state one = tt
  advance-stands F (part ∷ parts) state one = (λ i. by (role part) one.0 i, advance-stands F parts (turn (role part) (F part) state) one.1)
    where
      by : (r : Role) → (IsAt r → AllElse parts) → IsAt r → advance F parts (turn r (F part) state) ≡ F part
      by AtParity f i = advance-else F parts (F part) (f tt)
      by AtWanted f i = advance-else F parts (F part) (f tt)
      by AtOther f i = advance-else F parts (F part) (f tt)
      by Elsewhere f i = absurd i

  pub let-go : (F : RowPart → Use) → ((part : RowPart) → IsAt (role part) → IsLetGo mode id mode (F part)) → (parts : List RowPart) (state : Use) → Stands F parts state →
      (AllElse parts → state ≡ Untouched) → IsLetGo mode id mode state
  let-go F free [] state s f = subst (IsLetGo mode id mode) (sym (f tt)) tt
  let-go F free (part ∷ parts) state s f = by (λ e. let-go F free parts state s.1 (λ h. f (e, h))) (role part) refl
    where
      at-part : IsAt (role part) → IsLetGo mode id mode state
      at-part i = subst (IsLetGo mode id mode) (sym (s.0 i)) (free part i)

      by : (role part ≡ Elsewhere → IsLetGo mode id mode state) → (r : Role) → role part ≡ r → IsLetGo mode id mode state
      by more AtParity e = at-part (subst IsAt (sym e) tt)
      by more AtWanted e = at-part (subst IsAt (sym e) tt)
      by more AtOther e = at-part (subst IsAt (sym e) tt)
      by more Elsewhere e = more e
