-- What stays the same while an attempt takes its rows, and how it gives them back.
use Rattle.std.proofs.Common.{◌≡◌, ℕ, Bool, ◌*◌, ◌<◌, ◌≤◌, List, [], ◌∷◌, ◌++◌, Option, Some, None, IfSome, option_map, map, flat_map, length, length-append, refl, sym, ap, subst, ◌∙◌, arith}
use Rattle.std.specs.List.{AllByRecursion}
use Rattle.std.proofs.Math.Nat.{mul-le-mul_left}
use Rattle.std.proofs.lemmas.List.{length-map, map-append, append_assoc}
use Rattle.raid_base.specs.declared.numbers.BayNo.{BayNo}
use Rattle.raid_base.specs.declared.numbers.RowNo.{RowNo}
use Rattle.raid_base.specs.declared.numbers.Number.{Number}
use Rattle.raid_base.specs.declared.messages.Reply.{Reply}
use Rattle.raid_base.specs.declared.messages.Errand.{Errand}
use Rattle.raid_base.specs.declared.messages.How.TheVariants.{Plain}
use Rattle.raid_base.specs.Replies.{grant_of}
use Rattle.raid_base.specs.declared.messages.Grant.{Grant}
use Rattle.raid_base.specs.declared.jobs.Cause.{Cause}
use Rattle.raid_base.specs.declared.jobs.Ended.TheVariants as ends
use Rattle.raid_base.specs.declared.jobs.RowPart.{RowPart}
use Rattle.stripe_layout.specs.Placement.{parity_bay, bay_of, bays_of}
use Rattle.attempts.specs.Taking.{Access, Row, Taken, behind_from, with_grant, grant_or_gap, taking, taking_until, share, shares, claim, claims, with_parity, with_wanted, with_other}
use Rattle.attempts.specs.Releases.{release, releases, releasing, end_as, refused_steps, write_holds, write_releases, read_holds, read_releases}
use Rattle.attempts.specs.Discipline.{IsNumberIfAny, IsWithin, Obeys, IsPlainFinish, IsAccess}
use Rattle.attempts.proofs.ObeyLemmas.{obeys-run}
use Rattle.attempts.proofs.RoomLemmas.{parity-below, flat_map-le, all-left, all-right, all-map, all-made, all-unmap, all-flat_map, AreBelow, bay-below, write-holds-below, write-holds-le, read-holds-below, read-holds-le, parts_of}

-- the rows taken and the parts left are the parts of the access
abbrev pub SoFar : Access → List Row → List RowPart → Type 0
SoFar a taken left = parts_of taken ++ left ≡ a.parts

-- a row of this part is in hand
pub record IsTaking (a : Access) (part : RowPart) (left : List RowPart) (taken : Taken) : Type 0 where
  pub row : taken.row.part ≡ part
  pub parts : SoFar a taken.before (part ∷ left)

-- one more row
pub so_far-more : (a : Access) (before : List Row) (row : Row) (part : RowPart) (left : List RowPart) → row.part ≡ part → SoFar a before (part ∷ left)
    → SoFar a (before ++ row ∷ []) left
so_far-more a before row part left same so_far =
    ap (λ ps. ps ++ left) (map-append (λ (row : Row). row.part) before (row ∷ []))
    ∙ append_assoc (parts_of before) (row.part ∷ []) left
    ∙ ap (λ p. parts_of before ++ p ∷ left) same ∙ so_far

pub taking-ended : (a : Access) (part : RowPart) (left : List RowPart) (taken : Taken) → IsTaking a part left taken → SoFar a (taken.before ++ taken.row ∷ []) left
taking-ended a part left taken t = so_far-more a taken.before taken.row part left t.row t.parts

-- Each reply to a share or claim keeps that
pub record KeepsPart (keep : Option Grant → Row → Row) : Type 0 where
  pub part : (grant : Option Grant) (row : Row) → (keep grant row).part ≡ row.part

pub keeps-parity : KeepsPart with_parity
keeps-parity = record { part = λ grant row. refl }

pub keeps-wanted : KeepsPart with_wanted
keeps-wanted = record { part = λ grant row. refl }

pub keeps-other : KeepsPart with_other
keeps-other = record { part = λ grant row. refl }

module _ (a : Access) (part : RowPart) (left : List RowPart) (keep : Option Grant → Row → Row) (keeps : KeepsPart keep) where
  pub taking-granted : (taken : Taken) (bay : BayNo) (grant : Option Grant) → IsTaking a part left taken → IsTaking a part left (with_grant keep taken bay grant)
  taking-granted taken bay (Some grant) t = record { row = keeps.part (Some grant) taken.row ∙ t.row; parts = t.parts }
  taking-granted taken bay None t = record { row = keeps.part None taken.row ∙ t.row; parts = t.parts }

  taking-kept : (taken : Taken) (bay : BayNo) (o : Option (Option Grant)) → IsTaking a part left taken
      → IfSome (option_map (with_grant keep taken bay) o) (IsTaking a part left)
  taking-kept taken bay (Some grant) t = taking-granted taken bay grant t
  taking-kept taken bay None t = tt

  until-kept : (taken : Taken) (bay : BayNo) (o : Option Grant) → IsTaking a part left taken
      → IfSome (option_map (λ (grant : Grant). with_grant keep taken bay (Some grant)) o) (IsTaking a part left)
  until-kept taken bay (Some grant) t = taking-granted taken bay (Some grant) t
  until-kept taken bay None t = tt

  pub taking-step : (taken : Taken) (e : Errand) (r : Reply) → IsTaking a part left taken → IfSome ((taking (behind_from a.mode a.id) keep).step taken e r) (IsTaking a part left)
  taking-step taken e r t = taking-kept taken e.bay (grant_or_gap (behind_from a.mode a.id) taken.missing e.bay r) t

  pub until-step : (taken : Taken) (e : Errand) (r : Reply) → IsTaking a part left taken → IfSome ((taking_until keep).step taken e r) (IsTaking a part left)
  until-step taken e r t = until-kept taken e.bay (grant_of r) t

-- What an access has
module _ (a : Access) (rows count : ℕ) (is : IsAccess a rows count) where
  pub some-bays : 1 ≤ a.n
  some-bays = let h : 3 ≤ a.n = is.least in omega arith

  abbrev pub IsRowWithin : Row → Type 0
  IsRowWithin row = row.part.row.0 < rows

  pub rows-within : (taken : List Row) (left : List RowPart) → SoFar a taken left → AllByRecursion IsRowWithin taken
  rows-within taken left so_far =
      all-unmap (λ (part : RowPart). part.row.0 < rows) (λ (row : Row). row.part) taken
      (all-left (λ (part : RowPart). part.row.0 < rows) (parts_of taken) left
      (subst (AllByRecursion (λ (part : RowPart). part.row.0 < rows)) (sym so_far) is.within))

  pub part-within : (taken : List Row) (part : RowPart) (left : List RowPart) → SoFar a taken (part ∷ left) → part.row.0 < rows
  part-within taken part left so_far =
      (all-right (λ (part : RowPart). part.row.0 < rows) (parts_of taken) (part ∷ left)
      (subst (AllByRecursion (λ (part : RowPart). part.row.0 < rows)) (sym so_far) is.within)).0

  pub row-within : (part : RowPart) (left : List RowPart) (taken : Taken) → IsTaking a part left taken → taken.row.part.row.0 < rows
  row-within part left taken t = subst (λ (p : RowPart). p.row.0 < rows) (sym t.row) (part-within taken.before part left t.parts)

  pub rows-le : (taken : List Row) (left : List RowPart) → SoFar a taken left → length taken ≤ length a.parts
  rows-le taken left so_far = omega (arith, length-append (parts_of taken) left, length-map taken (λ (row : Row). row.part), ap length so_far)

  -- errands of the units of a row
  pub units-within : (f : BayNo → Errand) → ((bay : BayNo) → bay.0 < a.n → IsWithin a.n rows (f bay)) → (row : RowNo) (us : List ℕ)
      → AllByRecursion (IsWithin a.n rows) (map f (bays_of a.n row us))
  units-within f h row us =
      all-map (IsWithin a.n rows) (λ (bay : BayNo). bay.0 < a.n) f h (bays_of a.n row us)
      (all-made (λ (bay : BayNo). bay.0 < a.n) (bay_of a.n row) (λ unit. bay-below a.n row unit some-bays) us)

  -- Shares
  share-within : (row : RowNo) → row.0 < rows → (bay : BayNo) → bay.0 < a.n → IsWithin a.n rows (share a.id row bay)
  share-within row low bay below = record { bay = below; request = (low, is.id) }

  pub shares-within : (part : RowPart) (left : List RowPart) (taken : Taken) → IsTaking a part left taken → (us : List ℕ)
      → AllByRecursion (IsWithin a.n rows) (shares a.id taken.row.part.row (bays_of a.n taken.row.part.row us))
  shares-within part left taken t us =
      units-within (share a.id taken.row.part.row) (share-within taken.row.part.row (row-within part left taken t)) taken.row.part.row us

  pub parity-within : (part : RowPart) (left : List RowPart) (taken : Taken) → IsTaking a part left taken
      → IsWithin a.n rows (share a.id taken.row.part.row (parity_bay a.n taken.row.part.row))
  parity-within part left taken t =
      share-within taken.row.part.row (row-within part left taken t) (parity_bay a.n taken.row.part.row) (parity-below a.n taken.row.part.row some-bays)

  -- Claims
  claim-within : (row : RowNo) → row.0 < rows → (want : Bool) (bay : BayNo) → bay.0 < a.n → IsWithin a.n rows (claim a.id row Plain 0 want bay)
  claim-within row low want bay below = record { bay = below; request = (low, is.id) }

  pub claims-within : (part : RowPart) (left : List RowPart) (taken : Taken) → IsTaking a part left taken → (want : Bool) (us : List ℕ)
      → AllByRecursion (IsWithin a.n rows) (claims a.id taken.row.part.row Plain want (bays_of a.n taken.row.part.row us))
  claims-within part left taken t want us =
      units-within (claim a.id taken.row.part.row Plain 0 want) (claim-within taken.row.part.row (row-within part left taken t) want) taken.row.part.row us

  -- Releases
  pub releases-within : (row : RowNo) (n : Option Number) (bays : List BayNo) → row.0 < rows → IsNumberIfAny n → AreBelow a.n bays
      → AllByRecursion (IsWithin a.n rows) (releases a.id row n bays)
  releases-within row n bays low numbered below =
      all-map (IsWithin a.n rows) (λ (bay : BayNo). bay.0 < a.n) (release a.id row n)
      (λ bay under. record { bay = under; request = (low, is.id, numbered) }) bays below

  -- a release for each bay at most that a row gives
  pub row_releases-le : (n : Option Number) (gives : Row → List BayNo) → ((row : Row) → length (gives row) ≤ a.n) → (taken : List Row) (left : List RowPart) → SoFar a taken left
      → length (flat_map (λ (row : Row). releases a.id row.part.row n (gives row)) taken) ≤ a.n * length a.parts
  row_releases-le n gives few taken left so_far =
      omega (arith, flat_map-le (λ (row : Row). releases a.id row.part.row n (gives row)) a.n each taken, mul-le-mul_left a.n (rows-le taken left so_far)) where
        each : (row : Row) → length (releases a.id row.part.row n (gives row)) ≤ a.n
        each row = omega (arith, length-map (gives row) (release a.id row.part.row n), few row)

  pub row_releases-within : (n : Option Number) (gives : Row → List BayNo) → IsNumberIfAny n → ((row : Row) → AreBelow a.n (gives row)) → (taken : List Row) (left : List RowPart)
      → SoFar a taken left → AllByRecursion (IsWithin a.n rows) (flat_map (λ (row : Row). releases a.id row.part.row n (gives row)) taken)
  row_releases-within n gives numbered below taken left so_far =
      all-flat_map (IsWithin a.n rows) IsRowWithin (λ (row : Row). releases a.id row.part.row n (gives row))
      (λ row low. releases-within row.part.row n (gives row) low numbered (below row)) taken (rows-within taken left so_far)

  -- an attempt that is refused gives back what it holds
  pub refused-obeys : (most : ℕ) (cause : Cause) (es : List Errand) (room : ℕ) → length es ≤ room → AllByRecursion (IsWithin a.n rows) es
      → Obeys (IsWithin a.n rows) (IsPlainFinish most) room (refused_steps es cause)
  refused-obeys most cause es room le all =
      obeys-run (IsWithin a.n rows) (IsPlainFinish most) (λ (u : Unit {0}). Unit {0}) releasing (end_as (ends.Refused cause)) 0
      (λ u e r i. tt) (λ u i. plain) (λ u e r i. plain) es tt room (omega arith) all tt where
        plain : IsPlainFinish most (record { ended = ends.Refused cause; contents = [] })
        plain = record { ended = tt; contents = omega arith }

  pub read-refused : (most : ℕ) (cause : Cause) (taken : List Row) (left : List RowPart) (room : ℕ) → SoFar a taken left → a.n * length a.parts ≤ room
      → Obeys (IsWithin a.n rows) (IsPlainFinish most) room (refused_steps (read_releases a taken) cause)
  read-refused most cause taken left room so_far le =
      refused-obeys most cause (read_releases a taken) room
      (omega (arith, row_releases-le None (read_holds a.mode a.n) (read-holds-le a.n some-bays a.mode) taken left so_far))
      (row_releases-within None (read_holds a.mode a.n) tt (read-holds-below a.n some-bays a.mode) taken left so_far)

  pub write-refused : (most : ℕ) (cause : Cause) (taken : List Row) (left : List RowPart) (room : ℕ) → SoFar a taken left → a.n * length a.parts ≤ room
      → Obeys (IsWithin a.n rows) (IsPlainFinish most) room (refused_steps (write_releases a taken) cause)
  write-refused most cause taken left room so_far le =
      refused-obeys most cause (write_releases a taken) room
      (omega (arith, row_releases-le None (write_holds a.mode a.n) (write-holds-le a.n some-bays a.mode) taken left so_far))
      (row_releases-within None (write_holds a.mode a.n) tt (write-holds-below a.n some-bays a.mode) taken left so_far)
