-- Walks that take slots, and walks that give them back.
use Rattle.std.proofs.Common.{◌≡◌, ◌⊎◌, inl, inr, refl, sym, subst, ℕ, ◌==◌, ◌||◌, not, Bool, true, false, cond, List, [], ◌∷◌, ◌++◌, Option, Some, None, Result, IfSome, option_map, map, zip, filter, flat_map}
use Rattle.std.specs.List.{AllByRecursion}
use Rattle.std.proofs.lemmas.Bool.{eq-eqb, and_from, or_left, or_right}
use Rattle.raid_base.specs.declared.numbers.BayNo.{BayNo}
use Rattle.raid_base.specs.declared.numbers.RowNo.{RowNo}
use Rattle.raid_base.specs.declared.numbers.Number.{Number}
use Rattle.raid_base.specs.declared.numbers.Spent.{Spent}
use Rattle.raid_base.specs.declared.messages.Mode.{Mode}
use Rattle.raid_base.specs.declared.messages.Mode.TheVariants.{Lock, Order}
use Rattle.raid_base.specs.declared.messages.Request.{Request}
use Rattle.raid_base.specs.declared.messages.Request.TheVariants.{Share, Claim, Confirm, Put, Release, Lose, Fit}
use Rattle.raid_base.specs.declared.messages.Reply.{Reply}
use Rattle.raid_base.specs.declared.messages.Reply.TheVariants.{Granted, Busy, Late, Young, Missing, Held, NoNote, Done, Fault, Emptied, Fitted}
use Rattle.raid_base.specs.declared.messages.Errand.{Errand}
use Rattle.raid_base.specs.declared.messages.Grant.{Grant}
use Rattle.raid_base.specs.declared.messages.PutEnd.{PutEnd}
use Rattle.raid_base.specs.declared.messages.PutEnd.TheVariants.{Made, Unnoted, Failed}
use Rattle.raid_base.specs.declared.jobs.Cause.{Cause}
use Rattle.raid_base.specs.declared.jobs.Ended.{Ended}
use Rattle.raid_base.specs.declared.jobs.RowPart.{RowPart}
use Rattle.raid_base.specs.Replies.{grant_of, is_done, put_end}
use Rattle.raid_base.specs.Steps.{Steps, Asks, Draws, Ends, bind, go_on, Walk, Through, Stopped, Commit, Phase, run}
use Rattle.raid_base.specs.Cells.{has_unit}
use Rattle.stripe_layout.specs.Placement.{parity_bay, bay_of, bays_of, units, units_in, units_out}
use Rattle.attempts.specs.Taking.{Row, Taken, refusal, with_grant, with_parity, with_wanted, with_other, unless, taking, taking_until}
use Rattle.attempts.specs.Releases.{releases, granted_of, wanted_granted, others_granted, parity_granted, is_among, ascending, all_granted, claims_granted}
use Rattle.attempts.specs.Reading.{row_readers}
use Rattle.attempts.specs.Phases.{Slot, IsIn, is_slot}
use Rattle.attempts.specs.Returns.{Holding, without_slot, shared, mark_failed, held_after, Returns}
use Rattle.attempts.proofs.PhaseLemmas.{all-weaken, IsRelease, slot_on}

-- Lists
module _ {X : Type 0} (x : X) where
  pub in-left : (xs ys : List X) → IsIn x xs → IsIn x (xs ++ ys)
  in-left [] ys i = absurd i
  in-left (y ∷ xs) ys (inl same) = inl same
  in-left (y ∷ xs) ys (inr i) = inr (in-left xs ys i)

  pub in-right : (xs ys : List X) → IsIn x ys → IsIn x (xs ++ ys)
  in-right [] ys i = i
  in-right (y ∷ xs) ys i = inr (in-right xs ys i)

  pub in-either : (xs ys : List X) → IsIn x (xs ++ ys) → IsIn x xs ⊎ IsIn x ys
  in-either [] ys i = inr i
  in-either (y ∷ xs) ys (inl same) = inl (inl same)
  in-either (y ∷ xs) ys (inr i) = elim (in-either xs ys i) [
    | inl j ↦ inl (inr j)
    | inr j ↦ inr j
  ]

  pub in-filter : (test : X → Bool) (xs : List X) → IsIn x xs → test x ≡ true → IsIn x (filter test xs)
  in-filter test [] i passes = absurd i
  in-filter test (y ∷ xs) (inl same) passes =
      subst (λ b. IsIn x (cond b (y ∷ filter test xs) (filter test xs))) (sym (subst (λ z. test z ≡ true) (sym same) passes)) (inl same)
  in-filter test (y ∷ xs) (inr i) passes = one (test y) (in-filter test xs i passes) where
    one : (b : Bool) → IsIn x (filter test xs) → IsIn x (cond b (y ∷ filter test xs) (filter test xs))
    one true j = inr j
    one false j = j

  pub in-filtered : (test : X → Bool) (xs : List X) → IsIn x (filter test xs) → IsIn x xs
  in-filtered test [] i = i
  in-filtered test (y ∷ xs) i = one (test y) (λ j. in-filtered test xs j) i where
    one : (b : Bool) → (IsIn x (filter test xs) → IsIn x xs) → IsIn x (cond b (y ∷ filter test xs) (filter test xs)) → (y ≡ x) ⊎ IsIn x xs
    one true rest (inl same) = inl same
    one true rest (inr j) = inr (rest j)
    one false rest j = inr (rest j)

-- one list has the elements of the other
abbrev pub Among : {X : Type 0} → List X → List X → Type 0
Among {X} xs ys = (x : X) → IsIn x xs → IsIn x ys

pub among-append : {X : Type 0} (xs ys zs ws : List X) → Among xs zs → Among ys ws → Among (xs ++ ys) (zs ++ ws)
among-append xs ys zs ws p q x i = elim (in-either x xs ys i) [
  | inl j ↦ in-left x zs ws (p x j)
  | inr j ↦ in-right x zs ws (q x j)
]

pub in-map : {X Y : Type 0} (f : X → Y) (x : X) (xs : List X) → IsIn x xs → IsIn (f x) (map f xs)
in-map f x [] i = i
in-map f x (y ∷ xs) (inl same) = inl (subst (λ z. f y ≡ f z) same refl)
in-map f x (y ∷ xs) (inr i) = inr (in-map f x xs i)

pub among-map : {X Y : Type 0} (f : X → Y) (xs ys : List X) → Among xs ys → Among (map f xs) (map f ys)
among-map f [] ys among y i = absurd i
among-map f (x ∷ xs) ys among y (inl same) = subst (λ z. IsIn z (map f ys)) same (in-map f x ys (among x (inl refl)))
among-map f (x ∷ xs) ys among y (inr i) = among-map f xs ys (λ z j. among z (inr j)) y i

-- Slots
pub same-slot : (x y : Slot) → x ≡ y → is_slot y x ≡ true
same-slot x y same = subst (λ (y : Slot). is_slot y x ≡ true) same (and_from (x.bay.0 == x.bay.0) (x.row.0 == x.row.0) (eq-eqb x.bay.0 x.bay.0 refl) (eq-eqb x.row.0 x.row.0 refl))

-- without a slot
pub without-slot : (P Q : Holding → Type 0) (slot : Slot) → ((h : Holding) → (slot ≡ h.slot → ⊥) → P h → Q h) → (held : List Holding) → AllByRecursion P held
    → AllByRecursion Q (without_slot slot held)
without-slot P Q slot each [] all = tt
without-slot P Q slot each (h ∷ held) all = one (is_slot h.slot slot) refl (without-slot P Q slot each held all.1) where
  one : (b : Bool) → is_slot h.slot slot ≡ b → AllByRecursion Q (without_slot slot held) → AllByRecursion Q (cond (not b) (h ∷ without_slot slot held) (without_slot slot held))
  one true same rest = rest
  one false other rest = (each h (λ same. absurd (let e : is_slot h.slot slot ≡ true = same-slot slot h.slot same in cc)) all.0, rest)

-- marked where a put failed
pub mark-failed : (P Q : Holding → Type 0) (slot : Slot) → ((h : Holding) → P h → Q (mark_failed slot h)) → (held : List Holding) → AllByRecursion P held
    → AllByRecursion Q (map (mark_failed slot) held)
mark-failed P Q slot each [] all = tt
mark-failed P Q slot each (h ∷ held) all = (each h all.0, mark-failed P Q slot each held all.1)

-- a mark changes no slot
pub slots-kept : (P : Slot → Type 0) (slot : Slot) (held : List Holding) → AllByRecursion (λ (h : Holding). P h.slot) held → AllByRecursion (λ (h : Holding). P h.slot) (map (mark_failed slot) held)
slots-kept P slot held all = mark-failed (λ (h : Holding). P h.slot) (λ (h : Holding). P h.slot) slot (λ h p. one h (is_slot h.slot slot) p) held all where
  one : (h : Holding) (b : Bool) → P h.slot → P (cond b (record h { failed = true }) h).slot
  one h true p = p
  one h false p = p

-- these errands release a slot
abbrev pub Frees : Slot → BayNo → Request → Type 0
Frees slot bay (Share row by want) = ⊥
Frees slot bay (Claim row by how mask want) = ⊥
Frees slot bay (Confirm row by want) = ⊥
Frees slot bay (Put row by number cell) = ⊥
Frees slot bay (Release row by number) = slot_on row bay ≡ slot
Frees slot bay Lose = ⊥
Frees slot bay Fit = ⊥

abbrev pub IsFreed : List Errand → Slot → Type 0
IsFreed [] slot = ⊥
IsFreed (e ∷ es) slot = Frees slot e.bay e.request ⊎ IsFreed es slot

pub freed-left : (slot : Slot) (es ds : List Errand) → IsFreed es slot → IsFreed (es ++ ds) slot
freed-left slot [] ds f = absurd f
freed-left slot (e ∷ es) ds (inl f) = inl f
freed-left slot (e ∷ es) ds (inr f) = inr (freed-left slot es ds f)

pub freed-right : (slot : Slot) (es ds : List Errand) → IsFreed ds slot → IsFreed (es ++ ds) slot
freed-right slot [] ds f = f
freed-right slot (e ∷ es) ds f = inr (freed-right slot es ds f)

pub freed-bays : (id : Number) (row : RowNo) (n : Option Number) (bay : BayNo) (bays : List BayNo) → IsIn bay bays → IsFreed (releases id row n bays) (slot_on row bay)
freed-bays id row n bay [] i = i
freed-bays id row n bay (b ∷ bays) (inl same) = inl (subst (λ (z : BayNo). slot_on row b ≡ slot_on row z) same refl)
freed-bays id row n bay (b ∷ bays) (inr i) = inr (freed-bays id row n bay bays i)

-- held for a reason, or still to be released
abbrev pub StillHeld : (Holding → Type 0) → List Errand → List Holding → Type 0
StillHeld R es held = AllByRecursion (λ (h : Holding). R h ⊎ IsFreed es h.slot) held

release-frees : (id : Number) (R : Holding → Type 0) (mode : Mode) (bay : BayNo) (q : Request) (es : List Errand) (held : List Holding) (r : Reply) → IsRelease id q
    → AllByRecursion (λ (h : Holding). R h ⊎ (Frees h.slot bay q ⊎ IsFreed es h.slot)) held → StillHeld R es (held_after mode held bay q r)
release-frees id R mode bay (Share row by want) es held r is all = absurd is
release-frees id R mode bay (Claim row by how mask want) es held r is all = absurd is
release-frees id R mode bay (Confirm row by want) es held r is all = absurd is
release-frees id R mode bay (Put row by number cell) es held r is all = absurd is
release-frees id R mode bay Lose es held r is all = absurd is
release-frees id R mode bay Fit es held r is all = absurd is
release-frees id R mode bay (Release row by number) es held r is all =
    without-slot (λ (h : Holding). R h ⊎ ((slot_on row bay ≡ h.slot) ⊎ IsFreed es h.slot)) (λ (h : Holding). R h ⊎ IsFreed es h.slot) (slot_on row bay) each held all where
      each : (h : Holding) → (slot_on row bay ≡ h.slot → ⊥) → R h ⊎ ((slot_on row bay ≡ h.slot) ⊎ IsFreed es h.slot) → R h ⊎ IsFreed es h.slot
      each h other (inl why) = inl why
      each h other (inr (inl same)) = absurd (other same)
      each h other (inr (inr freed)) = inr freed

-- nothing is held for no reason
pub nothing-held : (held : List Holding) → AllByRecursion (λ (h : Holding). ⊥) held → held ≡ []
nothing-held [] all = refl
nothing-held (h ∷ held) all = absurd all.0

-- a reply that refuses grants nothing
abbrev pub GrantsNone : Option Cause → Option Grant → Type 0
GrantsNone (Some cause) grant = grant ≡ None
GrantsNone None grant = Unit {0}

grants-none : (o : Option Cause) → GrantsNone o None
grants-none (Some cause) = refl
grants-none None = tt

pub refused-none : (least : Option Number) (missing : Option BayNo) (bay : BayNo) (r : Reply) → GrantsNone (refusal least missing bay r) (grant_of r)
refused-none least missing bay (Granted cell read_no write_no last life seized) = tt
refused-none least missing bay (Busy holder) = refl
refused-none least missing bay (Late above) = refl
refused-none least missing bay (Young note) = refl
refused-none least missing bay (Missing floor) = grants-none (refusal least missing bay (Missing floor))
refused-none least missing bay (Held cell) = tt
refused-none least missing bay (NoNote life) = tt
refused-none least missing bay Done = tt
refused-none least missing bay Fault = refl
refused-none least missing bay Emptied = tt
refused-none least missing bay Fitted = tt

pub shared-none : (m : Mode) (slot : Slot) (held : List Holding) → held ≡ shared m slot None held
shared-none Order slot held = refl
shared-none Lock slot held = refl

-- each reply to a put
pub put-replies : (P : Bool → PutEnd → Type 0) → P true Made → ((life : ℕ) → P false (Unnoted life)) → P false Failed → (r : Reply) → P (is_done r) (put_end r)
put-replies P made unnoted failed (Granted cell read_no write_no last life seized) = failed
put-replies P made unnoted failed (Busy holder) = failed
put-replies P made unnoted failed (Late above) = failed
put-replies P made unnoted failed (Young note) = failed
put-replies P made unnoted failed (Missing floor) = failed
put-replies P made unnoted failed (Held cell) = failed
put-replies P made unnoted failed (NoNote life) = unnoted life
put-replies P made unnoted failed Done = made
put-replies P made unnoted failed Fault = failed
put-replies P made unnoted failed Emptied = failed
put-replies P made unnoted failed Fitted = failed

-- Grants by unit
-- the units that are left once so many grants came
abbrev pub Walked : List ℕ → List (Option Grant) → List ℕ → Type 0
Walked us [] left = us ≡ left
Walked [] (o ∷ os) left = ⊥
Walked (u ∷ us) (o ∷ os) left = Walked us os left

pub walked-more : (us : List ℕ) (os : List (Option Grant)) (o : Option Grant) (u : ℕ) (left : List ℕ) → Walked us os (u ∷ left) → Walked us (os ++ o ∷ []) left
walked-more [] [] o u left w = absurd (cc)
walked-more [] (x ∷ os) o u left w = absurd w
walked-more (v ∷ us) [] o u left w = cc
walked-more (v ∷ us) (x ∷ os) o u left w = walked-more us os o u left w

pub granted-among : (us : List ℕ) (os : List (Option Grant)) → Among (granted_of (zip us os)) us
granted-among [] os x i = absurd i
granted-among (u ∷ us) [] x i = absurd i
granted-among (u ∷ us) (None ∷ os) x i = inr (granted-among us os x i)
granted-among (u ∷ us) (Some grant ∷ os) x (inl same) = inl same
granted-among (u ∷ us) (Some grant ∷ os) x (inr i) = inr (granted-among us os x i)

pub granted-more : (us : List ℕ) (os : List (Option Grant)) (o : Option Grant) → Among (granted_of (zip us os)) (granted_of (zip us (os ++ o ∷ [])))
granted-more [] os o x i = absurd i
granted-more (u ∷ us) [] o x i = absurd i
granted-more (u ∷ us) (None ∷ os) o x i = granted-more us os o x i
granted-more (u ∷ us) (Some grant ∷ os) o x (inl same) = inl same
granted-more (u ∷ us) (Some grant ∷ os) o x (inr i) = inr (granted-more us os o x i)

pub granted-new : (us : List ℕ) (os : List (Option Grant)) (grant : Grant) (u : ℕ) (left : List ℕ) → Walked us os (u ∷ left) → IsIn u (granted_of (zip us (os ++ Some grant ∷ [])))
granted-new [] [] grant u left w = absurd (cc)
granted-new [] (x ∷ os) grant u left w = absurd w
granted-new (v ∷ us) [] grant u left w = inl (cc)
granted-new (v ∷ us) (None ∷ os) grant u left w = granted-new us os grant u left w
granted-new (v ∷ us) (Some x ∷ os) grant u left w = inr (granted-new us os grant u left w)

-- Rows
module _ (n : ℕ) where
  abbrev bays : Row → List ℕ → List BayNo
  bays row us = bays_of n row.part.row us

  abbrev parity : Row → List BayNo
  parity row = parity_granted n row.part.row row.parity

  pub readers-wanted : (o : Option Grant) (row : Row) → Among (row_readers n row) (row_readers n (with_wanted o row))
  readers-wanted o row =
      among-append (bays row (wanted_granted n row) ++ parity row) (bays row (others_granted n row))
      (bays row (wanted_granted n (with_wanted o row)) ++ parity row) (bays row (others_granted n row))
      (among-append (bays row (wanted_granted n row)) (parity row) (bays row (wanted_granted n (with_wanted o row))) (parity row)
      (among-map (bay_of n row.part.row) (wanted_granted n row) (wanted_granted n (with_wanted o row)) (granted-more (units_in n row.part.mask) row.wanted o)) (λ x i. i))
      (λ x i. i)

  pub readers-other : (o : Option Grant) (row : Row) → Among (row_readers n row) (row_readers n (with_other o row))
  readers-other o row =
      among-append (bays row (wanted_granted n row) ++ parity row) (bays row (others_granted n row))
      (bays row (wanted_granted n row) ++ parity row) (bays row (others_granted n (with_other o row))) (λ x i. i)
      (among-map (bay_of n row.part.row) (others_granted n row) (others_granted n (with_other o row)) (granted-more (units_out n row.part.mask) row.others o))

  pub readers-parity : (o : Option Grant) (row : Row) → row.parity ≡ None → Among (row_readers n row) (row_readers n (with_parity o row))
  readers-parity o row none =
      among-append (bays row (wanted_granted n row) ++ parity row) (bays row (others_granted n row))
      (bays row (wanted_granted n row) ++ parity (with_parity o row)) (bays row (others_granted n row))
      (among-append (bays row (wanted_granted n row)) (parity row) (bays row (wanted_granted n row)) (parity (with_parity o row)) (λ x i. i)
      (subst (λ p. Among (parity_granted n row.part.row p) (parity (with_parity o row))) (sym none) (λ x i. absurd i)))
      (λ x i. i)

  pub claims-wanted : (o : Option Grant) (row : Row) → Among (claims_granted n row) (claims_granted n (with_wanted o row))
  claims-wanted o row =
      among-append (bays row (wanted_granted n row)) (parity row) (bays row (wanted_granted n (with_wanted o row))) (parity row)
      (among-map (bay_of n row.part.row) (wanted_granted n row) (wanted_granted n (with_wanted o row)) (granted-more (units_in n row.part.mask) row.wanted o)) (λ x i. i)

  -- the readers in the order of their release
  is-among : (us : List ℕ) (u : ℕ) → IsIn u us → is_among us u ≡ true
  is-among [] u i = absurd i
  is-among (v ∷ us) u (inl same) = or_left (v == u) (is_among us u) (eq-eqb v u same)
  is-among (v ∷ us) u (inr i) = or_right (v == u) (is_among us u) (is-among us u i)

  in-units : (mask : ℕ → Bool) (os : List (Option Grant)) → Among (granted_of (zip (filter mask (units n)) os)) (units n)
  in-units mask os x i = in-filtered x mask (units n) (granted-among (filter mask (units n)) os x i)

  pub readers-all : (row : Row) → Among (row_readers n row) (all_granted n row)
  readers-all row bay i = elim (in-either bay (bays row (wanted_granted n row) ++ parity row) (bays row (others_granted n row)) i) [
    | inl j ↦ elim (in-either bay (bays row (wanted_granted n row)) (parity row) j) [
      | inl w ↦ in-left bay both (parity row) (among-map (bay_of n row.part.row) (wanted_granted n row) (ascending n (wanted_granted n row) (others_granted n row)) wanted bay w)
      | inr p ↦ in-right bay both (parity row) p
    ]
    | inr o ↦ in-left bay both (parity row) (among-map (bay_of n row.part.row) (others_granted n row) (ascending n (wanted_granted n row) (others_granted n row)) others bay o)
  ] where
    both : List BayNo
    both = bays row (ascending n (wanted_granted n row) (others_granted n row))

    wanted : Among (wanted_granted n row) (ascending n (wanted_granted n row) (others_granted n row))
    wanted u i =
        in-filter u (λ unit. is_among (wanted_granted n row) unit || is_among (others_granted n row) unit) (units n) (in-units (has_unit row.part.mask) row.wanted u i)
        (or_left (is_among (wanted_granted n row) u) (is_among (others_granted n row) u) (is-among (wanted_granted n row) u i))

    others : Among (others_granted n row) (ascending n (wanted_granted n row) (others_granted n row))
    others u i =
        in-filter u (λ unit. is_among (wanted_granted n row) unit || is_among (others_granted n row) unit) (units n)
        (in-units (λ unit. not (has_unit row.part.mask unit)) row.others u i)
        (or_right (is_among (wanted_granted n row) u) (is_among (others_granted n row) u) (is-among (others_granted n row) u i))

-- a slot of a row that is given, and of some row
abbrev pub InRow : (Row → List BayNo) → Row → Slot → Type 0
InRow gives row slot = (row.part.row ≡ slot.row) × IsIn slot.bay (gives row)

abbrev pub InRows : (Row → List BayNo) → List Row → Slot → Type 0
InRows gives [] slot = ⊥
InRows gives (row ∷ rows) slot = InRow gives row slot ⊎ InRows gives rows slot

-- a slot that was just granted
module _ (n : ℕ) where
  pub readers-wanted_new : (grant : Grant) (row : Row) (part : RowPart) (u : ℕ) (us : List ℕ) → row.part ≡ part → Walked (units_in n row.part.mask) row.wanted (u ∷ us)
      → InRow (row_readers n) (with_wanted (Some grant) row) (slot_on part.row (bay_of n part.row u))
  readers-wanted_new grant row part u us same walked =
      subst (λ (part : RowPart). InRow (row_readers n) (with_wanted (Some grant) row) (slot_on part.row (bay_of n part.row u))) same (
        refl,
        in-left (bay_of n row.part.row u) (bays n row (wanted_granted n (with_wanted (Some grant) row)) ++ parity n row) (bays n row (others_granted n row))
            (in-left (bay_of n row.part.row u) (bays n row (wanted_granted n (with_wanted (Some grant) row))) (parity n row)
            (in-map (bay_of n row.part.row) u (wanted_granted n (with_wanted (Some grant) row)) (granted-new (units_in n row.part.mask) row.wanted grant u us walked))),
      )

  pub claims-wanted_new : (grant : Grant) (row : Row) (part : RowPart) (u : ℕ) (us : List ℕ) → row.part ≡ part → Walked (units_in n row.part.mask) row.wanted (u ∷ us)
      → InRow (claims_granted n) (with_wanted (Some grant) row) (slot_on part.row (bay_of n part.row u))
  claims-wanted_new grant row part u us same walked =
      subst (λ (part : RowPart). InRow (claims_granted n) (with_wanted (Some grant) row) (slot_on part.row (bay_of n part.row u))) same (
        refl,
        in-left (bay_of n row.part.row u) (bays n row (wanted_granted n (with_wanted (Some grant) row))) (parity n row)
            (in-map (bay_of n row.part.row) u (wanted_granted n (with_wanted (Some grant) row)) (granted-new (units_in n row.part.mask) row.wanted grant u us walked)),
      )

  pub readers-other_new : (grant : Grant) (row : Row) (part : RowPart) (u : ℕ) (us : List ℕ) → row.part ≡ part → Walked (units_out n row.part.mask) row.others (u ∷ us)
      → InRow (row_readers n) (with_other (Some grant) row) (slot_on part.row (bay_of n part.row u))
  readers-other_new grant row part u us same walked =
      subst (λ (part : RowPart). InRow (row_readers n) (with_other (Some grant) row) (slot_on part.row (bay_of n part.row u))) same (
        refl,
        in-right (bay_of n row.part.row u) (bays n row (wanted_granted n row) ++ parity n row) (bays n row (others_granted n (with_other (Some grant) row)))
            (in-map (bay_of n row.part.row) u (others_granted n (with_other (Some grant) row)) (granted-new (units_out n row.part.mask) row.others grant u us walked)),
      )

  pub readers-parity_new : (grant : Grant) (row : Row) → InRow (row_readers n) (with_parity (Some grant) row) (slot_on row.part.row (parity_bay n row.part.row))
  readers-parity_new grant row = (
    refl,
    in-left (parity_bay n row.part.row) (bays n row (wanted_granted n row) ++ parity_bay n row.part.row ∷ []) (bays n row (others_granted n row))
        (in-right (parity_bay n row.part.row) (bays n row (wanted_granted n row)) (parity_bay n row.part.row ∷ []) (inl refl)),
  )

  pub claims-parity_new : (grant : Grant) (row : Row) → InRow (claims_granted n) (with_parity (Some grant) row) (slot_on row.part.row (parity_bay n row.part.row))
  claims-parity_new grant row = (refl, in-right (parity_bay n row.part.row) (bays n row (wanted_granted n row)) (parity_bay n row.part.row ∷ []) (inl refl))

-- all that is held is a slot of these rows
abbrev pub HeldIn : (Row → List BayNo) → List Row → List Holding → Type 0
HeldIn gives rows held = AllByRecursion (λ (h : Holding). InRows gives rows h.slot) held

module _ (gives : Row → List BayNo) where
  pub rows-last : (before : List Row) (row later : Row) (slot : Slot) → (InRow gives row slot → InRow gives later slot) → InRows gives (before ++ row ∷ []) slot
      → InRows gives (before ++ later ∷ []) slot
  rows-last [] row later slot grows (inl i) = inl (grows i)
  rows-last [] row later slot grows (inr i) = inr i
  rows-last (x ∷ before) row later slot grows (inl i) = inl i
  rows-last (x ∷ before) row later slot grows (inr i) = inr (rows-last before row later slot grows i)

  pub rows-new : (before : List Row) (row : Row) (slot : Slot) → InRow gives row slot → InRows gives (before ++ row ∷ []) slot
  rows-new [] row slot i = inl i
  rows-new (x ∷ before) row slot i = inr (rows-new before row slot i)

  pub rows-more : (before : List Row) (row : Row) (slot : Slot) → InRows gives before slot → InRows gives (before ++ row ∷ []) slot
  rows-more [] row slot i = absurd i
  rows-more (x ∷ before) row slot (inl i) = inl i
  rows-more (x ∷ before) row slot (inr i) = inr (rows-more before row slot i)

  pub rows-freed : (id : Number) (n : Option Number) (frees : Row → List BayNo) → ((row : Row) → Among (gives row) (frees row)) → (rows : List Row) (slot : Slot) → InRows gives rows slot
      → IsFreed (flat_map (λ (row : Row). releases id row.part.row n (frees row)) rows) slot
  rows-freed id n frees each [] slot i = i
  rows-freed id n frees each (row ∷ rows) slot (inl i) =
      freed-left slot (releases id row.part.row n (frees row)) (flat_map (λ (row : Row). releases id row.part.row n (frees row)) rows)
      (subst (λ (r : RowNo). IsFreed (releases id row.part.row n (frees row)) (slot_on r slot.bay)) i.0
      (freed-bays id row.part.row n slot.bay (frees row) (each row slot.bay i.1)))
  rows-freed id n frees each (row ∷ rows) slot (inr i) =
      freed-right slot (releases id row.part.row n (frees row)) (flat_map (λ (row : Row). releases id row.part.row n (frees row)) rows)
      (rows-freed id n frees each rows slot i)

-- where a grant is held
abbrev pub IfHeld : Option Grant → Mode → Type 0 → Type 0
IfHeld None m X = Unit {0}
IfHeld (Some grant) Order X = Unit {0}
IfHeld (Some grant) Lock X = X

-- the row in hand has one more grant
pub take-holds : (gives : Row → List BayNo) (m : Mode) (before : List Row) (row later : Row) (slot : Slot) (o : Option Grant) (held : List Holding)
    → ((s : Slot) → InRow gives row s → InRow gives later s) → IfHeld o m (InRow gives later slot) → HeldIn gives (before ++ row ∷ []) held
    → HeldIn gives (before ++ later ∷ []) (shared m slot o held)
take-holds gives Order before row later slot o held grows new all =
    all-weaken (λ (h : Holding). InRows gives (before ++ row ∷ []) h.slot) (λ (h : Holding). InRows gives (before ++ later ∷ []) h.slot)
    (λ h i. rows-last gives before row later h.slot (grows h.slot) i) held all
take-holds gives Lock before row later slot None held grows new all =
    all-weaken (λ (h : Holding). InRows gives (before ++ row ∷ []) h.slot) (λ (h : Holding). InRows gives (before ++ later ∷ []) h.slot)
    (λ h i. rows-last gives before row later h.slot (grows h.slot) i) held all
take-holds gives Lock before row later slot (Some grant) held grows new all = (
  rows-new gives before later slot new,
  all-weaken (λ (h : Holding). InRows gives (before ++ row ∷ []) h.slot) (λ (h : Holding). InRows gives (before ++ later ∷ []) h.slot)
      (λ h i. rows-last gives before row later h.slot (grows h.slot) i) held all,
)

-- Where the replies are such: the end is Q of what is held then
abbrev pub ReturnsIf : {A : Type 0} → (Request → Reply → Type 0) → Mode → (List Holding → A → Type 0) → List Holding → Steps A → Type 0
ReturnsIf P mode Q held (Ends a) = Q held a
ReturnsIf P mode Q held (Draws k) = (d : Result Number Spent) → ReturnsIf P mode Q held (k d)
ReturnsIf P mode Q held (Asks e s c k) = (r : Reply) → P e.request r → ReturnsIf P mode Q (held_after mode held e.bay e.request r) (k r)

-- whatever they are
abbrev pub Any : Request → Reply → Type 0
Any request reply = Unit {0}

pub returns-all : {A : Type 0} (mode : Mode) (Q : List Holding → A → Type 0) (held : List Holding) (s : Steps A) → ReturnsIf Any mode Q held s → Returns mode Q held s
returns-all mode Q held (Ends a) h = h
returns-all mode Q held (Draws k) h = λ d. returns-all mode Q held (k d) (h d)
returns-all mode Q held (Asks e s c k) h = λ r. returns-all mode Q (held_after mode held e.bay e.request r) (k r) (h r tt)

-- Walks
module _ {A B : Type 0} (P : Request → Reply → Type 0) (mode : Mode) (Q : List Holding → B → Type 0) where
  pub returns-go : (held : List Holding) (o : Option A) (g : A → Steps (Walk A)) (s : Steps (Walk A)) (f : Walk A → Steps B)
      → IfSome o (λ a. ReturnsIf P mode Q held (bind (g a) f)) → ReturnsIf P mode Q held (bind s f) → ReturnsIf P mode Q held (bind (go_on o g s) f)
  returns-go held (Some a) g s f on off = on
  returns-go held None g s f on off = off

  -- releases alone, whatever is answered
  pub gives-all-back : (id : Number) (R : Holding → Type 0) (go : A → Errand → Reply → A) (stop : A → Ended) (commits : A → Errand → List Commit) (f : Walk A → Steps B)
      → ((held : List Holding) (a : A) → AllByRecursion R held → ReturnsIf P mode Q held (f (Through a)))
      → (es : List Errand) (held : List Holding) (a : A) → AllByRecursion (λ (e : Errand). IsRelease id e.request) es → StillHeld R es held
      → ReturnsIf P mode Q held (bind (run (record { step = λ a e r. Some (go a e r); stop = stop; commits = commits }) es a) f)
  gives-all-back id R go stop commits f on [] held a all still = on held a (all-weaken (λ (h : Holding). R h ⊎ ⊥) R given held still) where
    given : (h : Holding) → R h ⊎ ⊥ → R h
    given h (inl why) = why
    given h (inr none) = absurd none
  gives-all-back id R go stop commits f on (e ∷ es) held a all still = λ r fit.
      gives-all-back id R go stop commits f on es (held_after mode held e.bay e.request r) (go a e r) all.1 (release-frees id R mode e.bay e.request es held r all.0 still)

  -- the confirm of a row
  pub returns-confirm : (phase : Phase A) (f : Walk A → Steps B) (bay : BayNo) (row : RowNo) (id : Number) (want : Bool) (held : List Holding) (a : A)
      → ((r : Reply) → IfSome (phase.step a (record { bay = bay; request = Confirm row id want }) r) (λ b. ReturnsIf P mode Q held (f (Through b))))
      → ((e : Errand) (r : Reply) → ReturnsIf P mode Q held (f (Stopped a e r)))
      → ReturnsIf P mode Q held (bind (run phase (record { bay = bay; request = Confirm row id want } ∷ []) a) f)
  returns-confirm phase f bay row id want held a on off = λ r fit.
      returns-go held (phase.step a (record { bay = bay; request = Confirm row id want }) r) (λ b. run phase [] b)
      (Ends (Stopped a (record { bay = bay; request = Confirm row id want }) r)) f (on r) (off (record { bay = bay; request = Confirm row id want }) r)

  -- whatever is held, and whatever is answered
  pub returns-any : (phase : Phase A) (f : Walk A → Steps B) → ((held : List Holding) (walk : Walk A) → ReturnsIf P mode Q held (f walk)) → (es : List Errand) (held : List Holding) (a : A)
      → ReturnsIf P mode Q held (bind (run phase es a) f)
  returns-any phase f on [] held a = on held (Through a)
  returns-any phase f on (e ∷ es) held a = λ r fit.
      returns-go (held_after mode held e.bay e.request r) (phase.step a e r) (λ b. run phase es b) (Ends (Stopped a e r)) f
      (some (phase.step a e r) (λ b. returns-any phase f on es (held_after mode held e.bay e.request r) b)) (on (held_after mode held e.bay e.request r) (Stopped a e r)) where
        some : {I : A → Type 0} (o : Option A) → ((b : A) → I b) → IfSome o I
        some None each = tt
        some (Some b) each = each b

-- Walks that take slots
module _ {B : Type 0} (P : Request → Reply → Type 0) (mode : Mode) (Q : List Holding → B → Type 0) (m : Mode) (row : RowNo) (what : Request)
    (same : (held : List Holding) (bay : BayNo) (r : Reply) → held_after mode held bay what r ≡ shared m (slot_on row bay) (grant_of r) held) where
  abbrev asked : BayNo → Errand
  asked bay = record { bay = bay; request = what }

  take-step : (slot : Slot) (held : List Holding) (keep : Option Grant → Row → Row) (t : Taken) (bay : BayNo) (g : Taken → Steps (Walk Taken)) (s : Steps (Walk Taken)) (f : Walk Taken → Steps B)
      → (c : Option Cause) (o : Option Grant) → GrantsNone c o → ((o : Option Grant) → ReturnsIf P mode Q (shared m slot o held) (bind (g (with_grant keep t bay o)) f))
      → ReturnsIf P mode Q held (bind s f)
      → ReturnsIf P mode Q (shared m slot o held) (bind (go_on (option_map (with_grant keep t bay) (unless c o)) g s) f)
  take-step slot held keep t bay g s f (Some cause) None none on off = subst (λ held. ReturnsIf P mode Q held (bind s f)) (shared-none m slot held) off
  take-step slot held keep t bay g s f (Some cause) (Some grant) none on off = absurd (cc)
  take-step slot held keep t bay g s f None o none on off = on o

  until-step : (slot : Slot) (held : List Holding) (keep : Option Grant → Row → Row) (t : Taken) (bay : BayNo) (g : Taken → Steps (Walk Taken)) (s : Steps (Walk Taken)) (f : Walk Taken → Steps B)
      → (o : Option Grant) → ((grant : Grant) → ReturnsIf P mode Q (shared m slot (Some grant) held) (bind (g (with_grant keep t bay (Some grant))) f)) → ReturnsIf P mode Q held (bind s f)
      → ReturnsIf P mode Q (shared m slot o held) (bind (go_on (option_map (λ grant. with_grant keep t bay (Some grant)) o) g s) f)
  until-step slot held keep t bay g s f None on off = subst (λ held. ReturnsIf P mode Q held (bind s f)) (shared-none m slot held) off
  until-step slot held keep t bay g s f (Some grant) on off = on grant

  -- one slot
  pub returns-one : (least : Option Number) (keep : Option Grant → Row → Row) (f : Walk Taken → Steps B) (bay : BayNo) (held : List Holding) (t : Taken)
      → ((o : Option Grant) → ReturnsIf P mode Q (shared m (slot_on row bay) o held) (f (Through (with_grant keep t bay o))))
      → ((e : Errand) (r : Reply) → ReturnsIf P mode Q held (f (Stopped t e r)))
      → ReturnsIf P mode Q held (bind (run (taking least keep) (asked bay ∷ []) t) f)
  returns-one least keep f bay held t on off = λ r fit.
      subst (λ held. ReturnsIf P mode Q held
      (bind (go_on (option_map (with_grant keep t bay) (unless (refusal least t.missing bay r) (grant_of r))) (λ b. run (taking least keep) [] b) (Ends (Stopped t (asked bay) r))) f))
      (sym (same held bay r))
      (take-step (slot_on row bay) held keep t bay (λ b. run (taking least keep) [] b) (Ends (Stopped t (asked bay) r)) f (refusal least t.missing bay r) (grant_of r)
      (refused-none least t.missing bay r) on (off (asked bay) r))

  -- those of some units
  pub returns-units : (least : Option Number) (keep : Option Grant → Row → Row) (place : ℕ → BayNo) (J : List ℕ → List Holding → Taken → Type 0) (f : Walk Taken → Steps B)
      → ((u : ℕ) (us : List ℕ) (held : List Holding) (t : Taken) (o : Option Grant) → J (u ∷ us) held t → J us (shared m (slot_on row (place u)) o held) (with_grant keep t (place u) o))
      → ((held : List Holding) (t : Taken) → J [] held t → ReturnsIf P mode Q held (f (Through t)))
      → ((u : ℕ) (us : List ℕ) (held : List Holding) (t : Taken) (e : Errand) (r : Reply) → J (u ∷ us) held t → ReturnsIf P mode Q held (f (Stopped t e r)))
      → (us : List ℕ) (held : List Holding) (t : Taken) → J us held t → ReturnsIf P mode Q held (bind (run (taking least keep) (map asked (map place us)) t) f)
  returns-units least keep place J f kept on off [] held t j = on held t j
  returns-units least keep place J f kept on off (u ∷ us) held t j = λ r fit.
      subst (λ held. ReturnsIf P mode Q held
      (bind (go_on (option_map (with_grant keep t (place u)) (unless (refusal least t.missing (place u) r) (grant_of r)))
      (λ b. run (taking least keep) (map asked (map place us)) b) (Ends (Stopped t (asked (place u)) r))) f))
      (sym (same held (place u) r))
      (take-step (slot_on row (place u)) held keep t (place u) (λ b. run (taking least keep) (map asked (map place us)) b) (Ends (Stopped t (asked (place u)) r)) f
      (refusal least t.missing (place u) r) (grant_of r) (refused-none least t.missing (place u) r)
      (λ o. returns-units least keep place J f kept on off us (shared m (slot_on row (place u)) o held) (with_grant keep t (place u) o) (kept u us held t o j))
      (off u us held t (asked (place u)) r j))

  -- and up to the first that is missing
  pub returns-until : (keep : Option Grant → Row → Row) (place : ℕ → BayNo) (J : List ℕ → List Holding → Taken → Type 0) (f : Walk Taken → Steps B)
      → ((u : ℕ) (us : List ℕ) (held : List Holding) (t : Taken) (grant : Grant) → J (u ∷ us) held t
      → J us (shared m (slot_on row (place u)) (Some grant) held) (with_grant keep t (place u) (Some grant)))
      → ((held : List Holding) (t : Taken) → J [] held t → ReturnsIf P mode Q held (f (Through t)))
      → ((u : ℕ) (us : List ℕ) (held : List Holding) (t : Taken) (e : Errand) (r : Reply) → J (u ∷ us) held t → ReturnsIf P mode Q held (f (Stopped t e r)))
      → (us : List ℕ) (held : List Holding) (t : Taken) → J us held t → ReturnsIf P mode Q held (bind (run (taking_until keep) (map asked (map place us)) t) f)
  returns-until keep place J f kept on off [] held t j = on held t j
  returns-until keep place J f kept on off (u ∷ us) held t j = λ r fit.
      subst (λ held. ReturnsIf P mode Q held
      (bind (go_on (option_map (λ grant. with_grant keep t (place u) (Some grant)) (grant_of r)) (λ b. run (taking_until keep) (map asked (map place us)) b) (Ends (Stopped t (asked (place u)) r))) f))
      (sym (same held (place u) r))
      (until-step (slot_on row (place u)) held keep t (place u) (λ b. run (taking_until keep) (map asked (map place us)) b) (Ends (Stopped t (asked (place u)) r)) f (grant_of r)
      (λ grant. returns-until keep place J f kept on off us (shared m (slot_on row (place u)) (Some grant) held) (with_grant keep t (place u) (Some grant)) (kept u us held t grant j))
      (off u us held t (asked (place u)) r j))
