-- Rebuilds and recoveries give back what they hold.
use Rattle.std.proofs.Common.{◌≡◌, ◌⊎◌, inl, inr, refl, sym, ap, subst, ℕ, ◌==◌, not, Bool, true, false, cond, List, [], ◌∷◌, ◌++◌, Option, Some, None, IfSome, option_map, map, zip, filter, is_some, unwrap_or, Result, Ok, Err}
use Rattle.std.specs.List.{AllByRecursion}
use Rattle.std.proofs.lemmas.Bool.{eq-eqb, eqb-true}
use Rattle.raid_base.specs.declared.numbers.BayNo.{BayNo}
use Rattle.raid_base.specs.declared.numbers.RowNo.{RowNo}
use Rattle.raid_base.specs.declared.numbers.Number.{Number}
use Rattle.raid_base.specs.declared.numbers.Spent.{Spent}
use Rattle.raid_base.specs.declared.messages.Mode.{Mode}
use Rattle.raid_base.specs.declared.messages.Mode.TheVariants.{Lock}
use Rattle.raid_base.specs.declared.messages.Request.TheVariants.{Claim}
use Rattle.raid_base.specs.declared.messages.How.TheVariants.{Mend, Seize}
use Rattle.raid_base.specs.declared.messages.Reply.{Reply}
use Rattle.raid_base.specs.declared.messages.Errand.{Errand}
use Rattle.raid_base.specs.declared.messages.Grant.{Grant}
use Rattle.raid_base.specs.declared.messages.PutEnd.{PutEnd}
use Rattle.raid_base.specs.declared.jobs.Cause.{Cause}
use Rattle.raid_base.specs.declared.jobs.Cause.TheVariants as causes
use Rattle.raid_base.specs.declared.jobs.Ended.{Ended}
use Rattle.raid_base.specs.declared.jobs.Ended.TheVariants as ends
use Rattle.raid_base.specs.Replies.{grant_of, is_held, is_done, put_end}
use Rattle.raid_base.specs.Steps.{Steps, Ends, ◌>>=◌, bind, go_on, Through, Stopped, run}
use Rattle.stripe_layout.specs.Placement.{parity_bay, bay_of, bays_of, units, row_bays, parity_first}
use Rattle.attempts.specs.declared.Repair.{Repair}
use Rattle.attempts.specs.declared.Rescue.{Rescue}
use Rattle.attempts.specs.declared.Hold.{Hold}
use Rattle.attempts.specs.Taking.{Finish, refused_by_quit, Row, Taken, no_rows, begun, refusal, why, with_grant, with_parity, with_wanted, claim, claims}
use Rattle.attempts.specs.Releases.{end_as, released_steps, refused_steps, granted_of, parity_granted}
use Rattle.attempts.specs.Puts.{put}
use Rattle.attempts.specs.Mending.{is_at, is_bare, with_hold, good_grant, mending, mend_why, is_held_at, mend_releases, without_target, is_shown, mended_cell, mend_putting, put_cause, mend_put, mend_numbered, mend_drawn, mend_confirmed, mend_confirming, mend_claimed, mend_steps}
use Rattle.attempts.specs.Recovery.{whole_part, is_seized, unseized, unseized_data, unseized_parity, granted_data, give_back, recover_refused, Verdict, Leaves, Sums, verdict, recovered_parity, recover_putting, recover_put, recover_by, recover_drawn, recover_confirmed, stays, recover_confirming, units_seized, seize_units, parity_taken, parity_seized, recover_steps}
use Rattle.attempts.specs.Phases.{Slot, IsIn, is_slot}
use Rattle.attempts.specs.Returns.{Holding, without_slot, claimed, mark_failed, after_put, HoldsNothing, MendsReturn, HasRecovered, RecoveriesReturn}
use Rattle.attempts.proofs.PhaseLemmas.{all-weaken, are-releases, slot_on}
use Rattle.attempts.proofs.ReturnLemmas.{in-left, in-right, in-either, in-filter, in-map, Among, among-append, among-map, same-slot, without-slot, mark-failed, slots-kept, IsFreed, freed-bays, StillHeld, nothing-held, put-replies, Walked, walked-more, granted-more, granted-new, returns-go, gives-all-back, returns-confirm, ReturnsIf, Any, returns-all, returns-one, returns-units}

-- Rebuilds
-- the slots of one more hold
held-new : (holds : List Hold) (bay : BayNo) (grant : Grant) → is_held_at (holds ++ record { bay = bay; grant = grant } ∷ []) bay ≡ true
held-new [] bay grant = one (is_at bay bay) (eq-eqb bay.0 bay.0 refl) where
  one : (b : Bool) → b ≡ true → cond b true false ≡ true
  one true same = refl
  one false same = same
held-new (hold ∷ holds) bay grant = one (is_at hold.bay bay) (held-new holds bay grant) where
  one : (b : Bool) → is_held_at (holds ++ record { bay = bay; grant = grant } ∷ []) bay ≡ true → cond b true (is_held_at (holds ++ record { bay = bay; grant = grant } ∷ []) bay) ≡ true
  one true rest = refl
  one false rest = rest

held-more : (holds : List Hold) (hold : Hold) (bay : BayNo) → is_held_at holds bay ≡ true → is_held_at (holds ++ hold ∷ []) bay ≡ true
held-more [] hold bay same = absurd (cc)
held-more (other ∷ holds) hold bay same = one (is_at other.bay bay) (held-more holds hold bay) same where
  one : (b : Bool) → (is_held_at holds bay ≡ true → is_held_at (holds ++ hold ∷ []) bay ≡ true) → cond b true (is_held_at holds bay) ≡ true
      → cond b true (is_held_at (holds ++ hold ∷ []) bay) ≡ true
  one true rest same = refl
  one false rest same = rest same

abbrev bay_numbered : ℕ → BayNo
bay_numbered k = record { 0 = k }

-- and those of another bay than the target
held-without : (m : Repair) (holds : List Hold) (bay : BayNo) → (m.target ≡ bay → ⊥) → is_held_at holds bay ≡ true → is_held_at (without_target m holds) bay ≡ true
held-without m [] bay other same = same
held-without m (hold ∷ holds) bay other same = one (is_at hold.bay bay) (is_at hold.bay m.target) refl refl (held-without m holds bay other) same where
  one : (b t : Bool) → is_at hold.bay bay ≡ b → is_at hold.bay m.target ≡ t → (is_held_at holds bay ≡ true → is_held_at (without_target m holds) bay ≡ true)
      → cond b true (is_held_at holds bay) ≡ true → is_held_at (cond (not t) (hold ∷ without_target m holds) (without_target m holds)) bay ≡ true
  one true true here there rest same =
      let x : hold.bay.0 ≡ bay.0 = eqb-true hold.bay.0 bay.0 here in
      let y : hold.bay.0 ≡ m.target.0 = eqb-true hold.bay.0 m.target.0 there in
      let z : m.target.0 ≡ bay.0 = cc in
      absurd (other (ap bay_numbered z))
  one true false here there rest same = subst (λ b. cond b true (is_held_at (without_target m holds) bay) ≡ true) (sym here) refl
  one false true here there rest same = rest same
  one false false here there rest same = subst (λ b. cond b true (is_held_at (without_target m holds) bay) ≡ true) (sym here) (rest same)

module _ (m : Repair) (mode : Mode) where
  abbrev Mends : List Holding → Steps Finish → Type 0
  Mends held s = ReturnsIf Any mode HoldsNothing held s

  -- one of the row's slots that are held
  record Owned (holds : List Hold) (slot : Slot) : Type 0 where
    row : slot.row ≡ m.row
    place : IsIn slot.bay (row_bays m.n m.row)
    held : is_held_at holds slot.bay ≡ true

  abbrev AllOwned : List Hold → List Holding → Type 0
  AllOwned holds held = AllByRecursion (λ (h : Holding). Owned holds h.slot) held

  mend-releases : (holds : List Hold) (ended : Ended) (held : List Holding) → AllOwned holds held → Mends held (released_steps (mend_releases m holds) ended)
  mend-releases holds ended held all =
      gives-all-back Any mode HoldsNothing m.id (λ h. ⊥) (λ u e r. u) refused_by_quit (λ _ _. []) (end_as ended) (λ held u none. nothing-held held none)
      (mend_releases m holds) held tt (are-releases m.id m.row None (filter (is_held_at holds) (row_bays m.n m.row)))
      (all-weaken (λ (h : Holding). Owned holds h.slot) (λ (h : Holding). ⊥ ⊎ IsFreed (mend_releases m holds) h.slot) freed held all) where
        freed : (h : Holding) → Owned holds h.slot → ⊥ ⊎ IsFreed (mend_releases m holds) h.slot
        freed h own =
            inr (subst (λ (row : RowNo). IsFreed (mend_releases m holds) (slot_on row h.slot.bay)) (sym own.row)
            (freed-bays m.id m.row None h.slot.bay (filter (is_held_at holds) (row_bays m.n m.row))
            (in-filter h.slot.bay (is_held_at holds) (row_bays m.n m.row) own.place own.held)))

  put-returns : (holds : List Hold) (held : List Holding) (n : Number) → AllOwned holds held → (r : Reply)
      → Mends (after_put (slot_on m.row m.target) (put_end r) held)
      (bind (go_on (cond (is_done r) (Some tt) None) (λ b. run mend_putting [] b) (Ends (Stopped tt (put m.id m.row n (mended_cell m holds) m.target) r))) (mend_put m holds))
  put-returns holds held n all r = put-replies P made (λ life. unnoted) failed r where
    P : Bool → PutEnd → Type 0
    P b end =
        Mends (after_put (slot_on m.row m.target) end held)
        (bind (go_on (cond b (Some tt) None) (λ b. run mend_putting [] b) (Ends (Stopped tt (put m.id m.row n (mended_cell m holds) m.target) r))) (mend_put m holds))

    made : Mends (without_slot (slot_on m.row m.target) held) (released_steps (mend_releases m (without_target m holds)) ends.Mended)
    made =
        mend-releases (without_target m holds) ends.Mended (without_slot (slot_on m.row m.target) held)
        (without-slot (λ (h : Holding). Owned holds h.slot) (λ (h : Holding). Owned (without_target m holds) h.slot) (slot_on m.row m.target) each held all) where
          each : (h : Holding) → (slot_on m.row m.target ≡ h.slot → ⊥) → Owned holds h.slot → Owned (without_target m holds) h.slot
          each h other own = record {
            row = own.row;
            place = own.place;
            held = held-without m holds h.slot.bay
                (λ same. other (subst (λ (row : RowNo). slot_on m.row m.target ≡ slot_on row h.slot.bay) (sym own.row) (ap (slot_on m.row) same))) own.held;
          }

    unnoted : Mends (without_slot (slot_on m.row m.target) held) (refused_steps (mend_releases m holds) (put_cause m.row (put m.id m.row n (mended_cell m holds) m.target) r))
    unnoted =
        mend-releases holds (ends.Refused (put_cause m.row (put m.id m.row n (mended_cell m holds) m.target) r)) (without_slot (slot_on m.row m.target) held)
        (without-slot (λ (h : Holding). Owned holds h.slot) (λ (h : Holding). Owned holds h.slot) (slot_on m.row m.target) (λ h other own. own) held all)

    failed : Mends (map (mark_failed (slot_on m.row m.target)) held) (refused_steps (mend_releases m holds) (put_cause m.row (put m.id m.row n (mended_cell m holds) m.target) r))
    failed =
        mend-releases holds (ends.Refused (put_cause m.row (put m.id m.row n (mended_cell m holds) m.target) r)) (map (mark_failed (slot_on m.row m.target)) held)
        (slots-kept (Owned holds) (slot_on m.row m.target) held all)

  numbered-returns : (holds : List Hold) (held : List Holding) (n : Number) → AllOwned holds held → (b : Bool) → Mends held (mend_numbered m holds n b)
  numbered-returns holds held n all true = mend-releases holds ends.Mended held all
  numbered-returns holds held n all false = λ r fit. put-returns holds held n all r

  drawn-returns : (holds : List Hold) (held : List Holding) → AllOwned holds held → (d : Result Number Spent) → Mends held (mend_drawn m holds d)
  drawn-returns holds held all (Err spent) = mend-releases holds (ends.Refused (causes.Spent spent.seen)) held all
  drawn-returns holds held all (Ok n) = numbered-returns holds held n all (is_shown m.target holds)

  claimed-returns : (holds : List Hold) (held : List Holding) → AllOwned holds held → Mends held (mend_claimed m (Through holds))
  claimed-returns holds held all =
      returns-confirm Any mode HoldsNothing mend_confirming (mend_confirmed m holds) (parity_bay m.n m.row) m.row m.id false held tt
      (λ r. given (is_held r))
      (λ e r. mend-releases holds (ends.Refused (mend_why e r (causes.Changed m.row))) held all) where
        given : (b : Bool) → IfSome (cond b (Some tt) None) (λ (u : Unit {0}). Mends held (mend_confirmed m holds (Through u)))
        given true = λ d. drawn-returns holds held all d
        given false = tt

  owned-more : (holds : List Hold) (held : List Holding) (bay : BayNo) (grant : Grant) → IsIn bay (row_bays m.n m.row) → AllOwned holds held
      → AllOwned (holds ++ record { bay = bay; grant = grant } ∷ []) (claimed (slot_on m.row bay) (Some grant) held)
  owned-more holds held bay grant place all = (
    record { row = refl; place = place; held = held-new holds bay grant },
    all-weaken (λ (h : Holding). Owned holds h.slot) (λ (h : Holding). Owned (holds ++ record { bay = bay; grant = grant } ∷ []) h.slot)
        (λ h own. record { row = own.row; place = own.place; held = held-more holds (record { bay = bay; grant = grant }) h.slot.bay own.held }) held all,
  )

  abbrev goes-on : List BayNo → List Hold → Steps Finish
  goes-on bays holds = bind (run (mending m) (claims m.id m.row Mend true bays) holds) (mend_claimed m)

  claim-on : (bay : BayNo) (bays : List BayNo) (holds : List Hold) (held : List Holding) → IsIn bay (row_bays m.n m.row) → AllOwned holds held
      → ((holds : List Hold) (held : List Holding) → AllOwned holds held → Mends held (goes-on bays holds)) → (o : Option Grant)
      → IfSome (option_map (λ (hold : Hold). holds ++ hold ∷ []) (good_grant m bay o)) (λ holds. Mends (claimed (slot_on m.row bay) o held) (goes-on bays holds))
  claim-on bay bays holds held place all next None = tt
  claim-on bay bays holds held place all next (Some grant) = one (is_bare m bay grant) where
    one : (b : Bool) → IfSome (option_map (λ (hold : Hold). holds ++ hold ∷ []) (cond b None (Some (record { bay = bay; grant = grant }))))
        (λ holds. Mends (claimed (slot_on m.row bay) (Some grant) held) (goes-on bays holds))
    one true = tt
    one false = next (holds ++ record { bay = bay; grant = grant } ∷ []) (claimed (slot_on m.row bay) (Some grant) held) (owned-more holds held bay grant place all)

  claim-off : (bay : BayNo) (holds : List Hold) (held : List Holding) (cause : Cause) → IsIn bay (row_bays m.n m.row) → AllOwned holds held → (o : Option Grant)
      → Mends (claimed (slot_on m.row bay) o held) (refused_steps (mend_releases m (with_hold holds bay o)) cause)
  claim-off bay holds held cause place all None = mend-releases holds (ends.Refused cause) held all
  claim-off bay holds held cause place all (Some grant) =
      mend-releases (holds ++ record { bay = bay; grant = grant } ∷ []) (ends.Refused cause) (claimed (slot_on m.row bay) (Some grant) held) (owned-more holds held bay grant place all)

  claims-return : (bays : List BayNo) → Among bays (row_bays m.n m.row) → (holds : List Hold) (held : List Holding) → AllOwned holds held → Mends held (goes-on bays holds)
  claims-return [] among holds held all = claimed-returns holds held all
  claims-return (bay ∷ bays) among holds held all = λ r fit.
      returns-go Any mode HoldsNothing (claimed (slot_on m.row bay) (grant_of r) held) (option_map (λ (hold : Hold). holds ++ hold ∷ []) (good_grant m bay (grant_of r)))
      (λ b. run (mending m) (claims m.id m.row Mend true bays) b) (Ends (Stopped holds (claim m.id m.row Mend 0 true bay) r)) (mend_claimed m)
      (claim-on bay bays holds held (among bay (inl refl)) all (λ holds held all. claims-return bays (λ x i. among x (inr i)) holds held all) (grant_of r))
      (claim-off bay holds held (mend_why (claim m.id m.row Mend 0 true bay) r (causes.Gone bay)) (among bay (inl refl)) all (grant_of r))

  all-places : Among (parity_first m.n m.row) (row_bays m.n m.row)
  all-places bay (inl same) = in-right bay (bays_of m.n m.row (units m.n)) (parity_bay m.n m.row ∷ []) (inl same)
  all-places bay (inr i) = in-left bay (bays_of m.n m.row (units m.n)) (parity_bay m.n m.row ∷ []) i

pub rebuilds_return : MendsReturn
rebuilds_return m mode = returns-all mode HoldsNothing [] (mend_steps m) (claims-return m mode (parity_first m.n m.row) (all-places m mode) [] [] tt)

-- Recoveries
-- the units that were granted and not seized
unseized-more : (us : List ℕ) (os : List (Option Grant)) (o : Option Grant) → Among (unseized (zip us os)) (unseized (zip us (os ++ o ∷ [])))
unseized-more [] os o x i = absurd i
unseized-more (u ∷ us) [] o x i = absurd i
unseized-more (u ∷ us) (None ∷ os) o x i = unseized-more us os o x i
unseized-more (u ∷ us) (Some grant ∷ os) o x i = one (is_seized grant) (unseized-more us os o x) i where
  one : (b : Bool) → (IsIn x (unseized (zip us os)) → IsIn x (unseized (zip us (os ++ o ∷ [])))) → IsIn x (cond b (unseized (zip us os)) (u ∷ unseized (zip us os)))
      → IsIn x (cond b (unseized (zip us (os ++ o ∷ []))) (u ∷ unseized (zip us (os ++ o ∷ []))))
  one true rest i = rest i
  one false rest (inl same) = inl same
  one false rest (inr i) = inr (rest i)

unseized-new : (us : List ℕ) (os : List (Option Grant)) (grant : Grant) (u : ℕ) (left : List ℕ) → Walked us os (u ∷ left) → is_seized grant ≡ false
    → IsIn u (unseized (zip us (os ++ Some grant ∷ [])))
unseized-new [] [] grant u left w own = absurd (cc)
unseized-new [] (x ∷ os) grant u left w own = absurd w
unseized-new (v ∷ us) [] grant u left w own = subst (λ b. IsIn u (cond b (unseized (zip us [])) (v ∷ unseized (zip us [])))) (sym own) (inl (cc))
unseized-new (v ∷ us) (None ∷ os) grant u left w own = unseized-new us os grant u left w own
unseized-new (v ∷ us) (Some x ∷ os) grant u left w own = one (is_seized x) (unseized-new us os grant u left w own) where
  one : (b : Bool) → IsIn u (unseized (zip us (os ++ Some grant ∷ []))) → IsIn u (cond b (unseized (zip us (os ++ Some grant ∷ []))) (v ∷ unseized (zip us (os ++ Some grant ∷ []))))
  one true rest = rest
  one false rest = inr rest

-- why a refused recovery may still hold a slot
abbrev MayKeep : Holding → Type 0
MayKeep h = (h.seized ≡ true) ⊎ (h.failed ≡ true)

module _ (r : Rescue) (mode : Mode) where
  abbrev Recovers : List Holding → Steps Finish → Type 0
  Recovers held s = ReturnsIf Any mode HasRecovered held s

  abbrev parity : BayNo
  parity = parity_bay r.n r.row

  abbrev granted : Row → List BayNo
  granted row = granted_data r row ++ parity_granted r.n r.row row.parity

  abbrev not_seized : Row → List BayNo
  not_seized row = unseized_data r row ++ unseized_parity r row.parity

  -- a slot of the row, that was seized or not
  record Has (row : Row) (h : Holding) : Type 0 where
    on_row : h.slot.row ≡ r.row
    given : IsIn h.slot.bay (granted row)
    seized : (h.seized ≡ true) ⊎ IsIn h.slot.bay (not_seized row)

  abbrev AllHas : Row → List Holding → Type 0
  AllHas row held = AllByRecursion (Has row) held

  freed : (h : Holding) (bays : List BayNo) → h.slot.row ≡ r.row → IsIn h.slot.bay bays → IsFreed (give_back r bays) h.slot
  freed h bays same i = subst (λ (row : RowNo). IsFreed (give_back r bays) (slot_on row h.slot.bay)) (sym same) (freed-bays r.id r.row None h.slot.bay bays i)

  -- refused
  refuses : (bays : List BayNo) (cause : Cause) (held : List Holding) → StillHeld MayKeep (give_back r bays) held → Recovers held (refused_steps (give_back r bays) cause)
  refuses bays cause held still =
      gives-all-back Any mode HasRecovered r.id MayKeep (λ u e r. u) refused_by_quit (λ _ _. []) (end_as (ends.Refused cause)) (λ held u all. all)
      (give_back r bays) held tt (are-releases r.id r.row None bays) still

  recover-refuses : (row : Row) (cause : Cause) (held : List Holding) → AllHas row held → Recovers held (recover_refused r row cause)
  recover-refuses row cause held all =
      refuses (not_seized row) cause held
      (all-weaken (Has row) (λ (h : Holding). MayKeep h ⊎ IsFreed (give_back r (not_seized row)) h.slot) each held all) where
        each : (h : Holding) → Has row h → MayKeep h ⊎ IsFreed (give_back r (not_seized row)) h.slot
        each h has = elim has.seized [
          | inl seized ↦ inl (inl seized)
          | inr i ↦ inr (freed h (not_seized row) has.on_row i)
        ]

  -- done
  recovered-returns : (stop : Unit {0} → Ended) (bays : List BayNo) (n : Number) (lost : Option ℕ) (held : List Holding)
      → AllByRecursion (λ (h : Holding). ⊥ ⊎ IsFreed (give_back r bays) h.slot) held
      → Recovers held (run (record { step = λ u e r. Some u; stop = stop; commits = λ _ _. [] }) (give_back r bays) tt >>= end_as (ends.Recovered n true lost))
  recovered-returns stop bays n lost held all =
      gives-all-back Any mode HasRecovered r.id (λ h. ⊥) (λ u e r. u) stop (λ _ _. []) (end_as (ends.Recovered n true lost)) (λ held u none. nothing-held held none)
      (give_back r bays) held tt (are-releases r.id r.row None bays) all

  -- the put of the parity
  parity-unseized : (o : Option Grant) (bay : BayNo) → IsIn bay (unseized_parity r o) → parity ≡ bay
  parity-unseized None bay i = absurd i
  parity-unseized (Some grant) bay i = one (is_seized grant) i where
    one : (b : Bool) → IsIn bay (cond b [] (parity ∷ [])) → parity ≡ bay
    one true i = absurd i
    one false (inl same) = same
    one false (inr i) = absurd i

  parity-given : (o : Option Grant) (bay : BayNo) → IsIn bay (parity_granted r.n r.row o) → parity ≡ bay
  parity-given None bay i = absurd i
  parity-given (Some grant) bay (inl same) = same
  parity-given (Some grant) bay (inr i) = absurd i

  parity-slot : (h : Holding) → h.slot.row ≡ r.row → parity ≡ h.slot.bay → slot_on r.row parity ≡ h.slot
  parity-slot h same bay = subst (λ (row : RowNo). slot_on r.row parity ≡ slot_on row h.slot.bay) (sym same) (ap (slot_on r.row) bay)

  -- what is left beside the parity
  beside : (row : Row) (h : Holding) → (slot_on r.row parity ≡ h.slot → ⊥) → Has row h → (h.seized ≡ true) ⊎ IsFreed (give_back r (unseized_data r row)) h.slot
  beside row h other has = elim has.seized [
    | inl seized ↦ inl seized
    | inr i ↦ elim (in-either h.slot.bay (unseized_data r row) (unseized_parity r row.parity) i) [
      | inl j ↦ inr (freed h (unseized_data r row) has.on_row j)
      | inr j ↦ absurd (other (parity-slot h has.on_row (parity-unseized row.parity h.slot.bay j)))
    ]
  ]

  given-beside : (row : Row) (h : Holding) → (slot_on r.row parity ≡ h.slot → ⊥) → Has row h → ⊥ ⊎ IsFreed (give_back r (granted_data r row)) h.slot
  given-beside row h other has = elim (in-either h.slot.bay (granted_data r row) (parity_granted r.n r.row row.parity) has.given) [
    | inl j ↦ inr (freed h (granted_data r row) has.on_row j)
    | inr j ↦ absurd (other (parity-slot h has.on_row (parity-given row.parity h.slot.bay j)))
  ]

  module _ (row : Row) (n : Number) (lost : Option ℕ) (held : List Holding) (all : AllHas row held) where
    abbrev the_put : Errand
    the_put = put r.id r.row n (recovered_parity row lost) parity

    made : Recovers (without_slot (slot_on r.row parity) held) (recover_put r row n lost (Through tt))
    made =
        recovered-returns (λ _. ends.Recovered n false lost) (granted_data r row) n lost (without_slot (slot_on r.row parity) held)
        (without-slot (Has row) (λ (h : Holding). ⊥ ⊎ IsFreed (give_back r (granted_data r row)) h.slot) (slot_on r.row parity) (given-beside row) held all)

    unnoted : (reply : Reply) → Recovers (without_slot (slot_on r.row parity) held) (recover_put r row n lost (Stopped tt the_put reply))
    unnoted reply =
        refuses (unseized_data r row) (put_cause r.row the_put reply) (without_slot (slot_on r.row parity) held)
        (without-slot (Has row) (λ (h : Holding). MayKeep h ⊎ IsFreed (give_back r (unseized_data r row)) h.slot) (slot_on r.row parity) each held all) where
          each : (h : Holding) → (slot_on r.row parity ≡ h.slot → ⊥) → Has row h → MayKeep h ⊎ IsFreed (give_back r (unseized_data r row)) h.slot
          each h other has = elim (beside row h other has) [
            | inl seized ↦ inl (inl seized)
            | inr i ↦ inr i
          ]

    failed : (reply : Reply) → Recovers (map (mark_failed (slot_on r.row parity)) held) (recover_put r row n lost (Stopped tt the_put reply))
    failed reply =
        refuses (unseized_data r row) (put_cause r.row the_put reply) (map (mark_failed (slot_on r.row parity)) held)
        (mark-failed (Has row) (λ (h : Holding). MayKeep h ⊎ IsFreed (give_back r (unseized_data r row)) h.slot) (slot_on r.row parity)
        (λ h has. each h has (is_slot h.slot (slot_on r.row parity)) refl) held all) where
          each : (h : Holding) → Has row h → (b : Bool) → is_slot h.slot (slot_on r.row parity) ≡ b
              → MayKeep (cond b (record h { failed = true }) h) ⊎ IsFreed (give_back r (unseized_data r row)) (cond b (record h { failed = true }) h).slot
          each h has true same = inl (inr refl)
          each h has false different =
              elim (beside row h (λ same. absurd (let e : is_slot h.slot (slot_on r.row parity) ≡ true = same-slot (slot_on r.row parity) h.slot same in cc)) has) [
                | inl seized ↦ inl (inl seized)
                | inr i ↦ inr i
              ]

    sums-returns : Recovers held (recover_by r row n (Sums lost))
    sums-returns = λ reply fit. put-replies (P reply) made (λ life. unnoted reply) (failed reply) reply where
      P : Reply → Bool → PutEnd → Type 0
      P reply b end =
          Recovers (after_put (slot_on r.row parity) end held)
          (bind (go_on (cond b (Some tt) None) (λ b. run (recover_putting r lost) [] b) (Ends (Stopped tt the_put reply))) (recover_put r row n lost))

  by-returns : (row : Row) (n : Number) (held : List Holding) → AllHas row held → (v : Verdict) → Recovers held (recover_by r row n v)
  by-returns row n held all (Sums lost) = sums-returns row n lost held all
  by-returns row n held all Leaves =
      recovered-returns refused_by_quit (granted row) n None held
      (all-weaken (Has row) (λ (h : Holding). ⊥ ⊎ IsFreed (give_back r (granted row)) h.slot) (λ h has. inr (freed h (granted row) has.on_row has.given)) held all)

  recover-drawn : (row : Row) (held : List Holding) → AllHas row held → (d : Result Number Spent) → Recovers held (recover_drawn r row d)
  recover-drawn row held all (Err spent) = recover-refuses row (causes.Spent spent.seen) held all
  recover-drawn row held all (Ok n) = by-returns row n held all (verdict r row)

  -- what is held while the units are claimed
  record Seizing (us : List ℕ) (held : List Holding) (taken : Taken) : Type 0 where
    walked : Walked (units r.n) taken.row.wanted us
    all : AllHas taken.row held

  confirm-returns : (held : List Holding) (taken : Taken) → Seizing [] held taken → Recovers held (units_seized r (Through taken))
  confirm-returns held taken j =
      returns-confirm Any mode HasRecovered (recover_confirming taken) (recover_confirmed r taken) parity r.row r.id false held tt
      (λ reply. given (stays taken parity reply))
      (λ e reply. recover-refuses taken.row (unwrap_or (refusal None taken.missing e.bay reply) (causes.Changed r.row)) held j.all) where
        given : (b : Bool) → IfSome (cond b (Some tt) None) (λ (u : Unit {0}). Recovers held (recover_confirmed r taken (Through u)))
        given true = λ d. recover-drawn taken.row held j.all d
        given false = tt

  -- one more unit
  has-more : (row : Row) (o : Option Grant) (h : Holding) → Has row h → Has (with_wanted o row) h
  has-more row o h has = record {
    on_row = has.on_row;
    given =
        among-append (granted_data r row) (parity_granted r.n r.row row.parity) (granted_data r (with_wanted o row)) (parity_granted r.n r.row row.parity)
        (among-map (bay_of r.n r.row) (granted_of (zip (units r.n) row.wanted)) (granted_of (zip (units r.n) (row.wanted ++ o ∷ []))) (granted-more (units r.n) row.wanted o))
        (λ x i. i) h.slot.bay has.given;
    seized = elim has.seized [
      | inl seized ↦ inl seized
      | inr i ↦ inr (among-append (unseized_data r row) (unseized_parity r row.parity) (unseized_data r (with_wanted o row)) (unseized_parity r row.parity)
          (among-map (bay_of r.n r.row) (unseized (zip (units r.n) row.wanted)) (unseized (zip (units r.n) (row.wanted ++ o ∷ []))) (unseized-more (units r.n) row.wanted o))
          (λ x i. i) h.slot.bay i)
    ];
  }

  has-unit : (row : Row) (grant : Grant) (u : ℕ) (us : List ℕ) → Walked (units r.n) row.wanted (u ∷ us)
      → Has (with_wanted (Some grant) row) (record { slot = slot_on r.row (bay_of r.n r.row u); seized = is_some grant.seized; failed = false })
  has-unit row grant u us walked = record {
    on_row = refl;
    given =
        in-left (bay_of r.n r.row u) (granted_data r (with_wanted (Some grant) row)) (parity_granted r.n r.row row.parity)
        (in-map (bay_of r.n r.row) u (granted_of (zip (units r.n) (row.wanted ++ Some grant ∷ []))) (granted-new (units r.n) row.wanted grant u us walked));
    seized = one (is_some grant.seized) refl;
  } where
    one : (b : Bool) → is_some grant.seized ≡ b → (b ≡ true) ⊎ IsIn (bay_of r.n r.row u) (not_seized (with_wanted (Some grant) row))
    one true same = inl refl
    one false same =
        inr (in-left (bay_of r.n r.row u) (unseized_data r (with_wanted (Some grant) row)) (unseized_parity r row.parity)
        (in-map (bay_of r.n r.row) u (unseized (zip (units r.n) (row.wanted ++ Some grant ∷ []))) (unseized-new (units r.n) row.wanted grant u us walked same)))

  unit-seized : (u : ℕ) (us : List ℕ) (held : List Holding) (taken : Taken) (o : Option Grant) → Seizing (u ∷ us) held taken
      → Seizing us (claimed (slot_on r.row (bay_of r.n r.row u)) o held) (with_grant with_wanted taken (bay_of r.n r.row u) o)
  unit-seized u us held taken None j = record {
    walked = walked-more (units r.n) taken.row.wanted None u us j.walked;
    all = all-weaken (Has taken.row) (Has (with_wanted None taken.row)) (has-more taken.row None) held j.all;
  }
  unit-seized u us held taken (Some grant) j = record {
    walked = walked-more (units r.n) taken.row.wanted (Some grant) u us j.walked;
    all = (has-unit taken.row grant u us j.walked, all-weaken (Has taken.row) (Has (with_wanted (Some grant) taken.row)) (has-more taken.row (Some grant)) held j.all);
  }

  seize-returns : (held : List Holding) (taken : Taken) → Seizing (units r.n) held taken → Recovers held (seize_units r taken)
  seize-returns held taken j =
      returns-units Any mode HasRecovered Lock r.row (Claim r.row r.id Seize 0 true) (λ held bay reply. refl) None with_wanted (bay_of r.n r.row) Seizing (units_seized r)
      unit-seized confirm-returns
      (λ u us held taken e reply j. recover-refuses taken.row (why None taken e reply) held j.all)
      (units r.n) held taken j

  parity-returns : (held : List Holding) (taken : Taken) → Seizing (units r.n) held taken → (o : Option Grant) → Recovers held (parity_taken r taken o)
  parity-returns held taken j (Some grant) = seize-returns held taken j
  parity-returns held taken j None = one (r.host.0 == 0) where
    one : (b : Bool) → Recovers held (cond b (seize_units r taken) (recover_refused r taken.row (causes.Gone parity)))
    one true = seize-returns held taken j
    one false = recover-refuses taken.row (causes.Gone parity) held j.all

  abbrev first_taken : Taken
  first_taken = begun (whole_part r) no_rows

  first-has : (grant : Grant) → Has (with_parity (Some grant) first_taken.row) (record { slot = slot_on r.row parity; seized = is_some grant.seized; failed = false })
  first-has grant = record {
    on_row = refl;
    given = in-right parity (granted_data r first_taken.row) (parity ∷ []) (inl refl);
    seized = one (is_some grant.seized);
  } where
    one : (b : Bool) → (b ≡ true) ⊎ IsIn parity (unseized_data r first_taken.row ++ cond b [] (parity ∷ []))
    one true = inl refl
    one false = inr (in-right parity (unseized_data r first_taken.row) (parity ∷ []) (inl refl))

  recovers-return : Recovers [] (recover_steps r)
  recovers-return =
      returns-one Any mode HasRecovered Lock r.row (Claim r.row r.id Seize 0 true) (λ held bay reply. refl) None with_parity (parity_seized r) parity [] first_taken given
      (λ e reply. recover-refuses first_taken.row (why None first_taken e reply) [] tt) where
        given : (o : Option Grant) → Recovers (claimed (slot_on r.row parity) o []) (parity_seized r (Through (with_grant with_parity first_taken parity o)))
        given None = parity-returns [] (with_grant with_parity first_taken parity None) (record { walked = refl; all = tt }) None
        given (Some grant) =
            parity-returns (claimed (slot_on r.row parity) (Some grant) []) (with_grant with_parity first_taken parity (Some grant))
            (record { walked = refl; all = (first-has grant, tt) }) (Some grant)

pub recoveries_return : RecoveriesReturn
recoveries_return r mode = returns-all mode HasRecovered [] (recover_steps r) (recovers-return r mode)
