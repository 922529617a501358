-- Rebuilds and recoveries keep the order.
use Rattle.std.proofs.Common.{◌≡◌, ◌⊎◌, inl, inr, refl, sym, ap, subst, ◌∙◌, ℕ, zero, suc, ◌+◌, ◌-◌, ◌<◌, ◌≤◌, ◌==◌, Bool, true, false, cond, List, [], ◌∷◌, ◌++◌, Option, Some, None, IfSome, is_some, option_map, map, zip, length, Result, Ok, Err, arith}
use Rattle.std.specs.List.{AllByRecursion, range_with_len}
use Rattle.std.proofs.lemmas.Bool.{cases_eq}
use Rattle.raid_base.specs.declared.numbers.BayNo.{BayNo}
use Rattle.raid_base.specs.declared.numbers.RowNo.{RowNo}
use Rattle.raid_base.specs.declared.numbers.Number.{Number}
use Rattle.raid_base.specs.declared.numbers.Spent.{Spent}
use Rattle.raid_base.specs.declared.messages.How.TheVariants.{Mend, Seize}
use Rattle.raid_base.specs.declared.messages.Reply.{Reply}
use Rattle.raid_base.specs.declared.messages.Errand.{Errand}
use Rattle.raid_base.specs.declared.messages.Grant.{Grant}
use Rattle.raid_base.specs.declared.jobs.Cause.{Cause}
use Rattle.raid_base.specs.declared.jobs.Cause.TheVariants as causes
use Rattle.raid_base.specs.declared.jobs.Ended.{Ended}
use Rattle.raid_base.specs.declared.jobs.Ended.TheVariants as ends
use Rattle.raid_base.specs.Replies.{grant_of, is_held, is_missing, is_done}
use Rattle.raid_base.specs.Steps.{Steps, ◌>>=◌, Walk, Through, Stopped, run}
use Rattle.stripe_layout.specs.Placement.{parity_bay, bay_of, units, parity_first}
use Rattle.stripe_layout.proofs.LayoutLemmas.{covered}
use Rattle.attempts.specs.declared.Repair.{Repair}
use Rattle.attempts.specs.declared.Rescue.{Rescue}
use Rattle.attempts.specs.declared.Hold.{Hold}
use Rattle.attempts.specs.Taking.{Finish, Row, Taken, no_rows, begun, refusal, why, with_grant, with_parity, with_wanted, unless, taking, claim, claims, confirm}
use Rattle.attempts.specs.Releases.{releases, releasing, end_as, released_steps, refused_steps, parity_granted}
use Rattle.attempts.specs.Puts.{put}
use Rattle.attempts.specs.Mending.{is_bare, with_hold, good_grant, mending, mend_why, mend_releases, without_target, is_shown, mended_cell, mend_putting, put_cause, mend_put, mend_numbered, mend_drawn, mend_confirmed, mend_confirming, mend_claimed}
use Rattle.attempts.specs.Recovery.{whole_part, unseized_data, unseized_parity, granted_data, give_back, recover_refused, missing_in, is_torn, Verdict, Leaves, Sums, hole_verdict, verdict_of, verdict, recovered_parity, recover_putting, closing, recover_put, recover_by, recover_drawn, recover_confirmed, is_as_before, stays_unless, stays, recover_confirming, units_seized, seize_units, parity_taken, parity_seized}
use Rattle.attempts.specs.Phases.{Slot, has_slot, parity_slot, IsIn, Past, begins, MayPut, is_due, grants, after, after_number, Keeps, RepairEnds, HasRepaired, MendsKeepPhases, RecoveriesKeepPhases}
use Rattle.attempts.proofs.PhaseLemmas.{slot_on, in-has, has-in, has-behind, Aside, units-aside, aside-slot, all-weaken, are-releases, keeps-walk, keeps-units, keeps-one, gives-back}

-- the list begins with this bay
abbrev BeginsWith : BayNo → List BayNo → Type 0
BeginsWith bay [] = ⊥
BeginsWith bay (other ∷ others) = other ≡ bay

-- where the parity is put, this holds
abbrev SumsIf : Verdict → Type 0 → Type 0
SumsIf Leaves X = Unit {0}
SumsIf (Sums lost) X = X

-- claims of one row alone so far
record Claims (row : RowNo) (p : Past) : Type 0 where
  phase : p.phase ≤ 0
  number : p.number ≡ None
  put : p.put ≡ []
  rows : AllByRecursion (λ (claim : Slot). claim.row ≡ row) p.claimed

-- the row is confirmed, and nothing put
record Confirmed (row : RowNo) (p : Past) : Type 0 where
  phase : p.phase ≤ 1
  number : p.number ≡ None
  put : p.put ≡ []
  rows : AllByRecursion (λ (claim : Slot). IsIn claim.row p.confirmed) p.claimed

-- one more claim
claims-more : (row : RowNo) (p : Past) (bay : BayNo) (slots : List Slot) → Claims row p → Claims row (record p { claimed = slot_on row bay ∷ p.claimed; granted = slots })
claims-more row p bay slots c = record { phase = c.phase; number = c.number; put = c.put; rows = (refl, c.rows) }

-- the confirm
confirms : (row : RowNo) (p : Past) → Claims row p → Confirmed row (record p { phase = 1; confirmed = row ∷ p.confirmed })
confirms row p c = record {
  phase = omega arith;
  number = c.number;
  put = c.put;
  rows = all-weaken (λ (claim : Slot). claim.row ≡ row) (λ (claim : Slot). IsIn claim.row (row ∷ p.confirmed)) (λ claim same. inl (sym same)) p.claimed c.rows;
}

-- the only put
puts-once : (n : ℕ) (row : RowNo) (p : Past) (slot : Slot) → Confirmed row p → IsIn slot p.granted → MayPut n p slot
puts-once n row p slot c granted = record {
  granted = granted;
  confirmed = c.rows;
  once = λ i. subst (IsIn slot) c.put i;
  parity_last = λ i. subst (IsIn (parity_slot n slot.row)) c.put i;
}

few : (p : Past) → p.put ≡ [] → length p.put ≤ 1
few p none = subst (λ (slots : List Slot). length slots ≤ 1) (sym none) (omega arith)

one-put : (p : Past) (slot : Slot) → p.put ≡ [] → length (slot ∷ p.put) ≤ 1
one-put p slot none = subst (λ (slots : List Slot). length (slot ∷ slots) ≤ 1) (sym none) (omega arith)

-- gives back and ends
released-keeps : (n : ℕ) (id : Number) (row : RowNo) (bays : List BayNo) (ended : Ended) (p : Past) → length p.put ≤ 1 → ((m : ℕ) → RepairEnds (record p { phase = m }) ended)
    → Keeps n id HasRepaired p (released_steps (releases id row None bays) ended)
released-keeps n id row bays ended p light fine =
    gives-back n id HasRepaired releasing (end_as ended) (releases id row None bays) p tt (are-releases id row None bays) (λ m walk. record { ended = fine m; put = light })

-- Rebuilds
module _ (m : Repair) (least : 3 ≤ m.n) (within : m.target.0 < m.n) where
  abbrev Mends : Past → Steps Finish → Type 0
  Mends p s = Keeps m.n m.id HasRepaired p s

  mend-refuses : (p : Past) → length p.put ≤ 1 → (holds : List Hold) (cause : Cause) → Mends p (refused_steps (mend_releases m holds) cause)
  mend-refuses p light holds cause = released-keeps m.n m.id m.row _ (ends.Refused cause) p light (λ k. tt)

  mended-keeps : (p : Past) → length p.put ≤ 1 → (holds : List Hold) → Mends p (released_steps (mend_releases m holds) ends.Mended)
  mended-keeps p light holds = released-keeps m.n m.id m.row _ ends.Mended p light (λ k. tt)

  numbered-keeps : (p : Past) (n : Number) (holds : List Hold) → Confirmed m.row p → IsIn (slot_on m.row m.target) p.granted → (b : Bool)
      → Mends (record p { number = Some n; phase = 2 }) (mend_numbered m holds n b)
  numbered-keeps p n holds c granted true = mended-keeps (record p { number = Some n; phase = 2 }) (few p c.put) holds
  numbered-keeps p n holds c granted false =
      keeps-one m.n m.id HasRepaired mend_putting (mend_put m holds) (put m.id m.row n (mended_cell m holds) m.target) (record p { number = Some n; phase = 2 }) tt (
        refl,
        omega arith,
        refl,
        record {
          granted = granted;
          confirmed = c.rows;
          once = λ i. subst (IsIn (slot_on m.row m.target)) c.put i;
          parity_last = λ i. subst (IsIn (parity_slot m.n m.row)) c.put i;
        },
      )
      (λ r. given (is_done r))
      (λ r. mend-refuses after_put (one-put p (slot_on m.row m.target) c.put) holds (put_cause m.row (put m.id m.row n (mended_cell m holds) m.target) r)) where
        after_put : Past
        after_put = record p { phase = 2; number = Some n; put = slot_on m.row m.target ∷ p.put }

        given : (b : Bool) → IfSome (cond b (Some tt) None) (λ (u : Unit {0}). Mends (record p { phase = 2; number = Some n; put = slot_on m.row m.target ∷ p.put }) (mend_put m holds (Through u)))
        given true = mended-keeps (record p { phase = 2; number = Some n; put = slot_on m.row m.target ∷ p.put }) (one-put p (slot_on m.row m.target) c.put) (without_target m holds)
        given false = tt

  drawn-keeps : (p : Past) (holds : List Hold) → Confirmed m.row p → IsIn (slot_on m.row m.target) p.granted → (d : Result Number Spent)
      → Mends (after_number p d) (mend_drawn m holds d)
  drawn-keeps p holds c granted (Err spent) = mend-refuses (record p { phase = 3 }) (few p c.put) holds (causes.Spent spent.seen)
  drawn-keeps p holds c granted (Ok n) = numbered-keeps p n holds c granted (is_shown m.target holds)

  claimed-keeps : (p : Past) (holds : List Hold) → Claims m.row p → IsIn (slot_on m.row m.target) p.granted → IsIn (parity_slot m.n m.row) p.granted
      → Mends p (mend_claimed m (Through holds))
  claimed-keeps p holds c granted parity =
      keeps-one m.n m.id HasRepaired mend_confirming (mend_confirmed m holds) (confirm m.id m.row false (parity_bay m.n m.row)) p tt
      (refl, omega (arith, c.phase), refl)
      (λ r. subst (λ (b : Bool). Passed (is_held r) (is_due b r)) (sym (in-has (parity_slot m.n m.row) p.granted parity)) (given (is_held r)))
      (λ r. mend-refuses (after p (confirm m.id m.row false (parity_bay m.n m.row)) r) (few p c.put) holds
      (mend_why (confirm m.id m.row false (parity_bay m.n m.row)) r (causes.Changed m.row))) where
        Passed : Bool → Bool → Type 0
        Passed held due =
            IfSome (cond held (Some tt) None) (λ (u : Unit {0}). Mends (record p { phase = 1; confirmed = cond due (m.row ∷ p.confirmed) p.confirmed }) (mend_confirmed m holds (Through u)))

        given : (h : Bool) → Passed h h
        given true = (c.number, omega arith, λ d. drawn-keeps (record p { phase = 1; confirmed = m.row ∷ p.confirmed }) holds (confirms m.row p c) granted d)
        given false = tt

  -- the claims: the parity comes first and is granted, and the target is granted or still to be claimed
  record Mending (bays : List BayNo) (p : Past) (holds : List Hold) : Type 0 where
    claims : Claims m.row p
    first : IsIn (parity_slot m.n m.row) p.claimed ⊎ BeginsWith (parity_bay m.n m.row) bays
    parity : IsIn (parity_slot m.n m.row) p.granted ⊎ BeginsWith (parity_bay m.n m.row) bays
    target : IsIn (slot_on m.row m.target) p.granted ⊎ IsIn m.target bays

  claim-may : (bay : BayNo) (bays : List BayNo) (p : Past) (holds : List Hold) → Mending (bay ∷ bays) p holds
      → (m.id ≡ m.id) × (p.phase ≤ 0) × ((bay ≡ parity_bay m.n m.row) ⊎ IsIn (parity_slot m.n m.row) p.claimed)
  claim-may bay bays p holds j = (refl, j.claims.phase, first j.first) where
    first : IsIn (parity_slot m.n m.row) p.claimed ⊎ (bay ≡ parity_bay m.n m.row) → (bay ≡ parity_bay m.n m.row) ⊎ IsIn (parity_slot m.n m.row) p.claimed
    first (inl i) = inr i
    first (inr same) = inl same

  claim-kept : (bay : BayNo) (bays : List BayNo) (p : Past) (holds : List Hold) → Mending (bay ∷ bays) p holds → (o : Option Grant)
      → IfSome (option_map (λ (hold : Hold). holds ++ hold ∷ []) (good_grant m bay o))
      (Mending bays (record p { claimed = slot_on m.row bay ∷ p.claimed; granted = grants o (slot_on m.row bay) p.granted }))
  claim-kept bay bays p holds j None = tt
  claim-kept bay bays p holds j (Some grant) = one (is_bare m bay grant) where
    first : (slots : List Slot) → IsIn (parity_slot m.n m.row) slots ⊎ (bay ≡ parity_bay m.n m.row) → IsIn (parity_slot m.n m.row) (slot_on m.row bay ∷ slots)
    first slots (inl i) = inr i
    first slots (inr same) = inl (ap (slot_on m.row) same)

    target : IsIn (slot_on m.row m.target) p.granted ⊎ IsIn m.target (bay ∷ bays) → IsIn (slot_on m.row m.target) (slot_on m.row bay ∷ p.granted) ⊎ IsIn m.target bays
    target (inl i) = inl (inr i)
    target (inr (inl same)) = inl (inl (ap (slot_on m.row) same))
    target (inr (inr i)) = inr i

    one : (b : Bool) → IfSome (option_map (λ (hold : Hold). holds ++ hold ∷ []) (cond b None (Some (record { bay = bay; grant = grant }))))
        (Mending bays (record p { claimed = slot_on m.row bay ∷ p.claimed; granted = slot_on m.row bay ∷ p.granted }))
    one true = tt
    one false = record { claims = claims-more m.row p bay (slot_on m.row bay ∷ p.granted) j.claims; first = inl (first p.claimed j.first); parity = inl (first p.granted j.parity); target = target j.target }

  unit-in : (unit : ℕ) → bay_of m.n m.row unit ≡ m.target → (first count : ℕ) → first ≤ unit → unit < first + count
      → IsIn m.target (map (bay_of m.n m.row) (range_with_len first count))
  unit-in unit same first zero from below = absurd (omega arith)
  unit-in unit same first (suc count) from below = elim (cases_eq first unit) [
    | inl is ↦ inl (ap (bay_of m.n m.row) is ∙ same)
    | inr ne ↦ inr (unit-in unit same (first + 1) count (omega arith) (omega arith))
  ]

  target-in : IsIn m.target (parity_first m.n m.row)
  target-in = elim (covered m.n m.row m.target least within) [
    | inl same ↦ inl (sym same)
    | inr h ↦ inr (unit-in h.0 h.1.stands 0 (m.n - 1) (omega arith) (omega (arith, h.1.unit_in)))
  ]

  mends-keep : Mends (begins None) (run (mending m) (claims m.id m.row Mend true (parity_first m.n m.row)) [] >>= mend_claimed m)
  mends-keep =
      keeps-walk m.n m.id HasRepaired (claim m.id m.row Mend 0 true) Mending (mending m) (mend_claimed m)
      claim-may
      (λ bay bays p holds r j. claim-kept bay bays p holds j (grant_of r))
      (λ p holds j. claimed-keeps p holds j.claims (target-granted p j.target) (parity-granted p j.parity))
      (λ bay bays p holds r j. mend-refuses (after p (claim m.id m.row Mend 0 true bay) r) (few p j.claims.put) (with_hold holds bay (grant_of r))
      (mend_why (claim m.id m.row Mend 0 true bay) r (causes.Gone bay)))
      (parity_first m.n m.row) (begins None) []
      (record {
        claims = record { phase = omega arith; number = refl; put = refl; rows = tt };
        first = inr refl;
        parity = inr refl;
        target = inr target-in;
      }) where
        parity-granted : (p : Past) → IsIn (parity_slot m.n m.row) p.granted ⊎ BeginsWith (parity_bay m.n m.row) [] → IsIn (parity_slot m.n m.row) p.granted
        parity-granted p (inl i) = i
        parity-granted p (inr b) = absurd b

        target-granted : (p : Past) → IsIn (slot_on m.row m.target) p.granted ⊎ IsIn m.target [] → IsIn (slot_on m.row m.target) p.granted
        target-granted p (inl i) = i
        target-granted p (inr i) = absurd i

pub rebuilds_keep_phases : MendsKeepPhases
rebuilds_keep_phases = mends-keep

-- Recoveries
module _ (r : Rescue) where
  abbrev Recovers : Past → Steps Finish → Type 0
  Recovers p s = Keeps r.n r.id HasRepaired p s

  abbrev parity : Slot
  parity = parity_slot r.n r.row

  recover-refuses : (p : Past) → length p.put ≤ 1 → (row : Row) (cause : Cause) → Recovers p (recover_refused r row cause)
  recover-refuses p light row cause = released-keeps r.n r.id r.row (unseized_data r row ++ unseized_parity r row.parity) (ends.Refused cause) p light (λ k. tt)

  -- after the put
  put-keeps : (p : Past) (row : Row) (n : Number) (lost : Option ℕ) → length p.put ≤ 1 → p.number ≡ Some n → (walk : Walk (Unit {0})) → Recovers p (recover_put r row n lost walk)
  put-keeps p row n lost light numbered (Stopped u e reply) = released-keeps r.n r.id r.row (unseized_data r row) (ends.Refused (put_cause r.row e reply)) p light (λ k. tt)
  put-keeps p row n lost light numbered (Through u) =
      gives-back r.n r.id HasRepaired (closing n lost) (end_as (ends.Recovered n true lost)) (give_back r (granted_data r row)) p tt (are-releases r.id r.row None (granted_data r row))
      (λ m walk. record { ended = numbered; put = light })

  by-keeps : (p : Past) (row : Row) (n : Number) → Confirmed r.row p → (v : Verdict) → (SumsIf v (IsIn parity p.granted)) → Recovers (record p { number = Some n; phase = 2 }) (recover_by r row n v)
  by-keeps p row n c Leaves granted =
      released-keeps r.n r.id r.row (granted_data r row ++ parity_granted r.n r.row row.parity) (ends.Recovered n true None) (record p { number = Some n; phase = 2 }) (few p c.put) (λ k. refl)
  by-keeps p row n c (Sums lost) granted =
      keeps-one r.n r.id HasRepaired (recover_putting r lost) (recover_put r row n lost) (put r.id r.row n (recovered_parity row lost) (parity_bay r.n r.row)) (record p { number = Some n; phase = 2 }) tt (
        refl,
        omega arith,
        refl,
        record {
          granted = granted;
          confirmed = c.rows;
          once = λ i. subst (IsIn parity) c.put i;
          parity_last = λ i. subst (IsIn parity) c.put i;
        },
      )
      (λ reply. given (is_done reply))
      (λ reply. put-keeps (record p { phase = 2; number = Some n; put = parity ∷ p.put }) row n lost (one-put p parity c.put) refl
      (Stopped tt (put r.id r.row n (recovered_parity row lost) (parity_bay r.n r.row)) reply)) where
        given : (b : Bool) → IfSome (cond b (Some tt) None) (λ (u : Unit {0}). Recovers (record p { phase = 2; number = Some n; put = parity ∷ p.put }) (recover_put r row n lost (Through u)))
        given true = put-keeps (record p { phase = 2; number = Some n; put = parity ∷ p.put }) row n lost (one-put p parity c.put) refl (Through tt)
        given false = tt

  -- the parity is put where it was granted alone
  verdict-sums : (p : Past) (row : Row) (o : Option Grant) → IfSome o (λ (grant : Grant). IsIn parity p.granted) → SumsIf (verdict_of r row o) (IsIn parity p.granted)
  verdict-sums p row None granted = tt
  verdict-sums p row (Some grant) granted = hole (missing_in (zip (units r.n) row.wanted)) where
    hole : (o : Option ℕ) → SumsIf (hole_verdict r row o) (IsIn parity p.granted)
    hole None = granted
    hole (Some unit) = one (is_torn r row unit) where
      one : (b : Bool) → SumsIf (cond b (Sums (Some unit)) Leaves) (IsIn parity p.granted)
      one true = granted
      one false = tt

  -- what is known while the units are claimed: the parity was granted where the row has its grant
  record Seizing (us : List ℕ) (p : Past) (taken : Taken) : Type 0 where
    claims : Claims r.row p
    first : IsIn parity p.claimed
    granted : has_slot parity p.granted ≡ is_some taken.row.parity
    aside : AllByRecursion (Aside r.n r.row) us

  grant-in : (p : Past) (o : Option Grant) → has_slot parity p.granted ≡ is_some o → IfSome o (λ (grant : Grant). IsIn parity p.granted)
  grant-in p None has = tt
  grant-in p (Some grant) has = has-in parity p.granted has

  drawn-keeps-on : (p : Past) (row : Row) → Confirmed r.row p → IfSome row.parity (λ (grant : Grant). IsIn parity p.granted) → (d : Result Number Spent)
      → Recovers (after_number p d) (recover_drawn r row d)
  drawn-keeps-on p row c granted (Err spent) = recover-refuses (record p { phase = 3 }) (few p c.put) row (causes.Spent spent.seen)
  drawn-keeps-on p row c granted (Ok n) = by-keeps p row n c (verdict r row) (verdict-sums p row row.parity granted)

  confirm-keeps : (p : Past) (taken : Taken) → Seizing [] p taken → Recovers p (units_seized r (Through taken))
  confirm-keeps p taken j =
      keeps-one r.n r.id HasRepaired (recover_confirming taken) (recover_confirmed r taken) (confirm r.id r.row false (parity_bay r.n r.row)) p tt
      (refl, omega (arith, j.claims.phase), refl)
      (λ reply. subst (λ (b : Bool). Passed reply (is_due b reply)) (sym j.granted) (unrefused reply (refusal None taken.missing (parity_bay r.n r.row) reply)))
      (λ reply. recover-refuses (after p (confirm r.id r.row false (parity_bay r.n r.row)) reply) (few p j.claims.put) taken.row _) where
        Goes : Bool → Unit {0} → Type 0
        Goes due u = Recovers (record p { phase = 1; confirmed = cond due (r.row ∷ p.confirmed) p.confirmed }) (recover_confirmed r taken (Through u))

        Passed : Reply → Bool → Type 0
        Passed reply due = IfSome (cond (stays taken (parity_bay r.n r.row) reply) (Some tt) None) (Goes due)

        goes : Goes true tt
        goes = (j.claims.number, omega arith, λ d. drawn-keeps-on (record p { phase = 1; confirmed = r.row ∷ p.confirmed }) taken.row (confirms r.row p j.claims) (grant-in p taken.row.parity j.granted) d)

        due-goes : (due : Bool) → IfSome (cond due (Some tt) None) (Goes due)
        due-goes true = goes
        due-goes false = tt

        as_before : (reply : Reply) (o : Option Grant) → IfSome (cond (is_as_before o reply) (Some tt) None) (Goes (is_due (is_some o) reply))
        as_before reply None = due-goes (is_missing reply)
        as_before reply (Some grant) = due-goes (is_held reply)

        unrefused : (reply : Reply) (o : Option Cause) → IfSome (cond (stays_unless o (is_as_before taken.row.parity reply)) (Some tt) None) (Goes (is_due (is_some taken.row.parity) reply))
        unrefused reply (Some cause) = tt
        unrefused reply None = as_before reply taken.row.parity

  unit-kept : (u : ℕ) (us : List ℕ) (p : Past) (taken : Taken) → Seizing (u ∷ us) p taken → (c : Option Cause) (o : Option Grant)
      → IfSome (option_map (with_grant with_wanted taken (bay_of r.n r.row u)) (unless c o))
      (Seizing us (record p { claimed = slot_on r.row (bay_of r.n r.row u) ∷ p.claimed; granted = grants o (slot_on r.row (bay_of r.n r.row u)) p.granted }))
  unit-kept u us p taken j (Some cause) o = tt
  unit-kept u us p taken j None None = record {
    claims = claims-more r.row p (bay_of r.n r.row u) p.granted j.claims;
    first = inr j.first;
    granted = j.granted;
    aside = j.aside.1;
  }
  unit-kept u us p taken j None (Some grant) = record {
    claims = claims-more r.row p (bay_of r.n r.row u) (slot_on r.row (bay_of r.n r.row u) ∷ p.granted) j.claims;
    first = inr j.first;
    granted = has-behind parity (slot_on r.row (bay_of r.n r.row u)) p.granted (is_some taken.row.parity) (aside-slot r.n r.row u j.aside.0) j.granted;
    aside = j.aside.1;
  }

  seize-keeps : (p : Past) (taken : Taken) → Seizing (units r.n) p taken → Recovers p (seize_units r taken)
  seize-keeps p taken j =
      keeps-units r.n r.id HasRepaired (bay_of r.n r.row) (claim r.id r.row Seize 0 true) Seizing (taking None with_wanted) (units_seized r)
      (λ u us p taken j. (refl, j.claims.phase, inr j.first))
      (λ u us p taken reply j. unit-kept u us p taken j (refusal None taken.missing (bay_of r.n r.row u) reply) (grant_of reply))
      confirm-keeps
      (λ u us p taken reply j. recover-refuses (after p (claim r.id r.row Seize 0 true (bay_of r.n r.row u)) reply) (few p j.claims.put) taken.row
      (why None taken (claim r.id r.row Seize 0 true (bay_of r.n r.row u)) reply))
      (units r.n) p taken j

  parity-keeps : (p : Past) (taken : Taken) → Seizing (units r.n) p taken → (o : Option Grant) → Recovers p (parity_taken r taken o)
  parity-keeps p taken j (Some grant) = seize-keeps p taken j
  parity-keeps p taken j None = one (r.host.0 == 0) where
    one : (b : Bool) → Recovers p (cond b (seize_units r taken) (recover_refused r taken.row (causes.Gone (parity_bay r.n r.row))))
    one true = seize-keeps p taken j
    one false = recover-refuses p (few p j.claims.put) taken.row (causes.Gone (parity_bay r.n r.row))

  abbrev first_claim : Errand
  first_claim = claim r.id r.row Seize 0 true (parity_bay r.n r.row)

  abbrev first_taken : Taken
  first_taken = begun (whole_part r) no_rows

  -- after the reply to the claim of the parity
  abbrev claimed_parity : Option Grant → Past
  claimed_parity o = record { phase = 0; number = None; claimed = parity ∷ []; granted = grants o parity []; confirmed = []; put = [] }

  claims-parity : (o : Option Grant) → Claims r.row (claimed_parity o)
  claims-parity o = record { phase = omega arith; number = refl; put = refl; rows = (refl, tt) }

  parity-claimed : (c : Option Cause) (o : Option Grant)
      → IfSome (option_map (with_grant with_parity first_taken (parity_bay r.n r.row)) (unless c o)) (λ (taken : Taken). Recovers (claimed_parity o) (parity_seized r (Through taken)))
  parity-claimed (Some cause) o = tt
  parity-claimed None None =
      parity-keeps (claimed_parity None) (with_grant with_parity first_taken (parity_bay r.n r.row) None)
      (record { claims = claims-parity None; first = inl refl; granted = refl; aside = units-aside r.n r.row }) None
  parity-claimed None (Some grant) =
      parity-keeps (claimed_parity (Some grant)) (with_grant with_parity first_taken (parity_bay r.n r.row) (Some grant))
      (record {
        claims = claims-parity (Some grant);
        first = inl refl;
        granted = in-has parity (parity ∷ []) (inl refl);
        aside = units-aside r.n r.row;
      }) (Some grant)

  recovers-keep : Recovers (begins None) (run (taking None with_parity) (first_claim ∷ []) first_taken >>= parity_seized r)
  recovers-keep =
      keeps-one r.n r.id HasRepaired (taking None with_parity) (parity_seized r) first_claim (begins None) first_taken
      (refl, omega arith, inl refl)
      (λ reply. parity-claimed (refusal None first_taken.missing (parity_bay r.n r.row) reply) (grant_of reply))
      (λ reply. recover-refuses (claimed_parity (grant_of reply)) (omega arith) first_taken.row (why None first_taken first_claim reply))

pub recoveries_keep_phases : RecoveriesKeepPhases
recoveries_keep_phases = recovers-keep
