-- A recovery before its confirm is answered as is due: it puts nothing, it gives back only what was granted where no note
-- stood, and it confirms a parity that was not granted only as the operator's.
use Rattle.std.proofs.Common.{◌≡◌, ◌⊎◌, inl, inr, refl, ap, subst, ◌∙◌, ℕ, ◌==◌, Bool, true, false, cond, List, [], ◌∷◌, ◌++◌, Option, Some, None, IfSome, IsSome, is_some, option_map, map, zip, arith}
use Rattle.std.specs.List.{AllByRecursion}
use Rattle.std.proofs.lemmas.Bool.Decides.{nat_tests}
use Rattle.raid_base.specs.declared.numbers.BayNo.{BayNo}
use Rattle.raid_base.specs.declared.numbers.HostNo.{HostNo}
use Rattle.raid_base.specs.declared.numbers.RowNo.{RowNo}
use Rattle.raid_base.specs.declared.messages.How.TheVariants.{Seize}
use Rattle.raid_base.specs.declared.messages.Reply.{Reply}
use Rattle.raid_base.specs.declared.messages.Request.{Request}
use Rattle.raid_base.specs.declared.messages.Request.TheVariants.{Share, Claim, Confirm, Put, Release, Lose, Fit}
use Rattle.raid_base.specs.declared.messages.Errand.{Errand}
use Rattle.raid_base.specs.declared.messages.Grant.{Grant}
use Rattle.raid_base.specs.declared.jobs.Cause.{Cause}
use Rattle.raid_base.specs.declared.jobs.Cause.TheVariants as causes
use Rattle.raid_base.specs.declared.jobs.Ended.{Ended}
use Rattle.raid_base.specs.declared.jobs.Ended.TheVariants as ends
use Rattle.raid_base.specs.Replies.{grant_of, is_held, is_missing}
use Rattle.raid_base.specs.Steps.{Steps, Asks, Draws, Ends, bind, go_on, Walk, Through, Stopped, run}
use Rattle.stripe_layout.specs.Placement.{parity_bay, bay_of, units}
use Rattle.attempts.specs.declared.Rescue.{Rescue}
use Rattle.attempts.specs.Taking.{Finish, Row, Taken, no_rows, begun, refusal, why, with_grant, with_parity, with_wanted, unless, taking, claim, confirm}
use Rattle.attempts.specs.Releases.{releases, released_steps}
use Rattle.attempts.specs.Recovery.{whole_part, is_seized, unseized, unseized_data, unseized_parity, recover_refused, recover_confirmed, is_as_before, stays_unless, recover_confirming, units_seized, seize_units, parity_seized, recover_steps}
use Rattle.attempts.specs.Phases.{Slot, has_slot, parity_slot, IsIn, is_due, grants}
use Rattle.attempts.proofs.PhaseLemmas.{slot_on, in-has, has-behind, Aside, units-aside, aside-slot}
use Rattle.attempts.proofs.ReturnLemmas.{in-either, Walked, walked-more}

-- the slots that were granted, and those of them where no note stood
abbrev pub with_granted : List Slot → BayNo → Request → Reply → List Slot
with_granted granted bay (Share row id want) reply = granted
with_granted granted bay (Claim row id how mask want) reply = grants (grant_of reply) (slot_on row bay) granted
with_granted granted bay (Confirm row id want) reply = granted
with_granted granted bay (Put row id n cell) reply = granted
with_granted granted bay (Release row id n) reply = granted
with_granted granted bay Lose reply = granted
with_granted granted bay Fit reply = granted

abbrev pub freed : Option Grant → Slot → List Slot → List Slot
freed None slot free = free
freed (Some grant) slot free = cond (is_seized grant) free (slot ∷ free)

abbrev pub with_free : List Slot → BayNo → Request → Reply → List Slot
with_free free bay (Share row id want) reply = free
with_free free bay (Claim row id how mask want) reply = freed (grant_of reply) (slot_on row bay) free
with_free free bay (Confirm row id want) reply = free
with_free free bay (Put row id n cell) reply = free
with_free free bay (Release row id n) reply = free
with_free free bay Lose reply = free
with_free free bay Fit reply = free

-- a confirm that is answered as is due
abbrev pub passes : List Slot → BayNo → Request → Reply → Bool
passes granted bay (Share row id want) reply = false
passes granted bay (Claim row id how mask want) reply = false
passes granted bay (Confirm row id want) reply = is_due (has_slot (slot_on row bay) granted) reply
passes granted bay (Put row id n cell) reply = false
passes granted bay (Release row id n) reply = false
passes granted bay Lose reply = false
passes granted bay Fit reply = false

-- what it may ask until then
abbrev pub MayFind : RowNo → HostNo → List Slot → List Slot → BayNo → Request → Type 0
MayFind row host granted free bay (Share at id want) = ⊥
MayFind row host granted free bay (Claim at id how mask want) = at ≡ row
MayFind row host granted free bay (Confirm at id want) = (at ≡ row) × ((host.0 ≡ 0) ⊎ (has_slot (slot_on at bay) granted ≡ true))
MayFind row host granted free bay (Put at id n cell) = ⊥
MayFind row host granted free bay (Release at id n) = IsIn (slot_on at bay) free
MayFind row host granted free bay Lose = ⊥
MayFind row host granted free bay Fit = ⊥

abbrev pub Finds : {A : Type 0} → RowNo → HostNo → List Slot → List Slot → Steps A → Type 0
Finds row host granted free (Ends a) = Unit {0}
Finds row host granted free (Draws k) = ⊥
Finds row host granted free (Asks e s c k) = MayFind row host granted free e.bay e.request
    × ((r : Reply) → passes granted e.bay e.request r ≡ false → Finds row host (with_granted granted e.bay e.request r) (with_free free e.bay e.request r) (k r))

-- Lists
in-freed : (slot : Slot) (o : Option Grant) (other : Slot) (free : List Slot) → IsIn slot free → IsIn slot (freed o other free)
in-freed slot None other free i = i
in-freed slot (Some grant) other free i = one (is_seized grant) where
  one : (b : Bool) → IsIn slot (cond b free (other ∷ free))
  one true = i
  one false = inr i

-- the grant found no note, and this holds
abbrev IfFree : Option Grant → Type 0 → Type 0
IfFree None X = ⊥
IfFree (Some grant) X = (is_seized grant ≡ false) × X

free-new : (o : Option Grant) (slot other : Slot) (free : List Slot) → IfFree o (other ≡ slot) → IsIn slot (freed o other free)
free-new None slot other free h = absurd h
free-new (Some grant) slot other free h = one (is_seized grant) h.0 where
  one : (b : Bool) → b ≡ false → IsIn slot (cond b free (other ∷ free))
  one true bad = absurd (cc)
  one false e = inl h.1

module _ (place : ℕ → BayNo) (bay : BayNo) where
  abbrev IsFreeOf : List ℕ → List (Option Grant) → Type 0
  IsFreeOf us os = IsIn bay (map place (unseized (zip us os)))

  none-free : (us : List ℕ) → IsFreeOf us [] → ⊥
  none-free [] i = i
  none-free (u ∷ us) i = i

  free-from : (us : List ℕ) (os : List (Option Grant)) (o : Option Grant) (u : ℕ) (left : List ℕ) → Walked us os (u ∷ left) → IsFreeOf us (os ++ o ∷ []) →
      IsFreeOf us os ⊎ IfFree o (place u ≡ bay)
  free-from [] [] o u left w i = absurd (cc)
  free-from [] (x ∷ os) o u left w i = absurd w
  free-from (v ∷ us) [] None u left w i = absurd (none-free us i)
  free-from (v ∷ us) [] (Some grant) u left w i = one (is_seized grant) refl i where
    same : v ≡ u
    same = cc

    one : (b : Bool) → is_seized grant ≡ b → IsIn bay (map place (cond b (unseized (zip us [])) (v ∷ unseized (zip us [])))) → IsIn bay [] ⊎ ((is_seized grant ≡ false) × (place u ≡ bay))
    one true e i = absurd (none-free us i)
    one false e (inl here) = inr (e, subst (λ (x : ℕ). place x ≡ bay) same here)
    one false e (inr i) = absurd (none-free us i)
  free-from (v ∷ us) (None ∷ os) o u left w i = free-from us os o u left w i
  free-from (v ∷ us) (Some x ∷ os) o u left w i = one (is_seized x) (free-from us os o u left w) i where
    one : (b : Bool) → (IsFreeOf us (os ++ o ∷ []) → IsFreeOf us os ⊎ IfFree o (place u ≡ bay)) → IsIn bay (map place (cond b (unseized (zip us (os ++ o ∷ []))) (v ∷ unseized (zip us (os ++ o ∷ []))))) →
        IsIn bay (map place (cond b (unseized (zip us os)) (v ∷ unseized (zip us os)))) ⊎ IfFree o (place u ≡ bay)
    one true rest i = rest i
    one false rest (inl here) = inl (inl here)
    one false rest (inr i) = elim (rest i) [
      | inl j ↦ inl (inr j)
      | inr new ↦ inr new
    ]

module _ (r : Rescue) where
  abbrev parity : Slot
  parity = parity_slot r.n r.row

  abbrev bay_at : ℕ → BayNo
  bay_at = bay_of r.n r.row

  abbrev Goes : List Slot → List Slot → Steps Finish → Type 0
  Goes granted free s = Finds r.row r.host granted free s

  -- after a reply of a walk
  finds-go : {A : Type 0} (granted free : List Slot) (J : A → Type 0) (o : Option A) (g : A → Steps (Walk A)) (s : Steps (Walk A)) (f : Walk A → Steps Finish) →
      IfSome o J → ((a : A) → J a → Goes granted free (bind (g a) f)) → Goes granted free (bind s f) → Goes granted free (bind (go_on o g s) f)
  finds-go granted free J (Some a) g s f i on off = on a i
  finds-go granted free J None g s f i on off = off

  -- gives back what found no note
  gives-free : (granted free : List Slot) (end : Ended) (bays : List BayNo) → ((bay : BayNo) → IsIn bay bays → IsIn (slot_on r.row bay) free) →
      Goes granted free (released_steps (releases r.id r.row None bays) end)
  gives-free granted free end [] all = tt
  gives-free granted free end (bay ∷ bays) all = (all bay (inl refl), λ reply e. gives-free granted free end bays (λ other i. all other (inr i)))

  record AllFree (free : List Slot) (row : Row) : Type 0 where
    data_free : (bay : BayNo) → IsIn bay (unseized_data r row) → IsIn (slot_on r.row bay) free
    parity_free : (bay : BayNo) → IsIn bay (unseized_parity r row.parity) → IsIn (slot_on r.row bay) free

  refuses-free : (granted free : List Slot) (row : Row) (cause : Cause) → AllFree free row → Goes granted free (recover_refused r row cause)
  refuses-free granted free row cause a = gives-free granted free (ends.Refused cause) (unseized_data r row ++ unseized_parity r row.parity) each
    where
      each : (bay : BayNo) → IsIn bay (unseized_data r row ++ unseized_parity r row.parity) → IsIn (slot_on r.row bay) free
      each bay i = elim (in-either bay (unseized_data r row) (unseized_parity r row.parity) i) [
        | inl j ↦ a.data_free bay j
        | inr j ↦ a.parity_free bay j
      ]

  more-free : (free : List Slot) (row : Row) (o : Option Grant) (slot : Slot) → AllFree free row → AllFree (freed o slot free) row
  more-free free row o slot a = record {
    data_free = λ bay i. in-freed (slot_on r.row bay) o slot free (a.data_free bay i);
    parity_free = λ bay i. in-freed (slot_on r.row bay) o slot free (a.parity_free bay i);
  }

  -- what is known while the units are claimed
  record Found (us : List ℕ) (granted free : List Slot) (taken : Taken) : Type 0 where
    walked : Walked (units r.n) taken.row.wanted us
    all_free : AllFree free taken.row
    is_granted : has_slot parity granted ≡ is_some taken.row.parity
    aside : AllByRecursion (Aside r.n r.row) us
    host : (r.host.0 ≡ 0) ⊎ IsSome taken.row.parity

  -- the confirm
  none-if : (b : Bool) → b ≡ false → IfSome (cond b (Some tt) None) (λ (u : Unit {0}). ⊥)
  none-if true e = absurd (cc)
  none-if false e = tt

  not-due : (reply : Reply) (o : Option Cause) (p : Option Grant) → is_due (is_some p) reply ≡ false → IfSome (cond (stays_unless o (is_as_before p reply)) (Some tt) None) (λ (u : Unit {0}). ⊥)
  not-due reply (Some cause) p e = tt
  not-due reply None None e = none-if (is_missing reply) e
  not-due reply None (Some grant) e = none-if (is_held reply) e

  confirm-finds : (granted free : List Slot) (taken : Taken) → Found [] granted free taken → Goes granted free (units_seized r (Through taken))
  confirm-finds granted free taken j = (
    (refl, may j.host),
    λ reply e. finds-go granted free (λ (u : Unit {0}). ⊥) ((recover_confirming taken).step tt (confirm r.id r.row false (parity_bay r.n r.row)) reply)
        (λ b. run (recover_confirming taken) [] b) (Ends (Stopped tt (confirm r.id r.row false (parity_bay r.n r.row)) reply)) (recover_confirmed r taken)
        (not-due reply (refusal None taken.missing (parity_bay r.n r.row) reply) taken.row.parity (subst (λ (b : Bool). is_due b reply ≡ false) j.is_granted e))
        (λ u bad. absurd bad)
        (refuses-free granted free taken.row _ j.all_free),
  )
    where
      may : (r.host.0 ≡ 0) ⊎ IsSome taken.row.parity → (r.host.0 ≡ 0) ⊎ (has_slot parity granted ≡ true)
      may (inl operator) = inl operator
      may (inr there) = inr (j.is_granted ∙ there)

  -- the claims of the units
  unit-found : (u : ℕ) (us : List ℕ) (granted free : List Slot) (taken : Taken) → Found (u ∷ us) granted free taken → (o : Option Grant) →
      Found us (grants o (slot_on r.row (bay_at u)) granted) (freed o (slot_on r.row (bay_at u)) free) (with_grant with_wanted taken (bay_at u) o)
  unit-found u us granted free taken j o = by o
    where
      more : (o : Option Grant) → (bay : BayNo) → IsIn bay (unseized_data r (with_wanted o taken.row)) → IsIn (slot_on r.row bay) (freed o (slot_on r.row (bay_at u)) free)
      more o bay i = elim (free-from bay_at bay (units r.n) taken.row.wanted o u us j.walked i) [
        | inl old ↦ in-freed (slot_on r.row bay) o (slot_on r.row (bay_at u)) free (j.all_free.data_free bay old)
        | inr new ↦ free-new o (slot_on r.row bay) (slot_on r.row (bay_at u)) free (on o new)
      ]
        where
          on : (o : Option Grant) → IfFree o (bay_at u ≡ bay) → IfFree o (slot_on r.row (bay_at u) ≡ slot_on r.row bay)
          on None h = h
          on (Some grant) h = (h.0, ap (slot_on r.row) h.1)

      by : (o : Option Grant) → Found us (grants o (slot_on r.row (bay_at u)) granted) (freed o (slot_on r.row (bay_at u)) free) (with_grant with_wanted taken (bay_at u) o)
      by None = record {
        walked = walked-more (units r.n) taken.row.wanted None u us j.walked;
        all_free = record { data_free = more None; parity_free = j.all_free.parity_free };
        is_granted = j.is_granted;
        aside = j.aside.1;
        host = j.host;
      }
      by (Some grant) = record {
        walked = walked-more (units r.n) taken.row.wanted (Some grant) u us j.walked;
        all_free = record {
          data_free = more (Some grant);
          parity_free = λ bay i. in-freed (slot_on r.row bay) (Some grant) (slot_on r.row (bay_at u)) free (j.all_free.parity_free bay i);
        };
        is_granted = has-behind parity (slot_on r.row (bay_at u)) granted (is_some taken.row.parity) (aside-slot r.n r.row u j.aside.0) j.is_granted;
        aside = j.aside.1;
        host = j.host;
      }

  unit-kept : (u : ℕ) (us : List ℕ) (granted free : List Slot) (taken : Taken) → Found (u ∷ us) granted free taken → (c : Option Cause) (o : Option Grant) →
      IfSome (option_map (with_grant with_wanted taken (bay_at u)) (unless c o)) (Found us (grants o (slot_on r.row (bay_at u)) granted) (freed o (slot_on r.row (bay_at u)) free))
  unit-kept u us granted free taken j (Some cause) o = tt
  unit-kept u us granted free taken j None o = unit-found u us granted free taken j o

  abbrev unit_claim : ℕ → Errand
  unit_claim u = claim r.id r.row Seize 0 true (bay_at u)

  units-find : (us : List ℕ) (granted free : List Slot) (taken : Taken) → Found us granted free taken →
      Goes granted free (bind (run (taking None with_wanted) (map (claim r.id r.row Seize 0 true) (map bay_at us)) taken) (units_seized r))
  units-find [] granted free taken j = confirm-finds granted free taken j
  units-find (u ∷ us) granted free taken j = (
    refl,
    λ reply e. finds-go (grants (grant_of reply) (slot_on r.row (bay_at u)) granted) (freed (grant_of reply) (slot_on r.row (bay_at u)) free)
        (Found us (grants (grant_of reply) (slot_on r.row (bay_at u)) granted) (freed (grant_of reply) (slot_on r.row (bay_at u)) free))
        ((taking None with_wanted).step taken (unit_claim u) reply)
        (λ b. run (taking None with_wanted) (map (claim r.id r.row Seize 0 true) (map bay_at us)) b) (Ends (Stopped taken (unit_claim u) reply)) (units_seized r)
        (unit-kept u us granted free taken j (refusal None taken.missing (bay_at u) reply) (grant_of reply))
        (λ later k. units-find us (grants (grant_of reply) (slot_on r.row (bay_at u)) granted) (freed (grant_of reply) (slot_on r.row (bay_at u)) free) later k)
        (refuses-free (grants (grant_of reply) (slot_on r.row (bay_at u)) granted) (freed (grant_of reply) (slot_on r.row (bay_at u)) free) taken.row (why None taken (unit_claim u) reply)
        (more-free free taken.row (grant_of reply) (slot_on r.row (bay_at u)) j.all_free)),
  )

  -- the claim of the parity
  abbrev first_claim : Errand
  first_claim = claim r.id r.row Seize 0 true (parity_bay r.n r.row)

  abbrev first_taken : Taken
  first_taken = begun (whole_part r) no_rows

  first-free : (free : List Slot) → AllFree free first_taken.row
  first-free free = record { data_free = λ bay i. absurd (none-free bay_at bay (units r.n) i); parity_free = λ bay i. absurd i }

  grant-free : (grant : Grant) → AllFree (freed (Some grant) parity []) (with_parity (Some grant) first_taken.row)
  grant-free grant = record { data_free = λ bay i. absurd (none-free bay_at bay (units r.n) i); parity_free = λ bay i. one bay (is_seized grant) i }
    where
      one : (bay : BayNo) (b : Bool) → IsIn bay (cond b [] (parity_bay r.n r.row ∷ [])) → IsIn (slot_on r.row bay) (cond b [] (parity ∷ []))
      one bay true i = absurd i
      one bay false (inl same) = inl (ap (slot_on r.row) same)
      one bay false (inr i) = absurd i

  operator-finds : (b : Bool) → (r.host.0 == 0) ≡ b →
      Goes [] [] (cond b (seize_units r (with_grant with_parity first_taken (parity_bay r.n r.row) None)) (recover_refused r (with_parity None first_taken.row) (causes.Gone (parity_bay r.n r.row))))
  operator-finds true e =
      units-find (units r.n) [] [] (with_grant with_parity first_taken (parity_bay r.n r.row) None)
      (record { walked = refl; all_free = first-free []; is_granted = refl; aside = units-aside r.n r.row; host = inl (grind (arith, nat_tests)) })
  operator-finds false e = refuses-free [] [] (with_parity None first_taken.row) (causes.Gone (parity_bay r.n r.row)) (first-free [])

  parity-kept : (c : Option Cause) (o : Option Grant) →
      IfSome (option_map (with_grant with_parity first_taken (parity_bay r.n r.row)) (unless c o)) (λ (taken : Taken). Goes (grants o parity []) (freed o parity []) (parity_seized r (Through taken)))
  parity-kept (Some cause) o = tt
  parity-kept None None = operator-finds (r.host.0 == 0) refl
  parity-kept None (Some grant) =
      units-find (units r.n) (parity ∷ []) (freed (Some grant) parity []) (with_grant with_parity first_taken (parity_bay r.n r.row) (Some grant))
      (record { walked = refl; all_free = grant-free grant; is_granted = in-has parity (parity ∷ []) (inl refl); aside = units-aside r.n r.row; host = inr refl })

  pub recovers-find : Finds r.row r.host [] [] (recover_steps r)
  recovers-find = (
    refl,
    λ reply e. finds-go (grants (grant_of reply) parity []) (freed (grant_of reply) parity []) (λ (taken : Taken). Goes (grants (grant_of reply) parity []) (freed (grant_of reply) parity []) (parity_seized r (Through taken)))
        ((taking None with_parity).step first_taken first_claim reply) (λ b. run (taking None with_parity) [] b) (Ends (Stopped first_taken first_claim reply)) (parity_seized r)
        (parity-kept (refusal None first_taken.missing (parity_bay r.n r.row) reply) (grant_of reply))
        (λ taken ok. ok)
        (refuses-free (grants (grant_of reply) parity []) (freed (grant_of reply) parity []) first_taken.row (why None first_taken first_claim reply) (first-free (freed (grant_of reply) parity []))),
  )
