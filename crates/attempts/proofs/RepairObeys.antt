-- Rebuilds and recoveries of a row keep to their bounds.
use Rattle.std.proofs.Common.{◌≡◌, ℕ, zero, suc, ◌+◌, ◌-◌, ◌*◌, ◌<◌, ◌≤◌, ◌==◌, Bool, true, false, cond, List, [], ◌∷◌, ◌++◌, Option, Some, None, Result, Ok, Err, IfSome, filter, zip, length, length-append, refl, arith}
use Rattle.std.specs.List.{AllByRecursion, range_with_len}
use Rattle.std.proofs.lemmas.List.{length-map}
use Rattle.std.proofs.lemmas.List.FromFn.{length-range_with_len}
use Rattle.raid_base.specs.declared.numbers.BayNo.{BayNo}
use Rattle.raid_base.specs.declared.numbers.RowNo.{RowNo}
use Rattle.raid_base.specs.declared.numbers.Number.{Number}
use Rattle.raid_base.specs.declared.numbers.Spent.{Spent}
use Rattle.raid_base.specs.declared.messages.How.{How}
use Rattle.raid_base.specs.declared.messages.How.TheVariants.{Mend, Seize}
use Rattle.raid_base.specs.declared.messages.Errand.{Errand}
use Rattle.raid_base.specs.declared.messages.Grant.{Grant}
use Rattle.raid_base.specs.declared.jobs.Cause.{Cause}
use Rattle.raid_base.specs.declared.jobs.Cause.TheVariants as causes
use Rattle.raid_base.specs.declared.jobs.Ended.{Ended}
use Rattle.raid_base.specs.declared.jobs.Ended.TheVariants as ends
use Rattle.raid_base.specs.Replies.{grant_of}
use Rattle.raid_base.specs.Steps.{◌>>=◌, Walk, Through, Stopped, run}
use Rattle.stripe_layout.specs.Placement.{parity_bay, bay_of, bays_of, units, row_bays, parity_first}
use Rattle.attempts.specs.declared.Repair.{Repair}
use Rattle.attempts.specs.declared.Rescue.{Rescue}
use Rattle.attempts.specs.declared.Hold.{Hold}
use Rattle.attempts.specs.Taking.{Finish, finish, Row, Taken, no_rows, begun, why, with_parity, with_wanted, taking, claim, claims, confirm}
use Rattle.attempts.specs.Releases.{release, releases, releasing, end_as, released_steps, refused_steps, granted_of, parity_granted}
use Rattle.attempts.specs.Puts.{put}
use Rattle.attempts.specs.Mending.{with_hold, mending, mend_why, is_held_at, mend_releases, without_target, is_shown, mended_cell, mend_putting, put_cause, mend_put, mend_numbered, mend_drawn, mend_confirmed, mend_confirming, mend_claimed}
use Rattle.attempts.specs.Recovery.{whole_part, unseized, unseized_data, is_seized, unseized_parity, granted_data, give_back, recover_refused, missing_in, is_torn, Verdict, Leaves, Sums, hole_verdict, verdict_of, verdict, recovered_parity, recover_putting, closing, recover_put, recover_by, recover_drawn, recover_confirmed, recover_confirming, units_seized, seize_units, parity_taken, parity_seized}
use Rattle.attempts.specs.Discipline.{IsNumber, IsDrawn, IsWithin, Obeys, IsRepair, IsMendFinish, MendsObey, IsRescue, IsRecoveryFinish, RecoveriesObey}
use Rattle.attempts.proofs.ObeyLemmas.{obeys-run}
use Rattle.attempts.proofs.RoomLemmas.{filter-le, all-append, all-map, granted-le, AreBelow, parity-below, bays-below}

pub any : {A : Type 0} (o : Option A) → IfSome o (λ a. Unit {0})
any (Some a) = tt
any None = tt

-- One row of an array
module _ (n rows : ℕ) (id : Number) (row : RowNo) (least : 1 ≤ n) (low : row.0 < rows) (numbered : IsNumber id) where
  pub claims-are-within : (how : How) (want : Bool) (bays : List BayNo) → AreBelow n bays → AllByRecursion (IsWithin n rows) (claims id row how want bays)
  claims-are-within how want bays below =
      all-map (IsWithin n rows) (λ (bay : BayNo). bay.0 < n) (claim id row how 0 want) (λ bay under. record { bay = under; request = (low, numbered) }) bays below

  pub releases-are-within : (bays : List BayNo) → AreBelow n bays → AllByRecursion (IsWithin n rows) (releases id row None bays)
  releases-are-within bays below =
      all-map (IsWithin n rows) (λ (bay : BayNo). bay.0 < n) (release id row None) (λ bay under. record { bay = under; request = (low, numbered, tt) }) bays below

  pub confirm-is-within : IsWithin n rows (confirm id row false (parity_bay n row))
  confirm-is-within = record { bay = parity-below n row least; request = (low, numbered) }

  -- gives back to bays of the row, and ends
  pub released-obeys : (Q : Finish → Type 0) (bays : List BayNo) (ended : Ended) (room : ℕ) → length bays ≤ room → AreBelow n bays → Q (finish ended)
      → Obeys (IsWithin n rows) Q room (released_steps (releases id row None bays) ended)
  released-obeys Q bays ended room le below fine =
      obeys-run (IsWithin n rows) Q (λ (u : Unit {0}). Unit {0}) releasing (end_as ended) 0 (λ u e r i. tt) (λ u i. fine) (λ u e r i. fine)
      (releases id row None bays) tt room (omega (arith, length-map bays (release id row None))) (releases-are-within bays below) tt

row-bays-below : (n : ℕ) (row : RowNo) → 1 ≤ n → AreBelow n (row_bays n row)
row-bays-below n row least =
    all-append (λ (bay : BayNo). bay.0 < n) (bays_of n row (units n)) (parity_bay n row ∷ []) (bays-below n row least (units n)) (parity-below n row least, tt)

all-filter : {X : Type 0} (P : X → Type 0) (test : X → Bool) (xs : List X) → AllByRecursion P xs → AllByRecursion P (filter test xs)
all-filter P test [] all = tt
all-filter P test (x ∷ xs) all = one (test x) (all-filter P test xs all.1) where
  one : (b : Bool) → AllByRecursion P (filter test xs) → AllByRecursion P (cond b (x ∷ filter test xs) (filter test xs))
  one true rest = (all.0, rest)
  one false rest = rest

units-len : (n : ℕ) (row : RowNo) → length (bays_of n row (units n)) ≡ n - 1
units-len n row = omega (arith, length-map (units n) (bay_of n row), length-range_with_len 0 (n - 1))

-- Rebuilds
module _ (m : Repair) (rows : ℕ) (is : IsRepair m rows) where
  abbrev Within : Errand → Type 0
  Within = IsWithin m.n rows

  mend-least : 1 ≤ m.n
  mend-least = let h : 3 ≤ m.n = is.least in omega arith

  gives-back : (holds : List Hold) (ended : Ended) → IsMendFinish (finish ended) → (room : ℕ) → m.n ≤ room
      → Obeys Within IsMendFinish room (released_steps (mend_releases m holds) ended)
  gives-back holds ended fine room le =
      released-obeys m.n rows m.id m.row mend-least is.row is.id IsMendFinish (filter (is_held_at holds) (row_bays m.n m.row)) ended room
      (omega (arith, filter-le (is_held_at holds) (row_bays m.n m.row), length-append (bays_of m.n m.row (units m.n)) (parity_bay m.n m.row ∷ []), units-len m.n m.row, mend-least))
      (all-filter (λ (bay : BayNo). bay.0 < m.n) (is_held_at holds) (row_bays m.n m.row) (row-bays-below m.n m.row mend-least)) fine

  refuses : (holds : List Hold) (cause : Cause) (room : ℕ) → m.n ≤ room → Obeys Within IsMendFinish room (refused_steps (mend_releases m holds) cause)
  refuses holds cause room le = gives-back holds (ends.Refused cause) (record { ended = tt; contents = refl }) room le

  numbered-obeys : (holds : List Hold) (n : Number) → IsNumber n → (b : Bool) → Obeys Within IsMendFinish (1 + m.n) (mend_numbered m holds n b)
  numbered-obeys holds n numbered true = gives-back holds ends.Mended (record { ended = tt; contents = refl }) (1 + m.n) (omega arith)
  numbered-obeys holds n numbered false =
      obeys-run Within IsMendFinish (λ (u : Unit {0}). Unit {0}) mend_putting (mend_put m holds) m.n
      (λ u e r i. any (mend_putting.step u e r))
      (λ u i. gives-back (without_target m holds) ends.Mended (record { ended = tt; contents = refl }) m.n (omega arith))
      (λ u e r i. refuses holds (put_cause m.row e r) m.n (omega arith))
      (put m.id m.row n (mended_cell m holds) m.target ∷ []) tt (1 + m.n) (omega arith) (record { bay = is.target; request = (is.row, is.id, numbered) }, tt) tt

  drawn-obeys : (holds : List Hold) (d : Result Number Spent) → IsDrawn d → Obeys Within IsMendFinish (1 + m.n) (mend_drawn m holds d)
  drawn-obeys holds (Err spent) drawn = refuses holds (causes.Spent spent.seen) (1 + m.n) (omega arith)
  drawn-obeys holds (Ok n) drawn = numbered-obeys holds n drawn (is_shown m.target holds)

  claimed-obeys : (walk : Walk (List Hold)) → Obeys Within IsMendFinish (2 + m.n) (mend_claimed m walk)
  claimed-obeys (Stopped holds e r) = refuses (with_hold holds e.bay (grant_of r)) (mend_why e r (causes.Gone e.bay)) (2 + m.n) (omega arith)
  claimed-obeys (Through holds) =
      obeys-run Within IsMendFinish (λ (u : Unit {0}). Unit {0}) mend_confirming (mend_confirmed m holds) (1 + m.n)
      (λ u e r i. any (mend_confirming.step u e r))
      (λ u i d drawn. drawn-obeys holds d drawn)
      (λ u e r i. refuses holds (mend_why e r (causes.Changed m.row)) (1 + m.n) (omega arith))
      (confirm m.id m.row false (parity_bay m.n m.row) ∷ []) tt (2 + m.n) (omega arith) (confirm-is-within m.n rows m.id m.row mend-least is.row is.id, tt) tt

  mends-obey : Obeys Within IsMendFinish (4 * m.n) (run (mending m) (claims m.id m.row Mend true (parity_first m.n m.row)) [] >>= mend_claimed m)
  mends-obey =
      obeys-run Within IsMendFinish (λ (holds : List Hold). Unit {0}) (mending m) (mend_claimed m) (2 + m.n)
      (λ holds e r i. any ((mending m).step holds e r)) (λ holds i. claimed-obeys (Through holds)) (λ holds e r i. claimed-obeys (Stopped holds e r))
      (claims m.id m.row Mend true (parity_first m.n m.row)) [] (4 * m.n)
      (omega (arith, length-map (parity_first m.n m.row) (claim m.id m.row Mend 0 true), units-len m.n m.row, mend-least))
      (claims-are-within m.n rows m.id m.row mend-least is.row is.id Mend true (parity_first m.n m.row) (parity-below m.n m.row mend-least, bays-below m.n m.row mend-least (units m.n)))
      tt

pub rebuilds_keep_bounds : MendsObey
rebuilds_keep_bounds = mends-obey

-- Recoveries. Bays that are given back
unseized-le : (us : List ℕ) (gs : List (Option Grant)) → length (unseized (zip us gs)) ≤ length us
unseized-le [] gs = omega arith
unseized-le (u ∷ us) [] = omega arith
unseized-le (u ∷ us) (None ∷ gs) = let h : length (unseized (zip us gs)) ≤ length us = unseized-le us gs in omega arith
unseized-le (u ∷ us) (Some g ∷ gs) = one (is_seized g) (unseized-le us gs) where
  one : (b : Bool) → length (unseized (zip us gs)) ≤ length us → length (cond b (unseized (zip us gs)) (u ∷ unseized (zip us gs))) ≤ suc (length us)
  one true h = omega arith
  one false h = omega arith

-- the unit that is missing is one of these
missing-among : (P : ℕ → Type 0) (us : List ℕ) (gs : List (Option Grant)) → AllByRecursion P us → IfSome (missing_in (zip us gs)) P
missing-among P [] gs all = tt
missing-among P (u ∷ us) [] all = tt
missing-among P (u ∷ us) (None ∷ gs) all = all.0
missing-among P (u ∷ us) (Some g ∷ gs) all = missing-among P us gs all.1

range-below : (most first count : ℕ) → first + count ≤ most → AllByRecursion (λ unit. unit < most) (range_with_len first count)
range-below most first zero le = tt
range-below most first (suc count) le = (omega arith, range-below most (first + 1) count (omega arith))

-- a unit of the row is named lost, or none
abbrev NamesUnit : ℕ → Verdict → Type 0
NamesUnit n Leaves = Unit {0}
NamesUnit n (Sums lost) = IfSome lost (λ unit. unit < n - 1)

module _ (r : Rescue) (rows : ℕ) (is : IsRescue r rows) where
  abbrev Inside : Errand → Type 0
  Inside = IsWithin r.n rows

  abbrev Fine : Finish → Type 0
  Fine = IsRecoveryFinish r.n

  some-bay : 1 ≤ r.n
  some-bay = let h : 3 ≤ r.n = is.least in omega arith

  hole-names : (row : Row) (hole : Option ℕ) → IfSome hole (λ unit. unit < r.n - 1) → NamesUnit r.n (hole_verdict r row hole)
  hole-names row None below = tt
  hole-names row (Some unit) below = one (is_torn r row unit) where
    one : (b : Bool) → NamesUnit r.n (cond b (Sums (Some unit)) Leaves)
    one true = below
    one false = tt

  verdict-names : (row : Row) (parity : Option Grant) → NamesUnit r.n (verdict_of r row parity)
  verdict-names row None = tt
  verdict-names row (Some grant) =
      hole-names row (missing_in (zip (units r.n) row.wanted)) (missing-among (λ unit. unit < r.n - 1) (units r.n) row.wanted (range-below (r.n - 1) 0 (r.n - 1) (omega arith)))

  -- what is given back
  granted-few : (row : Row) → length (granted_data r row) ≤ r.n - 1
  granted-few row =
      omega (
        arith,
        length-map (granted_of (zip (units r.n) row.wanted)) (bay_of r.n r.row),
        granted-le (units r.n) row.wanted,
        length-range_with_len 0 (r.n - 1),
      )

  granted-under : (row : Row) → AreBelow r.n (granted_data r row)
  granted-under row = bays-below r.n r.row some-bay (granted_of (zip (units r.n) row.wanted))

  unseized-few : (row : Row) → length (unseized_data r row) ≤ r.n - 1
  unseized-few row =
      omega (
        arith,
        length-map (unseized (zip (units r.n) row.wanted)) (bay_of r.n r.row),
        unseized-le (units r.n) row.wanted,
        length-range_with_len 0 (r.n - 1),
      )

  unseized-under : (row : Row) → AreBelow r.n (unseized_data r row)
  unseized-under row = bays-below r.n r.row some-bay (unseized (zip (units r.n) row.wanted))

  record IsParityOnly (bays : List BayNo) : Type 0 where
    few : length bays ≤ 1
    under : AreBelow r.n bays

  unseized-one : (o : Option Grant) → IsParityOnly (unseized_parity r o)
  unseized-one None = record { few = omega arith; under = tt }
  unseized-one (Some grant) = one (is_seized grant) where
    one : (b : Bool) → IsParityOnly (cond b [] (parity_bay r.n r.row ∷ []))
    one true = record { few = omega arith; under = tt }
    one false = record { few = omega arith; under = (parity-below r.n r.row some-bay, tt) }

  granted-one : (o : Option Grant) → IsParityOnly (parity_granted r.n r.row o)
  granted-one None = record { few = omega arith; under = tt }
  granted-one (Some grant) = record { few = omega arith; under = (parity-below r.n r.row some-bay, tt) }

  gives : (bays : List BayNo) (ended : Ended) (room : ℕ) → length bays ≤ room → AreBelow r.n bays → Fine (finish ended)
      → Obeys Inside Fine room (released_steps (give_back r bays) ended)
  gives bays ended room le below fine = released-obeys r.n rows r.id r.row some-bay is.row is.id Fine bays ended room le below fine

  gives-both : (units_back parity : List BayNo) (ended : Ended) (room : ℕ) → r.n ≤ room → length units_back ≤ r.n - 1 → AreBelow r.n units_back → IsParityOnly parity → Fine (finish ended)
      → Obeys Inside Fine room (released_steps (give_back r (units_back ++ parity)) ended)
  gives-both units_back parity ended room le few under only fine =
      gives (units_back ++ parity) ended room (omega (arith, length-append units_back parity, only.few, some-bay))
      (all-append (λ (bay : BayNo). bay.0 < r.n) units_back parity under only.under) fine

  recover-refuses : (row : Row) (cause : Cause) (room : ℕ) → r.n ≤ room → Obeys Inside Fine room (recover_refused r row cause)
  recover-refuses row cause room le =
      gives-both (unseized_data r row) (unseized_parity r row.parity) (ends.Refused cause) room le (unseized-few row) (unseized-under row) (unseized-one row.parity)
      (record { ended = tt; contents = refl })

  -- after the put
  put-obeys : (row : Row) (n : Number) → IsNumber n → (lost : Option ℕ) → IfSome lost (λ unit. unit < r.n - 1) → (walk : Walk (Unit {0}))
      → Obeys Inside Fine r.n (recover_put r row n lost walk)
  put-obeys row n numbered lost names (Stopped u e reply) =
      gives (unseized_data r row) (ends.Refused (put_cause r.row e reply)) r.n (omega (arith, unseized-few row)) (unseized-under row) (record { ended = tt; contents = refl })
  put-obeys row n numbered lost names (Through u) =
      obeys-run Inside Fine (λ (u : Unit {0}). Unit {0}) (closing n lost) (end_as (ends.Recovered n true lost)) 0
      (λ u e reply i. tt) (λ u i. fine) (λ u e reply i. fine)
      (give_back r (granted_data r row)) tt r.n (omega (arith, length-map (granted_data r row) (release r.id r.row None), granted-few row))
      (releases-are-within r.n rows r.id r.row some-bay is.row is.id (granted_data r row) (granted-under row)) tt where
        fine : Fine (finish (ends.Recovered n true lost))
        fine = record { ended = (numbered, refl, names); contents = refl }

  by-obeys : (row : Row) (n : Number) → IsNumber n → (v : Verdict) → NamesUnit r.n v → Obeys Inside Fine (1 + r.n) (recover_by r row n v)
  by-obeys row n numbered Leaves names =
      gives-both (granted_data r row) (parity_granted r.n r.row row.parity) (ends.Recovered n true None) (1 + r.n) (omega arith) (granted-few row) (granted-under row)
      (granted-one row.parity) (record { ended = (numbered, refl, tt); contents = refl })
  by-obeys row n numbered (Sums lost) names =
      obeys-run Inside Fine (λ (u : Unit {0}). Unit {0}) (recover_putting r lost) (recover_put r row n lost) r.n
      (λ u e reply i. any ((recover_putting r lost).step u e reply))
      (λ u i. put-obeys row n numbered lost names (Through u)) (λ u e reply i. put-obeys row n numbered lost names (Stopped u e reply))
      (put r.id r.row n (recovered_parity row lost) (parity_bay r.n r.row) ∷ []) tt (1 + r.n) (omega arith)
      (record { bay = parity-below r.n r.row some-bay; request = (is.row, is.id, numbered) }, tt) tt

  recover-drawn : (row : Row) (d : Result Number Spent) → IsDrawn d → Obeys Inside Fine (1 + r.n) (recover_drawn r row d)
  recover-drawn row (Err spent) drawn = recover-refuses row (causes.Spent spent.seen) (1 + r.n) (omega arith)
  recover-drawn row (Ok n) drawn = by-obeys row n drawn (verdict r row) (verdict-names row row.parity)

  confirmed-obeys : (taken : Taken) (walk : Walk (Unit {0})) → Obeys Inside Fine (1 + r.n) (recover_confirmed r taken walk)
  confirmed-obeys taken (Stopped u e reply) = recover-refuses taken.row _ (1 + r.n) (omega arith)
  confirmed-obeys taken (Through u) = λ d drawn. recover-drawn taken.row d drawn

  seized-obeys : (walk : Walk Taken) → Obeys Inside Fine (2 + r.n) (units_seized r walk)
  seized-obeys (Stopped taken e reply) = recover-refuses taken.row (why None taken e reply) (2 + r.n) (omega arith)
  seized-obeys (Through taken) =
      obeys-run Inside Fine (λ (u : Unit {0}). Unit {0}) (recover_confirming taken) (recover_confirmed r taken) (1 + r.n)
      (λ u e reply i. any ((recover_confirming taken).step u e reply))
      (λ u i. confirmed-obeys taken (Through u)) (λ u e reply i. confirmed-obeys taken (Stopped u e reply))
      (confirm r.id r.row false (parity_bay r.n r.row) ∷ []) tt (2 + r.n) (omega arith) (confirm-is-within r.n rows r.id r.row some-bay is.row is.id, tt) tt

  seize-obeys : (taken : Taken) → Obeys Inside Fine (1 + r.n + r.n) (seize_units r taken)
  seize-obeys taken =
      obeys-run Inside Fine (λ (taken : Taken). Unit {0}) (taking None with_wanted) (units_seized r) (2 + r.n)
      (λ taken e reply i. any ((taking None with_wanted).step taken e reply))
      (λ taken i. seized-obeys (Through taken)) (λ taken e reply i. seized-obeys (Stopped taken e reply))
      (claims r.id r.row Seize true (bays_of r.n r.row (units r.n))) taken (1 + r.n + r.n)
      (omega (arith, length-map (bays_of r.n r.row (units r.n)) (claim r.id r.row Seize 0 true), units-len r.n r.row, some-bay))
      (claims-are-within r.n rows r.id r.row some-bay is.row is.id Seize true (bays_of r.n r.row (units r.n)) (bays-below r.n r.row some-bay (units r.n))) tt

  taken-obeys : (taken : Taken) (o : Option Grant) → Obeys Inside Fine (1 + r.n + r.n) (parity_taken r taken o)
  taken-obeys taken (Some grant) = seize-obeys taken
  taken-obeys taken None = one (r.host.0 == 0) where
    one : (b : Bool) → Obeys Inside Fine (1 + r.n + r.n) (cond b (seize_units r taken) (recover_refused r taken.row (causes.Gone (parity_bay r.n r.row))))
    one true = seize-obeys taken
    one false = recover-refuses taken.row (causes.Gone (parity_bay r.n r.row)) (1 + r.n + r.n) (omega arith)

  parity-obeys : (walk : Walk Taken) → Obeys Inside Fine (1 + r.n + r.n) (parity_seized r walk)
  parity-obeys (Stopped taken e reply) = recover-refuses taken.row (why None taken e reply) (1 + r.n + r.n) (omega arith)
  parity-obeys (Through taken) = taken-obeys taken taken.row.parity

  recovers-obey : Obeys Inside Fine (4 * r.n) (run (taking None with_parity) (claim r.id r.row Seize 0 true (parity_bay r.n r.row) ∷ []) (begun (whole_part r) no_rows) >>= parity_seized r)
  recovers-obey =
      obeys-run Inside Fine (λ (taken : Taken). Unit {0}) (taking None with_parity) (parity_seized r) (1 + r.n + r.n)
      (λ taken e reply i. any ((taking None with_parity).step taken e reply))
      (λ taken i. parity-obeys (Through taken)) (λ taken e reply i. parity-obeys (Stopped taken e reply))
      (claim r.id r.row Seize 0 true (parity_bay r.n r.row) ∷ []) (begun (whole_part r) no_rows) (4 * r.n) (omega (arith, is.least))
      (claims-are-within r.n rows r.id r.row some-bay is.row is.id Seize true (parity_bay r.n r.row ∷ []) (parity-below r.n r.row some-bay, tt)) tt

pub recoveries_keep_bounds : RecoveriesObey
recoveries_keep_bounds = recovers-obey
