-- What attempts ask of a row before and after its parity: a write takes a unit only after it has claimed the parity, and shares
-- one only where that was granted; rebuilds and recoveries ask of their row alone, share nothing and claim the parity first.
use Rattle.std.proofs.Common.{◌≡◌, ◌⊎◌, inl, inr, ◌∙◌, ℕ, ◌≤◌, ◌==◌, Bool, true, false, if◌then◌else◌, List, [], ◌∷◌, ◌++◌, zip, Option, Some, None, IfSome, IsSome, is_some, option_map, Result, Ok, Err, refl, sym, ap, subst}
use Rattle.std.specs.List.{AllByRecursion}
use Rattle.raid_base.specs.declared.numbers.BayNo.{BayNo}
use Rattle.raid_base.specs.declared.numbers.RowNo.{RowNo}
use Rattle.raid_base.specs.declared.numbers.Number.{Number}
use Rattle.raid_base.specs.declared.numbers.Spent.{Spent}
use Rattle.raid_base.specs.declared.cells.Cell.{Cell}
use Rattle.raid_base.specs.declared.messages.Mode.{Mode}
use Rattle.raid_base.specs.declared.messages.Mode.TheVariants.{Lock, Order}
use Rattle.raid_base.specs.declared.messages.How.{How}
use Rattle.raid_base.specs.declared.messages.How.TheVariants.{Plain, Mend, Seize}
use Rattle.raid_base.specs.declared.messages.Call.{Call}
use Rattle.raid_base.specs.declared.messages.Errand.{Errand}
use Rattle.raid_base.specs.declared.messages.Grant.{Grant}
use Rattle.raid_base.specs.declared.messages.Request.TheVariants.{Share, Claim, Confirm}
use Rattle.raid_base.specs.declared.messages.Reply.{Reply}
use Rattle.raid_base.specs.declared.jobs.Cause.{Cause}
use Rattle.raid_base.specs.declared.jobs.Cause.TheVariants as causes
use Rattle.raid_base.specs.declared.jobs.Ended.{Ended}
use Rattle.raid_base.specs.declared.jobs.Ended.TheVariants as ends
use Rattle.raid_base.specs.declared.jobs.Plan.{Plan}
use Rattle.raid_base.specs.declared.jobs.Plan.TheVariants.{Full, Small, Reconstruct}
use Rattle.raid_base.specs.declared.jobs.RowPart.{RowPart}
use Rattle.raid_base.specs.Cells.{plain_cell}
use Rattle.raid_base.specs.Replies.{grant_of}
use Rattle.raid_base.specs.Steps.{Steps, Commit, bind, Walk, Through, Stopped, Phase, run, errand_of}
use Rattle.stripe_layout.specs.Placement.{parity_bay, bay_of, bays_of, units, units_in, units_out}
use Rattle.attempts.specs.declared.Repair.{Repair}
use Rattle.attempts.specs.declared.Rescue.{Rescue}
use Rattle.attempts.specs.declared.Hold.{Hold}
use Rattle.attempts.specs.Taking.{Access, Finish, refused_by_quit, Row, Rows, no_rows, Taken, begun, row_ended, with_parity, with_wanted, with_other, with_grant, lacks, behind_from, refusal, unless, taking, taking_until, why, share, claim, claims, confirm}
use Rattle.attempts.specs.Releases.{release, releases, releasing, end_as, granted_of, released_steps, refused_steps, parity_granted, write_holds, write_releases, others_granted}
use Rattle.attempts.specs.Puts.{plan_of, is_small_plan, wanted_units, block_at, new_parity, Puts, no_puts, at_row, put, data_put, data_puts, putting_data, parity_put, putting_parity, with_trouble, trouble_of}
use Rattle.attempts.specs.Writing.{write_stopped, finishing, reader_releases, write_end, write_last, parity_done, put_parity, data_done, put_rows, write_drawn, write_numbered, row_confirm, confirming, confirm_cause, row_confirmed, confirm_rows, claiming, row_claimed, wanted_claims, other_shares, claim_wanted, share_others, small_claimed, share_stopped, others_shared, claim_row, parity_claimed, parity_claim, claim_rows, write_steps}
use Rattle.attempts.specs.Mending.{mending, with_hold, mend_why, mend_releases, mended_cell, put_cause, mend_putting, mend_put, mend_numbered, mend_drawn, is_shown, mend_confirmed, mend_confirming, mend_claimed, mend_steps}
use Rattle.attempts.specs.Recovery.{whole_part, unseized_data, unseized_parity, granted_data, give_back, recover_refused, Verdict, Leaves, Sums, verdict, recovered_parity, recover_putting, recover_put, recover_by, recover_drawn, recover_confirmed, recover_confirming, units_seized, seize_units, parity_taken, parity_seized, recover_steps}
use Rattle.attempts.proofs.RoomLemmas.{all-append, all-made}
use Rattle.attempts.proofs.PhaseLemmas.{all-weaken, all-flat, any}
use Rattle.histories.specs.Calls.{Happened, row_of, IsClaim}
use Rattle.row_laws.proofs.owners.RowOwnersTrees.{Asking, walk-asking, what-is, bay-is}
use Rattle.row_laws.proofs.hands.WriteMasks.{Fine, ask-run}

-- the claim of a row's parity was granted
abbrev pub ParityGranted : ℕ → RowNo → List Call → Type 0
ParityGranted n row calls = Happened (λ call. IsClaim (parity_bay n row) row call × IsSome (grant_of call.answer.reply)) calls

-- A write takes a unit only after it has claimed the parity of the row; it shares one, and asks for a cell, only where that was granted.
pub record TakesSo (n : ℕ) (calls : List Call) (e : Errand) : Type 0 where
  pub shares : (row : RowNo) (id : Number) (want : Bool) → e.request ≡ Share row id want → ParityGranted n row calls
  pub claims : (row : RowNo) (id : Number) (how : How) (mask : ℕ) (want : Bool) → e.request ≡ Claim row id how mask want →
      (e.bay ≡ parity_bay n row) ⊎ (Happened (IsClaim (parity_bay n row) row) calls × (want ≡ true → ParityGranted n row calls))
  pub confirms : (row : RowNo) (id : Number) → e.request ≡ Confirm row id true → ParityGranted n row calls

-- Rebuilds and recoveries ask of their row alone.
abbrev pub IsOfRow : RowNo → List Call → Errand → Type 0
IsOfRow row calls e = row_of e.request ≡ Some row

-- A rebuild shares nothing and claims the parity first; so does a recovery.
pub record ClaimsParityFirst (n : ℕ) (calls : List Call) (e : Errand) : Type 0 where
  pub shares : (row : RowNo) (id : Number) (want : Bool) → e.request ≡ Share row id want → ⊥
  pub claims : (row : RowNo) (id : Number) (how : How) (mask : ℕ) (want : Bool) → e.request ≡ Claim row id how mask want →
      (e.bay ≡ parity_bay n row) ⊎ Happened (IsClaim (parity_bay n row) row) calls

-- Walks. Whatever the walk gives, where J is known of the calls
module _ (P : List Call → Errand → Type 0) (J : List Call → Type 0) where
  fine-run : {A : Type 0} (phase : Phase A) (f : Walk A → Steps Finish) → ((calls : List Call) (walk : Walk A) → J calls → Asking P calls (f walk)) → (es : List Errand) → AllByRecursion (Fine P J) es
      → (a : A) (calls : List Call) → J calls → Asking P calls (bind (run phase es a) f)
  fine-run {A} phase f on es fine a calls j =
      ask-run P J (λ (x : A). Unit {0}) phase f (λ x e r u. any (phase.step x e r)) (λ cs x k u. on cs (Through x) k) (λ cs x e r k u. on cs (Stopped x e r) k) es fine a calls j tt

  -- what is given back
  module _ (id : Number) (row : RowNo) (frees : (bay : BayNo) → Fine P J (release id row None bay)) where
    gives-back : (stop : Unit {0} → Ended) (commits : Unit {0} → Errand → List Commit) (last : Ended) (bays : List BayNo) (calls : List Call) → J calls →
        Asking P calls (bind (run (record { step = λ u errand reply. Some u; stop = stop; commits = commits }) (releases id row None bays) tt) (end_as last))
    gives-back stop commits last bays calls j =
        fine-run (record { step = λ u errand reply. Some u; stop = stop; commits = commits }) (end_as last) (λ cs walk k. tt) (releases id row None bays)
        (all-made (Fine P J) (release id row None) frees bays) tt calls j

-- where what is known speaks of the calls
known : {A : Type 0} (I : A → Type 0) (o : Option A) (a : A) → o ≡ Some a → IfSome o I → I a
known I (Some x) a e i = let same : x ≡ a = cc in subst I same i
known I None a e i = absurd (cc)

module _ (P : List Call → Errand → Type 0) {A : Type 0} (I : List Call → A → Type 0) where
  known-run : (phase : Phase A) (f : Walk A → Steps Finish) → ((calls : List Call) (call : Call) (a : A) → I calls a → I (call ∷ calls) a)
      → ((calls : List Call) (call : Call) (a : A) (e : Errand) → I calls a → IfSome (phase.step a e call.answer.reply) (I (call ∷ calls)))
      → ((calls : List Call) (a : A) → I calls a → Asking P calls (f (Through a)))
      → ((calls : List Call) (a : A) (e : Errand) (r : Reply) → I calls a → Asking P calls (f (Stopped a e r)))
      → (es : List Errand) → AllByRecursion (λ (e : Errand). (calls : List Call) (a : A) → I calls a → P calls e) es → (a : A) (calls : List Call) → I calls a → Asking P calls (bind (run phase es a) f)
  known-run phase f more keeps on off [] may a calls i = on calls a i
  known-run phase f more keeps on off (e ∷ es) may a calls i =
      walk-asking P phase f e es a calls (may.0 calls a i)
      (λ call is fit b step. known-run phase f more keeps on off es may.1 b (call ∷ calls) (known (I (call ∷ calls)) (phase.step a e call.answer.reply) b step (keeps calls call a e i)))
      (λ call is fit none. off (call ∷ calls) a e call.answer.reply (more calls call a i))

-- Rebuilds, once they have claimed the parity
module _ (m : Repair) (P : List Call → Errand → Type 0) (J : List Call → Type 0) (frees : (bay : BayNo) → Fine P J (release m.id m.row None bay))
    (confirms : (bay : BayNo) → Fine P J (confirm m.id m.row false bay)) (takes : (bay : BayNo) → Fine P J (claim m.id m.row Mend 0 true bay))
    (puts : (n : Number) (cell : Cell) → Fine P J (put m.id m.row n cell m.target)) where
  mend-frees : (bays : List BayNo) (last : Ended) (calls : List Call) → J calls → Asking P calls (released_steps (releases m.id m.row None bays) last)
  mend-frees bays last calls j = gives-back P J m.id m.row frees refused_by_quit (λ _ _. []) last bays calls j

  mend-refused : (holds : List Hold) (cause : Cause) (calls : List Call) → J calls → Asking P calls (refused_steps (mend_releases m holds) cause)
  mend-refused holds cause calls j = mend-frees _ (ends.Refused cause) calls j

  mend-puts : (holds : List Hold) (calls : List Call) (walk : Walk (Unit {0})) → J calls → Asking P calls (mend_put m holds walk)
  mend-puts holds calls (Through u) j = mend-frees _ ends.Mended calls j
  mend-puts holds calls (Stopped u e r) j = mend-refused holds (put_cause m.row e r) calls j

  mend-numbered : (holds : List Hold) (n : Number) (shown : Bool) (calls : List Call) → J calls → Asking P calls (mend_numbered m holds n shown)
  mend-numbered holds n true calls j = mend-frees _ ends.Mended calls j
  mend-numbered holds n false calls j =
      fine-run P J mend_putting (mend_put m holds) (mend-puts holds) (put m.id m.row n (mended_cell m holds) m.target ∷ []) (puts n (mended_cell m holds), tt) tt calls j

  mend-draws : (holds : List Hold) (calls : List Call) → J calls → (d : Result Number Spent) → Asking P calls (mend_drawn m holds d)
  mend-draws holds calls j (Err spent) = mend-refused holds (causes.Spent spent.seen) calls j
  mend-draws holds calls j (Ok n) = mend-numbered holds n (is_shown m.target holds) calls j

  mend-confirms : (holds : List Hold) (calls : List Call) (walk : Walk (Unit {0})) → J calls → Asking P calls (mend_confirmed m holds walk)
  mend-confirms holds calls (Through u) j = λ d. mend-draws holds calls j d
  mend-confirms holds calls (Stopped u e r) j = mend-refused holds (mend_why e r (causes.Changed m.row)) calls j

  mend-claimed : (calls : List Call) (walk : Walk (List Hold)) → J calls → Asking P calls (mend_claimed m walk)
  mend-claimed calls (Stopped holds e r) j = mend-refused (with_hold holds e.bay (grant_of r)) (mend_why e r (causes.Gone e.bay)) calls j
  mend-claimed calls (Through holds) j =
      fine-run P J mend_confirming (mend_confirmed m holds) (mend-confirms holds) (confirm m.id m.row false (parity_bay m.n m.row) ∷ []) (confirms (parity_bay m.n m.row), tt) tt calls j

  mend-claims : (bays : List BayNo) (holds : List Hold) (calls : List Call) → J calls → Asking P calls (bind (run (mending m) (claims m.id m.row Mend true bays) holds) (mend_claimed m))
  mend-claims bays holds calls j =
      fine-run P J (mending m) (mend_claimed m) mend-claimed (claims m.id m.row Mend true bays) (all-made (Fine P J) (claim m.id m.row Mend 0 true) takes bays) holds calls j

  mend-begins : P [] (claim m.id m.row Mend 0 true (parity_bay m.n m.row)) → ((call : Call) → errand_of call ≡ claim m.id m.row Mend 0 true (parity_bay m.n m.row) → J (call ∷ [])) →
      Asking P [] (mend_steps m)
  mend-begins first then_known =
      walk-asking P (mending m) (mend_claimed m) (claim m.id m.row Mend 0 true (parity_bay m.n m.row)) (claims m.id m.row Mend true (bays_of m.n m.row (units m.n))) [] [] first
      (λ call is fit holds e. mend-claims (bays_of m.n m.row (units m.n)) holds (call ∷ []) (then_known call is))
      (λ call is fit none. mend-claimed (call ∷ []) (Stopped [] (claim m.id m.row Mend 0 true (parity_bay m.n m.row)) call.answer.reply) (then_known call is))

-- and recoveries
module _ (r : Rescue) (P : List Call → Errand → Type 0) (J : List Call → Type 0) (frees : (bay : BayNo) → Fine P J (release r.id r.row None bay))
    (confirms : (bay : BayNo) → Fine P J (confirm r.id r.row false bay)) (takes : (bay : BayNo) → Fine P J (claim r.id r.row Seize 0 true bay))
    (puts : (n : Number) (cell : Cell) (bay : BayNo) → Fine P J (put r.id r.row n cell bay)) where
  recover-frees : (bays : List BayNo) (last : Ended) (calls : List Call) → J calls → Asking P calls (released_steps (give_back r bays) last)
  recover-frees bays last calls j = gives-back P J r.id r.row frees refused_by_quit (λ _ _. []) last bays calls j

  recover-refused : (row : Row) (cause : Cause) (calls : List Call) → J calls → Asking P calls (recover_refused r row cause)
  recover-refused row cause calls j = recover-frees (unseized_data r row ++ unseized_parity r row.parity) (ends.Refused cause) calls j

  recover-puts : (row : Row) (n : Number) (lost : Option ℕ) (calls : List Call) (walk : Walk (Unit {0})) → J calls → Asking P calls (recover_put r row n lost walk)
  recover-puts row n lost calls (Stopped u e reply) j = recover-frees (unseized_data r row) (ends.Refused (put_cause r.row e reply)) calls j
  recover-puts row n lost calls (Through u) j =
      gives-back P J r.id r.row frees (λ _. ends.Recovered n false lost) (λ _ _. []) (ends.Recovered n true lost) (granted_data r row) calls j

  recover-by : (row : Row) (n : Number) (v : Verdict) (calls : List Call) → J calls → Asking P calls (recover_by r row n v)
  recover-by row n Leaves calls j = recover-frees (granted_data r row ++ parity_granted r.n r.row row.parity) (ends.Recovered n true None) calls j
  recover-by row n (Sums lost) calls j =
      fine-run P J (recover_putting r lost) (recover_put r row n lost) (recover-puts row n lost) (put r.id r.row n (recovered_parity row lost) (parity_bay r.n r.row) ∷ [])
      (puts n (recovered_parity row lost) (parity_bay r.n r.row), tt) tt calls j

  recover-draws : (row : Row) (calls : List Call) → J calls → (d : Result Number Spent) → Asking P calls (recover_drawn r row d)
  recover-draws row calls j (Err spent) = recover-refused row (causes.Spent spent.seen) calls j
  recover-draws row calls j (Ok n) = recover-by row n (verdict r row) calls j

  recover-confirms : (taken : Taken) (calls : List Call) (walk : Walk (Unit {0})) → J calls → Asking P calls (recover_confirmed r taken walk)
  recover-confirms taken calls (Stopped u e reply) j = recover-refused taken.row _ calls j
  recover-confirms taken calls (Through u) j = λ d. recover-draws taken.row calls j d

  recover-seizes : (calls : List Call) (walk : Walk Taken) → J calls → Asking P calls (units_seized r walk)
  recover-seizes calls (Stopped taken e reply) j = recover-refused taken.row (why None taken e reply) calls j
  recover-seizes calls (Through taken) j =
      fine-run P J (recover_confirming taken) (recover_confirmed r taken) (recover-confirms taken) (confirm r.id r.row false (parity_bay r.n r.row) ∷ []) (confirms (parity_bay r.n r.row), tt) tt calls j

  recover-units : (taken : Taken) (calls : List Call) → J calls → Asking P calls (seize_units r taken)
  recover-units taken calls j =
      fine-run P J (taking None with_wanted) (units_seized r) recover-seizes (claims r.id r.row Seize true (bays_of r.n r.row (units r.n)))
      (all-made (Fine P J) (claim r.id r.row Seize 0 true) takes (bays_of r.n r.row (units r.n))) taken calls j

  recover-claimed : (calls : List Call) (walk : Walk Taken) → J calls → Asking P calls (parity_seized r walk)
  recover-claimed calls (Stopped taken e reply) j = recover-refused taken.row (why None taken e reply) calls j
  recover-claimed calls (Through taken) j = by taken.row.parity
    where
      operator : (b : Bool) → Asking P calls (if b then seize_units r taken else recover_refused r taken.row (causes.Gone (parity_bay r.n r.row)))
      operator true = recover-units taken calls j
      operator false = recover-refused taken.row (causes.Gone (parity_bay r.n r.row)) calls j

      by : (o : Option Grant) → Asking P calls (parity_taken r taken o)
      by (Some grant) = recover-units taken calls j
      by None = operator (r.host.0 == 0)

  recover-begins : P [] (claim r.id r.row Seize 0 true (parity_bay r.n r.row)) → ((call : Call) → errand_of call ≡ claim r.id r.row Seize 0 true (parity_bay r.n r.row) → J (call ∷ [])) →
      Asking P [] (recover_steps r)
  recover-begins first then_known =
      let taken : Taken = begun (whole_part r) no_rows in
      walk-asking P (taking None with_parity) (parity_seized r) (claim r.id r.row Seize 0 true (parity_bay r.n r.row)) [] taken [] first
      (λ call is fit b e. recover-claimed (call ∷ []) (Through b) (then_known call is))
      (λ call is fit none. recover-claimed (call ∷ []) (Stopped taken (claim r.id r.row Seize 0 true (parity_bay r.n r.row)) call.answer.reply) (then_known call is))

-- They ask of their row alone
abbrev Any : List Call → Type 0
Any calls = Unit {0}

of-row : (row : RowNo) (e : Errand) → row_of e.request ≡ Some row → Fine (IsOfRow row) Any e
of-row row e is calls u = (is, λ call of. tt)

pub mends-of-row : (m : Repair) → Asking (IsOfRow m.row) [] (mend_steps m)
mends-of-row m =
    mend-begins m (IsOfRow m.row) Any (λ bay. of-row m.row (release m.id m.row None bay) refl) (λ bay. of-row m.row (confirm m.id m.row false bay) refl)
    (λ bay. of-row m.row (claim m.id m.row Mend 0 true bay) refl) (λ n cell. of-row m.row (put m.id m.row n cell m.target) refl) refl (λ call is. tt)

pub recoveries-of-row : (r : Rescue) → Asking (IsOfRow r.row) [] (recover_steps r)
recoveries-of-row r =
    recover-begins r (IsOfRow r.row) Any (λ bay. of-row r.row (release r.id r.row None bay) refl) (λ bay. of-row r.row (confirm r.id r.row false bay) refl)
    (λ bay. of-row r.row (claim r.id r.row Seize 0 true bay) refl) (λ n cell bay. of-row r.row (put r.id r.row n cell bay) refl) refl (λ call is. tt)

-- and claim the parity first
module _ (n : ℕ) (row : RowNo) (id : Number) where
  abbrev Claimed : List Call → Type 0
  Claimed calls = Happened (IsClaim (parity_bay n row) row) calls

  first-releases : (bay : BayNo) → Fine (ClaimsParityFirst n) Claimed (release id row None bay)
  first-releases bay calls c = (record { shares = λ at x want is. absurd (cc); claims = λ at x how mask want is. absurd (cc) }, λ call is. inr c)

  first-confirms : (bay : BayNo) → Fine (ClaimsParityFirst n) Claimed (confirm id row false bay)
  first-confirms bay calls c = (record { shares = λ at x want is. absurd (cc); claims = λ at x how mask want is. absurd (cc) }, λ call is. inr c)

  first-puts : (number : Number) (cell : Cell) (bay : BayNo) → Fine (ClaimsParityFirst n) Claimed (put id row number cell bay)
  first-puts number cell bay calls c = (record { shares = λ at x want is. absurd (cc); claims = λ at x how mask want is. absurd (cc) }, λ call is. inr c)

  module _ (how : How) where
    first-takes : (bay : BayNo) → Fine (ClaimsParityFirst n) Claimed (claim id row how 0 true bay)
    first-takes bay calls c = (
      record {
        shares = λ at x want is. absurd (cc);
        claims = λ at x way mask want is.
            (let both : Claim row id how 0 true ≡ Claim at x way mask want = is in
            let same : row ≡ at = cc in
            inr (subst (λ (other : RowNo). Happened (IsClaim (parity_bay n other) other) calls) same c));
      },
      λ call is. inr c,
    )

    -- that of the parity is the first
    first-asks : ClaimsParityFirst n [] (claim id row how 0 true (parity_bay n row))
    first-asks = record {
      shares = λ at x want is. absurd (cc);
      claims = λ at x way mask want is.
          (let both : Claim row id how 0 true ≡ Claim at x way mask want = is in
          let same : row ≡ at = cc in
          inl (ap (λ (other : RowNo). parity_bay n other) same));
    }

    first-claimed : (call : Call) → errand_of call ≡ claim id row how 0 true (parity_bay n row) → Claimed (call ∷ [])
    first-claimed call is = inl (bay-is call (claim id row how 0 true (parity_bay n row)) is, id, how, 0, true, what-is call (claim id row how 0 true (parity_bay n row)) is)

pub mends-claim : (m : Repair) → Asking (ClaimsParityFirst m.n) [] (mend_steps m)
mends-claim m =
    mend-begins m (ClaimsParityFirst m.n) (Claimed m.n m.row m.id) (first-releases m.n m.row m.id) (first-confirms m.n m.row m.id) (first-takes m.n m.row m.id Mend)
    (λ n cell. first-puts m.n m.row m.id n cell m.target) (first-asks m.n m.row m.id Mend) (first-claimed m.n m.row m.id Mend)

pub recoveries-claim : (r : Rescue) → Asking (ClaimsParityFirst r.n) [] (recover_steps r)
recoveries-claim r =
    recover-begins r (ClaimsParityFirst r.n) (Claimed r.n r.row r.id) (first-releases r.n r.row r.id) (first-confirms r.n r.row r.id) (first-takes r.n r.row r.id Seize)
    (first-puts r.n r.row r.id) (first-asks r.n r.row r.id Seize) (first-claimed r.n r.row r.id Seize)

-- Writes. What one asks
module _ (a : Access) where
  abbrev P : List Call → Errand → Type 0
  P = TakesSo a.n

  abbrev IsClaimed : RowNo → List Call → Type 0
  IsClaimed row calls = Happened (IsClaim (parity_bay a.n row) row) calls

  -- of a row that it has taken: it has shared its units only where the parity was granted
  abbrev IsKnown : List Call → Row → Type 0
  IsKnown calls row = lacks row.others ≡ true → ParityGranted a.n row.part.row calls

  known-more : (calls : List Call) (call : Call) (rows : List Row) → AllByRecursion (IsKnown calls) rows → AllByRecursion (IsKnown (call ∷ calls)) rows
  known-more calls call rows all = all-weaken (IsKnown calls) (IsKnown (call ∷ calls)) (λ row k e. inr (k e)) rows all

  share-may : (row : RowNo) (calls : List Call) → ParityGranted a.n row calls → (bay : BayNo) → P calls (share a.id row bay)
  share-may row calls granted bay = record {
    shares = λ at id want is.
        (let both : Share row a.id true ≡ Share at id want = is in
        let same : row ≡ at = cc in
        subst (λ (other : RowNo). ParityGranted a.n other calls) same granted);
    claims = λ at id how mask want is. absurd (cc);
    confirms = λ at id is. absurd (cc);
  }

  claim-may : (row : RowNo) (want : Bool) (calls : List Call) → IsClaimed row calls → (want ≡ true → ParityGranted a.n row calls) → (bay : BayNo) → P calls (claim a.id row Plain 0 want bay)
  claim-may row want calls claimed granted bay = record {
    shares = λ at id wanted is. absurd (cc);
    claims = λ at id how mask wanted is.
        (let both : Claim row a.id Plain 0 want ≡ Claim at id how mask wanted = is in
        let same : row ≡ at = cc in
        let wants : want ≡ wanted = cc in
        inr (subst (λ (other : RowNo). IsClaimed other calls) same claimed, λ e. subst (λ (other : RowNo). ParityGranted a.n other calls) same (granted (wants ∙ e))));
    confirms = λ at id is. absurd (cc);
  }

  parity-may : (part : RowPart) (calls : List Call) → P calls (parity_claim a part)
  parity-may part calls = record {
    shares = λ at id want is. absurd (cc);
    claims = λ at id how mask want is.
        (let both : Claim part.row a.id Plain part.mask (is_small_plan (plan_of a part)) ≡ Claim at id how mask want = is in
        let same : part.row ≡ at = cc in
        inl (ap (λ (other : RowNo). parity_bay a.n other) same));
    confirms = λ at id is. absurd (cc);
  }

  confirm-may : (row : Row) (calls : List Call) → IsKnown calls row → P calls (row_confirm a row)
  confirm-may row calls k = record {
    shares = λ at id want is. absurd (cc);
    claims = λ at id how mask want is. absurd (cc);
    confirms = λ at id is.
        (let both : Confirm row.part.row a.id (lacks row.others) ≡ Confirm at id true = is in
        let same : row.part.row ≡ at = cc in
        let lacking : lacks row.others ≡ true = cc in
        subst (λ (other : RowNo). ParityGranted a.n other calls) same (k lacking));
  }

  release-may : (row : RowNo) (bay : BayNo) → Fine P Any (release a.id row None bay)
  release-may row bay calls u = (record { shares = λ at id want is. absurd (cc); claims = λ at id how mask want is. absurd (cc); confirms = λ at id is. absurd (cc) }, λ call is. tt)

  put-may : (row : RowNo) (number : Number) (cell : Cell) (bay : BayNo) → Fine P Any (put a.id row number cell bay)
  put-may row number cell bay calls u = (record { shares = λ at id want is. absurd (cc); claims = λ at id how mask want is. absurd (cc); confirms = λ at id is. absurd (cc) }, λ call is. tt)

  -- Releases and puts
  write-frees : (rows : List Row) → AllByRecursion (Fine P Any) (write_releases a rows)
  write-frees rows =
      all-flat (Fine P Any) (λ (row : Row). releases a.id row.part.row None (write_holds a.mode a.n row))
      (λ row. all-made (Fine P Any) (release a.id row.part.row None) (release-may row.part.row) (write_holds a.mode a.n row)) rows

  readers-free : (mode : Mode) (rows : List Row) → AllByRecursion (Fine P Any) (reader_releases mode a rows)
  readers-free Order rows = tt
  readers-free Lock rows =
      all-flat (Fine P Any) (λ (row : Row). releases a.id row.part.row None (bays_of a.n row.part.row (others_granted a.n row)))
      (λ row. all-made (Fine P Any) (release a.id row.part.row None) (release-may row.part.row) (bays_of a.n row.part.row (others_granted a.n row))) rows

  write-refuses : (rows : List Row) (cause : Cause) (calls : List Call) → Asking P calls (refused_steps (write_releases a rows) cause)
  write-refuses rows cause calls = fine-run P Any releasing (end_as (ends.Refused cause)) (λ cs walk u. tt) (write_releases a rows) (write-frees rows) tt calls tt

  module _ (n : Number) where
    write-ends : (calls : List Call) (walk : Walk Puts) → Any calls → Asking P calls (write_end a n walk)
    write-ends calls (Through puts) u = tt
    write-ends calls (Stopped puts e r) u = tt

    lasts : (rows : List Row) (calls : List Call) (puts : Puts) → Asking P calls (write_last a n rows puts)
    lasts rows calls puts = fine-run P Any (finishing a n) (write_end a n) write-ends (reader_releases a.mode a rows) (readers-free a.mode rows) puts calls tt

    module _ (rest : Puts → Steps Finish) (on : (calls : List Call) (puts : Puts) → Asking P calls (rest puts)) (row : Row) where
      parity-ends : (calls : List Call) (walk : Walk Puts) → Any calls → Asking P calls (parity_done row rest walk)
      parity-ends calls (Through puts) u = on calls puts
      parity-ends calls (Stopped puts e r) u = on calls (with_trouble puts (trouble_of row e r))

      parity-puts : (calls : List Call) (puts : Puts) (grant : Option Grant) → Asking P calls (put_parity a n row rest puts grant)
      parity-puts calls puts None = on calls puts
      parity-puts calls puts (Some grant) =
          fine-run P Any (putting_parity a n row) (parity_done row rest) parity-ends (parity_put a n row ∷ []) (put-may row.part.row n (new_parity a row) (parity_bay a.n row.part.row), tt) puts calls tt

      data-ends : (calls : List Call) (walk : Walk Puts) → Any calls → Asking P calls (data_done a n row rest walk)
      data-ends calls (Through puts) u = parity-puts calls puts row.parity
      data-ends calls (Stopped puts e r) u = on calls (with_trouble puts (trouble_of row e r))

      data-may : (unit : ℕ) → Fine P Any (data_put a n row unit)
      data-may unit = put-may row.part.row n (plain_cell (block_at a row.part unit)) (bay_of a.n row.part.row unit)

      data-puts : (calls : List Call) (puts : Puts) → Asking P calls (bind (run (putting_data a n row) (data_puts a n row) puts) (data_done a n row rest))
      data-puts calls puts =
          fine-run P Any (putting_data a n row) (data_done a n row rest) data-ends (data_puts a n row)
          (all-made (Fine P Any) (data_put a n row) data-may (granted_of (zip (wanted_units a row) row.wanted))) puts calls tt

    rows-put : (all rows : List Row) (calls : List Call) (puts : Puts) → Asking P calls (put_rows a n (write_last a n all) rows puts)
    rows-put all [] calls puts = lasts all calls puts
    rows-put all (row ∷ rows) calls puts = data-puts (put_rows a n (write_last a n all) rows) (rows-put all rows) row calls (at_row puts)

  draws-write : (rows : List Row) (calls : List Call) (d : Result Number Spent) → Asking P calls (write_drawn a rows d)
  draws-write rows calls (Err spent) = write-refuses rows (causes.Spent spent.seen) calls
  draws-write rows calls (Ok n) = rows-put n rows rows calls no_puts

  numbers-write : (mode : Mode) (rows : List Row) (calls : List Call) → Asking P calls (write_numbered mode a rows)
  numbers-write Order rows calls = rows-put a.id rows rows calls no_puts
  numbers-write Lock rows calls = draws-write rows calls

  write-stops : (taken : Taken) (e : Errand) (r : Reply) (calls : List Call) → Asking P calls (write_stopped a taken e r)
  write-stops taken e r calls = write-refuses (taken.before ++ taken.row ∷ []) (why (behind_from a.mode a.id) taken e r) calls

  -- Confirms
  write-confirms : (rows left : List Row) (done : Rows) (calls : List Call) → AllByRecursion (IsKnown calls) left → Asking P calls (confirm_rows a rows left done)
  write-confirms rows [] done calls all = numbers-write a.mode done.rows calls
  write-confirms rows (row ∷ left) done calls all =
      walk-asking P (confirming a row) (row_confirmed a rows row (confirm_rows a rows left)) (row_confirm a row) [] done calls (confirm-may row calls all.0)
      (λ call is fit d e. write-confirms rows left d (call ∷ calls) (known-more calls call left all.1))
      (λ call is fit none. write-refuses rows (confirm_cause a row done (row_confirm a row) call.answer.reply) (call ∷ calls))

  -- While it takes this part of a row: it has claimed the parity, which was granted where so is said
  record IsTaking (part : RowPart) (held : Bool) (calls : List Call) (taken : Taken) : Type 0 where
    is : taken.row.part ≡ part
    claimed : IsClaimed part.row calls
    granted : held ≡ true → ParityGranted a.n part.row calls
    before : AllByRecursion (IsKnown calls) taken.before
    shared : lacks taken.row.others ≡ true → ParityGranted a.n part.row calls

  module _ (part : RowPart) where
    taking-more : (held : Bool) (calls : List Call) (call : Call) (taken : Taken) → IsTaking part held calls taken → IsTaking part held (call ∷ calls) taken
    taking-more held calls call taken t = record {
      is = t.is;
      claimed = inr t.claimed;
      granted = λ e. inr (t.granted e);
      before = known-more calls call taken.before t.before;
      shared = λ e. inr (t.shared e);
    }

    taking-less : (held : Bool) (calls : List Call) (taken : Taken) → IsTaking part held calls taken → IsTaking part false calls taken
    taking-less held calls taken t = record { is = t.is; claimed = t.claimed; granted = λ e. absurd (cc); before = t.before; shared = t.shared }

    wanted-kept : (held : Bool) (calls : List Call) (taken : Taken) (bay : BayNo) (o : Option Grant) → IsTaking part held calls taken → IsTaking part held calls (with_grant with_wanted taken bay o)
    wanted-kept held calls taken bay None t = record { is = t.is; claimed = t.claimed; granted = t.granted; before = t.before; shared = t.shared }
    wanted-kept held calls taken bay (Some grant) t = record { is = t.is; claimed = t.claimed; granted = t.granted; before = t.before; shared = t.shared }

    other-kept : (calls : List Call) (taken : Taken) (bay : BayNo) (o : Option Grant) → IsTaking part true calls taken → IsTaking part true calls (with_grant with_other taken bay o)
    other-kept calls taken bay None t = record { is = t.is; claimed = t.claimed; granted = t.granted; before = t.before; shared = λ e. t.granted refl }
    other-kept calls taken bay (Some grant) t = record { is = t.is; claimed = t.claimed; granted = t.granted; before = t.before; shared = λ e. t.granted refl }

    module _ (held : Bool) (keep : Option Grant → Row → Row)
        (kept : (calls : List Call) (taken : Taken) (bay : BayNo) (o : Option Grant) → IsTaking part held calls taken → IsTaking part held calls (with_grant keep taken bay o)) where
      granted-kept : (calls : List Call) (taken : Taken) (bay : BayNo) → IsTaking part held calls taken → (cause : Option Cause) (o : Option Grant) →
          IfSome (option_map (with_grant keep taken bay) (unless cause o)) (IsTaking part held calls)
      granted-kept calls taken bay t (Some cause) o = tt
      granted-kept calls taken bay t None o = kept calls taken bay o t

      taking-keeps : (calls : List Call) (call : Call) (taken : Taken) (e : Errand) → IsTaking part held calls taken →
          IfSome ((claiming a keep).step taken e call.answer.reply) (IsTaking part held (call ∷ calls))
      taking-keeps calls call taken e t =
          granted-kept (call ∷ calls) taken e.bay (taking-more held calls call taken t) (refusal (behind_from a.mode a.id) taken.missing e.bay call.answer.reply) (grant_of call.answer.reply)

      some-kept : (calls : List Call) (taken : Taken) (bay : BayNo) → IsTaking part held calls taken → (o : Option Grant) →
          IfSome (option_map (λ (grant : Grant). with_grant keep taken bay (Some grant)) o) (IsTaking part held calls)
      some-kept calls taken bay t None = tt
      some-kept calls taken bay t (Some grant) = kept calls taken bay (Some grant) t

      until-keeps : (calls : List Call) (call : Call) (taken : Taken) (e : Errand) → IsTaking part held calls taken →
          IfSome ((taking_until keep).step taken e call.answer.reply) (IsTaking part held (call ∷ calls))
      until-keeps calls call taken e t = some-kept (call ∷ calls) taken e.bay (taking-more held calls call taken t) (grant_of call.answer.reply)

    -- what it may ask then
    abbrev May : Bool → Errand → Type 0
    May held e = (calls : List Call) (taken : Taken) → IsTaking part held calls taken → P calls e

    wanted-may : (want : Bool) (taken : Taken) → taken.row.part ≡ part → AllByRecursion (May want) (wanted_claims a want taken.row.part)
    wanted-may want taken same =
        subst (λ (p : RowPart). AllByRecursion (May want) (wanted_claims a want p)) (sym same)
        (all-made (May want) (claim a.id part.row Plain 0 want) (λ bay calls x t. claim-may part.row want calls t.claimed t.granted bay) (bays_of a.n part.row (units_in a.n part.mask)))

    others-may : (taken : Taken) → taken.row.part ≡ part → AllByRecursion (May true) (other_shares a taken.row.part)
    others-may taken same =
        subst (λ (p : RowPart). AllByRecursion (May true) (other_shares a p)) (sym same)
        (all-made (May true) (share a.id part.row) (λ bay calls x t. share-may part.row calls (t.granted refl) bay) (bays_of a.n part.row (units_out a.n part.mask)))

    module _ (rest : Rows → Steps Finish) (on : (calls : List Call) (rows : Rows) → AllByRecursion (IsKnown calls) rows.rows → Asking P calls (rest rows)) where
      row-ends : (held : Bool) (calls : List Call) (taken : Taken) → IsTaking part held calls taken → Asking P calls (rest (row_ended taken))
      row-ends held calls taken t =
          on calls (row_ended taken)
          (all-append (IsKnown calls) taken.before (taken.row ∷ []) t.before (λ e. subst (λ (p : RowPart). ParityGranted a.n p.row calls) (sym t.is) (t.shared e), tt))

      wanted-claimed : (want : Bool) (taken : Taken) (calls : List Call) → IsTaking part want calls taken → Asking P calls (claim_wanted a rest want taken)
      wanted-claimed want taken calls t =
          known-run P (IsTaking part want) (claiming a with_wanted) (row_claimed a rest) (taking-more want) (taking-keeps want with_wanted (wanted-kept want)) (row-ends want)
          (λ cs x e r k. write-stops x e r cs) (wanted_claims a want taken.row.part) (wanted-may want taken t.is) taken calls t

      others-claimed : (taken : Taken) (lacking : Bool) (calls : List Call) → IsTaking part true calls taken → Asking P calls (share_others a rest taken lacking)
      others-claimed taken false calls t = row-ends true calls taken t
      others-claimed taken true calls t =
          known-run P (IsTaking part true) (claiming a with_other) (row_claimed a rest) (taking-more true) (taking-keeps true with_other other-kept) (row-ends true)
          (λ cs x e r k. write-stops x e r cs) (other_shares a taken.row.part) (others-may taken t.is) taken calls t

      share-stops : (taken : Taken) (bay : BayNo) (cause : Option Cause) (calls : List Call) → IsTaking part true calls taken → Asking P calls (share_stopped a rest taken bay cause)
      share-stops taken bay (Some cause) calls t = write-refuses (taken.before ++ taken.row ∷ []) cause calls
      share-stops taken bay None calls t = wanted-claimed true (with_grant with_other taken bay None) calls (other-kept calls taken bay None t)

      row-begins : (taken : Taken) (grant : Option Grant) (plan : Plan) (calls : List Call) → IsTaking part (is_some grant) calls taken → Asking P calls (claim_row a rest taken grant plan)
      row-begins taken None plan calls t = wanted-claimed false taken calls t
      row-begins taken (Some grant) Full calls t = wanted-claimed false taken calls (taking-less true calls taken t)
      row-begins taken (Some grant) Small calls t =
          known-run P (IsTaking part true) (claiming a with_wanted) (small_claimed a rest) (taking-more true) (taking-keeps true with_wanted (wanted-kept true))
          (λ cs x k. others-claimed x (lacks x.row.wanted) cs k) (λ cs x e r k. write-stops x e r cs) (wanted_claims a true taken.row.part) (wanted-may true taken t.is) taken calls t
      row-begins taken (Some grant) Reconstruct calls t =
          known-run P (IsTaking part true) (taking_until with_other) (others_shared a rest) (taking-more true) (until-keeps true with_other other-kept)
          (λ cs x k. wanted-claimed false x cs (taking-less true cs x k))
          (λ cs x e r k. share-stops x e.bay (refusal (behind_from a.mode a.id) x.missing e.bay r) cs k) (other_shares a taken.row.part) (others-may taken t.is) taken calls t

    -- The claim of the parity comes first
    module _ (done : Rows) (calls : List Call) (call : Call) (is : errand_of call ≡ parity_claim a part) (all : AllByRecursion (IsKnown calls) done.rows) where
      parity-claimed : IsClaim (parity_bay a.n part.row) part.row call
      parity-claimed = (bay-is call (parity_claim a part) is, a.id, Plain, part.mask, is_small_plan (plan_of a part), what-is call (parity_claim a part) is)

      abbrev First : Option Grant → Taken
      First o = with_grant with_parity (begun part done) (parity_bay a.n part.row) o

      first-taken : (o : Option Grant) → grant_of call.answer.reply ≡ o → IsTaking part (is_some (First o).row.parity) (call ∷ calls) (First o)
      first-taken None e = record {
        is = refl;
        claimed = inl parity-claimed;
        granted = λ x. absurd (cc);
        before = known-more calls call done.rows all;
        shared = λ x. absurd (cc);
      }
      first-taken (Some grant) e = record {
        is = refl;
        claimed = inl parity-claimed;
        granted = λ x. inl (parity-claimed, subst (λ (o : Option Grant). IsSome o) (sym e) refl);
        before = known-more calls call done.rows all;
        shared = λ x. absurd (cc);
      }

      taken-so : (b : Taken) (cause : Option Cause) (o : Option Grant) → option_map (with_grant with_parity (begun part done) (parity_bay a.n part.row)) (unless cause o) ≡ Some b → First o ≡ b
      taken-so b (Some cause) o e = absurd (cc)
      taken-so b None o e = cc

      parity-taken : (b : Taken) → (claiming a with_parity).step (begun part done) (parity_claim a part) call.answer.reply ≡ Some b → IsTaking part (is_some b.row.parity) (call ∷ calls) b
      parity-taken b e =
          subst (λ (x : Taken). IsTaking part (is_some x.row.parity) (call ∷ calls) x)
          (taken-so b (refusal (behind_from a.mode a.id) done.missing (parity_bay a.n part.row) call.answer.reply) (grant_of call.answer.reply) e)
          (first-taken (grant_of call.answer.reply) refl)

  rows-claimed : (left : List RowPart) (done : Rows) (calls : List Call) → AllByRecursion (IsKnown calls) done.rows → Asking P calls (claim_rows a left done)
  rows-claimed [] done calls all = write-confirms done.rows done.rows (record done { rows = [] }) calls all
  rows-claimed (part ∷ left) done calls all =
      walk-asking P (claiming a with_parity) (parity_claimed a (claim_rows a left)) (parity_claim a part) [] (begun part done) calls (parity-may part calls)
      (λ call is fit b e. row-begins part (claim_rows a left) (λ cs rows k. rows-claimed left rows cs k) b b.row.parity (plan_of a b.row.part) (call ∷ calls)
      (parity-taken part done calls call is all b e))
      (λ call is fit none. write-stops (begun part done) (parity_claim a part) call.answer.reply (call ∷ calls))

pub writes-take : (a : Access) → 3 ≤ a.n → Asking (TakesSo a.n) [] (write_steps a)
writes-take a least = rows-claimed a a.parts no_rows [] tt
