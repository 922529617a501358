-- What a recovery commits: a unit is lost, whose claim was answered that it is missing.
use Rattle.std.proofs.Common.{arith, ◌≡◌, ◌⊎◌, inl, inr, refl, sym, ap, subst, ℕ, ◌+◌, ◌-◌, ◌<◌, ◌≤◌, ◌==◌, Bool, true, false, if◌then◌else◌, List, [], ◌∷◌, ◌++◌, zip, Option, Some, None, IsSome, option_map, Result, Ok, Err}
use Rattle.std.specs.List.{AllByRecursion}
use Rattle.raid_base.specs.declared.numbers.BayNo.{BayNo}
use Rattle.raid_base.specs.declared.numbers.Number.{Number}
use Rattle.raid_base.specs.declared.numbers.Spent.{Spent}
use Rattle.raid_base.specs.declared.cells.Content.TheVariants.{Lost}
use Rattle.raid_base.specs.declared.messages.How.TheVariants.{Seize}
use Rattle.raid_base.specs.declared.messages.Call.{Call}
use Rattle.raid_base.specs.declared.messages.Errand.{Errand}
use Rattle.raid_base.specs.declared.messages.Grant.{Grant}
use Rattle.raid_base.specs.declared.messages.Request.{Request}
use Rattle.raid_base.specs.declared.messages.Request.TheVariants.{Claim}
use Rattle.raid_base.specs.declared.jobs.Cause.{Cause}
use Rattle.raid_base.specs.declared.jobs.Cause.TheVariants as causes
use Rattle.raid_base.specs.declared.jobs.Ended.{Ended}
use Rattle.raid_base.specs.declared.jobs.Ended.TheVariants as ends
use Rattle.raid_base.specs.Fits.{fits, fits_claim}
use Rattle.raid_base.specs.Replies.{grant_of}
use Rattle.raid_base.specs.Steps.{Steps, Ends, Commit, bind, go_on, Walk, Through, Stopped, Phase, run, errand_of}
use Rattle.stripe_layout.specs.Placement.{parity_bay, bay_of, bays_of, units}
use Rattle.attempts.specs.declared.Rescue.{Rescue}
use Rattle.attempts.specs.Taking.{Finish, refused_by_quit, Row, Taken, begun, no_rows, with_grant, with_parity, with_wanted, refusal, unless, taking, why, claim, claims, confirm}
use Rattle.attempts.specs.Releases.{parity_granted, end_as}
use Rattle.attempts.specs.Puts.{put}
use Rattle.attempts.specs.Mending.{put_cause}
use Rattle.attempts.specs.Recovery.{whole_part, unseized_data, unseized_parity, granted_data, give_back, recover_refused, missing_in, is_torn, Verdict, Leaves, Sums, hole_verdict, verdict_of, verdict, recovered_parity, lost_commits, recover_putting, recover_put, recover_by, recover_drawn, recover_confirming, recover_confirmed, units_seized, seize_units, parity_taken, parity_seized, recover_steps}
use Rattle.attempts.proofs.SoundLemmas.{units-all}
use Rattle.histories.specs.Calls.{Happened, IsClaim}
use Rattle.histories.specs.Torn.{IsMissing}
use Rattle.row_laws.proofs.owners.RowOwnersTrees.{what-is, bay-is, answers}
use Rattle.serial_laws.proofs.contents.CommittingTrees.{Committing}

-- what a recovery commits is lost, and its claim was answered that it is missing
abbrev pub CommitsMissing : Rescue → List Call → Errand → List Commit → Type 0
CommitsMissing r calls e commits = AllByRecursion (λ (c : Commit). (c.row ≡ r.row) × (c.unit + 1 < r.n) × (c.content ≡ Lost)
    × Happened (λ call. IsClaim (bay_of r.n r.row c.unit) r.row call × IsMissing call) calls) commits

module _ (P : List Call → Errand → List Commit → Type 0) where
  -- a walk goes on or stops
  go-committing : {A B : Type 0} (calls : List Call) (o : Option A) (g : A → Steps (Walk A)) (s : Steps (Walk A)) (f : Walk A → Steps B) →
      ((a : A) → o ≡ Some a → Committing P calls (bind (g a) f)) → (o ≡ None → Committing P calls (bind s f)) → Committing P calls (bind (go_on o g s) f)
  go-committing calls (Some a) g s f on off = on a refl
  go-committing calls None g s f on off = off refl

  pub walk-committing : {A B : Type 0} (phase : Phase A) (f : Walk A → Steps B) (e : Errand) (es : List Errand) (a : A) (calls : List Call) → P calls e (phase.commits a e) →
      ((call : Call) → errand_of call ≡ e → fits call.ask.what call.answer.reply ≡ true → (b : A) → phase.step a e call.answer.reply ≡ Some b →
      Committing P (call ∷ calls) (bind (run phase es b) f)) →
      ((call : Call) → errand_of call ≡ e → fits call.ask.what call.answer.reply ≡ true → phase.step a e call.answer.reply ≡ None → Committing P (call ∷ calls) (f (Stopped a e call.answer.reply))) →
      Committing P calls (bind (run phase (e ∷ es) a) f)
  walk-committing phase f e es a calls may on off = (
    may,
    λ call is fit. go-committing (call ∷ calls) (phase.step a e call.answer.reply) (λ b. run phase es b) (Ends (Stopped a e call.answer.reply)) f (on call is fit) (off call is fit),
  )

module _ (r : Rescue) where
  abbrev Commits : List Call → Steps Finish → Type 0
  Commits calls s = Committing (CommitsMissing r) calls s

  -- the claim of a unit was answered that it is missing
  abbrev IsGap : List Call → ℕ → Type 0
  IsGap calls u = Happened (λ call. IsClaim (bay_of r.n r.row u) r.row call × IsMissing call) calls

  -- What was answered of these units but those that are left: where one has no grant it is missing
  abbrev Gaps : List Call → List ℕ → List ℕ → List (Option Grant) → Type 0
  Gaps calls us left [] = us ≡ left
  Gaps calls [] left (o ∷ gs) = ⊥
  Gaps calls (u ∷ us) left (o ∷ gs) = (o ≡ None → IsGap calls u) × Gaps calls us left gs

  gaps-more : (calls : List Call) (call : Call) (us left : List ℕ) (gs : List (Option Grant)) → Gaps calls us left gs → Gaps (call ∷ calls) us left gs
  gaps-more calls call us left [] h = h
  gaps-more calls call [] left (o ∷ gs) h = absurd h
  gaps-more calls call (u ∷ us) left (o ∷ gs) h = (λ none. inr (h.0 none), gaps-more calls call us left gs h.1)

  gaps-next : (calls : List Call) (call : Call) (us left : List ℕ) (u : ℕ) (gs : List (Option Grant)) (o : Option Grant) → (o ≡ None → IsGap (call ∷ calls) u) → Gaps calls us (u ∷ left) gs →
      Gaps (call ∷ calls) us left (gs ++ o ∷ [])
  gaps-next calls call us left u [] o gap h = let e : u ∷ left ≡ us = sym h in subst (λ (xs : List ℕ). Gaps (call ∷ calls) xs left (o ∷ [])) e (gap, refl)
  gaps-next calls call [] left u (g ∷ gs) o gap h = absurd h
  gaps-next calls call (v ∷ us) left u (g ∷ gs) o gap h = (λ none. inr (h.0 none), gaps-next calls call us left u gs o gap h.1)

  -- the unit that is missing
  gap-in : (calls : List Call) (us : List ℕ) (gs : List (Option Grant)) (unit : ℕ) → AllByRecursion (λ u. u < r.n - 1) us → Gaps calls us [] gs → missing_in (zip us gs) ≡ Some unit →
      (unit + 1 < r.n) × IsGap calls unit
  gap-in calls [] gs unit all h e = absurd (cc)
  gap-in calls (u ∷ us) [] unit all h e = absurd (cc)
  gap-in calls (u ∷ us) (Some grant ∷ gs) unit all h e = gap-in calls us gs unit all.1 h.1 e
  gap-in calls (u ∷ us) (None ∷ gs) unit all h e =
      let same : u ≡ unit = cc in
      let below : u < r.n - 1 = all.0 in
      let less : u + 1 < r.n = omega (arith, below) in
      (subst (λ (v : ℕ). v + 1 < r.n) same less, subst (λ (v : ℕ). IsGap calls v) same (h.0 refl))

  -- It gives back, which commits nothing
  frees-none : (stop : Unit {0} → Ended) (last : Ended) (bays : List BayNo) (calls : List Call) →
      Commits calls (bind (run (record { step = λ u errand reply. Some u; stop = stop; commits = λ _ _. [] }) (give_back r bays) tt) (end_as last))
  frees-none stop last [] calls = tt
  frees-none stop last (bay ∷ bays) calls = (tt, λ call is fit. frees-none stop last bays (call ∷ calls))

  refuses-none : (row : Row) (cause : Cause) (calls : List Call) → Commits calls (recover_refused r row cause)
  refuses-none row cause calls = frees-none refused_by_quit (ends.Refused cause) (unseized_data r row ++ unseized_parity r row.parity) calls

  -- The put of the parity
  abbrev IsHole : List Call → Option ℕ → Type 0
  IsHole calls None = Unit {0}
  IsHole calls (Some unit) = (unit + 1 < r.n) × IsGap calls unit

  lost-commits : (calls : List Call) (e : Errand) (lost : Option ℕ) → IsHole calls lost → CommitsMissing r calls e (lost_commits r lost)
  lost-commits calls e None h = tt
  lost-commits calls e (Some unit) h = ((refl, h.0, refl, h.1), tt)

  put-commits : (row : Row) (n : Number) (lost : Option ℕ) (calls : List Call) (walk : Walk (Unit {0})) → Commits calls (recover_put r row n lost walk)
  put-commits row n lost calls (Stopped u e reply) = frees-none refused_by_quit (ends.Refused (put_cause r.row e reply)) (unseized_data r row) calls
  put-commits row n lost calls (Through u) = frees-none (λ _. ends.Recovered n false lost) (ends.Recovered n true lost) (granted_data r row) calls

  abbrev IsFound : List Call → Verdict → Type 0
  IsFound calls Leaves = Unit {0}
  IsFound calls (Sums lost) = IsHole calls lost

  by-commits : (row : Row) (n : Number) (calls : List Call) (v : Verdict) → IsFound calls v → Commits calls (recover_by r row n v)
  by-commits row n calls Leaves h = frees-none refused_by_quit (ends.Recovered n true None) (granted_data r row ++ parity_granted r.n r.row row.parity) calls
  by-commits row n calls (Sums lost) h =
      walk-committing (CommitsMissing r) (recover_putting r lost) (recover_put r row n lost) (put r.id r.row n (recovered_parity row lost) (parity_bay r.n r.row)) [] tt calls
      (lost-commits calls (put r.id r.row n (recovered_parity row lost) (parity_bay r.n r.row)) lost h)
      (λ call is fit u e. put-commits row n lost (call ∷ calls) (Through u))
      (λ call is fit none. put-commits row n lost (call ∷ calls) (Stopped tt (put r.id r.row n (recovered_parity row lost) (parity_bay r.n r.row)) call.answer.reply))

  -- what it has found of the units tells what it is to do
  found : (row : Row) (calls : List Call) → Gaps calls (units r.n) [] row.wanted → IsFound calls (verdict r row)
  found row calls h = by row.parity
    where
      torn : (unit : ℕ) → IsHole calls (Some unit) → (b : Bool) → IsFound calls (if b then Sums (Some unit) else Leaves)
      torn unit hole true = hole
      torn unit hole false = tt

      holes : (m : Option ℕ) → missing_in (zip (units r.n) row.wanted) ≡ m → IsFound calls (hole_verdict r row m)
      holes None e = tt
      holes (Some unit) e = torn unit (gap-in calls (units r.n) row.wanted unit (units-all r.n) h e) (is_torn r row unit)

      by : (o : Option Grant) → IsFound calls (verdict_of r row o)
      by None = tt
      by (Some grant) = holes (missing_in (zip (units r.n) row.wanted)) refl

  draws-commit : (row : Row) (calls : List Call) → Gaps calls (units r.n) [] row.wanted → (d : Result Number Spent) → Commits calls (recover_drawn r row d)
  draws-commit row calls h (Err spent) = refuses-none row (causes.Spent spent.seen) calls
  draws-commit row calls h (Ok n) = by-commits row n calls (verdict r row) (found row calls h)

  confirms-commit : (taken : Taken) (calls : List Call) → Gaps calls (units r.n) [] taken.row.wanted → Commits calls (units_seized r (Through taken))
  confirms-commit taken calls h =
      walk-committing (CommitsMissing r) (recover_confirming taken) (recover_confirmed r taken) (confirm r.id r.row false (parity_bay r.n r.row)) [] tt calls tt
      (λ call is fit u e. λ d. draws-commit taken.row (call ∷ calls) (gaps-more calls call (units r.n) [] taken.row.wanted h) d)
      (λ call is fit none. refuses-none taken.row _ (call ∷ calls))

  none-some : (o : Option Grant) → o ≡ None → IsSome o → ⊥
  none-some None e some = absurd (cc)
  none-some (Some grant) e some = absurd (cc)

  -- a claim that has no grant and does not refuse is missing
  gap-of : (u : ℕ) (missing : Option BayNo) (calls : List Call) (call : Call) → errand_of call ≡ claim r.id r.row Seize 0 true (bay_of r.n r.row u) → fits call.ask.what call.answer.reply ≡ true →
      refusal None missing (bay_of r.n r.row u) call.answer.reply ≡ None → grant_of call.answer.reply ≡ None → IsGap (call ∷ calls) u
  gap-of u missing calls call is fit stays none =
      let what : call.ask.what ≡ Claim r.row r.id Seize 0 true = what-is call (claim r.id r.row Seize 0 true (bay_of r.n r.row u)) is in
      let fitting : fits_claim Seize true call.answer.reply ≡ true = subst (λ (w : Request). fits w call.answer.reply ≡ true) what fit in
      by what (answers missing (bay_of r.n r.row u) call.answer.reply fitting stays)
    where
      by : call.ask.what ≡ Claim r.row r.id Seize 0 true → IsSome (grant_of call.answer.reply) ⊎ IsMissing call → IsGap (call ∷ calls) u
      by what (inl some) = absurd (none-some (grant_of call.answer.reply) none some)
      by what (inr gone) = inl ((bay-is call (claim r.id r.row Seize 0 true (bay_of r.n r.row u)) is, r.id, Seize, 0, true, what), gone)

  kept : (at : BayNo) (taken b : Taken) (c : Option Cause) (o : Option Grant) → option_map (with_grant with_wanted taken at) (unless c o) ≡ Some b → (c ≡ None) × (taken.row.wanted ++ o ∷ [] ≡ b.row.wanted)
  kept at taken b (Some cause) o e = absurd (cc)
  kept at taken b None None e = let same : with_grant with_wanted taken at None ≡ b = cc in (refl, ap (λ (t : Taken). t.row.wanted) same)
  kept at taken b None (Some grant) e = let same : with_grant with_wanted taken at (Some grant) ≡ b = cc in (refl, ap (λ (t : Taken). t.row.wanted) same)

  units-commit : (us : List ℕ) (taken : Taken) (calls : List Call) → Gaps calls (units r.n) us taken.row.wanted →
      Commits calls (bind (run (taking None with_wanted) (claims r.id r.row Seize true (bays_of r.n r.row us)) taken) (units_seized r))
  units-commit [] taken calls h = confirms-commit taken calls h
  units-commit (u ∷ us) taken calls h =
      walk-committing (CommitsMissing r) (taking None with_wanted) (units_seized r) (claim r.id r.row Seize 0 true (bay_of r.n r.row u)) (claims r.id r.row Seize true (bays_of r.n r.row us)) taken calls tt
      (λ call is fit b e. units-commit us b (call ∷ calls) (next call is fit b e))
      (λ call is fit none. refuses-none taken.row (why None taken (claim r.id r.row Seize 0 true (bay_of r.n r.row u)) call.answer.reply) (call ∷ calls))
    where
      next : (call : Call) → errand_of call ≡ claim r.id r.row Seize 0 true (bay_of r.n r.row u) → fits call.ask.what call.answer.reply ≡ true → (b : Taken) →
          option_map (with_grant with_wanted taken (bay_of r.n r.row u)) (unless (refusal None taken.missing (bay_of r.n r.row u) call.answer.reply) (grant_of call.answer.reply)) ≡ Some b →
          Gaps (call ∷ calls) (units r.n) us b.row.wanted
      next call is fit b e =
          let k = kept (bay_of r.n r.row u) taken b (refusal None taken.missing (bay_of r.n r.row u) call.answer.reply) (grant_of call.answer.reply) e in
          subst (λ (gs : List (Option Grant)). Gaps (call ∷ calls) (units r.n) us gs) k.1
          (gaps-next calls call (units r.n) us u taken.row.wanted (grant_of call.answer.reply) (gap-of u taken.missing calls call is fit k.0) h)

  parity-commits : (taken : Taken) (calls : List Call) → Gaps calls (units r.n) (units r.n) taken.row.wanted → Commits calls (parity_seized r (Through taken))
  parity-commits taken calls h = by taken.row.parity
    where
      operator : (b : Bool) → Commits calls (if b then seize_units r taken else recover_refused r taken.row (causes.Gone (parity_bay r.n r.row)))
      operator true = units-commit (units r.n) taken calls h
      operator false = refuses-none taken.row (causes.Gone (parity_bay r.n r.row)) calls

      by : (o : Option Grant) → Commits calls (parity_taken r taken o)
      by (Some grant) = units-commit (units r.n) taken calls h
      by None = operator (r.host.0 == 0)

  -- the claim of the parity gives no unit yet
  taken-none : (at : BayNo) (taken b : Taken) (c : Option Cause) (o : Option Grant) → option_map (with_grant with_parity taken at) (unless c o) ≡ Some b → taken.row.wanted ≡ b.row.wanted
  taken-none at taken b (Some cause) o e = absurd (cc)
  taken-none at taken b None None e = let same : with_grant with_parity taken at None ≡ b = cc in ap (λ (t : Taken). t.row.wanted) same
  taken-none at taken b None (Some grant) e = let same : with_grant with_parity taken at (Some grant) ≡ b = cc in ap (λ (t : Taken). t.row.wanted) same

  recovery-commits : Commits [] (recover_steps r)
  recovery-commits =
      let first : Taken = begun (whole_part r) no_rows in
      walk-committing (CommitsMissing r) (taking None with_parity) (parity_seized r) (claim r.id r.row Seize 0 true (parity_bay r.n r.row)) [] first [] tt
      (λ call is fit b e. parity-commits b (call ∷ [])
      (subst (λ (gs : List (Option Grant)). Gaps (call ∷ []) (units r.n) (units r.n) gs)
      (taken-none (parity_bay r.n r.row) first b (refusal None first.missing (parity_bay r.n r.row) call.answer.reply) (grant_of call.answer.reply) e) refl))
      (λ call is fit none. refuses-none first.row (why None first (claim r.id r.row Seize 0 true (parity_bay r.n r.row)) call.answer.reply) (call ∷ []))

pub recoveries-commit : (r : Rescue) → 3 ≤ r.n → Committing (CommitsMissing r) [] (recover_steps r)
recoveries-commit r least = recovery-commits r
