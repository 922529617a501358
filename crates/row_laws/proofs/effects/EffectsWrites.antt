-- What a write has committed by its end: until it puts it has committed nothing, and of each row that it then has it knows whether
-- the parity is missing, and that no unit is where it is.
use Rattle.std.proofs.Common.{◌≡◌, ◌⊎◌, inl, inr, ◌∙◌, ◌-◌, ◌<◌, ◌≤◌, ◌==◌, ℕ, Bool, true, false, cond, List, [], ◌∷◌, ◌++◌, Option, Some, None, IfSome, option_map, Result, Ok, Err, refl, sym, ap, subst}
use Rattle.std.proofs.lemmas.Bool.{eqb-true}
use Rattle.std.specs.List.{AllByRecursion}
use Rattle.raid_base.specs.declared.numbers.BayNo.{BayNo}
use Rattle.raid_base.specs.declared.numbers.Number.{Number}
use Rattle.raid_base.specs.declared.numbers.Spent.{Spent}
use Rattle.raid_base.specs.declared.cells.Cell.{Cell}
use Rattle.raid_base.specs.declared.messages.Mode.{Mode}
use Rattle.raid_base.specs.declared.messages.Mode.TheVariants.{Lock, Order}
use Rattle.raid_base.specs.declared.messages.How.TheVariants.{Plain}
use Rattle.raid_base.specs.declared.messages.Errand.{Errand}
use Rattle.raid_base.specs.declared.messages.Grant.{Grant}
use Rattle.raid_base.specs.declared.messages.Reply.{Reply}
use Rattle.raid_base.specs.declared.messages.Reply.TheVariants.{Granted, Busy, Late, Young, Missing, Held, NoNote, Done, Fault, Emptied, Fitted}
use Rattle.raid_base.specs.declared.jobs.Cause.{Cause}
use Rattle.raid_base.specs.declared.jobs.Cause.TheVariants as causes
use Rattle.raid_base.specs.declared.jobs.Ended.TheVariants as ends
use Rattle.raid_base.specs.declared.jobs.Plan.{Plan}
use Rattle.raid_base.specs.declared.jobs.Plan.TheVariants.{Full, Small, Reconstruct}
use Rattle.raid_base.specs.declared.jobs.RowPart.{RowPart}
use Rattle.raid_base.specs.Cells.{has_unit}
use Rattle.raid_base.specs.Fits.{fits_claim}
use Rattle.raid_base.specs.Replies.{grant_of, held_of, is_missing}
use Rattle.raid_base.specs.Steps.{Steps, bind, Walk, Through, Stopped, run}
use Rattle.stripe_layout.specs.Placement.{parity_bay, bay_of, bays_of, units_in}
use Rattle.stripe_layout.proofs.LayoutLemmas.{unit_apart}
use Rattle.virtual_objects.specs.RowParts.{AreRowParts}
use Rattle.attempts.specs.Taking.{Access, Finish, Row, Rows, no_rows, Taken, begun, row_ended, with_parity, with_wanted, with_other, with_grant, lacks, behind_from, is_behind, broken, refusal, unless, taking_until, why, claim, claims}
use Rattle.attempts.specs.Releases.{refused_steps, write_releases}
use Rattle.attempts.specs.Puts.{plan_of, is_small_plan}
use Rattle.attempts.specs.Writing.{write_stopped, write_drawn, write_numbered, held_row, confirmed_row, unrefused_row, row_or_change, row_confirm, confirming, confirm_cause, row_confirmed, confirm_rows, claiming, row_claimed, wanted_claims, other_shares, claim_wanted, share_others, small_claimed, share_stopped, others_shared, claim_row, parity_claimed, parity_claim, claim_rows, write_steps}
use Rattle.attempts.specs.Phases.{IsIn}
use Rattle.attempts.proofs.RoomLemmas.{all-append, parts_of}
use Rattle.attempts.proofs.PhaseLemmas.{all-weaken}
use Rattle.attempts.proofs.WriteSums.{Filled, filled-more, lacks-same, units-known}
use Rattle.row_laws.specs.Effects.{Effecting, HasWrittenSo}
use Rattle.row_laws.proofs.effects.Effects.{head-effecting, run-effecting, released-effecting}
use Rattle.row_laws.proofs.effects.EffectsPuts.{IsKnown, Covered, puts-tell}
use Rattle.row_laws.proofs.hands.WriteMasks.{each-is-in}

-- rows by their parts
in-end : (rows : List Row) (row : Row) (part : RowPart) → row.part ≡ part → IsIn part (parts_of (rows ++ row ∷ []))
in-end [] row part same = inl same
in-end (first ∷ rows) row part same = inr (in-end rows row part same)

in-before : (rows : List Row) (row : Row) (part : RowPart) → IsIn part (parts_of rows) → IsIn part (parts_of (rows ++ row ∷ []))
in-before [] row part i = absurd i
in-before (first ∷ rows) row part (inl same) = inl same
in-before (first ∷ rows) row part (inr i) = inr (in-before rows row part i)

-- a bay that is missing, and one that was so before, are the same
unbroken : (least : Option Number) (missing : Option BayNo) (first bay : BayNo) (floor : Number) → missing ≡ Some first → refusal least missing bay (Missing floor) ≡ None → first.0 ≡ bay.0
unbroken least missing first bay floor was none = by (is_behind least floor) (subst (λ (o : Option BayNo). cond (is_behind least floor) (Some (causes.Behind floor)) (broken o bay) ≡ None) was none)
  where
    same : (b : Bool) → (first.0 == bay.0) ≡ b → cond b None (Some (causes.Broken first bay)) ≡ None → first.0 ≡ bay.0
    same true e h = eqb-true first.0 bay.0 e
    same false e h = absurd (cc)

    by : (b : Bool) → cond b (Some (causes.Behind floor)) (broken (Some first) bay) ≡ None → first.0 ≡ bay.0
    by true h = absurd (cc)
    by false h = same (first.0 == bay.0) refl h

module _ (a : Access) (least : 3 ≤ a.n) (are : AreRowParts a.n a.parts) where
  abbrev Writes : Steps Finish → Type 0
  Writes s = Effecting (HasWrittenSo a) [] s

  nothing : (cause : Cause) → HasWrittenSo a [] (ends.Refused cause)
  nothing cause = record { tells = refl; only = tt }

  write-refuses : (rows : List Row) (cause : Cause) → Writes (refused_steps (write_releases a rows) cause)
  write-refuses rows cause = released-effecting (HasWrittenSo a) [] (nothing causes.Quit) (write_releases a rows) (ends.Refused cause) (nothing cause)

  write-stops : (taken : Taken) (e : Errand) (r : Reply) → Writes (write_stopped a taken e r)
  write-stops taken e r = write-refuses (taken.before ++ taken.row ∷ []) (why (behind_from a.mode a.id) taken e r)

  abbrev AreKnown : List Row → Type 0
  AreKnown rows = AllByRecursion (IsKnown a) rows

  write-drawn : (rows : List Row) → AreKnown rows → Covered a [] rows → (d : Result Number Spent) → Writes (write_drawn a rows d)
  write-drawn rows known covered (Err spent) = write-refuses rows (causes.Spent spent.seen)
  write-drawn rows known covered (Ok n) = puts-tell a least are n rows known covered

  write-numbers : (mode : Mode) (rows : List Row) → AreKnown rows → Covered a [] rows → Writes (write_numbered mode a rows)
  write-numbers Order rows known covered = puts-tell a least are a.id rows known covered
  write-numbers Lock rows known covered = write-drawn rows known covered

  -- Confirms keep what was taken
  module _ (row : Row) (own : IsKnown a row) where
    abbrev Stays : Row → Type 0
    Stays r = IsKnown a r × (r.part ≡ row.part)

    held-stays : (grant : Grant) (want : Bool) (held : Option (Option Cell)) → IfSome (held_row row grant want held) Stays
    held-stays grant want None = tt
    held-stays grant true (Some None) = tt
    held-stays grant true (Some (Some cell)) = ((own.0, own.1, λ none. absurd (cc)), refl)
    held-stays grant false (Some cell) = (own, refl)

    there-stays : (missing : Bool) → IfSome (cond missing (Some row) None) Stays
    there-stays true = (own, refl)
    there-stays false = tt

    confirmed-stays : (r : Reply) (parity : Option Grant) → IfSome (confirmed_row row r parity) Stays
    confirmed-stays r None = there-stays (is_missing r)
    confirmed-stays r (Some grant) = held-stays grant (lacks row.others) (held_of r)

    unrefused-stays : (r : Reply) (cause : Option Cause) → IfSome (unrefused_row row r cause) Stays
    unrefused-stays r (Some cause) = tt
    unrefused-stays r None = confirmed-stays r row.parity

    -- the rows that are confirmed, and those that are left
    abbrev Confirmed : List Row → Rows → Type 0
    Confirmed left done = AreKnown done.rows × Covered a (parts_of left) done.rows

    more-confirmed : (left : List Row) (done : Rows) (o : Option Row) → Confirmed (row ∷ left) done → IfSome o Stays
        → IfSome (option_map (λ (r : Row). record done { rows = done.rows ++ r ∷ [] }) o) (Confirmed left)
    more-confirmed left done None h i = tt
    more-confirmed left done (Some r) h i = (all-append (IsKnown a) done.rows (r ∷ []) h.0 (i.0, tt), λ part among. by part (h.1 part among))
      where
        by : (part : RowPart) → ((row.part ≡ part) ⊎ IsIn part (parts_of left)) ⊎ IsIn part (parts_of done.rows) → IsIn part (parts_of left) ⊎ IsIn part (parts_of (done.rows ++ r ∷ []))
        by part (inl (inl same)) = inr (in-end done.rows r part (i.1 ∙ same))
        by part (inl (inr j)) = inl j
        by part (inr j) = inr (in-before done.rows r part j)

    confirms-keep : (left : List Row) (done : Rows) → Confirmed (row ∷ left) done → (e : Errand) (r : Reply) → IfSome ((confirming a row).step done e r) (Confirmed left)
    confirms-keep left done h e r =
        more-confirmed left done (row_or_change (behind_from a.mode a.id) done.missing e.bay row r) h (unrefused-stays r (refusal (behind_from a.mode a.id) done.missing e.bay r))

  confirms : (rows left : List Row) → AreKnown left → (done : Rows) → AreKnown done.rows × Covered a (parts_of left) done.rows → Writes (confirm_rows a rows left done)
  confirms rows [] known done h = write-numbers a.mode done.rows h.0 h.1
  confirms rows (row ∷ left) known done h =
      head-effecting (HasWrittenSo a) [] (λ (d : Rows). AreKnown d.rows × Covered a (parts_of left) d.rows) (confirming a row) (row_confirmed a rows row (confirm_rows a rows left)) (row_confirm a row) [] done
      (nothing causes.Quit) refl (λ r fit. confirms-keep row known.0 left done h (row_confirm a row) r) (λ d k. confirms rows left known.1 d k) (λ r. write-refuses rows (confirm_cause a row done (row_confirm a row) r))

  -- Shares and claims of a part's row, with these parts after it
  module _ (part : RowPart) (among : IsIn part a.parts) (later : List RowPart) where
    -- the parity is so, and these units are still to be claimed
    record Taking (parity : Option Grant) (us : List ℕ) (taken : Taken) : Type 0 where
      is : taken.row.part ≡ part
      found : taken.row.parity ≡ parity
      filled : Filled (λ u o. Unit {0}) (units_in a.n part.mask) taken.row.wanted us
      gap : parity ≡ None → (taken.missing ≡ Some (parity_bay a.n part.row)) × (lacks taken.row.wanted ≡ false)
      known : AreKnown taken.before
      covered : Covered a (part ∷ later) taken.before

    -- the others leave the wanted ones as they are, where the parity is there
    module _ (parity : Grant) (us : List ℕ) (taken : Taken) (h : Taking (Some parity) us taken) (bay : BayNo) where
      other-kept : (o : Option Grant) → Taking (Some parity) us (with_grant with_other taken bay o)
      other-kept None = record { is = h.is; found = h.found; filled = h.filled; gap = λ none. absurd (cc); known = h.known; covered = h.covered }
      other-kept (Some grant) = record { is = h.is; found = h.found; filled = h.filled; gap = λ none. absurd (cc); known = h.known; covered = h.covered }

      others-kept : (cause : Option Cause) (o : Option Grant) → IfSome (option_map (with_grant with_other taken bay) (unless cause o)) (Taking (Some parity) us)
      others-kept (Some cause) o = tt
      others-kept None o = other-kept o

      shared-kept : (o : Option Grant) → IfSome (option_map (λ (grant : Grant). with_grant with_other taken bay (Some grant)) o) (Taking (Some parity) us)
      shared-kept None = tt
      shared-kept (Some grant) = other-kept (Some grant)

    -- a claim of a unit that doesn't refuse was granted, or the unit is missing, and then the parity is not
    module _ (parity : Option Grant) (want : Bool) (u : ℕ) (us : List ℕ) (below : u < a.n - 1) (taken : Taken) (h : Taking parity (u ∷ us) taken) where
      abbrev At : BayNo
      At = bay_of a.n part.row u

      abbrev Claimed : Reply → Type 0
      Claimed r = IfSome (option_map (with_grant with_wanted taken At) (unless (refusal (behind_from a.mode a.id) taken.missing At r) (grant_of r))) (Taking parity us)

      unit-granted : (grant : Grant) → Taking parity us (with_grant with_wanted taken At (Some grant))
      unit-granted grant = record {
        is = h.is;
        found = h.found;
        filled = filled-more (λ v o. Unit {0}) (units_in a.n part.mask) taken.row.wanted (Some grant) u us h.filled tt;
        gap = λ none. ((h.gap none).0, lacks-same taken.row.wanted grant ∙ (h.gap none).1);
        known = h.known;
        covered = h.covered;
      }

      unit-missing : (floor : Number) → refusal (behind_from a.mode a.id) taken.missing At (Missing floor) ≡ None → Taking parity us (with_grant with_wanted taken At None)
      unit-missing floor fine = record {
        is = h.is;
        found = h.found;
        filled = filled-more (λ v o. Unit {0}) (units_in a.n part.mask) taken.row.wanted None u us h.filled tt;
        gap = λ none. absurd (both none);
        known = h.known;
        covered = h.covered;
      }
        where
          both : parity ≡ None → ⊥
          both none =
              let same : (parity_bay a.n part.row).0 ≡ At.0 = unbroken (behind_from a.mode a.id) taken.missing (parity_bay a.n part.row) At floor (h.gap none).0 fine in
              unit_apart a.n part.row u least below (ap (λ (k : ℕ). (let b : BayNo = record { 0 = k } in b)) (sym same))

      unit-answered : (r : Reply) → fits_claim Plain want r ≡ true → Claimed r
      unit-answered (Granted cell read_no write_no last life seized) fit = unit-granted (record { cell = cell; last = last; life = life; seized = seized })
      unit-answered (Missing floor) fit = by (refusal (behind_from a.mode a.id) taken.missing At (Missing floor)) refl
        where
          by : (cause : Option Cause) → refusal (behind_from a.mode a.id) taken.missing At (Missing floor) ≡ cause
              → IfSome (option_map (with_grant with_wanted taken At) (unless cause None)) (Taking parity us)
          by (Some cause) e = tt
          by None e = unit-missing floor e
      unit-answered (Busy holder) fit = tt
      unit-answered (Late above) fit = tt
      unit-answered (Young note) fit = tt
      unit-answered Fault fit = tt
      unit-answered (Held cell) fit = absurd (cc)
      unit-answered (NoNote life) fit = absurd (cc)
      unit-answered Done fit = absurd (cc)
      unit-answered Emptied fit = absurd (cc)
      unit-answered Fitted fit = absurd (cc)

    units-claimed : (parity : Option Grant) (want : Bool) (f : Walk Taken → Steps Finish) → ((taken : Taken) → Taking parity [] taken → Writes (f (Through taken)))
        → ((taken : Taken) (e : Errand) (r : Reply) → Writes (f (Stopped taken e r))) → (us : List ℕ) → AllByRecursion (λ u. u < a.n - 1) us → (taken : Taken) → Taking parity us taken
        → Writes (bind (run (claiming a with_wanted) (claims a.id part.row Plain want (bays_of a.n part.row us)) taken) f)
    units-claimed parity want f on off [] below taken h = on taken h
    units-claimed parity want f on off (u ∷ us) below taken h =
        head-effecting (HasWrittenSo a) [] (Taking parity us) (claiming a with_wanted) f (claim a.id part.row Plain 0 want (bay_of a.n part.row u)) (claims a.id part.row Plain want (bays_of a.n part.row us)) taken
        (nothing causes.Quit) refl (λ r fit. unit-answered parity want u us below.0 taken h r fit) (λ t k. units-claimed parity want f on off us below.1 t k)
        (λ r. off taken (claim a.id part.row Plain 0 want (bay_of a.n part.row u)) r)

    units-below : AllByRecursion (λ u. u < a.n - 1) (units_in a.n part.mask)
    units-below = all-weaken (λ u. (u < a.n - 1) × (has_unit part.mask u ≡ true)) (λ u. u < a.n - 1) (λ u known. known.0) (units_in a.n part.mask) (units-known a.n (has_unit part.mask))

    module _ (rest : Rows → Steps Finish) (on : (rows : Rows) → AreKnown rows.rows × Covered a later rows.rows → Writes (rest rows)) where
      row-ends : (parity : Option Grant) (taken : Taken) → Taking parity [] taken → Writes (rest (row_ended taken))
      row-ends parity taken h = on (row_ended taken) (all-append (IsKnown a) taken.before (taken.row ∷ []) h.known (own, tt), λ other i. by other (h.covered other i))
        where
          own : IsKnown a taken.row
          own = (
            subst (λ (p : RowPart). IsIn p a.parts) (sym h.is) among,
            subst (λ (p : RowPart). Filled (λ u o. Unit {0}) (units_in a.n p.mask) taken.row.wanted []) (sym h.is) h.filled,
            λ none. (h.gap (sym h.found ∙ none)).1,
          )

          by : (other : RowPart) → ((part ≡ other) ⊎ IsIn other later) ⊎ IsIn other (parts_of taken.before) → IsIn other later ⊎ IsIn other (parts_of (taken.before ++ taken.row ∷ []))
          by other (inl (inl same)) = inr (in-end taken.before taken.row other (h.is ∙ same))
          by other (inl (inr i)) = inl i
          by other (inr i) = inr (in-before taken.before taken.row other i)

      wanted-claimed : (parity : Option Grant) (want : Bool) (taken : Taken) → Taking parity (units_in a.n part.mask) taken → Writes (claim_wanted a rest want taken)
      wanted-claimed parity want taken h =
          subst (λ (p : RowPart). Writes (bind (run (claiming a with_wanted) (wanted_claims a want p) taken) (row_claimed a rest))) (sym h.is)
          (units-claimed parity want (row_claimed a rest) (row-ends parity) write-stops (units_in a.n part.mask) units-below taken h)

      others-claimed : (parity : Grant) (taken : Taken) (lacking : Bool) → Taking (Some parity) [] taken → Writes (share_others a rest taken lacking)
      others-claimed parity taken false h = row-ends (Some parity) taken h
      others-claimed parity taken true h =
          run-effecting (HasWrittenSo a) [] (Taking (Some parity) []) (claiming a with_other) (row_claimed a rest) (λ t k. nothing causes.Quit) (λ t e. refl)
          (λ t e r k. others-kept parity [] t k e.bay (refusal (behind_from a.mode a.id) t.missing e.bay r) (grant_of r)) (row-ends (Some parity)) (λ t e r k. write-stops t e r)
          (other_shares a taken.row.part) taken h

      share-stops : (parity : Grant) (taken : Taken) (bay : BayNo) (cause : Option Cause) → Taking (Some parity) (units_in a.n part.mask) taken → Writes (share_stopped a rest taken bay cause)
      share-stops parity taken bay (Some cause) h = write-refuses (taken.before ++ taken.row ∷ []) cause
      share-stops parity taken bay None h = wanted-claimed (Some parity) true (with_grant with_other taken bay None) (other-kept parity (units_in a.n part.mask) taken h bay None)

      row-begins : (taken : Taken) (grant : Option Grant) (plan : Plan) → Taking grant (units_in a.n part.mask) taken → Writes (claim_row a rest taken grant plan)
      row-begins taken None plan h = wanted-claimed None false taken h
      row-begins taken (Some grant) Full h = wanted-claimed (Some grant) false taken h
      row-begins taken (Some grant) Small h =
          subst (λ (p : RowPart). Writes (bind (run (claiming a with_wanted) (wanted_claims a true p) taken) (small_claimed a rest))) (sym h.is)
          (units-claimed (Some grant) true (small_claimed a rest) (λ t k. others-claimed grant t (lacks t.row.wanted) k) write-stops (units_in a.n part.mask) units-below taken h)
      row-begins taken (Some grant) Reconstruct h =
          run-effecting (HasWrittenSo a) [] (Taking (Some grant) (units_in a.n part.mask)) (taking_until with_other) (others_shared a rest) (λ t k. nothing causes.Quit) (λ t e. refl)
          (λ t e r k. shared-kept grant (units_in a.n part.mask) t k e.bay (grant_of r)) (λ t k. wanted-claimed (Some grant) false t k)
          (λ t e r k. share-stops grant t e.bay (refusal (behind_from a.mode a.id) t.missing e.bay r) k) (other_shares a taken.row.part) taken h

      -- the parity
      module _ (done : Rows) (known : AreKnown done.rows × Covered a (part ∷ later) done.rows) where
        abbrev Begun : Taken → Type 0
        Begun taken = Taking taken.row.parity (units_in a.n part.mask) taken

        abbrev Parity : BayNo
        Parity = parity_bay a.n part.row

        parity-granted : (grant : Grant) → Begun (with_grant with_parity (begun part done) Parity (Some grant))
        parity-granted grant = record { is = refl; found = refl; filled = refl; gap = λ none. absurd (cc); known = known.0; covered = known.1 }

        parity-missing : Begun (with_grant with_parity (begun part done) Parity None)
        parity-missing = record { is = refl; found = refl; filled = refl; gap = λ none. (refl, refl); known = known.0; covered = known.1 }

        parity-answered : (want : Bool) (r : Reply) → fits_claim Plain want r ≡ true
            → IfSome (option_map (with_grant with_parity (begun part done) Parity) (unless (refusal (behind_from a.mode a.id) done.missing Parity r) (grant_of r))) Begun
        parity-answered want (Granted cell read_no write_no last life seized) fit = parity-granted (record { cell = cell; last = last; life = life; seized = seized })
        parity-answered want (Missing floor) fit = by (refusal (behind_from a.mode a.id) done.missing Parity (Missing floor))
          where
            by : (cause : Option Cause) → IfSome (option_map (with_grant with_parity (begun part done) Parity) (unless cause None)) Begun
            by (Some cause) = tt
            by None = parity-missing
        parity-answered want (Busy holder) fit = tt
        parity-answered want (Late above) fit = tt
        parity-answered want (Young note) fit = tt
        parity-answered want Fault fit = tt
        parity-answered want (Held cell) fit = absurd (cc)
        parity-answered want (NoNote life) fit = absurd (cc)
        parity-answered want Done fit = absurd (cc)
        parity-answered want Emptied fit = absurd (cc)
        parity-answered want Fitted fit = absurd (cc)

        row-claimed : Writes (bind (run (claiming a with_parity) (parity_claim a part ∷ []) (begun part done)) (parity_claimed a rest))
        row-claimed =
            head-effecting (HasWrittenSo a) [] Begun (claiming a with_parity) (parity_claimed a rest) (parity_claim a part) [] (begun part done) (nothing causes.Quit) refl
            (λ r fit. parity-answered (is_small_plan (plan_of a part)) r fit) (λ t k. row-begins t t.row.parity (plan_of a t.row.part) k) (λ r. write-stops (begun part done) (parity_claim a part) r)

  rows-claimed : (left : List RowPart) → AllByRecursion (λ (part : RowPart). IsIn part a.parts) left → (done : Rows) → AreKnown done.rows × Covered a left done.rows → Writes (claim_rows a left done)
  rows-claimed [] still done h = confirms done.rows done.rows h.0 (record done { rows = [] }) (tt, λ part i. by part (h.1 part i))
    where
      by : (part : RowPart) → IsIn part [] ⊎ IsIn part (parts_of done.rows) → IsIn part (parts_of done.rows) ⊎ IsIn part []
      by part (inl i) = absurd i
      by part (inr i) = inl i
  rows-claimed (part ∷ left) still done h = row-claimed part still.0 left (claim_rows a left) (λ rows k. rows-claimed left still.1 rows k) done h

  pub writes-tell : Writes (write_steps a)
  writes-tell = rows-claimed a.parts (each-is-in a.parts) no_rows (tt, λ part i. inl i)
