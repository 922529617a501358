-- What reads, rebuilds and recoveries have committed by their ends: a recovery the unit that it names lost, and the others nothing.
use Rattle.std.proofs.Common.{◌≡◌, ◌==◌, ℕ, Bool, true, false, cond, if◌then◌else◌, List, [], ◌∷◌, ◌++◌, Option, Some, None, IfSome, Result, Ok, Err, refl, sym, subst}
use Rattle.std.proofs.lemmas.List.{append-nil}
use Rattle.raid_base.specs.declared.numbers.Number.{Number}
use Rattle.raid_base.specs.declared.numbers.Spent.{Spent}
use Rattle.raid_base.specs.declared.messages.Mode.{Mode}
use Rattle.raid_base.specs.declared.messages.Mode.TheVariants.{Lock, Order}
use Rattle.raid_base.specs.declared.messages.How.TheVariants.{Mend, Seize}
use Rattle.raid_base.specs.declared.messages.Errand.{Errand}
use Rattle.raid_base.specs.declared.messages.Grant.{Grant}
use Rattle.raid_base.specs.declared.messages.Reply.{Reply}
use Rattle.raid_base.specs.declared.jobs.Cause.{Cause}
use Rattle.raid_base.specs.declared.jobs.Cause.TheVariants as causes
use Rattle.raid_base.specs.declared.jobs.Ended.{Ended}
use Rattle.raid_base.specs.declared.jobs.Ended.TheVariants as ends
use Rattle.raid_base.specs.declared.jobs.RowPart.{RowPart}
use Rattle.raid_base.specs.declared.numbers.RowNo.{RowNo}
use Rattle.raid_base.specs.Fits.{fits}
use Rattle.raid_base.specs.Replies.{grant_of, is_done}
use Rattle.raid_base.specs.Steps.{Commit, Steps, Ends, bind, go_on, Walk, Through, Stopped, Phase, run}
use Rattle.stripe_layout.specs.Placement.{parity_bay, bays_of, units, units_in, units_out, parity_first}
use Rattle.attempts.specs.declared.Repair.{Repair}
use Rattle.attempts.specs.declared.Rescue.{Rescue}
use Rattle.attempts.specs.declared.Hold.{Hold}
use Rattle.attempts.specs.Taking.{Access, Finish, Row, Rows, no_rows, Taken, begun, row_ended, with_parity, with_wanted, with_other, lacks, behind_from, taking, why, share, shares, claim, claims, confirm}
use Rattle.attempts.specs.Releases.{releasing, end_as, released_steps, refused_steps, read_releases, parity_granted}
use Rattle.attempts.specs.Reading.{sharing, read_refused, numbered_releases, freeing, read_freed, read_drawn, read_numbered, row_shared, parity_shared, share_rest, wanted_shared, read_rows, read_steps}
use Rattle.attempts.specs.Puts.{put}
use Rattle.attempts.specs.Mending.{mending, with_hold, mend_why, mend_releases, without_target, mended_cell, put_cause, mend_putting, mend_put, mend_numbered, mend_drawn, is_shown, mend_confirmed, mend_confirming, mend_claimed, mend_steps}
use Rattle.attempts.specs.Recovery.{whole_part, unseized_data, granted_data, unseized_parity, give_back, recover_refused, Verdict, Leaves, Sums, verdict, recovered_parity, lost_commits, recover_putting, closing, recover_put, recover_by, recover_drawn, recover_confirmed, recover_confirming, units_seized, seize_units, parity_taken, parity_seized, recover_steps}
use Rattle.attempts.proofs.PhaseLemmas.{any}
use Rattle.row_laws.specs.Effects.{done_after, Effecting, CommitsNothing, RecoveryTells}

-- Walks
pub done-same : (r : Reply) (done : List Commit) → done_after r [] done ≡ done
done-same r done = by (is_done r)
  where
    by : (b : Bool) → cond b (done ++ []) done ≡ done
    by true = append-nil done
    by false = refl

module _ (Q : List Commit → Ended → Type 0) where
  module _ {A : Type 0} where
    pub go-effecting : (done : List Commit) (I : A → Type 0) (o : Option A) (g : A → Steps (Walk A)) (s : Steps (Walk A)) (f : Walk A → Steps Finish)
        → IfSome o I → ((a : A) → I a → Effecting Q done (bind (g a) f)) → Effecting Q done (bind s f) → Effecting Q done (bind (go_on o g s) f)
    go-effecting done I (Some a) g s f i on off = on a i
    go-effecting done I None g s f i on off = off

    -- an errand that commits nothing
    pub head-effecting : (done : List Commit) (I : A → Type 0) (phase : Phase A) (f : Walk A → Steps Finish) (e : Errand) (es : List Errand) (a : A)
        → Q done (phase.stop a) → phase.commits a e ≡ [] → ((r : Reply) → fits e.request r ≡ true → IfSome (phase.step a e r) I)
        → ((b : A) → I b → Effecting Q done (bind (run phase es b) f)) → ((r : Reply) → Effecting Q done (f (Stopped a e r)))
        → Effecting Q done (bind (run phase (e ∷ es) a) f)
    head-effecting done I phase f e es a stop none keeps on off = (
      stop,
      λ r fit.
          subst (λ (xs : List Commit). Effecting Q (done_after r xs done) (bind (go_on (phase.step a e r) (λ b. run phase es b) (Ends (Stopped a e r))) f)) (sym none)
          (subst (λ (xs : List Commit). Effecting Q xs (bind (go_on (phase.step a e r) (λ b. run phase es b) (Ends (Stopped a e r))) f)) (sym (done-same r done))
          (go-effecting done I (phase.step a e r) (λ b. run phase es b) (Ends (Stopped a e r)) f (keeps r fit) on (off r))),
    )

    -- a phase that commits nothing, and keeps what is known
    pub run-effecting : (done : List Commit) (I : A → Type 0) (phase : Phase A) (f : Walk A → Steps Finish)
        → ((a : A) → I a → Q done (phase.stop a)) → ((a : A) (e : Errand) → phase.commits a e ≡ [])
        → ((a : A) (e : Errand) (r : Reply) → I a → IfSome (phase.step a e r) I)
        → ((a : A) → I a → Effecting Q done (f (Through a))) → ((a : A) (e : Errand) (r : Reply) → I a → Effecting Q done (f (Stopped a e r)))
        → (es : List Errand) (a : A) → I a → Effecting Q done (bind (run phase es a) f)
    run-effecting done I phase f stops none keeps on off [] a i = on a i
    run-effecting done I phase f stops none keeps on off (e ∷ es) a i =
        head-effecting done I phase f e es a (stops a i) (none a e) (λ r fit. keeps a e r i) (λ b j. run-effecting done I phase f stops none keeps on off es b j) (λ r. off a e r i)

    -- where nothing need be known
    pub quiet-effecting : (done : List Commit) (phase : Phase A) (f : Walk A → Steps Finish)
        → ((a : A) → Q done (phase.stop a)) → ((a : A) (e : Errand) → phase.commits a e ≡ []) → ((walk : Walk A) → Effecting Q done (f walk))
        → (es : List Errand) (a : A) → Effecting Q done (bind (run phase es a) f)
    quiet-effecting done phase f stops none on es a =
        run-effecting done (λ (b : A). Unit {0}) phase f (λ b u. stops b) none (λ b e r u. any (phase.step b e r)) (λ b u. on (Through b)) (λ b e r u. on (Stopped b e r)) es a tt

  -- what is given back
  pub released-effecting : (done : List Commit) → Q done (ends.Refused causes.Quit) → (es : List Errand) (ended : Ended) → Q done ended → Effecting Q done (released_steps es ended)
  released-effecting done quit es ended h = quiet-effecting done releasing (end_as ended) (λ u. quit) (λ u e. refl) (λ walk. h) es tt

-- Reads
module _ (a : Access) where
  abbrev Reads : Steps Finish → Type 0
  Reads s = Effecting CommitsNothing [] s

  read-refuses : (rows : List Row) (cause : Cause) → Reads (refused_steps (read_releases a rows) cause)
  read-refuses rows cause = released-effecting CommitsNothing [] refl (read_releases a rows) (ends.Refused cause) refl

  freed : (n : Number) (rows : List Row) (walk : Walk (Option RowNo)) → Reads (read_freed a n rows walk)
  freed n rows (Through None) = refl
  freed n rows (Through (Some row)) = refl
  freed n rows (Stopped row e r) = refl

  read-drawn : (rows : List Row) (d : Result Number Spent) → Reads (read_drawn a rows d)
  read-drawn rows (Err spent) = read-refuses rows (causes.Spent spent.seen)
  read-drawn rows (Ok n) = quiet-effecting CommitsNothing [] freeing (read_freed a n rows) (λ o. refl) (λ o e. refl) (freed n rows) (numbered_releases a n rows) None

  read-numbered : (mode : Mode) (rows : List Row) → Reads (read_numbered mode a rows)
  read-numbered Order rows = refl
  read-numbered Lock rows = read-drawn rows

  read-stopped : (taken : Taken) (e : Errand) (r : Reply) → Reads (read_refused a taken e r)
  read-stopped taken e r = read-refuses (taken.before ++ taken.row ∷ []) (why (behind_from a.mode a.id) taken e r)

  module _ (rest : Rows → Steps Finish) (on : (rows : Rows) → Reads (rest rows)) where
    row-shares : (walk : Walk Taken) → Reads (row_shared a rest walk)
    row-shares (Through taken) = on (row_ended taken)
    row-shares (Stopped taken e r) = read-stopped taken e r

    parity-shares : (walk : Walk Taken) → Reads (parity_shared a rest walk)
    parity-shares (Stopped taken e r) = read-stopped taken e r
    parity-shares (Through taken) =
        quiet-effecting CommitsNothing [] (sharing a with_other) (row_shared a rest) (λ t. refl) (λ t e. refl) row-shares
        (shares a.id taken.row.part.row (bays_of a.n taken.row.part.row (units_out a.n taken.row.part.mask))) taken

    rest-shares : (taken : Taken) (lacking : Bool) → Reads (share_rest a rest taken lacking)
    rest-shares taken false = on (row_ended taken)
    rest-shares taken true =
        quiet-effecting CommitsNothing [] (sharing a with_parity) (parity_shared a rest) (λ t. refl) (λ t e. refl) parity-shares
        (share a.id taken.row.part.row (parity_bay a.n taken.row.part.row) ∷ []) taken

    wanted-shares : (walk : Walk Taken) → Reads (wanted_shared a rest walk)
    wanted-shares (Stopped taken e r) = read-stopped taken e r
    wanted-shares (Through taken) = rest-shares taken (lacks taken.row.wanted)

  rows-read : (left : List RowPart) (done : Rows) → Reads (read_rows a left done)
  rows-read [] done = read-numbered a.mode done.rows
  rows-read (part ∷ left) done =
      quiet-effecting CommitsNothing [] (sharing a with_wanted) (wanted_shared a (read_rows a left)) (λ t. refl) (λ t e. refl) (wanted-shares (read_rows a left) (rows-read left))
      (shares a.id part.row (bays_of a.n part.row (units_in a.n part.mask))) (begun part done)

  pub reads-commit-nothing : Reads (read_steps a)
  reads-commit-nothing = rows-read a.parts no_rows

-- Rebuilds
module _ (m : Repair) where
  abbrev Mends : Steps Finish → Type 0
  Mends s = Effecting CommitsNothing [] s

  mend-released : (holds : List Hold) (ended : Ended) → Mends (released_steps (mend_releases m holds) ended)
  mend-released holds ended = released-effecting CommitsNothing [] refl (mend_releases m holds) ended refl

  mend-puts : (holds : List Hold) (walk : Walk (Unit {0})) → Mends (mend_put m holds walk)
  mend-puts holds (Through u) = mend-released (without_target m holds) ends.Mended
  mend-puts holds (Stopped u e r) = mend-released holds (ends.Refused (put_cause m.row e r))

  mends-numbered : (holds : List Hold) (n : Number) (shown : Bool) → Mends (mend_numbered m holds n shown)
  mends-numbered holds n true = mend-released holds ends.Mended
  mends-numbered holds n false =
      quiet-effecting CommitsNothing [] mend_putting (mend_put m holds) (λ u. refl) (λ u e. refl) (mend-puts holds) (put m.id m.row n (mended_cell m holds) m.target ∷ []) tt

  mends-drawn : (holds : List Hold) (d : Result Number Spent) → Mends (mend_drawn m holds d)
  mends-drawn holds (Err spent) = mend-released holds (ends.Refused (causes.Spent spent.seen))
  mends-drawn holds (Ok n) = mends-numbered holds n (is_shown m.target holds)

  mends-confirmed : (holds : List Hold) (walk : Walk (Unit {0})) → Mends (mend_confirmed m holds walk)
  mends-confirmed holds (Stopped u e r) = mend-released holds (ends.Refused (mend_why e r (causes.Changed m.row)))
  mends-confirmed holds (Through u) = mends-drawn holds

  mends-claimed : (walk : Walk (List Hold)) → Mends (mend_claimed m walk)
  mends-claimed (Stopped holds e r) = mend-released (with_hold holds e.bay (grant_of r)) (ends.Refused (mend_why e r (causes.Gone e.bay)))
  mends-claimed (Through holds) =
      quiet-effecting CommitsNothing [] mend_confirming (mend_confirmed m holds) (λ u. refl) (λ u e. refl) (mends-confirmed holds)
      (confirm m.id m.row false (parity_bay m.n m.row) ∷ []) tt

  pub mends-commit-nothing : Mends (mend_steps m)
  mends-commit-nothing =
      quiet-effecting CommitsNothing [] (mending m) (mend_claimed m) (λ h. refl) (λ h e. refl) mends-claimed (claims m.id m.row Mend true (parity_first m.n m.row)) []

-- Recoveries
module _ (r : Rescue) where
  abbrev Recovers : List Commit → Steps Finish → Type 0
  Recovers done s = Effecting (RecoveryTells r) done s

  refuses : (es : List Errand) (cause : Cause) → Recovers [] (refused_steps es cause)
  refuses es cause = released-effecting (RecoveryTells r) [] refl es (ends.Refused cause) refl

  recover-refuses : (row : Row) (cause : Cause) → Recovers [] (recover_refused r row cause)
  recover-refuses row cause = refuses (give_back r (unseized_data r row ++ unseized_parity r row.parity)) cause

  -- the parity is put, and what is lost is committed
  module _ (n : Number) (row : Row) (lost : Option ℕ) where
    closes : Recovers (lost_commits r lost) (recover_put r row n lost (Through tt))
    closes =
        quiet-effecting (RecoveryTells r) (lost_commits r lost) (closing n lost) (end_as (ends.Recovered n true lost)) (λ v. refl) (λ v e. refl) (λ walk. refl) (give_back r (granted_data r row)) tt

    abbrev the_put : Errand
    the_put = put r.id r.row n (recovered_parity row lost) (parity_bay r.n r.row)

    put-answered : (reply : Reply) (b : Bool) → Recovers (cond b ([] ++ lost_commits r lost) [])
        (bind (go_on (cond b (Some tt) None) (λ (u : Unit {0}). run (recover_putting r lost) [] u) (Ends (Stopped tt the_put reply))) (recover_put r row n lost))
    put-answered reply true = closes
    put-answered reply false = refuses (give_back r (unseized_data r row)) (put_cause r.row the_put reply)

  recovers-by : (n : Number) (row : Row) (v : Verdict) → Recovers [] (recover_by r row n v)
  recovers-by n row Leaves =
      released-effecting (RecoveryTells r) [] refl (give_back r (granted_data r row ++ parity_granted r.n r.row row.parity)) (ends.Recovered n true None) refl
  recovers-by n row (Sums lost) = (refl, λ reply fit. put-answered n row lost reply (is_done reply))

  recovers-drawn : (row : Row) (d : Result Number Spent) → Recovers [] (recover_drawn r row d)
  recovers-drawn row (Err spent) = recover-refuses row (causes.Spent spent.seen)
  recovers-drawn row (Ok n) = recovers-by n row (verdict r row)

  recovers-confirmed : (taken : Taken) (walk : Walk (Unit {0})) → Recovers [] (recover_confirmed r taken walk)
  recovers-confirmed taken (Stopped u e reply) = recover-refuses taken.row _
  recovers-confirmed taken (Through u) = recovers-drawn taken.row

  seized : (walk : Walk Taken) → Recovers [] (units_seized r walk)
  seized (Stopped taken e reply) = recover-refuses taken.row (why None taken e reply)
  seized (Through taken) =
      quiet-effecting (RecoveryTells r) [] (recover_confirming taken) (recover_confirmed r taken) (λ u. refl) (λ u e. refl) (recovers-confirmed taken)
      (confirm r.id r.row false (parity_bay r.n r.row) ∷ []) tt

  seizes : (taken : Taken) → Recovers [] (seize_units r taken)
  seizes taken =
      quiet-effecting (RecoveryTells r) [] (taking None with_wanted) (units_seized r) (λ t. refl) (λ t e. refl) seized
      (claims r.id r.row Seize true (bays_of r.n r.row (units r.n))) taken

  lacking : (taken : Taken) (operator : Bool) → Recovers [] (if operator then seize_units r taken else recover_refused r taken.row (causes.Gone (parity_bay r.n r.row)))
  lacking taken true = seizes taken
  lacking taken false = recover-refuses taken.row (causes.Gone (parity_bay r.n r.row))

  takes-parity : (taken : Taken) (grant : Option Grant) → Recovers [] (parity_taken r taken grant)
  takes-parity taken (Some grant) = seizes taken
  takes-parity taken None = lacking taken (r.host.0 == 0)

  parity-seizes : (walk : Walk Taken) → Recovers [] (parity_seized r walk)
  parity-seizes (Stopped taken e reply) = recover-refuses taken.row (why None taken e reply)
  parity-seizes (Through taken) = takes-parity taken taken.row.parity

  pub recoveries-tell : Recovers [] (recover_steps r)
  recoveries-tell =
      quiet-effecting (RecoveryTells r) [] (taking None with_parity) (parity_seized r) (λ t. refl) (λ t e. refl) parity-seizes
      (claim r.id r.row Seize 0 true (parity_bay r.n r.row) ∷ []) (begun (whole_part r) no_rows)
