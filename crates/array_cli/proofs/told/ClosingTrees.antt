-- How attempts close, at their end and where their host stops, and the numbers that they tell then.
use Rattle.std.proofs.Common.{◌==◌, ℕ, Bool, true, false, if◌then◌else◌, List, [], ◌∷◌, ◌++◌, Option, Some, None, IfSome, Result, Ok, Err}
use Rattle.raid_base.specs.declared.numbers.RowNo.{RowNo}
use Rattle.raid_base.specs.declared.numbers.Number.{Number}
use Rattle.raid_base.specs.declared.numbers.Spent.{Spent}
use Rattle.raid_base.specs.declared.messages.Mode.{Mode}
use Rattle.raid_base.specs.declared.messages.Mode.TheVariants.{Lock, Order}
use Rattle.raid_base.specs.declared.messages.Reply.{Reply}
use Rattle.raid_base.specs.declared.messages.Errand.{Errand}
use Rattle.raid_base.specs.declared.messages.Grant.{Grant}
use Rattle.raid_base.specs.declared.messages.How.TheVariants.{Mend, Seize}
use Rattle.raid_base.specs.declared.jobs.Cause.{Cause}
use Rattle.raid_base.specs.declared.jobs.Cause.TheVariants as causes
use Rattle.raid_base.specs.declared.jobs.Ended.{Ended}
use Rattle.raid_base.specs.declared.jobs.Ended.TheVariants as ends
use Rattle.raid_base.specs.declared.jobs.RowPart.{RowPart}
use Rattle.raid_base.specs.Replies.{grant_of}
use Rattle.raid_base.specs.Steps.{Steps, Asks, Draws, Ends, bind, go_on, Walk, Through, Stopped, Phase, run}
use Rattle.stripe_layout.specs.Placement.{parity_bay, bays_of, units, units_in, units_out, parity_first}
use Rattle.attempts.specs.declared.Repair.{Repair}
use Rattle.attempts.specs.declared.Rescue.{Rescue}
use Rattle.attempts.specs.declared.Hold.{Hold}
use Rattle.attempts.specs.Discipline.{IsDrawn}
use Rattle.attempts.specs.Taking.{Access, Finish, Row, Rows, no_rows, Taken, begun, row_ended, lacks, behind_from, why, with_parity, with_wanted, with_other, taking, share, shares, claim, claims, confirm}
use Rattle.attempts.specs.Releases.{releasing, end_as, released_steps, refused_steps, read_releases, parity_granted}
use Rattle.attempts.specs.Reading.{sharing, read_refused, numbered_releases, freeing, read_freed, read_drawn, read_numbered, row_shared, parity_shared, share_rest, wanted_shared, read_rows, read_steps}
use Rattle.attempts.specs.Puts.{put}
use Rattle.attempts.specs.Mending.{mending, with_hold, mend_why, mend_releases, without_target, mended_cell, put_cause, mend_putting, mend_put, mend_numbered, is_shown, mend_drawn, mend_confirmed, mend_confirming, mend_claimed, mend_steps}
use Rattle.attempts.specs.Recovery.{whole_part, unseized_data, granted_data, give_back, recover_refused, Verdict, Leaves, Sums, verdict, recovered_parity, recover_putting, closing, recover_put, recover_by, recover_drawn, recover_confirmed, recover_confirming, units_seized, seize_units, parity_taken, parity_seized, recover_steps}

-- Whatever the replies and the numbers drawn: the attempt ends as Q, also where its host stops before that.
abbrev pub Closes : (Ended → Type 0) → Steps Finish → Type 0
Closes Q (Ends f) = Q f.ended
Closes Q (Draws k) = (d : Result Number Spent) → IsDrawn d → Closes Q (k d)
Closes Q (Asks e stop commits k) = Q stop × ((r : Reply) → Closes Q (k r))

any : {A : Type 0} (o : Option A) → IfSome o (λ a. Unit {0})
any (Some a) = tt
any None = tt

module _ (Q : Ended → Type 0) {A : Type 0} where
  closes-go : (I : A → Type 0) (o : Option A) (g : A → Steps (Walk A)) (s : Steps (Walk A)) (f : Walk A → Steps Finish) →
      IfSome o I → ((a : A) → I a → Closes Q (bind (g a) f)) → Closes Q (bind s f) → Closes Q (bind (go_on o g s) f)
  closes-go I (Some a) g s f i on off = on a i
  closes-go I None g s f i on off = off

  -- one errand
  pub closes-head : (I : A → Type 0) (phase : Phase A) (f : Walk A → Steps Finish) (e : Errand) (es : List Errand) (a : A) → Q (phase.stop a) →
      ((r : Reply) → IfSome (phase.step a e r) I) → ((b : A) → I b → Closes Q (bind (run phase es b) f)) → ((r : Reply) → Closes Q (f (Stopped a e r))) →
      Closes Q (bind (run phase (e ∷ es) a) f)
  closes-head I phase f e es a stop keeps on off =
      (stop, λ r. closes-go I (phase.step a e r) (λ b. run phase es b) (Ends (Stopped a e r)) f (keeps r) on (off r))

  -- over any errands, with what each reply keeps
  pub closes-kept : (I : A → Type 0) (phase : Phase A) (f : Walk A → Steps Finish) → ((a : A) → I a → Q (phase.stop a)) →
      ((a : A) (e : Errand) (r : Reply) → I a → IfSome (phase.step a e r) I) → ((a : A) → I a → Closes Q (f (Through a))) →
      ((a : A) (e : Errand) (r : Reply) → I a → Closes Q (f (Stopped a e r))) → (es : List Errand) (a : A) → I a → Closes Q (bind (run phase es a) f)
  closes-kept I phase f stops keeps on off [] a i = on a i
  closes-kept I phase f stops keeps on off (e ∷ es) a i =
      closes-head I phase f e es a (stops a i) (λ r. keeps a e r i) (λ b j. closes-kept I phase f stops keeps on off es b j) (λ r. off a e r i)

  -- whatever the walk gives
  pub closes-run : (phase : Phase A) (f : Walk A → Steps Finish) → ((a : A) → Q (phase.stop a)) → ((walk : Walk A) → Closes Q (f walk)) → (es : List Errand) (a : A) →
      Closes Q (bind (run phase es a) f)
  closes-run phase f stops on es a =
      closes-kept (λ (b : A). Unit {0}) phase f (λ b u. stops b) (λ b e r u. any (phase.step b e r)) (λ b u. on (Through b)) (λ b e r u. on (Stopped b e r)) es a tt

-- what is given back
pub released-closes : (Q : Ended → Type 0) → Q (ends.Refused causes.Quit) → (es : List Errand) (ended : Ended) → Q ended → Closes Q (released_steps es ended)
released-closes Q quit es ended q = closes-run Q releasing (end_as ended) (λ u. quit) (λ walk. q) es tt

-- Reads
abbrev pub ReadCloses : Ended → Type 0
ReadCloses (ends.Read n) = Unit {0}
ReadCloses (ends.Refused cause) = Unit {0}
ReadCloses (ends.Wrote n) = ⊥
ReadCloses (ends.Part n made cause) = ⊥
ReadCloses (ends.Recovered n closed lost) = ⊥
ReadCloses ends.Mended = ⊥

module _ (a : Access) where
  refuses : (es : List Errand) (cause : Cause) → Closes ReadCloses (refused_steps es cause)
  refuses es cause = released-closes ReadCloses tt es (ends.Refused cause) tt

  freed : (n : Number) (rows : List Row) (walk : Walk (Option RowNo)) → Closes ReadCloses (read_freed a n rows walk)
  freed n rows (Through None) = tt
  freed n rows (Through (Some row)) = tt
  freed n rows (Stopped row e r) = tt

  drawn : (rows : List Row) (d : Result Number Spent) → Closes ReadCloses (read_drawn a rows d)
  drawn rows (Err spent) = refuses (read_releases a rows) (causes.Spent spent.seen)
  drawn rows (Ok n) = closes-run ReadCloses freeing (read_freed a n rows) (λ o. tt) (freed n rows) (numbered_releases a n rows) None

  numbered : (mode : Mode) (rows : List Row) → Closes ReadCloses (read_numbered mode a rows)
  numbered Order rows = tt
  numbered Lock rows = λ d is. drawn rows d

  stopped : (taken : Taken) (e : Errand) (r : Reply) → Closes ReadCloses (read_refused a taken e r)
  stopped taken e r = refuses (read_releases a (taken.before ++ taken.row ∷ [])) (why (behind_from a.mode a.id) taken e r)

  module _ (rest : Rows → Steps Finish) (on : (rows : Rows) → Closes ReadCloses (rest rows)) where
    row-shares : (walk : Walk Taken) → Closes ReadCloses (row_shared a rest walk)
    row-shares (Through taken) = on (row_ended taken)
    row-shares (Stopped taken e r) = stopped taken e r

    parity-shares : (walk : Walk Taken) → Closes ReadCloses (parity_shared a rest walk)
    parity-shares (Stopped taken e r) = stopped taken e r
    parity-shares (Through taken) =
        closes-run ReadCloses (sharing a with_other) (row_shared a rest) (λ t. tt) row-shares
        (shares a.id taken.row.part.row (bays_of a.n taken.row.part.row (units_out a.n taken.row.part.mask))) taken

    rest-shares : (taken : Taken) (lacking : Bool) → Closes ReadCloses (share_rest a rest taken lacking)
    rest-shares taken false = on (row_ended taken)
    rest-shares taken true =
        closes-run ReadCloses (sharing a with_parity) (parity_shared a rest) (λ t. tt) parity-shares
        (share a.id taken.row.part.row (parity_bay a.n taken.row.part.row) ∷ []) taken

    wanted-shares : (walk : Walk Taken) → Closes ReadCloses (wanted_shared a rest walk)
    wanted-shares (Stopped taken e r) = stopped taken e r
    wanted-shares (Through taken) = rest-shares taken (lacks taken.row.wanted)

  rows-close : (left : List RowPart) (done : Rows) → Closes ReadCloses (read_rows a left done)
  rows-close [] done = numbered a.mode done.rows
  rows-close (part ∷ left) done =
      closes-run ReadCloses (sharing a with_wanted) (wanted_shared a (read_rows a left)) (λ t. tt) (wanted-shares (read_rows a left) (rows-close left))
      (shares a.id part.row (bays_of a.n part.row (units_in a.n part.mask))) (begun part done)

  pub reads-close : Closes ReadCloses (read_steps a)
  reads-close = rows-close a.parts no_rows

-- Rebuilds
abbrev pub MendCloses : Ended → Type 0
MendCloses (ends.Refused cause) = Unit {0}
MendCloses ends.Mended = Unit {0}
MendCloses (ends.Read n) = ⊥
MendCloses (ends.Wrote n) = ⊥
MendCloses (ends.Part n made cause) = ⊥
MendCloses (ends.Recovered n closed lost) = ⊥

module _ (m : Repair) where
  mend-returns : (es : List Errand) (ended : Ended) → MendCloses ended → Closes MendCloses (released_steps es ended)
  mend-returns es ended q = released-closes MendCloses tt es ended q

  mend-puts : (holds : List Hold) (walk : Walk (Unit {0})) → Closes MendCloses (mend_put m holds walk)
  mend-puts holds (Through u) = mend-returns (mend_releases m (without_target m holds)) ends.Mended tt
  mend-puts holds (Stopped u e r) = mend-returns (mend_releases m holds) (ends.Refused (put_cause m.row e r)) tt

  mend-numbers : (holds : List Hold) (n : Number) (shown : Bool) → Closes MendCloses (mend_numbered m holds n shown)
  mend-numbers holds n true = mend-returns (mend_releases m holds) ends.Mended tt
  mend-numbers holds n false = closes-run MendCloses mend_putting (mend_put m holds) (λ u. tt) (mend-puts holds) (put m.id m.row n (mended_cell m holds) m.target ∷ []) tt

  mend-draws : (holds : List Hold) (d : Result Number Spent) → Closes MendCloses (mend_drawn m holds d)
  mend-draws holds (Err spent) = mend-returns (mend_releases m holds) (ends.Refused (causes.Spent spent.seen)) tt
  mend-draws holds (Ok n) = mend-numbers holds n (is_shown m.target holds)

  mend-confirms : (holds : List Hold) (walk : Walk (Unit {0})) → Closes MendCloses (mend_confirmed m holds walk)
  mend-confirms holds (Stopped u e r) = mend-returns (mend_releases m holds) (ends.Refused (mend_why e r (causes.Changed m.row))) tt
  mend-confirms holds (Through u) = λ d is. mend-draws holds d

  mend-claims : (walk : Walk (List Hold)) → Closes MendCloses (mend_claimed m walk)
  mend-claims (Stopped holds e r) = mend-returns (mend_releases m (with_hold holds e.bay (grant_of r))) (ends.Refused (mend_why e r (causes.Gone e.bay))) tt
  mend-claims (Through holds) =
      closes-run MendCloses mend_confirming (mend_confirmed m holds) (λ u. tt) (mend-confirms holds) (confirm m.id m.row false (parity_bay m.n m.row) ∷ []) tt

  pub mends-close : Closes MendCloses (mend_steps m)
  mends-close = closes-run MendCloses (mending m) (mend_claimed m) (λ u. tt) mend-claims (claims m.id m.row Mend true (parity_first m.n m.row)) []

-- Recoveries
abbrev pub RecoverCloses : Ended → Type 0
RecoverCloses (ends.Refused cause) = Unit {0}
RecoverCloses (ends.Recovered n closed lost) = Unit {0}
RecoverCloses (ends.Read n) = ⊥
RecoverCloses (ends.Wrote n) = ⊥
RecoverCloses (ends.Part n made cause) = ⊥
RecoverCloses ends.Mended = ⊥

module _ (r : Rescue) where
  recover-returns : (es : List Errand) (ended : Ended) → RecoverCloses ended → Closes RecoverCloses (released_steps es ended)
  recover-returns es ended q = released-closes RecoverCloses tt es ended q

  recover-refuses : (row : Row) (cause : Cause) → Closes RecoverCloses (recover_refused r row cause)
  recover-refuses row cause = recover-returns _ (ends.Refused cause) tt

  recover-puts : (row : Row) (n : Number) (lost : Option ℕ) (walk : Walk (Unit {0})) → Closes RecoverCloses (recover_put r row n lost walk)
  recover-puts row n lost (Stopped u e reply) = recover-returns (give_back r (unseized_data r row)) (ends.Refused (put_cause r.row e reply)) tt
  recover-puts row n lost (Through u) =
      closes-run RecoverCloses (closing n lost) (end_as (ends.Recovered n true lost)) (λ v. tt) (λ walk. tt) (give_back r (granted_data r row)) tt

  recover-goes : (row : Row) (n : Number) (v : Verdict) → Closes RecoverCloses (recover_by r row n v)
  recover-goes row n Leaves = recover-returns (give_back r (granted_data r row ++ parity_granted r.n r.row row.parity)) (ends.Recovered n true None) tt
  recover-goes row n (Sums lost) =
      closes-run RecoverCloses (recover_putting r lost) (recover_put r row n lost) (λ u. tt) (recover-puts row n lost)
      (put r.id r.row n (recovered_parity row lost) (parity_bay r.n r.row) ∷ []) tt

  recover-draws : (row : Row) (d : Result Number Spent) → Closes RecoverCloses (recover_drawn r row d)
  recover-draws row (Err spent) = recover-refuses row (causes.Spent spent.seen)
  recover-draws row (Ok n) = recover-goes row n (verdict r row)

  recover-confirms : (taken : Taken) (walk : Walk (Unit {0})) → Closes RecoverCloses (recover_confirmed r taken walk)
  recover-confirms taken (Stopped u e reply) = recover-refuses taken.row _
  recover-confirms taken (Through u) = λ d is. recover-draws taken.row d

  units-taken : (walk : Walk Taken) → Closes RecoverCloses (units_seized r walk)
  units-taken (Stopped taken e reply) = recover-refuses taken.row (why None taken e reply)
  units-taken (Through taken) =
      closes-run RecoverCloses (recover_confirming taken) (recover_confirmed r taken) (λ u. tt) (recover-confirms taken) (confirm r.id r.row false (parity_bay r.n r.row) ∷ []) tt

  units-close : (taken : Taken) → Closes RecoverCloses (seize_units r taken)
  units-close taken = closes-run RecoverCloses (taking None with_wanted) (units_seized r) (λ u. tt) units-taken (claims r.id r.row Seize true (bays_of r.n r.row (units r.n))) taken

  lacking-closes : (taken : Taken) (operator : Bool) → Closes RecoverCloses (if operator then seize_units r taken else recover_refused r taken.row (causes.Gone (parity_bay r.n r.row)))
  lacking-closes taken true = units-close taken
  lacking-closes taken false = recover-refuses taken.row (causes.Gone (parity_bay r.n r.row))

  parity-takes : (taken : Taken) (grant : Option Grant) → Closes RecoverCloses (parity_taken r taken grant)
  parity-takes taken (Some grant) = units-close taken
  parity-takes taken None = lacking-closes taken (r.host.0 == 0)

  parity-closes : (walk : Walk Taken) → Closes RecoverCloses (parity_seized r walk)
  parity-closes (Stopped taken e reply) = recover-refuses taken.row (why None taken e reply)
  parity-closes (Through taken) = parity-takes taken taken.row.parity

  pub recoveries-close : Closes RecoverCloses (recover_steps r)
  recoveries-close =
      closes-run RecoverCloses (taking None with_parity) (parity_seized r) (λ u. tt) parity-closes (claim r.id r.row Seize 0 true (parity_bay r.n r.row) ∷ []) (begun (whole_part r) no_rows)
