-- Each claim of an attempt is made in the way of its kind.
use Rattle.std.proofs.Common.{inl, inr, ◌==◌, ℕ, Bool, true, false, if◌then◌else◌, List, [], ◌∷◌, ◌++◌, map, flat_map, Option, Some, None, Result, Ok, Err, refl}
use Rattle.std.specs.List.{AllByRecursion}
use Rattle.raid_base.specs.declared.numbers.BayNo.{BayNo}
use Rattle.raid_base.specs.declared.numbers.RowNo.{RowNo}
use Rattle.raid_base.specs.declared.numbers.Number.{Number}
use Rattle.raid_base.specs.declared.numbers.Spent.{Spent}
use Rattle.raid_base.specs.declared.messages.Mode.{Mode}
use Rattle.raid_base.specs.declared.messages.Mode.TheVariants.{Lock, Order}
use Rattle.raid_base.specs.declared.messages.How.{How}
use Rattle.raid_base.specs.declared.messages.How.TheVariants.{Plain, Mend, Seize}
use Rattle.raid_base.specs.declared.messages.Reply.{Reply}
use Rattle.raid_base.specs.declared.messages.Errand.{Errand}
use Rattle.raid_base.specs.declared.messages.Grant.{Grant}
use Rattle.raid_base.specs.declared.jobs.Cause.{Cause}
use Rattle.raid_base.specs.declared.jobs.Cause.TheVariants as causes
use Rattle.raid_base.specs.declared.jobs.Ended.{Ended}
use Rattle.raid_base.specs.declared.jobs.Ended.TheVariants as ends
use Rattle.raid_base.specs.declared.jobs.Plan.{Plan}
use Rattle.raid_base.specs.declared.jobs.Plan.TheVariants.{Full, Small, Reconstruct}
use Rattle.raid_base.specs.declared.jobs.RowPart.{RowPart}
use Rattle.raid_base.specs.Replies.{grant_of}
use Rattle.raid_base.specs.Steps.{Steps, Ends, bind, go_on, Walk, Through, Stopped, Phase, run}
use Rattle.stripe_layout.specs.Placement.{parity_bay, bays_of, units, units_in, units_out, parity_first}
use Rattle.attempts.specs.declared.Repair.{Repair}
use Rattle.attempts.specs.declared.Rescue.{Rescue}
use Rattle.attempts.specs.declared.Hold.{Hold}
use Rattle.attempts.specs.Taking.{Access, Finish, Row, Rows, no_rows, Taken, begun, row_ended, with_parity, with_wanted, with_other, with_grant, lacks, behind_from, refusal, taking, taking_until, why, share, shares, claim, claims, confirm}
use Rattle.attempts.specs.Releases.{release, releases, releasing, end_as, released_steps, refused_steps, read_holds, write_holds, read_releases, write_releases, others_granted, parity_granted}
use Rattle.attempts.specs.Reading.{sharing, read_refused, row_readers, numbered_releases, freeing, read_freed, read_drawn, read_numbered, row_shared, parity_shared, share_rest, wanted_shared, read_rows, read_steps}
use Rattle.attempts.specs.Puts.{plan_of, Puts, no_puts, at_row, put, data_put, data_puts, putting_data, parity_put, putting_parity, with_trouble, trouble_of}
use Rattle.attempts.specs.Writing.{write_stopped, finishing, reader_releases, write_end, write_last, parity_done, put_parity, data_done, put_rows, write_drawn, write_numbered, row_confirm, confirming, confirm_cause, row_confirmed, confirm_rows, claiming, row_claimed, wanted_claims, other_shares, claim_wanted, share_others, small_claimed, share_stopped, others_shared, claim_row, parity_claimed, parity_claim, claim_rows, write_steps}
use Rattle.attempts.specs.Mending.{mending, with_hold, mend_why, mend_releases, without_target, mended_cell, put_cause, mend_putting, mend_put, mend_numbered, mend_drawn, is_shown, mend_confirmed, mend_confirming, mend_claimed, mend_steps}
use Rattle.attempts.specs.Recovery.{whole_part, unseized_data, granted_data, unseized_parity, give_back, recover_refused, Verdict, Leaves, Sums, verdict, recovered_parity, recover_putting, closing, recover_put, recover_by, recover_drawn, recover_confirmed, recover_confirming, units_seized, seize_units, parity_taken, parity_seized, recover_steps}
use Rattle.attempts.specs.Once.{ClaimsSo, EachClaims, ClaimsAreOfTheirKind}
use Rattle.attempts.proofs.RoomLemmas.{all-made}
use Rattle.attempts.proofs.PhaseLemmas.{all-flat}

-- Walks
module _ (n : ℕ) (kind : How) where
  abbrev AllSo : List Errand → Type 0
  AllSo es = AllByRecursion (λ (e : Errand). ClaimsSo n kind e.bay e.request) es

  each-map : {X : Type 0} (make : X → Errand) → ((x : X) → ClaimsSo n kind (make x).bay (make x).request) → (xs : List X) → AllSo (map make xs)
  each-map make so xs = all-made (λ (e : Errand). ClaimsSo n kind e.bay e.request) make so xs

  each-flat : {X : Type 0} (make : X → List Errand) → ((x : X) → AllSo (make x)) → (xs : List X) → AllSo (flat_map make xs)
  each-flat make so xs = all-flat (λ (e : Errand). ClaimsSo n kind e.bay e.request) make so xs

  each-shares : (id : Number) (row : RowNo) (bays : List BayNo) → AllSo (shares id row bays)
  each-shares id row bays = each-map (share id row) (λ bay. tt) bays

  each-releases : (id : Number) (row : RowNo) (number : Option Number) (bays : List BayNo) → AllSo (releases id row number bays)
  each-releases id row number bays = each-map (release id row number) (λ bay. tt) bays

  -- claims of slots without a mask
  each-claims : (id : Number) (row : RowNo) (want : Bool) (bays : List BayNo) → AllSo (claims id row kind want bays)
  each-claims id row want bays = each-map (claim id row kind 0 want) (λ bay. (refl, inl refl)) bays

  module _ {A : Type 0} where
    each-go : (o : Option A) (g : A → Steps (Walk A)) (s : Steps (Walk A)) (f : Walk A → Steps Finish) →
        ((a : A) → EachClaims n kind (bind (g a) f)) → EachClaims n kind (bind s f) → EachClaims n kind (bind (go_on o g s) f)
    each-go (Some a) g s f on off = on a
    each-go None g s f on off = off

    -- whatever the walk gives
    each-run : (phase : Phase A) (f : Walk A → Steps Finish) → ((walk : Walk A) → EachClaims n kind (f walk)) →
        (es : List Errand) → AllSo es → (a : A) → EachClaims n kind (bind (run phase es a) f)
    each-run phase f on [] so a = on (Through a)
    each-run phase f on (e ∷ es) so a =
        (so.0, λ r. each-go (phase.step a e r) (λ b. run phase es b) (Ends (Stopped a e r)) f (λ b. each-run phase f on es so.1 b) (on (Stopped a e r)))

  each-released : (es : List Errand) (ended : Ended) → AllSo es → EachClaims n kind (released_steps es ended)
  each-released es ended so = each-run releasing (end_as ended) (λ walk. tt) es so tt

-- Reads
module _ (a : Access) where
  each-read-releases : (rows : List Row) → AllSo a.n Plain (read_releases a rows)
  each-read-releases rows =
      each-flat a.n Plain (λ (row : Row). releases a.id row.part.row None (read_holds a.mode a.n row))
      (λ row. each-releases a.n Plain a.id row.part.row None (read_holds a.mode a.n row)) rows

  each-numbered : (n : Number) (rows : List Row) → AllSo a.n Plain (numbered_releases a n rows)
  each-numbered n rows =
      each-flat a.n Plain (λ (row : Row). releases a.id row.part.row (Some n) (row_readers a.n row))
      (λ row. each-releases a.n Plain a.id row.part.row (Some n) (row_readers a.n row)) rows

  freed : (n : Number) (rows : List Row) (walk : Walk (Option RowNo)) → EachClaims a.n Plain (read_freed a n rows walk)
  freed n rows (Through None) = tt
  freed n rows (Through (Some row)) = tt
  freed n rows (Stopped row e r) = tt

  read-drawn : (rows : List Row) (d : Result Number Spent) → EachClaims a.n Plain (read_drawn a rows d)
  read-drawn rows (Err spent) = each-released a.n Plain (read_releases a rows) (ends.Refused (causes.Spent spent.seen)) (each-read-releases rows)
  read-drawn rows (Ok n) = each-run a.n Plain freeing (read_freed a n rows) (freed n rows) (numbered_releases a n rows) (each-numbered n rows) None

  read-numbered : (mode : Mode) (rows : List Row) → EachClaims a.n Plain (read_numbered mode a rows)
  read-numbered Order rows = tt
  read-numbered Lock rows = read-drawn rows

  read-stopped : (taken : Taken) (e : Errand) (r : Reply) → EachClaims a.n Plain (read_refused a taken e r)
  read-stopped taken e r =
      each-released a.n Plain (read_releases a (taken.before ++ taken.row ∷ [])) (ends.Refused (why (behind_from a.mode a.id) taken e r))
      (each-read-releases (taken.before ++ taken.row ∷ []))

  module _ (rest : Rows → Steps Finish) (on : (rows : Rows) → EachClaims a.n Plain (rest rows)) where
    row-shares : (walk : Walk Taken) → EachClaims a.n Plain (row_shared a rest walk)
    row-shares (Through taken) = on (row_ended taken)
    row-shares (Stopped taken e r) = read-stopped taken e r

    parity-shares : (walk : Walk Taken) → EachClaims a.n Plain (parity_shared a rest walk)
    parity-shares (Stopped taken e r) = read-stopped taken e r
    parity-shares (Through taken) =
        each-run a.n Plain (sharing a with_other) (row_shared a rest) row-shares
        (shares a.id taken.row.part.row (bays_of a.n taken.row.part.row (units_out a.n taken.row.part.mask)))
        (each-shares a.n Plain a.id taken.row.part.row (bays_of a.n taken.row.part.row (units_out a.n taken.row.part.mask))) taken

    rest-shares : (taken : Taken) (lacking : Bool) → EachClaims a.n Plain (share_rest a rest taken lacking)
    rest-shares taken false = on (row_ended taken)
    rest-shares taken true =
        each-run a.n Plain (sharing a with_parity) (parity_shared a rest) parity-shares
        (share a.id taken.row.part.row (parity_bay a.n taken.row.part.row) ∷ []) (tt, tt) taken

    wanted-shares : (walk : Walk Taken) → EachClaims a.n Plain (wanted_shared a rest walk)
    wanted-shares (Stopped taken e r) = read-stopped taken e r
    wanted-shares (Through taken) = rest-shares taken (lacks taken.row.wanted)

  rows-read : (left : List RowPart) (done : Rows) → EachClaims a.n Plain (read_rows a left done)
  rows-read [] done = read-numbered a.mode done.rows
  rows-read (part ∷ left) done =
      each-run a.n Plain (sharing a with_wanted) (wanted_shared a (read_rows a left)) (wanted-shares (read_rows a left) (rows-read left))
      (shares a.id part.row (bays_of a.n part.row (units_in a.n part.mask)))
      (each-shares a.n Plain a.id part.row (bays_of a.n part.row (units_in a.n part.mask))) (begun part done)

  reads-claim : EachClaims a.n Plain (read_steps a)
  reads-claim = rows-read a.parts no_rows

-- Writes
module _ (a : Access) where
  each-write-releases : (rows : List Row) → AllSo a.n Plain (write_releases a rows)
  each-write-releases rows =
      each-flat a.n Plain (λ (row : Row). releases a.id row.part.row None (write_holds a.mode a.n row))
      (λ row. each-releases a.n Plain a.id row.part.row None (write_holds a.mode a.n row)) rows

  each-readers : (mode : Mode) (rows : List Row) → AllSo a.n Plain (reader_releases mode a rows)
  each-readers Order rows = tt
  each-readers Lock rows =
      each-flat a.n Plain (λ (row : Row). releases a.id row.part.row None (bays_of a.n row.part.row (others_granted a.n row)))
      (λ row. each-releases a.n Plain a.id row.part.row None (bays_of a.n row.part.row (others_granted a.n row))) rows

  module _ (n : Number) where
    write-ends : (walk : Walk Puts) → EachClaims a.n Plain (write_end a n walk)
    write-ends (Through puts) = tt
    write-ends (Stopped puts e r) = tt

    lasts : (rows : List Row) (puts : Puts) → EachClaims a.n Plain (write_last a n rows puts)
    lasts rows puts = each-run a.n Plain (finishing a n) (write_end a n) write-ends (reader_releases a.mode a rows) (each-readers a.mode rows) puts

    module _ (rest : Puts → Steps Finish) (on : (puts : Puts) → EachClaims a.n Plain (rest puts)) (row : Row) where
      parity-ends : (walk : Walk Puts) → EachClaims a.n Plain (parity_done row rest walk)
      parity-ends (Through puts) = on puts
      parity-ends (Stopped puts e r) = on (with_trouble puts (trouble_of row e r))

      parity-puts : (puts : Puts) (grant : Option Grant) → EachClaims a.n Plain (put_parity a n row rest puts grant)
      parity-puts puts None = on puts
      parity-puts puts (Some grant) =
          each-run a.n Plain (putting_parity a n row) (parity_done row rest) parity-ends (parity_put a n row ∷ []) (tt, tt) puts

      data-ends : (walk : Walk Puts) → EachClaims a.n Plain (data_done a n row rest walk)
      data-ends (Through puts) = parity-puts puts row.parity
      data-ends (Stopped puts e r) = on (with_trouble puts (trouble_of row e r))

    rows-put : (all rows : List Row) (puts : Puts) → EachClaims a.n Plain (put_rows a n (write_last a n all) rows puts)
    rows-put all [] puts = lasts all puts
    rows-put all (row ∷ rows) puts =
        each-run a.n Plain (putting_data a n row) (data_done a n row (put_rows a n (write_last a n all) rows))
        (data-ends (put_rows a n (write_last a n all) rows) (rows-put all rows) row)
        (data_puts a n row) (each-map a.n Plain (data_put a n row) (λ unit. tt) _) (at_row puts)

  write-refuses : (rows : List Row) (cause : Cause) → EachClaims a.n Plain (refused_steps (write_releases a rows) cause)
  write-refuses rows cause = each-released a.n Plain (write_releases a rows) (ends.Refused cause) (each-write-releases rows)

  write-drawn : (rows : List Row) (d : Result Number Spent) → EachClaims a.n Plain (write_drawn a rows d)
  write-drawn rows (Err spent) = write-refuses rows (causes.Spent spent.seen)
  write-drawn rows (Ok n) = rows-put n rows rows no_puts

  write-numbers : (mode : Mode) (rows : List Row) → EachClaims a.n Plain (write_numbered mode a rows)
  write-numbers Order rows = rows-put a.id rows rows no_puts
  write-numbers Lock rows = write-drawn rows

  row-confirms : (rows : List Row) (row : Row) (rest : Rows → Steps Finish) → ((done : Rows) → EachClaims a.n Plain (rest done)) → (walk : Walk Rows) →
      EachClaims a.n Plain (row_confirmed a rows row rest walk)
  row-confirms rows row rest on (Through done) = on done
  row-confirms rows row rest on (Stopped done e r) = write-refuses rows (confirm_cause a row done e r)

  write-stops : (taken : Taken) (e : Errand) (r : Reply) → EachClaims a.n Plain (write_stopped a taken e r)
  write-stops taken e r = write-refuses (taken.before ++ taken.row ∷ []) (why (behind_from a.mode a.id) taken e r)

  module _ (rest : Rows → Steps Finish) (on : (rows : Rows) → EachClaims a.n Plain (rest rows)) where
    row-claims : (walk : Walk Taken) → EachClaims a.n Plain (row_claimed a rest walk)
    row-claims (Through taken) = on (row_ended taken)
    row-claims (Stopped taken e r) = write-stops taken e r

    each-wanted : (want : Bool) (part : RowPart) → AllSo a.n Plain (wanted_claims a want part)
    each-wanted want part = each-claims a.n Plain a.id part.row want (bays_of a.n part.row (units_in a.n part.mask))

    each-others : (part : RowPart) → AllSo a.n Plain (other_shares a part)
    each-others part = each-shares a.n Plain a.id part.row (bays_of a.n part.row (units_out a.n part.mask))

    wanted-claimed : (want : Bool) (taken : Taken) → EachClaims a.n Plain (claim_wanted a rest want taken)
    wanted-claimed want taken =
        each-run a.n Plain (claiming a with_wanted) (row_claimed a rest) row-claims (wanted_claims a want taken.row.part) (each-wanted want taken.row.part) taken

    others-claimed : (taken : Taken) (lacking : Bool) → EachClaims a.n Plain (share_others a rest taken lacking)
    others-claimed taken false = on (row_ended taken)
    others-claimed taken true =
        each-run a.n Plain (claiming a with_other) (row_claimed a rest) row-claims (other_shares a taken.row.part) (each-others taken.row.part) taken

    small-claims : (walk : Walk Taken) → EachClaims a.n Plain (small_claimed a rest walk)
    small-claims (Stopped taken e r) = write-stops taken e r
    small-claims (Through taken) = others-claimed taken (lacks taken.row.wanted)

    share-stops : (taken : Taken) (bay : BayNo) (cause : Option Cause) → EachClaims a.n Plain (share_stopped a rest taken bay cause)
    share-stops taken bay (Some cause) = write-refuses (taken.before ++ taken.row ∷ []) cause
    share-stops taken bay None = wanted-claimed true (with_grant with_other taken bay None)

    others-share : (walk : Walk Taken) → EachClaims a.n Plain (others_shared a rest walk)
    others-share (Through taken) = wanted-claimed false taken
    others-share (Stopped taken e r) = share-stops taken e.bay (refusal (behind_from a.mode a.id) taken.missing e.bay r)

    row-begins : (taken : Taken) (grant : Option Grant) (plan : Plan) → EachClaims a.n Plain (claim_row a rest taken grant plan)
    row-begins taken None plan = wanted-claimed false taken
    row-begins taken (Some grant) Full = wanted-claimed false taken
    row-begins taken (Some grant) Small =
        each-run a.n Plain (claiming a with_wanted) (small_claimed a rest) small-claims (wanted_claims a true taken.row.part) (each-wanted true taken.row.part) taken
    row-begins taken (Some grant) Reconstruct =
        each-run a.n Plain (taking_until with_other) (others_shared a rest) others-share (other_shares a taken.row.part) (each-others taken.row.part) taken

    parity-claims : (walk : Walk Taken) → EachClaims a.n Plain (parity_claimed a rest walk)
    parity-claims (Stopped taken e r) = write-stops taken e r
    parity-claims (Through taken) = row-begins taken taken.row.parity (plan_of a taken.row.part)

  confirms : (rows left : List Row) (done : Rows) → EachClaims a.n Plain (confirm_rows a rows left done)
  confirms rows [] done = write-numbers a.mode done.rows
  confirms rows (row ∷ left) done =
      each-run a.n Plain (confirming a row) (row_confirmed a rows row (confirm_rows a rows left))
      (row-confirms rows row (confirm_rows a rows left) (confirms rows left)) (row_confirm a row ∷ []) (tt, tt) done

  rows-claimed : (left : List RowPart) (done : Rows) → EachClaims a.n Plain (claim_rows a left done)
  rows-claimed [] done = confirms done.rows done.rows (record done { rows = [] })
  rows-claimed (part ∷ left) done =
      each-run a.n Plain (claiming a with_parity) (parity_claimed a (claim_rows a left)) (parity-claims (claim_rows a left) (rows-claimed left))
      (parity_claim a part ∷ []) ((refl, inr (refl, refl)), tt) (begun part done)

  writes-claim : EachClaims a.n Plain (write_steps a)
  writes-claim = rows-claimed a.parts no_rows

-- Rebuilds
module _ (m : Repair) where
  mend-released : (holds : List Hold) (ended : Ended) → EachClaims m.n Mend (released_steps (mend_releases m holds) ended)
  mend-released holds ended = each-released m.n Mend (mend_releases m holds) ended (each-releases m.n Mend m.id m.row None _)

  mend-puts : (holds : List Hold) (walk : Walk (Unit {0})) → EachClaims m.n Mend (mend_put m holds walk)
  mend-puts holds (Through u) = mend-released (without_target m holds) ends.Mended
  mend-puts holds (Stopped u e r) = mend-released holds (ends.Refused (put_cause m.row e r))

  mends-numbered : (holds : List Hold) (n : Number) (shown : Bool) → EachClaims m.n Mend (mend_numbered m holds n shown)
  mends-numbered holds n true = mend-released holds ends.Mended
  mends-numbered holds n false = each-run m.n Mend mend_putting (mend_put m holds) (mend-puts holds) (put m.id m.row n (mended_cell m holds) m.target ∷ []) (tt, tt) tt

  mends-drawn : (holds : List Hold) (d : Result Number Spent) → EachClaims m.n Mend (mend_drawn m holds d)
  mends-drawn holds (Err spent) = mend-released holds (ends.Refused (causes.Spent spent.seen))
  mends-drawn holds (Ok n) = mends-numbered holds n (is_shown m.target holds)

  mends-confirmed : (holds : List Hold) (walk : Walk (Unit {0})) → EachClaims m.n Mend (mend_confirmed m holds walk)
  mends-confirmed holds (Stopped u e r) = mend-released holds (ends.Refused (mend_why e r (causes.Changed m.row)))
  mends-confirmed holds (Through u) = mends-drawn holds

  mends-claimed : (walk : Walk (List Hold)) → EachClaims m.n Mend (mend_claimed m walk)
  mends-claimed (Stopped holds e r) = mend-released (with_hold holds e.bay (grant_of r)) (ends.Refused (mend_why e r (causes.Gone e.bay)))
  mends-claimed (Through holds) =
      each-run m.n Mend mend_confirming (mend_confirmed m holds) (mends-confirmed holds) (confirm m.id m.row false (parity_bay m.n m.row) ∷ []) (tt, tt) tt

  mends-claim : EachClaims m.n Mend (mend_steps m)
  mends-claim =
      each-run m.n Mend (mending m) (mend_claimed m) mends-claimed (claims m.id m.row Mend true (parity_first m.n m.row))
      (each-claims m.n Mend m.id m.row true (parity_first m.n m.row)) []

-- Recoveries
module _ (r : Rescue) where
  gives-back : (bays : List BayNo) (ended : Ended) → EachClaims r.n Seize (released_steps (give_back r bays) ended)
  gives-back bays ended = each-released r.n Seize (give_back r bays) ended (each-releases r.n Seize r.id r.row None bays)

  recover-refuses : (row : Row) (cause : Cause) → EachClaims r.n Seize (recover_refused r row cause)
  recover-refuses row cause = gives-back (unseized_data r row ++ unseized_parity r row.parity) (ends.Refused cause)

  recover-puts : (n : Number) (row : Row) (lost : Option ℕ) (walk : Walk (Unit {0})) → EachClaims r.n Seize (recover_put r row n lost walk)
  recover-puts n row lost (Stopped u e reply) = gives-back (unseized_data r row) (ends.Refused (put_cause r.row e reply))
  recover-puts n row lost (Through u) =
      each-run r.n Seize (closing n lost) (end_as (ends.Recovered n true lost)) (λ walk. tt) (give_back r (granted_data r row))
      (each-releases r.n Seize r.id r.row None (granted_data r row)) tt

  recovers-by : (n : Number) (row : Row) (v : Verdict) → EachClaims r.n Seize (recover_by r row n v)
  recovers-by n row Leaves = gives-back (granted_data r row ++ parity_granted r.n r.row row.parity) (ends.Recovered n true None)
  recovers-by n row (Sums lost) =
      each-run r.n Seize (recover_putting r lost) (recover_put r row n lost) (recover-puts n row lost)
      (put r.id r.row n (recovered_parity row lost) (parity_bay r.n r.row) ∷ []) (tt, tt) tt

  recovers-drawn : (row : Row) (d : Result Number Spent) → EachClaims r.n Seize (recover_drawn r row d)
  recovers-drawn row (Err spent) = recover-refuses row (causes.Spent spent.seen)
  recovers-drawn row (Ok n) = recovers-by n row (verdict r row)

  recovers-confirmed : (taken : Taken) (walk : Walk (Unit {0})) → EachClaims r.n Seize (recover_confirmed r taken walk)
  recovers-confirmed taken (Stopped u e reply) = recover-refuses taken.row _
  recovers-confirmed taken (Through u) = recovers-drawn taken.row

  seized : (walk : Walk Taken) → EachClaims r.n Seize (units_seized r walk)
  seized (Stopped taken e reply) = recover-refuses taken.row (why None taken e reply)
  seized (Through taken) =
      each-run r.n Seize (recover_confirming taken) (recover_confirmed r taken) (recovers-confirmed taken)
      (confirm r.id r.row false (parity_bay r.n r.row) ∷ []) (tt, tt) tt

  seizes : (taken : Taken) → EachClaims r.n Seize (seize_units r taken)
  seizes taken =
      each-run r.n Seize (taking None with_wanted) (units_seized r) seized (claims r.id r.row Seize true (bays_of r.n r.row (units r.n)))
      (each-claims r.n Seize r.id r.row true (bays_of r.n r.row (units r.n))) taken

  lacking : (taken : Taken) (operator : Bool) → EachClaims r.n Seize (if operator then seize_units r taken else recover_refused r taken.row (causes.Gone (parity_bay r.n r.row)))
  lacking taken true = seizes taken
  lacking taken false = recover-refuses taken.row (causes.Gone (parity_bay r.n r.row))

  takes-parity : (taken : Taken) (grant : Option Grant) → EachClaims r.n Seize (parity_taken r taken grant)
  takes-parity taken (Some grant) = seizes taken
  takes-parity taken None = lacking taken (r.host.0 == 0)

  parity-seizes : (walk : Walk Taken) → EachClaims r.n Seize (parity_seized r walk)
  parity-seizes (Stopped taken e reply) = recover-refuses taken.row (why None taken e reply)
  parity-seizes (Through taken) = takes-parity taken taken.row.parity

  recoveries-claim : EachClaims r.n Seize (recover_steps r)
  recoveries-claim =
      each-run r.n Seize (taking None with_parity) (parity_seized r) parity-seizes (claim r.id r.row Seize 0 true (parity_bay r.n r.row) ∷ []) ((refl, inl refl), tt)
      (begun (whole_part r) no_rows)

pub claims_are_of_their_kind : ClaimsAreOfTheirKind
claims_are_of_their_kind = (reads-claim, writes-claim, mends-claim, recoveries-claim)
