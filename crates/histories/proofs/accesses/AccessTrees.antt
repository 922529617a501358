-- What an attempt asks has its id. A read claims nothing, and no other attempt releases with a number.
use Rattle.std.proofs.Common.{◌≡◌, ◌==◌, ℕ, Bool, true, false, if◌then◌else◌, List, [], ◌∷◌, ◌++◌, map, flat_map, Option, Some, None, Result, Ok, Err, refl, subst}
use Rattle.std.specs.List.{AllByRecursion}
use Rattle.raid_base.specs.declared.numbers.BayNo.{BayNo}
use Rattle.raid_base.specs.declared.numbers.HostNo.{HostNo}
use Rattle.raid_base.specs.declared.numbers.RowNo.{RowNo}
use Rattle.raid_base.specs.declared.numbers.Number.{Number}
use Rattle.raid_base.specs.declared.numbers.Spent.{Spent}
use Rattle.raid_base.specs.declared.messages.Mode.{Mode}
use Rattle.raid_base.specs.declared.messages.Mode.TheVariants.{Lock, Order}
use Rattle.raid_base.specs.declared.messages.How.{How}
use Rattle.raid_base.specs.declared.messages.How.TheVariants.{Mend, Seize}
use Rattle.raid_base.specs.declared.messages.Request.{Request}
use Rattle.raid_base.specs.declared.messages.Request.TheVariants.{Share, Claim, Confirm, Put, Release, Lose, Fit}
use Rattle.raid_base.specs.declared.messages.Reply.{Reply}
use Rattle.raid_base.specs.declared.messages.Errand.{Errand}
use Rattle.raid_base.specs.declared.messages.Grant.{Grant}
use Rattle.raid_base.specs.declared.jobs.Cause.{Cause}
use Rattle.raid_base.specs.declared.jobs.Cause.TheVariants as causes
use Rattle.raid_base.specs.declared.jobs.Ended.{Ended}
use Rattle.raid_base.specs.declared.jobs.Ended.TheVariants as ends
use Rattle.raid_base.specs.declared.jobs.Plan.{Plan}
use Rattle.raid_base.specs.declared.jobs.Plan.TheVariants.{Full, Small, Reconstruct}
use Rattle.raid_base.specs.declared.jobs.RowPart.{RowPart}
use Rattle.raid_base.specs.declared.jobs.PartsFault.{PartsFault}
use Rattle.raid_base.specs.declared.jobs.Task.{Task}
use Rattle.raid_base.specs.declared.jobs.Task.TheVariants as tasks
use Rattle.raid_base.specs.Replies.{grant_of}
use Rattle.raid_base.specs.Numbers.{draw, seen_drawn}
use Rattle.raid_base.specs.Steps.{Steps, Asks, Draws, Ends, bind, go_on, Walk, Through, Stopped, Phase, run, settled, behind, next_errand}
use Rattle.stripe_layout.specs.Placement.{parity_bay, bays_of, units, units_in, units_out, parity_first}
use Rattle.attempts.specs.declared.Repair.{Repair}
use Rattle.attempts.specs.declared.Rescue.{Rescue}
use Rattle.attempts.specs.declared.Hold.{Hold}
use Rattle.attempts.specs.Taking.{Access, Finish, Row, Rows, no_rows, Taken, begun, row_ended, with_parity, with_wanted, with_other, with_grant, lacks, behind_from, refusal, taking, taking_until, why, share, shares, claim, claims, confirm}
use Rattle.attempts.specs.Releases.{release, releases, releasing, end_as, released_steps, refused_steps, read_holds, write_holds, read_releases, write_releases, others_granted, parity_granted}
use Rattle.attempts.specs.Reading.{sharing, read_refused, row_readers, numbered_releases, freeing, read_freed, read_drawn, read_numbered, row_shared, parity_shared, share_rest, wanted_shared, read_rows, read_steps}
use Rattle.attempts.specs.Puts.{plan_of, Puts, no_puts, at_row, put, data_put, data_puts, putting_data, parity_put, putting_parity, with_trouble, trouble_of}
use Rattle.attempts.specs.Writing.{write_stopped, finishing, reader_releases, write_end, write_last, parity_done, put_parity, data_done, put_rows, write_drawn, write_numbered, row_confirm, confirming, confirm_cause, row_confirmed, confirm_rows, claiming, row_claimed, wanted_claims, other_shares, claim_wanted, share_others, small_claimed, share_stopped, others_shared, claim_row, parity_claimed, parity_claim, claim_rows, write_steps}
use Rattle.attempts.specs.Mending.{mending, with_hold, mend_why, mend_releases, without_target, mended_cell, put_cause, mend_putting, mend_put, mend_numbered, mend_drawn, is_shown, mend_confirmed, mend_confirming, mend_claimed, mend_steps}
use Rattle.attempts.specs.Recovery.{whole_part, unseized_data, granted_data, unseized_parity, give_back, recover_refused, Verdict, Leaves, Sums, verdict, recovered_parity, recover_putting, closing, recover_put, recover_by, recover_drawn, recover_confirmed, recover_confirming, units_seized, seize_units, parity_taken, parity_seized, recover_steps}
use Rattle.script_text.specs.Script.{Script, parts_of, blocks_of}
use Rattle.histories.specs.Progress.{access, attempt, read_of, write_of}

-- the request of an attempt with this id, which reads or not
abbrev pub IsAsked : Bool → Number → Request → Type 0
IsAsked reading id (Share row by want) = by ≡ id
IsAsked reading id (Claim row by how mask want) = (by ≡ id) × (reading ≡ false)
IsAsked reading id (Confirm row by want) = by ≡ id
IsAsked reading id (Put row by n cell) = by ≡ id
IsAsked reading id (Release row by n) = (by ≡ id) × (reading ≡ false → n ≡ None)
IsAsked reading id Lose = ⊥
IsAsked reading id Fit = ⊥

-- Whatever the replies and the numbers drawn: each request is such.
abbrev pub EachAsked : Bool → Number → Steps Finish → Type 0
EachAsked reading id (Ends f) = Unit {0}
EachAsked reading id (Draws k) = (d : Result Number Spent) → EachAsked reading id (k d)
EachAsked reading id (Asks e s c k) = IsAsked reading id e.request × ((r : Reply) → EachAsked reading id (k r))

pub settled-asked : (reading : Bool) (id : Number) (host : HostNo) (seen : Number) (s : Steps Finish) → EachAsked reading id s → EachAsked reading id (settled host seen s).steps
settled-asked reading id host seen (Asks e t c k) h = h
settled-asked reading id host seen (Draws k) h = settled-asked reading id host (seen_drawn seen (draw host seen)) (k (draw host seen)) (h (draw host seen))
settled-asked reading id host seen (Ends f) h = h

pub behind-asked : (reading : Bool) (id : Number) (s : Steps Finish) (r : Reply) → EachAsked reading id s → EachAsked reading id (behind s r)
behind-asked reading id (Asks e t c k) r h = h.1 r
behind-asked reading id (Draws k) r h = h
behind-asked reading id (Ends f) r h = h

pub next-asked : (reading : Bool) (id : Number) (s : Steps Finish) (e : Errand) → EachAsked reading id s → next_errand s ≡ Some e → IsAsked reading id e.request
next-asked reading id (Asks first t c k) e h is = let same : first ≡ e = cc in subst (λ (x : Errand). IsAsked reading id x.request) same h.0
next-asked reading id (Draws k) e h is = absurd (cc)
next-asked reading id (Ends f) e h is = absurd (cc)

-- Walks
module _ (reading : Bool) (id : Number) where
  abbrev AllAsked : List Errand → Type 0
  AllAsked es = AllByRecursion (λ (e : Errand). IsAsked reading id e.request) es

  asked-map : {X : Type 0} (make : X → Errand) → ((x : X) → IsAsked reading id (make x).request) → (xs : List X) → AllAsked (map make xs)
  asked-map make own [] = tt
  asked-map make own (x ∷ xs) = (own x, asked-map make own xs)

  asked-append : (es ds : List Errand) → AllAsked es → AllAsked ds → AllAsked (es ++ ds)
  asked-append [] ds own more = more
  asked-append (e ∷ es) ds own more = (own.0, asked-append es ds own.1 more)

  asked-flat : {X : Type 0} (make : X → List Errand) → ((x : X) → AllAsked (make x)) → (xs : List X) → AllAsked (flat_map make xs)
  asked-flat make own [] = tt
  asked-flat make own (x ∷ xs) = asked-append (make x) (flat_map make xs) (own x) (asked-flat make own xs)

  asked-shares : (row : RowNo) (bays : List BayNo) → AllAsked (shares id row bays)
  asked-shares row bays = asked-map (share id row) (λ bay. refl) bays

  asked-releases : (row : RowNo) (bays : List BayNo) → AllAsked (releases id row None bays)
  asked-releases row bays = asked-map (release id row None) (λ bay. (refl, λ h. refl)) bays

  module _ {A : Type 0} where
    asked-go : (o : Option A) (g : A → Steps (Walk A)) (s : Steps (Walk A)) (f : Walk A → Steps Finish) →
        ((a : A) → EachAsked reading id (bind (g a) f)) → EachAsked reading id (bind s f) → EachAsked reading id (bind (go_on o g s) f)
    asked-go (Some a) g s f on off = on a
    asked-go None g s f on off = off

    -- whatever the walk gives
    asked-run : (phase : Phase A) (f : Walk A → Steps Finish) → ((walk : Walk A) → EachAsked reading id (f walk)) →
        (es : List Errand) → AllAsked es → (a : A) → EachAsked reading id (bind (run phase es a) f)
    asked-run phase f on [] own a = on (Through a)
    asked-run phase f on (e ∷ es) own a =
        (own.0, λ r. asked-go (phase.step a e r) (λ b. run phase es b) (Ends (Stopped a e r)) f (λ b. asked-run phase f on es own.1 b) (on (Stopped a e r)))

  asked-released : (es : List Errand) (ended : Ended) → AllAsked es → EachAsked reading id (released_steps es ended)
  asked-released es ended own = asked-run releasing (end_as ended) (λ walk. tt) es own tt

-- claims of an attempt that is no read
asked-claims : (id : Number) (row : RowNo) (how : How) (want : Bool) (bays : List BayNo) → AllAsked false id (claims id row how want bays)
asked-claims id row how want bays = asked-map false id (claim id row how 0 want) (λ bay. (refl, refl)) bays

-- Reads
module _ (a : Access) where
  asked-read-releases : (rows : List Row) → AllAsked true a.id (read_releases a rows)
  asked-read-releases rows =
      asked-flat true a.id (λ (row : Row). releases a.id row.part.row None (read_holds a.mode a.n row))
      (λ row. asked-releases true a.id row.part.row (read_holds a.mode a.n row)) rows

  asked-numbered : (n : Number) (rows : List Row) → AllAsked true a.id (numbered_releases a n rows)
  asked-numbered n rows =
      asked-flat true a.id (λ (row : Row). releases a.id row.part.row (Some n) (row_readers a.n row))
      (λ row. asked-map true a.id (release a.id row.part.row (Some n)) (λ bay. (refl, λ h. absurd (let bad : true ≡ false = h in cc))) (row_readers a.n row)) rows

  freed : (n : Number) (rows : List Row) (walk : Walk (Option RowNo)) → EachAsked true a.id (read_freed a n rows walk)
  freed n rows (Through None) = tt
  freed n rows (Through (Some row)) = tt
  freed n rows (Stopped row e r) = tt

  read-drawn : (rows : List Row) (d : Result Number Spent) → EachAsked true a.id (read_drawn a rows d)
  read-drawn rows (Err spent) = asked-released true a.id (read_releases a rows) (ends.Refused (causes.Spent spent.seen)) (asked-read-releases rows)
  read-drawn rows (Ok n) = asked-run true a.id freeing (read_freed a n rows) (freed n rows) (numbered_releases a n rows) (asked-numbered n rows) None

  read-numbered : (mode : Mode) (rows : List Row) → EachAsked true a.id (read_numbered mode a rows)
  read-numbered Order rows = tt
  read-numbered Lock rows = read-drawn rows

  read-stopped : (taken : Taken) (e : Errand) (r : Reply) → EachAsked true a.id (read_refused a taken e r)
  read-stopped taken e r =
      asked-released true a.id (read_releases a (taken.before ++ taken.row ∷ [])) (ends.Refused (why (behind_from a.mode a.id) taken e r))
      (asked-read-releases (taken.before ++ taken.row ∷ []))

  module _ (rest : Rows → Steps Finish) (on : (rows : Rows) → EachAsked true a.id (rest rows)) where
    row-shares : (walk : Walk Taken) → EachAsked true a.id (row_shared a rest walk)
    row-shares (Through taken) = on (row_ended taken)
    row-shares (Stopped taken e r) = read-stopped taken e r

    parity-shares : (walk : Walk Taken) → EachAsked true a.id (parity_shared a rest walk)
    parity-shares (Stopped taken e r) = read-stopped taken e r
    parity-shares (Through taken) =
        asked-run true a.id (sharing a with_other) (row_shared a rest) row-shares
        (shares a.id taken.row.part.row (bays_of a.n taken.row.part.row (units_out a.n taken.row.part.mask)))
        (asked-shares true a.id taken.row.part.row (bays_of a.n taken.row.part.row (units_out a.n taken.row.part.mask))) taken

    rest-shares : (taken : Taken) (lacking : Bool) → EachAsked true a.id (share_rest a rest taken lacking)
    rest-shares taken false = on (row_ended taken)
    rest-shares taken true =
        asked-run true a.id (sharing a with_parity) (parity_shared a rest) parity-shares
        (share a.id taken.row.part.row (parity_bay a.n taken.row.part.row) ∷ []) (refl, tt) taken

    wanted-shares : (walk : Walk Taken) → EachAsked true a.id (wanted_shared a rest walk)
    wanted-shares (Stopped taken e r) = read-stopped taken e r
    wanted-shares (Through taken) = rest-shares taken (lacks taken.row.wanted)

  rows-read : (left : List RowPart) (done : Rows) → EachAsked true a.id (read_rows a left done)
  rows-read [] done = read-numbered a.mode done.rows
  rows-read (part ∷ left) done =
      asked-run true a.id (sharing a with_wanted) (wanted_shared a (read_rows a left)) (wanted-shares (read_rows a left) (rows-read left))
      (shares a.id part.row (bays_of a.n part.row (units_in a.n part.mask)))
      (asked-shares true a.id part.row (bays_of a.n part.row (units_in a.n part.mask))) (begun part done)

  pub reads-asked : EachAsked true a.id (read_steps a)
  reads-asked = rows-read a.parts no_rows

-- Writes
module _ (a : Access) where
  asked-write-releases : (rows : List Row) → AllAsked false a.id (write_releases a rows)
  asked-write-releases rows =
      asked-flat false a.id (λ (row : Row). releases a.id row.part.row None (write_holds a.mode a.n row))
      (λ row. asked-releases false a.id row.part.row (write_holds a.mode a.n row)) rows

  asked-readers : (mode : Mode) (rows : List Row) → AllAsked false a.id (reader_releases mode a rows)
  asked-readers Order rows = tt
  asked-readers Lock rows =
      asked-flat false a.id (λ (row : Row). releases a.id row.part.row None (bays_of a.n row.part.row (others_granted a.n row)))
      (λ row. asked-releases false a.id row.part.row (bays_of a.n row.part.row (others_granted a.n row))) rows

  module _ (n : Number) where
    write-ends : (walk : Walk Puts) → EachAsked false a.id (write_end a n walk)
    write-ends (Through puts) = tt
    write-ends (Stopped puts e r) = tt

    lasts : (rows : List Row) (puts : Puts) → EachAsked false a.id (write_last a n rows puts)
    lasts rows puts = asked-run false a.id (finishing a n) (write_end a n) write-ends (reader_releases a.mode a rows) (asked-readers a.mode rows) puts

    module _ (rest : Puts → Steps Finish) (on : (puts : Puts) → EachAsked false a.id (rest puts)) (row : Row) where
      parity-ends : (walk : Walk Puts) → EachAsked false a.id (parity_done row rest walk)
      parity-ends (Through puts) = on puts
      parity-ends (Stopped puts e r) = on (with_trouble puts (trouble_of row e r))

      parity-puts : (puts : Puts) (grant : Option Grant) → EachAsked false a.id (put_parity a n row rest puts grant)
      parity-puts puts None = on puts
      parity-puts puts (Some grant) =
          asked-run false a.id (putting_parity a n row) (parity_done row rest) parity-ends (parity_put a n row ∷ []) (refl, tt) puts

      data-ends : (walk : Walk Puts) → EachAsked false a.id (data_done a n row rest walk)
      data-ends (Through puts) = parity-puts puts row.parity
      data-ends (Stopped puts e r) = on (with_trouble puts (trouble_of row e r))

    rows-put : (all rows : List Row) (puts : Puts) → EachAsked false a.id (put_rows a n (write_last a n all) rows puts)
    rows-put all [] puts = lasts all puts
    rows-put all (row ∷ rows) puts =
        asked-run false a.id (putting_data a n row) (data_done a n row (put_rows a n (write_last a n all) rows))
        (data-ends (put_rows a n (write_last a n all) rows) (rows-put all rows) row)
        (data_puts a n row) (asked-map false a.id (data_put a n row) (λ unit. refl) _) (at_row puts)

  write-refuses : (rows : List Row) (cause : Cause) → EachAsked false a.id (refused_steps (write_releases a rows) cause)
  write-refuses rows cause = asked-released false a.id (write_releases a rows) (ends.Refused cause) (asked-write-releases rows)

  write-drawn : (rows : List Row) (d : Result Number Spent) → EachAsked false a.id (write_drawn a rows d)
  write-drawn rows (Err spent) = write-refuses rows (causes.Spent spent.seen)
  write-drawn rows (Ok n) = rows-put n rows rows no_puts

  write-numbers : (mode : Mode) (rows : List Row) → EachAsked false a.id (write_numbered mode a rows)
  write-numbers Order rows = rows-put a.id rows rows no_puts
  write-numbers Lock rows = write-drawn rows

  row-confirms : (rows : List Row) (row : Row) (rest : Rows → Steps Finish) → ((done : Rows) → EachAsked false a.id (rest done)) → (walk : Walk Rows) →
      EachAsked false a.id (row_confirmed a rows row rest walk)
  row-confirms rows row rest on (Through done) = on done
  row-confirms rows row rest on (Stopped done e r) = write-refuses rows (confirm_cause a row done e r)

  write-stops : (taken : Taken) (e : Errand) (r : Reply) → EachAsked false a.id (write_stopped a taken e r)
  write-stops taken e r = write-refuses (taken.before ++ taken.row ∷ []) (why (behind_from a.mode a.id) taken e r)

  module _ (rest : Rows → Steps Finish) (on : (rows : Rows) → EachAsked false a.id (rest rows)) where
    row-claims : (walk : Walk Taken) → EachAsked false a.id (row_claimed a rest walk)
    row-claims (Through taken) = on (row_ended taken)
    row-claims (Stopped taken e r) = write-stops taken e r

    asked-wanted : (want : Bool) (part : RowPart) → AllAsked false a.id (wanted_claims a want part)
    asked-wanted want part = asked-claims a.id part.row _ want (bays_of a.n part.row (units_in a.n part.mask))

    asked-others : (part : RowPart) → AllAsked false a.id (other_shares a part)
    asked-others part = asked-shares false a.id part.row (bays_of a.n part.row (units_out a.n part.mask))

    wanted-claimed : (want : Bool) (taken : Taken) → EachAsked false a.id (claim_wanted a rest want taken)
    wanted-claimed want taken =
        asked-run false a.id (claiming a with_wanted) (row_claimed a rest) row-claims (wanted_claims a want taken.row.part) (asked-wanted want taken.row.part) taken

    others-claimed : (taken : Taken) (lacking : Bool) → EachAsked false a.id (share_others a rest taken lacking)
    others-claimed taken false = on (row_ended taken)
    others-claimed taken true =
        asked-run false a.id (claiming a with_other) (row_claimed a rest) row-claims (other_shares a taken.row.part) (asked-others taken.row.part) taken

    small-claims : (walk : Walk Taken) → EachAsked false a.id (small_claimed a rest walk)
    small-claims (Stopped taken e r) = write-stops taken e r
    small-claims (Through taken) = others-claimed taken (lacks taken.row.wanted)

    share-stops : (taken : Taken) (bay : BayNo) (cause : Option Cause) → EachAsked false a.id (share_stopped a rest taken bay cause)
    share-stops taken bay (Some cause) = write-refuses (taken.before ++ taken.row ∷ []) cause
    share-stops taken bay None = wanted-claimed true (with_grant with_other taken bay None)

    others-share : (walk : Walk Taken) → EachAsked false a.id (others_shared a rest walk)
    others-share (Through taken) = wanted-claimed false taken
    others-share (Stopped taken e r) = share-stops taken e.bay (refusal (behind_from a.mode a.id) taken.missing e.bay r)

    row-begins : (taken : Taken) (grant : Option Grant) (plan : Plan) → EachAsked false a.id (claim_row a rest taken grant plan)
    row-begins taken None plan = wanted-claimed false taken
    row-begins taken (Some grant) Full = wanted-claimed false taken
    row-begins taken (Some grant) Small =
        asked-run false a.id (claiming a with_wanted) (small_claimed a rest) small-claims (wanted_claims a true taken.row.part) (asked-wanted true taken.row.part) taken
    row-begins taken (Some grant) Reconstruct =
        asked-run false a.id (taking_until with_other) (others_shared a rest) others-share (other_shares a taken.row.part) (asked-others taken.row.part) taken

    parity-claims : (walk : Walk Taken) → EachAsked false a.id (parity_claimed a rest walk)
    parity-claims (Stopped taken e r) = write-stops taken e r
    parity-claims (Through taken) = row-begins taken taken.row.parity (plan_of a taken.row.part)

  confirms : (rows left : List Row) (done : Rows) → EachAsked false a.id (confirm_rows a rows left done)
  confirms rows [] done = write-numbers a.mode done.rows
  confirms rows (row ∷ left) done =
      asked-run false a.id (confirming a row) (row_confirmed a rows row (confirm_rows a rows left))
      (row-confirms rows row (confirm_rows a rows left) (confirms rows left)) (row_confirm a row ∷ []) (refl, tt) done

  rows-claimed : (left : List RowPart) (done : Rows) → EachAsked false a.id (claim_rows a left done)
  rows-claimed [] done = confirms done.rows done.rows (record done { rows = [] })
  rows-claimed (part ∷ left) done =
      asked-run false a.id (claiming a with_parity) (parity_claimed a (claim_rows a left)) (parity-claims (claim_rows a left) (rows-claimed left))
      (parity_claim a part ∷ []) ((refl, refl), tt) (begun part done)

  pub writes-asked : EachAsked false a.id (write_steps a)
  writes-asked = rows-claimed a.parts no_rows

-- Rebuilds
module _ (m : Repair) where
  mend-released : (holds : List Hold) (ended : Ended) → EachAsked false m.id (released_steps (mend_releases m holds) ended)
  mend-released holds ended = asked-released false m.id (mend_releases m holds) ended (asked-releases false m.id m.row _)

  mend-puts : (holds : List Hold) (walk : Walk (Unit {0})) → EachAsked false m.id (mend_put m holds walk)
  mend-puts holds (Through u) = mend-released (without_target m holds) ends.Mended
  mend-puts holds (Stopped u e r) = mend-released holds (ends.Refused (put_cause m.row e r))

  mends-numbered : (holds : List Hold) (n : Number) (shown : Bool) → EachAsked false m.id (mend_numbered m holds n shown)
  mends-numbered holds n true = mend-released holds ends.Mended
  mends-numbered holds n false = asked-run false m.id mend_putting (mend_put m holds) (mend-puts holds) (put m.id m.row n (mended_cell m holds) m.target ∷ []) (refl, tt) tt

  mends-drawn : (holds : List Hold) (d : Result Number Spent) → EachAsked false m.id (mend_drawn m holds d)
  mends-drawn holds (Err spent) = mend-released holds (ends.Refused (causes.Spent spent.seen))
  mends-drawn holds (Ok n) = mends-numbered holds n (is_shown m.target holds)

  mends-confirmed : (holds : List Hold) (walk : Walk (Unit {0})) → EachAsked false m.id (mend_confirmed m holds walk)
  mends-confirmed holds (Stopped u e r) = mend-released holds (ends.Refused (mend_why e r (causes.Changed m.row)))
  mends-confirmed holds (Through u) = mends-drawn holds

  mends-claimed : (walk : Walk (List Hold)) → EachAsked false m.id (mend_claimed m walk)
  mends-claimed (Stopped holds e r) = mend-released (with_hold holds e.bay (grant_of r)) (ends.Refused (mend_why e r (causes.Gone e.bay)))
  mends-claimed (Through holds) =
      asked-run false m.id mend_confirming (mend_confirmed m holds) (mends-confirmed holds) (confirm m.id m.row false (parity_bay m.n m.row) ∷ []) (refl, tt) tt

  pub mends-asked : EachAsked false m.id (mend_steps m)
  mends-asked =
      asked-run false m.id (mending m) (mend_claimed m) mends-claimed (claims m.id m.row Mend true (parity_first m.n m.row))
      (asked-claims m.id m.row Mend true (parity_first m.n m.row)) []

-- Recoveries
module _ (r : Rescue) where
  gives-back : (bays : List BayNo) (ended : Ended) → EachAsked false r.id (released_steps (give_back r bays) ended)
  gives-back bays ended = asked-released false r.id (give_back r bays) ended (asked-releases false r.id r.row bays)

  recover-refuses : (row : Row) (cause : Cause) → EachAsked false r.id (recover_refused r row cause)
  recover-refuses row cause = gives-back (unseized_data r row ++ unseized_parity r row.parity) (ends.Refused cause)

  recover-puts : (n : Number) (row : Row) (lost : Option ℕ) (walk : Walk (Unit {0})) → EachAsked false r.id (recover_put r row n lost walk)
  recover-puts n row lost (Stopped u e reply) = gives-back (unseized_data r row) (ends.Refused (put_cause r.row e reply))
  recover-puts n row lost (Through u) =
      asked-run false r.id (closing n lost) (end_as (ends.Recovered n true lost)) (λ walk. tt) (give_back r (granted_data r row))
      (asked-releases false r.id r.row (granted_data r row)) tt

  recovers-by : (n : Number) (row : Row) (v : Verdict) → EachAsked false r.id (recover_by r row n v)
  recovers-by n row Leaves = gives-back (granted_data r row ++ parity_granted r.n r.row row.parity) (ends.Recovered n true None)
  recovers-by n row (Sums lost) =
      asked-run false r.id (recover_putting r lost) (recover_put r row n lost) (recover-puts n row lost)
      (put r.id r.row n (recovered_parity row lost) (parity_bay r.n r.row) ∷ []) (refl, tt) tt

  recovers-drawn : (row : Row) (d : Result Number Spent) → EachAsked false r.id (recover_drawn r row d)
  recovers-drawn row (Err spent) = recover-refuses row (causes.Spent spent.seen)
  recovers-drawn row (Ok n) = recovers-by n row (verdict r row)

  recovers-confirmed : (taken : Taken) (walk : Walk (Unit {0})) → EachAsked false r.id (recover_confirmed r taken walk)
  recovers-confirmed taken (Stopped u e reply) = recover-refuses taken.row _
  recovers-confirmed taken (Through u) = recovers-drawn taken.row

  seized : (walk : Walk Taken) → EachAsked false r.id (units_seized r walk)
  seized (Stopped taken e reply) = recover-refuses taken.row (why None taken e reply)
  seized (Through taken) =
      asked-run false r.id (recover_confirming taken) (recover_confirmed r taken) (recovers-confirmed taken)
      (confirm r.id r.row false (parity_bay r.n r.row) ∷ []) (refl, tt) tt

  seizes : (taken : Taken) → EachAsked false r.id (seize_units r taken)
  seizes taken =
      asked-run false r.id (taking None with_wanted) (units_seized r) seized (claims r.id r.row Seize true (bays_of r.n r.row (units r.n)))
      (asked-claims r.id r.row Seize true (bays_of r.n r.row (units r.n))) taken

  lacking : (taken : Taken) (operator : Bool) → EachAsked false r.id (if operator then seize_units r taken else recover_refused r taken.row (causes.Gone (parity_bay r.n r.row)))
  lacking taken true = seizes taken
  lacking taken false = recover-refuses taken.row (causes.Gone (parity_bay r.n r.row))

  takes-parity : (taken : Taken) (grant : Option Grant) → EachAsked false r.id (parity_taken r taken grant)
  takes-parity taken (Some grant) = seizes taken
  takes-parity taken None = lacking taken (r.host.0 == 0)

  parity-seizes : (walk : Walk Taken) → EachAsked false r.id (parity_seized r walk)
  parity-seizes (Stopped taken e reply) = recover-refuses taken.row (why None taken e reply)
  parity-seizes (Through taken) = takes-parity taken taken.row.parity

  pub recoveries-asked : EachAsked false r.id (recover_steps r)
  recoveries-asked =
      asked-run false r.id (taking None with_parity) (parity_seized r) parity-seizes (claim r.id r.row Seize 0 true (parity_bay r.n r.row) ∷ []) ((refl, refl), tt)
      (begun (whole_part r) no_rows)

-- whether the attempt of a task reads
abbrev pub is_reading : Task → Bool
is_reading (tasks.Read object first count) = true
is_reading _ = false

module _ (script : Script) (host : HostNo) (id : Number) where
  read-asked : (r : Result (List RowPart) PartsFault) → EachAsked true id (read_of script id r)
  read-asked (Ok parts) = reads-asked (access script id parts [])
  read-asked (Err fault) = tt

  write-asked : (blocks : List (List ℕ)) (r : Result (List RowPart) PartsFault) → EachAsked false id (write_of script id blocks r)
  write-asked blocks (Ok parts) = writes-asked (access script id parts blocks)
  write-asked blocks (Err fault) = tt

  -- an attempt of a task
  pub attempt-asked : (row : ℕ) (task : Task) → EachAsked (is_reading task) id (attempt script host id row task)
  attempt-asked row (tasks.Read object first count) = read-asked (parts_of script object first count)
  attempt-asked row (tasks.Write object first from count) = write-asked (blocks_of script from count) (parts_of script object first count)
  attempt-asked row (tasks.Recover at) = recoveries-asked (record { n = script.n; host = host; id = id; row = at })
  attempt-asked row (tasks.Rebuild bay) = mends-asked (record { n = script.n; id = id; row = record { 0 = row }; target = bay })
  attempt-asked row (tasks.Lose bay) = tt
  attempt-asked row (tasks.Fit bay) = tt
