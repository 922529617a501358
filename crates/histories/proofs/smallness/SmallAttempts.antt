-- The numbers that attempts carry: their id, and one that they drew.
use Rattle.std.proofs.Common.{◌≡◌, ◌==◌, ℕ, Bool, true, false, if◌then◌else◌, List, [], ◌∷◌, ◌++◌, map, flat_map, Option, Some, None, unwrap_or, Ok, refl}
use Rattle.std.specs.List.{AllByRecursion}
use Rattle.raid_base.specs.declared.numbers.BayNo.{BayNo}
use Rattle.raid_base.specs.declared.numbers.RowNo.{RowNo}
use Rattle.raid_base.specs.declared.numbers.Number.{Number}
use Rattle.raid_base.specs.declared.messages.Mode.{Mode}
use Rattle.raid_base.specs.declared.messages.Mode.TheVariants.{Lock, Order}
use Rattle.raid_base.specs.declared.messages.How.{How}
use Rattle.raid_base.specs.declared.messages.How.TheVariants.{Mend, Seize}
use Rattle.raid_base.specs.declared.messages.Request.{Request}
use Rattle.raid_base.specs.declared.messages.Request.TheVariants.{Share, Claim, Confirm, Put, Release, Lose, Fit}
use Rattle.raid_base.specs.declared.messages.Reply.{Reply}
use Rattle.raid_base.specs.declared.messages.Reply.TheVariants.{Granted, Busy, Late, Young, Missing, Held, NoNote, Done, Fault, Emptied, Fitted}
use Rattle.raid_base.specs.declared.messages.Errand.{Errand}
use Rattle.raid_base.specs.declared.messages.Grant.{Grant}
use Rattle.raid_base.specs.declared.jobs.Cause.{Cause}
use Rattle.raid_base.specs.declared.jobs.Cause.TheVariants as causes
use Rattle.raid_base.specs.declared.jobs.Ended.{Ended}
use Rattle.raid_base.specs.declared.jobs.Ended.TheVariants as ends
use Rattle.raid_base.specs.declared.jobs.Plan.{Plan}
use Rattle.raid_base.specs.declared.jobs.Plan.TheVariants.{Full, Small, Reconstruct}
use Rattle.raid_base.specs.declared.jobs.RowPart.{RowPart}
use Rattle.raid_base.specs.Replies.{grant_of, is_fault}
use Rattle.raid_base.specs.Steps.{Steps, Asks, Draws, Ends, bind, go_on, Walk, Through, Stopped, Phase, run}
use Rattle.stripe_layout.specs.Placement.{parity_bay, bays_of, units, units_in, units_out, parity_first}
use Rattle.attempts.specs.declared.Repair.{Repair}
use Rattle.attempts.specs.declared.Rescue.{Rescue}
use Rattle.attempts.specs.declared.Hold.{Hold}
use Rattle.attempts.specs.Taking.{Access, Finish, Row, Rows, no_rows, Taken, begun, row_ended, with_parity, with_wanted, with_other, with_grant, lacks, behind_from, is_behind, broken, refusal, taking, taking_until, why, share, shares, claim, claims, confirm}
use Rattle.attempts.specs.Releases.{release, releases, releasing, end_as, released_steps, refused_steps, read_holds, write_holds, read_releases, write_releases, others_granted, parity_granted}
use Rattle.attempts.specs.Reading.{sharing, read_refused, row_readers, numbered_releases, freeing, read_freed, read_numbered, row_shared, parity_shared, share_rest, wanted_shared, read_rows, read_steps}
use Rattle.attempts.specs.Puts.{plan_of, flags, part_by_quit, Trouble, Faulted, Robbed, Puts, no_puts, at_row, put, data_put, data_puts, putting_data, parity_put, putting_parity, with_trouble, trouble_of, is_row_made, trouble_cause, or_else, first_cause, written_or}
use Rattle.attempts.specs.Writing.{write_stopped, finishing, reader_releases, write_end, write_last, parity_done, put_parity, data_done, put_rows, write_numbered, row_confirm, confirming, confirm_cause, row_confirmed, confirm_rows, claiming, row_claimed, wanted_claims, other_shares, claim_wanted, share_others, small_claimed, share_stopped, others_shared, claim_row, parity_claimed, parity_claim, claim_rows, write_steps}
use Rattle.attempts.specs.Mending.{mending, with_hold, mend_why, mend_releases, without_target, mended_cell, put_cause, mend_putting, mend_put, mend_numbered, is_shown, mend_confirmed, mend_confirming, mend_claimed, mend_steps}
use Rattle.attempts.specs.Recovery.{whole_part, unseized_data, granted_data, unseized_parity, give_back, recover_refused, Verdict, Leaves, Sums, verdict, recovered_parity, recover_putting, closing, recover_put, recover_by, recover_confirmed, recover_confirming, units_seized, seize_units, parity_taken, parity_seized, recover_steps}
use Rattle.attempts.specs.Phases.{number_of}
use Rattle.histories.specs.Progress.{is_spent}

-- an attempt ended, or was stopped, for want of numbers
abbrev pub ends_spent : Ended → Bool
ends_spent (ends.Read n) = false
ends_spent (ends.Wrote n) = false
ends_spent (ends.Part n made cause) = is_spent cause
ends_spent (ends.Recovered n closed lost) = false
ends_spent ends.Mended = false
ends_spent (ends.Refused cause) = is_spent cause

abbrev spent_in : Option Cause → Bool
spent_in None = false
spent_in (Some cause) = is_spent cause

-- a request carries this id, and no other number than this one
abbrev pub IsCarried : Option Number → Option Number → Type 0
IsCarried number None = Unit {0}
IsCarried number (Some n) = number ≡ Some n

abbrev pub IsOwn : Number → Option Number → Request → Type 0
IsOwn id number (Share row by want) = by ≡ id
IsOwn id number (Claim row by how mask want) = by ≡ id
IsOwn id number (Confirm row by want) = by ≡ id
IsOwn id number (Put row by n cell) = (by ≡ id) × (number ≡ Some n)
IsOwn id number (Release row by n) = (by ≡ id) × IsCarried number n
IsOwn id number Lose = Unit {0}
IsOwn id number Fit = Unit {0}

-- Whatever the replies and the number drawn: each request carries the id and that number, at most one is drawn, and the
-- end is not for want of numbers.
abbrev pub Carries : Number → Option Number → Steps Finish → Type 0
Carries id number (Ends f) = ends_spent f.ended ≡ false
Carries id number (Draws k) = (number ≡ None) × ((n : Number) → Carries id (Some n) (k (Ok n)))
Carries id number (Asks e s c k) = IsOwn id number e.request × (ends_spent s ≡ false) × ((r : Reply) → Carries id number (k r))

-- Causes
missing-refused : (least : Option Number) (missing : Option BayNo) (bay : BayNo) (floor : Number) (behind : Bool) →
    spent_in (if behind then Some (causes.Behind floor) else broken missing bay) ≡ false
missing-refused least missing bay floor true = refl
missing-refused least None bay floor false = refl
missing-refused least (Some first) bay floor false = by (first.0 == bay.0)
  where
    by : (same : Bool) → spent_in (if same then None else Some (causes.Broken first bay)) ≡ false
    by true = refl
    by false = refl

refusal-unspent : (least : Option Number) (missing : Option BayNo) (bay : BayNo) (r : Reply) → spent_in (refusal least missing bay r) ≡ false
refusal-unspent least missing bay (Busy holder) = refl
refusal-unspent least missing bay (Late above) = refl
refusal-unspent least missing bay (Young note) = refl
refusal-unspent least missing bay Fault = refl
refusal-unspent least missing bay (Missing floor) = missing-refused least missing bay floor (is_behind least floor)
refusal-unspent least missing bay (Granted cell read_no write_no last life seized) = refl
refusal-unspent least missing bay (Held cell) = refl
refusal-unspent least missing bay (NoNote life) = refl
refusal-unspent least missing bay Done = refl
refusal-unspent least missing bay Emptied = refl
refusal-unspent least missing bay Fitted = refl

or-unspent : (o : Option Cause) (other : Cause) → spent_in o ≡ false → is_spent other ≡ false → is_spent (unwrap_or o other) ≡ false
or-unspent None other none is = is
or-unspent (Some cause) other none is = none

refused-or : (least : Option Number) (missing : Option BayNo) (bay : BayNo) (r : Reply) (other : Cause) → is_spent other ≡ false →
    is_spent (unwrap_or (refusal least missing bay r) other) ≡ false
refused-or least missing bay r other is = or-unspent (refusal least missing bay r) other (refusal-unspent least missing bay r) is

why-unspent : (least : Option Number) (taken : Taken) (e : Errand) (r : Reply) → is_spent (why least taken e r) ≡ false
why-unspent least taken e r = refused-or least taken.missing e.bay r causes.Quit refl

put-cause-unspent : (row : RowNo) (e : Errand) (r : Reply) → is_spent (put_cause row e r) ≡ false
put-cause-unspent row e r = by (is_fault r)
  where
    by : (fault : Bool) → is_spent (if fault then causes.Fault e.bay else causes.Seized row) ≡ false
    by true = refl
    by false = refl

-- where a write stops
parted : (n : Number) (puts : Puts) → ends_spent (part_by_quit n puts) ≡ false
parted n puts = by puts.answered
  where
    by : (b : Bool) → ends_spent (if b then ends.Part n (flags puts.made) causes.Quit else ends.Refused causes.Quit) ≡ false
    by true = refl
    by false = refl

or-else-unspent : (first later : Option Cause) → spent_in first ≡ false → spent_in later ≡ false → spent_in (or_else first later) ≡ false
or-else-unspent None later f l = l
or-else-unspent (Some cause) later f l = f

trouble-unspent : (a : Access) (made : List ℕ) (trouble : Trouble) → spent_in (trouble_cause a made trouble) ≡ false
trouble-unspent a made (Faulted bay) = refl
trouble-unspent a made (Robbed part) = by (is_row_made a made part)
  where
    by : (whole : Bool) → spent_in (if whole then None else Some (causes.Seized part.row)) ≡ false
    by true = refl
    by false = refl

troubles-unspent : (a : Access) (made : List ℕ) (troubles : List Trouble) → spent_in (first_cause a made troubles) ≡ false
troubles-unspent a made [] = refl
troubles-unspent a made (trouble ∷ troubles) =
    or-else-unspent (trouble_cause a made trouble) (first_cause a made troubles) (trouble-unspent a made trouble) (troubles-unspent a made troubles)

written-unspent : (n : Number) (made : List ℕ) (cause : Option Cause) → spent_in cause ≡ false → ends_spent (written_or n made cause) ≡ false
written-unspent n made None is = refl
written-unspent n made (Some cause) is = is

-- Walks
module _ (id : Number) (number : Option Number) where
  abbrev pub AllOwn : List Errand → Type 0
  AllOwn es = AllByRecursion (λ (e : Errand). IsOwn id number e.request) es

  own-map : {X : Type 0} (make : X → Errand) → ((x : X) → IsOwn id number (make x).request) → (xs : List X) → AllOwn (map make xs)
  own-map make own [] = tt
  own-map make own (x ∷ xs) = (own x, own-map make own xs)

  own-append : (es ds : List Errand) → AllOwn es → AllOwn ds → AllOwn (es ++ ds)
  own-append [] ds own more = more
  own-append (e ∷ es) ds own more = (own.0, own-append es ds own.1 more)

  own-flat : {X : Type 0} (make : X → List Errand) → ((x : X) → AllOwn (make x)) → (xs : List X) → AllOwn (flat_map make xs)
  own-flat make own [] = tt
  own-flat make own (x ∷ xs) = own-append (make x) (flat_map make xs) (own x) (own-flat make own xs)

  own-shares : (row : RowNo) (bays : List BayNo) → AllOwn (shares id row bays)
  own-shares row bays = own-map (share id row) (λ bay. refl) bays

  own-claims : (row : RowNo) (how : How) (want : Bool) (bays : List BayNo) → AllOwn (claims id row how want bays)
  own-claims row how want bays = own-map (claim id row how 0 want) (λ bay. refl) bays

  own-releases : (row : RowNo) (bays : List BayNo) → AllOwn (releases id row None bays)
  own-releases row bays = own-map (release id row None) (λ bay. (refl, tt)) bays

  module _ {A : Type 0} where
    carries-go : (o : Option A) (g : A → Steps (Walk A)) (s : Steps (Walk A)) (f : Walk A → Steps Finish) →
        ((a : A) → Carries id number (bind (g a) f)) → Carries id number (bind s f) → Carries id number (bind (go_on o g s) f)
    carries-go (Some a) g s f on off = on a
    carries-go None g s f on off = off

    -- whatever the walk gives
    pub carries-run : (phase : Phase A) (f : Walk A → Steps Finish) → ((a : A) → ends_spent (phase.stop a) ≡ false) → ((walk : Walk A) → Carries id number (f walk)) →
        (es : List Errand) → AllOwn es → (a : A) → Carries id number (bind (run phase es a) f)
    carries-run phase f stops on [] own a = on (Through a)
    carries-run phase f stops on (e ∷ es) own a = (
      own.0,
      stops a,
      λ r. carries-go (phase.step a e r) (λ b. run phase es b) (Ends (Stopped a e r)) f (λ b. carries-run phase f stops on es own.1 b) (on (Stopped a e r)),
    )

  released : (es : List Errand) (ended : Ended) → AllOwn es → ends_spent ended ≡ false → Carries id number (released_steps es ended)
  released es ended own is = carries-run releasing (end_as ended) (λ u. refl) (λ walk. is) es own tt

  refused : (es : List Errand) (cause : Cause) → AllOwn es → is_spent cause ≡ false → Carries id number (refused_steps es cause)
  refused es cause own is = released es (ends.Refused cause) own is

module _ (a : Access) where
  own-read-releases : (number : Option Number) (rows : List Row) → AllOwn a.id number (read_releases a rows)
  own-read-releases number rows =
      own-flat a.id number (λ (row : Row). releases a.id row.part.row None (read_holds a.mode a.n row))
      (λ row. own-releases a.id number row.part.row (read_holds a.mode a.n row)) rows

  own-write-releases : (number : Option Number) (rows : List Row) → AllOwn a.id number (write_releases a rows)
  own-write-releases number rows =
      own-flat a.id number (λ (row : Row). releases a.id row.part.row None (write_holds a.mode a.n row))
      (λ row. own-releases a.id number row.part.row (write_holds a.mode a.n row)) rows

  own-numbered : (n : Number) (rows : List Row) → AllOwn a.id (Some n) (numbered_releases a n rows)
  own-numbered n rows =
      own-flat a.id (Some n) (λ (row : Row). releases a.id row.part.row (Some n) (row_readers a.n row))
      (λ row. own-map a.id (Some n) (release a.id row.part.row (Some n)) (λ bay. (refl, refl)) (row_readers a.n row)) rows

  own-readers : (number : Option Number) (mode : Mode) (rows : List Row) → AllOwn a.id number (reader_releases mode a rows)
  own-readers number Order rows = tt
  own-readers number Lock rows =
      own-flat a.id number (λ (row : Row). releases a.id row.part.row None (bays_of a.n row.part.row (others_granted a.n row)))
      (λ row. own-releases a.id number row.part.row (bays_of a.n row.part.row (others_granted a.n row))) rows

  -- Reads
  freed : (n : Number) (rows : List Row) (walk : Walk (Option RowNo)) → Carries a.id (Some n) (read_freed a n rows walk)
  freed n rows (Through None) = refl
  freed n rows (Through (Some row)) = refl
  freed n rows (Stopped row e r) = refl

  read-numbered : (mode : Mode) (rows : List Row) → Carries a.id (number_of mode a.id) (read_numbered mode a rows)
  read-numbered Order rows = refl
  read-numbered Lock rows =
      (refl, λ n. carries-run a.id (Some n) freeing (read_freed a n rows) (λ u. refl) (freed n rows) (numbered_releases a n rows) (own-numbered n rows) None)

  module _ (number : Option Number) where
    read-stopped : (taken : Taken) (e : Errand) (r : Reply) → Carries a.id number (read_refused a taken e r)
    read-stopped taken e r =
        refused a.id number (read_releases a (taken.before ++ taken.row ∷ [])) (why (behind_from a.mode a.id) taken e r)
        (own-read-releases number (taken.before ++ taken.row ∷ [])) (why-unspent (behind_from a.mode a.id) taken e r)

    module _ (rest : Rows → Steps Finish) (on : (rows : Rows) → Carries a.id number (rest rows)) where
      row-shares : (walk : Walk Taken) → Carries a.id number (row_shared a rest walk)
      row-shares (Through taken) = on (row_ended taken)
      row-shares (Stopped taken e r) = read-stopped taken e r

      parity-shares : (walk : Walk Taken) → Carries a.id number (parity_shared a rest walk)
      parity-shares (Stopped taken e r) = read-stopped taken e r
      parity-shares (Through taken) =
          carries-run a.id number (sharing a with_other) (row_shared a rest) (λ u. refl) row-shares
          (shares a.id taken.row.part.row (bays_of a.n taken.row.part.row (units_out a.n taken.row.part.mask)))
          (own-shares a.id number taken.row.part.row (bays_of a.n taken.row.part.row (units_out a.n taken.row.part.mask))) taken

      rest-shares : (taken : Taken) (lacking : Bool) → Carries a.id number (share_rest a rest taken lacking)
      rest-shares taken false = on (row_ended taken)
      rest-shares taken true =
          carries-run a.id number (sharing a with_parity) (parity_shared a rest) (λ u. refl) parity-shares
          (share a.id taken.row.part.row (parity_bay a.n taken.row.part.row) ∷ []) (refl, tt) taken

      wanted-shares : (walk : Walk Taken) → Carries a.id number (wanted_shared a rest walk)
      wanted-shares (Stopped taken e r) = read-stopped taken e r
      wanted-shares (Through taken) = rest-shares taken (lacks taken.row.wanted)

  rows-read : (left : List RowPart) (done : Rows) → Carries a.id (number_of a.mode a.id) (read_rows a left done)
  rows-read [] done = read-numbered a.mode done.rows
  rows-read (part ∷ left) done =
      carries-run a.id (number_of a.mode a.id) (sharing a with_wanted) (wanted_shared a (read_rows a left)) (λ u. refl)
      (wanted-shares (number_of a.mode a.id) (read_rows a left) (rows-read left))
      (shares a.id part.row (bays_of a.n part.row (units_in a.n part.mask)))
      (own-shares a.id (number_of a.mode a.id) part.row (bays_of a.n part.row (units_in a.n part.mask))) (begun part done)

  pub reads-carry : Carries a.id (number_of a.mode a.id) (read_steps a)
  reads-carry = rows-read a.parts no_rows

  -- Writes
  module _ (n : Number) where
    write-ends : (walk : Walk Puts) → Carries a.id (Some n) (write_end a n walk)
    write-ends (Through puts) = written-unspent n puts.made (first_cause a puts.made puts.troubles) (troubles-unspent a puts.made puts.troubles)
    write-ends (Stopped puts e r) = written-unspent n puts.made (first_cause a puts.made puts.troubles) (troubles-unspent a puts.made puts.troubles)

    lasts : (rows : List Row) (puts : Puts) → Carries a.id (Some n) (write_last a n rows puts)
    lasts rows puts =
        carries-run a.id (Some n) (finishing a n) (write_end a n) (parted n) write-ends (reader_releases a.mode a rows) (own-readers (Some n) a.mode rows) puts

    module _ (rest : Puts → Steps Finish) (on : (puts : Puts) → Carries a.id (Some n) (rest puts)) (row : Row) where
      parity-ends : (walk : Walk Puts) → Carries a.id (Some n) (parity_done row rest walk)
      parity-ends (Through puts) = on puts
      parity-ends (Stopped puts e r) = on (with_trouble puts (trouble_of row e r))

      parity-puts : (puts : Puts) (grant : Option Grant) → Carries a.id (Some n) (put_parity a n row rest puts grant)
      parity-puts puts None = on puts
      parity-puts puts (Some grant) =
          carries-run a.id (Some n) (putting_parity a n row) (parity_done row rest) (parted n) parity-ends (parity_put a n row ∷ []) ((refl, refl), tt) puts

      data-ends : (walk : Walk Puts) → Carries a.id (Some n) (data_done a n row rest walk)
      data-ends (Through puts) = parity-puts puts row.parity
      data-ends (Stopped puts e r) = on (with_trouble puts (trouble_of row e r))

    rows-put : (all rows : List Row) (puts : Puts) → Carries a.id (Some n) (put_rows a n (write_last a n all) rows puts)
    rows-put all [] puts = lasts all puts
    rows-put all (row ∷ rows) puts =
        carries-run a.id (Some n) (putting_data a n row) (data_done a n row (put_rows a n (write_last a n all) rows)) (parted n)
        (data-ends (put_rows a n (write_last a n all) rows) (rows-put all rows) row)
        (data_puts a n row) (own-map a.id (Some n) (data_put a n row) (λ unit. (refl, refl)) _) (at_row puts)

  write-numbered : (mode : Mode) (rows : List Row) → Carries a.id (number_of mode a.id) (write_numbered mode a rows)
  write-numbered Order rows = rows-put a.id rows rows no_puts
  write-numbered Lock rows = (refl, λ n. rows-put n rows rows no_puts)

  -- confirms and claims
  module _ (number : Option Number) where
    write-refuses : (rows : List Row) (cause : Cause) → is_spent cause ≡ false → Carries a.id number (refused_steps (write_releases a rows) cause)
    write-refuses rows cause is = refused a.id number (write_releases a rows) cause (own-write-releases number rows) is

    row-confirms : (rows : List Row) (row : Row) (rest : Rows → Steps Finish) → ((done : Rows) → Carries a.id number (rest done)) → (walk : Walk Rows) →
        Carries a.id number (row_confirmed a rows row rest walk)
    row-confirms rows row rest on (Through done) = on done
    row-confirms rows row rest on (Stopped done e r) =
        write-refuses rows (confirm_cause a row done e r) (refused-or (behind_from a.mode a.id) done.missing e.bay r (causes.Changed row.part.row) refl)

    write-stops : (taken : Taken) (e : Errand) (r : Reply) → Carries a.id number (write_stopped a taken e r)
    write-stops taken e r =
        write-refuses (taken.before ++ taken.row ∷ []) (why (behind_from a.mode a.id) taken e r) (why-unspent (behind_from a.mode a.id) taken e r)

    module _ (rest : Rows → Steps Finish) (on : (rows : Rows) → Carries a.id number (rest rows)) where
      row-claims : (walk : Walk Taken) → Carries a.id number (row_claimed a rest walk)
      row-claims (Through taken) = on (row_ended taken)
      row-claims (Stopped taken e r) = write-stops taken e r

      own-wanted : (want : Bool) (part : RowPart) → AllOwn a.id number (wanted_claims a want part)
      own-wanted want part = own-claims a.id number part.row _ want (bays_of a.n part.row (units_in a.n part.mask))

      own-others : (part : RowPart) → AllOwn a.id number (other_shares a part)
      own-others part = own-shares a.id number part.row (bays_of a.n part.row (units_out a.n part.mask))

      wanted-claimed : (want : Bool) (taken : Taken) → Carries a.id number (claim_wanted a rest want taken)
      wanted-claimed want taken =
          carries-run a.id number (claiming a with_wanted) (row_claimed a rest) (λ u. refl) row-claims
          (wanted_claims a want taken.row.part) (own-wanted want taken.row.part) taken

      others-claimed : (taken : Taken) (lacking : Bool) → Carries a.id number (share_others a rest taken lacking)
      others-claimed taken false = on (row_ended taken)
      others-claimed taken true =
          carries-run a.id number (claiming a with_other) (row_claimed a rest) (λ u. refl) row-claims
          (other_shares a taken.row.part) (own-others taken.row.part) taken

      small-claims : (walk : Walk Taken) → Carries a.id number (small_claimed a rest walk)
      small-claims (Stopped taken e r) = write-stops taken e r
      small-claims (Through taken) = others-claimed taken (lacks taken.row.wanted)

      share-stops : (taken : Taken) (bay : BayNo) (cause : Option Cause) → spent_in cause ≡ false → Carries a.id number (share_stopped a rest taken bay cause)
      share-stops taken bay (Some cause) is = write-refuses (taken.before ++ taken.row ∷ []) cause is
      share-stops taken bay None is = wanted-claimed true (with_grant with_other taken bay None)

      others-share : (walk : Walk Taken) → Carries a.id number (others_shared a rest walk)
      others-share (Through taken) = wanted-claimed false taken
      others-share (Stopped taken e r) =
          share-stops taken e.bay (refusal (behind_from a.mode a.id) taken.missing e.bay r) (refusal-unspent (behind_from a.mode a.id) taken.missing e.bay r)

      row-begins : (taken : Taken) (grant : Option Grant) (plan : Plan) → Carries a.id number (claim_row a rest taken grant plan)
      row-begins taken None plan = wanted-claimed false taken
      row-begins taken (Some grant) Full = wanted-claimed false taken
      row-begins taken (Some grant) Small =
          carries-run a.id number (claiming a with_wanted) (small_claimed a rest) (λ u. refl) small-claims
          (wanted_claims a true taken.row.part) (own-wanted true taken.row.part) taken
      row-begins taken (Some grant) Reconstruct =
          carries-run a.id number (taking_until with_other) (others_shared a rest) (λ u. refl) others-share
          (other_shares a taken.row.part) (own-others taken.row.part) taken

      parity-claims : (walk : Walk Taken) → Carries a.id number (parity_claimed a rest walk)
      parity-claims (Stopped taken e r) = write-stops taken e r
      parity-claims (Through taken) = row-begins taken taken.row.parity (plan_of a taken.row.part)

  confirms : (rows left : List Row) (done : Rows) → Carries a.id (number_of a.mode a.id) (confirm_rows a rows left done)
  confirms rows [] done = write-numbered a.mode done.rows
  confirms rows (row ∷ left) done =
      carries-run a.id (number_of a.mode a.id) (confirming a row) (row_confirmed a rows row (confirm_rows a rows left)) (λ u. refl)
      (row-confirms (number_of a.mode a.id) rows row (confirm_rows a rows left) (confirms rows left)) (row_confirm a row ∷ []) (refl, tt) done

  rows-claimed : (left : List RowPart) (done : Rows) → Carries a.id (number_of a.mode a.id) (claim_rows a left done)
  rows-claimed [] done = confirms done.rows done.rows (record done { rows = [] })
  rows-claimed (part ∷ left) done =
      carries-run a.id (number_of a.mode a.id) (claiming a with_parity) (parity_claimed a (claim_rows a left)) (λ u. refl)
      (parity-claims (number_of a.mode a.id) (claim_rows a left) (rows-claimed left)) (parity_claim a part ∷ []) (refl, tt) (begun part done)

  pub writes-carry : Carries a.id (number_of a.mode a.id) (write_steps a)
  writes-carry = rows-claimed a.parts no_rows

-- Rebuilds
module _ (m : Repair) where
  own-holds : (number : Option Number) (holds : List Hold) → AllOwn m.id number (mend_releases m holds)
  own-holds number holds = own-releases m.id number m.row _

  mend-puts : (n : Number) (holds : List Hold) (walk : Walk (Unit {0})) → Carries m.id (Some n) (mend_put m holds walk)
  mend-puts n holds (Through u) = released m.id (Some n) (mend_releases m (without_target m holds)) ends.Mended (own-holds (Some n) (without_target m holds)) refl
  mend-puts n holds (Stopped u e r) = refused m.id (Some n) (mend_releases m holds) (put_cause m.row e r) (own-holds (Some n) holds) (put-cause-unspent m.row e r)

  mends-numbered : (holds : List Hold) (n : Number) (shown : Bool) → Carries m.id (Some n) (mend_numbered m holds n shown)
  mends-numbered holds n true = released m.id (Some n) (mend_releases m holds) ends.Mended (own-holds (Some n) holds) refl
  mends-numbered holds n false =
      carries-run m.id (Some n) mend_putting (mend_put m holds) (λ u. refl) (mend-puts n holds) (put m.id m.row n (mended_cell m holds) m.target ∷ []) ((refl, refl), tt) tt

  mends-confirmed : (holds : List Hold) (walk : Walk (Unit {0})) → Carries m.id None (mend_confirmed m holds walk)
  mends-confirmed holds (Stopped u e r) =
      refused m.id None (mend_releases m holds) (mend_why e r (causes.Changed m.row)) (own-holds None holds) (refused-or None None e.bay r (causes.Changed m.row) refl)
  mends-confirmed holds (Through u) = (refl, λ n. mends-numbered holds n (is_shown m.target holds))

  mends-claimed : (walk : Walk (List Hold)) → Carries m.id None (mend_claimed m walk)
  mends-claimed (Stopped holds e r) =
      refused m.id None (mend_releases m (with_hold holds e.bay (grant_of r))) (mend_why e r (causes.Gone e.bay))
      (own-holds None (with_hold holds e.bay (grant_of r))) (refused-or None None e.bay r (causes.Gone e.bay) refl)
  mends-claimed (Through holds) =
      carries-run m.id None mend_confirming (mend_confirmed m holds) (λ u. refl) (mends-confirmed holds) (confirm m.id m.row false (parity_bay m.n m.row) ∷ []) (refl, tt) tt

  pub mends-carry : Carries m.id None (mend_steps m)
  mends-carry =
      carries-run m.id None (mending m) (mend_claimed m) (λ u. refl) mends-claimed (claims m.id m.row Mend true (parity_first m.n m.row))
      (own-claims m.id None m.row Mend true (parity_first m.n m.row)) []

-- Recoveries
module _ (r : Rescue) where
  own-back : (number : Option Number) (bays : List BayNo) → AllOwn r.id number (give_back r bays)
  own-back number bays = own-releases r.id number r.row bays

  recover-refuses : (number : Option Number) (row : Row) (cause : Cause) → is_spent cause ≡ false → Carries r.id number (recover_refused r row cause)
  recover-refuses number row cause is =
      refused r.id number (give_back r (unseized_data r row ++ unseized_parity r row.parity)) cause (own-back number (unseized_data r row ++ unseized_parity r row.parity)) is

  recover-puts : (n : Number) (row : Row) (lost : Option ℕ) (walk : Walk (Unit {0})) → Carries r.id (Some n) (recover_put r row n lost walk)
  recover-puts n row lost (Stopped u e reply) =
      refused r.id (Some n) (give_back r (unseized_data r row)) (put_cause r.row e reply) (own-back (Some n) (unseized_data r row)) (put-cause-unspent r.row e reply)
  recover-puts n row lost (Through u) =
      carries-run r.id (Some n) (closing n lost) (end_as (ends.Recovered n true lost)) (λ u. refl) (λ walk. refl) (give_back r (granted_data r row))
      (own-back (Some n) (granted_data r row)) tt

  recovers-by : (n : Number) (row : Row) (v : Verdict) → Carries r.id (Some n) (recover_by r row n v)
  recovers-by n row Leaves =
      released r.id (Some n) (give_back r (granted_data r row ++ parity_granted r.n r.row row.parity)) (ends.Recovered n true None)
      (own-back (Some n) (granted_data r row ++ parity_granted r.n r.row row.parity)) refl
  recovers-by n row (Sums lost) =
      carries-run r.id (Some n) (recover_putting r lost) (recover_put r row n lost) (λ u. refl) (recover-puts n row lost)
      (put r.id r.row n (recovered_parity row lost) (parity_bay r.n r.row) ∷ []) ((refl, refl), tt) tt

  recovers-confirmed : (taken : Taken) (walk : Walk (Unit {0})) → Carries r.id None (recover_confirmed r taken walk)
  recovers-confirmed taken (Stopped u e reply) =
      recover-refuses None taken.row (unwrap_or (refusal None taken.missing e.bay reply) (causes.Changed r.row)) (refused-or None taken.missing e.bay reply (causes.Changed r.row) refl)
  recovers-confirmed taken (Through u) = (refl, λ n. recovers-by n taken.row (verdict r taken.row))

  seized : (walk : Walk Taken) → Carries r.id None (units_seized r walk)
  seized (Stopped taken e reply) = recover-refuses None taken.row (why None taken e reply) (why-unspent None taken e reply)
  seized (Through taken) =
      carries-run r.id None (recover_confirming taken) (recover_confirmed r taken) (λ u. refl) (recovers-confirmed taken)
      (confirm r.id r.row false (parity_bay r.n r.row) ∷ []) (refl, tt) tt

  seizes : (taken : Taken) → Carries r.id None (seize_units r taken)
  seizes taken =
      carries-run r.id None (taking None with_wanted) (units_seized r) (λ u. refl) seized (claims r.id r.row Seize true (bays_of r.n r.row (units r.n)))
      (own-claims r.id None r.row Seize true (bays_of r.n r.row (units r.n))) taken

  lacking : (taken : Taken) (operator : Bool) → Carries r.id None (if operator then seize_units r taken else recover_refused r taken.row (causes.Gone (parity_bay r.n r.row)))
  lacking taken true = seizes taken
  lacking taken false = recover-refuses None taken.row (causes.Gone (parity_bay r.n r.row)) refl

  takes-parity : (taken : Taken) (grant : Option Grant) → Carries r.id None (parity_taken r taken grant)
  takes-parity taken (Some grant) = seizes taken
  takes-parity taken None = lacking taken (r.host.0 == 0)

  parity-seizes : (walk : Walk Taken) → Carries r.id None (parity_seized r walk)
  parity-seizes (Stopped taken e reply) = recover-refuses None taken.row (why None taken e reply) (why-unspent None taken e reply)
  parity-seizes (Through taken) = takes-parity taken taken.row.parity

  pub recoveries-carry : Carries r.id None (recover_steps r)
  recoveries-carry =
      carries-run r.id None (taking None with_parity) (parity_seized r) (λ u. refl) parity-seizes (claim r.id r.row Seize 0 true (parity_bay r.n r.row) ∷ []) (refl, tt) (begun (whole_part r) no_rows)
