-- What an attempt tells as its number, at its end and where its host stops, is the number that it has.
use Rattle.std.proofs.Common.{◌≡◌, ℕ, unwrap_or, ◌==◌, ◌++◌, Bool, true, false, if◌then◌else◌, List, [], ◌∷◌, Option, Some, None, Result, Ok, Err, refl}
use Rattle.raid_base.specs.declared.numbers.Number.{Number}
use Rattle.raid_base.specs.declared.numbers.RowNo.{RowNo}
use Rattle.raid_base.specs.declared.numbers.Spent.{Spent}
use Rattle.raid_base.specs.declared.messages.Mode.{Mode}
use Rattle.raid_base.specs.declared.messages.Mode.TheVariants.{Lock, Order}
use Rattle.raid_base.specs.declared.messages.How.TheVariants.{Mend, Seize}
use Rattle.raid_base.specs.declared.messages.Errand.{Errand}
use Rattle.raid_base.specs.declared.messages.Grant.{Grant}
use Rattle.raid_base.specs.declared.messages.Reply.{Reply}
use Rattle.raid_base.specs.declared.jobs.Cause.{Cause}
use Rattle.raid_base.specs.declared.jobs.Cause.TheVariants as causes
use Rattle.raid_base.specs.declared.jobs.Ended.{Ended}
use Rattle.raid_base.specs.declared.jobs.Ended.TheVariants as ends
use Rattle.raid_base.specs.declared.jobs.Plan.{Plan}
use Rattle.raid_base.specs.declared.jobs.Plan.TheVariants.{Full, Small, Reconstruct}
use Rattle.raid_base.specs.declared.jobs.RowPart.{RowPart}
use Rattle.raid_base.specs.Replies.{grant_of}
use Rattle.raid_base.specs.Steps.{Steps, Asks, Draws, Ends, bind, go_on, Walk, Through, Stopped, Phase, run}
use Rattle.stripe_layout.specs.Placement.{parity_bay, bays_of, units, units_in, units_out, parity_first}
use Rattle.attempts.specs.declared.Repair.{Repair}
use Rattle.attempts.specs.declared.Rescue.{Rescue}
use Rattle.attempts.specs.declared.Hold.{Hold}
use Rattle.attempts.specs.Taking.{Access, Finish, Row, Rows, no_rows, Taken, begun, row_ended, with_parity, with_wanted, with_other, lacks, behind_from, refusal, with_grant, taking, taking_until, why, share, shares, claim, claims, confirm}
use Rattle.attempts.specs.Releases.{releasing, end_as, released_steps, refused_steps, read_releases, write_releases, parity_granted}
use Rattle.attempts.specs.Reading.{sharing, read_refused, numbered_releases, freeing, read_freed, read_drawn, read_numbered, row_shared, parity_shared, share_rest, wanted_shared, read_rows, read_steps}
use Rattle.attempts.specs.Puts.{plan_of, Puts, no_puts, at_row, part_by_quit, data_puts, putting_data, parity_put, putting_parity, with_trouble, trouble_of, first_cause, written_or, flags, put}
use Rattle.attempts.specs.Writing.{finishing, reader_releases, write_end, write_last, parity_done, put_parity, data_done, put_rows, put_steps, write_drawn, write_numbered, confirming, row_confirm, confirm_cause, row_confirmed, confirm_rows, claiming, row_claimed, wanted_claims, other_shares, claim_wanted, share_others, small_claimed, share_stopped, others_shared, claim_row, parity_claimed, parity_claim, claim_rows, write_steps}
use Rattle.attempts.specs.Mending.{mending, with_hold, mend_why, mend_releases, without_target, mended_cell, put_cause, mend_putting, mend_put, mend_numbered, mend_drawn, is_shown, mend_confirmed, mend_confirming, mend_claimed, mend_steps}
use Rattle.attempts.specs.Recovery.{whole_part, unseized_data, unseized_parity, granted_data, give_back, recover_refused, Verdict, Leaves, Sums, verdict, recovered_parity, recover_putting, closing, recover_put, recover_by, recover_drawn, recover_confirmed, recover_confirming, units_seized, seize_units, parity_taken, parity_seized, recover_steps}
use Rattle.attempts.specs.Phases.{number_of}
use Rattle.row_laws.proofs.numbers.RisenTrees.{drawn_to}

-- where it tells a number, it is this
abbrev pub HasNumber : Option Number → Ended → Type 0
HasNumber number (ends.Read n) = number ≡ Some n
HasNumber number (ends.Wrote n) = number ≡ Some n
HasNumber number (ends.Part n made cause) = number ≡ Some n
HasNumber number (ends.Recovered n closed lost) = number ≡ Some n
HasNumber number (ends.Refused cause) = Unit {0}
HasNumber number ends.Mended = Unit {0}

-- Whatever the replies and the numbers drawn
abbrev pub TellsNumber : Option Number → Steps Finish → Type 0
TellsNumber number (Ends f) = HasNumber number f.ended
TellsNumber number (Draws k) = (d : Result Number Spent) → TellsNumber (drawn_to number d) (k d)
TellsNumber number (Asks e stop commits k) = HasNumber number stop × ((r : Reply) → TellsNumber number (k r))

-- Walks
module _ (number : Option Number) where
  module _ {A : Type 0} where
    number-go : (o : Option A) (g : A → Steps (Walk A)) (s : Steps (Walk A)) (f : Walk A → Steps Finish) →
        ((a : A) → TellsNumber number (bind (g a) f)) → TellsNumber number (bind s f) → TellsNumber number (bind (go_on o g s) f)
    number-go (Some a) g s f on off = on a
    number-go None g s f on off = off

    -- whatever the walk gives
    number-run : (phase : Phase A) (f : Walk A → Steps Finish) → ((a : A) → HasNumber number (phase.stop a)) → ((walk : Walk A) → TellsNumber number (f walk)) → (es : List Errand) (a : A) →
        TellsNumber number (bind (run phase es a) f)
    number-run phase f stops on [] a = on (Through a)
    number-run phase f stops on (e ∷ es) a =
        (stops a, λ r. number-go (phase.step a e r) (λ b. run phase es b) (Ends (Stopped a e r)) f (λ b. number-run phase f stops on es b) (on (Stopped a e r)))

  number-released : (es : List Errand) (ended : Ended) → HasNumber number ended → TellsNumber number (released_steps es ended)
  number-released es ended has = number-run releasing (end_as ended) (λ u. tt) (λ walk. has) es tt

-- Reads
module _ (a : Access) where
  freed : (n : Number) (rows : List Row) (walk : Walk (Option RowNo)) → TellsNumber (Some n) (read_freed a n rows walk)
  freed n rows (Through None) = refl
  freed n rows (Through (Some row)) = tt
  freed n rows (Stopped row e r) = refl

  read-drawn : (rows : List Row) (d : Result Number Spent) → TellsNumber (drawn_to None d) (read_drawn a rows d)
  read-drawn rows (Err spent) = number-released None (read_releases a rows) (ends.Refused (causes.Spent spent.seen)) tt
  read-drawn rows (Ok n) = number-run (Some n) freeing (read_freed a n rows) (λ o. tt) (freed n rows) (numbered_releases a n rows) None

  read-numbered : (mode : Mode) (rows : List Row) → TellsNumber (number_of mode a.id) (read_numbered mode a rows)
  read-numbered Order rows = refl
  read-numbered Lock rows = read-drawn rows

  abbrev Reads : Steps Finish → Type 0
  Reads s = TellsNumber (number_of a.mode a.id) s

  read-stopped : (taken : Taken) (e : Errand) (r : Reply) → Reads (read_refused a taken e r)
  read-stopped taken e r =
      number-released (number_of a.mode a.id) (read_releases a (taken.before ++ taken.row ∷ [])) (ends.Refused (why (behind_from a.mode a.id) taken e r)) tt

  module _ (rest : Rows → Steps Finish) (on : (rows : Rows) → Reads (rest rows)) where
    row-shares : (walk : Walk Taken) → Reads (row_shared a rest walk)
    row-shares (Through taken) = on (row_ended taken)
    row-shares (Stopped taken e r) = read-stopped taken e r

    parity-shares : (walk : Walk Taken) → Reads (parity_shared a rest walk)
    parity-shares (Stopped taken e r) = read-stopped taken e r
    parity-shares (Through taken) =
        number-run (number_of a.mode a.id) (sharing a with_other) (row_shared a rest) (λ t. tt) row-shares
        (shares a.id taken.row.part.row (bays_of a.n taken.row.part.row (units_out a.n taken.row.part.mask))) taken

    rest-shares : (taken : Taken) (lacking : Bool) → Reads (share_rest a rest taken lacking)
    rest-shares taken false = on (row_ended taken)
    rest-shares taken true =
        number-run (number_of a.mode a.id) (sharing a with_parity) (parity_shared a rest) (λ t. tt) parity-shares
        (share a.id taken.row.part.row (parity_bay a.n taken.row.part.row) ∷ []) taken

    wanted-shares : (walk : Walk Taken) → Reads (wanted_shared a rest walk)
    wanted-shares (Stopped taken e r) = read-stopped taken e r
    wanted-shares (Through taken) = rest-shares taken (lacks taken.row.wanted)

  rows-read : (left : List RowPart) (done : Rows) → Reads (read_rows a left done)
  rows-read [] done = read-numbered a.mode done.rows
  rows-read (part ∷ left) done =
      number-run (number_of a.mode a.id) (sharing a with_wanted) (wanted_shared a (read_rows a left)) (λ t. tt) (wanted-shares (read_rows a left) (rows-read left))
      (shares a.id part.row (bays_of a.n part.row (units_in a.n part.mask))) (begun part done)

  pub reads-number : TellsNumber (number_of a.mode a.id) (read_steps a)
  reads-number = rows-read a.parts no_rows

-- Writes
module _ (a : Access) where
  module _ (n : Number) where
    abbrev Puts-tell : Steps Finish → Type 0
    Puts-tell s = TellsNumber (Some n) s

    quits : (puts : Puts) → HasNumber (Some n) (part_by_quit n puts)
    quits puts = by puts.answered
      where
        by : (b : Bool) → HasNumber (Some n) (if b then ends.Part n (flags puts.made) causes.Quit else ends.Refused causes.Quit)
        by true = refl
        by false = tt

    written-has : (made : List ℕ) (o : Option Cause) → HasNumber (Some n) (written_or n made o)
    written-has made None = refl
    written-has made (Some cause) = refl

    ended : (walk : Walk Puts) → Puts-tell (write_end a n walk)
    ended (Through puts) = written-has puts.made (first_cause a puts.made puts.troubles)
    ended (Stopped puts e r) = written-has puts.made (first_cause a puts.made puts.troubles)

    last : (rows : List Row) (puts : Puts) → Puts-tell (write_last a n rows puts)
    last rows puts = number-run (Some n) (finishing a n) (write_end a n) quits ended (reader_releases a.mode a rows) puts

    module _ (row : Row) (rest : Puts → Steps Finish) (on : (puts : Puts) → Puts-tell (rest puts)) where
      parity-put : (walk : Walk Puts) → Puts-tell (parity_done row rest walk)
      parity-put (Through puts) = on puts
      parity-put (Stopped puts e r) = on (with_trouble puts (trouble_of row e r))

      puts-parity : (puts : Puts) (o : Option Grant) → Puts-tell (put_parity a n row rest puts o)
      puts-parity puts None = on puts
      puts-parity puts (Some grant) = number-run (Some n) (putting_parity a n row) (parity_done row rest) quits parity-put (parity_put a n row ∷ []) puts

      data-put : (walk : Walk Puts) → Puts-tell (data_done a n row rest walk)
      data-put (Through puts) = puts-parity puts row.parity
      data-put (Stopped puts e r) = on (with_trouble puts (trouble_of row e r))

    rows-put : (last_steps : Puts → Steps Finish) → ((puts : Puts) → Puts-tell (last_steps puts)) → (rows : List Row) (puts : Puts) → Puts-tell (put_rows a n last_steps rows puts)
    rows-put last_steps on [] puts = on puts
    rows-put last_steps on (row ∷ rows) puts =
        number-run (Some n) (putting_data a n row) (data_done a n row (put_rows a n last_steps rows)) quits
        (data-put row (put_rows a n last_steps rows) (rows-put last_steps on rows)) (data_puts a n row) (at_row puts)

    puts-number : (rows : List Row) → Puts-tell (put_steps a n rows)
    puts-number rows = rows-put (write_last a n rows) (last rows) rows no_puts

  write-drawn : (rows : List Row) (d : Result Number Spent) → TellsNumber (drawn_to None d) (write_drawn a rows d)
  write-drawn rows (Ok n) = puts-number n rows
  write-drawn rows (Err spent) = number-released None (write_releases a rows) (ends.Refused (causes.Spent spent.seen)) tt

  write-numbered : (mode : Mode) (rows : List Row) → TellsNumber (number_of mode a.id) (write_numbered mode a rows)
  write-numbered Order rows = puts-number a.id rows
  write-numbered Lock rows = write-drawn rows

  abbrev Writes : Steps Finish → Type 0
  Writes s = TellsNumber (number_of a.mode a.id) s

  refuses : (es : List Errand) (cause : Cause) → Writes (refused_steps es cause)
  refuses es cause = number-released (number_of a.mode a.id) es (ends.Refused cause) tt

  module _ (rows : List Row) where
    row-confirms : (row : Row) (rest : Rows → Steps Finish) → ((done : Rows) → Writes (rest done)) → (walk : Walk Rows) → Writes (row_confirmed a rows row rest walk)
    row-confirms row rest on (Through done) = on done
    row-confirms row rest on (Stopped done e r) = refuses (write_releases a rows) (confirm_cause a row done e r)

    rows-confirm : (left : List Row) (done : Rows) → Writes (confirm_rows a rows left done)
    rows-confirm [] done = write-numbered a.mode done.rows
    rows-confirm (row ∷ left) done =
        number-run (number_of a.mode a.id) (confirming a row) (row_confirmed a rows row (confirm_rows a rows left)) (λ d. tt)
        (row-confirms row (confirm_rows a rows left) (rows-confirm left)) (row_confirm a row ∷ []) done

  module _ (rest : Rows → Steps Finish) (on : (rows : Rows) → Writes (rest rows)) where
    row-claims : (walk : Walk Taken) → Writes (row_claimed a rest walk)
    row-claims (Through taken) = on (row_ended taken)
    row-claims (Stopped taken e r) = refuses (write_releases a (taken.before ++ taken.row ∷ [])) (why (behind_from a.mode a.id) taken e r)

    claims-wanted : (want : Bool) (taken : Taken) → Writes (claim_wanted a rest want taken)
    claims-wanted want taken = number-run (number_of a.mode a.id) (claiming a with_wanted) (row_claimed a rest) (λ t. tt) row-claims (wanted_claims a want taken.row.part) taken

    shares-others : (taken : Taken) (lacking : Bool) → Writes (share_others a rest taken lacking)
    shares-others taken false = on (row_ended taken)
    shares-others taken true = number-run (number_of a.mode a.id) (claiming a with_other) (row_claimed a rest) (λ t. tt) row-claims (other_shares a taken.row.part) taken

    small-claims : (walk : Walk Taken) → Writes (small_claimed a rest walk)
    small-claims (Stopped taken e r) = refuses (write_releases a (taken.before ++ taken.row ∷ [])) (why (behind_from a.mode a.id) taken e r)
    small-claims (Through taken) = shares-others taken (lacks taken.row.wanted)

    share-stops : (taken : Taken) (e : Errand) (o : Option Cause) → Writes (share_stopped a rest taken e.bay o)
    share-stops taken e (Some cause) = refuses (write_releases a (taken.before ++ taken.row ∷ [])) cause
    share-stops taken e None = claims-wanted true (with_grant with_other taken e.bay None)

    others-share : (walk : Walk Taken) → Writes (others_shared a rest walk)
    others-share (Through taken) = claims-wanted false taken
    others-share (Stopped taken e r) = share-stops taken e (refusal (behind_from a.mode a.id) taken.missing e.bay r)

    claims-row : (taken : Taken) (o : Option Grant) (plan : Plan) → Writes (claim_row a rest taken o plan)
    claims-row taken None plan = claims-wanted false taken
    claims-row taken (Some grant) Full = claims-wanted false taken
    claims-row taken (Some grant) Small = number-run (number_of a.mode a.id) (claiming a with_wanted) (small_claimed a rest) (λ t. tt) small-claims (wanted_claims a true taken.row.part) taken
    claims-row taken (Some grant) Reconstruct = number-run (number_of a.mode a.id) (taking_until with_other) (others_shared a rest) (λ t. tt) others-share (other_shares a taken.row.part) taken

    parity-claims : (walk : Walk Taken) → Writes (parity_claimed a rest walk)
    parity-claims (Stopped taken e r) = refuses (write_releases a (taken.before ++ taken.row ∷ [])) (why (behind_from a.mode a.id) taken e r)
    parity-claims (Through taken) = claims-row taken taken.row.parity (plan_of a taken.row.part)

  rows-claim : (parts : List RowPart) (claimed : Rows) → Writes (claim_rows a parts claimed)
  rows-claim [] claimed = rows-confirm claimed.rows claimed.rows (record claimed { rows = [] })
  rows-claim (part ∷ parts) claimed =
      number-run (number_of a.mode a.id) (claiming a with_parity) (parity_claimed a (claim_rows a parts)) (λ t. tt) (parity-claims (claim_rows a parts) (rows-claim parts))
      (parity_claim a part ∷ []) (begun part claimed)

  pub writes-number : TellsNumber (number_of a.mode a.id) (write_steps a)
  writes-number = rows-claim a.parts no_rows

-- Rebuilds
module _ (m : Repair) where
  mend-refuses : (number : Option Number) (es : List Errand) (cause : Cause) → TellsNumber number (refused_steps es cause)
  mend-refuses number es cause = number-released number es (ends.Refused cause) tt

  mend-puts : (number : Option Number) (holds : List Hold) (walk : Walk (Unit {0})) → TellsNumber number (mend_put m holds walk)
  mend-puts number holds (Through u) = number-released number (mend_releases m (without_target m holds)) ends.Mended tt
  mend-puts number holds (Stopped u e r) = mend-refuses number (mend_releases m holds) (put_cause m.row e r)

  mend-numbers : (number : Option Number) (holds : List Hold) (n : Number) (b : Bool) → TellsNumber number (mend_numbered m holds n b)
  mend-numbers number holds n true = number-released number (mend_releases m holds) ends.Mended tt
  mend-numbers number holds n false =
      number-run number mend_putting (mend_put m holds) (λ u. tt) (mend-puts number holds) (put m.id m.row n (mended_cell m holds) m.target ∷ []) tt

  mend-draws : (holds : List Hold) (d : Result Number Spent) → TellsNumber (drawn_to None d) (mend_drawn m holds d)
  mend-draws holds (Err spent) = mend-refuses None (mend_releases m holds) (causes.Spent spent.seen)
  mend-draws holds (Ok n) = mend-numbers (Some n) holds n (is_shown m.target holds)

  mend-confirms : (holds : List Hold) (walk : Walk (Unit {0})) → TellsNumber None (mend_confirmed m holds walk)
  mend-confirms holds (Stopped u e r) = mend-refuses None (mend_releases m holds) (mend_why e r (causes.Changed m.row))
  mend-confirms holds (Through u) = mend-draws holds

  mend-claims : (walk : Walk (List Hold)) → TellsNumber None (mend_claimed m walk)
  mend-claims (Stopped holds e r) = mend-refuses None (mend_releases m (with_hold holds e.bay (grant_of r))) (mend_why e r (causes.Gone e.bay))
  mend-claims (Through holds) = number-run None mend_confirming (mend_confirmed m holds) (λ u. tt) (mend-confirms holds) (confirm m.id m.row false (parity_bay m.n m.row) ∷ []) tt

  pub mends-number : TellsNumber None (mend_steps m)
  mends-number = number-run None (mending m) (mend_claimed m) (λ h. tt) mend-claims (claims m.id m.row Mend true (parity_first m.n m.row)) []

-- Recoveries
module _ (r : Rescue) where
  recovery-refuses : (number : Option Number) (es : List Errand) (cause : Cause) → TellsNumber number (refused_steps es cause)
  recovery-refuses number es cause = number-released number es (ends.Refused cause) tt

  recovery-puts : (row : Row) (n : Number) (lost : Option ℕ) (walk : Walk (Unit {0})) → TellsNumber (Some n) (recover_put r row n lost walk)
  recovery-puts row n lost (Stopped u e reply) = recovery-refuses (Some n) (give_back r (unseized_data r row)) (put_cause r.row e reply)
  recovery-puts row n lost (Through u) =
      number-run (Some n) (closing n lost) (end_as (ends.Recovered n true lost)) (λ v. refl) (λ walk. refl) (give_back r (granted_data r row)) tt

  recovers-by : (row : Row) (n : Number) (v : Verdict) → TellsNumber (Some n) (recover_by r row n v)
  recovers-by row n Leaves = number-released (Some n) (give_back r (granted_data r row ++ parity_granted r.n r.row row.parity)) (ends.Recovered n true None) refl
  recovers-by row n (Sums lost) =
      number-run (Some n) (recover_putting r lost) (recover_put r row n lost) (λ u. tt) (recovery-puts row n lost)
      (put r.id r.row n (recovered_parity row lost) (parity_bay r.n r.row) ∷ []) tt

  recovery-draws : (row : Row) (d : Result Number Spent) → TellsNumber (drawn_to None d) (recover_drawn r row d)
  recovery-draws row (Err spent) = recovery-refuses None (give_back r (unseized_data r row ++ unseized_parity r row.parity)) (causes.Spent spent.seen)
  recovery-draws row (Ok n) = recovers-by row n (verdict r row)

  recovery-confirms : (taken : Taken) (walk : Walk (Unit {0})) → TellsNumber None (recover_confirmed r taken walk)
  recovery-confirms taken (Stopped u e reply) =
      recovery-refuses None (give_back r (unseized_data r taken.row ++ unseized_parity r taken.row.parity))
      (unwrap_or (refusal None taken.missing e.bay reply) (causes.Changed r.row))
  recovery-confirms taken (Through u) = recovery-draws taken.row

  units-seizes : (walk : Walk Taken) → TellsNumber None (units_seized r walk)
  units-seizes (Stopped taken e reply) = recovery-refuses None (give_back r (unseized_data r taken.row ++ unseized_parity r taken.row.parity)) (why None taken e reply)
  units-seizes (Through taken) =
      number-run None (recover_confirming taken) (recover_confirmed r taken) (λ u. tt) (recovery-confirms taken) (confirm r.id r.row false (parity_bay r.n r.row) ∷ []) tt

  seizes-units : (taken : Taken) → TellsNumber None (seize_units r taken)
  seizes-units taken = number-run None (taking None with_wanted) (units_seized r) (λ t. tt) units-seizes (claims r.id r.row Seize true (bays_of r.n r.row (units r.n))) taken

  takes-if : (taken : Taken) (b : Bool) →
      TellsNumber None (if b then seize_units r taken else recover_refused r taken.row (causes.Gone (parity_bay r.n r.row)))
  takes-if taken true = seizes-units taken
  takes-if taken false = recovery-refuses None (give_back r (unseized_data r taken.row ++ unseized_parity r taken.row.parity)) (causes.Gone (parity_bay r.n r.row))

  takes-parity : (taken : Taken) (o : Option Grant) → TellsNumber None (parity_taken r taken o)
  takes-parity taken (Some grant) = seizes-units taken
  takes-parity taken None = takes-if taken (r.host.0 == 0)

  seizes-parity : (walk : Walk Taken) → TellsNumber None (parity_seized r walk)
  seizes-parity (Stopped taken e reply) = recovery-refuses None (give_back r (unseized_data r taken.row ++ unseized_parity r taken.row.parity)) (why None taken e reply)
  seizes-parity (Through taken) = takes-parity taken taken.row.parity

  pub recoveries-number : TellsNumber None (recover_steps r)
  recoveries-number =
      number-run None (taking None with_parity) (parity_seized r) (λ t. tt) seizes-parity
      (claim r.id r.row Seize 0 true (parity_bay r.n r.row) ∷ []) (begun (whole_part r) no_rows)
