-- What a Done commits: none but that of a put commits anything, and that of a unit that a write puts commits just its content.
use Rattle.std.proofs.Common.{◌≡◌, ◌⊎◌, inl, inr, ◌∙◌, ◌+◌, ◌-◌, ◌<◌, ◌≤◌, ◌==◌, ℕ, Bool, true, false, cond, if◌then◌else◌, List, [], ◌∷◌, ◌++◌, map, zip, Option, Some, None, IfSome, unwrap_or, Result, Ok, Err, refl, sym, ap, subst, arith}
use Rattle.std.specs.List.{AllByRecursion}
use Rattle.raid_base.specs.declared.numbers.BayNo.{BayNo}
use Rattle.raid_base.specs.declared.numbers.HostNo.{HostNo}
use Rattle.raid_base.specs.declared.numbers.RowNo.{RowNo}
use Rattle.raid_base.specs.declared.numbers.Number.{Number}
use Rattle.raid_base.specs.declared.numbers.Spent.{Spent}
use Rattle.raid_base.specs.declared.names.Name.{Name}
use Rattle.raid_base.specs.declared.cells.Cell.{Cell}
use Rattle.raid_base.specs.declared.messages.Mode.{Mode}
use Rattle.raid_base.specs.declared.messages.Mode.TheVariants.{Lock, Order}
use Rattle.raid_base.specs.declared.messages.How.TheVariants.{Plain, Mend, Seize}
use Rattle.raid_base.specs.declared.messages.Request.{Request}
use Rattle.raid_base.specs.declared.messages.Request.TheVariants.{Share, Claim, Confirm, Put, Release, Lose, Fit}
use Rattle.raid_base.specs.declared.messages.PutEnd.{PutEnd}
use Rattle.raid_base.specs.declared.messages.PutEnd.TheVariants.{Made, Unnoted, Failed}
use Rattle.raid_base.specs.declared.messages.Reply.{Reply}
use Rattle.raid_base.specs.declared.messages.Errand.{Errand}
use Rattle.raid_base.specs.declared.messages.Grant.{Grant}
use Rattle.raid_base.specs.declared.jobs.Cause.{Cause}
use Rattle.raid_base.specs.declared.jobs.Cause.TheVariants as causes
use Rattle.raid_base.specs.declared.jobs.Ended.{Ended}
use Rattle.raid_base.specs.declared.jobs.Ended.TheVariants as ends
use Rattle.raid_base.specs.declared.jobs.Plan.{Plan}
use Rattle.raid_base.specs.declared.jobs.Plan.TheVariants.{Full, Small, Reconstruct}
use Rattle.raid_base.specs.declared.jobs.RowPart.{RowPart}
use Rattle.raid_base.specs.declared.jobs.PartsFault.{PartsFault}
use Rattle.raid_base.specs.declared.jobs.Task.{Task}
use Rattle.raid_base.specs.declared.jobs.Task.TheVariants as tasks
use Rattle.raid_base.specs.Cells.{content_of, has_unit}
use Rattle.raid_base.specs.Numbers.{draw, seen_drawn}
use Rattle.raid_base.specs.Replies.{grant_of, put_end}
use Rattle.raid_base.specs.Steps.{Commit, Steps, Asks, Draws, Ends, bind, go_on, Walk, Through, Stopped, Phase, run, settled, behind, next_errand, commits_next}
use Rattle.stripe_layout.specs.Placement.{parity_bay, bay_of, bays_of, units, units_in, units_out, parity_first}
use Rattle.stripe_layout.proofs.LayoutLemmas.{unit_apart, unit_back, unit_distinct}
use Rattle.attempts.specs.declared.Repair.{Repair}
use Rattle.attempts.specs.declared.Rescue.{Rescue}
use Rattle.attempts.specs.declared.Hold.{Hold}
use Rattle.attempts.specs.Taking.{Access, Finish, Row, Rows, no_rows, Taken, begun, row_ended, with_parity, with_wanted, with_other, with_grant, lacks, behind_from, refusal, taking, taking_until, why, share, shares, claim, claims, confirm}
use Rattle.attempts.specs.Releases.{release, releases, releasing, end_as, granted_of, released_steps, refused_steps, write_holds, read_releases, write_releases, others_granted, parity_granted}
use Rattle.attempts.specs.Reading.{sharing, read_refused, numbered_releases, freeing, read_freed, read_drawn, read_numbered, row_shared, parity_shared, share_rest, wanted_shared, read_rows, read_steps}
use Rattle.attempts.specs.Puts.{wanted_units, plan_of, Puts, no_puts, at_row, with_left, put, data_put, unit_of, granted_life, data_put_by, unit_commit, putting_data, missing_units, parity_units, parity_put, putting_parity, with_trouble, trouble_of}
use Rattle.attempts.specs.Writing.{write_stopped, finishing, reader_releases, write_end, write_last, parity_done, put_parity, data_done, put_rows, write_drawn, write_numbered, row_confirm, confirming, confirm_cause, row_confirmed, confirm_rows, claiming, row_claimed, wanted_claims, other_shares, claim_wanted, share_others, small_claimed, share_stopped, others_shared, claim_row, parity_claimed, parity_claim, claim_rows, write_steps}
use Rattle.attempts.specs.Mending.{mending, with_hold, mend_why, mend_releases, without_target, mended_cell, put_cause, mend_putting, mend_put, mend_numbered, mend_drawn, is_shown, mend_confirmed, mend_confirming, mend_claimed, mend_steps}
use Rattle.attempts.specs.Recovery.{whole_part, unseized_data, granted_data, unseized_parity, give_back, recover_refused, missing_in, is_torn, Verdict, Leaves, Sums, hole_verdict, verdict_of, verdict, recovered_parity, lost_commits, recover_putting, closing, recover_put, recover_by, recover_drawn, recover_confirmed, recover_confirming, units_seized, seize_units, parity_taken, parity_seized, recover_steps}
use Rattle.attempts.proofs.RoomLemmas.{all-append, all-map, all-made}
use Rattle.attempts.proofs.PhaseLemmas.{all-weaken, all-flat, any}
use Rattle.attempts.proofs.SoundLemmas.{units-all, all-filter}
use Rattle.attempts.proofs.WritePhases.{all-granted}
use Rattle.script_text.specs.Script.{Script, parts_of, blocks_of}
use Rattle.script_text.specs.Ranges.{IsScript, IsTask}
use Rattle.histories.specs.Progress.{access, attempt, read_of, write_of}

-- What a Done to a request commits: the put of a unit by a write its content, the put of a parity by a write some units' contents,
-- that of a recovery a lost unit or nothing, and nothing else anything.
abbrev pub CommitsUnit : ℕ → BayNo → RowNo → Cell → List Commit → Type 0
CommitsUnit n bay row cell commits = (unit : ℕ) × (unit + 1 < n) × (bay ≡ bay_of n row unit) × (commits ≡ record { row = row; unit = unit; content = content_of cell } ∷ [])

abbrev pub CommitsRow : ℕ → BayNo → RowNo → List Commit → Type 0
CommitsRow n bay row commits = (bay ≡ parity_bay n row) × AllByRecursion (λ (c : Commit). (c.row ≡ row) × (c.unit + 1 < n)) commits

abbrev pub CommitsSo : ℕ → BayNo → Request → List Commit → Type 0
CommitsSo n bay (Put row id number cell) commits = (commits ≡ []) ⊎ (CommitsUnit n bay row cell commits ⊎ CommitsRow n bay row commits)
CommitsSo n bay _ commits = commits ≡ []

abbrev pub EachCommits : ℕ → Steps Finish → Type 0
EachCommits n (Ends f) = Unit {0}
EachCommits n (Draws k) = (d : Result Number Spent) → EachCommits n (k d)
EachCommits n (Asks e s c k) = CommitsSo n e.bay e.request c × ((r : Reply) → EachCommits n (k r))

-- A write puts nothing else than units and parities: a put at a unit's bay commits just that unit.
abbrev pub PutCommits : ℕ → BayNo → Request → List Commit → Type 0
PutCommits n bay (Put row id number cell) commits = CommitsUnit n bay row cell commits ⊎ CommitsRow n bay row commits
PutCommits n bay _ commits = commits ≡ []

abbrev pub EachPutCommits : ℕ → Steps Finish → Type 0
EachPutCommits n (Ends f) = Unit {0}
EachPutCommits n (Draws k) = (d : Result Number Spent) → EachPutCommits n (k d)
EachPutCommits n (Asks e s c k) = PutCommits n e.bay e.request c × ((r : Reply) → EachPutCommits n (k r))

-- Walks
module _ (n : ℕ) where
  pub settled-commits : (host : HostNo) (seen : Number) (s : Steps Finish) → EachCommits n s → EachCommits n (settled host seen s).steps
  settled-commits host seen (Asks e t c k) h = h
  settled-commits host seen (Draws k) h = settled-commits host (seen_drawn seen (draw host seen)) (k (draw host seen)) (h (draw host seen))
  settled-commits host seen (Ends f) h = h

  pub behind-commits : (s : Steps Finish) (r : Reply) → EachCommits n s → EachCommits n (behind s r)
  behind-commits (Asks e t c k) r h = h.1 r
  behind-commits (Draws k) r h = h
  behind-commits (Ends f) r h = h

  pub next-commits : (s : Steps Finish) (e : Errand) → EachCommits n s → next_errand s ≡ Some e → CommitsSo n e.bay e.request (commits_next s)
  next-commits (Asks first t c k) e h is = let same : first ≡ e = cc in subst (λ (x : Errand). CommitsSo n x.bay x.request c) same h.0
  next-commits (Draws k) e h is = absurd (cc)
  next-commits (Ends f) e h is = absurd (cc)

  pub settled-put-commits : (host : HostNo) (seen : Number) (s : Steps Finish) → EachPutCommits n s → EachPutCommits n (settled host seen s).steps
  settled-put-commits host seen (Asks e t c k) h = h
  settled-put-commits host seen (Draws k) h = settled-put-commits host (seen_drawn seen (draw host seen)) (k (draw host seen)) (h (draw host seen))
  settled-put-commits host seen (Ends f) h = h

  pub behind-put-commits : (s : Steps Finish) (r : Reply) → EachPutCommits n s → EachPutCommits n (behind s r)
  behind-put-commits (Asks e t c k) r h = h.1 r
  behind-put-commits (Draws k) r h = h
  behind-put-commits (Ends f) r h = h

  pub next-put-commits : (s : Steps Finish) (e : Errand) → EachPutCommits n s → next_errand s ≡ Some e → PutCommits n e.bay e.request (commits_next s)
  next-put-commits (Asks first t c k) e h is = let same : first ≡ e = cc in subst (λ (x : Errand). PutCommits n x.bay x.request c) same h.0
  next-put-commits (Draws k) e h is = absurd (cc)
  next-put-commits (Ends f) e h is = absurd (cc)

  -- the second says more than the first
  puts-so : (bay : BayNo) (request : Request) (commits : List Commit) → PutCommits n bay request commits → CommitsSo n bay request commits
  puts-so bay (Put row id number cell) commits h = inr h
  puts-so bay (Share row id want) commits h = h
  puts-so bay (Claim row id how mask want) commits h = h
  puts-so bay (Confirm row id want) commits h = h
  puts-so bay (Release row id number) commits h = h
  puts-so bay Lose commits h = h
  puts-so bay Fit commits h = h

  pub each-so : (s : Steps Finish) → EachPutCommits n s → EachCommits n s
  each-so (Ends f) h = tt
  each-so (Draws k) h = λ d. each-so (k d) (h d)
  each-so (Asks e t c k) h = (puts-so e.bay e.request c h.0, λ r. each-so (k r) (h.1 r))

  -- a put at the bay of a unit commits that unit and its content, and nothing else
  pub unit-put-commits : (row : RowNo) (unit : ℕ) (id number : Number) (cell : Cell) (commits : List Commit) → 3 ≤ n → unit + 1 < n
      → PutCommits n (bay_of n row unit) (Put row id number cell) commits → commits ≡ record { row = row; unit = unit; content = content_of cell } ∷ []
  unit-put-commits row unit id number cell commits least below (inl (other, within, same, is)) =
      let one : other ≡ unit = sym (unit_distinct n row unit other least (omega arith) (omega arith) same) in
      is ∙ ap (λ (u : ℕ). record { row = row; unit = u; content = content_of cell } ∷ []) one
  unit-put-commits row unit id number cell commits least below (inr (same, all)) = absurd (unit_apart n row unit least (omega arith) same)

  -- nothing is committed
  none-so : (bay : BayNo) (request : Request) → CommitsSo n bay request []
  none-so bay (Put row id number cell) = inl refl
  none-so bay (Share row id want) = refl
  none-so bay (Claim row id how mask want) = refl
  none-so bay (Confirm row id want) = refl
  none-so bay (Release row id number) = refl
  none-so bay Lose = refl
  none-so bay Fit = refl

  module _ {A : Type 0} where
    commits-go : (o : Option A) (g : A → Steps (Walk A)) (s : Steps (Walk A)) (f : Walk A → Steps Finish)
        → ((a : A) → EachCommits n (bind (g a) f)) → EachCommits n (bind s f) → EachCommits n (bind (go_on o g s) f)
    commits-go (Some a) g s f on off = on a
    commits-go None g s f on off = off

    -- whatever the walk gives
    commits-run : (phase : Phase A) (f : Walk A → Steps Finish) → ((walk : Walk A) → EachCommits n (f walk))
        → (es : List Errand) → AllByRecursion (λ (e : Errand). (a : A) → CommitsSo n e.bay e.request (phase.commits a e)) es → (a : A) → EachCommits n (bind (run phase es a) f)
    commits-run phase f on [] own a = on (Through a)
    commits-run phase f on (e ∷ es) own a =
        (own.0 a, λ r. commits-go (phase.step a e r) (λ b. run phase es b) (Ends (Stopped a e r)) f (λ b. commits-run phase f on es own.1 b) (on (Stopped a e r)))

    -- a phase that commits nothing
    commits-quiet : (phase : Phase A) (f : Walk A → Steps Finish) → ((walk : Walk A) → EachCommits n (f walk)) → ((a : A) (e : Errand) → phase.commits a e ≡ [])
        → (es : List Errand) → (a : A) → EachCommits n (bind (run phase es a) f)
    commits-quiet phase f on none es a = commits-run phase f on es (all es) a where
      all : (ds : List Errand) → AllByRecursion (λ (e : Errand). (b : A) → CommitsSo n e.bay e.request (phase.commits b e)) ds
      all [] = tt
      all (d ∷ ds) = (λ b. subst (CommitsSo n d.bay d.request) (sym (none b d)) (none-so d.bay d.request), all ds)

    puts-go : (I : A → Type 0) (o : Option A) (g : A → Steps (Walk A)) (s : Steps (Walk A)) (f : Walk A → Steps Finish)
        → IfSome o I → ((a : A) → I a → EachPutCommits n (bind (g a) f)) → EachPutCommits n (bind s f) → EachPutCommits n (bind (go_on o g s) f)
    puts-go I (Some a) g s f i on off = on a i
    puts-go I None g s f i on off = off

    -- where each step keeps what is known
    puts-run : (I : A → Type 0) (phase : Phase A) (f : Walk A → Steps Finish) → ((a : A) → I a → EachPutCommits n (f (Through a)))
        → ((a : A) (e : Errand) (r : Reply) → EachPutCommits n (f (Stopped a e r)))
        → (es : List Errand) → AllByRecursion (λ (e : Errand). (a : A) → I a → PutCommits n e.bay e.request (phase.commits a e) × ((r : Reply) → IfSome (phase.step a e r) I)) es
        → (a : A) → I a → EachPutCommits n (bind (run phase es a) f)
    puts-run I phase f on off [] own a i = on a i
    puts-run I phase f on off (e ∷ es) own a i = (
      (own.0 a i).0,
      λ r. puts-go I (phase.step a e r) (λ b. run phase es b) (Ends (Stopped a e r)) f ((own.0 a i).1 r) (λ b j. puts-run I phase f on off es own.1 b j) (off a e r),
    )

  -- errands without puts
  abbrev Putless : List Errand → Type 0
  Putless es = AllByRecursion (λ (e : Errand). PutCommits n e.bay e.request []) es

  module _ {A : Type 0} where
    puts-quiet : (phase : Phase A) (f : Walk A → Steps Finish) → ((walk : Walk A) → EachPutCommits n (f walk)) → ((a : A) (e : Errand) → phase.commits a e ≡ [])
        → (es : List Errand) → Putless es → (a : A) → EachPutCommits n (bind (run phase es a) f)
    puts-quiet phase f on none es own a =
        puts-run (λ (b : A). Unit {0}) phase f (λ b u. on (Through b)) (λ b e r. on (Stopped b e r)) es (all es own) a tt where
          all : (ds : List Errand) → Putless ds
              → AllByRecursion (λ (e : Errand). (b : A) → Unit {0} → PutCommits n e.bay e.request (phase.commits b e) × ((r : Reply) → IfSome (phase.step b e r) (λ (c : A). Unit {0}))) ds
          all [] h = tt
          all (d ∷ ds) h = (λ b u. (subst (PutCommits n d.bay d.request) (sym (none b d)) h.0, λ r. any (phase.step b d r)), all ds h.1)

  releases-putless : (id : Number) (row : RowNo) (number : Option Number) (bays : List BayNo) → Putless (releases id row number bays)
  releases-putless id row number bays = all-made (λ (e : Errand). PutCommits n e.bay e.request []) (release id row number) (λ bay. refl) bays

  shares-putless : (id : Number) (row : RowNo) (bays : List BayNo) → Putless (shares id row bays)
  shares-putless id row bays = all-made (λ (e : Errand). PutCommits n e.bay e.request []) (share id row) (λ bay. refl) bays

  claims-putless : (id : Number) (row : RowNo) (want : Bool) (bays : List BayNo) → Putless (claims id row Plain want bays)
  claims-putless id row want bays = all-made (λ (e : Errand). PutCommits n e.bay e.request []) (claim id row Plain 0 want) (λ bay. refl) bays

  released-so : (es : List Errand) (ended : Ended) → EachCommits n (released_steps es ended)
  released-so es ended = commits-quiet releasing (end_as ended) (λ walk. tt) (λ u e. refl) es tt

-- Reads
module _ (a : Access) where
  freed : (n : Number) (rows : List Row) (walk : Walk (Option RowNo)) → EachCommits a.n (read_freed a n rows walk)
  freed n rows (Through None) = tt
  freed n rows (Through (Some row)) = tt
  freed n rows (Stopped row e r) = tt

  read-drawn : (rows : List Row) (d : Result Number Spent) → EachCommits a.n (read_drawn a rows d)
  read-drawn rows (Err spent) = released-so a.n (read_releases a rows) (ends.Refused (causes.Spent spent.seen))
  read-drawn rows (Ok n) = commits-quiet a.n freeing (read_freed a n rows) (freed n rows) (λ o e. refl) (numbered_releases a n rows) None

  read-numbered : (mode : Mode) (rows : List Row) → EachCommits a.n (read_numbered mode a rows)
  read-numbered Order rows = tt
  read-numbered Lock rows = read-drawn rows

  read-stopped : (taken : Taken) (e : Errand) (r : Reply) → EachCommits a.n (read_refused a taken e r)
  read-stopped taken e r = released-so a.n (read_releases a (taken.before ++ taken.row ∷ [])) (ends.Refused (why (behind_from a.mode a.id) taken e r))

  module _ (rest : Rows → Steps Finish) (on : (rows : Rows) → EachCommits a.n (rest rows)) where
    row-shares : (walk : Walk Taken) → EachCommits a.n (row_shared a rest walk)
    row-shares (Through taken) = on (row_ended taken)
    row-shares (Stopped taken e r) = read-stopped taken e r

    parity-shares : (walk : Walk Taken) → EachCommits a.n (parity_shared a rest walk)
    parity-shares (Stopped taken e r) = read-stopped taken e r
    parity-shares (Through taken) =
        commits-quiet a.n (sharing a with_other) (row_shared a rest) row-shares (λ t e. refl)
        (shares a.id taken.row.part.row (bays_of a.n taken.row.part.row (units_out a.n taken.row.part.mask))) taken

    rest-shares : (taken : Taken) (lacking : Bool) → EachCommits a.n (share_rest a rest taken lacking)
    rest-shares taken false = on (row_ended taken)
    rest-shares taken true =
        commits-quiet a.n (sharing a with_parity) (parity_shared a rest) parity-shares (λ t e. refl)
        (share a.id taken.row.part.row (parity_bay a.n taken.row.part.row) ∷ []) taken

    wanted-shares : (walk : Walk Taken) → EachCommits a.n (wanted_shared a rest walk)
    wanted-shares (Stopped taken e r) = read-stopped taken e r
    wanted-shares (Through taken) = rest-shares taken (lacks taken.row.wanted)

  rows-read : (left : List RowPart) (done : Rows) → EachCommits a.n (read_rows a left done)
  rows-read [] done = read-numbered a.mode done.rows
  rows-read (part ∷ left) done =
      commits-quiet a.n (sharing a with_wanted) (wanted_shared a (read_rows a left)) (wanted-shares (read_rows a left) (rows-read left)) (λ t e. refl)
      (shares a.id part.row (bays_of a.n part.row (units_in a.n part.mask))) (begun part done)

  pub reads-commit : EachCommits a.n (read_steps a)
  reads-commit = rows-read a.parts no_rows

-- Units of a row
abbrev pub IsUnit : ℕ → ℕ → Type 0
IsUnit n unit = unit + 1 < n

one-less : (n unit : ℕ) → unit < n - 1 → IsUnit n unit
one-less n unit h = omega arith

all-are-units : (n : ℕ) → AllByRecursion (IsUnit n) (units n)
all-are-units n = all-weaken (λ (unit : ℕ). unit < n - 1) (IsUnit n) (one-less n) (units n) (units-all n)

some-are-units : (n mask : ℕ) → AllByRecursion (IsUnit n) (units_in n mask)
some-are-units n mask = all-filter (IsUnit n) (has_unit mask) (units n) (all-are-units n)

missing-are-units : (n : ℕ) (us : List ℕ) (os : List (Option Grant)) → AllByRecursion (IsUnit n) us → AllByRecursion (IsUnit n) (missing_units (zip us os))
missing-are-units n [] os all = tt
missing-are-units n (u ∷ us) [] all = tt
missing-are-units n (u ∷ us) (Some grant ∷ os) all = missing-are-units n us os all.1
missing-are-units n (u ∷ us) (None ∷ os) all = (all.0, missing-are-units n us os all.1)

missing-is-unit : (n : ℕ) (us : List ℕ) (os : List (Option Grant)) → AllByRecursion (IsUnit n) us → IfSome (missing_in (zip us os)) (IsUnit n)
missing-is-unit n [] os all = tt
missing-is-unit n (u ∷ us) [] all = tt
missing-is-unit n (u ∷ us) (Some grant ∷ os) all = missing-is-unit n us os all.1
missing-is-unit n (u ∷ us) (None ∷ os) all = all.0

-- Writes
module _ (a : Access) (least : 3 ≤ a.n) where
  write-releases-putless : (rows : List Row) → Putless a.n (write_releases a rows)
  write-releases-putless rows =
      all-flat (λ (e : Errand). PutCommits a.n e.bay e.request []) (λ (row : Row). releases a.id row.part.row None (write_holds a.mode a.n row))
      (λ row. releases-putless a.n a.id row.part.row None (write_holds a.mode a.n row)) rows

  readers-putless : (mode : Mode) (rows : List Row) → Putless a.n (reader_releases mode a rows)
  readers-putless Order rows = tt
  readers-putless Lock rows =
      all-flat (λ (e : Errand). PutCommits a.n e.bay e.request []) (λ (row : Row). releases a.id row.part.row None (bays_of a.n row.part.row (others_granted a.n row)))
      (λ row. releases-putless a.n a.id row.part.row None (bays_of a.n row.part.row (others_granted a.n row))) rows

  module _ (n : Number) where
    write-ends : (walk : Walk Puts) → EachPutCommits a.n (write_end a n walk)
    write-ends (Through puts) = tt
    write-ends (Stopped puts e r) = tt

    lasts : (rows : List Row) (puts : Puts) → EachPutCommits a.n (write_last a n rows puts)
    lasts rows puts = puts-quiet a.n (finishing a n) (write_end a n) write-ends (λ p e. refl) (reader_releases a.mode a rows) (readers-putless a.mode rows) puts

    -- the units that are left to the parity are units of the row
    module _ (rest : Puts → Steps Finish) (on : (puts : Puts) → EachPutCommits a.n (rest puts)) (row : Row) where
      abbrev Left : Puts → Type 0
      Left puts = AllByRecursion (IsUnit a.n) puts.left

      is-unit : (u : ℕ) → IsUnit a.n u → unit_of a row (data_put a n row u) ≡ u
      is-unit u below = ap (λ (o : Option ℕ). unwrap_or o 0) (unit_back a.n row.part.row u least (omega arith))

      left-kept : (puts : Puts) (u : ℕ) → IsUnit a.n u → Left puts → (end : PutEnd) → IfSome (data_put_by a row puts u end) Left
      left-kept puts u below left Made = left
      left-kept puts u below left Failed = tt
      left-kept puts u below left (Unnoted life) = one (life == granted_life a row u) where
        one : (b : Bool) → IfSome (cond b None (Some (with_left puts row.part u))) Left
        one true = tt
        one false = all-append (IsUnit a.n) puts.left (u ∷ []) left (below, tt)

      puts-unit : (u : ℕ) → IsUnit a.n u → (puts : Puts) → Left puts
          → PutCommits a.n (data_put a n row u).bay (data_put a n row u).request ((putting_data a n row).commits puts (data_put a n row u))
          × ((r : Reply) → IfSome ((putting_data a n row).step puts (data_put a n row u) r) Left)
      puts-unit u below puts left = (
        inl (u, below, refl, ap (λ (v : ℕ). unit_commit a row v ∷ []) (is-unit u below)),
        λ r. left-kept puts (unit_of a row (data_put a n row u)) (subst (IsUnit a.n) (sym (is-unit u below)) below) left (put_end r),
      )

      parity-ends : (walk : Walk Puts) → EachPutCommits a.n (parity_done row rest walk)
      parity-ends (Through puts) = on puts
      parity-ends (Stopped puts e r) = on (with_trouble puts (trouble_of row e r))

      parity-commits : (puts : Puts) → Left puts → CommitsRow a.n (parity_bay a.n row.part.row) row.part.row (map (unit_commit a row) (parity_units a row puts))
      parity-commits puts left = (
        refl,
        all-map (λ (c : Commit). (c.row ≡ row.part.row) × (c.unit + 1 < a.n)) (IsUnit a.n) (unit_commit a row) (λ u below. (refl, below)) (parity_units a row puts)
            (all-append (IsUnit a.n) (missing_units (zip (wanted_units a row) row.wanted)) puts.left
            (missing-are-units a.n (wanted_units a row) row.wanted (some-are-units a.n row.part.mask)) left),
      )

      parity-puts : (puts : Puts) → Left puts → (grant : Option Grant) → EachPutCommits a.n (put_parity a n row rest puts grant)
      parity-puts puts left None = on puts
      parity-puts puts left (Some grant) = (
        inr (parity-commits puts left),
        λ r. puts-go a.n (λ (b : Puts). Unit {0}) ((putting_parity a n row).step puts (parity_put a n row) r) (λ b. run (putting_parity a n row) [] b)
            (Ends (Stopped puts (parity_put a n row) r)) (parity_done row rest) (any ((putting_parity a n row).step puts (parity_put a n row) r)) (λ b u. parity-ends (Through b))
            (parity-ends (Stopped puts (parity_put a n row) r)),
      )

      data-puts : (us : List ℕ) → AllByRecursion (IsUnit a.n) us → (puts : Puts) → Left puts
          → EachPutCommits a.n (bind (run (putting_data a n row) (map (data_put a n row) us) puts) (data_done a n row rest))
      data-puts us all puts left =
          puts-run a.n Left (putting_data a n row) (data_done a n row rest) (λ b more. parity-puts b more row.parity) (λ b e r. on (with_trouble b (trouble_of row e r)))
          (map (data_put a n row) us)
          (all-map
          (λ (e : Errand). (b : Puts) → Left b → PutCommits a.n e.bay e.request ((putting_data a n row).commits b e) × ((r : Reply) → IfSome ((putting_data a n row).step b e r) Left))
          (IsUnit a.n) (data_put a n row) puts-unit us all) puts left

    rows-put : (all rows : List Row) (puts : Puts) → EachPutCommits a.n (put_rows a n (write_last a n all) rows puts)
    rows-put all [] puts = lasts all puts
    rows-put all (row ∷ rows) puts =
        data-puts (put_rows a n (write_last a n all) rows) (rows-put all rows) row (granted_of (zip (wanted_units a row) row.wanted))
        (all-granted (IsUnit a.n) (wanted_units a row) row.wanted (some-are-units a.n row.part.mask)) (at_row puts) tt

  write-refuses : (rows : List Row) (cause : Cause) → EachPutCommits a.n (refused_steps (write_releases a rows) cause)
  write-refuses rows cause =
      puts-quiet a.n releasing (end_as (ends.Refused cause)) (λ walk. tt) (λ u e. refl) (write_releases a rows) (write-releases-putless rows) tt

  write-drawn : (rows : List Row) (d : Result Number Spent) → EachPutCommits a.n (write_drawn a rows d)
  write-drawn rows (Err spent) = write-refuses rows (causes.Spent spent.seen)
  write-drawn rows (Ok n) = rows-put n rows rows no_puts

  write-numbers : (mode : Mode) (rows : List Row) → EachPutCommits a.n (write_numbered mode a rows)
  write-numbers Order rows = rows-put a.id rows rows no_puts
  write-numbers Lock rows = write-drawn rows

  row-confirms : (rows : List Row) (row : Row) (rest : Rows → Steps Finish) → ((done : Rows) → EachPutCommits a.n (rest done)) → (walk : Walk Rows)
      → EachPutCommits a.n (row_confirmed a rows row rest walk)
  row-confirms rows row rest on (Through done) = on done
  row-confirms rows row rest on (Stopped done e r) = write-refuses rows (confirm_cause a row done e r)

  write-stops : (taken : Taken) (e : Errand) (r : Reply) → EachPutCommits a.n (write_stopped a taken e r)
  write-stops taken e r = write-refuses (taken.before ++ taken.row ∷ []) (why (behind_from a.mode a.id) taken e r)

  module _ (rest : Rows → Steps Finish) (on : (rows : Rows) → EachPutCommits a.n (rest rows)) where
    row-claims : (walk : Walk Taken) → EachPutCommits a.n (row_claimed a rest walk)
    row-claims (Through taken) = on (row_ended taken)
    row-claims (Stopped taken e r) = write-stops taken e r

    wanted-putless : (want : Bool) (part : RowPart) → Putless a.n (wanted_claims a want part)
    wanted-putless want part = claims-putless a.n a.id part.row want (bays_of a.n part.row (units_in a.n part.mask))

    others-putless : (part : RowPart) → Putless a.n (other_shares a part)
    others-putless part = shares-putless a.n a.id part.row (bays_of a.n part.row (units_out a.n part.mask))

    wanted-claimed : (want : Bool) (taken : Taken) → EachPutCommits a.n (claim_wanted a rest want taken)
    wanted-claimed want taken =
        puts-quiet a.n (claiming a with_wanted) (row_claimed a rest) row-claims (λ t e. refl) (wanted_claims a want taken.row.part) (wanted-putless want taken.row.part) taken

    others-claimed : (taken : Taken) (lacking : Bool) → EachPutCommits a.n (share_others a rest taken lacking)
    others-claimed taken false = on (row_ended taken)
    others-claimed taken true =
        puts-quiet a.n (claiming a with_other) (row_claimed a rest) row-claims (λ t e. refl) (other_shares a taken.row.part) (others-putless taken.row.part) taken

    small-claims : (walk : Walk Taken) → EachPutCommits a.n (small_claimed a rest walk)
    small-claims (Stopped taken e r) = write-stops taken e r
    small-claims (Through taken) = others-claimed taken (lacks taken.row.wanted)

    share-stops : (taken : Taken) (bay : BayNo) (cause : Option Cause) → EachPutCommits a.n (share_stopped a rest taken bay cause)
    share-stops taken bay (Some cause) = write-refuses (taken.before ++ taken.row ∷ []) cause
    share-stops taken bay None = wanted-claimed true (with_grant with_other taken bay None)

    others-share : (walk : Walk Taken) → EachPutCommits a.n (others_shared a rest walk)
    others-share (Through taken) = wanted-claimed false taken
    others-share (Stopped taken e r) = share-stops taken e.bay (refusal (behind_from a.mode a.id) taken.missing e.bay r)

    row-begins : (taken : Taken) (grant : Option Grant) (plan : Plan) → EachPutCommits a.n (claim_row a rest taken grant plan)
    row-begins taken None plan = wanted-claimed false taken
    row-begins taken (Some grant) Full = wanted-claimed false taken
    row-begins taken (Some grant) Small =
        puts-quiet a.n (claiming a with_wanted) (small_claimed a rest) small-claims (λ t e. refl) (wanted_claims a true taken.row.part) (wanted-putless true taken.row.part) taken
    row-begins taken (Some grant) Reconstruct =
        puts-quiet a.n (taking_until with_other) (others_shared a rest) others-share (λ t e. refl) (other_shares a taken.row.part) (others-putless taken.row.part) taken

    parity-claims : (walk : Walk Taken) → EachPutCommits a.n (parity_claimed a rest walk)
    parity-claims (Stopped taken e r) = write-stops taken e r
    parity-claims (Through taken) = row-begins taken taken.row.parity (plan_of a taken.row.part)

  confirms : (rows left : List Row) (done : Rows) → EachPutCommits a.n (confirm_rows a rows left done)
  confirms rows [] done = write-numbers a.mode done.rows
  confirms rows (row ∷ left) done =
      puts-quiet a.n (confirming a row) (row_confirmed a rows row (confirm_rows a rows left))
      (row-confirms rows row (confirm_rows a rows left) (confirms rows left)) (λ t e. refl) (row_confirm a row ∷ []) (refl, tt) done

  rows-claimed : (left : List RowPart) (done : Rows) → EachPutCommits a.n (claim_rows a left done)
  rows-claimed [] done = confirms done.rows done.rows (record done { rows = [] })
  rows-claimed (part ∷ left) done =
      puts-quiet a.n (claiming a with_parity) (parity_claimed a (claim_rows a left)) (parity-claims (claim_rows a left) (rows-claimed left)) (λ t e. refl)
      (parity_claim a part ∷ []) (refl, tt) (begun part done)

  pub writes-put-commits : EachPutCommits a.n (write_steps a)
  writes-put-commits = rows-claimed a.parts no_rows

  pub writes-commit : EachCommits a.n (write_steps a)
  writes-commit = each-so a.n (write_steps a) writes-put-commits

-- Rebuilds
module _ (m : Repair) where
  mend-released : (holds : List Hold) (ended : Ended) → EachCommits m.n (released_steps (mend_releases m holds) ended)
  mend-released holds ended = released-so m.n (mend_releases m holds) ended

  mend-puts : (holds : List Hold) (walk : Walk (Unit {0})) → EachCommits m.n (mend_put m holds walk)
  mend-puts holds (Through u) = mend-released (without_target m holds) ends.Mended
  mend-puts holds (Stopped u e r) = mend-released holds (ends.Refused (put_cause m.row e r))

  mends-numbered : (holds : List Hold) (n : Number) (shown : Bool) → EachCommits m.n (mend_numbered m holds n shown)
  mends-numbered holds n true = mend-released holds ends.Mended
  mends-numbered holds n false = commits-quiet m.n mend_putting (mend_put m holds) (mend-puts holds) (λ u e. refl) (put m.id m.row n (mended_cell m holds) m.target ∷ []) tt

  mends-drawn : (holds : List Hold) (d : Result Number Spent) → EachCommits m.n (mend_drawn m holds d)
  mends-drawn holds (Err spent) = mend-released holds (ends.Refused (causes.Spent spent.seen))
  mends-drawn holds (Ok n) = mends-numbered holds n (is_shown m.target holds)

  mends-confirmed : (holds : List Hold) (walk : Walk (Unit {0})) → EachCommits m.n (mend_confirmed m holds walk)
  mends-confirmed holds (Stopped u e r) = mend-released holds (ends.Refused (mend_why e r (causes.Changed m.row)))
  mends-confirmed holds (Through u) = mends-drawn holds

  mends-claimed : (walk : Walk (List Hold)) → EachCommits m.n (mend_claimed m walk)
  mends-claimed (Stopped holds e r) = mend-released (with_hold holds e.bay (grant_of r)) (ends.Refused (mend_why e r (causes.Gone e.bay)))
  mends-claimed (Through holds) =
      commits-quiet m.n mend_confirming (mend_confirmed m holds) (mends-confirmed holds) (λ u e. refl) (confirm m.id m.row false (parity_bay m.n m.row) ∷ []) tt

  pub mends-commit : EachCommits m.n (mend_steps m)
  mends-commit = commits-quiet m.n (mending m) (mend_claimed m) mends-claimed (λ h e. refl) (claims m.id m.row Mend true (parity_first m.n m.row)) []

-- Recoveries
-- the unit that a verdict names lost is one of the row
abbrev NamesUnit : ℕ → Verdict → Type 0
NamesUnit n Leaves = Unit {0}
NamesUnit n (Sums lost) = IfSome lost (IsUnit n)

module _ (r : Rescue) where
  gives-back : (bays : List BayNo) (ended : Ended) → EachCommits r.n (released_steps (give_back r bays) ended)
  gives-back bays ended = released-so r.n (give_back r bays) ended

  recover-refuses : (row : Row) (cause : Cause) → EachCommits r.n (recover_refused r row cause)
  recover-refuses row cause = gives-back (unseized_data r row ++ unseized_parity r row.parity) (ends.Refused cause)

  recover-puts : (n : Number) (row : Row) (lost : Option ℕ) (walk : Walk (Unit {0})) → EachCommits r.n (recover_put r row n lost walk)
  recover-puts n row lost (Stopped u e reply) = gives-back (unseized_data r row) (ends.Refused (put_cause r.row e reply))
  recover-puts n row lost (Through u) =
      commits-quiet r.n (closing n lost) (end_as (ends.Recovered n true lost)) (λ walk. tt) (λ v e. refl) (give_back r (granted_data r row)) tt

  lost-commit : (lost : Option ℕ) → IfSome lost (IsUnit r.n) → AllByRecursion (λ (c : Commit). (c.row ≡ r.row) × (c.unit + 1 < r.n)) (lost_commits r lost)
  lost-commit None below = tt
  lost-commit (Some unit) below = ((refl, below), tt)

  recovers-by : (n : Number) (row : Row) (v : Verdict) → NamesUnit r.n v → EachCommits r.n (recover_by r row n v)
  recovers-by n row Leaves names = gives-back (granted_data r row ++ parity_granted r.n r.row row.parity) (ends.Recovered n true None)
  recovers-by n row (Sums lost) names =
      commits-run r.n (recover_putting r lost) (recover_put r row n lost) (recover-puts n row lost)
      (put r.id r.row n (recovered_parity row lost) (parity_bay r.n r.row) ∷ []) ((λ u. inr (inr (refl, lost-commit lost names))), tt) tt

  hole-names : (row : Row) (hole : Option ℕ) → IfSome hole (IsUnit r.n) → NamesUnit r.n (hole_verdict r row hole)
  hole-names row None below = tt
  hole-names row (Some unit) below = one (is_torn r row unit) where
    one : (b : Bool) → NamesUnit r.n (cond b (Sums (Some unit)) Leaves)
    one true = below
    one false = tt

  verdict-names : (row : Row) (grant : Option Grant) → NamesUnit r.n (verdict_of r row grant)
  verdict-names row None = tt
  verdict-names row (Some grant) = hole-names row (missing_in (zip (units r.n) row.wanted)) (missing-is-unit r.n (units r.n) row.wanted (all-are-units r.n))

  recovers-drawn : (row : Row) (d : Result Number Spent) → EachCommits r.n (recover_drawn r row d)
  recovers-drawn row (Err spent) = recover-refuses row (causes.Spent spent.seen)
  recovers-drawn row (Ok n) = recovers-by n row (verdict r row) (verdict-names row row.parity)

  recovers-confirmed : (taken : Taken) (walk : Walk (Unit {0})) → EachCommits r.n (recover_confirmed r taken walk)
  recovers-confirmed taken (Stopped u e reply) = recover-refuses taken.row _
  recovers-confirmed taken (Through u) = recovers-drawn taken.row

  seized : (walk : Walk Taken) → EachCommits r.n (units_seized r walk)
  seized (Stopped taken e reply) = recover-refuses taken.row (why None taken e reply)
  seized (Through taken) =
      commits-quiet r.n (recover_confirming taken) (recover_confirmed r taken) (recovers-confirmed taken) (λ u e. refl)
      (confirm r.id r.row false (parity_bay r.n r.row) ∷ []) tt

  seizes : (taken : Taken) → EachCommits r.n (seize_units r taken)
  seizes taken =
      commits-quiet r.n (taking None with_wanted) (units_seized r) seized (λ t e. refl) (claims r.id r.row Seize true (bays_of r.n r.row (units r.n))) taken

  lacking : (taken : Taken) (operator : Bool) → EachCommits r.n (if operator then seize_units r taken else recover_refused r taken.row (causes.Gone (parity_bay r.n r.row)))
  lacking taken true = seizes taken
  lacking taken false = recover-refuses taken.row (causes.Gone (parity_bay r.n r.row))

  takes-parity : (taken : Taken) (grant : Option Grant) → EachCommits r.n (parity_taken r taken grant)
  takes-parity taken (Some grant) = seizes taken
  takes-parity taken None = lacking taken (r.host.0 == 0)

  parity-seizes : (walk : Walk Taken) → EachCommits r.n (parity_seized r walk)
  parity-seizes (Stopped taken e reply) = recover-refuses taken.row (why None taken e reply)
  parity-seizes (Through taken) = takes-parity taken taken.row.parity

  pub recoveries-commit : EachCommits r.n (recover_steps r)
  recoveries-commit =
      commits-quiet r.n (taking None with_parity) (parity_seized r) parity-seizes (λ t e. refl) (claim r.id r.row Seize 0 true (parity_bay r.n r.row) ∷ [])
      (begun (whole_part r) no_rows)

module _ (script : Script) where
  read-commits : (id : Number) (r : Result (List RowPart) PartsFault) → EachCommits script.n (read_of script id r)
  read-commits id (Ok parts) = reads-commit (access script id parts [])
  read-commits id (Err fault) = tt

  write-puts : (id : Number) → 3 ≤ script.n → (blocks : List (List ℕ)) (r : Result (List RowPart) PartsFault) → EachPutCommits script.n (write_of script id blocks r)
  write-puts id least blocks (Ok parts) = writes-put-commits (access script id parts blocks) least
  write-puts id least blocks (Err fault) = tt

-- an attempt to write
pub attempt-put-commits : (script : Script) → IsScript script → (host : HostNo) (id : Number) (row : ℕ) (object : Name) (first from count : ℕ)
    → EachPutCommits script.n (attempt script host id row (tasks.Write object first from count))
attempt-put-commits script is host id row object first from count =
    write-puts script id is.devices_least (blocks_of script from count) (parts_of script object first count)

-- an attempt of a task
pub attempt-commits : (script : Script) → IsScript script → (host : HostNo) (id : Number) (row : ℕ) (task : Task) → IsTask script host task → EachCommits script.n (attempt script host id row task)
attempt-commits script is host id row (tasks.Read object first count) may = read-commits script id (parts_of script object first count)
attempt-commits script is host id row (tasks.Write object first from count) may =
    each-so script.n (attempt script host id row (tasks.Write object first from count)) (attempt-put-commits script is host id row object first from count)
attempt-commits script is host id row (tasks.Recover at) may = recoveries-commit (record { n = script.n; host = host; id = id; row = at })
attempt-commits script is host id row (tasks.Rebuild bay) may = mends-commit (record { n = script.n; id = id; row = record { 0 = row }; target = bay })
attempt-commits script is host id row (tasks.Lose bay) may = tt
attempt-commits script is host id row (tasks.Fit bay) may = tt
