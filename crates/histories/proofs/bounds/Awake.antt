-- A host that has not ended has a request to make.
use Rattle.std.proofs.Common.{◌≡◌, ℕ, ◌-◌, ◌<◌, ◌≤◌, ◌==◌, List, [], ◌∷◌, length, drop, Bool, true, false, Option, Some, None, Result, Ok, Err, refl, sym, ap, subst, arith}
use Rattle.std.specs.Prelude.{IsOk, IsSome}
use Rattle.std.specs.List.{AllByRecursion}
use Rattle.std.proofs.lemmas.List.Elements.{recursion_from_All}
use Rattle.raid_base.specs.declared.numbers.HostNo.{HostNo}
use Rattle.raid_base.specs.declared.numbers.RowNo.{RowNo}
use Rattle.raid_base.specs.declared.numbers.BayNo.{BayNo}
use Rattle.raid_base.specs.declared.numbers.Number.{Number}
use Rattle.raid_base.specs.declared.numbers.Spent.{Spent}
use Rattle.raid_base.specs.declared.names.Name.{Name}
use Rattle.raid_base.specs.declared.cells.Content.{Content}
use Rattle.raid_base.specs.declared.messages.Errand.{Errand}
use Rattle.raid_base.specs.declared.messages.Reply.{Reply}
use Rattle.raid_base.specs.declared.messages.Call.{Call}
use Rattle.raid_base.specs.declared.jobs.Job.{Job}
use Rattle.raid_base.specs.declared.jobs.Task.{Task}
use Rattle.raid_base.specs.declared.jobs.Task.TheVariants as tasks
use Rattle.raid_base.specs.declared.jobs.Cause.{Cause}
use Rattle.raid_base.specs.declared.jobs.Ended.{Ended}
use Rattle.raid_base.specs.declared.jobs.Ended.TheVariants as ends
use Rattle.raid_base.specs.declared.jobs.JobEnd.{JobEnd}
use Rattle.raid_base.specs.declared.jobs.RowPart.{RowPart}
use Rattle.raid_base.specs.declared.jobs.PartsFault.{PartsFault}
use Rattle.raid_base.specs.Numbers.{draw}
use Rattle.raid_base.specs.Steps.{Steps, Asks, Draws, Ends, settled, next_errand, draws}
use Rattle.stripe_layout.specs.Placement.{units_in}
use Rattle.virtual_objects.specs.Objects.{rows_of, parts_found}
use Rattle.virtual_objects.specs.RowParts.{IsPart, ArePartsOf}
use Rattle.virtual_objects.proofs.JobLemmas.{are_parts}
use Rattle.attempts.specs.Taking.{Access, Finish, Rows, no_rows}
use Rattle.attempts.specs.Reading.{read_rows}
use Rattle.script_text.specs.Script.{Script, jobs_of, parts_of, blocks_of}
use Rattle.script_text.specs.Ranges.{IsScript}
use Rattle.histories.specs.Progress.{Progress, Work, Trying, Losing, Fitting, Over, access, attempt, read_of, write_of, takes, asks, sent_by, work_errand, work_told, call_counted, steps_left, asks_on, attempt_ended, attempt_refused, is_over, once_more, try_again, task_of, job_ended, go_on, with_ending, next_job, start_jobs, start_task, try_parts, try_task, try_with, one_more, row_mended, next_row, lose_job, fit_job, rebuild_job, at_start}
use Rattle.histories.specs.History.{progress_at, if_taken, has_ended}
use Rattle.histories.specs.Asked.{AreAsked}
use Rattle.histories.specs.declared.operator.Gone.{Gone}
use Rattle.histories.specs.Operator.{is_gone}
use Rattle.histories.specs.Plain.{IsTried, FirstTried, task_parts}
use Rattle.histories.specs.Bounds.{IsAimed, Keeps, KeepsWork, KeepsSteps, IsPlayable}
use Rattle.histories.proofs.bounds.BoundsTakes.{before_start, script-aims}
use Rattle.histories.proofs.bounds.BoundsHistory.{requests_are_bounded}

-- a request comes next
abbrev pub IsAwake : Work → Type 0
IsAwake (Trying steps) = IsSome (next_errand steps)
IsAwake (Losing bay) = Unit {0}
IsAwake (Fitting bay) = Unit {0}
IsAwake Over = Unit {0}

first-share : (a : Access) (part : RowPart) (parts : List RowPart) (done : Rows) (host : HostNo) (seen : Number) (units : List ℕ) → units_in a.n part.mask ≡ units →
    1 ≤ length units → IsSome (next_errand (settled host seen (read_rows a (part ∷ parts) done)).steps)
first-share a part parts done host seen [] e some = absurd (omega arith)
first-share a part parts done host seen (unit ∷ units) e some = rw e refl

first-asks : (a : Access) (part : RowPart) (parts : List RowPart) (done : Rows) (units : List ℕ) → units_in a.n part.mask ≡ units → 1 ≤ length units →
    draws (read_rows a (part ∷ parts) done) ≡ false
first-asks a part parts done [] e some = absurd (omega arith)
first-asks a part parts done (unit ∷ units) e some = rw e refl

module _ (script : Script) (is : IsScript script) (host : HostNo) where
  read-awake : (id : Number) (parts : List RowPart) → 1 ≤ length parts → AllByRecursion (IsPart script.n) parts →
      IsSome (next_errand (settled host id (read_of script id (Ok parts))).steps)
  read-awake id [] some each = absurd (omega arith)
  read-awake id (part ∷ parts) some each =
      let here = each.0 in
      first-share (access script id (part ∷ parts) []) part parts no_rows host id (units_in script.n part.mask) refl (omega (arith, here.some, here.counted))

  write-awake : (id : Number) (parts : List RowPart) (blocks : List (List ℕ)) → 1 ≤ length parts →
      IsSome (next_errand (settled host id (write_of script id blocks (Ok parts))).steps)
  write-awake id [] blocks some = absurd (omega arith)
  write-awake id (part ∷ parts) blocks some = refl

  pub parts-some : (object : Name) (first count : ℕ) (parts : List RowPart) → 1 ≤ count → (found : Option (List RowNo)) → rows_of script.objects object ≡ found →
      parts_found (script.n - 1) first count found ≡ Ok parts → (1 ≤ length parts) × AllByRecursion (IsPart script.n) parts
  parts-some object first count parts some None none ok = absurd (cc)
  parts-some object first count parts some (Some rows) found ok =
      let are : ArePartsOf script.n script.objects object first count parts =
      are_parts script.n first count script.objects object rows parts (let h = is.devices_least in omega arith) some found is.objects.rows_apart ok in
      (are.sound.some, recursion_from_All (IsPart script.n) parts are.sound.each)

  -- an attempt that has parts does not begin with a draw
  pub read-asks : (id : Number) (parts : List RowPart) → 1 ≤ length parts → AllByRecursion (IsPart script.n) parts → draws (read_of script id (Ok parts)) ≡ false
  read-asks id [] some each = absurd (omega arith)
  read-asks id (part ∷ parts) some each =
      let here = each.0 in
      first-asks (access script id (part ∷ parts) []) part parts no_rows (units_in script.n part.mask) refl (omega (arith, here.some, here.counted))

  pub write-asks : (id : Number) (parts : List RowPart) (blocks : List (List ℕ)) → 1 ≤ length parts → draws (write_of script id blocks (Ok parts)) ≡ false
  write-asks id [] blocks some = absurd (omega arith)
  write-asks id (part ∷ parts) blocks some = refl

  read-starts : (id : Number) (object : Name) (first count : ℕ) → 1 ≤ count → (r : Result (List RowPart) PartsFault) → parts_of script object first count ≡ r → IsOk r →
      IsSome (next_errand (settled host id (read_of script id r)).steps)
  read-starts id object first count some (Ok parts) is_ok granted =
      let are = parts-some object first count parts some (rows_of script.objects object) refl is_ok in read-awake id parts are.0 are.1
  read-starts id object first count some (Err fault) is_ok granted = absurd (cc granted)

  write-starts : (id : Number) (object : Name) (first count : ℕ) (blocks : List (List ℕ)) → 1 ≤ count → (r : Result (List RowPart) PartsFault) →
      parts_of script object first count ≡ r → IsOk r → IsSome (next_errand (settled host id (write_of script id blocks r)).steps)
  write-starts id object first count blocks some (Ok parts) is_ok granted =
      let are = parts-some object first count parts some (rows_of script.objects object) refl is_ok in write-awake id parts blocks are.0
  write-starts id object first count blocks some (Err fault) is_ok granted = absurd (cc granted)

  attempt-starts : (id : Number) (row : ℕ) (task : Task) → IsAimed script task → IsTried script task →
      IsSome (next_errand (settled host id (attempt script host id row task)).steps)
  attempt-starts id row (tasks.Read object first count) aim tried = read-starts id object first count aim (parts_of script object first count) refl tried
  attempt-starts id row (tasks.Write object first from count) aim tried =
      write-starts id object first count (blocks_of script from count) aim (parts_of script object first count) refl tried
  attempt-starts id row (tasks.Recover at) aim tried = refl
  attempt-starts id row (tasks.Lose bay) aim tried = absurd tried
  attempt-starts id row (tasks.Fit bay) aim tried = absurd tried
  attempt-starts id row (tasks.Rebuild bay) aim tried = refl

  -- what goes on is awake
  GoesOn : (Progress → Progress) → Type 0
  GoesOn rest = (q : Progress) → IsAwake (rest q).work

  module _ (rest : Progress → Progress) (on : (q : Progress) → IsAwake (rest q).work) where
    with-awake : (task : Task) → IsAimed script task → IsTried script task → (p : Progress) (d : Result Number Spent) → IsAwake (try_with script host task rest p d).work
    with-awake task aim tried p (Ok id) = attempt-starts id p.row task aim tried
    with-awake task aim tried p (Err spent) = on _

    try-awake : (task : Task) → IsAimed script task → IsTried script task → (p : Progress) → IsAwake (try_task script host task rest p).work
    try-awake task aim tried p = with-awake task aim tried (one_more p) (draw host p.seen)

    parts-awake : (task : Task) → IsAimed script task → (IsOk (task_parts script task) → IsTried script task) → (p : Progress) (r : Result (List RowPart) PartsFault) →
        task_parts script task ≡ r → IsAwake (try_parts script host task rest p r).work
    parts-awake task aim tried p (Ok parts) e = try-awake task aim (tried (subst (λ (r : Result (List RowPart) PartsFault). IsOk r) (sym e) refl)) p
    parts-awake task aim tried p (Err fault) e = on _

    lose-awake : (p : Progress) (bay : BayNo) (gone : Option Gone) → IsAwake (lose_job rest p bay gone).work
    lose-awake p bay None = tt
    lose-awake p bay (Some gone) = on _

    fit-awake : (p : Progress) (bay : BayNo) (lost : Bool) → IsAwake (fit_job rest p bay lost).work
    fit-awake p bay true = tt
    fit-awake p bay false = on _

    rebuild-awake : (p : Progress) (bay : BayNo) → bay.0 < script.n → (fitted : Bool) → IsAwake (rebuild_job script host rest p bay fitted).work
    rebuild-awake p bay below true = try-awake (tasks.Rebuild bay) below below p
    rebuild-awake p bay below false = on _

    task-awake : (task : Task) → IsAimed script task → (p : Progress) → IsAwake (start_task script host rest p task).work
    task-awake (tasks.Read object first count) aim p = parts-awake (tasks.Read object first count) aim (λ ok. ok) p (parts_of script object first count) refl
    task-awake (tasks.Write object first from count) aim p = parts-awake (tasks.Write object first from count) aim (λ ok. ok) p (parts_of script object first count) refl
    task-awake (tasks.Recover at) aim p = try-awake (tasks.Recover at) aim tt p
    task-awake (tasks.Lose bay) aim p = lose-awake p bay p.gone
    task-awake (tasks.Fit bay) aim p = fit-awake p bay (is_gone bay false p.gone)
    task-awake (tasks.Rebuild bay) aim p = rebuild-awake p bay aim (is_gone bay true p.gone)

  -- jobs with aims
  AreAimed : List Job → Type 0
  AreAimed jobs = AllByRecursion (λ (job : Job). IsAimed script job.task) jobs

  jobs-awake : (jobs : List Job) → AreAimed jobs → (p : Progress) → IsAwake (start_jobs script host jobs p).work
  unfolding AreAimed
  jobs-awake [] aims p = tt
  jobs-awake (job ∷ jobs) aims p = task-awake (start_jobs script host jobs) (jobs-awake jobs aims.1) job.task aims.0 p

  rest-awake : (jobs : List Job) → AreAimed jobs → (p : Progress) → IsAwake (start_jobs script host (drop 1 jobs) p).work
  unfolding AreAimed
  rest-awake [] aims p = tt
  rest-awake (job ∷ jobs) aims p = jobs-awake jobs aims.1 p

  -- a host with an attempt in hand
  record InHand (jobs : List Job) : Type 0 where
    aims : AreAimed jobs
    tried : FirstTried script jobs

  on-awake : (p : Progress) → AreAimed p.jobs → (b : Bool) → IsAwake (go_on script host p b).work
  on-awake p aims true = tt
  on-awake p aims false = rest-awake p.jobs aims (next_job p)

  ended-awake : (p : Progress) → AreAimed p.jobs → (e : JobEnd) (read : List Content) → IsAwake (job_ended script host p e read).work
  ended-awake p aims e read = on-awake (with_ending p e read) aims _

  again-awake : (p : Progress) (jobs : List Job) → AreAimed p.jobs → InHand jobs → IsAwake (try_again script host p (task_of jobs)).work
  unfolding AreAimed
  again-awake p [] aims k = tt
  again-awake p (job ∷ jobs) aims k = try-awake (start_jobs script host (drop 1 p.jobs)) (rest-awake p.jobs aims) job.task k.aims.0 k.tried p

  more-awake : (p later : Progress) → InHand p.jobs → InHand later.jobs → (b : Bool) → IsAwake (once_more script host p later b).work
  more-awake p later h k true = ended-awake p h.aims _ []
  more-awake p later h k false = again-awake later p.jobs k.aims h

  refused-awake : (p : Progress) → InHand p.jobs → (cause : Cause) (b : Bool) → IsAwake (attempt_refused script host p cause b).work
  refused-awake p h cause true = ended-awake p h.aims _ []
  refused-awake p h cause false = more-awake p p h h _

  mended-awake : (p : Progress) → InHand p.jobs → (b : Bool) → IsAwake (row_mended script host p b).work
  mended-awake p h true = ended-awake (record p { gone = None }) h.aims _ []
  mended-awake p h false = more-awake p (next_row p) h h _

  attempt-awake : (p : Progress) → InHand p.jobs → (read : List Content) (e : Ended) → IsAwake (attempt_ended script host p read e).work
  attempt-awake p h read (ends.Read n) = ended-awake p h.aims _ read
  attempt-awake p h read (ends.Wrote n) = ended-awake p h.aims _ []
  attempt-awake p h read (ends.Part n made cause) = ended-awake p h.aims _ []
  attempt-awake p h read (ends.Recovered n closed lost) = ended-awake p h.aims _ []
  attempt-awake p h read ends.Mended = mended-awake p h _
  attempt-awake p h read (ends.Refused cause) = refused-awake p h cause _

  asks-on-awake : (p : Progress) (e : Errand) (stop : Ended) (c : _) (k : Reply → Steps Finish) (b : Bool) → IsAwake (asks_on p (Asks e stop c k) stop b).work
  asks-on-awake p e stop c k true = tt
  asks-on-awake p e stop c k false = refl

  left-awake : (p : Progress) → InHand p.jobs → (steps : Steps Finish) → IsAwake (steps_left script host p steps).work
  left-awake p h (Asks e stop c k) = asks-on-awake p e stop c k _
  left-awake p h (Draws k) = tt
  left-awake p h (Ends finish) = attempt-awake p h finish.contents finish.ended

  in-hand : (jobs : List Job) (row tries requests : ℕ) (steps : Steps Finish) → AreAimed jobs → KeepsSteps script jobs row tries requests steps → InHand jobs
  in-hand [] row tries requests steps aims k = absurd k
  in-hand (job ∷ jobs) row tries requests steps aims k = record { aims = aims; tried = k.1 }

  told-awake : (p : Progress) (call : Call) (requests contents : ℕ) → Keeps script p requests contents → (work : Work) → p.work ≡ work →
      KeepsWork script p.jobs p.row p.tries requests work → IsAwake (work_told script host (call_counted p call) call.answer.reply work).work
  unfolding AreAimed
  told-awake p call requests contents keeps (Trying steps) e k = left-awake _ (in-hand p.jobs p.row p.tries requests steps keeps.aims k) _
  told-awake p call requests contents keeps (Losing bay) e k = ended-awake _ keeps.aims _ []
  told-awake p call requests contents keeps (Fitting bay) e k = ended-awake _ keeps.aims _ []
  told-awake p call requests contents keeps Over e k = subst IsAwake (sym e) tt

  pub takes-awake : (p : Progress) (call : Call) (requests contents : ℕ) → Keeps script p requests contents → IsAwake (takes script host p call).work
  takes-awake p call requests contents keeps = told-awake p call requests contents keeps p.work refl keeps.work

  pub start-awake : IsAwake (at_start script host).work
  unfolding AreAimed
  start-awake = jobs-awake (jobs_of script host) (script-aims script host is) (before_start script host)

pub history-awake : (script : Script) (host : HostNo) (history : List Call) → IsPlayable script → AreAsked script history → IsAwake (progress_at script host history).work
history-awake script host [] is h = start-awake script is.ranges host
history-awake script host (call ∷ earlier) is h = by (call.ask.host.0 == host.0) (history-awake script host earlier is h.0)
  where
    by : (b : Bool) → IsAwake (progress_at script host earlier).work → IsAwake (if_taken script host (progress_at script host earlier) call b).work
    by true before = let k = requests_are_bounded script earlier is h.0 in takes-awake script is.ranges host (progress_at script host earlier) call _ _ (k.keeps host)
    by false before = before

-- whether it has ended is whether it asks
asks-some : (host : HostNo) (clock moment : ℕ) (o : Option Errand) → IsSome o → IsSome (sent_by host clock moment o)
asks-some host clock moment None some = absurd (cc some)
asks-some host clock moment (Some e) some = refl

pub work-asks : (work : Work) → IsAwake work → is_over work ≡ false → IsSome (work_errand work)
work-asks (Trying steps) awake over = awake
work-asks (Losing bay) awake over = refl
work-asks (Fitting bay) awake over = refl
work-asks Over awake over = absurd (cc)

pub asks-on : (script : Script) (host : HostNo) (history : List Call) (moment : ℕ) → IsPlayable script → AreAsked script history → has_ended script history host ≡ false →
    IsSome (asks host (progress_at script host history) moment)
asks-on script host history moment is h on =
    let p = progress_at script host history in
    asks-some host p.clock moment (work_errand p.work) (work-asks p.work (history-awake script host history is h) on)

over-asks : (work : Work) → is_over work ≡ true → work_errand work ≡ None
over-asks (Trying steps) over = absurd (cc)
over-asks (Losing bay) over = absurd (cc)
over-asks (Fitting bay) over = absurd (cc)
over-asks Over over = refl

pub asks-none : (script : Script) (host : HostNo) (history : List Call) (moment : ℕ) → has_ended script history host ≡ true → asks host (progress_at script host history) moment ≡ None
asks-none script host history moment over =
    let p = progress_at script host history in ap (sent_by host p.clock moment) (over-asks p.work over)
