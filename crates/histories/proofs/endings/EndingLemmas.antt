-- The jobs of a host end in order, and each read with its contents.
use Rattle.std.proofs.Common.{◌≡◌, ℕ, ◌+◌, ◌-◌, ◌≤◌, List, [], ◌∷◌, ◌++◌, length, take, drop, map, sum_by, Bool, true, false, Option, Some, None, Result, Ok, Err, refl, sym, ap, subst, ◌∙◌, arith, append-nil, append_assoc}
use Rattle.std.specs.List.{AllByRecursion}
use Rattle.std.proofs.lemmas.List.{map-append, length-map}
use Rattle.std.proofs.lemmas.List.Sums.{sum_by-cons}
use Rattle.std.proofs.lemmas.List.Elements.{recursion_from_All}
use Rattle.raid_base.specs.declared.numbers.BayNo.{BayNo}
use Rattle.raid_base.specs.declared.numbers.HostNo.{HostNo}
use Rattle.raid_base.specs.declared.numbers.RowNo.{RowNo}
use Rattle.raid_base.specs.declared.numbers.Number.{Number}
use Rattle.raid_base.specs.declared.numbers.Spent.{Spent}
use Rattle.raid_base.specs.declared.names.Name.{Name}
use Rattle.raid_base.specs.declared.cells.Content.{Content}
use Rattle.raid_base.specs.declared.messages.Call.{Call}
use Rattle.raid_base.specs.declared.messages.Reply.{Reply}
use Rattle.raid_base.specs.declared.jobs.Job.{Job}
use Rattle.raid_base.specs.declared.jobs.Task.{Task}
use Rattle.raid_base.specs.declared.jobs.Task.TheVariants as tasks
use Rattle.raid_base.specs.declared.jobs.RowPart.{RowPart}
use Rattle.raid_base.specs.declared.jobs.PartsFault.{PartsFault}
use Rattle.raid_base.specs.declared.jobs.PartsFault.TheVariants as faults
use Rattle.raid_base.specs.declared.jobs.Cause.{Cause}
use Rattle.raid_base.specs.declared.jobs.Cause.TheVariants as causes
use Rattle.raid_base.specs.declared.jobs.Ended.{Ended}
use Rattle.raid_base.specs.declared.jobs.Ended.TheVariants as ends
use Rattle.raid_base.specs.declared.jobs.JobEnd.{JobEnd}
use Rattle.raid_base.specs.declared.jobs.JobEnd.TheVariants as job_ends
use Rattle.raid_base.specs.Numbers.{draw, seen_drawn, sees}
use Rattle.raid_base.specs.Steps.{Steps, Asks, Draws, Ends, settled, told, behind}
use Rattle.stripe_layout.specs.Placement.{units_in}
use Rattle.virtual_objects.specs.Objects.{rows_of, parts_found}
use Rattle.virtual_objects.specs.RowParts.{IsPart, ArePartsOf}
use Rattle.virtual_objects.proofs.JobLemmas.{are_parts}
use Rattle.attempts.specs.Taking.{Finish}
use Rattle.attempts.specs.Finishes.{IsNoRead, Finishes, unit_count, IsReadEnd, GivesNone}
use Rattle.attempts.proofs.ReadFinishes.{reads_finish}
use Rattle.attempts.proofs.WriteFinishes.{writes_finish}
use Rattle.attempts.proofs.RepairFinishes.{mends_finish, recoveries_finish}
use Rattle.script_text.specs.Script.{Script, jobs_of, parts_of, blocks_of}
use Rattle.script_text.specs.Ranges.{IsScript}
use Rattle.histories.specs.declared.operator.Gone.{Gone}
use Rattle.histories.specs.Operator.{is_gone}
use Rattle.histories.specs.Plain.{task_count}
use Rattle.histories.specs.Bounds.{IsAimed}
use Rattle.histories.specs.Progress.{Ending, Work, Trying, Losing, Fitting, Over, Progress, endings_of, with_ending, next_job, access, attempt, read_of, write_of, try_with, one_more, try_task, parts_end, try_parts, lose_job, fit_job, rebuild_job, start_task, start_jobs, stops, go_on, job_ended, task_of, try_again, once_more, attempt_refused, next_row, row_mended, attempt_ended, quit_end, asks_on, steps_left, work_told, call_counted}
use Rattle.histories.specs.History.{if_taken, progress_at}
use Rattle.histories.specs.Endings.{contents_due, IsFilled, AreEndings, EndingsAreFilled}
use Rattle.histories.proofs.bounds.BoundsTakes.{before_start, script-aims}

-- Lists
all-append : {X : Type 0} (P : X → Type 0) (xs ys : List X) → AllByRecursion P xs → AllByRecursion P ys → AllByRecursion P (xs ++ ys)
all-append P [] ys h g = g
all-append P (x ∷ xs) ys h g = (h.0, all-append P xs ys h.1 g)

take-first : {X : Type 0} (xs ys zs : List X) → xs ++ ys ≡ zs → xs ≡ take (length xs) zs
take-first [] ys zs e = refl
take-first (x ∷ xs) ys [] e = absurd (cc)
take-first (x ∷ xs) ys (z ∷ zs) e =
    let head : x ≡ z = cc in
    let tail : xs ++ ys ≡ zs = cc in
    ap (λ (y : _). y ∷ xs) head ∙ ap (λ (ws : List _). z ∷ ws) (take-first xs ys zs tail)

-- the units of a part
units-counted : (n : ℕ) (parts : List RowPart) → AllByRecursion (IsPart n) parts → unit_count n parts ≡ sum_by (λ (part : RowPart). part.count) parts
units-counted n [] h = refl
units-counted n (part ∷ parts) h =
    omega (
      arith,
      sum_by-cons (λ (p : RowPart). length (units_in n p.mask)) part parts,
      sum_by-cons (λ (p : RowPart). p.count) part parts,
      (h.0).counted,
      units-counted n parts h.1,
    )

-- how an attempt of a task ends
abbrev pub IsTaskEnd : Task → Finish → Type 0
IsTaskEnd (tasks.Read object first count) f = IsReadEnd count f.contents f.ended
IsTaskEnd (tasks.Write object first from count) f = GivesNone f
IsTaskEnd (tasks.Recover row) f = GivesNone f
IsTaskEnd (tasks.Lose bay) f = GivesNone f
IsTaskEnd (tasks.Fit bay) f = GivesNone f
IsTaskEnd (tasks.Rebuild bay) f = GivesNone f

-- what is left once numbers were drawn, or a reply was told
settled-finishes : (Q : Finish → Type 0) (host : HostNo) (seen : Number) (s : Steps Finish) → Finishes Q s → Finishes Q (settled host seen s).steps
settled-finishes Q host seen (Asks e t c k) h = h
settled-finishes Q host seen (Draws k) h = settled-finishes Q host (seen_drawn seen (draw host seen)) (k (draw host seen)) (h (draw host seen))
settled-finishes Q host seen (Ends f) h = h

behind-finishes : (Q : Finish → Type 0) (s : Steps Finish) (r : Reply) → Finishes Q s → Finishes Q (behind s r)
behind-finishes Q (Asks e t c k) r h = h.1 r
behind-finishes Q (Draws k) r h = h
behind-finishes Q (Ends f) r h = h

none-due : (stop : Ended) (tries blocks : ℕ) → IsNoRead stop → 0 ≡ contents_due (quit_end tries stop) blocks
none-due (ends.Read n) tries blocks none = absurd none
none-due (ends.Wrote n) tries blocks none = refl
none-due (ends.Part n made cause) tries blocks none = refl
none-due (ends.Recovered n closed lost) tries blocks none = refl
none-due (ends.Refused cause) tries blocks none = refl
none-due ends.Mended tries blocks none = refl

module _ (script : Script) (is : IsScript script) (host : HostNo) where
  -- Attempts
  found-count : (object : Name) (first count : ℕ) (parts : List RowPart) → 1 ≤ count → (found : Option (List RowNo)) →
      rows_of script.objects object ≡ found → parts_found (script.n - 1) first count found ≡ Ok parts → unit_count script.n parts ≡ count
  found-count object first count parts some None none ok = absurd (cc)
  found-count object first count parts some (Some rows) found ok =
      let are : ArePartsOf script.n script.objects object first count parts =
      are_parts script.n first count script.objects object rows parts (let h = is.devices_least in omega arith) some found is.objects.rows_apart ok in
      units-counted script.n parts (recursion_from_All (IsPart script.n) parts are.sound.each) ∙ are.total

  read-ends : (id : Number) (object : Name) (first count : ℕ) → 1 ≤ count → (r : Result (List RowPart) PartsFault) → parts_of script object first count ≡ r →
      Finishes (λ (f : Finish). IsReadEnd count f.contents f.ended) (read_of script id r)
  read-ends id object first count some (Ok parts) ok =
      subst (λ (k : ℕ). Finishes (λ (f : Finish). IsReadEnd k f.contents f.ended) (read_of script id (Ok parts)))
      (found-count object first count parts some (rows_of script.objects object) refl ok) (reads_finish (access script id parts []))
  read-ends id object first count some (Err fault) ok = refl

  write-ends : (id : Number) (blocks : List (List ℕ)) (r : Result (List RowPart) PartsFault) → Finishes GivesNone (write_of script id blocks r)
  write-ends id blocks (Ok parts) = writes_finish (access script id parts blocks)
  write-ends id blocks (Err fault) = record { ended = tt; contents = refl }

  attempt-ends : (id : Number) (row : ℕ) (task : Task) → IsAimed script task → Finishes (IsTaskEnd task) (attempt script host id row task)
  attempt-ends id row (tasks.Read object first count) aim = read-ends id object first count aim (parts_of script object first count) refl
  attempt-ends id row (tasks.Write object first from count) aim = write-ends id (blocks_of script from count) (parts_of script object first count)
  attempt-ends id row (tasks.Recover at) aim = recoveries_finish (record { n = script.n; host = host; id = id; row = at })
  attempt-ends id row (tasks.Rebuild bay) aim = mends_finish (record { n = script.n; id = id; row = record { 0 = row }; target = bay })
  attempt-ends id row (tasks.Lose bay) aim = record { ended = tt; contents = refl }
  attempt-ends id row (tasks.Fit bay) aim = record { ended = tt; contents = refl }

  -- Where a host stands
  pub record Sound (p : Progress) : Type 0 where
    pub filled : AllByRecursion IsFilled p.endings
    pub aims : AllByRecursion (λ (job : Job). IsAimed script job.task) p.jobs
    pub order : map (λ (e : Ending). e.job) p.endings ++ p.jobs ≡ jobs_of script host

  abbrev pub FillsSteps : List Job → Steps Finish → Type 0
  FillsSteps [] steps = ⊥
  FillsSteps (job ∷ jobs) steps = Finishes (IsTaskEnd job.task) steps

  abbrev pub FillsWork : List Job → Work → Type 0
  FillsWork jobs (Trying steps) = FillsSteps jobs steps
  FillsWork jobs (Losing bay) = Unit {0}
  FillsWork jobs (Fitting bay) = Unit {0}
  FillsWork jobs Over = Unit {0}

  pub record Fills (p : Progress) : Type 0 where
    pub sound : Sound p
    pub work : FillsWork p.jobs p.work

  -- the contents that are due to the job in hand
  abbrev Due : List Job → JobEnd → List Content → Type 0
  Due [] e read = Unit {0}
  Due (job ∷ jobs) e read = length read ≡ contents_due e (task_count job.task)

  one-ended : (p : Progress) (e : JobEnd) (read : List Content) (js : List Job) → Due js e read → AllByRecursion IsFilled (endings_of js e read p)
  one-ended p e read [] due = tt
  one-ended p e read (job ∷ jobs) due = (due, tt)

  order-ended : (p : Progress) (e : JobEnd) (read : List Content) (before : List Ending) (js all : List Job) → map (λ (x : Ending). x.job) before ++ js ≡ all →
      map (λ (x : Ending). x.job) (before ++ endings_of js e read p) ++ drop 1 js ≡ all
  order-ended p e read before [] all order = ap (λ (xs : List Ending). map (λ (x : Ending). x.job) xs ++ []) (append-nil before) ∙ order
  order-ended p e read before (job ∷ jobs) all order =
      ap (λ (xs : List Job). xs ++ jobs) (map-append (λ (x : Ending). x.job) before (endings_of (job ∷ jobs) e read p))
      ∙ append_assoc (map (λ (x : Ending). x.job) before) (job ∷ []) jobs ∙ order

  rest-aims : (js : List Job) → AllByRecursion (λ (job : Job). IsAimed script job.task) js → AllByRecursion (λ (job : Job). IsAimed script job.task) (drop 1 js)
  rest-aims [] h = tt
  rest-aims (job ∷ jobs) h = h.1

  next-sound : (p : Progress) (e : JobEnd) (read : List Content) → Sound p → Due p.jobs e read → Sound (next_job (with_ending p e read))
  next-sound p e read s due = record {
    filled = all-append IsFilled p.endings (endings_of p.jobs e read p) s.filled (one-ended p e read p.jobs due);
    aims = rest-aims p.jobs s.aims;
    order = order-ended p e read p.endings p.jobs (jobs_of script host) s.order;
  }

  due-none : (js : List Job) (e : JobEnd) → ((blocks : ℕ) → 0 ≡ contents_due e blocks) → Due js e []
  due-none [] e none = tt
  due-none (job ∷ jobs) e none = none (task_count job.task)

  -- where it goes on with these jobs
  abbrev pub GoesOn : List Job → (Progress → Progress) → Type 0
  GoesOn jobs rest = (q : Progress) → q.jobs ≡ jobs → Sound q → Fills (rest q)

  module _ (rest : Progress → Progress) (job : Job) (jobs : List Job) (goes_on : GoesOn jobs rest) (p : Progress) (first : p.jobs ≡ job ∷ jobs) (s : Sound p) where
    skips : (q : Progress) (e : JobEnd) → q.jobs ≡ job ∷ jobs → Sound q → ((blocks : ℕ) → 0 ≡ contents_due e blocks) → Fills (rest (next_job (with_ending q e [])))
    skips q e same sound none = goes_on (next_job (with_ending q e [])) (ap (drop 1) same) (next-sound q e [] sound (due-none q.jobs e none))

    aim : IsAimed script job.task
    aim = (subst (AllByRecursion (λ (j : Job). IsAimed script j.task)) first s.aims).0

    tries-with : (d : Result Number Spent) → Fills (try_with script host job.task rest (one_more p) d)
    tries-with (Ok id) = record {
      sound = record { filled = s.filled; aims = s.aims; order = s.order };
      work = subst (λ (js : List Job). FillsSteps js (settled host id (attempt script host id p.row job.task)).steps) (sym first)
          (settled-finishes (IsTaskEnd job.task) host id (attempt script host id p.row job.task) (attempt-ends id p.row job.task aim));
    }
    tries-with (Err spent) =
        skips (one_more p) (job_ends.Gave (p.tries + 1) (causes.Spent spent.seen)) first (record { filled = s.filled; aims = s.aims; order = s.order }) (λ blocks. refl)

    pub tries : Fills (try_task script host job.task rest p)
    tries = tries-with (draw host p.seen)

    tries-as : (task : Task) → job.task ≡ task → Fills (try_task script host task rest p)
    tries-as task same = subst (λ (t : Task). Fills (try_task script host t rest p)) same tries

    parts-due : (fault : PartsFault) (blocks : ℕ) → 0 ≡ contents_due (parts_end fault) blocks
    parts-due faults.NoObject blocks = refl
    parts-due (faults.PastEnd end) blocks = refl
    parts-due (faults.TooManyRows rows) blocks = refl

    parts-begin : (task : Task) → job.task ≡ task → (r : Result (List RowPart) PartsFault) → Fills (try_parts script host task rest p r)
    parts-begin task same (Ok parts) = tries-as task same
    parts-begin task same (Err fault) = skips p (parts_end fault) first s (parts-due fault)

    asks-one : (work : Work) → ((js : List Job) → FillsWork js work) → Fills (record p { work = work })
    asks-one work any = record { sound = record { filled = s.filled; aims = s.aims; order = s.order }; work = any p.jobs }

    loses : (bay : BayNo) (gone : Option Gone) → Fills (lose_job rest p bay gone)
    loses bay None = asks-one (Losing bay) (λ js. tt)
    loses bay (Some gone) = skips p (job_ends.StillMissing gone.bay) first s (λ blocks. refl)

    fits-one : (bay : BayNo) (lost : Bool) → Fills (fit_job rest p bay lost)
    fits-one bay true = asks-one (Fitting bay) (λ js. tt)
    fits-one bay false = skips p (job_ends.NotLost bay) first s (λ blocks. refl)

    rebuilds : (bay : BayNo) → job.task ≡ tasks.Rebuild bay → (fitted : Bool) → Fills (rebuild_job script host rest p bay fitted)
    rebuilds bay same true = tries-as (tasks.Rebuild bay) same
    rebuilds bay same false = skips p (job_ends.NotFitted bay) first s (λ blocks. refl)

    starts-as : (task : Task) → job.task ≡ task → Fills (start_task script host rest p task)
    starts-as (tasks.Read object begin count) same = parts-begin (tasks.Read object begin count) same (parts_of script object begin count)
    starts-as (tasks.Write object begin from count) same = parts-begin (tasks.Write object begin from count) same (parts_of script object begin count)
    starts-as (tasks.Recover row) same = tries-as (tasks.Recover row) same
    starts-as (tasks.Lose bay) same = loses bay p.gone
    starts-as (tasks.Fit bay) same = fits-one bay (is_gone bay false p.gone)
    starts-as (tasks.Rebuild bay) same = rebuilds bay same (is_gone bay true p.gone)

    pub starts : Fills (start_task script host rest p job.task)
    starts = starts-as job.task refl

  pub start-fills : (jobs : List Job) → GoesOn jobs (start_jobs script host jobs)
  start-fills [] p none s = record { sound = record { filled = s.filled; aims = s.aims; order = s.order }; work = tt }
  start-fills (job ∷ jobs) p first s = starts (start_jobs script host jobs) job jobs (start-fills jobs) p first s

  -- A job ends
  on-fills : (q : Progress) (stopped : Bool) → (js : List Job) → js ≡ drop 1 q.jobs → Sound (next_job q) → Fills (go_on script host q stopped)
  on-fills q true js same s = record { sound = record { filled = s.filled; aims = s.aims; order = s.order }; work = tt }
  on-fills q false js same s = start-fills (drop 1 q.jobs) (next_job q) refl s

  ended-fills : (p : Progress) (e : JobEnd) (read : List Content) → Sound p → Due p.jobs e read → Fills (job_ended script host p e read)
  ended-fills p e read s due = on-fills (with_ending p e read) (stops p) (drop 1 p.jobs) refl (next-sound p e read s due)

  ended-none : (p : Progress) (e : JobEnd) → Sound p → ((blocks : ℕ) → 0 ≡ contents_due e blocks) → Fills (job_ended script host p e [])
  ended-none p e s none = ended-fills p e [] s (due-none p.jobs e none)

  again-fills : (p : Progress) (js : List Job) → p.jobs ≡ js → Sound p → Fills (try_again script host p (task_of js))
  again-fills p [] same s = record { sound = record { filled = s.filled; aims = s.aims; order = s.order }; work = tt }
  again-fills p (job ∷ jobs) same s =
      tries (start_jobs script host (drop 1 p.jobs)) job jobs
      (λ q left sound. start-fills (drop 1 p.jobs) q (left ∙ sym (ap (drop 1) same)) sound)
      p same s

  more-fills : (p later : Progress) → later.jobs ≡ p.jobs → Sound p → Sound later → (stopped : Bool) → Fills (once_more script host p later stopped)
  more-fills p later same s t true = ended-none p (job_ends.Gave p.tries causes.Quit) s (λ blocks. refl)
  more-fills p later same s t false = again-fills later p.jobs same t

  refused-fills : (p : Progress) (cause : Cause) → Sound p → (last : Bool) → Fills (attempt_refused script host p cause last)
  refused-fills p cause s true = ended-none p (job_ends.Gave p.tries cause) s (λ blocks. refl)
  refused-fills p cause s false = more-fills p p refl s s (stops p)

  mended-fills : (p : Progress) → Sound p → (last : Bool) → Fills (row_mended script host p last)
  mended-fills p s true = ended-none (record p { gone = None }) job_ends.Rebuilt (record { filled = s.filled; aims = s.aims; order = s.order }) (λ blocks. refl)
  mended-fills p s false = more-fills p (next_row p) refl s (record { filled = s.filled; aims = s.aims; order = s.order }) (stops p)

  -- an attempt of the job in hand ends
  read-due : (task : Task) (n : Number) (read : List Content) → IsTaskEnd task (record { ended = ends.Read n; contents = read }) → length read ≡ task_count task
  read-due (tasks.Read object first count) n read is_end = is_end
  read-due (tasks.Write object first from count) n read is_end = absurd is_end.ended
  read-due (tasks.Recover row) n read is_end = absurd is_end.ended
  read-due (tasks.Lose bay) n read is_end = absurd is_end.ended
  read-due (tasks.Fit bay) n read is_end = absurd is_end.ended
  read-due (tasks.Rebuild bay) n read is_end = absurd is_end.ended

  attempt-fills : (p : Progress) (job : Job) (jobs : List Job) → p.jobs ≡ job ∷ jobs → Sound p → (read : List Content) (ended : Ended) →
      IsTaskEnd job.task (record { ended = ended; contents = read }) → Fills (attempt_ended script host p read ended)
  attempt-fills p job jobs first s read (ends.Read n) is_end =
      ended-fills p (job_ends.Read n) read s (subst (λ (js : List Job). Due js (job_ends.Read n) read) (sym first) (read-due job.task n read is_end))
  attempt-fills p job jobs first s read (ends.Wrote n) is_end = ended-none p (job_ends.Wrote n) s (λ blocks. refl)
  attempt-fills p job jobs first s read (ends.Part n made cause) is_end = ended-none p (job_ends.Part n made cause) s (λ blocks. refl)
  attempt-fills p job jobs first s read (ends.Recovered n closed lost) is_end = ended-none p (job_ends.Recovered n closed lost) s (λ blocks. refl)
  attempt-fills p job jobs first s read (ends.Refused cause) is_end = refused-fills p cause s _
  attempt-fills p job jobs first s read ends.Mended is_end = mended-fills p s _

  stop-fills : (p : Progress) (stop : Ended) → Sound p → IsNoRead stop → Fills (record (next_job (with_ending p (quit_end p.tries stop) [])) { work = Over })
  stop-fills p stop s none =
      let t = next-sound p (quit_end p.tries stop) [] s (due-none p.jobs (quit_end p.tries stop) (λ blocks. none-due stop p.tries blocks none)) in
      record { sound = record { filled = t.filled; aims = t.aims; order = t.order }; work = tt }

  -- steps that are left
  left-fills : (p : Progress) → Sound p → (js : List Job) → p.jobs ≡ js → (steps : Steps Finish) → FillsSteps js steps → Fills (steps_left script host p steps)
  left-fills p s [] same steps f = absurd f
  left-fills p s (job ∷ jobs) same (Asks e t c k) f = go (stops p)
    where
      go : (stopped : Bool) → Fills (asks_on p (Asks e t c k) t stopped)
      go true = stop-fills p t s f.0
      go false = record {
        sound = record { filled = s.filled; aims = s.aims; order = s.order };
        work = subst (λ (xs : List Job). FillsSteps xs (Asks e t c k)) (sym same) f;
      }
  left-fills p s (job ∷ jobs) same (Draws k) f = record { sound = record { filled = s.filled; aims = s.aims; order = s.order }; work = tt }
  left-fills p s (job ∷ jobs) same (Ends finish) f = attempt-fills p job jobs same s finish.contents finish.ended f

  told-fills : (js : List Job) (seen : Number) (steps : Steps Finish) (r : Reply) → FillsSteps js steps → FillsSteps js (told host (record { seen = seen; steps = steps }) r).steps
  told-fills [] seen steps r f = absurd f
  told-fills (job ∷ jobs) seen steps r f = settled-finishes (IsTaskEnd job.task) host (sees seen r) (behind steps r) (behind-finishes (IsTaskEnd job.task) steps r f)

  work-fills : (p : Progress) (call : Call) (work : Work) → Sound p → FillsWork p.jobs work → p.work ≡ work → Fills (work_told script host (call_counted p call) call.answer.reply work)
  work-fills p call (Trying steps) s f same =
      left-fills (record (call_counted p call) { seen = (told host (record { seen = p.seen; steps = steps }) call.answer.reply).seen })
      (record { filled = s.filled; aims = s.aims; order = s.order }) p.jobs refl
      (told host (record { seen = p.seen; steps = steps }) call.answer.reply).steps (told-fills p.jobs p.seen steps call.answer.reply f)
  work-fills p call (Losing bay) s f same =
      ended-none (record (call_counted p call) { gone = Some (record { bay = bay; fitted = false }) }) job_ends.Lost (record { filled = s.filled; aims = s.aims; order = s.order }) (λ blocks. refl)
  work-fills p call (Fitting bay) s f same =
      ended-none (record (call_counted p call) { gone = Some (record { bay = bay; fitted = true }) }) job_ends.Fitted (record { filled = s.filled; aims = s.aims; order = s.order }) (λ blocks. refl)
  work-fills p call Over s f same = record {
    sound = record { filled = s.filled; aims = s.aims; order = s.order };
    work = subst (FillsWork p.jobs) (sym same) tt;
  }

  call-fills : (p : Progress) (call : Call) (own : Bool) → Fills p → Fills (if_taken script host p call own)
  call-fills p call true f = work-fills p call p.work f.sound f.work refl
  call-fills p call false f = f

  history-fills : (history : List Call) → Fills (progress_at script host history)
  history-fills [] = start-fills (jobs_of script host) (before_start script host) refl (record { filled = tt; aims = script-aims script host is; order = refl })
  history-fills (call ∷ earlier) = call-fills (progress_at script host earlier) call _ (history-fills earlier)

  are-endings : (p : Progress) → Fills p → AreEndings script host p.endings
  are-endings p f = record {
    jobs = take-first (map (λ (e : Ending). e.job) p.endings) p.jobs (jobs_of script host) f.sound.order
        ∙ ap (λ (k : ℕ). take k (jobs_of script host)) (length-map p.endings (λ (e : Ending). e.job));
    filled = f.sound.filled;
  }

pub endings_are_filled : EndingsAreFilled
endings_are_filled script history host is = are-endings script is host (progress_at script host history) (history-fills script is host history)
