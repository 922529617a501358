-- A result for want of an id comes with the draw for which no number was left.
use Rattle.std.proofs.Common.{◌≡◌, refl, sym, ap, subst, ◌∙◌, ◌+◌, ◌==◌, zero, suc, inl, inr, Bool, true, false, List, [], ◌∷◌, ◌++◌, drop, Contains, Option, Some, None, Result, Ok, Err, ok_or, arith, append-nil, append_assoc}
use Rattle.std.specs.Prelude.{IsNone}
use Rattle.std.specs.List.{AllByRecursion}
use Rattle.raid_base.specs.declared.numbers.BayNo.{BayNo}
use Rattle.raid_base.specs.declared.numbers.HostNo.{HostNo}
use Rattle.raid_base.specs.declared.numbers.Number.{Number}
use Rattle.raid_base.specs.declared.numbers.Spent.{Spent}
use Rattle.raid_base.specs.declared.cells.Content.{Content}
use Rattle.raid_base.specs.declared.messages.Call.{Call}
use Rattle.raid_base.specs.declared.jobs.Job.{Job}
use Rattle.raid_base.specs.declared.jobs.Task.{Task}
use Rattle.raid_base.specs.declared.jobs.Task.TheVariants as tasks
use Rattle.raid_base.specs.declared.jobs.RowPart.{RowPart}
use Rattle.raid_base.specs.declared.jobs.PartsFault.{PartsFault}
use Rattle.raid_base.specs.declared.jobs.PartsFault.TheVariants as faults
use Rattle.raid_base.specs.declared.jobs.Cause.{Cause}
use Rattle.raid_base.specs.declared.jobs.Cause.TheVariants as causes
use Rattle.raid_base.specs.declared.jobs.Ended.{Ended}
use Rattle.raid_base.specs.declared.jobs.Ended.TheVariants as ends
use Rattle.raid_base.specs.declared.jobs.JobEnd.{JobEnd}
use Rattle.raid_base.specs.declared.jobs.JobEnd.TheVariants as job_ends
use Rattle.raid_base.specs.Numbers.{next_number, draw}
use Rattle.raid_base.specs.Steps.{Steps, Asks, Draws, Ends, Standing, told}
use Rattle.attempts.specs.Taking.{Finish}
use Rattle.attempts.proofs.RoomLemmas.{all-append}
use Rattle.attempts.proofs.PhaseLemmas.{all-weaken}
use Rattle.script_text.specs.Script.{Script, jobs_of, parts_of}
use Rattle.histories.specs.declared.operator.Gone.{Gone}
use Rattle.histories.specs.Operator.{is_gone}
use Rattle.histories.specs.Progress.{Ending, Work, Trying, Losing, Fitting, Over, Progress, endings_of, with_ending, next_job, try_with, one_more, try_task, parts_end, try_parts, lose_job, fit_job, rebuild_job, start_task, start_jobs, stops, go_on, job_ended, task_of, try_again, once_more, attempt_refused, next_row, row_mended, attempt_ended, quit_end, asks_on, steps_left, work_told, call_counted, takes, at_start}
use Rattle.histories.specs.History.{if_taken, progress_at, endings_at}
use Rattle.histories.specs.Calls.{Sometime}
use Rattle.histories.specs.Causes.{ComesWith}
use Rattle.histories.proofs.bounds.BoundsTakes.{before_start}

-- Lists
no-first : {X : Type 0} {x : X} {xs : List X} → x ∷ xs ≡ [] → ⊥
no-first e = cc

-- what is so of each element is told with its place
all-contained : {X : Type 0} (P Q : X → Type 0) (xs : List X) → AllByRecursion P xs → ((x : X) → Contains xs x → P x → Q x) → AllByRecursion Q xs
all-contained P Q [] all f = tt
all-contained P Q (x ∷ xs) all f = (
  f x (zero, omega arith, refl) all.0,
  all-contained P Q xs all.1 (λ y at p. f y (suc at.0, omega (arith, at.1), at.2) p),
)

-- what a draw for which there is no number tells
spent-tells : (host : HostNo) (seen : Number) (spent : Spent) → draw host seen ≡ Err spent → (spent.seen ≡ seen) × IsNone (next_number host seen)
spent-tells host seen spent e = by (next_number host seen) refl e where
  by : (o : Option Number) → next_number host seen ≡ o → ok_or o (record { seen = seen }) ≡ Err spent → (spent.seen ≡ seen) × IsNone (next_number host seen)
  by (Some n) same e = absurd (cc)
  by None same e =
      let s : seen ≡ spent.seen = cc in
      (sym s, subst IsNone (sym same) refl)

drawn-some : (host : HostNo) (seen id : Number) → draw host seen ≡ Ok id → IsNone (next_number host seen) → ⊥
drawn-some host seen id e none = by (next_number host seen) none e where
  by : (o : Option Number) → IsNone o → ok_or o (let spent : Spent = record { seen = seen } in spent) ≡ Ok id → ⊥
  by (Some n) n_none same = let bad : true ≡ false = n_none in cc
  by None n_none same = cc

-- the number in a result for want of numbers
abbrev pub spent_in : Cause → Option Number
spent_in (causes.Spent seen) = Some seen
spent_in _ = None

abbrev pub spent_of : JobEnd → Option Number
spent_of (job_ends.Part n made cause) = spent_in cause
spent_of (job_ends.Gave tries cause) = spent_in cause
spent_of _ = None

-- a result for want of an id tells what the host has seen, above which no number is left
abbrev pub TellsSeen : HostNo → Number → Ending → Type 0
TellsSeen host now e = (seen : Number) → spent_of e.ended ≡ Some seen → e.calls ≡ [] → (seen ≡ now) × IsNone (next_number host seen)

parts-plain : (fault : PartsFault) → spent_of (parts_end fault) ≡ None
parts-plain faults.NoObject = refl
parts-plain (faults.PastEnd end) = refl
parts-plain (faults.TooManyRows rows) = refl

module _ (script : Script) (host : HostNo) where
  -- from one progress to a later one: such results are added, and where no number is left what is seen stays
  pub record Grows (q r : Progress) : Type 0 where
    pub new : List Ending
    pub longer : r.endings ≡ q.endings ++ new
    pub kept : IsNone (next_number host q.seen) → r.seen ≡ q.seen
    pub tells : AllByRecursion (TellsSeen host r.seen) new

  stays : (q r : Progress) → r.endings ≡ q.endings → r.seen ≡ q.seen → Grows q r
  stays q r same seen = record { new = []; longer = same ∙ sym (append-nil q.endings); kept = λ none. seen; tells = tt }

  from-same : (q p r : Progress) → q.endings ≡ p.endings → q.seen ≡ p.seen → Grows q r → Grows p r
  from-same q p r same seen g = record {
    new = g.new;
    longer = g.longer ∙ ap (λ (es : List Ending). es ++ g.new) same;
    kept = λ none. g.kept (subst (λ (n : Number). IsNone (next_number host n)) (sym seen) none) ∙ seen;
    tells = g.tells;
  }

  -- the job in hand has this result
  abbrev ending_as : Progress → JobEnd → List Content → Job → Ending
  ending_as q e read job = record { job = job; ended = e; contents = read; asked = q.asked; tries = q.tries; calls = q.calls }

  ended-grows : (q r : Progress) (e : JobEnd) (read : List Content) → ((job : Job) → TellsSeen host r.seen (ending_as q e read job)) → Grows (next_job (with_ending q e read)) r → Grows q r
  ended-grows q r e read tell g = record {
    new = endings_of q.jobs e read q ++ g.new;
    longer = g.longer ∙ append_assoc q.endings (endings_of q.jobs e read q) g.new;
    kept = g.kept;
    tells = all-append (TellsSeen host r.seen) (endings_of q.jobs e read q) g.new (one q.jobs) g.tells;
  } where
    one : (js : List Job) → AllByRecursion (TellsSeen host r.seen) (endings_of js e read q)
    one [] = tt
    one (job ∷ jobs) = (tell job, tt)

  plain-tells : (now : Number) (q : Progress) (e : JobEnd) (read : List Content) → spent_of e ≡ None → (job : Job) → TellsSeen host now (ending_as q e read job)
  plain-tells now q e read plain job seen spent bare = absurd (let bad : Some seen ≡ None = sym spent ∙ plain in cc)

  module _ (rest : Progress → Progress) (grows : (q : Progress) → Grows q (rest q)) (p : Progress) where
    skips : (e : JobEnd) → spent_of e ≡ None → Grows p (rest (next_job (with_ending p e [])))
    skips e plain =
        let r : Progress = rest (next_job (with_ending p e [])) in
        ended-grows p r e [] (plain-tells r.seen p e [] plain) (grows (next_job (with_ending p e [])))

    -- there is no id
    without-id : (spent : Spent) → draw host p.seen ≡ Err spent → Grows p (rest (next_job (with_ending (one_more p) (job_ends.Gave (p.tries + 1) (causes.Spent spent.seen)) [])))
    without-id spent e = from-same q p r refl refl (ended-grows q r gave [] tell g) where
      q : Progress
      q = one_more p

      gave : JobEnd
      gave = job_ends.Gave (p.tries + 1) (causes.Spent spent.seen)

      r : Progress
      r = rest (next_job (with_ending q gave []))

      g : Grows (next_job (with_ending q gave [])) r
      g = grows (next_job (with_ending q gave []))

      tells : (spent.seen ≡ p.seen) × IsNone (next_number host p.seen)
      tells = spent-tells host p.seen spent e

      tell : (job : Job) → TellsSeen host r.seen (ending_as q gave [] job)
      tell job seen same bare =
          let one : spent.seen ≡ seen = cc in
          (sym one ∙ tells.0 ∙ sym (g.kept tells.1), subst (λ (n : Number). IsNone (next_number host n)) (sym tells.0 ∙ one) tells.1)

    tries-with : (task : Task) (d : Result Number Spent) → draw host p.seen ≡ d → Grows p (try_with script host task rest (one_more p) d)
    tries-with task (Ok id) e = record { new = []; longer = sym (append-nil p.endings); kept = λ none. absurd (drawn-some host p.seen id e none); tells = tt }
    tries-with task (Err spent) e = without-id spent e

    tries : (task : Task) → Grows p (try_task script host task rest p)
    tries task = tries-with task (draw host p.seen) refl

    parts-grow : (task : Task) (r : Result (List RowPart) PartsFault) → Grows p (try_parts script host task rest p r)
    parts-grow task (Ok parts) = tries task
    parts-grow task (Err fault) = skips (parts_end fault) (parts-plain fault)

    loses-grow : (bay : BayNo) (gone : Option Gone) → Grows p (lose_job rest p bay gone)
    loses-grow bay None = stays p (record p { work = Losing bay }) refl refl
    loses-grow bay (Some gone) = skips (job_ends.StillMissing gone.bay) refl

    fits-grow : (bay : BayNo) (lost : Bool) → Grows p (fit_job rest p bay lost)
    fits-grow bay true = stays p (record p { work = Fitting bay }) refl refl
    fits-grow bay false = skips (job_ends.NotLost bay) refl

    rebuilds-grow : (bay : BayNo) (fitted : Bool) → Grows p (rebuild_job script host rest p bay fitted)
    rebuilds-grow bay true = tries (tasks.Rebuild bay)
    rebuilds-grow bay false = skips (job_ends.NotFitted bay) refl

    starts-grow : (task : Task) → Grows p (start_task script host rest p task)
    starts-grow (tasks.Read object first count) = parts-grow (tasks.Read object first count) (parts_of script object first count)
    starts-grow (tasks.Write object first from count) = parts-grow (tasks.Write object first from count) (parts_of script object first count)
    starts-grow (tasks.Recover row) = tries (tasks.Recover row)
    starts-grow (tasks.Lose bay) = loses-grow bay p.gone
    starts-grow (tasks.Fit bay) = fits-grow bay (is_gone bay false p.gone)
    starts-grow (tasks.Rebuild bay) = rebuilds-grow bay (is_gone bay true p.gone)

  jobs-grow : (jobs : List Job) (p : Progress) → Grows p (start_jobs script host jobs p)
  jobs-grow [] p = stays p (record p { work = Over }) refl refl
  jobs-grow (job ∷ jobs) p = starts-grow (start_jobs script host jobs) (jobs-grow jobs) p job.task

  -- A job ends
  on-grows : (q : Progress) (stopped : Bool) → Grows (next_job q) (go_on script host q stopped)
  on-grows q true = stays (next_job q) (record (next_job q) { work = Over }) refl refl
  on-grows q false = jobs-grow (drop 1 q.jobs) (next_job q)

  -- with calls of its attempt, so not for want of an id
  called-grows : (p : Progress) → (p.calls ≡ [] → ⊥) → (e : JobEnd) (read : List Content) → Grows p (job_ended script host p e read)
  called-grows p some e read = ended-grows p (job_ended script host p e read) e read (λ job seen spent bare. absurd (some bare)) (on-grows (with_ending p e read) (stops p))

  -- an attempt that has made calls goes on
  module _ (p : Progress) (some : p.calls ≡ [] → ⊥) where
    again : (later : Progress) → later.endings ≡ p.endings → later.seen ≡ p.seen → (o : Option Task) → Grows p (try_again script host later o)
    again later same seen None = stays p (record later { work = Over }) same seen
    again later same seen (Some task) =
        let rest : (Progress → Progress) = start_jobs script host (drop 1 later.jobs) in
        from-same later p (try_task script host task rest later) same seen (tries rest (jobs-grow (drop 1 later.jobs)) later task)

    more : (later : Progress) → later.endings ≡ p.endings → later.seen ≡ p.seen → (stopped : Bool) → Grows p (once_more script host p later stopped)
    more later same seen true = called-grows p some (job_ends.Gave p.tries causes.Quit) []
    more later same seen false = again later same seen (task_of p.jobs)

    refuses-grow : (cause : Cause) (last : Bool) → Grows p (attempt_refused script host p cause last)
    refuses-grow cause true = called-grows p some (job_ends.Gave p.tries cause) []
    refuses-grow cause false = more p refl refl (stops p)

    mends-grow : (last : Bool) → Grows p (row_mended script host p last)
    mends-grow true =
        let q : Progress = record p { gone = None } in
        from-same q p (job_ended script host q job_ends.Rebuilt []) refl refl (called-grows q some job_ends.Rebuilt [])
    mends-grow false = more (next_row p) refl refl (stops p)

    attempt-grows : (read : List Content) (ended : Ended) → Grows p (attempt_ended script host p read ended)
    attempt-grows read (ends.Read n) = called-grows p some (job_ends.Read n) read
    attempt-grows read (ends.Wrote n) = called-grows p some (job_ends.Wrote n) []
    attempt-grows read (ends.Part n made cause) = called-grows p some (job_ends.Part n made cause) []
    attempt-grows read (ends.Recovered n closed lost) = called-grows p some (job_ends.Recovered n closed lost) []
    attempt-grows read (ends.Refused cause) = refuses-grow cause _
    attempt-grows read ends.Mended = mends-grow _

    asks-grow : (steps : Steps Finish) (stop : Ended) (stopped : Bool) → Grows p (asks_on p steps stop stopped)
    asks-grow steps stop true =
        let e : JobEnd = quit_end p.tries stop in
        let q : Progress = next_job (with_ending p e []) in
        ended-grows p (record q { work = Over }) e [] (λ job seen spent bare. absurd (some bare)) (stays q (record q { work = Over }) refl refl)
    asks-grow steps stop false = stays p (record p { work = Trying steps }) refl refl

    left-grows : (steps : Steps Finish) → Grows p (steps_left script host p steps)
    left-grows (Asks e t c k) = asks-grow (Asks e t c k) t (stops p)
    left-grows (Draws k) = stays p (record p { work = Over }) refl refl
    left-grows (Ends finish) = attempt-grows finish.contents finish.ended

  -- Calls: what each adds
  record Adds (p r : Progress) : Type 0 where
    new : List Ending
    longer : r.endings ≡ p.endings ++ new
    tells : AllByRecursion (TellsSeen host r.seen) new

  adds : (q p r : Progress) → q.endings ≡ p.endings → Grows q r → Adds p r
  adds q p r same g = record { new = g.new; longer = g.longer ∙ ap (λ (es : List Ending). es ++ g.new) same; tells = g.tells }

  work-adds : (p : Progress) (call : Call) (work : Work) → Adds p (work_told script host (call_counted p call) call.answer.reply work)
  work-adds p call (Trying steps) =
      let now : Standing Finish = told host (record { seen = p.seen; steps = steps }) call.answer.reply in
      let q : Progress = record (call_counted p call) { seen = now.seen } in
      adds q p (steps_left script host q now.steps) refl (left-grows q no-first now.steps)
  work-adds p call (Losing bay) =
      let q : Progress = record (call_counted p call) { gone = Some (record { bay = bay; fitted = false }) } in
      adds q p (job_ended script host q job_ends.Lost []) refl (called-grows q no-first job_ends.Lost [])
  work-adds p call (Fitting bay) =
      let q : Progress = record (call_counted p call) { gone = Some (record { bay = bay; fitted = true }) } in
      adds q p (job_ended script host q job_ends.Fitted []) refl (called-grows q no-first job_ends.Fitted [])
  work-adds p call Over = record { new = []; longer = sym (append-nil p.endings); tells = tt }

  -- the result came when the host had seen this much
  abbrev pub IsIdDraw : Ending → Number → List Call → Type 0
  IsIdDraw e seen now = ComesWith script host e now × (seen ≡ (progress_at script host now).seen)

  abbrev pub IsIdDrawn : List Call → Ending → Type 0
  IsIdDrawn history e = (seen : Number) → spent_of e.ended ≡ Some seen → e.calls ≡ [] → IsNone (next_number host seen) × Sometime (IsIdDraw e seen) history

  later-drawn : (earlier : List Call) (call : Call) (e : Ending) → IsIdDrawn earlier e → IsIdDrawn (call ∷ earlier) e
  later-drawn earlier call e drawn seen spent bare = let d = drawn seen spent bare in (d.0, inr d.1)

  call-drawn : (earlier : List Call) (call : Call) → AllByRecursion (IsIdDrawn earlier) (progress_at script host earlier).endings
      → (own : Bool) → (call.ask.host.0 == host.0) ≡ own → AllByRecursion (IsIdDrawn (call ∷ earlier)) (if_taken script host (progress_at script host earlier) call own).endings
  call-drawn earlier call before false same =
      all-weaken (IsIdDrawn earlier) (IsIdDrawn (call ∷ earlier)) (later-drawn earlier call) (progress_at script host earlier).endings before
  call-drawn earlier call before true same = subst (AllByRecursion (IsIdDrawn (call ∷ earlier))) (sym a.longer) all where
    p : Progress
    p = progress_at script host earlier

    r : Progress
    r = takes script host p call

    a : Adds p r
    a = work-adds p call p.work

    now : progress_at script host (call ∷ earlier) ≡ r
    now = ap (if_taken script host p call) same

    all : AllByRecursion (IsIdDrawn (call ∷ earlier)) (p.endings ++ a.new)
    all =
        all-append (IsIdDrawn (call ∷ earlier)) p.endings a.new
        (all-weaken (IsIdDrawn earlier) (IsIdDrawn (call ∷ earlier)) (later-drawn earlier call) p.endings before)
        (all-contained (TellsSeen host r.seen) (IsIdDrawn (call ∷ earlier)) a.new a.tells
        (λ e at tell seen spent bare. let told = tell seen spent bare in
        (told.1, inl ((a.new, ap (λ (x : Progress). x.endings) now ∙ a.longer, at), told.0 ∙ sym (ap (λ (x : Progress). x.seen) now)))))

  pub ids-are-drawn : (history : List Call) → AllByRecursion (IsIdDrawn history) (endings_at script history host)
  ids-are-drawn [] = subst (AllByRecursion (IsIdDrawn [])) (sym g.longer) all where
    g : Grows (before_start script host) (at_start script host)
    g = jobs-grow (jobs_of script host) (before_start script host)

    all : AllByRecursion (IsIdDrawn []) g.new
    all =
        all-contained (TellsSeen host (at_start script host).seen) (IsIdDrawn []) g.new g.tells
        (λ e at tell seen spent bare. let told = tell seen spent bare in (told.1, (subst (λ (es : List Ending). Contains es e) (sym g.longer) at, told.0)))
  ids-are-drawn (call ∷ earlier) = call-drawn earlier call (ids-are-drawn earlier) (call.ask.host.0 == host.0) refl
