-- The attempt that a host has in hand, from its begin on: its task, its id, and the calls that led to where it stands.
use Rattle.std.proofs.Common.{◌≡◌, refl, sym, ap, subst, ◌∙◌, ℕ, ◌+◌, ◌<◌, ◌≤◌, ◌==◌, ◌||◌, Bool, true, false, List, [], ◌∷◌, drop, Option, Some, None, Result, Ok, Err, inl, inr, ◌⊎◌, map, find, cond, arith}
use Rattle.std.specs.Prelude.{IsOk}
use Rattle.std.specs.List.{AllByRecursion, All}
use Rattle.std.proofs.lemmas.List.Elements.{recursion_from_All}
use Rattle.std.proofs.lemmas.Bool.Decides.{nat_tests}
use Rattle.raid_base.specs.declared.numbers.BayNo.{BayNo}
use Rattle.raid_base.specs.declared.numbers.HostNo.{HostNo}
use Rattle.raid_base.specs.declared.numbers.Number.{Number}
use Rattle.raid_base.specs.declared.numbers.Spent.{Spent}
use Rattle.raid_base.specs.declared.cells.Content.{Content}
use Rattle.raid_base.specs.declared.messages.Call.{Call}
use Rattle.raid_base.specs.declared.messages.Ask.{Ask}
use Rattle.raid_base.specs.declared.messages.Errand.{Errand}
use Rattle.raid_base.specs.declared.jobs.Job.{Job}
use Rattle.raid_base.specs.declared.jobs.Task.{Task}
use Rattle.raid_base.specs.declared.jobs.Task.TheVariants as tasks
use Rattle.raid_base.specs.declared.jobs.RowPart.{RowPart}
use Rattle.raid_base.specs.declared.jobs.PartsFault.{PartsFault}
use Rattle.raid_base.specs.declared.jobs.Cause.{Cause}
use Rattle.raid_base.specs.declared.jobs.Cause.TheVariants as causes
use Rattle.raid_base.specs.declared.jobs.Ended.{Ended}
use Rattle.raid_base.specs.declared.jobs.Ended.TheVariants as ends
use Rattle.raid_base.specs.declared.jobs.JobEnd.{JobEnd}
use Rattle.raid_base.specs.declared.jobs.JobEnd.TheVariants as job_ends
use Rattle.raid_base.specs.Fits.{fits}
use Rattle.raid_base.specs.Numbers.{draw}
use Rattle.raid_base.specs.Replies.{is_fault}
use Rattle.raid_base.specs.Steps.{Steps, Asks, Draws, Ends, Standing, told, errand_of}
use Rattle.slot_rules.proofs.RuleLaws.{replies_fit_lem}
use Rattle.attempts.specs.Taking.{Finish}
use Rattle.attempts.proofs.NumberingLemmas.{draws-above}
use Rattle.script_text.specs.Script.{Script, HostJobs, jobs_in, jobs_of, parts_of}
use Rattle.script_text.specs.Ranges.{IsScript, IsTask, IsJob, Rise}
use Rattle.histories.specs.declared.operator.Gone.{Gone}
use Rattle.histories.specs.Operator.{is_gone}
use Rattle.histories.specs.Plain.{IsTried}
use Rattle.histories.specs.Progress.{Work, Trying, Losing, Fitting, Over, Progress, Sent, sent_by, work_errand, with_ending, next_job, try_with, one_more, try_task, parts_end, try_parts, lose_job, fit_job, rebuild_job, start_task, start_jobs, stops, go_on, job_ended, task_of, try_again, once_more, is_spent, attempt_refused, next_row, row_mended, attempt_ended, asks_on, steps_left, work_told, call_counted, takes}
use Rattle.histories.specs.History.{if_taken, progress_at, bay_at, IsNext, IsHistory}
use Rattle.histories.specs.Hands.{InHand, HasWork, IsInHand, HandsHoldAttempts}
use Rattle.histories.proofs.bounds.BoundsTakes.{before_start}

same-host : (a b : HostNo) → (a.0 == b.0) ≡ true → a ≡ b
same-host a b e = let same : a.0 ≡ b.0 = grind (arith, nat_tests) in ap (λ (k : ℕ). record { 0 = k }) same

abbrev pub AreTasks : Script → HostNo → List Job → Type 0
AreTasks script host jobs = AllByRecursion (λ (job : Job). IsTask script host job.task) jobs

pub record Attempting (script : Script) (host : HostNo) (p : Progress) : Type 0 where
  pub tasks : AreTasks script host p.jobs
  pub row : p.row < script.rows
  pub work : HasWork script host p.jobs p.row p.seen p.calls p.work

module _ (script : Script) (host : HostNo) (few : host.0 < 16) (rows : 1 ≤ script.rows) where
  pub record Fine (p : Progress) : Type 0 where
    pub tasks : AreTasks script host p.jobs
    pub row : p.row < script.rows

  rest-tasks : (jobs : List Job) → AreTasks script host jobs → AreTasks script host (drop 1 jobs)
  rest-tasks [] h = tt
  rest-tasks (job ∷ jobs) h = h.1

  next-fine : (p : Progress) (e : JobEnd) (read : List Content) → Fine p → Fine (next_job (with_ending p e read))
  next-fine p e read f = record { tasks = rest-tasks p.jobs f.tasks; row = omega (arith, rows) }

  -- the task in hand, and it may be tried
  pub record IsFirst (jobs : List Job) (task : Task) : Type 0 where
    pub first : task_of jobs ≡ Some task
    pub is : IsTask script host task

  abbrev GoesOn : List Job → (Progress → Progress) → Type 0
  GoesOn jobs rest = (q : Progress) → q.jobs ≡ jobs → Fine q → Attempting script host (rest q)

  idles : (p : Progress) (work : Work) → HasWork script host p.jobs p.row p.seen p.calls work → Fine p → Attempting script host (record p { work = work })
  idles p work w f = record { tasks = f.tasks; row = f.row; work = w }

  module _ (rest : Progress → Progress) (p : Progress) (jobs : List Job) (later : drop 1 p.jobs ≡ jobs) (goes_on : GoesOn jobs rest) (f : Fine p) where
    skips : (q : Progress) (e : JobEnd) → q.jobs ≡ p.jobs → Fine q → Attempting script host (rest (next_job (with_ending q e [])))
    skips q e same fine = goes_on (next_job (with_ending q e [])) (ap (drop 1) same ∙ later) (next-fine q e [] fine)

    tries-with : (task : Task) → IsFirst p.jobs task → IsTried script task → (d : Result Number Spent) → draw host p.seen ≡ d → Attempting script host (try_with script host task rest (one_more p) d)
    tries-with task here tried (Ok id) e =
        let h = draws-above host p.seen id few e in
        let above : p.seen.0 < id.0 = h.above in
        record {
          tasks = f.tasks;
          row = f.row;
          work = record { task = task; first = here.first; is = here.is; tried = tried; id = id; own = h.own; least = omega (arith, above); most = h.most; led = refl };
        }
    tries-with task here tried (Err spent) e = skips (one_more p) (job_ends.Gave (p.tries + 1) (causes.Spent spent.seen)) refl (record { tasks = f.tasks; row = f.row })

    tries : (task : Task) → IsFirst p.jobs task → IsTried script task → Attempting script host (try_task script host task rest p)
    tries task here tried = tries-with task here tried (draw host p.seen) refl

    parts-begin : (task : Task) → IsFirst p.jobs task → (r : Result (List RowPart) PartsFault) → (IsOk r → IsTried script task) → Attempting script host (try_parts script host task rest p r)
    parts-begin task here (Ok parts) tried = tries task here (tried refl)
    parts-begin task here (Err fault) tried = skips p (parts_end fault) refl f

    loses : (bay : BayNo) (gone : Option Gone) → Attempting script host (lose_job rest p bay gone)
    loses bay None = idles p (Losing bay) tt f
    loses bay (Some gone) = skips p (job_ends.StillMissing gone.bay) refl f

    fits-one : (bay : BayNo) (lost : Bool) → Attempting script host (fit_job rest p bay lost)
    fits-one bay true = idles p (Fitting bay) tt f
    fits-one bay false = skips p (job_ends.NotLost bay) refl f

    rebuilds : (bay : BayNo) → IsFirst p.jobs (tasks.Rebuild bay) → (fitted : Bool) → Attempting script host (rebuild_job script host rest p bay fitted)
    rebuilds bay here true = tries (tasks.Rebuild bay) here (here.is).1
    rebuilds bay here false = skips p (job_ends.NotFitted bay) refl f

    starts : (task : Task) → IsFirst p.jobs task → Attempting script host (start_task script host rest p task)
    starts (tasks.Read object first count) here = parts-begin (tasks.Read object first count) here (parts_of script object first count) (λ ok. ok)
    starts (tasks.Write object first from count) here = parts-begin (tasks.Write object first from count) here (parts_of script object first count) (λ ok. ok)
    starts (tasks.Recover row) here = tries (tasks.Recover row) here tt
    starts (tasks.Lose bay) here = loses bay p.gone
    starts (tasks.Fit bay) here = fits-one bay (is_gone bay false p.gone)
    starts (tasks.Rebuild bay) here = rebuilds bay here (is_gone bay true p.gone)

  pub jobs-attempt : (jobs : List Job) → GoesOn jobs (start_jobs script host jobs)
  jobs-attempt [] p same f = idles p Over tt f
  jobs-attempt (job ∷ jobs) p same f =
      starts (start_jobs script host jobs) p jobs (ap (drop 1) same) (jobs-attempt jobs) f job.task
      (record { first = ap task_of same; is = (subst (AreTasks script host) same f.tasks).0 })

  -- A job ends
  on-attempt : (q : Progress) (stopped : Bool) → Fine q → Attempting script host (go_on script host q stopped)
  on-attempt q true f = record { tasks = rest-tasks q.jobs f.tasks; row = omega (arith, rows); work = tt }
  on-attempt q false f = jobs-attempt (drop 1 q.jobs) (next_job q) refl (record { tasks = rest-tasks q.jobs f.tasks; row = omega (arith, rows) })

  ended-attempt : (p : Progress) (e : JobEnd) (read : List Content) → Fine p → Attempting script host (job_ended script host p e read)
  ended-attempt p e read f = on-attempt (with_ending p e read) (stops p) (record { tasks = f.tasks; row = f.row })

  module _ (p : Progress) (task : Task) (here : IsFirst p.jobs task) (tried : IsTried script task) (f : Fine p) where
    again-attempt : (later : Progress) → later.jobs ≡ p.jobs → Fine later → (o : Option Task) → task_of p.jobs ≡ o → Attempting script host (try_again script host later o)
    again-attempt later same fine None is = idles later Over tt fine
    again-attempt later same fine (Some found) is =
        let one : task ≡ found = (let both : Some task ≡ Some found = sym here.first ∙ is in cc) in
        let at : IsFirst later.jobs task = record { first = ap task_of same ∙ here.first; is = here.is } in
        subst (λ (t : Task). Attempting script host (try_again script host later (Some t))) one
        (tries (start_jobs script host (drop 1 later.jobs)) later (drop 1 later.jobs) refl (jobs-attempt (drop 1 later.jobs)) fine task at tried)

    more-attempt : (later : Progress) → later.jobs ≡ p.jobs → Fine later → (stopped : Bool) → Attempting script host (once_more script host p later stopped)
    more-attempt later same fine true = ended-attempt p (job_ends.Gave p.tries causes.Quit) [] f
    more-attempt later same fine false = again-attempt later same fine (task_of p.jobs) refl

    refused-attempt : (cause : Cause) (last : Bool) → Attempting script host (attempt_refused script host p cause last)
    refused-attempt cause true = ended-attempt p (job_ends.Gave p.tries cause) [] f
    refused-attempt cause false = more-attempt p refl f (stops p)

    mended-attempt : (last : Bool) → (p.row + 1 == script.rows) ≡ last → Attempting script host (row_mended script host p last)
    mended-attempt true e = ended-attempt (record p { gone = None }) job_ends.Rebuilt [] (record { tasks = f.tasks; row = f.row })
    mended-attempt false e =
        let below : p.row < script.rows = f.row in
        more-attempt (next_row p) refl (record { tasks = f.tasks; row = grind (arith, nat_tests) }) (stops p)

    attempt-attempt : (read : List Content) (ended : Ended) → Attempting script host (attempt_ended script host p read ended)
    attempt-attempt read (ends.Read n) = ended-attempt p (job_ends.Read n) read f
    attempt-attempt read (ends.Wrote n) = ended-attempt p (job_ends.Wrote n) [] f
    attempt-attempt read (ends.Part n made cause) = ended-attempt p (job_ends.Part n made cause) [] f
    attempt-attempt read (ends.Recovered n closed lost) = ended-attempt p (job_ends.Recovered n closed lost) [] f
    attempt-attempt read (ends.Refused cause) = refused-attempt cause ((p.tries == script.tries) || is_spent cause)
    attempt-attempt read ends.Mended = mended-attempt (p.row + 1 == script.rows) refl

  -- steps that are left
  asks-attempt : (p : Progress) (steps : Steps Finish) (stop : Ended) → Fine p → InHand script host p.jobs p.row p.seen p.calls steps → (stopped : Bool) → Attempting script host (asks_on p steps stop stopped)
  asks-attempt p steps stop f h true = record { tasks = rest-tasks p.jobs f.tasks; row = omega (arith, rows); work = tt }
  asks-attempt p steps stop f h false = idles p (Trying steps) h f

  left-attempt : (p : Progress) (steps : Steps Finish) → Fine p → InHand script host p.jobs p.row p.seen p.calls steps → Attempting script host (steps_left script host p steps)
  left-attempt p (Asks e t c k) f h = asks-attempt p (Asks e t c k) t f h (stops p)
  left-attempt p (Draws k) f h = idles p Over tt f
  left-attempt p (Ends finish) f h = attempt-attempt p h.task (record { first = h.first; is = h.is }) h.tried f finish.contents finish.ended

  -- a call of the host
  told-attempt : (p : Progress) (call : Call) (work : Work) → work_errand work ≡ Some (errand_of call) → fits call.ask.what call.answer.reply ≡ true → Fine p →
      HasWork script host p.jobs p.row p.seen p.calls work → Attempting script host (work_told script host (call_counted p call) call.answer.reply work)
  told-attempt p call (Trying steps) asked fit f w =
      let before : Standing Finish = record { seen = p.seen; steps = steps } in
      let now : Standing Finish = told host before call.answer.reply in
      left-attempt (record (call_counted p call) { seen = now.seen }) now.steps (record { tasks = f.tasks; row = f.row })
      (record {
        task = w.task;
        first = w.first;
        is = w.is;
        tried = w.tried;
        id = w.id;
        own = w.own;
        least = w.least;
        most = w.most;
        led = (before, w.led, asked, fit, refl);
      })
  told-attempt p call (Losing bay) asked fit f w = ended-attempt (record (call_counted p call) { gone = Some (record { bay = bay; fitted = false }) }) job_ends.Lost [] (record { tasks = f.tasks; row = f.row })
  told-attempt p call (Fitting bay) asked fit f w = ended-attempt (record (call_counted p call) { gone = Some (record { bay = bay; fitted = true }) }) job_ends.Fitted [] (record { tasks = f.tasks; row = f.row })
  told-attempt p call Over asked fit f w = absurd (cc)

  pub takes-attempt : (p : Progress) (call : Call) → work_errand p.work ≡ Some (errand_of call) → fits call.ask.what call.answer.reply ≡ true → Attempting script host p →
      Attempting script host (takes script host p call)
  takes-attempt p call asked fit s = told-attempt p call p.work asked fit (record { tasks = s.tasks; row = s.row }) s.work

-- A host of a script is below 16, and another one has no jobs
pub few-or-idle : (from : ℕ) (host : HostNo) (hosts : List HostJobs) → Rise from (map (λ (h : HostJobs). h.host) hosts) →
    (host.0 < 16) ⊎ (jobs_in (find (λ (h : HostJobs). h.host.0 == host.0) hosts) ≡ [])
few-or-idle from host [] rise = inr refl
few-or-idle from host (first ∷ hosts) rise = by (first.host.0 == host.0) refl (few-or-idle (first.host.0 + 1) host hosts rise.2)
  where
    by : (b : Bool) → (first.host.0 == host.0) ≡ b → (host.0 < 16) ⊎ (jobs_in (find (λ (h : HostJobs). h.host.0 == host.0) hosts) ≡ []) →
        (host.0 < 16) ⊎ (jobs_in (cond b (Some first) (find (λ (h : HostJobs). h.host.0 == host.0) hosts)) ≡ [])
    by true e rest = inl (let less : first.host.0 < 16 = rise.1 in let same : first.host.0 ≡ host.0 = grind (arith, nat_tests) in omega (arith, less, same))
    by false e rest = rest

module _ (script : Script) (host : HostNo) where
  idle-start : (jobs : List Job) → jobs ≡ [] → (start_jobs script host jobs (before_start script host)).work ≡ Over
  idle-start jobs none = subst (λ (js : List Job). (start_jobs script host js (before_start script host)).work ≡ Over) (sym none) refl

  idle-takes : (p : Progress) (call : Call) (own : Bool) → p.work ≡ Over → (if_taken script host p call own).work ≡ Over
  idle-takes p call true idle = subst (λ (w : Work). (work_told script host (call_counted p call) call.answer.reply w).work ≡ Over) (sym idle) idle
  idle-takes p call false idle = idle

  pub idle-history : (history : List Call) → jobs_of script host ≡ [] → (progress_at script host history).work ≡ Over
  idle-history [] none = idle-start (jobs_of script host) none
  idle-history (call ∷ earlier) none = idle-takes (progress_at script host earlier) call (call.ask.host.0 == host.0) (idle-history earlier none)

-- the jobs of a host of a script are its to do
job-tasks : (script : Script) (host : HostNo) (jobs : List Job) → AllByRecursion (IsJob script host) jobs → AreTasks script host jobs
job-tasks script host [] h = tt
job-tasks script host (job ∷ jobs) h = (h.0.task, job-tasks script host jobs h.1)

host-tasks : (script : Script) (host : HostNo) (hosts : List HostJobs) → AllByRecursion (λ (h : HostJobs). All (IsJob script h.host) h.jobs) hosts →
    AreTasks script host (jobs_in (find (λ (h : HostJobs). h.host.0 == host.0) hosts))
host-tasks script host [] h = tt
host-tasks script host (first ∷ hosts) h = by (first.host.0 == host.0) refl (host-tasks script host hosts h.1)
  where
    by : (b : Bool) → (first.host.0 == host.0) ≡ b → AreTasks script host (jobs_in (find (λ (x : HostJobs). x.host.0 == host.0) hosts)) →
        AreTasks script host (jobs_in (cond b (Some first) (find (λ (x : HostJobs). x.host.0 == host.0) hosts)))
    by true e rest =
        subst (λ (x : HostNo). AreTasks script x first.jobs) (same-host first.host host e)
        (job-tasks script first.host first.jobs (recursion_from_All (IsJob script first.host) first.jobs h.0))
    by false e rest = rest

-- the errand of a request that was sent
pub sent-errand : (host : HostNo) (clock moment : ℕ) (e : Option Errand) (bay : BayNo) (ask : Ask) → sent_by host clock moment e ≡ Some (record { bay = bay; ask = ask }) →
    e ≡ Some (record { bay = bay; request = ask.what })
sent-errand host clock moment None bay ask h = absurd (cc)
sent-errand host clock moment (Some errand) bay ask h =
    let same : record { bay = errand.bay; ask = record { host = host; clock = clock; moment = moment; what = errand.request } } ≡ record { bay = bay; ask = ask } = cc in
    ap (λ (s : Sent). Some (record { bay = s.bay; request = s.ask.what })) same

-- what is asked next, and that the reply fits
module _ (script : Script) (earlier : List Call) (call : Call) (next : IsNext script earlier call) where
  pub asked-errand : work_errand (progress_at script call.ask.host earlier).work ≡ Some (errand_of call)
  asked-errand =
      sent-errand call.ask.host (progress_at script call.ask.host earlier).clock call.ask.moment (work_errand (progress_at script call.ask.host earlier).work) call.bay call.ask next.asked

  pub own-errand : (host : HostNo) → (call.ask.host.0 == host.0) ≡ true → work_errand (progress_at script host earlier).work ≡ Some (errand_of call)
  own-errand host own = subst (λ (x : HostNo). work_errand (progress_at script x earlier).work ≡ Some (errand_of call)) (same-host call.ask.host host own) asked-errand

  pub reply-fits : fits call.ask.what call.answer.reply ≡ true
  reply-fits = ap (λ (c : Call). fits call.ask.what c.answer.reply) next.replied ∙ replies_fit_lem (bay_at script call.bay earlier) call.ask (is_fault call.answer.reply)

module _ (script : Script) (is : IsScript script) (host : HostNo) where
  script-tasks : AreTasks script host (jobs_of script host)
  script-tasks = host-tasks script host script.hosts (recursion_from_All (λ (h : HostJobs). All (IsJob script h.host) h.jobs) script.hosts is.jobs)

  pub attempt-at : host.0 < 16 → (history : List Call) → IsHistory script history → Attempting script host (progress_at script host history)
  attempt-at few [] h =
      jobs-attempt script host few is.rows_least (jobs_of script host) (before_start script host) refl (record { tasks = script-tasks; row = let rows = is.rows_least in omega (arith, rows) })
  attempt-at few (call ∷ earlier) h = by (call.ask.host.0 == host.0) refl (attempt-at few earlier h.0)
    where
      by : (b : Bool) → (call.ask.host.0 == host.0) ≡ b → Attempting script host (progress_at script host earlier) → Attempting script host (if_taken script host (progress_at script host earlier) call b)
      by true own s = takes-attempt script host few is.rows_least (progress_at script host earlier) call (own-errand script earlier call h.1 host own) (reply-fits script earlier call h.1) s
      by false own s = s

  over-work : (p : Progress) → p.work ≡ Over → IsInHand script host p
  over-work p over = subst (λ (w : Work). HasWork script host p.jobs p.row p.seen p.calls w) (sym over) tt

  pub hand-at : (history : List Call) → IsHistory script history → IsInHand script host (progress_at script host history)
  hand-at history h = by (few-or-idle 0 host script.hosts is.hosts)
    where
      by : (host.0 < 16) ⊎ (jobs_of script host ≡ []) → IsInHand script host (progress_at script host history)
      by (inl few) = (attempt-at few history h).work
      by (inr none) = over-work (progress_at script host history) (idle-history script host history none)

pub hands_hold_attempts : HandsHoldAttempts
hands_hold_attempts script history host is h = hand-at script is host history h
