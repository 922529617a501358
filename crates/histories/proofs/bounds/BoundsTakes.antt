-- A host that starts, and one that takes an answer, has room enough for what is left.
use Rattle.std.proofs.Common.{◌≡◌, ℕ, zero, suc, ◌+◌, ◌-◌, ◌*◌, ◌<◌, ◌≤◌, ◌==◌, List, [], ◌∷◌, length, drop, Bool, true, false, cond, ◌||◌, Option, Some, None, sum_by, refl, sym, ap, subst, ◌∙◌, arith}
use Rattle.std.specs.List.{AllByRecursion, All, find}
use Rattle.std.proofs.lemmas.List.Elements.{recursion_from_All}
use Rattle.std.proofs.lemmas.Bool.Decides.{nat_tests}
use Rattle.raid_base.specs.declared.numbers.HostNo.{HostNo}
use Rattle.raid_base.specs.declared.numbers.Number.{Number}
use Rattle.raid_base.specs.declared.cells.Content.{Content}
use Rattle.raid_base.specs.declared.messages.Errand.{Errand}
use Rattle.raid_base.specs.declared.messages.Reply.{Reply}
use Rattle.raid_base.specs.declared.messages.Request.TheVariants.{Lose, Fit}
use Rattle.raid_base.specs.declared.numbers.BayNo.{BayNo}
use Rattle.raid_base.specs.declared.messages.Call.{Call}
use Rattle.raid_base.specs.declared.jobs.Job.{Job}
use Rattle.raid_base.specs.declared.jobs.Task.{Task}
use Rattle.raid_base.specs.declared.jobs.Task.TheVariants as tasks
use Rattle.raid_base.specs.declared.jobs.Cause.{Cause}
use Rattle.raid_base.specs.declared.jobs.Cause.TheVariants as causes
use Rattle.raid_base.specs.declared.jobs.Ended.{Ended}
use Rattle.raid_base.specs.declared.jobs.Ended.TheVariants as ends
use Rattle.raid_base.specs.declared.jobs.JobEnd.{JobEnd}
use Rattle.raid_base.specs.declared.jobs.JobEnd.TheVariants as job_ends
use Rattle.raid_base.specs.Steps.{Steps, Asks, Draws, Ends, Standing, draws, told, next_errand, behind, errand_of}
use Rattle.raid_base.specs.Numbers.{number, sees}
use Rattle.attempts.specs.Taking.{Finish}
use Rattle.attempts.specs.Discipline.{IsWithin, IsPlainEnd, IsRecoveryEnd, Obeys}
use Rattle.script_text.specs.Script.{Script, HostJobs, jobs_in, jobs_of}
use Rattle.script_text.specs.Ranges.{IsScript, IsJob, IsTask}
use Rattle.histories.specs.Progress.{Progress, Sent, Work, Trying, Losing, Fitting, Over, at_start, takes, asks, sent_by, work_errand, work_told, call_counted, steps_left, asks_on, attempt_ended, attempt_refused, is_spent, once_more, try_again, row_mended, next_row, quit_end, task_of, job_ended, go_on, stops, with_ending, next_job, start_jobs}
use Rattle.histories.specs.Plain.{IsTried}
use Rattle.histories.specs.Bounds.{IsAimed, IsFinish, Keeps, KeepsWork, KeepsDevice, KeepsSteps, IsPlayable, rows_tried, job_contents, host_contents}
use Rattle.histories.proofs.bounds.BoundsTries.{settled-still, read-most}
use Rattle.histories.proofs.bounds.BoundsCounts.{told-obeys}
use Rattle.histories.proofs.bounds.BoundsMeasures.{Measure, job_most, host_most, StepsBy, DeviceBy, WorkBy, KeepsBy}
use Rattle.histories.proofs.bounds.BoundsStart.{Sound, AreEnough, ready-next, try-keeps, start-keeps}

-- neither of two tests
first-of-or : (a b : Bool) → (a || b) ≡ false → a ≡ false
first-of-or true b e = cc
first-of-or false b e = refl

-- only a rebuild mends
mends-rows : (script : Script) (task : Task) (f : Finish) → IsFinish script task f → f.ended ≡ ends.Mended → rows_tried script task ≡ script.rows
mends-rows script (tasks.Read object first count) f fine is = absurd (subst IsPlainEnd is fine.ended)
mends-rows script (tasks.Write object first from count) f fine is = absurd (subst IsPlainEnd is fine.ended)
mends-rows script (tasks.Recover row) f fine is = absurd (subst (IsRecoveryEnd script.n) is fine.ended)
mends-rows script (tasks.Lose bay) f fine is = absurd fine
mends-rows script (tasks.Fit bay) f fine is = absurd fine
mends-rows script (tasks.Rebuild bay) f fine is = refl

-- the next row and those after it
next-rows : (rows row k : ℕ) → row + 1 < rows → (rows - (row + 1)) * k ≡ k + (rows - (row + 1 + 1)) * k
next-rows rows row k less =
    let e : rows - (row + 1) ≡ (rows - (row + 1 + 1)) + 1 = omega arith in
    rw e (omega arith)

module _ (script : Script) (is : IsScript script) (m : Measure script) (host : HostNo) (contents : ℕ) where
  module _ (requests : ℕ) (job : Job) (jobs : List Job) where
    -- the job in hand ends
    on-keeps : (p : Progress) → p.jobs ≡ job ∷ jobs → Sound script is m host contents p → (e : JobEnd) (read : List Content) → length read ≤ job_contents job →
        sum_by (job_most script m) jobs ≤ requests → (stop : Bool) → KeepsBy script m (go_on script host (with_ending p e read) stop) requests contents
    on-keeps p is_first s e read few enough true =
        let r = (ready-next script is m host contents p requests e read job jobs is_first s few enough).sound in
        record { aims = r.aims; tries = r.tries; row = r.row; work = tt; reads = r.reads }
    on-keeps p is_first s e read few enough false =
        start-keeps script is m host contents requests (drop 1 p.jobs) (next_job (with_ending p e read)) refl
        (ready-next script is m host contents p requests e read job jobs is_first s few enough)

    pub ended-keeps : (p : Progress) → p.jobs ≡ job ∷ jobs → Sound script is m host contents p → (e : JobEnd) (read : List Content) → length read ≤ job_contents job →
        sum_by (job_most script m) jobs ≤ requests → KeepsBy script m (job_ended script host p e read) requests contents
    ended-keeps p is_first s e read few enough = on-keeps p is_first s e read few enough (stops p)

    -- another attempt of it begins
    again-keeps : (p : Progress) → p.jobs ≡ job ∷ jobs → Sound script is m host contents p → p.tries < script.tries → IsTried script job.task →
        AreEnough script is m host contents job jobs p.row p.tries requests → KeepsBy script m (try_again script host p (task_of p.jobs)) requests contents
    again-keeps p is_first s more tried enough =
        subst (λ (js : List Job). KeepsBy script m (try_again script host p (task_of js)) requests contents) (sym is_first)
        (try-keeps script is m host contents requests (start_jobs script host (drop 1 p.jobs)) job jobs
        (λ q left r. start-keeps script is m host contents requests (drop 1 p.jobs) q (left ∙ sym (ap (drop 1) is_first)) r)
        p is_first s more tried enough)

    module _ (p : Progress) (is_first : p.jobs ≡ job ∷ jobs) (s : Sound script is m host contents p) (tried : IsTried script job.task)
        (enough : AreEnough script is m host contents job jobs p.row p.tries requests) where
      gave-keeps : (cause : Cause) → KeepsBy script m (job_ended script host p (job_ends.Gave p.tries cause) []) requests contents
      gave-keeps cause = ended-keeps p is_first s (job_ends.Gave p.tries cause) [] (omega arith) (omega (arith, enough))

      more-keeps : p.tries < script.tries → (stop : Bool) → KeepsBy script m (once_more script host p p stop) requests contents
      more-keeps more true = gave-keeps causes.Quit
      more-keeps more false = again-keeps p is_first s more tried enough

      refused-keeps : (cause : Cause) (b : Bool) → ((p.tries == script.tries) || is_spent cause) ≡ b →
          KeepsBy script m (attempt_refused script host p cause b) requests contents
      refused-keeps cause true last = gave-keeps cause
      refused-keeps cause false last =
          let test : (p.tries == script.tries) ≡ false = first-of-or (p.tries == script.tries) (is_spent cause) last in
          let most = s.tries in
          let more : p.tries < script.tries = grind (arith, nat_tests) in
          more-keeps more (stops p)

      -- a row was mended, and there is a next one
      row-keeps : rows_tried script job.task ≡ script.rows → p.row + 1 < script.rows → (stop : Bool) → KeepsBy script m (once_more script host p (next_row p) stop) requests contents
      row-keeps rows more true = gave-keeps causes.Quit
      row-keeps rows more false =
          let least = is.tries_least in
          let split = next-rows (rows_tried script job.task) p.row (script.tries * m.each job.task) (omega (arith, rows, more)) in
          let all : AreEnough script is m host contents job jobs (p.row + 1) 0 requests = let e : script.tries - 0 ≡ script.tries = omega arith in rw e (omega (arith, split, enough)) in
          again-keeps (next_row p) is_first (record { aims = s.aims; tries = omega arith; row = more; reads = s.reads }) (omega (arith, least)) tried all

      mended-keeps : rows_tried script job.task ≡ script.rows → (last : Bool) → (p.row + 1 == script.rows) ≡ last → KeepsBy script m (row_mended script host p last) requests contents
      mended-keeps rows true is_last =
          ended-keeps (record p { gone = None }) is_first (record { aims = s.aims; tries = s.tries; row = s.row; reads = s.reads }) job_ends.Rebuilt [] (omega arith) (omega (arith, enough))
      mended-keeps rows false is_last =
          let below = s.row in
          let more : p.row + 1 < script.rows = grind (arith, nat_tests) in
          row-keeps rows more (stops p)

      -- the attempt in hand has ended
      attempt-ends : (read : List Content) (e : Ended) → length read ≤ job_contents job → (e ≡ ends.Mended → rows_tried script job.task ≡ script.rows) →
          KeepsBy script m (attempt_ended script host p read e) requests contents
      attempt-ends read (ends.Read n) few mends = ended-keeps p is_first s (job_ends.Read n) read few (omega (arith, enough))
      attempt-ends read (ends.Wrote n) few mends = ended-keeps p is_first s (job_ends.Wrote n) [] (omega arith) (omega (arith, enough))
      attempt-ends read (ends.Part n made cause) few mends = ended-keeps p is_first s (job_ends.Part n made cause) [] (omega arith) (omega (arith, enough))
      attempt-ends read (ends.Recovered n closed lost) few mends = ended-keeps p is_first s (job_ends.Recovered n closed lost) [] (omega arith) (omega (arith, enough))
      attempt-ends read ends.Mended few mends = mended-keeps (mends refl) (p.row + 1 == script.rows) refl
      attempt-ends read (ends.Refused cause) few mends = refused-keeps cause ((p.tries == script.tries) || is_spent cause) refl

  -- steps that are left
  asks-keeps : (requests : ℕ) (p : Progress) → Sound script is m host contents p → (steps : Steps Finish) (e : Ended) → StepsBy script m p.jobs p.row p.tries requests steps →
      (stop : Bool) → KeepsBy script m (asks_on p steps e stop) requests contents
  asks-keeps requests p s steps e kept true = by p.jobs refl kept
    where
      by : (js : List Job) → p.jobs ≡ js → StepsBy script m js p.row p.tries requests steps → KeepsBy script m (asks_on p steps e true) requests contents
      by [] is_first k = absurd k
      by (job ∷ jobs) is_first k = on-keeps requests job jobs p is_first s (quit_end p.tries e) [] (omega arith) (omega (arith, k.3)) true
  asks-keeps requests p s steps e kept false = record { aims = s.aims; tries = s.tries; row = s.row; work = kept; reads = s.reads }

  left-keeps : (requests : ℕ) (p : Progress) → Sound script is m host contents p → (steps : Steps Finish) → draws steps ≡ false →
      StepsBy script m p.jobs p.row p.tries requests steps → KeepsBy script m (steps_left script host p steps) requests contents
  left-keeps requests p s (Asks e t c k) still kept = asks-keeps requests p s (Asks e t c k) t kept (stops p)
  left-keeps requests p s (Draws k) still kept = absurd (cc)
  left-keeps requests p s (Ends f) still kept = by p.jobs refl kept
    where
      by : (js : List Job) → p.jobs ≡ js → StepsBy script m js p.row p.tries requests (Ends f) → KeepsBy script m (attempt_ended script host p f.contents f.ended) requests contents
      by [] e k = absurd k
      by (job ∷ jobs) e k = attempt-ends requests job jobs p e s k.1 (omega (arith, k.3)) f.contents f.ended (read-most script job.task f k.2) (mends-rows script job.task f k.2)

  -- a reply takes what its errand counts
  steps-told : (requests row tries : ℕ) (seen : Number) (steps : Steps Finish) (e : Errand) (reply : Reply) (jobs : List Job) → StepsBy script m jobs row tries requests steps →
      next_errand steps ≡ Some e → (m.count e ≤ requests) × StepsBy script m jobs row tries (requests - m.count e) (told host (record { seen = seen; steps = steps }) reply).steps
  steps-told requests row tries seen steps e reply [] k asked = absurd k
  steps-told requests row tries seen steps e reply (job ∷ jobs) k asked =
      let less = told-obeys (IsWithin script.n script.rows) (IsFinish script job.task) m.count host k.0 seen steps e reply k.2 asked in
      let one = less.0 in
      let most = k.3 in
      (omega arith, (k.0 - m.count e, k.1, less.1, omega arith))

  -- a device is lost or fitted
  device-told : (requests : ℕ) (p : Progress) (errand : Errand) (e : JobEnd) → Sound script is m host contents p → (js : List Job) → p.jobs ≡ js → DeviceBy script m js requests errand →
      (m.count errand ≤ requests) × KeepsBy script m (job_ended script host p e []) (requests - m.count errand) contents
  device-told requests p errand e s [] is_first k = absurd k
  device-told requests p errand e s (job ∷ jobs) is_first k =
      (omega (arith, k.1), ended-keeps (requests - m.count errand) job jobs p is_first s e [] (omega arith) (omega (arith, k.1)))

  work-keeps : (requests : ℕ) (p : Progress) (call : Call) (e : Errand) → Sound script is m host contents p → (work : Work) → WorkBy script m p.jobs p.row p.tries requests work →
      work_errand work ≡ Some e → (m.count e ≤ requests) × KeepsBy script m (work_told script host (call_counted p call) call.answer.reply work) (requests - m.count e) contents
  work-keeps requests p call e s (Trying steps) kept asked =
      let now : Standing Finish = told host (record { seen = p.seen; steps = steps }) call.answer.reply in
      let next = steps-told requests p.row p.tries p.seen steps e call.answer.reply p.jobs kept asked in
      let counted : Progress = call_counted p call in (
        next.0,
        left-keeps (requests - m.count e) (record counted { seen = now.seen })
            (record { aims = s.aims; tries = s.tries; row = s.row; reads = s.reads })
            now.steps (settled-still host (sees p.seen call.answer.reply) (behind steps call.answer.reply)) next.1,
      )
  work-keeps requests p call e s (Losing bay) kept asked =
      let counted : Progress = call_counted p call in
      let after : Progress = record counted { gone = Some (record { bay = bay; fitted = false }) } in
      let errand : Errand = record { bay = bay; request = Lose } in
      let same : errand ≡ e = cc in
      subst (λ (x : Errand). (m.count x ≤ requests) × KeepsBy script m (job_ended script host after job_ends.Lost []) (requests - m.count x) contents) same
      (device-told requests after errand job_ends.Lost (record { aims = s.aims; tries = s.tries; row = s.row; reads = s.reads }) p.jobs refl kept)
  work-keeps requests p call e s (Fitting bay) kept asked =
      let counted : Progress = call_counted p call in
      let after : Progress = record counted { gone = Some (record { bay = bay; fitted = true }) } in
      let errand : Errand = record { bay = bay; request = Fit } in
      let same : errand ≡ e = cc in
      subst (λ (x : Errand). (m.count x ≤ requests) × KeepsBy script m (job_ended script host after job_ends.Fitted []) (requests - m.count x) contents) same
      (device-told requests after errand job_ends.Fitted (record { aims = s.aims; tries = s.tries; row = s.row; reads = s.reads }) p.jobs refl kept)
  work-keeps requests p call e s Over kept asked = absurd (cc)

-- what is sent is an errand of the work in hand
pub sent-errand : (host : HostNo) (clock moment : ℕ) (o : Option Errand) (sent : Sent) → sent_by host clock moment o ≡ Some sent →
    (e : Errand) × (o ≡ Some e) × (e ≡ record { bay = sent.bay; request = sent.ask.what }) × (sent.ask.clock ≡ clock)
sent-errand host clock moment None sent e = absurd (cc)
sent-errand host clock moment (Some errand) sent e =
    let same : record { bay = errand.bay; ask = record { host = host; clock = clock; moment = moment; what = errand.request } } ≡ sent = cc in
    (errand, refl, ap (λ (x : Sent). record { bay = x.bay; request = x.ask.what }) same, sym (ap (λ (x : Sent). x.ask.clock) same))

-- A host takes an answer, whatever it is.
pub keeps-takes : (script : Script) (m : Measure script) (host : HostNo) (p : Progress) (requests contents moment : ℕ) (call : Call) → IsScript script →
    KeepsBy script m p requests contents → asks host p moment ≡ Some (record { bay = call.bay; ask = call.ask }) →
    (m.count (errand_of call) ≤ requests) × KeepsBy script m (takes script host p call) (requests - m.count (errand_of call)) contents
keeps-takes script m host p requests contents moment call is k asked =
    let e = sent-errand host p.clock moment (work_errand p.work) (record { bay = call.bay; ask = call.ask }) asked in
    let taken = work-keeps script is m host contents requests p call e.0
    (record { aims = k.aims; tries = k.tries; row = k.row; reads = k.reads }) p.work k.work e.1 in
    subst (λ (x : Errand). (m.count x ≤ requests) × KeepsBy script m (takes script host p call) (requests - m.count x) contents) e.2 taken

-- What a host asks is within the array.
errand-within : (script : Script) (row tries requests : ℕ) (e : Errand) (jobs : List Job) (steps : Steps Finish) → KeepsSteps script jobs row tries requests steps →
    next_errand steps ≡ Some e → IsWithin script.n script.rows e
errand-within script row tries requests e [] steps k asked = absurd k
errand-within script row tries requests e (job ∷ jobs) steps k asked = by k.0 steps k.2 asked
  where
    by : (most : ℕ) (s : Steps Finish) → Obeys (IsWithin script.n script.rows) (IsFinish script job.task) most s → next_errand s ≡ Some e → IsWithin script.n script.rows e
    by zero (Asks f t c g) o same = absurd o
    by (suc most) (Asks f t c g) o same = let equal : f ≡ e = cc in subst (IsWithin script.n script.rows) equal o.0
    by most (Draws g) o same = absurd (cc)
    by most (Ends a) o same = absurd (cc)

device-within : (script : Script) (requests : ℕ) (jobs : List Job) (bay : BayNo) → KeepsDevice script jobs requests bay → bay.0 < script.n
device-within script requests [] bay k = absurd k
device-within script requests (job ∷ jobs) bay k = k.0

work-within : (script : Script) (row tries requests : ℕ) (e : Errand) (jobs : List Job) (work : Work) → KeepsWork script jobs row tries requests work →
    work_errand work ≡ Some e → IsWithin script.n script.rows e
work-within script row tries requests e jobs (Trying steps) k asked = errand-within script row tries requests e jobs steps k asked
work-within script row tries requests e jobs (Losing bay) k asked =
    let same : record { bay = bay; request = Lose } ≡ e = cc in
    subst (IsWithin script.n script.rows) same (record { bay = device-within script requests jobs bay k; request = tt })
work-within script row tries requests e jobs (Fitting bay) k asked =
    let same : record { bay = bay; request = Fit } ≡ e = cc in
    subst (IsWithin script.n script.rows) same (record { bay = device-within script requests jobs bay k; request = tt })
work-within script row tries requests e jobs Over k asked = absurd (cc)

pub asks-within : (script : Script) (host : HostNo) (p : Progress) (requests contents moment : ℕ) (sent : Sent) →
    Keeps script p requests contents → asks host p moment ≡ Some sent → IsWithin script.n script.rows (record { bay = sent.bay; request = sent.ask.what })
asks-within script host p requests contents moment sent k asked =
    let e = sent-errand host p.clock moment (work_errand p.work) sent asked in
    subst (IsWithin script.n script.rows) e.2 (work-within script p.row p.tries requests e.0 p.jobs p.work k.work e.1)

-- A host that starts.
pub task-aims : (script : Script) (host : HostNo) (task : Task) → IsTask script host task → IsAimed script task
task-aims script host (tasks.Read object first count) t = t.some
task-aims script host (tasks.Write object first from count) t = t.some
task-aims script host (tasks.Recover row) t = t
task-aims script host (tasks.Lose bay) t = t.1
task-aims script host (tasks.Fit bay) t = t.1
task-aims script host (tasks.Rebuild bay) t = t.1

all-aims : (script : Script) (host : HostNo) (jobs : List Job) → AllByRecursion (IsJob script host) jobs → AllByRecursion (λ (job : Job). IsAimed script job.task) jobs
all-aims script host [] h = tt
all-aims script host (job ∷ jobs) h = (task-aims script host job.task h.0.task, all-aims script host jobs h.1)

jobs-aims : (script : Script) (host : HostNo) (hosts : List HostJobs) → AllByRecursion (λ (h : HostJobs). All (IsJob script h.host) h.jobs) hosts →
    AllByRecursion (λ (job : Job). IsAimed script job.task) (jobs_in (find (λ (h : HostJobs). h.host.0 == host.0) hosts))
jobs-aims script host [] h = tt
jobs-aims script host (first ∷ hosts) h = by (first.host.0 == host.0) (jobs-aims script host hosts h.1)
  where
    by : (b : Bool) → AllByRecursion (λ (job : Job). IsAimed script job.task) (jobs_in (find (λ (x : HostJobs). x.host.0 == host.0) hosts)) →
        AllByRecursion (λ (job : Job). IsAimed script job.task) (jobs_in (cond b (Some first) (find (λ (x : HostJobs). x.host.0 == host.0) hosts)))
    by true rest = all-aims script first.host first.jobs (recursion_from_All (IsJob script first.host) first.jobs h.0)
    by false rest = rest

-- the jobs of a host of a script have aims
pub script-aims : (script : Script) (host : HostNo) → IsScript script → AllByRecursion (λ (job : Job). IsAimed script job.task) (jobs_of script host)
script-aims script host is = jobs-aims script host script.hosts (recursion_from_All (λ (h : HostJobs). All (IsJob script h.host) h.jobs) script.hosts is.jobs)

-- before it begins its first job
abbrev pub before_start : Script → HostNo → Progress
before_start script host =
    record { jobs = jobs_of script host; asked = 0; tries = 0; row = 0; gone = None; seen = number 0; clock = 0; work = Over; calls = []; endings = [] }

pub keeps-start : (script : Script) (m : Measure script) (host : HostNo) → IsPlayable script →
    KeepsBy script m (at_start script host) (host_most script m host) (host_contents script host)
keeps-start script m host is =
    let least = is.ranges.rows_least in
    start-keeps script is.ranges m host (host_contents script host) (host_most script m host) (jobs_of script host) (before_start script host) refl
    (record {
      sound = record { aims = script-aims script host is.ranges; tries = omega arith; row = omega (arith, least); reads = omega arith };
      fresh = refl;
      start = refl;
      enough = omega arith;
    })
