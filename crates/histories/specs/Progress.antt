-- How one host goes on through its jobs.
use Rattle.std.specs.Prelude.{ℕ, ◌+◌, ◌==◌, ◌||◌, Bool, true, false, List, [], ◌∷◌, ◌++◌, drop, Option, Some, None, Result, Ok, Err}
use Rattle.raid_base.specs.declared.numbers.HostNo.{HostNo}
use Rattle.raid_base.specs.declared.numbers.BayNo.{BayNo}
use Rattle.raid_base.specs.declared.numbers.Number.{Number}
use Rattle.raid_base.specs.declared.numbers.Spent.{Spent}
use Rattle.raid_base.specs.declared.cells.Content.{Content}
use Rattle.raid_base.specs.declared.messages.Request.TheVariants.{Lose, Fit}
use Rattle.raid_base.specs.declared.messages.Reply.{Reply}
use Rattle.raid_base.specs.declared.messages.Errand.{Errand}
use Rattle.raid_base.specs.declared.messages.Ask.{Ask}
use Rattle.raid_base.specs.declared.messages.Call.{Call}
use Rattle.raid_base.specs.declared.jobs.Task.{Task}
use Rattle.raid_base.specs.declared.jobs.Task.TheVariants as tasks
use Rattle.raid_base.specs.declared.jobs.Job.{Job}
use Rattle.raid_base.specs.declared.jobs.Cause.{Cause}
use Rattle.raid_base.specs.declared.jobs.Cause.TheVariants as causes
use Rattle.raid_base.specs.declared.jobs.Ended.{Ended}
use Rattle.raid_base.specs.declared.jobs.Ended.TheVariants as ends
use Rattle.raid_base.specs.declared.jobs.JobEnd.{JobEnd}
use Rattle.raid_base.specs.declared.jobs.JobEnd.TheVariants as job_ends
use Rattle.raid_base.specs.declared.jobs.RowPart.{RowPart}
use Rattle.raid_base.specs.declared.jobs.PartsFault.{PartsFault}
use Rattle.raid_base.specs.declared.jobs.PartsFault.TheVariants as faults
use Rattle.raid_base.specs.Numbers.{number, draw}
use Rattle.raid_base.specs.Steps.{Steps, Asks, Draws, Ends, next_errand, Standing, settled, told}
use Rattle.attempts.specs.Taking.{Access, Finish, finish}
use Rattle.attempts.specs.Reading.{read_steps}
use Rattle.attempts.specs.Writing.{write_steps}
use Rattle.attempts.specs.Mending.{mend_steps}
use Rattle.attempts.specs.Recovery.{recover_steps}
use Rattle.script_text.specs.Script.{Script, jobs_of, parts_of, blocks_of}
use Rattle.histories.specs.declared.operator.Gone.{Gone}
use Rattle.histories.specs.Operator.{is_gone}

-- what a host has in hand: an attempt, or a request that is a job of its own, or nothing any more
pub data Work : Type 0 where
  Trying : (steps : Steps Finish) → Work
  Losing : (bay : BayNo) → Work
  Fitting : (bay : BayNo) → Work
  Over : Work

-- how a job ended, what it read, its requests and attempts, and the calls of its last attempt, the newest first
pub record Ending : Type 0 where
  pub job : Job
  pub ended : JobEnd
  pub contents : List Content
  pub asked : ℕ
  pub tries : ℕ
  pub calls : List Call

-- Where a host stands.
pub record Progress : Type 0 where
  -- the job in hand and those behind it
  pub jobs : List Job
  -- the requests of the job in hand
  pub asked : ℕ
  -- its attempts, for a rebuild those on its row
  pub tries : ℕ
  pub row : ℕ
  pub gone : Option Gone
  pub seen : Number
  pub clock : ℕ
  pub work : Work
  -- the calls of the attempt in hand, the newest first
  pub calls : List Call
  pub endings : List Ending

-- the job in hand has a result
abbrev pub endings_of : List Job → JobEnd → List Content → Progress → List Ending
endings_of [] ended contents p = []
endings_of (job ∷ jobs) ended contents p = record { job = job; ended = ended; contents = contents; asked = p.asked; tries = p.tries; calls = p.calls } ∷ []

abbrev pub with_ending : Progress → JobEnd → List Content → Progress
with_ending p ended contents = record p { endings = p.endings ++ endings_of p.jobs ended contents p }

abbrev pub next_job : Progress → Progress
next_job p = record p { jobs = drop 1 p.jobs; asked = 0; tries = 0; row = 0; calls = [] }

-- an attempt of a job
abbrev pub access : Script → Number → List RowPart → List (List ℕ) → Access
access script id parts blocks = record { mode = script.mode; n = script.n; id = id; parts = parts; blocks = blocks }

-- a job without parts makes no attempt
abbrev pub no_steps : Steps Finish
no_steps = Ends (finish (ends.Refused causes.Quit))

abbrev pub read_of : Script → Number → Result (List RowPart) PartsFault → Steps Finish
read_of script id (Ok parts) = read_steps (access script id parts [])
read_of script id (Err fault) = no_steps

abbrev pub write_of : Script → Number → List (List ℕ) → Result (List RowPart) PartsFault → Steps Finish
write_of script id blocks (Ok parts) = write_steps (access script id parts blocks)
write_of script id blocks (Err fault) = no_steps

abbrev pub attempt : Script → HostNo → Number → ℕ → Task → Steps Finish
attempt script host id row (tasks.Read object first count) = read_of script id (parts_of script object first count)
attempt script host id row (tasks.Write object first from count) = write_of script id (blocks_of script from count) (parts_of script object first count)
attempt script host id row (tasks.Recover at) = recover_steps (record { n = script.n; host = host; id = id; row = at })
attempt script host id row (tasks.Rebuild bay) = mend_steps (record { n = script.n; id = id; row = record { 0 = row }; target = bay })
attempt script host id row (tasks.Lose bay) = no_steps
attempt script host id row (tasks.Fit bay) = no_steps

-- goes on with these steps
abbrev pub placed : Progress → Standing Finish → Progress
placed p now = record p { seen = now.seen; work = Trying now.steps }

-- an attempt begins by drawing its id; where that is spent the job gives up, and the host goes on with the rest of its jobs
abbrev pub try_with : Script → HostNo → Task → (Progress → Progress) → Progress → Result Number Spent → Progress
try_with script host task rest p (Ok id) = placed p (settled host id (attempt script host id p.row task))
try_with script host task rest p (Err spent) = rest (next_job (with_ending p (job_ends.Gave p.tries (causes.Spent spent.seen)) []))

abbrev pub one_more : Progress → Progress
one_more p = record p { tries = p.tries + 1; calls = [] }

abbrev pub try_task : Script → HostNo → Task → (Progress → Progress) → Progress → Progress
try_task script host task rest p = try_with script host task rest (one_more p) (draw host p.seen)

-- a job that ends without a request
abbrev pub ends_as : (Progress → Progress) → Progress → JobEnd → Progress
ends_as rest p ended = rest (next_job (with_ending p ended []))

abbrev pub parts_end : PartsFault → JobEnd
parts_end faults.NoObject = job_ends.NoObject
parts_end (faults.PastEnd blocks) = job_ends.PastEnd blocks
parts_end (faults.TooManyRows rows) = job_ends.TooManyRows rows

abbrev pub try_parts : Script → HostNo → Task → (Progress → Progress) → Progress → Result (List RowPart) PartsFault → Progress
try_parts script host task rest p (Ok parts) = try_task script host task rest p
try_parts script host task rest p (Err fault) = ends_as rest p (parts_end fault)

-- what the operator remembers
abbrev pub lose_job : (Progress → Progress) → Progress → BayNo → Option Gone → Progress
lose_job rest p bay None = record p { work = Losing bay }
lose_job rest p bay (Some gone) = ends_as rest p (job_ends.StillMissing gone.bay)

abbrev pub fit_job : (Progress → Progress) → Progress → BayNo → Bool → Progress
fit_job rest p bay true = record p { work = Fitting bay }
fit_job rest p bay false = ends_as rest p (job_ends.NotLost bay)

abbrev pub rebuild_job : Script → HostNo → (Progress → Progress) → Progress → BayNo → Bool → Progress
rebuild_job script host rest p bay true = try_task script host (tasks.Rebuild bay) rest p
rebuild_job script host rest p bay false = ends_as rest p (job_ends.NotFitted bay)

abbrev pub start_task : Script → HostNo → (Progress → Progress) → Progress → Task → Progress
start_task script host rest p (tasks.Read object first count) =
    try_parts script host (tasks.Read object first count) rest p (parts_of script object first count)
start_task script host rest p (tasks.Write object first from count) =
    try_parts script host (tasks.Write object first from count) rest p (parts_of script object first count)
start_task script host rest p (tasks.Recover row) = try_task script host (tasks.Recover row) rest p
start_task script host rest p (tasks.Lose bay) = lose_job rest p bay p.gone
start_task script host rest p (tasks.Fit bay) = fit_job rest p bay (is_gone bay false p.gone)
start_task script host rest p (tasks.Rebuild bay) = rebuild_job script host rest p bay (is_gone bay true p.gone)

-- goes on to the first request of these jobs
abbrev pub start_jobs : Script → HostNo → List Job → Progress → Progress
start_jobs script host [] p = record p { work = Over }
start_jobs script host (job ∷ jobs) p = start_task script host (start_jobs script host jobs) p job.task

abbrev pub at_start : Script → HostNo → Progress
at_start script host =
    let p : Progress = record { jobs = jobs_of script host; asked = 0; tries = 0; row = 0; gone = None; seen = number 0; clock = 0; work = Over; calls = []; endings = [] } in
    start_jobs script host (jobs_of script host) p

-- Where the host stops. The job's last request was answered
abbrev pub stops_at : Option ℕ → ℕ → Bool
stops_at None asked = false
stops_at (Some k) asked = k == asked

abbrev pub job_stops : List Job → ℕ → Bool
job_stops [] asked = false
job_stops (job ∷ jobs) asked = stops_at job.quit asked

abbrev pub stops : Progress → Bool
stops p = job_stops p.jobs p.asked

-- after a result the host stops for good, or goes on with its next job
abbrev pub go_on : Script → HostNo → Progress → Bool → Progress
go_on script host p true = record (next_job p) { work = Over }
go_on script host p false = start_jobs script host (drop 1 p.jobs) (next_job p)

abbrev pub job_ended : Script → HostNo → Progress → JobEnd → List Content → Progress
job_ended script host p ended contents = go_on script host (with_ending p ended contents) (stops p)

abbrev pub task_of : List Job → Option Task
task_of [] = None
task_of (job ∷ jobs) = Some job.task

abbrev pub try_again : Script → HostNo → Progress → Option Task → Progress
try_again script host p None = record p { work = Over }
try_again script host p (Some task) = try_task script host task (start_jobs script host (drop 1 p.jobs)) p

-- a further attempt, unless the host stops here
abbrev pub once_more : Script → HostNo → Progress → Progress → Bool → Progress
once_more script host p later true = job_ended script host p (job_ends.Gave p.tries causes.Quit) []
once_more script host p later false = try_again script host later (task_of p.jobs)

abbrev pub is_spent : Cause → Bool
is_spent (causes.Spent seen) = true
is_spent _ = false

-- the last allowed attempt was refused, or numbers are spent
abbrev pub attempt_refused : Script → HostNo → Progress → Cause → Bool → Progress
attempt_refused script host p cause true = job_ended script host p (job_ends.Gave p.tries cause) []
attempt_refused script host p cause false = once_more script host p p (stops p)

abbrev pub next_row : Progress → Progress
next_row p = record p { row = p.row + 1; tries = 0 }

abbrev pub row_mended : Script → HostNo → Progress → Bool → Progress
row_mended script host p true = job_ended script host (record p { gone = None }) job_ends.Rebuilt []
row_mended script host p false = once_more script host p (next_row p) (stops p)

abbrev pub attempt_ended : Script → HostNo → Progress → List Content → Ended → Progress
attempt_ended script host p contents (ends.Read n) = job_ended script host p (job_ends.Read n) contents
attempt_ended script host p contents (ends.Wrote n) = job_ended script host p (job_ends.Wrote n) []
attempt_ended script host p contents (ends.Part n made cause) = job_ended script host p (job_ends.Part n made cause) []
attempt_ended script host p contents (ends.Recovered n closed lost) = job_ended script host p (job_ends.Recovered n closed lost) []
attempt_ended script host p contents ends.Mended = row_mended script host p (p.row + 1 == script.rows)
attempt_ended script host p contents (ends.Refused cause) =
    attempt_refused script host p cause ((p.tries == script.tries) || is_spent cause)

-- how a job ends whose attempt was not at its end when the host stopped
abbrev pub quit_end : ℕ → Ended → JobEnd
quit_end tries (ends.Read n) = job_ends.Read n
quit_end tries (ends.Wrote n) = job_ends.Wrote n
quit_end tries (ends.Part n made cause) = job_ends.Part n made cause
quit_end tries (ends.Recovered n closed lost) = job_ends.Recovered n closed lost
quit_end tries ends.Mended = job_ends.Gave tries causes.Quit
quit_end tries (ends.Refused cause) = job_ends.Gave tries causes.Quit

abbrev pub asks_on : Progress → Steps Finish → Ended → Bool → Progress
asks_on p steps stop true = record (next_job (with_ending p (quit_end p.tries stop) [])) { work = Over }
asks_on p steps stop false = record p { work = Trying steps }

abbrev pub steps_left : Script → HostNo → Progress → Steps Finish → Progress
steps_left script host p (Asks errand stop commits go) = asks_on p (Asks errand stop commits go) stop (stops p)
steps_left script host p (Draws go) = record p { work = Over }
steps_left script host p (Ends finish) = attempt_ended script host p finish.contents finish.ended

abbrev pub stood : Script → HostNo → Progress → Standing Finish → Progress
stood script host p now = steps_left script host (record p { seen = now.seen }) now.steps

abbrev pub work_told : Script → HostNo → Progress → Reply → Work → Progress
work_told script host p reply (Trying steps) = stood script host p (told host (record { seen = p.seen; steps = steps }) reply)
work_told script host p reply (Losing bay) = job_ended script host (record p { gone = Some (record { bay = bay; fitted = false }) }) job_ends.Lost []
work_told script host p reply (Fitting bay) = job_ended script host (record p { gone = Some (record { bay = bay; fitted = true }) }) job_ends.Fitted []
work_told script host p reply Over = p

-- how it takes a call
abbrev pub call_counted : Progress → Call → Progress
call_counted p call = record p { asked = p.asked + 1; clock = call.answer.clock; calls = call ∷ p.calls }

abbrev pub takes : Script → HostNo → Progress → Call → Progress
takes script host p call = work_told script host (call_counted p call) call.answer.reply p.work

-- what it asks next
abbrev pub work_errand : Work → Option Errand
work_errand (Trying steps) = next_errand steps
work_errand (Losing bay) = Some (record { bay = bay; request = Lose })
work_errand (Fitting bay) = Some (record { bay = bay; request = Fit })
work_errand Over = None

-- a request with all that the host says beside it
pub record Sent : Type 0 where
  pub bay : BayNo
  pub ask : Ask

abbrev pub sent_by : HostNo → ℕ → ℕ → Option Errand → Option Sent
sent_by host clock moment None = None
sent_by host clock moment (Some errand) =
    Some (record { bay = errand.bay; ask = record { host = host; clock = clock; moment = moment; what = errand.request } })

abbrev pub asks : HostNo → Progress → ℕ → Option Sent
asks host p moment = sent_by host p.clock moment (work_errand p.work)

abbrev pub is_over : Work → Bool
is_over (Trying steps) = false
is_over (Losing bay) = false
is_over (Fitting bay) = false
is_over Over = true
