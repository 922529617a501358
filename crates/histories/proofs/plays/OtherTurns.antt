-- Where hosts and bays stand after some calls does not hang on the script's turn lines.
use Rattle.std.proofs.Common.{◌≡◌, ◌∙◌, ◌==◌, ℕ, ◌+◌, Bool, true, false, ◌||◌, List, [], ◌∷◌, drop, Option, Some, None, Result, Ok, Err, refl, ap}
use Rattle.raid_base.specs.declared.numbers.HostNo.{HostNo}
use Rattle.raid_base.specs.declared.numbers.BayNo.{BayNo}
use Rattle.raid_base.specs.declared.numbers.Number.{Number}
use Rattle.raid_base.specs.declared.numbers.Spent.{Spent}
use Rattle.raid_base.specs.declared.cells.Content.{Content}
use Rattle.raid_base.specs.declared.messages.Call.{Call}
use Rattle.raid_base.specs.declared.messages.Reply.{Reply}
use Rattle.raid_base.specs.declared.messages.Turn.{Turn}
use Rattle.raid_base.specs.declared.jobs.Cause.{Cause}
use Rattle.raid_base.specs.declared.jobs.Cause.TheVariants as causes
use Rattle.raid_base.specs.declared.jobs.Ended.{Ended}
use Rattle.raid_base.specs.declared.jobs.Ended.TheVariants as ends
use Rattle.raid_base.specs.declared.jobs.Job.{Job}
use Rattle.raid_base.specs.declared.jobs.JobEnd.{JobEnd}
use Rattle.raid_base.specs.declared.jobs.JobEnd.TheVariants as job_ends
use Rattle.raid_base.specs.declared.jobs.RowPart.{RowPart}
use Rattle.raid_base.specs.declared.jobs.PartsFault.{PartsFault}
use Rattle.raid_base.specs.declared.jobs.Task.{Task}
use Rattle.raid_base.specs.declared.jobs.Task.TheVariants as tasks
use Rattle.raid_base.specs.Numbers.{number, draw}
use Rattle.raid_base.specs.Replies.{is_fault}
use Rattle.raid_base.specs.Steps.{Steps, Asks, Draws, Ends, settled, told}
use Rattle.attempts.specs.Taking.{Finish}
use Rattle.slot_rules.specs.Slots.{Bay}
use Rattle.slot_rules.specs.Rules.{rule}
use Rattle.script_text.specs.Script.{Script, jobs_of, parts_of, blocks_of}
use Rattle.histories.specs.declared.operator.Gone.{Gone}
use Rattle.histories.specs.Operator.{is_gone}
use Rattle.histories.specs.Progress.{Progress, Work, Trying, Losing, Fitting, Over, read_of, write_of, attempt, placed, try_with, one_more, try_task, try_parts, lose_job, fit_job, rebuild_job, start_task, start_jobs, next_job, with_ending, parts_end, go_on, stops, job_ended, task_of, try_again, once_more, is_spent, attempt_refused, next_row, row_mended, attempt_ended, steps_left, call_counted, work_told, takes}
use Rattle.histories.specs.History.{if_taken, progress_at, if_ruled, bay_at}
use Rattle.histories.specs.Simulated.{with_turns, TurnLinesAreFree}

module _ (script : Script) (turns : List Turn) where
  abbrev pub Other : Script
  Other = with_turns script turns

  -- an attempt
  read-same : (id : Number) (r : Result (List RowPart) PartsFault) → read_of Other id r ≡ read_of script id r
  read-same id (Ok parts) = refl
  read-same id (Err fault) = refl

  write-same : (id : Number) (blocks : List (List ℕ)) (r : Result (List RowPart) PartsFault) → write_of Other id blocks r ≡ write_of script id blocks r
  write-same id blocks (Ok parts) = refl
  write-same id blocks (Err fault) = refl

  module _ (host : HostNo) where
    attempt-same : (id : Number) (row : ℕ) (task : Task) → attempt Other host id row task ≡ attempt script host id row task
    attempt-same id row (tasks.Read object first count) = read-same id (parts_of script object first count)
    attempt-same id row (tasks.Write object first from count) = write-same id (blocks_of script from count) (parts_of script object first count)
    attempt-same id row (tasks.Recover at) = refl
    attempt-same id row (tasks.Rebuild bay) = refl
    attempt-same id row (tasks.Lose bay) = refl
    attempt-same id row (tasks.Fit bay) = refl

    -- a job begins, and what comes after it is the same
    module _ (rest other : Progress → Progress) (same : (p : Progress) → other p ≡ rest p) where
      drawn-same : (task : Task) (p : Progress) (d : Result Number Spent) → try_with Other host task other p d ≡ try_with script host task rest p d
      drawn-same task p (Ok id) = ap (λ (steps : Steps Finish). placed p (settled host id steps)) (attempt-same id p.row task)
      drawn-same task p (Err spent) = same (next_job (with_ending p (job_ends.Gave p.tries (causes.Spent spent.seen)) []))

      try-same : (task : Task) (p : Progress) → try_task Other host task other p ≡ try_task script host task rest p
      try-same task p = drawn-same task (one_more p) (draw host p.seen)

      end-first : (p : Progress) (ended : JobEnd) → other (next_job (with_ending p ended [])) ≡ rest (next_job (with_ending p ended []))
      end-first p ended = same (next_job (with_ending p ended []))

      parts-same : (task : Task) (p : Progress) (r : Result (List RowPart) PartsFault) → try_parts Other host task other p r ≡ try_parts script host task rest p r
      parts-same task p (Ok parts) = try-same task p
      parts-same task p (Err fault) = end-first p (parts_end fault)

      lose-same : (p : Progress) (bay : BayNo) (gone : Option Gone) → lose_job other p bay gone ≡ lose_job rest p bay gone
      lose-same p bay None = refl
      lose-same p bay (Some gone) = end-first p (job_ends.StillMissing gone.bay)

      fit-same : (p : Progress) (bay : BayNo) (b : Bool) → fit_job other p bay b ≡ fit_job rest p bay b
      fit-same p bay true = refl
      fit-same p bay false = end-first p (job_ends.NotLost bay)

      rebuild-same : (p : Progress) (bay : BayNo) (b : Bool) → rebuild_job Other host other p bay b ≡ rebuild_job script host rest p bay b
      rebuild-same p bay true = try-same (tasks.Rebuild bay) p
      rebuild-same p bay false = end-first p (job_ends.NotFitted bay)

      task-same : (p : Progress) (task : Task) → start_task Other host other p task ≡ start_task script host rest p task
      task-same p (tasks.Read object first count) = parts-same (tasks.Read object first count) p (parts_of script object first count)
      task-same p (tasks.Write object first from count) = parts-same (tasks.Write object first from count) p (parts_of script object first count)
      task-same p (tasks.Recover row) = try-same (tasks.Recover row) p
      task-same p (tasks.Lose bay) = lose-same p bay p.gone
      task-same p (tasks.Fit bay) = fit-same p bay (is_gone bay false p.gone)
      task-same p (tasks.Rebuild bay) = rebuild-same p bay (is_gone bay true p.gone)

    jobs-same : (jobs : List Job) (p : Progress) → start_jobs Other host jobs p ≡ start_jobs script host jobs p
    jobs-same [] p = refl
    jobs-same (job ∷ jobs) p = task-same (start_jobs script host jobs) (start_jobs Other host jobs) (jobs-same jobs) p job.task

    -- a job ends
    on-same : (p : Progress) (stop : Bool) → go_on Other host p stop ≡ go_on script host p stop
    on-same p true = refl
    on-same p false = jobs-same (drop 1 p.jobs) (next_job p)

    ended-same : (p : Progress) (ended : JobEnd) (read : List Content) → job_ended Other host p ended read ≡ job_ended script host p ended read
    ended-same p ended read = on-same (with_ending p ended read) (stops p)

    again-same : (p : Progress) (o : Option Task) → try_again Other host p o ≡ try_again script host p o
    again-same p None = refl
    again-same p (Some task) = try-same (start_jobs script host (drop 1 p.jobs)) (start_jobs Other host (drop 1 p.jobs)) (jobs-same (drop 1 p.jobs)) task p

    once-same : (p later : Progress) (stop : Bool) → once_more Other host p later stop ≡ once_more script host p later stop
    once-same p later true = ended-same p (job_ends.Gave p.tries causes.Quit) []
    once-same p later false = again-same later (task_of p.jobs)

    refused-same : (p : Progress) (cause : Cause) (last : Bool) → attempt_refused Other host p cause last ≡ attempt_refused script host p cause last
    refused-same p cause true = ended-same p (job_ends.Gave p.tries cause) []
    refused-same p cause false = once-same p p (stops p)

    mended-same : (p : Progress) (last : Bool) → row_mended Other host p last ≡ row_mended script host p last
    mended-same p true = ended-same (record p { gone = None }) job_ends.Rebuilt []
    mended-same p false = once-same p (next_row p) (stops p)

    finish-same : (p : Progress) (read : List Content) (e : Ended) → attempt_ended Other host p read e ≡ attempt_ended script host p read e
    finish-same p read (ends.Read n) = ended-same p (job_ends.Read n) read
    finish-same p read (ends.Wrote n) = ended-same p (job_ends.Wrote n) []
    finish-same p read (ends.Part n made cause) = ended-same p (job_ends.Part n made cause) []
    finish-same p read (ends.Recovered n closed lost) = ended-same p (job_ends.Recovered n closed lost) []
    finish-same p read ends.Mended = mended-same p (p.row + 1 == script.rows)
    finish-same p read (ends.Refused cause) = refused-same p cause ((p.tries == script.tries) || is_spent cause)

    -- a reply comes
    steps-same : (p : Progress) (steps : Steps Finish) → steps_left Other host p steps ≡ steps_left script host p steps
    steps-same p (Asks errand stop commits go) = refl
    steps-same p (Draws go) = refl
    steps-same p (Ends finish) = finish-same p finish.contents finish.ended

    told-same : (p : Progress) (reply : Reply) (work : Work) → work_told Other host p reply work ≡ work_told script host p reply work
    told-same p reply (Trying steps) =
        let now = told host (record { seen = p.seen; steps = steps }) reply in
        steps-same (record p { seen = now.seen }) now.steps
    told-same p reply (Losing bay) = ended-same (record p { gone = Some (record { bay = bay; fitted = false }) }) job_ends.Lost []
    told-same p reply (Fitting bay) = ended-same (record p { gone = Some (record { bay = bay; fitted = true }) }) job_ends.Fitted []
    told-same p reply Over = refl

    progress-same : (history : List Call) → progress_at Other host history ≡ progress_at script host history
    progress-same [] = jobs-same (jobs_of script host) (record {
      jobs = jobs_of script host;
      asked = 0;
      tries = 0;
      row = 0;
      gone = None;
      seen = number 0;
      clock = 0;
      work = Over;
      calls = [];
      endings = [];
    })
    progress-same (call ∷ earlier) = by (call.ask.host.0 == host.0) (progress-same earlier) where
      by : (own : Bool) → progress_at Other host earlier ≡ progress_at script host earlier →
          if_taken Other host (progress_at Other host earlier) call own ≡ if_taken script host (progress_at script host earlier) call own
      by true same =
          ap (λ (p : Progress). takes Other host p call) same
          ∙ told-same (call_counted (progress_at script host earlier) call) call.answer.reply (progress_at script host earlier).work
      by false same = same

  bay-same : (at : BayNo) (history : List Call) → bay_at Other at history ≡ bay_at script at history
  bay-same at [] = refl
  bay-same at (call ∷ earlier) = by (call.bay.0 == at.0) (bay-same at earlier) where
    by : (here : Bool) → bay_at Other at earlier ≡ bay_at script at earlier → if_ruled (bay_at Other at earlier) call here ≡ if_ruled (bay_at script at earlier) call here
    by true same = ap (λ (b : Bay). (rule b call.ask (is_fault call.answer.reply)).bay) same
    by false same = same

pub turn_lines_are_free : TurnLinesAreFree
turn_lines_are_free script turns history = record { progress = λ host. progress-same script turns host history; bays = λ at. bay-same script turns at history }
