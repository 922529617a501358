-- A host in code stands where its progress says.
use Rattle.std.specs.Prelude.{◌≡◌, ℕ, ◌+◌, ◌≤◌, List, [], ◌∷◌, ◌++◌, length, drop, map, flat_map, option_map, Option, Some, None, Bool, true, false}
use Rattle.std.specs.List.{enumerate_from}
use Rattle.std.specs.Vec.{vec_len, vec_capacity}
use Rattle.raid_base.specs.declared.numbers.HostNo.{HostNo}
use Rattle.raid_base.specs.declared.numbers.BayNo.{BayNo}
use Rattle.raid_base.specs.declared.messages.Ask.{Ask}
use Rattle.raid_base.specs.declared.messages.Answer.{Answer}
use Rattle.raid_base.specs.declared.jobs.Job.{Job}
use Rattle.raid_base.specs.declared.jobs.JobResult.{JobResult}
use Rattle.raid_base.specs.declared.jobs.Task.{Task}
use Rattle.raid_base.specs.declared.cells.Content.{Content}
use Rattle.raid_base.specs.declared.messages.Reply.{Reply}
use Rattle.raid_base.specs.declared.jobs.Ended.{Ended}
use Rattle.raid_base.specs.Steps.{told, answer, stopped}
use Rattle.attempts.specs.Taking.{Finish}
use Rattle.script_text.specs.Script.{Script, jobs_of}
use Rattle.histories.specs.Progress.{Progress, Work, Over, Ending, Sent, takes, sent_by, work_errand, start_task, at_start, next_job, with_ending, quit_end}
use Rattle.histories.specs.Plain.{first_blocks, FitsNext}
use Rattle.histories.specs.Bounds.{Keeps, host_requests, host_contents}
use Rattle.host_engine.specs.Left.{left, Suits, work_in, SuitsWork}
use Rattle.host_engine.specs.declared.attempt.Attempt.{Attempt}
use Rattle.host_engine.specs.declared.duty.Duty.{Duty}
use Rattle.host_engine.specs.declared.duty.Duty.TheVariants as duties
use Rattle.host_engine.specs.declared.host.Host.{Host}

-- results by job, from this one on
abbrev pub result_of : HostNo → ℕ × Ending → JobResult
result_of host (job, e) = record { host = host; job = job; «end» = e.ended }

abbrev pub results_of : HostNo → List Ending → List JobResult
results_of host endings = map (result_of host) (enumerate_from 0 endings)

abbrev pub contents_of : List Ending → List Content
contents_of endings = flat_map (λ (e : Ending). e.contents) endings

-- what is in hand
abbrev pub work_of : Script → List Job → Attempt → Option Duty → Work
work_of script jobs attempt None = Over
work_of script jobs attempt (Some duty) = work_in duty attempt (first_blocks script jobs)

-- all but what is in hand
pub record Counts (script : Script) (host : HostNo) (now : Host) (p : Progress) : Type 0 where
  pub number : now.no ≡ host
  pub plays : now.script.now ≡ script
  pub listed : now.jobs.now ≡ jobs_of script host
  pub place : length p.endings ≡ now.job
  pub jobs : p.jobs ≡ drop now.job (jobs_of script host)
  pub asked : p.asked ≡ now.asked
  pub tries : p.tries ≡ now.tries
  pub row : p.row ≡ now.row
  pub gone : p.gone ≡ now.gone
  pub draws : now.numbers.host ≡ host
  pub seen : p.seen ≡ now.numbers.seen
  pub clock : p.clock ≡ now.clock
  pub results : now.results.items ≡ results_of host p.endings
  pub contents : now.contents.items ≡ contents_of p.endings

pub record Stands (script : Script) (host : HostNo) (now : Host) (p : Progress) : Type 0 where
  pub counts : Counts script host now p
  pub work : p.work ≡ work_of script p.jobs now.attempt now.duty
  pub suits : SuitsWork now.duty now.attempt (first_blocks script p.jobs)

-- what stays when a job is begun or ended without a request
pub record KeepsRoom (old new : Host) : Type 0 where
  pub jobs : new.jobs ≡ old.jobs
  pub plays : new.script ≡ old.script
  pub transcript : new.transcript ≡ old.transcript
  pub contents : vec_capacity old.contents ≤ vec_capacity new.contents

-- where it has ended the next one is in hand
abbrev pub Skips : Bool → Host → Host → Type 0
Skips true old new = new.job ≡ old.job
Skips false old new = (new.job ≡ old.job + 1) × (new.tries ≡ 0) × (new.duty ≡ old.duty)

-- the job in hand has this task
abbrev pub FirstTask : List Job → Task → Type 0
FirstTask [] task = ⊥
FirstTask (job ∷ jobs) task = job.task ≡ task

-- a job was begun, or it has ended without a request and the next one is in hand
abbrev pub Begins : Script → HostNo → ((Progress → Progress) → Progress → Progress) → Bool → Progress → Host → Type 0
Begins script host begun true p new = (rest : Progress → Progress) → Stands script host new (begun rest p)
Begins script host begun false p new = (q : Progress) × Counts script host new q × ((rest : Progress → Progress) → begun rest p ≡ rest q)

-- the same of the first of these jobs
abbrev pub BeginsFirst : Script → HostNo → List Job → Bool → Progress → Host → Type 0
BeginsFirst script host [] begun p new = ⊥
BeginsFirst script host (job ∷ jobs) begun p new = Begins script host (λ rest q. start_task script host rest q job.task) begun p new

-- a request as a host hands it out
abbrev pub sent_pair : Option Sent → Option (BayNo × Ask)
sent_pair None = None
sent_pair (Some sent) = Some (sent.bay, sent.ask)

-- a host that may be told this reply: it has asked, the reply fits, and there is room for what it may read
pub record CanHear (now : Host) (reply : Reply) : Type 0 where
  pub script : Script
  pub host : HostNo
  pub p : Progress
  pub requests : ℕ
  pub contents : ℕ
  pub stands : Stands script host now p
  pub keeps : Keeps script p requests contents
  pub asked : FitsNext (work_errand p.work) reply
  pub reads : contents ≤ vec_capacity now.contents

-- one that may take this answer: there is also room for its call
pub record CanTake (now : Host) (moment : ℕ) (answer : Answer) : Type 0 where
  pub script : Script
  pub host : HostNo
  pub p : Progress
  pub requests : ℕ
  pub contents : ℕ
  pub stands : Stands script host now p
  pub keeps : Keeps script p requests contents
  pub asked : FitsNext (work_errand p.work) answer.reply
  pub calls : vec_len now.transcript + requests ≤ vec_capacity now.transcript
  pub reads : contents ≤ vec_capacity now.contents

-- it has taken the answer to what it asked
pub record Takes (old new : Host) (moment : ℕ) (answer : Answer) (sent : Sent) : Type 0 where
  pub call : new.transcript.items ≡ old.transcript.items ++ record { bay = sent.bay; ask = sent.ask; answer = answer } ∷ []
  pub calls : vec_capacity new.transcript ≡ vec_capacity old.transcript
  pub reads : vec_capacity old.contents ≤ vec_capacity new.contents
  pub stands : (script : Script) (host : HostNo) (p : Progress) → Stands script host old p →
      Stands script host new (takes script host p (record { bay = sent.bay; ask = sent.ask; answer = answer }))

-- the request that a host has to make comes from what it has in hand
abbrev pub IsSentBy : Host → ℕ → Sent → Type 0
IsSentBy now moment sent = sent_by now.no now.clock moment (work_errand (work_of now.script.now (drop now.job now.jobs.now) now.attempt now.duty)) ≡ Some sent

-- it has an attempt in hand
abbrev pub IsTrying : Host → Type 0
IsTrying now = now.duty ≡ Some duties.Trying

-- one that has not ended
abbrev pub IsAsking : Host → Type 0
IsAsking now = (now.duty ≡ Some duties.Trying) × ((blocks : List (List ℕ)) → answer (left now.attempt blocks) ≡ None)

-- it has stopped with that in hand
abbrev pub Quits : Script → HostNo → Host → Host → Progress → Type 0
Quits script host old new p = (blocks : List (List ℕ)) (stop : Ended) →
    stopped (left old.attempt blocks) ≡ Some stop → Stands script host new (record (next_job (with_ending p (quit_end p.tries stop) [])) { work = Over })

-- the attempt in hand was told a reply
pub record Told (old new : Host) (reply : Reply) (ended : Option Ended) : Type 0 where
  pub in_hand : old.duty ≡ Some duties.Trying
  pub still_in_hand : new.duty ≡ Some duties.Trying
  pub steps : record { seen = new.numbers.seen; steps = left new.attempt (first_blocks old.script.now (drop old.job old.jobs.now)) }
      ≡ told old.numbers.host (record { seen = old.numbers.seen; steps = left old.attempt (first_blocks old.script.now (drop old.job old.jobs.now)) }) reply
  pub suits : Suits new.attempt (first_blocks old.script.now (drop old.job old.jobs.now))
  pub ends : (blocks : List (List ℕ)) → ended ≡ option_map (λ (f : Finish). f.ended) (answer (left new.attempt blocks))
  pub draws_for : new.numbers.host ≡ old.numbers.host
  pub number : new.no ≡ old.no
  pub plays : new.script ≡ old.script
  pub listed : new.jobs ≡ old.jobs
  pub job : new.job ≡ old.job
  pub asked : new.asked ≡ old.asked
  pub tries : new.tries ≡ old.tries
  pub row : new.row ≡ old.row
  pub gone : new.gone ≡ old.gone
  pub clock : new.clock ≡ old.clock
  pub results : new.results ≡ old.results
  pub contents : new.contents ≡ old.contents
  pub transcript : new.transcript ≡ old.transcript

-- a call was counted: only the clock, the count and the transcript are new
pub record IsNoted (old mid : Host) (clock : ℕ) : Type 0 where
  pub number : mid.no ≡ old.no
  pub plays : mid.script ≡ old.script
  pub listed : mid.jobs ≡ old.jobs
  pub job : mid.job ≡ old.job
  pub asked : mid.asked ≡ old.asked + 1
  pub tries : mid.tries ≡ old.tries
  pub row : mid.row ≡ old.row
  pub gone : mid.gone ≡ old.gone
  pub numbers : mid.numbers ≡ old.numbers
  pub duty : mid.duty ≡ old.duty
  pub attempt : mid.attempt ≡ old.attempt
  pub results : mid.results ≡ old.results
  pub contents : mid.contents ≡ old.contents
  pub clock_is : mid.clock ≡ clock

-- a host at its first request, with room for all that it may ask and report
pub record IsFreshHost (script : Script) (no : HostNo) (host : Host) : Type 0 where
  pub stands : Stands script no host (at_start script no)
  pub nothing : host.transcript.items ≡ []
  pub calls : host_requests script no ≤ vec_capacity host.transcript
  pub reads : host_contents script no ≤ vec_capacity host.contents
