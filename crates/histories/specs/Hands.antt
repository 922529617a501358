-- What a host has in hand: an attempt of its job, after the calls of that attempt.
use Rattle.std.specs.Prelude.{◌≡◌, ℕ, ◌%◌, ◌^◌, ◌<◌, ◌≤◌, true, List, [], ◌∷◌, Some, None}
use Rattle.raid_base.specs.declared.numbers.HostNo.{HostNo}
use Rattle.raid_base.specs.declared.numbers.Number.{Number}
use Rattle.raid_base.specs.declared.messages.Call.{Call}
use Rattle.raid_base.specs.declared.jobs.Job.{Job}
use Rattle.raid_base.specs.declared.jobs.Task.{Task}
use Rattle.raid_base.specs.Fits.{fits}
use Rattle.raid_base.specs.Steps.{Steps, Standing, settled, told, next_errand, errand_of}
use Rattle.attempts.specs.Taking.{Finish}
use Rattle.attempts.specs.Phases.{Past, begins, after, Keeps}
use Rattle.script_text.specs.Script.{Script}
use Rattle.script_text.specs.Ranges.{IsScript, IsTask}
use Rattle.histories.specs.Plain.{IsTried}
use Rattle.histories.specs.Progress.{Work, Trying, Losing, Fitting, Over, Progress, attempt, task_of}
use Rattle.histories.specs.History.{IsHistory, progress_at}

-- These calls, the newest first, were asked in turn by steps that stood so, with replies that fit, and lead to where they stand now.
abbrev pub Led : HostNo → Standing Finish → List Call → Standing Finish → Type 0
Led host start [] now = start ≡ now
Led host start (call ∷ earlier) now =
    (before : Standing Finish) × Led host start earlier before × (next_errand before.steps ≡ Some (errand_of call)) × (fits call.ask.what call.answer.reply ≡ true)
    × (told host before call.answer.reply ≡ now)

-- an attempt of the first of these jobs, which has an id of its host and has made these calls
pub record InHand (script : Script) (host : HostNo) (jobs : List Job) (row : ℕ) (seen : Number) (calls : List Call) (steps : Steps Finish) : Type 0 where
  pub task : Task
  pub first : task_of jobs ≡ Some task
  pub is : IsTask script host task
  pub tried : IsTried script task
  pub id : Number
  pub own : id.0 % 16 ≡ host.0
  pub least : 1 ≤ id.0
  pub most : id.0 < 2 ^ 62
  pub led : Led host (settled host id (attempt script host id row task)) calls (record { seen = seen; steps = steps })

-- a host that has an attempt in hand is in its midst so
abbrev pub HasWork : Script → HostNo → List Job → ℕ → Number → List Call → Work → Type 0
HasWork script host jobs row seen calls (Trying steps) = InHand script host jobs row seen calls steps
HasWork script host jobs row seen calls (Losing bay) = Unit {0}
HasWork script host jobs row seen calls (Fitting bay) = Unit {0}
HasWork script host jobs row seen calls Over = Unit {0}

abbrev pub IsInHand : Script → HostNo → Progress → Type 0
IsInHand script host p = HasWork script host p.jobs p.row p.seen p.calls p.work

-- So it is in every history.
abbrev pub HandsHoldAttempts : Type 0
HandsHoldAttempts = (script : Script) (history : List Call) (host : HostNo) → IsScript script → IsHistory script history → IsInHand script host (progress_at script host history)

-- what calls have done, the newest first
abbrev pub past_of : List Call → Past
past_of [] = begins None
past_of (call ∷ earlier) = after (past_of earlier) (errand_of call) call.answer.reply

-- the same slots and rows, in a phase that is no earlier: drawing a number leads to a later one
pub record Same (x y : Past) : Type 0 where
  pub claimed : x.claimed ≡ y.claimed
  pub granted : x.granted ≡ y.granted
  pub confirmed : x.confirmed ≡ y.confirmed
  pub put : x.put ≡ y.put
  pub phase : y.phase ≤ x.phase

abbrev pub Any : Past → Finish → Type 0
Any past finish = Unit {0}

-- steps that keep their phases after these calls
pub record Phased (n : ℕ) (id : Number) (calls : List Call) (steps : Steps Finish) : Type 0 where
  pub past : Past
  pub keeps : Keeps n id Any past steps
  pub same : Same past (past_of calls)

-- So it is with each attempt in hand.
abbrev pub HandsKeepPhases : Type 0
HandsKeepPhases = (script : Script) (history : List Call) (host : HostNo) (steps : Steps Finish) → IsScript script → IsHistory script history →
    let p = progress_at script host history in
    (h : InHand script host p.jobs p.row p.seen p.calls steps) → Phased script.n h.id p.calls steps
