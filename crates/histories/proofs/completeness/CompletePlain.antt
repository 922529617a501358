-- Jobs that are not to stop, and whose replies are no refusals by the rules of slots, are done: a case of the wider law.
use Rattle.std.proofs.Common.{◌≡◌, ◌⊎◌, refl, sym, subst, ℕ, ◌+◌, ◌^◌, ◌≤◌, ◌&&◌, not, Bool, false, List, [], ◌∷◌, Option, None}
use Rattle.std.specs.Prelude.{IsOk}
use Rattle.std.specs.List.{AllByRecursion}
use Rattle.raid_base.specs.declared.numbers.HostNo.{HostNo}
use Rattle.raid_base.specs.declared.messages.Call.{Call}
use Rattle.raid_base.specs.declared.jobs.Job.{Job}
use Rattle.script_text.specs.Script.{Script}
use Rattle.script_text.specs.Ranges.{IsScript}
use Rattle.script_text.specs.Weights.{total}
use Rattle.histories.specs.Plain.{task_parts}
use Rattle.histories.specs.Progress.{Ending, stops_at, job_stops}
use Rattle.histories.specs.Causes.{IsReadOrWrite}
use Rattle.histories.specs.History.{IsHistory, progress_at, endings_at}
use Rattle.histories.specs.Completeness.{MeetNoRefusal, IsDoneBy, is_cut, IsDoneUnrefused, IsUnderWay, IsDoneWith, CanBeDone, ends_by, UnrefusedGoOn}
use Rattle.histories.proofs.completeness.CompleteCauses.{plain_calls_are_unrefused}
use Rattle.histories.proofs.completeness.CompleteHistory.{unrefused_jobs_are_done}
use Rattle.histories.proofs.completeness.CompleteSteps.{unrefused_attempts_go_on}

-- without a quit a host does not stop
never-stops : (quit : Option ℕ) (asked : ℕ) (b : Bool) → quit ≡ None → (stops_at quit asked && b) ≡ false
never-stops quit asked b none = subst (λ (q : Option ℕ). (stops_at q asked && b) ≡ false) (sym none) refl

-- such a job that has ended
abbrev IsDonePlain : Script → Ending → Type 0
IsDonePlain script e =
    IsReadOrWrite e.job.task → e.job.quit ≡ None → IsOk (task_parts script e.job.task) → MeetNoRefusal e.calls → IsDoneBy e.job.task e.ended

are-plain : (script : Script) (endings : List Ending) → AllByRecursion (IsDoneUnrefused script) endings → AllByRecursion (IsDonePlain script) endings
are-plain script [] h = tt
are-plain script (e ∷ es) h = (
  λ plain quit ok good. h.0 plain ok (never-stops e.job.quit e.asked (is_cut e.ended) quit) (plain_calls_are_unrefused script.mode e.calls good),
  are-plain script es h.1,
)

plain_jobs_are_done : (script : Script) (history : List Call) → IsScript script → total script ≤ 2 ^ 20 → IsHistory script history → (host : HostNo)
    → AllByRecursion (IsDonePlain script) (endings_at script history host)
plain_jobs_are_done script history is light along host = are-plain script (endings_at script history host) (unrefused_jobs_are_done script history is light along host)

-- such an attempt in hand
abbrev CanBePlain : Script → List Job → Type 0
CanBePlain script [] = ⊥
CanBePlain script (job ∷ jobs) = IsReadOrWrite job.task × (job.quit ≡ None) × IsOk (task_parts script job.task)

can-be : (script : Script) (jobs : List Job) → CanBePlain script jobs → CanBeDone script jobs
can-be script [] can = can
can-be script (job ∷ jobs) can = (can.0, can.2)

stays-in : (script : Script) (jobs : List Job) (asked : ℕ) (b : Bool) → CanBePlain script jobs → (job_stops jobs asked && b) ≡ false
stays-in script [] asked b can = absurd can
stays-in script (job ∷ jobs) asked b can = never-stops job.quit asked b can.1

plain_attempts_go_on : (script : Script) (earlier : List Call) (call : Call) → IsScript script → total script ≤ 2 ^ 20 → IsHistory script (call ∷ earlier)
    → CanBePlain script (progress_at script call.ask.host earlier).jobs → MeetNoRefusal (call ∷ (progress_at script call.ask.host earlier).calls)
    → IsUnderWay (progress_at script call.ask.host earlier) (progress_at script call.ask.host (call ∷ earlier)) call
    ⊎ IsDoneWith (progress_at script call.ask.host earlier) (progress_at script call.ask.host (call ∷ earlier)) call
plain_attempts_go_on script earlier call is light along can good =
    let go : UnrefusedGoOn script (call ∷ earlier) = unrefused_attempts_go_on script (call ∷ earlier) is light along in
    let p = progress_at script call.ask.host earlier in
    go.1 (can-be script p.jobs can) (stays-in script p.jobs (p.asked + 1) (not (ends_by call.ask.host p call.answer.reply p.work)) can)
    (plain_calls_are_unrefused script.mode (call ∷ p.calls) good)
