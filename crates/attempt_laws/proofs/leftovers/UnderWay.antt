-- What a host has in hand is led by its calls.
use Rattle.std.proofs.Common.{◌≡◌, refl, subst, ℕ, true, List, [], ◌∷◌, Some}
use Rattle.raid_base.specs.declared.numbers.HostNo.{HostNo}
use Rattle.raid_base.specs.declared.numbers.Number.{Number}
use Rattle.raid_base.specs.declared.messages.Call.{Call}
use Rattle.raid_base.specs.declared.messages.Errand.{Errand}
use Rattle.raid_base.specs.declared.messages.Reply.{Reply}
use Rattle.raid_base.specs.declared.jobs.Ended.{Ended}
use Rattle.raid_base.specs.declared.jobs.Job.{Job}
use Rattle.raid_base.specs.declared.jobs.Task.{Task}
use Rattle.raid_base.specs.Fits.{fits}
use Rattle.raid_base.specs.Steps.{Steps, Asks, Commit, settled, told, next_errand, errand_of}
use Rattle.attempts.specs.Taking.{Finish}
use Rattle.script_text.specs.Script.{Script}
use Rattle.script_text.specs.Ranges.{IsScript}
use Rattle.histories.specs.Hands.{Led, HasWork}
use Rattle.histories.specs.History.{IsHistory, progress_at}
use Rattle.histories.specs.Progress.{Work, Trying, Losing, Fitting, Over, Progress, attempt}
use Rattle.histories.proofs.hands.Attempting.{hands_hold_attempts}
use Rattle.attempt_laws.specs.Leftovers.{WasUnderWay}

module _ (script : Script) (host : HostNo) where
  -- calls have led an attempt of the first job to these steps
  abbrev pub IsLed : List Job → List Call → Number → Steps Finish → Type 0
  IsLed [] calls seen steps = Unit {0}
  IsLed (job ∷ jobs) calls seen steps =
      (id : Number) × (row : ℕ) × Led host (settled host id (attempt script host id row job.task)) calls (record { seen = seen; steps = steps })

  abbrev pub IsWorkLed : List Job → List Call → Number → Work → Type 0
  IsWorkLed jobs calls seen (Trying steps) = IsLed jobs calls seen steps
  IsWorkLed jobs calls seen (Losing bay) = Unit {0}
  IsWorkLed jobs calls seen (Fitting bay) = Unit {0}
  IsWorkLed jobs calls seen Over = Unit {0}

  pub led-on : (jobs : List Job) (calls : List Call) (seen : Number) (steps : Steps Finish) (call : Call) → next_errand steps ≡ Some (errand_of call) → fits call.ask.what call.answer.reply ≡ true → IsLed jobs calls seen steps →
      IsLed jobs (call ∷ calls) (told host (record { seen = seen; steps = steps }) call.answer.reply).seen (told host (record { seen = seen; steps = steps }) call.answer.reply).steps
  led-on [] calls seen steps call asked fit led = tt
  led-on (job ∷ jobs) calls seen steps call asked fit led = (led.0, led.1, (record { seen = seen; steps = steps }, led.2, asked, fit, refl))

  pub under-way : (job : Job) (jobs : List Job) (calls : List Call) (seen : Number) (e : Errand) (stop : Ended) (commits : List Commit) (k : Reply → Steps Finish) → IsLed (job ∷ jobs) calls seen (Asks e stop commits k) →
      WasUnderWay script host job.task calls
  under-way job jobs calls seen e stop commits k led = (led.0, led.1, record { seen = seen; steps = Asks e stop commits k }, led.2, refl)

  work-led : (jobs : List Job) (row : ℕ) (seen : Number) (calls : List Call) (work : Work) → HasWork script host jobs row seen calls work → IsWorkLed jobs calls seen work
  work-led [] row seen calls (Trying steps) h = tt
  work-led (job ∷ jobs) row seen calls (Trying steps) h =
      let first : Some job.task ≡ Some h.task = h.first in
      let same : h.task ≡ job.task = cc in
      (h.id, row, subst (λ (task : Task). Led host (settled host h.id (attempt script host h.id row task)) calls (record { seen = seen; steps = steps })) same h.led)
  work-led jobs row seen calls (Losing bay) h = tt
  work-led jobs row seen calls (Fitting bay) h = tt
  work-led jobs row seen calls Over h = tt

  pub hands-led : (history : List Call) → IsScript script → IsHistory script history →
      let p = progress_at script host history in IsWorkLed p.jobs p.calls p.seen p.work
  hands-led history is h =
      let p : Progress = progress_at script host history in
      work-led p.jobs p.row p.seen p.calls p.work (hands_hold_attempts script history host is h)
