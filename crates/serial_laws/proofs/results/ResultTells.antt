-- Results tell what was committed, and each content that a unit has taken is of a result.
use Rattle.std.proofs.Common.{◌≡◌, ◌⊎◌, inl, inr, refl, sym, ap, subst, ℕ, ◌%◌, ◌<◌, ◌==◌, ◌&&◌, Bool, true, false, cond, List, [], ◌∷◌, map, find, IsSome, Option, Some, None, arith}
use Rattle.std.specs.List.{AllByRecursion, list_all}
use Rattle.raid_base.specs.declared.numbers.HostNo.{HostNo}
use Rattle.raid_base.specs.declared.numbers.RowNo.{RowNo}
use Rattle.raid_base.specs.declared.numbers.Number.{Number}
use Rattle.raid_base.specs.declared.messages.Call.{Call}
use Rattle.raid_base.specs.declared.jobs.Job.{Job}
use Rattle.attempts.specs.Phases.{IsIn}
use Rattle.script_text.specs.Script.{Script, HostJobs, jobs_in, jobs_of, host_numbers}
use Rattle.script_text.specs.Ranges.{IsScript}
use Rattle.serial_array.specs.Serial.{number_of}
use Rattle.histories.specs.Progress.{Ending, Work, Trying, Losing, Fitting, Over, Progress, start_jobs, work_told, call_counted, is_over}
use Rattle.histories.specs.History.{if_taken, progress_at, endings_at, has_ended, IsHistory}
use Rattle.histories.proofs.hands.Attempting.{few-or-idle, idle-history}
use Rattle.histories.proofs.bounds.BoundsTakes.{before_start}
use Rattle.serial_laws.specs.Rising.{Taken, taken_at}
use Rattle.serial_laws.specs.Told.{Tells, IsOfResult, ResultsTell}
use Rattle.histories.specs.Turns.{all_ended}
use Rattle.serial_laws.proofs.results.ResultHands.{Told, AreTold, IsToldBy, Stands}
use Rattle.serial_laws.proofs.results.ResultSteps.{history-holds}
use Rattle.histories.proofs.steps.SameNumbers.{same-host}

-- Hosts. One that has no jobs has no results
idle-endings : (script : Script) (host : HostNo) (history : List Call) → jobs_of script host ≡ [] → endings_at script history host ≡ []
idle-endings script host [] none = subst (λ (js : List Job). (start_jobs script host js (before_start script host)).endings ≡ []) (sym none) refl
idle-endings script host (call ∷ earlier) none = by (call.ask.host.0 == host.0) (idle-endings script host earlier none) (idle-history script host earlier none)
  where
    p : Progress
    p = progress_at script host earlier

    by : (b : Bool) → p.endings ≡ [] → p.work ≡ Over → (if_taken script host p call b).endings ≡ []
    by true bare over = subst (λ (w : Work). (work_told script host (call_counted p call) call.answer.reply w).endings ≡ []) (sym over) bare
    by false bare over = bare

-- a host that has jobs is one of the script's
named-or-idle : (host : HostNo) (hosts : List HostJobs) → IsIn host (map (λ (h : HostJobs). h.host) hosts) ⊎ (jobs_in (find (λ (h : HostJobs). h.host.0 == host.0) hosts) ≡ [])
named-or-idle host [] = inr refl
named-or-idle host (first ∷ hosts) = by (first.host.0 == host.0) refl (named-or-idle host hosts)
  where
    by : (b : Bool) → (first.host.0 == host.0) ≡ b → IsIn host (map (λ (h : HostJobs). h.host) hosts) ⊎ (jobs_in (find (λ (h : HostJobs). h.host.0 == host.0) hosts) ≡ []) →
        IsIn host (first.host ∷ map (λ (h : HostJobs). h.host) hosts) ⊎ (jobs_in (cond b (Some first) (find (λ (h : HostJobs). h.host.0 == host.0) hosts)) ≡ [])
    by true e rest = inl (inl (same-host first.host host e))
    by false e (inl i) = inl (inr i)
    by false e (inr none) = inr none

all-hosts : (test : HostNo → Bool) (hosts : List HostNo) (host : HostNo) → list_all test hosts ≡ true → IsIn host hosts → test host ≡ true
all-hosts test [] host all i = absurd i
all-hosts test (first ∷ hosts) host all i = by (test first) refl all i (all-hosts test hosts host)
  where
    by : (b : Bool) → test first ≡ b → (b && list_all test hosts) ≡ true → (first ≡ host) ⊎ IsIn host hosts → (list_all test hosts ≡ true → IsIn host hosts → test host ≡ true) → test host ≡ true
    by true e all (inl same) more = subst (λ (x : HostNo). test x ≡ true) same e
    by true e all (inr i) more = more all i
    by false e all i more = absurd (cc)

module _ (script : Script) (is : IsScript script) (history : List Call) (along : IsHistory script history) where
  -- Results tell
  stands-told : (host : HostNo) (p : Progress) (w : Work) → Stands script host (taken_at script history) p.jobs p.endings p.calls p.seen w → AreTold script host (taken_at script history) p.endings
  stands-told host p (Trying steps) h = h.told
  stands-told host p (Losing bay) h = h.told
  stands-told host p (Fitting bay) h = h.told
  stands-told host p Over h = h.told

  tells-of : (host : HostNo) (e : Ending) → ((n : Number) → number_of e.ended ≡ Some n → Told script host (taken_at script history) e n) → IsSome (number_of e.ended) → Tells script history host e
  tells-of host e told some = by (number_of e.ended) refl some
    where
      by : (o : Option Number) → number_of e.ended ≡ o → IsSome o → Tells script history host e
      by (Some n) has s =
          let h = told n has in
          record {
            number = n;
            numbered = has;
            id = h.id;
            done = h.done;
            ended = h.ended;
            same = h.same;
            tells = h.tells;
            taken = h.taken;
            only = λ row unit t below inside i at. h.only row unit t i at;
          }
      by None has s = absurd (cc)

  all-tell : (host : HostNo) (endings : List Ending) → AreTold script host (taken_at script history) endings → AllByRecursion (λ (e : Ending). IsSome (number_of e.ended) → Tells script history host e) endings
  all-tell host [] told = tt
  all-tell host (e ∷ es) told = (tells-of host e told.0, all-tell host es told.1)

  hosts-tell : (host : HostNo) → AllByRecursion (λ (e : Ending). IsSome (number_of e.ended) → Tells script history host e) (endings_at script history host)
  hosts-tell host = by (few-or-idle 0 host script.hosts is.hosts)
    where
      by : (host.0 < 16) ⊎ (jobs_of script host ≡ []) → AllByRecursion (λ (e : Ending). IsSome (number_of e.ended) → Tells script history host e) (endings_at script history host)
      by (inl few) =
          all-tell host (endings_at script history host)
          (stands-told host (progress_at script host history) (progress_at script host history).work (history-holds script is host few history along))
      by (inr none) =
          subst (λ (es : List Ending). AllByRecursion (λ (e : Ending). IsSome (number_of e.ended) → Tells script history host e) es) (sym (idle-endings script host history none)) tt

  -- Each content is of a result
  module _ (over : all_ended script history ≡ true) (row : RowNo) (unit : ℕ) where
    over-told : (host : HostNo) (p : Progress) (w : Work) → is_over w ≡ true → Stands script host (taken_at script history) p.jobs p.endings p.calls p.seen w → (t : Taken) →
        IsIn t (taken_at script history row unit) → t.number.0 % 16 ≡ host.0 → IsToldBy script host (taken_at script history) p.endings t
    over-told host p (Trying steps) ended h t i own = absurd (let bad : false ≡ true = ended in cc)
    over-told host p (Losing bay) ended h t i own = absurd (let bad : false ≡ true = ended in cc)
    over-told host p (Fitting bay) ended h t i own = absurd (let bad : false ≡ true = ended in cc)
    over-told host p Over ended h t i own = h.whose row unit t i own

    idle-over : (host : HostNo) → jobs_of script host ≡ [] → has_ended script history host ≡ true
    idle-over host none = ap is_over (idle-history script host history none)

    of-result : (t : Taken) → IsIn t (taken_at script history row unit) → IsOfResult script history t
    of-result t i = by (named-or-idle host script.hosts)
      where
        host : HostNo
        host = record { 0 = t.number.0 % 16 }

        told : has_ended script history host ≡ true → IsToldBy script host (taken_at script history) (endings_at script history host) t
        told ended = over-told host (progress_at script host history) (progress_at script host history).work ended (history-holds script is host (omega arith) history along) t i refl

        by : IsIn host (host_numbers script) ⊎ (jobs_of script host ≡ []) → IsOfResult script history t
        by (inl named) = let found = told (all-hosts (has_ended script history) (host_numbers script) host over named) in (host, found.0, named, found.1, found.2)
        by (inr none) =
            let found = told (idle-over host none) in
            absurd (subst (λ (es : List Ending). IsIn found.0 es) (idle-endings script host history none) found.1)

    all-of : (ts : List Taken) → ((t : Taken) → IsIn t ts → IsOfResult script history t) → AllByRecursion (IsOfResult script history) ts
    all-of [] each = tt
    all-of (t ∷ ts) each = (each t (inl refl), all-of ts (λ x i. each x (inr i)))

    contents-told : AllByRecursion (IsOfResult script history) (taken_at script history row unit)
    contents-told = all-of (taken_at script history row unit) of-result

pub results_tell : ResultsTell
results_tell script history is along = (hosts-tell script is history along, λ over row unit below inside. contents-told script is history along over row unit)
