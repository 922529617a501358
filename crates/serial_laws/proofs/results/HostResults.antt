-- The results of a host are those of its jobs, and their numbers rise; no two results have one number.
use Rattle.std.proofs.Common.{◌≡◌, ◌⊎◌, inl, inr, refl, sym, ap, ◌∙◌, ℕ, ◌+◌, ◌<◌, ◌==◌, ◌&&◌, Bool, true, false, cond, List, [], ◌∷◌, length, take, map, find, Some, arith}
use Rattle.std.specs.List.{list_all}
use Rattle.std.proofs.lemmas.List.{length-map}
use Rattle.raid_base.specs.declared.numbers.HostNo.{HostNo}
use Rattle.raid_base.specs.declared.messages.Call.{Call}
use Rattle.raid_base.specs.declared.jobs.Job.{Job}
use Rattle.script_text.specs.Script.{Script, HostJobs, jobs_in, jobs_of, host_numbers}
use Rattle.script_text.specs.Ranges.{IsScript}
use Rattle.script_text.specs.Ranges as ranges
use Rattle.serial_array.specs.Serial.{Reported, numbered, Rise, EndsWithQuit, HasResults}
use Rattle.histories.specs.Progress.{Ending, Work, Trying, Losing, Fitting, Over, is_over}
use Rattle.histories.specs.Endings.{AreEndings}
use Rattle.histories.specs.History.{progress_at, endings_at, has_ended}
use Rattle.histories.proofs.endings.EndingLemmas.{endings_are_filled}
use Rattle.serial_laws.specs.Headline.{reported, reported_at}
use Rattle.serial_laws.specs.Told.{HostsHaveResults, NumbersAreApart}
use Rattle.serial_laws.proofs.results.ResultNumbers.{AllOwn, hosts-apart}
use Rattle.serial_laws.proofs.results.ResultWalks.{told_of, Good, HasInHand, Stands, history-stands}
use Rattle.histories.proofs.steps.SameNumbers.{same-host}

both : (a b : Bool) → (a && b) ≡ true → (a ≡ true) × (b ≡ true)
both true b e = (refl, e)
both false b e = absurd (let bad : false ≡ true = e in cc)

-- a host that the script lists has ended, and is below 16; another has no jobs
listed-or-idle : (ended : HostNo → Bool) (from : ℕ) (host : HostNo) (hosts : List HostJobs) → ranges.Rise from (map (λ (h : HostJobs). h.host) hosts) →
    list_all ended (map (λ (h : HostJobs). h.host) hosts) ≡ true →
    ((host.0 < 16) × (ended host ≡ true)) ⊎ (jobs_in (find (λ (h : HostJobs). h.host.0 == host.0) hosts) ≡ [])
listed-or-idle ended from host [] rise all = inr refl
listed-or-idle ended from host (first ∷ hosts) rise all = by (first.host.0 == host.0) refl (listed-or-idle ended (first.host.0 + 1) host hosts rise.2 parts.1)
  where
    parts : (ended first.host ≡ true) × (list_all ended (map (λ (h : HostJobs). h.host) hosts) ≡ true)
    parts = both (ended first.host) (list_all ended (map (λ (h : HostJobs). h.host) hosts)) all

    by : (b : Bool) → (first.host.0 == host.0) ≡ b → ((host.0 < 16) × (ended host ≡ true)) ⊎ (jobs_in (find (λ (h : HostJobs). h.host.0 == host.0) hosts) ≡ []) →
        ((host.0 < 16) × (ended host ≡ true)) ⊎ (jobs_in (cond b (Some first) (find (λ (h : HostJobs). h.host.0 == host.0) hosts)) ≡ [])
    by true e rest =
        let same : first.host ≡ host = same-host first.host host e in
        let at : first.host.0 ≡ host.0 = ap (λ (h : HostNo). h.0) same in
        let less : first.host.0 < 16 = rise.1 in
        inl (omega (arith, less, at), sym (ap ended same) ∙ parts.0)
    by false e rest = rest

-- Endings and what is reported of them
jobs-same : (endings : List Ending) → map (λ (e : Reported). e.job) (told_of endings) ≡ map (λ (e : Ending). e.job) endings
jobs-same [] = refl
jobs-same (e ∷ es) = ap (λ (jobs : List Job). e.job ∷ jobs) (jobs-same es)

jobs-reported : (script : Script) (host : HostNo) (endings : List Ending) → AreEndings script host endings →
    map (λ (e : Reported). e.job) (told_of endings) ≡ take (length (told_of endings)) (jobs_of script host)
jobs-reported script host endings are = jobs-same endings ∙ are.jobs ∙ ap (λ (k : ℕ). take k (jobs_of script host)) (sym (length-map endings reported))

-- a host without jobs has no results
none-ended : (jobs : List Job) (endings : List Ending) → jobs ≡ [] → map (λ (e : Ending). e.job) endings ≡ take (length endings) jobs → endings ≡ []
none-ended jobs [] none are = refl
none-ended [] (e ∷ es) none are = absurd (let bad : e.job ∷ map (λ (x : Ending). x.job) es ≡ [] = are in cc)
none-ended (job ∷ jobs) (e ∷ es) none are = absurd (cc)

module _ (script : Script) (history : List Call) (is : IsScript script) (host : HostNo) where
  abbrev endings : List Ending
  endings = endings_at script history host

  are : AreEndings script host endings
  are = endings_are_filled script history host is

  idle-results : jobs_of script host ≡ [] → (es : List Ending) → es ≡ [] → AreEndings script host es → HasResults script host (told_of es)
  idle-results none [] empty filled = record { jobs = jobs-reported script host [] filled; all = inl (sym (ap length none)); rise = tt }
  idle-results none (e ∷ es) empty filled = absurd (cc)

  all-of : (few : host.0 < 16) (work : Work) → is_over work ≡ true → Good script host few (progress_at script host history).jobs (progress_at script host history).seen endings →
      HasInHand script host few (progress_at script host history).jobs (progress_at script host history).seen endings work →
      (length (told_of endings) ≡ length (jobs_of script host)) ⊎ EndsWithQuit (told_of endings)
  all-of few (Trying steps) over g h = absurd (let bad : false ≡ true = over in cc)
  all-of few (Losing bay) over g h = absurd (let bad : false ≡ true = over in cc)
  all-of few (Fitting bay) over g h = absurd (let bad : false ≡ true = over in cc)
  all-of few Over over g (inr quits) = inr quits
  all-of few Over over g (inl none) =
      let left : length (progress_at script host history).jobs ≡ 0 = ap length none in
      let count : length endings + length (progress_at script host history).jobs ≡ length (jobs_of script host) = g.count in
      let same : length (told_of endings) ≡ length endings = length-map endings reported in
      inl (omega (arith, left, count, same))

  over-results : host.0 < 16 → has_ended script history host ≡ true → HasResults script host (reported_at script history host)
  over-results few over =
      let s : Stands script host few (progress_at script host history) = history-stands script host few history in
      record { jobs = jobs-reported script host endings are; all = all-of few (progress_at script host history).work over s.0 s.1; rise = s.0.rising.rise }

  own-results : host.0 < 16 → Rise (numbered (reported_at script history host)) × AllOwn host (numbered (reported_at script history host))
  own-results few =
      let s : Stands script host few (progress_at script host history) = history-stands script host few history in
      (s.0.rising.rise, s.0.rising.own)

pub hosts_have_results : HostsHaveResults
hosts_have_results script history is along over host = by (listed-or-idle (has_ended script history) 0 host script.hosts is.hosts over)
  where
    by : ((host.0 < 16) × (has_ended script history host ≡ true)) ⊎ (jobs_of script host ≡ []) → HasResults script host (reported_at script history host)
    by (inl listed) = over-results script history is host listed.0 listed.1
    by (inr none) =
        idle-results script history is host none (endings_at script history host)
        (none-ended (jobs_of script host) (endings_at script history host) none (are script history is host).jobs) (are script history is host)

pub numbers_are_apart : NumbersAreApart
numbers_are_apart script history is along = hosts-apart (reported_at script history) (λ host few. own-results script history is host few) 0 (host_numbers script) is.hosts
