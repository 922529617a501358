-- The results of a report, host by host: each in its range, and in order.
use Rattle.std.proofs.Common.{◌≡◌, ◌⊎◌, inl, inr, ℕ, suc, ◌+◌, ◌-◌, ◌^◌, ◌<◌, ◌≤◌, ◌==◌, ◌&&◌, ◌||◌, nat_lt, Bool, true, false, cond, List, [], ◌∷◌, ◌++◌, map, take, length, find, Option, Some, None, refl, sym, ap, subst, ◌∙◌, arith, length-append}
use Rattle.std.specs.Prelude.{flat_map, slice_get}
use Rattle.std.specs.Option.{option_map_or}
use Rattle.std.specs.List.{AllByRecursion, enumerate_from}
use Rattle.std.proofs.lemmas.Bool.Decides.{nat_tests}
use Rattle.raid_base.specs.declared.numbers.HostNo.{HostNo}
use Rattle.raid_base.specs.declared.messages.Call.{Call}
use Rattle.raid_base.specs.declared.jobs.Job.{Job}
use Rattle.raid_base.specs.declared.jobs.JobResult.{JobResult}
use Rattle.script_text.specs.Script.{Script, HostJobs, jobs_in, jobs_of, host_numbers}
use Rattle.script_text.specs.Ranges.{IsScript, Rise, all_jobs}
use Rattle.report_text.specs.Ranges.{IsEnd, AreJobs, last_of, job_follows, EachFollows}
use Rattle.report_text.specs.Views.{task_blocks, job_blocks, flag_count, flags_of}
use Rattle.report_text.specs.Told.{end_told, result_told}
use Rattle.histories.specs.Progress.{Ending}
use Rattle.histories.specs.History.{endings_at}
use Rattle.histories.specs.Results.{result_of, host_results, results, contents}
use Rattle.histories.proofs.endings.EndingLemmas.{endings_are_filled}

-- what is told of an ending keeps its range
abbrev pub EndTold : Ending → Type 0
EndTold e = IsEnd (end_told e.ended) e.contents (flag_count e.ended (task_blocks e.job.task))

-- Places of jobs
module _ (jobs : List Job) where
  -- the endings are of these jobs, from this one on
  abbrev AreAt : ℕ → List Ending → Type 0
  AreAt k [] = Unit {0}
  AreAt k (e ∷ es) = (slice_get jobs k ≡ Some e.job) × AreAt (k + 1) es

  at-jobs : (k : ℕ) (left : List Job) (es : List Ending) → ((j : ℕ) → slice_get jobs (k + j) ≡ slice_get left j) → map (λ (e : Ending). e.job) es ≡ take (length es) left → AreAt k es
  at-jobs k left [] at are = tt
  at-jobs k [] (e ∷ es) at are = absurd (cc)
  at-jobs k (first ∷ left) (e ∷ es) at are =
      let same : e.job ≡ first = cc in
      let later : map (λ (x : Ending). x.job) es ≡ take (length es) left = cc in
      (ap (slice_get jobs) start ∙ at 0 ∙ ap (λ (j : Job). Some j) (sym same), at-jobs (k + 1) left es (λ j. ap (slice_get jobs) (next j) ∙ at (suc j)) later)
    where
      start : k ≡ k + 0
      start = omega arith

      next : (j : ℕ) → k + 1 + j ≡ k + suc j
      next j = omega arith

few-endings : (jobs : List Job) (es : List Ending) → map (λ (e : Ending). e.job) es ≡ take (length es) jobs → length es ≤ length jobs
few-endings jobs [] are = omega arith
few-endings [] (e ∷ es) are = absurd (cc)
few-endings (first ∷ jobs) (e ∷ es) are =
    let later : map (λ (x : Ending). x.job) es ≡ take (length es) jobs = cc in
    let rest = few-endings jobs es later in omega (arith, rest)

-- a host has no more jobs than all have
few-jobs : (host : HostNo) (hosts : List HostJobs) →
    length (jobs_in (find (λ (h : HostJobs). h.host.0 == host.0) hosts)) ≤ length (flat_map (λ (h : HostJobs). h.jobs) hosts)
few-jobs host [] = omega arith
few-jobs host (first ∷ hosts) = by (first.host.0 == host.0) (few-jobs host hosts)
  where
    all : length (flat_map (λ (h : HostJobs). h.jobs) (first ∷ hosts)) ≡ length first.jobs + length (flat_map (λ (h : HostJobs). h.jobs) hosts)
    all = length-append first.jobs (flat_map (λ (h : HostJobs). h.jobs) hosts)

    by : (b : Bool) → length (jobs_in (find (λ (h : HostJobs). h.host.0 == host.0) hosts)) ≤ length (flat_map (λ (h : HostJobs). h.jobs) hosts) →
        length (jobs_in (cond b (Some first) (find (λ (h : HostJobs). h.host.0 == host.0) hosts))) ≤ length (flat_map (λ (h : HostJobs). h.jobs) (first ∷ hosts))
    by true rest = omega (arith, all)
    by false rest = omega (arith, all, rest)

module _ (script : Script) where
  -- Ranges
  own-jobs : (host : HostNo) → host.0 < 16 → (k : ℕ) (es : List Ending) (rs : List JobResult) (more : List Ending) → AllByRecursion EndTold es → AreAt (jobs_of script host) k es →
      k + length es ≤ 2 ^ 32 → AreJobs (map result_told rs) (map (λ (e : Ending). e.contents) more) (map (flags_of script) rs) →
      AreJobs (map result_told (map (result_of host) (enumerate_from k es) ++ rs)) (map (λ (e : Ending). e.contents) (es ++ more))
      (map (flags_of script) (map (result_of host) (enumerate_from k es) ++ rs))
  own-jobs host low k [] rs more all at few rest = rest
  own-jobs host low k (e ∷ es) rs more all at few rest = (
    record {
      host = record { low = omega arith; high = omega (arith, low) };
      job = record { low = omega arith; high = omega (arith, few) };
      «end» = subst (λ (o : Option Job). IsEnd (end_told e.ended) e.contents (flag_count e.ended (job_blocks o))) (sym at.0) all.0;
    },
    own-jobs host low (k + 1) es rs more all.1 at.1 (omega (arith, few)) rest,
  )

  module _ (history : List Call) where
    abbrev Endings : HostNo → List Ending
    Endings host = endings_at script history host

    hosts-jobs : IsScript script → length (all_jobs script) < 2 ^ 32 → (from : ℕ) (hosts : List HostNo) → Rise from hosts → AllByRecursion (λ (host : HostNo). AllByRecursion EndTold (Endings host)) hosts →
        AreJobs (map result_told (flat_map (host_results script history) hosts)) (map (λ (e : Ending). e.contents) (flat_map (endings_at script history) hosts))
        (map (flags_of script) (flat_map (host_results script history) hosts))
    hosts-jobs is few from [] rise all = tt
    hosts-jobs is few from (host ∷ hosts) rise all =
        let are = endings_are_filled script history host is in
        let ended = few-endings (jobs_of script host) (Endings host) are.jobs in
        let own = few-jobs host script.hosts in
        own-jobs host rise.1 0 (Endings host) (flat_map (host_results script history) hosts) (flat_map (endings_at script history) hosts) all.0
        (at-jobs (jobs_of script host) 0 (jobs_of script host) (Endings host) (λ j. ap (slice_get (jobs_of script host)) (start j)) are.jobs)
        (omega (arith, ended, own, few))
        (hosts-jobs is few (host.0 + 1) hosts rise.2 all.1)
      where
        start : (j : ℕ) → 0 + j ≡ j
        start j = omega arith

    pub jobs-in-range : IsScript script → length (all_jobs script) < 2 ^ 32 → AllByRecursion (λ (host : HostNo). AllByRecursion EndTold (Endings host)) (host_numbers script) →
        AreJobs (map result_told (results script history)) (contents script history) (map (flags_of script) (results script history))
    jobs-in-range is few all = hosts-jobs is few 0 (host_numbers script) is.hosts all

-- Order
abbrev Follows : Option JobResult → ℕ → ℕ → Type 0
Follows None host job = Unit {0}
Follows (Some last) host job = (last.host.0 < host) ⊎ ((last.host.0 ≡ host) × (last.job < job))

follows-test : (o : Option JobResult) (host job : ℕ) → Follows o host job →
    option_map_or (λ (last : JobResult). nat_lt last.host.0 host || (last.host.0 == host && nat_lt last.job job)) o true ≡ true
follows-test None host job f = refl
follows-test (Some last) host job (inl less) = grind (arith, nat_tests)
follows-test (Some last) host job (inr (same, less)) = grind (arith, nat_tests)

follows-later : (o : Option JobResult) (host job later : ℕ) → Follows o host job → host < later → Follows o later 0
follows-later None host job later f less = tt
follows-later (Some last) host job later (inl low) less = inl (omega (arith, low, less))
follows-later (Some last) host job later (inr (same, low)) less = inl (omega (arith, same, less))

-- the last of a list with one more
get-end : {X : Type 0} (before : List X) (x : X) → slice_get (before ++ x ∷ []) (length before) ≡ Some x
get-end [] x = refl
get-end (y ∷ ys) x = get-end ys x

pub last-one : {X : Type 0} (before : List X) (x : X) → last_of (before ++ x ∷ []) ≡ Some x
last-one before x = ap (slice_get (before ++ x ∷ [])) (let all = length-append before (x ∷ []) in let at : length (before ++ x ∷ []) - 1 ≡ length before = omega (arith, all) in at) ∙ get-end before x

abbrev pub JobsRise : List JobResult → List JobResult → Type 0
JobsRise before rs = EachFollows (λ (earlier : List JobResult) (r : JobResult). job_follows earlier r.host r.job ≡ true) before rs

own-rise : (host : HostNo) (k : ℕ) (es : List Ending) (rs before : List JobResult) → Follows (last_of before) host.0 k →
    ((later : List JobResult) (j : ℕ) → Follows (last_of later) host.0 j → JobsRise later (map result_told rs)) →
    JobsRise before (map result_told (map (result_of host) (enumerate_from k es) ++ rs))
own-rise host k [] rs before f on = on before k f
own-rise host k (e ∷ es) rs before f on =
    let r : JobResult = result_told (result_of host (k, e)) in (
      follows-test (last_of before) host.0 k f,
      own-rise host (k + 1) es rs (before ++ r ∷ []) (subst (λ (o : Option JobResult). Follows o host.0 (k + 1)) (sym (last-one before r)) (inr (refl, omega arith))) on,
    )

module _ (script : Script) (history : List Call) where
  hosts-rise : (from : ℕ) (hosts : List HostNo) (before : List JobResult) → Rise from hosts → ((host : ℕ) → from ≤ host → Follows (last_of before) host 0) →
      JobsRise before (map result_told (flat_map (host_results script history) hosts))
  hosts-rise from [] before rise f = tt
  hosts-rise from (host ∷ hosts) before rise f =
      own-rise host 0 (endings_at script history host) (flat_map (host_results script history) hosts) before (f host.0 rise.0)
      (λ later j g. hosts-rise (host.0 + 1) hosts later rise.2 (λ next more. follows-later (last_of later) host.0 j next g (omega (arith, more))))

  pub jobs-rise : IsScript script → JobsRise [] (map result_told (results script history))
  jobs-rise is = hosts-rise 0 (host_numbers script) [] is.hosts (λ host more. tt)
