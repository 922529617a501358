-- No host asks a bay more often than its quota.
use Rattle.std.proofs.Common.{◌≡◌, ℕ, ◌+◌, ◌*◌, ◌<◌, ◌≤◌, ◌==◌, ◌&&◌, List, [], ◌∷◌, ◌++◌, length, map, Bool, true, false, cond, if◌then◌else◌, Some, Result, Ok, Err, sum_by, refl, ap, subst, arith}
use Rattle.std.specs.List.{All, Contains, find}
use Rattle.std.proofs.lemmas.List.{length-append}
use Rattle.std.proofs.lemmas.List.Sums.{sum_by-cons}
use Rattle.std.proofs.lemmas.List.Elements.{All-head, All-tail}
use Rattle.std.proofs.lemmas.Bool.Decides.{nat_tests}
use Rattle.raid_base.specs.declared.numbers.HostNo.{HostNo}
use Rattle.raid_base.specs.declared.numbers.BayNo.{BayNo}
use Rattle.raid_base.specs.declared.messages.Call.{Call}
use Rattle.raid_base.specs.declared.jobs.Job.{Job}
use Rattle.raid_base.specs.declared.jobs.Task.{Task}
use Rattle.raid_base.specs.declared.jobs.Task.TheVariants as tasks
use Rattle.raid_base.specs.declared.jobs.RowPart.{RowPart}
use Rattle.raid_base.specs.declared.jobs.PartsFault.{PartsFault}
use Rattle.attempts.specs.BayBounds.{count_at}
use Rattle.script_text.specs.Script.{Script, HostJobs, jobs_in, jobs_of, parts_of, host_numbers}
use Rattle.script_text.specs.Ranges.{IsScript, Rise}
use Rattle.script_text.specs.Weights.{weight, weights, quota, total, touched}
use Rattle.histories.specs.History.{journal, entry_of}
use Rattle.histories.specs.Bounds.{parts_requests, job_requests, host_requests}
use Rattle.histories.specs.Quotas.{calls_at, all_quotas, RequestsKeepQuotas, TotalsCoverRequests}
use Rattle.histories.proofs.bounds.BoundsMeasures.{by_weights}
use Rattle.histories.proofs.bounds.BoundsHistory.{sums-le, sums-more, counted, if_counted, along-history, callers-listed, requests_are_bounded}

-- the calls at a bay are what its measure counts
pub counted-at : (host : HostNo) (bay : BayNo) (history : List Call) → counted (count_at bay) host history ≡ calls_at host bay history
counted-at host bay [] = refl
counted-at host bay (call ∷ earlier) = by (call.ask.host.0 == host.0) (counted-at host bay earlier)
  where
    here : (at : Bool) (before calls : ℕ) → before ≡ calls → before + (if at then 1 else 0) ≡ (if at then calls + 1 else calls)
    here true before calls same = omega (arith, same)
    here false before calls same = omega (arith, same)

    by : (mine : Bool) → counted (count_at bay) host earlier ≡ calls_at host bay earlier →
        if_counted (count_at bay) (counted (count_at bay) host earlier) call mine
        ≡ (if mine && (call.bay.0 == bay.0) then calls_at host bay earlier + 1 else calls_at host bay earlier)
    by true same = here (call.bay.0 == bay.0) (counted (count_at bay) host earlier) (calls_at host bay earlier) same
    by false same = same

-- each entry of a bay is a call of its host there
with-visit : (before : ℕ) (here : Bool) → before ≤ (if here then before + 1 else before)
with-visit before true = omega arith
with-visit before false = omega arith

own-visit : (before k : ℕ) (mine : Bool) → (k == k) ≡ mine → before + 1 ≤ (if mine && true then before + 1 else before)
own-visit before k true e = omega arith
own-visit before k false e = absurd (grind (arith, nat_tests))

module _ (hosts : List HostNo) (bay : BayNo) where
  visited : (call : Call) (earlier : List Call) → Contains hosts call.ask.host → (here : Bool) →
      length (journal bay earlier) ≤ sum_by (λ (host : HostNo). calls_at host bay earlier) hosts →
      length (if here then journal bay earlier ++ entry_of call ∷ [] else journal bay earlier)
      ≤ sum_by (λ (host : HostNo). if (call.ask.host.0 == host.0) && here then calls_at host bay earlier + 1 else calls_at host bay earlier) hosts
  visited call earlier at true before =
      let f : HostNo → ℕ = λ host. calls_at host bay earlier in
      let g : HostNo → ℕ = λ host. if (call.ask.host.0 == host.0) && true then calls_at host bay earlier + 1 else calls_at host bay earlier in
      omega (
        arith,
        before,
        length-append (journal bay earlier) (entry_of call ∷ []),
        sums-more f g call.ask.host (λ host. with-visit (calls_at host bay earlier) ((call.ask.host.0 == host.0) && true))
            (own-visit (calls_at call.ask.host bay earlier) call.ask.host.0 (call.ask.host.0 == call.ask.host.0) refl) hosts at.0 at.1 at.2,
      )
  visited call earlier at false before =
      let f : HostNo → ℕ = λ host. calls_at host bay earlier in
      let g : HostNo → ℕ = λ host. if (call.ask.host.0 == host.0) && false then calls_at host bay earlier + 1 else calls_at host bay earlier in
      omega (arith, before, sums-le f g (λ host. with-visit (calls_at host bay earlier) ((call.ask.host.0 == host.0) && false)) hosts)

  all-visited : (history : List Call) → All (λ (call : Call). Contains hosts call.ask.host) history →
      length (journal bay history) ≤ sum_by (λ (host : HostNo). calls_at host bay history) hosts
  all-visited [] among = omega arith
  all-visited (call ∷ earlier) among =
      visited call earlier (All-head (λ (c : Call). Contains hosts c.ask.host) call earlier among) (call.bay.0 == bay.0)
      (all-visited earlier (All-tail (λ (c : Call). Contains hosts c.ask.host) call earlier among))

-- a job's requests go to n bays
parts-within : (n tries : ℕ) (r : Result (List RowPart) PartsFault) → 1 * (tries * parts_requests n r) ≤ n * (4 * tries * touched r)
parts-within n tries (Ok parts) = omega arith
parts-within n tries (Err fault) = omega arith

task-within : (script : Script) → IsScript script → (job : Job) (task : Task) → job.task ≡ task → job_requests script job ≤ script.n * weight script task
task-within script is job task same = subst (λ (t : Task). job_requests script job ≤ script.n * weight script t) same (by job.task job.quit)
  where
    by : (t : Task) (quit : _) → job_requests script (record { task = t; quit = quit }) ≤ script.n * weight script t
    by (tasks.Read object first count) quit = parts-within script.n script.tries (parts_of script object first count)
    by (tasks.Write object first from count) quit = parts-within script.n script.tries (parts_of script object first count)
    by (tasks.Recover row) quit = omega arith
    by (tasks.Lose bay) quit = let some = is.devices_least in omega (arith, some)
    by (tasks.Fit bay) quit = let some = is.devices_least in omega (arith, some)
    by (tasks.Rebuild bay) quit = omega arith

module _ (script : Script) (is : IsScript script) where
  jobs-within : (jobs : List Job) → sum_by (job_requests script) jobs ≤ script.n * weights script jobs
  jobs-within [] = omega arith
  jobs-within (job ∷ jobs) =
      let w : Job → ℕ = λ j. weight script j.task in
      omega (
        arith,
        sum_by-cons (job_requests script) job jobs,
        ap (λ (k : ℕ). script.n * k) (sum_by-cons w job jobs),
        task-within script is job job.task refl,
        jobs-within jobs,
      )

  host-within : (host : HostNo) → host_requests script host ≤ script.n * quota script host
  host-within host = jobs-within (jobs_of script host)

-- Sums over hosts
sum-times : {X : Type 0} (n : ℕ) (f : X → ℕ) (xs : List X) → sum_by (λ (x : X). n * f x) xs ≡ n * sum_by f xs
sum-times n f [] = omega arith
sum-times n f (x ∷ xs) = omega (arith, sum_by-cons (λ y. n * f y) x xs, ap (λ (k : ℕ). n * k) (sum_by-cons f x xs), sum-times n f xs)

module _ (W : List Job → ℕ) where
  -- what the jobs of a host weigh
  abbrev found : List HostJobs → HostNo → ℕ
  found hosts host = W (jobs_in (find (λ (h : HostJobs). h.host.0 == host.0) hosts))

  -- hosts of other numbers do not change that
  found-later : (first : HostJobs) (rest : List HostJobs) (host : HostNo) → first.host.0 < host.0 → found (first ∷ rest) host ≡ found rest host
  found-later first rest host less = by (first.host.0 == host.0) refl
    where
      by : (b : Bool) → (first.host.0 == host.0) ≡ b →
          W (jobs_in (cond b (Some first) (find (λ (h : HostJobs). h.host.0 == host.0) rest))) ≡ W (jobs_in (find (λ (h : HostJobs). h.host.0 == host.0) rest))
      by true e = absurd (grind (arith, nat_tests))
      by false e = refl

  found-own : (first : HostJobs) (rest : List HostJobs) → found (first ∷ rest) first.host ≡ W first.jobs
  found-own first rest = by (first.host.0 == first.host.0) refl
    where
      by : (b : Bool) → (first.host.0 == first.host.0) ≡ b → W (jobs_in (cond b (Some first) (find (λ (h : HostJobs). h.host.0 == first.host.0) rest))) ≡ W first.jobs
      by true e = refl
      by false e = absurd (grind (arith, nat_tests))

  all-later : (first : HostJobs) (rest : List HostJobs) (from : ℕ) (hosts : List HostNo) → first.host.0 < from → Rise from hosts →
      sum_by (found (first ∷ rest)) hosts ≡ sum_by (found rest) hosts
  all-later first rest from [] below rise = refl
  all-later first rest from (host ∷ hosts) below rise =
      let low = rise.0 in
      omega (
        arith,
        sum_by-cons (found (first ∷ rest)) host hosts,
        sum_by-cons (found rest) host hosts,
        found-later first rest host (omega (arith, low, below)),
        all-later first rest (host.0 + 1) hosts (omega (arith, low, below)) rise.2,
      )

  all-found : (from : ℕ) (hosts : List HostJobs) → Rise from (map (λ (h : HostJobs). h.host) hosts) →
      sum_by (found hosts) (map (λ (h : HostJobs). h.host) hosts) ≡ sum_by (λ (h : HostJobs). W h.jobs) hosts
  all-found from [] rise = refl
  all-found from (first ∷ rest) rise =
      omega (
        arith,
        sum_by-cons (found (first ∷ rest)) first.host (map (λ (h : HostJobs). h.host) rest),
        sum_by-cons (λ (h : HostJobs). W h.jobs) first rest,
        found-own first rest,
        all-later first rest (first.host.0 + 1) (map (λ (h : HostJobs). h.host) rest) (omega arith) rise.2,
        all-found (first.host.0 + 1) rest rise.2,
      )

pub totals_cover_requests : TotalsCoverRequests
totals_cover_requests script is =
    let quotas : script.n * all_quotas script ≡ total script = ap (λ (k : ℕ). script.n * k) (all-found (weights script) 0 script.hosts is.ranges.hosts) in
    let g : HostNo → ℕ = λ host. script.n * quota script host in
    record {
      all = omega (
        arith,
        sums-le (host_requests script) g (host-within script is.ranges) (host_numbers script),
        sum-times script.n (quota script) (host_numbers script),
        quotas,
      );
      quotas = quotas;
    }

pub requests_keep_quotas : RequestsKeepQuotas
requests_keep_quotas script history is h =
    let asked : (host : HostNo) (bay : BayNo) → calls_at host bay history ≤ quota script host =
    λ host bay. omega (arith, counted-at host bay history, (along-history script is (by_weights script is.ranges bay) host history h).few) in
    record {
      asked = asked;
      journals = λ bay. omega (
        arith,
        all-visited (host_numbers script) bay history (callers-listed script is history h),
        sums-le (λ (host : HostNo). calls_at host bay history) (quota script) (λ host. asked host bay) (host_numbers script),
      );
      transcripts = λ host. omega (arith, (requests_are_bounded script history is h).transcripts host, host-within script is.ranges host);
    }
