-- How often bays are asked at most, and how many jobs hosts have.
use Rattle.std.proofs.Common.{◌≡◌, ℕ, ◌+◌, ◌*◌, ◌<◌, ◌≤◌, ◌^◌, Bool, true, false, cond, eqb, Option, Some, List, [], ◌∷◌, length, get_or, take, ap, ◌∙◌, arith, sum_by, length-append, sym}
use Rattle.std.specs.Prelude.{find, flat_map}
use Rattle.std.proofs.lemmas.Nat.{mul-le}
use Rattle.std.proofs.lemmas.List.Sums.{sum_by_more_le}
use Rattle.raid_base.specs.declared.numbers.HostNo.{HostNo}
use Rattle.script_text.specs.Script.{Script, HostJobs, jobs_in, jobs_of}
use Rattle.script_text.specs.Ranges.{all_jobs}
use Rattle.script_text.specs.Weights.{quota, total}
use Rattle.histories.specs.Bounds.{IsPlayable}
use Rattle.histories.specs.Quotas.{all_quotas, TotalsCover}
use Rattle.histories.proofs.bounds.Quotas.{totals_cover_requests}
use Rattle.schedule_play.specs.World.{all_requests}
use Rattle.schedule_play.proofs.GatherLemmas.{sum-by-hosts, sum-more}

-- the jobs of one host are among all
either-few : (b : Bool) (x : HostJobs) (rest : Option HostJobs) (more : ℕ) → length (jobs_in rest) ≤ more → length (jobs_in (cond b (Some x) rest)) ≤ length x.jobs + more
either-few true x rest more few = omega arith
either-few false x rest more few = omega (arith, few)

found-few : (test : HostJobs → Bool) (hosts : List HostJobs) → length (jobs_in (find test hosts)) ≤ length (flat_map (λ (h : HostJobs). h.jobs) hosts)
found-few test [] = omega arith
found-few test (x ∷ hosts) =
    let later = flat_map (λ (h : HostJobs). h.jobs) hosts in
    omega (arith, length-append x.jobs later, either-few (test x) x (find test hosts) (length later) (found-few test hosts))

pub jobs-few : (script : Script) → length (all_jobs script) < 2 ^ 32 → (host : HostNo) → length (jobs_of script host) < 2 ^ 32
jobs-few script few host = omega (arith, few, found-few (λ (h : HostJobs). eqb h.host.0 host.0) script.hosts)

-- the quotas of the hosts up to this one, and of all of them
pub record IsQuotaSum (script : Script) (items : List HostJobs) (k : ℕ) (sum : ℕ) : Type 0 where
  pub is : sum ≡ sum_by (λ (h : HostJobs). quota script h.host) (take (k + 1) items)
  pub most : sum ≤ all_quotas script

pub quotas-step : (script : Script) (k : ℕ) (h : HostJobs) (items : List HostJobs) (sum more : ℕ) → items ≡ script.hosts → k < length items → h ≡ get_or items k h →
    sum ≡ sum_by (λ (x : HostJobs). quota script x.host) (take k items) → more ≡ quota script h.host → IsQuotaSum script items k (sum + more)
quotas-step script k h items sum more same inside at so_far it =
    let all : all_quotas script ≡ sum_by (λ (x : HostJobs). quota script x.host) items =
    sum-by-hosts (quota script) script.hosts ∙ ap (λ (xs : List HostJobs). sum_by (λ (x : HostJobs). quota script x.host) xs) (sym same) in
    let step = sum-more (quota script) items k h sum more inside at so_far it in
    let here : more ≡ quota script (get_or items k h).host = it ∙ ap (λ (x : HostJobs). quota script x.host) at in
    record {
      is = step;
      most = omega (arith, here, so_far, all, sum_by_more_le (λ (x : HostJobs). quota script x.host) items k h inside);
    }

-- what a total bounds
module _ (script : Script) (playable : IsPlayable script) (few : total script ≤ 2 ^ 20) where
  pub requests-few : all_requests script < 2 ^ 32
  requests-few = let cover : TotalsCover script = totals_cover_requests script playable in let all = cover.all in omega (arith, all, few)

  pub quotas-few : all_quotas script < 2 ^ 32
  quotas-few =
      let cover : TotalsCover script = totals_cover_requests script playable in
      let some : 1 ≤ script.n = let h = playable.ranges.devices_least in omega arith in
      let each : 1 * all_quotas script ≤ script.n * all_quotas script = mul-le 1 (all_quotas script) script.n (all_quotas script) some (omega arith) in
      omega (arith, each, cover.quotas, few)
