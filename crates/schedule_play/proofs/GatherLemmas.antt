-- How much all hosts have to tell at most, and what gathering it gives.
use Rattle.std.proofs.Common.{◌≡◌, ℕ, ◌+◌, ◌*◌, ◌<◌, ◌≤◌, suc, Bool, true, false, ◌&&◌, List, [], ◌∷◌, ◌++◌, length, get_or, map, take, drop, append-nil, refl, sym, ap, ◌∙◌, arith, sum_by}
use Rattle.std.proofs.Math.ListN.{drop_of_length-le}
use Rattle.std.proofs.Math.Seq.{take-length}
use Rattle.std.proofs.lemmas.Bool.Decides.{nat_tests}
use Rattle.std.proofs.lemmas.List.Sums.{sum_by-cons, sum_by_more}
use Rattle.raid_base.specs.declared.numbers.HostNo.{HostNo}
use Rattle.raid_base.specs.declared.jobs.Job.{Job}
use Rattle.raid_base.specs.declared.jobs.Task.{Task}
use Rattle.raid_base.specs.declared.jobs.Task.TheVariants as tasks
use Rattle.script_text.specs.Script.{Script, HostJobs, host_numbers}
use Rattle.script_text.specs.Ranges.{IsScript, Rise}
use Rattle.histories.specs.Bounds.{task_contents, job_contents}
use Rattle.histories.specs.Plain.{are_sized, is_sized_task}

-- there are at most 16 hosts
few-hosts : (from : ℕ) (hosts : List HostNo) → from ≤ 16 → Rise from hosts → from + length hosts ≤ 16
few-hosts from [] few r = omega (arith, few)
few-hosts from (host ∷ hosts) few r = let rest = few-hosts (host.0 + 1) hosts (omega (arith, r.1)) r.2 in omega (arith, rest, r.0)

length-map-of : {X Y : Type 0} (f : X → Y) (xs : List X) → length (map f xs) ≡ length xs
length-map-of f [] = refl
length-map-of f (x ∷ xs) = ap suc (length-map-of f xs)

pub hosts-few : (script : Script) → IsScript script → length script.hosts ≤ 16
hosts-few script is =
    let all = few-hosts 0 (host_numbers script) (omega arith) is.hosts in
    let same : length (host_numbers script) ≡ length script.hosts = length-map-of (λ (h : HostJobs). h.host) script.hosts in
    omega (arith, all, same)

-- a sum over all hosts, host by host
pub sum-by-hosts : (f : HostNo → ℕ) (hosts : List HostJobs) → sum_by f (map (λ (h : HostJobs). h.host) hosts) ≡ sum_by (λ (h : HostJobs). f h.host) hosts
sum-by-hosts f [] = refl
sum-by-hosts f (x ∷ hosts) =
    sum_by-cons f x.host (map (λ (h : HostJobs). h.host) hosts)
    ∙ ap (λ (n : ℕ). f x.host + n) (sum-by-hosts f hosts)
    ∙ sym (sum_by-cons (λ (h : HostJobs). f h.host) x hosts)

-- one host more
pub sum-more : (f : HostNo → ℕ) (items : List HostJobs) (k : ℕ) (h : HostJobs) (sum more : ℕ) → k < length items → h ≡ get_or items k h →
    sum ≡ sum_by (λ (x : HostJobs). f x.host) (take k items) → more ≡ f h.host → sum + more ≡ sum_by (λ (x : HostJobs). f x.host) (take (k + 1) items)
sum-more f items k h sum more inside at so_far it =
    let here : more ≡ f (get_or items k h).host = it ∙ ap (λ (x : HostJobs). f x.host) at in
    omega (arith, here, so_far, sum_by_more (λ (x : HostJobs). f x.host) items k h inside)

-- a read has at most 120 blocks
sized-contents : (task : Task) → is_sized_task task ≡ true → task_contents task ≤ 120
sized-contents (tasks.Read object first count) s = grind (arith, nat_tests, s)
sized-contents (tasks.Write object first from count) s = omega arith
sized-contents (tasks.Recover row) s = omega arith
sized-contents (tasks.Lose bay) s = omega arith
sized-contents (tasks.Fit bay) s = omega arith
sized-contents (tasks.Rebuild bay) s = omega arith

and-left : (a b : Bool) → (a && b) ≡ true → a ≡ true
and-left true b e = refl
and-left false b e = cc

and-right : (a b : Bool) → (a && b) ≡ true → b ≡ true
and-right true b e = e
and-right false b e = cc

pub contents-few : (jobs : List Job) → are_sized jobs ≡ true → sum_by job_contents jobs ≤ 120 * length jobs
contents-few [] s = omega arith
contents-few (job ∷ jobs) s =
    let here = sized-contents job.task (and-left (is_sized_task job.task) (are_sized jobs) s) in
    let rest : sum_by job_contents jobs ≤ 120 * length jobs = contents-few jobs (and-right (is_sized_task job.task) (are_sized jobs) s) in
    omega (arith, here, rest, sum_by-cons job_contents job jobs)

-- a list that was lent whole and given back
pub given-back : {X : Type 0} (new old : List X) (n : ℕ) → length new ≡ length old → n ≡ length old → take n (new ++ drop (length new) old) ≡ new
given-back new old n same len =
    ap (λ (rest : _). take n (new ++ rest)) (drop_of_length-le old {i = length new} (omega (arith, same)))
    ∙ ap (take n) (append-nil new) ∙ ap (λ (k : ℕ). take k new) (len ∙ sym same) ∙ take-length new
