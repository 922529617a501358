-- The jobs of a script's hosts are such as its hosts in code can do.
use Rattle.std.proofs.Common.{◌≡◌, ℕ, ◌+◌, ◌≤◌, Bool, true, false, ◌&&◌, eqb, cond, Option, Some, List, [], ◌∷◌, ◌++◌, length, refl, subst, arith, add-zero}
use Rattle.std.specs.Prelude.{find, flat_map}
use Rattle.std.specs.List.{All, AllByRecursion}
use Rattle.std.proofs.lemmas.Bool.Decides.{nat_tests}
use Rattle.std.proofs.lemmas.List.Elements.{recursion_from_All}
use Rattle.std.proofs.lemmas.List.Sums.{sum_by-cons, sum_by-append}
use Rattle.raid_base.specs.declared.numbers.HostNo.{HostNo}
use Rattle.raid_base.specs.declared.jobs.Job.{Job}
use Rattle.raid_base.specs.declared.jobs.Task.{Task}
use Rattle.raid_base.specs.declared.jobs.Task.TheVariants as tasks
use Rattle.script_text.specs.Script.{Script, HostJobs, jobs_in, jobs_of}
use Rattle.script_text.specs.Ranges.{IsScript, IsJob, IsTask, IsAccess, InOrder, WritesFrom, blocks_written, all_written}
use Rattle.histories.specs.Plain.{are_sized, is_sized_task, is_sized, are_held, is_held_task, are_aimed, is_aimed_task}

sized-access : (first count : ℕ) (object : _) → IsAccess object first count → is_sized first count ≡ true
sized-access first count object is = grind (arith, nat_tests, is.some, is.few, is.low)

sized-task : (script : Script) (host : HostNo) (task : Task) → IsTask script host task → is_sized_task task ≡ true
sized-task script host (tasks.Read object first count) is = sized-access first count object is
sized-task script host (tasks.Write object first from count) is = sized-access first count object is
sized-task script host (tasks.Recover row) is = refl
sized-task script host (tasks.Lose bay) is = refl
sized-task script host (tasks.Fit bay) is = refl
sized-task script host (tasks.Rebuild bay) is = refl

and-true : (a b : Bool) → a ≡ true → b ≡ true → (a && b) ≡ true
and-true true b e f = f
and-true false b e f = cc

sized-jobs : (script : Script) (host : HostNo) (jobs : List Job) → AllByRecursion (IsJob script host) jobs → are_sized jobs ≡ true
sized-jobs script host [] all = refl
sized-jobs script host (job ∷ jobs) all = and-true _ _ (sized-task script host job.task (all.0).task) (sized-jobs script host jobs all.1)

-- a rebuild is of a bay that there is
aimed-task : (script : Script) (host : HostNo) (task : Task) → IsTask script host task → is_aimed_task script.n task ≡ true
aimed-task script host (tasks.Read object first count) is = refl
aimed-task script host (tasks.Write object first from count) is = refl
aimed-task script host (tasks.Recover row) is = refl
aimed-task script host (tasks.Lose bay) is = refl
aimed-task script host (tasks.Fit bay) is = refl
aimed-task script host (tasks.Rebuild bay) is = let below = is.1 in grind (arith, nat_tests, below)

aimed-jobs : (script : Script) (host : HostNo) (jobs : List Job) → AllByRecursion (IsJob script host) jobs → are_aimed script.n jobs ≡ true
aimed-jobs script host [] all = refl
aimed-jobs script host (job ∷ jobs) all = and-true _ _ (aimed-task script host job.task (all.0).task) (aimed-jobs script host jobs all.1)

-- a write's blocks end where those of its list do, at the latest
held-task : (at most : ℕ) (task : Task) → WritesFrom at task → at + blocks_written task ≤ most → is_held_task most task ≡ true
held-task at most (tasks.Read object first count) w l = refl
held-task at most (tasks.Write object first from count) w l = grind (arith, nat_tests, w, l)
held-task at most (tasks.Recover row) w l = refl
held-task at most (tasks.Lose bay) w l = refl
held-task at most (tasks.Fit bay) w l = refl
held-task at most (tasks.Rebuild bay) w l = refl

held-jobs : (at most : ℕ) (jobs : List Job) → InOrder at jobs → at + all_written jobs ≤ most → are_held most jobs ≡ true
held-jobs at most [] o l = refl
held-jobs at most (job ∷ jobs) o l =
    let sum = sum_by-cons (λ (j : Job). blocks_written j.task) job jobs in
    and-true _ _ (held-task at most job.task o.0 (omega (arith, sum, l))) (held-jobs (at + blocks_written job.task) most jobs o.1 (omega (arith, sum, l)))

order-front : (at : ℕ) (xs ys : List Job) → InOrder at (xs ++ ys) → InOrder at xs
order-front at [] ys o = tt
order-front at (x ∷ xs) ys o = (o.0, order-front (at + blocks_written x.task) xs ys o.1)

order-back : (at : ℕ) (xs ys : List Job) → InOrder at (xs ++ ys) → InOrder (at + all_written xs) ys
order-back at [] ys o = rw add-zero o
order-back at (x ∷ xs) ys o =
    let sum = sum_by-cons (λ (j : Job). blocks_written j.task) x xs in
    let e : at + blocks_written x.task + all_written xs ≡ at + all_written (x ∷ xs) = omega (arith, sum) in
    subst (λ (n : ℕ). InOrder n ys) e (order-back (at + blocks_written x.task) xs ys o.1)

either-held : (b : Bool) (most : ℕ) (x : HostJobs) (rest : Option HostJobs) → are_held most x.jobs ≡ true → are_held most (jobs_in rest) ≡ true → are_held most (jobs_in (cond b (Some x) rest)) ≡ true
either-held true most x rest e f = e
either-held false most x rest e f = f

held-found : (at most : ℕ) (test : HostJobs → Bool) (hosts : List HostJobs) → InOrder at (flat_map (λ (h : HostJobs). h.jobs) hosts) →
    at + all_written (flat_map (λ (h : HostJobs). h.jobs) hosts) ≤ most → are_held most (jobs_in (find test hosts)) ≡ true
held-found at most test [] o l = refl
held-found at most test (x ∷ hosts) o l =
    let sum = sum_by-append (λ (j : Job). blocks_written j.task) x.jobs (flat_map (λ (h : HostJobs). h.jobs) hosts) in
    either-held (test x) most x (find test hosts) (held-jobs at most x.jobs (order-front at x.jobs _ o) (omega (arith, sum, l)))
    (held-found (at + all_written x.jobs) most test hosts (order-back at x.jobs _ o) (omega (arith, sum, l)))

either-sized : (b : Bool) (x : HostJobs) (rest : Option HostJobs) → are_sized x.jobs ≡ true → are_sized (jobs_in rest) ≡ true → are_sized (jobs_in (cond b (Some x) rest)) ≡ true
either-sized true x rest e f = e
either-sized false x rest e f = f

sized-found : (script : Script) (test : HostJobs → Bool) (hosts : List HostJobs) → AllByRecursion (λ (h : HostJobs). All (IsJob script h.host) h.jobs) hosts →
    are_sized (jobs_in (find test hosts)) ≡ true
sized-found script test [] all = refl
sized-found script test (x ∷ hosts) all =
    either-sized (test x) x (find test hosts) (sized-jobs script x.host x.jobs (recursion_from_All (IsJob script x.host) x.jobs all.0)) (sized-found script test hosts all.1)

either-aimed : (n : ℕ) (b : Bool) (x : HostJobs) (rest : Option HostJobs) → are_aimed n x.jobs ≡ true → are_aimed n (jobs_in rest) ≡ true → are_aimed n (jobs_in (cond b (Some x) rest)) ≡ true
either-aimed n true x rest e f = e
either-aimed n false x rest e f = f

aimed-found : (script : Script) (test : HostJobs → Bool) (hosts : List HostJobs) → AllByRecursion (λ (h : HostJobs). All (IsJob script h.host) h.jobs) hosts →
    are_aimed script.n (jobs_in (find test hosts)) ≡ true
aimed-found script test [] all = refl
aimed-found script test (x ∷ hosts) all =
    either-aimed script.n (test x) x (find test hosts) (aimed-jobs script x.host x.jobs (recursion_from_All (IsJob script x.host) x.jobs all.0)) (aimed-found script test hosts all.1)

module _ (script : Script) (is : IsScript script) where
  pub jobs-aimed : (host : HostNo) → are_aimed script.n (jobs_of script host) ≡ true
  jobs-aimed host = aimed-found script (λ (h : HostJobs). eqb h.host.0 host.0) script.hosts (recursion_from_All (λ (h : HostJobs). All (IsJob script h.host) h.jobs) script.hosts is.jobs)

  pub jobs-sized : (host : HostNo) → are_sized (jobs_of script host) ≡ true
  jobs-sized host = sized-found script (λ (h : HostJobs). eqb h.host.0 host.0) script.hosts (recursion_from_All (λ (h : HostJobs). All (IsJob script h.host) h.jobs) script.hosts is.jobs)

  pub jobs-held : (host : HostNo) → are_held (length script.blocks) (jobs_of script host) ≡ true
  jobs-held host = held-found 0 (length script.blocks) (λ (h : HostJobs). eqb h.host.0 host.0) script.hosts is.blocks_whose (omega (arith, is.blocks_all))
