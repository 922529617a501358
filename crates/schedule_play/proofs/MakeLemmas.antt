-- What the making of a world rests on.
use Rattle.std.proofs.Common.{◌≡◌, ℕ, ◌+◌, ◌-◌, ◌<◌, ◌≤◌, ◌^◌, zero, suc, Bool, true, false, ◌&&◌, eqb, cond, Option, Some, List, [], ◌∷◌, ◌++◌, length, get_or, map, take, drop, refl, sym, ap, subst, ◌∙◌, arith, eq-eqb, sum_by, add-zero, reverse, IsTrue}
use Rattle.std.specs.Prelude.{find, flat_map}
use Rattle.std.specs.List.{All, AllByRecursion}
use Rattle.std.proofs.lemmas.Bool.Decides.{nat_tests}
use Rattle.std.proofs.Math.Nat.{min-le_left}
use Rattle.std.proofs.lemmas.List.{reverse-append, length-reverse, length-drop, drop_more}
use Rattle.std.proofs.lemmas.List.Elements.{recursion_from_All}
use Rattle.std.proofs.lemmas.List.Sums.{sum_by-cons, sum_by-append, sum_by_more, sum_by_more_le}
use Rattle.raid_base.specs.declared.numbers.HostNo.{HostNo}
use Rattle.raid_base.specs.declared.jobs.Job.{Job}
use Rattle.raid_base.specs.declared.jobs.Task.{Task}
use Rattle.raid_base.specs.declared.jobs.Task.TheVariants as tasks
use Rattle.script_text.specs.Script.{Script, HostJobs, jobs_in, jobs_of}
use Rattle.script_text.specs.Ranges.{IsScript, IsJob, IsTask, IsAccess, Rise, InOrder, WritesFrom, blocks_written, all_written}
use Rattle.schedule_play.specs.World.{all_requests, EachAt, HostShows, BayShows}
use Rattle.schedule_play.specs.Making.{AreMade, IsMade, IsBack, AreBack, stores_of}
use Rattle.raid_base.specs.Counts.{Rises, RisesBy}
use Rattle.block_store.specs.declared.store.Store.{Ghosts}
use Rattle.bay_device.specs.declared.bay.Bay.{Bay}
use Rattle.host_engine.specs.declared.host.Host.{Host}
use Rattle.host_engine.specs.Stands.{IsFreshHost}
use Rattle.histories.specs.Bounds.{host_requests, job_requests}
use Rattle.histories.specs.Quotas.{all_quotas}
use Rattle.histories.specs.Plain.{are_sized, is_sized_task, is_sized, are_held, is_held_task, are_aimed, is_aimed_task}

-- the host at each place is above those before it, and below 16
pub record IsAbove (from : ℕ) (host : HostNo) : Type 0 where
  pub least : from ≤ host.0
  pub most : host.0 < 16

pub rise-at : (from : ℕ) (hosts : List HostJobs) (k : ℕ) (d : HostJobs) → Rise from (map (λ (h : HostJobs). h.host) hosts) → k < length hosts → IsAbove from (get_or hosts k d).host
rise-at from [] k d r h = absurd (omega arith)
rise-at from (x ∷ hosts) zero d r h = record { least = r.0; most = r.1 }
rise-at from (x ∷ hosts) (suc k) d r h =
    let e = rise-at (x.host.0 + 1) hosts k d r.2 (omega arith) in
    record { least = omega (arith, e.least, r.0); most = e.most }

-- a host's jobs are found at its place
pub found-at : (from : ℕ) (hosts : List HostJobs) (k : ℕ) (d : HostJobs) → Rise from (map (λ (h : HostJobs). h.host) hosts) → k < length hosts →
    jobs_in (find (λ (h : HostJobs). eqb h.host.0 (get_or hosts k d).host.0) hosts) ≡ (get_or hosts k d).jobs
found-at from [] k d r h = absurd (omega arith)
found-at from (x ∷ hosts) zero d r h =
    let e : eqb x.host.0 x.host.0 ≡ true = eq-eqb _ _ refl in
    rw e refl
found-at from (x ∷ hosts) (suc k) d r h =
    let above = rise-at (x.host.0 + 1) hosts k d r.2 (omega arith) in
    let e : eqb x.host.0 (get_or hosts k d).host.0 ≡ false = grind (arith, nat_tests, above.least) in
    rw e (found-at (x.host.0 + 1) hosts k d r.2 (omega arith))

-- the jobs of any host are jobs of the script
abbrev pub sizes : List Job → Type 0
sizes jobs = are_sized jobs ≡ true

sized-access : (first count : ℕ) (object : _) → IsAccess object first count → is_sized first count ≡ true
sized-access first count object is = grind (arith, nat_tests, is.some, is.few, is.low)

sized-task : (script : Script) (host : HostNo) (task : Task) → IsTask script host task → is_sized_task task ≡ true
sized-task script host (tasks.Read object first count) is = sized-access first count object is
sized-task script host (tasks.Write object first from count) is = sized-access first count object is
sized-task script host (tasks.Recover row) is = refl
sized-task script host (tasks.Lose bay) is = refl
sized-task script host (tasks.Fit bay) is = refl
sized-task script host (tasks.Rebuild bay) is = refl

and-true : (a b : Bool) → a ≡ true → b ≡ true → (a && b) ≡ true
and-true true b e f = f
and-true false b e f = cc

sized-jobs : (script : Script) (host : HostNo) (jobs : List Job) → AllByRecursion (IsJob script host) jobs → are_sized jobs ≡ true
sized-jobs script host [] all = refl
sized-jobs script host (job ∷ jobs) all = and-true _ _ (sized-task script host job.task (all.0).task) (sized-jobs script host jobs all.1)

-- nor of a bay that there is not
aimed-task : (script : Script) (host : HostNo) (task : Task) → IsTask script host task → is_aimed_task script.n task ≡ true
aimed-task script host (tasks.Read object first count) is = refl
aimed-task script host (tasks.Write object first from count) is = refl
aimed-task script host (tasks.Recover row) is = refl
aimed-task script host (tasks.Lose bay) is = refl
aimed-task script host (tasks.Fit bay) is = refl
aimed-task script host (tasks.Rebuild bay) is = let below = is.1 in grind (arith, nat_tests, below)

aimed-jobs : (script : Script) (host : HostNo) (jobs : List Job) → AllByRecursion (IsJob script host) jobs → are_aimed script.n jobs ≡ true
aimed-jobs script host [] all = refl
aimed-jobs script host (job ∷ jobs) all = and-true _ _ (aimed-task script host job.task (all.0).task) (aimed-jobs script host jobs all.1)

-- a write's blocks end where those of its list do, at the latest
held-task : (at most : ℕ) (task : Task) → WritesFrom at task → at + blocks_written task ≤ most → is_held_task most task ≡ true
held-task at most (tasks.Read object first count) w l = refl
held-task at most (tasks.Write object first from count) w l = grind (arith, nat_tests, w, l)
held-task at most (tasks.Recover row) w l = refl
held-task at most (tasks.Lose bay) w l = refl
held-task at most (tasks.Fit bay) w l = refl
held-task at most (tasks.Rebuild bay) w l = refl

pub held-jobs : (at most : ℕ) (jobs : List Job) → InOrder at jobs → at + all_written jobs ≤ most → are_held most jobs ≡ true
held-jobs at most [] o l = refl
held-jobs at most (job ∷ jobs) o l =
    let sum = sum_by-cons (λ (j : Job). blocks_written j.task) job jobs in
    and-true _ _ (held-task at most job.task o.0 (omega (arith, sum, l))) (held-jobs (at + blocks_written job.task) most jobs o.1 (omega (arith, sum, l)))

order-front : (at : ℕ) (xs ys : List Job) → InOrder at (xs ++ ys) → InOrder at xs
order-front at [] ys o = tt
order-front at (x ∷ xs) ys o = (o.0, order-front (at + blocks_written x.task) xs ys o.1)

order-back : (at : ℕ) (xs ys : List Job) → InOrder at (xs ++ ys) → InOrder (at + all_written xs) ys
order-back at [] ys o = rw add-zero o
order-back at (x ∷ xs) ys o =
    let sum = sum_by-cons (λ (j : Job). blocks_written j.task) x xs in
    let e : at + blocks_written x.task + all_written xs ≡ at + all_written (x ∷ xs) = omega (arith, sum) in
    subst (λ (n : ℕ). InOrder n ys) e (order-back (at + blocks_written x.task) xs ys o.1)

either-held : (b : Bool) (most : ℕ) (x : HostJobs) (rest : Option HostJobs) → are_held most x.jobs ≡ true → are_held most (jobs_in rest) ≡ true → are_held most (jobs_in (cond b (Some x) rest)) ≡ true
either-held true most x rest e f = e
either-held false most x rest e f = f

held-found : (at most : ℕ) (test : HostJobs → Bool) (hosts : List HostJobs) → InOrder at (flat_map (λ (h : HostJobs). h.jobs) hosts) →
    at + all_written (flat_map (λ (h : HostJobs). h.jobs) hosts) ≤ most → are_held most (jobs_in (find test hosts)) ≡ true
held-found at most test [] o l = refl
held-found at most test (x ∷ hosts) o l =
    let sum = sum_by-append (λ (j : Job). blocks_written j.task) x.jobs (flat_map (λ (h : HostJobs). h.jobs) hosts) in
    either-held (test x) most x (find test hosts) (held-jobs at most x.jobs (order-front at x.jobs _ o) (omega (arith, sum, l)))
    (held-found (at + all_written x.jobs) most test hosts (order-back at x.jobs _ o) (omega (arith, sum, l)))

either-sized : (b : Bool) (x : HostJobs) (rest : Option HostJobs) → are_sized x.jobs ≡ true → are_sized (jobs_in rest) ≡ true → are_sized (jobs_in (cond b (Some x) rest)) ≡ true
either-sized true x rest e f = e
either-sized false x rest e f = f

sized-found : (script : Script) (test : HostJobs → Bool) (hosts : List HostJobs) → AllByRecursion (λ (h : HostJobs). All (IsJob script h.host) h.jobs) hosts →
    are_sized (jobs_in (find test hosts)) ≡ true
sized-found script test [] all = refl
sized-found script test (x ∷ hosts) all =
    either-sized (test x) x (find test hosts) (sized-jobs script x.host x.jobs (recursion_from_All (IsJob script x.host) x.jobs all.0)) (sized-found script test hosts all.1)

either-aimed : (n : ℕ) (b : Bool) (x : HostJobs) (rest : Option HostJobs) → are_aimed n x.jobs ≡ true → are_aimed n (jobs_in rest) ≡ true → are_aimed n (jobs_in (cond b (Some x) rest)) ≡ true
either-aimed n true x rest e f = e
either-aimed n false x rest e f = f

aimed-found : (script : Script) (test : HostJobs → Bool) (hosts : List HostJobs) → AllByRecursion (λ (h : HostJobs). All (IsJob script h.host) h.jobs) hosts →
    are_aimed script.n (jobs_in (find test hosts)) ≡ true
aimed-found script test [] all = refl
aimed-found script test (x ∷ hosts) all =
    either-aimed script.n (test x) x (find test hosts) (aimed-jobs script x.host x.jobs (recursion_from_All (IsJob script x.host) x.jobs all.0)) (aimed-found script test hosts all.1)

module _ (script : Script) (is : IsScript script) where
  pub jobs-aimed : (host : HostNo) → are_aimed script.n (jobs_of script host) ≡ true
  jobs-aimed host = aimed-found script (λ (h : HostJobs). eqb h.host.0 host.0) script.hosts (recursion_from_All (λ (h : HostJobs). All (IsJob script h.host) h.jobs) script.hosts is.jobs)

  pub jobs-sized : (host : HostNo) → are_sized (jobs_of script host) ≡ true
  jobs-sized host = sized-found script (λ (h : HostJobs). eqb h.host.0 host.0) script.hosts (recursion_from_All (λ (h : HostJobs). All (IsJob script h.host) h.jobs) script.hosts is.jobs)

  pub jobs-held : (host : HostNo) → are_held (length script.blocks) (jobs_of script host) ≡ true
  jobs-held host = held-found 0 (length script.blocks) (λ (h : HostJobs). eqb h.host.0 host.0) script.hosts is.blocks_whose (omega (arith, is.blocks_all))

  pub jobs-at : (k : ℕ) (d : HostJobs) → k < length script.hosts → jobs_of script (get_or script.hosts k d).host ≡ (get_or script.hosts k d).jobs
  jobs-at k d h = found-at 0 script.hosts k d is.hosts h

  pub host-small : (k : ℕ) (d : HostJobs) → k < length script.hosts → (get_or script.hosts k d).host.0 < 16
  host-small k d h = (rise-at 0 script.hosts k d is.hosts h).most

  pub jobs-of-item : (k : ℕ) (h : HostJobs) (items : List HostJobs) (jobs : List Job) → items ≡ script.hosts → k < length items → h ≡ get_or items k h → jobs ≡ h.jobs → jobs_of script h.host ≡ jobs
  jobs-of-item k h items jobs same inside at e =
      let there : k < length script.hosts = subst (λ (xs : List HostJobs). k < length xs) same inside in
      let it : h ≡ get_or script.hosts k h = at ∙ ap (λ (xs : List HostJobs). get_or xs k h) same in
      ap (λ (x : HostJobs). jobs_of script x.host) it ∙ jobs-at k h there ∙ ap (λ (x : HostJobs). x.jobs) (sym it) ∙ sym e

  pub small-of-item : (k : ℕ) (h : HostJobs) (items : List HostJobs) → items ≡ script.hosts → k < length items → h ≡ get_or items k h → h.host.0 < 16
  small-of-item k h items same inside at =
      let there : k < length script.hosts = subst (λ (xs : List HostJobs). k < length xs) same inside in
      let it : h ≡ get_or script.hosts k h = at ∙ ap (λ (xs : List HostJobs). get_or xs k h) same in
      subst (λ (x : HostJobs). x.host.0 < 16) (sym it) (host-small k h there)

-- the requests of all hosts, host by host
pub all-by-hosts : (script : Script) (hosts : List HostJobs) → sum_by (host_requests script) (map (λ (h : HostJobs). h.host) hosts) ≡ sum_by (λ (h : HostJobs). host_requests script h.host) hosts
all-by-hosts script [] = refl
all-by-hosts script (x ∷ hosts) =
    sum_by-cons (host_requests script) x.host (map (λ (h : HostJobs). h.host) hosts)
    ∙ ap (λ (n : ℕ). host_requests script x.host + n) (all-by-hosts script hosts)
    ∙ sym (sum_by-cons (λ (h : HostJobs). host_requests script h.host) x hosts)

-- the requests of the hosts up to this one, and of all of them
pub record IsSumWith (script : Script) (items : List HostJobs) (k : ℕ) (sum : ℕ) : Type 0 where
  pub is : sum ≡ sum_by (λ (h : HostJobs). host_requests script h.host) (take (k + 1) items)
  pub most : sum ≤ all_requests script

pub requests-step : (script : Script) (k : ℕ) (h : HostJobs) (items : List HostJobs) (jobs : List Job) (sum more : ℕ) → items ≡ script.hosts → k < length items → h ≡ get_or items k h →
    jobs_of script h.host ≡ jobs → sum ≡ sum_by (λ (x : HostJobs). host_requests script x.host) (take k items) → more ≡ sum_by (job_requests script) jobs → IsSumWith script items k (sum + more)
requests-step script k h items jobs sum more same inside at listed so_far it =
    let here : more ≡ host_requests script (get_or items k h).host = it ∙ ap (λ (js : List Job). sum_by (job_requests script) js) (sym listed) ∙ ap (λ (x : HostJobs). host_requests script x.host) at in
    let all : all_requests script ≡ sum_by (λ (x : HostJobs). host_requests script x.host) items =
    all-by-hosts script script.hosts ∙ ap (λ (xs : List HostJobs). sum_by (λ (x : HostJobs). host_requests script x.host) xs) (sym same) in
    record {
      is = omega (arith, here, so_far, sum_by_more (λ (x : HostJobs). host_requests script x.host) items k h inside);
      most = omega (arith, here, so_far, all, sum_by_more_le (λ (x : HostJobs). host_requests script x.host) items k h inside);
    }

-- one more at the end
pub each-push : {X : Type 0} (P : ℕ → X → Type 0) (xs : List X) (x : X) → EachAt P xs → P (length xs) x → EachAt P (xs ++ x ∷ [])
each-push P [] x all here zero d h = here
each-push P [] x all here (suc k) d h = absurd (omega arith)
each-push P (y ∷ xs) x all here zero d h = all 0 d (omega arith)
each-push P (y ∷ xs) x all here (suc k) d h = each-push (λ (j : ℕ). P (suc j)) xs x (λ j e l. all (suc j) e (omega (arith, l))) here k d (omega (arith, h))

-- a host at its start
pub host-at-start : (script : Script) (host : Host) → IsFreshHost script host.no host → HostShows script [] host
host-at-start script host is = record { stands = is.stands; calls = is.nothing; room = is.calls; reads = is.reads }

-- The stores that are left stand in reverse: the last of them is the next one.
pub record IsNextStore {D : Type 0} (given popped : List D) (store : D) (k : ℕ) : Type 0 where
  pub here : (d : D) → get_or given k d ≡ store
  pub rest : reverse popped ≡ drop (k + 1) given
  pub from : drop k given ≡ store ∷ reverse popped

reversed-push : {D : Type 0} (popped : List D) (store : D) → reverse (popped ++ store ∷ []) ≡ store ∷ reverse popped
reversed-push popped store = reverse-append popped (store ∷ [])

pub next-store : {D : Type 0} (given stores popped : List D) (store : D) (k : ℕ) → stores ≡ popped ++ store ∷ [] → reverse stores ≡ drop k given → k < length given → IsNextStore given popped store k
next-store {D} given stores popped store k last rest inside =
    let from : store ∷ reverse popped ≡ drop k given = sym (reversed-push popped store) ∙ ap (λ (xs : List D). reverse xs) (sym last) ∙ rest in
    record {
      here = λ d. let e : store ∷ reverse popped ≡ get_or given k d ∷ drop (k + 1) given = from ∙ drop_more given k d inside in cc;
      rest = let e : store ∷ reverse popped ≡ get_or given k store ∷ drop (k + 1) given = from ∙ drop_more given k store inside in cc;
      from = sym from;
    }

pub count-left : {D : Type 0} (given stores : List D) (k : ℕ) → reverse stores ≡ drop k given → k < length given → length stores + k ≡ length given
count-left {D} given stores k rest inside = omega (arith, ap (λ (xs : List D). length xs) rest, length-reverse stores, length-drop k given, inside)

-- a count that hasn't fallen
pub none-risen : (before now : ℕ) → before ≤ now → RisesBy 0 before now
none-risen before now h = omega (arith, min-le_left (before + 0) (2 ^ 64 - 1))

pub rises-none : (before now : ℕ) → Rises before now → RisesBy 0 before now
rises-none before now h = grind (arith)

-- all stores come back, the one that was refused at its place
pub record IsPutBack {D : Type 0} (g : Ghosts D) (n : ℕ) (given back : List D) (store failed : D) (k : ℕ) : Type 0 where
  pub back_is : AreBack g n given back
  pub was : (d : D) → get_or given k d ≡ store
  pub now : (d : D) → get_or back k d ≡ failed
  pub behind : drop (k + 1) back ≡ drop (k + 1) given
  pub unopened : failed ≡ store → drop (n - 1) back ≡ drop (n - 1) given

module _ {D : Type 0} {g : Ghosts D} where
  pub made-push : (script : Script) (cap : ℕ) (given : List D) (bays : List (Bay D g)) (new : Bay D g) (store : D) (k : ℕ) → length bays ≡ k → ((d : D) → get_or given k d ≡ store) →
      AreMade script cap given bays → IsMade script cap store new → AreMade script cap given (bays ++ new ∷ [])
  made-push script cap given bays new store k len here all made =
      let new-here : (d : D) → IsMade script cap (get_or given k d) new = λ d. subst (λ (s : D). IsMade script cap s new) (sym (here d)) made in
      let at-end : (d : D) → IsMade script cap (get_or given (length bays) d) new = subst (λ (n : ℕ). (d : D) → IsMade script cap (get_or given n d) new) (sym len) new-here in
      λ j d e h. each-push (λ (i : ℕ) (b : Bay D g). (x : D) → IsMade script cap (get_or given i x) b) bays new (λ i b l x. all i x b l) at-end j e h d

  -- the stores of the bays, the one that was refused, and the rest
  back-each : (script : Script) (cap : ℕ) (bays : List (Bay D g)) (given : List D) (store failed : D) (tail : List D) → AreMade script cap given bays → drop (length bays) given ≡ store ∷ tail →
      IsBack g store failed → (j : ℕ) (d : D) → IsBack g (get_or given j d) (get_or (stores_of bays ++ failed ∷ tail) j d)
  back-each script cap [] given store failed tail made e back zero d = subst (λ (xs : List D). IsBack g (get_or xs 0 d) failed) (sym e) back
  back-each script cap [] given store failed tail made e back (suc j) d =
      subst (λ (xs : List D). IsBack g (get_or xs (suc j) d) (get_or tail j d)) (sym e) (record { tells_is = refl; size_is = refl; faults_least = none-risen _ _ (omega arith) })
  back-each script cap (b ∷ bays) [] store failed tail made e back j d = absurd (cc)
  back-each script cap (b ∷ bays) (s ∷ given) store failed tail made e back zero d =
      let m = made 0 s b (omega arith) in record { tells_is = m.tells; size_is = m.size; faults_least = none-risen _ _ m.faults }
  back-each script cap (b ∷ bays) (s ∷ given) store failed tail made e back (suc j) d =
      back-each script cap bays given store failed tail (λ k x y l. made (suc k) x y (omega (arith, l))) e back j d

  back-count : (bays : List (Bay D g)) (given : List D) (store failed : D) (tail : List D) → drop (length bays) given ≡ store ∷ tail → length (stores_of bays ++ failed ∷ tail) ≡ length given
  back-count [] given store failed tail e = sym (ap (λ (xs : List D). length xs) e)
  back-count (b ∷ bays) [] store failed tail e = absurd (cc)
  back-count (b ∷ bays) (s ∷ given) store failed tail e = ap suc (back-count bays given store failed tail e)

  back-others : (n : ℕ) (bays : List (Bay D g)) (given : List D) (store failed : D) (tail : List D) → drop (length bays) given ≡ store ∷ tail → length bays < n →
      drop n (stores_of bays ++ failed ∷ tail) ≡ drop n given
  back-others zero bays given store failed tail e below = absurd (omega arith)
  back-others (suc n) [] given store failed tail e below = sym (ap (λ (xs : List D). drop (suc n) xs) e)
  back-others (suc n) (b ∷ bays) [] store failed tail e below = absurd (cc)
  back-others (suc n) (b ∷ bays) (s ∷ given) store failed tail e below = back-others n bays given store failed tail e (omega (arith, below))

  -- and where it comes back as it was, all that were not opened
  back-rest : (n : ℕ) (bays : List (Bay D g)) (given : List D) (store : D) (tail : List D) → drop (length bays) given ≡ store ∷ tail → length bays ≤ n →
      drop n (stores_of bays ++ store ∷ tail) ≡ drop n given
  back-rest zero [] given store tail e below = sym e
  back-rest (suc n) [] given store tail e below = sym (ap (λ (xs : List D). drop (suc n) xs) e)
  back-rest zero (b ∷ bays) given store tail e below = absurd (omega (arith, below))
  back-rest (suc n) (b ∷ bays) [] store tail e below = absurd (cc)
  back-rest (suc n) (b ∷ bays) (s ∷ given) store tail e below = back-rest n bays given store tail e (omega (arith, below))

  back-here : (bays : List (Bay D g)) (failed : D) (tail : List D) (d : D) → get_or (stores_of bays ++ failed ∷ tail) (length bays) d ≡ failed
  back-here [] failed tail d = refl
  back-here (b ∷ bays) failed tail d = back-here bays failed tail d

  pub put-back : (script : Script) (cap : ℕ) (bays : List (Bay D g)) (given stores popped pushed back : List D) (store failed : D) (n k : ℕ) → AreMade script cap given bays → length bays ≡ k → k < n →
      k < length given → reverse stores ≡ drop k given → stores ≡ popped ++ store ∷ [] → pushed ≡ popped ++ failed ∷ [] → back ≡ stores_of bays ++ reverse pushed →
      IsBack g store failed → IsPutBack g n given back store failed k
  put-back script cap bays given stores popped pushed back store failed n k made len below inside rest last now all is =
      let next = next-store given stores popped store k last rest inside in
      let from : drop (length bays) given ≡ store ∷ reverse popped = ap (λ (n : ℕ). drop n given) len ∙ next.from in
      let list : back ≡ stores_of bays ++ failed ∷ reverse popped =
      all ∙ ap (λ (xs : List D). stores_of bays ++ reverse xs) now ∙ ap (λ (xs : List D). stores_of bays ++ xs) (reversed-push popped failed) in
      let at : (d : D) → get_or back k d ≡ failed =
      λ d. ap (λ (xs : List D). get_or xs k d) list ∙ ap (λ (n : ℕ). get_or (stores_of bays ++ failed ∷ reverse popped) n d) (sym len) ∙ back-here bays failed (reverse popped) d in
      record {
        back_is = subst (λ (xs : List D). AreBack g n given xs) (sym list) (record {
          count = back-count bays given store failed (reverse popped) from;
          each = λ j d l. back-each script cap bays given store failed (reverse popped) made from is j d;
          others = back-others n bays given store failed (reverse popped) from (omega (arith, len, below));
        });
        was = next.here;
        now = at;
        behind = ap (λ (xs : List D). drop (k + 1) xs) list ∙ back-others (k + 1) bays given store failed (reverse popped) from (omega (arith, len));
        unopened = λ same. ap (λ (xs : List D). drop (n - 1) xs) list ∙ ap (λ (x : D). drop (n - 1) (stores_of bays ++ x ∷ reverse popped)) same
            ∙ back-rest (n - 1) bays given store (reverse popped) from (omega (arith, len, below));
      }

  -- a bay at its start
  pub bay-at-start : (script : Script) (at : ℕ) (store : D) (now : Bay D g) → IsMade script (all_quotas script) store now → BayShows script [] at now
  bay-at-start script at store now m = record {
    told = λ t. m.told (subst (λ (b : Bool). IsTrue b) m.tells t);
    clock = m.clock;
    entries = m.entries;
    rows = m.rows;
    room = omega (arith, m.cap_is);
  }
