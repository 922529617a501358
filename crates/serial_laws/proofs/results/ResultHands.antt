-- What the results of a host tell of what was taken, together with what its attempt in hand has committed: kept where an attempt
-- begins, where it draws a number, and where it ends or its host stops.
use Rattle.std.proofs.Common.{◌≡◌, ◌⊎◌, inl, inr, refl, sym, ap, subst, ◌∙◌, ℕ, ◌+◌, ◌%◌, ◌<◌, ◌≤◌, ◌==◌, ◌||◌, Bool, true, false, List, [], ◌∷◌, ◌++◌, drop, Option, Some, None, Result, Ok, Err, arith}
use Rattle.std.specs.Prelude.{IsOk}
use Rattle.std.specs.List.{AllByRecursion}
use Rattle.raid_base.specs.declared.numbers.BayNo.{BayNo}
use Rattle.raid_base.specs.declared.numbers.HostNo.{HostNo}
use Rattle.raid_base.specs.declared.numbers.RowNo.{RowNo}
use Rattle.raid_base.specs.declared.numbers.Number.{Number}
use Rattle.raid_base.specs.declared.numbers.Spent.{Spent}
use Rattle.raid_base.specs.declared.cells.Content.{Content}
use Rattle.raid_base.specs.declared.messages.Call.{Call}
use Rattle.raid_base.specs.declared.messages.Errand.{Errand}
use Rattle.raid_base.specs.declared.messages.Reply.{Reply}
use Rattle.raid_base.specs.declared.jobs.Job.{Job}
use Rattle.raid_base.specs.declared.jobs.Task.{Task}
use Rattle.raid_base.specs.declared.jobs.Task.TheVariants as tasks
use Rattle.raid_base.specs.declared.jobs.RowPart.{RowPart}
use Rattle.raid_base.specs.declared.jobs.PartsFault.{PartsFault}
use Rattle.raid_base.specs.declared.jobs.PartsFault.TheVariants as faults
use Rattle.raid_base.specs.declared.jobs.Cause.{Cause}
use Rattle.raid_base.specs.declared.jobs.Cause.TheVariants as causes
use Rattle.raid_base.specs.declared.jobs.Ended.{Ended}
use Rattle.raid_base.specs.declared.jobs.Ended.TheVariants as ends
use Rattle.raid_base.specs.declared.jobs.JobEnd.{JobEnd}
use Rattle.raid_base.specs.declared.jobs.JobEnd.TheVariants as job_ends
use Rattle.raid_base.specs.Numbers.{draw, seen_drawn}
use Rattle.raid_base.specs.Steps.{Commit, Steps, Asks, Draws, Ends, settled, draws}
use Rattle.attempts.specs.Taking.{Finish}
use Rattle.attempts.specs.Phases.{IsIn}
use Rattle.attempts.proofs.NumberingLemmas.{draws-above}
use Rattle.attempts.proofs.ReturnLemmas.{in-left, in-right}
use Rattle.attempts.proofs.RoomLemmas.{all-append}
use Rattle.script_text.specs.Script.{Script, parts_of}
use Rattle.script_text.specs.Ranges.{IsScript, IsTask}
use Rattle.serial_array.specs.Serial.{number_of}
use Rattle.histories.specs.declared.operator.Gone.{Gone}
use Rattle.histories.specs.Operator.{is_gone}
use Rattle.histories.specs.Plain.{IsTried}
use Rattle.histories.specs.Progress.{Ending, Work, Trying, Losing, Fitting, Over, Progress, endings_of, with_ending, next_job, attempt, try_with, one_more, try_task, parts_end, try_parts, lose_job, fit_job, rebuild_job, start_task, start_jobs, stops, go_on, job_ended, task_of, try_again, once_more, is_spent, attempt_refused, next_row, row_mended, attempt_ended, quit_end, asks_on, steps_left}
use Rattle.row_laws.specs.Effects.{Effecting}
use Rattle.serial_laws.specs.Rising.{Taken}
use Rattle.serial_laws.specs.Told.{TaskTells}
use Rattle.row_laws.proofs.hands.HandClaims.{kind_of}
use Rattle.row_laws.proofs.numbers.NumberTrees as trees
use Rattle.row_laws.proofs.numbers.RisenDraws.{HasNumber, Numbered, draws-numbered, attempt-numbered, number-least}
use Rattle.serial_laws.proofs.results.ResultEffects.{settled-effecting, attempt-effecting, refused-nothing, mended-nothing}

-- What is known of a host, where its jobs and those of others have taken so much
module _ (script : Script) (host : HostNo) (took : RowNo → ℕ → List Taken) where
  -- a content with a number of the host
  abbrev pub IsOwn : Taken → Type 0
  IsOwn t = t.number.0 % 16 ≡ host.0

  -- a result with this number tells what was committed with it
  pub record Told (e : Ending) (n : Number) : Type 0 where
    pub own : n.0 % 16 ≡ host.0
    pub id : Number
    pub done : List Commit
    pub ended : Ended
    pub same : e.ended ≡ quit_end e.tries ended
    pub tells : TaskTells script host id e.job.task done ended
    pub taken : (commit : Commit) → IsIn commit done → IsIn (record { number = n; content = commit.content }) (took commit.row commit.unit)
    pub only : (row : RowNo) (unit : ℕ) (t : Taken) → IsIn t (took row unit) → t.number ≡ n → IsIn (record { row = row; unit = unit; content = t.content }) done

  abbrev pub AreTold : List Ending → Type 0
  AreTold endings = AllByRecursion (λ (e : Ending). (n : Number) → number_of e.ended ≡ Some n → Told e n) endings

  -- their numbers are below this
  abbrev pub AreBelow : ℕ → List Ending → Type 0
  AreBelow top endings = AllByRecursion (λ (e : Ending). (n : Number) → number_of e.ended ≡ Some n → n.0 < top) endings

  -- it has the number of one of these results
  abbrev pub IsToldBy : List Ending → Taken → Type 0
  IsToldBy endings t = (e : Ending) × IsIn e endings × (number_of e.ended ≡ Some t.number)

  abbrev pub AreTasks : List Job → Type 0
  AreTasks jobs = AllByRecursion (λ (job : Job). IsTask script host job.task) jobs

  -- a host without an attempt in hand: each content with a number of its own has that of a result
  pub record Rest (jobs : List Job) (endings : List Ending) (seen : Number) : Type 0 where
    pub may : AreTasks jobs
    pub told : AreTold endings
    pub below : AreBelow (seen.0 + 1) endings
    pub low : (row : RowNo) (unit : ℕ) (t : Taken) → IsIn t (took row unit) → IsOwn t → t.number.0 ≤ seen.0
    pub whose : (row : RowNo) (unit : ℕ) (t : Taken) → IsIn t (took row unit) → IsOwn t → IsToldBy endings t

  -- a host with an attempt in hand: what has a number not below its id, has its number and was committed by it
  pub record Hand (jobs : List Job) (endings : List Ending) (calls : List Call) (seen : Number) (steps : Steps Finish) : Type 0 where
    pub may : AreTasks jobs
    pub task : Task
    pub first : task_of jobs ≡ Some task
    pub aim : IsTask script host task
    pub tried : IsTried script task
    pub id : Number
    pub numbered : Numbered script.n id script.mode (kind_of task) host calls (record { seen = seen; steps = steps })
    pub done : List Commit
    pub effecting : Effecting (TaskTells script host id task) done steps
    pub taken : (commit : Commit) → IsIn commit done →
        (m : Number) × (numbered.past.number ≡ Some m) × IsIn (record { number = m; content = commit.content }) (took commit.row commit.unit)
    pub only : (row : RowNo) (unit : ℕ) (t : Taken) → IsIn t (took row unit) → IsOwn t → id.0 ≤ t.number.0 →
        (numbered.past.number ≡ Some t.number) × IsIn (record { row = row; unit = unit; content = t.content }) done
    pub told : AreTold endings
    pub below : AreBelow id.0 endings
    pub low : (row : RowNo) (unit : ℕ) (t : Taken) → IsIn t (took row unit) → IsOwn t → t.number.0 ≤ seen.0
    pub whose : (row : RowNo) (unit : ℕ) (t : Taken) → IsIn t (took row unit) → IsOwn t → (id.0 ≤ t.number.0) ⊎ IsToldBy endings t

  abbrev pub Stands : List Job → List Ending → List Call → Number → Work → Type 0
  Stands jobs endings calls seen (Trying steps) = Hand jobs endings calls seen steps
  Stands jobs endings calls seen (Losing bay) = Rest jobs endings seen
  Stands jobs endings calls seen (Fitting bay) = Rest jobs endings seen
  Stands jobs endings calls seen Over = Rest jobs endings seen

  abbrev pub Holds : Progress → Type 0
  Holds p = Stands p.jobs p.endings p.calls p.seen p.work

-- Numbers below
below-more : (script : Script) (host : HostNo) (took : RowNo → ℕ → List Taken) (top more : ℕ) → top ≤ more → (endings : List Ending) →
    AreBelow script host took top endings → AreBelow script host took more endings
below-more script host took top more le [] h = tt
below-more script host took top more le (e ∷ es) h = (λ n is. let less = h.0 n is in omega (arith, le, less), below-more script host took top more le es h.1)

rest-tasks : (script : Script) (host : HostNo) (took : RowNo → ℕ → List Taken) (jobs : List Job) → AreTasks script host took jobs → AreTasks script host took (drop 1 jobs)
rest-tasks script host took [] h = tt
rest-tasks script host took (job ∷ jobs) h = h.1

-- where something is told, it is told by more
told-left : (script : Script) (host : HostNo) (took : RowNo → ℕ → List Taken) (xs ys : List Ending) (t : Taken) → IsToldBy script host took xs t → IsToldBy script host took (xs ++ ys) t
told-left script host took xs ys t (e, i, is) = (e, in-left e xs ys i, is)

module _ (script : Script) (is : IsScript script) (host : HostNo) (few : host.0 < 16) (took : RowNo → ℕ → List Taken) where
  abbrev Resting : Progress → Type 0
  Resting p = Rest script host took p.jobs p.endings p.seen

  abbrev Holding : Progress → Type 0
  Holding p = Holds script host took p

  -- Numbers are drawn
  drawn-hand : (jobs : List Job) (endings : List Ending) (calls : List Call) (seen : Number) (k : Result Number Spent → Steps Finish) (d : Result Number Spent) → draw host seen ≡ d →
      Hand script host took jobs endings calls seen (Draws k) → Hand script host took jobs endings calls (seen_drawn seen d) (k d)
  drawn-hand jobs endings calls seen k d e h = record {
    may = h.may;
    task = h.task;
    first = h.first;
    aim = h.aim;
    tried = h.tried;
    id = h.id;
    numbered = draws-numbered script.n h.id script.mode (kind_of h.task) host few calls seen k d e h.numbered;
    done = h.done;
    effecting = h.effecting d;
    taken = λ commit i. absurd (let given = h.taken commit i in none given.0 given.1);
    only = λ row unit t i own least. absurd (none t.number (h.only row unit t i own least).0);
    told = h.told;
    below = h.below;
    low = λ row unit t i own. more d e t.number (h.low row unit t i own);
    whose = h.whose;
  }
    where
      none : (m : Number) → h.numbered.past.number ≡ Some m → ⊥
      none m has = absurd (let bad : None ≡ Some m = sym (h.numbered.keeps.0) ∙ has in cc)

      more : (d : Result Number Spent) → draw host seen ≡ d → (m : Number) → m.0 ≤ seen.0 → m.0 ≤ (seen_drawn seen d).0
      more (Ok n) e m le = let drawn = draws-above host seen n few e in let above : seen.0 < n.0 = drawn.above in omega (arith, above, le)
      more (Err spent) e m le = le

  pub settled-hand : (jobs : List Job) (endings : List Ending) (calls : List Call) (seen : Number) (s : Steps Finish) → Hand script host took jobs endings calls seen s →
      Hand script host took jobs endings calls (settled host seen s).seen (settled host seen s).steps
  settled-hand jobs endings calls seen (Asks e stop commits k) h = h
  settled-hand jobs endings calls seen (Draws k) h =
      settled-hand jobs endings calls (seen_drawn seen (draw host seen)) (k (draw host seen)) (drawn-hand jobs endings calls seen k (draw host seen) refl h)
  settled-hand jobs endings calls seen (Ends finish) h = h

  -- Results are added
  added : (jobs : List Job) (xs ys : List Ending) (seen : Number) → AreTold script host took ys → AreBelow script host took (seen.0 + 1) ys → Rest script host took jobs xs seen →
      Rest script host took (drop 1 jobs) (xs ++ ys) seen
  added jobs xs ys seen told below r = record {
    may = rest-tasks script host took jobs r.may;
    told = all-append (λ (e : Ending). (n : Number) → number_of e.ended ≡ Some n → Told script host took e n) xs ys r.told told;
    below = all-append (λ (e : Ending). (n : Number) → number_of e.ended ≡ Some n → n.0 < seen.0 + 1) xs ys r.below below;
    low = r.low;
    whose = λ row unit t i own. told-left script host took xs ys t (r.whose row unit t i own);
  }

  -- one without a number
  plain-told : (js : List Job) (e : JobEnd) (read : List Content) (p : Progress) → number_of e ≡ None → AreTold script host took (endings_of js e read p)
  plain-told [] e read p none = tt
  plain-told (job ∷ jobs) e read p none = (λ n has. absurd (let bad : None ≡ Some n = sym none ∙ has in cc), tt)

  plain-below : (js : List Job) (e : JobEnd) (read : List Content) (p : Progress) (top : ℕ) → number_of e ≡ None → AreBelow script host took top (endings_of js e read p)
  plain-below [] e read p top none = tt
  plain-below (job ∷ jobs) e read p top none = (λ n has. absurd (let bad : None ≡ Some n = sym none ∙ has in cc), tt)

  abbrev EndsAs : Progress → JobEnd → List Content → Type 0
  EndsAs p e read = Rest script host took (drop 1 p.jobs) (p.endings ++ endings_of p.jobs e read p) p.seen

  next-rest : (p : Progress) (e : JobEnd) (read : List Content) → number_of e ≡ None → Resting p → EndsAs p e read
  next-rest p e read none r = added p.jobs p.endings (endings_of p.jobs e read p) p.seen (plain-told p.jobs e read p none) (plain-below p.jobs e read p (p.seen.0 + 1) none) r

  -- where it goes on with these jobs
  abbrev GoesOn : List Job → (Progress → Progress) → Type 0
  GoesOn jobs rest = (q : Progress) → q.jobs ≡ jobs → Resting q → Holding (rest q)

  module _ (rest : Progress → Progress) (job : Job) (jobs : List Job) (goes_on : GoesOn jobs rest) (p : Progress) (first : p.jobs ≡ job ∷ jobs) (s : Resting p) where
    skips : (q : Progress) (e : JobEnd) → number_of e ≡ None → q.jobs ≡ job ∷ jobs → Resting q → Holding (rest (next_job (with_ending q e [])))
    skips q e none same r = goes_on (next_job (with_ending q e [])) (ap (drop 1) same) (next-rest q e [] none r)

    own-task : IsTask script host job.task
    own-task = (subst (AreTasks script host took) first s.may).0

    tries-with : IsTried script job.task → (d : Result Number Spent) → draw host p.seen ≡ d → Holding (try_with script host job.task rest (one_more p) d)
    tries-with tried (Ok id) e =
        let drawn = draws-above host p.seen id few e in
        let above : p.seen.0 < id.0 = drawn.above in
        let a : Steps Finish = attempt script host id p.row job.task in
        let x : Numbered script.n id script.mode (kind_of job.task) host [] (settled host id a) = attempt-numbered script is host few id drawn.own p.row job.task own-task in
        let more : id.0 ≤ (settled host id a).seen.0 = x.low in
        record {
          may = s.may;
          task = job.task;
          first = ap task_of first;
          aim = own-task;
          tried = tried;
          id = id;
          numbered = x;
          done = [];
          effecting = settled-effecting (TaskTells script host id job.task) host id [] a (attempt-effecting script is host id p.row job.task own-task tried);
          taken = λ commit i. absurd i;
          only = λ row unit t i own least. absurd (let low = s.low row unit t i own in omega (arith, low, above, least));
          told = s.told;
          below = below-more script host took (p.seen.0 + 1) id.0 (omega (arith, above)) p.endings s.below;
          low = λ row unit t i own. let low = s.low row unit t i own in omega (arith, low, above, more);
          whose = λ row unit t i own. inr (s.whose row unit t i own);
        }
    tries-with tried (Err spent) e = skips (one_more p) (job_ends.Gave (p.tries + 1) (causes.Spent spent.seen)) refl first s

    tries : IsTried script job.task → Holding (try_task script host job.task rest p)
    tries tried = tries-with tried (draw host p.seen) refl

    tries-as : (task : Task) → job.task ≡ task → IsTried script task → Holding (try_task script host task rest p)
    tries-as task same tried = subst (λ (t : Task). Holding (try_task script host t rest p)) same (tries (subst (IsTried script) (sym same) tried))

    parts-plain : (fault : PartsFault) → number_of (parts_end fault) ≡ None
    parts-plain faults.NoObject = refl
    parts-plain (faults.PastEnd blocks) = refl
    parts-plain (faults.TooManyRows rows) = refl

    parts-begin : (task : Task) → job.task ≡ task → (r : Result (List RowPart) PartsFault) → (IsOk r → IsTried script task) → Holding (try_parts script host task rest p r)
    parts-begin task same (Ok parts) tried = tries-as task same (tried refl)
    parts-begin task same (Err fault) tried = skips p (parts_end fault) (parts-plain fault) first s

    loses : (bay : BayNo) (gone : Option Gone) → Holding (lose_job rest p bay gone)
    loses bay None = s
    loses bay (Some gone) = skips p (job_ends.StillMissing gone.bay) refl first s

    fits-one : (bay : BayNo) (lost : Bool) → Holding (fit_job rest p bay lost)
    fits-one bay true = s
    fits-one bay false = skips p (job_ends.NotLost bay) refl first s

    rebuilds : (bay : BayNo) → job.task ≡ tasks.Rebuild bay → (fitted : Bool) → Holding (rebuild_job script host rest p bay fitted)
    rebuilds bay same true = tries-as (tasks.Rebuild bay) same (subst (IsTask script host) same own-task).1
    rebuilds bay same false = skips p (job_ends.NotFitted bay) refl first s

    starts-as : (task : Task) → job.task ≡ task → Holding (start_task script host rest p task)
    starts-as (tasks.Read object begin count) same = parts-begin (tasks.Read object begin count) same (parts_of script object begin count) (λ ok. ok)
    starts-as (tasks.Write object begin from count) same = parts-begin (tasks.Write object begin from count) same (parts_of script object begin count) (λ ok. ok)
    starts-as (tasks.Recover at) same = tries-as (tasks.Recover at) same tt
    starts-as (tasks.Lose bay) same = loses bay p.gone
    starts-as (tasks.Fit bay) same = fits-one bay (is_gone bay false p.gone)
    starts-as (tasks.Rebuild bay) same = rebuilds bay same (is_gone bay true p.gone)

    starts : Holding (start_task script host rest p job.task)
    starts = starts-as job.task refl

  pub jobs-hold : (jobs : List Job) → GoesOn jobs (start_jobs script host jobs)
  jobs-hold [] p same r = r
  jobs-hold (job ∷ jobs) p same r = starts (start_jobs script host jobs) job jobs (jobs-hold jobs) p same r

  -- A job ends
  on-hold : (q : Progress) (stopped : Bool) → Rest script host took (drop 1 q.jobs) q.endings q.seen → Holding (go_on script host q stopped)
  on-hold q true r = r
  on-hold q false r = jobs-hold (drop 1 q.jobs) (next_job q) refl r

  ended-hold : (p : Progress) (e : JobEnd) (read : List Content) → EndsAs p e read → Holding (job_ended script host p e read)
  ended-hold p e read r = on-hold (with_ending p e read) (stops p) r

  pub ended-plain : (p : Progress) (e : JobEnd) (read : List Content) → number_of e ≡ None → Resting p → Holding (job_ended script host p e read)
  ended-plain p e read none r = ended-hold p e read (next-rest p e read none r)

  again-hold : (later : Progress) (js : List Job) → later.jobs ≡ js → (task : Task) → task_of js ≡ Some task → IsTried script task → Resting later → Holding (try_again script host later (task_of js))
  again-hold later [] same task named tried r = r
  again-hold later (job ∷ jobs) same task named tried r =
      let one : task ≡ job.task = cc in
      tries (start_jobs script host (drop 1 later.jobs)) job jobs (λ q left x. jobs-hold (drop 1 later.jobs) q (left ∙ sym (ap (drop 1) same)) x) later same r (subst (IsTried script) one tried)

  module _ (p : Progress) (task : Task) (first : task_of p.jobs ≡ Some task) (tried : IsTried script task) (r : Resting p) where
    more-hold : (later : Progress) → later.jobs ≡ p.jobs → Resting later → (stopped : Bool) → Holding (once_more script host p later stopped)
    more-hold later same x true = ended-plain p (job_ends.Gave p.tries causes.Quit) [] refl r
    more-hold later same x false = again-hold later p.jobs same task first tried x

    refused-hold : (cause : Cause) (last : Bool) → Holding (attempt_refused script host p cause last)
    refused-hold cause true = ended-plain p (job_ends.Gave p.tries cause) [] refl r
    refused-hold cause false = more-hold p refl r (stops p)

    mended-hold : (last : Bool) → Holding (row_mended script host p last)
    mended-hold true = ended-plain (record p { gone = None }) job_ends.Rebuilt [] refl r
    mended-hold false = more-hold (next_row p) refl r (stops p)

  -- An attempt ends
  module _ (p : Progress) (steps : Steps Finish) (h : Hand script host took p.jobs p.endings p.calls p.seen steps) where
    -- having committed nothing
    quiet : h.done ≡ [] → Resting p
    quiet none = record {
      may = h.may;
      told = h.told;
      below = (let low = h.numbered.low in below-more script host took h.id.0 (p.seen.0 + 1) (omega (arith, low)) p.endings h.below);
      low = h.low;
      whose = λ row unit t i own. by row unit t i own (h.whose row unit t i own);
    }
      where
        by : (row : RowNo) (unit : ℕ) (t : Taken) → IsIn t (took row unit) → IsOwn script host took t → (h.id.0 ≤ t.number.0) ⊎ IsToldBy script host took p.endings t → IsToldBy script host took p.endings t
        by row unit t i own (inl least) = absurd (subst (λ (cs : List Commit). IsIn (record { row = row; unit = unit; content = t.content }) cs) none (h.only row unit t i own least).1)
        by row unit t i own (inr told) = told

    -- with a number
    module _ (e : JobEnd) (read : List Content) (ended : Ended) (n : Number) (numbers : number_of e ≡ Some n) (same : e ≡ quit_end p.tries ended)
        (has : h.numbered.past.number ≡ Some n) (tells : TaskTells script host h.id h.task h.done ended) where
      is-number : HasNumber h.id script.mode (kind_of h.task) host h.numbered.past p.calls p.seen n
      is-number = h.numbered.number n has

      same-number : (m : Number) → h.numbered.past.number ≡ Some m → m ≡ n
      same-number m other = let both : Some m ≡ Some n = sym other ∙ has in cc

      one-told : (job : Job) → h.task ≡ job.task → Told script host took (record { job = job; ended = e; contents = read; asked = p.asked; tries = p.tries; calls = p.calls }) n
      one-told job is_task = record {
        own = is-number.own;
        id = h.id;
        done = h.done;
        ended = ended;
        same = same;
        tells = subst (λ (t : Task). TaskTells script host h.id t h.done ended) is_task tells;
        taken = λ commit i.
            let given = h.taken commit i in
            subst (λ (m : Number). IsIn (record { number = m; content = commit.content }) (took commit.row commit.unit)) (same-number given.0 given.1) given.2;
        only = λ row unit t i at.
            let least = number-least is-number.is in
            let value : t.number.0 ≡ n.0 = ap (λ (x : Number). x.0) at in
            (h.only row unit t i (ap (λ (x : Number). x.0 % 16) at ∙ is-number.own) (omega (arith, least, value))).1;
      }

      loud-told : (js : List Job) → task_of js ≡ Some h.task → AreTold script host took (endings_of js e read p)
      loud-told [] first = tt
      loud-told (job ∷ jobs) first =
          let one : h.task ≡ job.task = cc in
          (λ m is_m. let named : n ≡ m = (let both : Some n ≡ Some m = sym numbers ∙ is_m in cc) in subst (λ (x : Number). Told script host took (record { job = job; ended = e; contents = read; asked = p.asked; tries = p.tries; calls = p.calls }) x) named (one-told job one), tt)

      loud-below : (js : List Job) → AreBelow script host took (p.seen.0 + 1) (endings_of js e read p)
      loud-below [] = tt
      loud-below (job ∷ jobs) =
          (λ m is_m. let named : n ≡ m = (let both : Some n ≡ Some m = sym numbers ∙ is_m in cc) in let value = ap (λ (x : Number). x.0) named in let low = is-number.low in omega (arith, value, low), tt)

      loud-whose : (js : List Job) → task_of js ≡ Some h.task → (t : Taken) → t.number ≡ n → IsToldBy script host took (endings_of js e read p) t
      loud-whose [] first t at = absurd (cc)
      loud-whose (job ∷ jobs) first t at =
          (record { job = job; ended = e; contents = read; asked = p.asked; tries = p.tries; calls = p.calls }, inl refl, numbers ∙ ap (λ (x : Number). Some x) (sym at))

      loud : EndsAs p e read
      loud = record {
        may = rest-tasks script host took p.jobs h.may;
        told = all-append (λ (x : Ending). (m : Number) → number_of x.ended ≡ Some m → Told script host took x m) p.endings (endings_of p.jobs e read p) h.told (loud-told p.jobs h.first);
        below =
            (let low = h.numbered.low in
            all-append (λ (x : Ending). (m : Number) → number_of x.ended ≡ Some m → m.0 < p.seen.0 + 1) p.endings (endings_of p.jobs e read p)
            (below-more script host took h.id.0 (p.seen.0 + 1) (omega (arith, low)) p.endings h.below) (loud-below p.jobs));
        low = h.low;
        whose = λ row unit t i own. by row unit t i own (h.whose row unit t i own);
      }
        where
          by : (row : RowNo) (unit : ℕ) (t : Taken) → IsIn t (took row unit) → IsOwn script host took t → (h.id.0 ≤ t.number.0) ⊎ IsToldBy script host took p.endings t →
              IsToldBy script host took (p.endings ++ endings_of p.jobs e read p) t
          by row unit t i own (inl least) =
              let found = loud-whose p.jobs h.first t (same-number t.number (h.only row unit t i own least).0) in
              (found.0, in-right found.0 p.endings (endings_of p.jobs e read p) found.1, found.2)
          by row unit t i own (inr told) = told-left script host took p.endings (endings_of p.jobs e read p) t told

    attempt-hold : (read : List Content) (ended : Ended) → TaskTells script host h.id h.task h.done ended → trees.HasNumber h.numbered.past.number ended →
        Holding (attempt_ended script host p read ended)
    attempt-hold read (ends.Read n) tells has = ended-hold p (job_ends.Read n) read (loud (job_ends.Read n) read (ends.Read n) n refl refl has tells)
    attempt-hold read (ends.Wrote n) tells has = ended-hold p (job_ends.Wrote n) [] (loud (job_ends.Wrote n) [] (ends.Wrote n) n refl refl has tells)
    attempt-hold read (ends.Part n made cause) tells has =
        ended-hold p (job_ends.Part n made cause) [] (loud (job_ends.Part n made cause) [] (ends.Part n made cause) n refl refl has tells)
    attempt-hold read (ends.Recovered n closed lost) tells has =
        ended-hold p (job_ends.Recovered n closed lost) [] (loud (job_ends.Recovered n closed lost) [] (ends.Recovered n closed lost) n refl refl has tells)
    attempt-hold read (ends.Refused cause) tells has =
        refused-hold p h.task h.first h.tried (quiet (refused-nothing script is host h.id h.task h.done cause tells)) cause ((p.tries == script.tries) || is_spent cause)
    attempt-hold read ends.Mended tells has =
        mended-hold p h.task h.first h.tried (quiet (mended-nothing script is host h.id h.task h.done tells)) (p.row + 1 == script.rows)

    -- its host stops
    quit-hold : (stop : Ended) → TaskTells script host h.id h.task h.done stop → trees.HasNumber h.numbered.past.number stop → EndsAs p (quit_end p.tries stop) []
    quit-hold (ends.Read n) tells has = loud (job_ends.Read n) [] (ends.Read n) n refl refl has tells
    quit-hold (ends.Wrote n) tells has = loud (job_ends.Wrote n) [] (ends.Wrote n) n refl refl has tells
    quit-hold (ends.Part n made cause) tells has = loud (job_ends.Part n made cause) [] (ends.Part n made cause) n refl refl has tells
    quit-hold (ends.Recovered n closed lost) tells has = loud (job_ends.Recovered n closed lost) [] (ends.Recovered n closed lost) n refl refl has tells
    quit-hold (ends.Refused cause) tells has =
        next-rest p (job_ends.Gave p.tries causes.Quit) [] refl (quiet (refused-nothing script is host h.id h.task h.done cause tells))
    quit-hold ends.Mended tells has = next-rest p (job_ends.Gave p.tries causes.Quit) [] refl (quiet (mended-nothing script is host h.id h.task h.done tells))

  asks-hold : (p : Progress) (e : Errand) (stop : Ended) (commits : List Commit) (k : Reply → Steps Finish) → Hand script host took p.jobs p.endings p.calls p.seen (Asks e stop commits k) →
      (stopped : Bool) → Holding (asks_on p (Asks e stop commits k) stop stopped)
  asks-hold p e stop commits k h true = quit-hold p (Asks e stop commits k) h stop (h.effecting.0) (h.numbered.tells.0)
  asks-hold p e stop commits k h false = h

  -- steps that are left
  pub left-hold : (p : Progress) (steps : Steps Finish) → draws steps ≡ false → Hand script host took p.jobs p.endings p.calls p.seen steps → Holding (steps_left script host p steps)
  left-hold p (Asks e stop commits k) none h = asks-hold p e stop commits k h (stops p)
  left-hold p (Draws k) none h = absurd (let bad : true ≡ false = none in cc)
  left-hold p (Ends finish) none h = attempt-hold p (Ends finish) h finish.contents finish.ended (h.effecting) (h.numbered.tells)
