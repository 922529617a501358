-- How a host's progress goes with its code.
use Rattle.std.proofs.Common.{◌≡◌, ◌≢◌, eq-eqb, ℕ, ◌+◌, ◌<◌, ◌≤◌, List, [], ◌∷◌, ◌++◌, length, drop, map, zero, suc, get_or, Bool, true, false, ◌&&◌, ◌||◌, ◌==◌, Option, Some, None, Ok, Err, refl, sym, ap, subst, ◌∙◌, arith, length-append, length-drop, append-nil}
use Rattle.std.specs.List.{enumerate_from}
use Rattle.std.specs.Prelude.{IsOk}
use Rattle.std.proofs.lemmas.Bool.{ne_eqb}
use Rattle.std.proofs.lemmas.List.{drop-drop, drop_all, map-append}
use Rattle.std.proofs.lemmas.Grind.{flat_map-append}
use Rattle.raid_base.specs.declared.numbers.HostNo.{HostNo}
use Rattle.raid_base.specs.declared.jobs.Job.{Job}
use Rattle.raid_base.specs.declared.jobs.JobEnd.{JobEnd}
use Rattle.raid_base.specs.declared.jobs.JobEnd.TheVariants as ends
use Rattle.raid_base.specs.declared.jobs.Cause.{Cause}
use Rattle.raid_base.specs.declared.jobs.Cause.TheVariants as causes
use Rattle.raid_base.specs.declared.cells.Content.{Content}
use Rattle.script_text.specs.Script.{Script, jobs_of}
use Rattle.histories.specs.Progress.{Progress, Ending, Trying, Over, with_ending, next_job, endings_of, try_task, try_parts, lose_job, fit_job, rebuild_job, start_task, start_jobs, try_again, task_of, stops, stops_at, job_stops, job_ended, go_on, once_more, attempt_refused, row_mended, next_row, is_spent, parts_end, one_more, attempt}
use Rattle.host_engine.specs.Stands.{Counts, Stands, FirstTask, Begins, BeginsFirst, work_of, result_of, results_of, contents_of}
use Rattle.host_engine.specs.declared.duty.Duty.{Duty}
use Rattle.host_engine.specs.declared.duty.Duty.TheVariants as duties
use Rattle.host_engine.specs.declared.host.Host.{Host}
use Rattle.host_engine.specs.declared.attempt.Attempt.{Attempt}
use Rattle.host_engine.specs.Left.{left, Suits, SuitsWork}
use Rattle.histories.specs.Plain.{task_blocks, first_blocks, task_parts, IsTried, FirstTried, is_plain_task, is_sized_task, are_sized, is_held_task, are_held, is_aimed_task, are_aimed}
use Rattle.raid_base.specs.declared.numbers.Number.{Number}
use Rattle.raid_base.specs.declared.numbers.BayNo.{BayNo}
use Rattle.raid_base.specs.declared.numbers.RowNo.{RowNo}
use Rattle.place_numbers.specs.declared.Numbers.{Numbers}
use Rattle.histories.specs.declared.operator.Gone.{Gone}
use Rattle.histories.specs.Operator.{is_gone}
use Rattle.raid_base.specs.declared.numbers.Spent.{Spent}
use Rattle.raid_base.specs.declared.jobs.Task.{Task}
use Rattle.raid_base.specs.declared.jobs.Task.TheVariants as tasks
use Rattle.raid_base.specs.declared.jobs.RowPart.{RowPart}
use Rattle.raid_base.specs.declared.jobs.PartsFault.{PartsFault}
use Rattle.raid_base.specs.Numbers.{draw}
use Rattle.raid_base.specs.Steps.{draws, settled}
use Rattle.raid_base.proofs.DrawLemmas.{settled-asks}

enumerate-push : {X : Type 0} (n : ℕ) (xs : List X) (x : X) → enumerate_from n (xs ++ x ∷ []) ≡ enumerate_from n xs ++ (n + length xs, x) ∷ []
enumerate-push n [] x = ap (λ k. (k, x) ∷ []) (omega arith)
enumerate-push n (y ∷ xs) x =
    ap (λ zs. (n, y) ∷ zs) (enumerate-push (n + 1) xs x ∙ ap (λ k. enumerate_from (n + 1) xs ++ (k, x) ∷ []) (omega arith))

pub results-push : (host : HostNo) (es : List Ending) (e : Ending) →
    results_of host (es ++ e ∷ []) ≡ results_of host es ++ record { host = host; job = length es; «end» = e.ended } ∷ []
results-push host es e =
    ap (map (result_of host)) (enumerate-push 0 es e)
    ∙ map-append (result_of host) (enumerate_from 0 es) ((0 + length es, e) ∷ [])
    ∙ ap (λ k. results_of host es ++ record { host = host; job = k; «end» = e.ended } ∷ []) (omega arith)

-- the endings of a job in hand
endings-some : (jobs : List Job) (e : JobEnd) (contents : List Content) (p : Progress) → 0 < length jobs →
    (ending : Ending) × (endings_of jobs e contents p ≡ ending ∷ []) × (ending.ended ≡ e) × (ending.contents ≡ contents)
endings-some [] e contents p some = absurd (omega arith)
endings-some (job ∷ jobs) e contents p some = (record { job = job; ended = e; contents = contents; asked = p.asked; tries = p.tries; calls = p.calls }, refl, refl, refl)

-- a job has ended
pub counts-finished : (script : Script) (host : HostNo) (old new : Host) (p : Progress) (e : JobEnd) (contents : List Content) → Counts script host old p →
    old.job < length old.jobs.now →
    new.no ≡ old.no → new.script.now ≡ old.script.now → new.jobs.now ≡ old.jobs.now → new.job ≡ old.job + 1 → new.asked ≡ 0 → new.tries ≡ 0 → new.row ≡ 0 → new.gone ≡ old.gone → new.numbers ≡ old.numbers → new.clock ≡ old.clock →
    new.results.items ≡ old.results.items ++ record { host = old.no; job = old.job; «end» = e } ∷ [] →
    new.contents.items ≡ old.contents.items ++ contents →
    Counts script host new (next_job (with_ending p e contents))
counts-finished script host old new p e contents c inside number same listed job asked tries row gone numbers clock results read =
    let some : 0 < length p.jobs = rw c.jobs (rw (length-drop old.job (jobs_of script host)) (omega (arith, ap length c.listed))) in
    let ending = endings-some p.jobs e contents p some in
    record {
      number = number ∙ c.number;
      plays = same ∙ c.plays;
      listed = listed ∙ c.listed;
      place = rw ending.1 (length-append p.endings (ending.0 ∷ []) ∙ omega (arith, c.place));
      jobs = ap (drop 1) c.jobs ∙ drop-drop 1 old.job (jobs_of script host) ∙ ap (λ k. drop k (jobs_of script host)) (sym job);
      asked = sym asked;
      tries = sym tries;
      row = sym row;
      gone = c.gone ∙ sym gone;
      draws = ap (λ (n : _). n.host) numbers ∙ c.draws;
      seen = c.seen ∙ ap (λ (n : _). n.seen) (sym numbers);
      clock = c.clock ∙ sym clock;
      results = results ∙ rw (ending.1, results-push) (rw (ending.2, c.place, c.number, c.results) refl);
      contents = read ∙ rw (ending.1, flat_map-append) (rw (ending.3, c.contents) (ap (λ xs. contents_of p.endings ++ xs) (sym (append-nil contents))));
    }

-- nothing but what is in hand has changed
pub counts-idle : (script : Script) (host : HostNo) (old new : Host) (p : Progress) → Counts script host old p →
    new.no ≡ old.no → new.script ≡ old.script → new.jobs ≡ old.jobs → new.job ≡ old.job → new.asked ≡ old.asked → new.tries ≡ old.tries → new.row ≡ old.row → new.gone ≡ old.gone → new.numbers ≡ old.numbers → new.clock ≡ old.clock →
    new.results ≡ old.results → new.contents ≡ old.contents → Counts script host new p
counts-idle script host old new p c number plays listed job asked tries row gone numbers clock results contents = record {
  number = number ∙ c.number;
  plays = ap (λ (s : _). s.now) plays ∙ c.plays;
  listed = ap (λ (s : _). s.now) listed ∙ c.listed;
  place = c.place ∙ sym job;
  jobs = c.jobs ∙ ap (λ k. drop k (jobs_of script host)) (sym job);
  asked = c.asked ∙ sym asked;
  tries = c.tries ∙ sym tries;
  row = c.row ∙ sym row;
  gone = c.gone ∙ sym gone;
  draws = ap (λ (x : Numbers). x.host) numbers ∙ c.draws;
  seen = c.seen ∙ sym (ap (λ (x : Numbers). x.seen) numbers);
  clock = c.clock ∙ sym clock;
  results = ap (λ (v : _). v.items) results ∙ c.results;
  contents = ap (λ (v : _). v.items) contents ∙ c.contents;
}

steps-first : (script : Script) (jobs : List Job) (task : Task) (begun : Attempt) → FirstTask jobs task →
    work_of script jobs begun (Some duties.Trying) ≡ Trying (left begun (task_blocks script task))
steps-first script [] task begun first = elim first [ ]
steps-first script (job ∷ jobs) task begun first = ap (λ (t : Task). Trying (left begun (task_blocks script t))) first

suits-first : (script : Script) (jobs : List Job) (task : Task) (begun : Attempt) → FirstTask jobs task → Suits begun (task_blocks script task) → Suits begun (first_blocks script jobs)
suits-first script [] task begun first s = elim first [ ]
suits-first script (job ∷ jobs) task begun first s = subst (λ (t : Task). Suits begun (task_blocks script t)) (sym first) s

-- an attempt was begun
pub stands-tried : (script : Script) (host : HostNo) (old new : Host) (p : Progress) (task : Task) (id : Number) (begun : Attempt) (rest : Progress → Progress) →
    Counts script host old p → FirstTask p.jobs task → draw old.numbers.host old.numbers.seen ≡ Ok id →
    (left begun (task_blocks old.script.now task) ≡ attempt old.script.now old.no id old.row task) → draws (left begun (task_blocks old.script.now task)) ≡ false → Suits begun (task_blocks old.script.now task) →
    new.no ≡ old.no → new.script.now ≡ old.script.now → new.jobs.now ≡ old.jobs.now → new.job ≡ old.job → new.asked ≡ old.asked → new.tries ≡ old.tries + 1 → new.row ≡ old.row → new.gone ≡ old.gone →
    new.numbers.host ≡ old.numbers.host → new.numbers.seen ≡ id → new.clock ≡ old.clock → new.duty ≡ Some duties.Trying → new.attempt ≡ begun →
    new.results.items ≡ old.results.items → new.contents.items ≡ old.contents.items →
    Stands script host new (try_task script host task rest p)
stands-tried script host old new p task id begun rest c first drawn begun_as still_as suited number same listed job asked tries row gone draws_for seen clock tried held results read =
    let begins : left begun (task_blocks script task) ≡ attempt script host id p.row task =
    subst (λ (r : ℕ). left begun (task_blocks script task) ≡ attempt script host id r task) (sym c.row)
    (subst (λ (h : HostNo). left begun (task_blocks script task) ≡ attempt script h id old.row task) c.number
    (subst (λ (s : Script). left begun (task_blocks s task) ≡ attempt s old.no id old.row task) c.plays begun_as)) in
    let still = subst (λ (s : Script). draws (left begun (task_blocks s task)) ≡ false) c.plays still_as in
    let drawn' : draw host p.seen ≡ Ok id = rw (c.seen, ← c.draws) drawn in
    let steps : settled host id (attempt script host id p.row task) ≡ record { seen = id; steps = left begun (task_blocks script task) } =
    rw (← begins) (settled-asks host id (left begun (task_blocks script task)) still) in
    rw (drawn', steps) (record {
      counts = record {
        number = number ∙ c.number;
        plays = same ∙ c.plays;
        listed = listed ∙ c.listed;
        place = c.place ∙ sym job;
        jobs = c.jobs ∙ ap (λ k. drop k (jobs_of script host)) (sym job);
        asked = c.asked ∙ sym asked;
        tries = ap (λ n. n + 1) c.tries ∙ sym tries;
        row = c.row ∙ sym row;
        gone = c.gone ∙ sym gone;
        draws = draws_for ∙ c.draws;
        seen = sym seen;
        clock = c.clock ∙ sym clock;
        results = results ∙ c.results;
        contents = read ∙ c.contents;
      };
      work = sym (ap (λ (a : Attempt). work_of script p.jobs a new.duty) held ∙ ap (work_of script p.jobs begun) tried ∙ steps-first script p.jobs task begun first);
      suits = subst (λ (a : Attempt). SuitsWork new.duty a (first_blocks script p.jobs)) (sym held)
          (subst (λ (o : Option Duty). SuitsWork o begun (first_blocks script p.jobs)) (sym tried)
          (suits-first script p.jobs task begun first (subst (λ (x : Script). Suits begun (task_blocks x task)) c.plays suited)));
    })

-- an attempt is counted, and no number was left for its id
pub counts-spent : (script : Script) (host : HostNo) (old new : Host) (p : Progress) → Counts script host old p →
    new.no ≡ old.no → new.script.now ≡ old.script.now → new.jobs.now ≡ old.jobs.now → new.job ≡ old.job → new.asked ≡ old.asked → new.tries ≡ old.tries + 1 → new.row ≡ old.row → new.gone ≡ old.gone →
    new.numbers.host ≡ old.numbers.host → new.numbers.seen ≡ old.numbers.seen → new.clock ≡ old.clock →
    new.results.items ≡ old.results.items → new.contents.items ≡ old.contents.items →
    Counts script host new (one_more p)
counts-spent script host old new p c number same listed job asked tries row gone draws_for seen clock results read = record {
  number = number ∙ c.number;
  plays = same ∙ c.plays;
  listed = listed ∙ c.listed;
  place = c.place ∙ sym job;
  jobs = c.jobs ∙ ap (λ k. drop k (jobs_of script host)) (sym job);
  asked = c.asked ∙ sym asked;
  tries = ap (λ n. n + 1) c.tries ∙ sym tries;
  row = c.row ∙ sym row;
  gone = c.gone ∙ sym gone;
  draws = draws_for ∙ c.draws;
  seen = c.seen ∙ sym seen;
  clock = c.clock ∙ sym clock;
  results = results ∙ c.results;
  contents = read ∙ c.contents;
}

pub tried-spent : (script : Script) (host : HostNo) (p : Progress) (task : Task) (spent : Spent) (tries : ℕ) (rest : Progress → Progress) →
    draw host p.seen ≡ Err spent → p.tries + 1 ≡ tries →
    try_task script host task rest p ≡ rest (next_job (with_ending (one_more p) (ends.Gave tries (causes.Spent spent.seen)) []))
tried-spent script host p task spent tries rest drawn counted = rw (drawn, ← counted) refl

-- the job in hand
pub first-task : (jobs : List Job) (k : ℕ) (d : Job) → k < length jobs → FirstTask (drop k jobs) (get_or jobs k d).task
first-task [] k d inside = absurd (omega arith)
first-task (job ∷ jobs) zero d inside = refl
first-task (job ∷ jobs) (suc k) d inside = first-task jobs k d (omega arith)

pub first-at : (script : Script) (host : HostNo) (now : Host) (p : Progress) (d : Job) → Counts script host now p → now.job < length now.jobs.now →
    FirstTask p.jobs (get_or now.jobs.now now.job d).task
first-at script host now p d c inside =
    subst (λ (js : List Job). FirstTask js (get_or now.jobs.now now.job d).task) (ap (drop now.job) c.listed ∙ sym c.jobs) (first-task now.jobs.now now.job d inside)

begins-same : (script : Script) (host : HostNo) (f g : (Progress → Progress) → Progress → Progress) (begun : Bool) (p : Progress) (new : Host) →
    ((rest : Progress → Progress) → f rest p ≡ g rest p) → Begins script host f begun p new → Begins script host g begun p new
begins-same script host f g true p new same b = λ rest. let P : Progress → Type 0 = λ q. Stands script host new q in subst P (same rest) (b rest)
begins-same script host f g false p new same b = (b.0, b.1, λ rest. sym (same rest) ∙ b.2 rest)

-- the first job is begun as its task is
pub begins-task : (script : Script) (host : HostNo) (jobs : List Job) (task : Task) (f : (Progress → Progress) → Progress → Progress) (begun : Bool) (p : Progress) (new : Host) →
    FirstTask jobs task → ((rest : Progress → Progress) → f rest p ≡ start_task script host rest p task) → Begins script host f begun p new → BeginsFirst script host jobs begun p new
begins-task script host [] task f begun p new first same b = elim first [ ]
begins-task script host (job ∷ jobs) task f begun p new first same b =
    begins-same script host f (λ rest q. start_task script host rest q job.task) begun p new
    (λ rest. same rest ∙ ap (start_task script host rest p) (sym first)) b

-- a read or a write with parts begins an attempt
pub begins-parts : (script : Script) (host : HostNo) (task : Task) (parts : List RowPart) (begun : Bool) (p : Progress) (new : Host) → task_parts script task ≡ Ok parts →
    Begins script host (λ rest q. try_task script host task rest q) begun p new →
    Begins script host (λ rest q. try_parts script host task rest q (task_parts script task)) begun p new
begins-parts script host task parts begun p new granted b =
    begins-same script host (λ rest q. try_task script host task rest q) (λ rest q. try_parts script host task rest q (task_parts script task)) begun p new
    (λ rest. ap (try_parts script host task rest p) (sym granted)) b

-- one that has none ends at once
pub begins-refused : (script : Script) (host : HostNo) (task : Task) (fault : PartsFault) (p : Progress) (new : Host) → task_parts script task ≡ Err fault →
    Counts script host new (next_job (with_ending p (parts_end fault) [])) →
    Begins script host (λ rest q. try_parts script host task rest q (task_parts script task)) false p new
begins-refused script host task fault p new refused counts = (_, counts, λ rest. ap (try_parts script host task rest p) refused)

accessed : (script : Script) (host : HostNo) (rest : Progress → Progress) (p : Progress) (task : Task) → is_plain_task task ≡ true →
    try_parts script host task rest p (task_parts script task) ≡ start_task script host rest p task
accessed script host rest p (tasks.Read object first count) plain = refl
accessed script host rest p (tasks.Write object first from count) plain = refl
accessed script host rest p (tasks.Recover row) plain = cc
accessed script host rest p (tasks.Lose bay) plain = cc
accessed script host rest p (tasks.Fit bay) plain = cc
accessed script host rest p (tasks.Rebuild bay) plain = cc

pub begins-access : (script : Script) (host : HostNo) (jobs : List Job) (task : Task) (begun : Bool) (p : Progress) (new : Host) → FirstTask jobs task → is_plain_task task ≡ true →
    Begins script host (λ rest q. try_parts script host task rest q (task_parts script task)) begun p new → BeginsFirst script host jobs begun p new
begins-access script host jobs task begun p new first plain b =
    begins-task script host jobs task (λ rest q. try_parts script host task rest q (task_parts script task)) begun p new first (λ rest. accessed script host rest p task plain) b

-- a job of this task
pub begins-as : (script : Script) (host : HostNo) (jobs : List Job) (task other : Task) (begun : Bool) (p : Progress) (new : Host) → FirstTask jobs task → task ≡ other →
    Begins script host (λ rest q. start_task script host rest q other) begun p new → BeginsFirst script host jobs begun p new
begins-as script host jobs task other begun p new first is b =
    begins-task script host jobs task (λ rest q. start_task script host rest q other) begun p new first (λ rest. ap (start_task script host rest p) (sym is)) b

pub begins-recover : (script : Script) (host : HostNo) (jobs : List Job) (task : Task) (row : RowNo) (begun : Bool) (p : Progress) (new : Host) → FirstTask jobs task → task ≡ tasks.Recover row →
    Begins script host (λ rest q. try_task script host task rest q) begun p new → BeginsFirst script host jobs begun p new
begins-recover script host jobs task row begun p new first is b =
    begins-as script host jobs task (tasks.Recover row) begun p new first is
    (subst (λ (t : Task). Begins script host (λ rest q. try_task script host t rest q) begun p new) is b)

-- a device is lost, unless one is gone
pub losing-stands : (script : Script) (host : HostNo) (new : Host) (p : Progress) (bay : BayNo) (rest : Progress → Progress) → Counts script host new p → p.gone ≡ None →
    new.duty ≡ Some (duties.Losing bay) → Stands script host new (lose_job rest p bay p.gone)
losing-stands script host new p bay rest c none begun =
    subst (λ (g : Option Gone). Stands script host new (lose_job rest p bay g)) (sym none) (record {
      counts = record { number = c.number; plays = c.plays; listed = c.listed; place = c.place; jobs = c.jobs; asked = c.asked; tries = c.tries; row = c.row; gone = c.gone; draws = c.draws; seen = c.seen; clock = c.clock; results = c.results; contents = c.contents };
      work = sym (ap (work_of script p.jobs new.attempt) begun);
      suits = subst (λ (o : Option Duty). SuitsWork o new.attempt (first_blocks script p.jobs)) (sym begun) tt;
    })

pub still-missing : (p : Progress) (bay : BayNo) (gone : Gone) (rest : Progress → Progress) → p.gone ≡ Some gone →
    lose_job rest p bay p.gone ≡ rest (next_job (with_ending p (ends.StillMissing gone.bay) []))
still-missing p bay gone rest e = ap (lose_job rest p bay) e

-- the operator in code remembers what its progress does
pub gone-same : (script : Script) (host : HostNo) (now : Host) (p : Progress) (bay : BayNo) (fitted result expected : Bool) → Counts script host now p →
    result ≡ is_gone bay fitted now.gone → result ≡ expected → is_gone bay fitted p.gone ≡ expected
gone-same script host now p bay fitted result expected c tested is = ap (is_gone bay fitted) c.gone ∙ sym tested ∙ is

-- one is fitted where it is gone
pub fitting-stands : (script : Script) (host : HostNo) (new : Host) (p : Progress) (bay : BayNo) (rest : Progress → Progress) → Counts script host new p →
    is_gone bay false p.gone ≡ true → new.duty ≡ Some (duties.Fitting bay) → Stands script host new (fit_job rest p bay (is_gone bay false p.gone))
fitting-stands script host new p bay rest c lost begun =
    subst (λ (b : Bool). Stands script host new (fit_job rest p bay b)) (sym lost) (record {
      counts = record { number = c.number; plays = c.plays; listed = c.listed; place = c.place; jobs = c.jobs; asked = c.asked; tries = c.tries; row = c.row; gone = c.gone; draws = c.draws; seen = c.seen; clock = c.clock; results = c.results; contents = c.contents };
      work = sym (ap (work_of script p.jobs new.attempt) begun);
      suits = subst (λ (o : Option Duty). SuitsWork o new.attempt (first_blocks script p.jobs)) (sym begun) tt;
    })

pub not-lost : (p : Progress) (bay : BayNo) (rest : Progress → Progress) → is_gone bay false p.gone ≡ false →
    fit_job rest p bay (is_gone bay false p.gone) ≡ rest (next_job (with_ending p (ends.NotLost bay) []))
not-lost p bay rest e = ap (fit_job rest p bay) e

-- one is rebuilt where it is fitted
pub rebuild-begun : (script : Script) (host : HostNo) (bay : BayNo) (begun : Bool) (p : Progress) (new : Host) → is_gone bay true p.gone ≡ true →
    Begins script host (λ rest q. try_task script host (tasks.Rebuild bay) rest q) begun p new →
    Begins script host (λ rest q. rebuild_job script host rest q bay (is_gone bay true q.gone)) begun p new
rebuild-begun script host bay begun p new fitted b =
    begins-same script host (λ rest q. try_task script host (tasks.Rebuild bay) rest q) (λ rest q. rebuild_job script host rest q bay (is_gone bay true q.gone)) begun p new
    (λ rest. ap (rebuild_job script host rest p bay) (sym fitted)) b

pub not-fitted : (script : Script) (host : HostNo) (p : Progress) (bay : BayNo) (rest : Progress → Progress) → is_gone bay true p.gone ≡ false →
    rebuild_job script host rest p bay (is_gone bay true p.gone) ≡ rest (next_job (with_ending p (ends.NotFitted bay) []))
not-fitted script host p bay rest e = ap (rebuild_job script host rest p bay) e

-- a read or a write that has parts is tried
pub tried-parts : (script : Script) (task : Task) → is_plain_task task ≡ true → IsOk (task_parts script task) → IsTried script task
tried-parts script (tasks.Read object first count) plain granted = granted
tried-parts script (tasks.Write object first from count) plain granted = granted
tried-parts script (tasks.Recover row) plain granted = cc
tried-parts script (tasks.Lose bay) plain granted = cc
tried-parts script (tasks.Fit bay) plain granted = cc
tried-parts script (tasks.Rebuild bay) plain granted = cc

first-of-and : (a b : Bool) → (a && b) ≡ true → a ≡ true
first-of-and true b e = refl
first-of-and false b e = cc

second-of-and : (a b : Bool) → (a && b) ≡ true → b ≡ true
second-of-and true b e = e
second-of-and false b e = cc

-- the task of the job in hand
pub tried-first : (script : Script) (jobs : List Job) (task : Task) → FirstTask jobs task → FirstTried script jobs → IsTried script task
tried-first script [] task first tried = elim first [ ]
tried-first script (job ∷ jobs) task first tried = subst (IsTried script) first tried

pub aimed-at : (n : ℕ) (jobs : List Job) (k : ℕ) (d : Job) → are_aimed n jobs ≡ true → k < length jobs → is_aimed_task n (get_or jobs k d).task ≡ true
aimed-at n [] k d all inside = absurd (omega arith)
aimed-at n (job ∷ jobs) zero d all inside = first-of-and (is_aimed_task n job.task) (are_aimed n jobs) all
aimed-at n (job ∷ jobs) (suc k) d all inside = aimed-at n jobs k d (second-of-and (is_aimed_task n job.task) (are_aimed n jobs) all) (omega arith)

pub sized-at : (jobs : List Job) (k : ℕ) (d : Job) → are_sized jobs ≡ true → k < length jobs → is_sized_task (get_or jobs k d).task ≡ true
sized-at [] k d all inside = absurd (omega arith)
sized-at (job ∷ jobs) zero d all inside = first-of-and (is_sized_task job.task) (are_sized jobs) all
sized-at (job ∷ jobs) (suc k) d all inside = sized-at jobs k d (second-of-and (is_sized_task job.task) (are_sized jobs) all) (omega arith)

pub held-at : (blocks : ℕ) (jobs : List Job) (k : ℕ) (d : Job) → are_held blocks jobs ≡ true → k < length jobs → is_held_task blocks (get_or jobs k d).task ≡ true
held-at blocks [] k d all inside = absurd (omega arith)
held-at blocks (job ∷ jobs) zero d all inside = first-of-and (is_held_task blocks job.task) (are_held blocks jobs) all
held-at blocks (job ∷ jobs) (suc k) d all inside = held-at blocks jobs k d (second-of-and (is_held_task blocks job.task) (are_held blocks jobs) all) (omega arith)

-- from one job to the next
pub start-stands : (script : Script) (host : HostNo) (p : Progress) (new : Host) → BeginsFirst script host p.jobs true p new → Stands script host new (start_jobs script host p.jobs p)
start-stands script host p new b = go p.jobs b
  where
    go : (jobs : List Job) → BeginsFirst script host jobs true p new → Stands script host new (start_jobs script host jobs p)
    go [] b = elim b [ ]
    go (job ∷ jobs) b = b (start_jobs script host jobs)

pub start-more : (script : Script) (host : HostNo) (k : ℕ) (p : Progress) (new : Host) → p.jobs ≡ drop k (jobs_of script host) → new.job ≡ k + 1 → BeginsFirst script host p.jobs false p new →
    (q : Progress) × Counts script host new q × (start_jobs script host p.jobs p ≡ start_jobs script host q.jobs q)
start-more script host k p new left next b = go p.jobs left b
  where
    go : (jobs : List Job) → jobs ≡ drop k (jobs_of script host) → BeginsFirst script host jobs false p new →
        (q : Progress) × Counts script host new q × (start_jobs script host jobs p ≡ start_jobs script host q.jobs q)
    go [] is b = elim b [ ]
    go (job ∷ jobs) is b =
        let rest : jobs ≡ drop 1 (drop k (jobs_of script host)) = ap (drop 1) is in
        let same : jobs ≡ b.0.jobs = rest ∙ drop-drop 1 k (jobs_of script host) ∙ ap (λ n. drop n (jobs_of script host)) (sym next) ∙ sym b.1.jobs in
        (b.0, b.1, b.2 (start_jobs script host jobs) ∙ ap (λ js. start_jobs script host js b.0) same)

pub start-over : (script : Script) (host : HostNo) (new : Host) (p : Progress) → Counts script host new p → new.duty ≡ None → length new.jobs.now ≤ new.job →
    Stands script host new (start_jobs script host p.jobs p)
start-over script host new p c none past =
    let over : p.jobs ≡ [] = c.jobs ∙ drop_all new.job (jobs_of script host) (rw (← c.listed) past) in
    rw over (record {
      counts = record { number = c.number; plays = c.plays; listed = c.listed; place = c.place; jobs = sym over ∙ c.jobs; asked = c.asked; tries = c.tries; row = c.row; gone = c.gone; draws = c.draws; seen = c.seen; clock = c.clock; results = c.results; contents = c.contents };
      work = sym (ap (work_of script [] new.attempt) none);
      suits = subst (λ (o : Option Duty). SuitsWork o new.attempt (first_blocks script [])) (sym none) tt;
    })

-- a further attempt was begun
pub again-begun : (script : Script) (host : HostNo) (p : Progress) (new : Host) (task : Task) → FirstTask p.jobs task →
    Begins script host (λ rest q. try_task script host task rest q) true p new → Stands script host new (try_again script host p (task_of p.jobs))
again-begun script host p new task first b = go p.jobs first (b (start_jobs script host (drop 1 p.jobs)))
  where
    go : (jobs : List Job) → FirstTask jobs task → Stands script host new (try_task script host task (start_jobs script host (drop 1 p.jobs)) p) →
        Stands script host new (try_again script host p (task_of jobs))
    go [] f s = elim f [ ]
    go (job ∷ jobs) f s =
        let P : Task → Type 0 = λ t. Stands script host new (try_task script host t (start_jobs script host (drop 1 p.jobs)) p) in
        subst P (sym f) s

-- no number was left for it
pub again-spent : (script : Script) (host : HostNo) (k : ℕ) (p : Progress) (new : Host) (task : Task) → FirstTask p.jobs task → p.jobs ≡ drop k (jobs_of script host) → new.job ≡ k + 1 →
    Begins script host (λ rest q. try_task script host task rest q) false p new →
    (q : Progress) × Counts script host new q × (try_again script host p (task_of p.jobs) ≡ start_jobs script host q.jobs q)
again-spent script host k p new task first left next b =
    let rest : drop 1 p.jobs ≡ b.0.jobs =
    ap (drop 1) left ∙ drop-drop 1 k (jobs_of script host) ∙ ap (λ n. drop n (jobs_of script host)) (sym next) ∙ sym b.1.jobs in
    (b.0, b.1, go p.jobs first (b.2 (start_jobs script host (drop 1 p.jobs))) ∙ ap (λ js. start_jobs script host js b.0) rest)
  where
    go : {q : Progress} → (jobs : List Job) → FirstTask jobs task → try_task script host task (start_jobs script host (drop 1 p.jobs)) p ≡ q →
        try_again script host p (task_of jobs) ≡ q
    go [] f e = elim f [ ]
    go (job ∷ jobs) f e = ap (λ (t : Task). try_task script host t (start_jobs script host (drop 1 p.jobs)) p) f ∙ e

-- the host has stopped
pub stopped-stands : (script : Script) (host : HostNo) (new : Host) (q : Progress) → Counts script host new q → new.duty ≡ None → Stands script host new (record q { work = Over })
stopped-stands script host new q c none = record {
  counts = record { number = c.number; plays = c.plays; listed = c.listed; place = c.place; jobs = c.jobs; asked = c.asked; tries = c.tries; row = c.row; gone = c.gone; draws = c.draws; seen = c.seen; clock = c.clock; results = c.results; contents = c.contents };
  work = sym (ap (work_of script q.jobs new.attempt) none);
  suits = subst (λ (o : Option Duty). SuitsWork o new.attempt (first_blocks script q.jobs)) (sym none) tt;
}

-- the last request that the job in hand may make was answered
pub stops-at : (jobs : List Job) (k : ℕ) (d : Job) (asked : ℕ) → k < length jobs → job_stops (drop k jobs) asked ≡ stops_at (get_or jobs k d).quit asked
stops-at [] k d asked inside = absurd (omega arith)
stops-at (job ∷ jobs) zero d asked inside = refl
stops-at (job ∷ jobs) (suc k) d asked inside = stops-at jobs k d asked (omega arith)

pub stops-same : (script : Script) (host : HostNo) (now : Host) (p : Progress) (d : Job) (stop : Bool) → Counts script host now p → now.job < length now.jobs.now →
    stop ≡ stops_at (get_or now.jobs.now now.job d).quit now.asked → stop ≡ stops p
stops-same script host now p d stop c inside is =
    is ∙ sym (stops-at now.jobs.now now.job d now.asked inside) ∙ ap (λ (js : List Job). job_stops (drop now.job js) now.asked) c.listed
    ∙ ap (λ (js : List Job). job_stops js now.asked) (sym c.jobs) ∙ ap (job_stops p.jobs) (sym c.asked)

-- a job of a host that stops or goes on has ended
pub ended-over : (script : Script) (host : HostNo) (p : Progress) (e : JobEnd) (contents : List Content) → stops p ≡ true →
    job_ended script host p e contents ≡ record (next_job (with_ending p e contents)) { work = Over }
ended-over script host p e contents stop = ap (go_on script host (with_ending p e contents)) stop

pub ended-on : (script : Script) (host : HostNo) (p : Progress) (e : JobEnd) (contents : List Content) → stops p ≡ false →
    job_ended script host p e contents ≡ start_jobs script host (next_job (with_ending p e contents)).jobs (next_job (with_ending p e contents))
ended-on script host p e contents stop = ap (go_on script host (with_ending p e contents)) stop

-- the test of a host in code is that of its progress
pub test-same : (script : Script) (host : HostNo) (now : Host) (p : Progress) (cause : Cause) (most : ℕ) (result expected : Bool) → Counts script host now p →
    most ≡ now.script.now.tries → result ≡ ((now.tries == most) || is_spent cause) → result ≡ expected →
    ((p.tries == script.tries) || is_spent cause) ≡ expected
test-same script host now p cause most result expected c is_most tested is_expected =
    let tries : most ≡ script.tries = is_most ∙ ap (λ (s : Script). s.tries) c.plays in
    ap (λ n. (n == script.tries) || is_spent cause) c.tries ∙ ap (λ n. (now.tries == n) || is_spent cause) (sym tries) ∙ sym tested ∙ is_expected

-- a refused attempt was the last
pub gave-stands : (script : Script) (host : HostNo) (p : Progress) (new : Host) (cause : Cause) (tries : ℕ) (test : Bool) → test ≡ true → p.tries ≡ tries →
    Stands script host new (job_ended script host p (ends.Gave tries cause) []) → Stands script host new (attempt_refused script host p cause test)
gave-stands script host p new cause tries test last same s =
    subst (λ (b : Bool). Stands script host new (attempt_refused script host p cause b)) (sym last)
    (subst (λ (t : ℕ). Stands script host new (job_ended script host p (ends.Gave t cause) [])) (sym same) s)

-- the host stops, or goes on with another attempt
pub quit-stands : (script : Script) (host : HostNo) (p later : Progress) (new : Host) (tries : ℕ) → stops p ≡ true → p.tries ≡ tries →
    Stands script host new (job_ended script host p (ends.Gave tries causes.Quit) []) → Stands script host new (once_more script host p later (stops p))
quit-stands script host p later new tries stop same s =
    subst (λ (b : Bool). Stands script host new (once_more script host p later b)) (sym stop)
    (subst (λ (t : ℕ). Stands script host new (job_ended script host p (ends.Gave t causes.Quit) [])) (sym same) s)

pub more-stands : (script : Script) (host : HostNo) (p later : Progress) (new : Host) → stops p ≡ false →
    Stands script host new (try_again script host later (task_of p.jobs)) → Stands script host new (once_more script host p later (stops p))
more-stands script host p later new go s = subst (λ (b : Bool). Stands script host new (once_more script host p later b)) (sym go) s

pub refused-stands : (script : Script) (host : HostNo) (p : Progress) (new : Host) (cause : Cause) (test : Bool) → test ≡ false →
    Stands script host new (once_more script host p p (stops p)) → Stands script host new (attempt_refused script host p cause test)
refused-stands script host p new cause test more s = subst (λ (b : Bool). Stands script host new (attempt_refused script host p cause b)) (sym more) s

-- a row was mended: the last, or another
pub mended-stands : (script : Script) (host : HostNo) (p : Progress) (new : Host) (last : Bool) → (p.row + 1 == script.rows) ≡ last →
    Stands script host new (row_mended script host p last) → Stands script host new (row_mended script host p (p.row + 1 == script.rows))
mended-stands script host p new last is s = subst (λ (b : Bool). Stands script host new (row_mended script host p b)) (sym is) s

pub last-is : (script : Script) (host : HostNo) (now : Host) (p : Progress) (rows : ℕ) → Counts script host now p → rows ≡ now.script.now.rows →
    now.row + 1 ≡ rows → (p.row + 1 == script.rows) ≡ true
last-is script host now p rows c has is =
    let row : p.row ≡ now.row = c.row in
    let all : now.script.now.rows ≡ script.rows = ap (λ (s : Script). s.rows) c.plays in
    eq-eqb (p.row + 1) script.rows (omega (arith, row, all, has, is))

pub last-not : (script : Script) (host : HostNo) (now : Host) (p : Progress) (rows : ℕ) → Counts script host now p → rows ≡ now.script.now.rows →
    now.row + 1 ≢ rows → (p.row + 1 == script.rows) ≡ false
last-not script host now p rows c has other =
    let row : p.row ≡ now.row = c.row in
    let all : now.script.now.rows ≡ script.rows = ap (λ (s : Script). s.rows) c.plays in
    ne_eqb (p.row + 1) script.rows (λ (e : p.row + 1 ≡ script.rows). other (omega (arith, row, all, has, e)))

-- what the operator remembers has changed
pub counts-gone : (script : Script) (host : HostNo) (old new : Host) (p : Progress) (device : Option Gone) → Counts script host old p →
    new.no ≡ old.no → new.script ≡ old.script → new.jobs ≡ old.jobs → new.job ≡ old.job → new.asked ≡ old.asked → new.tries ≡ old.tries → new.row ≡ old.row → new.gone ≡ device → new.numbers ≡ old.numbers → new.clock ≡ old.clock →
    new.results ≡ old.results → new.contents ≡ old.contents → Counts script host new (record p { gone = device })
counts-gone script host old new p device c number plays listed job asked tries row is numbers clock results contents = record {
  number = number ∙ c.number;
  plays = ap (λ (s : _). s.now) plays ∙ c.plays;
  listed = ap (λ (s : _). s.now) listed ∙ c.listed;
  place = c.place ∙ sym job;
  jobs = c.jobs ∙ ap (λ k. drop k (jobs_of script host)) (sym job);
  asked = c.asked ∙ sym asked;
  tries = c.tries ∙ sym tries;
  row = c.row ∙ sym row;
  gone = sym is;
  draws = ap (λ (x : Numbers). x.host) numbers ∙ c.draws;
  seen = c.seen ∙ sym (ap (λ (x : Numbers). x.seen) numbers);
  clock = c.clock ∙ sym clock;
  results = ap (λ (v : _). v.items) results ∙ c.results;
  contents = ap (λ (v : _). v.items) contents ∙ c.contents;
}

-- the next row is to be mended
pub counts-row : (script : Script) (host : HostNo) (old new : Host) (p : Progress) → Counts script host old p →
    new.no ≡ old.no → new.script ≡ old.script → new.jobs ≡ old.jobs → new.job ≡ old.job → new.asked ≡ old.asked → new.tries ≡ 0 → new.row ≡ old.row + 1 → new.gone ≡ old.gone → new.numbers ≡ old.numbers → new.clock ≡ old.clock →
    new.results ≡ old.results → new.contents ≡ old.contents → Counts script host new (next_row p)
counts-row script host old new p c number plays listed job asked tries row gone numbers clock results contents = record {
  number = number ∙ c.number;
  plays = ap (λ (s : _). s.now) plays ∙ c.plays;
  listed = ap (λ (s : _). s.now) listed ∙ c.listed;
  place = c.place ∙ sym job;
  jobs = c.jobs ∙ ap (λ k. drop k (jobs_of script host)) (sym job);
  asked = c.asked ∙ sym asked;
  tries = sym tries;
  row = ap (λ k. k + 1) c.row ∙ sym row;
  gone = c.gone ∙ sym gone;
  draws = ap (λ (x : Numbers). x.host) numbers ∙ c.draws;
  seen = c.seen ∙ sym (ap (λ (x : Numbers). x.seen) numbers);
  clock = c.clock ∙ sym clock;
  results = ap (λ (v : _). v.items) results ∙ c.results;
  contents = ap (λ (v : _). v.items) contents ∙ c.contents;
}
