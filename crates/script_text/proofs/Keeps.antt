-- A script that lines have told so far is a script.
use Rattle.std.proofs.Common.{◌≡◌, ℕ, ◌+◌, ◌-◌, ◌^◌, ◌<◌, ◌≤◌, Bool, true, false, ◌&&◌, ◌||◌, not, eqb, ltb, leb, List, [], ◌∷◌, ◌++◌, length, map, take, drop, get_or, suc, Option, Some, None, refl, sym, ap, ◌∙◌, arith, subst, lit<, lit≤, inl, inr, add_assoc}
use Rattle.std.specs.Prelude.{IsNone, is_some}
use Rattle.std.specs.List.{All, Contains, flat_map, list_all, list_any, sum_by}
use Rattle.std.proofs.lemmas.Bool.{and_parts, ltb-true, leb-true, eqb-true, not-true, or_cases}
use Rattle.std.proofs.lemmas.List.{append-nil, append_assoc, map-append, length-append}
use Rattle.std.proofs.lemmas.List.Concat.{flat_map-append}
use Rattle.std.proofs.lemmas.List.Sums.{sum_by-cons}
use Rattle.std.proofs.lemmas.List.Elements.{All-nil, All-cons, All-head, All-tail, All-push, All-append, All-weaker, Contains-append_left, Contains-push}
use Rattle.raid_base.specs.declared.names.Name.{Name}
use Rattle.raid_base.specs.declared.messages.Mode.{Mode}
use Rattle.raid_base.specs.declared.messages.Turn.{Turn}
use Rattle.raid_base.specs.declared.numbers.RowNo.{RowNo}
use Rattle.raid_base.specs.declared.numbers.HostNo.{HostNo}
use Rattle.raid_base.specs.declared.jobs.Job.{Job}
use Rattle.raid_base.specs.declared.jobs.Task.{Task}
use Rattle.raid_base.specs.declared.jobs.Task.TheVariants.{Read, Write, Recover, Lose, Fit, Rebuild}
use Rattle.raid_base.specs.Names.{IsNameText}
use Rattle.virtual_objects.specs.Objects.{Object, rows_of}
use Rattle.virtual_objects.specs.Table.{AreObjects, first_used, held, no_objects, with_object}
use Rattle.virtual_objects.proofs.TableLemmas.{added_are, no_objects_are}
use Rattle.text_lines.specs.Blocks.{IsBlock}
use Rattle.script_text.specs.Script.{Script, HostJobs, host_numbers}
use Rattle.script_text.specs.Ranges.{InOrder, IsAccess, IsJob, IsQuit, IsScript, IsTask, Rise, WritesFrom, all_jobs, all_written, blocks_written, table_of}
use Rattle.script_text.specs.Forms.{Work, Reads, Writes, Recovers, Loses, Fits, Rebuilds}
use Rattle.script_text.specs.Faults.{blocks_in, has_host, is_operators, last_number, quit_in_range, row_numbers, task_of, with_job, with_work, work_in_range}

-- a script without objects, hosts and turns
abbrev pub head_script : ℕ → ℕ → Mode → ℕ → ℕ → Script
head_script n rows mode patience tries = record { n = n; rows = rows; mode = mode; patience = patience; tries = tries; objects = []; hosts = []; blocks = []; turns = [] }

pub head-is-script : (n rows : ℕ) (mode : Mode) (patience tries : ℕ) → 3 ≤ n → n ≤ 16 → 1 ≤ rows → rows ≤ 4096 → patience < 2 ^ 40 → 1 ≤ tries → tries ≤ 64 → IsScript (head_script n rows mode patience tries)
head-is-script n rows mode patience tries a b c d p l m = record {
  devices_least = a;
  devices_most = b;
  rows_least = c;
  rows_most = d;
  patience = p;
  tries_least = l;
  tries_most = m;
  objects = no_objects_are n rows a b c d;
  names = All-nil _;
  hosts = tt;
  jobs = All-nil _;
  blocks = All-nil _;
  blocks_whose = tt;
  blocks_all = refl;
  turns = All-nil _;
}

-- a job depends on the numbers of devices and rows alone
task-same : (a b : Script) → a.n ≡ b.n → a.rows ≡ b.rows → (host : HostNo) (task : Task) → IsTask a host task → IsTask b host task
task-same a b n r host (Read object first count) h = h
task-same a b n r host (Write object first from count) h = h
task-same a b n r host (Recover row) h = subst (λ (m : ℕ). row.0 < m) r h
task-same a b n r host (Lose bay) h = (h.0, subst (λ (m : ℕ). bay.0 < m) n h.1)
task-same a b n r host (Fit bay) h = (h.0, subst (λ (m : ℕ). bay.0 < m) n h.1)
task-same a b n r host (Rebuild bay) h = (h.0, subst (λ (m : ℕ). bay.0 < m) n h.1)

pub jobs-same : (a b : Script) → a.n ≡ b.n → a.rows ≡ b.rows → (hosts : List HostJobs) → All (λ (host : HostJobs). All (IsJob a host.host) host.jobs) hosts → All (λ (host : HostJobs). All (IsJob b host.host) host.jobs) hosts
jobs-same a b n r hosts h =
    All-weaker (λ (host : HostJobs). All (IsJob a host.host) host.jobs) (λ (host : HostJobs). All (IsJob b host.host) host.jobs)
    (λ host all. All-weaker (IsJob a host.host) (IsJob b host.host) (λ job j. record { task = task-same a b n r host.host job.task j.task; quit = j.quit }) host.jobs all) hosts h

none-of : {X : Type 0} (o : Option X) → not (is_some o) ≡ true → o ≡ None
none-of None h = refl
none-of (Some x) h = cc h

is-none : {X : Type 0} (o : Option X) → not (is_some o) ≡ true → IsNone o
is-none None h = refl
is-none (Some x) h = cc h

pub object-keeps : (s : Script) (name : Name) (rows : List RowNo) → IsScript s → IsNameText name → length s.objects < 64 → 0 < length rows → All (λ (row : RowNo). row.0 < s.rows) rows
    → (not (is_some (rows_of s.objects name)) && not (is_some (first_used (held s.objects) rows))) ≡ true → IsScript (record s { objects = s.objects ++ record { name = name; rows = rows } ∷ [] })
object-keeps s name rows i named few some below unused =
    let parts = and_parts _ _ unused in
    record {
      devices_least = i.devices_least;
      devices_most = i.devices_most;
      rows_least = i.rows_least;
      rows_most = i.rows_most;
      patience = i.patience;
      tries_least = i.tries_least;
      tries_most = i.tries_most;
      objects = added_are (table_of s) name rows i.objects few (is-none (rows_of s.objects name) parts.0) (none-of (first_used (held s.objects) rows) parts.1) some below;
      names = All-push (λ (object : Object). IsNameText object.name) s.objects _ i.names named;
      hosts = i.hosts;
      jobs = jobs-same s _ refl refl s.hosts i.jobs;
      blocks = i.blocks;
      blocks_whose = i.blocks_whose;
      blocks_all = i.blocks_all;
      turns = i.turns;
    }

-- a number above all hosts so far may come next
rise-push : (from number : ℕ) (hosts : List HostJobs) (host : HostJobs) → host.host.0 ≡ number → Rise from (map (λ (h : HostJobs). h.host) hosts) → list_all (λ (before : HostJobs). ltb before.host.0 number) hosts ≡ true → from ≤ number → number < 16
    → Rise from (map (λ (h : HostJobs). h.host) (hosts ++ host ∷ []))
rise-push from number [] host e rise below l m = (omega arith, omega arith, tt)
rise-push from number (first ∷ hosts) host e rise below l m =
    let parts = and_parts (ltb first.host.0 number) _ below in
    let here : first.host.0 < number = ltb-true _ _ parts.0 in
    (rise.0, rise.1, rise-push (first.host.0 + 1) number hosts host e rise.2 parts.1 (omega arith) m)

abbrev jobs_in_all : List HostJobs → List Job
jobs_in_all hosts = flat_map (λ (host : HostJobs). host.jobs) hosts

pub host-keeps : (s : Script) (number : ℕ) → IsScript s → number < 16 → list_all (λ (before : HostJobs). ltb before.host.0 number) s.hosts ≡ true → IsScript (record s { hosts = s.hosts ++ record { host = record { 0 = number }; jobs = [] } ∷ [] })
host-keeps s number i l below =
    let host : HostJobs = record { host = record { 0 = number }; jobs = [] } in
    let same : jobs_in_all s.hosts ≡ jobs_in_all (s.hosts ++ host ∷ []) = sym (flat_map-append (λ (h : HostJobs). h.jobs) s.hosts (host ∷ []) ∙ append-nil (jobs_in_all s.hosts)) in
    let more : Script = record s { hosts = s.hosts ++ host ∷ [] } in
    record {
      devices_least = i.devices_least;
      devices_most = i.devices_most;
      rows_least = i.rows_least;
      rows_most = i.rows_most;
      patience = i.patience;
      tries_least = i.tries_least;
      tries_most = i.tries_most;
      objects = i.objects;
      names = i.names;
      hosts = rise-push 0 number s.hosts host refl i.hosts below (omega arith) l;
      jobs = All-push (λ (h : HostJobs). All (IsJob more h.host) h.jobs) s.hosts host (jobs-same s more refl refl s.hosts i.jobs) (All-nil _);
      blocks = i.blocks;
      blocks_whose = subst (λ (js : List Job). InOrder 0 js) same i.blocks_whose;
      blocks_all = i.blocks_all ∙ ap (λ (js : List Job). all_written js) same;
      turns = All-weaker (λ (turn : Turn). Contains (host_numbers s) turn.host × (turn.moment < 2 ^ 40)) (λ (turn : Turn). Contains (host_numbers more) turn.host × (turn.moment < 2 ^ 40))
          (λ turn t. (subst (λ (hs : List HostNo). Contains hs turn.host) (sym (map-append (λ (h : HostJobs). h.host) s.hosts (host ∷ []))) (Contains-append_left (host_numbers s) (record { 0 = number } ∷ []) turn.host t.0), t.1)) s.turns i.turns;
    }

-- a host that is found stands among the hosts
found-host : (hosts : List HostJobs) (number : ℕ) → list_any (λ (host : HostJobs). eqb host.host.0 number) hosts ≡ true → Contains (map (λ (h : HostJobs). h.host) hosts) (record { 0 = number })
found-host [] number h = cc h
found-host (host ∷ hosts) number h =
    elim (or_cases (eqb host.host.0 number) _ h) [
      | inl here ↦ (0, omega arith, ap (λ (n : ℕ). let no : HostNo = record { 0 = n } in no) (eqb-true _ _ here))
      | inr more ↦ let c = found-host hosts number more in (suc c.0, omega (arith, c.1), c.2)
    ]

pub turn-keeps : (s : Script) (host moment : ℕ) → IsScript s → moment < 2 ^ 40 → has_host s.hosts host ≡ true → IsScript (record s { turns = s.turns ++ record { host = record { 0 = host }; moment = moment } ∷ [] })
turn-keeps s host moment i l known =
    let turn : Turn = record { host = record { 0 = host }; moment = moment } in
    let more : Script = record s { turns = s.turns ++ turn ∷ [] } in
    record {
      devices_least = i.devices_least;
      devices_most = i.devices_most;
      rows_least = i.rows_least;
      rows_most = i.rows_most;
      patience = i.patience;
      tries_least = i.tries_least;
      tries_most = i.tries_most;
      objects = i.objects;
      names = i.names;
      hosts = i.hosts;
      jobs = jobs-same s more refl refl s.hosts i.jobs;
      blocks = i.blocks;
      blocks_whose = i.blocks_whose;
      blocks_all = i.blocks_all;
      turns = All-push (λ (t : Turn). Contains (host_numbers s) t.host × (t.moment < 2 ^ 40)) s.turns turn i.turns (found-host s.hosts host known, l);
    }

-- one job more for the last host
pub jobs-push : (job : Job) (host : HostJobs) (hosts : List HostJobs) → jobs_in_all (with_job job (host ∷ hosts)) ≡ jobs_in_all (host ∷ hosts) ++ job ∷ []
jobs-push job host [] = append-nil (host.jobs ++ job ∷ []) ∙ ap (λ js. js ++ job ∷ []) (sym (append-nil host.jobs))
jobs-push job host (next ∷ more) = ap (λ js. host.jobs ++ js) (jobs-push job next more) ∙ sym (append_assoc host.jobs (jobs_in_all (next ∷ more)) (job ∷ []))

numbers-push : (job : Job) (hosts : List HostJobs) → map (λ (h : HostJobs). h.host) (with_job job hosts) ≡ map (λ (h : HostJobs). h.host) hosts
numbers-push job [] = refl
numbers-push job (host ∷ []) = refl
numbers-push job (host ∷ next ∷ more) = ap (λ hs. host.host ∷ hs) (numbers-push job (next ∷ more))

all-push : (s : Script) (job : Job) (hosts : List HostJobs) → All (λ (host : HostJobs). All (IsJob s host.host) host.jobs) hosts → IsJob s (record { 0 = last_number hosts }) job → All (λ (host : HostJobs). All (IsJob s host.host) host.jobs) (with_job job hosts)
all-push s job [] h j = All-nil _
all-push s job (host ∷ []) h j =
    let P : HostJobs → Type 0 = λ host. All (IsJob s host.host) host.jobs in
    All-cons P (record { host = host.host; jobs = host.jobs ++ job ∷ [] }) [] (All-push (IsJob s host.host) host.jobs job (All-head P host [] h) j) (All-nil P)
all-push s job (host ∷ next ∷ more) h j =
    let P : HostJobs → Type 0 = λ host. All (IsJob s host.host) host.jobs in
    All-cons P host (with_job job (next ∷ more)) (All-head P host (next ∷ more) h) (all-push s job (next ∷ more) (All-tail P host (next ∷ more) h) j)

pub written-cons : (job : Job) (jobs : List Job) → all_written (job ∷ jobs) ≡ blocks_written job.task + all_written jobs
written-cons job jobs = sum_by-cons (λ (j : Job). blocks_written j.task) job jobs

pub written-append : (xs ys : List Job) → all_written (xs ++ ys) ≡ all_written xs + all_written ys
written-append [] ys = omega arith
written-append (job ∷ jobs) ys = let e = written-append jobs ys in let c = written-cons job (jobs ++ ys) in let d = written-cons job jobs in omega (arith, e, c, d)

order-push : (at : ℕ) (jobs : List Job) (job : Job) → InOrder at jobs → WritesFrom (at + all_written jobs) job.task → InOrder at (jobs ++ job ∷ [])
order-push at [] job o w = (subst (λ (n : ℕ). WritesFrom n job.task) (omega arith) w, tt)
order-push at (first ∷ jobs) job o w = (o.0, order-push (at + blocks_written first.task) jobs job o.1 (subst (λ (n : ℕ). WritesFrom n job.task) (let c = written-cons first jobs in omega (arith, c)) w))

-- what one job needs to be the script's
pub record FitsIn (s : Script) (quit : Option ℕ) (work : Work) : Type 0 where
  pub task : IsTask s (record { 0 = last_number s.hosts }) (task_of (length s.blocks) work)
  pub quits : IsQuit quit
  pub blocks : All IsBlock (blocks_in work)
  pub whose : WritesFrom (length s.blocks) (task_of (length s.blocks) work)
  pub many : length (blocks_in work) ≡ blocks_written (task_of (length s.blocks) work)

pub job-keeps : (s : Script) (quit : Option ℕ) (work : Work) (host : HostJobs) (hosts : List HostJobs) → s.hosts ≡ host ∷ hosts → IsScript s → FitsIn s quit work → IsScript (with_work s quit work)
job-keeps s quit work host hosts e i f =
    let job : Job = record { task = task_of (length s.blocks) work; quit = quit } in
    let more : Script = with_work s quit work in
    let pushed : jobs_in_all (with_job job s.hosts) ≡ jobs_in_all s.hosts ++ job ∷ [] = subst (λ (hs : List HostJobs). jobs_in_all (with_job job hs) ≡ jobs_in_all hs ++ job ∷ []) (sym e) (jobs-push job host hosts) in
    record {
      devices_least = i.devices_least;
      devices_most = i.devices_most;
      rows_least = i.rows_least;
      rows_most = i.rows_most;
      patience = i.patience;
      tries_least = i.tries_least;
      tries_most = i.tries_most;
      objects = i.objects;
      names = i.names;
      hosts = subst (λ (ns : List HostNo). Rise 0 ns) (sym (numbers-push job s.hosts)) i.hosts;
      jobs = jobs-same s more refl refl (with_job job s.hosts) (all-push s job s.hosts i.jobs (record { task = f.task; quit = f.quits }));
      blocks = All-append IsBlock s.blocks (blocks_in work) i.blocks f.blocks;
      blocks_whose = subst (λ (js : List Job). InOrder 0 js) (sym pushed) (order-push 0 (jobs_in_all s.hosts) job i.blocks_whose (subst (λ (n : ℕ). WritesFrom n job.task) (i.blocks_all ∙ omega arith) f.whose));
      blocks_all = let sums = ap (λ (js : List Job). all_written js) pushed in let two = written-append (jobs_in_all s.hosts) (job ∷ []) in let one = written-cons job [] in let all = i.blocks_all in let many = f.many in length-append s.blocks (blocks_in work) ∙ omega (arith, sums, two, one, all, many);
      turns = subst (λ (ns : List HostNo). All (λ (turn : Turn). Contains ns turn.host × (turn.moment < 2 ^ 40)) s.turns) (sym (numbers-push job s.hosts)) i.turns;
    }
