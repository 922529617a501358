-- The lines of a script's hosts are read.
use Rattle.std.proofs.Common.{◌≡◌, ℕ, ◌+◌, ◌-◌, ◌^◌, ◌<◌, ◌≤◌, Bool, true, false, ◌&&◌, ◌||◌, not, cond, eqb, ltb, leb, List, [], ◌∷◌, ◌++◌, length, map, take, drop, zero, suc, Option, Some, None, refl, sym, ap, ◌∙◌, arith, subst, decimal}
use Rattle.std.specs.Prelude.{codes}
use Rattle.std.specs.List.{All, flat_map, list_all}
use Rattle.std.proofs.lemmas.Bool.{and_from, and_parts, lt-ltb, le-leb, cond-true, cond-false, or_left, or_right, eq-eqb}
use Rattle.std.proofs.lemmas.List.{append-nil, append_assoc, map-append, length-append, length-map, length-take, length-drop, take_all, take-append-drop, length-take-le, drop-drop}
use Rattle.std.proofs.lemmas.List.Concat.{flat_map-append}
use Rattle.std.proofs.lemmas.List.Elements.{All-nil, All-cons, All-head, All-tail, All-take, All-drop}
use Rattle.raid_base.specs.declared.jobs.Job.{Job}
use Rattle.raid_base.specs.declared.jobs.Task.{Task}
use Rattle.raid_base.specs.declared.jobs.Task.TheVariants.{Read, Write, Recover, Lose, Fit, Rebuild}
use Rattle.raid_base.specs.declared.numbers.HostNo.{HostNo}
use Rattle.raid_base.specs.Names.{is_name, is_text}
use Rattle.text_lines.specs.Blocks.{IsBlock, block_text}
use Rattle.text_lines.specs.Lines.{joined}
use Rattle.text_lines.specs.Numbers.{is_number}
use Rattle.text_lines.proofs.NumberLemmas.{is_number-decimal}
use Rattle.text_lines.proofs.WordLemmas.{IsWord, IsWord-decimal, IsWord-name, IsWord-block}
use Rattle.script_text.specs.Script.{Script, HostJobs, blocks_of}
use Rattle.script_text.specs.Text.{Words, host_lines, job_words, quit_words, task_words}
use Rattle.script_text.specs.Ranges.{InOrder, IsJob, IsQuit, IsScript, IsTask, Rise, WritesFrom, all_jobs, all_written, blocks_written}
use Rattle.script_text.specs.declared.lines.Stage.TheVariants.{Body}
use Rattle.script_text.specs.Forms.{Form, HostLine, JobLine, NoLine, Work, Reads, Writes, Recovers, Loses, Fits, Rebuilds, block_of, host_form, is_block, job_form, job_of, number, object_or_job, only_number, pair, quit_form, turn_form, two_numbers, value, with_number, with_numbers, words, work_of, write_work}
use Rattle.script_text.specs.Faults.{Said, after, blocks_in, fault_of, form_of, is_operators, last_number, quit_in_range, task_of, with_job, work_in_range}
use Rattle.script_text.proofs.WordTexts.{block-right}
use Rattle.script_text.proofs.JobSteps.{job-push, judged-none, last-push}
use Rattle.script_text.proofs.Keeps.{written-append, written-cons}
use Rattle.script_text.proofs.Runs.{AllWords, OneRun, Runs, joined-line, number-decimal, run-one, runs-append, value-decimal, words-joined}
use Rattle.script_text.proofs.RunHead.{in-range}
use Rattle.script_text.proofs.SaidLines.{order-parts}

-- the script so far: its hosts, and so many blocks
abbrev pub with_hosts : Script → List HostJobs → ℕ → Said
with_hosts s hosts count = record { stage = Body; script = record { n = s.n; rows = s.rows; mode = s.mode; patience = s.patience; tries = s.tries; objects = s.objects; hosts = hosts; blocks = take count s.blocks; turns = [] } }

rise-below : (from : ℕ) (done : List HostJobs) (host : HostJobs) (left : List HostJobs) → Rise from (map (λ (h : HostJobs). h.host) (done ++ host ∷ left)) → list_all (λ (before : HostJobs). ltb before.host.0 host.host.0) done ≡ true × (host.host.0 < 16) × (from ≤ host.host.0)
rise-below from [] host left r = (refl, r.1, r.0)
rise-below from (first ∷ done) host left r =
    let more = rise-below (first.host.0 + 1) done host left r.2 in
    let first_from : from ≤ first.host.0 = r.0 in
    let high : first.host.0 + 1 ≤ host.host.0 = more.2 in
    (and_from _ _ (lt-ltb _ _ (omega arith)) more.0, more.1, omega arith)

abbrev host_words : HostJobs → Words
host_words host = codes "host" ∷ decimal host.host.0 ∷ []

host-run : (s : Script) (done : List HostJobs) (host : HostJobs) (left : List HostJobs) (count : ℕ) → IsScript s → s.hosts ≡ done ++ host ∷ left → OneRun (with_hosts s done count) (host_words host) (with_hosts s (done ++ record { host = host.host; jobs = [] } ∷ []) count)
host-run s done host left count i e =
    let rise = rise-below 0 done host left (subst (λ (hs : List HostJobs). Rise 0 (map (λ (h : HostJobs). h.host) hs)) e i.hosts) in
    let low = rise.1 in
    let word = IsWord-decimal host.host.0 (omega arith) in
    let is = words-joined (codes "host") (decimal host.host.0 ∷ []) refl (word, tt) in
    let said = with_hosts s done count in
    let text = joined (host_words host) in
    run-one said (with_hosts s (done ++ record { host = host.host; jobs = [] } ∷ []) count) (host_words host) (HostLine host.host.0) refl (joined-line (host_words host) (refl, (word, tt)))
    (ap (λ ws. host_form ws (turn_form (words text) (object_or_job done (words text)))) is ∙ ap (λ o. with_number NoLine (λ h. HostLine h) o) (number-decimal host.host.0 (omega arith)))
    (judged-none _ true true (and_from _ _ (lt-ltb _ _ low) rise.0) refl refl)
    refl

-- the work of a task, whose blocks are words still
abbrev work_from : Script → Task → Work
work_from s (Read object first count) = Reads object first count
work_from s (Write object first from count) = Writes object first (map block_text (blocks_of s from count))
work_from s (Recover row) = Recovers row.0
work_from s (Lose bay) = Loses bay.0
work_from s (Fit bay) = Fits bay.0
work_from s (Rebuild bay) = Rebuilds bay.0

block-words : (blocks : List (List ℕ)) → AllWords (map block_text blocks)
block-words [] = tt
block-words (block ∷ blocks) = (IsWord-block block, block-words blocks)

blocks-back : (blocks : List (List ℕ)) → All IsBlock blocks → (list_all is_block (map block_text blocks) ≡ true) × (map block_of (map block_text blocks) ≡ blocks)
blocks-back [] all = (refl, refl)
blocks-back (block ∷ blocks) all =
    let right = block-right (block_text block) block (All-head IsBlock block blocks all) refl in
    let more = blocks-back blocks (All-tail IsBlock block blocks all) in
    (and_from _ _ right.0 more.0, ap (λ b. b ∷ map block_of (map block_text blocks)) right.1 ∙ ap (λ bs. block ∷ bs) more.1)

take-nothing : (n : ℕ) → (let none : List (List ℕ) = [] in take n none ≡ [])
take-nothing zero = refl
take-nothing (suc n) = refl

take-more : (from count : ℕ) (blocks : List (List ℕ)) → take from blocks ++ take count (drop from blocks) ≡ take (from + count) blocks
take-more zero count blocks = let e : count ≡ 0 + count = omega arith in ap (λ n. take n blocks) e
take-more (suc from) count [] = take-nothing count ∙ sym (take-nothing (suc from + count))
take-more (suc from) count (block ∷ blocks) = let e : suc (from + count) ≡ suc from + count = omega arith in ap (λ bs. block ∷ bs) (take-more from count blocks) ∙ ap (λ n. take n (block ∷ blocks)) e

abbrev task_head : Task → List ℕ
task_head (Read object first count) = codes "read"
task_head (Write object first from count) = codes "write"
task_head (Recover row) = codes "recover"
task_head (Lose bay) = codes "lose"
task_head (Fit bay) = codes "fit"
task_head (Rebuild bay) = codes "rebuild"

abbrev task_rest : Script → Task → Words
task_rest s (Read object first count) = object ∷ decimal first ∷ decimal count ∷ []
task_rest s (Write object first from count) = object ∷ decimal first ∷ map block_text (blocks_of s from count)
task_rest s (Recover row) = decimal row.0 ∷ []
task_rest s (Lose bay) = decimal bay.0 ∷ []
task_rest s (Fit bay) = decimal bay.0 ∷ []
task_rest s (Rebuild bay) = decimal bay.0 ∷ []

-- no line but that of a job begins with this word
record IsApart (word : List ℕ) : Type 0 where
  host : is_text word (codes "host") ≡ false
  turn : is_text word (codes "turn") ≡ false
  end : is_text word (codes "end") ≡ false

-- what is read of a task's words
record TaskRun (s : Script) (host : HostNo) (at : ℕ) (task : Task) : Type 0 where
  parts : task_words s task ≡ task_head task ∷ task_rest s task
  head_word : IsWord (task_head task)
  rest_words : AllWords (task_rest s task)
  work : work_of (task_head task) (task_rest s task) ≡ Some (work_from s task)
  range : (x : Script) → x.n ≡ s.n → x.rows ≡ s.rows → work_in_range x (work_from s task) ≡ true
  operator : (not (is_operators (work_from s task)) || eqb host.0 0) ≡ true
  same : task_of at (work_from s task) ≡ task
  blocks : blocks_in (work_from s task) ≡ take (blocks_written task) (drop at s.blocks)
  apart : IsApart (task_head task)
  no_quit : is_text (task_head task) (codes "quit") ≡ false

two-decimals : (a b : ℕ) → a < 2 ^ 63 → b < 2 ^ 63 → two_numbers (decimal a ∷ decimal b ∷ []) ≡ Some (a, b)
two-decimals a b l m = ap (λ o. pair o (number (decimal b))) (number-decimal a l) ∙ ap (λ o. pair (Some a) o) (number-decimal b m)

task-run : (s : Script) (host : HostNo) (at : ℕ) (task : Task) → IsScript s → IsTask s host task → WritesFrom at task → at + blocks_written task ≤ length s.blocks → TaskRun s host at task
task-run s host at (Read object first count) i h w l =
    let low = h.low in
    let few = h.few in record {
      parts = refl;
      head_word = refl;
      rest_words = (IsWord-name object h.name, (IsWord-decimal first (omega arith), (IsWord-decimal count (omega arith), tt)));
      work = cond-true _ _ _ h.name ∙ ap (λ p. with_numbers None (λ f c. Some (Reads object f c)) p) (two-decimals first count (omega arith) (omega arith));
      range = λ x n r. and_from _ _ (lt-ltb _ _ low) (in-range 1 120 count h.some few);
      operator = refl;
      same = refl;
      blocks = refl;
      apart = record { host = refl; turn = refl; end = refl };
      no_quit = refl;
    }
task-run s host at (Write object first from count) i h w l =
    let low = h.low in
    let few = h.few in
    let some = h.some in
    let start : from ≡ at = w in
    let blocks = blocks_of s from count in
    let long : length blocks ≡ count = length-take-le count (drop from s.blocks) (omega (arith, length-drop from s.blocks)) in
    let texts : length (map block_text blocks) ≡ count = length-map blocks block_text ∙ long in
    let back = blocks-back blocks (All-take IsBlock count (drop from s.blocks) (All-drop IsBlock from s.blocks i.blocks)) in
    record {
      parts = refl;
      head_word = refl;
      rest_words = (IsWord-name object h.name, (IsWord-decimal first (omega arith), block-words blocks));
      work = cond-true (is_name object && is_number (decimal first) && ltb 0 (length (map block_text blocks)) && list_all is_block (map block_text blocks)) _ _
          (and_from _ _ (and_from _ _ (and_from _ _ h.name (is_number-decimal first (omega arith))) (lt-ltb _ _ (omega (arith, texts, some)))) back.0)
          ∙ ap (λ v. Some (Writes object v (map block_text blocks))) (value-decimal first (omega arith));
      range = λ x n r. and_from _ _ (lt-ltb _ _ low) (le-leb _ _ (omega (arith, texts, few)));
      operator = refl;
      same = ap (λ c. Write object first at c) texts ∙ ap (λ f. Write object first f count) (sym start);
      blocks = back.1 ∙ ap (λ f. take count (drop f s.blocks)) start;
      apart = record { host = refl; turn = refl; end = refl };
      no_quit = refl;
    }
task-run s host at (Recover row) i h w l =
    let most = i.rows_most in
    let low : row.0 < s.rows = h in record {
      parts = refl;
      head_word = refl;
      rest_words = (IsWord-decimal row.0 (omega arith), tt);
      work = ap (λ o. with_number None (λ n. Some (Recovers n)) o) (number-decimal row.0 (omega arith));
      range = λ x n r. lt-ltb _ _ (subst (λ (m : ℕ). row.0 < m) (sym r) low);
      operator = refl;
      same = refl;
      blocks = refl;
      apart = record { host = refl; turn = refl; end = refl };
      no_quit = refl;
    }
task-run s host at (Lose bay) i h w l =
    let most = i.devices_most in
    let low : bay.0 < s.n = h.1 in record {
      parts = refl;
      head_word = refl;
      rest_words = (IsWord-decimal bay.0 (omega arith), tt);
      work = ap (λ o. with_number None (λ n. Some (Loses n)) o) (number-decimal bay.0 (omega arith));
      range = λ x n r. lt-ltb _ _ (subst (λ (m : ℕ). bay.0 < m) (sym n) low);
      operator = eq-eqb _ _ h.0;
      same = refl;
      blocks = refl;
      apart = record { host = refl; turn = refl; end = refl };
      no_quit = refl;
    }
task-run s host at (Fit bay) i h w l =
    let most = i.devices_most in
    let low : bay.0 < s.n = h.1 in record {
      parts = refl;
      head_word = refl;
      rest_words = (IsWord-decimal bay.0 (omega arith), tt);
      work = ap (λ o. with_number None (λ n. Some (Fits n)) o) (number-decimal bay.0 (omega arith));
      range = λ x n r. lt-ltb _ _ (subst (λ (m : ℕ). bay.0 < m) (sym n) low);
      operator = eq-eqb _ _ h.0;
      same = refl;
      blocks = refl;
      apart = record { host = refl; turn = refl; end = refl };
      no_quit = refl;
    }
task-run s host at (Rebuild bay) i h w l =
    let most = i.devices_most in
    let low : bay.0 < s.n = h.1 in record {
      parts = refl;
      head_word = refl;
      rest_words = (IsWord-decimal bay.0 (omega arith), tt);
      work = ap (λ o. with_number None (λ n. Some (Rebuilds n)) o) (number-decimal bay.0 (omega arith));
      range = λ x n r. lt-ltb _ _ (subst (λ (m : ℕ). bay.0 < m) (sym n) low);
      operator = eq-eqb _ _ h.0;
      same = refl;
      blocks = refl;
      apart = record { host = refl; turn = refl; end = refl };
      no_quit = refl;
    }

job-here : (done : List HostJobs) (host : HostJobs) (ws : Words) → object_or_job (done ++ host ∷ []) ws ≡ job_form ws
job-here [] host ws = refl
job-here (first ∷ done) host ws = refl

other-word : (word : List ℕ) (rest : Words) (other : Form) → IsApart word → host_form (word ∷ rest) (turn_form (word ∷ rest) other) ≡ other
other-word word rest other a = cond-false _ _ _ a.host ∙ cond-false _ _ _ a.turn ∙ cond-false _ _ _ a.end

quit-range : (quit : Option ℕ) → IsQuit quit → quit_in_range quit ≡ true
quit-range None h = refl
quit-range (Some requests) h = in-range 1 (2 ^ 20) requests h.0 h.1

-- the words of a job
record JobWords (s : Script) (quit : Option ℕ) (task : Task) : Type 0 where
  first : List ℕ
  more : Words
  parts : quit_words quit ++ task_words s task ≡ first ∷ more
  first_word : IsWord first
  more_words : AllWords more
  apart : IsApart first
  form : job_form (first ∷ more) ≡ JobLine quit (work_from s task)

job-reads : (s : Script) (host : HostNo) (at : ℕ) (quit : Option ℕ) (task : Task) → TaskRun s host at task → IsQuit quit → JobWords s quit task
job-reads s host at None task t q = record {
  first = task_head task;
  more = task_rest s task;
  parts = t.parts;
  first_word = t.head_word;
  more_words = t.rest_words;
  apart = t.apart;
  form = cond-false _ _ _ t.no_quit ∙ ap (λ o. job_of None o) t.work;
}
job-reads s host at (Some k) task t q =
    let high : k ≤ 2 ^ 20 = q.1 in record {
      first = codes "quit";
      more = decimal k ∷ task_head task ∷ task_rest s task;
      parts = ap (λ ws. codes "quit" ∷ decimal k ∷ ws) t.parts;
      first_word = refl;
      more_words = (IsWord-decimal k (omega arith), (t.head_word, t.rest_words));
      apart = record { host = refl; turn = refl; end = refl };
      form = cond-true _ _ _ (is_number-decimal k (omega arith)) ∙ ap (λ v. job_of (Some v) (work_of (task_head task) (task_rest s task))) (value-decimal k (omega arith)) ∙ ap (λ o. job_of (Some k) o) t.work;
    }

abbrev host_with : HostNo → List Job → HostJobs
host_with host jobs = record { host = host; jobs = jobs }

job-run : (s : Script) (done : List HostJobs) (host : HostNo) (before : List Job) (job : Job) (at : ℕ) → IsScript s → IsJob s host job → WritesFrom at job.task → at + blocks_written job.task ≤ length s.blocks
    → OneRun (with_hosts s (done ++ host_with host before ∷ []) at) (job_words s job) (with_hosts s (done ++ host_with host (before ++ job ∷ []) ∷ []) (at + blocks_written job.task))
job-run s done host before job at i j w l =
    let t = task-run s host at job.task i j.task w l in
    let ws = job-reads s host at job.quit job.task t j.quit in
    let hosts = done ++ host_with host before ∷ [] in
    let said = with_hosts s hosts at in
    let next = with_hosts s (done ++ host_with host (before ++ job ∷ []) ∷ []) (at + blocks_written job.task) in
    let work = work_from s job.task in
    let is : words (joined (ws.first ∷ ws.more)) ≡ ws.first ∷ ws.more = words-joined ws.first ws.more ws.first_word ws.more_words in
    let text = joined (ws.first ∷ ws.more) in
    let form : form_of said text ≡ JobLine job.quit work =
    ap (λ x. host_form x (turn_form x (object_or_job hosts x))) is ∙ other-word ws.first ws.more (object_or_job hosts (ws.first ∷ ws.more)) ws.apart ∙ job-here done (host_with host before) (ws.first ∷ ws.more) ∙ ws.form in
    let allowed : (not (is_operators work) || eqb (last_number hosts) 0) ≡ true = ap (λ n. not (is_operators work) || eqb n 0) (last-push done (host_with host before)) ∙ t.operator in
    let fine : fault_of said.script (JobLine job.quit work) ≡ None = judged-none _ true _ (and_from _ _ (quit-range job.quit j.quit) (t.range said.script refl refl)) refl allowed in
    let long : length (take at s.blocks) ≡ at = length-take-le at s.blocks (omega arith) in
    let task : task_of (length (take at s.blocks)) work ≡ job.task = ap (λ n. task_of n work) long ∙ t.same in
    let blocks : take at s.blocks ++ blocks_in work ≡ take (at + blocks_written job.task) s.blocks = ap (λ bs. take at s.blocks ++ bs) t.blocks ∙ take-more at (blocks_written job.task) s.blocks in
    let made : Task → Job = λ x. record { task = x; quit = job.quit } in
    let whole : List HostJobs → List (List ℕ) → Said = λ hs bs. record { stage = Body; script = record { n = s.n; rows = s.rows; mode = s.mode; patience = s.patience; tries = s.tries; objects = s.objects; hosts = hs; blocks = bs; turns = [] } } in
    let goes : after said.script (JobLine job.quit work) ≡ next =
    ap (λ x. whole (with_job (made x) hosts) (take at s.blocks ++ blocks_in work)) task
    ∙ ap (λ hs. whole hs (take at s.blocks ++ blocks_in work)) (job-push job done (host_with host before))
    ∙ ap (λ bs. whole (done ++ host_with host (before ++ job ∷ []) ∷ []) bs) blocks in
    subst (λ (x : Words). OneRun said x next) (sym ws.parts)
    (run-one said next (ws.first ∷ ws.more) (JobLine job.quit work) refl (joined-line (ws.first ∷ ws.more) (ws.first_word, ws.more_words)) form fine goes)

jobs-run : (s : Script) (done : List HostJobs) (host : HostNo) (before left : List Job) (at : ℕ) → IsScript s → All (IsJob s host) left → InOrder at left → at + all_written left ≤ length s.blocks
    → Runs (with_hosts s (done ++ host_with host before ∷ []) at) (map (job_words s) left) (with_hosts s (done ++ host_with host (before ++ left) ∷ []) (at + all_written left))
jobs-run s done host before [] at i all o l =
    let count : at ≡ at + all_written [] = omega arith in
    ap (λ js. with_hosts s (done ++ host_with host js ∷ []) at) (sym (append-nil before)) ∙ ap (λ n. with_hosts s (done ++ host_with host (before ++ []) ∷ []) n) count
jobs-run s done host before (job ∷ left) at i all o l =
    let c = written-cons job left in
    let counts : at + blocks_written job.task + all_written left ≡ at + all_written (job ∷ left) = omega (arith, c) in
    let next = with_hosts s (done ++ host_with host (before ++ job ∷ []) ∷ []) (at + blocks_written job.task) in
    let rest = jobs-run s done host (before ++ job ∷ []) left (at + blocks_written job.task) i (All-tail (IsJob s host) job left all) o.1 (omega (arith, c, l)) in (
      next,
      job-run s done host before job at i (All-head (IsJob s host) job left all) o.0 (omega (arith, c, l)),
      subst (λ (js : List Job). Runs next (map (job_words s) left) (with_hosts s (done ++ host_with host js ∷ []) (at + all_written (job ∷ left)))) (append_assoc before (job ∷ []) left)
          (subst (λ (n : ℕ). Runs next (map (job_words s) left) (with_hosts s (done ++ host_with host ((before ++ job ∷ []) ++ left) ∷ []) n)) counts rest),
    )

abbrev jobs_in_all : List HostJobs → List Job
jobs_in_all hosts = flat_map (λ (host : HostJobs). host.jobs) hosts

pub hosts-run : (s : Script) (done left : List HostJobs) (at : ℕ) → IsScript s → s.hosts ≡ done ++ left → All (λ (host : HostJobs). All (IsJob s host.host) host.jobs) left → InOrder at (jobs_in_all left) → at + all_written (jobs_in_all left) ≤ length s.blocks
    → Runs (with_hosts s done at) (flat_map (host_lines s) left) (with_hosts s (done ++ left) (at + all_written (jobs_in_all left)))
hosts-run s done [] at i e all o l =
    let count : at ≡ at + all_written [] = omega arith in
    ap (λ hs. with_hosts s hs at) (sym (append-nil done)) ∙ ap (λ n. with_hosts s (done ++ []) n) count
hosts-run s done (host ∷ left) at i e all o l =
    let P : HostJobs → Type 0 = λ host. All (IsJob s host.host) host.jobs in
    let parts = order-parts at host.jobs (jobs_in_all left) o in
    let sums = written-append host.jobs (jobs_in_all left) in
    let counts : at + all_written host.jobs + all_written (jobs_in_all left) ≡ at + all_written (jobs_in_all (host ∷ left)) = omega (arith, sums) in
    let begun = with_hosts s (done ++ host_with host.host [] ∷ []) at in
    let next = with_hosts s (done ++ host ∷ []) (at + all_written host.jobs) in
    let rest = hosts-run s (done ++ host ∷ []) left (at + all_written host.jobs) i (e ∙ sym (append_assoc done (host ∷ []) left)) (All-tail P host left all) parts.1 (omega (arith, sums, l)) in
    let moved = subst (λ (n : ℕ). Runs next (flat_map (host_lines s) left) (with_hosts s ((done ++ host ∷ []) ++ left) n)) counts rest in
    let last = subst (λ (hs : List HostJobs). Runs next (flat_map (host_lines s) left) (with_hosts s hs (at + all_written (jobs_in_all (host ∷ left))))) (append_assoc done (host ∷ []) left) moved in (
      begun,
      host-run s done host left at i e,
      runs-append begun next (with_hosts s (done ++ host ∷ left) (at + all_written (jobs_in_all (host ∷ left)))) (map (job_words s) host.jobs) (flat_map (host_lines s) left)
          (jobs-run s done host.host [] host.jobs at i (All-head P host left all) parts.0 (omega (arith, sums, l))) last,
    )
