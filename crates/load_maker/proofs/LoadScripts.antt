-- A load is a script: its jobs and their blocks.
use Rattle.std.proofs.Common.{◌≡◌, ℕ, zero, suc, ◌+◌, ◌%◌, ◌<◌, ◌≤◌, ◌⊎◌, inl, inr, Bool, true, false, List, [], ◌∷◌, ◌++◌, get_or, length, sym, subst, ap, ◌∙◌, refl, arith, lit<, lit≤}
use Rattle.std.specs.Prelude.{replicate, codes, if◌then◌else◌, ◌==◌}
use Rattle.std.specs.List.{All, flat_map}
use Rattle.std.proofs.lemmas.List.{append-nil, length-append, length-replicate, get_or-replicate, get_or_past}
use Rattle.std.proofs.lemmas.List.Concat.{flat_map-append}
use Rattle.std.proofs.lemmas.List.Elements.{All-nil, All-cons, All-append}
use Rattle.raid_base.specs.declared.names.Name.{Name}
use Rattle.raid_base.specs.declared.numbers.HostNo.{HostNo}
use Rattle.raid_base.specs.declared.jobs.Job.{Job}
use Rattle.raid_base.specs.declared.jobs.Task.TheVariants.{Read, Write, Lose, Fit, Rebuild}
use Rattle.raid_base.specs.Names.{IsNameText}
use Rattle.text_lines.specs.Blocks.{IsBlock}
use Rattle.script_text.specs.Script.{HostJobs, Script, host_numbers}
use Rattle.script_text.specs.Ranges.{InOrder, IsAccess, IsJob, IsScript, IsTask, Rise, WritesFrom, all_written, blocks_written}
use Rattle.script_text.proofs.Keeps.{written-append, written-cons}
use Rattle.load_maker.specs.Load.{after, dealt, draw, drawn_blocks, drawn_job, host_blocks, job_blocks, jobs_from, load_hosts, load_script, operator, task_of, whole, written}
use Rattle.load_maker.proofs.DrawLemmas.{count_least, count_most, first_below, length-job_blocks}
use Rattle.load_maker.proofs.DealLemmas.{blocks_of}
use Rattle.load_maker.proofs.RowLemmas.{names-are, objects-are}

-- blocks of 64 equal bytes
byte-at : (byte k : ℕ) → byte < 256 → (k < 64) ⊎ (64 ≤ k) → get_or (replicate 64 byte) k 0 < 256
byte-at byte k h (inl low) = let same = get_or-replicate 64 k byte 0 low in omega (arith, same)
byte-at byte k h (inr high) = let same = get_or_past (replicate 64 byte) k 0 (omega (arith, length-replicate 64 byte)) in omega (arith, same)

within : (k : ℕ) → (k < 64) ⊎ (64 ≤ k)
within k = grind arith

equal-block : (byte : ℕ) → byte < 256 → IsBlock (replicate 64 byte)
equal-block byte h = record { size = length-replicate 64 byte; bytes = λ k. byte-at byte k h (within k) }

drawn-blocks-are : (k x : ℕ) → All IsBlock (drawn_blocks k x)
drawn-blocks-are zero x = All-nil IsBlock
drawn-blocks-are (suc k) x =
    let block : List ℕ = replicate 64 (draw k x % 256) in
    All-append IsBlock (drawn_blocks k x) (block ∷ []) (drawn-blocks-are k x) (All-cons IsBlock block [] (equal-block (draw k x % 256) (omega arith)) (All-nil IsBlock))

job-blocks-are : (x : ℕ) → All IsBlock (job_blocks x)
unfolding job_blocks
job-blocks-are x = drawn-blocks-are (written (drawn_job x)) (after 4 x)

all-blocks-are : (states : List ℕ) → All IsBlock (blocks_of states)
all-blocks-are [] = All-nil IsBlock
all-blocks-are (x ∷ states) = All-append IsBlock (job_blocks x) (blocks_of states) (job-blocks-are x) (all-blocks-are states)

host-blocks-are : (n k : ℕ) → All IsBlock (host_blocks n k)
unfolding host_blocks
host-blocks-are n zero = All-nil IsBlock
host-blocks-are n (suc k) = All-append IsBlock (host_blocks n k) (blocks_of (dealt n k n)) (host-blocks-are n k) (all-blocks-are (dealt n k n))

-- what is drawn is a job
named : (which : Bool) → IsNameText (if which then codes "a" else codes "b")
named true = refl
named false = refl

object-named : (x : ℕ) → IsNameText (drawn_job x).object
unfolding drawn_job
object-named x = named (draw 1 x % 2 == 0)

access : (x : ℕ) → IsAccess (drawn_job x).object (drawn_job x).first (drawn_job x).count
access x = record {
  name = object-named x;
  low = omega (arith, first_below x);
  some = count_least x;
  few = omega (arith, count_most x);
}

either : (script : Script) (host : HostNo) (from : ℕ) (writes : Bool) (object : Name) (first count : ℕ) → IsAccess object first count → IsTask script host (if writes then Write object first from count else Read object first count)
either script host from true object first count a = a
either script host from false object first count a = a

task-is : (script : Script) (host : HostNo) (from x : ℕ) → IsTask script host (task_of from (drawn_job x))
task-is script host from x = either script host from (drawn_job x).writes (drawn_job x).object (drawn_job x).first (drawn_job x).count (access x)

jobs-are : (script : Script) (host : HostNo) (from : ℕ) (states : List ℕ) → All (IsJob script host) (jobs_from from states)
jobs-are script host from [] = All-nil (IsJob script host)
jobs-are script host from (x ∷ states) =
    All-cons (IsJob script host) (whole (task_of from (drawn_job x))) (jobs_from (from + length (job_blocks x)) states) (record { task = task-is script host from x; quit = tt }) (jobs-are script host (from + length (job_blocks x)) states)

operator-is : (script : Script) → 3 < script.n → All (IsJob script operator.host) operator.jobs
operator-is script h =
    let P : Job → Type 0 = IsJob script operator.host in
    let lose : Job = whole (Lose (record { 0 = 3 })) in
    let fit : Job = whole (Fit (record { 0 = 3 })) in
    let rebuild : Job = whole (Rebuild (record { 0 = 3 })) in
    All-cons P lose (fit ∷ rebuild ∷ []) (record { task = (refl, h); quit = tt }) (All-cons P fit (rebuild ∷ []) (record { task = (refl, h); quit = tt }) (All-cons P rebuild [] (record { task = (refl, h); quit = tt }) (All-nil P)))

abbrev HasJobs : Script → HostJobs → Type 0
HasJobs script host = All (IsJob script host.host) host.jobs

hosts-are : (script : Script) (n k : ℕ) → 3 < script.n → All (HasJobs script) (load_hosts n k)
unfolding load_hosts
hosts-are script n zero h = All-cons (HasJobs script) operator [] (operator-is script h) (All-nil (HasJobs script))
hosts-are script n (suc k) h =
    let host : HostJobs = record { host = record { 0 = k + 1 }; jobs = jobs_from (length (host_blocks n k)) (dealt n k n) } in
    All-append (HasJobs script) (load_hosts n k) (host ∷ []) (hosts-are script n k h) (All-cons (HasJobs script) host [] (jobs-are script host.host (length (host_blocks n k)) (dealt n k n)) (All-nil (HasJobs script)))

-- the blocks of each job follow those before it
writes-so : (from : ℕ) (writes : Bool) (object : Name) (first count : ℕ) → blocks_written (if writes then Write object first from count else Read object first count) ≡ (if writes then count else 0)
writes-so from true object first count = refl
writes-so from false object first count = refl

task-written : (from x : ℕ) → blocks_written (task_of from (drawn_job x)) ≡ length (job_blocks x)
task-written from x = writes-so from (drawn_job x).writes (drawn_job x).object (drawn_job x).first (drawn_job x).count ∙ sym (length-job_blocks x)

begins-so : (from : ℕ) (writes : Bool) (object : Name) (first count : ℕ) → WritesFrom from (if writes then Write object first from count else Read object first count)
begins-so from true object first count = refl
begins-so from false object first count = tt

jobs-written : (from : ℕ) (states : List ℕ) → all_written (jobs_from from states) ≡ length (blocks_of states)
jobs-written from [] = refl
jobs-written from (x ∷ states) =
    let later : ℕ = from + length (job_blocks x) in
    written-cons (whole (task_of from (drawn_job x))) (jobs_from later states) ∙ omega (arith, task-written from x, jobs-written later states, length-append (job_blocks x) (blocks_of states))

jobs-ordered : (from : ℕ) (states : List ℕ) → InOrder from (jobs_from from states)
jobs-ordered from [] = tt
jobs-ordered from (x ∷ states) = (
  begins-so from (drawn_job x).writes (drawn_job x).object (drawn_job x).first (drawn_job x).count,
  subst (λ (at : ℕ). InOrder at (jobs_from (from + length (job_blocks x)) states)) (ap (λ (m : ℕ). from + m) (sym (task-written from x))) (jobs-ordered (from + length (job_blocks x)) states),
)

order-append : (at : ℕ) (xs ys : List Job) → InOrder at xs → InOrder (at + all_written xs) ys → InOrder at (xs ++ ys)
order-append at [] ys o p = subst (λ (m : ℕ). InOrder m ys) (omega arith) p
order-append at (x ∷ xs) ys o p = (o.0, order-append (at + blocks_written x.task) xs ys o.1 (subst (λ (m : ℕ). InOrder m ys) (let c = written-cons x xs in omega (arith, c)) p))

abbrev pub jobs_in : List HostJobs → List Job
jobs_in hosts = flat_map (λ (host : HostJobs). host.jobs) hosts

pub jobs-push : (hosts : List HostJobs) (host : HostJobs) → jobs_in (hosts ++ host ∷ []) ≡ jobs_in hosts ++ host.jobs
jobs-push hosts host = flat_map-append (λ (h : HostJobs). h.jobs) hosts (host ∷ []) ∙ ap (λ (js : List Job). jobs_in hosts ++ js) (append-nil host.jobs)

hosts-written : (n k : ℕ) → all_written (jobs_in (load_hosts n k)) ≡ length (host_blocks n k)
unfolding load_hosts host_blocks
hosts-written n zero = refl
hosts-written n (suc k) =
    let jobs : List Job = jobs_from (length (host_blocks n k)) (dealt n k n) in
    let host : HostJobs = record { host = record { 0 = k + 1 }; jobs = jobs } in
    ap (λ (js : List Job). all_written js) (jobs-push (load_hosts n k) host) ∙ written-append (jobs_in (load_hosts n k)) jobs ∙ omega (arith, hosts-written n k, jobs-written (length (host_blocks n k)) (dealt n k n), length-append (host_blocks n k) (blocks_of (dealt n k n)))

hosts-ordered : (n k : ℕ) → InOrder 0 (jobs_in (load_hosts n k))
unfolding load_hosts
hosts-ordered n zero = (tt, (tt, (tt, tt)))
hosts-ordered n (suc k) =
    let jobs : List Job = jobs_from (length (host_blocks n k)) (dealt n k n) in
    let host : HostJobs = record { host = record { 0 = k + 1 }; jobs = jobs } in
    let place : length (host_blocks n k) ≡ 0 + all_written (jobs_in (load_hosts n k)) = omega (arith, hosts-written n k) in
    subst (λ (js : List Job). InOrder 0 js) (sym (jobs-push (load_hosts n k) host)) (order-append 0 (jobs_in (load_hosts n k)) jobs (hosts-ordered n k) (subst (λ (m : ℕ). InOrder m jobs) place (jobs-ordered (length (host_blocks n k)) (dealt n k n))))

hosts-rise : (n : ℕ) → Rise 0 (host_numbers (load_script n))
unfolding load_hosts
hosts-rise n = (lit≤ tt, lit< tt, (lit≤ tt, lit< tt, (lit≤ tt, lit< tt, (lit≤ tt, lit< tt, (lit≤ tt, lit< tt, (lit≤ tt, lit< tt, (lit≤ tt, lit< tt, (lit≤ tt, lit< tt, (lit≤ tt, lit< tt, tt)))))))))

pub load-is-script : (n : ℕ) → IsScript (load_script n)
load-is-script n = record {
  devices_least = lit≤ tt;
  devices_most = lit≤ tt;
  rows_least = lit≤ tt;
  rows_most = lit≤ tt;
  patience = lit< tt;
  tries_least = lit≤ tt;
  tries_most = lit≤ tt;
  objects = objects-are n;
  names = names-are;
  hosts = hosts-rise n;
  jobs = hosts-are (load_script n) n 8 (lit< tt);
  blocks = host-blocks-are n 8;
  blocks_whose = hosts-ordered n 8;
  blocks_all = sym (hosts-written n 8);
  turns = All-nil _;
}
