-- How many jobs a load has, and what they weigh.
use Rattle.std.proofs.Common.{◌≡◌, ℕ, zero, suc, ◌+◌, ◌*◌, ◌/◌, ◌%◌, ◌<◌, ◌≤◌, Bool, true, false, List, [], ◌∷◌, take, drop, length, ap, ◌∙◌, refl, arith, lit≤, Option, Some, None, Ok, Err}
use Rattle.std.specs.Prelude.{if◌then◌else◌, ◌==◌, nat_lt}
use Rattle.std.specs.List.{sum_by}
use Rattle.std.proofs.lemmas.List.{length-append, length-take}
use Rattle.std.proofs.lemmas.List.Sums.{sum_by-cons, sum_by_push}
use Rattle.raid_base.specs.declared.names.Name.{Name}
use Rattle.raid_base.specs.declared.numbers.RowNo.{RowNo}
use Rattle.raid_base.specs.declared.jobs.Job.{Job}
use Rattle.raid_base.specs.declared.jobs.RowPart.{RowPart}
use Rattle.raid_base.specs.declared.jobs.PartsFault.{PartsFault}
use Rattle.raid_base.specs.declared.jobs.PartsFault.TheVariants.{PastEnd, TooManyRows}
use Rattle.raid_base.specs.declared.jobs.Task.TheVariants.{Read, Write}
use Rattle.virtual_objects.specs.Objects.{parts_found, parts_from, parts_in, rows_of, rows_touched}
use Rattle.script_text.specs.Script.{HostJobs}
use Rattle.script_text.specs.Ranges.{all_jobs}
use Rattle.script_text.specs.Weights.{total, touched, weight, weights}
use Rattle.load_maker.specs.Load.{before_job, dealt, drawn_job, host_blocks, in_turn, job_blocks, jobs_from, load_hosts, load_objects, load_script, task_of, whole}
use Rattle.load_maker.proofs.DrawLemmas.{count_most}
use Rattle.load_maker.proofs.LoadScripts.{jobs_in, jobs-push}

-- so many jobs of the first i go to the first so many hosts
abbrev counts : ℕ → ℕ → ℕ → ℕ
counts n zero i = 0
counts n (suc k) i = counts n k i + length (dealt n k i)

-- and of one job whose number leaves c when divided by 8
abbrev turns : ℕ → ℕ → ℕ
turns zero c = 0
turns (suc k) c = turns k c + (if c == k then 1 else 0)

turn-counts : (turn : Bool) (x : ℕ) → length (if turn then x ∷ [] else []) ≡ (if turn then 1 else 0)
turn-counts true x = refl
turn-counts false x = refl

counts-more : (n k i : ℕ) → counts n k (suc i) ≡ counts n k i + turns k (i % 8)
counts-more n zero i = refl
counts-more n (suc k) i = omega (arith, counts-more n k i, length-append (dealt n k i) (in_turn k i (before_job n i)), turn-counts (i % 8 == k) (before_job n i))

one-turn : (c : ℕ) → c < 8 → turns 8 c ≡ 1
one-turn zero h = refl
one-turn (suc zero) h = refl
one-turn (suc (suc zero)) h = refl
one-turn (suc (suc (suc zero))) h = refl
one-turn (suc (suc (suc (suc zero)))) h = refl
one-turn (suc (suc (suc (suc (suc zero))))) h = refl
one-turn (suc (suc (suc (suc (suc (suc zero)))))) h = refl
one-turn (suc (suc (suc (suc (suc (suc (suc zero))))))) h = refl
one-turn (suc (suc (suc (suc (suc (suc (suc (suc c)))))))) h = absurd (omega arith)

-- each job goes to one of the eight hosts
counts-all : (n i : ℕ) → counts n 8 i ≡ i
counts-all n zero = refl
counts-all n (suc i) =
    let one : turns 8 (i % 8) ≡ 1 = one-turn (i % 8) (omega arith) in
    counts-more n 8 i ∙ omega (arith, counts-all n i, one)

length-jobs : (from : ℕ) (states : List ℕ) → length (jobs_from from states) ≡ length states
length-jobs from [] = refl
length-jobs from (x ∷ states) = omega (arith, length-jobs (from + length (job_blocks x)) states)

hosts-count : (n k : ℕ) → length (jobs_in (load_hosts n k)) ≡ 3 + counts n k n
unfolding load_hosts
hosts-count n zero = refl
hosts-count n (suc k) =
    let jobs : List Job = jobs_from (length (host_blocks n k)) (dealt n k n) in
    let host : HostJobs = record { host = record { 0 = k + 1 }; jobs = jobs } in
    ap (λ (js : List Job). length js) (jobs-push (load_hosts n k) host) ∙ length-append (jobs_in (load_hosts n k)) jobs ∙ omega (arith, hosts-count n k, length-jobs (length (host_blocks n k)) (dealt n k n))

pub load-count : (n : ℕ) → length (all_jobs (load_script n)) ≡ n + 3
load-count n = hosts-count n 8 ∙ omega (arith, counts-all n n)

-- a job touches two rows at most
length-parts : (d first last index : ℕ) (rows : List RowNo) → length (parts_from d first last index rows) ≡ length rows
length-parts d first last index [] = refl
length-parts d first last index (row ∷ rows) = omega (arith, length-parts d first last (index + 1) rows)

pub rows-few : (first count : ℕ) → count ≤ 8 → rows_touched 7 first count ≤ 2
rows-few first count h = omega arith

touched-one : (past many : Bool) (e f : PartsFault) (parts : List RowPart) → length parts ≤ 2 → touched (if past then Err e else (if many then Err f else Ok parts)) ≤ 2
touched-one true many e f parts h = omega arith
touched-one false true e f parts h = omega arith
touched-one false false e f parts h = h

touched-in : (first count : ℕ) (rows : List RowNo) → count ≤ 8 → touched (parts_in 7 first count rows) ≤ 2
touched-in first count rows h =
    let many : ℕ = rows_touched 7 first count in
    let some : List RowNo = take many (drop (first / 7) rows) in
    let few : length (parts_from 7 first (first + count) (first / 7) some) ≤ 2 = omega (arith, length-parts 7 first (first + count) (first / 7) some, length-take many (drop (first / 7) rows), rows-few first count h) in
    touched-one (nat_lt (length rows * 7) (first + count)) (nat_lt 8 many) (PastEnd (length rows * 7)) (TooManyRows many) (parts_from 7 first (first + count) (first / 7) some) few

touched-few : (first count : ℕ) (found : Option (List RowNo)) → count ≤ 8 → touched (parts_found 7 first count found) ≤ 2
touched-few first count None h = omega arith
touched-few first count (Some rows) h = touched-in first count rows h

weight-of : (n from : ℕ) (writes : Bool) (object : Name) (first count : ℕ) → count ≤ 8 → weight (load_script n) (if writes then Write object first from count else Read object first count) ≤ 64
weight-of n from true object first count h = let few = touched-few first count (rows_of load_objects object) h in omega (arith, few)
weight-of n from false object first count h = let few = touched-few first count (rows_of load_objects object) h in omega (arith, few)

jobs-weight : (n from : ℕ) (states : List ℕ) → weights (load_script n) (jobs_from from states) ≤ 64 * length states
jobs-weight n from [] = omega arith
jobs-weight n from (x ∷ states) =
    let later : ℕ = from + length (job_blocks x) in
    let job : Job = whole (task_of from (drawn_job x)) in
    let one : weight (load_script n) job.task ≤ 64 = weight-of n from (drawn_job x).writes (drawn_job x).object (drawn_job x).first (drawn_job x).count (count_most x) in
    let more : weights (load_script n) (jobs_from from (x ∷ states)) ≡ weight (load_script n) job.task + weights (load_script n) (jobs_from later states) = sum_by-cons (λ (j : Job). weight (load_script n) j.task) job (jobs_from later states) in
    omega (arith, one, more, jobs-weight n later states)

hosts-weight : (n k : ℕ) → sum_by (λ (host : HostJobs). weights (load_script n) host.jobs) (load_hosts n k) ≤ 16386 + 64 * counts n k n
unfolding load_hosts
hosts-weight n zero = lit≤ tt
hosts-weight n (suc k) =
    let jobs : List Job = jobs_from (length (host_blocks n k)) (dealt n k n) in
    let host : HostJobs = record { host = record { 0 = k + 1 }; jobs = jobs } in
    omega (arith, sum_by_push (λ (h : HostJobs). weights (load_script n) h.jobs) (load_hosts n k) host, hosts-weight n k, jobs-weight n (length (host_blocks n k)) (dealt n k n))

pub load-weight : (n : ℕ) → total (load_script n) ≤ 8 * (64 * n + 16386)
load-weight n = omega (arith, hosts-weight n 8, counts-all n n)
