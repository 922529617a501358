-- Jobs, dealt to a host one by one.
use Rattle.std.proofs.Common.{◌≡◌, ℕ, ◌+◌, ◌*◌, ◌≤◌, ◌%◌, List, [], ◌∷◌, ◌++◌, length, sym, ap, ◌∙◌, arith, length-append, append_assoc, add-one}
use Rattle.std.specs.Prelude.{Bool, true, false, if◌then◌else◌, ◌==◌}
use Rattle.std.specs.List.{flat_map}
use Rattle.std.proofs.lemmas.List.Concat.{flat_map-append}
use Rattle.raid_base.specs.declared.jobs.Job.{Job}
use Rattle.script_text.specs.Script.{HostJobs}
use Rattle.load_maker.specs.Load.{after_job, before_job, dealt, drawn_job, host_blocks, in_turn, job_blocks, jobs_from, load_hosts, task_of, whole}
use Rattle.load_maker.proofs.DrawLemmas.{length-job_blocks, written_most}

abbrev pub blocks_of : List ℕ → List (List ℕ)
blocks_of states = flat_map job_blocks states

-- jobs behind others
pub jobs-append : (from : ℕ) (xs ys : List ℕ) → jobs_from from (xs ++ ys) ≡ jobs_from from xs ++ jobs_from (from + length (blocks_of xs)) ys
jobs-append from [] ys = let same : from ≡ from + 0 = omega arith in ap (λ k. jobs_from k ys) same
jobs-append from (x ∷ xs) ys =
    let place : from + length (job_blocks x) + length (blocks_of xs) ≡ from + length (blocks_of (x ∷ xs)) = omega (arith, length-append (job_blocks x) (blocks_of xs)) in
    ap (λ js. whole (task_of from (drawn_job x)) ∷ js) (jobs-append (from + length (job_blocks x)) xs ys ∙ ap (λ k. jobs_from (from + length (job_blocks x)) xs ++ jobs_from k ys) place)

-- one more job of the load, for a host whose blocks stand behind these
pub deal-jobs : (n host i state : ℕ) (jobs later : List Job) (before blocks : List (List ℕ)) → state ≡ before_job n i → jobs ≡ jobs_from (length before) (dealt n host i) → blocks ≡ before ++ blocks_of (dealt n host i) → later ≡ jobs ++ jobs_from (length blocks) (in_turn host i state) → later ≡ jobs_from (length before) (dealt n host (i + 1))
deal-jobs n host i state jobs later before blocks s j b l =
    let place : length blocks ≡ length before + length (blocks_of (dealt n host i)) = ap length b ∙ length-append before (blocks_of (dealt n host i)) in
    l
    ∙ ap (λ js. js ++ jobs_from (length blocks) (in_turn host i state)) j
    ∙ ap (λ k. jobs_from (length before) (dealt n host i) ++ jobs_from k (in_turn host i state)) place
    ∙ ap (λ x. jobs_from (length before) (dealt n host i) ++ jobs_from (length before + length (blocks_of (dealt n host i))) (in_turn host i x)) s
    ∙ sym (jobs-append (length before) (dealt n host i) (in_turn host i (before_job n i)))
    ∙ ap (λ k. jobs_from (length before) (dealt n host k)) (sym (add-one i))

pub deal-blocks : (n host i state : ℕ) (before blocks later : List (List ℕ)) → state ≡ before_job n i → blocks ≡ before ++ blocks_of (dealt n host i) → later ≡ blocks ++ blocks_of (in_turn host i state) → later ≡ before ++ blocks_of (dealt n host (i + 1))
deal-blocks n host i state before blocks later s b l =
    l
    ∙ ap (λ bs. bs ++ blocks_of (in_turn host i state)) b
    ∙ append_assoc before (blocks_of (dealt n host i)) (blocks_of (in_turn host i state))
    ∙ ap (λ x. before ++ (blocks_of (dealt n host i) ++ blocks_of (in_turn host i x))) s
    ∙ ap (λ bs. before ++ bs) (sym (flat_map-append job_blocks (dealt n host i) (in_turn host i (before_job n i))))
    ∙ ap (λ k. before ++ blocks_of (dealt n host k)) (sym (add-one i))

turn-few : (turn : Bool) (x : ℕ) → length (blocks_of (if turn then x ∷ [] else [])) ≤ 8
turn-few true x = omega (arith, length-append (job_blocks x) [], length-job_blocks x, written_most x)
turn-few false x = omega arith

pub deal-few : (host i state most : ℕ) (blocks later : List (List ℕ)) → length blocks ≤ most + 8 * i → later ≡ blocks ++ blocks_of (in_turn host i state) → length later ≤ most + 8 * (i + 1)
deal-few host i state most blocks later h l =
    let more : length later ≡ length blocks + length (blocks_of (in_turn host i state)) = ap length l ∙ length-append blocks (blocks_of (in_turn host i state)) in
    omega (arith, turn-few (i % 8 == host) state)

pub next-job : (n i : ℕ) → before_job n (i + 1) ≡ after_job (before_job n i)
next-job n i = ap (before_job n) (add-one i)

-- one more host, behind the blocks of those before it
pub hosts-more : (n host : ℕ) (jobs : List Job) (hosts later : List HostJobs) (blocks : List (List ℕ)) → hosts ≡ load_hosts n host → blocks ≡ host_blocks n host → jobs ≡ jobs_from (length blocks) (dealt n host n) → later ≡ hosts ++ record { host = record { 0 = host + 1 }; jobs = jobs } ∷ [] → later ≡ load_hosts n (host + 1)
unfolding load_hosts
hosts-more n host jobs hosts later blocks h b j l =
    let js : jobs ≡ jobs_from (length (host_blocks n host)) (dealt n host n) = j ∙ ap (λ (bs : List (List ℕ)). jobs_from (length bs) (dealt n host n)) b in
    l
    ∙ ap (λ (hs : List HostJobs). hs ++ record { host = record { 0 = host + 1 }; jobs = jobs } ∷ []) h
    ∙ ap (λ (x : List Job). load_hosts n host ++ record { host = record { 0 = host + 1 }; jobs = x } ∷ []) js
    ∙ ap (load_hosts n) (sym (add-one host))

pub blocks-more : (n host : ℕ) (blocks later : List (List ℕ)) → blocks ≡ host_blocks n host → later ≡ blocks ++ blocks_of (dealt n host n) → later ≡ host_blocks n (host + 1)
unfolding host_blocks
blocks-more n host blocks later b l = l ∙ ap (λ (bs : List (List ℕ)). bs ++ blocks_of (dealt n host n)) b ∙ ap (host_blocks n) (sym (add-one host))
