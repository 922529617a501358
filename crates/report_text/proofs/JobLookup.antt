-- The job of a result.
use Rattle.std.proofs.Common.{◌≡◌, ◌≢◌, ◌==◌, ℕ, zero, suc, map, take, ◌++◌, ◌<◌, ◌≤◌, ◌+◌, Bool, true, false, cond, List, [], ◌∷◌, drop, get_or, length, Some, None, refl, sym, ap, ◌∙◌, arith, eq-eqb}
use Rattle.std.specs.Prelude.{find, slice_get}
use Rattle.std.proofs.lemmas.List.{at_drop_more, at_drop_all}
use Rattle.std.proofs.lemmas.Bool.Decides.{nat_tests}
use Rattle.raid_base.specs.declared.numbers.HostNo.{HostNo}
use Rattle.raid_base.specs.declared.jobs.Job.{Job}
use Rattle.script_text.specs.Script.{Script, HostJobs, jobs_in}
use Rattle.report_text.specs.Views.{contents_of, flags_of, contents_by_result}
use Rattle.report_text.specs.Report.{job_line, job_lines}
use Rattle.raid_base.specs.declared.jobs.JobResult.{JobResult}
use Rattle.raid_base.specs.declared.cells.Content.{Content}

abbrev pub is_of : HostNo → HostJobs → Bool
is_of host h = h.host.0 == host.0

choose-true : {A : Type 0} (b : Bool) (x y : A) → b ≡ true → cond b x y ≡ x
choose-true b x y e = rw e refl

choose-false : {A : Type 0} (b : Bool) (x y : A) → b ≡ false → cond b x y ≡ y
choose-false b x y e = rw e refl

pub found-here : (host : HostNo) (hosts : List HostJobs) (i : ℕ) (x : HostJobs) → i < length hosts → x ≡ get_or hosts i x → x.host.0 ≡ host.0 → jobs_in (find (is_of host) (drop i hosts)) ≡ x.jobs
found-here host hosts i x h e t =
    at_drop_more (λ hs. jobs_in (find (is_of host) hs)) hosts i x h
    ∙ ap (λ y. jobs_in (find (is_of host) (y ∷ drop (i + 1) hosts))) (sym e)
    ∙ ap jobs_in (choose-true (is_of host x) (Some x) (find (is_of host) (drop (i + 1) hosts)) (eq-eqb x.host.0 host.0 t))

pub found-later : (host : HostNo) (hosts : List HostJobs) (i : ℕ) (x : HostJobs) → i < length hosts → x ≡ get_or hosts i x → x.host.0 ≢ host.0 → jobs_in (find (is_of host) (drop i hosts)) ≡ jobs_in (find (is_of host) (drop (i + 1) hosts))
found-later host hosts i x h e t =
    at_drop_more (λ hs. jobs_in (find (is_of host) hs)) hosts i x h
    ∙ ap (λ y. jobs_in (find (is_of host) (y ∷ drop (i + 1) hosts))) (sym e)
    ∙ ap jobs_in (choose-false (is_of host x) (Some x) (find (is_of host) (drop (i + 1) hosts)) (differs x.host.0 host.0 t))
  where
    differs : (a b : ℕ) → a ≢ b → (a == b) ≡ false
    differs a b n = grind (arith, nat_tests)

pub found-none : (host : HostNo) (hosts : List HostJobs) (i : ℕ) → length hosts ≤ i → jobs_in (find (is_of host) (drop i hosts)) ≡ []
found-none host hosts i h = at_drop_all (λ hs. jobs_in (find (is_of host) hs)) hosts i h

-- a job that is not there
pub none-got : (jobs : List Job) (i : ℕ) → length jobs ≤ i → slice_get jobs i ≡ None
none-got [] i h = refl
none-got (j ∷ jobs) zero h = absurd (omega arith)
none-got (j ∷ jobs) (suc i) h = none-got jobs i (omega arith)

-- the lines of the results that are left, with the contents that are left
abbrev pub jobs_left : Script → List JobResult → List Content → List ℕ
jobs_left script results contents = job_lines results (contents_by_result script results contents) (map (flags_of script) results)

pub jobs-turn : (script : Script) (results : List JobResult) (contents read later : List Content) (i count flags : ℕ) (d : JobResult) → i < length results
    → count ≡ contents_of script (get_or results i d) → read ≡ take count contents → later ≡ drop count contents → flags ≡ flags_of script (get_or results i d)
    → jobs_left script (drop i results) contents ≡ job_line (get_or results i d) read flags ++ jobs_left script (drop (i + 1) results) later
jobs-turn script results contents read later i count flags d h c r l f =
    let first : read ≡ take (contents_of script (get_or results i d)) contents = r ∙ ap (λ n. take n contents) c in
    let others : later ≡ drop (contents_of script (get_or results i d)) contents = l ∙ ap (λ n. drop n contents) c in
    rw (first, others, f) (at_drop_more (λ rs. jobs_left script rs contents) results i d h)

pub jobs-end : (script : Script) (results : List JobResult) (contents : List Content) (i : ℕ) → length results ≤ i → jobs_left script (drop i results) contents ≡ []
jobs-end script results contents i h = at_drop_all (λ rs. jobs_left script rs contents) results i h
