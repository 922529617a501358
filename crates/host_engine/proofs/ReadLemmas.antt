-- What a host shows of each of its reads.
use Rattle.std.proofs.Common.{◌≡◌, ℕ, zero, suc, ◌+◌, Bool, true, false, cond, List, [], ◌∷◌, ◌++◌, length, take, drop, map, Some, refl, sym, ap, ◌∙◌, arith, eq-eqb}
use Rattle.std.specs.Prelude.{slice_get}
use Rattle.std.specs.List.{enumerate_from, AllByRecursion}
use Rattle.std.proofs.lemmas.Bool.{ne_eqb}
use Rattle.raid_base.specs.declared.numbers.HostNo.{HostNo}
use Rattle.raid_base.specs.declared.cells.Content.{Content}
use Rattle.raid_base.specs.declared.jobs.Job.{Job}
use Rattle.raid_base.specs.declared.jobs.JobEnd.{JobEnd}
use Rattle.raid_base.specs.declared.jobs.JobEnd.TheVariants as job_ends
use Rattle.histories.specs.Plain.{task_count}
use Rattle.histories.specs.Endings.{contents_due, IsFilled}
use Rattle.histories.specs.Progress.{Ending}
use Rattle.host_engine.specs.Stands.{result_of, contents_of}
use Rattle.host_engine.specs.Reads.{read_by, contents_at, job_due, count_due, contents_among}

choose-true : {A : Type 0} (b : Bool) (x y : A) → b ≡ true → cond b x y ≡ x
choose-true b x y e = rw e refl

choose-false : {A : Type 0} (b : Bool) (x y : A) → b ≡ false → cond b x y ≡ y
choose-false b x y e = rw e refl

take-own : (xs ys : List Content) → take (length xs) (xs ++ ys) ≡ xs
take-own [] ys = refl
take-own (x ∷ xs) ys = ap (λ (zs : List Content). x ∷ zs) (take-own xs ys)

drop-own : (xs ys : List Content) → drop (length xs) (xs ++ ys) ≡ ys
drop-own [] ys = refl
drop-own (x ∷ xs) ys = drop-own xs ys

-- the first contents are those that the job has read
first-read : (ended : JobEnd) (blocks : ℕ) (read later : List Content) → length read ≡ contents_due ended blocks → take (contents_due ended blocks) (read ++ later) ≡ read_by ended read
first-read (job_ends.Read n) blocks read later is = ap (λ (k : ℕ). take k (read ++ later)) (sym is) ∙ take-own read later
first-read (job_ends.Wrote n) blocks read later is = refl
first-read (job_ends.Part n made cause) blocks read later is = refl
first-read (job_ends.Gave tries cause) blocks read later is = refl
first-read (job_ends.Recovered n closed lost) blocks read later is = refl
first-read job_ends.Lost blocks read later is = refl
first-read job_ends.Fitted blocks read later is = refl
first-read job_ends.Rebuilt blocks read later is = refl
first-read (job_ends.StillMissing bay) blocks read later is = refl
first-read (job_ends.NotLost bay) blocks read later is = refl
first-read (job_ends.NotFitted bay) blocks read later is = refl
first-read job_ends.NoObject blocks read later is = refl
first-read (job_ends.PastEnd held) blocks read later is = refl
first-read (job_ends.TooManyRows rows) blocks read later is = refl

module _ (all : List Job) (host : HostNo) where
  -- how many contents the first of these jobs is due
  first-due : (before : ℕ) (job : Job) (jobs : List Job) (e : Ending) → ((j : ℕ) → slice_get all (before + j) ≡ slice_get (job ∷ jobs) j) → e.job ≡ job →
      count_due all (result_of host (before, e)) ≡ contents_due e.ended (task_count e.job.task)
  first-due before job jobs e at first = ap (job_due e.ended) (ap (slice_get all) start ∙ at 0 ∙ ap (λ (j : Job). Some j) (sym first))
    where
      start : before ≡ before + 0
      start = omega arith

  -- out of the contents of the jobs that have ended, from this one on
  pub reads-apart : (before : ℕ) (jobs : List Job) (es : List Ending) (k : ℕ) → ((j : ℕ) → slice_get all (before + j) ≡ slice_get jobs j) →
      map (λ (e : Ending). e.job) es ≡ take (length es) jobs → AllByRecursion IsFilled es →
      contents_among all (map (result_of host) (enumerate_from before es)) (contents_of es) (before + k) ≡ contents_at es k
  reads-apart before jobs [] k at are filled = refl
  reads-apart before [] (e ∷ es) k at are filled = absurd (cc)
  reads-apart before (job ∷ jobs) (e ∷ es) zero at are filled =
      let first : e.job ≡ job = cc in
      choose-true _ _ _ (eq-eqb before (before + 0) (omega arith))
      ∙ ap (λ (n : ℕ). take n (e.contents ++ contents_of es)) (first-due before job jobs e at first)
      ∙ first-read e.ended (task_count e.job.task) e.contents (contents_of es) filled.0
  reads-apart before (job ∷ jobs) (e ∷ es) (suc k) at are filled =
      let first : e.job ≡ job = cc in
      let rest : map (λ (x : Ending). x.job) es ≡ take (length es) jobs = cc in
      let due = first-due before job jobs e at first in
      choose-false _ _ _ (ne_eqb before (before + suc k) (λ (same : before ≡ before + suc k). absurd (omega (arith, same))))
      ∙ ap (λ (xs : List Content). contents_among all (map (result_of host) (enumerate_from (before + 1) es)) xs (before + suc k))
      (ap (λ (n : ℕ). drop n (e.contents ++ contents_of es)) (due ∙ sym filled.0) ∙ drop-own e.contents (contents_of es))
      ∙ ap (λ (n : ℕ). contents_among all (map (result_of host) (enumerate_from (before + 1) es)) (contents_of es) n) (sym (later k))
      ∙ reads-apart (before + 1) jobs es k (λ i. ap (slice_get all) (later i) ∙ at (suc i)) rest filled.1
    where
      later : (j : ℕ) → before + 1 + j ≡ before + suc j
      later j = omega arith
