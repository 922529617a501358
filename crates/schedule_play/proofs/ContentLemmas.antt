-- Each result has the contents that are due to its job.
use Rattle.std.proofs.Common.{◌≡◌, ℕ, suc, ◌+◌, List, [], ◌∷◌, ◌++◌, map, take, length, Option, Some, refl, sym, ap, subst, ◌∙◌, arith}
use Rattle.std.specs.Prelude.{flat_map, slice_get}
use Rattle.std.specs.List.{enumerate_from, AllByRecursion}
use Rattle.std.proofs.lemmas.List.{map-append}
use Rattle.raid_base.specs.declared.numbers.HostNo.{HostNo}
use Rattle.raid_base.specs.declared.cells.Content.{Content}
use Rattle.raid_base.specs.declared.messages.Call.{Call}
use Rattle.raid_base.specs.declared.jobs.Job.{Job}
use Rattle.raid_base.specs.declared.jobs.JobEnd.{JobEnd}
use Rattle.raid_base.specs.declared.jobs.JobEnd.TheVariants as job_ends
use Rattle.raid_base.specs.declared.jobs.JobResult.{JobResult}
use Rattle.raid_base.specs.declared.jobs.Task.{Task}
use Rattle.raid_base.specs.declared.jobs.Task.TheVariants as tasks
use Rattle.script_text.specs.Script.{Script, host_numbers, jobs_of}
use Rattle.script_text.specs.Ranges.{IsScript}
use Rattle.histories.specs.Plain.{task_count}
use Rattle.histories.specs.Progress.{Ending}
use Rattle.histories.specs.History.{endings_at}
use Rattle.histories.specs.Endings.{contents_due, IsFilled, AreEndings}
use Rattle.histories.proofs.endings.EndingLemmas.{endings_are_filled}
use Rattle.report_text.specs.Views.{task_blocks, job_blocks, content_count, contents_by_result}
use Rattle.report_text.proofs.ViewLemmas.{HaveContents, contents-back}
use Rattle.histories.specs.Results.{result_of, host_results, results, contents}

count-is : (task : Task) → task_count task ≡ task_blocks task
count-is (tasks.Read object first count) = refl
count-is (tasks.Write object first from count) = refl
count-is (tasks.Recover row) = refl
count-is (tasks.Lose bay) = refl
count-is (tasks.Fit bay) = refl
count-is (tasks.Rebuild bay) = refl

due-is : (ended : JobEnd) (blocks : ℕ) → contents_due ended blocks ≡ content_count ended blocks
due-is (job_ends.Read n) blocks = refl
due-is (job_ends.Wrote n) blocks = refl
due-is (job_ends.Part n made cause) blocks = refl
due-is (job_ends.Gave tries cause) blocks = refl
due-is (job_ends.Recovered n closed lost) blocks = refl
due-is job_ends.Lost blocks = refl
due-is job_ends.Fitted blocks = refl
due-is job_ends.Rebuilt blocks = refl
due-is (job_ends.StillMissing bay) blocks = refl
due-is (job_ends.NotLost bay) blocks = refl
due-is (job_ends.NotFitted bay) blocks = refl
due-is job_ends.NoObject blocks = refl
due-is (job_ends.PastEnd blocks_held) blocks = refl
due-is (job_ends.TooManyRows rows) blocks = refl

-- some results after others
have-more : (script : Script) (rs more : List JobResult) (cs later : List (List Content)) → HaveContents script rs cs → HaveContents script more later → HaveContents script (rs ++ more) (cs ++ later)
have-more script [] more [] later h g = g
have-more script [] more (read ∷ cs) later h g = absurd h
have-more script (r ∷ rs) more [] later h g = absurd h
have-more script (r ∷ rs) more (read ∷ cs) later h g = (h.0, have-more script rs more cs later h.1 g)

module _ (script : Script) (host : HostNo) where
  -- the results of a host, from this job on
  own-have : (before : ℕ) (jobs : List Job) (es : List Ending) → ((k : ℕ) → slice_get (jobs_of script host) (before + k) ≡ slice_get jobs k) →
      map (λ (e : Ending). e.job) es ≡ take (length es) jobs → AllByRecursion IsFilled es →
      HaveContents script (map (result_of host) (enumerate_from before es)) (map (λ (e : Ending). e.contents) es)
  own-have before jobs [] at are filled = tt
  own-have before [] (e ∷ es) at are filled = absurd (cc)
  own-have before (job ∷ jobs) (e ∷ es) at are filled =
      let first : e.job ≡ job = cc in
      let rest : map (λ (x : Ending). x.job) es ≡ take (length es) jobs = cc in
      let here : slice_get (jobs_of script host) before ≡ Some e.job = ap (slice_get (jobs_of script host)) start ∙ at 0 ∙ ap (λ (j : Job). Some j) (sym first) in (
        filled.0 ∙ due-is e.ended (task_count e.job.task) ∙ ap (content_count e.ended) (count-is e.job.task) ∙ ap (λ (o : Option Job). content_count e.ended (job_blocks o)) (sym here),
        own-have (before + 1) jobs es (λ k. ap (slice_get (jobs_of script host)) (later k) ∙ at (suc k)) rest filled.1,
      )
    where
      start : before ≡ before + 0
      start = omega arith

      later : (k : ℕ) → before + 1 + k ≡ before + suc k
      later k = omega arith

module _ (script : Script) (history : List Call) (is : IsScript script) where
  host-have : (host : HostNo) → HaveContents script (host_results script history host) (map (λ (e : Ending). e.contents) (endings_at script history host))
  host-have host =
      let are : AreEndings script host (endings_at script history host) = endings_are_filled script history host is in
      own-have script host 0 (jobs_of script host) (endings_at script history host) (λ k. ap (slice_get (jobs_of script host)) (start k)) are.jobs are.filled
    where
      start : (k : ℕ) → 0 + k ≡ k
      start k = omega arith

  all-have : (hosts : List HostNo) → HaveContents script (flat_map (host_results script history) hosts) (map (λ (e : Ending). e.contents) (flat_map (endings_at script history) hosts))
  all-have [] = tt
  all-have (host ∷ hosts) =
      let here = endings_at script history host in
      let later = flat_map (endings_at script history) hosts in
      subst (λ (cs : List (List Content)). HaveContents script (host_results script history host ++ flat_map (host_results script history) hosts) cs)
      (sym (map-append (λ (e : Ending). e.contents) here later))
      (have-more script (host_results script history host) (flat_map (host_results script history) hosts) (map (λ (e : Ending). e.contents) here) (map (λ (e : Ending). e.contents) later)
      (host-have host) (all-have hosts))

-- The contents that were put one after another come back result by result.
pub contents-whole : (script : Script) (history : List Call) → IsScript script →
    contents_by_result script (results script history) (flat_map (λ (read : List Content). read) (contents script history)) ≡ contents script history
contents-whole script history is = contents-back script (results script history) (contents script history) (all-have script history is (host_numbers script))
