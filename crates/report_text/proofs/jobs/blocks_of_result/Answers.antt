use Rattle.std.proofs.Common.{◌≡◌, Some, ap, sym, ◌∙◌, slice_get}
use Rattle.std.proofs.lemmas.Option.{slice_get-get_or}
use Rattle.std.specs.Prelude.{find}
use Rattle.script_text.specs.Script.{Script, jobs_in, jobs_of}
use Rattle.report_text.specs.Views.{job_blocks}
use Rattle.report_text.proofs.JobLookup.{is_of, none-got}
use Rattle.report_text.proofs.jobs.blocks_of_result.Goals as goal

pub returns-in-Some : goal.returns-in-Some
returns-in-Some c =
    let host = c.args.ended.now.host in
    let i = c.args.ended.now.job in
    let jobs = c.jobs_of-jobs.result.now in
    let found = c.in-Some.ensures.lookup in
    let jobs_is : jobs ≡ jobs_of c.args.script.now host = c.jobs_of-jobs.ensures ∙ ap (λ hs. jobs_in (find (is_of host) hs)) (c.as_slice.ensures.value ∙ ap (λ (s : Script). s.hosts) c.script.view_is) in
    let got : slice_get jobs i ≡ Some c.in-Some.job.now = slice_get-get_or jobs i c.in-Some.job.now found.3.0 ∙ ap (λ j. Some j) (sym found.1) in
    c.task_blocks.ensures ∙ sym (ap job_blocks (ap (λ js. slice_get js i) (sym jobs_is) ∙ got))

pub returns-in-None : goal.returns-in-None
returns-in-None c =
    let host = c.args.ended.now.host in
    let i = c.args.ended.now.job in
    let jobs = c.jobs_of-jobs.result.now in
    let found = c.in-None.ensures.lookup in
    let jobs_is : jobs ≡ jobs_of c.args.script.now host = c.jobs_of-jobs.ensures ∙ ap (λ hs. jobs_in (find (is_of host) hs)) (c.as_slice.ensures.value ∙ ap (λ (s : Script). s.hosts) c.script.view_is) in
    sym (ap job_blocks (ap (λ js. slice_get js i) (sym jobs_is) ∙ none-got jobs i found.3))
