-- A report and the report as told have one text.
use Rattle.std.proofs.Common.{◌≡◌, ℕ, List, [], ◌∷◌, ◌++◌, map, refl, sym, ap, ◌∙◌, append-nil}
use Rattle.std.specs.List.{flat_map}
use Rattle.raid_base.specs.declared.cells.Content.{Content}
use Rattle.raid_base.specs.declared.jobs.Cause.{Cause}
use Rattle.raid_base.specs.declared.jobs.Cause.TheVariants as causes
use Rattle.raid_base.specs.declared.jobs.JobEnd.{JobEnd}
use Rattle.raid_base.specs.declared.jobs.JobEnd.TheVariants as ends
use Rattle.raid_base.specs.declared.jobs.JobResult.{JobResult}
use Rattle.text_lines.specs.Lines.{line}
use Rattle.std.specs.Prelude.{codes, decimal}
use Rattle.report_text.specs.Report.{ReportOf, cause_words, end_words, flags_text, job_line, job_lines, turn_lines, block_line, row_lines, report_text}
use Rattle.report_text.specs.Ranges.{IsReport}
use Rattle.report_text.specs.Told.{cause_told, end_told, result_told, as_told, IsTold}
use Rattle.report_text.proofs.ReportReading.{texts-unique}

same-cause : (cause : Cause) → cause_words (cause_told cause) ≡ cause_words cause
same-cause (causes.Busy holder) = refl
same-cause (causes.Late above) = refl
same-cause (causes.Young note) = refl
same-cause (causes.Behind floor) = refl
same-cause (causes.Fault bay) = refl
same-cause (causes.Broken first second) = refl
same-cause (causes.Gone bay) = refl
same-cause (causes.Changed row) = refl
same-cause (causes.Released row) = refl
same-cause (causes.Seized row) = refl
same-cause (causes.Spent seen) = refl
same-cause causes.Quit = refl

same-end : (how : JobEnd) (contents : List Content) (blocks : ℕ) → end_words (end_told how) contents blocks ≡ end_words how contents blocks
same-end (ends.Read n) contents blocks = refl
same-end (ends.Wrote n) contents blocks = refl
same-end (ends.Part n made cause) contents blocks =
    ap (λ (words : List (List ℕ)). codes "part" ∷ decimal n.0 ∷ flags_text made blocks ∷ words) (same-cause cause)
same-end (ends.Recovered n closed lost) contents blocks = refl
same-end ends.Lost contents blocks = refl
same-end ends.Fitted contents blocks = refl
same-end ends.Rebuilt contents blocks = refl
same-end (ends.Gave tries cause) contents blocks = ap (λ (words : List (List ℕ)). codes "gave" ∷ decimal tries ∷ words) (same-cause cause)
same-end (ends.StillMissing bay) contents blocks = refl
same-end (ends.NotLost bay) contents blocks = refl
same-end (ends.NotFitted bay) contents blocks = refl
same-end ends.NoObject contents blocks = refl
same-end (ends.PastEnd end) contents blocks = refl
same-end (ends.TooManyRows rows) contents blocks = refl

same-line : (result : JobResult) (contents : List Content) (blocks : ℕ) → job_line (result_told result) contents blocks ≡ job_line result contents blocks
same-line result contents blocks =
    ap (λ (words : List (List ℕ)). line (codes "job" ∷ decimal result.host.0 ∷ decimal result.job ∷ words)) (same-end result.«end» contents blocks)

same-lines : (results : List JobResult) (contents : List (List Content)) (flags : List ℕ) → job_lines (map result_told results) contents flags ≡ job_lines results contents flags
same-lines [] contents flags = refl
same-lines (result ∷ results) [] flags = refl
same-lines (result ∷ results) (read ∷ contents) [] = refl
same-lines (result ∷ results) (read ∷ contents) (blocks ∷ flags) =
    ap (λ (text : List ℕ). text ++ job_lines (map result_told results) contents flags) (same-line result read blocks)
    ∙ ap (λ (text : List ℕ). job_line result read blocks ++ text) (same-lines results contents flags)

-- what is told of a report has its text
pub same-text : (report : ReportOf) → report_text (as_told report) ≡ report_text report
same-text report =
    ap (λ (text : List ℕ). line (codes "report" ∷ codes "1" ∷ []) ++ text ++ turn_lines report.turns ++ flat_map block_line report.blocks
    ++ row_lines 0 report.closed ++ line (codes "end" ∷ [])) (same-lines report.results report.contents report.flags)

-- A report that is one as told has a text which no other has.
pub is-told : (report : ReportOf) → IsReport (as_told report) → IsTold report
is-told report is = record {
  is_report = is;
  text = same-text report;
  reads_back = λ other ranges text.
      sym ((texts-unique (as_told report) other is ranges [] (text ∙ sym (same-text report) ∙ sym (append-nil (report_text (as_told report))))).0);
}
