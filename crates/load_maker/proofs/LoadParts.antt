-- The blocks of a load's jobs are all there.
use Rattle.std.proofs.Common.{◌≡◌, ℕ, zero, suc, ◌+◌, ◌*◌, ◌/◌, ◌%◌, ◌<◌, ◌≤◌, Bool, true, false, List, [], ◌∷◌, length, take, drop, sym, subst, refl, arith, Option, Some, Ok, Err}
use Rattle.std.specs.Prelude.{All, codes, if◌then◌else◌, nat_lt, ◌==◌}
use Rattle.std.specs.Result.{IsOk}
use Rattle.std.proofs.lemmas.Bool.{le-ltb}
use Rattle.std.proofs.lemmas.List.Elements.{All-nil, All-cons, All-append}
use Rattle.raid_base.specs.declared.names.Name.{Name}
use Rattle.raid_base.specs.declared.numbers.RowNo.{RowNo}
use Rattle.raid_base.specs.declared.jobs.Job.{Job}
use Rattle.raid_base.specs.declared.jobs.RowPart.{RowPart}
use Rattle.raid_base.specs.declared.jobs.PartsFault.{PartsFault}
use Rattle.raid_base.specs.declared.jobs.PartsFault.TheVariants.{PastEnd, TooManyRows}
use Rattle.raid_base.specs.declared.jobs.Task.TheVariants.{Read, Write, Lose, Fit, Rebuild}
use Rattle.virtual_objects.specs.Objects.{parts_found, parts_from, parts_in, rows_of, rows_touched}
use Rattle.script_text.specs.Script.{HostJobs}
use Rattle.script_text.specs.Ranges.{all_jobs}
use Rattle.load_maker.specs.Accesses.{HasParts}
use Rattle.load_maker.specs.Load.{dealt, draw, drawn_job, half, host_blocks, job_blocks, jobs_from, load_hosts, load_objects, load_script, operator, task_of, whole}
use Rattle.load_maker.proofs.DrawLemmas.{count_most, first_below}
use Rattle.load_maker.proofs.HalfLemmas.{length-half}
use Rattle.load_maker.proofs.LoadScripts.{jobs_in, jobs-push}
use Rattle.load_maker.proofs.LoadWeights.{rows-few}

there : (past many : Bool) (e f : PartsFault) (parts : List RowPart) → past ≡ false → many ≡ false → IsOk (if past then Err e else (if many then Err f else Ok parts))
there true many e f parts p m = absurd (cc)
there false true e f parts p m = absurd (cc)
there false false e f parts p m = refl

parts-there : (first count : ℕ) (rows : List RowNo) → length rows ≡ 256 → first < 1784 → count ≤ 8 → IsOk (parts_in 7 first count rows)
parts-there first count rows l f c =
    let many : ℕ = rows_touched 7 first count in
    there (nat_lt (length rows * 7) (first + count)) (nat_lt 8 many) (PastEnd (length rows * 7)) (TooManyRows many) (parts_from 7 first (first + count) (first / 7) (take many (drop (first / 7) rows)))
    (le-ltb (length rows * 7) (first + count) (omega arith))
    (le-ltb 8 many (omega (arith, rows-few first count c)))

-- both names have 256 rows
rows-named : (which : Bool) → (row : ℕ) × (rows_of load_objects (if which then codes "a" else codes "b") ≡ Some (half row))
rows-named true = (0, refl)
rows-named false = (256, refl)

object-rows : (x : ℕ) → (row : ℕ) × (rows_of load_objects (drawn_job x).object ≡ Some (half row))
unfolding drawn_job
object-rows x = rows-named (draw 1 x % 2 == 0)

parts-drawn : (x : ℕ) → IsOk (parts_found 7 (drawn_job x).first (drawn_job x).count (rows_of load_objects (drawn_job x).object))
parts-drawn x =
    let rows = object-rows x in
    subst (λ (found : Option (List RowNo)). IsOk (parts_found 7 (drawn_job x).first (drawn_job x).count found)) (sym rows.1) (parts-there (drawn_job x).first (drawn_job x).count (half rows.0) (length-half rows.0) (first_below x) (count_most x))

either : (n from : ℕ) (writes : Bool) (object : Name) (first count : ℕ) → IsOk (parts_found 7 first count (rows_of load_objects object)) → HasParts (load_script n) (if writes then Write object first from count else Read object first count)
either n from true object first count h = h
either n from false object first count h = h

abbrev JobHasParts : ℕ → Job → Type 0
JobHasParts n job = HasParts (load_script n) job.task

jobs-parts : (n from : ℕ) (states : List ℕ) → All (JobHasParts n) (jobs_from from states)
jobs-parts n from [] = All-nil (JobHasParts n)
jobs-parts n from (x ∷ states) =
    let job : Job = whole (task_of from (drawn_job x)) in
    All-cons (JobHasParts n) job (jobs_from (from + length (job_blocks x)) states) (either n from (drawn_job x).writes (drawn_job x).object (drawn_job x).first (drawn_job x).count (parts-drawn x)) (jobs-parts n (from + length (job_blocks x)) states)

operator-parts : (n : ℕ) → All (JobHasParts n) operator.jobs
operator-parts n =
    let P : Job → Type 0 = JobHasParts n in
    let lose : Job = whole (Lose (record { 0 = 3 })) in
    let fit : Job = whole (Fit (record { 0 = 3 })) in
    let rebuild : Job = whole (Rebuild (record { 0 = 3 })) in
    All-cons P lose (fit ∷ rebuild ∷ []) tt (All-cons P fit (rebuild ∷ []) tt (All-cons P rebuild [] tt (All-nil P)))

hosts-parts : (n k : ℕ) → All (JobHasParts n) (jobs_in (load_hosts n k))
unfolding load_hosts
hosts-parts n zero = operator-parts n
hosts-parts n (suc k) =
    let jobs : List Job = jobs_from (length (host_blocks n k)) (dealt n k n) in
    let host : HostJobs = record { host = record { 0 = k + 1 }; jobs = jobs } in
    subst (All (JobHasParts n)) (sym (jobs-push (load_hosts n k) host)) (All-append (JobHasParts n) (jobs_in (load_hosts n k)) jobs (hosts-parts n k) (jobs-parts n (length (host_blocks n k)) (dealt n k n)))

pub load-parts : (n : ℕ) → All (JobHasParts n) (all_jobs (load_script n))
load-parts n = hosts-parts n 8
