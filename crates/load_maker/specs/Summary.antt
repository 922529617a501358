-- The summary of a load's report.
use Rattle.std.specs.Prelude.{ℕ, max, Bool, true, false, List, [], ◌∷◌, ◌++◌, map, fold, length, count_by, codes, decimal}
use Rattle.std.specs.List.{flat_map}
use Rattle.raid_base.specs.Cells.{zeros}
use Rattle.raid_base.specs.declared.cells.Content.TheVariants as contents
use Rattle.raid_base.specs.declared.cells.Shown.{Shown}
use Rattle.raid_base.specs.declared.cells.Shown.TheVariants.{Seen, Hidden}
use Rattle.raid_base.specs.declared.messages.Turn.{Turn}
use Rattle.raid_base.specs.declared.jobs.JobEnd.{JobEnd}
use Rattle.raid_base.specs.declared.jobs.JobEnd.TheVariants as ends
use Rattle.raid_base.specs.declared.jobs.JobResult.{JobResult}
use Rattle.raid_xor.specs.Sums.{xor_of}
use Rattle.virtual_objects.specs.Objects.{Address}
use Rattle.text_lines.specs.Blocks.{block_text}
use Rattle.text_lines.specs.Lines.{line}
use Rattle.report_text.specs.Report.{ReportOf}

-- how a job ended
abbrev pub is_read : JobEnd → Bool
is_read (ends.Read n) = true
is_read _ = false

abbrev pub is_wrote : JobEnd → Bool
is_wrote (ends.Wrote n) = true
is_wrote _ = false

abbrev pub is_part : JobEnd → Bool
is_part (ends.Part n made cause) = true
is_part _ = false

abbrev pub is_gave : JobEnd → Bool
is_gave (ends.Gave tries cause) = true
is_gave _ = false

-- in none of these ways
abbrev pub is_other : JobEnd → Bool
is_other (ends.Read n) = false
is_other (ends.Wrote n) = false
is_other (ends.Part n made cause) = false
is_other (ends.Gave tries cause) = false
is_other _ = true

-- how many jobs ended so
abbrev pub count_ends : (JobEnd → Bool) → List JobResult → ℕ
count_ends is_kind results = count_by (λ (result : JobResult). is_kind result.«end») results

-- the number of a result, and 0 where it has none
abbrev pub number_of : JobEnd → ℕ
number_of (ends.Read n) = n.0
number_of (ends.Wrote n) = n.0
number_of (ends.Part n made cause) = n.0
number_of (ends.Recovered n closed lost) = n.0
number_of _ = 0

abbrev pub greatest : List JobResult → ℕ
greatest results = fold (λ most (result : JobResult). max most (number_of result.«end»)) 0 results

abbrev pub is_lost : Shown → Bool
is_lost (Seen (contents.Bytes bytes)) = false
is_lost (Seen contents.Lost) = true
is_lost Hidden = false

abbrev pub is_hidden : Shown → Bool
is_hidden (Seen content) = false
is_hidden Hidden = true

-- a sum of blocks, and with one more where it is shown as bytes
abbrev pub with_shown : List ℕ → Shown → List ℕ
with_shown sum (Seen (contents.Bytes bytes)) = xor_of sum bytes
with_shown sum (Seen contents.Lost) = sum
with_shown sum Hidden = sum

abbrev pub sum_shown : List Shown → List ℕ
sum_shown shown = fold with_shown zeros shown

-- lines of words
abbrev pub Words : Type 0
Words = List (List ℕ)

-- the load, and how its jobs ended
abbrev pub end_lines : ℕ → List JobResult → List Words
end_lines n results =
    (codes "load" ∷ decimal n ∷ [])
    ∷ (
    codes "read" ∷ decimal (count_ends is_read results)
    ∷ codes "wrote" ∷ decimal (count_ends is_wrote results)
    ∷ codes "part" ∷ decimal (count_ends is_part results)
    ∷ codes "gave" ∷ decimal (count_ends is_gave results)
    ∷ codes "other" ∷ decimal (count_ends is_other results)
    ∷ []
    )
    ∷ []

-- the requests, the greatest number, and the closed rows
abbrev pub course_lines : List JobResult → List Turn → List Bool → List Words
course_lines results turns closed =
    (codes "requests" ∷ decimal (length turns) ∷ [])
    ∷ (codes "greatest" ∷ decimal (greatest results) ∷ [])
    ∷ (codes "closed" ∷ decimal (count_by (λ row. row) closed) ∷ [])
    ∷ []

-- what is shown of the blocks
abbrev pub shown_lines : List Shown → List Words
shown_lines shown =
    (codes "lost" ∷ decimal (count_by is_lost shown) ∷ codes "hidden" ∷ decimal (count_by is_hidden shown) ∷ [])
    ∷ (codes "sum" ∷ block_text (sum_shown shown) ∷ [])
    ∷ (codes "end" ∷ [])
    ∷ []

abbrev pub shown_of : ReportOf → List Shown
shown_of report = map (λ (block : Address × Shown). block.1) report.blocks

-- The text of the summary of a load of n jobs with this report
unfoldable pub summary_text : ℕ → ReportOf → List ℕ
summary_text n report = flat_map line (end_lines n report.results ++ course_lines report.results report.turns report.closed ++ shown_lines (shown_of report))
