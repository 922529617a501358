-- The lines of a report, one by one: how each is read.
use Rattle.std.specs.Prelude.{◌≡◌, ℕ, ◌-◌, ◌^◌, Bool, List, [], ◌∷◌, Option, Some, None, option_map, codes, if◌then◌else◌}
use Rattle.std.specs.Option.{option_or}
use Rattle.std.specs.Borrow.{Bor}
use Rattle.raid_base.specs.Names.{is_name, is_text}
use Rattle.report_text.specs.Endings.{EndingOf}
use Rattle.report_text.specs.Reading.{◌>>=◌, behind, first_word, number_before, number_behind, pair_behind, row_word_of, shown_of, end_of}
use Rattle.report_text.specs.declared.reading.items.Line.{Line}
use Rattle.report_text.specs.declared.reading.items.Line.TheVariants as lines

unfoldable pub name_of : List ℕ → Option (List ℕ)
name_of word = if is_name word then Some word else None

unfoldable pub turn_of : List ℕ → Option Line
turn_of text = option_map (λ found. lines.Turn (record { host = record { 0 = found.0 }; moment = found.1 })) (pair_behind (codes "turn ") 0 (2 ^ 40 - 1) text)

unfoldable pub block_of_line : List ℕ → Option Line
block_of_line text = do
  words ← behind (codes "block ") text
  parts ← first_word words
  object ← name_of parts.0
  number ← number_before 0 (2 ^ 32 - 1) parts.1
  shown ← shown_of number.1
  Some (lines.Block object number.0 shown)

unfoldable pub row_of : List ℕ → Option Line
row_of text = do
  words ← behind (codes "row ") text
  number ← number_before 0 4095 words
  closed ← row_word_of number.1
  Some (lines.Row number.0 closed)

-- a line of any kind but a result's
unfoldable pub short_line : List ℕ → Option Line
short_line text =
    if is_text text (codes "report 1") then Some lines.Head else
    (if is_text text (codes "end") then Some lines.End else
    option_or (option_map lines.Turns (number_behind (codes "turns ") 0 (2 ^ 32 - 1) text))
    (option_or (option_or (turn_of text) (block_of_line text)) (row_of text)))

-- the host, the job and what is left are these
abbrev pub Heads : Option (ℕ × ℕ × Bor (List ℕ)) → Option (ℕ × ℕ × List ℕ) → Type 0
Heads None found = found ≡ None
Heads (Some parts) found = found ≡ Some (parts.0, parts.1, parts.2.now)

-- the host and the job of a result, and the text of its end
unfoldable pub job_head : List ℕ → Option (ℕ × ℕ × List ℕ)
job_head text = do
  words ← behind (codes "job ") text
  host ← number_before 0 15 words
  job ← number_before 0 (2 ^ 32 - 1) host.1
  Some (host.0, job.0, job.1)

unfoldable pub job_of : List ℕ → Option Line
job_of text = do
  head ← job_head text
  ending ← end_of head.2
  Some (lines.Job (record { 0 = head.0 }) head.1 ending)

-- a line
unfoldable pub line_of : List ℕ → Option Line
line_of text = option_or (short_line text) (job_of text)
