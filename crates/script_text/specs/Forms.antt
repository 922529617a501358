-- What a line of a script says by its form, be its numbers in range or not.
use Rattle.std.specs.Prelude.{ℕ, ◌-◌, ◌^◌, min, ◌==◌, ◌&&◌, nat_lt, Bool, if◌then◌else◌, List, [], ◌∷◌, length, map, replicate, slice_index, Option, Some, None, Result, Ok, Err, codes}
use Rattle.std.specs.List.{list_all, slice_split}
use Rattle.std.specs.Borrow.{Bor}
use Rattle.hex.specs.Hex.{decode_of}
use Rattle.hex.specs.declared.error.FromHexError.{FromHexError}
use Rattle.raid_base.specs.declared.messages.Mode.{Mode}
use Rattle.raid_base.specs.declared.messages.Mode.TheVariants.{Lock, Order}
use Rattle.raid_base.specs.declared.names.Name.{Name}
use Rattle.raid_base.specs.Names.{is_name, is_text}
use Rattle.text_lines.specs.Blocks.{block_text}
use Rattle.text_lines.specs.Numbers.{is_number, number_of}
use Rattle.script_text.specs.Script.{Script, HostJobs}
use Rattle.script_text.specs.Text.{Words}
use Rattle.script_text.specs.declared.lines.Stage.{Stage}
use Rattle.script_text.specs.declared.lines.Stage.TheVariants.{Raid, Devices, Rows, Order as OrderStage, Patience, Tries, Body, Turns, Ended}

-- what a job does; the blocks of a write are words still
pub data Work : Type 0 where
  Reads : Name → ℕ → ℕ → Work
  Writes : Name → ℕ → Words → Work
  Recovers : ℕ → Work
  Loses : ℕ → Work
  Fits : ℕ → Work
  Rebuilds : ℕ → Work

-- a line; one that has no form which may stand at its place is no line
pub data Form : Type 0 where
  RaidLine : Form
  DevicesLine : ℕ → Form
  RowsLine : ℕ → Form
  ModeLine : Mode → Form
  PatienceLine : ℕ → Form
  TriesLine : ℕ → Form
  ObjectLine : Name → List ℕ → Form
  HostLine : ℕ → Form
  JobLine : Option ℕ → Work → Form
  TurnLine : ℕ → ℕ → Form
  EndLine : Form
  NoLine : Form

-- the words of a line, with one space between each two
abbrev pub words : List ℕ → Words
words text = slice_split (λ byte. byte == 32) text

-- the words behind another, where there are any
abbrev pub words_behind : Option (Bor (List ℕ)) → Words
words_behind None = []
words_behind (Some text) = words text.now

-- the number that a word writes; one above all ranges counts as the greatest of 64 bits
abbrev pub value : List ℕ → ℕ
value word = min (number_of word) (2 ^ 64 - 1)

abbrev pub number : List ℕ → Option ℕ
number word = if is_number word then Some (value word) else None

abbrev pub bytes_of : Result (List ℕ) FromHexError → List ℕ
bytes_of (Ok bytes) = bytes
bytes_of (Err fault) = []

-- the block that the digits of a word would tell: 64 times one byte, or all bytes
abbrev pub block_of : List ℕ → List ℕ
block_of word =
    if length word == 2 then replicate 64 (slice_index (bytes_of (decode_of word)) 0) else bytes_of (decode_of word)

-- a word is a block where it is that block's text
abbrev pub is_block : List ℕ → Bool
is_block word = (length (block_of word) == 64) && is_text (block_text (block_of word)) word

-- the number that the words are, where they are just one
abbrev pub only_number : Words → Option ℕ
only_number [] = None
only_number (word ∷ []) = number word
only_number (word ∷ next ∷ more) = None

abbrev pub pair : Option ℕ → Option ℕ → Option (ℕ × ℕ)
pair None second = None
pair (Some first) None = None
pair (Some first) (Some second) = Some (first, second)

-- the two numbers that the words are
abbrev pub two_numbers : Words → Option (ℕ × ℕ)
two_numbers [] = None
two_numbers (word ∷ words) = pair (number word) (only_number words)

abbrev pub with_number : {X : Type 0} → X → (ℕ → X) → Option ℕ → X
with_number other make None = other
with_number other make (Some n) = make n

abbrev pub with_numbers : {X : Type 0} → X → (ℕ → ℕ → X) → Option (ℕ × ℕ) → X
with_numbers other make None = other
with_numbers other make (Some two) = make two.0 two.1

-- a label and a number
abbrev pub labelled : List ℕ → (ℕ → Form) → Words → Form
labelled label make [] = NoLine
labelled label make (word ∷ rest) = if is_text word label then with_number NoLine make (only_number rest) else NoLine

abbrev pub raid_form : List ℕ → Form
raid_form text = if is_text text (codes "raid 1") then RaidLine else NoLine

abbrev pub mode_of : List ℕ → Option Mode
mode_of text =
    if is_text text (codes "mode lock") then Some Lock else (if is_text text (codes "mode order") then Some Order else None)

abbrev pub mode_form : Option Mode → Form
mode_form None = NoLine
mode_form (Some mode) = ModeLine mode

-- a name and one row at least
abbrev pub object_form : Words → Form
object_form [] = NoLine
object_form (word ∷ []) = NoLine
object_form (word ∷ name ∷ rows) =
    if is_text word (codes "object") && is_name name && nat_lt 0 (length rows) && list_all is_number rows
    then ObjectLine name (map value rows) else NoLine

abbrev pub read_work : Words → Option Work
read_work [] = None
read_work (name ∷ rest) = if is_name name then with_numbers None (λ first count. Some (Reads name first count)) (two_numbers rest) else None

-- a name, the first block, and one block at least
abbrev pub write_work : Words → Option Work
write_work [] = None
write_work (name ∷ []) = None
write_work (name ∷ first ∷ blocks) =
    if is_name name && is_number first && nat_lt 0 (length blocks) && list_all is_block blocks
    then Some (Writes name (value first) blocks) else None

abbrev pub work_of : List ℕ → Words → Option Work
work_of word rest =
    if is_text word (codes "read") then read_work rest
    else (if is_text word (codes "write") then write_work rest
    else (if is_text word (codes "recover") then with_number None (λ row. Some (Recovers row)) (only_number rest)
    else (if is_text word (codes "lose") then with_number None (λ bay. Some (Loses bay)) (only_number rest)
    else (if is_text word (codes "fit") then with_number None (λ bay. Some (Fits bay)) (only_number rest)
    else (if is_text word (codes "rebuild") then with_number None (λ bay. Some (Rebuilds bay)) (only_number rest)
    else None)))))

abbrev pub job_of : Option ℕ → Option Work → Form
job_of quit None = NoLine
job_of quit (Some work) = JobLine quit work

abbrev pub quit_form : Words → Form
quit_form [] = NoLine
quit_form (requests ∷ []) = NoLine
quit_form (requests ∷ word ∷ rest) = if is_number requests then job_of (Some (value requests)) (work_of word rest) else NoLine

-- a job, with or without the number of requests after which its host stops
abbrev pub job_form : Words → Form
job_form [] = NoLine
job_form (word ∷ rest) = if is_text word (codes "quit") then quit_form rest else job_of None (work_of word rest)

abbrev pub end_form : Words → Form
end_form [] = EndLine
end_form (word ∷ rest) = NoLine

-- a turn or the end
abbrev pub turn_form : Words → Form → Form
turn_form [] other = other
turn_form (word ∷ rest) other =
    if is_text word (codes "turn") then with_numbers NoLine TurnLine (two_numbers rest)
    else (if is_text word (codes "end") then end_form rest else other)

-- an object stands before the first host, and a job behind one
abbrev pub object_or_job : List HostJobs → Words → Form
object_or_job [] words = object_form words
object_or_job (host ∷ hosts) words = job_form words

abbrev pub host_form : Words → Form → Form
host_form [] other = other
host_form (word ∷ rest) other =
    if is_text word (codes "host") then with_number NoLine HostLine (only_number rest) else other

-- the form of a line that stands here, behind lines that tell this script so far
abbrev pub form_at : Stage → Script → List ℕ → Form
form_at Raid script text = raid_form text
form_at Devices script text = labelled (codes "devices") DevicesLine (words text)
form_at Rows script text = labelled (codes "rows") RowsLine (words text)
form_at OrderStage script text = mode_form (mode_of text)
form_at Patience script text = labelled (codes "patience") PatienceLine (words text)
form_at Tries script text = labelled (codes "tries") TriesLine (words text)
form_at Body script text = host_form (words text) (turn_form (words text) (object_or_job script.hosts (words text)))
form_at Turns script text = turn_form (words text) NoLine
form_at Ended script text = NoLine
