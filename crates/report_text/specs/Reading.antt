-- How a line is read, piece by piece. What is read so is said in the words of Report.antt and Ranges.antt.
use Rattle.std.specs.Prelude.{◌≡◌, ℕ, zero, suc, ◌+◌, ◌*◌, ◌-◌, ◌^◌, ◌==◌, ◌&&◌, ◌||◌, nat_eq, nat_le, nat_lt, Bool, true, false, List, [], ◌∷◌, take, drop, length, Option, Some, None, option_map, option_and_then, codes, if◌then◌else◌, replicate, slice_index}
use Rattle.std.specs.Borrow.{Bor}
use Rattle.std.specs.Option.{option_or}
use Rattle.std.specs.Result.{result_ok}
use Rattle.std.specs.Global.{Vec}
use Rattle.std.specs.List.{list_all}
use Rattle.raid_base.specs.declared.numbers.BayNo.{BayNo}
use Rattle.raid_base.specs.declared.numbers.RowNo.{RowNo}
use Rattle.raid_base.specs.declared.numbers.Number.{Number}
use Rattle.raid_base.specs.declared.messages.Note.{Note}
use Rattle.raid_base.specs.declared.cells.Content.{Content}
use Rattle.raid_base.specs.declared.cells.Content.TheVariants as contents
use Rattle.raid_base.specs.declared.cells.Shown.{Shown}
use Rattle.raid_base.specs.declared.cells.Shown.TheVariants.{Seen, Hidden}
use Rattle.raid_base.specs.declared.jobs.Cause.{Cause}
use Rattle.raid_base.specs.declared.jobs.Cause.TheVariants as causes
use Rattle.raid_base.specs.declared.jobs.JobEnd.{JobEnd}
use Rattle.raid_base.specs.declared.jobs.JobEnd.TheVariants as ends
use Rattle.raid_base.specs.Names.{is_text}
use Rattle.hex.specs.Hex.{decode_sized}
use Rattle.text_lines.specs.Blocks.{block_text}
use Rattle.text_lines.specs.Numbers.{is_number, number_of}
use Rattle.report_text.specs.Endings.{EndingOf}

infixl 10 ◌>>=◌
abbrev pub ◌>>=◌ : {A B : Type 0} → Option A → (A → Option B) → Option B
found >>= more = option_and_then more found

-- what is left is this
abbrev pub Leaves : Option (Bor (List ℕ)) → Option (List ℕ) → Type 0
Leaves None found = found ≡ None
Leaves (Some rest) found = found ≡ Some rest.now

-- the word and what is left are these
abbrev pub Parts : Option (Bor (List ℕ) × Bor (List ℕ)) → Option (List ℕ × List ℕ) → Type 0
Parts None found = found ≡ None
Parts (Some parts) found = found ≡ Some (parts.0.now, parts.1.now)

-- the number and what is left are these
abbrev pub Begins : Option (ℕ × Bor (List ℕ)) → Option (ℕ × List ℕ) → Type 0
Begins None found = found ≡ None
Begins (Some parts) found = found ≡ Some (parts.0, parts.1.now)

-- what stands behind a piece
unfoldable pub behind : List ℕ → List ℕ → Option (List ℕ)
behind piece text = if is_text (take (length piece) text) piece then Some (drop (length piece) text) else None

-- the word before the first space, and what stands behind that
unfoldable pub first_word : List ℕ → Option (List ℕ × List ℕ)
first_word [] = None
first_word (byte ∷ bytes) = if byte == 32 then Some ([], bytes) else option_map (λ parts. (byte ∷ parts.0, parts.1)) (first_word bytes)

-- a number in its range
unfoldable pub number_within : ℕ → ℕ → List ℕ → Option ℕ
number_within least most text =
    if is_number text && (nat_le least (number_of text) && nat_le (number_of text) most) then Some (number_of text) else None

-- a number and what stands behind its space
unfoldable pub number_before : ℕ → ℕ → List ℕ → Option (ℕ × List ℕ)
number_before least most text = do
  parts ← first_word text
  number ← number_within least most parts.0
  Some (number, parts.1)

unfoldable pub number_behind : List ℕ → ℕ → ℕ → List ℕ → Option ℕ
number_behind piece least most text = do
  digits ← behind piece text
  number_within least most digits

unfoldable pub pair_behind : List ℕ → ℕ → ℕ → List ℕ → Option (ℕ × ℕ)
pair_behind piece least most text = do
  words ← behind piece text
  first ← number_before 0 15 words
  second ← number_within least most first.1
  Some (first.0, second)

-- a note of which no more is known than its host and id
abbrev pub holder : ℕ → ℕ → Note
holder host id = record { host = record { 0 = host }; id = record { 0 = id }; origin = record { 0 = id }; mask = 0; moment = 0 }

unfoldable pub holder_behind : List ℕ → List ℕ → Option Note
holder_behind piece text = option_map (λ found. holder found.0 found.1) (pair_behind piece 1 (2 ^ 62 - 1) text)

unfoldable pub bay_behind : List ℕ → List ℕ → Option BayNo
bay_behind piece text = option_map (λ n. record { 0 = n }) (number_behind piece 0 15 text)

unfoldable pub row_behind : List ℕ → List ℕ → Option RowNo
row_behind piece text = option_map (λ n. record { 0 = n }) (number_behind piece 0 4095 text)

unfoldable pub floor_behind : List ℕ → List ℕ → Option Number
floor_behind piece text = option_map (λ n. record { 0 = n }) (number_behind piece 0 (2 ^ 62 - 1) text)

unfoldable pub number_cause : List ℕ → Option Cause
number_cause text =
    option_or (option_map causes.Busy (holder_behind (codes "busy ") text))
    (option_or (option_map causes.Young (holder_behind (codes "young ") text))
    (option_or (option_map causes.Late (floor_behind (codes "late ") text))
    (option_or (option_map causes.Behind (floor_behind (codes "behind ") text))
    (option_map causes.Spent (floor_behind (codes "spent ") text)))))

unfoldable pub bay_cause : List ℕ → Option Cause
bay_cause text =
    option_or (option_map causes.Fault (bay_behind (codes "fault ") text))
    (option_or (option_map causes.Gone (bay_behind (codes "gone ") text))
    (option_map (λ found. causes.Broken (record { 0 = found.0 }) (record { 0 = found.1 })) (pair_behind (codes "broken ") 0 15 text)))

unfoldable pub row_cause : List ℕ → Option Cause
row_cause text =
    option_or (option_map causes.Changed (row_behind (codes "changed ") text))
    (option_or (option_map causes.Released (row_behind (codes "released ") text))
    (option_map causes.Seized (row_behind (codes "seized ") text)))

-- a cause
unfoldable pub cause_of : List ℕ → Option Cause
cause_of text = if is_text text (codes "quit") then Some causes.Quit else option_or (option_or (number_cause text) (bay_cause text)) (row_cause text)

-- the bytes that the digits would write, if they are a block's
unfoldable pub candidate : List ℕ → Option (List ℕ)
candidate text =
    if length text == 2 then option_map (λ bytes. replicate 64 (slice_index bytes 0)) (result_ok (decode_sized text 1)) else result_ok (decode_sized text 64)

-- a block
unfoldable pub block_of : List ℕ → Option (List ℕ)
block_of text = do
  block ← candidate text
  if (length block == 64 && list_all (λ byte. nat_lt byte 256) block) && is_text text (block_text block) then Some block else None

unfoldable pub content_of : List ℕ → Option Content
content_of word = if is_text word (codes "lost") then Some contents.Lost else option_map contents.Bytes (block_of word)

unfoldable pub shown_of : List ℕ → Option Shown
shown_of word = if is_text word (codes "hidden") then Some Hidden else option_map Seen (content_of word)

-- a byte more of the first word
abbrev pub onto : ℕ → List (List ℕ) → List (List ℕ)
onto byte [] = (byte ∷ []) ∷ []
onto byte (word ∷ words) = (byte ∷ word) ∷ words

-- the words between spaces
unfoldable pub words_of : List ℕ → List (List ℕ)
words_of [] = [] ∷ []
words_of (byte ∷ bytes) = if byte == 32 then [] ∷ words_of bytes else onto byte (words_of bytes)

unfoldable pub all_contents : List (List ℕ) → Option (List Content)
all_contents [] = Some []
all_contents (word ∷ words) = do
  content ← content_of word
  more ← all_contents words
  Some (content ∷ more)

unfoldable pub contents_of : List ℕ → Option (List Content)
contents_of text = do
  all ← all_contents (words_of text)
  if nat_le (length all) 120 then Some all else None

-- what was read is this list
abbrev pub Lists : Option (Vec Content) → Option (List Content) → Type 0
Lists None found = found ≡ None
Lists (Some all) found = found ≡ Some all.items

abbrev pub is_flag : ℕ → Bool
is_flag digit = digit == 48 || digit == 49

-- 1 for the digit 1
abbrev pub bit_of : ℕ → ℕ
bit_of digit = if digit == 49 then 1 else 0

-- the blocks that digits name, the first of them the lowest bit
unfoldable pub made_of : List ℕ → ℕ
made_of [] = 0
made_of (digit ∷ digits) = 2 * made_of digits + bit_of digit

unfoldable pub flags_of : List ℕ → Option ℕ
flags_of digits =
    if (nat_le 1 (length digits) && nat_le (length digits) 120) && list_all is_flag digits then Some (made_of digits) else None

unfoldable pub row_word_of : List ℕ → Option Bool
row_word_of word = if is_text word (codes "closed") then Some true else (if is_text word (codes "open") then Some false else None)

unfoldable pub lost_of : List ℕ → Option (Option ℕ)
lost_of text = if is_text text (codes "none") then Some None else option_map (λ unit. Some unit) (number_behind (codes "unit ") 0 14 text)

unfoldable pub recovered_of : List ℕ → Option JobEnd
recovered_of text = do
  words ← behind (codes "recovered ") text
  number ← number_before 1 (2 ^ 62 - 1) words
  parts ← first_word number.1
  closed ← row_word_of parts.0
  lost ← lost_of parts.1
  Some (ends.Recovered (record { 0 = number.0 }) closed lost)

unfoldable pub gave_of : List ℕ → Option JobEnd
gave_of text = do
  words ← behind (codes "gave ") text
  tries ← number_before 1 64 words
  cause ← cause_of tries.1
  Some (ends.Gave tries.0 cause)

-- an end of one word
unfoldable pub word_end : List ℕ → Option JobEnd
word_end text =
    if is_text text (codes "lost") then Some ends.Lost else
    (if is_text text (codes "fitted") then Some ends.Fitted else
    (if is_text text (codes "rebuilt") then Some ends.Rebuilt else
    (if is_text text (codes "noobject") then Some ends.NoObject else None)))

-- an end of a word and a number
unfoldable pub number_end : List ℕ → Option JobEnd
number_end text =
    option_or (option_map (λ n. ends.Wrote (record { 0 = n })) (number_behind (codes "wrote ") 1 (2 ^ 62 - 1) text))
    (option_or (option_map ends.StillMissing (bay_behind (codes "still ") text))
    (option_or (option_map ends.NotLost (bay_behind (codes "notlost ") text))
    (option_or (option_map ends.NotFitted (bay_behind (codes "notfitted ") text))
    (option_or (option_map ends.PastEnd (number_behind (codes "pastend ") 0 (2 ^ 32 - 1) text))
    (option_map ends.TooManyRows (number_behind (codes "toomanyrows ") 0 (2 ^ 32 - 1) text))))))

-- an end with neither contents nor flags
unfoldable pub plain_end : List ℕ → Option JobEnd
plain_end text = option_or (option_or (option_or (word_end text) (number_end text)) (recovered_of text)) (gave_of text)

-- the end of a part, and how many flags it has
unfoldable pub part_of : List ℕ → Option (JobEnd × ℕ)
part_of text = do
  words ← behind (codes "part ") text
  number ← number_before 1 (2 ^ 62 - 1) words
  digits ← first_word number.1
  made ← flags_of digits.0
  cause ← cause_of digits.1
  Some (ends.Part (record { 0 = number.0 }) made cause, length digits.0)

-- the number of a read, and the text of its contents
unfoldable pub read_head : List ℕ → Option (ℕ × List ℕ)
read_head text = do
  words ← behind (codes "read ") text
  number_before 1 (2 ^ 62 - 1) words

unfoldable pub read_of : List ℕ → Option EndingOf
read_of text = do
  found ← read_head text
  all ← contents_of found.1
  Some (record { «end» = ends.Read (record { 0 = found.0 }); contents = all; flags = 0 })

-- an end that has no contents
abbrev pub ending : JobEnd → ℕ → EndingOf
ending how flags = record { «end» = how; contents = []; flags = flags }

-- an end
unfoldable pub end_of : List ℕ → Option EndingOf
end_of text =
    option_or (option_map (λ how. ending how 0) (plain_end text))
    (option_or (option_map (λ found. ending found.0 found.1) (part_of text)) (read_of text))
