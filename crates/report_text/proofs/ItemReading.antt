-- Lines: what is spelled so is read, and what is read is spelled so.
use Rattle.std.proofs.Common.{◌≡◌, ◌≢◌, ℕ, zero, suc, ◌+◌, ◌-◌, ◌^◌, ◌<◌, ◌≤◌, Bool, true, false, cond, eqb, not, ◌&&◌, ◌||◌, List, [], ◌∷◌, ◌++◌, map, length, get_or, Option, Some, None, option_map, refl, sym, ap, ◌∙◌, subst, arith, decimal, lit<}
use Rattle.std.specs.Prelude.{codes, All}
use Rattle.std.specs.List.{list_all, flat_map}
use Rattle.std.proofs.lemmas.Bool.{and_parts, and_from, eqb-false}
use Rattle.std.proofs.lemmas.Bool.Decides.{nat_tests}
use Rattle.std.proofs.lemmas.List.Elements.{All-cons}
use Rattle.raid_base.specs.Names.{IsNameText, is_name, is_text}
use Rattle.raid_base.specs.declared.cells.Content.{Content}
use Rattle.raid_base.specs.declared.cells.Content.TheVariants as contents
use Rattle.raid_base.specs.declared.cells.Shown.{Shown}
use Rattle.raid_base.specs.declared.cells.Shown.TheVariants.{Seen, Hidden}
use Rattle.raid_base.specs.declared.messages.Note.{Note}
use Rattle.raid_base.specs.declared.messages.Turn.{Turn}
use Rattle.raid_base.specs.declared.jobs.Cause.{Cause}
use Rattle.raid_base.specs.declared.jobs.Cause.TheVariants as causes
use Rattle.raid_base.specs.declared.jobs.JobEnd.{JobEnd}
use Rattle.raid_base.specs.declared.jobs.JobEnd.TheVariants as ends
use Rattle.raid_base.specs.declared.numbers.HostNo.{HostNo}
use Rattle.text_lines.specs.Lines.{IsLine}
use Rattle.text_lines.proofs.WordLemmas.{IsWord, is_word_byte, IsWord-decimal, IsWord-name, IsWord-block}
use Rattle.report_text.specs.Endings.{EndingOf}
use Rattle.report_text.specs.Report.{content_text, shown_text, holder_words, cause_words, flags_text, row_word, lost_words, end_words}
use Rattle.report_text.specs.Ranges.{IsWithin, IsCount, IsHolder, IsCause, IsShown, IsUnit, IsEnd, IsPlain, IsTurn}
use Rattle.report_text.specs.Reading.{behind, first_word, number_within, number_before, number_behind, pair_behind, end_of, shown_of, row_word_of}
use Rattle.report_text.specs.Items.{name_of, turn_of, block_of_line, row_of, short_line, job_head, job_of, line_of}
use Rattle.report_text.specs.declared.reading.items.Line.{Line}
use Rattle.report_text.specs.declared.reading.items.Line.TheVariants as lines
use Rattle.report_text.proofs.ReadingWords.{same-some, never-some, bound, first_word-again, first_word-takes, behind-takes, number_within-again, number_before-again, number_before-takes, number_behind-takes, pair_behind-takes}
use Rattle.report_text.proofs.ContentReading.{is_text-takes, taken, shown_of-again, shown_of-takes}
use Rattle.report_text.proofs.FlagReading.{flags-all}
use Rattle.report_text.proofs.CauseReading.{glued, alt, leaf, whole}
use Rattle.report_text.proofs.EndReading.{SpellsEnd, end_of-again, end_of-takes, row_word_of-again, row_word_of-takes}

-- the words of a line
abbrev pub item_words : Line → List (List ℕ)
item_words lines.Head = codes "report" ∷ codes "1" ∷ []
item_words (lines.Job host job e) = codes "job" ∷ decimal host.0 ∷ decimal job ∷ end_words e.«end» e.contents e.flags
item_words (lines.Turns n) = codes "turns" ∷ decimal n ∷ []
item_words (lines.Turn turn) = codes "turn" ∷ decimal turn.host.0 ∷ decimal turn.moment ∷ []
item_words (lines.Block object block shown) = codes "block" ∷ object ∷ decimal block ∷ shown_text shown ∷ []
item_words (lines.Row row closed) = codes "row" ∷ decimal row ∷ row_word closed ∷ []
item_words lines.End = codes "end" ∷ []

-- a line that keeps its ranges
abbrev pub IsItem : Line → Type 0
IsItem lines.Head = Unit {0}
IsItem (lines.Job host job e) = IsWithin 0 15 host.0 × IsCount job × IsEnd e.«end» e.contents e.flags
IsItem (lines.Turns n) = IsCount n
IsItem (lines.Turn turn) = IsTurn turn
IsItem (lines.Block object block shown) = IsNameText object × IsCount block × IsShown shown
IsItem (lines.Row row closed) = IsWithin 0 4095 row
IsItem lines.End = Unit {0}

-- words without a separator
abbrev AreWords : List (List ℕ) → Type 0
AreWords [] = Unit {0}
AreWords (word ∷ words) = IsWord word × AreWords words

number-word : (least most n : ℕ) → most < 2 ^ 64 → IsWithin least most n → IsWord (decimal n)
number-word least most n h r = IsWord-decimal n (let high = r.high in omega arith)

holder-are : (note : Note) → IsHolder note → AreWords (holder_words note)
holder-are note h = (number-word 0 15 note.host.0 (lit< tt) h.host, (number-word 1 (2 ^ 62 - 1) note.id.0 (lit< tt) h.id, tt))

cause-are : (cause : Cause) → IsCause cause → AreWords (cause_words cause)
cause-are (causes.Busy note) h = (refl, holder-are note h)
cause-are (causes.Late n) h = (refl, (number-word 0 (2 ^ 62 - 1) n.0 (lit< tt) h, tt))
cause-are (causes.Young note) h = (refl, holder-are note h)
cause-are (causes.Behind n) h = (refl, (number-word 0 (2 ^ 62 - 1) n.0 (lit< tt) h, tt))
cause-are (causes.Fault n) h = (refl, (number-word 0 15 n.0 (lit< tt) h, tt))
cause-are (causes.Broken n m) h = (refl, (number-word 0 15 n.0 (lit< tt) h.0, (number-word 0 15 m.0 (lit< tt) h.1, tt)))
cause-are (causes.Gone n) h = (refl, (number-word 0 15 n.0 (lit< tt) h, tt))
cause-are (causes.Changed n) h = (refl, (number-word 0 4095 n.0 (lit< tt) h, tt))
cause-are (causes.Released n) h = (refl, (number-word 0 4095 n.0 (lit< tt) h, tt))
cause-are (causes.Seized n) h = (refl, (number-word 0 4095 n.0 (lit< tt) h, tt))
cause-are (causes.Spent n) h = (refl, (number-word 0 (2 ^ 62 - 1) n.0 (lit< tt) h, tt))
cause-are causes.Quit h = (refl, tt)

content-is : (content : Content) → IsWord (content_text content)
content-is (contents.Bytes block) = IsWord-block block
content-is contents.Lost = refl

shown-is : (shown : Shown) → IsWord (shown_text shown)
shown-is (Seen content) = content-is content
shown-is Hidden = refl

contents-are : (all : List Content) → AreWords (map content_text all)
contents-are [] = tt
contents-are (content ∷ all) = (content-is content, contents-are all)

row-is : (closed : Bool) → IsWord (row_word closed)
row-is true = refl
row-is false = refl

lost-are : (lost : Option ℕ) → IsUnit lost → AreWords (lost_words lost)
lost-are None h = (refl, tt)
lost-are (Some u) h = (refl, (number-word 0 14 u (lit< tt) h, tt))

end-are : (how : JobEnd) (all : List Content) (flags : ℕ) → IsEnd how all flags → AreWords (end_words how all flags)
end-are (ends.Read n) all flags h = (refl, (number-word 1 (2 ^ 62 - 1) n.0 (lit< tt) h.0, contents-are all))
end-are (ends.Wrote n) all flags h = (refl, (number-word 1 (2 ^ 62 - 1) n.0 (lit< tt) h.0, tt))
end-are (ends.Part n made cause) all flags h = (refl, (number-word 1 (2 ^ 62 - 1) n.0 (lit< tt) h.0, (flags-all is_word_byte made 0 flags refl refl, cause-are cause h.2)))
end-are (ends.Recovered n closed lost) all flags h = let is = h.0 in (refl, (number-word 1 (2 ^ 62 - 1) n.0 (lit< tt) is.0, (row-is closed, lost-are lost is.1)))
end-are ends.Lost all flags h = (refl, tt)
end-are ends.Fitted all flags h = (refl, tt)
end-are ends.Rebuilt all flags h = (refl, tt)
end-are (ends.Gave tries cause) all flags h = let is = h.0 in (refl, (number-word 1 64 tries (lit< tt) is.0, cause-are cause is.1))
end-are (ends.StillMissing n) all flags h = (refl, (number-word 0 15 n.0 (lit< tt) h.0, tt))
end-are (ends.NotLost n) all flags h = (refl, (number-word 0 15 n.0 (lit< tt) h.0, tt))
end-are (ends.NotFitted n) all flags h = (refl, (number-word 0 15 n.0 (lit< tt) h.0, tt))
end-are ends.NoObject all flags h = (refl, tt)
end-are (ends.PastEnd n) all flags h = (refl, (number-word 0 (2 ^ 32 - 1) n (lit< tt) h.0, tt))
end-are (ends.TooManyRows n) all flags h = (refl, (number-word 0 (2 ^ 32 - 1) n (lit< tt) h.0, tt))

item-are : (item : Line) → IsItem item → AreWords (item_words item)
item-are lines.Head h = (refl, (refl, tt))
item-are (lines.Job host job e) h = (refl, (number-word 0 15 host.0 (lit< tt) h.0, (number-word 0 (2 ^ 32 - 1) job (lit< tt) h.1, end-are e.«end» e.contents e.flags h.2)))
item-are (lines.Turns n) h = (refl, (number-word 0 (2 ^ 32 - 1) n (lit< tt) h, tt))
item-are (lines.Turn turn) h = (refl, (number-word 0 15 turn.host.0 (lit< tt) h.host, (number-word 0 (2 ^ 40 - 1) turn.moment (lit< tt) h.moment, tt)))
item-are (lines.Block object block shown) h = (refl, (IsWord-name object h.0, (number-word 0 (2 ^ 32 - 1) block (lit< tt) h.1, (shown-is shown, tt))))
item-are (lines.Row row closed) h = (refl, (number-word 0 4095 row (lit< tt) h, (row-is closed, tt)))
item-are lines.End h = (refl, tt)

-- no byte of a line's words ends the line
abbrev no_end : ℕ → Bool
no_end byte = not (eqb byte 10)

word_byte-no_end : (byte : ℕ) → is_word_byte byte ≡ true → no_end byte ≡ true
word_byte-no_end byte h = grind (arith, nat_tests)

word-no_end : (word more : List ℕ) → IsWord word → list_all no_end more ≡ true → list_all no_end (word ++ more) ≡ true
word-no_end [] more h m = m
word-no_end (byte ∷ bytes) more h m =
    let parts = and_parts (is_word_byte byte) (list_all is_word_byte bytes) h in
    and_from (no_end byte) (list_all no_end (bytes ++ more)) (word_byte-no_end byte parts.0) (word-no_end bytes more parts.1 m)

last-no_end : (word : List ℕ) → IsWord word → list_all no_end word ≡ true
last-no_end [] h = refl
last-no_end (byte ∷ bytes) h =
    let parts = and_parts (is_word_byte byte) (list_all is_word_byte bytes) h in
    and_from (no_end byte) (list_all no_end bytes) (word_byte-no_end byte parts.0) (last-no_end bytes parts.1)

words-no_end : (words : List (List ℕ)) → AreWords words → list_all no_end (glued words) ≡ true
words-no_end [] h = refl
words-no_end (word ∷ []) h = last-no_end word h.0
words-no_end (word ∷ after ∷ words) h = word-no_end word (32 ∷ glued (after ∷ words)) h.0 (words-no_end (after ∷ words) h.1)

no_end-line : (text : List ℕ) → list_all no_end text ≡ true → IsLine text
no_end-line [] h = λ k d l. absurd (omega arith)
no_end-line (byte ∷ bytes) h =
    let parts = and_parts (no_end byte) (list_all no_end bytes) h in
    All-cons (λ (b : ℕ). b ≢ 10) byte bytes (ends-not byte parts.0) (no_end-line bytes parts.1) where
      ends-not : (b : ℕ) → no_end b ≡ true → b ≢ 10
      ends-not b t e = let no : no_end 10 ≡ true = ap no_end (sym e) ∙ t in cc

-- a line has no end within
pub item-line : (item : Line) → IsItem item → IsLine (glued (item_words item))
item-line item h = no_end-line (glued (item_words item)) (words-no_end (item_words item) (item-are item h))

end-glue : (word : List ℕ) (how : JobEnd) (all : List Content) (flags : ℕ) → glued (word ∷ end_words how all flags) ≡ word ++ 32 ∷ glued (end_words how all flags)
end-glue word (ends.Read n) all flags = refl
end-glue word (ends.Wrote n) all flags = refl
end-glue word (ends.Part n made cause) all flags = refl
end-glue word (ends.Recovered n closed lost) all flags = refl
end-glue word ends.Lost all flags = refl
end-glue word ends.Fitted all flags = refl
end-glue word ends.Rebuilt all flags = refl
end-glue word (ends.Gave tries cause) all flags = refl
end-glue word (ends.StillMissing n) all flags = refl
end-glue word (ends.NotLost n) all flags = refl
end-glue word (ends.NotFitted n) all flags = refl
end-glue word ends.NoObject all flags = refl
end-glue word (ends.PastEnd n) all flags = refl
end-glue word (ends.TooManyRows n) all flags = refl

job-words : (host : HostNo) (job : ℕ) (e : EndingOf) → glued (item_words (lines.Job host job e)) ≡ codes "job " ++ (decimal host.0 ++ 32 ∷ (decimal job ++ 32 ∷ glued (end_words e.«end» e.contents e.flags)))
job-words host job e = ap (λ x. codes "job " ++ (decimal host.0 ++ 32 ∷ x)) (end-glue (decimal job) e.«end» e.contents e.flags)

job-again : (host : HostNo) (job : ℕ) (e : EndingOf) → IsItem (lines.Job host job e) → job_of (codes "job " ++ (decimal host.0 ++ 32 ∷ (decimal job ++ 32 ∷ glued (end_words e.«end» e.contents e.flags)))) ≡ Some (lines.Job host job e)
unfolding job_of job_head behind
job-again host job e h =
    rw (number_before-again 0 15 host.0 (decimal job ++ 32 ∷ glued (end_words e.«end» e.contents e.flags)) (lit< tt) h.0, number_before-again 0 (2 ^ 32 - 1) job (glued (end_words e.«end» e.contents e.flags)) (lit< tt) h.1, end_of-again e.«end» e.contents e.flags h.2) refl

job-line : (text : List ℕ) (item : Line) → job_of (codes "job " ++ text) ≡ Some item → line_of (codes "job " ++ text) ≡ Some item
unfolding line_of short_line turn_of block_of_line row_of number_behind pair_behind behind
job-line text item e = e

name_of-again : (name : List ℕ) → IsNameText name → name_of name ≡ Some name
unfolding name_of
name_of-again name h = ap (λ t. cond t (Some name) None) h

pub line_of-again : (item : Line) → IsItem item → line_of (glued (item_words item)) ≡ Some item
unfolding line_of short_line turn_of block_of_line row_of number_behind pair_behind behind
line_of-again lines.Head h = refl
line_of-again (lines.Job host job e) h = ap line_of (job-words host job e) ∙ job-line _ (lines.Job host job e) (job-again host job e h)
line_of-again (lines.Turns n) h = rw (number_within-again 0 (2 ^ 32 - 1) n (lit< tt) h) refl
line_of-again (lines.Turn turn) h = rw (number_before-again 0 15 turn.host.0 (decimal turn.moment) (lit< tt) h.host, number_within-again 0 (2 ^ 40 - 1) turn.moment (lit< tt) h.moment) refl
line_of-again (lines.Block object block shown) h =
    rw (first_word-again object (decimal block ++ 32 ∷ shown_text shown) (IsWord-name object h.0), name_of-again object h.0, number_before-again 0 (2 ^ 32 - 1) block (shown_text shown) (lit< tt) h.1, shown_of-again shown h.2) refl
line_of-again (lines.Row row closed) h = rw (number_before-again 0 4095 row (row_word closed) (lit< tt) h, row_word_of-again closed) refl
line_of-again lines.End h = refl

-- a line that the text is
abbrev pub Spells : List ℕ → Line → Type 0
Spells text item = IsItem item × (text ≡ glued (item_words item))

turn-takes : (text : List ℕ) (item : Line) → turn_of text ≡ Some item → Spells text item
unfolding turn_of
turn-takes text item e =
    leaf (Spells text) (pair_behind (codes "turn ") 0 (2 ^ 40 - 1) text) (λ (found : ℕ × ℕ). lines.Turn (record { host = record { 0 = found.0 }; moment = found.1 })) item e
    (λ found q. let reads = pair_behind-takes (codes "turn ") 0 (2 ^ 40 - 1) found.0 found.1 text (lit< tt) q in
    let high = reads.first_high in
    (record { host = record { low = omega arith; high = high }; moment = reads.range }, reads.text_is))

block-takes : (text : List ℕ) (item : Line) → block_of_line text ≡ Some item → Spells text item
unfolding block_of_line name_of
block-takes text item e =
    let words = bound (behind (codes "block ") text) _ item e in
    let parts = bound (first_word words.0) _ item words.2 in
    let object = bound (cond (is_name parts.0.0) (Some parts.0.0) None) _ item parts.2 in
    let number = bound (number_before 0 (2 ^ 32 - 1) parts.0.1) _ item object.2 in
    let shown = bound (shown_of number.0.1) _ item number.2 in
    let same : lines.Block object.0 number.0.0 shown.0 ≡ item = same-some (lines.Block object.0 number.0.0 shown.0) item shown.2 in
    let named = taken (is_name parts.0.0) parts.0.0 object.0 object.1 in
    let is : IsNameText object.0 = subst IsNameText named.1 named.0 in
    let before = number_before-takes 0 (2 ^ 32 - 1) number.0.0 parts.0.1 number.0.1 (lit< tt) number.1 in
    let shows = shown_of-takes number.0.1 shown.0 shown.1 in
    let text_is : text ≡ glued (item_words (lines.Block object.0 number.0.0 shown.0)) =
    behind-takes (codes "block ") text words.0 words.1 ∙ ap (λ x. codes "block " ++ x) (first_word-takes words.0 parts.0.0 parts.0.1 parts.1 ∙ ap (λ x. x ++ 32 ∷ parts.0.1) named.1 ∙ ap (λ x. object.0 ++ 32 ∷ x) (before.text_is ∙ ap (λ x. decimal number.0.0 ++ 32 ∷ x) shows.1)) in
    subst (Spells text) same ((is, before.range, shows.0), text_is)

row-takes : (text : List ℕ) (item : Line) → row_of text ≡ Some item → Spells text item
unfolding row_of
row-takes text item e =
    let words = bound (behind (codes "row ") text) _ item e in
    let number = bound (number_before 0 4095 words.0) _ item words.2 in
    let closed = bound (row_word_of number.0.1) _ item number.2 in
    let same : lines.Row number.0.0 closed.0 ≡ item = same-some (lines.Row number.0.0 closed.0) item closed.2 in
    let before = number_before-takes 0 4095 number.0.0 words.0 number.0.1 (lit< tt) number.1 in
    let text_is : text ≡ glued (item_words (lines.Row number.0.0 closed.0)) =
    behind-takes (codes "row ") text words.0 words.1 ∙ ap (λ x. codes "row " ++ x) (before.text_is ∙ ap (λ x. decimal number.0.0 ++ 32 ∷ x) (row_word_of-takes number.0.1 closed.0 closed.1)) in
    subst (Spells text) same (before.range, text_is)

short-takes : (text : List ℕ) (item : Line) → short_line text ≡ Some item → Spells text item
unfolding short_line
short-takes text item e =
    let P = Spells text in
    whole P (is_text text (codes "report 1")) lines.Head item _ e (λ q. (tt, is_text-takes text (codes "report 1") q)) λ f.
    whole P (is_text text (codes "end")) lines.End item _ f (λ q. (tt, is_text-takes text (codes "end") q)) λ g.
    alt (P item) _ _ item g (λ q. leaf P (number_behind (codes "turns ") 0 (2 ^ 32 - 1) text) lines.Turns item q (λ n r. number_behind-takes (codes "turns ") 0 (2 ^ 32 - 1) n text (lit< tt) r)) λ h.
    alt (P item) _ _ item h (λ i. alt (P item) _ _ item i (turn-takes text item) (block-takes text item)) (row-takes text item)

record ReadsHead (text : List ℕ) (head : ℕ × ℕ × List ℕ) : Type 0 where
  host : IsWithin 0 15 head.0
  job : IsCount head.1
  text_is : text ≡ codes "job " ++ (decimal head.0 ++ 32 ∷ (decimal head.1 ++ 32 ∷ head.2))

head-takes : (text : List ℕ) (head : ℕ × ℕ × List ℕ) → job_head text ≡ Some head → ReadsHead text head
unfolding job_head
head-takes text head e =
    let words = bound (behind (codes "job ") text) _ head e in
    let host = bound (number_before 0 15 words.0) _ head words.2 in
    let job = bound (number_before 0 (2 ^ 32 - 1) host.0.1) _ head host.2 in
    let same : (host.0.0, job.0.0, job.0.1) ≡ head = same-some (host.0.0, job.0.0, job.0.1) head job.2 in
    let first = number_before-takes 0 15 host.0.0 words.0 host.0.1 (lit< tt) host.1 in
    let second = number_before-takes 0 (2 ^ 32 - 1) job.0.0 host.0.1 job.0.1 (lit< tt) job.1 in
    subst (ReadsHead text) same (record {
      host = first.range;
      job = second.range;
      text_is = behind-takes (codes "job ") text words.0 words.1 ∙ ap (λ x. codes "job " ++ x) (first.text_is ∙ ap (λ x. decimal host.0.0 ++ 32 ∷ x) second.text_is);
    })

job-takes : (text : List ℕ) (item : Line) → job_of text ≡ Some item → Spells text item
unfolding job_of
job-takes text item e =
    let head = bound (job_head text) _ item e in
    let ending = bound (end_of head.0.2) _ item head.2 in
    let host : HostNo = record { 0 = head.0.0 } in
    let same : lines.Job host head.0.1 ending.0 ≡ item = same-some (lines.Job host head.0.1 ending.0) item ending.2 in
    let heads = head-takes text head.0 head.1 in
    let spells = end_of-takes head.0.2 ending.0 ending.1 in
    let text_is : text ≡ glued (item_words (lines.Job host head.0.1 ending.0)) =
    heads.text_is ∙ ap (λ x. codes "job " ++ (decimal head.0.0 ++ 32 ∷ (decimal head.0.1 ++ 32 ∷ x))) spells.1 ∙ sym (job-words host head.0.1 ending.0) in
    subst (Spells text) same ((heads.host, heads.job, spells.0), text_is)

pub line_of-takes : (text : List ℕ) (item : Line) → line_of text ≡ Some item → Spells text item
unfolding line_of
line_of-takes text item e = alt (Spells text item) _ _ item e (short-takes text item) (job-takes text item)
