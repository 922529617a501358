-- Ends of jobs: what is spelled so is read, and what is read is spelled so.
use Rattle.std.proofs.Common.{◌≡◌, ℕ, zero, suc, ◌+◌, ◌-◌, ◌^◌, ◌<◌, ◌≤◌, Bool, true, false, cond, eqb, leb, List, [], ◌∷◌, ◌++◌, map, length, Option, Some, None, option_map, refl, sym, ap, ◌∙◌, subst, arith, decimal, lit<}
use Rattle.std.specs.Prelude.{option_and_then, codes, All}
use Rattle.std.proofs.lemmas.List.Elements.{All-cons, All-tail}
use Rattle.std.proofs.lemmas.Bool.{le-leb, leb-true, eqb-true}
use Rattle.std.proofs.lemmas.List.{length-map}
use Rattle.raid_base.specs.Names.{is_text}
use Rattle.raid_base.specs.declared.numbers.BayNo.{BayNo}
use Rattle.raid_base.specs.declared.numbers.Number.{Number}
use Rattle.raid_base.specs.declared.cells.Content.{Content}
use Rattle.raid_base.specs.declared.jobs.Cause.{Cause}
use Rattle.raid_base.specs.declared.jobs.Cause.TheVariants as causes
use Rattle.raid_base.specs.declared.cells.Content.TheVariants as contents
use Rattle.raid_base.specs.declared.jobs.JobEnd.{JobEnd}
use Rattle.raid_base.specs.declared.jobs.JobEnd.TheVariants as ends
use Rattle.text_lines.proofs.WordLemmas.{IsWord, IsWord-block, IsWord-decimal, is_word_byte}
use Rattle.report_text.specs.Endings.{EndingOf}
use Rattle.report_text.specs.Report.{content_text, cause_words, flags_text, row_word, lost_words, end_words}
use Rattle.report_text.specs.Ranges.{IsWithin, IsNo, IsBay, IsCause, IsContent, AreContents, AreFlags, IsUnit, IsPlain, IsEnd}
use Rattle.report_text.specs.Reading.{ending, onto, behind, first_word, number_within, number_before, number_behind, bay_behind, cause_of, content_of, words_of, all_contents, contents_of, flags_of, row_word_of, lost_of, recovered_of, gave_of, word_end, number_end, plain_end, part_of, read_head, read_of, end_of}
use Rattle.report_text.proofs.ReadingWords.{same-some, never-some, bound, mapped, first_word-again, first_word-last, first_word-takes, behind-takes, number_within-again, number_before-again, number_before-takes, number_behind-takes}
use Rattle.report_text.proofs.ContentReading.{is_text-takes, taken, content_of-again, content_of-takes, words_of-word, words_of-last}
use Rattle.report_text.proofs.FlagReading.{flags_of-again, flags_of-takes, flags-all, length-flags}
use Rattle.report_text.proofs.CauseReading.{glued, alt, leaf, whole, cause_of-again, cause_of-takes, bay_behind-takes}

-- the words of a cause behind a word
pub glued-cause : (word : List ℕ) (cause : Cause) → glued (word ∷ cause_words cause) ≡ word ++ 32 ∷ glued (cause_words cause)
glued-cause word (causes.Busy n) = refl
glued-cause word (causes.Late n) = refl
glued-cause word (causes.Young n) = refl
glued-cause word (causes.Behind n) = refl
glued-cause word (causes.Fault n) = refl
glued-cause word (causes.Broken n m) = refl
glued-cause word (causes.Gone n) = refl
glued-cause word (causes.Changed n) = refl
glued-cause word (causes.Released n) = refl
glued-cause word (causes.Seized n) = refl
glued-cause word (causes.Spent n) = refl
glued-cause word causes.Quit = refl

glued-lost : (word : List ℕ) (lost : Option ℕ) → glued (word ∷ lost_words lost) ≡ word ++ 32 ∷ glued (lost_words lost)
glued-lost word None = refl
glued-lost word (Some u) = refl

lost_of-again : (lost : Option ℕ) → IsUnit lost → lost_of (glued (lost_words lost)) ≡ Some lost
unfolding lost_of number_behind behind
lost_of-again None h = refl
lost_of-again (Some unit) h = rw (number_within-again 0 14 unit (lit< tt) h) refl

lost_of-takes : (text : List ℕ) (lost : Option ℕ) → lost_of text ≡ Some lost → IsUnit lost × (text ≡ glued (lost_words lost))
unfolding lost_of
lost_of-takes text lost e =
    let P : Option ℕ → Type 0 = λ l. IsUnit l × (text ≡ glued (lost_words l)) in
    whole P (is_text text (codes "none")) None lost _ e (λ q. (tt, is_text-takes text (codes "none") q)) λ f.
    leaf P (number_behind (codes "unit ") 0 14 text) (λ (u : ℕ). Some u) lost f (λ u r. number_behind-takes (codes "unit ") 0 14 u text (lit< tt) r)

pub row_word_of-again : (closed : Bool) → row_word_of (row_word closed) ≡ Some closed
unfolding row_word_of
row_word_of-again true = refl
row_word_of-again false = refl

pub row_word_of-takes : (word : List ℕ) (closed : Bool) → row_word_of word ≡ Some closed → word ≡ row_word closed
unfolding row_word_of
row_word_of-takes word closed e =
    let P : Bool → Type 0 = λ c. word ≡ row_word c in
    whole P (is_text word (codes "closed")) true closed _ e (λ q. is_text-takes word (codes "closed") q) λ f.
    whole P (is_text word (codes "open")) false closed None f (λ q. is_text-takes word (codes "open") q) λ g. never-some closed (P closed) g

IsWord-row : (closed : Bool) → IsWord (row_word closed)
IsWord-row true = refl
IsWord-row false = refl

recovered-again : (n : Number) (closed : Bool) (lost : Option ℕ) → IsNo n → IsUnit lost
    → recovered_of (codes "recovered " ++ (decimal n.0 ++ 32 ∷ (row_word closed ++ 32 ∷ glued (lost_words lost)))) ≡ Some (ends.Recovered n closed lost)
unfolding recovered_of behind
recovered-again n closed lost h u =
    rw (number_before-again 1 (2 ^ 62 - 1) n.0 (row_word closed ++ 32 ∷ glued (lost_words lost)) (lit< tt) h, first_word-again (row_word closed) (glued (lost_words lost)) (IsWord-row closed), row_word_of-again closed, lost_of-again lost u) refl

gave-again : (tries : ℕ) (cause : Cause) → IsWithin 1 64 tries → IsCause cause → gave_of (codes "gave " ++ (decimal tries ++ 32 ∷ glued (cause_words cause))) ≡ Some (ends.Gave tries cause)
unfolding gave_of behind
gave-again tries cause h u = rw (number_before-again 1 64 tries (glued (cause_words cause)) (lit< tt) h, cause_of-again cause u) refl

recovered-words : (n : Number) (closed : Bool) (lost : Option ℕ) → glued (end_words (ends.Recovered n closed lost) [] 0) ≡ codes "recovered " ++ (decimal n.0 ++ 32 ∷ (row_word closed ++ 32 ∷ glued (lost_words lost)))
recovered-words n closed lost = ap (λ x. codes "recovered " ++ (decimal n.0 ++ 32 ∷ x)) (glued-lost (row_word closed) lost)

gave-words : (tries : ℕ) (cause : Cause) → glued (end_words (ends.Gave tries cause) [] 0) ≡ codes "gave " ++ (decimal tries ++ 32 ∷ glued (cause_words cause))
gave-words tries cause = ap (λ x. codes "gave " ++ x) (glued-cause (decimal tries) cause)

recovered-plain : (text : List ℕ) (n : Number) (how : JobEnd) → text ≡ text → recovered_of (codes "recovered " ++ text) ≡ Some how → plain_end (codes "recovered " ++ text) ≡ Some how
unfolding plain_end word_end number_end bay_behind number_behind behind
recovered-plain text n how same e = rw e refl

gave-plain : (text : List ℕ) (how : JobEnd) → gave_of (codes "gave " ++ text) ≡ Some how → recovered_of (codes "gave " ++ text) ≡ None → plain_end (codes "gave " ++ text) ≡ Some how
unfolding plain_end word_end number_end bay_behind number_behind behind
gave-plain text how e f = rw (f, e) refl

gave-other : (text : List ℕ) → recovered_of (codes "gave " ++ text) ≡ None
unfolding recovered_of behind
gave-other text = refl

pub plain_end-again : (how : JobEnd) → IsPlain how → plain_end (glued (end_words how [] 0)) ≡ Some how
unfolding plain_end word_end number_end bay_behind number_behind behind
plain_end-again (ends.Read n) h = absurd h
plain_end-again (ends.Wrote n) h = rw (number_within-again 1 (2 ^ 62 - 1) n.0 (lit< tt) h) refl
plain_end-again (ends.Part n made cause) h = absurd h
plain_end-again (ends.Recovered n closed lost) h = ap plain_end (recovered-words n closed lost) ∙ recovered-plain _ n _ refl (recovered-again n closed lost h.0 h.1)
plain_end-again ends.Lost h = refl
plain_end-again ends.Fitted h = refl
plain_end-again ends.Rebuilt h = refl
plain_end-again (ends.Gave tries cause) h = ap plain_end (gave-words tries cause) ∙ gave-plain _ _ (gave-again tries cause h.0 h.1) (gave-other _)
plain_end-again (ends.StillMissing bay) h = rw (number_within-again 0 15 bay.0 (lit< tt) h) refl
plain_end-again (ends.NotLost bay) h = rw (number_within-again 0 15 bay.0 (lit< tt) h) refl
plain_end-again (ends.NotFitted bay) h = rw (number_within-again 0 15 bay.0 (lit< tt) h) refl
plain_end-again ends.NoObject h = refl
plain_end-again (ends.PastEnd n) h = rw (number_within-again 0 (2 ^ 32 - 1) n (lit< tt) h) refl
plain_end-again (ends.TooManyRows n) h = rw (number_within-again 0 (2 ^ 32 - 1) n (lit< tt) h) refl

-- an end that the text is
abbrev pub SpellsPlain : List ℕ → JobEnd → Type 0
SpellsPlain text how = IsPlain how × (text ≡ glued (end_words how [] 0))

word_end-takes : (text : List ℕ) (how : JobEnd) → word_end text ≡ Some how → SpellsPlain text how
unfolding word_end
word_end-takes text how e =
    let P = SpellsPlain text in
    whole P (is_text text (codes "lost")) ends.Lost how _ e (λ q. (tt, is_text-takes text (codes "lost") q)) λ f.
    whole P (is_text text (codes "fitted")) ends.Fitted how _ f (λ q. (tt, is_text-takes text (codes "fitted") q)) λ g.
    whole P (is_text text (codes "rebuilt")) ends.Rebuilt how _ g (λ q. (tt, is_text-takes text (codes "rebuilt") q)) λ h.
    whole P (is_text text (codes "noobject")) ends.NoObject how None h (λ q. (tt, is_text-takes text (codes "noobject") q)) λ i. never-some how (P how) i

number_end-takes : (text : List ℕ) (how : JobEnd) → number_end text ≡ Some how → SpellsPlain text how
unfolding number_end
number_end-takes text how e =
    let P = SpellsPlain text in
    alt (P how) _ _ how e (λ q. leaf P (number_behind (codes "wrote ") 1 (2 ^ 62 - 1) text) (λ (n : ℕ). ends.Wrote (record { 0 = n })) how q (λ n r. number_behind-takes (codes "wrote ") 1 (2 ^ 62 - 1) n text (lit< tt) r)) λ f.
    alt (P how) _ _ how f (λ q. leaf P (bay_behind (codes "still ") text) ends.StillMissing how q (λ a r. bay_behind-takes (codes "still ") text a r)) λ g.
    alt (P how) _ _ how g (λ q. leaf P (bay_behind (codes "notlost ") text) ends.NotLost how q (λ a r. bay_behind-takes (codes "notlost ") text a r)) λ h.
    alt (P how) _ _ how h (λ q. leaf P (bay_behind (codes "notfitted ") text) ends.NotFitted how q (λ a r. bay_behind-takes (codes "notfitted ") text a r)) λ i.
    alt (P how) _ _ how i (λ q. leaf P (number_behind (codes "pastend ") 0 (2 ^ 32 - 1) text) ends.PastEnd how q (λ n r. number_behind-takes (codes "pastend ") 0 (2 ^ 32 - 1) n text (lit< tt) r)) λ j.
    leaf P (number_behind (codes "toomanyrows ") 0 (2 ^ 32 - 1) text) ends.TooManyRows how j (λ n r. number_behind-takes (codes "toomanyrows ") 0 (2 ^ 32 - 1) n text (lit< tt) r)

recovered-takes : (text : List ℕ) (how : JobEnd) → recovered_of text ≡ Some how → SpellsPlain text how
unfolding recovered_of
recovered-takes text how e =
    let words = bound (behind (codes "recovered ") text) _ how e in
    let number = bound (number_before 1 (2 ^ 62 - 1) words.0) _ how words.2 in
    let parts = bound (first_word number.0.1) _ how number.2 in
    let closed = bound (row_word_of parts.0.0) _ how parts.2 in
    let lost = bound (lost_of parts.0.1) _ how closed.2 in
    let n : Number = record { 0 = number.0.0 } in
    let same : ends.Recovered n closed.0 lost.0 ≡ how = same-some (ends.Recovered n closed.0 lost.0) how lost.2 in
    let before = number_before-takes 1 (2 ^ 62 - 1) number.0.0 words.0 number.0.1 (lit< tt) number.1 in
    let word = row_word_of-takes parts.0.0 closed.0 closed.1 in
    let unit = lost_of-takes parts.0.1 lost.0 lost.1 in
    let text_is : text ≡ glued (end_words (ends.Recovered n closed.0 lost.0) [] 0) =
    behind-takes (codes "recovered ") text words.0 words.1 ∙ ap (λ x. codes "recovered " ++ x) (before.text_is ∙ ap (λ x. decimal number.0.0 ++ 32 ∷ x) (first_word-takes number.0.1 parts.0.0 parts.0.1 parts.1 ∙ ap (λ x. x ++ 32 ∷ parts.0.1) word ∙ ap (λ x. row_word closed.0 ++ 32 ∷ x) unit.1))
    ∙ sym (recovered-words n closed.0 lost.0) in
    subst (SpellsPlain text) same ((before.range, unit.0), text_is)

gave-takes : (text : List ℕ) (how : JobEnd) → gave_of text ≡ Some how → SpellsPlain text how
unfolding gave_of
gave-takes text how e =
    let words = bound (behind (codes "gave ") text) _ how e in
    let tries = bound (number_before 1 64 words.0) _ how words.2 in
    let cause = bound (cause_of tries.0.1) _ how tries.2 in
    let same : ends.Gave tries.0.0 cause.0 ≡ how = same-some (ends.Gave tries.0.0 cause.0) how cause.2 in
    let before = number_before-takes 1 64 tries.0.0 words.0 tries.0.1 (lit< tt) tries.1 in
    let why = cause_of-takes tries.0.1 cause.0 cause.1 in
    let text_is : text ≡ glued (end_words (ends.Gave tries.0.0 cause.0) [] 0) =
    behind-takes (codes "gave ") text words.0 words.1 ∙ ap (λ x. codes "gave " ++ x) (before.text_is ∙ ap (λ x. decimal tries.0.0 ++ 32 ∷ x) why.1) ∙ sym (gave-words tries.0.0 cause.0) in
    subst (SpellsPlain text) same ((before.range, why.0), text_is)

pub plain_end-takes : (text : List ℕ) (how : JobEnd) → plain_end text ≡ Some how → SpellsPlain text how
unfolding plain_end
plain_end-takes text how e =
    let P = SpellsPlain text how in
    alt P _ _ how e (λ f. alt P _ _ how f (λ g. alt P _ _ how g (word_end-takes text how) (number_end-takes text how)) (recovered-takes text how)) (gave-takes text how)

-- the words of contents
words_of-glued : (word : List ℕ) (words : List (List ℕ)) → All IsWord (word ∷ words) → words_of (glued (word ∷ words)) ≡ word ∷ words
words_of-glued word [] h = words_of-last word (first_word-last word (h zero word (omega arith)))
words_of-glued word (after ∷ words) h =
    words_of-word (word ++ 32 ∷ glued (after ∷ words)) word (glued (after ∷ words)) (first_word-again word (glued (after ∷ words)) (h zero word (omega arith)))
    ∙ ap (λ x. word ∷ x) (words_of-glued after words (λ k d l. h (suc k) d (omega arith)))

IsWord-content : (content : Content) → IsWord (content_text content)
IsWord-content (contents.Bytes block) = IsWord-block block
IsWord-content contents.Lost = refl

contents-words : (all : List Content) → All IsWord (map content_text all)
contents-words [] = λ k d l. absurd (omega arith)
contents-words (content ∷ all) = All-cons IsWord (content_text content) (map content_text all) (IsWord-content content) (contents-words all)

all_contents-again : (all : List Content) → All IsContent all → all_contents (map content_text all) ≡ Some all
unfolding all_contents
all_contents-again [] h = refl
all_contents-again (content ∷ all) h = rw (content_of-again content (h zero content (omega arith)), all_contents-again all (λ k d l. h (suc k) d (omega arith))) refl

contents_of-again : (all : List Content) → AreContents all → contents_of (glued (map content_text all)) ≡ Some all
unfolding contents_of
contents_of-again [] h = absurd (let some = h.some in omega arith)
contents_of-again (content ∷ all) h =
    ap (λ ws. option_and_then (λ (xs : List Content). cond (leb (length xs) 120) (Some xs) None) (all_contents ws)) (words_of-glued (content_text content) (map content_text all) (contents-words (content ∷ all)))
    ∙ ap (option_and_then (λ (xs : List Content). cond (leb (length xs) 120) (Some xs) None)) (all_contents-again (content ∷ all) h.each)
    ∙ ap (λ t. cond t (Some (content ∷ all)) None) (le-leb (length (content ∷ all)) 120 h.few)

-- a text is its words
record HasWords (text : List ℕ) (words : List (List ℕ)) : Type 0 where
  some : 1 ≤ length words
  same : glued words ≡ text

onto-glued : (byte : ℕ) (word : List ℕ) (words : List (List ℕ)) → glued ((byte ∷ word) ∷ words) ≡ byte ∷ glued (word ∷ words)
onto-glued byte word [] = refl
onto-glued byte word (after ∷ words) = refl

has-step : (byte : ℕ) (bytes : List ℕ) (b : Bool) (words : List (List ℕ)) → eqb byte 32 ≡ b → HasWords bytes words → HasWords (byte ∷ bytes) (cond b ([] ∷ words) (onto byte words))
has-step byte bytes b [] e h = absurd (let some = h.some in omega arith)
has-step byte bytes true (word ∷ words) e h = record { some = omega arith; same = ap (λ x. 32 ∷ x) h.same ∙ ap (λ x. x ∷ bytes) (sym (eqb-true byte 32 e)) }
has-step byte bytes false (word ∷ words) e h = record { some = omega arith; same = onto-glued byte word words ∙ ap (λ x. byte ∷ x) h.same }

has-words : (text : List ℕ) → HasWords text (words_of text)
unfolding words_of
has-words [] = record { some = omega arith; same = refl }
has-words (byte ∷ bytes) = has-step byte bytes (eqb byte 32) (words_of bytes) refl (has-words bytes)

record AllRead (words : List (List ℕ)) (all : List Content) : Type 0 where
  each : All IsContent all
  same : words ≡ map content_text all

all_contents-takes : (words : List (List ℕ)) (all : List Content) → all_contents words ≡ Some all → AllRead words all
unfolding all_contents
all_contents-takes [] [] e = record { each = λ k d l. absurd (omega arith); same = refl }
all_contents-takes [] (content ∷ all) e = cc
all_contents-takes (word ∷ words) all e =
    let content = bound (content_of word) _ all e in
    let more = bound (all_contents words) _ all content.2 in
    let same : content.0 ∷ more.0 ≡ all = same-some (content.0 ∷ more.0) all more.2 in
    let one = content_of-takes word content.0 content.1 in
    let rest = all_contents-takes words more.0 more.1 in
    subst (AllRead (word ∷ words)) same (record {
      each = All-cons IsContent content.0 more.0 one.0 rest.each;
      same = ap (λ x. x ∷ words) one.1 ∙ ap (λ x. content_text content.0 ∷ x) rest.same;
    })

record ReadsContents (text : List ℕ) (all : List Content) : Type 0 where
  range : AreContents all
  text_is : text ≡ glued (map content_text all)

contents_of-takes : (text : List ℕ) (all : List Content) → contents_of text ≡ Some all → ReadsContents text all
unfolding contents_of
contents_of-takes text all e =
    let found = bound (all_contents (words_of text)) _ all e in
    let both = taken (leb (length found.0) 120) found.0 all found.2 in
    let reads = all_contents-takes (words_of text) all (found.1 ∙ ap (λ x. Some x) both.1) in
    let words = has-words text in
    let some = words.some in
    let few : length found.0 ≤ 120 = leb-true (length found.0) 120 both.0 in
    let as_many : length (words_of text) ≡ length all = ap length reads.same ∙ length-map all content_text in
    let same : length found.0 ≡ length all = ap length both.1 in
    record {
      range = record { each = reads.each; some = omega arith; few = omega arith };
      text_is = sym words.same ∙ ap glued reads.same;
    }

-- a part
part-words : (n : Number) (made flags : ℕ) (cause : Cause) → glued (end_words (ends.Part n made cause) [] flags) ≡ codes "part " ++ (decimal n.0 ++ 32 ∷ (flags_text made flags ++ 32 ∷ glued (cause_words cause)))
part-words n made flags cause = ap (λ x. codes "part " ++ (decimal n.0 ++ 32 ∷ x)) (glued-cause (flags_text made flags) cause)

length-flags_text : (made flags : ℕ) → length (flags_text made flags) ≡ flags
length-flags_text made flags = length-flags made flags

part-again : (n : Number) (made flags : ℕ) (cause : Cause) → IsNo n → AreFlags made flags → IsCause cause
    → part_of (codes "part " ++ (decimal n.0 ++ 32 ∷ (flags_text made flags ++ 32 ∷ glued (cause_words cause)))) ≡ Some (ends.Part n made cause, flags)
unfolding part_of behind
part-again n made flags cause h f u =
    rw (number_before-again 1 (2 ^ 62 - 1) n.0 (flags_text made flags ++ 32 ∷ glued (cause_words cause)) (lit< tt) h, first_word-again (flags_text made flags) (glued (cause_words cause)) (flags-all is_word_byte made 0 flags refl refl), flags_of-again made flags f, cause_of-again cause u)
    (ap (λ k. Some (ends.Part n made cause, k)) (length-flags made flags))

part-end : (text : List ℕ) (found : JobEnd × ℕ) → part_of (codes "part " ++ text) ≡ Some found → end_of (codes "part " ++ text) ≡ Some (ending found.0 found.1)
unfolding end_of plain_end word_end number_end recovered_of gave_of bay_behind number_behind behind
part-end text found e = rw e refl

-- a read
read-again : (n : Number) (all : List Content) → IsNo n → AreContents all → read_of (codes "read " ++ (decimal n.0 ++ 32 ∷ glued (map content_text all))) ≡ Some (record { «end» = ends.Read n; contents = all; flags = 0 })
unfolding read_of read_head behind
read-again n all h c = rw (number_before-again 1 (2 ^ 62 - 1) n.0 (glued (map content_text all)) (lit< tt) h, contents_of-again all c) refl

read-end : (text : List ℕ) (found : EndingOf) → read_of (codes "read " ++ text) ≡ Some found → end_of (codes "read " ++ text) ≡ Some found
unfolding end_of plain_end word_end number_end recovered_of gave_of part_of bay_behind number_behind behind
read-end text found e = rw e refl

read-words : (n : Number) (all : List Content) → 1 ≤ length all → glued (end_words (ends.Read n) all 0) ≡ codes "read " ++ (decimal n.0 ++ 32 ∷ glued (map content_text all))
read-words n [] h = absurd (omega arith)
read-words n (content ∷ all) h = refl

plain-end : (text : List ℕ) (how : JobEnd) → plain_end text ≡ Some how → end_of text ≡ Some (ending how 0)
unfolding end_of
plain-end text how e = rw e refl

-- an end that the text is
abbrev pub SpellsEnd : List ℕ → EndingOf → Type 0
SpellsEnd text e = IsEnd e.«end» e.contents e.flags × (text ≡ glued (end_words e.«end» e.contents e.flags))

plain-again : (how : JobEnd) (all : List Content) (flags : ℕ) → IsPlain how × (all ≡ []) × (flags ≡ 0) → end_of (glued (end_words how all flags)) ≡ Some (record { «end» = how; contents = all; flags = flags })
plain-again how all flags h =
    ap (λ x. end_of (glued (end_words how x flags))) h.1 ∙ ap (λ x. end_of (glued (end_words how [] x))) h.2 ∙ plain-end (glued (end_words how [] 0)) how (plain_end-again how h.0)
    ∙ ap (λ x. Some (ending how x)) (sym h.2) ∙ ap (λ x. Some (record { «end» = how; contents = x; flags = flags })) (sym h.1)

pub end_of-again : (how : JobEnd) (all : List Content) (flags : ℕ) → IsEnd how all flags → end_of (glued (end_words how all flags)) ≡ Some (record { «end» = how; contents = all; flags = flags })
end_of-again (ends.Read n) all flags h =
    let some = h.1.some in
    ap end_of (read-words n all some) ∙ read-end (decimal n.0 ++ 32 ∷ glued (map content_text all)) (record { «end» = ends.Read n; contents = all; flags = 0 }) (read-again n all h.0 h.1)
    ∙ ap (λ x. Some (record { «end» = ends.Read n; contents = all; flags = x })) (sym h.2)
end_of-again (ends.Part n made cause) all flags h =
    ap end_of (part-words n made flags cause) ∙ part-end _ (ends.Part n made cause, flags) (part-again n made flags cause h.0 h.1 h.2)
    ∙ ap (λ x. Some (record { «end» = ends.Part n made cause; contents = x; flags = flags })) (sym h.3)
end_of-again (ends.Wrote n) all flags h = plain-again (ends.Wrote n) all flags h
end_of-again (ends.Recovered n closed lost) all flags h = plain-again (ends.Recovered n closed lost) all flags h
end_of-again ends.Lost all flags h = plain-again ends.Lost all flags h
end_of-again ends.Fitted all flags h = plain-again ends.Fitted all flags h
end_of-again ends.Rebuilt all flags h = plain-again ends.Rebuilt all flags h
end_of-again (ends.Gave tries cause) all flags h = plain-again (ends.Gave tries cause) all flags h
end_of-again (ends.StillMissing bay) all flags h = plain-again (ends.StillMissing bay) all flags h
end_of-again (ends.NotLost bay) all flags h = plain-again (ends.NotLost bay) all flags h
end_of-again (ends.NotFitted bay) all flags h = plain-again (ends.NotFitted bay) all flags h
end_of-again ends.NoObject all flags h = plain-again ends.NoObject all flags h
end_of-again (ends.PastEnd n) all flags h = plain-again (ends.PastEnd n) all flags h
end_of-again (ends.TooManyRows n) all flags h = plain-again (ends.TooManyRows n) all flags h

plain-is : (how : JobEnd) → IsPlain how → IsEnd how [] 0
plain-is (ends.Read n) h = absurd h
plain-is (ends.Part n made cause) h = absurd h
plain-is (ends.Wrote n) h = (h, refl, refl)
plain-is (ends.Recovered n closed lost) h = (h, refl, refl)
plain-is ends.Lost h = (h, refl, refl)
plain-is ends.Fitted h = (h, refl, refl)
plain-is ends.Rebuilt h = (h, refl, refl)
plain-is (ends.Gave tries cause) h = (h, refl, refl)
plain-is (ends.StillMissing bay) h = (h, refl, refl)
plain-is (ends.NotLost bay) h = (h, refl, refl)
plain-is (ends.NotFitted bay) h = (h, refl, refl)
plain-is ends.NoObject h = (h, refl, refl)
plain-is (ends.PastEnd n) h = (h, refl, refl)
plain-is (ends.TooManyRows n) h = (h, refl, refl)

part-takes : (text : List ℕ) (found : JobEnd × ℕ) → part_of text ≡ Some found → SpellsEnd text (ending found.0 found.1)
unfolding part_of
part-takes text found e =
    let words = bound (behind (codes "part ") text) _ found e in
    let number = bound (number_before 1 (2 ^ 62 - 1) words.0) _ found words.2 in
    let digits = bound (first_word number.0.1) _ found number.2 in
    let made = bound (flags_of digits.0.0) _ found digits.2 in
    let cause = bound (cause_of digits.0.1) _ found made.2 in
    let n : Number = record { 0 = number.0.0 } in
    let same : (ends.Part n made.0 cause.0, length digits.0.0) ≡ found = same-some (ends.Part n made.0 cause.0, length digits.0.0) found cause.2 in
    let before = number_before-takes 1 (2 ^ 62 - 1) number.0.0 words.0 number.0.1 (lit< tt) number.1 in
    let flags = flags_of-takes digits.0.0 made.0 made.1 in
    let why = cause_of-takes digits.0.1 cause.0 cause.1 in
    let text_is : text ≡ glued (end_words (ends.Part n made.0 cause.0) [] (length digits.0.0)) =
    behind-takes (codes "part ") text words.0 words.1 ∙ ap (λ x. codes "part " ++ x) (before.text_is ∙ ap (λ x. decimal number.0.0 ++ 32 ∷ x) (first_word-takes number.0.1 digits.0.0 digits.0.1 digits.1 ∙ ap (λ x. x ++ 32 ∷ digits.0.1) flags.text_is ∙ ap (λ x. flags_text made.0 (length digits.0.0) ++ 32 ∷ x) why.1))
    ∙ sym (part-words n made.0 (length digits.0.0) cause.0) in
    subst (λ (f : JobEnd × ℕ). SpellsEnd text (ending f.0 f.1)) same ((before.range, flags.range, why.0, refl), text_is)

read-takes : (text : List ℕ) (found : EndingOf) → read_of text ≡ Some found → SpellsEnd text found
unfolding read_of read_head
read-takes text found e =
    let head = bound (option_and_then (number_before 1 (2 ^ 62 - 1)) (behind (codes "read ") text)) _ found e in
    let words = bound (behind (codes "read ") text) (number_before 1 (2 ^ 62 - 1)) head.0 head.1 in
    let all = bound (contents_of head.0.1) _ found head.2 in
    let n : Number = record { 0 = head.0.0 } in
    let made : EndingOf = record { «end» = ends.Read n; contents = all.0; flags = 0 } in
    let same : made ≡ found = same-some made found all.2 in
    let before = number_before-takes 1 (2 ^ 62 - 1) head.0.0 words.0 head.0.1 (lit< tt) words.2 in
    let reads = contents_of-takes head.0.1 all.0 all.1 in
    let text_is : text ≡ glued (end_words (ends.Read n) all.0 0) =
    behind-takes (codes "read ") text words.0 words.1 ∙ ap (λ x. codes "read " ++ x) (before.text_is ∙ ap (λ x. decimal head.0.0 ++ 32 ∷ x) reads.text_is) ∙ sym (read-words n all.0 reads.range.some) in
    subst (SpellsEnd text) same ((before.range, reads.range, refl), text_is)

pub end_of-takes : (text : List ℕ) (found : EndingOf) → end_of text ≡ Some found → SpellsEnd text found
unfolding end_of
end_of-takes text found e =
    let P = SpellsEnd text in
    alt (P found) _ _ found e (λ q. leaf P (plain_end text) (λ how. ending how 0) found q (λ how r. let plain = plain_end-takes text how r in (plain-is how plain.0, plain.1))) λ f.
    alt (P found) _ _ found f (λ q. leaf P (part_of text) (λ (x : JobEnd × ℕ). ending x.0 x.1) found q (λ x r. part-takes text x r)) (read-takes text found)
