-- Blocks and contents: what is spelled so is read, and what is read is spelled so.
use Rattle.std.proofs.Common.{◌≡◌, ℕ, zero, suc, ◌+◌, ◌*◌, ◌<◌, ◌≤◌, Bool, true, false, cond, eqb, ltb, leb, ◌&&◌, List, [], ◌∷◌, ◌++◌, map, length, get_or, replicate, Option, Some, None, Result, Ok, option_map, refl, sym, ap, ◌∙◌, arith, lit<, append_assoc, append-nil, length-append}
use Rattle.std.specs.Prelude.{option_and_then, codes, IfSome, All}
use Rattle.std.specs.Result.{result_ok}
use Rattle.std.specs.List.{list_all, flat_map}
use Rattle.std.proofs.lemmas.Bool.{and_parts, and_from, eqb-true, eq-eqb, ne_eqb, lt-ltb, ltb-true, le-leb, leb-true}
use Rattle.std.proofs.lemmas.Slice.Eq.{bytes_eq-Decides}
use Rattle.hex.specs.Hex.{encode_lower, decode_sized, IsBytes}
use Rattle.hex.specs.declared.error.FromHexError.{FromHexError}
use Rattle.hex.proofs.HexLemmas.{decode_sized-encode_lower}
use Rattle.raid_base.specs.Names.{is_text}
use Rattle.raid_base.specs.declared.cells.Content.{Content}
use Rattle.raid_base.specs.declared.cells.Content.TheVariants as contents
use Rattle.raid_base.specs.declared.cells.Shown.{Shown}
use Rattle.raid_base.specs.declared.cells.Shown.TheVariants.{Seen, Hidden}
use Rattle.text_lines.specs.Blocks.{IsBlock, are_equal, block_text}
use Rattle.text_lines.specs.Lines.{joined, spaced}
use Rattle.text_lines.proofs.BlockLemmas.{equal_bytes, text_equal, text_other, length_equal, length_other}
use Rattle.text_lines.proofs.WordLemmas.{IsWord, IsWord-block}
use Rattle.report_text.specs.Report.{content_text, shown_text}
use Rattle.report_text.specs.Ranges.{IsContent, IsShown, AreContents}
use Rattle.report_text.specs.Reading.{candidate, block_of, content_of, shown_of, words_of, onto, all_contents, contents_of, first_word}
use Rattle.report_text.proofs.ReadingWords.{same-some, never-some, bound, mapped, first_word-takes, first_word-again, first_word-last}

-- tests of texts
pub is_text-same : (x y : List ℕ) → x ≡ y → is_text x y ≡ true
is_text-same x y e = (bytes_eq-Decides x y).1 e

pub is_text-takes : (x y : List ℕ) → is_text x y ≡ true → x ≡ y
is_text-takes x y e = (bytes_eq-Decides x y).0 e

other-at : (b : Bool) → (b ≡ true → ⊥) → b ≡ false
other-at true h = absurd (h refl)
other-at false h = refl

pub is_text-other : (x y : List ℕ) → (x ≡ y → ⊥) → is_text x y ≡ false
is_text-other x y h = other-at (is_text x y) (λ e. h (is_text-takes x y e))

pub taken : {X : Type 0} (b : Bool) (x y : X) → cond b (Some x) None ≡ Some y → (b ≡ true) × (x ≡ y)
taken true x y e = (refl, same-some x y e)
taken false x y e = never-some y ((false ≡ true) × (x ≡ y)) e

-- bytes
all-bytes : (xs : List ℕ) → ((k : ℕ) → get_or xs k 0 < 256) → list_all (λ byte. ltb byte 256) xs ≡ true
all-bytes [] h = refl
all-bytes (x ∷ xs) h = and_from (ltb x 256) (list_all (λ byte. ltb byte 256) xs) (lt-ltb x 256 (h zero)) (all-bytes xs (λ k. h (suc k)))

bytes-all : (xs : List ℕ) → list_all (λ byte. ltb byte 256) xs ≡ true → (k : ℕ) → get_or xs k 0 < 256
bytes-all [] h k = lit< tt
bytes-all (x ∷ xs) h zero = ltb-true x 256 (and_parts (ltb x 256) (list_all (λ byte. ltb byte 256) xs) h).0
bytes-all (x ∷ xs) h (suc k) = bytes-all xs (and_parts (ltb x 256) (list_all (λ byte. ltb byte 256) xs) h).1 k

one-byte : (byte : ℕ) → byte < 256 → IsBytes (byte ∷ [])
one-byte byte l zero = l
one-byte byte l (suc i) = lit< tt

candidate-at : (block : List ℕ) (equal : Bool) → are_equal block ≡ equal → IsBlock block → candidate (block_text block) ≡ Some block
unfolding candidate
candidate-at block true e b =
    let text = block_text block in
    let byte = get_or block 0 0 in
    let pair : decode_sized text 1 ≡ Ok (byte ∷ []) = ap (λ x. decode_sized x 1) (text_equal block b e) ∙ decode_sized-encode_lower (byte ∷ []) 1 refl (one-byte byte (b.bytes 0)) in
    ap (λ t. cond t (option_map (λ (bytes : List ℕ). replicate 64 (get_or bytes 0 0)) (result_ok (decode_sized text 1))) (result_ok (decode_sized text 64))) (eq-eqb (length text) 2 (length_equal block b e))
    ∙ ap (λ r. option_map (λ (bytes : List ℕ). replicate 64 (get_or bytes 0 0)) (result_ok r)) pair
    ∙ ap (λ x. Some x) (equal_bytes block 64 b.size e)
candidate-at block false e b =
    let text = block_text block in
    let long = length_other block b e in
    let all : decode_sized text 64 ≡ Ok block = ap (λ x. decode_sized x 64) (text_other block e) ∙ decode_sized-encode_lower block 64 b.size b.bytes in
    ap (λ t. cond t (option_map (λ (bytes : List ℕ). replicate 64 (get_or bytes 0 0)) (result_ok (decode_sized text 1))) (result_ok (decode_sized text 64))) (ne_eqb (length text) 2 (λ q. omega arith))
    ∙ ap result_ok all

pub block_of-again : (block : List ℕ) → IsBlock block → block_of (block_text block) ≡ Some block
unfolding block_of
block_of-again block b =
    let text = block_text block in
    let tests : ((eqb (length block) 64 && list_all (λ byte. ltb byte 256) block) && is_text text (block_text block)) ≡ true =
    and_from (eqb (length block) 64 && list_all (λ byte. ltb byte 256) block) (is_text text (block_text block)) (and_from (eqb (length block) 64) (list_all (λ byte. ltb byte 256) block) (eq-eqb (length block) 64 b.size) (all-bytes block b.bytes)) (is_text-same text (block_text block) refl) in
    ap (option_and_then (λ (x : List ℕ). cond ((eqb (length x) 64 && list_all (λ byte. ltb byte 256) x) && is_text text (block_text x)) (Some x) None)) (candidate-at block (are_equal block) refl b)
    ∙ ap (λ t. cond t (Some block) None) tests

pub block_of-takes : (text block : List ℕ) → block_of text ≡ Some block → IsBlock block × (text ≡ block_text block)
unfolding block_of
block_of-takes text block e =
    let found = bound (candidate text) (λ (x : List ℕ). cond ((eqb (length x) 64 && list_all (λ byte. ltb byte 256) x) && is_text text (block_text x)) (Some x) None) block e in
    let x = found.0 in
    let both = taken ((eqb (length x) 64 && list_all (λ byte. ltb byte 256) x) && is_text text (block_text x)) x block found.2 in
    let parts = and_parts (eqb (length x) 64 && list_all (λ byte. ltb byte 256) x) (is_text text (block_text x)) both.0 in
    let sizes = and_parts (eqb (length x) 64) (list_all (λ byte. ltb byte 256) x) parts.0 in
    let size : length block ≡ 64 = sym (ap length both.1) ∙ eqb-true (length x) 64 sizes.0 in
    let all : list_all (λ byte. ltb byte 256) block ≡ true = ap (list_all (λ byte. ltb byte 256)) (sym both.1) ∙ sizes.1 in
    (record { size = size; bytes = bytes-all block all }, is_text-takes text (block_text x) parts.1 ∙ ap block_text both.1)

same-read-at : (r found : Option (List ℕ)) (text : List ℕ) → block_of text ≡ found → IfSome r IsBlock → IfSome r (λ block. text ≡ block_text block) → ((block : List ℕ) → IsBlock block → text ≡ block_text block → r ≡ Some block) → r ≡ found
same-read-at None None text e b t of = refl
same-read-at None (Some x) text e b t of = let is = block_of-takes text x e in of x is.0 is.1
same-read-at (Some x) found text e b t of = sym (sym e ∙ ap block_of t ∙ block_of-again x b)

-- a reader that is exact reads what block_of says
pub same-read : (r : Option (List ℕ)) (text : List ℕ) → IfSome r IsBlock → IfSome r (λ block. text ≡ block_text block) → ((block : List ℕ) → IsBlock block → text ≡ block_text block → r ≡ Some block) → r ≡ block_of text
same-read r text b t of = same-read-at r (block_of text) text refl b t of

-- a block's text has 2 or 128 digits
block-length : (block : List ℕ) (equal : Bool) (n : ℕ) → are_equal block ≡ equal → IsBlock block → (n ≡ 2 → ⊥) → (n ≡ 128 → ⊥) → length (block_text block) ≡ n → ⊥
block-length block true n e b two long h = two (sym h ∙ length_equal block b e)
block-length block false n e b two long h = long (sym h ∙ length_other block b e)

pub content_of-again : (content : Content) → IsContent content → content_of (content_text content) ≡ Some content
unfolding content_of
content_of-again contents.Lost h = refl
content_of-again (contents.Bytes block) h =
    let text = block_text block in
    let other = is_text-other text (codes "lost") (λ e. block-length block (are_equal block) 4 refl h (λ q. omega arith) (λ q. omega arith) (ap length e)) in
    ap (λ t. cond t (Some contents.Lost) (option_map contents.Bytes (block_of text))) other ∙ ap (option_map contents.Bytes) (block_of-again block h)

content-step : (word : List ℕ) (content : Content) (b : Bool) (found : Option (List ℕ)) → is_text word (codes "lost") ≡ b → block_of word ≡ found → cond b (Some contents.Lost) (option_map contents.Bytes found) ≡ Some content → IsContent content × (word ≡ content_text content)
content-step word contents.Lost true found t e is = (tt, is_text-takes word (codes "lost") t)
content-step word (contents.Bytes block) true found t e is = cc
content-step word content false None t e is = never-some content (IsContent content × (word ≡ content_text content)) is
content-step word contents.Lost false (Some block) t e is = cc
content-step word (contents.Bytes block) false (Some x) t e is =
    let same : x ≡ block = cc in
    block_of-takes word block (e ∙ ap (λ y. Some y) same)

pub content_of-takes : (word : List ℕ) (content : Content) → content_of word ≡ Some content → IsContent content × (word ≡ content_text content)
unfolding content_of
content_of-takes word content e = content-step word content (is_text word (codes "lost")) (block_of word) refl refl e

pub shown_of-again : (shown : Shown) → IsShown shown → shown_of (shown_text shown) ≡ Some shown
unfolding shown_of
shown_of-again Hidden h = refl
shown_of-again (Seen contents.Lost) h = ap (option_map Seen) (content_of-again contents.Lost h)
shown_of-again (Seen (contents.Bytes block)) h =
    let text = block_text block in
    let other = is_text-other text (codes "hidden") (λ e. block-length block (are_equal block) 6 refl h (λ q. omega arith) (λ q. omega arith) (ap length e)) in
    ap (λ t. cond t (Some Hidden) (option_map Seen (content_of text))) other ∙ ap (option_map Seen) (content_of-again (contents.Bytes block) h)

shown-step : (word : List ℕ) (shown : Shown) (b : Bool) (found : Option Content) → is_text word (codes "hidden") ≡ b → content_of word ≡ found → cond b (Some Hidden) (option_map Seen found) ≡ Some shown → IsShown shown × (word ≡ shown_text shown)
shown-step word Hidden true found t e is = (tt, is_text-takes word (codes "hidden") t)
shown-step word (Seen content) true found t e is = cc
shown-step word shown false None t e is = never-some shown (IsShown shown × (word ≡ shown_text shown)) is
shown-step word Hidden false (Some content) t e is = cc
shown-step word (Seen content) false (Some x) t e is =
    let same : x ≡ content = cc in
    content_of-takes word content (e ∙ ap (λ y. Some y) same)

pub shown_of-takes : (word : List ℕ) (shown : Shown) → shown_of word ≡ Some shown → IsShown shown × (word ≡ shown_text shown)
unfolding shown_of
shown_of-takes word shown e = shown-step word shown (is_text word (codes "hidden")) (content_of word) refl refl e

-- the words of a text
words-step : (byte : ℕ) (bytes word rest : List ℕ) (b : Bool) (found : Option (List ℕ × List ℕ)) → first_word bytes ≡ found → ((w r : List ℕ) → first_word bytes ≡ Some (w, r) → words_of bytes ≡ w ∷ words_of r)
    → cond {A = Option (List ℕ × List ℕ)} b (Some ([], bytes)) (option_map (λ parts. (byte ∷ parts.0, parts.1)) found) ≡ Some (word, rest) → cond b ([] ∷ words_of bytes) (onto byte (words_of bytes)) ≡ word ∷ words_of rest
words-step byte bytes word rest true found f so e =
    let same = same-some ([], bytes) (word, rest) e in
    let nothing : [] ≡ word = ap (λ (p : List ℕ × List ℕ). p.0) same in
    let left : bytes ≡ rest = ap (λ (p : List ℕ × List ℕ). p.1) same in
    ap (λ x. x ∷ words_of bytes) nothing ∙ ap (λ x. word ∷ words_of x) left
words-step byte bytes word rest false None f so e = never-some (word, rest) (onto byte (words_of bytes) ≡ word ∷ words_of rest) e
words-step byte bytes word rest false (Some (w, r)) f so e =
    let same = same-some (byte ∷ w, r) (word, rest) e in
    let front : byte ∷ w ≡ word = ap (λ (p : List ℕ × List ℕ). p.0) same in
    let left : r ≡ rest = ap (λ (p : List ℕ × List ℕ). p.1) same in
    ap (onto byte) (so w r f) ∙ ap (λ x. x ∷ words_of r) front ∙ ap (λ x. word ∷ words_of x) left

pub words_of-word : (text word rest : List ℕ) → first_word text ≡ Some (word, rest) → words_of text ≡ word ∷ words_of rest
unfolding first_word words_of
words_of-word [] word rest e = never-some (word, rest) (words_of [] ≡ word ∷ words_of rest) e
words_of-word (byte ∷ bytes) word rest e = words-step byte bytes word rest (eqb byte 32) (first_word bytes) refl (λ w r q. words_of-word bytes w r q) e

last-step : (byte : ℕ) (bytes : List ℕ) (b : Bool) (found : Option (List ℕ × List ℕ)) → first_word bytes ≡ found → ((let none : Option (List ℕ × List ℕ) = None in first_word bytes ≡ none) → words_of bytes ≡ bytes ∷ [])
    → cond {A = Option (List ℕ × List ℕ)} b (Some ([], bytes)) (option_map (λ parts. (byte ∷ parts.0, parts.1)) found) ≡ None → cond b ([] ∷ words_of bytes) (onto byte (words_of bytes)) ≡ (byte ∷ bytes) ∷ []
last-step byte bytes true found f so e = absurd (cc e)
last-step byte bytes false None f so e = ap (onto byte) (so f)
last-step byte bytes false (Some (w, r)) f so e = absurd (cc e)

pub words_of-last : (text : List ℕ) → first_word text ≡ None → words_of text ≡ text ∷ []
unfolding first_word words_of
words_of-last [] e = refl
words_of-last (byte ∷ bytes) e = last-step byte bytes (eqb byte 32) (first_word bytes) refl (λ q. words_of-last bytes q) e

-- contents behind others that were read
abbrev pub with_front : List Content → Option (List Content) → Option (List Content)
with_front front found = option_map (λ more. front ++ more) found

all-cons : (front more : List Content) (content : Content) (found : Option (List Content)) → more ≡ front ++ content ∷ [] → with_front more found ≡ with_front front (option_and_then (λ (all : List Content). Some (content ∷ all)) found)
all-cons front more content None e = refl
all-cons front more content (Some all) e = ap (λ x. Some (x ++ all)) e ∙ ap (λ x. Some x) (append_assoc front (content ∷ []) all)

all-first : (word : List ℕ) (words : List (List ℕ)) (content : Content) → content_of word ≡ Some content → all_contents (word ∷ words) ≡ option_and_then (λ (all : List Content). Some (content ∷ all)) (all_contents words)
unfolding all_contents
all-first word words content e = ap (option_and_then (λ (c : Content). option_and_then (λ (all : List Content). Some (c ∷ all)) (all_contents words))) e

all-none : (word : List ℕ) (words : List (List ℕ)) → content_of word ≡ None → all_contents (word ∷ words) ≡ None
unfolding all_contents
all-none word words e = ap (option_and_then (λ (c : Content). option_and_then (λ (all : List Content). Some (c ∷ all)) (all_contents words))) e

pub contents-turn : (whole : Option (List Content)) (left word rest : List ℕ) (front more : List Content) (content : Content) → with_front front (all_contents (words_of left)) ≡ whole → first_word left ≡ Some (word, rest) → Some content ≡ content_of word → more ≡ front ++ content ∷ [] → with_front more (all_contents (words_of rest)) ≡ whole
contents-turn whole left word rest front more content so f c e =
    all-cons front more content (all_contents (words_of rest)) e ∙ ap (with_front front) (sym (all-first word (words_of rest) content (sym c))) ∙ ap (λ x. with_front front (all_contents x)) (sym (words_of-word left word rest f)) ∙ so

pub contents-stop : (whole : Option (List Content)) (left word rest : List ℕ) (front : List Content) → with_front front (all_contents (words_of left)) ≡ whole → first_word left ≡ Some (word, rest) → (let none : Option Content = None in none ≡ content_of word) → whole ≡ None
contents-stop whole left word rest front so f c = sym so ∙ ap (λ x. with_front front (all_contents x)) (words_of-word left word rest f) ∙ ap (with_front front) (all-none word (words_of rest) (sym c))

pub contents-end : (whole : Option (List Content)) (left : List ℕ) (front more : List Content) (content : Content) → with_front front (all_contents (words_of left)) ≡ whole → first_word left ≡ None → Some content ≡ content_of left → more ≡ front ++ content ∷ [] → whole ≡ Some more
unfolding all_contents
contents-end whole left front more content so f c e =
    sym so ∙ ap (λ x. with_front front (all_contents x)) (words_of-last left f) ∙ ap (with_front front) (all-first left [] content (sym c)) ∙ ap (λ x. Some x) (sym e)

pub contents-none : (whole : Option (List Content)) (left : List ℕ) (front : List Content) → with_front front (all_contents (words_of left)) ≡ whole → first_word left ≡ None → (let none : Option Content = None in none ≡ content_of left) → whole ≡ None
contents-none whole left front so f c = sym so ∙ ap (λ x. with_front front (all_contents x)) (words_of-last left f) ∙ ap (with_front front) (all-none left [] (sym c))

pub counted-none : (text : List ℕ) → all_contents (words_of text) ≡ None → contents_of text ≡ None
unfolding contents_of
counted-none text e = ap (option_and_then (λ (all : List Content). cond (leb (length all) 120) (Some all) None)) e

pub counted : (text : List ℕ) (all : List Content) (b : Bool) → all_contents (words_of text) ≡ Some all → leb (length all) 120 ≡ b → contents_of text ≡ cond b (Some all) None
unfolding contents_of
counted text all b e t = ap (option_and_then (λ (xs : List Content). cond (leb (length xs) 120) (Some xs) None)) e ∙ ap (λ x. cond x (Some all) None) t

pub with_front-nil : (found : Option (List Content)) → with_front [] found ≡ found
with_front-nil None = refl
with_front-nil (Some all) = refl

pub shorter : (text word rest : List ℕ) → first_word text ≡ Some (word, rest) → length rest < length text
shorter text word rest e = let is = ap length (first_word-takes text word rest e) in omega (arith, length-append word (32 ∷ rest))
