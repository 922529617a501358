-- The words of a text, one after another, and the numbers and blocks that they are.
use Rattle.std.proofs.Common.{◌≡◌, ℕ, ◌+◌, ◌-◌, ◌*◌, ◌^◌, ◌<◌, ◌≤◌, ◌⊎◌, inl, inr, min, Bool, true, false, ◌&&◌, cond, eqb, List, [], ◌∷◌, ◌++◌, length, take, drop, map, replicate, get_or, zero, suc, Option, Some, None, Result, Ok, Err, refl, sym, ap, ◌∙◌, arith, subst, lit<}
use Rattle.std.specs.Prelude.{◌↔◌, IsSome, IfSome, IfNone, is_some}
use Rattle.std.specs.List.{All, list_all, slice_split, count_by}
use Rattle.std.specs.Borrow.{Bor}
use Rattle.std.proofs.lemmas.Bool.{and_parts, and_from, cases_Bool, eqb-true, eq-eqb, cond-true, cond-false, ne_eqb, false_from_ne_true, cases_eq, cases_lt, cond_both}
use Rattle.std.proofs.lemmas.List.{take-append-drop, drop_more, take_rest, take_all, length-replicate, get_or-replicate, get_or_past}
use Rattle.std.proofs.lemmas.List.Splits.{slice_split_at, slice_split_none, length-slice_split}
use Rattle.std.proofs.lemmas.Slice.Eq.{bytes_eq-Decides}
use Rattle.hex.specs.Hex.{decode_of, encode_lower, lower_digits, IsBytes}
use Rattle.hex.specs.declared.error.FromHexError.{FromHexError}
use Rattle.hex.proofs.HexLemmas.{decode_of-encode_lower, decode_of-ok}
use Rattle.raid_base.specs.Names.{is_text}
use Rattle.text_lines.specs.Blocks.{IsBlock, are_equal, block_text}
use Rattle.text_lines.specs.Numbers.{IsNumber, is_number, number_of}
use Rattle.text_lines.proofs.BlockLemmas.{text_equal, text_other, length_equal, length_other, equal_bytes}
use Rattle.script_text.specs.Forms.{block_of, bytes_of, is_block, number, only_number, value, words, words_behind}

-- the first word ends at the first space
pub words-at : (text : List ℕ) (i : ℕ) → i < length text → All (λ (byte : ℕ). eqb byte 32 ≡ false) (take i text) → get_or text i 0 ≡ 32 → words text ≡ take i text ∷ words (take (length text - (i + 1)) (drop (i + 1) text))
words-at text i l none is =
    let p : ℕ → Bool = λ byte. eqb byte 32 in
    ap words (sym (take-append-drop i text) ∙ ap (λ t. take i text ++ t) (drop_more text i 0 l))
    ∙ slice_split_at p (take i text) (get_or text i 0) (drop (i + 1) text) none (eq-eqb _ _ is)
    ∙ ap (λ t. take i text ∷ words t) (sym (take_rest text (i + 1)))

pub words-one : (text : List ℕ) (i : ℕ) → length text ≤ i → All (λ (byte : ℕ). eqb byte 32 ≡ false) (take i text) → words text ≡ text ∷ []
words-one text i l none =
    let p : ℕ → Bool = λ byte. eqb byte 32 in
    let whole : take i text ≡ text = take_all i text l in
    let P : List ℕ → Type 0 = All (λ (byte : ℕ). eqb byte 32 ≡ false) in
    slice_split_none p text (subst P whole none)

-- what is read as a number
pub number-read : (r : Option ℕ) (text : List ℕ) → IsSome r ↔ IsNumber text → IfSome r (λ n. n ≡ min (number_of text) (2 ^ 64 - 1)) → r ≡ number text
number-read None text some is = sym (cond-false (is_number text) _ _ (false_from_ne_true _ (λ e. cc (some.1 e))))
number-read (Some n) text some is = ap Some is ∙ sym (cond-true (is_number text) _ _ (some.0 refl))

bytes-IsBytes : (word : List ℕ) (r : Result (List ℕ) FromHexError) → decode_of word ≡ r → IsBytes (bytes_of r)
bytes-IsBytes word (Ok bytes) e = (decode_of-ok word bytes e).3
bytes-IsBytes word (Err fault) e = λ k. lit< tt

byte-replicate : (byte k : ℕ) → byte < 256 → get_or (replicate 64 byte) k 0 < 256
byte-replicate byte k l = elim (cases_lt k 64) [ inl h ↦ subst (λ (n : ℕ). n < 256) (sym (get_or-replicate 64 k byte 0 h)) l | inr h ↦ subst (λ (n : ℕ). n < 256) (sym (get_or_past (replicate 64 byte) k 0 (omega (arith, length-replicate 64 byte)))) (lit< tt) ]

block-bytes : (word : List ℕ) (k : ℕ) → get_or (block_of word) k 0 < 256
block-bytes word k =
    let bytes = bytes-IsBytes word (decode_of word) refl in
    cond_both (eqb (length word) 2) _ _ (λ (b : List ℕ). get_or b k 0 < 256) (λ e. byte-replicate _ k (bytes 0)) (λ e. bytes k)

-- a word that is a block is that block's text
pub block-of-word : (word : List ℕ) → is_block word ≡ true → IsBlock (block_of word) × (word ≡ block_text (block_of word))
block-of-word word h =
    let parts = and_parts _ _ h in
    (record { size = eqb-true _ _ parts.0; bytes = block-bytes word }, sym ((bytes_eq-Decides (block_text (block_of word)) word).0 parts.1))

block-is : (word block : List ℕ) (equal : Bool) → are_equal block ≡ equal → IsBlock block → word ≡ block_text block → block_of word ≡ block
block-is word block true e b is =
    let single : IsBytes (get_or block 0 0 ∷ []) = λ k. elim k as (λ n. get_or (get_or block 0 0 ∷ []) n 0 < 256) [ zero ↦ b.bytes 0 | suc n ↦ lit< tt ] in
    let short : eqb (length word) 2 ≡ true = eq-eqb _ _ (ap length is ∙ length_equal block b e) in
    let decoded : decode_of word ≡ Ok (get_or block 0 0 ∷ []) = ap decode_of (is ∙ text_equal block b e) ∙ decode_of-encode_lower _ single in
    cond-true _ _ _ short ∙ ap (λ (r : Result (List ℕ) FromHexError). replicate 64 (get_or (bytes_of r) 0 0)) decoded ∙ equal_bytes block 64 b.size e
block-is word block false e b is =
    let long : eqb (length word) 2 ≡ false = ne_eqb _ _ (λ l. absurd (omega (arith, ap length is ∙ length_other block b e))) in
    let decoded : decode_of word ≡ Ok block = ap decode_of (is ∙ text_other block e) ∙ decode_of-encode_lower _ b.bytes in
    cond-false _ _ _ long ∙ ap bytes_of decoded

-- a block's text is a word that is this block
pub block-right : (word block : List ℕ) → IsBlock block → word ≡ block_text block → (is_block word ≡ true) × (block_of word ≡ block)
block-right word block b is =
    let same : block_of word ≡ block = block-is word block _ refl b is in
    (and_from _ _ (eq-eqb _ _ (ap length same ∙ b.size)) ((bytes_eq-Decides (block_text (block_of word)) word).1 (ap block_text same ∙ sym is)), same)

-- what is read as a block
pub block-read : (r : Option (List ℕ)) (word : List ℕ) → IfSome r IsBlock → IfSome r (λ block. word ≡ block_text block) → ((block : List ℕ) → IsBlock block → word ≡ block_text block → r ≡ Some block) → (IsSome r ↔ (is_block word ≡ true)) × IfSome r (λ block. block ≡ block_of word)
block-read None word b is of = ((λ e. absurd (cc e), λ e. let w = block-of-word word e in absurd (cc (of (block_of word) w.0 w.1))), tt)
block-read (Some block) word b is of = let right = block-right word block b is in ((λ e. right.0, λ e. refl), sym right.1)

pub words-some : (text : List ℕ) → 0 < length (words text)
words-some text = omega (arith, length-slice_split (λ (byte : ℕ). eqb byte 32) text)

pub only-more : (word : List ℕ) (more : List (List ℕ)) → 0 < length more → only_number (word ∷ more) ≡ None
only-more word [] l = absurd (omega arith)
only-more word (next ∷ more) l = refl

-- the words behind a word, where there are some
pub behind-is : (rest behind : Option (Bor (List ℕ))) (text word : Bor (List ℕ)) → rest ≡ Some text → words text.now ≡ word.now ∷ words_behind behind → words_behind rest ≡ word.now ∷ words_behind behind
behind-is rest behind text word r w = ap words_behind r ∙ w

pub only-none : (rest behind : Option (Bor (List ℕ))) (text word more : Bor (List ℕ)) → rest ≡ Some text → words text.now ≡ word.now ∷ words_behind behind → behind ≡ Some more → only_number (words_behind rest) ≡ None
only-none rest behind text word more r w b =
    ap only_number (behind-is rest behind text word r w) ∙ ap (λ x. only_number (word.now ∷ words_behind x)) b ∙ only-more word.now (words more.now) (words-some more.now)

pub only-one : (rest behind : Option (Bor (List ℕ))) (text word : Bor (List ℕ)) (r : Option ℕ) → rest ≡ Some text → words text.now ≡ word.now ∷ words_behind behind → behind ≡ None → r ≡ number word.now → r ≡ only_number (words_behind rest)
only-one rest behind text word r e w b n =
    n ∙ sym (ap only_number (behind-is rest behind text word e w) ∙ ap (λ x. only_number (word.now ∷ words_behind x)) b)

-- two words, and what stands behind them
pub two-behind : (rest b c : Option (Bor (List ℕ))) (t w u v x : Bor (List ℕ)) → rest ≡ Some t → words t.now ≡ w.now ∷ words_behind b → b ≡ Some u → words u.now ≡ v.now ∷ words_behind c → c ≡ Some x → words_behind rest ≡ w.now ∷ v.now ∷ words x.now
two-behind rest b c t w u v x r tw bu uv cx =
    ap words_behind r ∙ tw ∙ ap (λ y. w.now ∷ words_behind y) bu ∙ ap (λ y. w.now ∷ y) uv ∙ ap (λ y. w.now ∷ v.now ∷ words_behind y) cx

pub two-words : (rest b c : Option (Bor (List ℕ))) (t w u v : Bor (List ℕ)) → rest ≡ Some t → words t.now ≡ w.now ∷ words_behind b → b ≡ Some u → words u.now ≡ v.now ∷ words_behind c → words_behind rest ≡ w.now ∷ v.now ∷ words_behind c
two-words rest b c t w u v r tw bu uv = ap words_behind r ∙ tw ∙ ap (λ y. w.now ∷ words_behind y) bu ∙ ap (λ y. w.now ∷ y) uv

-- what is read as no number is none
pub not-number : (text : List ℕ) (r : Option ℕ) → r ≡ None → IsSome r ↔ IsNumber text → is_number text ≡ false
not-number text None e some = false_from_ne_true _ (λ h. cc (some.1 h))
not-number text (Some n) e some = cc e

pub is-number : (text : List ℕ) (r : Option ℕ) (n : ℕ) → r ≡ Some n → IsSome r ↔ IsNumber text → is_number text ≡ true
is-number text None n e some = cc e
is-number text (Some m) n e some = some.0 refl
