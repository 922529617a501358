-- Texts and what they begin with.
use Rattle.std.proofs.Common.{Bool, ◌∷◌, [], arith, suc, ◌^◌, ◌/◌, ◌%◌, ◌≤◌, not, ◌&&◌, leb, ◌⊎◌, inl, inr, add-one, append_assoc, decimal}
use Rattle.std.specs.List.{list_all, position_or_len, before_first, after_first}
use Rattle.std.proofs.lemmas.Bool.{and_parts, cases_lt}
use Rattle.std.proofs.lemmas.Bool.Decides.{nat_tests}
use Rattle.std.proofs.lemmas.List.{length_push, get_or_past}
use Rattle.std.proofs.lemmas.List.Sums.{AllPass-from_list_all}
use Rattle.std.proofs.lemmas.Fmt.{digits_decimal}
use Rattle.hex.specs.Hex.{encode_lower, encode_with, lower_digits}
use Rattle.raid_base.specs.Names.{IsNameText, is_digit, is_letter, is_name_byte}
use Rattle.text_lines.specs.Blocks.{are_equal, block_text}
use Rattle.text_lines.specs.Lines.{is_separator}
use Rattle.text_lines.proofs.NumberLemmas.{numerals}
use Rattle.std.proofs.Common.{◌≡◌, ℕ, ◌+◌, ◌<◌, true, false, List, ◌++◌, length, take, drop, get_or, eqb, sym, ◌∙◌, ap, refl}
use Rattle.std.specs.Prelude.{◌↔◌}
use Rattle.std.specs.Cmp.Lexicographic.{pointwise}
use Rattle.std.proofs.lemmas.Slice.Eq.{bytes_eq-Decides}
use Rattle.std.proofs.lemmas.List.{take_at, drop_at, take-append-drop, at_drop_more}
use Rattle.std.specs.List.{flat_map}
use Rattle.std.specs.Borrow.{Bor}

-- a text that begins with a piece goes on as what stands behind it
pub behind_piece : (rest piece behind more : List ℕ) → pointwise eqb (take (length piece) rest) piece ≡ true → behind ≡ drop (length piece) rest → (rest ≡ piece ++ more) ↔ (behind ≡ more)
behind_piece rest piece behind more h b =
    let front : take (length piece) rest ≡ piece = (bytes_eq-Decides (take (length piece) rest) piece).0 h in
    (λ e. b ∙ ap (drop (length piece)) e ∙ drop_at piece more (length piece) refl, λ e. sym (take-append-drop (length piece) rest) ∙ ap (λ f. f ++ drop (length piece) rest) front ∙ ap (λ t. piece ++ t) (sym b ∙ e))

-- and another does not
pub other_piece : (rest piece more : List ℕ) → pointwise eqb (take (length piece) rest) piece ≡ false → rest ≡ piece ++ more → ⊥
other_piece rest piece more h e =
    let front : take (length piece) rest ≡ piece = ap (take (length piece)) e ∙ take_at piece more (length piece) refl in
    let is : pointwise eqb (take (length piece) rest) piece ≡ true = (bytes_eq-Decides (take (length piece) rest) piece).1 front in
    absurd (cc (h, is))

-- pieces joined
abbrev pub pieces_text : List (Bor (List ℕ)) → List ℕ
pieces_text pieces = flat_map (λ (piece : Bor (List ℕ)). piece.now) pieces

next_piece : (pieces : List (Bor (List ℕ))) (i : ℕ) (d : Bor (List ℕ)) → i < length pieces → pieces_text (drop i pieces) ≡ (get_or pieces i d).now ++ pieces_text (drop (i + 1) pieces)
next_piece pieces i d l = at_drop_more pieces_text pieces i d l

pub piece_more : (P : Type 0) (pieces : List (Bor (List ℕ))) (i : ℕ) (d : Bor (List ℕ)) (rest behind : List ℕ) → i < length pieces → pointwise eqb (take (length (get_or pieces i d).now) rest) (get_or pieces i d).now ≡ true → behind ≡ drop (length (get_or pieces i d).now) rest → P ↔ (rest ≡ pieces_text (drop i pieces)) → P ↔ (behind ≡ pieces_text (drop (i + 1) pieces))
piece_more P pieces i d rest behind l h b so =
    let step = behind_piece rest (get_or pieces i d).now behind (pieces_text (drop (i + 1) pieces)) h b in
    let next = next_piece pieces i d l in
    (λ p. step.0 (so.0 p ∙ next), λ e. so.1 (step.1 e ∙ sym next))

pub piece_none : (P : Type 0) (pieces : List (Bor (List ℕ))) (i : ℕ) (d : Bor (List ℕ)) (rest : List ℕ) → i < length pieces → pointwise eqb (take (length (get_or pieces i d).now) rest) (get_or pieces i d).now ≡ false → P ↔ (rest ≡ pieces_text (drop i pieces)) → P → ⊥
piece_none P pieces i d rest l h so p = other_piece rest (get_or pieces i d).now (pieces_text (drop (i + 1) pieces)) h (so.0 p ∙ next_piece pieces i d l)

-- a word holds no separator
abbrev pub is_word_byte : ℕ → Bool
is_word_byte byte = not (is_separator byte)

abbrev pub IsWord : List ℕ → Type 0
IsWord word = list_all is_word_byte word ≡ true

pub word_length : (word : List ℕ) (separator : ℕ) (rest : List ℕ) → IsWord word → is_separator separator ≡ true → position_or_len is_separator (word ++ separator ∷ rest) ≡ length word
word_length [] separator rest h s = rw s refl
word_length (x ∷ xs) separator rest h s =
    let parts = and_parts (is_word_byte x) (list_all is_word_byte xs) h in
    rw parts.0 (let step : 1 + position_or_len is_separator (xs ++ separator ∷ rest) ≡ suc (length xs) = omega (arith, word_length xs separator rest parts.1 s) in step)

-- the word at the front of a text, and what stands behind it
pub front_word : (word : List ℕ) (separator : ℕ) (rest : List ℕ) → IsWord word → is_separator separator ≡ true → before_first is_separator (word ++ separator ∷ rest) ≡ word
front_word word separator rest h s = ap (λ n. take n (word ++ separator ∷ rest)) (word_length word separator rest h s) ∙ take_at word (separator ∷ rest) (length word) refl

pub after_word : (word : List ℕ) (separator : ℕ) (rest : List ℕ) → IsWord word → is_separator separator ≡ true → after_first is_separator (word ++ separator ∷ rest) ≡ rest
after_word word separator rest h s =
    let length_is = word_length word separator rest h s in
    ap (λ n. drop (n + 1) (word ++ separator ∷ rest)) length_is ∙ rw (add-one) (ap (drop (suc (length word))) (sym (append_assoc word (separator ∷ []) rest)) ∙ drop_at (word ++ separator ∷ []) rest (suc (length word)) (omega (arith, length_push word separator)))

-- numbers, names and blocks are words
more_words : (p : ℕ → Bool) → ((byte : ℕ) → p byte ≡ true → is_word_byte byte ≡ true) → (word : List ℕ) → list_all p word ≡ true → IsWord word
more_words p more [] h = refl
more_words p more (x ∷ xs) h =
    let parts = and_parts (p x) (list_all p xs) h in
    rw (more x parts.0) (more_words p more xs parts.1)

digit_word : (byte : ℕ) → is_digit byte ≡ true → is_word_byte byte ≡ true
digit_word byte h = grind (arith, nat_tests)

name_word : (byte : ℕ) → is_name_byte byte ≡ true → is_word_byte byte ≡ true
name_word byte h = grind (arith, nat_tests)

pub IsWord-decimal : (n : ℕ) → n < 2 ^ 64 → IsWord (decimal n)
IsWord-decimal n l = more_words is_digit digit_word (decimal n) (digits_decimal numerals n l)

pub IsWord-name : (name : List ℕ) → IsNameText name → IsWord name
IsWord-name name h = more_words is_name_byte name_word name (and_parts (leb 1 (length name) && leb (length name) 16 && is_letter (get_or name 0 0)) (list_all is_name_byte name) h).1

hex_word : (k : ℕ) → is_word_byte (get_or lower_digits k 0) ≡ true
hex_word k = hex_word_in k (cases_lt k 16) where
  hex_word_in : (k : ℕ) → (k < 16) ⊎ (16 ≤ k) → is_word_byte (get_or lower_digits k 0) ≡ true
  hex_word_in k (inl l) = AllPass-from_list_all is_word_byte lower_digits refl k 0 l
  hex_word_in k (inr m) = rw (get_or_past lower_digits k 0 m) refl

pub IsWord-encode : (bytes : List ℕ) → IsWord (encode_lower bytes)
unfolding encode_with
IsWord-encode [] = refl
IsWord-encode (byte ∷ bytes) = rw (hex_word (byte / 16), hex_word (byte % 16)) (IsWord-encode bytes)

block_word : (block : List ℕ) (equal : Bool) → are_equal block ≡ equal → IsWord (block_text block)
block_word block true e = rw e (IsWord-encode (take 1 block))
block_word block false e = rw e (IsWord-encode block)

pub IsWord-block : (block : List ℕ) → IsWord (block_text block)
IsWord-block block = block_word block _ refl
