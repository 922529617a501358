-- Blocks and their text.
use Rattle.std.proofs.Common.{◌≡◌, ℕ, zero, suc, ◌*◌, ◌<◌, Bool, true, false, List, [], ◌∷◌, length, take, replicate, get_or, eqb, sym, ◌∙◌, ap, refl, arith, Option, Some, Result, Ok, Err, lit<, subst}
use Rattle.std.specs.Prelude.{MatchResult}
use Rattle.std.specs.List.{AllPass}
use Rattle.hex.specs.Hex.{encode_lower, lower_digits, decode_of, decode_sized, IsBytes}
use Rattle.hex.specs.declared.error.FromHexError.{FromHexError}
use Rattle.hex.proofs.HexLemmas.{decode_of-same, decode_of-encode_lower, decode_sized-encode_lower, length-encode_with}
use Rattle.std.proofs.lemmas.Bool.{eqb-true}
use Rattle.std.proofs.lemmas.List.Sums.{AllPass-from_list_all}
use Rattle.std.proofs.lemmas.List.{same_lists, get_or-replicate, length-replicate}
use Rattle.text_lines.specs.Blocks.{IsBlock, are_equal, block_text}

-- what decoding the digits of these bytes answers
pub record Decodes (r : Result (Unit {0}) FromHexError) (out bytes : List ℕ) : Type 0 where
  pub done : r ≡ Ok tt
  pub out_is : out ≡ bytes

decodes : (d : Result (List ℕ) FromHexError) (r : Result (Unit {0}) FromHexError) (out bytes : List ℕ) → MatchResult d (λ b. (r ≡ Ok tt) × (out ≡ b)) (λ e. r ≡ Err e) → d ≡ Ok bytes → Decodes r out bytes
decodes (Ok b) r out bytes h e = record { done = h.0; out_is = let same : b ≡ bytes = cc in h.1 ∙ same }
decodes (Err x) r out bytes h e = absurd (cc e)

-- digits that decode to bytes as many as there is room for
pub decoded : (text bytes : List ℕ) (n : ℕ) (r : Result (Unit {0}) FromHexError) (out : List ℕ) → MatchResult (decode_sized text n) (λ b. (r ≡ Ok tt) × (out ≡ b)) (λ e. r ≡ Err e) → length bytes ≡ n → IsBytes bytes → text ≡ encode_lower bytes → Decodes r out bytes
decoded text bytes n r out h size are is = decodes _ r out bytes h (ap (λ t. decode_sized t n) is ∙ decode_sized-encode_lower bytes n size are)

-- one byte
single : (byte : ℕ) → byte < 256 → IsBytes (byte ∷ [])
single byte l zero = l
single byte l (suc i) = lit< tt

pub decoded_byte : (text : List ℕ) (byte : ℕ) (r : Result (Unit {0}) FromHexError) (out : List ℕ) → MatchResult (decode_sized text 1) (λ b. (r ≡ Ok tt) × (out ≡ b)) (λ e. r ≡ Err e) → byte < 256 → text ≡ encode_lower (byte ∷ []) → Decodes r out (byte ∷ [])
decoded_byte text byte r out h l is = decoded text (byte ∷ []) 1 r out h refl (single byte l) is

-- equal bytes are so many of the first
first_byte : (block : List ℕ) → 0 < length block → take 1 block ≡ get_or block 0 0 ∷ []
first_byte [] l = absurd (omega arith)
first_byte (byte ∷ bytes) l = refl

pub equal_bytes : (block : List ℕ) (n : ℕ) → length block ≡ n → are_equal block ≡ true → replicate n (get_or block 0 0) ≡ block
equal_bytes block n size h =
    let first = get_or block 0 0 in
    let all : AllPass (λ byte. eqb byte first) block = AllPass-from_list_all (λ byte. eqb byte first) block h in
    same_lists (replicate n first) block (length-replicate n first ∙ sym size) (λ k d l. let below : k < n = subst (λ m. k < m) (length-replicate n first) l in get_or-replicate n k first d below ∙ sym (eqb-true _ _ (all k d (omega arith))))

-- which form a block's text has
pub text_equal : (block : List ℕ) → IsBlock block → are_equal block ≡ true → block_text block ≡ encode_lower (get_or block 0 0 ∷ [])
text_equal block b h = rw h (ap encode_lower (first_byte block (omega (arith, b.size))))

pub text_other : (block : List ℕ) → are_equal block ≡ false → block_text block ≡ encode_lower block
text_other block h = rw h refl

pub length_equal : (block : List ℕ) → IsBlock block → are_equal block ≡ true → length (block_text block) ≡ 2
length_equal block b h = ap length (text_equal block b h) ∙ length-encode_with lower_digits _

pub length_other : (block : List ℕ) → IsBlock block → are_equal block ≡ false → length (block_text block) ≡ 128
length_other block b h = ap length (text_other block h) ∙ length-encode_with lower_digits block ∙ ap (λ n. 2 * n) b.size

-- two digits tell the block, where it has such a text
pub candidate_short : (text block : List ℕ) (r : Option (List ℕ)) (equal : Bool) → are_equal block ≡ equal → length text ≡ 2 → ((byte : ℕ) → byte < 256 → text ≡ encode_lower (byte ∷ []) → r ≡ Some (replicate 64 byte)) → IsBlock block → text ≡ block_text block → r ≡ Some block
candidate_short text block r true e l reads b is = reads (get_or block 0 0) (b.bytes 0) (is ∙ text_equal block b e) ∙ ap Some (equal_bytes block 64 b.size e)
candidate_short text block r false e l reads b is = absurd (let other = length_other block b e in omega (arith, ap length is))

pub candidate_long : (text block : List ℕ) (r : Option (List ℕ)) (equal : Bool) → are_equal block ≡ equal → (length text ≡ 2 → ⊥) → (IsBlock block → text ≡ encode_lower block → r ≡ Some block) → IsBlock block → text ≡ block_text block → r ≡ Some block
candidate_long text block r true e l reads b is = absurd (l (ap length is ∙ length_equal block b e))
candidate_long text block r false e l reads b is = reads b (is ∙ text_other block e)

-- no two blocks have one text
same_encoded : (xs ys : List ℕ) → IsBytes xs → IsBytes ys → encode_lower xs ≡ encode_lower ys → xs ≡ ys
same_encoded xs ys bx by e = decode_of-same (encode_lower xs) xs ys (decode_of-encode_lower xs bx) (ap decode_of e ∙ decode_of-encode_lower ys by)

one_text : (a b : List ℕ) (x y : Bool) → are_equal a ≡ x → are_equal b ≡ y → IsBlock a → IsBlock b → block_text a ≡ block_text b → a ≡ b
one_text a b true true x y ia ib e =
    let first : get_or a 0 0 ∷ [] ≡ get_or b 0 0 ∷ [] = same_encoded _ _ (single _ (ia.bytes 0)) (single _ (ib.bytes 0)) (sym (text_equal a ia x) ∙ e ∙ text_equal b ib y) in
    let one : get_or a 0 0 ≡ get_or b 0 0 = cc in
    sym (equal_bytes a 64 ia.size x) ∙ ap (λ byte. replicate 64 byte) one ∙ equal_bytes b 64 ib.size y
one_text a b true false x y ia ib e = absurd (let short = length_equal a ia x in let long = length_other b ib y in omega (arith, ap length e))
one_text a b false true x y ia ib e = absurd (let short = length_equal b ib y in let long = length_other a ia x in omega (arith, ap length e))
one_text a b false false x y ia ib e = same_encoded a b ia.bytes ib.bytes (sym (text_other a x) ∙ e ∙ text_other b y)

pub block_text_injective : (a b : List ℕ) → IsBlock a → IsBlock b → block_text a ≡ block_text b → a ≡ b
block_text_injective a b ia ib e = one_text a b _ _ refl refl ia ib e
