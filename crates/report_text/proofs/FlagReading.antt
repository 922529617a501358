-- Flags and what they are read as.
use Rattle.std.proofs.Common.{◌≡◌, ℕ, zero, suc, ◌+◌, ◌-◌, ◌*◌, ◌/◌, ◌%◌, ◌^◌, ◌<◌, ◌≤◌, Bool, true, false, cond, eqb, leb, ◌&&◌, ◌||◌, List, [], ◌∷◌, ◌++◌, take, drop, length, get_or, map, Option, Some, None, refl, sym, ap, ◌∙◌, arith, lit<}
use Rattle.std.specs.Prelude.{bit_and}
use Rattle.std.specs.List.{list_all, range_with_len}
use Rattle.std.proofs.Math.ListN.{drop_of_length-le}
use Rattle.std.proofs.Math.Nat.{pow-le-pow_right}
use Rattle.std.proofs.lemmas.Nat.{pow-add, and_mask, shr-shr}
use Rattle.std.proofs.lemmas.List.{at_drop_more, length-drop}
use Rattle.std.proofs.lemmas.Bool.{and_parts, and_from, le-leb, leb-true, eqb-true, eqb-false}
use Rattle.std.proofs.lemmas.Bool.Decides.{nat_tests}
use Rattle.std.proofs.lemmas.List.FromFn.{length-map-range_with_len}
use Rattle.raid_base.specs.Cells.{has_unit}
use Rattle.report_text.specs.Report.{flag, flags_text}
use Rattle.report_text.specs.Ranges.{AreFlags}
use Rattle.report_text.specs.Reading.{bit_of, made_of, is_flag, flags_of}
use Rattle.report_text.proofs.ContentReading.{taken}

bit_le : (b : Bool) → cond b 1 0 ≤ 1
bit_le true = omega arith
bit_le false = omega arith

pub bit-small : (bit digit : ℕ) → bit ≡ bit_of digit → bit ≤ 1
bit-small bit digit e = let small = bit_le (eqb digit 49) in omega arith

pub made-bit : (made bit later digit : ℕ) → bit ≡ bit_of digit → later ≡ 2 * made + bit → later ≡ 2 * made + bit_of digit
made-bit made bit later digit b e = e ∙ ap (λ x. 2 * made + x) b

pub made_of-end : (digits : List ℕ) → made_of (drop (length digits) digits) ≡ 0
unfolding made_of
made_of-end digits = ap made_of (drop_of_length-le digits {i = length digits} (omega arith))

pub made_of-more : (digits : List ℕ) (i : ℕ) → i < length digits → made_of (drop i digits) ≡ 2 * made_of (drop (i + 1) digits) + bit_of (get_or digits i 0)
unfolding made_of
made_of-more digits i h = at_drop_more made_of digits i 0 h

pub made_of-bound : (digits : List ℕ) → made_of digits < 2 ^ length digits
unfolding made_of
made_of-bound [] = lit< tt
made_of-bound (digit ∷ digits) =
    let below = made_of-bound digits in
    let bit = bit_le (eqb digit 49) in
    let power : 2 ^ (length digits + 1) ≡ 2 ^ length digits * 2 ^ 1 = pow-add 2 (length digits) 1 in
    let same : 2 ^ suc (length digits) ≡ 2 ^ (length digits + 1) = ap (λ n. 2 ^ n) (let e : suc (length digits) ≡ length digits + 1 = omega arith in e) in
    omega arith

pub made-small : (digits : List ℕ) (i made : ℕ) → length digits ≤ 120 → made ≡ made_of (drop i digits) → made < 2 ^ 120
made-small digits i made h e =
    let below = made_of-bound (drop i digits) in
    let most : 2 ^ length (drop i digits) ≤ 2 ^ 120 = pow-le-pow_right (let two : 0 < 2 = omega arith in two) {i = length (drop i digits)} {j = 120} (omega (arith, length-drop i digits)) in
    omega arith

pub made-step : (digits : List ℕ) (left now made later : ℕ) → left ≤ length digits → 0 < left → now ≡ left - 1 → made ≡ made_of (drop left digits) → later ≡ 2 * made + bit_of (get_or digits now 0) → later ≡ made_of (drop now digits)
made-step digits left now made later l p n m e =
    let next : left ≡ now + 1 = omega arith in
    e ∙ ap (λ x. 2 * x + bit_of (get_or digits now 0)) (m ∙ ap (λ k. made_of (drop k digits)) next) ∙ sym (made_of-more digits now (omega arith))

-- the flags of a number, one by one
flag-cases : (b c : Bool) → eqb (cond b 49 48) 49 ≡ c → b ≡ c
flag-cases true true e = refl
flag-cases true false e = e
flag-cases false true e = e
flag-cases false false e = refl

shifted : (f g : ℕ → ℕ) (a n : ℕ) → ((i : ℕ) → f (i + 1) ≡ g i) → map f (range_with_len (a + 1) n) ≡ map g (range_with_len a n)
shifted f g a zero same = refl
shifted f g a (suc n) same = ap (λ x. x ∷ map f (range_with_len (a + 1 + 1) n)) (same a) ∙ ap (λ xs. g a ∷ xs) (shifted f g (a + 1) n same)

lowest : (m : ℕ) → bit_and (m / 2 ^ 0) 1 ≡ m % 2
lowest m =
    let one : m / 2 ^ 0 ≡ m = omega arith in
    ap (λ x. bit_and x 1) one ∙ and_mask m 1

flag-half : (m i : ℕ) → flag m (i + 1) ≡ flag (m / 2) i
flag-half m i =
    let at : i + 1 ≡ 1 + i = omega arith in
    let halves : m / 2 ^ (i + 1) ≡ m / 2 / 2 ^ i = ap (λ k. m / 2 ^ k) at ∙ sym (shr-shr m 1 i) in
    ap (λ x. cond (eqb (bit_and x 1) 1) 49 48) halves

flags-cons : (m n : ℕ) → flags_text m (suc n) ≡ flag m 0 ∷ flags_text (m / 2) n
flags-cons m n = ap (λ xs. flag m 0 ∷ xs) (shifted (flag m) (flag (m / 2)) 0 n (flag-half m))

bit-of : (r : ℕ) (b : Bool) → r < 2 → eqb r 1 ≡ b → bit_of (cond b 49 48) ≡ r
bit-of r true h e = sym (eqb-true r 1 e)
bit-of r false h e = let other : r ≡ 1 → ⊥ = eqb-false r 1 e in omega arith

bit-flag : (m : ℕ) → bit_of (flag m 0) ≡ m % 2
bit-flag m = bit-of (bit_and (m / 2 ^ 0) 1) (eqb (bit_and (m / 2 ^ 0) 1) 1) (let low = lowest m in omega arith) refl ∙ lowest m

pub made_of-flags : (n m : ℕ) → m < 2 ^ n → made_of (flags_text m n) ≡ m
unfolding made_of
made_of-flags zero m h = omega arith
made_of-flags (suc n) m h =
    let power : 2 ^ (n + 1) ≡ 2 ^ n * 2 ^ 1 = pow-add 2 n 1 in
    let same : 2 ^ suc n ≡ 2 ^ (n + 1) = ap (λ k. 2 ^ k) (let e : suc n ≡ n + 1 = omega arith in e) in
    let half : m / 2 < 2 ^ n = omega arith in
    let rest = made_of-flags n (m / 2) half in
    ap made_of (flags-cons m n) ∙ ap (λ x. 2 * x + bit_of (flag m 0)) rest ∙ ap (λ x. 2 * (m / 2) + x) (bit-flag m) ∙ (let e : 2 * (m / 2) + m % 2 ≡ m = omega arith in e)

-- digits are the flags of the number that they name
flag-digit : (digit : ℕ) (b : Bool) → (eqb digit 48 || eqb digit 49) ≡ true → eqb digit 49 ≡ b → cond (eqb (cond b 1 0) 1) 49 48 ≡ digit
flag-digit digit true h e = sym (eqb-true digit 49 e)
flag-digit digit false h e = let other : digit ≡ 49 → ⊥ = eqb-false digit 49 e in grind (arith, nat_tests)

bit-below : (b : Bool) → cond b 1 0 < 2
bit-below true = omega arith
bit-below false = omega arith

pub flags-made_of : (digits : List ℕ) → list_all is_flag digits ≡ true → flags_text (made_of digits) (length digits) ≡ digits
unfolding made_of
flags-made_of [] h = refl
flags-made_of (digit ∷ digits) h =
    let parts = and_parts (is_flag digit) (list_all is_flag digits) h in
    let high = made_of digits in
    let bit = bit_of digit in
    let below : bit < 2 = bit-below (eqb digit 49) in
    let m = 2 * high + bit in
    let half : m / 2 ≡ high = omega arith in
    let low : m % 2 ≡ bit = omega arith in
    flags-cons m (length digits)
    ∙ ap (λ x. cond (eqb x 1) 49 48 ∷ flags_text (m / 2) (length digits)) (lowest m ∙ low)
    ∙ ap (λ x. x ∷ flags_text (m / 2) (length digits)) (flag-digit digit (eqb digit 49) parts.0 refl)
    ∙ ap (λ x. digit ∷ flags_text x (length digits)) half
    ∙ ap (λ xs. digit ∷ xs) (flags-made_of digits parts.1)

flag-either : (p : ℕ → Bool) (b : Bool) → p 49 ≡ true → p 48 ≡ true → p (cond b 49 48) ≡ true
flag-either p true one none = one
flag-either p false one none = none

pub flags-all : (p : ℕ → Bool) (m a n : ℕ) → p 49 ≡ true → p 48 ≡ true → list_all p (map (flag m) (range_with_len a n)) ≡ true
flags-all p m a zero one none = refl
flags-all p m a (suc n) one none = and_from (p (flag m a)) (list_all p (map (flag m) (range_with_len (a + 1) n))) (flag-either p (has_unit m a) one none) (flags-all p m (a + 1) n one none)

pub length-flags : (m n : ℕ) → length (flags_text m n) ≡ n
length-flags m n = length-map-range_with_len (flag m) 0 n

pub flags_of-again : (m n : ℕ) → AreFlags m n → flags_of (flags_text m n) ≡ Some m
unfolding flags_of
flags_of-again m n h =
    let digits = flags_text m n in
    let len : length digits ≡ n = length-flags m n in
    let some = h.some in
    let few = h.few in
    let tests : ((leb 1 (length digits) && leb (length digits) 120) && list_all is_flag digits) ≡ true =
    and_from (leb 1 (length digits) && leb (length digits) 120) (list_all is_flag digits) (and_from (leb 1 (length digits)) (leb (length digits) 120) (le-leb 1 (length digits) (omega arith)) (le-leb (length digits) 120 (omega arith))) (flags-all is_flag m 0 n refl refl) in
    ap (λ t. cond t (Some (made_of digits)) None) tests ∙ ap (λ x. Some x) (made_of-flags n m h.within)

pub record ReadsFlags (digits : List ℕ) (m : ℕ) : Type 0 where
  pub range : AreFlags m (length digits)
  pub text_is : digits ≡ flags_text m (length digits)

pub flags_of-takes : (digits : List ℕ) (m : ℕ) → flags_of digits ≡ Some m → ReadsFlags digits m
unfolding flags_of
flags_of-takes digits m e =
    let both = taken ((leb 1 (length digits) && leb (length digits) 120) && list_all is_flag digits) (made_of digits) m e in
    let parts = and_parts (leb 1 (length digits) && leb (length digits) 120) (list_all is_flag digits) both.0 in
    let sizes = and_parts (leb 1 (length digits)) (leb (length digits) 120) parts.0 in
    let below = made_of-bound digits in
    let same : made_of digits ≡ m = both.1 in
    record {
      range = record { some = leb-true 1 (length digits) sizes.0; few = leb-true (length digits) 120 sizes.1; within = omega arith };
      text_is = sym (flags-made_of digits parts.1) ∙ ap (λ x. flags_text x (length digits)) same;
    }
