-- Words and numbers, read from the left: what is spelled so is read, and what is read is spelled so.
use Rattle.std.proofs.Common.{◌≡◌, ◌≢◌, ℕ, zero, suc, ◌+◌, ◌-◌, ◌^◌, ◌<◌, ◌≤◌, Bool, true, false, cond, eqb, leb, not, ◌&&◌, ◌||◌, List, [], ◌∷◌, ◌++◌, take, drop, length, get_or, Option, Some, None, option_map, refl, sym, ap, ◌∙◌, arith, decimal, take-append-drop}
use Rattle.std.specs.Prelude.{option_and_then}
use Rattle.std.specs.Option.{option_or}
use Rattle.std.proofs.lemmas.Bool.{and_parts, and_from, eqb-true, ne_eqb, eq-eqb, le-leb, leb-true}
use Rattle.std.proofs.lemmas.Bool.Decides.{nat_tests}
use Rattle.std.proofs.lemmas.List.{take_at, drop_at}
use Rattle.std.proofs.lemmas.Slice.Eq.{bytes_eq-Decides}
use Rattle.std.specs.List.{list_all}
use Rattle.raid_base.specs.Names.{is_text}
use Rattle.text_lines.specs.Numbers.{is_number, number_of}
use Rattle.text_lines.proofs.NumberLemmas.{is_number-decimal, number_of-decimal, decimal-number_of}
use Rattle.text_lines.proofs.WordLemmas.{IsWord, is_word_byte, IsWord-decimal}
use Rattle.report_text.specs.Ranges.{IsWithin}
use Rattle.report_text.specs.Reading.{behind, first_word, number_within, number_before, number_behind, pair_behind}

pub same-some : {X : Type 0} (x y : X) → Some x ≡ Some y → x ≡ y
same-some x y e = cc

pub never-some : {X : Type 0} (x : X) (P : Type 0) → (let none : Option X = None in none ≡ Some x) → P
never-some x P e = absurd (cc e)

pub bound : {A B : Type 0} (o : Option A) (f : A → Option B) (y : B) → option_and_then f o ≡ Some y → (x : A) × (o ≡ Some x) × (f x ≡ Some y)
bound {A} {B} None f y e = never-some y ((x : A) × (let none : Option A = None in none ≡ Some x) × (f x ≡ Some y)) e
bound (Some x) f y e = (x, refl, e)

pub mapped : {A B : Type 0} (o : Option A) (f : A → B) (y : B) → option_map f o ≡ Some y → (x : A) × (o ≡ Some x) × (f x ≡ y)
mapped {A} {B} None f y e = never-some y ((x : A) × (let none : Option A = None in none ≡ Some x) × (f x ≡ y)) e
mapped (Some x) f y e = (x, refl, same-some (f x) y e)

-- the word before the first space
pub first_word-found : (text : List ℕ) (i : ℕ) → ((k : ℕ) → k < i → get_or text k 0 ≢ 32) → i < length text → get_or text i 0 ≡ 32 → first_word text ≡ Some (take i text, drop (suc i) text)
unfolding first_word
first_word-found [] i before l is = absurd (omega arith)
first_word-found (byte ∷ bytes) zero before l is = rw (eq-eqb byte 32 is) refl
first_word-found (byte ∷ bytes) (suc i) before l is =
    let other : eqb byte 32 ≡ false = ne_eqb byte 32 (before zero (omega arith)) in
    let rest = first_word-found bytes i (λ k h. before (suc k) (omega arith)) (omega arith) is in
    rw (other, rest) refl

pub first_word-none : (text : List ℕ) → ((k : ℕ) → k < length text → get_or text k 0 ≢ 32) → first_word text ≡ None
unfolding first_word
first_word-none [] before = refl
first_word-none (byte ∷ bytes) before =
    let other : eqb byte 32 ≡ false = ne_eqb byte 32 (before zero (omega arith)) in
    let rest = first_word-none bytes (λ k h. before (suc k) (omega arith)) in
    rw (other, rest) refl

word_other : (byte : ℕ) → is_word_byte byte ≡ true → eqb byte 32 ≡ false
word_other byte h = grind (arith, nat_tests)

pub first_word-again : (word rest : List ℕ) → IsWord word → first_word (word ++ 32 ∷ rest) ≡ Some (word, rest)
unfolding first_word
first_word-again [] rest h = refl
first_word-again (byte ∷ bytes) rest h =
    let parts = and_parts (is_word_byte byte) (list_all is_word_byte bytes) h in
    rw (word_other byte parts.0, first_word-again bytes rest parts.1) refl

-- a text without a space has no first word
pub first_word-last : (word : List ℕ) → IsWord word → first_word word ≡ None
unfolding first_word
first_word-last [] h = refl
first_word-last (byte ∷ bytes) h =
    let parts = and_parts (is_word_byte byte) (list_all is_word_byte bytes) h in
    rw (word_other byte parts.0, first_word-last bytes parts.1) refl

first_word-step : (byte : ℕ) (bytes word rest : List ℕ) (test : Bool) (found : Option (List ℕ × List ℕ)) → eqb byte 32 ≡ test → ((w r : List ℕ) → found ≡ Some (w, r) → bytes ≡ w ++ 32 ∷ r)
    → cond {A = Option (List ℕ × List ℕ)} test (Some ([], bytes)) (option_map (λ parts. (byte ∷ parts.0, parts.1)) found) ≡ Some (word, rest) → byte ∷ bytes ≡ word ++ 32 ∷ rest
first_word-step byte bytes word rest true found is so e =
    let same = same-some ([], bytes) (word, rest) e in
    let nothing : [] ≡ word = ap (λ (p : List ℕ × List ℕ). p.0) same in
    let left : bytes ≡ rest = ap (λ (p : List ℕ × List ℕ). p.1) same in
    ap (λ x. x ∷ bytes) (eqb-true byte 32 is) ∙ ap (λ x. 32 ∷ x) left ∙ ap (λ x. x ++ 32 ∷ rest) nothing
first_word-step byte bytes word rest false None is so e = never-some (word, rest) (byte ∷ bytes ≡ word ++ 32 ∷ rest) e
first_word-step byte bytes word rest false (Some (w, r)) is so e =
    let same = same-some (byte ∷ w, r) (word, rest) e in
    let front : byte ∷ w ≡ word = ap (λ (p : List ℕ × List ℕ). p.0) same in
    let left : r ≡ rest = ap (λ (p : List ℕ × List ℕ). p.1) same in
    ap (λ x. byte ∷ x) (so w r refl) ∙ ap (λ x. x ++ 32 ∷ r) front ∙ ap (λ x. word ++ 32 ∷ x) left

pub first_word-takes : (text word rest : List ℕ) → first_word text ≡ Some (word, rest) → text ≡ word ++ 32 ∷ rest
unfolding first_word
first_word-takes [] word rest e = never-some (word, rest) ([] ≡ word ++ 32 ∷ rest) e
first_word-takes (byte ∷ bytes) word rest e = first_word-step byte bytes word rest (eqb byte 32) (first_word bytes) refl (λ w r q. first_word-takes bytes w r q) e

-- what stands behind a piece
pub behind-again : (piece rest : List ℕ) → behind piece (piece ++ rest) ≡ Some rest
unfolding behind
behind-again piece rest =
    let is : is_text (take (length piece) (piece ++ rest)) piece ≡ true = (bytes_eq-Decides (take (length piece) (piece ++ rest)) piece).1 (take_at piece rest (length piece) refl) in
    ap (λ b. cond b (Some (drop (length piece) (piece ++ rest))) None) is ∙ ap (λ x. Some x) (drop_at piece rest (length piece) refl)

chosen : {X : Type 0} (b : Bool) (x y : X) → cond b (Some x) None ≡ Some y → (b ≡ true) × (x ≡ y)
chosen true x y e = (refl, same-some x y e)
chosen false x y e = never-some y ((false ≡ true) × (x ≡ y)) e

pub behind-takes : (piece text rest : List ℕ) → behind piece text ≡ Some rest → text ≡ piece ++ rest
unfolding behind
behind-takes piece text rest e =
    let both = chosen (is_text (take (length piece) text) piece) (drop (length piece) text) rest e in
    let front : take (length piece) text ≡ piece = (bytes_eq-Decides (take (length piece) text) piece).0 both.0 in
    sym (take-append-drop (length piece) text) ∙ ap (λ x. x ++ drop (length piece) text) front ∙ ap (λ x. piece ++ x) both.1

within : (b : Bool) (least most v n : ℕ) → b ≡ true → v ≡ n → least ≤ n → n ≤ most → cond (b && (leb least v && leb v most)) (Some v) None ≡ Some n
within b least most v n is e low high =
    let tests : (b && (leb least v && leb v most)) ≡ true = and_from b (leb least v && leb v most) is (and_from (leb least v) (leb v most) (le-leb least v (omega arith)) (le-leb v most (omega arith))) in
    ap (λ t. cond t (Some v) None) tests ∙ ap (λ x. Some x) e

record Within (b : Bool) (least most v n : ℕ) : Type 0 where
  is : b ≡ true
  same : v ≡ n
  range : IsWithin least most n

within-takes : (b : Bool) (least most v n : ℕ) → cond (b && (leb least v && leb v most)) (Some v) None ≡ Some n → Within b least most v n
within-takes b least most v n e =
    let both = chosen (b && (leb least v && leb v most)) v n e in
    let parts = and_parts b (leb least v && leb v most) both.0 in
    let tests = and_parts (leb least v) (leb v most) parts.1 in
    let low = leb-true least v tests.0 in
    let high = leb-true v most tests.1 in
    let same : v ≡ n = both.1 in
    record { is = parts.0; same = same; range = record { low = omega arith; high = omega arith } }

pub number_within-again : (least most n : ℕ) → most < 2 ^ 64 → IsWithin least most n → number_within least most (decimal n) ≡ Some n
unfolding number_within
number_within-again least most n h r =
    let small : n < 2 ^ 64 = omega (arith, r.high) in
    within (is_number (decimal n)) least most (number_of (decimal n)) n (is_number-decimal n small) (number_of-decimal n small) r.low r.high

pub record ReadsNumber (least most n : ℕ) (text : List ℕ) : Type 0 where
  pub range : IsWithin least most n
  pub text_is : text ≡ decimal n

pub number_within-takes : (least most n : ℕ) (text : List ℕ) → most < 2 ^ 64 → number_within least most text ≡ Some n → ReadsNumber least most n text
unfolding number_within
number_within-takes least most n text h e =
    let w = within-takes (is_number text) least most (number_of text) n e in
    let high = w.range.high in
    let same = w.same in
    record { range = w.range; text_is = decimal-number_of text w.is (omega arith) ∙ ap decimal w.same }

-- a number before a space
pub number_before-again : (least most n : ℕ) (rest : List ℕ) → most < 2 ^ 64 → IsWithin least most n → number_before least most (decimal n ++ 32 ∷ rest) ≡ Some (n, rest)
unfolding number_before
number_before-again least most n rest h r =
    let small : n < 2 ^ 64 = omega (arith, r.high) in
    ap (option_and_then (λ (parts : List ℕ × List ℕ). option_and_then (λ (number : ℕ). Some (number, parts.1)) (number_within least most parts.0))) (first_word-again (decimal n) rest (IsWord-decimal n small))
    ∙ ap (option_and_then (λ (number : ℕ). Some (number, rest))) (number_within-again least most n h r)

pub record ReadsBefore (least most n : ℕ) (text rest : List ℕ) : Type 0 where
  pub range : IsWithin least most n
  pub text_is : text ≡ decimal n ++ 32 ∷ rest

pub number_before-takes : (least most n : ℕ) (text rest : List ℕ) → most < 2 ^ 64 → number_before least most text ≡ Some (n, rest) → ReadsBefore least most n text rest
unfolding number_before
number_before-takes least most n text rest h e =
    let parts = bound (first_word text) (λ (parts : List ℕ × List ℕ). option_and_then (λ (number : ℕ). Some (number, parts.1)) (number_within least most parts.0)) (n, rest) e in
    let number = bound (number_within least most parts.0.0) (λ (number : ℕ). Some (number, parts.0.1)) (n, rest) parts.2 in
    let same = same-some (number.0, parts.0.1) (n, rest) number.2 in
    let n_same : number.0 ≡ n = ap (λ (p : ℕ × List ℕ). p.0) same in
    let rest_same : parts.0.1 ≡ rest = ap (λ (p : ℕ × List ℕ). p.1) same in
    let reads = number_within-takes least most n parts.0.0 h (number.1 ∙ ap (λ x. Some x) n_same) in
    record {
      range = reads.range;
      text_is = first_word-takes text parts.0.0 parts.0.1 parts.1 ∙ ap (λ x. x ++ 32 ∷ parts.0.1) reads.text_is ∙ ap (λ x. decimal n ++ 32 ∷ x) rest_same;
    }

-- a number behind a piece
pub number_behind-again : (piece : List ℕ) (least most n : ℕ) → most < 2 ^ 64 → IsWithin least most n → number_behind piece least most (piece ++ decimal n) ≡ Some n
unfolding number_behind
number_behind-again piece least most n h r = ap (option_and_then (number_within least most)) (behind-again piece (decimal n)) ∙ number_within-again least most n h r

pub number_behind-takes : (piece : List ℕ) (least most n : ℕ) (text : List ℕ) → most < 2 ^ 64 → number_behind piece least most text ≡ Some n → IsWithin least most n × (text ≡ piece ++ decimal n)
unfolding number_behind
number_behind-takes piece least most n text h e =
    let digits = bound (behind piece text) (number_within least most) n e in
    let reads = number_within-takes least most n digits.0 h digits.2 in
    (reads.range, behind-takes piece text digits.0 digits.1 ∙ ap (λ x. piece ++ x) reads.text_is)

-- two numbers behind a piece
pub pair_behind-again : (piece : List ℕ) (least most first second : ℕ) → most < 2 ^ 64 → first ≤ 15 → IsWithin least most second → pair_behind piece least most (piece ++ (decimal first ++ 32 ∷ decimal second)) ≡ Some (first, second)
unfolding pair_behind
pair_behind-again piece least most first second h f r =
    ap (option_and_then (λ (words : List ℕ). option_and_then (λ (found : ℕ × List ℕ). option_and_then (λ (n : ℕ). Some (found.0, n)) (number_within least most found.1)) (number_before 0 15 words))) (behind-again piece (decimal first ++ 32 ∷ decimal second))
    ∙ ap (option_and_then (λ (found : ℕ × List ℕ). option_and_then (λ (n : ℕ). Some (found.0, n)) (number_within least most found.1))) (number_before-again 0 15 first (decimal second) (omega arith) (record { low = omega arith; high = f }))
    ∙ ap (option_and_then (λ (n : ℕ). Some (first, n))) (number_within-again least most second h r)

pub record ReadsPair (piece : List ℕ) (least most first second : ℕ) (text : List ℕ) : Type 0 where
  pub first_high : first ≤ 15
  pub range : IsWithin least most second
  pub text_is : text ≡ piece ++ (decimal first ++ 32 ∷ decimal second)

pub pair_behind-takes : (piece : List ℕ) (least most first second : ℕ) (text : List ℕ) → most < 2 ^ 64 → pair_behind piece least most text ≡ Some (first, second) → ReadsPair piece least most first second text
unfolding pair_behind
pair_behind-takes piece least most first second text h e =
    let words = bound (behind piece text) (λ (words : List ℕ). option_and_then (λ (found : ℕ × List ℕ). option_and_then (λ (n : ℕ). Some (found.0, n)) (number_within least most found.1)) (number_before 0 15 words)) (first, second) e in
    let found = bound (number_before 0 15 words.0) (λ (found : ℕ × List ℕ). option_and_then (λ (n : ℕ). Some (found.0, n)) (number_within least most found.1)) (first, second) words.2 in
    let last = bound (number_within least most found.0.1) (λ (n : ℕ). Some (found.0.0, n)) (first, second) found.2 in
    let same = same-some (found.0.0, last.0) (first, second) last.2 in
    let firsts : found.0.0 ≡ first = ap (λ (p : ℕ × ℕ). p.0) same in
    let seconds : last.0 ≡ second = ap (λ (p : ℕ × ℕ). p.1) same in
    let before = number_before-takes 0 15 found.0.0 words.0 found.0.1 (omega arith) found.1 in
    let behind_it = number_within-takes least most second found.0.1 h (last.1 ∙ ap (λ x. Some x) seconds) in
    let first_high = before.range.high in
    record {
      first_high = omega arith;
      range = behind_it.range;
      text_is = behind-takes piece text words.0 words.1 ∙ ap (λ x. piece ++ x) (before.text_is ∙ ap (λ x. decimal x ++ 32 ∷ found.0.1) firsts ∙ ap (λ x. decimal first ++ 32 ∷ x) behind_it.text_is);
    }
