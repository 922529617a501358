-- Numbers and their text.
use Rattle.std.specs.Prelude.{◌↔◌, ◌++◌, IsSome, IfSome, Option, Some, None, refl}
use Rattle.std.proofs.Common.{◌≡◌, ℕ, ◌+◌, ◌-◌, ◌*◌, ◌^◌, ◌<◌, ◌≤◌, min, Bool, true, List, length, take, get_or, sym, ◌∙◌, arith, rules, decimal, ap, ◌⊎◌, inl, inr, ◌≢◌, false, lit<, leb, eqb, ◌&&◌, ◌||◌, not}
use Rattle.std.specs.List.{list_all}
use Rattle.std.specs.Int.{IsInRange}
use Rattle.std.proofs.lemmas.Bool.Decides.{nat_tests}
use Rattle.std.proofs.lemmas.Bool.{cases_eq}
use Rattle.std.proofs.lemmas.List.Sums.{AllPass-from_list_all}
use Rattle.std.proofs.lemmas.Int.Digits.{digits_value_more}
use Rattle.std.proofs.lemmas.Str.{digit_value_digit}
use Rattle.std.proofs.lemmas.Str.Parse.{IsNumeralModel, numerals_by_value}
use Rattle.std.proofs.lemmas.Fmt.{digits_decimal, digits_value-decimal, decimal-digits_value, decimal_nonempty, decimal_digit, first_decimal}
use Rattle.raid_base.specs.Names.{is_digit}
use Rattle.text_lines.specs.Numbers.{IsNumber, is_number, number_of}

pub numerals : IsNumeralModel (λ text. list_all is_digit text ≡ true) number_of
numerals = numerals_by_value _ (search (rules, nat_tests))

pub digit_range : (byte : ℕ) → is_digit byte ≡ true → IsInRange 48 57 byte
digit_range byte h = grind (arith, nat_tests)

pub digit_at : (text : List ℕ) (i : ℕ) → list_all is_digit text ≡ true → i < length text → IsInRange 48 57 (get_or text i 0)
digit_at text i h l = digit_range _ (AllPass-from_list_all is_digit text h i 0 l)

-- one more digit, in numbers alone
more : (before value byte digit after most : ℕ) → 9 ≤ most → value ≡ min before most → digit + 48 ≡ byte → after ≡ before * 10 + digit → min (min (value * 10) most + (byte - 48)) most ≡ min after most
more before value byte digit after most m e d a = omega arith

-- one more digit
pub value_more : (text : List ℕ) (i value most : ℕ) → list_all is_digit text ≡ true → i < length text → 9 ≤ most → value ≡ min (number_of (take i text)) most → min (min (value * 10) most + (get_or text i 0 - 48)) most ≡ min (number_of (take (i + 1) text)) most
value_more text i value most h l m e =
    more (number_of (take i text)) value (get_or text i 0) _ _ most m e (digit_value_digit _ (digit_at text i h l)) (digits_value_more 10 text i l)

-- a number's text, by its parts
from_parts : (text : List ℕ) (digits : Bool) → 0 < length text → digits ≡ true → (get_or text 0 0 ≡ 48 → length text ≡ 1) → (leb 1 (length text) && digits && (eqb (length text) 1 || not (eqb (get_or text 0 0) 48))) ≡ true
from_parts text digits n d z = grind (arith, nat_tests)

record Parts (text : List ℕ) (digits : Bool) : Type 0 where
  some : 0 < length text
  all : digits ≡ true
  zero : get_or text 0 0 ≡ 48 → length text ≡ 1

parts : (text : List ℕ) (digits : Bool) → (leb 1 (length text) && digits && (eqb (length text) 1 || not (eqb (get_or text 0 0) 48))) ≡ true → Parts text digits
parts text digits h = record { some = grind (arith, nat_tests); all = grind (arith, nat_tests); zero = λ z. grind (arith, nat_tests) }

-- only the number 0 begins with a zero
zero_first_in : (n : ℕ) → (n ≡ 0) ⊎ (n ≢ 0) → n < 2 ^ 64 → get_or (decimal n) 0 0 ≡ 48 → length (decimal n) ≡ 1
zero_first_in n (inl e) h z = ap (λ m. length (decimal m)) e ∙ ap length (decimal_digit 0 (lit< tt))
zero_first_in n (inr ne) h z = let above : 48 < get_or (decimal n) 0 0 = first_decimal n (omega arith) h in absurd (omega arith)

zero_first : (n : ℕ) → n < 2 ^ 64 → get_or (decimal n) 0 0 ≡ 48 → length (decimal n) ≡ 1
zero_first n h z = zero_first_in n (cases_eq n 0) h z

-- the text of a number is a number's text, which writes the number
pub is_number-decimal : (n : ℕ) → n < 2 ^ 64 → IsNumber (decimal n)
is_number-decimal n h = from_parts (decimal n) _ (decimal_nonempty n h) (digits_decimal numerals n h) (zero_first n h)

pub number_of-decimal : (n : ℕ) → n < 2 ^ 64 → number_of (decimal n) ≡ n
number_of-decimal n h = digits_value-decimal numerals n h

-- a number's text is the text of the number that it writes
pub decimal-number_of : (text : List ℕ) → IsNumber text → number_of text < 2 ^ 64 → text ≡ decimal (number_of text)
decimal-number_of text h l = let p = parts text (list_all is_digit text) h in sym (decimal-digits_value numerals text p.all p.some p.zero l)

-- what is read is the number of the text, where it is below the greatest
pub text_of_read : (text : List ℕ) (n most : ℕ) → most < 2 ^ 64 → IsNumber text → n ≡ min (number_of text) most → n < most → text ≡ decimal n
text_of_read text n most b h e l =
    let same : number_of text ≡ n = omega arith in
    decimal-number_of text h (omega arith) ∙ ap decimal same

pub read_of_text : (text : List ℕ) (n m : ℕ) → n ≡ min (number_of text) (2 ^ 64 - 1) → m < 2 ^ 64 → text ≡ decimal m → n ≡ m
read_of_text text n m e l is =
    let of : number_of text ≡ m = ap number_of is ∙ number_of-decimal m l in omega arith

pub not_of_text : (text : List ℕ) (m : ℕ) → false ≡ is_number text → m < 2 ^ 64 → text ≡ decimal m → ⊥
not_of_text text m h l is = let no : false ≡ true = h ∙ ap is_number is ∙ is_number-decimal m l in cc

-- a number that was read behind a label
pub labelled : (r : Option ℕ) (line label digits : List ℕ) → IsSome r ↔ IsNumber digits → IfSome r (λ n. n ≡ min (number_of digits) (2 ^ 64 - 1)) → line ≡ label ++ digits → IfSome r (λ n. (x : List ℕ) × IsNumber x × (line ≡ label ++ x) × (n ≡ min (number_of x) (2 ^ 64 - 1)))
labelled None line label digits some value is = tt
labelled (Some n) line label digits some value is = (digits, some.0 refl, is, value)
