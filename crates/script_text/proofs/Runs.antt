-- Lines that are read one after another.
use Rattle.std.proofs.Common.{◌≡◌, ◌≢◌, ℕ, ◌+◌, ◌-◌, ◌^◌, ◌<◌, ◌≤◌, min, Bool, true, false, ◌&&◌, not, cond, eqb, List, [], ◌∷◌, ◌++◌, length, Option, Some, None, refl, sym, ap, ◌∙◌, arith, subst, decimal}
use Rattle.std.specs.Prelude.{codes}
use Rattle.std.specs.List.{All, flat_map, list_all, slice_split}
use Rattle.std.proofs.lemmas.Bool.{and_parts, cond-true, eqb-true}
use Rattle.std.proofs.lemmas.Bool.Decides.{nat_tests}
use Rattle.std.proofs.lemmas.List.{append-nil, append_assoc}
use Rattle.std.proofs.lemmas.List.Elements.{All-nil, All-cons, All-append}
use Rattle.std.proofs.lemmas.List.Splits.{slice_split_at, slice_split_none}
use Rattle.text_lines.specs.Lines.{IsLine, is_separator, joined, line, spaced}
use Rattle.text_lines.specs.Numbers.{is_number, number_of}
use Rattle.text_lines.proofs.NumberLemmas.{is_number-decimal, number_of-decimal}
use Rattle.text_lines.proofs.WordLemmas.{IsWord, IsWord-decimal, is_word_byte}
use Rattle.script_text.specs.Script.{Script}
use Rattle.script_text.specs.Text.{Words}
use Rattle.script_text.specs.Forms.{Form, number, value, words}
use Rattle.script_text.specs.Faults.{Said, after, fault_from, fault_of, form_of, is_ended, last_fault, line_fault, or_next, pieces}
use Rattle.script_text.proofs.Reading.{fault-line, line-fault, pieces-line, pieces-some}

abbrev pub AllWords : Words → Type 0
AllWords [] = Unit {0}
AllWords (word ∷ words) = IsWord word × AllWords words

-- no byte of a word is this separator
lacks : (word : List ℕ) (c : ℕ) → is_separator c ≡ true → IsWord word → All (λ (byte : ℕ). eqb byte c ≡ false) word
lacks [] c s h = All-nil _
lacks (byte ∷ word) c s h =
    let parts = and_parts (is_word_byte byte) (list_all is_word_byte word) h in
    All-cons (λ (b : ℕ). eqb b c ≡ false) byte word (apart byte (eqb byte c) refl parts.0) (lacks word c s parts.1)
  where
    apart : (b : ℕ) (t : Bool) → eqb b c ≡ t → is_word_byte b ≡ true → eqb b c ≡ false
    apart b false e w = e
    apart b true e w = let same : b ≡ c = eqb-true b c e in let is : is_word_byte c ≡ true = subst (λ (x : ℕ). is_word_byte x ≡ true) same w in absurd (cc (ap not s, is))

-- words that hold no separator are the words of their line
pub words-joined : (word : List ℕ) (more : Words) → IsWord word → AllWords more → words (joined (word ∷ more)) ≡ word ∷ more
words-joined word [] h all = ap words (append-nil word) ∙ slice_split_none (λ (byte : ℕ). eqb byte 32) word (lacks word 32 refl h)
words-joined word (next ∷ more) h all =
    slice_split_at (λ (byte : ℕ). eqb byte 32) word 32 (next ++ flat_map spaced more) (lacks word 32 refl h) refl ∙ ap (λ ws. word ∷ ws) (words-joined next more all.0 all.1)

is-line-in : (word : List ℕ) → IsWord word → IsLine word
is-line-in [] h = All-nil _
is-line-in (byte ∷ word) h =
    let parts = and_parts (is_word_byte byte) (list_all is_word_byte word) h in
    All-cons (λ (b : ℕ). b ≢ 10) byte word (λ e. let is : is_word_byte 10 ≡ true = subst (λ (x : ℕ). is_word_byte x ≡ true) e parts.0 in cc is) (is-line-in word parts.1)

more-line : (more : Words) → AllWords more → IsLine (flat_map spaced more)
more-line [] all = All-nil _
more-line (word ∷ more) all = All-cons (λ (b : ℕ). b ≢ 10) 32 (word ++ flat_map spaced more) (λ e. omega (arith, e)) (All-append (λ (b : ℕ). b ≢ 10) word (flat_map spaced more) (is-line-in word all.0) (more-line more all.1))

pub joined-line : (words : Words) → AllWords words → IsLine (joined words)
joined-line [] all = All-nil _
joined-line (word ∷ more) all = All-append (λ (b : ℕ). b ≢ 10) word (flat_map spaced more) (is-line-in word all.0) (more-line more all.1)

-- a number's word tells it
pub value-decimal : (n : ℕ) → n < 2 ^ 63 → value (decimal n) ≡ n
value-decimal n l = let same = number_of-decimal n (omega arith) in omega (arith, same)

pub number-decimal : (n : ℕ) → n < 2 ^ 63 → number (decimal n) ≡ Some n
number-decimal n l = cond-true (is_number (decimal n)) _ _ (is_number-decimal n (omega arith)) ∙ ap (λ m. Some m) (value-decimal n l)

-- one line is read, and what is told then
pub record OneRun (said : Said) (ws : Words) (next : Said) : Type 0 where
  pub going : is_ended said.stage ≡ false
  pub whole : IsLine (joined ws)
  pub fine : fault_of said.script (form_of said (joined ws)) ≡ None
  pub goes : after said.script (form_of said (joined ws)) ≡ next

-- and so line by line
abbrev pub Runs : Said → List Words → Said → Type 0
Runs said [] end = said ≡ end
Runs said (ws ∷ lines) end = (next : Said) × OneRun said ws next × Runs next lines end

pub runs-append : (a b c : Said) (xs ys : List Words) → Runs a xs b → Runs b ys c → Runs a (xs ++ ys) c
runs-append a b c [] ys x y = subst (λ (s : Said). Runs s ys c) (sym x) y
runs-append a b c (ws ∷ xs) ys x y = (x.0, x.1, runs-append x.0 b c xs ys x.2 y)

pub run-one : (said next : Said) (ws : Words) (form : Form) → is_ended said.stage ≡ false → IsLine (joined ws) → form_of said (joined ws) ≡ form → fault_of said.script form ≡ None → after said.script form ≡ next → OneRun said ws next
run-one said next ws form g w e f n = record { going = g; whole = w; fine = ap (fault_of said.script) e ∙ f; goes = ap (after said.script) e ∙ n }

-- the script that the pieces of a text tell
abbrev pub script_from : Said → List (List ℕ) → Script
script_from said [] = said.script
script_from said (text ∷ []) = said.script
script_from said (text ∷ next ∷ more) = script_from (after said.script (form_of said text)) (next ∷ more)

script-line : (said : Said) (text : List ℕ) (more : List (List ℕ)) → 0 < length more → script_from said (text ∷ more) ≡ script_from (after said.script (form_of said text)) more
script-line said text [] l = absurd (omega arith)
script-line said text (next ∷ more) l = refl

pub record Behind (said end : Said) (number : ℕ) (text rest : List ℕ) : Type 0 where
  pub later : ℕ
  pub faults : fault_from said number (pieces text) ≡ fault_from end later (pieces rest)
  pub script : script_from said (pieces text) ≡ script_from end (pieces rest)

-- lines that run have no fault
pub runs-behind : (said end : Said) (lines : List Words) (number : ℕ) (rest : List ℕ) → Runs said lines end → Behind said end number (flat_map line lines ++ rest) rest
runs-behind said end [] number rest r = record { later = number; faults = ap (λ s. fault_from s number (pieces rest)) r; script = ap (λ s. script_from s (pieces rest)) r }
runs-behind said end (ws ∷ lines) number rest r =
    let next = r.0 in
    let one = r.1 in
    let behind = flat_map line lines ++ rest in
    let on = runs-behind next end lines (number + 1) rest r.2 in
    let left : (line ws ++ flat_map line lines) ++ rest ≡ joined ws ++ 10 ∷ behind = append_assoc (line ws) (flat_map line lines) rest ∙ append_assoc (joined ws) (10 ∷ []) behind in
    let cut = pieces-line ((line ws ++ flat_map line lines) ++ rest) (joined ws) behind left one.whole in
    record {
      later = on.later;
      faults = ap (λ ps. fault_from said number ps) cut ∙ fault-line said number (joined ws) (pieces behind) (pieces-some behind)
          ∙ ap (λ k. or_next number k (fault_from (after said.script (form_of said (joined ws))) (number + 1) (pieces behind))) (line-fault said.stage said.script (joined ws) one.going ∙ one.fine)
          ∙ ap (λ s. fault_from s (number + 1) (pieces behind)) one.goes ∙ on.faults;
      script = ap (λ ps. script_from said ps) cut ∙ script-line said (joined ws) (pieces behind) (pieces-some behind) ∙ ap (λ s. script_from s (pieces behind)) one.goes ∙ on.script;
    }
