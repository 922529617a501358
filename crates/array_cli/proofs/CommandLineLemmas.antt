-- What clap makes of the words, at the command line.
use Rattle.std.proofs.Common.{◌≡◌, ◌⊎◌, ◌∙◌, ℕ, zero, suc, ◌+◌, ◌<◌, ◌≤◌, Bool, true, false, ◌&&◌, Option, Some, None, List, [], ◌∷◌, length, codes, is_some, refl, sym, ap, ap₂, subst, inl, inr, arith, true≢false}
use Rattle.std.specs.Prelude.{nat_le, unwrap_or, option_map, option_and_then, if◌then◌else◌}
use Rattle.std.specs.Bool.{one_answer}
use Rattle.std.specs.Borrow.{Bor}
use Rattle.clap.specs.Words.{first_value, found_of, rows_of, subcommand_name_of, subcommand_rows, subcommand_rows_of}
use Rattle.clap.specs.declared.parser.matches.ArgMatches.{ArgMatches}
use Rattle.clap.specs.declared.parser.matches.ArgMatches.TheViews.{out-ArgMatches}
use Rattle.std.specs.Str.{bytes_eq, chars}
use Rattle.std.specs.Prelude.{slice_get}
use Rattle.std.specs.List.{list_all}
use Rattle.std.proofs.lemmas.Bool.{cases_lt}
use Rattle.std.proofs.lemmas.Bool.Decides.{nat_tests}
use Rattle.std.proofs.lemmas.Slice.Eq.{bytes_eq-Decides}
use Rattle.clap.specs.Lexer.{long_of, short_of}
use Rattle.clap.specs.Walk.{Held, Names, Outcome, Row, Rule, Step, Text, Walk, after_flag, after_step, finished, arg_by_long, arg_by_short, bundle_met, bundle_step, first_of, idle, nothing_held, plain, refused, rows_after, subcommand_met, subcommand_or_other, trailing, short_or_plain, long_or_other, value, walk_from, walked}
use Rattle.clap.specs.Simple.{built, entered, filled_from, subcommand_of}
use Rattle.clap.specs.Takes.{takes}
use Rattle.clap.proofs.OnLiterals.{clap_on_literals}
use Rattle.clap.proofs.WalkLemmas.{both, first_value-rows}
use Rattle.array_cli.specs.CommandLine.{command_line, load}
use Rattle.array_cli.specs.Commands.{command_of, jobs_of, load_of, one_word_of}
use Rattle.text_lines.specs.Numbers.{is_number}
use Rattle.raid_base.specs.Names.{is_digit}
use Rattle.array_cli.specs.declared.words.Command.{Command}
use Rattle.array_cli.specs.declared.words.Command.TheVariants.{Load}

-- ---- words that name a command

none-some : {A : Type 0} {x : A} → None ≡ Some x → ⊥
none-some e = true≢false (sym (ap is_some e))

flipped : (word name : Text) → bytes_eq word name ≡ false → bytes_eq name word ≡ false
flipped word name e = one_answer _ _ (bytes_eq-Decides name word) ((λ t. sym ((bytes_eq-Decides word name).0 t)), (λ t. (bytes_eq-Decides word name).1 (sym t))) ∙ e

abbrev labels : Names
labels = (codes "sim", []) ∷ (codes "run", []) ∷ (codes "load", []) ∷ []

record IsOther (word : Text) : Type 0 where
  sim : bytes_eq word (codes "sim") ≡ false
  run : bytes_eq word (codes "run") ≡ false
  load : bytes_eq word (codes "load") ≡ false

-- a word is one of the three names, or another
abbrev Named : Text → Type 0
Named word = (word ≡ codes "sim") ⊎ ((word ≡ codes "run") ⊎ ((word ≡ codes "load") ⊎ IsOther word))

named : (word : Text) → Named word
named word = go _ _ _ refl refl refl
  where
    go : (a b c : Bool) → bytes_eq word (codes "sim") ≡ a → bytes_eq word (codes "run") ≡ b → bytes_eq word (codes "load") ≡ c → Named word
    go true b c s r l = inl ((bytes_eq-Decides word (codes "sim")).0 s)
    go false true c s r l = inr (inl ((bytes_eq-Decides word (codes "run")).0 r))
    go false false true s r l = inr (inr (inl ((bytes_eq-Decides word (codes "load")).0 l)))
    go false false false s r l = inr (inr (inr (record { sim = s; run = r; load = l })))

-- ---- the words of a command are taken

takes_sim : takes command_line (codes "sim" ∷ []) ≡ true
unfolding clap_on_literals
takes_sim = refl

takes_run : takes command_line (codes "run" ∷ []) ≡ true
unfolding clap_on_literals
takes_run = refl

-- what holds of a number, and of those above it, holds of those from it on
from : (P : ℕ → Type 0) (least n : ℕ) → least ≤ n → P least → (least + 1 ≤ n → P n) → P n
from P least n le here above = go (cases_lt least n)
  where
    go : (least < n) ⊎ (n ≤ least) → P n
    go (inl lt) = above (omega arith)
    go (inr ge) =
        let same : least ≡ n = omega arith in
        subst P same here

-- clap computes at each of the ten digits
takes_digit : (first : ℕ) (rest : Text) → 48 ≤ first → first ≤ 57 → takes command_line (codes "load" ∷ (first ∷ rest) ∷ []) ≡ true
unfolding clap_on_literals
takes_digit first rest least most =
    let at : (n : ℕ) → n ≤ first → Takes n → (n + 1 ≤ first → Takes first) → Takes first = λ n. from Takes n first in
    at 48 least refl (λ a. at 49 a refl (λ b. at 50 b refl (λ c. at 51 c refl (λ d. at 52 d refl
    (λ e. at 53 e refl (λ f. at 54 f refl (λ g. at 55 g refl (λ h. at 56 h refl (λ i. at 57 i refl (λ j. absurd (omega arith)))))))))))
  where
    Takes : ℕ → Type 0
    Takes n = takes command_line (codes "load" ∷ (n ∷ rest) ∷ []) ≡ true

takes_load : (number : Text) → is_number number ≡ true → takes command_line (codes "load" ∷ number ∷ []) ≡ true
takes_load [] is = absurd (true≢false (sym is))
takes_load (first ∷ rest) is =
    let digits = both (nat_le 1 (length (first ∷ rest))) _ (both (nat_le 1 (length (first ∷ rest)) && list_all is_digit (first ∷ rest)) _ is).0 in
    let digit = both (nat_le 48 first) _ (both (is_digit first) _ digits.1).0 in
    takes_digit first rest (grind (arith, nat_tests)) (grind (arith, nat_tests))

taken_load : (number : Text) (command : Command) → option_map Load (jobs_of number) ≡ Some command → takes command_line (codes "load" ∷ number ∷ []) ≡ true
taken_load number command e = takes_load number (go _ refl)
  where
    go : (t : Bool) → is_number number ≡ t → is_number number ≡ true
    go true is = is
    go false is = absurd (none-some (rw is at e))

-- words of a command fail to be read for want of memory alone
pub taken : (words : List Text) (command : Command) → command_of words ≡ Some command → takes command_line words ≡ true
taken [] command e = absurd (none-some e)
taken (word ∷ []) command e = go (named word)
  where
    go : Named word → takes command_line (word ∷ []) ≡ true
    go (inl is) = subst (λ (x : Text). takes command_line (x ∷ []) ≡ true) (sym is) takes_sim
    go (inr (inl is)) = subst (λ (x : Text). takes command_line (x ∷ []) ≡ true) (sym is) takes_run
    go (inr (inr (inl is))) = absurd (none-some (subst (λ (x : Text). one_word_of x ≡ Some command) is e))
    go (inr (inr (inr is))) = absurd (none-some (rw (is.sim, is.run) at e))
taken (word ∷ number ∷ []) command e = go _ refl
  where
    go : (t : Bool) → bytes_eq word (codes "load") ≡ t → takes command_line (word ∷ number ∷ []) ≡ true
    go true is =
        let load : word ≡ codes "load" = (bytes_eq-Decides word (codes "load")).0 is in
        subst (λ (x : Text). takes command_line (x ∷ number ∷ []) ≡ true) (sym load) (taken_load number command (rw is at e))
    go false is = absurd (none-some (rw is at e))
taken (a ∷ b ∷ c ∷ rest) command e = absurd (none-some e)

pub refused-so : (words : List Text) (memory : Type 0) → (takes command_line words ≡ true → memory) → memory ⊎ (command_of words ≡ None)
refused-so words memory why = go _ refl
  where
    go : (o : Option Command) → command_of words ≡ o → memory ⊎ (command_of words ≡ None)
    go None is = inr is
    go (Some command) is = inl (why (taken words command is))

-- ---- what is found in the words

-- flags of a bundle are refused where no argument has a short name
bundle-refused : (rules : List Rule) → ((short : ℕ) → arg_by_short rules short ≡ None) → (most : ℕ) (flags : Text) (h : Held) → (bundle_met rules most flags 0 plain h ≡ (h, plain)) ⊎ (bundle_met rules most flags 0 plain h ≡ (h, refused))
unfolding bundle_met
bundle-refused rules none zero flags h = inl refl
bundle-refused rules none (suc most) flags h = go (slice_get (chars flags) 0)
  where
    go : (first : Option ℕ) → (bundle_step rules first flags 0 plain h (bundle_met rules most) ≡ (h, plain)) ⊎ (bundle_step rules first flags 0 plain h (bundle_met rules most) ≡ (h, refused))
    go None = inl refl
    go (Some short) = inr (rw (none short) refl)

-- a word that is neither a subcommand nor `--` is a value, where no argument has a name
is-value : (rules : List Rule) → ((name : Text) → arg_by_long rules name ≡ None) → ((short : ℕ) → arg_by_short rules short ≡ None) → (position : ℕ) (word : Text) →
    bytes_eq word (45 ∷ 45 ∷ []) ≡ false → subcommand_or_other rules None idle position word nothing_held ≡ (nothing_held, value)
is-value rules long short position word e = rw e (by-long (long_of word))
  where
    by-bundle : (met : Held × Outcome) → (met ≡ (nothing_held, plain)) ⊎ (met ≡ (nothing_held, refused)) → after_flag rules idle word met.0 met.1 ≡ (nothing_held, value)
    by-bundle met (inl is) = rw is refl
    by-bundle met (inr is) = rw is refl

    by-short : (flags : Option Text) → short_or_plain rules idle word flags nothing_held ≡ (nothing_held, value)
    by-short None = refl
    by-short (Some flags) = by-bundle _ (bundle-refused rules short (length flags) flags nothing_held)

    by-long : (found : Option (Text × Option Text)) → long_or_other rules idle word found nothing_held ≡ (nothing_held, value)
    by-long None = by-short (short_of word)
    by-long (Some p) = rw (long p.0) refl

abbrev start : Walk
start = walk_from nothing_held

-- behind a word `--`
abbrev behind : Walk
behind = record start { is_trailing = true }

not-met : (word : Text) → IsOther word → subcommand_met labels idle word ≡ None
not-met word other = rw (flipped word (codes "sim") other.sim, flipped word (codes "run") other.run, flipped word (codes "load") other.load) refl

-- another word leaves the walk at its start, or behind `--`
stays : (word : Text) → IsOther word → (walked [] labels start word ≡ start) ⊎ (walked [] labels start word ≡ behind)
unfolding walked
stays word other = go _ refl
  where
    next : Held × Step → Walk
    next met = after_step [] word start met.0 met.1

    met : subcommand_or_other [] (subcommand_met labels idle word) idle 1 word nothing_held ≡ subcommand_or_other [] None idle 1 word nothing_held
    met = ap (λ (o : Option Text). subcommand_or_other [] o idle 1 word nothing_held) (not-met word other)

    go : (t : Bool) → bytes_eq word (45 ∷ 45 ∷ []) ≡ t → (walked [] labels start word ≡ start) ⊎ (walked [] labels start word ≡ behind)
    go true e =
        let ended : subcommand_or_other [] None idle 1 word nothing_held ≡ (nothing_held, trailing 1) = rw e refl in
        inr (ap next (met ∙ ended))
    go false e = inl (ap next (met ∙ is-value [] (λ name. refl) (λ short. refl) 1 word e))

abbrev arguments : List Rule
arguments = filled_from 1 load.top.rules

-- the number of a load is what its second word writes
number-found : (number : Text) → option_and_then jobs_of (first_of (codes "jobs") (rows_after arguments [] (number ∷ []))) ≡ jobs_of number
unfolding walked
number-found number = go _ refl
  where
    go : (t : Bool) → bytes_eq number (45 ∷ 45 ∷ []) ≡ t → option_and_then jobs_of (first_of (codes "jobs") (rows_after arguments [] (number ∷ []))) ≡ jobs_of number
    go true e =
        let dashes : number ≡ 45 ∷ 45 ∷ [] = (bytes_eq-Decides number (45 ∷ 45 ∷ [])).0 e in
        subst (λ (x : Text). option_and_then jobs_of (first_of (codes "jobs") (rows_after arguments [] (x ∷ []))) ≡ jobs_of x) (sym dashes) refl
    go false e =
        ap (λ (met : Held × Step). option_and_then jobs_of (first_of (codes "jobs") (finished arguments (after_step arguments number start met.0 met.1).held)))
        (is-value arguments (λ name. refl) (λ short. refl) 1 number e)

-- the command of the subcommand that was met, and its arguments, with so many words
abbrev pub command_in : ℕ → Option (Text × List Row) → Option Command
command_in zero met = None
command_in (suc zero) met = option_and_then (λ p. one_word_of p.0) met
command_in (suc (suc zero)) met =
    option_and_then (λ p. if bytes_eq p.0 (codes "load") then option_map Load (option_and_then jobs_of (first_of (codes "jobs") p.1)) else None) met
command_in (suc (suc (suc count))) met = None

abbrev Found : List Text → Type 0
Found words = command_in (length words) (subcommand_of command_line words) ≡ command_of words

one-found : (word : Text) → Found (word ∷ [])
unfolding walked
one-found word = go (named word)
  where
    go : Named word → Found (word ∷ [])
    go (inl is) = subst (λ (x : Text). Found (x ∷ [])) (sym is) refl
    go (inr (inl is)) = subst (λ (x : Text). Found (x ∷ [])) (sym is) refl
    go (inr (inr (inl is))) = subst (λ (x : Text). Found (x ∷ [])) (sym is) refl
    go (inr (inr (inr is))) = by-walk (stays word is) ∙ sym (rw (is.sim, is.run) refl)
      where
        by-walk : (walked [] labels start word ≡ start) ⊎ (walked [] labels start word ≡ behind) → command_in 1 (subcommand_of command_line (word ∷ [])) ≡ None
        by-walk (inl same) = ap (λ (w : Walk). command_in 1 (entered (built command_line) w.stopped)) same
        by-walk (inr same) = ap (λ (w : Walk). command_in 1 (entered (built command_line) w.stopped)) same

-- behind another word a subcommand has no arguments
second-found : (word : Text) → command_in 2 (subcommand_of command_line (word ∷ [])) ≡ None
unfolding walked
second-found word = go (named word)
  where
    go : Named word → command_in 2 (subcommand_of command_line (word ∷ [])) ≡ None
    go (inl is) = subst (λ (x : Text). command_in 2 (subcommand_of command_line (x ∷ [])) ≡ None) (sym is) refl
    go (inr (inl is)) = subst (λ (x : Text). command_in 2 (subcommand_of command_line (x ∷ [])) ≡ None) (sym is) refl
    go (inr (inr (inl is))) = subst (λ (x : Text). command_in 2 (subcommand_of command_line (x ∷ [])) ≡ None) (sym is) refl
    go (inr (inr (inr is))) = by-walk (stays word is)
      where
        by-walk : (walked [] labels start word ≡ start) ⊎ (walked [] labels start word ≡ behind) → command_in 2 (subcommand_of command_line (word ∷ [])) ≡ None
        by-walk (inl same) = ap (λ (w : Walk). command_in 2 (entered (built command_line) w.stopped)) same
        by-walk (inr same) = ap (λ (w : Walk). command_in 2 (entered (built command_line) w.stopped)) same

two-found : (word number : Text) → Found (word ∷ number ∷ [])
unfolding walked
two-found word number = go (named word)
  where
    go : Named word → Found (word ∷ number ∷ [])
    go (inl is) = subst (λ (x : Text). Found (x ∷ number ∷ [])) (sym is) refl
    go (inr (inl is)) = subst (λ (x : Text). Found (x ∷ number ∷ [])) (sym is) refl
    go (inr (inr (inl is))) = subst (λ (x : Text). Found (x ∷ number ∷ [])) (sym is) (ap (option_map Load) (number-found number))
    go (inr (inr (inr is))) = by-walk (stays word is) ∙ sym (rw is.load refl)
      where
        by-walk : (walked [] labels start word ≡ start) ⊎ (walked [] labels start word ≡ behind) → command_in 2 (subcommand_of command_line (word ∷ number ∷ [])) ≡ None
        by-walk (inl same) = ap (λ (w : Walk). command_in 2 (entered (built command_line) (walked [] labels w number).stopped)) same ∙ second-found number
        by-walk (inr same) = ap (λ (w : Walk). command_in 2 (entered (built command_line) (walked [] labels w number).stopped)) same

-- what clap finds in the words is their command
pub found : (words : List Text) → Found words
found [] = refl
found (word ∷ []) = one-found word
found (word ∷ number ∷ []) = two-found word number
found (a ∷ b ∷ c ∷ rest) = refl

-- the name and the arguments of the subcommand that a parse met
abbrev parts : Bor Text × Bor ArgMatches → Text × List Row
parts p = (p.0.now, rows_of (found_of p.1.now))

pairs : {A B X Y : Type 0} (f : A → X) (g : A → Y) (h : B → X × Y) (met : Option A) (there : Option B) → option_map f met ≡ option_map (λ b. (h b).0) there →
    option_map g met ≡ option_map (λ p. p.1) (option_map h there) → option_map (λ a. (f a, g a)) met ≡ option_map h there
pairs f g h None None first second = refl
pairs f g h None (Some b) first second = absurd (none-some first)
pairs f g h (Some a) None first second = absurd (none-some (sym first))
pairs f g h (Some a) (Some b) first second = ap₂ (λ x y. Some (x, y)) (ap (λ o. unwrap_or o (f a)) first) (ap (λ o. unwrap_or o (g a)) second)

met-is : (m : ArgMatches) (met : Option (Bor Text × Bor ArgMatches)) → option_map (λ p. p.0.now) met ≡ subcommand_name_of m →
    option_map (λ p. rows_of (found_of p.1.now)) met ≡ option_map (λ p. p.1) (subcommand_rows (out-ArgMatches m).subcommand) → option_map parts met ≡ subcommand_rows_of m
met-is m met name rows = pairs _ _ _ met (out-ArgMatches m).subcommand name rows

none-in : (count : ℕ) → command_in count None ≡ None
none-in zero = refl
none-in (suc zero) = refl
none-in (suc (suc zero)) = refl
none-in (suc (suc (suc count))) = refl

other-in : (count : ℕ) (met : Option (Text × List Row)) → (count ≡ 1 → ⊥) → (count ≡ 2 → ⊥) → command_in count met ≡ None
other-in zero met one two = refl
other-in (suc zero) met one two = absurd (one refl)
other-in (suc (suc zero)) met one two = absurd (two refl)
other-in (suc (suc (suc count))) met one two = refl

module _ (words : List Text) (m : ArgMatches) (met : Option (Bor Text × Bor ArgMatches)) (name : option_map (λ p. p.0.now) met ≡ subcommand_name_of m)
    (rows : option_map (λ p. rows_of (found_of p.1.now)) met ≡ option_map (λ p. p.1) (subcommand_rows (out-ArgMatches m).subcommand)) (same : subcommand_rows_of m ≡ subcommand_of command_line words) where
  is-command : (count : ℕ) (o : Option (Bor Text × Bor ArgMatches)) → length words ≡ count → met ≡ o → command_in count (option_map parts o) ≡ command_of words
  is-command count o many is =
      ap (λ (n : ℕ). command_in n (option_map parts o)) (sym many) ∙ ap (λ (x : Option (Bor Text × Bor ArgMatches)). command_in (length words) (option_map parts x)) (sym is)
      ∙ ap (command_in (length words)) (met-is m met name rows ∙ same) ∙ found words

  pub none-met : met ≡ None → None ≡ command_of words
  none-met is = sym (none-in (length words)) ∙ is-command (length words) None refl is

  pub other-met : (length words ≡ 1 → ⊥) → (length words ≡ 2 → ⊥) → None ≡ command_of words
  other-met one two = sym (other-in (length words) (option_map parts met) one two) ∙ is-command (length words) met refl refl

  pub one-met : (p : Bor Text × Bor ArgMatches) → met ≡ Some p → length words ≡ 1 → one_word_of p.0.now ≡ command_of words
  one-met p is many = is-command 1 (Some p) many is

  pub two-met : (p : Bor Text × Bor ArgMatches) → met ≡ Some p → length words ≡ 2 → (number : Option Text) → number ≡ first_value (found_of p.1.now) (codes "jobs") →
      option_and_then (λ text. load_of p.0.now text) number ≡ command_of words
  two-met p is many number first = by-name number (bytes_eq p.0.now (codes "load")) refl ∙ ap numbered (first ∙ first_value-rows (found_of p.1.now) (codes "jobs")) ∙ is-command 2 (Some p) many is
    where
      numbered : Option Text → Option Command
      numbered number = if bytes_eq p.0.now (codes "load") then option_map Load (option_and_then jobs_of number) else None

      by-name : (number : Option Text) (b : Bool) → bytes_eq p.0.now (codes "load") ≡ b → option_and_then (λ text. load_of p.0.now text) number ≡ numbered number
      by-name (Some text) b e = refl
      by-name None true e = sym (rw e refl)
      by-name None false e = sym (rw e refl)
