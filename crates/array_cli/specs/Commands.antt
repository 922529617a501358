-- Which command the words behind the program's name ask for.
use Rattle.std.specs.Prelude.{ℕ, List, [], ◌∷◌, Option, Some, None, codes, bytes_eq, nat_le, ◌&&◌, if◌then◌else◌, option_map}
use Rattle.text_lines.specs.Numbers.{is_number, number_of}
use Rattle.array_cli.specs.declared.words.Command.{Command}
use Rattle.array_cli.specs.declared.words.Command.TheVariants.{Sim, Run, Load}

-- the number of jobs that a word writes: from 1 to 1,500, in decimal digits without sign or leading zero
abbrev pub jobs_of : List ℕ → Option ℕ
jobs_of word = if is_number word && nat_le 1 (number_of word) && nat_le (number_of word) 1500 then Some (number_of word) else None

-- one word alone is sim or run
abbrev pub one_word_of : List ℕ → Option Command
one_word_of word = if bytes_eq word (codes "sim") then Some Sim else if bytes_eq word (codes "run") then Some Run else None

-- two words are load and a number of jobs
abbrev pub load_of : List ℕ → List ℕ → Option Command
load_of word number = if bytes_eq word (codes "load") then option_map Load (jobs_of number) else None

-- and no other number of words asks for anything
abbrev pub command_of : List (List ℕ) → Option Command
command_of (word ∷ []) = one_word_of word
command_of (word ∷ number ∷ []) = load_of word number
command_of _ = None
