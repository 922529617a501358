-- One more line of a report is read.
use Rattle.std.specs.Prelude.{◌≡◌, ℕ, List, ◌∷◌, ◌++◌, Some}
use Rattle.text_lines.specs.Lines.{IsLine}
use Rattle.report_text.specs.Items.{line_of}
use Rattle.report_text.specs.Drafting.{DraftOf}
use Rattle.report_text.specs.Drafts.{next}
use Rattle.report_text.specs.declared.reading.items.Line.{Line}

-- the first line of the text may come next, and then this has been read and that is left
pub record StepsOn (d : DraftOf) (text : List ℕ) (later : DraftOf) (rest : List ℕ) : Type 0 where
  pub line : List ℕ
  pub item : Line
  pub whole : IsLine line
  pub text_is : text ≡ line ++ 10 ∷ rest
  pub says : line_of line ≡ Some item
  pub comes : next d item ≡ Some later

-- the text has no first line that may come next
abbrev pub IsStuck : DraftOf → List ℕ → Type 0
IsStuck d text =
    (line rest : List ℕ) (item : Line) (later : DraftOf) → IsLine line → text ≡ line ++ 10 ∷ rest → line_of line ≡ Some item → next d item ≡ Some later → ⊥
