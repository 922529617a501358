-- A report as far as it has been read.
use Rattle.std.specs.Prelude.{◌≡◌, ℕ, List, nat_eq}
use Rattle.std.specs.List.{list_any}
use Rattle.std.specs.Cmp.Lexicographic.{pointwise}
use Rattle.raid_base.specs.Names.{IsNameText, filled, is_text}
use Rattle.raid_base.specs.declared.cells.Shown.{Shown}
use Rattle.virtual_objects.specs.Objects.{Address}
use Rattle.report_text.specs.Report.{ReportOf}
use Rattle.report_text.specs.declared.reading.drafts.Section.{Section}

-- what has been read, and what may come next
pub record DraftOf : Type 0 where
  pub section : Section
  pub report : ReportOf

-- the keys are those of the objects of these blocks
abbrev pub Knows : List (List ℕ) → List (Address × Shown) → Type 0
Knows keys blocks =
    (name : List ℕ) → IsNameText name → list_any (pointwise nat_eq (filled name)) keys ≡ list_any (λ (b : Address × Shown). is_text b.0.object name) blocks
