-- The text of a summary, in the pieces that are written.
use Rattle.std.proofs.Common.{◌≡◌, ℕ, ◌+◌, Bool, List, [], ◌∷◌, ◌++◌, map, Result, refl, sym, ap, ◌∙◌, arith, decimal}
use Rattle.std.specs.Prelude.{codes, count_by, fold, cond}
use Rattle.std.specs.List.{flat_map}
use Rattle.std.proofs.lemmas.List.Sums.{sum_by-cons}
use Rattle.std.proofs.lemmas.List.Concat.{flat_map-append}
use Rattle.raid_base.specs.declared.cells.Content.TheVariants as contents
use Rattle.raid_base.specs.declared.cells.Shown.{Shown}
use Rattle.raid_base.specs.declared.cells.Shown.TheVariants.{Seen, Hidden}
use Rattle.raid_base.specs.declared.status.Failed.{Failed}
use Rattle.virtual_objects.specs.Objects.{Address}
use Rattle.text_lines.specs.Blocks.{block_text}
use Rattle.text_lines.specs.Lines.{line}
use Rattle.text_lines.specs.Writing.{Writes}
use Rattle.text_lines.proofs.LineLemmas.{lines_are}
use Rattle.report_text.specs.Appends.{Appends}
use Rattle.report_text.specs.Report.{ReportOf}
use Rattle.load_maker.specs.declared.tally.Tally.{Tally}
use Rattle.load_maker.specs.Summary.{course_lines, end_lines, is_hidden, is_lost, shown_lines, shown_of, sum_shown, summary_text, with_shown}
use Rattle.load_maker.specs.Tallies.{no_blocks, with_block, with_blocks}

lost-counts : (tally : Tally) (xs : List Shown) → (with_blocks tally xs).lost ≡ tally.lost + count_by is_lost xs
lost-counts tally [] = omega arith
lost-counts tally (Seen (contents.Bytes bytes) ∷ xs) = lost-counts (with_block tally (Seen (contents.Bytes bytes))) xs
lost-counts tally (Seen contents.Lost ∷ xs) =
    let more : count_by is_lost (Seen contents.Lost ∷ xs) ≡ 1 + count_by is_lost xs = sum_by-cons (λ (x : Shown). cond (is_lost x) 1 0) (Seen contents.Lost) xs in
    lost-counts (with_block tally (Seen contents.Lost)) xs ∙ omega (arith, more)
lost-counts tally (Hidden ∷ xs) = lost-counts (with_block tally Hidden) xs

hidden-counts : (tally : Tally) (xs : List Shown) → (with_blocks tally xs).hidden ≡ tally.hidden + count_by is_hidden xs
hidden-counts tally [] = omega arith
hidden-counts tally (Seen (contents.Bytes bytes) ∷ xs) = hidden-counts (with_block tally (Seen (contents.Bytes bytes))) xs
hidden-counts tally (Seen contents.Lost ∷ xs) = hidden-counts (with_block tally (Seen contents.Lost)) xs
hidden-counts tally (Hidden ∷ xs) =
    let more : count_by is_hidden (Hidden ∷ xs) ≡ 1 + count_by is_hidden xs = sum_by-cons (λ (x : Shown). cond (is_hidden x) 1 0) Hidden xs in
    hidden-counts (with_block tally Hidden) xs ∙ omega (arith, more)

sum-adds : (tally : Tally) (xs : List Shown) → (with_blocks tally xs).sum ≡ fold with_shown tally.sum xs
sum-adds tally [] = refl
sum-adds tally (Seen (contents.Bytes bytes) ∷ xs) = sum-adds (with_block tally (Seen (contents.Bytes bytes))) xs
sum-adds tally (Seen contents.Lost ∷ xs) = sum-adds (with_block tally (Seen contents.Lost)) xs
sum-adds tally (Hidden ∷ xs) = sum-adds (with_block tally Hidden) xs

-- the lines of what is shown
pub shown-is : (shown : List Shown) (tally : Tally) (l h s : List ℕ) → tally ≡ with_blocks no_blocks shown → l ≡ decimal tally.lost → h ≡ decimal tally.hidden → s ≡ block_text tally.sum → codes "lost " ++ (l ++ (codes " hidden " ++ (h ++ (codes "\nsum " ++ (s ++ codes "\nend\n"))))) ≡ flat_map line (shown_lines shown)
shown-is shown tally l h s t le he se =
    let lost : l ≡ decimal (count_by is_lost shown) = le ∙ ap (λ (k : Tally). decimal k.lost) t ∙ ap decimal (lost-counts no_blocks shown ∙ omega arith) in
    let hidden : h ≡ decimal (count_by is_hidden shown) = he ∙ ap (λ (k : Tally). decimal k.hidden) t ∙ ap decimal (hidden-counts no_blocks shown ∙ omega arith) in
    let sum : s ≡ block_text (sum_shown shown) = se ∙ ap (λ (k : Tally). block_text k.sum) t ∙ ap block_text (sum-adds no_blocks shown) in
    rw (lost, hidden, sum) (sym (lines_are (shown_lines shown)))

second-of : (f : Address → Shown) (xs : List Address) → map (λ (block : Address × Shown). block.1) (map (λ (a : Address). (a, f a)) xs) ≡ map f xs
second-of f [] = refl
second-of f (x ∷ xs) = ap (λ (ys : List Shown). f x ∷ ys) (second-of f xs)

-- the whole text, where the blocks are shown so
pub summary-is : (n : ℕ) (report : ReportOf) (f : Address → Shown) (xs : List Address) → report.blocks ≡ map (λ (a : Address). (a, f a)) xs → flat_map line (end_lines n report.results) ++ (flat_map line (course_lines report.results report.turns report.closed) ++ flat_map line (shown_lines (map f xs))) ≡ summary_text n report
unfolding summary_text
summary-is n report f xs b =
    let shown : shown_of report ≡ map f xs = ap (map (λ (block : Address × Shown). block.1)) b ∙ second-of f xs in
    let course = course_lines report.results report.turns report.closed in
    sym (
    ap (λ (s : List Shown). flat_map line (end_lines n report.results ++ course ++ shown_lines s)) shown
    ∙ flat_map-append line (end_lines n report.results) (course ++ shown_lines (map f xs))
    ∙ ap (λ (t : List ℕ). flat_map line (end_lines n report.results) ++ t) (flat_map-append line course (shown_lines (map f xs)))
    )

-- the same promise, as reports make it
pub appends-from-writes : {K : Type 0} (written : K → List ℕ) (tells : K → Bool) (faults : K → ℕ) (old later : K) (result : Result (Unit {0}) Failed) (text : List ℕ) → Writes written tells faults old later result text → Appends tells written faults old text result later
appends-from-writes written tells faults old later result text h = record {
  telling = h.telling;
  appended = h.appended;
  part = h.part;
  cause = h.cause;
}
