-- A report as its lines, one after another.
use Rattle.std.proofs.Common.{◌≡◌, ◌≢◌, ℕ, zero, suc, ◌+◌, ◌-◌, ◌^◌, ◌<◌, ◌≤◌, Bool, true, false, cond, eqb, ◌&&◌, List, [], ◌∷◌, ◌++◌, map, length, Option, Some, None, refl, sym, ap, ◌∙◌, subst, arith, decimal, append_assoc, append-nil, length-append, lit<}
use Rattle.std.specs.Prelude.{option_and_then, codes, All}
use Rattle.std.specs.List.{flat_map}
use Rattle.std.proofs.lemmas.Bool.{eq-eqb, eqb-true, ne_eqb, and_parts}
use Rattle.std.proofs.lemmas.List.Concat.{flat_map-append}
use Rattle.std.proofs.lemmas.List.Folds.{flat_map-map}
use Rattle.std.proofs.lemmas.List.Elements.{All-cons, All-append}
use Rattle.raid_base.specs.declared.cells.Content.{Content}
use Rattle.raid_base.specs.declared.cells.Shown.{Shown}
use Rattle.raid_base.specs.declared.messages.Turn.{Turn}
use Rattle.raid_base.specs.declared.jobs.JobResult.{JobResult}
use Rattle.virtual_objects.specs.Objects.{Address}
use Rattle.text_lines.specs.Lines.{IsLine, line}
use Rattle.report_text.specs.Report.{ReportOf, report_text, job_line, job_lines, turn_line, turn_lines, block_line, row_line, row_lines}
use Rattle.report_text.specs.Endings.{EndingOf}
use Rattle.report_text.specs.Ranges.{IsWithin, IsCount, IsJob, AreJobs, IsTurn, IsBlockShown, EachFollows, job_follows, block_follows, IsReport}
use Rattle.report_text.specs.Items.{line_of}
use Rattle.report_text.specs.Drafting.{DraftOf}
use Rattle.report_text.specs.Drafts.{at, no_report, with_job, with_turn, with_block, with_row, head_in, job_in, turns_in, turn_in, block_in, row_in, end_in, next, finished}
use Rattle.report_text.specs.declared.reading.items.Line.{Line}
use Rattle.report_text.specs.declared.reading.items.Line.TheVariants as lines
use Rattle.report_text.specs.declared.reading.drafts.Section.{Section}
use Rattle.report_text.specs.declared.reading.drafts.Section.TheVariants as sections
use Rattle.report_text.proofs.ReadingWords.{same-some, never-some, bound}
use Rattle.report_text.proofs.ContentReading.{taken}
use Rattle.report_text.proofs.CauseReading.{glued, joined-glued}
use Rattle.report_text.proofs.ItemReading.{item_words, IsItem, item-line, line_of-again}

abbrev pub AllItems : List Line → Type 0
AllItems [] = Unit {0}
AllItems (item ∷ items) = IsItem item × AllItems items

pub items-append : (xs ys : List Line) → AllItems xs → AllItems ys → AllItems (xs ++ ys)
items-append [] ys h k = k
items-append (x ∷ xs) ys h k = (h.0, items-append xs ys h.1 k)

-- the text of lines
abbrev pub item_text : Line → List ℕ
item_text item = glued (item_words item) ++ 10 ∷ []

abbrev pub lines_text : List Line → List ℕ
lines_text items = flat_map item_text items

-- the lines of a report's parts
abbrev pub job_item : JobResult → List Content → ℕ → Line
job_item r all flags = lines.Job r.host r.job (record { «end» = r.«end»; contents = all; flags = flags })

abbrev pub job_items : List JobResult → List (List Content) → List ℕ → List Line
job_items [] contents flags = []
job_items (r ∷ rs) [] flags = []
job_items (r ∷ rs) (all ∷ contents) [] = []
job_items (r ∷ rs) (all ∷ contents) (blocks ∷ flags) = job_item r all blocks ∷ job_items rs contents flags

abbrev pub block_item : Address × Shown → Line
block_item b = lines.Block b.0.object b.0.block b.1

abbrev pub row_items : ℕ → List Bool → List Line
row_items row [] = []
row_items row (c ∷ cs) = lines.Row row c ∷ row_items (row + 1) cs

-- those of a whole report
abbrev pub report_items : ReportOf → List Line
report_items r =
    lines.Head ∷ (job_items r.results r.contents r.flags ++ lines.Turns (length r.turns) ∷ (map lines.Turn r.turns ++ (map block_item r.blocks ++ (row_items 0 r.closed ++ lines.End ∷ []))))

-- their text is the report's
line-glued : (words : List (List ℕ)) → line words ≡ glued words ++ 10 ∷ []
line-glued words = ap (λ t. t ++ 10 ∷ []) (joined-glued words)

job_lines-are : (rs : List JobResult) (cs : List (List Content)) (fs : List ℕ) → lines_text (job_items rs cs fs) ≡ job_lines rs cs fs
job_lines-are [] cs fs = refl
job_lines-are (r ∷ rs) [] fs = refl
job_lines-are (r ∷ rs) (c ∷ cs) [] = refl
job_lines-are (r ∷ rs) (c ∷ cs) (f ∷ fs) = ap (λ t. t ++ lines_text (job_items rs cs fs)) (sym (line-glued (item_words (job_item r c f)))) ∙ ap (λ t. job_line r c f ++ t) (job_lines-are rs cs fs)

turn_lines-are : (ts : List Turn) → lines_text (map lines.Turn ts) ≡ flat_map turn_line ts
turn_lines-are [] = refl
turn_lines-are (t ∷ ts) = ap (λ x. x ++ lines_text (map lines.Turn ts)) (sym (line-glued (item_words (lines.Turn t)))) ∙ ap (λ x. turn_line t ++ x) (turn_lines-are ts)

block_lines-are : (bs : List (Address × Shown)) → lines_text (map block_item bs) ≡ flat_map block_line bs
block_lines-are [] = refl
block_lines-are (b ∷ bs) = ap (λ x. x ++ lines_text (map block_item bs)) (sym (line-glued (item_words (block_item b)))) ∙ ap (λ x. block_line b ++ x) (block_lines-are bs)

row_lines-are : (row : ℕ) (cs : List Bool) → lines_text (row_items row cs) ≡ row_lines row cs
row_lines-are row [] = refl
row_lines-are row (c ∷ cs) = ap (λ x. x ++ lines_text (row_items (row + 1) cs)) (sym (line-glued (item_words (lines.Row row c)))) ∙ ap (λ x. row_line row c ++ x) (row_lines-are (row + 1) cs)

regrouped : (h j t b r e : List ℕ) → ((((h ++ j) ++ t) ++ b) ++ r) ++ e ≡ h ++ (j ++ (t ++ (b ++ (r ++ e))))
regrouped h j t b r e = simp append_assoc

pub report_lines : (r : ReportOf) → lines_text (report_items r) ≡ report_text r
report_lines r =
    let rows = row_items 0 r.closed ++ lines.End ∷ [] in
    let blocks = map block_item r.blocks ++ rows in
    let turns = map lines.Turn r.turns ++ blocks in
    let rows_are : lines_text rows ≡ row_lines 0 r.closed ++ line (codes "end" ∷ []) =
    flat_map-append item_text (row_items 0 r.closed) (lines.End ∷ []) ∙ ap (λ x. x ++ lines_text (lines.End ∷ [])) (row_lines-are 0 r.closed) in
    let blocks_are : lines_text blocks ≡ flat_map block_line r.blocks ++ (row_lines 0 r.closed ++ line (codes "end" ∷ [])) =
    flat_map-append item_text (map block_item r.blocks) rows ∙ ap (λ x. x ++ lines_text rows) (block_lines-are r.blocks) ∙ ap (λ x. flat_map block_line r.blocks ++ x) rows_are in
    let turns_are : lines_text turns ≡ flat_map turn_line r.turns ++ (flat_map block_line r.blocks ++ (row_lines 0 r.closed ++ line (codes "end" ∷ []))) =
    flat_map-append item_text (map lines.Turn r.turns) blocks ∙ ap (λ x. x ++ lines_text blocks) (turn_lines-are r.turns) ∙ ap (λ x. flat_map turn_line r.turns ++ x) blocks_are in
    let count : List ℕ = line (codes "turns" ∷ decimal (length r.turns) ∷ []) in
    let counted : item_text (lines.Turns (length r.turns)) ≡ count = sym (line-glued (item_words (lines.Turns (length r.turns)))) in
    ap (λ x. item_text lines.Head ++ x)
    (flat_map-append item_text (job_items r.results r.contents r.flags) (lines.Turns (length r.turns) ∷ turns)
    ∙ ap (λ x. x ++ lines_text (lines.Turns (length r.turns) ∷ turns)) (job_lines-are r.results r.contents r.flags)
    ∙ ap (λ x. job_lines r.results r.contents r.flags ++ x) (ap (λ x. x ++ lines_text turns) counted ∙ ap (λ x. count ++ x) turns_are ∙ sym (append_assoc count (flat_map turn_line r.turns) (flat_map block_line r.blocks ++ (row_lines 0 r.closed ++ line (codes "end" ∷ []))))))
    ∙ sym (regrouped (line (codes "report" ∷ codes "1" ∷ [])) (job_lines r.results r.contents r.flags) (turn_lines r.turns) (flat_map block_line r.blocks) (row_lines 0 r.closed) (line (codes "end" ∷ [])))

-- a line, and what stands behind it
pub line-split : (a b x y : List ℕ) → IsLine a → IsLine b → a ++ 10 ∷ x ≡ b ++ 10 ∷ y → (a ≡ b) × (x ≡ y)
line-split [] [] x y h k e = (refl, (let same : x ≡ y = cc in same))
line-split [] (c ∷ b) x y h k e = absurd (k zero c (omega arith) (let same : 10 ≡ c = cc in sym same))
line-split (c ∷ a) [] x y h k e = absurd (h zero c (omega arith) (let same : c ≡ 10 = cc in same))
line-split (c ∷ a) (d ∷ b) x y h k e =
    let first : c ≡ d = cc in
    let rest : a ++ 10 ∷ x ≡ b ++ 10 ∷ y = cc in
    let more = line-split a b x y (λ i z l. h (suc i) z (omega arith)) (λ i z l. k (suc i) z (omega arith)) rest in
    (ap (λ z. z ∷ a) first ∙ ap (λ z. d ∷ z) more.0, more.1)

-- two lines of one text are one
pub item-same : (i j : Line) → IsItem i → IsItem j → glued (item_words i) ≡ glued (item_words j) → i ≡ j
item-same i j h k e = same-some i j (sym (line_of-again i h) ∙ ap line_of e ∙ line_of-again j k)

text-cons : (i : Line) (is : List Line) (rest : List ℕ) → lines_text (i ∷ is) ++ rest ≡ glued (item_words i) ++ 10 ∷ (lines_text is ++ rest)
text-cons i is rest = append_assoc (glued (item_words i) ++ 10 ∷ []) (lines_text is) rest ∙ append_assoc (glued (item_words i)) (10 ∷ []) (lines_text is ++ rest)

-- what stands behind some lines of a text of lines
pub record GoesOn (is js : List Line) (rest : List ℕ) : Type 0 where
  pub more : List Line
  pub all : AllItems more
  pub items : js ≡ is ++ more
  pub text : rest ≡ lines_text more

pub goes-on : (is js : List Line) (rest : List ℕ) → AllItems is → AllItems js → lines_text js ≡ lines_text is ++ rest → GoesOn is js rest
goes-on [] js rest h k e = record { more = js; all = k; items = refl; text = sym e }
goes-on (i ∷ is) [] rest h k e = absurd (omega (arith, ap length (e ∙ text-cons i is rest), length-append (glued (item_words i)) (10 ∷ (lines_text is ++ rest))))
goes-on (i ∷ is) (j ∷ js) rest h k e =
    let both : glued (item_words j) ++ 10 ∷ lines_text js ≡ glued (item_words i) ++ 10 ∷ (lines_text is ++ rest) = sym (append_assoc (glued (item_words j)) (10 ∷ []) (lines_text js)) ∙ e ∙ text-cons i is rest in
    let split = line-split (glued (item_words j)) (glued (item_words i)) (lines_text js) (lines_text is ++ rest) (item-line j k.0) (item-line i h.0) both in
    let same = item-same j i k.0 h.0 split.0 in
    let later = goes-on is js rest h.1 k.1 split.1 in
    record { more = later.more; all = later.all; items = ap (λ x. x ∷ js) same ∙ ap (λ xs. i ∷ xs) later.items; text = later.text }

-- lines taken one after another
abbrev pub run : DraftOf → List Line → Option DraftOf
run d [] = Some d
run d (item ∷ items) = option_and_then (λ e. run e items) (next d item)

pub run-step : (d e f : DraftOf) (i : Line) (is : List Line) → next d i ≡ Some e → run e is ≡ Some f → run d (i ∷ is) ≡ Some f
run-step d e f i is n r = ap (option_and_then (λ x. run x is)) n ∙ r

pub run-then : (d e f : DraftOf) (is js : List Line) → run d is ≡ Some e → run e js ≡ Some f → run d (is ++ js) ≡ Some f
run-then d e f [] js h k = ap (λ x. run x js) (same-some d e h) ∙ k
run-then d e f (i ∷ is) js h k =
    let step = bound (next d i) (λ x. run x is) e h in
    run-step d step.0 f i (is ++ js) step.1 (run-then step.0 e f is js step.2 k)

-- and what is left of them
pub run-left : (d e f : DraftOf) (is js : List Line) → run d is ≡ Some e → run d (is ++ js) ≡ Some f → run e js ≡ Some f
run-left d e f [] js h k = ap (λ x. run x js) (sym (same-some d e h)) ∙ k
run-left d e f (i ∷ is) js h k =
    let one = bound (next d i) (λ x. run x is) e h in
    let two = bound (next d i) (λ x. run x (is ++ js)) f k in
    let same : two.0 ≡ one.0 = same-some two.0 one.0 (sym two.1 ∙ one.1) in
    run-left one.0 e f is js one.2 (ap (λ x. run x (is ++ js)) (sym same) ∙ two.2)
