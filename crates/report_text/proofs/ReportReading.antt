-- A report from its text: what has been read of it at each line, and how reading ends.
use Rattle.std.proofs.Common.{◌≡◌, ◌≢◌, ℕ, zero, suc, ◌+◌, ◌-◌, ◌*◌, ◌^◌, ◌<◌, ◌≤◌, Bool, true, false, eqb, List, [], ◌∷◌, ◌++◌, map, length, Option, Some, None, refl, sym, ap, ◌∙◌, subst, arith, append_assoc, append-nil, length-append}
use Rattle.std.specs.Prelude.{option_and_then, All}
use Rattle.std.specs.List.{flat_map}
use Rattle.std.proofs.lemmas.List.Concat.{flat_map-append}
use Rattle.std.proofs.lemmas.List.{length-map}
use Rattle.std.proofs.lemmas.Bool.{eqb-true, eqb-false}
use Rattle.std.proofs.lemmas.List.Elements.{All-cons}
use Rattle.text_lines.specs.Lines.{IsLine}
use Rattle.report_text.specs.Report.{ReportOf, report_text}
use Rattle.report_text.specs.Ranges.{IsReport}
use Rattle.report_text.specs.Beginnings.{BeginsReport, IsFirstBad, ended}
use Rattle.report_text.specs.Items.{line_of}
use Rattle.report_text.specs.Drafting.{DraftOf}
use Rattle.report_text.specs.Drafts.{at, no_report, next, finished, finished_in}
use Rattle.report_text.specs.Steps.{StepsOn, IsStuck}
use Rattle.report_text.specs.declared.reading.items.Line.{Line}
use Rattle.report_text.specs.declared.reading.items.Line.TheVariants as lines
use Rattle.report_text.specs.declared.reading.drafts.Section.{Section}
use Rattle.report_text.specs.declared.reading.drafts.Section.TheVariants as sections
use Rattle.report_text.proofs.ReadingWords.{same-some, never-some, bound}
use Rattle.report_text.proofs.CauseReading.{glued}
use Rattle.report_text.proofs.ItemReading.{item_words, IsItem, item-line, line_of-again, line_of-takes}
use Rattle.report_text.proofs.RunLemmas.{AllItems, items-append, item_text, lines_text, report_items, report_lines, line-split, GoesOn, goes-on, run, run-then, run-left}
use Rattle.report_text.proofs.DraftLemmas.{IsPart, begun, begun-part, done-report, Runs, runs, items_of, Ends, ends, run-report, report-all}

-- nothing comes behind the last line
next-done : (r : ReportOf) (i : Line) (e : DraftOf) → next (at sections.Done r) i ≡ Some e → ⊥
next-done r lines.Head e q = never-some e ⊥ q
next-done r (lines.Job host job x) e q = never-some e ⊥ q
next-done r (lines.Turns n) e q = never-some e ⊥ q
next-done r (lines.Turn t) e q = never-some e ⊥ q
next-done r (lines.Block o b s) e q = never-some e ⊥ q
next-done r (lines.Row row c) e q = never-some e ⊥ q
next-done r lines.End e q = never-some e ⊥ q

-- reports whose lines go on from one another are one
record SameEnd (a b : ReportOf) (more : List Line) : Type 0 where
  same : a ≡ b
  none : more ≡ []

same-end : (a b : ReportOf) (more : List Line) → run (at sections.Done a) more ≡ Some (at sections.Done b) → SameEnd a b more
same-end a b [] q = record { same = ap (λ (d : DraftOf). d.report) (same-some (at sections.Done a) (at sections.Done b) q); none = refl }
same-end a b (i ∷ more) q = let one = bound (next (at sections.Done a) i) (λ x. run x more) (at sections.Done b) q in absurd (next-done a i one.0 one.1)

-- no report's text begins another's
pub texts-unique : (a b : ReportOf) → IsReport a → IsReport b → (rest : List ℕ) → report_text b ≡ report_text a ++ rest → (a ≡ b) × (rest ≡ [])
texts-unique a b ha hb rest e =
    let text : lines_text (report_items b) ≡ lines_text (report_items a) ++ rest = report_lines b ∙ e ∙ ap (λ x. x ++ rest) (sym (report_lines a)) in
    let on = goes-on (report_items a) (report_items b) rest (report-all a ha) (report-all b hb) text in
    let left = run-left begun (at sections.Done a) (at sections.Done b) (report_items a) on.more (run-report a ha) (ap (run begun) (sym on.items) ∙ run-report b hb) in
    let end = same-end a b on.more left in
    (end.same, on.text ∙ ap lines_text end.none)

-- so far the bytes are the text of lines that come one after another
pub record HasRead (bytes left : List ℕ) (d : DraftOf) (line : ℕ) : Type 0 where
  pub items : List Line
  pub all : AllItems items
  pub text : bytes ≡ lines_text items ++ left
  pub runs : run begun items ≡ Some d
  pub count : line ≡ length items + 1

pub has-read-none : (bytes : List ℕ) → HasRead bytes bytes begun 1
has-read-none bytes = record { items = []; all = tt; text = refl; runs = refl; count = refl }

lines-more : (items : List Line) (i : Line) (rest : List ℕ) → lines_text (items ++ i ∷ []) ++ rest ≡ lines_text items ++ (glued (item_words i) ++ 10 ∷ rest)
lines-more items i rest =
    ap (λ x. x ++ rest) (flat_map-append item_text items (i ∷ []) ∙ ap (λ x. lines_text items ++ x) (append-nil (item_text i)))
    ∙ append_assoc (lines_text items) (item_text i) rest ∙ ap (λ x. lines_text items ++ x) (append_assoc (glued (item_words i)) (10 ∷ []) rest)

-- one line more
pub has-read-more : (bytes left : List ℕ) (d : DraftOf) (line : ℕ) (later : DraftOf) (rest : List ℕ) → HasRead bytes left d line → StepsOn d left later rest → HasRead bytes rest later (line + 1)
has-read-more bytes left d line later rest h s =
    let spells = line_of-takes s.line s.item s.says in
    let size = length-append h.items (s.item ∷ []) in
    let count = h.count in
    record {
      items = h.items ++ s.item ∷ [];
      all = items-append h.items (s.item ∷ []) h.all (spells.0, tt);
      text = h.text ∙ ap (λ x. lines_text h.items ++ x) (s.text_is ∙ ap (λ x. x ++ 10 ∷ rest) spells.1) ∙ sym (lines-more h.items s.item rest);
      runs = run-then begun d later h.items (s.item ∷ []) h.runs (ap (option_and_then (λ (x : DraftOf). run x [])) s.comes);
      count = omega arith;
    }

-- what has been read of the text of a report, or of its beginning
pub record Continues (d : DraftOf) (left : List ℕ) (r : ReportOf) : Type 0 where
  pub more : List Line
  pub all : AllItems more
  pub text : left ≡ lines_text more
  pub runs : run d more ≡ Some (at sections.Done r)

continues : (bytes left rest : List ℕ) (d : DraftOf) (line : ℕ) (r : ReportOf) (h : HasRead bytes left d line) → IsReport r → report_text r ≡ lines_text h.items ++ rest → Continues d rest r
continues bytes left rest d line r h is e =
    let on = goes-on h.items (report_items r) rest h.all (report-all r is) (report_lines r ∙ e) in
    record {
      more = on.more;
      all = on.all;
      text = on.text;
      runs = run-left begun d (at sections.Done r) h.items on.more h.runs (ap (run begun) (sym on.items) ∙ run-report r is);
    }

text-cons : (i : Line) (more : List Line) → lines_text (i ∷ more) ≡ glued (item_words i) ++ 10 ∷ lines_text more
text-cons i more = append_assoc (glued (item_words i)) (10 ∷ []) (lines_text more)

-- a draft from which no line goes on is the end of no report
stuck-lines : (d : DraftOf) (left : List ℕ) (r : ReportOf) (more : List Line) → 0 < length left → IsStuck d left → AllItems more → left ≡ lines_text more → run d more ≡ Some (at sections.Done r) → ⊥
stuck-lines d left r [] some stuck all text q = let none : length left ≡ 0 = ap length text in omega arith
stuck-lines d left r (i ∷ more) some stuck all text q =
    let one = bound (next d i) (λ x. run x more) (at sections.Done r) q in
    stuck (glued (item_words i)) (lines_text more) i one.0 (item-line i all.0) (text ∙ text-cons i more) (line_of-again i all.0) one.1

pub stuck-report : (bytes left : List ℕ) (d : DraftOf) (line : ℕ) (r : ReportOf) → HasRead bytes left d line → 0 < length left → IsStuck d left → IsReport r → bytes ≡ report_text r → ⊥
stuck-report bytes left d line r h some stuck is e =
    let on = continues bytes left left d line r h is (sym e ∙ h.text) in
    stuck-lines d left r on.more some stuck on.all on.text on.runs

finished-lines : (d : DraftOf) (r : ReportOf) (more : List Line) → [] ≡ lines_text more → run d more ≡ Some (at sections.Done r) → finished d ≡ Some r
finished-lines d r [] text q = ap finished (same-some d (at sections.Done r) q)
finished-lines d r (i ∷ more) text q = absurd (omega (arith, ap length (text ∙ text-cons i more), length-append (glued (item_words i)) (10 ∷ lines_text more)))

-- at the end of a report's text, the report has been read
pub end-report : (bytes left : List ℕ) (d : DraftOf) (line : ℕ) (r : ReportOf) → HasRead bytes left d line → left ≡ [] → IsReport r → bytes ≡ report_text r → finished d ≡ Some r
end-report bytes left d line r h none is e =
    let on = continues bytes left left d line r h is (sym e ∙ h.text) in
    finished-lines d r on.more (sym none ∙ on.text) on.runs

finished-done : (s : Section) (q r : ReportOf) → finished_in s q ≡ Some r → at s q ≡ at sections.Done r
finished-done sections.Start q r e = never-some r _ e
finished-done sections.Jobs q r e = never-some r _ e
finished-done (sections.Turns n) q r e = never-some r _ e
finished-done sections.Rows q r e = never-some r _ e
finished-done sections.Done q r e = ap (at sections.Done) (same-some q r e)

-- a report that was read is one, and the bytes are its text
pub read-report : (bytes left : List ℕ) (d : DraftOf) (line : ℕ) (r : ReportOf) → HasRead bytes left d line → left ≡ [] → finished d ≡ Some r → IsReport r × (bytes ≡ report_text r)
read-report bytes left d line r h none e =
    let done : d ≡ at sections.Done r = finished-done d.section d.report r e in
    let have = runs begun d h.items h.all begun-part h.runs in
    let part : IsPart (at sections.Done r) = subst IsPart done have.part in
    let items : report_items r ≡ h.items = ap items_of (sym done) ∙ have.items in
    (done-report r part, h.text ∙ ap (λ x. lines_text h.items ++ x) none ∙ append-nil (lines_text h.items) ∙ ap lines_text (sym items) ∙ report_lines r)

-- the lines so far, as texts
abbrev texts : List Line → List (List ℕ)
texts items = map (λ (i : Line). glued (item_words i)) items

texts-ended : (items : List Line) → ended (texts items) ≡ lines_text items
texts-ended [] = refl
texts-ended (i ∷ items) = ap (λ x. item_text i ++ x) (texts-ended items)

texts-lines : (items : List Line) → AllItems items → All IsLine (texts items)
texts-lines [] h = λ k d l. absurd (omega arith)
texts-lines (i ∷ items) h = All-cons IsLine (glued (item_words i)) (texts items) (item-line i h.0) (texts-lines items h.1)

-- they begin a report's text
begins : (bytes left : List ℕ) (d : DraftOf) (line : ℕ) (h : HasRead bytes left d line) → BeginsReport (ended (texts h.items))
begins bytes left d line h =
    let have = runs begun d h.items h.all begun-part h.runs in
    let end = ends d have.part in
    let whole = h.items ++ end.more in
    let all = items-append h.items end.more h.all end.all in
    let run_whole = run-then begun d (at sections.Done end.report) h.items end.more h.runs end.runs in
    let done = runs begun (at sections.Done end.report) whole all begun-part run_whole in
    let items : report_items end.report ≡ whole = done.items in (
      end.report,
      lines_text end.more,
      done-report end.report done.part,
      sym (report_lines end.report) ∙ ap lines_text items ∙ flat_map-append item_text h.items end.more ∙ ap (λ x. x ++ lines_text end.more) (sym (texts-ended h.items)),
    )

ended-more : (before : List (List ℕ)) (after : List ℕ) → ended (before ++ after ∷ []) ≡ ended before ++ (after ++ 10 ∷ [])
ended-more before after = flat_map-append (λ (l : List ℕ). l ++ 10 ∷ []) before (after ∷ []) ∙ ap (λ x. ended before ++ x) (append-nil (after ++ 10 ∷ []))

-- the lines so far with one more, which begin a report's text
one-more : (d : DraftOf) (left after more rest : List ℕ) (r : ReportOf) (items : List Line) → IsStuck d left → IsLine after → left ≡ after ++ 10 ∷ more → AllItems items → after ++ 10 ∷ rest ≡ lines_text items → run d items ≡ Some (at sections.Done r) → ⊥
one-more d left after more rest r [] stuck is e all text q = omega (arith, ap length text, length-append after (10 ∷ rest))
one-more d left after more rest r (i ∷ items) stuck is e all text q =
    let split = line-split after (glued (item_words i)) rest (lines_text items) is (item-line i all.0) (text ∙ text-cons i items) in
    let one = bound (next d i) (λ x. run x items) (at sections.Done r) q in
    stuck after more i one.0 is e (ap line_of split.0 ∙ line_of-again i all.0) one.1

pub first-bad : (bytes left : List ℕ) (d : DraftOf) (line : ℕ) → HasRead bytes left d line → IsStuck d left → IsFirstBad line bytes
first-bad bytes left d line h stuck =
    let count = h.count in
    let size : length (texts h.items) ≡ length h.items = length-map h.items (λ (i : Line). glued (item_words i)) in
    record {
      before = texts h.items;
      rest = left;
      lines = texts-lines h.items h.all;
      count = omega arith;
      text = h.text ∙ ap (λ x. x ++ left) (sym (texts-ended h.items));
      begins = begins bytes left d line h;
      bad = λ after more is e b.
          let r = b.0 in
          let text : report_text r ≡ lines_text h.items ++ (after ++ 10 ∷ b.1) =
          b.3 ∙ ap (λ x. x ++ b.1) (ended-more (texts h.items) after) ∙ append_assoc (ended (texts h.items)) (after ++ 10 ∷ []) b.1 ∙ ap (λ x. x ++ ((after ++ 10 ∷ []) ++ b.1)) (texts-ended h.items)
          ∙ ap (λ x. lines_text h.items ++ x) (append_assoc after (10 ∷ []) b.1) in
          let on = continues bytes left (after ++ 10 ∷ b.1) d line r h b.2 text in
          one-more d left after more b.1 r on.more stuck is e on.all on.text on.runs;
    }

-- where nothing is left, there is no line
pub end-stuck : (d : DraftOf) (left : List ℕ) → left ≡ [] → IsStuck d left
end-stuck d left none = λ line rest item later is e says comes. omega (arith, ap length (sym none ∙ e), length-append line (10 ∷ rest))

-- lines are counted in 32 bits
item-long : (i : Line) → 2 ≤ length (item_text i)
item-long lines.Head = omega arith
item-long (lines.Job host job x) = omega arith
item-long (lines.Turns n) = omega arith
item-long (lines.Turn t) = omega arith
item-long (lines.Block o b s) = omega arith
item-long (lines.Row row c) = omega arith
item-long lines.End = omega arith

lines-long : (items : List Line) → 2 * length items ≤ length (lines_text items)
lines-long [] = omega arith
lines-long (i ∷ items) = let one = item-long i in let more = lines-long items in omega (arith, length-append (item_text i) (lines_text items))

pub line-fits : (bytes left : List ℕ) (d : DraftOf) (line : ℕ) → HasRead bytes left d line → length bytes < 2 ^ 32 → line + 1 < 2 ^ 32
line-fits bytes left d line h short =
    let long = lines-long h.items in
    let size : length bytes ≡ length (lines_text h.items) + length left = ap length h.text ∙ length-append (lines_text h.items) left in
    let count = h.count in
    omega arith

-- each line is shorter than the text
pub step-shorter : (d later : DraftOf) (left rest : List ℕ) → StepsOn d left later rest → length rest < length left
step-shorter d later left rest s = let size = ap length s.text_is in omega (arith, length-append s.line (10 ∷ rest))

-- a text that is one line without its end
ends-nowhere : (before rest : List ℕ) → IsLine (before ++ 10 ∷ rest) → ⊥
ends-nowhere [] rest h = h zero 10 (omega arith) refl
ends-nowhere (c ∷ before) rest h = ends-nowhere before rest (λ k d l. h (suc k) d (omega arith))

pub stuck-open : (d : DraftOf) (text : List ℕ) → IsLine text → IsStuck d text
stuck-open d text h = λ line rest item later is e says comes. ends-nowhere line rest (subst IsLine e h)

-- a line that says nothing, or nothing that may come next
pub stuck-other : (d : DraftOf) (text front behind_it : List ℕ) → IsLine front → text ≡ front ++ 10 ∷ behind_it → (let none : Option Line = None in none ≡ line_of front) → IsStuck d text
stuck-other d text front behind_it h t n = λ line rest item later is e says comes.
    let split = line-split front line behind_it rest h is (sym t ∙ e) in
    never-some item ⊥ (n ∙ ap line_of split.0 ∙ says)

pub stuck-next : (d : DraftOf) (text front behind_it : List ℕ) (found : Line) → IsLine front → text ≡ front ++ 10 ∷ behind_it → Some found ≡ line_of front → (let none : Option DraftOf = None in none ≡ next d found) → IsStuck d text
stuck-next d text front behind_it found h t n f = λ line rest item later is e says comes.
    let split = line-split front line behind_it rest h is (sym t ∙ e) in
    let same : found ≡ item = same-some found item (n ∙ ap line_of split.0 ∙ says) in
    never-some later ⊥ (f ∙ ap (next d) same ∙ comes)

pub steps-on : (d : DraftOf) (text front behind_it : List ℕ) (found : Line) (later : DraftOf) → IsLine front → text ≡ front ++ 10 ∷ behind_it → Some found ≡ line_of front → Some later ≡ next d found → StepsOn d text later behind_it
steps-on d text front behind_it found later h t n f = record { line = front; item = found; whole = h; text_is = t; says = sym n; comes = sym f }

pub empty : (text : List ℕ) → length text ≡ 0 → text ≡ []
empty [] e = refl
empty (c ∷ text) e = absurd (omega arith)

pub some-left : (n : ℕ) → false ≡ eqb n 0 → 0 < n
some-left n e = let other : n ≡ 0 → ⊥ = eqb-false n 0 (sym e) in omega arith

pub none-left : (text : List ℕ) → true ≡ eqb (length text) 0 → text ≡ []
none-left text e = empty text (eqb-true (length text) 0 (sym e))
