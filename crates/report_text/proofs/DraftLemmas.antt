-- What has been read stands in order, can be gone on with, and each report is read so.
use Rattle.std.proofs.Common.{◌≡◌, ◌≢◌, ℕ, zero, suc, ◌+◌, ◌-◌, ◌^◌, ◌<◌, ◌≤◌, Bool, true, false, cond, eqb, ◌&&◌, List, [], ◌∷◌, ◌++◌, map, length, Option, Some, None, refl, sym, ap, ◌∙◌, subst, arith, append_assoc, append-nil, length-append, lit<}
use Rattle.std.specs.Prelude.{All}
use Rattle.std.proofs.lemmas.Bool.{eq-eqb, eqb-true, ne_eqb, and_parts}
use Rattle.std.proofs.lemmas.List.Elements.{All-cons, All-append}
use Rattle.std.proofs.lemmas.List.{map-append}
use Rattle.raid_base.specs.declared.cells.Content.{Content}
use Rattle.raid_base.specs.declared.cells.Shown.{Shown}
use Rattle.raid_base.specs.declared.messages.Turn.{Turn}
use Rattle.raid_base.specs.declared.numbers.HostNo.{HostNo}
use Rattle.raid_base.specs.declared.jobs.JobResult.{JobResult}
use Rattle.virtual_objects.specs.Objects.{Address}
use Rattle.report_text.specs.Report.{ReportOf}
use Rattle.report_text.specs.Endings.{EndingOf}
use Rattle.report_text.specs.Ranges.{IsWithin, IsCount, IsJob, AreJobs, IsTurn, IsBlockShown, EachFollows, job_follows, block_follows, IsReport}
use Rattle.report_text.specs.Drafting.{DraftOf}
use Rattle.report_text.specs.Drafts.{at, no_report, with_job, with_turn, with_block, with_row, head_in, job_in, turns_in, turn_in, block_in, row_in, end_in, next}
use Rattle.report_text.specs.declared.reading.items.Line.{Line}
use Rattle.report_text.specs.declared.reading.items.Line.TheVariants as lines
use Rattle.report_text.specs.declared.reading.drafts.Section.{Section}
use Rattle.report_text.specs.declared.reading.drafts.Section.TheVariants as sections
use Rattle.report_text.proofs.ReadingWords.{same-some, never-some, bound}
use Rattle.report_text.proofs.ContentReading.{taken}
use Rattle.report_text.proofs.ItemReading.{IsItem}
use Rattle.report_text.proofs.RunLemmas.{AllItems, items-append, job_item, job_items, block_item, row_items, report_items, run, run-step, run-then}

abbrev pub JobFollows : List JobResult → JobResult → Type 0
JobFollows before r = job_follows before r.host r.job ≡ true

abbrev pub BlockFollows : List (Address × Shown) → Address × Shown → Type 0
BlockFollows before b = block_follows before b.0.object b.0.block ≡ true

-- what has been read keeps its ranges and its order
pub record IsKept (r : ReportOf) : Type 0 where
  pub jobs : AreJobs r.results r.contents r.flags
  pub jobs_rise : EachFollows JobFollows [] r.results
  pub turns : All IsTurn r.turns
  pub blocks : All IsBlockShown r.blocks
  pub blocks_in_order : EachFollows BlockFollows [] r.blocks
  pub rows_few : length r.closed ≤ 4096

-- and no more has been read than comes before
abbrev pub Fits : Section → ReportOf → Type 0
Fits sections.Start r = r ≡ no_report
Fits sections.Jobs r = (r.turns ≡ []) × (r.blocks ≡ []) × (r.closed ≡ [])
Fits (sections.Turns left) r = IsCount (length r.turns + left) × (left ≢ 0 → r.blocks ≡ []) × (r.closed ≡ [])
Fits sections.Rows r = IsCount (length r.turns) × (1 ≤ length r.closed)
Fits sections.Done r = IsCount (length r.turns) × (1 ≤ length r.closed)

pub record IsPart (d : DraftOf) : Type 0 where
  pub kept : IsKept d.report
  pub fits : Fits d.section d.report

-- the lines that have been read
abbrev pub items_in : Section → ReportOf → List Line
items_in sections.Start r = []
items_in sections.Jobs r = lines.Head ∷ job_items r.results r.contents r.flags
items_in (sections.Turns left) r = lines.Head ∷ (job_items r.results r.contents r.flags ++ lines.Turns (length r.turns + left) ∷ (map lines.Turn r.turns ++ map block_item r.blocks))
items_in sections.Rows r = lines.Head ∷ (job_items r.results r.contents r.flags ++ lines.Turns (length r.turns) ∷ (map lines.Turn r.turns ++ (map block_item r.blocks ++ row_items 0 r.closed)))
items_in sections.Done r = report_items r

abbrev pub items_of : DraftOf → List Line
items_of d = items_in d.section d.report

-- one more of each list
jobs-push : (rs : List JobResult) (cs : List (List Content)) (fs : List ℕ) (r : JobResult) (c : List Content) (f : ℕ) → AreJobs rs cs fs → IsJob r c f → AreJobs (rs ++ r ∷ []) (cs ++ c ∷ []) (fs ++ f ∷ [])
jobs-push [] [] [] r c f h j = (j, tt)
jobs-push [] [] (g ∷ fs) r c f h j = absurd h
jobs-push [] (d ∷ cs) fs r c f h j = absurd h
jobs-push (x ∷ rs) [] fs r c f h j = absurd h
jobs-push (x ∷ rs) (d ∷ cs) [] r c f h j = absurd h
jobs-push (x ∷ rs) (d ∷ cs) (g ∷ fs) r c f h j = (h.0, jobs-push rs cs fs r c f h.1 j)

items-push : (rs : List JobResult) (cs : List (List Content)) (fs : List ℕ) (r : JobResult) (c : List Content) (f : ℕ) → AreJobs rs cs fs → job_items (rs ++ r ∷ []) (cs ++ c ∷ []) (fs ++ f ∷ []) ≡ job_items rs cs fs ++ job_item r c f ∷ []
items-push [] [] [] r c f h = refl
items-push [] [] (g ∷ fs) r c f h = absurd h
items-push [] (d ∷ cs) fs r c f h = absurd h
items-push (x ∷ rs) [] fs r c f h = absurd h
items-push (x ∷ rs) (d ∷ cs) [] r c f h = absurd h
items-push (x ∷ rs) (d ∷ cs) (g ∷ fs) r c f h = ap (λ xs. job_item x d g ∷ xs) (items-push rs cs fs r c f h.1)

follows-push : {X : Type 0} (F : List X → X → Type 0) (before xs : List X) (x : X) → EachFollows F before xs → F (before ++ xs) x → EachFollows F before (xs ++ x ∷ [])
follows-push F before [] x h f = (subst (λ ys. F ys x) (append-nil before) f, tt)
follows-push F before (y ∷ ys) x h f = (h.0, follows-push F (before ++ y ∷ []) ys x h.1 (subst (λ zs. F zs x) (sym (append_assoc before (y ∷ []) ys)) f))

all-push : {X : Type 0} (P : X → Type 0) (xs : List X) (x : X) → All P xs → P x → All P (xs ++ x ∷ [])
all-push P xs x h p = All-append P xs (x ∷ []) h (All-cons P x [] p (λ k d l. absurd (omega arith)))

rows-push : (row : ℕ) (cs : List Bool) (c : Bool) → row_items row (cs ++ c ∷ []) ≡ row_items row cs ++ lines.Row (row + length cs) c ∷ []
rows-push row [] c = ap (λ k. lines.Row k c ∷ []) (let e : row ≡ row + 0 = omega arith in e)
rows-push row (d ∷ cs) c =
    let next : row + 1 + length cs ≡ row + length (d ∷ cs) = omega arith in
    ap (λ x. lines.Row row d ∷ x) (rows-push (row + 1) cs c ∙ ap (λ k. row_items (row + 1) cs ++ lines.Row k c ∷ []) next)

-- one line more
pub record Steps (d : DraftOf) (i : Line) (e : DraftOf) : Type 0 where
  pub part : IsPart e
  pub items : items_of e ≡ items_of d ++ i ∷ []

step-head : (s : Section) (r : ReportOf) (e : DraftOf) → IsPart (at s r) → head_in s r ≡ Some e → Steps (at s r) lines.Head e
step-head sections.Start r e h q =
    let empty : r ≡ no_report = h.fits in
    let made : Steps (at sections.Start r) lines.Head (at sections.Jobs r) = record {
      part = record { kept = h.kept; fits = (ap (λ (x : ReportOf). x.turns) empty, ap (λ (x : ReportOf). x.blocks) empty, ap (λ (x : ReportOf). x.closed) empty) };
      items = ap (λ (x : ReportOf). lines.Head ∷ job_items x.results x.contents x.flags) empty;
    } in
    subst (Steps (at sections.Start r) lines.Head) (same-some (at sections.Jobs r) e q) made
step-head sections.Jobs r e h q = never-some e _ q
step-head (sections.Turns n) r e h q = never-some e _ q
step-head sections.Rows r e h q = never-some e _ q
step-head sections.Done r e h q = never-some e _ q

step-job : (s : Section) (r : ReportOf) (host : HostNo) (job : ℕ) (x : EndingOf) (e : DraftOf) → IsItem (lines.Job host job x) → IsPart (at s r) → job_in s r host job x ≡ Some e → Steps (at s r) (lines.Job host job x) e
step-job sections.Jobs r host job x e i h q =
    let both = taken (job_follows r.results host job) (at sections.Jobs (with_job r host job x)) e q in
    let k = h.kept in
    let result : JobResult = record { host = host; job = job; «end» = x.«end» } in
    let made : Steps (at sections.Jobs r) (lines.Job host job x) (at sections.Jobs (with_job r host job x)) = record {
      part = record {
        kept = record {
          jobs = jobs-push r.results r.contents r.flags result x.contents x.flags k.jobs (record { host = i.0; job = i.1; «end» = i.2 });
          jobs_rise = follows-push JobFollows [] r.results result k.jobs_rise both.0;
          turns = k.turns;
          blocks = k.blocks;
          blocks_in_order = k.blocks_in_order;
          rows_few = k.rows_few;
        };
        fits = h.fits;
      };
      items = ap (λ xs. lines.Head ∷ xs) (items-push r.results r.contents r.flags result x.contents x.flags k.jobs);
    } in
    subst (Steps (at sections.Jobs r) (lines.Job host job x)) both.1 made
step-job sections.Start r host job x e i h q = never-some e _ q
step-job (sections.Turns n) r host job x e i h q = never-some e _ q
step-job sections.Rows r host job x e i h q = never-some e _ q
step-job sections.Done r host job x e i h q = never-some e _ q

step-turns : (s : Section) (r : ReportOf) (count : ℕ) (e : DraftOf) → IsCount count → IsPart (at s r) → turns_in s r count ≡ Some e → Steps (at s r) (lines.Turns count) e
step-turns sections.Jobs r count e i h q =
    let none = h.fits in
    let size : length r.turns ≡ 0 = ap length none.0 in
    let counted : length r.turns + count ≡ count = omega arith in
    let high = i.high in
    let made : Steps (at sections.Jobs r) (lines.Turns count) (at (sections.Turns count) r) = record {
      part = record { kept = h.kept; fits = (record { low = omega arith; high = omega arith }, λ _. none.1, none.2) };
      items = ap (λ xs. lines.Head ∷ (job_items r.results r.contents r.flags ++ xs)) (ap (λ n. lines.Turns n ∷ (map lines.Turn r.turns ++ map block_item r.blocks)) counted ∙ ap (λ ts. lines.Turns count ∷ (map lines.Turn ts ++ map block_item r.blocks)) none.0 ∙ ap (λ bs. lines.Turns count ∷ map block_item bs) none.1);
    } in
    subst (Steps (at sections.Jobs r) (lines.Turns count)) (same-some (at (sections.Turns count) r) e q) made
step-turns sections.Start r count e i h q = never-some e _ q
step-turns (sections.Turns n) r count e i h q = never-some e _ q
step-turns sections.Rows r count e i h q = never-some e _ q
step-turns sections.Done r count e i h q = never-some e _ q

chosen-other : {X : Type 0} (b : Bool) (x y : X) → cond b None (Some x) ≡ Some y → (b ≡ false) × (x ≡ y)
chosen-other true x y e = never-some y ((true ≡ false) × (x ≡ y)) e
chosen-other false x y e = (refl, same-some x y e)

eqb-no : (n : ℕ) → eqb n 0 ≡ false → n ≢ 0
eqb-no n h e = let no : true ≡ false = sym (eq-eqb n 0 e) ∙ h in cc

step-turn : (s : Section) (r : ReportOf) (turn : Turn) (e : DraftOf) → IsTurn turn → IsPart (at s r) → turn_in s r turn ≡ Some e → Steps (at s r) (lines.Turn turn) e
step-turn (sections.Turns left) r turn e i h q =
    let both = chosen-other (eqb left 0) (at (sections.Turns (left - 1)) (with_turn r turn)) e q in
    let some : left ≢ 0 = eqb-no left both.0 in
    let k = h.kept in
    let fits = h.fits in
    let count = fits.0 in
    let high = count.high in
    let size : length (r.turns ++ turn ∷ []) ≡ length r.turns + 1 = length-append r.turns (turn ∷ []) in
    let counted : length (r.turns ++ turn ∷ []) + (left - 1) ≡ length r.turns + left = omega arith in
    let none = fits.1 some in
    let turns : map lines.Turn (r.turns ++ turn ∷ []) ≡ map lines.Turn r.turns ++ lines.Turn turn ∷ [] = map-append lines.Turn r.turns (turn ∷ []) in
    let tail : map lines.Turn (r.turns ++ turn ∷ []) ++ map block_item r.blocks ≡ (map lines.Turn r.turns ++ map block_item r.blocks) ++ lines.Turn turn ∷ [] =
    ap (λ bs. map lines.Turn (r.turns ++ turn ∷ []) ++ map block_item bs) none ∙ append-nil (map lines.Turn (r.turns ++ turn ∷ [])) ∙ turns
    ∙ ap (λ ts. ts ++ lines.Turn turn ∷ []) (sym (append-nil (map lines.Turn r.turns))) ∙ ap (λ bs. (map lines.Turn r.turns ++ map block_item bs) ++ lines.Turn turn ∷ []) (sym none) in
    let made : Steps (at (sections.Turns left) r) (lines.Turn turn) (at (sections.Turns (left - 1)) (with_turn r turn)) = record {
      part = record {
        kept = record { jobs = k.jobs; jobs_rise = k.jobs_rise; turns = all-push IsTurn r.turns turn k.turns i; blocks = k.blocks; blocks_in_order = k.blocks_in_order; rows_few = k.rows_few };
        fits = (record { low = omega arith; high = omega arith }, λ _. none, fits.2);
      };
      items = ap (λ n. lines.Head ∷ (job_items r.results r.contents r.flags ++ lines.Turns n ∷ (map lines.Turn (r.turns ++ turn ∷ []) ++ map block_item r.blocks))) counted
          ∙ ap (λ xs. lines.Head ∷ (job_items r.results r.contents r.flags ++ lines.Turns (length r.turns + left) ∷ xs)) tail
          ∙ ap (λ xs. lines.Head ∷ xs) (sym (append_assoc (job_items r.results r.contents r.flags) (lines.Turns (length r.turns + left) ∷ (map lines.Turn r.turns ++ map block_item r.blocks)) (lines.Turn turn ∷ [])));
    } in
    subst (Steps (at (sections.Turns left) r) (lines.Turn turn)) both.1 made
step-turn sections.Start r turn e i h q = never-some e _ q
step-turn sections.Jobs r turn e i h q = never-some e _ q
step-turn sections.Rows r turn e i h q = never-some e _ q
step-turn sections.Done r turn e i h q = never-some e _ q

step-block : (s : Section) (r : ReportOf) (object : List ℕ) (block : ℕ) (shown : Shown) (e : DraftOf) → IsItem (lines.Block object block shown) → IsPart (at s r) → block_in s r object block shown ≡ Some e → Steps (at s r) (lines.Block object block shown) e
step-block (sections.Turns left) r object block shown e i h q =
    let both = taken (eqb left 0 && block_follows r.blocks object block) (at (sections.Turns left) (with_block r object block shown)) e q in
    let tests = and_parts (eqb left 0) (block_follows r.blocks object block) both.0 in
    let zero_left : left ≡ 0 = eqb-true left 0 tests.0 in
    let k = h.kept in
    let fits = h.fits in
    let entry : Address × Shown = (record { object = object; block = block }, shown) in
    let blocks : map block_item (r.blocks ++ entry ∷ []) ≡ map block_item r.blocks ++ lines.Block object block shown ∷ [] = map-append block_item r.blocks (entry ∷ []) in
    let made : Steps (at (sections.Turns left) r) (lines.Block object block shown) (at (sections.Turns left) (with_block r object block shown)) = record {
      part = record {
        kept = record {
          jobs = k.jobs;
          jobs_rise = k.jobs_rise;
          turns = k.turns;
          blocks = all-push IsBlockShown r.blocks entry k.blocks (record { object = i.0; number = i.1; shown = i.2 });
          blocks_in_order = follows-push BlockFollows [] r.blocks entry k.blocks_in_order tests.1;
          rows_few = k.rows_few;
        };
        fits = (fits.0, λ some. absurd (some zero_left), fits.2);
      };
      items = ap (λ xs. lines.Head ∷ (job_items r.results r.contents r.flags ++ lines.Turns (length r.turns + left) ∷ (map lines.Turn r.turns ++ xs))) blocks
          ∙ ap (λ xs. lines.Head ∷ (job_items r.results r.contents r.flags ++ lines.Turns (length r.turns + left) ∷ xs)) (sym (append_assoc (map lines.Turn r.turns) (map block_item r.blocks) (lines.Block object block shown ∷ [])))
          ∙ ap (λ xs. lines.Head ∷ xs) (sym (append_assoc (job_items r.results r.contents r.flags) (lines.Turns (length r.turns + left) ∷ (map lines.Turn r.turns ++ map block_item r.blocks)) (lines.Block object block shown ∷ [])));
    } in
    subst (Steps (at (sections.Turns left) r) (lines.Block object block shown)) both.1 made
step-block sections.Start r object block shown e i h q = never-some e _ q
step-block sections.Jobs r object block shown e i h q = never-some e _ q
step-block sections.Rows r object block shown e i h q = never-some e _ q
step-block sections.Done r object block shown e i h q = never-some e _ q

-- a row more
row-items : (r : ReportOf) (row : ℕ) (c : Bool) → row ≡ length r.closed
    → items_in sections.Rows (with_row r c) ≡ (lines.Head ∷ (job_items r.results r.contents r.flags ++ lines.Turns (length r.turns) ∷ (map lines.Turn r.turns ++ (map block_item r.blocks ++ row_items 0 r.closed)))) ++ lines.Row row c ∷ []
row-items r row c at_end =
    let jobs = job_items r.results r.contents r.flags in
    let turns = map lines.Turn r.turns in
    let blocks = map block_item r.blocks in
    let rows = row_items 0 r.closed in
    let last : List Line = lines.Row row c ∷ [] in
    let same : 0 + length r.closed ≡ row = omega arith in
    ap (λ xs. lines.Head ∷ (jobs ++ lines.Turns (length r.turns) ∷ (turns ++ (blocks ++ xs)))) (rows-push 0 r.closed c ∙ ap (λ k. rows ++ lines.Row k c ∷ []) same)
    ∙ ap (λ xs. lines.Head ∷ (jobs ++ lines.Turns (length r.turns) ∷ (turns ++ xs))) (sym (append_assoc blocks rows last))
    ∙ ap (λ xs. lines.Head ∷ (jobs ++ lines.Turns (length r.turns) ∷ xs)) (sym (append_assoc turns (blocks ++ rows) last))
    ∙ ap (λ xs. lines.Head ∷ xs) (sym (append_assoc jobs (lines.Turns (length r.turns) ∷ (turns ++ (blocks ++ rows))) last))

row-kept : (r : ReportOf) (row : ℕ) (c : Bool) → IsWithin 0 4095 row → row ≡ length r.closed → IsKept r → IsKept (with_row r c)
row-kept r row c i at_end k =
    let high = i.high in
    record { jobs = k.jobs; jobs_rise = k.jobs_rise; turns = k.turns; blocks = k.blocks; blocks_in_order = k.blocks_in_order; rows_few = omega (arith, length-append r.closed (c ∷ [])) }

step-row : (s : Section) (r : ReportOf) (row : ℕ) (c : Bool) (e : DraftOf) → IsWithin 0 4095 row → IsPart (at s r) → row_in s r row c ≡ Some e → Steps (at s r) (lines.Row row c) e
step-row (sections.Turns left) r row c e i h q =
    let both = taken (eqb left 0 && eqb row (length r.closed)) (at sections.Rows (with_row r c)) e q in
    let tests = and_parts (eqb left 0) (eqb row (length r.closed)) both.0 in
    let zero_left : left ≡ 0 = eqb-true left 0 tests.0 in
    let at_end : row ≡ length r.closed = eqb-true row (length r.closed) tests.1 in
    let fits = h.fits in
    let count = fits.0 in
    let high = count.high in
    let none : r.closed ≡ [] = fits.2 in
    let counted : length r.turns ≡ length r.turns + left = omega arith in
    let jobs = job_items r.results r.contents r.flags in
    let back : items_in sections.Rows r ≡ items_in (sections.Turns left) r =
    ap (λ cs. lines.Head ∷ (jobs ++ lines.Turns (length r.turns) ∷ (map lines.Turn r.turns ++ (map block_item r.blocks ++ row_items 0 cs)))) none
    ∙ ap (λ xs. lines.Head ∷ (jobs ++ lines.Turns (length r.turns) ∷ (map lines.Turn r.turns ++ xs))) (append-nil (map block_item r.blocks))
    ∙ ap (λ n. lines.Head ∷ (jobs ++ lines.Turns n ∷ (map lines.Turn r.turns ++ map block_item r.blocks))) counted in
    let made : Steps (at (sections.Turns left) r) (lines.Row row c) (at sections.Rows (with_row r c)) = record {
      part = record { kept = row-kept r row c i at_end h.kept; fits = (record { low = omega arith; high = omega arith }, omega (arith, length-append r.closed (c ∷ []))) };
      items = row-items r row c at_end ∙ ap (λ xs. xs ++ lines.Row row c ∷ []) back;
    } in
    subst (Steps (at (sections.Turns left) r) (lines.Row row c)) both.1 made
step-row sections.Rows r row c e i h q =
    let both = taken (eqb row (length r.closed)) (at sections.Rows (with_row r c)) e q in
    let at_end : row ≡ length r.closed = eqb-true row (length r.closed) both.0 in
    let fits = h.fits in
    let made : Steps (at sections.Rows r) (lines.Row row c) (at sections.Rows (with_row r c)) = record {
      part = record { kept = row-kept r row c i at_end h.kept; fits = (fits.0, omega (arith, length-append r.closed (c ∷ []))) };
      items = row-items r row c at_end;
    } in
    subst (Steps (at sections.Rows r) (lines.Row row c)) both.1 made
step-row sections.Start r row c e i h q = never-some e _ q
step-row sections.Jobs r row c e i h q = never-some e _ q
step-row sections.Done r row c e i h q = never-some e _ q

step-end : (s : Section) (r : ReportOf) (e : DraftOf) → IsPart (at s r) → end_in s r ≡ Some e → Steps (at s r) lines.End e
step-end sections.Rows r e h q =
    let jobs = job_items r.results r.contents r.flags in
    let turns = map lines.Turn r.turns in
    let blocks = map block_item r.blocks in
    let rows = row_items 0 r.closed in
    let last : List Line = lines.End ∷ [] in
    let made : Steps (at sections.Rows r) lines.End (at sections.Done r) = record {
      part = record { kept = h.kept; fits = h.fits };
      items = ap (λ xs. lines.Head ∷ (jobs ++ lines.Turns (length r.turns) ∷ (turns ++ xs))) (sym (append_assoc blocks rows last))
          ∙ ap (λ xs. lines.Head ∷ (jobs ++ lines.Turns (length r.turns) ∷ xs)) (sym (append_assoc turns (blocks ++ rows) last))
          ∙ ap (λ xs. lines.Head ∷ xs) (sym (append_assoc jobs (lines.Turns (length r.turns) ∷ (turns ++ (blocks ++ rows))) last));
    } in
    subst (Steps (at sections.Rows r) lines.End) (same-some (at sections.Done r) e q) made
step-end sections.Start r e h q = never-some e _ q
step-end sections.Jobs r e h q = never-some e _ q
step-end (sections.Turns n) r e h q = never-some e _ q
step-end sections.Done r e h q = never-some e _ q

pub step : (d e : DraftOf) (i : Line) → IsItem i → IsPart d → next d i ≡ Some e → Steps d i e
step d e lines.Head i h q = step-head d.section d.report e h q
step d e (lines.Job host job x) i h q = step-job d.section d.report host job x e i h q
step d e (lines.Turns count) i h q = step-turns d.section d.report count e i h q
step d e (lines.Turn turn) i h q = step-turn d.section d.report turn e i h q
step d e (lines.Block object block shown) i h q = step-block d.section d.report object block shown e i h q
step d e (lines.Row row c) i h q = step-row d.section d.report row c e i h q
step d e lines.End i h q = step-end d.section d.report e h q

-- many lines more
pub record Runs (d : DraftOf) (is : List Line) (e : DraftOf) : Type 0 where
  pub part : IsPart e
  pub items : items_of e ≡ items_of d ++ is

pub runs : (d e : DraftOf) (is : List Line) → AllItems is → IsPart d → run d is ≡ Some e → Runs d is e
runs d e [] all h q = subst (Runs d []) (same-some d e q) (record { part = h; items = sym (append-nil (items_of d)) })
runs d e (i ∷ is) all h q =
    let one = bound (next d i) (λ x. run x is) e q in
    let s = step d one.0 i all.0 h one.1 in
    let later = runs one.0 e is all.1 s.part one.2 in
    record { part = later.part; items = later.items ∙ ap (λ xs. xs ++ is) s.items ∙ append_assoc (items_of d) (i ∷ []) is }

abbrev pub begun : DraftOf
begun = at sections.Start no_report

pub begun-part : IsPart begun
begun-part = record {
  kept = record { jobs = tt; jobs_rise = tt; turns = λ k d l. absurd (omega arith); blocks = λ k d l. absurd (omega arith); blocks_in_order = tt; rows_few = omega arith };
  fits = refl;
}

-- a report that has been read whole
pub done-report : (r : ReportOf) → IsPart (at sections.Done r) → IsReport r
done-report r h = let k = h.kept in record {
  jobs = k.jobs;
  jobs_rise = k.jobs_rise;
  turns = k.turns;
  turns_few = h.fits.0;
  blocks = k.blocks;
  blocks_in_order = k.blocks_in_order;
  rows_some = h.fits.1;
  rows_few = k.rows_few;
}

-- what has been read can be gone on with to a report
pub record Ends (d : DraftOf) : Type 0 where
  pub report : ReportOf
  pub more : List Line
  pub all : AllItems more
  pub runs : run d more ≡ Some (at sections.Done report)

ends-rows : (r : ReportOf) → Ends (at sections.Rows r)
ends-rows r = record { report = r; more = lines.End ∷ []; all = (tt, tt); runs = refl }

ends-blocks : (r : ReportOf) → r.closed ≡ [] → Ends (at (sections.Turns 0) r)
ends-blocks r none = record {
  report = with_row r true;
  more = lines.Row 0 true ∷ (lines.End ∷ []);
  all = (record { low = omega arith; high = omega arith }, (tt, tt));
  runs = run-step (at (sections.Turns 0) r) (at sections.Rows (with_row r true)) (at sections.Done (with_row r true)) (lines.Row 0 true) (lines.End ∷ []) (ap (λ t. cond t (Some (at sections.Rows (with_row r true))) None) (eq-eqb 0 (length r.closed) (sym (ap length none)))) refl;
}

ends-turns : (left : ℕ) (r : ReportOf) → r.closed ≡ [] → Ends (at (sections.Turns left) r)
ends-turns zero r none = ends-blocks r none
ends-turns (suc left) r none =
    let turn : Turn = record { host = record { 0 = 0 }; moment = 0 } in
    let one : suc left - 1 ≡ left = omega arith in
    let test : eqb (suc left) 0 ≡ false = ne_eqb (suc left) 0 (λ e. omega arith) in
    let later = ends-turns left (with_turn r turn) none in
    let comes : next (at (sections.Turns (suc left)) r) (lines.Turn turn) ≡ Some (at (sections.Turns left) (with_turn r turn)) =
    ap (λ t. cond t None (Some (at (sections.Turns (suc left - 1)) (with_turn r turn)))) test ∙ ap (λ n. Some (at (sections.Turns n) (with_turn r turn))) one in
    record {
      report = later.report;
      more = lines.Turn turn ∷ later.more;
      all = (record { host = record { low = omega arith; high = omega arith }; moment = record { low = omega arith; high = omega arith } }, later.all);
      runs = run-step (at (sections.Turns (suc left)) r) (at (sections.Turns left) (with_turn r turn)) (at sections.Done later.report) (lines.Turn turn) later.more comes later.runs;
    }

ends-in : (s : Section) (r : ReportOf) → Fits s r → Ends (at s r)
ends-in sections.Start r h =
    let later = ends-turns 0 r (ap (λ (x : ReportOf). x.closed) h) in
    record { report = later.report; more = lines.Head ∷ (lines.Turns 0 ∷ later.more); all = (tt, (record { low = omega arith; high = omega arith }, later.all)); runs = later.runs }
ends-in sections.Jobs r h =
    let later = ends-turns 0 r h.2 in
    record { report = later.report; more = lines.Turns 0 ∷ later.more; all = (record { low = omega arith; high = omega arith }, later.all); runs = later.runs }
ends-in (sections.Turns left) r h = ends-turns left r h.2
ends-in sections.Rows r h = ends-rows r
ends-in sections.Done r h = record { report = r; more = []; all = tt; runs = refl }

pub ends : (d : DraftOf) → IsPart d → Ends d
ends d h = ends-in d.section d.report h.fits

-- each report is read so
abbrev with_jobs : ReportOf → List JobResult → List (List Content) → List ℕ → ReportOf
with_jobs r rs cs fs = record { results = r.results ++ rs; contents = r.contents ++ cs; flags = r.flags ++ fs; turns = r.turns; blocks = r.blocks; closed = r.closed }

abbrev with_turns : ReportOf → List Turn → ReportOf
with_turns r ts = record { results = r.results; contents = r.contents; flags = r.flags; turns = r.turns ++ ts; blocks = r.blocks; closed = r.closed }

abbrev with_blocks : ReportOf → List (Address × Shown) → ReportOf
with_blocks r bs = record { results = r.results; contents = r.contents; flags = r.flags; turns = r.turns; blocks = r.blocks ++ bs; closed = r.closed }

abbrev with_rows : ReportOf → List Bool → ReportOf
with_rows r cs = record { results = r.results; contents = r.contents; flags = r.flags; turns = r.turns; blocks = r.blocks; closed = r.closed ++ cs }

run-jobs : (rs : List JobResult) (cs : List (List Content)) (fs : List ℕ) (r : ReportOf) → AreJobs rs cs fs → EachFollows JobFollows r.results rs → run (at sections.Jobs r) (job_items rs cs fs) ≡ Some (at sections.Jobs (with_jobs r rs cs fs))
run-jobs [] [] [] r h f =
    let of : List JobResult → List (List Content) → List ℕ → DraftOf = λ xs ys zs. at sections.Jobs (record { results = xs; contents = ys; flags = zs; turns = r.turns; blocks = r.blocks; closed = r.closed }) in
    ap (λ xs. Some (of xs r.contents r.flags)) (sym (append-nil r.results)) ∙ ap (λ ys. Some (of (r.results ++ []) ys r.flags)) (sym (append-nil r.contents)) ∙ ap (λ zs. Some (of (r.results ++ []) (r.contents ++ []) zs)) (sym (append-nil r.flags))
run-jobs [] [] (g ∷ fs) r h f = absurd h
run-jobs [] (d ∷ cs) fs r h f = absurd h
run-jobs (x ∷ rs) [] fs r h f = absurd h
run-jobs (x ∷ rs) (d ∷ cs) [] r h f = absurd h
run-jobs (x ∷ rs) (d ∷ cs) (g ∷ fs) r h f =
    let of : List JobResult → List (List Content) → List ℕ → DraftOf = λ xs ys zs. at sections.Jobs (record { results = xs; contents = ys; flags = zs; turns = r.turns; blocks = r.blocks; closed = r.closed }) in
    let later : ReportOf = with_job r x.host x.job (record { «end» = x.«end»; contents = d; flags = g }) in
    run-step (at sections.Jobs r) (at sections.Jobs later) (at sections.Jobs (with_jobs r (x ∷ rs) (d ∷ cs) (g ∷ fs))) (job_item x d g) (job_items rs cs fs)
    (ap (λ t. cond t (Some (at sections.Jobs later)) None) f.0)
    (run-jobs rs cs fs later h.1 f.1
    ∙ ap (λ xs. Some (of xs ((r.contents ++ d ∷ []) ++ cs) ((r.flags ++ g ∷ []) ++ fs))) (append_assoc r.results (x ∷ []) rs)
    ∙ ap (λ ys. Some (of (r.results ++ x ∷ rs) ys ((r.flags ++ g ∷ []) ++ fs))) (append_assoc r.contents (d ∷ []) cs)
    ∙ ap (λ zs. Some (of (r.results ++ x ∷ rs) (r.contents ++ d ∷ cs) zs)) (append_assoc r.flags (g ∷ []) fs))

run-turns : (ts : List Turn) (r : ReportOf) (left : ℕ) → left ≡ length ts → run (at (sections.Turns left) r) (map lines.Turn ts) ≡ Some (at (sections.Turns 0) (with_turns r ts))
run-turns [] r left e =
    let of : List Turn → ReportOf = λ xs. record { results = r.results; contents = r.contents; flags = r.flags; turns = xs; blocks = r.blocks; closed = r.closed } in
    ap (λ n. Some (at (sections.Turns n) r)) e ∙ ap (λ xs. Some (at (sections.Turns 0) (of xs))) (sym (append-nil r.turns))
run-turns (t ∷ ts) r left e =
    let of : List Turn → ReportOf = λ xs. record { results = r.results; contents = r.contents; flags = r.flags; turns = xs; blocks = r.blocks; closed = r.closed } in
    let test : eqb left 0 ≡ false = ne_eqb left 0 (λ z. omega arith) in
    run-step (at (sections.Turns left) r) (at (sections.Turns (left - 1)) (with_turn r t)) (at (sections.Turns 0) (with_turns r (t ∷ ts))) (lines.Turn t) (map lines.Turn ts)
    (ap (λ b. cond b None (Some (at (sections.Turns (left - 1)) (with_turn r t)))) test)
    (run-turns ts (with_turn r t) (left - 1) (omega arith) ∙ ap (λ xs. Some (at (sections.Turns 0) (of xs))) (append_assoc r.turns (t ∷ []) ts))

run-blocks : (bs : List (Address × Shown)) (r : ReportOf) → EachFollows BlockFollows r.blocks bs → run (at (sections.Turns 0) r) (map block_item bs) ≡ Some (at (sections.Turns 0) (with_blocks r bs))
run-blocks [] r f =
    let of : List (Address × Shown) → ReportOf = λ xs. record { results = r.results; contents = r.contents; flags = r.flags; turns = r.turns; blocks = xs; closed = r.closed } in
    ap (λ xs. Some (at (sections.Turns 0) (of xs))) (sym (append-nil r.blocks))
run-blocks (b ∷ bs) r f =
    let of : List (Address × Shown) → ReportOf = λ xs. record { results = r.results; contents = r.contents; flags = r.flags; turns = r.turns; blocks = xs; closed = r.closed } in
    let later : ReportOf = with_block r b.0.object b.0.block b.1 in
    run-step (at (sections.Turns 0) r) (at (sections.Turns 0) later) (at (sections.Turns 0) (with_blocks r (b ∷ bs))) (block_item b) (map block_item bs)
    (ap (λ t. cond t (Some (at (sections.Turns 0) later)) None) f.0)
    (run-blocks bs later f.1 ∙ ap (λ xs. Some (at (sections.Turns 0) (of xs))) (append_assoc r.blocks (b ∷ []) bs))

run-rows : (cs : List Bool) (r : ReportOf) (row : ℕ) → row ≡ length r.closed → run (at sections.Rows r) (row_items row cs) ≡ Some (at sections.Rows (with_rows r cs))
run-rows [] r row e =
    let of : List Bool → ReportOf = λ xs. record { results = r.results; contents = r.contents; flags = r.flags; turns = r.turns; blocks = r.blocks; closed = xs } in
    ap (λ xs. Some (at sections.Rows (of xs))) (sym (append-nil r.closed))
run-rows (c ∷ cs) r row e =
    let of : List Bool → ReportOf = λ xs. record { results = r.results; contents = r.contents; flags = r.flags; turns = r.turns; blocks = r.blocks; closed = xs } in
    run-step (at sections.Rows r) (at sections.Rows (with_row r c)) (at sections.Rows (with_rows r (c ∷ cs))) (lines.Row row c) (row_items (row + 1) cs)
    (ap (λ t. cond t (Some (at sections.Rows (with_row r c))) None) (eq-eqb row (length r.closed) e))
    (run-rows cs (with_row r c) (row + 1) (omega (arith, length-append r.closed (c ∷ []))) ∙ ap (λ xs. Some (at sections.Rows (of xs))) (append_assoc r.closed (c ∷ []) cs))

run-end : (cs : List Bool) (r : ReportOf) → r.closed ≡ [] → 1 ≤ length cs → run (at (sections.Turns 0) r) (row_items 0 cs ++ lines.End ∷ []) ≡ Some (at sections.Done (with_rows r cs))
run-end [] r none some = absurd (omega arith)
run-end (c ∷ cs) r none some =
    let of : List Bool → ReportOf = λ xs. record { results = r.results; contents = r.contents; flags = r.flags; turns = r.turns; blocks = r.blocks; closed = xs } in
    let rows : run (at sections.Rows (with_row r c)) (row_items (0 + 1) cs) ≡ Some (at sections.Rows (with_rows (with_row r c) cs)) = run-rows cs (with_row r c) (0 + 1) (omega (arith, length-append r.closed (c ∷ []), ap length none)) in
    run-step (at (sections.Turns 0) r) (at sections.Rows (with_row r c)) (at sections.Done (with_rows r (c ∷ cs))) (lines.Row 0 c) (row_items (0 + 1) cs ++ lines.End ∷ [])
    (ap (λ t. cond t (Some (at sections.Rows (with_row r c))) None) (eq-eqb 0 (length r.closed) (sym (ap length none))))
    (run-then (at sections.Rows (with_row r c)) (at sections.Rows (with_rows (with_row r c) cs)) (at sections.Done (with_rows r (c ∷ cs))) (row_items (0 + 1) cs) (lines.End ∷ []) rows
    (ap (λ xs. Some (at sections.Done (of xs))) (append_assoc r.closed (c ∷ []) cs)))

pub run-report : (r : ReportOf) → IsReport r → run begun (report_items r) ≡ Some (at sections.Done r)
run-report r h =
    let jobs : ReportOf = record { results = r.results; contents = r.contents; flags = r.flags; turns = []; blocks = []; closed = [] } in
    let turns : ReportOf = record { results = r.results; contents = r.contents; flags = r.flags; turns = r.turns; blocks = []; closed = [] } in
    let blocks : ReportOf = record { results = r.results; contents = r.contents; flags = r.flags; turns = r.turns; blocks = r.blocks; closed = [] } in
    let rows_left = row_items 0 r.closed ++ lines.End ∷ [] in
    let blocks_left = map block_item r.blocks ++ rows_left in
    let turns_left = map lines.Turn r.turns ++ blocks_left in
    run-step begun (at sections.Jobs no_report) (at sections.Done r) lines.Head (job_items r.results r.contents r.flags ++ lines.Turns (length r.turns) ∷ turns_left) refl
    (run-then (at sections.Jobs no_report) (at sections.Jobs jobs) (at sections.Done r) (job_items r.results r.contents r.flags) (lines.Turns (length r.turns) ∷ turns_left) (run-jobs r.results r.contents r.flags no_report h.jobs h.jobs_rise)
    (run-step (at sections.Jobs jobs) (at (sections.Turns (length r.turns)) jobs) (at sections.Done r) (lines.Turns (length r.turns)) turns_left refl
    (run-then (at (sections.Turns (length r.turns)) jobs) (at (sections.Turns 0) turns) (at sections.Done r) (map lines.Turn r.turns) blocks_left (run-turns r.turns jobs (length r.turns) refl)
    (run-then (at (sections.Turns 0) turns) (at (sections.Turns 0) blocks) (at sections.Done r) (map block_item r.blocks) rows_left (run-blocks r.blocks turns h.blocks_in_order)
    (run-end r.closed blocks refl h.rows_some)))))

-- all lines of a report keep their ranges
jobs-all : (rs : List JobResult) (cs : List (List Content)) (fs : List ℕ) → AreJobs rs cs fs → AllItems (job_items rs cs fs)
jobs-all [] [] [] h = tt
jobs-all [] [] (g ∷ fs) h = absurd h
jobs-all [] (d ∷ cs) fs h = absurd h
jobs-all (x ∷ rs) [] fs h = absurd h
jobs-all (x ∷ rs) (d ∷ cs) [] h = absurd h
jobs-all (x ∷ rs) (d ∷ cs) (g ∷ fs) h = let j = h.0 in ((j.host, j.job, j.«end»), jobs-all rs cs fs h.1)

turns-all : (ts : List Turn) → All IsTurn ts → AllItems (map lines.Turn ts)
turns-all [] h = tt
turns-all (t ∷ ts) h = (h zero t (omega arith), turns-all ts (λ k d l. h (suc k) d (omega arith)))

blocks-all : (bs : List (Address × Shown)) → All IsBlockShown bs → AllItems (map block_item bs)
blocks-all [] h = tt
blocks-all (b ∷ bs) h = let one = h zero b (omega arith) in ((one.object, one.number, one.shown), blocks-all bs (λ k d l. h (suc k) d (omega arith)))

rows-all : (row : ℕ) (cs : List Bool) → row + length cs ≤ 4096 → AllItems (row_items row cs)
rows-all row [] h = tt
rows-all row (c ∷ cs) h = (record { low = omega arith; high = omega arith }, rows-all (row + 1) cs (omega arith))

pub report-all : (r : ReportOf) → IsReport r → AllItems (report_items r)
report-all r h =
    let few = h.rows_few in
    let rows = items-append (row_items 0 r.closed) (lines.End ∷ []) (rows-all 0 r.closed (omega arith)) (tt, tt) in
    let blocks = items-append (map block_item r.blocks) (row_items 0 r.closed ++ lines.End ∷ []) (blocks-all r.blocks h.blocks) rows in
    let turns = items-append (map lines.Turn r.turns) (map block_item r.blocks ++ (row_items 0 r.closed ++ lines.End ∷ [])) (turns-all r.turns h.turns) blocks in
    (tt, items-append (job_items r.results r.contents r.flags) (lines.Turns (length r.turns) ∷ (map lines.Turn r.turns ++ (map block_item r.blocks ++ (row_items 0 r.closed ++ lines.End ∷ [])))) (jobs-all r.results r.contents r.flags h.jobs) (h.turns_few, turns))
