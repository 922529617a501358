-- The lines of a script are read: its head, its objects and its turns.
use Rattle.std.proofs.Common.{◌≡◌, ℕ, ◌+◌, ◌-◌, ◌^◌, ◌<◌, ◌≤◌, Bool, true, false, ◌&&◌, ◌||◌, not, cond, eqb, ltb, leb, List, [], ◌∷◌, ◌++◌, length, map, find, option_map, Option, Some, None, refl, sym, ap, ◌∙◌, arith, subst, decimal, lit<, lit≤, inl, inr, suc, zero, get_or}
use Rattle.std.specs.Prelude.{codes, is_some}
use Rattle.std.specs.List.{All, Contains, IsDistinct, AllByRecursion, flat_map, list_all, list_any}
use Rattle.std.proofs.lemmas.Bool.{and_from, and_parts, lt-ltb, le-leb, cond-true, cond-false, or_from, or_parts, or_left, or_right, ltb-true, eq-eqb, ne_eqb, eqb-true, cases_eq}
use Rattle.std.proofs.lemmas.List.{append-nil, append_assoc, map-append, length-append, length-map}
use Rattle.std.proofs.lemmas.List.Concat.{flat_map-append}
use Rattle.std.proofs.lemmas.List.Elements.{All-nil, All-cons, All-head, All-tail, All-weaker}
use Rattle.raid_base.specs.declared.names.Name.{Name}
use Rattle.raid_base.specs.declared.messages.Mode.{Mode}
use Rattle.raid_base.specs.declared.messages.Mode.TheVariants.{Lock, Order as OrderMode}
use Rattle.raid_base.specs.declared.messages.Turn.{Turn}
use Rattle.raid_base.specs.declared.numbers.RowNo.{RowNo}
use Rattle.raid_base.specs.declared.numbers.HostNo.{HostNo}
use Rattle.raid_base.specs.Names.{IsNameText, is_name, is_text}
use Rattle.virtual_objects.specs.Objects.{Object, rows_of}
use Rattle.virtual_objects.specs.Table.{AreObjects, first_used, held, is_held, names, numbers}
use Rattle.virtual_objects.proofs.HeldLemmas.{held-append}
use Rattle.text_lines.specs.Lines.{IsLine, joined}
use Rattle.text_lines.specs.Numbers.{is_number}
use Rattle.text_lines.proofs.NumberLemmas.{is_number-decimal}
use Rattle.text_lines.proofs.WordLemmas.{IsWord, IsWord-decimal, IsWord-name}
use Rattle.script_text.specs.Script.{Script, HostJobs, host_numbers}
use Rattle.script_text.specs.Text.{Words, head_lines, mode_word, object_words, turn_words}
use Rattle.script_text.specs.Ranges.{IsScript, table_of}
use Rattle.script_text.specs.declared.lines.Stage.{Stage}
use Rattle.script_text.specs.declared.lines.Stage.TheVariants.{Raid, Devices, Rows, Order, Patience, Tries, Body, Turns, Ended}
use Rattle.script_text.specs.Forms.{Form, RaidLine, DevicesLine, RowsLine, ModeLine, PatienceLine, TriesLine, ObjectLine, HostLine, JobLine, TurnLine, EndLine, NoLine, form_at, host_form, labelled, number, object_form, object_or_job, only_number, turn_form, two_numbers, pair, value, with_number, with_numbers, words}
use Rattle.script_text.specs.Faults.{Said, after, fault_of, form_of, has_host, is_ended, is_from_to, is_unused, least_script, nothing_said, row_numbers}
use Rattle.script_text.proofs.JobSteps.{judged-none}
use Rattle.script_text.proofs.Keeps.{head_script}
use Rattle.script_text.proofs.Runs.{AllWords, OneRun, Runs, joined-line, number-decimal, run-one, runs-append, value-decimal, words-joined}

pub in-range : (least most n : ℕ) → least ≤ n → n ≤ most → is_from_to least most n ≡ true
in-range least most n a b = and_from _ _ (le-leb _ _ a) (le-leb _ _ b)

-- a line of a label and a number
pub labelled-run : (said next : Said) (label : List ℕ) (n : ℕ) (make : ℕ → Form) → is_ended said.stage ≡ false → IsWord label → n < 2 ^ 63
    → ((text : List ℕ) → words text ≡ label ∷ decimal n ∷ [] → form_of said text ≡ labelled label make (words text)) → is_text label label ≡ true
    → fault_of said.script (make n) ≡ None → after said.script (make n) ≡ next → OneRun said (label ∷ decimal n ∷ []) next
labelled-run said next label n make going w l form t f a =
    let word = IsWord-decimal n (omega arith) in
    let is = words-joined label (decimal n ∷ []) w (word, tt) in
    run-one said next (label ∷ decimal n ∷ []) (make n) going (joined-line (label ∷ decimal n ∷ []) (w, (word, tt)))
    (form (joined (label ∷ decimal n ∷ [])) is ∙ ap (labelled label make) is ∙ cond-true _ _ _ t ∙ ap (λ o. with_number NoLine make o) (number-decimal n l)) f a

head_at : Stage → ℕ → ℕ → Mode → ℕ → ℕ → Said
head_at stage n rows mode patience tries = record { stage = stage; script = head_script n rows mode patience tries }

mode-run : (n rows : ℕ) (mode : Mode) → OneRun (head_at Order n rows Lock 0 1) (codes "mode" ∷ mode_word mode ∷ []) (head_at Patience n rows mode 0 1)
unfolding head_at
mode-run n rows Lock = record { going = refl; whole = joined-line (codes "mode" ∷ codes "lock" ∷ []) (refl, (refl, tt)); fine = refl; goes = refl }
mode-run n rows OrderMode = record { going = refl; whole = joined-line (codes "mode" ∷ codes "order" ∷ []) (refl, (refl, tt)); fine = refl; goes = refl }

-- the head of a script
pub head-runs : (s : Script) → IsScript s → Runs nothing_said (head_lines s) (record { stage = Body; script = head_script s.n s.rows s.mode s.patience s.tries })
unfolding head_at
head-runs s i =
    let devices_range = in-range 3 16 s.n i.devices_least i.devices_most in
    let rows_range = in-range 1 4096 s.rows i.rows_least i.rows_most in
    let patience_range = lt-ltb s.patience (2 ^ 40) i.patience in
    let tries_range = in-range 1 64 s.tries i.tries_least i.tries_most in
    let low = i.patience in
    let few = i.rows_most in
    let small = i.devices_most in
    let short = i.tries_most in (
      head_at Devices 3 1 Lock 0 1,
      record { going = refl; whole = joined-line (codes "raid" ∷ codes "1" ∷ []) (refl, (refl, tt)); fine = refl; goes = refl },
      (
        head_at Rows s.n 1 Lock 0 1,
        labelled-run (head_at Devices 3 1 Lock 0 1) (head_at Rows s.n 1 Lock 0 1) (codes "devices") s.n (λ n. DevicesLine n) refl refl (omega (arith, small)) (λ text w. refl) refl (judged-none _ true true devices_range refl refl) refl,
        (
          head_at Order s.n s.rows Lock 0 1,
          labelled-run (head_at Rows s.n 1 Lock 0 1) (head_at Order s.n s.rows Lock 0 1) (codes "rows") s.rows (λ n. RowsLine n) refl refl (omega (arith, few)) (λ text w. refl) refl (judged-none _ true true rows_range refl refl) refl,
          (
            head_at Patience s.n s.rows s.mode 0 1,
            mode-run s.n s.rows s.mode,
            (
              head_at Tries s.n s.rows s.mode s.patience 1,
              labelled-run (head_at Patience s.n s.rows s.mode 0 1) (head_at Tries s.n s.rows s.mode s.patience 1) (codes "patience") s.patience (λ n. PatienceLine n) refl refl (omega (arith, low)) (λ text w. refl) refl (judged-none _ true true patience_range refl refl) refl,
              (
                head_at Body s.n s.rows s.mode s.patience s.tries,
                labelled-run (head_at Tries s.n s.rows s.mode s.patience 1) (head_at Body s.n s.rows s.mode s.patience s.tries) (codes "tries") s.tries (λ n. TriesLine n) refl refl (omega (arith, short)) (λ text w. refl) refl (judged-none _ true true tries_range refl refl) refl,
                refl,
              ),
            ),
          ),
        ),
      ),
    )

-- what is distinct from what stands behind it
mid : {X : Type 0} (P : X → Type 0) (xs : List X) (y : X) (ys : List X) → AllByRecursion P (xs ++ y ∷ ys) → P y
mid P [] y ys h = h.0
mid P (x ∷ xs) y ys h = mid P xs y ys h.1

unnamed : (done : List Object) (name : Name) (back : List Name) → IsDistinct is_text (names done ++ name ∷ back) → rows_of done name ≡ None
unfolding IsDistinct
unnamed [] name back d = refl
unnamed (object ∷ done) name back d =
    let apart : is_text object.name name ≡ false = mid (λ (y : Name). is_text object.name y ≡ false) (names done) name back d.0 in
    ap (λ (b : Bool). option_map (λ (o : Object). o.rows) (cond b (Some object) (find (λ (o : Object). is_text o.name name) done))) apart ∙ unnamed done name back d.1

not-held : (front : List ℕ) (row : ℕ) (back : List ℕ) → IsDistinct eqb (front ++ row ∷ back) → is_held front row ≡ false
unfolding IsDistinct
not-held [] row back d = refl
not-held (x ∷ front) row back d =
    let apart : eqb x row ≡ false = mid (λ (y : ℕ). eqb x y ≡ false) front row back d.0 in
    or_from (eqb row x) _ (ne_eqb row x (λ e. cc (sym apart ∙ eq-eqb x row (sym e)))) (not-held front row back d.1)

unused : (front : List ℕ) (rows : List RowNo) (back : List ℕ) → IsDistinct eqb (front ++ (numbers rows ++ back)) → first_used front rows ≡ None
unused front [] back d = refl
unused front (row ∷ rows) back d =
    let free = not-held front row.0 (numbers rows ++ back) d in
    ap (λ (b : Bool). cond b (Some row) (first_used (front ++ row.0 ∷ []) rows)) free
    ∙ unused (front ++ row.0 ∷ []) rows back (subst (λ (xs : List ℕ). IsDistinct eqb xs) (sym (append_assoc front (row.0 ∷ []) (numbers rows ++ back))) d)

All-mid : {X : Type 0} (P : X → Type 0) (xs : List X) (y : X) (ys : List X) → All P (xs ++ y ∷ ys) → P y
All-mid P [] y ys h = All-head P y ys h
All-mid P (x ∷ xs) y ys h = All-mid P xs y ys (All-tail P x (xs ++ y ∷ ys) h)

-- the numbers of rows, from their words and back
values-are : (rows : List RowNo) (end : ℕ) → end ≤ 4096 → list_all (λ (row : ℕ). ltb row end) (numbers rows) ≡ true → map value (map (λ (row : RowNo). decimal row.0) rows) ≡ numbers rows
values-are [] end l h = refl
values-are (row ∷ rows) end l h =
    let parts = and_parts (ltb row.0 end) _ h in
    let low : row.0 < end = ltb-true _ _ parts.0 in
    ap (λ n. n ∷ map value (map (λ (r : RowNo). decimal r.0) rows)) (value-decimal row.0 (omega arith)) ∙ ap (λ ns. row.0 ∷ ns) (values-are rows end l parts.1)

rows-back : (rows : List RowNo) → row_numbers (numbers rows) ≡ rows
rows-back [] = refl
rows-back (row ∷ rows) = ap (λ rs. row ∷ rs) (rows-back rows)

all-numbers : (rows : List RowNo) (end : ℕ) → end ≤ 4096 → list_all (λ (row : ℕ). ltb row end) (numbers rows) ≡ true → list_all is_number (map (λ (row : RowNo). decimal row.0) rows) ≡ true
all-numbers [] end l h = refl
all-numbers (row ∷ rows) end l h =
    let parts = and_parts (ltb row.0 end) _ h in
    let low : row.0 < end = ltb-true _ _ parts.0 in
    and_from _ _ (is_number-decimal row.0 (omega arith)) (all-numbers rows end l parts.1)

row-words : (rows : List RowNo) (end : ℕ) → end ≤ 4096 → list_all (λ (row : ℕ). ltb row end) (numbers rows) ≡ true → AllWords (map (λ (row : RowNo). decimal row.0) rows)
row-words [] end l h = tt
row-words (row ∷ rows) end l h =
    let parts = and_parts (ltb row.0 end) _ h in
    let low : row.0 < end = ltb-true _ _ parts.0 in
    (IsWord-decimal row.0 (omega arith), row-words rows end l parts.1)

-- rows that are held are below the end
rows-low : (held_rows : List ℕ) (rows : List RowNo) (end : ℕ) → ((row : ℕ) → is_held (numbers rows) row ≡ true → is_held held_rows row ≡ true) → ((row : ℕ) → is_held held_rows row ≡ true → row < end) → list_all (λ (row : ℕ). ltb row end) (numbers rows) ≡ true
rows-low held_rows [] end among below = refl
rows-low held_rows (row ∷ rows) end among below =
    and_from _ _ (lt-ltb _ _ (below row.0 (among row.0 (or_left _ _ (eq-eqb row.0 row.0 refl))))) (rows-low held_rows rows end (λ r h. among r (or_right _ _ h)) below)

-- a script whose objects so far are these, before its hosts
abbrev pub with_objects : Script → List Object → Said
with_objects s done = record { stage = Body; script = record (head_script s.n s.rows s.mode s.patience s.tries) { objects = done } }

object-run : (s : Script) (done : List Object) (object : Object) (left : List Object) → IsScript s → s.objects ≡ done ++ object ∷ left → OneRun (with_objects s done) (object_words object) (with_objects s (done ++ object ∷ []))
object-run s done object left i e =
    let are = i.objects in
    let most = i.rows_most in
    let few = are.few in
    let name_text : IsNameText object.name = let all : All (λ (o : Object). IsNameText o.name) (done ++ object ∷ left) = subst (λ (os : List Object). All (λ (o : Object). IsNameText o.name) os) e i.names in All-mid (λ (o : Object). IsNameText o.name) done object left all in
    let some : 0 < length object.rows = let all : All (λ (o : Object). 0 < length o.rows) (done ++ object ∷ left) = subst (λ (os : List Object). All (λ (o : Object). 0 < length o.rows) os) e are.rows_some in All-mid (λ (o : Object). 0 < length o.rows) done object left all in
    let held_are : held s.objects ≡ held done ++ (numbers object.rows ++ held left) = ap held e ∙ flat_map-append (λ (o : Object). numbers o.rows) done (object ∷ left) in
    let names_are : names s.objects ≡ names done ++ object.name ∷ names left = ap names e ∙ map-append (λ (o : Object). o.name) done (object ∷ left) in
    let below : list_all (λ (row : ℕ). ltb row s.rows) (numbers object.rows) ≡ true =
    rows-low (held s.objects) object.rows s.rows
    (λ row h. ap (λ xs. is_held xs row) held_are ∙ held-append (held done) (numbers object.rows ++ held left) row ∙ or_right _ _ (held-append (numbers object.rows) (held left) row ∙ or_left _ _ h))
    are.rows_below in
    let texts = map (λ (row : RowNo). decimal row.0) object.rows in
    let values : map value texts ≡ numbers object.rows = values-are object.rows s.rows most below in
    let all_words : AllWords (object_words object) = (refl, (IsWord-name object.name name_text, row-words object.rows s.rows most below)) in
    let rows_texts : 0 < length texts = omega (arith, length-map object.rows (λ (row : RowNo). decimal row.0), some) in
    let form : object_form (object_words object) ≡ ObjectLine object.name (numbers object.rows) =
    cond-true _ _ _ (and_from _ _ (and_from _ _ (and_from (is_text (codes "object") (codes "object")) (is_name object.name) refl name_text) (lt-ltb _ _ rows_texts)) (all-numbers object.rows s.rows most below))
    ∙ ap (λ ns. ObjectLine object.name ns) values in
    let is : words (joined (object_words object)) ≡ object_words object = words-joined (codes "object") (object.name ∷ texts) refl all_words.1 in
    let room : length done < 64 = omega (arith, few, ap length e, length-append done (object ∷ left)) in
    let fresh : is_unused done object.name (numbers object.rows) ≡ true =
    and_from _ _ (ap (λ (o : Option (List RowNo)). not (is_some o)) (unnamed done object.name (names left) (subst (λ (ns : List Name). IsDistinct is_text ns) names_are are.names_apart)))
    (ap (λ (rs : List RowNo). not (is_some (first_used (held done) rs))) (rows-back object.rows) ∙ ap (λ (o : Option RowNo). not (is_some o)) (unused (held done) object.rows (held left) (subst (λ (xs : List ℕ). IsDistinct eqb xs) held_are are.rows_apart))) in
    run-one (with_objects s done) (with_objects s (done ++ object ∷ [])) (object_words object) (ObjectLine object.name (numbers object.rows)) refl
    (joined-line (object_words object) all_words)
    (ap (λ ws. host_form ws (turn_form ws (object_form ws))) is ∙ form)
    (judged-none _ _ true (and_from _ _ (lt-ltb _ _ room) below) fresh refl)
    (ap (λ (rs : List RowNo). with_objects s (done ++ record { name = object.name; rows = rs } ∷ [])) (rows-back object.rows))

pub objects-run : (s : Script) (done left : List Object) → IsScript s → s.objects ≡ done ++ left → Runs (with_objects s done) (map object_words left) (with_objects s (done ++ left))
objects-run s done [] i e = ap (λ os. with_objects s os) (sym (append-nil done))
objects-run s done (object ∷ left) i e = (
  with_objects s (done ++ object ∷ []),
  object-run s done object left i e,
  subst (λ (os : List Object). Runs (with_objects s (done ++ object ∷ [])) (map object_words left) (with_objects s os)) (append_assoc done (object ∷ []) left) (objects-run s (done ++ object ∷ []) left i (e ∙ sym (append_assoc done (object ∷ []) left))),
)

-- a script whose turns so far are these
abbrev pub with_turns : Stage → Script → List Turn → Said
with_turns stage s done = record { stage = stage; script = record s { turns = done } }

known-host : (hosts : List HostJobs) (number : ℕ) (k : ℕ) → k < length (map (λ (h : HostJobs). h.host) hosts) → get_or (map (λ (h : HostJobs). h.host) hosts) k (record { 0 = number }) ≡ record { 0 = number } → has_host hosts number ≡ true
known-host [] number k l e = absurd (omega arith)
known-host (host ∷ hosts) number zero l e = or_left _ _ (eq-eqb host.host.0 number (ap (λ (h : HostNo). h.0) e))
known-host (host ∷ hosts) number (suc k) l e = or_right _ _ (known-host hosts number k (omega arith) e)

-- where a turn may come
abbrev pub MayTurn : Stage → Type 0
MayTurn Body = Unit {0}
MayTurn Turns = Unit {0}
MayTurn _ = ⊥

other_form : Stage → Script → List ℕ → Form
other_form Body s text = object_or_job s.hosts (words text)
other_form _ s text = NoLine

turn-form : (stage : Stage) (s : Script) (text : List ℕ) (first : List ℕ) (more : Words) → MayTurn stage → words text ≡ first ∷ more → is_text first (codes "host") ≡ false → form_at stage s text ≡ turn_form (words text) (other_form stage s text)
unfolding other_form
turn-form Body s text first more m w h = ap (λ ws. host_form ws (turn_form (words text) (object_or_job s.hosts (words text)))) w ∙ cond-false _ _ _ h
turn-form Turns s text first more m w h = refl
turn-form Raid s text first more m w h = absurd m
turn-form Devices s text first more m w h = absurd m
turn-form Rows s text first more m w h = absurd m
turn-form Order s text first more m w h = absurd m
turn-form Patience s text first more m w h = absurd m
turn-form Tries s text first more m w h = absurd m
turn-form Ended s text first more m w h = absurd m

going-on : (stage : Stage) → MayTurn stage → is_ended stage ≡ false
going-on Body m = refl
going-on Turns m = refl
going-on Raid m = refl
going-on Devices m = refl
going-on Rows m = refl
going-on Order m = refl
going-on Patience m = refl
going-on Tries m = refl
going-on Ended m = absurd m

turn-run : (stage : Stage) (s : Script) (done : List Turn) (turn : Turn) → MayTurn stage → has_host s.hosts turn.host.0 ≡ true → turn.host.0 < 16 → turn.moment < 2 ^ 40 → OneRun (with_turns stage s done) (turn_words turn) (with_turns Turns s (done ++ turn ∷ []))
turn-run stage s done turn m known host_low low =
    let host_word = IsWord-decimal turn.host.0 (omega arith) in
    let word = IsWord-decimal turn.moment (omega arith) in
    let is : words (joined (turn_words turn)) ≡ turn_words turn = words-joined (codes "turn") (decimal turn.host.0 ∷ decimal turn.moment ∷ []) refl (host_word, (word, tt)) in
    let script : Script = record s { turns = done } in
    let two : two_numbers (decimal turn.host.0 ∷ decimal turn.moment ∷ []) ≡ Some (turn.host.0, turn.moment) =
    ap (λ o. pair o (number (decimal turn.moment))) (number-decimal turn.host.0 (omega arith)) ∙ ap (λ o. pair (Some turn.host.0) o) (number-decimal turn.moment (omega arith)) in
    run-one (with_turns stage s done) (with_turns Turns s (done ++ turn ∷ [])) (turn_words turn) (TurnLine turn.host.0 turn.moment) (going-on stage m)
    (joined-line (turn_words turn) (refl, (host_word, (word, tt))))
    (turn-form stage script (joined (turn_words turn)) (codes "turn") (decimal turn.host.0 ∷ decimal turn.moment ∷ []) m is refl ∙ ap (λ ws. turn_form ws (other_form stage script (joined (turn_words turn)))) is
    ∙ ap (λ p. with_numbers NoLine (λ h t. TurnLine h t) p) two)
    (judged-none _ _ true (and_from _ _ (lt-ltb _ _ host_low) (lt-ltb _ _ low)) known refl)
    refl

pub turns-run : (stage : Stage) (s : Script) (done left : List Turn) → MayTurn stage → All (λ (turn : Turn). Contains (host_numbers s) turn.host × (turn.moment < 2 ^ 40)) left → ((number : HostNo) → Contains (host_numbers s) number → number.0 < 16)
    → (last : Stage) × MayTurn last × Runs (with_turns stage s done) (map turn_words left) (with_turns last s (done ++ left))
turns-run stage s done [] m all low = (stage, m, ap (λ ts. with_turns stage s ts) (sym (append-nil done)))
turns-run stage s done (turn ∷ left) m all low =
    let P : Turn → Type 0 = λ turn. Contains (host_numbers s) turn.host × (turn.moment < 2 ^ 40) in
    let here = All-head P turn left all in
    let known = here.0 in
    let more = turns-run Turns s (done ++ turn ∷ []) left tt (All-tail P turn left all) low in (
      more.0,
      more.1,
      (
        with_turns Turns s (done ++ turn ∷ []),
        turn-run stage s done turn m (known-host s.hosts turn.host.0 known.0 known.1 known.2) (low turn.host known) here.1,
        subst (λ (ts : List Turn). Runs (with_turns Turns s (done ++ turn ∷ [])) (map turn_words left) (with_turns more.0 s ts)) (append_assoc done (turn ∷ []) left) more.2,
      ),
    )

-- the last line
pub end-run : (stage : Stage) (s : Script) (done : List Turn) → MayTurn stage → OneRun (with_turns stage s done) (codes "end" ∷ []) (with_turns Ended s done)
end-run stage s done m =
    let script : Script = record s { turns = done } in
    run-one (with_turns stage s done) (with_turns Ended s done) (codes "end" ∷ []) EndLine (going-on stage m) (joined-line (codes "end" ∷ []) (refl, tt))
    (turn-form stage script (codes "end") (codes "end") [] m refl refl) refl refl
