-- What the lines of objects and hosts do to a script.
use Rattle.std.proofs.Common.{◌≡◌, ℕ, ◌+◌, ◌<◌, ◌≤◌, Bool, true, false, ◌&&◌, not, ltb, List, [], ◌∷◌, ◌++◌, length, map, Option, Some, None, Result, Ok, Err, refl, sym, ap, ◌∙◌, arith, subst, lit≤, length-append}
use Rattle.std.specs.Prelude.{◌↔◌, IsSome, IsNone, is_some, codes}
use Rattle.std.specs.List.{All, list_all}
use Rattle.std.specs.Borrow.{Bor}
use Rattle.std.proofs.lemmas.Bool.{and_from, and_parts, and_left, and_right, ltb-true, lt-ltb, le-ltb}
use Rattle.std.proofs.lemmas.List.{length-map}
use Rattle.std.proofs.lemmas.List.Elements.{All-nil, All-cons}
use Rattle.raid_base.specs.declared.names.Name.{Name}
use Rattle.raid_base.specs.declared.numbers.RowNo.{RowNo}
use Rattle.raid_base.specs.declared.numbers.HostNo.{HostNo}
use Rattle.virtual_objects.specs.declared.table.ObjectFault.{ObjectFault}
use Rattle.virtual_objects.specs.declared.table.ObjectFault.TheVariants.{NameUsed, RowUsed}
use Rattle.raid_base.specs.declared.status.Kind.TheVariants.{Shape, Range, Name as NameKind}
use Rattle.virtual_objects.specs.Objects.{Object, rows_of}
use Rattle.virtual_objects.specs.Table.{ObjectTable, first_used, held, with_object}
use Rattle.script_text.specs.Script.{Script, HostJobs}
use Rattle.script_text.specs.Ranges.{Rise}
use Rattle.script_text.specs.declared.lines.Stage.TheVariants.{Body}
use Rattle.script_text.specs.Forms.{Form, HostLine, NoLine, ObjectLine, end_form, value, words, words_behind}
use Rattle.script_text.specs.Faults.{Said, after, fault_of, is_unused, row_numbers}
use Rattle.script_text.proofs.WordTexts.{words-some}
use Rattle.script_text.proofs.JobSteps.{judged-none, judged-range, judged-name}

pub end-more : (words : List (List ℕ)) → 0 < length words → end_form words ≡ NoLine
end-more [] l = absurd (omega arith)
end-more (word ∷ more) l = refl

pub end-behind : (script : Script) (rest : Option (Bor (List ℕ))) (text : Bor (List ℕ)) → rest ≡ Some text → fault_of script (end_form (words_behind rest)) ≡ Some Shape
end-behind script rest text e = ap (fault_of script) (ap (λ r. end_form (words_behind r)) e ∙ end-more (words text.now) (words-some text.now))

pub rows-some : (text : List ℕ) (rows : List RowNo) → rows ≡ row_numbers (map value (words text)) → 0 < length rows
rows-some text rows e =
    let made : ℕ → RowNo = λ row. record { 0 = row } in
    omega (arith, ap length e, length-map (map value (words text)) made, length-map (words text) value, words-some text)

pub rows-below-all : (numbers : List ℕ) (end : ℕ) → list_all (λ (row : ℕ). ltb row end) numbers ≡ true → All (λ (row : RowNo). row.0 < end) (row_numbers numbers)
rows-below-all [] end h = All-nil _
rows-below-all (row ∷ rows) end h =
    let parts = and_parts (ltb row end) _ h in
    All-cons (λ (r : RowNo). r.0 < end) (record { 0 = row }) (row_numbers rows) (ltb-true _ _ parts.0) (rows-below-all rows end parts.1)

pub rows-below : (numbers : List ℕ) (rows : List RowNo) (end most : ℕ) → rows ≡ row_numbers numbers → list_all (λ (row : ℕ). ltb row end) numbers ≡ true → most ≡ end → All (λ (row : RowNo). row.0 < most) rows
rows-below numbers rows end most e h m =
    subst (λ (rs : List RowNo). All (λ (row : RowNo). row.0 < most) rs) (sym e) (subst (λ (n : ℕ). All (λ (row : RowNo). row.0 < n) (row_numbers numbers)) (sym m) (rows-below-all numbers end h))

unused-in : (few : Type 0) (a : Option (List RowNo)) (b : Option RowNo) (r : Result (Unit {0}) ObjectFault) → few → (r ≡ Err NameUsed) ↔ (few × IsSome a) → ((row : RowNo) → (r ≡ Err (RowUsed row)) ↔ (few × IsNone a × (b ≡ Some row))) → r ≡ Ok tt → (not (is_some a) && not (is_some b)) ≡ true
unused-in few (Some x) b r f n u ok = cc (n.1 (f, refl))
unused-in few None (Some row) r f n u ok = cc ((u row).1 (f, refl, refl))
unused-in few None None r f n u ok = refl

used-in : (few : Type 0) (a : Option (List RowNo)) (b : Option RowNo) (r : Result (Unit {0}) ObjectFault) (row : RowNo) → (r ≡ Err (RowUsed row)) ↔ (few × IsNone a × (b ≡ Some row)) → r ≡ Err (RowUsed row) → (not (is_some a) && not (is_some b)) ≡ false
used-in few a b r row u e = and_right _ _ (ap (λ x. not (is_some x)) ((u.0 e).2))

-- an object that was added
pub object-added : (script view : Script) (name : Name) (numbers : List ℕ) (rows : List RowNo) (old : ObjectTable) (table : ObjectTable) (r : Result (Unit {0}) ObjectFault)
    → view ≡ script → old.objects ≡ script.objects → length script.objects < 64 → rows ≡ row_numbers numbers → list_all (λ (row : ℕ). ltb row script.rows) numbers ≡ true
    → (r ≡ Err NameUsed) ↔ ((length old.objects < 64) × IsSome (rows_of old.objects name))
    → ((row : RowNo) → (r ≡ Err (RowUsed row)) ↔ ((length old.objects < 64) × IsNone (rows_of old.objects name) × (first_used (held old.objects) rows ≡ Some row)))
    → r ≡ Ok tt → table ≡ with_object old name rows
    → (fault_of script (ObjectLine name numbers) ≡ None) × (after script (ObjectLine name numbers) ≡ record { stage = Body; script = record view { objects = table.objects } })
object-added script view name numbers rows old table r v o few e below n u ok t =
    let unused = unused-in (length old.objects < 64) (rows_of old.objects name) (first_used (held old.objects) rows) r (subst (λ (os : List Object). length os < 64) (sym o) few) n u ok in
    let fine : is_unused script.objects name numbers ≡ true = subst (λ (rs : List RowNo). (not (is_some (rows_of script.objects name)) && not (is_some (first_used (held script.objects) rs))) ≡ true) e
    (subst (λ (os : List Object). (not (is_some (rows_of os name)) && not (is_some (first_used (held os) rows))) ≡ true) o unused) in
    let at : List Object → Said = λ os. record { stage = Body; script = record script { objects = os } } in
    let with_rows : List Object → List RowNo → List Object = λ os rs. os ++ record { name = name; rows = rs } ∷ [] in (
      judged-none _ _ _ (and_from _ _ (lt-ltb _ _ few) below) fine refl,
      ap (λ rs. at (with_rows script.objects rs)) (sym e) ∙ ap (λ os. at (with_rows os rows)) (sym o) ∙ ap (λ (x : ObjectTable). at x.objects) (sym t)
          ∙ ap (λ (s : Script). let now : Said = record { stage = Body; script = record s { objects = table.objects } } in now) (sym v),
    )

pub object-used : (script : Script) (name : Name) (numbers : List ℕ) (rows : List RowNo) (old : ObjectTable) (r : Result (Unit {0}) ObjectFault) (row : RowNo)
    → old.objects ≡ script.objects → length script.objects < 64 → rows ≡ row_numbers numbers → list_all (λ (row : ℕ). ltb row script.rows) numbers ≡ true
    → ((row : RowNo) → (r ≡ Err (RowUsed row)) ↔ ((length old.objects < 64) × IsNone (rows_of old.objects name) × (first_used (held old.objects) rows ≡ Some row)))
    → r ≡ Err (RowUsed row) → fault_of script (ObjectLine name numbers) ≡ Some NameKind
object-used script name numbers rows old r row o few e below u is =
    let used = used-in (length old.objects < 64) (rows_of old.objects name) (first_used (held old.objects) rows) r row (u row) is in
    let bad : is_unused script.objects name numbers ≡ false = subst (λ (rs : List RowNo). (not (is_some (rows_of script.objects name)) && not (is_some (first_used (held script.objects) rs))) ≡ false) e
    (subst (λ (os : List Object). (not (is_some (rows_of os name)) && not (is_some (first_used (held os) rows))) ≡ false) o used) in
    judged-name _ _ true (and_from _ _ (lt-ltb _ _ few) below) bad

-- there are no more hosts than numbers below theirs
pub hosts-few : (from number : ℕ) (hosts : List HostJobs) → Rise from (map (λ (h : HostJobs). h.host) hosts) → list_all (λ (before : HostJobs). ltb before.host.0 number) hosts ≡ true → from ≤ number → from + length hosts ≤ number
hosts-few from number [] rise below l = omega arith
hosts-few from number (host ∷ hosts) rise below l =
    let parts = and_parts (ltb host.host.0 number) _ below in
    let here : host.host.0 < number = ltb-true _ _ parts.0 in
    let more : host.host.0 + 1 + length hosts ≤ number = hosts-few (host.host.0 + 1) number hosts rise.2 parts.1 (omega arith) in
    let first : from ≤ host.host.0 = rise.0 in
    omega arith

pub host-high : (script : Script) (number : ℕ) → 16 ≤ number → fault_of script (HostLine number) ≡ Some Range
host-high script number l = judged-range _ true true (and_left _ _ (le-ltb _ _ l))

pub host-sunk : (script : Script) (number : ℕ) → list_all (λ (before : HostJobs). ltb before.host.0 number) script.hosts ≡ false → fault_of script (HostLine number) ≡ Some Range
host-sunk script number h = judged-range _ true true (and_right _ _ h)

pub host-room : (script : Script) (number : ℕ) → Rise 0 (map (λ (h : HostJobs). h.host) script.hosts) → list_all (λ (before : HostJobs). ltb before.host.0 number) script.hosts ≡ true → number < 16 → length script.hosts < 16
host-room script number rise below l = let few : 0 + length script.hosts ≤ number = hosts-few 0 number script.hosts rise below (omega arith) in omega arith

pub host-added : (script later : Script) (number : ℕ) → number < 16 → list_all (λ (before : HostJobs). ltb before.host.0 number) script.hosts ≡ true → later ≡ record script { hosts = script.hosts ++ record { host = record { 0 = number }; jobs = [] } ∷ [] }
    → (fault_of script (HostLine number) ≡ None) × (after script (HostLine number) ≡ record { stage = Body; script = later })
host-added script later number l h e =
    (judged-none _ true true (and_from _ _ (lt-ltb _ _ l) h) refl refl, ap (λ (s : Script). let now : Said = record { stage = Body; script = s } in now) (sym e))

-- numbers below 16 that rise are 16 at most
pub rise-few : (from : ℕ) (hosts : List HostJobs) → Rise from (map (λ (h : HostJobs). h.host) hosts) → from ≤ 16 → from + length hosts ≤ 16
rise-few from [] rise l = omega arith
rise-few from (host ∷ hosts) rise l =
    let here : host.host.0 < 16 = rise.1 in
    let more : host.host.0 + 1 + length hosts ≤ 16 = rise-few (host.host.0 + 1) hosts rise.2 (omega arith) in
    let first : from ≤ host.host.0 = rise.0 in
    omega arith

pub room-behind : (script view : Script) (front : List HostJobs) (host : HostJobs) → view ≡ script → Rise 0 (map (λ (h : HostJobs). h.host) script.hosts) → view.hosts ≡ front ++ host ∷ [] → length front < 16
room-behind script view front host v rise e =
    let few : 0 + length script.hosts ≤ 16 = rise-few 0 script.hosts rise (lit≤ tt) in
    let same : length view.hosts ≡ length script.hosts = ap (λ (s : Script). length s.hosts) v in
    omega (arith, ap length e, length-append front (host ∷ []))
