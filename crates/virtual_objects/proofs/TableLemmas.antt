-- What is true of all objects of an array.
use Rattle.std.proofs.Common.{◌≡◌, ◌∙◌, sym, ap, refl, subst, ℕ, ◌+◌, ◌<◌, ◌≤◌, inl, inr, arith, eqb, Bool, true, false, cond, List, [], ◌∷◌, ◌++◌, length, All, Some, None, find, option_map, is_some, IsNone}
use Rattle.std.specs.List.{IsDistinct, list_any}
use Rattle.std.specs.Cmp.Lexicographic.{nat_list_eq_equiv}
use Rattle.std.proofs.lemmas.Bool.{or_cases, or_from}
use Rattle.std.proofs.lemmas.List.{append-nil, map-append, length_push, length-append, length-map}
use Rattle.std.proofs.lemmas.List.Elements.{All-push, All-cons, All-nil}
use Rattle.std.proofs.lemmas.Grind.{flat_map-append}
use Rattle.std.proofs.lemmas.Map.Keys.{IsDistinct-push}
use Rattle.std.proofs.lemmas.Map.Steps.{length-le_from_distinct_below}
use Rattle.raid_base.specs.declared.names.Name.{Name}
use Rattle.raid_base.specs.declared.numbers.RowNo.{RowNo}
use Rattle.raid_base.specs.Names.{is_text}
use Rattle.virtual_objects.specs.Objects.{Object, rows_of}
use Rattle.virtual_objects.specs.Table.{ObjectTable, AreObjects, no_objects, with_object, names, numbers, held, is_held, first_used}
use Rattle.virtual_objects.specs.Marks.{IsMarked, Marks, Cleared}
use Rattle.virtual_objects.proofs.HeldLemmas.{held-append, distinct_all, below_all}
use Rattle.virtual_objects.proofs.MarkLemmas.{unmarked}

pub none_distinct : {K : Type 0} (e : K → K → Bool) → IsDistinct e []
unfolding IsDistinct
none_distinct e = tt

pub no_objects_are : (n rows : ℕ) → 3 ≤ n → n ≤ 16 → 1 ≤ rows → rows ≤ 4096 → AreObjects (no_objects n rows)
no_objects_are n rows a b c d = record {
  devices_least = a;
  devices_most = b;
  rows_least = c;
  rows_most = d;
  few = omega arith;
  names_apart = none_distinct _;
  rows_apart = none_distinct _;
  rows_below = λ row e. absurd (cc);
  rows_some = λ k d h. absurd (omega arith);
}

-- an object's rows come last
pub held-more : (objects : List Object) (name : Name) (rows : List RowNo) → held (objects ++ record { name = name; rows = rows } ∷ []) ≡ held objects ++ numbers rows
held-more objects name rows =
    flat_map-append (λ (object : Object). numbers object.rows) objects (record { name = name; rows = rows } ∷ [])
    ∙ ap (λ (xs : List ℕ). held objects ++ xs) (append-nil (numbers rows))

first_unnamed : (object : Object) (objects : List Object) (name : Name) (b : Bool) → is_text object.name name ≡ b
    → is_some (option_map (λ (o : Object). o.rows) (cond b (Some object) (find (λ (o : Object). is_text o.name name) objects))) ≡ false
    → (is_text name object.name ≡ false) × (IsNone (rows_of objects name))
first_unnamed object objects name true t e = absurd (cc)
first_unnamed object objects name false t e = (nat_list_eq_equiv.symm name object.name ∙ t, e)

-- a name that has no rows is no object's
pub name_free : (objects : List Object) (name : Name) → IsNone (rows_of objects name) → list_any (is_text name) (names objects) ≡ false
name_free [] name e = refl
name_free (object ∷ objects) name e =
    let first = first_unnamed object objects name (is_text object.name name) refl e in
    or_from (is_text name object.name) _ first.0 (name_free objects name first.1)

pub added_are : (table : ObjectTable) (name : Name) (rows : List RowNo) → AreObjects table → length table.objects < 64 → IsNone (rows_of table.objects name)
    → first_used (held table.objects) rows ≡ None → 0 < length rows → All (λ (row : RowNo). row.0 < table.rows) rows → AreObjects (with_object table name rows)
added_are table name rows are few unnamed unused some below =
    let more : held (with_object table name rows).objects ≡ held table.objects ++ numbers rows = held-more table.objects name rows in
    record {
      devices_least = are.devices_least;
      devices_most = are.devices_most;
      rows_least = are.rows_least;
      rows_most = are.rows_most;
      few = omega (arith, length_push table.objects (record { name = name; rows = rows }));
      names_apart = subst (IsDistinct is_text) (sym (map-append (λ (o : Object). o.name) table.objects (record { name = name; rows = rows } ∷ [])))
          (IsDistinct-push nat_list_eq_equiv (names table.objects) name are.names_apart (name_free table.objects name unnamed));
      rows_apart = subst (IsDistinct eqb) (sym more) (distinct_all (held table.objects) rows unused are.rows_apart);
      rows_below = λ k h. elim (or_cases (is_held (held table.objects) k) (is_held (numbers rows) k) (sym (held-append (held table.objects) (numbers rows) k) ∙ ap (λ (xs : List ℕ). is_held xs k) (sym more) ∙ h)) [
        | inl old ↦ are.rows_below k old
        | inr new ↦ below_all rows table.rows k below new
      ];
      rows_some = All-push (λ (o : Object). 0 < length o.rows) table.objects (record { name = name; rows = rows }) are.rows_some some;
    }

-- the facts of the table and of its marks, once an object is added and its rows are marked
pub added_inside : (table : ObjectTable) (name : Name) (rows : List RowNo) (used marks : List Bool) (objects : List Object)
    → AreObjects table × IsMarked used (held table.objects) × (length used ≡ table.rows)
    → length table.objects < 64 → IsNone (rows_of table.objects name) → 0 < length rows → All (λ (row : RowNo). row.0 < table.rows) rows
    → Marks (held table.objects) rows None marks → length marks ≡ length used
    → objects ≡ table.objects ++ record { name = name; rows = rows } ∷ []
    → AreObjects (record table { objects = objects }) × IsMarked marks (held objects) × (length marks ≡ table.rows)
added_inside table name rows used marks objects inside few unnamed some below m long e =
    rw e (
      added_are table name rows inside.0 few unnamed (sym m.told) some below,
      subst (IsMarked marks) (sym (held-more table.objects name rows)) (m.marked refl),
      long ∙ inside.2,
    )

-- and once the marks are taken off, where it was not
pub kept_inside : (table : ObjectTable) (rows : List RowNo) (used marks cleared : List Bool) (objects : List Object)
    → AreObjects table × IsMarked used (held table.objects) × (length used ≡ table.rows)
    → Marks (held table.objects) rows None marks → length marks ≡ length used → Cleared marks (numbers rows) cleared → length cleared ≡ length marks
    → objects ≡ table.objects
    → AreObjects (record table { objects = objects }) × IsMarked cleared (held objects) × (length cleared ≡ table.rows)
kept_inside table rows used marks cleared objects inside m long c shorter e =
    rw e (inside.0, unmarked (held table.objects) rows marks cleared (sym m.told) (m.marked refl) c, shorter ∙ long ∙ inside.2)

-- an object's rows are no more than all that are held, and these no more than there are
rows_among : (objects : List Object) (name : Name) (rows : List RowNo) → rows_of objects name ≡ Some rows → length rows ≤ length (held objects)
rows_among [] name rows e = absurd (cc)
rows_among (object ∷ objects) name rows e = by (is_text object.name name) e (rows_among objects name rows)
  where
    all : length (held (object ∷ objects)) ≡ length object.rows + length (held objects)
    all = length-append (numbers object.rows) (held objects) ∙ ap (λ n. n + length (held objects)) (length-map object.rows (λ (row : RowNo). row.0))

    by : (b : Bool) → option_map (λ (o : Object). o.rows) (cond b (Some object) (find (λ (o : Object). is_text o.name name) objects)) ≡ Some rows
        → (rows_of objects name ≡ Some rows → length rows ≤ length (held objects)) → length rows ≤ length (held (object ∷ objects))
    by true t rest = (let same : object.rows ≡ rows = cc in omega (arith, all, ap length same))
    by false t rest = omega (arith, all, rest t)

pub rows_few : (table : ObjectTable) (name : Name) (rows : List RowNo) → AreObjects table → rows_of table.objects name ≡ Some rows → length rows ≤ table.rows
rows_few table name rows are e =
    omega (arith, rows_among table.objects name rows e, length-le_from_distinct_below (held table.objects) table.rows are.rows_apart are.rows_below)

each_among : (objects : List Object) (bound : ℕ) → length (held objects) ≤ bound → All (λ (object : Object). length object.rows ≤ bound) objects
each_among [] bound h = All-nil (λ (object : Object). length object.rows ≤ bound)
each_among (object ∷ objects) bound h =
    let all : length (held (object ∷ objects)) ≡ length object.rows + length (held objects) =
    length-append (numbers object.rows) (held objects) ∙ ap (λ n. n + length (held objects)) (length-map object.rows (λ (row : RowNo). row.0)) in
    All-cons (λ (o : Object). length o.rows ≤ bound) object objects (omega arith) (each_among objects bound (omega arith))

-- each object's rows are no more than there are
pub each_few : (table : ObjectTable) → AreObjects table → All (λ (object : Object). length object.rows ≤ table.rows) table.objects
each_few table are =
    each_among table.objects table.rows (length-le_from_distinct_below (held table.objects) table.rows are.rows_apart are.rows_below)
