-- Each data unit of the rows that are held is the place of just one block.
use Rattle.std.proofs.Common.{◌≡◌, ◌∙◌, sym, ap, refl, ℕ, zero, suc, ◌+◌, ◌-◌, ◌*◌, ◌/◌, ◌%◌, ◌<◌, ◌≤◌, inl, inr, arith, eqb, Bool, true, false, cond, List, [], ◌∷◌, ◌++◌, Option, Some, None, slice_get, find, option_map, All, Result, Ok, IfOk}
use Rattle.std.specs.Result.{result_map_both}
use Rattle.raid_base.specs.declared.jobs.PartsFault.{PartsFault}
use Rattle.std.specs.List.{IsDistinct, AllByRecursion, list_any}
use Rattle.std.proofs.lemmas.Option.{some_pair_parts}
use Rattle.std.proofs.lemmas.Map.Steps.{list_any_congr}
use Rattle.virtual_objects.proofs.JobLemmas.{object_distinct, are_parts, if_granted}
use Rattle.virtual_objects.proofs.PartLemmas.{placed_at}
use Rattle.std.specs.Cmp.Lexicographic.{nat_list_eq_equiv}
use Rattle.std.proofs.lemmas.Bool.{eq-eqb, eqb-true, or_cases, or_left, or_right, or_from, cases_Bool, false_from_ne_true, false≢true}
use Rattle.std.proofs.lemmas.Map.Keys.{IsDistinct-tail, IsDistinct-head}
use Rattle.std.proofs.lemmas.Nat.{div-add-mod', mod_below}
use Rattle.raid_base.specs.declared.names.Name.{Name}
use Rattle.raid_base.specs.declared.numbers.RowNo.{RowNo}
use Rattle.raid_base.specs.Names.{is_text}
use Rattle.virtual_objects.specs.Objects.{Object, Address, rows_of, placed_in, place_in, place, parts_in}
use Rattle.virtual_objects.specs.Table.{ObjectTable, AreObjects, names, numbers, held, is_held}
use Rattle.raid_base.specs.declared.jobs.RowPart.{RowPart}
use Rattle.virtual_objects.specs.RowParts.{ArePartsOf}
use Rattle.virtual_objects.specs.Places.{StandsOn, AreOne, ArePlaces}
use Rattle.virtual_objects.proofs.HeldLemmas.{held-append}

-- a row of a list is held by its numbers
row-in : (rows : List RowNo) (i : ℕ) (row : RowNo) → slice_get rows i ≡ Some row → is_held (numbers rows) row.0 ≡ true
row-in [] i row e = absurd (cc)
row-in (r ∷ rows) zero row e = (let same : r ≡ row = cc in or_left (eqb row.0 r.0) _ (eq-eqb row.0 r.0 (sym (ap (λ (x : RowNo). x.0) same))))
row-in (r ∷ rows) (suc i) row e = or_right (eqb row.0 r.0) _ (row-in rows i row e)

-- and a number that is held is a row's
record AtPlace (rows : List RowNo) (k : ℕ) : Type 0 where
  index : ℕ
  is : slice_get rows index ≡ Some (record { 0 = k })

in-row : (rows : List RowNo) (k : ℕ) → is_held (numbers rows) k ≡ true → AtPlace rows k
in-row [] k e = absurd (cc)
in-row (r ∷ rows) k e = elim (or_cases (eqb k r.0) _ e) [
  | inl same ↦ record { index = zero; is = ap (λ (x : ℕ). Some (let row : RowNo = record { 0 = x } in row)) (sym (eqb-true k r.0 same)) }
  | inr rest ↦ (let at = in-row rows k rest in record { index = suc at.index; is = at.is })
]

none-held : {K : Type 0} (e : K → K → Bool) (x : K) (xs : List K) → AllByRecursion (λ (y : K). e x y ≡ false) xs → list_any (e x) xs ≡ false
none-held e x [] h = refl
none-held e x (y ∷ ys) h = or_from (e x y) (list_any (e x) ys) h.0 (none-held e x ys h.1)

-- no number is on both sides
not-both : (xs ys : List ℕ) (k : ℕ) → IsDistinct eqb (xs ++ ys) → is_held xs k ≡ true → is_held ys k ≡ true → ⊥
not-both [] ys k d a b = false≢true a
not-both (x ∷ xs) ys k d a b = elim (or_cases (eqb k x) (is_held xs k) a) [
  | inl same ↦
      (let one : k ≡ x = eqb-true k x same in
      let no : is_held (xs ++ ys) x ≡ false = none-held eqb x (xs ++ ys) (IsDistinct-head eqb x (xs ++ ys) d) in
      let yes : is_held (xs ++ ys) x ≡ true = held-append xs ys x ∙ or_right (is_held xs x) (is_held ys x) (ap (is_held ys) (sym one) ∙ b) in
      false≢true (sym no ∙ yes))
  | inr rest ↦ not-both xs ys k (IsDistinct-tail eqb x (xs ++ ys) d) rest b
]

-- an object's rows, by the name of the first
rows-head : (object : Object) (objects : List Object) (name : Name) → is_text object.name name ≡ true → rows_of (object ∷ objects) name ≡ Some object.rows
rows-head object objects name e = ap (λ (b : Bool). option_map (λ (o : Object). o.rows) (cond b (Some object) (find (λ (o : Object). is_text o.name name) objects))) e

rows-tail : (object : Object) (objects : List Object) (name : Name) → is_text object.name name ≡ false → rows_of (object ∷ objects) name ≡ rows_of objects name
rows-tail object objects name e = ap (λ (b : Bool). option_map (λ (o : Object). o.rows) (cond b (Some object) (find (λ (o : Object). is_text o.name name) objects))) e

same-rows : (rows other : List RowNo) (o : Option (List RowNo)) → o ≡ Some rows → o ≡ Some other → rows ≡ other
same-rows rows other o a b = cc

held-head : (object : Object) (objects : List Object) (k : ℕ) → is_held (numbers object.rows) k ≡ true → is_held (held (object ∷ objects)) k ≡ true
held-head object objects k e = held-append (numbers object.rows) (held objects) k ∙ or_left (is_held (numbers object.rows) k) (is_held (held objects) k) e

held-tail : (object : Object) (objects : List Object) (k : ℕ) → is_held (held objects) k ≡ true → is_held (held (object ∷ objects)) k ≡ true
held-tail object objects k e = held-append (numbers object.rows) (held objects) k ∙ or_right (is_held (numbers object.rows) k) (is_held (held objects) k) e

-- a row of an object is held
found-row : (objects : List Object) (name : Name) (rows : List RowNo) (i : ℕ) (row : RowNo) → rows_of objects name ≡ Some rows → slice_get rows i ≡ Some row
    → is_held (held objects) row.0 ≡ true
found-row [] name rows i row e at = absurd (cc)
found-row (object ∷ objects) name rows i row e at = elim (cases_Bool (is_text object.name name)) [
  | inl t ↦
      (let same : object.rows ≡ rows = same-rows object.rows rows _ (rows-head object objects name t) e in
      held-head object objects row.0 (row-in object.rows i row (ap (λ (rs : List RowNo). slice_get rs i) same ∙ at)))
  | inr f ↦ held-tail object objects row.0 (found-row objects name rows i row (sym (rows-tail object objects name f) ∙ e) at)
]

-- two objects with one row are one
record OneObject (x y : Name) (rx ry : List RowNo) : Type 0 where
  name : is_text x y ≡ true
  rows : rx ≡ ry

distinct-tail : (xs ys : List ℕ) → IsDistinct eqb (xs ++ ys) → IsDistinct eqb ys
distinct-tail [] ys d = d
distinct-tail (x ∷ xs) ys d = distinct-tail xs ys (IsDistinct-tail eqb x (xs ++ ys) d)

same-object : (objects : List Object) (x y : Name) (rx ry : List RowNo) (i j : ℕ) (row : RowNo) → IsDistinct eqb (held objects)
    → rows_of objects x ≡ Some rx → rows_of objects y ≡ Some ry → slice_get rx i ≡ Some row → slice_get ry j ≡ Some row → OneObject x y rx ry
same-object [] x y rx ry i j row d ex ey atx aty = absurd (cc)
same-object (object ∷ objects) x y rx ry i j row d ex ey atx aty = elim (cases_Bool (is_text object.name x)) [
  | inl tx ↦ elim (cases_Bool (is_text object.name y)) [
    | inl ty ↦ record {
      name = sym (nat_list_eq_equiv.congr object.name x y tx) ∙ ty;
      rows = sym (same-rows object.rows rx _ (rows-head object objects x tx) ex) ∙ same-rows object.rows ry _ (rows-head object objects y ty) ey;
    }
    | inr fy ↦ absurd (not-both (numbers object.rows) (held objects) row.0 d
        (row-in object.rows i row (ap (λ (rs : List RowNo). slice_get rs i) (same-rows object.rows rx _ (rows-head object objects x tx) ex) ∙ atx))
        (found-row objects y ry j row (sym (rows-tail object objects y fy) ∙ ey) aty))
  ]
  | inr fx ↦ elim (cases_Bool (is_text object.name y)) [
    | inl ty ↦ absurd (not-both (numbers object.rows) (held objects) row.0 d
        (row-in object.rows j row (ap (λ (rs : List RowNo). slice_get rs j) (same-rows object.rows ry _ (rows-head object objects y ty) ey) ∙ aty))
        (found-row objects x rx i row (sym (rows-tail object objects x fx) ∙ ex) atx))
    | inr fy ↦ same-object objects x y rx ry i j row (distinct-tail (numbers object.rows) (held objects) d)
        (sym (rows-tail object objects x fx) ∙ ex) (sym (rows-tail object objects y fy) ∙ ey) atx aty
  ]
]

once : (r : RowNo) (rows : List RowNo) (j : ℕ) (row : RowNo) → IsDistinct eqb (numbers (r ∷ rows)) → Some r ≡ Some row → slice_get rows j ≡ Some row → ⊥
once r rows j row d a b =
    let same : r ≡ row = cc in
    let no : is_held (numbers rows) r.0 ≡ false = none-held eqb r.0 (numbers rows) (IsDistinct-head eqb r.0 (numbers rows) d) in
    false≢true (sym no ∙ ap (λ (x : RowNo). is_held (numbers rows) x.0) same ∙ row-in rows j row b)

-- a row stands once among distinct rows
same-index : (rows : List RowNo) (i j : ℕ) (row : RowNo) → IsDistinct eqb (numbers rows) → slice_get rows i ≡ Some row → slice_get rows j ≡ Some row → i ≡ j
same-index [] i j row d a b = absurd (cc)
same-index (r ∷ rows) zero zero row d a b = refl
same-index (r ∷ rows) zero (suc j) row d a b = absurd (once r rows j row d a b)
same-index (r ∷ rows) (suc i) zero row d a b = absurd (once r rows i row d b a)
same-index (r ∷ rows) (suc i) (suc j) row d a b = ap suc (same-index rows i j row (IsDistinct-tail eqb r.0 (numbers rows) d) a b)

-- where a block stands: the rows of its object, and its place in them
record Stood (n : ℕ) (objects : List Object) (address : Address) (row : RowNo) (unit : ℕ) : Type 0 where
  rows : List RowNo
  found : rows_of objects address.object ≡ Some rows
  at : slice_get rows (address.block / (n - 1)) ≡ Some row
  unit_is : address.block % (n - 1) ≡ unit

stood-row : (d block : ℕ) (o : Option RowNo) (row : RowNo) (unit : ℕ) → placed_in d block o ≡ Some (row, unit) → (o ≡ Some row) × (block % d ≡ unit)
stood-row d block None row unit e = absurd (cc)
stood-row d block (Some r) row unit e = (let parts = some_pair_parts r row (block % d) unit e in (ap (λ (x : RowNo). Some x) parts.0, parts.1))

stood-rows : (d block : ℕ) (o : Option (List RowNo)) (row : RowNo) (unit : ℕ) → place_in d block o ≡ Some (row, unit)
    → (rows : List RowNo) × (o ≡ Some rows) × (slice_get rows (block / d) ≡ Some row) × (block % d ≡ unit)
stood-rows d block None row unit e = absurd (cc)
stood-rows d block (Some rows) row unit e = (let s = stood-row d block (slice_get rows (block / d)) row unit e in (rows, refl, s.0, s.1))

stood : (n : ℕ) (objects : List Object) (address : Address) (row : RowNo) (unit : ℕ) → place n objects address ≡ Some (row, unit) → Stood n objects address row unit
stood n objects address row unit e =
    (let s = stood-rows (n - 1) address.block (rows_of objects address.object) row unit e in record { rows = s.0; found = s.1; at = s.2; unit_is = s.3 })

-- a held row is one of an object, which is found by its name
record Found (objects : List Object) (k : ℕ) : Type 0 where
  name : Name
  rows : List RowNo
  index : ℕ
  named : list_any (is_text name) (names objects) ≡ true
  found : rows_of objects name ≡ Some rows
  at : slice_get rows index ≡ Some (record { 0 = k })

find-row : (objects : List Object) (k : ℕ) → IsDistinct is_text (names objects) → is_held (held objects) k ≡ true → Found objects k
find-row [] k d e = absurd (cc)
find-row (object ∷ objects) k d e = elim (or_cases (is_held (numbers object.rows) k) (is_held (held objects) k) (sym (held-append (numbers object.rows) (held objects) k) ∙ e)) [
  | inl here ↦
      (let at = in-row object.rows k here in
      record {
        name = object.name;
        rows = object.rows;
        index = at.index;
        named = or_left (is_text object.name object.name) _ (nat_list_eq_equiv.refl object.name);
        found = rows-head object objects object.name (nat_list_eq_equiv.refl object.name);
        at = at.is;
      })
  | inr there ↦
      (let f = find-row objects k (IsDistinct-tail is_text object.name (names objects) d) there in
      let none : list_any (is_text object.name) (names objects) ≡ false = none-held is_text object.name (names objects) (IsDistinct-head is_text object.name (names objects) d) in
      record {
        name = f.name;
        rows = f.rows;
        index = f.index;
        named = or_right (is_text f.name object.name) _ f.named;
        found = rows-tail object objects f.name (false_from_ne_true (is_text object.name f.name) (λ t.
            false≢true (sym none ∙ list_any_congr nat_list_eq_equiv object.name f.name (names objects) t ∙ f.named))) ∙ f.found;
        at = f.at;
      })
]

one-block : (n : ℕ) (a b : ℕ) → a / (n - 1) ≡ b / (n - 1) → a % (n - 1) ≡ b % (n - 1) → a ≡ b
one-block n a b q r =
    sym (div-add-mod' a (n - 1)) ∙ ap (λ (x : ℕ). x * (n - 1) + a % (n - 1)) q ∙ ap (λ (x : ℕ). b / (n - 1) * (n - 1) + x) r ∙ div-add-mod' b (n - 1)

are_one : (n : ℕ) (objects : List Object) (a b : Address) (row : RowNo) (unit : ℕ) → IsDistinct eqb (held objects) → Stood n objects a row unit → Stood n objects b row unit → AreOne a b
are_one n objects a b row unit d sa sb =
    let one = same-object objects a.object b.object sa.rows sb.rows (a.block / (n - 1)) (b.block / (n - 1)) row d sa.found sb.found sa.at sb.at in
    let places : a.block / (n - 1) ≡ b.block / (n - 1) =
    same-index sa.rows (a.block / (n - 1)) (b.block / (n - 1)) row (object_distinct objects a.object sa.rows d sa.found) sa.at
    (ap (λ (rs : List RowNo). slice_get rs (b.block / (n - 1))) one.rows ∙ sb.at) in
    (one.name, one-block n a.block b.block places (sa.unit_is ∙ sym sb.unit_is))

fills : (table : ObjectTable) (row : RowNo) (unit : ℕ) → unit < table.n - 1 → Found table.objects row.0 → (address : Address) × StandsOn table address row unit
fills table row unit h f =
    let block : ℕ = f.index * (table.n - 1) + unit in
    let at : place table.n table.objects (record { object = f.name; block = f.index * (table.n - 1) + unit }) ≡ Some (row, unit) =
    ap (place_in (table.n - 1) (f.index * (table.n - 1) + unit)) f.found
    ∙ placed_at (table.n - 1) f.index (f.index * (table.n - 1) + unit) f.rows row (omega arith) (omega arith) f.at
    ∙ ap (λ (u : ℕ). Some (row, u)) (let e : f.index * (table.n - 1) + unit - f.index * (table.n - 1) ≡ unit = omega arith in e) in
    (record { object = f.name; block = f.index * (table.n - 1) + unit }, at)

pub are_places : (table : ObjectTable) → AreObjects table → ArePlaces table
are_places table are =
    let least = are.devices_least in
    record {
      unit_in = λ address row unit e. (let s = stood table.n table.objects address row unit e in let below = mod_below address.block (table.n - 1) (omega arith) in let is = s.unit_is in omega arith);
      row_held = λ address row unit e. (let s = stood table.n table.objects address row unit e in found-row table.objects address.object s.rows (address.block / (table.n - 1)) row s.found s.at);
      apart = λ a b row unit ea eb. are_one table.n table.objects a b row unit are.rows_apart (stood table.n table.objects a row unit ea) (stood table.n table.objects b row unit eb);
      filled = λ row unit e h. fills table row unit h (find-row table.objects row.0 are.names_apart e);
    }

-- the rows of a job's parts are rows of the array
pub parts_below : (table : ObjectTable) (name : Name) (first count : ℕ) (parts : List RowPart) → AreObjects table → ArePartsOf table.n table.objects name first count parts
    → All (λ (part : RowPart). part.row.0 < table.rows) parts
parts_below table name first count parts are ps = λ k d h.
    (let some = (ps.sound.each k d h).some in
    let at = stood table.n table.objects _ _ _ (ps.placed k d h 0 (omega arith)) in
    are.rows_below _ (found-row table.objects name at.rows _ _ at.found at.at))

-- what holds of the parts that a call grants
pub granted_sound : {V : Type 0} (items : V → List RowPart) (r : Result V PartsFault) (table : ObjectTable) (name : Name) (rows : List RowNo) (first count units : ℕ)
    → AreObjects table → 1 ≤ count → units ≡ table.n - 1 → rows_of table.objects name ≡ Some rows → result_map_both items (λ fault. fault) r ≡ parts_in units first count rows
    → IfOk r (λ v. ArePartsOf table.n table.objects name first count (items v)) × IfOk r (λ v. All (λ (part : RowPart). part.row.0 < table.rows) (items v))
granted_sound items r table name rows first count units are some same found e =
    let least = are.devices_least in
    let sound = λ (ps : List RowPart) (ok : parts_in units first count rows ≡ Ok ps).
    are_parts table.n first count table.objects name rows ps (omega arith) some found are.rows_apart (ap (λ (d : ℕ). parts_in d first count rows) (sym same) ∙ ok) in (
      if_granted items r (parts_in units first count rows) e (ArePartsOf table.n table.objects name first count) sound,
      if_granted items r (parts_in units first count rows) e (All (λ (part : RowPart). part.row.0 < table.rows)) (λ ps ok. parts_below table name first count ps are (sound ps ok)),
    )
