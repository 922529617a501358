-- The parts of a job are sound, and cover its blocks.
use Rattle.std.proofs.Common.{◌≡◌, ◌∙◌, sym, ap, refl, subst, ℕ, zero, suc, ◌+◌, ◌-◌, ◌*◌, ◌/◌, ◌%◌, ◌<◌, ◌≤◌, inl, inr, max, arith, eqb, Bool, true, false, cond, if◌then◌else◌, List, [], ◌∷◌, ◌++◌, map, length, take, drop, get_or, Option, Some, Result, Ok, Err, slice_get, find, option_map, IfOk}
use Rattle.std.specs.Result.{result_map_both}
use Rattle.std.specs.List.{range_with_len, IsDistinct}
use Rattle.std.proofs.lemmas.Bool.{ltb-false, cases_lt}
use Rattle.std.proofs.lemmas.List.{map-append, take-append-drop, get_or_append_left, length-append, length-take, length-drop}
use Rattle.std.proofs.lemmas.List.Elements.{All-weaker}
use Rattle.std.proofs.lemmas.Map.Keys.{IsDistinct-tail, IsDistinct-from_apart, apart_from_distinct}
use Rattle.std.proofs.lemmas.Nat.{mul-le, div-add-mod', mod_below, div_below}
use Rattle.raid_base.specs.declared.names.Name.{Name}
use Rattle.raid_base.specs.declared.numbers.RowNo.{RowNo}
use Rattle.raid_base.specs.declared.jobs.RowPart.{RowPart}
use Rattle.raid_base.specs.declared.jobs.PartsFault.{PartsFault}
use Rattle.raid_base.specs.Names.{is_text}
use Rattle.stripe_layout.specs.Placement.{units_in}
use Rattle.virtual_objects.specs.Objects.{Object, rows_of, rows_touched, parts_from, parts_in, placed_in, place_in, place, rank}
use Rattle.raid_base.specs.Cells.{has_unit}
use Rattle.virtual_objects.specs.Table.{numbers, held}
use Rattle.virtual_objects.specs.RowParts.{AreInTurn, ArePartsOf}
use Rattle.virtual_objects.proofs.PartLemmas.{Spans, StandsAt, HasPlaces, HasRanks, each-ranked, rows-same, each-part, in-turn, counts, covers-from, each-placed}

-- Where a job begins and ends: in the rows at two places of the object.
pub record Ends (d first last : ℕ) (rows : List RowNo) : Type 0 where
  pub low : first / d * d ≤ first
  pub first_row : first < first / d * d + d
  pub high : (last - 1) / d * d ≤ last - 1
  pub last_row : last - 1 < (last - 1) / d * d + d
  pub order : first / d ≤ (last - 1) / d
  pub within : (last - 1) / d < length rows

not_after : (a b d : ℕ) → a * d < b * d + d → a ≤ b
not_after a b d h = elim (cases_lt b a) [ inl more ↦ absurd (let e : (b + 1) * d ≤ a * d = mul-le (b + 1) d a d (omega arith) (omega arith) in omega arith) | inr less ↦ less ]

pub job_ends : (d first last : ℕ) (rows : List RowNo) → 1 ≤ d → first < last → last ≤ length rows * d → Ends d first last rows
job_ends d first last rows hd some inside =
    let a : first / d * d + first % d ≡ first = div-add-mod' first d in
    let b : (last - 1) / d * d + (last - 1) % d ≡ last - 1 = div-add-mod' (last - 1) d in
    let c : first % d < d = mod_below first d (omega arith) in
    let e : (last - 1) % d < d = mod_below (last - 1) d (omega arith) in
    record {
      low = omega arith;
      first_row = omega arith;
      high = omega arith;
      last_row = omega arith;
      order = not_after (first / d) ((last - 1) / d) d (omega arith);
      within = div_below (last - 1) d (length rows) (omega arith) (omega arith);
    }

pub job_spans : (d first last : ℕ) (rows : List RowNo) (len : ℕ) → 1 ≤ d → first < last → Ends d first last rows → suc len ≡ (last - 1) / d + 1 - first / d → Spans d first last (first / d) len
job_spans d first last rows len hd some ends e =
    let o = ends.order in
    let sum : first / d + len ≡ (last - 1) / d = omega arith in
    record {
      units = hd;
      starts = ends.first_row;
      last_row = (let h = ends.high in rw sum (omega arith));
      last_end = (let h = ends.last_row in rw sum (omega arith));
      some = some;
    }

-- the rows that a job touches
pub touched_length : (d first last : ℕ) (rows : List RowNo) → Ends d first last rows
    → length (take ((last - 1) / d + 1 - first / d) (drop (first / d) rows)) ≡ (last - 1) / d + 1 - first / d
touched_length d first last rows ends =
    let o = ends.order in let w = ends.within in
    omega (arith, length-take ((last - 1) / d + 1 - first / d) (drop (first / d) rows), length-drop (first / d) rows)

get-take : (t : ℕ) (xs : List RowNo) (k : ℕ) (row : RowNo) → slice_get (take t xs) k ≡ Some row → slice_get xs k ≡ Some row
get-take zero xs k row e = absurd (cc)
get-take (suc t) [] k row e = absurd (cc)
get-take (suc t) (x ∷ xs) zero row e = e
get-take (suc t) (x ∷ xs) (suc k) row e = get-take t xs k row e

get-drop : (i : ℕ) (xs : List RowNo) (k : ℕ) → slice_get (drop i xs) k ≡ slice_get xs (i + k)
get-drop zero xs k = (let e : zero + k ≡ k = omega arith in rw e refl)
get-drop (suc i) [] k = refl
get-drop (suc i) (x ∷ xs) k = (let e : suc i + k ≡ suc (i + k) = omega arith in rw e (get-drop i xs k))

pub touched_stand : (t i : ℕ) (rows : List RowNo) → StandsAt rows i (take t (drop i rows))
touched_stand t i rows = λ k row e. sym (get-drop i rows k) ∙ get-take t (drop i rows) k row e

-- distinct numbers stay so in a piece
distinct-right : (xs ys : List ℕ) → IsDistinct eqb (xs ++ ys) → IsDistinct eqb ys
distinct-right [] ys d = d
distinct-right (x ∷ xs) ys d = distinct-right xs ys (IsDistinct-tail eqb x (xs ++ ys) d)

distinct-left : (xs ys : List ℕ) → IsDistinct eqb (xs ++ ys) → IsDistinct eqb xs
distinct-left xs ys d = IsDistinct-from_apart eqb xs (λ i j e less inside.
    (let a : get_or (xs ++ ys) i e ≡ get_or xs i e = get_or_append_left xs ys e i (omega arith) in
    let b : get_or (xs ++ ys) j e ≡ get_or xs j e = get_or_append_left xs ys e j inside in
    ap (λ (k : ℕ). eqb k (get_or xs j e)) (sym a) ∙ ap (eqb (get_or (xs ++ ys) i e)) (sym b) ∙ apart_from_distinct eqb (xs ++ ys) i j e d less (omega (arith, length-append xs ys))))

pub touched_distinct : (t i : ℕ) (rows : List RowNo) → IsDistinct eqb (numbers rows) → IsDistinct eqb (numbers (take t (drop i rows)))
touched_distinct t i rows d =
    let right : IsDistinct eqb (numbers (drop i rows)) = distinct-right (numbers (take i rows)) (numbers (drop i rows))
    (subst (IsDistinct eqb) (ap numbers (sym (take-append-drop i rows)) ∙ map-append (λ (r : RowNo). r.0) (take i rows) (drop i rows)) d) in
    distinct-left (numbers (take t (drop i rows))) (numbers (drop t (drop i rows)))
    (subst (IsDistinct eqb) (ap numbers (sym (take-append-drop t (drop i rows))) ∙ map-append (λ (r : RowNo). r.0) (take t (drop i rows)) (drop t (drop i rows))) right)

-- an object's rows are distinct
pub object_distinct : (objects : List Object) (name : Name) (rows : List RowNo) → IsDistinct eqb (held objects) → rows_of objects name ≡ Some rows → IsDistinct eqb (numbers rows)
object_distinct [] name rows d e = absurd (cc)
object_distinct (object ∷ objects) name rows d e = by (is_text object.name name) e (object_distinct objects name rows (distinct-right (numbers object.rows) (held objects) d))
  where
    by : (b : Bool) → option_map (λ (o : Object). o.rows) (cond b (Some object) (find (λ (o : Object). is_text o.name name) objects)) ≡ Some rows
        → (rows_of objects name ≡ Some rows → IsDistinct eqb (numbers rows)) → IsDistinct eqb (numbers rows)
    by true t rest = (let same : object.rows ≡ rows = cc in subst (λ (rs : List RowNo). IsDistinct eqb (numbers rs)) same (distinct-left (numbers object.rows) (held objects) d))
    by false t rest = rest t

-- a job that is granted
granted : (b c : Bool) (e f : PartsFault) (x ps : List RowPart) → (if b then Err e else (if c then Err f else Ok x)) ≡ Ok ps → (b ≡ false) × (c ≡ false) × (x ≡ ps)
granted true c e f x ps h = absurd (cc)
granted false true e f x ps h = absurd (cc)
granted false false e f x ps h = (refl, refl, (cc))

length-parts : (d first last index : ℕ) (rs : List RowNo) → length (parts_from d first last index rs) ≡ length rs
length-parts d first last index [] = refl
length-parts d first last index (row ∷ rs) = ap suc (length-parts d first last (index + 1) rs)

-- the blocks of the object as they stand in its rows
place-found : (n : ℕ) (objects : List Object) (name : Name) (rows : List RowNo) (block : ℕ) → rows_of objects name ≡ Some rows
    → place n objects (record { object = name; block = block }) ≡ placed_in (n - 1) block (slice_get rows (block / (n - 1)))
place-found n objects name rows block e = ap (place_in (n - 1) block) e

-- the parts in the rows that a job touches
job_parts : (n first count : ℕ) (objects : List Object) (name : Name) (rows : List RowNo) (rs : List RowNo) → 2 ≤ n → 1 ≤ count → rows_of objects name ≡ Some rows
    → IsDistinct eqb (numbers rs) → length rs ≡ (first + count - 1) / (n - 1) + 1 - first / (n - 1) → length rs ≤ 8 → StandsAt rows (first / (n - 1)) rs
    → rs ≡ take (length rs) (drop (first / (n - 1)) rows) → Ends (n - 1) first (first + count) rows
    → ArePartsOf n objects name first count (parts_from (n - 1) first (first + count) (first / (n - 1)) rs)
job_parts n first count objects name rows [] hn hc found apart long few stands cut ends = absurd (let o = ends.order in let none : length {A = RowNo} [] ≡ 0 = refl in omega arith)
job_parts n first count objects name rows (row ∷ rs) hn hc found apart long few stands cut ends =
    let s : Spans (n - 1) first (first + count) (first / (n - 1)) (length rs) = job_spans (n - 1) first (first + count) rows (length rs) (omega arith) (omega arith) ends long in
    let low : max first (first / (n - 1) * (n - 1)) ≡ first = (let l = ends.low in omega arith) in
    let none : max first (first / (n - 1) * (n - 1)) - first ≡ 0 = omega arith in
    let all : first + count - max first (first / (n - 1) * (n - 1)) ≡ count = omega arith in
    record {
      sound = record {
        some = (let l = length-parts (n - 1) first (first + count) (first / (n - 1)) (row ∷ rs) in omega arith);
        few = (let l = length-parts (n - 1) first (first + count) (first / (n - 1)) (row ∷ rs) in omega arith);
        rows_apart = subst (λ (xs : List RowNo). IsDistinct eqb (numbers xs)) (sym (rows-same (n - 1) first (first + count) (first / (n - 1)) (row ∷ rs))) apart;
        each = each-part n (n - 1) first (first + count) (first / (n - 1)) row rs refl s;
        in_turn = subst (λ (a : ℕ). AreInTurn a (parts_from (n - 1) first (first + count) (first / (n - 1)) (row ∷ rs))) none (in-turn (n - 1) first (first + count) (first / (n - 1)) row rs s);
      };
      in_order =
          ap (λ (rs : List RowNo). Some rs) (rows-same (n - 1) first (first + count) (first / (n - 1)) (row ∷ rs) ∙ cut
          ∙ ap (λ (k : ℕ). take k (drop (first / (n - 1)) rows)) (sym (length-parts (n - 1) first (first + count) (first / (n - 1)) (row ∷ rs))))
          ∙ ap (option_map (λ (xs : List RowNo). take (length (parts_from (n - 1) first (first + count) (first / (n - 1)) (row ∷ rs))) (drop (first / (n - 1)) xs))) (sym found);
      total = counts (n - 1) first (first + count) (first / (n - 1)) row rs s ∙ all;
      covers = covers-from n (n - 1) first (first + count) (first / (n - 1)) rows row rs refl s stands
          ∙ ap (λ (a : ℕ). map (λ block. placed_in (n - 1) block (slice_get rows (block / (n - 1)))) (range_with_len a (first + count - a))) low
          ∙ ap (λ (c : ℕ). map (λ block. placed_in (n - 1) block (slice_get rows (block / (n - 1)))) (range_with_len first c)) (let e : first + count - first ≡ count = omega arith in e)
          ∙ ap (λ (o : Option (List RowNo)). map (λ block. place_in (n - 1) block o) (range_with_len first count)) (sym found);
      placed = All-weaker (HasPlaces n (n - 1) first rows)
          (λ (part : RowPart). (k : ℕ) → k < part.count → place n objects (record { object = name; block = first + part.at + k }) ≡ Some (part.row, get_or (units_in n part.mask) k 0))
          (λ part h k less. place-found n objects name rows (first + part.at + k) found ∙ h k less)
          (parts_from (n - 1) first (first + count) (first / (n - 1)) (row ∷ rs)) (each-placed n (n - 1) first (first + count) (first / (n - 1)) rows row rs refl s stands);
      ranked =
          All-weaker (HasRanks n (n - 1) first rows)
          (λ (part : RowPart). (unit : ℕ) → has_unit part.mask unit ≡ true → place n objects (record { object = name; block = first + (part.at + rank unit (units_in n part.mask)) }) ≡ Some (part.row, unit))
          (λ part h unit has. place-found n objects name rows (first + (part.at + rank unit (units_in n part.mask))) found ∙ h unit has)
          (parts_from (n - 1) first (first + count) (first / (n - 1)) (row ∷ rs)) (each-ranked n (n - 1) first (first + count) (first / (n - 1)) rows row rs refl s stands);
    }

-- What is granted are the parts of the job.
pub are_parts : (n first count : ℕ) (objects : List Object) (name : Name) (rows : List RowNo) (ps : List RowPart) → 2 ≤ n → 1 ≤ count
    → rows_of objects name ≡ Some rows → IsDistinct eqb (held objects) → parts_in (n - 1) first count rows ≡ Ok ps → ArePartsOf n objects name first count ps
are_parts n first count objects name rows ps hn hc found distinct ok =
    let g = granted _ _ _ _ _ ps ok in
    let inside : first + count ≤ length rows * (n - 1) = ltb-false (length rows * (n - 1)) (first + count) g.0 in
    let few : (first + count - 1) / (n - 1) + 1 - first / (n - 1) ≤ 8 = ltb-false 8 (rows_touched (n - 1) first count) g.1 in
    let ends : Ends (n - 1) first (first + count) rows = job_ends (n - 1) first (first + count) rows (omega arith) (omega arith) inside in
    let long = touched_length (n - 1) first (first + count) rows ends in
    subst (ArePartsOf n objects name first count) g.2
    (job_parts n first count objects name rows (take (rows_touched (n - 1) first count) (drop (first / (n - 1)) rows)) hn hc found
    (touched_distinct (rows_touched (n - 1) first count) (first / (n - 1)) rows (object_distinct objects name rows distinct found))
    long (omega arith) (touched_stand (rows_touched (n - 1) first count) (first / (n - 1)) rows)
    (ap (λ (k : ℕ). take k (drop (first / (n - 1)) rows)) (sym long)) ends)

-- the row of the last part begins before the job's end
pub last_starts : (d first last len : ℕ) (rows : List RowNo) → 1 ≤ d → first < last → last ≤ length rows * d → len ≤ (last - 1) / d + 1 - first / d → (first / d + len) * d < last + d
last_starts d first last len rows hd some inside few =
    let ends = job_ends d first last rows hd some inside in
    let o = ends.order in let h = ends.high in
    let m : (first / d + len) * d ≤ ((last - 1) / d + 1) * d = mul-le (first / d + len) d ((last - 1) / d + 1) d (omega arith) (omega arith) in
    omega arith

-- what holds of the parts that a call grants
pub if_granted : {V : Type 0} (items : V → List RowPart) (r : Result V PartsFault) (s : Result (List RowPart) PartsFault) → result_map_both items (λ fault. fault) r ≡ s
    → (P : List RowPart → Type 0) → ((ps : List RowPart) → s ≡ Ok ps → P ps) → IfOk r (λ v. P (items v))
if_granted items (Ok v) s e P h = h (items v) (sym e)
if_granted items (Err f) s e P h = tt
