-- Rows and what is open on them, entry by entry.
use Rattle.std.proofs.Common.{◌≡◌, ℕ, zero, suc, ◌+◌, ◌-◌, ◌<◌, ◌≤◌, ◌==◌, ◌||◌, not, nat_lt, nat_eq, eqb, Bool, true, false, List, [], ◌∷◌, length, map, Option, Some, None, is_some, unwrap_or, slice_get, slice_index_or, slice_set, refl, sym, ap, subst, ◌∙◌, arith}
use Rattle.std.specs.List.{range_with_len, swap}
use Rattle.std.specs.Map.{lookup, values_of}
use Rattle.indexmap.specs.IndexMap.{set_value_at}
use Rattle.std.proofs.lemmas.List.FromFn.{length-map-range_with_len, get_or-map-range_with_len}
use Rattle.std.proofs.lemmas.List.Edits.{swapped_from_swap, length-swap}
use Rattle.std.proofs.lemmas.Bool.{eqb-true, eqb-false}
use Rattle.std.proofs.lemmas.Bool.Decides.{nat_tests}
use Rattle.raid_base.specs.declared.messages.Note.{Note}
use Rattle.slot_rules.specs.declared.Reader.{Reader}
use Rattle.slot_rules.specs.declared.opened.Open.{Open}
use Rattle.slot_rules.specs.Tables.{closed, is_open}
use Rattle.slot_rules.specs.Opens.{open_at, opens_of, AreFirst, AreFirstBut}

-- what is read where a value was written by its place, and elsewhere
pub value_at-same : (es : List (ℕ × Open)) (i : ℕ) (w : Open) (d : ℕ × Open) → i < length es → slice_index_or (set_value_at es i w) i d ≡ ((slice_index_or es i d).0, w)
value_at-same [] i w d l = absurd (omega arith)
value_at-same (e ∷ es) zero w d l = refl
value_at-same (e ∷ es) (suc i) w d l = value_at-same es i w d (omega arith)

pub value_at-other : (es : List (ℕ × Open)) (i k : ℕ) (w : Open) (d : ℕ × Open) → (k ≡ i → ⊥) → slice_index_or (set_value_at es i w) k d ≡ slice_index_or es k d
value_at-other [] i k w d n = refl
value_at-other (e ∷ es) zero zero w d n = absurd (n refl)
value_at-other (e ∷ es) zero (suc k) w d n = refl
value_at-other (e ∷ es) (suc i) zero w d n = refl
value_at-other (e ∷ es) (suc i) (suc k) w d n = value_at-other es i k w d (λ same. n (ap suc same))

-- a row on which nothing is open
closed_by : (note : Option Note) (readers : List Reader) → (is_some note || not (length readers == 0)) ≡ false → (let o : Open = record { note = note; readers = readers } in o) ≡ closed
closed_by (Some note) readers h = absurd (let bad : true ≡ false = h in cc)
closed_by None [] h = refl
closed_by None (reader ∷ readers) h = absurd (grind (arith, nat_tests))

pub closed-is : (o : Open) → is_open o ≡ false → o ≡ closed
closed-is o h = closed_by o.note o.readers h

pub opens-length : (es : List (ℕ × Open)) → length (opens_of es) ≡ length es
opens-length es = length-map-range_with_len (open_at es) 0 (length es)

pub opens-at : (es : List (ℕ × Open)) (row : ℕ) (d : Open) → row < length es → slice_index_or (opens_of es) row d ≡ open_at es row
opens-at es row d l = get_or-map-range_with_len (open_at es) 0 (length es) row row d l (omega arith)

map_same : (f g : ℕ → Open) (xs : List ℕ) → ((q : ℕ) → f q ≡ g q) → map f xs ≡ map g xs
map_same f g [] h = refl
map_same f g (x ∷ xs) h = ap (λ (o : Open). o ∷ map f xs) (h x) ∙ ap (λ (t : List Open). g x ∷ t) (map_same f g xs h)

-- the same rows, whatever the order of the entries
pub opens-same : (es fs : List (ℕ × Open)) → length fs ≡ length es → ((q : ℕ) → lookup (nat_eq q) fs ≡ lookup (nat_eq q) es) → opens_of fs ≡ opens_of es
opens-same es fs l h =
    map_same (open_at fs) (open_at es) (range_with_len 0 (length fs)) (λ q. ap (λ (o : Option Open). unwrap_or o closed) (h q))
    ∙ ap (λ n. map (open_at es) (range_with_len 0 n)) l

range_same : (f g : ℕ → Open) (a n : ℕ) → ((q : ℕ) → a ≤ q → g q ≡ f q) → map g (range_with_len a n) ≡ map f (range_with_len a n)
range_same f g a zero h = refl
range_same f g a (suc n) h =
    ap (λ (o : Open). o ∷ map g (range_with_len (a + 1) n)) (h a (omega arith))
    ∙ ap (λ (t : List Open). f a ∷ t) (range_same f g (a + 1) n (λ q l. h q (omega arith)))

range_set : (f g : ℕ → Open) (a n row at : ℕ) (w : Open) → row < n → a + row ≡ at → g at ≡ w → ((q : ℕ) → (q ≡ at → ⊥) → g q ≡ f q) →
    map g (range_with_len a n) ≡ slice_set (map f (range_with_len a n)) row w
range_set f g a zero row at w l e s h = absurd (omega arith)
range_set f g a (suc n) zero at w l e s h =
    let same : a ≡ at = omega arith in
    ap (λ (o : Open). o ∷ map g (range_with_len (a + 1) n)) (ap g same ∙ s)
    ∙ ap (λ (t : List Open). w ∷ t) (range_same f g (a + 1) n (λ q k. h q (λ (bad : q ≡ at). omega arith)))
range_set f g a (suc n) (suc row) at w l e s h =
    ap (λ (o : Open). o ∷ map g (range_with_len (a + 1) n)) (h a (λ (bad : a ≡ at). omega arith))
    ∙ ap (λ (t : List Open). f a ∷ t) (range_set f g (a + 1) n row at w (omega arith) (omega arith) s h)

-- one row changes
pub opens-set : (es fs : List (ℕ × Open)) (row : ℕ) (w : Open) → length fs ≡ length es → row < length es → open_at fs row ≡ w →
    ((q : ℕ) → (q ≡ row → ⊥) → lookup (nat_eq q) fs ≡ lookup (nat_eq q) es) → opens_of fs ≡ slice_set (opens_of es) row w
opens-set es fs row w l k s h =
    ap (λ n. map (open_at fs) (range_with_len 0 n)) l
    ∙ range_set (open_at es) (open_at fs) 0 (length es) row row w k (omega arith) s (λ q n. ap (λ (o : Option Open). unwrap_or o closed) (h q n))

closed_next : (e : ℕ × Open) (es : List (ℕ × Open)) (q : ℕ) (b : Bool) → nat_eq q e.0 ≡ b → e.1 ≡ closed → open_at es q ≡ closed → open_at (e ∷ es) q ≡ closed
closed_next e es q true t s rest = rw t s
closed_next e es q false t s rest = rw t rest

-- no entry is open
pub closed-at : (es : List (ℕ × Open)) (q : ℕ) → ((k : ℕ) (d : ℕ × Open) → k < length es → (slice_index_or es k d).1 ≡ closed) → open_at es q ≡ closed
closed-at [] q h = refl
closed-at (e ∷ es) q h = closed_next e es q _ refl (h 0 e (omega arith)) (closed-at es q (λ k d l. h (suc k) d (omega arith)))

const_range : (a : ℕ) (xs : List Open) → map (λ (q : ℕ). closed) (range_with_len a (length xs)) ≡ map (λ (o : Open). closed) xs
const_range a [] = refl
const_range a (x ∷ xs) = ap (λ (t : List Open). closed ∷ t) (const_range (a + 1) xs)

pub opens-closed : (fs : List (ℕ × Open)) (opens : List Open) → length fs ≡ length opens → AreFirst fs 0 → opens_of fs ≡ map (λ (o : Open). closed) opens
opens-closed fs opens l first =
    map_same (open_at fs) (λ q. closed) (range_with_len 0 (length fs)) (λ q. closed-at fs q (λ k d t. closed-is (slice_index_or fs k d).1 (first k d t ∙ grind (arith, nat_tests))))
    ∙ ap (λ n. map (λ (q : ℕ). closed) (range_with_len 0 n)) l
    ∙ const_range 0 opens

lt_true : (a b : ℕ) → a < b → nat_lt a b ≡ true
lt_true a b l = grind (arith, nat_tests)

lt_false : (a b : ℕ) → b ≤ a → nat_lt a b ≡ false
lt_false a b l = grind (arith, nat_tests)

lt_more : (k n : ℕ) → (k ≡ n → ⊥) → nat_lt k n ≡ nat_lt k (n + 1)
lt_more k n h = grind (arith, nat_tests)

-- an entry that is open comes into the first part
came_at : (es fs : List (ℕ × Open)) (count place k : ℕ) (d : ℕ × Open) (b c : Bool) → eqb k count ≡ b → eqb k place ≡ c → fs ≡ swap es place count → count ≤ place → place < length es →
    is_open (slice_index_or es place d).1 ≡ true → AreFirstBut place es count → k < length es → is_open (slice_index_or fs k d).1 ≡ nat_lt k (count + 1)
came_at es fs count place k d true c e f s l p o first t =
    let same : k ≡ count = eqb-true k count e in
    let moved = swapped_from_swap es fs place count d p (omega arith) s in
    ap (λ n. is_open (slice_index_or fs n d).1) same ∙ ap (λ (x : ℕ × Open). is_open x.1) moved.1 ∙ o ∙ sym (lt_true k (count + 1) (omega arith))
came_at es fs count place k d false true e f s l p o first t =
    let same : k ≡ place = eqb-true k place f in
    let other : k ≡ count → ⊥ = eqb-false k count e in
    let moved = swapped_from_swap es fs place count d p (omega arith) s in
    ap (λ n. is_open (slice_index_or fs n d).1) same ∙ ap (λ (x : ℕ × Open). is_open x.1) moved.0
    ∙ first count d (λ (bad : count ≡ place). other (same ∙ sym bad)) (omega arith) ∙ lt_false count count (omega arith) ∙ sym (lt_false k (count + 1) (omega arith))
came_at es fs count place k d false false e f s l p o first t =
    let moved = swapped_from_swap es fs place count d p (omega arith) s in
    ap (λ (x : ℕ × Open). is_open x.1) (moved.2 k (eqb-false k place f) (eqb-false k count e)) ∙ first k d (eqb-false k place f) t ∙ lt_more k count (eqb-false k count e)

pub first-came : (es fs : List (ℕ × Open)) (count place : ℕ) → fs ≡ swap es place count → count ≤ place → place < length es →
    ((d : ℕ × Open) → is_open (slice_index_or es place d).1 ≡ true) → AreFirstBut place es count → AreFirst fs (count + 1)
first-came es fs count place s l p o first = λ k d t.
    came_at es fs count place k d _ _ refl refl s l p (o d) first (omega (arith, ap (λ (x : List (ℕ × Open)). length x) s, length-swap es place count))

-- one that is not goes out of it
left_at : (es fs : List (ℕ × Open)) (last place k : ℕ) (d : ℕ × Open) (b c : Bool) → eqb k last ≡ b → eqb k place ≡ c → fs ≡ swap es place last → place ≤ last → last < length es →
    is_open (slice_index_or es place d).1 ≡ false → AreFirstBut place es (last + 1) → k < length es → is_open (slice_index_or fs k d).1 ≡ nat_lt k last
left_at es fs last place k d true c e f s l p o first t =
    let same : k ≡ last = eqb-true k last e in
    let moved = swapped_from_swap es fs place last d (omega arith) p s in
    ap (λ n. is_open (slice_index_or fs n d).1) same ∙ ap (λ (x : ℕ × Open). is_open x.1) moved.1 ∙ o ∙ sym (lt_false k last (omega arith))
left_at es fs last place k d false true e f s l p o first t =
    let same : k ≡ place = eqb-true k place f in
    let other : k ≡ last → ⊥ = eqb-false k last e in
    let moved = swapped_from_swap es fs place last d (omega arith) p s in
    ap (λ n. is_open (slice_index_or fs n d).1) same ∙ ap (λ (x : ℕ × Open). is_open x.1) moved.0
    ∙ first last d (λ (bad : last ≡ place). other (same ∙ sym bad)) p ∙ lt_true last (last + 1) (omega arith) ∙ sym (lt_true k last (omega arith))
left_at es fs last place k d false false e f s l p o first t =
    let moved = swapped_from_swap es fs place last d (omega arith) p s in
    ap (λ (x : ℕ × Open). is_open x.1) (moved.2 k (eqb-false k place f) (eqb-false k last e)) ∙ first k d (eqb-false k place f) t ∙ sym (lt_more k last (eqb-false k last e))

pub first-left : (es fs : List (ℕ × Open)) (count place : ℕ) → fs ≡ swap es place (count - 1) → place < count → count ≤ length es →
    ((d : ℕ × Open) → is_open (slice_index_or es place d).1 ≡ false) → AreFirstBut place es count → AreFirst fs (count - 1)
first-left es fs count place s l p o first = λ k d t.
    left_at es fs (count - 1) place k d _ _ refl refl s (omega arith) (omega arith) (o d)
    (subst (λ n. AreFirstBut place es n) (let one : count ≡ count - 1 + 1 = omega arith in one) first)
    (omega (arith, ap (λ (x : List (ℕ × Open)). length x) s, length-swap es place (count - 1)))

stay_at : (es : List (ℕ × Open)) (count place k : ℕ) (d : ℕ × Open) (b : Bool) → eqb k place ≡ b → is_open (slice_index_or es place d).1 ≡ nat_lt place count → AreFirstBut place es count →
    k < length es → is_open (slice_index_or es k d).1 ≡ nat_lt k count
stay_at es count place k d true e o first t = let same : k ≡ place = eqb-true k place e in subst (λ n. is_open (slice_index_or es n d).1 ≡ nat_lt n count) (sym same) o
stay_at es count place k d false e o first t = first k d (eqb-false k place e) t

pub first-stays : (es : List (ℕ × Open)) (count place : ℕ) → ((d : ℕ × Open) → is_open (slice_index_or es place d).1 ≡ nat_lt place count) → AreFirstBut place es count → AreFirst es count
first-stays es count place o first = λ k d t. stay_at es count place k d _ refl (o d) first t

-- what is read by a place
pub value-read : (es : List (ℕ × Open)) (i : ℕ) (o : Open) (d : ℕ × Open) → slice_get (values_of es) i ≡ Some o → (slice_index_or es i d).1 ≡ o
value-read [] i o d h = absurd (let bad : None ≡ Some o = h in cc)
value-read (e ∷ es) zero o d h = let all : Some e.1 ≡ Some o = h in cc
value-read (e ∷ es) (suc i) o d h = value-read es i o d h
