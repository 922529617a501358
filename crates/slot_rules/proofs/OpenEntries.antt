-- The entries of the rows: at the start, and after one of them has changed.
use Rattle.std.proofs.Common.{◌≡◌, ℕ, zero, suc, ◌+◌, ◌-◌, ◌<◌, ◌≤◌, nat_lt, nat_eq, eqb, Bool, true, false, List, [], ◌∷◌, length, map, replicate, take, Option, Some, None, is_some, unwrap_or, slice_get, slice_index_or, slice_set, Contains, All, refl, sym, ap, subst, ◌∙◌, arith}
use Rattle.std.specs.List.{IsDistinct, AllByRecursion, range_with_len, list_any, position}
use Rattle.std.specs.List.Sorted.{IsPermutation}
use Rattle.std.specs.Map.{lookup, keys_of, values_of}
use Rattle.indexmap.specs.IndexMap.{set_value_at, insert_entry}
use Rattle.std.proofs.lemmas.Bool.{eqb-true, eqb-false}
use Rattle.std.proofs.lemmas.Bool.Decides.{nat_tests}
use Rattle.std.proofs.lemmas.Cmp.{nat_eq_equiv}
use Rattle.std.proofs.lemmas.Option.{slice_get_within, slice_get-get_or, get_or_from_slice_get}
use Rattle.std.proofs.lemmas.List.FromFn.{length-range_with_len, length-map-range_with_len, get_or-range_with_len, get_or-map-range_with_len}
use Rattle.std.proofs.lemmas.Map.Entries.{lookup_from_place, place_from_lookup}
use Rattle.std.proofs.lemmas.Map.Made.{is_some-lookup, lookup_key_passes}
use Rattle.indexmap.proofs.MapLemmas.{Found-position}
use Rattle.std.proofs.lemmas.Map.Keys.{IsDistinct-head, IsDistinct-tail}
use Rattle.std.proofs.lemmas.Map.Views.{All-map-IsPermutation}
use Rattle.raid_base.specs.declared.numbers.RowNo.{RowNo}
use Rattle.slot_rules.specs.declared.opened.Open.{Open}
use Rattle.slot_rules.specs.Tables.{closed, is_open}
use Rattle.slot_rules.specs.Opens.{open_at, opens_of, row_no, is_open_at, AreFirst, AreFirstBut, Lists, KeepsFirst}
use Rattle.slot_rules.proofs.OpenLists.{opens-length, opens-at, closed-at, opens-set, value_at-same, value_at-other, value-read}

pub keys-value_at : (es : List (ℕ × Open)) (i : ℕ) (w : Open) → keys_of (set_value_at es i w) ≡ keys_of es
keys-value_at [] i w = refl
keys-value_at (e ∷ es) zero w = refl
keys-value_at (e ∷ es) (suc i) w = ap (λ (t : List ℕ). e.0 ∷ t) (keys-value_at es i w)

pub length-value_at : (es : List (ℕ × Open)) (i : ℕ) (w : Open) → length (set_value_at es i w) ≡ length es
length-value_at [] i w = refl
length-value_at (e ∷ es) zero w = refl
length-value_at (e ∷ es) (suc i) w = ap suc (length-value_at es i w)

-- the others are first where they were
pub first-others : (es : List (ℕ × Open)) (count place : ℕ) (w : Open) → AreFirst es count → AreFirstBut place (set_value_at es place w) count
first-others es count place w first = λ k d n l.
    ap (λ (x : ℕ × Open). is_open x.1) (value_at-other es place k w d n) ∙ first k d (omega (arith, length-value_at es place w))

-- entries with the same keys in another order keep the rest
pub keeps-moved : (es fs : List (ℕ × Open)) (count after : ℕ) → KeepsFirst es count → length fs ≡ length es → ((q : ℕ) → is_some (lookup (nat_eq q) fs) ≡ is_some (lookup (nat_eq q) es)) →
    All (λ row. row < length es) (keys_of fs) → IsDistinct nat_eq (keys_of fs) → AreFirst fs after → after ≤ length fs → KeepsFirst fs after
keeps-moved es fs count after k l there within distinct first few = record {
  few = few;
  narrow = let n = k.narrow in omega arith;
  there = λ row t. there row ∙ k.there row (omega arith);
  within = subst (λ n. All (λ row. row < n) (keys_of fs)) (sym l) within;
  distinct = distinct;
  first = first;
}

some-value_at : (es : List (ℕ × Open)) (i q : ℕ) (w : Open) → is_some (lookup (nat_eq q) (set_value_at es i w)) ≡ is_some (lookup (nat_eq q) es)
some-value_at es i q w =
    is_some-lookup (nat_eq q) (set_value_at es i w) ∙ ap (λ (ks : List ℕ). list_any (nat_eq q) ks) (keys-value_at es i w) ∙ sym (is_some-lookup (nat_eq q) es)

-- after a write, and a change of the order
pub keeps-settled : (es fs : List (ℕ × Open)) (count after place : ℕ) (w : Open) → KeepsFirst es count → IsPermutation (set_value_at es place w) fs → length fs ≡ length (set_value_at es place w) →
    ((q : ℕ) → lookup (nat_eq q) fs ≡ lookup (nat_eq q) (set_value_at es place w)) → IsDistinct nat_eq (keys_of fs) → AreFirst fs after → after ≤ length fs → KeepsFirst fs after
keeps-settled es fs count after place w k moved l same distinct first few =
    keeps-moved es fs count after k (l ∙ length-value_at es place w)
    (λ q. ap (λ (o : Option Open). is_some o) (same q) ∙ some-value_at es place q w)
    (All-map-IsPermutation (λ (e : ℕ × Open). e.0) (λ row. row < length es) (set_value_at es place w) fs moved
    (subst (λ (ks : List ℕ). All (λ row. row < length es) ks) (sym (keys-value_at es place w)) k.within))
    distinct first few

cleared_at : (es : List (ℕ × Open)) (last k : ℕ) (d : ℕ × Open) (b : Bool) → eqb k last ≡ b → AreFirst es (last + 1) → last < length es → k < length es →
    is_open (slice_index_or (set_value_at es last closed) k d).1 ≡ nat_lt k last
cleared_at es last k d true e first l t =
    let same : k ≡ last = eqb-true k last e in
    ap (λ n. is_open (slice_index_or (set_value_at es last closed) n d).1) same ∙ ap (λ (x : ℕ × Open). is_open x.1) (value_at-same es last closed d l)
    ∙ (let none : false ≡ nat_lt k last = grind (arith, nat_tests) in none)
cleared_at es last k d false e first l t =
    ap (λ (x : ℕ × Open). is_open x.1) (value_at-other es last k closed d (eqb-false k last e)) ∙ first k d t
    ∙ (let other : k ≡ last → ⊥ = eqb-false k last e in grind (arith, nat_tests))

-- the last of those that are open is cleared
pub keeps-cleared : (es : List (ℕ × Open)) (count : ℕ) → 0 < count → KeepsFirst es count → KeepsFirst (set_value_at es (count - 1) closed) (count - 1)
keeps-cleared es count some k =
    let few = k.few in
    let one : count ≡ count - 1 + 1 = omega arith in
    let few' : count - 1 ≤ length (set_value_at es (count - 1) closed) = omega (arith, length-value_at es (count - 1) closed) in
    keeps-moved es (set_value_at es (count - 1) closed) count (count - 1) k (length-value_at es (count - 1) closed) (λ q. some-value_at es (count - 1) q closed)
    (subst (λ (ks : List ℕ). All (λ row. row < length es) ks) (sym (keys-value_at es (count - 1) closed)) k.within)
    (subst (λ (ks : List ℕ). IsDistinct nat_eq ks) (sym (keys-value_at es (count - 1) closed)) k.distinct)
    (λ i d t. cleared_at es (count - 1) i d _ refl (subst (λ n. AreFirst es n) one k.first) (omega arith) (omega (arith, length-value_at es (count - 1) closed)))
    few'

-- what another row finds after a write
lookup_next : (e f : ℕ × Open) (es fs : List (ℕ × Open)) (q : ℕ) → f.0 ≡ e.0 → f.1 ≡ e.1 → lookup (nat_eq q) fs ≡ lookup (nat_eq q) es → lookup (nat_eq q) (f ∷ fs) ≡ lookup (nat_eq q) (e ∷ es)
lookup_next e f es fs q a b h = rw (a, b, h) refl

lookup_past : (row q : ℕ) (o w : Open) (es : List (ℕ × Open)) → (q ≡ row → ⊥) → lookup (nat_eq q) ((row, w) ∷ es) ≡ lookup (nat_eq q) ((row, o) ∷ es)
lookup_past row q o w es n = let no : nat_eq q row ≡ false = grind (arith, nat_tests) in rw no refl

pub lookup-others : (es : List (ℕ × Open)) (place row q : ℕ) (o w : Open) → slice_get es place ≡ Some (row, o) → (q ≡ row → ⊥) →
    lookup (nat_eq q) (set_value_at es place w) ≡ lookup (nat_eq q) es
lookup-others [] place row q o w h n = refl
lookup-others (e ∷ es) zero row q o w h n =
    let same : Some e ≡ Some (row, o) = h in
    let head : e ≡ (row, o) = cc in
    subst (λ (x : ℕ × Open). lookup (nat_eq q) ((x.0, w) ∷ es) ≡ lookup (nat_eq q) (x ∷ es)) (sym head) (lookup_past row q o w es n)
lookup-others (e ∷ es) (suc place) row q o w h n = lookup_next e e es (set_value_at es place w) q refl refl (lookup-others es place row q o w h n)

pub get-value_at : (es : List (ℕ × Open)) (place row : ℕ) (o w : Open) → slice_get es place ≡ Some (row, o) → slice_get (set_value_at es place w) place ≡ Some (row, w)
get-value_at [] place row o w h = absurd (let bad : None ≡ Some (row, o) = h in cc)
get-value_at (e ∷ es) zero row o w h = let same : Some e ≡ Some (row, o) = h in let head : e ≡ (row, o) = cc in ap (λ (x : ℕ × Open). Some (x.0, w)) head
get-value_at (e ∷ es) (suc place) row o w h = get-value_at es place row o w h

-- what the row itself finds
pub lookup-written : (es : List (ℕ × Open)) (place row : ℕ) (o w : Open) → IsDistinct nat_eq (keys_of es) → slice_get es place ≡ Some (row, o) → lookup (nat_eq row) (set_value_at es place w) ≡ Some w
lookup-written es place row o w distinct h =
    lookup_from_place nat_eq_equiv (set_value_at es place w) place row w (subst (λ (ks : List ℕ). IsDistinct nat_eq ks) (sym (keys-value_at es place w)) distinct) (get-value_at es place row o w h)

-- what is open after a write at a row's place, and a change of the order
pub opens-written : (es fs : List (ℕ × Open)) (place row : ℕ) (o w : Open) → IsDistinct nat_eq (keys_of es) → slice_get es place ≡ Some (row, o) → row < length es → length fs ≡ length es →
    ((q : ℕ) → lookup (nat_eq q) fs ≡ lookup (nat_eq q) (set_value_at es place w)) → (open_at fs row ≡ w) × (opens_of fs ≡ slice_set (opens_of es) row w)
opens-written es fs place row o w distinct h l n same =
    let own : open_at fs row ≡ w = ap (λ (x : Option Open). unwrap_or x closed) (same row ∙ lookup-written es place row o w distinct h) in
    (own, opens-set es fs row w n l own (λ q k. same q ∙ lookup-others es place row q o w h k))

-- the entries of so many rows at the start
unfoldable pub fresh : ℕ → List (ℕ × Open)
fresh n = map (λ k. (k, closed)) (range_with_len 0 n)

insert_next : (v : ℕ) (e : ℕ × Open) (es fs : List (ℕ × Open)) → nat_eq v e.0 ≡ false → insert_entry nat_eq es v closed ≡ fs →
    insert_entry nat_eq (e ∷ es) v closed ≡ e ∷ fs
insert_next v e es fs t h = rw t (ap (λ (r : List (ℕ × Open)). e ∷ r) h)

inserted : (a n v : ℕ) → a + n ≡ v → insert_entry nat_eq (map (λ k. (k, closed)) (range_with_len a n)) v closed ≡ map (λ k. (k, closed)) (range_with_len a (n + 1))
inserted a zero v e = let same : v ≡ a = omega arith in ap (λ k. (k, closed) ∷ []) same
inserted a (suc n) v e =
    insert_next v (a, closed) (map (λ k. (k, closed)) (range_with_len (a + 1) n)) (map (λ k. (k, closed)) (range_with_len (a + 1) (n + 1))) (grind (arith, nat_tests)) (inserted (a + 1) n v (omega arith))
    ∙ ap (λ m. map (λ (k : ℕ). (k, closed)) (range_with_len a m)) (let more : suc (n + 1) ≡ suc n + 1 = omega arith in more)

pub fresh-more : (n : ℕ) → insert_entry nat_eq (fresh n) n closed ≡ fresh (n + 1)
unfolding fresh
fresh-more n = inserted 0 n n (omega arith)

pub fresh-length : (n : ℕ) → length (fresh n) ≡ n
unfolding fresh
fresh-length n = length-map-range_with_len (λ k. (k, closed)) 0 n

fresh_there : (a n q : ℕ) → a ≤ q → q < a + n → is_some (lookup (nat_eq q) (map (λ k. (k, closed)) (range_with_len a n))) ≡ true
fresh_there a zero q l t = absurd (omega arith)
fresh_there a (suc n) q l t = there_next a n q _ refl l t (λ m. fresh_there (a + 1) n q m (omega arith))
  where
    there_next : (a n q : ℕ) (b : Bool) → nat_eq q a ≡ b → a ≤ q → q < a + suc n → (a + 1 ≤ q → is_some (lookup (nat_eq q) (map (λ k. (k, closed)) (range_with_len (a + 1) n))) ≡ true) →
        is_some (lookup (nat_eq q) (map (λ k. (k, closed)) (range_with_len a (suc n)))) ≡ true
    there_next a n q true e l t rest = rw e refl
    there_next a n q false e l t rest = rw e (rest (let other : q ≡ a → ⊥ = eqb-false q a e in omega arith))

fresh_keys : (a n : ℕ) → keys_of (map (λ k. (k, closed)) (range_with_len a n)) ≡ range_with_len a n
fresh_keys a zero = refl
fresh_keys a (suc n) = ap (λ (t : List ℕ). a ∷ t) (fresh_keys (a + 1) n)

above : (a b n : ℕ) → a < b → AllByRecursion (λ y. nat_eq a y ≡ false) (range_with_len b n)
above a b zero l = tt
above a b (suc n) l = (grind (arith, nat_tests), above a (b + 1) n (omega arith))

range_distinct : (a n : ℕ) → IsDistinct nat_eq (range_with_len a n)
unfolding IsDistinct
range_distinct a zero = tt
range_distinct a (suc n) = (above a (a + 1) n (omega arith), range_distinct (a + 1) n)

pub keeps-fresh : (n : ℕ) → n < 65536 → KeepsFirst (fresh n) 0
unfolding fresh
keeps-fresh n narrow = record {
  few = omega arith;
  narrow = omega (arith, fresh-length n);
  there = λ row l. fresh_there 0 n row (omega arith) (omega (arith, fresh-length n));
  within = λ k d l. within_at k d l;
  distinct = subst (λ (ks : List ℕ). IsDistinct nat_eq ks) (sym (fresh_keys 0 n)) (range_distinct 0 n);
  first = λ k d l.
      ap (λ (e : ℕ × Open). is_open e.1) (get_or-map-range_with_len (λ q. (q, closed)) 0 n k k d (omega (arith, fresh-length n)) (omega arith)) ∙ (let none : false ≡ nat_lt k 0 = grind (arith, nat_tests) in none);
}
  where
    within_at : (k d : ℕ) → k < length (keys_of (map (λ q. (q, closed)) (range_with_len 0 n))) → slice_index_or (keys_of (map (λ q. (q, closed)) (range_with_len 0 n))) k d < length {A = ℕ × Open} (map (λ q. (q, closed)) (range_with_len 0 n))
    within_at k d l =
        let size : length (keys_of (map (λ q. (q, closed)) (range_with_len 0 n))) ≡ n = ap (λ (ks : List ℕ). length ks) (fresh_keys 0 n) ∙ length-range_with_len 0 n in
        let at : slice_index_or (keys_of (map (λ q. (q, closed)) (range_with_len 0 n))) k d ≡ 0 + k = ap (λ (ks : List ℕ). slice_index_or ks k d) (fresh_keys 0 n) ∙ get_or-range_with_len 0 n k d (omega arith) in
        omega (arith, fresh-length n)

same_range : (f : ℕ → Open) (a n : ℕ) → ((q : ℕ) → f q ≡ closed) → map f (range_with_len a n) ≡ replicate n closed
same_range f a zero h = refl
same_range f a (suc n) h = ap (λ (o : Open). o ∷ map f (range_with_len (a + 1) n)) (h a) ∙ ap (λ (t : List Open). closed ∷ t) (same_range f (a + 1) n h)

pub opens-fresh : (n : ℕ) → opens_of (fresh n) ≡ replicate n closed
unfolding fresh
opens-fresh n =
    ap (λ k. map (open_at (map (λ q. (q, closed)) (range_with_len 0 n))) (range_with_len 0 k)) (fresh-length n)
    ∙ same_range (open_at (map (λ q. (q, closed)) (range_with_len 0 n))) 0 n (λ q. closed-at (map (λ r. (r, closed)) (range_with_len 0 n)) q
    (λ k d l. ap (λ (e : ℕ × Open). e.1) (get_or-map-range_with_len (λ r. (r, closed)) 0 n k k d (omega (arith, fresh-length n)) (omega arith))))

-- the rows in their order
pub order-get : (es : List (ℕ × Open)) (count k : ℕ) (row : RowNo) → slice_get (map row_no (take count (keys_of es))) k ≡ Some row → (k < count) × (o : Open) × (slice_get es k ≡ Some (row.0, o))
order-get es zero k row h = absurd (let bad : None ≡ Some row = h in cc)
order-get [] (suc count) k row h = absurd (let bad : None ≡ Some row = h in cc)
order-get (e ∷ es) (suc count) zero row h =
    let same : Some (row_no e.0) ≡ Some row = h in let head : row_no e.0 ≡ row = cc in
    (omega arith, e.1, ap (λ (r : RowNo). Some (r.0, e.1)) head)
order-get (e ∷ es) (suc count) (suc k) row h = let rest = order-get es count k row h in (omega (arith, rest.0), rest.1, rest.2)

pub order-at : (es : List (ℕ × Open)) (count k row : ℕ) (o : Open) → k < count → slice_get es k ≡ Some (row, o) → slice_get (map row_no (take count (keys_of es))) k ≡ Some (row_no row)
order-at es zero k row o l h = absurd (omega arith)
order-at [] (suc count) k row o l h = absurd (let bad : None ≡ Some (row, o) = h in cc)
order-at (e ∷ es) (suc count) zero row o l h = let same : Some e ≡ Some (row, o) = h in let head : e ≡ (row, o) = cc in ap (λ (x : ℕ × Open). Some (row_no x.0)) head
order-at (e ∷ es) (suc count) (suc k) row o l h = order-at es count k row o (omega arith) h

pub order-length : (es : List (ℕ × Open)) (count : ℕ) → count ≤ length es → length (map row_no (take count (keys_of es))) ≡ count
order-length es zero l = refl
order-length [] (suc count) l = absurd (omega arith)
order-length (e ∷ es) (suc count) l = ap suc (order-length es count (omega arith))

apart_at : (x : ℕ) (es : List (ℕ × Open)) (k : ℕ) (o : Open) → AllByRecursion (λ y. nat_eq x y ≡ false) (keys_of es) → slice_get es k ≡ Some (x, o) → ⊥
apart_at x [] k o a h = absurd (let bad : None ≡ Some (x, o) = h in cc)
apart_at x (e ∷ es) zero o a h =
    let same : Some e ≡ Some (x, o) = h in let head : e ≡ (x, o) = cc in
    let bad : nat_eq x x ≡ false = subst (λ (p : ℕ × Open). nat_eq x p.0 ≡ false) head a.0 in
    absurd (grind (arith, nat_tests))
apart_at x (e ∷ es) (suc k) o a h = apart_at x es k o a.1 h

one_place : (es : List (ℕ × Open)) (j k row : ℕ) (o p : Open) → IsDistinct nat_eq (keys_of es) → slice_get es j ≡ Some (row, o) → slice_get es k ≡ Some (row, p) → j ≡ k
one_place [] j k row o p d f g = absurd (let bad : None ≡ Some (row, o) = f in cc)
one_place (e ∷ es) zero zero row o p d f g = refl
one_place (e ∷ es) zero (suc k) row o p d f g =
    let same : Some e ≡ Some (row, o) = f in let head : e ≡ (row, o) = cc in
    absurd (apart_at row es k p (subst (λ (x : ℕ × Open). AllByRecursion (λ y. nat_eq x.0 y ≡ false) (keys_of es)) head (IsDistinct-head nat_eq e.0 (keys_of es) d)) g)
one_place (e ∷ es) (suc j) zero row o p d f g =
    let same : Some e ≡ Some (row, p) = g in let head : e ≡ (row, p) = cc in
    absurd (apart_at row es j o (subst (λ (x : ℕ × Open). AllByRecursion (λ y. nat_eq x.0 y ≡ false) (keys_of es)) head (IsDistinct-head nat_eq e.0 (keys_of es) d)) f)
one_place (e ∷ es) (suc j) (suc k) row o p d f g = ap suc (one_place es j k row o p (IsDistinct-tail nat_eq e.0 (keys_of es) d) f g)

key_get : (es : List (ℕ × Open)) (k row : ℕ) (o : Open) → slice_get es k ≡ Some (row, o) → slice_index_or (keys_of es) k row ≡ row
key_get [] k row o h = absurd (let bad : None ≡ Some (row, o) = h in cc)
key_get (e ∷ es) zero row o h = let same : Some e ≡ Some (row, o) = h in let head : e ≡ (row, o) = cc in ap (λ (x : ℕ × Open). x.0) head
key_get (e ∷ es) (suc k) row o h = key_get es k row o h

keys_length : (es : List (ℕ × Open)) → length (keys_of es) ≡ length es
keys_length [] = refl
keys_length (e ∷ es) = ap suc (keys_length es)

found_at : (es : List (ℕ × Open)) (row : ℕ) (r : Option Open) → lookup (nat_eq row) es ≡ r → is_some r ≡ true → lookup (nat_eq row) es ≡ Some (open_at es row)
found_at es row (Some o) e h = e ∙ ap (λ (x : Option Open). Some (unwrap_or x closed)) (sym e)
found_at es row None e h = absurd cc

pub lookup-there : (es : List (ℕ × Open)) (count row : ℕ) → KeepsFirst es count → row < length es → lookup (nat_eq row) es ≡ Some (open_at es row)
lookup-there es count row k l = found_at es row _ refl (k.there row l)

lists_only : (es : List (ℕ × Open)) (count k : ℕ) (row : RowNo) → KeepsFirst es count → slice_get (map row_no (take count (keys_of es))) k ≡ Some row →
    (row.0 < length (opens_of es)) × (is_open_at (opens_of es) row ≡ true)
lists_only es count k row keeps h =
    let got = order-get es count k row h in
    let at = slice_get_within es k (row.0, got.1) got.2 in
    let below : slice_index_or (keys_of es) k row.0 < length es = keeps.within k row.0 (omega (arith, keys_length es)) in
    let low : row.0 < length es = omega (arith, key_get es k row.0 got.1 got.2) in
    let found : lookup (nat_eq row.0) es ≡ Some got.1 = lookup_from_place nat_eq_equiv es k row.0 got.1 keeps.distinct got.2 in
    let opened : open_at es row.0 ≡ got.1 = ap (λ (x : Option Open). unwrap_or x closed) found in
    let read : slice_index_or es k (row.0, got.1) ≡ (row.0, got.1) = get_or_from_slice_get es k (row.0, got.1) (row.0, got.1) got.2 in (
      omega (arith, opens-length es),
      ap (λ (o : Open). is_open o) (opens-at es row.0 closed low ∙ opened ∙ sym (ap (λ (e : ℕ × Open). e.1) read)) ∙ keeps.first k (row.0, got.1) at ∙ (let l = got.0 in grind (arith, nat_tests)),
    )

lists_all : (es : List (ℕ × Open)) (count : ℕ) (row : RowNo) → KeepsFirst es count → row.0 < length (opens_of es) → is_open_at (opens_of es) row ≡ true →
    Contains (map row_no (take count (keys_of es))) row
lists_all es count row keeps l h =
    let low : row.0 < length es = omega (arith, opens-length es) in
    let place = place_from_lookup (nat_eq row.0) es (open_at es row.0) (lookup-there es count row.0 keeps low) in
    let same : row.0 ≡ place.1 = eqb-true row.0 place.1 place.3 in
    let at : slice_get es place.0 ≡ Some (row.0, open_at es row.0) = place.2 ∙ ap (λ n. Some (n, open_at es row.0)) (sym same) in
    let within = slice_get_within es place.0 (row.0, open_at es row.0) at in
    let read : slice_index_or es place.0 (row.0, open_at es row.0) ≡ (row.0, open_at es row.0) = get_or_from_slice_get es place.0 (row.0, open_at es row.0) (row.0, open_at es row.0) at in
    let first : nat_lt place.0 count ≡ true =
    sym (keeps.first place.0 (row.0, open_at es row.0) within) ∙ ap (λ (e : ℕ × Open). is_open e.1) read ∙ ap (λ (o : Open). is_open o) (sym (opens-at es row.0 closed low)) ∙ h in
    let before : place.0 < count = grind (arith, nat_tests) in
    let listed : slice_get (map row_no (take count (keys_of es))) place.0 ≡ Some row = order-at es count place.0 row.0 (open_at es row.0) before at in
    (place.0, slice_get_within (map row_no (take count (keys_of es))) place.0 row listed, get_or_from_slice_get (map row_no (take count (keys_of es))) place.0 row row listed)

pub lists-open : (es : List (ℕ × Open)) (count : ℕ) → KeepsFirst es count → Lists (map row_no (take count (keys_of es))) (length (opens_of es)) (is_open_at (opens_of es))
lists-open es count keeps = record {
  once = λ j k row f g.
      let a = order-get es count j row f in let b = order-get es count k row g in
      one_place es j k row.0 a.1 b.1 keeps.distinct a.2 b.2;
  only = λ k row h. lists_only es count k row keeps h;
  all = λ row l h. lists_all es count row keeps l h;
}

entry-by : (es : List (ℕ × Open)) (i row : ℕ) (o : Open) → slice_get (keys_of es) i ≡ Some row → slice_get (values_of es) i ≡ Some o → slice_get es i ≡ Some (row, o)
entry-by [] i row o f g = absurd (let bad : None ≡ Some row = f in cc)
entry-by (e ∷ es) zero row o f g = let k : Some e.0 ≡ Some row = f in let v : Some e.1 ≡ Some o = g in let a : e.0 ≡ row = cc in let b : e.1 ≡ o = cc in ap (λ n. Some (n, e.1)) a ∙ ap (λ (x : Open). Some (row, x)) b
entry-by (e ∷ es) (suc i) row o f g = entry-by es i row o f g

-- the place where a row is found is that of its entry
pub place-is : (es : List (ℕ × Open)) (row i : ℕ) → is_some (lookup (nat_eq row) es) ≡ true → position (nat_eq row) (keys_of es) ≡ Some i → slice_get es i ≡ Some (row, open_at es row)
place-is es row i there at =
    let found = Found-position (nat_eq row) es i at in
    let key : slice_get (keys_of es) i ≡ Some (slice_index_or (keys_of es) i 0) = slice_get-get_or (keys_of es) i 0 (let w = found.within in omega (arith, keys_length es)) in
    let same : row ≡ slice_index_or (keys_of es) i 0 = eqb-true row (slice_index_or (keys_of es) i 0) (lookup_key_passes (nat_eq row) es (slice_index_or (keys_of es) i 0) (found.key ∙ key)) in
    entry-by es i row (open_at es row) (key ∙ ap (λ n. Some n) (sym same)) (sym found.value ∙ found_at es row _ refl there)

-- what is read at the place of a row is open on it
pub read_by : (es : List (ℕ × Open)) (i row : ℕ) (o : Open) → slice_get es i ≡ Some (row, open_at es row) → slice_get (values_of es) i ≡ Some o → o ≡ open_at es row
read_by es i row o f g =
    let read : slice_index_or es i (row, o) ≡ (row, open_at es row) = get_or_from_slice_get es i (row, open_at es row) (row, o) f in
    sym (value-read es i o (row, o) g) ∙ ap (λ (e : ℕ × Open). e.1) read
