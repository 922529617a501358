-- Readers, at most one of each host.
use Rattle.std.proofs.Common.{◌≡◌, ℕ, suc, ◌<◌, ◌≤◌, ◌==◌, eqb, ◌||◌, Bool, true, false, List, [], ◌∷◌, ◌++◌, length, map, filter, find, Some, None, refl, ap, arith}
use Rattle.std.specs.List.{IsDistinct, AllByRecursion, list_any}
use Rattle.std.proofs.lemmas.Map.Steps.{length-le_from_distinct_below}
use Rattle.std.proofs.lemmas.Bool.Decides.{nat_tests}
use Rattle.raid_base.specs.declared.numbers.HostNo.{HostNo}
use Rattle.raid_base.specs.declared.numbers.Number.{Number}
use Rattle.raid_base.specs.declared.messages.Ask.{Ask}
use Rattle.slot_rules.specs.declared.Reader.{Reader}
use Rattle.slot_rules.specs.Rules.{is_reader, is_same_host}
use Rattle.slot_rules.specs.Readers.{is_of_host, OnePerHost}

-- an element that is not found: neither the first nor one behind it
none_first : (p : Reader → Bool) (x : Reader) (xs : List Reader) (b : Bool) → p x ≡ b → find p (x ∷ xs) ≡ None → (p x ≡ false) × (find p xs ≡ None)
none_first p x xs true e h = absurd (let bad : Some x ≡ None = rw e at h in cc)
none_first p x xs false e h = (e, rw e at h)

none_cons : (p : Reader → Bool) (x : Reader) (xs : List Reader) → p x ≡ false → find p xs ≡ None → find p (x ∷ xs) ≡ None
none_cons p x xs e h = rw e h

eq_back : (a b : ℕ) → (a == b) ≡ false → (b == a) ≡ false
eq_back a b h = grind (arith, nat_tests)

none_push : (p : Reader → Bool) (xs : List Reader) (r : Reader) → p r ≡ false → find p xs ≡ None → find p (xs ++ r ∷ []) ≡ None
none_push p [] r e h = rw e refl
none_push p (x ∷ xs) r e h = let both = none_first p x xs _ refl h in none_cons p x (xs ++ r ∷ []) both.0 (none_push p xs r e both.1)

pub one_per_host-push : (xs : List Reader) (r : Reader) → OnePerHost xs → r.host.0 < 16 → find (is_of_host r.host) xs ≡ None → OnePerHost (xs ++ r ∷ [])
one_per_host-push [] r a l h = (l, refl, tt)
one_per_host-push (x ∷ xs) r a l h =
    let both = none_first (is_of_host r.host) x xs _ refl h in
    (a.0, none_push (is_of_host x.host) xs r (eq_back x.host.0 r.host.0 both.0) a.1, one_per_host-push xs r a.2 l both.1)

none_filter-first : (p q : Reader → Bool) (x : Reader) (xs : List Reader) (b : Bool) → q x ≡ b → p x ≡ false → find p (filter q xs) ≡ None → find p (filter q (x ∷ xs)) ≡ None
none_filter-first p q x xs true b e h = rw (b, e) h
none_filter-first p q x xs false b e h = rw b h

none_filter : (p q : Reader → Bool) (xs : List Reader) → find p xs ≡ None → find p (filter q xs) ≡ None
none_filter p q [] h = refl
none_filter p q (x ∷ xs) h = let both = none_first p x xs _ refl h in none_filter-first p q x xs _ refl both.0 (none_filter p q xs both.1)

one_per_host-first : (q : Reader → Bool) (x : Reader) (xs : List Reader) (b : Bool) → q x ≡ b →
    x.host.0 < 16 → find (is_of_host x.host) (filter q xs) ≡ None → OnePerHost (filter q xs) → OnePerHost (filter q (x ∷ xs))
one_per_host-first q x xs true b l h a = rw b (l, h, a)
one_per_host-first q x xs false b l h a = rw b a

pub one_per_host-filter : (q : Reader → Bool) (xs : List Reader) → OnePerHost xs → OnePerHost (filter q xs)
one_per_host-filter q [] a = tt
one_per_host-filter q (x ∷ xs) a = one_per_host-first q x xs _ refl a.0 (none_filter (is_of_host x.host) q xs a.1) (one_per_host-filter q xs a.2)

-- the hosts of readers
hosts : List Reader → List ℕ
hosts readers = map (λ (reader : Reader). reader.host.0) readers

host_apart : (h : HostNo) (xs : List Reader) → find (is_of_host h) xs ≡ None → AllByRecursion (λ y. eqb h.0 y ≡ false) (hosts xs)
unfolding hosts
host_apart h [] n = tt
host_apart h (x ∷ xs) n = let both = none_first (is_of_host h) x xs _ refl n in (eq_back x.host.0 h.0 both.0, host_apart h xs both.1)

hosts_distinct : (xs : List Reader) → OnePerHost xs → IsDistinct eqb (hosts xs)
unfolding hosts IsDistinct
hosts_distinct [] a = tt
hosts_distinct (x ∷ xs) a = (host_apart x.host xs a.1, hosts_distinct xs a.2)

or_case : (a b : Bool) (q n m : ℕ) → a ≡ eqb q m → (a || b) ≡ true → m < n → (b ≡ true → q < n) → q < n
or_case true b q n m e h l f = grind (arith, nat_tests)
or_case false b q n m e h l f = f h

hosts_below : (xs : List Reader) → OnePerHost xs → (q : ℕ) → list_any (eqb q) (hosts xs) ≡ true → q < 16
unfolding hosts
hosts_below [] a q h = absurd (let bad : false ≡ true = h in cc)
hosts_below (x ∷ xs) a q h = or_case (eqb q x.host.0) _ q 16 x.host.0 refl h a.0 (hosts_below xs a.2 q)

hosts_length : (xs : List Reader) → length (hosts xs) ≡ length xs
unfolding hosts
hosts_length [] = refl
hosts_length (x ∷ xs) = ap suc (hosts_length xs)

-- there is room for one more
pub readers_room : (xs : List Reader) (r : Reader) → OnePerHost xs → r.host.0 < 16 → find (is_of_host r.host) xs ≡ None → length xs < 16
unfolding hosts
readers_room xs r a l h =
    let all : OnePerHost (r ∷ xs) = (l, h, a) in
    let few : length (hosts (r ∷ xs)) ≤ 16 = length-le_from_distinct_below (hosts (r ∷ xs)) 16 (hosts_distinct (r ∷ xs) all) (hosts_below (r ∷ xs) all) in
    omega (arith, hosts_length xs, hosts_length (r ∷ xs))

host_none_by : (ask : Ask) (id : Number) (x : Reader) (b : Bool) → (x.host.0 == ask.host.0) ≡ b → is_reader id x ≡ false → is_same_host ask id x ≡ false → is_of_host ask.host x ≡ false
host_none_by ask id x true t e h = absurd (let bad : true ≡ false = rw (t, e) at h in cc)
host_none_by ask id x false t e h = t

-- a host of which neither this reader nor another is there has none
pub host_absent : (ask : Ask) (id : Number) (xs : List Reader) → find (is_same_host ask id) xs ≡ None → find (is_reader id) xs ≡ None → find (is_of_host ask.host) xs ≡ None
host_absent ask id [] s r = refl
host_absent ask id (x ∷ xs) s r =
    let same = none_first (is_same_host ask id) x xs _ refl s in
    let mine = none_first (is_reader id) x xs _ refl r in
    none_cons (is_of_host ask.host) x xs (host_none_by ask id x _ refl mine.0 same.0) (host_absent ask id xs same.1 mine.1)
