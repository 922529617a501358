-- A merge on its way: the lines so far, and the places that they have come to in the journals.
use Rattle.std.proofs.Common.{◌≡◌, ◌≢◌, ◌⊎◌, inl, inr, ℕ, zero, suc, ◌+◌, ◌^◌, ◌<◌, ◌≤◌, ◌==◌, Bool, true, false, if◌then◌else◌, List, [], ◌∷◌, ◌++◌, length, map, take, get_or, set, replicate, sum_by, Option, Some, None, refl, sym, ap, subst, ◌∙◌, arith, append_assoc, length-append}
use Rattle.std.specs.Borrow.{Bor}
use Rattle.std.specs.List.{AllByRecursion, slice_index_or, slice_get}
use Rattle.std.proofs.lemmas.List.{map-append, append-nil, length-map, length-take, get_or-map, get_or-set_same, get_or-set_other}
use Rattle.std.proofs.lemmas.Bool.Decides.{nat_tests}
use Rattle.raid_base.specs.declared.numbers.BayNo.{BayNo}
use Rattle.raid_base.specs.declared.messages.Entry.{Entry}
use Rattle.raid_base.specs.declared.messages.Turn.{Turn}
use Rattle.stripe_layout.specs.Placement.{bay}
use Rattle.clock_merge.specs.Merge.{Line, entries_at, IsBefore, RiseFrom, Rise, turn_of, ClocksRiseFrom, ClocksRise}
use Rattle.clock_merge.specs.Heads.{line_at, heads_at, entries_in, AreShort, IsFirst, IsFirstAt}
use Rattle.clock_merge.specs.Turns.{AppendsMerge}
use Rattle.clock_merge.proofs.LineLemmas.{all-weaker, before-before}
use Rattle.clock_merge.proofs.LineCounts.{lines-few}

-- Lists
all-append : {X : Type 0} (P : X → Type 0) (xs ys : List X) → AllByRecursion P xs → AllByRecursion P ys → AllByRecursion P (xs ++ ys)
all-append P [] ys all rest = rest
all-append P (x ∷ xs) ys all rest = (all.0, all-append P xs ys all.1 rest)

entries-append : (at : BayNo) (xs ys : List Line) → entries_at at (xs ++ ys) ≡ entries_at at xs ++ entries_at at ys
entries-append at [] ys = refl
entries-append at (x ∷ xs) ys = by (x.bay.0 == at.0) (entries-append at xs ys) where
  by : (b : Bool) → entries_at at (xs ++ ys) ≡ entries_at at xs ++ entries_at at ys →
      (if b then x.entry ∷ entries_at at (xs ++ ys) else entries_at at (xs ++ ys)) ≡ (if b then x.entry ∷ entries_at at xs else entries_at at xs) ++ entries_at at ys
  by true same = ap (λ (es : List Entry). x.entry ∷ es) same
  by false same = same

-- a line behind all of these
rise-on-from : (x : Line) (xs : List Line) (y : Line) → RiseFrom x xs → IsBefore x y → AllByRecursion (λ (z : Line). IsBefore z y) xs → RiseFrom x (xs ++ y ∷ [])
rise-on-from x [] y rise before all = (before, tt)
rise-on-from x (z ∷ xs) y rise before all = (rise.0, rise-on-from z xs y rise.1 all.0 all.1)

rise-on : (xs : List Line) (y : Line) → Rise xs → AllByRecursion (λ (z : Line). IsBefore z y) xs → Rise (xs ++ y ∷ [])
rise-on [] y rise all = tt
rise-on (x ∷ xs) y rise all = rise-on-from x xs y rise all.0 all.1

-- Journals
take-next : (es : List Entry) (place : ℕ) (entry : Entry) → slice_get es place ≡ Some entry → take place es ++ entry ∷ [] ≡ take (suc place) es
take-next [] place entry is = absurd (cc)
take-next (e ∷ es) zero entry is = ap (λ (o : Option Entry). or-else o) (sym is) where
  or-else : Option Entry → List Entry
  or-else None = []
  or-else (Some e) = e ∷ []
take-next (e ∷ es) (suc place) entry is = ap (λ (l : List Entry). e ∷ l) (take-next es place entry is)

take-all : (es : List Entry) (place : ℕ) → slice_get es place ≡ None → take place es ≡ es
take-all [] zero none = refl
take-all [] (suc place) none = refl
take-all (e ∷ es) zero none = absurd (cc)
take-all (e ∷ es) (suc place) none = ap (λ (l : List Entry). e ∷ l) (take-all es place none)

next-clock-from : (first : Entry) (es : List Entry) (place : ℕ) (entry next : Entry) → ClocksRiseFrom first es → slice_get (first ∷ es) place ≡ Some entry → slice_get es place ≡ Some next →
    entry.clock < next.clock
next-clock-from first [] place entry next rise is next-is = absurd (cc)
next-clock-from first (e ∷ es) zero entry next rise is next-is =
    let same : first ≡ entry = cc in
    let also : e ≡ next = cc in
    subst (λ (x : Entry). x.clock < next.clock) same (subst (λ (x : Entry). first.clock < x.clock) also rise.0)
next-clock-from first (e ∷ es) (suc place) entry next rise is next-is = next-clock-from e es place entry next rise.1 is next-is

next-clock : (es : List Entry) (place : ℕ) (entry next : Entry) → ClocksRise es → slice_get es place ≡ Some entry → slice_get es (suc place) ≡ Some next → entry.clock < next.clock
next-clock [] place entry next rise is next-is = absurd (cc)
next-clock (e ∷ es) place entry next rise is next-is = next-clock-from e es place entry next rise is next-is

journal-rises : (journals : List (List Entry)) (k : ℕ) → AllByRecursion ClocksRise journals → ClocksRise (slice_index_or journals k [])
journal-rises [] k all = tt
journal-rises (journal ∷ journals) zero all = all.0
journal-rises (journal ∷ journals) (suc k) all = journal-rises journals k all.1

-- the lines so far are the first entries of the journals up to these places, rise, and are before all heads
pub record Merging (journals : List (List Entry)) (places : List ℕ) (before after : List Turn) : Type 0 where
  pub lines : List Line
  pub turned : after ≡ before ++ map turn_of lines
  pub within : AllByRecursion (λ (line : Line). line.bay.0 < length journals) lines
  pub firsts : (k : ℕ) → k < length journals → entries_at (bay k) lines ≡ take (get_or places k 0) (slice_index_or journals k [])
  pub rise : Rise lines
  pub heads : (k : ℕ) → k < length journals → (entry : Entry) → heads_at journals places k ≡ Some entry → AllByRecursion (λ (line : Line). IsBefore line (line_at k entry)) lines

pub merging-start : (journals : List (List Entry)) (places : List ℕ) (before : List Turn) → ((k : ℕ) → get_or places k 0 ≡ 0) → Merging journals places before before
merging-start journals places before zeros = record {
  lines = [];
  turned = sym (append-nil before);
  within = tt;
  firsts = λ k below. ap (λ (n : ℕ). take n (slice_index_or journals k [])) (sym (zeros k));
  rise = tt;
  heads = λ k below entry is. tt;
}

merging-end : (journals : List (List Entry)) (places : List ℕ) (before after : List Turn) → Merging journals places before after → IsFirst (heads_at journals places) (length journals) None →
    AppendsMerge journals before after
merging-end journals places before after m none = (
  m.lines,
  record {
    within = m.within;
    whole = λ k below. m.firsts k below ∙ take-all (slice_index_or journals k []) (get_or places k 0) (none k below);
    rise = m.rise;
  },
  m.turned,
)

module _ (journals : List (List Entry)) (places : List ℕ) (before after : List Turn) (m : Merging journals places before after) (at : ℕ) (entry : Entry)
    (first : IsFirstAt (heads_at journals places) (length journals) at entry) (long : length journals ≤ length places) where
  abbrev next-line : Line
  next-line = line_at at entry

  abbrev next-places : List ℕ
  next-places = set places at (get_or places at 0 + 1)

  abbrev next-turn : Turn
  next-turn = record { host = entry.ask.host; moment = entry.ask.moment }

  abbrev next-lines : List Line
  next-lines = m.lines ++ next-line ∷ []

  place-here : get_or next-places at 0 ≡ suc (get_or places at 0)
  place-here =
      let inside : at < length places = let within = first.within in omega (arith, within, long) in
      let more : get_or next-places at 0 ≡ get_or places at 0 + 1 = get_or-set_same places at (get_or places at 0 + 1) 0 inside in
      omega (arith, more)

  place-other : (k : ℕ) → k ≢ at → get_or next-places k 0 ≡ get_or places k 0
  place-other k other = get_or-set_other places at k (get_or places at 0 + 1) 0 other

  same-or-not : (k : ℕ) → (b : Bool) → (at == k) ≡ b → (k ≡ at) ⊎ (k ≢ at)
  same-or-not k true e = inl (grind (arith, nat_tests))
  same-or-not k false e = inr (λ same. absurd (grind (arith, nat_tests)))

  heads-before : AllByRecursion (λ (line : Line). IsBefore line next-line) m.lines
  heads-before = m.heads at first.within entry first.is

  next-firsts : (k : ℕ) → k < length journals → entries_at (bay k) next-lines ≡ take (get_or next-places k 0) (slice_index_or journals k [])
  next-firsts k below = entries-append (bay k) m.lines (next-line ∷ []) ∙ by (at == k) refl where
    by : (b : Bool) → (at == k) ≡ b → entries_at (bay k) m.lines ++ (if b then entry ∷ [] else []) ≡ take (get_or next-places k 0) (slice_index_or journals k [])
    by true e =
        let same : at ≡ k = grind (arith, nat_tests) in
        subst (λ (j : ℕ). entries_at (bay j) m.lines ++ entry ∷ [] ≡ take (get_or next-places j 0) (slice_index_or journals j [])) same
        (
        ap (λ (es : List Entry). es ++ entry ∷ []) (m.firsts at first.within)
        ∙ take-next (slice_index_or journals at []) (get_or places at 0) entry first.is
        ∙ ap (λ (n : ℕ). take n (slice_index_or journals at [])) (sym place-here)
        )
    by false e =
        let other : k ≢ at = λ same. absurd (grind (arith, nat_tests)) in
        append-nil (entries_at (bay k) m.lines) ∙ m.firsts k below ∙ ap (λ (n : ℕ). take n (slice_index_or journals k [])) (sym (place-other k other))

  next-within : AllByRecursion (λ (line : Line). line.bay.0 < length journals) next-lines
  next-within = all-append (λ (line : Line). line.bay.0 < length journals) m.lines (next-line ∷ []) m.within (first.within, tt)

  next-heads : AllByRecursion ClocksRise journals → (k : ℕ) → k < length journals → (other : Entry) → heads_at journals next-places k ≡ Some other →
      AllByRecursion (λ (line : Line). IsBefore line (line_at k other)) next-lines
  next-heads rising k below other is = by (same-or-not k (at == k) refl) where
    all : IsBefore next-line (line_at k other) → AllByRecursion (λ (line : Line). IsBefore line (line_at k other)) next-lines
    all last = all-append (λ (line : Line). IsBefore line (line_at k other)) m.lines (next-line ∷ [])
        (all-weaker (λ (line : Line). IsBefore line next-line) (λ (line : Line). IsBefore line (line_at k other)) (λ line b. before-before line next-line (line_at k other) b last) m.lines heads-before)
        (last, tt)

    by : (k ≡ at) ⊎ (k ≢ at) → AllByRecursion (λ (line : Line). IsBefore line (line_at k other)) next-lines
    by (inl same) = all (inl (next-clock (slice_index_or journals at []) (get_or places at 0) entry other (journal-rises journals at rising) first.is there)) where
      here : slice_get (slice_index_or journals at []) (get_or next-places at 0) ≡ Some other
      here = subst (λ (j : ℕ). heads_at journals next-places j ≡ Some other) same is

      there : slice_get (slice_index_or journals at []) (suc (get_or places at 0)) ≡ Some other
      there = subst (λ (n : ℕ). slice_get (slice_index_or journals at []) n ≡ Some other) place-here here
    by (inr differ) = all (before-it (first.first k below other as-before)) where
      as-before : heads_at journals places k ≡ Some other
      as-before = subst (λ (n : ℕ). slice_get (slice_index_or journals k []) n ≡ Some other) (place-other k differ) is

      before-it : (k ≡ at) ⊎ IsBefore next-line (line_at k other) → IsBefore next-line (line_at k other)
      before-it (inl same) = absurd (differ same)
      before-it (inr b) = b

  merging-next : AllByRecursion ClocksRise journals → Merging journals (set places at (get_or places at 0 + 1)) before (after ++ record { host = entry.ask.host; moment = entry.ask.moment } ∷ [])
  merging-next rising = record {
    lines = next-lines;
    turned =
        ap (λ (turns : List Turn). turns ++ next-turn ∷ []) m.turned
        ∙ append_assoc before (map turn_of m.lines) (next-turn ∷ [])
        ∙ ap (λ (turns : List Turn). before ++ turns) (sym (map-append turn_of m.lines (next-line ∷ [])));
    within = next-within;
    firsts = next-firsts;
    rise = rise-on m.lines next-line m.rise heads-before;
    heads = next-heads rising;
  }

  -- there are no more turns than entries
  merging-room : length after + 1 ≤ length before + sum_by (λ (es : List Entry). length es) journals
  merging-room =
      let few : length next-lines ≤ sum_by (λ (es : List Entry). length es) journals = lines-few journals next-lines next-within
      (λ k below. omega (arith, ap length (next-firsts k below), length-take (get_or next-places k 0) (slice_index_or journals k []))) in
      let turns : length after ≡ length (before ++ map turn_of m.lines) = ap (λ (turns : List Turn). length turns) m.turned in
      let more : length next-lines ≡ length m.lines + 1 = length-append m.lines (next-line ∷ []) in
      omega (arith, few, more, turns, length-append before (map turn_of m.lines), length-map m.lines turn_of)

-- a bound of each list
short-at : (journals : List (List Entry)) (k : ℕ) → AreShort journals → length (slice_index_or journals k []) < 2 ^ 63
short-at [] k all = omega arith
short-at (journal ∷ journals) zero all = all.0
short-at (journal ∷ journals) (suc k) all = short-at journals k all.1

pub head-is : (journals : List (Bor (List Entry))) (places : List ℕ) (k : ℕ) (d : Bor (List Entry)) (head : Option Entry) → k < length journals →
    head ≡ slice_get (get_or journals k d).now (get_or places k 0) → heads_at (entries_in journals) places k ≡ head
head-is journals places k d head below is =
    let list : get_or (entries_in journals) k [] ≡ (get_or journals k d).now = get_or-map (λ (j : Bor (List Entry)). j.now) journals k d [] below in
    ap (λ (es : List Entry). slice_get es (get_or places k 0)) list ∙ sym is

-- a head is inside its journal
inside : (es : List Entry) (place : ℕ) (entry : Entry) → slice_get es place ≡ Some entry → place < length es
inside [] place entry is = absurd (cc)
inside (e ∷ es) zero entry is = omega arith
inside (e ∷ es) (suc place) entry is = omega (arith, inside es place entry is)

place-inside : (journals : List (List Entry)) (at place : ℕ) (entry : Entry) → AreShort journals → slice_get (slice_index_or journals at []) place ≡ Some entry → place < 2 ^ 63
place-inside journals at place entry short is = omega (arith, inside (slice_index_or journals at []) place entry is, short-at journals at short)

-- no place has been come to at the start
pub zeros : (n k : ℕ) → let none : ℕ = 0 in get_or (replicate n none) k none ≡ none
zeros zero k = refl
zeros (suc n) zero = refl
zeros (suc n) (suc k) = zeros n k

-- A round of the merge
module _ (journals : List (Bor (List Entry))) (places : List ℕ) (before after : List Turn) (m : Merging (entries_in journals) places before after) (at : ℕ) (entry : Entry)
    (head : IsFirstAt (heads_at (entries_in journals) places) (length journals) at entry) (few : length journals ≤ 16) (long : length places ≡ 16) where
  as-lists : length journals ≡ length (entries_in journals)
  as-lists = sym (length-map journals (λ (journal : Bor (List Entry)). journal.now))

  first-list : IsFirstAt (heads_at (entries_in journals) places) (length (entries_in journals)) at entry
  first-list = subst (λ (n : ℕ). IsFirstAt (heads_at (entries_in journals) places) n at entry) as-lists head

  enough : length (entries_in journals) ≤ length places
  enough = omega (arith, as-lists, few, long)

  pub round-next : AllByRecursion ClocksRise (entries_in journals) →
      Merging (entries_in journals) (set places at (get_or places at 0 + 1)) before (after ++ record { host = entry.ask.host; moment = entry.ask.moment } ∷ [])
  round-next = merging-next (entries_in journals) places before after m at entry first-list enough

  pub round-room : length after + 1 ≤ length before + sum_by (λ (es : List Entry). length es) (entries_in journals)
  round-room = merging-room (entries_in journals) places before after m at entry first-list enough

  pub round-fits : AreShort (entries_in journals) → get_or places at 0 + 1 < 2 ^ 64
  round-fits short = omega (arith, place-inside (entries_in journals) at (get_or places at 0) entry short head.is)

-- the last round
pub round-end : (journals : List (Bor (List Entry))) (places : List ℕ) (before after : List Turn) → Merging (entries_in journals) places before after →
    IsFirst (heads_at (entries_in journals) places) (length journals) None → AppendsMerge (entries_in journals) before after
round-end journals places before after m none =
    merging-end (entries_in journals) places before after m
    (subst (λ (n : ℕ). IsFirst (heads_at (entries_in journals) places) n None) (sym (length-map journals (λ (journal : Bor (List Entry)). journal.now))) none)
