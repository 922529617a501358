-- Which rows are open, marked bay by bay.
use Rattle.std.proofs.Common.{◌≡◌, ℕ, ◌+◌, ◌-◌, ◌<◌, ◌≤◌, ◌==◌, nat_le, nat_lt, eqb, zero, suc, Bool, true, false, ◌||◌, ◌&&◌, Option, Some, is_some, List, [], ◌∷◌, ◌++◌, length, get_or, take, replicate, slice_get, length-append, refl, sym, ap, subst, ◌∙◌, arith}
use Rattle.std.proofs.Math.ListN.{set}
use Rattle.std.proofs.Math.Seq.{take-suc}
use Rattle.std.specs.List.{list_any}
use Rattle.std.proofs.lemmas.List.{get_or_append_left, get_or-append-add, get_or-replicate, get_or-set_same, get_or-set_other, length-replicate, get_or_past}
use Rattle.std.proofs.lemmas.List.FromFn.{length-map-range_with_len, get_or-map-range_with_len}
use Rattle.std.proofs.lemmas.List.Folds.{list_any-append}
use Rattle.std.proofs.lemmas.Bool.{eqb-true, eqb-false, eq-eqb}
use Rattle.std.proofs.lemmas.Bool.Decides.{nat_tests}
use Rattle.std.proofs.lemmas.Option.{get_or_from_slice_get}
use Rattle.raid_base.specs.declared.numbers.RowNo.{RowNo}
use Rattle.raid_base.specs.declared.messages.Note.{Note}
use Rattle.raid_base.specs.Numbers.{number}
use Rattle.slot_rules.specs.Slots.{Slot, slot_of, bare_slot}
use Rattle.slot_rules.specs.Tables.{Kept, with_blocks, slots_with, bare_kept}
use Rattle.slot_rules.specs.Opens.{ListsOpen}
use Rattle.slot_rules.proofs.TableLists.{slots-length, read-own}
use Rattle.slot_rules.proofs.TableParts.{note-there}
use Rattle.block_store.specs.declared.store.Store.{Ghosts}
use Rattle.bay_device.specs.declared.bay.Bay.{Bay}
use Rattle.schedule_play.specs.Rows.{row_no, has_note, is_open_now, opened_now, IsMarked}

-- lists that are the same at each place
pub same-lists : (xs ys : List Bool) → length xs ≡ length ys → ((j : ℕ) → j < length xs → get_or xs j false ≡ get_or ys j false) → xs ≡ ys
same-lists [] [] l h = refl
same-lists [] (y ∷ ys) l h = absurd (omega arith)
same-lists (x ∷ xs) [] l h = absurd (omega arith)
same-lists (x ∷ xs) (y ∷ ys) l h = ap (λ (b : Bool). b ∷ xs) (h 0 (omega arith)) ∙ ap (λ (t : List Bool). y ∷ t) (same-lists xs ys (omega arith) (λ j k. h (suc j) (omega arith)))

or_false : (b : Bool) → b ≡ (b || false)
or_false true = refl
or_false false = refl

or_true : (b : Bool) → true ≡ (b || true)
or_true true = refl
or_true false = refl

marked_at : (xs : List Bool) (place j : ℕ) (b : Bool) → eqb j place ≡ b → place < length xs → get_or (set xs place true) j false ≡ (get_or xs j false || eqb j place)
marked_at xs place j true e l =
    let same : j ≡ place = eqb-true j place e in
    ap (λ n. get_or (set xs place true) n false) same ∙ get_or-set_same xs place true false l ∙ or_true (get_or xs j false) ∙ ap (λ (c : Bool). get_or xs j false || c) (sym e)
marked_at xs place j false e l = get_or-set_other xs place j true false (eqb-false j place e) ∙ or_false (get_or xs j false) ∙ ap (λ (c : Bool). get_or xs j false || c) (sym e)

-- a row is marked
pub marked-set : (xs : List Bool) (place : ℕ) (noted : Bool) → noted ≡ true → place < length xs → IsMarked xs (set xs place true) (λ j. noted && (j == place))
marked-set xs place noted n l = λ j k. rw n (marked_at xs place j _ refl l)

-- it has no note, or isn't there
pub marked-none : (xs : List Bool) (place : ℕ) (noted : Bool) → (noted ≡ true → length xs ≤ place) → IsMarked xs xs (λ j. noted && (j == place))
marked-none xs place true h = λ j k.
    let far = h refl in
    let no : (j == place) ≡ false = grind (arith, nat_tests) in
    rw no (or_false (get_or xs j false))
marked-none xs place false h = λ j k. or_false (get_or xs j false)

-- a row is among these
pub among : List RowNo → ℕ → Bool
among rows j = list_any (λ (r : RowNo). r.0 == j) rows

among_more : (rows : List RowNo) (k j : ℕ) (row : RowNo) → slice_get rows k ≡ Some row → k < length rows → among (take (k + 1) rows) j ≡ (among (take k rows) j || (row.0 == j))
unfolding among
among_more rows k j row at l =
    let more : take (k + 1) rows ≡ take k rows ++ row ∷ [] =
    ap (λ n. take n rows) (let one : k + 1 ≡ suc k = omega arith in one) ∙ take-suc rows k row l ∙ ap (λ (r : RowNo). take k rows ++ r ∷ []) (get_or_from_slice_get rows k row row at) in
    ap (λ (rs : List RowNo). list_any (λ (r : RowNo). r.0 == j) rs) more
    ∙ list_any-append (λ (r : RowNo). r.0 == j) (take k rows) (row ∷ [])
    ∙ ap (λ (b : Bool). list_any (λ (r : RowNo). r.0 == j) (take k rows) || b) (sym (or_false (row.0 == j)))

marks : (base a e h n : Bool) → (e ≡ true → n ≡ h) → ((base || (a && h)) || (n && e)) ≡ (base || ((a || e) && h))
marks true a e h n same = refl
marks false true true true n same = refl
marks false true false true n same = refl
marks false true true false n same = let f : n ≡ false = same refl in rw f refl
marks false true false false true same = refl
marks false true false false false same = refl
marks false false true true n same = let f : n ≡ true = same refl in rw f refl
marks false false true false n same = let f : n ≡ false = same refl in rw f refl
marks false false false h true same = refl
marks false false false h false same = refl

any_place : (rows : List RowNo) (k : ℕ) (d : RowNo) (j : ℕ) → k < length rows → (get_or rows k d).0 ≡ j → among rows j ≡ true
unfolding among
any_place [] k d j l e = absurd (omega arith)
any_place (r ∷ rows) zero d j l e = let is : (r.0 == j) ≡ true = eq-eqb r.0 j e in rw is refl
any_place (r ∷ rows) (suc k) d j l e = ap (λ (b : Bool). (r.0 == j) || b) (any_place rows k d j (omega arith) e) ∙ sym (or_true (r.0 == j))

and_same : (a h : Bool) → (h ≡ true → a ≡ true) → (a && h) ≡ h
and_same true h f = refl
and_same false true f = let bad : false ≡ true = f refl in absurd cc
and_same false false f = refl

at_first : (first j r : ℕ) (b : Bool) → nat_le first j ≡ b → (j == (first + r)) ≡ (b && (r == (j - first)))
at_first first j r true e = let l : first ≤ j = grind (arith, nat_tests) in grind (arith, nat_tests)
at_first first j r false e = let l : j < first = grind (arith, nat_tests) in grind (arith, nat_tests)

marks_step : (base b a e h n : Bool) → (e ≡ true → n ≡ h) → ((base || (b && (a && h))) || (n && (b && e))) ≡ (base || (b && ((a || e) && h)))
marks_step base true a e h n same = marks base a e h n same
marks_step true false a e h n same = refl
marks_step false false a e h true same = refl
marks_step false false a e h false same = refl

or_left : (a b : Bool) → a ≡ true → (a || b) ≡ true
or_left true b e = refl
or_left false b e = absurd cc

take_all : (rows : List RowNo) → take (length rows) rows ≡ rows
take_all [] = refl
take_all (r ∷ rows) = ap (λ (t : List RowNo). r ∷ t) (take_all rows)

bays_step : (base b a h : Bool) → ((base || (b && a)) || (b && h)) ≡ (base || (b && (a || h)))
bays_step true b a h = refl
bays_step false true a h = refl
bays_step false false a h = refl

module _ {D : Type 0} {g : Ghosts D} where
  -- what is marked of a bay after the first so many of its open rows
  abbrev pub marks_of : Bay D g → ℕ → ℕ → ℕ → Bool
  marks_of bay first k j = nat_le first j && (among (take k bay.slots.order) (j - first) && has_note (row_no (j - first)) bay)

  noted_row : (bay : Bay D g) (row : RowNo) (j : ℕ) (noted : Bool) → noted ≡ has_note row bay → (row.0 == j) ≡ true → noted ≡ has_note (row_no j) bay
  noted_row bay row j noted n e = let same : row.0 ≡ j = eqb-true row.0 j e in n ∙ ap (λ k. has_note (row_no k) bay) same

  -- one open row more
  pub marks-more : (bay : Bay D g) (first k : ℕ) (row : RowNo) (noted : Bool) (old mid new : List Bool) → slice_get bay.slots.order k ≡ Some row → k < length bay.slots.order → noted ≡ has_note row bay →
      length mid ≡ length old → IsMarked old mid (marks_of bay first k) → IsMarked mid new (λ j. noted && (j == (first + row.0))) → IsMarked old new (marks_of bay first (k + 1))
  marks-more bay first k row noted old mid new at l n size before step = λ j inside.
      let base = get_or old j false in
      let h = has_note (row_no (j - first)) bay in
      let a = among (take k bay.slots.order) (j - first) in
      step j (omega (arith, size))
      ∙ ap (λ (x : Bool). x || (noted && (j == (first + row.0)))) (before j inside)
      ∙ ap (λ (x : Bool). (base || (nat_le first j && (a && h))) || (noted && x)) (at_first first j row.0 _ refl)
      ∙ marks_step base (nat_le first j) a (row.0 == (j - first)) h noted (noted_row bay row (j - first) noted n)
      ∙ ap (λ (x : Bool). base || (nat_le first j && (x && h))) (sym (among_more bay.slots.order k (j - first) row at l))

  -- none at first
  pub marks-none : (bay : Bay D g) (first : ℕ) (old : List Bool) → IsMarked old old (marks_of bay first 0)
  unfolding among
  marks-none bay first old = λ j l. or_false (get_or old j false) ∙ ap (λ (x : Bool). get_or old j false || x) (and_none (nat_le first j))
    where
      and_none : (b : Bool) → false ≡ (b && false)
      and_none true = refl
      and_none false = refl

  note_low : (bay : Bay D g) (j : ℕ) (b : Bool) → nat_lt j (length bay.slots.slots) ≡ b → has_note (row_no j) bay ≡ true → j < length bay.slots.slots
  note_low bay j true e h = grind (arith, nat_tests)
  note_low bay j false e h =
      let far : length bay.slots.slots ≤ j = grind (arith, nat_tests) in
      let none : slot_of (with_blocks bay.slots (g.content bay.store)) (row_no j) ≡ bare_slot (number 0) =
      get_or_past (slots_with bay.slots.slots (g.content bay.store)) j (bare_slot (number 0)) (omega (arith, slots-length bay.slots.slots (g.content bay.store))) in
      let bad : false ≡ true = sym (ap (λ (s : Slot). is_some s.note) none) ∙ h in
      absurd cc

  -- a row with a note is among the open rows
  noted_listed : (bay : Bay D g) (j : ℕ) → ListsOpen bay.slots.order bay.slots.slots → has_note (row_no j) bay ≡ true → among bay.slots.order j ≡ true
  noted_listed bay j lists h =
      let low : j < length bay.slots.slots = note_low bay j _ refl h in
      let kept : Kept = get_or bay.slots.slots j (bare_kept (number 0)) in
      let note : is_some kept.note ≡ true =
      ap (λ (x : Option Note). is_some x) (note-there bay.slots (row_no j) kept low (read-own bay.slots.slots j (bare_kept (number 0)) kept low) (g.content bay.store)) ∙ h in
      let listed = lists.all (row_no j) low (or_left (is_some kept.note) _ note) in
      any_place bay.slots.order listed.0 (row_no j) j listed.1 (ap (λ (r : RowNo). r.0) listed.2)

  -- all of them
  pub marks-all : (bay : Bay D g) (first k : ℕ) (old new : List Bool) → ListsOpen bay.slots.order bay.slots.slots → k ≡ length bay.slots.order → IsMarked old new (marks_of bay first k) →
      IsMarked old new (λ j. nat_le first j && has_note (row_no (j - first)) bay)
  marks-all bay first k old new lists all marked = λ j l.
      let rows : take k bay.slots.order ≡ bay.slots.order = ap (λ n. take n bay.slots.order) all ∙ take_all bay.slots.order in
      marked j l
      ∙ ap (λ (rs : List RowNo). get_or old j false || (nat_le first j && (among rs (j - first) && has_note (row_no (j - first)) bay))) rows
      ∙ ap (λ (x : Bool). get_or old j false || (nat_le first j && x)) (and_same (among bay.slots.order (j - first)) (has_note (row_no (j - first)) bay) (noted_listed bay (j - first) lists))

  -- what is marked of the first so many bays
  abbrev pub marked_by : List (Bay D g) → ℕ → ℕ → Bool
  marked_by bays first j = nat_le first j && is_open_now bays (row_no (j - first))

  pub bays-more : (bays : List (Bay D g)) (at first : ℕ) (r : Bay D g) (old mid new : List Bool) → at < length bays → r ≡ get_or bays at r → length mid ≡ length old →
      IsMarked old mid (marked_by (take at bays) first) → IsMarked mid new (λ j. nat_le first j && has_note (row_no (j - first)) r) → IsMarked old new (marked_by (take (at + 1) bays) first)
  bays-more bays at first r old mid new l read size before step = λ j inside.
      let row = row_no (j - first) in
      let more : take (at + 1) bays ≡ take at bays ++ r ∷ [] =
      ap (λ n. take n bays) (let one : at + 1 ≡ suc at = omega arith in one) ∙ take-suc bays at r l ∙ ap (λ (b : Bay D g). take at bays ++ b ∷ []) (sym read) in
      let any : is_open_now (take (at + 1) bays) row ≡ (is_open_now (take at bays) row || has_note row r) =
      ap (λ (bs : List (Bay D g)). is_open_now bs row) more ∙ list_any-append (has_note row) (take at bays) (r ∷ []) ∙ ap (λ (x : Bool). is_open_now (take at bays) row || x) (sym (or_false (has_note row r))) in
      step j (omega (arith, size))
      ∙ ap (λ (x : Bool). x || (nat_le first j && has_note row r)) (before j inside)
      ∙ bays_step (get_or old j false) (nat_le first j) (is_open_now (take at bays) row) (has_note row r)
      ∙ ap (λ (x : Bool). get_or old j false || (nat_le first j && x)) (sym any)

  pub bays-none : (bays : List (Bay D g)) (first : ℕ) (old : List Bool) → IsMarked old old (marked_by (take 0 bays) first)
  bays-none bays first old = λ j l. or_false (get_or old j false) ∙ ap (λ (x : Bool). get_or old j false || x) (and_none (nat_le first j))
    where
      and_none : (b : Bool) → false ≡ (b && false)
      and_none true = refl
      and_none false = refl

  take_bays : (bays : List (Bay D g)) → take (length bays) bays ≡ bays
  take_bays [] = refl
  take_bays (b ∷ bays) = ap (λ (t : List (Bay D g)). b ∷ t) (take_bays bays)

  opened_place : (bays : List (Bay D g)) (rows : ℕ) (old new : List Bool) (j : ℕ) (b : Bool) → nat_le (length old) j ≡ b → j < length old + rows →
      IsMarked (old ++ replicate rows false) new (marked_by bays (length old)) → get_or new j false ≡ get_or (old ++ opened_now rows bays) j false
  opened_place bays rows old new j true e l marked =
      let past : length old ≤ j = grind (arith, nat_tests) in
      let i = j - length old in
      let at : length old + i ≡ j = omega arith in
      let none : get_or (old ++ replicate rows false) j false ≡ false =
      ap (λ n. get_or (old ++ replicate rows false) n false) (sym at) ∙ get_or-append-add old (replicate rows false) i false ∙ get_or-replicate rows i false false (omega arith) in
      marked j (omega (arith, length-append old (replicate rows false), length-replicate rows false))
      ∙ ap (λ (x : Bool). x || (nat_le (length old) j && is_open_now bays (row_no i))) none
      ∙ ap (λ (x : Bool). x && is_open_now bays (row_no i)) e
      ∙ sym (get_or-map-range_with_len (λ k. is_open_now bays (row_no k)) 0 rows i i false (omega arith) (omega arith))
      ∙ sym (get_or-append-add old (opened_now rows bays) i false)
      ∙ ap (λ n. get_or (old ++ opened_now rows bays) n false) at
  opened_place bays rows old new j false e l marked =
      let low : j < length old = grind (arith, nat_tests) in
      let i = j - length old in
      marked j (omega (arith, length-append old (replicate rows false), length-replicate rows false))
      ∙ ap (λ (x : Bool). get_or (old ++ replicate rows false) j false || (x && is_open_now bays (row_no i))) e
      ∙ sym (or_false (get_or (old ++ replicate rows false) j false))
      ∙ get_or_append_left old (replicate rows false) false j low
      ∙ sym (get_or_append_left old (opened_now rows bays) false j low)

  -- all that was marked are the open rows
  pub opened-all : (bays : List (Bay D g)) (rows at : ℕ) (old blank new : List Bool) → at ≡ length bays → blank ≡ old ++ replicate rows false → length new ≡ length blank →
      IsMarked blank new (marked_by (take at bays) (length old)) → new ≡ old ++ opened_now rows bays
  opened-all bays rows at old blank new all is size marked =
      let bs : take at bays ≡ bays = ap (λ n. take n bays) all ∙ take_bays bays in
      let whole : IsMarked (old ++ replicate rows false) new (marked_by bays (length old)) =
      subst (λ (xs : List Bool). IsMarked xs new (marked_by bays (length old))) is (subst (λ (ys : List (Bay D g)). IsMarked blank new (marked_by ys (length old))) bs marked) in
      let wide : length new ≡ length old + rows = omega (arith, size, ap (λ (xs : List Bool). length xs) is, length-append old (replicate rows false), length-replicate rows false) in
      same-lists new (old ++ opened_now rows bays)
      (omega (arith, wide, length-append old (opened_now rows bays), length-map-range_with_len (λ k. is_open_now bays (row_no k)) 0 rows))
      (λ j l. opened_place bays rows old new j _ refl (omega (arith, wide)) whole)
