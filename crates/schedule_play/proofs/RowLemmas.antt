-- The cells and the open rows of bays that were looked at, and of the history that they show.
use Rattle.std.proofs.Common.{◌≡◌, ℕ, ◌+◌, ◌-◌, ◌*◌, ◌<◌, ◌≤◌, zero, suc, Bool, true, false, not, ◌||◌, Option, None, is_some, List, [], ◌∷◌, ◌++◌, length, get_or, map, take, refl, sym, ap, subst, ◌∙◌, inl, inr, ◌⊎◌, arith, get_or-set_same, IsTrue, append_assoc}
use Rattle.std.proofs.Math.ListN.{set, length-set}
use Rattle.std.proofs.lemmas.List.{map_more, flat_map_more, get_or_append_left, get_or-append-add}
use Rattle.std.proofs.lemmas.List.FromFn.{length-map-range_with_len, get_or-map-range_with_len}
use Rattle.std.specs.List.{list_any, flat_map, range_with_len}
use Rattle.raid_base.specs.declared.numbers.BayNo.{BayNo}
use Rattle.raid_base.specs.declared.numbers.RowNo.{RowNo}
use Rattle.raid_base.specs.declared.cells.Cell.{Cell}
use Rattle.raid_base.specs.declared.messages.Call.{Call}
use Rattle.raid_base.specs.declared.messages.Entry.{Entry}
use Rattle.raid_base.specs.Counts.{Rises, RisesBy}
use Rattle.slot_rules.specs.Slots.{Slot, Bay as BayState, slot_of}
use Rattle.slot_rules.specs.Tables.{Table, with_blocks}
use Rattle.block_store.specs.declared.store.Store.{Ghosts}
use Rattle.bay_device.specs.declared.bay.Bay.{Bay}
use Rattle.bay_device.specs.Handling.{cell_of_row, count_faults, RisesByFaults}
use Rattle.script_text.specs.Script.{Script}
use Rattle.schedule_play.specs.World.{EachAt, BayShows, AllTell, IsOver, AreOver}
use Rattle.histories.specs.RowStates.{slot_at, cell_at, is_open, shown_at}
use Rattle.report_text.specs.Rows.{cell_in, shown_in}
use Rattle.report_text.proofs.ViewLemmas.{shown-same, closed-same}
use Rattle.stripe_layout.specs.Placement.{bay, parity_bay, bay_of, units, bays_of, row_bays}
use Rattle.stripe_layout.specs.Layout.{HoldsUnit, IsLaidOut}
use Rattle.stripe_layout.proofs.LayoutLemmas.{laid_out}
use Rattle.std.proofs.lemmas.List.Folds.{list_any-append}
use Rattle.schedule_play.specs.Rows.{row_no, HaveRows, cell_now, has_note, is_open_now, row_now, cells_now, opened_now, IsLookedAt, AreLookedAt, HasFailed, row_after, cells_after, opened_after, ShowRows}
use Rattle.attempts.proofs.WholeLemmas.{range_more}
use Rattle.schedule_play.proofs.WorldLemmas.{each-set, default-free}

rises-on : (n first before now : ℕ) → RisesBy n first before → before ≤ now → RisesBy n first now
rises-on n first before now rises later = omega (arith, rises, later)

rises-since : (first before now : ℕ) → first ≤ before → Rises before now → Rises first now
rises-since first before now h rises = omega (arith, h, rises)

module _ {D : Type 0} {g : Ghosts D} where
  pub looked-same : (bays : List (Bay D g)) → AreLookedAt bays bays
  looked-same bays = record {
    count = refl;
    each = λ k d inside. record { slots = refl; clock = refl; journal = refl; cap = refl; content = refl; tells = refl; size = refl; faults = omega arith };
  }

  looked-then : (old mid new : Bay D g) → IsLookedAt old mid → IsLookedAt mid new → IsLookedAt old new
  looked-then old mid new a b = record {
    slots = b.slots ∙ a.slots;
    clock = b.clock ∙ a.clock;
    journal = b.journal ∙ a.journal;
    cap = b.cap ∙ a.cap;
    content = b.content ∙ a.content;
    tells = b.tells ∙ a.tells;
    size = b.size ∙ a.size;
    faults = omega (arith, a.faults, b.faults);
  }

  pub looked-all : (old mid new : List (Bay D g)) → AreLookedAt old mid → AreLookedAt mid new → AreLookedAt old new
  looked-all old mid new a b = record {
    count = b.count ∙ a.count;
    each = λ k d inside. looked-then (get_or old k d) (get_or mid k d) (get_or new k d) (a.each k d inside) (b.each k d (omega (arith, a.count)));
  }

  pub looked-at : (old mid : List (Bay D g)) (i : ℕ) (r : Bay D g) → AreLookedAt old mid → i < length old → (d : Bay D g) → IsLookedAt (get_or old i d) (get_or mid i r)
  looked-at old mid i r looked inside d =
      subst (λ (b : Bay D g). IsLookedAt (get_or old i d) b) (default-free mid i d r (omega (arith, looked.count))) (looked.each i d inside)

  -- one bay more is looked at
  pub looked-more : (old mid : List (Bay D g)) (i : ℕ) (r new : Bay D g) → AreLookedAt old mid → i < length old → IsLookedAt (get_or mid i r) new → AreLookedAt old (set mid i new)
  looked-more old mid i r new looked inside one =
      let P : ℕ → Bay D g → Type 0 = λ k b. (e : Bay D g) → k < length old → IsLookedAt (get_or old k e) b in
      let before : EachAt P mid = λ k d h e hk. subst (λ (b : Bay D g). IsLookedAt (get_or old k e) b) (default-free mid k e d h) (looked.each k e hk) in
      let after : EachAt P (set mid i new) =
      each-set P P mid i new before (λ k d h apart same. same) (λ e hk. looked-then (get_or old i e) (get_or mid i r) new (looked-at old mid i r looked inside e) one) in
      let len : length (set mid i new) ≡ length old = (rw length-set refl) ∙ looked.count in
      record {
        count = len;
        each = λ k d h. after k d (omega (arith, len)) d h;
      }

  -- the store of that bay has failed
  pub failed-here : (old mid : List (Bay D g)) (i : ℕ) (r new : Bay D g) → AreLookedAt old mid → i < length old → Rises (g.faults (get_or mid i r).store) (g.faults new.store) → HasFailed i old (set mid i new)
  failed-here old mid i r new looked inside rises = record {
    inside = inside;
    risen = λ d.
        let at : get_or (set mid i new) i d ≡ new = get_or-set_same mid i new d (omega (arith, looked.count)) in
        subst (λ (b : Bay D g). Rises (g.faults (get_or old i d).store) (g.faults b.store)) (sym at)
        (rises-since (g.faults (get_or old i d).store) (g.faults (get_or mid i r).store) (g.faults new.store) (looked-at old mid i r looked inside d).faults rises);
  }

  -- a failure since bays were only looked at is one since before
  pub failed-since : (at : ℕ) (old mid new : List (Bay D g)) → AreLookedAt old mid → HasFailed at mid new → HasFailed at old new
  failed-since at old mid new looked failed = record {
    inside = omega (arith, failed.inside, looked.count);
    risen = λ d. rises-since (g.faults (get_or old at d).store) (g.faults (get_or mid at d).store) (g.faults (get_or new at d).store)
        (looked.each at d (omega (arith, failed.inside, looked.count))).faults (failed.risen d);
  }

  cell-kept : (old new : Bay D g) (row : RowNo) → IsLookedAt old new → cell_now row new ≡ cell_now row old
  cell-kept old new row looked =
      ap (λ (t : Table). cell_of_row (with_blocks t (g.content new.store)) row) looked.slots
      ∙ ap (λ (blocks : List (List ℕ)). cell_of_row (with_blocks old.slots blocks) row) looked.content

  -- one cell more of a row
  pub cells-more : (old mid : List (Bay D g)) (i : ℕ) (r : Bay D g) (row : RowNo) (before cells later : List (Option Cell)) (cell : Option Cell) → AreLookedAt old mid → i < length old →
      AllTell old → cells ≡ before ++ row_now (take i old) row → (IsTrue (g.tells (get_or mid i r).store) → cell ≡ cell_now row (get_or mid i r)) → later ≡ cells ++ cell ∷ [] →
      later ≡ before ++ row_now (take (i + 1) old) row
  cells-more old mid i r row before cells later cell looked inside tell so_far read push =
      let at = looked-at old mid i r looked inside r in
      let tells : IsTrue (g.tells (get_or mid i r).store) = subst (λ (b : Bool). IsTrue b) (sym at.tells) (tell i r inside) in
      let here : cell ≡ cell_now row (get_or old i r) = read tells ∙ cell-kept (get_or old i r) (get_or mid i r) row at in
      push
      ∙ ap (λ (xs : List (Option Cell)). xs ++ cell ∷ []) so_far
      ∙ append_assoc before (row_now (take i old) row) (cell ∷ [])
      ∙ ap (λ (c : Option Cell). before ++ (row_now (take i old) row ++ c ∷ [])) here
      ∙ ap (λ (xs : List (Option Cell)). before ++ xs) (sym (map_more (cell_now row) old i r inside))

  note-kept : (old new : Bay D g) (row : RowNo) → IsLookedAt old new → has_note row new ≡ has_note row old
  note-kept old new row looked =
      ap (λ (t : Table). is_some (slot_of (with_blocks t (g.content new.store)) row).note) looked.slots
      ∙ ap (λ (blocks : List (List ℕ)). is_some (slot_of (with_blocks old.slots blocks) row).note) looked.content

  tail-looked : (b c : Bay D g) (old new : List (Bay D g)) → AreLookedAt (b ∷ old) (c ∷ new) → AreLookedAt old new
  tail-looked b c old new looked = record {
    count = let h = looked.count in omega arith;
    each = λ k d inside. looked.each (suc k) d (omega (arith, inside));
  }

  pub row-kept : (old new : List (Bay D g)) (row : RowNo) → AreLookedAt old new → row_now new row ≡ row_now old row
  row-kept [] [] row looked = refl
  row-kept [] (c ∷ new) row looked = let h = looked.count in absurd (omega arith)
  row-kept (b ∷ old) [] row looked = let h = looked.count in absurd (omega arith)
  row-kept (b ∷ old) (c ∷ new) row looked =
      ap (λ (x : Option Cell). x ∷ row_now new row) (cell-kept b c row (looked.each 0 b (omega arith)))
      ∙ ap (λ (xs : List (Option Cell)). cell_now row b ∷ xs) (row-kept old new row (tail-looked b c old new looked))

  pub open-kept : (old new : List (Bay D g)) (row : RowNo) → AreLookedAt old new → is_open_now new row ≡ is_open_now old row
  open-kept [] [] row looked = refl
  open-kept [] (c ∷ new) row looked = let h = looked.count in absurd (omega arith)
  open-kept (b ∷ old) [] row looked = let h = looked.count in absurd (omega arith)
  open-kept (b ∷ old) (c ∷ new) row looked =
      ap (λ (x : Bool). x || is_open_now new row) (note-kept b c row (looked.each 0 b (omega arith)))
      ∙ ap (λ (x : Bool). has_note row b || x) (open-kept old new row (tail-looked b c old new looked))

  pub rows-kept : (old new : List (Bay D g)) (rows fewer : ℕ) → HaveRows rows old → AreLookedAt old new → fewer ≤ rows → HaveRows fewer new
  rows-kept old new rows fewer have looked less = λ k d inside.
      let within : k < length old = omega (arith, looked.count, inside) in
      let same : length (get_or new k d).slots.slots ≡ length (get_or old k d).slots.slots = ap (λ (t : Table). length t.slots) (looked.each k d within).slots in
      omega (arith, same, have k d within, less)

  pub tell-kept : (old new : List (Bay D g)) → AllTell old → AreLookedAt old new → AllTell new
  tell-kept old new tell looked = λ k d inside.
      let within : k < length old = omega (arith, looked.count, inside) in
      subst (λ (b : Bool). IsTrue b) (sym (looked.each k d within).tells) (tell k d within)

  pub tell-back : (old new : List (Bay D g)) → AllTell new → AreLookedAt old new → AllTell old
  tell-back old new tell looked k d inside = subst (λ (b : Bool). IsTrue b) (looked.each k d inside).tells (tell k d (omega (arith, looked.count, inside)))

  -- and it is over the same store
  over-kept : (store : D) (old new : Bay D g) → IsLookedAt old new → IsOver store old → IsOver store new
  over-kept store old new looked over = record {
    tells = looked.tells ∙ over.tells;
    size = looked.size ∙ over.size;
    faults = rises-on (count_faults new.journal.items) _ _ _ (subst (λ (entries : List Entry). RisesByFaults entries (g.faults store) (g.faults old.store)) (ap (λ (v : _). v.items) (sym looked.journal)) over.faults) looked.faults;
  }

  pub overs-kept : (stores : List D) (old new : List (Bay D g)) → AreLookedAt old new → AreOver stores old → AreOver stores new
  overs-kept stores old new looked over k d e inside =
      let within : k < length old = omega (arith, looked.count, inside) in
      over-kept (get_or stores k d) (get_or old k e) (get_or new k e) (looked.each k e within) (over k d e within)

  -- a bay that was only looked at shows the same history
  bay-kept : (script : Script) (history : List Call) (at : ℕ) (old new : Bay D g) → IsLookedAt old new → BayShows script history at old → BayShows script history at new
  bay-kept script history at old new looked shows = record {
    told = λ tells.
        ap (λ (t : Table). with_blocks t (g.content new.store)) looked.slots
        ∙ ap (λ (blocks : List (List ℕ)). with_blocks old.slots blocks) looked.content
        ∙ shows.told (subst (λ (b : Bool). IsTrue b) looked.tells tells);
    clock = looked.clock ∙ shows.clock;
    entries = ap (λ (v : _). v.items) looked.journal ∙ shows.entries;
    rows = ap (λ (t : Table). length t.slots) looked.slots ∙ shows.rows;
    room = omega (arith, looked.cap, shows.room);
  }

  pub shows-kept : (script : Script) (history : List Call) (old new : List (Bay D g)) → AreLookedAt old new → EachAt (BayShows script history) old → EachAt (BayShows script history) new
  shows-kept script history old new looked shows = λ k d inside.
      let within : k < length old = omega (arith, looked.count, inside) in
      bay-kept script history k (get_or old k d) (get_or new k d) (looked.each k d within) (shows k d within)

  -- the cells of one row more
  pub rows-more : (old mid : List (Bay D g)) (k : ℕ) (before cells later : List (Option Cell)) → AreLookedAt old mid → cells ≡ before ++ cells_now k old → later ≡ cells ++ row_now mid (row_no k) →
      later ≡ before ++ cells_now (k + 1) old
  rows-more old mid k before cells later looked so_far next =
      let f : ℕ → List (Option Cell) = λ r. row_now old (row_no r) in
      next
      ∙ ap (λ (xs : List (Option Cell)). cells ++ xs) (row-kept old mid (row_no k) looked)
      ∙ ap (λ (xs : List (Option Cell)). xs ++ f k) so_far
      ∙ flat_map_more f before (range_with_len 0 k) k
      ∙ ap (λ (rs : List ℕ). before ++ flat_map f rs) (sym (range_more k))

pub one-row : (k n : ℕ) → (k + 1) * n ≡ k * n + n
one-row k n = omega arith

pub map-as-range : {X Y : Type 0} (f : X → Y) (h : ℕ → Y) (xs : List X) (a n : ℕ) → length xs ≡ n → ((k : ℕ) (d : X) → k < length xs → f (get_or xs k d) ≡ h (a + k)) → map f xs ≡ map h (range_with_len a n)
map-as-range f h [] a zero len same = refl
map-as-range f h [] a (suc n) len same = absurd (omega arith)
map-as-range f h (x ∷ xs) a zero len same = absurd (omega arith)
map-as-range f h (x ∷ xs) a (suc n) len same =
    let first : f x ≡ h a = same 0 x (omega arith) ∙ ap h (omega arith) in
    ap (λ y. y ∷ map f xs) first ∙ ap (λ ys. h a ∷ ys) (map-as-range f h xs (a + 1) n (omega arith) (λ k d inside. same (suc k) d (omega arith) ∙ ap h (omega arith)))

any-of-map : {X Y : Type 0} (p : Y → Bool) (f : X → Y) (xs : List X) → list_any p (map f xs) ≡ list_any (λ x. p (f x)) xs
any-of-map p f [] = refl
any-of-map p f (x ∷ xs) = ap (λ b. p (f x) || b) (any-of-map p f xs)

pub map-same : {X Y : Type 0} (f h : X → Y) (xs : List X) → ((x : X) → f x ≡ h x) → map f xs ≡ map h xs
map-same f h [] same = refl
map-same f h (x ∷ xs) same = ap (λ y. y ∷ map f xs) (same x) ∙ ap (λ ys. h x ∷ ys) (map-same f h xs same)

flat-same : {X Y : Type 0} (f h : X → List Y) (xs : List X) → ((x : X) → f x ≡ h x) → flat_map f xs ≡ flat_map h xs
flat-same f h [] same = refl
flat-same f h (x ∷ xs) same = ap (λ ys. ys ++ flat_map f xs) (same x) ∙ ap (λ ys. h x ++ ys) (flat-same f h xs same)

-- some number of a range passes a test
record Passes (f : ℕ → Bool) (n : ℕ) : Type 0 where
  at : ℕ
  inside : at < n
  passes : f at ≡ true

or-true : (a b : Bool) → (a || b) ≡ true → (a ≡ true) ⊎ (b ≡ true)
or-true true b e = inl refl
or-true false b e = inr e

or-left : (a b : Bool) → a ≡ true → (a || b) ≡ true
or-left true b e = refl
or-left false b e = cc

or-right : (a b : Bool) → b ≡ true → (a || b) ≡ true
or-right true b e = refl
or-right false b e = e

both-ways : (a b : Bool) → (a ≡ true → b ≡ true) → (b ≡ true → a ≡ true) → a ≡ b
both-ways true b there back = sym (there refl)
both-ways false true there back = back refl
both-ways false false there back = refl

range-passes : (f : ℕ → Bool) (a n : ℕ) → list_any f (range_with_len a n) ≡ true → Passes (λ k. f (a + k)) n
range-passes f a zero e = cc
range-passes f a (suc n) e = go (or-true (f a) (list_any f (range_with_len (a + 1) n)) e) (range-passes f (a + 1) n)
  where
    go : (f a ≡ true) ⊎ (list_any f (range_with_len (a + 1) n) ≡ true) → (list_any f (range_with_len (a + 1) n) ≡ true → Passes (λ k. f (a + 1 + k)) n) → Passes (λ k. f (a + k)) (suc n)
    go (inl t) later = record { at = 0; inside = omega arith; passes = ap f (omega arith) ∙ t }
    go (inr t) later = let p = later t in record { at = suc p.at; inside = omega (arith, p.inside); passes = ap f (omega arith) ∙ p.passes }

passes-range : (f : ℕ → Bool) (a n k : ℕ) → k < n → f (a + k) ≡ true → list_any f (range_with_len a n) ≡ true
passes-range f a zero k inside t = absurd (omega arith)
passes-range f a (suc n) zero inside t = or-left (f a) (list_any f (range_with_len (a + 1) n)) (ap f (omega arith) ∙ t)
passes-range f a (suc n) (suc k) inside t = or-right (f a) (list_any f (range_with_len (a + 1) n)) (passes-range f (a + 1) n k (omega arith) (ap f (omega arith) ∙ t))

-- a test that some bay of a row passes is one that some bay passes
pub any-bay : (f : BayNo → Bool) (n : ℕ) (row : RowNo) → 3 ≤ n → list_any (λ k. f (bay k)) (range_with_len 0 n) ≡ list_any f (row_bays n row)
any-bay f n row three =
    split (both-ways (list_any (λ k. f (bay k)) (range_with_len 0 n)) (has_unit || has_parity) there back)
  where
    has_unit : Bool
    has_unit = list_any (λ unit. f (bay_of n row unit)) (units n)

    has_parity : Bool
    has_parity = list_any f (parity_bay n row ∷ [])

    laid : IsLaidOut n row
    laid = laid_out n row three

    split : list_any (λ k. f (bay k)) (range_with_len 0 n) ≡ (has_unit || has_parity) → list_any (λ k. f (bay k)) (range_with_len 0 n) ≡ list_any f (row_bays n row)
    split e = e ∙ ap (λ b. b || has_parity) (sym (any-of-map f (bay_of n row) (units n))) ∙ sym (list_any-append f (bays_of n row (units n)) (parity_bay n row ∷ []))

    at-bay : (at : BayNo) → at.0 < n → f at ≡ true → list_any (λ k. f (bay k)) (range_with_len 0 n) ≡ true
    at-bay at inside t = passes-range (λ k. f (bay k)) 0 n at.0 inside (ap (λ (k : ℕ). f (bay k)) (omega arith) ∙ t)

    there : list_any (λ k. f (bay k)) (range_with_len 0 n) ≡ true → (has_unit || has_parity) ≡ true
    there e =
        let p = range-passes (λ k. f (bay k)) 0 n e in
        let t : f (bay p.at) ≡ true = ap (λ (k : ℕ). f (bay k)) (omega arith) ∙ p.passes in
        on (bay p.at) t (laid.covered (bay p.at) p.inside)
      where
        on : (at : BayNo) → f at ≡ true → (at ≡ parity_bay n row) ⊎ ((unit : ℕ) × HoldsUnit n row at unit) → (has_unit || has_parity) ≡ true
        on at t (inl is) = or-right has_unit has_parity (or-left (f (parity_bay n row)) false (ap f (sym is) ∙ t))
        on at t (inr u) = or-left has_unit has_parity (passes-range (λ unit. f (bay_of n row unit)) 0 (n - 1) u.0 u.1.unit_in (ap (λ (k : ℕ). f (bay_of n row k)) (omega arith) ∙ ap f u.1.stands ∙ t))

    back : (has_unit || has_parity) ≡ true → list_any (λ k. f (bay k)) (range_with_len 0 n) ≡ true
    back e = from (or-true has_unit has_parity e)
      where
        from : (has_unit ≡ true) ⊎ (has_parity ≡ true) → list_any (λ k. f (bay k)) (range_with_len 0 n) ≡ true
        from (inl d) =
            let p = range-passes (λ unit. f (bay_of n row unit)) 0 (n - 1) d in
            at-bay (bay_of n row p.at) (laid.units_in p.at p.inside) (ap (λ (k : ℕ). f (bay_of n row k)) (omega arith) ∙ p.passes)
        from (inr q) = at-bay (parity_bay n row) laid.parity_in (one (f (parity_bay n row)) q)
          where
            one : (b : Bool) → (b || false) ≡ true → b ≡ true
            one true e = refl
            one false e = e

module _ {D : Type 0} {g : Ghosts D} where
  -- what a bay has at a row is what the history has there
  slot-shown : (script : Script) (history : List Call) (bays : List (Bay D g)) (row : RowNo) (k : ℕ) (d : Bay D g) → ShowRows script history bays → k < length bays →
      slot_of (with_blocks (get_or bays k d).slots (g.content (get_or bays k d).store)) row ≡ slot_at script history (bay k) row
  slot-shown script history bays row k d show inside = ap (λ (b : BayState). slot_of b row) ((show.shows k d inside).told (show.told k d inside))

  pub row-shown : (script : Script) (history : List Call) (bays : List (Bay D g)) (row : RowNo) → ShowRows script history bays → row_now bays row ≡ row_after script history row
  row-shown script history bays row show =
      map-as-range (cell_now row) (λ at. cell_at script history row (bay at)) bays 0 script.n show.count
      (λ k d inside. ap (λ (s : Slot). s.cell) (slot-shown script history bays row k d show inside) ∙ ap (λ (at : ℕ). cell_at script history row (bay at)) (omega arith))

  pub open-shown : (script : Script) (history : List Call) (bays : List (Bay D g)) (row : RowNo) → ShowRows script history bays → is_open_now bays row ≡ is_open script history row
  open-shown script history bays row show =
      let note : BayNo → Bool = λ at. is_some (slot_at script history at row).note in
      sym (any-of-map (λ (b : Bool). b) (has_note row) bays)
      ∙ ap (list_any (λ (b : Bool). b)) (map-as-range (has_note row) (λ at. note (bay at)) bays 0 script.n show.count
      (λ k d inside. ap (λ (s : Slot). is_some s.note) (slot-shown script history bays row k d show inside) ∙ ap (λ (at : ℕ). note (bay at)) (omega arith)))
      ∙ any-of-map (λ (b : Bool). b) (λ (at : ℕ). note (bay at)) (range_with_len 0 script.n)
      ∙ any-bay note script.n row show.wide

  -- all rows that were read are those of the history
  pub after-all : (script : Script) (history : List Call) (bays : List (Bay D g)) (rows : ℕ) (cells_before cells : List (Option Cell)) (opened_before opened : List Bool) → ShowRows script history bays → rows ≡ script.rows →
      cells ≡ cells_before ++ cells_now rows bays → opened ≡ opened_before ++ opened_now rows bays →
      (cells ≡ cells_before ++ cells_after script history) × (opened ≡ opened_before ++ opened_after script history)
  after-all script history bays rows cells_before cells opened_before opened show all cells_are opened_are = (
    cells_are ∙ ap (λ (r : ℕ). cells_before ++ cells_now r bays) all
        ∙ ap (λ (xs : List (Option Cell)). cells_before ++ xs) (flat-same (λ k. row_now bays (row_no k)) (λ k. row_after script history (row_no k)) (range_with_len 0 script.rows) (λ k. row-shown script history bays (row_no k) show)),
    opened_are ∙ ap (λ (r : ℕ). opened_before ++ opened_now r bays) all
        ∙ ap (λ (xs : List Bool). opened_before ++ xs) (map-same (λ k. is_open_now bays (row_no k)) (λ k. is_open script history (row_no k)) (range_with_len 0 script.rows) (λ k. open-shown script history bays (row_no k) show)),
  )

read-block : {X : Type 0} (f : ℕ → List X) (n : ℕ) → ((k : ℕ) → length (f k) ≡ n) → (a rows row at : ℕ) (d : X) → row < rows → at < n →
    get_or (flat_map f (range_with_len a rows)) (row * n + at) d ≡ get_or (f (a + row)) at d
read-block f n long a zero row at d inside within = absurd (omega arith)
read-block f n long a (suc rows) zero at d inside within =
    let later = flat_map f (range_with_len (a + 1) rows) in
    ap (λ (i : ℕ). get_or (f a ++ later) i d) (omega arith) ∙ get_or_append_left (f a) later d at (omega (arith, long a)) ∙ ap (λ (k : ℕ). get_or (f k) at d) (omega arith)
read-block f n long a (suc rows) (suc row) at d inside within =
    let later = flat_map f (range_with_len (a + 1) rows) in
    let place : (suc row) * n + at ≡ length (f a) + (row * n + at) = omega (arith, long a, one-row row n) in
    ap (λ (i : ℕ). get_or (f a ++ later) i d) place
    ∙ get_or-append-add (f a) later (row * n + at) d
    ∙ read-block f n long (a + 1) rows row at d (omega arith) within
    ∙ ap (λ (k : ℕ). get_or (f k) at d) (omega arith)

-- the cells of a report are those of the history
pub cell-after : (script : Script) (history : List Call) (row : RowNo) (at : BayNo) → row.0 < script.rows → at.0 < script.n →
    cell_in script.n (cells_after script history) row at ≡ cell_at script history row at
cell-after script history row at inside within =
    read-block (λ k. row_after script history (row_no k)) script.n (λ k. length-map-range_with_len (λ b. cell_at script history (row_no k) (bay b)) 0 script.n) 0 script.rows row.0 at.0 None inside within
    ∙ ap (λ (k : ℕ). get_or (row_after script history (row_no k)) at.0 None) (omega arith)
    ∙ get_or-map-range_with_len (λ b. cell_at script history row (bay b)) 0 script.n at.0 at.0 None within (omega arith)

-- so are its open rows
pub opened-at : (script : Script) (history : List Call) (row : RowNo) → row.0 < script.rows → get_or (opened_after script history) row.0 false ≡ is_open script history row
opened-at script history row inside = get_or-map-range_with_len (λ k. is_open script history (row_no k)) 0 script.rows row.0 row.0 false inside (omega arith)

-- and what it shows of a unit
pub shown-after : (script : Script) (history : List Call) (row : RowNo) (unit : ℕ) → 3 ≤ script.n → row.0 < script.rows →
    shown_in script.n (cells_after script history) (opened_after script history) row unit ≡ shown_at script history row unit
shown-after script history row unit wide inside =
    shown-same script.n (cells_after script history) (opened_after script history) row unit (cell_at script history row) (is_open script history row) wide
    (λ at within. cell-after script history row at inside within) (opened-at script history row inside)

-- its closed rows are those that are not open
pub closed-after : (script : Script) (history : List Call) →
    map not (opened_after script history) ≡ map (λ k. not (is_open script history (row_no k))) (range_with_len 0 script.rows)
closed-after script history =
    closed-same (opened_after script history) script.rows (λ k. is_open script history (row_no k)) (length-map-range_with_len (λ k. is_open script history (row_no k)) 0 script.rows)
    (λ k inside. opened-at script history (row_no k) inside)
