-- The slots of the rows, as they are kept.
use Rattle.std.proofs.Common.{◌≡◌, ℕ, zero, suc, ◌+◌, ◌<◌, ◌==◌, Bool, true, false, List, [], ◌∷◌, length, map, replicate, Option, Some, None, is_some, slice_index_or, slice_set, refl, sym, ap, subst, ◌∙◌, arith}
use Rattle.std.proofs.lemmas.Bool.Decides.{nat_tests}
use Rattle.raid_base.specs.declared.numbers.Number.{Number}
use Rattle.raid_base.specs.declared.numbers.RowNo.{RowNo}
use Rattle.raid_base.specs.declared.cells.Cell.{Cell}
use Rattle.raid_base.specs.declared.messages.Ask.{Ask}
use Rattle.raid_base.specs.declared.messages.Reply.{Reply}
use Rattle.slot_rules.specs.declared.slot.BayState.{BayState}
use Rattle.raid_base.specs.Numbers.{number}
use Rattle.slot_rules.specs.declared.opened.Open.{Open}
use Rattle.slot_rules.specs.declared.slot.SlotState.{SlotState}
use Rattle.slot_rules.specs.declared.slots.RowState.{RowState}
use Rattle.slot_rules.specs.Slots.{Slot}
use Rattle.slot_rules.specs.Tables.{Table, Kept, kept_slot, closed, is_open, first_kept, bare_kept, cell_of, with_block, bay_of}
use Rattle.slot_rules.specs.Opens.{Lists, ListsOpen, is_open_at, is_open_row, open_part, slot_in, first_row, row_after, slots_kept, RowKeeps, Keeping}
use Rattle.slot_rules.specs.Parts.{ServedSlot, ServedRow, block_left, table_lost, table_fitted}
use Rattle.slot_rules.specs.Rules.{raised}
use Rattle.slot_rules.proofs.TableParts.{served-row}
use Rattle.slot_rules.proofs.SlotLeaves.{Leaves, leaves}

pub kept-length : (life : ℕ) (empty : Bool) (bare : Number) (rows : List RowState) (opens : List Open) → Keeping life empty rows opens →
    (length (slots_kept life bare rows opens) ≡ length rows) × (length opens ≡ length rows)
kept-length life empty bare [] [] k = (refl, refl)
kept-length life empty bare [] (o ∷ opens) k = absurd k
kept-length life empty bare (r ∷ rows) [] k = absurd k
kept-length life empty bare (r ∷ rows) (o ∷ opens) k = let rest = kept-length life empty bare rows opens k.1 in (ap suc rest.0, ap suc rest.1)

-- the slot of a row
pub kept-at : (life : ℕ) (empty : Bool) (bare : Number) (rows : List RowState) (opens : List Open) (row : ℕ) (d : Kept) (e : RowState) (o : Open) → Keeping life empty rows opens → row < length rows →
    slice_index_or (slots_kept life bare rows opens) row d ≡ kept_slot (slot_in life bare (slice_index_or rows row e)) (slice_index_or opens row o)
kept-at life empty bare [] opens row d e o k l = absurd (omega arith)
kept-at life empty bare (r ∷ rows) [] row d e o k l = absurd k
kept-at life empty bare (r ∷ rows) (p ∷ opens) zero d e o k l = refl
kept-at life empty bare (r ∷ rows) (p ∷ opens) (suc row) d e o k l = kept-at life empty bare rows opens row d e o k.1 (omega arith)

pub keeping-at : (life : ℕ) (empty : Bool) (rows : List RowState) (opens : List Open) (row : ℕ) (e : RowState) (o : Open) → Keeping life empty rows opens → row < length rows →
    RowKeeps life empty (slice_index_or rows row e) (slice_index_or opens row o)
keeping-at life empty [] opens row e o k l = absurd (omega arith)
keeping-at life empty (r ∷ rows) [] row e o k l = absurd k
keeping-at life empty (r ∷ rows) (p ∷ opens) zero e o k l = k.0
keeping-at life empty (r ∷ rows) (p ∷ opens) (suc row) e o k l = keeping-at life empty rows opens row e o k.1 (omega arith)

-- one row changes
pub keeping-set : (life : ℕ) (empty : Bool) (rows : List RowState) (opens : List Open) (row : ℕ) (r : RowState) (o : Open) → Keeping life empty rows opens → row < length rows → RowKeeps life empty r o →
    Keeping life empty (slice_set rows row r) (slice_set opens row o)
keeping-set life empty [] opens row r o k l h = absurd (omega arith)
keeping-set life empty (s ∷ rows) [] row r o k l h = absurd k
keeping-set life empty (s ∷ rows) (p ∷ opens) zero r o k l h = (h, k.1)
keeping-set life empty (s ∷ rows) (p ∷ opens) (suc row) r o k l h = (k.0, keeping-set life empty rows opens row r o k.1 (omega arith) h)

pub kept-set : (life : ℕ) (empty : Bool) (bare : Number) (rows : List RowState) (opens : List Open) (row : ℕ) (r : RowState) (o : Open) → Keeping life empty rows opens → row < length rows →
    slots_kept life bare (slice_set rows row r) (slice_set opens row o) ≡ slice_set (slots_kept life bare rows opens) row (kept_slot (slot_in life bare r) o)
kept-set life empty bare [] opens row r o k l = absurd (omega arith)
kept-set life empty bare (s ∷ rows) [] row r o k l = absurd k
kept-set life empty bare (s ∷ rows) (p ∷ opens) zero r o k l = refl
kept-set life empty bare (s ∷ rows) (p ∷ opens) (suc row) r o k l = ap (λ (t : List Kept). kept_slot (slot_in life bare s) p ∷ t) (kept-set life empty bare rows opens row r o k.1 (omega arith))

blank_in : (life : ℕ) (bare : Number) (r : RowState) → (r.life == life) ≡ false → slot_in life bare r ≡ record { mark = None; read_no = bare; write_no = bare; last = number 0 }
blank_in life bare r e = rw e refl

-- all rows at the start
pub keeping-first : (n : ℕ) → Keeping 0 false (replicate n first_row) (replicate n closed)
keeping-first zero = tt
keeping-first (suc n) = (record { early = omega arith; gone = λ h. absurd (let bad : false ≡ true = h in cc); bare = λ h. refl }, keeping-first n)

pub kept-first : (n : ℕ) → slots_kept 0 (number 0) (replicate n first_row) (replicate n closed) ≡ replicate n first_kept
kept-first zero = refl
kept-first (suc n) = ap (λ (t : List Kept). first_kept ∷ t) (kept-first n)

-- the device is lost: what was put in an earlier life is blank
pub keeping-lost : (life : ℕ) (empty : Bool) (rows : List RowState) (opens : List Open) → Keeping life empty rows opens → Keeping (life + 1) true rows (map (λ (o : Open). closed) opens)
keeping-lost life empty [] [] k = tt
keeping-lost life empty [] (o ∷ opens) k = absurd k
keeping-lost life empty (r ∷ rows) [] k = absurd k
keeping-lost life empty (r ∷ rows) (o ∷ opens) k =
    let early = k.0.early in
    (record { early = omega arith; gone = λ h. (omega arith, refl); bare = λ h. refl }, keeping-lost life empty rows opens k.1)

pub kept-lost : (life : ℕ) (empty : Bool) (bare : Number) (rows : List RowState) (opens : List Open) → Keeping life empty rows opens →
    slots_kept (life + 1) (number 0) rows (map (λ (o : Open). closed) opens) ≡ map (λ (s : Kept). bare_kept (number 0)) (slots_kept life bare rows opens)
kept-lost life empty bare [] [] k = refl
kept-lost life empty bare [] (o ∷ opens) k = absurd k
kept-lost life empty bare (r ∷ rows) [] k = absurd k
kept-lost life empty bare (r ∷ rows) (o ∷ opens) k =
    let early = k.0.early in
    let other : (r.life == (life + 1)) ≡ false = grind (arith, nat_tests) in
    ap (λ (s : SlotState). kept_slot s closed ∷ slots_kept (life + 1) (number 0) rows (map (λ (p : Open). closed) opens)) (blank_in (life + 1) (number 0) r other)
    ∙ ap (λ (t : List Kept). bare_kept (number 0) ∷ t) (kept-lost life empty bare rows opens k.1)

-- a device is fitted: all slots are blank, and nothing is open
pub keeping-fitted : (life : ℕ) (rows : List RowState) (opens : List Open) → Keeping life true rows opens → Keeping life false rows opens
keeping-fitted life [] [] k = tt
keeping-fitted life [] (o ∷ opens) k = absurd k
keeping-fitted life (r ∷ rows) [] k = absurd k
keeping-fitted life (r ∷ rows) (o ∷ opens) k =
    (record { early = k.0.early; gone = λ h. absurd (let bad : false ≡ true = h in cc); bare = k.0.bare }, keeping-fitted life rows opens k.1)

pub kept-fitted : (life : ℕ) (bare high : Number) (rows : List RowState) (opens : List Open) → Keeping life true rows opens →
    slots_kept life high rows opens ≡ map (λ (s : Kept). bare_kept high) (slots_kept life bare rows opens)
kept-fitted life bare high [] [] k = refl
kept-fitted life bare high [] (o ∷ opens) k = absurd k
kept-fitted life bare high (r ∷ rows) [] k = absurd k
kept-fitted life bare high (r ∷ rows) (o ∷ opens) k =
    let gone = k.0.gone refl in
    let early = gone.0 in
    let other : (r.life == life) ≡ false = grind (arith, nat_tests) in
    ap (λ (s : SlotState). kept_slot s o ∷ slots_kept life high rows opens) (blank_in life high r other)
    ∙ ap (λ (p : Open). kept_slot (record { mark = None; read_no = high; write_no = high; last = number 0 }) p ∷ slots_kept life high rows opens) gone.1
    ∙ ap (λ (t : List Kept). bare_kept high ∷ t) (kept-fitted life bare high rows opens k.1)

some_cell : (mark : Option ℕ) (block : List ℕ) → is_some (cell_of mark block) ≡ is_some mark
some_cell None block = refl
some_cell (Some lost) block = refl

-- the row after its slot was served: what the rule leaves of it is kept
pub record Stays (life : ℕ) (empty : Bool) (bare : Number) (row : RowState) (slot : SlotState) (opened : Open) : Type 0 where
  pub kept : slot_in life bare row ≡ slot
  pub keeps : RowKeeps life empty row opened

-- a slot of this mark has a cell, or none
marked : (slot : SlotState) (opened : Open) (block : List ℕ) (mark : Option ℕ) → slot.mark ≡ mark → is_some (with_block (kept_slot slot opened) block).cell ≡ is_some mark
marked slot opened block mark m = some_cell slot.mark block ∙ ap (λ (x : Option ℕ). is_some x) m

there_in : (life : ℕ) (bare : Number) (r : RowState) → (r.life == life) ≡ true → (slot_in life bare r).mark ≡ Some r.mark
there_in life bare r e = rw e refl

blank_mark : (life : ℕ) (bare : Number) (r : RowState) → (r.life == life) ≡ false → (slot_in life bare r).mark ≡ None
blank_mark life bare r e = ap (λ (s : SlotState). s.mark) (blank_in life bare r e)

same_life : (life : ℕ) → (life == life) ≡ true
same_life life = grind (arith, nat_tests)

put_in : (life mark : ℕ) (bare : Number) (slot : SlotState) → slot.mark ≡ Some mark →
    slot_in life bare (record { life = life; mark = mark; read_no = slot.read_no; write_no = slot.write_no; last = slot.last }) ≡ slot
put_in life mark bare slot m =
    let same = same_life life in
    rw same (ap (λ (x : Option ℕ). let s : SlotState = record { mark = x; read_no = slot.read_no; write_no = slot.write_no; last = slot.last } in s) (sym m))

-- without a device what is left of a row is blank, and nothing is open on it
gone_left : (life : ℕ) (empty : Bool) (bare : Number) (r : RowState) (slot : SlotState) (o opened : Open) (after : List ℕ) → RowKeeps life empty r o →
    Leaves empty (with_block (kept_slot (slot_in life bare r) o) []) (with_block (kept_slot slot opened) after) → empty ≡ true →
    with_block (kept_slot slot opened) after ≡ with_block (kept_slot (slot_in life bare r) o) []
gone_left life empty bare r slot o opened after k leaves e =
    let gone = k.gone e in
    let early = gone.0 in
    let other : (r.life == life) ≡ false = grind (arith, nat_tests) in
    leaves.gone e (marked (slot_in life bare r) o [] None (blank_mark life bare r other)) (ap (λ (x : Open). x.note) gone.1) (ap (λ (x : Open). x.readers) gone.1)

gone_put : (life : ℕ) (empty : Bool) (bare : Number) (r : RowState) (slot : SlotState) (o opened : Open) (after : List ℕ) (mark : ℕ) → slot.mark ≡ Some mark → RowKeeps life empty r o →
    Leaves empty (with_block (kept_slot (slot_in life bare r) o) []) (with_block (kept_slot slot opened) after) → empty ≡ true → ⊥
gone_put life empty bare r slot o opened after mark m k leaves e =
    let gone = k.gone e in
    let early = gone.0 in
    let other : (r.life == life) ≡ false = grind (arith, nat_tests) in
    let same = gone_left life empty bare r slot o opened after k leaves e in
    let bad : true ≡ false = sym (marked slot opened after (Some mark) m) ∙ ap (λ (s : Slot). is_some s.cell) same ∙ marked (slot_in life bare r) o [] None (blank_mark life bare r other) in
    absurd cc

stays_put : (life : ℕ) (empty : Bool) (bare : Number) (r : RowState) (slot : SlotState) (o opened : Open) (after : List ℕ) (mark : ℕ) → slot.mark ≡ Some mark → RowKeeps life empty r o →
    Leaves empty (with_block (kept_slot (slot_in life bare r) o) []) (with_block (kept_slot slot opened) after) →
    Stays life empty bare (record { life = life; mark = mark; read_no = slot.read_no; write_no = slot.write_no; last = slot.last }) slot opened
stays_put life empty bare r slot o opened after mark m k leaves = record {
  kept = put_in life mark bare slot m;
  keeps = record {
    early = omega arith;
    gone = λ e. absurd (gone_put life empty bare r slot o opened after mark m k leaves e);
    bare = λ e. absurd (let bad : true ≡ false = sym (same_life life) ∙ e in cc);
  };
}

closed_left : (life : ℕ) (empty : Bool) (bare : Number) (r : RowState) (slot : SlotState) (o opened : Open) (after : List ℕ) → RowKeeps life empty r o →
    Leaves empty (with_block (kept_slot (slot_in life bare r) o) []) (with_block (kept_slot slot opened) after) → empty ≡ true → opened ≡ closed
closed_left life empty bare r slot o opened after k leaves e =
    let same = gone_left life empty bare r slot o opened after k leaves e in
    ap (λ (s : Slot). let x : Open = record { note = s.note; readers = s.readers } in x) same ∙ (k.gone e).1

stays_blank : (life : ℕ) (empty : Bool) (bare : Number) (r : RowState) (slot : SlotState) (o opened : Open) (after : List ℕ) (b : Bool) → (r.life == life) ≡ b → slot.mark ≡ None → RowKeeps life empty r o →
    Leaves empty (with_block (kept_slot (slot_in life bare r) o) []) (with_block (kept_slot slot opened) after) → Stays life empty bare r slot opened
stays_blank life empty bare r slot o opened after true e m k leaves =
    let still : is_some (with_block (kept_slot slot opened) after).cell ≡ true = leaves.there (marked (slot_in life bare r) o [] (Some r.mark) (there_in life bare r e)) in
    absurd (let bad : true ≡ false = sym still ∙ marked slot opened after None m in cc)
stays_blank life empty bare r slot o opened after false e m k leaves =
    let none : is_some (with_block (kept_slot (slot_in life bare r) o) []).cell ≡ false = marked (slot_in life bare r) o [] None (blank_mark life bare r e) in
    let alone : o.readers ≡ [] = k.bare e in
    let numbers = leaves.numbers none alone (marked slot opened after None m) in
    let blank = blank_in life bare r e in
    record {
      kept =
          blank
          ∙ ap (λ (n : Number). let s : SlotState = record { mark = None; read_no = n; write_no = bare; last = number 0 } in s) (sym (numbers.0 ∙ ap (λ (s : SlotState). s.read_no) blank))
          ∙ ap (λ (n : Number). let s : SlotState = record { mark = None; read_no = slot.read_no; write_no = n; last = number 0 } in s) (sym (numbers.1 ∙ ap (λ (s : SlotState). s.write_no) blank))
          ∙ ap (λ (n : Number). let s : SlotState = record { mark = None; read_no = slot.read_no; write_no = slot.write_no; last = n } in s) (sym (numbers.2 ∙ ap (λ (s : SlotState). s.last) blank))
          ∙ ap (λ (x : Option ℕ). let s : SlotState = record { mark = x; read_no = slot.read_no; write_no = slot.write_no; last = slot.last } in s) (sym m);
      keeps = record {
        early = k.early;
        gone = λ h. ((k.gone h).0, closed_left life empty bare r slot o opened after k leaves h);
        bare = λ h. leaves.alone none alone;
      };
    }

stays_by : (life : ℕ) (empty : Bool) (bare : Number) (r : RowState) (slot : SlotState) (o opened : Open) (after : List ℕ) (mark : Option ℕ) → slot.mark ≡ mark → RowKeeps life empty r o →
    Leaves empty (with_block (kept_slot (slot_in life bare r) o) []) (with_block (kept_slot slot opened) after) → Stays life empty bare (row_after life mark slot r) slot opened
stays_by life empty bare r slot o opened after None m k leaves = stays_blank life empty bare r slot o opened after _ refl m k leaves
stays_by life empty bare r slot o opened after (Some mark) m k leaves = stays_put life empty bare r slot o opened after mark m k leaves

pub stays : (life : ℕ) (empty : Bool) (bare : Number) (r : RowState) (slot : SlotState) (o opened : Open) (after : List ℕ) → RowKeeps life empty r o →
    Leaves empty (with_block (kept_slot (slot_in life bare r) o) []) (with_block (kept_slot slot opened) after) → Stays life empty bare (row_after life slot.mark slot r) slot opened
stays life empty bare r slot o opened after k leaves = stays_by life empty bare r slot o opened after slot.mark refl k leaves

-- the same from what was served
pub served-stays : (state : BayState) (bare : Number) (r : RowState) (slot : SlotState) (o opened : Open) (ask : Ask) (cell : Option Cell) (reply : Reply) → RowKeeps state.life state.empty r o →
    ServedSlot state ask cell (kept_slot (slot_in state.life bare r) o) reply (kept_slot slot opened) → Stays state.life state.empty bare (row_after state.life slot.mark slot r) slot opened
served-stays state bare r slot o opened ask cell reply k served =
    stays state.life state.empty bare r slot o opened (block_left ask.what o.note []) k
    (subst (λ (s : Slot). Leaves state.empty (with_block (kept_slot (slot_in state.life bare r) o) []) s) (sym (served [] []).1)
    (leaves (bay_of state []) (with_block (kept_slot (slot_in state.life bare r) o) []) ask false ask.what))

-- the rows that are open, seen by their slots
test_same : (life : ℕ) (empty : Bool) (bare : Number) (rows : List RowState) (opens : List Open) (row : RowNo) → Keeping life empty rows opens → row.0 < length rows →
    is_open_row (slots_kept life bare rows opens) row ≡ is_open_at opens row
test_same life empty bare rows opens row k l =
    ap (λ (s : Kept). is_open (open_part s)) (kept-at life empty bare rows opens row.0 (bare_kept (number 0)) first_row closed k l)

pub lists-slots : (life : ℕ) (empty : Bool) (bare : Number) (rows : List RowState) (opens : List Open) (order : List RowNo) → Keeping life empty rows opens →
    Lists order (length opens) (is_open_at opens) → ListsOpen order (slots_kept life bare rows opens)
lists-slots life empty bare rows opens order k lists =
    let size = kept-length life empty bare rows opens k in
    record {
      once = lists.once;
      only = λ j row h. let is = lists.only j row h in let low = is.0 in (omega (arith, size.0, size.1), test_same life empty bare rows opens row k (omega (arith, size.1)) ∙ is.1);
      all = λ row l h. lists.all row (omega (arith, size.0, size.1)) (sym (test_same life empty bare rows opens row k (omega (arith, size.0))) ∙ h);
    }

-- the device of a bay is lost
pub lost-is : (state : BayState) (bare : Number) (rows : List RowState) (opens left : List Open) (order bared : List RowNo) → Keeping state.life state.empty rows opens → state.empty ≡ false →
    left ≡ map (λ (o : Open). closed) opens → bared ≡ [] →
    (let t : Table = record { state = record state { empty = true; life = state.life + 1 }; slots = slots_kept (state.life + 1) (number 0) rows left; order = bared } in t)
    ≡ table_lost (record { state = state; slots = slots_kept state.life bare rows opens; order = order })
lost-is state bare rows opens left order bared k e l b =
    rw e
    (ap (λ (o : List RowNo). let t : Table = record { state = record state { empty = true; life = state.life + 1 }; slots = slots_kept (state.life + 1) (number 0) rows left; order = o } in t) b
    ∙ ap (λ (s : List Kept). let t : Table = record { state = record state { empty = true; life = state.life + 1 }; slots = s; order = [] } in t)
    (ap (λ (os : List Open). slots_kept (state.life + 1) (number 0) rows os) l ∙ kept-lost state.life state.empty bare rows opens k))

-- a device is fitted to it
pub fitted-is : (state : BayState) (bare : Number) (rows : List RowState) (opens : List Open) (order : List RowNo) → Keeping state.life state.empty rows opens → state.empty ≡ true →
    (let t : Table = record { state = record state { empty = false }; slots = slots_kept state.life state.high rows opens; order = order } in t)
    ≡ table_fitted (record { state = state; slots = slots_kept state.life bare rows opens; order = order })
fitted-is state bare rows opens order k e =
    rw e
    (ap (λ (s : List Kept). let t : Table = record { state = record state { empty = false }; slots = s; order = order } in t)
    (kept-fitted state.life bare state.high rows opens (subst (λ b. Keeping state.life b rows opens) e k)))

-- what is kept after a row was served
pub record KeptServed (state : BayState) (bare : Number) (rows : List RowState) (opens opens' : List Open) (order order' : List RowNo) (row : RowNo) (ask : Ask) (cell : Option Cell) (reply : Reply) (slot : SlotState) (r : RowState) (high : Number) : Type 0 where
  pub keeping : Keeping state.life state.empty (slice_set rows row.0 (row_after state.life slot.mark slot r)) opens'
  pub served :
      ServedRow row ask cell (record { state = state; slots = slots_kept state.life bare rows opens; order = order }) reply
      (record { state = record state { high = high }; slots = slots_kept state.life bare (slice_set rows row.0 (row_after state.life slot.mark slot r)) opens'; order = order' })

pub kept-served : (state : BayState) (bare : Number) (rows : List RowState) (opens opens' : List Open) (order order' : List RowNo) (row : RowNo) (ask : Ask) (cell : Option Cell) (reply : Reply) (slot : SlotState) (r : RowState) (high : Number) →
    Keeping state.life state.empty rows opens → row.0 < length rows → r ≡ slice_index_or rows row.0 r → opens' ≡ slice_set opens row.0 (slice_index_or opens' row.0 closed) →
    ServedSlot state ask cell (kept_slot (slot_in state.life bare r) (slice_index_or opens row.0 closed)) reply (kept_slot slot (slice_index_or opens' row.0 closed)) →
    high ≡ raised (raised state.high (slot_in state.life bare r).read_no slot.read_no) (slot_in state.life bare r).write_no slot.write_no →
    KeptServed state bare rows opens opens' order order' row ask cell reply slot r high
kept-served state bare rows opens opens' order order' row ask cell reply slot r high k l e same served h =
    let o = slice_index_or opens row.0 closed in
    let p = slice_index_or opens' row.0 closed in
    let size = kept-length state.life state.empty bare rows opens k in
    let old : Table = record { state = state; slots = slots_kept state.life bare rows opens; order = order } in
    let mine : RowKeeps state.life state.empty r o = subst (λ (x : RowState). RowKeeps state.life state.empty x o) (sym e) (keeping-at state.life state.empty rows opens row.0 r closed k l) in
    let after = row_after state.life slot.mark slot r in
    let stays : Stays state.life state.empty bare after slot p = served-stays state bare r slot o p ask cell reply mine served in
    let before : Kept = kept_slot (slot_in state.life bare r) o in
    let read : before ≡ slice_index_or old.slots row.0 before =
    ap (λ (x : RowState). kept_slot (slot_in state.life bare x) o) e ∙ sym (kept-at state.life state.empty bare rows opens row.0 before r closed k l) in
    let slots : slots_kept state.life bare (slice_set rows row.0 after) opens' ≡ slice_set old.slots row.0 (kept_slot slot p) =
    ap (λ (os : List Open). slots_kept state.life bare (slice_set rows row.0 after) os) same
    ∙ kept-set state.life state.empty bare rows opens row.0 after p k l
    ∙ ap (λ (s : SlotState). slice_set old.slots row.0 (kept_slot s p)) stays.kept in
    record {
      keeping = subst (λ (os : List Open). Keeping state.life state.empty (slice_set rows row.0 after) os) (sym same) (keeping-set state.life state.empty rows opens row.0 after p k l stays.keeps);
      served =
          subst (λ (s : List Kept). ServedRow row ask cell old reply (record { state = record state { high = high }; slots = s; order = order' })) (sym slots)
          (served-row old row ask cell before (kept_slot slot p) reply high order' (omega (arith, size.0)) read served h);
    }
