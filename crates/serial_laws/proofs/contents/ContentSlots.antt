-- What a call does to the cell of a slot, and which calls put a parity.
use Rattle.std.proofs.Common.{◌≡◌, refl, sym, ap, ◌∙◌, ℕ, ◌<◌, ◌==◌, true, false, is_some, List, ◌∷◌, Option, Some, None, arith}
use Rattle.std.proofs.lemmas.Bool.{eq-eqb}
use Rattle.std.proofs.lemmas.Bool.Decides.{nat_tests}
use Rattle.std.proofs.lemmas.Bool.{and_parts}
use Rattle.raid_base.specs.declared.numbers.BayNo.{BayNo}
use Rattle.raid_base.specs.declared.numbers.RowNo.{RowNo}
use Rattle.raid_base.specs.declared.numbers.Number.{Number}
use Rattle.raid_base.specs.declared.cells.Cell.{Cell}
use Rattle.raid_base.specs.declared.messages.Ask.{Ask}
use Rattle.raid_base.specs.declared.messages.Call.{Call}
use Rattle.raid_base.specs.declared.messages.Reply.{Reply}
use Rattle.raid_base.specs.declared.messages.Reply.TheVariants.{Granted, Busy, Late, Young, Missing, Held, NoNote, Done, Fault, Emptied, Fitted as FittedReply}
use Rattle.raid_base.specs.declared.messages.Request.{Request}
use Rattle.raid_base.specs.declared.messages.Request.TheVariants.{Share, Claim, Confirm, Put, Release, Lose, Fit}
use Rattle.stripe_layout.specs.Placement.{parity_bay}
use Rattle.slot_rules.specs.Slots.{Slot, Bay}
use Rattle.slot_rules.specs.Rules.{note_id}
use Rattle.slot_rules.specs.Laws.{is_refused}
use Rattle.script_text.specs.Script.{Script}
use Rattle.script_text.specs.Ranges.{IsScript}
use Rattle.histories.specs.Calls.{row_of, write_of, is_row, is_at, IsDone}
use Rattle.histories.specs.History.{IsNext, bay_at}
use Rattle.histories.specs.RowStates.{slot_at, cell_at}
use Rattle.row_laws.specs.Holding.{HasNote}
use Rattle.serial_laws.specs.Contents.{is_parity_put}
use Rattle.row_laws.proofs.hands.SlotMoves.{SlotMove, Kept, Touched, Lost, Fitted, moved}
use Rattle.row_laws.proofs.hands.SlotDoes.{Does, Refuses, Closes, Grants, Shows, Holds, Puts, Frees, Leaves}
use Rattle.row_laws.proofs.owners.RowOwnersSlots.{does-at}
use Rattle.row_laws.proofs.owners.RowOwnersCalls.{noted-by, noted-has}
use Rattle.row_laws.proofs.owners.OwnedPuts.{put-noted}
use Rattle.serial_laws.proofs.contents.ContentChanges.{both-true}

-- what a call does to a cell
pub data CellTurn (old : Option Cell) (at : BayNo) (row : RowNo) (call : Call) (new : Option Cell) : Type 0 where
  Same : (now : new ≡ old) → CellTurn old at row call new
  Bare : (now : new ≡ None) → CellTurn old at row call new
  Filled : (place : call.bay ≡ at) (id k : Number) (cell : Cell) (what : call.ask.what ≡ Put row id k cell) (done : IsDone call) (now : new ≡ Some cell) → CellTurn old at row call new

module _ (bay : Bay) (slot : Slot) (at : BayNo) (row : RowNo) (call : Call) where
  cell-does : (what : Request) (reply : Reply) (left : Slot) → Does bay call.ask slot what reply left → call.ask.what ≡ what → row_of what ≡ Some row → call.answer.reply ≡ reply → call.bay ≡ at →
      CellTurn slot.cell at row call left.cell
  cell-does what reply left (Refuses r refused missing) e of answered place = Same refl
  cell-does what reply left (Closes there none) e of answered place = Bare none
  cell-does what reply left (Grants claims) e of answered place = Same (ap (λ (s : Slot). s.cell) claims.left)
  cell-does what reply left (Shows shares) e of answered place = Same shares.cell_kept
  cell-does what reply left (Holds own) e of answered place = Same refl
  cell-does what reply left (Puts {row = r} {id} {n} {cell} own) e of answered place =
      let here : r ≡ row = cc in
      Filled place id n cell (e ∙ ap (λ (x : RowNo). Put x id n cell) here) answered refl
  cell-does what reply left (Frees own) e of answered place = Same refl
  cell-does what reply left (Leaves free reader found) e of answered place = Same refl

-- a put that is done leaves its cell
put-left : (bay : Bay) (ask : Ask) (slot : Slot) (row : RowNo) (id n : Number) (cell : Cell) (what : Request) (reply : Reply) (left : Slot) → Does bay ask slot what reply left → what ≡ Put row id n cell → reply ≡ Done →
    left.cell ≡ Some cell
put-left bay ask slot row id n cell what reply left (Refuses r refused missing) is done = absurd (let bad : false ≡ true = ap is_refused (sym done) ∙ refused in cc)
put-left bay ask slot row id n cell what reply left (Closes there none) is done = absurd (cc)
put-left bay ask slot row id n cell what reply left (Grants claims) is done = absurd (cc)
put-left bay ask slot row id n cell what reply left (Shows shares) is done = absurd (cc)
put-left bay ask slot row id n cell what reply left (Holds own) is done = absurd (cc)
put-left bay ask slot row id n cell what reply left (Puts {row = r} {id = by} {n = m} {cell = c} own) is done =
    let both : Put r by m c ≡ Put row id n cell = is in let same : c ≡ cell = cc in ap (λ (x : Cell). Some x) same
put-left bay ask slot row id n cell what reply left (Frees own) is done = absurd (cc)
put-left bay ask slot row id n cell what reply left (Leaves free reader found) is done = absurd (cc)

put-at : (at : BayNo) (row : RowNo) (call : Call) (id k : Number) (cell : Cell) → call.bay ≡ at → call.ask.what ≡ Put row id k cell → is_at at row call ≡ true
put-at at row call id k cell place what =
    both-true (call.bay.0 == at.0) (is_row row (row_of call.ask.what)) (eq-eqb call.bay.0 at.0 (ap (λ (b : BayNo). b.0) place))
    (ap (λ (w : Request). is_row row (row_of w)) what ∙ eq-eqb row.0 row.0 refl)

module _ (script : Script) (is : IsScript script) (earlier : List Call) (call : Call) (next : IsNext script earlier call) (at : BayNo) (row : RowNo) (below : row.0 < script.rows) where
  pub cell-turned : CellTurn (cell_at script earlier row at) at row call (cell_at script (call ∷ earlier) row at)
  cell-turned = by (moved script is earlier call next at row below)
    where
      by : SlotMove (bay_at script at earlier) at row call (bay_at script at (call ∷ earlier)) → CellTurn (cell_at script earlier row at) at row call (cell_at script (call ∷ earlier) row at)
      by (Kept slot empty life apart) = Same (ap (λ (s : Slot). s.cell) slot)
      by (Touched place of reply slot empty life) =
          cell-does (bay_at script at earlier) (slot_at script earlier at row) at row call call.ask.what call.answer.reply (slot_at script (call ∷ earlier) at row)
          (does-at script is earlier call next at row below of reply slot) refl of refl place
      by (Lost place what was slot empty life) = Bare (ap (λ (s : Slot). s.cell) slot)
      by (Fitted place what was slot empty life) = Bare (ap (λ (s : Slot). s.cell) slot)

  pub put-filled : (id k : Number) (cell : Cell) → call.bay ≡ at → call.ask.what ≡ Put row id k cell → IsDone call → cell_at script (call ∷ earlier) row at ≡ Some cell
  put-filled id k cell place what done = by (moved script is earlier call next at row below)
    where
      by : SlotMove (bay_at script at earlier) at row call (bay_at script at (call ∷ earlier)) → cell_at script (call ∷ earlier) row at ≡ Some cell
      by (Kept slot empty life apart) = absurd (let bad : true ≡ false = sym (put-at at row call id k cell place what) ∙ apart in cc)
      by (Touched at_bay of reply slot empty life) =
          put-left (bay_at script at earlier) call.ask (slot_at script earlier at row) row id k cell call.ask.what call.answer.reply (slot_at script (call ∷ earlier) at row)
          (does-at script is earlier call next at row below of reply slot) what done
      by (Lost at_bay lost was slot empty life) = absurd (let bad : Lose ≡ Put row id k cell = sym lost ∙ what in cc)
      by (Fitted at_bay fitted was slot empty life) = absurd (let bad : Fit ≡ Put row id k cell = sym fitted ∙ what in cc)

  -- and found a note with its id
  pub noted-at : (id k : Number) (cell : Cell) → call.bay ≡ at → call.ask.what ≡ Put row id k cell → IsDone call → HasNote id (slot_at script earlier at row).note
  noted-at id k cell place what done = noted-has (slot_at script earlier at row).note id (noted-by (slot_at script earlier at row).note id (by (moved script is earlier call next at row below)))
    where
      by : SlotMove (bay_at script at earlier) at row call (bay_at script at (call ∷ earlier)) → note_id (slot_at script earlier at row).note id ≡ true
      by (Kept slot empty life apart) = absurd (let bad : true ≡ false = sym (put-at at row call id k cell place what) ∙ apart in cc)
      by (Touched at_bay of reply slot empty life) =
          put-noted (bay_at script at earlier) call.ask (slot_at script earlier at row) row id k cell call.ask.what call.answer.reply (slot_at script (call ∷ earlier) at row)
          (does-at script is earlier call next at row below of reply slot) what done
      by (Lost at_bay lost was slot empty life) = absurd (let bad : Lose ≡ Put row id k cell = sym lost ∙ what in cc)
      by (Fitted at_bay fitted was slot empty life) = absurd (let bad : Fit ≡ Put row id k cell = sym fitted ∙ what in cc)

-- A put of a parity that is done
pub record ParityPut (n : ℕ) (row : RowNo) (call : Call) : Type 0 where
  pub id : Number
  pub number : Number
  pub cell : Cell
  pub place : call.bay ≡ parity_bay n row
  pub what : call.ask.what ≡ Put row id number cell
  pub done : IsDone call

pub parity-put : (n : ℕ) (row : RowNo) (call : Call) → is_parity_put n row call ≡ true → ParityPut n row call
parity-put n row call h = by call.ask.what call.answer.reply refl refl sent.1 row_is
  where
    sent : (is_at (parity_bay n row) row call ≡ true) × (is_some (write_of call.ask.what call.answer.reply) ≡ true)
    sent = and_parts (is_at (parity_bay n row) row call) (is_some (write_of call.ask.what call.answer.reply)) h

    at_both : ((call.bay.0 == (parity_bay n row).0) ≡ true) × (is_row row (row_of call.ask.what) ≡ true)
    at_both = and_parts (call.bay.0 == (parity_bay n row).0) (is_row row (row_of call.ask.what)) sent.0

    row_is : is_row row (row_of call.ask.what) ≡ true
    row_is = at_both.1

    placed : call.bay ≡ parity_bay n row
    placed = let same : (call.bay.0 == (parity_bay n row).0) ≡ true = at_both.0 in let one : call.bay.0 ≡ (parity_bay n row).0 = grind (arith, nat_tests) in ap (λ (k : ℕ). record { 0 = k }) one

    put : (r : RowNo) (id k : Number) (cell : Cell) → call.ask.what ≡ Put r id k cell → call.answer.reply ≡ Done → (r.0 == row.0) ≡ true → ParityPut n row call
    put r id k cell what done same =
        let one : r.0 ≡ row.0 = grind (arith, nat_tests) in
        let here : r ≡ row = ap (λ (x : ℕ). let y : RowNo = record { 0 = x } in y) one in
        record { id = id; number = k; cell = cell; place = placed; what = what ∙ ap (λ (x : RowNo). Put x id k cell) here; done = done }

    by : (w : Request) (reply : Reply) → call.ask.what ≡ w → call.answer.reply ≡ reply → is_some (write_of w reply) ≡ true → is_row row (row_of w) ≡ true → ParityPut n row call
    by (Put r id k cell) Done what done some of = put r id k cell what done of
    by (Put r id k cell) (Granted c x y l i s) what done some of = absurd (cc)
    by (Put r id k cell) (Busy holder) what done some of = absurd (cc)
    by (Put r id k cell) (Late above) what done some of = absurd (cc)
    by (Put r id k cell) (Young note) what done some of = absurd (cc)
    by (Put r id k cell) (Missing floor) what done some of = absurd (cc)
    by (Put r id k cell) (Held c) what done some of = absurd (cc)
    by (Put r id k cell) (NoNote life) what done some of = absurd (cc)
    by (Put r id k cell) Fault what done some of = absurd (cc)
    by (Put r id k cell) Emptied what done some of = absurd (cc)
    by (Put r id k cell) FittedReply what done some of = absurd (cc)
    by (Share r id want) reply what done some of = absurd (cc)
    by (Claim r id how mask want) reply what done some of = absurd (cc)
    by (Confirm r id want) reply what done some of = absurd (cc)
    by (Release r id k) reply what done some of = absurd (cc)
    by Lose reply what done some of = absurd (cc)
    by Fit reply what done some of = absurd (cc)

pub puts-parity : (n : ℕ) (row : RowNo) (call : Call) (id k : Number) (cell : Cell) → call.bay ≡ parity_bay n row → call.ask.what ≡ Put row id k cell → IsDone call → is_parity_put n row call ≡ true
puts-parity n row call id k cell place what done =
    both-true (is_at (parity_bay n row) row call) (is_some (write_of call.ask.what call.answer.reply)) (put-at (parity_bay n row) row call id k cell place what)
    (ap (λ (w : Request). is_some (write_of w call.answer.reply)) what ∙ ap (λ (r : Reply). is_some (write_of (Put row id k cell) r)) done)
