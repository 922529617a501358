-- Reads of a slot: what a call adds to them, how the slot stands at a read, and which calls are shown numbers that cover them.
use Rattle.std.proofs.Common.{◌≡◌, ◌⊎◌, inl, inr, refl, sym, ap, subst, ◌∙◌, ℕ, ◌<◌, ◌≤◌, ◌==◌, Bool, true, false, if◌then◌else◌, IsSome, List, [], ◌∷◌, Option, Some, None, is_some, arith}
use Rattle.std.specs.List.{AllByRecursion}
use Rattle.raid_base.specs.declared.numbers.HostNo.{HostNo}
use Rattle.raid_base.specs.declared.numbers.BayNo.{BayNo}
use Rattle.raid_base.specs.declared.numbers.RowNo.{RowNo}
use Rattle.raid_base.specs.declared.numbers.Number.{Number}
use Rattle.raid_base.specs.declared.cells.Cell.{Cell}
use Rattle.raid_base.specs.declared.messages.Ask.{Ask}
use Rattle.raid_base.specs.declared.messages.Call.{Call}
use Rattle.raid_base.specs.declared.messages.Grant.{Grant}
use Rattle.raid_base.specs.declared.messages.How.{How}
use Rattle.raid_base.specs.declared.messages.How.TheVariants.{Plain}
use Rattle.raid_base.specs.declared.messages.Mode.{Mode}
use Rattle.raid_base.specs.declared.messages.Mode.TheVariants.{Lock, Order}
use Rattle.raid_base.specs.declared.messages.Note.{Note}
use Rattle.raid_base.specs.declared.messages.Reply.{Reply}
use Rattle.raid_base.specs.declared.messages.Reply.TheVariants.{Missing, Done}
use Rattle.raid_base.specs.declared.messages.Request.{Request}
use Rattle.raid_base.specs.declared.messages.Request.TheVariants.{Share, Claim, Confirm, Put, Release, Lose, Fit}
use Rattle.raid_base.specs.Replies.{is_fault, grant_of}
use Rattle.raid_base.specs.Steps.{Steps, next_errand, errand_of}
use Rattle.slot_rules.specs.declared.Reader.{Reader}
use Rattle.slot_rules.specs.Slots.{Slot, Bay, slot_of}
use Rattle.slot_rules.specs.Rules.{wanted_cell, note_id}
use Rattle.slot_rules.specs.Laws.{CoversRead}
use Rattle.attempts.specs.Numbering.{ShowsNumber}
use Rattle.attempts.specs.Phases.{IsIn}
use Rattle.attempts.specs.Taking.{Finish}
use Rattle.script_text.specs.Script.{Script}
use Rattle.script_text.specs.Ranges.{IsScript}
use Rattle.histories.specs.Calls.{Happened, row_of, id_of, read_of, is_row, is_at, IsShare, IsClaim}
use Rattle.histories.specs.Torn.{IsMissing}
use Rattle.histories.specs.Progress.{Progress}
use Rattle.histories.specs.History.{IsHistory, progress_at, bay_at}
use Rattle.histories.specs.RowStates.{slot_at, cell_at}
use Rattle.row_laws.specs.Hands.{HasHand, calls_at}
use Rattle.histories.specs.Accesses.{with_some, reads, AtMost}
use Rattle.histories.proofs.accesses.AccessCovers.{all-map, lock-read, free-hand, covers-all}
use Rattle.histories.proofs.accesses.AccessIds.{all-apart, asker-few, asked-errand, notes-claimed}
use Rattle.row_laws.proofs.holders.AnsweredFree.{happened-map}
use Rattle.row_laws.proofs.covered.CoveredPutsSlots.{IsMaskClaim, origin-claimed}
use Rattle.row_laws.proofs.hands.HandClaims.{IsTake, made-one, next-new}
use Rattle.row_laws.proofs.hands.HandMoves.{asked-id}
use Rattle.histories.proofs.steps.LeftSlots.{HasReader}
use Rattle.row_laws.proofs.reads.ReadFloors.{rule-floor, floor-gone}
use Rattle.row_laws.proofs.reads.ReadShares.{shares-want}
use Rattle.row_laws.proofs.numbers.Risen.{shown-as, Found, release-found, reply-is, does}
use Rattle.row_laws.proofs.numbers.RisenHands.{below-from}
use Rattle.row_laws.proofs.numbers.RisenSlots.{Clear, clear-at, found-reader, ReaderMove, Sat, Came, reader-moved}
use Rattle.row_laws.proofs.numbers.RisingClaims.{both-true}
use Rattle.row_laws.proofs.owners.RowOwnersCalls.{noted-by}
use Rattle.row_laws.proofs.owners.RowOwnersHands.{Asker, asker, happened-in, happened-own}
use Rattle.row_laws.proofs.hands.SlotDoes.{IsGone, Shares, Does, Refuses, Closes, Grants, Shows, Holds, Puts, Frees, Leaves, slot-does, claim-does, Claims, share-does}
use Rattle.row_laws.proofs.hands.SlotMoves.{SlotMove, Kept, Touched, Lost, Fitted, outcome_at, moved}
use Rattle.histories.proofs.steps.SameNumbers.{same-bay, named-row}
use Rattle.histories.proofs.steps.BayRows.{starts-first, bay-mode}

-- Reads of a slot after a call: those before it, or one more
pub data ReadMove (script : Script) (at : BayNo) (row : RowNo) (call : Call) (earlier : List Call) : Type 0 where
  Quiet : (same : reads script at row (call ∷ earlier) ≡ reads script at row earlier) → ReadMove script at row call earlier
  Read : (place : call.bay ≡ at) (of : row_of call.ask.what ≡ Some row) (n : Number) (is : read_of script.mode call.ask.what call.answer.reply ≡ Some n)
      (now : reads script at row (call ∷ earlier) ≡ n ∷ reads script at row earlier) → ReadMove script at row call earlier

pub read-moved : (script : Script) (at : BayNo) (row : RowNo) (call : Call) (earlier : List Call) → ReadMove script at row call earlier
read-moved script at row call earlier = by (is_at at row call) refl (read_of script.mode call.ask.what call.answer.reply) refl
  where
    turns : (b : Bool) (o : Option Number) → is_at at row call ≡ b → read_of script.mode call.ask.what call.answer.reply ≡ o →
        reads script at row (call ∷ earlier) ≡ (if b then with_some o (reads script at row earlier) else reads script at row earlier)
    turns b o here e =
        ap (λ (x : Bool). if x then with_some (read_of script.mode call.ask.what call.answer.reply) (reads script at row earlier) else reads script at row earlier) here
        ∙ ap (λ (x : Option Number). if b then with_some x (reads script at row earlier) else reads script at row earlier) e

    by : (b : Bool) → is_at at row call ≡ b → (o : Option Number) → read_of script.mode call.ask.what call.answer.reply ≡ o → ReadMove script at row call earlier
    by false here o e = Quiet (turns false o here e)
    by true here None e = Quiet (turns true None here e)
    by true here (Some n) e =
        let there = both-true (call.bay.0 == at.0) (is_row row (row_of call.ask.what)) here in
        Read (same-bay call.bay at there.0) (named-row row (row_of call.ask.what) there.1) n e (turns true (Some n) here e)

-- a read is under stamps a share that was granted, and under locks a release with a number that was done
data ReadBy (mode : Mode) (what : Request) (reply : Reply) (n : Number) : Type 0 where
  Stamped : (order : mode ≡ Order) (row : RowNo) (want : Bool) (share : what ≡ Share row n want) (granted : IsSome (grant_of reply)) → ReadBy mode what reply n
  Locked : (lock : mode ≡ Lock) (row : RowNo) (id : Number) (release : what ≡ Release row id (Some n)) (done : reply ≡ Done) → ReadBy mode what reply n

read-by : (mode : Mode) (what : Request) (reply : Reply) (n : Number) → read_of mode what reply ≡ Some n → ReadBy mode what reply n
read-by Order (Share r id want) reply n e = let h = shown-as r id want reply n e in Stamped refl r want (ap (λ (x : Number). Share r x want) h.0) h.1
read-by Order (Claim r id how mask want) reply n e = absurd (let bad : None ≡ Some n = e in cc)
read-by Order (Confirm r id want) reply n e = absurd (let bad : None ≡ Some n = e in cc)
read-by Order (Put r id k cell) reply n e = absurd (let bad : None ≡ Some n = e in cc)
read-by Order (Release r id k) reply n e = absurd (let bad : None ≡ Some n = e in cc)
read-by Order Lose reply n e = absurd (let bad : None ≡ Some n = e in cc)
read-by Order Fit reply n e = absurd (let bad : None ≡ Some n = e in cc)
read-by Lock (Release r id k) reply n e =
    let done : reply ≡ Done = lock-read (Release r id k) reply n e in
    let same : k ≡ Some n = subst (λ (x : Reply). read_of Lock (Release r id k) x ≡ Some n) done e in
    Locked refl r id (ap (λ (x : Option Number). Release r id x) same) done
read-by Lock (Share r id want) reply n e = absurd (let bad : None ≡ Some n = e in cc)
read-by Lock (Claim r id how mask want) reply n e = absurd (let bad : None ≡ Some n = e in cc)
read-by Lock (Confirm r id want) reply n e = absurd (let bad : None ≡ Some n = e in cc)
read-by Lock (Put r id k cell) reply n e = absurd (let bad : None ≡ Some n = e in cc)
read-by Lock Lose reply n e = absurd (let bad : None ≡ Some n = e in cc)
read-by Lock Fit reply n e = absurd (let bad : None ≡ Some n = e in cc)

-- What the slot rule did
module _ (bay : Bay) (ask : Ask) (slot : Slot) where
  -- a claim that was granted
  record Claiming (id : Number) (how : How) (reply : Reply) : Type 0 where
    there : bay.empty ≡ false
    shown : ShowsNumber reply slot.read_no
    late : how ≡ Plain → bay.mode ≡ Order → slot.read_no.0 < id.0

  claim-tells : (row : RowNo) (id : Number) (how : How) (mask : ℕ) (want : Bool) (what : Request) (reply : Reply) (left : Slot) → Does bay ask slot what reply left → what ≡ Claim row id how mask want →
      IsSome (grant_of reply) → Claiming id how reply
  claim-tells row id how mask want what reply left step is some =
      let claims : Claims bay ask slot id how mask want reply left = claim-does bay ask slot row id how mask want what reply left step is some in
      record {
        there = claims.there;
        shown = subst (λ (x : Reply). ShowsNumber x slot.read_no) (sym claims.reply) (inl refl);
        late = λ plain order. (let above = claims.late plain order in omega (arith, above));
      }

-- a reader is none of an empty list
in-none : (x : Reader) (xs : List Reader) → xs ≡ [] → IsIn x xs → ⊥
in-none x xs e i = subst (λ (ys : List Reader). IsIn x ys) e i

-- A slot that has a reader after a call has the cell that it had before
module _ (old : Bay) (at : BayNo) (row : RowNo) (call : Call) (new : Bay) (id : Number) where
  cell-by : (what : Request) (reply : Reply) (left : Slot) → Does old call.ask (slot_of old row) what reply left → Clear old (slot_of old row) → HasReader id left → left.cell ≡ (slot_of old row).cell
  cell-by what reply left (Refuses r refused missing) c has = refl
  cell-by what reply left (Closes there none) c has = refl
  cell-by what reply left (Grants claims) c has = ap (λ (s : Slot). s.cell) claims.left
  cell-by what reply left (Shows shares) c has = shares.cell_kept
  cell-by what reply left (Holds own) c has = refl
  cell-by what reply left (Puts {id = by} own) c has =
      let found = noted-by (slot_of old row).note by own in
      absurd (in-none has.0 (slot_of old row).readers (c.alone found.0 found.1) has.1)
  cell-by what reply left (Frees own) c has = refl
  cell-by what reply left (Leaves free reader found) c has = refl

  cell-stays : SlotMove old at row call new → Clear old (slot_of old row) → HasReader id (slot_of new row) → (slot_of new row).cell ≡ (slot_of old row).cell
  cell-stays (Kept same empty life apart) c has = ap (λ (s : Slot). s.cell) same
  cell-stays (Touched place of reply same empty life) c has =
      let o = outcome_at old row call in
      ap (λ (s : Slot). s.cell) same
      ∙ cell-by call.ask.what o.reply o.slot (slot-does old call.ask (slot_of old row) (is_fault call.answer.reply) call.ask.what row of) c (subst (λ (s : Slot). HasReader id s) same has)
  cell-stays (Lost place what was same empty life) c has = absurd (in-none has.0 (slot_of new row).readers (ap (λ (s : Slot). s.readers) same) has.1)
  cell-stays (Fitted place what was same empty life) c has = absurd (in-none has.0 (slot_of new row).readers (ap (λ (s : Slot). s.readers) same) has.1)

-- The call after a history
module _ (script : Script) (is : IsScript script) (earlier : List Call) (call : Call) (along : IsHistory script (call ∷ earlier)) (row : RowNo) (of : row_of call.ask.what ≡ Some row) where
  abbrev bay : Bay
  bay = bay_at script call.bay earlier

  abbrev slot : Slot
  slot = slot_of bay row

  share-granted : (r : RowNo) (id : Number) (want : Bool) → call.ask.what ≡ Share r id want → IsSome (grant_of call.answer.reply) →
      Shares bay slot id want (outcome_at bay row call).reply (outcome_at bay row call).slot
  share-granted r id want what some =
      share-does bay call.ask slot r id want call.ask.what (outcome_at bay row call).reply (outcome_at bay row call).slot (does script is earlier call along row of) what
      (subst (λ (x : Reply). IsSome (grant_of x)) (reply-is script is earlier call along row of) some)

-- a share of this slot with this id, which was shown this cell where it wanted one
abbrev IsShowing : BayNo → RowNo → Number → Cell → Call → Type 0
IsShowing at row id cell call =
    (call.bay ≡ at) × (want : Bool) × (call.ask.what ≡ Share row id want) × (grant : Grant) × (grant_of call.answer.reply ≡ Some grant) × (want ≡ true → grant.cell ≡ Some cell)

-- A reader stands on a slot that has the cell which its share was shown
module _ (script : Script) (is : IsScript script) (at : BayNo) (row : RowNo) (below : row.0 < script.rows) where
  record ReaderCell (history : List Call) (id : Number) : Type 0 where
    cell : Cell
    now : cell_at script history row at ≡ Some cell
    shown : Happened (IsShowing at row id cell) history

  reader-stands : (history : List Call) → IsHistory script history → (id : Number) → HasReader id (slot_at script history at row) → ReaderCell history id
  reader-stands [] along id has = absurd (subst (λ (s : Slot). HasReader id s) (starts-first script at row below) has).1
  reader-stands (call ∷ earlier) along id has = by (λ was. reader-stands earlier along.0 id was) (reader-moved script is at row below earlier call along id has)
    where
      stays : cell_at script (call ∷ earlier) row at ≡ cell_at script earlier row at
      stays =
          cell-stays (bay_at script at earlier) at row call (bay_at script at (call ∷ earlier)) id (moved script is earlier call along.1 at row below)
          (clear-at script is at row below earlier along.0) has

      shared : call.bay ≡ at → (want : Bool) → call.ask.what ≡ Share row id want → (grant : Grant) → grant_of call.answer.reply ≡ Some grant → grant.cell ≡ wanted_cell want (slot_at script earlier at row) →
          IsSome (cell_at script earlier row at) → (o : Option Cell) → cell_at script earlier row at ≡ o → ReaderCell (call ∷ earlier) id
      shared place want what grant granted seen some None e = absurd (let bad : false ≡ true = sym (ap (λ (o : Option Cell). is_some o) e) ∙ some in cc)
      shared place want what grant granted seen some (Some cell) e = record {
        cell = cell;
        now = stays ∙ e;
        shown = inl (place, want, what, grant, granted, λ wants. seen ∙ ap (λ (b : Bool). wanted_cell b (slot_at script earlier at row)) wants ∙ e);
      }

      by : (HasReader id (slot_at script earlier at row) → ReaderCell earlier id) → ReaderMove (bay_at script at earlier) at row call (bay_at script at (call ∷ earlier)) id → ReaderCell (call ∷ earlier) id
      by before (Sat was write) = let b = before was in record { cell = b.cell; now = stays ∙ b.now; shown = inr b.shown }
      by before (Came place want what reply write) =
          let some : IsSome (grant_of call.answer.reply) = subst (λ (x : Reply). IsSome (grant_of x)) (sym reply) refl in
          let s = share-granted script is earlier call along row (ap (λ (w : Request). row_of w) what) row id want what some in
          shared place want what
          (record { cell = wanted_cell want (slot_at script earlier at row); last = (slot_at script earlier at row).last; life = (bay_at script at earlier).life; seized = None })
          (ap grant_of reply) refl (subst (λ (b : BayNo). IsSome (cell_at script earlier row b)) place s.cell) (cell_at script earlier row at) refl

  -- While a slot has no cell its read number is not above its write number
  abbrev Low : Slot → Type 0
  Low s = s.cell ≡ None → s.read_no.0 ≤ s.write_no.0

  low-by : (earlier : List Call) (call : Call) → IsHistory script earlier → (what : Request) (reply : Reply) (left : Slot) →
      Does (bay_at script at earlier) call.ask (slot_at script earlier at row) what reply left → Low (slot_at script earlier at row) → Low left
  low-by earlier call along what reply left (Refuses r refused missing) low = low
  low-by earlier call along what reply left (Closes there none) low = low
  low-by earlier call along what reply left (Grants claims) low = subst (λ (s : Slot). Low s) (sym claims.left) low
  low-by earlier call along what reply left (Shows shares) low = λ none.
      absurd (let bad : false ≡ true = sym (ap (λ (o : Option Cell). is_some o) (sym shares.cell_kept ∙ none)) ∙ shares.cell in cc)
  low-by earlier call along what reply left (Holds own) low = low
  low-by earlier call along what reply left (Puts own) low = λ none. absurd (cc)
  low-by earlier call along what reply left (Frees own) low = low
  low-by earlier call along what reply left (Leaves {id = id} free reader found) low = λ none.
      let sits = found-reader id (slot_at script earlier at row).readers reader found in
      let c = reader-stands earlier along reader.id (reader, sits.0, refl) in
      absurd (let has : cell_at script earlier row at ≡ Some c.cell = c.now in let bad : None ≡ Some c.cell = sym none ∙ has in cc)

  low-bare : (history : List Call) → IsHistory script history → Low (slot_at script history at row)
  low-bare [] along = subst (λ (s : Slot). Low s) (sym (starts-first script at row below)) (λ none. absurd (cc))
  low-bare (call ∷ earlier) along = by (low-bare earlier along.0) (moved script is earlier call along.1 at row below)
    where
      by : Low (slot_at script earlier at row) → SlotMove (bay_at script at earlier) at row call (bay_at script at (call ∷ earlier)) → Low (slot_at script (call ∷ earlier) at row)
      by low (Kept same empty life apart) = subst (λ (s : Slot). Low s) (sym same) low
      by low (Touched place of reply same empty life) =
          let o = outcome_at (bay_at script at earlier) row call in
          subst (λ (s : Slot). Low s) (sym same)
          (low-by earlier call along.0 call.ask.what o.reply o.slot
          (slot-does (bay_at script at earlier) call.ask (slot_at script earlier at row) (is_fault call.answer.reply) call.ask.what row of) low)
      by low (Lost place what was same empty life) = subst (λ (s : Slot). Low s) (sym same) (λ none. omega arith)
      by low (Fitted place what was same empty life) = subst (λ (s : Slot). Low s) (sym same) (λ none. omega arith)

-- While a reader of an attempt stands on a slot, the slot has the cell that its share was shown, and no note.
pub record SharedAt (script : Script) (history : List Call) (at : BayNo) (row : RowNo) (calls : List Call) : Type 0 where
  pub cell : Cell
  pub now : cell_at script history row at ≡ Some cell
  pub free : (slot_at script history at row).note ≡ None
  pub shown : (c : Call) (grant : Grant) → IsIn c calls → IsShare at row c → grant_of c.answer.reply ≡ Some grant → grant.cell ≡ Some cell

pub reader-shared : (script : Script) → IsScript script → (history : List Call) → IsHistory script history → (at : BayNo) (row : RowNo) → row.0 < script.rows →
    (host : HostNo) (steps : Steps Finish) (h : HasHand script history host steps) (call : Call) → next_errand steps ≡ Some (errand_of call) → (n : Number) → read_of Lock call.ask.what call.answer.reply ≡ Some n →
    HasReader h.hand.id (slot_at script history at row) → SharedAt script history at row (calls_at script history host)
reader-shared script is history along at row below host steps h call asked n read reader = by (read-by Lock call.ask.what call.answer.reply n read)
  where
    stands : ReaderCell script is at row below history h.hand.id
    stands = reader-stands script is at row below history along h.hand.id reader

    free : (o : Option Note) → (slot_at script history at row).note ≡ o → o ≡ None
    free None e = refl
    free (Some note) e = absurd (in-none reader.0 (slot_at script history at row).readers ((clear-at script is at row below history along).alone note e) reader.1)

    mine : Happened (IsShowing at row h.hand.id stands.cell) (calls_at script history host)
    mine = happened-own script is history along host steps h (errand_of call) asked (λ c k. ap (λ (w : Request). id_of w) k.2) stands.shown

    same-cell : (grant other : Grant) → Some grant ≡ Some other → other.cell ≡ Some stands.cell → grant.cell ≡ Some stands.cell
    same-cell grant other e is = let same : grant ≡ other = cc in ap (λ (g : Grant). g.cell) same ∙ is

    by : ReadBy Lock call.ask.what call.answer.reply n → SharedAt script history at row (calls_at script history host)
    by (Stamped order r want share granted) = absurd (cc)
    by (Locked lock r id release done) = record {
      cell = stands.cell;
      now = stands.now;
      free = free (slot_at script history at row).note refl;
      shown = λ c grant i share granted.
          let found = happened-in (calls_at script history host) mine in
          let s : IsShowing at row h.hand.id stands.cell found.0 = found.2 in
          let one : c ≡ found.0 = made-one script is history host steps h at row c found.0 i found.1 (inl share) (inl (s.0, h.hand.id, s.1, s.2)) in
          let wants : s.1 ≡ true = shares-want script history host steps h call asked r id n release found.0 found.1 row h.hand.id s.1 s.2 in
          same-cell grant s.3 (sym granted ∙ ap (λ (x : Call). grant_of x.answer.reply) one ∙ s.4) (s.5 wants);
    }

-- At a read the slot has a cell. Under stamps its note, where it has one, is of a greater origin; under locks it has none.
pub record ReadAt (script : Script) (earlier : List Call) (at : BayNo) (row : RowNo) (n : Number) : Type 0 where
  pub cell : IsSome (cell_at script earlier row at)
  pub noted : (note : Note) → (slot_at script earlier at row).note ≡ Some note → (script.mode ≡ Order) × (n.0 < note.origin.0)

pub read-at : (script : Script) → IsScript script → (earlier : List Call) (call : Call) → IsHistory script (call ∷ earlier) → (row : RowNo) → row.0 < script.rows → row_of call.ask.what ≡ Some row →
    (n : Number) → read_of script.mode call.ask.what call.answer.reply ≡ Some n → ReadAt script earlier call.bay row n
read-at script is earlier call along row below of n read = by (read-by script.mode call.ask.what call.answer.reply n read)
  where
    a : Asker script is earlier call
    a = asker script is earlier call along.0 along.1 row of

    is-own : (id : Number) → id_of call.ask.what ≡ Some id → id ≡ a.hand.hand.id
    is-own id e = let both : Some id ≡ Some a.hand.hand.id = sym e ∙ asked-id script is earlier call.ask.host a.steps a.hand call a.asked in cc

    same-row : (r : RowNo) → row_of call.ask.what ≡ Some r → r ≡ row
    same-row r e = let both : Some r ≡ Some row = sym e ∙ of in cc

    -- a note with its id for an origin were of its own claim, and it takes each slot once
    apart : (want : Bool) → call.ask.what ≡ Share row n want → (note : Note) → (slot_at script earlier call.bay row).note ≡ Some note → n.0 ≡ note.origin.0 → ⊥
    apart want share note noted e =
        let own : n ≡ a.hand.hand.id = is-own n (ap (λ (w : Request). id_of w) share) in
        let origin : note.origin ≡ n = ap (λ (k : ℕ). let x : Number = record { 0 = k } in x) (sym e) in
        let claim = origin-claimed script is call.bay row below earlier along.0 note noted in
        let mine = happened-own script is earlier along.0 call.ask.host a.steps a.hand (errand_of call) a.asked
        (λ c k. ap (λ (w : Request). id_of w) k.3 ∙ ap (λ (x : Number). Some x) (origin ∙ own)) claim in
        next-new script is earlier call.ask.host a.steps a.hand call a.asked call.bay row (inl (refl, n, want, share))
        (happened-map (IsMaskClaim call.bay row note.origin note.mask) (IsTake call.bay row) (λ c k. inr (k.0, note.origin, k.1, note.mask, k.2, k.3)) (calls_at script earlier call.ask.host) mine)

    stamped : script.mode ≡ Order → (r : RowNo) (want : Bool) → call.ask.what ≡ Share r n want → IsSome (grant_of call.answer.reply) → ReadAt script earlier call.bay row n
    stamped order r want share granted =
        let s = share-granted script is earlier call along row of r n want share granted in
        let here : call.ask.what ≡ Share row n want = share ∙ ap (λ (x : RowNo). Share x n want) (same-row r (ap (λ (w : Request). row_of w) share)) in
        record {
          cell = s.cell;
          noted = λ note noted. (order, below-from n.0 note.origin.0 (s.free note noted).1 (apart want here note noted));
        }

    -- no note has the id of a release with a number
    unnoted : (id : Number) → call.ask.what ≡ Release row id (Some n) → note_id (slot_at script earlier call.bay row).note id ≡ true → ⊥
    unnoted id release own =
        let found = noted-by (slot_at script earlier call.bay row).note id own in
        let s = all-apart script is earlier along.0 in
        let p : Progress = progress_at script call.ask.host earlier in
        free-hand call.ask.host earlier call.bay row found.0 p p.work call id n (s.hosts call.ask.host (asker-few script is earlier call along.1 s)).work (asked-errand script is earlier call along.1 s) release
        found.2 (notes-claimed script is earlier call.bay row found.0 below found.1)

    shared : script.mode ≡ Lock → HasReader a.hand.hand.id (slot_at script earlier call.bay row) → ReadAt script earlier call.bay row n
    shared lock reader =
        let s = reader-shared script is earlier along.0 call.bay row below call.ask.host a.steps a.hand call a.asked n
        (subst (λ (m : Mode). read_of m call.ask.what call.answer.reply ≡ Some n) lock read) reader in
        record {
          cell = ap (λ (o : Option Cell). is_some o) s.now;
          noted = λ note noted. absurd (let bad : None ≡ Some note = sym s.free ∙ noted in cc);
        }

    locked : script.mode ≡ Lock → (id : Number) → call.ask.what ≡ Release row id (Some n) → Found (bay_at script call.bay earlier) call.ask (slot_at script earlier call.bay row) id →
        ReadAt script earlier call.bay row n
    locked lock id release (inl own) = absurd (unnoted id release own)
    locked lock id release (inr (reader, found)) =
        let sits = found-reader id (slot_at script earlier call.bay row).readers reader found in
        shared lock (reader, sits.0, sits.1 ∙ is-own id (ap (λ (w : Request). id_of w) release))

    by : ReadBy script.mode call.ask.what call.answer.reply n → ReadAt script earlier call.bay row n
    by (Stamped order r want share granted) = stamped order r want share granted
    by (Locked lock r id release done) =
        let here : call.ask.what ≡ Release row id (Some n) = release ∙ ap (λ (x : RowNo). Release x id (Some n)) (same-row r (ap (λ (w : Request). row_of w) release)) in
        let o = outcome_at (bay_at script call.bay earlier) row call in
        locked lock id here
        (release-found (bay_at script call.bay earlier) call.ask (slot_at script earlier call.bay row) row id (Some n) call.ask.what o.reply o.slot
        (does script is earlier call along row of) here (sym (reply-is script is earlier call along row of) ∙ done))

-- a call was shown a number that these are at most, or they are below this id; a plain claim under stamps has an id above the number
pub record CoversReads (mode : Mode) (call : Call) (id : Number) (ns : List Number) : Type 0 where
  pub number : Number
  pub shown : ShowsNumber call.answer.reply number
  pub covers : AllByRecursion (λ (x : Number). (x.0 ≤ number.0) ⊎ (x.0 < id.0)) ns
  pub late : mode ≡ Order → (row : RowNo) (by : Number) (mask : ℕ) (want : _) → call.ask.what ≡ Claim row by Plain mask want → IsSome (grant_of call.answer.reply) → number.0 < by.0

-- Calls that are no reads
no-read : (script : Script) (at : BayNo) (row : RowNo) (call : Call) (earlier : List Call) → ((n : Number) → ReadBy script.mode call.ask.what call.answer.reply n → ⊥) →
    reads script at row (call ∷ earlier) ≡ reads script at row earlier
no-read script at row call earlier none = by (read-moved script at row call earlier)
  where
    by : ReadMove script at row call earlier → reads script at row (call ∷ earlier) ≡ reads script at row earlier
    by (Quiet same) = same
    by (Read place of n is now) = absurd (none n (read-by script.mode call.ask.what call.answer.reply n is))

missing-reads-not : (mode : Mode) (what : Request) (reply : Reply) (floor n : Number) → reply ≡ Missing floor → ReadBy mode what reply n → ⊥
missing-reads-not mode what reply floor n said (Stamped order row want share granted) =
    let bad : false ≡ true = sym (ap (λ (r : Reply). is_some (grant_of r)) said) ∙ granted in cc
missing-reads-not mode what reply floor n said (Locked lock row id release done) = let bad : Missing floor ≡ Done = sym said ∙ done in cc

claim-reads-not : (mode : Mode) (what : Request) (reply : Reply) (n : Number) (row : RowNo) (id : Number) (how : How) (mask : ℕ) (want : Bool) → what ≡ Claim row id how mask want → ReadBy mode what reply n → ⊥
claim-reads-not mode what reply n row id how mask want is (Stamped order r w share granted) = let bad : Claim row id how mask want ≡ Share r n w = sym is ∙ share in cc
claim-reads-not mode what reply n row id how mask want is (Locked lock r by release done) = let bad : Claim row id how mask want ≡ Release r by (Some n) = sym is ∙ release in cc

-- a call of the slot
module _ (script : Script) (is : IsScript script) (earlier : List Call) (call : Call) (along : IsHistory script (call ∷ earlier)) (row : RowNo) (below : row.0 < script.rows) (of : row_of call.ask.what ≡ Some row) where
  abbrev here_bay : Bay
  here_bay = bay_at script call.bay earlier

  abbrev here : Slot
  here = slot_of here_bay row

  before-high : AtMost here_bay.high.0 (reads script call.bay row earlier)
  before-high = all-map (CoversRead here_bay row) (λ (x : Number). x.0 ≤ here_bay.high.0) (reads script call.bay row earlier) (λ n c. c.0) (covers-all script is call.bay row below earlier along.0).read

  before-read : here_bay.empty ≡ false → AtMost here.read_no.0 (reads script call.bay row earlier)
  before-read there = all-map (CoversRead here_bay row) (λ (x : Number). x.0 ≤ here.read_no.0) (reads script call.bay row earlier) (λ n c. c.1 there) (covers-all script is call.bay row below earlier along.0).read

  floor-covers : (floor : Number) → call.answer.reply ≡ Missing floor → AtMost floor.0 (reads script call.bay row earlier)
  floor-covers floor said =
      by (rule-floor here_bay call.ask here (is_fault call.answer.reply) call.ask.what floor told)
      (floor-gone here_bay call.ask here floor call.ask.what (outcome_at here_bay row call).reply (outcome_at here_bay row call).slot (does script is earlier call along row of) told)
    where
      told : (outcome_at here_bay row call).reply ≡ Missing floor
      told = sym (reply-is script is earlier call along row of) ∙ said

      low : here_bay.empty ≡ false → IsGone here_bay here → here.read_no.0 ≤ here.write_no.0
      low there (inl empty) = absurd (let bad : true ≡ false = sym empty ∙ there in cc)
      low there (inr none) = low-bare script is call.bay row below earlier along.0 none

      by : ((here_bay.empty ≡ true) × (floor ≡ here_bay.high)) ⊎ ((here_bay.empty ≡ false) × (floor ≡ here.write_no)) → IsGone here_bay here → AtMost floor.0 (reads script call.bay row earlier)
      by (inl (empty, high)) gone = subst (λ (k : Number). AtMost k.0 (reads script call.bay row earlier)) (sym high) before-high
      by (inr (there, same)) gone =
          let le : here.read_no.0 ≤ here.write_no.0 = low there gone in
          subst (λ (k : Number). AtMost k.0 (reads script call.bay row earlier)) (sym same)
          (all-map (λ (x : Number). x.0 ≤ here.read_no.0) (λ (x : Number). x.0 ≤ here.write_no.0) (reads script call.bay row earlier) (λ n less. omega (arith, less, le)) (before-read there))

  claim-covered : (id : Number) (how : How) (mask : ℕ) (want : Bool) → call.ask.what ≡ Claim row id how mask want → IsSome (grant_of call.answer.reply) → (k : Number) →
      CoversReads script.mode call k (reads script call.bay row earlier)
  claim-covered id how mask want what some k =
      let c : Claiming here_bay call.ask here id how call.answer.reply =
      subst (λ (r : Reply). Claiming here_bay call.ask here id how r) (sym (reply-is script is earlier call along row of))
      (claim-tells here_bay call.ask here row id how mask want call.ask.what (outcome_at here_bay row call).reply (outcome_at here_bay row call).slot (does script is earlier call along row of) what
      (subst (λ (r : Reply). IsSome (grant_of r)) (reply-is script is earlier call along row of) some)) in
      record {
        number = here.read_no;
        shown = c.shown;
        covers = all-map (λ (x : Number). x.0 ≤ here.read_no.0) (λ (x : Number). (x.0 ≤ here.read_no.0) ⊎ (x.0 < k.0)) (reads script call.bay row earlier) (λ n le. inl le) (before-read c.there);
        late = λ order r by m w asks granted.
            (let both : Claim row id how mask want ≡ Claim r by Plain m w = sym what ∙ asks in
            let kind : how ≡ Plain = cc in
            let one : id ≡ by = cc in
            let same : id.0 ≡ by.0 = ap (λ (x : Number). x.0) one in
            let above = c.late kind (bay-mode script call.bay earlier ∙ order) in
            omega (arith, above, same));
      }

-- the floor of a missing slot covers them, whatever was asked
pub floor-covers-reads : (script : Script) → IsScript script → (earlier : List Call) (call : Call) → IsHistory script (call ∷ earlier) → (at : BayNo) (row : RowNo) → at.0 < script.n → row.0 < script.rows →
    call.bay ≡ at → row_of call.ask.what ≡ Some row → (floor : Number) → call.answer.reply ≡ Missing floor → AtMost floor.0 (reads script at row (call ∷ earlier))
floor-covers-reads script is earlier call along at row within below place of floor said =
    subst (λ (ns : List Number). AtMost floor.0 ns)
    (sym (no-read script at row call earlier (λ n. missing-reads-not script.mode call.ask.what call.answer.reply floor n said)))
    (subst (λ (b : BayNo). AtMost floor.0 (reads script b row earlier)) place (floor-covers script is earlier call along row below of floor said))

-- a claim that was granted, or whose slot is missing, covers the reads of its slot
pub claim-covers-reads : (script : Script) → IsScript script → (earlier : List Call) (call : Call) → IsHistory script (call ∷ earlier) → (at : BayNo) (row : RowNo) → at.0 < script.n → row.0 < script.rows →
    IsClaim at row call → IsSome (grant_of call.answer.reply) ⊎ IsMissing call → (id : Number) → CoversReads script.mode call id (reads script at row (call ∷ earlier))
claim-covers-reads script is earlier call along at row within below (place, by, how, mask, want, what) answered id = covers answered
  where
    of : row_of call.ask.what ≡ Some row
    of = ap (λ (w : Request). row_of w) what

    covers : IsSome (grant_of call.answer.reply) ⊎ IsMissing call → CoversReads script.mode call id (reads script at row (call ∷ earlier))
    covers (inl some) =
        subst (λ (ns : List Number). CoversReads script.mode call id ns)
        (sym (no-read script at row call earlier (λ n. claim-reads-not script.mode call.ask.what call.answer.reply n row by how mask want what)))
        (subst (λ (b : BayNo). CoversReads script.mode call id (reads script b row earlier)) place (claim-covered script is earlier call along row below of by how mask want what some id))
    covers (inr (floor, said)) = record {
      number = floor;
      shown = subst (λ (r : Reply). ShowsNumber r floor) (sym said) refl;
      covers = all-map (λ (x : Number). x.0 ≤ floor.0) (λ (x : Number). (x.0 ≤ floor.0) ⊎ (x.0 < id.0)) (reads script at row (call ∷ earlier)) (λ n le. inl le)
          (floor-covers-reads script is earlier call along at row within below place of floor said);
      late = λ order r k m w asks some. absurd (let none : grant_of call.answer.reply ≡ None = ap grant_of said in let bad : false ≡ true = sym (ap is_some none) ∙ some in cc);
    }

-- a slot without a cell is not read
pub bare-unread : (script : Script) → IsScript script → (earlier : List Call) (call : Call) → IsHistory script (call ∷ earlier) → (at : BayNo) (row : RowNo) → row.0 < script.rows →
    cell_at script earlier row at ≡ None → reads script at row (call ∷ earlier) ≡ reads script at row earlier
bare-unread script is earlier call along at row below none = by (read-moved script at row call earlier)
  where
    by : ReadMove script at row call earlier → reads script at row (call ∷ earlier) ≡ reads script at row earlier
    by (Quiet same) = same
    by (Read place of n read now) =
        let r = read-at script is earlier call along row below of n read in
        let some : IsSome (cell_at script earlier row at) = subst (λ (b : BayNo). IsSome (cell_at script earlier row b)) place r.cell in
        absurd (let bad : false ≡ true = sym (ap (λ (o : Option Cell). is_some o) none) ∙ some in cc)
