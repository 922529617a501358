-- What a write in hand was shown of a row stays so: as long as the note of the row's parity came from it, and after that once it
-- has confirmed the row.
use Rattle.std.proofs.Common.{◌≡◌, ◌⊎◌, inl, inr, refl, sym, ap, subst, ◌∙◌, ℕ, ◌+◌, ◌-◌, ◌<◌, ◌≤◌, ◌&&◌, Bool, true, false, if◌then◌else◌, List, [], ◌∷◌, Option, Some, None, IsSome, arith}
use Rattle.std.proofs.lemmas.Bool.{eq-eqb}
use Rattle.raid_base.specs.declared.numbers.BayNo.{BayNo}
use Rattle.raid_base.specs.declared.numbers.HostNo.{HostNo}
use Rattle.raid_base.specs.declared.numbers.RowNo.{RowNo}
use Rattle.raid_base.specs.declared.numbers.Number.{Number}
use Rattle.raid_base.specs.declared.cells.Cell.{Cell}
use Rattle.raid_base.specs.declared.cells.Content.{Content}
use Rattle.raid_base.specs.declared.messages.Note.{Note}
use Rattle.raid_base.specs.declared.messages.How.{How}
use Rattle.raid_base.specs.declared.messages.How.TheVariants.{Plain, Seize, Mend}
use Rattle.raid_base.specs.declared.messages.Ask.{Ask}
use Rattle.raid_base.specs.declared.messages.Grant.{Grant}
use Rattle.raid_base.specs.declared.messages.Reply.{Reply}
use Rattle.raid_base.specs.declared.messages.Reply.TheVariants.{Granted, Busy, Late, Young, Missing, Held, NoNote, Done, Fault, Emptied, Fitted}
use Rattle.raid_base.specs.declared.messages.Request.{Request}
use Rattle.raid_base.specs.declared.messages.Request.TheVariants.{Share, Claim, Confirm, Put, Release, Lose, Fit}
use Rattle.raid_base.specs.declared.messages.Call.{Call}
use Rattle.raid_base.specs.declared.jobs.Task.{Task}
use Rattle.raid_base.specs.Fits.{fits, fits_claim, fits_confirm}
use Rattle.raid_base.specs.Replies.{is_fault, is_held, grant_of, held_of}
use Rattle.raid_base.specs.Steps.{Steps, Standing, settled, next_errand, errand_of}
use Rattle.stripe_layout.specs.Placement.{parity_bay, bay_of}
use Rattle.stripe_layout.specs.Layout.{HoldsUnit}
use Rattle.stripe_layout.proofs.LayoutLemmas.{covered}
use Rattle.raid_xor.specs.Parities.{parity_of}
use Rattle.slot_rules.specs.Slots.{Slot, Bay}
use Rattle.slot_rules.specs.Laws.{is_refused}
use Rattle.attempts.specs.Taking.{Finish}
use Rattle.attempts.specs.Phases as phases
use Rattle.attempts.specs.Phases.{IsIn, MayAsk, has_slot, is_due, after_asking}
use Rattle.attempts.specs.Sound.{Cells, cell_on, IsThis, GrantShows, HeldShows, ReplyShows}
use Rattle.attempts.proofs.PhaseLemmas.{slot_on, in-has}
use Rattle.script_text.specs.Script.{Script}
use Rattle.script_text.specs.Ranges.{IsScript}
use Rattle.histories.specs.Calls.{Happened, row_of, id_of, is_row, is_at, IsClaim, IsPut}
use Rattle.histories.specs.Hands.{Led, Phased, past_of}
use Rattle.histories.specs.Progress.{Progress, attempt}
use Rattle.histories.specs.History.{IsNext, IsHistory, progress_at, bay_at}
use Rattle.histories.proofs.hands.PhasedHands.{phased}
use Rattle.histories.specs.RowStates.{slot_at, cell_at}
use Rattle.serial_laws.specs.Laws.{content_at}
use Rattle.row_laws.specs.Hands.{HasHand, calls_at}
use Rattle.row_laws.specs.Holding.{HasNote, CameFrom}
use Rattle.serial_laws.specs.Contents.{base_at, cell_with, cells_with}
use Rattle.serial_laws.proofs.contents.ContentCalls.{call-within}
use Rattle.row_laws.proofs.hands.HandMoves.{may-next, Stays, Goes, Came, Stayed, Begun, Went, came}
use Rattle.row_laws.proofs.hands.HandClaims.{IsTake, next-new}
use Rattle.row_laws.proofs.hands.SlotMoves.{SlotMove, Kept, Touched, Lost, outcome_at, moved}
use Rattle.row_laws.proofs.hands.SlotMoves as moves
use Rattle.row_laws.proofs.hands.SlotDoes.{Does, Refuses, Closes, Grants, Shows, Holds, Puts, Frees, Leaves, slot-does, refused-none}
use Rattle.row_laws.proofs.holders.AnsweredFreeNotes.{held-now}
use Rattle.row_laws.proofs.holders.HolderNotesHands.{Confirms, Before, Now, confirmed-by, confirmed-late}
use Rattle.row_laws.proofs.owners.RowOwnersSlots.{does-at}
use Rattle.row_laws.proofs.owners.RowOwnersHands.{other-id}
use Rattle.row_laws.proofs.owners.RowOwnersCalls.{confirm-leaves}
use Rattle.row_laws.proofs.covered.CoveredPutsHands.{in-happened}
use Rattle.serial_laws.proofs.contents.ContentStates.{table, IsShownOf, AreShownIn, IsWriteTask, is_from, owned_at, IsWriteShown, AreHandsShown, AllHold}
use Rattle.serial_laws.proofs.contents.ContentFacts.{cells-same, table-unit, table-parity, tables-show}
use Rattle.serial_laws.proofs.reads.ShownTrees.{ParityGranted, TakesSo}
use Rattle.serial_laws.proofs.reads.ShownHands.{calls-take}
use Rattle.serial_laws.proofs.contents.ContentWriteFacts.{from-true, from-said, From, ParityAt, Opens, came-before, owned-base, owned-kept, base-stays, own-from, unput-base, put-late}
use Rattle.serial_laws.proofs.contents.ContentWritesHeld.{held-next}

-- What a request shows of a slot that it touches
refused-unheld : (r : Reply) → is_refused r ≡ true → held_of r ≡ None
refused-unheld (Granted cell read_no write_no last life seized) e = absurd (cc)
refused-unheld (Busy holder) e = refl
refused-unheld (Late above) e = refl
refused-unheld (Young note) e = refl
refused-unheld (Missing floor) e = refl
refused-unheld (Held cell) e = absurd (cc)
refused-unheld (NoNote life) e = refl
refused-unheld Done e = refl
refused-unheld Fault e = refl
refused-unheld Emptied e = refl
refused-unheld Fitted e = refl

wanted-this : (c : Cell) (want : Bool) (o : Option Cell) → IsThis c o → IsThis c (if want then o else None)
wanted-this c true o h = h
wanted-this c false o h = tt

module _ (n : ℕ) (cells : Cells) (at : BayNo) (row : RowNo) where
  none-grants : (c : Cell) (o : Option Grant) → o ≡ None → GrantShows c o
  none-grants c o none = subst (GrantShows c) (sym none) tt

  none-holds : (c : Cell) (o : Option (Option Cell)) → o ≡ None → HeldShows c o
  none-holds c o none = subst (HeldShows c) (sym none) tt

  refused-shows : (what : Request) (reply : Reply) → is_refused reply ≡ true → ReplyShows n cells at what reply
  refused-shows (Share r id want) reply refused = none-grants (cell_on n cells at r) (grant_of reply) (refused-none reply refused)
  refused-shows (Claim r id how mask want) reply refused = none-grants (cell_on n cells at r) (grant_of reply) (refused-none reply refused)
  refused-shows (Confirm r id want) reply refused = none-holds (cell_on n cells at r) (held_of reply) (refused-unheld reply refused)
  refused-shows (Put r id k cell) reply refused = tt
  refused-shows (Release r id k) reply refused = tt
  refused-shows Lose reply refused = tt
  refused-shows Fit reply refused = tt

  module _ (bay : Bay) (ask : Ask) (slot : Slot) (this : IsThis (cell_on n cells at row) slot.cell) where
    at-row : (r : RowNo) → Some r ≡ Some row → IsThis (cell_on n cells at r) slot.cell
    at-row r of = let same : r ≡ row = cc in subst (λ (x : RowNo). IsThis (cell_on n cells at x) slot.cell) (sym same) this

    does-show : (what : Request) (reply : Reply) (left : Slot) → Does bay ask slot what reply left → row_of what ≡ Some row → ReplyShows n cells at what reply
    does-show what reply left (Refuses r refused missing) of = refused-shows what r refused
    does-show what reply left (Closes there none) of = tt
    does-show what reply left (Grants {row = r} {want} claims) of =
        subst (λ (x : Reply). GrantShows (cell_on n cells at r) (grant_of x)) (sym claims.reply) (wanted-this (cell_on n cells at r) want slot.cell (at-row r of))
    does-show what reply left (Shows {row = r} {want} shares) of =
        subst (λ (x : Reply). GrantShows (cell_on n cells at r) (grant_of x)) (sym shares.reply) (wanted-this (cell_on n cells at r) want slot.cell (at-row r of))
    does-show what reply left (Holds {row = r} {want} own) of = wanted-this (cell_on n cells at r) want slot.cell (at-row r of)
    does-show what reply left (Puts own) of = tt
    does-show what reply left (Frees own) of = tt
    does-show what reply left (Leaves free reader found) of = tt

-- a call shows the cell of its slot
slot-shown : (script : Script) → IsScript script → (earlier : List Call) (call : Call) → IsNext script earlier call → (row : RowNo) → row.0 < script.rows → (n : ℕ) (cells : Cells) →
    row_of call.ask.what ≡ Some row → IsThis (cell_on n cells call.bay row) (cell_at script earlier row call.bay) → IsShownOf n cells call
slot-shown script is earlier call next row below n cells of this = by (moved script is earlier call next call.bay row below)
  where
    itself : is_at call.bay row call ≡ true
    itself =
        subst (λ (b : Bool). (b && is_row row (row_of call.ask.what)) ≡ true) (sym (eq-eqb call.bay.0 call.bay.0 refl)) (ap (λ (o : Option RowNo). is_row row o) of ∙ eq-eqb row.0 row.0 refl)

    by : SlotMove (bay_at script call.bay earlier) call.bay row call (bay_at script call.bay (call ∷ earlier)) → IsShownOf n cells call
    by (Kept slot empty life apart) = absurd (let bad : true ≡ false = sym itself ∙ apart in cc)
    by (Touched at_bay of_row reply slot empty life) =
        subst (λ (r : Reply). ReplyShows n cells call.bay call.ask.what r) (sym reply)
        (does-show n cells call.bay row (bay_at script call.bay earlier) call.ask (slot_at script earlier call.bay row) this call.ask.what (outcome_at (bay_at script call.bay earlier) row call).reply
        (outcome_at (bay_at script call.bay earlier) row call).slot
        (slot-does (bay_at script call.bay earlier) call.ask (slot_at script earlier call.bay row) (is_fault call.answer.reply) call.ask.what row of_row) of_row)
    by (Lost at_bay lost was slot empty life) = absurd (let bad : None ≡ Some row = ap (λ (w : Request). row_of w) (sym lost) ∙ of in cc)
    by (moves.Fitted at_bay fitted was slot empty life) = absurd (let bad : None ≡ Some row = ap (λ (w : Request). row_of w) (sym fitted) ∙ of in cc)

-- A cell that is not wanted is not shown
unwanted-grant : (c : Cell) (how : How) (reply : Reply) → fits_claim how false reply ≡ true → GrantShows c (grant_of reply)
unwanted-grant c how (Granted None read_no write_no last life seized) fit = tt
unwanted-grant c Plain (Granted (Some cell) read_no write_no last life seized) fit = absurd (cc)
unwanted-grant c Mend (Granted (Some cell) read_no write_no last life seized) fit = absurd (cc)
unwanted-grant c Seize (Granted (Some cell) read_no write_no last life seized) fit = absurd (cc)
unwanted-grant c how (Busy holder) fit = tt
unwanted-grant c how (Late above) fit = tt
unwanted-grant c how (Young note) fit = tt
unwanted-grant c how (Missing floor) fit = tt
unwanted-grant c how (Held cell) fit = tt
unwanted-grant c how (NoNote life) fit = tt
unwanted-grant c how Done fit = tt
unwanted-grant c how Fault fit = tt
unwanted-grant c how Emptied fit = tt
unwanted-grant c how Fitted fit = tt

pub unwanted-held : (c : Cell) (reply : Reply) → fits_confirm false reply ≡ true → HeldShows c (held_of reply)
unwanted-held c (Held None) fit = tt
unwanted-held c (Held (Some cell)) fit = absurd (cc)
unwanted-held c (Granted cell read_no write_no last life seized) fit = tt
unwanted-held c (Busy holder) fit = tt
unwanted-held c (Late above) fit = tt
unwanted-held c (Young note) fit = tt
unwanted-held c (Missing floor) fit = tt
unwanted-held c (NoNote life) fit = tt
unwanted-held c Done fit = tt
unwanted-held c Fault fit = tt
unwanted-held c Emptied fit = tt
unwanted-held c Fitted fit = tt

-- only a confirm that is held shows a cell
held-or-none : (c : Cell) (reply : Reply) → (is_held reply ≡ true) ⊎ HeldShows c (held_of reply)
held-or-none c (Held cell) = inl refl
held-or-none c (Granted cell read_no write_no last life seized) = inr tt
held-or-none c (Busy holder) = inr tt
held-or-none c (Late above) = inr tt
held-or-none c (Young note) = inr tt
held-or-none c (Missing floor) = inr tt
held-or-none c (NoNote life) = inr tt
held-or-none c Done = inr tt
held-or-none c Fault = inr tt
held-or-none c Emptied = inr tt
held-or-none c Fitted = inr tt

-- the replies to the calls of an attempt fit
led-fits : (host : HostNo) (start : Standing Finish) (calls : List Call) (now : Standing Finish) → Led host start calls now → (call : Call) → IsIn call calls → fits call.ask.what call.answer.reply ≡ true
led-fits host start [] now led call i = absurd i
led-fits host start (first ∷ calls) now (before, led, asked, fit, later) call (inl same) = subst (λ (c : Call). fits c.ask.what c.answer.reply ≡ true) same fit
led-fits host start (first ∷ calls) now (before, led, asked, fit, later) call (inr i) = led-fits host start calls before led call i

each-shown : (n : ℕ) (row : RowNo) (cells : Cells) (calls : List Call) → ((call : Call) → IsIn call calls → row_of call.ask.what ≡ Some row → IsShownOf n cells call) → AreShownIn n row cells calls
each-shown n row cells [] h = tt
each-shown n row cells (call ∷ calls) h = (λ of. h call (inl refl) of, each-shown n row cells calls (λ c i of. h c (inr i) of))

-- a granted claim of a parity
parity-granted : (n : ℕ) (row : RowNo) (calls : List Call) → ParityGranted n row calls → IsIn (slot_on row (parity_bay n row)) (past_of calls).granted
parity-granted n row [] h = absurd h
parity-granted n row (call ∷ calls) (inl ((place, id, how, mask, want, what), some)) =
    subst (λ (w : Request). IsIn (slot_on row (parity_bay n row)) (after_asking (past_of calls) call.bay w call.answer.reply).granted) (sym what) (by (grant_of call.answer.reply) some)
  where
    by : (o : Option Grant) → IsSome o → IsIn (slot_on row (parity_bay n row)) (phases.grants o (slot_on row call.bay) (past_of calls).granted)
    by None bad = absurd (cc)
    by (Some grant) is = inl (ap (slot_on row) place)
parity-granted n row (call ∷ calls) (inr h) = by call.ask.what (parity-granted n row calls h)
  where
    grown : (o : Option Grant) (slot other : phases.Slot) (slots : List phases.Slot) → IsIn slot slots → IsIn slot (phases.grants o other slots)
    grown None slot other slots i = i
    grown (Some grant) slot other slots i = inr i

    by : (what : Request) → IsIn (slot_on row (parity_bay n row)) (past_of calls).granted → IsIn (slot_on row (parity_bay n row)) (after_asking (past_of calls) call.bay what call.answer.reply).granted
    by (Share r id want) i = i
    by (Claim r id how mask want) i = grown (grant_of call.answer.reply) (slot_on row (parity_bay n row)) (slot_on r call.bay) (past_of calls).granted i
    by (Confirm r id want) i = i
    by (Put r id k cell) i = i
    by (Release r id k) i = i
    by Lose i = i
    by Fit i = i

-- A write whose claim of the parity was not granted was shown nothing of the row
module _ (script : Script) (is : IsScript script) (history : List Call) (along : IsHistory script history) (host : HostNo) (steps : Steps Finish) (h : HasHand script history host steps) (writes : IsWriteTask h.hand.task)
    (row : RowNo) (cells : Cells) where
  abbrev Made : List Call
  Made = calls_at script history host

  ungranted-shown : (ParityGranted script.n row (Made) → ⊥) → AreShownIn script.n row cells (Made)
  ungranted-shown none = each-shown script.n row cells (Made) each
    where
      each : (call : Call) → IsIn call (Made) → row_of call.ask.what ≡ Some row → IsShownOf script.n cells call
      each call i of = by call.ask.what refl of fit
        where
          takes : TakesSo script.n (Made) (errand_of call)
          takes = calls-take script is history along host steps h writes call i

          fit : fits call.ask.what call.answer.reply ≡ true
          fit =
              let p : Progress = progress_at script host history in
              led-fits host (settled host h.hand.id (attempt script host h.hand.id p.row h.hand.task)) p.calls (record { seen = p.seen; steps = steps }) h.hand.led call i

          claimed : (c : Cell) → IsClaim (parity_bay script.n row) row call → GrantShows c (grant_of call.answer.reply)
          claimed c claim = go (grant_of call.answer.reply) refl
            where
              go : (o : Option Grant) → grant_of call.answer.reply ≡ o → GrantShows c o
              go None e = tt
              go (Some grant) e =
                  absurd (none (in-happened (λ x. IsClaim (parity_bay script.n row) row x × IsSome (grant_of x.answer.reply)) call (Made) i (claim, subst (λ (o : Option Grant). IsSome o) (sym e) refl)))

          other : (c : Cell) (how : How) (want : Bool) → fits_claim how want call.answer.reply ≡ true → (want ≡ true → ParityGranted script.n row (Made)) → GrantShows c (grant_of call.answer.reply)
          other c how true fit wants = absurd (none (wants refl))
          other c how false fit wants = unwanted-grant c how call.answer.reply fit

          at : (r : RowNo) (id : Number) (how : How) (mask : ℕ) (want : Bool) → call.ask.what ≡ Claim row id how mask want → fits_claim how want call.answer.reply ≡ true →
              (call.bay ≡ parity_bay script.n row) ⊎ (Happened (IsClaim (parity_bay script.n row) row) (Made) × (want ≡ true → ParityGranted script.n row (Made))) →
              GrantShows (cell_on script.n cells call.bay r) (grant_of call.answer.reply)
          at r id how mask want e fit (inl place) = claimed (cell_on script.n cells call.bay r) (place, id, how, mask, want, e)
          at r id how mask want e fit (inr (first, wants)) = other (cell_on script.n cells call.bay r) how want fit wants

          confirms : (r : RowNo) (id : Number) (want : Bool) → call.ask.what ≡ Confirm row id want → fits_confirm want call.answer.reply ≡ true →
              HeldShows (cell_on script.n cells call.bay r) (held_of call.answer.reply)
          confirms r id true e fit = absurd (none (takes.confirms row id e))
          confirms r id false e fit = unwanted-held (cell_on script.n cells call.bay r) call.answer.reply fit

          by : (what : Request) → call.ask.what ≡ what → row_of what ≡ Some row → fits what call.answer.reply ≡ true → ReplyShows script.n cells call.bay what call.answer.reply
          by (Share r id want) e of fit = let same : r ≡ row = cc in absurd (none (takes.shares row id want (e ∙ ap (λ (x : RowNo). Share x id want) same)))
          by (Claim r id how mask want) e of fit =
              let same : r ≡ row = cc in
              let is_claim : call.ask.what ≡ Claim row id how mask want = e ∙ ap (λ (x : RowNo). Claim x id how mask want) same in
              at r id how mask want is_claim fit (takes.claims row id how mask want is_claim)
          by (Confirm r id want) e of fit = let same : r ≡ row = cc in confirms r id want (e ∙ ap (λ (x : RowNo). Confirm x id want) same) fit
          by (Put r id k cell) e of fit = tt
          by (Release r id k) e of fit = tt
          by Lose e of fit = tt
          by Fit e of fit = tt

module _ (script : Script) (is : IsScript script) (row : RowNo) (below : row.0 < script.rows) (earlier : List Call) (call : Call) (along : IsHistory script (call ∷ earlier)) where
  abbrev P : BayNo
  P = parity_bay script.n row

  abbrev Is : Number → List Call → Type 0
  Is = From script is row below

  abbrev NoteNow : Option Note
  NoteNow = (ParityAt script is row below (call ∷ earlier)).note

  -- the contents that an attempt owned last
  abbrev OwnedAt : Number → List Call → Cells
  OwnedAt id history = table script.n (owned_at script id history) (owned_at script id history)

  abbrev Shown : Number → List Call → List Call → Type 0
  Shown id history calls = AreShownIn script.n row (OwnedAt id history) calls

  -- the same contents show the same
  same-shown : (id : Number) (calls : List Call) → ((unit : ℕ) → owned_at script id (call ∷ earlier) row unit ≡ owned_at script id earlier row unit) → Shown id earlier calls → Shown id (call ∷ earlier) calls
  same-shown id calls same h =
      tables-show script.n (owned_at script id earlier) (owned_at script id earlier) (owned_at script id (call ∷ earlier)) (owned_at script id (call ∷ earlier)) row calls
      (λ unit inside. sym (same unit)) (λ unit inside. sym (same unit)) h

  still-base : (id : Number) → Is id (call ∷ earlier) → (unit : ℕ) → owned_at script id (call ∷ earlier) row unit ≡ base_at script earlier row unit
  still-base id now unit = owned-base script is row below id (call ∷ earlier) now unit ∙ base-stays script is row below earlier call along id now unit

  kept-shown : (id : Number) (calls : List Call) → Is id earlier → Is id (call ∷ earlier) → Shown id earlier calls → Shown id (call ∷ earlier) calls
  kept-shown id calls before now = same-shown id calls (λ unit. still-base id now unit ∙ sym (owned-base script is row below id earlier before unit))

  past-shown : (id : Number) (calls : List Call) → is_from id (NoteNow) ≡ false → Shown id earlier calls → Shown id (call ∷ earlier) calls
  past-shown id calls other = same-shown id calls (owned-kept script is row below id earlier call other)

  -- The write asked the call
  module _ (host : HostNo) (steps : Steps Finish) (b : HasHand script earlier host steps) (writes : IsWriteTask b.hand.task) (asked : next_errand steps ≡ Some (errand_of call)) (holds : AllHold script earlier) where
    abbrev Calls : List Call
    Calls = calls_at script earlier host

    abbrev T : Cells
    T = OwnedAt b.hand.id (call ∷ earlier)

    past : Phased script.n b.hand.id (Calls) steps
    past = phased script is host (progress_at script host earlier) steps b.hand

    may-ask : MayAsk script.n b.hand.id (past).past call.bay call.ask.what
    may-ask = may-next script.n b.hand.id (past).past steps (errand_of call) (past).keeps asked

    may-as : (what : Request) → call.ask.what ≡ what → MayAsk script.n b.hand.id (past).past call.bay what
    may-as what e = subst (λ (w : Request). MayAsk script.n b.hand.id (past).past call.bay w) e may-ask

    early : (past).past.phase ≤ 0 → (past_of (Calls)).phase ≤ 0
    early low = let less : (past_of (Calls)).phase ≤ (past).past.phase = (past).same.phase in omega (arith, low, less)

    is-shown : (what : Request) → call.ask.what ≡ what → ReplyShows script.n (T) call.bay what call.answer.reply → IsShownOf script.n (T) call
    is-shown what e h = subst (λ (w : Request). ReplyShows script.n (T) call.bay w call.answer.reply) (sym e) h

    -- cells of the row before the call
    module _ (now : Is b.hand.id (call ∷ earlier)) where
      abbrev Owned : ℕ → Content
      Owned = owned_at script b.hand.id (call ∷ earlier) row

      parity-cell : IsThis (cell_on script.n (T) (P) row) (cell_at script earlier row (P))
      parity-cell =
          let same : cell_on script.n (T) (P) row ≡ parity_of (cells_with script.n (base_at script earlier row)) =
          table-parity script.n is.devices_least (owned_at script b.hand.id (call ∷ earlier)) (owned_at script b.hand.id (call ∷ earlier)) row
          ∙ ap parity_of (cells-same script.n (Owned) (base_at script earlier row) (λ unit inside. still-base b.hand.id now unit)) in
          subst (λ (c : Cell). IsThis c (cell_at script earlier row (P))) (sym same) (holds row below).parity

      unit-cell : Is b.hand.id earlier → (past_of (Calls)).phase ≤ 0 → (unit : ℕ) → unit + 1 < script.n →
          IsThis (cell_on script.n (T) (bay_of script.n row unit) row) (cell_at script earlier row (bay_of script.n row unit))
      unit-cell before low unit inside =
          let none : Happened (IsPut (bay_of script.n row unit) row b.hand.id) (Calls) → ⊥ =
          (λ h. let late : 1 ≤ (past_of (Calls)).phase = put-late (bay_of script.n row unit) row b.hand.id (Calls) h in absurd (omega (arith, low, late))) in
          let content : content_at script earlier row unit ≡ base_at script earlier row unit = unput-base script is row below earlier along.0 host steps b writes before unit inside none in
          let same : cell_on script.n (T) (bay_of script.n row unit) row ≡ cell_with unit (content_at script earlier row unit) =
          table-unit script.n is.devices_least (owned_at script b.hand.id (call ∷ earlier)) (owned_at script b.hand.id (call ∷ earlier)) row unit inside
          ∙ ap (λ (c : Content). cell_with unit c) (still-base b.hand.id now unit ∙ sym content) in
          subst (λ (c : Cell). IsThis c (cell_at script earlier row (bay_of script.n row unit))) (sym same) ((holds row below).units unit inside)

      bay-cell : Is b.hand.id earlier → (past_of (Calls)).phase ≤ 0 → (at : BayNo) → at.0 < script.n → IsThis (cell_on script.n (T) at row) (cell_at script earlier row at)
      bay-cell before low at within = by (covered script.n row at is.devices_least within)
        where
          by : (at ≡ P) ⊎ ((unit : ℕ) × HoldsUnit script.n row at unit) → IsThis (cell_on script.n (T) at row) (cell_at script earlier row at)
          by (inl same) = subst (λ (x : BayNo). IsThis (cell_on script.n (T) x row) (cell_at script earlier row x)) (sym same) parity-cell
          by (inr (unit, unit_here)) =
              let less : unit < script.n - 1 = unit_here.unit_in in
              subst (λ (x : BayNo). IsThis (cell_on script.n (T) x row) (cell_at script earlier row x)) unit_here.stands (unit-cell before low unit (omega (arith, less)))

      -- the call shows its cell
      call-shown : row_of call.ask.what ≡ Some row → IsThis (cell_on script.n (T) call.bay row) (cell_at script earlier row call.bay) → IsShownOf script.n (T) call
      call-shown = slot-shown script is earlier call along.1 row below script.n (T)

      at-parity : call.bay ≡ P → IsThis (cell_on script.n (T) call.bay row) (cell_at script earlier row call.bay)
      at-parity place = subst (λ (x : BayNo). IsThis (cell_on script.n (T) x row) (cell_at script earlier row x)) (sym place) parity-cell

      opens-shown : Opens script is row below earlier call along b.hand.id → row_of call.ask.what ≡ Some row → IsShownOf script.n (T) call
      opens-shown opens of = call-shown of (at-parity opens.claimed.place)

      next-shown : Is b.hand.id earlier → row_of call.ask.what ≡ Some row → IsShownOf script.n (T) call
      next-shown before of = by call.ask.what refl
        where
          taken : (past).past.phase ≤ 0 → IsShownOf script.n (T) call
          taken low = call-shown of (bay-cell before (early low) call.bay (call-within script is earlier call along))

          by : (what : Request) → call.ask.what ≡ what → IsShownOf script.n (T) call
          by (Share r id want) e = taken (may-as (Share r id want) e).1
          by (Claim r id how mask want) e = taken (may-as (Claim r id how mask want) e).1
          by (Confirm r id want) e =
              let same : r ≡ row = (let both : Some r ≡ Some row = ap (λ (w : Request). row_of w) (sym e) ∙ of in cc) in
              call-shown of (at-parity ((may-as (Confirm r id want) e).2 ∙ ap (λ (x : RowNo). parity_bay script.n x) same))
          by (Put r id k cell) e = is-shown (Put r id k cell) e tt
          by (Release r id k) e = is-shown (Release r id k) e tt
          by Lose e = is-shown Lose e tt
          by Fit e = is-shown Fit e tt

    -- the claim of the parity comes before all else of the row
    opens-first : Opens script is row below earlier call along b.hand.id → Shown b.hand.id (call ∷ earlier) (Calls)
    opens-first opens =
        ungranted-shown script is earlier along.0 host steps b writes row (T)
        (λ h. next-new script is earlier host steps b call asked (P) row (inr claim) (claims (Calls) h))
      where
        claim : IsClaim (P) row call
        claim = let c = opens.claimed in (c.place, c.id, c.how, c.mask, c.want, c.what)

        claims : (calls : List Call) → ParityGranted script.n row calls → Happened (IsTake (P) row) calls
        claims [] h = absurd h
        claims (c ∷ calls) (inl h) = inl (inr h.0)
        claims (c ∷ calls) (inr h) = inr (claims calls h)

    -- The note of the parity is another's
    module _ (other : is_from b.hand.id (NoteNow) ≡ false) where
      -- a confirm is not held
      unheld : (r : RowNo) (id : Number) (want : Bool) → call.ask.what ≡ Confirm r id want → r ≡ row → is_held call.answer.reply ≡ true → ⊥
      unheld r id want e here held = by (moved script is earlier call along.1 (P) row below)
        where
          what : call.ask.what ≡ Confirm row id want
          what = e ∙ ap (λ (x : RowNo). Confirm x id want) here

          may : MayAsk script.n b.hand.id (past).past call.bay (Confirm row id want)
          may = may-as (Confirm row id want) what

          from : Is b.hand.id earlier
          from =
              own-from script is row below earlier along.0 host steps b writes
              (subst (λ (x : Number). HasNote x (ParityAt script is row below earlier).note) may.0 (held-now script is (P) row below earlier call along.1 id want may.2 what held))

          no-way : slot_at script (call ∷ earlier) (P) row ≡ slot_at script earlier (P) row → ⊥
          no-way kept =
              let now : Is b.hand.id (call ∷ earlier) = subst (λ (s : Slot). CameFrom b.hand.id s.note) (sym kept) from in
              let bad : true ≡ false = sym (from-true b.hand.id (NoteNow) now) ∙ other in
              absurd (cc)

          by : SlotMove (bay_at script (P) earlier) (P) row call (bay_at script (P) (call ∷ earlier)) → ⊥
          by (Kept slot empty life apart) = no-way slot
          by (Touched at_bay of_row reply slot empty life) =
              no-way (confirm-leaves (bay_at script (P) earlier) call.ask (slot_at script earlier (P) row) row id id want call.ask.what call.answer.reply (slot_at script (call ∷ earlier) (P) row)
              (does-at script is earlier call along.1 (P) row below of_row reply slot) what)
          by (Lost at_bay lost was slot empty life) = let bad : Lose ≡ Confirm row id want = sym lost ∙ what in absurd (cc)
          by (moves.Fitted at_bay fitted was slot empty life) = let bad : Fit ≡ Confirm row id want = sym fitted ∙ what in absurd (cc)

      confirm-shown : (r : RowNo) (id : Number) (want : Bool) → call.ask.what ≡ Confirm r id want → r ≡ row → (is_held call.answer.reply ≡ true) ⊎ HeldShows (cell_on script.n (T) call.bay r) (held_of call.answer.reply) →
          IsShownOf script.n (T) call
      confirm-shown r id want e here (inl held) = absurd (unheld r id want e here held)
      confirm-shown r id want e here (inr shows) = is-shown (Confirm r id want) e shows

      -- a write that has confirmed the row takes nothing of it any more
      later-shown : IsIn row (past_of (Calls)).confirmed → row_of call.ask.what ≡ Some row → IsShownOf script.n (T) call
      later-shown confirmed of = by call.ask.what refl
        where
          late : 1 ≤ (past_of (Calls)).phase
          late = confirmed-late (Calls) row confirmed

          taken : (past).past.phase ≤ 0 → IsShownOf script.n (T) call
          taken low = let less : (past_of (Calls)).phase ≤ 0 = early low in let more : 1 ≤ (past_of (Calls)).phase = late in absurd (omega (arith, less, more))

          by : (what : Request) → call.ask.what ≡ what → IsShownOf script.n (T) call
          by (Share r id want) e = taken (may-as (Share r id want) e).1
          by (Claim r id how mask want) e = taken (may-as (Claim r id how mask want) e).1
          by (Confirm r id want) e =
              let same : r ≡ row = (let both : Some r ≡ Some row = ap (λ (w : Request). row_of w) (sym e) ∙ of in cc) in
              confirm-shown r id want e same (held-or-none (cell_on script.n (T) call.bay r) call.answer.reply)
          by (Put r id k cell) e = is-shown (Put r id k cell) e tt
          by (Release r id k) e = is-shown (Release r id k) e tt
          by Lose e = is-shown Lose e tt
          by Fit e = is-shown Fit e tt

      -- a confirm that is due shows that the parity was not granted
      due-ungranted : (id : Number) (want : Bool) → call.ask.what ≡ Confirm row id want → is_due (has_slot (slot_on row call.bay) (past_of (Calls)).granted) call.answer.reply ≡ true →
          ParityGranted script.n row (call ∷ Calls) → ⊥
      due-ungranted id want e due (inl ((place, by, how, mask, wants, what), some)) = let bad : Confirm row id want ≡ Claim row by how mask wants = sym e ∙ what in absurd (cc)
      due-ungranted id want e due (inr granted) =
          let may : MayAsk script.n b.hand.id (past).past call.bay (Confirm row id want) = may-as (Confirm row id want) e in
          let has : has_slot (slot_on row (P)) (past_of (Calls)).granted ≡ true = in-has (slot_on row (P)) (past_of (Calls)).granted (parity-granted script.n row (Calls) granted) in
          let held : is_due true call.answer.reply ≡ true =
          subst (λ (t : Bool). is_due t call.answer.reply ≡ true) has (subst (λ (x : BayNo). is_due (has_slot (slot_on row x) (past_of (Calls)).granted) call.answer.reply ≡ true) may.2 due) in
          unheld row id want e refl held

pub shown-next : (script : Script) → (is : IsScript script) → (earlier : List Call) (call : Call) → IsHistory script (call ∷ earlier) → AllHold script earlier → AreHandsShown script earlier →
    (host : HostNo) (steps : Steps Finish) (h : HasHand script (call ∷ earlier) host steps) (row : RowNo) → (below : row.0 < script.rows) → IsWriteTask h.hand.task →
    CameFrom h.hand.id (slot_at script (call ∷ earlier) (parity_bay script.n row) row).note ⊎ IsIn row (past_of (calls_at script (call ∷ earlier) host)).confirmed →
    AreShownIn script.n row (table script.n (owned_at script h.hand.id (call ∷ earlier)) (owned_at script h.hand.id (call ∷ earlier))) (calls_at script (call ∷ earlier) host)
shown-next script is earlier call along holds shown host steps h row below writes owns =
    by (is_from h.hand.id (ParityAt script is row below (call ∷ earlier)).note) refl (came script is earlier call along.0 along.1 host steps h)
  where
    same-task : (task : Task) → task ≡ h.hand.task → IsWriteTask task
    same-task task same = subst IsWriteTask (sym same) writes

    -- what was shown before
    old : (s : Steps Finish) (b : HasHand script earlier host s) → b.hand.id ≡ h.hand.id → b.hand.task ≡ h.hand.task →
        From script is row below h.hand.id earlier ⊎ IsIn row (past_of (calls_at script earlier host)).confirmed → Shown script is row below earlier call along h.hand.id earlier (calls_at script earlier host)
    old s b id task owned =
        subst (λ (x : Number). From script is row below x earlier ⊎ IsIn row (past_of (calls_at script earlier host)).confirmed → Shown script is row below earlier call along x earlier (calls_at script earlier host)) id
        (shown.writes host s b row below (same-task b.hand.task task)).shown owned

    at : (calls : List Call) → calls_at script (call ∷ earlier) host ≡ calls → Shown script is row below earlier call along h.hand.id (call ∷ earlier) calls →
        Shown script is row below earlier call along h.hand.id (call ∷ earlier) (calls_at script (call ∷ earlier) host)
    at calls same all = subst (λ (cs : List Call). Shown script is row below earlier call along h.hand.id (call ∷ earlier) cs) (sym same) all

    -- with the id that it had before
    named : (s : Steps Finish) (b : HasHand script earlier host s) → b.hand.id ≡ h.hand.id → (calls : List Call) → Shown script is row below earlier call along b.hand.id (call ∷ earlier) calls →
        Shown script is row below earlier call along h.hand.id (call ∷ earlier) calls
    named s b id calls all = subst (λ (x : Number). Shown script is row below earlier call along x (call ∷ earlier) calls) id all

    stays-from : From script is row below h.hand.id (call ∷ earlier) →
        (s : Stays script is earlier call along.0 along.1 host steps h.hand.id h.hand.task (calls_at script (call ∷ earlier) host)) →
        From script is row below h.hand.id earlier ⊎ Opens script is row below earlier call along h.hand.id →
        Shown script is row below earlier call along h.hand.id (call ∷ earlier) (calls_at script earlier host)
    stays-from now s (inl before) =
        kept-shown script is row below earlier call along h.hand.id (calls_at script earlier host) before now (old steps s.before s.same_id s.same_task (inl before))
    stays-from now s (inr opens) =
        absurd (other-id script is earlier call along host h.hand.id s.other h.hand.own (ap (λ (w : Request). id_of w) opens.claimed.what ∙ ap (λ (x : Number). Some x) opens.own))

    goes-from : From script is row below h.hand.id (call ∷ earlier) →
        (g : Goes script is earlier call along.0 along.1 host h.hand.id h.hand.task (calls_at script (call ∷ earlier) host)) →
        From script is row below h.hand.id earlier ⊎ Opens script is row below earlier call along h.hand.id →
        Shown script is row below earlier call along h.hand.id (call ∷ earlier) (call ∷ calls_at script earlier host)
    goes-from now g (inl before) =
        let w : IsWriteTask g.before.hand.task = same-task g.before.hand.task g.same_task in
        let new : From script is row below g.before.hand.id (call ∷ earlier) = subst (λ (x : Number). From script is row below x (call ∷ earlier)) (sym g.same_id) now in
        let was : From script is row below g.before.hand.id earlier = subst (λ (x : Number). From script is row below x earlier) (sym g.same_id) before in
        named g.steps g.before g.same_id (call ∷ calls_at script earlier host) (
          λ of. next-shown script is row below earlier call along host g.steps g.before w g.asked holds new was of,
          kept-shown script is row below earlier call along g.before.hand.id (calls_at script earlier host) was new ((shown.writes host g.steps g.before row below w).shown (inl was)),
        )
    goes-from now g (inr opens) =
        let w : IsWriteTask g.before.hand.task = same-task g.before.hand.task g.same_task in
        let new : From script is row below g.before.hand.id (call ∷ earlier) = subst (λ (x : Number). From script is row below x (call ∷ earlier)) (sym g.same_id) now in
        let first : Opens script is row below earlier call along g.before.hand.id = subst (λ (x : Number). Opens script is row below earlier call along x) (sym g.same_id) opens in
        named g.steps g.before g.same_id (call ∷ calls_at script earlier host) (
          λ of. opens-shown script is row below earlier call along host g.steps g.before w g.asked holds new first of,
          opens-first script is row below earlier call along host g.steps g.before w g.asked holds first,
        )

    goes-past : is_from h.hand.id (ParityAt script is row below (call ∷ earlier)).note ≡ false →
        (g : Goes script is earlier call along.0 along.1 host h.hand.id h.hand.task (calls_at script (call ∷ earlier) host)) →
        Confirms row (past_of (calls_at script earlier host)) call.bay call.ask.what call.answer.reply → Shown script is row below earlier call along h.hand.id (call ∷ earlier) (calls_at script (call ∷ earlier) host)
    goes-past other g (Before i) =
        let w : IsWriteTask g.before.hand.task = same-task g.before.hand.task g.same_task in
        let apart : is_from g.before.hand.id (ParityAt script is row below (call ∷ earlier)).note ≡ false =
        subst (λ (x : Number). is_from x (ParityAt script is row below (call ∷ earlier)).note ≡ false) (sym g.same_id) other in
        at (call ∷ calls_at script earlier host) g.calls
        (named g.steps g.before g.same_id (call ∷ calls_at script earlier host) (
          λ of. later-shown script is row below earlier call along host g.steps g.before w g.asked holds apart i of,
          past-shown script is row below earlier call along g.before.hand.id (calls_at script earlier host) apart ((shown.writes host g.steps g.before row below w).shown (inr i)),
        ))
    goes-past other g (Now id want what due) =
        let w : IsWriteTask g.before.hand.task = same-task g.before.hand.task g.same_task in
        let apart : is_from g.before.hand.id (ParityAt script is row below (call ∷ earlier)).note ≡ false =
        subst (λ (x : Number). is_from x (ParityAt script is row below (call ∷ earlier)).note ≡ false) (sym g.same_id) other in
        ungranted-shown script is (call ∷ earlier) along host steps h writes row (OwnedAt script is row below earlier call along h.hand.id (call ∷ earlier))
        (λ granted. due-ungranted script is row below earlier call along host g.steps g.before w g.asked holds apart id want what due
        (subst (λ (cs : List Call). ParityGranted script.n row cs) g.calls granted))

    confirmed : is_from h.hand.id (ParityAt script is row below (call ∷ earlier)).note ≡ false → IsIn row (past_of (calls_at script (call ∷ earlier) host)).confirmed
    confirmed other = from owns
      where
        from : CameFrom h.hand.id (slot_at script (call ∷ earlier) (parity_bay script.n row) row).note ⊎ IsIn row (past_of (calls_at script (call ∷ earlier) host)).confirmed →
            IsIn row (past_of (calls_at script (call ∷ earlier) host)).confirmed
        from (inl now) = absurd (let bad : true ≡ false = sym (from-true h.hand.id (ParityAt script is row below (call ∷ earlier)).note now) ∙ other in cc)
        from (inr i) = i

    by : (b : Bool) → is_from h.hand.id (ParityAt script is row below (call ∷ earlier)).note ≡ b →
        Came script is earlier call along.0 along.1 host steps h.hand.id h.hand.task (calls_at script (call ∷ earlier) host) →
        Shown script is row below earlier call along h.hand.id (call ∷ earlier) (calls_at script (call ∷ earlier) host)
    by b e (Begun own bare) = at [] bare tt
    by true e (Stayed s) =
        let now : From script is row below h.hand.id (call ∷ earlier) = from-said h.hand.id (ParityAt script is row below (call ∷ earlier)).note e in
        at (calls_at script earlier host) s.calls (stays-from now s (came-before script is row below earlier call along h.hand.id now))
    by true e (Went g) =
        let now : From script is row below h.hand.id (call ∷ earlier) = from-said h.hand.id (ParityAt script is row below (call ∷ earlier)).note e in
        at (call ∷ calls_at script earlier host) g.calls (goes-from now g (came-before script is row below earlier call along h.hand.id now))
    by false e (Stayed s) =
        let i : IsIn row (past_of (calls_at script earlier host)).confirmed = subst (λ (cs : List Call). IsIn row (past_of cs).confirmed) s.calls (confirmed e) in
        at (calls_at script earlier host) s.calls
        (past-shown script is row below earlier call along h.hand.id (calls_at script earlier host) e (old steps s.before s.same_id s.same_task (inr i)))
    by false e (Went g) =
        goes-past e g (confirmed-by row (past_of (calls_at script earlier host)) call.bay call.ask.what call.answer.reply
        (subst (λ (cs : List Call). IsIn row (past_of cs).confirmed) g.calls (confirmed e)))

-- What a write was shown stays so with each call.
pub writes-next : (script : Script) → IsScript script → (earlier : List Call) (call : Call) → IsHistory script (call ∷ earlier) → AllHold script earlier → AreHandsShown script earlier →
    (host : HostNo) (steps : Steps Finish) (h : HasHand script (call ∷ earlier) host steps) (row : RowNo) → row.0 < script.rows → IsWriteTask h.hand.task →
    IsWriteShown script (call ∷ earlier) host steps h row
writes-next script is earlier call along holds shown host steps h row below writes = record {
  shown = shown-next script is earlier call along holds shown host steps h row below writes;
  held = λ now unit inside. held-next script is earlier call along shown host steps h row below writes now unit inside;
}
