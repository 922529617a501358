-- Whose note stands in a slot: it was there before a call, or the call claimed the slot with its id. An empty bay has none, and
-- a seizure that finds no cell leaves none.
use Rattle.std.proofs.Common.{◌≡◌, ◌⊎◌, inl, inr, refl, sym, ap, subst, ◌∙◌, ℕ, ◌<◌, ◌==◌, Bool, true, false, if◌then◌else◌, not, ◌&&◌, List, [], ◌∷◌, find, Option, Some, None, IsSome, is_some, arith}
use Rattle.std.proofs.lemmas.Bool.Decides.{nat_tests}
use Rattle.raid_base.specs.declared.numbers.BayNo.{BayNo}
use Rattle.raid_base.specs.declared.numbers.RowNo.{RowNo}
use Rattle.raid_base.specs.declared.numbers.Number.{Number}
use Rattle.raid_base.specs.declared.cells.Cell.{Cell}
use Rattle.raid_base.specs.declared.messages.How.{How}
use Rattle.raid_base.specs.declared.messages.How.TheVariants.{Seize}
use Rattle.raid_base.specs.declared.messages.Note.{Note}
use Rattle.raid_base.specs.declared.messages.Ask.{Ask}
use Rattle.raid_base.specs.declared.messages.Reply.{Reply}
use Rattle.raid_base.specs.declared.messages.Reply.TheVariants.{Granted, Busy, Late, Young, Missing, Held, NoNote, Done, Fault, Emptied, Fitted}
use Rattle.raid_base.specs.declared.messages.Request.{Request}
use Rattle.raid_base.specs.declared.messages.Request.TheVariants.{Claim, Confirm}
use Rattle.raid_base.specs.declared.messages.Call.{Call}
use Rattle.raid_base.specs.Replies.{is_fault, grant_of, is_held, is_missing}
use Rattle.slot_rules.specs.declared.Reader.{Reader}
use Rattle.slot_rules.specs.Slots.{Slot, Bay, slot_of}
use Rattle.slot_rules.specs.Rules.{SlotOutcome, keeps, wanted_cell, note_id, may_seize, slot_floor, young_note, seize_granted, seize_unread, seize_blank, seize_noted}
use Rattle.slot_rules.specs.Serving.{slot_rule}
use Rattle.slot_rules.specs.Laws.{is_refused, claimed_note}
use Rattle.script_text.specs.Script.{Script}
use Rattle.script_text.specs.Ranges.{IsScript}
use Rattle.histories.specs.Calls.{row_of, is_row, is_at}
use Rattle.histories.specs.History.{IsNext, IsHistory, bay_at}
use Rattle.histories.specs.RowStates.{slot_at}
use Rattle.row_laws.specs.Holding.{HasNote}
use Rattle.row_laws.proofs.hands.SlotMoves.{SlotMove, Kept, Touched, Lost, outcome_at, moved}
use Rattle.row_laws.proofs.hands.SlotMoves as moves
use Rattle.row_laws.proofs.hands.SlotDoes.{IsGone, Claims, Does, Refuses, Closes, Grants, Shows, Holds, Puts, Frees, Leaves, slot-does, claimed-id, refused-grants}
use Rattle.histories.proofs.steps.BayRows.{starts-first}

-- a claim of this row with this id
abbrev pub Takes : RowNo → Number → Request → Type 0
Takes row id what = (how : How) × (mask : ℕ) × (want : Bool) × (what ≡ Claim row id how mask want)

kept : (id : Number) (a b : Option Note) → a ≡ b → HasNote id a → HasNote id b
kept id a b same h = subst (HasNote id) same h

named-own : (note : Option Note) (id : Number) → note_id note id ≡ true → HasNote id note
named-own None id e = absurd (let bad : false ≡ true = e in cc)
named-own (Some note) id e = let same : note.id.0 ≡ id.0 = grind (arith, nat_tests) in ap (λ (k : ℕ). let x : Number = record { 0 = k } in x) same

no-way : {X : Type 0} → false ≡ true → X
no-way h = absurd (cc)

refused-held : {X : Type 0} (r : Reply) → is_refused r ≡ true → is_held r ≡ true → X
refused-held (Granted cell read_no write_no last life seized) refused held = no-way refused
refused-held (Busy holder) refused held = no-way held
refused-held (Late above) refused held = no-way held
refused-held (Young note) refused held = no-way held
refused-held (Missing floor) refused held = no-way held
refused-held (Held cell) refused held = no-way refused
refused-held (NoNote life) refused held = no-way held
refused-held Done refused held = no-way refused
refused-held Fault refused held = no-way held
refused-held Emptied refused held = no-way refused
refused-held Fitted refused held = no-way refused

pub floor-of : (r : Reply) → is_missing r ≡ true → (floor : Number) × (r ≡ Missing floor)
floor-of (Granted cell read_no write_no last life seized) h = no-way h
floor-of (Busy holder) h = no-way h
floor-of (Late above) h = no-way h
floor-of (Young note) h = no-way h
floor-of (Missing floor) h = (floor, refl)
floor-of (Held cell) h = no-way h
floor-of (NoNote life) h = no-way h
floor-of Done h = no-way h
floor-of Fault h = no-way h
floor-of Emptied h = no-way h
floor-of Fitted h = no-way h

module _ (bay : Bay) (ask : Ask) (slot : Slot) (row : RowNo) where
  claimed-step : (id : Number) (r : RowNo) (by : Number) (how : How) (mask : ℕ) (want : Bool) (reply : Reply) (left : Slot) → Claims bay ask slot by how mask want reply left → r ≡ row →
      HasNote id left.note → Takes row id (Claim r by how mask want)
  claimed-step id r by how mask want reply left claims here noted =
      let named : (claimed_note ask by mask slot.note).id ≡ id = kept id left.note (Some (claimed_note ask by mask slot.note)) (ap (λ (s : Slot). s.note) claims.left) noted in
      let same : by ≡ id = sym (claimed-id ask by mask slot.note) ∙ named in
      (how, mask, want, ap (λ (x : RowNo). Claim x by how mask want) here ∙ ap (λ (x : Number). Claim row x how mask want) same)

  -- a note came by a claim, or stood
  note-step : (id : Number) (what : Request) (reply : Reply) (left : Slot) → Does bay ask slot what reply left → row_of what ≡ Some row → HasNote id left.note →
      Takes row id what ⊎ HasNote id slot.note
  note-step id what reply left (Refuses r refused missing) of noted = inr noted
  note-step id what reply left (Closes there blank) of noted = absurd noted
  note-step id what reply left (Grants {row = r} {id = by} {how} {mask} {want} claims) of noted = inl (claimed-step id r by how mask want reply left claims (cc) noted)
  note-step id what reply left (Shows shares) of noted = inr (kept id left.note slot.note shares.note_kept noted)
  note-step id what reply left (Holds own) of noted = inr noted
  note-step id what reply left (Puts own) of noted = absurd noted
  note-step id what reply left (Frees own) of noted = absurd noted
  note-step id what reply left (Leaves free reader found) of noted = inr noted

  -- a claim that was granted leaves its note
  grants-step : (id : Number) (how : How) (mask : ℕ) (want : Bool) (what : Request) (reply : Reply) (left : Slot) → Does bay ask slot what reply left → what ≡ Claim row id how mask want →
      IsSome (grant_of reply) → HasNote id left.note
  grants-step id how mask want what reply left (Refuses r refused missing) is granted = refused-grants r refused granted
  grants-step id how mask want what reply left (Closes there blank) is granted = no-way granted
  grants-step id how mask want what reply left (Grants {id = by} {mask = units} claims) is granted =
      let same : by ≡ id = cc in
      kept id (Some (claimed_note ask by units slot.note)) left.note (ap (λ (s : Slot). s.note) (sym claims.left)) (claimed-id ask by units slot.note ∙ same)
  grants-step id how mask want what reply left (Shows shares) is granted = absurd (cc)
  grants-step id how mask want what reply left (Holds own) is granted = absurd (cc)
  grants-step id how mask want what reply left (Puts own) is granted = absurd (cc)
  grants-step id how mask want what reply left (Frees own) is granted = absurd (cc)
  grants-step id how mask want what reply left (Leaves free reader found) is granted = absurd (cc)

  -- what an empty bay has, it had
  empty-step : (what : Request) (reply : Reply) (left : Slot) → Does bay ask slot what reply left → bay.empty ≡ true → slot.note ≡ None → left.note ≡ None
  empty-step what reply left (Refuses r refused missing) empty free = free
  empty-step what reply left (Closes there blank) empty free = refl
  empty-step what reply left (Grants claims) empty free = absurd (let there : bay.empty ≡ false = claims.there in let bad : true ≡ false = sym empty ∙ there in cc)
  empty-step what reply left (Shows shares) empty free = shares.note_kept ∙ free
  empty-step what reply left (Holds own) empty free = free
  empty-step what reply left (Puts own) empty free = refl
  empty-step what reply left (Frees own) empty free = refl
  empty-step what reply left (Leaves free reader found) empty bare = bare

  -- A confirm that is held has its note; one that is answered missing finds no cell
  held-step : (id : Number) (want : Bool) (what : Request) (reply : Reply) (left : Slot) → Does bay ask slot what reply left → what ≡ Confirm row id want → is_held reply ≡ true → HasNote id slot.note
  held-step id want what reply left (Refuses r refused missing) is held = refused-held r refused held
  held-step id want what reply left (Closes there blank) is held = absurd (cc)
  held-step id want what reply left (Grants claims) is held = absurd (cc)
  held-step id want what reply left (Shows shares) is held = absurd (cc)
  held-step id want what reply left (Holds {id = by} own) is held = let same : by ≡ id = cc in named-own slot.note id (subst (λ (x : Number). note_id slot.note x ≡ true) same own)
  held-step id want what reply left (Puts own) is held = absurd (cc)
  held-step id want what reply left (Frees own) is held = absurd (cc)
  held-step id want what reply left (Leaves free reader found) is held = absurd (cc)

  missing-step : (id : Number) (want : Bool) (what : Request) (reply : Reply) (left : Slot) → Does bay ask slot what reply left → what ≡ Confirm row id want → is_missing reply ≡ true → IsGone bay slot
  missing-step id want what reply left (Refuses r refused gone) is missing = let at = floor-of r missing in gone at.0 at.1
  missing-step id want what reply left (Closes there blank) is missing = absurd (cc)
  missing-step id want what reply left (Grants claims) is missing = absurd (cc)
  missing-step id want what reply left (Shows shares) is missing = absurd (cc)
  missing-step id want what reply left (Holds own) is missing = no-way missing
  missing-step id want what reply left (Puts own) is missing = no-way missing
  missing-step id want what reply left (Frees own) is missing = no-way missing
  missing-step id want what reply left (Leaves free reader found) is missing = no-way missing

-- A seizure that is answered missing leaves no note but in an empty bay
module _ (bay : Bay) (ask : Ask) (slot : Slot) (id : Number) (mask : ℕ) (want fails : Bool) where
  abbrev Bares : SlotOutcome → Type 0
  Bares o = (bay.empty ≡ true) ⊎ (o.slot.note ≡ None)

  granted-bares : (b : Bool) (before : Option Note) → is_missing (if b then keeps slot Fault else seize_granted bay slot ask id mask want before).reply ≡ true →
      (if b then keeps slot Fault else seize_granted bay slot ask id mask want before).slot.note ≡ None
  granted-bares true before h = no-way h
  granted-bares false None h = no-way h
  granted-bares false (Some note) h = no-way h

  unread-bares : (reader : Option Reader) → is_missing (seize_unread bay slot ask id mask want fails reader).reply ≡ true → (seize_unread bay slot ask id mask want fails reader).slot.note ≡ None
  unread-bares (Some reader) h = no-way h
  unread-bares None h = granted-bares (is_some (wanted_cell want slot) && fails) slot.note h

  blank-bares : (c : Option Cell) (reader : Option Reader) → is_missing (seize_blank slot (slot_floor slot c) (seize_unread bay slot ask id mask want fails reader)).reply ≡ true →
      (seize_blank slot (slot_floor slot c) (seize_unread bay slot ask id mask want fails reader)).slot.note ≡ None
  blank-bares None reader h = refl
  blank-bares (Some cell) reader h = unread-bares reader h

  noted-bares : (young : Option Note) → is_missing (seize_noted bay slot ask id mask want fails young).reply ≡ true → (seize_noted bay slot ask id mask want fails young).slot.note ≡ None
  noted-bares (Some note) h = no-way h
  noted-bares None h = blank-bares slot.cell (find (λ reader. not (may_seize bay ask reader.host reader.moment)) slot.readers) h

  empty-bares : (b : Bool) → bay.empty ≡ b → is_missing (if b then keeps slot (Missing bay.high) else seize_noted bay slot ask id mask want fails (young_note bay ask slot.note)).reply ≡ true →
      Bares (if b then keeps slot (Missing bay.high) else seize_noted bay slot ask id mask want fails (young_note bay ask slot.note))
  empty-bares true e h = inl e
  empty-bares false e h = inr (noted-bares (young_note bay ask slot.note) h)

  seizure-bares : (row : RowNo) (what : Request) → what ≡ Claim row id Seize mask want → is_missing (slot_rule bay slot ask fails what).reply ≡ true → Bares (slot_rule bay slot ask fails what)
  seizure-bares row what is h =
      subst (λ (w : Request). Bares (slot_rule bay slot ask fails w)) (sym is) (empty-bares bay.empty refl (subst (λ (w : Request). is_missing (slot_rule bay slot ask fails w).reply ≡ true) is h))

module _ (script : Script) (is : IsScript script) (at : BayNo) (row : RowNo) (below : row.0 < script.rows) where
  module _ (earlier : List Call) (call : Call) (next : IsNext script earlier call) where
    abbrev old : Bay
    old = bay_at script at earlier

    does : row_of call.ask.what ≡ Some row → Does old call.ask (slot_of old row) call.ask.what (outcome_at old row call).reply (outcome_at old row call).slot
    does of = slot-does old call.ask (slot_of old row) (is_fault call.answer.reply) call.ask.what row of

    -- a note was there before, or the call claimed the slot with its id
    pub note-came : (id : Number) → HasNote id (slot_at script (call ∷ earlier) at row).note → ((call.bay ≡ at) × Takes row id call.ask.what) ⊎ HasNote id (slot_at script earlier at row).note
    note-came id noted = by (moved script is earlier call next at row below)
      where
        touched : call.bay ≡ at → Takes row id call.ask.what ⊎ HasNote id (slot_of old row).note → ((call.bay ≡ at) × Takes row id call.ask.what) ⊎ HasNote id (slot_of old row).note
        touched place (inl takes) = inl (place, takes)
        touched place (inr stood) = inr stood

        by : SlotMove old at row call (bay_at script at (call ∷ earlier)) → ((call.bay ≡ at) × Takes row id call.ask.what) ⊎ HasNote id (slot_of old row).note
        by (Kept slot empty life apart) = inr (kept id (slot_at script (call ∷ earlier) at row).note (slot_of old row).note (ap (λ (s : Slot). s.note) slot) noted)
        by (Touched place of reply slot empty life) =
            touched place
            (note-step old call.ask (slot_of old row) row id call.ask.what (outcome_at old row call).reply (outcome_at old row call).slot (does of) of
            (kept id (slot_at script (call ∷ earlier) at row).note (outcome_at old row call).slot.note (ap (λ (s : Slot). s.note) slot) noted))
        by (Lost place what was slot empty life) = absurd (kept id (slot_at script (call ∷ earlier) at row).note None (ap (λ (s : Slot). s.note) slot) noted)
        by (moves.Fitted place what was slot empty life) = absurd (kept id (slot_at script (call ∷ earlier) at row).note None (ap (λ (s : Slot). s.note) slot) noted)

    -- a request of the slot touches it
    record Touching : Type 0 where
      reply : call.answer.reply ≡ (outcome_at old row call).reply
      slot : slot_at script (call ∷ earlier) at row ≡ (outcome_at old row call).slot
      empty : (bay_at script at (call ∷ earlier)).empty ≡ old.empty

    touching : call.bay ≡ at → row_of call.ask.what ≡ Some row → Touching
    touching place of = by (moved script is earlier call next at row below)
      where
        here : is_at at row call ≡ true
        here = both (call.bay.0 == at.0) (is_row row (row_of call.ask.what)) (let same : call.bay.0 ≡ at.0 = ap (λ (b : BayNo). b.0) place in grind (arith, nat_tests))
            (ap (λ (r : Option RowNo). is_row row r) of ∙ (let same : (row.0 == row.0) ≡ true = grind (arith, nat_tests) in same))
          where
            both : (a b : Bool) → a ≡ true → b ≡ true → (a && b) ≡ true
            both true b x y = y
            both false b x y = no-way x

        by : SlotMove old at row call (bay_at script at (call ∷ earlier)) → Touching
        by (Kept slot empty life apart) = no-way (sym apart ∙ here)
        by (Touched at_bay of_row reply slot empty life) = record { reply = reply; slot = slot; empty = empty }
        by (Lost at_bay what was slot empty life) = absurd (let bad : None ≡ Some row = ap (λ (w : Request). row_of w) (sym what) ∙ of in cc)
        by (moves.Fitted at_bay what was slot empty life) = absurd (let bad : None ≡ Some row = ap (λ (w : Request). row_of w) (sym what) ∙ of in cc)

    pub granted-now : (id : Number) (how : How) (mask : ℕ) (want : Bool) → call.bay ≡ at → call.ask.what ≡ Claim row id how mask want → IsSome (grant_of call.answer.reply) →
        HasNote id (slot_at script (call ∷ earlier) at row).note
    granted-now id how mask want place what granted =
        let of : row_of call.ask.what ≡ Some row = ap (λ (w : Request). row_of w) what in
        let t : Touching = touching place of in
        kept id (outcome_at old row call).slot.note (slot_at script (call ∷ earlier) at row).note (ap (λ (s : Slot). s.note) (sym t.slot))
        (grants-step old call.ask (slot_of old row) row id how mask want call.ask.what (outcome_at old row call).reply (outcome_at old row call).slot (does of) what
        (ap (λ (r : Reply). is_some (grant_of r)) (sym t.reply) ∙ granted))

    pub held-now : (id : Number) (want : Bool) → call.bay ≡ at → call.ask.what ≡ Confirm row id want → is_held call.answer.reply ≡ true → HasNote id (slot_at script earlier at row).note
    held-now id want place what held =
        let of : row_of call.ask.what ≡ Some row = ap (λ (w : Request). row_of w) what in
        let t : Touching = touching place of in
        held-step old call.ask (slot_of old row) row id want call.ask.what (outcome_at old row call).reply (outcome_at old row call).slot (does of) what
        (ap (λ (r : Reply). is_held r) (sym t.reply) ∙ held)

    pub gone-now : (id : Number) (want : Bool) → call.bay ≡ at → call.ask.what ≡ Confirm row id want → is_missing call.answer.reply ≡ true → IsGone old (slot_of old row)
    gone-now id want place what missing =
        let of : row_of call.ask.what ≡ Some row = ap (λ (w : Request). row_of w) what in
        let t : Touching = touching place of in
        missing-step old call.ask (slot_of old row) row id want call.ask.what (outcome_at old row call).reply (outcome_at old row call).slot (does of) what
        (ap (λ (r : Reply). is_missing r) (sym t.reply) ∙ missing)

    -- an empty bay has no notes
    empty-next : (old.empty ≡ true → (slot_of old row).note ≡ None) → (bay_at script at (call ∷ earlier)).empty ≡ true → (slot_at script (call ∷ earlier) at row).note ≡ None
    empty-next before now = by (moved script is earlier call next at row below)
      where
        by : SlotMove old at row call (bay_at script at (call ∷ earlier)) → (slot_at script (call ∷ earlier) at row).note ≡ None
        by (Kept slot empty life apart) = ap (λ (s : Slot). s.note) slot ∙ before (sym empty ∙ now)
        by (Touched place of reply slot empty life) =
            ap (λ (s : Slot). s.note) slot
            ∙ empty-step old call.ask (slot_of old row) row call.ask.what (outcome_at old row call).reply (outcome_at old row call).slot (does of) (sym empty ∙ now) (before (sym empty ∙ now))
        by (Lost place what was slot empty life) = ap (λ (s : Slot). s.note) slot
        by (moves.Fitted place what was slot empty life) = ap (λ (s : Slot). s.note) slot

  pub empty-bare : (history : List Call) → IsHistory script history → (bay_at script at history).empty ≡ true → (slot_at script history at row).note ≡ None
  empty-bare [] along empty = ap (λ (s : Slot). s.note) (starts-first script at row below)
  empty-bare (call ∷ earlier) along empty = empty-next earlier call along.1 (empty-bare earlier along.0) empty

  -- a seizure that is answered missing leaves no note
  pub seized-now : (earlier : List Call) (call : Call) → IsHistory script (call ∷ earlier) → (id : Number) (mask : ℕ) (want : Bool) → call.bay ≡ at → call.ask.what ≡ Claim row id Seize mask want →
      is_missing call.answer.reply ≡ true → (slot_at script (call ∷ earlier) at row).note ≡ None
  seized-now earlier call along id mask want place what missing = by
      (seizure-bares (bay_at script at earlier) call.ask (slot_at script earlier at row) id mask want (is_fault call.answer.reply) row call.ask.what what
      (ap (λ (r : Reply). is_missing r) (sym t.reply) ∙ missing))
    where
      t : Touching earlier call along.1
      t = touching earlier call along.1 place (ap (λ (w : Request). row_of w) what)

      by : ((bay_at script at earlier).empty ≡ true) ⊎ ((outcome_at (bay_at script at earlier) row call).slot.note ≡ None) → (slot_at script (call ∷ earlier) at row).note ≡ None
      by (inl empty) = empty-bare (call ∷ earlier) along (t.empty ∙ empty)
      by (inr none) = ap (λ (s : Slot). s.note) t.slot ∙ none
