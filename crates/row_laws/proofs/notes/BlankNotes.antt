-- Where a slot has no cell its note is a rebuild's: only a claim to mend is granted there.
use Rattle.std.proofs.Common.{◌≡◌, ◌⊎◌, inl, inr, sym, ap, ◌∙◌, ℕ, ◌<◌, Bool, true, false, List, [], ◌∷◌, Option, Some, None, IsSome, is_some}
use Rattle.raid_base.specs.declared.numbers.BayNo.{BayNo}
use Rattle.raid_base.specs.declared.numbers.RowNo.{RowNo}
use Rattle.raid_base.specs.declared.numbers.Number.{Number}
use Rattle.raid_base.specs.declared.cells.Cell.{Cell}
use Rattle.raid_base.specs.declared.messages.How.{How}
use Rattle.raid_base.specs.declared.messages.How.TheVariants.{Seize, Mend}
use Rattle.raid_base.specs.declared.messages.Note.{Note}
use Rattle.raid_base.specs.declared.messages.Ask.{Ask}
use Rattle.raid_base.specs.declared.messages.Reply.{Reply}
use Rattle.raid_base.specs.declared.messages.Request.{Request}
use Rattle.raid_base.specs.declared.messages.Request.TheVariants.{Claim}
use Rattle.raid_base.specs.declared.messages.Call.{Call}
use Rattle.raid_base.specs.Cells.{zero_cell}
use Rattle.raid_base.specs.Replies.{is_fault}
use Rattle.slot_rules.specs.Slots.{Slot, Bay}
use Rattle.slot_rules.specs.Laws.{claimed_note}
use Rattle.script_text.specs.Script.{Script}
use Rattle.script_text.specs.Ranges.{IsScript}
use Rattle.histories.specs.Calls.{Happened, row_of}
use Rattle.histories.specs.History.{IsNext, IsHistory, bay_at}
use Rattle.histories.specs.RowStates.{slot_at, cell_at}
use Rattle.row_laws.specs.Holding.{IsMendClaim, BlankNotesMend}
use Rattle.row_laws.proofs.hands.SlotMoves.{SlotMove, Kept, Touched, Lost, Fitted, outcome_at, moved}
use Rattle.row_laws.proofs.hands.SlotDoes.{Claims, Does, Refuses, Closes, Grants, Shows, Holds, Puts, Frees, Leaves, slot-does}
use Rattle.histories.proofs.steps.BayRows.{starts-first}

-- the request claimed the slot to mend it, and left this note
record Mends (ask : Ask) (row : RowNo) (what : Request) (note : Note) : Type 0 where
  host : ask.host ≡ note.host
  origin : note.origin ≡ note.id
  mask : ℕ
  want : Bool
  claim : what ≡ Claim row note.id Mend mask want

module _ (bay : Bay) (ask : Ask) (slot : Slot) (row : RowNo) (note : Note) where
  -- what stood before
  abbrev Stood : Type 0
  Stood = (slot.cell ≡ None) × (slot.note ≡ Some note)

  grants-mend : (r : RowNo) (id : Number) (how : How) (mask : ℕ) (want : Bool) (reply : Reply) (left : Slot) → Claims bay ask slot id how mask want reply left → r ≡ row → left.cell ≡ None →
      left.note ≡ Some note → Mends ask row (Claim r id how mask want) note
  grants-mend r id how mask want reply left claims here none noted = by claims.cell claims.free
    where
      blank : slot.cell ≡ None
      blank = ap (λ (s : Slot). s.cell) (sym claims.left) ∙ none

      apart : how ≡ Mend → how ≡ Seize → ⊥
      apart mends seizes = absurd (let bad : Mend ≡ Seize = sym mends ∙ seizes in cc)

      claimed : slot.note ≡ None → note ≡ claimed_note ask id mask None
      claimed free =
          let all : Some (claimed_note ask id mask None) ≡ Some note = ap (λ (o : Option Note). Some (claimed_note ask id mask o)) (sym free) ∙ ap (λ (s : Slot). s.note) (sym claims.left) ∙ noted in
          cc

      by : IsSome slot.cell ⊎ (how ≡ Mend) → (slot.note ≡ None) ⊎ (how ≡ Seize) → Mends ask row (Claim r id how mask want) note
      by (inl there) free = absurd (let bad : false ≡ true = ap (λ (c : Option Cell). is_some c) (sym blank) ∙ there in cc)
      by (inr mends) (inr seizing) = absurd (apart mends seizing)
      by (inr mends) (inl free) =
          let same : note ≡ claimed_note ask id mask None = claimed free in
          let named : note.id ≡ id = ap (λ (x : Note). x.id) same in
          record {
            host = ap (λ (x : Note). x.host) (sym same);
            origin = ap (λ (x : Note). x.origin) same ∙ sym named;
            mask = mask;
            want = want;
            claim = ap (λ (x : RowNo). Claim x id how mask want) here ∙ ap (λ (x : Number). Claim row x how mask want) (sym named) ∙ ap (λ (x : How). Claim row note.id x mask want) mends;
          }

  blank-step : (what : Request) (reply : Reply) (left : Slot) → Does bay ask slot what reply left → row_of what ≡ Some row → left.cell ≡ None → left.note ≡ Some note → Mends ask row what note ⊎ Stood
  blank-step what reply left (Refuses r refused missing) of none noted = inr (none, noted)
  blank-step what reply left (Closes there blank) of none noted = absurd (cc)
  blank-step what reply left (Grants {row = r} {id} {how} {mask} {want} claims) of none noted = inl (grants-mend r id how mask want reply left claims (cc) none noted)
  blank-step what reply left (Shows shares) of none noted = inr (sym shares.cell_kept ∙ none, sym shares.note_kept ∙ noted)
  blank-step what reply left (Holds own) of none noted = inr (none, noted)
  blank-step what reply left (Puts own) of none noted = absurd (cc)
  blank-step what reply left (Frees own) of none noted = absurd (cc)
  blank-step what reply left (Leaves free reader found) of none noted = inr (none, noted)

module _ (script : Script) (is : IsScript script) (at : BayNo) (row : RowNo) (below : row.0 < script.rows) (note : Note) where
  abbrev IsBlank : List Call → Type 0
  IsBlank history = (cell_at script history row at ≡ None) × ((slot_at script history at row).note ≡ Some note)

  abbrev IsMended : List Call → Type 0
  IsMended history = Happened (IsMendClaim at row note) history × (note.origin ≡ note.id)

  module _ (earlier : List Call) (call : Call) (next : IsNext script earlier call) (before : IsBlank earlier → IsMended earlier) (blank : IsBlank (call ∷ earlier)) where
    abbrev old : Slot
    old = slot_at script earlier at row

    more : IsMended earlier → IsMended (call ∷ earlier)
    more h = (inr h.0, h.1)

    touched : call.bay ≡ at → Mends call.ask row call.ask.what note ⊎ Stood (bay_at script at earlier) call.ask old row note → IsMended (call ∷ earlier)
    touched place (inl m) = (inl (place, m.host, m.mask, m.want, m.claim), m.origin)
    touched place (inr stood) = more (before stood)

    blank-next : SlotMove (bay_at script at earlier) at row call (bay_at script at (call ∷ earlier)) → IsMended (call ∷ earlier)
    blank-next (Kept slot empty life apart) = more (before (ap (λ (s : Slot). s.cell) (sym slot) ∙ blank.0, ap (λ (s : Slot). s.note) (sym slot) ∙ blank.1))
    blank-next (Touched place of reply slot empty life) =
        touched place
        (blank-step (bay_at script at earlier) call.ask old row note call.ask.what (outcome_at (bay_at script at earlier) row call).reply (outcome_at (bay_at script at earlier) row call).slot
        (slot-does (bay_at script at earlier) call.ask old (is_fault call.answer.reply) call.ask.what row of) of (ap (λ (s : Slot). s.cell) (sym slot) ∙ blank.0)
        (ap (λ (s : Slot). s.note) (sym slot) ∙ blank.1))
    blank-next (Lost place what was slot empty life) = absurd (let bad : None ≡ Some note = ap (λ (s : Slot). s.note) (sym slot) ∙ blank.1 in cc)
    blank-next (Fitted place what was slot empty life) = absurd (let bad : None ≡ Some note = ap (λ (s : Slot). s.note) (sym slot) ∙ blank.1 in cc)

  blank-mends : (history : List Call) → IsHistory script history → IsBlank history → IsMended history
  blank-mends [] along blank = absurd (let bad : Some zero_cell ≡ None = ap (λ (s : Slot). s.cell) (sym (starts-first script at row below)) ∙ blank.0 in cc)
  blank-mends (call ∷ earlier) along blank = blank-next earlier call along.1 (blank-mends earlier along.0) blank (moved script is earlier call along.1 at row below)

pub blank_notes_mend : BlankNotesMend
blank_notes_mend script history is along at row note within below none noted = blank-mends script is at row below note history along (none, noted)
