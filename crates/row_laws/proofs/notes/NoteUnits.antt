-- A note that has units came from a write that claimed the parity with them, and that has not put it: a note is opened by a
-- claim that was granted, a seizure hands its origin and its units on, and a put closes it.
use Rattle.std.proofs.Common.{◌≡◌, ◌≢◌, ◌⊎◌, inl, inr, refl, sym, ap, subst, ◌∙◌, ℕ, ◌<◌, ◌==◌, ◌&&◌, Bool, true, false, List, [], ◌∷◌, Option, Some, None, arith}
use Rattle.std.proofs.lemmas.Bool.Decides.{nat_tests}
use Rattle.raid_base.specs.declared.numbers.BayNo.{BayNo}
use Rattle.raid_base.specs.declared.numbers.RowNo.{RowNo}
use Rattle.raid_base.specs.declared.numbers.Number.{Number}
use Rattle.raid_base.specs.declared.cells.Cell.{Cell}
use Rattle.raid_base.specs.declared.messages.How.{How}
use Rattle.raid_base.specs.declared.messages.How.TheVariants.{Plain}
use Rattle.raid_base.specs.declared.messages.Note.{Note}
use Rattle.raid_base.specs.declared.messages.Grant.{Grant}
use Rattle.raid_base.specs.declared.messages.Ask.{Ask}
use Rattle.raid_base.specs.declared.messages.Reply.{Reply}
use Rattle.raid_base.specs.declared.messages.Reply.TheVariants.{Done}
use Rattle.raid_base.specs.declared.messages.Request.{Request}
use Rattle.raid_base.specs.declared.messages.Request.TheVariants.{Claim, Put}
use Rattle.raid_base.specs.declared.messages.Call.{Call}
use Rattle.raid_base.specs.Replies.{is_fault, grant_of}
use Rattle.slot_rules.specs.Slots.{Slot, Bay}
use Rattle.slot_rules.specs.Rules.{SlotOutcome, wanted_cell}
use Rattle.slot_rules.specs.Laws.{is_refused, claimed_note}
use Rattle.stripe_layout.specs.Placement.{parity_bay}
use Rattle.script_text.specs.Script.{Script}
use Rattle.script_text.specs.Ranges.{IsScript}
use Rattle.histories.specs.Calls.{Happened, row_of, id_of, is_row, is_at, IsPut, IsDone}
use Rattle.histories.specs.Torn.{IsWriteClaim}
use Rattle.histories.specs.Progress.{Progress}
use Rattle.histories.specs.History.{IsNext, IsHistory, progress_at, bay_at}
use Rattle.histories.specs.RowStates.{slot_at}
use Rattle.row_laws.specs.Holding.{UnitsAreOfWrites}
use Rattle.row_laws.proofs.hands.SlotMoves.{SlotMove, Kept, Touched, Lost, Fitted, outcome_at, moved}
use Rattle.row_laws.proofs.hands.SlotDoes.{Claims, Does, Refuses, Closes, Grants, Shows, Holds, Puts, Frees, Leaves, slot-does}
use Rattle.row_laws.proofs.hands.HandClaims.{asker-calls, kind_of, next-kind, next-untaken, claimed-taken, granted-claimed, put-granted}
use Rattle.histories.proofs.steps.BayRows.{starts-first}
use Rattle.row_laws.proofs.owners.RowOwnersHands.{Asker, asker}

abbrev IsDonePut : BayNo → RowNo → Number → Call → Type 0
IsDonePut at row id call = IsPut at row id call × IsDone call

-- a put of a slot is a call of it
pub put-at : (at : BayNo) (row : RowNo) (id : Number) (call : Call) → IsPut at row id call → is_at at row call ≡ true
put-at at row id call (place, n, cell, what) =
    let same : call.bay.0 ≡ at.0 = ap (λ (b : BayNo). b.0) place in
    let here : (call.bay.0 == at.0) ≡ true = grind (arith, nat_tests) in
    let this : (row.0 == row.0) ≡ true = grind (arith, nat_tests) in
    let there : is_row row (row_of call.ask.what) ≡ true = ap (λ (w : Request). is_row row (row_of w)) what ∙ this in
    ap (λ (b : Bool). b && is_row row (row_of call.ask.what)) here ∙ there

-- no put that was done
abbrev IsQuiet : Request → Reply → Type 0
IsQuiet what reply = (row : RowNo) (id n : Number) (cell : Cell) → what ≡ Put row id n cell → reply ≡ Done → ⊥

module _ (bay : Bay) (ask : Ask) (slot : Slot) (row : RowNo) (note : Note) where
  -- the request claimed the slot, where there was no note, and left this note
  record Anew (what : Request) (reply : Reply) : Type 0 where
    how : How
    want : Bool
    claim : what ≡ Claim row note.origin how note.mask want
    grant : Grant
    granted : grant_of reply ≡ Some grant

  -- there was a note of the same origin with the same units
  record Handed (what : Request) (reply : Reply) : Type 0 where
    was : Note
    noted : slot.note ≡ Some was
    origin : was.origin ≡ note.origin
    mask : was.mask ≡ note.mask
    quiet : IsQuiet what reply

  stood : (what : Request) (reply : Reply) → slot.note ≡ Some note → IsQuiet what reply → Anew what reply ⊎ Handed what reply
  stood what reply noted quiet = inr (record { was = note; noted = noted; origin = refl; mask = refl; quiet = quiet })

  grants-note : (r : RowNo) (id : Number) (how : How) (mask : ℕ) (want : Bool) (reply : Reply) (left : Slot) → Claims bay ask slot id how mask want reply left → r ≡ row → left.note ≡ Some note →
      Anew (Claim r id how mask want) reply ⊎ Handed (Claim r id how mask want) reply
  grants-note r id how mask want reply left claims here noted = by slot.note refl
    where
      claimed : (o : Option Note) → slot.note ≡ o → claimed_note ask id mask o ≡ note
      claimed o e =
          let all : Some (claimed_note ask id mask o) ≡ Some note =
          ap (λ (x : Option Note). Some (claimed_note ask id mask x)) (sym e) ∙ ap (λ (s : Slot). s.note) (sym claims.left) ∙ noted in
          cc

      by : (o : Option Note) → slot.note ≡ o → Anew (Claim r id how mask want) reply ⊎ Handed (Claim r id how mask want) reply
      by None e =
          let same : claimed_note ask id mask None ≡ note = claimed None e in
          inl (record {
            how = how;
            want = want;
            claim = ap (λ (x : RowNo). Claim x id how mask want) here ∙ ap (λ (x : Note). Claim row x.origin how x.mask want) same;
            grant = record { cell = wanted_cell want slot; last = slot.last; life = bay.life; seized = slot.note };
            granted = ap grant_of claims.reply;
          })
      by (Some was) e =
          let same : claimed_note ask id mask (Some was) ≡ note = claimed (Some was) e in
          inr (record {
            was = was;
            noted = e;
            origin = ap (λ (x : Note). x.origin) same;
            mask = ap (λ (x : Note). x.mask) same;
            quiet = λ other by n cell bad done. absurd (cc);
          })

  opens : (what : Request) (reply : Reply) (left : Slot) → Does bay ask slot what reply left → row_of what ≡ Some row → left.note ≡ Some note → Anew what reply ⊎ Handed what reply
  opens what reply left (Refuses r refused missing) of noted =
      stood what reply noted (λ other by n cell put done. absurd (let bad : false ≡ true = ap is_refused (sym done) ∙ refused in cc))
  opens what reply left (Closes there blank) of noted = absurd (cc)
  opens what reply left (Grants {row = r} {id} {how} {mask} {want} claims) of noted = grants-note r id how mask want reply left claims (cc) noted
  opens what reply left (Shows shares) of noted = stood what reply (sym shares.note_kept ∙ noted) (λ other by n cell put done. absurd (cc))
  opens what reply left (Holds own) of noted = stood what reply noted (λ other by n cell put done. absurd (cc))
  opens what reply left (Puts own) of noted = absurd (cc)
  opens what reply left (Frees own) of noted = absurd (cc)
  opens what reply left (Leaves free reader found) of noted = stood what reply noted (λ other by n cell put done. absurd (cc))

-- what stands of a note at a slot
record FromWrite (n : ℕ) (at : BayNo) (row : RowNo) (history : List Call) (note : Note) : Type 0 where
  claimed : note.mask ≢ 0 → (at ≡ parity_bay n row) × Happened (IsWriteClaim n row note.origin note.mask) history
  unfinished : Happened (IsDonePut at row note.origin) history → ⊥

module _ (script : Script) (is : IsScript script) (at : BayNo) (row : RowNo) (below : row.0 < script.rows) where
  abbrev Noted : List Call → Note → Type 0
  Noted history note = (slot_at script history at row).note ≡ Some note

  abbrev Sound : List Call → Type 0
  Sound history = (note : Note) → Noted history note → FromWrite script.n at row history note

  module _ (earlier : List Call) (call : Call) (along : IsHistory script earlier) (next : IsNext script earlier call) (before : Sound earlier) (note : Note) where
    abbrev AnewNow : Type 0
    AnewNow = Anew (bay_at script at earlier) call.ask (slot_at script earlier at row) row note call.ask.what call.answer.reply

    abbrev HandedNow : Type 0
    HandedNow = Handed (bay_at script at earlier) call.ask (slot_at script earlier at row) row note call.ask.what call.answer.reply

    -- the note was there, or was seized
    handed : HandedNow → FromWrite script.n at row (call ∷ earlier) note
    handed h =
        let was = before h.was h.noted in
        record {
          claimed = λ some.
              (let old = was.claimed (λ none. some (sym h.mask ∙ none)) in
              (old.0, inr (subst (λ (m : ℕ). Happened (IsWriteClaim script.n row note.origin m) earlier) h.mask (subst (λ (x : Number). Happened (IsWriteClaim script.n row x h.was.mask) earlier) h.origin old.1))));
          unfinished = finished was.unfinished;
        }
      where
        finished : (Happened (IsDonePut at row h.was.origin) earlier → ⊥) → IsDonePut at row note.origin call ⊎ Happened (IsDonePut at row note.origin) earlier → ⊥
        finished was (inl ((place, n, cell, what), done)) = h.quiet row note.origin n cell what done
        finished was (inr put) = was (subst (λ (x : Number). Happened (IsDonePut at row x) earlier) (sym h.origin) put)

    -- the attempt that claimed had not put the slot
    anew-free : call.bay ≡ at → AnewNow → Happened (IsDonePut at row note.origin) earlier → ⊥
    anew-free place a put =
        let p : Progress = progress_at script call.ask.host earlier in
        let by : Asker script is earlier call = asker script is earlier call along next row (ap row_of a.claim) in
        let own : Happened (IsPut at row note.origin) p.calls =
        asker-calls script is earlier call along next (IsPut at row note.origin) note.origin (λ other is. ap id_of is.3) (ap id_of a.claim) (puts earlier put) in
        next-untaken script is earlier call.ask.host by.steps by.hand call by.asked at row (inr (place, note.origin, a.how, note.mask, a.want, a.claim))
        (claimed-taken (record { bay = at; row = row }) p.calls
        (granted-claimed (record { bay = at; row = row }) p.calls (put-granted script is call.ask.host p by.steps by.hand.hand at row note.origin own)))
      where
        puts : (history : List Call) → Happened (IsDonePut at row note.origin) history → Happened (IsPut at row note.origin) history
        puts [] h = absurd h
        puts (c ∷ cs) (inl h) = inl h.0
        puts (c ∷ cs) (inr h) = inr (puts cs h)

    -- and where it claimed units it is a write that claimed the parity
    anew-claims : call.bay ≡ at → AnewNow → note.mask ≢ 0 → (at ≡ parity_bay script.n row) × IsWriteClaim script.n row note.origin note.mask call
    anew-claims place a some =
        let by : Asker script is earlier call = asker script is earlier call along next row (ap row_of a.claim) in
        kinds (kind_of by.hand.hand.task)
        (next-kind script is earlier call.ask.host by.steps by.hand call by.asked row note.origin a.how note.mask a.want a.claim)
      where
        kinds : (kind : How) → (a.how ≡ kind) × ((note.mask ≡ 0) ⊎ ((kind ≡ Plain) × (call.bay ≡ parity_bay script.n row))) →
            (at ≡ parity_bay script.n row) × IsWriteClaim script.n row note.origin note.mask call
        kinds kind (how, inl none) = absurd (some none)
        kinds kind (how, inr (plain, parity)) =
            (sym place ∙ parity, (parity, a.want, a.claim ∙ ap (λ (x : How). Claim row note.origin x note.mask a.want) (how ∙ plain), a.grant, a.granted))

    -- the note was opened
    anew : call.bay ≡ at → AnewNow → FromWrite script.n at row (call ∷ earlier) note
    anew place a = record { claimed = λ some. (let now = anew-claims place a some in (now.0, inl now.1)); unfinished = finished }
      where
        finished : IsDonePut at row note.origin call ⊎ Happened (IsDonePut at row note.origin) earlier → ⊥
        finished (inl ((same, n, cell, what), done)) = absurd (let bad : Claim row note.origin a.how note.mask a.want ≡ Put row note.origin n cell = sym a.claim ∙ what in cc)
        finished (inr put) = anew-free place a put

    -- another slot was asked
    kept : Noted earlier note → is_at at row call ≡ false → FromWrite script.n at row (call ∷ earlier) note
    kept noted apart =
        let was = before note noted in
        record { claimed = λ some. (let old = was.claimed some in (old.0, inr old.1)); unfinished = finished was.unfinished }
      where
        finished : (Happened (IsDonePut at row note.origin) earlier → ⊥) → IsDonePut at row note.origin call ⊎ Happened (IsDonePut at row note.origin) earlier → ⊥
        finished was (inl (put, done)) = absurd (let bad : true ≡ false = sym (put-at at row note.origin call put) ∙ apart in cc)
        finished was (inr put) = was put

    units-next : SlotMove (bay_at script at earlier) at row call (bay_at script at (call ∷ earlier)) → Noted (call ∷ earlier) note → FromWrite script.n at row (call ∷ earlier) note
    units-next (Kept slot empty life apart) noted = kept (ap (λ (s : Slot). s.note) (sym slot) ∙ noted) apart
    units-next (Touched place of reply slot empty life) noted = touched (subst (λ (r : Reply). Anew b call.ask old row note call.ask.what r ⊎ Handed b call.ask old row note call.ask.what r) (sym reply)
        (opens b call.ask old row note call.ask.what o.reply o.slot (slot-does b call.ask old (is_fault call.answer.reply) call.ask.what row of) of (ap (λ (s : Slot). s.note) (sym slot) ∙ noted)))
      where
        b : Bay
        b = bay_at script at earlier

        old : Slot
        old = slot_at script earlier at row

        o : SlotOutcome
        o = outcome_at b row call

        touched : AnewNow ⊎ HandedNow → FromWrite script.n at row (call ∷ earlier) note
        touched (inl a) = anew place a
        touched (inr h) = handed h
    units-next (Lost place what was slot empty life) noted = absurd (let bad : None ≡ Some note = ap (λ (s : Slot). s.note) (sym slot) ∙ noted in cc)
    units-next (Fitted place what was slot empty life) noted = absurd (let bad : None ≡ Some note = ap (λ (s : Slot). s.note) (sym slot) ∙ noted in cc)

  notes-from-writes : (history : List Call) → IsHistory script history → Sound history
  notes-from-writes [] along note noted = absurd (let bad : None ≡ Some note = ap (λ (s : Slot). s.note) (sym (starts-first script at row below)) ∙ noted in cc)
  notes-from-writes (call ∷ earlier) along note noted =
      units-next earlier call along.0 along.1 (notes-from-writes earlier along.0) note (moved script is earlier call along.1 at row below) noted

pub units_are_of_writes : UnitsAreOfWrites
units_are_of_writes script history is along at row note within below noted some =
    let all = notes-from-writes script is at row below history along note noted in
    let claim = all.claimed some in
    (claim.0, record { claimed = claim.1; unfinished = λ put. all.unfinished (subst (λ (b : BayNo). Happened (IsDonePut b row note.origin) history) (sym claim.0) put) })
