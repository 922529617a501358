-- What a call does to the note, the cell and the mark of a slot, from where a note has its origin and its units, and what the
-- claim of an attempt was granted when it got its note.
use Rattle.std.proofs.Common.{◌≡◌, ◌⊎◌, inl, inr, refl, sym, ap, subst, ◌∙◌, ℕ, ◌<◌, ◌&&◌, Bool, true, false, List, [], ◌∷◌, Option, Some, None}
use Rattle.std.proofs.lemmas.Bool.{eq-eqb}
use Rattle.raid_base.specs.declared.numbers.BayNo.{BayNo}
use Rattle.raid_base.specs.declared.numbers.HostNo.{HostNo}
use Rattle.raid_base.specs.declared.numbers.RowNo.{RowNo}
use Rattle.raid_base.specs.declared.numbers.Number.{Number}
use Rattle.raid_base.specs.declared.cells.Cell.{Cell}
use Rattle.raid_base.specs.declared.messages.How.{How}
use Rattle.raid_base.specs.declared.messages.How.TheVariants.{Seize}
use Rattle.raid_base.specs.declared.messages.Note.{Note}
use Rattle.raid_base.specs.declared.messages.Grant.{Grant}
use Rattle.raid_base.specs.declared.messages.Ask.{Ask}
use Rattle.raid_base.specs.declared.messages.Reply.{Reply}
use Rattle.raid_base.specs.declared.messages.Reply.TheVariants.{Done}
use Rattle.raid_base.specs.declared.messages.Request.{Request}
use Rattle.raid_base.specs.declared.messages.Request.TheVariants.{Claim, Put, Release, Lose, Fit}
use Rattle.raid_base.specs.declared.messages.Call.{Call}
use Rattle.raid_base.specs.declared.messages.Errand.{Errand}
use Rattle.raid_base.specs.Replies.{is_fault, grant_of}
use Rattle.raid_base.specs.Steps.{Steps, next_errand, errand_of}
use Rattle.slot_rules.specs.Slots.{Slot, Bay, slot_of}
use Rattle.slot_rules.specs.Rules.{note_id}
use Rattle.slot_rules.specs.Laws.{is_refused, claimed_note}
use Rattle.attempts.specs.Taking.{Finish}
use Rattle.script_text.specs.Script.{Script}
use Rattle.script_text.specs.Ranges.{IsScript}
use Rattle.histories.specs.Calls.{Happened, row_of, id_of, is_row, is_at, IsDone}
use Rattle.histories.specs.History.{IsNext, IsHistory, bay_at}
use Rattle.histories.specs.RowStates.{slot_at}
use Rattle.row_laws.specs.Hands.{HasHand, calls_at}
use Rattle.histories.specs.Ids.{IsNoteClaim}
use Rattle.histories.proofs.accesses.AccessIds.{ids_are_apart}
use Rattle.row_laws.proofs.hands.HandMoves.{Came, Stayed, Begun, Went, came}
use Rattle.row_laws.proofs.hands.SlotMoves.{SlotMove, Kept, Touched, Lost, Fitted, outcome_at, moved}
use Rattle.row_laws.proofs.hands.SlotDoes.{Does, Refuses, Closes, Grants, Shows, Holds, Puts, Frees, Leaves, slot-does}
use Rattle.row_laws.proofs.holders.HolderNotesSlots.{Claimed, grant_at, claimed-so}
use Rattle.row_laws.proofs.owners.RowOwnersHands.{happened-own, other-id}
use Rattle.histories.proofs.steps.BayRows.{starts-first}

-- what a call does to a slot
pub data Turn (old : Bay) (at : BayNo) (row : RowNo) (call : Call) (new : Bay) : Type 0 where
  Same : (note : (slot_of new row).note ≡ (slot_of old row).note) (cell : (slot_of new row).cell ≡ (slot_of old row).cell) (last : (slot_of new row).last ≡ (slot_of old row).last) → Turn old at row call new
  Bare : (note : (slot_of new row).note ≡ None) (cell : (slot_of new row).cell ≡ None) → Turn old at row call new
  Taken : (claimed : Claimed old at row call new) (last : (slot_of new row).last ≡ (slot_of old row).last) → Turn old at row call new
  Marked : (place : call.bay ≡ at) (id n : Number) (cell : Cell) (what : call.ask.what ≡ Put row id n cell) (done : IsDone call) (note : (slot_of new row).note ≡ None)
      (last : (slot_of new row).last ≡ id) → Turn old at row call new
  Freed : (place : call.bay ≡ at) (id : Number) (n : Option Number) (what : call.ask.what ≡ Release row id n) (own : note_id (slot_of old row).note id ≡ true)
      (note : (slot_of new row).note ≡ None) (cell : (slot_of new row).cell ≡ (slot_of old row).cell) (last : (slot_of new row).last ≡ (slot_of old row).last) → Turn old at row call new

module _ (old : Bay) (at : BayNo) (row : RowNo) (call : Call) (new : Bay) where
  turn-by : call.bay ≡ at → new.empty ≡ old.empty → new.life ≡ old.life → (what : Request) (reply : Reply) (left : Slot) → Does old call.ask (slot_of old row) what reply left → call.ask.what ≡ what → row_of what ≡ Some row →
      call.answer.reply ≡ reply → slot_of new row ≡ left → Turn old at row call new
  turn-by place empty life what reply left (Refuses r refused missing) e of answered now = Same (ap (λ (s : Slot). s.note) now) (ap (λ (s : Slot). s.cell) now) (ap (λ (s : Slot). s.last) now)
  turn-by place empty life what reply left (Closes there none) e of answered now = Bare (ap (λ (s : Slot). s.note) now) (ap (λ (s : Slot). s.cell) now ∙ none)
  turn-by place empty life what reply left (Grants {row = r} {id} {how} {mask} {want} claims) e of answered now =
      Taken (claimed-so old at row call new place empty life r id how mask want reply left claims e (cc) answered now) (ap (λ (s : Slot). s.last) (now ∙ claims.left))
  turn-by place empty life what reply left (Shows shares) e of answered now =
      Same (ap (λ (s : Slot). s.note) now ∙ shares.note_kept) (ap (λ (s : Slot). s.cell) now ∙ shares.cell_kept) (ap (λ (s : Slot). s.last) now ∙ shares.last_kept)
  turn-by place empty life what reply left (Holds own) e of answered now = Same (ap (λ (s : Slot). s.note) now) (ap (λ (s : Slot). s.cell) now) (ap (λ (s : Slot). s.last) now)
  turn-by place empty life what reply left (Puts {row = r} {id} {n} {cell} own) e of answered now =
      let here : r ≡ row = cc in
      Marked place id n cell (e ∙ ap (λ (x : RowNo). Put x id n cell) here) answered (ap (λ (s : Slot). s.note) now) (ap (λ (s : Slot). s.last) now)
  turn-by place empty life what reply left (Frees {row = r} {id} {n} own) e of answered now =
      let here : r ≡ row = cc in
      Freed place id n (e ∙ ap (λ (x : RowNo). Release x id n) here) own (ap (λ (s : Slot). s.note) now) (ap (λ (s : Slot). s.cell) now) (ap (λ (s : Slot). s.last) now)
  turn-by place empty life what reply left (Leaves free reader found) e of answered now = Same (ap (λ (s : Slot). s.note) now) (ap (λ (s : Slot). s.cell) now) (ap (λ (s : Slot). s.last) now)

  turn-move : SlotMove old at row call new → Turn old at row call new
  turn-move (Kept slot empty life apart) = Same (ap (λ (s : Slot). s.note) slot) (ap (λ (s : Slot). s.cell) slot) (ap (λ (s : Slot). s.last) slot)
  turn-move (Touched place of reply slot empty life) =
      turn-by place empty life call.ask.what (outcome_at old row call).reply (outcome_at old row call).slot
      (slot-does old call.ask (slot_of old row) (is_fault call.answer.reply) call.ask.what row of) refl of reply slot
  turn-move (Lost place what was slot empty life) = Bare (ap (λ (s : Slot). s.note) slot) (ap (λ (s : Slot). s.cell) slot)
  turn-move (Fitted place what was slot empty life) = Bare (ap (λ (s : Slot). s.note) slot) (ap (λ (s : Slot). s.cell) slot)

-- a put that is done leaves its id as the mark
put-last : (bay : Bay) (ask : Ask) (slot : Slot) (row : RowNo) (id n : Number) (cell : Cell) (what : Request) (reply : Reply) (left : Slot) → Does bay ask slot what reply left → what ≡ Put row id n cell → reply ≡ Done →
    left.last ≡ id
put-last bay ask slot row id n cell what reply left (Refuses r refused missing) is done = absurd (let bad : false ≡ true = ap is_refused (sym done) ∙ refused in cc)
put-last bay ask slot row id n cell what reply left (Closes there none) is done = absurd (cc)
put-last bay ask slot row id n cell what reply left (Grants claims) is done = absurd (cc)
put-last bay ask slot row id n cell what reply left (Shows shares) is done = absurd (cc)
put-last bay ask slot row id n cell what reply left (Holds own) is done = absurd (cc)
put-last bay ask slot row id n cell what reply left (Puts {row = r} {id = by} {n = m} {cell = c} own) is done = let both : Put r by m c ≡ Put row id n cell = is in cc
put-last bay ask slot row id n cell what reply left (Frees own) is done = absurd (cc)
put-last bay ask slot row id n cell what reply left (Leaves free reader found) is done = absurd (cc)

-- a claim of the slot with this id and mask
abbrev pub IsMaskClaim : BayNo → RowNo → Number → ℕ → Call → Type 0
IsMaskClaim at row id mask call = (call.bay ≡ at) × (how : How) × (want : Bool) × (call.ask.what ≡ Claim row id how mask want)

-- that was granted
abbrev pub IsGrantedClaim : BayNo → RowNo → Number → ℕ → Call → Type 0
IsGrantedClaim at row id mask call = IsMaskClaim at row id mask call × (grant : Grant) × (grant_of call.answer.reply ≡ Some grant)

-- what a claim found that left this note: none, or one that it seized, whose origin and mask it handed on
pub data Found (how : How) (seized : Option Note) (note : Note) : Type 0 where
  Anew : (none : seized ≡ None) (own : note.origin ≡ note.id) → Found how seized note
  Handed : (seizes : how ≡ Seize) (was : Note) (noted : seized ≡ Some was) (origin : was.origin ≡ note.origin) (mask : was.mask ≡ note.mask) → Found how seized note

-- the claim that left this note
pub record Opened (at : BayNo) (row : RowNo) (note : Note) (call : Call) : Type 0 where
  pub how : How
  pub mask : ℕ
  pub want : Bool
  pub place : call.bay ≡ at
  pub what : call.ask.what ≡ Claim row note.id how mask want
  pub grant : Grant
  pub granted : grant_of call.answer.reply ≡ Some grant
  pub found : Found how grant.seized note

module _ (script : Script) (is : IsScript script) (at : BayNo) (row : RowNo) (below : row.0 < script.rows) where
  abbrev pub Noted : List Call → Note → Type 0
  Noted history note = (slot_at script history at row).note ≡ Some note

  pub turned : (earlier : List Call) (call : Call) → IsNext script earlier call → Turn (bay_at script at earlier) at row call (bay_at script at (call ∷ earlier))
  turned earlier call next = turn-move (bay_at script at earlier) at row call (bay_at script at (call ∷ earlier)) (moved script is earlier call next at row below)

  -- a put that is done leaves its mark
  pub marked : (earlier : List Call) (call : Call) → IsNext script earlier call → (id n : Number) (cell : Cell) → call.bay ≡ at → call.ask.what ≡ Put row id n cell → IsDone call → (slot_at script (call ∷ earlier) at row).last ≡ id
  marked earlier call next id n cell place what done = by (moved script is earlier call next at row below)
    where
      itself : is_at at row call ≡ true
      itself =
          subst (λ (b : Bool). (b && is_row row (row_of call.ask.what)) ≡ true) (sym (eq-eqb call.bay.0 at.0 (ap (λ (x : BayNo). x.0) place)))
          (ap (λ (w : Request). is_row row (row_of w)) what ∙ eq-eqb row.0 row.0 refl)

      by : SlotMove (bay_at script at earlier) at row call (bay_at script at (call ∷ earlier)) → (slot_at script (call ∷ earlier) at row).last ≡ id
      by (Kept slot empty life apart) = absurd (let bad : true ≡ false = sym itself ∙ apart in cc)
      by (Touched at_bay of reply slot empty life) =
          ap (λ (s : Slot). s.last) slot
          ∙ put-last (bay_at script at earlier) call.ask (slot_at script earlier at row) row id n cell call.ask.what (outcome_at (bay_at script at earlier) row call).reply (outcome_at (bay_at script at earlier) row call).slot
          (slot-does (bay_at script at earlier) call.ask (slot_at script earlier at row) (is_fault call.answer.reply) call.ask.what row of) what (sym reply ∙ done)
      by (Lost at_bay lost was slot empty life) = absurd (let bad : Lose ≡ Put row id n cell = sym lost ∙ what in cc)
      by (Fitted at_bay fitted was slot empty life) = absurd (let bad : Fit ≡ Put row id n cell = sym fitted ∙ what in cc)

  -- a note stood before, or the call claimed the slot
  record Made (earlier : List Call) (call : Call) (note : Note) : Type 0 where
    claimed : Claimed (bay_at script at earlier) at row call (bay_at script at (call ∷ earlier))
    left : claimed_note call.ask claimed.id claimed.mask (slot_at script earlier at row).note ≡ note

  note-made : (earlier : List Call) (call : Call) → IsNext script earlier call → (note : Note) → Noted (call ∷ earlier) note → Noted earlier note ⊎ Made earlier call note
  note-made earlier call next note noted = by (turned earlier call next)
    where
      none : (slot_at script (call ∷ earlier) at row).note ≡ None → Noted earlier note ⊎ Made earlier call note
      none free = absurd (let bad : None ≡ Some note = sym free ∙ noted in cc)

      by : Turn (bay_at script at earlier) at row call (bay_at script at (call ∷ earlier)) → Noted earlier note ⊎ Made earlier call note
      by (Same kept cell last) = inl (sym kept ∙ noted)
      by (Bare free cell) = none free
      by (Taken c last) = inr (record { claimed = c; left = one c })
        where
          one : (c : Claimed (bay_at script at earlier) at row call (bay_at script at (call ∷ earlier))) → claimed_note call.ask c.id c.mask (slot_at script earlier at row).note ≡ note
          one c = let both : Some (claimed_note call.ask c.id c.mask (slot_at script earlier at row).note) ≡ Some note = sym c.note ∙ noted in cc
      by (Marked place id n cell what done free last) = none free
      by (Freed place id n what own free cell last) = none free

  -- a note has the origin and the mask of a claim that was granted
  pub origin-granted : (history : List Call) → IsHistory script history → (note : Note) → Noted history note → Happened (IsGrantedClaim at row note.origin note.mask) history
  origin-granted [] along note noted = absurd (let bad : None ≡ Some note = ap (λ (s : Slot). s.note) (sym (starts-first script at row below)) ∙ noted in cc)
  origin-granted (call ∷ earlier) along note noted = by (origin-granted earlier along.0) (note-made earlier call along.1 note noted)
    where
      made : ((n : Note) → Noted earlier n → Happened (IsGrantedClaim at row n.origin n.mask) earlier) → (c : Claimed (bay_at script at earlier) at row call (bay_at script at (call ∷ earlier))) → (o : Option Note) →
          (slot_at script earlier at row).note ≡ o → claimed_note call.ask c.id c.mask o ≡ note → Happened (IsGrantedClaim at row note.origin note.mask) (call ∷ earlier)
      made before c None e same =
          inl ((c.place, c.how, c.want, c.what ∙ ap (λ (x : Note). Claim row x.origin c.how x.mask c.want) same), grant_at (bay_at script at earlier) (slot_at script earlier at row) c.want, c.grant)
      made before c (Some was) e same =
          inr
          (subst (λ (id : Number). Happened (IsGrantedClaim at row id note.mask) earlier) (ap (λ (x : Note). x.origin) same)
          (subst (λ (mask : ℕ). Happened (IsGrantedClaim at row was.origin mask) earlier) (ap (λ (x : Note). x.mask) same) (before was e)))

      by : ((n : Note) → Noted earlier n → Happened (IsGrantedClaim at row n.origin n.mask) earlier) → Noted earlier note ⊎ Made earlier call note → Happened (IsGrantedClaim at row note.origin note.mask) (call ∷ earlier)
      by before (inl same) = inr (before note same)
      by before (inr m) =
          made before m.claimed (slot_at script earlier at row).note refl m.left

  pub origin-claimed : (history : List Call) → IsHistory script history → (note : Note) → Noted history note → Happened (IsMaskClaim at row note.origin note.mask) history
  origin-claimed history along note noted = claims history (origin-granted history along note noted)
    where
      claims : (calls : List Call) → Happened (IsGrantedClaim at row note.origin note.mask) calls → Happened (IsMaskClaim at row note.origin note.mask) calls
      claims [] h = h
      claims (c ∷ cs) (inl h) = inl h.0
      claims (c ∷ cs) (inr h) = inr (claims cs h)

  -- what the claim found
  opened : (earlier : List Call) (call : Call) (note : Note) → Made earlier call note → Opened at row note call
  opened earlier call note m = by (slot_at script earlier at row).note refl m.left
    where
      seizes : (was : Note) → (slot_at script earlier at row).note ≡ Some was → ((slot_at script earlier at row).note ≡ None) ⊎ (m.claimed.how ≡ Seize) → m.claimed.how ≡ Seize
      seizes was e (inl free) = absurd (let bad : None ≡ Some was = sym free ∙ e in cc)
      seizes was e (inr so) = so

      made-so : m.claimed.id ≡ note.id → Found m.claimed.how (slot_at script earlier at row).note note → Opened at row note call
      made-so named found = record {
        how = m.claimed.how;
        mask = m.claimed.mask;
        want = m.claimed.want;
        place = m.claimed.place;
        what = m.claimed.what ∙ ap (λ (x : Number). Claim row x m.claimed.how m.claimed.mask m.claimed.want) named;
        grant = grant_at (bay_at script at earlier) (slot_at script earlier at row) m.claimed.want;
        granted = m.claimed.grant;
        found = found;
      }

      by : (o : Option Note) → (slot_at script earlier at row).note ≡ o → claimed_note call.ask m.claimed.id m.claimed.mask o ≡ note → Opened at row note call
      by None e same = made-so (ap (λ (x : Note). x.id) same) (Anew e (ap (λ (x : Note). x.origin) (sym same) ∙ ap (λ (x : Note). x.id) same))
      by (Some was) e same =
          made-so (ap (λ (x : Note). x.id) same) (Handed (seizes was e m.claimed.free) was e (ap (λ (x : Note). x.origin) same) (ap (λ (x : Note). x.mask) same))

  -- The claim of an attempt in hand that left the note with its id
  pub own-opened : (history : List Call) → IsHistory script history → (host : HostNo) (steps : Steps Finish) (h : HasHand script history host steps) (e : Errand) → next_errand steps ≡ Some e →
      (note : Note) → Noted history note → note.id ≡ h.hand.id → Happened (Opened at row note) (calls_at script history host)
  own-opened [] along host steps h e asked note noted named = absurd ((ids_are_apart script [] is along).notes at row note below noted)
  own-opened (call ∷ earlier) along host steps h e asked note noted named =
      by (λ s hs es asks noted same. own-opened earlier along.0 host s hs es asks note noted same) (note-made earlier call along.1 note noted) (came script is earlier call along.0 along.1 host steps h)
    where
      by : ((s : Steps Finish) (hs : HasHand script earlier host s) (es : Errand) → next_errand s ≡ Some es → Noted earlier note → note.id ≡ hs.hand.id → Happened (Opened at row note) (calls_at script earlier host)) →
          Noted earlier note ⊎ Made earlier call note →
          Came script is earlier call along.0 along.1 host steps h.hand.id h.hand.task (calls_at script (call ∷ earlier) host) → Happened (Opened at row note) (calls_at script (call ∷ earlier) host)
      by before from (Begun own bare) =
          let claim = (ids_are_apart script (call ∷ earlier) is along).notes at row note below noted in
          let mine = happened-own script is (call ∷ earlier) along host steps h e asked (λ c k. ap (λ (w : Request). id_of w) k.5 ∙ ap (λ (x : Number). Some x) named) claim in
          absurd (subst (λ (calls : List Call). Happened (IsNoteClaim at row note) calls) bare mine)
      by before (inl same) (Stayed stays) =
          subst (λ (calls : List Call). Happened (Opened at row note) calls) (sym stays.calls) (before steps stays.before e asked same (named ∙ sym stays.same_id))
      by before (inr made) (Stayed stays) =
          let o = opened earlier call note made in
          absurd (other-id script is earlier call along host h.hand.id stays.other h.hand.own (ap (λ (w : Request). id_of w) o.what ∙ ap (λ (x : Number). Some x) named))
      by before (inl same) (Went goes) =
          subst (λ (calls : List Call). Happened (Opened at row note) calls) (sym goes.calls) (inr (before goes.steps goes.before (errand_of call) goes.asked same (named ∙ sym goes.same_id)))
      by before (inr made) (Went goes) =
          subst (λ (calls : List Call). Happened (Opened at row note) calls) (sym goes.calls) (inl (opened earlier call note made))
