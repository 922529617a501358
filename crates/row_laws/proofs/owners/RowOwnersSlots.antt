-- From where the notes of slots come: from whom, over which note, and what the claim of an attempt in hand was shown of that.
use Rattle.std.proofs.Common.{◌≡◌, ◌⊎◌, inl, inr, refl, sym, ap, subst, ◌∙◌, ℕ, ◌<◌, ◌==◌, Bool, true, false, ◌&&◌, List, [], ◌∷◌, Option, Some, None}
use Rattle.std.proofs.lemmas.Bool.{eq-eqb}
use Rattle.raid_base.specs.declared.numbers.BayNo.{BayNo}
use Rattle.raid_base.specs.declared.numbers.RowNo.{RowNo}
use Rattle.raid_base.specs.declared.numbers.Number.{Number}
use Rattle.raid_base.specs.declared.messages.How.{How}
use Rattle.raid_base.specs.declared.messages.How.TheVariants.{Seize}
use Rattle.raid_base.specs.declared.messages.Note.{Note}
use Rattle.raid_base.specs.declared.messages.Ask.{Ask}
use Rattle.raid_base.specs.declared.messages.Call.{Call}
use Rattle.raid_base.specs.declared.messages.Grant.{Grant}
use Rattle.raid_base.specs.declared.messages.Request.{Request}
use Rattle.raid_base.specs.declared.messages.Request.TheVariants.{Claim, Lose, Fit}
use Rattle.raid_base.specs.declared.messages.Reply.{Reply}
use Rattle.raid_base.specs.declared.messages.Reply.TheVariants.{Fitted}
use Rattle.raid_base.specs.Replies.{grant_of, is_fault}
use Rattle.slot_rules.specs.Slots.{Slot, Bay}
use Rattle.slot_rules.specs.Rules.{note_id, wanted_cell, granted}
use Rattle.slot_rules.specs.Laws.{claimed_note}
use Rattle.script_text.specs.Script.{Script}
use Rattle.script_text.specs.Ranges.{IsScript}
use Rattle.histories.specs.Calls.{Happened, row_of, is_row, is_at, IsClaim}
use Rattle.histories.specs.History.{bay_at, IsNext, IsHistory}
use Rattle.histories.specs.RowStates.{slot_at}
use Rattle.histories.specs.Leftovers.{IsSeizure}
use Rattle.row_laws.specs.Holding.{origin_of}
use Rattle.row_laws.proofs.hands.SlotMoves.{SlotMove, Kept, Touched, Lost, Fitted, outcome_at, moved}
use Rattle.row_laws.proofs.hands.SlotDoes.{Does, Refuses, Closes, Grants, Shows, Holds, Puts, Frees, Leaves, Claims, slot-does, refused-none}
use Rattle.histories.proofs.steps.SameNumbers.{same-some}
use Rattle.histories.proofs.steps.BayRows.{starts-first}

-- a granted claim of the row made the note
pub record FromClaim (ask : Ask) (row : RowNo) (old : Option Note) (what : Request) (reply : Reply) (note : Note) : Type 0 where
  pub how : How
  pub mask : ℕ
  pub want : Bool
  pub claims : what ≡ Claim row note.id how mask want
  pub host : ask.host ≡ note.host
  pub grant : Grant
  pub grants : grant_of reply ≡ Some grant
  pub seized : grant.seized ≡ old
  pub origin : note.origin ≡ origin_of note.id old
  pub free : (old ≡ None) ⊎ (how ≡ Seize)

claimed-facts : (ask : Ask) (id : Number) (mask : ℕ) (old : Option Note) (note : Note) → claimed_note ask id mask old ≡ note →
    (id ≡ note.id) × (ask.host ≡ note.host) × (note.origin ≡ origin_of note.id old)
claimed-facts ask id mask None note e = (ap (λ (x : Note). x.id) e, ap (λ (x : Note). x.host) e, subst (λ (x : Note). x.origin ≡ x.id) e refl)
claimed-facts ask id mask (Some was) note e = (ap (λ (x : Note). x.id) e, ap (λ (x : Note). x.host) e, ap (λ (x : Note). x.origin) (sym e))

module _ (bay : Bay) (ask : Ask) (slot : Slot) (row : RowNo) where
  from-grant : (r : RowNo) (id : Number) (how : How) (mask : ℕ) (want : Bool) (reply : Reply) (left : Slot) → Claims bay ask slot id how mask want reply left → row_of (Claim r id how mask want) ≡ Some row →
      (note : Note) → left.note ≡ Some note → FromClaim ask row slot.note (Claim r id how mask want) reply note
  from-grant r id how mask want reply left claims of note is =
      let made : Some (claimed_note ask id mask slot.note) ≡ Some note = ap (λ (s : Slot). s.note) (sym claims.left) ∙ is in
      let facts = claimed-facts ask id mask slot.note note (same-some (claimed_note ask id mask slot.note) note made) in
      let one : r ≡ row = cc in
      record {
        how = how;
        mask = mask;
        want = want;
        claims = ap (λ (x : RowNo). Claim x id how mask want) one ∙ ap (λ (x : Number). Claim row x how mask want) facts.0;
        host = facts.1;
        grant = record { cell = wanted_cell want slot; last = slot.last; life = bay.life; seized = slot.note };
        grants = ap (λ (x : Reply). grant_of x) claims.reply;
        seized = refl;
        origin = facts.2;
        free = claims.free;
      }

  does-note : (what : Request) (reply : Reply) (left : Slot) → Does bay ask slot what reply left → row_of what ≡ Some row → (note : Note) → left.note ≡ Some note →
      (slot.note ≡ Some note) ⊎ FromClaim ask row slot.note what reply note
  does-note what reply left (Refuses r refused missing) of note is = inl is
  does-note what reply left (Closes there none) of note is = absurd (cc)
  does-note what reply left (Grants {row = r} {id} {how} {mask} {want} claims) of note is = inr (from-grant r id how mask want reply left claims of note is)
  does-note what reply left (Shows shares) of note is = inl (sym shares.note_kept ∙ is)
  does-note what reply left (Holds own) of note is = inl is
  does-note what reply left (Puts own) of note is = absurd (let bad : None ≡ Some note = is in cc)
  does-note what reply left (Frees own) of note is = absurd (let bad : None ≡ Some note = is in cc)
  does-note what reply left (Leaves free reader found) of note is = inl is

  -- a claim that was granted tells the life of the bay
  does-grant : (what : Request) (reply : Reply) (left : Slot) → Does bay ask slot what reply left → (grant : Grant) → grant_of reply ≡ Some grant → grant.life ≡ bay.life
  does-grant what reply left (Refuses r refused missing) grant is = absurd (let bad : None ≡ Some grant = sym (refused-none r refused) ∙ is in cc)
  does-grant what reply left (Closes there none) grant is = absurd (let bad : None ≡ Some grant = is in cc)
  does-grant what reply left (Grants {want} claims) grant is = lives slot.note claims.reply
    where
      lives : (seized : Option Note) → reply ≡ granted bay slot want seized → grant.life ≡ bay.life
      lives seized e =
          let both : Some (record { cell = wanted_cell want slot; last = slot.last; life = bay.life; seized = seized }) ≡ Some grant = sym (ap (λ (x : Reply). grant_of x) e) ∙ is in
          ap (λ (g : Grant). g.life) (sym (same-some (record { cell = wanted_cell want slot; last = slot.last; life = bay.life; seized = seized }) grant both))
  does-grant what reply left (Shows {want} shares) grant is =
      let both : Some (record { cell = wanted_cell want slot; last = slot.last; life = bay.life; seized = None }) ≡ Some grant = sym (ap (λ (x : Reply). grant_of x) shares.reply) ∙ is in
      ap (λ (g : Grant). g.life) (sym (same-some (record { cell = wanted_cell want slot; last = slot.last; life = bay.life; seized = None }) grant both))
  does-grant what reply left (Holds own) grant is = absurd (let bad : None ≡ Some grant = is in cc)
  does-grant what reply left (Puts own) grant is = absurd (let bad : None ≡ Some grant = is in cc)
  does-grant what reply left (Frees own) grant is = absurd (let bad : None ≡ Some grant = is in cc)
  does-grant what reply left (Leaves free reader found) grant is = absurd (let bad : None ≡ Some grant = is in cc)

  -- where the bay is empty the slot stays blank and free
  noteless : (id : Number) → slot.note ≡ None → note_id slot.note id ≡ true → ⊥
  noteless id free own = let bad : false ≡ true = sym (ap (λ (o : Option Note). note_id o id) free) ∙ own in cc

  does-empty : (what : Request) (reply : Reply) (left : Slot) → Does bay ask slot what reply left → bay.empty ≡ true → (slot.cell ≡ None) × (slot.note ≡ None) → (left.cell ≡ None) × (left.note ≡ None)
  does-empty what reply left (Refuses r refused missing) empty bare = bare
  does-empty what reply left (Closes there none) empty bare = absurd (let bad : true ≡ false = sym empty ∙ there in cc)
  does-empty what reply left (Grants claims) empty bare = absurd (let bad : true ≡ false = sym empty ∙ claims.there in cc)
  does-empty what reply left (Shows shares) empty bare = absurd (let bad : true ≡ false = sym empty ∙ shares.there in cc)
  does-empty what reply left (Holds own) empty bare = bare
  does-empty what reply left (Puts {id} own) empty bare = absurd (noteless id bare.1 own)
  does-empty what reply left (Frees {id} own) empty bare = absurd (noteless id bare.1 own)
  does-empty what reply left (Leaves free reader found) empty bare = bare

module _ (script : Script) (is : IsScript script) where
  module _ (earlier : List Call) (call : Call) (next : IsNext script earlier call) (at : BayNo) (row : RowNo) (below : row.0 < script.rows) where
    abbrev pub Move : Type 0
    Move = SlotMove (bay_at script at earlier) at row call (bay_at script at (call ∷ earlier))

    pub does-at : row_of call.ask.what ≡ Some row → call.answer.reply ≡ (outcome_at (bay_at script at earlier) row call).reply →
        slot_at script (call ∷ earlier) at row ≡ (outcome_at (bay_at script at earlier) row call).slot →
        Does (bay_at script at earlier) call.ask (slot_at script earlier at row) call.ask.what call.answer.reply (slot_at script (call ∷ earlier) at row)
    does-at of reply slot =
        subst (λ (s : Slot). Does (bay_at script at earlier) call.ask (slot_at script earlier at row) call.ask.what call.answer.reply s) (sym slot)
        (subst (λ (r : Reply). Does (bay_at script at earlier) call.ask (slot_at script earlier at row) call.ask.what r (outcome_at (bay_at script at earlier) row call).slot) (sym reply)
        (slot-does (bay_at script at earlier) call.ask (slot_at script earlier at row) (is_fault call.answer.reply) call.ask.what row of))

    -- a note was there before, or the call has made it
    pub note-from : (note : Note) → (slot_at script (call ∷ earlier) at row).note ≡ Some note → ((slot_at script earlier at row).note ≡ Some note)
        ⊎ ((call.bay ≡ at) × FromClaim call.ask row (slot_at script earlier at row).note call.ask.what call.answer.reply note)
    note-from note noted = by (moved script is earlier call next at row below)
      where
        made : ((slot_at script earlier at row).note ≡ Some note) ⊎ FromClaim call.ask row (slot_at script earlier at row).note call.ask.what call.answer.reply note → call.bay ≡ at →
            ((slot_at script earlier at row).note ≡ Some note) ⊎ ((call.bay ≡ at) × FromClaim call.ask row (slot_at script earlier at row).note call.ask.what call.answer.reply note)
        made (inl same) place = inl same
        made (inr from) place = inr (place, from)

        by : Move → ((slot_at script earlier at row).note ≡ Some note)
            ⊎ ((call.bay ≡ at) × FromClaim call.ask row (slot_at script earlier at row).note call.ask.what call.answer.reply note)
        by (Kept slot empty life apart) = inl (ap (λ (s : Slot). s.note) (sym slot) ∙ noted)
        by (Touched place of reply slot empty life) =
            made (does-note (bay_at script at earlier) call.ask (slot_at script earlier at row) row call.ask.what call.answer.reply (slot_at script (call ∷ earlier) at row) (does-at of reply slot) of note noted) place
        by (Lost place what was slot empty life) = absurd (let bad : None ≡ Some note = ap (λ (s : Slot). s.note) (sym slot) ∙ noted in cc)
        by (Fitted place what was slot empty life) = absurd (let bad : None ≡ Some note = ap (λ (s : Slot). s.note) (sym slot) ∙ noted in cc)

    -- a bay lives on where it isn't lost
    pub life-kept : (call.ask.what ≡ Lose → ⊥) → (bay_at script at (call ∷ earlier)).life ≡ (bay_at script at earlier).life
    life-kept other = by (moved script is earlier call next at row below)
      where
        by : Move → (bay_at script at (call ∷ earlier)).life ≡ (bay_at script at earlier).life
        by (Kept slot empty life apart) = life
        by (Touched place of reply slot empty life) = life
        by (Lost place what was slot empty life) = absurd (other what)
        by (Fitted place what was slot empty life) = life

    -- the slot was asked
    pub claim-life : IsClaim at row call → (grant : Grant) → grant_of call.answer.reply ≡ Some grant → grant.life ≡ (bay_at script at earlier).life
    claim-life of grant granted = by (moved script is earlier call next at row below)
      where
        place : is_at at row call ≡ true
        place = both (call.bay.0 == at.0) (is_row row (row_of call.ask.what)) (eq-eqb call.bay.0 at.0 (ap (λ (b : BayNo). b.0) of.0)) (ap (λ (w : Request). is_row row (row_of w)) of.5 ∙ eq-eqb row.0 row.0 refl)
          where
            both : (a b : Bool) → a ≡ true → b ≡ true → (a && b) ≡ true
            both true b x y = y
            both false b x y = x

        by : Move → grant.life ≡ (bay_at script at earlier).life
        by (Kept slot empty life apart) = absurd (let bad : true ≡ false = sym place ∙ apart in cc)
        by (Touched at_it of_row reply slot empty life) =
            does-grant (bay_at script at earlier) call.ask (slot_at script earlier at row) row call.ask.what call.answer.reply (slot_at script (call ∷ earlier) at row) (does-at of_row reply slot) grant granted
        by (Lost at_it what was slot empty life) = absurd (let bad : Lose ≡ Claim row of.1 of.2 of.3 of.4 = sym what ∙ of.5 in cc)
        by (Fitted at_it what was slot empty life) = absurd (let bad : Fit ≡ Claim row of.1 of.2 of.3 of.4 = sym what ∙ of.5 in cc)

  abbrev IsBare : Slot → Type 0
  IsBare s = (s.cell ≡ None) × (s.note ≡ None)

  -- an empty bay has no cell
  pub empty-bare : (history : List Call) → IsHistory script history → (at : BayNo) (row : RowNo) → row.0 < script.rows → (bay_at script at history).empty ≡ true →
      IsBare (slot_at script history at row)
  empty-bare [] along at row below empty = absurd (let bad : false ≡ true = empty in cc)
  empty-bare (call ∷ earlier) along at row below empty = by (empty-bare earlier along.0 at row below) (moved script is earlier call along.1 at row below)
    where
      by : ((bay_at script at earlier).empty ≡ true → IsBare (slot_at script earlier at row)) → SlotMove (bay_at script at earlier) at row call (bay_at script at (call ∷ earlier)) →
          IsBare (slot_at script (call ∷ earlier) at row)
      by before (Kept slot same life apart) = subst IsBare (sym slot) (before (sym same ∙ empty))
      by before (Touched place of reply slot same life) =
          does-empty (bay_at script at earlier) call.ask (slot_at script earlier at row) row call.ask.what call.answer.reply (slot_at script (call ∷ earlier) at row)
          (does-at earlier call along.1 at row below of reply slot) (sym same ∙ empty) (before (sym same ∙ empty))
      by before (Lost place what was slot same life) = subst IsBare (sym slot) (refl, refl)
      by before (Fitted place what was slot same life) = absurd (let bad : true ≡ false = sym empty ∙ same in cc)

  -- a note came from its own id, or a seizure has its id
  pub origins : (history : List Call) → IsHistory script history → (at : BayNo) (row : RowNo) → row.0 < script.rows → (note : Note) → (slot_at script history at row).note ≡ Some note →
      (note.origin ≡ note.id) ⊎ Happened (IsSeizure note.host note.id) history
  origins [] along at row below note noted =
      absurd (let bad : None ≡ Some note = ap (λ (s : Slot). s.note) (sym (starts-first script at row below)) ∙ noted in cc)
  origins (call ∷ earlier) along at row below note noted = by (origins earlier along.0 at row below note) (note-from earlier call along.1 at row below note noted)
    where
      later : (note.origin ≡ note.id) ⊎ Happened (IsSeizure note.host note.id) earlier → (note.origin ≡ note.id) ⊎ Happened (IsSeizure note.host note.id) (call ∷ earlier)
      later (inl own) = inl own
      later (inr h) = inr (inr h)

      made : (from : FromClaim call.ask row (slot_at script earlier at row).note call.ask.what call.answer.reply note) →
          ((slot_at script earlier at row).note ≡ None) ⊎ (from.how ≡ Seize) → (note.origin ≡ note.id) ⊎ Happened (IsSeizure note.host note.id) (call ∷ earlier)
      made from (inl free) = inl (from.origin ∙ ap (λ (o : Option Note). origin_of note.id o) free)
      made from (inr seizes) = inr (inl (from.host, row, from.mask, from.want, from.claims ∙ ap (λ (h : How). Claim row note.id h from.mask from.want) seizes))

      by : ((slot_at script earlier at row).note ≡ Some note → (note.origin ≡ note.id) ⊎ Happened (IsSeizure note.host note.id) earlier) → ((slot_at script earlier at row).note ≡ Some note)
          ⊎ ((call.bay ≡ at) × FromClaim call.ask row (slot_at script earlier at row).note call.ask.what call.answer.reply note) →
          (note.origin ≡ note.id) ⊎ Happened (IsSeizure note.host note.id) (call ∷ earlier)
      by before (inl same) = later (before same)
      by before (inr from) = made from.1 from.1.free
