-- What a call does to the note and the cell of a slot, and a cell that a claim found stays as long as the device.
use Rattle.std.proofs.Common.{◌≡◌, ◌⊎◌, inl, inr, refl, sym, ap, subst, ◌∙◌, ℕ, ◌+◌, ◌<◌, ◌≤◌, ◌&&◌, Bool, true, false, List, [], ◌∷◌, Option, Some, None, IsSome, arith}
use Rattle.std.proofs.lemmas.Bool.{eq-eqb}
use Rattle.raid_base.specs.declared.numbers.BayNo.{BayNo}
use Rattle.raid_base.specs.declared.numbers.RowNo.{RowNo}
use Rattle.raid_base.specs.declared.numbers.Number.{Number}
use Rattle.raid_base.specs.declared.cells.Cell.{Cell}
use Rattle.raid_base.specs.declared.messages.How.{How}
use Rattle.raid_base.specs.declared.messages.How.TheVariants.{Seize, Mend}
use Rattle.raid_base.specs.declared.messages.Grant.{Grant}
use Rattle.raid_base.specs.declared.messages.Ask.{Ask}
use Rattle.raid_base.specs.declared.messages.Reply.{Reply}
use Rattle.raid_base.specs.declared.messages.Reply.TheVariants.{Granted, Busy, Late, Young, Missing, Held, NoNote, Done, Fault, Emptied, Fitted}
use Rattle.raid_base.specs.declared.messages.Request.{Request}
use Rattle.raid_base.specs.declared.messages.Request.TheVariants.{Share, Claim, Confirm, Put, Release, Lose, Fit}
use Rattle.raid_base.specs.declared.messages.Call.{Call}
use Rattle.raid_base.specs.Replies.{grant_of, is_fault, is_held, is_missing}
use Rattle.slot_rules.specs.Slots.{Slot, Bay, slot_of}
use Rattle.slot_rules.specs.Rules.{note_id, wanted_cell}
use Rattle.slot_rules.specs.Laws.{is_refused, claimed_note}
use Rattle.attempts.specs.Phases.{IsIn}
use Rattle.script_text.specs.Script.{Script}
use Rattle.script_text.specs.Ranges.{IsScript}
use Rattle.histories.specs.Calls.{row_of, is_row, is_at, IsClaim}
use Rattle.histories.specs.History.{IsNext, IsHistory, bay_at}
use Rattle.histories.specs.RowStates.{slot_at}
use Rattle.row_laws.proofs.hands.SlotMoves.{SlotMove, Kept, Touched, Lost, Fitted, outcome_at, moved}
use Rattle.row_laws.proofs.hands.SlotDoes.{IsGone, Does, Refuses, Closes, Grants, Shows, Holds, Puts, Frees, Leaves, slot-does, refused-none, Claims}

-- a claim of the slot that was granted
abbrev pub IsGranted : BayNo → RowNo → Call → Type 0
IsGranted at row call = IsClaim at row call × (grant : Grant) × (grant_of call.answer.reply ≡ Some grant)

-- what a granted claim shows
abbrev pub grant_at : Bay → Slot → Bool → Grant
grant_at bay slot want = record { cell = wanted_cell want slot; last = slot.last; life = bay.life; seized = slot.note }

-- what a call does to a slot
pub record Claimed (old : Bay) (at : BayNo) (row : RowNo) (call : Call) (new : Bay) : Type 0 where
  pub place : call.bay ≡ at
  pub id : Number
  pub how : How
  pub mask : ℕ
  pub want : Bool
  pub what : call.ask.what ≡ Claim row id how mask want
  pub grant : grant_of call.answer.reply ≡ Some (grant_at old (slot_of old row) want)
  pub note : (slot_of new row).note ≡ Some (claimed_note call.ask id mask (slot_of old row).note)
  pub cell : (slot_of new row).cell ≡ (slot_of old row).cell
  pub there : new.empty ≡ false
  pub life : new.life ≡ old.life
  pub found : IsSome (slot_of old row).cell ⊎ (how ≡ Mend)
  pub free : ((slot_of old row).note ≡ None) ⊎ (how ≡ Seize)

pub data Turned (old : Bay) (at : BayNo) (row : RowNo) (call : Call) (new : Bay) : Type 0 where
  Same : (note : (slot_of new row).note ≡ (slot_of old row).note) (cell : (slot_of new row).cell ≡ (slot_of old row).cell) (empty : new.empty ≡ old.empty) (life : new.life ≡ old.life)
      (other : IsGranted at row call → ⊥) → Turned old at row call new
  Taken : (claimed : Claimed old at row call new) → Turned old at row call new
  Filled : (place : call.bay ≡ at) (id n : Number) (cell : Cell) (what : call.ask.what ≡ Put row id n cell) (own : note_id (slot_of old row).note id ≡ true) (note : (slot_of new row).note ≡ None)
      (there : IsSome (slot_of new row).cell) (empty : new.empty ≡ old.empty) (life : new.life ≡ old.life) → Turned old at row call new
  Freed : (place : call.bay ≡ at) (id : Number) (n : Option Number) (what : call.ask.what ≡ Release row id n) (own : note_id (slot_of old row).note id ≡ true)
      (note : (slot_of new row).note ≡ None) (cell : (slot_of new row).cell ≡ (slot_of old row).cell) (empty : new.empty ≡ old.empty) (life : new.life ≡ old.life) → Turned old at row call new
  Closed : (was : (slot_of old row).cell ≡ None) (note : (slot_of new row).note ≡ None) (cell : (slot_of new row).cell ≡ None) (empty : new.empty ≡ old.empty) (life : new.life ≡ old.life)
      (other : IsGranted at row call → ⊥) → Turned old at row call new
  Cleared : (what : call.ask.what ≡ Lose) (note : (slot_of new row).note ≡ None) (cell : (slot_of new row).cell ≡ None) (life : new.life ≡ old.life + 1) → Turned old at row call new
  Renewed : (what : call.ask.what ≡ Fit) (was : old.empty ≡ true) (note : (slot_of new row).note ≡ None) (cell : (slot_of new row).cell ≡ None) (life : new.life ≡ old.life) → Turned old at row call new

-- a claim that the slot rule granted was claimed
pub claimed-so : (old : Bay) (at : BayNo) (row : RowNo) (call : Call) (new : Bay) → call.bay ≡ at → new.empty ≡ old.empty → new.life ≡ old.life → (r : RowNo) (id : Number) (how : How) (mask : ℕ) (want : Bool) (reply : Reply) (left : Slot) →
    Claims old call.ask (slot_of old row) id how mask want reply left → call.ask.what ≡ Claim r id how mask want → r ≡ row → call.answer.reply ≡ reply → slot_of new row ≡ left → Claimed old at row call new
claimed-so old at row call new place empty life r id how mask want reply left claims e here answered now = record {
  place = place;
  id = id;
  how = how;
  mask = mask;
  want = want;
  what = e ∙ ap (λ (x : RowNo). Claim x id how mask want) here;
  grant = ap grant_of (answered ∙ claims.reply);
  note = ap (λ (s : Slot). s.note) (now ∙ claims.left);
  cell = ap (λ (s : Slot). s.cell) (now ∙ claims.left);
  there = empty ∙ claims.there;
  life = life;
  found = claims.cell;
  free = claims.free;
}

module _ (old : Bay) (at : BayNo) (row : RowNo) (call : Call) (new : Bay) where
  abbrev Turns : Type 0
  Turns = Turned old at row call new

  not-granted : grant_of call.answer.reply ≡ None → IsGranted at row call → ⊥
  not-granted none (claim, grant, some) = absurd (let bad : None ≡ Some grant = sym none ∙ some in cc)

  -- another request than a claim
  not-claim : (what : Request) → call.ask.what ≡ what → ((id : Number) (how : How) (mask : ℕ) (want : Bool) → what ≡ Claim row id how mask want → ⊥) → IsGranted at row call → ⊥
  not-claim what e apart ((place, id, how, mask, want, claim), grant, some) = apart id how mask want (sym e ∙ claim)

  at-itself : IsGranted at row call → is_at at row call ≡ true
  at-itself ((place, id, how, mask, want, claim), grant, some) =
      subst (λ (b : Bool). (b && is_row row (row_of call.ask.what)) ≡ true) (sym (eq-eqb call.bay.0 at.0 (ap (λ (x : BayNo). x.0) place)))
      (ap (λ (w : Request). is_row row (row_of w)) claim ∙ eq-eqb row.0 row.0 refl)

  module _ (place : call.bay ≡ at) (empty : new.empty ≡ old.empty) (life : new.life ≡ old.life) where
    turned-by : (what : Request) (reply : Reply) (left : Slot) → Does old call.ask (slot_of old row) what reply left → call.ask.what ≡ what → row_of what ≡ Some row → call.answer.reply ≡ reply →
        slot_of new row ≡ left → Turns
    turned-by what reply left (Refuses r refused missing) e of answered now =
        Same (ap (λ (s : Slot). s.note) now) (ap (λ (s : Slot). s.cell) now) empty life (not-granted (ap grant_of answered ∙ refused-none r refused))
    turned-by what reply left (Closes there none) e of answered now =
        Closed none (ap (λ (s : Slot). s.note) now) (ap (λ (s : Slot). s.cell) now ∙ none) empty life (not-granted (ap grant_of answered))
    turned-by what reply left (Grants {row = r} {id} {how} {mask} {want} claims) e of answered now =
        Taken (claimed-so old at row call new place empty life r id how mask want reply left claims e (cc) answered now)
    turned-by what reply left (Shows {row = r} {id} {want} shares) e of answered now =
        Same (ap (λ (s : Slot). s.note) now ∙ shares.note_kept) (ap (λ (s : Slot). s.cell) now ∙ shares.cell_kept) empty life (not-claim (Share r id want) e (λ i how mask w bad. absurd (cc)))
    turned-by what reply left (Holds {row = r} {id} {want} own) e of answered now =
        Same (ap (λ (s : Slot). s.note) now) (ap (λ (s : Slot). s.cell) now) empty life (not-claim (Confirm r id want) e (λ i how mask w bad. absurd (cc)))
    turned-by what reply left (Puts {row = r} {id} {n} {cell} own) e of answered now =
        let here : r ≡ row = cc in
        Filled place id n cell (e ∙ ap (λ (x : RowNo). Put x id n cell) here) own (ap (λ (s : Slot). s.note) now) (subst (λ (o : Option Cell). IsSome o) (sym (ap (λ (s : Slot). s.cell) now)) refl) empty life
    turned-by what reply left (Frees {row = r} {id} {n} own) e of answered now =
        let here : r ≡ row = cc in
        Freed place id n (e ∙ ap (λ (x : RowNo). Release x id n) here) own (ap (λ (s : Slot). s.note) now) (ap (λ (s : Slot). s.cell) now) empty life
    turned-by what reply left (Leaves {row = r} {id} {n} free reader found) e of answered now =
        Same (ap (λ (s : Slot). s.note) now) (ap (λ (s : Slot). s.cell) now) empty life (not-claim (Release r id n) e (λ i how mask w bad. absurd (cc)))

  turned-move : SlotMove old at row call new → Turns
  turned-move (Kept slot empty life apart) =
      Same (ap (λ (s : Slot). s.note) slot) (ap (λ (s : Slot). s.cell) slot) empty life (λ g. absurd (let bad : true ≡ false = sym (at-itself g) ∙ apart in cc))
  turned-move (Touched place of reply slot empty life) =
      turned-by place empty life call.ask.what (outcome_at old row call).reply (outcome_at old row call).slot
      (slot-does old call.ask (slot_of old row) (is_fault call.answer.reply) call.ask.what row of) refl of reply slot
  turned-move (Lost place what was slot empty life) = Cleared what (ap (λ (s : Slot). s.note) slot) (ap (λ (s : Slot). s.cell) slot) life
  turned-move (Fitted place what was slot empty life) = Renewed what was (ap (λ (s : Slot). s.note) slot) (ap (λ (s : Slot). s.cell) slot) life

-- a claim to mend
abbrev pub IsMending : RowNo → Call → Type 0
IsMending row call = (id : Number) × (mask : ℕ) × (want : Bool) × (call.ask.what ≡ Claim row id Mend mask want)

module _ (script : Script) (is : IsScript script) (at : BayNo) (row : RowNo) (below : row.0 < script.rows) where
  pub turned : (earlier : List Call) (call : Call) → IsNext script earlier call → Turned (bay_at script at earlier) at row call (bay_at script at (call ∷ earlier))
  turned earlier call next = turned-move (bay_at script at earlier) at row call (bay_at script at (call ∷ earlier)) (moved script is earlier call next at row below)

  -- a claim that was granted found a cell, unless it was to mend, and the cell is there as long as the device
  pub record Found (history : List Call) (call : Call) (grant : Grant) : Type 0 where
    pub life : grant.life ≤ (bay_at script at history).life
    pub there : grant.life ≡ (bay_at script at history).life → (bay_at script at history).empty ≡ false
    pub cell : grant.life ≡ (bay_at script at history).life → IsSome (slot_at script history at row).cell ⊎ IsMending row call

  found-now : (earlier : List Call) (call : Call) (grant : Grant) → grant_of call.answer.reply ≡ Some grant → Claimed (bay_at script at earlier) at row call (bay_at script at (call ∷ earlier)) →
      Found (call ∷ earlier) call grant
  found-now earlier call grant some c =
      let both : Some (grant_at (bay_at script at earlier) (slot_of (bay_at script at earlier) row) c.want) ≡ Some grant = sym c.grant ∙ some in
      let same : grant_at (bay_at script at earlier) (slot_of (bay_at script at earlier) row) c.want ≡ grant = cc in
      let life : grant.life ≡ (bay_at script at (call ∷ earlier)).life = ap (λ (g : Grant). g.life) (sym same) ∙ sym c.life in
      record { life = omega (arith, life); there = λ e. c.there; cell = λ e. by c.found }
    where
      by : IsSome (slot_of (bay_at script at earlier) row).cell ⊎ (c.how ≡ Mend) → IsSome (slot_at script (call ∷ earlier) at row).cell ⊎ IsMending row call
      by (inl there) = inl (subst (λ (o : Option Cell). IsSome o) (sym c.cell) there)
      by (inr mends) = inr (c.id, c.mask, c.want, c.what ∙ ap (λ (h : How). Claim row c.id h c.mask c.want) mends)

  found-more : (earlier : List Call) (next call : Call) (grant : Grant) → Turned (bay_at script at earlier) at row next (bay_at script at (next ∷ earlier)) → Found earlier call grant →
      Found (next ∷ earlier) call grant
  found-more earlier next call grant (Same note cell empty life other) f = record {
    life = let low = f.life in omega (arith, low, life);
    there = λ e. empty ∙ f.there (e ∙ life);
    cell = λ e. subst (λ (o : Option Cell). IsSome o ⊎ IsMending row call) (sym cell) (f.cell (e ∙ life));
  }
  found-more earlier next call grant (Taken c) f = record {
    life = let low = f.life in let life = c.life in omega (arith, low, life);
    there = λ e. c.there;
    cell = λ e. subst (λ (o : Option Cell). IsSome o ⊎ IsMending row call) (sym c.cell) (f.cell (e ∙ c.life));
  }
  found-more earlier next call grant (Filled place id n cell what own note there empty life) f = record {
    life = let low = f.life in omega (arith, low, life);
    there = λ e. empty ∙ f.there (e ∙ life);
    cell = λ e. inl there;
  }
  found-more earlier next call grant (Freed place id n what own note cell empty life) f = record {
    life = let low = f.life in omega (arith, low, life);
    there = λ e. empty ∙ f.there (e ∙ life);
    cell = λ e. subst (λ (o : Option Cell). IsSome o ⊎ IsMending row call) (sym cell) (f.cell (e ∙ life));
  }
  found-more earlier next call grant (Closed was note cell empty life other) f = record {
    life = let low = f.life in omega (arith, low, life);
    there = λ e. empty ∙ f.there (e ∙ life);
    cell = λ e. subst (λ (o : Option Cell). IsSome o ⊎ IsMending row call) (was ∙ sym cell) (f.cell (e ∙ life));
  }
  found-more earlier next call grant (Cleared what note cell life) f = record {
    life = let low = f.life in omega (arith, low, life);
    there = λ e. absurd (let low = f.life in omega (arith, low, life, e));
    cell = λ e. absurd (let low = f.life in omega (arith, low, life, e));
  }
  found-more earlier next call grant (Renewed what was note cell life) f = record {
    life = let low = f.life in omega (arith, low, life);
    there = λ e. absurd (let bad : true ≡ false = sym was ∙ f.there (e ∙ life) in cc);
    cell = λ e. absurd (let bad : true ≡ false = sym was ∙ f.there (e ∙ life) in cc);
  }

  granted-claims : (old new : Bay) (call : Call) → IsGranted at row call → Turned old at row call new → Claimed old at row call new
  granted-claims old new call g (Same note cell empty life other) = absurd (other g)
  granted-claims old new call g (Taken c) = c
  granted-claims old new call ((place, i, how, mask, want, claim), grant, some) (Filled here id n cell what own note there empty life) = absurd (let bad : Put row id n cell ≡ Claim row i how mask want = sym what ∙ claim in cc)
  granted-claims old new call ((place, i, how, mask, want, claim), grant, some) (Freed here id n what own note cell empty life) = absurd (let bad : Release row id n ≡ Claim row i how mask want = sym what ∙ claim in cc)
  granted-claims old new call g (Closed was note cell empty life other) = absurd (other g)
  granted-claims old new call ((place, i, how, mask, want, claim), grant, some) (Cleared what note cell life) = absurd (let bad : Lose ≡ Claim row i how mask want = sym what ∙ claim in cc)
  granted-claims old new call ((place, i, how, mask, want, claim), grant, some) (Renewed what was note cell life) = absurd (let bad : Fit ≡ Claim row i how mask want = sym what ∙ claim in cc)

  -- the call that was granted
  pub claimed-by : (earlier : List Call) (call : Call) → IsNext script earlier call → IsGranted at row call → Claimed (bay_at script at earlier) at row call (bay_at script at (call ∷ earlier))
  claimed-by earlier call next g = granted-claims (bay_at script at earlier) (bay_at script at (call ∷ earlier)) call g (turned earlier call next)

  pub found-cell : (history : List Call) → IsHistory script history → (call : Call) (grant : Grant) → IsIn call history → IsClaim at row call → grant_of call.answer.reply ≡ Some grant → Found history call grant
  found-cell [] along call grant i claim some = absurd i
  found-cell (next ∷ earlier) along call grant (inl same) claim some =
      subst (λ (c : Call). Found (next ∷ earlier) c grant) same
      (found-now earlier next grant (ap (λ (c : Call). grant_of c.answer.reply) same ∙ some)
      (claimed-by earlier next along.1 (subst (λ (c : Call). IsGranted at row c) (sym same) (claim, grant, some))))
  found-cell (next ∷ earlier) along call grant (inr i) claim some = found-more earlier next call grant (turned earlier next along.1) (found-cell earlier along.0 call grant i claim some)

  -- where there is no device there is no note
  pub empty-bare : (history : List Call) → IsHistory script history → (bay_at script at history).empty ≡ true → (slot_at script history at row).note ≡ None
  empty-bare [] along empty = absurd (let bad : false ≡ true = empty in cc)
  empty-bare (call ∷ earlier) along empty = by (turned earlier call along.1) (empty-bare earlier along.0)
    where
      by : Turned (bay_at script at earlier) at row call (bay_at script at (call ∷ earlier)) → ((bay_at script at earlier).empty ≡ true → (slot_at script earlier at row).note ≡ None) →
          (slot_at script (call ∷ earlier) at row).note ≡ None
      by (Same note cell was life other) before = note ∙ before (sym was ∙ empty)
      by (Taken c) before = absurd (let bad : true ≡ false = sym empty ∙ c.there in cc)
      by (Filled place id n cell what own note there was life) before = note
      by (Freed place id n what own note cell was life) before = note
      by (Closed blank note cell was life other) before = note
      by (Cleared what note cell life) before = note
      by (Renewed what was note cell life) before = note

  -- a confirm that is held finds its own note, and one that finds the slot missing finds no cell
  pub record Confirmation (earlier : List Call) (call : Call) (id : Number) : Type 0 where
    pub held : is_held call.answer.reply ≡ true → note_id (slot_at script earlier at row).note id ≡ true
    pub missing : is_missing call.answer.reply ≡ true → IsGone (bay_at script at earlier) (slot_at script earlier at row)

  refused-held : (r : Reply) → is_refused r ≡ true → is_held r ≡ true → ⊥
  refused-held (Held cell) e held = absurd (cc)
  refused-held (Granted cell read_no write_no last life seized) e held = absurd (cc)
  refused-held (Busy holder) e held = absurd (cc)
  refused-held (Late above) e held = absurd (cc)
  refused-held (Young note) e held = absurd (cc)
  refused-held (Missing floor) e held = absurd (cc)
  refused-held (NoNote life) e held = absurd (cc)
  refused-held Done e held = absurd (cc)
  refused-held Fault e held = absurd (cc)
  refused-held Emptied e held = absurd (cc)
  refused-held Fitted e held = absurd (cc)

  missing-floor : (r : Reply) → is_missing r ≡ true → (floor : Number) × (r ≡ Missing floor)
  missing-floor (Missing floor) e = (floor, refl)
  missing-floor (Held cell) e = absurd (cc)
  missing-floor (Granted cell read_no write_no last life seized) e = absurd (cc)
  missing-floor (Busy holder) e = absurd (cc)
  missing-floor (Late above) e = absurd (cc)
  missing-floor (Young note) e = absurd (cc)
  missing-floor (NoNote life) e = absurd (cc)
  missing-floor Done e = absurd (cc)
  missing-floor Fault e = absurd (cc)
  missing-floor Emptied e = absurd (cc)
  missing-floor Fitted e = absurd (cc)

  confirm-does : (earlier : List Call) (call : Call) (id : Number) (want : Bool) (ask : Ask) (what : Request) (reply : Reply) (left : Slot) →
      Does (bay_at script at earlier) ask (slot_at script earlier at row) what reply left → what ≡ Confirm row id want → call.answer.reply ≡ reply → Confirmation earlier call id
  confirm-does earlier call id want ask what reply left (Refuses r refused missing) e same = record {
    held = λ h. absurd (refused-held r refused (ap is_held (sym same) ∙ h));
    missing = λ m. let found = missing-floor r (ap is_missing (sym same) ∙ m) in missing found.0 found.1;
  }
  confirm-does earlier call id want ask what reply left (Holds {row = r} {id = i} {want = w} own) e same =
      let one : i ≡ id = cc in
      record {
        held = λ h. subst (λ (x : Number). note_id (slot_at script earlier at row).note x ≡ true) one own;
        missing = λ m. absurd (let bad : false ≡ true = ap is_missing (sym same) ∙ m in cc);
      }
  confirm-does earlier call id want ask what reply left (Closes there none) e same = absurd (cc)
  confirm-does earlier call id want ask what reply left (Grants claims) e same = absurd (cc)
  confirm-does earlier call id want ask what reply left (Shows shares) e same = absurd (cc)
  confirm-does earlier call id want ask what reply left (Puts own) e same = absurd (cc)
  confirm-does earlier call id want ask what reply left (Frees own) e same = absurd (cc)
  confirm-does earlier call id want ask what reply left (Leaves free reader found) e same = absurd (cc)

  pub confirmation : (earlier : List Call) (call : Call) → IsNext script earlier call → (id : Number) (want : Bool) → call.bay ≡ at → call.ask.what ≡ Confirm row id want → Confirmation earlier call id
  confirmation earlier call next id want place what = by (moved script is earlier call next at row below)
    where
      itself : is_at at row call ≡ true
      itself =
          subst (λ (b : Bool). (b && is_row row (row_of call.ask.what)) ≡ true) (sym (eq-eqb call.bay.0 at.0 (ap (λ (x : BayNo). x.0) place)))
          (ap (λ (w : Request). is_row row (row_of w)) what ∙ eq-eqb row.0 row.0 refl)

      by : SlotMove (bay_at script at earlier) at row call (bay_at script at (call ∷ earlier)) → Confirmation earlier call id
      by (Kept slot empty life apart) = absurd (let bad : true ≡ false = sym itself ∙ apart in cc)
      by (Touched here of reply slot empty life) =
          confirm-does earlier call id want call.ask call.ask.what (outcome_at (bay_at script at earlier) row call).reply (outcome_at (bay_at script at earlier) row call).slot
          (slot-does (bay_at script at earlier) call.ask (slot_at script earlier at row) (is_fault call.answer.reply) call.ask.what row of) what reply
      by (Lost here lost was slot empty life) = absurd (let bad : Lose ≡ Confirm row id want = sym lost ∙ what in cc)
      by (Fitted here fitted was slot empty life) = absurd (let bad : Fit ≡ Confirm row id want = sym fitted ∙ what in cc)
