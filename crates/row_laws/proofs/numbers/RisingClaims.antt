-- What a claim that was granted, or answered that its slot is missing, shows of the slot's writes: a number that is none below
-- theirs, and under stamps a plain claim that was granted has an id above it.
use Rattle.std.proofs.Common.{◌≡◌, ◌⊎◌, inl, inr, refl, sym, ap, subst, ◌∙◌, ℕ, ◌<◌, ◌==◌, ◌&&◌, Bool, true, false, if◌then◌else◌, List, ◌∷◌, find, not, Option, Some, None, IsSome, is_some, arith}
use Rattle.std.proofs.lemmas.Bool.{eq-eqb}
use Rattle.std.proofs.lemmas.Bool.Decides.{nat_tests}
use Rattle.raid_base.specs.declared.numbers.BayNo.{BayNo}
use Rattle.raid_base.specs.declared.numbers.RowNo.{RowNo}
use Rattle.raid_base.specs.declared.numbers.Number.{Number}
use Rattle.raid_base.specs.declared.cells.Cell.{Cell}
use Rattle.raid_base.specs.declared.messages.Ask.{Ask}
use Rattle.raid_base.specs.declared.messages.Call.{Call}
use Rattle.raid_base.specs.declared.messages.How.{How}
use Rattle.raid_base.specs.declared.messages.How.TheVariants.{Plain, Seize, Mend}
use Rattle.raid_base.specs.declared.messages.Mode.{Mode}
use Rattle.raid_base.specs.declared.messages.Mode.TheVariants.{Order}
use Rattle.raid_base.specs.declared.messages.Note.{Note}
use Rattle.raid_base.specs.declared.messages.Reply.{Reply}
use Rattle.raid_base.specs.declared.messages.Reply.TheVariants.{Missing, Late, Fault}
use Rattle.raid_base.specs.Numbers.{greater}
use Rattle.raid_base.specs.declared.messages.Request.{Request}
use Rattle.raid_base.specs.declared.messages.Request.TheVariants.{Claim, Put, Lose, Fit}
use Rattle.raid_base.specs.Replies.{is_fault, grant_of}
use Rattle.slot_rules.specs.declared.Reader.{Reader}
use Rattle.slot_rules.specs.Slots.{Slot, Bay}
use Rattle.slot_rules.specs.Rules.{SlotOutcome, reads, wanted_cell, slot_floor, missing_floor, is_reader, may_seize, young_note, claim_granted, is_late, claim_free, claim_noted, claim_at, seize_granted, seize_unread, seize_blank, seize_noted, claim_rule}
use Rattle.slot_rules.specs.Serving.{slot_rule}
use Rattle.attempts.specs.Numbering.{ShowsNumber}
use Rattle.script_text.specs.Script.{Script}
use Rattle.script_text.specs.Ranges.{IsScript}
use Rattle.histories.specs.Calls.{row_of, write_of, is_row, is_at, IsClaim, IsDone}
use Rattle.histories.specs.Torn.{IsMissing}
use Rattle.histories.specs.History.{IsHistory, bay_at}
use Rattle.histories.specs.RowStates.{slot_at}
use Rattle.histories.specs.Accesses.{with_some, writes, AtMost, IsCovered}
use Rattle.histories.proofs.accesses.AccessCovers.{accesses_are_covered, done-put}
use Rattle.row_laws.proofs.hands.SlotMoves.{SlotMove, Kept, Touched, Lost, outcome_at, moved}
use Rattle.row_laws.proofs.hands.SlotMoves as moves
use Rattle.row_laws.proofs.hands.SlotDoes.{Does, slot-does, claim-does, Claims}
use Rattle.histories.proofs.steps.SameNumbers.{same-bay}
use Rattle.histories.proofs.steps.BayRows.{bay-mode}

-- Writes of a slot after a call: those before it, and that of a put that was done
pub data WriteMove (at : BayNo) (row : RowNo) (call : Call) (earlier : List Call) : Type 0 where
  Quiet : (same : writes at row (call ∷ earlier) ≡ writes at row earlier) → WriteMove at row call earlier
  Wrote : (place : call.bay ≡ at) (id n : Number) (cell : Cell) (what : call.ask.what ≡ Put row id n cell) (done : IsDone call) (now : writes at row (call ∷ earlier) ≡ n ∷ writes at row earlier) → WriteMove at row call earlier

pub both-true : (x y : Bool) → (x && y) ≡ true → (x ≡ true) × (y ≡ true)
both-true true y e = (refl, e)
both-true false y e = absurd (cc)

pub write-moved : (at : BayNo) (row : RowNo) (call : Call) (earlier : List Call) → WriteMove at row call earlier
write-moved at row call earlier = by (is_at at row call) refl (write_of call.ask.what call.answer.reply) refl
  where
    wrote : (n : Number) → is_at at row call ≡ true → write_of call.ask.what call.answer.reply ≡ Some n → WriteMove at row call earlier
    wrote n here e =
        let there = both-true (call.bay.0 == at.0) (is_row row (row_of call.ask.what)) here in
        let put = done-put call.ask.what call.answer.reply (ap (λ (o : Option Number). is_some o) e) in
        let said : (put.0.0 == row.0) ≡ true = ap (λ (w : Request). is_row row (row_of w)) (sym put.4) ∙ there.1 in
        let same : put.0 ≡ row = (let k : put.0.0 ≡ row.0 = grind (arith, nat_tests) in ap (λ (k : ℕ). let x : RowNo = record { 0 = k } in x) k) in
        let both : Some put.2 ≡ Some n = sym (ap (λ (w : Request). write_of w call.answer.reply) put.4 ∙ ap (λ (r : Reply). write_of (Put put.0 put.1 put.2 put.3) r) put.5) ∙ e in
        let one : put.2 ≡ n = cc in
        Wrote (same-bay call.bay at there.0) put.1 n put.3 (put.4 ∙ ap (λ (r : RowNo). Put r put.1 put.2 put.3) same ∙ ap (λ (k : Number). Put row put.1 k put.3) one) put.5
        (ap (λ (b : Bool). if b then with_some (write_of call.ask.what call.answer.reply) (writes at row earlier) else writes at row earlier) here
        ∙ ap (λ (o : Option Number). with_some o (writes at row earlier)) e)

    by : (b : Bool) → is_at at row call ≡ b → (o : Option Number) → write_of call.ask.what call.answer.reply ≡ o → WriteMove at row call earlier
    by false here o e = Quiet (ap (λ (b : Bool). if b then with_some (write_of call.ask.what call.answer.reply) (writes at row earlier) else writes at row earlier) here)
    by true here None e =
        Quiet (ap (λ (b : Bool). if b then with_some (write_of call.ask.what call.answer.reply) (writes at row earlier) else writes at row earlier) here
        ∙ ap (λ (o : Option Number). with_some o (writes at row earlier)) e)
    by true here (Some n) e = wrote n here e

-- What the slot rule says to a claim
module _ (bay : Bay) (ask : Ask) (slot : Slot) where
  abbrev pub IsFloor : Reply → Type 0
  IsFloor r = (floor : Number) → r ≡ Missing floor → ((bay.empty ≡ true) × (floor ≡ bay.high)) ⊎ ((bay.empty ≡ false) × (floor ≡ slot.write_no))

  abbrev pub NoFloor : Reply → Type 0
  NoFloor r = (floor : Number) → r ≡ Missing floor → ⊥

  pub none-floor : (r : Reply) → NoFloor r → IsFloor r
  none-floor r never floor e = absurd (never floor e)

  pub reads-none : (want fails : Bool) (o : SlotOutcome) → NoFloor o.reply → NoFloor (reads want fails slot o).reply
  reads-none want fails o never = by (is_some (wanted_cell want slot) && fails)
    where
      by : (b : Bool) → NoFloor (if b then record { reply = Fault; slot = slot } else o).reply
      by true floor e = absurd (cc)
      by false floor e = never floor e

  pub floor-is : (b : Bool) → bay.empty ≡ b → (c : Option Cell) → (floor : Number) → (if b then Some bay.high else slot_floor slot c) ≡ Some floor →
      ((bay.empty ≡ true) × (floor ≡ bay.high)) ⊎ ((bay.empty ≡ false) × (floor ≡ slot.write_no))
  floor-is true was c floor e = inl (was, (let same : bay.high ≡ floor = cc in sym same))
  floor-is false was None floor e = inr (was, (let same : slot.write_no ≡ floor = cc in sym same))
  floor-is false was (Some cell) floor e = absurd (cc)

  module _ (id : Number) (mask : ℕ) (want fails : Bool) where
    free-none : (how : How) → NoFloor (claim_free bay slot ask id how mask want fails).reply
    free-none how = by (is_late how bay.mode id slot)
      where
        by : (b : Bool) → NoFloor (if b then record { reply = Late (greater slot.read_no slot.write_no); slot = slot } else reads want fails slot (claim_granted bay slot ask id mask want)).reply
        by true floor e = absurd (cc)
        by false floor e = reads-none want fails (claim_granted bay slot ask id mask want) (λ k bad. absurd (cc)) floor e

    noted-none : (how : How) (note : Option Note) (other : Option Reader) → NoFloor (claim_noted bay slot ask id how mask want fails note other).reply
    noted-none how (Some note) other floor e = absurd (cc)
    noted-none how None (Some reader) floor e = absurd (cc)
    noted-none how None None floor e = free-none how floor e

    plain-floor : (o : Option Number) → missing_floor bay slot ≡ o → IsFloor (claim_at bay slot ask id Plain mask want fails o).reply
    plain-floor (Some k) is floor e = let same : k ≡ floor = cc in floor-is bay.empty refl slot.cell floor (is ∙ ap (λ (x : Number). Some x) same)
    plain-floor None is floor e = absurd (noted-none Plain slot.note (find (λ reader. not (is_reader id reader)) slot.readers) floor e)

    mend-floor : (b : Bool) → bay.empty ≡ b → IsFloor (claim_at bay slot ask id Mend mask want fails (if b then Some bay.high else None)).reply
    mend-floor true was floor e = inl (was, (let same : bay.high ≡ floor = cc in sym same))
    mend-floor false was floor e = absurd (noted-none Mend slot.note (find (λ reader. not (is_reader id reader)) slot.readers) floor e)

    granted-none : (note : Option Note) → NoFloor (seize_granted bay slot ask id mask want note).reply
    granted-none None floor e = absurd (cc)
    granted-none (Some note) floor e = absurd (cc)

    unread-none : (reader : Option Reader) → NoFloor (seize_unread bay slot ask id mask want fails reader).reply
    unread-none (Some reader) floor e = absurd (cc)
    unread-none None floor e = reads-none want fails (seize_granted bay slot ask id mask want slot.note) (granted-none slot.note) floor e

    blank-floor : bay.empty ≡ false → (c : Option Cell) (reader : Option Reader) → IsFloor (seize_blank slot (slot_floor slot c) (seize_unread bay slot ask id mask want fails reader)).reply
    blank-floor was None reader floor e = inr (was, (let same : slot.write_no ≡ floor = cc in sym same))
    blank-floor was (Some cell) reader floor e = absurd (unread-none reader floor e)

    seizes-floor : bay.empty ≡ false → (young : Option Note) → IsFloor (seize_noted bay slot ask id mask want fails young).reply
    seizes-floor was (Some note) floor e = absurd (cc)
    seizes-floor was None floor e = blank-floor was slot.cell (find (λ reader. not (may_seize bay ask reader.host reader.moment)) slot.readers) floor e

    seize-floor : (b : Bool) → bay.empty ≡ b →
        IsFloor (if b then record { reply = Missing bay.high; slot = slot } else seize_noted bay slot ask id mask want fails (young_note bay ask slot.note)).reply
    seize-floor true was floor e = inl (was, (let same : bay.high ≡ floor = cc in sym same))
    seize-floor false was floor e = seizes-floor was (young_note bay ask slot.note) floor e

    pub claim-floor : (how : How) → IsFloor (claim_rule how bay slot ask id mask want fails).reply
    claim-floor Plain = plain-floor (missing_floor bay slot) refl
    claim-floor Mend = mend-floor bay.empty refl
    claim-floor Seize = seize-floor bay.empty refl

  -- one that was granted
  record Granting (id : Number) (how : How) (reply : Reply) : Type 0 where
    there : bay.empty ≡ false
    shown : ShowsNumber reply slot.write_no
    late : how ≡ Plain → bay.mode ≡ Order → slot.write_no.0 < id.0

  claim-tells : (row : RowNo) (id : Number) (how : How) (mask : ℕ) (want : Bool) (what : Request) (reply : Reply) (left : Slot) → Does bay ask slot what reply left → what ≡ Claim row id how mask want →
      IsSome (grant_of reply) → Granting id how reply
  claim-tells row id how mask want what reply left step is some =
      let claims : Claims bay ask slot id how mask want reply left = claim-does bay ask slot row id how mask want what reply left step is some in
      record {
        there = claims.there;
        shown = subst (λ (x : Reply). ShowsNumber x slot.write_no) (sym claims.reply) (inr (inl refl));
        late = λ plain order. (let above = claims.late plain order in omega (arith, above));
      }

-- a call has shown a number that these are at most
pub record Covering (mode : Mode) (call : Call) (ns : List Number) : Type 0 where
  pub number : Number
  pub shown : ShowsNumber call.answer.reply number
  pub covers : AtMost number.0 ns
  pub late : mode ≡ Order → (row : RowNo) (id : Number) (mask : ℕ) (want : Bool) → call.ask.what ≡ Claim row id Plain mask want → IsSome (grant_of call.answer.reply) → number.0 < id.0

-- A claim that was granted, or whose slot is missing, covers the writes of its slot
module _ (script : Script) (is : IsScript script) (earlier : List Call) (call : Call) (along : IsHistory script (call ∷ earlier)) (at : BayNo) (row : RowNo) (within : at.0 < script.n) (below : row.0 < script.rows) where
  abbrev bay : Bay
  bay = bay_at script at earlier

  abbrev slot : Slot
  slot = slot_at script earlier at row

  covered : IsCovered script earlier at row
  covered = accesses_are_covered script earlier is along.0 at row within below

  itself : call.bay ≡ at → row_of call.ask.what ≡ Some row → is_at at row call ≡ true
  itself place of =
      subst (λ (b : Bool). (b && is_row row (row_of call.ask.what)) ≡ true) (sym (eq-eqb call.bay.0 at.0 (ap (λ (x : BayNo). x.0) place)))
      (ap (λ (o : Option RowNo). is_row row o) of ∙ eq-eqb row.0 row.0 refl)

  covers-now : IsClaim at row call → IsSome (grant_of call.answer.reply) ⊎ IsMissing call → Covering script.mode call (writes at row earlier)
  covers-now (place, id, how, mask, want, what) answered = by (moved script is earlier call along.1 at row below)
    where
      o : SlotOutcome
      o = outcome_at bay row call

      grants : call.answer.reply ≡ (o).reply → row_of call.ask.what ≡ Some row → IsSome (grant_of call.answer.reply) → Covering script.mode call (writes at row earlier)
      grants reply of some =
          let g : Granting bay call.ask slot id how call.answer.reply =
          subst (λ (r : Reply). Granting bay call.ask slot id how r) (sym reply)
          (claim-tells bay call.ask slot row id how mask want call.ask.what (o).reply (o).slot (slot-does bay call.ask slot (is_fault call.answer.reply) call.ask.what row of) what
          (subst (λ (r : Reply). IsSome (grant_of r)) reply some)) in
          record {
            number = slot.write_no;
            shown = g.shown;
            covers = covered.slot_writes g.there;
            late = λ order r by m w asks some.
                (let both : Claim row id how mask want ≡ Claim r by Plain m w = sym what ∙ asks in
                let kind : how ≡ Plain = cc in
                let one : id ≡ by = cc in
                let same : id.0 ≡ by.0 = ap (λ (x : Number). x.0) one in
                let above = g.late kind (bay-mode script at earlier ∙ order) in
                omega (arith, above, same));
          }

      misses : call.answer.reply ≡ (o).reply → (floor : Number) → call.answer.reply ≡ Missing floor → Covering script.mode call (writes at row earlier)
      misses reply floor said = record {
        number = floor;
        shown = subst (λ (r : Reply). ShowsNumber r floor) (sym said) refl;
        covers = covers
            (claim-floor bay call.ask slot id mask want (is_fault call.answer.reply) how floor
            (sym (ap (λ (w : Request). (slot_rule bay slot call.ask (is_fault call.answer.reply) w).reply) what) ∙ sym reply ∙ said));
        late = λ order r by m w asks some. absurd (let none : grant_of call.answer.reply ≡ None = ap grant_of said in let bad : false ≡ true = sym (ap is_some none) ∙ some in cc);
      }
        where
          covers : ((bay.empty ≡ true) × (floor ≡ bay.high)) ⊎ ((bay.empty ≡ false) × (floor ≡ slot.write_no)) → AtMost floor.0 (writes at row earlier)
          covers (inl (empty, high)) = subst (λ (k : Number). AtMost k.0 (writes at row earlier)) (sym high) covered.high_writes
          covers (inr (there, same)) = subst (λ (k : Number). AtMost k.0 (writes at row earlier)) (sym same) (covered.slot_writes there)

      so : call.answer.reply ≡ (o).reply → row_of call.ask.what ≡ Some row → IsSome (grant_of call.answer.reply) ⊎ IsMissing call → Covering script.mode call (writes at row earlier)
      so reply of (inl some) = grants reply of some
      so reply of (inr (floor, said)) = misses reply floor said

      by : SlotMove bay at row call (bay_at script at (call ∷ earlier)) → Covering script.mode call (writes at row earlier)
      by (Kept kept empty life apart) = absurd (let bad : true ≡ false = sym (itself place (ap (λ (w : Request). row_of w) what)) ∙ apart in cc)
      by (Touched at_bay of reply left empty life) = so reply of answered
      by (Lost at_bay lost was left empty life) = absurd (let bad : Lose ≡ Claim row id how mask want = sym lost ∙ what in cc)
      by (moves.Fitted at_bay fitted was left empty life) = absurd (let bad : Fit ≡ Claim row id how mask want = sym fitted ∙ what in cc)

  pub claim-covers : IsClaim at row call → IsSome (grant_of call.answer.reply) ⊎ IsMissing call → Covering script.mode call (writes at row (call ∷ earlier))
  claim-covers claim answered = by (write-moved at row call earlier)
    where
      apart : (id n : Number) (cell : Cell) → call.ask.what ≡ Put row id n cell → IsClaim at row call → ⊥
      apart id n cell puts (place, by, how, mask, want, what) = let bad : Put row id n cell ≡ Claim row by how mask want = sym puts ∙ what in absurd (cc)

      by : WriteMove at row call earlier → Covering script.mode call (writes at row (call ∷ earlier))
      by (Quiet same) = subst (λ (ns : List Number). Covering script.mode call ns) (sym same) (covers-now claim answered)
      by (Wrote place id n cell what done now) = absurd (apart id n cell what claim)
