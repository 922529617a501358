-- What a call of a history does to a slot: it touches it by the slot rule, or the device is lost or fitted, or the slot stays.
use Rattle.std.proofs.Common.{◌≡◌, refl, sym, ap, subst, ◌∙◌, ℕ, ◌+◌, ◌<◌, ◌==◌, ◌≢◌, zero, suc, Bool, true, false, ◌&&◌, map, slice_index_or, List, [], ◌∷◌, length, Option, Some, arith}
use Rattle.std.proofs.lemmas.List.{get_or-set_same, get_or-set_other}
use Rattle.std.proofs.lemmas.Bool.Decides.{nat_tests}
use Rattle.raid_base.specs.declared.numbers.BayNo.{BayNo}
use Rattle.raid_base.specs.declared.numbers.RowNo.{RowNo}
use Rattle.raid_base.specs.declared.numbers.Number.{Number}
use Rattle.raid_base.specs.declared.messages.Call.{Call}
use Rattle.raid_base.specs.declared.messages.Request.{Request}
use Rattle.raid_base.specs.declared.messages.Request.TheVariants.{Share, Claim, Confirm, Put, Release, Lose, Fit}
use Rattle.raid_base.specs.Numbers.{number}
use Rattle.raid_base.specs.Replies.{is_fault}
use Rattle.slot_rules.specs.Slots.{Slot, Bay, bare_slot, slot_of}
use Rattle.slot_rules.specs.Rules.{SlotOutcome, Outcome, lose_rule, fit_rule, rule_of, rule}
use Rattle.slot_rules.specs.Serving.{slot_rule}
use Rattle.slot_rules.proofs.TableParts.{rule_of-row}
use Rattle.script_text.specs.Script.{Script}
use Rattle.script_text.specs.Ranges.{IsScript}
use Rattle.histories.specs.Calls.{row_of, is_row, is_at}
use Rattle.histories.specs.History.{if_ruled, bay_at, IsNext}
use Rattle.histories.proofs.steps.SameNumbers.{same-bay}
use Rattle.histories.proofs.steps.BayRows.{bay-rows}

-- what the rule makes of the slot
abbrev pub outcome_at : Bay → RowNo → Call → SlotOutcome
outcome_at bay row call = slot_rule bay (slot_of bay row) call.ask (is_fault call.answer.reply) call.ask.what

bare-there : (n : Number) (slots : List Slot) (row : ℕ) (d : Slot) → row < length slots → slice_index_or (map (λ _. bare_slot n) slots) row d ≡ bare_slot n
bare-there n [] row d l = absurd (omega arith)
bare-there n (s ∷ slots) zero d l = refl
bare-there n (s ∷ slots) (suc row) d l = bare-there n slots row d (omega arith)

pub data SlotMove (old : Bay) (at : BayNo) (row : RowNo) (call : Call) (new : Bay) : Type 0 where
  Kept : (slot : slot_of new row ≡ slot_of old row) (empty : new.empty ≡ old.empty) (life : new.life ≡ old.life) (apart : is_at at row call ≡ false) → SlotMove old at row call new
  Touched : (place : call.bay ≡ at) (of_row : row_of call.ask.what ≡ Some row) (reply : call.answer.reply ≡ (outcome_at old row call).reply) (slot : slot_of new row ≡ (outcome_at old row call).slot)
      (empty : new.empty ≡ old.empty) (life : new.life ≡ old.life) → SlotMove old at row call new
  Lost : (place : call.bay ≡ at) (what : call.ask.what ≡ Lose) (was : old.empty ≡ false) (slot : slot_of new row ≡ bare_slot (number 0)) (empty : new.empty ≡ true) (life : new.life ≡ old.life + 1) →
      SlotMove old at row call new
  Fitted : (place : call.bay ≡ at) (what : call.ask.what ≡ Fit) (was : old.empty ≡ true) (slot : slot_of new row ≡ bare_slot old.high) (empty : new.empty ≡ false) (life : new.life ≡ old.life) →
      SlotMove old at row call new

module _ (script : Script) (is : IsScript script) where
  module _ (earlier : List Call) (call : Call) (next : IsNext script earlier call) (at : BayNo) (row : RowNo) (below : row.0 < script.rows) where
    abbrev old : Bay
    old = bay_at script at earlier

    within : row.0 < length old.slots
    within = let rows : length old.slots ≡ script.rows = bay-rows script at earlier in omega (arith, rows, below)

    abbrev ruled : Bay
    ruled = (rule old call.ask (is_fault call.answer.reply)).bay

    apart-bay : (call.bay.0 == at.0) ≡ false → is_at at row call ≡ false
    apart-bay e = rw e refl

    apart-row : is_row row (row_of call.ask.what) ≡ false → is_at at row call ≡ false
    apart-row e = rw e (both-false (call.bay.0 == at.0))
      where
        both-false : (b : Bool) → (b && false) ≡ false
        both-false true = refl
        both-false false = refl

    replied : (same : call.bay ≡ at) → call.answer.reply ≡ (rule old call.ask (is_fault call.answer.reply)).reply
    replied same =
        subst (λ (x : BayNo). call.answer.reply ≡ (rule (bay_at script x earlier) call.ask (is_fault call.answer.reply)).reply) same
        (ap (λ (c : Call). c.answer.reply) next.replied)

    of-row : (same : call.bay ≡ at) (what : Request) (r : RowNo) → call.ask.what ≡ what → row_of what ≡ Some r → (b : Bool) → (r.0 == row.0) ≡ b → SlotMove old at row call ruled
    of-row same what r e of true here =
        let one : r ≡ row = (let n : r.0 ≡ row.0 = grind (arith, nat_tests) in ap (λ (k : ℕ). let x : RowNo = record { 0 = k } in x) n) in
        let this : row_of call.ask.what ≡ Some row = ap (λ (w : Request). row_of w) e ∙ of ∙ ap (λ (x : RowNo). Some x) one in
        let there = rule_of-row old call.ask (is_fault call.answer.reply) call.ask.what row this in
        let o : SlotOutcome = outcome_at old row call in
        Touched same this (replied same ∙ ap (λ (x : Outcome). x.reply) there)
        (ap (λ (x : Outcome). slot_of x.bay row) there ∙ get_or-set_same old.slots row.0 o.slot (bare_slot (number 0)) within)
        (ap (λ (x : Outcome). x.bay.empty) there) (ap (λ (x : Outcome). x.bay.life) there)
    of-row same what r e of false other =
        let this : row_of call.ask.what ≡ Some r = ap (λ (w : Request). row_of w) e ∙ of in
        let there = rule_of-row old call.ask (is_fault call.answer.reply) call.ask.what r this in
        let o : SlotOutcome = outcome_at old r call in
        let apart : row.0 ≢ r.0 = (λ h. absurd (grind (arith, nat_tests))) in
        Kept (ap (λ (x : Outcome). slot_of x.bay row) there ∙ get_or-set_other old.slots r.0 row.0 o.slot (bare_slot (number 0)) apart)
        (ap (λ (x : Outcome). x.bay.empty) there) (ap (λ (x : Outcome). x.bay.life) there)
        (apart-row (ap (λ (x : Option RowNo). is_row row x) this ∙ other))

    loses : (same : call.bay ≡ at) → call.ask.what ≡ Lose → (b : Bool) → old.empty ≡ b → (lose_rule old b).bay ≡ ruled → SlotMove old at row call ruled
    loses same e true was there =
        Kept (ap (λ (x : Bay). slot_of x row) (sym there)) (ap (λ (x : Bay). x.empty) (sym there)) (ap (λ (x : Bay). x.life) (sym there)) (apart-row (ap (λ (w : Request). is_row row (row_of w)) e))
    loses same e false was there =
        Lost same e was (ap (λ (x : Bay). slot_of x row) (sym there) ∙ bare-there (number 0) old.slots row.0 (bare_slot (number 0)) within) (ap (λ (x : Bay). x.empty) (sym there))
        (ap (λ (x : Bay). x.life) (sym there))

    fits-new : (same : call.bay ≡ at) → call.ask.what ≡ Fit → (b : Bool) → old.empty ≡ b → (fit_rule old b).bay ≡ ruled → SlotMove old at row call ruled
    fits-new same e true was there =
        Fitted same e was (ap (λ (x : Bay). slot_of x row) (sym there) ∙ bare-there old.high old.slots row.0 (bare_slot (number 0)) within) (ap (λ (x : Bay). x.empty) (sym there))
        (ap (λ (x : Bay). x.life) (sym there))
    fits-new same e false was there =
        Kept (ap (λ (x : Bay). slot_of x row) (sym there)) (ap (λ (x : Bay). x.empty) (sym there)) (ap (λ (x : Bay). x.life) (sym there)) (apart-row (ap (λ (w : Request). is_row row (row_of w)) e))

    by-what : (same : call.bay ≡ at) → (what : Request) → call.ask.what ≡ what → SlotMove old at row call ruled
    by-what same (Share r id want) e = of-row same (Share r id want) r e refl (r.0 == row.0) refl
    by-what same (Claim r id how mask want) e = of-row same (Claim r id how mask want) r e refl (r.0 == row.0) refl
    by-what same (Confirm r id want) e = of-row same (Confirm r id want) r e refl (r.0 == row.0) refl
    by-what same (Put r id n cell) e = of-row same (Put r id n cell) r e refl (r.0 == row.0) refl
    by-what same (Release r id n) e = of-row same (Release r id n) r e refl (r.0 == row.0) refl
    by-what same Lose e = loses same e old.empty refl (sym (ap (λ (w : Request). (rule_of old call.ask (is_fault call.answer.reply) w).bay) e))
    by-what same Fit e = fits-new same e old.empty refl (sym (ap (λ (w : Request). (rule_of old call.ask (is_fault call.answer.reply) w).bay) e))

    -- the slot after the call
    pub moved : SlotMove (bay_at script at earlier) at row call (bay_at script at (call ∷ earlier))
    moved = by (call.bay.0 == at.0) refl
      where
        by : (b : Bool) → (call.bay.0 == at.0) ≡ b → SlotMove old at row call (if_ruled old call b)
        by true e = by-what (same-bay call.bay at e) call.ask.what refl
        by false e = Kept refl refl refl (apart-bay e)
