-- What stays of a bay along a history: how many slots it has, and its mode; and how its slots start.
use Rattle.std.proofs.Common.{◌≡◌, ◌<◌, ◌==◌, ◌∙◌, Bool, true, false, List, [], ◌∷◌, length, refl}
use Rattle.std.proofs.lemmas.List.{length-replicate, get_or-replicate}
use Rattle.raid_base.specs.declared.numbers.BayNo.{BayNo}
use Rattle.raid_base.specs.declared.numbers.RowNo.{RowNo}
use Rattle.raid_base.specs.declared.messages.Call.{Call}
use Rattle.raid_base.specs.Numbers.{number}
use Rattle.raid_base.specs.Replies.{is_fault}
use Rattle.slot_rules.specs.Slots.{first_slot, bare_slot, Bay}
use Rattle.slot_rules.proofs.RowSteps.{goes}
use Rattle.script_text.specs.Script.{Script}
use Rattle.histories.specs.History.{bay_at, if_ruled}
use Rattle.histories.specs.RowStates.{slot_at}

module _ (script : Script) where
  ruled-rows : (bay : Bay) (call : Call) (own : Bool) → length bay.slots ≡ script.rows → length (if_ruled bay call own).slots ≡ script.rows
  ruled-rows bay call true e = (goes bay call.ask (is_fault call.answer.reply)).rows ∙ e
  ruled-rows bay call false e = e

  pub bay-rows : (at : BayNo) (history : List Call) → length (bay_at script at history).slots ≡ script.rows
  bay-rows at [] = length-replicate script.rows first_slot
  bay-rows at (call ∷ earlier) = ruled-rows (bay_at script at earlier) call (call.bay.0 == at.0) (bay-rows at earlier)

  ruled-mode : (bay : Bay) (call : Call) (own : Bool) → bay.mode ≡ script.mode → (if_ruled bay call own).mode ≡ script.mode
  ruled-mode bay call true e = (goes bay call.ask (is_fault call.answer.reply)).mode ∙ e
  ruled-mode bay call false e = e

  pub bay-mode : (at : BayNo) (history : List Call) → (bay_at script at history).mode ≡ script.mode
  bay-mode at [] = refl
  bay-mode at (call ∷ earlier) = ruled-mode (bay_at script at earlier) call (call.bay.0 == at.0) (bay-mode at earlier)

  pub starts-first : (at : BayNo) (row : RowNo) → row.0 < script.rows → slot_at script [] at row ≡ first_slot
  starts-first at row below = get_or-replicate script.rows row.0 first_slot (bare_slot (number 0)) below
