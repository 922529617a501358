use Rattle.std.proofs.Common.{◌∙◌, ap, slice_index_or, unwrap_or}
use Rattle.raid_base.specs.Numbers.{number}
use Rattle.slot_rules.specs.declared.slot.SlotState.{SlotState}
use Rattle.slot_rules.specs.Tables.{Kept, bare_kept}
use Rattle.slot_rules.proofs.TableLists.{read-own}
use Rattle.slot_rules.proofs.TableParts.{mark-there}
use Rattle.slot_rules.proofs.slots.Slots.mark.Goals as goal

pub returns : goal.returns
returns c = λ blocks.
    let kept : Kept = slice_index_or c.args.self.now.slots c.args.row.0 (bare_kept (number 0)) in
    c.unwrap_or.ensures ∙ ap (λ (s : SlotState). unwrap_or s.mark 0) c.slot.ensures
    ∙ mark-there c.args.self.now c.args.row kept c.requires (read-own c.args.self.now.slots c.args.row.0 (bare_kept (number 0)) kept c.requires) blocks
