use Rattle.std.proofs.Common.{◌≡◌, ◌∙◌, ap, rules, slice_index_or, is_none}
use Rattle.raid_base.specs.Numbers.{number}
use Rattle.slot_rules.specs.declared.slot.SlotState.{SlotState}
use Rattle.slot_rules.specs.Tables.{Kept, bare_kept}
use Rattle.slot_rules.proofs.TableLists.{read-own}
use Rattle.slot_rules.proofs.TableParts.{missing-there}
use Rattle.slot_rules.proofs.slots.Slots.blank.Goals as goal

pub returns : goal.returns
returns c = λ blocks.
    let kept : Kept = slice_index_or c.args.self.now.slots c.args.row.0 (bare_kept (number 0)) in
    let none : c.is_none.result ≡ is_none c.slot.result.mark = search rules in
    none ∙ ap (λ (s : SlotState). is_none s.mark) c.slot.ensures
    ∙ missing-there c.args.self.now c.args.row kept c.requires (read-own c.args.self.now.slots c.args.row.0 (bare_kept (number 0)) kept c.requires) blocks
