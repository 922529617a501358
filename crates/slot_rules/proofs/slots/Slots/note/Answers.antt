use Rattle.std.proofs.Common.{◌∙◌, ap, slice_index_or}
use Rattle.raid_base.specs.Numbers.{number}
use Rattle.slot_rules.specs.declared.opened.Open.{Open}
use Rattle.slot_rules.specs.Tables.{Kept, bare_kept}
use Rattle.slot_rules.proofs.TableLists.{read-own}
use Rattle.slot_rules.proofs.TableParts.{note-there}
use Rattle.slot_rules.proofs.slots.Slots.note.Goals as goal

pub returns : goal.returns
returns c = λ blocks.
    let kept : Kept = slice_index_or c.args.self.now.slots c.args.row.0 (bare_kept (number 0)) in
    ap (λ (o : Open). o.note) c.opened.ensures ∙ note-there c.args.self.now c.args.row kept c.requires (read-own c.args.self.now.slots c.args.row.0 (bare_kept (number 0)) kept c.requires) blocks
