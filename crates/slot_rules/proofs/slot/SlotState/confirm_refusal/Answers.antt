use Rattle.std.proofs.Common.{◌∙◌, sym, ap, Some, None, refl}
use Rattle.raid_base.specs.declared.messages.Reply.TheVariants.{Missing, NoNote}
use Rattle.slot_rules.specs.Rules.{keeps}
use Rattle.slot_rules.proofs.SlotParts.{confirm-refused}
use Rattle.slot_rules.specs.Tables.{kept_slot}
use Rattle.slot_rules.proofs.slot.SlotState.confirm_refusal.Goals as goal

pub returns-in-Some-clause-refused : goal.returns-in-Some-clause-refused
returns-in-Some-clause-refused c =
    confirm-refused c.args.state.now (kept_slot c.args.self.now c.args.opened.now) c.args.id _ (Some c.in-Some.floor) (Missing c.in-Some.floor) (c.missing_floor.ensures c.args.opened.now) (sym c.has_note.ensures ∙ c.if-has_note.false) c.in-Some.is (λ bay slot e. refl)

pub returns-in-None-clause-refused : goal.returns-in-None-clause-refused
returns-in-None-clause-refused c =
    confirm-refused c.args.state.now (kept_slot c.args.self.now c.args.opened.now) c.args.id _ None (NoNote c.args.state.now.life) (c.missing_floor.ensures c.args.opened.now) (sym c.has_note.ensures ∙ c.if-has_note.false) c.in-None.is (λ bay slot e. ap (λ n. keeps slot (NoNote n)) e)
