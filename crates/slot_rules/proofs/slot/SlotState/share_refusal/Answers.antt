use Rattle.slot_rules.proofs.SlotParts.{share-missing, share-there}
use Rattle.slot_rules.specs.Tables.{kept_slot}
use Rattle.slot_rules.proofs.slot.SlotState.share_refusal.Goals as goal

pub returns-in-Some-clause-refused : goal.returns-in-Some-clause-refused
returns-in-Some-clause-refused c = share-missing c.args.state.now (kept_slot c.args.self.now c.args.opened.now) c.args.ask.now c.args.id _ _ (c.missing_floor.ensures c.args.opened.now) c.in-Some.is

pub returns-in-Lock-clause-refused : goal.returns-in-Lock-clause-refused
returns-in-Lock-clause-refused c =
    share-there c.args.state.now (kept_slot c.args.self.now c.args.opened.now) c.args.ask.now c.args.id _ _ c.share_refusal.result (c.missing_floor.ensures c.args.opened.now) c.in_default.is c.in-Lock.is (c.share_refusal.ensures.refused c.args.state.now c.args.self.now)

pub returns-in-Order-clause-refused : goal.returns-in-Order-clause-refused
returns-in-Order-clause-refused c =
    share-there c.args.state.now (kept_slot c.args.self.now c.args.opened.now) c.args.ask.now c.args.id _ _ c.share_refusal_order.result (c.missing_floor.ensures c.args.opened.now) c.in_default.is c.in-Order.is (c.share_refusal_order.ensures.refused c.args.state.now c.args.ask.now)
