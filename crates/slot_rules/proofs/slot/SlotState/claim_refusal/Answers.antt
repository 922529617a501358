use Rattle.slot_rules.proofs.SlotParts.{claim-missing, claim-there}
use Rattle.slot_rules.specs.Tables.{kept_slot}
use Rattle.slot_rules.proofs.slot.SlotState.claim_refusal.Goals as goal

pub returns-in-Some-clause-refused : goal.returns-in-Some-clause-refused
returns-in-Some-clause-refused c = claim-missing c.args.state.now (kept_slot c.args.self.now c.args.opened.now) c.args.ask.now c.args.id _ _ (c.missing_floor.ensures c.args.opened.now) c.in-Some.is

pub returns-in-None-clause-refused : goal.returns-in-None-clause-refused
returns-in-None-clause-refused c =
    claim-there c.args.state.now (kept_slot c.args.self.now c.args.opened.now) c.args.ask.now c.args.id _ c.claim_refusal_there.result (c.missing_floor.ensures c.args.opened.now) c.in-None.is c.claim_refusal_there.ensures.refused
