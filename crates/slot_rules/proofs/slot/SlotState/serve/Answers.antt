use Rattle.slot_rules.proofs.slot.SlotState.serve.Goals as goal

pub returns-in-Put : goal.returns-in-Put
returns-in-Put c = λ others block. rw c.in-Put.is ((λ h. (c.put.ensures others block).0), (c.put.ensures others block).1)
