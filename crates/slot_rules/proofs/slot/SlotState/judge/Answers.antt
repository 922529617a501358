use Rattle.slot_rules.proofs.slot.SlotState.judge.Goals as goal

pub returns-in-Claim : goal.returns-in-Claim
returns-in-Claim c = λ others block. rw c.in-Claim.is (c.judge_claim.ensures c.in-Claim.row c.in-Claim.mask others block)
