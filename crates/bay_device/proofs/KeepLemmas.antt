-- What the rule keeps of a bay.
use Rattle.std.proofs.Common.{◌≡◌, ◌+◌, ◌≤◌, Bool, true, false, refl, arith}
use Rattle.raid_base.specs.declared.messages.Ask.{Ask}
use Rattle.raid_base.specs.declared.messages.Request.{Request}
use Rattle.raid_base.specs.declared.messages.Request.TheVariants.{Share, Claim, Confirm, Put, Release, Lose, Fit}
use Rattle.raid_base.specs.declared.numbers.RowNo.{RowNo}
use Rattle.slot_rules.specs.Slots.{Bay, slot_of}
use Rattle.slot_rules.specs.Rules.{SlotOutcome, share_rule, claim_rule, confirm_rule, put_rule, release_rule, with_slot, lose_rule, fit_rule, rule_of, rule}

-- the mode and the patience stay, and the life rises by one at most
pub record Keeps (bay later : Bay) : Type 0 where
  pub mode : later.mode ≡ bay.mode
  pub patience : later.patience ≡ bay.patience
  pub life : later.life ≤ bay.life + 1

slot_keeps : (bay : Bay) (row : RowNo) (outcome : SlotOutcome) → Keeps bay (with_slot bay row (slot_of bay row) outcome).bay
slot_keeps bay row outcome = record { mode = refl; patience = refl; life = omega arith }

lose_keeps : (bay : Bay) (empty : Bool) → Keeps bay (lose_rule bay empty).bay
lose_keeps bay true = record { mode = refl; patience = refl; life = omega arith }
lose_keeps bay false = record { mode = refl; patience = refl; life = omega arith }

fit_keeps : (bay : Bay) (empty : Bool) → Keeps bay (fit_rule bay empty).bay
fit_keeps bay true = record { mode = refl; patience = refl; life = omega arith }
fit_keeps bay false = record { mode = refl; patience = refl; life = omega arith }

rule_of_keeps : (bay : Bay) (ask : Ask) (fails : Bool) (what : Request) → Keeps bay (rule_of bay ask fails what).bay
rule_of_keeps bay ask fails (Share row id want) = slot_keeps bay row (share_rule bay (slot_of bay row) ask id want fails)
rule_of_keeps bay ask fails (Claim row id how mask want) = slot_keeps bay row (claim_rule how bay (slot_of bay row) ask id mask want fails)
rule_of_keeps bay ask fails (Confirm row id want) = slot_keeps bay row (confirm_rule bay (slot_of bay row) id want fails)
rule_of_keeps bay ask fails (Put row id n cell) = slot_keeps bay row (put_rule bay (slot_of bay row) id n cell fails)
rule_of_keeps bay ask fails (Release row id n) = slot_keeps bay row (release_rule bay (slot_of bay row) id n)
rule_of_keeps bay ask fails Lose = lose_keeps bay bay.empty
rule_of_keeps bay ask fails Fit = fit_keeps bay bay.empty

pub rule_keeps : (bay : Bay) (ask : Ask) (fails : Bool) → Keeps bay (rule bay ask fails).bay
rule_keeps bay ask fails = rule_of_keeps bay ask fails ask.what
