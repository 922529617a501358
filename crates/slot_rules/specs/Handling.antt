-- A bay answers an ask, with its blocks in a store.
use Rattle.std.specs.Prelude.{◌≡◌, ℕ, List}
use Rattle.raid_base.specs.declared.messages.Ask.{Ask}
use Rattle.raid_base.specs.declared.messages.Reply.{Reply}
use Rattle.raid_base.specs.Replies.{is_fault}
use Rattle.slot_rules.specs.Rules.{rule}
use Rattle.slot_rules.specs.Tables.{Table, with_blocks}

-- the reply is the rule's, and so are the slots and the blocks after it; the store failed where the reply is Fault
pub record Handled (slots : Table) (blocks : List (List ℕ)) (ask : Ask) (reply : Reply) (slots' : Table) (blocks' : List (List ℕ)) : Type 0 where
  pub reply_is : reply ≡ (rule (with_blocks slots blocks) ask (is_fault reply)).reply
  pub bay_is : with_blocks slots' blocks' ≡ (rule (with_blocks slots blocks) ask (is_fault reply)).bay
