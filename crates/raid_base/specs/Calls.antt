-- What a line of a journal and one of a transcript say.
use Rattle.std.specs.Prelude.{ℕ}
use Rattle.raid_base.specs.declared.numbers.BayNo.{BayNo}
use Rattle.raid_base.specs.declared.messages.Ask.{Ask}
use Rattle.raid_base.specs.declared.messages.Answer.{Answer}
use Rattle.raid_base.specs.declared.messages.Reply.{Reply}

-- a line of a bay's journal: what was asked, the bay's clock after it, and what was answered
pub record Entry : Type 0 where
  pub ask : Ask
  pub clock : ℕ
  pub reply : Reply

-- a line of a host's transcript
pub record Call : Type 0 where
  pub bay : BayNo
  pub ask : Ask
  pub answer : Answer
