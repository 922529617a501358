-- A trouble as the code holds it.
use Rattle.std.specs.Prelude.{Option, Some, None, if◌then◌else◌}
use Rattle.raid_base.specs.declared.numbers.BayNo.{BayNo}
use Rattle.raid_base.specs.declared.jobs.RowPart.{RowPart}
use Rattle.raid_base.specs.declared.messages.Reply.{Reply}
use Rattle.raid_base.specs.Replies.{is_fault}
use Rattle.attempts.specs.Puts.{Trouble, Faulted, Robbed}

-- a store that failed, or a note of the part that was gone
abbrev pub trouble_in : Option BayNo → RowPart → Trouble
trouble_in (Some bay) part = Faulted bay
trouble_in None part = Robbed part

-- the same of the reply to a put at a bay
abbrev pub trouble_by : Reply → BayNo → RowPart → Trouble
trouble_by reply bay part = if is_fault reply then Faulted bay else Robbed part
