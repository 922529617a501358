-- What is left of the write that the code holds.
use Rattle.std.specs.Prelude.{◌≡◌, ℕ, List}
use Rattle.raid_base.specs.declared.numbers.Number.{Number}
use Rattle.raid_base.specs.declared.jobs.Cause.{Cause}
use Rattle.raid_base.specs.declared.jobs.RowPart.{RowPart}
use Rattle.raid_base.specs.declared.messages.Mode.{Mode}
use Rattle.raid_base.specs.declared.messages.Reply.{Reply}
use Rattle.raid_base.specs.Steps.{Steps, behind, told}
use Rattle.place_numbers.specs.declared.Numbers.{Numbers}
use Rattle.attempts.specs.Taking.{Finish}
use Rattle.attempts.specs.Accesses.{access_of}
use Rattle.attempts.specs.Parts.{blocks_in}
use Rattle.attempts.specs.Writing.{write_refused, write_steps}
use Rattle.host_write.specs.Left.{left_of}
use Rattle.host_write.specs.Aheads.{Settles}
use Rattle.host_write.specs.declared.write_try.WriteTry.{WriteTry}

-- of these blocks
abbrev pub left : WriteTry → List (List ℕ) → Steps Finish
left w blocks = left_of w.stage (access_of w.job blocks) w.taken w.confirmed w.puts w.queue

-- how many blocks it writes
abbrev pub block_count : WriteTry → ℕ
block_count w = blocks_in w.job.parts.items

-- all steps of a write of these parts are left
abbrev pub IsBegun : Mode → ℕ → Number → List RowPart → WriteTry → Type 0
IsBegun mode n id parts w = (blocks : List (List ℕ)) → left w blocks ≡ write_steps (record { mode = mode; n = n; id = id; parts = parts; blocks = blocks })

-- the steps behind a reply are left
abbrev pub GoesBehind : WriteTry → Reply → WriteTry → Type 0
GoesBehind w reply next = (blocks : List (List ℕ)) → left next blocks ≡ behind (left w blocks) reply

-- the claims are refused
abbrev pub IsRefused : WriteTry → Cause → WriteTry → Type 0
IsRefused w cause next = (blocks : List (List ℕ)) → left next blocks ≡ write_refused (access_of w.job blocks) w.taken cause

-- A reply to a write of these blocks, with the numbers of its host before and after
module _ (blocks : List (List ℕ)) (reply : Reply) (before after : Numbers) where
  -- it is heard and taken, and what is then to be drawn is drawn
  abbrev pub IsTold : WriteTry → WriteTry → Type 0
  IsTold w next = record { seen = after.seen; steps = left next blocks } ≡ told before.host (record { seen = before.seen; steps = left w blocks }) reply

  -- it is taken, once it was heard, and what is then to be drawn is drawn
  abbrev pub IsTaken : WriteTry → WriteTry → Type 0
  IsTaken w next = Settles before after (behind (left w blocks) reply) (left next blocks)
