-- Numbers stay far below their end.
use Rattle.std.specs.Prelude.{◌≡◌, ◌^◌, ◌<◌, ◌≤◌, Bool, false, List, Option, Some, None}
use Rattle.std.specs.List.{AllByRecursion}
use Rattle.raid_base.specs.declared.numbers.HostNo.{HostNo}
use Rattle.raid_base.specs.declared.numbers.Number.{Number}
use Rattle.raid_base.specs.declared.messages.Request.{Request}
use Rattle.raid_base.specs.declared.messages.Request.TheVariants.{Share, Claim, Confirm, Put, Release, Lose, Fit}
use Rattle.raid_base.specs.declared.messages.Call.{Call}
use Rattle.raid_base.specs.declared.jobs.JobEnd.{JobEnd}
use Rattle.raid_base.specs.declared.jobs.JobEnd.TheVariants.{Part, Gave}
use Rattle.attempts.specs.Numbering.{ShowsNumber}
use Rattle.script_text.specs.Script.{Script}
use Rattle.script_text.specs.Ranges.{IsScript}
use Rattle.script_text.specs.Weights.{total}
use Rattle.histories.specs.Calls.{id_of}
use Rattle.histories.specs.Progress.{Ending, is_spent}
use Rattle.histories.specs.History.{IsHistory, progress_at, endings_at}

-- the number of a put, and of a release that has one
abbrev pub number_in : Request → Option Number
number_in (Share row id want) = None
number_in (Claim row id how mask want) = None
number_in (Confirm row id want) = None
number_in (Put row id n cell) = Some n
number_in (Release row id n) = n
number_in Lose = None
number_in Fit = None

-- the numbers that a request and its reply carry are below 2^26: the id, the number, and what a grant, Late and Missing show
pub record IsSmall (call : Call) : Type 0 where
  pub id : (id : Number) → id_of call.ask.what ≡ Some id → id.0 < 2 ^ 26
  pub number : (n : Number) → number_in call.ask.what ≡ Some n → n.0 < 2 ^ 26
  pub shown : (n : Number) → ShowsNumber call.answer.reply n → n.0 < 2 ^ 26

-- a job was given up, or done in part, for want of numbers
abbrev pub wants_numbers : JobEnd → Bool
wants_numbers (Part n made cause) = is_spent cause
wants_numbers (Gave tries cause) = is_spent cause
wants_numbers _ = false

abbrev pub HasNumbers : Ending → Type 0
HasNumbers e = wants_numbers e.ended ≡ false

-- Along every history of a script that is not too heavy all numbers are small, and so is what each host has seen. No job
-- is given up, or done in part, for want of numbers.
abbrev pub NumbersStaySmall : Type 0
NumbersStaySmall = (script : Script) (history : List Call) → IsScript script → total script ≤ 2 ^ 20 → IsHistory script history →
    AllByRecursion IsSmall history
    × ((host : HostNo) → (progress_at script host history).seen.0 < 2 ^ 26)
    × ((host : HostNo) → AllByRecursion HasNumbers (endings_at script history host))
