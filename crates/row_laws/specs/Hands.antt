-- Attempts in hand, and what their calls were answered.
use Rattle.std.specs.Prelude.{◌≡◌, ◌⊎◌, IsSome, List}
use Rattle.raid_base.specs.declared.numbers.BayNo.{BayNo}
use Rattle.raid_base.specs.declared.numbers.HostNo.{HostNo}
use Rattle.raid_base.specs.declared.numbers.RowNo.{RowNo}
use Rattle.raid_base.specs.declared.messages.Call.{Call}
use Rattle.raid_base.specs.declared.jobs.Task.{Task}
use Rattle.raid_base.specs.declared.jobs.Task.TheVariants as tasks
use Rattle.raid_base.specs.Replies.{grant_of}
use Rattle.raid_base.specs.Steps.{Steps}
use Rattle.attempts.specs.Taking.{Finish}
use Rattle.script_text.specs.Script.{Script}
use Rattle.histories.specs.Calls.{IsClaim}
use Rattle.histories.specs.Torn.{IsMissing}
use Rattle.histories.specs.Hands.{InHand}
use Rattle.histories.specs.Progress.{Progress, Trying}
use Rattle.histories.specs.History.{progress_at}

-- after these calls a host has these steps left of its attempt in hand
pub record HasHand (script : Script) (history : List Call) (host : HostNo) (steps : Steps Finish) : Type 0 where
  pub work : (progress_at script host history).work ≡ Trying steps
  pub hand : let p : Progress = progress_at script host history in InHand script host p.jobs p.row p.seen p.calls steps

abbrev pub calls_at : Script → List Call → HostNo → List Call
calls_at script history host = (progress_at script host history).calls

-- an attempt that may put units: a write or a rebuild
abbrev pub IsPutter : Task → Type 0
IsPutter (tasks.Write object first from count) = Unit {0}
IsPutter (tasks.Rebuild bay) = Unit {0}
IsPutter _ = ⊥

-- the recovery of a row
abbrev pub IsRecoveryOf : RowNo → Task → Type 0
IsRecoveryOf row (tasks.Recover at) = at ≡ row
IsRecoveryOf row _ = ⊥

-- a claim of this slot was granted, or answered that it is missing
abbrev pub IsAnswered : BayNo → RowNo → Call → Type 0
IsAnswered at row call = IsClaim at row call × (IsSome (grant_of call.answer.reply) ⊎ IsMissing call)
