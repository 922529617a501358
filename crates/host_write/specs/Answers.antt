-- What an attempt asks next, and what an answer says, once there is one.
use Rattle.std.specs.Prelude.{Option, Some, None, option_map}
use Rattle.raid_base.specs.declared.numbers.BayNo.{BayNo}
use Rattle.raid_base.specs.declared.jobs.Ended.{Ended}
use Rattle.raid_base.specs.declared.messages.Request.{Request}
use Rattle.raid_base.specs.declared.messages.Errand.{Errand}
use Rattle.raid_base.specs.Steps.{Steps, next_errand}
use Rattle.attempts.specs.Taking.{Finish}

-- the next request, and the bay that it goes to
abbrev pub next_request : Steps Finish → Option (BayNo × Request)
next_request steps = option_map (λ (e : Errand). (e.bay, e.request)) (next_errand steps)

-- how the attempt ended
abbrev pub ended_in : Option Finish → Option Ended
ended_in None = None
ended_in (Some f) = Some f.ended
