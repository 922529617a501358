-- The calls of one host by itself.
use Rattle.std.specs.Prelude.{◌≡◌, ◌-◌, ◌<◌, ◌≤◌, List, [], ◌∷◌, length, Some}
use Rattle.raid_base.specs.declared.numbers.HostNo.{HostNo}
use Rattle.raid_base.specs.declared.numbers.BayNo.{BayNo}
use Rattle.raid_base.specs.declared.messages.Call.{Call}
use Rattle.script_text.specs.Script.{Script}
use Rattle.script_text.specs.Weights.{quota}
use Rattle.histories.specs.Progress.{asks}
use Rattle.histories.specs.History.{progress_at}
use Rattle.histories.specs.Bounds.{Keeps, IsPlayable, host_requests, host_contents}
use Rattle.histories.specs.Quotas.{calls_at}

-- The calls of one host by itself: each is the next of its progress after the earlier ones; the newest first.
abbrev pub IsHostRun : Script → HostNo → List Call → Type 0
IsHostRun script host [] = Unit {0}
IsHostRun script host (call ∷ earlier) =
    IsHostRun script host earlier × (call.ask.host ≡ host) × (call.bay.0 < script.n)
    × (asks host (progress_at script host earlier) call.ask.moment ≡ Some (record { bay = call.bay; ask = call.ask }))

-- no bay is asked more often than the host's quota says, and all together no more often than its jobs may need
pub record IsRunBounded (script : Script) (host : HostNo) (calls : List Call) : Type 0 where
  pub asked : (bay : BayNo) → calls_at host bay calls ≤ quota script host
  pub all : length calls ≤ host_requests script host
  pub keeps : Keeps script (progress_at script host calls) (host_requests script host - length calls) (host_contents script host)

-- Every run of a host of a script is so, whatever is answered.
abbrev pub HostRunsKeepQuotas : Type 0
HostRunsKeepQuotas = (script : Script) (host : HostNo) (calls : List Call) → IsPlayable script → IsHostRun script host calls → IsRunBounded script host calls
