-- How often hosts ask each bay, and how often at most.
use Rattle.std.specs.Prelude.{◌≡◌, ℕ, ◌+◌, ◌*◌, ◌≤◌, ◌==◌, ◌&&◌, if◌then◌else◌, List, [], ◌∷◌, length, sum_by}
use Rattle.raid_base.specs.declared.numbers.HostNo.{HostNo}
use Rattle.raid_base.specs.declared.numbers.BayNo.{BayNo}
use Rattle.raid_base.specs.declared.messages.Call.{Call}
use Rattle.script_text.specs.Script.{Script, host_numbers}
use Rattle.script_text.specs.Weights.{quota, total}
use Rattle.histories.specs.History.{journal, transcript}
use Rattle.histories.specs.Asked.{AreAsked}
use Rattle.histories.specs.Bounds.{IsPlayable, host_requests}

-- how often this host has asked this bay
abbrev pub calls_at : HostNo → BayNo → List Call → ℕ
calls_at host bay [] = 0
calls_at host bay (call ∷ earlier) =
    let before = calls_at host bay earlier in if (call.ask.host.0 == host.0) && (call.bay.0 == bay.0) then before + 1 else before

-- the quotas of all hosts together
abbrev pub all_quotas : Script → ℕ
all_quotas script = sum_by (quota script) (host_numbers script)

-- no host asks a bay more often than its quota says
pub record IsWithinQuotas (script : Script) (history : List Call) : Type 0 where
  pub asked : (host : HostNo) (bay : BayNo) → calls_at host bay history ≤ quota script host
  pub journals : (bay : BayNo) → length (journal bay history) ≤ all_quotas script
  pub transcripts : (host : HostNo) → length (transcript host history) ≤ script.n * quota script host

-- In every history in which each call is the next of its host, no host asks a bay more often than its quota.
abbrev pub RequestsKeepQuotas : Type 0
RequestsKeepQuotas = (script : Script) (history : List Call) → IsPlayable script → AreAsked script history → IsWithinQuotas script history

-- the total of a script is that of all quotas at all bays, and its hosts ask no more than that
pub record TotalsCover (script : Script) : Type 0 where
  pub all : sum_by (host_requests script) (host_numbers script) ≤ total script
  pub quotas : script.n * all_quotas script ≡ total script

abbrev pub TotalsCoverRequests : Type 0
TotalsCoverRequests = (script : Script) → IsPlayable script → TotalsCover script
