-- All hosts of a script over the bays of a rack: what they have to be at first, and what they and the bays are at the end.
use Rattle.std.specs.Prelude.{◌≡◌, ℕ, ◌^◌, ◌<◌, ◌≤◌, ◌==◌, if◌then◌else◌, true, All, List, [], ◌∷◌, length, map, reverse, slice_index_or}
use Rattle.std.specs.Vec.{vec_capacity}
use Rattle.raid_base.specs.declared.messages.Call.{Call}
use Rattle.block_store.specs.declared.store.Store.{Ghosts}
use Rattle.bay_device.specs.declared.bay.Bay.{Bay}
use Rattle.script_text.specs.Script.{Script, host_numbers}
use Rattle.script_text.specs.Ranges.{all_jobs}
use Rattle.histories.specs.Progress.{is_over}
use Rattle.histories.specs.History.{progress_at}
use Rattle.histories.specs.HostRuns.{IsHostRun}
use Rattle.histories.specs.Bounds.{host_requests, host_contents}
use Rattle.histories.specs.Quotas.{all_quotas}
use Rattle.host_engine.specs.declared.host.Host.{Host}
use Rattle.host_engine.specs.Stands.{Stands, IsFreshHost}
use Rattle.rack_turns.specs.declared.pass.Pass.{Pass}
use Rattle.rack_turns.specs.declared.rack.Rack.{Rack}
use Rattle.rack_turns.specs.declared.view.Shadow.{Shadow}
use Rattle.rack_turns.specs.Views.{entries_of, calls_at}
use Rattle.rack_turns.specs.Shadows.{shadows, IsLater}
use Rattle.rack_turns.specs.Passes.{IsPassOf, IsNewFirst, openings_of, room_of}
use Rattle.host_workers.specs.Workers.{IsRackFor}

-- all hosts of a script, in its order, each at its start
pub record AreFresh (script : Script) (hosts : List Host) : Type 0 where
  pub numbers : map (λ (host : Host). host.no) hosts ≡ host_numbers script
  pub each : All (λ (host : Host). IsFreshHost script host.no host) hosts

-- a rack of a script's bays, its first pass with room for all quotas, the script's hosts, and room for a worker of each
pub record MayPlay {D : Type 0} {g : Ghosts D} (script : Script) (rack : Rack D g) (first : Pass) (hosts : List Host) (room : ℕ) : Type 0 where
  pub rack_is : IsRackFor script rack
  pub jobs : length (all_jobs script) < 2 ^ 32
  pub pass : IsPassOf rack first
  pub new : IsNewFirst (openings_of rack) first
  pub quotas : all_quotas script ≤ room_of first
  pub fresh : AreFresh script hosts
  pub workers : length hosts ≤ room

-- a host has run to its end by itself: its transcript is a run of it by the script, and it stands where that leads
pub record HasRunAlone (script : Script) (host : Host) : Type 0 where
  pub run : IsHostRun script host.no (reverse host.transcript.items)
  pub stands : Stands script host.no host (progress_at script host.no (reverse host.transcript.items))
  pub over : is_over (progress_at script host.no (reverse host.transcript.items)).work ≡ true
  pub moments : All (λ (call : Call). call.ask.moment < 2 ^ 40) host.transcript.items
  pub calls : host_requests script host.no ≤ vec_capacity host.transcript
  pub reads : host_contents script host.no ≤ vec_capacity host.contents

-- what the host of this number has asked, nothing where there is none
abbrev pub asked_by : List Host → ℕ → List Call
asked_by [] host = []
asked_by (first ∷ hosts) host = if first.no.0 == host then first.transcript.items else asked_by hosts host

-- the bay is what it was at first, later on, and for each host the entries of its journal are what that host asked there
pub record IsTiedBay (opening : Shadow) (hosts : List Host) (bay : ℕ) (now : Shadow) : Type 0 where
  pub later : IsLater opening now
  pub entries : (host : ℕ) → entries_of host now.journal ≡ calls_at bay (asked_by hosts host)

-- the bays come back in order
pub record AreTiedBays (openings : List Shadow) (hosts : List Host) (bays : List Shadow) : Type 0 where
  pub many : length bays ≡ length openings
  pub each : (bay : ℕ) (d : Shadow) → bay < length openings →
      IsTiedBay (slice_index_or openings bay d) hosts bay (slice_index_or bays bay d)

-- all hosts of a script have run to their ends over the bays of a rack
pub record HavePlayed {D : Type 0} {g : Ghosts D} (script : Script) (rack : Rack D g) (hosts : List Host) (bays : List (Bay D g)) : Type 0 where
  pub numbers : map (λ (host : Host). host.no) hosts ≡ host_numbers script
  pub each : All (HasRunAlone script) hosts
  pub bays_are : AreTiedBays (openings_of rack) hosts (shadows bays)
