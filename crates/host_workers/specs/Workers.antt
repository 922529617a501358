-- A host with its pass: what both have to be at first, how they go on, and what they are once the host has ended.
use Rattle.std.specs.Prelude.{◌≡◌, ℕ, ◌+◌, ◌^◌, ◌<◌, ◌≤◌, Bool, true, false, All, List, [], length, reverse, slice_index_or}
use Rattle.std.specs.Vec.{vec_capacity}
use Rattle.raid_base.specs.declared.messages.Call.{Call}
use Rattle.raid_base.specs.declared.numbers.HostNo.{HostNo}
use Rattle.raid_base.specs.declared.numbers.BayNo.{BayNo}
use Rattle.block_store.specs.declared.store.Store.{Ghosts}
use Rattle.script_text.specs.Script.{Script}
use Rattle.script_text.specs.Ranges.{IsScript}
use Rattle.script_text.specs.Weights.{quota}
use Rattle.histories.specs.Progress.{Progress, is_over}
use Rattle.histories.specs.History.{progress_at}
use Rattle.histories.specs.HostRuns.{IsHostRun}
use Rattle.histories.specs.Bounds.{host_requests, host_contents}
use Rattle.histories.specs.Quotas.{calls_at}
use Rattle.host_engine.specs.Stands.{Stands, IsFreshHost}
use Rattle.rack_turns.specs.declared.rack.Rack.{Rack}
use Rattle.rack_turns.specs.declared.view.Shadow.{Shadow}
use Rattle.rack_turns.specs.Views.{EachAt}
use Rattle.rack_turns.specs.Passes.{is_first, host_of, left_at, seen, openings_of, IsPassOf}
use Rattle.host_workers.specs.declared.workers.Worker.{Worker}

-- the host and the pass have the same number
pub record HaveOneNumber (worker : Worker) : Type 0 where
  pub same : host_of worker.pass ≡ worker.host.no

-- the pass may ask each bay as often as the script's quota for the host says
pub record HasItsQuota (script : Script) (worker : Worker) : Type 0 where
  pub left : (bay : BayNo) → bay.0 < script.n → left_at worker.pass bay ≡ quota script worker.host.no

-- the host is at its start, and the pass hasn't asked yet
pub record HaveNotAsked (script : Script) (worker : Worker) : Type 0 where
  pub host : IsFreshHost script worker.host.no worker.host
  pub pass : (seen worker.pass).asked ≡ []

-- the host plays this script
pub record PlaysScript (script : Script) (worker : Worker) : Type 0 where
  pub plays : worker.host.script.now ≡ script

-- the rack has the script's bays, each with the script's number of rows
pub record HasBaysOf (script : Script) (openings : List Shadow) : Type 0 where
  pub many : length openings ≡ script.n
  pub rows : EachAt openings (λ bay opening. length opening.slots.slots ≡ script.rows)

-- a script that has a text, and a rack with its bays
pub record IsRackFor {D : Type 0} {g : Ghosts D} (script : Script) (rack : Rack D g) : Type 0 where
  pub ranges : IsScript script
  pub bays : HasBaysOf script (openings_of rack)

-- a worker of this rack before its first request
pub record IsAtStart {D : Type 0} {g : Ghosts D} (script : Script) (rack : Rack D g) (worker : Worker) : Type 0 where
  pub pass : IsPassOf rack worker.pass
  pub number : HaveOneNumber worker
  pub quota : HasItsQuota script worker
  pub asked : HaveNotAsked script worker
  pub plays : PlaysScript script worker

-- workers that may run: each is at its start, and all play one script, whose bays the rack has
pub record MayRun {D : Type 0} {g : Ghosts D} (script : Script) (rack : Rack D g) (workers : List Worker) : Type 0 where
  pub rack_is : IsRackFor script rack
  pub each : All (IsAtStart script rack) workers

-- the calls of a host, the newest first
abbrev pub calls_of : Worker → List Call
calls_of worker = reverse worker.host.transcript.items

-- where the host of this number is after its calls
abbrev pub progress_of : Script → HostNo → Worker → Progress
progress_of script host worker = progress_at script host (calls_of worker)

-- What holds of a worker of the host of this number after each request. What the pass has asked is what the transcript has,
-- call by call; that is a run of the host by the script, and the host stands where it leads.
pub record IsAlong {D : Type 0} {g : Ghosts D} (script : Script) (rack : Rack D g) (host : HostNo) (worker : Worker) : Type 0 where
  pub pass : IsPassOf rack worker.pass
  pub number : host_of worker.pass ≡ host
  pub asked : (seen worker.pass).asked ≡ worker.host.transcript.items
  pub run : IsHostRun script host (calls_of worker)
  pub stands : Stands script host worker.host (progress_of script host worker)
  pub moments : All (λ (call : Call). call.ask.moment < 2 ^ 40) worker.host.transcript.items
  pub left : (bay : BayNo) → bay.0 < script.n → left_at worker.pass bay + calls_at host bay (calls_of worker) ≡ quota script host
  pub calls : host_requests script host ≤ vec_capacity worker.host.transcript
  pub reads : host_contents script host ≤ vec_capacity worker.host.contents

-- the host of this number has no request any more
abbrev pub HasEnded : Script → HostNo → Worker → Type 0
HasEnded script host worker = is_over (progress_of script host worker).work ≡ true

-- what stays of a worker: its host's number and script, and whether its pass is the first one
pub record StaysItself (old new : Worker) : Type 0 where
  pub number : new.host.no ≡ old.host.no
  pub plays : new.host.script.now ≡ old.host.script.now
  pub first : is_first new.pass ≡ is_first old.pass

-- a worker that may go on by some script
pub record MayGoOn {D : Type 0} {g : Ghosts D} (rack : Rack D g) (worker : Worker) : Type 0 where
  pub script : Script
  pub host : HostNo
  pub rack_is : IsRackFor script rack
  pub along : IsAlong script rack host worker

-- one request more
pub record HasGoneOn {D : Type 0} {g : Ghosts D} (script : Script) (rack : Rack D g) (host : HostNo) (old new : Worker) : Type 0 where
  pub along : IsAlong script rack host new
  pub first : is_first new.pass ≡ is_first old.pass
  pub more : length new.host.transcript.items ≡ length old.host.transcript.items + 1

-- one request more, or none where the host has ended
abbrev pub HasTurned : {D : Type 0} {g : Ghosts D} → Script → Rack D g → HostNo → Worker → Worker → Bool → Type 0
HasTurned script rack host old new true = HasGoneOn script rack host old new
HasTurned script rack host old new false = (new ≡ old) × HasEnded script host old

-- by its script a worker has turned so
abbrev pub TakesTurn : {D : Type 0} {g : Ghosts D} → Rack D g → Worker → Worker → Bool → Type 0
TakesTurn rack old new on = (script : Script) (host : HostNo) → IsRackFor script rack → IsAlong script rack host old → HasTurned script rack host old new on

-- a worker that may run by some script
pub record MayStart {D : Type 0} {g : Ghosts D} (rack : Rack D g) (worker : Worker) : Type 0 where
  pub script : Script
  pub rack_is : IsRackFor script rack
  pub start : IsAtStart script rack worker

-- the host has run to its end
pub record HasRun {D : Type 0} {g : Ghosts D} (script : Script) (rack : Rack D g) (old new : Worker) : Type 0 where
  pub along : IsAlong script rack old.host.no new
  pub stays : StaysItself old new
  pub ended : HasEnded script old.host.no new

-- by its script a worker has run to its end
abbrev pub RunsToItsEnd : {D : Type 0} {g : Ghosts D} → Rack D g → Worker → Worker → Type 0
RunsToItsEnd rack old new = (script : Script) → IsRackFor script rack → IsAtStart script rack old → HasRun script rack old new

-- workers that may run by some script
pub record AreReady {D : Type 0} {g : Ghosts D} (rack : Rack D g) (workers : List Worker) : Type 0 where
  pub script : Script
  pub run : MayRun script rack workers

-- each has run to its end, at its place
abbrev pub HaveRun : {D : Type 0} {g : Ghosts D} → Script → Rack D g → List Worker → List Worker → Type 0
HaveRun script rack old new = (k : ℕ) (d : Worker) → k < length old → HasRun script rack (slice_index_or old k d) (slice_index_or new k d)

-- by their script all have run to their ends
abbrev pub RunToTheirEnds : {D : Type 0} {g : Ghosts D} → Rack D g → List Worker → List Worker → Type 0
RunToTheirEnds rack old new = (script : Script) → MayRun script rack old → HaveRun script rack old new
