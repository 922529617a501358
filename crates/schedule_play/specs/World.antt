-- A world in code, and the history that it has come to.
use Rattle.std.specs.Prelude.{◌≡◌, ℕ, ◌^◌, ◌<◌, ◌≤◌, IsTrue, List, ◌∷◌, length, slice_index_or, sum_by, map, Option, Some, None}
use Rattle.std.specs.Vec.{vec_capacity}
use Rattle.raid_base.specs.declared.messages.Answer.{Answer}
use Rattle.raid_base.specs.declared.messages.Call.{Call}
use Rattle.raid_base.specs.declared.messages.Turn.{Turn}
use Rattle.raid_base.specs.declared.numbers.HostNo.{HostNo}
use Rattle.stripe_layout.specs.Placement.{bay}
use Rattle.slot_rules.specs.Tables.{with_blocks}
use Rattle.block_store.specs.declared.store.Store.{Ghosts}
use Rattle.bay_device.specs.declared.bay.Bay.{Bay}
use Rattle.bay_device.specs.Handling.{RisesByFaults}
use Rattle.script_text.specs.Script.{Script, host_numbers}
use Rattle.host_engine.specs.declared.host.Host.{Host}
use Rattle.histories.specs.Progress.{Sent, asks}
use Rattle.histories.specs.History.{IsHistory, progress_at, bay_at, clock_at, journal, transcript, turns_of}
use Rattle.histories.specs.Bounds.{IsPlayable, host_requests, host_contents}
use Rattle.histories.specs.Quotas.{all_quotas}
use Rattle.histories.specs.Asked.{AreAsked}
use Rattle.host_engine.specs.Stands.{Stands}
use Rattle.schedule_play.specs.declared.world.World.{World}

-- P holds of each element, at its place
abbrev pub EachAt : {X : Type 0} → (ℕ → X → Type 0) → List X → Type 0
EachAt {X} P xs = (k : ℕ) (d : X) → k < length xs → P k (slice_index_or xs k d)

-- the requests of all hosts
abbrev pub all_requests : Script → ℕ
all_requests script = sum_by (host_requests script) (host_numbers script)

-- a host is where the history leads, with room for all that it may still ask
pub record HostShows (script : Script) (history : List Call) (host : Host) : Type 0 where
  pub stands : Stands script host.no host (progress_at script host.no history)
  pub calls : host.transcript.items ≡ transcript host.no history
  pub room : host_requests script host.no ≤ vec_capacity host.transcript
  pub reads : host_contents script host.no ≤ vec_capacity host.contents

-- so is a bay, over its store's content where that is told
pub record BayShows {D : Type 0} {g : Ghosts D} (script : Script) (history : List Call) (at : ℕ) (now : Bay D g) : Type 0 where
  pub told : IsTrue (g.tells now.store) → with_blocks now.slots (g.content now.store) ≡ bay_at script (bay at) history
  pub clock : now.clock ≡ clock_at (bay at) history
  pub entries : now.journal.items ≡ journal (bay at) history
  pub rows : length now.slots.slots ≡ script.rows
  pub room : all_quotas script ≤ now.cap

-- every store tells its content
abbrev pub AllTell : {D : Type 0} {g : Ghosts D} → List (Bay D g) → Type 0
AllTell {D} {g} bays = EachAt (λ at now. IsTrue (g.tells now.store)) bays

-- a bay over a store that was handed in: it tells as it did, its size has stayed, and since then the count of its faults
-- has risen by those of the journal
pub record IsOver {D : Type 0} {g : Ghosts D} (store : D) (now : Bay D g) : Type 0 where
  pub tells : g.tells now.store ≡ g.tells store
  pub size : g.size now.store ≡ g.size store
  pub faults : RisesByFaults now.journal.items (g.faults store) (g.faults now.store)

-- the bays are over the first of these stores
abbrev pub AreOver : {D : Type 0} {g : Ghosts D} → List D → List (Bay D g) → Type 0
AreOver {D} {g} stores bays = (k : ℕ) (d : D) (e : Bay D g) → k < length bays → IsOver (slice_index_or stores k d) (slice_index_or bays k e)

-- what turns keep: the other stores, the room for what is gathered at the end, and over which stores the bays are
pub record Keeps {D : Type 0} {g : Ghosts D} (old new : World D g) : Type 0 where
  pub others : new.others ≡ old.others
  pub gathered : new.gathered ≡ old.gathered
  pub over : (stores : List D) → AreOver stores old.bays.items → AreOver stores new.bays.items

-- the world is where this history leads
pub record Shows {D : Type 0} {g : Ghosts D} (script : Script) (history : List Call) (now : World D g) : Type 0 where
  pub plays : now.script.now ≡ script
  pub asked : AreAsked script history
  pub hosts : EachAt (λ k host. HostShows script history host) now.hosts.items
  pub numbers : map (λ (host : Host). host.no) now.hosts.items ≡ host_numbers script
  pub bays : EachAt (BayShows script history) now.bays.items
  pub bay_count : length now.bays.items ≡ script.n
  pub turns : now.turns.items ≡ turns_of history
  pub turn_room : all_requests script ≤ vec_capacity now.turns
  pub told : AllTell now.bays.items → IsHistory script history

-- one turn: what the host asks is answered, and where it asks nothing all stays
abbrev pub LeadsTo : Option Sent → List Call → List Call → Type 0
LeadsTo None earlier later = later ≡ earlier
LeadsTo (Some sent) earlier later = (answer : Answer) × (later ≡ record { bay = sent.bay; ask = sent.ask; answer = answer } ∷ earlier)

abbrev pub TurnLeads : Script → Turn → List Call → List Call → Type 0
TurnLeads script turn earlier later = LeadsTo (asks turn.host (progress_at script turn.host earlier) turn.moment) earlier later

pub record Turned {D : Type 0} {g : Ghosts D} (script : Script) (turn : Turn) (history : List Call) (new : World D g) : Type 0 where
  pub later : List Call
  pub leads : TurnLeads script turn history later
  pub shows : Shows script later new

-- a world that may take a turn
pub record IsReady {D : Type 0} {g : Ghosts D} (now : World D g) : Type 0 where
  pub script : Script
  pub history : List Call
  pub playable : IsPlayable script
  pub few : all_requests script < 2 ^ 62
  pub shows : Shows script history now

-- a turn of the host of this number
abbrev pub turn_by : HostNo → ℕ → Turn
turn_by host moment = record { host = host; moment = moment }

-- the turn of the host at this place
abbrev pub turn_of : Host → ℕ → Turn
turn_of host moment = turn_by host.no moment
