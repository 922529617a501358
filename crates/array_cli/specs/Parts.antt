-- What the parts of a call leave: a world that was played, how its report was printed, and the ends before it.
use Rattle.std.specs.Prelude.{◌≡◌, ℕ, ◌^◌, ◌<◌, ◌≤◌, ◌++◌, true, List, [], Some, length, drop, Result, Ok, Err}
use Rattle.raid_base.specs.declared.messages.Call.{Call}
use Rattle.raid_base.specs.declared.status.Status.{Status}
use Rattle.raid_base.specs.declared.status.Status.TheVariants.{Done, ReadFault, TooLong, BadScript, TooMuch, WriteFault, TooFewStores, TooSmall, StoreFault, Memory}
use Rattle.raid_base.specs.declared.status.Failed.{Failed}
use Rattle.raid_base.specs.declared.streams.Source.{Ghosts as SourceGhosts}
use Rattle.raid_base.specs.declared.streams.Sink.{Ghosts as SinkGhosts}
use Rattle.raid_base.specs.Counts.{Rises}
use Rattle.raid_base.specs.Streams.{AppendsPart}
use Rattle.block_store.specs.declared.store.Store.{Ghosts as StoreGhosts}
use Rattle.script_text.specs.Script.{Script}
use Rattle.script_text.specs.Faults.{fault_in}
use Rattle.script_text.specs.Ranges.{all_jobs}
use Rattle.script_text.specs.Weights.{total}
use Rattle.histories.specs.History.{faults_in}
use Rattle.schedule_play.specs.declared.world.World.{World}
use Rattle.schedule_play.specs.declared.making.WorldFault.{WorldFault}
use Rattle.schedule_play.specs.declared.making.WorldFault.TheVariants as faults
use Rattle.schedule_play.specs.declared.making.WorldFault.TheVariants.{TooFew, NoMemory, Fault}
use Rattle.schedule_play.specs.Making.{AreLarge}
use Rattle.schedule_play.specs.World.{AreOver, Shows, all_requests, AllTell as BaysTell}
use Rattle.schedule_play.specs.Gathering.{IsClosable, IsGathered}
use Rattle.histories.specs.Turns.{all_ended, sim}
use Rattle.array_cli.specs.declared.calls.Outcome.{Outcome}
use Rattle.array_cli.specs.Calls.{AllTell, IsEmpty, IsRead, IsReadWhole, IsTooLong, HasStopped}

-- why no script was read of a source, by the status
abbrev pub HasNoScript : {S : Type 0} → SourceGhosts S → S → S → Status → Type 0
HasNoScript s source later ReadFault = Rises (s.faults source) (s.faults later)
HasNoScript s source later TooLong = s.tells source ≡ true → IsTooLong (s.left source) (s.left later)
HasNoScript s source later (BadScript line kind) =
    s.tells source ≡ true → IsReadWhole (s.left source) (s.left later) × (fault_in (s.left source) ≡ Some (line, kind))
HasNoScript s source later (TooMuch weight) = (script : Script) × IsRead s source later script × (weight ≡ total script) × (2 ^ 20 < total script)
HasNoScript s source later Memory = Unit {0}
HasNoScript s source later _ = ⊥

-- a script that was read and is not too heavy
pub record IsReadFrom {S : Type 0} (s : SourceGhosts S) (source later : S) (script : Script) : Type 0 where
  pub read : IsRead s source later script
  pub few : total script ≤ 2 ^ 20
  pub jobs : length (all_jobs script) < 2 ^ 32

-- how the printing of a text has ended: where it is done, nothing is held back any more
abbrev pub HasPrinted : {K : Type 0} → SinkGhosts K → List ℕ → K → K → Status → Type 0
HasPrinted k text sink after Done = (k.held after ≡ []) × (k.tells sink ≡ true → k.written after ≡ k.written sink ++ text)
HasPrinted k text sink after WriteFault = Rises (k.faults sink) (k.faults after) × (k.tells sink ≡ true → AppendsPart (k.written sink) (k.written after) text)
HasPrinted k text sink after _ = ⊥

-- the status of a text that was printed, or could not be
abbrev pub status_of : Result (Unit {0}) Failed → Status
status_of (Ok u) = Done
status_of (Err failed) = WriteFault

-- why no world was made for n devices, and what comes back
abbrev pub IsRefused : {D : Type 0} → ℕ → WorldFault D → Outcome D → Type 0
IsRefused n (TooFew stores) outcome = IsEmpty outcome × (outcome.stores ≡ stores) × (length stores.items < n → outcome.status ≡ TooFewStores (length stores.items) n)
IsRefused n (faults.TooSmall bay stores) outcome = IsEmpty outcome × (outcome.stores ≡ stores) × (outcome.status ≡ TooSmall bay)
IsRefused n (NoMemory stores) outcome = IsEmpty outcome × (outcome.stores ≡ stores) × (outcome.status ≡ Memory)
IsRefused n (Fault bay stores) outcome = IsEmpty outcome × (outcome.stores ≡ stores) × (outcome.status ≡ StoreFault bay)

-- this history is the simulator's, with the faults that it tells, and every host has ended
pub record HasEnded {D : Type 0} {g : StoreGhosts D} (script : Script) (history : List Call) (now : World D g) : Type 0 where
  pub told : BaysTell now.bays.items
  pub played : history ≡ sim script (faults_in history) (all_requests script)
  pub over : all_ended script history ≡ true

-- a world over these stores in which the script was played to its end
pub record IsFinished {D : Type 0} (g : StoreGhosts D) (script : Script) (stores : List D) (now : World D g) : Type 0 where
  pub history : List Call
  pub shows : Shows script history now
  pub closable : IsClosable now
  pub large : AreLarge g.size script.n script.rows stores
  pub over : AreOver stores now.bays.items
  pub others : now.others.items ≡ drop script.n stores
  pub ended : AllTell g script stores → HasEnded script history now × IsGathered script history now.gathered

-- no world was played to its end
abbrev pub IsUnplayed : {D : Type 0} → StoreGhosts D → Script → List D → Outcome D → Type 0
IsUnplayed g script stores outcome = HasStopped g script stores outcome outcome.status
