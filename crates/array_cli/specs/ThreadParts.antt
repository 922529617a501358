-- What the parts of a run leave whose hosts run beside each other.
use Rattle.std.specs.Prelude.{◌≡◌, ◌^◌, ◌≤◌, true, List, [], length, map, drop}
use Rattle.std.specs.Vec.{vec_capacity}
use Rattle.raid_base.specs.declared.messages.Call.{Call}
use Rattle.raid_base.specs.declared.messages.Entry.{Entry}
use Rattle.raid_base.specs.declared.numbers.HostNo.{HostNo}
use Rattle.block_store.specs.declared.store.Store.{Ghosts}
use Rattle.bay_device.specs.declared.bay.Bay.{Bay}
use Rattle.script_text.specs.Script.{Script, host_numbers}
use Rattle.script_text.specs.Weights.{total}
use Rattle.histories.specs.Quotas.{all_quotas}
use Rattle.histories.specs.Turns.{all_ended}
use Rattle.clock_merge.specs.Tied.{IsPlayOfMerge}
use Rattle.clock_merge.specs.Turns.{AppendsMerge}
use Rattle.schedule_play.specs.declared.world.World.{World}
use Rattle.schedule_play.specs.Gathering.{IsClosable, IsGathered}
use Rattle.schedule_play.specs.Making.{AreLarge, AreMade}
use Rattle.schedule_play.specs.World.{AreOver, Keeps, Shows}
use Rattle.schedule_play.specs.World.{AllTell as BaysTell}
use Rattle.array_cli.specs.Moments.{AreTimely}
use Rattle.array_cli.specs.Calls.{AllTell}
use Rattle.array_cli.specs.ThreadRuns.{AreMerged, HasRunStopped}
use Rattle.array_cli.specs.declared.calls.Outcome.{Outcome}
use Rattle.array_cli.specs.declared.thread_runs.Room.{Room}

-- room for a worker of each host and for the turns of all requests
pub record HasRoom (script : Script) (room : Room) : Type 0 where
  pub no_workers : room.workers.items ≡ []
  pub workers : length (host_numbers script) ≤ vec_capacity room.workers
  pub no_turns : room.turns.items ≡ []
  pub turns : total script ≤ room.turns.room

-- a world before its first turn, over some stores
pub record IsStartedWorld {D : Type 0} {g : Ghosts D} (script : Script) (now : World D g) : Type 0 where
  pub stores : List D
  pub made : AreMade script (all_quotas script) stores now.bays.items
  pub shows : Shows script [] now
  pub closable : IsClosable now

-- the journals of its bays
abbrev pub journals_in : {D : Type 0} {g : Ghosts D} → World D g → List (List Entry)
journals_in {D} {g} now = map (λ (b : Bay D g). b.journal.items) now.bays.items

-- the hosts of a world have run to their ends, and it is where the merge of the journals leads
pub record HaveRunBeside {D : Type 0} {g : Ghosts D} (script : Script) (old new : World D g) : Type 0 where
  pub history : List Call
  pub transcripts : HostNo → List Call
  pub shows : Shows script history new
  pub ended : all_ended script history ≡ true
  pub timely : AreTimely history
  pub merged : AppendsMerge (journals_in new) [] new.turns.items
  pub play : BaysTell new.bays.items → IsPlayOfMerge script (journals_in new) transcripts history
  pub keeps : Keeps old new
  pub telling : BaysTell old.bays.items → BaysTell new.bays.items

-- over stores that tell, the history of a world is the play of the merge, and all hosts have ended
pub record HasMerged {D : Type 0} {g : Ghosts D} (script : Script) (history : List Call) (now : World D g) : Type 0 where
  pub told : BaysTell now.bays.items
  pub ended : all_ended script history ≡ true
  pub timely : AreTimely history
  pub transcripts : HostNo → List Call
  pub play : IsPlayOfMerge script (journals_in now) transcripts history

-- a world over these stores whose hosts have run to their ends beside each other
pub record IsRunFinished {D : Type 0} (g : Ghosts D) (script : Script) (stores : List D) (now : World D g) : Type 0 where
  pub history : List Call
  pub shows : Shows script history now
  pub closable : IsClosable now
  pub large : AreLarge g.size script.n script.rows stores
  pub over : AreOver stores now.bays.items
  pub others : now.others.items ≡ drop script.n stores
  pub merged : AppendsMerge (journals_in now) [] now.turns.items
  pub ended : AllTell g script stores → HasMerged script history now × IsGathered script history now.gathered

-- no script was run to its end
pub record IsRunStopped {D : Type 0} (g : Ghosts D) (script : Script) (stores : List D) (outcome : Outcome D) : Type 0 where
  pub stopped : HasRunStopped g script stores outcome outcome.status
  pub merged : AreMerged outcome
