-- The headline and its parts, over a script and the history of its play.
use Rattle.std.specs.Prelude.{◌≡◌, ℕ, true, List, map}
use Rattle.std.specs.List.{range_with_len}
use Rattle.raid_base.specs.declared.cells.Content.{Content}
use Rattle.raid_base.specs.declared.messages.Call.{Call}
use Rattle.raid_base.specs.declared.numbers.HostNo.{HostNo}
use Rattle.raid_base.specs.declared.cells.Shown.TheVariants.{Seen}
use Rattle.raid_base.specs.declared.messages.Entry.{Entry}
use Rattle.raid_base.specs.declared.messages.Turn.{Turn}
use Rattle.raid_base.specs.declared.jobs.JobResult.{JobResult}
use Rattle.stripe_layout.specs.Placement.{bay}
use Rattle.virtual_objects.specs.Objects.{Address}
use Rattle.script_text.specs.Script.{Script}
use Rattle.serial_array.specs.Serial.{Array, IsSerial, Reported}
use Rattle.histories.specs.Turns.{all_ended, sim}
use Rattle.histories.specs.Results.{NamesLostRightly, results, contents, shown_block, EachEnding}
use Rattle.histories.specs.Progress.{Ending}
use Rattle.histories.specs.History.{faults_in, journal, turns_of, endings_at}
use Rattle.histories.specs.RowStates.{AreRowsSound}
use Rattle.histories.specs.Calls.{Always}
use Rattle.histories.specs.Causes.{MeetsCause}
use Rattle.histories.specs.Stored.{StoresHold}

-- History: what a run hands out is that of the simulator's play, and every host has ended
pub record Outcome : Type 0 where
  pub journals : List (List Entry)
  pub results : List JobResult
  pub turns : List Turn
  pub stores : List (List (List ℕ))

pub record IsPlayOf (script : Script) (history : List Call) (outcome : Outcome) : Type 0 where
  pub most : ℕ
  pub played : history ≡ sim script (faults_in history) most
  pub over : all_ended script history ≡ true
  pub journals : outcome.journals ≡ map (λ k. journal (bay k) history) (range_with_len 0 script.n)
  pub results : outcome.results ≡ results script history
  pub turns : outcome.turns ≡ turns_of history
  pub stores : StoresHold script history outcome.stores

-- Serial: results and contents are those of a serial array, and a final block that is seen is that of the array at the end
abbrev pub ShowsLast : Script → List Call → Array → Type 0
ShowsLast script history last = (address : Address) (content : Content) → shown_block script history address ≡ Seen content → content ≡ last address

-- what is reported of each host's jobs
abbrev pub reported : Ending → Reported
reported e = record { job = e.job; ended = e.ended; contents = e.contents }

abbrev pub reported_at : Script → List Call → HostNo → List Reported
reported_at script history host = map reported (endings_at script history host)

abbrev pub IsSerialPlay : Script → List Call → Type 0
IsSerialPlay script history = (last : Array) × IsSerial script (reported_at script history) last × ShowsLast script history last

-- Parity: at every moment each closed row without a missing slot is sound
abbrev pub KeepsParity : Script → List Call → Type 0
KeepsParity script history = Always (AreRowsSound script) history

-- Causes: each result that gives a cause has it
abbrev pub HasCauses : Script → List Call → Type 0
HasCauses script history = EachEnding script history (λ host e. MeetsCause script history host e e.ended)

-- The headline: the play is that of the history, its results are serial, the parity is kept, lost blocks are named rightly, and each
-- cause that is given has come. The report that is printed is that of the same history
pub record Headline (script : Script) (history : List Call) (outcome : Outcome) : Type 0 where
  pub play : IsPlayOf script history outcome
  pub serial : IsSerialPlay script history
  pub parity : KeepsParity script history
  pub lost_blocks : NamesLostRightly script history
  pub causes : HasCauses script history
