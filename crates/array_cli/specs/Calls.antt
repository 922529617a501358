-- A call of the program: what it has read, played and printed, and why it has ended so.
use Rattle.std.specs.Prelude.{◌≡◌, ◌⊎◌, ℕ, ◌+◌, ◌-◌, ◌^◌, ◌<◌, ◌≤◌, ◌++◌, true, IsTrue, List, [], Option, Some, None, length, map, slice_index_or}
use Rattle.raid_base.specs.declared.messages.Call.{Call}
use Rattle.raid_base.specs.declared.messages.Entry.{Entry}
use Rattle.raid_base.specs.declared.status.Status.{Status}
use Rattle.raid_base.specs.declared.status.Status.TheVariants.{Done, Words, ReadFault, TooLong, BadScript, TooMuch, TooFewStores, TooSmall, StoreFault, WriteFault, Memory}
use Rattle.raid_base.specs.declared.streams.Source.{Ghosts as SourceGhosts}
use Rattle.raid_base.specs.declared.streams.Sink.{Ghosts as SinkGhosts}
use Rattle.raid_base.specs.Counts.{Rises, RisesBy}
use Rattle.raid_base.specs.Streams.{AppendsPart}
use Rattle.block_store.specs.declared.store.Store.{Ghosts as StoreGhosts}
use Rattle.bay_device.specs.Handling.{count_faults}
use Rattle.script_text.specs.Script.{Script}
use Rattle.script_text.specs.Text.{script_text}
use Rattle.script_text.specs.Faults.{fault_in}
use Rattle.script_text.specs.Ranges.{IsScript}
use Rattle.script_text.specs.Weights.{total}
use Rattle.report_text.specs.Report.{ReportOf, report_text}
use Rattle.report_text.specs.Told.{IsTold}
use Rattle.histories.specs.Completeness.{UnrefusedAreDone, UnrefusedGoOn}
use Rattle.load_maker.specs.Load.{load_script}
use Rattle.load_maker.specs.Summary.{summary_text}
use Rattle.schedule_play.specs.World.{EachAt}
use Rattle.schedule_play.specs.Making.{AreBack, AreLarge, AreUntouchedFrom, IsFirstSmall, IsHalted}
use Rattle.serial_laws.specs.Contents.{AreContentsShown}
use Rattle.attempt_laws.specs.Lone.{LoneJobsAreDone}
use Rattle.serial_laws.specs.Headline.{Outcome as PlayOutcome, Headline}
use Rattle.schedule_play.specs.Reported.{report_of}
use Rattle.array_cli.specs.SerialReports.{IsSerialReport}
use Rattle.array_cli.specs.declared.calls.Outcome.{Outcome}
use Rattle.array_cli.specs.declared.words.Command.{Command}
use Rattle.array_cli.specs.declared.words.Command.TheVariants.{Sim, Run, Load}

-- what a call hands out, over stores that tell their content
abbrev pub handed_out : {D : Type 0} → StoreGhosts D → Outcome D → PlayOutcome
handed_out g outcome = record {
  journals = map (λ journal. journal.items) outcome.journals.items;
  results = outcome.results.items;
  turns = outcome.turns.items;
  stores = map g.content outcome.stores.items;
}

-- The play of a script. The headline: what is handed out is the play's; its results and contents are those of a serial array that runs
-- them in the order of their numbers, and each block that is shown at the end is that array's; the parity is kept at every moment; lost
-- blocks are named rightly; each result that gives a cause has it. Besides, what is shown of a unit at the end is the content that it
-- took last. An attempt of a read or write that no reply refuses goes on, or its job is done with it; so each whose last attempt none
-- has refused is done; and where one host alone reads and writes and no bay has answered Fault each job that has parts is done at its first
-- attempt.
pub record IsPlayed (script : Script) (outcome : PlayOutcome) (history : List Call) : Type 0 where
  pub headline : Headline script history outcome
  pub contents : AreContentsShown script history
  pub attempts : UnrefusedGoOn script history
  pub unrefused : UnrefusedAreDone script history
  pub alone : LoneJobsAreDone script history

-- and its report, whose results and blocks are those of an array without devices, and whose text is read back as what it tells
pub record IsReported (script : Script) (outcome : PlayOutcome) (report : ReportOf) : Type 0 where
  pub serial : IsSerialReport script report
  pub told : IsTold report
  pub history : List Call
  pub input_output : report ≡ report_of script history
  pub played : IsPlayed script outcome history

-- neither journals nor results nor turns
pub record IsEmpty {D : Type 0} (outcome : Outcome D) : Type 0 where
  pub journals : outcome.journals.items ≡ []
  pub results : outcome.results.items ≡ []
  pub turns : outcome.turns.items ≡ []

-- the stores are as they were, and nothing else is handed out
pub record IsUntouched {D : Type 0} (stores : List D) (outcome : Outcome D) : Type 0 where
  pub stores_back : outcome.stores.items ≡ stores
  pub empty : IsEmpty outcome

-- and nothing was printed
pub record IsIdle {K D : Type 0} (sink after : K) (stores : List D) (outcome : Outcome D) : Type 0 where
  pub silent : after ≡ sink
  pub untouched : IsUntouched stores outcome

-- each store of a device tells its content
abbrev pub AllTell : {D : Type 0} → StoreGhosts D → Script → List D → Type 0
AllTell g script stores = EachAt (λ at store. at < script.n → IsTrue (g.tells store)) stores

-- the journal of a bay that is handed out
abbrev pub journal_of : {D : Type 0} → Outcome D → ℕ → List Entry
journal_of outcome at = slice_index_or (map (λ journal. journal.items) outcome.journals.items) at []

-- since it was handed in, the count of the store at this place has risen by the Faults in its journal, and so many more
abbrev pub HasFailedBy : {D : Type 0} → StoreGhosts D → ℕ → ℕ → List D → Outcome D → Type 0
HasFailedBy {D} g more at stores outcome =
    (d : D) → RisesBy (count_faults (journal_of outcome at) + more) (g.faults (slice_index_or stores at d)) (g.faults (slice_index_or outcome.stores.items at d))

-- the stores were enough and large enough. They come back in order, and no bay has answered Fault more often than its store has failed
pub record IsOpened {D : Type 0} (g : StoreGhosts D) (script : Script) (stores : List D) (outcome : Outcome D) : Type 0 where
  pub large : AreLarge g.size script.n script.rows stores
  pub stores_back : AreBack g script.n stores outcome.stores.items
  pub faults : (at : ℕ) → at < script.n → HasFailedBy g 0 at stores outcome

-- this store failed before the first request, and no play is handed out
pub record IsUnopened {D : Type 0} (g : StoreGhosts D) (script : Script) (at : ℕ) (stores : List D) (outcome : Outcome D) : Type 0 where
  pub empty : IsEmpty outcome
  pub failed : HasFailedBy g 1 at stores outcome
  pub halted : IsHalted g script.rows at stores outcome.stores.items

-- the final reading met a store that fails: all but the report is there
pub record IsUnread {D : Type 0} (g : StoreGhosts D) (script : Script) (at : ℕ) (stores : List D) (outcome : Outcome D) : Type 0 where
  pub failed : HasFailedBy g 1 at stores outcome
  pub played : AllTell g script stores → (history : List Call) × IsPlayed script (handed_out g outcome) history

-- The playing of a script over some stores that has come to no report, by its status
abbrev pub HasStopped : {D : Type 0} → StoreGhosts D → Script → List D → Outcome D → Status → Type 0
HasStopped g script stores outcome (TooFewStores have need) = IsUntouched stores outcome × (have ≡ length stores) × (need ≡ script.n) × (have < need)
HasStopped g script stores outcome (TooSmall bay) = IsUntouched stores outcome × IsFirstSmall g.size script.n script.rows bay.0 stores
HasStopped g script stores outcome (StoreFault bay) =
    IsOpened g script stores outcome × (bay.0 < script.n)
    × (IsUnopened g script bay.0 stores outcome ⊎ IsUnread g script bay.0 stores outcome)
HasStopped g script stores outcome Memory =
    AreBack g script.n stores outcome.stores.items × IsEmpty outcome × AreUntouchedFrom (script.n - 1) stores outcome.stores.items
HasStopped g script stores outcome _ = ⊥

-- The playing of a script over some stores, and what was printed of its report. Where it is done, the sink holds nothing back any more
abbrev pub HasPlayed : {K D : Type 0} → SinkGhosts K → StoreGhosts D → (ReportOf → List ℕ) → Script → K → K → List D → Outcome D → Status → Type 0
HasPlayed k g print script sink after stores outcome Done =
    IsOpened g script stores outcome × (k.held after ≡ [])
    × (AllTell g script stores → (report : ReportOf) × IsReported script (handed_out g outcome) report
    × (k.tells sink ≡ true → k.written after ≡ k.written sink ++ print report))
HasPlayed k g print script sink after stores outcome WriteFault =
    IsOpened g script stores outcome × Rises (k.faults sink) (k.faults after)
    × (AllTell g script stores → (report : ReportOf) × IsReported script (handed_out g outcome) report
    × (k.tells sink ≡ true → AppendsPart (k.written sink) (k.written after) (print report)))
HasPlayed k g print script sink after stores outcome status = (after ≡ sink) × HasStopped g script stores outcome status

-- an input is read where it has 16 MiB at most
abbrev pub IsShort : List ℕ → Type 0
IsShort bytes = length bytes ≤ 2 ^ 24

-- a source that held more than that, and one of which all was read, so many bytes being left
abbrev pub IsTooLong : List ℕ → List ℕ → Type 0
IsTooLong text left = length left + 2 ^ 24 < length text

abbrev pub IsReadWhole : List ℕ → List ℕ → Type 0
IsReadWhole text left = IsShort text × (left ≡ [])

-- the script that was read: where the source tells, all that it held is its text
pub record IsRead {S : Type 0} (s : SourceGhosts S) (source later : S) (script : Script) : Type 0 where
  pub is : IsScript script
  pub whole : s.tells source ≡ true → IsReadWhole (s.left source) (s.left later)
  pub text : s.tells source ≡ true → s.left source ≡ script_text script

-- A call with a source, a sink and some stores, as they were before and are after it, by its status
abbrev pub HasCalled : {S K D : Type 0} → SourceGhosts S → SinkGhosts K → StoreGhosts D → S → S → K → K → List D → Outcome D → Status → Type 0
HasCalled s k g source later sink after stores outcome ReadFault = IsIdle sink after stores outcome × Rises (s.faults source) (s.faults later)
HasCalled s k g source later sink after stores outcome TooLong =
    IsIdle sink after stores outcome × (s.tells source ≡ true → IsTooLong (s.left source) (s.left later))
HasCalled s k g source later sink after stores outcome (BadScript line kind) =
    IsIdle sink after stores outcome
    × (s.tells source ≡ true → IsReadWhole (s.left source) (s.left later) × (fault_in (s.left source) ≡ Some (line, kind)))
HasCalled s k g source later sink after stores outcome (TooMuch weight) =
    IsIdle sink after stores outcome × (script : Script) × IsRead s source later script × (weight ≡ total script) × (2 ^ 20 < total script)
HasCalled s k g source later sink after stores outcome Memory =
    IsIdle sink after stores outcome
    ⊎ ((script : Script) × IsRead s source later script × HasPlayed k g report_text script sink after stores outcome Memory)
HasCalled s k g source later sink after stores outcome status =
    (script : Script) × IsRead s source later script × (total script ≤ 2 ^ 20) × HasPlayed k g report_text script sink after stores outcome status

pub record IsCall {S K D : Type 0} (s : SourceGhosts S) (k : SinkGhosts K) (g : StoreGhosts D) (source later : S) (sink after : K) (stores : List D) (outcome : Outcome D) : Type 0 where
  pub called : HasCalled s k g source later sink after stores outcome outcome.status

-- The load of n jobs over some stores, by its status: nothing is read, and its summary is printed
abbrev pub HasLoaded : {K D : Type 0} → SinkGhosts K → StoreGhosts D → ℕ → K → K → List D → Outcome D → Status → Type 0
HasLoaded k g n sink after stores outcome Memory =
    IsIdle sink after stores outcome ⊎ HasPlayed k g (summary_text n) (load_script n) sink after stores outcome Memory
HasLoaded k g n sink after stores outcome status = HasPlayed k g (summary_text n) (load_script n) sink after stores outcome status

pub record IsLoad {K D : Type 0} (k : SinkGhosts K) (g : StoreGhosts D) (n : ℕ) (sink after : K) (stores : List D) (outcome : Outcome D) : Type 0 where
  pub loaded : HasLoaded k g n sink after stores outcome outcome.status

-- words that ask for no call: there is no such command
abbrev pub IsNoCallFor : Option Command → Type 0
IsNoCallFor None = Unit {0}
IsNoCallFor (Some Sim) = ⊥
IsNoCallFor (Some Run) = ⊥
IsNoCallFor (Some (Load n)) = ⊥

-- No call is made: the stores are as they were, and nothing was played
pub record IsNoCall {D : Type 0} (stores : List D) (outcome : Outcome D) : Type 0 where
  pub status : (outcome.status ≡ Words) ⊎ (outcome.status ≡ Memory)
  pub stores_back : outcome.stores.items ≡ stores
  pub empty : IsEmpty outcome
