-- A call whose hosts have run beside each other: what it has read, played and printed, and why it has ended so.
use Rattle.std.specs.Prelude.{◌≡◌, ◌⊎◌, ℕ, ◌^◌, ◌<◌, ◌≤◌, ◌++◌, true, List, [], map}
use Rattle.raid_base.specs.declared.messages.Call.{Call}
use Rattle.raid_base.specs.declared.status.Status.{Status}
use Rattle.raid_base.specs.declared.status.Status.TheVariants.{Done, ReadFault, TooLong, BadScript, TooMuch, StoreFault, WriteFault, Memory}
use Rattle.raid_base.specs.declared.streams.Source.{Ghosts as SourceGhosts}
use Rattle.raid_base.specs.declared.streams.Sink.{Ghosts as SinkGhosts}
use Rattle.raid_base.specs.Counts.{Rises}
use Rattle.raid_base.specs.Streams.{AppendsPart}
use Rattle.block_store.specs.declared.store.Store.{Ghosts as StoreGhosts}
use Rattle.script_text.specs.Script.{Script}
use Rattle.script_text.specs.Weights.{total}
use Rattle.report_text.specs.Report.{ReportOf, report_text}
use Rattle.clock_merge.specs.Turns.{AppendsMerge}
use Rattle.schedule_play.specs.Making.{AreBack}
use Rattle.array_cli.specs.declared.calls.Outcome.{Outcome}
use Rattle.array_cli.specs.Calls.{handed_out, AllTell, HasFailedBy, HasStopped, HasCalled, IsEmpty, IsIdle, IsOpened, IsUnopened, IsRead}
use Rattle.array_cli.specs.Merged.{IsMergedPlay, IsMergedReport}

-- the turns that are handed out are the merge of the journals that are
abbrev pub AreMerged : {D : Type 0} → Outcome D → Type 0
AreMerged outcome = AppendsMerge (map (λ journal. journal.items) outcome.journals.items) [] outcome.turns.items

-- the final reading met a store that fails: all but the report is there
pub record IsRunUnread {D : Type 0} (g : StoreGhosts D) (script : Script) (at : ℕ) (stores : List D) (outcome : Outcome D) : Type 0 where
  pub failed : HasFailedBy g 1 at stores outcome
  pub played : AllTell g script stores → (history : List Call) × IsMergedPlay script (handed_out g outcome) history

-- The run of a script over some stores that has come to no report, by its status. But for what was played, and for which
-- stores were not touched where there was no memory, it is as with the simulator
abbrev pub HasRunStopped : {D : Type 0} → StoreGhosts D → Script → List D → Outcome D → Status → Type 0
HasRunStopped g script stores outcome (StoreFault bay) =
    IsOpened g script stores outcome × (bay.0 < script.n)
    × (IsUnopened g script bay.0 stores outcome ⊎ IsRunUnread g script bay.0 stores outcome)
HasRunStopped g script stores outcome Memory = AreBack g script.n stores outcome.stores.items × IsEmpty outcome
HasRunStopped g script stores outcome status = HasStopped g script stores outcome status

-- The run of a script over some stores, and what was printed of its report. Where it is done, the sink holds nothing back any more
abbrev pub HasRun : {K D : Type 0} → SinkGhosts K → StoreGhosts D → Script → K → K → List D → Outcome D → Status → Type 0
HasRun k g script sink after stores outcome Done =
    IsOpened g script stores outcome × (k.held after ≡ [])
    × (AllTell g script stores → (report : ReportOf) × IsMergedReport script (handed_out g outcome) report
    × (k.tells sink ≡ true → k.written after ≡ k.written sink ++ report_text report))
HasRun k g script sink after stores outcome WriteFault =
    IsOpened g script stores outcome × Rises (k.faults sink) (k.faults after)
    × (AllTell g script stores → (report : ReportOf) × IsMergedReport script (handed_out g outcome) report
    × (k.tells sink ≡ true → AppendsPart (k.written sink) (k.written after) (report_text report)))
HasRun k g script sink after stores outcome status = (after ≡ sink) × HasRunStopped g script stores outcome status

-- A run with a source, a sink and some stores, by its status: what comes before the script is read is as with the simulator
abbrev pub HasRunCalled : {S K D : Type 0} → SourceGhosts S → SinkGhosts K → StoreGhosts D → S → S → K → K → List D → Outcome D → Status → Type 0
HasRunCalled s k g source later sink after stores outcome ReadFault = HasCalled s k g source later sink after stores outcome ReadFault
HasRunCalled s k g source later sink after stores outcome TooLong = HasCalled s k g source later sink after stores outcome TooLong
HasRunCalled s k g source later sink after stores outcome (BadScript line kind) = HasCalled s k g source later sink after stores outcome (BadScript line kind)
HasRunCalled s k g source later sink after stores outcome (TooMuch weight) = HasCalled s k g source later sink after stores outcome (TooMuch weight)
HasRunCalled s k g source later sink after stores outcome Memory =
    IsIdle sink after stores outcome ⊎ ((script : Script) × IsRead s source later script × HasRun k g script sink after stores outcome Memory)
HasRunCalled s k g source later sink after stores outcome status =
    (script : Script) × IsRead s source later script × (total script ≤ 2 ^ 20) × HasRun k g script sink after stores outcome status

-- However it ends, the turns are the merge of the journals
pub record IsRun {S K D : Type 0} (s : SourceGhosts S) (k : SinkGhosts K) (g : StoreGhosts D) (source later : S) (sink after : K) (stores : List D) (outcome : Outcome D) : Type 0 where
  pub called : HasRunCalled s k g source later sink after stores outcome outcome.status
  pub merged : AreMerged outcome
