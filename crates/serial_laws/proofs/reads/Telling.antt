-- A read that is done tells of its units the contents below its number.
use Rattle.std.proofs.Common.{◌≡◌, refl, sym, subst, ◌∙◌, ℕ, ◌<◌, IsSome, List, [], length, flat_map, Some, Result, Ok, arith}
use Rattle.std.specs.Prelude.{sum_by}
use Rattle.std.specs.List.{AllByRecursion}
use Rattle.std.proofs.lemmas.List.Elements.{recursion_from_All}
use Rattle.raid_base.specs.declared.numbers.HostNo.{HostNo}
use Rattle.raid_base.specs.declared.numbers.Number.{Number}
use Rattle.raid_base.specs.declared.names.Name.{Name}
use Rattle.raid_base.specs.declared.messages.Call.{Call}
use Rattle.raid_base.specs.declared.jobs.Ended.{Ended}
use Rattle.raid_base.specs.declared.jobs.Ended.TheVariants as ends
use Rattle.raid_base.specs.declared.jobs.JobEnd.{JobEnd}
use Rattle.raid_base.specs.declared.jobs.JobEnd.TheVariants as job_ends
use Rattle.raid_base.specs.declared.jobs.PartsFault.{PartsFault}
use Rattle.raid_base.specs.declared.jobs.RowPart.{RowPart}
use Rattle.raid_base.specs.declared.jobs.Task.{Task}
use Rattle.raid_base.specs.declared.jobs.Task.TheVariants as tasks
use Rattle.raid_base.specs.Steps.{Steps, Standing, settled}
use Rattle.stripe_layout.specs.Placement.{units_in}
use Rattle.virtual_objects.specs.RowParts.{IsPart}
use Rattle.attempts.specs.Taking.{Access, Finish}
use Rattle.attempts.specs.Discipline.{IsAccess}
use Rattle.attempts.specs.Finishes.{IsNoRead}
use Rattle.attempts.specs.Reading.{read_steps}
use Rattle.attempts.specs.Returns.{Returns, HoldsNothing}
use Rattle.attempts.specs.Sound.{Cells, IsSoundRow, AreSoundRows, Showing, PutsNothing, part_contents, TellsIfRead, TellsContents}
use Rattle.attempts.proofs.PhaseLemmas.{all-weaken}
use Rattle.attempts.proofs.ReadReturns.{reads_return}
use Rattle.attempts.proofs.ReadSound.{reads_tell}
use Rattle.script_text.specs.Script.{Script, parts_of}
use Rattle.script_text.specs.Ranges.{IsScript, IsTask}
use Rattle.serial_array.specs.Serial.{number_of}
use Rattle.histories.specs.Hands.{Led}
use Rattle.histories.specs.Progress.{Ending, access, read_of, attempt, quit_end}
use Rattle.histories.specs.History.{IsHistory, endings_at}
use Rattle.serial_laws.specs.Seen.{cells_below, TellsBelow, ReadsTellBelow}
use Rattle.serial_laws.proofs.reads.BelowRows.{below-sound}
use Rattle.serial_laws.proofs.contents.ContentBlocks.{found-so, rows-below}
use Rattle.serial_laws.proofs.contents.ContentShows.{AreShown, settled-showing, led-showing, each-shown}
use Rattle.serial_laws.proofs.reads.ReadCells.{all-shown}
use Rattle.row_laws.proofs.reads.ReadingTrees.{IsReading, IsDoneWith, EndsReading, Reading, settled-reading, led-reading, reads-reading, holds, settled-returns, led-returns}
use Rattle.serial_laws.proofs.results.Stories.{HowEnded, Finished, Halted, Story, stories}

-- where a job ends as a read its attempt did
quit-read : (tries : ℕ) (ended : Ended) (n : Number) → quit_end tries ended ≡ job_ends.Read n → ended ≡ ends.Read n
quit-read tries (ends.Read m) n e = cc
quit-read tries (ends.Wrote m) n e = absurd (cc)
quit-read tries (ends.Part m made cause) n e = absurd (cc)
quit-read tries (ends.Recovered m closed lost) n e = absurd (cc)
quit-read tries (ends.Refused cause) n e = absurd (cc)
quit-read tries ends.Mended n e = absurd (cc)

module _ (script : Script) (is : IsScript script) (history : List Call) (along : IsHistory script history) (host : HostNo) (e : Ending) (s : Story script history host e)
    (object : Name) (first count : ℕ) (reads : e.job.task ≡ tasks.Read object first count) (n : Number) (ended : e.ended ≡ job_ends.Read n)
    (parts : List RowPart) (ok : parts_of script object first count ≡ Ok parts) where
  abbrev id : Number
  id = s.hand.id

  abbrev a : Access
  a = access script (id) parts []

  abbrev now : Standing Finish
  now = record { seen = s.seen; steps = s.steps }

  abbrev start : Standing Finish
  start = settled host (id) (read_steps (a))

  task-is : s.hand.task ≡ tasks.Read object first count
  task-is = let both : Some e.job.task ≡ Some s.hand.task = s.hand.first in let same : e.job.task ≡ s.hand.task = cc in sym same ∙ reads

  led : Led host (start) e.calls (now)
  led =
      subst (λ (r : Result (List RowPart) PartsFault). Led host (settled host (id) (read_of script (id) r)) e.calls (now)) ok
      (subst (λ (t : Task). Led host (settled host (id) (attempt script host (id) s.row t)) e.calls (now)) task-is s.hand.led)

  -- the rows of its parts are of the array
  parts-within : AllByRecursion (λ (part : RowPart). part.row.0 < script.rows) parts
  parts-within =
      let aim : IsTask script host (tasks.Read object first count) = subst (λ (t : Task). IsTask script host t) task-is s.hand.is in
      let are = found-so script is object first count parts aim.some ok in
      rows-below script is object first parts (recursion_from_All (IsPart script.n) parts are.sound.each) (recursion_from_All _ parts are.placed)

  is-access : IsAccess (a) script.rows (sum_by (λ (part : RowPart). length (units_in script.n part.mask)) parts)
  is-access = record {
    least = is.devices_least;
    most = is.devices_most;
    id = record { least = s.hand.least; most = s.hand.most };
    within = parts-within;
    covered = omega arith;
  }

  abbrev Table : Cells
  Table = cells_below script history n

  rows-sound : AreSoundRows script.n (Table) parts
  rows-sound =
      all-weaken (λ (part : RowPart). part.row.0 < script.rows) (λ (part : RowPart). IsSoundRow script.n (Table) part.row)
      (λ part below. below-sound script is part.row below history along n) parts parts-within

  both : AllByRecursion (λ (c : Call). IsReading (id) c.ask.what) e.calls × Reading script.mode (id) e.calls s.steps
  both = led-reading script.mode (id) host (start) e.calls (now) (settled-reading script.mode (id) host (id) [] (read_steps (a)) (reads-reading (a))) led

  returned : Returns script.mode HoldsNothing (holds script.mode e.calls) s.steps
  returned = led-returns script.mode HoldsNothing host (start) e.calls (now) (settled-returns script.mode HoldsNothing host (id) [] (read_steps (a)) (reads_return (a))) led

  tells : e.contents ≡ flat_map (part_contents script.n (Table)) parts
  tells = by s.how
    where
      by : HowEnded s.steps e → e.contents ≡ flat_map (part_contents script.n (Table)) parts
      by (Halted errand stop commits go at stops contents) =
          let left = subst (λ (x : Steps Finish). Reading script.mode (id) e.calls x) at (both).1 in
          absurd (subst IsNoRead (quit-read e.tries stop n (sym stops ∙ ended)) left.1)
      by (Finished f at finish contents) =
          let read : f.ended ≡ ends.Read n = quit-read e.tries f.ended n (sym finish ∙ ended) in
          let done : IsDoneWith script.mode (id) e.calls n =
          subst (λ (x : Ended). EndsReading script.mode (id) e.calls x) read (subst (λ (x : Steps Finish). Reading script.mode (id) e.calls x) at (both).1) in
          let none : holds script.mode e.calls ≡ [] = subst (λ (x : Steps Finish). Returns script.mode HoldsNothing (holds script.mode e.calls) x) at returned in
          let shown : AreShown script.n (Table) e.calls =
          each-shown script.n (Table) e.calls (all-shown script is history along e.calls s.among n (id) (both).0 done none) in
          let tree : Showing script.n (Table) PutsNothing (TellsContents (a) (Table)) s.steps =
          led-showing script.n (Table) PutsNothing (TellsContents (a) (Table)) host (start) e.calls (now)
          (settled-showing script.n (Table) PutsNothing (TellsContents (a) (Table)) host (id) (read_steps (a))
          (reads_tell (a) script.rows (sum_by (λ (part : RowPart). length (units_in script.n part.mask)) parts) (Table) is-access rows-sound)) led shown in
          let told : TellsContents (a) (Table) f = subst (λ (x : Steps Finish). Showing script.n (Table) PutsNothing (TellsContents (a) (Table)) x) at tree in
          contents ∙ subst (λ (x : Ended). TellsIfRead (flat_map (part_contents script.n (Table)) parts) f.contents x) read told.told

module _ (script : Script) (is : IsScript script) (history : List Call) (along : IsHistory script history) (host : HostNo) (e : Ending) (story : IsSome (number_of e.ended) → Story script history host e) where
  ending-tells : (task : Task) → e.job.task ≡ task → (ended : JobEnd) → e.ended ≡ ended → TellsBelow script history task ended e.contents
  ending-tells (tasks.Read object first count) reads (job_ends.Read n) same =
      λ parts ok. tells script is history along host e (story (subst (λ (x : JobEnd). IsSome (number_of x)) (sym same) refl)) object first count reads n same parts ok
  ending-tells (tasks.Read object first count) reads (job_ends.Wrote n) same = tt
  ending-tells (tasks.Read object first count) reads (job_ends.Part n made cause) same = tt
  ending-tells (tasks.Read object first count) reads (job_ends.Recovered n closed lost) same = tt
  ending-tells (tasks.Read object first count) reads job_ends.Lost same = tt
  ending-tells (tasks.Read object first count) reads job_ends.Fitted same = tt
  ending-tells (tasks.Read object first count) reads job_ends.Rebuilt same = tt
  ending-tells (tasks.Read object first count) reads (job_ends.Gave tries cause) same = tt
  ending-tells (tasks.Read object first count) reads (job_ends.StillMissing bay) same = tt
  ending-tells (tasks.Read object first count) reads (job_ends.NotLost bay) same = tt
  ending-tells (tasks.Read object first count) reads (job_ends.NotFitted bay) same = tt
  ending-tells (tasks.Read object first count) reads job_ends.NoObject same = tt
  ending-tells (tasks.Read object first count) reads (job_ends.PastEnd blocks) same = tt
  ending-tells (tasks.Read object first count) reads (job_ends.TooManyRows rows) same = tt
  ending-tells (tasks.Write object first from count) reads ended same = tt
  ending-tells (tasks.Recover row) reads ended same = tt
  ending-tells (tasks.Lose bay) reads ended same = tt
  ending-tells (tasks.Fit bay) reads ended same = tt
  ending-tells (tasks.Rebuild bay) reads ended same = tt

pub reads_tell_below : ReadsTellBelow
reads_tell_below script history is along host =
    all-weaken (λ (e : Ending). IsSome (number_of e.ended) → Story script history host e) (λ (e : Ending). TellsBelow script history e.job.task e.ended e.contents)
    (λ e story. ending-tells script is history along host e story e.job.task refl e.ended refl) (endings_at script history host) (stories script history is along host)
