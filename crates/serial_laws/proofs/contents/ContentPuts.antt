-- The attempt that asked a put that is done: what it commits, and what its put is where its calls were shown the cells of a table.
use Rattle.std.proofs.Common.{◌≡◌, ◌⊎◌, inl, inr, refl, ap, subst, ◌∙◌, ℕ, ◌<◌, if◌then◌else◌, List, [], ◌∷◌, Some, Result, Ok, Err}
use Rattle.raid_base.specs.declared.numbers.BayNo.{BayNo}
use Rattle.raid_base.specs.declared.numbers.HostNo.{HostNo}
use Rattle.raid_base.specs.declared.numbers.RowNo.{RowNo}
use Rattle.raid_base.specs.declared.numbers.Number.{Number}
use Rattle.raid_base.specs.declared.names.Name.{Name}
use Rattle.raid_base.specs.declared.cells.Cell.{Cell}
use Rattle.raid_base.specs.declared.messages.Call.{Call}
use Rattle.raid_base.specs.declared.messages.Errand.{Errand}
use Rattle.raid_base.specs.declared.messages.Reply.{Reply}
use Rattle.raid_base.specs.declared.messages.Request.TheVariants.{Put}
use Rattle.raid_base.specs.declared.jobs.PartsFault.{PartsFault}
use Rattle.raid_base.specs.declared.jobs.RowPart.{RowPart}
use Rattle.raid_base.specs.declared.jobs.Task.{Task}
use Rattle.raid_base.specs.declared.jobs.Task.TheVariants as tasks
use Rattle.raid_base.specs.Replies.{is_done}
use Rattle.raid_base.specs.Steps.{Commit, Steps, Standing, settled, commits_next, next_errand, errand_of}
use Rattle.raid_xor.specs.Laws.{AreBlocks}
use Rattle.attempts.specs.declared.Repair.{Repair}
use Rattle.attempts.specs.declared.Rescue.{Rescue}
use Rattle.attempts.specs.Taking.{Access, Finish}
use Rattle.attempts.specs.Phases.{RowsDiffer}
use Rattle.attempts.specs.Sound.{Cells, IsSoundRow, AreSoundRows, IsDataRow, Showing, PutsCell, PutsParity, written_cells}
use Rattle.attempts.specs.Discipline.{IsRepair, IsRescue}
use Rattle.attempts.proofs.RepairSound.{rebuilds_restore, recoveries_make_sound}
use Rattle.attempts.proofs.WriteSound.{writes_keep_rows_sound}
use Rattle.script_text.specs.Script.{Script, parts_of, blocks_of}
use Rattle.script_text.specs.Ranges.{IsScript, IsTask}
use Rattle.histories.specs.Calls.{IsDone}
use Rattle.histories.specs.Hands.{Led}
use Rattle.histories.specs.Progress.{Work, Progress, access, attempt, write_of}
use Rattle.histories.specs.History.{progress_at}
use Rattle.row_laws.specs.Hands.{HasHand, calls_at}
use Rattle.row_laws.specs.Laws.{commits_in, commits_of}
use Rattle.row_laws.proofs.commits.CommitTrees.{PutCommits, EachPutCommits, settled-put-commits, behind-put-commits, next-put-commits, attempt-put-commits}
use Rattle.serial_laws.proofs.contents.ContentBlocks.{Writing, write-parts, parts-differ}
use Rattle.serial_laws.proofs.contents.ContentShows.{AreShown, next-showing, settled-showing, led-showing}
use Rattle.serial_laws.proofs.contents.ContentTrees.{PutsNone, MayPut, may-put-or, MendPuts, mends-put, PutsBlock, recoveries-put-blocks}
use Rattle.row_laws.proofs.owners.RowOwnersTrees.{Asking, next-asking, settled-asking, led-asking}
use Rattle.row_laws.proofs.hands.WriteMasks.{parts_in}
use Rattle.serial_laws.proofs.contents.CommittingTrees.{Committing, next-committing, settled-committing, led-committing}
use Rattle.serial_laws.proofs.contents.WritePuts.{WritePutsSo, writes-settle}

-- along the calls of an attempt
led-put-commits : (n : ℕ) (host : HostNo) (start : Standing Finish) (calls : List Call) (now : Standing Finish) → EachPutCommits n start.steps → Led host start calls now → EachPutCommits n now.steps
led-put-commits n host start [] now h led = subst (λ (x : Standing Finish). EachPutCommits n x.steps) led h
led-put-commits n host start (call ∷ earlier) now h (before, led, asked, fit, later) =
    subst (λ (x : Standing Finish). EachPutCommits n x.steps) later
    (settled-put-commits n host (_) (_)
    (behind-put-commits n before.steps call.answer.reply (led-put-commits n host start earlier before h led)))

module _ (script : Script) (is : IsScript script) (earlier : List Call) (call : Call) (steps : Steps Finish) (h : HasHand script earlier call.ask.host steps) (asked : next_errand steps ≡ Some (errand_of call)) where
  abbrev Host : HostNo
  Host = call.ask.host

  abbrev Now : Progress
  Now = progress_at script call.ask.host earlier

  abbrev Calls : List Call
  Calls = calls_at script earlier call.ask.host

  abbrev Stand : Standing Finish
  Stand = record { seen = (Now).seen; steps = steps }

  abbrev Start : Task → Steps Finish
  Start task = attempt script call.ask.host h.hand.id (Now).row task

  led-as : (task : Task) → h.hand.task ≡ task → Led Host (settled Host h.hand.id (Start task)) Calls (Stand)
  led-as task same = subst (λ (t : Task). Led Host (settled Host h.hand.id (Start t)) Calls (Stand)) same h.hand.led

  -- what it commits where it is done
  pub commits-are : IsDone call → commits_of script earlier call ≡ commits_next steps
  commits-are done =
      ap (λ (r : Reply). if is_done r then commits_in (progress_at script call.ask.host earlier).work else []) done ∙ ap (λ (w : Work). commits_in w) h.work

  -- it may put
  pub may-put : (row : RowNo) (id k : Number) (cell : Cell) → call.ask.what ≡ Put row id k cell → MayPut h.hand.task
  may-put row id k cell what = by (may-put-or script Host h.hand.id (Now).row h.hand.task)
    where
      by : MayPut h.hand.task ⊎ Asking PutsNone [] (Start h.hand.task) → MayPut h.hand.task
      by (inl may) = may
      by (inr none) =
          let next : PutsNone Calls (errand_of call) =
          next-asking PutsNone Calls steps (errand_of call)
          (led-asking PutsNone Host (settled Host h.hand.id (Start h.hand.task)) Calls (Stand) (settled-asking PutsNone Host h.hand.id [] (Start h.hand.task) none) (led-as h.hand.task refl)) asked in
          absurd (next row id k cell what)

  pub committing : (P : List Call → Errand → List Commit → Type 0) (task : Task) → h.hand.task ≡ task → Committing P [] (Start task) → P Calls (errand_of call) (commits_next steps)
  committing P task same begins =
      next-committing P Calls steps (errand_of call)
      (led-committing P Host (settled Host h.hand.id (Start task)) Calls (Stand) (settled-committing P Host h.hand.id [] (Start task) begins) (led-as task same)) asked

  showing : (cells : Cells) (P : Errand → List Commit → Type 0) (task : Task) → h.hand.task ≡ task → Showing script.n cells P (λ (finish : Finish). Unit {0}) (Start task) → AreShown script.n cells Calls →
      P (errand_of call) (commits_next steps)
  showing cells P task same begins shown =
      next-showing script.n cells P (λ (finish : Finish). Unit {0}) steps (errand_of call)
      (led-showing script.n cells P (λ (finish : Finish). Unit {0}) Host (settled Host h.hand.id (Start task)) Calls (Stand)
      (settled-showing script.n cells P (λ (finish : Finish). Unit {0}) Host h.hand.id (Start task) begins) (led-as task same) shown) asked

  -- Writes
  module _ (object : Name) (first from count : ℕ) (writes : h.hand.task ≡ tasks.Write object first from count) where
    abbrev pub AccessOf : Access
    AccessOf = Writing script is earlier call.ask.host steps h object first from count writes

    pub put-settles : WritePutsSo (AccessOf) Calls (errand_of call) (commits_next steps)
    put-settles = committing (WritePutsSo (AccessOf)) (tasks.Write object first from count) writes (by (parts_of script object first count) differ)
      where
        differ : RowsDiffer (parts_in (parts_of script object first count))
        differ = parts-differ script is earlier call.ask.host steps h object first from count writes

        by : (r : Result (List RowPart) PartsFault) → RowsDiffer (parts_in r) →
            Committing (WritePutsSo (access script h.hand.id (parts_in r) (blocks_of script from count))) [] (write_of script h.hand.id (blocks_of script from count) r)
        by (Ok parts) differ = writes-settle (access script h.hand.id parts (blocks_of script from count)) is.devices_least
        by (Err fault) differ = tt

    pub put-commits : PutCommits script.n call.bay call.ask.what (commits_next steps)
    put-commits =
        let begins : EachPutCommits script.n (Start (tasks.Write object first from count)) = attempt-put-commits script is Host h.hand.id (Now).row object first from count in
        next-put-commits script.n steps (errand_of call)
        (led-put-commits script.n Host (settled Host h.hand.id (Start (tasks.Write object first from count))) Calls (Stand)
        (settled-put-commits script.n Host h.hand.id (Start (tasks.Write object first from count)) begins) (led-as (tasks.Write object first from count) writes)) asked

    pub put-written : (cells : Cells) → AreSoundRows script.n cells (AccessOf).parts → AreShown script.n cells Calls → PutsCell script.n (written_cells (AccessOf) cells) (errand_of call) (commits_next steps)
    put-written cells sound shown =
        showing cells (PutsCell script.n (written_cells (AccessOf) cells)) (tasks.Write object first from count) writes (by (parts_of script object first count) refl sound) shown
      where
        by : (r : Result (List RowPart) PartsFault) → parts_of script object first count ≡ r → AreSoundRows script.n cells (parts_in r) →
            Showing script.n cells (PutsCell script.n (written_cells (access script h.hand.id (parts_in r) (blocks_of script from count)) cells)) (λ (finish : Finish). Unit {0})
            (write_of script h.hand.id (blocks_of script from count) r)
        by (Ok parts) found sound =
            (writes_keep_rows_sound (access script h.hand.id parts (blocks_of script from count)) cells
            (write-parts script is earlier call.ask.host steps h object first from count writes parts found) sound).puts
        by (Err fault) found sound = tt

  -- Rebuilds
  module _ (bay : BayNo) (mends : h.hand.task ≡ tasks.Rebuild bay) where
    abbrev pub RepairOf : Repair
    RepairOf = record { n = script.n; id = h.hand.id; row = record { 0 = (Now).row }; target = bay }

    pub mend-puts : MendPuts (RepairOf) Calls (errand_of call) (commits_next steps)
    mend-puts = committing (MendPuts (RepairOf)) (tasks.Rebuild bay) mends (mends-put (RepairOf))

    pub put-mended : (cells : Cells) → (Now).row < script.rows → IsSoundRow script.n cells (record { 0 = (Now).row }) → AreShown script.n cells Calls → PutsCell script.n cells (errand_of call) (commits_next steps)
    put-mended cells below sound shown =
        let aim : IsTask script Host (tasks.Rebuild bay) = subst (IsTask script Host) mends h.hand.is in
        let repair : IsRepair (RepairOf) script.rows =
        record { least = is.devices_least; most = is.devices_most; id = record { least = h.hand.least; most = h.hand.most }; row = below; target = aim.1 } in
        showing cells (PutsCell script.n cells) (tasks.Rebuild bay) mends (rebuilds_restore (RepairOf) script.rows cells repair sound) shown

  -- Recoveries
  module _ (row : RowNo) (recovers : h.hand.task ≡ tasks.Recover row) where
    abbrev pub RescueOf : Rescue
    RescueOf = record { n = script.n; host = call.ask.host; id = h.hand.id; row = row }

    pub put-recovered : (cells : Cells) → IsDataRow script.n cells row → AreShown script.n cells Calls → PutsParity script.n cells (errand_of call) (commits_next steps)
    put-recovered cells any_row shown =
        let aim : IsTask script Host (tasks.Recover row) = subst (IsTask script Host) recovers h.hand.is in
        let rescue : IsRescue (RescueOf) script.rows = record { least = is.devices_least; most = is.devices_most; id = record { least = h.hand.least; most = h.hand.most }; row = aim } in
        showing cells (PutsParity script.n cells) (tasks.Recover row) recovers (recoveries_make_sound (RescueOf) script.rows cells rescue any_row) shown

    pub put-block : (cells : Cells) → AreBlocks (cells.parity row ∷ cells.units row) → AreShown script.n cells Calls → PutsBlock (errand_of call) (commits_next steps)
    put-block cells blocks shown = showing cells PutsBlock (tasks.Recover row) recovers (recoveries-put-blocks (RescueOf) cells blocks) shown
