-- A put of a unit that is done leaves the cell of the content that the unit then has: a write commits what it puts, and a rebuild
-- puts what the others make of the slot.
use Rattle.std.proofs.Common.{◌≡◌, inl, inr, refl, sym, ap, subst, ◌∙◌, ℕ, ◌+◌, ◌<◌, Bool, if◌then◌else◌, List, [], ◌∷◌, length, Option, Some, None}
use Rattle.raid_base.specs.declared.numbers.BayNo.{BayNo}
use Rattle.raid_base.specs.declared.numbers.RowNo.{RowNo}
use Rattle.raid_base.specs.declared.numbers.Number.{Number}
use Rattle.raid_base.specs.declared.names.Name.{Name}
use Rattle.raid_base.specs.declared.cells.Cell.{Cell}
use Rattle.raid_base.specs.declared.cells.Content.{Content}
use Rattle.raid_base.specs.declared.cells.Content.TheVariants.{Bytes}
use Rattle.raid_base.specs.declared.messages.How.TheVariants.{Seize}
use Rattle.raid_base.specs.declared.messages.Call.{Call}
use Rattle.raid_base.specs.declared.messages.Request.{Request}
use Rattle.raid_base.specs.declared.messages.Request.TheVariants.{Put}
use Rattle.raid_base.specs.declared.jobs.Task.{Task}
use Rattle.raid_base.specs.declared.jobs.Task.TheVariants as tasks
use Rattle.raid_base.specs.declared.jobs.RowPart.{RowPart}
use Rattle.raid_base.specs.Cells.{plain_cell, content_of}
use Rattle.raid_base.specs.Steps.{Commit, Steps, commits_next, next_errand, errand_of}
use Rattle.stripe_layout.specs.Placement.{parity_bay, bay_of}
use Rattle.attempts.specs.Taking.{Access, Finish}
use Rattle.attempts.specs.Puts.{block_at}
use Rattle.attempts.specs.Sound.{Cells, IsThis, IfPut, cell_on, IsSoundRow}
use Rattle.script_text.specs.Script.{Script}
use Rattle.script_text.specs.Ranges.{IsScript}
use Rattle.histories.specs.Calls.{row_of, IsDone, id_of}
use Rattle.histories.specs.History.{progress_at, IsHistory}
use Rattle.histories.specs.RowStates.{slot_at, cell_at}
use Rattle.row_laws.specs.Hands.{HasHand, calls_at, IsPutter}
use Rattle.row_laws.specs.Laws.{commits_of}
use Rattle.serial_laws.specs.Laws.{last_of, content_at}
use Rattle.row_laws.specs.Holding.{CameFrom, Owns}
use Rattle.serial_laws.specs.Contents.{cell_with, HoldsContents}
use Rattle.row_laws.proofs.commits.CommitTrees.{PutCommits, unit-put-commits}
use Rattle.serial_laws.proofs.contents.ContentBlocks.{block-long}
use Rattle.serial_laws.proofs.contents.ContentChanges.{of-itself, one-block}
use Rattle.serial_laws.proofs.contents.ContentFacts.{table-unit, table-sound}
use Rattle.serial_laws.proofs.contents.ContentPuts.{AccessOf, commits-are, may-put, put-settles, put-commits, mend-puts, put-mended}
use Rattle.serial_laws.proofs.contents.ContentPutters.{mends-row, parity-there}
use Rattle.serial_laws.proofs.contents.ContentShows.{AreShown, all-of-row}
use Rattle.serial_laws.proofs.contents.ContentSlots.{put-filled}
use Rattle.serial_laws.proofs.contents.ContentStates.{table, IsRebuild, MendKeeps, AreHandsShown, AllHold}
use Rattle.serial_laws.proofs.contents.ContentTrees.{MayPut, Writes, Rebuilds, Recovers}
use Rattle.row_laws.proofs.covered.CoveredPutsHands.{units-aside}
use Rattle.row_laws.proofs.owners.OwnedPuts.{putter, puts_are_of_owners}
use Rattle.row_laws.proofs.owners.RowOwnersHands.{Asker, asker}
use Rattle.serial_laws.proofs.reads.ShownHands.{mend-calls}
use Rattle.row_laws.proofs.hands.HandMoves.{id-is-own}
use Rattle.row_laws.proofs.hands.HandClaims.{kind_of}

-- a unit has its cell, of 64 bytes
pub record Good (script : Script) (history : List Call) (row : RowNo) (unit : ℕ) : Type 0 where
  pub holds : IsThis (cell_with unit (content_at script history row unit)) (cell_at script history row (bay_of script.n row unit))
  pub long : length (cell_with unit (content_at script history row unit)).bytes ≡ 64

pub good-of : (script : Script) (history : List Call) (row : RowNo) → HoldsContents script history row → (unit : ℕ) → unit + 1 < script.n → Good script history row unit
good-of script history row h unit inside = record { holds = h.units unit inside; long = one-block script.n (content_at script history row) unit inside h.blocks }

-- the content stays
pub content-stays : (script : Script) (earlier : List Call) (call : Call) (row : RowNo) (unit : ℕ) → commits_of script earlier call ≡ [] → content_at script (call ∷ earlier) row unit ≡ content_at script earlier row unit
content-stays script earlier call row unit none = ap (λ (commits : List Commit). last_of row unit commits (content_at script earlier row unit)) none

-- where the slot has this cell, which is that of the content
pub good-now : (script : Script) (history : List Call) (row : RowNo) (unit : ℕ) (cell : Cell) → cell_at script history row (bay_of script.n row unit) ≡ Some cell →
    cell ≡ cell_with unit (content_at script history row unit) → length (cell_with unit (content_at script history row unit)).bytes ≡ 64 → Good script history row unit
good-now script history row unit cell now same long = record { holds = subst (λ (o : Option Cell). IsThis (cell_with unit (content_at script history row unit)) o) (sym now) same; long = long }

module _ (script : Script) (is : IsScript script) (earlier : List Call) (call : Call) (along : IsHistory script (call ∷ earlier)) (hold : AllHold script earlier) (hands : AreHandsShown script earlier) (row : RowNo) (below : row.0 < script.rows) where
  -- What a rebuild puts
  module _ (at : BayNo) (id k : Number) (cell : Cell) (place : call.bay ≡ at) (what : call.ask.what ≡ Put row id k cell) (done : IsDone call)
      (steps : Steps Finish) (h : HasHand script earlier call.ask.host steps) (asked : next_errand steps ≡ Some (errand_of call)) (bay : BayNo) (mends : h.hand.task ≡ tasks.Rebuild bay) where
    abbrev MendCells : Cells
    MendCells = table script.n (content_at script earlier) (content_at script earlier)

    pub mend-commits : commits_of script earlier call ≡ []
    mend-commits = commits-are script is earlier call steps h asked done ∙ (mend-puts script is earlier call steps h asked bay mends).none

    pub mend-target : at ≡ bay
    mend-target = sym place ∙ (mend-puts script is earlier call steps h asked bay mends).target row id k cell what

    pub mend-kind : kind_of h.hand.task ≡ Seize → ⊥
    mend-kind seizes = let bad : kind_of (tasks.Rebuild bay) ≡ Seize = subst (λ (t : Task). kind_of t ≡ Seize) mends seizes in absurd (cc)

    mend-shown : MendKeeps script earlier call.ask.host steps h row → AreShown script.n (MendCells) (calls_at script earlier call.ask.host)
    mend-shown keeps =
        let here : row ≡ record { 0 = (progress_at script call.ask.host earlier).row } =
        mends-row script is earlier call along row below at id k cell place what done steps h asked bay mends in
        all-of-row script.n (MendCells) row (calls_at script earlier call.ask.host)
        (λ c i. (mend-calls script is earlier along.0 call.ask.host steps h bay mends c i).0 ∙ ap (λ (r : RowNo). Some r) (sym here))
        (hands.mends call.ask.host steps h row below (subst IsRebuild (sym mends) tt) keeps)

    pub mend-cell : MendKeeps script earlier call.ask.host steps h row → cell ≡ cell_on script.n (MendCells) at row
    mend-cell keeps =
        let here : row ≡ record { 0 = (progress_at script call.ask.host earlier).row } =
        mends-row script is earlier call along row below at id k cell place what done steps h asked bay mends in
        let sound : IsSoundRow script.n (MendCells) (record { 0 = (progress_at script call.ask.host earlier).row }) =
        subst (λ (r : RowNo). IsSoundRow script.n (MendCells) r) here (table-sound script.n (content_at script earlier) row (hold row below).blocks) in
        let within : (progress_at script call.ask.host earlier).row < script.rows = subst (λ (r : RowNo). r.0 < script.rows) here below in
        let puts = put-mended script is earlier call steps h asked bay mends (MendCells) within sound (mend-shown keeps) in
        subst (λ (b : BayNo). cell ≡ cell_on script.n (MendCells) b row) place
        (subst (λ (w : Request). IfPut (λ r c. c ≡ cell_on script.n (MendCells) call.bay r) w) what puts.cell)

  -- A put of a unit
  module _ (unit : ℕ) (inside : unit + 1 < script.n) (id k : Number) (cell : Cell) (place : call.bay ≡ bay_of script.n row unit) (what : call.ask.what ≡ Put row id k cell) (done : IsDone call) where
    abbrev U : BayNo
    U = bay_of script.n row unit

    now : cell_at script (call ∷ earlier) row (U) ≡ Some cell
    now = put-filled script is earlier call along.1 (U) row below id k cell place what done

    module _ (steps : Steps Finish) (h : HasHand script earlier call.ask.host steps) (asked : next_errand steps ≡ Some (errand_of call)) where
      by-write : (object : Name) (first from count : ℕ) → h.hand.task ≡ tasks.Write object first from count → Good script (call ∷ earlier) row unit
      by-write object first from count writes =
          let a : Access = AccessOf script is earlier call steps h asked object first from count writes in
          let puts = (put-settles script is earlier call steps h asked object first from count writes).data_put row id k cell unit what place inside in
          let part : RowPart = puts.0 in
          let same : cell ≡ plain_cell (block_at a part unit) = puts.3 in
          let commits : PutCommits script.n (U) (Put row id k cell) (commits_next steps) =
          subst (λ (w : Request). PutCommits script.n (U) w (commits_next steps)) what
          (subst (λ (b : BayNo). PutCommits script.n b call.ask.what (commits_next steps)) place (put-commits script is earlier call steps h asked object first from count writes)) in
          let one : commits_next steps ≡ record { row = row; unit = unit; content = content_of cell } ∷ [] =
          unit-put-commits script.n row unit id k cell (commits_next steps) is.devices_least inside commits in
          let content : content_at script (call ∷ earlier) row unit ≡ content_of cell =
          ap (λ (cs : List Commit). last_of row unit cs (content_at script earlier row unit)) (commits-are script is earlier call steps h asked done ∙ one)
          ∙ ap (λ (b : Bool). if b then content_of cell else content_at script earlier row unit) (of-itself row unit (record { row = row; unit = unit; content = content_of cell }) refl refl) in
          let block : content_at script (call ∷ earlier) row unit ≡ Bytes (block_at a part unit) = content ∙ ap (λ (c : Cell). content_of c) same in
          good-now script (call ∷ earlier) row unit cell (now) (same ∙ ap (λ (c : Content). cell_with unit c) (sym block))
          (ap (λ (c : Content). length (cell_with unit c).bytes) block ∙ block-long script is h.hand.id a.parts from count part unit)

      by-rebuild : (bay : BayNo) → h.hand.task ≡ tasks.Rebuild bay → Good script (call ∷ earlier) row unit
      by-rebuild bay mends =
          let kept : content_at script (call ∷ earlier) row unit ≡ content_at script earlier row unit =
          content-stays script earlier call row unit (mend-commits (U) id k cell place what done steps h asked bay mends) in
          let target : U ≡ bay = mend-target (U) id k cell place what done steps h asked bay mends in
          let aside : bay ≡ parity_bay script.n row → ⊥ = (λ same. units-aside script is row unit inside id (target ∙ same)) in
          let there : cell_at script earlier row (parity_bay script.n row) ≡ None → ⊥ = parity-there script is earlier call along row below (U) id k cell place what done steps h asked bay mends aside in
          let keeps : MendKeeps script earlier call.ask.host steps h row = (came there (puts_are_of_owners script earlier call is along row unit id below inside (place, k, cell, what) done), λ none. absurd (there none)) in
          let same : cell ≡ cell_with unit (content_at script earlier row unit) =
          mend-cell (U) id k cell place what done steps h asked bay mends keeps ∙ table-unit script.n is.devices_least (content_at script earlier) (content_at script earlier) row unit inside in
          good-now script (call ∷ earlier) row unit cell (now) (same ∙ ap (λ (c : Content). cell_with unit c) (sym kept))
          (ap (λ (c : Content). length (cell_with unit c).bytes) kept ∙ (good-of script earlier row (hold row below) unit inside).long)
        where
          came : (cell_at script earlier row (parity_bay script.n row) ≡ None → ⊥) → Owns script earlier row id → CameFrom h.hand.id (slot_at script earlier (parity_bay script.n row) row).note
          came there (inl none) = absurd (there none)
          came there (inr from) =
              subst (λ (x : Number). CameFrom x (slot_at script earlier (parity_bay script.n row) row).note)
              (id-is-own script is earlier call.ask.host steps h call asked id (ap (λ (w : Request). id_of w) what)) from

      by-task : MayPut h.hand.task → Good script (call ∷ earlier) row unit
      by-task (Writes object first from count writes) = by-write object first from count writes
      by-task (Rebuilds bay mends) = by-rebuild bay mends
      by-task (Recovers at recovers) =
          absurd (subst IsPutter recovers (putter script is earlier call along row unit below inside id k cell place what done steps h asked))

    pub unit-put-good : Good script (call ∷ earlier) row unit
    unit-put-good =
        let a : Asker script is earlier call = asker script is earlier call along.0 along.1 row (ap (λ (w : Request). row_of w) what) in
        by-task a.steps a.hand a.asked (may-put script is earlier call a.steps a.hand a.asked row id k cell what)
