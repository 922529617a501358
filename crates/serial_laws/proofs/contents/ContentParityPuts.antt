-- A put of a parity that is done leaves the parity of the contents that the row then has, and each unit that it gives a content has
-- no cell: puts of rebuilds and of recoveries.
use Rattle.std.proofs.Common.{◌≡◌, refl, sym, ap, subst, ◌∙◌, ℕ, ◌+◌, ◌<◌, List, [], ◌∷◌, length, Option, Some, None}
use Rattle.std.specs.List.{AllByRecursion}
use Rattle.raid_base.specs.declared.numbers.BayNo.{BayNo}
use Rattle.raid_base.specs.declared.numbers.RowNo.{RowNo}
use Rattle.raid_base.specs.declared.numbers.Number.{Number}
use Rattle.raid_base.specs.declared.cells.Cell.{Cell}
use Rattle.raid_base.specs.declared.cells.Content.{Content}
use Rattle.raid_base.specs.declared.cells.Content.TheVariants.{Lost}
use Rattle.raid_base.specs.declared.messages.Call.{Call}
use Rattle.raid_base.specs.declared.messages.Request.{Request}
use Rattle.raid_base.specs.declared.messages.Request.TheVariants.{Put}
use Rattle.raid_base.specs.declared.jobs.Task.TheVariants as tasks
use Rattle.raid_base.specs.Steps.{Commit, Steps, commits_next, next_errand, errand_of}
use Rattle.raid_xor.specs.Laws.{AreBlocks}
use Rattle.stripe_layout.specs.Placement.{parity_bay, bay_of}
use Rattle.raid_xor.specs.Parities.{parity_of}
use Rattle.degraded_plans.specs.Rows.{IsSound}
use Rattle.degraded_plans.proofs.SoundRows.{parity_blocks}
use Rattle.attempts.specs.Taking.{Finish}
use Rattle.attempts.specs.Sound.{Cells, IsThis, IfPut, lost_units, IsDataRow}
use Rattle.script_text.specs.Script.{Script}
use Rattle.script_text.specs.Ranges.{IsScript}
use Rattle.histories.specs.Calls.{Happened, IsClaim, IsDone}
use Rattle.histories.specs.Torn.{IsMissing}
use Rattle.histories.specs.History.{IsHistory}
use Rattle.histories.specs.RowStates.{cell_at}
use Rattle.row_laws.specs.Hands.{HasHand, calls_at, IsRecoveryOf}
use Rattle.row_laws.specs.Laws.{commits_of}
use Rattle.serial_laws.specs.Laws.{content_at}
use Rattle.serial_laws.specs.Contents.{base_at, cell_with, cells_with}
use Rattle.serial_laws.proofs.contents.ContentChanges.{AreSo, LastOf, Stays, Takes, last-of, lost-after, all-blocks}
use Rattle.serial_laws.proofs.contents.ContentFacts.{cells-same, cells-count, cells-data, table-parity, sound-parity}
use Rattle.serial_laws.proofs.contents.ContentPuts.{commits-are, put-recovered, put-block}
use Rattle.serial_laws.proofs.contents.ContentPutters.{own-noted, own-origin, mends-keep}
use Rattle.serial_laws.proofs.contents.ContentShows.{AreShown, all-of-row}
use Rattle.serial_laws.proofs.contents.ContentSlots.{CellTurn, Same, Bare, Filled, cell-turned}
use Rattle.serial_laws.proofs.contents.ContentStates.{table, MendKeeps, IsRecoveryShown, AreHandsShown, AllHold}
use Rattle.serial_laws.proofs.contents.ContentUnitPuts.{Good, good-of, content-stays, mend-commits, mend-kind, mend-cell}
use Rattle.row_laws.proofs.covered.CoveredPutsHands.{units-aside}
use Rattle.row_laws.proofs.owners.RowOwnersTasks.{recovery-asks}
use Rattle.serial_laws.proofs.contents.RecoveryCommits.{CommitsMissing}
use Rattle.serial_laws.proofs.reads.ShownHands.{recovery-calls, recovery-commits}
use Rattle.serial_laws.proofs.contents.CommittingTrees.{next-committing}
use Rattle.attempts.proofs.OnceClaims.{claims_are_of_their_kind}

-- what is put is the parity of the contents that the row then has, and each unit has its cell
pub record ParityGood (script : Script) (history : List Call) (row : RowNo) (cell : Cell) : Type 0 where
  pub units : (unit : ℕ) → unit + 1 < script.n → Good script history row unit
  pub sums : cell ≡ parity_of (cells_with script.n (content_at script history row))

module _ (script : Script) (is : IsScript script) (earlier : List Call) (call : Call) (along : IsHistory script (call ∷ earlier)) (hold : AllHold script earlier) (row : RowNo) (below : row.0 < script.rows)
    (place : call.bay ≡ parity_bay script.n row) where
  abbrev P : BayNo
  P = parity_bay script.n row

  -- a unit that has no cell gets none
  pub unit-bare : (unit : ℕ) → unit + 1 < script.n → cell_at script earlier row (bay_of script.n row unit) ≡ None → cell_at script (call ∷ earlier) row (bay_of script.n row unit) ≡ None
  unit-bare unit inside none = by (cell-turned script is earlier call along.1 (bay_of script.n row unit) row below)
    where
      by : CellTurn (cell_at script earlier row (bay_of script.n row unit)) (bay_of script.n row unit) row call (cell_at script (call ∷ earlier) row (bay_of script.n row unit)) →
          cell_at script (call ∷ earlier) row (bay_of script.n row unit) ≡ None
      by (Same now) = now ∙ none
      by (Bare now) = now
      by (Filled at id k cell what done now) = absurd (units-aside script is row unit inside id (sym at ∙ place))

  -- and one whose content stays is as good as before
  pub unit-kept : (unit : ℕ) → unit + 1 < script.n → content_at script (call ∷ earlier) row unit ≡ content_at script earlier row unit → Good script (call ∷ earlier) row unit
  unit-kept unit inside kept = by (cell-turned script is earlier call along.1 (bay_of script.n row unit) row below)
    where
      before : Good script earlier row unit
      before = good-of script earlier row (hold row below) unit inside

      long : length (cell_with unit (content_at script (call ∷ earlier) row unit)).bytes ≡ 64
      long = ap (λ (c : Content). length (cell_with unit c).bytes) kept ∙ (before).long

      by : CellTurn (cell_at script earlier row (bay_of script.n row unit)) (bay_of script.n row unit) row call (cell_at script (call ∷ earlier) row (bay_of script.n row unit)) → Good script (call ∷ earlier) row unit
      by (Same now) = record {
        holds = subst (λ (o : Option Cell). IsThis (cell_with unit (content_at script (call ∷ earlier) row unit)) o) (sym now)
            (subst (λ (c : Content). IsThis (cell_with unit c) (cell_at script earlier row (bay_of script.n row unit))) (sym kept) (before).holds);
        long = long;
      }
      by (Bare now) = record { holds = subst (λ (o : Option Cell). IsThis (cell_with unit (content_at script (call ∷ earlier) row unit)) o) (sym now) tt; long = long }
      by (Filled at id k cell what done now) = absurd (units-aside script is row unit inside id (sym at ∙ place))

  -- Commits that give units that have no cell the contents f
  module _ (f : ℕ → Content) (R : ℕ → Type 0) (none : (unit : ℕ) → unit + 1 < script.n → R unit → cell_at script earlier row (bay_of script.n row unit) ≡ None)
      (long : (unit : ℕ) → unit + 1 < script.n → length (cell_with unit (f unit)).bytes ≡ 64) (so : AreSo row f R (commits_of script earlier call)) where
    pub units-good : (unit : ℕ) → unit + 1 < script.n → Good script (call ∷ earlier) row unit
    units-good unit inside = by (last-of row f R unit (commits_of script earlier call) (content_at script earlier row unit) so)
      where
        by : LastOf row f R unit (commits_of script earlier call) (content_at script earlier row unit) → Good script (call ∷ earlier) row unit
        by (Stays other same) = unit-kept unit inside same
        by (Takes now is_so) = record {
          holds = subst (λ (o : Option Cell). IsThis (cell_with unit (content_at script (call ∷ earlier) row unit)) o) (sym (unit-bare unit inside (none unit inside is_so))) tt;
          long = ap (λ (c : Content). length (cell_with unit c).bytes) now ∙ long unit inside;
        }

  module _ (hands : AreHandsShown script earlier) (id k : Number) (cell : Cell) (what : call.ask.what ≡ Put row id k cell) (done : IsDone call)
      (steps : Steps Finish) (h : HasHand script earlier call.ask.host steps) (asked : next_errand steps ≡ Some (errand_of call)) where
    abbrev Calls : List Call
    Calls = calls_at script earlier call.ask.host

    -- A rebuild
    pub parity-mended : (bay : BayNo) → h.hand.task ≡ tasks.Rebuild bay → ParityGood script (call ∷ earlier) row cell
    parity-mended bay mends =
        let none : commits_of script earlier call ≡ [] = mend-commits script is earlier call along hold hands row below (P) id k cell place what done steps h asked bay mends in
        let plain = mend-kind script is earlier call along hold hands row below (P) id k cell place what done steps h asked bay mends in
        let keeps : MendKeeps script earlier call.ask.host steps h row = (
          own-origin script is earlier call along row below (P) id k cell place what done steps h asked plain,
          λ bare. (
            own-noted script is earlier call along row below (P) id k cell place what done steps h asked,
            mends-keep script is earlier call along row below (P) id k cell place what done steps h asked bay mends,
          ),
        ) in
        record {
          units = λ unit inside. unit-kept unit inside (content-stays script earlier call row unit none);
          sums =
              mend-cell script is earlier call along hold hands row below (P) id k cell place what done steps h asked bay mends keeps
              ∙ table-parity script.n is.devices_least (content_at script earlier) (content_at script earlier) row
              ∙ ap parity_of (cells-same script.n (content_at script earlier row) (content_at script (call ∷ earlier) row) (λ unit inside. sym (content-stays script earlier call row unit none)));
        }

    -- A recovery
    module _ (at : RowNo) (recovers : h.hand.task ≡ tasks.Recover at) where
      pub here : row ≡ at
      here = ((recovery-asks claims_are_of_their_kind script is earlier along.0 call.ask.host steps h (errand_of call) asked at recovers).puts row id k cell what).0

      abbrev Mixed : Cells
      Mixed = table script.n (base_at script earlier) (content_at script earlier)

      pub shown : IsRecoveryShown script earlier call.ask.host row
      shown =
          hands.recoveries call.ask.host steps h row below (subst (IsRecoveryOf row) (sym recovers) (sym here))
          (own-noted script is earlier call along row below (P) id k cell place what done steps h asked)

      all-shown : AreShown script.n (Mixed) Calls
      all-shown =
          all-of-row script.n (Mixed) row Calls (λ c i. (recovery-calls script is earlier along.0 call.ask.host steps h at recovers c i).0 ∙ ap (λ (r : RowNo). Some r) (sym here)) (shown).shown

      data_row : IsDataRow script.n (Mixed) row
      data_row = record { count = cells-count script.n (content_at script earlier row); blocks = (hold row below).blocks; data_cells = cells-data script.n (content_at script earlier row) }

      commits_lost : CommitsMissing (record { n = script.n; host = call.ask.host; id = h.hand.id; row = at }) Calls (errand_of call) (commits_next steps)
      commits_lost =
          next-committing (CommitsMissing (record { n = script.n; host = call.ask.host; id = h.hand.id; row = at })) Calls steps (errand_of call)
          (recovery-commits script is earlier along.0 call.ask.host steps h at recovers) asked

      abbrev WasMissing : ℕ → Type 0
      WasMissing unit = Happened (λ c. IsClaim (bay_of script.n row unit) row c × IsMissing c) Calls

      each-lost : (commits : List Commit) → CommitsMissing (record { n = script.n; host = call.ask.host; id = h.hand.id; row = at }) Calls (errand_of call) commits → AreSo row (λ unit. Lost) WasMissing commits
      each-lost [] so = tt
      each-lost (c ∷ commits) so = (
        (so.0.0 ∙ sym here, so.0.2, subst (λ (r : RowNo). Happened (λ x. IsClaim (bay_of script.n r c.unit) r x × IsMissing x) Calls) (sym here) so.0.3),
        each-lost commits so.1,
      )

      lost-only : (commits : List Commit) → AreSo row (λ unit. Lost) WasMissing commits → AllByRecursion (λ (c : Commit). (c.row ≡ row) × (c.content ≡ Lost)) commits
      lost-only [] so = tt
      lost-only (c ∷ commits) so = ((so.0.0, so.0.1), lost-only commits so.1)

      committed : commits_of script earlier call ≡ commits_next steps
      committed = commits-are script is earlier call steps h asked done

      pub all-lost : AreSo row (λ unit. Lost) WasMissing (commits_of script earlier call)
      all-lost = subst (λ (cs : List Commit). AreSo row (λ unit. Lost) WasMissing cs) (sym committed) (each-lost (commits_next steps) commits_lost)

      good : (unit : ℕ) → unit + 1 < script.n → Good script (call ∷ earlier) row unit
      good = units-good (λ unit. Lost) WasMissing (λ unit inside missing. (shown).missing unit inside missing) (λ unit inside. refl) all-lost

      abbrev Sums : Request → Type 0
      Sums w = IfPut (λ r c. (call.bay ≡ parity_bay script.n r) × IsSound c (lost_units ((Mixed).units r) (commits_next steps))) w

      sound : IsSound cell (lost_units (cells_with script.n (content_at script earlier row)) (commits_next steps))
      sound =
          (subst Sums what
          (put-recovered script is earlier call steps h asked at recovers (Mixed) (subst (λ (r : RowNo). IsDataRow script.n (Mixed) r) here data_row) all-shown).cell).1

      block : length cell.bytes ≡ 64
      block =
          let base = parity_blocks (cells_with script.n (base_at script earlier row)) (hold row below).base_blocks in
          let all : AreBlocks ((Mixed).parity row ∷ (Mixed).units row) = (base.0, (hold row below).blocks) in
          subst (λ (w : Request). IfPut (λ r c. length c.bytes ≡ 64) w) what
          (put-block script is earlier call steps h asked at recovers (Mixed) (subst (λ (r : RowNo). AreBlocks ((Mixed).parity r ∷ (Mixed).units r)) here all) all-shown)

      pub parity-recovered : ParityGood script (call ∷ earlier) row cell
      parity-recovered =
          let later : List Cell = cells_with script.n (content_at script (call ∷ earlier) row) in
          let same : lost_units (cells_with script.n (content_at script earlier row)) (commits_next steps) ≡ later =
          ap (λ (cs : List Commit). lost_units (cells_with script.n (content_at script earlier row)) cs) (sym committed)
          ∙ lost-after script.n row (commits_of script earlier call) (content_at script earlier row) (lost-only (commits_of script earlier call) all-lost) in
          let blocks : AreBlocks later = all-blocks script.n (content_at script (call ∷ earlier) row) (λ unit inside. (good unit inside).long) in
          record {
            units = good;
            sums = sound-parity cell later (block, blocks) (cells-data script.n (content_at script (call ∷ earlier) row)) (subst (λ (cs : List Cell). IsSound cell cs) same sound);
          }
