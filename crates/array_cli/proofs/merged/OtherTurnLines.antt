-- A script with other turn lines: what is a history of the one is one of the other, with the same report.
use Rattle.std.proofs.Common.{◌≡◌, ◌∙◌, ℕ, ◌*◌, ◌^◌, ◌<◌, Bool, not, List, [], ◌∷◌, ◌++◌, ◌||◌, map, Option, Some, None, is_some, refl, sym, ap, subst, arith, sum_by}
use Rattle.std.specs.Prelude.{flat_map}
use Rattle.std.specs.List.{All, Contains, list_any, range_with_len, enumerate_from}
use Rattle.std.proofs.lemmas.List.Elements.{All-nil, All-cons, All-head, All-tail}
use Rattle.std.proofs.lemmas.List.Sums.{sum_by-cons}
use Rattle.raid_base.specs.declared.numbers.BayNo.{BayNo}
use Rattle.raid_base.specs.declared.numbers.HostNo.{HostNo}
use Rattle.raid_base.specs.declared.numbers.RowNo.{RowNo}
use Rattle.raid_base.specs.declared.cells.Cell.{Cell}
use Rattle.raid_base.specs.declared.cells.Content.{Content}
use Rattle.raid_base.specs.declared.cells.Shown.{Shown}
use Rattle.raid_base.specs.declared.jobs.Job.{Job}
use Rattle.raid_base.specs.declared.jobs.JobResult.{JobResult}
use Rattle.raid_base.specs.declared.jobs.Task.{Task}
use Rattle.raid_base.specs.declared.jobs.Task.TheVariants as tasks
use Rattle.raid_base.specs.declared.messages.Call.{Call}
use Rattle.raid_base.specs.declared.messages.Turn.{Turn}
use Rattle.stripe_layout.specs.Placement.{bay, parity_bay, bay_of, units, row_bays}
use Rattle.degraded_plans.specs.Rows.{RowCells, shown}
use Rattle.slot_rules.specs.Slots.{Bay, slot_of}
use Rattle.virtual_objects.specs.Objects.{Address, place}
use Rattle.script_text.specs.Script.{Script, HostJobs, host_numbers}
use Rattle.script_text.specs.Ranges.{IsScript, IsJob, IsTask}
use Rattle.script_text.specs.Weights.{weight, weights, total}
use Rattle.report_text.specs.Report.{ReportOf}
use Rattle.report_text.specs.Views.{flags_of, object_blocks}
use Rattle.histories.specs.Progress.{Progress, Ending}
use Rattle.histories.specs.History.{bay_at, turns_of, endings_at}
use Rattle.histories.specs.RowStates.{cell_at, row_cells, is_open}
use Rattle.histories.specs.Results.{result_of, host_results, results, contents, shown_place, shown_block}
use Rattle.histories.specs.Simulated.{with_turns, AreTheSame}
use Rattle.histories.specs.Stored.{HoldsCell, StoresHold}
use Rattle.histories.proofs.plays.OtherTurns.{turn_lines_are_free}
use Rattle.schedule_play.specs.Reported.{report_of}

-- what is the same of each is so of all
map-each : {X A : Type 0} (f g : X → A) → ((x : X) → f x ≡ g x) → (xs : List X) → map f xs ≡ map g xs
map-each f g same [] = refl
map-each {X} {A} f g same (x ∷ xs) = ap (λ (y : A). y ∷ map f xs) (same x) ∙ ap (λ (ys : List A). g x ∷ ys) (map-each f g same xs)

flat_map-each : {X A : Type 0} (f g : X → List A) → ((x : X) → f x ≡ g x) → (xs : List X) → flat_map f xs ≡ flat_map g xs
flat_map-each f g same [] = refl
flat_map-each {X} {A} f g same (x ∷ xs) = ap (λ (first : List A). first ++ flat_map f xs) (same x) ∙ ap (λ (rest : List A). g x ++ rest) (flat_map-each f g same xs)

list_any-each : {X : Type 0} (p q : X → Bool) → ((x : X) → p x ≡ q x) → (xs : List X) → list_any p xs ≡ list_any q xs
list_any-each p q same [] = refl
list_any-each p q same (x ∷ xs) = ap (λ (b : Bool). b || list_any p xs) (same x) ∙ ap (λ (b : Bool). q x || b) (list_any-each p q same xs)

module _ (script : Script) (turns : List Turn) where
  abbrev pub Other : Script
  Other = with_turns script turns

  -- its ranges
  task-range : (host : HostNo) (task : Task) → IsTask script host task → IsTask Other host task
  task-range host (tasks.Read object first count) is = is
  task-range host (tasks.Write object first from count) is = is
  task-range host (tasks.Recover row) is = is
  task-range host (tasks.Lose bay) is = is
  task-range host (tasks.Fit bay) is = is
  task-range host (tasks.Rebuild bay) is = is

  jobs-range : (host : HostNo) (jobs : List Job) → All (IsJob script host) jobs → All (IsJob Other host) jobs
  jobs-range host [] all = All-nil (IsJob Other host)
  jobs-range host (job ∷ jobs) all =
      let first = All-head (IsJob script host) job jobs all in
      All-cons (IsJob Other host) job jobs (record { task = task-range host job.task first.task; quit = first.quit }) (jobs-range host jobs (All-tail (IsJob script host) job jobs all))

  hosts-range : (hosts : List HostJobs) → All (λ (host : HostJobs). All (IsJob script host.host) host.jobs) hosts → All (λ (host : HostJobs). All (IsJob Other host.host) host.jobs) hosts
  hosts-range [] all = All-nil (λ (host : HostJobs). All (IsJob Other host.host) host.jobs)
  hosts-range (host ∷ hosts) all =
      All-cons (λ (h : HostJobs). All (IsJob Other h.host) h.jobs) host hosts
      (jobs-range host.host host.jobs (All-head (λ (h : HostJobs). All (IsJob script h.host) h.jobs) host hosts all))
      (hosts-range hosts (All-tail (λ (h : HostJobs). All (IsJob script h.host) h.jobs) host hosts all))

  pub other-script : IsScript script → All (λ (turn : Turn). Contains (host_numbers script) turn.host × (turn.moment < 2 ^ 40)) turns → IsScript Other
  other-script is lines = record {
    devices_least = is.devices_least;
    devices_most = is.devices_most;
    rows_least = is.rows_least;
    rows_most = is.rows_most;
    patience = is.patience;
    tries_least = is.tries_least;
    tries_most = is.tries_most;
    objects = is.objects;
    names = is.names;
    hosts = is.hosts;
    jobs = hosts-range script.hosts is.jobs;
    blocks = is.blocks;
    blocks_whose = is.blocks_whose;
    blocks_all = is.blocks_all;
    turns = lines;
  }

  -- its weight
  weight-same : (task : Task) → weight Other task ≡ weight script task
  weight-same (tasks.Read object first count) = refl
  weight-same (tasks.Write object first from count) = refl
  weight-same (tasks.Recover row) = refl
  weight-same (tasks.Lose bay) = refl
  weight-same (tasks.Fit bay) = refl
  weight-same (tasks.Rebuild bay) = refl

  weights-same : (jobs : List Job) → weights Other jobs ≡ weights script jobs
  weights-same [] = refl
  weights-same (job ∷ jobs) =
      omega (
        arith,
        sum_by-cons (λ (j : Job). weight Other j.task) job jobs,
        sum_by-cons (λ (j : Job). weight script j.task) job jobs,
        weight-same job.task,
        weights-same jobs,
      )

  hosts-same : (hosts : List HostJobs) → sum_by (λ (host : HostJobs). weights Other host.jobs) hosts ≡ sum_by (λ (host : HostJobs). weights script host.jobs) hosts
  hosts-same [] = refl
  hosts-same (host ∷ hosts) =
      omega (
        arith,
        sum_by-cons (λ (h : HostJobs). weights Other h.jobs) host hosts,
        sum_by-cons (λ (h : HostJobs). weights script h.jobs) host hosts,
        weights-same host.jobs,
        hosts-same hosts,
      )

  pub total-same : total Other ≡ total script
  total-same = ap (λ (k : ℕ). script.n * k) (hosts-same script.hosts)

  module _ (history : List Call) where
    same : AreTheSame script Other history
    same = turn_lines_are_free script turns history

    endings-same : (host : HostNo) → endings_at Other history host ≡ endings_at script history host
    endings-same host = ap (λ (p : Progress). p.endings) (same.progress host)

    -- its report
    pub results-same : results Other history ≡ results script history
    results-same = flat_map-each (host_results Other history) (host_results script history)
        (λ host. ap (λ (endings : List Ending). map (result_of host) (enumerate_from 0 endings)) (endings-same host)) (host_numbers script)

    contents-same : contents Other history ≡ contents script history
    contents-same = ap (λ (endings : List Ending). map (λ (e : Ending). e.contents) endings)
        (flat_map-each (endings_at Other history) (endings_at script history) endings-same (host_numbers script))

    cell-same : (row : RowNo) (at : BayNo) → cell_at Other history row at ≡ cell_at script history row at
    cell-same row at = ap (λ (b : Bay). (slot_of b row).cell) (same.bays at)

    open-same : (row : RowNo) → is_open Other history row ≡ is_open script history row
    open-same row = list_any-each (λ at. is_some (slot_of (bay_at Other at history) row).note) (λ at. is_some (slot_of (bay_at script at history) row).note)
        (λ at. ap (λ (b : Bay). is_some (slot_of b row).note) (same.bays at)) (row_bays script.n row)

    cells-same : (row : RowNo) → row_cells Other history row ≡ row_cells script history row
    cells-same row =
        ap (λ (c : Option Cell). record { parity = c; units = map (λ unit. cell_at Other history row (bay_of script.n row unit)) (units script.n) }) (cell-same row (parity_bay script.n row))
        ∙ ap (λ (cs : List (Option Cell)). record { parity = cell_at script history row (parity_bay script.n row); units = cs })
        (map-each (λ unit. cell_at Other history row (bay_of script.n row unit)) (λ unit. cell_at script history row (bay_of script.n row unit))
        (λ unit. cell-same row (bay_of script.n row unit)) (units script.n))

    shown-same : (o : Option (RowNo × ℕ)) → shown_place Other history o ≡ shown_place script history o
    shown-same None = refl
    shown-same (Some (row, unit)) =
        ap (λ (b : Bool). shown b (row_cells Other history row) unit) (open-same row) ∙ ap (λ (cells : RowCells). shown (is_open script history row) cells unit) (cells-same row)

    pub report-same : report_of Other history ≡ report_of script history
    report-same =
        let told : List JobResult → List (List Content) → List (Address × Shown) → List Bool → ReportOf =
        λ a b c d. record { results = a; contents = b; flags = map (flags_of script) a; turns = turns_of history; blocks = c; closed = d } in
        let addresses : List Address = flat_map (object_blocks script.n) script.objects in
        let blocks : Script → List (Address × Shown) = λ s. map (λ (address : Address). (address, shown_block s history address)) addresses in
        let closed : Script → List Bool = λ s. map (λ (row : ℕ). not (is_open s history (record { 0 = row }))) (range_with_len 0 script.rows) in
        ap (λ (a : List JobResult). told a (contents Other history) (blocks Other) (closed Other)) results-same
        ∙ ap (λ (b : List (List Content)). told (results script history) b (blocks Other) (closed Other)) contents-same
        ∙ ap (λ (c : List (Address × Shown)). told (results script history) (contents script history) c (closed Other))
        (map-each (λ (address : Address). (address, shown_block Other history address)) (λ (address : Address). (address, shown_block script history address))
        (λ address. ap (λ (s : Shown). (address, s)) (shown-same (place script.n script.objects address))) addresses)
        ∙ ap (λ (d : List Bool). told (results script history) (contents script history) (blocks script) d)
        (map-each (λ (row : ℕ). not (is_open Other history (record { 0 = row }))) (λ (row : ℕ). not (is_open script history (record { 0 = row })))
        (λ row. ap not (open-same (record { 0 = row }))) (range_with_len 0 script.rows))

    -- and what its stores hold
    pub stores-same : (stores : List (List (List ℕ))) → StoresHold script history stores → StoresHold Other history stores
    stores-same stores hold k store below is row inside = subst (λ (c : Option Cell). HoldsCell store row c) (sym (cell-same (record { 0 = row }) (bay k))) (hold k store below is row inside)
