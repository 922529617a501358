use Rattle.std.proofs.Common.{◌≡◌, [], ◌∷◌, ◌++◌, map, not, refl, ap}
use Rattle.std.specs.Prelude.{codes}
use Rattle.std.specs.List.{flat_map}
use Rattle.std.proofs.lemmas.List.Folds.{flat_map-map}
use Rattle.text_lines.specs.Lines.{line}
use Rattle.report_text.specs.Report.{job_lines, turn_lines, block_line, row_lines}
use Rattle.report_text.specs.Views.{contents_by_result, flags_of, object_blocks, shown_block, shown_line}
use Rattle.report_text.proofs.Appending.{appends-stops, appends-then, stops-before}
use Rattle.report_text.proofs.report.write_report.Goals as goal

pub returns-in_err-put_line : goal.returns-in_err-put_line
returns-in_err-put_line g c =
    let view = c.args.view.now in
    let script = view.script.now in
    let jobs = job_lines view.results.now (contents_by_result script view.results.now view.contents.now) (map (flags_of script) view.results.now) in
    let addresses = flat_map (object_blocks script.n) script.objects in
    let shown = shown_block script.n script.objects view.cells.now view.opened.now in
    let blocks = flat_map block_line (map (λ address. (address, shown address)) addresses) in
    let blocks_is : blocks ≡ flat_map (shown_line script.n script.objects view.cells.now view.opened.now) addresses = flat_map-map block_line (λ address. (address, shown address)) addresses in
    let turns = turn_lines view.turns.now in
    let rows = row_lines 0 (map not view.opened.now) in
    let end = line (codes "end" ∷ []) in
    appends-stops _ end (stops-before rows (stops-before blocks (stops-before turns (stops-before jobs (c.in_err-put_line.ensures))))) c.from_residual.ensures.0 refl

pub returns-in_err-put_jobs : goal.returns-in_err-put_jobs
returns-in_err-put_jobs g c =
    let view = c.args.view.now in
    let script = view.script.now in
    let jobs = job_lines view.results.now (contents_by_result script view.results.now view.contents.now) (map (flags_of script) view.results.now) in
    let addresses = flat_map (object_blocks script.n) script.objects in
    let shown = shown_block script.n script.objects view.cells.now view.opened.now in
    let blocks = flat_map block_line (map (λ address. (address, shown address)) addresses) in
    let blocks_is : blocks ≡ flat_map (shown_line script.n script.objects view.cells.now view.opened.now) addresses = flat_map-map block_line (λ address. (address, shown address)) addresses in
    let turns = turn_lines view.turns.now in
    let rows = row_lines 0 (map not view.opened.now) in
    let end = line (codes "end" ∷ []) in
    appends-stops _ end (stops-before rows (stops-before blocks (stops-before turns (appends-then {b = jobs} (c.in_ok-put_line.ensures) c.in_err-put_jobs.ensures refl)))) c.from_residual-in_err-put_jobs.ensures.0 refl

pub returns-in_err-put_turns : goal.returns-in_err-put_turns
returns-in_err-put_turns g c =
    let view = c.args.view.now in
    let script = view.script.now in
    let jobs = job_lines view.results.now (contents_by_result script view.results.now view.contents.now) (map (flags_of script) view.results.now) in
    let addresses = flat_map (object_blocks script.n) script.objects in
    let shown = shown_block script.n script.objects view.cells.now view.opened.now in
    let blocks = flat_map block_line (map (λ address. (address, shown address)) addresses) in
    let blocks_is : blocks ≡ flat_map (shown_line script.n script.objects view.cells.now view.opened.now) addresses = flat_map-map block_line (λ address. (address, shown address)) addresses in
    let turns = turn_lines view.turns.now in
    let rows = row_lines 0 (map not view.opened.now) in
    let end = line (codes "end" ∷ []) in
    appends-stops _ end (stops-before rows (stops-before blocks (appends-then {b = turns} (appends-then {b = jobs} (c.in_ok-put_line.ensures) c.in_ok-put_jobs.ensures refl) c.in_err-put_turns.ensures refl))) c.from_residual-in_err-put_turns.ensures.0 refl

pub returns-in_err-put_blocks : goal.returns-in_err-put_blocks
returns-in_err-put_blocks g c =
    let view = c.args.view.now in
    let script = view.script.now in
    let jobs = job_lines view.results.now (contents_by_result script view.results.now view.contents.now) (map (flags_of script) view.results.now) in
    let addresses = flat_map (object_blocks script.n) script.objects in
    let shown = shown_block script.n script.objects view.cells.now view.opened.now in
    let blocks = flat_map block_line (map (λ address. (address, shown address)) addresses) in
    let blocks_is : blocks ≡ flat_map (shown_line script.n script.objects view.cells.now view.opened.now) addresses = flat_map-map block_line (λ address. (address, shown address)) addresses in
    let turns = turn_lines view.turns.now in
    let rows = row_lines 0 (map not view.opened.now) in
    let end = line (codes "end" ∷ []) in
    appends-stops _ end (stops-before rows (appends-then (appends-then {b = turns} (appends-then {b = jobs} (c.in_ok-put_line.ensures) c.in_ok-put_jobs.ensures refl) c.in_ok-put_turns.ensures refl) c.in_err-put_blocks.ensures (ap (λ z. line (codes "report" ∷ codes "1" ∷ []) ++ jobs ++ turns ++ z) blocks_is))) c.from_residual-in_err-put_blocks.ensures.0 refl

pub returns-in_err-put_rows : goal.returns-in_err-put_rows
returns-in_err-put_rows g c =
    let view = c.args.view.now in
    let script = view.script.now in
    let jobs = job_lines view.results.now (contents_by_result script view.results.now view.contents.now) (map (flags_of script) view.results.now) in
    let addresses = flat_map (object_blocks script.n) script.objects in
    let shown = shown_block script.n script.objects view.cells.now view.opened.now in
    let blocks = flat_map block_line (map (λ address. (address, shown address)) addresses) in
    let blocks_is : blocks ≡ flat_map (shown_line script.n script.objects view.cells.now view.opened.now) addresses = flat_map-map block_line (λ address. (address, shown address)) addresses in
    let turns = turn_lines view.turns.now in
    let rows = row_lines 0 (map not view.opened.now) in
    let end = line (codes "end" ∷ []) in
    appends-stops _ end (appends-then {b = rows} (appends-then (appends-then {b = turns} (appends-then {b = jobs} (c.in_ok-put_line.ensures) c.in_ok-put_jobs.ensures refl) c.in_ok-put_turns.ensures refl) c.in_ok-put_blocks.ensures (ap (λ z. line (codes "report" ∷ codes "1" ∷ []) ++ jobs ++ turns ++ z) blocks_is)) c.in_err-put_rows.ensures refl) c.from_residual-in_err-put_rows.ensures.0 refl

pub returns : goal.returns
returns g c =
    let view = c.args.view.now in
    let script = view.script.now in
    let jobs = job_lines view.results.now (contents_by_result script view.results.now view.contents.now) (map (flags_of script) view.results.now) in
    let addresses = flat_map (object_blocks script.n) script.objects in
    let shown = shown_block script.n script.objects view.cells.now view.opened.now in
    let blocks = flat_map block_line (map (λ address. (address, shown address)) addresses) in
    let blocks_is : blocks ≡ flat_map (shown_line script.n script.objects view.cells.now view.opened.now) addresses = flat_map-map block_line (λ address. (address, shown address)) addresses in
    let turns = turn_lines view.turns.now in
    let rows = row_lines 0 (map not view.opened.now) in
    let end = line (codes "end" ∷ []) in
    appends-then (appends-then {b = rows} (appends-then (appends-then {b = turns} (appends-then {b = jobs} (c.in_ok-put_line.ensures) c.in_ok-put_jobs.ensures refl) c.in_ok-put_turns.ensures refl) c.in_ok-put_blocks.ensures (ap (λ z. line (codes "report" ∷ codes "1" ∷ []) ++ jobs ++ turns ++ z) blocks_is)) c.in_ok-put_rows.ensures refl) c.put_line-2.ensures refl
