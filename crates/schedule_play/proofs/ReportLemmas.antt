-- What is written of what was gathered is the report of the history.
use Rattle.std.proofs.Common.{◌≡◌, ℕ, not, Bool, List, map, Option, Some, None, refl, ap, ◌∙◌}
use Rattle.std.specs.Prelude.{flat_map}
use Rattle.raid_base.specs.declared.numbers.RowNo.{RowNo}
use Rattle.raid_base.specs.declared.cells.Content.{Content}
use Rattle.raid_base.specs.declared.cells.Shown.{Shown}
use Rattle.raid_base.specs.declared.messages.Call.{Call}
use Rattle.virtual_objects.specs.Objects.{Address, place}
use Rattle.virtual_objects.proofs.PlaceLemmas.{are_places}
use Rattle.script_text.specs.Script.{Script}
use Rattle.script_text.specs.Ranges.{IsScript, table_of}
use Rattle.histories.specs.History.{turns_of}
use Rattle.report_text.specs.Report.{ReportOf}
use Rattle.report_text.specs.Views.{object_blocks, flags_of, contents_by_result, report_in, shown_block as shown_in_view, shown_place as place_in_view}
use Rattle.schedule_play.specs.Rows.{cells_after, opened_after}
use Rattle.histories.specs.Results.{results, contents, shown_block, shown_place}
use Rattle.schedule_play.specs.Reported.{report_of}
use Rattle.schedule_play.proofs.RowLemmas.{map-same, shown-after, closed-after}

-- what is shown of a block
block-shown : (script : Script) (history : List Call) → IsScript script → (address : Address) →
    shown_in_view script.n script.objects (cells_after script history) (opened_after script history) address ≡ shown_block script history address
block-shown script history is address = go (place script.n script.objects address) refl
  where
    go : (o : Option (RowNo × ℕ)) → place script.n script.objects address ≡ o → place_in_view script.n (cells_after script history) (opened_after script history) o ≡ shown_place script history o
    go None e = refl
    go (Some (row, unit)) e =
        shown-after script history row unit is.devices_least
        (is.objects.rows_below row.0 ((are_places (table_of script) is.objects).row_held address row unit e))

pub report-is : (script : Script) (history : List Call) → IsScript script →
    contents_by_result script (results script history) (flat_map (λ (read : List Content). read) (contents script history)) ≡ contents script history →
    report_in script (results script history) (flat_map (λ (read : List Content). read) (contents script history)) (turns_of history) (cells_after script history) (opened_after script history) ≡ report_of script history
report-is script history is read =
    let told : List (List Content) → List (Address × Shown) → List Bool → ReportOf =
    λ a b c. record {
      results = results script history;
      contents = a;
      flags = map (flags_of script) (results script history);
      turns = turns_of history;
      blocks = b;
      closed = c;
    } in
    let addresses = flat_map (object_blocks script.n) script.objects in
    let view : Address → Address × Shown = λ a. (a, shown_in_view script.n script.objects (cells_after script history) (opened_after script history) a) in
    let play : Address → Address × Shown = λ a. (a, shown_block script history a) in
    ap (λ (a : List (List Content)). told a (map view addresses) (map not (opened_after script history))) read
    ∙ ap (λ (b : List (Address × Shown)). told (contents script history) b (map not (opened_after script history)))
    (map-same view play addresses (λ a. ap (λ (shown : Shown). (a, shown)) (block-shown script history is a)))
    ∙ ap (λ (c : List Bool). told (contents script history) (map play addresses) c) (closed-after script history)
