use Rattle.std.proofs.Common.{◌≡◌, ℕ, Err, true, ltb, arith, ap, length, map, subst, sym, ◌∙◌}
use Rattle.std.specs.List.{list_all}
use Rattle.script_text.specs.Forms.{value, words}
use Rattle.script_text.specs.Script.{Script}
use Rattle.script_text.proofs.LineSteps.{rows-some, rows-below, object-added, object-used}
use Rattle.script_text.proofs.lines.add_object.Goals as goal

pub add-requires-clause-rows_some : goal.add-requires-clause-rows_some
add-requires-clause-rows_some c = rows-some c.args.rows.now c.as_slice-2.result.now (c.as_slice-2.ensures.value ∙ (rw c.in-Ok-Some.field-0-is at c.in-Ok-Some.ensures.some).0)

pub add-requires-clause-rows_below : goal.add-requires-clause-rows_below
add-requires-clause-rows_below c =
    rows-below (map value (words c.args.rows.now)) c.as_slice-2.result.now c.script.inside.rows c.script.inside.objects.rows (c.as_slice-2.ensures.value ∙ (rw c.in-Ok-Some.field-0-is at c.in-Ok-Some.ensures.some).0) (rw c.in-Ok-Some.field-0-is at c.in-Ok-Some.ensures.some).1 c.script.invariant.1

pub returns-in-Ok : goal.returns-in-Ok
returns-in-Ok c =
    object-added c.args.script.now _ c.args.name (map value (words c.args.rows.now)) c.as_slice-2.result.now c.script.inside.objects c.add.new.self c.add.result
    c.script.view_is (ap (λ (s : Script). s.objects) c.script.view_is) (omega (arith, ap length c.as_slice.ensures.value, c.as_slice.ensures.objects.few, c.if-as_slice-eq-MAX_OBJECTS.false, ap (λ (s : Script). length s.objects) c.script.view_is))
    (c.as_slice-2.ensures.value ∙ (rw c.in-Ok-Some.field-0-is at c.in-Ok-Some.ensures.some).0) (subst (λ (s : Script). list_all (λ (row : ℕ). ltb row s.rows) (map value (words c.args.rows.now)) ≡ true) c.script.view_is (rw c.in-Ok-Some.field-0-is at c.in-Ok-Some.ensures.some).1)
    c.add.ensures.name_used c.add.ensures.row_used c.in-Ok.is c.in-Ok.ensures.added

pub returns-in-Err-RowUsed : goal.returns-in-Err-RowUsed
returns-in-Err-RowUsed c =
    object-used c.args.script.now c.args.name (map value (words c.args.rows.now)) c.as_slice-2.result.now c.script.inside.objects c.add.result c.in-Err-RowUsed.field-0-0
    (ap (λ (s : Script). s.objects) c.script.view_is) (omega (arith, ap length c.as_slice.ensures.value, c.as_slice.ensures.objects.few, c.if-as_slice-eq-MAX_OBJECTS.false, ap (λ (s : Script). length s.objects) c.script.view_is))
    (c.as_slice-2.ensures.value ∙ (rw c.in-Ok-Some.field-0-is at c.in-Ok-Some.ensures.some).0) (subst (λ (s : Script). list_all (λ (row : ℕ). ltb row s.rows) (map value (words c.args.rows.now)) ≡ true) c.script.view_is (rw c.in-Ok-Some.field-0-is at c.in-Ok-Some.ensures.some).1)
    c.add.ensures.row_used (c.in-Err-RowUsed.is ∙ ap (λ fault. Err fault) c.in-Err-RowUsed.field-0-is)
