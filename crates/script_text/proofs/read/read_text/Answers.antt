use Rattle.std.proofs.Common.{sym, ap, ◌∙◌, arith, is_some, length}
use Rattle.std.proofs.lemmas.Bool.{eqb-false, eqb-true}
use Rattle.raid_base.specs.declared.status.Kind.TheVariants.{End, Tail}
use Rattle.script_text.specs.Forms.{form_at}
use Rattle.script_text.proofs.Reading.{bad-end, bad-line, bad-tail, bad-told, line-told, read-line, read-whole, steps-fine, tail-line}
use Rattle.script_text.proofs.read.read_text.Goals as goal

pub returns-then-is_ended-clause-bad : goal.returns-then-is_ended-clause-bad
returns-then-is_ended-clause-bad c =
    bad-told c.args.bytes.now c.lines.line Tail
    (tail-line c.args.bytes.now c.lines.stage c.lines.script c.lines.line c.lines.left.now c.in-Some.first.line.now c.in-Some.first.rest.now c.lines.invariant (sym c.is_ended.ensures ∙ c.if-is_ended.true) c.in-Some.ensures.some.1 c.in-Some.ensures.some.0)

pub returns-in-Err-read_line-clause-bad : goal.returns-in-Err-read_line-clause-bad
returns-in-Err-read_line-clause-bad c =
    line-told c.args.bytes.now c.lines.line c.lines.script c.read_line.new.script (form_at c.lines.stage c.lines.script c.in-Some.first.line.now) c.in-Err-read_line.fault c.read_line.result c.fault_at.result
    c.read_line.ensures c.in-Err-read_line.is c.fault_at.ensures
    (λ kind fault. bad-line c.args.bytes.now c.lines.stage c.lines.script c.lines.line c.lines.left.now c.in-Some.first.line.now c.in-Some.first.rest.now kind c.lines.invariant (sym c.is_ended.ensures ∙ c.if-is_ended.false) c.in-Some.ensures.some.1 c.in-Some.ensures.some.0 fault)

pub lines-preserved : goal.lines-preserved
lines-preserved c =
    let fine = steps-fine c.lines.script c.read_line.new.script c.read_line.result (form_at c.lines.stage c.lines.script c.in-Some.first.line.now) c.in-Ok-read_line.next c.read_line.ensures c.in-Ok-read_line.is in
    read-line c.args.bytes.now c.lines.stage c.in-Ok-read_line.next c.lines.script c.read_line.new.script c.lines.line c.lines.left.now c.in-Some.first.line.now c.in-Some.first.rest.now c.lines.invariant (sym c.is_ended.ensures ∙ c.if-is_ended.false)
    c.in-Some.ensures.some.1 c.in-Some.ensures.some.0 fine.0 fine.1

pub returns-then-not-is_ended-clause-bad : goal.returns-then-not-is_ended-clause-bad
returns-then-not-is_ended-clause-bad c =
    bad-told c.args.bytes.now c.lines.line End
    (bad-end c.args.bytes.now c.lines.stage c.lines.script c.lines.line c.lines.left.now c.lines.invariant (c.first_line.ensures.none.0 (ap is_some c.in_default.is)) (sym c.is_ended-2.ensures ∙ c.if-not-is_ended.true))

pub returns-then-not-is_empty-clause-bad : goal.returns-then-not-is_empty-clause-bad
returns-then-not-is_empty-clause-bad c =
    bad-told c.args.bytes.now c.lines.line Tail
    (bad-tail c.args.bytes.now c.lines.stage c.lines.script c.lines.line c.lines.left.now c.lines.invariant (c.first_line.ensures.none.0 (ap is_some c.in_default.is)) (sym c.is_ended-2.ensures ∙ c.if-not-is_ended.false) (let some = eqb-false (length c.lines.left.now) 0 (sym c.is_empty.ensures ∙ c.if-not-is_empty.true) in omega (arith, some)))

pub returns-clause-script : goal.returns-clause-script
returns-clause-script c = read-whole c.args.bytes.now c.lines.stage c.lines.script c.lines.line c.lines.left.now (sym c.is_ended-2.ensures ∙ c.if-not-is_ended.false) (eqb-true (length c.lines.left.now) 0 (sym c.is_empty.ensures ∙ c.if-not-is_empty.false)) c.lines.invariant
