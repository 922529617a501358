use Rattle.std.proofs.Common.{sym, ◌∙◌}
use Rattle.script_text.specs.Forms.{HostLine, NoLine, TurnLine, end_form, host_form, object_or_job, only_number, turn_form, two_numbers, with_number, with_numbers, words, words_behind}
use Rattle.script_text.proofs.FormLemmas.{host-line, no-host-line, turn-line, end-line, other-line, steps-along}
use Rattle.script_text.proofs.lines.read_body.Goals as goal

pub returns-then-is_text : goal.returns-then-is_text
returns-then-is_text c =
    let w = c.split_word.result.0 in
    let rest = c.split_word.result.1 in
    steps-along c.args.script.now c.read_host.new.script c.read_host.result _ _ c.read_host.ensures
    (host-line c.args.line.now w rest (turn_form (words c.args.line.now) (object_or_job c.args.script.now.hosts (words c.args.line.now))) c.split_word.ensures (sym c.is_text.ensures ∙ c.if-is_text.true))

pub returns-then-is_text-2 : goal.returns-then-is_text-2
returns-then-is_text-2 c =
    let w = c.split_word.result.0 in
    let rest = c.split_word.result.1 in
    let other = object_or_job c.args.script.now.hosts (words c.args.line.now) in
    steps-along c.args.script.now c.read_turn.new.script c.read_turn.result _ _ c.read_turn.ensures
    (turn-line c.args.line.now w rest other c.split_word.ensures (sym c.is_text-2.ensures ∙ c.if-is_text-2.true)
    ∙ no-host-line c.args.line.now w rest (turn_form (words c.args.line.now) other) c.split_word.ensures (sym c.is_text.ensures ∙ c.if-is_text.false))

pub returns-then-is_text-3 : goal.returns-then-is_text-3
returns-then-is_text-3 c =
    let w = c.split_word.result.0 in
    let rest = c.split_word.result.1 in
    let other = object_or_job c.args.script.now.hosts (words c.args.line.now) in
    steps-along c.args.script.now c.args.script.now c.read_end.result _ _ (c.read_end.ensures c.args.script.now)
    (end-line c.args.line.now w rest other c.split_word.ensures (sym c.is_text-2.ensures ∙ c.if-is_text-2.false) (sym c.is_text-3.ensures ∙ c.if-is_text-3.true)
    ∙ no-host-line c.args.line.now w rest (turn_form (words c.args.line.now) other) c.split_word.ensures (sym c.is_text.ensures ∙ c.if-is_text.false))

pub returns : goal.returns
returns c =
    let w = c.split_word.result.0 in
    let rest = c.split_word.result.1 in
    let other = object_or_job c.args.script.now.hosts (words c.args.line.now) in
    steps-along c.args.script.now c.read_object_or_job.new.script c.read_object_or_job.result _ _ c.read_object_or_job.ensures
    (other-line c.args.line.now w rest other c.split_word.ensures (sym c.is_text-2.ensures ∙ c.if-is_text-2.false) (sym c.is_text-3.ensures ∙ c.if-is_text-3.false)
    ∙ no-host-line c.args.line.now w rest (turn_form (words c.args.line.now) other) c.split_word.ensures (sym c.is_text.ensures ∙ c.if-is_text.false))
