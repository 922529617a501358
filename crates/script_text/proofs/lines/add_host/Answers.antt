use Rattle.std.proofs.Common.{sym, ◌∙◌, arith}
use Rattle.script_text.proofs.LineSteps.{host-high, host-sunk, host-room, host-added}
use Rattle.script_text.proofs.lines.add_host.Goals as goal

pub push_host-requires : goal.push_host-requires
push_host-requires c = host-room c.args.script.now c.args.number c.requires (sym c.are_below.ensures ∙ c.if-not-are_below.false) (omega arith)

pub returns : goal.returns
returns c = host-added c.args.script.now c.push_host.new.script c.args.number (omega arith) (sym c.are_below.ensures ∙ c.if-not-are_below.false) c.push_host.ensures
