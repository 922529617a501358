use Rattle.std.proofs.Common.{ap, refl, sym}
use Rattle.script_text.specs.Forms.{form_at}
use Rattle.script_text.proofs.FormLemmas.{steps-along}
use Rattle.script_text.proofs.lines.read_line.Goals as goal

pub returns-in-Raid : goal.returns-in-Raid
returns-in-Raid c = steps-along c.args.script.now c.args.script.now c.read_raid.result _ _ (c.read_raid.ensures c.args.script.now) (ap (λ stage. form_at stage c.args.script.now c.args.line.now) (sym c.in-Raid.is))

pub returns-in-Devices : goal.returns-in-Devices
returns-in-Devices c = steps-along c.args.script.now c.read_devices.new.script c.read_devices.result _ _ c.read_devices.ensures (ap (λ stage. form_at stage c.args.script.now c.args.line.now) (sym c.in-Devices.is))

pub returns-in-Rows : goal.returns-in-Rows
returns-in-Rows c = steps-along c.args.script.now c.read_row_count.new.script c.read_row_count.result _ _ c.read_row_count.ensures (ap (λ stage. form_at stage c.args.script.now c.args.line.now) (sym c.in-Rows.is))

pub returns-in-Order : goal.returns-in-Order
returns-in-Order c = steps-along c.args.script.now c.read_mode.new.script c.read_mode.result _ _ c.read_mode.ensures (ap (λ stage. form_at stage c.args.script.now c.args.line.now) (sym c.in-Order.is))

pub returns-in-Patience : goal.returns-in-Patience
returns-in-Patience c = steps-along c.args.script.now c.read_patience.new.script c.read_patience.result _ _ c.read_patience.ensures (ap (λ stage. form_at stage c.args.script.now c.args.line.now) (sym c.in-Patience.is))

pub returns-in-Tries : goal.returns-in-Tries
returns-in-Tries c = steps-along c.args.script.now c.read_tries.new.script c.read_tries.result _ _ c.read_tries.ensures (ap (λ stage. form_at stage c.args.script.now c.args.line.now) (sym c.in-Tries.is))

pub returns-in-Body : goal.returns-in-Body
returns-in-Body c = steps-along c.args.script.now c.read_body.new.script c.read_body.result _ _ c.read_body.ensures (ap (λ stage. form_at stage c.args.script.now c.args.line.now) (sym c.in-Body.is))

pub returns-in-Turns : goal.returns-in-Turns
returns-in-Turns c = steps-along c.args.script.now c.read_turns.new.script c.read_turns.result _ _ c.read_turns.ensures (ap (λ stage. form_at stage c.args.script.now c.args.line.now) (sym c.in-Turns.is))
