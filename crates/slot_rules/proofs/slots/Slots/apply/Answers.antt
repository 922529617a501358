use Rattle.std.proofs.Common.{◌∙◌, sym, ap}
use Rattle.slot_rules.specs.Tables.{Table, with_blocks}
use Rattle.slot_rules.specs.Serving.{blocks_after}
use Rattle.slot_rules.proofs.TableParts.{applied-row, applied-device}
use Rattle.slot_rules.proofs.Handlings.{applied-fits}
use Rattle.slot_rules.proofs.slots.Slots.apply.Goals as goal

pub returns-in-Some-clause-bay : goal.returns-in-Some-clause-bay
returns-in-Some-clause-bay c =
    applied-row c.args.self.now c.serve.new.self c.in-Some.row c.args.ask.now c.args.cell c.serve.result (sym c.row_of.ensures ∙ c.in-Some.is) c.serve.ensures.served

pub returns-in-None-clause-bay : goal.returns-in-None-clause-bay
returns-in-None-clause-bay c = λ blocks few h.
    ap (λ (t : Table). with_blocks t (blocks_after c.args.ask.now.what c.args.cell blocks)) c.change_device.ensures.after
    ∙ applied-device c.args.self.now c.args.ask.now.what c.args.ask.now c.args.cell blocks (sym c.row_of.ensures ∙ c.in-None.is)

pub returns-in-Some-clause-fits : goal.returns-in-Some-clause-fits
returns-in-Some-clause-fits c =
    applied-fits c.args.self.now c.serve.new.self c.in-Some.row c.args.ask.now c.args.cell c.serve.result (sym c.row_of.ensures ∙ c.in-Some.is) c.serve.ensures.served
