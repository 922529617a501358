use Rattle.std.proofs.Common.{◌≡◌, ◌<◌, ◌∙◌, [], true, ap, sym, subst, length, slice_index_or}
use Rattle.raid_base.specs.Numbers.{number}
use Rattle.slot_rules.specs.declared.opened.Open.{Open}
use Rattle.slot_rules.specs.declared.slot.BayState.{BayState}
use Rattle.slot_rules.specs.declared.slot.SlotState.{SlotState}
use Rattle.slot_rules.specs.Tables.{Table, Kept, bare_kept, kept_slot, bay_of, with_block, with_blocks}
use Rattle.slot_rules.specs.Opens.{figures}
use Rattle.slot_rules.specs.Serving.{verdict_for, slot_rule}
use Rattle.slot_rules.proofs.TableLists.{read-own}
use Rattle.slot_rules.proofs.TableParts.{verdict-row}
use Rattle.slot_rules.proofs.Handlings.{verdict_shape}
use Rattle.slot_rules.proofs.slots.Slots.judge.Goals as goal

pub returns-in-Some-clause-verdict : goal.returns-in-Some-clause-verdict
returns-in-Some-clause-verdict c =
    let is = sym c.row_of.ensures ∙ c.in-Some.is in
    let within : c.in-Some.row.0 < length c.args.self.now.slots = rw is at c.requires.row in
    let kept : Kept = slice_index_or c.args.self.now.slots c.in-Some.row.0 (bare_kept (number 0)) in
    let same : kept_slot c.slot.result c.opened.result.now ≡ kept =
    ap (λ (s : SlotState). kept_slot s c.opened.result.now) c.slot.ensures ∙ ap (λ (o : Open). kept_slot (figures kept) o) c.opened.ensures in
    let state : c.self.inside.state ≡ c.args.self.now.state = ap (λ (t : Table). t.state) c.self.view_is in
    λ blocks. verdict-row c.args.self.now blocks c.args.ask.now c.in-Some.row kept c.judge.result is within (read-own c.args.self.now.slots c.in-Some.row.0 (bare_kept (number 0)) kept within)
    (λ others block.
    subst (λ (st : BayState). c.judge.result ≡ verdict_for c.args.ask.now.what (slot_rule (bay_of st others) (with_block kept block) c.args.ask.now true c.args.ask.now.what).reply) state
    (subst (λ (k : Kept). c.judge.result ≡ verdict_for c.args.ask.now.what (slot_rule (bay_of c.self.inside.state others) (with_block k block) c.args.ask.now true c.args.ask.now.what).reply) same
    (c.judge.ensures others block)))

pub returns-in-Some-clause-shape : goal.returns-in-Some-clause-shape
returns-in-Some-clause-shape c = verdict_shape (with_blocks c.args.self.now []) c.args.ask.now c.judge.result (returns-in-Some-clause-verdict c [])
