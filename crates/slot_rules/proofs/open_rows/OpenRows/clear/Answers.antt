use Rattle.std.proofs.Common.{◌≡◌, ◌-◌, ◌<◌, ◌∙◌, ap, sym, subst, length, arith}
use Rattle.indexmap.specs.IndexMap.{set_value_at}
use Rattle.slot_rules.specs.declared.opened.Open.{Open}
use Rattle.slot_rules.specs.Tables.{closed}
use Rattle.slot_rules.specs.Opens.{OpenTable, KeepsFirst, AreFirst}
use Rattle.slot_rules.proofs.OpenLists.{opens-length, opens-closed}
use Rattle.slot_rules.proofs.OpenEntries.{keeps-cleared, length-value_at}
use Rattle.slot_rules.proofs.open_rows.OpenRows.clear.Goals as goal

pub loop-self-init : goal.loop-self-init
loop-self-init c = (c.self.invariant, sym (opens-length c.self.inside.entries.entries) ∙ ap (λ (t : OpenTable). length t.opens) c.self.view_is)

pub loop-self-preserved : goal.loop-self-preserved
loop-self-preserved c =
    let es = c.loop-self.self-inside.entries.entries in
    let n = c.loop-self.self-inside.count in
    let some : 0 < n = omega arith in (
      subst (λ (w : Open). KeepsFirst (set_value_at es c.from.result w) (n - 1)) (sym c.clear.ensures)
          (subst (λ k. KeepsFirst (set_value_at es k closed) (n - 1)) (sym c.from.ensures) (keeps-cleared es n some c.loop-self.invariant.0)),
      length-value_at es c.from.result c.clear.new.self ∙ c.loop-self.invariant.1,
    )

pub invariant_of-self : goal.invariant_of-self
invariant_of-self c = c.loop-self.invariant.0

pub returns-clause-opens : goal.returns-clause-opens
returns-clause-opens c =
    let none : c.loop-self.self-inside.count ≡ 0 = omega arith in
    opens-closed c.loop-self.self-inside.entries.entries c.args.self.now.opens c.loop-self.invariant.1
    (subst (λ n. AreFirst c.loop-self.self-inside.entries.entries n) none c.loop-self.invariant.0.first)
