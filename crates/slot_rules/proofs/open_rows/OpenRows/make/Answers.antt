use Rattle.std.proofs.Common.{◌≡◌, ap, ◌∙◌, subst, sym, ℕ, List, nat_eq, arith, rules}
use Rattle.indexmap.specs.IndexMap.{insert_entry}
use Rattle.slot_rules.specs.declared.opened.Open.{Open}
use Rattle.slot_rules.specs.Tables.{closed}
use Rattle.slot_rules.specs.Opens.{opens_of, KeepsFirst}
use Rattle.slot_rules.proofs.OpenEntries.{fresh, keeps-fresh, fresh-more, opens-fresh}
use Rattle.slot_rules.proofs.open_rows.OpenRows.make.Goals as goal

pub loop-row-init : goal.loop-row-init
unfolding fresh
loop-row-init c = search rules

pub loop-row-preserved : goal.loop-row-preserved
loop-row-preserved c =
    let put : c.insert.new.self.entries ≡ insert_entry nat_eq c.loop-row.entries.entries c.loop-row.row closed = search rules in
    put ∙ ap (λ (es : List (ℕ × Open)). insert_entry nat_eq es c.loop-row.row closed) c.loop-row.invariant ∙ fresh-more c.loop-row.row

pub invariant_of-result : goal.invariant_of-result
invariant_of-result c =
    let all : c.loop-row.row ≡ c.args.rows = omega arith in
    subst (λ (es : List (ℕ × Open)). KeepsFirst es 0) (sym (c.loop-row.invariant ∙ ap (λ n. fresh n) all)) (keeps-fresh c.args.rows (omega arith))

pub returns-clause-opens : goal.returns-clause-opens
returns-clause-opens c =
    let all : c.loop-row.row ≡ c.args.rows = omega arith in
    ap (λ (es : List (ℕ × Open)). opens_of es) (c.loop-row.invariant ∙ ap (λ n. fresh n) all) ∙ opens-fresh c.args.rows
