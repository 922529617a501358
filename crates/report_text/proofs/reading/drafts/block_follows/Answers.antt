use Rattle.std.proofs.Common.{◌≡◌, ◌∙◌, sym, map, ap, List, ℕ, cond, true}
use Rattle.std.specs.Prelude.{nat_eq}
use Rattle.std.specs.List.{list_any}
use Rattle.std.specs.Cmp.Lexicographic.{pointwise}
use Rattle.raid_base.specs.Names.{filled}
use Rattle.report_text.specs.Report.{listed}
use Rattle.report_text.proofs.NameKeys.{knows-new, knows-on}
use Rattle.report_text.proofs.reading.drafts.block_follows.Goals as goal

pub returns-then-block-gt0-clause-known : goal.returns-then-block-gt0-clause-known
returns-then-block-gt0-clause-known c = λ shown ok. knows-on c.args.names.now.keys (map listed c.args.blocks.now) c.args.object.now c.args.block shown c.requires (sym c.block_goes_on.ensures ∙ ok)

pub returns-in-Ok-clause-known : goal.returns-in-Ok-clause-known
returns-in-Ok-clause-known c = λ shown ok.
    knows-new c.args.names.now.keys c.insert.new.self.keys (map listed c.args.blocks.now) c.args.object.now c.args.block shown c.key_of.ensures.name c.requires
    (λ q. c.in-Ok.ensures.updates.0 q ∙ ap (λ (k : List ℕ). cond (pointwise nat_eq k q) true (list_any (pointwise nat_eq q) c.args.names.now.keys)) c.key_of.ensures.key)
