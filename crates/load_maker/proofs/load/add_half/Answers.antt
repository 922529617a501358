use Rattle.std.proofs.Common.{◌≡◌, ◌∙◌, sym, subst, ℕ, ◌<◌, List, length}
use Rattle.std.specs.Prelude.{All}
use Rattle.raid_base.specs.declared.numbers.RowNo.{RowNo}
use Rattle.load_maker.specs.Load.{half}
use Rattle.load_maker.proofs.HalfLemmas.{half-some, half-below}
use Rattle.load_maker.proofs.load.add_half.Goals as goal

pub add-requires-clause-rows_some : goal.add-requires-clause-rows_some
add-requires-clause-rows_some c =
    let is : c.deref.result.now ≡ half c.args.row = c.deref.ensures.value ∙ c.in_ok-rows.ensures in
    subst (λ (rs : List RowNo). 0 < length rs) (sym is) (half-some c.args.row)

pub add-requires-clause-rows_below : goal.add-requires-clause-rows_below
add-requires-clause-rows_below c =
    let is : c.deref.result.now ≡ half c.args.row = c.deref.ensures.value ∙ c.in_ok-rows.ensures in
    let room = c.requires.rows in
    let below = half-below c.args.row c.requires.row in
    subst (λ (m : ℕ). All (λ (r : RowNo). r.0 < m) c.deref.result.now) (sym room) (subst (λ (rs : List RowNo). All (λ (r : RowNo). r.0 < 512) rs) (sym is) below)
