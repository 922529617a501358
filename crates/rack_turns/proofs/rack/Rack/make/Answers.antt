use Rattle.std.proofs.Common.{◌≡◌, ◌≤◌, ℕ, length, List, replicate, take, sym, ◌∙◌, subst, arith, vec_len}
use Rattle.atomic_table.specs.Table.{opening}
use Rattle.rack_turns.specs.Shadows.{shadow, shadows}
use Rattle.rack_turns.specs.Views.{first_view}
use Rattle.rack_turns.specs.Ruling.{Racked}
use Rattle.rack_turns.proofs.Starts.{starts, zeros-long, zeros-taken}
use Rattle.rack_turns.proofs.rack.Rack.make.Goals as goal

pub new-requires : goal.new-requires
new-requires g c =
    let count : ℕ = c.len-count.result in
    let words : List ℕ = take count (replicate 16 0) in
    let few : vec_len c.args.bays ≤ 16 = c.requires.few in
    let is : count ≡ vec_len c.args.bays = c.len-count.ensures in
    let long : length words ≡ length c.args.bays.items = zeros-long 16 count (omega (arith, few, is)) ∙ (is ∙ c.args.bays.ok.0) in
    subst (λ v. Racked shadow (shadows v.items) (opening words c.args.bays.items (first_view (shadows v.items)))) (sym c.of-about.ensures)
    (starts shadow c.args.bays.items words long (λ k. zeros-taken 16 count k) c.requires.new)
