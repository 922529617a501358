use Rattle.std.proofs.Common.{◌≡◌, ◌≤◌, [], ◌∷◌, sym, ap, ◌∙◌, arith, vec_len}
use Rattle.rack_turns.specs.declared.view.View.{View}
use Rattle.rack_turns.specs.Views.{joined}
use Rattle.rack_turns.specs.Passes.{seen, openings_of, role_of}
use Rattle.rack_turns.proofs.Passing.{joined-is-pass, only}
use Rattle.rack_turns.proofs.rack.Rack.join.Goals as goal

pub glue-requires-clause-table : goal.glue-requires-clause-table
glue-requires-clause-table g c =
    let rack = c.args.self.now in
    let a : 1 ≤ vec_len rack.table.shared.key.value = rack.some in
    let b : rack.table.shared.table_id.words ≡ vec_len rack.table.shared.key.value = rack.words in
    (c.into_seat-sitter.ensures.0 ∙ (ap (λ b. b.table_id) c.replace.ensures.value ∙ c.requires.pass.table_is), omega (arith, a, b))

pub glue-requires-clause-first : goal.glue-requires-clause-first
glue-requires-clause-first g c =
    let old = c.args.pass.now in
    let is : c.into_seat-sitter.result.me.0 ≡ seen old = sym (only old.badge.views c.into_seat-sitter.result.me.0 (ap (λ b. b.views) (sym c.replace.ensures.value) ∙ c.into_seat-sitter.ensures.2)) in
    ap (λ (x : View). x.role) is ∙ (c.requires.pass.role ∙ ap (λ b. role_of b) c.requires.first)

pub glue-requires-clause-other : goal.glue-requires-clause-other
glue-requires-clause-other g c = (c.into_seat.ensures.0 ∙ (ap (λ b. b.table_id) c.into_badge-badge.ensures ∙ c.requires.other.table_is), c.into_seat.ensures.3)

pub glue-requires-clause-guest : goal.glue-requires-clause-guest
glue-requires-clause-guest g c =
    let other : c.into_seat.result.me.0 ≡ seen c.args.other = sym (only c.args.other.badge.views c.into_seat.result.me.0 (ap (λ b. b.views) (sym c.into_badge-badge.ensures) ∙ c.into_seat.ensures.2)) in (
      ap (λ (x : View). x.role) other ∙ (c.requires.other.role ∙ ap (λ b. role_of b) c.requires.guest),
      ap (λ (x : View). x.turn) other ∙ c.requires.other.no_turn,
    )

pub returns-clause-pass : goal.returns-clause-pass
returns-clause-pass g c =
    let old = c.args.pass.now in
    let is : c.into_seat-sitter.result.me.0 ≡ seen old = sym (only old.badge.views c.into_seat-sitter.result.me.0 (ap (λ b. b.views) (sym c.replace.ensures.value) ∙ c.into_seat-sitter.ensures.2)) in
    let other : c.into_seat.result.me.0 ≡ seen c.args.other = sym (only c.args.other.badge.views c.into_seat.result.me.0 (ap (λ b. b.views) (sym c.into_badge-badge.ensures) ∙ c.into_seat.ensures.2)) in
    let kept = c.take_back.ensures.kept in
    let w = c.glue.new.sitter.me.0 in
    let one : c.take_back.new.self.badge.views ≡ w ∷ [] = ap (λ b. b.views) kept.1 ∙ c.into_badge.ensures.2 in
    let view : w ≡ joined (seen old) (seen c.args.other) = ap (λ m. m.0) c.glue.ensures.joined ∙ (λ i. joined (is i) (other i)) in
    joined-is-pass c.args.self.now.table.shared.table_id (openings_of c.args.self.now) c.args.other old c.take_back.new.self w c.requires.pass
    (ap (λ b. b.table_id) kept.1 ∙ (c.into_badge.ensures.0 ∙ (c.glue.ensures.same.0 ∙ (c.into_seat-sitter.ensures.0 ∙ (ap (λ b. b.table_id) c.replace.ensures.value ∙ c.requires.pass.table_is)))))
    one
    view
    kept.0
    c.take_back.ensures.standing
    c.take_back.ensures.clock

pub returns-clause-joined : goal.returns-clause-joined
returns-clause-joined g c =
    let old = c.args.pass.now in
    let is : c.into_seat-sitter.result.me.0 ≡ seen old = sym (only old.badge.views c.into_seat-sitter.result.me.0 (ap (λ b. b.views) (sym c.replace.ensures.value) ∙ c.into_seat-sitter.ensures.2)) in
    let other : c.into_seat.result.me.0 ≡ seen c.args.other = sym (only c.args.other.badge.views c.into_seat.result.me.0 (ap (λ b. b.views) (sym c.into_badge-badge.ensures) ∙ c.into_seat.ensures.2)) in
    let kept = c.take_back.ensures.kept in
    let w = c.glue.new.sitter.me.0 in
    let one : c.take_back.new.self.badge.views ≡ w ∷ [] = ap (λ b. b.views) kept.1 ∙ c.into_badge.ensures.2 in
    let view : w ≡ joined (seen old) (seen c.args.other) = ap (λ m. m.0) c.glue.ensures.joined ∙ (λ i. joined (is i) (other i)) in
    record { view = only c.take_back.new.self.badge.views w one ∙ view; first = kept.0; standing = c.take_back.ensures.standing; clock = c.take_back.ensures.clock }
