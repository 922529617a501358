use Rattle.std.proofs.Common.{◌≡◌, ◌≤◌, [], ◌∷◌, sym, ap, ◌∙◌, arith, vec_len}
use Rattle.rack_turns.specs.declared.view.View.{View}
use Rattle.rack_turns.specs.Views.{giving}
use Rattle.rack_turns.specs.Passes.{seen, openings_of}
use Rattle.rack_turns.proofs.Passing.{some-free, given-is-pass, only}
use Rattle.rack_turns.proofs.rack.Rack.split.Goals as goal

pub cut_for-guest-requires-clause-table : goal.cut_for-guest-requires-clause-table
cut_for-guest-requires-clause-table g c =
    let rack = c.args.self.now in
    let a : 1 ≤ vec_len rack.table.shared.key.value = rack.some in
    let b : rack.table.shared.table_id.words ≡ vec_len rack.table.shared.key.value = rack.words in
    (c.into_seat-sitter.ensures.0 ∙ (ap (λ b. b.table_id) c.replace.ensures.value ∙ c.requires.pass.table_is), omega (arith, a, b))

pub give-requires-clause-out : goal.give-requires-clause-out
give-requires-clause-out g c =
    let is = c.requires.pass in
    some-free c.args.pass.now.standing.given c.args.host.0 c.args.pass.now.standing.out is.many c.requires.host c.requires.new is.few

pub returns-clause-pass : goal.returns-clause-pass
returns-clause-pass g c =
    let old = c.args.pass.now in
    let is : c.into_seat-sitter.result.me.0 ≡ seen old = sym (only old.badge.views c.into_seat-sitter.result.me.0 (ap (λ b. b.views) (sym c.replace.ensures.value) ∙ c.into_seat-sitter.ensures.2)) in
    let kept = c.give.ensures.kept in
    let w = c.cut_for-guest.new.sitter.me.0 in
    let one : c.give.new.self.badge.views ≡ w ∷ [] = ap (λ b. b.views) kept.1 ∙ c.into_badge.ensures.2 in
    let view : w ≡ giving c.args.host.0 c.args.quota (seen old) = ap (λ m. m.0) c.cut_for-guest.ensures.first ∙ ap (λ (x : View). giving c.args.host.0 c.args.quota x) is in (
      given-is-pass c.args.self.now.table.shared.table_id (openings_of c.args.self.now) c.args.host.0 c.args.quota old c.give.new.self w c.requires.pass
          (ap (λ b. b.table_id) kept.1 ∙ (c.into_badge.ensures.0 ∙ (c.cut_for-guest.ensures.same.0 ∙ (c.into_seat-sitter.ensures.0 ∙ (ap (λ b. b.table_id) c.replace.ensures.value ∙ c.requires.pass.table_is)))))
          one
          view
          kept.0
          c.give.ensures.standing
          c.give.ensures.clock
          c.requires.host
          c.requires.new,
      record { view = only c.give.new.self.badge.views w one ∙ view; first = kept.0; standing = c.give.ensures.standing; clock = c.give.ensures.clock },
    )
