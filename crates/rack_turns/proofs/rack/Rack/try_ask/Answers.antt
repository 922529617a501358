use Rattle.std.proofs.Common.{◌≡◌, List, sym, ap, ◌∙◌}
use Rattle.std.specs.Prelude.{slice_index_or}
use lib.ListN.{get_elem?}
use Rattle.rack_turns.specs.declared.view.Shadow.{Shadow}
use Rattle.rack_turns.specs.declared.view.View.{View}
use Rattle.rack_turns.specs.Views.{gone, with_call}
use Rattle.rack_turns.specs.Passes.{seen, openings_of, entry_by}
use Rattle.rack_turns.proofs.Passing.{asked-is-pass}
use Rattle.rack_turns.proofs.rack.Rack.try_ask.Goals as goal

pub turn-tried-requires-clause-ask : goal.turn-tried-requires-clause-ask
turn-tried-requires-clause-ask g c =
    let is : c.into_seat-sitter.result.me.0 ≡ seen c.args.pass.now = ap (λ (l : List View). slice_index_or l 0 gone) (sym c.into_seat-sitter.ensures.2 ∙ ap (λ b. b.views) c.replace.ensures.value) in
    λ o at-o. c.requires.ask o (ap (λ (l : List Shadow). get_elem? l c.args.bay.0) (sym (ap (λ (x : View). x.openings) is ∙ c.requires.pass.opened)) ∙ at-o)

pub returns-in-Answer-clause-pass : goal.returns-in-Answer-clause-pass
returns-in-Answer-clause-pass g c =
    let is : c.into_seat-sitter.result.me.0 ≡ seen c.args.pass.now = ap (λ (l : List View). slice_index_or l 0 gone) (sym c.into_seat-sitter.ensures.2 ∙ ap (λ b. b.views) c.replace.ensures.value) in
    let kept = c.note.ensures.kept in
    let told = c.in-Answer.ensures.tried in
    asked-is-pass c.args.self.now.table.shared.table_id (openings_of c.args.self.now) c.args.bay.0 (entry_by c.args.ask.now c.in-Answer.answer) c.args.pass.now c.note.new.self c.turn-tried.new.sitter.me.0 c.requires.pass
    (ap (λ b. b.table_id) kept.1 ∙ (c.into_badge.ensures.0 ∙ (c.turn-tried.ensures.same.0 ∙ (c.into_seat-sitter.ensures.0 ∙ (ap (λ b. b.table_id) c.replace.ensures.value ∙ c.requires.pass.table_is)))))
    (ap (λ b. b.views) kept.1 ∙ c.into_badge.ensures.2)
    (told.view ∙ ap (λ (x : View). with_call c.args.bay.0 (entry_by c.args.ask.now c.in-Answer.answer) x) is)
    kept.0
    c.note.ensures.standing
    c.note.ensures.clock
    c.requires.left
