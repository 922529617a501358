use Rattle.std.proofs.Common.{◌≡◌, ℕ, ◌+◌, ◌<◌, ◌≤◌, ◌^◌, length, vec_len, ◌∷◌, sym, ap, ◌∙◌, subst, arith}
use Rattle.std.specs.Prelude.{slice_index}
use Rattle.slot_rules.specs.Serving.{IsAskFor}
use Rattle.rack_turns.specs.Shadows.{shadow}
use Rattle.rack_turns.specs.Views.{total, cap_of, greatest_clock}
use Rattle.rack_turns.proofs.Counts.{there}
use Rattle.rack_turns.proofs.Serving.{may-end}
use Rattle.rack_turns.proofs.turn.turn.Goals as goal

pub serve-answer-requires-clause-held : goal.serve-answer-requires-clause-held
serve-answer-requires-clause-held g c =
    let v = c.args.sitter.now.me.0 in
    let h = c.in_default.ensures.begun in
    let o = there v.openings c.args.bay.0 c.requires.one_of in
    let late = h.later o.0 o.1 in (
      h.value,
      h.hand ∙ ap (λ l. (c.args.bay.0, h.value) ∷ l) c.requires.ready.1,
      (
        record {
          served = subst (λ (n : ℕ). IsAskFor n c.args.ask.now) (sym late.rows) (c.requires.ask o.0 o.1);
          clock =
              let a : c.args.ask.now.clock ≤ greatest_clock v.asked = c.requires.clock in
              let b : greatest_clock v.asked ≤ total cap_of v.openings = h.clock in
              let d : total cap_of v.openings < 2 ^ 62 = c.requires.caps in
              omega (arith, a, b, d);
        },
        (let a : length h.value.journal.items + slice_index v.standing.left c.args.bay.0 ≤ o.0.cap = h.room o.0 o.1 in
            let long : vec_len h.value.journal ≡ length h.value.journal.items = h.value.journal.ok.0 in
            let b : h.value.cap ≡ o.0.cap = late.cap in
            let d : 0 < slice_index v.standing.left c.args.bay.0 = c.requires.left in
            omega (arith, a, b, d, long)),
      ),
    )

pub end-requires-clause-ready : goal.end-requires-clause-ready
end-requires-clause-ready g c =
    let v = c.args.sitter.now.me.0 in
    let h = c.in_default.ensures.begun in
    let o = there v.openings c.args.bay.0 c.requires.one_of in
    may-end shadow c.args.bay.0 c.args.ask.now c.serve-answer.result c.args.sitter.now.me c.begin.new.sitter.me c.serve-answer.new.sitter.me o.0 c.requires.ready.0 c.requires.ready.1 c.requires.left c.requires.clock o.1 h c.serve-answer.ensures.view c.serve-answer.ensures.served
