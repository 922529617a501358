use Rattle.std.proofs.Common.{◌≡◌, sym, ap, ◌∙◌, subst}
use Rattle.std.specs.Mem.Slots.{slots_items}
use Rattle.rack_turns.specs.declared.view.Standing.{Standing}
use Rattle.rack_turns.specs.declared.view.View.{View}
use Rattle.rack_turns.specs.Shadows.{shadow, shadows}
use Rattle.rack_turns.specs.Closing.{AreClosed, WereThere}
use Rattle.rack_turns.specs.Passes.{seen, openings_of, role_of}
use Rattle.rack_turns.proofs.Passing.{only}
use Rattle.rack_turns.proofs.Closes.{closes, were-there}
use Rattle.rack_turns.proofs.rack.Rack.close.Goals as goal

pub returns-clause-bays : goal.returns-clause-bays
returns-clause-bays g c =
    let pass = c.args.pass in
    let is : c.into_seat.result.me.0 ≡ seen pass = sym (only pass.badge.views c.into_seat.result.me.0 (ap (λ b. b.views) (sym c.into_badge-badge.ensures) ∙ c.into_seat.ensures.2)) in
    let final = c.close_with-closed.ensures.values.2 in
    let bays = slots_items c.close_with-closed.result.slots in
    let all = closes shadow (openings_of c.args.self) final.0 final.1.0 c.into_seat.result.id c.into_seat.result.me.0 final.1.1
    (ap (λ (x : View). x.role) is ∙ (c.requires.pass.role ∙ ap (λ b. role_of b) c.requires.first))
    (ap (λ (x : View). x.standing.out) is ∙ (ap (λ (x : Standing). x.out) c.requires.pass.standing ∙ c.requires.out))
    bays final.3 final.4 in
    subst (λ l. AreClosed (openings_of c.args.self) (seen pass).ended (shadows l)) (sym c.take_all.ensures)
    (subst (λ (x : View). AreClosed (openings_of c.args.self) x.ended (shadows bays)) is all)

pub returns-clause-met : goal.returns-clause-met
returns-clause-met g c =
    let pass = c.args.pass in
    let is : c.into_seat.result.me.0 ≡ seen pass = sym (only pass.badge.views c.into_seat.result.me.0 (ap (λ b. b.views) (sym c.into_badge-badge.ensures) ∙ c.into_seat.ensures.2)) in
    let final = c.close_with-closed.ensures.values.2 in
    let bays = slots_items c.close_with-closed.result.slots in
    let all = were-there shadow (openings_of c.args.self) final.0 final.1.0 c.into_seat.result.id c.into_seat.result.me.0 final.1.1
    (ap (λ (x : View). x.role) is ∙ (c.requires.pass.role ∙ ap (λ b. role_of b) c.requires.first))
    (ap (λ (x : View). x.standing.out) is ∙ (ap (λ (x : Standing). x.out) c.requires.pass.standing ∙ c.requires.out))
    bays final.3 final.4 in
    subst (λ l. WereThere (seen pass).meetings (shadows l)) (sym c.take_all.ensures)
    (subst (λ (x : View). WereThere x.meetings (shadows bays)) is all)
