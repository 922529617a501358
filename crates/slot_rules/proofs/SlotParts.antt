-- How the parts of one slot's code make up the rule.
use Rattle.std.proofs.Common.{◌≡◌, false, Option, Some, None, refl, sym, ap, subst, ◌∙◌}
use Rattle.raid_base.specs.declared.numbers.Number.{Number}
use Rattle.raid_base.specs.declared.messages.Mode.{Mode}
use Rattle.raid_base.specs.declared.messages.Ask.{Ask}
use Rattle.raid_base.specs.declared.messages.Reply.{Reply}
use Rattle.raid_base.specs.declared.messages.Reply.TheVariants.{Missing}
use Rattle.raid_base.specs.declared.messages.How.TheVariants.{Plain}
use Rattle.slot_rules.specs.declared.slot.BayState.{BayState}
use Rattle.slot_rules.specs.Slots.{Slot, Bay}
use Rattle.slot_rules.specs.Rules.{keeps, note_id, share_at, claim_at, confirm_missing}
use Rattle.slot_rules.specs.Tables.{Kept, bay_of, with_block}
use Rattle.slot_rules.specs.Parts.{IsFloorOf, RefusesShareBy, RefusesShare, RefusesClaimAt, RefusesClaim, RefusesConfirm}

pub share-missing : (state : BayState) (kept : Kept) (ask : Ask) (id : Number) (floor : Option Number) (n : Number) →
    IsFloorOf state kept floor → floor ≡ Some n → RefusesShare state kept ask id (Some (Missing n))
share-missing state kept ask id floor n is some = λ others block want fails.
    ap (λ f. share_at (bay_of state others) (with_block kept block) ask id want fails f) (sym (is others block) ∙ some)

pub share-there : (state : BayState) (kept : Kept) (ask : Ask) (id : Number) (floor : Option Number) (mode : Mode) (refusal : Option Reply) →
    IsFloorOf state kept floor → floor ≡ None → state.mode ≡ mode → RefusesShareBy mode state kept ask id refusal → RefusesShare state kept ask id refusal
share-there state kept ask id floor mode refusal is none m by = λ others block want fails.
    ap (λ f. share_at (bay_of state others) (with_block kept block) ask id want fails f) (sym (is others block) ∙ none)
    ∙ subst (λ (k : Mode). RefusesShareBy k state kept ask id refusal) (sym m) by others block want fails

pub claim-missing : (state : BayState) (kept : Kept) (ask : Ask) (id : Number) (floor : Option Number) (n : Number) →
    IsFloorOf state kept floor → floor ≡ Some n → RefusesClaim state kept ask id Plain (Some (Missing n))
claim-missing state kept ask id floor n is some = λ others block mask want fails.
    ap (λ f. claim_at (bay_of state others) (with_block kept block) ask id Plain mask want fails f) (sym (is others block) ∙ some)

pub claim-there : (state : BayState) (kept : Kept) (ask : Ask) (id : Number) (floor : Option Number) (refusal : Option Reply) →
    IsFloorOf state kept floor → floor ≡ None → RefusesClaimAt state kept id Plain refusal → RefusesClaim state kept ask id Plain refusal
claim-there state kept ask id floor refusal is none there = λ others block mask want fails.
    ap (λ f. claim_at (bay_of state others) (with_block kept block) ask id Plain mask want fails f) (sym (is others block) ∙ none)
    ∙ there others block ask mask want fails

pub confirm-refused : (state : BayState) (kept : Kept) (id : Number) (floor refloor : Option Number) (refusal : Reply) →
    IsFloorOf state kept floor → note_id kept.note id ≡ false → floor ≡ refloor →
    ((bay : Bay) (slot : Slot) → bay.life ≡ state.life → confirm_missing bay slot refloor ≡ keeps slot refusal) →
    RefusesConfirm state kept id (Some refusal)
confirm-refused state kept id floor refloor refusal is none same by = λ others block want fails.
    rw none (ap (λ f. confirm_missing (bay_of state others) (with_block kept block) f) (sym (is others block) ∙ same) ∙ by (bay_of state others) (with_block kept block) refl)
