use Rattle.std.proofs.Common.{◌≡◌, ◌∙◌, ◌≤◌, ℕ, List, [], replicate, length, sym, arith, false}
use Rattle.std.proofs.lemmas.List.{length-replicate}
use Rattle.raid_base.specs.Cells.{zeros}
use Rattle.raid_base.specs.Replies.{is_fault}
use Rattle.slot_rules.specs.Tables.{with_blocks}
use Rattle.bay_device.proofs.ServeLemmas.{Works, said-works, fine-cause, no-row-read, no-other-put}
use Rattle.bay_device.proofs.serve.serve.Goals as goal

pub unreachable-requires : goal.unreachable-requires
unreachable-requires g c = no-row-read (with_blocks c.args.slots.now []) c.args.ask.now (c.in-NeedRead.ensures.verdict []) (sym c.row_of.ensures ∙ c.in-None.is)

pub unreachable-requires-in_default : goal.unreachable-requires-in_default
unreachable-requires-in_default g c = no-other-put (with_blocks c.args.slots.now []) c.args.ask.now (c.in-NeedWrite.ensures.verdict []) c.in_default.not-Put

pub returns-in-Say-clause-told : goal.returns-in-Say-clause-told
returns-in-Say-clause-told g c = λ told.
    let blocks : List (List ℕ) = g.D.Store.content c.args.store.now in
    let whole : length blocks ≡ g.D.Store.size c.args.store.now = g.met.D.Store.whole c.args.store.now told in
    let enough : length c.args.slots.now.slots ≤ length blocks = omega (arith, whole, c.requires.rows) in
    (said-works c.args.slots.now c.apply.new.self blocks c.args.ask.now _ c.apply.result enough (c.in-Say.ensures.verdict blocks)
    (record { reply_is = c.apply.ensures.reply; bay_is = c.apply.ensures.bay })).is

pub returns-in-Say-clause-somehow : goal.returns-in-Say-clause-somehow
returns-in-Say-clause-somehow g c =
    let blocks : List (List ℕ) = replicate (length c.args.slots.now.slots) zeros in
    let enough : length c.args.slots.now.slots ≤ length blocks = omega (arith, length-replicate (length c.args.slots.now.slots) zeros) in
    let works : Works c.args.slots.now blocks c.args.ask.now c.apply.result c.apply.new.self blocks =
    said-works c.args.slots.now c.apply.new.self blocks c.args.ask.now _ c.apply.result enough (c.in-Say.ensures.verdict blocks)
    (record { reply_is = c.apply.ensures.reply; bay_is = c.apply.ensures.bay }) in
    record { blocks = blocks; later = blocks; is = works.is }

pub returns-in-Say-clause-kept : goal.returns-in-Say-clause-kept
returns-in-Say-clause-kept g c =
    let blocks : List (List ℕ) = replicate (length c.args.slots.now.slots) zeros in
    let enough : length c.args.slots.now.slots ≤ length blocks = omega (arith, length-replicate (length c.args.slots.now.slots) zeros) in
    let works : Works c.args.slots.now blocks c.args.ask.now c.apply.result c.apply.new.self blocks =
    said-works c.args.slots.now c.apply.new.self blocks c.args.ask.now _ c.apply.result enough (c.in-Say.ensures.verdict blocks)
    (record { reply_is = c.apply.ensures.reply; bay_is = c.apply.ensures.bay }) in
    let fine : is_fault c.apply.result ≡ false = works.fine in λ h. cc

pub returns-in-Say-clause-cause : goal.returns-in-Say-clause-cause
returns-in-Say-clause-cause g c =
    let blocks : List (List ℕ) = replicate (length c.args.slots.now.slots) zeros in
    let enough : length c.args.slots.now.slots ≤ length blocks = omega (arith, length-replicate (length c.args.slots.now.slots) zeros) in
    let works : Works c.args.slots.now blocks c.args.ask.now c.apply.result c.apply.new.self blocks =
    said-works c.args.slots.now c.apply.new.self blocks c.args.ask.now _ c.apply.result enough (c.in-Say.ensures.verdict blocks)
    (record { reply_is = c.apply.ensures.reply; bay_is = c.apply.ensures.bay }) in
    fine-cause _ _ _ (omega arith) works.fine
