use Rattle.std.proofs.Common.{◌≡◌, ◌≤◌, ℕ, List, [], replicate, length, slice_index_or, false, sym, subst, arith}
use Rattle.std.proofs.lemmas.List.{length-replicate, get_or-replicate}
use Rattle.raid_base.specs.declared.messages.Reply.TheVariants.{Fault}
use Rattle.raid_base.specs.Cells.{zeros}
use Rattle.raid_base.specs.Replies.{is_fault}
use Rattle.slot_rules.specs.Handling.{Handled}
use Rattle.bay_device.proofs.ServeLemmas.{Works, read-works, read-fails, fine-cause, row-within}
use Rattle.bay_device.proofs.serve.serve_read.Goals as goal

pub returns-in-Ok-clause-told : goal.returns-in-Ok-clause-told
returns-in-Ok-clause-told g c = λ told.
    let blocks : List (List ℕ) = g.D.Store.content c.args.store.now in
    let whole : length blocks ≡ g.D.Store.size c.args.store.now = g.met.D.Store.whole c.args.store.now told in
    let enough : length c.args.slots.now.slots ≤ length blocks = omega (arith, whole, c.requires.rows) in
    subst (λ (later : List (List ℕ)). Handled c.args.slots.now blocks c.args.ask.now c.apply.result c.apply.new.self later) (sym c.in-Ok.ensures.content)
    (read-works c.args.slots.now c.apply.new.self blocks c.args.ask.now c.args.row (record { bytes = c.in-Ok.bytes; lost = c.mark-lost.result }) c.apply.result enough
    (c.requires.verdict blocks) c.requires.row c.requires.asks (c.in-Ok.ensures.value told) (c.mark-lost.ensures blocks)
    (record { reply_is = c.apply.ensures.reply; bay_is = c.apply.ensures.bay })).is

pub returns-in-Ok-clause-somehow : goal.returns-in-Ok-clause-somehow
returns-in-Ok-clause-somehow g c =
    let bytes : List ℕ = c.in-Ok.bytes in
    let rows : ℕ = length c.args.slots.now.slots in
    let blocks : List (List ℕ) = replicate rows bytes in
    let enough : length c.args.slots.now.slots ≤ length blocks = omega (arith, length-replicate (length c.args.slots.now.slots) bytes) in
    let block : slice_index_or blocks c.args.row.0 zeros ≡ bytes =
    get_or-replicate (length c.args.slots.now.slots) c.args.row.0 bytes zeros (row-within (length c.args.slots.now.slots) c.args.ask.now c.args.row c.requires.row c.requires.asks) in
    let works : Works c.args.slots.now blocks c.args.ask.now c.apply.result c.apply.new.self blocks =
    read-works c.args.slots.now c.apply.new.self blocks c.args.ask.now c.args.row (record { bytes = bytes; lost = c.mark-lost.result }) c.apply.result enough
    (c.requires.verdict blocks) c.requires.row c.requires.asks (sym block) (c.mark-lost.ensures blocks)
    (record { reply_is = c.apply.ensures.reply; bay_is = c.apply.ensures.bay }) in
    record { blocks = blocks; later = blocks; is = works.is }

pub returns-in-Ok-clause-kept : goal.returns-in-Ok-clause-kept
returns-in-Ok-clause-kept g c =
    let bytes : List ℕ = c.in-Ok.bytes in
    let rows : ℕ = length c.args.slots.now.slots in
    let blocks : List (List ℕ) = replicate rows bytes in
    let enough : length c.args.slots.now.slots ≤ length blocks = omega (arith, length-replicate (length c.args.slots.now.slots) bytes) in
    let block : slice_index_or blocks c.args.row.0 zeros ≡ bytes =
    get_or-replicate (length c.args.slots.now.slots) c.args.row.0 bytes zeros (row-within (length c.args.slots.now.slots) c.args.ask.now c.args.row c.requires.row c.requires.asks) in
    let works : Works c.args.slots.now blocks c.args.ask.now c.apply.result c.apply.new.self blocks =
    read-works c.args.slots.now c.apply.new.self blocks c.args.ask.now c.args.row (record { bytes = bytes; lost = c.mark-lost.result }) c.apply.result enough
    (c.requires.verdict blocks) c.requires.row c.requires.asks (sym block) (c.mark-lost.ensures blocks)
    (record { reply_is = c.apply.ensures.reply; bay_is = c.apply.ensures.bay }) in
    let fine : is_fault c.apply.result ≡ false = works.fine in λ h. cc

pub returns-in-Ok-clause-cause : goal.returns-in-Ok-clause-cause
returns-in-Ok-clause-cause g c =
    let bytes : List ℕ = c.in-Ok.bytes in
    let rows : ℕ = length c.args.slots.now.slots in
    let blocks : List (List ℕ) = replicate rows bytes in
    let enough : length c.args.slots.now.slots ≤ length blocks = omega (arith, length-replicate (length c.args.slots.now.slots) bytes) in
    let block : slice_index_or blocks c.args.row.0 zeros ≡ bytes =
    get_or-replicate (length c.args.slots.now.slots) c.args.row.0 bytes zeros (row-within (length c.args.slots.now.slots) c.args.ask.now c.args.row c.requires.row c.requires.asks) in
    let works : Works c.args.slots.now blocks c.args.ask.now c.apply.result c.apply.new.self blocks =
    read-works c.args.slots.now c.apply.new.self blocks c.args.ask.now c.args.row (record { bytes = bytes; lost = c.mark-lost.result }) c.apply.result enough
    (c.requires.verdict blocks) c.requires.row c.requires.asks (sym block) (c.mark-lost.ensures blocks)
    (record { reply_is = c.apply.ensures.reply; bay_is = c.apply.ensures.bay }) in
    fine-cause _ _ _ c.in-Ok.ensures.faults works.fine

pub returns-in-Err-clause-told : goal.returns-in-Err-clause-told
returns-in-Err-clause-told g c = λ told.
    let blocks : List (List ℕ) = g.D.Store.content c.args.store.now in
    subst (λ (later : List (List ℕ)). Handled c.args.slots.now blocks c.args.ask.now Fault c.args.slots.now later) (sym c.in-Err.ensures.content)
    (read-fails c.args.slots.now blocks c.args.ask.now (c.requires.verdict blocks))

pub returns-in-Err-clause-somehow : goal.returns-in-Err-clause-somehow
returns-in-Err-clause-somehow g c = record { blocks = []; later = []; is = read-fails c.args.slots.now [] c.args.ask.now (c.requires.verdict []) }
