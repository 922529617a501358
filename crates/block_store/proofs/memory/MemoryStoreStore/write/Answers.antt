use Rattle.std.proofs.Common.{◌≡◌, ◌∙◌, ◌<◌, ◌≤◌, ◌++◌, ◌∷◌, [], List, ℕ, length, slice_set, arith, ap}
use Rattle.block_store.proofs.Kept.{filled, row-below, kept-set, past-set}
use Rattle.block_store.proofs.memory.MemoryStoreStore.write.Goals as goal

pub returns-then-row-len-clause-block : goal.returns-then-row-len-clause-block
returns-then-row-len-clause-block c =
    let kept : c.args.row.0 < length c.self.inside.blocks.items = omega (arith, c.self.inside.blocks.ok.0, c.if-row-len.true, c.len.ensures) in
    kept-set c.self.inside.blocks.items c.self.inside.size c.args.row.0 c.args.bytes.now kept
    ∙ ap (λ (blocks : List (List ℕ)). slice_set blocks c.args.row.0 c.args.bytes.now) c.self.view_is

pub returns-else-row-len-clause-block : goal.returns-else-row-len-clause-block
returns-else-row-len-clause-block c =
    let past : length c.self.inside.blocks.items ≤ c.args.row.0 = omega (arith, c.self.inside.blocks.ok.0, c.if-row-len.false, c.len.ensures) in
    let few : length c.self.inside.blocks.items ≤ c.self.inside.size = omega (arith, c.self.inside.blocks.ok.0, c.self.invariant.0) in
    let below : c.args.row.0 < c.self.inside.size = row-below c.self.inside.blocks.items c.args.self.now c.self.inside.size c.args.row.0 few c.self.view_is c.requires in
    let count : length c.fill.new.blocks.items ≡ c.args.row.0 = omega (arith, c.fill.new.blocks.ok.0, c.fill.ensures.len) in
    let pushed : filled c.push_reserved.new.self.items c.self.inside.size ≡ filled (c.fill.new.blocks.items ++ c.args.bytes.now ∷ []) c.self.inside.size =
    ap (λ (blocks : List (List ℕ)). filled blocks c.self.inside.size) c.push_reserved.ensures.items in
    pushed
    ∙ past-set c.self.inside.blocks.items c.fill.new.blocks.items c.self.inside.size c.args.row.0 c.args.bytes.now past below count c.fill.ensures.items
    ∙ ap (λ (blocks : List (List ℕ)). slice_set blocks c.args.row.0 c.args.bytes.now) c.self.view_is
