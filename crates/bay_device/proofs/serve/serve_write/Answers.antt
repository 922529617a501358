use Rattle.std.proofs.Common.{◌≤◌, ◌<◌, ◌∙◌, ℕ, List, [], replicate, length, drop, slice_set, ap, arith}
use Rattle.std.proofs.lemmas.List.{length-replicate, drop-set-lt}
use Rattle.raid_base.specs.Cells.{zeros}
use Rattle.slot_rules.specs.Serving.{row_of}
use Rattle.slot_rules.proofs.Handlings.{handled-written}
use Rattle.bay_device.proofs.ServeLemmas.{row-within, write-fails}
use Rattle.bay_device.proofs.serve.serve_write.Goals as goal

pub returns-in-Ok-clause-somehow : goal.returns-in-Ok-clause-somehow
returns-in-Ok-clause-somehow g c =
    let blocks : List (List ℕ) = replicate (length c.args.slots.now.slots) zeros in
    let enough : length c.args.slots.now.slots ≤ length blocks = omega (arith, length-replicate (length c.args.slots.now.slots) zeros) in
    record {
      blocks = blocks;
      later = slice_set blocks c.args.row.0 c.args.cell.now.bytes;
      is = handled-written c.args.slots.now c.apply.new.self blocks c.args.ask.now c.args.row c.requires.put.0 c.requires.put.1 c.args.cell.now c.apply.result enough
          (c.requires.verdict blocks) c.requires.put.2 (record { reply_is = c.apply.ensures.reply; bay_is = c.apply.ensures.bay });
    }

pub returns-in-Err-clause-somehow : goal.returns-in-Err-clause-somehow
returns-in-Err-clause-somehow g c = record { blocks = []; later = []; is = write-fails c.args.slots.now [] c.args.ask.now (c.requires.verdict []) }

pub returns-in-Ok-clause-others : goal.returns-in-Ok-clause-others
returns-in-Ok-clause-others g c =
    let rows : ℕ = length c.args.slots.now.slots in
    let within : c.args.row.0 < rows = row-within rows c.args.ask.now c.args.row (ap (λ what. row_of what) c.requires.put.2) c.requires.asks in
    ap (λ (blocks : List (List ℕ)). drop rows blocks) c.in-Ok.ensures.content ∙ drop-set-lt rows (g.D.Store.content c.args.store.now) c.args.row.0 c.args.cell.now.bytes within
