use Rattle.std.proofs.Common.{ap, [], ◌∙◌}
use Rattle.attempts.specs.declared.Repair.{Repair}
use Rattle.rebuild_txn.specs.Left.{left_of}
use Rattle.rebuild_txn.specs.declared.stages.MendStage.TheVariants.{Claiming}
use Rattle.rebuild_txn.proofs.mend_try.MendTry.begin.Goals as goal

pub returns : goal.returns
returns c =
    let job : Repair = record { n = c.args.n; id = c.args.id; row = c.args.row; target = c.args.target } in
    ap (λ hs. left_of Claiming job hs c.claim_queue.result) (cc)
    ∙ ap (left_of Claiming job []) c.claim_queue.ensures.value
