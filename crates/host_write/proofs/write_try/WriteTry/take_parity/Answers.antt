use Rattle.std.proofs.Common.{◌≡◌, true, None, length, ap, sym, ◌∙◌}
use Rattle.raid_base.specs.First.{first_errand}
use Rattle.raid_base.specs.Replies.{grant_of}
use Rattle.raid_base.specs.Steps.{behind}
use Rattle.attempts.specs.Accesses.{access_of}
use Rattle.attempts.specs.Taking.{behind_from, refusal, with_grant, with_parity}
use Rattle.attempts.specs.Writing.{parity_claimed}
use Rattle.host_write.specs.declared.stages.WriteStage.TheVariants.{ClaimParity}
use Rattle.host_write.specs.Stages.{is_kept}
use Rattle.host_write.specs.Left.{left_of}
use Rattle.host_write.proofs.TryLemmas.{last-left, one-parity}
use Rattle.host_write.proofs.write_try.WriteTry.take_parity.Goals as goal

pub returns-in-None-clause-left : goal.returns-in-None-clause-left
returns-in-None-clause-left c = λ blocks.
    let w = c.args.self.now in
    let a = access_of w.job blocks in
    let r = c.args.reply.now in
    let t' = c.keep_parity.new.self in
    let ahead = c.after_parity-stage.result in
    let kept : is_kept ClaimParity w.job.n w.job.parts.items (length w.queue) w.taken w.confirmed w.puts ≡ true =
    sym (ap (λ s. is_kept s w.job.n w.job.parts.items (length w.queue) w.taken w.confirmed w.puts) c.requires) ∙ w.kept in
    let why : refusal (behind_from a.mode a.id) w.taken.missing (first_errand w.queue).bay r ≡ None = cc in
    let keeps : t' ≡ with_grant with_parity w.taken (first_errand w.queue).bay (grant_of r) = cc in
    last-left a with_parity (parity_claimed a) w.taken t' w.queue r (left_of ahead.stage a t' w.confirmed w.puts ahead.queue)
    (one-parity w.job.n w.job.parts.items w.queue w.taken w.confirmed w.puts kept) why keeps (c.after_parity-stage.ensures.left blocks w.confirmed w.puts)
    ∙ ap (λ s. behind (left_of s a w.taken w.confirmed w.puts w.queue) r) (sym c.requires)
