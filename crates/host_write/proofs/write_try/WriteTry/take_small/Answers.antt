use Rattle.std.proofs.Common.{◌≡◌, ◌<◌, true, None, [], length, ap, sym, ◌∙◌, arith}
use Rattle.raid_base.specs.First.{first_errand}
use Rattle.raid_base.specs.Replies.{grant_of}
use Rattle.raid_base.specs.Steps.{behind}
use Rattle.attempts.specs.Accesses.{access_of}
use Rattle.attempts.specs.Taking.{behind_from, refusal, with_grant, with_wanted}
use Rattle.attempts.specs.Writing.{small_claimed}
use Rattle.host_write.specs.declared.stages.WriteStage.TheVariants.{ClaimSmall}
use Rattle.host_write.specs.Stages.{is_kept}
use Rattle.host_write.specs.Left.{left_of}
use Rattle.host_write.proofs.TryLemmas.{last-left, some-small}
use Rattle.host_write.proofs.write_try.WriteTry.take_small.Goals as goal

pub returns-else-len-gt1-clause-left : goal.returns-else-len-gt1-clause-left
returns-else-len-gt1-clause-left c = λ blocks.
    let w = c.args.self.now in
    let a = access_of w.job blocks in
    let r = c.args.reply.now in
    let t' = c.keep_wanted.new.self in
    let ahead = c.after_small-stage.result in
    let kept : is_kept ClaimSmall w.job.n w.job.parts.items (length w.queue) w.taken w.confirmed w.puts ≡ true =
    sym (ap (λ s. is_kept s w.job.n w.job.parts.items (length w.queue) w.taken w.confirmed w.puts) c.requires) ∙ w.kept in
    let some : 0 < length w.queue = some-small w.job.n w.job.parts.items w.queue w.taken w.confirmed w.puts kept in
    let why : refusal (behind_from a.mode a.id) w.taken.missing (first_errand w.queue).bay r ≡ None = cc in
    let keeps : t' ≡ with_grant with_wanted w.taken (first_errand w.queue).bay (grant_of r) = cc in
    ap (λ rows. left_of ahead.stage a c.after_small-stage.new.taken rows w.puts ahead.queue) c.clear.ensures
    ∙ last-left a with_wanted (small_claimed a) w.taken t' w.queue r (left_of ahead.stage a c.after_small-stage.new.taken [] w.puts ahead.queue)
    (omega (arith, some)) why keeps (c.after_small-stage.ensures.left blocks w.puts)
    ∙ ap (λ s. behind (left_of s a w.taken w.confirmed w.puts w.queue) r) (sym c.requires)
