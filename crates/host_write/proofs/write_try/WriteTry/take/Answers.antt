use Rattle.std.proofs.Common.{◌<◌, length, ap, sym, ◌∙◌}
use Rattle.raid_base.specs.Steps.{behind, draws, settled}
use Rattle.attempts.specs.Accesses.{access_of}
use Rattle.host_write.specs.Left.{left_of}
use Rattle.host_write.specs.Tries.{left}
use Rattle.host_write.proofs.DrawnLemmas.{stands, draws-left, draws-finished, draws-released}
use Rattle.host_write.proofs.TryLemmas.{released-left, finished-left, has-errand}
use Rattle.host_write.proofs.write_try.WriteTry.take.Goals as goal

pub returns-in-ClaimParity-clause-told : goal.returns-in-ClaimParity-clause-told
returns-in-ClaimParity-clause-told c =
    let w = c.args.self.now in
    let now = c.take_parity.new.self in
    let r = c.args.reply.now in
    let blocks = c.args.blocks.now in
    stands c.args.numbers.now.host c.hear.new.self.seen (behind (left w blocks) r) (left now blocks) (c.take_parity.ensures.left c.args.blocks.now)
    (draws-left now.stage (access_of now.job blocks) now.taken now.confirmed now.puts now.queue now.job.n now.job.parts.items now.kept now.awake)
    ∙ ap (λ n. settled c.args.numbers.now.host n.seen (behind (left w blocks) r)) c.hear.ensures

pub returns-in-ClaimWanted-clause-told : goal.returns-in-ClaimWanted-clause-told
returns-in-ClaimWanted-clause-told c =
    let w = c.args.self.now in
    let now = c.take_wanted.new.self in
    let r = c.args.reply.now in
    let blocks = c.args.blocks.now in
    stands c.args.numbers.now.host c.hear.new.self.seen (behind (left w blocks) r) (left now blocks) (c.take_wanted.ensures.left c.args.blocks.now)
    (draws-left now.stage (access_of now.job blocks) now.taken now.confirmed now.puts now.queue now.job.n now.job.parts.items now.kept now.awake)
    ∙ ap (λ n. settled c.args.numbers.now.host n.seen (behind (left w blocks) r)) c.hear.ensures

pub returns-in-ClaimSmall-clause-told : goal.returns-in-ClaimSmall-clause-told
returns-in-ClaimSmall-clause-told c =
    let w = c.args.self.now in
    let now = c.take_small.new.self in
    let r = c.args.reply.now in
    let blocks = c.args.blocks.now in
    stands c.args.numbers.now.host c.hear.new.self.seen (behind (left w blocks) r) (left now blocks) (c.take_small.ensures.left c.args.blocks.now)
    (draws-left now.stage (access_of now.job blocks) now.taken now.confirmed now.puts now.queue now.job.n now.job.parts.items now.kept now.awake)
    ∙ ap (λ n. settled c.args.numbers.now.host n.seen (behind (left w blocks) r)) c.hear.ensures

pub returns-in-ShareUntil-clause-told : goal.returns-in-ShareUntil-clause-told
returns-in-ShareUntil-clause-told c =
    let w = c.args.self.now in
    let now = c.take_until.new.self in
    let r = c.args.reply.now in
    let blocks = c.args.blocks.now in
    stands c.args.numbers.now.host c.hear.new.self.seen (behind (left w blocks) r) (left now blocks) (c.take_until.ensures.left c.args.blocks.now)
    (draws-left now.stage (access_of now.job blocks) now.taken now.confirmed now.puts now.queue now.job.n now.job.parts.items now.kept now.awake)
    ∙ ap (λ n. settled c.args.numbers.now.host n.seen (behind (left w blocks) r)) c.hear.ensures

pub returns-in-ShareAfter-clause-told : goal.returns-in-ShareAfter-clause-told
returns-in-ShareAfter-clause-told c =
    let w = c.args.self.now in
    let now = c.take_after.new.self in
    let r = c.args.reply.now in
    let blocks = c.args.blocks.now in
    stands c.args.numbers.now.host c.hear.new.self.seen (behind (left w blocks) r) (left now blocks) (c.take_after.ensures.left c.args.blocks.now)
    (draws-left now.stage (access_of now.job blocks) now.taken now.confirmed now.puts now.queue now.job.n now.job.parts.items now.kept now.awake)
    ∙ ap (λ n. settled c.args.numbers.now.host n.seen (behind (left w blocks) r)) c.hear.ensures

pub returns-in-PutData-clause-told : goal.returns-in-PutData-clause-told
returns-in-PutData-clause-told c =
    let w = c.args.self.now in
    let now = c.take_data.new.self in
    let r = c.args.reply.now in
    let blocks = c.args.blocks.now in
    stands c.args.numbers.now.host c.hear.new.self.seen (behind (left w blocks) r) (left now blocks) c.take_data.ensures.left
    (draws-left now.stage (access_of now.job blocks) now.taken now.confirmed now.puts now.queue now.job.n now.job.parts.items now.kept now.awake)
    ∙ ap (λ n. settled c.args.numbers.now.host n.seen (behind (left w blocks) r)) c.hear.ensures

pub returns-in-PutParity-clause-told : goal.returns-in-PutParity-clause-told
returns-in-PutParity-clause-told c =
    let w = c.args.self.now in
    let now = c.take_put.new.self in
    let r = c.args.reply.now in
    let blocks = c.args.blocks.now in
    stands c.args.numbers.now.host c.hear.new.self.seen (behind (left w blocks) r) (left now blocks) c.take_put.ensures.left
    (draws-left now.stage (access_of now.job blocks) now.taken now.confirmed now.puts now.queue now.job.n now.job.parts.items now.kept now.awake)
    ∙ ap (λ n. settled c.args.numbers.now.host n.seen (behind (left w blocks) r)) c.hear.ensures

pub returns-in-Finish-clause-told : goal.returns-in-Finish-clause-told
returns-in-Finish-clause-told c =
    let w = c.args.self.now in
    let blocks = c.args.blocks.now in
    let a = access_of w.job blocks in
    let q = c.advance.new.self in
    let r = c.args.reply.now in
    let rows = w.confirmed in
    let some : 0 < length w.queue = has-errand w.stage a w.taken rows w.puts w.queue w.job.n w.job.parts.items w.kept w.awake c.requires.asks in
    stands c.args.numbers.now.host c.hear.new.self.seen (behind (left w blocks) r) (left_of w.stage a w.taken rows w.puts q)
    (ap (λ s. left_of s a w.taken rows w.puts q) c.in-Finish.is
    ∙ finished-left a w.taken rows w.puts w.queue r c.in-Finish.number q some c.advance.ensures
    ∙ ap (λ s. behind (left_of s a w.taken rows w.puts w.queue) r) (sym c.in-Finish.is))
    (ap (λ s. draws (left_of s a w.taken rows w.puts q)) c.in-Finish.is ∙ draws-finished a w.taken rows w.puts q c.in-Finish.number)
    ∙ ap (λ n. settled c.args.numbers.now.host n.seen (behind (left w blocks) r)) c.hear.ensures

pub returns-in-Release-clause-told : goal.returns-in-Release-clause-told
returns-in-Release-clause-told c =
    let w = c.args.self.now in
    let blocks = c.args.blocks.now in
    let a = access_of w.job blocks in
    let q = c.advance-in-Release.new.self in
    let r = c.args.reply.now in
    let rows = w.confirmed in
    let some : 0 < length w.queue = has-errand w.stage a w.taken rows w.puts w.queue w.job.n w.job.parts.items w.kept w.awake c.requires.asks in
    stands c.args.numbers.now.host c.hear.new.self.seen (behind (left w blocks) r) (left_of w.stage a w.taken rows w.puts q)
    (ap (λ s. left_of s a w.taken rows w.puts q) c.in-Release.is
    ∙ released-left a w.taken rows w.puts w.queue r c.in-Release.cause q some c.advance-in-Release.ensures
    ∙ ap (λ s. behind (left_of s a w.taken rows w.puts w.queue) r) (sym c.in-Release.is))
    (ap (λ s. draws (left_of s a w.taken rows w.puts q)) c.in-Release.is ∙ draws-released a w.taken rows w.puts q c.in-Release.cause)
    ∙ ap (λ n. settled c.args.numbers.now.host n.seen (behind (left w blocks) r)) c.hear.ensures
