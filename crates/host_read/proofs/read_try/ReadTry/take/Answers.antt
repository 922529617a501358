use Rattle.std.proofs.Common.{[], length, ap, sym, ◌∙◌}
use Rattle.raid_base.specs.Steps.{behind, settled}
use Rattle.attempts.specs.Accesses.{access_of}
use Rattle.host_read.specs.Left.{left_of}
use Rattle.host_read.specs.Tries.{left}
use Rattle.host_read.proofs.ReadLemmas.{draws-left, draws-released}
use Rattle.host_read.proofs.TryLemmas.{stands, released-left, has-errand}
use Rattle.raid_base.specs.declared.jobs.Ended.TheVariants.{Refused}
use Rattle.raid_base.specs.Steps.{draws}
use Rattle.host_read.proofs.read_try.ReadTry.take.Goals as goal

pub returns-in-Freeing-clause-told : goal.returns-in-Freeing-clause-told
returns-in-Freeing-clause-told c =
    let t = c.args.self.now in
    let now = c.take_freed.new.self in
    let r = c.args.reply.now in
    stands c.args.numbers.now.host c.hear.new.self.seen (behind (left t) r) (left now) c.take_freed.ensures
    (draws-left now.stage (access_of now.job []) now.taken now.queue (length now.job.parts.items) now.kept now.awake)
    ∙ ap (λ n. settled c.args.numbers.now.host n.seen (behind (left t) r)) c.hear.ensures

pub returns-in-Releasing-clause-told : goal.returns-in-Releasing-clause-told
returns-in-Releasing-clause-told c =
    let t = c.args.self.now in
    let a = access_of t.job [] in
    let q = c.advance.new.self in
    let r = c.args.reply.now in
    stands c.args.numbers.now.host c.hear.new.self.seen (behind (left t) r) (left_of t.stage a t.taken q)
    (ap (λ s. left_of s a t.taken q) c.in-Releasing.is
    ∙ released-left a t.taken c.in-Releasing.cause t.queue q r (has-errand t.stage a t.taken t.queue (length t.job.parts.items) t.kept t.awake c.requires) c.advance.ensures
    ∙ ap (λ s. behind (left_of s a t.taken t.queue) r) (sym c.in-Releasing.is))
    (ap (λ s. draws (left_of s a t.taken q)) c.in-Releasing.is ∙ draws-released q (Refused c.in-Releasing.cause))
    ∙ ap (λ n. settled c.args.numbers.now.host n.seen (behind (left t) r)) c.hear.ensures
