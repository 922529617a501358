use Rattle.std.proofs.Common.{◌≡◌, ◌<◌, [], true, None, Some, length, refl, ap, sym, ◌∙◌, arith}
use Rattle.raid_base.specs.First.{first_errand}
use Rattle.raid_base.specs.Replies.{grant_of}
use Rattle.raid_base.specs.Steps.{behind, settled}
use Rattle.attempts.specs.Accesses.{access_of}
use Rattle.attempts.specs.Taking.{behind_from, refusal, with_grant, with_parity}
use Rattle.attempts.specs.Reading.{parity_shared}
use Rattle.host_read.specs.declared.stages.ReadStage.TheVariants.{Parity}
use Rattle.host_read.specs.Stages.{is_kept}
use Rattle.host_read.specs.Left.{left_of, rest_of}
use Rattle.host_read.specs.Tries.{left}
use Rattle.host_read.proofs.ReadLemmas.{draws-left}
use Rattle.host_read.proofs.TryLemmas.{stands, stop-left, last-left, one-parity}
use Rattle.host_read.proofs.read_try.ReadTry.take_parity.Goals as goal

pub returns-in-Some-clause-told : goal.returns-in-Some-clause-told
returns-in-Some-clause-told c =
    let t = c.args.self.now in
    let a = access_of t.job [] in
    let r = c.args.reply.now in
    let now = c.refuse.new.self in
    let kept : is_kept Parity (length t.job.parts.items) (length t.queue) t.taken ≡ true = sym (ap (λ s. is_kept s (length t.job.parts.items) (length t.queue) t.taken) c.requires) ∙ t.kept in
    let some : 0 < length t.queue = omega (arith, one-parity t.taken t.queue (length t.job.parts.items) kept) in
    let why : refusal (behind_from a.mode a.id) t.taken.missing (first_errand t.queue).bay r ≡ Some c.in-Some.cause = cc in
    stands c.args.numbers.now.host c.args.numbers.now.seen (behind (left_of t.stage a t.taken t.queue) r) (left now)
    (stop-left a with_parity (parity_shared a (rest_of a t.taken)) t.taken t.queue r c.in-Some.cause (left now) some why refl c.refuse.ensures
    ∙ ap (λ s. behind (left_of s a t.taken t.queue) r) (sym c.requires))
    (draws-left now.stage (access_of now.job []) now.taken now.queue (length now.job.parts.items) now.kept now.awake)

pub returns-in-None-clause-told : goal.returns-in-None-clause-told
returns-in-None-clause-told c =
    let t = c.args.self.now in
    let a = access_of t.job [] in
    let r = c.args.reply.now in
    let t' = c.keep_parity.new.self in
    let ahead = c.after_parity-ahead.result in
    let kept : is_kept Parity (length t.job.parts.items) (length t.queue) t.taken ≡ true = sym (ap (λ s. is_kept s (length t.job.parts.items) (length t.queue) t.taken) c.requires) ∙ t.kept in
    let one : length t.queue ≡ 1 = one-parity t.taken t.queue (length t.job.parts.items) kept in
    let why : refusal (behind_from a.mode a.id) t.taken.missing (first_errand t.queue).bay r ≡ None = cc in
    let keeps : t' ≡ with_grant with_parity t.taken (first_errand t.queue).bay (grant_of r) = cc in
    c.settled-stage.ensures.left
    ∙ ap (settled c.args.numbers.now.host c.args.numbers.now.seen)
    (last-left a with_parity (parity_shared a) t.taken t' t.queue r (left_of ahead.stage a c.after_parity-ahead.new.taken ahead.queue) one why keeps c.after_parity-ahead.ensures.left
    ∙ ap (λ s. behind (left_of s a t.taken t.queue) r) (sym c.requires))
