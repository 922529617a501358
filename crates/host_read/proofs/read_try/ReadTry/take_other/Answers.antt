use Rattle.std.proofs.Common.{◌≡◌, ◌<◌, [], true, None, Some, length, length-drop, drop, refl, ap, sym, ◌∙◌, arith}
use Rattle.raid_base.specs.First.{first_errand}
use Rattle.raid_base.specs.Replies.{grant_of}
use Rattle.raid_base.specs.Steps.{behind, draws, settled}
use Rattle.raid_base.proofs.DrawLemmas.{draws-run}
use Rattle.attempts.specs.Accesses.{access_of}
use Rattle.attempts.specs.Taking.{behind_from, refusal, with_grant, with_other}
use Rattle.attempts.specs.Reading.{sharing, row_shared}
use Rattle.host_read.specs.declared.stages.ReadStage.TheVariants.{Others}
use Rattle.host_read.specs.Stages.{is_kept}
use Rattle.host_read.specs.Left.{left_of, rest_of}
use Rattle.host_read.specs.Tries.{left}
use Rattle.host_read.proofs.ReadLemmas.{draws-left}
use Rattle.host_read.proofs.TryLemmas.{stands, stop-left, on-left, last-left, some-others}
use Rattle.host_read.proofs.read_try.ReadTry.take_other.Goals as goal

pub returns-in-Some-clause-told : goal.returns-in-Some-clause-told
returns-in-Some-clause-told c =
    let t = c.args.self.now in
    let a = access_of t.job [] in
    let r = c.args.reply.now in
    let now = c.refuse.new.self in
    let kept : is_kept Others (length t.job.parts.items) (length t.queue) t.taken ≡ true = sym (ap (λ s. is_kept s (length t.job.parts.items) (length t.queue) t.taken) c.requires) ∙ t.kept in
    let some : 0 < length t.queue = some-others t.taken t.queue (length t.job.parts.items) kept in
    let why : refusal (behind_from a.mode a.id) t.taken.missing (first_errand t.queue).bay r ≡ Some c.in-Some.cause = cc in
    stands c.args.numbers.now.host c.args.numbers.now.seen (behind (left_of t.stage a t.taken t.queue) r) (left now)
    (stop-left a with_other (row_shared a (rest_of a t.taken)) t.taken t.queue r c.in-Some.cause (left now) some why refl c.refuse.ensures
    ∙ ap (λ s. behind (left_of s a t.taken t.queue) r) (sym c.requires))
    (draws-left now.stage (access_of now.job []) now.taken now.queue (length now.job.parts.items) now.kept now.awake)

pub returns-then-len-gt1-clause-told : goal.returns-then-len-gt1-clause-told
returns-then-len-gt1-clause-told c =
    let t = c.args.self.now in
    let a = access_of t.job [] in
    let r = c.args.reply.now in
    let t' = c.keep_other.new.self in
    let q = c.advance.new.self in
    let kept : is_kept Others (length t.job.parts.items) (length t.queue) t.taken ≡ true = sym (ap (λ s. is_kept s (length t.job.parts.items) (length t.queue) t.taken) c.requires) ∙ t.kept in
    let some : 0 < length t.queue = some-others t.taken t.queue (length t.job.parts.items) kept in
    let why : refusal (behind_from a.mode a.id) t.taken.missing (first_errand t.queue).bay r ≡ None = cc in
    let keeps : t' ≡ with_grant with_other t.taken (first_errand t.queue).bay (grant_of r) = cc in
    let more : q ≡ drop 1 t.queue = c.advance.ensures in
    let long : 0 < length q = omega (arith, ap length more, length-drop 1 t.queue) in
    stands c.args.numbers.now.host c.args.numbers.now.seen (behind (left_of t.stage a t.taken t.queue) r) (left_of t.stage a t' q)
    (ap (λ s. left_of s a t' q) c.requires
    ∙ on-left a with_other (row_shared a) t.taken t' t.queue q r some why keeps more
    ∙ ap (λ s. behind (left_of s a t.taken t.queue) r) (sym c.requires))
    (ap (λ s. draws (left_of s a t' q)) c.requires ∙ draws-run (sharing a with_other) q t' (row_shared a (rest_of a t')) long)

pub returns-else-len-gt1-clause-told : goal.returns-else-len-gt1-clause-told
returns-else-len-gt1-clause-told c =
    let t = c.args.self.now in
    let a = access_of t.job [] in
    let r = c.args.reply.now in
    let t' = c.keep_other.new.self in
    let ahead = c.end_row-ahead.result in
    let kept : is_kept Others (length t.job.parts.items) (length t.queue) t.taken ≡ true = sym (ap (λ s. is_kept s (length t.job.parts.items) (length t.queue) t.taken) c.requires) ∙ t.kept in
    let some : 0 < length t.queue = some-others t.taken t.queue (length t.job.parts.items) kept in
    let one : length t.queue ≡ 1 = omega (arith, some) in
    let why : refusal (behind_from a.mode a.id) t.taken.missing (first_errand t.queue).bay r ≡ None = cc in
    let keeps : t' ≡ with_grant with_other t.taken (first_errand t.queue).bay (grant_of r) = cc in
    c.settled-stage.ensures.left
    ∙ ap (settled c.args.numbers.now.host c.args.numbers.now.seen)
    (last-left a with_other (row_shared a) t.taken t' t.queue r (left_of ahead.stage a c.end_row-ahead.new.taken ahead.queue) one why keeps c.end_row-ahead.ensures.left
    ∙ ap (λ s. behind (left_of s a t.taken t.queue) r) (sym c.requires))
