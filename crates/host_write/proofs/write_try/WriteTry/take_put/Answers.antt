use Rattle.std.proofs.Common.{◌≡◌, ◌<◌, true, if◌then◌else◌, length, ap, sym, ◌∙◌, arith}
use Rattle.std.proofs.lemmas.List.{get_or_read}
use Rattle.raid_base.specs.declared.messages.Errand.{Errand}
use Rattle.raid_base.specs.First.{first_errand}
use Rattle.raid_base.specs.Replies.{is_fault, put_end}
use Rattle.raid_base.specs.Steps.{behind}
use Rattle.attempts.specs.Accesses.{access_of}
use Rattle.attempts.specs.Puts.{Faulted, Robbed, with_trouble, trouble_of}
use Rattle.host_write.specs.declared.stages.WriteStage.TheVariants.{PutParity}
use Rattle.host_write.specs.Stages.{is_kept}
use Rattle.host_write.specs.Left.{left_of, row_at, puts_of}
use Rattle.host_write.proofs.TryLemmas.{parity-last, parity-stop, parity-some, parity-none, within-put, one-put}
use Rattle.host_write.proofs.write_try.WriteTry.take_put.Goals as goal

pub returns-then-parity_answered-clause-left : goal.returns-then-parity_answered-clause-left
returns-then-parity_answered-clause-left c =
    let w = c.args.self.now in
    let a = access_of w.job c.args.blocks.now in
    let r = c.args.reply.now in
    let t = w.taken in
    let rows = w.confirmed in
    let n = c.args.number in
    let k = c.args.row in
    let q = w.queue in
    let slice = c.as_slice-rows.result.now in
    let kept : is_kept (PutParity n k) w.job.n w.job.parts.items (length q) t rows w.puts ≡ true =
    sym (ap (λ s. is_kept s w.job.n w.job.parts.items (length q) t rows w.puts) c.requires.stage) ∙ w.kept in
    let within : k < length slice = omega (arith, within-put n k w.job.n w.job.parts.items q t rows w.puts kept, ap length c.as_slice-rows.ensures) in
    let this : c.index-rows-row.result ≡ row_at rows k = get_or_read slice k c.index-rows-row.result within c.index-rows-row.is _ ∙ ap (λ xs. row_at xs k) c.as_slice-rows.ensures in
    let one : length q ≡ 1 = one-put n k w.job.n w.job.parts.items q t rows w.puts kept in
    let ahead = c.next_put-stage.result in
    let puts = c.parity_answered.new.puts in
    ap (λ xs. left_of ahead.stage a t xs c.next_put-stage.new.puts ahead.queue) (sym c.as_slice-rows.ensures)
    ∙ c.next_put-stage.ensures.left t
    ∙ ap (λ xs. puts_of a n xs k puts) c.as_slice-rows.ensures
    ∙ parity-last a t rows w.puts q r n k puts one
    (parity-some a c.index-rows-row.result (row_at rows k) w.puts puts (put_end r) c.parity_answered.result this (c.parity_answered.ensures.value c.args.blocks.now) c.if-parity_answered.true)
    ∙ ap (λ s. behind (left_of s a t rows w.puts q) r) (sym c.requires.stage)

pub returns-else-parity_answered-clause-left : goal.returns-else-parity_answered-clause-left
returns-else-parity_answered-clause-left c =
    let w = c.args.self.now in
    let a = access_of w.job c.args.blocks.now in
    let r = c.args.reply.now in
    let t = w.taken in
    let rows = w.confirmed in
    let n = c.args.number in
    let k = c.args.row in
    let q = w.queue in
    let slice = c.as_slice-rows.result.now in
    let kept : is_kept (PutParity n k) w.job.n w.job.parts.items (length q) t rows w.puts ≡ true =
    sym (ap (λ s. is_kept s w.job.n w.job.parts.items (length q) t rows w.puts) c.requires.stage) ∙ w.kept in
    let within : k < length slice = omega (arith, within-put n k w.job.n w.job.parts.items q t rows w.puts kept, ap length c.as_slice-rows.ensures) in
    let this : c.index-rows-row.result ≡ row_at rows k = get_or_read slice k c.index-rows-row.result within c.index-rows-row.is _ ∙ ap (λ xs. row_at xs k) c.as_slice-rows.ensures in
    let one : length q ≡ 1 = one-put n k w.job.n w.job.parts.items q t rows w.puts kept in
    let troubled : c.add_trouble.new.puts ≡ with_trouble w.puts (trouble_of (row_at rows k) (first_errand q) r) =
    c.add_trouble.ensures
    ∙ ap (λ p. with_trouble p (if is_fault r then Faulted c.head.result.bay else Robbed c.part-part.result)) (c.parity_answered.ensures.same c.if-parity_answered.false)
    ∙ ap (λ (e : Errand). with_trouble w.puts (if is_fault r then Faulted e.bay else Robbed c.part-part.result)) c.head.ensures
    ∙ ap (λ p. with_trouble w.puts (if is_fault r then Faulted (first_errand q).bay else Robbed p)) c.part-part.ensures
    ∙ ap (λ x. with_trouble w.puts (trouble_of x (first_errand q) r)) this in
    let ahead = c.next_put-stage-else-parity_answered.result in
    ap (λ xs. left_of ahead.stage a t xs c.next_put-stage-else-parity_answered.new.puts ahead.queue) (sym c.as_slice-rows.ensures)
    ∙ c.next_put-stage-else-parity_answered.ensures.left t
    ∙ ap (λ xs. puts_of a n xs k c.add_trouble.new.puts) c.as_slice-rows.ensures
    ∙ ap (puts_of a n rows k) troubled
    ∙ parity-stop a t rows w.puts q r n k (omega (arith, one))
    (parity-none a c.index-rows-row.result (row_at rows k) w.puts c.parity_answered.new.puts (put_end r) c.parity_answered.result this (c.parity_answered.ensures.value c.args.blocks.now) c.if-parity_answered.false)
    ∙ ap (λ s. behind (left_of s a t rows w.puts q) r) (sym c.requires.stage)
