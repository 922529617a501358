use Rattle.std.proofs.Common.{◌≡◌, ◌<◌, List, [], ◌∷◌, ◌++◌, true, None, Some, option_map, length, ap, sym, ◌∙◌, arith}
use Rattle.std.proofs.lemmas.List.{get_or_read}
use Rattle.raid_base.specs.First.{first_errand}
use Rattle.raid_base.specs.Steps.{Standing, behind, settled}
use Rattle.attempts.specs.Accesses.{access_of}
use Rattle.attempts.specs.Taking.{Row, Finish as Outcome, behind_from, with_parity}
use Rattle.attempts.specs.Writing.{row_or_change, confirm_cause}
use Rattle.host_write.specs.declared.stages.WriteStage.TheVariants.{Confirm}
use Rattle.host_write.specs.Stages.{is_kept}
use Rattle.host_write.specs.Left.{left_of, row_at, confirmed_so_far}
use Rattle.host_write.proofs.DrawnLemmas.{stands, draws-left}
use Rattle.host_write.proofs.TryLemmas.{confirm-left, unconfirmed-left, one-confirm, within-confirm}
use Rattle.host_write.proofs.write_try.WriteTry.take_confirm.Goals as goal

pub returns-in-Some-clause-told : goal.returns-in-Some-clause-told
returns-in-Some-clause-told c =
    let w = c.args.self.now in
    let a = access_of w.job c.args.blocks.now in
    let r = c.args.reply.now in
    let t = w.taken in
    let rows = w.confirmed in
    let ahead = c.after_confirm-ahead.result in
    let now = c.settled-stage.result in
    let slice = c.as_slice-rows.result.now in
    let kept : is_kept Confirm w.job.n w.job.parts.items (length w.queue) t rows w.puts ≡ true =
    sym (ap (λ s. is_kept s w.job.n w.job.parts.items (length w.queue) t rows w.puts) c.requires.stage) ∙ w.kept in
    let one : length w.queue ≡ 1 = one-confirm w.job.n w.job.parts.items w.queue t rows w.puts kept in
    let within : c.len.result < length c.before-2.result.now =
    omega (arith, within-confirm w.job.n w.job.parts.items w.queue t rows w.puts kept, ap length c.before-2.ensures, c.len.ensures) in
    let this : c.index-before-len.result ≡ row_at t.before (length rows) =
    get_or_read c.before-2.result.now c.len.result c.index-before-len.result within c.index-before-len.is _
    ∙ ap (λ xs. row_at xs c.len.result) c.before-2.ensures ∙ ap (row_at t.before) c.len.ensures in
    let parity = c.in-Some.parity in
    let told : option_map (λ p. with_parity p c.index-before-len.result) (Some parity) ≡ row_or_change (behind_from a.mode a.id) t.missing (first_errand w.queue).bay c.index-before-len.result r = cc in
    let held : row_or_change (behind_from a.mode a.id) t.missing (first_errand w.queue).bay (row_at t.before (length rows)) r ≡ Some (with_parity parity (row_at t.before (length rows))) =
    ap (λ x. row_or_change (behind_from a.mode a.id) t.missing (first_errand w.queue).bay x r) (sym this) ∙ sym told ∙ ap (λ x. Some (with_parity parity x)) this in
    let standing : List Row → Standing Outcome = λ xs. record { seen = c.settled-stage.new.numbers.seen; steps = left_of now.stage a t xs c.settled-stage.new.puts now.queue } in
    ap standing (sym c.as_slice-rows.ensures)
    ∙ c.settled-stage.ensures.left
    ∙ ap (settled c.args.numbers.now.host c.args.numbers.now.seen)
    (confirm-left a t rows w.puts w.queue r (with_parity parity (row_at t.before (length rows))) slice (left_of ahead.stage a t slice c.after_confirm-ahead.new.puts ahead.queue) one held
    (c.as_slice-rows.ensures ∙ c.push.ensures ∙ ap (λ x. rows ++ with_parity parity x ∷ []) this) c.after_confirm-ahead.ensures.left
    ∙ ap (λ s. behind (left_of s a t rows w.puts w.queue) r) (sym c.requires.stage))

pub returns-in-None-clause-told : goal.returns-in-None-clause-told
returns-in-None-clause-told c =
    let w = c.args.self.now in
    let a = access_of w.job c.args.blocks.now in
    let r = c.args.reply.now in
    let t = w.taken in
    let rows = w.confirmed in
    let now = c.unconfirmed-stage.result in
    let kept : is_kept Confirm w.job.n w.job.parts.items (length w.queue) t rows w.puts ≡ true =
    sym (ap (λ s. is_kept s w.job.n w.job.parts.items (length w.queue) t rows w.puts) c.requires.stage) ∙ w.kept in
    let one : length w.queue ≡ 1 = one-confirm w.job.n w.job.parts.items w.queue t rows w.puts kept in
    let within : c.len.result < length c.before-2.result.now =
    omega (arith, within-confirm w.job.n w.job.parts.items w.queue t rows w.puts kept, ap length c.before-2.ensures, c.len.ensures) in
    let this : c.index-before-len.result ≡ row_at t.before (length rows) =
    get_or_read c.before-2.result.now c.len.result c.index-before-len.result within c.index-before-len.is _
    ∙ ap (λ xs. row_at xs c.len.result) c.before-2.ensures ∙ ap (row_at t.before) c.len.ensures in
    let told : option_map (λ p. with_parity p c.index-before-len.result) None ≡ row_or_change (behind_from a.mode a.id) t.missing (first_errand w.queue).bay c.index-before-len.result r = cc in
    let changed : row_or_change (behind_from a.mode a.id) t.missing (first_errand w.queue).bay (row_at t.before (length rows)) r ≡ None =
    ap (λ x. row_or_change (behind_from a.mode a.id) t.missing (first_errand w.queue).bay x r) (sym this) ∙ sym told in
    let why_read : c.confirm_cause-cause.result ≡ confirm_cause a c.index-before-len.result (confirmed_so_far t rows) (first_errand w.queue) r = cc in
    let why : c.confirm_cause-cause.result ≡ confirm_cause a (row_at t.before (length rows)) (confirmed_so_far t rows) (first_errand w.queue) r =
    why_read ∙ ap (λ x. confirm_cause a x (confirmed_so_far t rows) (first_errand w.queue) r) this in
    stands c.args.numbers.now.host c.args.numbers.now.seen (behind (left_of w.stage a t rows w.puts w.queue) r) (left_of now.stage a t rows w.puts now.queue)
    (unconfirmed-left a t rows w.puts w.queue r c.confirm_cause-cause.result (left_of now.stage a t rows w.puts now.queue) (omega (arith, one)) changed why (c.unconfirmed-stage.ensures.left c.args.blocks.now rows w.puts)
    ∙ ap (λ s. behind (left_of s a t rows w.puts w.queue) r) (sym c.requires.stage))
    (draws-left now.stage a t rows w.puts now.queue w.job.n w.job.parts.items (c.unconfirmed-stage.ensures.kept rows w.puts) c.unconfirmed-stage.ensures.awake)
