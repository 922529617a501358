use Rattle.std.proofs.Common.{[], ap, sym, ◌∙◌, if◌then◌else◌}
use Rattle.raid_base.specs.Replies.{is_done}
use Rattle.raid_base.specs.Steps.{behind}
use Rattle.attempts.specs.Accesses.{access_of}
use Rattle.attempts.specs.Reading.{first_row}
use Rattle.host_read.specs.Left.{left_of}
use Rattle.host_read.proofs.TryLemmas.{freed-left}
use Rattle.host_read.proofs.read_try.ReadTry.take_freed.Goals as goal

pub returns : goal.returns
returns c =
    let t = c.args.self.now in
    let a = access_of t.job [] in
    let r = c.args.reply.now in
    freed-left a t.taken c.args.number c.args.gone c.gone_row.result t.queue c.advance.new.self r c.requires.some c.advance.ensures
    (c.gone_row.ensures ∙ ap (λ e. if is_done r then c.args.gone else first_row c.args.gone e.request) c.head-errand.ensures)
    ∙ ap (λ s. behind (left_of s a t.taken t.queue) r) (sym c.requires.stage)
