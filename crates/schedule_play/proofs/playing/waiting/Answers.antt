use Rattle.std.proofs.Common.{◌≡◌, refl, ◌∙◌, Bool, true, false, if◌then◌else◌, Some, None}
use Rattle.raid_base.specs.declared.numbers.HostNo.{HostNo}
use Rattle.histories.specs.History.{has_ended}
use Rattle.schedule_play.specs.Plays.{unless_ended}
use Rattle.schedule_play.proofs.playing.waiting.Goals as goal

unless-if : (ended : Bool) (host : HostNo) → (if ended then None else Some host) ≡ unless_ended ended host
unless-if true host = refl
unless-if false host = refl

pub returns : goal.returns
returns c script history playable asked shows =
    c.waiting.ensures script c.args.host.now.no _ shows.stands ∙ unless-if (has_ended script history c.args.host.now.no) c.args.host.now.no
