-- Where a recovery stands.
use Rattle.std.specs.Prelude.{ℕ, ◌+◌, Bool, true, false, ◌&&◌, nat_lt, nat_le, ◌==◌, length}
use Rattle.raid_base.specs.declared.jobs.Cause.TheVariants.{Quit}
use Rattle.raid_base.specs.declared.jobs.Ended.{Ended}
use Rattle.raid_base.specs.declared.jobs.Ended.TheVariants.{Recovered, Refused}
use Rattle.attempts.specs.Taking.{Taken}
use Rattle.stripe_recovery.specs.declared.stages.RecoverStage.{RecoverStage}
use Rattle.stripe_recovery.specs.declared.stages.RecoverStage.TheVariants.{Parity, Units, Confirming, Putting, Closing, Releasing}

-- what each stage keeps of this many errands left, and of what was taken
abbrev pub is_kept : RecoverStage → ℕ → Taken → Bool
is_kept Parity left taken = (left == 1) && (length taken.row.wanted == 0)
is_kept Units left taken = nat_lt 0 left && nat_le (length taken.row.wanted + left) 16
is_kept Confirming left taken = (left == 1) && nat_le (length taken.row.wanted) 16
is_kept (Putting number lost) left taken = left == 1
is_kept (Closing number lost) left taken = true
is_kept (Releasing why) left taken = true

-- how it ends where the host stops
abbrev pub quit_end : RecoverStage → Ended
quit_end Parity = Refused Quit
quit_end Units = Refused Quit
quit_end Confirming = Refused Quit
quit_end (Putting number lost) = Refused Quit
quit_end (Closing number lost) = Recovered number false lost
quit_end (Releasing why) = Refused Quit
