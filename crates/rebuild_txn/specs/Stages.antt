-- Where a rebuild stands.
use Rattle.std.specs.Prelude.{ℕ, ◌+◌, Bool, true, ◌&&◌, nat_lt, nat_le, ◌==◌}
use Rattle.rebuild_txn.specs.declared.stages.MendStage.{MendStage}
use Rattle.rebuild_txn.specs.declared.stages.MendStage.TheVariants.{Claiming, Confirming, Putting, Releasing}

-- what each stage keeps of this many errands left and slots held
abbrev pub is_kept : MendStage → ℕ → ℕ → Bool
is_kept Claiming left holds = nat_lt 0 left && nat_le (holds + left) 16
is_kept Confirming left holds = (left == 1) && nat_le holds 16
is_kept Putting left holds = (left == 1) && nat_le holds 16
is_kept (Releasing why) left holds = true
