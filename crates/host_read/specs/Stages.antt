-- Where a read stands.
use Rattle.std.specs.Prelude.{ℕ, ◌+◌, Bool, true, false, ◌&&◌, nat_lt, nat_le, ◌==◌, length}
use Rattle.attempts.specs.Taking.{Taken}
use Rattle.host_read.specs.declared.stages.ReadStage.{ReadStage}
use Rattle.host_read.specs.declared.stages.ReadStage.TheVariants.{Wanted, Parity, Others, Drawing, Freeing, Releasing}

-- a row is in hand, with room for the slots that are asked
abbrev pub has_room : ℕ → ℕ → ℕ → Taken → Bool
has_room parts wanted others taken = nat_lt (length taken.before) parts && nat_le (length taken.row.wanted + wanted) 16 && nat_le (length taken.row.others + others) 16

-- what each stage keeps of this many parts and errands left
abbrev pub is_kept : ReadStage → ℕ → ℕ → Taken → Bool
is_kept Wanted parts left taken = nat_lt 0 left && (length taken.row.others == 0) && has_room parts left 0 taken
is_kept Parity parts left taken = (left == 1) && (length taken.row.others == 0) && has_room parts 0 0 taken
is_kept Others parts left taken = nat_lt 0 left && has_room parts 0 left taken
is_kept Drawing parts left taken = (left == 0) && nat_le (length taken.before) parts
is_kept (Freeing number row) parts left taken = nat_le (length taken.before) parts
is_kept (Releasing cause) parts left taken = true

-- no number is to be drawn
abbrev pub is_settled : ReadStage → Bool
is_settled Drawing = false
is_settled Wanted = true
is_settled Parity = true
is_settled Others = true
is_settled (Freeing number row) = true
is_settled (Releasing cause) = true
