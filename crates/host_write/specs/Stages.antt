-- Where a write stands.
use Rattle.std.specs.Prelude.{ℕ, ◌+◌, ◌*◌, Bool, true, false, ◌&&◌, nat_lt, nat_le, ◌==◌, List, length}
use Rattle.std.specs.List.{list_all}
use Rattle.raid_base.specs.declared.jobs.RowPart.{RowPart}
use Rattle.attempts.specs.Parts.{blocks_in, is_part}
use Rattle.attempts.specs.Taking.{Row, Taken}
use Rattle.attempts.specs.Puts.{Puts}
use Rattle.host_write.specs.declared.stages.WriteStage.{WriteStage}
use Rattle.host_write.specs.declared.stages.WriteStage.TheVariants.{ClaimParity, ClaimWanted, ClaimSmall, ShareUntil, ShareAfter, Confirm, Draw, PutData, PutParity, Finish, Release}

-- a row of the job's parts, of as many slots as it can have
abbrev pub is_row : ℕ → ℕ → Row → Bool
is_row n total row = is_part n total row.part && nat_le (length row.wanted) 16 && nat_le (length row.others) 16

-- at most eight such rows
abbrev pub are_rows : ℕ → ℕ → List Row → Bool
are_rows n total rows = nat_le (length rows) 8 && list_all (is_row n total) rows

-- a row is in hand, with room for the slots that are asked
abbrev pub has_room : ℕ → List RowPart → ℕ → ℕ → Taken → Bool
has_room n parts wanted others t =
    nat_lt (length t.before) (length parts) && are_rows n (blocks_in parts) t.before && is_part n (blocks_in parts) t.row.part
    && nat_le (length t.row.wanted + wanted) 16 && nat_le (length t.row.others + others) 16

-- the puts leave room for those that are to come
abbrev pub puts_room : ℕ → ℕ → Puts → Bool
puts_room row left puts = nat_le (length puts.made + left) (45 * row + 15) && nat_le (length puts.left + left) 15 && nat_le (length puts.troubles + left) (16 * row + 15)

-- what each stage keeps, with this many errands left
abbrev pub is_kept : WriteStage → ℕ → List RowPart → ℕ → Taken → List Row → Puts → Bool
is_kept ClaimParity n parts left t rows puts = (left == 1) && (length t.row.wanted == 0) && (length t.row.others == 0) && has_room n parts 0 0 t
is_kept ClaimWanted n parts left t rows puts = nat_lt 0 left && has_room n parts left 0 t
is_kept ClaimSmall n parts left t rows puts = nat_lt 0 left && (length t.row.others == 0) && has_room n parts left 0 t
is_kept ShareUntil n parts left t rows puts = nat_lt 0 left && (length t.row.wanted == 0) && has_room n parts 0 left t
is_kept ShareAfter n parts left t rows puts = nat_lt 0 left && has_room n parts 0 left t
is_kept Confirm n parts left t rows puts = (left == 1) && nat_lt (length rows) (length t.before) && are_rows n (blocks_in parts) t.before && are_rows n (blocks_in parts) rows
is_kept Draw n parts left t rows puts = (left == 0) && are_rows n (blocks_in parts) rows
is_kept (PutData number row) n parts left t rows puts = nat_lt 0 left && nat_lt row (length rows) && are_rows n (blocks_in parts) rows && puts_room row left puts
is_kept (PutParity number row) n parts left t rows puts = (left == 1) && nat_lt row (length rows) && are_rows n (blocks_in parts) rows && puts_room row 0 puts
is_kept (Finish number) n parts left t rows puts = true
is_kept (Release cause) n parts left t rows puts = true

-- no number is to be drawn
abbrev pub is_settled : WriteStage → Bool
is_settled Draw = false
is_settled ClaimParity = true
is_settled ClaimWanted = true
is_settled ClaimSmall = true
is_settled ShareUntil = true
is_settled ShareAfter = true
is_settled Confirm = true
is_settled (PutData number row) = true
is_settled (PutParity number row) = true
is_settled (Finish number) = true
is_settled (Release cause) = true
