-- What is left of a write.
use Rattle.std.specs.Prelude.{ℕ, ◌+◌, List, length, drop, slice_index_or}
use Rattle.raid_base.specs.declared.numbers.Number.{Number}
use Rattle.raid_base.specs.declared.jobs.Ended.TheVariants.{Refused}
use Rattle.raid_base.specs.declared.messages.Errand.{Errand}
use Rattle.raid_base.specs.Steps.{Steps, bind, drawn, run}
use Rattle.attempts.specs.Taking.{Access, Finish, Row, Rows, Taken, fresh_row, with_parity, with_wanted, with_other, taking_until}
use Rattle.attempts.specs.Releases.{releasing, end_as}
use Rattle.attempts.specs.Puts.{Puts, putting_data, putting_parity}
use Rattle.attempts.specs.Writing.{claiming, other_shares, parity_claimed, row_claimed, small_claimed, others_shared, claim_rows, confirming, row_confirmed, confirm_rows, write_drawn, data_done, parity_done, put_rows, write_last, finishing, write_end}
use Rattle.host_write.specs.declared.stages.WriteStage.{WriteStage}
use Rattle.host_write.specs.declared.stages.WriteStage.TheVariants as stages

-- the row at a place
abbrev pub row_at : List Row → ℕ → Row
row_at rows k = slice_index_or rows k (fresh_row (record { row = record { 0 = 0 }; mask = 0; at = 0; count = 0 }))

-- once the row in hand is done the other rows follow
abbrev pub rest_of : Access → Taken → Rows → Steps Finish
rest_of a t = claim_rows a (drop (length t.before + 1) a.parts)

-- the rows confirmed so far
abbrev pub confirmed_so_far : Taken → List Row → Rows
confirmed_so_far t rows = record { rows = rows; missing = t.missing }

-- once this row is confirmed the other rows follow
abbrev pub confirms_of : Access → Taken → ℕ → Rows → Steps Finish
confirms_of a t k = confirm_rows a t.before (drop (k + 1) t.before)

-- once this row is put the other rows follow
abbrev pub puts_of : Access → Number → List Row → ℕ → Puts → Steps Finish
puts_of a n rows k = put_rows a n (write_last a n rows) (drop (k + 1) rows)

-- what is left at a stage, with these errands to ask first
abbrev pub left_of : WriteStage → Access → Taken → List Row → Puts → List Errand → Steps Finish
left_of stages.ClaimParity a t rows puts errands = bind (run (claiming a with_parity) errands t) (parity_claimed a (rest_of a t))
left_of stages.ClaimWanted a t rows puts errands = bind (run (claiming a with_wanted) errands t) (row_claimed a (rest_of a t))
left_of stages.ClaimSmall a t rows puts errands = bind (run (claiming a with_wanted) errands t) (small_claimed a (rest_of a t))
left_of stages.ShareUntil a t rows puts errands = bind (run (taking_until with_other) errands t) (others_shared a (rest_of a t))
left_of stages.ShareAfter a t rows puts errands = bind (run (claiming a with_other) errands t) (row_claimed a (rest_of a t))
left_of stages.Confirm a t rows puts errands =
    bind (run (confirming a (row_at t.before (length rows))) errands (confirmed_so_far t rows)) (row_confirmed a t.before (row_at t.before (length rows)) (confirms_of a t (length rows)))
left_of stages.Draw a t rows puts errands = bind drawn (write_drawn a rows)
left_of (stages.PutData n k) a t rows puts errands = bind (run (putting_data a n (row_at rows k)) errands puts) (data_done a n (row_at rows k) (puts_of a n rows k))
left_of (stages.PutParity n k) a t rows puts errands = bind (run (putting_parity a n (row_at rows k)) errands puts) (parity_done (row_at rows k) (puts_of a n rows k))
left_of (stages.Finish n) a t rows puts errands = bind (run (finishing a n) errands puts) (write_end a n)
left_of (stages.Release cause) a t rows puts errands = bind (run releasing errands tt) (end_as (Refused cause))

-- the shares of the other units up to the first that is missing, and then the claims
abbrev pub claim_reconstruct : Access → (Rows → Steps Finish) → Taken → Steps Finish
claim_reconstruct a rest t = bind (run (taking_until with_other) (other_shares a t.row.part) t) (others_shared a rest)
