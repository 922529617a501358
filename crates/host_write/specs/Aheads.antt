-- What comes next of a write, by its stage and errands, and what is then left of it.
use Rattle.std.specs.Prelude.{◌≡◌, ℕ, Bool, true, List, [], length, drop, Result}
use Rattle.raid_base.specs.declared.numbers.Number.{Number}
use Rattle.raid_base.specs.declared.numbers.Spent.{Spent}
use Rattle.raid_base.specs.declared.jobs.Cause.{Cause}
use Rattle.raid_base.specs.Steps.{Steps, Through, settled}
use Rattle.place_numbers.specs.declared.Numbers.{Numbers}
use Rattle.attempts.specs.declared.assignment.Assignment.{Assignment}
use Rattle.attempts.specs.Accesses.{access_of}
use Rattle.attempts.specs.Taking.{Access, Finish, Row, Taken, row_ended}
use Rattle.attempts.specs.Releases.{refused_steps, write_releases}
use Rattle.attempts.specs.Puts.{Puts}
use Rattle.attempts.specs.Writing.{write_refused, claim_wanted, parity_claimed, small_claimed, confirm_rows, write_numbered, write_drawn, write_last, put_rows, data_done, put_steps}
use Rattle.host_write.specs.declared.stages.Ahead.{Ahead}
use Rattle.host_write.specs.Stages.{is_kept}
use Rattle.host_write.specs.Left.{left_of, rest_of, row_at, confirmed_so_far, puts_of, claim_reconstruct}

-- what is left once this comes next
abbrev pub left_next : Access → Ahead → Taken → List Row → Puts → Steps Finish
left_next a next t rows puts = left_of next.stage a t rows puts next.queue

-- what comes next keeps what its stage is to keep, with these rows confirmed and after these puts
abbrev pub KeepsStage : Assignment → Taken → List Row → Puts → Ahead → Type 0
KeepsStage job t rows puts next = is_kept next.stage job.n job.parts.items (length next.queue) t rows puts ≡ true

-- whatever rows are confirmed, and whatever was put
abbrev pub AlwaysKeepsStage : Assignment → Taken → Ahead → Type 0
AlwaysKeepsStage job t next = (rows : List Row) → (puts : Puts) → KeepsStage job t rows puts next

-- While the rows are claimed
-- these steps are left once this comes next, whatever rows are confirmed and whatever was put
abbrev pub LeadsTo : Assignment → Taken → Ahead → (Access → Steps Finish) → Type 0
LeadsTo job t next steps =
    (blocks : List (List ℕ)) → (rows : List Row) → (puts : Puts) → left_next (access_of job blocks) next t rows puts ≡ steps (access_of job blocks)

-- these steps are left once this comes next, where no row is confirmed
abbrev pub LeadsUnconfirmed : Assignment → Taken → Ahead → (Access → Steps Finish) → Type 0
LeadsUnconfirmed job t next steps =
    (blocks : List (List ℕ)) → (puts : Puts) → left_next (access_of job blocks) next t [] puts ≡ steps (access_of job blocks)

-- the claims are refused, and all that is held is given back
abbrev pub claim_refusal : Taken → Cause → Access → Steps Finish
claim_refusal t cause a = write_refused a t cause

-- a confirm is refused, and all rows are given back
abbrev pub confirm_refusal : Taken → Cause → Access → Steps Finish
confirm_refusal t cause a = refused_steps (write_releases a t.before) cause

-- the row in hand has its parity
abbrev pub rest_after_parity : Taken → Access → Steps Finish
rest_after_parity t a = parity_claimed a (rest_of a t) (Through t)

-- the row in hand claims its wanted units, with their cells or without
abbrev pub rest_from_wanted : Taken → Bool → Access → Steps Finish
rest_from_wanted t want a = claim_wanted a (rest_of a t) want t

-- the row in hand shares its other units, and then claims those wanted
abbrev pub rest_from_others : Taken → Access → Steps Finish
rest_from_others t a = claim_reconstruct a (rest_of a t) t

-- the row in hand has its wanted units with their cells
abbrev pub rest_after_small : Taken → Access → Steps Finish
rest_after_small t a = small_claimed a (rest_of a t) (Through t)

-- the row in hand is claimed
abbrev pub rest_after_row : Taken → Access → Steps Finish
rest_after_row t a = rest_of a t (row_ended t)

-- While the rows are confirmed: the next confirm is left once this comes next, or what follows the last
abbrev pub ConfirmsNext : Assignment → List (List ℕ) → Taken → List Row → Puts → Ahead → Type 0
ConfirmsNext job blocks t rows puts next =
    left_next (access_of job blocks) next t rows puts
    ≡ confirm_rows (access_of job blocks) t.before (drop (length rows) t.before) (confirmed_so_far t rows)

-- While the rows are put
-- these steps of these rows are left once this comes next, whatever is in hand
abbrev pub PutsLeadTo : Assignment → List (List ℕ) → List Row → Puts → Ahead → (Access → List Row → Steps Finish) → Type 0
PutsLeadTo job blocks rows puts next steps =
    (t : Taken) → left_next (access_of job blocks) next t rows puts ≡ steps (access_of job blocks) rows

-- the puts from a row on, after these
abbrev pub puts_from : Number → ℕ → Puts → Access → List Row → Steps Finish
puts_from number row puts a rows = put_rows a number (write_last a number rows) (drop row rows) puts

-- what follows the data puts of a row, after these
abbrev pub puts_after_data : Number → ℕ → Puts → Access → List Row → Steps Finish
puts_after_data number row puts a rows = data_done a number (row_at rows row) (puts_of a number rows row) (Through puts)

-- the puts with this number
abbrev pub puts_with : Number → Access → List Row → Steps Finish
puts_with number a rows = put_steps a number rows

-- the puts with this number, or where none is left all rows are given back
abbrev pub puts_drawn : Result Number Spent → Access → List Row → Steps Finish
puts_drawn number a rows = write_drawn a rows number

-- under stamps the puts, and under locks the draw and then the puts
abbrev pub puts_numbered : Access → List Row → Steps Finish
puts_numbered a rows = write_numbered a.mode a rows

-- what is to be drawn is drawn, and these steps are then left
abbrev pub Settles : Numbers → Numbers → Steps Finish → Steps Finish → Type 0
Settles before after steps left = record { seen = after.seen; steps = left } ≡ settled before.host before.seen steps
