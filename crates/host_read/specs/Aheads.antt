-- What comes next of a read.
use Rattle.std.specs.Prelude.{◌≡◌, ◌≤◌, ℕ, true, [], ◌∷◌, ◌++◌, List, Result, length}
use Rattle.arrayvec.specs.ArrayVec.{array_vec_len}
use Rattle.stripe_layout.specs.Placement.{bays_of, units_in, units_out}
use Rattle.raid_base.specs.declared.jobs.Cause.{Cause}
use Rattle.raid_base.specs.declared.jobs.RowPart.{RowPart}
use Rattle.raid_base.specs.declared.messages.Errand.{Errand}
use Rattle.raid_base.specs.declared.numbers.Number.{Number}
use Rattle.raid_base.specs.declared.numbers.Spent.{Spent}
use Rattle.raid_base.specs.Steps.{Steps, Through, settled}
use Rattle.place_numbers.specs.declared.Numbers.{Numbers}
use Rattle.attempts.specs.declared.assignment.Assignment.{Assignment}
use Rattle.attempts.specs.Accesses.{access_of}
use Rattle.attempts.specs.Taking.{Finish, Taken, row_ended, shares}
use Rattle.attempts.specs.Releases.{read_releases, refused_steps}
use Rattle.attempts.specs.Reading.{read_numbered, read_drawn, wanted_shared, parity_shared}
use Rattle.host_read.specs.declared.stages.Ahead.{Ahead}
use Rattle.host_read.specs.Stages.{is_kept}
use Rattle.host_read.specs.Left.{left_of, rest_of}

-- what is left of the read of a job that stands here
abbrev pub left_ahead : Assignment → Taken → Ahead → Steps Finish
left_ahead job taken ahead = left_of ahead.stage (access_of job []) taken ahead.queue

-- a read that stands here keeps what its stage keeps
abbrev pub IsKept : Assignment → Taken → Ahead → Type 0
IsKept job taken ahead = is_kept ahead.stage (array_vec_len job.parts) (length ahead.queue) taken ≡ true

-- the shares of a part's units
abbrev pub shares_in : Assignment → RowPart → List Errand
shares_in job part = shares job.id part.row (bays_of job.n part.row (units_in job.n part.mask))

-- the shares of the other units of its row
abbrev pub shares_out : Assignment → RowPart → List Errand
shares_out job part = shares job.id part.row (bays_of job.n part.row (units_out job.n part.mask))

-- what is left once the row in hand is done
abbrev pub left_by_row : Assignment → Taken → Steps Finish
left_by_row job taken = rest_of (access_of job []) taken (row_ended taken)

-- what is left once the wanted units of the row in hand are shared
abbrev pub left_by_wanted : Assignment → Taken → Steps Finish
left_by_wanted job taken = wanted_shared (access_of job []) (rest_of (access_of job []) taken) (Through taken)

-- what is left once its parity is shared too
abbrev pub left_by_parity : Assignment → Taken → Steps Finish
left_by_parity job taken = parity_shared (access_of job []) (rest_of (access_of job []) taken) (Through taken)

-- what is left of a refused read: all that it holds, the row in hand too, is given back
abbrev pub left_by_refusal : Assignment → Taken → Cause → Steps Finish
left_by_refusal job taken cause = refused_steps (read_releases (access_of job []) (taken.before ++ taken.row ∷ [])) cause

-- what is left once the number is drawn, or there is none
abbrev pub left_by_draw : Assignment → Taken → Result Number Spent → Steps Finish
left_by_draw job taken number = read_drawn (access_of job []) taken.before number

-- all shares are done, whatever was taken: the number comes next
abbrev pub IsShared : Assignment → Ahead → Type 0
IsShared job ahead = (taken : Taken) → left_ahead job taken ahead ≡ read_numbered job.mode (access_of job []) taken.before

-- it keeps what its stage keeps, whatever was taken of so many parts
abbrev pub IsKeptAlways : Ahead → Type 0
IsKeptAlways ahead = (parts : ℕ) → (taken : Taken) → length taken.before ≤ parts → is_kept ahead.stage parts (length ahead.queue) taken ≡ true

-- the number is drawn where it is time to
abbrev pub SettlesAhead : Assignment → Taken → Numbers → Ahead → Numbers → Ahead → Type 0
SettlesAhead job taken old before now ahead =
    record { seen = now.seen; steps = left_ahead job taken ahead } ≡ settled old.host old.seen (left_ahead job taken before)
