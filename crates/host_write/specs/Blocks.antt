-- The blocks of a job by their places, and what holds whatever they are.
use Rattle.std.specs.Prelude.{◌≡◌, ℕ, ◌+◌, Bool, if◌then◌else◌, List, map, Option, Some, None}
use Rattle.std.specs.List.{list_all}
use Rattle.raid_base.specs.declared.jobs.RowPart.{RowPart}
use Rattle.raid_base.specs.declared.messages.Reply.{Reply}
use Rattle.raid_base.specs.Replies.{put_end}
use Rattle.stripe_layout.specs.Placement.{units_in}
use Rattle.virtual_objects.specs.Objects.{rank}
use Rattle.attempts.specs.declared.assignment.Assignment.{Assignment}
use Rattle.attempts.specs.Accesses.{access_of}
use Rattle.attempts.specs.Taking.{Access, Row}
use Rattle.attempts.specs.Releases.{is_among}
use Rattle.attempts.specs.Puts.{Puts, data_put_by, parity_put_by}

-- the places of the blocks of these units of a part
abbrev pub places_of : ℕ → RowPart → List ℕ → List ℕ
places_of n part units = map (λ unit. part.at + rank unit (units_in n part.mask)) units

-- whether all blocks of a part are made
abbrev pub are_made : ℕ → List ℕ → RowPart → Bool
are_made n made part = list_all (λ unit. is_among made (part.at + rank unit (units_in n part.mask))) (units_in n part.mask)

-- this is the job's, whatever its blocks
abbrev pub IsOfJob : {A : Type 0} → Assignment → A → (Access → A) → Type 0
IsOfJob job given value = (blocks : List (List ℕ)) → given ≡ value (access_of job blocks)

-- a reply to a put is taken, whatever the blocks: the puts are then these where the row goes on, and there are none where it is stopped
abbrev pub TakesPut : Assignment → (Access → Option Puts) → Bool → Puts → Type 0
TakesPut job taken goes_on puts = (blocks : List (List ℕ)) → taken (access_of job blocks) ≡ (if goes_on then Some puts else None)

-- by the put of a unit
abbrev pub data_taken : Row → ℕ → Reply → Puts → Access → Option Puts
data_taken row unit reply puts a = data_put_by a row puts unit (put_end reply)

-- by the put of the parity
abbrev pub parity_taken : Row → Reply → Puts → Access → Option Puts
parity_taken row reply puts a = parity_put_by a row puts (put_end reply)
