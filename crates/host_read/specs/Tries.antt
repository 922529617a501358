-- What is left of the read that the code holds.
use Rattle.std.specs.Prelude.{◌≡◌, ℕ, [], List, Option, option_map}
use Rattle.raid_base.specs.declared.messages.Mode.{Mode}
use Rattle.raid_base.specs.declared.jobs.RowPart.{RowPart}
use Rattle.raid_base.specs.declared.messages.Errand.{Errand}
use Rattle.raid_base.specs.declared.messages.Reply.{Reply}
use Rattle.raid_base.specs.declared.messages.Request.{Request}
use Rattle.raid_base.specs.declared.numbers.BayNo.{BayNo}
use Rattle.raid_base.specs.declared.numbers.Number.{Number}
use Rattle.raid_base.specs.Steps.{Steps, next_errand, behind, settled, told}
use Rattle.place_numbers.specs.declared.Numbers.{Numbers}
use Rattle.attempts.specs.Taking.{Finish}
use Rattle.attempts.specs.Accesses.{access_of}
use Rattle.attempts.specs.Reading.{read_steps}
use Rattle.host_read.specs.Left.{left_of}
use Rattle.host_read.specs.declared.read_try.ReadTry.{ReadTry}

-- the steps behind the replies that came
abbrev pub left : ReadTry → Steps Finish
left t = left_of t.stage (access_of t.job []) t.taken t.queue

-- all steps of the read of these parts
abbrev pub steps_of : Mode → ℕ → Number → List RowPart → Steps Finish
steps_of mode n id parts = read_steps (record { mode = mode; n = n; id = id; parts = parts; blocks = [] })

-- the request that comes next, and the bay that it goes to
abbrev pub next_of : ReadTry → Option (BayNo × Request)
next_of t = option_map (λ (e : Errand). (e.bay, e.request)) (next_errand (left t))

-- the read goes on behind a reply that the host heard before, and draws its number where it is time to
abbrev pub GoesOn : ReadTry → Numbers → Reply → ReadTry → Numbers → Type 0
GoesOn old numbers reply now later =
    record { seen = later.seen; steps = left now } ≡ settled numbers.host numbers.seen (behind (left old) reply)

-- the host hears a reply, and then the read goes on behind it
abbrev pub HearsAndGoesOn : ReadTry → Numbers → Reply → ReadTry → Numbers → Type 0
HearsAndGoesOn old numbers reply now later =
    record { seen = later.seen; steps = left now } ≡ told numbers.host (record { seen = numbers.seen; steps = left old }) reply
