-- Numbers: what a host has seen covers all that replies showed it, and what it draws is above that.
use Rattle.std.specs.Prelude.{◌≡◌, ◌⊎◌, ◌%◌, ◌^◌, ◌<◌, ◌≤◌, List, Option, Some, None, Ok}
use Rattle.std.specs.List.{AllByRecursion}
use Rattle.raid_base.specs.declared.numbers.HostNo.{HostNo}
use Rattle.raid_base.specs.declared.numbers.Number.{Number}
use Rattle.raid_base.specs.declared.messages.Note.{Note}
use Rattle.raid_base.specs.declared.messages.Reply.{Reply}
use Rattle.raid_base.specs.declared.messages.Reply.TheVariants.{Granted, Busy, Late, Young, Missing, Held, NoNote, Done, Fault, Emptied, Fitted}
use Rattle.raid_base.specs.declared.messages.Call.{Call}
use Rattle.raid_base.specs.Numbers.{draw}
use Rattle.raid_base.specs.Steps.{Standing, Leads}
use Rattle.attempts.specs.Taking.{Finish}

-- the origin of a seized note
abbrev pub IsOrigin : Option Note → Number → Type 0
IsOrigin None n = ⊥
IsOrigin (Some note) n = n ≡ note.origin

-- the numbers that a reply shows: those of a grant and of the note that it seized, the number above, and the floor
abbrev pub ShowsNumber : Reply → Number → Type 0
ShowsNumber (Granted cell read_no write_no last life seized) n = (n ≡ read_no) ⊎ ((n ≡ write_no) ⊎ IsOrigin seized n)
ShowsNumber (Late above) n = n ≡ above
ShowsNumber (Missing floor) n = n ≡ floor
ShowsNumber (Busy holder) n = ⊥
ShowsNumber (Young note) n = ⊥
ShowsNumber (Held cell) n = ⊥
ShowsNumber (NoNote life) n = ⊥
ShowsNumber Done n = ⊥
ShowsNumber Fault n = ⊥
ShowsNumber Emptied n = ⊥
ShowsNumber Fitted n = ⊥

-- what is seen later covers what was seen before, and every number that a reply has shown
pub record CoversSeen (now : Standing Finish) (calls : List Call) (later : Standing Finish) : Type 0 where
  pub kept : now.seen.0 ≤ later.seen.0
  pub shown : AllByRecursion (λ (c : Call). (n : Number) → ShowsNumber c.answer.reply n → n.0 ≤ later.seen.0) calls

abbrev pub SeenCovers : Type 0
SeenCovers = (host : HostNo) (now : Standing Finish) (calls : List Call) (later : Standing Finish) → Leads host now calls later → CoversSeen now calls later

-- a number that is drawn is above all that was seen, and is its host's
pub record IsDrawnAbove (host : HostNo) (seen n : Number) : Type 0 where
  pub above : seen.0 < n.0
  pub own : n.0 % 16 ≡ host.0
  pub most : n.0 < 2 ^ 62

abbrev pub DrawsAreAbove : Type 0
DrawsAreAbove = (host : HostNo) (seen n : Number) → host.0 < 16 → draw host seen ≡ Ok n → IsDrawnAbove host seen n
