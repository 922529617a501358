-- Ids and numbers: what a host has seen, and what it draws.
use Rattle.std.specs.Prelude.{ℕ, ◌+◌, ◌*◌, ◌/◌, ◌%◌, ◌^◌, max, nat_lt, if◌then◌else◌, Option, Some, None, Result, Ok, Err, ok_or}
use Rattle.raid_base.specs.declared.numbers.HostNo.{HostNo}
use Rattle.raid_base.specs.declared.numbers.Number.{Number}
use Rattle.raid_base.specs.declared.messages.Note.{Note}
use Rattle.raid_base.specs.declared.messages.Reply.{Reply}
use Rattle.raid_base.specs.declared.messages.Reply.TheVariants.{Granted, Late, Missing}
use Rattle.raid_base.specs.declared.numbers.Spent.{Spent}

abbrev pub number : ℕ → Number
number n = record { 0 = n }

abbrev pub greater : Number → Number → Number
greater x y = number (max x.0 y.0)

-- the least number above the floor that leaves this host by 16
abbrev pub least_above : ℕ → ℕ → ℕ
least_above host floor = if nat_lt (floor % 16) host then 16 * (floor / 16) + host else 16 * (floor / 16) + 16 + host

abbrev pub below_end : ℕ → Option Number
below_end n = if nat_lt n (2 ^ 62) then Some (number n) else None

-- that number, where it is below 2^62
abbrev pub next_number : HostNo → Number → Option Number
next_number host floor = below_end (least_above host.0 floor.0)

-- what a host that has seen this much draws
abbrev pub draw : HostNo → Number → Result Number Spent
draw host seen = ok_or (next_number host seen) (record { seen = seen })

-- what it has seen once it has drawn
abbrev pub seen_drawn : Number → Result Number Spent → Number
seen_drawn seen (Ok n) = n
seen_drawn seen (Err spent) = seen

-- the origin of a seized note
abbrev pub sees_note : Number → Option Note → Number
sees_note seen None = seen
sees_note seen (Some note) = greater seen note.origin

-- what it has seen after a reply: numbers of a grant, also those of a note that it seized, the number above, and the floor
abbrev pub sees : Number → Reply → Number
sees seen (Granted cell read_no write_no last life seized) = sees_note (greater seen (greater read_no write_no)) seized
sees seen (Late above) = greater seen above
sees seen (Missing floor) = greater seen floor
sees seen _ = seen
