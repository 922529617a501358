-- The readers of a slot.
use Rattle.std.specs.Prelude.{◌≡◌, ℕ, ◌+◌, ◌<◌, nat_le, ◌==◌, ◌||◌, Bool, List, [], ◌∷◌, not, Option, None, find}
use Rattle.raid_base.specs.declared.numbers.HostNo.{HostNo}
use Rattle.raid_base.specs.declared.messages.Ask.{Ask}
use Rattle.slot_rules.specs.declared.Reader.{Reader}

-- a note or a reader of this host and moment is old for the ask, or its own
abbrev pub is_old_or_own : ℕ → Ask → HostNo → ℕ → Bool
is_old_or_own patience ask host moment = nat_le (moment + patience) ask.moment || (host.0 == ask.host.0)

-- a reader of this host
abbrev pub is_of_host : HostNo → Reader → Bool
is_of_host host reader = reader.host.0 == host.0

-- the first reader that the ask may not put aside
abbrev pub young_reader : ℕ → Ask → List Reader → Option Reader
young_reader patience ask readers =
    find (λ reader. not (is_old_or_own patience ask reader.host reader.moment)) readers

-- at most one reader of each of 16 hosts
abbrev pub OnePerHost : List Reader → Type 0
OnePerHost [] = Unit {0}
OnePerHost (reader ∷ readers) = (reader.host.0 < 16) × (find (is_of_host reader.host) readers ≡ None) × OnePerHost readers
