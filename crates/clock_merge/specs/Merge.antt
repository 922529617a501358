-- Journals merged by their clocks.
use Rattle.std.specs.Prelude.{◌≡◌, ◌⊎◌, ℕ, ◌<◌, ◌==◌, if◌then◌else◌, List, [], ◌∷◌, length, slice_index_or}
use Rattle.std.specs.List.{AllByRecursion}
use Rattle.raid_base.specs.declared.numbers.BayNo.{BayNo}
use Rattle.raid_base.specs.declared.messages.Entry.{Entry}
use Rattle.raid_base.specs.declared.messages.Turn.{Turn}
use Rattle.stripe_layout.specs.Placement.{bay}
use Rattle.slot_rules.specs.Replay.{next_clock}

-- a line of a journal, with its bay
pub record Line : Type 0 where
  pub bay : BayNo
  pub entry : Entry

-- those of one bay, in their order
abbrev pub entries_at : BayNo → List Line → List Entry
entries_at bay [] = []
entries_at bay (line ∷ lines) = let rest = entries_at bay lines in if line.bay.0 == bay.0 then line.entry ∷ rest else rest

-- by the clock, and by the bay where the clocks are the same
abbrev pub IsBefore : Line → Line → Type 0
IsBefore x y = (x.entry.clock < y.entry.clock) ⊎ ((x.entry.clock ≡ y.entry.clock) × (x.bay.0 < y.bay.0))

abbrev pub RiseFrom : Line → List Line → Type 0
RiseFrom x [] = Unit {0}
RiseFrom x (y ∷ lines) = IsBefore x y × RiseFrom y lines

abbrev pub Rise : List Line → Type 0
Rise [] = Unit {0}
Rise (x ∷ lines) = RiseFrom x lines

-- All entries of these journals, in rising order of clock and bay. (After Lamport's clocks.)
pub record IsMerge (journals : List (List Entry)) (lines : List Line) : Type 0 where
  pub within : AllByRecursion (λ (line : Line). line.bay.0 < length journals) lines
  pub whole : (k : ℕ) → k < length journals → entries_at (bay k) lines ≡ slice_index_or journals k []
  pub rise : Rise lines

-- the turn that handled it
abbrev pub turn_of : Line → Turn
turn_of line = record { host = line.entry.ask.host; moment = line.entry.ask.moment }

-- each clock is below the next
abbrev pub ClocksRiseFrom : Entry → List Entry → Type 0
ClocksRiseFrom first [] = Unit {0}
ClocksRiseFrom first (entry ∷ entries) = (first.clock < entry.clock) × ClocksRiseFrom entry entries

-- clocks rise along a journal
abbrev pub ClocksRise : List Entry → Type 0
ClocksRise [] = Unit {0}
ClocksRise (entry ∷ entries) = ClocksRiseFrom entry entries

-- from this clock on each entry's is one above the greater of the bay's and its ask's, up to that one
abbrev pub Ticks : ℕ → List Entry → ℕ → Type 0
Ticks clock [] end = clock ≡ end
Ticks clock (entry ∷ entries) end = (entry.clock ≡ next_clock clock entry.ask) × Ticks entry.clock entries end
