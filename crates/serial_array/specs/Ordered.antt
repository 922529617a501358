-- Results in the order of their numbers, and when they are serial.
use Rattle.std.specs.Prelude.{◌≡◌, ℕ, ◌-◌, nat_le, nat_lt, ◌&&◌, Bool, true, false, if◌then◌else◌, List, [], ◌∷◌, filter, Option, Some, None, IsSome, IsPermutation}
use Rattle.std.specs.List.{AllByRecursion}
use Rattle.raid_base.specs.declared.numbers.RowNo.{RowNo}
use Rattle.raid_base.specs.declared.numbers.Number.{Number}
use Rattle.raid_base.specs.declared.jobs.Task.{Task}
use Rattle.raid_base.specs.declared.jobs.JobEnd.{JobEnd}
use Rattle.raid_base.specs.declared.jobs.JobEnd.TheVariants as ends
use Rattle.raid_base.specs.Cells.{has_unit}
use Rattle.virtual_objects.specs.Objects.{Address, place}
use Rattle.script_text.specs.Script.{Script}
use Rattle.serial_array.specs.Serial.{Reported, Array, zero_array, is_within, Written, written_by, is_place, recovered_by, effect, Agrees, Runs, number_of, Rise}

-- the number of a result, 0 for one that has none
abbrev pub number_or : Option Number → ℕ
number_or None = 0
number_or (Some n) = n.0

abbrev pub number_in : Reported → ℕ
number_in e = number_or (number_of e.ended)

-- a result goes before those that have a greater number
abbrev pub inserted : Reported → List Reported → List Reported
inserted e [] = e ∷ []
inserted e (next ∷ es) = if nat_le (number_in e) (number_in next) then e ∷ next ∷ es else next ∷ inserted e es

abbrev pub in_order : List Reported → List Reported
in_order [] = []
in_order (e ∷ es) = inserted e (in_order es)

-- those with a number below this
abbrev pub below : ℕ → List Reported → List Reported
below n es = filter (λ e. nat_lt (number_in e) n) es

-- the array once these have taken their effects, one after the other
abbrev pub array_after : Script → Array → List Reported → Array
array_after script array [] = array
array_after script array (e ∷ es) = array_after script (effect script e.job.task e.ended array) es

-- no two have one number
abbrev pub AreApart : List Reported → Type 0
AreApart [] = Unit {0}
AreApart (e ∷ es) = AllByRecursion (λ (other : Reported). number_in other ≡ number_in e → ⊥) es × AreApart es

-- it agrees with the array that all results with lower numbers leave
abbrev pub AgreesBelow : Script → List Reported → Reported → Type 0
AgreesBelow script all e = Agrees e.job.task (array_after script zero_array (below (number_in e) (in_order all))) e.ended e.contents

-- these results, put in order, are those of a serial array, and this is the last one
pub record AreSerial (script : Script) (all : List Reported) : Type 0 where
  pub same : IsPermutation (in_order all) all
  pub rise : Rise (in_order all)
  pub runs : Runs script zero_array (in_order all) (array_after script zero_array (in_order all))

-- Results with numbers of their own, each of which agrees with what the lower ones leave, are serial.
abbrev pub ResultsAreSerial : Type 0
ResultsAreSerial = (script : Script) (all : List Reported) → AllByRecursion (λ (e : Reported). IsSome (number_of e.ended)) all → AreApart all →
    AllByRecursion (AgreesBelow script all) all → AreSerial script all

-- whether a write has made this block
abbrev pub touches_written : Option Written → (ℕ → Bool) → Address → Bool
touches_written None is_made address = false
touches_written (Some w) is_made address = is_within w.object w.first w.count address && is_made (address.block - w.first)

-- whether this block is on a unit that is named lost
abbrev pub touches_lost : Script → Option RowNo → Option ℕ → Address → Bool
touches_lost script (Some row) (Some unit) address = is_place row unit (place script.n script.objects address)
touches_lost script (Some row) None address = false
touches_lost script None lost address = false

abbrev pub touches_by : Script → Task → JobEnd → Address → Bool
touches_by script task (ends.Wrote n) address = touches_written (written_by task) (λ block. true) address
touches_by script task (ends.Part n made cause) address = touches_written (written_by task) (has_unit made) address
touches_by script task (ends.Recovered n closed lost) address = touches_lost script (recovered_by task) lost address
touches_by script task _ address = false

-- the effect of a result may change this block: one that its write has made, or that on the unit which its recovery names lost
abbrev pub touches : Script → Reported → Address → Bool
touches script e address = touches_by script e.job.task e.ended address

-- a block that an effect doesn't touch stays, and what becomes of another hangs on no array
pub record IsTouched (script : Script) (e : Reported) (address : Address) : Type 0 where
  pub leaves : (array : Array) → touches script e address ≡ false → effect script e.job.task e.ended array address ≡ array address
  pub gives : (x y : Array) → touches script e address ≡ true → effect script e.job.task e.ended x address ≡ effect script e.job.task e.ended y address

abbrev pub EffectsTouch : Type 0
EffectsTouch = (script : Script) (e : Reported) (address : Address) → IsTouched script e address
