-- The serial array, and when results are those of one.
use Rattle.std.specs.Prelude.{◌≡◌, ◌⊎◌, ℕ, ◌+◌, ◌-◌, ◌<◌, nat_le, nat_lt, ◌==◌, ◌&&◌, Bool, true, false, if◌then◌else◌, List, [], ◌∷◌, map, flat_map, filter, take, length, slice_index_or, Option, Some, None, is_some, IsSome, IsPermutation}
use Rattle.std.specs.List.{range_with_len}
use Rattle.raid_base.specs.declared.numbers.HostNo.{HostNo}
use Rattle.raid_base.specs.declared.names.Name.{Name}
use Rattle.raid_base.specs.declared.numbers.RowNo.{RowNo}
use Rattle.raid_base.specs.declared.numbers.Number.{Number}
use Rattle.raid_base.specs.declared.cells.Content.{Content}
use Rattle.raid_base.specs.declared.cells.Content.TheVariants.{Bytes, Lost}
use Rattle.raid_base.specs.declared.jobs.Task.{Task}
use Rattle.raid_base.specs.declared.jobs.Task.TheVariants as tasks
use Rattle.raid_base.specs.declared.jobs.Job.{Job}
use Rattle.raid_base.specs.declared.jobs.JobEnd.{JobEnd}
use Rattle.raid_base.specs.declared.jobs.JobEnd.TheVariants as ends
use Rattle.raid_base.specs.Cells.{zeros, has_unit}
use Rattle.raid_base.specs.Names.{is_text}
use Rattle.virtual_objects.specs.Objects.{Address, place}
use Rattle.script_text.specs.Script.{Script, jobs_of, host_numbers}

-- what is reported of a job: how it ended, and what it read
pub record Reported : Type 0 where
  pub job : Job
  pub ended : JobEnd
  pub contents : List Content

-- a content for each block of each object
abbrev pub Array : Type 0
Array = Address → Content

abbrev pub zero_array : Array
zero_array address = Bytes zeros

-- whether a block is one of these
abbrev pub is_within : Name → ℕ → ℕ → Address → Bool
is_within object first count address = is_text address.object object && nat_le first address.block && nat_lt address.block (first + count)

-- the new content of a block of a write
abbrev pub new_content : Script → ℕ → ℕ → ℕ → Content
new_content script first from block = Bytes (slice_index_or script.blocks (from + (block - first)) zeros)

-- the blocks that a task writes: some of an object's, and the place of the first in the script's list
pub record Written : Type 0 where
  pub object : Name
  pub first : ℕ
  pub from : ℕ
  pub count : ℕ

abbrev pub written_by : Task → Option Written
written_by (tasks.Write object first from count) = Some (record { object = object; first = first; from = from; count = count })
written_by _ = None

abbrev pub with_written : Script → Option Written → (ℕ → Bool) → Array → Array
with_written script None is_made array address = array address
with_written script (Some w) is_made array address =
    if is_within w.object w.first w.count address && is_made (address.block - w.first) then new_content script w.first w.from address.block else array address

-- those blocks of a write that are made take their new contents
abbrev pub with_blocks : Script → Task → (ℕ → Bool) → Array → Array
with_blocks script task is_made array = with_written script (written_by task) is_made array

abbrev pub is_place : RowNo → ℕ → Option (RowNo × ℕ) → Bool
is_place row unit None = false
is_place row unit (Some (r, u)) = (r.0 == row.0) && (u == unit)

-- the row that a task recovers
abbrev pub recovered_by : Task → Option RowNo
recovered_by (tasks.Recover row) = Some row
recovered_by _ = None

abbrev pub with_lost_at : Script → Option RowNo → Option ℕ → Array → Array
with_lost_at script (Some row) (Some unit) array address = if is_place row unit (place script.n script.objects address) then Lost else array address
with_lost_at script (Some row) None array address = array address
with_lost_at script None lost array address = array address

-- the block on the lost unit of a recovered row is lost
abbrev pub with_lost : Script → Task → Option ℕ → Array → Array
with_lost script task lost array = with_lost_at script (recovered_by task) lost array

-- The effect of a result: a write's blocks, those that a part has made, a unit named lost, or nothing.
abbrev pub effect : Script → Task → JobEnd → Array → Array
effect script task (ends.Wrote n) array = with_blocks script task (λ block. true) array
effect script task (ends.Part n made cause) array = with_blocks script task (has_unit made) array
effect script task (ends.Recovered n closed lost) array = with_lost script task lost array
effect script task _ array = array

-- what a read of a serial array gives
abbrev pub read_contents : Task → Array → List Content
read_contents (tasks.Read object first count) array = map (λ block. array (record { object = object; block = block })) (range_with_len first count)
read_contents _ array = []

-- a read agrees with the array
abbrev pub Agrees : Task → Array → JobEnd → List Content → Type 0
Agrees task array (ends.Read n) contents = contents ≡ read_contents task array
Agrees task array _ contents = Unit {0}

-- these jobs, one after the other, lead from one array to another
abbrev pub Runs : Script → Array → List Reported → Array → Type 0
Runs script array [] last = (address : Address) → last address ≡ array address
Runs script array (e ∷ es) last = Agrees e.job.task array e.ended e.contents × Runs script (effect script e.job.task e.ended array) es last

-- the number that a result carries
abbrev pub number_of : JobEnd → Option Number
number_of (ends.Read n) = Some n
number_of (ends.Wrote n) = Some n
number_of (ends.Part n made cause) = Some n
number_of (ends.Recovered n closed lost) = Some n
number_of _ = None

abbrev pub numbered : List Reported → List Reported
numbered endings = filter (λ e. is_some (number_of e.ended)) endings

-- their numbers rise
abbrev pub IsAbove : Option Number → Option Number → Type 0
IsAbove (Some low) (Some high) = low.0 < high.0
IsAbove (Some low) None = ⊥
IsAbove None high = ⊥

abbrev pub RiseFrom : Reported → List Reported → Type 0
RiseFrom e [] = IsSome (number_of e.ended)
RiseFrom e (next ∷ es) = IsAbove (number_of e.ended) (number_of next.ended) × RiseFrom next es

abbrev pub Rise : List Reported → Type 0
Rise [] = Unit {0}
Rise (e ∷ es) = RiseFrom e es

-- the results of a host are those of its first jobs, to the last or to one that may quit
abbrev pub EndsWithQuit : List Reported → Type 0
EndsWithQuit [] = ⊥
EndsWithQuit (e ∷ []) = IsSome e.job.quit
EndsWithQuit (e ∷ (next ∷ es)) = EndsWithQuit (next ∷ es)

pub record HasResults (script : Script) (host : HostNo) (endings : List Reported) : Type 0 where
  pub jobs : map (λ (e : Reported). e.job) endings ≡ take (length endings) (jobs_of script host)
  pub all : (length endings ≡ length (jobs_of script host)) ⊎ EndsWithQuit endings
  pub rise : Rise (numbered endings)

-- Results and contents are those of a serial array: in the order of their numbers each takes its effect, and each read
-- agrees. Last is the array at the end.
pub record IsSerial (script : Script) (endings : HostNo → List Reported) (last : Array) : Type 0 where
  pub hosts : (host : HostNo) → HasResults script host (endings host)
  pub order : List Reported
  pub same : IsPermutation order (numbered (flat_map endings (host_numbers script)))
  pub rise : Rise order
  pub runs : Runs script zero_array order last
