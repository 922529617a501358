-- The load of a number: a script whose jobs are drawn from it.
use Rattle.std.specs.Prelude.{ℕ, zero, suc, ◌+◌, ◌*◌, ◌/◌, ◌%◌, ◌^◌, ◌==◌, nat_lt, if◌then◌else◌, List, [], ◌∷◌, ◌++◌, map, length, replicate, None, codes}
use Rattle.std.specs.List.{flat_map, range_with_len}
use Rattle.raid_base.specs.declared.names.Name.{Name}
use Rattle.raid_base.specs.declared.numbers.RowNo.{RowNo}
use Rattle.raid_base.specs.declared.messages.Mode.{Mode}
use Rattle.raid_base.specs.declared.messages.Mode.TheVariants.{Lock, Order}
use Rattle.raid_base.specs.declared.jobs.Job.{Job}
use Rattle.raid_base.specs.declared.jobs.Task.{Task}
use Rattle.raid_base.specs.declared.jobs.Task.TheVariants.{Read, Write, Lose, Fit, Rebuild}
use Rattle.virtual_objects.specs.Objects.{Object}
use Rattle.script_text.specs.Script.{Script, HostJobs}
use Rattle.load_maker.specs.declared.jobs.Drawn.{Drawn}

-- the generator's state after a draw
unfoldable pub stepped : ℕ → ℕ
stepped x = (x * 6364136223846793005 + 1442695040888963407) % 2 ^ 64

-- and the number that this draw gives
unfoldable pub drawn : ℕ → ℕ
drawn x = stepped x / 2 ^ 33

-- the state after so many draws
abbrev pub after : ℕ → ℕ → ℕ
after zero x = x
after (suc draws) x = stepped (after draws x)

-- the number of the draw behind so many
abbrev pub draw : ℕ → ℕ → ℕ
draw draws x = drawn (after draws x)

-- the two objects
abbrev pub object_name : ℕ → Name
object_name which = if which == 0 then codes "a" else codes "b"

-- what is drawn of a job, told by the state before it: whether it writes, on which object, from which block on, how many blocks
unfoldable pub drawn_job : ℕ → Drawn
drawn_job x = record {
  writes = nat_lt 1 (draw 0 x % 4);
  object = object_name (draw 1 x % 2);
  first = draw 2 x % 1784;
  count = 1 + draw 3 x % 8;
}

-- how many blocks a job writes
abbrev pub written : Drawn → ℕ
written job = if job.writes then job.count else 0

-- blocks of 64 equal bytes, a draw for each
abbrev pub drawn_blocks : ℕ → ℕ → List (List ℕ)
drawn_blocks zero x = []
drawn_blocks (suc count) x = drawn_blocks count x ++ replicate 64 (draw count x % 256) ∷ []

-- the blocks that a job writes, drawn behind the four numbers of the job
unfoldable pub job_blocks : ℕ → List (List ℕ)
job_blocks x = drawn_blocks (written (drawn_job x)) (after 4 x)

-- the state after a job and its blocks
unfoldable pub after_job : ℕ → ℕ
after_job x = after (written (drawn_job x)) (after 4 x)

-- the state before the job of this number
abbrev pub before_job : ℕ → ℕ → ℕ
before_job n zero = n
before_job n (suc i) = after_job (before_job n i)

-- the job of this number, where it is the turn of this one of the eight hosts
abbrev pub in_turn : ℕ → ℕ → ℕ → List ℕ
in_turn host i x = if i % 8 == host then x ∷ [] else []

-- the jobs of one of the eight hosts, among the first so many of the load
abbrev pub dealt : ℕ → ℕ → ℕ → List ℕ
dealt n host zero = []
dealt n host (suc i) = dealt n host i ++ in_turn host i (before_job n i)

-- a task, whose blocks stand in the script's list from this place on
abbrev pub task_of : ℕ → Drawn → Task
task_of from job = if job.writes then Write job.object job.first from job.count else Read job.object job.first job.count

-- a job that no host stops in
abbrev pub whole : Task → Job
whole task = record { task = task; quit = None }

-- jobs, the blocks of each behind those of the one before it
abbrev pub jobs_from : ℕ → List ℕ → List Job
jobs_from from [] = []
jobs_from from (x ∷ states) = whole (task_of from (drawn_job x)) ∷ jobs_from (from + length (job_blocks x)) states

-- the blocks of the first so many of the eight hosts, host by host
unfoldable pub host_blocks : ℕ → ℕ → List (List ℕ)
host_blocks n zero = []
host_blocks n (suc host) = host_blocks n host ++ flat_map job_blocks (dealt n host n)

-- the operator loses, fits and rebuilds device 3
abbrev pub operator : HostJobs
operator = record { host = record { 0 = 0 }; jobs = whole (Lose (record { 0 = 3 })) ∷ whole (Fit (record { 0 = 3 })) ∷ whole (Rebuild (record { 0 = 3 })) ∷ [] }

-- the operator, and the first so many of the eight hosts; the blocks of each behind those of the hosts before it
unfoldable pub load_hosts : ℕ → ℕ → List HostJobs
load_hosts n zero = operator ∷ []
load_hosts n (suc host) =
    load_hosts n host ++ record { host = record { 0 = host + 1 }; jobs = jobs_from (length (host_blocks n host)) (dealt n host n) } ∷ []

-- 256 rows from this one on
unfoldable pub half : ℕ → List RowNo
half row = map (λ r. record { 0 = r }) (range_with_len row 256)

-- `a` has the first half of the rows, and `b` the second
abbrev pub load_objects : List Object
load_objects = record { name = codes "a"; rows = half 0 } ∷ record { name = codes "b"; rows = half 256 } ∷ []

-- stamps for even numbers, locks for odd ones
abbrev pub load_mode : ℕ → Mode
load_mode n = if n % 2 == 0 then Order else Lock

-- The script: eight devices of 512 rows, two objects of 256 rows each, the operator, and eight hosts with n jobs together
abbrev pub load_script : ℕ → Script
load_script n = record {
  n = 8;
  rows = 512;
  mode = load_mode n;
  patience = 64;
  tries = 8;
  objects = load_objects;
  hosts = load_hosts n 8;
  blocks = host_blocks n 8;
  turns = [];
}
