-- What the jobs of a script are, and what code needs to know of them.
use Rattle.std.specs.Prelude.{◌≡◌, ℕ, ◌+◌, ◌^◌, ◌<◌, nat_le, nat_lt, Bool, true, false, ◌&&◌, List, [], ◌∷◌, Option, Some, None, Result, Err, IsOk}
use Rattle.std.specs.List.{list_all}
use Rattle.raid_base.specs.declared.jobs.Job.{Job}
use Rattle.raid_base.specs.declared.jobs.Task.{Task}
use Rattle.raid_base.specs.declared.jobs.Task.TheVariants as tasks
use Rattle.raid_base.specs.declared.jobs.RowPart.{RowPart}
use Rattle.raid_base.specs.declared.jobs.PartsFault.{PartsFault}
use Rattle.raid_base.specs.declared.jobs.PartsFault.TheVariants.{NoObject}
use Rattle.raid_base.specs.declared.messages.Errand.{Errand}
use Rattle.raid_base.specs.declared.messages.Reply.{Reply}
use Rattle.raid_base.specs.Fits.{fits}
use Rattle.raid_base.specs.declared.cells.Content.{Content}
use Rattle.attempts.specs.Taking.{Finish}
use Rattle.attempts.specs.Parts.{blocks_in}
use Rattle.virtual_objects.specs.RowParts.{AreRowParts}
use Rattle.script_text.specs.Script.{Script, parts_of, blocks_of}

-- a read or a write
abbrev pub is_plain_task : Task → Bool
is_plain_task (tasks.Read object first count) = true
is_plain_task (tasks.Write object first from count) = true
is_plain_task (tasks.Recover row) = false
is_plain_task (tasks.Lose bay) = false
is_plain_task (tasks.Fit bay) = false
is_plain_task (tasks.Rebuild bay) = false

-- the rows and units of a read or write
abbrev pub task_parts : Script → Task → Result (List RowPart) PartsFault
task_parts script (tasks.Read object first count) = parts_of script object first count
task_parts script (tasks.Write object first from count) = parts_of script object first count
task_parts script (tasks.Recover row) = Err NoObject
task_parts script (tasks.Lose bay) = Err NoObject
task_parts script (tasks.Fit bay) = Err NoObject
task_parts script (tasks.Rebuild bay) = Err NoObject

-- the blocks that it writes
abbrev pub task_blocks : Script → Task → List (List ℕ)
task_blocks script (tasks.Read object first count) = []
task_blocks script (tasks.Write object first from count) = blocks_of script from count
task_blocks script (tasks.Recover row) = []
task_blocks script (tasks.Lose bay) = []
task_blocks script (tasks.Fit bay) = []
task_blocks script (tasks.Rebuild bay) = []

-- those of the job in hand
abbrev pub first_blocks : Script → List Job → List (List ℕ)
first_blocks script [] = []
first_blocks script (job ∷ jobs) = task_blocks script job.task

-- a task that is done by attempts: a read or a write that has parts, a recovery, or a rebuild of a bay that there is
abbrev pub IsTried : Script → Task → Type 0
IsTried script (tasks.Read object first count) = IsOk (parts_of script object first count)
IsTried script (tasks.Write object first from count) = IsOk (parts_of script object first count)
IsTried script (tasks.Recover row) = Unit {0}
IsTried script (tasks.Lose bay) = ⊥
IsTried script (tasks.Fit bay) = ⊥
IsTried script (tasks.Rebuild bay) = bay.0 < script.n

-- the job in hand is
abbrev pub FirstTried : Script → List Job → Type 0
FirstTried script [] = ⊥
FirstTried script (job ∷ jobs) = IsTried script job.task

-- a reply that fits what comes next
abbrev pub FitsNext : Option Errand → Reply → Type 0
FitsNext None reply = ⊥
FitsNext (Some errand) reply = fits errand.request reply ≡ true

-- what an attempt has read, once it has ended
abbrev pub contents_in : Option Finish → List Content
contents_in None = []
contents_in (Some finish) = finish.contents

-- of at most 120 blocks
abbrev pub is_sized : ℕ → ℕ → Bool
is_sized first count = nat_le 1 count && nat_le count 120 && nat_lt first (2 ^ 20)

abbrev pub is_sized_task : Task → Bool
is_sized_task (tasks.Read object first count) = is_sized first count
is_sized_task (tasks.Write object first from count) = is_sized first count
is_sized_task (tasks.Recover row) = true
is_sized_task (tasks.Lose bay) = true
is_sized_task (tasks.Fit bay) = true
is_sized_task (tasks.Rebuild bay) = true

abbrev pub are_sized : List Job → Bool
are_sized jobs = list_all (λ (job : Job). is_sized_task job.task) jobs

-- how many blocks a task reads or writes
abbrev pub task_count : Task → ℕ
task_count (tasks.Read object first count) = count
task_count (tasks.Write object first from count) = count
task_count (tasks.Recover row) = 0
task_count (tasks.Lose bay) = 0
task_count (tasks.Fit bay) = 0
task_count (tasks.Rebuild bay) = 0

-- parts of so many blocks, on n devices
pub record AreTaskParts (n : ℕ) (task : Task) (parts : List RowPart) : Type 0 where
  pub sound : AreRowParts n parts
  pub total : blocks_in parts ≡ task_count task

-- a script of so many blocks has those that a task writes
abbrev pub is_held_task : ℕ → Task → Bool
is_held_task blocks (tasks.Read object first count) = true
is_held_task blocks (tasks.Write object first from count) = nat_le (from + count) blocks
is_held_task blocks (tasks.Recover row) = true
is_held_task blocks (tasks.Lose bay) = true
is_held_task blocks (tasks.Fit bay) = true
is_held_task blocks (tasks.Rebuild bay) = true

abbrev pub are_held : ℕ → List Job → Bool
are_held blocks jobs = list_all (λ (job : Job). is_held_task blocks job.task) jobs

-- a rebuild is of one of so many bays
abbrev pub is_aimed_task : ℕ → Task → Bool
is_aimed_task n (tasks.Read object first count) = true
is_aimed_task n (tasks.Write object first from count) = true
is_aimed_task n (tasks.Recover row) = true
is_aimed_task n (tasks.Lose bay) = true
is_aimed_task n (tasks.Fit bay) = true
is_aimed_task n (tasks.Rebuild bay) = nat_lt bay.0 n

abbrev pub are_aimed : ℕ → List Job → Bool
are_aimed n jobs = list_all (λ (job : Job). is_aimed_task n job.task) jobs
