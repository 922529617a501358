-- The scripts that have a text.
use Rattle.std.specs.Prelude.{◌≡◌, ℕ, ◌+◌, ◌^◌, ◌<◌, ◌≤◌, List, [], ◌∷◌, length, All, Option, Some, None}
use Rattle.std.specs.List.{flat_map, sum_by, Contains}
use Rattle.raid_base.specs.declared.numbers.HostNo.{HostNo}
use Rattle.raid_base.specs.declared.messages.Turn.{Turn}
use Rattle.raid_base.specs.declared.names.Name.{Name}
use Rattle.raid_base.specs.declared.jobs.Job.{Job}
use Rattle.raid_base.specs.declared.jobs.Task.{Task}
use Rattle.raid_base.specs.declared.jobs.Task.TheVariants.{Read, Write, Recover, Lose, Fit, Rebuild}
use Rattle.raid_base.specs.Names.{IsNameText}
use Rattle.virtual_objects.specs.Objects.{Object}
use Rattle.virtual_objects.specs.Table.{AreObjects, ObjectTable}
use Rattle.text_lines.specs.Blocks.{IsBlock}
use Rattle.script_text.specs.Script.{Script, HostJobs, host_numbers}

-- the objects, with the numbers of devices and rows
abbrev pub table_of : Script → ObjectTable
table_of script = record { n = script.n; rows = script.rows; objects = script.objects }

-- the name and the blocks of a read or write
pub record IsAccess (object : Name) (first count : ℕ) : Type 0 where
  pub name : IsNameText object
  pub low : first < 2 ^ 20
  pub some : 1 ≤ count
  pub few : count ≤ 120

-- the blocks of a task that reads or writes
abbrev pub HasAccess : Task → Type 0
HasAccess (Read object first count) = IsAccess object first count
HasAccess (Write object first from count) = IsAccess object first count
HasAccess _ = Unit {0}

-- what a host may be told to do; bays are lost, fitted and rebuilt by the operator alone
abbrev pub IsTask : Script → HostNo → Task → Type 0
IsTask script host (Read object first count) = IsAccess object first count
IsTask script host (Write object first from count) = IsAccess object first count
IsTask script host (Recover row) = row.0 < script.rows
IsTask script host (Lose bay) = (host.0 ≡ 0) × (bay.0 < script.n)
IsTask script host (Fit bay) = (host.0 ≡ 0) × (bay.0 < script.n)
IsTask script host (Rebuild bay) = (host.0 ≡ 0) × (bay.0 < script.n)

abbrev pub IsQuit : Option ℕ → Type 0
IsQuit None = Unit {0}
IsQuit (Some requests) = (1 ≤ requests) × (requests ≤ 2 ^ 20)

pub record IsJob (script : Script) (host : HostNo) (job : Job) : Type 0 where
  pub task : IsTask script host job.task
  pub quit : IsQuit job.quit

-- host numbers below 16 that rise, from this one on
abbrev pub Rise : ℕ → List HostNo → Type 0
Rise from [] = Unit {0}
Rise from (host ∷ hosts) = (from ≤ host.0) × (host.0 < 16) × Rise (host.0 + 1) hosts

-- how many blocks a job writes, and how many those of a list do
abbrev pub blocks_written : Task → ℕ
blocks_written (Write object first from count) = count
blocks_written _ = 0

abbrev pub all_written : List Job → ℕ
all_written jobs = sum_by (λ (job : Job). blocks_written job.task) jobs

-- a write's blocks begin here
abbrev pub WritesFrom : ℕ → Task → Type 0
WritesFrom at (Write object first from count) = from ≡ at
WritesFrom at _ = Unit {0}

-- the blocks of each write follow those of the writes before it
abbrev pub InOrder : ℕ → List Job → Type 0
InOrder at [] = Unit {0}
InOrder at (job ∷ jobs) = WritesFrom at job.task × InOrder (at + blocks_written job.task) jobs

-- the jobs of all hosts
abbrev pub all_jobs : Script → List Job
all_jobs script = flat_map (λ (host : HostJobs). host.jobs) script.hosts

-- all that a script's text says keeps its range
pub record IsScript (script : Script) : Type 0 where
  pub devices_least : 3 ≤ script.n
  pub devices_most : script.n ≤ 16
  pub rows_least : 1 ≤ script.rows
  pub rows_most : script.rows ≤ 4096
  pub patience : script.patience < 2 ^ 40
  pub tries_least : 1 ≤ script.tries
  pub tries_most : script.tries ≤ 64
  pub objects : AreObjects (table_of script)
  pub names : All (λ (object : Object). IsNameText object.name) script.objects
  pub hosts : Rise 0 (host_numbers script)
  pub jobs : All (λ (host : HostJobs). All (IsJob script host.host) host.jobs) script.hosts
  pub blocks : All IsBlock script.blocks
  pub blocks_whose : InOrder 0 (all_jobs script)
  pub blocks_all : length script.blocks ≡ all_written (all_jobs script)
  pub turns : All (λ (turn : Turn). Contains (host_numbers script) turn.host × (turn.moment < 2 ^ 40)) script.turns
