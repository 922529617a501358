-- What reading a line does, as its form says it.
use Rattle.std.specs.Prelude.{◌≡◌, ℕ, true, List, [], ◌∷◌, ◌++◌, map, Option, Some, None, Result, Ok, Err}
use Rattle.std.specs.Borrow.{Bor}
use Rattle.std.specs.List.{list_all}
use Rattle.raid_base.specs.declared.names.Name.{Name}
use Rattle.script_text.specs.Script.{Script, HostJobs}
use Rattle.script_text.specs.Forms.{Form, ObjectLine, JobLine, NoLine, Work, Reads, Writes, Recovers, Loses, Fits, Rebuilds, is_block, words, value}
use Rattle.script_text.specs.Faults.{fault_of, after}
use Rattle.script_text.specs.declared.lines.Stage.{Stage}
use Rattle.script_text.specs.declared.lines.LineFault.{LineFault}
use Rattle.script_text.specs.declared.lines.LineFault.TheVariants.{Bad, NoMemory}
use Rattle.script_text.specs.declared.read.ScriptFault.{ScriptFault}
use Rattle.script_text.specs.declared.read.ScriptFault.TheVariants.{Bad as BadScript, NoMemory as NoMemoryScript}
use Rattle.script_text.specs.declared.jobs.LineJob.{LineJob}
use Rattle.script_text.specs.declared.jobs.Work.{Work as WorkRead}
use Rattle.script_text.specs.declared.jobs.Work.TheVariants.{Reads as ReadsRead, Writes as WritesRead, Recovers as RecoversRead, Loses as LosesRead, Fits as FitsRead, Rebuilds as RebuildsRead}

abbrev pub FaultIs : Script → Form → LineFault → Type 0
FaultIs script form (Bad kind) = fault_of script form ≡ Some kind
FaultIs script form NoMemory = Unit {0}

-- a line of this form was read into the script, or its fault was told
abbrev pub Steps : Script → Script → Result Stage LineFault → Form → Type 0
Steps old later (Ok stage) form = (fault_of old form ≡ None) × (after old form ≡ record { stage = stage; script = later })
Steps old later (Err fault) form = FaultIs old form fault

-- the fault of a script that has this one at a line
abbrev pub fault_at : ℕ → LineFault → ScriptFault
fault_at line (Bad kind) = BadScript line kind
fault_at line NoMemory = NoMemoryScript

-- an object's name, and the words of its rows
abbrev pub object_found : Option (Name × Bor (List ℕ)) → Form
object_found None = NoLine
object_found (Some found) = ObjectLine found.0 (map value (words found.1.now))

-- the script with its last host
abbrev pub with_host : Script → HostJobs → Script
with_host script host = record script { hosts = script.hosts ++ host ∷ [] }

-- the work that was read
abbrev pub work_value : WorkRead → Work
work_value (ReadsRead name first count) = Reads name first count
work_value (WritesRead name first blocks) = Writes name first (words blocks.now)
work_value (RecoversRead row) = Recovers row
work_value (LosesRead bay) = Loses bay
work_value (FitsRead bay) = Fits bay
work_value (RebuildsRead bay) = Rebuilds bay

-- the words of a write's blocks are blocks
abbrev pub HasBlocks : WorkRead → Type 0
HasBlocks (WritesRead name first blocks) = list_all is_block (words blocks.now) ≡ true
HasBlocks _ = Unit {0}

abbrev pub job_found : Option LineJob → Form
job_found None = NoLine
job_found (Some found) = JobLine found.quit (work_value found.work)
