-- The one text of a script, line by line.
use Rattle.std.specs.Prelude.{ℕ, List, [], ◌∷◌, ◌++◌, map, Option, Some, None, codes, decimal}
use Rattle.std.specs.List.{flat_map}
use Rattle.raid_base.specs.declared.numbers.RowNo.{RowNo}
use Rattle.raid_base.specs.declared.messages.Mode.{Mode}
use Rattle.raid_base.specs.declared.messages.Mode.TheVariants.{Lock, Order}
use Rattle.raid_base.specs.declared.messages.Turn.{Turn}
use Rattle.raid_base.specs.declared.jobs.Job.{Job}
use Rattle.raid_base.specs.declared.jobs.Task.{Task}
use Rattle.raid_base.specs.declared.jobs.Task.TheVariants.{Read, Write, Recover, Lose, Fit, Rebuild}
use Rattle.virtual_objects.specs.Objects.{Object}
use Rattle.text_lines.specs.Blocks.{block_text}
use Rattle.text_lines.specs.Lines.{line}
use Rattle.script_text.specs.Script.{Script, HostJobs, blocks_of}

-- the words of a line
abbrev pub Words : Type 0
Words = List (List ℕ)

abbrev pub mode_word : Mode → List ℕ
mode_word Lock = codes "lock"
mode_word Order = codes "order"

abbrev pub head_lines : Script → List Words
head_lines script =
    (codes "raid" ∷ codes "1" ∷ [])
    ∷ (codes "devices" ∷ decimal script.n ∷ [])
    ∷ (codes "rows" ∷ decimal script.rows ∷ [])
    ∷ (codes "mode" ∷ mode_word script.mode ∷ [])
    ∷ (codes "patience" ∷ decimal script.patience ∷ [])
    ∷ (codes "tries" ∷ decimal script.tries ∷ [])
    ∷ []

-- an object, its name and its rows
abbrev pub object_words : Object → Words
object_words object = codes "object" ∷ object.name ∷ map (λ (row : RowNo). decimal row.0) object.rows

-- what a job does, and the blocks that it writes
abbrev pub task_words : Script → Task → Words
task_words script (Read object first count) = codes "read" ∷ object ∷ decimal first ∷ decimal count ∷ []
task_words script (Write object first from count) = codes "write" ∷ object ∷ decimal first ∷ map block_text (blocks_of script from count)
task_words script (Recover row) = codes "recover" ∷ decimal row.0 ∷ []
task_words script (Lose bay) = codes "lose" ∷ decimal bay.0 ∷ []
task_words script (Fit bay) = codes "fit" ∷ decimal bay.0 ∷ []
task_words script (Rebuild bay) = codes "rebuild" ∷ decimal bay.0 ∷ []

abbrev pub quit_words : Option ℕ → Words
quit_words None = []
quit_words (Some requests) = codes "quit" ∷ decimal requests ∷ []

-- the same as the front of a line
abbrev pub quit_prefix : Option ℕ → List ℕ
quit_prefix None = []
quit_prefix (Some requests) = codes "quit " ++ (decimal requests ++ codes " ")

abbrev pub job_words : Script → Job → Words
job_words script job = quit_words job.quit ++ task_words script job.task

-- a host, and its jobs
abbrev pub host_lines : Script → HostJobs → List Words
host_lines script host = (codes "host" ∷ decimal host.host.0 ∷ []) ∷ map (job_words script) host.jobs

abbrev pub turn_words : Turn → Words
turn_words turn = codes "turn" ∷ decimal turn.host.0 ∷ decimal turn.moment ∷ []

-- the lines of a script
abbrev pub script_lines : Script → List Words
script_lines script =
    head_lines script
    ++ map object_words script.objects
    ++ flat_map (host_lines script) script.hosts
    ++ map turn_words script.turns
    ++ (codes "end" ∷ []) ∷ []

-- the text of a script
unfoldable pub script_text : Script → List ℕ
script_text script = flat_map line (script_lines script)
