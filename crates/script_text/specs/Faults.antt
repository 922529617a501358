-- Which line of a text is the first that no script has, and why.
use Rattle.std.specs.Prelude.{ℕ, ◌+◌, ◌^◌, ◌==◌, ◌&&◌, ◌||◌, nat_le, nat_lt, Bool, true, false, not, if◌then◌else◌, List, [], ◌∷◌, ◌++◌, length, map, Option, Some, None}
use Rattle.std.specs.List.{list_all, list_any, slice_split}
use Rattle.std.specs.Option.{is_some}
use Rattle.raid_base.specs.declared.messages.Mode.TheVariants.{Lock}
use Rattle.raid_base.specs.declared.names.Name.{Name}
use Rattle.raid_base.specs.declared.numbers.RowNo.{RowNo}
use Rattle.raid_base.specs.declared.jobs.Job.{Job}
use Rattle.raid_base.specs.declared.jobs.Task.{Task}
use Rattle.raid_base.specs.declared.jobs.Task.TheVariants.{Read, Write, Recover, Lose, Fit, Rebuild}
use Rattle.raid_base.specs.declared.status.Kind.{Kind}
use Rattle.raid_base.specs.declared.status.Kind.TheVariants.{Shape, Range, Name as NameKind, Operator, End, Tail}
use Rattle.virtual_objects.specs.Objects.{Object, rows_of}
use Rattle.virtual_objects.specs.Table.{first_used, held}
use Rattle.script_text.specs.Script.{Script, HostJobs}
use Rattle.script_text.specs.declared.lines.Stage.{Stage}
use Rattle.script_text.specs.declared.lines.Stage.TheVariants.{Raid, Devices, Rows, Order, Patience, Tries, Body, Turns, Ended}
use Rattle.script_text.specs.Forms.{Form, RaidLine, DevicesLine, RowsLine, ModeLine, PatienceLine, TriesLine, ObjectLine, HostLine, JobLine, TurnLine, EndLine, NoLine, Work, Reads, Writes, Recovers, Loses, Fits, Rebuilds, block_of, form_at}

-- what may come next, and the script that the lines so far tell
pub record Said : Type 0 where
  pub stage : Stage
  pub script : Script

-- a script of so many devices and rows that says no more
abbrev pub least_script : ℕ → ℕ → Script
least_script n rows = record { n = n; rows = rows; mode = Lock; patience = 0; tries = 1; objects = []; hosts = []; blocks = []; turns = [] }

-- before the first line
abbrev pub nothing_said : Said
nothing_said = record { stage = Raid; script = least_script 3 1 }

abbrev pub is_from_to : ℕ → ℕ → ℕ → Bool
is_from_to least most n = nat_le least n && nat_le n most

abbrev pub row_numbers : List ℕ → List RowNo
row_numbers rows = map (λ (row : ℕ). record { 0 = row }) rows

abbrev pub quit_in_range : Option ℕ → Bool
quit_in_range None = true
quit_in_range (Some requests) = is_from_to 1 (2 ^ 20) requests

abbrev pub work_in_range : Script → Work → Bool
work_in_range script (Reads name first count) = nat_lt first (2 ^ 20) && is_from_to 1 120 count
work_in_range script (Writes name first blocks) = nat_lt first (2 ^ 20) && nat_le (length blocks) 120
work_in_range script (Recovers row) = nat_lt row script.rows
work_in_range script (Loses bay) = nat_lt bay script.n
work_in_range script (Fits bay) = nat_lt bay script.n
work_in_range script (Rebuilds bay) = nat_lt bay script.n

-- all numbers of a line are in range, hosts rise, and there are no more than 64 objects
abbrev pub is_in_range : Script → Form → Bool
is_in_range script (DevicesLine n) = is_from_to 3 16 n
is_in_range script (RowsLine rows) = is_from_to 1 4096 rows
is_in_range script (PatienceLine patience) = nat_lt patience (2 ^ 40)
is_in_range script (TriesLine tries) = is_from_to 1 64 tries
is_in_range script (ObjectLine name rows) = nat_lt (length script.objects) 64 && list_all (λ (row : ℕ). nat_lt row script.rows) rows
is_in_range script (HostLine host) = nat_lt host 16 && list_all (λ (before : HostJobs). nat_lt before.host.0 host) script.hosts
is_in_range script (JobLine quit work) = quit_in_range quit && work_in_range script work
is_in_range script (TurnLine host moment) = nat_lt host 16 && nat_lt moment (2 ^ 40)
is_in_range script _ = true

-- no object has this name or one of these rows, and no row comes twice
abbrev pub is_unused : List Object → Name → List ℕ → Bool
is_unused objects name rows = not (is_some (rows_of objects name)) && not (is_some (first_used (held objects) (row_numbers rows)))

abbrev pub has_host : List HostJobs → ℕ → Bool
has_host hosts number = list_any (λ (host : HostJobs). host.host.0 == number) hosts

-- an object's name and rows are new, and a turn's host has its line
abbrev pub are_names_right : Script → Form → Bool
are_names_right script (ObjectLine name rows) = is_unused script.objects name rows
are_names_right script (TurnLine host moment) = has_host script.hosts host
are_names_right script _ = true

abbrev pub is_operators : Work → Bool
is_operators (Loses bay) = true
is_operators (Fits bay) = true
is_operators (Rebuilds bay) = true
is_operators _ = false

-- the host whose lines these are
abbrev pub last_number : List HostJobs → ℕ
last_number [] = 0
last_number (host ∷ []) = host.host.0
last_number (host ∷ next ∷ more) = last_number (next ∷ more)

-- bays are lost, fitted and rebuilt by host 0 alone
abbrev pub is_allowed : Script → Form → Bool
is_allowed script (JobLine quit work) = not (is_operators work) || (last_number script.hosts == 0)
is_allowed script _ = true

-- the kinds in their order
abbrev pub judged : Bool → Bool → Bool → Option Kind
judged in_range names_right allowed =
    if not in_range then Some Range else (if not names_right then Some NameKind else (if not allowed then Some Operator else None))

-- what is wrong with a line of this form, the first that applies
abbrev pub fault_of : Script → Form → Option Kind
fault_of script NoLine = Some Shape
fault_of script form = judged (is_in_range script form) (are_names_right script form) (is_allowed script form)

-- the task, where the blocks of a write begin at this place of the script's list
abbrev pub task_of : ℕ → Work → Task
task_of at (Reads name first count) = Read name first count
task_of at (Writes name first blocks) = Write name first at (length blocks)
task_of at (Recovers row) = Recover (record { 0 = row })
task_of at (Loses bay) = Lose (record { 0 = bay })
task_of at (Fits bay) = Fit (record { 0 = bay })
task_of at (Rebuilds bay) = Rebuild (record { 0 = bay })

abbrev pub blocks_in : Work → List (List ℕ)
blocks_in (Writes name first blocks) = map block_of blocks
blocks_in _ = []

-- the last host has one job more
abbrev pub with_job : Job → List HostJobs → List HostJobs
with_job job [] = []
with_job job (host ∷ []) = record { host = host.host; jobs = host.jobs ++ job ∷ [] } ∷ []
with_job job (host ∷ next ∷ more) = host ∷ with_job job (next ∷ more)

abbrev pub with_work : Script → Option ℕ → Work → Script
with_work script quit work = record script {
  hosts = with_job (record { task = task_of (length script.blocks) work; quit = quit }) script.hosts;
  blocks = script.blocks ++ blocks_in work;
}

-- what is told behind a line of this form
abbrev pub after : Script → Form → Said
after script RaidLine = record { stage = Devices; script = script }
after script (DevicesLine n) = record { stage = Rows; script = least_script n 1 }
after script (RowsLine rows) = record { stage = Order; script = least_script script.n rows }
after script (ModeLine mode) = record { stage = Patience; script = record script { mode = mode } }
after script (PatienceLine patience) = record { stage = Tries; script = record script { patience = patience } }
after script (TriesLine tries) = record { stage = Body; script = record script { tries = tries } }
after script (ObjectLine name rows) = record { stage = Body; script = record script { objects = script.objects ++ record { name = name; rows = row_numbers rows } ∷ [] } }
after script (HostLine host) = record { stage = Body; script = record script { hosts = script.hosts ++ record { host = record { 0 = host }; jobs = [] } ∷ [] } }
after script (JobLine quit work) = record { stage = Body; script = with_work script quit work }
after script (TurnLine host moment) = record { stage = Turns; script = record script { turns = script.turns ++ record { host = record { 0 = host }; moment = moment } ∷ [] } }
after script EndLine = record { stage = Ended; script = script }
after script NoLine = record { stage = Ended; script = script }

abbrev pub form_of : Said → List ℕ → Form
form_of said text = form_at said.stage said.script text

-- the pieces of a text that each a byte 0A ends, and what stands behind the last such byte
abbrev pub pieces : List ℕ → List (List ℕ)
pieces text = slice_split (λ byte. byte == 10) text

abbrev pub is_ended : Stage → Bool
is_ended Ended = true
is_ended _ = false

-- what stands behind the last line ended by 0A: nothing, where that is the end line; otherwise the input ends too early
abbrev pub last_fault : Stage → List ℕ → Option Kind
last_fault Ended [] = None
last_fault Ended (byte ∷ bytes) = Some Tail
last_fault stage text = Some End

-- what is wrong with a line that 0A ends
abbrev pub line_fault : Said → List ℕ → Option Kind
line_fault said text = if is_ended said.stage then Some Tail else fault_of said.script (form_of said text)

-- the fault of this line, or else that of the next lines
abbrev pub or_next : ℕ → Option Kind → Option (ℕ × Kind) → Option (ℕ × Kind)
or_next line (Some kind) next = Some (line, kind)
or_next line None next = next

-- the first line with a fault, of lines that are counted from here on, and its kind
abbrev pub fault_from : Said → ℕ → List (List ℕ) → Option (ℕ × Kind)
fault_from said line [] = None
fault_from said line (text ∷ []) = or_next line (last_fault said.stage text) None
fault_from said line (text ∷ next ∷ more) =
    or_next line (line_fault said text) (fault_from (after said.script (form_of said text)) (line + 1) (next ∷ more))

-- the first line of a text with a fault: the lines up to it begin no script's text
abbrev pub fault_in : List ℕ → Option (ℕ × Kind)
fault_in bytes = fault_from nothing_said 1 (pieces bytes)
