-- Reads and writes that touch blocks which are there, in few enough rows.
use Rattle.std.specs.Result.{IsOk}
use Rattle.raid_base.specs.declared.jobs.Task.{Task}
use Rattle.raid_base.specs.declared.jobs.Task.TheVariants.{Read, Write}
use Rattle.script_text.specs.Script.{Script, parts_of}

-- a read or write has its parts
abbrev pub HasParts : Script → Task → Type 0
HasParts script (Read object first count) = IsOk (parts_of script object first count)
HasParts script (Write object first from count) = IsOk (parts_of script object first count)
HasParts script _ = Unit {0}
