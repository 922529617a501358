-- What is committed in some plays.
use Rattle.std.proofs.Common.{◌≡◌, [], ◌∷◌, ◌++◌, refl}
use Rattle.raid_base.specs.declared.jobs.Task.TheVariants as tasks
use Rattle.raid_base.specs.declared.cells.Content.TheVariants.{Bytes, Lost}
use Rattle.raid_base.specs.declared.messages.Mode.TheVariants.{Order}
use Rattle.script_text.specs.Script.{Script}
use Rattle.histories.specs.History.{no_faults, play}
use Rattle.serial_laws.specs.Laws.{content_at}
use Rattle.histories.proofs.examples.Heads.{row, bay, a, job, jobs, quits, times, head_5, bytes}

-- a write that stops after its first put
abbrev stop_script : Script
stop_script = head_5 Order (jobs 1 (quits 7 (tasks.Write a 0 0 2) ∷ []) ∷ []) (bytes 0x41 ∷ bytes 0x42 ∷ []) (times 7 1 1)

first_block : content_at stop_script (play stop_script no_faults [] stop_script.turns) (row 0) 0 ≡ Bytes (bytes 0x41)
first_block = refl

second_block : content_at stop_script (play stop_script no_faults [] stop_script.turns) (row 0) 1 ≡ Bytes (bytes 0)
second_block = refl

-- a torn row: its missing unit is named lost, and written later
abbrev torn_script : Script
torn_script = head_5 Order
    (jobs 0 (job (tasks.Lose (bay 2)) ∷ []) ∷ jobs 1 (quits 7 (tasks.Write a 0 0 2) ∷ [])
    ∷ jobs 2 (job (tasks.Recover (row 0)) ∷ job (tasks.Write a 2 2 1) ∷ []) ∷ [])
    (bytes 0x41 ∷ bytes 0x42 ∷ bytes 0x55 ∷ []) (times 7 1 1 ++ times 1 0 8 ++ times 10 2 9)

named_lost : content_at torn_script (play torn_script no_faults [] torn_script.turns) (row 0) 2 ≡ Lost
named_lost = refl

later_written : content_at torn_script (play torn_script no_faults [] (torn_script.turns ++ times 7 2 19)) (row 0) 2 ≡ Bytes (bytes 0x55)
later_written = refl
