-- Plays under stamps without loss.
use Rattle.std.proofs.Common.{◌≡◌, [], ◌∷◌, ◌++◌, true, refl}
use Rattle.raid_base.specs.declared.jobs.Task.TheVariants as tasks
use Rattle.raid_base.specs.declared.cells.Content.TheVariants.{Bytes}
use Rattle.raid_base.specs.declared.jobs.JobEnd.TheVariants as ends
use Rattle.raid_base.specs.declared.messages.Mode.TheVariants.{Order}
use Rattle.raid_base.specs.Numbers.{number}
use Rattle.script_text.specs.Script.{Script}
use Rattle.histories.specs.History.{no_faults}
use Rattle.histories.specs.Turns.{sim}
use Rattle.histories.proofs.examples.Heads.{a, job, jobs, times, head_5, head_3, bytes, seen, view, Shares, Claims, Confirms, Puts, asked_by}

-- a write and then a read
abbrev first_script : Script
first_script = head_3 Order (jobs 1 (job (tasks.Write a 0 0 1) ∷ job (tasks.Read a 0 1) ∷ []) ∷ []) (bytes 0x41 ∷ []) []

first_asked : asked_by 1 (sim first_script no_faults 8) ≡ Claims 2 ∷ Shares 1 ∷ Claims 0 ∷ Confirms 2 ∷ Puts 0 ∷ Puts 2 ∷ Shares 0 ∷ []
first_asked = refl

-- a late read
abbrev late_script : Script
late_script = head_5 Order (jobs 1 (job (tasks.Read a 0 1) ∷ []) ∷ jobs 2 (job (tasks.Write a 0 0 1) ∷ []) ∷ []) (bytes 0x41 ∷ []) (times 5 2 1)

late : view late_script (sim late_script no_faults 8) ≡ record {
  results = (ends.Read (number 17) ∷ []) ∷ (ends.Wrote (number 2) ∷ []) ∷ [];
  contents = Bytes (bytes 0x41) ∷ [];
  turns = 7;
  over = true;
  blocks = seen 0x41 ∷ seen 0 ∷ seen 0 ∷ seen 0 ∷ [];
  closed = true;
}
late = refl

late_asked : asked_by 2 (sim late_script no_faults 8) ≡ Claims 4 ∷ Claims 0 ∷ Confirms 4 ∷ Puts 0 ∷ Puts 4 ∷ []
late_asked = refl

-- a read meets a write of two blocks
abbrev busy_script : Script
busy_script = head_5 Order (jobs 1 (job (tasks.Write a 0 0 2) ∷ []) ∷ jobs 2 (job (tasks.Read a 0 2) ∷ []) ∷ []) (bytes 0x41 ∷ bytes 0x42 ∷ [])
    (times 7 1 1 ++ times 2 2 8 ++ times 2 1 10)

busy : view busy_script (sim busy_script no_faults 8) ≡ record {
  results = (ends.Wrote (number 1) ∷ []) ∷ (ends.Read (number 18) ∷ []) ∷ [];
  contents = Bytes (bytes 0x41) ∷ Bytes (bytes 0x42) ∷ [];
  turns = 13;
  over = true;
  blocks = seen 0x41 ∷ seen 0x42 ∷ seen 0 ∷ seen 0 ∷ [];
  closed = true;
}
busy = refl

busy_asked : asked_by 1 (sim busy_script no_faults 8) ≡ Claims 4 ∷ Shares 2 ∷ Shares 3 ∷ Claims 0 ∷ Claims 1 ∷ Confirms 4 ∷ Puts 0 ∷ Puts 1 ∷ Puts 4 ∷ []
busy_asked = refl
