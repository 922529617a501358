-- Plays with a lost device.
use Rattle.std.proofs.Common.{◌≡◌, [], ◌∷◌, ◌++◌, true, refl}
use Rattle.raid_base.specs.declared.jobs.Task.TheVariants as tasks
use Rattle.raid_base.specs.declared.cells.Content.TheVariants.{Bytes}
use Rattle.raid_base.specs.declared.cells.Shown.TheVariants.{Hidden}
use Rattle.raid_base.specs.declared.jobs.Cause.TheVariants as causes
use Rattle.raid_base.specs.declared.jobs.JobEnd.TheVariants as ends
use Rattle.raid_base.specs.declared.messages.Mode.TheVariants.{Order}
use Rattle.raid_base.specs.Numbers.{number}
use Rattle.script_text.specs.Script.{Script}
use Rattle.histories.specs.History.{no_faults}
use Rattle.histories.specs.Turns.{sim}
use Rattle.histories.proofs.examples.Heads.{bay, row, a, job, jobs, times, head_5, head_3, bytes, seen, view, Shares, Claims, Confirms, Puts, Releases, asked_by}

-- loss, fit and rebuild beside a write and reads
abbrev rebuild_script : Script
rebuild_script = head_5 Order
    (jobs 0 (job (tasks.Lose (bay 0)) ∷ job (tasks.Fit (bay 0)) ∷ job (tasks.Rebuild (bay 0)) ∷ [])
    ∷ jobs 1 (job (tasks.Write a 0 0 1) ∷ job (tasks.Read a 0 1) ∷ job (tasks.Read a 0 1) ∷ job (tasks.Read a 0 1) ∷ []) ∷ [])
    (bytes 0x41 ∷ [])
    (times 5 1 1 ++ times 1 0 6 ++ times 5 1 7 ++ times 1 0 12 ++ times 5 1 13 ++ times 11 0 18 ++ times 1 1 29)

rebuild : view rebuild_script (sim rebuild_script no_faults 4) ≡ record {
  results = (ends.Lost ∷ ends.Fitted ∷ ends.Rebuilt ∷ [])
      ∷ (ends.Wrote (number 1) ∷ ends.Read (number 17) ∷ ends.Read (number 33) ∷ ends.Read (number 49) ∷ []) ∷ [];
  contents = Bytes (bytes 0x41) ∷ Bytes (bytes 0x41) ∷ Bytes (bytes 0x41) ∷ [];
  turns = 29;
  over = true;
  blocks = seen 0x41 ∷ seen 0 ∷ seen 0 ∷ seen 0 ∷ [];
  closed = true;
}
rebuild = refl

-- a write of a missing unit, behind at first
abbrev behind_script : Script
behind_script = head_5 Order
    (jobs 0 (job (tasks.Lose (bay 0)) ∷ []) ∷ jobs 1 (job (tasks.Write a 0 0 1) ∷ []) ∷ jobs 3 (job (tasks.Read a 0 1) ∷ []) ∷ [])
    (bytes 0x42 ∷ []) (times 1 3 1 ++ times 1 0 2 ++ times 10 1 3)

behind : view behind_script (sim behind_script no_faults 4) ≡ record {
  results = (ends.Lost ∷ []) ∷ (ends.Wrote (number 17) ∷ []) ∷ (ends.Read (number 3) ∷ []) ∷ [];
  contents = Bytes (bytes 0) ∷ [];
  turns = 12;
  over = true;
  blocks = seen 0x42 ∷ seen 0 ∷ seen 0 ∷ seen 0 ∷ [];
  closed = true;
}
behind = refl

behind_asked : asked_by 1 (sim behind_script no_faults 4)
    ≡ Claims 4 ∷ Claims 0 ∷ Releases 4 ∷ Claims 4 ∷ Claims 0 ∷ Shares 1 ∷ Shares 2 ∷ Shares 3 ∷ Confirms 4 ∷ Puts 4 ∷ []
behind_asked = refl

-- the device is lost between the data put and the parity put
abbrev between_script : Script
between_script = head_5 Order
    (jobs 0 (job (tasks.Lose (bay 0)) ∷ []) ∷ jobs 1 (job (tasks.Write a 0 0 1) ∷ job (tasks.Read a 0 1) ∷ []) ∷ [])
    (bytes 0x41 ∷ []) (times 4 1 1 ++ times 1 0 5 ++ times 6 1 6)

between : view between_script (sim between_script no_faults 4) ≡ record {
  results = (ends.Lost ∷ []) ∷ (ends.Wrote (number 1) ∷ ends.Read (number 17) ∷ []) ∷ [];
  contents = Bytes (bytes 0x41) ∷ [];
  turns = 11;
  over = true;
  blocks = seen 0x41 ∷ seen 0 ∷ seen 0 ∷ seen 0 ∷ [];
  closed = true;
}
between = refl

-- the operator's memory
abbrev operator_script : Script
operator_script = head_3 Order
    (jobs 0 (job (tasks.Lose (bay 1)) ∷ job (tasks.Lose (bay 2)) ∷ job (tasks.Fit (bay 1)) ∷ job (tasks.Rebuild (bay 1)) ∷ job (tasks.Lose (bay 2)) ∷ []) ∷ []) [] []

operator : view operator_script (sim operator_script no_faults 12) ≡ record {
  results = (ends.Lost ∷ ends.StillMissing (bay 1) ∷ ends.Fitted ∷ ends.Rebuilt ∷ ends.Lost ∷ []) ∷ [];
  contents = [];
  turns = 10;
  over = true;
  blocks = seen 0 ∷ seen 0 ∷ Hidden ∷ Hidden ∷ [];
  closed = true;
}
operator = refl

-- the parity is lost under a claim
abbrev parity_script : Script
parity_script = head_5 Order
    (jobs 0 (job (tasks.Lose (bay 4)) ∷ []) ∷ jobs 1 (job (tasks.Write a 0 0 1) ∷ []) ∷ [])
    (bytes 0x41 ∷ []) (times 2 1 1 ++ times 1 0 3)

parity : view parity_script (sim parity_script no_faults 12) ≡ record {
  results = (ends.Lost ∷ []) ∷ (ends.Wrote (number 17) ∷ []) ∷ [];
  contents = [];
  turns = 10;
  over = true;
  blocks = seen 0x41 ∷ seen 0 ∷ seen 0 ∷ seen 0 ∷ [];
  closed = true;
}
parity = refl

parity_asked : asked_by 1 (sim parity_script no_faults 12)
    ≡ Claims 4 ∷ Claims 0 ∷ Confirms 4 ∷ Releases 0 ∷ Releases 4 ∷ Claims 4 ∷ Claims 0 ∷ Confirms 4 ∷ Puts 0 ∷ []
parity_asked = refl

-- nobody but the operator recovers a row without parity
abbrev gone_script : Script
gone_script = head_5 Order (jobs 0 (job (tasks.Lose (bay 4)) ∷ []) ∷ jobs 2 (job (tasks.Recover (row 0)) ∷ []) ∷ []) [] (times 1 0 1)

gone : (view gone_script (sim gone_script no_faults 12)).results ≡ (ends.Lost ∷ []) ∷ (ends.Gave 2 (causes.Gone (bay 4)) ∷ []) ∷ []
gone = refl
