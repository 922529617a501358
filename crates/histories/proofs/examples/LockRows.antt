-- Plays under locks.
use Rattle.std.proofs.Common.{◌≡◌, [], ◌∷◌, ◌++◌, true, refl}
use Rattle.raid_base.specs.declared.jobs.Task.TheVariants as tasks
use Rattle.raid_base.specs.declared.cells.Content.TheVariants.{Bytes}
use Rattle.raid_base.specs.declared.jobs.JobEnd.TheVariants as ends
use Rattle.raid_base.specs.declared.messages.Mode.TheVariants.{Lock}
use Rattle.raid_base.specs.Numbers.{number}
use Rattle.script_text.specs.Script.{Script}
use Rattle.histories.specs.History.{no_faults}
use Rattle.histories.specs.Turns.{sim}
use Rattle.histories.proofs.examples.Heads.{bay, a, job, jobs, times, head_5, bytes, seen, view, Shares, Claims, Confirms, Puts, Releases, asked_by}

-- a write and then a read
abbrev alone_script : Script
alone_script = head_5 Lock (jobs 1 (job (tasks.Write a 0 0 2) ∷ job (tasks.Read a 0 2) ∷ []) ∷ []) (bytes 0x41 ∷ bytes 0x42 ∷ []) []

alone : view alone_script (sim alone_script no_faults 20) ≡ record {
  results = (ends.Wrote (number 17) ∷ ends.Read (number 49) ∷ []) ∷ [];
  contents = Bytes (bytes 0x41) ∷ Bytes (bytes 0x42) ∷ [];
  turns = 15;
  over = true;
  blocks = seen 0x41 ∷ seen 0x42 ∷ seen 0 ∷ seen 0 ∷ [];
  closed = true;
}
alone = refl

alone_asked : asked_by 1 (sim alone_script no_faults 11)
    ≡ Claims 4 ∷ Shares 2 ∷ Shares 3 ∷ Claims 0 ∷ Claims 1 ∷ Confirms 4 ∷ Puts 0 ∷ Puts 1 ∷ Puts 4 ∷ Releases 2 ∷ Releases 3 ∷ []
alone_asked = refl

-- two writes of one block
abbrev two_script : Script
two_script = head_5 Lock (jobs 1 (job (tasks.Write a 0 0 1) ∷ []) ∷ jobs 2 (job (tasks.Write a 0 1 1) ∷ []) ∷ [])
    (bytes 0x41 ∷ bytes 0x42 ∷ []) (times 5 2 1)

two : view two_script (sim two_script no_faults 20) ≡ record {
  results = (ends.Wrote (number 33) ∷ []) ∷ (ends.Wrote (number 18) ∷ []) ∷ [];
  contents = [];
  turns = 10;
  over = true;
  blocks = seen 0x41 ∷ seen 0 ∷ seen 0 ∷ seen 0 ∷ [];
  closed = true;
}
two = refl

-- a reader is lost with its device
abbrev reader_script : Script
reader_script = head_5 Lock (jobs 0 (job (tasks.Lose (bay 0)) ∷ []) ∷ jobs 1 (job (tasks.Read a 0 1) ∷ []) ∷ []) [] (times 1 1 1 ++ times 1 0 2)

reader : view reader_script (sim reader_script no_faults 20) ≡ record {
  results = (ends.Lost ∷ []) ∷ (ends.Read (number 49) ∷ []) ∷ [];
  contents = Bytes (bytes 0) ∷ [];
  turns = 12;
  over = true;
  blocks = seen 0 ∷ seen 0 ∷ seen 0 ∷ seen 0 ∷ [];
  closed = true;
}
reader = refl

reader_asked : asked_by 1 (sim reader_script no_faults 20)
    ≡ Shares 0 ∷ Releases 0 ∷ Shares 0 ∷ Shares 4 ∷ Shares 1 ∷ Shares 2 ∷ Shares 3 ∷ Releases 4 ∷ Releases 1 ∷ Releases 2 ∷ Releases 3 ∷ []
reader_asked = refl
