-- Plays with hosts that stop, and recovery.
use Rattle.std.proofs.Common.{◌≡◌, ℕ, ◌==◌, ◌&&◌, List, [], ◌∷◌, ◌++◌, Some, None, true, false, refl}
use Rattle.raid_base.specs.declared.jobs.Task.TheVariants as tasks
use Rattle.raid_base.specs.declared.cells.Content.TheVariants.{Bytes, Lost}
use Rattle.raid_base.specs.declared.cells.Shown.TheVariants.{Hidden}
use Rattle.raid_base.specs.declared.jobs.Cause.TheVariants as causes
use Rattle.raid_base.specs.declared.jobs.JobEnd.TheVariants as ends
use Rattle.raid_base.specs.declared.messages.Mode.TheVariants.{Order}
use Rattle.raid_base.specs.Numbers.{number}
use Rattle.raid_base.specs.declared.messages.Turn.{Turn}
use Rattle.script_text.specs.Script.{Script, HostJobs}
use Rattle.histories.specs.History.{Faults, no_faults}
use Rattle.histories.specs.Turns.{sim}
use Rattle.histories.proofs.examples.Heads.{bay, row, a, job, quits, jobs, turn, times, head_5, bytes, seen, view}

-- a write stops after its first put, and the row is recovered
abbrev stop_script : Script
stop_script = head_5 Order
    (jobs 1 (quits 7 (tasks.Write a 0 0 2) ∷ []) ∷ jobs 2 (job (tasks.Recover (row 0)) ∷ []) ∷ [])
    (bytes 0x41 ∷ bytes 0x42 ∷ []) (times 7 1 1)

stop : view stop_script (sim stop_script no_faults 12) ≡ record {
  results = (ends.Part (number 1) 1 causes.Quit ∷ []) ∷ (ends.Recovered (number 18) true None ∷ []) ∷ [];
  contents = [];
  turns = 18;
  over = true;
  blocks = seen 0x41 ∷ seen 0 ∷ seen 0 ∷ seen 0 ∷ [];
  closed = true;
}
stop = refl

-- the same with a missing unit in a torn row
abbrev torn_script : Script
torn_script = head_5 Order
    (jobs 0 (job (tasks.Lose (bay 2)) ∷ []) ∷ jobs 1 (quits 7 (tasks.Write a 0 0 2) ∷ [])
    ∷ jobs 2 (job (tasks.Recover (row 0)) ∷ job (tasks.Read a 2 1) ∷ job (tasks.Write a 2 2 1) ∷ job (tasks.Read a 2 1) ∷ []) ∷ [])
    (bytes 0x41 ∷ bytes 0x42 ∷ bytes 0x55 ∷ []) (times 7 1 1 ++ times 1 0 8)

torn : view torn_script (sim torn_script no_faults 40) ≡ record {
  results = (ends.Lost ∷ []) ∷ (ends.Part (number 1) 1 causes.Quit ∷ [])
      ∷ (ends.Recovered (number 18) true (Some 2) ∷ ends.Read (number 34) ∷ ends.Wrote (number 50) ∷ ends.Read (number 66) ∷ []) ∷ [];
  contents = Lost ∷ Bytes (bytes 0x55) ∷ [];
  turns = 35;
  over = true;
  blocks = seen 0x41 ∷ seen 0 ∷ seen 0x55 ∷ seen 0 ∷ [];
  closed = true;
}
torn = refl

-- a write stops before its puts, and nothing is torn
abbrev untorn_script : Script
untorn_script = head_5 Order
    (jobs 0 (job (tasks.Lose (bay 2)) ∷ []) ∷ jobs 1 (quits 3 (tasks.Write a 0 0 1) ∷ []) ∷ jobs 2 (job (tasks.Recover (row 0)) ∷ []) ∷ [])
    (bytes 0x41 ∷ []) (times 1 0 1 ++ times 3 1 2 ++ times 10 2 10)

untorn : view untorn_script (sim untorn_script no_faults 12) ≡ record {
  results = (ends.Lost ∷ []) ∷ (ends.Gave 1 causes.Quit ∷ []) ∷ (ends.Recovered (number 18) true None ∷ []) ∷ [];
  contents = [];
  turns = 14;
  over = true;
  blocks = seen 0 ∷ seen 0 ∷ seen 0 ∷ seen 0 ∷ [];
  closed = true;
}
untorn = refl

-- and without the recovery the missing block is hidden
abbrev hidden_script : Script
hidden_script = head_5 Order
    (jobs 0 (job (tasks.Lose (bay 2)) ∷ []) ∷ jobs 1 (quits 3 (tasks.Write a 0 0 1) ∷ []) ∷ [])
    (bytes 0x41 ∷ []) (times 1 0 1 ++ times 3 1 2)

hidden : view hidden_script (sim hidden_script no_faults 12) ≡ record {
  results = (ends.Lost ∷ []) ∷ (ends.Gave 1 causes.Quit ∷ []) ∷ [];
  contents = [];
  turns = 4;
  over = true;
  blocks = seen 0 ∷ seen 0 ∷ Hidden ∷ seen 0 ∷ [];
  closed = false;
}
hidden = refl

-- a recovery seizes the notes of a live write, at three places
abbrev seized_hosts : List HostJobs
seized_hosts = jobs 1 (job (tasks.Write a 0 0 2) ∷ []) ∷ jobs 2 (job (tasks.Recover (row 0)) ∷ []) ∷ []

abbrev seized_script : List Turn → Script
seized_script turns = head_5 Order seized_hosts (bytes 0x41 ∷ bytes 0x42 ∷ []) (times 6 1 1 ++ turns)

abbrev before_turns : List Turn
before_turns = turn 2 10 ∷ turn 2 11 ∷ turn 1 12 ∷ []

seized_before : view (seized_script before_turns) (sim (seized_script before_turns) no_faults 20) ≡ record {
  results = (ends.Part (number 1) 0 (causes.Seized (row 0)) ∷ []) ∷ (ends.Recovered (number 18) true None ∷ []) ∷ [];
  contents = [];
  turns = 18;
  over = true;
  blocks = seen 0 ∷ seen 0 ∷ seen 0 ∷ seen 0 ∷ [];
  closed = true;
}
seized_before = refl

abbrev within_turns : List Turn
within_turns = turn 2 10 ∷ turn 1 11 ∷ turn 2 12 ∷ turn 2 13 ∷ turn 1 14 ∷ []

seized_within : view (seized_script within_turns) (sim (seized_script within_turns) no_faults 20) ≡ record {
  results = (ends.Part (number 1) 1 (causes.Seized (row 0)) ∷ []) ∷ (ends.Recovered (number 18) true None ∷ []) ∷ [];
  contents = [];
  turns = 19;
  over = true;
  blocks = seen 0x41 ∷ seen 0 ∷ seen 0 ∷ seen 0 ∷ [];
  closed = true;
}
seized_within = refl

abbrev behind_turns : List Turn
behind_turns = turn 2 10 ∷ turn 1 11 ∷ turn 1 12 ∷ turn 1 13 ∷ []

seized_behind : view (seized_script behind_turns) (sim (seized_script behind_turns) no_faults 20) ≡ record {
  results = (ends.Wrote (number 1) ∷ []) ∷ (ends.Recovered (number 18) true None ∷ []) ∷ [];
  contents = [];
  turns = 20;
  over = true;
  blocks = seen 0x41 ∷ seen 0x42 ∷ seen 0 ∷ seen 0 ∷ [];
  closed = true;
}
seized_behind = refl

-- a put fails
abbrev failing_script : Script
failing_script = head_5 Order (jobs 1 (job (tasks.Write a 0 0 1) ∷ job (tasks.Recover (row 0)) ∷ []) ∷ []) (bytes 0x41 ∷ []) []

-- the store of bay 0 fails at this entry of its journal
abbrev fails_at : ℕ → Faults
fails_at k b place = (b.0 == 0) && (place == k)

failing : view failing_script (sim failing_script (fails_at 1) 20) ≡ record {
  results = (ends.Part (number 1) 0 (causes.Fault (bay 0)) ∷ ends.Recovered (number 33) true None ∷ []) ∷ [];
  contents = [];
  turns = 15;
  over = true;
  blocks = seen 0 ∷ seen 0 ∷ seen 0 ∷ seen 0 ∷ [];
  closed = true;
}
failing = refl

-- a read for a claim fails, and the second attempt writes
abbrev once_script : Script
once_script = head_5 Order (jobs 1 (job (tasks.Write a 0 0 1) ∷ []) ∷ []) (bytes 0x41 ∷ []) []

once : (view once_script (sim once_script (fails_at 0) 20)).results ≡ (ends.Wrote (number 17) ∷ []) ∷ []
once = refl
