-- Small scripts, and what a play of one shows.
use Rattle.std.proofs.Common.{ℕ, ◌==◌, Bool, not, List, [], ◌∷◌, ◌++◌, map, length, replicate, Some, None, flat_map, if◌then◌else◌}
use Rattle.std.specs.List.{range_with_len}
use Rattle.raid_base.specs.declared.numbers.HostNo.{HostNo}
use Rattle.raid_base.specs.declared.numbers.BayNo.{BayNo}
use Rattle.raid_base.specs.declared.numbers.RowNo.{RowNo}
use Rattle.raid_base.specs.declared.names.Name.{Name}
use Rattle.raid_base.specs.declared.jobs.Job.{Job}
use Rattle.raid_base.specs.declared.messages.Call.{Call}
use Rattle.raid_base.specs.declared.messages.Turn.{Turn}
use Rattle.raid_base.specs.declared.jobs.Task.{Task}
use Rattle.raid_base.specs.declared.cells.Content.{Content}
use Rattle.raid_base.specs.declared.cells.Content.TheVariants.{Bytes}
use Rattle.raid_base.specs.declared.cells.Shown.{Shown}
use Rattle.raid_base.specs.declared.cells.Shown.TheVariants.{Seen}
use Rattle.raid_base.specs.declared.jobs.JobEnd.{JobEnd}
use Rattle.raid_base.specs.declared.messages.Mode.{Mode}
use Rattle.raid_base.specs.declared.messages.Request.{Request}
use Rattle.raid_base.specs.declared.messages.Request.TheVariants.{Share, Claim, Confirm, Put, Release, Lose, Fit}
use Rattle.script_text.specs.Script.{Script, HostJobs, host_numbers}
use Rattle.histories.specs.Progress.{Ending}
use Rattle.histories.specs.History.{endings_at}
use Rattle.histories.specs.Turns.{all_ended}
use Rattle.histories.specs.RowStates.{shown_at, is_open}

abbrev pub host : ℕ → HostNo
host h = record { 0 = h }

abbrev pub bay : ℕ → BayNo
bay k = record { 0 = k }

abbrev pub row : ℕ → RowNo
row k = record { 0 = k }

abbrev pub a : Name
a = 97 ∷ []

abbrev pub job : Task → Job
job task = record { task = task; quit = None }

abbrev pub quits : ℕ → Task → Job
quits k task = record { task = task; quit = Some k }

abbrev pub jobs : ℕ → List Job → HostJobs
jobs h js = record { host = host h; jobs = js }

abbrev pub turn : ℕ → ℕ → Turn
turn h moment = record { host = host h; moment = moment }

-- turns of a host at the moments from this one on
abbrev pub times : ℕ → ℕ → ℕ → List Turn
times count h moment = map (turn h) (range_with_len moment count)

abbrev pub head_5 : Mode → List HostJobs → List (List ℕ) → List Turn → Script
head_5 mode hosts blocks turns = record {
  n = 5;
  rows = 1;
  mode = mode;
  patience = 3;
  tries = 2;
  objects = record { name = a; rows = row 0 ∷ [] } ∷ [];
  hosts = hosts;
  blocks = blocks;
  turns = turns;
}

abbrev pub head_3 : Mode → List HostJobs → List (List ℕ) → List Turn → Script
head_3 mode hosts blocks turns = record {
  n = 3;
  rows = 1;
  mode = mode;
  patience = 3;
  tries = 2;
  objects = record { name = a; rows = row 0 ∷ [] } ∷ [];
  hosts = hosts;
  blocks = blocks;
  turns = turns;
}

-- 64 equal bytes
abbrev pub bytes : ℕ → List ℕ
bytes b = replicate 64 b

abbrev pub seen : ℕ → Shown
seen b = Seen (Bytes (bytes b))

-- the results of each host, the contents read, the number of turns, whether all hosts have ended, the blocks shown, and whether the row is closed
pub record View : Type 0 where
  pub results : List (List JobEnd)
  pub contents : List Content
  pub turns : ℕ
  pub over : Bool
  pub blocks : List Shown
  pub closed : Bool

abbrev pub ends_of : Script → List Call → HostNo → List JobEnd
ends_of script history h = map (λ (e : Ending). e.ended) (endings_at script history h)

abbrev pub contents_at : Script → List Call → HostNo → List Content
contents_at script history h = flat_map (λ (e : Ending). e.contents) (endings_at script history h)

abbrev pub view : Script → List Call → View
view script history = record {
  results = map (ends_of script history) (host_numbers script);
  contents = flat_map (contents_at script history) (host_numbers script);
  turns = length history;
  over = all_ended script history;
  blocks = map (shown_at script history (row 0)) (range_with_len 0 4);
  closed = not (is_open script history (row 0));
}

-- requests in short: the kind and the bay
pub data Kind : Type 0 where
  Shares : ℕ → Kind
  Claims : ℕ → Kind
  Confirms : ℕ → Kind
  Puts : ℕ → Kind
  Releases : ℕ → Kind
  Loses : ℕ → Kind
  Fits : ℕ → Kind

abbrev pub kind_of : ℕ → Request → Kind
kind_of b (Share r id want) = Shares b
kind_of b (Claim r id how mask want) = Claims b
kind_of b (Confirm r id want) = Confirms b
kind_of b (Put r id n cell) = Puts b
kind_of b (Release r id n) = Releases b
kind_of b Lose = Loses b
kind_of b Fit = Fits b

-- what a host asked, the oldest first
abbrev pub asked_by : ℕ → List Call → List Kind
asked_by h [] = []
asked_by h (call ∷ earlier) =
    let before = asked_by h earlier in
    if call.ask.host.0 == h then before ++ kind_of call.bay.0 call.ask.what ∷ [] else before
