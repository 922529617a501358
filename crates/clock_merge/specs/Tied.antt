-- Journals and transcripts of one run.
use Rattle.std.specs.Prelude.{◌≡◌, ℕ, ◌<◌, ◌==◌, Bool, false, if◌then◌else◌, List, [], ◌∷◌, length, map, reverse, flat_map, Option, Some, None, slice_get, slice_index_or}
use Rattle.std.specs.List.{list_all}
use Rattle.raid_base.specs.declared.numbers.HostNo.{HostNo}
use Rattle.raid_base.specs.declared.numbers.BayNo.{BayNo}
use Rattle.raid_base.specs.declared.messages.Call.{Call}
use Rattle.raid_base.specs.declared.messages.Entry.{Entry}
use Rattle.raid_base.specs.Replies.{is_fault}
use Rattle.stripe_layout.specs.Placement.{bay}
use Rattle.slot_rules.specs.Slots.{Bay, first_bay}
use Rattle.slot_rules.specs.Replay.{Replays}
use Rattle.script_text.specs.Script.{Script, host_numbers}
use Rattle.script_text.specs.Ranges.{IsScript}
use Rattle.histories.specs.Progress.{Ending}
use Rattle.histories.specs.History.{Faults, progress_at, entry_of, journal, transcript, turns_of, bay_at, clock_at, endings_at, has_ended, faults_in, IsHistory, play}
use Rattle.histories.specs.Asked.{AreAsked}
use Rattle.histories.specs.HostRuns.{IsHostRun}
use Rattle.histories.specs.Played.{Told}
use Rattle.histories.specs.Results.{host_results, results, contents}
use Rattle.histories.specs.Turns.{all_ended}
use Rattle.clock_merge.specs.Merge.{Line, IsMerge, Ticks, turn_of}

-- the entries of a host, in their order
abbrev pub entries_of : HostNo → List Entry → List Entry
entries_of host [] = []
entries_of host (entry ∷ entries) = let rest = entries_of host entries in if entry.ask.host.0 == host.0 then entry ∷ rest else rest

-- the calls at a bay as entries of its journal, in their order; a transcript has the oldest call first
abbrev pub calls_at : BayNo → List Call → List Entry
calls_at bay [] = []
calls_at bay (call ∷ calls) = let rest = calls_at bay calls in if call.bay.0 == bay.0 then entry_of call ∷ rest else rest

-- For each host and bay, the host's calls at that bay are the bay's entries of that host.
abbrev pub AreTied : List (List Entry) → (HostNo → List Call) → Type 0
AreTied journals transcripts = (k : ℕ) → k < length journals → (host : HostNo) → entries_of host (slice_index_or journals k []) ≡ calls_at (bay k) (transcripts host)

-- whether it has a Fault reply, false where there is none
abbrev pub has_fault : Option Entry → Bool
has_fault None = false
has_fault (Some entry) = is_fault entry.reply

-- whether the entry at a place of a bay's journal is a Fault
abbrev pub faults_of : List (List Entry) → Faults
faults_of journals bay place = has_fault (slice_get (slice_index_or journals bay.0 []) place)

-- the call of a line, and those of a merge, the newest first
abbrev pub call_of : Line → Call
call_of line = record { bay = line.bay; ask = line.entry.ask; answer = record { clock = line.entry.clock; reply = line.entry.reply } }

abbrev pub calls_of : List Line → List Call
calls_of lines = reverse (map call_of lines)

-- calls with these journals and transcripts, each the next of its host
pub record AreCallsOfMerge (script : Script) (journals : List (List Entry)) (transcripts : HostNo → List Call) (history : List Call) : Type 0 where
  pub asked : AreAsked script history
  pub journals_are : (k : ℕ) → k < script.n → journal (bay k) history ≡ slice_index_or journals k []
  pub transcripts_are : (host : HostNo) → transcript host history ≡ transcripts host
  pub turns : (lines : List Line) → IsMerge journals lines → turns_of history ≡ map turn_of lines
  -- each bay is where its journal alone leads
  pub clocks : (k : ℕ) → k < script.n → (end : ℕ) → Ticks 0 (slice_index_or journals k []) end → clock_at (bay k) history ≡ end
  pub bays : (k : ℕ) → k < script.n → (later : Bay) (end : ℕ) → Replays (first_bay script.mode script.rows script.patience) 0 (slice_index_or journals k []) later end → bay_at script (bay k) history ≡ later
  -- and each host where its transcript alone leads
  pub progress : (host : HostNo) → progress_at script host history ≡ progress_at script host (reverse (transcripts host))
  pub results : results script history ≡ flat_map (λ host. host_results script (reverse (transcripts host)) host) (host_numbers script)
  pub contents : contents script history ≡ map (λ (e : Ending). e.contents) (flat_map (λ host. endings_at script (reverse (transcripts host)) host) (host_numbers script))
  pub ended : all_ended script history ≡ list_all (λ host. has_ended script (reverse (transcripts host)) host) (host_numbers script)

-- a history with these journals and transcripts
pub record IsPlayOfMerge (script : Script) (journals : List (List Entry)) (transcripts : HostNo → List Call) (history : List Call) : Type 0 where
  pub along : IsHistory script history
  pub same_journals : (k : ℕ) → k < script.n → journal (bay k) history ≡ slice_index_or journals k []
  pub same_transcripts : (host : HostNo) → transcript host history ≡ transcripts host
  -- its calls are those of the merge
  pub is : (lines : List Line) → IsMerge journals lines → history ≡ calls_of lines
  pub calls : AreCallsOfMerge script journals transcripts history
  -- and the faults that it tells are those of the journals
  pub faults : (at : BayNo) (place : ℕ) → faults_in history at place ≡ faults_of journals at place
  pub told : Told script (faults_of journals) history

-- Journals whose clocks tick, tied to transcripts of hosts of a script, are those of the calls of their merge, whatever was replied.
abbrev pub MergedCallsAreTied : Type 0
MergedCallsAreTied = (script : Script) (journals : List (List Entry)) (transcripts : HostNo → List Call) (lines : List Line) → length journals ≡ script.n →
    ((k : ℕ) → k < script.n → (end : ℕ) × Ticks 0 (slice_index_or journals k []) end) →
    ((host : HostNo) → IsHostRun script host (reverse (transcripts host))) → AreTied journals transcripts → IsMerge journals lines →
    AreCallsOfMerge script journals transcripts (calls_of lines)

-- Journals that replay, tied to transcripts of hosts of a script, are those of the play of their merge.
abbrev pub MergedPlaysAreTied : Type 0
MergedPlaysAreTied = (script : Script) (journals : List (List Entry)) (transcripts : HostNo → List Call) (lines : List Line) → IsScript script → length journals ≡ script.n →
    ((k : ℕ) → k < script.n → (later : Bay) × (clock : ℕ) × Replays (first_bay script.mode script.rows script.patience) 0 (slice_index_or journals k []) later clock) →
    ((host : HostNo) → IsHostRun script host (reverse (transcripts host))) → AreTied journals transcripts → IsMerge journals lines →
    IsPlayOfMerge script journals transcripts (play script (faults_of journals) [] (map turn_of lines))

-- Journals have one merge.
abbrev pub MergesAreUnique : Type 0
MergesAreUnique = (journals : List (List Entry)) (lines others : List Line) → IsMerge journals lines → IsMerge journals others → lines ≡ others
