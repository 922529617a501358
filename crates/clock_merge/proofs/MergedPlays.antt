-- Journals that replay, tied to transcripts of hosts of a script, are those of the play of their merge.
use Rattle.std.proofs.Common.{◌≡◌, ℕ, ◌<◌, List, [], ◌∷◌, length, map, reverse, sym, ap, subst, ◌∙◌}
use Rattle.std.specs.List.{slice_index_or}
use Rattle.raid_base.specs.declared.numbers.HostNo.{HostNo}
use Rattle.raid_base.specs.declared.numbers.BayNo.{BayNo}
use Rattle.raid_base.specs.declared.messages.Call.{Call}
use Rattle.raid_base.specs.declared.messages.Entry.{Entry}
use Rattle.raid_base.specs.declared.messages.Turn.{Turn}
use Rattle.slot_rules.specs.Slots.{Bay, first_bay}
use Rattle.slot_rules.specs.Replay.{Replays}
use Rattle.script_text.specs.Script.{Script}
use Rattle.histories.specs.HostRuns.{IsHostRun}
use Rattle.histories.specs.History.{Faults, journal, answered, faults_in, IsHistory, play}
use Rattle.histories.specs.Played.{Told}
use Rattle.histories.proofs.plays.PlayedHistories.{turns-played}
use Rattle.histories.proofs.plays.ToldFaults.{history-told}
use Rattle.clock_merge.specs.Merge.{Line, IsMerge, Ticks, turn_of}
use Rattle.clock_merge.specs.Tied.{calls_of, AreTied, faults_of, AreCallsOfMerge, IsPlayOfMerge, MergedPlaysAreTied}
use Rattle.clock_merge.proofs.JournalsRise.{replays_tick}
use Rattle.clock_merge.proofs.JournalFaults.{same-faults}
use Rattle.clock_merge.proofs.ReplayedBays.{replayed-history}
use Rattle.clock_merge.proofs.UniqueMerges.{merges_are_unique}
use Rattle.clock_merge.proofs.MergedCalls.{so-far, merged-calls}

-- the same faults tell the same
told-same : (script : Script) (before after : Faults) → ((at : BayNo) (place : ℕ) → before at place ≡ after at place) → (history : List Call) → Told script before history → Told script after history
told-same script before after same [] told = tt
told-same script before after same (call ∷ earlier) told = (
  told-same script before after same earlier told.0,
  told.1 ∙ ap (answered script earlier (record { bay = call.bay; ask = call.ask })) (same call.bay (length (journal call.bay earlier))),
)

module _ (script : Script) (journals : List (List Entry)) (transcripts : HostNo → List Call) (lines : List Line) (size : length journals ≡ script.n)
    (replays : (k : ℕ) → k < script.n → (later : Bay) × (clock : ℕ) × Replays (first_bay script.mode script.rows script.patience) 0 (slice_index_or journals k []) later clock)
    (runs : (host : HostNo) → IsHostRun script host (reverse (transcripts host))) (tied : AreTied journals transcripts) (merge : IsMerge journals lines) where
  ticks : (k : ℕ) → k < script.n → (end : ℕ) × Ticks 0 (slice_index_or journals k []) end
  ticks k below =
      let told = replays k below in
      (told.1, replays_tick (first_bay script.mode script.rows script.patience) told.0 0 told.1 (slice_index_or journals k []) told.2)

  calls : AreCallsOfMerge script journals transcripts (calls_of lines)
  calls = merged-calls script journals transcripts lines size ticks runs tied merge

  along : IsHistory script (calls_of lines)
  along = replayed-history script (calls_of lines) calls.asked (so-far script journals transcripts lines size ticks runs tied merge).within
      (λ at inside. let told = replays at.0 inside in (
        told.0,
        told.1,
        subst (λ (es : List Entry). Replays (first_bay script.mode script.rows script.patience) 0 es told.0 told.1) (sym (calls.journals_are at.0 inside)) told.2,
      ))

  faults : (at : BayNo) (place : ℕ) → faults_in (calls_of lines) at place ≡ faults_of journals at place
  faults = same-faults script.n journals (calls_of lines) size (so-far script journals transcripts lines size ticks runs tied merge).within calls.journals_are

  told : Told script (faults_of journals) (calls_of lines)
  told = told-same script (faults_in (calls_of lines)) (faults_of journals) faults (calls_of lines) (history-told script (calls_of lines) along)

  played : play script (faults_of journals) [] (map turn_of lines) ≡ calls_of lines
  played =
      ap (λ (turns : List Turn). play script (faults_of journals) [] turns) (sym (calls.turns lines merge))
      ∙ turns-played script (faults_of journals) (calls_of lines) along told

  pub merged : IsPlayOfMerge script journals transcripts (play script (faults_of journals) [] (map turn_of lines))
  merged = subst (λ (history : List Call). IsPlayOfMerge script journals transcripts history) (sym played) (record {
    along = along;
    same_journals = calls.journals_are;
    same_transcripts = calls.transcripts_are;
    is = λ others is. ap (λ (ls : List Line). calls_of ls) (merges_are_unique journals lines others merge is);
    calls = calls;
    faults = faults;
    told = told;
  })

pub merged_plays_are_tied : MergedPlaysAreTied
merged_plays_are_tied script journals transcripts lines is size replays runs tied merge = merged script journals transcripts lines size replays runs tied merge
