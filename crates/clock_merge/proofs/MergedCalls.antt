-- Journals whose clocks tick, tied to transcripts of hosts of a script, are those of the calls of their merge.
use Rattle.std.proofs.Common.{◌≡◌, ℕ, ◌<◌, List, [], ◌∷◌, ◌++◌, length, map, reverse, refl, sym, ap, subst, ◌∙◌, append_assoc}
use Rattle.std.specs.List.{AllByRecursion, slice_index_or}
use Rattle.std.proofs.lemmas.List.{append-nil, reverse-append}
use Rattle.raid_base.specs.declared.numbers.HostNo.{HostNo}
use Rattle.raid_base.specs.declared.numbers.BayNo.{BayNo}
use Rattle.raid_base.specs.declared.messages.Call.{Call}
use Rattle.raid_base.specs.declared.messages.Entry.{Entry}
use Rattle.stripe_layout.specs.Placement.{bay}
use Rattle.slot_rules.specs.Slots.{first_bay}
use Rattle.slot_rules.specs.Replay.{Replays}
use Rattle.script_text.specs.Script.{Script}
use Rattle.histories.specs.Progress.{Progress}
use Rattle.histories.specs.HostRuns.{IsHostRun}
use Rattle.histories.specs.History.{progress_at, journal, transcript, turns_of}
use Rattle.histories.specs.History.{turn_of as called}
use Rattle.clock_merge.specs.Merge.{Line, entries_at, RiseFrom, Rise, IsMerge, Ticks, turn_of}
use Rattle.clock_merge.specs.Tied.{entries_of, calls_at, call_of, calls_of, AreTied, AreCallsOfMerge, MergedCallsAreTied}
use Rattle.clock_merge.proofs.LineLemmas.{same-test, all-of, all-bays, call-here, rise-later}
use Rattle.clock_merge.proofs.HostRuns.{RunsOn, Grows, EntryGrows, ticks-grow, runs-of, runs-within}
use Rattle.clock_merge.proofs.MergeSteps.{Along, HostStands, along-line}
use Rattle.clock_merge.proofs.UniqueMerges.{merges_are_unique}
use Rattle.clock_merge.proofs.ReplayedBays.{clock-told, bay-told}
use Rattle.clock_merge.proofs.HostsAlone.{progress-alone, results-alone, contents-alone, ended-alone}

module _ (script : Script) (journals : List (List Entry)) (transcripts : HostNo → List Call) where
  -- calls that have come so far in the lines of a merge
  pub record AreSoFar (whole : List Line) (history : List Call) (lines : List Line) : Type 0 where
    pub turns : turns_of history ++ map turn_of lines ≡ map turn_of whole
    pub within : AllByRecursion (λ (call : Call). call.bay.0 < script.n) history
    pub along : Along script journals transcripts history lines

  one-more : (whole : List Line) (history : List Call) (line : Line) (lines : List Line) → RiseFrom line lines → line.bay.0 < script.n → AreSoFar whole history (line ∷ lines) →
      AreSoFar whole (call_of line ∷ history) lines
  one-more whole history line lines rise inside so = record {
    turns = append_assoc (turns_of history) (called (call_of line) ∷ []) (map turn_of lines) ∙ so.turns;
    within = (inside, so.within);
    along = along-line script journals transcripts history line lines rise inside so.along;
  }

  all-lines : (whole lines : List Line) (history : List Call) → AllByRecursion (λ (line : Line). line.bay.0 < script.n) lines → Rise lines → AreSoFar whole history lines →
      AreSoFar whole (calls_of lines ++ history) []
  all-lines whole [] history within rise so = so
  all-lines whole (line ∷ lines) history within rise so =
      let turned : calls_of (line ∷ lines) ≡ calls_of lines ++ call_of line ∷ [] = reverse-append (call_of line ∷ []) (map call_of lines) in
      let shifted : calls_of lines ++ call_of line ∷ [] ++ history ≡ calls_of lines ++ (call_of line ∷ history) =
      append_assoc (calls_of lines) (call_of line ∷ []) history in
      subst (λ (calls : List Call). AreSoFar whole (calls ++ history) []) (sym turned)
      (subst (λ (calls : List Call). AreSoFar whole calls []) (sym shifted)
      (all-lines whole lines (call_of line ∷ history) within.1 (rise-later line lines rise) (one-more whole history line lines rise within.0 so)))

  -- at the end nothing is left of a transcript
  none-left : (host : HostNo) (p : Progress) (left : List Call) → RunsOn script host p left → ((k : ℕ) → k < script.n → [] ≡ calls_at (bay k) left) → left ≡ []
  none-left host p [] runs none = refl
  none-left host p (call ∷ left) runs none =
      absurd (let bad : _ ≡ _ = none call.bay.0 runs.1 ∙ call-here call.bay call left (same-test call.bay.0) in cc)

  same-calls : (history : List Call) → Along script journals transcripts history [] → (host : HostNo) → transcript host history ≡ transcripts host
  same-calls history along host = whole (along.hosts host) where
    whole : (left : List Call) × HostStands script journals transcripts host history [] left → transcript host history ≡ transcripts host
    whole found =
        let stands = found.1 in
        let none : found.0 ≡ [] = none-left host (progress_at script host history) found.0 stands.runs stands.tied in
        sym (append-nil (transcript host history)) ∙ ap (λ (left : List Call). transcript host history ++ left) (sym none) ∙ stands.whole

  at-end : (lines : List Line) → IsMerge journals lines → (history : List Call) → AreSoFar lines history [] → AreCallsOfMerge script journals transcripts history
  at-end lines merge history so =
      let journals_are : (k : ℕ) → k < script.n → journal (bay k) history ≡ slice_index_or journals k [] =
      λ k below. let stands = so.along.bays k below in sym (append-nil _) ∙ stands.whole in
      let transcripts_are : (host : HostNo) → transcript host history ≡ transcripts host = same-calls history so.along in
      let progress : (host : HostNo) → progress_at script host history ≡ progress_at script host (reverse (transcripts host)) =
      λ host. progress-alone script host history ∙ ap (λ (calls : List Call). progress_at script host (reverse calls)) (transcripts_are host) in
      record {
        asked = so.along.is;
        journals_are = journals_are;
        transcripts_are = transcripts_are;
        turns = λ others is. sym (append-nil (turns_of history)) ∙ so.turns ∙ ap (λ (ls : List Line). map turn_of ls) (merges_are_unique journals lines others merge is);
        clocks = λ k below end ticks. clock-told (bay k) history end (subst (λ (es : List Entry). Ticks 0 es end) (sym (journals_are k below)) ticks);
        bays = λ k below later end replays.
            bay-told script (bay k) history later end
            (subst (λ (es : List Entry). Replays (first_bay script.mode script.rows script.patience) 0 es later end) (sym (journals_are k below)) replays);
        progress = progress;
        results = results-alone script transcripts history progress;
        contents = contents-alone script transcripts history progress;
        ended = ended-alone script transcripts history progress;
      }

  module _ (lines : List Line) (size : length journals ≡ script.n) (ticks : (k : ℕ) → k < script.n → (end : ℕ) × Ticks 0 (slice_index_or journals k []) end)
      (runs : (host : HostNo) → IsHostRun script host (reverse (transcripts host))) (tied : AreTied journals transcripts) (merge : IsMerge journals lines) where
    among : (k : ℕ) → k < script.n → k < length journals
    among k below = subst (λ (n : ℕ). k < n) (sym size) below

    entries-whole : (k : ℕ) → k < script.n → entries_at (bay k) lines ≡ slice_index_or journals k []
    entries-whole k below = merge.whole k (among k below)

    run : (host : HostNo) → RunsOn script host (progress_at script host []) (transcripts host)
    run host = runs-of script host (transcripts host) (runs host)

    grow : (host : HostNo) → AllByRecursion Grows (transcripts host)
    grow host = all-bays EntryGrows script.n (transcripts host) (runs-within script host (progress_at script host []) (transcripts host) (run host)) at where
      at : (b : BayNo) → b.0 < script.n → AllByRecursion EntryGrows (calls_at b (transcripts host))
      at b below =
          let told = ticks b.0 below in
          subst (λ (es : List Entry). AllByRecursion EntryGrows es) (tied b.0 (among b.0 below) host)
          (all-of EntryGrows host (slice_index_or journals b.0 []) (ticks-grow 0 (slice_index_or journals b.0 []) told.0 told.1))

    at-start : Along script journals transcripts [] lines
    at-start = record {
      is = tt;
      bays = λ k below. let told = ticks k below in record {
        whole = entries-whole k below;
        end = told.0;
        ticks = subst (λ (es : List Entry). Ticks 0 es told.0) (sym (entries-whole k below)) told.1;
      };
      hosts = λ host. (
        transcripts host,
        record {
          whole = refl;
          tied = λ k below. ap (λ (es : List Entry). entries_of host es) (entries-whole k below) ∙ tied k (among k below) host;
          runs = run host;
          grows = grow host;
        },
      );
    }

    pub so-far : AreSoFar lines (calls_of lines) []
    so-far =
        subst (λ (calls : List Call). AreSoFar lines calls []) (append-nil (calls_of lines))
        (all-lines lines lines [] (subst (λ (n : ℕ). AllByRecursion (λ (line : Line). line.bay.0 < n) lines) size merge.within) merge.rise
        (record { turns = refl; within = tt; along = at-start }))

    pub merged-calls : AreCallsOfMerge script journals transcripts (calls_of lines)
    merged-calls = at-end lines merge (calls_of lines) so-far

pub merged_calls_are_tied : MergedCallsAreTied
merged_calls_are_tied script journals transcripts lines size ticks runs tied merge = merged-calls script journals transcripts lines size ticks runs tied merge
