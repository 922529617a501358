-- The calls of one host, the oldest first: each is the next of its progress, and their clocks rise.
use Rattle.std.proofs.Common.{◌≡◌, ℕ, ◌<◌, ◌==◌, true, List, [], ◌∷◌, ◌++◌, reverse, Some, sym, subst, arith, append_assoc}
use Rattle.std.specs.List.{AllByRecursion}
use Rattle.std.proofs.lemmas.List.{reverse-append, append-nil}
use Rattle.raid_base.specs.declared.numbers.HostNo.{HostNo}
use Rattle.raid_base.specs.declared.messages.Call.{Call}
use Rattle.raid_base.specs.declared.messages.Entry.{Entry}
use Rattle.script_text.specs.Script.{Script}
use Rattle.histories.specs.Progress.{Progress, asks, takes, work_errand}
use Rattle.histories.specs.HostRuns.{IsHostRun}
use Rattle.histories.specs.History.{if_taken, progress_at}
use Rattle.histories.proofs.bounds.BoundsTakes.{sent-errand}
use Rattle.histories.proofs.bounds.BoundsClocks.{takes-clock}
use Rattle.clock_merge.specs.Merge.{Ticks}
use Rattle.clock_merge.proofs.LineLemmas.{same-test, all-weaker}

-- the calls that a host makes from this progress on
abbrev pub RunsOn : Script → HostNo → Progress → List Call → Type 0
RunsOn script host p [] = Unit {0}
RunsOn script host p (call ∷ calls) =
    (call.ask.host ≡ host) × (call.bay.0 < script.n) × (asks host p call.ask.moment ≡ Some (record { bay = call.bay; ask = call.ask })) × RunsOn script host (takes script host p call) calls

-- the clock of an answer is above that of its ask
abbrev pub Grows : Call → Type 0
Grows call = call.ask.clock < call.answer.clock

abbrev pub EntryGrows : Entry → Type 0
EntryGrows entry = entry.ask.clock < entry.clock

-- so it is in a journal whose clocks tick
pub ticks-grow : (clock : ℕ) (entries : List Entry) (end : ℕ) → Ticks clock entries end → AllByRecursion EntryGrows entries
ticks-grow clock [] end ticks = tt
ticks-grow clock (entry ∷ entries) end ticks =
    let next = ticks.0 in
    (omega (arith, next), ticks-grow entry.clock entries end ticks.1)

module _ (script : Script) (host : HostNo) where
  earlier-run : (later earlier : List Call) → IsHostRun script host (later ++ earlier) → IsHostRun script host earlier
  earlier-run [] earlier run = run
  earlier-run (call ∷ later) earlier run = earlier-run later earlier run.0

  runs-after : (calls earlier : List Call) → IsHostRun script host (reverse calls ++ earlier) → RunsOn script host (progress_at script host earlier) calls
  runs-after [] earlier run = tt
  runs-after (call ∷ calls) earlier run =
      let turned : reverse (call ∷ calls) ≡ reverse calls ++ call ∷ [] = reverse-append (call ∷ []) calls in
      let shifted : reverse calls ++ call ∷ [] ++ earlier ≡ reverse calls ++ (call ∷ earlier) = append_assoc (reverse calls) (call ∷ []) earlier in
      let again : IsHostRun script host (reverse calls ++ (call ∷ earlier)) =
      subst (λ (l : List Call). IsHostRun script host l) shifted (subst (λ (l : List Call). IsHostRun script host (l ++ earlier)) turned run) in
      let here = earlier-run (reverse calls) (call ∷ earlier) again in
      let own : (call.ask.host.0 == host.0) ≡ true = subst (λ (h : HostNo). (call.ask.host.0 == h.0) ≡ true) here.1 (same-test call.ask.host.0) in
      let rest : RunsOn script host (if_taken script host (progress_at script host earlier) call (call.ask.host.0 == host.0)) calls = runs-after calls (call ∷ earlier) again in
      (here.1, here.2, here.3, subst (λ (b : _). RunsOn script host (if_taken script host (progress_at script host earlier) call b) calls) own rest)

  -- a run, read from its start
  pub runs-of : (calls : List Call) → IsHostRun script host (reverse calls) → RunsOn script host (progress_at script host []) calls
  runs-of calls run = runs-after calls [] (subst (λ (l : List Call). IsHostRun script host l) (sym (append-nil (reverse calls))) run)

  -- its calls are at bays of the script
  pub runs-within : (p : Progress) (calls : List Call) → RunsOn script host p calls → AllByRecursion (λ (call : Call). call.bay.0 < script.n) calls
  runs-within p [] runs = tt
  runs-within p (call ∷ calls) runs = (runs.1, runs-within (takes script host p call) calls runs.3)

  -- clocks rise along a run
  pub clocks-after : (p : Progress) (calls : List Call) → RunsOn script host p calls → AllByRecursion Grows calls → AllByRecursion (λ (call : Call). p.clock < call.answer.clock) calls
  clocks-after p [] runs grows = tt
  clocks-after p (call ∷ calls) runs grows =
      let asked : call.ask.clock ≡ p.clock = (sent-errand host p.clock call.ask.moment (work_errand p.work) (record { bay = call.bay; ask = call.ask }) runs.2).3 in
      let taken : (takes script host p call).clock ≡ call.answer.clock = takes-clock script host p call in
      let more : call.ask.clock < call.answer.clock = grows.0 in
      let first : p.clock < call.answer.clock = omega (arith, asked, more) in (
        first,
        all-weaker (λ (c : Call). (takes script host p call).clock < c.answer.clock) (λ (c : Call). p.clock < c.answer.clock) (λ c less. omega (arith, less, taken, first)) calls
            (clocks-after (takes script host p call) calls runs.3 grows.1),
      )

  -- all later calls are answered above the first
  pub clocks-rise : (p : Progress) (call : Call) (calls : List Call) → RunsOn script host p (call ∷ calls) → AllByRecursion Grows calls →
      AllByRecursion (λ (c : Call). call.answer.clock < c.answer.clock) calls
  clocks-rise p call calls runs grows =
      subst (λ (clock : ℕ). AllByRecursion (λ (c : Call). clock < c.answer.clock) calls) (takes-clock script host p call)
      (clocks-after (takes script host p call) calls runs.3 grows)
