-- Where a host stands after a history hangs on its own calls alone.
use Rattle.std.proofs.Common.{◌≡◌, ◌==◌, Bool, true, false, ◌&&◌, if◌then◌else◌, List, [], ◌∷◌, ◌++◌, map, reverse, refl, sym, ap, ◌∙◌}
use Rattle.std.specs.List.{flat_map, list_all, enumerate_from}
use Rattle.std.proofs.lemmas.List.{reverse-append}
use Rattle.raid_base.specs.declared.numbers.HostNo.{HostNo}
use Rattle.raid_base.specs.declared.messages.Call.{Call}
use Rattle.script_text.specs.Script.{Script, host_numbers}
use Rattle.histories.specs.Progress.{Progress, Ending, is_over}
use Rattle.histories.specs.History.{if_taken, progress_at, transcript, endings_at, has_ended}
use Rattle.histories.specs.Results.{result_of, host_results, results, contents}
use Rattle.histories.specs.Turns.{all_ended}

pub progress-alone : (script : Script) (host : HostNo) (history : List Call) → progress_at script host history ≡ progress_at script host (reverse (transcript host history))
progress-alone script host [] = refl
progress-alone script host (call ∷ earlier) = by (call.ask.host.0 == host.0) refl (progress-alone script host earlier) where
  by : (own : Bool) → (call.ask.host.0 == host.0) ≡ own → progress_at script host earlier ≡ progress_at script host (reverse (transcript host earlier)) →
      if_taken script host (progress_at script host earlier) call own
      ≡ progress_at script host (reverse (if own then transcript host earlier ++ call ∷ [] else transcript host earlier))
  by false e same = same
  by true e same =
      let turned : reverse (transcript host earlier ++ call ∷ []) ≡ call ∷ reverse (transcript host earlier) = reverse-append (transcript host earlier) (call ∷ []) in
      ap (λ (p : Progress). if_taken script host p call true) same
      ∙ ap (λ (own : Bool). if_taken script host (progress_at script host (reverse (transcript host earlier))) call own) (sym e)
      ∙ ap (λ (calls : List Call). progress_at script host calls) (sym turned)

-- what is the same of each is so of all
flat_map-each : {X A : Type 0} (f g : X → List A) → ((x : X) → f x ≡ g x) → (xs : List X) → flat_map f xs ≡ flat_map g xs
flat_map-each f g same [] = refl
flat_map-each {X} {A} f g same (x ∷ xs) = ap (λ (first : List A). first ++ flat_map f xs) (same x) ∙ ap (λ (rest : List A). g x ++ rest) (flat_map-each f g same xs)

list_all-each : {X : Type 0} (p q : X → Bool) → ((x : X) → p x ≡ q x) → (xs : List X) → list_all p xs ≡ list_all q xs
list_all-each p q same [] = refl
list_all-each p q same (x ∷ xs) = ap (λ (b : Bool). b && list_all p xs) (same x) ∙ ap (λ (b : Bool). q x && b) (list_all-each p q same xs)

module _ (script : Script) (transcripts : HostNo → List Call) (history : List Call)
    (same : (host : HostNo) → progress_at script host history ≡ progress_at script host (reverse (transcripts host))) where
  endings-alone : (host : HostNo) → endings_at script history host ≡ endings_at script (reverse (transcripts host)) host
  endings-alone host = ap (λ (p : Progress). p.endings) (same host)

  pub results-alone : results script history ≡ flat_map (λ (host : HostNo). host_results script (reverse (transcripts host)) host) (host_numbers script)
  results-alone = flat_map-each (host_results script history) (λ (host : HostNo). host_results script (reverse (transcripts host)) host)
      (λ host. ap (λ (endings : List Ending). map (result_of host) (enumerate_from 0 endings)) (endings-alone host)) (host_numbers script)

  pub contents-alone : contents script history
      ≡ map (λ (e : Ending). e.contents) (flat_map (λ (host : HostNo). endings_at script (reverse (transcripts host)) host) (host_numbers script))
  contents-alone = ap (λ (endings : List Ending). map (λ (e : Ending). e.contents) endings)
      (flat_map-each (endings_at script history) (λ (host : HostNo). endings_at script (reverse (transcripts host)) host) endings-alone (host_numbers script))

  pub ended-alone : all_ended script history ≡ list_all (λ (host : HostNo). has_ended script (reverse (transcripts host)) host) (host_numbers script)
  ended-alone = list_all-each (has_ended script history) (λ (host : HostNo). has_ended script (reverse (transcripts host)) host)
      (λ host. ap (λ (p : Progress). is_over p.work) (same host)) (host_numbers script)
