-- The faults that a history tells are those of its journals.
use Rattle.std.proofs.Common.{◌≡◌, ℕ, zero, suc, ◌<◌, ◌≤◌, ◌==◌, ◌&&◌, Bool, true, false, if◌then◌else◌, List, [], ◌∷◌, ◌++◌, length, Some, refl, sym, ap, subst, ◌∙◌, arith}
use Rattle.std.specs.Prelude.{nat_lt}
use Rattle.std.specs.List.{AllByRecursion, slice_get, slice_index_or}
use Rattle.std.proofs.lemmas.List.{get_or_past}
use Rattle.std.proofs.lemmas.Bool.Decides.{nat_tests}
use Rattle.raid_base.specs.declared.numbers.BayNo.{BayNo}
use Rattle.raid_base.specs.declared.messages.Call.{Call}
use Rattle.raid_base.specs.declared.messages.Entry.{Entry}
use Rattle.raid_base.specs.Replies.{is_fault}
use Rattle.stripe_layout.specs.Placement.{bay}
use Rattle.histories.specs.History.{entry_of, journal, faults_in}
use Rattle.clock_merge.specs.Tied.{has_fault, faults_of}

-- a list at the place where another was put behind it
seam : (before : List Entry) (entry : Entry) (entries : List Entry) → slice_get (before ++ entry ∷ entries) (length before) ≡ Some entry
seam [] entry entries = refl
seam (first ∷ before) entry entries = seam before entry entries

-- one more entry at the end
before-last : (entries : List Entry) (entry : Entry) (place : ℕ) → (length entries ≡ place → ⊥) → slice_get (entries ++ entry ∷ []) place ≡ slice_get entries place
before-last [] entry zero other = absurd (other refl)
before-last [] entry (suc place) other = refl
before-last (first ∷ entries) entry zero other = refl
before-last (first ∷ entries) entry (suc place) other = before-last entries entry place (λ e. other (omega (arith, e)))

journal-faults : (history : List Call) (at : BayNo) (place : ℕ) → faults_in history at place ≡ has_fault (slice_get (journal at history) place)
journal-faults [] at place = refl
journal-faults (call ∷ earlier) at place = by (call.bay.0 == at.0) (journal-faults earlier at place) where
  by : (here : Bool) → faults_in earlier at place ≡ has_fault (slice_get (journal at earlier) place) →
      (if here && (length (journal at earlier) == place) then is_fault call.answer.reply else faults_in earlier at place)
      ≡ has_fault (slice_get (if here then journal at earlier ++ entry_of call ∷ [] else journal at earlier) place)
  by false same = same
  by true same = last (length (journal at earlier) == place) refl where
    last : (b : Bool) → (length (journal at earlier) == place) ≡ b →
        (if b then is_fault call.answer.reply else faults_in earlier at place) ≡ has_fault (slice_get (journal at earlier ++ entry_of call ∷ []) place)
    last true e =
        let is : length (journal at earlier) ≡ place = grind (arith, nat_tests) in
        subst (λ (k : ℕ). is_fault call.answer.reply ≡ has_fault (slice_get (journal at earlier ++ entry_of call ∷ []) k)) is
        (sym (ap has_fault (seam (journal at earlier) (entry_of call) [])))
    last false e = same ∙ ap has_fault (sym (before-last (journal at earlier) (entry_of call) place (λ is. absurd (grind (arith, nat_tests)))))

-- a bay beyond those that were asked has no journal
nothing-there : (n : ℕ) (history : List Call) (at : BayNo) → AllByRecursion (λ (call : Call). call.bay.0 < n) history → n ≤ at.0 → journal at history ≡ []
nothing-there n [] at within beyond = refl
nothing-there n (call ∷ earlier) at within beyond = by (call.bay.0 == at.0) refl (nothing-there n earlier at within.1 beyond) where
  by : (here : Bool) → (call.bay.0 == at.0) ≡ here → journal at earlier ≡ [] → (if here then journal at earlier ++ entry_of call ∷ [] else journal at earlier) ≡ []
  by true e none = let below = within.0 in absurd (grind (arith, nat_tests))
  by false e none = none

pub same-faults : (n : ℕ) (journals : List (List Entry)) (history : List Call) → length journals ≡ n → AllByRecursion (λ (call : Call). call.bay.0 < n) history →
    ((k : ℕ) → k < n → journal (bay k) history ≡ slice_index_or journals k []) → (at : BayNo) (place : ℕ) → faults_in history at place ≡ faults_of journals at place
same-faults n journals history size within same at place =
    journal-faults history at place ∙ ap (λ (entries : List Entry). has_fault (slice_get entries place)) (same-journal (nat_lt at.0 n) refl) where
      same-journal : (b : Bool) → nat_lt at.0 n ≡ b → journal at history ≡ slice_index_or journals at.0 []
      same-journal true e = same at.0 (grind (arith, nat_tests))
      same-journal false e =
          let beyond : n ≤ at.0 = grind (arith, nat_tests) in
          nothing-there n history at within beyond ∙ sym (get_or_past journals at.0 [] (omega (arith, size, beyond)))
