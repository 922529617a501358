-- The slots that seized no note, pair by pair.
use Rattle.std.proofs.Common.{◌≡◌, ℕ, ◌+◌, ◌<◌, List, [], ◌∷◌, ◌++◌, append_assoc, Bool, true, false, Option, Some, None, length, get_or, drop, zip, refl, ap, sym, ◌∙◌}
use Rattle.std.specs.List.{All}
use Rattle.std.proofs.lemmas.List.Elements.{All-nil, All-cons, All-head, All-tail}
use Rattle.raid_base.specs.declared.messages.Grant.{Grant}
use Rattle.attempts.specs.Recovery.{is_seized, unseized}
use Rattle.attempts.proofs.UnitLemmas.{at_zip_more, at_zip_all}

unseized-cons : (u : ℕ) (x : Option Grant) (ps : List (ℕ × Option Grant)) → unseized ((u, x) ∷ ps) ≡ unseized ((u, x) ∷ []) ++ unseized ps
unseized-cons u None ps = refl
unseized-cons u (Some g) ps = by_note (is_seized g) refl where
  by_note : (b : Bool) → is_seized g ≡ b → unseized ((u, Some g) ∷ ps) ≡ unseized ((u, Some g) ∷ []) ++ unseized ps
  by_note true h = rw h refl
  by_note false h = rw h refl

pub unseized_more : (acc us : List ℕ) (gs : List (Option Grant)) (i : ℕ) (d : ℕ) (e : Option Grant) → i < length us → i < length gs
    → acc ++ unseized (zip (drop i us) (drop i gs))
    ≡ (acc ++ unseized ((get_or us i d, get_or gs i e) ∷ [])) ++ unseized (zip (drop (i + 1) us) (drop (i + 1) gs))
unseized_more acc us gs i d e h g =
    ap (λ xs. acc ++ xs) (at_zip_more unseized us gs i d e h g ∙ unseized-cons (get_or us i d) (get_or gs i e) (zip (drop (i + 1) us) (drop (i + 1) gs)))
    ∙ sym (append_assoc acc (unseized ((get_or us i d, get_or gs i e) ∷ [])) (unseized (zip (drop (i + 1) us) (drop (i + 1) gs))))

pub unseized-below : (m : ℕ) (us : List ℕ) (gs : List (Option Grant)) → All (λ unit. unit < m) us → All (λ unit. unit < m) (unseized (zip us gs))
unseized-below m [] gs h = h
unseized-below m (u ∷ us) [] h = All-nil (λ unit. unit < m)
unseized-below m (u ∷ us) (None ∷ gs) h = unseized-below m us gs (All-tail (λ unit. unit < m) u us h)
unseized-below m (u ∷ us) (Some g ∷ gs) h =
    by_note (is_seized g) refl (All-head (λ unit. unit < m) u us h) (unseized-below m us gs (All-tail (λ unit. unit < m) u us h)) where
      by_note : (b : Bool) → is_seized g ≡ b → u < m → All (λ unit. unit < m) (unseized (zip us gs)) → All (λ unit. unit < m) (unseized (zip (u ∷ us) (Some g ∷ gs)))
      by_note true e low rest = rw e rest
      by_note false e low rest = rw e (All-cons (λ unit. unit < m) u (unseized (zip us gs)) low rest)

pub ruleset slots = (unseized_more, at_zip_all)
