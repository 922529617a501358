-- Units that are passed by one.
use Rattle.std.proofs.Common.{◌≡◌, ◌==◌, ℕ, ◌+◌, ◌<◌, ◌≤◌, min, if◌then◌else◌, Bool, true, false, unwrap_or, List, [], ◌∷◌, ◌++◌, append_assoc, append-nil, Option, Some, None, length, get_or, drop, zip, refl, ap, sym, ◌∙◌}
use Rattle.raid_base.specs.declared.messages.Grant.{Grant}
use Rattle.attempts.specs.Puts.{life_in, missing_units}
use Rattle.host_write.specs.Lives.{life_at}
use Rattle.attempts.proofs.UnitLemmas.{at_zip_more, at_zip_all}

pub missing_more : (acc us : List ℕ) (gs : List (Option Grant)) (i d : ℕ) (e : Option Grant) → i < length us → i < length gs
    → acc ++ missing_units (zip (drop i us) (drop i gs))
    ≡ (acc ++ missing_units ((get_or us i d, get_or gs i e) ∷ [])) ++ missing_units (zip (drop (i + 1) us) (drop (i + 1) gs))
missing_more acc us gs i d e h g =
    ap (λ xs. acc ++ xs) (at_zip_more missing_units us gs i d e h g ∙ missing-cons (get_or us i d) (get_or gs i e) (zip (drop (i + 1) us) (drop (i + 1) gs)))
    ∙ sym (append_assoc acc (missing_units ((get_or us i d, get_or gs i e) ∷ [])) (missing_units (zip (drop (i + 1) us) (drop (i + 1) gs)))) where
      missing-cons : (u : ℕ) (x : Option Grant) (ps : List (ℕ × Option Grant)) → missing_units ((u, x) ∷ ps) ≡ missing_units ((u, x) ∷ []) ++ missing_units ps
      missing-cons u (Some x) ps = refl
      missing-cons u None ps = refl

pub missing_all : (acc us : List ℕ) (gs : List (Option Grant)) (i : ℕ) → min (length us) (length gs) ≤ i
    → acc ++ missing_units (zip (drop i us) (drop i gs)) ≡ acc
missing_all acc us gs i h = ap (λ xs. acc ++ xs) (at_zip_all missing_units us gs i h) ∙ append-nil acc

pub ruleset missing = (missing_more, missing_all)

pub life_more : (unit : ℕ) (us : List ℕ) (gs : List (Option Grant)) (i d : ℕ) (e : Option Grant) → i < length us → i < length gs
    → life_in unit (zip (drop i us) (drop i gs)) ≡ unwrap_or (life_at unit (get_or us i d) (get_or gs i e)) (life_in unit (zip (drop (i + 1) us) (drop (i + 1) gs)))
life_more unit us gs i d e h g =
    at_zip_more (life_in unit) us gs i d e h g
    ∙ life-cons unit (get_or us i d) (get_or gs i e) (zip (drop (i + 1) us) (drop (i + 1) gs)) where
      chosen : (b : Bool) (x y : ℕ) → (if b then x else y) ≡ unwrap_or (if b then Some x else None) y
      chosen true x y = refl
      chosen false x y = refl

      life-cons : (unit u : ℕ) (x : Option Grant) (ps : List (ℕ × Option Grant)) → life_in unit ((u, x) ∷ ps) ≡ unwrap_or (life_at unit u x) (life_in unit ps)
      life-cons unit u (Some grant) ps = chosen (u == unit) grant.life (life_in unit ps)
      life-cons unit u None ps = refl

pub life_all : (unit : ℕ) (us : List ℕ) (gs : List (Option Grant)) (i : ℕ) → min (length us) (length gs) ≤ i → life_in unit (zip (drop i us) (drop i gs)) ≡ 0
life_all unit us gs i h = at_zip_all (life_in unit) us gs i h

pub ruleset lives = (life_more, life_all)
