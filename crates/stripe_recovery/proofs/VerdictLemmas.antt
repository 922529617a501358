-- The unit that is missing and those that were put, pair by pair.
use Rattle.std.proofs.Common.{◌≡◌, ℕ, ◌+◌, ◌<◌, ◌≤◌, min, List, [], ◌∷◌, Bool, true, false, ◌&&◌, ◌||◌, ◌==◌, Option, Some, None, length, get_or, drop, zip, refl, ap, ◌∙◌}
use Rattle.raid_base.specs.declared.messages.Grant.{Grant}
use Rattle.raid_base.specs.declared.messages.Note.{Note}
use Rattle.raid_base.specs.Cells.{has_unit}
use Rattle.attempts.specs.Recovery.{missing_in, is_put}
use Rattle.attempts.proofs.UnitLemmas.{at_zip_more, at_zip_all}

-- the first that is missing
pub missing_here : (us : List ℕ) (gs : List (Option Grant)) (i : ℕ) (d : ℕ) (e : Option Grant) → i < length us → i < length gs → get_or gs i e ≡ None
    → missing_in (zip (drop i us) (drop i gs)) ≡ Some (get_or us i d)
missing_here us gs i d e h g none =
    at_zip_more missing_in us gs i d e h g
    ∙ ap (λ x. missing_in ((get_or us i d, x) ∷ zip (drop (i + 1) us) (drop (i + 1) gs))) none

-- and where this one is not
missing-next : (u : ℕ) (x : Option Grant) (ps : List (ℕ × Option Grant)) (g : Grant) → x ≡ Some g → missing_in ((u, x) ∷ ps) ≡ missing_in ps
missing-next u x ps g is = ap (λ y. missing_in ((u, y) ∷ ps)) is

pub missing_next : (us : List ℕ) (gs : List (Option Grant)) (i : ℕ) (d : ℕ) (e : Option Grant) (x : Grant) → i < length us → i < length gs → get_or gs i e ≡ Some x
    → missing_in (zip (drop i us) (drop i gs)) ≡ missing_in (zip (drop (i + 1) us) (drop (i + 1) gs))
missing_next us gs i d e x h g some =
    at_zip_more missing_in us gs i d e h g ∙ missing-next (get_or us i d) (get_or gs i e) (zip (drop (i + 1) us) (drop (i + 1) gs)) x some

-- and where none is
pub missing_all : (us : List ℕ) (gs : List (Option Grant)) (i : ℕ) → min (length us) (length gs) ≤ i → missing_in (zip (drop i us) (drop i gs)) ≡ None
missing_all us gs i h = at_zip_all missing_in us gs i h

pub ruleset missing = (missing_here, missing_next, missing_all)

-- one more pair
or-more : (a b c : Bool) → ((a && b) || c) ≡ (((a && b) || false) || c)
or-more true true c = refl
or-more true false c = refl
or-more false b c = refl

put-cons : (note : Note) (u : ℕ) (x : Option Grant) (ps : List (ℕ × Option Grant)) → is_put note ((u, x) ∷ ps) ≡ (is_put note ((u, x) ∷ []) || is_put note ps)
put-cons note u None ps = refl
put-cons note u (Some g) ps = or-more (has_unit note.mask u) (g.last.0 == note.origin.0) (is_put note ps)

pub put_more : (note : Note) (us : List ℕ) (gs : List (Option Grant)) (i : ℕ) (d : ℕ) (e : Option Grant) → i < length us → i < length gs
    → is_put note (zip (drop i us) (drop i gs))
    ≡ (is_put note ((get_or us i d, get_or gs i e) ∷ []) || is_put note (zip (drop (i + 1) us) (drop (i + 1) gs)))
put_more note us gs i d e h g =
    at_zip_more (is_put note) us gs i d e h g ∙ put-cons note (get_or us i d) (get_or gs i e) (zip (drop (i + 1) us) (drop (i + 1) gs))

pub puts_all : (note : Note) (us : List ℕ) (gs : List (Option Grant)) (i : ℕ) → min (length us) (length gs) ≤ i → is_put note (zip (drop i us) (drop i gs)) ≡ false
puts_all note us gs i h = at_zip_all (is_put note) us gs i h

pub ruleset puts = (put_more, puts_all)
