-- Lines, written from the right.
use Rattle.std.proofs.Common.{◌≡◌, ℕ, List, [], ◌∷◌, ◌++◌, map, sym, ◌∙◌, ap, refl, append_assoc}
use Rattle.std.proofs.lemmas.List.{append-nil}
use Rattle.std.proofs.lemmas.List.Concat.{flat_map-append}
use Rattle.std.specs.List.{flat_map}
use Rattle.text_lines.specs.Lines.{line, spaced}

-- words that follow others on a line, and what stands behind the line
abbrev pub words_onto : List (List ℕ) → List ℕ → List ℕ
words_onto [] rest = 10 ∷ rest
words_onto (word ∷ words) rest = 32 ∷ (word ++ words_onto words rest)

-- a line, and what stands behind it
abbrev pub line_onto : List (List ℕ) → List ℕ → List ℕ
line_onto [] rest = 10 ∷ rest
line_onto (word ∷ words) rest = word ++ words_onto words rest

abbrev pub lines_onto : List (List (List ℕ)) → List ℕ
lines_onto [] = []
lines_onto (words ∷ lines) = line_onto words (lines_onto lines)

words_are : (words : List (List ℕ)) (rest : List ℕ) → flat_map spaced words ++ (10 ∷ rest) ≡ words_onto words rest
words_are [] rest = refl
words_are (word ∷ words) rest = ap (λ t. 32 ∷ t) (append_assoc word (flat_map spaced words) (10 ∷ rest) ∙ ap (λ t. word ++ t) (words_are words rest))

pub line_is : (words : List (List ℕ)) (rest : List ℕ) → line words ++ rest ≡ line_onto words rest
line_is [] rest = refl
line_is (word ∷ words) rest =
    append_assoc (word ++ flat_map spaced words) (10 ∷ []) rest ∙ append_assoc word (flat_map spaced words) (10 ∷ rest) ∙ ap (λ t. word ++ t) (words_are words rest)

pub lines_are : (lines : List (List (List ℕ))) → flat_map line lines ≡ lines_onto lines
lines_are [] = refl
lines_are (words ∷ lines) = line_is words (flat_map line lines) ∙ ap (line_onto words) (lines_are lines)

pub line_nil : (words : List (List ℕ)) → line words ≡ line_onto words []
line_nil words = sym (append-nil (line words)) ∙ line_is words []

-- the words of a list's elements, each after a space, to the end of a line
pub spaced_map : {X : Type 0} (f : X → List ℕ) (xs : List X) → flat_map (λ (x : X). spaced (f x)) xs ++ (10 ∷ []) ≡ words_onto (map f xs) []
spaced_map f [] = refl
spaced_map {X} f (x ∷ xs) = ap (λ t. 32 ∷ t) (append_assoc (f x) (flat_map (λ (y : X). spaced (f y)) xs) (10 ∷ []) ∙ ap (λ t. f x ++ t) (spaced_map f xs))

-- the lines of a list's elements
pub lines_map : {X : Type 0} (f : X → List (List ℕ)) (xs : List X) → flat_map line (map f xs) ≡ flat_map (λ (x : X). line (f x)) xs
lines_map f [] = refl
lines_map f (x ∷ xs) = ap (λ t. line (f x) ++ t) (lines_map f xs)

pub lines_flat : {X : Type 0} (f : X → List (List (List ℕ))) (xs : List X) → flat_map line (flat_map f xs) ≡ flat_map (λ (x : X). flat_map line (f x)) xs
lines_flat f [] = refl
lines_flat f (x ∷ xs) = flat_map-append line (f x) (flat_map f xs) ∙ ap (λ t. flat_map line (f x) ++ t) (lines_flat f xs)
