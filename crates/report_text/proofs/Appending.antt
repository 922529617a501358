-- How appends follow one another.
use Rattle.std.proofs.Common.{◌≡◌, ℕ, ◌≤◌, ◌<◌, ◌+◌, Bool, List, [], ◌∷◌, ◌++◌, take, drop, get_or, length, Result, Ok, Err, OnOk, OnErr, IsErr, refl, sym, ap, ◌∙◌, arith, append_assoc, append-nil, length-append}
use Rattle.std.proofs.Math.Seq.{take-append-add}
use Rattle.std.proofs.lemmas.List.{take_more, take-append-drop, take_all, take-append-le}
use Rattle.std.proofs.lemmas.Grind.{flat_map-append}
use Rattle.std.specs.List.{flat_map}
use Rattle.raid_base.specs.declared.status.Failed.{Failed}
use Rattle.text_lines.specs.Lines.{spaced, joined, line}
use Rattle.raid_base.specs.Counts.{HasCause}
use Rattle.raid_base.specs.Streams.{AppendsPart}
use Rattle.report_text.specs.Appends.{Appends}

-- a part of a piece is a part of a text that begins with it
part-first : (w v a b : List ℕ) → AppendsPart w v a → AppendsPart w v (a ++ b)
part-first w v a b h = (
  h.0,
  record {
    within = omega (arith, length-append a b, h.1.within);
    appended = h.1.appended ∙ ap (λ x. w ++ x) (sym (take-append-le h.0 a b h.1.within));
  },
)

-- behind a piece that was appended
part-later : (w u v a b : List ℕ) → u ≡ w ++ a → AppendsPart u v b → AppendsPart w v (a ++ b)
part-later w u v a b e h = (
  length a + h.0,
  record {
    within = omega (arith, length-append a b, h.1.within);
    appended = h.1.appended ∙ ap (λ x. x ++ take h.0 b) e ∙ append_assoc w a (take h.0 b) ∙ ap (λ x. w ++ x) (sym (take-append-add a b h.0));
  },
)

whole-then : (w u v a b : List ℕ) (s : Result Unit Failed) → u ≡ w ++ a → OnOk s (v ≡ u ++ b) → OnOk s (v ≡ w ++ (a ++ b))
whole-then w u v a b (Ok done) e h = h ∙ ap (λ x. x ++ b) e ∙ append_assoc w a b
whole-then w u v a b (Err f) e h = tt

part-then : (w u v a b : List ℕ) (s : Result Unit Failed) → u ≡ w ++ a → OnErr s (AppendsPart u v b) → OnErr s (AppendsPart w v (a ++ b))
part-then w u v a b (Ok done) e h = tt
part-then w u v a b (Err f) e h = part-later w u v a b e h

cause-then : (f g k : ℕ) (s : Bool) → f ≤ g → HasCause g k s → HasCause f k s
cause-then f g k s h c = record { later = omega (arith, c.later); failed = λ e. omega (arith, c.failed e) }

-- a failure in a part is a failure of the whole
pub appends-stops : {K : Type 0} {tells : K → Bool} {written : K → List ℕ} {faults : K → ℕ} {before now : K} {a : List ℕ} {e : Failed} {text : List ℕ} (s : Result Unit Failed) (rest : List ℕ) → Appends tells written faults before a (Err e) now → IsErr s → text ≡ a ++ rest → Appends tells written faults before text s now
appends-stops {a = a} (Err f) rest h i t = rw t (record {
  telling = h.telling;
  appended = λ so. tt;
  part = λ so. part-first _ _ a rest (h.part so);
  cause = h.cause;
})
appends-stops (Ok f) rest h i t = cc

pub appends-then : {K : Type 0} {tells : K → Bool} {written : K → List ℕ} {faults : K → ℕ} {before between now : K} {a b text : List ℕ} {s : Result Unit Failed} → Appends tells written faults before a (Ok tt) between → Appends tells written faults between b s now → text ≡ a ++ b → Appends tells written faults before text s now
appends-then {a = a} {b = b} {s = s} g h t = rw t (record {
  telling = h.telling ∙ g.telling;
  appended = λ so. whole-then _ _ _ a b s (g.appended so) (h.appended (g.telling ∙ so));
  part = λ so. part-then _ _ _ a b s (g.appended so) (h.part (g.telling ∙ so));
  cause = cause-then _ _ _ _ g.cause.later h.cause;
})

-- nothing is appended
pub appends-nothing : {K : Type 0} {tells : K → Bool} {written : K → List ℕ} {faults : K → ℕ} (now : K) → Appends tells written faults now [] (Ok tt) now
appends-nothing {faults = faults} now = record {
  telling = refl;
  appended = λ so. sym (append-nil _);
  part = λ so. tt;
  cause = record { later = omega arith; failed = λ e. cc };
}

-- Over a list: the texts of its items, one after another
flat_map-turn : {X : Type 0} (f : X → List ℕ) (xs : List X) (i : ℕ) (d : X) → i < length xs → flat_map f (take (i + 1) xs) ≡ flat_map f (take i xs) ++ f (get_or xs i d)
flat_map-turn f xs i d h =
    ap (flat_map f) (take_more xs i d h) ∙ flat_map-append f (take i xs) (get_or xs i d ∷ []) ∙ ap (λ x. flat_map f (take i xs) ++ x) (append-nil (f (get_or xs i d)))

flat_map-rest : {X : Type 0} (f : X → List ℕ) (xs : List X) (i : ℕ) → flat_map f xs ≡ flat_map f (take i xs) ++ flat_map f (drop i xs)
flat_map-rest f xs i = ap (flat_map f) (sym (take-append-drop i xs)) ∙ flat_map-append f (take i xs) (drop i xs)

-- one more item
pub appends-turn : {K : Type 0} {tells : K → Bool} {written : K → List ℕ} {faults : K → ℕ} {before between now : K} {X : Type 0} (f : X → List ℕ) (xs : List X) (i : ℕ) (d : X) → i < length xs → Appends tells written faults before (flat_map f (take i xs)) (Ok tt) between → Appends tells written faults between (f (get_or xs i d)) (Ok tt) now → Appends tells written faults before (flat_map f (take (i + 1) xs)) (Ok tt) now
appends-turn f xs i d h g k = appends-then g k (flat_map-turn f xs i d h)

-- an item fails
pub appends-fails : {K : Type 0} {tells : K → Bool} {written : K → List ℕ} {faults : K → ℕ} {before between now : K} {X : Type 0} {e : Failed} {s : Result Unit Failed} (f : X → List ℕ) (xs : List X) (i : ℕ) (d : X) → i < length xs → Appends tells written faults before (flat_map f (take i xs)) (Ok tt) between → Appends tells written faults between (f (get_or xs i d)) (Err e) now → IsErr s → Appends tells written faults before (flat_map f xs) s now
appends-fails {s = s} f xs i d h g k is =
    appends-stops s (flat_map f (drop (i + 1) xs)) (appends-then g k (flat_map-turn f xs i d h)) is (flat_map-rest f xs (i + 1))

-- all items are done
pub appends-all : {K : Type 0} {tells : K → Bool} {written : K → List ℕ} {faults : K → ℕ} {before now : K} {X : Type 0} (f : X → List ℕ) (xs : List X) (i : ℕ) → length xs ≤ i → Appends tells written faults before (flat_map f (take i xs)) (Ok tt) now → Appends tells written faults before (flat_map f xs) (Ok tt) now
appends-all f xs i h g = rw take_all at g

-- a line, as its parts are put
pub line-append : (first : List ℕ) (words others : List (List ℕ)) → line (first ∷ (words ++ others)) ≡ joined (first ∷ words) ++ (flat_map spaced others ++ 10 ∷ [])
line-append first words others = simp (flat_map-append {X = List ℕ} {A = ℕ}, append_assoc)

-- words that fail, and words that go on
pub words-stop : {K : Type 0} {tells : K → Bool} {written : K → List ℕ} {faults : K → ℕ} {before now : K} {e : Failed} {s : Result Unit Failed} (words others : List (List ℕ)) → Appends tells written faults before (flat_map spaced words) (Err e) now → IsErr s → Appends tells written faults before (flat_map spaced (words ++ others)) s now
words-stop {s = s} words others h is = appends-stops s (flat_map spaced others) h is (flat_map-append spaced words others)

pub words-then : {K : Type 0} {tells : K → Bool} {written : K → List ℕ} {faults : K → ℕ} {before between now : K} {s : Result Unit Failed} (words others : List (List ℕ)) → Appends tells written faults before (flat_map spaced words) (Ok tt) between → Appends tells written faults between (flat_map spaced others) s now → Appends tells written faults before (flat_map spaced (words ++ others)) s now
words-then words others g h = appends-then g h (flat_map-append spaced words others)

-- one word
pub one-word : {K : Type 0} {tells : K → Bool} {written : K → List ℕ} {faults : K → ℕ} {before now : K} {s : Result Unit Failed} (word : List ℕ) → Appends tells written faults before (spaced word) s now → Appends tells written faults before (flat_map spaced (word ∷ [])) s now
one-word word h = rw append-nil h

-- A walk over a text: some first part of the whole was appended, and this rest is left
pub record Begins {K : Type 0} (tells : K → Bool) (written : K → List ℕ) (faults : K → ℕ) (before : K) (whole rest : List ℕ) (now : K) : Type 0 where
  pub done : List ℕ
  pub appended : Appends tells written faults before done (Ok tt) now
  pub parts : whole ≡ done ++ rest

pub begins : {K : Type 0} {tells : K → Bool} {written : K → List ℕ} {faults : K → ℕ} (now : K) (whole : List ℕ) → Begins tells written faults now whole whole now
begins now whole = record { done = []; appended = appends-nothing now; parts = refl }

-- one more piece
pub begins-then : {K : Type 0} {tells : K → Bool} {written : K → List ℕ} {faults : K → ℕ} {before between now : K} {whole rest piece : List ℕ} (later : List ℕ) → Begins tells written faults before whole rest between → rest ≡ piece ++ later → Appends tells written faults between piece (Ok tt) now → Begins tells written faults before whole later now
begins-then {piece = piece} later b e h = record {
  done = b.done ++ piece;
  appended = appends-then b.appended h refl;
  parts = b.parts ∙ ap (λ x. b.done ++ x) e ∙ sym (append_assoc b.done piece later);
}

-- a last piece, of which the call tells how it ended
pub begins-last : {K : Type 0} {tells : K → Bool} {written : K → List ℕ} {faults : K → ℕ} {before between now : K} {whole rest : List ℕ} {s : Result Unit Failed} → Begins tells written faults before whole rest between → Appends tells written faults between rest s now → Appends tells written faults before whole s now
begins-last b h = appends-then b.appended h b.parts

-- a piece fails
pub begins-fails : {K : Type 0} {tells : K → Bool} {written : K → List ℕ} {faults : K → ℕ} {before between now : K} {whole rest piece : List ℕ} {e : Failed} {s : Result Unit Failed} (later : List ℕ) → Begins tells written faults before whole rest between → rest ≡ piece ++ later → Appends tells written faults between piece (Err e) now → IsErr s → Appends tells written faults before whole s now
begins-fails {s = s} later b e h is = appends-then b.appended (appends-stops s later h is e) b.parts

-- nothing is left
pub begins-ends : {K : Type 0} {tells : K → Bool} {written : K → List ℕ} {faults : K → ℕ} {before now : K} {whole rest : List ℕ} → Begins tells written faults before whole rest now → rest ≡ [] → Appends tells written faults before whole (Ok tt) now
begins-ends b e = rw (b.parts ∙ ap (λ x. b.done ++ x) e ∙ append-nil b.done) b.appended

-- one more item, and an item that fails, by another name
pub appends-item : {K : Type 0} {tells : K → Bool} {written : K → List ℕ} {faults : K → ℕ} {before between now : K} {X : Type 0} (f : X → List ℕ) (xs : List X) (i : ℕ) (d x : X) → i < length xs → get_or xs i d ≡ x → Appends tells written faults before (flat_map f (take i xs)) (Ok tt) between → Appends tells written faults between (f x) (Ok tt) now → Appends tells written faults before (flat_map f (take (i + 1) xs)) (Ok tt) now
appends-item f xs i d x h e g k = appends-then g k (flat_map-turn f xs i d h ∙ ap (λ y. flat_map f (take i xs) ++ f y) e)

pub item-fails : {K : Type 0} {tells : K → Bool} {written : K → List ℕ} {faults : K → ℕ} {before between now : K} {X : Type 0} {e : Failed} {s : Result Unit Failed} (f : X → List ℕ) (xs : List X) (i : ℕ) (d x : X) → i < length xs → get_or xs i d ≡ x → Appends tells written faults before (flat_map f (take i xs)) (Ok tt) between → Appends tells written faults between (f x) (Err e) now → IsErr s → Appends tells written faults before (flat_map f xs) s now
item-fails {s = s} f xs i d x h e g k is =
    appends-stops s (flat_map f (drop (i + 1) xs)) (appends-then g k (flat_map-turn f xs i d h ∙ ap (λ y. flat_map f (take i xs) ++ f y) e)) is (flat_map-rest f xs (i + 1))

-- what was to follow a failure
pub stops-before : {K : Type 0} {tells : K → Bool} {written : K → List ℕ} {faults : K → ℕ} {before now : K} {a : List ℕ} {e : Failed} (rest : List ℕ) → Appends tells written faults before a (Err e) now → Appends tells written faults before (a ++ rest) (Err e) now
stops-before {e = e} rest h = appends-stops (Err e) rest h refl refl
