-- Texts written one after another.
use Rattle.std.proofs.Common.{◌≡◌, ℕ, ◌+◌, Bool, true, List, [], ◌∷◌, ◌++◌, length, take, drop, get_or, ◌<◌, subst, Result, Ok, Err, sym, ◌∙◌, ap, refl, arith, append_assoc}
use Rattle.std.specs.Prelude.{is_err}
use Rattle.std.proofs.lemmas.List.{append-nil, take-append-le, length-append, take-append-drop, take_more, at_drop_more}
use Rattle.std.proofs.lemmas.List.Concat.{flat_map-append}
use Rattle.std.specs.List.{flat_map}
use Rattle.std.proofs.Math.Seq.{take-append-add}
use Rattle.raid_base.specs.declared.status.Failed.{Failed}
use Rattle.text_lines.specs.Lines.{line}
use Rattle.text_lines.specs.Writing.{Writes}
use Rattle.text_lines.proofs.LineLemmas.{line_is}

take_past : (x y : List ℕ) (n : ℕ) → take (length x + n) (x ++ y) ≡ x ++ take n y
take_past x y n = take-append-add x y n

-- one text, and then another
pub writes_then : {K : Type 0} (written : K → List ℕ) (tells : K → Bool) (faults : K → ℕ) (a b c : K) (r : Result (Unit {0}) Failed) (x y : List ℕ) → Writes written tells faults a b (Ok tt) x → Writes written tells faults b c r y → Writes written tells faults a c r (x ++ y)
writes_then written tells faults a b c (Ok u) x y h k = record {
  appended = λ t. k.appended (h.telling ∙ t) ∙ ap (λ w. w ++ y) (h.appended t) ∙ append_assoc (written a) x y;
  part = λ t. tt;
  cause = let hc = h.cause in let kc = k.cause in record { later = omega arith; failed = λ e. absurd (cc e) };
  telling = k.telling ∙ h.telling;
}
writes_then written tells faults a b c (Err e) x y h k = record {
  appended = λ t. tt;
  part = λ t. let p = k.part (h.telling ∙ t) in (
    length x + p.0,
    record {
      within = let w = p.1.within in omega (arith, length-append x y);
      appended = p.1.appended ∙ ap (λ w. w ++ take p.0 y) (h.appended t) ∙ append_assoc (written a) x (take p.0 y) ∙ ap (λ z. written a ++ z) (sym (take_past x y p.0));
    },
  );
  cause = let hc = h.cause in let kc = k.cause in record { later = omega arith; failed = λ f. let rises = kc.failed f in omega arith };
  telling = k.telling ∙ h.telling;
}

-- a text whose first part fails
pub writes_fails : {K : Type 0} (written : K → List ℕ) (tells : K → Bool) (faults : K → ℕ) (a b : K) (e : Failed) (x y : List ℕ) → Writes written tells faults a b (Err e) x → Writes written tells faults a b (Err e) (x ++ y)
writes_fails written tells faults a b e x y h = record {
  appended = λ t. tt;
  part = λ t. let p = h.part t in (
    p.0,
    record {
      within = let w = p.1.within in omega (arith, length-append x y);
      appended = let w = p.1.within in p.1.appended ∙ ap (λ z. written a ++ z) (sym (take-append-le p.0 x y w));
    },
  );
  cause = h.cause;
  telling = h.telling;
}

pub writes_nothing : {K : Type 0} (written : K → List ℕ) (tells : K → Bool) (faults : K → ℕ) (a : K) → Writes written tells faults a a (Ok tt) []
writes_nothing written tells faults a = record {
  appended = λ t. sym (append-nil (written a));
  part = λ t. tt;
  cause = record { later = omega arith; failed = λ e. absurd (cc e) };
  telling = refl;
}

split_at : {X : Type 0} (F : X → List ℕ) (xs : List X) (i : ℕ) (d : X) → i < length xs → flat_map F xs ≡ flat_map F (take i xs) ++ (F (get_or xs i d) ++ flat_map F (drop (i + 1) xs))
split_at F xs i d l = sym (ap (flat_map F) (take-append-drop i xs)) ∙ flat_map-append F (take i xs) (drop i xs) ∙ ap (λ t. flat_map F (take i xs) ++ t) (at_drop_more (flat_map F) xs i d l)

-- texts of a list's elements, one after another: one more, and one that fails
pub writes_more : {K X : Type 0} (written : K → List ℕ) (tells : K → Bool) (faults : K → ℕ) (F : X → List ℕ) (xs : List X) (i : ℕ) (d : X) (a b c : K) → i < length xs → Writes written tells faults a b (Ok tt) (flat_map F (take i xs)) → Writes written tells faults b c (Ok tt) (F (get_or xs i d)) → Writes written tells faults a c (Ok tt) (flat_map F (take (i + 1) xs))
writes_more {K} written tells faults F xs i d a b c l h k =
    let P : List ℕ → Type 0 = λ text. Writes {K = K} written tells faults a c (Ok tt) text in
    subst P (sym (ap (flat_map F) (take_more xs i d l) ∙ flat_map-append F (take i xs) (get_or xs i d ∷ []) ∙ ap (λ t. flat_map F (take i xs) ++ t) (append-nil (F (get_or xs i d))))) (writes_then written tells faults a b c (Ok tt) _ _ h k)

pub writes_stopped : {K X : Type 0} (written : K → List ℕ) (tells : K → Bool) (faults : K → ℕ) (F : X → List ℕ) (xs : List X) (i : ℕ) (d : X) (a b c : K) (e : Failed) → i < length xs → Writes written tells faults a b (Ok tt) (flat_map F (take i xs)) → Writes written tells faults b c (Err e) (F (get_or xs i d)) → Writes written tells faults a c (Err e) (flat_map F xs)
writes_stopped {K} written tells faults F xs i d a b c e l h k =
    let P : List ℕ → Type 0 = λ text. Writes {K = K} written tells faults a c (Err e) text in
    subst P (sym (split_at F xs i d l)) (writes_then written tells faults a b c (Err e) _ _ h (writes_fails written tells faults b c e (F (get_or xs i d)) (flat_map F (drop (i + 1) xs)) k))

-- an error of the sink is handed on as it is
pub handed_on : {K : Type 0} (written : K → List ℕ) (tells : K → Bool) (faults : K → ℕ) (a b : K) (e : Failed) (r : Result (Unit {0}) Failed) (x : List ℕ) → is_err r ≡ true → Writes written tells faults a b (Err e) x → Writes written tells faults a b r x
handed_on written tells faults a b e (Ok u) x h k = absurd (cc h)
handed_on written tells faults a b e (Err f) x h k = k

pub writes_text : {K : Type 0} (written : K → List ℕ) (tells : K → Bool) (faults : K → ℕ) (a b : K) (r : Result (Unit {0}) Failed) (x y : List ℕ) → x ≡ y → Writes written tells faults a b r x → Writes written tells faults a b r y
writes_text {K} written tells faults a b r x y e h = let P : List ℕ → Type 0 = λ text. Writes {K = K} written tells faults a b r text in subst P e h

pub spaced_is : (word items text : List ℕ) → word ≡ items → items ≡ text → 32 ∷ (word ++ []) ≡ 32 ∷ text
spaced_is word items text w i = ap (λ t. 32 ∷ t) (append-nil word ∙ w ∙ i)

pub numbered_is : (word number items digits : List ℕ) → number ≡ items → items ≡ digits → word ++ (32 ∷ (number ++ (10 ∷ []))) ≡ line (word ∷ digits ∷ [])
numbered_is word number items digits n i = sym (ap (λ t. t) (sym (append-nil (line (word ∷ digits ∷ [])))) ∙ line_is (word ∷ digits ∷ []) [] ∙ ap (λ t. word ++ (32 ∷ (t ++ (10 ∷ [])))) (sym (n ∙ i)))

-- an element that is read whole, and fails
pub writes_stopped_item : {K X : Type 0} (written : K → List ℕ) (tells : K → Bool) (faults : K → ℕ) (F : X → List ℕ) (xs : List X) (i : ℕ) (x : X) (a b c : K) (e : Failed) → i < length xs → x ≡ get_or xs i x → Writes written tells faults a b (Ok tt) (flat_map F (take i xs)) → Writes written tells faults b c (Err e) (F x) → Writes written tells faults a c (Err e) (flat_map F xs)
writes_stopped_item written tells faults F xs i x a b c e l is h k =
    writes_stopped written tells faults F xs i x a b c e l h (writes_text written tells faults b c (Err e) (F x) (F (get_or xs i x)) (ap F is) k)

-- two texts and three, where the first fails, the second, or neither
pub two_first : {K : Type 0} (written : K → List ℕ) (tells : K → Bool) (faults : K → ℕ) (a b : K) (e : Failed) (x y text : List ℕ) → x ++ y ≡ text → Writes written tells faults a b (Err e) x → Writes written tells faults a b (Err e) text
two_first written tells faults a b e x y text is h = writes_text written tells faults a b (Err e) (x ++ y) text is (writes_fails written tells faults a b e x y h)

pub two_last : {K : Type 0} (written : K → List ℕ) (tells : K → Bool) (faults : K → ℕ) (a b c : K) (r : Result (Unit {0}) Failed) (x y text : List ℕ) → x ++ y ≡ text → Writes written tells faults a b (Ok tt) x → Writes written tells faults b c r y → Writes written tells faults a c r text
two_last written tells faults a b c r x y text is h k = writes_text written tells faults a c r (x ++ y) text is (writes_then written tells faults a b c r x y h k)

pub three_second : {K : Type 0} (written : K → List ℕ) (tells : K → Bool) (faults : K → ℕ) (a b c : K) (e : Failed) (x y z text : List ℕ) → x ++ (y ++ z) ≡ text → Writes written tells faults a b (Ok tt) x → Writes written tells faults b c (Err e) y → Writes written tells faults a c (Err e) text
three_second written tells faults a b c e x y z text is h k =
    two_last written tells faults a b c (Err e) x (y ++ z) text is h (writes_fails written tells faults b c e y z k)

pub three_last : {K : Type 0} (written : K → List ℕ) (tells : K → Bool) (faults : K → ℕ) (a b c d : K) (r : Result (Unit {0}) Failed) (x y z text : List ℕ) → x ++ (y ++ z) ≡ text → Writes written tells faults a b (Ok tt) x → Writes written tells faults b c (Ok tt) y → Writes written tells faults c d r z → Writes written tells faults a d r text
three_last written tells faults a b c d r x y z text is h k j =
    two_last written tells faults a b d r x (y ++ z) text is h (writes_then written tells faults b c d r y z k j)
