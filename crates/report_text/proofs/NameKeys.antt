-- The keys of names, and whose blocks have been read.
use Rattle.std.proofs.Common.{◌≡◌, ◌≢◌, ℕ, zero, suc, ◌+◌, ◌-◌, ◌<◌, ◌≤◌, Bool, true, false, cond, eqb, leb, ◌&&◌, ◌||◌, List, [], ◌∷◌, ◌++◌, length, get_or, replicate, Option, Some, None, refl, sym, ap, ◌∙◌, arith, slice_get}
use Rattle.std.specs.Prelude.{nat_eq}
use Rattle.std.specs.Option.{option_map_or}
use Rattle.std.specs.List.{list_all, list_any}
use Rattle.std.specs.Cmp.Lexicographic.{pointwise}
use Rattle.std.proofs.lemmas.Bool.{and_parts, leb-true}
use Rattle.std.proofs.lemmas.Bool.Decides.{nat_tests}
use Rattle.std.proofs.lemmas.List.Folds.{list_any-append}
use Rattle.std.proofs.lemmas.Slice.Eq.{bytes_eq-Decides}
use Rattle.raid_base.specs.Names.{IsNameText, is_letter, is_name_byte, filled, is_text}
use Rattle.raid_base.specs.declared.cells.Shown.{Shown}
use Rattle.virtual_objects.specs.Objects.{Address}
use Rattle.report_text.specs.Ranges.{last_of, block_goes_on}
use Rattle.report_text.specs.Drafting.{Knows}
use Rattle.report_text.proofs.ReadingWords.{same-some}
use Rattle.report_text.proofs.ContentReading.{is_text-same, is_text-takes}

record NameParts (name : List ℕ) : Type 0 where
  short : length name ≤ 16
  bytes : list_all is_name_byte name ≡ true

name-parts : (name : List ℕ) → IsNameText name → NameParts name
name-parts name h =
    let all = and_parts (leb 1 (length name) && leb (length name) 16 && is_letter (get_or name 0 0)) (list_all is_name_byte name) h in
    let front = and_parts (leb 1 (length name) && leb (length name) 16) (is_letter (get_or name 0 0)) all.0 in
    let sizes = and_parts (leb 1 (length name)) (leb (length name) 16) front.0 in
    record { short = leb-true (length name) 16 sizes.1; bytes = all.1 }

pub name-short : (name : List ℕ) → IsNameText name → length name ≤ 16
name-short name h = let parts = name-parts name h in parts.short

-- names with zeros behind them are one only where the names are
byte-some : (byte : ℕ) → is_name_byte byte ≡ true → byte ≢ 0
byte-some byte h = grind (arith, nat_tests)

padded-none : (n c : ℕ) (rest : List ℕ) → replicate n 0 ≡ c ∷ rest → c ≡ 0
padded-none zero c rest e = cc
padded-none (suc n) c rest e = let same : 0 ≡ c = cc in sym same

padded-same : (a b : List ℕ) (i j : ℕ) → list_all is_name_byte a ≡ true → list_all is_name_byte b ≡ true → a ++ replicate i 0 ≡ b ++ replicate j 0 → a ≡ b
padded-same [] [] i j h k e = refl
padded-same [] (c ∷ b) i j h k e = absurd (byte-some c (and_parts (is_name_byte c) (list_all is_name_byte b) k).0 (padded-none i c (b ++ replicate j 0) e))
padded-same (c ∷ a) [] i j h k e = absurd (byte-some c (and_parts (is_name_byte c) (list_all is_name_byte a) h).0 (padded-none j c (a ++ replicate i 0) (sym e)))
padded-same (c ∷ a) (d ∷ b) i j h k e =
    let first : c ≡ d = cc in
    let rest : a ++ replicate i 0 ≡ b ++ replicate j 0 = cc in
    ap (λ x. x ∷ a) first ∙ ap (λ x. d ∷ x) (padded-same a b i j (and_parts (is_name_byte c) (list_all is_name_byte a) h).1 (and_parts (is_name_byte d) (list_all is_name_byte b) k).1 rest)

same-tests : (b c : Bool) → (b ≡ true → c ≡ true) → (c ≡ true → b ≡ true) → b ≡ c
same-tests true c h k = sym (h refl)
same-tests false true h k = k refl
same-tests false false h k = refl

key-tests : (a b : List ℕ) → IsNameText a → IsNameText b → pointwise nat_eq (filled a) (filled b) ≡ is_text a b
key-tests a b h k =
    let parts_a = name-parts a h in
    let parts_b = name-parts b k in
    same-tests (pointwise nat_eq (filled a) (filled b)) (is_text a b)
    (λ e. is_text-same a b (padded-same a b (16 - length a) (16 - length b) parts_a.bytes parts_b.bytes ((bytes_eq-Decides (filled a) (filled b)).0 e)))
    (λ e. (bytes_eq-Decides (filled a) (filled b)).1 (ap filled (is_text-takes a b e)))

or-cond : (b x : Bool) → cond b true x ≡ (x || (b || false))
or-cond true true = refl
or-cond true false = refl
or-cond false true = refl
or-cond false false = refl

abbrev is_of : List ℕ → Address × Shown → Bool
is_of name b = is_text b.0.object name

abbrev entry : List ℕ → ℕ → Shown → Address × Shown
entry object block shown = (record { object = object; block = block }, shown)

-- a name more
pub knows-new : (keys later : List (List ℕ)) (blocks : List (Address × Shown)) (object : List ℕ) (block : ℕ) (shown : Shown) → IsNameText object → Knows keys blocks
    → ((q : List ℕ) → list_any (pointwise nat_eq q) later ≡ cond (pointwise nat_eq (filled object) q) true (list_any (pointwise nat_eq q) keys)) → Knows later (blocks ++ entry object block shown ∷ [])
knows-new keys later blocks object block shown is knows new = λ name h.
    new (filled name) ∙ ap (λ t. cond t true (list_any (pointwise nat_eq (filled name)) keys)) (key-tests object name is h) ∙ ap (cond (is_text object name) true) (knows name h)
    ∙ or-cond (is_text object name) (list_any (is_of name) blocks) ∙ sym (list_any-append (is_of name) blocks (entry object block shown ∷ []))

any-got : {X : Type 0} (p : X → Bool) (xs : List X) (k : ℕ) (x : X) → slice_get xs k ≡ Some x → p x ≡ true → list_any p xs ≡ true
any-got p [] k x e t = cc
any-got p (y ∷ ys) zero x e t = let same : y ≡ x = cc in ap (λ b. b || list_any p ys) (ap p same ∙ t)
any-got p (y ∷ ys) (suc k) x e t = or-right (p y) (list_any p ys) (any-got p ys k x e t) where
  or-right : (b c : Bool) → c ≡ true → (b || c) ≡ true
  or-right true c e = refl
  or-right false c e = e

or-known : (x b : Bool) → (b ≡ true → x ≡ true) → x ≡ (x || (b || false))
or-known true b h = refl
or-known false true h = h refl
or-known false false h = refl

goes-on-last : (found : Option (Address × Shown)) (object : List ℕ) (block : ℕ) → option_map_or (λ (last : Address × Shown). is_text last.0.object object && eqb (last.0.block + 1) block) found false ≡ true → (last : Address × Shown) × (found ≡ Some last) × (is_text last.0.object object ≡ true)
goes-on-last None object block e = absurd (cc e)
goes-on-last (Some last) object block e = (last, refl, (and_parts (is_text last.0.object object) (eqb (last.0.block + 1) block) e).0)

-- a block more of a name that is known
pub knows-on : (keys : List (List ℕ)) (blocks : List (Address × Shown)) (object : List ℕ) (block : ℕ) (shown : Shown) → Knows keys blocks → block_goes_on blocks object block ≡ true → Knows keys (blocks ++ entry object block shown ∷ [])
knows-on keys blocks object block shown knows on = λ name h.
    let last = goes-on-last (last_of blocks) object block on in
    let among : is_text object name ≡ true → list_any (is_of name) blocks ≡ true = λ e.
    any-got (is_of name) blocks (length blocks - 1) last.0 last.1 (is_text-same last.0.0.object name (is_text-takes last.0.0.object object last.2 ∙ is_text-takes object name e)) in
    knows name h ∙ or-known (list_any (is_of name) blocks) (is_text object name) among ∙ sym (list_any-append (is_of name) blocks (entry object block shown ∷ []))
