-- One block of the serial array is set.
use Rattle.std.proofs.Common.{◌≡◌, ◌∙◌, sym, ap, refl, ℕ, zero, suc, ◌+◌, ◌-◌, ◌*◌, ◌/◌, ◌<◌, ◌≤◌, inl, inr, arith, ◌==◌, ◌&&◌, nat_lt, not, Bool, true, false, cond, List, [], ◌∷◌, map, find, length, replicate, set, get_or, slice_get, position, Option, Some, None, option_map, is_some}
use Rattle.std.specs.List.{position_or_len}
use Rattle.std.specs.Cmp.Lexicographic.{nat_list_eq_equiv}
use Rattle.std.proofs.lemmas.Bool.{lt-ltb, cases_lt}
use Rattle.std.proofs.lemmas.Bool.Decides.{nat_tests}
use Rattle.std.proofs.lemmas.List.Quantifiers.{position-Some}
use Rattle.std.proofs.lemmas.List.{length-replicate, get_or-replicate}
use Rattle.std.proofs.lemmas.Option.{slice_get-get_or, slice_get_past}
use Rattle.std.proofs.lemmas.Nat.{div_below, le-div}
use Rattle.script_text.specs.Script.{Script}
use Rattle.raid_base.specs.declared.names.Name.{Name}
use Rattle.raid_base.specs.declared.numbers.RowNo.{RowNo}
use Rattle.raid_base.specs.declared.cells.Content.{Content}
use Rattle.raid_base.specs.declared.cells.Content.TheVariants.{Bytes, Lost}
use Rattle.raid_base.specs.Cells.{zeros}
use Rattle.raid_base.specs.Names.{is_text}
use Rattle.virtual_objects.specs.Objects.{Object, Address, rows_of, place_in, placed_in}
use Rattle.serial_array.specs.Blocks.{ObjectBlocks, contents_of, content_in, content_at, is_address, zero_blocks, zero_objects, first_content}

-- the contents with one of them set
get-set : (contents : List Content) (block k : ℕ) (content : Content)
    → slice_get (set contents block content) k ≡ cond (is_some (slice_get contents block) && (block == k)) (Some content) (slice_get contents k)
get-set [] block k content = refl
get-set (c ∷ contents) zero zero content = refl
get-set (c ∷ contents) zero (suc k) content = (let e : (zero == suc k) ≡ false = grind (arith, nat_tests) in rw e refl)
get-set (c ∷ contents) (suc block) zero content = by (is_some (slice_get contents block))
  where
    apart : (suc block == zero) ≡ false
    apart = grind (arith, nat_tests)

    by : (b : Bool) → Some c ≡ cond (b && (suc block == zero)) (Some content) (Some c)
    by true = rw apart refl
    by false = refl
get-set (c ∷ contents) (suc block) (suc k) content =
    get-set contents block k content
    ∙ ap (λ (b : Bool). cond (is_some (slice_get contents block) && b) (Some content) (slice_get contents k)) (let e : (block == k) ≡ (suc block == suc k) = grind (arith, nat_tests) in e)

none-there : (b : Bool) (x y : Option Content) → cond (b && false) x y ≡ y
none-there true x y = refl
none-there false x y = refl

abbrev pub with_content : ObjectBlocks → ℕ → Content → ObjectBlocks
with_content object block content = record { name = object.name; contents = set object.contents block content }

-- the array with a block of one object set
abbrev pub SetsOne : List ObjectBlocks → List ObjectBlocks → Name → ℕ → Content → Address → Type 0
SetsOne old new name block content address =
    content_at new address ≡ cond (is_some (content_at old (record { object = name; block = block })) && is_address (record { object = name; block = block }) address) (Some content) (content_at old address)

at-head : (object : ObjectBlocks) (objects : List ObjectBlocks) (address : Address) → is_text object.name address.object ≡ true
    → content_at (object ∷ objects) address ≡ slice_get object.contents address.block
at-head object objects address e =
    ap (λ (b : Bool). content_in address.block (option_map (λ (o : ObjectBlocks). o.contents) (cond b (Some object) (find (λ (o : ObjectBlocks). is_text o.name address.object) objects)))) e

at-tail : (object : ObjectBlocks) (objects : List ObjectBlocks) (address : Address) → is_text object.name address.object ≡ false
    → content_at (object ∷ objects) address ≡ content_at objects address
at-tail object objects address e =
    ap (λ (b : Bool). content_in address.block (option_map (λ (o : ObjectBlocks). o.contents) (cond b (Some object) (find (λ (o : ObjectBlocks). is_text o.name address.object) objects)))) e

-- an address of another name is not set
other-name : (x : Option Content) (name : Name) (block : ℕ) (content : Content) (address : Address) (y : Option Content) → is_text name address.object ≡ false
    → y ≡ cond (is_some x && (is_text name address.object && (block == address.block))) (Some content) y
other-name x name block content address y e =
    sym (none-there (is_some x) (Some content) y)
    ∙ ap (λ (b : Bool). cond (is_some x && (b && (block == address.block))) (Some content) y) (sym e)

-- at the object's own place
set-head : (object : ObjectBlocks) (objects : List ObjectBlocks) (name : Name) (block : ℕ) (content : Content) (address : Address) (b : Bool)
    → is_text object.name name ≡ true → is_text object.name address.object ≡ b → SetsOne (object ∷ objects) (with_content object block content ∷ objects) name block content address
set-head object objects name block content address true e t =
    let named : is_text name address.object ≡ true = sym (nat_list_eq_equiv.congr object.name name address.object e) ∙ t in
    let k : ℕ = address.block in
    let old : List ObjectBlocks = object ∷ objects in
    at-head (with_content object block content) objects address t
    ∙ get-set object.contents block address.block content
    ∙ ap (λ (x : Option Content). cond (is_some x && (block == address.block)) (Some content) (slice_get object.contents address.block)) (sym (at-head object objects (record { object = name; block = block }) e))
    ∙ ap (λ (b : Bool). cond (is_some (content_at (object ∷ objects) (record { object = name; block = block })) && (b && (block == address.block))) (Some content) (slice_get object.contents address.block)) (sym named)
    ∙ ap (λ (y : Option Content). cond (is_some (content_at (object ∷ objects) (record { object = name; block = block })) && (is_text name address.object && (block == address.block))) (Some content) y) (sym (at-head object objects address t))
set-head object objects name block content address false e t =
    let named : is_text name address.object ≡ false = sym (nat_list_eq_equiv.congr object.name name address.object e) ∙ t in
    at-tail (with_content object block content) objects address t
    ∙ sym (at-tail object objects address t)
    ∙ other-name (content_at (object ∷ objects) (record { object = name; block = block })) name block content address (content_at (object ∷ objects) address) named

-- behind an object of another name
set-tail : (object : ObjectBlocks) (objects new : List ObjectBlocks) (name : Name) (block : ℕ) (content : Content) (address : Address) (b : Bool)
    → is_text object.name name ≡ false → is_text object.name address.object ≡ b → SetsOne objects new name block content address → SetsOne (object ∷ objects) (object ∷ new) name block content address
set-tail object objects new name block content address true e t rest =
    let named : is_text name address.object ≡ false =
    nat_list_eq_equiv.symm name address.object ∙ sym (nat_list_eq_equiv.congr object.name address.object name t) ∙ e in
    at-head object new address t
    ∙ sym (at-head object objects address t)
    ∙ other-name (content_at (object ∷ objects) (record { object = name; block = block })) name block content address (content_at (object ∷ objects) address) named
set-tail object objects new name block content address false e t rest =
    at-tail object new address t
    ∙ rest
    ∙ ap (λ (x : Option Content). cond (is_some x && (is_text name address.object && (block == address.block))) (Some content) (content_at objects address)) (sym (at-tail object objects (record { object = name; block = block }) e))
    ∙ ap (λ (y : Option Content). cond (is_some (content_at (object ∷ objects) (record { object = name; block = block })) && (is_text name address.object && (block == address.block))) (Some content) y) (sym (at-tail object objects address t))

-- at the first object of a name
pub set-first : (objects : List ObjectBlocks) (i : ℕ) (d : ObjectBlocks) (name : Name) (block : ℕ) (content : Content) (address : Address)
    → i < length objects → is_text (get_or objects i d).name name ≡ true → ((k : ℕ) → k < i → is_text (get_or objects k d).name name ≡ false)
    → SetsOne objects (set objects i (with_content (get_or objects i d) block content)) name block content address
set-first [] i d name block content address h e before = absurd (omega arith)
set-first (object ∷ objects) zero d name block content address h e before = set-head object objects name block content address (is_text object.name address.object) e refl
set-first (object ∷ objects) (suc i) d name block content address h e before =
    set-tail object objects _ name block content address (is_text object.name address.object) (before 0 (omega arith)) refl
    (set-first objects i d name block content address (omega arith) e (λ k less. before (suc k) (omega arith)))

-- its contents
pub contents-first : (objects : List ObjectBlocks) (i : ℕ) (d : ObjectBlocks) (name : Name)
    → i < length objects → is_text (get_or objects i d).name name ≡ true → ((k : ℕ) → k < i → is_text (get_or objects k d).name name ≡ false)
    → contents_of objects name ≡ Some (get_or objects i d).contents
contents-first [] i d name h e before = absurd (omega arith)
contents-first (object ∷ objects) zero d name h e before =
    ap (λ (b : Bool). option_map (λ (o : ObjectBlocks). o.contents) (cond b (Some object) (find (λ (o : ObjectBlocks). is_text o.name name) objects))) e
contents-first (object ∷ objects) (suc i) d name h e before =
    ap (λ (b : Bool). option_map (λ (o : ObjectBlocks). o.contents) (cond b (Some object) (find (λ (o : ObjectBlocks). is_text o.name name) objects))) (before 0 (omega arith))
    ∙ contents-first objects i d name (omega arith) e (λ k less. before (suc k) (omega arith))

-- Zeros at the start
contents-zeros : (d : ℕ) (objects : List Object) (name : Name)
    → contents_of (map (zero_blocks d) objects) name ≡ option_map (λ (rows : List RowNo). replicate (length rows * d) (Bytes zeros)) (rows_of objects name)
contents-zeros d [] name = refl
contents-zeros d (object ∷ objects) name = by (is_text object.name name) (contents-zeros d objects name)
  where
    by : (b : Bool) → contents_of (map (zero_blocks d) objects) name ≡ option_map (λ (rows : List RowNo). replicate (length rows * d) (Bytes zeros)) (rows_of objects name)
        → option_map (λ (o : ObjectBlocks). o.contents) (cond b (Some (zero_blocks d object)) (find (λ (o : ObjectBlocks). is_text o.name name) (map (zero_blocks d) objects)))
        ≡ option_map (λ (rows : List RowNo). replicate (length rows * d) (Bytes zeros)) (option_map (λ (o : Object). o.rows) (cond b (Some object) (find (λ (o : Object). is_text o.name name) objects)))
    by true rest = refl
    by false rest = rest

zeros-in : (d block : ℕ) (rows : List RowNo) → 1 ≤ d
    → slice_get (replicate (length rows * d) (Bytes zeros)) block ≡ cond (is_some (placed_in d block (slice_get rows (block / d)))) (Some (Bytes zeros)) None
zeros-in d block rows h = elim (cases_lt block (length rows * d)) [
  | inl inside ↦
      (let row : block / d < length rows = div_below block d (length rows) (omega arith) inside in
      let long : length (replicate (length rows * d) (Bytes zeros)) ≡ length rows * d = length-replicate (length rows * d) (Bytes zeros) in
      slice_get-get_or (replicate (length rows * d) (Bytes zeros)) block Lost (omega arith)
      ∙ ap (λ (c : Content). Some c) (get_or-replicate (length rows * d) block (Bytes zeros) Lost inside)
      ∙ ap (λ (o : Option RowNo). cond (is_some (placed_in d block o)) (Some (Bytes zeros)) None) (sym (slice_get-get_or rows (block / d) (record { 0 = 0 }) row)))
  | inr past ↦
      (let row : length rows ≤ block / d = le-div (length rows) block d (omega arith) past in
      let long : length (replicate (length rows * d) (Bytes zeros)) ≡ length rows * d = length-replicate (length rows * d) (Bytes zeros) in
      slice_get_past (replicate (length rows * d) (Bytes zeros)) block (omega arith)
      ∙ ap (λ (o : Option RowNo). cond (is_some (placed_in d block o)) (Some (Bytes zeros)) None) (sym (slice_get_past rows (block / d) row)))
]

zeros-found : (d block : ℕ) (rows : Option (List RowNo)) → 1 ≤ d
    → content_in block (option_map (λ (rs : List RowNo). replicate (length rs * d) (Bytes zeros)) rows) ≡ cond (is_some (place_in d block rows)) (Some (Bytes zeros)) None
zeros-found d block None h = refl
zeros-found d block (Some rows) h = zeros-in d block rows h

pub zeros-at : (script : Script) (address : Address) → 2 ≤ script.n → content_at (zero_objects script) address ≡ first_content script address
zeros-at script address h =
    ap (content_in address.block) (contents-zeros (script.n - 1) script.objects address.object)
    ∙ zeros-found (script.n - 1) address.block (rows_of script.objects address.object) (omega arith)

get-some : (contents : List Content) (block : ℕ) → is_some (slice_get contents block) ≡ nat_lt block (length contents)
get-some [] block = (let e : nat_lt block 0 ≡ false = grind (arith, nat_tests) in sym e)
get-some (c ∷ contents) zero = (let e : nat_lt zero (suc (length contents)) ≡ true = grind (arith, nat_tests) in sym e)
get-some (c ∷ contents) (suc block) = get-some contents block ∙ (let e : nat_lt block (length contents) ≡ nat_lt (suc block) (suc (length contents)) = grind (arith, nat_tests) in e)

-- whether an object that is found has a block
pub found-there : (items now : List ObjectBlocks) (index : ℕ) (object : ObjectBlocks) (name : Name) (block : ℕ)
    → items ≡ now → Some index ≡ position (λ (o : ObjectBlocks). is_text o.name name) now → object ≡ get_or items index object
    → nat_lt block (length object.contents) ≡ is_some (content_at now (record { object = name; block = block }))
found-there items now index object name block same at is =
    let first = position-Some (λ (o : ObjectBlocks). is_text o.name name) now index object (sym at) in
    let here : object ≡ get_or now index object = is ∙ ap (λ (xs : List ObjectBlocks). get_or xs index object) same in
    sym (get-some object.contents block)
    ∙ ap (λ (o : ObjectBlocks). is_some (slice_get o.contents block)) here
    ∙ ap (λ (cs : Option (List Content)). is_some (content_in block cs)) (sym (contents-first now index object name first.0 first.1 first.2))

-- and what its setting leaves
pub found-set : (items now : List ObjectBlocks) (index : ℕ) (object new : ObjectBlocks) (name : Name) (block : ℕ) (content : Content) (there : Bool) (address : Address)
    → items ≡ now → Some index ≡ position (λ (o : ObjectBlocks). is_text o.name name) now → object ≡ get_or items index object
    → new ≡ with_content object block content → there ≡ nat_lt block (length object.contents)
    → content_at (set items index new) address ≡ cond (there && is_address (record { object = name; block = block }) address) (Some content) (content_at now address)
found-set items now index object new name block content there address same at is becomes tells =
    let first = position-Some (λ (o : ObjectBlocks). is_text o.name name) now index object (sym at) in
    let here : object ≡ get_or now index object = is ∙ ap (λ (xs : List ObjectBlocks). get_or xs index object) same in
    let made : new ≡ with_content (get_or now index object) block content = becomes ∙ ap (λ (o : ObjectBlocks). with_content o block content) here in
    ap (λ (xs : List ObjectBlocks). content_at (set xs index new) address) same
    ∙ ap (λ (o : ObjectBlocks). content_at (set now index o) address) made
    ∙ set-first now index object name block content address first.0 first.1 first.2
    ∙ ap (λ (b : Bool). cond (b && is_address (record { object = name; block = block }) address) (Some content) (content_at now address))
    (sym (found-there items now index object name block same at is) ∙ sym tells)

no-place : (m n : ℕ) → None ≡ cond (nat_lt m n) (Some m) None → n ≤ m
no-place m n e = elim (cases_lt m n) [
  | inl less ↦ absurd (let some : cond (nat_lt m n) (Some m) None ≡ Some m = rw (lt-ltb m n less) refl in let no : None ≡ Some m = e ∙ some in cc)
  | inr more ↦ more
]

find-none : (p : ObjectBlocks → Bool) (objects : List ObjectBlocks) → length objects ≤ position_or_len p objects → find p objects ≡ None
find-none p [] h = refl
find-none p (object ∷ objects) h = by (p object) h (find-none p objects)
  where
    by : (b : Bool) → suc (length objects) ≤ cond (not b) (1 + position_or_len p objects) 0 → (length objects ≤ position_or_len p objects → find p objects ≡ None) → cond b (Some object) (find p objects) ≡ None
    by true g rest = absurd (omega arith)
    by false g rest = rest (omega arith)

-- an object that isn't found has no blocks
pub not-found : (objects : List ObjectBlocks) (name : Name) (block : ℕ) → None ≡ position (λ (o : ObjectBlocks). is_text o.name name) objects
    → is_some (content_at objects (record { object = name; block = block })) ≡ false
not-found objects name block e =
    let p : ObjectBlocks → Bool = λ o. is_text o.name name in
    ap (λ (o : Option ObjectBlocks). is_some (content_in block (option_map (λ (b : ObjectBlocks). b.contents) o))) (find-none p objects (no-place (position_or_len p objects) (length objects) e))
