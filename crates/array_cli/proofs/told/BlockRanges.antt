-- The blocks of a report, object by object: each in its range, and in order.
use Rattle.std.proofs.Common.{◌≡◌, ℕ, zero, suc, ◌+◌, ◌-◌, ◌*◌, ◌^◌, ◌≤◌, ◌==◌, ◌&&◌, ◌||◌, not, Bool, true, false, cond, List, [], ◌∷◌, ◌++◌, map, length, Option, Some, refl, ap, ◌∙◌, arith}
use Rattle.std.specs.Prelude.{flat_map}
use Rattle.std.specs.Option.{option_map_or}
use Rattle.std.specs.List.{AllByRecursion, IsDistinct, list_any, range_with_len}
use Rattle.std.proofs.lemmas.Bool.Decides.{nat_tests}
use Rattle.std.proofs.lemmas.List.Elements.{recursion_from_All}
use Rattle.std.proofs.lemmas.Map.Keys.{IsDistinct-head, IsDistinct-tail}
use Rattle.std.proofs.lemmas.Nat.{mul-le}
use Rattle.raid_base.specs.declared.names.Name.{Name}
use Rattle.raid_base.specs.declared.cells.Shown.{Shown}
use Rattle.raid_base.specs.Names.{IsNameText, is_text}
use Rattle.virtual_objects.specs.Objects.{Object, Address}
use Rattle.virtual_objects.specs.Table.{names}
use Rattle.virtual_objects.proofs.TableLemmas.{each_few}
use Rattle.script_text.specs.Script.{Script}
use Rattle.script_text.specs.Ranges.{IsScript, table_of}
use Rattle.report_text.specs.Ranges.{IsBlockShown, IsShown, last_of, block_goes_on, block_follows, EachFollows}
use Rattle.report_text.specs.Views.{object_blocks}
use Rattle.array_cli.proofs.told.JobRanges.{last-one}

abbrev Block : Type 0
Block = Address × Shown

abbrev pub BlocksFollow : List Block → List Block → Type 0
BlocksFollow before bs = EachFollows (λ (earlier : List Block) (b : Block). block_follows earlier b.0.object b.0.block ≡ true) before bs

-- a text is itself
self : (text : List ℕ) → is_text text text ≡ true
self [] = refl
self (byte ∷ text) = by (byte == byte) (grind (arith, nat_tests)) (self text)
  where
    by : (b : Bool) → b ≡ true → is_text text text ≡ true → (b && is_text text text) ≡ true
    by true e rest = rest
    by false e rest = absurd (cc)

-- whether a block of this object is among these
abbrev has : Name → List Block → Bool
has name bs = list_any (λ (b : Block). is_text b.0.object name) bs

has-append : (name : Name) (xs ys : List Block) → has name xs ≡ false → has name ys ≡ false → has name (xs ++ ys) ≡ false
has-append name [] ys h g = g
has-append name (x ∷ xs) ys h g = by (is_text x.0.object name) h (has-append name xs ys)
  where
    by : (b : Bool) → (b || has name xs) ≡ false → (has name xs ≡ false → has name ys ≡ false → has name (xs ++ ys) ≡ false) → (b || has name (xs ++ ys)) ≡ false
    by true e rest = absurd (cc)
    by false e rest = rest e g

module _ (show : Address → Shown) where
  abbrev shown : Address → Block
  shown address = (address, show address)

  abbrev at : Name → ℕ → Address
  at name block = record { object = name; block = block }

  -- what may come next of an object: its first block, or the one behind the last
  first-follows : (before : List Block) (name : Name) → has name before ≡ false → block_follows before name 0 ≡ true
  first-follows before name none = ap not none

  next-follows : (before : List Block) (name : Name) (block : ℕ) → last_of before ≡ Some (shown (at name block)) → block_follows before name (block + 1) ≡ true
  next-follows before name block last = by (block + 1 == 0) (grind (arith, nat_tests))
    where
      two : (a b : Bool) → a ≡ true → b ≡ true → (a && b) ≡ true
      two true true x y = refl
      two true false x y = absurd (cc)
      two false b x y = absurd (cc)

      on : block_goes_on before name (block + 1) ≡ true
      on =
          ap (λ (o : Option Block). option_map_or (λ (b : Block). is_text b.0.object name && (b.0.block + 1 == block + 1)) o false) last
          ∙ two (is_text name name) (block + 1 == block + 1) (self name) (grind (arith, nat_tests))

      by : (b : Bool) → b ≡ false → cond b (not (has name before)) (block_goes_on before name (block + 1)) ≡ true
      by true e = absurd (cc)
      by false e = on

  -- the blocks of an object, whatever is so of the blocks before, and stays so with them
  module _ (name : Name) (rest : List Address) (P : List Block → Type 0) (adds : (before : List Block) (block : ℕ) → P before → P (before ++ shown (at name block) ∷ []))
      (on : (later : List Block) → P later → BlocksFollow later (map shown rest)) where
    more-follow : (block count : ℕ) (before : List Block) → P before → last_of before ≡ Some (shown (at name block)) →
        BlocksFollow before (map shown (map (λ b. at name b) (range_with_len (block + 1) count) ++ rest))
    more-follow block zero before p last = on before p
    more-follow block (suc count) before p last = (
      next-follows before name block last,
      more-follow (block + 1) count (before ++ shown (at name (block + 1)) ∷ []) (adds before (block + 1) p) (last-one before (shown (at name (block + 1)))),
    )

    object-follows : (count : ℕ) (before : List Block) → P before → has name before ≡ false → BlocksFollow before (map shown (map (λ b. at name b) (range_with_len 0 count) ++ rest))
    object-follows zero before p none = on before p
    object-follows (suc count) before p none =
        (first-follows before name none, more-follow 0 count (before ++ shown (at name 0) ∷ []) (adds before 0 p) (last-one before (shown (at name 0))))

  -- none of these objects is there yet
  abbrev AreNew : List Object → List Block → Type 0
  AreNew objects before = AllByRecursion (λ (o : Object). has o.name before ≡ false) objects

  one-has : (name other : Name) (block : ℕ) → is_text name other ≡ false → has other (shown (at name block) ∷ []) ≡ false
  one-has name other block apart = by (is_text name other) apart
    where
      by : (b : Bool) → b ≡ false → (b || false) ≡ false
      by true e = absurd (cc)
      by false e = refl

  adds-new : (name : Name) (objects : List Object) → AllByRecursion (λ (other : Name). is_text name other ≡ false) (names objects) → (before : List Block) (block : ℕ) → AreNew objects before →
      AreNew objects (before ++ shown (at name block) ∷ [])
  adds-new name [] apart before block new = tt
  adds-new name (o ∷ objects) apart before block new =
      (has-append o.name before (shown (at name block) ∷ []) new.0 (one-has name o.name block apart.0), adds-new name objects apart.1 before block new.1)

  module _ (n : ℕ) where
    objects-follow : (objects : List Object) (before : List Block) → IsDistinct is_text (names objects) → AreNew objects before → BlocksFollow before (map shown (flat_map (object_blocks n) objects))
    objects-follow [] before apart new = tt
    objects-follow (o ∷ objects) before apart new =
        object-follows o.name (flat_map (object_blocks n) objects) (AreNew objects)
        (adds-new o.name objects (IsDistinct-head is_text o.name (names objects) apart))
        (λ later fresh. objects-follow objects later (IsDistinct-tail is_text o.name (names objects) apart) fresh) (length o.rows * (n - 1)) before new.1 new.0

    start-new : (objects : List Object) → AreNew objects []
    start-new [] = tt
    start-new (o ∷ objects) = (refl, start-new objects)

    -- ranges
    own-in : (name : Name) → IsNameText name → (from count : ℕ) (rest : List Address) → from + count ≤ 2 ^ 32 → ((address : Address) → IsShown (show address)) →
        AllByRecursion IsBlockShown (map shown rest) → AllByRecursion IsBlockShown (map shown (map (λ b. at name b) (range_with_len from count) ++ rest))
    own-in name text from zero rest few shows all = all
    own-in name text from (suc count) rest few shows all = (
      record { object = text; number = record { low = omega arith; high = omega (arith, few) }; shown = shows (at name from) },
      own-in name text (from + 1) count rest (omega (arith, few)) shows all,
    )

    objects-in : n ≤ 16 → (objects : List Object) → AllByRecursion (λ (o : Object). IsNameText o.name) objects → AllByRecursion (λ (o : Object). length o.rows ≤ 4096) objects →
        ((address : Address) → IsShown (show address)) → AllByRecursion IsBlockShown (map shown (flat_map (object_blocks n) objects))
    objects-in most [] texts few shows = tt
    objects-in most (o ∷ objects) texts few shows =
        let all : length o.rows * (n - 1) ≤ 4096 * 16 = mul-le (length o.rows) (n - 1) 4096 16 few.0 (omega (arith, most)) in
        own-in o.name texts.0 0 (length o.rows * (n - 1)) (flat_map (object_blocks n) objects) (omega (arith, all)) shows (objects-in most objects texts.1 few.1 shows)

few-all : (rows : ℕ) → rows ≤ 4096 → (objects : List Object) → AllByRecursion (λ (o : Object). length o.rows ≤ rows) objects → AllByRecursion (λ (o : Object). length o.rows ≤ 4096) objects
few-all rows most [] all = tt
few-all rows most (o ∷ objects) all = (let few = all.0 in omega (arith, few, most), few-all rows most objects all.1)

module _ (script : Script) (is : IsScript script) (show : Address → Shown) where
  abbrev Blocks : List Block
  Blocks = map (λ (address : Address). (address, show address)) (flat_map (object_blocks script.n) script.objects)

  pub blocks-follow : BlocksFollow [] Blocks
  blocks-follow = objects-follow show script.n script.objects [] is.objects.names_apart (start-new show script.n script.objects)

  pub blocks-in : ((address : Address) → IsShown (show address)) → AllByRecursion IsBlockShown Blocks
  blocks-in shows =
      objects-in show script.n is.devices_most script.objects (recursion_from_All (λ (o : Object). IsNameText o.name) script.objects is.names)
      (few-all script.rows is.rows_most script.objects (recursion_from_All (λ (o : Object). length o.rows ≤ script.rows) script.objects (each_few (table_of script) is.objects))) shows
