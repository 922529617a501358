-- The blocks of a job and the units of its parts: each of its blocks stands on a unit that a part has, and on each such unit one of
-- them.
use Rattle.std.proofs.Common.{◌≡◌, inl, inr, refl, sym, ap, subst, ◌∙◌, ℕ, ◌+◌, ◌-◌, ◌<◌, ◌≤◌, ◌&&◌, Bool, true, false, List, [], ◌∷◌, drop, length, slice_index_or, Some, Ok, arith}
use Rattle.std.specs.Prelude.{nat_le, nat_lt, sum_by}
use Rattle.std.specs.Cmp.Lexicographic.{same_text}
use Rattle.std.proofs.lemmas.Bool.{cases_lt, leb-true, ltb-true, le-leb, lt-ltb}
use Rattle.std.proofs.lemmas.List.{get_or-take, get_or-drop}
use Rattle.std.proofs.lemmas.List.Elements.{recursion_from_All, filter_passes}
use Rattle.std.proofs.lemmas.List.Sums.{sum_by-cons}
use Rattle.std.proofs.lemmas.Option.{some_pair_parts}
use Rattle.raid_base.specs.declared.names.Name.{Name}
use Rattle.raid_base.specs.declared.numbers.RowNo.{RowNo}
use Rattle.raid_base.specs.declared.numbers.Number.{Number}
use Rattle.raid_base.specs.declared.cells.Content.TheVariants.{Bytes}
use Rattle.raid_base.specs.declared.jobs.RowPart.{RowPart}
use Rattle.raid_base.specs.Cells.{zeros, has_unit}
use Rattle.raid_base.specs.Names.{is_text}
use Rattle.stripe_layout.specs.Placement.{units, units_in}
use Rattle.virtual_objects.specs.Objects.{Address, rows_of, place_in, place, rank}
use Rattle.virtual_objects.specs.Places.{ArePlaces}
use Rattle.virtual_objects.specs.RowParts.{IsPart, AreInTurn, ArePartsOf}
use Rattle.virtual_objects.proofs.PlaceLemmas.{are_places}
use Rattle.attempts.specs.Phases.{IsIn}
use Rattle.attempts.specs.Puts.{block_at}
use Rattle.script_text.specs.Script.{Script, parts_of, blocks_of}
use Rattle.script_text.specs.Ranges.{IsScript, table_of}
use Rattle.histories.specs.Progress.{access}
use Rattle.serial_array.specs.Serial.{is_within, new_content}
use Rattle.serial_laws.proofs.contents.ContentBlocks.{found-so}
use Rattle.row_laws.proofs.effects.EffectsMade.{wanted-in, block-below}
use Rattle.row_laws.proofs.owners.OwnedPuts.{all-in}

abbrev counted : List RowPart → ℕ
counted parts = sum_by (λ (part : RowPart). part.count) parts

-- the part that a block of a job is in
record InPart (parts : List RowPart) (k : ℕ) : Type 0 where
  part : RowPart
  among : IsIn part parts
  low : part.at ≤ k
  high : k < part.at + part.count

in-part : (at : ℕ) (parts : List RowPart) (k : ℕ) → AreInTurn at parts → at ≤ k → k < at + counted parts → InPart parts k
in-part at [] k turn low high = absurd (let none : counted [] ≡ 0 = refl in omega (arith, low, high, none))
in-part at (part ∷ parts) k turn low high =
    let more : counted (part ∷ parts) ≡ part.count + counted parts = sum_by-cons (λ (p : RowPart). p.count) part parts in
    let own : part.at ≡ at = turn.0 in
    elim (cases_lt k (at + part.count)) [
      | inl less ↦ record { part = part; among = inl refl; low = omega (arith, own, low); high = omega (arith, own, less) }
      | inr later ↦
          (let rest : InPart parts k = in-part (at + part.count) parts k turn.1 later (omega (arith, more, high)) in
          record { part = rest.part; among = inr rest.among; low = rest.low; high = rest.high })
    ]

-- a part ends within the job
part-within : (at : ℕ) (parts : List RowPart) (part : RowPart) → AreInTurn at parts → IsIn part parts → part.at + part.count ≤ at + counted parts
part-within at [] part turn among = absurd among
part-within at (first ∷ parts) part turn (inl same) =
    let more : counted (first ∷ parts) ≡ first.count + counted parts = sum_by-cons (λ (p : RowPart). p.count) first parts in
    let own : first.at ≡ at = turn.0 in
    subst (λ (p : RowPart). p.at + p.count ≤ at + counted (first ∷ parts)) same (omega (arith, own, more))
part-within at (first ∷ parts) part turn (inr later) =
    let more : counted (first ∷ parts) ≡ first.count + counted parts = sum_by-cons (λ (p : RowPart). p.count) first parts in
    let rest : part.at + part.count ≤ at + first.count + counted parts = part-within (at + first.count) parts part turn.1 later in
    omega (arith, rest, more)

-- the three tests of a block
three-true : (b c d : Bool) → (b && c && d) ≡ true → (b ≡ true) × (c ≡ true) × (d ≡ true)
three-true true true true e = (refl, refl, refl)
three-true true true false e = absurd (cc)
three-true true false d e = absurd (cc)
three-true false c d e = absurd (cc)

all-true : (b c d : Bool) → b ≡ true → c ≡ true → d ≡ true → (b && c && d) ≡ true
all-true true true true x y z = refl
all-true true true false x y z = absurd (cc)
all-true true false d x y z = absurd (cc)
all-true false c d x y z = absurd (cc)

module _ (script : Script) (is : IsScript script) (object : Name) (first count : ℕ) (parts : List RowPart) (some : 1 ≤ count) (ok : parts_of script object first count ≡ Ok parts) where
  pub are-parts : ArePartsOf script.n script.objects object first count parts
  are-parts = found-so script is object first count parts some ok

  places : ArePlaces (table_of script)
  places = are_places (table_of script) is.objects

  each : (part : RowPart) → IsIn part parts → IsPart script.n part
  each part among = all-in (IsPart script.n) part parts (recursion_from_All (IsPart script.n) parts are-parts.sound.each) among

  -- the block of a unit that a part has, counted from the job's first
  abbrev pub NoOf : RowPart → ℕ → ℕ
  NoOf part unit = part.at + rank unit (units_in script.n part.mask)

  abbrev pub StandsAt : ℕ → RowNo → ℕ → Type 0
  StandsAt block row unit = place script.n script.objects (record { object = object; block = block }) ≡ Some (row, unit)

  -- a unit that a part has is the place of one of the job's blocks
  pub record IsBlockOf (part : RowPart) (unit : ℕ) : Type 0 where
    pub below : NoOf part unit < count
    pub stands : StandsAt (first + NoOf part unit) part.row unit

  pub unit-block : (part : RowPart) (unit : ℕ) → IsIn part parts → unit + 1 < script.n → has_unit part.mask unit ≡ true → IsBlockOf part unit
  unit-block part unit among inside masked =
      let own : part.at + rank unit (units_in script.n part.mask) < part.at + part.count = block-below (access script (record { 0 = 0 }) parts []) part (each part among) unit (wanted-in (access script (record { 0 = 0 }) parts []) part unit inside masked) in
      let last : part.at + part.count ≤ 0 + counted parts = part-within 0 parts part are-parts.sound.in_turn among in
      let total : counted parts ≡ count = are-parts.total in
      record {
        below = omega (arith, own, last, total);
        stands =
            all-in (λ (p : RowPart). (u : ℕ) → has_unit p.mask u ≡ true → place script.n script.objects (record { object = object; block = first + (p.at + rank u (units_in script.n p.mask)) }) ≡ Some (p.row, u))
            part parts (recursion_from_All _ parts are-parts.ranked) among unit masked;
      }

  -- a block of the job stands on a unit that a part has
  pub record IsUnitOf (block : ℕ) (row : RowNo) (unit : ℕ) : Type 0 where
    pub part : RowPart
    pub among : IsIn part parts
    pub of_row : part.row ≡ row
    pub inside : unit + 1 < script.n
    pub masked : has_unit part.mask unit ≡ true
    pub number : block ≡ first + NoOf part unit

  pub inside-of : (address : Address) (row : RowNo) (unit : ℕ) → place script.n script.objects address ≡ Some (row, unit) → unit + 1 < script.n
  inside-of address row unit stands = let below : unit < script.n - 1 = places.unit_in address row unit stands in omega (arith, below)

  -- the part that it is in has its unit
  module _ (block : ℕ) (row : RowNo) (unit : ℕ) (low : first ≤ block) (stands : StandsAt block row unit) (p : InPart parts (block - first)) where
    abbrev ItsUnit : ℕ
    ItsUnit = slice_index_or (units_in script.n p.part.mask) (block - first - p.part.at) 0

    part-has : block - first - p.part.at < p.part.count
    part-has = let start = p.low in let end = p.high in omega (arith, start, end)

    its-block : first + p.part.at + (block - first - p.part.at) ≡ block
    its-block = let start = p.low in omega (arith, start, low)

    its-place : StandsAt (first + p.part.at + (block - first - p.part.at)) p.part.row ItsUnit
    its-place =
        all-in (λ (q : RowPart). (j : ℕ) → j < q.count → place script.n script.objects (record { object = object; block = first + q.at + j }) ≡ Some (q.row, slice_index_or (units_in script.n q.mask) j 0))
        p.part parts (recursion_from_All _ parts are-parts.placed) p.among (block - first - p.part.at) part-has

    both : (row ≡ p.part.row) × (unit ≡ ItsUnit)
    both = some_pair_parts row p.part.row unit ItsUnit (sym stands ∙ subst (λ (b : ℕ). StandsAt b p.part.row ItsUnit) its-block its-place)

    its-mask : has_unit p.part.mask unit ≡ true
    its-mask =
        let many : length (units_in script.n p.part.mask) ≡ p.part.count = (each p.part p.among).counted in
        let less = part-has in
        subst (λ (u : ℕ). has_unit p.part.mask u ≡ true) (sym both.1)
        (filter_passes (has_unit p.part.mask) (units script.n) (block - first - p.part.at) 0 (omega (arith, many, less)))

    of-part : IsUnitOf block row unit
    of-part =
        let within : unit + 1 < script.n = inside-of (record { object = object; block = block }) row unit stands in
        record {
          part = p.part;
          among = p.among;
          of_row = sym both.0;
          inside = within;
          masked = its-mask;
          number =
              (places.apart (record { object = object; block = block }) (record { object = object; block = first + NoOf p.part unit }) row unit stands
              (subst (λ (r : RowNo). StandsAt (first + NoOf p.part unit) r unit) (sym both.0) (unit-block p.part unit p.among within its-mask).stands)).1;
        }

  pub block-unit : (block : ℕ) (row : RowNo) (unit : ℕ) → first ≤ block → block < first + count → StandsAt block row unit → IsUnitOf block row unit
  block-unit block row unit low high stands =
      let total : counted parts ≡ count = are-parts.total in
      of-part block row unit low stands (in-part 0 parts (block - first) are-parts.sound.in_turn (omega arith) (omega (arith, low, high, total)))

  module _ (address : Address) (row : RowNo) (unit : ℕ) (stands : place script.n script.objects address ≡ Some (row, unit)) where
    -- a block among the job's stands on a unit that a part has
    pub within-unit : is_within object first count address ≡ true → IsUnitOf address.block row unit
    within-unit within =
        let three = three-true (is_text address.object object) (nat_le first address.block) (nat_lt address.block (first + count)) within in
        let named : address.object ≡ object = same_text address.object object (sym three.0) in
        block-unit address.block row unit (leb-true first address.block three.1) (ltb-true address.block (first + count) three.2)
        (sym (ap (λ (name : Name). place_in (script.n - 1) address.block (rows_of script.objects name)) named) ∙ stands)

    -- a block that stands on such a unit is among them
    pub unit-within : (part : RowPart) → IsIn part parts → part.row ≡ row → has_unit part.mask unit ≡ true → (is_within object first count address ≡ true) × (address.block ≡ first + NoOf part unit)
    unit-within part among rows masked =
        let block : IsBlockOf part unit = unit-block part unit among (inside-of address row unit stands) masked in
        let below : NoOf part unit < count = block.below in
        let one = places.apart address (record { object = object; block = first + NoOf part unit }) row unit stands (subst (λ (r : RowNo). StandsAt (first + NoOf part unit) r unit) rows block.stands) in
        let number : address.block ≡ first + NoOf part unit = one.1 in (
          all-true (is_text address.object object) (nat_le first address.block) (nat_lt address.block (first + count)) one.0 (le-leb first address.block (omega (arith, number)))
              (lt-ltb address.block (first + count) (omega (arith, number, below))),
          number,
        )

  -- the new content of the block is the one that the write puts there
  pub new-block : (id : Number) (from block : ℕ) (part : RowPart) (unit : ℕ) → block ≡ first + NoOf part unit → NoOf part unit < count →
      new_content script first from block ≡ Bytes (block_at (access script id parts (blocks_of script from count)) part unit)
  new-block id from block part unit number below =
      let no : block - first ≡ NoOf part unit = omega (arith, number) in
      ap (λ (k : ℕ). Bytes (slice_index_or script.blocks (from + k) zeros)) no
      ∙ ap (λ (bytes : List ℕ). Bytes bytes) (sym (get_or-take count (drop from script.blocks) (NoOf part unit) zeros below ∙ get_or-drop from script.blocks (NoOf part unit) zeros))
