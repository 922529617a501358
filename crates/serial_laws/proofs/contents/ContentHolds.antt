-- Each call keeps the cells of all rows: each unit has the cell of its content, and the parity that of the contents that it counts.
use Rattle.std.proofs.Common.{◌≡◌, ◌⊎◌, inl, inr, refl, sym, ap, subst, ◌∙◌, ℕ, zero, suc, ◌+◌, ◌-◌, ◌<◌, Bool, true, false, if◌then◌else◌, List, [], ◌∷◌, length, map, replicate, Option, Some}
use Rattle.std.specs.List.{range_with_len}
use Rattle.raid_base.specs.declared.numbers.BayNo.{BayNo}
use Rattle.raid_base.specs.declared.numbers.HostNo.{HostNo}
use Rattle.raid_base.specs.declared.numbers.RowNo.{RowNo}
use Rattle.raid_base.specs.declared.cells.Cell.{Cell}
use Rattle.raid_base.specs.declared.cells.Content.{Content}
use Rattle.raid_base.specs.declared.cells.Content.TheVariants.{Bytes}
use Rattle.raid_base.specs.declared.messages.Call.{Call}
use Rattle.raid_base.specs.declared.messages.Request.{Request}
use Rattle.raid_base.specs.Cells.{zeros, zero_cell}
use Rattle.raid_base.specs.Steps.{Steps, next_errand, errand_of}
use Rattle.raid_xor.specs.Laws.{AreBlocks}
use Rattle.stripe_layout.specs.Placement.{parity_bay, bay_of}
use Rattle.raid_xor.specs.Parities.{parity_of}
use Rattle.degraded_plans.specs.Rows.{IsSound}
use Rattle.degraded_plans.proofs.RowUnits.{zeros_sound}
use Rattle.slot_rules.specs.Slots.{Slot}
use Rattle.attempts.specs.Taking.{Finish}
use Rattle.attempts.specs.Sound.{IsThis}
use Rattle.script_text.specs.Script.{Script}
use Rattle.script_text.specs.Ranges.{IsScript}
use Rattle.histories.specs.Calls.{Happened, row_of}
use Rattle.histories.specs.History.{IsHistory}
use Rattle.histories.specs.RowStates.{slot_at, cell_at}
use Rattle.row_laws.specs.Hands.{HasHand, calls_at}
use Rattle.serial_laws.specs.Laws.{content_at}
use Rattle.serial_laws.specs.Contents.{is_parity_put, base_at, cell_with, cells_with, HoldsContents}
use Rattle.serial_laws.proofs.contents.ContentChanges.{all-blocks}
use Rattle.serial_laws.proofs.contents.ContentFacts.{cells-same, cells-data, sound-parity}
use Rattle.serial_laws.proofs.contents.ContentParityPuts.{ParityGood, parity-mended, parity-recovered}
use Rattle.serial_laws.proofs.contents.ContentPuts.{may-put}
use Rattle.serial_laws.proofs.contents.ContentSlots.{CellTurn, Same, Bare, Filled, cell-turned, put-filled, ParityPut, parity-put, puts-parity}
use Rattle.serial_laws.proofs.contents.ContentStates.{AreShownIn, table, owned_at, is_from, AreHandsShown, AllHold}
use Rattle.serial_laws.proofs.contents.ContentTrees.{MayPut, Writes, Rebuilds, Recovers}
use Rattle.serial_laws.proofs.contents.ContentUnitPuts.{Good, good-of, unit-put-good}
use Rattle.serial_laws.proofs.contents.ContentWriteParity.{OwnedBlocks, parity-written}
use Rattle.serial_laws.proofs.contents.ContentsCovered.{IsOwnCommit, quiet-content}
use Rattle.row_laws.proofs.holders.HolderNotesCalls.{none-first}
use Rattle.row_laws.proofs.owners.RowOwnersHands.{Asker, asker}
use Rattle.histories.proofs.steps.BayRows.{starts-first}

module _ (script : Script) (is : IsScript script) (earlier : List Call) (call : Call) (along : IsHistory script (call ∷ earlier)) (hold : AllHold script earlier) (owned : OwnedBlocks script earlier) (hands : AreHandsShown script earlier)
    (row : RowNo) (below : row.0 < script.rows) where
  abbrev P : BayNo
  P = parity_bay script.n row

  abbrev later : List Call
  later = call ∷ earlier

  -- A put of the parity
  parity-good : (p : ParityPut script.n row call) → ParityGood script (later) row p.cell
  parity-good p =
      let a : Asker script is earlier call = asker script is earlier call along.0 along.1 row (ap (λ (w : Request). row_of w) p.what) in
      by a.steps a.hand a.asked (may-put script is earlier call a.steps a.hand a.asked row p.id p.number p.cell p.what)
    where
      by : (steps : Steps Finish) (h : HasHand script earlier call.ask.host steps) (asked : next_errand steps ≡ Some (errand_of call)) → MayPut h.hand.task → ParityGood script (later) row p.cell
      by steps h asked (Writes object first from count writes) =
          parity-written script is earlier call along hold owned hands row below p.place p.id p.number p.cell p.what p.done steps h asked object first from count writes
      by steps h asked (Rebuilds bay mends) = parity-mended script is earlier call along hold row below p.place hands p.id p.number p.cell p.what p.done steps h asked bay mends
      by steps h asked (Recovers at recovers) = parity-recovered script is earlier call along hold row below p.place hands p.id p.number p.cell p.what p.done steps h asked at recovers

  -- each unit
  unit-good : (unit : ℕ) → unit + 1 < script.n → Good script (later) row unit
  unit-good unit inside = by (quiet-content script is earlier call along row below unit inside)
    where
      before : Good script earlier row unit
      before = good-of script earlier row (hold row below) unit inside

      kept : content_at script (later) row unit ≡ content_at script earlier row unit →
          CellTurn (cell_at script earlier row (bay_of script.n row unit)) (bay_of script.n row unit) row call (cell_at script (later) row (bay_of script.n row unit)) → Good script (later) row unit
      kept same (Same now) = record {
        holds = subst (λ (o : Option Cell). IsThis (cell_with unit (content_at script (later) row unit)) o) (sym now)
            (subst (λ (c : Content). IsThis (cell_with unit c) (cell_at script earlier row (bay_of script.n row unit))) (sym same) (before).holds);
        long = ap (λ (c : Content). length (cell_with unit c).bytes) same ∙ (before).long;
      }
      kept same (Bare now) = record {
        holds = subst (λ (o : Option Cell). IsThis (cell_with unit (content_at script (later) row unit)) o) (sym now) tt;
        long = ap (λ (c : Content). length (cell_with unit c).bytes) same ∙ (before).long;
      }
      kept same (Filled place id k cell what done now) = unit-put-good script is earlier call along hold hands row below unit inside id k cell place what done

      by : (content_at script (later) row unit ≡ content_at script earlier row unit) ⊎ (IsOwnCommit script earlier call row unit ⊎ (is_parity_put script.n row call ≡ true)) → Good script (later) row unit
      by (inl same) = kept same (cell-turned script is earlier call along.1 (bay_of script.n row unit) row below)
      by (inr (inl own)) = unit-put-good script is earlier call along hold hands row below unit inside own.id own.number own.cell own.place own.put own.done
      by (inr (inr puts)) = (parity-good (parity-put script.n row call puts)).units unit inside

  blocks-now : AreBlocks (cells_with script.n (content_at script (later) row))
  blocks-now = all-blocks script.n (content_at script (later) row) (λ unit inside. (unit-good unit inside).long)

  -- what the parity counts
  base-put : is_parity_put script.n row call ≡ true → cells_with script.n (base_at script (later) row) ≡ cells_with script.n (content_at script (later) row)
  base-put e =
      cells-same script.n (base_at script (later) row) (content_at script (later) row)
      (λ unit inside. ap (λ (b : Bool). if b then content_at script (later) row unit else base_at script earlier row unit) e)

  base-kept : is_parity_put script.n row call ≡ false → cells_with script.n (base_at script (later) row) ≡ cells_with script.n (base_at script earlier row)
  base-kept e =
      cells-same script.n (base_at script (later) row) (base_at script earlier row)
      (λ unit inside. ap (λ (b : Bool). if b then content_at script (later) row unit else base_at script earlier row unit) e)

  parity-holds : IsThis (parity_of (cells_with script.n (base_at script (later) row))) (cell_at script (later) row (P))
  parity-holds = by (is_parity_put script.n row call) refl
    where
      put : (e : is_parity_put script.n row call ≡ true) → (p : ParityPut script.n row call) → IsThis (parity_of (cells_with script.n (base_at script (later) row))) (cell_at script (later) row (P))
      put e p =
          let now : cell_at script (later) row (P) ≡ Some p.cell = put-filled script is earlier call along.1 (P) row below p.id p.number p.cell p.place p.what p.done in
          subst (λ (o : Option Cell). IsThis (parity_of (cells_with script.n (base_at script (later) row))) o) (sym now) ((parity-good p).sums ∙ ap parity_of (sym (base-put e)))

      turned : is_parity_put script.n row call ≡ false → CellTurn (cell_at script earlier row (P)) (P) row call (cell_at script (later) row (P)) →
          IsThis (parity_of (cells_with script.n (base_at script (later) row))) (cell_at script (later) row (P))
      turned e (Same now) =
          subst (λ (o : Option Cell). IsThis (parity_of (cells_with script.n (base_at script (later) row))) o) (sym now)
          (subst (λ (cs : List Cell). IsThis (parity_of cs) (cell_at script earlier row (P))) (sym (base-kept e)) (hold row below).parity)
      turned e (Bare now) = subst (λ (o : Option Cell). IsThis (parity_of (cells_with script.n (base_at script (later) row))) o) (sym now) tt
      turned e (Filled place id k cell what done now) = let bad : true ≡ false = sym (puts-parity script.n row call id k cell place what done) ∙ e in absurd (cc)

      by : (b : Bool) → is_parity_put script.n row call ≡ b → IsThis (parity_of (cells_with script.n (base_at script (later) row))) (cell_at script (later) row (P))
      by true e = put e (parity-put script.n row call e)
      by false e = turned e (cell-turned script is earlier call along.1 (P) row below)

  base-blocks : AreBlocks (cells_with script.n (base_at script (later) row))
  base-blocks = by (is_parity_put script.n row call) refl
    where
      by : (b : Bool) → is_parity_put script.n row call ≡ b → AreBlocks (cells_with script.n (base_at script (later) row))
      by true e = subst AreBlocks (sym (base-put e)) blocks-now
      by false e = subst AreBlocks (sym (base-kept e)) (hold row below).base_blocks

  row-holds : HoldsContents script (later) row
  row-holds = record { units = λ unit inside. (unit-good unit inside).holds; parity = parity-holds; blocks = blocks-now; base_blocks = base-blocks }

-- after each call
pub holds-next : (script : Script) → IsScript script → (earlier : List Call) (call : Call) → IsHistory script (call ∷ earlier) → AllHold script earlier → OwnedBlocks script earlier → AreHandsShown script earlier →
    AllHold script (call ∷ earlier)
holds-next script is earlier call along hold owned hands row below = row-holds script is earlier call along hold owned hands row below

pub owned-next : (script : Script) (earlier : List Call) (call : Call) → AllHold script (call ∷ earlier) → OwnedBlocks script earlier → OwnedBlocks script (call ∷ earlier)
owned-next script earlier call hold owned id row below = by (is_from id (slot_at script (call ∷ earlier) (parity_bay script.n row) row).note) refl
  where
    chosen : (b : Bool) → ℕ → Content
    chosen b unit = if b then base_at script (call ∷ earlier) row unit else owned_at script id earlier row unit

    same : (b : Bool) → is_from id (slot_at script (call ∷ earlier) (parity_bay script.n row) row).note ≡ b → cells_with script.n (owned_at script id (call ∷ earlier) row) ≡ cells_with script.n (chosen b)
    same b e = cells-same script.n (owned_at script id (call ∷ earlier) row) (chosen b) (λ unit inside. ap (λ (x : Bool). chosen x unit) e)

    by : (b : Bool) → is_from id (slot_at script (call ∷ earlier) (parity_bay script.n row) row).note ≡ b → AreBlocks (cells_with script.n (owned_at script id (call ∷ earlier) row))
    by true e = subst AreBlocks (sym (same true e)) (hold row below).base_blocks
    by false e = subst AreBlocks (sym (same false e)) (owned id row below)

-- At the start all is zeros
abbrev none_yet : ℕ → Content
none_yet unit = Bytes zeros

all-zeros : (first count : ℕ) → map (λ unit. cell_with unit (none_yet unit)) (range_with_len first count) ≡ replicate count zero_cell
all-zeros first zero = refl
all-zeros first (suc count) = ap (λ (cells : List Cell). zero_cell ∷ cells) (all-zeros (first + 1) count)

first-blocks : (n : ℕ) → AreBlocks (cells_with n none_yet)
first-blocks n = all-blocks n none_yet (λ unit inside. refl)

first-parity : (n : ℕ) → zero_cell ≡ parity_of (cells_with n none_yet)
first-parity n =
    sound-parity zero_cell (cells_with n none_yet) (refl, first-blocks n) (cells-data n none_yet)
    (subst (λ (cells : List Cell). IsSound zero_cell cells) (sym (all-zeros 0 (n - 1))) (zeros_sound (n - 1)))

pub holds-first : (script : Script) → IsScript script → AllHold script []
holds-first script is row below = record {
  units = λ unit inside. subst (λ (o : Option Cell). IsThis (cell_with unit (content_at script [] row unit)) o) (sym (starts (bay_of script.n row unit))) refl;
  parity = subst (λ (o : Option Cell). IsThis (parity_of (cells_with script.n (base_at script [] row))) o) (sym (starts (parity_bay script.n row))) (first-parity script.n);
  blocks = first-blocks script.n;
  base_blocks = first-blocks script.n;
}
  where
    starts : (at : BayNo) → cell_at script [] row at ≡ Some zero_cell
    starts at = ap (λ (s : Slot). s.cell) (starts-first script at row below)

pub owned-first : (script : Script) → OwnedBlocks script []
owned-first script id row below = first-blocks script.n

-- and no host has made a call
pub shown-first : (script : Script) → IsScript script → AreHandsShown script []
shown-first script is = record {
  mends = λ host steps h row below mends keeps. bare host (λ calls. AreShownIn script.n row (table script.n (content_at script []) (content_at script [])) calls) tt;
  recoveries = λ host steps h row below recovers noted. record {
    shown = bare host (λ calls. AreShownIn script.n row (table script.n (base_at script []) (content_at script [])) calls) tt;
    missing = λ unit inside happened. absurd (none _ host happened);
  };
  writes = λ host steps h row below writes. record {
    shown = λ owns. bare host (λ calls. AreShownIn script.n row (table script.n (owned_at script h.hand.id []) (owned_at script h.hand.id [])) calls) tt;
    held = λ came unit inside. record {
      put = λ cell happened. absurd (none _ host happened);
      missing = λ happened. absurd (none _ host happened);
      granted = λ grant happened. absurd (none _ host happened);
      lost = λ grant life cell happened unnoted other. absurd (none _ host happened);
    };
  };
}
  where
    bare : (host : HostNo) (Q : List Call → Type 0) → Q [] → Q (calls_at script [] host)
    bare host Q q = subst Q (sym (none-first script is host)) q

    none : (Q : Call → Type 0) (host : HostNo) → Happened Q (calls_at script [] host) → ⊥
    none Q host happened = subst (λ (calls : List Call). Happened Q calls) (none-first script is host) happened
