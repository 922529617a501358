-- Each content that a unit has taken is a block or lost, and so the cells of the contents below a number make sound rows.
use Rattle.std.proofs.Common.{◌≡◌, ◌⊎◌, inl, inr, refl, sym, ap, subst, ◌∙◌, ℕ, zero, suc, ◌+◌, ◌-◌, ◌<◌, ◌≤◌, ◌==◌, nat_lt, if◌then◌else◌, Bool, true, false, List, [], ◌∷◌, map, length, arith}
use Rattle.std.specs.List.{AllByRecursion, range_with_len}
use Rattle.std.proofs.lemmas.Bool.{eq-eqb, and_from}
use Rattle.raid_base.specs.declared.numbers.RowNo.{RowNo}
use Rattle.raid_base.specs.declared.numbers.Number.{Number}
use Rattle.raid_base.specs.declared.cells.Cell.{Cell}
use Rattle.raid_base.specs.declared.cells.Content.{Content}
use Rattle.raid_base.specs.declared.cells.Content.TheVariants.{Bytes, Lost}
use Rattle.raid_base.specs.declared.messages.Call.{Call}
use Rattle.raid_base.specs.declared.messages.Request.{Request}
use Rattle.raid_base.specs.Steps.{Commit}
use Rattle.raid_xor.specs.Laws.{AreBlocks}
use Rattle.stripe_layout.specs.Placement.{units}
use Rattle.attempts.specs.Phases.{IsIn}
use Rattle.attempts.specs.Sound.{IsSoundRow}
use Rattle.attempts.proofs.SoundLemmas.{units-all}
use Rattle.script_text.specs.Script.{Script}
use Rattle.script_text.specs.Ranges.{IsScript}
use Rattle.histories.specs.Calls.{row_of}
use Rattle.histories.specs.History.{IsHistory}
use Rattle.row_laws.specs.Laws.{commits_of}
use Rattle.serial_laws.specs.Laws.{is_of, last_of, content_at}
use Rattle.serial_laws.specs.Contents.{cell_with, cells_with, HoldsContents}
use Rattle.serial_laws.specs.Rising.{Taken, taken_at}
use Rattle.serial_laws.specs.Seen.{newest_below, content_below, cells_below}
use Rattle.serial_laws.proofs.contents.ContentFacts.{table-sound}
use Rattle.serial_laws.proofs.contents.ContentRows.{rows_hold_contents}
use Rattle.row_laws.proofs.owners.RowOwnersHands.{Asker, asker}
use Rattle.serial_laws.proofs.rising.RisingTrees.{times}
use Rattle.serial_laws.proofs.rising.RisingCommits.{commits-once, TakesOne, taken-moved}

-- a block of 64 bytes, or lost
abbrev pub IsBlockOrLost : Content → Type 0
IsBlockOrLost (Bytes bytes) = length bytes ≡ 64
IsBlockOrLost Lost = Unit {0}

cell-long : (unit : ℕ) (c : Content) → IsBlockOrLost c → length (cell_with unit c).bytes ≡ 64
cell-long unit (Bytes bytes) h = h
cell-long unit Lost h = refl

content-block : (unit : ℕ) (c : Content) → length (cell_with unit c).bytes ≡ 64 → IsBlockOrLost c
content-block unit (Bytes bytes) h = h
content-block unit Lost h = tt

long-at : (f : ℕ → Cell) (first count k : ℕ) → k < count → AreBlocks (map f (range_with_len first count)) → length (f (first + k)).bytes ≡ 64
long-at f first zero k below h = absurd (omega (arith, below))
long-at f first (suc count) zero below h = let same : first ≡ first + 0 = omega arith in subst (λ (u : ℕ). length (f u).bytes ≡ 64) same h.0
long-at f first (suc count) (suc k) below h =
    let same : first + 1 + k ≡ first + suc k = omega arith in
    subst (λ (u : ℕ). length (f u).bytes ≡ 64) same (long-at f (first + 1) count k (omega (arith, below)) h.1)

long-cells : (n : ℕ) (x : ℕ → Content) → ((unit : ℕ) → unit + 1 < n → IsBlockOrLost (x unit)) → AreBlocks (cells_with n x)
long-cells n x h = over (units n) (units-all n)
  where
    over : (us : List ℕ) → AllByRecursion (λ unit. unit < n - 1) us → AreBlocks (map (λ unit. cell_with unit (x unit)) us)
    over [] all = tt
    over (u ∷ us) all = (cell-long u (x u) (h u (let below = all.0 in omega (arith, below))), over us all.1)

-- The last of some commits on a unit, where at most one is of it
module _ (row : RowNo) (unit : ℕ) where
  none-last : (commits : List Commit) (content : Content) → times row unit commits ≤ 0 → last_of row unit commits content ≡ content
  none-last [] content few = refl
  none-last (c ∷ commits) content few = by (is_of row unit c) few (none-last commits content)
    where
      by : (b : Bool) → (if b then 1 else 0) + times row unit commits ≤ 0 → (times row unit commits ≤ 0 → last_of row unit commits content ≡ content) →
          last_of row unit commits (if b then c.content else content) ≡ content
      by true most rest = absurd (omega (arith, most))
      by false most rest = rest (omega (arith, most))

  once-last : (commits : List Commit) (commit : Commit) (content : Content) → times row unit commits ≤ 1 → IsIn commit commits → is_of row unit commit ≡ true → last_of row unit commits content ≡ commit.content
  once-last [] commit content few i of = absurd i
  once-last (c ∷ commits) commit content few (inl same) of = by (is_of row unit c) (ap (λ (x : Commit). is_of row unit x) same ∙ of) few
    where
      by : (b : Bool) → b ≡ true → (if b then 1 else 0) + times row unit commits ≤ 1 → last_of row unit commits (if b then c.content else content) ≡ commit.content
      by true e most = none-last commits c.content (omega (arith, most)) ∙ ap (λ (x : Commit). x.content) same
      by false e most = absurd (cc)
  once-last (c ∷ commits) commit content few (inr i) of = once-last commits commit (if is_of row unit c then c.content else content) (less (is_of row unit c) few) i of
    where
      less : (b : Bool) → (if b then 1 else 0) + times row unit commits ≤ 1 → times row unit commits ≤ 1
      less true most = omega (arith, most)
      less false most = omega (arith, most)

newest-long : (n : ℕ) (ts : List Taken) → AllByRecursion (λ (t : Taken). IsBlockOrLost t.content) ts → IsBlockOrLost (newest_below n ts)
newest-long n [] all = refl
newest-long n (t ∷ ts) all = by (nat_lt t.number.0 n) (newest-long n ts all.1)
  where
    by : (b : Bool) → IsBlockOrLost (newest_below n ts) → IsBlockOrLost (if b then t.content else newest_below n ts)
    by true rest = all.0
    by false rest = rest

module _ (script : Script) (is : IsScript script) (row : RowNo) (below : row.0 < script.rows) where
  module _ (unit : ℕ) (inside : unit + 1 < script.n) where
    content-long : (history : List Call) → IsHistory script history → IsBlockOrLost (content_at script history row unit)
    content-long history along =
        let holds : HoldsContents script history row = rows_hold_contents script history is along row below in
        let same : 0 + unit ≡ unit = omega arith in
        content-block unit (content_at script history row unit)
        (subst (λ (u : ℕ). length (cell_with u (content_at script history row u)).bytes ≡ 64) same
        (long-at (λ u. cell_with u (content_at script history row u)) 0 (script.n - 1) unit (omega (arith, inside)) holds.blocks))

    abbrev AreLong : List Taken → Type 0
    AreLong ts = AllByRecursion (λ (t : Taken). IsBlockOrLost t.content) ts

    pub taken-long : (history : List Call) → IsHistory script history → AreLong (taken_at script history row unit)
    taken-long [] along = tt
    taken-long (call ∷ earlier) along = by (taken-moved script is earlier call along row unit) (taken-long earlier along.0)
      where
        block : (t : TakesOne script earlier call row unit) → IsBlockOrLost t.commit.content
        block t =
            let a : Asker script is earlier call = asker script is earlier call along.0 along.1 row (ap (λ (w : Request). row_of w) t.what) in
            let few : times row unit (commits_of script earlier call) ≤ 1 = commits-once script is earlier call a.steps a.hand a.asked row t.id t.number t.cell t.what row unit in
            let of : is_of row unit t.commit ≡ true =
            and_from (t.commit.row.0 == row.0) (t.commit.unit == unit) (eq-eqb t.commit.row.0 row.0 (ap (λ (r : RowNo). r.0) t.of_row)) (eq-eqb t.commit.unit unit t.of_unit) in
            let now : content_at script (call ∷ earlier) row unit ≡ t.commit.content =
            once-last row unit (commits_of script earlier call) t.commit (content_at script earlier row unit) few t.among of in
            subst IsBlockOrLost now (content-long (call ∷ earlier) along)

        by : (taken_at script (call ∷ earlier) row unit ≡ taken_at script earlier row unit) ⊎ TakesOne script earlier call row unit → AreLong (taken_at script earlier row unit) →
            AreLong (taken_at script (call ∷ earlier) row unit)
        by (inl same) before = subst (λ (ts : List Taken). AreLong ts) (sym same) before
        by (inr t) before = subst (λ (ts : List Taken). AreLong ts) (sym t.now) (block t, before)

  -- the row is sound
  pub below-sound : (history : List Call) → IsHistory script history → (n : Number) → IsSoundRow script.n (cells_below script history n) row
  below-sound history along n =
      table-sound script.n (content_below script history n) row
      (long-cells script.n (content_below script history n row)
      (λ unit inside. newest-long n.0 (taken_at script history row unit) (taken-long unit inside history along)))
