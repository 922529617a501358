-- Each read of a slot finds the cell that the contents below its number give.
use Rattle.std.proofs.Common.{◌≡◌, ◌⊎◌, inl, inr, refl, sym, ap, subst, ◌∙◌, ℕ, ◌+◌, ◌<◌, ◌≤◌, nat_lt, ◌&&◌, Bool, true, false, if◌then◌else◌, List, [], ◌∷◌, ◌++◌, Option, Some, None, IsSome, arith}
use Rattle.std.specs.List.{AllByRecursion}
use Rattle.std.proofs.lemmas.Bool.Decides.{nat_tests}
use Rattle.std.proofs.lemmas.Bool.{eq-eqb}
use Rattle.raid_base.specs.declared.numbers.BayNo.{BayNo}
use Rattle.raid_base.specs.declared.numbers.RowNo.{RowNo}
use Rattle.raid_base.specs.declared.numbers.Number.{Number}
use Rattle.raid_base.specs.declared.cells.Cell.{Cell}
use Rattle.raid_base.specs.declared.cells.Content.{Content}
use Rattle.raid_base.specs.declared.messages.Call.{Call}
use Rattle.raid_base.specs.declared.messages.Mode.{Mode}
use Rattle.raid_base.specs.declared.messages.Mode.TheVariants.{Lock, Order}
use Rattle.raid_base.specs.declared.messages.Note.{Note}
use Rattle.raid_base.specs.declared.messages.Reply.{Reply}
use Rattle.raid_base.specs.declared.messages.Request.{Request}
use Rattle.raid_base.specs.declared.messages.Request.TheVariants.{Share, Claim, Confirm, Put, Release, Lose, Fit}
use Rattle.raid_base.specs.Steps.{Commit}
use Rattle.stripe_layout.specs.Placement.{parity_bay, bay_of}
use Rattle.raid_xor.specs.Parities.{parity_of}
use Rattle.attempts.specs.Phases.{IsIn}
use Rattle.attempts.specs.Sound.{IsThis, cell_on}
use Rattle.script_text.specs.Script.{Script}
use Rattle.script_text.specs.Ranges.{IsScript}
use Rattle.histories.specs.Calls.{row_of, read_of, is_row, is_at}
use Rattle.histories.specs.History.{IsHistory}
use Rattle.histories.specs.RowStates.{slot_at, cell_at}
use Rattle.histories.specs.Accesses.{with_some, writes, reads, AllBelow}
use Rattle.row_laws.specs.Laws.{commits_of}
use Rattle.serial_laws.specs.Laws.{is_of, last_of, content_at}
use Rattle.row_laws.specs.Commits.{IsOwnPut, IsParityPut, IsGiven}
use Rattle.serial_laws.specs.Contents.{is_parity_put, base_at, cell_with, HoldsContents}
use Rattle.serial_laws.specs.Rising.{Taken, put_no, taken_by, taken_at}
use Rattle.serial_laws.specs.Seen.{newest_below, content_below, cells_below, counted_at, IsCounted, IsLate, ReadsSeeBelow}
use Rattle.serial_laws.proofs.contents.ContentCalls.{IsPlaced, placed}
use Rattle.serial_laws.proofs.contents.ContentFacts.{cells-same, table-unit, table-parity}
use Rattle.serial_laws.proofs.contents.ContentRows.{rows_hold_contents}
use Rattle.serial_laws.proofs.reads.Counted.{parities_count}
use Rattle.serial_laws.proofs.reads.Late.{contents_are_late}
use Rattle.row_laws.proofs.commits.OwnedCommits.{commits_are_of_owners}
use Rattle.row_laws.proofs.owners.OwnedPuts.{all-in}
use Rattle.row_laws.proofs.reads.ReadSlots.{ReadAt, read-at}
use Rattle.serial_laws.proofs.rising.Rising.{facts}
use Rattle.serial_laws.proofs.rising.RisingCommits.{TakesOne, taken-moved}
use Rattle.row_laws.proofs.numbers.Risen.{numbers_rise}
use Rattle.serial_laws.proofs.serial.Latest.{newest}

-- Lists of contents, the newest first
pub skips : (n : ℕ) (t : Taken) (ts : List Taken) → n < t.number.0 → newest_below n (t ∷ ts) ≡ newest_below n ts
skips n t ts less = by (nat_lt t.number.0 n) refl
  where
    by : (b : Bool) → nat_lt t.number.0 n ≡ b → (if b then t.content else newest_below n ts) ≡ newest_below n ts
    by true e = absurd (let more : t.number.0 < n = grind (arith, nat_tests) in omega (arith, less, more))
    by false e = refl

pub skips-all : (n : ℕ) (newer ts : List Taken) → AllByRecursion (λ (t : Taken). n < t.number.0) newer → newest_below n (newer ++ ts) ≡ newest_below n ts
skips-all n [] ts all = refl
skips-all n (t ∷ newer) ts all = skips n t (newer ++ ts) all.0 ∙ skips-all n newer ts all.1

pub all-counts : (n : ℕ) (ts : List Taken) → AllByRecursion (λ (t : Taken). t.number.0 < n) ts → newest_below n ts ≡ newest ts
all-counts n [] all = refl
all-counts n (t ∷ ts) all = by (nat_lt t.number.0 n) refl
  where
    low : t.number.0 < n
    low = all.0

    by : (b : Bool) → nat_lt t.number.0 n ≡ b → (if b then t.content else newest_below n ts) ≡ t.content
    by true e = refl
    by false e = absurd (let more : n ≤ t.number.0 = grind (arith, nat_tests) in omega (arith, low, more))

all-more : (P Q : Taken → Type 0) (ts : List Taken) → ((t : Taken) → P t → Q t) → AllByRecursion P ts → AllByRecursion Q ts
all-more P Q [] f all = tt
all-more P Q (t ∷ ts) f all = (f t all.0, all-more P Q ts f all.1)

newest-by : (row : RowNo) (unit : ℕ) (n : Number) (commits : List Commit) (ts : List Taken) → last_of row unit commits (newest ts) ≡ newest (taken_by row unit (Some n) commits ts)
newest-by row unit n [] ts = refl
newest-by row unit n (commit ∷ commits) ts = by (λ more. newest-by row unit n commits more) (is_of row unit commit)
  where
    by : ((more : List Taken) → last_of row unit commits (newest more) ≡ newest (taken_by row unit (Some n) commits more)) → (b : Bool) →
        last_of row unit commits (if b then commit.content else newest ts) ≡ newest (taken_by row unit (Some n) commits (if b then record { number = n; content = commit.content } ∷ ts else ts))
    by rest true = rest (record { number = n; content = commit.content } ∷ ts)
    by rest false = rest ts

module _ (script : Script) (is : IsScript script) where
  -- only puts commit
  unput-commits : (earlier : List Call) (call : Call) → IsHistory script (call ∷ earlier) → put_no call.ask.what ≡ None → commits_of script earlier call ≡ []
  unput-commits earlier call along none = by (commits_of script earlier call) (commits_are_of_owners script earlier call is along)
    where
      given : (commit : Commit) → IsOwnPut script earlier call commit ⊎ IsParityPut script call commit → ⊥
      given commit (inl o) = let bad : Some o.number ≡ None = sym (ap put_no o.put) ∙ none in cc
      given commit (inr (id, (place, k, cell, what))) = let bad : Some k ≡ None = sym (ap put_no what) ∙ none in cc

      by : (commits : List Commit) → AllByRecursion (IsGiven script earlier call) commits → commits ≡ []
      by [] all = refl
      by (commit ∷ commits) all = absurd (given commit all.0.whose)

  -- what a unit has is the newest that it has taken
  pub content-newest : (history : List Call) → IsHistory script history → (row : RowNo) (unit : ℕ) → content_at script history row unit ≡ newest (taken_at script history row unit)
  content-newest [] along row unit = refl
  content-newest (call ∷ earlier) along row unit =
      ap (λ (c : Content). last_of row unit Commits c) (content-newest earlier along.0 row unit) ∙ by (put_no call.ask.what) refl
    where
      Commits : List Commit
      Commits = commits_of script earlier call

      Before : List Taken
      Before = taken_at script earlier row unit

      by : (o : Option Number) → put_no call.ask.what ≡ o → last_of row unit Commits (newest Before) ≡ newest (taken_by row unit o Commits Before)
      by (Some n) e = newest-by row unit n Commits Before
      by None e = ap (λ (commits : List Commit). last_of row unit commits (newest Before)) (unput-commits earlier call along e)

  pub base-newest : (history : List Call) → IsHistory script history → (row : RowNo) (unit : ℕ) → base_at script history row unit ≡ newest (counted_at script history row unit)
  base-newest [] along row unit = refl
  base-newest (call ∷ earlier) along row unit = by (base-newest earlier along.0 row unit) (is_parity_put script.n row call)
    where
      by : base_at script earlier row unit ≡ newest (counted_at script earlier row unit) → (b : Bool) → (if b then content_at script (call ∷ earlier) row unit else base_at script earlier row unit) ≡ newest (if b then taken_at script (call ∷ earlier) row unit else counted_at script earlier row unit)
      by before true = content-newest (call ∷ earlier) along row unit
      by before false = before

-- a read puts nothing
read-unput : (mode : Mode) (what : Request) (reply : Reply) (n : Number) → read_of mode what reply ≡ Some n → put_no what ≡ None
read-unput mode (Share row id want) reply n e = refl
read-unput mode (Claim row id how mask want) reply n e = refl
read-unput mode (Confirm row id want) reply n e = refl
read-unput Order (Put row id k cell) reply n e = absurd (let bad : None ≡ Some n = e in cc)
read-unput Lock (Put row id k cell) reply n e = absurd (let bad : None ≡ Some n = e in cc)
read-unput mode (Release row id k) reply n e = refl
read-unput mode Lose reply n e = refl
read-unput mode Fit reply n e = refl

-- One read of a slot
module _ (script : Script) (is : IsScript script) (earlier : List Call) (call : Call) (along : IsHistory script (call ∷ earlier)) (row : RowNo) (below : row.0 < script.rows) (within : call.bay.0 < script.n)
    (of : row_of call.ask.what ≡ Some row) (n : Number) (read : read_of script.mode call.ask.what call.answer.reply ≡ Some n) where
  at : ReadAt script earlier call.bay row n
  at = read-at script is earlier call along row below of n read

  writes-below : AllBelow n (writes call.bay row earlier)
  writes-below = (numbers_rise script [] earlier call row n is along of).1 read

  holds : HoldsContents script earlier row
  holds = rows_hold_contents script earlier is along.0 row below

  -- a parity counts what is below the number
  counts-below : call.bay ≡ parity_bay script.n row → (unit : ℕ) → unit + 1 < script.n → content_below script earlier n row unit ≡ base_at script earlier row unit
  counts-below place unit inside =
      ap (λ (ts : List Taken). newest_below n.0 ts) c.split
      ∙ newer c.noted
      ∙ all-counts n.0 (counted_at script earlier row unit) (c.counted n (subst (λ (b : BayNo). AllBelow n (writes b row earlier)) place writes-below))
      ∙ sym (base-newest script is earlier along.0 row unit)
    where
      there : ReadAt script earlier (parity_bay script.n row) row n
      there = subst (λ (b : BayNo). ReadAt script earlier b row n) place at

      c : IsCounted script earlier row unit
      c = parities_count script earlier is along.0 row unit below inside there.cell

      newer : (c.newer ≡ []) ⊎ ((note : Note) × ((slot_at script earlier (parity_bay script.n row) row).note ≡ Some note) × AllByRecursion (λ (t : Taken). note.origin.0 ≤ t.number.0) c.newer) →
          newest_below n.0 (c.newer ++ counted_at script earlier row unit) ≡ newest_below n.0 (counted_at script earlier row unit)
      newer (inl none) = ap (λ (ts : List Taken). newest_below n.0 (ts ++ counted_at script earlier row unit)) none
      newer (inr (note, noted, all)) =
          let low : n.0 < note.origin.0 = (there.noted note noted).1 in
          skips-all n.0 c.newer (counted_at script earlier row unit)
          (all-more (λ (t : Taken). note.origin.0 ≤ t.number.0) (λ (t : Taken). n.0 < t.number.0) c.newer (λ t high. omega (arith, low, high)) all)

  -- and so is all that a unit has taken
  unit-below : (unit : ℕ) → unit + 1 < script.n → call.bay ≡ bay_of script.n row unit → content_below script earlier n row unit ≡ content_at script earlier row unit
  unit-below unit inside place =
      all-counts n.0 (taken_at script earlier row unit)
      ((facts script is row below unit inside earlier along.0).celled
      (λ none. celled (cell_at script earlier row call.bay) refl at.cell (ap (λ (b : BayNo). cell_at script earlier row b) place ∙ none))
      n (subst (λ (b : BayNo). AllBelow n (writes b row earlier)) place writes-below))
      ∙ sym (content-newest script is earlier along.0 row unit)
    where
      celled : (o : Option Cell) → cell_at script earlier row call.bay ≡ o → IsSome o → cell_at script earlier row call.bay ≡ None → ⊥
      celled (Some cell) e some none = let bad : Some cell ≡ None = sym e ∙ none in cc
      celled None e some none = absurd (let bad : false ≡ true = some in cc)

  seen-now : IsThis (cell_on script.n (cells_below script earlier n) call.bay row) (cell_at script earlier row call.bay)
  seen-now = by (placed script is row call.bay within)
    where
      by : IsPlaced script.n row call.bay → IsThis (cell_on script.n (cells_below script earlier n) call.bay row) (cell_at script earlier row call.bay)
      by (inl place) =
          subst (λ (b : BayNo). IsThis (cell_on script.n (cells_below script earlier n) b row) (cell_at script earlier row b)) (sym place)
          (subst (λ (c : Cell). IsThis c (cell_at script earlier row (parity_bay script.n row)))
          (ap parity_of (cells-same script.n (base_at script earlier row) (content_below script earlier n row) (λ unit inside. sym (counts-below place unit inside)))
          ∙ sym (table-parity script.n is.devices_least (content_below script earlier n) (content_below script earlier n) row)) (holds).parity)
      by (inr (unit, inside, place)) =
          subst (λ (b : BayNo). IsThis (cell_on script.n (cells_below script earlier n) b row) (cell_at script earlier row b)) (sym place)
          (subst (λ (c : Cell). IsThis c (cell_at script earlier row (bay_of script.n row unit)))
          (ap (λ (c : Content). cell_with unit c) (sym (unit-below unit inside place))
          ∙ sym (table-unit script.n is.devices_least (content_below script earlier n) (content_below script earlier n) row unit inside)) ((holds).units unit inside))

  -- The read is among those of its slot
  among-now : IsIn n (reads script call.bay row (call ∷ earlier))
  among-now =
      subst (λ (b : Bool). IsIn n (if b then with_some (read_of script.mode call.ask.what call.answer.reply) (reads script call.bay row earlier) else reads script call.bay row earlier)) (sym here)
      (subst (λ (o : Option Number). IsIn n (with_some o (reads script call.bay row earlier))) (sym read) (inl refl))
    where
      here : is_at call.bay row call ≡ true
      here =
          subst (λ (b : Bool). (b && is_row row (row_of call.ask.what)) ≡ true) (sym (eq-eqb call.bay.0 call.bay.0 refl))
          (ap (λ (o : Option RowNo). is_row row o) of ∙ eq-eqb row.0 row.0 refl)

  pub record Sees (history : List Call) : Type 0 where
    pub among : IsIn n (reads script call.bay row history)
    pub seen : IsThis (cell_on script.n (cells_below script history n) call.bay row) (cell_at script earlier row call.bay)

  -- a table of equal contents shows the same cell
  same-cell : (old new : List Call) → (call.bay ≡ parity_bay script.n row → (unit : ℕ) → unit + 1 < script.n → content_below script new n row unit ≡ content_below script old n row unit) →
      ((unit : ℕ) → unit + 1 < script.n → call.bay ≡ bay_of script.n row unit → content_below script new n row unit ≡ content_below script old n row unit) →
      IsThis (cell_on script.n (cells_below script old n) call.bay row) (cell_at script earlier row call.bay) → IsThis (cell_on script.n (cells_below script new n) call.bay row) (cell_at script earlier row call.bay)
  same-cell old new parity unit_same s = subst (λ (c : Cell). IsThis c (cell_at script earlier row call.bay)) (by (placed script is row call.bay within)) s
    where
      by : IsPlaced script.n row call.bay → cell_on script.n (cells_below script old n) call.bay row ≡ cell_on script.n (cells_below script new n) call.bay row
      by (inl place) =
          subst (λ (b : BayNo). cell_on script.n (cells_below script old n) b row ≡ cell_on script.n (cells_below script new n) b row) (sym place)
          (table-parity script.n is.devices_least (content_below script old n) (content_below script old n) row
          ∙ ap parity_of (cells-same script.n (content_below script old n row) (content_below script new n row) (λ unit inside. sym (parity place unit inside)))
          ∙ sym (table-parity script.n is.devices_least (content_below script new n) (content_below script new n) row))
      by (inr (unit, inside, place)) =
          subst (λ (b : BayNo). cell_on script.n (cells_below script old n) b row ≡ cell_on script.n (cells_below script new n) b row) (sym place)
          (table-unit script.n is.devices_least (content_below script old n) (content_below script old n) row unit inside
          ∙ ap (λ (c : Content). cell_with unit c) (sym (unit_same unit inside place))
          ∙ sym (table-unit script.n is.devices_least (content_below script new n) (content_below script new n) row unit inside))

  sees-first : Sees (call ∷ earlier)
  sees-first = record { among = among-now; seen = same-cell earlier (call ∷ earlier) (λ place unit inside. quiet unit) (λ unit inside place. quiet unit) seen-now }
    where
      quiet : (unit : ℕ) → content_below script (call ∷ earlier) n row unit ≡ content_below script earlier n row unit
      quiet unit =
          ap (λ (o : Option Number). newest_below n.0 (taken_by row unit o (commits_of script earlier call) (taken_at script earlier row unit)))
          (read-unput script.mode call.ask.what call.answer.reply n read)

  -- and later calls change nothing
  sees-later : (history : List Call) (next : Call) → IsHistory script (next ∷ history) → Sees history → Sees (next ∷ history)
  sees-later history next goes s = record {
    among = more (is_at call.bay row next) (read_of script.mode next.ask.what next.answer.reply);
    seen = same-cell history (next ∷ history)
        (λ place unit inside. kept unit inside (λ k late. subst (λ (b : BayNo). AllBelow k (reads script b row history)) (sym place) late.parity_reads))
        (λ unit inside place. kept unit inside (λ k late. subst (λ (b : BayNo). AllBelow k (reads script b row history)) (sym place) late.unit_reads)) s.seen;
  }
    where
      more : (b : Bool) (o : Option Number) → IsIn n (if b then with_some o (reads script call.bay row history) else reads script call.bay row history)
      more true (Some k) = inr s.among
      more true None = s.among
      more false o = s.among

      kept : (unit : ℕ) → unit + 1 < script.n → ((k : Number) → IsLate script history row unit k → AllBelow k (reads script call.bay row history)) →
          content_below script (next ∷ history) n row unit ≡ content_below script history n row unit
      kept unit inside under = by (taken-moved script is history next goes row unit)
        where
          by : (taken_at script (next ∷ history) row unit ≡ taken_at script history row unit) ⊎ TakesOne script history next row unit →
              content_below script (next ∷ history) n row unit ≡ content_below script history n row unit
          by (inl same) = ap (λ (ts : List Taken). newest_below n.0 ts) same
          by (inr t) =
              let taken : Taken = record { number = t.number; content = t.commit.content } in
              let late = contents_are_late script history next is goes row unit below inside taken t.now in
              let low : n.0 < t.number.0 = all-in (λ (x : Number). x.0 < t.number.0) n (reads script call.bay row history) (under t.number late) s.among in
              ap (λ (ts : List Taken). newest_below n.0 ts) t.now ∙ skips n.0 taken (taken_at script history row unit) low

  pub sees : (later : List Call) → IsHistory script (later ++ call ∷ earlier) → Sees (later ++ call ∷ earlier)
  sees [] goes = sees-first
  sees (next ∷ later) goes = sees-later (later ++ call ∷ earlier) next goes (sees later goes.0)

pub reads_see_below : ReadsSeeBelow
reads_see_below script later earlier call row n is along below within of read =
    (sees script is earlier call (before later along) row below within of n read later along).seen
  where
    before : (later : List Call) → IsHistory script (later ++ call ∷ earlier) → IsHistory script (call ∷ earlier)
    before [] goes = goes
    before (next ∷ later) goes = before later goes.0
