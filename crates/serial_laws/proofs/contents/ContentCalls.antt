-- What the calls of an attempt were shown of a row: each shows the cell that its slot had, and it is of any table where it shows
-- no cell or where the table has stayed at its slot.
use Rattle.std.proofs.Common.{◌≡◌, ◌⊎◌, inl, inr, refl, sym, ap, subst, ◌∙◌, ℕ, ◌+◌, ◌<◌, ◌≤◌, ◌&&◌, Bool, true, false, if◌then◌else◌, List, [], ◌∷◌, Option, Some, None, IsSome, is_some, arith}
use Rattle.std.proofs.lemmas.Bool.{eq-eqb}
use Rattle.raid_base.specs.declared.numbers.BayNo.{BayNo}
use Rattle.raid_base.specs.declared.numbers.HostNo.{HostNo}
use Rattle.raid_base.specs.declared.numbers.RowNo.{RowNo}
use Rattle.raid_base.specs.declared.numbers.Number.{Number}
use Rattle.raid_base.specs.declared.cells.Cell.{Cell}
use Rattle.raid_base.specs.declared.cells.Content.{Content}
use Rattle.raid_base.specs.declared.messages.Ask.{Ask}
use Rattle.raid_base.specs.declared.messages.How.{How}
use Rattle.raid_base.specs.declared.messages.Grant.{Grant}
use Rattle.raid_base.specs.declared.messages.Reply.{Reply}
use Rattle.raid_base.specs.declared.messages.Reply.TheVariants.{Granted, Busy, Late, Young, Missing, Held, NoNote, Done, Fault, Emptied, Fitted}
use Rattle.raid_base.specs.declared.messages.Request.{Request}
use Rattle.raid_base.specs.declared.messages.Request.TheVariants.{Share, Claim, Confirm, Put, Release, Lose, Fit}
use Rattle.raid_base.specs.declared.messages.Call.{Call}
use Rattle.raid_base.specs.Replies.{grant_of, held_of}
use Rattle.raid_base.specs.Steps.{Steps, next_errand, errand_of}
use Rattle.stripe_layout.specs.Placement.{parity_bay, bay_of}
use Rattle.stripe_layout.specs.Layout.{HoldsUnit}
use Rattle.stripe_layout.proofs.LayoutLemmas.{covered, unit_apart}
use Rattle.raid_xor.specs.Parities.{parity_of}
use Rattle.slot_rules.specs.Slots.{Slot, Bay}
use Rattle.slot_rules.specs.Rules.{wanted_cell, granted}
use Rattle.slot_rules.specs.Laws.{is_refused}
use Rattle.attempts.specs.Taking.{Finish}
use Rattle.attempts.specs.Phases.{Past, IsIn, MayAsk, after_asking}
use Rattle.attempts.specs.Sound.{Cells, cell_on, IsThis, GrantShows, HeldShows, ReplyShows}
use Rattle.script_text.specs.Script.{Script}
use Rattle.script_text.specs.Ranges.{IsScript}
use Rattle.histories.specs.Calls.{Happened, row_of, id_of, write_of, is_row, is_at, IsClaim, IsDone}
use Rattle.histories.specs.Torn.{IsMissing}
use Rattle.histories.specs.Hands.{InHand, Phased, past_of}
use Rattle.histories.specs.Progress.{Progress}
use Rattle.histories.specs.History.{progress_at, bay_at, IsNext, IsHistory}
use Rattle.histories.proofs.bounds.BoundsTakes.{asks-within}
use Rattle.histories.proofs.bounds.BoundsHistory.{requests_are_bounded}
use Rattle.histories.proofs.smallness.SmallHistory.{are-asked}
use Rattle.histories.proofs.hands.PhasedHands.{phased}
use Rattle.histories.specs.RowStates.{slot_at, cell_at}
use Rattle.serial_laws.specs.Laws.{content_at}
use Rattle.row_laws.specs.Hands.{HasHand, calls_at, IsPutter}
use Rattle.row_laws.specs.Holding.{HasNote}
use Rattle.serial_laws.specs.Contents.{is_parity_put, base_at, cell_with, cells_with, HoldsContents}
use Rattle.row_laws.proofs.hands.HandMoves.{may-next, id-is-own}
use Rattle.row_laws.proofs.hands.HandClaims.{IsTake, Before, before-last, next-new}
use Rattle.row_laws.proofs.hands.SlotMoves.{SlotMove, Kept, Touched, Lost, moved}
use Rattle.row_laws.proofs.hands.SlotMoves as moves
use Rattle.row_laws.proofs.hands.SlotDoes.{IsGone, Does, Refuses, Closes, Grants, Shows, Holds, Puts, Frees, Leaves}
use Rattle.row_laws.proofs.owners.RowOwnersSlots.{does-at, empty-bare}
use Rattle.row_laws.proofs.owners.RowOwnersHands.{Asker, asker}
use Rattle.row_laws.proofs.owners.OwnedPuts as owned
use Rattle.row_laws.proofs.covered.CoveredPutsHands.{in-happened}
use Rattle.row_laws.proofs.covered.CoveredPutsSlots.{Turn, Same, Bare, Taken, Marked, Freed, turned}
use Rattle.serial_laws.proofs.contents.ContentStates.{table, IsShownOf, AreShownIn}
use Rattle.serial_laws.proofs.contents.ContentFacts.{table-unit, table-parity, cells-same}
use Rattle.serial_laws.proofs.reads.ShownTrees.{ClaimsParityFirst}
use Rattle.histories.proofs.accesses.AccessCovers.{done-put}

-- Replies that refuse show no cell
refused-none : (r : Reply) → is_refused r ≡ true → (grant_of r ≡ None) × (held_of r ≡ None)
refused-none (Granted cell read_no write_no last life seized) e = absurd (cc)
refused-none (Busy holder) e = (refl, refl)
refused-none (Late above) e = (refl, refl)
refused-none (Young note) e = (refl, refl)
refused-none (Missing floor) e = (refl, refl)
refused-none (Held cell) e = absurd (cc)
refused-none (NoNote life) e = (refl, refl)
refused-none Done e = absurd (cc)
refused-none Fault e = (refl, refl)
refused-none Emptied e = absurd (cc)
refused-none Fitted e = absurd (cc)

none-shown : (n : ℕ) (cells : Cells) (at : BayNo) (what : Request) (reply : Reply) → grant_of reply ≡ None → held_of reply ≡ None → ReplyShows n cells at what reply
none-shown n cells at (Share row id want) reply none held = subst (λ (o : Option Grant). GrantShows (cell_on n cells at row) o) (sym none) tt
none-shown n cells at (Claim row id how mask want) reply none held = subst (λ (o : Option Grant). GrantShows (cell_on n cells at row) o) (sym none) tt
none-shown n cells at (Confirm row id want) reply none held = subst (λ (o : Option (Option Cell)). HeldShows (cell_on n cells at row) o) (sym held) tt
none-shown n cells at (Put row id k cell) reply none held = tt
none-shown n cells at (Release row id k) reply none held = tt
none-shown n cells at Lose reply none held = tt
none-shown n cells at Fit reply none held = tt

-- what is shown of a slot is its cell
wanted-this : (cell : Cell) (want : Bool) (slot : Slot) → IsThis cell slot.cell → IsThis cell (wanted_cell want slot)
wanted-this cell true slot h = h
wanted-this cell false slot h = tt

module _ (bay : Bay) (ask : Ask) (slot : Slot) (n : ℕ) (cells : Cells) (at : BayNo) where
  does-show : (what : Request) (reply : Reply) (left : Slot) → Does bay ask slot what reply left → ((row : RowNo) → row_of what ≡ Some row → IsThis (cell_on n cells at row) slot.cell) → ReplyShows n cells at what reply
  does-show what reply left (Refuses r refused missing) h = let none = refused-none reply refused in none-shown n cells at what reply none.0 none.1
  does-show what reply left (Closes there blank) h = tt
  does-show what reply left (Grants {row} {id} {how} {mask} {want} claims) h =
      subst (λ (r : Reply). GrantShows (cell_on n cells at row) (grant_of r)) (sym claims.reply) (wanted-this (cell_on n cells at row) want slot (h row refl))
  does-show what reply left (Shows {row} {id} {want} shares) h =
      subst (λ (r : Reply). GrantShows (cell_on n cells at row) (grant_of r)) (sym shares.reply) (wanted-this (cell_on n cells at row) want slot (h row refl))
  does-show what reply left (Holds {row} {id} {want} own) h = wanted-this (cell_on n cells at row) want slot (h row refl)
  does-show what reply left (Puts own) h = tt
  does-show what reply left (Frees own) h = tt
  does-show what reply left (Leaves free reader found) h = tt

-- a reply that the slot is missing
does-miss : (bay : Bay) (ask : Ask) (slot : Slot) (floor : Number) (what : Request) (reply : Reply) (left : Slot) → Does bay ask slot what reply left → reply ≡ Missing floor → IsGone bay slot
does-miss bay ask slot floor what reply left (Refuses r refused missing) e = missing floor e
does-miss bay ask slot floor what reply left (Closes there blank) e = inr blank
does-miss bay ask slot floor what reply left (Grants {want} claims) e = absurd (let bad : granted bay slot want slot.note ≡ Missing floor = sym claims.reply ∙ e in cc)
does-miss bay ask slot floor what reply left (Shows {want} shares) e = absurd (let bad : granted bay slot want None ≡ Missing floor = sym shares.reply ∙ e in cc)
does-miss bay ask slot floor what reply left (Holds own) e = absurd (cc)
does-miss bay ask slot floor what reply left (Puts own) e = absurd (cc)
does-miss bay ask slot floor what reply left (Frees own) e = absurd (cc)
does-miss bay ask slot floor what reply left (Leaves free reader found) e = absurd (cc)

-- A put that is done leaves no note
put-frees : (bay : Bay) (ask : Ask) (slot : Slot) (what : Request) (reply : Reply) (left : Slot) → Does bay ask slot what reply left → is_some (write_of what reply) ≡ true → left.note ≡ None
put-frees bay ask slot what reply left (Refuses r refused missing) put = absurd (let bad : false ≡ true = ap is_refused (sym (done-put what reply put).5) ∙ refused in cc)
put-frees bay ask slot what reply left (Closes there blank) put = refl
put-frees bay ask slot what reply left (Grants claims) put = absurd (cc)
put-frees bay ask slot what reply left (Shows shares) put = absurd (cc)
put-frees bay ask slot what reply left (Holds own) put = absurd (cc)
put-frees bay ask slot what reply left (Puts own) put = refl
put-frees bay ask slot what reply left (Frees own) put = refl
put-frees bay ask slot what reply left (Leaves free reader found) put = absurd (cc)

first-true : (x y : Bool) → (x && y) ≡ true → x ≡ true
first-true true y e = refl
first-true false y e = e

second-true : (x y : Bool) → (x && y) ≡ true → y ≡ true
second-true true y e = e
second-true false true e = refl
second-true false false e = e

-- Where a request of a row is asked
abbrev pub IsPlaced : ℕ → RowNo → BayNo → Type 0
IsPlaced n row bay = (bay ≡ parity_bay n row) ⊎ ((unit : ℕ) × (unit + 1 < n) × (bay ≡ bay_of n row unit))

module _ (script : Script) (is : IsScript script) where
  pub placed : (row : RowNo) (bay : BayNo) → bay.0 < script.n → IsPlaced script.n row bay
  placed row bay within = by (covered script.n row bay is.devices_least within)
    where
      by : (bay ≡ parity_bay script.n row) ⊎ ((unit : ℕ) × HoldsUnit script.n row bay unit) → IsPlaced script.n row bay
      by (inl same) = inl same
      by (inr (unit, holds)) = inr (unit, (let inside = holds.unit_in in omega (arith, inside)), sym holds.stands)

  pub unit-aside : (row : RowNo) (unit : ℕ) → unit + 1 < script.n → bay_of script.n row unit ≡ parity_bay script.n row → ⊥
  unit-aside row unit inside same = let least = is.devices_least in absurd (unit_apart script.n row unit least (omega (arith, inside)) same)

  -- each call is asked of a bay of the array
  pub call-within : (earlier : List Call) (call : Call) → IsHistory script (call ∷ earlier) → call.bay.0 < script.n
  call-within earlier call along =
      (asks-within script call.ask.host (progress_at script call.ask.host earlier) _ _ call.ask.moment (record { bay = call.bay; ask = call.ask })
      ((requests_are_bounded script earlier (record { ranges = is }) (are-asked script is earlier along.0)).keeps call.ask.host) along.1.asked).bay

  pub all-within : (history : List Call) → IsHistory script history → (c : Call) → IsIn c history → c.bay.0 < script.n
  all-within [] along c i = absurd i
  all-within (call ∷ earlier) along c (inl same) = subst (λ (x : Call). x.bay.0 < script.n) same (call-within earlier call along)
  all-within (call ∷ earlier) along c (inr i) = all-within earlier along.0 c i

  -- A call shows the cell that its slot had
  module _ (earlier : List Call) (call : Call) (next : IsNext script earlier call) (row : RowNo) (below : row.0 < script.rows) where
    touches : (at : BayNo) → call.bay ≡ at → row_of call.ask.what ≡ Some row → is_at at row call ≡ true
    touches at place of =
        subst (λ (b : Bool). (b && is_row row (row_of call.ask.what)) ≡ true) (sym (eq-eqb call.bay.0 at.0 (ap (λ (x : BayNo). x.0) place)))
        (ap (λ (o : Option RowNo). is_row row o) of ∙ eq-eqb row.0 row.0 refl)

    pub call-shown : (cells : Cells) → row_of call.ask.what ≡ Some row → IsThis (cell_on script.n cells call.bay row) (slot_at script earlier call.bay row).cell → IsShownOf script.n cells call
    call-shown cells of h = by (moved script is earlier call next call.bay row below)
      where
        other : (x : Request) → call.ask.what ≡ x → row_of x ≡ None → ⊥
        other x e none = let bad : Some row ≡ None = sym of ∙ ap (λ (w : Request). row_of w) e ∙ none in cc

        by : SlotMove (bay_at script call.bay earlier) call.bay row call (bay_at script call.bay (call ∷ earlier)) → IsShownOf script.n cells call
        by (Kept slot empty life apart) = absurd (let bad : true ≡ false = sym (touches call.bay refl of) ∙ apart in cc)
        by (Lost at lost was slot empty life) = absurd (other Lose lost refl)
        by (moves.Fitted at fitted was slot empty life) = absurd (other Fit fitted refl)
        by (Touched at of_row reply slot empty life) =
            does-show (bay_at script call.bay earlier) call.ask (slot_at script earlier call.bay row) script.n cells call.bay call.ask.what call.answer.reply (slot_at script (call ∷ earlier) call.bay row)
            (does-at script is earlier call next call.bay row below of reply slot)
            (λ r same. let both : Some row ≡ Some r = sym of ∙ same in let one : row ≡ r = cc in subst (λ (x : RowNo). IsThis (cell_on script.n cells call.bay x) (slot_at script earlier call.bay row).cell) one h)

    -- and none where it had none
    pub none-shows : (at : BayNo) → call.bay ≡ at → row_of call.ask.what ≡ Some row → cell_at script earlier row at ≡ None → (cells : Cells) → IsShownOf script.n cells call
    none-shows at place of none cells =
        call-shown cells of
        (subst (λ (o : Option Cell). IsThis (cell_on script.n cells call.bay row) o) (sym (ap (λ (b : BayNo). (slot_at script earlier b row).cell) place ∙ none)) tt)

    -- so it shows the contents that stood before it, and the parity of those that it counts
    module _ (holds : HoldsContents script earlier row) where
      pub unit-shown : (unit : ℕ) → unit + 1 < script.n → call.bay ≡ bay_of script.n row unit → row_of call.ask.what ≡ Some row → (counted contents : RowNo → ℕ → Content) →
          contents row unit ≡ content_at script earlier row unit → IsShownOf script.n (table script.n counted contents) call
      unit-shown unit inside place of counted contents same =
          call-shown (table script.n counted contents) of
          (subst (λ (b : BayNo). IsThis (cell_on script.n (table script.n counted contents) b row) (slot_at script earlier b row).cell) (sym place)
          (subst (λ (c : Cell). IsThis c (cell_at script earlier row (bay_of script.n row unit)))
          (ap (λ (c : Content). cell_with unit c) (sym same) ∙ sym (table-unit script.n is.devices_least counted contents row unit inside)) (holds.units unit inside)))

      pub parity-shown : call.bay ≡ parity_bay script.n row → row_of call.ask.what ≡ Some row → (counted contents : RowNo → ℕ → Content) →
          cells_with script.n (counted row) ≡ cells_with script.n (base_at script earlier row) → IsShownOf script.n (table script.n counted contents) call
      parity-shown place of counted contents same =
          call-shown (table script.n counted contents) of
          (subst (λ (b : BayNo). IsThis (cell_on script.n (table script.n counted contents) b row) (slot_at script earlier b row).cell) (sym place)
          (subst (λ (c : Cell). IsThis c (cell_at script earlier row (parity_bay script.n row)))
          (ap parity_of (sym same) ∙ sym (table-parity script.n is.devices_least counted contents row)) holds.parity))

    -- A put of the parity leaves it no note
    pub put-bares : is_parity_put script.n row call ≡ true → (slot_at script (call ∷ earlier) (parity_bay script.n row) row).note ≡ None
    put-bares put = by (moved script is earlier call next P row below)
      where
        P : BayNo
        P = parity_bay script.n row

        here : is_at P row call ≡ true
        here = first-true (is_at P row call) (is_some (write_of call.ask.what call.answer.reply)) put

        by : SlotMove (bay_at script P earlier) P row call (bay_at script P (call ∷ earlier)) → (slot_at script (call ∷ earlier) P row).note ≡ None
        by (Kept slot empty life apart) = absurd (let bad : true ≡ false = sym here ∙ apart in cc)
        by (Lost at lost was slot empty life) = ap (λ (s : Slot). s.note) slot
        by (moves.Fitted at fitted was slot empty life) = ap (λ (s : Slot). s.note) slot
        by (Touched at of_row reply slot empty life) =
            put-frees (bay_at script P earlier) call.ask (slot_at script earlier P row) call.ask.what call.answer.reply (slot_at script (call ∷ earlier) P row)
            (does-at script is earlier call next P row below of_row reply slot)
            (second-true (is_at P row call) (is_some (write_of call.ask.what call.answer.reply)) put)

    pub base-kept : (is_parity_put script.n row call ≡ true → ⊥) → (unit : ℕ) → base_at script (call ∷ earlier) row unit ≡ base_at script earlier row unit
    base-kept none unit = by (is_parity_put script.n row call) none
      where
        by : (b : Bool) → (b ≡ true → ⊥) → (if b then content_at script (call ∷ earlier) row unit else base_at script earlier row unit) ≡ base_at script earlier row unit
        by true out = absurd (out refl)
        by false out = refl

  -- The attempt that puts a unit
  module _ (earlier : List Call) (call : Call) (along : IsHistory script (call ∷ earlier)) (row : RowNo) (below : row.0 < script.rows) (unit : ℕ) (inside : unit + 1 < script.n) where
    pub record Putting (id : Number) : Type 0 where
      pub steps : Steps Finish
      pub before : HasHand script earlier call.ask.host steps
      pub asked : next_errand steps ≡ Some (errand_of call)
      pub same : id ≡ before.hand.id
      pub putter : IsPutter before.hand.task
      pub confirmed : IsIn row (past_of (calls_at script earlier call.ask.host)).confirmed
      pub noted : HasNote id (slot_at script earlier (bay_of script.n row unit) row).note

    pub putting : (id k : Number) (cell : Cell) → call.bay ≡ bay_of script.n row unit → call.ask.what ≡ Put row id k cell → IsDone call → Putting id
    putting id k cell place what done =
        let a : Asker script is earlier call = asker script is earlier call along.0 along.1 row (ap (λ (w : Request). row_of w) what) in
        record {
          steps = a.steps;
          before = a.hand;
          asked = a.asked;
          same = (id-is-own script is earlier call.ask.host a.steps a.hand call a.asked id (ap (λ (w : Request). id_of w) what));
          putter = owned.putter script is earlier call along row unit below inside id k cell place what done a.steps a.hand a.asked;
          confirmed = owned.confirmed script is earlier call along row unit below inside id k cell place what done a.steps a.hand a.asked;
          noted = owned.noted script is earlier call along row unit below inside id k cell place what done;
        }

    -- a unit without a cell gets one only by a put
    pub missing-stays : ((id k : Number) (cell : Cell) → call.bay ≡ bay_of script.n row unit → call.ask.what ≡ Put row id k cell → IsDone call → ⊥) →
        cell_at script earlier row (bay_of script.n row unit) ≡ None → cell_at script (call ∷ earlier) row (bay_of script.n row unit) ≡ None
    missing-stays no_put none = by (turned script is (bay_of script.n row unit) row below earlier call along.1)
      where
        by : Turn (bay_at script (bay_of script.n row unit) earlier) (bay_of script.n row unit) row call (bay_at script (bay_of script.n row unit) (call ∷ earlier)) →
            cell_at script (call ∷ earlier) row (bay_of script.n row unit) ≡ None
        by (Same note cell last) = cell ∙ none
        by (Bare note cell) = cell
        by (Taken claimed last) = claimed.cell ∙ none
        by (Marked place id k cell what done note last) = absurd (no_put id k cell place what done)
        by (Freed place id k what own note cell last) = cell ∙ none

    -- a claim that is answered that it is missing finds none
    pub missing-found : IsClaim (bay_of script.n row unit) row call → IsMissing call → cell_at script earlier row (bay_of script.n row unit) ≡ None
    missing-found (place, id, how, mask, want, what) (floor, missing) = by (moved script is earlier call along.1 (bay_of script.n row unit) row below)
      where
        At : BayNo
        At = bay_of script.n row unit

        gone : IsGone (bay_at script At earlier) (slot_at script earlier At row) → cell_at script earlier row At ≡ None
        gone (inl empty) = (empty-bare script is earlier along.0 At row below empty).0
        gone (inr none) = none

        by : SlotMove (bay_at script At earlier) At row call (bay_at script At (call ∷ earlier)) → cell_at script earlier row At ≡ None
        by (Kept slot empty life apart) =
            absurd (let bad : true ≡ false = sym (touches earlier call along.1 row below At place (ap (λ (w : Request). row_of w) what)) ∙ apart in cc)
        by (Lost at lost was slot empty life) = absurd (let bad : Lose ≡ Claim row id how mask want = sym lost ∙ what in cc)
        by (moves.Fitted at fitted was slot empty life) = absurd (let bad : Fit ≡ Claim row id how mask want = sym fitted ∙ what in cc)
        by (Touched at of_row reply slot empty life) =
            gone (does-miss (bay_at script At earlier) call.ask (slot_at script earlier At row) floor call.ask.what call.answer.reply (slot_at script (call ∷ earlier) At row)
            (does-at script is earlier call along.1 At row below of_row reply slot) missing)

-- A call that is no share and no confirm is a claim that was granted, or is of any table
module _ (n : ℕ) (row : RowNo) (call : Call) (no_share : (id : Number) (want : Bool) → call.ask.what ≡ Share row id want → ⊥)
    (no_confirm : (id : Number) (want : Bool) → call.ask.what ≡ Confirm row id want → ⊥) (of : row_of call.ask.what ≡ Some row) where
  pub granted-or : (IsClaim call.bay row call × IsSome (grant_of call.answer.reply)) ⊎ ((cells : Cells) → IsShownOf n cells call)
  granted-or = by call.ask.what refl of
    where
      here : (what : Request) (r : RowNo) → row_of what ≡ Some r → row_of what ≡ Some row → r ≡ row
      here what r one two = let both : Some r ≡ Some row = sym one ∙ two in cc

      claimed : (r : RowNo) (id : Number) (how : How) (mask : ℕ) (want : Bool) → call.ask.what ≡ Claim r id how mask want → r ≡ row → (o : Option Grant) → grant_of call.answer.reply ≡ o →
          (IsClaim call.bay row call × IsSome (grant_of call.answer.reply)) ⊎ ((cells : Cells) → ReplyShows n cells call.bay (Claim r id how mask want) call.answer.reply)
      claimed r id how mask want e same None none = inr (λ cells. subst (λ (o : Option Grant). GrantShows (cell_on n cells call.bay r) o) (sym none) tt)
      claimed r id how mask want e same (Some grant) some =
          inl ((refl, id, how, mask, want, e ∙ ap (λ (x : RowNo). Claim x id how mask want) same), ap (λ (o : Option Grant). is_some o) some)

      by : (what : Request) → call.ask.what ≡ what → row_of what ≡ Some row → (IsClaim call.bay row call × IsSome (grant_of call.answer.reply)) ⊎ ((cells : Cells) → ReplyShows n cells call.bay what call.answer.reply)
      by (Share r id want) e at = absurd (no_share id want (e ∙ ap (λ (x : RowNo). Share x id want) (here (Share r id want) r refl at)))
      by (Claim r id how mask want) e at = claimed r id how mask want e (here (Claim r id how mask want) r refl at) (grant_of call.answer.reply) refl
      by (Confirm r id want) e at = absurd (no_confirm id want (e ∙ ap (λ (x : RowNo). Confirm x id want) (here (Confirm r id want) r refl at)))
      by (Put r id k cell) e at = inr (λ cells. tt)
      by (Release r id k) e at = inr (λ cells. tt)
      by Lose e at = inr (λ cells. tt)
      by Fit e at = inr (λ cells. tt)

-- what a call was shown stays where the table stays at its slot
module _ (n : ℕ) (x y : Cells) (row : RowNo) (call : Call) (of : row_of call.ask.what ≡ Some row) (same : cell_on n x call.bay row ≡ cell_on n y call.bay row) where
  pub shown-stays : IsShownOf n x call → IsShownOf n y call
  shown-stays h = by call.ask.what of h
    where
      at : (r : RowNo) → Some r ≡ Some row → cell_on n x call.bay r ≡ cell_on n y call.bay r
      at r e = let one : r ≡ row = cc in subst (λ (k : RowNo). cell_on n x call.bay k ≡ cell_on n y call.bay k) (sym one) same

      by : (what : Request) → row_of what ≡ Some row → ReplyShows n x call.bay what call.answer.reply → ReplyShows n y call.bay what call.answer.reply
      by (Share r id want) e shows = subst (λ (c : Cell). GrantShows c (grant_of call.answer.reply)) (at r e) shows
      by (Claim r id how mask want) e shows = subst (λ (c : Cell). GrantShows c (grant_of call.answer.reply)) (at r e) shows
      by (Confirm r id want) e shows = subst (λ (c : Cell). HeldShows c (held_of call.answer.reply)) (at r e) shows
      by (Put r id k cell) e shows = tt
      by (Release r id k) e shows = tt
      by Lose e shows = tt
      by Fit e shows = tt

-- for tables of contents
module _ (n : ℕ) (least : 3 ≤ n) (counted contents counted' contents' : RowNo → ℕ → Content) (row : RowNo) (call : Call) (of : row_of call.ask.what ≡ Some row) where
  abbrev Old : Cells
  Old = table n counted contents

  abbrev New : Cells
  New = table n counted' contents'

  pub unit-stays : (unit : ℕ) → unit + 1 < n → call.bay ≡ bay_of n row unit → contents row unit ≡ contents' row unit → IsShownOf n (table n counted contents) call → IsShownOf n (table n counted' contents') call
  unit-stays unit inside place same =
      shown-stays n (Old) (New) row call of
      (subst (λ (b : BayNo). cell_on n (Old) b row ≡ cell_on n (New) b row) (sym place)
      (table-unit n least counted contents row unit inside ∙ ap (λ (c : Content). cell_with unit c) same ∙ sym (table-unit n least counted' contents' row unit inside)))

  pub parity-stays : call.bay ≡ parity_bay n row → ((unit : ℕ) → unit + 1 < n → counted row unit ≡ counted' row unit) → IsShownOf n (table n counted contents) call → IsShownOf n (table n counted' contents') call
  parity-stays place same =
      shown-stays n (Old) (New) row call of
      (subst (λ (b : BayNo). cell_on n (Old) b row ≡ cell_on n (New) b row) (sym place)
      (table-parity n least counted contents row ∙ ap parity_of (cells-same n (counted row) (counted' row) same) ∙ sym (table-parity n least counted' contents' row)))

-- all of them, one by one
pub each-shown : (n : ℕ) (row : RowNo) (cells : Cells) (calls : List Call) → ((c : Call) → IsIn c calls → row_of c.ask.what ≡ Some row → IsShownOf n cells c) → AreShownIn n row cells calls
each-shown n row cells [] h = tt
each-shown n row cells (call ∷ earlier) h = (λ of. h call (inl refl) of, each-shown n row cells earlier (λ c i of. h c (inr i) of))

pub one-shown : (n : ℕ) (row : RowNo) (cells : Cells) (calls : List Call) → AreShownIn n row cells calls → (c : Call) → IsIn c calls → row_of c.ask.what ≡ Some row → IsShownOf n cells c
one-shown n row cells [] h c i of = absurd i
one-shown n row cells (call ∷ earlier) h c (inl same) of = subst (λ (x : Call). row_of x.ask.what ≡ Some row → IsShownOf n cells x) same h.0 of
one-shown n row cells (call ∷ earlier) h c (inr i) of = one-shown n row cells earlier h.1 c i of

-- The calls of an attempt by their phases
abbrev IsLate : Request → Type 0
IsLate (Share row id want) = ⊥
IsLate (Claim row id how mask want) = ⊥
IsLate (Confirm row id want) = Unit {0}
IsLate (Put row id k cell) = Unit {0}
IsLate (Release row id k) = Unit {0}
IsLate Lose = ⊥
IsLate Fit = ⊥

late-now : (past : Past) (bay : BayNo) (what : Request) (reply : Reply) → IsLate what → 1 ≤ (after_asking past bay what reply).phase
late-now past bay (Share row id want) reply late = absurd late
late-now past bay (Claim row id how mask want) reply late = absurd late
late-now past bay (Confirm row id want) reply late = omega arith
late-now past bay (Put row id k cell) reply late = omega arith
late-now past bay (Release row id k) reply late = omega arith
late-now past bay Lose reply late = absurd late
late-now past bay Fit reply late = absurd late

late-on : (past : Past) (bay : BayNo) (what : Request) (reply : Reply) → 1 ≤ past.phase → 1 ≤ (after_asking past bay what reply).phase
late-on past bay (Share row id want) reply late = late
late-on past bay (Claim row id how mask want) reply late = late
late-on past bay (Confirm row id want) reply late = omega arith
late-on past bay (Put row id k cell) reply late = omega arith
late-on past bay (Release row id k) reply late = omega arith
late-on past bay Lose reply late = late
late-on past bay Fit reply late = late

late-phase : (calls : List Call) (c : Call) → IsIn c calls → IsLate c.ask.what → 1 ≤ (past_of calls).phase
late-phase [] c i late = absurd i
late-phase (call ∷ earlier) c (inl same) late = late-now (past_of earlier) call.bay call.ask.what call.answer.reply (subst (λ (x : Call). IsLate x.ask.what) (sym same) late)
late-phase (call ∷ earlier) c (inr i) late = late-on (past_of earlier) call.bay call.ask.what call.answer.reply (late-phase earlier c i late)

module _ (script : Script) (is : IsScript script) (host : HostNo) where
  -- a confirm among them is of a parity
  module _ (p : Progress) where
    confirmed-in : (seen : Number) (calls : List Call) (steps : Steps Finish) → InHand script host p.jobs p.row seen calls steps → (c : Call) → IsIn c calls → (row : RowNo) (id : Number) (want : Bool) →
        c.ask.what ≡ Confirm row id want → c.bay ≡ parity_bay script.n row
    confirmed-in seen [] steps h c i row id want what = absurd i
    confirmed-in seen (call ∷ earlier) steps h c (inl same) row id want what =
        let b : Before script is host p earlier call h.id h.task = before-last script is host p seen call earlier steps h in
        let f : Phased script.n b.hand.id earlier b.steps = phased script is host (record p { seen = b.seen; calls = earlier }) b.steps b.hand in
        let may : MayAsk script.n b.hand.id f.past call.bay call.ask.what = may-next script.n b.hand.id f.past b.steps (errand_of call) f.keeps b.asked in
        let so : MayAsk script.n b.hand.id f.past call.bay (Confirm row id want) = subst (λ (w : Request). MayAsk script.n b.hand.id f.past call.bay w) (ap (λ (x : Call). x.ask.what) same ∙ what) may in
        ap (λ (x : Call). x.bay) (sym same) ∙ so.2
    confirmed-in seen (call ∷ earlier) steps h c (inr i) row id want what =
        let b : Before script is host p earlier call h.id h.task = before-last script is host p seen call earlier steps h in
        confirmed-in b.seen earlier b.steps b.hand c i row id want what

  module _ (history : List Call) (steps : Steps Finish) (h : HasHand script history host steps) where
    pub confirmed-parity : (c : Call) → IsIn c (calls_at script history host) → (row : RowNo) (id : Number) (want : Bool) → c.ask.what ≡ Confirm row id want → c.bay ≡ parity_bay script.n row
    confirmed-parity c i row id want what =
        confirmed-in (progress_at script host history) (progress_at script host history).seen (calls_at script history host) steps h.hand c i row id want what

    -- before the claim of the parity there was no call
    module _ (call : Call) (asked : next_errand steps ≡ Some (errand_of call)) (row : RowNo) (claim : IsClaim (parity_bay script.n row) row call)
        (so : (c : Call) → IsIn c (calls_at script history host) → (row_of c.ask.what ≡ Some row) × ClaimsParityFirst script.n (calls_at script history host) (errand_of c)) where
      not-claimed : Happened (IsClaim (parity_bay script.n row) row) (calls_at script history host) → ⊥
      not-claimed before = next-new script is history host steps h call asked (parity_bay script.n row) row (inr claim) (taken (calls_at script history host) before)
        where
          taken : (calls : List Call) → Happened (IsClaim (parity_bay script.n row) row) calls → Happened (IsTake (parity_bay script.n row) row) calls
          taken [] x = x
          taken (c ∷ cs) (inl x) = inl (inr x)
          taken (c ∷ cs) (inr x) = inr (taken cs x)

      not-late : (c : Call) → IsIn c (calls_at script history host) → IsLate c.ask.what → ⊥
      not-late c i late =
          let f : Phased script.n h.hand.id (calls_at script history host) steps = phased script is host (progress_at script host history) steps h.hand in
          let may : MayAsk script.n h.hand.id f.past call.bay (Claim row claim.1 claim.2 claim.3 claim.4) =
          subst (λ (w : Request). MayAsk script.n h.hand.id f.past call.bay w) claim.5 (may-next script.n h.hand.id f.past steps (errand_of call) f.keeps asked) in
          let early : f.past.phase ≤ 0 = may.1 in
          let no_later : (past_of (calls_at script history host)).phase ≤ f.past.phase = f.same.phase in
          let is_late : 1 ≤ (past_of (calls_at script history host)).phase = late-phase (calls_at script history host) c i late in
          absurd (omega (arith, early, no_later, is_late))

      pub none-before : (c : Call) → IsIn c (calls_at script history host) → ⊥
      none-before c i = by c.ask.what refl (so c i).0
        where
          here : (what : Request) (r : RowNo) → row_of what ≡ Some r → row_of what ≡ Some row → r ≡ row
          here what r one two = let both : Some r ≡ Some row = sym one ∙ two in cc

          claimed : (id : Number) (how : How) (mask : ℕ) (want : Bool) → c.ask.what ≡ Claim row id how mask want → (c.bay ≡ parity_bay script.n row) ⊎ Happened (IsClaim (parity_bay script.n row) row) (calls_at script history host) → ⊥
          claimed id how mask want what (inl place) = not-claimed (in-happened (IsClaim (parity_bay script.n row) row) c (calls_at script history host) i (place, id, how, mask, want, what))
          claimed id how mask want what (inr before) = not-claimed before

          by : (what : Request) → c.ask.what ≡ what → row_of what ≡ Some row → ⊥
          by (Share r id want) e at = (so c i).1.shares r id want e
          by (Claim r id how mask want) e at =
              let what : c.ask.what ≡ Claim row id how mask want = e ∙ ap (λ (x : RowNo). Claim x id how mask want) (here (Claim r id how mask want) r refl at) in
              claimed id how mask want what ((so c i).1.claims row id how mask want what)
          by (Confirm r id want) e at = not-late c i (subst IsLate (sym e) tt)
          by (Put r id k cell) e at = not-late c i (subst IsLate (sym e) tt)
          by (Release r id k) e at = not-late c i (subst IsLate (sym e) tt)
          by Lose e at = absurd (cc)
          by Fit e at = absurd (cc)
