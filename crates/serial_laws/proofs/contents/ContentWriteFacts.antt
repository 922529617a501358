-- While the note of a row's parity came from a write that is in hand: what its parity counts stays, its contents change only by
-- the write's own puts, and a unit without a cell stays so.
use Rattle.std.proofs.Common.{◌≡◌, ◌⊎◌, inl, inr, refl, sym, ap, subst, ◌∙◌, ℕ, ◌+◌, ◌<◌, ◌≤◌, ◌==◌, ◌&&◌, Bool, true, false, if◌then◌else◌, List, [], ◌∷◌, Option, Some, None, is_some, arith}
use Rattle.std.proofs.lemmas.Bool.{eq-eqb}
use Rattle.std.proofs.lemmas.Bool.Decides.{nat_tests}
use Rattle.std.proofs.lemmas.Bool.{and_parts}
use Rattle.raid_base.specs.declared.numbers.BayNo.{BayNo}
use Rattle.raid_base.specs.declared.numbers.HostNo.{HostNo}
use Rattle.raid_base.specs.declared.numbers.RowNo.{RowNo}
use Rattle.raid_base.specs.declared.numbers.Number.{Number}
use Rattle.raid_base.specs.declared.cells.Cell.{Cell}
use Rattle.raid_base.specs.declared.messages.How.TheVariants.{Plain, Seize, Mend}
use Rattle.raid_base.specs.declared.messages.Note.{Note}
use Rattle.raid_base.specs.declared.messages.Ask.{Ask}
use Rattle.raid_base.specs.declared.messages.Reply.{Reply}
use Rattle.raid_base.specs.declared.messages.Reply.TheVariants.{Done}
use Rattle.raid_base.specs.declared.messages.Request.{Request}
use Rattle.raid_base.specs.declared.messages.Request.TheVariants.{Share, Claim, Confirm, Put, Release, Lose, Fit}
use Rattle.raid_base.specs.declared.messages.Call.{Call}
use Rattle.raid_base.specs.declared.messages.Errand.{Errand}
use Rattle.raid_base.specs.declared.jobs.Task.{Task}
use Rattle.raid_base.specs.declared.jobs.Task.TheVariants as tasks
use Rattle.raid_base.specs.Replies.{is_fault}
use Rattle.raid_base.specs.Steps.{Steps, next_errand}
use Rattle.stripe_layout.specs.Placement.{parity_bay, bay_of}
use Rattle.stripe_layout.proofs.LayoutLemmas.{parity_in, unit_apart}
use Rattle.slot_rules.specs.Slots.{Slot, Bay}
use Rattle.slot_rules.specs.Laws.{is_refused, claimed_note}
use Rattle.attempts.specs.Taking.{Finish}
use Rattle.attempts.specs.Phases.{after_asking, Past}
use Rattle.attempts.proofs.OnceClaims.{claims_are_of_their_kind}
use Rattle.attempts.proofs.RoomLemmas.{bay-below}
use Rattle.script_text.specs.Script.{Script}
use Rattle.script_text.specs.Ranges.{IsScript}
use Rattle.histories.specs.Calls.{Happened, row_of, id_of, is_row, is_at, write_of, IsPut, IsDone}
use Rattle.histories.specs.Hands.{past_of}
use Rattle.histories.specs.History.{IsHistory, bay_at}
use Rattle.histories.proofs.smallness.SmallHistory.{are-asked}
use Rattle.histories.specs.RowStates.{slot_at, cell_at}
use Rattle.serial_laws.specs.Laws.{content_at}
use Rattle.row_laws.specs.Hands.{HasHand, calls_at}
use Rattle.row_laws.specs.Holding.{HasNote, CameFrom, Owns}
use Rattle.serial_laws.specs.Contents.{is_parity_put, base_at, IsPending}
use Rattle.histories.proofs.bounds.Awake.{IsAwake, history-awake}
use Rattle.row_laws.proofs.notes.BlankNotes.{blank_notes_mend}
use Rattle.row_laws.proofs.hands.SlotMoves.{SlotMove, Kept, Touched, Lost, outcome_at, moved}
use Rattle.row_laws.proofs.hands.SlotMoves as moves
use Rattle.row_laws.proofs.hands.SlotDoes.{Does, Refuses, Closes, Grants, Shows, Holds, Puts, Frees, Leaves, slot-does}
use Rattle.row_laws.proofs.holders.HolderNotesSlots.{Claimed}
use Rattle.row_laws.proofs.owners.RowOwnersSlots.{origins}
use Rattle.row_laws.proofs.owners.RowOwnersHands.{happened-own}
use Rattle.row_laws.proofs.owners.RowOwnersTasks.{seizes, mends}
use Rattle.row_laws.proofs.owners.RowOwnersCalls.{some-of, has-noted}
use Rattle.row_laws.proofs.owners.OwnedPuts as owned
use Rattle.row_laws.proofs.owners.OwnedPuts.{puts_are_of_owners}
use Rattle.row_laws.proofs.covered.CoveredPutsSlots.{Turn, Same, Bare, Taken, Marked, Freed, turned}
use Rattle.histories.specs.Leftovers.{IsSeizure}
use Rattle.serial_laws.proofs.contents.ContentStates.{IsWriteTask, is_from, owned_at}
use Rattle.serial_laws.proofs.contents.ContentsCovered.{IsOwnCommit, quiet-content, contents_are_covered}
use Rattle.histories.proofs.steps.SameNumbers.{same-bay}
use Rattle.row_laws.proofs.covered.CoveredPuts.{came-some}
use Rattle.histories.proofs.accesses.AccessCovers.{done-put}
use Rattle.row_laws.proofs.hands.HandClaims.{kind_of}

pub one-origin : (x y : Number) (o : Option Note) → CameFrom x o → CameFrom y o → x ≡ y
one-origin x y None a b = absurd a
one-origin x y (Some note) a b = sym a ∙ b

pub from-true : (id : Number) (o : Option Note) → CameFrom id o → is_from id o ≡ true
from-true id None h = absurd h
from-true id (Some note) h = eq-eqb note.origin.0 id.0 (ap (λ (x : Number). x.0) h)

pub from-said : (id : Number) (o : Option Note) → is_from id o ≡ true → CameFrom id o
from-said id None e = absurd (cc)
from-said id (Some note) e = let same : note.origin.0 ≡ id.0 = grind (arith, nat_tests) in ap (λ (k : ℕ). let x : Number = record { 0 = k } in x) same

-- a put that was done leaves no note
put-clears : (bay : Bay) (ask : Ask) (slot : Slot) (row : RowNo) (id n : Number) (cell : Cell) (what : Request) (reply : Reply) (left : Slot) → Does bay ask slot what reply left → what ≡ Put row id n cell → reply ≡ Done →
    left.note ≡ None
put-clears bay ask slot row id n cell what reply left (Refuses r refused missing) is done = absurd (let bad : false ≡ true = ap is_refused (sym done) ∙ refused in cc)
put-clears bay ask slot row id n cell what reply left (Closes there none) is done = refl
put-clears bay ask slot row id n cell what reply left (Grants claims) is done = absurd (cc)
put-clears bay ask slot row id n cell what reply left (Shows shares) is done = absurd (cc)
put-clears bay ask slot row id n cell what reply left (Holds own) is done = absurd (cc)
put-clears bay ask slot row id n cell what reply left (Puts own) is done = refl
put-clears bay ask slot row id n cell what reply left (Frees own) is done = refl
put-clears bay ask slot row id n cell what reply left (Leaves free reader found) is done = absurd (cc)

-- Tasks that write
pub writes-plain : (task : Task) → IsWriteTask task → kind_of task ≡ Plain
writes-plain (tasks.Write object first from count) w = refl
writes-plain (tasks.Read object first count) w = absurd w
writes-plain (tasks.Recover row) w = absurd w
writes-plain (tasks.Rebuild bay) w = absurd w
writes-plain (tasks.Lose bay) w = absurd w
writes-plain (tasks.Fit bay) w = absurd w

-- what is past the first phase stays past it
pub late-stays : (past : Past) (bay : BayNo) (what : Request) (reply : Reply) → 1 ≤ past.phase → 1 ≤ (after_asking past bay what reply).phase
late-stays past bay (Share r i want) reply late = late
late-stays past bay (Claim r i how mask want) reply late = late
late-stays past bay (Confirm r i want) reply late = omega arith
late-stays past bay (Put r i n cell) reply late = omega arith
late-stays past bay (Release r i n) reply late = omega arith
late-stays past bay Lose reply late = late
late-stays past bay Fit reply late = late

-- a put is none of the first phase
pub put-late : (at : BayNo) (row : RowNo) (id : Number) (calls : List Call) → Happened (IsPut at row id) calls → 1 ≤ (past_of calls).phase
put-late at row id [] h = absurd h
put-late at row id (call ∷ calls) (inl (place, n, cell, what)) =
    subst (λ (w : Request). 1 ≤ (after_asking (past_of calls) call.bay w call.answer.reply).phase) (sym what) (omega arith)
put-late at row id (call ∷ calls) (inr h) = late-stays (past_of calls) call.bay call.ask.what call.answer.reply (put-late at row id calls h)

happened-map : {P Q : Call → Type 0} → ((c : Call) → P c → Q c) → (calls : List Call) → Happened P calls → Happened Q calls
happened-map f [] h = absurd h
happened-map f (call ∷ calls) (inl h) = inl (f call h)
happened-map f (call ∷ calls) (inr h) = inr (happened-map f calls h)

-- A host with an attempt in hand has a request to make
pub awake : (script : Script) → IsScript script → (history : List Call) → IsHistory script history → (host : HostNo) (steps : Steps Finish) → HasHand script history host steps → (e : Errand) × (next_errand steps ≡ Some e)
awake script is history along host steps h =
    some-of (next_errand steps) (subst IsAwake h.work (history-awake script host history (record { ranges = is }) (are-asked script is history along)))

module _ (script : Script) (is : IsScript script) (row : RowNo) (below : row.0 < script.rows) where
  abbrev P : BayNo
  P = parity_bay script.n row

  abbrev pub ParityAt : List Call → Slot
  ParityAt history = slot_at script history P row

  abbrev pub From : Number → List Call → Type 0
  From id history = CameFrom id (ParityAt history).note

  pub units-aside : (unit : ℕ) → unit + 1 < script.n → bay_of script.n row unit ≡ P → ⊥
  units-aside unit inside same = let least = is.devices_least in absurd (unit_apart script.n row unit least (omega (arith, inside)) same)

  -- what an attempt owned last
  pub owned-base : (id : Number) (history : List Call) → From id history → (unit : ℕ) → owned_at script id history row unit ≡ base_at script history row unit
  owned-base id [] from unit = refl
  owned-base id (call ∷ earlier) from unit =
      ap (λ (b : Bool). if b then base_at script (call ∷ earlier) row unit else owned_at script id earlier row unit) (from-true id (ParityAt (call ∷ earlier)).note from)

  pub owned-kept : (id : Number) (earlier : List Call) (call : Call) → is_from id (ParityAt (call ∷ earlier)).note ≡ false → (unit : ℕ) →
      owned_at script id (call ∷ earlier) row unit ≡ owned_at script id earlier row unit
  owned-kept id earlier call other unit = ap (λ (b : Bool). if b then base_at script (call ∷ earlier) row unit else owned_at script id earlier row unit) other

  -- A call
  module _ (earlier : List Call) (call : Call) (along : IsHistory script (call ∷ earlier)) where
    pub put-bares : (id n : Number) (cell : Cell) → call.bay ≡ P → call.ask.what ≡ Put row id n cell → IsDone call → (ParityAt (call ∷ earlier)).note ≡ None
    put-bares id n cell place what done = by (moved script is earlier call along.1 (P) row below)
      where
        itself : is_at (P) row call ≡ true
        itself =
            subst (λ (b : Bool). (b && is_row row (row_of call.ask.what)) ≡ true) (sym (eq-eqb call.bay.0 (P).0 (ap (λ (x : BayNo). x.0) place)))
            (ap (λ (w : Request). is_row row (row_of w)) what ∙ eq-eqb row.0 row.0 refl)

        by : SlotMove (bay_at script (P) earlier) (P) row call (bay_at script (P) (call ∷ earlier)) → (ParityAt (call ∷ earlier)).note ≡ None
        by (Kept slot empty life apart) = absurd (let bad : true ≡ false = sym itself ∙ apart in cc)
        by (Touched at_bay of reply slot empty life) =
            ap (λ (s : Slot). s.note) slot
            ∙ put-clears (bay_at script (P) earlier) call.ask (slot_at script earlier (P) row) row id n cell call.ask.what (outcome_at (bay_at script (P) earlier) row call).reply
            (outcome_at (bay_at script (P) earlier) row call).slot
            (slot-does (bay_at script (P) earlier) call.ask (slot_at script earlier (P) row) (is_fault call.answer.reply) call.ask.what row of) what (sym reply ∙ done)
        by (Lost at_bay lost was slot empty life) = absurd (let bad : Lose ≡ Put row id n cell = sym lost ∙ what in cc)
        by (moves.Fitted at_bay fitted was slot empty life) = absurd (let bad : Fit ≡ Put row id n cell = sym fitted ∙ what in cc)

    parity-put : is_parity_put script.n row call ≡ true → (ParityAt (call ∷ earlier)).note ≡ None
    parity-put e =
        let parts = and_parts (is_at (P) row call) (is_some (write_of call.ask.what call.answer.reply)) e in
        let there = and_parts (call.bay.0 == (P).0) (is_row row (row_of call.ask.what)) parts.0 in
        let put = done-put call.ask.what call.answer.reply parts.1 in
        let said : (put.0.0 == row.0) ≡ true = ap (λ (w : Request). is_row row (row_of w)) (sym put.4) ∙ there.1 in
        let same : put.0 ≡ row = (let n : put.0.0 ≡ row.0 = grind (arith, nat_tests) in ap (λ (k : ℕ). let x : RowNo = record { 0 = k } in x) n) in
        put-bares put.1 put.2 put.3 (same-bay call.bay (P) there.0) (put.4 ∙ ap (λ (r : RowNo). Put r put.1 put.2 put.3) same) put.5

    no-parity-put : (id : Number) → From id (call ∷ earlier) → is_parity_put script.n row call ≡ false
    no-parity-put id from = by (is_parity_put script.n row call) refl
      where
        by : (b : Bool) → is_parity_put script.n row call ≡ b → b ≡ false
        by false e = refl
        by true e = absurd (subst (CameFrom id) (parity-put e) from)

    -- what the parity counts stays
    pub base-stays : (id : Number) → From id (call ∷ earlier) → (unit : ℕ) → base_at script (call ∷ earlier) row unit ≡ base_at script earlier row unit
    base-stays id from unit = ap (λ (b : Bool). if b then content_at script (call ∷ earlier) row unit else base_at script earlier row unit) (no-parity-put id from)

    -- the claim of the parity that left its note
    pub record Opens (id : Number) : Type 0 where
      pub claimed : Claimed (bay_at script (P) earlier) (P) row call (bay_at script (P) (call ∷ earlier))
      pub free : (ParityAt earlier).note ≡ None
      pub own : claimed.id ≡ id

    pub came-before : (id : Number) → From id (call ∷ earlier) → From id earlier ⊎ Opens id
    came-before id from = by (turned script is (P) row below earlier call along.1)
      where
        none : (ParityAt (call ∷ earlier)).note ≡ None → From id earlier ⊎ Opens id
        none free = absurd (subst (CameFrom id) free from)

        taken : (c : Claimed (bay_at script (P) earlier) (P) row call (bay_at script (P) (call ∷ earlier))) → (o : Option Note) → (ParityAt earlier).note ≡ o → From id earlier ⊎ Opens id
        taken c None e =
            inr (record { claimed = c; free = e; own = subst (CameFrom id) (c.note ∙ ap (λ (o : Option Note). Some (claimed_note call.ask c.id c.mask o)) e) from })
        taken c (Some was) e =
            inl (subst (CameFrom id) (sym e) (subst (CameFrom id) (c.note ∙ ap (λ (o : Option Note). Some (claimed_note call.ask c.id c.mask o)) e) from))

        by : Turn (bay_at script (P) earlier) (P) row call (bay_at script (P) (call ∷ earlier)) → From id earlier ⊎ Opens id
        by (Same kept cell last) = inl (subst (CameFrom id) kept from)
        by (Bare free cell) = none free
        by (Taken c last) = taken c (ParityAt earlier).note refl
        by (Marked place other n cell what done free last) = none free
        by (Freed place other n what own free cell last) = none free

  -- A write in hand
  module _ (history : List Call) (along : IsHistory script history) (host : HostNo) (steps : Steps Finish) (h : HasHand script history host steps) (writes : IsWriteTask h.hand.task) where
    next : (e : Errand) × (next_errand steps ≡ Some e)
    next = awake script is history along host steps h

    -- its note stands on no blank slot
    pub not-blank : (at : BayNo) → at.0 < script.n → (note : Note) → (slot_at script history at row).note ≡ Some note → note.id ≡ h.hand.id → cell_at script history row at ≡ None → ⊥
    not-blank at within note noted named none =
        let mended = blank_notes_mend script history is along at row note within below none noted in
        let kind : kind_of h.hand.task ≡ Mend = mends claims_are_of_their_kind script is history along host steps h (next).0 (next).1 at row note named mended.0 in
        absurd (let bad : Plain ≡ Mend = sym (writes-plain h.hand.task writes) ∙ kind in cc)

    pub parity-there : From h.hand.id history → cell_at script history row (P) ≡ None → ⊥
    parity-there from none =
        let found = came-some h.hand.id (ParityAt history).note from in
        let own = blank_notes_mend script history is along (P) row found.0 (parity_in script.n row is.devices_least) below none found.1 in
        not-blank (P) (parity_in script.n row is.devices_least) found.0 found.1 (sym own.1 ∙ found.2) none

    -- its own note came from it
    pub own-from : HasNote h.hand.id (ParityAt history).note → From h.hand.id history
    own-from has = by (has-noted (ParityAt history).note h.hand.id has)
      where
        by : (note : Note) × ((ParityAt history).note ≡ Some note) × (note.id ≡ h.hand.id) → From h.hand.id history
        by (note, noted, named) = subst (CameFrom h.hand.id) (sym noted) (origin (origins script is history along (P) row below note noted))
          where
            origin : (note.origin ≡ note.id) ⊎ Happened (IsSeizure note.host note.id) history → note.origin ≡ h.hand.id
            origin (inl own) = own ∙ named
            origin (inr seized) =
                let kind : kind_of h.hand.task ≡ Seize = seizes claims_are_of_their_kind script is history along host steps h (next).0 (next).1 note.host note.id named seized in
                absurd (let bad : Plain ≡ Seize = sym (writes-plain h.hand.task writes) ∙ kind in cc)

    -- a unit that it has not put has the content that its parity counts
    pub unput-base : From h.hand.id history → (unit : ℕ) → unit + 1 < script.n → (Happened (IsPut (bay_of script.n row unit) row h.hand.id) (calls_at script history host) → ⊥) →
        content_at script history row unit ≡ base_at script history row unit
    unput-base from unit inside none = by (contents_are_covered script history is along row unit below inside)
      where
        by : (content_at script history row unit ≡ base_at script history row unit) ⊎ ((cell_at script history row (P) ≡ None) ⊎ ((note : Note) × IsPending script history row unit note)) →
            content_at script history row unit ≡ base_at script history row unit
        by (inl same) = same
        by (inr (inl bare)) = absurd (parity-there from bare)
        by (inr (inr (note, pending))) = absurd (none own)
          where
            origin : note.origin ≡ h.hand.id
            origin = subst (CameFrom h.hand.id) pending.noted from

            puts : Happened (IsPut (bay_of script.n row unit) row h.hand.id) history
            puts = happened-map (λ c p. subst (λ (x : Number). IsPut (bay_of script.n row unit) row x c) origin p.0) history pending.put

            own : Happened (IsPut (bay_of script.n row unit) row h.hand.id) (calls_at script history host)
            own = happened-own script is history along host steps h (next).0 (next).1 (λ c p. ap (λ (w : Request). id_of w) p.3) puts

  -- A write in hand before a call
  module _ (earlier : List Call) (call : Call) (along : IsHistory script (call ∷ earlier)) (host : HostNo) (steps : Steps Finish) (h : HasHand script earlier host steps) (writes : IsWriteTask h.hand.task)
      (before : From h.hand.id earlier) (unit : ℕ) (inside : unit + 1 < script.n) where
    abbrev U : BayNo
    U = bay_of script.n row unit

    owner : (id : Number) → Owns script earlier row id → id ≡ h.hand.id
    owner id (inl none) = absurd (parity-there earlier along.0 host steps h writes before none)
    owner id (inr from) = one-origin id h.hand.id (ParityAt earlier).note from before

    -- a content stays, but for a put of the write
    pub own-or-stays : From h.hand.id (call ∷ earlier) →
        (content_at script (call ∷ earlier) row unit ≡ content_at script earlier row unit) ⊎ ((c : IsOwnCommit script earlier call row unit) × (c.id ≡ h.hand.id))
    own-or-stays now = by (quiet-content script is earlier call along row below unit inside)
      where
        by : (content_at script (call ∷ earlier) row unit ≡ content_at script earlier row unit) ⊎ (IsOwnCommit script earlier call row unit ⊎ (is_parity_put script.n row call ≡ true)) →
            (content_at script (call ∷ earlier) row unit ≡ content_at script earlier row unit) ⊎ ((c : IsOwnCommit script earlier call row unit) × (c.id ≡ h.hand.id))
        by (inl same) = inl same
        by (inr (inl c)) = inr (c, owner c.id c.owns)
        by (inr (inr put)) = absurd (let bad : true ≡ false = sym put ∙ no-parity-put earlier call along h.hand.id now in cc)

    -- a unit without a cell stays so
    pub blank-stays : cell_at script earlier row (U) ≡ None → cell_at script (call ∷ earlier) row (U) ≡ None
    blank-stays none = by (turned script is (U) row below earlier call along.1)
      where
        by : Turn (bay_at script (U) earlier) (U) row call (bay_at script (U) (call ∷ earlier)) → cell_at script (call ∷ earlier) row (U) ≡ None
        by (Same kept cell last) = cell ∙ none
        by (Bare free cell) = cell
        by (Taken c last) = c.cell ∙ none
        by (Freed place id n what own free cell last) = cell ∙ none
        by (Marked place id n cell what done free last) =
            let same : id ≡ h.hand.id = owner id (puts_are_of_owners script earlier call is along row unit id below inside (place, n, cell, what) done) in
            let note = has-noted (slot_at script earlier (U) row).note id (owned.noted script is earlier call along row unit below inside id n cell place what done) in
            absurd (not-blank earlier along.0 host steps h writes (U) (bay-below script.n row unit (let least = is.devices_least in omega (arith, least))) note.0 note.1 (note.2 ∙ same) none)
