-- A note that a claim of a parity seized, and that has units: it came from a write that claimed the parity with them, which puts
-- the parity at no time. All its units are units of the row, and a slot that was shown as put by that write was put by it.
use Rattle.std.proofs.Common.{◌≡◌, ◌≢◌, ◌⊎◌, inl, inr, refl, sym, ap, subst, ◌∙◌, ℕ, ◌+◌, ◌-◌, ◌^◌, ◌<◌, ◌≤◌, ◌&&◌, nat_lt, Bool, true, false, List, [], ◌∷◌, Option, Some, None, Result, Ok, Err, arith}
use Rattle.std.specs.List.{AllByRecursion}
use Rattle.std.proofs.lemmas.Bool.{eq-eqb}
use Rattle.std.proofs.lemmas.Bool.Decides.{nat_tests}
use Rattle.std.proofs.lemmas.List.Elements.{recursion_from_All}
use Rattle.std.proofs.Math.Pow.{pow_mono}
use Rattle.raid_base.specs.declared.numbers.BayNo.{BayNo}
use Rattle.raid_base.specs.declared.numbers.HostNo.{HostNo}
use Rattle.raid_base.specs.declared.numbers.RowNo.{RowNo}
use Rattle.raid_base.specs.declared.numbers.Number.{Number}
use Rattle.raid_base.specs.declared.names.Name.{Name}
use Rattle.raid_base.specs.declared.cells.Cell.{Cell}
use Rattle.raid_base.specs.declared.messages.Ask.{Ask}
use Rattle.raid_base.specs.declared.messages.Call.{Call}
use Rattle.raid_base.specs.declared.messages.Grant.{Grant}
use Rattle.raid_base.specs.declared.messages.How.{How}
use Rattle.raid_base.specs.declared.messages.How.TheVariants.{Plain, Seize, Mend}
use Rattle.raid_base.specs.declared.messages.Note.{Note}
use Rattle.raid_base.specs.declared.messages.Reply.{Reply}
use Rattle.raid_base.specs.declared.messages.Reply.TheVariants.{Done}
use Rattle.raid_base.specs.declared.messages.Request.{Request}
use Rattle.raid_base.specs.declared.messages.Request.TheVariants.{Claim, Put, Lose, Fit}
use Rattle.raid_base.specs.declared.jobs.PartsFault.{PartsFault}
use Rattle.raid_base.specs.declared.jobs.RowPart.{RowPart}
use Rattle.raid_base.specs.declared.jobs.Task.{Task}
use Rattle.raid_base.specs.declared.jobs.Task.TheVariants as tasks
use Rattle.raid_base.specs.Cells.{has_unit}
use Rattle.raid_base.specs.Numbers.{number, sees}
use Rattle.raid_base.specs.Replies.{grant_of}
use Rattle.raid_base.specs.Steps.{Steps, Standing, settled, behind, next_errand, errand_of}
use Rattle.stripe_layout.specs.Placement.{parity_bay, bay_of}
use Rattle.stripe_layout.proofs.LayoutLemmas.{parity_in}
use Rattle.raid_xor.proofs.UnitBits.{le_of_has}
use Rattle.virtual_objects.specs.RowParts.{IsPart}
use Rattle.slot_rules.specs.Slots.{Slot, Bay}
use Rattle.slot_rules.specs.Rules.{note_id}
use Rattle.slot_rules.specs.Laws.{claimed_note}
use Rattle.attempts.specs.Taking.{Finish}
use Rattle.attempts.specs.Phases.{IsIn}
use Rattle.script_text.specs.Script.{Script, parts_of}
use Rattle.script_text.specs.Ranges.{IsScript, IsTask}
use Rattle.histories.specs.Calls.{Happened, row_of, id_of, is_row, is_at, IsClaim, IsPut, IsDone}
use Rattle.histories.specs.Torn.{Seizes, ShowsLast, FoundTorn, IsWriteClaim, IsOfWrite}
use Rattle.histories.specs.Hands.{Led}
use Rattle.histories.specs.Plain.{IsTried}
use Rattle.histories.specs.Progress.{Progress, attempt}
use Rattle.histories.specs.History.{IsNext, IsHistory, progress_at, bay_at}
use Rattle.histories.proofs.hands.PhasedHands.{found-parts}
use Rattle.histories.specs.RowStates.{slot_at}
use Rattle.row_laws.specs.Hands.{HasHand, calls_at}
use Rattle.row_laws.specs.Holding.{HasNote}
use Rattle.histories.proofs.accesses.AccessTrees.{IsAsked, EachAsked, settled-asked, behind-asked, next-asked, attempt-asked}
use Rattle.row_laws.proofs.hands.SlotMoves.{SlotMove, Kept, Touched, Lost, Fitted, moved}
use Rattle.row_laws.proofs.hands.SlotDoes.{Does, Refuses, Closes, Grants, Shows, Holds, Puts, Frees, Leaves, claimed-id}
use Rattle.row_laws.proofs.hands.HandClaims.{asker-calls, kind_of, next-kind, next-new, IsTake}
use Rattle.row_laws.proofs.notes.NoteUnits.{units_are_of_writes}
use Rattle.row_laws.proofs.holders.AnsweredFreeNotes.{Takes, note-came}
use Rattle.row_laws.proofs.holders.AnsweredFree.{happened-map}
use Rattle.row_laws.proofs.holders.HolderNotesSlots.{Claimed, claimed-by, grant_at}
use Rattle.row_laws.proofs.owners.RowOwnersSlots.{does-at}
use Rattle.row_laws.proofs.owners.RowOwnersHands.{happened-in, Asker, asker}
use Rattle.row_laws.proofs.owners.RowOwnersCalls.{noted-by, noted-has}
use Rattle.row_laws.proofs.owners.OwnedPuts.{put-noted, all-in}
use Rattle.row_laws.proofs.hands.WriteMasks.{HasMask, parts_in, hand-asks}
use Rattle.row_laws.proofs.covered.CoveredPutsSlots.{origin-claimed}
use Rattle.row_laws.proofs.covered.CoveredPutsHands.{no-unit}
use Rattle.row_laws.proofs.torn.TornTrees.{IsWithin, Named, some-one}
use Rattle.row_laws.proofs.hands.HandMoves.{next-id}
use Rattle.histories.proofs.steps.BayRows.{starts-first}

-- Masks. Those below 2 ^ width have units below width
unit-within : (width mask unit : ℕ) → mask < 2 ^ width → has_unit mask unit ≡ true → unit < width
unit-within width mask unit small has = by (nat_lt unit width) refl
  where
    by : (b : Bool) → nat_lt unit width ≡ b → unit < width
    by true e = grind (arith, nat_tests)
    by false e =
        let le : width ≤ unit = grind (arith, nat_tests) in
        let low : 2 ^ unit ≤ mask = le_of_has mask unit has in
        let up : 2 ^ width ≤ 2 ^ unit = pow_mono le in
        absurd (omega (arith, small, low, up))

-- what an attempt has left asks with its id, and claims nothing where it reads
led-each : (reading : Bool) (id : Number) (host : HostNo) (start : Standing Finish) (calls : List Call) (now : Standing Finish) → EachAsked reading id start.steps → Led host start calls now → EachAsked reading id now.steps
led-each reading id host start [] now h led = subst (λ (x : Standing Finish). EachAsked reading id x.steps) led h
led-each reading id host start (call ∷ earlier) now h (before, led, asked, fit, later) =
    subst (λ (x : Standing Finish). EachAsked reading id x.steps) later
    (settled-asked reading id host (sees before.seen call.answer.reply) (behind before.steps call.answer.reply)
    (behind-asked reading id before.steps call.answer.reply (led-each reading id host start earlier before h led)))

module _ (script : Script) (is : IsScript script) where
  -- a claim of an attempt in hand has a mask of units of its row
  module _ (history : List Call) (host : HostNo) (steps : Steps Finish) (h : HasHand script history host steps) (call : Call) (asked : next_errand steps ≡ Some (errand_of call))
      (row : RowNo) (id : Number) (how : How) (mask : ℕ) (want : Bool) (what : call.ask.what ≡ Claim row id how mask want) where
    abbrev Now : Progress
    Now = progress_at script host history

    reads-none : (object : Name) (first count : ℕ) → h.hand.task ≡ tasks.Read object first count → ⊥
    reads-none object first count task =
        let begins : EachAsked true h.hand.id (attempt script host h.hand.id (Now).row h.hand.task) =
        subst (λ (t : Task). EachAsked true h.hand.id (attempt script host h.hand.id (Now).row t)) (sym task) (attempt-asked script host h.hand.id (Now).row (tasks.Read object first count)) in
        let start : Standing Finish = settled host h.hand.id (attempt script host h.hand.id (Now).row h.hand.task) in
        let each : EachAsked true h.hand.id steps =
        led-each true h.hand.id host start (calls_at script history host) (record { seen = (Now).seen; steps = steps })
        (settled-asked true h.hand.id host h.hand.id (attempt script host h.hand.id (Now).row h.hand.task) begins) h.hand.led in
        let claims : IsAsked true h.hand.id (Claim row id how mask want) = subst (λ (w : Request). IsAsked true h.hand.id w) what (next-asked true h.hand.id steps (errand_of call) each asked) in
        let bad : true ≡ false = claims.1 in
        absurd (cc)

    writes-within : (object : Name) (first from count : ℕ) → h.hand.task ≡ tasks.Write object first from count → call.bay ≡ parity_bay script.n row → IsWithin script.n mask
    writes-within object first from count task place unit has =
        let masked : HasMask (parts_in (parts_of script object first count)) row mask =
        (hand-asks script is host (Now).jobs (Now).row (Now).seen (calls_at script history host) steps h.hand object first from count task (errand_of call) asked).claims row id how mask want what place in
        by (parts_of script object first count) refl masked
      where
        may : IsTask script host (tasks.Write object first from count)
        may = subst (IsTask script host) task h.hand.is

        by : (r : Result (List RowPart) PartsFault) → parts_of script object first count ≡ r → HasMask (parts_in r) row mask → unit < script.n - 1
        by (Err fault) found (part, i, at, same) = absurd i
        by (Ok parts) found (part, i, at, same) =
            let each : AllByRecursion (IsPart script.n) parts = recursion_from_All (IsPart script.n) parts (found-parts script is host h.hand.id object first count parts may.some found).each in
            let small : mask < 2 ^ (script.n - 1) = subst (λ (m : ℕ). m < 2 ^ (script.n - 1)) same (all-in (IsPart script.n) part parts each i).within in
            unit-within (script.n - 1) mask unit small has

    hand-within : IsWithin script.n mask
    hand-within = by h.hand.task refl h.hand.tried (next-kind script is history host steps h call asked row id how mask want what).1
      where
        by : (task : Task) → h.hand.task ≡ task → IsTried script task → (mask ≡ 0) ⊎ ((kind_of task ≡ Plain) × (call.bay ≡ parity_bay script.n row)) → IsWithin script.n mask
        by task same tried (inl none) = λ unit has. absurd (no-unit mask unit none has)
        by (tasks.Read object first count) same tried (inr claims) = absurd (reads-none object first count same)
        by (tasks.Write object first from count) same tried (inr claims) = writes-within object first from count same claims.1
        by (tasks.Recover at) same tried (inr claims) = let bad : Seize ≡ Plain = claims.0 in absurd (cc)
        by (tasks.Rebuild bay) same tried (inr claims) = let bad : Mend ≡ Plain = claims.0 in absurd (cc)
        by (tasks.Lose bay) same tried (inr claims) = absurd tried
        by (tasks.Fit bay) same tried (inr claims) = absurd tried

  -- and so has each claim of a history
  abbrev IsNarrow : Call → Type 0
  IsNarrow call = (row : RowNo) (id : Number) (how : How) (mask : ℕ) (want : Bool) → call.ask.what ≡ Claim row id how mask want → IsWithin script.n mask

  next-narrow : (earlier : List Call) (call : Call) → IsHistory script earlier → IsNext script earlier call → IsNarrow call
  next-narrow earlier call along next row id how mask want what =
      let a : Asker script is earlier call = asker script is earlier call along next row (ap (λ (w : Request). row_of w) what) in
      hand-within earlier call.ask.host a.steps a.hand call a.asked row id how mask want what

  all-narrow : (history : List Call) → IsHistory script history → (call : Call) → IsIn call history → IsNarrow call
  all-narrow [] along call i = absurd i
  all-narrow (first ∷ earlier) along call (inl same) = subst IsNarrow same (next-narrow earlier first along.0 along.1)
  all-narrow (first ∷ earlier) along call (inr i) = all-narrow earlier along.0 call i

  note-within : (history : List Call) → IsHistory script history → (at : BayNo) (row : RowNo) → row.0 < script.rows → (note : Note) → (slot_at script history at row).note ≡ Some note → IsWithin script.n note.mask
  note-within history along at row below note noted =
      let found = happened-in history (origin-claimed script is at row below history along note noted) in
      all-narrow history along found.0 found.1 row note.origin found.2.1 note.mask found.2.2 found.2.3

  -- Marks. What a request does to the mark of its slot
  does-last : (bay : Bay) (ask : Ask) (slot : Slot) (row : RowNo) (what : Request) (reply : Reply) (left : Slot) → Does bay ask slot what reply left → row_of what ≡ Some row →
      (left.last ≡ slot.last) ⊎ ((n : Number) × (cell : Cell) × (what ≡ Put row left.last n cell) × (reply ≡ Done))
  does-last bay ask slot row what reply left (Refuses r refused missing) of = inl refl
  does-last bay ask slot row what reply left (Closes there none) of = inl refl
  does-last bay ask slot row what reply left (Grants claims) of = inl (ap (λ (s : Slot). s.last) claims.left)
  does-last bay ask slot row what reply left (Shows shares) of = inl shares.last_kept
  does-last bay ask slot row what reply left (Holds own) of = inl refl
  does-last bay ask slot row what reply left (Puts {row = r} {id} {n} {cell} own) of = let here : r ≡ row = cc in inr (n, cell, ap (λ (x : RowNo). Put x id n cell) here, refl)
  does-last bay ask slot row what reply left (Frees own) of = inl refl
  does-last bay ask slot row what reply left (Leaves free reader found) of = inl refl

  module _ (at : BayNo) (row : RowNo) (below : row.0 < script.rows) where
    abbrev IsDonePut : Number → Call → Type 0
    IsDonePut id call = IsPut at row id call × IsDone call

    -- the mark of a slot is the id of a put that was done
    last-put : (history : List Call) → IsHistory script history → (id : Number) → 1 ≤ id.0 → (slot_at script history at row).last ≡ id → Happened (IsDonePut id) history
    last-put [] along id least last =
        let none : number 0 ≡ id = ap (λ (s : Slot). s.last) (sym (starts-first script at row below)) ∙ last in
        let zero_id : 0 ≡ id.0 = ap (λ (x : Number). x.0) none in
        absurd (omega (arith, least, zero_id))
    last-put (call ∷ earlier) along id least last = by (moved script is earlier call along.1 at row below) (last-put earlier along.0 id least)
      where
        never : (slot_at script (call ∷ earlier) at row).last ≡ number 0 → ⊥
        never bare = let zero_id : 0 ≡ id.0 = ap (λ (x : Number). x.0) (sym bare ∙ last) in absurd (omega (arith, least, zero_id))

        by : SlotMove (bay_at script at earlier) at row call (bay_at script at (call ∷ earlier)) → ((slot_at script earlier at row).last ≡ id → Happened (IsDonePut id) earlier) → Happened (IsDonePut id) (call ∷ earlier)
        by (Kept slot empty life apart) before = inr (before (ap (λ (s : Slot). s.last) (sym slot) ∙ last))
        by (Lost place what was slot empty life) before = absurd (never (ap (λ (s : Slot). s.last) slot))
        by (Fitted place what was slot empty life) before = absurd (never (ap (λ (s : Slot). s.last) slot))
        by (Touched place of reply slot empty life) before =
            touched
            (does-last (bay_at script at earlier) call.ask (slot_at script earlier at row) row call.ask.what call.answer.reply (slot_at script (call ∷ earlier) at row)
            (does-at script is earlier call along.1 at row below of reply slot) of)
          where
            touched : ((slot_at script (call ∷ earlier) at row).last ≡ (slot_at script earlier at row).last)
                ⊎ ((n : Number) × (cell : Cell) × (call.ask.what ≡ Put row (slot_at script (call ∷ earlier) at row).last n cell) × (call.answer.reply ≡ Done)) → Happened (IsDonePut id) (call ∷ earlier)
            touched (inl same) = inr (before (sym same ∙ last))
            touched (inr (n, cell, put, done)) = inl ((place, n, cell, put ∙ ap (λ (x : Number). Put row x n cell) last), done)

    claimed-last : (earlier : List Call) (call : Call) → IsNext script earlier call → (id : Number) → IsClaim at row call → ShowsLast id call → (slot_at script earlier at row).last ≡ id
    claimed-last earlier call next id claim (grant, granted, last) =
        let c : Claimed (bay_at script at earlier) at row call (bay_at script at (call ∷ earlier)) = claimed-by script is at row below earlier call next (claim, grant, granted) in
        let same : grant_at (bay_at script at earlier) (slot_at script earlier at row) c.want ≡ grant = some-one (sym c.grant ∙ granted) in
        ap (λ (g : Grant). g.last) same ∙ last

    -- and so it is with what a claim was shown
    shown-put : (history : List Call) → IsHistory script history → (id : Number) → 1 ≤ id.0 → (call : Call) → IsIn call history → IsClaim at row call → ShowsLast id call → Happened (IsDonePut id) history
    shown-put [] along id least call i claim shows = absurd i
    shown-put (first ∷ earlier) along id least call (inl same) claim shows =
        inr
        (last-put earlier along.0 id least
        (claimed-last earlier first along.1 id (subst (IsClaim at row) (sym same) claim) (subst (ShowsLast id) (sym same) shows)))
    shown-put (first ∷ earlier) along id least call (inr i) claim shows = inr (shown-put earlier along.0 id least call i claim shows)

    -- a put that is done finds its note
    put-found : (earlier : List Call) (call : Call) → IsNext script earlier call → (id n : Number) (cell : Cell) → call.bay ≡ at → call.ask.what ≡ Put row id n cell → IsDone call →
        HasNote id (slot_at script earlier at row).note
    put-found earlier call next id n cell place what done =
        noted-has (slot_at script earlier at row).note id (noted-by (slot_at script earlier at row).note id (by (moved script is earlier call next at row below)))
      where
        of-row : row_of call.ask.what ≡ Some row
        of-row = ap (λ (w : Request). row_of w) what

        itself : is_at at row call ≡ true
        itself =
            subst (λ (b : Bool). (b && is_row row (row_of call.ask.what)) ≡ true) (sym (eq-eqb call.bay.0 at.0 (ap (λ (x : BayNo). x.0) place)))
            (ap (λ (o : Option RowNo). is_row row o) of-row ∙ eq-eqb row.0 row.0 refl)

        by : SlotMove (bay_at script at earlier) at row call (bay_at script at (call ∷ earlier)) → note_id (slot_at script earlier at row).note id ≡ true
        by (Kept slot empty life apart) = absurd (let bad : true ≡ false = sym itself ∙ apart in cc)
        by (Lost at_bay lost was slot empty life) = absurd (let bad : Lose ≡ Put row id n cell = sym lost ∙ what in cc)
        by (Fitted at_bay fitted was slot empty life) = absurd (let bad : Fit ≡ Put row id n cell = sym fitted ∙ what in cc)
        by (Touched at_bay of reply slot empty life) =
            put-noted (bay_at script at earlier) call.ask (slot_at script earlier at row) row id n cell call.ask.what call.answer.reply (slot_at script (call ∷ earlier) at row)
            (does-at script is earlier call next at row below of reply slot) what done

  -- The parity of a row
  module _ (row : RowNo) (below : row.0 < script.rows) where
    abbrev P : BayNo
    P = parity_bay script.n row

    abbrev ParityAt : List Call → Slot
    ParityAt history = slot_at script history P row

    abbrev IsParityPut : Number → Call → Type 0
    IsParityPut id call = IsPut P row id call × IsDone call

    -- the id of a write is an attempt's
    least-id : (history : List Call) → IsHistory script history → (id : Number) (mask : ℕ) → Happened (IsWriteClaim script.n row id mask) history → 1 ≤ id.0
    least-id [] along id mask h = absurd h
    least-id (call ∷ earlier) along id mask (inr h) = least-id earlier along.0 id mask h
    least-id (call ∷ earlier) along id mask (inl claim) =
        let a : Asker script is earlier call = asker script is earlier call along.0 along.1 row (ap (λ (w : Request). row_of w) claim.2) in
        let named : Some a.hand.hand.id ≡ Some id = sym (next-id script is earlier call.ask.host a.steps a.hand (errand_of call) a.asked) ∙ ap (λ (w : Request). id_of w) claim.2 in
        subst (λ (x : Number). 1 ≤ x.0) (some-one named) a.hand.hand.least

    -- a write that claimed the parity claims it no second time
    claims-again : (earlier : List Call) (call : Call) → IsHistory script earlier → IsNext script earlier call → (id : Number) (mask : ℕ) → Happened (IsWriteClaim script.n row id mask) earlier →
        (how : How) (m : ℕ) (want : Bool) → call.bay ≡ P → call.ask.what ≡ Claim row id how m want → ⊥
    claims-again earlier call along next id mask claimed how m want place what =
        let a : Asker script is earlier call = asker script is earlier call along next row (ap (λ (w : Request). row_of w) what) in
        let own : Happened (IsWriteClaim script.n row id mask) (calls_at script earlier call.ask.host) =
        asker-calls script is earlier call along next (IsWriteClaim script.n row id mask) id (λ c k. ap (λ (w : Request). id_of w) k.2) (ap (λ (w : Request). id_of w) what) claimed in
        next-new script is earlier call.ask.host a.steps a.hand call a.asked P row (inr (place, id, how, m, want, what))
        (happened-map (IsWriteClaim script.n row id mask) (IsTake P row) (λ c k. inr (k.0, id, Plain, mask, k.1, k.2)) (calls_at script earlier call.ask.host) own)

    seized-noted : (earlier : List Call) (call : Call) → IsNext script earlier call → (note : Note) → IsClaim P row call → Seizes note call → (ParityAt earlier).note ≡ Some note
    seized-noted earlier call next note claim (grant, granted, seized) =
        let c : Claimed (bay_at script P earlier) P row call (bay_at script P (call ∷ earlier)) = claimed-by script is P row below earlier call next (claim, grant, granted) in
        let same : grant_at (bay_at script P earlier) (ParityAt earlier) c.want ≡ grant = some-one (sym c.grant ∙ granted) in
        ap (λ (g : Grant). g.seized) same ∙ seized

    pub seized-within : (history : List Call) → IsHistory script history → (note : Note) (call : Call) → IsIn call history → IsClaim P row call → Seizes note call → IsWithin script.n note.mask
    seized-within [] along note call i claim seizes = absurd i
    seized-within (first ∷ earlier) along note call (inl same) claim seizes =
        note-within earlier along.0 P row below note (seized-noted earlier first along.1 note (subst (IsClaim P row) (sym same) claim) (subst (Seizes note) (sym same) seizes))
    seized-within (first ∷ earlier) along note call (inr i) claim seizes = seized-within earlier along.0 note call i claim seizes

    -- The note came from a write that has not put the parity, and that has no note there any more
    record Unfinished (history : List Call) (note : Note) : Type 0 where
      claimed : Happened (IsWriteClaim script.n row note.origin note.mask) history
      unfinished : Happened (IsParityPut note.origin) history → ⊥
      gone : HasNote note.origin (ParityAt history).note → ⊥

    seized-now : (earlier : List Call) (call : Call) → IsHistory script (call ∷ earlier) → (note : Note) → IsClaim P row call → Seizes note call → note.mask ≢ 0 → Unfinished (call ∷ earlier) note
    seized-now earlier call along note claim seizes some =
        let u = units_are_of_writes script earlier is along.0 P row note (parity_in script.n row is.devices_least) below (seized-noted earlier call along.1 note claim seizes) some in
        let c : Claimed (bay_at script P earlier) P row call (bay_at script P (call ∷ earlier)) = claimed-by script is P row below earlier call along.1 (claim, seizes.0, seizes.1) in
        record { claimed = inr u.1.claimed; unfinished = finished u.1.unfinished; gone = gone u.1.claimed c }
      where
        finished : (Happened (IsParityPut note.origin) earlier → ⊥) → IsParityPut note.origin call ⊎ Happened (IsParityPut note.origin) earlier → ⊥
        finished before (inl ((place, n, cell, what), done)) = let bad : Put row note.origin n cell ≡ Claim row claim.1 claim.2 claim.3 claim.4 = sym what ∙ claim.5 in absurd (cc)
        finished before (inr put) = before put

        gone : Happened (IsWriteClaim script.n row note.origin note.mask) earlier → Claimed (bay_at script P earlier) P row call (bay_at script P (call ∷ earlier)) → HasNote note.origin (ParityAt (call ∷ earlier)).note → ⊥
        gone claimed c has =
            let left : (claimed_note call.ask c.id c.mask (ParityAt earlier).note).id ≡ note.origin = subst (λ (o : Option Note). HasNote note.origin o) c.note has in
            let same : c.id ≡ note.origin = sym (claimed-id call.ask c.id c.mask (ParityAt earlier).note) ∙ left in
            claims-again earlier call along.0 along.1 note.origin note.mask claimed c.how c.mask c.want c.place (c.what ∙ ap (λ (x : Number). Claim row x c.how c.mask c.want) same)

    -- one call more
    unfinished-more : (earlier : List Call) (call : Call) → IsHistory script (call ∷ earlier) → (note : Note) → Unfinished earlier note → Unfinished (call ∷ earlier) note
    unfinished-more earlier call along note u = record { claimed = inr u.claimed; unfinished = finished; gone = λ has. gone (note-came script is P row below earlier call along.1 note.origin has) }
      where
        finished : IsParityPut note.origin call ⊎ Happened (IsParityPut note.origin) earlier → ⊥
        finished (inl ((place, n, cell, what), done)) = u.gone (put-found P row below earlier call along.1 note.origin n cell place what done)
        finished (inr put) = u.unfinished put

        gone : ((call.bay ≡ P) × Takes row note.origin call.ask.what) ⊎ HasNote note.origin (ParityAt earlier).note → ⊥
        gone (inl (place, (how, mask, want, what))) = claims-again earlier call along.0 along.1 note.origin note.mask u.claimed how mask want place what
        gone (inr stood) = u.gone stood

    seized-of : (history : List Call) → IsHistory script history → (note : Note) → note.mask ≢ 0 → (call : Call) → IsIn call history → IsClaim P row call → Seizes note call → Unfinished history note
    seized-of [] along note some call i claim seizes = absurd i
    seized-of (first ∷ earlier) along note some call (inl same) claim seizes =
        seized-now earlier first along note (subst (IsClaim P row) (sym same) claim) (subst (Seizes note) (sym same) seizes) some
    seized-of (first ∷ earlier) along note some call (inr i) claim seizes = unfinished-more earlier first along note (seized-of earlier along.0 note some call i claim seizes)

    -- What a recovery found torn, and named lost, is of that write
    pub torn-of-write : (history : List Call) → IsHistory script history → (calls : List Call) → ((call : Call) → IsIn call calls → IsIn call history) → (lost : Option ℕ) → Named script.n row lost calls →
        (unit : ℕ) (note : Note) → lost ≡ Some unit → FoundTorn script.n row calls unit note → IsOfWrite script.n row history unit note
    torn-of-write history along calls among lost named unit note is_lost f =
        let g = happened-in calls f.noted in
        let u : Unfinished history note = seized-of history along note f.mask g.0 (among g.0 g.1) g.2.0 g.2.1 in
        record { claimed = u.claimed; unfinished = u.unfinished; torn = by (least-id history along note.origin note.mask u.claimed) f.reached }
      where
        by : 1 ≤ note.origin.0 → (has_unit note.mask unit ≡ true) ⊎ ((other : ℕ) × (other + 1 < script.n) × (has_unit note.mask other ≡ true) × Happened (λ call. IsClaim (bay_of script.n row other) row call × ShowsLast note.origin call) calls) →
            (has_unit note.mask unit ≡ true) ⊎ ((other : ℕ) × (other + 1 < script.n) × (other ≢ unit) × Happened (λ call. IsPut (bay_of script.n row other) row note.origin call × IsDone call) history)
        by least (inl has) = inl has
        by least (inr (other, inside, has, shown)) =
            let s = happened-in calls shown in
            inr (other, inside, apart s.0 s.1 s.2.0 s.2.1, shown-put (bay_of script.n row other) row below history along note.origin least s.0 (among s.0 s.1) s.2.0 s.2.1)
          where
            apart : (c : Call) → IsIn c calls → IsClaim (bay_of script.n row other) row c → ShowsLast note.origin c → other ≢ unit
            apart c i claim (grant, granted, last) same =
                let m = happened-in calls f.missing in
                let here : IsClaim (bay_of script.n row unit) row c = subst (λ (v : ℕ). IsClaim (bay_of script.n row v) row c) same claim in
                let alike : grant_of c.answer.reply ≡ grant_of m.0.answer.reply = named.once unit (named.torn unit is_lost).0 c m.0 i m.1 here m.2.0 in
                let clash : Some grant ≡ None = sym granted ∙ alike ∙ ap (λ (r : Reply). grant_of r) m.2.1.1 in
                absurd (cc)
