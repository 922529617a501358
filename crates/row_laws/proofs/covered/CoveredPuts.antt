-- A unit that a write has put is covered until the parity of its row is put: the parity has no cell, or a note that came from that
-- write and has the unit, and the unit shows the write's id where it is there.
use Rattle.std.proofs.Common.{◌≡◌, ◌⊎◌, inl, inr, refl, sym, ap, subst, ◌∙◌, ℕ, ◌+◌, ◌<◌, ◌≤◌, Bool, true, false, nat_lt, List, [], ◌∷◌, ◌++◌, length, Option, Some, None, is_some, IsSome, IsNone, arith}
use Rattle.std.proofs.lemmas.Bool.Decides.{nat_tests}
use Rattle.std.proofs.lemmas.List.{get_or_past}
use Rattle.raid_base.specs.declared.numbers.BayNo.{BayNo}
use Rattle.raid_base.specs.declared.numbers.HostNo.{HostNo}
use Rattle.raid_base.specs.declared.numbers.RowNo.{RowNo}
use Rattle.raid_base.specs.declared.numbers.Number.{Number}
use Rattle.raid_base.specs.declared.cells.Cell.{Cell}
use Rattle.raid_base.specs.declared.messages.How.TheVariants.{Seize, Mend}
use Rattle.raid_base.specs.declared.messages.Note.{Note}
use Rattle.raid_base.specs.declared.messages.Grant.{Grant}
use Rattle.raid_base.specs.declared.messages.Request.{Request}
use Rattle.raid_base.specs.declared.messages.Request.TheVariants.{Put, Release}
use Rattle.raid_base.specs.declared.messages.Call.{Call}
use Rattle.raid_base.specs.declared.jobs.Task.{Task}
use Rattle.raid_base.specs.declared.jobs.Task.TheVariants as tasks
use Rattle.raid_base.specs.Cells.{has_unit}
use Rattle.raid_base.specs.Numbers.{number}
use Rattle.raid_base.specs.Replies.{grant_of}
use Rattle.raid_base.specs.Steps.{Steps, next_errand, errand_of}
use Rattle.stripe_layout.specs.Placement.{parity_bay, bay_of}
use Rattle.slot_rules.specs.Slots.{Slot, bare_slot}
use Rattle.slot_rules.specs.Rules.{note_id}
use Rattle.slot_rules.specs.Laws.{claimed_note}
use Rattle.attempts.specs.Taking.{Finish}
use Rattle.attempts.specs.Phases.{IsIn}
use Rattle.script_text.specs.Script.{Script}
use Rattle.script_text.specs.Ranges.{IsScript}
use Rattle.histories.specs.Calls.{Happened, row_of, id_of, IsClaim, IsPut, IsDone}
use Rattle.histories.specs.Torn.{Seizes, IsWriteClaim}
use Rattle.histories.specs.History.{IsHistory, progress_at, bay_at}
use Rattle.histories.specs.RowStates.{slot_at, cell_at}
use Rattle.row_laws.specs.Hands.{HasHand, calls_at, IsPutter, IsRecoveryOf, IsAnswered}
use Rattle.row_laws.specs.Holding.{HasNote, CameFrom, Owns}
use Rattle.row_laws.specs.Laws.{IsOrigin, IsParityClaim, IsWrite, IsPutSince, PutsAreCovered}
use Rattle.row_laws.proofs.hands.HandMoves.{Stays, Came, Stayed, Begun, Went, came, id-is-own}
use Rattle.row_laws.proofs.hands.HandClaims.{kind_of, made-kind, next-kind, next-untaken, claimed-taken, recovers-seize, seize-recovers}
use Rattle.row_laws.proofs.holders.AnsweredFreeNotes.{Takes, note-came}
use Rattle.row_laws.proofs.holders.AnsweredFreeHands.{parity-claimed}
use Rattle.row_laws.proofs.holders.HolderNotesSlots.{Claimed, claimed-by, grant_at}
use Rattle.row_laws.proofs.owners.HoldingLaws.{answered_are_free}
use Rattle.row_laws.proofs.owners.RowOwnersHands.{Asker, asker, happened-in, other-id}
use Rattle.row_laws.proofs.owners.RowOwnersCalls.{noted-by}
use Rattle.row_laws.proofs.owners.OwnedPuts as owned
use Rattle.row_laws.proofs.owners.OwnedPuts.{puts_are_of_owners}
use Rattle.row_laws.proofs.covered.CoveredPutsSlots.{Turn, Same, Bare, Taken, Marked, Freed, turned, marked, IsMaskClaim, origin-claimed, Found, Anew, Handed, Opened, own-opened}
use Rattle.row_laws.proofs.covered.CoveredPutsHands.{recovers-alone, Writes, in-happened, units-aside, write-task, put-masked, own-keeps, same-row, recovery-keeps}
use Rattle.histories.proofs.steps.SameNumbers.{same-some}
use Rattle.histories.proofs.steps.BayRows.{bay-rows}

none-some : {X : Type 0} (o : Option X) → o ≡ None → IsSome o → ⊥
none-some None e h = absurd (cc)
none-some (Some x) e h = absurd (cc)

pub came-some : (id : Number) (o : Option Note) → CameFrom id o → (note : Note) × (o ≡ Some note) × (note.origin ≡ id)
came-some id None h = absurd h
came-some id (Some note) h = (note, refl, h)

-- a write whose claim of the parity was granted is one
pub granted-write : (n : ℕ) (row : RowNo) (id : Number) (mask : ℕ) (calls : List Call) → Happened (IsWriteClaim n row id mask) calls → IsWrite n row id calls
granted-write n row id mask [] h = h
granted-write n row id mask (c ∷ calls) (inl h) = inl (h.0, mask, h.1, h.2)
granted-write n row id mask (c ∷ calls) (inr h) = inr (granted-write n row id mask calls h)

-- what has happened has happened in a longer history
pub happened-later : (Q : Call → Type 0) (later earlier : List Call) (call : Call) → Happened Q (call ∷ earlier) → Happened Q (later ++ call ∷ earlier)
happened-later Q [] earlier call h = h
happened-later Q (c ∷ later) earlier call h = inr (happened-later Q later earlier call h)

module _ (script : Script) (is : IsScript script) (row : RowNo) (below : row.0 < script.rows) (unit : ℕ) (inside : unit + 1 < script.n) (id : Number) where
  abbrev P : BayNo
  P = parity_bay script.n row

  abbrev U : BayNo
  U = bay_of script.n row unit

  abbrev ParityAt : List Call → Slot
  ParityAt history = slot_at script history P row

  abbrev UnitAt : List Call → Slot
  UnitAt history = slot_at script history U row

  -- each claim of the unit by a recovery that holds the parity was shown the write's id
  abbrev Shown : List Call → Note → Type 0
  Shown history note =
      (host : HostNo) (steps : Steps Finish) (r : HasHand script history host steps) → IsRecoveryOf row r.hand.task → note.id ≡ r.hand.id →
      (c : Call) (grant : Grant) → IsIn c (calls_at script history host) → IsClaim U row c → grant_of c.answer.reply ≡ Some grant → grant.last ≡ id

  pub record Covers (history : List Call) (note : Note) : Type 0 where
    pub noted : (ParityAt history).note ≡ Some note
    pub origin : note.origin ≡ id
    pub masked : has_unit note.mask unit ≡ true
    pub last : IsSome (UnitAt history).cell → (UnitAt history).last ≡ id
    pub shown : Shown history note

  abbrev pub Covered : List Call → Type 0
  Covered history = ((ParityAt history).cell ≡ None) ⊎ ((note : Note) × Covers history note)

  abbrev Turning : BayNo → List Call → Call → Type 0
  Turning at earlier call = Turn (bay_at script at earlier) at row call (bay_at script at (call ∷ earlier))

  named-has : (history : List Call) (note : Note) (by : Number) → (ParityAt history).note ≡ Some note → note.id ≡ by → HasNote by (ParityAt history).note
  named-has history note by noted named = subst (λ (o : Option Note). HasNote by o) (sym noted) named

  -- The unit is put
  module _ (earlier : List Call) (call : Call) (along : IsHistory script (call ∷ earlier)) (n : Number) (cell : Cell) (place : call.bay ≡ U) (what : call.ask.what ≡ Put row id n cell) (done : IsDone call)
      (write : IsWrite script.n row id earlier) where
    abbrev Host : HostNo
    Host = call.ask.host

    asking : Asker script is earlier call
    asking = asker script is earlier call along.0 along.1 row (ap (λ (w : Request). row_of w) what)

    own-id : id ≡ (asking).hand.hand.id
    own-id = id-is-own script is earlier Host (asking).steps (asking).hand call (asking).asked id (ap (λ (w : Request). id_of w) what)

    puts-units : (host : HostNo) → call.ask.host ≡ host → (steps : Steps Finish) (h : HasHand script earlier host steps) → next_errand steps ≡ Some (errand_of call) → IsPutter h.hand.task
    puts-units host same =
        subst (λ (x : HostNo). (steps : Steps Finish) (h : HasHand script earlier x steps) → next_errand steps ≡ Some (errand_of call) → IsPutter h.hand.task) same
        (λ steps h asked. owned.putter script is earlier call along row unit below inside id n cell place what done steps h asked)

    masked-by : (note : Note) → (ParityAt earlier).note ≡ Some note → note.origin ≡ id → has_unit note.mask unit ≡ true
    masked-by note noted origin =
        let claimed : Happened (IsMaskClaim P row id note.mask) earlier =
        subst (λ (x : Number). Happened (IsMaskClaim P row x note.mask) earlier) origin (origin-claimed script is P row below earlier along.0 note noted) in
        let task : Writes (asking).hand.hand.task =
        write-task script is row unit inside id earlier along.0 Host (asking).steps (asking).hand call (asking).asked write own-id (puts-units Host refl (asking).steps (asking).hand (asking).asked) in
        put-masked script is row unit inside id earlier along.0 Host (asking).steps (asking).hand call (asking).asked write own-id task note.mask claimed n cell place what

    shown-none : (note : Note) → (ParityAt earlier).note ≡ Some note → Shown (call ∷ earlier) note
    shown-none note noted host steps r recovers named c grant i claim granted = moves (came script is earlier call along.0 along.1 host steps r)
      where
        moves : Came script is earlier call along.0 along.1 host steps r.hand.id r.hand.task (calls_at script (call ∷ earlier) host) → grant.last ≡ id
        moves (Begun mine bare) = absurd (subst (λ (cs : List Call). IsIn c cs) bare i)
        moves (Went goes) =
            absurd (recovers-alone row goes.before.hand.task (subst (λ (t : Task). IsRecoveryOf row t) (sym goes.same_task) recovers) (puts-units host goes.own goes.steps goes.before goes.asked))
        moves (Stayed stays) =
            absurd
            (answered_are_free script earlier is along.0 host Host steps (asking).steps stays.before (asking).hand row unit below inside
            (subst (λ (t : Task). IsRecoveryOf row t) (sym stays.same_task) recovers)
            (named-has earlier note stays.before.hand.id noted (named ∙ sym stays.same_id))
            (in-happened (IsAnswered U row) c (calls_at script earlier host) (subst (λ (cs : List Call). IsIn c cs) stays.calls i) (claim, inl (subst (λ (o : Option Grant). IsSome o) (sym granted) refl)))
            (puts-units Host refl (asking).steps (asking).hand (asking).asked)
            (owned.confirmed script is earlier call along row unit below inside id n cell place what done (asking).steps (asking).hand (asking).asked)
            (subst (λ (x : Number). HasNote x (UnitAt earlier).note) own-id (owned.noted script is earlier call along row unit below inside id n cell place what done)))

    aside : call.bay ≡ P → ⊥
    aside at = units-aside script is row unit inside id (sym place ∙ at)

    covered-now : Covered (call ∷ earlier)
    covered-now = turning (turned script is P row below earlier call along.1) (puts_are_of_owners script earlier call is along row unit id below inside (place, n, cell, what) done)
      where
        covers : (ParityAt (call ∷ earlier)).note ≡ (ParityAt earlier).note → (note : Note) × ((ParityAt earlier).note ≡ Some note) × (note.origin ≡ id) → Covered (call ∷ earlier)
        covers kept (note, noted, origin) = inr (
          note,
          record {
            noted = kept ∙ noted;
            origin = origin;
            masked = masked-by note noted origin;
            last = λ some. marked script is U row below earlier call along.1 id n cell place what done;
            shown = shown-none note noted;
          },
        )

        turning : Turning P earlier call → Owns script earlier row id → Covered (call ∷ earlier)
        turning (Same kept same last) (inl none) = inl (same ∙ none)
        turning (Same kept same last) (inr from) = covers kept (came-some id (ParityAt earlier).note from)
        turning (Bare free none) owns = inl none
        turning (Taken c last) owns = absurd (aside c.place)
        turning (Marked at other k content put is_done free last) owns = absurd (aside at)
        turning (Freed at other k given mine free same last) owns = absurd (aside at)

  -- Another call
  module _ (earlier : List Call) (call : Call) (along : IsHistory script (call ∷ earlier)) (quiet : (by : Number) → IsPut P row by call → IsDone call → ⊥) where
    still-bare : (ParityAt earlier).cell ≡ None → Covered (call ∷ earlier)
    still-bare none = by (turned script is P row below earlier call along.1)
      where
        by : Turning P earlier call → Covered (call ∷ earlier)
        by (Same kept same last) = inl (same ∙ none)
        by (Bare free bare) = inl bare
        by (Taken c last) = inl (c.cell ∙ none)
        by (Marked at id1 n cell what done free last) = absurd (quiet id1 (at, n, cell, what) done)
        by (Freed at id1 n what own free same last) = inl (same ∙ none)

    -- a recovery that holds the parity claims the unit
    module _ (note : Note) (before : Covers earlier note) (host : HostNo) (steps : Steps Finish) (r : HasHand script earlier host steps) (recovers : IsRecoveryOf row r.hand.task)
        (asked : next_errand steps ≡ Some (errand_of call)) (grant : Grant) where
      claims-now : IsClaim U row call → grant_of call.answer.reply ≡ Some grant → grant.last ≡ id
      claims-now (place, by, how, mask, want, what) granted = found (claimed-by script is U row below earlier call along.1 ((place, by, how, mask, want, what), grant, granted))
        where
          seizes : (c : Claimed (bay_at script U earlier) U row call (bay_at script U (call ∷ earlier))) → c.how ≡ Seize
          seizes c = (next-kind script is earlier host steps r call asked row c.id c.how c.mask c.want c.what).0 ∙ recovers-seize row r.hand.task recovers

          there : (c : Claimed (bay_at script U earlier) U row call (bay_at script U (call ∷ earlier))) → IsSome (UnitAt earlier).cell ⊎ (c.how ≡ Mend) → IsSome (UnitAt earlier).cell
          there c (inl some) = some
          there c (inr mends) = absurd (let bad : Seize ≡ Mend = sym (seizes c) ∙ mends in cc)

          found : Claimed (bay_at script U earlier) U row call (bay_at script U (call ∷ earlier)) → grant.last ≡ id
          found c =
              let same : grant_at (bay_at script U earlier) (UnitAt earlier) c.want ≡ grant = same-some (grant_at (bay_at script U earlier) (UnitAt earlier) c.want) grant (sym c.grant ∙ granted) in
              ap (λ (g : Grant). g.last) (sym same) ∙ before.last (there c c.found)

      claims-then : HasNote r.hand.id (ParityAt (call ∷ earlier)).note → (c : Call) → IsIn c (calls_at script earlier host) → IsClaim U row c → grant_of c.answer.reply ≡ Some grant → grant.last ≡ id
      claims-then has c i claim granted = by (note-came script is P row below earlier call along.1 r.hand.id has)
        where
          by : ((call.bay ≡ P) × Takes row r.hand.id call.ask.what) ⊎ HasNote r.hand.id (ParityAt earlier).note → grant.last ≡ id
          by (inl (place, (how, mask, want, what))) =
              absurd
              (next-untaken script is earlier host steps r call asked P row (inr (place, r.hand.id, how, mask, want, what))
              (claimed-taken (record { bay = P; row = row }) (calls_at script earlier host)
              (parity-claimed script is host (progress_at script host earlier) steps r.hand row unit inside (calls_at script earlier host)
              (record { seen = (progress_at script host earlier).seen; steps = steps }) r.hand.led (in-happened (IsClaim U row) c (calls_at script earlier host) i claim))))
          by (inr stood) =
              let named : note.id ≡ r.hand.id = subst (λ (o : Option Note). HasNote r.hand.id o) before.noted stood in
              before.shown host steps r recovers named c grant i claim granted

    shown-next : (note later : Note) → Covers earlier note → (ParityAt (call ∷ earlier)).note ≡ Some later → Shown (call ∷ earlier) later
    shown-next note later before noted host steps r recovers named c grant i claim granted = by (came script is earlier call along.0 along.1 host steps r)
      where
        has : HasNote r.hand.id (ParityAt (call ∷ earlier)).note
        has = named-has (call ∷ earlier) later r.hand.id noted named

        stays-noted : (s : Stays script is earlier call along.0 along.1 host steps r.hand.id r.hand.task (calls_at script (call ∷ earlier) host)) →
            ((call.bay ≡ P) × Takes row r.hand.id call.ask.what) ⊎ HasNote r.hand.id (ParityAt earlier).note → note.id ≡ s.before.hand.id
        stays-noted s (inl (place, (how, mask, want, what))) = absurd (other-id script is earlier call along host r.hand.id s.other r.hand.own (ap (λ (w : Request). id_of w) what))
        stays-noted s (inr stood) = subst (λ (o : Option Note). HasNote r.hand.id o) before.noted stood ∙ sym s.same_id

        by : Came script is earlier call along.0 along.1 host steps r.hand.id r.hand.task (calls_at script (call ∷ earlier) host) → grant.last ≡ id
        by (Begun mine bare) = absurd (subst (λ (cs : List Call). IsIn c cs) bare i)
        by (Stayed s) =
            before.shown host steps s.before (subst (λ (t : Task). IsRecoveryOf row t) (sym s.same_task) recovers)
            (stays-noted s (note-came script is P row below earlier call along.1 r.hand.id has)) c grant (subst (λ (cs : List Call). IsIn c cs) s.calls i) claim granted
        by (Went goes) = made (subst (λ (cs : List Call). IsIn c cs) goes.calls i)
          where
            made : (call ≡ c) ⊎ IsIn c (calls_at script earlier host) → grant.last ≡ id
            made (inl same) =
                claims-now note before host goes.steps goes.before (subst (λ (t : Task). IsRecoveryOf row t) (sym goes.same_task) recovers) goes.asked grant
                (subst (λ (x : Call). IsClaim U row x) (sym same) claim) (subst (λ (x : Call). grant_of x.answer.reply ≡ Some grant) (sym same) granted)
            made (inr j) =
                claims-then note before host goes.steps goes.before (subst (λ (t : Task). IsRecoveryOf row t) (sym goes.same_task) recovers) goes.asked grant
                (subst (λ (x : Number). HasNote x (ParityAt (call ∷ earlier)).note) (sym goes.same_id) has) c j claim granted

    -- the parity has a note of the same origin with the same units
    module _ (note later : Note) (before : Covers earlier note) (noted : (ParityAt (call ∷ earlier)).note ≡ Some later) (origin : later.origin ≡ note.origin) (mask : later.mask ≡ note.mask) where
      with-last : (IsSome (UnitAt (call ∷ earlier)).cell → (UnitAt (call ∷ earlier)).last ≡ id) → Covered (call ∷ earlier)
      with-last last = inr (
        later,
        record {
          noted = noted;
          origin = origin ∙ before.origin;
          masked = ap (λ (m : ℕ). has_unit m unit) mask ∙ before.masked;
          last = last;
          shown = shown-next note later before noted;
        },
      )

      still-last : (UnitAt (call ∷ earlier)).cell ≡ (UnitAt earlier).cell → (UnitAt (call ∷ earlier)).last ≡ (UnitAt earlier).last → Covered (call ∷ earlier)
      still-last cell last = with-last (λ some. last ∙ before.last (subst (λ (o : Option Cell). IsSome o) cell some))

      by-owner : (by : Number) → (UnitAt (call ∷ earlier)).last ≡ by → Owns script earlier row by → Covered (call ∷ earlier)
      by-owner by last (inl none) = still-bare none
      by-owner by last (inr from) =
          let own : note.origin ≡ by = subst (λ (o : Option Note). CameFrom by o) before.noted from in
          with-last (λ some. last ∙ sym own ∙ before.origin)

      covers-on : Covered (call ∷ earlier)
      covers-on = by (turned script is U row below earlier call along.1)
        where
          by : Turning U earlier call → Covered (call ∷ earlier)
          by (Same kept cell last) = still-last cell last
          by (Bare free bare) = with-last (λ some. absurd (none-some (UnitAt (call ∷ earlier)).cell bare some))
          by (Taken c last) = still-last c.cell last
          by (Marked at id1 n cell what done free last) = by-owner id1 last (puts_are_of_owners script earlier call is along row unit id1 below inside (at, n, cell, what) done)
          by (Freed at id1 n what own free cell last) = still-last cell last

    -- The parity is not given back
    module _ (note : Note) (before : Covers earlier note) (put : Happened (IsPut U row id) earlier) (write : IsWrite script.n row id earlier) (rid : Number) (k : Option Number)
        (place : call.bay ≡ P) (what : call.ask.what ≡ Release row rid k) (mine : note_id (ParityAt earlier).note rid ≡ true) where
      gives : Asker script is earlier call
      gives = asker script is earlier call along.0 along.1 row (ap (λ (w : Request). row_of w) what)

      named : note.id ≡ (gives).hand.hand.id
      named =
          let own = noted-by (ParityAt earlier).note rid mine in
          let one : note ≡ own.0 = same-some note own.0 (sym before.noted ∙ own.1) in
          let same : rid ≡ (gives).hand.hand.id =
          id-is-own script is earlier call.ask.host (gives).steps (gives).hand call (gives).asked rid (ap (λ (w : Request). id_of w) what) in
          ap (λ (x : Note). x.id) one ∙ own.2 ∙ same

      opened-keeps : (c : Call) → IsIn c (calls_at script earlier call.ask.host) → (o : Opened P row note c) → Found o.how o.grant.seized note → ⊥
      opened-keeps c i o (Anew none own) =
          own-keeps script is row unit inside id earlier along.0 call.ask.host (gives).steps (gives).hand call (gives).asked write (sym before.origin ∙ own ∙ named) put rid k what place
      opened-keeps c i o (Handed seizes was noted origin mask) =
          let kind : o.how ≡ kind_of (gives).hand.hand.task = (made-kind script is earlier call.ask.host (gives).steps (gives).hand c i row note.id o.how o.mask o.want o.what).0 in
          let task = seize-recovers (gives).hand.hand.task (sym seizes ∙ kind) in
          recovery-keeps script is row unit inside id earlier along.0 call.ask.host (gives).steps (gives).hand call (gives).asked rid k what place was
          (in-happened (λ x. IsClaim P row x × Seizes was x) c (calls_at script earlier call.ask.host) i ((o.place, note.id, o.how, o.mask, o.want, o.what), (o.grant, o.granted, noted)))
          (ap (λ (m : ℕ). has_unit m unit) mask ∙ before.masked)
          (λ x g j claim granted. seen x g j claim granted task ∙ sym before.origin ∙ sym origin)
          task.0 task.1
        where
          seen : (x : Call) (g : Grant) → IsIn x (calls_at script earlier call.ask.host) → IsClaim U row x → grant_of x.answer.reply ≡ Some g → (at : RowNo) × ((gives).hand.hand.task ≡ tasks.Recover at) → g.last ≡ id
          seen x g j claim granted task =
              before.shown call.ask.host (gives).steps (gives).hand
              (subst (λ (t : Task). IsRecoveryOf row t) (sym task.1)
              (sym (same-row script is row unit inside id earlier along.0 call.ask.host (gives).steps (gives).hand call (gives).asked rid k what place task.0 task.1))) named x g j claim granted

      not-freed : ⊥
      not-freed =
          let found = happened-in (calls_at script earlier call.ask.host)
          (own-opened script is P row below earlier along.0 call.ask.host (gives).steps (gives).hand (errand_of call) (gives).asked note before.noted named) in
          opened-keeps found.0 found.1 found.2 found.2.found

    covered-on : Happened (IsPut U row id) earlier → IsWrite script.n row id earlier → Covered earlier → Covered (call ∷ earlier)
    covered-on put write (inl none) = still-bare none
    covered-on put write (inr (note, before)) = by (turned script is P row below earlier call along.1)
      where
        by : Turning P earlier call → Covered (call ∷ earlier)
        by (Same kept cell last) = covers-on note note before (kept ∙ before.noted) refl refl
        by (Bare free bare) = inl bare
        by (Taken c last) =
            covers-on note (claimed_note call.ask c.id c.mask (Some note)) before
            (c.note ∙ ap (λ (o : Option Note). Some (claimed_note call.ask c.id c.mask o)) before.noted) refl refl
        by (Marked at id1 n cell what done free last) = absurd (quiet id1 (at, n, cell, what) done)
        by (Freed at id1 n what own free cell last) = absurd (not-freed note before put write id1 n at what own)

  -- Along a history
  pub covered : (later earlier : List Call) (call : Call) → IsHistory script (later ++ call ∷ earlier) → IsWrite script.n row id earlier → IsPut U row id call → IsDone call → (IsPutSince script.n row later → ⊥) →
      Covered (later ++ call ∷ earlier)
  covered [] earlier call along write (place, n, cell, what) done none = covered-now earlier call along n cell place what done write
  covered (c ∷ later) earlier call along write put done none =
      covered-on (later ++ call ∷ earlier) c along (λ by is_put is_done. none (inl (by, is_put, is_done)))
      (happened-later (IsPut U row id) later earlier call (inl put))
      (happened-later (IsParityClaim script.n row id) later earlier call (inr write))
      (covered later earlier call along.0 write put done (λ since. none (inr since)))

-- a row that is none has no cell
no-cell : (script : Script) → IsScript script → (history : List Call) (at : BayNo) (row : RowNo) → script.rows ≤ row.0 → cell_at script history row at ≡ None
no-cell script is history at row past =
    let rows : length (bay_at script at history).slots ≡ script.rows = bay-rows script at history in
    ap (λ (s : Slot). s.cell) (get_or_past (bay_at script at history).slots row.0 (bare_slot (number 0)) (omega (arith, rows, past)))

none-is : (o : Option Cell) → o ≡ None → IsNone o
none-is o e = ap (λ (x : Option Cell). is_some x) e

pub puts_are_covered : PutsAreCovered
puts_are_covered script later earlier call row unit id is along inside write put done none = by (nat_lt row.0 script.rows) refl
  where
    by : (b : Bool) → nat_lt row.0 script.rows ≡ b → IsNone (cell_at script (later ++ call ∷ earlier) row (parity_bay script.n row))
        ⊎ IsOrigin id unit (slot_at script (later ++ call ∷ earlier) (parity_bay script.n row) row).note
    by true e =
        let below : row.0 < script.rows = grind (arith, nat_tests) in
        told below (covered script is row below unit inside id later earlier call along write put done none)
      where
        told : (below : row.0 < script.rows) → Covered script is row below unit inside id (later ++ call ∷ earlier) →
            IsNone (cell_at script (later ++ call ∷ earlier) row (parity_bay script.n row)) ⊎ IsOrigin id unit (slot_at script (later ++ call ∷ earlier) (parity_bay script.n row) row).note
        told below (inl bare) = inl (none-is (cell_at script (later ++ call ∷ earlier) row (parity_bay script.n row)) bare)
        told below (inr (note, c)) = inr (subst (λ (o : Option Note). IsOrigin id unit o) (sym c.noted) (c.origin, c.masked))
    by false e =
        let past : script.rows ≤ row.0 = grind (arith, nat_tests) in
        inl (none-is (cell_at script (later ++ call ∷ earlier) row (parity_bay script.n row)) (no-cell script is (later ++ call ∷ earlier) (parity_bay script.n row) row past))
