-- A row stays owned by a write or rebuild that may still put a unit, whatever another host asks.
use Rattle.std.proofs.Common.{◌≡◌, ◌⊎◌, inl, inr, refl, sym, ap, subst, ◌∙◌, ℕ, ◌+◌, ◌-◌, ◌<◌, ◌==◌, true, false, List, [], ◌∷◌, Option, Some, None, IsSome, is_some, arith}
use Rattle.raid_base.specs.declared.numbers.BayNo.{BayNo}
use Rattle.raid_base.specs.declared.numbers.HostNo.{HostNo}
use Rattle.raid_base.specs.declared.numbers.RowNo.{RowNo}
use Rattle.raid_base.specs.declared.numbers.Number.{Number}
use Rattle.raid_base.specs.declared.cells.Cell.{Cell}
use Rattle.raid_base.specs.declared.messages.How.TheVariants.{Seize}
use Rattle.raid_base.specs.declared.messages.Note.{Note}
use Rattle.raid_base.specs.declared.messages.Call.{Call}
use Rattle.raid_base.specs.declared.messages.Errand.{Errand}
use Rattle.raid_base.specs.declared.messages.Grant.{Grant}
use Rattle.raid_base.specs.declared.messages.Request.{Request}
use Rattle.raid_base.specs.declared.messages.Request.TheVariants.{Put, Release}
use Rattle.raid_base.specs.declared.messages.Reply.TheVariants.{Fitted}
use Rattle.raid_base.specs.declared.jobs.Task.{Task}
use Rattle.raid_base.specs.declared.jobs.Task.TheVariants as tasks
use Rattle.raid_base.specs.Replies.{grant_of}
use Rattle.raid_base.specs.Steps.{Steps, Standing, errand_of}
use Rattle.stripe_layout.specs.Placement.{parity_bay, bay_of, bays_of, units}
use Rattle.stripe_layout.specs.Layout.{IsLaidOut}
use Rattle.stripe_layout.proofs.LayoutLemmas.{laid_out}
use Rattle.slot_rules.specs.Slots.{Slot}
use Rattle.slot_rules.specs.Rules.{note_id}
use Rattle.attempts.specs.Taking.{Finish}
use Rattle.attempts.specs.Phases as phases
use Rattle.attempts.specs.Phases.{parity_slot, IsIn, Past, is_due, has_slot, MayAsk, after_asking}
use Rattle.attempts.specs.Once.{ClaimsAreOfTheirKind}
use Rattle.script_text.specs.Script.{Script}
use Rattle.script_text.specs.Ranges.{IsScript, IsTask}
use Rattle.histories.specs.Calls.{Happened, id_of}
use Rattle.histories.specs.History.{progress_at, bay_at, IsHistory}
use Rattle.histories.specs.RowStates.{slot_at, cell_at}
use Rattle.row_laws.specs.Hands.{HasHand, calls_at, IsRecoveryOf, IsAnswered}
use Rattle.histories.specs.Leftovers.{IsSeizure}
use Rattle.row_laws.specs.Holding.{HasNote, BlankNotesMend, AnsweredAreFree, IsRelease, GivesNothing, origin_of, IsOfOpenRecovery, HoldersKeepNotes, CameFrom, Owns}
use Rattle.histories.proofs.missing.MissingBays.{one_bay_is_missing}
use Rattle.row_laws.proofs.hands.HandMoves.{asked-id}
use Rattle.row_laws.proofs.hands.SlotMoves.{SlotMove, Kept, Touched, Lost, Fitted, moved}
use Rattle.row_laws.proofs.owners.RowOwnersTrees.{IsGranted, HasClaimed, AreAnswered, HasSeizedNone, MayFree}
use Rattle.row_laws.proofs.owners.RowOwnersSlots.{does-at, origins}
use Rattle.row_laws.proofs.owners.RowOwnersHands.{happened-in, Asker, asker, other-id, own-note, grants-live, may-asks}
use Rattle.row_laws.proofs.owners.RowOwnersCalls.{IsNote, noted-by, noted-has, came-noted, is-rebuild, putter-kind, some-of, unit-in, taking-puts, taking-frees, owned-after}
use Rattle.row_laws.proofs.owners.RowOwnersTasks.{seizes, mends, recovery-asks, rebuild-asks, Putter}
use Rattle.row_laws.proofs.hands.HandClaims.{kind_of, seize-recovers}

module _ (blank : BlankNotesMend) (free : AnsweredAreFree) (keep : HoldersKeepNotes) (kinds : ClaimsAreOfTheirKind) (script : Script) (is : IsScript script) where
  abbrev parity : RowNo → BayNo
  parity row = parity_bay script.n row

  layout : (row : RowNo) → IsLaidOut script.n row
  layout row = laid_out script.n row is.devices_least

  module _ (earlier : List Call) (call : Call) (along : IsHistory script (call ∷ earlier)) (row : RowNo) (unit : ℕ) (below : row.0 < script.rows) (inside : unit + 1 < script.n) where
    abbrev At : BayNo
    At = bay_of script.n row unit

    small : unit < script.n - 1
    small = omega (arith, inside)

    at-in : IsIn At (bays_of script.n row (units script.n))
    at-in = unit-in script.n row unit 0 (script.n - 1) (omega arith) (omega (arith, small))

    module _ (host : HostNo) (steps : Steps Finish) (h : HasHand script earlier host steps) (other : (call.ask.host.0 == host.0) ≡ false) (a : Putter script earlier host steps h row unit) where
      abbrev ParitySlot : Slot
      ParitySlot = slot_at script earlier (parity row) row

      -- the call has another id, and no seizure has the putter's
      apart : (id : Number) → id_of call.ask.what ≡ Some id → id ≡ h.hand.id → ⊥
      apart id named same = other-id script is earlier call along host h.hand.id other h.hand.own (named ∙ ap (λ (x : Number). Some x) same)

      never-seized : (of : HostNo) (id : Number) → id ≡ h.hand.id → Happened (IsSeizure of id) earlier → ⊥
      never-seized of id same seized =
          let now : Standing Finish = record { seen = (progress_at script host earlier).seen; steps = steps } in
          let next = may-asks host now At row h.hand.id a.may in
          putter-kind h.hand.task a.putter (seizes kinds script is earlier along.0 host steps h next.0 next.1 of id same seized)

      -- the attempt that asked holds the parity
      module _ (x : Asker script is earlier call) (by : Number) (named : id_of call.ask.what ≡ Some by) (own : note_id (ParitySlot).note by ≡ true) where
        its : by ≡ x.hand.hand.id
        its = let both : Some by ≡ Some x.hand.hand.id = sym named ∙ asked-id script is earlier call.ask.host x.steps x.hand call x.asked in cc

        note : IsNote by (ParitySlot).note
        note = noted-by (ParitySlot).note by own

        held : HasNote x.hand.hand.id (ParitySlot).note
        held = noted-has (ParitySlot).note x.hand.hand.id (note.0, note.1, note.2 ∙ its)

        -- a recovery that was answered everywhere finds no such note
        finds : (at : RowNo) → x.hand.hand.task ≡ tasks.Recover at → row ≡ at → AreAnswered script.n at [] (calls_at script earlier call.ask.host) → ⊥
        finds at task same answered =
            free script earlier is along.0 call.ask.host host x.steps steps x.hand h row unit below inside
            (subst (λ (t : Task). IsRecoveryOf row t) (sym task) (sym same)) held
            (found (subst (λ (r : RowNo). AreAnswered script.n r [] (calls_at script earlier call.ask.host)) (sym same) answered At at-in))
            a.putter a.confirmed a.noted
          where
            found : IsIn At [] ⊎ Happened (IsAnswered At row) (calls_at script earlier call.ask.host) → Happened (IsAnswered At row) (calls_at script earlier call.ask.host)
            found (inl i) = absurd i
            found (inr happened) = happened

        -- where the note came from the putter a recovery has seized it
        recovery : CameFrom h.hand.id (ParitySlot).note → (at : RowNo) × (x.hand.hand.task ≡ tasks.Recover at)
        recovery from = seize-recovers x.hand.hand.task (sym (one (origins script is earlier along.0 (parity row) row below note.0 note.1)))
          where
            one : (note.0.origin ≡ note.0.id) ⊎ Happened (IsSeizure note.0.host note.0.id) earlier → kind_of x.hand.hand.task ≡ Seize
            one (inl own_origin) = absurd (apart by named (sym note.2 ∙ sym own_origin ∙ came-noted (ParitySlot).note h.hand.id note.0 note.1 from))
            one (inr seized) = seizes kinds script is earlier along.0 call.ask.host x.steps x.hand (errand_of call) x.asked note.0.host note.0.id (note.2 ∙ its) seized

        -- a recovery that gives the parity back was answered everywhere, or its own claim opened the note
        no-free : (n : Option Number) → call.ask.what ≡ Release row by n → call.bay ≡ parity row → CameFrom h.hand.id (ParitySlot).note → ⊥
        no-free n what place from = one (freed.1 (place ∙ ap (λ (r : RowNo). parity r) freed.0))
          where
            found : (at : RowNo) × (x.hand.hand.task ≡ tasks.Recover at)
            found = recovery from

            freed : (row ≡ found.0) × (call.bay ≡ parity found.0 → MayFree script.n found.0 (calls_at script earlier call.ask.host))
            freed = (recovery-asks kinds script is earlier along.0 call.ask.host x.steps x.hand (errand_of call) x.asked found.0 found.1).frees row by n what

            unseized : HasSeizedNone script.n row (calls_at script earlier call.ask.host) → ⊥
            unseized none =
                let mine = own-note script is earlier along.0 call.ask.host x.steps x.hand (errand_of call) x.asked (parity row) row below note.0 note.1 (note.2 ∙ its) in
                let shown = happened-in (calls_at script earlier call.ask.host) mine in
                let came_own : note.0.origin ≡ note.0.id =
                shown.2.3 ∙ ap (λ (o : Option Note). origin_of note.0.id o) (none shown.0 shown.1 shown.2.0 shown.2.1 shown.2.2) in
                apart by named (sym note.2 ∙ sym came_own ∙ came-noted (ParitySlot).note h.hand.id note.0 note.1 from)

            one : MayFree script.n found.0 (calls_at script earlier call.ask.host) → ⊥
            one (inl answered) = finds found.0 found.1 freed.0 answered
            one (inr none) = unseized (subst (λ (r : RowNo). HasSeizedNone script.n r (calls_at script earlier call.ask.host)) (sym freed.0) none)

        -- a rebuild that puts a blank parity keeps the notes of all units
        blank-put : (n : Number) (cell : Cell) → call.ask.what ≡ Put row by n cell → (ParitySlot).cell ≡ None → ⊥
        blank-put n cell what none = one kept.3
          where
            found : (bay : BayNo) × (x.hand.hand.task ≡ tasks.Rebuild bay)
            found = is-rebuild x.hand.hand.task
                (mends kinds script is earlier along.0 call.ask.host x.steps x.hand (errand_of call) x.asked (parity row) row note.0 (note.2 ∙ its)
                (blank script earlier is along.0 (parity row) row note.0 (layout row).parity_in below none note.1).0)

            operator : call.ask.host.0 ≡ 0
            operator = (subst (λ (t : Task). IsTask script call.ask.host t) found.1 x.hand.hand.is).0

            asked : (row ≡ record { 0 = (progress_at script call.ask.host earlier).row }) × HasClaimed script.n (record { 0 = (progress_at script call.ask.host earlier).row }) [] (calls_at script earlier call.ask.host)
            asked = rebuild-asks kinds script is earlier along.0 call.ask.host x.steps x.hand (errand_of call) x.asked found.0 found.1 row by n cell what

            claims : HasClaimed script.n row [] (calls_at script earlier call.ask.host)
            claims = subst (λ (r : RowNo). HasClaimed script.n r [] (calls_at script earlier call.ask.host)) (sym asked.0) asked.1

            granted : Happened (IsGranted At row) (calls_at script earlier call.ask.host)
            granted = got (claims.got At (inr at-in))
              where
                got : IsIn At [] ⊎ Happened (IsGranted At row) (calls_at script earlier call.ask.host) → Happened (IsGranted At row) (calls_at script earlier call.ask.host)
                got (inl i) = absurd i
                got (inr happened) = happened

            claim : (c : Call) × IsIn c (calls_at script earlier call.ask.host) × IsGranted At row c
            claim = happened-in (calls_at script earlier call.ask.host) granted

            grant : (g : Grant) × (grant_of claim.0.answer.reply ≡ Some g)
            grant = some-of (grant_of claim.0.answer.reply) claim.2.1

            there : IsSome (cell_at script earlier row At)
            there = shown (cell_at script earlier row At) refl
              where
                shown : (o : Option Cell) → cell_at script earlier row At ≡ o → IsSome o
                shown (Some c) e = refl
                shown None e =
                    absurd ((layout row).apart unit small
                    (one_bay_is_missing script earlier is along.0 At (parity row) ((layout row).units_in unit small) (layout row).parity_in
                    (row, below, ap (λ (o : Option Cell). is_some o) e) (row, below, ap (λ (o : Option Cell). is_some o) none)))

            gives_nothing : GivesNothing x.steps (calls_at script earlier call.ask.host)
            gives_nothing = record {
              so_far = taking-frees (calls_at script earlier call.ask.host) claims.only;
              next = λ e asks frees. (
                  let same : errand_of call ≡ e = (let both : Some (errand_of call) ≡ Some e = sym x.asked ∙ asks in cc) in
                  let put : e.request ≡ Put row by n cell = ap (λ (y : Errand). y.request) (sym same) ∙ what in
                  subst (λ (w : Request). IsRelease w) put frees);
            }

            kept : (found : Note) × ((slot_at script earlier At row).note ≡ Some found) × (found.origin ≡ origin_of x.hand.hand.id grant.0.seized)
                × ((found.id ≡ x.hand.hand.id) ⊎ IsOfOpenRecovery script earlier row found)
            kept = keep script earlier is along.0 call.ask.host x.steps x.hand gives_nothing row unit below inside held claim.0 grant.0 claim.1 claim.2.0 grant.1
                (λ i. subst (λ (slots : List phases.Slot). IsIn (record { bay = At; row = row }) slots) (taking-puts (calls_at script earlier call.ask.host) claims.only) i)
                there
                (grants-live script is earlier along.0 call.ask.host x.steps x.hand operator At row below claim.0 claim.1 claim.2.0 grant.0 grant.1)

            mine : kept.0.id ≡ h.hand.id
            mine = subst (λ (o : Option Note). HasNote h.hand.id o) kept.1 a.noted

            one : (kept.0.id ≡ x.hand.hand.id) ⊎ IsOfOpenRecovery script earlier row kept.0 → ⊥
            one (inl its_own) = apart by named (its ∙ sym its_own ∙ mine)
            one (inr open_one) = never-seized kept.0.host kept.0.id mine open_one.seized

        -- so nobody else puts the parity
        no-put : (n : Number) (cell : Cell) → call.ask.what ≡ Put row by n cell → ((ParitySlot).cell ≡ None) ⊎ CameFrom h.hand.id (ParitySlot).note → ⊥
        no-put n cell what (inl none) = blank-put n cell what none
        no-put n cell what (inr from) =
            let found = recovery from in
            let put = (recovery-asks kinds script is earlier along.0 call.ask.host x.steps x.hand (errand_of call) x.asked found.0 found.1).puts row by n cell what in
            finds found.0 found.1 put.0 put.1

      -- the row stays owned
      pub others-leave : Owns script earlier row h.hand.id → Owns script (call ∷ earlier) row h.hand.id
      others-leave owned = by (moved script is earlier call along.1 (parity row) row below)
        where
          by : SlotMove (bay_at script (parity row) earlier) (parity row) row call (bay_at script (parity row) (call ∷ earlier)) → Owns script (call ∷ earlier) row h.hand.id
          by (Kept slot empty life outside) = subst (λ (s : Slot). (s.cell ≡ None) ⊎ CameFrom h.hand.id s.note) (sym slot) owned
          by (Lost place what was slot empty life) = inl (ap (λ (s : Slot). s.cell) slot)
          by (Fitted place what was slot empty life) = inl (ap (λ (s : Slot). s.cell) slot)
          by (Touched place of reply slot empty life) =
              let x : Asker script is earlier call = asker script is earlier call along.0 along.1 row of in
              owned-after (bay_at script (parity row) earlier) call.ask ParitySlot row h.hand.id call.ask.what call.answer.reply (slot_at script (call ∷ earlier) (parity row) row)
              (does-at script is earlier call along.1 (parity row) row below of reply slot) of
              (λ by n cell what own had. no-put x by (ap (λ (w : Request). id_of w) what) own n cell what had)
              (λ by n what own from. no-free x by (ap (λ (w : Request). id_of w) what) own n what place from)
              owned
