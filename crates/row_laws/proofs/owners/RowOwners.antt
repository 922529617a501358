-- A write or rebuild that may still put a unit owns its row.
use Rattle.std.proofs.Common.{◌≡◌, ◌⊎◌, inl, inr, refl, sym, ap, subst, ◌∙◌, ℕ, ◌+◌, ◌<◌, ◌≤◌, ◌==◌, ◌&&◌, if◌then◌else◌, Bool, true, false, List, [], ◌∷◌, Option, Some, None, arith}
use Rattle.std.proofs.lemmas.Bool.{eq-eqb}
use Rattle.raid_base.specs.declared.numbers.BayNo.{BayNo}
use Rattle.raid_base.specs.declared.numbers.HostNo.{HostNo}
use Rattle.raid_base.specs.declared.numbers.RowNo.{RowNo}
use Rattle.raid_base.specs.declared.numbers.Number.{Number}
use Rattle.raid_base.specs.declared.cells.Cell.{Cell}
use Rattle.raid_base.specs.declared.messages.How.{How}
use Rattle.raid_base.specs.declared.messages.Note.{Note}
use Rattle.raid_base.specs.declared.messages.Call.{Call}
use Rattle.raid_base.specs.declared.messages.Request.{Request}
use Rattle.raid_base.specs.declared.messages.Request.TheVariants.{Share, Claim, Confirm, Put, Release, Lose, Fit}
use Rattle.raid_base.specs.declared.messages.Reply.TheVariants.{Fitted}
use Rattle.raid_base.specs.declared.jobs.Task.{Task}
use Rattle.raid_base.specs.Replies.{is_held, is_missing}
use Rattle.raid_base.specs.Steps.{Steps, Standing, errand_of}
use Rattle.stripe_layout.specs.Placement.{parity_bay, bay_of}
use Rattle.slot_rules.specs.Slots.{Slot}
use Rattle.attempts.specs.Taking.{Finish}
use Rattle.attempts.specs.Phases as phases
use Rattle.attempts.specs.Phases.{parity_slot, IsIn, Past, is_due, has_slot, MayAsk, after_asking}
use Rattle.attempts.specs.Once.{ClaimsAreOfTheirKind}
use Rattle.script_text.specs.Script.{Script, jobs_of}
use Rattle.script_text.specs.Ranges.{IsScript}
use Rattle.histories.specs.Calls.{Happened, id_of, row_of, is_row, is_at}
use Rattle.histories.specs.Hands.{Phased, past_of}
use Rattle.histories.specs.History.{if_taken, progress_at, bay_at, IsHistory}
use Rattle.histories.proofs.bounds.BoundsTakes.{before_start}
use Rattle.histories.proofs.hands.HandSteps.{jobs-bare}
use Rattle.histories.proofs.hands.PhasedHands.{phased}
use Rattle.histories.specs.RowStates.{slot_at}
use Rattle.row_laws.specs.Hands.{HasHand, calls_at, IsPutter}
use Rattle.histories.specs.Leftovers.{IsSeizure}
use Rattle.row_laws.specs.Holding.{HasNote, BlankNotesMend, AnsweredAreFree, HoldersKeepNotes, MayPutTo, CameFrom, Owns, PuttersOwnRows}
use Rattle.row_laws.proofs.hands.HandMoves.{may-next, Came, Goes, Stayed, Begun, Went, came}
use Rattle.row_laws.proofs.hands.SlotMoves.{SlotMove, Kept, Touched, Lost, Fitted, moved}
use Rattle.row_laws.proofs.hands.SlotDoes.{IsGone, Does}
use Rattle.row_laws.proofs.owners.RowOwnersSlots.{FromClaim, does-at, note-from, empty-bare, origins}
use Rattle.row_laws.proofs.owners.RowOwnersHands.{other-id, stands-behind, may-before, put-to-come}
use Rattle.row_laws.proofs.owners.RowOwnersCalls.{IsNote, noted-by, has-noted, noted-has, putter-kind, confirm-leaves, confirm-held, confirm-missing}
use Rattle.row_laws.proofs.owners.RowOwnersTasks.{seizes, Putter, OwnedAt}
use Rattle.row_laws.proofs.owners.RowOwnersOthers.{others-leave}
use Rattle.row_laws.proofs.holders.HolderNotesHands.{confirmed-late}

module _ (kinds : ClaimsAreOfTheirKind) (script : Script) (is : IsScript script) where
  abbrev parity : RowNo → BayNo
  parity row = parity_bay script.n row

  module _ (earlier : List Call) (call : Call) (along : IsHistory script (call ∷ earlier)) (row : RowNo) (unit : ℕ) (below : row.0 < script.rows) (inside : unit + 1 < script.n) where
    abbrev At : BayNo
    At = bay_of script.n row unit

    module _ (before : OwnedAt script earlier) (host : HostNo) (steps : Steps Finish) (h : HasHand script (call ∷ earlier) host steps)
        (goes : Goes script is earlier call along.0 along.1 host h.hand.id h.hand.task (calls_at script (call ∷ earlier) host)) (a : Putter script (call ∷ earlier) host steps h row unit) where
      abbrev Calls : List Call
      Calls = calls_at script earlier host

      abbrev Now : Standing Finish
      Now = record { seen = (progress_at script host (call ∷ earlier)).seen; steps = steps }

      abbrev Before : Standing Finish
      Before = record { seen = (progress_at script host earlier).seen; steps = goes.steps }

      abbrev Past-after : Request → Past
      Past-after what = after_asking (past_of Calls) call.bay what call.answer.reply

      abbrev ParityBefore : Slot
      ParityBefore = slot_at script earlier (parity row) row

      abbrev ParityAfter : Slot
      ParityAfter = slot_at script (call ∷ earlier) (parity row) row

      earlier-phases : Phased script.n goes.before.hand.id Calls goes.steps
      earlier-phases = phased script is host (progress_at script host earlier) goes.steps goes.before.hand

      may-ask : MayAsk script.n goes.before.hand.id (earlier-phases).past call.bay call.ask.what
      may-ask = may-next script.n goes.before.hand.id (earlier-phases).past goes.steps (errand_of call) (earlier-phases).keeps goes.asked

      later-phases : Phased script.n h.hand.id (calls_at script (call ∷ earlier) host) steps
      later-phases = phased script is host (progress_at script host (call ∷ earlier)) steps h.hand

      to-come : (IsIn (parity_slot script.n row) (later-phases).past.put → ⊥) × (3 ≤ (later-phases).past.phase → ⊥)
      to-come = put-to-come script.n h.hand.id host Now (later-phases).past At row (later-phases).keeps a.may

      past-is : (what : Request) → call.ask.what ≡ what → past_of (calls_at script (call ∷ earlier) host) ≡ Past-after what
      past-is what e = ap (λ (calls : List Call). past_of calls) goes.calls ∙ ap (λ (w : Request). Past-after w) e

      confirmed-as : (what : Request) → call.ask.what ≡ what → IsIn row (Past-after what).confirmed
      confirmed-as what e = subst (λ (p : Past). IsIn row p.confirmed) (past-is what e) a.confirmed

      parity-to-come : (what : Request) → call.ask.what ≡ what → IsIn (parity_slot script.n row) (Past-after what).put → ⊥
      parity-to-come what e i =
          (to-come).0 (subst (λ (slots : List phases.Slot). IsIn (parity_slot script.n row) slots) (sym ((later-phases).same.put ∙ ap (λ (p : Past). p.put) (past-is what e))) i)

      not-late : (what : Request) → call.ask.what ≡ what → 3 ≤ (Past-after what).phase → ⊥
      not-late what e late =
          let now : 3 ≤ (past_of (calls_at script (call ∷ earlier) host)).phase = subst (λ (p : Past). 3 ≤ p.phase) (sym (past-is what e)) late in
          let up = (later-phases).same.phase in
          (to-come).1 (omega (arith, now, up))

      -- it has taken all that it takes
      takes-no-more : IsIn row (past_of Calls).confirmed → (earlier-phases).past.phase ≤ 0 → ⊥
      takes-no-more confirmed early =
          let one : 1 ≤ (past_of Calls).phase = confirmed-late Calls row confirmed in
          let up = (earlier-phases).same.phase in
          absurd (omega (arith, one, up, early))

      noted-before : ((r : RowNo) (id : Number) (how : How) (mask : ℕ) (want : Bool) → call.ask.what ≡ Claim r id how mask want → ⊥) → HasNote goes.before.hand.id (slot_at script earlier At row).note
      noted-before other = by (note-from script is earlier call along.1 At row below found.0 found.1)
        where
          found : IsNote h.hand.id (slot_at script (call ∷ earlier) At row).note
          found = has-noted (slot_at script (call ∷ earlier) At row).note h.hand.id a.noted

          by : ((slot_at script earlier At row).note ≡ Some found.0)
              ⊎ ((call.bay ≡ At) × FromClaim call.ask row (slot_at script earlier At row).note call.ask.what call.answer.reply found.0) →
              HasNote goes.before.hand.id (slot_at script earlier At row).note
          by (inl same) = noted-has (slot_at script earlier At row).note goes.before.hand.id (found.0, same, found.2 ∙ sym goes.same_id)
          by (inr from) = absurd (other row found.0.id from.1.how from.1.mask from.1.want from.1.claims)

      owned-before : IsIn row (past_of Calls).confirmed → HasNote goes.before.hand.id (slot_at script earlier At row).note → Owns script earlier row h.hand.id
      owned-before confirmed noted =
          let may : MayPutTo host Before At row h.hand.id =
          may-before host Before Now call At row h.hand.id goes.asked (stands-behind script is earlier call along.0 along.1 host steps h goes) a.may in
          subst (λ (id : Number). Owns script earlier row id) goes.same_id
          (before host goes.steps goes.before row unit below inside (record {
            putter = subst (λ (t : Task). IsPutter t) (sym goes.same_task) a.putter;
            confirmed = confirmed;
            noted = noted;
            may = subst (λ (id : Number). MayPutTo host Before At row id) (sym goes.same_id) may;
          }))

      still-owned : ParityAfter ≡ ParityBefore → Owns script earlier row h.hand.id → Owns script (call ∷ earlier) row h.hand.id
      still-owned same owned = subst (λ (s : Slot). (s.cell ≡ None) ⊎ CameFrom h.hand.id s.note) (sym same) owned

      -- a put is of another slot than the row's parity
      puts-leave : (r : RowNo) (id n : Number) (cell : Cell) → call.ask.what ≡ Put r id n cell → Owns script (call ∷ earlier) row h.hand.id
      puts-leave r id n cell what = by (moved script is earlier call along.1 (parity row) row below)
        where
          owned : Owns script earlier row h.hand.id
          owned = owned-before (confirmed-as (Put r id n cell) what)
              (noted-before (λ r1 id1 how mask want claims. let bad : Put r id n cell ≡ Claim r1 id1 how mask want = sym what ∙ claims in absurd (cc)))

          by : SlotMove (bay_at script (parity row) earlier) (parity row) row call (bay_at script (parity row) (call ∷ earlier)) → Owns script (call ∷ earlier) row h.hand.id
          by (Kept slot empty life outside) = still-owned slot owned
          by (Lost place lost was slot empty life) = inl (ap (λ (s : Slot). s.cell) slot)
          by (Fitted place fitted was slot empty life) = inl (ap (λ (s : Slot). s.cell) slot)
          by (Touched place of reply slot empty life) =
              let same : r ≡ row = (let both : Some r ≡ Some row = sym (ap (λ (w : Request). row_of w) what) ∙ of in cc) in
              let put : record { bay = call.bay; row = r } ≡ parity_slot script.n row =
              ap (λ (b : BayNo). let x : phases.Slot = record { bay = b; row = r } in x) place ∙ ap (λ (y : RowNo). let x : phases.Slot = record { bay = parity row; row = y } in x) same in
              absurd (parity-to-come (Put r id n cell) what (inl put))

      -- a confirm leaves the parity's slot, and tells that the row is owned
      module _ (r : RowNo) (id : Number) (want : Bool) (what : call.ask.what ≡ Confirm r id want) where
        same-slot : ParityAfter ≡ ParityBefore
        same-slot = by (moved script is earlier call along.1 (parity row) row below)
          where
            by : SlotMove (bay_at script (parity row) earlier) (parity row) row call (bay_at script (parity row) (call ∷ earlier)) → ParityAfter ≡ ParityBefore
            by (Kept slot empty life outside) = slot
            by (Lost place lost was slot empty life) = absurd (let bad : Lose ≡ Confirm r id want = sym lost ∙ what in cc)
            by (Fitted place fitted was slot empty life) = absurd (let bad : Fit ≡ Confirm r id want = sym fitted ∙ what in cc)
            by (Touched place of reply slot empty life) =
                let same : r ≡ row = (let both : Some r ≡ Some row = sym (ap (λ (w : Request). row_of w) what) ∙ of in cc) in
                confirm-leaves (bay_at script (parity row) earlier) call.ask ParityBefore row h.hand.id id want call.ask.what call.answer.reply ParityAfter
                (does-at script is earlier call along.1 (parity row) row below of reply slot) (what ∙ ap (λ (x : RowNo). Confirm x id want) same)

        confirmed-owned : IsIn row (past_of Calls).confirmed → Owns script (call ∷ earlier) row h.hand.id
        confirmed-owned confirmed =
            still-owned same-slot
            (owned-before confirmed (noted-before (λ r1 id1 how mask want1 claims. let bad : Confirm r id want ≡ Claim r1 id1 how mask want1 = sym what ∙ claims in absurd (cc))))

        -- it has just confirmed the row
        module _ (same : r ≡ row) where
          may : MayAsk script.n goes.before.hand.id (earlier-phases).past call.bay (Confirm r id want)
          may = subst (λ (w : Request). MayAsk script.n goes.before.hand.id (earlier-phases).past call.bay w) what may-ask

          place : call.bay ≡ parity row
          place = may.2 ∙ ap (λ (x : RowNo). parity x) same

          asked : is_at (parity row) row call ≡ true
          asked = both (call.bay.0 == (parity row).0) (is_row row (row_of call.ask.what)) (eq-eqb call.bay.0 (parity row).0 (ap (λ (b : BayNo). b.0) place))
              (ap (λ (w : Request). is_row row (row_of w)) what ∙ eq-eqb r.0 row.0 (ap (λ (x : RowNo). x.0) same))
            where
              both : (x y : Bool) → x ≡ true → y ≡ true → (x && y) ≡ true
              both true y p q = q
              both false y p q = p

          this : call.ask.what ≡ Confirm row id want
          this = what ∙ ap (λ (x : RowNo). Confirm x id want) same

          does : Does (bay_at script (parity row) earlier) call.ask ParityBefore call.ask.what call.answer.reply ParityAfter
          does = by (moved script is earlier call along.1 (parity row) row below)
            where
              by : SlotMove (bay_at script (parity row) earlier) (parity row) row call (bay_at script (parity row) (call ∷ earlier)) →
                  Does (bay_at script (parity row) earlier) call.ask ParityBefore call.ask.what call.answer.reply ParityAfter
              by (Kept slot empty life outside) = absurd (let bad : true ≡ false = sym asked ∙ outside in cc)
              by (Lost at lost was slot empty life) = absurd (let bad : Lose ≡ Confirm r id want = sym lost ∙ what in cc)
              by (Fitted at fitted was slot empty life) = absurd (let bad : Fit ≡ Confirm r id want = sym fitted ∙ what in cc)
              by (Touched at of reply slot empty life) = does-at script is earlier call along.1 (parity row) row below of reply slot

          held-owns : is_held call.answer.reply ≡ true → Owns script earlier row h.hand.id
          held-owns held = inr (subst (λ (o : Option Note). CameFrom h.hand.id o) (sym found.1) (one (origins script is earlier along.0 (parity row) row below found.0 found.1)))
            where
              found : IsNote id (ParityBefore).note
              found = noted-by (ParityBefore).note id
                  (confirm-held (bay_at script (parity row) earlier) call.ask ParityBefore row h.hand.id id want call.ask.what call.answer.reply ParityAfter does this held)

              one : (found.0.origin ≡ found.0.id) ⊎ Happened (IsSeizure found.0.host found.0.id) earlier → found.0.origin ≡ h.hand.id
              one (inl own) = own ∙ found.2 ∙ may.0 ∙ goes.same_id
              one (inr seized) =
                  absurd (putter-kind goes.before.hand.task (subst (λ (t : Task). IsPutter t) (sym goes.same_task) a.putter)
                  (seizes kinds script is earlier along.0 host goes.steps goes.before (errand_of call) goes.asked found.0.host found.0.id (found.2 ∙ may.0) seized))

          missing-owns : is_missing call.answer.reply ≡ true → Owns script earlier row h.hand.id
          missing-owns missing =
              one (confirm-missing (bay_at script (parity row) earlier) call.ask ParityBefore row h.hand.id id want call.ask.what call.answer.reply ParityAfter does this missing)
            where
              one : IsGone (bay_at script (parity row) earlier) ParityBefore → Owns script earlier row h.hand.id
              one (inl empty) = inl (empty-bare script is earlier along.0 (parity row) row below empty).0
              one (inr none) = inl none

          due-owns : (b : Bool) → is_due b call.answer.reply ≡ true → Owns script earlier row h.hand.id
          due-owns true held = held-owns held
          due-owns false missing = missing-owns missing

        confirms-leave : Owns script (call ∷ earlier) row h.hand.id
        confirms-leave = by (is_due (has_slot (record { bay = call.bay; row = r }) (past_of Calls).granted) call.answer.reply) refl (confirmed-as (Confirm r id want) what)
          where
            by : (b : Bool) → is_due (has_slot (record { bay = call.bay; row = r }) (past_of Calls).granted) call.answer.reply ≡ b → IsIn row (if b then r ∷ (past_of Calls).confirmed else (past_of Calls).confirmed) →
                Owns script (call ∷ earlier) row h.hand.id
            by false e i = confirmed-owned i
            by true e (inl same) = still-owned same-slot (due-owns same (has_slot (record { bay = call.bay; row = r }) (past_of Calls).granted) e)
            by true e (inr i) = confirmed-owned i

      -- the row is owned after it
      own-leaves : Owns script (call ∷ earlier) row h.hand.id
      own-leaves = by call.ask.what refl may-ask
        where
          by : (what : Request) → call.ask.what ≡ what → MayAsk script.n goes.before.hand.id (earlier-phases).past call.bay what → Owns script (call ∷ earlier) row h.hand.id
          by (Share r id want) e may = absurd (takes-no-more (confirmed-as (Share r id want) e) may.1)
          by (Claim r id how mask want) e may = absurd (takes-no-more (confirmed-as (Claim r id how mask want) e) may.1)
          by (Confirm r id want) e may = confirms-leave r id want e
          by (Put r id n cell) e may = puts-leave r id n cell e
          by (Release r id n) e may = absurd (not-late (Release r id n) e (omega arith))
          by Lose e may = absurd may
          by Fit e may = absurd may

-- after every call
module _ (blank : BlankNotesMend) (free : AnsweredAreFree) (keep : HoldersKeepNotes) (kinds : ClaimsAreOfTheirKind) (script : Script) (is : IsScript script) where
  owned : (history : List Call) → IsHistory script history → OwnedAt script history
  owned [] along host steps h row unit below inside a =
      absurd (subst (λ (calls : List Call). IsIn row (past_of calls).confirmed) (jobs-bare script host (jobs_of script host) (before_start script host) refl) a.confirmed)
  owned (call ∷ earlier) along host steps h row unit below inside a = by (owned earlier along.0) (came script is earlier call along.0 along.1 host steps h)
    where
      by : OwnedAt script earlier → Came script is earlier call along.0 along.1 host steps h.hand.id h.hand.task (calls_at script (call ∷ earlier) host) → Owns script (call ∷ earlier) row h.hand.id
      by before (Begun own bare) = absurd (subst (λ (calls : List Call). IsIn row (past_of calls).confirmed) bare a.confirmed)
      by before (Went goes) = own-leaves kinds script is earlier call along row unit below inside before host steps h goes a
      by before (Stayed stays) =
          subst (λ (id : Number). Owns script (call ∷ earlier) row id) stays.same_id
          (others-leave blank free keep kinds script is earlier call along row unit below inside host steps stays.before stays.other was (before host steps stays.before row unit below inside was))
        where
          At : BayNo
          At = bay_of script.n row unit

          found : IsNote h.hand.id (slot_at script (call ∷ earlier) (At) row).note
          found = has-noted (slot_at script (call ∷ earlier) (At) row).note h.hand.id a.noted

          noted : ((slot_at script earlier (At) row).note ≡ Some found.0)
              ⊎ ((call.bay ≡ At) × FromClaim call.ask row (slot_at script earlier (At) row).note call.ask.what call.answer.reply found.0) →
              HasNote stays.before.hand.id (slot_at script earlier (At) row).note
          noted (inl same) = noted-has (slot_at script earlier (At) row).note stays.before.hand.id (found.0, same, found.2 ∙ sym stays.same_id)
          noted (inr from) =
              absurd (other-id script is earlier call along host h.hand.id stays.other h.hand.own (ap (λ (w : Request). id_of w) from.1.claims ∙ ap (λ (x : Number). Some x) found.2))

          seen-same : (progress_at script host (call ∷ earlier)).seen ≡ (progress_at script host earlier).seen
          seen-same = ap (λ (b : Bool). (if_taken script host (progress_at script host earlier) call b).seen) stays.other

          was : Putter script earlier host steps stays.before row unit
          was = record {
            putter = subst (λ (t : Task). IsPutter t) (sym stays.same_task) a.putter;
            confirmed = subst (λ (calls : List Call). IsIn row (past_of calls).confirmed) stays.calls a.confirmed;
            noted = noted (note-from script is earlier call along.1 (At) row below found.0 found.1);
            may = subst (λ (id : Number). MayPutTo host (record { seen = (progress_at script host earlier).seen; steps = steps }) (At) row id) (sym stays.same_id)
                (subst (λ (seen : Number). MayPutTo host (record { seen = seen; steps = steps }) (At) row h.hand.id) seen-same a.may);
          }

-- So it is in every history
pub putters_own_rows : BlankNotesMend → AnsweredAreFree → HoldersKeepNotes → ClaimsAreOfTheirKind → PuttersOwnRows
putters_own_rows blank free keep kinds script history is along host steps h row unit below inside putter confirmed noted may =
    owned blank free keep kinds script is history along host steps h row unit below inside (record { putter = putter; confirmed = confirmed; noted = noted; may = may })
