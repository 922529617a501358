-- While a recovery holds the parity of its row, no write or rebuild that has confirmed the row holds a unit of which a claim of
-- the recovery was answered.
use Rattle.std.proofs.Common.{◌≡◌, ◌⊎◌, inl, inr, refl, sym, ap, subst, ◌∙◌, ℕ, ◌+◌, ◌%◌, ◌<◌, ◌≤◌, ◌==◌, Bool, true, false, if◌then◌else◌, List, [], ◌∷◌, Option, Some, None, arith}
use Rattle.std.specs.List.{AllByRecursion}
use Rattle.std.proofs.lemmas.Bool.Decides.{nat_tests}
use Rattle.raid_base.specs.declared.numbers.BayNo.{BayNo}
use Rattle.raid_base.specs.declared.numbers.HostNo.{HostNo}
use Rattle.raid_base.specs.declared.numbers.RowNo.{RowNo}
use Rattle.raid_base.specs.declared.numbers.Number.{Number}
use Rattle.raid_base.specs.declared.messages.How.{How}
use Rattle.raid_base.specs.declared.messages.How.TheVariants.{Seize, Mend}
use Rattle.raid_base.specs.declared.messages.Note.{Note}
use Rattle.raid_base.specs.declared.messages.Reply.{Reply}
use Rattle.raid_base.specs.declared.messages.Request.{Request}
use Rattle.raid_base.specs.declared.messages.Request.TheVariants.{Claim, Confirm}
use Rattle.raid_base.specs.declared.messages.Call.{Call}
use Rattle.raid_base.specs.declared.jobs.Task.{Task}
use Rattle.raid_base.specs.declared.jobs.Task.TheVariants as tasks
use Rattle.raid_base.specs.Replies.{is_missing}
use Rattle.raid_base.specs.Steps.{Steps, errand_of}
use Rattle.stripe_layout.specs.Placement.{parity_bay, bay_of}
use Rattle.slot_rules.specs.Slots.{Slot}
use Rattle.attempts.specs.Taking.{Finish}
use Rattle.attempts.specs.Phases.{IsIn, MayAsk, has_slot, is_due}
use Rattle.attempts.specs.Once.{AttemptsAskOnce, ClaimsAreOfTheirKind}
use Rattle.script_text.specs.Script.{Script}
use Rattle.script_text.specs.Ranges.{IsScript}
use Rattle.histories.specs.Calls.{Happened, IsClaim, id_of}
use Rattle.histories.specs.Hands.{Phased, past_of}
use Rattle.histories.specs.Progress.{Work, task_of}
use Rattle.histories.specs.History.{IsHistory, progress_at, bay_at}
use Rattle.histories.proofs.hands.PhasedHands.{phased}
use Rattle.histories.specs.RowStates.{slot_at}
use Rattle.histories.specs.Ids.{calls_with, is_id}
use Rattle.row_laws.specs.Hands.{HasHand, calls_at, IsPutter, IsRecoveryOf, IsAnswered}
use Rattle.row_laws.specs.Holding.{HasNote, IsMendClaim, AnsweredAreFree}
use Rattle.histories.proofs.accesses.AccessTrees.{IsAsked}
use Rattle.histories.proofs.accesses.AccessHosts as access
use Rattle.histories.proofs.accesses.AccessIds.{all-apart, ids_are_apart}
use Rattle.row_laws.proofs.hands.HandMoves.{Goes, Stays, Came, Stayed, Begun, Went, came, may-next}
use Rattle.row_laws.proofs.hands.SlotDoes.{IsGone}
use Rattle.row_laws.proofs.notes.BlankNotes.{blank_notes_mend}
use Rattle.row_laws.proofs.holders.AnsweredFreeNotes.{Takes, note-came, granted-now, held-now, gone-now, empty-bare, seized-now}
use Rattle.row_laws.proofs.holders.AnsweredFreeHands.{own-ids, parity-claimed}
use Rattle.histories.proofs.steps.SameNumbers.{both-held}
use Rattle.row_laws.proofs.holders.HolderNotesHands.{confirmed-late, Confirms, Before, Now, confirmed-by}
use Rattle.row_laws.proofs.hands.HandClaims.{made-kind, next-kind, next-untaken, claimed-taken, recovers-seize}
use Rattle.row_laws.proofs.owners.RowOwnersHands.{happened-in}
use Rattle.histories.proofs.steps.BayRows.{starts-first}

pub happened-map : (P Q : Call → Type 0) → ((call : Call) → P call → Q call) → (calls : List Call) → Happened P calls → Happened Q calls
happened-map P Q f [] h = h
happened-map P Q f (call ∷ calls) (inl h) = inl (f call h)
happened-map P Q f (call ∷ calls) (inr h) = inr (happened-map P Q f calls h)

-- a call with an id is among those with it
happened-with : (P : Call → Type 0) (id : Number) → ((call : Call) → P call → id_of call.ask.what ≡ Some id) → (calls : List Call) → Happened P calls → Happened P (calls_with id calls)
happened-with P id f [] h = h
happened-with P id f (call ∷ calls) h = by (is_id id (id_of call.ask.what)) refl (λ x. happened-with P id f calls x) h
  where
    by : (b : Bool) → is_id id (id_of call.ask.what) ≡ b → (Happened P calls → Happened P (calls_with id calls)) → P call ⊎ Happened P calls →
        Happened P (if b then call ∷ calls_with id calls else calls_with id calls)
    by true e more (inl h) = inl h
    by true e more (inr h) = inr (more h)
    by false e more (inl h) = absurd (let bad : true ≡ false = sym (access.this-id id (id_of call.ask.what) (f call h)) ∙ e in cc)
    by false e more (inr h) = more h

-- some call is among them, and has what all have
first-has : (P Q R : Call → Type 0) (X : Type 0) → ((call : Call) → Q call → R call → X) → (calls : List Call) → AllByRecursion Q calls → AllByRecursion R calls → Happened P calls → X
first-has P Q R X f [] all each h = absurd h
first-has P Q R X f (call ∷ calls) all each h = f call all.0 each.0

one-note : (x y : Number) (note : Option Note) → HasNote x note → HasNote y note → x ≡ y
one-note x y None h k = absurd h
one-note x y (Some note) h k = sym h ∙ k

no-note : (id : Number) (found : Option Note) → found ≡ None → HasNote id found → ⊥
no-note id found none h = subst (HasNote id) none h

some-note : (id : Number) (note : Option Note) → HasNote id note → (n : Note) × (note ≡ Some n) × (n.id ≡ id)
some-note id None h = absurd h
some-note id (Some n) h = (n, refl, h)

-- a recovery puts nothing
tasks-apart : (row : RowNo) (x y : Task) → x ≡ y → IsRecoveryOf row x → IsPutter y → ⊥
tasks-apart row (tasks.Recover at) y same r p = subst IsPutter (sym same) p
tasks-apart row (tasks.Read object first count) y same r p = r
tasks-apart row (tasks.Write object first from count) y same r p = r
tasks-apart row (tasks.Rebuild bay) y same r p = r
tasks-apart row (tasks.Lose bay) y same r p = r
tasks-apart row (tasks.Fit bay) y same r p = r

module _ (script : Script) (is : IsScript script) where
  -- all calls with the id of an attempt that has made one are its calls
  own-calls : (history : List Call) → IsHistory script history → (host : HostNo) (steps : Steps Finish) (h : HasHand script history host steps) (P : Call → Type 0) →
      Happened P (calls_at script history host) → calls_with h.hand.id history ≡ calls_at script history host
  own-calls history along host steps h P made = subst (λ (x : Number). calls_with x history ≡ calls_at script history host) one w.same
    where
      few : host.0 < 16
      few = let own : h.hand.id.0 % 16 ≡ host.0 = h.hand.own in omega (arith, own)

      w : access.InHand host history (progress_at script host history).seen (calls_at script history host) steps
      w = subst (λ (x : Work). access.HasWork host history (progress_at script host history).seen (calls_at script history host) x) h.work ((all-apart script is history along).hosts host few).work

      one : w.id ≡ h.hand.id
      one =
          first-has P (λ (c : Call). IsAsked w.reading w.id c.ask.what) (λ (c : Call). id_of c.ask.what ≡ Some h.hand.id) (w.id ≡ h.hand.id)
          (λ c asked named. both-held w.id h.hand.id (id_of c.ask.what) (access.asked-id w.reading w.id c.ask.what asked) named) (calls_at script history host) w.asked
          (own-ids script is host (progress_at script host history) steps h.hand (calls_at script history host) (record { seen = (progress_at script host history).seen; steps = steps }) h.hand.led) made

module _ (script : Script) (is : IsScript script) (row : RowNo) (below : row.0 < script.rows) (unit : ℕ) (within : unit + 1 < script.n)
    (finder holder : HostNo) where
  abbrev P : BayNo
  P = parity_bay script.n row

  abbrev U : BayNo
  U = bay_of script.n row unit

  -- the recovery holds the parity and was answered at the unit, and the other has confirmed the row and holds the unit
  record Meets (history : List Call) (finding holding : Steps Finish) (r : HasHand script history finder finding) (h : HasHand script history holder holding) : Type 0 where
    recovery : IsRecoveryOf row r.hand.task
    seized : HasNote r.hand.id (slot_at script history P row).note
    answered : Happened (IsAnswered U row) (calls_at script history finder)
    putter : IsPutter h.hand.task
    confirmed : IsIn row (past_of (calls_at script history holder)).confirmed
    held : HasNote h.hand.id (slot_at script history U row).note

  hosts-apart : (history : List Call) (finding holding : Steps Finish) (r : HasHand script history finder finding) (h : HasHand script history holder holding) → IsRecoveryOf row r.hand.task →
      IsPutter h.hand.task → finder.0 ≡ holder.0 → ⊥
  hosts-apart history finding holding r h recovery putter same =
      let one : finder ≡ holder = ap (λ (k : ℕ). let x : HostNo = record { 0 = k } in x) same in
      tasks-apart row r.hand.task h.hand.task
      (both-held r.hand.task h.hand.task (task_of (progress_at script holder history).jobs) (ap (λ (x : HostNo). task_of (progress_at script x history).jobs) (sym one) ∙ r.hand.first) h.hand.first) recovery
      putter

  -- the parity's note isn't both the recovery's and a rebuild's
  not-mends : (history : List Call) (along : IsHistory script history) (finding : Steps Finish) (r : HasHand script history finder finding) → IsRecoveryOf row r.hand.task →
      HasNote r.hand.id (slot_at script history P row).note → Happened (IsAnswered U row) (calls_at script history finder) → IsGone (bay_at script P history) (slot_at script history P row) → ⊥
  not-mends history along finding r recovery noted answered (inl empty) = no-note r.hand.id (slot_at script history P row).note (empty-bare script is P row below history along empty) noted
  not-mends history along finding r recovery noted answered (inr none) =
      let n : (note : Note) × ((slot_at script history P row).note ≡ Some note) × (note.id ≡ r.hand.id) = some-note r.hand.id (slot_at script history P row).note noted in
      let mends : Happened (IsMendClaim P row n.0) history = (blank_notes_mend script history is along P row n.0 (let least = is.devices_least in omega (arith, least)) below none n.1).0 in
      let own : Happened (IsMendClaim P row n.0) (calls_with n.0.id history) = happened-with (IsMendClaim P row n.0) n.0.id (λ call h. ap (λ (w : Request). id_of w) h.4) history mends in
      let theirs : Happened (IsMendClaim P row n.0) (calls_with r.hand.id history) = subst (λ (x : Number). Happened (IsMendClaim P row n.0) (calls_with x history)) n.2 own in
      let here : Happened (IsMendClaim P row n.0) (calls_at script history finder) =
      subst (λ (cs : List Call). Happened (IsMendClaim P row n.0) cs) (own-calls script is history along finder finding r (IsAnswered U row) answered) theirs in
      let mend = happened-in (calls_at script history finder) here in
      let made = (made-kind script is history finder finding r mend.0 mend.1 row n.0.id Mend mend.2.2 mend.2.3 mend.2.4).0 in
      let bad : Mend ≡ Seize = made ∙ recovers-seize row r.hand.task recovery in
      absurd (cc)

  module _ (earlier : List Call) (call : Call) (along : IsHistory script (call ∷ earlier)) where
    other-takes : (host : HostNo) (id : Number) → id.0 % 16 ≡ host.0 → (call.ask.host.0 == host.0) ≡ false → Takes row id call.ask.what → ⊥
    other-takes host id own other (how, mask, want, what) =
        let leaves : id.0 % 16 ≡ call.ask.host.0 = (ids_are_apart script (call ∷ earlier) is along).own.0 id (ap (λ (w : Request). id_of w) what) in
        let same : call.ask.host.0 ≡ host.0 = sym leaves ∙ own in
        absurd (grind (arith, nat_tests))

    -- a note with an id of another host than that of the call was there
    note-stays : (at : BayNo) (host : HostNo) (id : Number) → id.0 % 16 ≡ host.0 → (call.ask.host.0 == host.0) ≡ false → HasNote id (slot_at script (call ∷ earlier) at row).note →
        HasNote id (slot_at script earlier at row).note
    note-stays at host id own other noted = by (note-came script is at row below earlier call along.1 id noted)
      where
        by : ((call.bay ≡ at) × Takes row id call.ask.what) ⊎ HasNote id (slot_at script earlier at row).note → HasNote id (slot_at script earlier at row).note
        by (inl (place, takes)) = absurd (other-takes host id own other takes)
        by (inr stood) = stood

    -- So it was not before the call, and so it is not after it
    module _ (before : (finding holding : Steps Finish) (r : HasHand script earlier finder finding) (h : HasHand script earlier holder holding) → Meets earlier finding holding r h → ⊥)
        (finding holding : Steps Finish) (r : HasHand script (call ∷ earlier) finder finding) (h : HasHand script (call ∷ earlier) holder holding)
        (m : Meets (call ∷ earlier) finding holding r h) where
      abbrev FinderStays : Type 0
      FinderStays = Stays script is earlier call along.0 along.1 finder finding r.hand.id r.hand.task (calls_at script (call ∷ earlier) finder)

      abbrev HolderStays : Type 0
      HolderStays = Stays script is earlier call along.0 along.1 holder holding h.hand.id h.hand.task (calls_at script (call ∷ earlier) holder)

      abbrev FinderGoes : Type 0
      FinderGoes = Goes script is earlier call along.0 along.1 finder r.hand.id r.hand.task (calls_at script (call ∷ earlier) finder)

      abbrev HolderGoes : Type 0
      HolderGoes = Goes script is earlier call along.0 along.1 holder h.hand.id h.hand.task (calls_at script (call ∷ earlier) holder)

      ids-apart : (x y : Number) → x.0 % 16 ≡ finder.0 → y.0 % 16 ≡ holder.0 → x ≡ y → ⊥
      ids-apart x y own other same =
          hosts-apart (call ∷ earlier) finding holding r h m.recovery m.putter (sym own ∙ ap (λ (k : Number). k.0 % 16) same ∙ other)

      stood-seized : (a : FinderStays) → HasNote a.before.hand.id (slot_at script earlier P row).note
      stood-seized a =
          note-stays P finder a.before.hand.id a.before.hand.own a.other
          (subst (λ (x : Number). HasNote x (slot_at script (call ∷ earlier) P row).note) (sym a.same_id) m.seized)

      stood-held : (b : HolderStays) → HasNote b.before.hand.id (slot_at script earlier U row).note
      stood-held b =
          note-stays U holder b.before.hand.id b.before.hand.own b.other
          (subst (λ (x : Number). HasNote x (slot_at script (call ∷ earlier) U row).note) (sym b.same_id) m.held)

      -- A call of another host
      both-stay : FinderStays → HolderStays → ⊥
      both-stay a b =
          before finding holding a.before b.before
          (record {
            recovery = subst (λ (t : Task). IsRecoveryOf row t) (sym a.same_task) m.recovery;
            seized = stood-seized a;
            answered = subst (λ (cs : List Call). Happened (IsAnswered U row) cs) a.calls m.answered;
            putter = subst (λ (t : Task). IsPutter t) (sym b.same_task) m.putter;
            confirmed = subst (λ (cs : List Call). IsIn row (past_of cs).confirmed) b.calls m.confirmed;
            held = stood-held b;
          })

      -- A call of the holder: it is no claim, and no confirm that is answered as is due
      module _ (a : FinderStays) (b : HolderGoes) where
        recovered : IsRecoveryOf row a.before.hand.task
        recovered = subst (λ (t : Task). IsRecoveryOf row t) (sym a.same_task) m.recovery

        answered-before : Happened (IsAnswered U row) (calls_at script earlier finder)
        answered-before = subst (λ (cs : List Call). Happened (IsAnswered U row) cs) a.calls m.answered

        holder-phased : Phased script.n b.before.hand.id (calls_at script earlier holder) b.steps
        holder-phased = phased script is holder (progress_at script holder earlier) b.steps b.before.hand

        holder-may : (what : Request) → call.ask.what ≡ what → MayAsk script.n b.before.hand.id holder-phased.past call.bay what
        holder-may what is =
            subst (λ (w : Request). MayAsk script.n b.before.hand.id holder-phased.past call.bay w) is
            (may-next script.n b.before.hand.id holder-phased.past b.steps (errand_of call) holder-phased.keeps b.asked)

        no-confirm : (id : Number) (want : Bool) → call.ask.what ≡ Confirm row id want → is_due (has_slot (record { bay = call.bay; row = row }) (past_of (calls_at script earlier holder)).granted) call.answer.reply ≡ true → ⊥
        no-confirm id want what due = by (has_slot (record { bay = call.bay; row = row }) (past_of (calls_at script earlier holder)).granted) due
          where
            may : MayAsk script.n b.before.hand.id holder-phased.past call.bay (Confirm row id want)
            may = holder-may (Confirm row id want) what

            by : (granted : Bool) → is_due granted call.answer.reply ≡ true → ⊥
            by true due =
                let noted : HasNote id (slot_at script earlier P row).note = held-now script is P row below earlier call along.1 id want may.2 what due in
                let one : a.before.hand.id ≡ id = one-note a.before.hand.id id (slot_at script earlier P row).note (stood-seized a) noted in
                ids-apart a.before.hand.id b.before.hand.id a.before.hand.own b.before.hand.own (one ∙ may.0)
            by false due =
                not-mends earlier along.0 finding a.before recovered (stood-seized a) answered-before (gone-now script is P row below earlier call along.1 id want may.2 what due)

        no-claim : IsIn row (past_of (calls_at script earlier holder)).confirmed → (how : How) (mask : ℕ) (want : Bool) → call.ask.what ≡ Claim row b.before.hand.id how mask want → ⊥
        no-claim confirmed how mask want what =
            let early : holder-phased.past.phase ≤ 0 = (holder-may (Claim row b.before.hand.id how mask want) what).1 in
            let no_later : (past_of (calls_at script earlier holder)).phase ≤ holder-phased.past.phase = holder-phased.same.phase in
            let late : 1 ≤ (past_of (calls_at script earlier holder)).phase = confirmed-late (calls_at script earlier holder) row confirmed in
            absurd (omega (arith, early, no_later, late))

        holder-goes : ⊥
        holder-goes =
            by (confirmed-by row (past_of (calls_at script earlier holder)) call.bay call.ask.what call.answer.reply (subst (λ (cs : List Call). IsIn row (past_of cs).confirmed) b.calls m.confirmed))
          where
            noted : HasNote b.before.hand.id (slot_at script (call ∷ earlier) U row).note
            noted = subst (λ (x : Number). HasNote x (slot_at script (call ∷ earlier) U row).note) (sym b.same_id) m.held

            held-by : IsIn row (past_of (calls_at script earlier holder)).confirmed → ((call.bay ≡ U) × Takes row b.before.hand.id call.ask.what) ⊎ HasNote b.before.hand.id (slot_at script earlier U row).note → ⊥
            held-by confirmed (inl (place, (how, mask, want, what))) = no-claim confirmed how mask want what
            held-by confirmed (inr held) =
                before finding b.steps a.before b.before
                (record {
                  recovery = recovered;
                  seized = stood-seized a;
                  answered = answered-before;
                  putter = subst (λ (t : Task). IsPutter t) (sym b.same_task) m.putter;
                  confirmed = confirmed;
                  held = held;
                })

            by : Confirms row (past_of (calls_at script earlier holder)) call.bay call.ask.what call.answer.reply → ⊥
            by (Now id want what due) = no-confirm id want what due
            by (Before confirmed) = held-by confirmed (note-came script is U row below earlier call along.1 b.before.hand.id noted)

      -- A call of the recovery: its claim of the parity comes first, and that of the unit leaves its own note or none
      module _ (a : FinderGoes) (b : HolderStays) where
        recovers : IsRecoveryOf row a.before.hand.task
        recovers = subst (λ (t : Task). IsRecoveryOf row t) (sym a.same_task) m.recovery

        finder-id : (id : Number) (how : How) (mask : ℕ) (want : Bool) → call.ask.what ≡ Claim row id how mask want → id ≡ r.hand.id
        finder-id id how mask want what =
            let f : Phased script.n a.before.hand.id (calls_at script earlier finder) a.steps = phased script is finder (progress_at script finder earlier) a.steps a.before.hand in
            let may : MayAsk script.n a.before.hand.id f.past call.bay (Claim row id how mask want) =
            subst (λ (w : Request). MayAsk script.n a.before.hand.id f.past call.bay w) what
            (may-next script.n a.before.hand.id f.past a.steps (errand_of call) f.keeps a.asked) in
            may.0 ∙ a.same_id

        answered-now : IsAnswered U row call → ⊥
        answered-now ((place, id, how, mask, want, what), inl granted) =
            let noted : HasNote id (slot_at script (call ∷ earlier) U row).note = granted-now script is U row below earlier call along.1 id how mask want place what granted in
            let one : id ≡ h.hand.id = one-note id h.hand.id (slot_at script (call ∷ earlier) U row).note noted m.held in
            ids-apart r.hand.id h.hand.id r.hand.own h.hand.own (sym (finder-id id how mask want what) ∙ one)
        answered-now ((place, id, how, mask, want, what), inr (floor, missing)) =
            let seizes : how ≡ Seize = (next-kind script is earlier finder a.steps a.before call a.asked row id how mask want what).0 ∙ recovers-seize row a.before.hand.task recovers in
            let none : (slot_at script (call ∷ earlier) U row).note ≡ None =
            seized-now script is U row below earlier call along id mask want place (what ∙ ap (λ (x : How). Claim row id x mask want) seizes) (ap (λ (x : Reply). is_missing x) missing) in
            no-note h.hand.id (slot_at script (call ∷ earlier) U row).note none m.held

        answered-then : Happened (IsAnswered U row) (calls_at script earlier finder) → ⊥
        answered-then answered = by (note-came script is P row below earlier call along.1 a.before.hand.id (subst (λ (x : Number). HasNote x (slot_at script (call ∷ earlier) P row).note) (sym a.same_id) m.seized))
          where
            claimed : IsIn (record { bay = P; row = row }) (past_of (calls_at script earlier finder)).claimed
            claimed =
                parity-claimed script is finder (progress_at script finder earlier) a.steps a.before.hand row unit within (calls_at script earlier finder)
                (record { seen = (progress_at script finder earlier).seen; steps = a.steps }) a.before.hand.led
                (happened-map (IsAnswered U row) (IsClaim U row) (λ c x. x.0) (calls_at script earlier finder) answered)

            by : ((call.bay ≡ P) × Takes row a.before.hand.id call.ask.what) ⊎ HasNote a.before.hand.id (slot_at script earlier P row).note → ⊥
            by (inl (place, (how, mask, want, what))) =
                next-untaken script is earlier finder a.steps a.before call a.asked P row (inr (place, a.before.hand.id, how, mask, want, what))
                (claimed-taken (record { bay = P; row = row }) (calls_at script earlier finder) claimed)
            by (inr seized) =
                before a.steps holding a.before b.before
                (record {
                  recovery = recovers;
                  seized = seized;
                  answered = answered;
                  putter = subst (λ (t : Task). IsPutter t) (sym b.same_task) m.putter;
                  confirmed = subst (λ (cs : List Call). IsIn row (past_of cs).confirmed) b.calls m.confirmed;
                  held = stood-held b;
                })

        finder-goes : ⊥
        finder-goes = by (subst (λ (cs : List Call). Happened (IsAnswered U row) cs) a.calls m.answered)
          where
            by : Happened (IsAnswered U row) (call ∷ calls_at script earlier finder) → ⊥
            by (inl now) = answered-now now
            by (inr answered) = answered-then answered

      -- all that may have been
      meets-next : Came script is earlier call along.0 along.1 finder finding r.hand.id r.hand.task (calls_at script (call ∷ earlier) finder) →
          Came script is earlier call along.0 along.1 holder holding h.hand.id h.hand.task (calls_at script (call ∷ earlier) holder) → ⊥
      meets-next (Begun own bare) came_holder = subst (λ (cs : List Call). Happened (IsAnswered U row) cs) bare m.answered
      meets-next (Stayed a) (Begun own bare) = subst (λ (cs : List Call). IsIn row (past_of cs).confirmed) bare m.confirmed
      meets-next (Went a) (Begun own bare) = subst (λ (cs : List Call). IsIn row (past_of cs).confirmed) bare m.confirmed
      meets-next (Stayed a) (Stayed b) = both-stay a b
      meets-next (Stayed a) (Went b) = holder-goes a b
      meets-next (Went a) (Stayed b) = finder-goes a b
      meets-next (Went a) (Went b) = hosts-apart (call ∷ earlier) finding holding r h m.recovery m.putter (ap (λ (x : HostNo). x.0) (sym a.own ∙ b.own))

  never-meets : (history : List Call) → IsHistory script history → (finding holding : Steps Finish) (r : HasHand script history finder finding) (h : HasHand script history holder holding) →
      Meets history finding holding r h → ⊥
  never-meets [] along finding holding r h m = no-note r.hand.id (slot_at script [] P row).note (ap (λ (s : Slot). s.note) (starts-first script P row below)) m.seized
  never-meets (call ∷ earlier) along finding holding r h m =
      meets-next earlier call along (never-meets earlier along.0) finding holding r h m (came script is earlier call along.0 along.1 finder finding r)
      (came script is earlier call along.0 along.1 holder holding h)

pub answered_are_free : AttemptsAskOnce → ClaimsAreOfTheirKind → AnsweredAreFree
answered_are_free once kinds script history is along finder holder finding holding r h row unit below within recovery seized answered putter confirmed held =
    never-meets script is row below unit within finder holder history along finding holding r h
    (record { recovery = recovery; seized = seized; answered = answered; putter = putter; confirmed = confirmed; held = held })
