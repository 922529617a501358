-- A put of a unit has a number above those of all reads of the parity, where the parity has no cell.
use Rattle.std.proofs.Common.{◌≡◌, ◌⊎◌, inl, inr, refl, sym, ap, subst, ◌∙◌, ℕ, ◌+◌, ◌<◌, ◌≤◌, Bool, true, false, List, [], ◌∷◌, Option, Some, None, IsSome, arith}
use Rattle.raid_base.specs.declared.numbers.BayNo.{BayNo}
use Rattle.raid_base.specs.declared.numbers.HostNo.{HostNo}
use Rattle.raid_base.specs.declared.numbers.RowNo.{RowNo}
use Rattle.raid_base.specs.declared.numbers.Number.{Number}
use Rattle.raid_base.specs.declared.cells.Cell.{Cell}
use Rattle.raid_base.specs.declared.messages.How.{How}
use Rattle.raid_base.specs.declared.messages.How.TheVariants.{Plain}
use Rattle.raid_base.specs.declared.messages.Mode.{Mode}
use Rattle.raid_base.specs.declared.messages.Mode.TheVariants.{Order}
use Rattle.raid_base.specs.declared.messages.Ask.{Ask}
use Rattle.raid_base.specs.declared.messages.Call.{Call}
use Rattle.raid_base.specs.declared.messages.Errand.{Errand}
use Rattle.raid_base.specs.declared.messages.Reply.{Reply}
use Rattle.raid_base.specs.declared.messages.Reply.TheVariants.{Missing}
use Rattle.raid_base.specs.declared.messages.Request.{Request}
use Rattle.raid_base.specs.declared.messages.Request.TheVariants.{Claim, Confirm, Put, Lose, Fit}
use Rattle.raid_base.specs.declared.names.Name.{Name}
use Rattle.raid_base.specs.declared.jobs.Task.{Task}
use Rattle.raid_base.specs.declared.jobs.Task.TheVariants as tasks
use Rattle.raid_base.specs.Replies.{grant_of, is_held}
use Rattle.raid_base.specs.Steps.{Commit, Steps, Standing, next_errand, errand_of}
use Rattle.stripe_layout.specs.Placement.{parity_bay, bay_of}
use Rattle.stripe_layout.proofs.LayoutLemmas.{parity_in}
use Rattle.slot_rules.specs.Slots.{Slot, Bay}
use Rattle.attempts.specs.Taking.{Finish}
use Rattle.attempts.specs.Numbering.{ShowsNumber}
use Rattle.attempts.specs.Phases.{IsIn, MayAsk, is_due}
use Rattle.script_text.specs.Script.{Script, jobs_of}
use Rattle.script_text.specs.Ranges.{IsScript}
use Rattle.histories.specs.Calls.{row_of, id_of, IsClaim}
use Rattle.histories.specs.Hands.{Phased, past_of}
use Rattle.histories.specs.History.{IsHistory, if_taken, progress_at, bay_at}
use Rattle.histories.proofs.bounds.BoundsTakes.{before_start}
use Rattle.histories.proofs.hands.HandSteps.{jobs-bare}
use Rattle.histories.proofs.hands.PhasedHands.{phased}
use Rattle.histories.specs.RowStates.{slot_at, cell_at}
use Rattle.row_laws.specs.Hands.{HasHand, calls_at, IsPutter}
use Rattle.row_laws.specs.Holding.{HasNote, MayPutTo, CameFrom, Owns}
use Rattle.histories.specs.Accesses.{reads, AllBelow}
use Rattle.histories.proofs.accesses.AccessCovers.{all-map}
use Rattle.row_laws.proofs.holders.AnsweredFreeNotes.{floor-of, held-now}
use Rattle.row_laws.proofs.hands.HandClaims.{made-kind}
use Rattle.row_laws.proofs.hands.HandMoves.{may-next, Came, Stays, Goes, Stayed, Begun, Went, came, id-is-own}
use Rattle.row_laws.proofs.owners.HoldingLaws.{putters_own_rows}
use Rattle.row_laws.proofs.holders.HolderNotesHands.{Confirms, Before, Now, confirmed-by, confirmed-late}
use Rattle.row_laws.proofs.owners.OwnedPuts as owned
use Rattle.row_laws.proofs.owners.OwnedPuts.{all-in}
use Rattle.row_laws.proofs.owners.RowOwnersCalls.{IsNote, has-noted, noted-has}
use Rattle.row_laws.proofs.owners.RowOwnersHands.{Asker, asker, happened-in, happened-own, other-id, stands-behind, may-before, may-asks}
use Rattle.row_laws.proofs.owners.RowOwnersSlots.{FromClaim, does-at, note-from}
use Rattle.row_laws.proofs.owners.RowOwnersTasks.{Putter}
use Rattle.row_laws.proofs.hands.SlotDoes.{Does, Refuses, Closes, Grants, Shows, Holds, Puts, Frees, Leaves}
use Rattle.row_laws.proofs.hands.SlotMoves.{SlotMove, Kept, Touched, Lost, Fitted, moved}
use Rattle.serial_laws.proofs.contents.ContentPuts.{commits-are, may-put, mend-puts}
use Rattle.serial_laws.proofs.contents.ContentPutters.{own-noted}
use Rattle.serial_laws.proofs.contents.ContentStates.{IsWriteTask}
use Rattle.serial_laws.proofs.contents.ContentTrees.{MayPut, Writes, Rebuilds, Recovers}
use Rattle.serial_laws.proofs.contents.ContentWriteFacts.{not-blank, writes-plain}
use Rattle.row_laws.proofs.reads.ReadSlots.{ReadMove, Quiet, Read, read-moved, CoversReads, floor-covers-reads, bare-unread}
use Rattle.serial_laws.proofs.reads.ParityReads.{parity-reads-covered, reads-under}
use Rattle.serial_laws.proofs.rising.RisingCommits.{write-rises, TakesOne}

-- a slot that has no cell after a request had none before it
does-bare : (bay : Bay) (ask : Ask) (slot : Slot) (what : Request) (reply : Reply) (left : Slot) → Does bay ask slot what reply left → left.cell ≡ None → slot.cell ≡ None
does-bare bay ask slot what reply left (Refuses r refused missing) none = none
does-bare bay ask slot what reply left (Closes there bare) none = bare
does-bare bay ask slot what reply left (Grants claims) none = ap (λ (s : Slot). s.cell) (sym claims.left) ∙ none
does-bare bay ask slot what reply left (Shows shares) none = sym shares.cell_kept ∙ none
does-bare bay ask slot what reply left (Holds own) none = none
does-bare bay ask slot what reply left (Puts {row = r} {id} {n} {cell} own) none = absurd (let bad : Some cell ≡ None = none in cc)
does-bare bay ask slot what reply left (Frees own) none = none
does-bare bay ask slot what reply left (Leaves free reader found) none = none

-- One of these calls covers the reads. Under stamps the number that it was shown is below the id, or is a floor.
record Known (mode : Mode) (id : Number) (calls : List Call) (ns : List Number) : Type 0 where
  call : Call
  among : IsIn call calls
  cover : CoversReads mode call id ns
  late : mode ≡ Order → (cover.number.0 < id.0) ⊎ (call.answer.reply ≡ Missing cover.number)

known-on : (mode : Mode) (x y : Number) → x ≡ y → (calls later : List Call) → ((c : Call) → IsIn c calls → IsIn c later) → (ns ms : List Number) → ms ≡ ns → Known mode x calls ns → Known mode y later ms
known-on mode x y one calls later more ns ms same k =
    subst (λ (i : Number). Known mode i later ms) one
    (subst (λ (js : List Number). Known mode x later js) (sym same) (record { call = k.call; among = more k.call k.among; cover = k.cover; late = k.late }))

module _ (script : Script) (is : IsScript script) (row : RowNo) (below : row.0 < script.rows) (unit : ℕ) (inside : unit + 1 < script.n) where
  abbrev P : BayNo
  P = parity_bay script.n row

  abbrev U : BayNo
  U = bay_of script.n row unit

  abbrev Reads : List Call → List Number
  Reads history = reads script (P) row history

  within : (P).0 < script.n
  within = parity_in script.n row is.devices_least

  -- while the parity's note came from a write, the write's claim of the parity covers the reads
  known-by : (history : List Call) (host : HostNo) (steps : Steps Finish) (h : HasHand script history host steps) → IsWriteTask h.hand.task → (c : Call) → IsIn c (calls_at script history host) → IsClaim (P) row c →
      id_of c.ask.what ≡ Some h.hand.id → CoversReads script.mode c h.hand.id (Reads history) → IsSome (grant_of c.answer.reply) → Known script.mode h.hand.id (calls_at script history host) (Reads history)
  known-by history host steps h writes c i claim named cover some = record { call = c; among = i; cover = cover; late = λ order. inl (less order claim) }
    where
      less : script.mode ≡ Order → IsClaim (P) row c → cover.number.0 < h.hand.id.0
      less order (at, by, how, mask, want, asks) =
          let kind : how ≡ Plain = (made-kind script is history host steps h c i row by how mask want asks).0 ∙ writes-plain h.hand.task writes in
          let both : Some by ≡ Some h.hand.id = sym (ap (λ (w : Request). id_of w) asks) ∙ named in
          let one : by ≡ h.hand.id = cc in
          let low : cover.number.0 < by.0 = cover.late order row by mask want (asks ∙ ap (λ (x : How). Claim row by x mask want) kind) some in
          let same : by.0 ≡ h.hand.id.0 = ap (λ (x : Number). x.0) one in
          omega (arith, low, same)

  known-noted : (history : List Call) → IsHistory script history → (host : HostNo) (steps : Steps Finish) (h : HasHand script history host steps) (e : Errand) → next_errand steps ≡ Some e → IsWriteTask h.hand.task →
      CameFrom h.hand.id (slot_at script history (P) row).note → Known script.mode h.hand.id (calls_at script history host) (Reads history)
  known-noted history along host steps h e asked writes from =
      let mine = happened-own script is history along host steps h e asked (λ x q. q.1) (parity-reads-covered script is row below history along h.hand.id from) in
      let c = happened-in (calls_at script history host) mine in
      known-by history host steps h writes c.0 c.1 c.2.0 c.2.1 c.2.2 c.2.3

  -- So it is for each write that has confirmed the row and may still put the unit, where the parity has no cell
  abbrev KnownAt : List Call → Type 0
  KnownAt history = (host : HostNo) (steps : Steps Finish) (h : HasHand script history host steps) → IsWriteTask h.hand.task → Putter script history host steps h row unit → cell_at script history row (P) ≡ None →
      Known script.mode h.hand.id (calls_at script history host) (Reads history)

  -- kept by a call
  module _ (earlier : List Call) (call : Call) (along : IsHistory script (call ∷ earlier)) (rest : KnownAt earlier) where
    -- before it, whether the parity had a cell or not
    known-before : (host : HostNo) (steps : Steps Finish) (b : HasHand script earlier host steps) → IsWriteTask b.hand.task → Putter script earlier host steps b row unit →
        Known script.mode b.hand.id (calls_at script earlier host) (Reads earlier)
    known-before host steps b writes a = by (cell_at script earlier row (P)) refl
      where
        next : (e : Errand) × (next_errand steps ≡ Some e)
        next = may-asks host (record { seen = (progress_at script host earlier).seen; steps = steps }) (U) row b.hand.id a.may

        owner : (cell : Cell) → cell_at script earlier row (P) ≡ Some cell → Owns script earlier row b.hand.id → Known script.mode b.hand.id (calls_at script earlier host) (Reads earlier)
        owner cell e (inl none) = absurd (let bad : None ≡ Some cell = sym none ∙ e in cc)
        owner cell e (inr from) = known-noted earlier along.0 host steps b (next).0 (next).1 writes from

        by : (o : Option Cell) → cell_at script earlier row (P) ≡ o → Known script.mode b.hand.id (calls_at script earlier host) (Reads earlier)
        by None e = rest host steps b writes a e
        by (Some cell) e = owner cell e (putters_own_rows script earlier is along.0 host steps b row unit below inside a.putter a.confirmed a.noted a.may)

    -- a request takes no cell away
    bare-before : row_of call.ask.what ≡ Some row → cell_at script (call ∷ earlier) row (P) ≡ None → cell_at script earlier row (P) ≡ None
    bare-before of none = by (moved script is earlier call along.1 (P) row below)
      where
        other : (w : Request) → call.ask.what ≡ w → row_of w ≡ None → ⊥
        other w e gone = let bad : Some row ≡ None = sym of ∙ ap (λ (x : Request). row_of x) e ∙ gone in cc

        by : SlotMove (bay_at script (P) earlier) (P) row call (bay_at script (P) (call ∷ earlier)) → cell_at script earlier row (P) ≡ None
        by (Kept slot empty life apart) = ap (λ (s : Slot). s.cell) (sym slot) ∙ none
        by (Lost place what was slot empty life) = absurd (other Lose what refl)
        by (Fitted place what was slot empty life) = absurd (other Fit what refl)
        by (Touched place here reply slot empty life) =
            does-bare (bay_at script (P) earlier) call.ask (slot_at script earlier (P) row) call.ask.what call.answer.reply (slot_at script (call ∷ earlier) (P) row)
            (does-at script is earlier call along.1 (P) row below here reply slot) none

    -- a call that leaves the parity without a cell does not read it
    unread : cell_at script (call ∷ earlier) row (P) ≡ None → Reads (call ∷ earlier) ≡ Reads earlier
    unread none = by (read-moved script (P) row call earlier)
      where
        by : ReadMove script (P) row call earlier → Reads (call ∷ earlier) ≡ Reads earlier
        by (Quiet same) = same
        by (Read place of n said now) = bare-unread script is earlier call along (P) row below (bare-before of none)

    -- the unit's note was there before, where no claim of the attempt has made it
    noted-before : (id : Number) → HasNote id (slot_at script (call ∷ earlier) (U) row).note → ((how : How) (mask : ℕ) (want : Bool) → call.ask.what ≡ Claim row id how mask want → ⊥) →
        HasNote id (slot_at script earlier (U) row).note
    noted-before id has other = by (note-from script is earlier call along.1 (U) row below found.0 found.1)
      where
        found : IsNote id (slot_at script (call ∷ earlier) (U) row).note
        found = has-noted (slot_at script (call ∷ earlier) (U) row).note id has

        by : ((slot_at script earlier (U) row).note ≡ Some found.0)
            ⊎ ((call.bay ≡ U) × FromClaim call.ask row (slot_at script earlier (U) row).note call.ask.what call.answer.reply found.0) → HasNote id (slot_at script earlier (U) row).note
        by (inl same) = noted-has (slot_at script earlier (U) row).note id (found.0, same, found.2)
        by (inr from) = absurd (other from.1.how from.1.mask from.1.want (from.1.claims ∙ ap (λ (x : Number). Claim row x from.1.how from.1.mask from.1.want) found.2))

    module _ (host : HostNo) (steps : Steps Finish) (h : HasHand script (call ∷ earlier) host steps) (writes : IsWriteTask h.hand.task) (a : Putter script (call ∷ earlier) host steps h row unit)
        (none : cell_at script (call ∷ earlier) row (P) ≡ None) where
      abbrev Calls : List Call
      Calls = calls_at script earlier host

      abbrev Later : List Call
      Later = calls_at script (call ∷ earlier) host

      abbrev Goal : Type 0
      Goal = Known script.mode h.hand.id (Later) (Reads (call ∷ earlier))

      -- another host's attempt
      stayed : Stays script is earlier call along.0 along.1 host steps h.hand.id h.hand.task (Later) → Goal
      stayed s =
          known-on script.mode s.before.hand.id h.hand.id s.same_id (Calls) (Later) (λ c i. subst (λ (cs : List Call). IsIn c cs) (sym s.calls) i) (Reads earlier) (Reads (call ∷ earlier)) (unread none)
          (known-before host steps s.before (subst IsWriteTask (sym s.same_task) writes) was)
        where
          seen-same : (progress_at script host (call ∷ earlier)).seen ≡ (progress_at script host earlier).seen
          seen-same = ap (λ (b : Bool). (if_taken script host (progress_at script host earlier) call b).seen) s.other

          noted : HasNote h.hand.id (slot_at script earlier (U) row).note
          noted = noted-before h.hand.id a.noted (λ how mask want claims. other-id script is earlier call along host h.hand.id s.other h.hand.own (ap (λ (w : Request). id_of w) claims))

          was : Putter script earlier host steps s.before row unit
          was = record {
            putter = subst (λ (t : Task). IsPutter t) (sym s.same_task) a.putter;
            confirmed = subst (λ (calls : List Call). IsIn row (past_of calls).confirmed) s.calls a.confirmed;
            noted = subst (λ (x : Number). HasNote x (slot_at script earlier (U) row).note) (sym s.same_id) noted;
            may = subst (λ (x : Number). MayPutTo host (record { seen = (progress_at script host earlier).seen; steps = steps }) (U) row x) (sym s.same_id)
                (subst (λ (seen : Number). MayPutTo host (record { seen = seen; steps = steps }) (U) row h.hand.id) seen-same a.may);
          }

      -- the attempt that asked the call
      module _ (goes : Goes script is earlier call along.0 along.1 host h.hand.id h.hand.task (Later)) where
        phases : Phased script.n goes.before.hand.id (Calls) goes.steps
        phases = phased script is host (progress_at script host earlier) goes.steps goes.before.hand

        may-ask : MayAsk script.n goes.before.hand.id (phases).past call.bay call.ask.what
        may-ask = may-next script.n goes.before.hand.id (phases).past goes.steps (errand_of call) (phases).keeps goes.asked

        wrote : IsWriteTask goes.before.hand.task
        wrote = subst IsWriteTask (sym goes.same_task) writes

        -- which has confirmed the row before
        module _ (confirmed : IsIn row (past_of (Calls)).confirmed) where
          no-claim : (how : How) (mask : ℕ) (want : Bool) → call.ask.what ≡ Claim row h.hand.id how mask want → ⊥
          no-claim how mask want claims =
              let may : MayAsk script.n goes.before.hand.id (phases).past call.bay (Claim row h.hand.id how mask want) =
              subst (λ (w : Request). MayAsk script.n goes.before.hand.id (phases).past call.bay w) claims may-ask in
              let early : (phases).past.phase ≤ 0 = may.1 in
              let one : 1 ≤ (past_of (Calls)).phase = confirmed-late (Calls) row confirmed in
              let up : (past_of (Calls)).phase ≤ (phases).past.phase = (phases).same.phase in
              absurd (omega (arith, one, up, early))

          may-then : MayPutTo host (record { seen = (progress_at script host earlier).seen; steps = goes.steps }) (U) row h.hand.id
          may-then =
              may-before host (record { seen = (progress_at script host earlier).seen; steps = goes.steps }) (record { seen = (progress_at script host (call ∷ earlier)).seen; steps = steps }) call (U) row h.hand.id
              goes.asked (stands-behind script is earlier call along.0 along.1 host steps h goes) a.may

          putter-then : Putter script earlier host goes.steps goes.before row unit
          putter-then = record {
            putter = subst (λ (t : Task). IsPutter t) (sym goes.same_task) a.putter;
            confirmed = confirmed;
            noted = subst (λ (x : Number). HasNote x (slot_at script earlier (U) row).note) (sym goes.same_id) (noted-before h.hand.id a.noted no-claim);
            may = subst (λ (x : Number). MayPutTo host (record { seen = (progress_at script host earlier).seen; steps = goes.steps }) (U) row x) (sym goes.same_id) may-then;
          }

          known-then : Goal
          known-then =
              known-on script.mode goes.before.hand.id h.hand.id goes.same_id (Calls) (Later) (λ c i. subst (λ (cs : List Call). IsIn c cs) (sym goes.calls) (inr i)) (Reads earlier) (Reads (call ∷ earlier))
              (unread none) (known-before host goes.steps goes.before wrote putter-then)

        -- or confirms it now
        module _ (id : Number) (want : Bool) (what : call.ask.what ≡ Confirm row id want) where
          may : MayAsk script.n goes.before.hand.id (phases).past call.bay (Confirm row id want)
          may = subst (λ (w : Request). MayAsk script.n goes.before.hand.id (phases).past call.bay w) what may-ask

          of : row_of call.ask.what ≡ Some row
          of = ap (λ (w : Request). row_of w) what

          not-held : is_held call.answer.reply ≡ true → ⊥
          not-held held =
              let has : HasNote id (slot_at script earlier (P) row).note = held-now script is (P) row below earlier call along.1 id want (may).2 what held in
              let note : IsNote id (slot_at script earlier (P) row).note = has-noted (slot_at script earlier (P) row).note id has in
              not-blank script is row below earlier along.0 host goes.steps goes.before wrote (P) within note.0 note.1 (note.2 ∙ (may).0) (bare-before of none)

          by-floor : (floor : Number) → call.answer.reply ≡ Missing floor → Goal
          by-floor floor said = record {
            call = call;
            among = subst (λ (cs : List Call). IsIn call cs) (sym goes.calls) (inl refl);
            cover = record {
              number = floor;
              shown = subst (λ (r : Reply). ShowsNumber r floor) (sym said) refl;
              covers = all-map (λ (x : Number). x.0 ≤ floor.0) (λ (x : Number). (x.0 ≤ floor.0) ⊎ (x.0 < h.hand.id.0)) (Reads (call ∷ earlier)) (λ x le. inl le)
                  (floor-covers-reads script is earlier call along (P) row within below (may).2 of floor said);
              late = λ order r by mask wants asks some. absurd (let bad : Confirm row id want ≡ Claim r by Plain mask wants = sym what ∙ asks in cc);
            };
            late = λ order. inr said;
          }

          confirms : (b : Bool) → is_due b call.answer.reply ≡ true → Goal
          confirms true held = absurd (not-held held)
          confirms false missing = let floor = floor-of call.answer.reply missing in by-floor floor.0 floor.1

        went : Goal
        went =
            by
            (confirmed-by row (past_of (Calls)) call.bay call.ask.what call.answer.reply (subst (λ (calls : List Call). IsIn row (past_of calls).confirmed) goes.calls a.confirmed))
          where
            by : Confirms row (past_of (Calls)) call.bay call.ask.what call.answer.reply → Goal
            by (Before i) = known-then i
            by (Now id want what due) = confirms id want what _ due

      known-next : Goal
      known-next = by (came script is earlier call along.0 along.1 host steps h)
        where
          by : Came script is earlier call along.0 along.1 host steps h.hand.id h.hand.task (Later) → Goal
          by (Begun own bare) = absurd (subst (λ (calls : List Call). IsIn row (past_of calls).confirmed) bare a.confirmed)
          by (Stayed s) = stayed s
          by (Went g) = went g

  known : (history : List Call) → IsHistory script history → KnownAt history
  known [] along host steps h writes a none =
      absurd (subst (λ (calls : List Call). IsIn row (past_of calls).confirmed) (jobs-bare script host (jobs_of script host) (before_start script host) refl) a.confirmed)
  known (call ∷ earlier) along host steps h writes a none = known-next earlier call along (known earlier along.0) host steps h writes a none

  -- A put of the unit by a write
  module _ (earlier : List Call) (call : Call) (along : IsHistory script (call ∷ earlier)) (t : TakesOne script earlier call row unit) (place : call.bay ≡ U) (none : cell_at script earlier row (P) ≡ None)
      (steps : Steps Finish) (h : HasHand script earlier call.ask.host steps) (asked : next_errand steps ≡ Some (errand_of call)) where
    abbrev Host : HostNo
    Host = call.ask.host

    abbrev Stand : Standing Finish
    Stand = record { seen = (progress_at script (Host) earlier).seen; steps = steps }

    putter : IsPutter h.hand.task
    putter = owned.putter script is earlier call along row unit below inside t.id t.number t.cell place t.what t.done steps h asked

    may-now : MayPutTo (Host) (Stand) (U) row h.hand.id
    may-now =
        let sent : next_errand steps ≡ Some (record { bay = U; request = Put row t.id t.number t.cell }) =
        asked ∙ ap (λ (b : BayNo). Some (record { bay = b; request = call.ask.what })) place ∙ ap (λ (w : Request). Some (record { bay = U; request = w })) t.what in
        let may : MayPutTo (Host) (Stand) (U) row t.id = ([], Stand, refl, t.number, t.cell, sent) in
        subst (λ (x : Number). MayPutTo (Host) (Stand) (U) row x) (id-is-own script is earlier (Host) steps h call asked t.id (ap (λ (w : Request). id_of w) t.what)) may

    puts : Putter script earlier (Host) steps h row unit
    puts = record {
      putter = putter;
      confirmed = owned.confirmed script is earlier call along row unit below inside t.id t.number t.cell place t.what t.done steps h asked;
      noted = own-noted script is earlier call along row below (U) t.id t.number t.cell place t.what t.done steps h asked;
      may = may-now;
    }

    by-write : (object : Name) (first from count : ℕ) → h.hand.task ≡ tasks.Write object first from count → AllBelow t.number (Reads earlier)
    by-write object first from count writes =
        reads-under script is earlier (Host) steps h call asked row t.id t.number t.cell t.what k.call k.among (Reads earlier) k.cover (λ order plain. late order (k.late order))
      where
        k : Known script.mode h.hand.id (calls_at script earlier (Host)) (Reads earlier)
        k = known earlier along.0 (Host) steps h (subst IsWriteTask (sym writes) tt) puts none

        late : script.mode ≡ Order → (k.cover.number.0 < h.hand.id.0) ⊎ (k.call.answer.reply ≡ Missing k.cover.number) → k.cover.number.0 < h.hand.id.0
        late order (inl less) = less
        late order (inr said) =
            all-in (λ (y : Call). (m : Number) → y.answer.reply ≡ Missing m → m.0 < h.hand.id.0) k.call (calls_at script earlier (Host))
            ((write-rises script is earlier call steps h asked object first from count writes).floors row t.id t.number t.cell t.what order) k.among k.cover.number said

    below-put : AllBelow t.number (Reads earlier)
    below-put = by (may-put script is earlier call steps h asked row t.id t.number t.cell t.what)
      where
        by : MayPut h.hand.task → AllBelow t.number (Reads earlier)
        by (Writes object first from count writes) = by-write object first from count writes
        by (Rebuilds bay mends) =
            absurd (subst (λ (cs : List Commit). IsIn t.commit cs) (commits-are script is earlier call steps h asked t.done ∙ (mend-puts script is earlier call steps h asked bay mends).none) t.among)
        by (Recovers at recovers) = absurd (subst IsPutter recovers putter)

pub bare-reads-below : (script : Script) → IsScript script → (earlier : List Call) (call : Call) → IsHistory script (call ∷ earlier) → (row : RowNo) → row.0 < script.rows → (unit : ℕ) → unit + 1 < script.n →
    (t : TakesOne script earlier call row unit) → call.bay ≡ bay_of script.n row unit → cell_at script earlier row (parity_bay script.n row) ≡ None →
    AllBelow t.number (reads script (parity_bay script.n row) row earlier)
bare-reads-below script is earlier call along row below unit inside t place none =
    let a : Asker script is earlier call = asker script is earlier call along.0 along.1 row (ap (λ (w : Request). row_of w) t.what) in
    below-put script is row below unit inside earlier call along t place none a.steps a.hand a.asked
