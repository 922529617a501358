-- While the note of a row's parity came from a write that is in hand, what the write has put of a unit, and what it has found
-- missing or lost, stays so.
use Rattle.std.proofs.Common.{◌≡◌, ◌⊎◌, inl, inr, refl, sym, ap, subst, ◌∙◌, ℕ, ◌+◌, ◌<◌, ◌≤◌, ◌==◌, ◌&&◌, Bool, true, false, if◌then◌else◌, List, [], ◌∷◌, Option, Some, None, arith}
use Rattle.std.proofs.lemmas.Bool.{eq-eqb}
use Rattle.raid_base.specs.declared.numbers.BayNo.{BayNo}
use Rattle.raid_base.specs.declared.numbers.HostNo.{HostNo}
use Rattle.raid_base.specs.declared.numbers.RowNo.{RowNo}
use Rattle.raid_base.specs.declared.numbers.Number.{Number}
use Rattle.raid_base.specs.declared.cells.Cell.{Cell}
use Rattle.raid_base.specs.declared.messages.How.{How}
use Rattle.raid_base.specs.declared.messages.Ask.{Ask}
use Rattle.raid_base.specs.declared.messages.Grant.{Grant}
use Rattle.raid_base.specs.declared.messages.Reply.{Reply}
use Rattle.raid_base.specs.declared.messages.Reply.TheVariants.{Missing, NoNote, Fault}
use Rattle.raid_base.specs.declared.messages.Request.{Request}
use Rattle.raid_base.specs.declared.messages.Request.TheVariants.{Claim, Put, Lose, Fit}
use Rattle.raid_base.specs.declared.messages.Call.{Call}
use Rattle.raid_base.specs.declared.jobs.Task.{Task}
use Rattle.raid_base.specs.declared.jobs.Task.TheVariants as tasks
use Rattle.raid_base.specs.Cells.{content_of}
use Rattle.raid_base.specs.Numbers.{sees}
use Rattle.raid_base.specs.Replies.{is_fault, is_done, grant_of}
use Rattle.raid_base.specs.Steps.{Commit, Steps, Standing, settled, behind, next_errand, commits_next, errand_of}
use Rattle.stripe_layout.specs.Placement.{parity_bay, bay_of}
use Rattle.slot_rules.specs.Slots.{Slot, Bay}
use Rattle.slot_rules.specs.Rules.{keeps, note_id, put_done, put_rule}
use Rattle.slot_rules.specs.Serving.{slot_rule}
use Rattle.attempts.specs.Taking.{Finish}
use Rattle.attempts.specs.Phases as phases
use Rattle.attempts.specs.Phases.{IsIn, MayAsk, after_asking}
use Rattle.script_text.specs.Script.{Script}
use Rattle.script_text.specs.Ranges.{IsScript}
use Rattle.histories.specs.Calls.{Happened, row_of, id_of, is_row, is_at, IsClaim, IsPut, IsDone}
use Rattle.histories.specs.Torn.{IsMissing}
use Rattle.histories.specs.Hands.{Led, Phased, past_of}
use Rattle.histories.specs.Progress.{Trying, Progress, attempt}
use Rattle.histories.specs.History.{IsHistory, progress_at, bay_at}
use Rattle.histories.proofs.hands.PhasedHands.{phased}
use Rattle.histories.specs.RowStates.{slot_at, cell_at}
use Rattle.row_laws.specs.Laws.{commits_in, commits_of}
use Rattle.serial_laws.specs.Laws.{is_of, last_of, content_at}
use Rattle.row_laws.specs.Hands.{HasHand, calls_at}
use Rattle.row_laws.proofs.hands.HandMoves.{may-next, Stays, Goes, Came, Stayed, Begun, Went, came}
use Rattle.row_laws.proofs.hands.HandClaims.{claimed-taken, next-untaken}
use Rattle.row_laws.proofs.hands.SlotMoves.{SlotMove, Kept, Touched, Lost, outcome_at, moved}
use Rattle.row_laws.proofs.hands.SlotMoves as moves
use Rattle.row_laws.proofs.hands.SlotDoes.{IsGone, Does, Refuses, Closes, Grants, Shows, Holds, Puts, Frees, Leaves, slot-does}
use Rattle.row_laws.proofs.holders.AnsweredFreeHands.{parity-claimed}
use Rattle.row_laws.proofs.holders.HolderNotesHands.{put-more}
use Rattle.row_laws.proofs.owners.RowOwnersSlots.{life-kept, claim-life, empty-bare}
use Rattle.row_laws.proofs.owners.RowOwnersHands.{happened-in, other-id}
use Rattle.row_laws.proofs.commits.CommitTrees.{PutCommits, EachPutCommits, settled-put-commits, behind-put-commits, next-put-commits, unit-put-commits, attempt-put-commits}
use Rattle.serial_laws.proofs.contents.ContentStates.{IsWriteTask, IsUnitPut, IsUnitGrant, IsWriteHeld, AreHandsShown}
use Rattle.serial_laws.proofs.contents.ContentsCovered.{IsOwnCommit}
use Rattle.serial_laws.proofs.contents.ContentWriteFacts.{From, Opens, came-before, own-or-stays, blank-stays, units-aside, put-late}

-- Replies. A claim that is answered missing found no cell
gone-by : (bay : Bay) (ask : Ask) (slot : Slot) (row : RowNo) (id : Number) (how : How) (mask : ℕ) (want : Bool) (floor : Number) (what : Request) (reply : Reply) (left : Slot) → Does bay ask slot what reply left →
    what ≡ Claim row id how mask want → reply ≡ Missing floor → IsGone bay slot
gone-by bay ask slot row id how mask want floor what reply left (Refuses r refused missing) is said = missing floor said
gone-by bay ask slot row id how mask want floor what reply left (Closes there none) is said = inr none
gone-by bay ask slot row id how mask want floor what reply left (Grants claims) is said = absurd (let bad = sym claims.reply ∙ said in cc)
gone-by bay ask slot row id how mask want floor what reply left (Shows shares) is said = absurd (cc)
gone-by bay ask slot row id how mask want floor what reply left (Holds own) is said = absurd (cc)
gone-by bay ask slot row id how mask want floor what reply left (Puts own) is said = absurd (cc)
gone-by bay ask slot row id how mask want floor what reply left (Frees own) is said = absurd (cc)
gone-by bay ask slot row id how mask want floor what reply left (Leaves free reader found) is said = absurd (cc)

-- a put that found no note tells the life of the bay
told-life : (bay : Bay) (slot : Slot) (id n : Number) (cell : Cell) (fails : Bool) (life : ℕ) → (put_rule bay slot id n cell fails).reply ≡ NoNote life → life ≡ bay.life
told-life bay slot id n cell fails life = by (note_id slot.note id) fails
  where
    by : (own bad : Bool) → (if own then (if bad then keeps slot Fault else put_done slot id n cell) else keeps slot (NoNote bay.life)).reply ≡ NoNote life → life ≡ bay.life
    by true true e = absurd (cc)
    by true false e = absurd (cc)
    by false bad e = cc

-- Commits along the calls of a write
led-put-commits : (n : ℕ) (host : HostNo) (start : Standing Finish) (calls : List Call) (now : Standing Finish) → EachPutCommits n start.steps → Led host start calls now → EachPutCommits n now.steps
led-put-commits n host start [] now h led = subst (λ (x : Standing Finish). EachPutCommits n x.steps) led h
led-put-commits n host start (call ∷ earlier) now h (before, led, asked, fit, later) =
    subst (λ (x : Standing Finish). EachPutCommits n x.steps) later
    (settled-put-commits n host (sees before.seen call.answer.reply) (behind before.steps call.answer.reply)
    (behind-put-commits n before.steps call.answer.reply (led-put-commits n host start earlier before h led)))

start-commits : (script : Script) → IsScript script → (host : HostNo) (id : Number) (row : ℕ) (task : Task) → IsWriteTask task → EachPutCommits script.n (attempt script host id row task)
start-commits script is host id row (tasks.Write object first from count) w = attempt-put-commits script is host id row object first from count
start-commits script is host id row (tasks.Read object first count) w = absurd w
start-commits script is host id row (tasks.Recover at) w = absurd w
start-commits script is host id row (tasks.Rebuild bay) w = absurd w
start-commits script is host id row (tasks.Lose bay) w = absurd w
start-commits script is host id row (tasks.Fit bay) w = absurd w

-- a put among the calls
put-in : (at : BayNo) (row : RowNo) (calls : List Call) (call : Call) → IsIn call calls → (id n : Number) (cell : Cell) → call.bay ≡ at → call.ask.what ≡ Put row id n cell →
    IsIn (record { bay = at; row = row }) (past_of calls).put
put-in at row [] call i id n cell place what = absurd i
put-in at row (first ∷ calls) call (inl same) id n cell place what =
    let here : first.bay ≡ at = ap (λ (c : Call). c.bay) same ∙ place in
    let is : first.ask.what ≡ Put row id n cell = ap (λ (c : Call). c.ask.what) same ∙ what in
    subst (λ (w : Request). IsIn (record { bay = at; row = row }) (after_asking (past_of calls) first.bay w first.answer.reply).put) (sym is) (inl (ap (λ (b : BayNo). record { bay = b; row = row }) here))
put-in at row (first ∷ calls) call (inr i) id n cell place what = put-more first calls (record { bay = at; row = row }) (put-in at row calls call i id n cell place what)

module _ (script : Script) (is : IsScript script) (row : RowNo) (below : row.0 < script.rows) (earlier : List Call) (call : Call) (along : IsHistory script (call ∷ earlier)) (unit : ℕ) (inside : unit + 1 < script.n) where
  abbrev P : BayNo
  P = parity_bay script.n row

  abbrev U : BayNo
  U = bay_of script.n row unit

  abbrev Is : Number → List Call → Type 0
  Is = From script is row below

  abbrev Held : List Call → List Call → Type 0
  Held history calls = IsWriteHeld script history row unit calls

  -- a request of the unit touches it
  itself : call.bay ≡ U → row_of call.ask.what ≡ Some row → is_at (U) row call ≡ true
  itself place of =
      subst (λ (b : Bool). (b && is_row row (row_of call.ask.what)) ≡ true) (sym (eq-eqb call.bay.0 (U).0 (ap (λ (x : BayNo). x.0) place)))
      (ap (λ (o : Option RowNo). is_row row o) of ∙ eq-eqb row.0 row.0 refl)

  -- a claim that is answered missing found no cell
  claim-none : IsClaim (U) row call → IsMissing call → cell_at script earlier row (U) ≡ None
  claim-none (place, id, how, mask, want, what) (floor, said) = by (moved script is earlier call along.1 (U) row below)
    where
      gone : IsGone (bay_at script (U) earlier) (slot_at script earlier (U) row) → cell_at script earlier row (U) ≡ None
      gone (inl empty) = (empty-bare script is earlier along.0 (U) row below empty).0
      gone (inr none) = none

      by : SlotMove (bay_at script (U) earlier) (U) row call (bay_at script (U) (call ∷ earlier)) → cell_at script earlier row (U) ≡ None
      by (Kept slot empty life apart) = absurd (let bad : true ≡ false = sym (itself place (ap (λ (w : Request). row_of w) what)) ∙ apart in cc)
      by (Touched at_bay of reply slot empty life) =
          gone (gone-by (bay_at script (U) earlier) call.ask (slot_at script earlier (U) row) row id how mask want floor call.ask.what (outcome_at (bay_at script (U) earlier) row call).reply
          (outcome_at (bay_at script (U) earlier) row call).slot
          (slot-does (bay_at script (U) earlier) call.ask (slot_at script earlier (U) row) (is_fault call.answer.reply) call.ask.what row of) what (sym reply ∙ said))
      by (Lost at_bay lost was slot empty life) = absurd (let bad : Lose ≡ Claim row id how mask want = sym lost ∙ what in cc)
      by (moves.Fitted at_bay fitted was slot empty life) = absurd (let bad : Fit ≡ Claim row id how mask want = sym fitted ∙ what in cc)

  -- a put that found no note tells the life of the bay
  put-life : (id n : Number) (cell : Cell) (life : ℕ) → call.bay ≡ U → call.ask.what ≡ Put row id n cell → call.answer.reply ≡ NoNote life → life ≡ (bay_at script (U) earlier).life
  put-life id n cell told place what said = by (moved script is earlier call along.1 (U) row below)
    where
      by : SlotMove (bay_at script (U) earlier) (U) row call (bay_at script (U) (call ∷ earlier)) → told ≡ (bay_at script (U) earlier).life
      by (Kept slot empty life apart) = absurd (let bad : true ≡ false = sym (itself place (ap (λ (w : Request). row_of w) what)) ∙ apart in cc)
      by (Touched at_bay of reply slot empty life) =
          told-life (bay_at script (U) earlier) (slot_at script earlier (U) row) id n cell (is_fault call.answer.reply) told
          (sym (ap (λ (w : Request). (slot_rule (bay_at script (U) earlier) (slot_at script earlier (U) row) call.ask (is_fault call.answer.reply) w).reply) what) ∙ sym reply ∙ said)
      by (Lost at_bay lost was slot empty life) = absurd (let bad : Lose ≡ Put row id n cell = sym lost ∙ what in cc)
      by (moves.Fitted at_bay fitted was slot empty life) = absurd (let bad : Fit ≡ Put row id n cell = sym fitted ∙ what in cc)

  module _ (host : HostNo) (steps : Steps Finish) (b : HasHand script earlier host steps) (writes : IsWriteTask b.hand.task) where
    abbrev Calls : List Call
    Calls = calls_at script earlier host

    abbrev Lives : List Call → ℕ → Type 0
    Lives history life = (life ≡ (bay_at script (U) history).life) ⊎ (cell_at script history row (U) ≡ None)

    module _ (before : Is b.hand.id earlier) where
      still-none : cell_at script earlier row (U) ≡ None → cell_at script (call ∷ earlier) row (U) ≡ None
      still-none = blank-stays script is row below earlier call along host steps b writes before unit inside

      life-stays : (life : ℕ) → Lives earlier life → Lives (call ∷ earlier) life
      life-stays told (inr none) = inr (still-none none)
      life-stays told (inl same) = by (moved script is earlier call along.1 (U) row below)
        where
          by : SlotMove (bay_at script (U) earlier) (U) row call (bay_at script (U) (call ∷ earlier)) → Lives (call ∷ earlier) told
          by (Kept slot empty life apart) = inl (same ∙ sym life)
          by (Touched at_bay of reply slot empty life) = inl (same ∙ sym life)
          by (Lost at_bay lost was slot empty life) = inr (ap (λ (s : Slot). s.cell) slot)
          by (moves.Fitted at_bay fitted was slot empty life) = inl (same ∙ sym life)

      -- The call is of another host
      stays-held : (call.ask.host.0 == host.0) ≡ false → Is b.hand.id (call ∷ earlier) → Held earlier (Calls) → Held (call ∷ earlier) (Calls)
      stays-held other now held = record {
        put = λ cell put. same ∙ held.put cell put;
        missing = λ h. still-none (held.missing h);
        granted = λ grant h. life-stays grant.life (held.granted grant h);
        lost = λ grant life cell g p apart. still-none (held.lost grant life cell g p apart);
      }
        where
          by : (content_at script (call ∷ earlier) row unit ≡ content_at script earlier row unit) ⊎ ((c : IsOwnCommit script earlier call row unit) × (c.id ≡ b.hand.id)) →
              content_at script (call ∷ earlier) row unit ≡ content_at script earlier row unit
          by (inl same) = same
          by (inr (c, named)) =
              absurd (other-id script is earlier call along host b.hand.id other b.hand.own (ap (λ (w : Request). id_of w) c.put ∙ ap (λ (x : Number). Some x) named))

          same : content_at script (call ∷ earlier) row unit ≡ content_at script earlier row unit
          same = by (own-or-stays script is row below earlier call along host steps b writes before unit inside now)

    -- The write asked the call
    module _ (own : call.ask.host ≡ host) (asked : next_errand steps ≡ Some (errand_of call)) where
      past : Phased script.n b.hand.id (Calls) steps
      past = phased script is host (progress_at script host earlier) steps b.hand

      may-ask : MayAsk script.n b.hand.id (past).past call.bay call.ask.what
      may-ask = may-next script.n b.hand.id (past).past steps (errand_of call) (past).keeps asked

      -- a claim comes before all puts, and a put is no claim
      claims-early : (at : BayNo) → IsClaim at row call → (other : BayNo) (id : Number) → Happened (IsPut other row id) (Calls) → ⊥
      claims-early at (place, id, how, mask, want, what) other of puts =
          let may : MayAsk script.n b.hand.id (past).past call.bay (Claim row id how mask want) = subst (λ (w : Request). MayAsk script.n b.hand.id (past).past call.bay w) what may-ask in
          let low : (past).past.phase ≤ 0 = may.1 in
          let less : (past_of (Calls)).phase ≤ (past).past.phase = (past).same.phase in
          let late : 1 ≤ (past_of (Calls)).phase = put-late other row of (Calls) puts in
          absurd (omega (arith, low, less, late))

      claim-apart : (at : BayNo) → IsClaim at row call → (cell : Cell) → IsUnitPut script.n row unit cell call → ⊥
      claim-apart at (place, id, how, mask, want, what) cell (there, by, k, put) = let bad : Claim row id how mask want ≡ Put row by k cell = sym what ∙ put in absurd (cc)

      -- a put of the unit has an id
      puts-of : (Q : Call → Type 0) → (cell : Cell) → Happened (λ c. IsUnitPut script.n row unit cell c × Q c) (Calls) → (id : Number) × Happened (IsPut (U) row id) (Calls)
      puts-of Q cell = by (Calls)
        where
          by : (calls : List Call) → Happened (λ c. IsUnitPut script.n row unit cell c × Q c) calls → (id : Number) × Happened (IsPut (U) row id) calls
          by [] h = absurd h
          by (c ∷ calls) (inl ((place, id, k, what), q)) = (id, inl (place, k, cell, what))
          by (c ∷ calls) (inr h) = let found = by calls h in (found.0, inr found.1)

      -- where the row is claimed now, no unit was put
      claim-first : (Q : Call → Type 0) → (at : BayNo) → IsClaim at row call → (cell : Cell) → Happened (λ c. IsUnitPut script.n row unit cell c × Q c) (Calls) → ⊥
      claim-first Q at claim cell h = let found = puts-of Q cell h in claims-early at claim (U) found.0 found.1

      -- a unit is put once
      put-once : (id n : Number) (cell : Cell) → call.bay ≡ U → call.ask.what ≡ Put row id n cell → (old : Cell) → Happened (λ c. IsUnitPut script.n row unit old c × IsDone c) (Calls) → ⊥
      put-once id n cell place what old h =
          let found = happened-in (Calls) h in
          let slot : phases.Slot = record { bay = U; row = row } in
          let may : MayAsk script.n b.hand.id (past).past (U) (Put row id n cell) =
          subst (λ (x : BayNo). MayAsk script.n b.hand.id (past).past x (Put row id n cell)) place (subst (λ (w : Request). MayAsk script.n b.hand.id (past).past call.bay w) what may-ask) in
          let there : IsIn slot (past_of (Calls)).put = put-in (U) row (Calls) found.0 found.1 found.2.0.1 found.2.0.2 old found.2.0.0 found.2.0.3 in
          may.3.once (subst (λ (slots : List phases.Slot). IsIn slot slots) (sym (past).same.put) there)

      -- it gives the unit the content of its cell
      put-content : (cell : Cell) → IsUnitPut script.n row unit cell call → IsDone call → content_at script (call ∷ earlier) row unit ≡ content_of cell
      put-content cell (place, id, k, what) done =
          ap (λ (cs : List Commit). last_of row unit cs (content_at script earlier row unit)) (given ∙ commits)
          ∙ ap (λ (t : Bool). if t then content_of cell else content_at script earlier row unit) this
        where
          each : EachPutCommits script.n steps
          each =
              let p : Progress = progress_at script host earlier in
              let s : Steps Finish = attempt script host b.hand.id p.row b.hand.task in
              led-put-commits script.n host (settled host b.hand.id s) p.calls (record { seen = p.seen; steps = steps })
              (settled-put-commits script.n host b.hand.id s (start-commits script is host b.hand.id p.row b.hand.task writes)) b.hand.led

          commits : commits_next steps ≡ record { row = row; unit = unit; content = content_of cell } ∷ []
          commits =
              let so : PutCommits script.n (U) (Put row id k cell) (commits_next steps) =
              subst (λ (x : BayNo). PutCommits script.n x (Put row id k cell) (commits_next steps)) place
              (subst (λ (w : Request). PutCommits script.n call.bay w (commits_next steps)) what (next-put-commits script.n steps (errand_of call) each asked)) in
              unit-put-commits script.n row unit id k cell (commits_next steps) is.devices_least inside so

          work : (progress_at script call.ask.host earlier).work ≡ Trying steps
          work = ap (λ (x : HostNo). (progress_at script x earlier).work) own ∙ b.work

          given : commits_of script earlier call ≡ commits_next steps
          given =
              ap (λ (r : Reply). if is_done r then commits_in (progress_at script call.ask.host earlier).work else []) done
              ∙ ap commits_in work

          both-true : (x y : Bool) → x ≡ true → y ≡ true → (x && y) ≡ true
          both-true true y p q = q
          both-true false y p q = p

          this : is_of row unit (record { row = row; unit = unit; content = content_of cell }) ≡ true
          this = both-true (row.0 == row.0) (unit == unit) (eq-eqb row.0 row.0 refl) (eq-eqb unit unit refl)

      goes-held : Is b.hand.id earlier → Is b.hand.id (call ∷ earlier) → Held earlier (Calls) → Held (call ∷ earlier) (call ∷ Calls)
      goes-held before now held = record { put = put; missing = missing; granted = granted; lost = lost }
        where
          stays : (cell : Cell) → Happened (λ c. IsUnitPut script.n row unit cell c × IsDone c) (Calls) →
              (content_at script (call ∷ earlier) row unit ≡ content_at script earlier row unit) ⊎ ((c : IsOwnCommit script earlier call row unit) × (c.id ≡ b.hand.id)) →
              content_at script (call ∷ earlier) row unit ≡ content_at script earlier row unit
          stays cell old (inl same) = same
          stays cell old (inr (c, named)) = absurd (put-once c.id c.number c.cell c.place c.put cell old)

          put : (cell : Cell) → Happened (λ c. IsUnitPut script.n row unit cell c × IsDone c) (call ∷ Calls) → content_at script (call ∷ earlier) row unit ≡ content_of cell
          put cell (inl (puts, done)) = put-content cell puts done
          put cell (inr old) = stays cell old (own-or-stays script is row below earlier call along host steps b writes before unit inside now) ∙ held.put cell old

          missing : Happened (λ c. IsClaim (U) row c × IsMissing c) (call ∷ Calls) → cell_at script (call ∷ earlier) row (U) ≡ None
          missing (inl (claim, gone)) = still-none before (claim-none claim gone)
          missing (inr old) = still-none before (held.missing old)

          granted : (grant : Grant) → Happened (IsUnitGrant script.n row unit grant) (call ∷ Calls) → Lives (call ∷ earlier) grant.life
          granted grant (inl (claim, grants)) =
              inl (claim-life script is earlier call along.1 (U) row below claim grant grants ∙ sym (life-kept script is earlier call along.1 (U) row below (not-lose claim)))
            where
              not-lose : IsClaim (U) row call → call.ask.what ≡ Lose → ⊥
              not-lose (place, id, how, mask, want, what) lose = let bad : Claim row id how mask want ≡ Lose = sym what ∙ lose in absurd (cc)
          granted grant (inr old) = life-stays before grant.life (held.granted grant old)

          lost : (grant : Grant) (life : ℕ) (cell : Cell) → Happened (IsUnitGrant script.n row unit grant) (call ∷ Calls) →
              Happened (λ c. IsUnitPut script.n row unit cell c × (c.answer.reply ≡ NoNote life)) (call ∷ Calls) → (grant.life ≡ life → ⊥) → cell_at script (call ∷ earlier) row (U) ≡ None
          lost grant life cell (inl (claim, grants)) (inl (puts, said)) apart = absurd (claim-apart (U) claim cell puts)
          lost grant life cell (inl (claim, grants)) (inr puts) apart = absurd (claim-first (λ c. c.answer.reply ≡ NoNote life) (U) claim cell puts)
          lost grant life cell (inr old) (inl ((place, id, k, what), said)) apart = by (held.granted grant old)
            where
              by : Lives earlier grant.life → cell_at script (call ∷ earlier) row (U) ≡ None
              by (inl same) = absurd (apart (same ∙ sym (put-life id k cell life place what said)))
              by (inr none) = still-none before none
          lost grant life cell (inr old) (inr puts) apart = still-none before (held.lost grant life cell old puts apart)

      -- the call claims the parity: nothing of the row was asked before
      opens-held : Opens script is row below earlier call along b.hand.id → Held (call ∷ earlier) (call ∷ Calls)
      opens-held opens = record { put = put; missing = missing; granted = granted; lost = lost }
        where
          claim : IsClaim (P) row call
          claim = let c = opens.claimed in (c.place, c.id, c.how, c.mask, c.want, c.what)

          no-claim : (Q : Call → Type 0) → Happened (λ c. IsClaim (U) row c × Q c) (call ∷ Calls) → ⊥
          no-claim Q (inl (there, q)) = units-aside script is row below unit inside (sym there.0 ∙ claim.0)
          no-claim Q (inr old) =
              let found = happened-in (Calls) old in
              next-untaken script is earlier host steps b call asked (P) row (inr claim)
              (claimed-taken (record { bay = P; row = row }) (Calls)
              (parity-claimed script is host (progress_at script host earlier) steps b.hand row unit inside (Calls)
              (record { seen = (progress_at script host earlier).seen; steps = steps }) b.hand.led (among (Calls) found.0 found.1 found.2.0)))
            where
              among : (calls : List Call) (c : Call) → IsIn c calls → IsClaim (U) row c → Happened (IsClaim (U) row) calls
              among [] c i k = absurd i
              among (first ∷ calls) c (inl same) k = inl (subst (λ (x : Call). IsClaim (U) row x) (sym same) k)
              among (first ∷ calls) c (inr i) k = inr (among calls c i k)

          no-put : (Q : Call → Type 0) → (cell : Cell) → Happened (λ c. IsUnitPut script.n row unit cell c × Q c) (call ∷ Calls) → ⊥
          no-put Q cell (inl (puts, q)) = claim-apart (P) claim cell puts
          no-put Q cell (inr old) = claim-first Q (P) claim cell old

          put : (cell : Cell) → Happened (λ c. IsUnitPut script.n row unit cell c × IsDone c) (call ∷ Calls) → content_at script (call ∷ earlier) row unit ≡ content_of cell
          put cell h = absurd (no-put IsDone cell h)

          missing : Happened (λ c. IsClaim (U) row c × IsMissing c) (call ∷ Calls) → cell_at script (call ∷ earlier) row (U) ≡ None
          missing h = absurd (no-claim IsMissing h)

          granted : (grant : Grant) → Happened (IsUnitGrant script.n row unit grant) (call ∷ Calls) → Lives (call ∷ earlier) grant.life
          granted grant h = absurd (no-claim (λ c. grant_of c.answer.reply ≡ Some grant) h)

          lost : (grant : Grant) (life : ℕ) (cell : Cell) → Happened (IsUnitGrant script.n row unit grant) (call ∷ Calls) →
              Happened (λ c. IsUnitPut script.n row unit cell c × (c.answer.reply ≡ NoNote life)) (call ∷ Calls) → (grant.life ≡ life → ⊥) → cell_at script (call ∷ earlier) row (U) ≡ None
          lost grant life cell h puts apart = absurd (no-claim (λ c. grant_of c.answer.reply ≡ Some grant) h)

-- nothing was asked yet
none-held : (script : Script) (history : List Call) (row : RowNo) (unit : ℕ) → IsWriteHeld script history row unit []
none-held script history row unit = record { put = λ cell h. absurd h; missing = λ h. absurd h; granted = λ grant h. absurd h; lost = λ grant life cell h puts apart. absurd h }

pub held-next : (script : Script) → (is : IsScript script) → (earlier : List Call) (call : Call) → IsHistory script (call ∷ earlier) → AreHandsShown script earlier →
    (host : HostNo) (steps : Steps Finish) (h : HasHand script (call ∷ earlier) host steps) (row : RowNo) → (below : row.0 < script.rows) → IsWriteTask h.hand.task →
    From script is row below h.hand.id (call ∷ earlier) → (unit : ℕ) → unit + 1 < script.n → IsWriteHeld script (call ∷ earlier) row unit (calls_at script (call ∷ earlier) host)
held-next script is earlier call along shown host steps h row below writes now unit inside = by (came script is earlier call along.0 along.1 host steps h)
  where
    same-task : (task : Task) → task ≡ h.hand.task → IsWriteTask task
    same-task task same = subst IsWriteTask (sym same) writes

    stays : (s : Stays script is earlier call along.0 along.1 host steps h.hand.id h.hand.task (calls_at script (call ∷ earlier) host)) → From script is row below h.hand.id earlier ⊎ Opens script is row below earlier call along h.hand.id →
        IsWriteHeld script (call ∷ earlier) row unit (calls_at script (call ∷ earlier) host)
    stays s (inl before) =
        let old : From script is row below s.before.hand.id earlier = subst (λ (x : Number). From script is row below x earlier) (sym s.same_id) before in
        let new : From script is row below s.before.hand.id (call ∷ earlier) = subst (λ (x : Number). From script is row below x (call ∷ earlier)) (sym s.same_id) now in
        let w : IsWriteTask s.before.hand.task = same-task s.before.hand.task s.same_task in
        subst (λ (calls : List Call). IsWriteHeld script (call ∷ earlier) row unit calls) (sym s.calls)
        (stays-held script is row below earlier call along unit inside host steps s.before w old s.other new ((shown.writes host steps s.before row below w).held old unit inside))
    stays s (inr opens) =
        absurd (other-id script is earlier call along host h.hand.id s.other h.hand.own (ap (λ (w : Request). id_of w) opens.claimed.what ∙ ap (λ (x : Number). Some x) opens.own))

    goes : (g : Goes script is earlier call along.0 along.1 host h.hand.id h.hand.task (calls_at script (call ∷ earlier) host)) → From script is row below h.hand.id earlier ⊎ Opens script is row below earlier call along h.hand.id →
        IsWriteHeld script (call ∷ earlier) row unit (calls_at script (call ∷ earlier) host)
    goes g (inl before) =
        let old : From script is row below g.before.hand.id earlier = subst (λ (x : Number). From script is row below x earlier) (sym g.same_id) before in
        let new : From script is row below g.before.hand.id (call ∷ earlier) = subst (λ (x : Number). From script is row below x (call ∷ earlier)) (sym g.same_id) now in
        let w : IsWriteTask g.before.hand.task = same-task g.before.hand.task g.same_task in
        subst (λ (calls : List Call). IsWriteHeld script (call ∷ earlier) row unit calls) (sym g.calls)
        (goes-held script is row below earlier call along unit inside host g.steps g.before w g.own g.asked old new ((shown.writes host g.steps g.before row below w).held old unit inside))
    goes g (inr opens) =
        let w : IsWriteTask g.before.hand.task = same-task g.before.hand.task g.same_task in
        subst (λ (calls : List Call). IsWriteHeld script (call ∷ earlier) row unit calls) (sym g.calls)
        (opens-held script is row below earlier call along unit inside host g.steps g.before w g.own g.asked (subst (λ (x : Number). Opens script is row below earlier call along x) (sym g.same_id) opens))

    by : Came script is earlier call along.0 along.1 host steps h.hand.id h.hand.task (calls_at script (call ∷ earlier) host) → IsWriteHeld script (call ∷ earlier) row unit (calls_at script (call ∷ earlier) host)
    by (Begun own bare) = subst (λ (calls : List Call). IsWriteHeld script (call ∷ earlier) row unit calls) (sym bare) (none-held script (call ∷ earlier) row unit)
    by (Stayed s) = stays s (came-before script is row below earlier call along h.hand.id now)
    by (Went g) = goes g (came-before script is row below earlier call along h.hand.id now)
