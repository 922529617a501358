-- What a rebuild was shown of a row stays so while the parity has a note that came from it. Where the parity has no cell none was
-- shown of it, and the units that were granted are put by nobody else.
use Rattle.std.proofs.Common.{◌≡◌, ◌⊎◌, inl, inr, refl, sym, ap, subst, ◌∙◌, ℕ, ◌+◌, ◌<◌, if◌then◌else◌, Bool, true, false, List, [], ◌∷◌, Option, Some, None, IsSome, IsNone, arith}
use Rattle.raid_base.specs.declared.numbers.HostNo.{HostNo}
use Rattle.raid_base.specs.declared.numbers.RowNo.{RowNo}
use Rattle.raid_base.specs.declared.numbers.BayNo.{BayNo}
use Rattle.raid_base.specs.declared.numbers.Number.{Number}
use Rattle.raid_base.specs.declared.cells.Cell.{Cell}
use Rattle.raid_base.specs.declared.messages.Ask.{Ask}
use Rattle.raid_base.specs.declared.messages.How.TheVariants.{Plain, Seize, Mend}
use Rattle.raid_base.specs.declared.messages.Note.{Note}
use Rattle.raid_base.specs.declared.messages.Grant.{Grant}
use Rattle.raid_base.specs.declared.messages.Request.{Request}
use Rattle.raid_base.specs.declared.messages.Request.TheVariants.{Share, Claim, Confirm, Put, Release, Lose, Fit}
use Rattle.raid_base.specs.declared.messages.Errand.{Errand}
use Rattle.raid_base.specs.declared.messages.Call.{Call}
use Rattle.raid_base.specs.declared.jobs.Task.{Task}
use Rattle.raid_base.specs.declared.jobs.Task.TheVariants as tasks
use Rattle.raid_base.specs.Replies.{grant_of, is_done}
use Rattle.raid_base.specs.Steps.{Commit, Steps, Standing, settled, next_errand, commits_next, errand_of}
use Rattle.stripe_layout.specs.Placement.{parity_bay, bay_of}
use Rattle.stripe_layout.proofs.LayoutLemmas.{laid_out}
use Rattle.slot_rules.specs.Laws.{claimed_note}
use Rattle.attempts.specs.declared.Repair.{Repair}
use Rattle.attempts.specs.Taking.{Finish}
use Rattle.attempts.specs.Phases.{Slot, Past, IsIn, after_asking}
use Rattle.attempts.specs.Sound.{Cells, cell_on, IsThis, GrantShows, ReplyShows}
use Rattle.attempts.proofs.SoundLemmas.{parity-on}
use Rattle.attempts.proofs.OnceClaims.{claims_are_of_their_kind}
use Rattle.script_text.specs.Script.{Script}
use Rattle.script_text.specs.Ranges.{IsScript, IsTask}
use Rattle.histories.specs.Calls.{Happened, row_of, id_of, IsClaim}
use Rattle.histories.specs.Torn.{IsWriteClaim}
use Rattle.histories.specs.Hands.{past_of}
use Rattle.histories.specs.Progress.{Work, Progress, attempt}
use Rattle.histories.specs.History.{IsHistory, progress_at, bay_at}
use Rattle.histories.specs.RowStates.{slot_at, cell_at}
use Rattle.histories.specs.Missing.{HasMissing}
use Rattle.row_laws.specs.Laws.{commits_in, commits_of}
use Rattle.serial_laws.specs.Laws.{last_of, content_at}
use Rattle.row_laws.specs.Hands.{HasHand, calls_at}
use Rattle.row_laws.specs.Holding.{HasNote, IsRelease, GivesNothing, IsOfOpenRecovery, CameFrom}
use Rattle.serial_laws.specs.Contents.{is_parity_put, base_at, IsPending}
use Rattle.row_laws.proofs.hands.HandMoves.{Goes, Stays, Came, Stayed, Begun, Went, came}
use Rattle.row_laws.proofs.hands.HandClaims.{made-kind, next-kind}
use Rattle.row_laws.proofs.hands.HandClaims as hands
use Rattle.histories.proofs.missing.MissingBays.{one_bay_is_missing}
use Rattle.row_laws.proofs.holders.AnsweredFreeNotes.{Takes, note-came}
use Rattle.row_laws.proofs.owners.RowOwnersTrees.{Asking, next-asking}
use Rattle.row_laws.proofs.owners.RowOwnersHands.{happened-in, happened-own, other-id, grants-live}
use Rattle.row_laws.proofs.owners.RowOwnersCalls.{putter-kind}
use Rattle.row_laws.proofs.owners.RowOwnersTasks.{seizes}
use Rattle.row_laws.proofs.holders.HolderNotesSlots.{Claimed}
use Rattle.row_laws.proofs.holders.HolderNotesCalls.{in-history, none-first}
use Rattle.row_laws.proofs.owners.HoldingLaws.{holders_keep_notes}
use Rattle.row_laws.proofs.hands.WriteMasks.{Asked, led-asked, AskedAfter, asked-one}
use Rattle.row_laws.proofs.covered.CoveredPutsSlots.{Turn, Same, Bare, Taken, Marked, Freed, turned}
use Rattle.serial_laws.proofs.contents.CommittingTrees.{Committing, next-committing, settled-committing, led-committing}
use Rattle.serial_laws.proofs.contents.ContentStates.{table, IsShownOf, AreShownIn, IsRebuild, MendKeeps, AreHandsShown, AllHold}
use Rattle.serial_laws.proofs.contents.ContentFacts.{cells-same}
use Rattle.serial_laws.proofs.contents.ContentsCovered.{IsOwnCommit, quiet-content, pending-by, contents_are_covered}
use Rattle.serial_laws.proofs.reads.ShownTrees.{ClaimsParityFirst, IsOfRow}
use Rattle.serial_laws.proofs.reads.ShownHands.{hand-mends, mend-calls}
use Rattle.serial_laws.proofs.contents.MendTrees.{ShowedParity, PutsShown, PutsQuietly, asking-of, mends-quietly}
use Rattle.serial_laws.proofs.contents.ContentCalls.{IsPlaced, placed, unit-aside, call-within, all-within, none-shows, unit-shown, parity-shown, put-bares, Putting, putting, granted-or, unit-stays, parity-stays, each-shown, one-shown, confirmed-parity, none-before}

-- Tasks
rebuild-task : (task : Task) → IsRebuild task → (bay : BayNo) × (task ≡ tasks.Rebuild bay)
rebuild-task (tasks.Rebuild bay) r = (bay, refl)
rebuild-task (tasks.Recover row) r = absurd r
rebuild-task (tasks.Read object first count) r = absurd r
rebuild-task (tasks.Write object first from count) r = absurd r
rebuild-task (tasks.Lose bay) r = absurd r
rebuild-task (tasks.Fit bay) r = absurd r

-- the operator rebuilds
rebuild-operator : (script : Script) (host : HostNo) (task : Task) → IsRebuild task → IsTask script host task → host.0 ≡ 0
rebuild-operator script host (tasks.Rebuild bay) r aim = aim.0
rebuild-operator script host (tasks.Recover row) r aim = absurd r
rebuild-operator script host (tasks.Read object first count) r aim = absurd r
rebuild-operator script host (tasks.Write object first from count) r aim = absurd r
rebuild-operator script host (tasks.Lose bay) r aim = absurd r
rebuild-operator script host (tasks.Fit bay) r aim = absurd r

rebuild-kind : (task : Task) → IsRebuild task → hands.kind_of task ≡ Mend
rebuild-kind (tasks.Rebuild bay) r = refl
rebuild-kind (tasks.Recover row) r = absurd r
rebuild-kind (tasks.Read object first count) r = absurd r
rebuild-kind (tasks.Write object first from count) r = absurd r
rebuild-kind (tasks.Lose bay) r = absurd r
rebuild-kind (tasks.Fit bay) r = absurd r

-- Notes that a claim has left
claimed-from : (ask : Ask) (by id : Number) (mask : ℕ) (o : Option Note) → (by ≡ id → ⊥) → CameFrom id (Some (claimed_note ask by mask o)) → CameFrom id o
claimed-from ask by id mask None other from = other from
claimed-from ask by id mask (Some note) other from = from

claimed-has : (ask : Ask) (by id : Number) (mask : ℕ) (o : Option Note) → HasNote id (Some (claimed_note ask by mask o)) → by ≡ id
claimed-has ask by id mask None h = h
claimed-has ask by id mask (Some note) h = h

one-origin : (x y : Number) (o : Option Note) → CameFrom x o → CameFrom y o → x ≡ y
one-origin x y None h k = absurd h
one-origin x y (Some note) h k = sym h ∙ k

-- What was put was put by a call
abbrev IsPutOf : BayNo → RowNo → Call → Type 0
IsPutOf at row call = (call.bay ≡ at) × (id : Number) × (k : Number) × (cell : Cell) × (call.ask.what ≡ Put row id k cell)

put-now : (at : BayNo) (row : RowNo) (past : Past) (call : Call) (what : Request) → call.ask.what ≡ what → IsIn (record { bay = at; row = row }) (after_asking past call.bay what call.answer.reply).put →
    IsPutOf at row call ⊎ IsIn (record { bay = at; row = row }) past.put
put-now at row past call (Share r id want) e i = inr i
put-now at row past call (Claim r id how mask want) e i = inr i
put-now at row past call (Confirm r id want) e i = inr i
put-now at row past call (Put r id k cell) e (inl same) =
    inl (ap (λ (s : Slot). s.bay) same, id, k, cell, e ∙ ap (λ (s : Slot). Put s.row id k cell) same)
put-now at row past call (Put r id k cell) e (inr i) = inr i
put-now at row past call (Release r id k) e i = inr i
put-now at row past call Lose e i = inr i
put-now at row past call Fit e i = inr i

put-found : (at : BayNo) (row : RowNo) (calls : List Call) → IsIn (record { bay = at; row = row }) (past_of calls).put → Happened (IsPutOf at row) calls
put-found at row [] i = absurd i
put-found at row (call ∷ earlier) i = by (put-now at row (past_of earlier) call call.ask.what refl i) (put-found at row earlier)
  where
    by : IsPutOf at row call ⊎ IsIn (record { bay = at; row = row }) (past_of earlier).put → (IsIn (record { bay = at; row = row }) (past_of earlier).put → Happened (IsPutOf at row) earlier) → Happened (IsPutOf at row) (call ∷ earlier)
    by (inl now) rest = inl now
    by (inr before) rest = inr (rest before)

-- a call that is of any table shows no cell
abbrev odd-table : ℕ → Cells
odd-table lost = record { parity = λ row. record { bytes = []; lost = lost }; units = λ row. [] }

any-none : (n : ℕ) (row : RowNo) (cell : Option Cell) → ((cells : Cells) → IsThis (cell_on n cells (parity_bay n row) row) cell) → IsSome cell → ⊥
any-none n row None any there = absurd (cc)
any-none n row (Some cell) any there =
    let zero : cell ≡ record { bytes = []; lost = 0 } = any (odd-table 0) ∙ parity-on n (odd-table 0) row in
    let one : cell ≡ record { bytes = []; lost = 1 } = any (odd-table 1) ∙ parity-on n (odd-table 1) row in
    let bad : 0 ≡ 1 = ap (λ (c : Cell). c.lost) (sym zero ∙ one) in
    absurd (omega (arith, bad))

module _ (script : Script) (is : IsScript script) where
  -- The calls of a rebuild that asks for a row
  module _ (history : List Call) (along : IsHistory script history) (host : HostNo) (steps : Steps Finish) (h : HasHand script history host steps) (rebuild : IsRebuild h.hand.task) where
    abbrev Row : RowNo
    Row = record { 0 = (progress_at script host history).row }

    its-row : (call : Call) → next_errand steps ≡ Some (errand_of call) → row_of call.ask.what ≡ Some (record { 0 = (progress_at script host history).row })
    its-row call asked =
        let t = rebuild-task h.hand.task rebuild in
        next-asking (IsOfRow (Row)) (calls_at script history host) steps (errand_of call) (hand-mends script is history along host steps h t.0 t.1) asked

    rebuild-so : (row : RowNo) (call : Call) → next_errand steps ≡ Some (errand_of call) → row_of call.ask.what ≡ Some row → (c : Call) → IsIn c (calls_at script history host) →
        (row_of c.ask.what ≡ Some row) × ClaimsParityFirst script.n (calls_at script history host) (errand_of c)
    rebuild-so row call asked of c i =
        let t = rebuild-task h.hand.task rebuild in
        let so = mend-calls script is history along host steps h t.0 t.1 c i in
        (so.0 ∙ sym (its-row call asked) ∙ of, so.1)

    -- the row of one call is that of what it asks
    call-row : (row : RowNo) (call : Call) → next_errand steps ≡ Some (errand_of call) → (c : Call) → IsIn c (calls_at script history host) → row_of c.ask.what ≡ Some row → row_of call.ask.what ≡ Some row
    call-row row call asked c i of =
        let t = rebuild-task h.hand.task rebuild in
        its-row call asked ∙ sym (mend-calls script is history along host steps h t.0 t.1 c i).0 ∙ of

    abbrev RepairOf : BayNo → Repair
    RepairOf bay = record { n = script.n; id = h.hand.id; row = record { 0 = (progress_at script host history).row }; target = bay }

    starts-quietly : (bay : BayNo) → h.hand.task ≡ tasks.Rebuild bay → Committing (PutsQuietly (RepairOf bay)) [] (settled host h.hand.id (attempt script host h.hand.id (progress_at script host history).row h.hand.task)).steps
    starts-quietly bay same =
        settled-committing (PutsQuietly (RepairOf bay)) host h.hand.id [] (attempt script host h.hand.id (progress_at script host history).row h.hand.task)
        (subst (λ (t : Task). Committing (PutsQuietly (RepairOf bay)) [] (attempt script host h.hand.id (progress_at script host history).row t)) (sym same) (mends-quietly (RepairOf bay)))

    -- it commits nothing
    commits-none : (call : Call) → next_errand steps ≡ Some (errand_of call) → commits_next steps ≡ []
    commits-none call asked =
        let t = rebuild-task h.hand.task rebuild in
        let p : Progress = progress_at script host history in
        (next-committing (PutsQuietly (RepairOf t.0)) p.calls steps (errand_of call)
        (led-committing (PutsQuietly (RepairOf t.0)) host (settled host h.hand.id (attempt script host h.hand.id p.row h.hand.task)) p.calls (record { seen = p.seen; steps = steps }) (starts-quietly t.0 t.1) h.hand.led)
        asked).0

    -- where it has put a unit, its claim of the parity showed a cell
    put-showed : (row : RowNo) (unit : ℕ) → unit + 1 < script.n → Happened (IsPutOf (bay_of script.n row unit) row) (calls_at script history host) →
        (c : Call) × IsIn c (calls_at script history host) × ShowedParity script.n row c
    put-showed row unit inside put =
        let t = rebuild-task h.hand.task rebuild in
        let p : Progress = progress_at script host history in
        let start : Standing Finish = settled host h.hand.id (attempt script host h.hand.id p.row h.hand.task) in
        let begins : Asking (PutsShown (RepairOf t.0)) [] start.steps =
        asking-of (PutsQuietly (RepairOf t.0)) (PutsShown (RepairOf t.0)) (λ calls e commits k. k.1) [] start.steps (starts-quietly t.0 t.1) in
        let all : Asked (PutsShown (RepairOf t.0)) p.calls = led-asked (PutsShown (RepairOf t.0)) host start p.calls (record { seen = p.seen; steps = steps }) begins h.hand.led in
        let found = happened-in p.calls put in
        let a : AskedAfter (PutsShown (RepairOf t.0)) p.calls found.0 = asked-one (PutsShown (RepairOf t.0)) p.calls all found.0 found.1 in
        let so = mend-calls script is history along host steps h t.0 t.1 found.0 found.1 in
        let both : Some (Row) ≡ Some row = sym so.0 ∙ ap (λ (w : Request). row_of w) found.2.4 in
        let here : Row ≡ row = cc in
        by t.0 found.0 a here found.2.0 (a.asks row found.2.1 found.2.2 found.2.3 found.2.4)
      where
        by : (bay : BayNo) (d : Call) (a : AskedAfter (PutsShown (RepairOf bay)) (calls_at script history host) d) → Row ≡ row → d.bay ≡ bay_of script.n row unit → (d.bay ≡ parity_bay script.n (Row)) ⊎ Happened (ShowedParity script.n (Row)) a.before →
            (c : Call) × IsIn c (calls_at script history host) × ShowedParity script.n row c
        by bay d a here place (inl same) = absurd (unit-aside script is row unit inside (sym place ∙ same ∙ ap (λ (r : RowNo). parity_bay script.n r) here))
        by bay d a here place (inr showed) =
            let found = happened-in a.before showed in (found.0, a.among found.0 found.1, subst (λ (r : RowNo). ShowedParity script.n r found.0) here found.2)

  -- Where the parity has no cell, the rebuild whose note it has was shown none of it.
  module _ (row : RowNo) (below : row.0 < script.rows) where
    abbrev Parity : BayNo
    Parity = parity_bay script.n row

    pub blank-before : (earlier : List Call) (call : Call) → IsHistory script (call ∷ earlier) → (id : Number) → HasNote id (slot_at script (call ∷ earlier) (parity_bay script.n row) row).note →
        cell_at script (call ∷ earlier) row (parity_bay script.n row) ≡ None → cell_at script earlier row (parity_bay script.n row) ≡ None
    blank-before earlier call along id noted none = by (turned script is (Parity) row below earlier call along.1)
      where
        free : {X : Type 0} → (slot_at script (call ∷ earlier) (parity_bay script.n row) row).note ≡ None → X
        free bare = absurd (subst (λ (o : Option Note). HasNote id o) bare noted)

        by : Turn (bay_at script (Parity) earlier) (Parity) row call (bay_at script (Parity) (call ∷ earlier)) → cell_at script earlier row (parity_bay script.n row) ≡ None
        by (Same note cell last) = sym cell ∙ none
        by (Bare note cell) = free note
        by (Taken c last) = sym c.cell ∙ none
        by (Marked place of k cell what done note last) = free note
        by (Freed place of k what own note cell last) = free note

    abbrev IsBlankShown : List Call → HostNo → Type 0
    IsBlankShown history host =
        (steps : Steps Finish) (h : HasHand script history host steps) → IsRebuild h.hand.task → HasNote h.hand.id (slot_at script history (parity_bay script.n row) row).note →
        cell_at script history row (parity_bay script.n row) ≡ None →
        (c : Call) → IsIn c (calls_at script history host) → c.bay ≡ parity_bay script.n row → row_of c.ask.what ≡ Some row → (cells : Cells) → IsShownOf script.n cells c

    blank-next : (earlier : List Call) (call : Call) → IsHistory script (call ∷ earlier) → (host : HostNo) → IsBlankShown earlier host → IsBlankShown (call ∷ earlier) host
    blank-next earlier call along host rest steps h rebuild noted none c i place of cells = by (came script is earlier call along.0 along.1 host steps h)
      where
        blank : cell_at script earlier row (parity_bay script.n row) ≡ None
        blank = blank-before earlier call along h.hand.id noted none

        own : (g : Goes script is earlier call along.0 along.1 host h.hand.id h.hand.task (calls_at script (call ∷ earlier) host)) →
            ((call.bay ≡ parity_bay script.n row) × Takes row h.hand.id call.ask.what) ⊎ HasNote h.hand.id (slot_at script earlier (parity_bay script.n row) row).note → (call ≡ c) ⊎ IsIn c (calls_at script earlier host) →
            IsShownOf script.n cells c
        own g stood (inl same) =
            subst (λ (x : Call). IsShownOf script.n cells x) same
            (none-shows script is earlier call along.1 row below (parity_bay script.n row) (ap (λ (x : Call). x.bay) same ∙ place) (ap (λ (x : Call). row_of x.ask.what) same ∙ of) blank cells)
        own g (inr stood) (inr j) =
            rest g.steps g.before (subst (λ (t : Task). IsRebuild t) (sym g.same_task) rebuild) (subst (λ (x : Number). HasNote x (slot_at script earlier (parity_bay script.n row) row).note) (sym g.same_id) stood)
            blank c j place of cells
        own g (inl (at, takes)) (inr j) =
            absurd (none-before script is host earlier g.steps g.before call g.asked row (at, h.hand.id, takes.0, takes.1, takes.2, takes.3)
            (rebuild-so earlier along.0 host g.steps g.before (subst (λ (t : Task). IsRebuild t) (sym g.same_task) rebuild) row call g.asked (ap (λ (w : Request). row_of w) takes.3)) c j)

        stays : (st : Stays script is earlier call along.0 along.1 host steps h.hand.id h.hand.task (calls_at script (call ∷ earlier) host)) →
            ((call.bay ≡ parity_bay script.n row) × Takes row h.hand.id call.ask.what) ⊎ HasNote h.hand.id (slot_at script earlier (parity_bay script.n row) row).note → IsShownOf script.n cells c
        stays st (inl (at, takes)) = absurd (other-id script is earlier call along host h.hand.id st.other h.hand.own (ap (λ (w : Request). id_of w) takes.3))
        stays st (inr stood) =
            rest steps st.before (subst (λ (t : Task). IsRebuild t) (sym st.same_task) rebuild) (subst (λ (x : Number). HasNote x (slot_at script earlier (parity_bay script.n row) row).note) (sym st.same_id) stood)
            blank c (subst (λ (cs : List Call). IsIn c cs) st.calls i) place of cells

        by : Came script is earlier call along.0 along.1 host steps h.hand.id h.hand.task (calls_at script (call ∷ earlier) host) → IsShownOf script.n cells c
        by (Stayed st) = stays st (note-came script is (Parity) row below earlier call along.1 h.hand.id noted)
        by (Begun mine bare) = absurd (subst (λ (cs : List Call). IsIn c cs) bare i)
        by (Went g) = own g (note-came script is (Parity) row below earlier call along.1 h.hand.id noted) (subst (λ (cs : List Call). IsIn c cs) g.calls i)

    blank-shown : (history : List Call) → IsHistory script history → (host : HostNo) → IsBlankShown history host
    blank-shown [] along host = λ steps h rebuild noted none c i place of cells. absurd (subst (λ (cs : List Call). IsIn c cs) (none-first script is host) i)
    blank-shown (call ∷ earlier) along host = blank-next earlier call along host (blank-shown earlier along.0 host)

-- After a call
module _ (script : Script) (is : IsScript script) (earlier : List Call) (call : Call) (along : IsHistory script (call ∷ earlier)) (holds : AllHold script earlier) (shown : AreHandsShown script earlier)
    (host : HostNo) (steps : Steps Finish) (h : HasHand script (call ∷ earlier) host steps) (row : RowNo) (below : row.0 < script.rows) (rebuild : IsRebuild h.hand.task)
    (keeps : MendKeeps script (call ∷ earlier) host steps h row) where
  abbrev P : BayNo
  P = parity_bay script.n row

  abbrev NoteBefore : Option Note
  NoteBefore = (slot_at script earlier (parity_bay script.n row) row).note

  abbrev CellBefore : Option Cell
  CellBefore = cell_at script earlier row (parity_bay script.n row)

  abbrev Before : Cells
  Before = table script.n (content_at script earlier) (content_at script earlier)

  abbrev Now : Cells
  Now = table script.n (content_at script (call ∷ earlier)) (content_at script (call ∷ earlier))

  abbrev Shown : List Call → Type 0
  Shown calls = AreShownIn script.n row (Now) calls

  abbrev Turning : Type 0
  Turning = Turn (bay_at script (P) earlier) (P) row call (bay_at script (P) (call ∷ earlier))

  no-note : {X : Type 0} → (slot_at script (call ∷ earlier) (parity_bay script.n row) row).note ≡ None → X
  no-note none = absurd (subst (λ (o : Option Note). CameFrom h.hand.id o) none keeps.0)

  no-parity-put : is_parity_put script.n row call ≡ true → ⊥
  no-parity-put put = no-note (put-bares script is earlier call along.1 row below put)

  parity-at : (c : Call) → row_of c.ask.what ≡ Some row → c.bay ≡ parity_bay script.n row → ((unit : ℕ) → unit + 1 < script.n → content_at script (call ∷ earlier) row unit ≡ content_at script earlier row unit) →
      IsShownOf script.n (Before) c → IsShownOf script.n (Now) c
  parity-at c of place same old =
      parity-stays script.n is.devices_least (content_at script earlier) (content_at script earlier) (content_at script (call ∷ earlier)) (content_at script (call ∷ earlier)) row c of place (λ unit inside. sym (same unit inside)) old

  unit-at : (c : Call) → row_of c.ask.what ≡ Some row → (unit : ℕ) → unit + 1 < script.n → c.bay ≡ bay_of script.n row unit → content_at script (call ∷ earlier) row unit ≡ content_at script earlier row unit →
      IsShownOf script.n (Before) c → IsShownOf script.n (Now) c
  unit-at c of unit inside place same old =
      unit-stays script.n is.devices_least (content_at script earlier) (content_at script earlier) (content_at script (call ∷ earlier)) (content_at script (call ∷ earlier)) row c of unit inside place (sym same) old

  -- A call of another host
  module _ (st : Stays script is earlier call along.0 along.1 host steps h.hand.id h.hand.task (calls_at script (call ∷ earlier) host)) where
    rebuilds : IsRebuild st.before.hand.task
    rebuilds = subst (λ (t : Task). IsRebuild t) (sym st.same_task) rebuild

    other : (id : Number) → id_of call.ask.what ≡ Some id → id ≡ h.hand.id → ⊥
    other id named same = other-id script is earlier call along host h.hand.id st.other h.hand.own (named ∙ ap (λ (x : Number). Some x) same)

    kept-before : MendKeeps script earlier host steps st.before row
    kept-before = by (turned script is (P) row below earlier call along.1)
      where
        by : Turning → MendKeeps script earlier host steps st.before row
        by (Same note cell last) = (
          subst (λ (x : Number). CameFrom x (NoteBefore)) (sym st.same_id) (subst (λ (o : Option Note). CameFrom h.hand.id o) note keeps.0),
          λ none.
              (let k = keeps.1 (cell ∙ none) in (
                subst (λ (x : Number). HasNote x (NoteBefore)) (sym st.same_id) (subst (λ (o : Option Note). HasNote h.hand.id o) note k.0),
                subst (λ (cs : List Call). GivesNothing steps cs) st.calls k.1,
              )),
        )
        by (Bare note cell) = no-note note
        by (Taken c last) = (
          subst (λ (x : Number). CameFrom x (NoteBefore)) (sym st.same_id)
              (claimed-from call.ask c.id h.hand.id c.mask (NoteBefore) (other c.id (ap (λ (w : Request). id_of w) c.what)) (subst (λ (o : Option Note). CameFrom h.hand.id o) c.note keeps.0)),
          λ none.
              (let k = keeps.1 (c.cell ∙ none) in
              absurd (other c.id (ap (λ (w : Request). id_of w) c.what) (claimed-has call.ask c.id h.hand.id c.mask (NoteBefore) (subst (λ (o : Option Note). HasNote h.hand.id o) c.note k.0)))),
        )
        by (Marked place of k cell what done note last) = no-note note
        by (Freed place of k what own note cell last) = no-note note

    was : AreShownIn script.n row (Before) (calls_at script earlier host)
    was = shown.mends host steps st.before row below rebuilds kept-before

    -- a content changes only where the parity has no cell, by a put of its unit
    kept-or : (unit : ℕ) → unit + 1 < script.n → (content_at script (call ∷ earlier) row unit ≡ content_at script earlier row unit) ⊎ ((CellBefore ≡ None) × IsOwnCommit script earlier call row unit)
    kept-or unit inside = by (quiet-content script is earlier call along row below unit inside)
      where
        owned : (own : IsOwnCommit script earlier call row unit) → (CellBefore ≡ None) ⊎ CameFrom own.id (NoteBefore) → CellBefore ≡ None
        owned own (inl none) = none
        owned own (inr from) =
            absurd (other own.id (ap (λ (w : Request). id_of w) own.put) (one-origin own.id st.before.hand.id (NoteBefore) from kept-before.0 ∙ st.same_id))

        by : (content_at script (call ∷ earlier) row unit ≡ content_at script earlier row unit) ⊎ (IsOwnCommit script earlier call row unit ⊎ (is_parity_put script.n row call ≡ true)) →
            (content_at script (call ∷ earlier) row unit ≡ content_at script earlier row unit) ⊎ ((CellBefore ≡ None) × IsOwnCommit script earlier call row unit)
        by (inl same) = inl same
        by (inr (inl own)) = inr (owned own own.owns, own)
        by (inr (inr put)) = absurd (no-parity-put put)

    so : (c : Call) → IsIn c (calls_at script earlier host) → ClaimsParityFirst script.n (calls_at script earlier host) (errand_of c)
    so c i = let t = rebuild-task st.before.hand.task rebuilds in (mend-calls script is earlier along.0 host steps st.before t.0 t.1 c i).1

    -- a unit that was granted is put by nobody else
    module _ (unit : ℕ) (inside : unit + 1 < script.n) (none : cell_at script earlier row (parity_bay script.n row) ≡ None) (own : IsOwnCommit script earlier call row unit)
        (c : Call) (i : IsIn c (calls_at script earlier host)) (claim : IsClaim (bay_of script.n row unit) row c) (grant : Grant) (granted : grant_of c.answer.reply ≡ Some grant) where
      p : Putting script is earlier call along row below unit inside own.id
      p = putting script is earlier call along row below unit inside own.id own.number own.cell own.place own.put own.done

      kept : HasNote st.before.hand.id (slot_at script earlier (parity_bay script.n row) row).note × GivesNothing steps (calls_at script earlier host)
      kept = kept-before.1 none

      not-put : IsIn (record { bay = bay_of script.n row unit; row = row }) (past_of (calls_at script earlier host)).put → ⊥
      not-put put =
          let found = put-showed script is earlier along.0 host steps st.before rebuilds row unit inside (put-found (bay_of script.n row unit) row (calls_at script earlier host) put) in
          showed found.0 found.1 found.2
        where
          showed : (d : Call) → IsIn d (calls_at script earlier host) → ShowedParity script.n row d → ⊥
          showed d j (of, g, some, there) = any-none script.n row g.cell (λ cells. at cells (any cells)) there
            where
              any : (cells : Cells) → IsShownOf script.n cells d
              any = blank-shown script is row below earlier along.0 host steps st.before rebuilds kept.0 none d j of.0 (ap (λ (w : Request). row_of w) of.5)

              at : (cells : Cells) → IsShownOf script.n cells d → IsThis (cell_on script.n cells (parity_bay script.n row) row) g.cell
              at cells x =
                  subst (λ (o : Option Grant). GrantShows (cell_on script.n cells (parity_bay script.n row) row) o) some
                  (subst (λ (b : BayNo). GrantShows (cell_on script.n cells b row) (grant_of d.answer.reply)) of.0
                  (subst (λ (w : Request). ReplyShows script.n cells d.bay w d.answer.reply) of.5 x))

      there : IsSome (cell_at script earlier row (bay_of script.n row unit))
      there = by (cell_at script earlier row (bay_of script.n row unit)) refl
        where
          is_none : (o : Option Cell) → o ≡ None → IsNone o
          is_none None e = refl
          is_none (Some cell) e = absurd (cc)

          by : (o : Option Cell) → cell_at script earlier row (bay_of script.n row unit) ≡ o → IsSome o
          by (Some cell) e = refl
          by None e =
              let lay = laid_out script.n row is.devices_least in
              let missing : HasMissing script earlier (bay_of script.n row unit) = (row, below, is_none (cell_at script earlier row (bay_of script.n row unit)) e) in
              let parity_missing : HasMissing script earlier (parity_bay script.n row) = (row, below, is_none (cell_at script earlier row (parity_bay script.n row)) none) in
              absurd (unit-aside script is row unit inside
              (one_bay_is_missing script earlier is along.0 (bay_of script.n row unit) (parity_bay script.n row) (lay.units_in unit (omega (arith, inside))) lay.parity_in missing parity_missing))

      not-other : ⊥
      not-other =
          let n =
          holders_keep_notes script earlier is along.0 host steps st.before kept.1 row unit below inside kept.0 c grant i claim granted not-put there
          (grants-live script is earlier along.0 host steps st.before (rebuild-operator script host st.before.hand.task rebuilds st.before.hand.is) (bay_of script.n row unit) row below c i claim grant granted) in
          by n.0 (sym (named n.0 n.1)) n.3
        where
          named : (note : Note) → (slot_at script earlier (bay_of script.n row unit) row).note ≡ Some note → note.id ≡ own.id
          named note stands = subst (λ (o : Option Note). HasNote own.id o) stands p.noted

          by : (note : Note) → own.id ≡ note.id → (note.id ≡ st.before.hand.id) ⊎ IsOfOpenRecovery script earlier row note → ⊥
          by note same (inl mine) = other own.id (ap (λ (w : Request). id_of w) own.put) (same ∙ mine ∙ st.same_id)
          by note same (inr open_recovery) =
              putter-kind p.before.hand.task p.putter
              (seizes claims_are_of_their_kind script is earlier along.0 call.ask.host p.steps p.before (errand_of call) p.asked note.host note.id (sym same ∙ p.same) open_recovery.seized)

    still : (c : Call) → IsIn c (calls_at script earlier host) → row_of c.ask.what ≡ Some row → IsShownOf script.n (Now) c
    still c i of = at (placed script is row c.bay (all-within script is earlier along.0 c (in-history script is earlier along.0 host steps st.before c i)))
      where
        old : IsShownOf script.n (Before) c
        old = one-shown script.n row (Before) (calls_at script earlier host) was c i of

        some-of : (o : Option Grant) → IsSome o → (grant : Grant) × (o ≡ Some grant)
        some-of None some = absurd (cc)
        some-of (Some grant) some = (grant, refl)

        by-unit : (unit : ℕ) (inside : unit + 1 < script.n) → c.bay ≡ bay_of script.n row unit → IsClaim (bay_of script.n row unit) row c → (grant : Grant) × (grant_of c.answer.reply ≡ Some grant) →
            (content_at script (call ∷ earlier) row unit ≡ content_at script earlier row unit) ⊎ ((CellBefore ≡ None) × IsOwnCommit script earlier call row unit) → IsShownOf script.n (Now) c
        by-unit unit inside place claim some (inl same) = unit-at c of unit inside place same old
        by-unit unit inside place claim some (inr (none, own)) = absurd (not-other unit inside none own c i claim some.0 some.1)

        at-unit : (unit : ℕ) → unit + 1 < script.n → c.bay ≡ bay_of script.n row unit → (IsClaim c.bay row c × IsSome (grant_of c.answer.reply)) ⊎ ((cells : Cells) → IsShownOf script.n cells c) → IsShownOf script.n (Now) c
        at-unit unit inside place (inr any) = any (Now)
        at-unit unit inside place (inl (claim, some)) =
            by-unit unit inside place (subst (λ (b : BayNo). IsClaim b row c) place claim) (some-of (grant_of c.answer.reply) some) (kept-or unit inside)

        all-kept : (cell : Cell) → CellBefore ≡ Some cell → (unit : ℕ) → unit + 1 < script.n → content_at script (call ∷ earlier) row unit ≡ content_at script earlier row unit
        all-kept cell some unit inside = by (kept-or unit inside)
          where
            by : (content_at script (call ∷ earlier) row unit ≡ content_at script earlier row unit) ⊎ ((CellBefore ≡ None) × IsOwnCommit script earlier call row unit) →
                content_at script (call ∷ earlier) row unit ≡ content_at script earlier row unit
            by (inl same) = same
            by (inr (none, own)) = absurd (let bad : Some cell ≡ None = sym some ∙ none in cc)

        at-parity : c.bay ≡ parity_bay script.n row → (o : Option Cell) → CellBefore ≡ o → IsShownOf script.n (Now) c
        at-parity place None none = blank-shown script is row below earlier along.0 host steps st.before rebuilds (kept-before.1 none).0 none c i place of (Now)
        at-parity place (Some cell) some = parity-at c of place (all-kept cell some) old

        at : IsPlaced script.n row c.bay → IsShownOf script.n (Now) c
        at (inl place) = at-parity place (CellBefore) refl
        at (inr (unit, inside, place)) =
            at-unit unit inside place
            (granted-or script.n row c (λ id want what. (so c i).shares row id want what)
            (λ id want what. unit-aside script is row unit inside (sym place ∙ confirmed-parity script is host earlier steps st.before c i row id want what)) of)

    stays-shown : Shown (calls_at script (call ∷ earlier) host)
    stays-shown = subst (λ (cs : List Call). Shown cs) (sym st.calls) (each-shown script.n row (Now) (calls_at script earlier host) still)

  -- Its own call
  module _ (g : Goes script is earlier call along.0 along.1 host h.hand.id h.hand.task (calls_at script (call ∷ earlier) host)) where
    mended : IsRebuild g.before.hand.task
    mended = subst (λ (t : Task). IsRebuild t) (sym g.same_task) rebuild

    -- it commits nothing
    committed : commits_of script earlier call ≡ []
    committed = by (is_done call.answer.reply)
      where
        in-work : commits_in (progress_at script call.ask.host earlier).work ≡ []
        in-work =
            ap (λ (x : HostNo). commits_in (progress_at script x earlier).work) g.own
            ∙ ap (λ (w : Work). commits_in w) g.before.work
            ∙ commits-none script is earlier along.0 host g.steps g.before mended call g.asked

        by : (b : Bool) → (if b then commits_in (progress_at script call.ask.host earlier).work else []) ≡ []
        by true = in-work
        by false = refl

    same : (unit : ℕ) → content_at script (call ∷ earlier) row unit ≡ content_at script earlier row unit
    same unit = ap (λ (cs : List Commit). last_of row unit cs (content_at script earlier row unit)) committed

    its-so : (r : RowNo) → row_of call.ask.what ≡ Some r → (c : Call) → IsIn c (calls_at script earlier host) → (row_of c.ask.what ≡ Some r) × ClaimsParityFirst script.n (calls_at script earlier host) (errand_of c)
    its-so r of c i = rebuild-so script is earlier along.0 host g.steps g.before mended r call g.asked of c i

    -- before it the parity's note came from it too, or there was none and it claimed the parity
    record WentSo : Type 0 where
      earlier_shown : AreShownIn script.n row (Before) (calls_at script earlier host)
      from : (note : Note) → NoteBefore ≡ Some note → note.origin ≡ h.hand.id

    gave : GivesNothing steps (calls_at script (call ∷ earlier) host) → GivesNothing g.steps (calls_at script earlier host)
    gave gives = record {
      so_far = λ happened. gives.so_far (subst (λ (cs : List Call). Happened (λ (c : Call). IsRelease c.ask.what) cs) (sym g.calls) (inr happened));
      next = λ errand is_next release.
          (let both : Some errand ≡ Some (errand_of call) = sym is_next ∙ g.asked in
          let one : errand ≡ errand_of call = cc in
          gives.so_far (subst (λ (cs : List Call). Happened (λ (c : Call). IsRelease c.ask.what) cs) (sym g.calls) (inl (subst (λ (e : Errand). IsRelease e.request) one release))));
    }

    went-so : WentSo
    went-so = by (turned script is (P) row below earlier call along.1)
      where
        came-from : (o : Option Note) → CameFrom h.hand.id o → (note : Note) → o ≡ Some note → note.origin ≡ h.hand.id
        came-from o from note e = subst (λ (x : Option Note). CameFrom h.hand.id x) e from

        claimed-free : (c : Claimed (bay_at script (P) earlier) (P) row call (bay_at script (P) (call ∷ earlier))) → (NoteBefore ≡ None) ⊎ (c.how ≡ Seize) → (note : Note) → NoteBefore ≡ Some note → note.origin ≡ h.hand.id
        claimed-free c (inl none) note e = absurd (let bad : None ≡ Some note = sym none ∙ e in cc)
        claimed-free c (inr seizes) note e =
            let kind : c.how ≡ hands.kind_of g.before.hand.task = (next-kind script is earlier host g.steps g.before call g.asked row c.id c.how c.mask c.want c.what).0 in
            absurd (let bad : Seize ≡ Mend = sym seizes ∙ kind ∙ rebuild-kind g.before.hand.task mended in cc)

        by : Turning → WentSo
        by (Same note cell last) =
            let from : CameFrom h.hand.id (NoteBefore) = subst (λ (o : Option Note). CameFrom h.hand.id o) note keeps.0 in
            let before : MendKeeps script earlier host g.steps g.before row = (
              subst (λ (x : Number). CameFrom x (NoteBefore)) (sym g.same_id) from,
              λ none.
                  (let k = keeps.1 (cell ∙ none) in
                  (subst (λ (x : Number). HasNote x (NoteBefore)) (sym g.same_id) (subst (λ (o : Option Note). HasNote h.hand.id o) note k.0), gave k.1)),
            ) in
            record { earlier_shown = shown.mends host g.steps g.before row below mended before; from = came-from (NoteBefore) from }
        by (Bare note cell) = no-note note
        by (Taken c last) = record {
          earlier_shown = each-shown script.n row (Before) (calls_at script earlier host)
              (λ d i of.
              absurd (none-before script is host earlier g.steps g.before call g.asked row (c.place, c.id, c.how, c.mask, c.want, c.what)
              (its-so row (ap (λ (w : Request). row_of w) c.what)) d i));
          from = claimed-free c c.free;
        }
        by (Marked place of k cell what done note last) = no-note note
        by (Freed place of k what own note cell last) = no-note note

    -- where the parity has a cell it counts the contents
    counts : (cell : Cell) → CellBefore ≡ Some cell → (unit : ℕ) → unit + 1 < script.n → content_at script earlier row unit ≡ base_at script earlier row unit
    counts cell some unit inside = by (contents_are_covered script earlier is along.0 row unit below inside)
      where
        not-pending : (note : Note) → IsPending script earlier row unit note → ⊥
        not-pending note pending =
            let from : note.origin ≡ g.before.hand.id = went-so.from note pending.noted ∙ sym g.same_id in
            let claimed : Happened (IsWriteClaim script.n row note.origin note.mask) earlier = pending-by script is earlier along.0 row below unit note pending in
            let mine : Happened (IsWriteClaim script.n row note.origin note.mask) (calls_at script earlier host) =
            happened-own script is earlier along.0 host g.steps g.before (errand_of call) g.asked (λ c k. ap (λ (w : Request). id_of w) k.2 ∙ ap (λ (x : Number). Some x) from) claimed in
            let found = happened-in (calls_at script earlier host) mine in
            let kind : Plain ≡ hands.kind_of g.before.hand.task = (made-kind script is earlier host g.steps g.before found.0 found.1 row note.origin Plain note.mask found.2.1 found.2.2).0 in
            absurd (let bad : Plain ≡ Mend = kind ∙ rebuild-kind g.before.hand.task mended in cc)

        by : (content_at script earlier row unit ≡ base_at script earlier row unit) ⊎ ((CellBefore ≡ None) ⊎ ((note : Note) × IsPending script earlier row unit note)) →
            content_at script earlier row unit ≡ base_at script earlier row unit
        by (inl even) = even
        by (inr (inl none)) = absurd (let bad : Some cell ≡ None = sym some ∙ none in cc)
        by (inr (inr (note, pending))) = absurd (not-pending note pending)

    -- what the call was shown itself
    now-shown : row_of call.ask.what ≡ Some row → IsShownOf script.n (Now) call
    now-shown of = at (placed script is row call.bay (call-within script is earlier call along))
      where
        at-parity : call.bay ≡ parity_bay script.n row → (o : Option Cell) → CellBefore ≡ o → IsShownOf script.n (Now) call
        at-parity place None none = none-shows script is earlier call along.1 row below (parity_bay script.n row) place of none (Now)
        at-parity place (Some cell) some =
            parity-shown script is earlier call along.1 row below (holds row below) place of (content_at script (call ∷ earlier)) (content_at script (call ∷ earlier))
            (cells-same script.n (content_at script (call ∷ earlier) row) (base_at script earlier row) (λ unit inside. same unit ∙ counts cell some unit inside))

        at : IsPlaced script.n row call.bay → IsShownOf script.n (Now) call
        at (inl place) = at-parity place (CellBefore) refl
        at (inr (unit, inside, place)) =
            unit-shown script is earlier call along.1 row below (holds row below) unit inside place of (content_at script (call ∷ earlier)) (content_at script (call ∷ earlier)) (same unit)

    still-shown : (c : Call) → IsIn c (call ∷ calls_at script earlier host) → row_of c.ask.what ≡ Some row → IsShownOf script.n (Now) c
    still-shown c (inl one) of = subst (λ (x : Call). IsShownOf script.n (Now) x) one (now-shown (ap (λ (x : Call). row_of x.ask.what) one ∙ of))
    still-shown c (inr i) of = at (placed script is row c.bay (all-within script is earlier along.0 c (in-history script is earlier along.0 host g.steps g.before c i)))
      where
        old : IsShownOf script.n (Before) c
        old = one-shown script.n row (Before) (calls_at script earlier host) went-so.earlier_shown c i of

        at : IsPlaced script.n row c.bay → IsShownOf script.n (Now) c
        at (inl place) = parity-at c of place (λ unit inside. same unit) old
        at (inr (unit, inside, place)) = unit-at c of unit inside place (same unit) old

    went-shown : Shown (calls_at script (call ∷ earlier) host)
    went-shown = subst (λ (cs : List Call). Shown cs) (sym g.calls) (each-shown script.n row (Now) (call ∷ calls_at script earlier host) still-shown)

  by-move : Came script is earlier call along.0 along.1 host steps h.hand.id h.hand.task (calls_at script (call ∷ earlier) host) → Shown (calls_at script (call ∷ earlier) host)
  by-move (Stayed st) = stays-shown st
  by-move (Begun own bare) = subst (λ (cs : List Call). Shown cs) (sym bare) tt
  by-move (Went g) = went-shown g

pub mends-next : (script : Script) → IsScript script → (earlier : List Call) (call : Call) → IsHistory script (call ∷ earlier) → AllHold script earlier → AreHandsShown script earlier →
    (host : HostNo) (steps : Steps Finish) (h : HasHand script (call ∷ earlier) host steps) (row : RowNo) → row.0 < script.rows → IsRebuild h.hand.task →
    MendKeeps script (call ∷ earlier) host steps h row →
    AreShownIn script.n row (table script.n (content_at script (call ∷ earlier)) (content_at script (call ∷ earlier))) (calls_at script (call ∷ earlier) host)
mends-next script is earlier call along holds shown host steps h row below rebuild keeps =
    by-move script is earlier call along holds shown host steps h row below rebuild keeps (came script is earlier call along.0 along.1 host steps h)
