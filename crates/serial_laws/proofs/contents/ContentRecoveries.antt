-- What a recovery was shown of its row stays so while it holds the parity: no unit of which a claim of it was answered is put,
-- and a parity that is put has no note.
use Rattle.std.proofs.Common.{◌≡◌, ◌⊎◌, inl, inr, refl, sym, ap, subst, ◌∙◌, ℕ, ◌+◌, ◌<◌, true, List, [], ◌∷◌, Some, None, IsSome}
use Rattle.raid_base.specs.declared.numbers.HostNo.{HostNo}
use Rattle.raid_base.specs.declared.numbers.RowNo.{RowNo}
use Rattle.raid_base.specs.declared.numbers.BayNo.{BayNo}
use Rattle.raid_base.specs.declared.numbers.Number.{Number}
use Rattle.raid_base.specs.declared.cells.Cell.{Cell}
use Rattle.raid_base.specs.declared.messages.Request.{Request}
use Rattle.raid_base.specs.declared.messages.Request.TheVariants.{Put}
use Rattle.raid_base.specs.declared.messages.Call.{Call}
use Rattle.raid_base.specs.declared.jobs.Task.{Task}
use Rattle.raid_base.specs.declared.jobs.Task.TheVariants as tasks
use Rattle.raid_base.specs.Replies.{grant_of}
use Rattle.raid_base.specs.Steps.{Steps, errand_of}
use Rattle.stripe_layout.specs.Placement.{parity_bay, bay_of}
use Rattle.attempts.specs.Taking.{Finish}
use Rattle.attempts.specs.Phases.{IsIn}
use Rattle.attempts.specs.Sound.{Cells}
use Rattle.script_text.specs.Script.{Script}
use Rattle.script_text.specs.Ranges.{IsScript}
use Rattle.histories.specs.Calls.{Happened, row_of, id_of, IsClaim, IsDone}
use Rattle.histories.specs.Torn.{IsMissing}
use Rattle.histories.specs.Progress.{task_of}
use Rattle.histories.specs.History.{IsHistory, progress_at}
use Rattle.histories.specs.RowStates.{slot_at, cell_at}
use Rattle.serial_laws.specs.Laws.{content_at}
use Rattle.row_laws.specs.Hands.{HasHand, calls_at, IsRecoveryOf, IsAnswered}
use Rattle.row_laws.specs.Holding.{HasNote}
use Rattle.serial_laws.specs.Contents.{is_parity_put, base_at}
use Rattle.row_laws.proofs.hands.HandMoves.{Goes, Stays, Came, Stayed, Begun, Went, came}
use Rattle.row_laws.proofs.holders.AnsweredFreeNotes.{Takes, note-came}
use Rattle.row_laws.proofs.owners.RowOwnersHands.{other-id}
use Rattle.row_laws.proofs.holders.HolderNotesCalls.{in-history}
use Rattle.row_laws.proofs.owners.HoldingLaws.{answered_are_free}
use Rattle.row_laws.proofs.covered.CoveredPutsHands.{recovers-alone, in-happened}
use Rattle.serial_laws.proofs.contents.ContentStates.{table, IsShownOf, AreShownIn, IsRecoveryShown, AreHandsShown, AllHold}
use Rattle.serial_laws.proofs.contents.ContentFacts.{cells-same}
use Rattle.serial_laws.proofs.contents.ContentsCovered.{IsOwnCommit, quiet-content}
use Rattle.serial_laws.proofs.reads.ShownTrees.{ClaimsParityFirst}
use Rattle.serial_laws.proofs.reads.ShownHands.{recovery-calls}
use Rattle.serial_laws.proofs.contents.ContentCalls.{IsPlaced, placed, unit-aside, all-within, unit-shown, parity-shown, put-bares, base-kept, Putting, putting, missing-stays, missing-found, granted-or, unit-stays, parity-stays, each-shown, one-shown, confirmed-parity, none-before}

recovery-task : (row : RowNo) (task : Task) → IsRecoveryOf row task → task ≡ tasks.Recover row
recovery-task row (tasks.Recover at) same = ap (λ (r : RowNo). tasks.Recover r) same
recovery-task row (tasks.Read object first count) same = absurd same
recovery-task row (tasks.Write object first from count) same = absurd same
recovery-task row (tasks.Rebuild bay) same = absurd same
recovery-task row (tasks.Lose bay) same = absurd same
recovery-task row (tasks.Fit bay) same = absurd same

answered : (at : BayNo) (row : RowNo) (calls : List Call) → Happened (λ call. IsClaim at row call × IsMissing call) calls → Happened (IsAnswered at row) calls
answered at row [] h = h
answered at row (call ∷ calls) (inl h) = inl (h.0, inr h.1)
answered at row (call ∷ calls) (inr h) = inr (answered at row calls h)

module _ (script : Script) (is : IsScript script) (earlier : List Call) (call : Call) (along : IsHistory script (call ∷ earlier)) (holds : AllHold script earlier) (shown : AreHandsShown script earlier)
    (host : HostNo) (steps : Steps Finish) (h : HasHand script (call ∷ earlier) host steps) (row : RowNo) (below : row.0 < script.rows) (recovers : IsRecoveryOf row h.hand.task)
    (noted : HasNote h.hand.id (slot_at script (call ∷ earlier) (parity_bay script.n row) row).note) where
  abbrev P : BayNo
  P = parity_bay script.n row

  abbrev U : ℕ → BayNo
  U unit = bay_of script.n row unit

  abbrev Made : List Call
  Made = calls_at script earlier host

  abbrev Before : Cells
  Before = table script.n (base_at script earlier) (content_at script earlier)

  abbrev Now : Cells
  Now = table script.n (base_at script (call ∷ earlier)) (content_at script (call ∷ earlier))

  no-parity-put : is_parity_put script.n row call ≡ true → ⊥
  no-parity-put put = subst (λ o. HasNote h.hand.id o) (put-bares script is earlier call along.1 row below put) noted

  bases-kept : (unit : ℕ) → base_at script (call ∷ earlier) row unit ≡ base_at script earlier row unit
  bases-kept unit = base-kept script is earlier call along.1 row below no-parity-put unit

  -- a content stays but for a put of its unit
  content-kept : (unit : ℕ) → unit + 1 < script.n → ((id k : Number) (cell : Cell) → call.bay ≡ bay_of script.n row unit → call.ask.what ≡ Put row id k cell → IsDone call → ⊥) →
      content_at script (call ∷ earlier) row unit ≡ content_at script earlier row unit
  content-kept unit inside no_put = by (quiet-content script is earlier call along row below unit inside)
    where
      by : (content_at script (call ∷ earlier) row unit ≡ content_at script earlier row unit) ⊎ (IsOwnCommit script earlier call row unit ⊎ (is_parity_put script.n row call ≡ true)) →
          content_at script (call ∷ earlier) row unit ≡ content_at script earlier row unit
      by (inl same) = same
      by (inr (inl own)) = absurd (no_put own.id own.number own.cell own.place own.put own.done)
      by (inr (inr put)) = absurd (no-parity-put put)

  -- A call of another host
  module _ (st : Stays script is earlier call along.0 along.1 host steps h.hand.id h.hand.task (calls_at script (call ∷ earlier) host)) where
    recovers-before : IsRecoveryOf row st.before.hand.task
    recovers-before = subst (λ (t : Task). IsRecoveryOf row t) (sym st.same_task) recovers

    stood : HasNote st.before.hand.id (slot_at script earlier (P) row).note
    stood = subst (λ (x : Number). HasNote x (slot_at script earlier (P) row).note) (sym st.same_id) (by (note-came script is (P) row below earlier call along.1 h.hand.id noted))
      where
        by : ((call.bay ≡ P) × Takes row h.hand.id call.ask.what) ⊎ HasNote h.hand.id (slot_at script earlier (P) row).note → HasNote h.hand.id (slot_at script earlier (P) row).note
        by (inl (place, takes)) = absurd (other-id script is earlier call along host h.hand.id st.other h.hand.own (ap (λ (w : Request). id_of w) takes.3))
        by (inr old) = old

    was : IsRecoveryShown script earlier host row
    was = shown.recoveries host steps st.before row below recovers-before stood

    -- no unit that was answered is put
    no-put : (unit : ℕ) → unit + 1 < script.n → Happened (IsAnswered (bay_of script.n row unit) row) (calls_at script earlier host) → (id k : Number) (cell : Cell) → call.bay ≡ bay_of script.n row unit →
        call.ask.what ≡ Put row id k cell → IsDone call → ⊥
    no-put unit inside happened id k cell place what done =
        let p : Putting script is earlier call along row below unit inside id = putting script is earlier call along row below unit inside id k cell place what done in
        answered_are_free script earlier is along.0 host call.ask.host steps p.steps st.before p.before row unit below inside recovers-before stood happened p.putter p.confirmed
        (subst (λ (x : Number). HasNote x (slot_at script earlier (bay_of script.n row unit) row).note) p.same p.noted)

    so : (c : Call) → IsIn c (calls_at script earlier host) → (row_of c.ask.what ≡ Some row) × ClaimsParityFirst script.n (calls_at script earlier host) (errand_of c)
    so c i = recovery-calls script is earlier along.0 host steps st.before row (recovery-task row st.before.hand.task recovers-before) c i

    still : (c : Call) → IsIn c (calls_at script earlier host) → row_of c.ask.what ≡ Some row → IsShownOf script.n (Now) c
    still c i of = at (placed script is row c.bay (all-within script is earlier along.0 c (in-history script is earlier along.0 host steps st.before c i)))
      where
        old : IsShownOf script.n (Before) c
        old = one-shown script.n row (Before) (calls_at script earlier host) was.shown c i of

        at-unit : (unit : ℕ) → unit + 1 < script.n → c.bay ≡ bay_of script.n row unit → (IsClaim c.bay row c × IsSome (grant_of c.answer.reply)) ⊎ ((cells : Cells) → IsShownOf script.n cells c) → IsShownOf script.n (Now) c
        at-unit unit inside place (inr any) = any (Now)
        at-unit unit inside place (inl (claim, some)) =
            let happened : Happened (IsAnswered (bay_of script.n row unit) row) (calls_at script earlier host) =
            in-happened (IsAnswered (bay_of script.n row unit) row) c (calls_at script earlier host) i (subst (λ (b : BayNo). IsClaim b row c) place claim, inl some) in
            unit-stays script.n is.devices_least (base_at script earlier) (content_at script earlier) (base_at script (call ∷ earlier)) (content_at script (call ∷ earlier)) row c of unit inside place
            (sym (content-kept unit inside (no-put unit inside happened))) old

        at : IsPlaced script.n row c.bay → IsShownOf script.n (Now) c
        at (inl place) =
            parity-stays script.n is.devices_least (base_at script earlier) (content_at script earlier) (base_at script (call ∷ earlier)) (content_at script (call ∷ earlier)) row c of place
            (λ unit inside. sym (bases-kept unit)) old
        at (inr (unit, inside, place)) =
            at-unit unit inside place
            (granted-or script.n row c (λ id want what. (so c i).1.shares row id want what)
            (λ id want what. unit-aside script is row unit inside (sym place ∙ confirmed-parity script is host earlier steps st.before c i row id want what)) of)

    stays-shown : IsRecoveryShown script (call ∷ earlier) host row
    stays-shown = record {
      shown = subst (λ (cs : List Call). AreShownIn script.n row (Now) cs) (sym st.calls) (each-shown script.n row (Now) (calls_at script earlier host) still);
      missing = λ unit inside happened.
          (let before : Happened (λ (c : Call). IsClaim (bay_of script.n row unit) row c × IsMissing c) (calls_at script earlier host) =
          subst (λ (cs : List Call). Happened (λ (c : Call). IsClaim (bay_of script.n row unit) row c × IsMissing c) cs) st.calls happened in
          missing-stays script is earlier call along row below unit inside (no-put unit inside (answered (bay_of script.n row unit) row (calls_at script earlier host) before)) (was.missing unit inside before));
    }

  -- Its own call
  module _ (g : Goes script is earlier call along.0 along.1 host h.hand.id h.hand.task (calls_at script (call ∷ earlier) host)) where
    went-before : IsRecoveryOf row g.before.hand.task
    went-before = subst (λ (t : Task). IsRecoveryOf row t) (sym g.same_task) recovers

    puts-none : (unit : ℕ) → unit + 1 < script.n → (id k : Number) (cell : Cell) → call.bay ≡ bay_of script.n row unit → call.ask.what ≡ Put row id k cell → IsDone call → ⊥
    puts-none unit inside id k cell place what done =
        let p : Putting script is earlier call along row below unit inside id = putting script is earlier call along row below unit inside id k cell place what done in
        let first : task_of (progress_at script host earlier).jobs ≡ Some p.before.hand.task =
        ap (λ (x : HostNo). task_of (progress_at script x earlier).jobs) (sym g.own) ∙ p.before.hand.first in
        let both : Some g.before.hand.task ≡ Some p.before.hand.task = sym g.before.hand.first ∙ first in
        let same : g.before.hand.task ≡ p.before.hand.task = cc in
        recovers-alone row p.before.hand.task (subst (λ (t : Task). IsRecoveryOf row t) same went-before) p.putter

    contents-kept : (unit : ℕ) → unit + 1 < script.n → content_at script (call ∷ earlier) row unit ≡ content_at script earlier row unit
    contents-kept unit inside = content-kept unit inside (puts-none unit inside)

    went-so : (c : Call) → IsIn c (calls_at script earlier host) → (row_of c.ask.what ≡ Some row) × ClaimsParityFirst script.n (calls_at script earlier host) (errand_of c)
    went-so c i = recovery-calls script is earlier along.0 host g.steps g.before row (recovery-task row g.before.hand.task went-before) c i

    -- what it was shown before
    was-shown : IsRecoveryShown script earlier host row
    was-shown = by (note-came script is (P) row below earlier call along.1 h.hand.id noted)
      where
        none : IsClaim (parity_bay script.n row) row call → (c : Call) → IsIn c (calls_at script earlier host) → ⊥
        none claim c i = none-before script is host earlier g.steps g.before call g.asked row claim went-so c i

        no-call : (Q : Call → Type 0) (calls : List Call) → ((c : Call) → IsIn c calls → ⊥) → Happened Q calls → ⊥
        no-call Q [] out happened = happened
        no-call Q (c ∷ calls) out happened = out c (inl refl)

        by : ((call.bay ≡ P) × Takes row h.hand.id call.ask.what) ⊎ HasNote h.hand.id (slot_at script earlier (P) row).note → IsRecoveryShown script earlier host row
        by (inr old) = shown.recoveries host g.steps g.before row below went-before (subst (λ (x : Number). HasNote x (slot_at script earlier (P) row).note) (sym g.same_id) old)
        by (inl (place, takes)) =
            let claim : IsClaim (parity_bay script.n row) row call = (place, h.hand.id, takes.0, takes.1, takes.2, takes.3) in
            record {
              shown = each-shown script.n row (Before) (calls_at script earlier host) (λ c i of. absurd (none claim c i));
              missing = λ unit inside happened. absurd (no-call (λ (c : Call). IsClaim (bay_of script.n row unit) row c × IsMissing c) (calls_at script earlier host) (none claim) happened);
            }

    went-still : (c : Call) → IsIn c (call ∷ calls_at script earlier host) → row_of c.ask.what ≡ Some row → IsShownOf script.n (Now) c
    went-still c (inl same) of = subst (λ (x : Call). IsShownOf script.n (Now) x) same (at (placed script is row call.bay (all-within script is (call ∷ earlier) along call (inl refl))))
      where
        of_call : row_of call.ask.what ≡ Some row
        of_call = ap (λ (x : Call). row_of x.ask.what) same ∙ of

        at : IsPlaced script.n row call.bay → IsShownOf script.n (Now) call
        at (inl place) =
            parity-shown script is earlier call along.1 row below (holds row below) place of_call (base_at script (call ∷ earlier)) (content_at script (call ∷ earlier))
            (cells-same script.n (base_at script (call ∷ earlier) row) (base_at script earlier row) (λ unit inside. bases-kept unit))
        at (inr (unit, inside, place)) =
            unit-shown script is earlier call along.1 row below (holds row below) unit inside place of_call (base_at script (call ∷ earlier)) (content_at script (call ∷ earlier)) (contents-kept unit inside)
    went-still c (inr i) of = at (placed script is row c.bay (all-within script is earlier along.0 c (in-history script is earlier along.0 host g.steps g.before c i)))
      where
        old : IsShownOf script.n (Before) c
        old = one-shown script.n row (Before) (calls_at script earlier host) was-shown.shown c i of

        at : IsPlaced script.n row c.bay → IsShownOf script.n (Now) c
        at (inl place) =
            parity-stays script.n is.devices_least (base_at script earlier) (content_at script earlier) (base_at script (call ∷ earlier)) (content_at script (call ∷ earlier)) row c of place
            (λ unit inside. sym (bases-kept unit)) old
        at (inr (unit, inside, place)) =
            unit-stays script.n is.devices_least (base_at script earlier) (content_at script earlier) (base_at script (call ∷ earlier)) (content_at script (call ∷ earlier)) row c of unit inside place
            (sym (contents-kept unit inside)) old

    went-missing : (unit : ℕ) → unit + 1 < script.n → Happened (λ (c : Call). IsClaim (bay_of script.n row unit) row c × IsMissing c) (call ∷ calls_at script earlier host) →
        cell_at script (call ∷ earlier) row (bay_of script.n row unit) ≡ None
    went-missing unit inside (inl now) = missing-stays script is earlier call along row below unit inside (puts-none unit inside) (missing-found script is earlier call along row below unit inside now.0 now.1)
    went-missing unit inside (inr before) = missing-stays script is earlier call along row below unit inside (puts-none unit inside) (was-shown.missing unit inside before)

    went-shown : IsRecoveryShown script (call ∷ earlier) host row
    went-shown = record {
      shown = subst (λ (cs : List Call). AreShownIn script.n row (Now) cs) (sym g.calls) (each-shown script.n row (Now) (call ∷ calls_at script earlier host) went-still);
      missing = λ unit inside happened.
          went-missing unit inside (subst (λ (cs : List Call). Happened (λ (c : Call). IsClaim (bay_of script.n row unit) row c × IsMissing c) cs) g.calls happened);
    }

  begun-shown : calls_at script (call ∷ earlier) host ≡ [] → IsRecoveryShown script (call ∷ earlier) host row
  begun-shown bare = record {
    shown = subst (λ (cs : List Call). AreShownIn script.n row (Now) cs) (sym bare) tt;
    missing = λ unit inside happened. absurd (subst (λ (cs : List Call). Happened (λ (c : Call). IsClaim (bay_of script.n row unit) row c × IsMissing c) cs) bare happened);
  }

  by-move : Came script is earlier call along.0 along.1 host steps h.hand.id h.hand.task (calls_at script (call ∷ earlier) host) → IsRecoveryShown script (call ∷ earlier) host row
  by-move (Stayed st) = stays-shown st
  by-move (Begun own bare) = begun-shown bare
  by-move (Went g) = went-shown g

pub recoveries-next : (script : Script) → IsScript script → (earlier : List Call) (call : Call) → IsHistory script (call ∷ earlier) → AllHold script earlier → AreHandsShown script earlier →
    (host : HostNo) (steps : Steps Finish) (h : HasHand script (call ∷ earlier) host steps) (row : RowNo) → row.0 < script.rows → IsRecoveryOf row h.hand.task →
    HasNote h.hand.id (slot_at script (call ∷ earlier) (parity_bay script.n row) row).note → IsRecoveryShown script (call ∷ earlier) host row
recoveries-next script is earlier call along holds shown host steps h row below recovers noted =
    by-move script is earlier call along holds shown host steps h row below recovers noted (came script is earlier call along.0 along.1 host steps h)
