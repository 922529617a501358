-- A recovery that goes through, while no other host asks a slot of its row, leaves no note in the row.
use Rattle.std.proofs.Common.{◌≡◌, ◌⊎◌, inl, inr, refl, sym, ap, subst, ◌∙◌, ℕ, ◌<◌, ◌==◌, ◌||◌, Bool, true, false, if◌then◌else◌, List, [], ◌∷◌, ◌++◌, Option, Some, None, IsSome, is_some, arith}
use Rattle.std.specs.List.{AllByRecursion, list_any}
use Rattle.std.proofs.lemmas.Bool.Decides.{nat_tests}
use Rattle.raid_base.specs.declared.numbers.BayNo.{BayNo}
use Rattle.raid_base.specs.declared.numbers.HostNo.{HostNo}
use Rattle.raid_base.specs.declared.numbers.RowNo.{RowNo}
use Rattle.raid_base.specs.declared.numbers.Number.{Number}
use Rattle.raid_base.specs.declared.messages.Call.{Call}
use Rattle.raid_base.specs.declared.messages.How.{How}
use Rattle.raid_base.specs.declared.messages.How.TheVariants.{Seize}
use Rattle.raid_base.specs.declared.messages.Note.{Note}
use Rattle.raid_base.specs.declared.messages.PutEnd.{PutEnd}
use Rattle.raid_base.specs.declared.messages.PutEnd.TheVariants.{Made, Unnoted, Failed}
use Rattle.raid_base.specs.declared.messages.Reply.{Reply}
use Rattle.raid_base.specs.declared.messages.Request.{Request}
use Rattle.raid_base.specs.declared.messages.Request.TheVariants.{Share, Claim, Confirm, Put, Release, Lose, Fit}
use Rattle.raid_base.specs.declared.jobs.Task.{Task}
use Rattle.raid_base.specs.declared.jobs.Task.TheVariants as tasks
use Rattle.raid_base.specs.declared.jobs.JobEnd.{JobEnd}
use Rattle.raid_base.specs.declared.jobs.JobEnd.TheVariants as ends
use Rattle.raid_base.specs.Numbers.{number}
use Rattle.raid_base.specs.Replies.{is_fault, grant_of, put_end}
use Rattle.stripe_layout.specs.Placement.{bays_of, units, parity_bay, row_bays, parity_first}
use Rattle.slot_rules.specs.Slots.{Slot, Bay, bare_slot, slot_of}
use Rattle.slot_rules.specs.Rules.{rule}
use Rattle.slot_rules.specs.Replay.{next_clock}
use Rattle.slot_rules.specs.Serving.{row_of, slot_rule}
use Rattle.slot_rules.specs.Laws.{is_row}
use Rattle.slot_rules.proofs.RowSteps.{bare_run}
use Rattle.attempts.specs.Phases.{IsIn, is_slot}
use Rattle.attempts.specs.Returns.{Holding, held_after}
use Rattle.attempts.specs.declared.Rescue.{Rescue}
use Rattle.script_text.specs.Script.{Script, jobs_of}
use Rattle.script_text.specs.Ranges.{IsScript, IsTask}
use Rattle.histories.specs.Calls.{Happened}
use Rattle.histories.specs.Calls as calls
use Rattle.histories.specs.Progress.{Ending}
use Rattle.histories.specs.History.{IsHistory, IsNext, progress_at, if_taken, bay_at, if_ruled, endings_at}
use Rattle.histories.specs.RowStates.{slot_at, is_open}
use Rattle.histories.proofs.bounds.BoundsTakes.{before_start}
use Rattle.histories.proofs.missing.MissingBays.{reply-is, own-errand}
use Rattle.histories.proofs.steps.BayRows.{bay-rows}
use Rattle.histories.proofs.steps.HostTasks.{host-tasks}
use Rattle.histories.proofs.steps.LeftSlots.{ClaimedBy, Unputs, Frees, Its, Same, Bare}
use Rattle.histories.proofs.steps.SameNumbers.{same-bay}
use Rattle.attempt_laws.specs.Rescues.{calls_by, OthersKeepOff, RecoveriesClose}
use Rattle.attempt_laws.proofs.leftovers.LeftLeaves.{on, Holds, claimed-new, GivesPut, Gives, after-holds}
use Rattle.attempt_laws.proofs.leftovers.LeftBays.{fitted, LotAt, own-lot, NoteFrom, note-from, apart-at}
use Rattle.attempt_laws.proofs.calm.CalmBays.{slot-there, replied-there}
use Rattle.attempt_laws.proofs.rescues.RescueTrees.{is_answer, IsAnswered, held_of, IsOwnAsk, IsRescue}
use Rattle.attempt_laws.proofs.rescues.RescueSlots.{seized-own}
use Rattle.attempt_laws.proofs.rescues.RescueHosts.{rescue_of, FactsOf, EndFacts, Safe, start-safe, work-safe}

-- the row of a request
same-row : (what : Request) → calls.row_of what ≡ row_of what
same-row (Share row id want) = refl
same-row (Claim row id how mask want) = refl
same-row (Confirm row id want) = refl
same-row (Put row id n cell) = refl
same-row (Release row id n) = refl
same-row Lose = refl
same-row Fit = refl

pub own-row : (row : RowNo) → is_row row (Some row) ≡ true
own-row row = grind (arith, nat_tests)

pub same-place : (at bay : BayNo) (row there : RowNo) → is_slot (on at row) (on bay there) ≡ true → (at ≡ bay) × (row ≡ there)
same-place at bay row there e =
    let b : at.0 ≡ bay.0 = grind (arith, nat_tests) in
    let w : row.0 ≡ there.0 = grind (arith, nat_tests) in
    (ap (λ (k : ℕ). let z : BayNo = record { 0 = k } in z) b, ap (λ (k : ℕ). let z : RowNo = record { 0 = k } in z) w)

module _ (script : Script) (is : IsScript script) where
  -- A bay without a device has no notes
  empty-free : (history : List Call) → IsHistory script history → (at : BayNo) (row : RowNo) → row.0 < script.rows → (bay_at script at history).empty ≡ true → slot_at script history at row ≡ bare_slot (number 0)
  empty-free [] h at row low e = absurd (let bad : false ≡ true = e in cc)
  empty-free (call ∷ earlier) h at row low e = by (call.bay.0 == at.0) refl (empty-free earlier h.0 at row low) e
    where
      told : call.bay ≡ at → call.answer.reply ≡ (rule (bay_at script at earlier) call.ask (is_fault call.answer.reply)).reply
      told same = subst (λ (b : BayNo). call.answer.reply ≡ (rule (bay_at script b earlier) call.ask (is_fault call.answer.reply)).reply) same (reply-is script is earlier call h.1)

      by : (b : Bool) → (call.bay.0 == at.0) ≡ b → ((bay_at script at earlier).empty ≡ true → slot_at script earlier at row ≡ bare_slot (number 0)) →
          (if_ruled (bay_at script at earlier) call b).empty ≡ true → slot_of (if_ruled (bay_at script at earlier) call b) row ≡ bare_slot (number 0)
      by true own before f =
          let rows = bay-rows script at earlier in
          bare_run (bay_at script at earlier) 0 (record { ask = call.ask; clock = next_clock 0 call.ask; reply = call.answer.reply } ∷ []) (rule (bay_at script at earlier) call.ask (is_fault call.answer.reply)).bay
          (next_clock 0 call.ask) row (omega (arith, low, rows)) before (told (same-bay call.bay at own), refl, (refl, refl)) f
      by false own before f = before f

  module _ (host : HostNo) (id : Number) (row : RowNo) (low : row.0 < script.rows) where
    abbrev pub r : Rescue
    r = rescue_of script host id row

    abbrev pub held : List Call → List Holding
    held cs = held_of script.mode cs

    -- once a claim of the slot was answered, a note there is the recovery's, which holds the slot
    abbrev pub Kept : List Call → List Call → BayNo → Type 0
    Kept history cs at = Happened (IsAnswered at row) cs → (note : Note) → (slot_at script history at row).note ≡ Some note → (note.id ≡ id) × Holds (on at row) (held cs)

    module _ (earlier : List Call) (call : Call) (h : IsHistory script earlier) (next : IsNext script earlier call) (cs : List Call) (at : BayNo) (kept : Kept earlier cs at) where
      -- a call of another host
      kept-other : (row_of call.ask.what ≡ Some row → ⊥) → Kept (call ∷ earlier) cs at
      kept-other away answered note f = by (note-from script is earlier call next at row low note f)
        where
          by : NoteFrom script is earlier call next at row note → (note.id ≡ id) × Holds (on at row) (held cs)
          by (inl old) = kept answered note old
          by (inr c) = absurd (away c.1)

      -- the host's own
      abbrev after_call : List Holding
      after_call = held_after script.mode (held cs) call.bay call.ask.what call.answer.reply

      new-held : (mask : ℕ) (want : Bool) (how : How) → call.ask.what ≡ Claim row id how mask want → call.bay ≡ at → IsSome (grant_of call.answer.reply) → Holds (on at row) after_call
      new-held mask want how asked place some =
          subst (λ (w : Request). Holds (on at row) (held_after script.mode (held cs) call.bay w call.answer.reply)) (sym asked)
          (subst (λ (b : BayNo). Holds (on b row) (held_after script.mode (held cs) call.bay (Claim row id how mask want) call.answer.reply)) place (claimed-new (on call.bay row) (grant_of call.answer.reply) (held cs) some))

      -- what it gives back has no note of it
      abbrev pub Now : RowNo → Slot
      Now there = slot_at script (call ∷ earlier) call.bay there

      pub freed : (there : RowNo) → there.0 < script.rows → row_of call.ask.what ≡ Some there → Frees call.answer.reply (Now there) call.ask.what ⊎ ((Now there).note ≡ None)
      freed there below asked = by (own-lot script is earlier call next there below)
        where
          by : LotAt script is earlier call next call.bay there → Frees call.answer.reply (Now there) call.ask.what ⊎ ((Now there).note ≡ None)
          by (Its at_row lets) = inl (lets.frees (apart-at script is earlier h call.bay there below))
          by (Same e other) = absurd (let bad : true ≡ false = sym (own-row there) ∙ ap (λ (x : Option RowNo). is_row there x) (sym asked) ∙ other in cc)
          by (Bare n e) = inr (ap (λ (s : Slot). s.note) e)

      pub there-noted : (there : RowNo) (note : Note) → (at ≡ call.bay) × (row ≡ there) → (slot_at script (call ∷ earlier) at row).note ≡ Some note → (Now there).note ≡ Some note
      there-noted there note place f =
          subst (λ (w : RowNo). (slot_at script (call ∷ earlier) call.bay w).note ≡ Some note) place.1 (subst (λ (b : BayNo). (slot_at script (call ∷ earlier) b row).note ≡ Some note) place.0 f)

      pub unput : (p : PutEnd) (there : RowNo) (by : Number) → GivesPut p → Unputs by (Now there) p → (note : Note) → (Now there).note ≡ Some note → note.id ≡ by → ⊥
      unput Made there by give u note f own = u (note, f, own)
      unput (Unnoted life) there by give u note f own = u (note, f, own)
      unput Failed there by give u note f own = give

      unnoted : (what : Request) → call.ask.what ≡ what → IsOwnAsk r call.bay what → (note : Note) → note.id ≡ id → (slot_at script (call ∷ earlier) at row).note ≡ Some note → Gives call.bay what call.answer.reply (on at row) → ⊥
      unnoted (Share there by want) same mine note own f give = mine
      unnoted (Claim there by how mask want) same mine note own f give = give
      unnoted (Confirm there by want) same mine note own f give = give
      unnoted Lose same mine note own f give = give
      unnoted Fit same mine note own f give = give
      unnoted (Release there by n) same mine note own f give =
          let place : (at ≡ call.bay) × (row ≡ there) = same-place at call.bay row there give in
          go (subst (λ (w : RowNo). w.0 < script.rows) place.1 low) (there-noted there note place f)
        where
          go : there.0 < script.rows → (Now there).note ≡ Some note → ⊥
          go below g = last (subst (λ (w : Request). Frees call.answer.reply (Now there) w ⊎ ((Now there).note ≡ None)) same (freed there below (ap (λ (w : Request). row_of w) same)))
            where
              last : Frees call.answer.reply (Now there) (Release there by n) ⊎ ((Now there).note ≡ None) → ⊥
              last (inl x) = x.0 (note, g, own ∙ sym mine)
              last (inr e) = let bad : None ≡ Some note = sym e ∙ g in cc
      unnoted (Put there by n cell) same mine note own f give =
          let place : (at ≡ call.bay) × (row ≡ there) = same-place at call.bay row there give.0 in
          go (subst (λ (w : RowNo). w.0 < script.rows) place.1 low) (there-noted there note place f)
        where
          go : there.0 < script.rows → (Now there).note ≡ Some note → ⊥
          go below g = last (subst (λ (w : Request). Frees call.answer.reply (Now there) w ⊎ ((Now there).note ≡ None)) same (freed there below (ap (λ (w : Request). row_of w) same)))
            where
              last : Frees call.answer.reply (Now there) (Put there by n cell) ⊎ ((Now there).note ≡ None) → ⊥
              last (inl x) = unput (put_end call.answer.reply) there by give.1 x note g (own ∙ sym mine.0)
              last (inr e) = let bad : None ≡ Some note = sym e ∙ g in cc

      -- a claim of the slot that was answered now
      served : row_of call.ask.what ≡ Some row → Now row ≡ (slot_rule (bay_at script call.bay earlier) (slot_at script earlier call.bay row) call.ask (is_fault call.answer.reply) call.ask.what).slot
      served asked =
          subst (λ (b : Bool). slot_of (if_ruled (bay_at script call.bay earlier) call b) row ≡ (slot_rule (bay_at script call.bay earlier) (slot_at script earlier call.bay row) call.ask (is_fault call.answer.reply) call.ask.what).slot)
          (sym own-bay) (slot-there (bay_at script call.bay earlier) call.ask (is_fault call.answer.reply) row asked (let rows = bay-rows script call.bay earlier in omega (arith, low, rows)))
        where
          own-bay : (call.bay.0 == call.bay.0) ≡ true
          own-bay = grind (arith, nat_tests)

      claimed-now : (mask : ℕ) (want : Bool) → call.ask.what ≡ Claim row id Seize mask want → is_answer call.answer.reply ≡ true → (note : Note) → (Now row).note ≡ Some note → (note.id ≡ id) × IsSome (grant_of call.answer.reply)
      claimed-now mask want asked answer note f =
          let b : Bay = bay_at script call.bay earlier in
          let slot : Slot = slot_at script earlier call.bay row in
          let fails : Bool = is_fault call.answer.reply in
          let of_row : row_of call.ask.what ≡ Some row = ap (λ (w : Request). row_of w) asked in
          let told : call.answer.reply ≡ (slot_rule b slot call.ask fails (Claim row id Seize mask want)).reply =
          reply-is script is earlier call next ∙ replied-there b call.ask fails row of_row ∙ ap (λ (w : Request). (slot_rule b slot call.ask fails w).reply) asked in
          let now : Now row ≡ (slot_rule b slot call.ask fails (Claim row id Seize mask want)).slot = served of_row ∙ ap (λ (w : Request). (slot_rule b slot call.ask fails w).slot) asked in
          let own = seized-own b slot call.ask id mask want fails (λ e. ap (λ (s : Slot). s.note) (empty-free earlier h call.bay row low e))
          (sym (ap is_answer told) ∙ answer) note (sym (ap (λ (s : Slot). s.note) now) ∙ f) in
          (own.0, subst (λ (x : Reply). IsSome (grant_of x)) (sym told) own.1)

      kept-own : IsOwnAsk r call.bay call.ask.what → Kept (call ∷ earlier) (call ∷ cs) at
      kept-own mine (inl now) note f =
          let mine' : (now.1 ≡ id) × (now.2 ≡ Seize) × (row ≡ row) = subst (λ (w : Request). IsOwnAsk r call.bay w) now.5 mine in
          let asked : call.ask.what ≡ Claim row id Seize now.3 now.4 = now.5 ∙ ap (λ (x : Number). Claim row x now.2 now.3 now.4) mine'.0 ∙ ap (λ (w : How). Claim row id w now.3 now.4) mine'.1 in
          let own = claimed-now now.3 now.4 asked now.6 note (subst (λ (b : BayNo). (slot_at script (call ∷ earlier) b row).note ≡ Some note) (sym now.0) f) in
          (own.0, new-held now.3 now.4 Seize asked now.0 own.1)
      kept-own mine (inr before) note f = by (note-from script is earlier call next at row low note f)
        where
          claimed : (what : Request) → call.ask.what ≡ what → IsOwnAsk r call.bay what → call.bay ≡ at → row_of what ≡ Some row → ClaimedBy call.ask call.answer.reply note what → (note.id ≡ id) × Holds (on at row) after_call
          claimed (Claim there by how mask want) same own place of_row c =
              let there_is : there ≡ row = cc in
              (c.1 ∙ own.0, new-held mask want how (same ∙ ap (λ (w : RowNo). Claim w by how mask want) there_is ∙ ap (λ (x : Number). Claim row x how mask want) own.0) place c.2)
          claimed (Share there by want) same own place of_row c = absurd c
          claimed (Confirm there by want) same own place of_row c = absurd c
          claimed (Put there by n cell) same own place of_row c = absurd c
          claimed (Release there by n) same own place of_row c = absurd c
          claimed Lose same own place of_row c = absurd c
          claimed Fit same own place of_row c = absurd c

          by : NoteFrom script is earlier call next at row note → (note.id ≡ id) × Holds (on at row) after_call
          by (inl old) =
              let k = kept before note old in
              (k.0, after-holds script.mode (on at row) (held cs) call.bay call.ask.what call.answer.reply (unnoted call.ask.what refl mine note k.0 f) k.1)
          by (inr c) = claimed call.ask.what refl mine c.0 c.1 c.2

    -- along the calls of the attempt
    others-row : (call : Call) → (calls.row_of call.ask.what ≡ Some row → ⊥) → row_of call.ask.what ≡ Some row → ⊥
    others-row call away e = away (same-row call.ask.what ∙ e)

    along : (during before : List Call) → IsHistory script (during ++ before) → OthersKeepOff host row during → AllByRecursion (λ (call : Call). IsOwnAsk r call.bay call.ask.what) (calls_by host during) → (at : BayNo) →
        Kept (during ++ before) (calls_by host during) at
    along [] before h off own at = λ answered. absurd answered
    along (call ∷ during) before h off own at = by (call.ask.host.0 == host.0) refl own (λ rest. along during before h.0 off.1 rest at)
      where
        by : (b : Bool) → (call.ask.host.0 == host.0) ≡ b → AllByRecursion (λ (c : Call). IsOwnAsk r c.bay c.ask.what) (if b then call ∷ calls_by host during else calls_by host during) →
            (AllByRecursion (λ (c : Call). IsOwnAsk r c.bay c.ask.what) (calls_by host during) → Kept (during ++ before) (calls_by host during) at) →
            Kept (call ∷ (during ++ before)) (if b then call ∷ calls_by host during else calls_by host during) at
        by true e mine more = kept-own (during ++ before) call h.0 h.1 (calls_by host during) at (more mine.1) mine.0
        by false e mine more =
            kept-other (during ++ before) call h.0 h.1 (calls_by host during) at (more mine)
            (others-row call (off.0 (λ same. let bad : false ≡ true = sym e ∙ ap (λ (x : HostNo). x.0 == host.0) same ∙ itself in cc)))
          where
            itself : (host.0 == host.0) ≡ true
            itself = grind (arith, nat_tests)

    -- at its end nothing is left
    none-left : (history cs : List Call) → ((at : BayNo) → Kept history cs at) → IsRescue r script.mode cs → (at : BayNo) → IsIn at (parity_first script.n row) → is_some (slot_at script history at row).note ≡ false
    none-left history cs kept rescue at i = by (slot_at script history at row).note refl
      where
        by : (o : Option Note) → (slot_at script history at row).note ≡ o → is_some o ≡ false
        by None e = refl
        by (Some note) e = absurd (subst (λ (hs : List Holding). Holds (on at row) hs) rescue.none (kept at (rescue.all at i) note e).1)

    any-none : (f : BayNo → Bool) (bays : List BayNo) → ((at : BayNo) → IsIn at bays → f at ≡ false) → list_any f bays ≡ false
    any-none f [] none = refl
    any-none f (bay ∷ bays) none = subst (λ (b : Bool). (b || list_any f bays) ≡ false) (sym (none bay (inl refl))) (any-none f bays (λ at i. none at (inr i)))

    in-row : (at : BayNo) (bays : List BayNo) → IsIn at (bays ++ parity_bay script.n row ∷ []) → IsIn at (parity_bay script.n row ∷ bays)
    in-row at [] i = i
    in-row at (bay ∷ bays) (inl same) = inr (inl same)
    in-row at (bay ∷ bays) (inr i) = turn (in-row at bays i)
      where
        turn : IsIn at (parity_bay script.n row ∷ bays) → IsIn at (parity_bay script.n row ∷ (bay ∷ bays))
        turn (inl same) = inl same
        turn (inr j) = inr (inr j)

    closes : (history cs : List Call) → ((at : BayNo) → Kept history cs at) → IsRescue r script.mode cs → is_open script history row ≡ false
    closes history cs kept rescue =
        any-none (λ bay. is_some (slot_at script history bay row).note) (row_bays script.n row) (λ at i. none-left history cs kept rescue at (in-row at (bays_of script.n row (units script.n)) i))

  -- the jobs that have ended
  safe-at : (history : List Call) → IsHistory script history → (host : HostNo) → Safe script host (progress_at script host history)
  safe-at [] h host = start-safe script host (jobs_of script host) (before_start script host) refl (record { jobs = host-tasks script is host; ends = tt })
  safe-at (call ∷ earlier) h host = by (call.ask.host.0 == host.0) refl (safe-at earlier h.0 host)
    where
      by : (b : Bool) → (call.ask.host.0 == host.0) ≡ b → Safe script host (progress_at script host earlier) → Safe script host (if_taken script host (progress_at script host earlier) call b)
      by true own s = work-safe script host (progress_at script host earlier) call (progress_at script host earlier).work (own-errand script is earlier call h.1 host own) (fitted script is earlier call h.1) s.sound s.work
      by false own s = s

  one-of : (host : HostNo) (e : Ending) (es : List Ending) → AllByRecursion (EndFacts script host) es → IsIn e es → EndFacts script host e
  one-of host e [] all i = absurd i
  one-of host e (x ∷ xs) all (inl same) = subst (EndFacts script host) same all.0
  one-of host e (x ∷ xs) all (inr i) = one-of host e xs all.1 i

pub recoveries_close : RecoveriesClose
recoveries_close script during before host row e n lost is h i task ended same off =
    let facts : EndFacts script host e = one-of script is host e (endings_at script (during ++ before) host) ((safe-at script is (during ++ before) h host).sound).ends i in
    let aim : IsTask script host (tasks.Recover row) = subst (λ (t : Task). IsTask script host t) task facts.0 in
    let f : FactsOf script host (tasks.Recover row) (ends.Recovered n true lost) e.calls =
    subst (λ (x : JobEnd). FactsOf script host (tasks.Recover row) x e.calls) ended (subst (λ (t : Task). FactsOf script host t e.ended e.calls) task facts.1) in
    let rescue : IsRescue (rescue_of script host f.0 row) script.mode (calls_by host during) = subst (λ (cs : List Call). IsRescue (rescue_of script host f.0 row) script.mode cs) (sym same) f.1 in
    closes script is host f.0 row aim (during ++ before) (calls_by host during) (λ at. along script is host f.0 row aim during before h off rescue.own at) rescue
