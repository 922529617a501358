-- Along every history ids are apart.
use Rattle.std.proofs.Common.{◌≡◌, ◌⊎◌, inl, inr, ℕ, ◌+◌, ◌%◌, ◌<◌, ◌==◌, Bool, true, false, cond, List, [], ◌∷◌, length, map, find, Option, Some, None, refl, sym, ap, subst, ◌∙◌, arith}
use Rattle.std.specs.Prelude.{nat_lt}
use Rattle.std.specs.List.{AllByRecursion}
use Rattle.std.proofs.lemmas.Bool.Decides.{nat_tests}
use Rattle.raid_base.specs.declared.numbers.BayNo.{BayNo}
use Rattle.raid_base.specs.declared.numbers.HostNo.{HostNo}
use Rattle.raid_base.specs.declared.numbers.RowNo.{RowNo}
use Rattle.raid_base.specs.declared.numbers.Number.{Number}
use Rattle.raid_base.specs.declared.messages.Ask.{Ask}
use Rattle.raid_base.specs.declared.messages.Call.{Call}
use Rattle.raid_base.specs.declared.messages.Note.{Note}
use Rattle.raid_base.specs.declared.messages.Errand.{Errand}
use Rattle.raid_base.specs.declared.messages.Request.{Request}
use Rattle.raid_base.specs.declared.messages.Request.TheVariants.{Share, Claim, Confirm, Put, Release, Lose, Fit}
use Rattle.raid_base.specs.declared.messages.Reply.{Reply}
use Rattle.raid_base.specs.declared.messages.Reply.TheVariants.{Granted, Busy, Late, Young, Missing, Held, NoNote, Done, Fault, Emptied, Fitted}
use Rattle.raid_base.specs.declared.jobs.Job.{Job}
use Rattle.raid_base.specs.Replies.{is_fault}
use Rattle.raid_base.specs.Steps.{errand_of}
use Rattle.slot_rules.specs.Slots.{Slot, Bay, slot_of}
use Rattle.slot_rules.specs.Rules.{rule}
use Rattle.slot_rules.specs.Serving.{row_of}
use Rattle.slot_rules.specs.Laws.{claimed_note, NoteComes}
use Rattle.slot_rules.proofs.RowSteps.{RowStep, Touched, Passed, Bared, row_step}
use Rattle.script_text.specs.Script.{Script, HostJobs, jobs_in, jobs_of}
use Rattle.script_text.specs.Ranges.{IsScript, Rise}
use Rattle.histories.specs.Calls.{Happened, id_of}
use Rattle.histories.specs.Progress.{Progress, Work, Trying, Losing, Fitting, Over, start_jobs, call_counted, work_told, work_errand}
use Rattle.histories.specs.History.{IsHistory, IsNext, progress_at, if_taken, bay_at, if_ruled}
use Rattle.histories.proofs.bounds.BoundsTakes.{before_start}
use Rattle.histories.proofs.hands.Attempting.{sent-errand}
use Rattle.histories.specs.RowStates.{slot_at}
use Rattle.histories.specs.Ids.{calls_with, IsOwnId, IsSeenBy, IsNoteClaim, IdsAreApart}
use Rattle.histories.proofs.accesses.AccessTrees.{next-asked}
use Rattle.histories.proofs.accesses.AccessHosts.{HasWork, Apart, asked-id, jobs-apart, takes-apart, other-apart, own-next}
use Rattle.histories.proofs.steps.SameNumbers.{same-bay, same-host}
use Rattle.histories.proofs.steps.BayRows.{bay-rows, starts-first}

-- A host of a script is below 16, and another one has no jobs
few-or-idle : (from : ℕ) (host : HostNo) (hosts : List HostJobs) → Rise from (map (λ (h : HostJobs). h.host) hosts) →
    (host.0 < 16) ⊎ (jobs_in (find (λ (h : HostJobs). h.host.0 == host.0) hosts) ≡ [])
few-or-idle from host [] rise = inr refl
few-or-idle from host (first ∷ hosts) rise = by (first.host.0 == host.0) refl (few-or-idle (first.host.0 + 1) host hosts rise.2)
  where
    by : (b : Bool) → (first.host.0 == host.0) ≡ b → (host.0 < 16) ⊎ (jobs_in (find (λ (h : HostJobs). h.host.0 == host.0) hosts) ≡ []) →
        (host.0 < 16) ⊎ (jobs_in (cond b (Some first) (find (λ (h : HostJobs). h.host.0 == host.0) hosts)) ≡ [])
    by true e rest = inl (let less : first.host.0 < 16 = rise.1 in let same : first.host.0 ≡ host.0 = grind (arith, nat_tests) in omega (arith, less, same))
    by false e rest = rest

module _ (script : Script) (host : HostNo) where
  idle-start : (jobs : List Job) → jobs ≡ [] → (start_jobs script host jobs (before_start script host)).work ≡ Over
  idle-start jobs none = subst (λ (js : List Job). (start_jobs script host js (before_start script host)).work ≡ Over) (sym none) refl

  idle-takes : (p : Progress) (call : Call) (own : Bool) → p.work ≡ Over → (if_taken script host p call own).work ≡ Over
  idle-takes p call true idle = subst (λ (w : Work). (work_told script host (call_counted p call) call.answer.reply w).work ≡ Over) (sym idle) idle
  idle-takes p call false idle = idle

  idle-history : (history : List Call) → jobs_of script host ≡ [] → (progress_at script host history).work ≡ Over
  idle-history [] none = idle-start (jobs_of script host) none
  idle-history (call ∷ earlier) none = idle-takes (progress_at script host earlier) call (call.ask.host.0 == host.0) (idle-history earlier none)

-- what a request does to the note of its slot
comes : (ask : Ask) (what : Request) (reply : Reply) (bay : BayNo) (row : RowNo) (old : Option Note) (note : Note) (call : Call) → call.ask ≡ ask → ask.what ≡ what → call.bay ≡ bay →
    row_of what ≡ Some row → NoteComes ask what reply old note → IsNoteClaim bay row note call ⊎ (old ≡ Some note)
comes ask (Claim r id how mask want) (Granted cell read_no write_no last life seized) bay row old note call at same place is h = inl (by seized h.0)
  where
    claims : note.id ≡ id → note.host ≡ ask.host → IsNoteClaim bay row note call
    claims named hosted =
        let here : r ≡ row = cc in
        let first : call.ask.what ≡ Claim r id how mask want = ap (λ (a : Ask). a.what) at ∙ same in (
          place,
          ap (λ (a : Ask). a.host) at ∙ sym hosted,
          how,
          mask,
          want,
          subst (λ (x : RowNo). call.ask.what ≡ Claim x note.id how mask want) here (subst (λ (x : Number). call.ask.what ≡ Claim r x how mask want) (sym named) first),
        )

    by : (s : Option Note) → note ≡ claimed_note ask id mask s → IsNoteClaim bay row note call
    by None e = claims (ap (λ (n : Note). n.id) e) (ap (λ (n : Note). n.host) e)
    by (Some old) e = claims (ap (λ (n : Note). n.id) e) (ap (λ (n : Note). n.host) e)
comes ask (Share r id want) (Granted cell read_no write_no last life seized) bay row old note call at same place is h = inr h
comes ask (Confirm r id want) (Granted cell read_no write_no last life seized) bay row old note call at same place is h = inr h
comes ask (Put r id n put) (Granted cell read_no write_no last life seized) bay row old note call at same place is h = inr h
comes ask (Release r id n) (Granted cell read_no write_no last life seized) bay row old note call at same place is h = inr h
comes ask Lose (Granted cell read_no write_no last life seized) bay row old note call at same place is h = inr h
comes ask Fit (Granted cell read_no write_no last life seized) bay row old note call at same place is h = inr h
comes ask what (Busy holder) bay row old note call at same place is h = inr h
comes ask what (Late above) bay row old note call at same place is h = inr h
comes ask what (Young young) bay row old note call at same place is h = inr h
comes ask what (Missing floor) bay row old note call at same place is h = inr h
comes ask what (Held cell) bay row old note call at same place is h = inr h
comes ask what (NoNote life) bay row old note call at same place is h = inr h
comes ask what Done bay row old note call at same place is h = inr h
comes ask what Fault bay row old note call at same place is h = inr h
comes ask what Emptied bay row old note call at same place is h = inr h
comes ask what Fitted bay row old note call at same place is h = inr h

step-note : (bay after : Bay) (at : BayNo) (row : RowNo) (reply : Reply) (note : Note) (call : Call) → call.bay ≡ at → RowStep bay call.ask row reply after →
    (slot_of after row).note ≡ Some note → IsNoteClaim at row note call ⊎ ((slot_of bay row).note ≡ Some note)
step-note bay after at row reply note call place (Touched is step e c) opened =
    comes call.ask call.ask.what reply at row (slot_of bay row).note note call refl refl place is (step.note_comes note opened)
step-note bay after at row reply note call place (Passed same is e) opened = inr (ap (λ (s : Slot). s.note) (sym same) ∙ opened)
step-note bay after at row reply note call place (Bared n same is e z l) opened = absurd (let bad : None ≡ Some note = ap (λ (s : Slot). s.note) (sym same) ∙ opened in cc)

module _ (script : Script) (is : IsScript script) where
  -- notes
  pub notes-claimed : (history : List Call) (at : BayNo) (row : RowNo) (note : Note) → row.0 < script.rows → (slot_at script history at row).note ≡ Some note →
      Happened (IsNoteClaim at row note) history
  notes-claimed [] at row note below opened = absurd (let bad : None ≡ Some note = ap (λ (s : Slot). s.note) (sym (starts-first script at row below)) ∙ opened in cc)
  notes-claimed (call ∷ earlier) at row note below opened = by (call.bay.0 == at.0) refl opened (notes-claimed earlier at row note below)
    where
      bay : Bay
      bay = bay_at script at earlier

      either : IsNoteClaim at row note call ⊎ ((slot_of bay row).note ≡ Some note) → ((slot_of bay row).note ≡ Some note → Happened (IsNoteClaim at row note) earlier) →
          IsNoteClaim at row note call ⊎ Happened (IsNoteClaim at row note) earlier
      either (inl h) before = inl h
      either (inr h) before = inr (before h)

      by : (b : Bool) → (call.bay.0 == at.0) ≡ b → (slot_of (if_ruled bay call b) row).note ≡ Some note → ((slot_of bay row).note ≡ Some note → Happened (IsNoteClaim at row note) earlier) →
          IsNoteClaim at row note call ⊎ Happened (IsNoteClaim at row note) earlier
      by true e here before =
          let fails : Bool = is_fault call.answer.reply in
          let rows : length bay.slots ≡ script.rows = bay-rows script at earlier in
          either
          (step-note bay (rule bay call.ask fails).bay at row (rule bay call.ask fails).reply note call (same-bay call.bay at e)
          (row_step bay call.ask fails row (omega (arith, rows, below))) here)
          before
      by false e here before = inr (before here)

  -- all hosts and all calls
  pub record AllApart (history : List Call) : Type 0 where
    pub hosts : (host : HostNo) → host.0 < 16 → Apart host history (progress_at script host history)
    pub owns : AllByRecursion IsOwnId history

  module _ (earlier : List Call) (call : Call) (next : IsNext script earlier call) (s : AllApart earlier) where
    pub asked-errand : work_errand (progress_at script call.ask.host earlier).work ≡ Some (errand_of call)
    asked-errand =
        sent-errand call.ask.host (progress_at script call.ask.host earlier).clock call.ask.moment (work_errand (progress_at script call.ask.host earlier).work) call.bay call.ask next.asked

    pub asker-few : call.ask.host.0 < 16
    asker-few = by (few-or-idle 0 call.ask.host script.hosts is.hosts)
      where
        by : (call.ask.host.0 < 16) ⊎ (jobs_of script call.ask.host ≡ []) → call.ask.host.0 < 16
        by (inl few) = few
        by (inr none) =
            absurd (let bad : None ≡ Some (errand_of call) = sym (ap (λ (w : Work). work_errand w) (idle-history script call.ask.host earlier none)) ∙ asked-errand in cc)

    all-own : AllByRecursion IsOwnId (call ∷ earlier)
    all-own = (
      own-next call.ask.host earlier call (progress_at script call.ask.host earlier) (progress_at script call.ask.host earlier).work refl (s.hosts call.ask.host asker-few).work asked-errand,
      s.owns,
    )

    own-errand : (host : HostNo) → (call.ask.host.0 == host.0) ≡ true → work_errand (progress_at script host earlier).work ≡ Some (errand_of call)
    own-errand host own = subst (λ (x : HostNo). work_errand (progress_at script x earlier).work ≡ Some (errand_of call)) (same-host call.ask.host host own) asked-errand

    host-next : (host : HostNo) → host.0 < 16 → Apart host (call ∷ earlier) (progress_at script host (call ∷ earlier))
    host-next host few = by (call.ask.host.0 == host.0) refl
      where
        by : (b : Bool) → (call.ask.host.0 == host.0) ≡ b → Apart host (call ∷ earlier) (if_taken script host (progress_at script host earlier) call b)
        by true own = takes-apart script host few earlier call all-own (progress_at script host earlier) (s.hosts host few) (own-errand host own)
        by false other =
            other-apart script host few earlier call all-own (progress_at script host earlier) (λ same. absurd (grind (arith, nat_tests))) (s.hosts host few)

  pub all-apart : (history : List Call) → IsHistory script history → AllApart history
  all-apart [] h = record { hosts = λ host few. jobs-apart script host few [] tt (jobs_of script host) (before_start script host) tt; owns = tt }
  all-apart (call ∷ earlier) h =
      let s : AllApart earlier = all-apart earlier h.0 in
      record { hosts = λ host few. host-next earlier call h.1 s host few; owns = all-own earlier call h.1 s }

  -- a host that is none of the script's has no calls
  none-seen : (host : HostNo) (seen : Number) → (host.0 < 16 → ⊥) → (calls : List Call) → AllByRecursion IsOwnId calls → AllByRecursion (IsSeenBy host seen) calls
  none-seen host seen many [] owns = tt
  none-seen host seen many (call ∷ calls) owns = (
    λ own id e. let leaves : id.0 % 16 ≡ call.ask.host.0 = owns.0 id e in absurd (many (omega (arith, own, leaves))),
    none-seen host seen many calls owns.1,
  )

  lows-any : (history : List Call) → AllApart history → (host : HostNo) → AllByRecursion (IsSeenBy host (progress_at script host history).seen) history
  lows-any history s host = by (nat_lt host.0 16) refl
    where
      by : (b : Bool) → nat_lt host.0 16 ≡ b → AllByRecursion (IsSeenBy host (progress_at script host history).seen) history
      by true e = (s.hosts host (grind (arith, nat_tests))).lows
      by false e = none-seen host (progress_at script host history).seen (λ few. absurd (grind (arith, nat_tests))) history s.owns

  in-hand : (host : HostNo) (history calls : List Call) (seen : Number) (work : Work) (errand : Errand) (id : Number) → HasWork host history seen calls work →
      work_errand work ≡ Some errand → id_of errand.request ≡ Some id → calls_with id history ≡ calls
  in-hand host history calls seen (Trying steps) errand id w asked named =
      let first : id_of errand.request ≡ Some w.id = asked-id w.reading w.id errand.request (next-asked w.reading w.id steps errand w.each asked) in
      let both : Some w.id ≡ Some id = sym first ∙ named in
      let same : w.id ≡ id = cc in
      subst (λ (x : Number). calls_with x history ≡ calls) same w.same
  in-hand host history calls seen (Losing bay) errand id w asked named =
      let same : record { bay = bay; request = Lose } ≡ errand = cc in
      absurd (let bad : None ≡ Some id = ap (λ (x : Errand). id_of x.request) same ∙ named in cc)
  in-hand host history calls seen (Fitting bay) errand id w asked named =
      let same : record { bay = bay; request = Fit } ≡ errand = cc in
      absurd (let bad : None ≡ Some id = ap (λ (x : Errand). id_of x.request) same ∙ named in cc)
  in-hand host history calls seen Over errand id w asked named = absurd (cc)

  in-hand-any : (history : List Call) → AllApart history → (host : HostNo) (errand : Errand) (id : Number) → work_errand (progress_at script host history).work ≡ Some errand →
      id_of errand.request ≡ Some id → calls_with id history ≡ (progress_at script host history).calls
  in-hand-any history s host errand id asked named = by (few-or-idle 0 host script.hosts is.hosts)
    where
      p : Progress
      p = progress_at script host history

      by : (host.0 < 16) ⊎ (jobs_of script host ≡ []) → calls_with id history ≡ p.calls
      by (inl few) = in-hand host history p.calls p.seen p.work errand id (s.hosts host few).work asked named
      by (inr none) = absurd (let bad : None ≡ Some errand = sym (ap (λ (w : Work). work_errand w) (idle-history script host history none)) ∙ asked in cc)

pub ids_are_apart : IdsAreApart
ids_are_apart script history is h =
    let s = all-apart script is history h in
    record {
      own = s.owns;
      seen = λ host. lows-any script is history s host;
      in_hand = λ host errand id asked named. in-hand-any script is history s host errand id asked named;
      notes = λ at row note below opened. notes-claimed script is history at row note below opened;
    }
