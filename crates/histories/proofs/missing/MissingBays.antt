-- One bay is missing at most.
use Rattle.std.proofs.Common.{◌≡◌, ◌⊎◌, inl, inr, ℕ, ◌<◌, ◌==◌, ◌||◌, ◌&&◌, Bool, true, false, List, [], ◌∷◌, Option, Some, None, is_some, refl, sym, ap, subst, ◌∙◌, arith}
use Rattle.std.proofs.lemmas.Bool.Decides.{nat_tests}
use Rattle.std.proofs.lemmas.Bool.{and_parts}
use Rattle.raid_base.specs.declared.numbers.BayNo.{BayNo}
use Rattle.raid_base.specs.declared.numbers.HostNo.{HostNo}
use Rattle.raid_base.specs.declared.numbers.RowNo.{RowNo}
use Rattle.raid_base.specs.declared.numbers.Number.{Number}
use Rattle.raid_base.specs.declared.messages.Call.{Call}
use Rattle.raid_base.specs.declared.messages.Reply.{Reply}
use Rattle.raid_base.specs.declared.messages.Errand.{Errand}
use Rattle.raid_base.specs.declared.messages.Request.{Request}
use Rattle.raid_base.specs.declared.messages.Request.TheVariants.{Lose, Fit}
use Rattle.raid_base.specs.declared.jobs.Job.{Job}
use Rattle.raid_base.specs.declared.jobs.Task.{Task}
use Rattle.raid_base.specs.declared.jobs.Task.TheVariants as tasks
use Rattle.raid_base.specs.declared.jobs.JobEnd.TheVariants as job_ends
use Rattle.raid_base.specs.Numbers.{number}
use Rattle.raid_base.specs.Replies.{is_fault}
use Rattle.raid_base.specs.Steps.{Steps, next_errand, told, errand_of}
use Rattle.slot_rules.specs.Slots.{Slot, slot_of}
use Rattle.slot_rules.specs.Rules.{rule, rule_of}
use Rattle.slot_rules.specs.Serving.{row_of}
use Rattle.slot_rules.specs.Laws.{is_row}
use Rattle.attempts.specs.Taking.{Finish}
use Rattle.attempts.specs.Mending.{is_at}
use Rattle.script_text.specs.Script.{Script}
use Rattle.script_text.specs.Ranges.{IsScript}
use Rattle.histories.specs.declared.operator.Gone.{Gone}
use Rattle.histories.specs.Progress.{Work, Trying, Losing, Fitting, Over, Progress, work_errand, work_told, call_counted}
use Rattle.histories.specs.History.{IsHistory, IsNext, progress_at, if_taken, bay_at, if_ruled}
use Rattle.histories.proofs.hands.Attempting.{sent-errand}
use Rattle.histories.specs.RowStates.{cell_at}
use Rattle.histories.specs.Missing.{OneIsMissing}
use Rattle.histories.proofs.missing.MissingSlots.{is_filled, cells-stay, filled-there, device-stays, fitted-there}
use Rattle.histories.proofs.missing.MissingTrees.{fills, fill_of, or-either, told-mends}
use Rattle.histories.proofs.missing.MissingHosts.{IsGone, Sound, Ready, Filled, SafeSteps, SafeWork, Safe, ended-safe, left-safe, begins-safe}
use Rattle.histories.proofs.steps.SameNumbers.{same-bay, same-host, named-row}
use Rattle.histories.proofs.steps.BayRows.{bay-rows, starts-first}

other-bay : (x y : BayNo) → (x.0 == y.0) ≡ false → x.0 ≡ y.0 → ⊥
other-bay x y e same = absurd (grind (arith, nat_tests))

abbrev pub gone_as : BayNo → Bool → Option Gone
gone_as bay fitted = Some (record { bay = bay; fitted = fitted })

abbrev pub errand_for : BayNo → Request → Errand
errand_for bay what = record { bay = bay; request = what }

abbrev gone_bay : Option Gone → ℕ
gone_bay None = 0
gone_bay (Some gone) = gone.bay.0

-- Steps of a host, from the slots that have a cell to those that have one after its call
module _ (script : Script) (is : IsScript script) (host : HostNo) (H K : BayNo → RowNo → Type 0) (E F : BayNo → Type 0) where
  ready-map : ((at : BayNo) (row : RowNo) → H at row → K at row) → (task : Task) (known : Option Gone) (row : ℕ) → Ready script is host H E task known row → Ready script is host K F task known row
  ready-map f (tasks.Read object first count) known row r = tt
  ready-map f (tasks.Write object first from count) known row r = tt
  ready-map f (tasks.Recover at) known row r = tt
  ready-map f (tasks.Lose bay) known row r = tt
  ready-map f (tasks.Fit bay) known row r = tt
  ready-map f (tasks.Rebuild bay) known row r = (r.0, λ x less. f bay x (r.1 x less))

  filled-map : ((at : BayNo) (row : RowNo) → H at row → K at row) → (task : Task) (row : ℕ) → Filled script is host H E task row → Filled script is host K F task row
  filled-map f (tasks.Read object first count) row r = r
  filled-map f (tasks.Write object first from count) row r = r
  filled-map f (tasks.Recover at) row r = r
  filled-map f (tasks.Lose bay) row r = r
  filled-map f (tasks.Fit bay) row r = r
  filled-map f (tasks.Rebuild bay) row r = f bay (record { 0 = row }) r

  sound-map : ((at : BayNo) (row : RowNo) → H at row → K at row) → ((at : BayNo) → F at → E at) → (p : Progress) → Sound script is host H E p → Sound script is host K F p
  sound-map f g p s = record { tasks = s.tasks; others = λ at row within below free. f at row (s.others at row within below free); lost = λ at bare. s.lost at (g at bare); row = s.row }

  steps-map : ((at : BayNo) (row : RowNo) → H at row → K at row) → (js : List Job) (known : Option Gone) (row : ℕ) (steps : Steps Finish) →
      SafeSteps script is host H E js known row steps → SafeSteps script is host K F js known row steps
  steps-map f [] known row steps h = h
  steps-map f (job ∷ jobs) known row steps h =
      record { ready = ready-map f job.task known row h.ready; filled = h.filled; here = λ e. filled-map f job.task row (h.here e); mends = h.mends }

  work-map : ((at : BayNo) (row : RowNo) → H at row → K at row) → (js : List Job) (known : Option Gone) (row : ℕ) (work : Work) →
      SafeWork script is host H E js known row work → SafeWork script is host K F js known row work
  work-map f js known row (Trying steps) h = steps-map f js known row steps h
  work-map f js known row (Losing bay) h = h
  work-map f js known row (Fitting bay) h = h
  work-map f js known row Over h = h

  safe-map : ((at : BayNo) (row : RowNo) → H at row → K at row) → ((at : BayNo) → F at → E at) → (p : Progress) → Safe script is host H E p → Safe script is host K F p
  safe-map f g p s = record { sound = sound-map f g p s.sound; work = work-map f p.jobs p.gone p.row p.work s.work }

  -- what a call does to the slots
  record Moves (e : Errand) (r : Reply) : Type 0 where
    stay : is_some (row_of e.request) ≡ true → (at : BayNo) (row : RowNo) → H at row → K at row
    apart : (at : BayNo) (row : RowNo) → (e.bay.0 ≡ at.0 → ⊥) → H at row → K at row
    filled : (at : BayNo) (row : RowNo) → row.0 < script.rows → fills at row e r ≡ true → K at row
    as_before : is_some (row_of e.request) ≡ true → (at : BayNo) → F at → E at
    elsewhere : (at : BayNo) → (e.bay.0 ≡ at.0 → ⊥) → F at → E at
    fitted : e.request ≡ Fit → F e.bay → ⊥

  fill-here : (e : Errand) (r : Reply) → Moves e r → (task : Task) (row : ℕ) → row < script.rows → fill_of task row e r ≡ true → Filled script is host K F task row
  fill-here e r m (tasks.Read object first count) row below h = absurd (let bad : false ≡ true = h in cc)
  fill-here e r m (tasks.Write object first from count) row below h = absurd (let bad : false ≡ true = h in cc)
  fill-here e r m (tasks.Recover at) row below h = absurd (let bad : false ≡ true = h in cc)
  fill-here e r m (tasks.Lose bay) row below h = absurd (let bad : false ≡ true = h in cc)
  fill-here e r m (tasks.Fit bay) row below h = absurd (let bad : false ≡ true = h in cc)
  fill-here e r m (tasks.Rebuild bay) row below h = m.filled bay (record { 0 = row }) below h

  told-safe : (e : Errand) (r : Reply) → Moves e r → (js : List Job) (known : Option Gone) (row : ℕ) (seen : Number) (steps : Steps Finish) → row < script.rows → next_errand steps ≡ Some e →
      SafeSteps script is host H E js known row steps →
      (is_some (row_of e.request) ≡ true) × SafeSteps script is host K F js known row (told host (record { seen = seen; steps = steps }) r).steps
  told-safe e r m [] known row seen steps below asked h = absurd h
  told-safe e r m (job ∷ jobs) known row seen steps below asked h =
      let next = told-mends (fill_of job.task row) h.filled host seen steps e r h.mends asked in (
        next.0,
        record {
          ready = ready-map (m.stay next.0) job.task known row h.ready;
          filled = h.filled || fill_of job.task row e r;
          here = λ x. by (m.stay next.0) (or-either h.filled (fill_of job.task row e r) x);
          mends = next.1;
        },
      )
    where
      by : ((at : BayNo) (x : RowNo) → H at x → K at x) → (h.filled ≡ true) ⊎ (fill_of job.task row e r ≡ true) → Filled script is host K F job.task row
      by f (inl x) = filled-map f job.task row (h.here x)
      by f (inr x) = fill-here e r m job.task row below x

  work-safe : (p : Progress) (call : Call) (work : Work) → Sound script is host H E p → SafeWork script is host H E p.jobs p.gone p.row work → work_errand work ≡ Some (errand_of call) →
      Moves (errand_of call) call.answer.reply → Safe script is host K F (work_told script host (call_counted p call) call.answer.reply work)
  work-safe p call (Trying steps) s w asked m =
      let next = told-safe (errand_of call) call.answer.reply m p.jobs p.gone p.row p.seen steps s.row asked w in
      let t = sound-map (m.stay next.0) (m.as_before next.0) p s in
      left-safe script is host K F (record (call_counted p call) { seen = (told host (record { seen = p.seen; steps = steps }) call.answer.reply).seen })
      (record { tasks = t.tasks; others = t.others; lost = t.lost; row = t.row }) p.jobs refl
      (told host (record { seen = p.seen; steps = steps }) call.answer.reply).steps next.1
  work-safe p call (Losing bay) s w asked m =
      let same : record { bay = bay; request = Lose } ≡ errand_of call = cc in
      let place : bay ≡ call.bay = ap (λ (e : Errand). e.bay) same in
      ended-safe script is host K F (record (call_counted p call) { gone = Some (record { bay = bay; fitted = false }) }) job_ends.Lost []
      (record {
        tasks = s.tasks;
        others = λ at row within below free.
            m.apart at row (λ at_bay. free (ap (λ (b : BayNo). b.0) place ∙ at_bay)) (s.others at row within below (λ g. subst (IsGone at) w.1 g));
        lost = λ at bare. loses at (bay.0 == at.0) refl bare;
        row = s.row;
      })
    where
      loses : (at : BayNo) (b : Bool) → (bay.0 == at.0) ≡ b → F at → gone_as bay false ≡ gone_as at false
      loses at true e bare = ap (λ (b : BayNo). gone_as b false) (same-bay bay at e)
      loses at false e bare =
          let placed : errand_for bay Lose ≡ errand_of call = cc in
          let clash : None ≡ gone_as at false = sym w.1 ∙ s.lost at (m.elsewhere at (λ at_bay. other-bay bay at e (ap (λ (x : Errand). x.bay.0) placed ∙ at_bay)) bare) in
          absurd (cc)
  work-safe p call (Fitting bay) s w asked m =
      let same : record { bay = bay; request = Fit } ≡ errand_of call = cc in
      let place : bay ≡ call.bay = ap (λ (e : Errand). e.bay) same in
      ended-safe script is host K F (record (call_counted p call) { gone = Some (record { bay = bay; fitted = true }) }) job_ends.Fitted []
      (record {
        tasks = s.tasks;
        others = λ at row within below free.
            m.apart at row (λ at_bay. free (ap (λ (b : BayNo). b.0) place ∙ at_bay)) (s.others at row within below (λ g. free (subst (IsGone at) w.1 g)));
        lost = λ at bare. absurd (fits at (bay.0 == at.0) refl bare);
        row = s.row;
      })
    where
      placed : errand_for bay Fit ≡ errand_of call
      placed = cc

      fits : (at : BayNo) (b : Bool) → (bay.0 == at.0) ≡ b → F at → ⊥
      fits at true e bare =
          m.fitted (ap (λ (x : Errand). x.request) (sym placed)) (subst F (sym (same-bay bay at e) ∙ ap (λ (x : Errand). x.bay) placed) bare)
      fits at false e bare =
          let known : gone_as bay false ≡ gone_as at false =
          sym w.1 ∙ s.lost at (m.elsewhere at (λ at_bay. other-bay bay at e (ap (λ (x : Errand). x.bay.0) placed ∙ at_bay)) bare) in
          other-bay bay at e (ap (λ (o : Option Gone). gone_bay o) known)
  work-safe p call Over s w asked m = absurd (cc)

  -- a host that is not the operator asks for rows alone
  pub asks-rows : (js : List Job) (known : Option Gone) (row : ℕ) (work : Work) (e : Errand) (r : Reply) → (host.0 ≡ 0 → ⊥) → SafeWork script is host H E js known row work → work_errand work ≡ Some e →
      is_some (row_of e.request) ≡ true
  asks-rows [] known row (Trying steps) e r other w asked = absurd w
  asks-rows (job ∷ jobs) known row (Trying steps) e r other w asked = (told-mends (fill_of job.task row) w.filled host (number 0) steps e r w.mends asked).0
  asks-rows js known row (Losing bay) e r other w asked = absurd (other w.0)
  asks-rows js known row (Fitting bay) e r other w asked = absurd (other w.0)
  asks-rows js known row Over e r other w asked = absurd (cc)

module _ (script : Script) (is : IsScript script) where
  -- the slot has a cell
  abbrev pub Here : List Call → BayNo → RowNo → Type 0
  Here history at row = is_some (cell_at script history row at) ≡ true

  abbrev Any : BayNo → RowNo → Type 0
  Any at row = Unit {0}

  -- the bay has no device
  abbrev pub Empty : List Call → BayNo → Type 0
  Empty history at = (bay_at script at history).empty ≡ true

  abbrev Never : BayNo → Type 0
  Never at = ⊥

  starts-here : (at : BayNo) (row : RowNo) → row.0 < script.rows → Here [] at row
  starts-here at row below = ap (λ (s : Slot). is_some s.cell) (starts-first script at row below)

  module _ (earlier : List Call) (call : Call) (next : IsNext script earlier call) where
    stays : is_some (row_of call.ask.what) ≡ true → (at : BayNo) (row : RowNo) → Here earlier at row → Here (call ∷ earlier) at row
    stays rowed at row there = by (call.bay.0 == at.0)
      where
        by : (b : Bool) → is_some (slot_of (if_ruled (bay_at script at earlier) call b) row).cell ≡ true
        by true = cells-stay (bay_at script at earlier) call.ask (is_fault call.answer.reply) call.ask.what row rowed there
        by false = there

    elsewhere : (at : BayNo) (row : RowNo) → (call.bay.0 ≡ at.0 → ⊥) → Here earlier at row → Here (call ∷ earlier) at row
    elsewhere at row apart there = by (call.bay.0 == at.0) refl
      where
        by : (b : Bool) → (call.bay.0 == at.0) ≡ b → is_some (slot_of (if_ruled (bay_at script at earlier) call b) row).cell ≡ true
        by true e = let same : call.bay.0 ≡ at.0 = grind (arith, nat_tests) in absurd (apart same)
        by false e = there

    pub reply-is : call.answer.reply ≡ (rule (bay_at script call.bay earlier) call.ask (is_fault call.answer.reply)).reply
    reply-is = ap (λ (c : Call). c.answer.reply) next.replied

    now-filled : (at : BayNo) (row : RowNo) → row.0 < script.rows → fills at row (errand_of call) call.answer.reply ≡ true → Here (call ∷ earlier) at row
    now-filled at row below h = by (call.bay.0 == at.0) refl
      where
        first : (is_at call.bay at ≡ true) × ((is_row row (row_of call.ask.what) && is_filled call.ask.what call.answer.reply) ≡ true)
        first = and_parts (is_at call.bay at) (is_row row (row_of call.ask.what) && is_filled call.ask.what call.answer.reply) h

        second : (is_row row (row_of call.ask.what) ≡ true) × (is_filled call.ask.what call.answer.reply ≡ true)
        second = and_parts (is_row row (row_of call.ask.what)) (is_filled call.ask.what call.answer.reply) first.1

        by : (b : Bool) → (call.bay.0 == at.0) ≡ b → is_some (slot_of (if_ruled (bay_at script at earlier) call b) row).cell ≡ true
        by true e =
            let rows = bay-rows script at earlier in
            let same : call.answer.reply ≡ (rule (bay_at script at earlier) call.ask (is_fault call.answer.reply)).reply =
            subst (λ (b : BayNo). call.answer.reply ≡ (rule (bay_at script b earlier) call.ask (is_fault call.answer.reply)).reply) (same-bay call.bay at e) reply-is in
            filled-there (bay_at script at earlier) call.ask (is_fault call.answer.reply) call.ask.what row (named-row row (row_of call.ask.what) second.0)
            (omega (arith, below, rows)) (ap (λ (r : Reply). is_filled call.ask.what r) (sym same) ∙ second.1)
        by false e = absurd (let bad : false ≡ true = sym e ∙ first.0 in cc)

    -- devices go by Lose and come by Fit alone
    bare-before : is_some (row_of call.ask.what) ≡ true → (at : BayNo) → Empty (call ∷ earlier) at → Empty earlier at
    bare-before rowed at bare = by (call.bay.0 == at.0) bare
      where
        by : (b : Bool) → (if_ruled (bay_at script at earlier) call b).empty ≡ true → (bay_at script at earlier).empty ≡ true
        by true h = sym (device-stays (bay_at script at earlier) call.ask (is_fault call.answer.reply) call.ask.what rowed) ∙ h
        by false h = h

    bare-elsewhere : (at : BayNo) → (call.bay.0 ≡ at.0 → ⊥) → Empty (call ∷ earlier) at → Empty earlier at
    bare-elsewhere at apart bare = by (call.bay.0 == at.0) refl bare
      where
        by : (b : Bool) → (call.bay.0 == at.0) ≡ b → (if_ruled (bay_at script at earlier) call b).empty ≡ true → (bay_at script at earlier).empty ≡ true
        by true e h = let same : call.bay.0 ≡ at.0 = grind (arith, nat_tests) in absurd (apart same)
        by false e h = h

    now-fitted : call.ask.what ≡ Fit → Empty (call ∷ earlier) call.bay → ⊥
    now-fitted what bare = by (call.bay.0 == call.bay.0) refl bare
      where
        by : (b : Bool) → (call.bay.0 == call.bay.0) ≡ b → (if_ruled (bay_at script call.bay earlier) call b).empty ≡ true → ⊥
        by true e h =
            let out : (rule_of (bay_at script call.bay earlier) call.ask (is_fault call.answer.reply) Fit).bay.empty ≡ true =
            subst (λ (w : Request). (rule_of (bay_at script call.bay earlier) call.ask (is_fault call.answer.reply) w).bay.empty ≡ true) what h in
            fitted-there (bay_at script call.bay earlier) (bay_at script call.bay earlier).empty refl out
        by false e h = absurd (grind (arith, nat_tests))

    moves-here : (host : HostNo) → Moves script is host (Here earlier) (Here (call ∷ earlier)) (Empty earlier) (Empty (call ∷ earlier)) (errand_of call) call.answer.reply
    moves-here host = record { stay = stays; apart = elsewhere; filled = now-filled; as_before = bare-before; elsewhere = bare-elsewhere; fitted = now-fitted }

    asked-errand : work_errand (progress_at script call.ask.host earlier).work ≡ Some (errand_of call)
    asked-errand =
        sent-errand call.ask.host (progress_at script call.ask.host earlier).clock call.ask.moment (work_errand (progress_at script call.ask.host earlier).work) call.bay call.ask next.asked

    pub own-errand : (host : HostNo) → (call.ask.host.0 == host.0) ≡ true → work_errand (progress_at script host earlier).work ≡ Some (errand_of call)
    own-errand host own = subst (λ (x : HostNo). work_errand (progress_at script x earlier).work ≡ Some (errand_of call)) (same-host call.ask.host host own) asked-errand

    -- every host goes on
    host-next : (host : HostNo) → Safe script is host Any Never (progress_at script host earlier) → Safe script is host Any Never (progress_at script host (call ∷ earlier))
    host-next host s = by (call.ask.host.0 == host.0) refl
      where
        by : (b : Bool) → (call.ask.host.0 == host.0) ≡ b → Safe script is host Any Never (if_taken script host (progress_at script host earlier) call b)
        by true own =
            work-safe script is host Any Any Never Never (progress_at script host earlier) call (progress_at script host earlier).work s.sound s.work (own-errand host own)
            (record {
              stay = λ rowed at row x. tt;
              apart = λ at row apart x. tt;
              filled = λ at row below x. tt;
              as_before = λ rowed at x. x;
              elsewhere = λ at apart x. x;
              fitted = λ what x. x;
            })
        by false own = s

    -- and so does the operator
    operator-next : (host : HostNo) → host.0 ≡ 0 → Safe script is call.ask.host Any Never (progress_at script call.ask.host earlier) →
        Safe script is host (Here earlier) (Empty earlier) (progress_at script host earlier) → Safe script is host (Here (call ∷ earlier)) (Empty (call ∷ earlier)) (progress_at script host (call ∷ earlier))
    operator-next host operator asker s = by (call.ask.host.0 == host.0) refl
      where
        by : (b : Bool) → (call.ask.host.0 == host.0) ≡ b → Safe script is host (Here (call ∷ earlier)) (Empty (call ∷ earlier)) (if_taken script host (progress_at script host earlier) call b)
        by true own =
            work-safe script is host (Here earlier) (Here (call ∷ earlier)) (Empty earlier) (Empty (call ∷ earlier)) (progress_at script host earlier) call (progress_at script host earlier).work s.sound s.work (own-errand host own)
            (moves-here host)
        by false own =
            let p : Progress = progress_at script call.ask.host earlier in
            let other : (call.ask.host.0 ≡ 0) → ⊥ = λ same. absurd (grind (arith, nat_tests)) in
            let rowed = asks-rows script is call.ask.host Any Any Never Never p.jobs p.gone p.row p.work (errand_of call) call.answer.reply other asker.work asked-errand in
            safe-map script is host (Here earlier) (Here (call ∷ earlier)) (Empty earlier) (Empty (call ∷ earlier)) (stays rowed) (bare-before rowed) (progress_at script host earlier) s

  pub every-host : (history : List Call) → IsHistory script history → (host : HostNo) → Safe script is host Any Never (progress_at script host history)
  every-host [] h host = begins-safe script is host Any Never (λ at row within below. tt) (λ at x. x)
  every-host (call ∷ earlier) h host = host-next earlier call h.1 host (every-host earlier h.0 host)

  pub operator-safe : (history : List Call) → IsHistory script history → (host : HostNo) → host.0 ≡ 0 → Safe script is host (Here history) (Empty history) (progress_at script host history)
  operator-safe [] h host operator = begins-safe script is host (Here []) (Empty []) (λ at row within below. starts-here at row below) (λ at x. (let bad : false ≡ true = x in cc))
  operator-safe (call ∷ earlier) h host operator =
      operator-next earlier call h.1 host operator (every-host earlier h.0 call.ask.host) (operator-safe earlier h.0 host operator)

-- a bay with a missing slot is the one that is gone
gone-at : (at : BayNo) (known : Option Gone) → ((IsGone at known → ⊥) → ⊥) → IsGone at known
gone-at at None h = h (λ g. g)
gone-at at (Some known) h = by (known.bay.0 == at.0) refl
  where
    by : (b : Bool) → (known.bay.0 == at.0) ≡ b → known.bay.0 ≡ at.0
    by true e = grind (arith, nat_tests)
    by false e = absurd (h (λ same. absurd (grind (arith, nat_tests))))

same-gone : (x y : BayNo) (known : Option Gone) → IsGone x known → IsGone y known → x ≡ y
same-gone x y None g h = absurd g
same-gone x y (Some known) g h = ap (λ (k : ℕ). record { 0 = k }) (sym g ∙ h)

pub one_bay_is_missing : OneIsMissing
one_bay_is_missing script history is h x y within_x within_y missing_x missing_y =
    let operator : HostNo = record { 0 = 0 } in
    let p : Progress = progress_at script operator history in
    let s = (operator-safe script is history h operator refl).sound in
    same-gone x y p.gone
    (gone-at x p.gone (λ free. let bad : true ≡ false = sym (s.others x missing_x.0 within_x missing_x.1 free) ∙ missing_x.2 in absurd (cc)))
    (gone-at y p.gone (λ free. let bad : true ≡ false = sym (s.others y missing_y.0 within_y missing_y.1 free) ∙ missing_y.2 in absurd (cc)))
