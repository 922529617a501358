-- Along every history of a calm script in which no bay has answered Fault each host stays calm, and each slot has a cell.
-- So nothing is left in the slots at the end.
use Rattle.std.proofs.Common.{◌≡◌, ◌⊎◌, inl, inr, refl, sym, ap, subst, ◌∙◌, ℕ, ◌+◌, ◌-◌, ◌<◌, ◌==◌, ◌&&◌, ◌||◌, Bool, true, false, List, [], ◌∷◌, map, find, cond, length, Option, Some, None, IsSome, is_some, option_map, arith, zero, suc}
use Rattle.std.specs.Prelude.{IfSome, slice_get}
use Rattle.std.specs.List.{AllByRecursion, list_any, list_all, range_with_len}
use Rattle.std.proofs.lemmas.Bool.Decides.{nat_tests}
use Rattle.std.proofs.lemmas.List.{get_or-set_same, get_or-set_other}
use Rattle.std.proofs.lemmas.Option.{slice_get-map}
use Rattle.raid_base.specs.declared.numbers.BayNo.{BayNo}
use Rattle.raid_base.specs.declared.numbers.HostNo.{HostNo}
use Rattle.raid_base.specs.declared.numbers.RowNo.{RowNo}
use Rattle.raid_base.specs.declared.numbers.Number.{Number}
use Rattle.raid_base.specs.declared.cells.Cell.{Cell}
use Rattle.raid_base.specs.declared.cells.Shown.TheVariants.{Hidden}
use Rattle.raid_base.specs.declared.messages.Ask.{Ask}
use Rattle.raid_base.specs.declared.messages.Call.{Call}
use Rattle.raid_base.specs.declared.messages.How.TheVariants.{Plain, Seize}
use Rattle.raid_base.specs.declared.messages.Note.{Note}
use Rattle.raid_base.specs.declared.messages.Reply.{Reply}
use Rattle.raid_base.specs.declared.messages.Reply.TheVariants as replies
use Rattle.raid_base.specs.declared.messages.Request.{Request}
use Rattle.raid_base.specs.declared.messages.Request.TheVariants.{Share, Claim, Confirm, Put, Release, Lose, Fit}
use Rattle.raid_base.specs.declared.jobs.Cause.{Cause}
use Rattle.raid_base.specs.declared.jobs.Cause.TheVariants as causes
use Rattle.raid_base.specs.declared.jobs.Job.{Job}
use Rattle.raid_base.specs.declared.jobs.JobEnd.{JobEnd}
use Rattle.raid_base.specs.declared.jobs.JobEnd.TheVariants as job_ends
use Rattle.raid_base.specs.Numbers.{number}
use Rattle.raid_base.specs.Replies.{is_fault, grant_of}
use Rattle.raid_base.specs.Steps.{errand_of}
use Rattle.stripe_layout.specs.Placement.{bay_of, units, row_bays}
use Rattle.degraded_plans.specs.Rows.{RowCells, shown_cell}
use Rattle.slot_rules.specs.Slots.{Slot, Bay, bare_slot, slot_of}
use Rattle.slot_rules.specs.Rules.{SlotOutcome, Outcome, with_slot, rule}
use Rattle.slot_rules.specs.Serving.{row_of, slot_rule}
use Rattle.slot_rules.proofs.TableParts.{rule_of-row}
use Rattle.attempts.specs.Discipline.{IsWithin}
use Rattle.script_text.specs.Script.{Script, HostJobs, jobs_in, jobs_of}
use Rattle.script_text.specs.Ranges.{IsScript, IsTask}
use Rattle.histories.specs.Calls.{Happened}
use Rattle.histories.specs.Causes.{MeetsCause}
use Rattle.histories.specs.Leftovers.{IsQuit, IsSeizure}
use Rattle.histories.specs.Progress.{Work, Trying, Losing, Fitting, Over, Progress, Ending, work_errand, is_over, sent_by}
use Rattle.histories.specs.History.{IsHistory, IsNext, progress_at, if_taken, bay_at, if_ruled, endings_at, has_ended}
use Rattle.histories.specs.RowStates.{slot_at, cell_at, row_cells, is_open, shown_at}
use Rattle.histories.specs.Turns.{all_ended}
use Rattle.histories.proofs.bounds.AskedRows.{asked-row}
use Rattle.histories.proofs.bounds.BoundsTakes.{before_start, asks-within}
use Rattle.histories.proofs.bounds.BoundsHistory.{requests_are_bounded}
use Rattle.histories.proofs.causes.HostCauses.{causes_are_met}
use Rattle.histories.proofs.missing.MissingBays.{reply-is, own-errand}
use Rattle.histories.proofs.missing.MissingSlots.{cells-stay}
use Rattle.histories.proofs.smallness.SmallHistory.{few-or-idle, Idle, idle-history, are-asked}
use Rattle.histories.proofs.steps.BayRows.{bay-rows, starts-first}
use Rattle.histories.proofs.steps.HostTasks.{host-tasks}
use Rattle.histories.proofs.steps.SameNumbers.{same-bay, same-host}
use Rattle.attempt_laws.specs.Lone.{AreFaultless}
use Rattle.attempt_laws.specs.Calm.{IsCalmJob, IsCalm, CalmPlaysClose}
use Rattle.attempt_laws.proofs.leftovers.LeftHosts.{MayLeave, HasLeft, Covered, SafeWork}
use Rattle.attempt_laws.proofs.leftovers.LeftBays.{N, R, S, host-safe}
use Rattle.attempt_laws.proofs.calm.CalmSlots.{IsNoted, Spares, note-stays, claim-notes, put-is-done}
use Rattle.attempt_laws.proofs.calm.CalmHosts.{IsWhole, EndsWhole, Tame, IsFine, Calm, start-calm, asks-tame, Moves, calm-be, work-calm}

-- One request at a bay
module _ (b : Bay) (ask : Ask) (fails : Bool) (there : RowNo) (asked : row_of ask.what ≡ Some there) where
  abbrev pub outcome : SlotOutcome
  outcome = slot_rule b (slot_of b there) ask fails ask.what

  ruled : rule b ask fails ≡ with_slot b there (slot_of b there) outcome
  ruled = rule_of-row b ask fails ask.what there asked

  pub replied-there : (rule b ask fails).reply ≡ outcome.reply
  replied-there = ap (λ (o : Outcome). o.reply) ruled

  others-stay : (row : RowNo) → (there.0 == row.0) ≡ false → slot_of (rule b ask fails).bay row ≡ slot_of b row
  others-stay row e =
      ap (λ (o : Outcome). slot_of o.bay row) ruled ∙ get_or-set_other b.slots there.0 row.0 outcome.slot (bare_slot (number 0)) (λ same. absurd (grind (arith, nat_tests)))

  pub slot-there : there.0 < length b.slots → slot_of (rule b ask fails).bay there ≡ outcome.slot
  slot-there within = ap (λ (o : Outcome). slot_of o.bay there) ruled ∙ get_or-set_same b.slots there.0 outcome.slot (bare_slot (number 0)) within

-- Jobs
calm-jobs : (host : HostNo) (hosts : List HostJobs) → AllByRecursion (λ (h : HostJobs). AllByRecursion IsCalmJob h.jobs) hosts → AllByRecursion IsCalmJob (jobs_in (find (λ (h : HostJobs). h.host.0 == host.0) hosts))
calm-jobs host [] h = tt
calm-jobs host (first ∷ hosts) h = by (first.host.0 == host.0) (calm-jobs host hosts h.1)
  where
    by : (b : Bool) → AllByRecursion IsCalmJob (jobs_in (find (λ (x : HostJobs). x.host.0 == host.0) hosts)) →
        AllByRecursion IsCalmJob (jobs_in (cond b (Some first) (find (λ (x : HostJobs). x.host.0 == host.0) hosts)))
    by true rest = h.0
    by false rest = rest

-- a calm request is of a row
tame-row : (host : HostNo) (what : Request) → Tame host what → (there : RowNo) × (row_of what ≡ Some there)
tame-row host (Share row by want) t = (row, refl)
tame-row host (Claim row by how mask want) t = (row, refl)
tame-row host (Confirm row by want) t = (row, refl)
tame-row host (Put row by n cell) t = (row, refl)
tame-row host (Release row by n) t = (row, refl)
tame-row host Lose t = absurd t
tame-row host Fit t = absurd t

-- a list of numbers, and the unit that is shown
range-get : (a n k : ℕ) → k < n → slice_get (range_with_len a n) k ≡ Some (a + k)
range-get a zero k less = absurd (omega (arith, less))
range-get a (suc n) zero less = let same : a ≡ a + 0 = omega arith in ap (λ (x : ℕ). Some x) same
range-get a (suc n) (suc k) less = let same : a + 1 + k ≡ a + suc k = omega arith in range-get (a + 1) n k (omega (arith, less)) ∙ ap (λ (x : ℕ). Some x) same

shows : (open_row : Bool) (cells : RowCells) (unit : ℕ) (o : Option Cell) → is_some o ≡ true → shown_cell open_row cells unit (Some o) ≡ Hidden → ⊥
shows open_row cells unit (Some cell) there e = cc
shows open_row cells unit None there e = cc

not-seize : Seize ≡ Plain → ⊥
not-seize e = cc

idle-asks : (host : HostNo) (clock moment : ℕ) (work : Work) → work ≡ Over → {sent : _} → sent_by host clock moment (work_errand work) ≡ Some sent → ⊥
idle-asks host clock moment work over {sent} f =
    let bad : sent_by host clock moment None ≡ Some sent = ap (λ (w : Work). sent_by host clock moment (work_errand w)) (sym over) ∙ f in cc

module _ (script : Script) (is : IsScript script) (calm : IsCalm script) where
  abbrev slots : List Call → BayNo → RowNo → Slot
  slots history at row = slot_at script history at row

  record AllCalm (history : List Call) : Type 0 where
    hosts : (host : HostNo) (few : host.0 < 16) → Calm script is host few (slots history) (progress_at script host history)
    cells : (at : BayNo) (row : RowNo) → row.0 < script.rows → is_some (slots history at row).cell ≡ true
    unseized : (host : HostNo) (x : Number) → Happened (IsSeizure host x) history → ⊥

  fine-jobs : (host : HostNo) (few : host.0 < 16) (jobs : List Job) → AllByRecursion IsCalmJob jobs → AllByRecursion (λ (job : Job). IsTask script host job.task) jobs → AllByRecursion (IsFine script is host few) jobs
  fine-jobs host few [] h g = tt
  fine-jobs host few (job ∷ jobs) h g = ((h.0, g.0), fine-jobs host few jobs h.1 g.1)

  first-calm : AllCalm []
  first-calm = record {
    hosts = λ host few. start-calm script is host few (slots []) (jobs_of script host) (before_start script host) refl
        (record { jobs = fine-jobs host few (jobs_of script host) (calm-jobs host script.hosts calm) (host-tasks script is host); gone = refl; whole = tt });
    cells = λ at row below. subst (λ (s : Slot). is_some s.cell ≡ true) (sym (starts-first script at row below)) refl;
    unseized = λ host x h. h;
  }

  -- one call
  module _ (earlier : List Call) (call : Call) (h : IsHistory script earlier) (next : IsNext script earlier call) (works : is_fault call.answer.reply ≡ false) (a : AllCalm earlier) where
    few-caller : call.ask.host.0 < 16
    few-caller = by (few-or-idle 0 call.ask.host script.hosts is.hosts)
      where
        by : (call.ask.host.0 < 16) ⊎ (jobs_of script call.ask.host ≡ []) → call.ask.host.0 < 16
        by (inl few) = few
        by (inr none) =
            let idle : Idle (progress_at script call.ask.host earlier) = idle-history script call.ask.host earlier none in
            absurd (idle-asks call.ask.host (progress_at script call.ask.host earlier).clock call.ask.moment (progress_at script call.ask.host earlier).work idle.work next.asked)

    own-call : (call.ask.host.0 == call.ask.host.0) ≡ true
    own-call = grind (arith, nat_tests)

    tame : Tame call.ask.host call.ask.what
    tame =
        asks-tame script is call.ask.host few-caller (slots earlier) (progress_at script call.ask.host earlier).jobs (progress_at script call.ask.host earlier).work (errand_of call)
        (a.hosts call.ask.host few-caller).work (own-errand script is earlier call next call.ask.host own-call)

    row : (there : RowNo) × (row_of call.ask.what ≡ Some there)
    row = tame-row call.ask.host call.ask.what tame

    abbrev there : RowNo
    there = row.0

    within : IsWithin script.n script.rows (record { bay = call.bay; request = call.ask.what })
    within =
        asks-within script call.ask.host (progress_at script call.ask.host earlier) _ _ call.ask.moment (record { bay = call.bay; ask = call.ask })
        ((requests_are_bounded script earlier (record { ranges = is }) (are-asked script is earlier h)).keeps call.ask.host) next.asked

    below-there : (r : RowNo) → row_of call.ask.what ≡ Some r → r.0 < script.rows
    below-there r e = subst (λ (o : Option RowNo). IfSome o (λ (x : RowNo). x.0 < script.rows)) e (asked-row script.rows call.ask.what within.request)

    abbrev fails : Bool
    fails = is_fault call.answer.reply

    abbrev Served : BayNo → RowNo → Slot
    Served at r = (slot_rule (bay_at script at earlier) (slots earlier at r) call.ask fails call.ask.what).slot

    replied : call.answer.reply ≡ (slot_rule (bay_at script call.bay earlier) (slots earlier call.bay there) call.ask fails call.ask.what).reply
    replied = reply-is script is earlier call next ∙ replied-there (bay_at script call.bay earlier) call.ask fails there row.1

    replied-at : (r : RowNo) → row_of call.ask.what ≡ Some r → call.answer.reply ≡ (slot_rule (bay_at script call.bay earlier) (slots earlier call.bay r) call.ask fails call.ask.what).reply
    replied-at r e = reply-is script is earlier call next ∙ replied-there (bay_at script call.bay earlier) call.ask fails r e

    inside : (at : BayNo) (r : RowNo) → r.0 < script.rows → r.0 < length (bay_at script at earlier).slots
    inside at r low = let rows = bay-rows script at earlier in omega (arith, low, rows)

    -- what becomes of a slot
    moved : (at : BayNo) (r : RowNo) → r.0 < script.rows → ((call.bay ≡ at) × (row_of call.ask.what ≡ Some r) × (slots (call ∷ earlier) at r ≡ Served at r)) ⊎ (slots (call ∷ earlier) at r ≡ slots earlier at r)
    moved at r low = by (call.bay.0 == at.0) (there.0 == r.0) refl refl
      where
        by : (x y : Bool) → (call.bay.0 == at.0) ≡ x → (there.0 == r.0) ≡ y →
            ((call.bay ≡ at) × (row_of call.ask.what ≡ Some r) × (slot_of (if_ruled (bay_at script at earlier) call x) r ≡ Served at r)) ⊎ (slot_of (if_ruled (bay_at script at earlier) call x) r ≡ slots earlier at r)
        by false y e f = inr refl
        by true false e f = inr (others-stay (bay_at script at earlier) call.ask fails there row.1 r f)
        by true true e f =
            let same : there.0 ≡ r.0 = grind (arith, nat_tests) in
            let own : there ≡ r = ap (λ (k : ℕ). let z : RowNo = record { 0 = k } in z) same in
            let asked : row_of call.ask.what ≡ Some r = row.1 ∙ ap (λ (z : RowNo). Some z) own in
            inl (same-bay call.bay at e, asked, slot-there (bay_at script at earlier) call.ask fails r asked (inside at r low))

    moves : Moves script is call.ask.host few-caller (slots earlier) (slots (call ∷ earlier)) call
    moves = record {
      below = below-there;
      done = λ r id n cell what noted. put-done r id n cell what noted;
      kept = λ id at r low spares noted. kept-by id at r spares noted (moved at r low);
      claimed = λ r id mask want low what some. claimed-at r id mask want low what some;
    }
      where
        put-done : (r : RowNo) (id n : Number) (cell : Cell) → call.ask.what ≡ Put r id n cell → IsNoted id (slots earlier call.bay r) → call.answer.reply ≡ replies.Done
        put-done r id n cell what noted =
            let asked : row_of call.ask.what ≡ Some r = ap (λ (w : Request). row_of w) what in
            let same : call.answer.reply ≡ (slot_rule (bay_at script call.bay earlier) (slots earlier call.bay r) call.ask fails (Put r id n cell)).reply =
            replied-at r asked ∙ ap (λ (w : Request). (slot_rule (bay_at script call.bay earlier) (slots earlier call.bay r) call.ask fails w).reply) what in
            same ∙ put-is-done (bay_at script call.bay earlier) (slots earlier call.bay r) call.ask fails r id n cell noted (ap is_fault (sym same) ∙ works)

        kept-by : (id : Number) (at : BayNo) (r : RowNo) → (call.bay ≡ at → row_of call.ask.what ≡ Some r → Spares id call.ask.what) → IsNoted id (slots earlier at r) →
            ((call.bay ≡ at) × (row_of call.ask.what ≡ Some r) × (slots (call ∷ earlier) at r ≡ Served at r)) ⊎ (slots (call ∷ earlier) at r ≡ slots earlier at r) → IsNoted id (slots (call ∷ earlier) at r)
        kept-by id at r spares noted (inl m) =
            subst (λ (s : Slot). IsNoted id s) (sym m.2) (note-stays (bay_at script at earlier) (slots earlier at r) call.ask fails id call.ask.what (spares m.0 m.1) noted)
        kept-by id at r spares noted (inr e) = subst (λ (s : Slot). IsNoted id s) (sym e) noted

        claimed-at : (r : RowNo) (id : Number) (mask : ℕ) (want : Bool) → r.0 < script.rows → call.ask.what ≡ Claim r id Plain mask want → IsSome (grant_of call.answer.reply) → IsNoted id (slots (call ∷ earlier) call.bay r)
        claimed-at r id mask want low what some =
            let asked : row_of call.ask.what ≡ Some r = ap (λ (w : Request). row_of w) what in
            let now : slots (call ∷ earlier) call.bay r ≡ Served call.bay r = here in
            subst (λ (s : Slot). IsNoted id s) (sym (now ∙ ap (λ (w : Request). (slot_rule (bay_at script call.bay earlier) (slots earlier call.bay r) call.ask fails w).slot) what))
            (claim-notes (bay_at script call.bay earlier) (slots earlier call.bay r) call.ask fails r id mask want
            (subst (λ (x : Reply). IsSome (grant_of x)) (replied-at r asked ∙ ap (λ (w : Request). (slot_rule (bay_at script call.bay earlier) (slots earlier call.bay r) call.ask fails w).reply) what) some))
          where
            here : slots (call ∷ earlier) call.bay r ≡ Served call.bay r
            here = subst (λ (b : Bool). slot_of (if_ruled (bay_at script call.bay earlier) call b) r ≡ Served call.bay r) (sym same-own)
                (slot-there (bay_at script call.bay earlier) call.ask fails r (ap (λ (w : Request). row_of w) what) (inside call.bay r low))
              where
                same-own : (call.bay.0 == call.bay.0) ≡ true
                same-own = grind (arith, nat_tests)

    host-next : (host : HostNo) (few : host.0 < 16) → Calm script is host few (slots (call ∷ earlier)) (progress_at script host (call ∷ earlier))
    host-next host few = by (call.ask.host.0 == host.0) refl
      where
        moves-any : Moves script is host few (slots earlier) (slots (call ∷ earlier)) call
        moves-any = record { below = moves.below; done = moves.done; kept = moves.kept; claimed = moves.claimed }

        by : (b : Bool) → (call.ask.host.0 == host.0) ≡ b → Calm script is host few (slots (call ∷ earlier)) (if_taken script host (progress_at script host earlier) call b)
        by true own =
            work-calm script is host few (slots earlier) (slots (call ∷ earlier)) call moves-any (progress_at script host earlier) (progress_at script host earlier).work
            (a.hosts host few).sound (a.hosts host few).work (own-errand script is earlier call next host own)
        by false own =
            calm-be script is host few (slots earlier) (slots (call ∷ earlier)) call moves-any
            (λ same. let bad : true ≡ false = sym own-call ∙ ap (λ (x : HostNo). call.ask.host.0 == x.0) same ∙ own in cc) tame (progress_at script host earlier) (a.hosts host few)

    cell-next : (at : BayNo) (r : RowNo) → r.0 < script.rows → is_some (slots (call ∷ earlier) at r).cell ≡ true
    cell-next at r low = by (call.bay.0 == at.0)
      where
        by : (b : Bool) → is_some (slot_of (if_ruled (bay_at script at earlier) call b) r).cell ≡ true
        by true = cells-stay (bay_at script at earlier) call.ask fails call.ask.what r (ap is_some row.1) (a.cells at r low)
        by false = a.cells at r low

    seize-next : (host : HostNo) (x : Number) → Happened (IsSeizure host x) (call ∷ earlier) → ⊥
    seize-next host x (inl s) = not-seize (subst (λ (w : Request). Tame call.ask.host w) s.4 tame)
    seize-next host x (inr s) = a.unseized host x s

    next-calm : AllCalm (call ∷ earlier)
    next-calm = record { hosts = host-next; cells = cell-next; unseized = seize-next }

  all-calm : (history : List Call) → IsHistory script history → AreFaultless history → AllCalm history
  all-calm [] h works = first-calm
  all-calm (call ∷ earlier) h works = next-calm earlier call h.0 h.1 works.0 (all-calm earlier h.0 works.1)

  -- Nothing is left
  no-left : (history : List Call) (host : HostNo) (x : Number) (es : List Ending) → AllByRecursion EndsWhole es → AllByRecursion (λ (e : Ending). MeetsCause script history host e e.ended) es → HasLeft script host x es → ⊥
  no-left history host x [] w m h = h
  no-left history host x (e ∷ es) w m (inr h) = no-left history host x es w.1 m.1 h
  no-left history host x (e ∷ es) w m (inl h) = by e.ended h.1 (w.0).1 m.0
    where
      quit : (tries : ℕ) (cause : Cause) → IsQuit cause → MeetsCause script history host e (job_ends.Gave tries cause) → ⊥
      quit tries causes.Quit q c = let bad : None ≡ Some e.asked = sym (w.0).0 ∙ c.0 in cc
      quit tries (causes.Busy n) q c = q
      quit tries (causes.Late n) q c = q
      quit tries (causes.Young n) q c = q
      quit tries (causes.Behind n) q c = q
      quit tries (causes.Fault n) q c = q
      quit tries (causes.Broken n k) q c = q
      quit tries (causes.Gone n) q c = q
      quit tries (causes.Changed n) q c = q
      quit tries (causes.Released n) q c = q
      quit tries (causes.Seized n) q c = q
      quit tries (causes.Spent n) q c = q

      by : (ended : JobEnd) → MayLeave script host e.job.task e.calls ended → IsWhole ended → MeetsCause script history host e ended → ⊥
      by (job_ends.Part n made cause) leave whole c = whole
      by (job_ends.Gave tries cause) leave whole c = quit tries cause leave.0 c
      by (job_ends.Read n) leave whole c = leave
      by (job_ends.Wrote n) leave whole c = leave
      by (job_ends.Recovered n closed lost) leave whole c = leave
      by job_ends.Lost leave whole c = leave
      by job_ends.Fitted leave whole c = leave
      by job_ends.Rebuilt leave whole c = leave
      by (job_ends.StillMissing bay) leave whole c = leave
      by (job_ends.NotLost bay) leave whole c = leave
      by (job_ends.NotFitted bay) leave whole c = leave
      by job_ends.NoObject leave whole c = leave
      by (job_ends.PastEnd blocks) leave whole c = leave
      by (job_ends.TooManyRows rows) leave whole c = leave

  is-over : (work : Work) → is_over work ≡ true → work ≡ Over
  is-over (Trying steps) e = cc
  is-over (Losing bay) e = cc
  is-over (Fitting bay) e = cc
  is-over Over e = refl

  module _ (history : List Call) (h : IsHistory script history) (over : all_ended script history ≡ true) (works : AreFaultless history) where
    both : (x y : Bool) → (x && y) ≡ true → (x ≡ true) × (y ≡ true)
    both true y e = (refl, e)
    both false y e = cc

    ended-in : (host : HostNo) (hosts : List HostJobs) → list_all (has_ended script history) (map (λ (x : HostJobs). x.host) hosts) ≡ true →
        (has_ended script history host ≡ true) ⊎ (jobs_in (find (λ (x : HostJobs). x.host.0 == host.0) hosts) ≡ [])
    ended-in host [] e = inr refl
    ended-in host (first ∷ hosts) e = by (first.host.0 == host.0) refl (ended-in host hosts (both (has_ended script history first.host) (list_all (has_ended script history) (map (λ (x : HostJobs). x.host) hosts)) e).1)
      where
        by : (b : Bool) → (first.host.0 == host.0) ≡ b → (has_ended script history host ≡ true) ⊎ (jobs_in (find (λ (x : HostJobs). x.host.0 == host.0) hosts) ≡ []) →
            (has_ended script history host ≡ true) ⊎ (jobs_in (cond b (Some first) (find (λ (x : HostJobs). x.host.0 == host.0) hosts)) ≡ [])
        by true own rest = inl (subst (λ (x : HostNo). has_ended script history x ≡ true) (same-host first.host host own) (both (has_ended script history first.host) (list_all (has_ended script history) (map (λ (x : HostJobs). x.host) hosts)) e).0)
        by false own rest = rest

    work-over : (host : HostNo) → (progress_at script host history).work ≡ Over
    work-over host = by (ended-in host script.hosts over)
      where
        by : (has_ended script history host ≡ true) ⊎ (jobs_of script host ≡ []) → (progress_at script host history).work ≡ Over
        by (inl e) = is-over (progress_at script host history).work e
        by (inr none) = (idle-history script host history none).work

    uncovered : (host : HostNo) (x : Number) → HasLeft script host x (endings_at script history host) → ⊥
    uncovered host x left = by (few-or-idle 0 host script.hosts is.hosts)
      where
        by : (host.0 < 16) ⊎ (jobs_of script host ≡ []) → ⊥
        by (inl few) = no-left history host x (endings_at script history host) (((all-calm history h works).hosts host few).sound).whole (causes_are_met script history is h host) left
        by (inr none) = subst (HasLeft script host x) (idle-history script host history none).endings left

    none-left : (at : BayNo) (row : RowNo) → row.0 < script.rows → (note : Note) → (slots history at row).note ≡ Some note → ⊥
    none-left at row low note f =
        let p : Progress = progress_at script note.host history in
        by p.work (work-over note.host) (host-safe script is history h note.host).work
      where
        covered : Covered script is note.host (N script is note.host history) (R script is note.host history) (S script is note.host history) (endings_at script history note.host) note.id → ⊥
        covered (inl left) = uncovered note.host note.id left
        covered (inr s) = (all-calm history h works).unseized note.host note.id s

        by : (work : Work) → work ≡ Over → SafeWork script is note.host (N script is note.host history) (R script is note.host history) (S script is note.host history)
            (progress_at script note.host history).jobs (endings_at script history note.host) (progress_at script note.host history).calls (progress_at script note.host history).seen work → ⊥
        by Over e w = covered (w.notes at row note.id (note, low, f, refl, refl))
        by (Trying steps) e w = absurd (cc)
        by (Losing bay) e w = absurd (cc)
        by (Fitting bay) e w = absurd (cc)

    unnoted : (at : BayNo) (row : RowNo) → row.0 < script.rows → is_some (slots history at row).note ≡ false
    unnoted at row low = by (slots history at row).note refl
      where
        by : (o : Option Note) → (slots history at row).note ≡ o → is_some o ≡ false
        by None e = refl
        by (Some note) e = absurd (none-left at row low note e)

    any-none : (r : RowNo) → r.0 < script.rows → (bays : List BayNo) → list_any (λ bay. is_some (slots history bay r).note) bays ≡ false
    any-none r low [] = refl
    any-none r low (bay ∷ bays) =
        subst (λ (b : Bool). (b || list_any (λ x. is_some (slots history x r).note) bays) ≡ false) (sym (unnoted bay r low)) (any-none r low bays)

    closed : (row : RowNo) → row.0 < script.rows → is_open script history row ≡ false
    closed row low = any-none row low (row_bays script.n row)

    seen : (row : RowNo) → row.0 < script.rows → (unit : ℕ) → unit + 1 < script.n → shown_at script history row unit ≡ Hidden → ⊥
    seen row low unit less hidden =
        shows (is_open script history row) (row_cells script history row) unit (cell_of (0 + unit)) ((all-calm history h works).cells (bay_of script.n row (0 + unit)) row low)
        (subst (λ (o : Option (Option Cell)). shown_cell (is_open script history row) (row_cells script history row) unit o ≡ Hidden) got hidden)
      where
        cell_of : ℕ → Option Cell
        cell_of u = cell_at script history row (bay_of script.n row u)

        got : slice_get (map (λ (u : ℕ). cell_at script history row (bay_of script.n row u)) (units script.n)) unit ≡ Some (cell_of (0 + unit))
        got = slice_get-map (λ (u : ℕ). cell_at script history row (bay_of script.n row u)) (units script.n) unit
            ∙ ap (λ (o : Option ℕ). option_map (λ (u : ℕ). cell_at script history row (bay_of script.n row u)) o) (range-get 0 (script.n - 1) unit (omega (arith, less)))

pub calm_plays_close : CalmPlaysClose
calm_plays_close script history is h over calm works row low = (closed script is calm history h over works row low, λ unit less. seen script is calm history h over works row low unit less)
