-- Along every history of one host alone, in which no bay answers Fault, no request is refused.
use Rattle.std.proofs.Common.{◌≡◌, ◌⊎◌, inl, inr, refl, sym, ap, subst, ◌∙◌, ℕ, ◌<◌, ◌≤◌, ◌^◌, ◌==◌, ◌&&◌, Bool, true, false, List, [], ◌∷◌, find, cond, length, Option, Some, None, IfSome, arith}
use Rattle.std.specs.List.{AllByRecursion}
use Rattle.std.proofs.lemmas.Bool.Decides.{nat_tests}
use Rattle.std.proofs.lemmas.List.{get_or-set_same, get_or-set_other}
use Rattle.raid_base.specs.declared.numbers.BayNo.{BayNo}
use Rattle.raid_base.specs.declared.numbers.HostNo.{HostNo}
use Rattle.raid_base.specs.declared.numbers.RowNo.{RowNo}
use Rattle.raid_base.specs.declared.numbers.Number.{Number}
use Rattle.raid_base.specs.declared.messages.Mode.{Mode}
use Rattle.raid_base.specs.declared.messages.Mode.TheVariants.{Lock, Order}
use Rattle.raid_base.specs.declared.messages.Ask.{Ask}
use Rattle.raid_base.specs.declared.messages.Call.{Call}
use Rattle.raid_base.specs.declared.jobs.Job.{Job}
use Rattle.raid_base.specs.Numbers.{number}
use Rattle.raid_base.specs.Replies.{is_fault}
use Rattle.raid_base.specs.Steps.{errand_of}
use Rattle.slot_rules.specs.Slots.{Slot, Bay, bare_slot, slot_of}
use Rattle.slot_rules.specs.Rules.{SlotOutcome, Outcome, with_slot, rule}
use Rattle.slot_rules.specs.Serving.{row_of, slot_rule}
use Rattle.slot_rules.specs.Laws.{is_refused, is_row}
use Rattle.slot_rules.proofs.TableParts.{rule_of-row}
use Rattle.attempts.specs.Discipline.{IsWithin}
use Rattle.script_text.specs.Script.{Script, HostJobs, jobs_in, jobs_of}
use Rattle.script_text.specs.Ranges.{IsScript, IsTask}
use Rattle.script_text.specs.Weights.{total}
use Rattle.histories.specs.Causes.{IsReadOrWrite}
use Rattle.histories.specs.Smallness.{HasNumbers}
use Rattle.histories.specs.Progress.{Work, Over, Progress, Ending, asks, work_errand, sent_by}
use Rattle.histories.specs.History.{IsHistory, IsNext, progress_at, if_taken, bay_at, if_ruled, endings_at}
use Rattle.histories.proofs.bounds.BoundsTakes.{before_start, asks-within}
use Rattle.histories.proofs.bounds.BoundsHistory.{requests_are_bounded}
use Rattle.histories.proofs.smallness.SmallHistory.{few-or-idle, Idle, idle-history, are-asked, numbers_stay_small}
use Rattle.histories.specs.RowStates.{slot_at}
use Rattle.attempt_laws.specs.Lone.{IsLoneJob, IsLone, AreFaultless, IsDoneAtOnce, LoneHostsAreDone}
use Rattle.histories.proofs.bounds.AskedRows.{asked-row}
use Rattle.attempt_laws.proofs.leftovers.LeftBays.{fitted}
use Rattle.histories.proofs.missing.MissingBays.{reply-is, own-errand}
use Rattle.attempt_laws.proofs.lone.LoneWalks.{Use, act_of, next, used, Fine, IsOwn, is_mine}
use Rattle.attempt_laws.proofs.lone.LoneSlots.{SlotIs, IsIdle, AreSeen, slot-serves}
use Rattle.attempt_laws.proofs.lone.LoneHosts.{IsFine, Right, StandsAlone, start-stands, asks-row, Moves, work-stands}
use Rattle.histories.proofs.steps.SameNumbers.{same-bay, same-host}
use Rattle.histories.proofs.steps.HostTasks.{host-tasks}
use Rattle.histories.proofs.steps.BayRows.{bay-rows, bay-mode, starts-first}

-- Jobs
lone-jobs : (host whose : HostNo) (jobs : List Job) → AllByRecursion (IsLoneJob host whose) jobs → (jobs ≡ []) ⊎ (whose ≡ host)
lone-jobs host whose [] h = inl refl
lone-jobs host whose (job ∷ jobs) h = inr (h.0).0

-- another host has no jobs
others-idle : (host other : HostNo) → (other ≡ host → ⊥) → (hosts : List HostJobs) → AllByRecursion (λ (h : HostJobs). AllByRecursion (IsLoneJob host h.host) h.jobs) hosts →
    jobs_in (find (λ (h : HostJobs). h.host.0 == other.0) hosts) ≡ []
others-idle host other apart [] h = refl
others-idle host other apart (first ∷ hosts) h = by (first.host.0 == other.0) refl (others-idle host other apart hosts h.1)
  where
    own : first.host ≡ other → (first.jobs ≡ []) ⊎ (first.host ≡ host) → first.jobs ≡ []
    own same (inl none) = none
    own same (inr is) = absurd (apart (sym same ∙ is))

    by : (b : Bool) → (first.host.0 == other.0) ≡ b → jobs_in (find (λ (x : HostJobs). x.host.0 == other.0) hosts) ≡ [] →
        jobs_in (cond b (Some first) (find (λ (x : HostJobs). x.host.0 == other.0) hosts)) ≡ []
    by true e rest = own (same-host first.host other e) (lone-jobs host first.host first.jobs h.0)
    by false e rest = rest

-- and the host's own only read or write, and never stop
abbrev NeverStops : Job → Type 0
NeverStops job = IsReadOrWrite job.task × (job.quit ≡ None)

plain-jobs : (host whose : HostNo) (jobs : List Job) → AllByRecursion (IsLoneJob host whose) jobs → AllByRecursion NeverStops jobs
plain-jobs host whose [] h = tt
plain-jobs host whose (job ∷ jobs) h = (((h.0).1, (h.0).2), plain-jobs host whose jobs h.1)

own-jobs : (host other : HostNo) (hosts : List HostJobs) → AllByRecursion (λ (h : HostJobs). AllByRecursion (IsLoneJob host h.host) h.jobs) hosts →
    AllByRecursion NeverStops (jobs_in (find (λ (h : HostJobs). h.host.0 == other.0) hosts))
own-jobs host other [] h = tt
own-jobs host other (first ∷ hosts) h = by (first.host.0 == other.0) (own-jobs host other hosts h.1)
  where
    by : (b : Bool) → AllByRecursion NeverStops (jobs_in (find (λ (x : HostJobs). x.host.0 == other.0) hosts)) →
        AllByRecursion NeverStops (jobs_in (cond b (Some first) (find (λ (x : HostJobs). x.host.0 == other.0) hosts)))
    by true rest = plain-jobs host first.host first.jobs h.0
    by false rest = rest

-- One request at a bay
module _ (b : Bay) (ask : Ask) (fails : Bool) (there : RowNo) (asked : row_of ask.what ≡ Some there) where
  abbrev outcome : SlotOutcome
  outcome = slot_rule b (slot_of b there) ask fails ask.what

  ruled : rule b ask fails ≡ with_slot b there (slot_of b there) outcome
  ruled = rule_of-row b ask fails ask.what there asked

  device-stays : b.empty ≡ false → (rule b ask fails).bay.empty ≡ false
  device-stays e = ap (λ (o : Outcome). o.bay.empty) ruled ∙ e

  others-stay : (row : RowNo) → (there.0 == row.0) ≡ false → slot_of (rule b ask fails).bay row ≡ slot_of b row
  others-stay row e =
      ap (λ (o : Outcome). slot_of o.bay row) ruled ∙ get_or-set_other b.slots there.0 row.0 outcome.slot (bare_slot (number 0)) (λ same. absurd (grind (arith, nat_tests)))

  record Served (mode : Mode) (id : Number) (state : Use) : Type 0 where
    unrefused : is_refused (rule b ask fails).reply ≡ false
    left : SlotIs mode id (next (act_of ask.what) state) (slot_of (rule b ask fails).bay there)

  serves : is_fault (rule b ask fails).reply ≡ false → b.empty ≡ false → there.0 < length b.slots → (id : Number) (state : Use) → SlotIs b.mode id state (slot_of b there) →
      IsOwn b.mode id ask.what → Fine b.mode id (act_of ask.what) state → Served b.mode id state
  serves works device within id state s own fine =
      let served = slot-serves b (slot_of b there) ask id fails ask.what state device s own fine (sym (ap (λ (o : Outcome). is_fault o.reply) ruled) ∙ works) in
      record {
        unrefused = ap (λ (o : Outcome). is_refused o.reply) ruled ∙ served.0;
        left = subst (λ (o : Outcome). SlotIs b.mode id (next (act_of ask.what) state) (slot_of o.bay there)) (sym ruled)
            (subst (SlotIs b.mode id (next (act_of ask.what) state)) (sym (get_or-set_same b.slots there.0 outcome.slot (bare_slot (number 0)) within)) served.1);
      }

  serves-as : (mode : Mode) → b.mode ≡ mode → is_fault (rule b ask fails).reply ≡ false → b.empty ≡ false → there.0 < length b.slots → (id : Number) (state : Use) →
      SlotIs mode id state (slot_of b there) → IsOwn mode id ask.what → Fine mode id (act_of ask.what) state → Served mode id state
  serves-as mode same works device within =
      subst (λ (m : Mode). (id : Number) (state : Use) → SlotIs m id state (slot_of b there) → IsOwn m id ask.what → Fine m id (act_of ask.what) state → Served m id state) same
      (serves works device within)

module _ (script : Script) (is : IsScript script) (host : HostNo) (few : host.0 < 16) (lone : IsLone host script) (light : total script ≤ 2 ^ 20) where
  fine-jobs : (jobs : List Job) → AllByRecursion NeverStops jobs → AllByRecursion (λ (job : Job). IsTask script host job.task) jobs → AllByRecursion (IsFine script is host few) jobs
  fine-jobs [] h g = tt
  fine-jobs (job ∷ jobs) h g = (((h.0).0, (h.0).1, g.0), fine-jobs jobs h.1 g.1)

  all-fine : AllByRecursion (IsFine script is host few) (jobs_of script host)
  all-fine =
      fine-jobs (jobs_of script host) (own-jobs host host script.hosts lone)
      (host-tasks script is host)

  abbrev slots : List Call → BayNo → RowNo → Slot
  slots history at row = slot_at script history at row

  record Alone (history : List Call) : Type 0 where
    stands : StandsAlone script is host few (slots history) (progress_at script host history)
    devices : (at : BayNo) → (bay_at script at history).empty ≡ false

  -- the start
  first-idle : (at : BayNo) (row : RowNo) → row.0 < script.rows → IsIdle script.mode (number 0) (slots [] at row)
  first-idle at row below =
      subst (IsIdle script.mode (number 0)) (sym (starts-first script at row below)) (record { filled = refl; noted = refl; read = refl; numbered = none script.mode })
    where
      none : (m : Mode) → AreSeen m (number 0) (number 0) (number 0)
      none Lock = tt
      none Order = (omega arith, omega arith)

  first-alone : Alone []
  first-alone = record {
    stands = start-stands script is host few (slots []) (jobs_of script host) (before_start script host) refl refl (record { jobs = all-fine; right = tt }) first-idle (omega arith);
    devices = λ at. refl;
  }

  -- one call
  module _ (earlier : List Call) (call : Call) (h : IsHistory script earlier) (next_call : IsNext script earlier call) (works : is_fault call.answer.reply ≡ false) (a : Alone earlier) where
    idle-asks : (p : Progress) → Idle p → asks call.ask.host p call.ask.moment ≡ Some (record { bay = call.bay; ask = call.ask }) → ⊥
    idle-asks p idle e = by p.work idle.work e
      where
        by : (work : Work) → work ≡ Over → sent_by call.ask.host p.clock call.ask.moment (work_errand work) ≡ Some (record { bay = call.bay; ask = call.ask }) → ⊥
        by work over f = let bad : sent_by call.ask.host p.clock call.ask.moment None ≡ Some (record { bay = call.bay; ask = call.ask }) = ap (λ (w : Work). sent_by call.ask.host p.clock call.ask.moment (work_errand w)) (sym over) ∙ f in cc

    own-call : (call.ask.host.0 == host.0) ≡ true
    own-call = by (call.ask.host.0 == host.0) refl
      where
        by : (b : Bool) → (call.ask.host.0 == host.0) ≡ b → b ≡ true
        by true e = refl
        by false e =
            absurd (idle-asks (progress_at script call.ask.host earlier)
            (idle-history script call.ask.host earlier (others-idle host call.ask.host (λ same. let own : call.ask.host.0 ≡ host.0 = ap (λ (x : HostNo). x.0) same in absurd (grind (arith, nat_tests))) script.hosts lone)) next_call.asked)

    errand : work_errand (progress_at script host earlier).work ≡ Some (errand_of call)
    errand = own-errand script is earlier call next_call host own-call

    row : (there : RowNo) × (row_of call.ask.what ≡ Some there)
    row = asks-row script is host few (slots earlier) (progress_at script host earlier).jobs (progress_at script host earlier).seen (progress_at script host earlier).tries (progress_at script host earlier).work (errand_of call) (a.stands).work errand

    abbrev there : RowNo
    there = row.0

    within : IsWithin script.n script.rows (record { bay = call.bay; request = call.ask.what })
    within =
        asks-within script call.ask.host (progress_at script call.ask.host earlier) _ _ call.ask.moment (record { bay = call.bay; ask = call.ask })
        ((requests_are_bounded script earlier (record { ranges = is }) (are-asked script is earlier h)).keeps call.ask.host) next_call.asked

    below : there.0 < script.rows
    below = subst (λ (o : Option RowNo). IfSome o (λ (r : RowNo). r.0 < script.rows)) row.1 (asked-row script.rows call.ask.what within.request)

    replied : call.answer.reply ≡ (rule (bay_at script call.bay earlier) call.ask (is_fault call.answer.reply)).reply
    replied = reply-is script is earlier call next_call

    well : is_fault (rule (bay_at script call.bay earlier) call.ask (is_fault call.answer.reply)).reply ≡ false
    well = ap is_fault (sym replied) ∙ works

    inside : there.0 < length (bay_at script call.bay earlier).slots
    inside = let rows = bay-rows script call.bay earlier in omega (arith, below, rows)

    served : (id : Number) (state : Use) → SlotIs script.mode id state (slot_of (bay_at script call.bay earlier) there) → IsOwn script.mode id call.ask.what →
        Fine script.mode id (act_of call.ask.what) state → Served (bay_at script call.bay earlier) call.ask (is_fault call.answer.reply) there row.1 script.mode id state
    served = serves-as (bay_at script call.bay earlier) call.ask (is_fault call.answer.reply) there row.1 script.mode (bay-mode script call.bay earlier) well (a.devices call.bay) inside

    each : (id : Number) (at : BayNo) (r : RowNo) (state : Use) → r.0 < script.rows → SlotIs script.mode id state (slots earlier at r) → IsOwn script.mode id call.ask.what →
        (is_mine script.mode id at r call.bay call.ask.what ≡ true → Fine script.mode id (act_of call.ask.what) state) →
        SlotIs script.mode id (used (is_mine script.mode id at r call.bay call.ask.what) state call.ask.what) (slots (call ∷ earlier) at r)
    each id at r state low s own fine =
        subst (λ (b : Bool). SlotIs script.mode id (used b state call.ask.what) (slots (call ∷ earlier) at r)) (sym mine)
        (by (call.bay.0 == at.0) (there.0 == r.0) refl refl (λ e. fine (mine ∙ e)))
      where
        mine : is_mine script.mode id at r call.bay call.ask.what ≡ ((call.bay.0 == at.0) && (there.0 == r.0))
        mine = ap (λ (o : Option RowNo). (call.bay.0 == at.0) && is_row r o) row.1

        its : call.bay ≡ at → there ≡ r → Fine script.mode id (act_of call.ask.what) state →
            SlotIs script.mode id (next (act_of call.ask.what) state) (slot_of (rule (bay_at script at earlier) call.ask (is_fault call.answer.reply)).bay r)
        its same own_row ready =
            subst (λ (x : BayNo). SlotIs script.mode id (next (act_of call.ask.what) state) (slot_of (rule (bay_at script x earlier) call.ask (is_fault call.answer.reply)).bay r)) same
            (subst (λ (y : RowNo). SlotIs script.mode id (next (act_of call.ask.what) state) (slot_of (rule (bay_at script call.bay earlier) call.ask (is_fault call.answer.reply)).bay y)) own_row
            (served id state (subst (λ (x : BayNo). SlotIs script.mode id state (slots earlier x there)) (sym same) (subst (λ (y : RowNo). SlotIs script.mode id state (slots earlier at y)) (sym own_row) s)) own ready).left)

        by : (x y : Bool) → (call.bay.0 == at.0) ≡ x → (there.0 == r.0) ≡ y → ((x && y) ≡ true → Fine script.mode id (act_of call.ask.what) state) →
            SlotIs script.mode id (used (x && y) state call.ask.what) (slot_of (if_ruled (bay_at script at earlier) call x) r)
        by false y e f ready = s
        by true false e f ready = subst (SlotIs script.mode id state) (sym (others-stay (bay_at script at earlier) call.ask (is_fault call.answer.reply) there row.1 r f)) s
        by true true e f ready = its (same-bay call.bay at e) (let same : there.0 ≡ r.0 = grind (arith, nat_tests) in ap (λ (k : ℕ). let z : RowNo = record { 0 = k } in z) same) (ready refl)

    moves : Moves script is host few (slots earlier) (slots (call ∷ earlier)) call there
    moves = record {
      fitted = fitted script is earlier call next_call;
      shown = (numbers_stay_small script (call ∷ earlier) is light (h, next_call)).0.0.shown;
      asked = row.1;
      below = below;
      unrefused = λ id state s own fine. ap is_refused replied ∙ (served id state s own fine).unrefused;
      each = each;
    }

    goes : StandsAlone script is host few (slots (call ∷ earlier)) (if_taken script host (progress_at script host earlier) call true)
    goes =
        work-stands script is host few (slots earlier) (slots (call ∷ earlier)) call there moves (progress_at script host earlier) (progress_at script host earlier).work
        ((numbers_stay_small script earlier is light h).1 host) (a.stands).sound (a.stands).work errand

    next-alone : Alone (call ∷ earlier)
    next-alone = record {
      stands = subst (λ (b : Bool). StandsAlone script is host few (slots (call ∷ earlier)) (if_taken script host (progress_at script host earlier) call b)) (sym own-call) goes;
      devices = λ at. by at (call.bay.0 == at.0);
    }
      where
        by : (at : BayNo) (b : Bool) → (if_ruled (bay_at script at earlier) call b).empty ≡ false
        by at true = device-stays (bay_at script at earlier) call.ask (is_fault call.answer.reply) there row.1 (a.devices at)
        by at false = a.devices at

  alone : (history : List Call) → IsHistory script history → AreFaultless history → Alone history
  alone [] h works = first-alone
  alone (call ∷ earlier) h works = next-alone earlier call h.0 h.1 works.0 (alone earlier h.0 works.1)

  are-done : (endings : List Ending) → AllByRecursion (Right script is host few) endings → AllByRecursion HasNumbers endings → AllByRecursion (IsDoneAtOnce script) endings
  are-done [] right numbers = tt
  are-done (e ∷ es) right numbers = (λ ok. right.0 ok numbers.0, are-done es right.1 numbers.1)

  done : (history : List Call) → IsHistory script history → AreFaultless history → AllByRecursion (IsDoneAtOnce script) (endings_at script history host)
  done history h works = are-done (endings_at script history host) ((alone history h works).stands).sound.right ((numbers_stay_small script history is light h).2 host)

pub lone_hosts_are_done : LoneHostsAreDone
lone_hosts_are_done script history is light h host lone works = by (few-or-idle 0 host script.hosts is.hosts)
  where
    by : (host.0 < 16) ⊎ (jobs_of script host ≡ []) → AllByRecursion (IsDoneAtOnce script) (endings_at script history host)
    by (inl few) = done script is host few lone light history h works
    by (inr none) = subst (AllByRecursion (IsDoneAtOnce script)) (sym (idle-history script host history none).endings) tt
