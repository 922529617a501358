-- A rebuild finds no slot gone: all bays but its target have their cells, and the target has a device.
use Rattle.std.proofs.Common.{◌≡◌, ◌≢◌, inl, inr, ℕ, ◌<◌, ◌==◌, Bool, true, false, List, [], ◌∷◌, Some, is_some, refl, sym, ap, subst, ◌∙◌}
use Rattle.std.specs.List.{AllByRecursion}
use Rattle.raid_base.specs.declared.numbers.BayNo.{BayNo}
use Rattle.raid_base.specs.declared.numbers.HostNo.{HostNo}
use Rattle.raid_base.specs.declared.messages.Call.{Call}
use Rattle.raid_base.specs.declared.messages.Reply.{Reply}
use Rattle.raid_base.specs.declared.messages.Errand.{Errand}
use Rattle.raid_base.specs.declared.messages.How.TheVariants.{Mend}
use Rattle.raid_base.specs.declared.messages.Request.{Request}
use Rattle.raid_base.specs.declared.messages.Request.TheVariants.{Claim, Lose, Fit}
use Rattle.raid_base.specs.declared.jobs.Job.{Job}
use Rattle.raid_base.specs.declared.jobs.Task.{Task}
use Rattle.raid_base.specs.declared.jobs.Task.TheVariants as tasks
use Rattle.raid_base.specs.declared.jobs.Cause.TheVariants as causes
use Rattle.raid_base.specs.declared.jobs.JobEnd.{JobEnd}
use Rattle.raid_base.specs.declared.jobs.JobEnd.TheVariants as job_ends
use Rattle.raid_base.specs.Replies.{is_fault}
use Rattle.raid_base.specs.Steps.{errand_of}
use Rattle.slot_rules.specs.Slots.{slot_of}
use Rattle.slot_rules.specs.Rules.{rule}
use Rattle.attempts.specs.Discipline.{IsAskable, IsWithin}
use Rattle.script_text.specs.Script.{Script}
use Rattle.script_text.specs.Ranges.{IsScript, IsTask}
use Rattle.histories.specs.Calls.{Happened}
use Rattle.histories.specs.Causes.{IsMendClaim, IsBare, MeetsCause}
use Rattle.histories.specs.Causes.{IsGone as IsGoneCause}
use Rattle.histories.specs.Torn.{IsMissing}
use Rattle.histories.specs.Missing.{IsRebuild, RebuildsMeetNoGone}
use Rattle.histories.specs.Progress.{Ending, Work, Trying, Losing, Fitting, Over, Progress, work_errand}
use Rattle.histories.specs.History.{IsHistory, IsNext, progress_at, if_taken, bay_at, endings_at}
use Rattle.histories.proofs.bounds.BoundsTakes.{asks-within}
use Rattle.histories.proofs.bounds.BoundsHistory.{requests_are_bounded}
use Rattle.histories.proofs.smallness.SmallHistory.{are-asked}
use Rattle.histories.proofs.causes.HostCauses.{causes_are_met}
use Rattle.histories.proofs.endings.EndingCalls.{OfFirst, IsKept, Kept, takes-kept, starts-bare}
use Rattle.histories.proofs.missing.MissingSlots.{Mendable, mends-there}
use Rattle.histories.proofs.missing.MissingHosts.{IsGone, Ready, SafeWork, SafeSteps, Safe, is_fitted}
use Rattle.histories.proofs.missing.MissingBays.{gone_as, errand_for, Here, Empty, reply-is, own-errand, every-host, operator-safe}

-- what a rebuild of this bay may be answered: no claim finds a slot missing, or one on another bay without a cell
record FindsAll (target : BayNo) (call : Call) : Type 0 where
  present : (bay : BayNo) → IsMendClaim bay call → IsMissing call → ⊥
  shown : (bay : BayNo) → (target ≡ bay → ⊥) → IsMendClaim bay call → IsBare call → ⊥

abbrev TaskFinds : Task → List Call → Type 0
TaskFinds (tasks.Rebuild target) calls = AllByRecursion (FindsAll target) calls
TaskFinds (tasks.Read object first count) calls = Unit {0}
TaskFinds (tasks.Write object first from count) calls = Unit {0}
TaskFinds (tasks.Recover row) calls = Unit {0}
TaskFinds (tasks.Lose bay) calls = Unit {0}
TaskFinds (tasks.Fit bay) calls = Unit {0}

finds-bare : (task : Task) → TaskFinds task []
finds-bare (tasks.Rebuild target) = tt
finds-bare (tasks.Read object first count) = tt
finds-bare (tasks.Write object first from count) = tt
finds-bare (tasks.Recover row) = tt
finds-bare (tasks.Lose bay) = tt
finds-bare (tasks.Fit bay) = tt

module _ (script : Script) (is : IsScript script) where
  module _ (earlier : List Call) (call : Call) (along : IsHistory script earlier) (next : IsNext script earlier call) (host : HostNo) (own : (call.ask.host.0 == host.0) ≡ true) where
    abbrev Now : Progress
    Now = progress_at script host earlier

    within : IsWithin script.n script.rows (errand_of call)
    within =
        asks-within script call.ask.host (progress_at script call.ask.host earlier) _ _ call.ask.moment (record { bay = call.bay; ask = call.ask })
        ((requests_are_bounded script earlier (record { ranges = is }) (are-asked script is earlier along)).keeps call.ask.host) next.asked

    -- a rebuild in hand
    module _ (target : BayNo) (job : Job) (jobs : List Job) (first : Now.jobs ≡ job ∷ jobs) (same : job.task ≡ tasks.Rebuild target) where
      aim : IsTask script host (tasks.Rebuild target)
      aim = subst (IsTask script host) same (subst (AllByRecursion (λ (j : Job). IsTask script host j.task)) first (every-host script is earlier along host).sound.tasks).0

      safe : Safe script is host (Here script is earlier) (Empty script is earlier) Now
      safe = operator-safe script is earlier along host aim.0

      asked : work_errand Now.work ≡ Some (errand_of call)
      asked = own-errand script is earlier call next host own

      module _ (at : BayNo) (claim : IsMendClaim at call) where
        no-device : (bay : BayNo) (what : Request) → (Claim claim.1 claim.2 Mend 0 true ≡ what → ⊥) → Some (errand_for bay what) ≡ Some (errand_of call) → ⊥
        no-device bay what other e =
            let placed : errand_for bay what ≡ errand_of call = cc in
            other (sym claim.3 ∙ ap (λ (x : Errand). x.request) (sym placed))

        known : Now.gone ≡ gone_as target true
        known = by Now.work safe.work asked where
          by : (work : Work) → SafeWork script is host (Here script is earlier) (Empty script is earlier) Now.jobs Now.gone Now.row work → work_errand work ≡ Some (errand_of call) → Now.gone ≡ gone_as target true
          by (Trying steps) w e =
              let hand = subst (λ (js : List Job). SafeSteps script is host (Here script is earlier) (Empty script is earlier) js Now.gone Now.row steps) first w in
              (subst (λ (t : Task). Ready script is host (Here script is earlier) (Empty script is earlier) t Now.gone Now.row) same hand.ready).0
          by (Losing bay) w e = absurd (no-device bay Lose (λ x. cc) e)
          by (Fitting bay) w e = absurd (no-device bay Fit (λ x. cc) e)
          by Over w e = absurd (cc)

        device : (bay_at script at earlier).empty ≡ false
        device = by (bay_at script at earlier).empty refl where
          by : (b : Bool) → (bay_at script at earlier).empty ≡ b → (bay_at script at earlier).empty ≡ false
          by false e = e
          by true e =
              let both : false ≡ true = ap is_fitted (sym (safe.sound.lost at e) ∙ known) in
              absurd (cc)

        replied : call.answer.reply ≡ (rule (bay_at script at earlier) call.ask (is_fault call.answer.reply)).reply
        replied = subst (λ (b : BayNo). call.answer.reply ≡ (rule (bay_at script b earlier) call.ask (is_fault call.answer.reply)).reply) claim.0 (reply-is script is earlier call next)

        mendable : Mendable (slot_of (bay_at script at earlier) claim.1) call.answer.reply
        mendable =
            subst (λ (r : Reply). Mendable (slot_of (bay_at script at earlier) claim.1) r) (sym replied)
            (mends-there (bay_at script at earlier) call.ask (is_fault call.answer.reply) claim.1 claim.2 0 claim.3 device)

        below : claim.1.0 < script.rows
        below = (subst (IsAskable script.rows) claim.3 within.request).0

        inside : at.0 < script.n
        inside = subst (λ (b : BayNo). b.0 < script.n) claim.0 within.bay

        bared : (target ≡ at → ⊥) → IsBare call → ⊥
        bared apart bare =
            let free : IsGone at Now.gone → ⊥ = λ g. apart (ap (λ (k : ℕ). record { 0 = k }) (subst (IsGone at) known g)) in
            let here : is_some bare.0.cell ≡ true = mendable.shown bare.0 bare.1 (safe.sound.others at claim.1 inside below free) in
            let both : true ≡ false = sym here ∙ bare.2 in
            absurd (cc)

      all-found : FindsAll target call
      all-found = record {
        present = λ at claim miss. (mendable at claim).present miss.0 miss.1;
        shown = λ at apart claim bare. bared at claim apart bare;
      }

    grown : (js : List Job) → Now.jobs ≡ js → OfFirst script host TaskFinds finds-bare js Now.calls → OfFirst script host TaskFinds finds-bare js (call ∷ Now.calls)
    grown [] first k = tt
    grown (job ∷ jobs) first k = by job.task refl k where
      by : (task : Task) → job.task ≡ task → TaskFinds task Now.calls → TaskFinds task (call ∷ Now.calls)
      by (tasks.Rebuild target) same k = (all-found target job jobs first same, k)
      by (tasks.Read object begin count) same k = tt
      by (tasks.Write object begin from count) same k = tt
      by (tasks.Recover row) same k = tt
      by (tasks.Lose bay) same k = tt
      by (tasks.Fit bay) same k = tt

  finds-kept : (history : List Call) → IsHistory script history → (host : HostNo) → Kept script host TaskFinds finds-bare (progress_at script host history)
  finds-kept [] along host = starts-bare script host TaskFinds finds-bare
  finds-kept (call ∷ earlier) along host = by (call.ask.host.0 == host.0) refl (finds-kept earlier along.0 host) where
    by : (b : Bool) → (call.ask.host.0 == host.0) ≡ b → Kept script host TaskFinds finds-bare (progress_at script host earlier) →
        Kept script host TaskFinds finds-bare (if_taken script host (progress_at script host earlier) call b)
    by true own k = takes-kept script host TaskFinds finds-bare (progress_at script host earlier) call k (grown earlier call along.0 along.1 host own (progress_at script host earlier).jobs refl k.now)
    by false own k = k

-- what no call is
never : (F P : Call → Type 0) → ((call : Call) → F call → P call → ⊥) → (calls : List Call) → AllByRecursion F calls → Happened P calls → ⊥
never F P not [] all h = h
never F P not (call ∷ calls) all (inl p) = not call all.0 p
never F P not (call ∷ calls) all (inr h) = never F P not calls all.1 h

task-gone : (script : Script) (host : HostNo) (bay : BayNo) (calls : List Call) (task : Task) → IsRebuild task → TaskFinds task calls → IsGoneCause script host bay task calls → ⊥
task-gone script host bay calls (tasks.Rebuild target) rebuild finds (inl h) =
    never (FindsAll target) (λ call. IsMendClaim bay call × IsMissing call) (λ call f x. f.present bay x.0 x.1) calls finds h
task-gone script host bay calls (tasks.Rebuild target) rebuild finds (inr (apart, h)) =
    never (FindsAll target) (λ call. IsMendClaim bay call × IsBare call) (λ call f x. f.shown bay apart x.0 x.1) calls finds h
task-gone script host bay calls (tasks.Read object first count) rebuild finds gone = rebuild
task-gone script host bay calls (tasks.Write object first from count) rebuild finds gone = rebuild
task-gone script host bay calls (tasks.Recover row) rebuild finds gone = rebuild
task-gone script host bay calls (tasks.Lose at) rebuild finds gone = rebuild
task-gone script host bay calls (tasks.Fit at) rebuild finds gone = rebuild

abbrev MeetsNoGone : Ending → Type 0
MeetsNoGone e = IsRebuild e.job.task → (bay : BayNo) (tries : ℕ) → e.ended ≢ job_ends.Gave tries (causes.Gone bay)

all-meet : (script : Script) (history : List Call) (host : HostNo) (es : List Ending) → AllByRecursion (IsKept script host TaskFinds finds-bare) es → AllByRecursion (λ (e : Ending). MeetsCause script history host e e.ended) es →
    AllByRecursion MeetsNoGone es
all-meet script history host [] finds met = tt
all-meet script history host (e ∷ es) finds met = (
  λ rebuild bay tries ended. task-gone script host bay e.calls e.job.task rebuild finds.0 (subst (λ (x : JobEnd). MeetsCause script history host e x) ended met.0).0,
  all-meet script history host es finds.1 met.1,
)

pub rebuilds_meet_no_gone : RebuildsMeetNoGone
rebuilds_meet_no_gone script history is along host =
    all-meet script history host (endings_at script history host) (finds-kept script is history along host).before (causes_are_met script history is along host)
