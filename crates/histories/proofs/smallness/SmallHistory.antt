-- Along every history of a script that is not too heavy numbers stay small.
use Rattle.std.proofs.Common.{◌≡◌, ◌⊎◌, inl, inr, ℕ, ◌+◌, ◌*◌, ◌^◌, ◌<◌, ◌≤◌, ◌==◌, Bool, true, false, cond, List, [], ◌∷◌, length, map, find, Option, Some, None, refl, sym, ap, subst, arith}
use Rattle.std.specs.List.{AllByRecursion}
use Rattle.std.proofs.lemmas.Bool.Decides.{nat_tests}
use Rattle.raid_base.specs.declared.numbers.BayNo.{BayNo}
use Rattle.raid_base.specs.declared.numbers.HostNo.{HostNo}
use Rattle.raid_base.specs.declared.numbers.Number.{Number}
use Rattle.raid_base.specs.declared.messages.Call.{Call}
use Rattle.raid_base.specs.declared.messages.Note.{Note}
use Rattle.raid_base.specs.declared.messages.Errand.{Errand}
use Rattle.raid_base.specs.declared.messages.Request.{Request}
use Rattle.raid_base.specs.declared.messages.Request.TheVariants.{Share, Claim, Confirm, Put, Release, Lose, Fit}
use Rattle.raid_base.specs.declared.messages.Reply.{Reply}
use Rattle.raid_base.specs.declared.messages.Reply.TheVariants.{Granted, Busy, Late, Young, Missing, Held, NoNote, Done, Fault, Emptied, Fitted}
use Rattle.raid_base.specs.declared.jobs.Job.{Job}
use Rattle.raid_base.specs.Replies.{is_fault}
use Rattle.raid_base.specs.Steps.{Steps, Asks, Draws, Ends}
use Rattle.slot_rules.specs.Slots.{Bay}
use Rattle.attempts.specs.Taking.{Finish}
use Rattle.attempts.specs.Numbering.{IsOrigin, ShowsNumber}
use Rattle.script_text.specs.Script.{Script, HostJobs, jobs_in, jobs_of}
use Rattle.script_text.specs.Ranges.{IsScript, Rise}
use Rattle.script_text.specs.Weights.{total}
use Rattle.histories.specs.Calls.{id_of}
use Rattle.histories.specs.Progress.{Progress, Work, Trying, Losing, Fitting, Over, start_jobs, call_counted, work_told, work_errand}
use Rattle.histories.specs.History.{if_taken, progress_at, if_ruled, bay_at, IsNext, IsHistory}
use Rattle.histories.specs.Asked.{AreAsked}
use Rattle.histories.specs.Smallness.{number_in, IsSmall, HasNumbers, NumbersStaySmall}
use Rattle.histories.proofs.bounds.BoundsTakes.{before_start, sent-errand}
use Rattle.histories.proofs.bounds.BoundsHistory.{requests_are_bounded}
use Rattle.histories.proofs.bounds.Quotas.{totals_cover_requests}
use Rattle.histories.proofs.smallness.SmallSlots.{IsLow, LowOrigin, LowRequest, LowReply, LowBay, rule-low, first-bay-low, bay-more}
use Rattle.histories.proofs.smallness.SmallAttempts.{IsCarried, IsOwn}
use Rattle.histories.proofs.smallness.SmallHosts.{Carried, CarriesWork, Small, small-more, jobs-small, takes-small}

-- What a host asks carries what it has seen
carried-low : (most : ℕ) (number n : Option Number) → ((m : Number) → number ≡ Some m → m.0 ≤ most) → IsCarried number n → IsLow most n
carried-low most number None low own = tt
carried-low most number (Some n) low own = low n own

own-low : (most : ℕ) (id : Number) (number : Option Number) (what : Request) → id.0 ≤ most → ((m : Number) → number ≡ Some m → m.0 ≤ most) → IsOwn id number what →
    LowRequest most what
own-low most id number (Share row by want) low drawn own = omega (arith, low, ap (λ (x : Number). x.0) own)
own-low most id number (Claim row by how mask want) low drawn own = omega (arith, low, ap (λ (x : Number). x.0) own)
own-low most id number (Confirm row by want) low drawn own = omega (arith, low, ap (λ (x : Number). x.0) own)
own-low most id number (Put row by n cell) low drawn own = (omega (arith, low, ap (λ (x : Number). x.0) own.0), drawn n own.1)
own-low most id number (Release row by n) low drawn own = (omega (arith, low, ap (λ (x : Number). x.0) own.0), carried-low most number n drawn own.1)
own-low most id number Lose low drawn own = tt
own-low most id number Fit low drawn own = tt

steps-low : (most : ℕ) (seen : Number) (steps : Steps Finish) (e : Errand) → seen.0 ≤ most → Carried seen steps → work_errand (Trying steps) ≡ Some e → LowRequest most e.request
steps-low most seen (Asks first t c k) e le h asked =
    let same : first ≡ e = cc in
    subst (λ (x : Errand). LowRequest most x.request) same
    (own-low most h.id h.number first.request (omega (arith, le, h.id_seen)) (λ m is. omega (arith, le, h.number_seen m is)) (h.carries).0)
steps-low most seen (Draws k) e le h asked = absurd (cc)
steps-low most seen (Ends f) e le h asked = absurd (cc)

work-low : (most : ℕ) (seen : Number) (work : Work) (e : Errand) → seen.0 ≤ most → CarriesWork seen work → work_errand work ≡ Some e → LowRequest most e.request
work-low most seen (Trying steps) e le h asked = steps-low most seen steps e le h asked
work-low most seen (Losing bay) e le h asked =
    let same : record { bay = bay; request = Lose } ≡ e = cc in subst (λ (x : Errand). LowRequest most x.request) same tt
work-low most seen (Fitting bay) e le h asked =
    let same : record { bay = bay; request = Fit } ≡ e = cc in subst (λ (x : Errand). LowRequest most x.request) same tt
work-low most seen Over e le h asked = absurd (cc)

-- What is said of a call
id-low : (most : ℕ) (what : Request) → LowRequest most what → (id : Number) → id_of what ≡ Some id → id.0 ≤ most
id-low most (Share row by want) low id is = let same : by ≡ id = cc in omega (arith, low, ap (λ (x : Number). x.0) same)
id-low most (Claim row by how mask want) low id is = let same : by ≡ id = cc in omega (arith, low, ap (λ (x : Number). x.0) same)
id-low most (Confirm row by want) low id is = let same : by ≡ id = cc in omega (arith, low, ap (λ (x : Number). x.0) same)
id-low most (Put row by n cell) low id is = let same : by ≡ id = cc in omega (arith, low.0, ap (λ (x : Number). x.0) same)
id-low most (Release row by n) low id is = let same : by ≡ id = cc in omega (arith, low.0, ap (λ (x : Number). x.0) same)
id-low most Lose low id is = absurd (let bad : None ≡ Some id = is in cc)
id-low most Fit low id is = absurd (let bad : None ≡ Some id = is in cc)

some-low : (most : ℕ) (o : Option Number) → IsLow most o → (n : Number) → o ≡ Some n → n.0 ≤ most
some-low most None low n is = absurd (let bad : None ≡ Some n = is in cc)
some-low most (Some m) low n is = let same : m ≡ n = cc in omega (arith, low, ap (λ (x : Number). x.0) same)

number-low : (most : ℕ) (what : Request) → LowRequest most what → (n : Number) → number_in what ≡ Some n → n.0 ≤ most
number-low most (Share row by want) low n is = absurd (let bad : None ≡ Some n = is in cc)
number-low most (Claim row by how mask want) low n is = absurd (let bad : None ≡ Some n = is in cc)
number-low most (Confirm row by want) low n is = absurd (let bad : None ≡ Some n = is in cc)
number-low most (Put row by m cell) low n is = some-low most (Some m) low.1 n is
number-low most (Release row by m) low n is = some-low most m low.1 n is
number-low most Lose low n is = absurd (let bad : None ≡ Some n = is in cc)
number-low most Fit low n is = absurd (let bad : None ≡ Some n = is in cc)

origin-low : (most : ℕ) (o : Option Note) (n : Number) → LowOrigin most o → IsOrigin o n → n.0 ≤ most
origin-low most None n low is = absurd is
origin-low most (Some note) n low is = omega (arith, low, ap (λ (x : Number). x.0) is)

shown-low : (most : ℕ) (r : Reply) → LowReply most r → (n : Number) → ShowsNumber r n → n.0 ≤ most
shown-low most (Granted cell read_no write_no last life seized) low n (inl is) = omega (arith, low.0, ap (λ (x : Number). x.0) is)
shown-low most (Granted cell read_no write_no last life seized) low n (inr (inl is)) = omega (arith, low.1, ap (λ (x : Number). x.0) is)
shown-low most (Granted cell read_no write_no last life seized) low n (inr (inr is)) = origin-low most seized n low.2 is
shown-low most (Late above) low n is = omega (arith, low, ap (λ (x : Number). x.0) is)
shown-low most (Missing floor) low n is = omega (arith, low, ap (λ (x : Number). x.0) is)
shown-low most (Busy holder) low n is = absurd is
shown-low most (Young note) low n is = absurd is
shown-low most (Held cell) low n is = absurd is
shown-low most (NoNote life) low n is = absurd is
shown-low most Done low n is = absurd is
shown-low most Fault low n is = absurd is
shown-low most Emptied low n is = absurd is
shown-low most Fitted low n is = absurd is

call-small : (most : ℕ) (call : Call) → most < 2 ^ 26 → LowRequest most call.ask.what → LowReply most call.answer.reply → IsSmall call
call-small most call less asked replied = record {
  id = λ n is. let low = id-low most call.ask.what asked n is in omega (arith, low, less);
  number = λ n is. let low = number-low most call.ask.what asked n is in omega (arith, low, less);
  shown = λ n is. let low = shown-low most call.answer.reply replied n is in omega (arith, low, less);
}

-- A host of a script is below 16, and another one has no jobs
pub few-or-idle : (from : ℕ) (host : HostNo) (hosts : List HostJobs) → Rise from (map (λ (h : HostJobs). h.host) hosts) →
    (host.0 < 16) ⊎ (jobs_in (find (λ (h : HostJobs). h.host.0 == host.0) hosts) ≡ [])
few-or-idle from host [] rise = inr refl
few-or-idle from host (first ∷ hosts) rise = by (first.host.0 == host.0) refl (few-or-idle (first.host.0 + 1) host hosts rise.2)
  where
    by : (b : Bool) → (first.host.0 == host.0) ≡ b → (host.0 < 16) ⊎ (jobs_in (find (λ (h : HostJobs). h.host.0 == host.0) hosts) ≡ []) →
        (host.0 < 16) ⊎ (jobs_in (cond b (Some first) (find (λ (h : HostJobs). h.host.0 == host.0) hosts)) ≡ [])
    by true e rest = inl (let less : first.host.0 < 16 = rise.1 in let same : first.host.0 ≡ host.0 = grind (arith, nat_tests) in omega (arith, less, same))
    by false e rest = rest

pub record Idle (p : Progress) : Type 0 where
  pub work : p.work ≡ Over
  pub seen : p.seen.0 ≤ 0
  pub endings : p.endings ≡ []

module _ (script : Script) (host : HostNo) where
  idle-start : (jobs : List Job) → jobs ≡ [] → Idle (start_jobs script host jobs (before_start script host))
  idle-start jobs none = subst (λ (js : List Job). Idle (start_jobs script host js (before_start script host))) (sym none)
      (record { work = refl; seen = omega arith; endings = refl })

  idle-takes : (p : Progress) (call : Call) (own : Bool) → Idle p → Idle (if_taken script host p call own)
  idle-takes p call true idle =
      subst (λ (w : Work). Idle (work_told script host (call_counted p call) call.answer.reply w)) (sym idle.work)
      (record { work = idle.work; seen = idle.seen; endings = idle.endings })
  idle-takes p call false idle = idle

  pub idle-history : (history : List Call) → jobs_of script host ≡ [] → Idle (progress_at script host history)
  idle-history [] none = idle-start (jobs_of script host) none
  idle-history (call ∷ earlier) none = idle-takes (progress_at script host earlier) call (call.ask.host.0 == host.0) (idle-history earlier none)

idle-small : (most : ℕ) (p : Progress) → Idle p → Small most p
idle-small most p idle = record {
  fine = record { seen = omega (arith, idle.seen); endings = subst (AllByRecursion HasNumbers) (sym idle.endings) tt };
  work = subst (CarriesWork p.seen) (sym idle.work) tt;
}

module _ (script : Script) (is : IsScript script) where
  pub are-asked : (history : List Call) → IsHistory script history → AreAsked script history
  are-asked [] h = tt
  are-asked (call ∷ earlier) h = (are-asked earlier h.0, record { asked = (h.1).asked; clocked = ap (λ (c : Call). c.answer.clock) (h.1).replied })

  -- all hosts, all bays and all calls
  pub record AllSmall (history : List Call) (most : ℕ) : Type 0 where
    pub hosts : (host : HostNo) → Small most (progress_at script host history)
    pub bays : (bay : BayNo) → LowBay most (bay_at script bay history)
    pub calls : AllByRecursion IsSmall history

  start-small : (host : HostNo) → Small 32 (progress_at script host [])
  start-small host = by (few-or-idle 0 host script.hosts is.hosts)
    where
      by : (host.0 < 16) ⊎ (jobs_of script host ≡ []) → Small 32 (progress_at script host [])
      by (inl few) = jobs-small script host few 0 (omega arith) (jobs_of script host) (before_start script host) (record { seen = omega arith; endings = tt })
      by (inr none) = idle-small 32 (progress_at script host []) (idle-history script host [] none)

  module _ (call : Call) (earlier : List Call) (most : ℕ) (less : most + 48 < 2 ^ 26) (s : AllSmall earlier most) (next : IsNext script earlier call) where
    asked-low : LowRequest most call.ask.what
    asked-low =
        let host = call.ask.host in
        let p = progress_at script host earlier in
        let e = sent-errand host p.clock call.ask.moment (work_errand p.work) (record { bay = call.bay; ask = call.ask }) next.asked in
        subst (λ (x : Errand). LowRequest most x.request) e.2 (work-low most p.seen p.work e.0 (s.hosts host).fine.seen (s.hosts host).work e.1)

    replied-low : LowReply most call.answer.reply
    replied-low = subst (LowReply most) (sym (ap (λ (c : Call). c.answer.reply) next.replied))
        (rule-low most (bay_at script call.bay earlier) call.ask (is_fault call.answer.reply) (s.bays call.bay) asked-low).reply

    host-step : (host : HostNo) (own : Bool) → (host.0 < 16) ⊎ (jobs_of script host ≡ []) → Small (most + 48) (if_taken script host (progress_at script host earlier) call own)
    host-step host true (inl few) = takes-small script host few most (omega (arith, less)) (progress_at script host earlier) call (s.hosts host) replied-low
    host-step host true (inr none) =
        idle-small (most + 48) (if_taken script host (progress_at script host earlier) call true)
        (idle-takes script host (progress_at script host earlier) call true (idle-history script host earlier none))
    host-step host false any = small-more most (most + 48) (omega arith) (progress_at script host earlier) (s.hosts host)

    bay-step : (bay : Bay) (here : Bool) → LowBay most bay → LowBay (most + 48) (if_ruled bay call here)
    bay-step bay true low = bay-more most (most + 48) (omega arith) (if_ruled bay call true) (rule-low most bay call.ask (is_fault call.answer.reply) low asked-low).bay
    bay-step bay false low = bay-more most (most + 48) (omega arith) bay low

    all-step : AllSmall (call ∷ earlier) (most + 48)
    all-step = record {
      hosts = λ host. host-step host (call.ask.host.0 == host.0) (few-or-idle 0 host script.hosts is.hosts);
      bays = λ bay. bay-step (bay_at script bay earlier) (call.bay.0 == bay.0) (s.bays bay);
      calls = (call-small most call (omega (arith, less)) asked-low replied-low, s.calls);
    }

  all-history : (history : List Call) → IsHistory script history → length history ≤ 2 ^ 20 → AllSmall history (32 + 48 * length history)
  all-history [] h few = record { hosts = start-small; bays = λ bay. first-bay-low 32 script.mode script.rows script.patience; calls = tt }
  all-history (call ∷ earlier) h few =
      let s : AllSmall earlier (32 + 48 * length earlier) = all-history earlier h.0 (omega (arith, few)) in
      let same : 32 + 48 * length earlier + 48 ≡ 32 + 48 * length (call ∷ earlier) = omega arith in
      subst (AllSmall (call ∷ earlier)) same (all-step call earlier (32 + 48 * length earlier) (omega (arith, few)) s h.1)

  calls-few : (history : List Call) → IsHistory script history → total script ≤ 2 ^ 20 → length history ≤ 2 ^ 20
  calls-few history h light =
      omega (
        arith,
        light,
        (requests_are_bounded script history (record { ranges = is }) (are-asked history h)).calls,
        (totals_cover_requests script (record { ranges = is })).all,
      )

pub numbers_stay_small : NumbersStaySmall
numbers_stay_small script history is light h =
    let few : length history ≤ 2 ^ 20 = calls-few script is history h light in
    let s : AllSmall script is history (32 + 48 * length history) = all-history script is history h few in (
      s.calls,
      λ host. let low = (s.hosts host).fine.seen in omega (arith, low, few),
      λ host. (s.hosts host).fine.endings,
    )
