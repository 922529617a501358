-- How a host's progress takes an answer.
use Rattle.std.proofs.Common.{◌≡◌, ℕ, ◌+◌, ◌<◌, ◌≤◌, ◌^◌, ◌%◌, zero, suc, List, [], ◌∷◌, ◌++◌, length, Bool, true, false, Option, Some, None, refl, sym, ap, subst, ◌∙◌, arith}
use Rattle.std.specs.Prelude.{nat_lt, ok_or, if◌then◌else◌, option_map, drop, sum_by}
use Rattle.std.proofs.lemmas.List.Sums.{sum_by-cons}
use Rattle.std.proofs.lemmas.List.{length-drop}
use Rattle.std.proofs.lemmas.Bool.Decides.{nat_tests}
use Rattle.raid_base.specs.declared.numbers.HostNo.{HostNo}
use Rattle.raid_base.specs.declared.numbers.Number.{Number}
use Rattle.raid_base.specs.declared.messages.Reply.{Reply}
use Rattle.raid_base.specs.declared.messages.Errand.{Errand}
use Rattle.raid_base.specs.Numbers.{draw, seen_drawn, least_above, sees}
use Rattle.raid_base.specs.Steps.{Steps, Asks, Draws, Ends, Standing, draws, answer, stopped, settled, told, next_errand, behind}
use Rattle.raid_base.specs.Fits.{fits}
use Rattle.raid_base.specs.Exchanges.{are_kept}
use Rattle.raid_base.proofs.ExchangeLemmas.{fits-kept}
use Rattle.attempts.specs.Taking.{Finish}
use Rattle.attempts.specs.Discipline.{Obeys, IsDrawn, IsWithin}
use Rattle.std.specs.Vec.{vec_len, vec_capacity}
use Rattle.raid_base.specs.declared.messages.Call.{Call}
use Rattle.raid_base.specs.declared.messages.Answer.{Answer}
use Rattle.raid_base.specs.declared.messages.Ask.{Ask}
use Rattle.raid_base.specs.declared.numbers.BayNo.{BayNo}
use Rattle.raid_base.specs.declared.jobs.Ended.{Ended}
use Rattle.raid_base.specs.declared.jobs.JobEnd.{JobEnd}
use Rattle.raid_base.specs.declared.jobs.JobEnd.TheVariants as job_ends
use Rattle.raid_base.specs.declared.jobs.Job.{Job}
use Rattle.raid_base.specs.declared.cells.Content.{Content}
use Rattle.place_numbers.specs.declared.Numbers.{Numbers}
use Rattle.histories.proofs.hands.Settled.{draws-settled}
use Rattle.host_engine.specs.Left.{left, Suits, SuitsWork}
use Rattle.host_engine.specs.declared.attempt.Attempt.{Attempt}
use Rattle.host_engine.specs.declared.duty.Duty.{Duty}
use Rattle.host_engine.specs.declared.duty.Duty.TheVariants as duties
use Rattle.host_engine.specs.declared.host.Host.{Host}
use Rattle.host_engine.specs.Stands.{Counts, Stands, KeepsRoom, Told, IsTrying, IsAsking, Quits, IsNoted, CanHear, CanTake, Takes, IsSentBy, sent_pair, contents_of, work_of}
use Rattle.script_text.specs.Script.{Script, jobs_of}
use Rattle.histories.specs.Progress.{Progress, Ending, Work, Trying, Losing, Fitting, Over, steps_left, asks_on, attempt_ended, job_ended, stops, quit_end, with_ending, next_job, work_told, call_counted, asks, sent_by, work_errand, Sent}
use Rattle.histories.specs.Plain.{FitsNext, FirstTried, first_blocks, contents_in}
use Rattle.histories.specs.Bounds.{Keeps, KeepsSteps, KeepsDevice, KeepsWork, IsFinish, job_contents}
use Rattle.histories.proofs.bounds.BoundsTries.{read-most}
use Rattle.host_engine.proofs.HostLemmas.{stopped-stands}

-- the attempt goes on
pub steps-go : (script : Script) (host : HostNo) (p : Progress) (steps : Steps Finish) → stops p ≡ false → draws steps ≡ false → answer steps ≡ None →
    steps_left script host p steps ≡ record p { work = Trying steps }
steps-go script host p (Asks e t c k) goes still open_ = ap (asks_on p (Asks e t c k) t) goes
steps-go script host p (Draws k) goes still open_ = cc
steps-go script host p (Ends a) goes still open_ = cc

-- or the host stops with it
pub steps-quit : (script : Script) (host : HostNo) (p : Progress) (steps : Steps Finish) (stop : Ended) → stops p ≡ true → stopped steps ≡ Some stop →
    steps_left script host p steps ≡ record (next_job (with_ending p (quit_end p.tries stop) [])) { work = Over }
steps-quit script host p (Asks e t c k) stop quits is =
    let same : t ≡ stop = cc in
    ap (asks_on p (Asks e t c k) t) quits ∙ ap (λ (x : Ended). asks_on p (Asks e t c k) x true) same
steps-quit script host p (Draws k) stop quits is = cc
steps-quit script host p (Ends a) stop quits is = cc

-- what has not ended and draws nothing says how it would end
pub stop-some : (steps : Steps Finish) → draws steps ≡ false → answer steps ≡ None → (stop : Ended) × (stopped steps ≡ Some stop)
stop-some (Asks e t c k) still open_ = (t, refl)
stop-some (Draws k) still open_ = cc
stop-some (Ends a) still open_ = cc

-- or it has ended
pub steps-end : (script : Script) (host : HostNo) (p : Progress) (steps : Steps Finish) (f : Finish) → answer steps ≡ Some f →
    steps_left script host p steps ≡ attempt_ended script host p f.contents f.ended
steps-end script host p (Asks e t c k) f is = cc
steps-end script host p (Draws k) f is = cc
steps-end script host p (Ends a) f is = let same : a ≡ f = cc in ap (λ (g : Finish). attempt_ended script host p g.contents g.ended) same

-- a drawn number is within
drawn-within : (host floor : ℕ) (n : ℕ) (b : Bool) → nat_lt n (2 ^ 62) ≡ b → 1 ≤ n → (spent : _) → IsDrawn (ok_or (if b then Some (record { 0 = n }) else None) spent)
drawn-within host floor n true e some spent = record { least = some; most = grind (arith, nat_tests) }
drawn-within host floor n false e some spent = tt

least-some : (host floor : ℕ) (b : Bool) → nat_lt (floor % 16) host ≡ b → 1 ≤ least_above host floor
least-some host floor true e = rw e (let h : floor % 16 < host = grind (arith, nat_tests) in omega arith)
least-some host floor false e = rw e (omega arith)

pub draw-within : (host : HostNo) (seen : Number) → IsDrawn (draw host seen)
draw-within host seen = drawn-within host.0 seen.0 (least_above host.0 seen.0) _ refl (least-some host.0 seen.0 _ refl) _

-- what obeys still does once it is settled
pub obeys-settled : {A : Type 0} (P : Errand → Type 0) (Q : A → Type 0) (most : ℕ) (host : HostNo) (seen : Number) (s : Steps A) →
    Obeys P Q most s → Obeys P Q most (settled host seen s).steps
obeys-settled P Q most host seen (Asks e t c k) o = o
obeys-settled P Q most host seen (Draws k) o = obeys-settled P Q most host (seen_drawn seen (draw host seen)) (k (draw host seen)) (o (draw host seen) (draw-within host seen))
obeys-settled P Q most host seen (Ends a) o = o

pub obeys-answer : {A : Type 0} (P : Errand → Type 0) (Q : A → Type 0) (most : ℕ) (s : Steps A) (a : A) → Obeys P Q most s → answer s ≡ Some a → Q a
obeys-answer P Q most (Asks e t c k) a o is = cc
obeys-answer P Q most (Draws k) a o is = cc
obeys-answer P Q most (Ends b) a o is = let same : b ≡ a = cc in subst Q same o

-- one request less
pub obeys-told : {A : Type 0} (P : Errand → Type 0) (Q : A → Type 0) (most : ℕ) (host : HostNo) (now : Standing A) (r : Reply) →
    Obeys P Q most now.steps → FitsNext (next_errand now.steps) r → (less : ℕ) × (less + 1 ≡ most) × Obeys P Q less (told host now r).steps
obeys-told P Q most host now r o f = go most now.steps o f
  where
    go : (m : ℕ) (s : Steps _) → Obeys P Q m s → FitsNext (next_errand s) r → (less : ℕ) × (less + 1 ≡ m) × Obeys P Q less (settled host (sees now.seen r) (behind s r)).steps
    go zero (Asks e t c k) o f = absurd o
    go (suc m) (Asks e t c k) o f = (m, omega arith, obeys-settled P Q m host (sees now.seen r) (k r) (o.1 r))
    go m (Draws k) o f = absurd f
    go m (Ends a) o f = absurd f

-- where a host stands once its attempt was told the reply
pub record Advanced (script : Script) (host : HostNo) (mid : Host) (p : Progress) (reply : Reply) : Type 0 where
  pub p2 : Progress
  pub before : Steps Finish
  pub steps : Steps Finish
  pub worked : p.work ≡ Trying before
  pub told_is : steps ≡ (told host (record { seen = p.seen; steps = before }) reply).steps
  pub same_endings : p2.endings ≡ p.endings
  pub takes_it : work_told script host p reply p.work ≡ steps_left script host p2 steps
  pub counts : Counts script host mid p2
  pub same_jobs : p2.jobs ≡ p.jobs
  pub still : draws steps ≡ false
  pub in_hand : mid.duty ≡ Some duties.Trying
  pub left_is : steps ≡ left mid.attempt (first_blocks script p2.jobs)
  pub suits : Suits mid.attempt (first_blocks script p2.jobs)

pub blocks-same : (script : Script) (host : HostNo) (now mid : Host) (p : Progress) → Counts script host now p → mid.script ≡ now.script → mid.jobs ≡ now.jobs → mid.job ≡ now.job →
    first_blocks mid.script.now (drop mid.job mid.jobs.now) ≡ first_blocks script p.jobs
blocks-same script host now mid p c plays listed job =
    ap (λ (s : Script). first_blocks s (drop mid.job mid.jobs.now)) (ap (λ (s : _). s.now) plays ∙ c.plays)
    ∙ ap (λ (k : ℕ). first_blocks script (drop k mid.jobs.now)) job
    ∙ ap (λ (js : List Job). first_blocks script (drop now.job js)) (ap (λ (s : _). s.now) listed ∙ c.listed)
    ∙ ap (first_blocks script) (sym c.jobs)

unfoldable pub advances : (script : Script) (host : HostNo) (old mid : Host) (p : Progress) (reply : Reply) (ended : Option Ended) →
    Stands script host old p → Told old mid reply ended → Advanced script host mid p reply
advances script host old mid p reply ended s t =
    let c = s.counts in
    let bs = first_blocks script p.jobs in
    let blocks : first_blocks old.script.now (drop old.job old.jobs.now) ≡ bs = blocks-same script host old old p c refl refl refl in
    let work : p.work ≡ Trying (left old.attempt bs) = s.work ∙ ap (work_of script p.jobs old.attempt) t.in_hand in
    let seen_is : old.numbers.seen ≡ p.seen = sym c.seen in
    let here : Standing Finish = told host (record { seen = p.seen; steps = left old.attempt bs }) reply in
    let steps : record { seen = mid.numbers.seen; steps = left mid.attempt bs } ≡ here =
    ap (λ (x : List (List ℕ)). record { seen = mid.numbers.seen; steps = left mid.attempt x }) (sym blocks) ∙ t.steps
    ∙ ap (λ (x : List (List ℕ)). told old.numbers.host (record { seen = old.numbers.seen; steps = left old.attempt x }) reply) blocks
    ∙ ap (λ (x : Number). told old.numbers.host (record { seen = x; steps = left old.attempt bs }) reply) seen_is
    ∙ ap (λ (h : HostNo). told h (record { seen = p.seen; steps = left old.attempt bs }) reply) c.draws in
    record {
      p2 = record p { seen = here.seen };
      before = left old.attempt bs;
      steps = here.steps;
      worked = work;
      told_is = refl;
      same_endings = refl;
      takes_it = ap (work_told script host p reply) work;
      counts = record {
        number = t.number ∙ c.number;
        plays = ap (λ (s : _). s.now) t.plays ∙ c.plays;
        listed = ap (λ (s : _). s.now) t.listed ∙ c.listed;
        place = c.place ∙ sym t.job;
        jobs = c.jobs ∙ ap (λ k. drop k (jobs_of script host)) (sym t.job);
        asked = c.asked ∙ sym t.asked;
        tries = c.tries ∙ sym t.tries;
        row = c.row ∙ sym t.row;
        gone = c.gone ∙ sym t.gone;
        draws = t.draws_for ∙ c.draws;
        seen = ap (λ (x : Standing Finish). x.seen) (sym steps);
        clock = c.clock ∙ sym t.clock;
        results = ap (λ (v : _). v.items) t.results ∙ c.results;
        contents = ap (λ (v : _). v.items) t.contents ∙ c.contents;
      };
      same_jobs = refl;
      still = draws-settled host (sees p.seen reply) (behind (left old.attempt bs) reply);
      in_hand = t.still_in_hand;
      left_is = ap (λ (x : Standing Finish). x.steps) (sym steps);
      suits = subst (λ (x : List (List ℕ)). Suits mid.attempt x) blocks t.suits;
    }

-- an attempt that has not ended has no answer
pub open-left : (script : Script) (host : HostNo) (mid : Host) (p : Progress) (reply : Reply) (a : Advanced script host mid p reply) →
    ((blocks : List (List ℕ)) → None ≡ option_map (λ (f : Finish). f.ended) (answer (left mid.attempt blocks))) → answer a.steps ≡ None
open-left script host mid p reply a ends =
    let bs = first_blocks script a.p2.jobs in
    ap answer a.left_is ∙ no-answer (answer (left mid.attempt bs)) (ends bs)
  where
    no-answer : (o : Option Finish) → None ≡ option_map (λ (f : Finish). f.ended) o → o ≡ None
    no-answer None e = refl
    no-answer (Some f) e = cc

-- the attempt goes on
pub stands-on : (script : Script) (host : HostNo) (mid : Host) (p : Progress) (reply : Reply) (a : Advanced script host mid p reply) →
    stops a.p2 ≡ false → ((blocks : List (List ℕ)) → None ≡ option_map (λ (f : Finish). f.ended) (answer (left mid.attempt blocks))) →
    Stands script host mid (work_told script host p reply p.work)
stands-on script host mid p reply a goes ends =
    let go = a.takes_it ∙ steps-go script host a.p2 a.steps goes a.still (open-left script host mid p reply a ends) in
    subst (λ (q : Progress). Stands script host mid q) (sym go) (record {
      counts = record { number = a.counts.number; plays = a.counts.plays; listed = a.counts.listed; place = a.counts.place; jobs = a.counts.jobs; asked = a.counts.asked; tries = a.counts.tries; row = a.counts.row; gone = a.counts.gone; draws = a.counts.draws; seen = a.counts.seen; clock = a.counts.clock; results = a.counts.results; contents = a.counts.contents };
      work = ap Trying a.left_is ∙ sym (ap (work_of script a.p2.jobs mid.attempt) a.in_hand);
      suits = subst (λ (o : Option Duty). SuitsWork o mid.attempt (first_blocks script a.p2.jobs)) (sym a.in_hand) a.suits;
    })

-- or the host stops with it in hand
pub stands-quit : (script : Script) (host : HostNo) (mid last : Host) (p : Progress) (reply : Reply) (a : Advanced script host mid p reply) →
    stops a.p2 ≡ true → ((blocks : List (List ℕ)) → None ≡ option_map (λ (f : Finish). f.ended) (answer (left mid.attempt blocks))) → Quits script host mid last a.p2 →
    Stands script host last (work_told script host p reply p.work)
stands-quit script host mid last p reply a quits ends q =
    let bs = first_blocks script a.p2.jobs in
    let stop = stop-some a.steps a.still (open-left script host mid p reply a ends) in
    subst (λ (r : Progress). Stands script host last r) (sym (a.takes_it ∙ steps-quit script host a.p2 a.steps stop.0 quits stop.1))
    (q bs stop.0 (ap stopped (sym a.left_is) ∙ stop.1))

-- or it has ended
pub ends-as : (script : Script) (host : HostNo) (mid : Host) (p : Progress) (reply : Reply) (a : Advanced script host mid p reply) (ended : Ended) (read : List Content) →
    ((blocks : List (List ℕ)) → Some ended ≡ option_map (λ (f : Finish). f.ended) (answer (left mid.attempt blocks))) →
    ((blocks : List (List ℕ)) → read ≡ contents_in (answer (left mid.attempt blocks))) →
    work_told script host p reply p.work ≡ attempt_ended script host a.p2 read ended
ends-as script host mid p reply a ended read ends reads =
    let bs = first_blocks script a.p2.jobs in
    a.takes_it ∙ go (answer (left mid.attempt bs)) (ap answer a.left_is) (ends bs) (reads bs)
  where
    go : (o : Option Finish) → answer a.steps ≡ o → Some ended ≡ option_map (λ (f : Finish). f.ended) o → read ≡ contents_in o →
        steps_left script host a.p2 a.steps ≡ attempt_ended script host a.p2 read ended
    go None is e r = cc
    go (Some f) is e r =
        let same : f.ended ≡ ended = cc in
        steps-end script host a.p2 a.steps f is ∙ ap (λ (x : Ended). attempt_ended script host a.p2 f.contents x) same
        ∙ ap (λ (cs : List Content). attempt_ended script host a.p2 cs ended) (sym r)

-- what a host asks, read off its code
pub sent-is : (script : Script) (host : HostNo) (now : Host) (p : Progress) (moment : ℕ) → Stands script host now p →
    asks host p moment ≡ sent_by now.no now.clock moment (work_errand (work_of now.script.now (drop now.job now.jobs.now) now.attempt now.duty))
sent-is script host now p moment s =
    let c = s.counts in
    let jobs : p.jobs ≡ drop now.job now.jobs.now = c.jobs ∙ ap (drop now.job) (sym c.listed) in
    let work : p.work ≡ work_of now.script.now (drop now.job now.jobs.now) now.attempt now.duty =
    s.work ∙ ap (λ (js : List Job). work_of script js now.attempt now.duty) jobs ∙ ap (λ (x : Script). work_of x (drop now.job now.jobs.now) now.attempt now.duty) (sym c.plays) in
    ap (λ (h : HostNo). sent_by h p.clock moment (work_errand p.work)) (sym c.number)
    ∙ ap (λ (k : ℕ). sent_by now.no k moment (work_errand p.work)) c.clock
    ∙ ap (λ (w : Work). sent_by now.no now.clock moment (work_errand w)) work

fits-some : (o : Option Errand) (r : Reply) → FitsNext o r → (e : Errand) × (o ≡ Some e)
fits-some None r f = absurd f
fits-some (Some e) r f = (e, refl)

-- a host that may take an answer has asked
pub has-sent : (now : Host) (moment : ℕ) (given : Answer) (r : CanTake now moment given) → (sent : Sent) × IsSentBy now moment sent × (asks r.host r.p moment ≡ Some sent)
has-sent now moment given r =
    let e = fits-some (work_errand r.p.work) given.reply r.asked in
    let asked = ap (sent_by r.host r.p.clock moment) e.1 in
    (_, sym (sent-is r.script r.host now r.p moment r.stands) ∙ asked, asked)

pub sent-once : (now : Host) (moment : ℕ) (sent other : Sent) → IsSentBy now moment sent → IsSentBy now moment other → sent ≡ other
sent-once now moment sent other s o = cc

-- what an ended attempt may report
module _ (script : Script) (host : HostNo) (p : Progress) (requests most : ℕ) (reply : Reply) where
  keeps-finish : (jobs : List Job) (s : Steps Finish) (f : Finish) → KeepsSteps script jobs p.row p.tries requests s → FitsNext (next_errand s) reply →
      answer (told host (record { seen = p.seen; steps = s }) reply).steps ≡ Some f → length f.contents ≤ sum_by job_contents jobs
  keeps-finish [] s f k fits is = absurd k
  keeps-finish (job ∷ jobs) s f k fits is =
      let less = obeys-told (IsWithin script.n script.rows) (IsFinish script job.task) k.0 host (record { seen = p.seen; steps = s }) reply k.2 fits in
      let fine : IsFinish script job.task f = obeys-answer (IsWithin script.n script.rows) (IsFinish script job.task) less.0 _ f less.2 is in
      let few : length f.contents ≤ job_contents job = read-most script job.task f fine in
      omega (arith, few, sum_by-cons job_contents job jobs)

  pub finish-within : (keeps : Keeps script p requests most) (s : Steps Finish) (f : Finish) → p.work ≡ Trying s → FitsNext (work_errand p.work) reply →
      answer (told host (record { seen = p.seen; steps = s }) reply).steps ≡ Some f →
      length (contents_of p.endings) + length f.contents ≤ most
  finish-within keeps s f work fits is =
      let kept : KeepsSteps script p.jobs p.row p.tries requests s = subst (KeepsWork script p.jobs p.row p.tries requests) work keeps.work in
      let fits' : FitsNext (next_errand s) reply = subst (λ (w : Work). FitsNext (work_errand w) reply) work fits in
      let few = keeps-finish p.jobs s f kept fits' is in
      omega (arith, few, keeps.reads)

  keeps-first : (jobs : List Job) (s : Steps Finish) → KeepsSteps script jobs p.row p.tries requests s → FitsNext (next_errand s) reply →
      (0 < length jobs) × FirstTried script jobs × (1 ≤ requests)
  keeps-first [] s k fits = absurd k
  keeps-first (job ∷ jobs) s k fits =
      let less = obeys-told (IsWithin script.n script.rows) (IsFinish script job.task) k.0 host (record { seen = p.seen; steps = s }) reply k.2 fits in
      (omega arith, k.1, omega (arith, less.1, k.3))

  -- the job in hand
  pub first-within : (keeps : Keeps script p requests most) (s : Steps Finish) → p.work ≡ Trying s → FitsNext (work_errand p.work) reply →
      (0 < length p.jobs) × FirstTried script p.jobs × (1 ≤ requests)
  first-within keeps s work fits =
      keeps-first p.jobs s (subst (KeepsWork script p.jobs p.row p.tries requests) work keeps.work) (subst (λ (w : Work). FitsNext (work_errand w) reply) work fits)

  device-within : (jobs : List Job) (bay : BayNo) → KeepsDevice script jobs requests bay → (0 < length jobs) × (1 ≤ requests)
  device-within [] bay k = absurd k
  device-within (job ∷ jobs) bay k = (omega arith, omega (arith, k.1))

  work-within : (w : Work) → KeepsWork script p.jobs p.row p.tries requests w → FitsNext (work_errand w) reply → (0 < length p.jobs) × (1 ≤ requests)
  work-within (Trying s) k fits = let e = keeps-first p.jobs s k fits in (e.0, e.2)
  work-within (Losing bay) k fits = device-within p.jobs bay k
  work-within (Fitting bay) k fits = device-within p.jobs bay k
  work-within Over k fits = absurd fits

  -- a host that asks has a job in hand and a request left
  pub some-within : (keeps : Keeps script p requests most) → FitsNext (work_errand p.work) reply → (0 < length p.jobs) × (1 ≤ requests)
  some-within keeps fits = work-within p.work keeps.work fits

-- a host that has asked hands its request out
pub next-some : (now : Host) (moment : ℕ) (given : Answer) (r : CanTake now moment given) (result : Option (BayNo × Ask)) →
    ((script : Script) (host : HostNo) (p : Progress) → Stands script host now p → result ≡ sent_pair (asks host p moment)) →
    (sent : Sent) × IsSentBy now moment sent × (result ≡ Some (sent.bay, sent.ask))
next-some now moment given r result n =
    let s = has-sent now moment given r in
    (s.0, s.1, n r.script r.host r.p r.stands ∙ ap sent_pair s.2)

pub next-none : (now : Host) (moment : ℕ) (given : Answer) → CanTake now moment given → (result : Option (BayNo × Ask)) →
    ((script : Script) (host : HostNo) (p : Progress) → Stands script host now p → result ≡ sent_pair (asks host p moment)) →
    result ≡ None → ⊥
next-none now moment given r result n is = let s = next-some now moment given r result n in cc s.2

-- the call that is taken
pub call-of : (now : Host) (moment : ℕ) (given : Answer) (r : CanTake now moment given) (bay : BayNo) (ask : Ask) (sent : Sent) →
    ((script : Script) (host : HostNo) (p : Progress) → Stands script host now p → Some (bay, ask) ≡ sent_pair (asks host p moment)) →
    IsSentBy now moment sent → (bay ≡ sent.bay) × (ask ≡ sent.ask)
call-of now moment given r bay ask sent n is =
    let s = next-some now moment given r (Some (bay, ask)) n in
    let same : s.0 ≡ sent = sent-once now moment s.0 sent s.1 is in
    let pair : (bay, ask) ≡ (s.0.bay, s.0.ask) = cc s.2 in
    (ap (λ (x : BayNo × Ask). x.0) pair ∙ ap (λ (x : Sent). x.bay) same, ap (λ (x : BayNo × Ask). x.1) pair ∙ ap (λ (x : Sent). x.ask) same)

-- what was handed out is what the host has sent
pub sent-of : (now : Host) (moment : ℕ) (given : Answer) (r : CanTake now moment given) (bay : BayNo) (ask : Ask) →
    ((script : Script) (host : HostNo) (p : Progress) → Stands script host now p → Some (bay, ask) ≡ sent_pair (asks host p moment)) →
    IsSentBy now moment (record { bay = bay; ask = ask })
sent-of now moment given r bay ask n =
    let s = next-some now moment given r (Some (bay, ask)) n in
    let same = call-of now moment given r bay ask s.0 n s.1 in
    let is : s.0 ≡ record { bay = bay; ask = ask } =
    ap (λ (b : BayNo). record { bay = b; ask = s.0.ask }) (sym same.0) ∙ ap (λ (a : Ask). record { bay = bay; ask = a }) (sym same.1) in
    subst (IsSentBy now moment) is s.1

-- and the answer to it can be kept with it
pub kept-sent : (now : Host) (moment : ℕ) (given : Answer) (r : CanTake now moment given) (bay : BayNo) (ask : Ask) →
    IsSentBy now moment (record { bay = bay; ask = ask }) → are_kept ask.what given.reply ≡ true
kept-sent now moment given r bay ask is =
    let e = fits-some (work_errand r.p.work) given.reply r.asked in
    let s = has-sent now moment given r in
    let made : Sent = record { bay = e.0.bay; ask = record { host = r.host; clock = r.p.clock; moment = moment; what = e.0.request } } in
    let asked : Some made ≡ Some s.0 = sym (ap (sent_by r.host r.p.clock moment) e.1) ∙ s.2 in
    let first : made ≡ s.0 = cc asked in
    let same : made ≡ record { bay = bay; ask = ask } = first ∙ sent-once now moment s.0 (record { bay = bay; ask = ask }) s.1 is in
    let fitting : fits e.0.request given.reply ≡ true = subst (λ (o : Option Errand). FitsNext o given.reply) e.1 r.asked in
    fits-kept ask.what given.reply (subst (λ (x : Sent). fits x.ask.what given.reply ≡ true) same fitting)

-- and it has sent no other
pub same-sent : (now : Host) (moment : ℕ) (bay : BayNo) (ask : Ask) (sent : Sent) → IsSentBy now moment (record { bay = bay; ask = ask }) → IsSentBy now moment sent →
    (bay ≡ sent.bay) × (ask ≡ sent.ask)
same-sent now moment bay ask sent given is =
    let same : record { bay = bay; ask = ask } ≡ sent = sent-once now moment (record { bay = bay; ask = ask }) sent given is in
    (ap (λ (s : Sent). s.bay) same, ap (λ (s : Sent). s.ask) same)

pub noted-call : (before after : List Call) (given : Answer) (bay : BayNo) (ask : Ask) (sent : Sent) →
    after ≡ before ++ record { bay = bay; ask = ask; answer = given } ∷ [] → (bay ≡ sent.bay) × (ask ≡ sent.ask) →
    after ≡ before ++ record { bay = sent.bay; ask = sent.ask; answer = given } ∷ []
noted-call before after given bay ask sent noted same =
    noted ∙ ap (λ (b : BayNo). before ++ record { bay = b; ask = ask; answer = given } ∷ []) same.0
    ∙ ap (λ (a : Ask). before ++ record { bay = sent.bay; ask = a; answer = given } ∷ []) same.1

-- a call was counted
pub stands-noted : (script : Script) (host : HostNo) (old mid : Host) (p : Progress) (call : Call) → Stands script host old p → IsNoted old mid call.answer.clock →
    Stands script host mid (call_counted p call)
stands-noted script host old mid p call s n =
    let c = s.counts in
    record {
      counts = record {
        number = n.number ∙ c.number;
        plays = ap (λ (s : _). s.now) n.plays ∙ c.plays;
        listed = ap (λ (s : _). s.now) n.listed ∙ c.listed;
        place = c.place ∙ sym n.job;
        jobs = c.jobs ∙ ap (λ k. drop k (jobs_of script host)) (sym n.job);
        asked = ap (λ k. k + 1) c.asked ∙ sym n.asked;
        tries = c.tries ∙ sym n.tries;
        row = c.row ∙ sym n.row;
        gone = c.gone ∙ sym n.gone;
        draws = ap (λ (x : Numbers). x.host) n.numbers ∙ c.draws;
        seen = c.seen ∙ sym (ap (λ (x : Numbers). x.seen) n.numbers);
        clock = sym n.clock_is;
        results = ap (λ (v : _). v.items) n.results ∙ c.results;
        contents = ap (λ (v : _). v.items) n.contents ∙ c.contents;
      };
      work = s.work ∙ ap (work_of script p.jobs old.attempt) (sym n.duty) ∙ ap (λ (a : Attempt). work_of script p.jobs a mid.duty) (sym n.attempt);
      suits = subst (λ (a : Attempt). SuitsWork mid.duty a (first_blocks script p.jobs)) (sym n.attempt)
          (subst (λ (o : Option Duty). SuitsWork o old.attempt (first_blocks script p.jobs)) (sym n.duty) s.suits);
    }

-- it may be told the reply
pub may-hear : (old mid : Host) (moment : ℕ) (given : Answer) (r : CanTake old moment given) (call : Call) → call.answer ≡ given → IsNoted old mid given.clock → CanHear mid given.reply
may-hear old mid moment given r call is n =
    let k = r.keeps in
    let same = ap vec_capacity n.contents in
    record {
      script = r.script;
      host = r.host;
      p = call_counted r.p call;
      requests = r.requests;
      contents = r.contents;
      stands = stands-noted r.script r.host old mid r.p call r.stands (subst (λ (a : Answer). IsNoted old mid a.clock) (sym is) n);
      keeps = record { aims = k.aims; tries = k.tries; row = k.row; work = k.work; reads = k.reads };
      asked = r.asked;
      reads = omega (arith, r.reads, same);
    }

-- all that a call does
pub takes-all : (old noted last : Host) (moment : ℕ) (given : Answer) (sent : Sent) → IsNoted old noted given.clock →
    noted.transcript.items ≡ old.transcript.items ++ record { bay = sent.bay; ask = sent.ask; answer = given } ∷ [] →
    vec_capacity noted.transcript ≡ vec_capacity old.transcript → KeepsRoom noted last →
    ((script : Script) (host : HostNo) (p : Progress) → Stands script host noted p → Stands script host last (work_told script host p given.reply p.work)) →
    Takes old last moment given sent
takes-all old noted last moment given sent n items room kept stands = record {
  call = ap (λ (v : _). v.items) kept.transcript ∙ items;
  calls = ap vec_capacity kept.transcript ∙ room;
  reads = let same = ap vec_capacity n.contents in omega (arith, same, kept.contents);
  stands = λ script host p s.
      let call : Call = record { bay = sent.bay; ask = sent.ask; answer = given } in
      stands script host (call_counted p call) (stands-noted script host old noted p call s n);
}

-- what an ended attempt needs
within-at : (script : Script) (host : HostNo) (mid : Host) (p : Progress) (requests contents : ℕ) (reply : Reply) (a : Advanced script host mid p reply) (ended : Ended) (read : List Content) →
    Keeps script p requests contents → FitsNext (work_errand p.work) reply → contents ≤ vec_capacity mid.contents →
    (o : Option Finish) → answer a.steps ≡ o → Some ended ≡ option_map (λ (f : Finish). f.ended) o → read ≡ contents_in o →
    vec_len mid.contents + length read ≤ vec_capacity mid.contents
within-at script host mid p requests contents reply a end read keeps fits room None is e c = cc
within-at script host mid p requests contents reply a end read keeps fits room (Some f) is e c =
    let fine = finish-within script host p requests contents reply keeps a.before f a.worked fits (ap answer (sym a.told_is) ∙ is) in
    let len : vec_len mid.contents ≡ length (contents_of p.endings) = mid.contents.ok.0 ∙ ap length a.counts.contents ∙ ap (λ (es : List Ending). length (contents_of es)) a.same_endings in
    omega (arith, len, ap length c, fine, room)

pub end-within : (old mid : Host) (reply : Reply) (r : CanHear old reply) (result : Option Ended) (ended : Ended) (read : List Content) →
    (t : Told old mid reply result) → result ≡ Some ended →
    ((blocks : List (List ℕ)) → read ≡ contents_in (answer (left mid.attempt blocks))) →
    vec_len mid.contents + length read ≤ vec_capacity mid.contents
unfolding advances
end-within old mid reply r result ended read t some reads =
    let a = advances r.script r.host old mid r.p reply result r.stands t in
    let bs = first_blocks r.script r.p.jobs in
    within-at r.script r.host mid r.p r.requests r.contents reply a ended read r.keeps r.asked
    (let same = ap vec_capacity t.contents in omega (arith, same, r.reads)) (answer (left mid.attempt bs)) (ap answer a.left_is) (sym some ∙ t.ends bs) (reads bs)

-- what code needs to know of the job in hand
pub record Needs (now : Host) : Type 0 where
  pub job : now.job < length now.jobs.now
  pub tries : now.tries ≤ now.script.now.tries
  pub row : now.row < now.script.now.rows

needs-of : (script : Script) (host : HostNo) (now : Host) (p : Progress) → Counts script host now p → 0 < length p.jobs → p.tries ≤ script.tries → p.row < script.rows → Needs now
needs-of script host now p c some tries row =
    let jobs = ap length c.jobs in
    let listed = ap length c.listed in
    let left = length-drop now.job (jobs_of script host) in
    let most = ap (λ (s : Script). s.tries) c.plays in
    let rows = ap (λ (s : Script). s.rows) c.plays in
    record {
      job = omega (arith, jobs, listed, left, some);
      tries = omega (arith, c.tries, most, tries);
      row = omega (arith, c.row, rows, row);
    }

tried-of : (script : Script) (host : HostNo) (now : Host) (p : Progress) → Counts script host now p → FirstTried script p.jobs → FirstTried now.script.now (drop now.job now.jobs.now)
tried-of script host now p c tried =
    let jobs : p.jobs ≡ drop now.job now.jobs.now = c.jobs ∙ ap (drop now.job) (sym c.listed) in
    subst (λ (s : Script). FirstTried s (drop now.job now.jobs.now)) (sym c.plays) (subst (λ (js : List Job). FirstTried script js) jobs tried)

-- a host that may be told a reply
pub hear-needs : (now : Host) (reply : Reply) → CanHear now reply → Needs now
hear-needs now reply r =
    needs-of r.script r.host now r.p r.stands.counts (some-within r.script r.host r.p r.requests r.contents reply r.keeps r.asked).0 r.keeps.tries r.keeps.row

pub hear-asked : (now : Host) (reply : Reply) → CanHear now reply → FitsNext (work_errand (work_of now.script.now (drop now.job now.jobs.now) now.attempt now.duty)) reply
hear-asked now reply r =
    let c = r.stands.counts in
    let jobs : r.p.jobs ≡ drop now.job now.jobs.now = c.jobs ∙ ap (drop now.job) (sym c.listed) in
    let work : r.p.work ≡ work_of now.script.now (drop now.job now.jobs.now) now.attempt now.duty =
    r.stands.work ∙ ap (λ (js : List Job). work_of r.script js now.attempt now.duty) jobs ∙ ap (λ (x : Script). work_of x (drop now.job now.jobs.now) now.attempt now.duty) (sym c.plays) in
    subst (λ (w : Work). FitsNext (work_errand w) reply) work r.asked

pub hear-suits : (now : Host) (reply : Reply) → CanHear now reply → SuitsWork now.duty now.attempt (first_blocks now.script.now (drop now.job now.jobs.now))
hear-suits now reply r =
    subst (λ (bs : List (List ℕ)). SuitsWork now.duty now.attempt bs) (sym (blocks-same r.script r.host now now r.p r.stands.counts refl refl refl)) r.stands.suits

-- one that has an attempt in hand
pub trying-asked : (now : Host) (reply : Reply) → CanHear now reply → IsTrying now → FitsNext (next_errand (left now.attempt (first_blocks now.script.now (drop now.job now.jobs.now)))) reply
trying-asked now reply r t =
    subst (λ (o : Option Duty). FitsNext (work_errand (work_of now.script.now (drop now.job now.jobs.now) now.attempt o)) reply) t (hear-asked now reply r)

pub trying-suits : (now : Host) (reply : Reply) → CanHear now reply → IsTrying now → Suits now.attempt (first_blocks now.script.now (drop now.job now.jobs.now))
trying-suits now reply r t =
    subst (λ (o : Option Duty). SuitsWork o now.attempt (first_blocks now.script.now (drop now.job now.jobs.now))) t (hear-suits now reply r)

-- one whose attempt has ended
pub end-needs : (old mid : Host) (reply : Reply) (r : CanHear old reply) (result : Option Ended) (t : Told old mid reply result) →
    Needs mid × FirstTried mid.script.now (drop mid.job mid.jobs.now)
unfolding advances
end-needs old mid reply r result t =
    let a = advances r.script r.host old mid r.p reply result r.stands t in
    let first = first-within r.script r.host r.p r.requests r.contents reply r.keeps a.before a.worked r.asked in
    (needs-of r.script r.host mid a.p2 a.counts first.0 r.keeps.tries r.keeps.row, tried-of r.script r.host mid a.p2 a.counts first.1)

-- the attempt in hand goes on
pub open-asking : (mid : Host) → mid.duty ≡ Some duties.Trying → ((blocks : List (List ℕ)) → None ≡ option_map (λ (f : Finish). f.ended) (answer (left mid.attempt blocks))) → IsAsking mid
open-asking mid in_hand ends = (in_hand, λ blocks. by (answer (left mid.attempt blocks)) (ends blocks))
  where
    by : (o : Option Finish) → None ≡ option_map (λ (f : Finish). f.ended) o → o ≡ None
    by None e = refl
    by (Some f) e = cc

-- a host that may take an answer has room for its call
pub take-room : (now : Host) (moment : ℕ) (given : Answer) → CanTake now moment given → vec_len now.transcript < vec_capacity now.transcript
take-room now moment given r =
    let some = (some-within r.script r.host r.p r.requests r.contents given.reply r.keeps r.asked).1 in
    omega (arith, some, r.calls)

-- how its attempt ended is said of any blocks
pub open-ends : (t : Attempt) (result : Option Ended) → result ≡ None → ((blocks : List (List ℕ)) → result ≡ option_map (λ (f : Finish). f.ended) (answer (left t blocks))) →
    (blocks : List (List ℕ)) → None ≡ option_map (λ (f : Finish). f.ended) (answer (left t blocks))
open-ends t result none ends blocks = sym none ∙ ends blocks

-- where the host stops its job ends as its attempt does
pub quits-as : (script : Script) (host : HostNo) (last : Host) (p : Progress) (t : Attempt) (blocks : List (List ℕ)) (stop given : Ended) (tries : ℕ) (says : JobEnd) →
    Some given ≡ stopped (left t blocks) → stopped (left t blocks) ≡ Some stop → says ≡ quit_end tries given → p.tries ≡ tries →
    Counts script host last (next_job (with_ending p says [])) → last.duty ≡ None → Stands script host last (record (next_job (with_ending p (quit_end p.tries stop) [])) { work = Over })
quits-as script host last p t blocks stop given tries says is_given is_stop is_end counted c none =
    let stops_so : Some given ≡ Some stop = is_given ∙ is_stop in
    let gives : given ≡ stop = cc in
    let is : says ≡ quit_end p.tries stop = is_end ∙ ap (quit_end tries) gives ∙ ap (λ (k : ℕ). quit_end k stop) (sym counted) in
    subst (λ (e : JobEnd). Stands script host last (record (next_job (with_ending p e [])) { work = Over })) is
    (stopped-stands script host last (next_job (with_ending p says [])) c none)

-- a device was lost, or another was fitted for it
pub loses-as : (script : Script) (host : HostNo) (mid last : Host) (p : Progress) (reply : Reply) (bay : BayNo) → Stands script host mid p → mid.duty ≡ Some (duties.Losing bay) →
    Stands script host last (job_ended script host (record p { gone = Some (record { bay = bay; fitted = false }) }) job_ends.Lost []) → Stands script host last (work_told script host p reply p.work)
loses-as script host mid last p reply bay s is e =
    subst (λ (w : Work). Stands script host last (work_told script host p reply w)) (sym (s.work ∙ ap (work_of script p.jobs mid.attempt) is)) e

pub fits-as : (script : Script) (host : HostNo) (mid last : Host) (p : Progress) (reply : Reply) (bay : BayNo) → Stands script host mid p → mid.duty ≡ Some (duties.Fitting bay) →
    Stands script host last (job_ended script host (record p { gone = Some (record { bay = bay; fitted = true }) }) job_ends.Fitted []) → Stands script host last (work_told script host p reply p.work)
fits-as script host mid last p reply bay s is e =
    subst (λ (w : Work). Stands script host last (work_told script host p reply w)) (sym (s.work ∙ ap (work_of script p.jobs mid.attempt) is)) e
