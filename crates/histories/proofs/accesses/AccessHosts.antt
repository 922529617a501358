-- Each attempt of a host has an id of its own, and all calls with that id are the attempt's.
use Rattle.std.proofs.Common.{◌≡◌, ℕ, ◌+◌, ◌%◌, ◌<◌, ◌≤◌, ◌==◌, ◌||◌, Bool, true, false, if◌then◌else◌, List, [], ◌∷◌, drop, Option, Some, None, Result, Ok, Err, refl, sym, ap, subst, ◌∙◌, arith}
use Rattle.std.specs.List.{AllByRecursion}
use Rattle.std.proofs.lemmas.Bool.Decides.{nat_tests}
use Rattle.raid_base.specs.declared.numbers.BayNo.{BayNo}
use Rattle.raid_base.specs.declared.numbers.HostNo.{HostNo}
use Rattle.raid_base.specs.declared.numbers.Number.{Number}
use Rattle.raid_base.specs.declared.numbers.Spent.{Spent}
use Rattle.raid_base.specs.declared.cells.Content.{Content}
use Rattle.raid_base.specs.declared.messages.Call.{Call}
use Rattle.raid_base.specs.declared.messages.Note.{Note}
use Rattle.raid_base.specs.declared.messages.Errand.{Errand}
use Rattle.raid_base.specs.declared.messages.Request.{Request}
use Rattle.raid_base.specs.declared.messages.Request.TheVariants.{Share, Claim, Confirm, Put, Release, Lose, Fit}
use Rattle.raid_base.specs.declared.messages.Reply.{Reply}
use Rattle.raid_base.specs.declared.messages.Reply.TheVariants.{Granted, Busy, Late, Young, Missing, Held, NoNote, Done, Fault, Emptied, Fitted}
use Rattle.raid_base.specs.declared.jobs.Job.{Job}
use Rattle.raid_base.specs.declared.jobs.Task.{Task}
use Rattle.raid_base.specs.declared.jobs.Task.TheVariants as tasks
use Rattle.raid_base.specs.declared.jobs.RowPart.{RowPart}
use Rattle.raid_base.specs.declared.jobs.PartsFault.{PartsFault}
use Rattle.raid_base.specs.declared.jobs.Cause.{Cause}
use Rattle.raid_base.specs.declared.jobs.Cause.TheVariants as causes
use Rattle.raid_base.specs.declared.jobs.Ended.{Ended}
use Rattle.raid_base.specs.declared.jobs.Ended.TheVariants as ends
use Rattle.raid_base.specs.declared.jobs.JobEnd.{JobEnd}
use Rattle.raid_base.specs.declared.jobs.JobEnd.TheVariants as job_ends
use Rattle.raid_base.specs.Numbers.{number, greater, draw, seen_drawn, sees_note, sees}
use Rattle.raid_base.specs.Steps.{Steps, Asks, Draws, Ends, settled, behind, errand_of}
use Rattle.attempts.specs.Taking.{Finish}
use Rattle.attempts.proofs.NumberingLemmas.{draws-above}
use Rattle.script_text.specs.Script.{Script, parts_of}
use Rattle.histories.specs.declared.operator.Gone.{Gone}
use Rattle.histories.specs.Operator.{is_gone}
use Rattle.histories.specs.Calls.{id_of}
use Rattle.histories.specs.Progress.{Work, Trying, Losing, Fitting, Over, Progress, with_ending, next_job, attempt, try_with, one_more, try_task, ends_as, parts_end, try_parts, lose_job, fit_job, rebuild_job, start_task, start_jobs, stops, go_on, job_ended, task_of, try_again, once_more, is_spent, attempt_refused, next_row, row_mended, attempt_ended, quit_end, asks_on, steps_left, work_errand, work_told, call_counted, takes}
use Rattle.histories.specs.Ids.{is_id, calls_with, IsOwnId, IsSeenBy}
use Rattle.histories.proofs.accesses.AccessTrees.{IsAsked, EachAsked, settled-asked, behind-asked, next-asked, is_reading, attempt-asked}

-- Ids of calls
pub some-id : (id : Number) (o : Option Number) → is_id id o ≡ true → o ≡ Some id
some-id id None e = absurd (let bad : false ≡ true = e in cc)
some-id id (Some n) e = let same : n.0 ≡ id.0 = grind (arith, nat_tests) in ap (λ (k : ℕ). Some (number k)) same

pub this-id : (id : Number) (o : Option Number) → o ≡ Some id → is_id id o ≡ true
this-id id o e = rw e (grind (arith, nat_tests))

pub asked-id : (reading : Bool) (id : Number) (what : Request) → IsAsked reading id what → id_of what ≡ Some id
asked-id reading id (Share row by want) h = ap (λ (n : Number). Some n) h
asked-id reading id (Claim row by how mask want) h = ap (λ (n : Number). Some n) h.0
asked-id reading id (Confirm row by want) h = ap (λ (n : Number). Some n) h
asked-id reading id (Put row by n cell) h = ap (λ (n : Number). Some n) h
asked-id reading id (Release row by n) h = ap (λ (n : Number). Some n) h.0
asked-id reading id Lose h = absurd h
asked-id reading id Fit h = absurd h

with-call : (id : Number) (call : Call) (earlier calls : List Call) → id_of call.ask.what ≡ Some id → calls_with id earlier ≡ calls → calls_with id (call ∷ earlier) ≡ call ∷ calls
with-call id call earlier calls e same = by (is_id id (id_of call.ask.what)) (this-id id (id_of call.ask.what) e)
  where
    by : (b : Bool) → b ≡ true → (if b then call ∷ calls_with id earlier else calls_with id earlier) ≡ call ∷ calls
    by true t = ap (λ (cs : List Call). call ∷ cs) same
    by false t = absurd (let bad : false ≡ true = t in cc)

without-call : (id : Number) (call : Call) (earlier calls : List Call) → (id_of call.ask.what ≡ Some id → ⊥) → calls_with id earlier ≡ calls → calls_with id (call ∷ earlier) ≡ calls
without-call id call earlier calls other same = by (is_id id (id_of call.ask.what)) refl
  where
    by : (b : Bool) → is_id id (id_of call.ask.what) ≡ b → (if b then call ∷ calls_with id earlier else calls_with id earlier) ≡ calls
    by true t = absurd (other (some-id id (id_of call.ask.what) t))
    by false t = same

seen-more : (host : HostNo) (seen later : Number) → seen.0 ≤ later.0 → (calls : List Call) → AllByRecursion (IsSeenBy host seen) calls → AllByRecursion (IsSeenBy host later) calls
seen-more host seen later le [] h = tt
seen-more host seen later le (call ∷ calls) h = (λ own id is. let low = h.0 own id is in omega (arith, le, low), seen-more host seen later le calls h.1)

-- what is above all that was seen is no id yet
none-with : (host : HostNo) (id seen : Number) → seen.0 < id.0 → id.0 % 16 ≡ host.0 → (calls : List Call) → AllByRecursion IsOwnId calls → AllByRecursion (IsSeenBy host seen) calls →
    calls_with id calls ≡ []
none-with host id seen above mine [] owns lows = refl
none-with host id seen above mine (call ∷ calls) owns lows =
    without-call id call calls []
    (λ is. let same : call.ask.host.0 ≡ host.0 = sym (owns.0 id is) ∙ mine in let low = lows.0 same id is in absurd (omega (arith, low, above)))
    (none-with host id seen above mine calls owns.1 lows.1)

pub note-covers : (seen : Number) (o : Option Note) → seen.0 ≤ (sees_note seen o).0
note-covers seen None = omega arith
note-covers seen (Some note) = omega arith

pub reply-covers : (seen : Number) (r : Reply) → seen.0 ≤ (sees seen r).0
reply-covers seen (Granted cell read_no write_no last life seized) = let more = note-covers (greater seen (greater read_no write_no)) seized in omega (arith, more)
reply-covers seen (Late above) = omega arith
reply-covers seen (Missing floor) = omega arith
reply-covers seen (Busy holder) = omega arith
reply-covers seen (Young note) = omega arith
reply-covers seen (Held cell) = omega arith
reply-covers seen (NoNote life) = omega arith
reply-covers seen Done = omega arith
reply-covers seen Fault = omega arith
reply-covers seen Emptied = omega arith
reply-covers seen Fitted = omega arith

-- what a host has in hand
pub record InHand (host : HostNo) (all : List Call) (seen : Number) (calls : List Call) (steps : Steps Finish) : Type 0 where
  pub reading : Bool
  pub id : Number
  pub each : EachAsked reading id steps
  pub low : id.0 ≤ seen.0
  pub own : id.0 % 16 ≡ host.0
  pub same : calls_with id all ≡ calls
  pub asked : AllByRecursion (λ (c : Call). IsAsked reading id c.ask.what) calls

abbrev pub HasWork : HostNo → List Call → Number → List Call → Work → Type 0
HasWork host all seen calls (Trying steps) = InHand host all seen calls steps
HasWork host all seen calls (Losing bay) = Unit {0}
HasWork host all seen calls (Fitting bay) = Unit {0}
HasWork host all seen calls Over = Unit {0}

pub record Apart (host : HostNo) (all : List Call) (p : Progress) : Type 0 where
  pub lows : AllByRecursion (IsSeenBy host p.seen) all
  pub work : HasWork host all p.seen p.calls p.work

module _ (script : Script) (host : HostNo) (few : host.0 < 16) where
  drawn-covers : (seen : Number) (d : Result Number Spent) → draw host seen ≡ d → seen.0 ≤ (seen_drawn seen d).0
  drawn-covers seen (Ok n) e = let h = draws-above host seen n few e in let above : seen.0 < n.0 = h.above in omega (arith, above)
  drawn-covers seen (Err spent) e = omega arith

  pub settled-covers : (seen : Number) (s : Steps Finish) → seen.0 ≤ (settled host seen s).seen.0
  settled-covers seen (Asks e t c k) = omega arith
  settled-covers seen (Draws k) =
      let first = drawn-covers seen (draw host seen) refl in
      let rest = settled-covers (seen_drawn seen (draw host seen)) (k (draw host seen)) in
      omega (arith, first, rest)
  settled-covers seen (Ends f) = omega arith

  module _ (all : List Call) (owns : AllByRecursion IsOwnId all) where
    abbrev Fine : Number → Type 0
    Fine seen = AllByRecursion (IsSeenBy host seen) all

    abbrev GoesOn : (Progress → Progress) → Type 0
    GoesOn rest = (q : Progress) → Fine q.seen → Apart host all (rest q)

    settles : (seen : Number) (calls : List Call) (steps : Steps Finish) → InHand host all seen calls steps →
        InHand host all (settled host seen steps).seen calls (settled host seen steps).steps
    settles seen calls steps h =
        let more = settled-covers seen steps in
        record {
          reading = h.reading;
          id = h.id;
          each = settled-asked h.reading h.id host seen steps h.each;
          low = let low = h.low in omega (arith, low, more);
          own = h.own;
          same = h.same;
          asked = h.asked;
        }

    stays : (p : Progress) → Fine p.seen → (work : Work) → HasWork host all p.seen p.calls work → Apart host all (record p { work = work })
    stays p f work w = record { lows = f; work = w }

    module _ (rest : Progress → Progress) (goes_on : GoesOn rest) where
      skips : (p : Progress) (e : JobEnd) → Fine p.seen → Apart host all (ends_as rest p e)
      skips p e f = goes_on (next_job (with_ending p e [])) f

      tries-with : (p : Progress) (task : Task) (d : Result Number Spent) → draw host p.seen ≡ d → Fine p.seen → Apart host all (try_with script host task rest (one_more p) d)
      tries-with p task (Ok id) e f =
          let h = draws-above host p.seen id few e in
          let above : p.seen.0 < id.0 = h.above in
          let steps : Steps Finish = attempt script host id p.row task in
          let more = settled-covers id steps in
          record {
            lows = seen-more host p.seen (settled host id steps).seen (omega (arith, above, more)) all f;
            work = settles id [] steps (record {
              reading = is_reading task;
              id = id;
              each = attempt-asked script host id p.row task;
              low = omega arith;
              own = h.own;
              same = none-with host id p.seen above h.own all owns f;
              asked = tt;
            });
          }
      tries-with p task (Err spent) e f = goes_on (next_job (with_ending (one_more p) (job_ends.Gave (p.tries + 1) (causes.Spent spent.seen)) [])) f

      tries : (p : Progress) (task : Task) → Fine p.seen → Apart host all (try_task script host task rest p)
      tries p task f = tries-with p task (draw host p.seen) refl f

      parts-begin : (p : Progress) (task : Task) (r : Result (List RowPart) PartsFault) → Fine p.seen → Apart host all (try_parts script host task rest p r)
      parts-begin p task (Ok parts) f = tries p task f
      parts-begin p task (Err fault) f = skips p (parts_end fault) f

      loses : (p : Progress) (bay : BayNo) (gone : Option Gone) → Fine p.seen → Apart host all (lose_job rest p bay gone)
      loses p bay None f = stays p f (Losing bay) tt
      loses p bay (Some gone) f = skips p (job_ends.StillMissing gone.bay) f

      fits-one : (p : Progress) (bay : BayNo) (lost : Bool) → Fine p.seen → Apart host all (fit_job rest p bay lost)
      fits-one p bay true f = stays p f (Fitting bay) tt
      fits-one p bay false f = skips p (job_ends.NotLost bay) f

      rebuilds : (p : Progress) (bay : BayNo) (fitted : Bool) → Fine p.seen → Apart host all (rebuild_job script host rest p bay fitted)
      rebuilds p bay true f = tries p (tasks.Rebuild bay) f
      rebuilds p bay false f = skips p (job_ends.NotFitted bay) f

      starts : (p : Progress) (task : Task) → Fine p.seen → Apart host all (start_task script host rest p task)
      starts p (tasks.Read object first count) f = parts-begin p (tasks.Read object first count) (parts_of script object first count) f
      starts p (tasks.Write object first from count) f = parts-begin p (tasks.Write object first from count) (parts_of script object first count) f
      starts p (tasks.Recover row) f = tries p (tasks.Recover row) f
      starts p (tasks.Lose bay) f = loses p bay p.gone f
      starts p (tasks.Fit bay) f = fits-one p bay (is_gone bay false p.gone) f
      starts p (tasks.Rebuild bay) f = rebuilds p bay (is_gone bay true p.gone) f

    pub jobs-apart : (jobs : List Job) → GoesOn (start_jobs script host jobs)
    jobs-apart [] p f = stays p f Over tt
    jobs-apart (job ∷ jobs) p f = starts (start_jobs script host jobs) (jobs-apart jobs) p job.task f

    -- A job ends
    on-apart : (q : Progress) (stopped : Bool) → Fine q.seen → Apart host all (go_on script host q stopped)
    on-apart q true f = stays (next_job q) f Over tt
    on-apart q false f = jobs-apart (drop 1 q.jobs) (next_job q) f

    ended-apart : (p : Progress) (e : JobEnd) (read : List Content) → Fine p.seen → Apart host all (job_ended script host p e read)
    ended-apart p e read f = on-apart (with_ending p e read) (stops p) f

    again-apart : (p : Progress) (task : Option Task) → Fine p.seen → Apart host all (try_again script host p task)
    again-apart p None f = stays p f Over tt
    again-apart p (Some task) f = tries (start_jobs script host (drop 1 p.jobs)) (jobs-apart (drop 1 p.jobs)) p task f

    more-apart : (p later : Progress) → Fine p.seen → Fine later.seen → (stopped : Bool) → Apart host all (once_more script host p later stopped)
    more-apart p later f g true = ended-apart p (job_ends.Gave p.tries causes.Quit) [] f
    more-apart p later f g false = again-apart later (task_of p.jobs) g

    refused-apart : (p : Progress) (cause : Cause) → Fine p.seen → (last : Bool) → Apart host all (attempt_refused script host p cause last)
    refused-apart p cause f true = ended-apart p (job_ends.Gave p.tries cause) [] f
    refused-apart p cause f false = more-apart p p f f (stops p)

    mended-apart : (p : Progress) → Fine p.seen → (last : Bool) → Apart host all (row_mended script host p last)
    mended-apart p f true = ended-apart (record p { gone = None }) job_ends.Rebuilt [] f
    mended-apart p f false = more-apart p (next_row p) f f (stops p)

    attempt-apart : (p : Progress) (read : List Content) (ended : Ended) → Fine p.seen → Apart host all (attempt_ended script host p read ended)
    attempt-apart p read (ends.Read n) f = ended-apart p (job_ends.Read n) read f
    attempt-apart p read (ends.Wrote n) f = ended-apart p (job_ends.Wrote n) [] f
    attempt-apart p read (ends.Part n made cause) f = ended-apart p (job_ends.Part n made cause) [] f
    attempt-apart p read (ends.Recovered n closed lost) f = ended-apart p (job_ends.Recovered n closed lost) [] f
    attempt-apart p read (ends.Refused cause) f = refused-apart p cause f ((p.tries == script.tries) || is_spent cause)
    attempt-apart p read ends.Mended f = mended-apart p f (p.row + 1 == script.rows)

    -- steps that are left
    asks-apart : (p : Progress) (steps : Steps Finish) (stop : Ended) → Fine p.seen → InHand host all p.seen p.calls steps → (stopped : Bool) →
        Apart host all (asks_on p steps stop stopped)
    asks-apart p steps stop f h true = stays (next_job (with_ending p (quit_end p.tries stop) [])) f Over tt
    asks-apart p steps stop f h false = stays p f (Trying steps) h

    left-apart : (p : Progress) (steps : Steps Finish) → Fine p.seen → InHand host all p.seen p.calls steps → Apart host all (steps_left script host p steps)
    left-apart p (Asks e t c k) f h = asks-apart p (Asks e t c k) t f h (stops p)
    left-apart p (Draws k) f h = stays p f Over tt
    left-apart p (Ends finish) f h = attempt-apart p finish.contents finish.ended f

  -- a call of the host
  module _ (earlier : List Call) (call : Call) (owns : AllByRecursion IsOwnId (call ∷ earlier)) where
    no-id : (what : Request) → call.ask.what ≡ what → id_of what ≡ None → (seen : Number) → IsSeenBy host seen call
    no-id what same none seen own id is = absurd (let bad : None ≡ Some id = sym none ∙ ap (λ (w : Request). id_of w) (sym same) ∙ is in cc)

    told-apart : (p : Progress) (work : Work) → AllByRecursion (IsSeenBy host p.seen) earlier → HasWork host earlier p.seen p.calls work → work_errand work ≡ Some (errand_of call) →
        Apart host (call ∷ earlier) (work_told script host (call_counted p call) call.answer.reply work)
    told-apart p (Trying steps) f w asked =
        let r : Reply = call.answer.reply in
        let seen : Number = sees p.seen r in
        let more : p.seen.0 ≤ seen.0 = reply-covers p.seen r in
        let is : IsAsked w.reading w.id call.ask.what = next-asked w.reading w.id steps (errand_of call) w.each asked in
        let named : id_of call.ask.what ≡ Some w.id = asked-id w.reading w.id call.ask.what is in
        let low : w.id.0 ≤ seen.0 = let first = w.low in omega (arith, first, more) in
        let hand : InHand host (call ∷ earlier) seen (call ∷ p.calls) (behind steps r) = record {
          reading = w.reading;
          id = w.id;
          each = behind-asked w.reading w.id steps r w.each;
          low = low;
          own = w.own;
          same = with-call w.id call earlier p.calls named w.same;
          asked = (is, w.asked);
        } in
        let now : IsSeenBy host seen call = λ own id e. let bad : Some w.id ≡ Some id = sym named ∙ e in let same : w.id ≡ id = cc in subst (λ (x : Number). x.0 ≤ seen.0) same low in
        let later = settled-covers seen (behind steps r) in
        left-apart (call ∷ earlier) owns (record (call_counted p call) { seen = (settled host seen (behind steps r)).seen }) (settled host seen (behind steps r)).steps
        (seen-more host seen (settled host seen (behind steps r)).seen later (call ∷ earlier) (now, seen-more host p.seen seen more earlier f))
        (settles (call ∷ earlier) owns seen (call ∷ p.calls) (behind steps r) hand)
    told-apart p (Losing bay) f w asked =
        let same : record { bay = bay; request = Lose } ≡ errand_of call = cc in
        ended-apart (call ∷ earlier) owns (record (call_counted p call) { gone = Some (record { bay = bay; fitted = false }) }) job_ends.Lost []
        (no-id Lose (sym (ap (λ (e : Errand). e.request) same)) refl p.seen, f)
    told-apart p (Fitting bay) f w asked =
        let same : record { bay = bay; request = Fit } ≡ errand_of call = cc in
        ended-apart (call ∷ earlier) owns (record (call_counted p call) { gone = Some (record { bay = bay; fitted = true }) }) job_ends.Fitted []
        (no-id Fit (sym (ap (λ (e : Errand). e.request) same)) refl p.seen, f)
    told-apart p Over f w asked = absurd (cc)

    pub takes-apart : (p : Progress) → Apart host earlier p → work_errand p.work ≡ Some (errand_of call) → Apart host (call ∷ earlier) (takes script host p call)
    takes-apart p s asked = told-apart p p.work s.lows s.work asked

    -- a call of another host
    other-work : (p : Progress) (work : Work) → (call.ask.host.0 ≡ host.0 → ⊥) → HasWork host earlier p.seen p.calls work → HasWork host (call ∷ earlier) p.seen p.calls work
    other-work p (Trying steps) other w = record {
      reading = w.reading;
      id = w.id;
      each = w.each;
      low = w.low;
      own = w.own;
      same = without-call w.id call earlier p.calls (λ is. other (sym (owns.0 w.id is) ∙ w.own)) w.same;
      asked = w.asked;
    }
    other-work p (Losing bay) other w = tt
    other-work p (Fitting bay) other w = tt
    other-work p Over other w = tt

    pub other-apart : (p : Progress) → (call.ask.host.0 ≡ host.0 → ⊥) → Apart host earlier p → Apart host (call ∷ earlier) p
    other-apart p other s = record { lows = (λ own. absurd (other own), s.lows); work = other-work p p.work other s.work }

-- the id of the next call is its host's
pub own-next : (host : HostNo) (earlier : List Call) (call : Call) (p : Progress) (work : Work) → call.ask.host.0 ≡ host.0 → HasWork host earlier p.seen p.calls work →
    work_errand work ≡ Some (errand_of call) → IsOwnId call
own-next host earlier call p (Trying steps) mine w asked id e =
    let named : id_of call.ask.what ≡ Some w.id = asked-id w.reading w.id call.ask.what (next-asked w.reading w.id steps (errand_of call) w.each asked) in
    let both : Some w.id ≡ Some id = sym named ∙ e in
    let same : w.id ≡ id = cc in
    subst (λ (x : Number). x.0 % 16 ≡ call.ask.host.0) same (w.own ∙ sym mine)
own-next host earlier call p (Losing bay) mine w asked id e =
    let same : record { bay = bay; request = Lose } ≡ errand_of call = cc in
    absurd (let bad : None ≡ Some id = ap (λ (x : Errand). id_of x.request) same ∙ e in cc)
own-next host earlier call p (Fitting bay) mine w asked id e =
    let same : record { bay = bay; request = Fit } ≡ errand_of call = cc in
    absurd (let bad : None ≡ Some id = ap (λ (x : Errand). id_of x.request) same ∙ e in cc)
own-next host earlier call p Over mine w asked id e = absurd (cc)
