-- Along a history the numbers of a host's results rise, and where the host is over all its jobs have ended, or the last that has may quit.
use Rattle.std.proofs.Common.{◌≡◌, ◌⊎◌, inl, inr, refl, sym, ap, subst, ◌∙◌, ℕ, suc, ◌+◌, ◌%◌, ◌<◌, ◌≤◌, ◌==◌, ◌||◌, Bool, true, false, IsSome, List, [], ◌∷◌, ◌++◌, length, map, drop, Option, Some, None, Result, Ok, Err, arith, append-nil, length-append}
use Rattle.std.proofs.lemmas.List.{map-append}
use Rattle.raid_base.specs.declared.numbers.BayNo.{BayNo}
use Rattle.raid_base.specs.declared.numbers.HostNo.{HostNo}
use Rattle.raid_base.specs.declared.numbers.Number.{Number}
use Rattle.raid_base.specs.declared.numbers.Spent.{Spent}
use Rattle.raid_base.specs.declared.cells.Content.{Content}
use Rattle.raid_base.specs.declared.messages.Call.{Call}
use Rattle.raid_base.specs.declared.messages.Reply.{Reply}
use Rattle.raid_base.specs.declared.messages.Mode.{Mode}
use Rattle.raid_base.specs.declared.messages.Mode.TheVariants.{Lock, Order}
use Rattle.raid_base.specs.declared.jobs.Job.{Job}
use Rattle.raid_base.specs.declared.jobs.Task.{Task}
use Rattle.raid_base.specs.declared.jobs.Task.TheVariants as tasks
use Rattle.raid_base.specs.declared.jobs.RowPart.{RowPart}
use Rattle.raid_base.specs.declared.jobs.PartsFault.{PartsFault}
use Rattle.raid_base.specs.declared.jobs.PartsFault.TheVariants as faults
use Rattle.raid_base.specs.declared.jobs.Cause.{Cause}
use Rattle.raid_base.specs.declared.jobs.Cause.TheVariants as causes
use Rattle.raid_base.specs.declared.jobs.Ended.{Ended}
use Rattle.raid_base.specs.declared.jobs.Ended.TheVariants as ends
use Rattle.raid_base.specs.declared.jobs.JobEnd.{JobEnd}
use Rattle.raid_base.specs.declared.jobs.JobEnd.TheVariants as job_ends
use Rattle.raid_base.specs.Numbers.{draw, seen_drawn, sees}
use Rattle.raid_base.specs.Steps.{Steps, Asks, Draws, Ends, Standing, draws, settled, behind, told}
use Rattle.attempts.specs.Phases as phases
use Rattle.attempts.specs.Taking.{Finish}
use Rattle.attempts.proofs.NumberingLemmas.{draws-above}
use Rattle.script_text.specs.Script.{Script, jobs_of, parts_of, blocks_of}
use Rattle.serial_array.specs.Serial.{Reported, number_of, numbered, EndsWithQuit}
use Rattle.histories.specs.declared.operator.Gone.{Gone}
use Rattle.histories.specs.Operator.{is_gone}
use Rattle.histories.specs.Progress.{Ending, Work, Trying, Losing, Fitting, Over, Progress, endings_of, with_ending, next_job, access, read_of, write_of, attempt, try_with, one_more, try_task, parts_end, try_parts, lose_job, fit_job, rebuild_job, start_task, start_jobs, stops_at, job_stops, stops, go_on, job_ended, task_of, try_again, once_more, is_spent, attempt_refused, next_row, row_mended, attempt_ended, quit_end, asks_on, steps_left, work_told, call_counted}
use Rattle.histories.specs.History.{if_taken, progress_at}
use Rattle.histories.proofs.bounds.BoundsTakes.{before_start}
use Rattle.histories.proofs.bounds.BoundsTries.{settled-still}
use Rattle.serial_laws.specs.Headline.{reported}
use Rattle.histories.proofs.accesses.AccessHosts.{reply-covers, settled-covers}
use Rattle.row_laws.proofs.numbers.NumberTrees.{HasNumber, TellsNumber, reads-number, writes-number, mends-number, recoveries-number}
use Rattle.serial_laws.proofs.results.ResultNumbers.{AllUnder, AllTo, AreRising, IsFurther, to-more, under-next, rising-more, rising-with}

-- The last result's job may quit
last-quits : (rs : List Reported) (r : Reported) → IsSome r.job.quit → EndsWithQuit (rs ++ r ∷ [])
last-quits [] r some = some
last-quits (x ∷ []) r some = some
last-quits (x ∷ (y ∷ ys)) r some = last-quits (y ∷ ys) r some

quits-at : (o : Option ℕ) (asked : ℕ) → stops_at o asked ≡ true → IsSome o
quits-at None asked stopped = absurd (let bad : false ≡ true = stopped in cc)
quits-at (Some k) asked stopped = refl

-- an attempt of a job
abbrev pub HasJob : List Job → Type 0
HasJob [] = ⊥
HasJob (job ∷ jobs) = Unit {0}

some-job : (jobs rest : List Job) (job : Job) → jobs ≡ job ∷ rest → HasJob jobs
some-job [] rest job e = absurd (cc)
some-job (x ∷ xs) rest job e = tt

module _ (host : HostNo) (few : host.0 < 16) (rs : List Reported) where
  -- The number that steps tell is the host's, and above those of all results
  pub record Numbers (seen : Number) (steps : Steps Finish) : Type 0 where
    pub number : Option Number
    pub tells : TellsNumber number steps
    pub further : (m : Number) → number ≡ Some m → IsFurther host seen.0 rs m

  low-drawn : (seen : Number) (d : Result Number Spent) → draw host seen ≡ d → AllTo seen.0 rs → AllTo (seen_drawn seen d).0 rs
  low-drawn seen (Ok m) e low =
      let drawn = draws-above host seen m few e in
      let above : seen.0 < m.0 = drawn.above in
      to-more seen.0 m.0 (omega (arith, above)) rs low
  low-drawn seen (Err spent) e low = low

  drawn-numbers : (seen : Number) (k : Result Number Spent → Steps Finish) (d : Result Number Spent) → draw host seen ≡ d → AllTo seen.0 rs → Numbers seen (Draws k) →
      Numbers (seen_drawn seen d) (k d)
  drawn-numbers seen k (Ok m) e low h =
      let drawn = draws-above host seen m few e in
      record {
        number = Some m;
        tells = h.tells (Ok m);
        further = λ j is.
            let same : m ≡ j = cc in
            subst (λ (x : Number). IsFurther host m.0 rs x) same (record { above = under-next seen.0 m.0 drawn.above rs low; low = omega arith; own = drawn.own });
      }
  drawn-numbers seen k (Err spent) e low h = record { number = h.number; tells = h.tells (Err spent); further = h.further }

  settled-numbers : (seen : Number) (s : Steps Finish) → AllTo seen.0 rs → Numbers seen s → Numbers (settled host seen s).seen (settled host seen s).steps
  settled-numbers seen (Asks e t c k) low h = h
  settled-numbers seen (Draws k) low h =
      settled-numbers (seen_drawn seen (draw host seen)) (k (draw host seen)) (low-drawn seen (draw host seen) refl low) (drawn-numbers seen k (draw host seen) refl low h)
  settled-numbers seen (Ends f) low h = h

  seen-more : (seen later : Number) → seen.0 ≤ later.0 → (m : Number) → IsFurther host seen.0 rs m → IsFurther host later.0 rs m
  seen-more seen later le m h = record { above = h.above; low = (let low = h.low in omega (arith, le, low)); own = h.own }

  behind-numbers : (seen : Number) (s : Steps Finish) (r : Reply) → Numbers seen s → Numbers (sees seen r) (behind s r)
  behind-numbers seen s r h = record { number = h.number; tells = by s h.tells; further = λ m is. seen-more seen (sees seen r) (reply-covers seen r) m (h.further m is) }
    where
      by : (x : Steps Finish) → TellsNumber h.number x → TellsNumber h.number (behind x r)
      by (Asks e t c k) tells = tells.1 r
      by (Draws k) tells = tells
      by (Ends f) tells = tells

  told-numbers : (seen : Number) (s : Steps Finish) (r : Reply) → AllTo seen.0 rs → Numbers seen s →
      Numbers (told host (record { seen = seen; steps = s }) r).seen (told host (record { seen = seen; steps = s }) r).steps
  told-numbers seen s r low h = settled-numbers (sees seen r) (behind s r) (to-more seen.0 (sees seen r).0 (reply-covers seen r) rs low) (behind-numbers seen s r h)

  -- an attempt that begins
  module _ (script : Script) (id : Number) (under : AllUnder id.0 rs) (own : id.0 % 16 ≡ host.0) where
    none-numbers : (s : Steps Finish) → TellsNumber None s → Numbers id s
    none-numbers s tells = record { number = None; tells = tells; further = λ m is. absurd (cc) }

    own-number : (mode : Mode) (m : Number) → phases.number_of mode id ≡ Some m → IsFurther host id.0 rs m
    own-number Lock m is = absurd (cc)
    own-number Order m is =
        let same : id ≡ m = cc in
        subst (λ (x : Number). IsFurther host id.0 rs x) same (record { above = under; low = omega arith; own = own })

    mode-numbers : (s : Steps Finish) → TellsNumber (phases.number_of script.mode id) s → Numbers id s
    mode-numbers s tells = record { number = phases.number_of script.mode id; tells = tells; further = own-number script.mode }

    read-begins : (r : Result (List RowPart) PartsFault) → Numbers id (read_of script id r)
    read-begins (Ok parts) = mode-numbers (read_of script id (Ok parts)) (reads-number (access script id parts []))
    read-begins (Err fault) = none-numbers (read_of script id (Err fault)) tt

    write-begins : (blocks : List (List ℕ)) (r : Result (List RowPart) PartsFault) → Numbers id (write_of script id blocks r)
    write-begins blocks (Ok parts) = mode-numbers (write_of script id blocks (Ok parts)) (writes-number (access script id parts blocks))
    write-begins blocks (Err fault) = none-numbers (write_of script id blocks (Err fault)) tt

    attempt-begins : (row : ℕ) (task : Task) → Numbers id (attempt script host id row task)
    attempt-begins row (tasks.Read object first count) = read-begins (parts_of script object first count)
    attempt-begins row (tasks.Write object first from count) = write-begins (blocks_of script from count) (parts_of script object first count)
    attempt-begins row (tasks.Recover at) = none-numbers (attempt script host id row (tasks.Recover at)) (recoveries-number (record { n = script.n; host = host; id = id; row = at }))
    attempt-begins row (tasks.Rebuild bay) =
        none-numbers (attempt script host id row (tasks.Rebuild bay)) (mends-number (record { n = script.n; id = id; row = record { 0 = row }; target = bay }))
    attempt-begins row (tasks.Lose bay) = none-numbers (attempt script host id row (tasks.Lose bay)) tt
    attempt-begins row (tasks.Fit bay) = none-numbers (attempt script host id row (tasks.Fit bay)) tt

  -- a job that ends with a number
  abbrev IsDue : Number → JobEnd → Type 0
  IsDue seen e = (m : Number) → number_of e ≡ Some m → IsFurther host seen.0 rs m

  plain-due : (seen : Number) (e : JobEnd) → number_of e ≡ None → IsDue seen e
  plain-due seen e none m is = absurd (let bad : None ≡ Some m = sym none ∙ is in cc)

  number-due : (seen : Number) (number : Option Number) (e : JobEnd) (n : Number) → ((m : Number) → number ≡ Some m → IsFurther host seen.0 rs m) → number ≡ Some n → number_of e ≡ Some n → IsDue seen e
  number-due seen number e n further is named m has =
      let same : n ≡ m = (let both : Some n ≡ Some m = sym named ∙ has in cc) in
      subst (λ (x : Number). IsFurther host seen.0 rs x) same (further n is)

  quit-due : (seen : Number) (number : Option Number) (tries : ℕ) (stop : Ended) → ((m : Number) → number ≡ Some m → IsFurther host seen.0 rs m) → HasNumber number stop → IsDue seen (quit_end tries stop)
  quit-due seen number tries (ends.Read n) further is = number-due seen number (job_ends.Read n) n further is refl
  quit-due seen number tries (ends.Wrote n) further is = number-due seen number (job_ends.Wrote n) n further is refl
  quit-due seen number tries (ends.Part n made cause) further is = number-due seen number (job_ends.Part n made cause) n further is refl
  quit-due seen number tries (ends.Recovered n closed lost) further is = number-due seen number (job_ends.Recovered n closed lost) n further is refl
  quit-due seen number tries (ends.Refused cause) further is = plain-due seen (job_ends.Gave tries causes.Quit) refl
  quit-due seen number tries ends.Mended further is = plain-due seen (job_ends.Gave tries causes.Quit) refl

abbrev pub told_of : List Ending → List Reported
told_of endings = map reported endings

module _ (script : Script) (host : HostNo) (few : host.0 < 16) where
  -- the results so far
  pub record Good (jobs : List Job) (seen : Number) (endings : List Ending) : Type 0 where
    pub count : length endings + length jobs ≡ length (jobs_of script host)
    pub rising : AreRising host seen.0 (numbered (told_of endings))

  pub record Tried (jobs : List Job) (seen : Number) (endings : List Ending) (steps : Steps Finish) : Type 0 where
    pub first : HasJob jobs
    pub numbers : Numbers host few (numbered (told_of endings)) seen steps

  -- what is in hand
  abbrev pub HasInHand : List Job → Number → List Ending → Work → Type 0
  HasInHand jobs seen endings (Trying steps) = Tried jobs seen endings steps
  HasInHand jobs seen endings (Losing bay) = Unit {0}
  HasInHand jobs seen endings (Fitting bay) = Unit {0}
  HasInHand jobs seen endings Over = (jobs ≡ []) ⊎ EndsWithQuit (told_of endings)

  abbrev pub Stands : Progress → Type 0
  Stands p = Good p.jobs p.seen p.endings × HasInHand p.jobs p.seen p.endings p.work

  -- the job in hand may have this result
  abbrev Due : Number → List Ending → JobEnd → Type 0
  Due seen endings e = IsDue host few (numbered (told_of endings)) seen e

  plain : (seen : Number) (endings : List Ending) (e : JobEnd) → number_of e ≡ None → Due seen endings e
  plain seen endings e none = plain-due host few (numbered (told_of endings)) seen e none

  more-seen : (jobs : List Job) (seen later : Number) (endings : List Ending) → seen.0 ≤ later.0 → Good jobs seen endings → Good jobs later endings
  more-seen jobs seen later endings le g = record { count = g.count; rising = rising-more host seen.0 later.0 (numbered (told_of endings)) le g.rising }

  next-good : (p : Progress) (e : JobEnd) (read : List Content) (js : List Job) → Good js p.seen p.endings → Due p.seen p.endings e → Good (drop 1 js) p.seen (p.endings ++ endings_of js e read p)
  next-good p e read [] g due = subst (λ (es : List Ending). Good [] p.seen es) (sym (append-nil p.endings)) g
  next-good p e read (job ∷ jobs) g due = record { count = counted; rising = rises }
    where
      one : Ending
      one = record { job = job; ended = e; contents = read; asked = p.asked; tries = p.tries; calls = p.calls }

      counted : length (p.endings ++ one ∷ []) + length jobs ≡ length (jobs_of script host)
      counted =
          let more : length (p.endings ++ one ∷ []) ≡ length p.endings + 1 = length-append p.endings (one ∷ []) in
          let all : length p.endings + suc (length jobs) ≡ length (jobs_of script host) = g.count in
          omega (arith, more, all)

      rises : AreRising host p.seen.0 (numbered (told_of (p.endings ++ one ∷ [])))
      rises =
          subst (λ (rs : List Reported). AreRising host p.seen.0 (numbered rs)) (sym (map-append reported p.endings (one ∷ [])))
          (rising-with host p.seen.0 (told_of p.endings) (reported one) g.rising due)

  -- where a host stops its job may quit
  quits : (p : Progress) (e : JobEnd) (read : List Content) (js : List Job) → job_stops js p.asked ≡ true → EndsWithQuit (told_of (p.endings ++ endings_of js e read p))
  quits p e read [] stopped = absurd (let bad : false ≡ true = stopped in cc)
  quits p e read (job ∷ jobs) stopped =
      subst (λ (rs : List Reported). EndsWithQuit rs) (sym (map-append reported p.endings (endings_of (job ∷ jobs) e read p)))
      (last-quits (told_of p.endings) (record { job = job; ended = e; contents = read }) (quits-at job.quit p.asked stopped))

  -- where it goes on with these jobs
  abbrev GoesOn : List Job → (Progress → Progress) → Type 0
  GoesOn jobs rest = (q : Progress) → q.jobs ≡ jobs → Good q.jobs q.seen q.endings → Stands (rest q)

  module _ (rest : Progress → Progress) (job : Job) (jobs : List Job) (goes_on : GoesOn jobs rest) where
    skips : (p : Progress) (e : JobEnd) → p.jobs ≡ job ∷ jobs → Good p.jobs p.seen p.endings → number_of e ≡ None → Stands (rest (next_job (with_ending p e [])))
    skips p e first g none = goes_on (next_job (with_ending p e [])) (ap (drop 1) first) (next-good p e [] p.jobs g (plain p.seen p.endings e none))

    tries-with : (p : Progress) (task : Task) → p.jobs ≡ job ∷ jobs → Good p.jobs p.seen p.endings → (d : Result Number Spent) → draw host p.seen ≡ d →
        Stands (try_with script host task rest (one_more p) d)
    tries-with p task first g (Ok id) e =
        let drawn = draws-above host p.seen id few e in
        let above : p.seen.0 < id.0 = drawn.above in
        let steps : Steps Finish = attempt script host id p.row task in
        let rs : List Reported = numbered (told_of p.endings) in
        let more = settled-covers script host few id steps in
        let low : AllTo id.0 rs = to-more p.seen.0 id.0 (omega (arith, above)) rs g.rising.low in
        let under : AllUnder id.0 rs = under-next p.seen.0 id.0 above rs g.rising.low in (
          more-seen p.jobs p.seen (settled host id steps).seen p.endings (omega (arith, above, more)) g,
          record { first = some-job p.jobs jobs job first; numbers = settled-numbers host few rs id steps low (attempt-begins host few rs script id under drawn.own p.row task) },
        )
    tries-with p task first g (Err spent) e = skips (one_more p) (job_ends.Gave (p.tries + 1) (causes.Spent spent.seen)) first g refl

    tries : (p : Progress) (task : Task) → p.jobs ≡ job ∷ jobs → Good p.jobs p.seen p.endings → Stands (try_task script host task rest p)
    tries p task first g = tries-with p task first g (draw host p.seen) refl

    parts-plain : (fault : PartsFault) → number_of (parts_end fault) ≡ None
    parts-plain faults.NoObject = refl
    parts-plain (faults.PastEnd end) = refl
    parts-plain (faults.TooManyRows rows) = refl

    parts-begin : (p : Progress) (task : Task) → p.jobs ≡ job ∷ jobs → Good p.jobs p.seen p.endings → (r : Result (List RowPart) PartsFault) → Stands (try_parts script host task rest p r)
    parts-begin p task first g (Ok parts) = tries p task first g
    parts-begin p task first g (Err fault) = skips p (parts_end fault) first g (parts-plain fault)

    loses : (p : Progress) (bay : BayNo) → p.jobs ≡ job ∷ jobs → Good p.jobs p.seen p.endings → (gone : Option Gone) → Stands (lose_job rest p bay gone)
    loses p bay first g None = (g, tt)
    loses p bay first g (Some gone) = skips p (job_ends.StillMissing gone.bay) first g refl

    fits-one : (p : Progress) (bay : BayNo) → p.jobs ≡ job ∷ jobs → Good p.jobs p.seen p.endings → (lost : Bool) → Stands (fit_job rest p bay lost)
    fits-one p bay first g true = (g, tt)
    fits-one p bay first g false = skips p (job_ends.NotLost bay) first g refl

    rebuilds : (p : Progress) (bay : BayNo) → p.jobs ≡ job ∷ jobs → Good p.jobs p.seen p.endings → (fitted : Bool) → Stands (rebuild_job script host rest p bay fitted)
    rebuilds p bay first g true = tries p (tasks.Rebuild bay) first g
    rebuilds p bay first g false = skips p (job_ends.NotFitted bay) first g refl

    starts : (p : Progress) (task : Task) → p.jobs ≡ job ∷ jobs → Good p.jobs p.seen p.endings → Stands (start_task script host rest p task)
    starts p (tasks.Read object begin count) first g = parts-begin p (tasks.Read object begin count) first g (parts_of script object begin count)
    starts p (tasks.Write object begin from count) first g = parts-begin p (tasks.Write object begin from count) first g (parts_of script object begin count)
    starts p (tasks.Recover row) first g = tries p (tasks.Recover row) first g
    starts p (tasks.Lose bay) first g = loses p bay first g p.gone
    starts p (tasks.Fit bay) first g = fits-one p bay first g (is_gone bay false p.gone)
    starts p (tasks.Rebuild bay) first g = rebuilds p bay first g (is_gone bay true p.gone)

  jobs-stand : (jobs : List Job) → GoesOn jobs (start_jobs script host jobs)
  jobs-stand [] p none g = (g, inl none)
  jobs-stand (job ∷ jobs) p first g = starts (start_jobs script host jobs) job jobs (jobs-stand jobs) p job.task first g

  -- A job ends
  on-stands : (p : Progress) (e : JobEnd) (read : List Content) (stopped : Bool) → stops p ≡ stopped → Good (drop 1 p.jobs) p.seen (p.endings ++ endings_of p.jobs e read p) →
      Stands (go_on script host (with_ending p e read) stopped)
  on-stands p e read true is g = (g, inr (quits p e read p.jobs is))
  on-stands p e read false is g = jobs-stand (drop 1 p.jobs) (next_job (with_ending p e read)) refl g

  ended-stands : (p : Progress) (e : JobEnd) (read : List Content) → Good p.jobs p.seen p.endings → Due p.seen p.endings e → Stands (job_ended script host p e read)
  ended-stands p e read g due = on-stands p e read (stops p) refl (next-good p e read p.jobs g due)

  ended-plain : (p : Progress) (e : JobEnd) → Good p.jobs p.seen p.endings → number_of e ≡ None → Stands (job_ended script host p e [])
  ended-plain p e g none = ended-stands p e [] g (plain p.seen p.endings e none)

  again-stands : (p : Progress) (js : List Job) → p.jobs ≡ js → HasJob js → Good p.jobs p.seen p.endings → Stands (try_again script host p (task_of js))
  again-stands p [] same has g = absurd has
  again-stands p (job ∷ jobs) same has g =
      tries (start_jobs script host (drop 1 p.jobs)) job jobs (λ q left good. jobs-stand (drop 1 p.jobs) q (left ∙ sym (ap (drop 1) same)) good) p job.task same g

  more-stands : (p later : Progress) → later.jobs ≡ p.jobs → HasJob p.jobs → Good p.jobs p.seen p.endings → Good later.jobs later.seen later.endings → (stopped : Bool) →
      Stands (once_more script host p later stopped)
  more-stands p later same has g h true = ended-plain p (job_ends.Gave p.tries causes.Quit) g refl
  more-stands p later same has g h false = again-stands later p.jobs same has h

  refused-stands : (p : Progress) (cause : Cause) → HasJob p.jobs → Good p.jobs p.seen p.endings → (last : Bool) → Stands (attempt_refused script host p cause last)
  refused-stands p cause has g true = ended-plain p (job_ends.Gave p.tries cause) g refl
  refused-stands p cause has g false = more-stands p p refl has g g (stops p)

  mended-stands : (p : Progress) → HasJob p.jobs → Good p.jobs p.seen p.endings → (last : Bool) → Stands (row_mended script host p last)
  mended-stands p has g true = ended-plain (record p { gone = None }) job_ends.Rebuilt g refl
  mended-stands p has g false = more-stands p (next_row p) refl has g g (stops p)

  -- An attempt
  module _ (p : Progress) (g : Good p.jobs p.seen p.endings) where
    attempt-stands : HasJob p.jobs → (number : Option Number) → ((m : Number) → number ≡ Some m → IsFurther host p.seen.0 (numbered (told_of p.endings)) m) →
        (read : List Content) (ended : Ended) → HasNumber number ended → Stands (attempt_ended script host p read ended)
    attempt-stands has number further read (ends.Read n) is = ended-stands p (job_ends.Read n) read g (number-due host few (numbered (told_of p.endings)) p.seen number (job_ends.Read n) n further is refl)
    attempt-stands has number further read (ends.Wrote n) is = ended-stands p (job_ends.Wrote n) [] g (number-due host few (numbered (told_of p.endings)) p.seen number (job_ends.Wrote n) n further is refl)
    attempt-stands has number further read (ends.Part n made cause) is =
        ended-stands p (job_ends.Part n made cause) [] g (number-due host few (numbered (told_of p.endings)) p.seen number (job_ends.Part n made cause) n further is refl)
    attempt-stands has number further read (ends.Recovered n closed lost) is =
        ended-stands p (job_ends.Recovered n closed lost) [] g (number-due host few (numbered (told_of p.endings)) p.seen number (job_ends.Recovered n closed lost) n further is refl)
    attempt-stands has number further read (ends.Refused cause) is = refused-stands p cause has g ((p.tries == script.tries) || is_spent cause)
    attempt-stands has number further read ends.Mended is = mended-stands p has g (p.row + 1 == script.rows)

    asks-stands : (steps : Steps Finish) (stop : Ended) → Tried p.jobs p.seen p.endings steps → Due p.seen p.endings (quit_end p.tries stop) → (stopped : Bool) → stops p ≡ stopped →
        Stands (asks_on p steps stop stopped)
    asks-stands steps stop h due true is = (next-good p (quit_end p.tries stop) [] p.jobs g due, inr (quits p (quit_end p.tries stop) [] p.jobs is))
    asks-stands steps stop h due false is = (g, h)

    left-stands : (steps : Steps Finish) → draws steps ≡ false → Tried p.jobs p.seen p.endings steps → Stands (steps_left script host p steps)
    left-stands (Asks e t c k) still h =
        asks-stands (Asks e t c k) t h (quit-due host few (numbered (told_of p.endings)) p.seen h.numbers.number p.tries t h.numbers.further h.numbers.tells.0) (stops p) refl
    left-stands (Draws k) still h = absurd (let bad : true ≡ false = still in cc)
    left-stands (Ends f) still h = attempt-stands h.first h.numbers.number h.numbers.further f.contents f.ended h.numbers.tells

  -- Calls
  told-stands : (p : Progress) (call : Call) → Good p.jobs p.seen p.endings → (work : Work) → p.work ≡ work → HasInHand p.jobs p.seen p.endings work →
      Stands (work_told script host (call_counted p call) call.answer.reply work)
  told-stands p call g (Trying steps) was h =
      let r : Reply = call.answer.reply in
      let rs : List Reported = numbered (told_of p.endings) in
      let now : Standing Finish = told host (record { seen = p.seen; steps = steps }) r in
      let first = reply-covers p.seen r in
      let rest = settled-covers script host few (sees p.seen r) (behind steps r) in
      left-stands (record (call_counted p call) { seen = now.seen }) (more-seen p.jobs p.seen now.seen p.endings (omega (arith, first, rest)) g) now.steps
      (settled-still host (sees p.seen r) (behind steps r))
      (record { first = h.first; numbers = told-numbers host few rs p.seen steps r g.rising.low h.numbers })
  told-stands p call g (Losing bay) was h = ended-plain (record (call_counted p call) { gone = Some (record { bay = bay; fitted = false }) }) job_ends.Lost g refl
  told-stands p call g (Fitting bay) was h = ended-plain (record (call_counted p call) { gone = Some (record { bay = bay; fitted = true }) }) job_ends.Fitted g refl
  told-stands p call g Over was h = (g, subst (λ (w : Work). HasInHand p.jobs p.seen p.endings w) (sym was) h)

  taken-stands : (p : Progress) (call : Call) (own : Bool) → Stands p → Stands (if_taken script host p call own)
  taken-stands p call true s = told-stands p call s.0 p.work refl s.1
  taken-stands p call false s = s

  pub history-stands : (history : List Call) → Stands (progress_at script host history)
  history-stands [] = jobs-stand (jobs_of script host) (before_start script host) refl (record { count = omega arith; rising = record { rise = tt; low = tt; own = tt } })
  history-stands (call ∷ earlier) = taken-stands (progress_at script host earlier) call (call.ask.host.0 == host.0) (history-stands earlier)
