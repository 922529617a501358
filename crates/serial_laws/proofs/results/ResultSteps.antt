-- What the results of a host tell, and what its attempt in hand has committed: kept by each call of a history.
use Rattle.std.proofs.Common.{◌≡◌, ◌⊎◌, inl, inr, refl, sym, ap, subst, ◌∙◌, ℕ, ◌+◌, ◌%◌, ◌<◌, ◌≤◌, ◌==◌, Bool, true, false, if◌then◌else◌, List, [], ◌∷◌, ◌++◌, Option, Some, None, arith}
use Rattle.std.proofs.lemmas.Bool.Decides.{nat_tests}
use Rattle.raid_base.specs.declared.numbers.HostNo.{HostNo}
use Rattle.raid_base.specs.declared.numbers.RowNo.{RowNo}
use Rattle.raid_base.specs.declared.numbers.Number.{Number}
use Rattle.raid_base.specs.declared.cells.Cell.{Cell}
use Rattle.raid_base.specs.declared.messages.Call.{Call}
use Rattle.raid_base.specs.declared.messages.Errand.{Errand}
use Rattle.raid_base.specs.declared.messages.Reply.{Reply}
use Rattle.raid_base.specs.declared.messages.Request.{Request}
use Rattle.raid_base.specs.declared.messages.Request.TheVariants.{Put, Lose, Fit}
use Rattle.raid_base.specs.declared.jobs.Ended.{Ended}
use Rattle.raid_base.specs.declared.jobs.Job.{Job}
use Rattle.raid_base.specs.declared.jobs.JobEnd.TheVariants as job_ends
use Rattle.raid_base.specs.Fits.{fits}
use Rattle.raid_base.specs.Numbers.{sees}
use Rattle.raid_base.specs.Replies.{is_done}
use Rattle.raid_base.specs.Steps.{Commit, Steps, Asks, Draws, Ends, Standing, told, errand_of}
use Rattle.slot_rules.specs.Laws.{put_number}
use Rattle.attempts.specs.Taking.{Finish}
use Rattle.attempts.specs.Phases.{IsIn, MayAsk}
use Rattle.attempts.proofs.ReturnLemmas.{in-left, in-right, in-either}
use Rattle.script_text.specs.Script.{Script, jobs_of}
use Rattle.script_text.specs.Ranges.{IsScript}
use Rattle.histories.specs.Progress.{Ending, Work, Trying, Losing, Fitting, Over, Progress, work_told, call_counted, takes, work_errand}
use Rattle.histories.specs.History.{if_taken, progress_at, IsHistory}
use Rattle.histories.proofs.bounds.BoundsTakes.{before_start}
use Rattle.histories.proofs.hands.Attempting.{own-errand, reply-fits}
use Rattle.histories.proofs.hands.Settled.{draws-settled}
use Rattle.row_laws.specs.Commits.{IsOwnPut, IsParityPut, IsGiven}
use Rattle.row_laws.specs.Effects.{done_after}
use Rattle.row_laws.specs.Laws.{commits_in, commits_of}
use Rattle.serial_laws.specs.Rising.{Taken, put_no, taken_by, taken_at}
use Rattle.histories.proofs.accesses.AccessHosts.{reply-covers}
use Rattle.row_laws.proofs.hands.HandClaims.{kind_of}
use Rattle.row_laws.proofs.hands.HandMoves.{may-next}
use Rattle.row_laws.proofs.commits.OwnedCommits.{commits_are_of_owners}
use Rattle.row_laws.proofs.owners.OwnedPuts.{all-in}
use Rattle.row_laws.proofs.numbers.RisenDraws.{HasNumber, Numbered, number-least, told-stands}
use Rattle.row_laws.proofs.numbers.RisenPuts.{put-as, puts-own}
use Rattle.serial_laws.proofs.rising.RisingCommits.{TakesOne, taken-moved}
use Rattle.serial_laws.proofs.results.ResultEffects.{taken-stays, commit-taken}
use Rattle.serial_laws.proofs.results.ResultHands.{IsOwn, Told, AreTold, AreBelow, IsToldBy, Rest, Hand, Stands, Holds, settled-hand, jobs-hold, ended-plain, left-hold}
use Rattle.histories.proofs.steps.SameNumbers.{same-host}
use Rattle.histories.proofs.steps.HostTasks.{host-tasks}

module _ (script : Script) (is : IsScript script) (earlier : List Call) (call : Call) (along : IsHistory script (call ∷ earlier)) where
  -- what was taken stays
  stays : (row : RowNo) (unit : ℕ) (t : Taken) → IsIn t (taken_at script earlier row unit) → IsIn t (taken_at script (call ∷ earlier) row unit)
  stays row unit t i = taken-stays row unit (put_no call.ask.what) (commits_of script earlier call) (taken_at script earlier row unit) t i

  -- what is taken was there, or the call gives it
  abbrev IsNew : RowNo → ℕ → Taken → Type 0
  IsNew row unit t = (x : TakesOne script earlier call row unit) × (record { number = x.number; content = x.commit.content } ≡ t)

  in-moved : (row : RowNo) (unit : ℕ) (t : Taken) → IsIn t (taken_at script (call ∷ earlier) row unit) → IsIn t (taken_at script earlier row unit) ⊎ IsNew row unit t
  in-moved row unit t i = by (taken-moved script is earlier call along row unit)
    where
      given : (x : TakesOne script earlier call row unit) → IsIn t (record { number = x.number; content = x.commit.content } ∷ taken_at script earlier row unit) →
          IsIn t (taken_at script earlier row unit) ⊎ IsNew row unit t
      given x (inl same) = inr (x, same)
      given x (inr j) = inl j

      by : (taken_at script (call ∷ earlier) row unit ≡ taken_at script earlier row unit) ⊎ TakesOne script earlier call row unit → IsIn t (taken_at script earlier row unit) ⊎ IsNew row unit t
      by (inl same) = inl (subst (λ (ts : List Taken). IsIn t ts) same i)
      by (inr x) = given x (subst (λ (ts : List Taken). IsIn t ts) x.now i)

  module _ (host : HostNo) where
    -- results stay told while nothing is taken with their numbers
    told-moved : (e : Ending) (n : Number) → ((row : RowNo) (unit : ℕ) (x : TakesOne script earlier call row unit) → x.number ≡ n → ⊥) → Told script host (taken_at script earlier) e n →
        Told script host (taken_at script (call ∷ earlier)) e n
    told-moved e n apart h = record {
      own = h.own;
      id = h.id;
      done = h.done;
      ended = h.ended;
      same = h.same;
      tells = h.tells;
      taken = λ commit i. stays commit.row commit.unit (record { number = n; content = commit.content }) (h.taken commit i);
      only = λ row unit t i at. by row unit t at (in-moved row unit t i);
    }
      where
        by : (row : RowNo) (unit : ℕ) (t : Taken) → t.number ≡ n → IsIn t (taken_at script earlier row unit) ⊎ IsNew row unit t → IsIn (record { row = row; unit = unit; content = t.content }) h.done
        by row unit t at (inl i) = h.only row unit t i at
        by row unit t at (inr (x, same)) = absurd (apart row unit x (ap (λ (y : Taken). y.number) same ∙ at))

    all-told : (top : ℕ) → ((n : Number) → n.0 % 16 ≡ host.0 → n.0 < top → (row : RowNo) (unit : ℕ) (x : TakesOne script earlier call row unit) → x.number ≡ n → ⊥) → (endings : List Ending) →
        AreBelow script host (taken_at script earlier) top endings → AreTold script host (taken_at script earlier) endings → AreTold script host (taken_at script (call ∷ earlier)) endings
    all-told top apart [] below told = tt
    all-told top apart (e ∷ es) below told =
        (λ n has. let h = told.0 n has in told-moved e n (apart n h.own (below.0 n has)) h, all-told top apart es below.1 told.1)

    -- A call that gives nothing with a number of the host
    module _ (apart : (row : RowNo) (unit : ℕ) (x : TakesOne script earlier call row unit) → x.number.0 % 16 ≡ host.0 → ⊥) where
      none-own : (n : Number) → n.0 % 16 ≡ host.0 → (row : RowNo) (unit : ℕ) (x : TakesOne script earlier call row unit) → x.number ≡ n → ⊥
      none-own n own row unit x same = apart row unit x (ap (λ (y : Number). y.0 % 16) same ∙ own)

      was-there : (row : RowNo) (unit : ℕ) (t : Taken) → IsIn t (taken_at script (call ∷ earlier) row unit) → t.number.0 % 16 ≡ host.0 → IsIn t (taken_at script earlier row unit)
      was-there row unit t i own = by (in-moved row unit t i)
        where
          by : IsIn t (taken_at script earlier row unit) ⊎ IsNew row unit t → IsIn t (taken_at script earlier row unit)
          by (inl j) = j
          by (inr (x, same)) = absurd (none-own t.number own row unit x (ap (λ (y : Taken). y.number) same))

      other-rest : (jobs : List Job) (endings : List Ending) (seen : Number) → Rest script host (taken_at script earlier) jobs endings seen → Rest script host (taken_at script (call ∷ earlier)) jobs endings seen
      other-rest jobs endings seen r = record {
        may = r.may;
        told = all-told (seen.0 + 1) (λ n own less. none-own n own) endings r.below r.told;
        below = r.below;
        low = λ row unit t i own. r.low row unit t (was-there row unit t i own) own;
        whose = λ row unit t i own. r.whose row unit t (was-there row unit t i own) own;
      }

      other-hand : (jobs : List Job) (endings : List Ending) (calls : List Call) (seen : Number) (steps : Steps Finish) → Hand script host (taken_at script earlier) jobs endings calls seen steps →
          Hand script host (taken_at script (call ∷ earlier)) jobs endings calls seen steps
      other-hand jobs endings calls seen steps h = record {
        may = h.may;
        task = h.task;
        first = h.first;
        aim = h.aim;
        tried = h.tried;
        id = h.id;
        numbered = h.numbered;
        done = h.done;
        effecting = h.effecting;
        taken = λ commit i. let given = h.taken commit i in (given.0, given.1, stays commit.row commit.unit (record { number = given.0; content = commit.content }) given.2);
        only = λ row unit t i own least. h.only row unit t (was-there row unit t i own) own least;
        told = all-told h.id.0 (λ n own less. none-own n own) endings h.below h.told;
        below = h.below;
        low = λ row unit t i own. h.low row unit t (was-there row unit t i own) own;
        whose = λ row unit t i own. h.whose row unit t (was-there row unit t i own) own;
      }

      other-stands : (jobs : List Job) (endings : List Ending) (calls : List Call) (seen : Number) (work : Work) → Stands script host (taken_at script earlier) jobs endings calls seen work →
          Stands script host (taken_at script (call ∷ earlier)) jobs endings calls seen work
      other-stands jobs endings calls seen (Trying steps) h = other-hand jobs endings calls seen steps h
      other-stands jobs endings calls seen (Losing bay) h = other-rest jobs endings seen h
      other-stands jobs endings calls seen (Fitting bay) h = other-rest jobs endings seen h
      other-stands jobs endings calls seen Over h = other-rest jobs endings seen h

    -- A call of the attempt in hand
    module _ (few : host.0 < 16) (jobs : List Job) (endings : List Ending) (calls : List Call) (seen : Number) (e : Errand) (stop : Ended) (commits : List Commit) (k : Reply → Steps Finish)
        (gives : commits_of script earlier call ≡ (if is_done call.answer.reply then commits else [])) (asked : e ≡ errand_of call) (fit : fits call.ask.what call.answer.reply ≡ true)
        (h : Hand script host (taken_at script earlier) jobs endings calls seen (Asks e stop commits k)) where
      abbrev Later : Type 0
      Later = Numbered script.n h.id script.mode (kind_of h.task) host (call ∷ calls) (record { seen = sees seen call.answer.reply; steps = k call.answer.reply })

      stood : (x : Later) × (x.past.number ≡ h.numbered.past.number)
      stood = told-stands script.n h.id script.mode (kind_of h.task) host few calls seen call e stop commits k h.numbered asked fit

      -- what is put has its number
      put-has : (m : Number) → put_number call.ask.what ≡ Some m → h.numbered.past.number ≡ Some m
      put-has m e_put =
          let put = put-as call.ask.what m e_put in
          let may : MayAsk script.n h.id h.numbered.past call.bay (Put put.0 put.1 m put.2) =
          subst (λ (w : Request). MayAsk script.n h.id h.numbered.past call.bay w) put.3
          (may-next script.n h.id h.numbered.past (Asks e stop commits k) (errand_of call) h.numbered.keeps (ap (λ (x : Errand). Some x) asked)) in
          may.2

      new-has : (row : RowNo) (unit : ℕ) (x : TakesOne script earlier call row unit) → h.numbered.past.number ≡ Some x.number
      new-has row unit x = put-has x.number (ap (λ (w : Request). put_number w) x.what)

      new-is : (row : RowNo) (unit : ℕ) (x : TakesOne script earlier call row unit) → HasNumber h.id script.mode (kind_of h.task) host h.numbered.past calls seen x.number
      new-is row unit x = h.numbered.number x.number (new-has row unit x)

      -- what is done grows
      grown : (c : Commit) → IsIn c h.done → IsIn c (done_after call.answer.reply commits h.done)
      grown c i = by (is_done call.answer.reply)
        where
          by : (b : Bool) → IsIn c (if b then h.done ++ commits else h.done)
          by true = in-left c h.done commits i
          by false = i

      new-grown : (c : Commit) → IsIn c (commits_of script earlier call) → IsIn c (done_after call.answer.reply commits h.done)
      new-grown c i = by (is_done call.answer.reply) (subst (λ (cs : List Commit). IsIn c cs) gives i)
        where
          by : (b : Bool) → IsIn c (if b then commits else []) → IsIn c (if b then h.done ++ commits else h.done)
          by true j = in-right c h.done commits j
          by false j = absurd j

      abbrev IsTaken : Commit → Type 0
      IsTaken c = (m : Number) × (h.numbered.past.number ≡ Some m) × IsIn (record { number = m; content = c.content }) (taken_at script (call ∷ earlier) c.row c.unit)

      old-taken : (c : Commit) → IsIn c h.done → IsTaken c
      old-taken c i = let given = h.taken c i in (given.0, given.1, stays c.row c.unit (record { number = given.0; content = c.content }) given.2)

      new-taken : (c : Commit) → IsIn c (commits_of script earlier call) → IsTaken c
      new-taken c i = by (all-in (IsGiven script earlier call) c (commits_of script earlier call) (commits_are_of_owners script earlier call is along) i)
        where
          put : (row : RowNo) (id n : Number) (cell : Cell) → call.ask.what ≡ Put row id n cell → IsTaken c
          put row id n cell what = (
            n,
            put-has n (ap (λ (w : Request). put_number w) what),
            subst (λ (o : Option Number). IsIn (record { number = n; content = c.content }) (taken_by c.row c.unit o (commits_of script earlier call) (taken_at script earlier c.row c.unit)))
                (sym (ap (λ (w : Request). put_no w) what)) (commit-taken n c (commits_of script earlier call) (taken_at script earlier c.row c.unit) i),
          )

          whose : IsOwnPut script earlier call c ⊎ IsParityPut script call c → IsTaken c
          whose (inl o) = put c.row o.id o.number o.cell o.put
          whose (inr (id, (place, n, cell, what))) = put c.row id n cell what

          by : IsGiven script earlier call c → IsTaken c
          by g = whose g.whose

      all-taken : (c : Commit) → IsIn c (done_after call.answer.reply commits h.done) → IsTaken c
      all-taken c i = by (is_done call.answer.reply) gives i
        where
          by : (b : Bool) → commits_of script earlier call ≡ (if b then commits else []) → IsIn c (if b then h.done ++ commits else h.done) → IsTaken c
          by true all j = elim (in-either c h.done commits j) [
            | inl old ↦ old-taken c old
            | inr new ↦ new-taken c (subst (λ (cs : List Commit). IsIn c cs) (sym all) new)
          ]
          by false all j = old-taken c j

      -- what the call gives is the attempt's
      new-only : (row : RowNo) (unit : ℕ) (t : Taken) → IsNew row unit t → (h.numbered.past.number ≡ Some t.number) × IsIn (record { row = row; unit = unit; content = t.content }) (done_after call.answer.reply commits h.done)
      new-only row unit t (x, same) = (
        new-has row unit x ∙ ap (λ (y : Taken). Some y.number) same,
        subst (λ (c : Commit). IsIn c (done_after call.answer.reply commits h.done))
            (ap (λ (v : RowNo). record { row = v; unit = x.commit.unit; content = x.commit.content }) x.of_row ∙ ap (λ (v : ℕ). record { row = row; unit = v; content = x.commit.content }) x.of_unit
            ∙ ap (λ (y : Taken). record { row = row; unit = unit; content = y.content }) same)
            (new-grown x.commit x.among),
      )

      new-least : (row : RowNo) (unit : ℕ) (t : Taken) → IsNew row unit t → (h.id.0 ≤ t.number.0) × (t.number.0 ≤ seen.0)
      new-least row unit t (x, same) =
          let has = new-is row unit x in
          let least = number-least has.is in
          let low = has.low in
          let value = ap (λ (y : Taken). (y.number).0) same in
          (omega (arith, least, value), omega (arith, low, value))

      own-hand : Hand script host (taken_at script (call ∷ earlier)) jobs endings (call ∷ calls) (sees seen call.answer.reply) (k call.answer.reply)
      own-hand = record {
        may = h.may;
        task = h.task;
        first = h.first;
        aim = h.aim;
        tried = h.tried;
        id = h.id;
        numbered = (stood).0;
        done = done_after call.answer.reply commits h.done;
        effecting = h.effecting.1 call.answer.reply (subst (λ (x : Errand). fits x.request call.answer.reply ≡ true) (sym asked) fit);
        taken = λ commit i. let given = all-taken commit i in (given.0, (stood).1 ∙ given.1, given.2);
        only = λ row unit t i own least. let found = only-of row unit t own least (in-moved row unit t i) in ((stood).1 ∙ found.0, found.1);
        told = all-told h.id.0 (λ n own less row unit x same. let least = number-least (new-is row unit x).is in let value = ap (λ (y : Number). y.0) same in omega (arith, least, less, value)) endings h.below h.told;
        below = h.below;
        low = λ row unit t i own. low-of row unit t own (in-moved row unit t i);
        whose = λ row unit t i own. whose-of row unit t own (in-moved row unit t i);
      }
        where
          only-of : (row : RowNo) (unit : ℕ) (t : Taken) → IsOwn script host (taken_at script earlier) t → h.id.0 ≤ t.number.0 → IsIn t (taken_at script earlier row unit) ⊎ IsNew row unit t →
              (h.numbered.past.number ≡ Some t.number) × IsIn (record { row = row; unit = unit; content = t.content }) (done_after call.answer.reply commits h.done)
          only-of row unit t own least (inl i) = let found = h.only row unit t i own least in (found.0, grown (record { row = row; unit = unit; content = t.content }) found.1)
          only-of row unit t own least (inr x) = new-only row unit t x

          low-of : (row : RowNo) (unit : ℕ) (t : Taken) → IsOwn script host (taken_at script earlier) t → IsIn t (taken_at script earlier row unit) ⊎ IsNew row unit t → t.number.0 ≤ (sees seen call.answer.reply).0
          low-of row unit t own (inl i) = let low = h.low row unit t i own in let more = reply-covers seen call.answer.reply in omega (arith, low, more)
          low-of row unit t own (inr x) = let low = (new-least row unit t x).1 in let more = reply-covers seen call.answer.reply in omega (arith, low, more)

          whose-of : (row : RowNo) (unit : ℕ) (t : Taken) → IsOwn script host (taken_at script earlier) t → IsIn t (taken_at script earlier row unit) ⊎ IsNew row unit t →
              (h.id.0 ≤ t.number.0) ⊎ IsToldBy script host (taken_at script earlier) endings t
          whose-of row unit t own (inl i) = h.whose row unit t i own
          whose-of row unit t own (inr x) = inl (new-least row unit t x).0

    -- A call of the host
    module _ (few : host.0 < 16) (own : call.ask.host ≡ host) where
      fit : fits call.ask.what call.answer.reply ≡ true
      fit = reply-fits script earlier call along.1

      given-by : (w : Work) → (progress_at script host earlier).work ≡ w → commits_of script earlier call ≡ (if is_done call.answer.reply then commits_in w else [])
      given-by w was =
          ap (λ (x : Work). if is_done call.answer.reply then commits_in x else []) (subst (λ (x : HostNo). (progress_at script x earlier).work ≡ w) (sym own) was)

      no-put : (w : Request) → put_number w ≡ None → call.ask.what ≡ w → (row : RowNo) (unit : ℕ) (x : TakesOne script earlier call row unit) → x.number.0 % 16 ≡ host.0 → ⊥
      no-put w none what row unit x mine =
          let some : put_number w ≡ Some x.number = ap (λ (y : Request). put_number y) (sym what) ∙ ap (λ (y : Request). put_number y) x.what in
          absurd (let bad : None ≡ Some x.number = sym none ∙ some in cc)

      work-holds : (p : Progress) → p ≡ progress_at script host earlier → (w : Work) → p.work ≡ w → work_errand w ≡ Some (errand_of call) →
          Stands script host (taken_at script earlier) p.jobs p.endings p.calls p.seen w → Holds script host (taken_at script (call ∷ earlier)) (work_told script host (call_counted p call) call.answer.reply w)
      work-holds p at (Trying (Asks e stop commits k)) was asked h =
          let is_call : e ≡ errand_of call = cc in
          let now : Standing Finish = told host (record { seen = p.seen; steps = Asks e stop commits k }) call.answer.reply in
          left-hold script is host few (taken_at script (call ∷ earlier)) (record (call_counted p call) { seen = now.seen }) now.steps (draws-settled host (sees p.seen call.answer.reply) (k call.answer.reply))
          (settled-hand script is host few (taken_at script (call ∷ earlier)) p.jobs p.endings (call ∷ p.calls) (sees p.seen call.answer.reply) (k call.answer.reply)
          (own-hand few p.jobs p.endings p.calls p.seen e stop commits k (given-by (Trying (Asks e stop commits k)) (subst (λ (x : Progress). x.work ≡ Trying (Asks e stop commits k)) at was)) is_call fit h))
      work-holds p at (Trying (Draws k)) was asked h = absurd (cc)
      work-holds p at (Trying (Ends finish)) was asked h = absurd (cc)
      work-holds p at (Losing bay) was asked r =
          let what : call.ask.what ≡ Lose = (let both : record { bay = bay; request = Lose } ≡ errand_of call = cc in ap (λ (x : Errand). x.request) (sym both)) in
          ended-plain script is host few (taken_at script (call ∷ earlier)) (record (call_counted p call) { gone = Some (record { bay = bay; fitted = false }) }) job_ends.Lost [] refl
          (other-rest (no-put Lose refl what) p.jobs p.endings p.seen r)
      work-holds p at (Fitting bay) was asked r =
          let what : call.ask.what ≡ Fit = (let both : record { bay = bay; request = Fit } ≡ errand_of call = cc in ap (λ (x : Errand). x.request) (sym both)) in
          ended-plain script is host few (taken_at script (call ∷ earlier)) (record (call_counted p call) { gone = Some (record { bay = bay; fitted = true }) }) job_ends.Fitted [] refl
          (other-rest (no-put Fit refl what) p.jobs p.endings p.seen r)
      work-holds p at Over was asked r = absurd (cc)

      takes-hold : work_errand (progress_at script host earlier).work ≡ Some (errand_of call) → Holds script host (taken_at script earlier) (progress_at script host earlier) →
          Holds script host (taken_at script (call ∷ earlier)) (takes script host (progress_at script host earlier) call)
      takes-hold asked h = work-holds (progress_at script host earlier) refl (progress_at script host earlier).work refl asked h

    -- a call of another host
    others-apart : (call.ask.host.0 == host.0) ≡ false → (row : RowNo) (unit : ℕ) (x : TakesOne script earlier call row unit) → x.number.0 % 16 ≡ host.0 → ⊥
    others-apart e row unit x own =
        let mine : x.number.0 % 16 ≡ call.ask.host.0 = (puts-own script is (call ∷ earlier) along).0 x.number (ap (λ (w : Request). put_number w) x.what) in
        let same : call.ask.host.0 ≡ host.0 = sym mine ∙ own in
        grind (arith, nat_tests)

-- So it is in every history.
pub history-holds : (script : Script) → IsScript script → (host : HostNo) → host.0 < 16 → (history : List Call) → IsHistory script history →
    Holds script host (taken_at script history) (progress_at script host history)
history-holds script is host few [] along =
    jobs-hold script is host few (taken_at script []) (jobs_of script host) (before_start script host) refl
    (record {
      may = host-tasks script is host;
      told = tt;
      below = tt;
      low = λ row unit t i own. absurd i;
      whose = λ row unit t i own. absurd i;
    })
history-holds script is host few (call ∷ earlier) along = by (call.ask.host.0 == host.0) refl (history-holds script is host few earlier along.0)
  where
    p : Progress
    p = progress_at script host earlier

    by : (b : Bool) → (call.ask.host.0 == host.0) ≡ b → Holds script host (taken_at script earlier) p → Holds script host (taken_at script (call ∷ earlier)) (if_taken script host p call b)
    by true e h = takes-hold script is earlier call along host few (same-host call.ask.host host e) (own-errand script earlier call along.1 host e) h
    by false e h = other-stands script is earlier call along host (others-apart script is earlier call along host e) p.jobs p.endings p.calls p.seen p.work h
