-- How far a call takes what a host has seen, and that its jobs end with numbers left.
use Rattle.std.proofs.Common.{◌≡◌, ℕ, ◌+◌, ◌*◌, ◌/◌, ◌%◌, ◌^◌, ◌<◌, ◌≤◌, ◌==◌, ◌||◌, Bool, true, false, List, [], ◌∷◌, drop, Option, Some, None, Result, Ok, Err, refl, sym, ap, subst, arith}
use Rattle.std.specs.Prelude.{nat_lt, ok_or, if◌then◌else◌}
use Rattle.std.specs.List.{AllByRecursion}
use Rattle.std.proofs.lemmas.Bool.Decides.{nat_tests}
use Rattle.raid_base.specs.declared.numbers.BayNo.{BayNo}
use Rattle.raid_base.specs.declared.numbers.HostNo.{HostNo}
use Rattle.raid_base.specs.declared.numbers.Number.{Number}
use Rattle.raid_base.specs.declared.numbers.Spent.{Spent}
use Rattle.raid_base.specs.declared.cells.Content.{Content}
use Rattle.raid_base.specs.declared.messages.Call.{Call}
use Rattle.raid_base.specs.declared.messages.Mode.{Mode}
use Rattle.raid_base.specs.declared.messages.Mode.TheVariants.{Lock, Order}
use Rattle.raid_base.specs.declared.messages.Note.{Note}
use Rattle.raid_base.specs.declared.messages.Reply.{Reply}
use Rattle.raid_base.specs.declared.messages.Reply.TheVariants.{Granted, Busy, Late, Young, Missing, Held, NoNote, Done, Fault, Emptied, Fitted}
use Rattle.raid_base.specs.declared.jobs.Job.{Job}
use Rattle.raid_base.specs.declared.jobs.Task.{Task}
use Rattle.raid_base.specs.declared.jobs.Task.TheVariants as tasks
use Rattle.raid_base.specs.declared.jobs.RowPart.{RowPart}
use Rattle.raid_base.specs.declared.jobs.PartsFault.{PartsFault}
use Rattle.raid_base.specs.declared.jobs.PartsFault.TheVariants as faults
use Rattle.raid_base.specs.declared.jobs.Cause.{Cause}
use Rattle.raid_base.specs.declared.jobs.Cause.TheVariants as causes
use Rattle.raid_base.specs.declared.jobs.Ended.{Ended}
use Rattle.raid_base.specs.declared.jobs.Ended.TheVariants as ends
use Rattle.raid_base.specs.declared.jobs.JobEnd.{JobEnd}
use Rattle.raid_base.specs.declared.jobs.JobEnd.TheVariants as job_ends
use Rattle.raid_base.specs.Numbers.{number, greater, least_above, draw, seen_drawn, sees_note, sees}
use Rattle.raid_base.specs.Steps.{Steps, Asks, Draws, Ends, settled, behind}
use Rattle.attempts.specs.Taking.{Finish}
use Rattle.attempts.specs.Phases.{number_of}
use Rattle.attempts.proofs.RoomLemmas.{all-append}
use Rattle.script_text.specs.Script.{Script, parts_of, blocks_of}
use Rattle.histories.specs.declared.operator.Gone.{Gone}
use Rattle.histories.specs.Operator.{is_gone}
use Rattle.histories.specs.Progress.{Work, Trying, Losing, Fitting, Over, Progress, endings_of, with_ending, next_job, access, attempt, read_of, write_of, no_steps, try_with, one_more, try_task, ends_as, parts_end, try_parts, lose_job, fit_job, rebuild_job, start_task, start_jobs, stops, go_on, job_ended, task_of, try_again, once_more, is_spent, attempt_refused, next_row, row_mended, attempt_ended, quit_end, asks_on, steps_left, work_told, call_counted, takes}
use Rattle.histories.specs.Smallness.{wants_numbers, HasNumbers}
use Rattle.histories.proofs.smallness.SmallSlots.{LowOrigin, LowReply}
use Rattle.histories.proofs.smallness.SmallAttempts.{ends_spent, Carries, reads-carry, writes-carry, mends-carry, recoveries-carry}

-- Draws: at most 16 above what was seen
least-near : (host floor : ℕ) (b : Bool) → nat_lt (floor % 16) host ≡ b → host < 16 → (if b then 16 * (floor / 16) + host else 16 * (floor / 16) + 16 + host) ≤ floor + 16
least-near host floor true e h = omega arith
least-near host floor false e h = let below : host ≤ floor % 16 = grind (arith, nat_tests) in omega arith

least-more : (host floor : ℕ) (b : Bool) → nat_lt (floor % 16) host ≡ b → floor ≤ (if b then 16 * (floor / 16) + host else 16 * (floor / 16) + 16 + host)
least-more host floor true e = let below : floor % 16 < host = grind (arith, nat_tests) in omega arith
least-more host floor false e = omega arith

drawn-number : (m : ℕ) (spent : Spent) (b : Bool) → nat_lt m (2 ^ 62) ≡ b → m < 2 ^ 62 → ok_or (if b then Some (number m) else None) spent ≡ Ok (number m)
drawn-number m spent true e less = refl
drawn-number m spent false e less = absurd (grind (arith, nat_tests))

pub record IsNear (host : HostNo) (seen : Number) : Type 0 where
  pub next : Number
  pub drawn : draw host seen ≡ Ok next
  pub near : next.0 ≤ seen.0 + 16
  pub more : seen.0 ≤ next.0

pub draws-near : (host : HostNo) (seen : Number) → host.0 < 16 → seen.0 + 16 < 2 ^ 62 → IsNear host seen
draws-near host seen few room =
    let m : ℕ = least_above host.0 seen.0 in
    let near : m ≤ seen.0 + 16 = least-near host.0 seen.0 (nat_lt (seen.0 % 16) host.0) refl few in
    record {
      next = number m;
      drawn = drawn-number m (record { seen = seen }) (nat_lt m (2 ^ 62)) refl (omega (arith, near, room));
      near = near;
      more = least-more host.0 seen.0 (nat_lt (seen.0 % 16) host.0) refl;
    }

-- steps that carry numbers which were seen
pub record Carried (seen : Number) (steps : Steps Finish) : Type 0 where
  pub id : Number
  pub number : Option Number
  pub carries : Carries id number steps
  pub id_seen : id.0 ≤ seen.0
  pub number_seen : (n : Number) → number ≡ Some n → n.0 ≤ seen.0

carried-more : (seen later : Number) (steps : Steps Finish) → seen.0 ≤ later.0 → Carried seen steps → Carried later steps
carried-more seen later steps le c = record {
  id = c.id;
  number = c.number;
  carries = c.carries;
  id_seen = omega (arith, le, c.id_seen);
  number_seen = λ n is. omega (arith, le, c.number_seen n is);
}

behind-carried : (seen : Number) (steps : Steps Finish) (r : Reply) → Carried seen steps → Carried seen (behind steps r)
behind-carried seen (Asks e t c k) r h = record { id = h.id; number = h.number; carries = (h.carries).2 r; id_seen = h.id_seen; number_seen = h.number_seen }
behind-carried seen (Draws k) r h = h
behind-carried seen (Ends f) r h = h

-- once numbers are drawn
pub record Settles (most : ℕ) (seen : Number) (steps : Steps Finish) : Type 0 where
  pub near : seen.0 ≤ most
  pub carried : Carried seen steps

abbrev SettlesAt : ℕ → HostNo → Number → Steps Finish → Type 0
SettlesAt most host seen steps = Settles most (settled host seen steps).seen (settled host seen steps).steps

-- a number was drawn already
numbered-settles : (host : HostNo) (most : ℕ) (seen id n : Number) (steps : Steps Finish) → Carries id (Some n) steps → seen.0 ≤ most → id.0 ≤ seen.0 → n.0 ≤ seen.0 →
    SettlesAt most host seen steps
numbered-settles host most seen id n (Asks e t c k) h le low drawn = record {
  near = le;
  carried = record { id = id; number = Some n; carries = h; id_seen = low; number_seen = λ m is. let same : n ≡ m = cc in omega (arith, drawn, ap (λ (x : Number). x.0) same) };
}
numbered-settles host most seen id n (Draws k) h le low drawn = absurd (let bad : Some n ≡ None = h.0 in cc)
numbered-settles host most seen id n (Ends f) h le low drawn = record {
  near = le;
  carried = record { id = id; number = Some n; carries = h; id_seen = low; number_seen = λ m is. let same : n ≡ m = cc in omega (arith, drawn, ap (λ (x : Number). x.0) same) };
}

settles : (host : HostNo) (most : ℕ) (seen : Number) (steps : Steps Finish) → host.0 < 16 → seen.0 ≤ most → most + 16 < 2 ^ 62 → Carried seen steps →
    SettlesAt (most + 16) host seen steps
settles host most seen (Asks e t c k) few le room h = record { near = omega (arith, le); carried = h }
settles host most seen (Draws k) few le room h =
    let drawn : IsNear host seen = draws-near host seen few (omega (arith, le, room)) in
    let n : Number = drawn.next in
    let above : seen.0 ≤ n.0 = drawn.more in
    subst (λ (d : Result Number Spent). SettlesAt (most + 16) host (seen_drawn seen d) (k d)) (sym drawn.drawn)
    (numbered-settles host (most + 16) n h.id n (k (Ok n)) ((h.carries).1 n) (omega (arith, le, drawn.near)) (omega (arith, h.id_seen, above)) (omega arith))
settles host most seen (Ends f) few le room h = record { near = omega (arith, le); carried = h }

-- what is seen of a reply
note-low : (most : ℕ) (seen : Number) (note : Option Note) → seen.0 ≤ most → LowOrigin most note → (sees_note seen note).0 ≤ most
note-low most seen None le low = le
note-low most seen (Some note) le low = omega (arith, le, low)

sees-low : (most : ℕ) (seen : Number) (r : Reply) → seen.0 ≤ most → LowReply most r → (sees seen r).0 ≤ most
sees-low most seen (Granted cell read_no write_no last life seized) le low =
    note-low most (greater seen (greater read_no write_no)) seized (omega (arith, le, low.0, low.1)) low.2
sees-low most seen (Late above) le low = omega (arith, le, low)
sees-low most seen (Missing floor) le low = omega (arith, le, low)
sees-low most seen (Busy holder) le low = le
sees-low most seen (Young note) le low = le
sees-low most seen (Held cell) le low = le
sees-low most seen (NoNote life) le low = le
sees-low most seen Done le low = le
sees-low most seen Fault le low = le
sees-low most seen Emptied le low = le
sees-low most seen Fitted le low = le

pub sees-more : (seen : Number) (r : Reply) → seen.0 ≤ (sees seen r).0
sees-more seen (Granted cell read_no write_no last life seized) = by seized
  where
    by : (note : Option Note) → seen.0 ≤ (sees_note (greater seen (greater read_no write_no)) note).0
    by None = omega arith
    by (Some note) = omega arith
sees-more seen (Late above) = omega arith
sees-more seen (Missing floor) = omega arith
sees-more seen (Busy holder) = omega arith
sees-more seen (Young note) = omega arith
sees-more seen (Held cell) = omega arith
sees-more seen (NoNote life) = omega arith
sees-more seen Done = omega arith
sees-more seen Fault = omega arith
sees-more seen Emptied = omega arith
sees-more seen Fitted = omega arith

-- how a job ends where its host stops
quit-numbers : (tries : ℕ) (stop : Ended) → ends_spent stop ≡ false → wants_numbers (quit_end tries stop) ≡ false
quit-numbers tries (ends.Read n) is = refl
quit-numbers tries (ends.Wrote n) is = refl
quit-numbers tries (ends.Part n made cause) is = is
quit-numbers tries (ends.Recovered n closed lost) is = refl
quit-numbers tries (ends.Refused cause) is = refl
quit-numbers tries ends.Mended is = refl

parts-numbers : (fault : PartsFault) → wants_numbers (parts_end fault) ≡ false
parts-numbers faults.NoObject = refl
parts-numbers (faults.PastEnd end) = refl
parts-numbers (faults.TooManyRows rows) = refl

-- what a host has in hand
abbrev pub CarriesWork : Number → Work → Type 0
CarriesWork seen (Trying steps) = Carried seen steps
CarriesWork seen (Losing bay) = Unit {0}
CarriesWork seen (Fitting bay) = Unit {0}
CarriesWork seen Over = Unit {0}

-- a host whatever it has in hand, and one with that
pub record Fine (most : ℕ) (p : Progress) : Type 0 where
  pub seen : p.seen.0 ≤ most
  pub endings : AllByRecursion HasNumbers p.endings

pub record Small (most : ℕ) (p : Progress) : Type 0 where
  pub fine : Fine most p
  pub work : CarriesWork p.seen p.work

pub small-more : (most more : ℕ) → most ≤ more → (p : Progress) → Small most p → Small more p
small-more most more le p s = record { fine = record { seen = omega (arith, le, s.fine.seen); endings = s.fine.endings }; work = s.work }

ended-numbers : (p : Progress) (e : JobEnd) (read : List Content) (js : List Job) → wants_numbers e ≡ false → AllByRecursion HasNumbers (endings_of js e read p)
ended-numbers p e read [] is = tt
ended-numbers p e read (job ∷ jobs) is = (is, tt)

next-fine : (most : ℕ) (p : Progress) (e : JobEnd) (read : List Content) → Fine most p → wants_numbers e ≡ false → Fine most (next_job (with_ending p e read))
next-fine most p e read f is = record {
  seen = f.seen;
  endings = all-append HasNumbers p.endings (endings_of p.jobs e read p) f.endings (ended-numbers p e read p.jobs is);
}

module _ (script : Script) (host : HostNo) where
  -- an attempt carries its id
  id-number : (mode : Mode) (id n : Number) → number_of mode id ≡ Some n → n.0 ≤ id.0
  id-number Order id n is = let same : id ≡ n = cc in omega (arith, ap (λ (x : Number). x.0) same)
  id-number Lock id n is = absurd (let bad : None ≡ Some n = is in cc)

  numbered : (mode : Mode) (id : Number) (steps : Steps Finish) → Carries id (number_of mode id) steps → Carried id steps
  numbered mode id steps c = record { id = id; number = number_of mode id; carries = c; id_seen = omega arith; number_seen = id-number mode id }

  unnumbered : (id : Number) (steps : Steps Finish) → Carries id None steps → Carried id steps
  unnumbered id steps c = record { id = id; number = None; carries = c; id_seen = omega arith; number_seen = λ n is. absurd (let bad : None ≡ Some n = is in cc) }

  read-carried : (id : Number) (r : Result (List RowPart) PartsFault) → Carried id (read_of script id r)
  read-carried id (Ok parts) = numbered script.mode id (read_of script id (Ok parts)) (reads-carry (access script id parts []))
  read-carried id (Err fault) = unnumbered id no_steps refl

  write-carried : (id : Number) (blocks : List (List ℕ)) (r : Result (List RowPart) PartsFault) → Carried id (write_of script id blocks r)
  write-carried id blocks (Ok parts) = numbered script.mode id (write_of script id blocks (Ok parts)) (writes-carry (access script id parts blocks))
  write-carried id blocks (Err fault) = unnumbered id no_steps refl

  attempt-carried : (id : Number) (row : ℕ) (task : Task) → Carried id (attempt script host id row task)
  attempt-carried id row (tasks.Read object first count) = read-carried id (parts_of script object first count)
  attempt-carried id row (tasks.Write object first from count) = write-carried id (blocks_of script from count) (parts_of script object first count)
  attempt-carried id row (tasks.Recover at) =
      unnumbered id (attempt script host id row (tasks.Recover at)) (recoveries-carry (record { n = script.n; host = host; id = id; row = at }))
  attempt-carried id row (tasks.Rebuild bay) =
      unnumbered id (attempt script host id row (tasks.Rebuild bay)) (mends-carry (record { n = script.n; id = id; row = record { 0 = row }; target = bay }))
  attempt-carried id row (tasks.Lose bay) = unnumbered id no_steps refl
  attempt-carried id row (tasks.Fit bay) = unnumbered id no_steps refl

  module _ (few : host.0 < 16) (most : ℕ) (room : most + 32 < 2 ^ 62) where
    -- where it goes on: it draws an id, and perhaps a number
    abbrev pub GoesOn : (Progress → Progress) → Type 0
    GoesOn rest = (q : Progress) → Fine most q → Small (most + 32) (rest q)

    stays : (p : Progress) → Fine most p → (work : Work) → CarriesWork p.seen work → Small (most + 32) (record p { work = work })
    stays p f work c = record { fine = record { seen = omega (arith, f.seen); endings = f.endings }; work = c }

    module _ (rest : Progress → Progress) (goes_on : GoesOn rest) where
      skips : (p : Progress) (e : JobEnd) → Fine most p → wants_numbers e ≡ false → Small (most + 32) (ends_as rest p e)
      skips p e f is = goes_on (next_job (with_ending p e [])) (next-fine most p e [] f is)

      tries-with : (p : Progress) (task : Task) (n : Number) → Fine most p → n.0 ≤ most + 16 → Small (most + 32) (try_with script host task rest (one_more p) (Ok n))
      tries-with p task n f near =
          let s = settles host (most + 16) n (attempt script host n p.row task) few near (omega (arith, room)) (attempt-carried n p.row task) in
          record { fine = record { seen = omega (arith, s.near); endings = f.endings }; work = s.carried }

      pub tries : (p : Progress) (task : Task) → Fine most p → Small (most + 32) (try_task script host task rest p)
      tries p task f =
          let drawn : IsNear host p.seen = draws-near host p.seen few (omega (arith, f.seen, room)) in
          subst (λ (d : Result Number Spent). Small (most + 32) (try_with script host task rest (one_more p) d)) (sym drawn.drawn)
          (tries-with p task drawn.next f (omega (arith, drawn.near, f.seen)))

      parts-begin : (p : Progress) (task : Task) (r : Result (List RowPart) PartsFault) → Fine most p → Small (most + 32) (try_parts script host task rest p r)
      parts-begin p task (Ok parts) f = tries p task f
      parts-begin p task (Err fault) f = skips p (parts_end fault) f (parts-numbers fault)

      loses : (p : Progress) (bay : BayNo) (gone : Option Gone) → Fine most p → Small (most + 32) (lose_job rest p bay gone)
      loses p bay None f = stays p f (Losing bay) tt
      loses p bay (Some gone) f = skips p (job_ends.StillMissing gone.bay) f refl

      fits-one : (p : Progress) (bay : BayNo) (lost : Bool) → Fine most p → Small (most + 32) (fit_job rest p bay lost)
      fits-one p bay true f = stays p f (Fitting bay) tt
      fits-one p bay false f = skips p (job_ends.NotLost bay) f refl

      rebuilds : (p : Progress) (bay : BayNo) (fitted : Bool) → Fine most p → Small (most + 32) (rebuild_job script host rest p bay fitted)
      rebuilds p bay true f = tries p (tasks.Rebuild bay) f
      rebuilds p bay false f = skips p (job_ends.NotFitted bay) f refl

      pub starts : (p : Progress) (task : Task) → Fine most p → Small (most + 32) (start_task script host rest p task)
      starts p (tasks.Read object first count) f = parts-begin p (tasks.Read object first count) (parts_of script object first count) f
      starts p (tasks.Write object first from count) f = parts-begin p (tasks.Write object first from count) (parts_of script object first count) f
      starts p (tasks.Recover row) f = tries p (tasks.Recover row) f
      starts p (tasks.Lose bay) f = loses p bay p.gone f
      starts p (tasks.Fit bay) f = fits-one p bay (is_gone bay false p.gone) f
      starts p (tasks.Rebuild bay) f = rebuilds p bay (is_gone bay true p.gone) f

    pub jobs-small : (jobs : List Job) → GoesOn (start_jobs script host jobs)
    jobs-small [] p f = stays p f Over tt
    jobs-small (job ∷ jobs) p f = starts (start_jobs script host jobs) (jobs-small jobs) p job.task f

    -- A job ends
    on-small : (q : Progress) (stopped : Bool) → Fine most (next_job q) → Small (most + 32) (go_on script host q stopped)
    on-small q true f = stays (next_job q) f Over tt
    on-small q false f = jobs-small (drop 1 q.jobs) (next_job q) f

    ended-small : (p : Progress) (e : JobEnd) (read : List Content) → Fine most p → wants_numbers e ≡ false → Small (most + 32) (job_ended script host p e read)
    ended-small p e read f is = on-small (with_ending p e read) (stops p) (next-fine most p e read f is)

    again-small : (p : Progress) (task : Option Task) → Fine most p → Small (most + 32) (try_again script host p task)
    again-small p None f = stays p f Over tt
    again-small p (Some task) f = tries (start_jobs script host (drop 1 p.jobs)) (jobs-small (drop 1 p.jobs)) p task f

    more-small : (p later : Progress) → Fine most p → Fine most later → (stopped : Bool) → Small (most + 32) (once_more script host p later stopped)
    more-small p later f g true = ended-small p (job_ends.Gave p.tries causes.Quit) [] f refl
    more-small p later f g false = again-small later (task_of p.jobs) g

    refused-small : (p : Progress) (cause : Cause) → Fine most p → is_spent cause ≡ false → (last : Bool) → Small (most + 32) (attempt_refused script host p cause last)
    refused-small p cause f is true = ended-small p (job_ends.Gave p.tries cause) [] f is
    refused-small p cause f is false = more-small p p f f (stops p)

    mended-small : (p : Progress) → Fine most p → (last : Bool) → Small (most + 32) (row_mended script host p last)
    mended-small p f true = ended-small (record p { gone = None }) job_ends.Rebuilt [] (record { seen = f.seen; endings = f.endings }) refl
    mended-small p f false = more-small p (next_row p) f (record { seen = f.seen; endings = f.endings }) (stops p)

    attempt-small : (p : Progress) (read : List Content) (ended : Ended) → Fine most p → ends_spent ended ≡ false → Small (most + 32) (attempt_ended script host p read ended)
    attempt-small p read (ends.Read n) f is = ended-small p (job_ends.Read n) read f refl
    attempt-small p read (ends.Wrote n) f is = ended-small p (job_ends.Wrote n) [] f refl
    attempt-small p read (ends.Part n made cause) f is = ended-small p (job_ends.Part n made cause) [] f is
    attempt-small p read (ends.Recovered n closed lost) f is = ended-small p (job_ends.Recovered n closed lost) [] f refl
    attempt-small p read (ends.Refused cause) f is = refused-small p cause f is ((p.tries == script.tries) || is_spent cause)
    attempt-small p read ends.Mended f is = mended-small p f (p.row + 1 == script.rows)

    -- steps that are left
    asks-small : (p : Progress) (steps : Steps Finish) (stop : Ended) → Fine most p → Carried p.seen steps → ends_spent stop ≡ false → (stopped : Bool) →
        Small (most + 32) (asks_on p steps stop stopped)
    asks-small p steps stop f c is true =
        stays (next_job (with_ending p (quit_end p.tries stop) [])) (next-fine most p (quit_end p.tries stop) [] f (quit-numbers p.tries stop is)) Over tt
    asks-small p steps stop f c is false = stays p f (Trying steps) c

    left-small : (p : Progress) (steps : Steps Finish) → Fine most p → Carried p.seen steps → Small (most + 32) (steps_left script host p steps)
    left-small p (Asks e t c k) f h = asks-small p (Asks e t c k) t f h (h.carries).1 (stops p)
    left-small p (Draws k) f h = stays p f Over tt
    left-small p (Ends finish) f h = attempt-small p finish.contents finish.ended f h.carries

  -- a call
  module _ (few : host.0 < 16) (most : ℕ) (room : most + 48 < 2 ^ 62) where
    counted-fine : (more : ℕ) (p : Progress) (call : Call) (lost : Option Gone) → most ≤ more → Fine most p → Fine more (record (call_counted p call) { gone = lost })
    counted-fine more p call lost le f = record { seen = omega (arith, le, f.seen); endings = f.endings }

    later-room : most + 16 + 32 < 2 ^ 62
    later-room = omega (arith, room)

    in-all : (p : Progress) → Small (most + 16 + 32) p → Small (most + 48) p
    in-all p s = small-more (most + 16 + 32) (most + 48) (omega arith) p s

    told-small : (p : Progress) (call : Call) (work : Work) → Fine most p → CarriesWork p.seen work → p.work ≡ work → LowReply most call.answer.reply →
        Small (most + 48) (work_told script host (call_counted p call) call.answer.reply work)
    told-small p call (Trying steps) f c same low =
        let r : Reply = call.answer.reply in
        let seen : Number = sees p.seen r in
        let heard : Carried seen (behind steps r) = carried-more p.seen seen (behind steps r) (sees-more p.seen r) (behind-carried p.seen steps r c) in
        let s = settles host most seen (behind steps r) few (sees-low most p.seen r f.seen low) (omega (arith, room)) heard in
        in-all _ (left-small few (most + 16) later-room
        (record (call_counted p call) { seen = (settled host seen (behind steps r)).seen }) (settled host seen (behind steps r)).steps
        (record { seen = s.near; endings = f.endings }) s.carried)
    told-small p call (Losing bay) f c same low =
        in-all _ (ended-small few (most + 16) later-room (record (call_counted p call) { gone = Some (record { bay = bay; fitted = false }) }) job_ends.Lost []
        (counted-fine (most + 16) p call (Some (record { bay = bay; fitted = false })) (omega arith) f) refl)
    told-small p call (Fitting bay) f c same low =
        in-all _ (ended-small few (most + 16) later-room (record (call_counted p call) { gone = Some (record { bay = bay; fitted = true }) }) job_ends.Fitted []
        (counted-fine (most + 16) p call (Some (record { bay = bay; fitted = true })) (omega arith) f) refl)
    told-small p call Over f c same low =
        record { fine = record { seen = omega (arith, f.seen); endings = f.endings }; work = subst (CarriesWork p.seen) (sym same) tt }

    pub takes-small : (p : Progress) (call : Call) → Small most p → LowReply most call.answer.reply → Small (most + 48) (takes script host p call)
    takes-small p call s low = told-small p call p.work s.fine s.work refl low
