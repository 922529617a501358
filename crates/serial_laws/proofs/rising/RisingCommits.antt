-- What a call adds to the contents that a unit has taken: nothing, or the content of its one commit on the unit, with the number of
-- its put.
use Rattle.std.proofs.Common.{◌≡◌, ◌⊎◌, inl, inr, refl, sym, ap, subst, ◌∙◌, ℕ, ◌+◌, ◌≤◌, ◌==◌, Bool, true, false, if◌then◌else◌, List, [], ◌∷◌, ◌++◌, Option, Some, None, Result, Ok, Err, arith}
use Rattle.raid_base.specs.declared.numbers.BayNo.{BayNo}
use Rattle.raid_base.specs.declared.numbers.RowNo.{RowNo}
use Rattle.raid_base.specs.declared.numbers.Number.{Number}
use Rattle.raid_base.specs.declared.numbers.Spent.{Spent}
use Rattle.raid_base.specs.declared.cells.Cell.{Cell}
use Rattle.raid_base.specs.declared.messages.How.TheVariants.{Seize}
use Rattle.raid_base.specs.declared.messages.Grant.{Grant}
use Rattle.raid_base.specs.declared.messages.Call.{Call}
use Rattle.raid_base.specs.declared.messages.Errand.{Errand}
use Rattle.raid_base.specs.declared.messages.Request.{Request}
use Rattle.raid_base.specs.declared.cells.Content.TheVariants.{Lost}
use Rattle.raid_base.specs.declared.messages.Request.TheVariants.{Share, Claim, Confirm, Put, Release, Lose, Fit}
use Rattle.raid_base.specs.declared.jobs.Cause.{Cause}
use Rattle.raid_base.specs.declared.jobs.Cause.TheVariants as causes
use Rattle.raid_base.specs.declared.jobs.Ended.{Ended}
use Rattle.raid_base.specs.declared.jobs.Ended.TheVariants as ends
use Rattle.raid_base.specs.declared.jobs.RowPart.{RowPart}
use Rattle.raid_base.specs.declared.jobs.PartsFault.{PartsFault}
use Rattle.raid_base.specs.declared.jobs.Task.TheVariants as tasks
use Rattle.raid_base.specs.declared.names.Name.{Name}
use Rattle.raid_base.specs.Replies.{is_done}
use Rattle.raid_base.specs.Steps.{Commit, Steps, bind, Walk, Through, Stopped, Phase, run, next_errand, commits_next, errand_of}
use Rattle.stripe_layout.specs.Placement.{parity_bay, bay_of, bays_of, units}
use Rattle.attempts.specs.declared.Rescue.{Rescue}
use Rattle.attempts.specs.Taking.{Finish, Row, Taken, begun, no_rows, with_parity, with_wanted, taking, why, claim, claims, confirm}
use Rattle.attempts.specs.Releases.{parity_granted, releasing, released_steps, end_as}
use Rattle.attempts.specs.Puts.{put}
use Rattle.attempts.specs.Mending.{put_cause}
use Rattle.attempts.specs.Phases.{IsIn}
use Rattle.attempts.specs.Recovery.{whole_part, unseized_data, unseized_parity, granted_data, give_back, recover_refused, Verdict, Leaves, Sums, verdict, recovered_parity, lost_commits, recover_putting, closing, recover_put, recover_by, recover_drawn, recover_confirmed, recover_confirming, units_seized, seize_units, parity_taken, parity_seized, recover_steps}
use Rattle.script_text.specs.Script.{Script, parts_of, blocks_of}
use Rattle.script_text.specs.Ranges.{IsScript}
use Rattle.histories.specs.Calls.{row_of, IsDone}
use Rattle.histories.specs.Progress.{Work, access, write_of}
use Rattle.histories.specs.History.{IsHistory, progress_at}
use Rattle.row_laws.specs.Hands.{HasHand, calls_at}
use Rattle.row_laws.specs.Laws.{commits_in, commits_of}
use Rattle.serial_laws.specs.Laws.{is_of}
use Rattle.row_laws.specs.Commits.{IsOwnPut, IsParityPut, IsGiven}
use Rattle.serial_laws.specs.Rising.{put_no, taken_by, taken_at}
use Rattle.serial_laws.specs.Rising as rising
use Rattle.row_laws.proofs.hands.WriteMasks.{parts_in}
use Rattle.row_laws.proofs.owners.RowOwnersHands.{Asker, asker}
use Rattle.row_laws.proofs.owners.OwnedPuts.{all-in}
use Rattle.row_laws.proofs.commits.OwnedCommits.{commits_are_of_owners}
use Rattle.serial_laws.proofs.contents.CommittingTrees.{Committing}
use Rattle.serial_laws.proofs.contents.RecoveryCommits.{walk-committing}
use Rattle.serial_laws.proofs.contents.ContentsCovered.{of-this}
use Rattle.serial_laws.proofs.contents.ContentTrees.{MayPut, Writes, Rebuilds, Recovers}
use Rattle.serial_laws.proofs.contents.ContentPuts.{AccessOf, committing, may-put, mend-puts}
use Rattle.serial_laws.proofs.rising.RisingTrees.{times, AreOnce, RisesSo, one-least, writes-rise}

-- Recoveries: each request commits one unit at most, and once
abbrev Few : List Call → Errand → List Commit → Type 0
Few calls e commits = AreOnce commits

none-once : AreOnce []
none-once row unit = omega arith

few-run : {A : Type 0} (phase : Phase A) (f : Walk A → Steps Finish) → ((x : A) (e : Errand) → AreOnce (phase.commits x e)) → ((calls : List Call) (walk : Walk A) → Committing Few calls (f walk)) →
    (es : List Errand) (x : A) (calls : List Call) → Committing Few calls (bind (run phase es x) f)
few-run phase f once on [] x calls = on calls (Through x)
few-run phase f once on (e ∷ es) x calls =
    walk-committing Few phase f e es x calls (once x e) (λ call is fit b goes. few-run phase f once on es b (call ∷ calls)) (λ call is fit none. on (call ∷ calls) (Stopped x e call.answer.reply))

module _ (r : Rescue) where
  gives-back : (bays : List BayNo) (ended : Ended) (calls : List Call) → Committing Few calls (released_steps (give_back r bays) ended)
  gives-back bays ended calls = few-run releasing (end_as ended) (λ u e. none-once) (λ cs walk. tt) (give_back r bays) tt calls

  refuses : (row : Row) (cause : Cause) (calls : List Call) → Committing Few calls (recover_refused r row cause)
  refuses row cause calls = gives-back (unseized_data r row ++ unseized_parity r row.parity) (ends.Refused cause) calls

  puts : (n : Number) (row : Row) (lost : Option ℕ) (calls : List Call) (walk : Walk (Unit {0})) → Committing Few calls (recover_put r row n lost walk)
  puts n row lost calls (Stopped u e reply) = gives-back (unseized_data r row) (ends.Refused (put_cause r.row e reply)) calls
  puts n row lost calls (Through u) = few-run (closing n lost) (end_as (ends.Recovered n true lost)) (λ v e. none-once) (λ cs walk. tt) (give_back r (granted_data r row)) tt calls

  lost-once : (lost : Option ℕ) → AreOnce (lost_commits r lost)
  lost-once None = none-once
  lost-once (Some unit) = λ row v. one-least (is_of row v (record { row = r.row; unit = unit; content = Lost }))

  recovers-by : (n : Number) (row : Row) (calls : List Call) (v : Verdict) → Committing Few calls (recover_by r row n v)
  recovers-by n row calls Leaves = gives-back (granted_data r row ++ parity_granted r.n r.row row.parity) (ends.Recovered n true None) calls
  recovers-by n row calls (Sums lost) =
      few-run (recover_putting r lost) (recover_put r row n lost) (λ u e. lost-once lost) (λ cs walk. puts n row lost cs walk) (put r.id r.row n (recovered_parity row lost) (parity_bay r.n r.row) ∷ []) tt calls

  drawn : (row : Row) (calls : List Call) (d : Result Number Spent) → Committing Few calls (recover_drawn r row d)
  drawn row calls (Err spent) = refuses row (causes.Spent spent.seen) calls
  drawn row calls (Ok n) = recovers-by n row calls (verdict r row)

  confirmed : (taken : Taken) (calls : List Call) (walk : Walk (Unit {0})) → Committing Few calls (recover_confirmed r taken walk)
  confirmed taken calls (Stopped u e reply) = refuses taken.row _ calls
  confirmed taken calls (Through u) = λ d. drawn taken.row calls d

  seized : (calls : List Call) (walk : Walk Taken) → Committing Few calls (units_seized r walk)
  seized calls (Stopped taken e reply) = refuses taken.row (why None taken e reply) calls
  seized calls (Through taken) =
      few-run (recover_confirming taken) (recover_confirmed r taken) (λ u e. none-once) (λ cs walk. confirmed taken cs walk) (confirm r.id r.row false (parity_bay r.n r.row) ∷ []) tt calls

  seizes : (taken : Taken) (calls : List Call) → Committing Few calls (seize_units r taken)
  seizes taken calls =
      few-run (taking None with_wanted) (units_seized r) (λ t e. none-once) (λ cs walk. seized cs walk) (claims r.id r.row Seize true (bays_of r.n r.row (units r.n))) taken calls

  lacking : (taken : Taken) (calls : List Call) (operator : Bool) → Committing Few calls (if operator then seize_units r taken else recover_refused r taken.row (causes.Gone (parity_bay r.n r.row)))
  lacking taken calls true = seizes taken calls
  lacking taken calls false = refuses taken.row (causes.Gone (parity_bay r.n r.row)) calls

  takes-parity : (taken : Taken) (calls : List Call) (grant : Option Grant) → Committing Few calls (parity_taken r taken grant)
  takes-parity taken calls (Some grant) = seizes taken calls
  takes-parity taken calls None = lacking taken calls (r.host.0 == 0)

  parity-seizes : (calls : List Call) (walk : Walk Taken) → Committing Few calls (parity_seized r walk)
  parity-seizes calls (Stopped taken e reply) = refuses taken.row (why None taken e reply) calls
  parity-seizes calls (Through taken) = takes-parity taken calls taken.row.parity

  recoveries-few : Committing Few [] (recover_steps r)
  recoveries-few =
      few-run (taking None with_parity) (parity_seized r) (λ t e. none-once) (λ cs walk. parity-seizes cs walk) (claim r.id r.row Seize 0 true (parity_bay r.n r.row) ∷ []) (begun (whole_part r) no_rows) []

-- What is taken by commits among which the unit is once
module _ (row : RowNo) (unit : ℕ) (n : Number) where
  pub data TakenBy (commits : List Commit) (takens : List rising.Taken) : Type 0 where
    Nothing : (same : taken_by row unit (Some n) commits takens ≡ takens) → TakenBy commits takens
    One : (commit : Commit) (among : IsIn commit commits) (of : is_of row unit commit ≡ true) (now : taken_by row unit (Some n) commits takens ≡ record { number = n; content = commit.content } ∷ takens) → TakenBy commits takens

  none-taken : (commits : List Commit) (takens : List rising.Taken) → times row unit commits ≤ 0 → taken_by row unit (Some n) commits takens ≡ takens
  none-taken [] takens few = refl
  none-taken (c ∷ commits) takens few = by (is_of row unit c) few (λ most. none-taken commits takens most)
    where
      by : (b : Bool) → (if b then 1 else 0) + times row unit commits ≤ 0 → (times row unit commits ≤ 0 → taken_by row unit (Some n) commits takens ≡ takens) →
          taken_by row unit (Some n) commits (if b then record { number = n; content = c.content } ∷ takens else takens) ≡ takens
      by true most rest = absurd (omega (arith, most))
      by false most rest = rest (omega (arith, most))

  one-taken : (commits : List Commit) (takens : List rising.Taken) → times row unit commits ≤ 1 → TakenBy commits takens
  one-taken [] takens few = Nothing refl
  one-taken (c ∷ commits) takens few = by (is_of row unit c) refl few (λ most. one-taken commits takens most)
    where
      later : TakenBy commits takens → is_of row unit c ≡ false → TakenBy (c ∷ commits) takens
      later (Nothing same) e =
          Nothing (ap (λ (b : Bool). taken_by row unit (Some n) commits (if b then record { number = n; content = c.content } ∷ takens else takens)) e ∙ same)
      later (One commit among of now) e =
          One commit (inr among) of (ap (λ (b : Bool). taken_by row unit (Some n) commits (if b then record { number = n; content = c.content } ∷ takens else takens)) e ∙ now)

      by : (b : Bool) → is_of row unit c ≡ b → (if b then 1 else 0) + times row unit commits ≤ 1 → (times row unit commits ≤ 1 → TakenBy commits takens) → TakenBy (c ∷ commits) takens
      by true e most rest =
          One c (inl refl) e
          (ap (λ (b : Bool). taken_by row unit (Some n) commits (if b then record { number = n; content = c.content } ∷ takens else takens)) e
          ∙ none-taken commits (record { number = n; content = c.content } ∷ takens) (omega (arith, most)))
      by false e most rest = later (rest (omega (arith, most))) e

-- The attempt that asked a put
module _ (script : Script) (is : IsScript script) (earlier : List Call) (call : Call) (steps : Steps Finish) (h : HasHand script earlier call.ask.host steps) (asked : next_errand steps ≡ Some (errand_of call)) where
  -- a write
  pub write-rises : (object : Name) (first from count : ℕ) → (writes : h.hand.task ≡ tasks.Write object first from count) →
      RisesSo (AccessOf script is earlier call steps h asked object first from count writes) (calls_at script earlier call.ask.host) (errand_of call) (commits_next steps)
  write-rises object first from count writes =
      committing script is earlier call steps h asked (RisesSo (AccessOf script is earlier call steps h asked object first from count writes)) (tasks.Write object first from count) writes
      (by (parts_of script object first count))
    where
      by : (r : Result (List RowPart) PartsFault) →
          Committing (RisesSo (access script h.hand.id (parts_in r) (blocks_of script from count))) [] (write_of script h.hand.id (blocks_of script from count) r)
      by (Ok parts) = writes-rise (access script h.hand.id parts (blocks_of script from count)) is.devices_least
      by (Err fault) = tt

  -- its commits are once
  next-once : (row : RowNo) (id k : Number) (cell : Cell) → call.ask.what ≡ Put row id k cell → AreOnce (commits_next steps)
  next-once row id k cell what = by (may-put script is earlier call steps h asked row id k cell what)
    where
      by : MayPut h.hand.task → AreOnce (commits_next steps)
      by (Writes object first from count writes) = (write-rises object first from count writes).once row id k cell what
      by (Rebuilds bay mends) = subst AreOnce (sym (mend-puts script is earlier call steps h asked bay mends).none) none-once
      by (Recovers at recovers) =
          committing script is earlier call steps h asked Few (tasks.Recover at) recovers (recoveries-few (record { n = script.n; host = call.ask.host; id = h.hand.id; row = at }))

  pub commits-once : (row : RowNo) (id k : Number) (cell : Cell) → call.ask.what ≡ Put row id k cell → AreOnce (commits_of script earlier call)
  commits-once row id k cell what = by (is_done call.answer.reply)
    where
      by : (b : Bool) → AreOnce (if b then commits_in (progress_at script call.ask.host earlier).work else [])
      by true = subst (λ (w : Work). AreOnce (commits_in w)) (sym h.work) (next-once row id k cell what)
      by false = none-once

-- A call gives the unit one content
pub record TakesOne (script : Script) (earlier : List Call) (call : Call) (row : RowNo) (unit : ℕ) : Type 0 where
  pub id : Number
  pub number : Number
  pub cell : Cell
  pub what : call.ask.what ≡ Put row id number cell
  pub done : IsDone call
  pub commit : Commit
  pub among : IsIn commit (commits_of script earlier call)
  pub of_row : commit.row ≡ row
  pub of_unit : commit.unit ≡ unit
  pub place : (call.bay ≡ bay_of script.n row unit) ⊎ (call.bay ≡ parity_bay script.n row)
  pub now : taken_at script (call ∷ earlier) row unit ≡ record { number = number; content = commit.content } ∷ taken_at script earlier row unit

pub taken-moved : (script : Script) → IsScript script → (earlier : List Call) (call : Call) → IsHistory script (call ∷ earlier) → (row : RowNo) (unit : ℕ) →
    (taken_at script (call ∷ earlier) row unit ≡ taken_at script earlier row unit) ⊎ TakesOne script earlier call row unit
taken-moved script is earlier call along row unit = by call.ask.what refl
  where
    Commits : List Commit
    Commits = commits_of script earlier call

    Moved : Type 0
    Moved = (taken_at script (call ∷ earlier) row unit ≡ taken_at script earlier row unit) ⊎ TakesOne script earlier call row unit

    nothing : (w : Request) → call.ask.what ≡ w → put_no w ≡ None → Moved
    nothing w e none = inl (ap (λ (x : Request). taken_by row unit (put_no x) Commits (taken_at script earlier row unit)) e ∙ ap (λ (o : Option Number). taken_by row unit o Commits (taken_at script earlier row unit)) none)

    one : (r : RowNo) (id n : Number) (cell : Cell) → call.ask.what ≡ Put r id n cell → (commit : Commit) → IsIn commit Commits → is_of row unit commit ≡ true →
        taken_by row unit (Some n) Commits (taken_at script earlier row unit) ≡ record { number = n; content = commit.content } ∷ taken_at script earlier row unit → TakesOne script earlier call row unit
    one r id n cell what commit among of now = whose g.whose
      where
        g : IsGiven script earlier call commit
        g = all-in (IsGiven script earlier call) commit Commits (commits_are_of_owners script earlier call is along) among

        same : (commit.row ≡ row) × (commit.unit ≡ unit)
        same = of-this row unit commit of

        took : taken_at script (call ∷ earlier) row unit ≡ record { number = n; content = commit.content } ∷ taken_at script earlier row unit
        took = ap (λ (x : Request). taken_by row unit (put_no x) Commits (taken_at script earlier row unit)) what ∙ now

        made : (at : RowNo) (by k : Number) (c : Cell) → call.ask.what ≡ Put at by k c → at ≡ commit.row → (call.bay ≡ bay_of script.n row unit) ⊎ (call.bay ≡ parity_bay script.n row) → TakesOne script earlier call row unit
        made at by k c puts here place =
            let both : Put r id n cell ≡ Put at by k c = sym what ∙ puts in
            let rows : r ≡ at = cc in
            record {
              id = id;
              number = n;
              cell = cell;
              what = what ∙ ap (λ (x : RowNo). Put x id n cell) (rows ∙ here ∙ same.0);
              done = g.done;
              commit = commit;
              among = among;
              of_row = same.0;
              of_unit = same.1;
              place = place;
              now = took;
            }

        whose : IsOwnPut script earlier call commit ⊎ IsParityPut script call commit → TakesOne script earlier call row unit
        whose (inl o) =
            made commit.row o.id o.number o.cell o.put refl (inl (o.place ∙ ap (λ (x : RowNo). bay_of script.n x commit.unit) same.0 ∙ ap (λ (u : ℕ). bay_of script.n row u) same.1))
        whose (inr (by, (place, k, c, puts))) = made commit.row by k c puts refl (inr (place ∙ ap (λ (x : RowNo). parity_bay script.n x) same.0))

    puts : (r : RowNo) (id n : Number) (cell : Cell) → call.ask.what ≡ Put r id n cell → Moved
    puts r id n cell what =
        let a : Asker script is earlier call = asker script is earlier call along.0 along.1 r (ap (λ (w : Request). row_of w) what) in
        of-taken (one-taken row unit n Commits (taken_at script earlier row unit) (commits-once script is earlier call a.steps a.hand a.asked r id n cell what row unit))
      where
        of-taken : TakenBy row unit n Commits (taken_at script earlier row unit) → Moved
        of-taken (Nothing same) = inl (ap (λ (x : Request). taken_by row unit (put_no x) Commits (taken_at script earlier row unit)) what ∙ same)
        of-taken (One commit among of now) = inr (one r id n cell what commit among of now)

    by : (w : Request) → call.ask.what ≡ w → Moved
    by (Put r id n cell) e = puts r id n cell e
    by (Share r id want) e = nothing (Share r id want) e refl
    by (Claim r id how mask want) e = nothing (Claim r id how mask want) e refl
    by (Confirm r id want) e = nothing (Confirm r id want) e refl
    by (Release r id k) e = nothing (Release r id k) e refl
    by Lose e = nothing Lose e refl
    by Fit e = nothing Fit e refl
