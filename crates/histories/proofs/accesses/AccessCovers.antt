-- Along every history accesses are covered.
use Rattle.std.proofs.Common.{◌≡◌, inl, inr, ℕ, ◌<◌, ◌≤◌, ◌==◌, max, Bool, true, false, if◌then◌else◌, List, [], ◌∷◌, length, Option, Some, None, refl, sym, ap, subst, ◌∙◌, arith, is_some}
use Rattle.std.specs.List.{AllByRecursion}
use Rattle.std.proofs.lemmas.Bool.Decides.{nat_tests}
use Rattle.std.proofs.lemmas.Bool.{and_parts}
use Rattle.raid_base.specs.declared.numbers.BayNo.{BayNo}
use Rattle.raid_base.specs.declared.numbers.HostNo.{HostNo}
use Rattle.raid_base.specs.declared.numbers.RowNo.{RowNo}
use Rattle.raid_base.specs.declared.numbers.Number.{Number}
use Rattle.raid_base.specs.declared.messages.Ask.{Ask}
use Rattle.raid_base.specs.declared.messages.Call.{Call}
use Rattle.raid_base.specs.declared.messages.Note.{Note}
use Rattle.raid_base.specs.declared.messages.Errand.{Errand}
use Rattle.raid_base.specs.declared.messages.Mode.{Mode}
use Rattle.raid_base.specs.declared.messages.Mode.TheVariants.{Lock, Order}
use Rattle.raid_base.specs.declared.messages.Request.{Request}
use Rattle.raid_base.specs.declared.messages.Request.TheVariants.{Share, Claim, Confirm, Put, Release, Lose, Fit}
use Rattle.raid_base.specs.declared.messages.Reply.{Reply}
use Rattle.raid_base.specs.declared.messages.Reply.TheVariants.{Granted, Busy, Late, Young, Missing, Held, NoNote, Done, Fault, Emptied, Fitted}
use Rattle.raid_base.specs.Replies.{is_fault}
use Rattle.raid_base.specs.Steps.{errand_of}
use Rattle.raid_base.specs.declared.cells.Cell.{Cell}
use Rattle.slot_rules.specs.Slots.{Slot, Bay, slot_of}
use Rattle.slot_rules.specs.Rules.{note_id, rule}
use Rattle.slot_rules.specs.Serving as serving
use Rattle.slot_rules.specs.Laws.{read_number, write_number, CoversRead, CoversWrite, put_number}
use Rattle.slot_rules.specs.Laws as slots
use Rattle.slot_rules.proofs.RowSteps.{RowStep, Touched, Passed, Bared, IsCapped, row_step, goes, capped}
use Rattle.script_text.specs.Script.{Script}
use Rattle.script_text.specs.Ranges.{IsScript}
use Rattle.histories.specs.Calls.{Happened, row_of, id_of, read_of, write_of, is_row, is_at}
use Rattle.histories.specs.Progress.{Progress, Work, Trying, Losing, Fitting, Over, work_errand}
use Rattle.histories.specs.History.{IsHistory, IsNext, progress_at, bay_at, if_ruled}
use Rattle.histories.specs.RowStates.{slot_at}
use Rattle.histories.specs.Accesses.{with_some, writes, reads, AtMost, AccessesAreCovered}
use Rattle.histories.specs.Ids.{is_id, calls_with, IsNoteClaim}
use Rattle.histories.proofs.accesses.AccessTrees.{IsAsked, next-asked}
use Rattle.histories.proofs.accesses.AccessHosts.{HasWork, this-id}
use Rattle.histories.proofs.accesses.AccessIds.{notes-claimed, AllApart, asked-errand, asker-few, all-apart}
use Rattle.histories.proofs.steps.SameNumbers.{same-number, same-bay}
use Rattle.histories.proofs.steps.BayRows.{bay-rows, starts-first}

-- A release with a number is of no note
claim-reads-not : (reading : Bool) (id : Number) (at : BayNo) (row : RowNo) (note : Note) → note.id ≡ id → (calls : List Call) → Happened (IsNoteClaim at row note) calls →
    AllByRecursion (λ (c : Call). IsAsked reading id c.ask.what) (calls_with id calls) → reading ≡ false
claim-reads-not reading id at row note same [] h all = absurd h
claim-reads-not reading id at row note same (c ∷ cs) (inl k) all = by (is_id id (id_of c.ask.what)) (this-id id (id_of c.ask.what) named) all
  where
    named : id_of c.ask.what ≡ Some id
    named = ap (λ (w : Request). id_of w) k.5 ∙ ap (λ (n : Number). Some n) same

    by : (b : Bool) → b ≡ true → AllByRecursion (λ (c : Call). IsAsked reading id c.ask.what) (if b then c ∷ calls_with id cs else calls_with id cs) → reading ≡ false
    by true e every = (subst (λ (w : Request). IsAsked reading id w) k.5 every.0).1
    by false e every = absurd (let bad : false ≡ true = e in cc)
claim-reads-not reading id at row note same (c ∷ cs) (inr h) all = by (is_id id (id_of c.ask.what)) all (claim-reads-not reading id at row note same cs h)
  where
    by : (b : Bool) → AllByRecursion (λ (c : Call). IsAsked reading id c.ask.what) (if b then c ∷ calls_with id cs else calls_with id cs) →
        (AllByRecursion (λ (c : Call). IsAsked reading id c.ask.what) (calls_with id cs) → reading ≡ false) → reading ≡ false
    by true every rest = rest every.1
    by false every rest = rest every

-- the attempt that releases with a number reads
release-reads : (reading : Bool) (id by : Number) (row : RowNo) (n : Number) → IsAsked reading id (Release row by (Some n)) → reading ≡ false → ⊥
release-reads reading id by row n h e = let bad : Some n ≡ None = h.1 e in cc

pub free-hand : (host : HostNo) (earlier : List Call) (at : BayNo) (row : RowNo) (note : Note) (p : Progress) (work : Work) (call : Call) (id n : Number) →
    HasWork host earlier p.seen p.calls work → work_errand work ≡ Some (errand_of call) → call.ask.what ≡ Release row id (Some n) →
    note.id ≡ id → Happened (IsNoteClaim at row note) earlier → ⊥
free-hand host earlier at row note p (Trying steps) call id n w asked is same h =
    let this : IsAsked w.reading w.id call.ask.what = next-asked w.reading w.id steps (errand_of call) w.each asked in
    let released : IsAsked w.reading w.id (Release row id (Some n)) = subst (λ (x : Request). IsAsked w.reading w.id x) is this in
    release-reads w.reading w.id id row n released
    (claim-reads-not w.reading w.id at row note (same ∙ released.0) earlier h
    (subst (λ (cs : List Call). AllByRecursion (λ (c : Call). IsAsked w.reading w.id c.ask.what) cs) (sym w.same) w.asked))
free-hand host earlier at row note p (Losing bay) call id n w asked is same h =
    let sent : record { bay = bay; request = Lose } ≡ errand_of call = cc in
    absurd (let bad : None ≡ Some id = ap (λ (x : Errand). id_of x.request) sent ∙ ap (λ (x : Request). id_of x) is in cc)
free-hand host earlier at row note p (Fitting bay) call id n w asked is same h =
    let sent : record { bay = bay; request = Fit } ≡ errand_of call = cc in
    absurd (let bad : None ≡ Some id = ap (λ (x : Errand). id_of x.request) sent ∙ ap (λ (x : Request). id_of x) is in cc)
free-hand host earlier at row note p Over call id n w asked is same h = absurd (cc)

-- Rows of requests
rows-same : (what : Request) → row_of what ≡ serving.row_of what
rows-same (Share row id want) = refl
rows-same (Claim row id how mask want) = refl
rows-same (Confirm row id want) = refl
rows-same (Put row id n cell) = refl
rows-same (Release row id n) = refl
rows-same Lose = refl
rows-same Fit = refl

row-tests-same : (row : RowNo) (o : Option RowNo) → is_row row o ≡ slots.is_row row o
row-tests-same row None = refl
row-tests-same row (Some r) = refl

-- A read of the play is a read of the slot, where no note has the id of a release with a number
done-read : (what : Request) (standing : Option Note) (n : Number) → ((row : RowNo) (id m : Number) → what ≡ Release row id (Some m) → note_id standing id ≡ false) →
    read_of Lock what Done ≡ Some n → read_number Lock standing what Done ≡ Some n
done-read (Release row id None) standing n free h = absurd (let bad : None ≡ Some n = h in cc)
done-read (Release row id (Some m)) standing n free h = by (note_id standing id) (free row id m refl)
  where
    by : (b : Bool) → b ≡ false → (if b then None else Some m) ≡ Some n
    by true e = absurd (let bad : true ≡ false = e in cc)
    by false e = h
done-read (Share row id want) standing n free h = absurd (let bad : None ≡ Some n = h in cc)
done-read (Claim row id how mask want) standing n free h = absurd (let bad : None ≡ Some n = h in cc)
done-read (Confirm row id want) standing n free h = absurd (let bad : None ≡ Some n = h in cc)
done-read (Put row id m cell) standing n free h = absurd (let bad : None ≡ Some n = h in cc)
done-read Lose standing n free h = absurd (let bad : None ≡ Some n = h in cc)
done-read Fit standing n free h = absurd (let bad : None ≡ Some n = h in cc)

-- under locks nothing but a release that was done is a read
pub lock-read : (what : Request) (reply : Reply) (n : Number) → read_of Lock what reply ≡ Some n → reply ≡ Done
lock-read (Release row id m) Done n h = refl
lock-read (Release row id m) (Granted cell read_no write_no last life seized) n h = absurd (let bad : None ≡ Some n = h in cc)
lock-read (Release row id m) (Busy holder) n h = absurd (let bad : None ≡ Some n = h in cc)
lock-read (Release row id m) (Late above) n h = absurd (let bad : None ≡ Some n = h in cc)
lock-read (Release row id m) (Young note) n h = absurd (let bad : None ≡ Some n = h in cc)
lock-read (Release row id m) (Missing floor) n h = absurd (let bad : None ≡ Some n = h in cc)
lock-read (Release row id m) (Held cell) n h = absurd (let bad : None ≡ Some n = h in cc)
lock-read (Release row id m) (NoNote life) n h = absurd (let bad : None ≡ Some n = h in cc)
lock-read (Release row id m) Fault n h = absurd (let bad : None ≡ Some n = h in cc)
lock-read (Release row id m) Emptied n h = absurd (let bad : None ≡ Some n = h in cc)
lock-read (Release row id m) Fitted n h = absurd (let bad : None ≡ Some n = h in cc)
lock-read (Share row id want) reply n h = absurd (let bad : None ≡ Some n = h in cc)
lock-read (Claim row id how mask want) reply n h = absurd (let bad : None ≡ Some n = h in cc)
lock-read (Confirm row id want) reply n h = absurd (let bad : None ≡ Some n = h in cc)
lock-read (Put row id m cell) reply n h = absurd (let bad : None ≡ Some n = h in cc)
lock-read Lose reply n h = absurd (let bad : None ≡ Some n = h in cc)
lock-read Fit reply n h = absurd (let bad : None ≡ Some n = h in cc)

-- and under stamps a share that was granted
order-read : (what : Request) (reply : Reply) (standing : Option Note) (n : Number) → read_of Order what reply ≡ Some n → read_number Order standing what reply ≡ Some n
order-read (Share row id want) (Granted cell read_no write_no last life seized) standing n h = h
order-read (Share row id want) (Busy holder) standing n h = absurd (let bad : None ≡ Some n = h in cc)
order-read (Share row id want) (Late above) standing n h = absurd (let bad : None ≡ Some n = h in cc)
order-read (Share row id want) (Young young) standing n h = absurd (let bad : None ≡ Some n = h in cc)
order-read (Share row id want) (Missing floor) standing n h = absurd (let bad : None ≡ Some n = h in cc)
order-read (Share row id want) (Held cell) standing n h = absurd (let bad : None ≡ Some n = h in cc)
order-read (Share row id want) (NoNote life) standing n h = absurd (let bad : None ≡ Some n = h in cc)
order-read (Share row id want) Done standing n h = absurd (let bad : None ≡ Some n = h in cc)
order-read (Share row id want) Fault standing n h = absurd (let bad : None ≡ Some n = h in cc)
order-read (Share row id want) Emptied standing n h = absurd (let bad : None ≡ Some n = h in cc)
order-read (Share row id want) Fitted standing n h = absurd (let bad : None ≡ Some n = h in cc)
order-read (Claim row id how mask want) reply standing n h = absurd (let bad : None ≡ Some n = h in cc)
order-read (Confirm row id want) reply standing n h = absurd (let bad : None ≡ Some n = h in cc)
order-read (Put row id m cell) reply standing n h = absurd (let bad : None ≡ Some n = h in cc)
order-read (Release row id m) reply standing n h = absurd (let bad : None ≡ Some n = h in cc)
order-read Lose reply standing n h = absurd (let bad : None ≡ Some n = h in cc)
order-read Fit reply standing n h = absurd (let bad : None ≡ Some n = h in cc)

read-shown : (mode : Mode) (what : Request) (reply : Reply) (standing : Option Note) (n : Number) →
    (mode ≡ Lock → (row : RowNo) (id m : Number) → what ≡ Release row id (Some m) → note_id standing id ≡ false) →
    read_of mode what reply ≡ Some n → read_number mode standing what reply ≡ Some n
read-shown Order what reply standing n free h = order-read what reply standing n h
read-shown Lock what reply standing n free h =
    let done : reply ≡ Done = lock-read what reply n h in
    subst (λ (r : Reply). read_number Lock standing what r ≡ Some n) (sym done)
    (done-read what standing n (free refl) (subst (λ (r : Reply). read_of Lock what r ≡ Some n) done h))

-- a write is a put that was done
pub done-put : (what : Request) (reply : Reply) → is_some (write_of what reply) ≡ true → (row : RowNo) × (id : Number) × (n : Number) × (cell : Cell) × (what ≡ Put row id n cell) × (reply ≡ Done)
done-put (Put row id n cell) Done e = (row, id, n, cell, refl, refl)
done-put (Put row id n cell) (Granted found read_no write_no last life seized) e = absurd (cc)
done-put (Put row id n cell) (Busy holder) e = absurd (cc)
done-put (Put row id n cell) (Late above) e = absurd (cc)
done-put (Put row id n cell) (Young note) e = absurd (cc)
done-put (Put row id n cell) (Missing floor) e = absurd (cc)
done-put (Put row id n cell) (Held found) e = absurd (cc)
done-put (Put row id n cell) (NoNote life) e = absurd (cc)
done-put (Put row id n cell) Fault e = absurd (cc)
done-put (Put row id n cell) Emptied e = absurd (cc)
done-put (Put row id n cell) Fitted e = absurd (cc)
done-put (Share row id want) reply e = absurd (cc)
done-put (Claim row id how mask want) reply e = absurd (cc)
done-put (Confirm row id want) reply e = absurd (cc)
done-put (Release row id n) reply e = absurd (cc)
done-put Lose reply e = absurd (cc)
done-put Fit reply e = absurd (cc)

pub written-as : (what : Request) (reply : Reply) (n : Number) → write_of what reply ≡ Some n → (put_number what ≡ Some n) × (reply ≡ Done)
written-as what reply n e =
    let put = done-put what reply (ap (λ (o : Option Number). is_some o) e) in
    let here : write_of what reply ≡ Some put.2 = ap (λ (w : Request). write_of w reply) put.4 ∙ ap (λ (r : Reply). write_of (Put put.0 put.1 put.2 put.3) r) put.5 in
    (ap (λ (w : Request). put_number w) put.4 ∙ sym here ∙ e, put.5)

write-shown : (what : Request) (reply : Reply) (n : Number) → write_of what reply ≡ Some n → write_number what reply ≡ Some n
write-shown what reply n e = let put = written-as what reply n e in ap (λ (r : Reply). write_number what r) put.1 ∙ put.0

-- Steps of a bay
module _ (bay after : Bay) (row : RowNo) (ask : Ask) (reply : Reply) (up : bay.high.0 ≤ after.high.0) where
  still-read : (n : Number) → RowStep bay ask row reply after → CoversRead bay row n → CoversRead after row n
  still-read n (Touched at step e c) h = (omega (arith, up, h.0), λ f. let low = h.1 (sym e ∙ f) in let more = step.read_rises in omega (arith, low, more))
  still-read n (Passed same is e) h = (omega (arith, up, h.0), λ f. subst (λ (s : Slot). n.0 ≤ s.read_no.0) (sym same) (h.1 (sym e ∙ f)))
  still-read n (Bared k same is e z l) h = (omega (arith, up, h.0), λ f. subst (λ (s : Slot). n.0 ≤ s.read_no.0) (sym same) (subst (λ (x : Number). n.0 ≤ x.0) (sym (e f)) h.0))

  still-written : (n : Number) → RowStep bay ask row reply after → CoversWrite bay row n → CoversWrite after row n
  still-written n (Touched at step e c) h = (omega (arith, up, h.0), λ f. let low = h.1 (sym e ∙ f) in let more = step.write_rises in omega (arith, low, more))
  still-written n (Passed same is e) h = (omega (arith, up, h.0), λ f. subst (λ (s : Slot). n.0 ≤ s.write_no.0) (sym same) (h.1 (sym e ∙ f)))
  still-written n (Bared k same is e z l) h = (omega (arith, up, h.0), λ f. subst (λ (s : Slot). n.0 ≤ s.write_no.0) (sym same) (subst (λ (x : Number). n.0 ≤ x.0) (sym (e f)) h.0))

  module _ (caps : IsCapped after row) (mine : slots.is_row row (serving.row_of ask.what) ≡ true) where
    now-read : (n : Number) → RowStep bay ask row reply after → read_number bay.mode (slot_of bay row).note ask.what reply ≡ Some n → CoversRead after row n
    now-read n (Touched at step e c) h = let low = step.read_covered n h in let cap = caps.read in (omega (arith, low, cap), λ f. low)
    now-read n (Passed same is e) h = absurd (let bad : true ≡ false = sym mine ∙ is in cc)
    now-read n (Bared k same is e z l) h = absurd (let bad : true ≡ false = sym mine ∙ is in cc)

    now-written : (n : Number) → RowStep bay ask row reply after → write_number ask.what reply ≡ Some n → CoversWrite after row n
    now-written n (Touched at step e c) h = let low = step.write_covered n h in let cap = caps.write in (omega (arith, low, cap), λ f. low)
    now-written n (Passed same is e) h = absurd (let bad : true ≡ false = sym mine ∙ is in cc)
    now-written n (Bared k same is e z l) h = absurd (let bad : true ≡ false = sym mine ∙ is in cc)

pub all-map : (P Q : Number → Type 0) (ns : List Number) → ((n : Number) → P n → Q n) → AllByRecursion P ns → AllByRecursion Q ns
all-map P Q [] f h = tt
all-map P Q (n ∷ ns) f h = (f n h.0, all-map P Q ns f h.1)

all-with : (P : Number → Type 0) (o : Option Number) (ns : List Number) → ((n : Number) → o ≡ Some n → P n) → AllByRecursion P ns → AllByRecursion P (with_some o ns)
all-with P None ns h all = all
all-with P (Some n) ns h all = (h n refl, all)

pub all-if : (P : Number → Type 0) (here : Bool) (o : Option Number) (ns : List Number) → (here ≡ true → (n : Number) → o ≡ Some n → P n) → AllByRecursion P ns →
    AllByRecursion P (if here then with_some o ns else ns)
all-if P true o ns h all = all-with P o ns (h refl) all
all-if P false o ns h all = all

module _ (script : Script) (is : IsScript script) (at : BayNo) (row : RowNo) (below : row.0 < script.rows) where
  pub record CoversAs (now : Bay) (rs ws : List Number) : Type 0 where
    pub mode : now.mode ≡ script.mode
    pub caps : IsCapped now row
    pub read : AllByRecursion (CoversRead now row) rs
    pub written : AllByRecursion (CoversWrite now row) ws

  abbrev pub Covers : List Call → Type 0
  Covers history = CoversAs (bay_at script at history) (reads script at row history) (writes at row history)

  module _ (earlier : List Call) (call : Call) (next : IsNext script earlier call) (s : AllApart script is earlier) (c : Covers earlier) where
    abbrev bay : Bay
    bay = bay_at script at earlier

    abbrev fails : Bool
    fails = is_fault call.answer.reply

    abbrev after : Bay
    after = (rule bay call.ask fails).bay

    within : row.0 < length bay.slots
    within = let rows : length bay.slots ≡ script.rows = bay-rows script at earlier in omega (arith, rows, below)

    reply-is : (call.bay.0 == at.0) ≡ true → call.answer.reply ≡ (rule bay call.ask fails).reply
    reply-is here =
        subst (λ (b : BayNo). call.answer.reply ≡ (rule (bay_at script b earlier) call.ask fails).reply) (same-bay call.bay at here) (ap (λ (x : Call). x.answer.reply) next.replied)

    step : (call.bay.0 == at.0) ≡ true → RowStep bay call.ask row call.answer.reply after
    step here = subst (λ (r : Reply). RowStep bay call.ask row r after) (sym (reply-is here)) (row_step bay call.ask fails row within)

    -- no note of the slot has the id of a release with a number
    pub unnoted : (by : RowNo) (id m : Number) → call.ask.what ≡ Release by id (Some m) → slots.is_row row (serving.row_of call.ask.what) ≡ true →
        (o : Option Note) → (slot_of bay row).note ≡ o → note_id o id ≡ false
    unnoted by id m asks mine None held = refl
    unnoted by id m asks mine (Some note) held = decide (note.id.0 == id.0) refl
      where
        same : by ≡ row
        same =
            let here : (by.0 == row.0) ≡ true = sym (ap (λ (w : Request). slots.is_row row (serving.row_of w)) asks) ∙ mine in
            let place : by.0 ≡ row.0 = grind (arith, nat_tests) in
            ap (λ (k : ℕ). record { 0 = k }) place

        decide : (b : Bool) → (note.id.0 == id.0) ≡ b → b ≡ false
        decide false e = refl
        decide true e =
            absurd (free-hand call.ask.host earlier at row note (progress_at script call.ask.host earlier) (progress_at script call.ask.host earlier).work call id m
            (s.hosts call.ask.host (asker-few script is earlier call next s)).work (asked-errand script is earlier call next s)
            (subst (λ (x : RowNo). call.ask.what ≡ Release x id (Some m)) same asks)
            (same-number note.id id e) (notes-claimed script is earlier at row note below held))

    up : bay.high.0 ≤ after.high.0
    up = (goes bay call.ask fails).high

    caps-after : IsCapped after row
    caps-after = capped bay call.ask fails row within c.caps

    mine : is_at at row call ≡ true → ((call.bay.0 == at.0) ≡ true) × (slots.is_row row (serving.row_of call.ask.what) ≡ true)
    mine h =
        let first = and_parts (call.bay.0 == at.0) (is_row row (row_of call.ask.what)) h in
        (first.0, sym (row-tests-same row (serving.row_of call.ask.what)) ∙ sym (ap (λ (o : Option RowNo). is_row row o) (rows-same call.ask.what)) ∙ first.1)

    reads-here : is_at at row call ≡ true → (n : Number) → read_of script.mode call.ask.what call.answer.reply ≡ Some n → CoversRead after row n
    reads-here h n e =
        let first = mine h in
        now-read bay after row call.ask call.answer.reply up caps-after first.1 n (step first.0)
        (subst (λ (m : Mode). read_number m (slot_of bay row).note call.ask.what call.answer.reply ≡ Some n) (sym c.mode)
        (read-shown script.mode call.ask.what call.answer.reply (slot_of bay row).note n
        (λ lock by id m asks. unnoted by id m asks first.1 (slot_of bay row).note refl) e))

    writes-here : is_at at row call ≡ true → (n : Number) → write_of call.ask.what call.answer.reply ≡ Some n → CoversWrite after row n
    writes-here h n e =
        let first = mine h in
        now-written bay after row call.ask call.answer.reply up caps-after first.1 n (step first.0) (write-shown call.ask.what call.answer.reply n e)

    covered : (b : Bool) → (call.bay.0 == at.0) ≡ b → CoversAs (if_ruled bay call b) (reads script at row (call ∷ earlier)) (writes at row (call ∷ earlier))
    covered true here = record {
      mode = (goes bay call.ask fails).mode ∙ c.mode;
      caps = caps-after;
      read = all-if (CoversRead after row) (is_at at row call) (read_of script.mode call.ask.what call.answer.reply) (reads script at row earlier) reads-here
          (all-map (CoversRead bay row) (CoversRead after row) (reads script at row earlier) (λ n h. still-read bay after row call.ask call.answer.reply up n (step here) h) c.read);
      written = all-if (CoversWrite after row) (is_at at row call) (write_of call.ask.what call.answer.reply) (writes at row earlier) writes-here
          (all-map (CoversWrite bay row) (CoversWrite after row) (writes at row earlier) (λ n h. still-written bay after row call.ask call.answer.reply up n (step here) h) c.written);
    }
    covered false other = record {
      mode = c.mode;
      caps = c.caps;
      read = all-if (CoversRead bay row) (is_at at row call) (read_of script.mode call.ask.what call.answer.reply) (reads script at row earlier)
          (λ h. absurd (let bad : true ≡ false = sym (mine h).0 ∙ other in cc)) c.read;
      written = all-if (CoversWrite bay row) (is_at at row call) (write_of call.ask.what call.answer.reply) (writes at row earlier)
          (λ h. absurd (let bad : true ≡ false = sym (mine h).0 ∙ other in cc)) c.written;
    }

    covers-next : Covers (call ∷ earlier)
    covers-next = covered (call.bay.0 == at.0) refl

  pub covers-all : (history : List Call) → IsHistory script history → Covers history
  covers-all [] h = record {
    mode = refl;
    caps = record {
      read = subst (λ (s : Slot). s.read_no.0 ≤ 0) (sym (starts-first script at row below)) (omega arith);
      write = subst (λ (s : Slot). s.write_no.0 ≤ 0) (sym (starts-first script at row below)) (omega arith);
    };
    read = tt;
    written = tt;
  }
  covers-all (call ∷ earlier) h = covers-next earlier call h.1 (all-apart script is earlier h.0) (covers-all earlier h.0)

  all-high : (history : List Call) (ns : List Number) → AllByRecursion (CoversRead (bay_at script at history) row) ns → AtMost (bay_at script at history).high.0 ns
  all-high history ns h = all-map (CoversRead (bay_at script at history) row) (λ (x : Number). x.0 ≤ (bay_at script at history).high.0) ns (λ n c. c.0) h

  all-high-written : (history : List Call) (ns : List Number) → AllByRecursion (CoversWrite (bay_at script at history) row) ns → AtMost (bay_at script at history).high.0 ns
  all-high-written history ns h = all-map (CoversWrite (bay_at script at history) row) (λ (x : Number). x.0 ≤ (bay_at script at history).high.0) ns (λ n c. c.0) h

pub accesses_are_covered : AccessesAreCovered
accesses_are_covered script history is h at row inside below =
    let c = covers-all script is at row below history h in
    let slot : Slot = slot_at script history at row in
    record {
      high_reads = all-high script is at row below history (reads script at row history) c.read;
      high_writes = all-high-written script is at row below history (writes at row history) c.written;
      slot_reads = λ there. all-map (CoversRead (bay_at script at history) row) (λ (x : Number). x.0 ≤ max slot.read_no.0 slot.write_no.0) (reads script at row history)
          (λ n k. let low = k.1 there in omega (arith, low)) c.read;
      slot_writes = λ there. all-map (CoversWrite (bay_at script at history) row) (λ (x : Number). x.0 ≤ slot.write_no.0) (writes at row history) (λ n k. k.1 there) c.written;
    }
