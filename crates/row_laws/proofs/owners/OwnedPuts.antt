-- A unit is put only by an attempt that owns its row: reads put nothing and recoveries their parity alone, and a write or rebuild
-- has confirmed the row before.
use Rattle.std.proofs.Common.{◌≡◌, ◌⊎◌, inl, inr, refl, sym, ap, subst, ◌∙◌, ℕ, ◌+◌, ◌<◌, ◌==◌, ◌&&◌, Bool, true, false, if◌then◌else◌, List, [], ◌∷◌, ◌++◌, Option, Some, None, Result, Ok, Err, arith}
use Rattle.std.specs.List.{AllByRecursion}
use Rattle.std.proofs.lemmas.Bool.{eq-eqb}
use Rattle.raid_base.specs.declared.numbers.BayNo.{BayNo}
use Rattle.raid_base.specs.declared.numbers.HostNo.{HostNo}
use Rattle.raid_base.specs.declared.numbers.RowNo.{RowNo}
use Rattle.raid_base.specs.declared.numbers.Number.{Number}
use Rattle.raid_base.specs.declared.numbers.Spent.{Spent}
use Rattle.raid_base.specs.declared.cells.Cell.{Cell}
use Rattle.raid_base.specs.declared.messages.Ask.{Ask}
use Rattle.raid_base.specs.declared.messages.How.TheVariants.{Seize}
use Rattle.raid_base.specs.declared.messages.Call.{Call}
use Rattle.raid_base.specs.declared.messages.Errand.{Errand}
use Rattle.raid_base.specs.declared.messages.Grant.{Grant}
use Rattle.raid_base.specs.declared.messages.Reply.{Reply}
use Rattle.raid_base.specs.declared.messages.Reply.TheVariants.{Done}
use Rattle.raid_base.specs.declared.messages.Request.{Request}
use Rattle.raid_base.specs.declared.messages.Request.TheVariants.{Share, Claim, Confirm, Put, Release, Lose, Fit}
use Rattle.raid_base.specs.declared.jobs.Cause.{Cause}
use Rattle.raid_base.specs.declared.jobs.Cause.TheVariants as causes
use Rattle.raid_base.specs.declared.jobs.Ended.{Ended}
use Rattle.raid_base.specs.declared.jobs.Ended.TheVariants as ends
use Rattle.raid_base.specs.declared.jobs.PartsFault.{PartsFault}
use Rattle.raid_base.specs.declared.jobs.RowPart.{RowPart}
use Rattle.raid_base.specs.declared.jobs.Task.{Task}
use Rattle.raid_base.specs.declared.jobs.Task.TheVariants as tasks
use Rattle.raid_base.specs.Numbers.{number}
use Rattle.raid_base.specs.Steps.{Steps, Asks, Draws, Ends, Standing, bind, go_on, Walk, Through, Stopped, Phase, run, settled, next_errand, errand_of}
use Rattle.stripe_layout.specs.Placement.{parity_bay, bay_of, bays_of, units}
use Rattle.slot_rules.specs.Slots.{Slot, Bay}
use Rattle.slot_rules.specs.Rules.{note_id}
use Rattle.slot_rules.specs.Laws.{is_refused}
use Rattle.attempts.specs.declared.Rescue.{Rescue}
use Rattle.attempts.specs.Taking.{Access, Finish, Row, no_rows, Taken, begun, with_parity, with_wanted, taking, why, claim, claims, confirm}
use Rattle.attempts.specs.Releases.{release, releasing, end_as, released_steps, parity_granted}
use Rattle.attempts.specs.Puts.{put}
use Rattle.attempts.specs.Mending.{put_cause}
use Rattle.attempts.specs.Recovery.{whole_part, unseized_data, unseized_parity, granted_data, give_back, recover_refused, Verdict, Leaves, Sums, verdict, recovered_parity, recover_putting, closing, recover_put, recover_by, recover_drawn, recover_confirming, recover_confirmed, units_seized, seize_units, parity_taken, parity_seized, recover_steps}
use Rattle.attempts.specs.Phases as phases
use Rattle.attempts.specs.Phases.{Past, IsIn, MayAsk, after, after_asking, after_number, number_of, begins, Keeps, HasOnlyRead}
use Rattle.attempts.proofs.RoomLemmas.{all-made}
use Rattle.attempts.proofs.PhaseLemmas.{range-aside}
use Rattle.attempts.proofs.ReadPhases.{reads_keep_phases}
use Rattle.script_text.specs.Script.{Script, parts_of}
use Rattle.script_text.specs.Ranges.{IsScript}
use Rattle.histories.specs.Calls.{row_of, is_row, is_at, IsDone}
use Rattle.histories.specs.Hands.{Phased, past_of}
use Rattle.histories.specs.Progress.{Progress, access, attempt, read_of}
use Rattle.histories.specs.History.{progress_at, bay_at, IsHistory}
use Rattle.histories.proofs.hands.PhasedHands.{phased}
use Rattle.histories.specs.RowStates.{slot_at}
use Rattle.row_laws.specs.Hands.{HasHand, calls_at, IsPutter}
use Rattle.row_laws.specs.Holding.{HasNote, MayPutTo, Owns, PutsAreOfOwners}
use Rattle.row_laws.proofs.hands.HandMoves.{may-next}
use Rattle.row_laws.proofs.hands.HandClaims.{granted-claimed}
use Rattle.row_laws.proofs.hands.SlotMoves.{SlotMove, Kept, Touched, Lost, Fitted, moved}
use Rattle.row_laws.proofs.hands.SlotDoes.{Does, Refuses, Closes, Grants, Shows, Holds, Puts, Frees, Leaves}
use Rattle.row_laws.proofs.owners.RowOwnersTrees.{Asking, next-asking, settled-asking, led-asking}
use Rattle.row_laws.proofs.owners.RowOwnersSlots.{does-at}
use Rattle.row_laws.proofs.owners.RowOwnersHands.{Asker, asker}
use Rattle.row_laws.proofs.owners.RowOwnersCalls.{noted-by, noted-has}
use Rattle.row_laws.proofs.owners.HoldingLaws.{putters_own_rows}

-- what is put is a parity
abbrev pub PutsParity : ℕ → Errand → Type 0
PutsParity n e = (row : RowNo) (id k : Number) (cell : Cell) → e.request ≡ Put row id k cell → e.bay ≡ parity_bay n row

abbrev pub Aims : ℕ → List Call → Errand → Type 0
Aims n calls e = PutsParity n e

-- Reads: what has been put stays so to the end, where nothing was
put-stays : (past : Past) (slot : phases.Slot) (bay : BayNo) (what : Request) (r : Reply) → IsIn slot past.put → IsIn slot (after_asking past bay what r).put
put-stays past slot bay (Share row id want) r i = i
put-stays past slot bay (Claim row id how mask want) r i = i
put-stays past slot bay (Confirm row id want) r i = i
put-stays past slot bay (Put row id k cell) r i = inr i
put-stays past slot bay (Release row id k) r i = i
put-stays past slot bay Lose r i = i
put-stays past slot bay Fit r i = i

module _ (n : ℕ) (id : Number) where
  pub none-put : (past : Past) (s : Steps Finish) → Keeps n id HasOnlyRead past s → (slot : phases.Slot) → IsIn slot past.put → ⊥
  none-put past (Ends f) h slot i = subst (λ (slots : List phases.Slot). IsIn slot slots) h.put i
  none-put past (Draws k) h slot i =
      let d : Result Number Spent = Err (record { seen = number 0 }) in
      none-put (after_number past d) (k d) (h.2 d) slot i
  none-put past (Asks e stop commits k) h slot i = none-put (after past e Done) (k Done) (h.1 Done) slot (put-stays past slot e.bay e.request Done i)

  reading-puts : (past : Past) (s : Steps Finish) → Keeps n id HasOnlyRead past s → (calls : List Call) → Asking (Aims n) calls s
  reading-puts past (Ends f) h calls = tt
  reading-puts past (Draws k) h calls = λ d. reading-puts (after_number past d) (k d) (h.2 d) calls
  reading-puts past (Asks e stop commits k) h calls = (
    λ row by m cell is.
        (let first : IsIn (record { bay = e.bay; row = row }) (after_asking past e.bay e.request Done).put =
        subst (λ (w : Request). IsIn (record { bay = e.bay; row = row }) (after_asking past e.bay w Done).put) (sym is) (inl refl) in
        absurd (none-put (after past e Done) (k Done) (h.1 Done) (record { bay = e.bay; row = row }) first)),
    λ call is fit. reading-puts (after past e call.answer.reply) (k call.answer.reply) (h.1 call.answer.reply) (call ∷ calls),
  )

-- Recoveries: whatever a walk gives
module _ (n : ℕ) where
  aims-go : {A : Type 0} (calls : List Call) (o : Option A) (g : A → Steps (Walk A)) (s : Steps (Walk A)) (f : Walk A → Steps Finish) →
      ((a : A) → Asking (Aims n) calls (bind (g a) f)) → Asking (Aims n) calls (bind s f) → Asking (Aims n) calls (bind (go_on o g s) f)
  aims-go calls (Some a) g s f on off = on a
  aims-go calls None g s f on off = off

  aims-run : {A : Type 0} (phase : Phase A) (f : Walk A → Steps Finish) → ((calls : List Call) (walk : Walk A) → Asking (Aims n) calls (f walk)) →
      (es : List Errand) → AllByRecursion (PutsParity n) es → (a : A) (calls : List Call) → Asking (Aims n) calls (bind (run phase es a) f)
  aims-run phase f on [] so a calls = on calls (Through a)
  aims-run phase f on (e ∷ es) so a calls = (
    so.0,
    λ call is fit. aims-go (call ∷ calls) (phase.step a e call.answer.reply) (λ b. run phase es b) (Ends (Stopped a e call.answer.reply)) f
        (λ b. aims-run phase f on es so.1 b (call ∷ calls)) (on (call ∷ calls) (Stopped a e call.answer.reply)),
  )

  aims-claim : (id : Number) (row : RowNo) (bay : BayNo) → PutsParity n (claim id row Seize 0 true bay)
  aims-claim id row bay r by k cell is = absurd (cc)

  aims-confirm : (id : Number) (row : RowNo) (bay : BayNo) → PutsParity n (confirm id row false bay)
  aims-confirm id row bay r by k cell is = absurd (cc)

  aims-release : (id : Number) (row : RowNo) (bay : BayNo) → PutsParity n (release id row None bay)
  aims-release id row bay r by k cell is = absurd (cc)

  aims-put : (id : Number) (row : RowNo) (m : Number) (to : Cell) → PutsParity n (put id row m to (parity_bay n row))
  aims-put id row m to r by k cell is = let same : row ≡ r = (let both : Put row id m to ≡ Put r by k cell = is in cc) in ap (λ (x : RowNo). parity_bay n x) same

module _ (r : Rescue) where
  abbrev Recovers : Steps Finish → Type 0
  Recovers s = (calls : List Call) → Asking (Aims r.n) calls s

  returned : (bays : List BayNo) → AllByRecursion (PutsParity r.n) (give_back r bays)
  returned bays = all-made (PutsParity r.n) (release r.id r.row None) (λ bay. aims-release r.n r.id r.row bay) bays

  gives-back : (bays : List BayNo) (ended : Ended) → Recovers (released_steps (give_back r bays) ended)
  gives-back bays ended calls = aims-run r.n releasing (end_as ended) (λ cs walk. tt) (give_back r bays) (returned bays) tt calls

  refuses : (row : Row) (cause : Cause) → Recovers (recover_refused r row cause)
  refuses row cause calls = gives-back (unseized_data r row ++ unseized_parity r row.parity) (ends.Refused cause) calls

  has-put : (row : Row) (m : Number) (lost : Option ℕ) (walk : Walk (Unit {0})) → Recovers (recover_put r row m lost walk)
  has-put row m lost (Stopped u e reply) calls = gives-back (unseized_data r row) (ends.Refused (put_cause r.row e reply)) calls
  has-put row m lost (Through u) calls =
      aims-run r.n (closing m lost) (end_as (ends.Recovered m true lost)) (λ cs walk. tt) (give_back r (granted_data r row)) (returned (granted_data r row)) tt calls

  by-verdict : (row : Row) (m : Number) (v : Verdict) → Recovers (recover_by r row m v)
  by-verdict row m Leaves calls = gives-back (granted_data r row ++ parity_granted r.n r.row row.parity) (ends.Recovered m true None) calls
  by-verdict row m (Sums lost) calls =
      aims-run r.n (recover_putting r lost) (recover_put r row m lost) (λ cs walk. has-put row m lost walk cs) (put r.id r.row m (recovered_parity row lost) (parity_bay r.n r.row) ∷ [])
      (aims-put r.n r.id r.row m (recovered_parity row lost), tt) tt calls

  has-drawn : (row : Row) (d : Result Number Spent) → Recovers (recover_drawn r row d)
  has-drawn row (Err spent) calls = refuses row (causes.Spent spent.seen) calls
  has-drawn row (Ok m) calls = by-verdict row m (verdict r row) calls

  has-confirmed : (taken : Taken) (walk : Walk (Unit {0})) → Recovers (recover_confirmed r taken walk)
  has-confirmed taken (Stopped u e reply) calls = refuses taken.row _ calls
  has-confirmed taken (Through u) calls = λ d. has-drawn taken.row d calls

  has-units : (walk : Walk Taken) → Recovers (units_seized r walk)
  has-units (Stopped taken e reply) calls = refuses taken.row (why None taken e reply) calls
  has-units (Through taken) calls =
      aims-run r.n (recover_confirming taken) (recover_confirmed r taken) (λ cs walk. has-confirmed taken walk cs) (confirm r.id r.row false (parity_bay r.n r.row) ∷ [])
      (aims-confirm r.n r.id r.row (parity_bay r.n r.row), tt) tt calls

  takes-units : (taken : Taken) → Recovers (seize_units r taken)
  takes-units taken calls =
      aims-run r.n (taking None with_wanted) (units_seized r) (λ cs walk. has-units walk cs) (claims r.id r.row Seize true (bays_of r.n r.row (units r.n)))
      (all-made (PutsParity r.n) (claim r.id r.row Seize 0 true) (λ bay. aims-claim r.n r.id r.row bay) (bays_of r.n r.row (units r.n))) taken calls

  without-parity : (taken : Taken) (operator : Bool) → Recovers (if operator then seize_units r taken else recover_refused r taken.row (causes.Gone (parity_bay r.n r.row)))
  without-parity taken true calls = takes-units taken calls
  without-parity taken false calls = refuses taken.row (causes.Gone (parity_bay r.n r.row)) calls

  by-parity : (taken : Taken) (grant : Option Grant) → Recovers (parity_taken r taken grant)
  by-parity taken (Some grant) calls = takes-units taken calls
  by-parity taken None calls = without-parity taken (r.host.0 == 0) calls

  has-parity : (walk : Walk Taken) → Recovers (parity_seized r walk)
  has-parity (Stopped taken e reply) calls = refuses taken.row (why None taken e reply) calls
  has-parity (Through taken) calls = by-parity taken taken.row.parity calls

  recoveries-put : Recovers (recover_steps r)
  recoveries-put calls =
      aims-run r.n (taking None with_parity) (parity_seized r) (λ cs walk. has-parity walk cs) (claim r.id r.row Seize 0 true (parity_bay r.n r.row) ∷ [])
      (aims-claim r.n r.id r.row (parity_bay r.n r.row), tt) (begun (whole_part r) no_rows) calls

-- An attempt may put units, or puts parities alone
reads-put : (script : Script) (id : Number) (r : Result (List RowPart) PartsFault) → Asking (Aims script.n) [] (read_of script id r)
reads-put script id (Ok parts) =
    let a : Access = access script id parts [] in
    reading-puts a.n a.id (begins (number_of a.mode a.id)) (read_of script id (Ok parts)) (reads_keep_phases a) []
reads-put script id (Err fault) = tt

pub putter-or : (script : Script) (host : HostNo) (id : Number) (row : ℕ) (task : Task) → IsPutter task ⊎ Asking (Aims script.n) [] (attempt script host id row task)
putter-or script host id row (tasks.Write object first from count) = inl tt
putter-or script host id row (tasks.Rebuild bay) = inl tt
putter-or script host id row (tasks.Read object first count) = inr (reads-put script id (parts_of script object first count))
putter-or script host id row (tasks.Recover at) = inr (recoveries-put (record { n = script.n; host = host; id = id; row = at }) [])
putter-or script host id row (tasks.Lose bay) = inr tt
putter-or script host id row (tasks.Fit bay) = inr tt

-- a put that is done found a note with its id
pub put-noted : (bay : Bay) (ask : Ask) (slot : Slot) (row : RowNo) (id k : Number) (cell : Cell) (what : Request) (reply : Reply) (left : Slot) → Does bay ask slot what reply left → what ≡ Put row id k cell → reply ≡ Done →
    note_id slot.note id ≡ true
put-noted bay ask slot row id k cell what reply left (Refuses r refused missing) is done = absurd (let bad : false ≡ true = ap is_refused (sym done) ∙ refused in cc)
put-noted bay ask slot row id k cell what reply left (Closes there none) is done = absurd (cc)
put-noted bay ask slot row id k cell what reply left (Grants claims) is done = absurd (cc)
put-noted bay ask slot row id k cell what reply left (Shows shares) is done = absurd (cc)
put-noted bay ask slot row id k cell what reply left (Holds own) is done = absurd (cc)
put-noted bay ask slot row id k cell what reply left (Puts {row = r} {id = by} {n = m} {cell = c} own) is done =
    let same : by ≡ id = (let both : Put r by m c ≡ Put row id k cell = is in cc) in subst (λ (x : Number). note_id slot.note x ≡ true) same own
put-noted bay ask slot row id k cell what reply left (Frees own) is done = absurd (cc)
put-noted bay ask slot row id k cell what reply left (Leaves free reader found) is done = absurd (cc)

-- all of them are such, so one of them is
pub all-in : {X : Type 0} (P : X → Type 0) (x : X) (xs : List X) → AllByRecursion P xs → IsIn x xs → P x
all-in P x [] all i = absurd i
all-in P x (y ∷ ys) all (inl same) = subst P same all.0
all-in P x (y ∷ ys) all (inr i) = all-in P x ys all.1 i

module _ (script : Script) (is : IsScript script) (earlier : List Call) (call : Call) (along : IsHistory script (call ∷ earlier)) (row : RowNo) (unit : ℕ) (below : row.0 < script.rows) (inside : unit + 1 < script.n) (id k : Number)
    (cell : Cell) (place : call.bay ≡ bay_of script.n row unit) (what : call.ask.what ≡ Put row id k cell) (done : IsDone call) where
  abbrev pub At : BayNo
  At = bay_of script.n row unit

  abbrev pub Host : HostNo
  Host = call.ask.host

  abbrev pub Calls : List Call
  Calls = calls_at script earlier Host

  of-row : row_of call.ask.what ≡ Some row
  of-row = ap (λ (w : Request). row_of w) what

  asked-here : is_at At row call ≡ true
  asked-here = both (call.bay.0 == (At).0) (is_row row (row_of call.ask.what)) (eq-eqb call.bay.0 (At).0 (ap (λ (b : BayNo). b.0) place)) (ap (λ (o : Option RowNo). is_row row o) of-row ∙ eq-eqb row.0 row.0 refl)
    where
      both : (x y : Bool) → x ≡ true → y ≡ true → (x && y) ≡ true
      both true y p q = q
      both false y p q = p

  pub noted : HasNote id (slot_at script earlier At row).note
  noted = noted-has (slot_at script earlier At row).note id (noted-by (slot_at script earlier At row).note id (by (moved script is earlier call along.1 At row below)))
    where
      other : (x : Request) → call.ask.what ≡ x → row_of x ≡ None → ⊥
      other x e none = let bad : Some row ≡ None = sym of-row ∙ ap (λ (w : Request). row_of w) e ∙ none in cc

      by : SlotMove (bay_at script At earlier) At row call (bay_at script At (call ∷ earlier)) → note_id (slot_at script earlier At row).note id ≡ true
      by (Kept slot empty life apart) = absurd (let bad : true ≡ false = sym asked-here ∙ apart in cc)
      by (Lost at lost was slot empty life) = absurd (other Lose lost refl)
      by (Fitted at fitted was slot empty life) = absurd (other Fit fitted refl)
      by (Touched at of reply slot empty life) =
          put-noted (bay_at script At earlier) call.ask (slot_at script earlier At row) row id k cell call.ask.what call.answer.reply (slot_at script (call ∷ earlier) At row)
          (does-at script is earlier call along.1 At row below of reply slot) what done

  module _ (steps : Steps Finish) (h : HasHand script earlier Host steps) (asked : next_errand steps ≡ Some (errand_of call)) where
    abbrev Now : Progress
    Now = progress_at script Host earlier

    past : Phased script.n h.hand.id Calls steps
    past = phased script is Host Now steps h.hand

    may-ask : MayAsk script.n h.hand.id (past).past At (Put row id k cell)
    may-ask =
        subst (λ (w : Request). MayAsk script.n h.hand.id (past).past At w) what
        (subst (λ (b : BayNo). MayAsk script.n h.hand.id (past).past b call.ask.what) place (may-next script.n h.hand.id (past).past steps (errand_of call) (past).keeps asked))

    -- its row is confirmed, for the slot was granted, and so claimed
    pub confirmed : IsIn row (past_of Calls).confirmed
    confirmed =
        let slot : phases.Slot = record { bay = At; row = row } in
        let granted : IsIn slot (past_of Calls).granted = subst (λ (slots : List phases.Slot). IsIn slot slots) (past).same.granted may-ask.3.granted in
        let claimed : IsIn slot (past).past.claimed = subst (λ (slots : List phases.Slot). IsIn slot slots) (sym (past).same.claimed) (granted-claimed slot Calls granted) in
        subst (λ (rows : List RowNo). IsIn row rows) (past).same.confirmed
        (all-in (λ (x : phases.Slot). IsIn x.row (past).past.confirmed) slot (past).past.claimed may-ask.3.confirmed claimed)

    -- it puts units
    pub putter : IsPutter h.hand.task
    putter = by (putter-or script Host h.hand.id (Now).row h.hand.task)
      where
        by : IsPutter h.hand.task ⊎ Asking (Aims script.n) [] (attempt script Host h.hand.id (Now).row h.hand.task) → IsPutter h.hand.task
        by (inl puts) = puts
        by (inr aims) =
            let s : Steps Finish = attempt script Host h.hand.id (Now).row h.hand.task in
            let next : PutsParity script.n (errand_of call) =
            next-asking (Aims script.n) Calls steps (errand_of call)
            (led-asking (Aims script.n) Host (settled Host h.hand.id s) Calls (record { seen = (Now).seen; steps = steps }) (settled-asking (Aims script.n) Host h.hand.id [] s aims) h.hand.led) asked in
            absurd ((range-aside script.n row unit 1 (omega (arith, inside))).0 (sym place ∙ next row id k cell what))

    put-owned : Owns script earlier row id
    put-owned =
        let own : id ≡ h.hand.id = may-ask.0 in
        let sent : next_errand steps ≡ Some (record { bay = At; request = Put row id k cell }) =
        asked ∙ ap (λ (b : BayNo). Some (record { bay = b; request = call.ask.what })) place ∙ ap (λ (w : Request). Some (record { bay = At; request = w })) what in
        let now : Standing Finish = record { seen = (Now).seen; steps = steps } in
        let may : MayPutTo Host now At row id = ([], now, refl, k, cell, sent) in
        subst (λ (x : Number). Owns script earlier row x) (sym own)
        (putters_own_rows script earlier is along.0 Host steps h row unit below inside putter confirmed (subst (λ (x : Number). HasNote x (slot_at script earlier At row).note) own noted)
        (subst (λ (x : Number). MayPutTo Host now At row x) own may))

pub puts_are_of_owners : PutsAreOfOwners
puts_are_of_owners script earlier call is along row unit id below inside (place, k, cell, what) done =
    let a : Asker script is earlier call = asker script is earlier call along.0 along.1 row (ap (λ (w : Request). row_of w) what) in
    put-owned script is earlier call along row unit below inside id k cell place what done a.steps a.hand a.asked
