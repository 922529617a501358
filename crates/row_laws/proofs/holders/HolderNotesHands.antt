-- What the calls of an attempt in hand show of it: it takes each slot once and the parity first, its claims are of its kind,
-- and all calls with its id are its own.
use Rattle.std.proofs.Common.{◌≡◌, ◌⊎◌, inl, inr, refl, sym, ap, subst, ◌∙◌, ℕ, ◌≤◌, Bool, true, false, cond, if◌then◌else◌, List, [], ◌∷◌, Option, Some, None, Result, Ok, Err, arith}
use Rattle.std.specs.List.{AllByRecursion}
use Rattle.raid_base.specs.declared.numbers.BayNo.{BayNo}
use Rattle.raid_base.specs.declared.numbers.HostNo.{HostNo}
use Rattle.raid_base.specs.declared.numbers.RowNo.{RowNo}
use Rattle.raid_base.specs.declared.numbers.Number.{Number}
use Rattle.raid_base.specs.declared.messages.How.{How}
use Rattle.raid_base.specs.declared.messages.How.TheVariants.{Plain, Mend}
use Rattle.raid_base.specs.declared.messages.Grant.{Grant}
use Rattle.raid_base.specs.declared.messages.Reply.{Reply}
use Rattle.raid_base.specs.declared.messages.Request.{Request}
use Rattle.raid_base.specs.declared.messages.Request.TheVariants.{Share, Claim, Confirm, Put, Release, Lose, Fit}
use Rattle.raid_base.specs.declared.messages.Errand.{Errand}
use Rattle.raid_base.specs.declared.messages.Call.{Call}
use Rattle.raid_base.specs.declared.jobs.Job.{Job}
use Rattle.raid_base.specs.declared.jobs.Task.{Task}
use Rattle.raid_base.specs.declared.jobs.Task.TheVariants as tasks
use Rattle.raid_base.specs.declared.jobs.RowPart.{RowPart}
use Rattle.raid_base.specs.declared.jobs.PartsFault.{PartsFault}
use Rattle.raid_base.specs.declared.names.Name.{Name}
use Rattle.raid_base.specs.Numbers.{draw, seen_drawn, sees}
use Rattle.raid_base.specs.Replies.{grant_of}
use Rattle.raid_base.specs.Steps.{Steps, Asks, Draws, Ends, Standing, settled, behind, next_errand, errand_of}
use Rattle.stripe_layout.specs.Placement.{parity_bay}
use Rattle.attempts.specs.Taking.{Finish}
use Rattle.attempts.specs.Phases.{Slot, Past, IsIn, MayAsk, Keeps, parity_slot, has_slot, is_due, after_asking}
use Rattle.attempts.specs.Recovery.{is_seized}
use Rattle.attempts.specs.Once.{with_taken, MayTake, Once, ClaimsSo, EachClaims, AttemptsAskOnce, ClaimsAreOfTheirKind}
use Rattle.attempts.proofs.PhaseLemmas.{slot_on}
use Rattle.script_text.specs.Script.{Script, parts_of, blocks_of}
use Rattle.script_text.specs.Ranges.{IsScript, IsTask}
use Rattle.histories.specs.Calls.{IsClaim}
use Rattle.histories.specs.Hands.{InHand, Led, past_of, Any, Phased}
use Rattle.histories.specs.Progress.{Over, Progress, access, attempt, read_of, write_of}
use Rattle.histories.proofs.hands.PhasedHands.{phased, found-parts, rows-differ}
use Rattle.row_laws.proofs.hands.HandMoves.{may-next}
use Rattle.row_laws.proofs.holders.HolderNotesTrees.{with_granted, freed, with_free, passes, MayFind, Finds, recovers-find}
use Rattle.row_laws.proofs.hands.HandClaims.{kind_of}

-- Along the calls that led to a standing
module _ (host : HostNo) (P : List Call → Steps Finish → Type 0)
    (told : (seen : Number) (calls : List Call) (call : Call) (s : Steps Finish) → P calls s → next_errand s ≡ Some (errand_of call) → P (call ∷ calls) (settled host seen (behind s call.answer.reply)).steps) where
  led-all : (start : Standing Finish) (calls : List Call) (now : Standing Finish) → P [] start.steps → Led host start calls now → P calls now.steps
  led-all start [] now h led = subst (λ (x : Standing Finish). P [] x.steps) led h
  led-all start (call ∷ earlier) now h (before, led, asked, fit, later) =
      subst (λ (x : Standing Finish). P (call ∷ earlier) x.steps) later
      (told (sees before.seen call.answer.reply) earlier call before.steps (led-all start earlier before h led) asked)

-- What calls have claimed, and so on, grows
abbrev Within : List Slot → List Slot → Type 0
Within xs ys = (slot : Slot) → IsIn slot xs → IsIn slot ys

pub asked-claimed : (past : Past) (bay : BayNo) (what : Request) (r : Reply) → Within past.claimed (after_asking past bay what r).claimed
asked-claimed past bay (Share row id want) r slot i = i
asked-claimed past bay (Claim row id how mask want) r slot i = inr i
asked-claimed past bay (Confirm row id want) r slot i = i
asked-claimed past bay (Put row id n cell) r slot i = i
asked-claimed past bay (Release row id n) r slot i = i
asked-claimed past bay Lose r slot i = i
asked-claimed past bay Fit r slot i = i

asked-put : (past : Past) (bay : BayNo) (what : Request) (r : Reply) → Within past.put (after_asking past bay what r).put
asked-put past bay (Share row id want) r slot i = i
asked-put past bay (Claim row id how mask want) r slot i = i
asked-put past bay (Confirm row id want) r slot i = i
asked-put past bay (Put row id n cell) r slot i = inr i
asked-put past bay (Release row id n) r slot i = i
asked-put past bay Lose r slot i = i
asked-put past bay Fit r slot i = i

pub put-more : (call : Call) (calls : List Call) → Within (past_of calls).put (past_of (call ∷ calls)).put
put-more call calls slot i = asked-put (past_of calls) call.bay call.ask.what call.answer.reply slot i

asked-phase : (past : Past) (bay : BayNo) (what : Request) (r : Reply) (row : RowNo) → (IsIn row past.confirmed → 1 ≤ past.phase) → IsIn row (after_asking past bay what r).confirmed →
    1 ≤ (after_asking past bay what r).phase
asked-phase past bay (Share at id want) r row h i = h i
asked-phase past bay (Claim at id how mask want) r row h i = h i
asked-phase past bay (Confirm at id want) r row h i = omega arith
asked-phase past bay (Put at id n cell) r row h i = omega arith
asked-phase past bay (Release at id n) r row h i = omega arith
asked-phase past bay Lose r row h i = h i
asked-phase past bay Fit r row h i = h i

pub confirmed-late : (calls : List Call) (row : RowNo) → IsIn row (past_of calls).confirmed → 1 ≤ (past_of calls).phase
confirmed-late [] row i = absurd i
confirmed-late (call ∷ calls) row i = asked-phase (past_of calls) call.bay call.ask.what call.answer.reply row (confirmed-late calls row) i

-- a row is confirmed by a confirm that is answered as is due
pub data Confirms (row : RowNo) (past : Past) (bay : BayNo) (what : Request) (r : Reply) : Type 0 where
  Before : (i : IsIn row past.confirmed) → Confirms row past bay what r
  Now : (id : Number) (want : Bool) (is : what ≡ Confirm row id want) (due : is_due (has_slot (slot_on row bay) past.granted) r ≡ true) → Confirms row past bay what r

pub confirmed-by : (row : RowNo) (past : Past) (bay : BayNo) (what : Request) (r : Reply) → IsIn row (after_asking past bay what r).confirmed → Confirms row past bay what r
confirmed-by row past bay (Share at id want) r i = Before i
confirmed-by row past bay (Claim at id how mask want) r i = Before i
confirmed-by row past bay (Confirm at id want) r i = by (is_due (has_slot (slot_on at bay) past.granted) r) refl i
  where
    by : (b : Bool) → is_due (has_slot (slot_on at bay) past.granted) r ≡ b → IsIn row (if b then at ∷ past.confirmed else past.confirmed) → Confirms row past bay (Confirm at id want) r
    by true e (inl same) = Now id want (ap (λ (x : RowNo). Confirm x id want) same) (subst (λ (x : RowNo). is_due (has_slot (slot_on x bay) past.granted) r ≡ true) same e)
    by true e (inr i) = Before i
    by false e i = Before i
confirmed-by row past bay (Put at id n cell) r i = Before i
confirmed-by row past bay (Release at id n) r i = Before i
confirmed-by row past bay Lose r i = Before i
confirmed-by row past bay Fit r i = Before i

-- a claim among the calls
pub claim-in : (at : BayNo) (row : RowNo) (calls : List Call) (call : Call) → IsIn call calls → IsClaim at row call → IsIn (slot_on row at) (past_of calls).claimed
claim-in at row [] call i claim = absurd i
claim-in at row (first ∷ calls) call (inr i) claim = asked-claimed (past_of calls) first.bay first.ask.what first.answer.reply (slot_on row at) (claim-in at row calls call i claim)
claim-in at row (first ∷ calls) call (inl same) (place, id, how, mask, want, what) =
    let here : first.bay ≡ at = ap (λ (c : Call). c.bay) same ∙ place in
    let is : first.ask.what ≡ Claim row id how mask want = ap (λ (c : Call). c.ask.what) same ∙ what in
    subst (λ (w : Request). IsIn (slot_on row at) (after_asking (past_of calls) first.bay w first.answer.reply).claimed) (sym is) (inl (ap (slot_on row) here))

-- Each slot is taken once
abbrev Singles : List Call → Type 0
Singles [] = Unit {0}
Singles (call ∷ calls) = MayTake (past_of calls).claimed call.bay call.ask.what × Singles calls

record Taking (calls : List Call) (s : Steps Finish) : Type 0 where
  taken : List Slot
  once : Once taken s
  claimed : Within (past_of calls).claimed taken
  singles : Singles calls

may-less : (xs ys : List Slot) (bay : BayNo) (what : Request) → Within xs ys → MayTake ys bay what → MayTake xs bay what
may-less xs ys bay (Share row id want) h may = λ i. may (h (slot_on row bay) i)
may-less xs ys bay (Claim row id how mask want) h may = λ i. may (h (slot_on row bay) i)
may-less xs ys bay (Confirm row id want) h may = tt
may-less xs ys bay (Put row id n cell) h may = tt
may-less xs ys bay (Release row id n) h may = tt
may-less xs ys bay Lose h may = tt
may-less xs ys bay Fit h may = tt

taken-more : (past : Past) (taken : List Slot) (bay : BayNo) (what : Request) (r : Reply) → Within past.claimed taken → Within (after_asking past bay what r).claimed (with_taken taken bay what)
taken-more past taken bay (Share row id want) r h slot i = inr (h slot i)
taken-more past taken bay (Claim row id how mask want) r h slot (inl same) = inl same
taken-more past taken bay (Claim row id how mask want) r h slot (inr i) = inr (h slot i)
taken-more past taken bay (Confirm row id want) r h slot i = h slot i
taken-more past taken bay (Put row id n cell) r h slot i = h slot i
taken-more past taken bay (Release row id n) r h slot i = h slot i
taken-more past taken bay Lose r h slot i = h slot i
taken-more past taken bay Fit r h slot i = h slot i

once-settled : (host : HostNo) (seen : Number) (taken : List Slot) (s : Steps Finish) → Once taken s → Once taken (settled host seen s).steps
once-settled host seen taken (Asks e t c k) h = h
once-settled host seen taken (Draws k) h = once-settled host (seen_drawn seen (draw host seen)) taken (k (draw host seen)) (h (draw host seen))
once-settled host seen taken (Ends f) h = tt

once-told : (host : HostNo) (seen : Number) (calls : List Call) (call : Call) (s : Steps Finish) → Taking calls s → next_errand s ≡ Some (errand_of call) →
    Taking (call ∷ calls) (settled host seen (behind s call.answer.reply)).steps
once-told host seen calls call (Asks e t c k) h asked =
    let is : e ≡ errand_of call = cc in
    let here : Once h.taken (Asks (errand_of call) t c k) = subst (λ (x : Errand). Once h.taken (Asks x t c k)) is h.once in
    record {
      taken = with_taken h.taken call.bay call.ask.what;
      once = once-settled host seen (with_taken h.taken call.bay call.ask.what) (k call.answer.reply) (here.1 call.answer.reply);
      claimed = taken-more (past_of calls) h.taken call.bay call.ask.what call.answer.reply h.claimed;
      singles = (may-less (past_of calls).claimed h.taken call.bay call.ask.what h.claimed here.0, h.singles);
    }
once-told host seen calls call (Draws k) h asked = absurd (cc)
once-told host seen calls call (Ends f) h asked = absurd (cc)

-- Claims are of a kind
record Kinds (n : ℕ) (kind : How) (calls : List Call) (s : Steps Finish) : Type 0 where
  each : EachClaims n kind s
  asked : AllByRecursion (λ (call : Call). ClaimsSo n kind call.bay call.ask.what) calls

kinds-settled : (n : ℕ) (kind : How) (host : HostNo) (seen : Number) (s : Steps Finish) → EachClaims n kind s → EachClaims n kind (settled host seen s).steps
kinds-settled n kind host seen (Asks e t c k) h = h
kinds-settled n kind host seen (Draws k) h = kinds-settled n kind host (seen_drawn seen (draw host seen)) (k (draw host seen)) (h (draw host seen))
kinds-settled n kind host seen (Ends f) h = tt

kinds-told : (n : ℕ) (kind : How) (host : HostNo) (seen : Number) (calls : List Call) (call : Call) (s : Steps Finish) → Kinds n kind calls s → next_errand s ≡ Some (errand_of call) →
    Kinds n kind (call ∷ calls) (settled host seen (behind s call.answer.reply)).steps
kinds-told n kind host seen calls call (Asks e t c k) h asked =
    let is : e ≡ errand_of call = cc in
    let here : EachClaims n kind (Asks (errand_of call) t c k) = subst (λ (x : Errand). EachClaims n kind (Asks x t c k)) is h.each in
    record { each = kinds-settled n kind host seen (k call.answer.reply) (here.1 call.answer.reply); asked = (here.0, h.asked) }
kinds-told n kind host seen calls call (Draws k) h asked = absurd (cc)
kinds-told n kind host seen calls call (Ends f) h asked = absurd (cc)

-- Recoveries before their confirm
abbrev pub free_of : List Call → List Slot
free_of [] = []
free_of (call ∷ calls) = with_free (free_of calls) call.bay call.ask.what call.answer.reply

abbrev pub Finding : RowNo → HostNo → List Call → Steps Finish → Type 0
Finding row host calls s = IsIn row (past_of calls).confirmed ⊎ Finds row host (past_of calls).granted (free_of calls) s

asked-confirmed : (past : Past) (bay : BayNo) (what : Request) (r : Reply) (row : RowNo) → IsIn row past.confirmed → IsIn row (after_asking past bay what r).confirmed
asked-confirmed past bay (Share at id want) r row i = i
asked-confirmed past bay (Claim at id how mask want) r row i = i
asked-confirmed past bay (Confirm at id want) r row i = by (is_due (has_slot (slot_on at bay) past.granted) r)
  where
    by : (b : Bool) → IsIn row (if b then at ∷ past.confirmed else past.confirmed)
    by true = inr i
    by false = i
asked-confirmed past bay (Put at id n cell) r row i = i
asked-confirmed past bay (Release at id n) r row i = i
asked-confirmed past bay Lose r row i = i
asked-confirmed past bay Fit r row i = i

passed-confirmed : (past : Past) (host : HostNo) (free : List Slot) (bay : BayNo) (what : Request) (r : Reply) (row : RowNo) → MayFind row host past.granted free bay what → passes past.granted bay what r ≡ true →
    IsIn row (after_asking past bay what r).confirmed
passed-confirmed past host free bay (Share at id want) r row may e = absurd (cc)
passed-confirmed past host free bay (Claim at id how mask want) r row may e = absurd (cc)
passed-confirmed past host free bay (Confirm at id want) r row may e = by (is_due (has_slot (slot_on at bay) past.granted) r) e
  where
    by : (b : Bool) → b ≡ true → IsIn row (if b then at ∷ past.confirmed else past.confirmed)
    by true e = inl may.0
    by false e = absurd (cc)
passed-confirmed past host free bay (Put at id n cell) r row may e = absurd (cc)
passed-confirmed past host free bay (Release at id n) r row may e = absurd (cc)
passed-confirmed past host free bay Lose r row may e = absurd (cc)
passed-confirmed past host free bay Fit r row may e = absurd (cc)

granted-same : (past : Past) (bay : BayNo) (what : Request) (r : Reply) → with_granted past.granted bay what r ≡ (after_asking past bay what r).granted
granted-same past bay (Share at id want) r = refl
granted-same past bay (Claim at id how mask want) r = refl
granted-same past bay (Confirm at id want) r = refl
granted-same past bay (Put at id n cell) r = refl
granted-same past bay (Release at id n) r = refl
granted-same past bay Lose r = refl
granted-same past bay Fit r = refl

module _ (row : RowNo) (host : HostNo) where
  finds-settled : (seen : Number) (granted free : List Slot) (s : Steps Finish) → Finds row host granted free s → Finds row host granted free (settled host seen s).steps
  finds-settled seen granted free (Asks e t c k) h = h
  finds-settled seen granted free (Draws k) h = absurd h
  finds-settled seen granted free (Ends f) h = tt

  finds-told : (seen : Number) (calls : List Call) (call : Call) (s : Steps Finish) → Finding row host calls s → next_errand s ≡ Some (errand_of call) →
      Finding row host (call ∷ calls) (settled host seen (behind s call.answer.reply)).steps
  finds-told seen calls call s (inl done) asked = inl (asked-confirmed (past_of calls) call.bay call.ask.what call.answer.reply row done)
  finds-told seen calls call (Asks e t c k) (inr h) asked = by (passes (past_of calls).granted call.bay call.ask.what call.answer.reply) refl
    where
      is : e ≡ errand_of call
      is = cc

      here : Finds row host (past_of calls).granted (free_of calls) (Asks (errand_of call) t c k)
      here = subst (λ (x : Errand). Finds row host (past_of calls).granted (free_of calls) (Asks x t c k)) is h

      by : (b : Bool) → passes (past_of calls).granted call.bay call.ask.what call.answer.reply ≡ b → Finding row host (call ∷ calls) (settled host seen (k call.answer.reply)).steps
      by true e = inl (passed-confirmed (past_of calls) host (free_of calls) call.bay call.ask.what call.answer.reply row here.0 e)
      by false e =
          inr (finds-settled seen (past_of (call ∷ calls)).granted (free_of (call ∷ calls)) (k call.answer.reply)
          (subst (λ (xs : List Slot). Finds row host xs (free_of (call ∷ calls)) (k call.answer.reply)) (granted-same (past_of calls) call.bay call.ask.what call.answer.reply) (here.1 call.answer.reply e)))
  finds-told seen calls call (Draws k) (inr h) asked = absurd h
  finds-told seen calls call (Ends f) (inr h) asked = absurd (cc)

-- what it asks next
pub finds-next : (row : RowNo) (host : HostNo) (granted free : List Slot) (s : Steps Finish) (call : Call) → Finds row host granted free s → next_errand s ≡ Some (errand_of call) →
    MayFind row host granted free call.bay call.ask.what
finds-next row host granted free (Asks e t c k) call finds asked =
    let same : e ≡ errand_of call = cc in subst (λ (x : Errand). MayFind row host granted free x.bay x.request) same finds.0
finds-next row host granted free (Draws k) call finds asked = absurd finds
finds-next row host granted free (Ends x) call finds asked = absurd (cc)

-- The attempts of a script
module _ (script : Script) (is : IsScript script) (once : AttemptsAskOnce) (kinds : ClaimsAreOfTheirKind) (host : HostNo) where
  read-once : (id : Number) (object : Name) (first count : ℕ) → 1 ≤ count → (r : Result (List RowPart) PartsFault) → parts_of script object first count ≡ r → Once [] (read_of script id r)
  read-once id object first count some (Ok parts) ok =
      let sound = found-parts script is host id object first count parts some ok in once.0 (access script id parts []) is.devices_least (rows-differ parts sound.rows_apart)
  read-once id object first count some (Err fault) ok = tt

  write-once : (id : Number) (object : Name) (first count : ℕ) (blocks : List (List ℕ)) → 1 ≤ count → (r : Result (List RowPart) PartsFault) → parts_of script object first count ≡ r →
      Once [] (write_of script id blocks r)
  write-once id object first count blocks some (Ok parts) ok =
      let sound = found-parts script is host id object first count parts some ok in once.1 (access script id parts blocks) is.devices_least (rows-differ parts sound.rows_apart)
  write-once id object first count blocks some (Err fault) ok = tt

  attempt-once : (id : Number) (row : ℕ) (task : Task) → IsTask script host task → Once [] (attempt script host id row task)
  attempt-once id row (tasks.Read object first count) aim = read-once id object first count aim.some (parts_of script object first count) refl
  attempt-once id row (tasks.Write object first from count) aim = write-once id object first count (blocks_of script from count) aim.some (parts_of script object first count) refl
  attempt-once id row (tasks.Recover at) aim = once.3 (record { n = script.n; host = host; id = id; row = at }) is.devices_least
  attempt-once id row (tasks.Rebuild bay) aim = once.2 (record { n = script.n; id = id; row = record { 0 = row }; target = bay }) is.devices_least aim.1
  attempt-once id row (tasks.Lose bay) aim = tt
  attempt-once id row (tasks.Fit bay) aim = tt

  read-kinds : (id : Number) (r : Result (List RowPart) PartsFault) → EachClaims script.n Plain (read_of script id r)
  read-kinds id (Ok parts) = kinds.0 (access script id parts [])
  read-kinds id (Err fault) = tt

  write-kinds : (id : Number) (blocks : List (List ℕ)) (r : Result (List RowPart) PartsFault) → EachClaims script.n Plain (write_of script id blocks r)
  write-kinds id blocks (Ok parts) = kinds.1 (access script id parts blocks)
  write-kinds id blocks (Err fault) = tt

  attempt-kinds : (id : Number) (row : ℕ) (task : Task) → EachClaims script.n (kind_of task) (attempt script host id row task)
  attempt-kinds id row (tasks.Read object first count) = read-kinds id (parts_of script object first count)
  attempt-kinds id row (tasks.Write object first from count) = write-kinds id (blocks_of script from count) (parts_of script object first count)
  attempt-kinds id row (tasks.Recover at) = kinds.3 (record { n = script.n; host = host; id = id; row = at })
  attempt-kinds id row (tasks.Rebuild bay) = kinds.2 (record { n = script.n; id = id; row = record { 0 = row }; target = bay })
  attempt-kinds id row (tasks.Lose bay) = tt
  attempt-kinds id row (tasks.Fit bay) = tt

  attempt-finds : (id : Number) (row : ℕ) (task : Task) (at : RowNo) → task ≡ tasks.Recover at → Finds at host [] [] (attempt script host id row task)
  attempt-finds id row task at same = subst (λ (t : Task). Finds at host [] [] (attempt script host id row t)) (sym same) (recovers-find (record { n = script.n; host = host; id = id; row = at }))

  module _ (jobs : List Job) (row : ℕ) (seen : Number) (calls : List Call) (steps : Steps Finish) (h : InHand script host jobs row seen calls steps) where
    abbrev begun : Steps Finish
    begun = attempt script host h.id row h.task

    abbrev start : Standing Finish
    start = settled host h.id begun

    taking-hand : Taking calls steps
    taking-hand =
        led-all host Taking (once-told host) start calls (record { seen = seen; steps = steps })
        (record { taken = []; once = once-settled host h.id [] begun (attempt-once h.id row h.task h.is); claimed = λ slot i. i; singles = tt }) h.led

    kinds-hand : AllByRecursion (λ (call : Call). ClaimsSo script.n (kind_of h.task) call.bay call.ask.what) calls
    kinds-hand =
        let all : Kinds script.n (kind_of h.task) calls steps =
        led-all host (Kinds script.n (kind_of h.task)) (kinds-told script.n (kind_of h.task) host) start calls (record { seen = seen; steps = steps })
        (record { each = kinds-settled script.n (kind_of h.task) host h.id begun (attempt-kinds h.id row h.task); asked = tt }) h.led in
        all.asked

    -- a recovery that has not confirmed its row
    pub finding-hand : (at : RowNo) → h.task ≡ tasks.Recover at → Finding at host calls steps
    finding-hand at same =
        led-all host (Finding at host) (finds-told at host) start calls (record { seen = seen; steps = steps })
        (inr (finds-settled at host h.id [] [] begun (attempt-finds h.id row h.task at same))) h.led

    -- what comes next claims no slot again
    pub claims-new : (call : Call) (at : BayNo) (slot_row : RowNo) → next_errand steps ≡ Some (errand_of call) → IsClaim at slot_row call → IsIn (slot_on slot_row at) (past_of calls).claimed → ⊥
    claims-new call at slot_row asked (place, id, how, mask, want, what) i = by steps asked taking-hand
      where
        by : (s : Steps Finish) → next_errand s ≡ Some (errand_of call) → Taking calls s → ⊥
        by (Asks e t c k) asked h =
            let same : e ≡ errand_of call = cc in
            let here : Once h.taken (Asks (errand_of call) t c k) = subst (λ (x : Errand). Once h.taken (Asks x t c k)) same h.once in
            let may : MayTake h.taken call.bay (Claim slot_row id how mask want) = subst (λ (w : Request). MayTake h.taken call.bay w) what here.0 in
            may (h.claimed (slot_on slot_row call.bay) (subst (λ (b : BayNo). IsIn (slot_on slot_row b) (past_of calls).claimed) (sym place) i))
        by (Draws k) asked h = absurd (cc)
        by (Ends f) asked h = absurd (cc)

    -- the claim of a slot is one call
    pub one-claim : (at : BayNo) (slot_row : RowNo) (x y : Call) → IsIn x calls → IsIn y calls → IsClaim at slot_row x → IsClaim at slot_row y → x ≡ y
    one-claim at slot_row x y i j of_x of_y = by calls taking-hand.singles i j
      where
        head : (first : Call) (cs : List Call) → MayTake (past_of cs).claimed first.bay first.ask.what → IsClaim at slot_row first → IsIn (slot_on slot_row at) (past_of cs).claimed → ⊥
        head first cs may (place, id, how, mask, want, what) k =
            let m : MayTake (past_of cs).claimed first.bay (Claim slot_row id how mask want) = subst (λ (w : Request). MayTake (past_of cs).claimed first.bay w) what may in
            m (subst (λ (b : BayNo). IsIn (slot_on slot_row b) (past_of cs).claimed) (sym place) k)

        by : (cs : List Call) → Singles cs → IsIn x cs → IsIn y cs → x ≡ y
        by [] singles i j = absurd i
        by (first ∷ cs) singles (inl a) (inl b) = sym a ∙ b
        by (first ∷ cs) singles (inl a) (inr j) = absurd (head first cs singles.0 (subst (λ (c : Call). IsClaim at slot_row c) (sym a) of_x) (claim-in at slot_row cs y j of_y))
        by (first ∷ cs) singles (inr i) (inl b) = absurd (head first cs singles.0 (subst (λ (c : Call). IsClaim at slot_row c) (sym b) of_y) (claim-in at slot_row cs x i of_x))
        by (first ∷ cs) singles (inr i) (inr j) = by cs singles.1 i j

    -- a claim among the calls is of the attempt's kind
    pub claim-kind : (call : Call) (slot_row : RowNo) (id : Number) (how : How) (mask : ℕ) (want : Bool) → IsIn call calls → call.ask.what ≡ Claim slot_row id how mask want → how ≡ kind_of h.task
    claim-kind call slot_row id how mask want i what = by calls kinds-hand i
      where
        by : (cs : List Call) → AllByRecursion (λ (c : Call). ClaimsSo script.n (kind_of h.task) c.bay c.ask.what) cs → IsIn call cs → how ≡ kind_of h.task
        by [] all i = absurd i
        by (first ∷ cs) all (inl same) =
            let here : ClaimsSo script.n (kind_of h.task) first.bay (Claim slot_row id how mask want) =
            subst (λ (w : Request). ClaimsSo script.n (kind_of h.task) first.bay w) (ap (λ (c : Call). c.ask.what) same ∙ what) all.0 in
            here.0
        by (first ∷ cs) all (inr i) = by cs all.1 i

-- a rebuild is the operator's, and a recovery is of a row
pub mend-operator : (script : Script) (host : HostNo) (task : Task) → IsTask script host task → Mend ≡ kind_of task → host.0 ≡ 0
mend-operator script host (tasks.Read object first count) aim e = absurd (cc)
mend-operator script host (tasks.Write object first from count) aim e = absurd (cc)
mend-operator script host (tasks.Recover row) aim e = absurd (cc)
mend-operator script host (tasks.Rebuild bay) aim e = aim.0
mend-operator script host (tasks.Lose bay) aim e = absurd (cc)
mend-operator script host (tasks.Fit bay) aim e = absurd (cc)

-- The parity of a row is claimed first
module _ (script : Script) (is : IsScript script) (host : HostNo) where
  pub parity-first : (at : BayNo) (slot_row : RowNo) → (at ≡ parity_bay script.n slot_row → ⊥) → (jobs : List Job) (row : ℕ) (seen : Number) (calls : List Call) (steps : Steps Finish) →
      InHand script host jobs row seen calls steps → IsIn (slot_on slot_row at) (past_of calls).claimed → IsIn (parity_slot script.n slot_row) (past_of calls).claimed
  parity-first at slot_row apart jobs row seen [] steps h i = absurd i
  parity-first at slot_row apart jobs row seen (call ∷ calls) steps h i = from h.led (λ low s hand j. parity-first at slot_row apart jobs row low calls s hand j)
    where
      from : Led host (settled host h.id (attempt script host h.id row h.task)) (call ∷ calls) (record { seen = seen; steps = steps }) →
          ((low : Number) (s : Steps Finish) → InHand script host jobs row low calls s → IsIn (slot_on slot_row at) (past_of calls).claimed → IsIn (parity_slot script.n slot_row) (past_of calls).claimed) →
          IsIn (parity_slot script.n slot_row) (past_of (call ∷ calls)).claimed
      from (before, led, asked, fit, later) rest =
          let hand : InHand script host jobs row before.seen calls before.steps =
          record { task = h.task; first = h.first; is = h.is; tried = h.tried; id = h.id; own = h.own; least = h.least; most = h.most; led = led } in
          let progress : Progress = record { jobs = jobs; asked = 0; tries = 0; row = row; gone = None; seen = before.seen; clock = 0; work = Over; calls = calls; endings = [] } in
          let f : Phased script.n h.id calls before.steps = phased script is host progress before.steps hand in
          by call.ask.what f.past (may-next script.n h.id f.past before.steps (errand_of call) f.keeps asked) f.same.claimed (rest before.seen before.steps hand) i
        where
          by : (what : Request) (past : Past) → MayAsk script.n h.id past call.bay what → past.claimed ≡ (past_of calls).claimed →
              (IsIn (slot_on slot_row at) (past_of calls).claimed → IsIn (parity_slot script.n slot_row) (past_of calls).claimed) →
              IsIn (slot_on slot_row at) (after_asking (past_of calls) call.bay what call.answer.reply).claimed →
              IsIn (parity_slot script.n slot_row) (after_asking (past_of calls) call.bay what call.answer.reply).claimed
          by (Share r id want) past may same rest i = rest i
          by (Claim r id how mask want) past may same rest (inl here) = elim may.2 [
            | inl parity ↦ absurd (apart (sym (ap (λ (s : Slot). s.bay) here) ∙ parity ∙ ap (λ (s : Slot). parity_bay script.n s.row) here))
            | inr j ↦ inr (subst (λ (xs : List Slot). IsIn (parity_slot script.n slot_row) xs) same (subst (λ (x : RowNo). IsIn (parity_slot script.n x) past.claimed) (ap (λ (s : Slot). s.row) here) j))
          ]
          by (Claim r id how mask want) past may same rest (inr i) = inr (rest i)
          by (Confirm r id want) past may same rest i = rest i
          by (Put r id n cell) past may same rest i = rest i
          by (Release r id n) past may same rest i = rest i
          by Lose past may same rest i = rest i
          by Fit past may same rest i = rest i

  -- the attempt when it was to ask one of its calls
  pub record Asking (jobs : List Job) (row : ℕ) (task : Task) (call : Call) : Type 0 where
    pub seen : Number
    pub calls : List Call
    pub steps : Steps Finish
    pub hand : InHand script host jobs row seen calls steps
    pub same_task : hand.task ≡ task
    pub asked : next_errand steps ≡ Some (errand_of call)

  asking : (jobs : List Job) (row : ℕ) (seen : Number) (calls : List Call) (steps : Steps Finish) → (h : InHand script host jobs row seen calls steps) → (call : Call) → IsIn call calls → Asking jobs row h.task call
  asking jobs row seen [] steps h call i = absurd i
  asking jobs row seen (first ∷ calls) steps h call i = from h.led i (λ low s hand j. asking jobs row low calls s hand call j)
    where
      from : Led host (settled host h.id (attempt script host h.id row h.task)) (first ∷ calls) (record { seen = seen; steps = steps }) → (first ≡ call) ⊎ IsIn call calls →
          ((low : Number) (s : Steps Finish) → (hand : InHand script host jobs row low calls s) → IsIn call calls → Asking jobs row hand.task call) → Asking jobs row h.task call
      from (before, led, asked, fit, later) i rest =
          let hand : InHand script host jobs row before.seen calls before.steps =
          record { task = h.task; first = h.first; is = h.is; tried = h.tried; id = h.id; own = h.own; least = h.least; most = h.most; led = led } in
          by i hand refl (rest before.seen before.steps)
        where
          by : (first ≡ call) ⊎ IsIn call calls → (hand : InHand script host jobs row before.seen calls before.steps) → hand.task ≡ h.task →
              ((hand : InHand script host jobs row before.seen calls before.steps) → IsIn call calls → Asking jobs row hand.task call) → Asking jobs row h.task call
          by (inl same) hand tasked rest = record {
            seen = before.seen;
            calls = calls;
            steps = before.steps;
            hand = hand;
            same_task = tasked;
            asked = subst (λ (c : Call). next_errand before.steps ≡ Some (errand_of c)) same asked;
          }
          by (inr j) hand tasked rest = subst (λ (t : Task). Asking jobs row t call) tasked (rest hand j)

  -- a recovery claims slots of its row
  module _ (once : AttemptsAskOnce) (kinds : ClaimsAreOfTheirKind) where
    pub claim-row : (jobs : List Job) (row : ℕ) (seen : Number) (calls : List Call) (steps : Steps Finish) → (h : InHand script host jobs row seen calls steps) → (of : RowNo) → h.task ≡ tasks.Recover of →
        (call : Call) (at : BayNo) (slot_row : RowNo) → IsIn call calls → IsClaim at slot_row call → slot_row ≡ of
    claim-row jobs row seen calls steps h of recovers call at slot_row i (place, id, how, mask, want, what) = from (asking jobs row seen calls steps h call i)
      where
        from : Asking jobs row h.task call → slot_row ≡ of
        from a = by a.steps a.asked f.keeps (finding-hand script is once kinds host jobs row a.seen a.calls a.steps a.hand of (a.same_task ∙ recovers))
          where
            progress : Progress
            progress = record { jobs = jobs; asked = 0; tries = 0; row = row; gone = None; seen = a.seen; clock = 0; work = Over; calls = a.calls; endings = [] }

            f : Phased script.n a.hand.id a.calls a.steps
            f = phased script is host progress a.steps a.hand

            late : IsIn of (past_of a.calls).confirmed → MayAsk script.n a.hand.id f.past call.bay (Claim slot_row id how mask want) → ⊥
            late done may = let high = confirmed-late a.calls of done in let low = f.same.phase in let first = may.1 in omega (arith, high, low, first)

            by : (s : Steps Finish) → next_errand s ≡ Some (errand_of call) → Keeps script.n a.hand.id Any f.past s → Finding of host a.calls s → slot_row ≡ of
            by s asked keeps (inl done) =
                absurd (late done (subst (λ (w : Request). MayAsk script.n a.hand.id f.past call.bay w) what (may-next script.n a.hand.id f.past s (errand_of call) keeps asked)))
            by s asked keeps (inr finds) =
                subst (λ (w : Request). MayFind of host (past_of a.calls).granted (free_of a.calls) call.bay w) what (finds-next of host (past_of a.calls).granted (free_of a.calls) s call finds asked)

-- a slot that was granted where no note stood
pub record FreeClaim (calls : List Call) (at : BayNo) (row : RowNo) : Type 0 where
  pub call : Call
  pub among : IsIn call calls
  pub claim : IsClaim at row call
  pub grant : Grant
  pub granted : grant_of call.answer.reply ≡ Some grant
  pub free : is_seized grant ≡ false

pub free-claim : (calls : List Call) (at : BayNo) (row : RowNo) → IsIn (slot_on row at) (free_of calls) → FreeClaim calls at row
free-claim [] at row i = absurd i
free-claim (call ∷ calls) at row i = by call.ask.what refl i (free-claim calls at row)
  where
    more : FreeClaim calls at row → FreeClaim (call ∷ calls) at row
    more f = record { call = f.call; among = inr f.among; claim = f.claim; grant = f.grant; granted = f.granted; free = f.free }

    granted-by : (r : RowNo) (id : Number) (how : How) (mask : ℕ) (want : Bool) → call.ask.what ≡ Claim r id how mask want → (IsIn (slot_on row at) (free_of calls) → FreeClaim calls at row) →
        (o : Option Grant) → grant_of call.answer.reply ≡ o → IsIn (slot_on row at) (freed o (slot_on r call.bay) (free_of calls)) → FreeClaim (call ∷ calls) at row
    granted-by r id how mask want what rest None e i = more (rest i)
    granted-by r id how mask want what rest (Some grant) e i = one (is_seized grant) refl i
      where
        one : (b : Bool) → is_seized grant ≡ b → IsIn (slot_on row at) (cond b (free_of calls) (slot_on r call.bay ∷ free_of calls)) → FreeClaim (call ∷ calls) at row
        one true seized i = more (rest i)
        one false free (inl same) = record {
          call = call;
          among = inl refl;
          claim = (ap (λ (s : Slot). s.bay) same, id, how, mask, want, what ∙ ap (λ (s : Slot). Claim s.row id how mask want) same);
          grant = grant;
          granted = e;
          free = free;
        }
        one false free (inr i) = more (rest i)

    by : (w : Request) → call.ask.what ≡ w → IsIn (slot_on row at) (with_free (free_of calls) call.bay w call.answer.reply) → (IsIn (slot_on row at) (free_of calls) → FreeClaim calls at row) → FreeClaim (call ∷ calls) at row
    by (Share r id want) e i rest = more (rest i)
    by (Claim r id how mask want) e i rest = granted-by r id how mask want e rest (grant_of call.answer.reply) refl i
    by (Confirm r id want) e i rest = more (rest i)
    by (Put r id n cell) e i rest = more (rest i)
    by (Release r id n) e i rest = more (rest i)
    by Lose e i rest = more (rest i)
    by Fit e i rest = more (rest i)
