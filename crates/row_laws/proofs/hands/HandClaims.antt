-- The claims of an attempt in hand: each is made in the way of its task, and it takes no slot that its calls took.
use Rattle.std.proofs.Common.{◌≡◌, ◌⊎◌, inl, inr, refl, sym, ap, subst, ◌∙◌, ℕ, ◌≤◌, Bool, true, false, if◌then◌else◌, List, [], ◌∷◌, Option, Some, None, Result, Ok, Err}
use Rattle.std.specs.List.{AllByRecursion}
use Rattle.raid_base.specs.declared.numbers.BayNo.{BayNo}
use Rattle.raid_base.specs.declared.numbers.HostNo.{HostNo}
use Rattle.raid_base.specs.declared.numbers.RowNo.{RowNo}
use Rattle.raid_base.specs.declared.numbers.Number.{Number}
use Rattle.raid_base.specs.declared.names.Name.{Name}
use Rattle.raid_base.specs.declared.messages.Call.{Call}
use Rattle.raid_base.specs.declared.messages.Errand.{Errand}
use Rattle.raid_base.specs.declared.messages.Grant.{Grant}
use Rattle.raid_base.specs.declared.messages.How.{How}
use Rattle.raid_base.specs.declared.messages.How.TheVariants.{Plain, Mend, Seize}
use Rattle.raid_base.specs.declared.messages.Reply.{Reply}
use Rattle.raid_base.specs.declared.messages.Request.{Request}
use Rattle.raid_base.specs.declared.messages.Request.TheVariants.{Share, Claim, Confirm, Put, Release, Lose, Fit}
use Rattle.raid_base.specs.declared.jobs.Task.{Task}
use Rattle.raid_base.specs.declared.jobs.Task.TheVariants as tasks
use Rattle.raid_base.specs.declared.jobs.RowPart.{RowPart}
use Rattle.raid_base.specs.declared.jobs.PartsFault.{PartsFault}
use Rattle.raid_base.specs.Numbers.{draw, seen_drawn, sees}
use Rattle.raid_base.specs.Replies.{grant_of}
use Rattle.raid_base.specs.Steps.{Steps, Asks, Draws, Ends, Standing, settled, behind, next_errand, errand_of}
use Rattle.stripe_layout.specs.Placement.{parity_bay}
use Rattle.attempts.specs.Taking.{Access, Finish}
use Rattle.attempts.specs.Phases.{Slot, Past, IsIn, grants, after, MayAsk}
use Rattle.attempts.specs.Once.{with_taken, MayTake, Once, ClaimsSo, EachClaims}
use Rattle.attempts.specs.Recovery.{recover_steps}
use Rattle.attempts.specs.Mending.{mend_steps}
use Rattle.attempts.specs.declared.Repair.{Repair}
use Rattle.attempts.specs.declared.Rescue.{Rescue}
use Rattle.attempts.proofs.PhaseLemmas.{in-grants}
use Rattle.attempts.proofs.OnceClaims.{claims_are_of_their_kind}
use Rattle.attempts.proofs.OnceReads.{reads-once}
use Rattle.attempts.proofs.OnceWrites.{writes-once}
use Rattle.attempts.proofs.OnceRepairs.{mends-once, recoveries-once}
use Rattle.script_text.specs.Script.{Script, parts_of, blocks_of}
use Rattle.script_text.specs.Ranges.{IsScript, IsTask}
use Rattle.histories.specs.Calls.{Happened, id_of, IsShare, IsClaim, IsPut}
use Rattle.histories.specs.Progress.{Progress, access, attempt, no_steps, read_of, write_of}
use Rattle.histories.specs.History.{progress_at, IsNext, IsHistory}
use Rattle.histories.specs.Hands.{Led, InHand, past_of, Phased}
use Rattle.histories.proofs.hands.Attempting.{asked-errand}
use Rattle.histories.proofs.hands.PhasedHands.{phased, found-parts, rows-differ}
use Rattle.row_laws.specs.Hands.{HasHand, calls_at, IsRecoveryOf}
use Rattle.histories.specs.Ids.{is_id, calls_with}
use Rattle.histories.proofs.accesses.AccessHosts.{this-id}
use Rattle.histories.proofs.accesses.AccessIds.{ids_are_apart}
use Rattle.row_laws.proofs.hands.HandMoves.{may-next}

-- how the attempts of a task claim
abbrev pub kind_of : Task → How
kind_of (tasks.Rebuild bay) = Mend
kind_of (tasks.Recover row) = Seize
kind_of _ = Plain

-- a recovery alone seizes
pub recovers-seize : (row : RowNo) (task : Task) → IsRecoveryOf row task → kind_of task ≡ Seize
recovers-seize row (tasks.Recover at) r = refl
recovers-seize row (tasks.Read object first count) r = absurd r
recovers-seize row (tasks.Write object first from count) r = absurd r
recovers-seize row (tasks.Rebuild bay) r = absurd r
recovers-seize row (tasks.Lose bay) r = absurd r
recovers-seize row (tasks.Fit bay) r = absurd r

pub seize-recovers : (task : Task) → Seize ≡ kind_of task → (row : RowNo) × (task ≡ tasks.Recover row)
seize-recovers (tasks.Read object first count) e = absurd (cc)
seize-recovers (tasks.Write object first from count) e = absurd (cc)
seize-recovers (tasks.Recover row) e = (row, refl)
seize-recovers (tasks.Rebuild bay) e = absurd (cc)
seize-recovers (tasks.Lose bay) e = absurd (cc)
seize-recovers (tasks.Fit bay) e = absurd (cc)

-- the slots that calls shared or claimed, the newest first
abbrev pub taken_of : List Call → List Slot
taken_of [] = []
taken_of (call ∷ earlier) = with_taken (taken_of earlier) call.bay call.ask.what

-- a claim is made in this way
abbrev pub ClaimedSo : ℕ → How → Call → Type 0
ClaimedSo n kind call = ClaimsSo n kind call.bay call.ask.what

-- each of these calls takes no slot that an earlier one took
abbrev pub AreOnce : List Call → Type 0
AreOnce [] = Unit {0}
AreOnce (call ∷ earlier) = MayTake (taken_of earlier) call.bay call.ask.what × AreOnce earlier

-- What is so of the calls of an attempt, and of the steps that are left
pub record Claiming (n : ℕ) (kind : How) (calls : List Call) (steps : Steps Finish) : Type 0 where
  pub made : AllByRecursion (ClaimedSo n kind) calls
  pub made_once : AreOnce calls
  pub each : EachClaims n kind steps
  pub once : Once (taken_of calls) steps

-- what is asked next
pub next-claims : (n : ℕ) (kind : How) (s : Steps Finish) (e : Errand) → EachClaims n kind s → next_errand s ≡ Some e → ClaimsSo n kind e.bay e.request
next-claims n kind (Asks first t c k) e h asked = let same : first ≡ e = cc in subst (λ (x : Errand). ClaimsSo n kind x.bay x.request) same h.0
next-claims n kind (Draws k) e h asked = absurd (cc)
next-claims n kind (Ends f) e h asked = absurd (cc)

pub next-once : (taken : List Slot) (s : Steps Finish) (e : Errand) → Once taken s → next_errand s ≡ Some e → MayTake taken e.bay e.request
next-once taken (Asks first t c k) e h asked = let same : first ≡ e = cc in subst (λ (x : Errand). MayTake taken x.bay x.request) same h.0
next-once taken (Draws k) e h asked = absurd (cc)
next-once taken (Ends f) e h asked = absurd (cc)

-- Along the calls of an attempt
module _ (n : ℕ) (kind : How) (host : HostNo) where
  settled-claiming : (seen : Number) (calls : List Call) (s : Steps Finish) → Claiming n kind calls s → Claiming n kind calls (settled host seen s).steps
  settled-claiming seen calls (Asks e t c k) h = h
  settled-claiming seen calls (Draws k) h =
      let d : Result Number _ = draw host seen in
      settled-claiming (seen_drawn seen d) calls (k d) (record { made = h.made; made_once = h.made_once; each = h.each d; once = h.once d })
  settled-claiming seen calls (Ends f) h = h

  told-claiming : (seen : Number) (calls : List Call) (call : Call) (s : Steps Finish) → Claiming n kind calls s → next_errand s ≡ Some (errand_of call) →
      Claiming n kind (call ∷ calls) (settled host seen (behind s call.answer.reply)).steps
  told-claiming seen calls call (Asks e t c k) h asked =
      let is : e ≡ errand_of call = cc in
      let r : Reply = call.answer.reply in
      settled-claiming seen (call ∷ calls) (k r)
      (record {
        made = (next-claims n kind (Asks e t c k) (errand_of call) h.each asked, h.made);
        made_once = (next-once (taken_of calls) (Asks e t c k) (errand_of call) h.once asked, h.made_once);
        each = h.each.1 r;
        once = subst (λ (x : Errand). Once (with_taken (taken_of calls) x.bay x.request) (k r)) is (h.once.1 r);
      })
  told-claiming seen calls call (Draws k) h asked = absurd (cc)
  told-claiming seen calls call (Ends f) h asked = absurd (cc)

  led-claiming : (start : Standing Finish) (calls : List Call) (now : Standing Finish) → Claiming n kind [] start.steps → Led host start calls now → Claiming n kind calls now.steps
  led-claiming start [] now h led = subst (λ (x : Standing Finish). Claiming n kind [] x.steps) led h
  led-claiming start (call ∷ earlier) now h (before, led, asked, fit, later) =
      subst (λ (x : Standing Finish). Claiming n kind (call ∷ earlier) x.steps) later
      (told-claiming (sees before.seen call.answer.reply) earlier call before.steps (led-claiming start earlier before h led) asked)

-- at the begin of an attempt
module _ (script : Script) (is : IsScript script) (host : HostNo) (id : Number) where
  begin-claiming : (kind : How) (s : Steps Finish) → EachClaims script.n kind s → Once [] s → Claiming script.n kind [] (settled host id s).steps
  begin-claiming kind s each once = settled-claiming script.n kind host id [] s (record { made = tt; made_once = tt; each = each; once = once })

  reads-claiming : (object : Name) (first count : ℕ) → 1 ≤ count → (r : Result (List RowPart) PartsFault) → parts_of script object first count ≡ r →
      Claiming script.n Plain [] (settled host id (read_of script id r)).steps
  reads-claiming object first count some (Ok parts) ok =
      let a : Access = access script id parts [] in
      let sound = found-parts script is host id object first count parts some ok in
      begin-claiming Plain (read_of script id (Ok parts)) (claims_are_of_their_kind.0 a) (reads-once a is.devices_least (rows-differ parts sound.rows_apart))
  reads-claiming object first count some (Err fault) ok = begin-claiming Plain no_steps tt tt

  writes-claiming : (object : Name) (first count : ℕ) (blocks : List (List ℕ)) → 1 ≤ count → (r : Result (List RowPart) PartsFault) → parts_of script object first count ≡ r →
      Claiming script.n Plain [] (settled host id (write_of script id blocks r)).steps
  writes-claiming object first count blocks some (Ok parts) ok =
      let a : Access = access script id parts blocks in
      let sound = found-parts script is host id object first count parts some ok in
      begin-claiming Plain (write_of script id blocks (Ok parts)) (claims_are_of_their_kind.1 a) (writes-once a is.devices_least (rows-differ parts sound.rows_apart))
  writes-claiming object first count blocks some (Err fault) ok = begin-claiming Plain no_steps tt tt

  attempt-claiming : (row : ℕ) (task : Task) → IsTask script host task → Claiming script.n (kind_of task) [] (settled host id (attempt script host id row task)).steps
  attempt-claiming row (tasks.Read object first count) aim = reads-claiming object first count aim.some (parts_of script object first count) refl
  attempt-claiming row (tasks.Write object first from count) aim = writes-claiming object first count (blocks_of script from count) aim.some (parts_of script object first count) refl
  attempt-claiming row (tasks.Recover at) aim =
      let r : Rescue = record { n = script.n; host = host; id = id; row = at } in
      begin-claiming Seize (recover_steps r) (claims_are_of_their_kind.3 r) (recoveries-once r is.devices_least)
  attempt-claiming row (tasks.Rebuild bay) aim =
      let m : Repair = record { n = script.n; id = id; row = record { 0 = row }; target = bay } in
      begin-claiming Mend (mend_steps m) (claims_are_of_their_kind.2 m) (mends-once m is.devices_least)
  attempt-claiming row (tasks.Lose bay) aim = begin-claiming Plain no_steps tt tt
  attempt-claiming row (tasks.Fit bay) aim = begin-claiming Plain no_steps tt tt

-- an attempt in hand claims so
pub claiming : (script : Script) → IsScript script → (host : HostNo) (p : Progress) (steps : Steps Finish) → (h : InHand script host p.jobs p.row p.seen p.calls steps) →
    Claiming script.n (kind_of h.task) p.calls steps
claiming script is host p steps h =
    led-claiming script.n (kind_of h.task) host (settled host h.id (attempt script host h.id p.row h.task)) p.calls (record { seen = p.seen; steps = steps })
    (attempt-claiming script is host h.id p.row h.task h.is) h.led

-- Slots that calls took
pub taken-more : (slot : Slot) (taken : List Slot) (bay : BayNo) (what : Request) → IsIn slot taken → IsIn slot (with_taken taken bay what)
taken-more slot taken bay (Share row id want) h = inr h
taken-more slot taken bay (Claim row id how mask want) h = inr h
taken-more slot taken bay (Confirm row id want) h = h
taken-more slot taken bay (Put row id n cell) h = h
taken-more slot taken bay (Release row id n) h = h
taken-more slot taken bay Lose h = h
taken-more slot taken bay Fit h = h

-- a share or a claim of this slot
abbrev pub IsTake : BayNo → RowNo → Call → Type 0
IsTake at row call = IsShare at row call ⊎ IsClaim at row call

take-now : (at : BayNo) (row : RowNo) (taken : List Slot) (call : Call) → IsTake at row call → IsIn (record { bay = at; row = row }) (with_taken taken call.bay call.ask.what)
take-now at row taken call (inl (place, id, want, what)) =
    subst (λ (w : Request). IsIn (record { bay = at; row = row }) (with_taken taken call.bay w)) (sym what) (inl (ap (λ (b : BayNo). record { bay = b; row = row }) place))
take-now at row taken call (inr (place, id, how, mask, want, what)) =
    subst (λ (w : Request). IsIn (record { bay = at; row = row }) (with_taken taken call.bay w)) (sym what) (inl (ap (λ (b : BayNo). record { bay = b; row = row }) place))

pub takes-slot : (at : BayNo) (row : RowNo) (calls : List Call) → Happened (IsTake at row) calls → IsIn (record { bay = at; row = row }) (taken_of calls)
takes-slot at row [] h = absurd h
takes-slot at row (call ∷ earlier) (inl take) = take-now at row (taken_of earlier) call take
takes-slot at row (call ∷ earlier) (inr h) = taken-more (record { bay = at; row = row }) (taken_of earlier) call.bay call.ask.what (takes-slot at row earlier h)

-- a share or a claim that comes next is of none of the slots that were taken
pub next-free : (at : BayNo) (row : RowNo) (taken : List Slot) (call : Call) → MayTake taken call.bay call.ask.what → IsTake at row call → IsIn (record { bay = at; row = row }) taken → ⊥
next-free at row taken call may (inl (place, id, want, what)) =
    subst (λ (b : BayNo). IsIn (record { bay = b; row = row }) taken → ⊥) place (subst (λ (w : Request). MayTake taken call.bay w) what may)
next-free at row taken call may (inr (place, id, how, mask, want, what)) =
    subst (λ (b : BayNo). IsIn (record { bay = b; row = row }) taken → ⊥) place (subst (λ (w : Request). MayTake taken call.bay w) what may)

in-happened : (P : Call → Type 0) (c : Call) (calls : List Call) → IsIn c calls → P c → Happened P calls
in-happened P c [] in_it h = absurd in_it
in-happened P c (first ∷ rest) (inl same) h = inl (subst P (sym same) h)
in-happened P c (first ∷ rest) (inr in_it) h = inr (in-happened P c rest in_it h)

-- two calls of an attempt that take one slot are one call
pub one-take : (at : BayNo) (row : RowNo) (calls : List Call) → AreOnce calls → (c d : Call) → IsIn c calls → IsIn d calls → IsTake at row c → IsTake at row d → c ≡ d
one-take at row [] once c d in_c in_d take_c take_d = absurd in_c
one-take at row (call ∷ earlier) once c d (inl first) (inl second) take_c take_d = sym first ∙ second
one-take at row (call ∷ earlier) once c d (inl first) (inr in_d) take_c take_d =
    absurd (next-free at row (taken_of earlier) call once.0 (subst (IsTake at row) (sym first) take_c) (takes-slot at row earlier (in-happened (IsTake at row) d earlier in_d take_d)))
one-take at row (call ∷ earlier) once c d (inr in_c) (inl second) take_c take_d =
    absurd (next-free at row (taken_of earlier) call once.0 (subst (IsTake at row) (sym second) take_d) (takes-slot at row earlier (in-happened (IsTake at row) c earlier in_c take_c)))
one-take at row (call ∷ earlier) once c d (inr in_c) (inr in_d) take_c take_d = one-take at row earlier once.1 c d in_c in_d take_c take_d

-- a claim in the way of a kind has a mask only where a write claims a parity
so-claimed : (n : ℕ) (kind : How) (call : Call) → ClaimedSo n kind call → (row : RowNo) (id : Number) (how : How) (mask : ℕ) (want : Bool) → call.ask.what ≡ Claim row id how mask want →
    (how ≡ kind) × ((mask ≡ 0) ⊎ ((kind ≡ Plain) × (call.bay ≡ parity_bay n row)))
so-claimed n kind call so row id how mask want what = subst (λ (w : Request). ClaimsSo n kind call.bay w) what so

made-so : (n : ℕ) (kind : How) (calls : List Call) → AllByRecursion (ClaimedSo n kind) calls → (call : Call) → IsIn call calls → ClaimedSo n kind call
made-so n kind [] h call in_it = absurd in_it
made-so n kind (first ∷ rest) h call (inl same) = subst (ClaimedSo n kind) same h.0
made-so n kind (first ∷ rest) h call (inr in_it) = made-so n kind rest h.1 call in_it

-- An attempt in hand after a history
module _ (script : Script) (is : IsScript script) (history : List Call) (host : HostNo) (steps : Steps Finish) (h : HasHand script history host steps) where
  pub hand-claims : Claiming script.n (kind_of h.hand.task) (calls_at script history host) steps
  hand-claims = claiming script is host (progress_at script host history) steps h.hand

  -- a claim among its calls
  pub made-kind : (call : Call) → IsIn call (calls_at script history host) → (row : RowNo) (id : Number) (how : How) (mask : ℕ) (want : Bool) → call.ask.what ≡ Claim row id how mask want →
      (how ≡ kind_of h.hand.task) × ((mask ≡ 0) ⊎ ((kind_of h.hand.task ≡ Plain) × (call.bay ≡ parity_bay script.n row)))
  made-kind call in_it = so-claimed script.n (kind_of h.hand.task) call (made-so script.n (kind_of h.hand.task) (calls_at script history host) hand-claims.made call in_it)

  pub made-one : (at : BayNo) (row : RowNo) (c d : Call) → IsIn c (calls_at script history host) → IsIn d (calls_at script history host) → IsTake at row c → IsTake at row d → c ≡ d
  made-one at row c d = one-take at row (calls_at script history host) hand-claims.made_once c d

  -- a claim that comes next
  module _ (call : Call) (asked : next_errand steps ≡ Some (errand_of call)) where
    pub next-kind : (row : RowNo) (id : Number) (how : How) (mask : ℕ) (want : Bool) → call.ask.what ≡ Claim row id how mask want →
        (how ≡ kind_of h.hand.task) × ((mask ≡ 0) ⊎ ((kind_of h.hand.task ≡ Plain) × (call.bay ≡ parity_bay script.n row)))
    next-kind = so-claimed script.n (kind_of h.hand.task) call (next-claims script.n (kind_of h.hand.task) steps (errand_of call) hand-claims.each asked)

    -- its slot, as that of a share, was taken by no call
    pub next-untaken : (at : BayNo) (row : RowNo) → IsTake at row call → IsIn (record { bay = at; row = row }) (taken_of (calls_at script history host)) → ⊥
    next-untaken at row = next-free at row (taken_of (calls_at script history host)) call (next-once (taken_of (calls_at script history host)) steps (errand_of call) hand-claims.once asked)

    pub next-new : (at : BayNo) (row : RowNo) → IsTake at row call → Happened (IsTake at row) (calls_at script history host) → ⊥
    next-new at row take before = next-untaken at row take (takes-slot at row (calls_at script history host) before)

-- what was claimed was taken, and what was granted was claimed
grants-claimed : (slot other : Slot) (o : Option Grant) (granted claimed : List Slot) → (IsIn slot granted → IsIn slot claimed) → IsIn slot (grants o other granted) → IsIn slot (other ∷ claimed)
grants-claimed slot other None granted claimed before h = inr (before h)
grants-claimed slot other (Some grant) granted claimed before (inl same) = inl same
grants-claimed slot other (Some grant) granted claimed before (inr h) = inr (before h)

after-claimed : (slot : Slot) (past : Past) (taken : List Slot) (bay : BayNo) (what : Request) (reply : Reply) → (IsIn slot past.claimed → IsIn slot taken) →
    IsIn slot (after past (record { bay = bay; request = what }) reply).claimed → IsIn slot (with_taken taken bay what)
after-claimed slot past taken bay (Share row id want) reply before h = inr (before h)
after-claimed slot past taken bay (Claim row id how mask want) reply before (inl same) = inl same
after-claimed slot past taken bay (Claim row id how mask want) reply before (inr h) = inr (before h)
after-claimed slot past taken bay (Confirm row id want) reply before h = before h
after-claimed slot past taken bay (Put row id n cell) reply before h = before h
after-claimed slot past taken bay (Release row id n) reply before h = before h
after-claimed slot past taken bay Lose reply before h = before h
after-claimed slot past taken bay Fit reply before h = before h

pub claimed-taken : (slot : Slot) (calls : List Call) → IsIn slot (past_of calls).claimed → IsIn slot (taken_of calls)
claimed-taken slot [] h = h
claimed-taken slot (call ∷ earlier) h = after-claimed slot (past_of earlier) (taken_of earlier) call.bay call.ask.what call.answer.reply (claimed-taken slot earlier) h

after-granted : (slot : Slot) (past : Past) (bay : BayNo) (what : Request) (reply : Reply) → (IsIn slot past.granted → IsIn slot past.claimed) →
    IsIn slot (after past (record { bay = bay; request = what }) reply).granted → IsIn slot (after past (record { bay = bay; request = what }) reply).claimed
after-granted slot past bay (Share row id want) reply before h = before h
after-granted slot past bay (Claim row id how mask want) reply before h = grants-claimed slot (record { bay = bay; row = row }) (grant_of reply) past.granted past.claimed before h
after-granted slot past bay (Confirm row id want) reply before h = before h
after-granted slot past bay (Put row id n cell) reply before h = before h
after-granted slot past bay (Release row id n) reply before h = before h
after-granted slot past bay Lose reply before h = before h
after-granted slot past bay Fit reply before h = before h

pub granted-claimed : (slot : Slot) (calls : List Call) → IsIn slot (past_of calls).granted → IsIn slot (past_of calls).claimed
granted-claimed slot [] h = h
granted-claimed slot (call ∷ earlier) h = after-granted slot (past_of earlier) call.bay call.ask.what call.answer.reply (granted-claimed slot earlier) h

granted-more : (slot : Slot) (past : Past) (bay : BayNo) (what : Request) (reply : Reply) → IsIn slot past.granted → IsIn slot (after past (record { bay = bay; request = what }) reply).granted
granted-more slot past bay (Share row id want) reply h = h
granted-more slot past bay (Claim row id how mask want) reply h = in-grants slot (grant_of reply) (record { bay = bay; row = row }) past.granted h
granted-more slot past bay (Confirm row id want) reply h = h
granted-more slot past bay (Put row id n cell) reply h = h
granted-more slot past bay (Release row id n) reply h = h
granted-more slot past bay Lose reply h = h
granted-more slot past bay Fit reply h = h

-- An attempt in hand, call by call
module _ (script : Script) (is : IsScript script) (host : HostNo) (p : Progress) where
  -- it before its last call
  pub record Before (earlier : List Call) (call : Call) (id : Number) (task : Task) : Type 0 where
    pub seen : Number
    pub steps : Steps Finish
    pub hand : InHand script host p.jobs p.row seen earlier steps
    pub same_id : hand.id ≡ id
    pub same_task : hand.task ≡ task
    pub asked : next_errand steps ≡ Some (errand_of call)

  pub before-last : (seen : Number) (call : Call) (earlier : List Call) (steps : Steps Finish) → (h : InHand script host p.jobs p.row seen (call ∷ earlier) steps) → Before earlier call h.id h.task
  before-last seen call earlier steps h = by h.led
    where
      by : Led host (settled host h.id (attempt script host h.id p.row h.task)) (call ∷ earlier) (record { seen = seen; steps = steps }) → Before earlier call h.id h.task
      by (before, led, asked, fit, later) = record {
        seen = before.seen;
        steps = before.steps;
        hand = record { task = h.task; first = h.first; is = h.is; tried = h.tried; id = h.id; own = h.own; least = h.least; most = h.most; led = led };
        same_id = refl;
        same_task = refl;
        asked = asked;
      }

  -- a slot that its calls put was granted to them
  put-granted-in : (seen : Number) (calls : List Call) (steps : Steps Finish) → InHand script host p.jobs p.row seen calls steps → (at : BayNo) (row : RowNo) (id : Number) →
      Happened (IsPut at row id) calls → IsIn (record { bay = at; row = row }) (past_of calls).granted
  put-granted-in seen [] steps h at row id put = absurd put
  put-granted-in seen (call ∷ earlier) steps h at row id (inl (place, number, cell, what)) =
      let b : Before earlier call h.id h.task = before-last seen call earlier steps h in
      let f : Phased script.n b.hand.id earlier b.steps = phased script is host (record p { seen = b.seen; calls = earlier }) b.steps b.hand in
      let may : MayAsk script.n b.hand.id f.past call.bay call.ask.what = may-next script.n b.hand.id f.past b.steps (errand_of call) f.keeps b.asked in
      let put : MayAsk script.n b.hand.id f.past at (Put row id number cell) =
      subst (λ (y : BayNo). MayAsk script.n b.hand.id f.past y (Put row id number cell)) place (subst (λ (w : Request). MayAsk script.n b.hand.id f.past call.bay w) what may) in
      let slot : Slot = record { bay = at; row = row } in
      granted-more slot (past_of earlier) call.bay call.ask.what call.answer.reply (subst (λ (xs : List Slot). IsIn slot xs) f.same.granted put.3.granted)
  put-granted-in seen (call ∷ earlier) steps h at row id (inr put) =
      let b : Before earlier call h.id h.task = before-last seen call earlier steps h in
      granted-more (record { bay = at; row = row }) (past_of earlier) call.bay call.ask.what call.answer.reply (put-granted-in b.seen earlier b.steps b.hand at row id put)

  pub put-granted : (steps : Steps Finish) → InHand script host p.jobs p.row p.seen p.calls steps → (at : BayNo) (row : RowNo) (id : Number) →
      Happened (IsPut at row id) p.calls → IsIn (record { bay = at; row = row }) (past_of p.calls).granted
  put-granted steps h = put-granted-in p.seen p.calls steps h

-- what has happened by calls with an id
pub calls-with : (P : Call → Type 0) (id : Number) → ((c : Call) → P c → id_of c.ask.what ≡ Some id) → (history : List Call) → Happened P history → Happened P (calls_with id history)
calls-with P id named [] h = absurd h
calls-with P id named (call ∷ earlier) (inl h) = rw (this-id id (id_of call.ask.what) (named call h)) (inl h)
calls-with P id named (call ∷ earlier) (inr h) = by (is_id id (id_of call.ask.what)) (calls-with P id named earlier h)
  where
    by : (b : Bool) → Happened P (calls_with id earlier) → Happened P (if b then call ∷ calls_with id earlier else calls_with id earlier)
    by true before = inr before
    by false before = before

-- what is asked, where an errand is
abbrev request_of : Option Errand → Request
request_of None = Lose
request_of (Some errand) = errand.request

-- The attempt that asked a call of a row
module _ (script : Script) (is : IsScript script) (earlier : List Call) (call : Call) (along : IsHistory script earlier) (next : IsNext script earlier call) where
  -- calls with its id are its own
  pub asker-calls : (P : Call → Type 0) (id : Number) → ((c : Call) → P c → id_of c.ask.what ≡ Some id) → id_of call.ask.what ≡ Some id → Happened P earlier →
      Happened P (calls_at script earlier call.ask.host)
  asker-calls P id named own h =
      subst (λ (cs : List Call). Happened P cs) ((ids_are_apart script earlier is along).in_hand call.ask.host (errand_of call) id (asked-errand script earlier call next) own)
      (calls-with P id named earlier h)
