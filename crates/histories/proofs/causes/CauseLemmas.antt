-- What stands behind a cause in the calls so far, and walks that keep these calls.
use Rattle.std.proofs.Common.{◌≡◌, ◌≢◌, ◌⊎◌, inl, inr, refl, sym, ap, subst, ◌∙◌, ℕ, ◌≤◌, ◌==◌, Bool, true, false, if◌then◌else◌, List, [], ◌∷◌, Option, Some, None, IfSome, Result, Ok, Err, option_map, unwrap_or, ok_or, arith}
use Rattle.std.specs.Prelude.{IsNone, is_some, nat_le}
use Rattle.std.specs.List.{AllByRecursion}
use Rattle.std.proofs.lemmas.Bool.{eq-eqb}
use Rattle.std.proofs.lemmas.Bool.Decides.{nat_tests}
use Rattle.raid_base.specs.declared.numbers.BayNo.{BayNo}
use Rattle.raid_base.specs.declared.numbers.HostNo.{HostNo}
use Rattle.raid_base.specs.declared.numbers.RowNo.{RowNo}
use Rattle.raid_base.specs.declared.numbers.Number.{Number}
use Rattle.raid_base.specs.declared.numbers.Spent.{Spent}
use Rattle.raid_base.specs.declared.cells.Cell.{Cell}
use Rattle.raid_base.specs.declared.messages.Mode.{Mode}
use Rattle.raid_base.specs.declared.messages.Mode.TheVariants.{Lock, Order}
use Rattle.raid_base.specs.declared.messages.How.{How}
use Rattle.raid_base.specs.declared.messages.How.TheVariants.{Plain, Seize, Mend}
use Rattle.raid_base.specs.declared.messages.Request.{Request}
use Rattle.raid_base.specs.declared.messages.Request.TheVariants.{Share, Claim}
use Rattle.raid_base.specs.declared.messages.Reply.{Reply}
use Rattle.raid_base.specs.declared.messages.Reply.TheVariants as replies
use Rattle.raid_base.specs.declared.messages.Errand.{Errand}
use Rattle.raid_base.specs.declared.messages.Grant.{Grant}
use Rattle.raid_base.specs.declared.messages.Call.{Call}
use Rattle.raid_base.specs.declared.jobs.Cause.{Cause}
use Rattle.raid_base.specs.declared.jobs.Cause.TheVariants as causes
use Rattle.raid_base.specs.declared.jobs.Ended.{Ended}
use Rattle.raid_base.specs.declared.jobs.Ended.TheVariants as ends
use Rattle.raid_base.specs.declared.jobs.Task.{Task}
use Rattle.raid_base.specs.declared.jobs.Task.TheVariants as tasks
use Rattle.raid_base.specs.Fits.{fits}
use Rattle.raid_base.specs.Numbers.{next_number, draw}
use Rattle.raid_base.specs.Replies.{grant_of, is_missing}
use Rattle.raid_base.specs.Steps.{Steps, Asks, Draws, Ends, bind, go_on, Walk, Through, Stopped, Phase, run, draws, errand_of}
use Rattle.stripe_layout.specs.Placement.{parity_bay}
use Rattle.attempts.specs.Taking.{Finish, Row, Taken, is_behind, behind_from, broken, refusal, with_grant, unless, taking, why, with_parity, shares, claim, claims}
use Rattle.attempts.specs.Releases.{releasing, end_as, released_steps, refused_steps}
use Rattle.script_text.specs.Script.{Script}
use Rattle.histories.specs.Progress.{Ending}
use Rattle.histories.specs.Calls.{Happened, HappenedAfter, Sometime, id_of, Answers}
use Rattle.histories.specs.Causes.{IsFloorFrom, IsReadOrWrite, IsRead, IsBehind, IsMissingAt, IsLackingAt, IsGone, IsHeldBadly, IsFound, IsGranted, IsLacking, HasOwnCause, IsChange, IsChanged, IsReleaseIn, IsPutIn, IsCauseIn}
use Rattle.histories.specs.Torn.{IsMissing}
use Rattle.histories.specs.Completeness.{missing_in}

-- a slot that was missing stays told
pub missing-kept : (calls : List Call) (call : Call) → is_some (missing_in calls) ≡ true → is_some (missing_in (call ∷ calls)) ≡ true
missing-kept calls call h = by (is_missing call.answer.reply) where
  by : (b : Bool) → is_some (if b then Some call.bay else missing_in calls) ≡ true
  by true = refl
  by false = h

pub missing-now : (calls : List Call) (call : Call) (floor : Number) → call.answer.reply ≡ replies.Missing floor → is_some (missing_in (call ∷ calls)) ≡ true
missing-now calls call floor same =
    subst (λ (r : Reply). is_some (if is_missing r then Some call.bay else missing_in calls) ≡ true) (sym same) refl

-- a parity is not held, with a cell where one is wanted, which is so only after a slot was missing
abbrev pub IsHeldBadlyAfter : ℕ → RowNo → List Call → Call → Type 0
IsHeldBadlyAfter n row earlier call = (bad : IsHeldBadly n row call) × (bad.2 ≡ true → is_some (missing_in earlier) ≡ true)

-- a change, in which a cell is wanted only so
abbrev pub IsChangeAfter : Script → Task → RowNo → List Call → Call → Type 0
IsChangeAfter script task row earlier call =
    ¬ (HasOwnCause script task earlier call)
    × ((IsHeldBadlyAfter script.n row earlier call × Happened (IsGranted script.n row) earlier) ⊎ (IsFound script.n row call × Happened (IsLacking script.n row) earlier))

abbrev pub HasChanged : Script → Task → RowNo → List Call → Type 0
HasChanged script task row [] = ⊥
HasChanged script task row (call ∷ earlier) = IsChangeAfter script task row earlier call ⊎ HasChanged script task row earlier

is-change : (script : Script) (task : Task) (row : RowNo) (earlier : List Call) (call : Call) → IsChangeAfter script task row earlier call → IsChange script task row earlier call
is-change script task row earlier call (own, inl held) = (own, inl (held.0.0, held.1))
is-change script task row earlier call (own, inr found) = (own, inr found)

has-changed : (script : Script) (task : Task) (row : RowNo) (calls : List Call) → HasChanged script task row calls → IsChanged script task row calls
has-changed script task row [] h = h
has-changed script task row (call ∷ earlier) (inl h) = inl (is-change script task row earlier call h)
has-changed script task row (call ∷ earlier) (inr h) = inr (has-changed script task row earlier h)

-- The cause stands in these calls of an attempt of this task; that the host stops is no cause of an attempt.
-- S says of a number that the host had seen it at a draw after these calls of the attempt, and that there was none above it
abbrev pub Stands : Script → HostNo → (List Call → Number → Type 0) → Task → List Call → Cause → Type 0
Stands script host S task calls (causes.Busy holder) = Happened (Answers (replies.Busy holder)) calls
Stands script host S task calls (causes.Late above) = Happened (Answers (replies.Late above)) calls
Stands script host S task calls (causes.Young note) = Happened (Answers (replies.Young note)) calls
Stands script host S task calls (causes.Behind floor) = (script.mode ≡ Order) × IsReadOrWrite task × Happened (IsFloorFrom floor) calls
Stands script host S task calls (causes.Fault bay) = Happened (λ call. (call.bay ≡ bay) × Answers replies.Fault call) calls
Stands script host S task calls (causes.Broken first second) = HappenedAfter (IsLackingAt script task second) (IsMissingAt first) calls × (first ≢ second)
Stands script host S task calls (causes.Gone bay) = IsGone script host bay task calls
Stands script host S task calls (causes.Changed row) = HasChanged script task row calls
Stands script host S task calls (causes.Released row) = (script.mode ≡ Lock) × IsRead task × Happened (IsReleaseIn row) calls
Stands script host S task calls (causes.Seized row) = Happened (IsPutIn row) calls
Stands script host S task calls (causes.Spent seen) = Sometime (λ made. S made seen) calls
Stands script host S task calls causes.Quit = ⊥

-- where nothing need be known of it
abbrev pub AnySeen : List Call → Number → Type 0
AnySeen made seen = Unit {0}

pub stands-in : (script : Script) (history : List Call) (host : HostNo) (S : List Call → Number → Type 0) (e : Ending)
    → ((seen : Number) → Sometime (λ made. S made seen) e.calls → IsCauseIn script history host e (causes.Spent seen))
    → (cause : Cause) → Stands script host S e.job.task e.calls cause → IsCauseIn script history host e cause
stands-in script history host S e spent (causes.Busy holder) s = s
stands-in script history host S e spent (causes.Late above) s = s
stands-in script history host S e spent (causes.Young note) s = s
stands-in script history host S e spent (causes.Behind floor) s = s
stands-in script history host S e spent (causes.Fault bay) s = s
stands-in script history host S e spent (causes.Broken first second) s = s
stands-in script history host S e spent (causes.Gone bay) s = s
stands-in script history host S e spent (causes.Changed row) s = has-changed script e.job.task row e.calls s
stands-in script history host S e spent (causes.Released row) s = s
stands-in script history host S e spent (causes.Seized row) s = s
stands-in script history host S e spent (causes.Spent seen) s = spent seen s
stands-in script history host S e spent causes.Quit s = absurd s

-- what happened stays true under one more call
gone-more : (script : Script) (host : HostNo) (bay : BayNo) (task : Task) (calls : List Call) (call : Call) → IsGone script host bay task calls → IsGone script host bay task (call ∷ calls)
gone-more script host bay (tasks.Rebuild target) calls call (inl h) = inl (inr h)
gone-more script host bay (tasks.Rebuild target) calls call (inr h) = inr (h.0, inr h.1)
gone-more script host bay (tasks.Recover row) calls call h = (h.0, h.1, inr h.2)
gone-more script host bay (tasks.Read object first count) calls call h = absurd h
gone-more script host bay (tasks.Write object first from count) calls call h = absurd h
gone-more script host bay (tasks.Lose at) calls call h = absurd h
gone-more script host bay (tasks.Fit at) calls call h = absurd h

-- the bay that was missing, if any, was so in these calls
abbrev WasMissing : Option BayNo → List Call → Type 0
WasMissing None calls = Unit {0}
WasMissing (Some bay) calls = Happened (IsMissingAt bay) calls

-- and no other was
abbrev pub MissingTold : Option BayNo → List Call → Type 0
MissingTold o calls = WasMissing o calls × ((bay : BayNo) → Happened (IsMissingAt bay) calls → o ≡ Some bay)

pub none-missing : MissingTold None []
none-missing = (tt, λ bay h. absurd h)

was-more : (o : Option BayNo) (calls : List Call) (call : Call) → WasMissing o calls → WasMissing o (call ∷ calls)
was-more None calls call h = tt
was-more (Some bay) calls call h = inr h

pub missing-more : (o : Option BayNo) (calls : List Call) (call : Call) → (IsMissing call → ⊥) → MissingTold o calls → MissingTold o (call ∷ calls)
missing-more o calls call there h = (was-more o calls call h.0, only) where
  only : (bay : BayNo) → Happened (IsMissingAt bay) (call ∷ calls) → o ≡ Some bay
  only bay (inl m) = absurd (there m.1)
  only bay (inr m) = h.1 bay m

-- the same bay once more
pub missing-again : (o : Option BayNo) (calls : List Call) (call : Call) → o ≡ Some call.bay → MissingTold o calls → MissingTold o (call ∷ calls)
missing-again o calls call same h = (was-more o calls call h.0, only) where
  only : (bay : BayNo) → Happened (IsMissingAt bay) (call ∷ calls) → o ≡ Some bay
  only bay (inl m) = same ∙ ap (λ (b : BayNo). Some b) m.0
  only bay (inr m) = h.1 bay m

pub grant-there : (call : Call) (grant : Grant) → grant_of call.answer.reply ≡ Some grant → IsMissing call → ⊥
grant-there call grant e miss = let none : grant_of call.answer.reply ≡ None = ap grant_of miss.1 in cc

-- that bay is this one, where no second bay is missing
pub broken-agrees : (missing : Option BayNo) (at first : BayNo) → broken missing at ≡ None → missing ≡ Some first → first ≡ at
broken-agrees None at first e is = cc
broken-agrees (Some other) at first e is =
    let same : other ≡ first = cc in
    sym same ∙ by (other.0 == at.0) refl e
  where
    by : (b : Bool) → (other.0 == at.0) ≡ b → (if b then None else Some (causes.Broken other at)) ≡ None → other ≡ at
    by true t e = let same : other.0 ≡ at.0 = grind (arith, nat_tests) in ap (λ (k : ℕ). record { 0 = k }) same
    by false t e = cc

-- and so was the claim of a row's parity
abbrev pub ParityTold : ℕ → RowNo → Option Grant → List Call → Type 0
ParityTold n row None calls = Happened (IsLacking n row) calls
ParityTold n row (Some grant) calls = Happened (IsGranted n row) calls

pub parity-more : (n : ℕ) (row : RowNo) (o : Option Grant) (calls : List Call) (call : Call) → ParityTold n row o calls → ParityTold n row o (call ∷ calls)
parity-more n row None calls call h = inr h
parity-more n row (Some grant) calls call h = inr h

pub lacking-missing : (n : ℕ) (row : RowNo) (calls : List Call) → Happened (IsLacking n row) calls → Happened (IsMissingAt (parity_bay n row)) calls
lacking-missing n row [] h = absurd h
lacking-missing n row (call ∷ calls) (inl l) = inl (l.0.0, l.1)
lacking-missing n row (call ∷ calls) (inr h) = inr (lacking-missing n row calls h)

-- the call answers this errand, by a reply that fits
pub record IsReply (errand : Errand) (call : Call) : Type 0 where
  pub asked : errand_of call ≡ errand
  pub fit : fits errand.request call.answer.reply ≡ true

module _ {errand : Errand} {call : Call} where
  pub bay-asked : IsReply errand call → call.bay ≡ errand.bay
  bay-asked is = ap (λ (e : Errand). e.bay) is.asked

  pub what-asked : IsReply errand call → call.ask.what ≡ errand.request
  what-asked is = ap (λ (e : Errand). e.request) is.asked

-- a host that stops has no other cause, and nothing is at its end
abbrev pub IsStopCause : Ended → Type 0
IsStopCause (ends.Read n) = ⊥
IsStopCause (ends.Wrote n) = ⊥
IsStopCause (ends.Part n made cause) = cause ≡ causes.Quit
IsStopCause (ends.Recovered n closed lost) = closed ≡ false
IsStopCause (ends.Refused cause) = Unit {0}
IsStopCause ends.Mended = ⊥

-- Whatever the calls that answer what is asked, by replies that fit, and whatever the host has seen where it draws, of which S
-- holds where no number is left: the end is Q of the calls, the newest first, and where the host stops before it the cause is that.
-- No draw follows another
abbrev pub Caused : {A : Type 0} → HostNo → (List Call → Number → Type 0) → (List Call → A → Type 0) → List Call → Steps A → Type 0
Caused host S Q calls (Ends a) = Q calls a
Caused host S Q calls (Draws k) =
    (seen : Number) → (draws (k (draw host seen)) ≡ false) × ((IsNone (next_number host seen) → S calls seen) → Caused host S Q calls (k (draw host seen)))
Caused host S Q calls (Asks e s c k) = IsStopCause s × ((call : Call) → IsReply e call → Caused host S Q (call ∷ calls) (k call.answer.reply))

-- Walks
module _ {A B : Type 0} (host : HostNo) (S : List Call → Number → Type 0) (Q : List Call → B → Type 0) where
  pub caused-go : (J : A → Type 0) (calls : List Call) (o : Option A) (g : A → Steps (Walk A)) (s : Steps (Walk A)) (f : Walk A → Steps B)
      → IfSome o J → ((a : A) → J a → Caused host S Q calls (bind (g a) f)) → (o ≡ None → Caused host S Q calls (bind s f)) → Caused host S Q calls (bind (go_on o g s) f)
  caused-go J calls (Some a) g s f i on off = on a i
  caused-go J calls None g s f i on off = off refl

  pub caused-walk : (P : Errand → Type 0) (I : List Call → A → Type 0) (phase : Phase A) (f : Walk A → Steps B) → ((a : A) → IsStopCause (phase.stop a))
      → ((e : Errand) (calls : List Call) (a : A) (call : Call) → P e → I calls a → IsReply e call → IfSome (phase.step a e call.answer.reply) (I (call ∷ calls)))
      → ((calls : List Call) (a : A) → I calls a → Caused host S Q calls (f (Through a)))
      → ((e : Errand) (calls : List Call) (a : A) (call : Call) → P e → I calls a → IsReply e call → phase.step a e call.answer.reply ≡ None
      → Caused host S Q (call ∷ calls) (f (Stopped a e call.answer.reply)))
      → (es : List Errand) (calls : List Call) (a : A) → AllByRecursion P es → I calls a → Caused host S Q calls (bind (run phase es a) f)
  caused-walk P I phase f stops kept on off [] calls a all i = on calls a i
  caused-walk P I phase f stops kept on off (e ∷ es) calls a all i = (
    stops a,
    λ call is. caused-go (I (call ∷ calls)) (call ∷ calls) (phase.step a e call.answer.reply) (λ b. run phase es b) (Ends (Stopped a e call.answer.reply)) f
        (kept e calls a call all.0 i is)
        (λ b ib. caused-walk P I phase f stops kept on off es (call ∷ calls) b all.1 ib)
        (off e calls a call all.0 i is),
  )

  -- of one errand
  pub caused-one : (phase : Phase A) (f : Walk A → Steps B) (e : Errand) (calls : List Call) (a : A) → IsStopCause (phase.stop a)
      → ((call : Call) → IsReply e call → IfSome (phase.step a e call.answer.reply) (λ b. Caused host S Q (call ∷ calls) (f (Through b))))
      → ((call : Call) → IsReply e call → phase.step a e call.answer.reply ≡ None → Caused host S Q (call ∷ calls) (f (Stopped a e call.answer.reply)))
      → Caused host S Q calls (bind (run phase (e ∷ []) a) f)
  caused-one phase f e calls a stop on off = (
    stop,
    λ call is. caused-go (λ b. Caused host S Q (call ∷ calls) (f (Through b))) (call ∷ calls) (phase.step a e call.answer.reply) (λ b. run phase [] b)
        (Ends (Stopped a e call.answer.reply)) f (on call is) (λ b ok. ok) (off call is),
  )

-- what is so of every value, and what is not there
pub passed : {X : Type 0} (P : X → Type 0) (o : Option X) → ((x : X) → P x) → IfSome o P
passed P None h = tt
passed P (Some x) h = h x

pub some-none : {X : Type 0} {x : X} → Some x ≡ None → ⊥
some-none e = cc

-- any errands at all
pub any-errands : (es : List Errand) → AllByRecursion (λ e. Unit {0}) es
any-errands [] = tt
any-errands (e ∷ es) = (tt, any-errands es)

pub sometime-now : (P : List Call → Type 0) (calls : List Call) → P calls → Sometime P calls
sometime-now P [] p = p
sometime-now P (call ∷ calls) p = inl p

-- what follows a walk draws nothing
pub run-quiet : {A B : Type 0} (phase : Phase A) (es : List Errand) (a : A) (f : Walk A → Steps B) → ((b : A) → draws (f (Through b)) ≡ false) → draws (bind (run phase es a) f) ≡ false
run-quiet phase [] a f on = on a
run-quiet phase (e ∷ es) a f on = refl

pub released-quiet : (es : List Errand) (ended : Ended) → draws (released_steps es ended) ≡ false
released-quiet es ended = run-quiet releasing es tt (end_as ended) (λ u. refl)

-- a number is drawn, or there is none
pub caused-draw : {B : Type 0} (host : HostNo) (S : List Call → Number → Type 0) (Q : List Call → B → Type 0) (calls : List Call) (f : Result Number Spent → Steps B)
    → ((d : Result Number Spent) → draws (f d) ≡ false) → ((n : Number) → Caused host S Q calls (f (Ok n)))
    → ((spent : Spent) → Sometime (λ made. S made spent.seen) calls → Caused host S Q calls (f (Err spent)))
    → (seen : Number) → (draws (f (draw host seen)) ≡ false) × ((IsNone (next_number host seen) → S calls seen) → Caused host S Q calls (f (draw host seen)))
caused-draw host S Q calls f quiet on off seen = (quiet (draw host seen), λ known. by known (next_number host seen) refl) where
  by : (IsNone (next_number host seen) → S calls seen) → (o : Option Number) → next_number host seen ≡ o → Caused host S Q calls (f (ok_or o (record { seen = seen })))
  by known (Some n) e = on n
  by known None e = off (record { seen = seen }) (sometime-now (λ made. S made seen) calls (known (subst IsNone (sym e) refl)))

-- Requests that take a slot
pub record IsTake (what : Request) : Type 0 where
  pub held : (cell : Option Cell) → fits what (replies.Held cell) ≡ false
  pub unnoted : (life : ℕ) → fits what (replies.NoNote life) ≡ false
  pub done : fits what replies.Done ≡ false
  pub emptied : fits what replies.Emptied ≡ false
  pub fitted : fits what replies.Fitted ≡ false

pub share-takes : (row : RowNo) (id : Number) (want : Bool) → IsTake (Share row id want)
share-takes row id want = record { held = λ cell. refl; unnoted = λ life. refl; done = refl; emptied = refl; fitted = refl }

pub claim-takes : (row : RowNo) (id : Number) (how : How) (mask : ℕ) (want : Bool) → IsTake (Claim row id how mask want)
claim-takes row id Plain mask want = record { held = λ cell. refl; unnoted = λ life. refl; done = refl; emptied = refl; fitted = refl }
claim-takes row id Seize mask want = record { held = λ cell. refl; unnoted = λ life. refl; done = refl; emptied = refl; fitted = refl }
claim-takes row id Mend mask want = record { held = λ cell. refl; unnoted = λ life. refl; done = refl; emptied = refl; fitted = refl }

-- a reply grants, or the slot is missing on no second bay
abbrev pub GrantOrGap : Option BayNo → BayNo → Reply → Option Grant → Type 0
GrantOrGap missing bay r (Some grant) = grant_of r ≡ Some grant
GrantOrGap missing bay r None = (floor : Number) × (r ≡ replies.Missing floor) × (broken missing bay ≡ None)

gap-told : (least : Option Number) (missing : Option BayNo) (bay : BayNo) (floor : Number)
    → IfSome (unless (refusal least missing bay (replies.Missing floor)) None) (GrantOrGap missing bay (replies.Missing floor))
gap-told least missing bay floor = by (is_behind least floor) where
  unbroken : (o : Option Cause) → broken missing bay ≡ o → IfSome (unless o None) (GrantOrGap missing bay (replies.Missing floor))
  unbroken None e = (floor, refl, e)
  unbroken (Some cause) e = tt

  by : (b : Bool) → IfSome (unless (if b then Some (causes.Behind floor) else broken missing bay) None) (GrantOrGap missing bay (replies.Missing floor))
  by true = tt
  by false = unbroken (broken missing bay) refl

pub take-told : (what : Request) → IsTake what → (least : Option Number) (missing : Option BayNo) (bay : BayNo) (r : Reply) → fits what r ≡ true
    → IfSome (unless (refusal least missing bay r) (grant_of r)) (GrantOrGap missing bay r)
take-told what t least missing bay (replies.Granted cell read_no write_no last life seized) fit = refl
take-told what t least missing bay (replies.Busy holder) fit = tt
take-told what t least missing bay (replies.Late above) fit = tt
take-told what t least missing bay (replies.Young note) fit = tt
take-told what t least missing bay (replies.Missing floor) fit = gap-told least missing bay floor
take-told what t least missing bay (replies.Held cell) fit = let h : fits what (replies.Held cell) ≡ false = t.held cell in cc
take-told what t least missing bay (replies.NoNote life) fit = let h : fits what (replies.NoNote life) ≡ false = t.unnoted life in cc
take-told what t least missing bay replies.Done fit = let h : fits what replies.Done ≡ false = t.done in cc
take-told what t least missing bay replies.Fault fit = tt
take-told what t least missing bay replies.Emptied fit = let h : fits what replies.Emptied ≡ false = t.emptied in cc
take-told what t least missing bay replies.Fitted fit = let h : fits what replies.Fitted ≡ false = t.fitted in cc

-- a slot that is missing and refuses nothing: its floor is below, and no second bay is missing
unrefused-gap : (least : Option Number) (missing : Option BayNo) (bay : BayNo) (floor : Number) → refusal least missing bay (replies.Missing floor) ≡ None
    → (is_behind least floor ≡ false) × (broken missing bay ≡ None)
unrefused-gap least missing bay floor none = by (is_behind least floor) refl none where
  by : (b : Bool) → is_behind least floor ≡ b → (if b then Some (causes.Behind floor) else broken missing bay) ≡ None → (is_behind least floor ≡ false) × (broken missing bay ≡ None)
  by true e none = cc
  by false e none = (e, none)

module _ (script : Script) (host : HostNo) (S : List Call → Number → Type 0) (task : Task) where
  -- a cause stands under more calls
  pub stands-more : (cause : Cause) (calls : List Call) (call : Call) → Stands script host S task calls cause → Stands script host S task (call ∷ calls) cause
  stands-more (causes.Busy holder) calls call s = inr s
  stands-more (causes.Late above) calls call s = inr s
  stands-more (causes.Young note) calls call s = inr s
  stands-more (causes.Behind floor) calls call s = (s.0, s.1, inr s.2)
  stands-more (causes.Fault bay) calls call s = inr s
  stands-more (causes.Broken first second) calls call s = (inr s.0, s.1)
  stands-more (causes.Gone bay) calls call s = gone-more script host bay task calls call s
  stands-more (causes.Changed row) calls call s = inr s
  stands-more (causes.Released row) calls call s = (s.0, s.1, inr s.2)
  stands-more (causes.Seized row) calls call s = inr s
  stands-more (causes.Spent seen) calls call s = inr s
  stands-more causes.Quit calls call s = s

  -- how an attempt ends: a refusal or a part has its cause
  abbrev pub EndStands : List Call → Ended → Type 0
  EndStands calls (ends.Read n) = Unit {0}
  EndStands calls (ends.Wrote n) = Unit {0}
  EndStands calls (ends.Part n made cause) = Stands script host S task calls cause
  EndStands calls (ends.Recovered n closed lost) = Unit {0}
  EndStands calls (ends.Refused cause) = Stands script host S task calls cause
  EndStands calls ends.Mended = Unit {0}

  abbrev pub FinishStands : List Call → Finish → Type 0
  FinishStands calls f = EndStands calls f.ended

  -- what is given back changes no cause
  pub releases-caused : (ended : Ended) → ((calls : List Call) (call : Call) → EndStands calls ended → EndStands (call ∷ calls) ended)
      → (es : List Errand) (calls : List Call) → EndStands calls ended → Caused host S FinishStands calls (released_steps es ended)
  releases-caused ended more es calls s =
      caused-walk host S FinishStands (λ e. Unit {0}) (λ cs u. EndStands cs ended) releasing (end_as ended) (λ u. tt)
      (λ e cs u call p i is. more cs call i) (λ cs u i. i) (λ e cs u call p i is off. more cs call i) es calls tt (any-errands es) s

  pub refuses : (es : List Errand) (cause : Cause) (calls : List Call) → Stands script host S task calls cause → Caused host S FinishStands calls (refused_steps es cause)
  refuses es cause calls s = releases-caused (ends.Refused cause) (λ cs call i. stands-more cause cs call i) es calls s

  -- Refusals. A floor counts for reads and writes under stamps, from the id of the request on
  pub record BehindRightly (least : Option Number) (what : Request) : Type 0 where
    pub counts : (id : Number) → least ≡ Some id → (script.mode ≡ Order) × IsReadOrWrite task × (id_of what ≡ Some id)
    pub covers : script.mode ≡ Order → IsReadOrWrite task → (id : Number) × (least ≡ Some id) × (id_of what ≡ Some id)

  pub never-behind : (IsReadOrWrite task → ⊥) → (what : Request) → BehindRightly None what
  never-behind other what = record { counts = λ id e. cc; covers = λ order plain. absurd (other plain) }

  pub behind-rightly : (mode : Mode) → script.mode ≡ mode → IsReadOrWrite task → (id : Number) (what : Request) → id_of what ≡ Some id → BehindRightly (behind_from mode id) what
  behind-rightly Order same plain id what of = record { counts = λ least e. (same, plain, of ∙ e); covers = λ order plain. (id, refl, of) }
  behind-rightly Lock same plain id what of = record { counts = λ least e. cc; covers = λ order plain. absurd (let both : Lock ≡ Order = sym same ∙ order in cc) }

  abbrev Refused : List Call → Option Cause → Type 0
  Refused calls o = IfSome o (Stands script host S task calls)

  module _ (calls : List Call) (e : Errand) (call : Call) (is : IsReply e call) where
    not-behind : (floor : Number) → call.answer.reply ≡ replies.Missing floor → (least : Option Number) → BehindRightly least e.request → is_behind least floor ≡ false
        → IsBehind script task call → ⊥
    not-behind floor same least b h (order, plain, other, told) = absurd (grind (arith, nat_tests)) where
      floors : other ≡ floor
      floors = let both : replies.Missing other ≡ replies.Missing floor = sym told.0 ∙ same in cc

      covered : (id : Number) × (least ≡ Some id) × (id_of e.request ≡ Some id)
      covered = b.covers order plain

      ids : told.1 ≡ covered.0
      ids = let both : Some told.1 ≡ Some covered.0 = sym told.2 ∙ ap id_of (what-asked is) ∙ covered.2 in cc

      below : nat_le covered.0.0 floor.0 ≡ false
      below = sym (ap (λ (o : Option Number). is_behind o floor) covered.1) ∙ h

      above : covered.0.0 ≤ floor.0
      above = subst (λ (f : Number). covered.0.0 ≤ f.0) floors (subst (λ (i : Number). i.0 ≤ other.0) ids told.3)

    broken-stands : (floor : Number) → call.answer.reply ≡ replies.Missing floor → (IsBehind script task call → ⊥) → (missing : Option BayNo) → MissingTold missing calls
        → Refused (call ∷ calls) (broken missing e.bay)
    broken-stands floor same not None m = tt
    broken-stands floor same not (Some first) m = by (first.0 == e.bay.0) refl where
      by : (b : Bool) → (first.0 == e.bay.0) ≡ b → Refused (call ∷ calls) (if b then None else Some (causes.Broken first e.bay))
      by true t = tt
      by false f = (inl (((bay-asked is, (floor, same)), not), m.0), differ) where
        differ : first ≡ e.bay → ⊥
        differ eq = let t : (first.0 == e.bay.0) ≡ true = eq-eqb first.0 e.bay.0 (ap (λ (b : BayNo). b.0) eq) in cc

    floor-stands : (floor : Number) → call.answer.reply ≡ replies.Missing floor → (least : Option Number) → BehindRightly least e.request → is_behind least floor ≡ true
        → Stands script host S task (call ∷ calls) (causes.Behind floor)
    floor-stands floor same None b h = cc
    floor-stands floor same (Some id) b h =
        let rightly = b.counts id refl in
        (rightly.0, rightly.1, inl (same, id, ap id_of (what-asked is) ∙ rightly.2, grind (arith, nat_tests)))

    -- a reply that refuses nothing has no cause of its own
    pub unrefused-plain : (least : Option Number) (missing : Option BayNo) → BehindRightly least e.request → MissingTold missing calls
        → refusal least missing e.bay call.answer.reply ≡ None → HasOwnCause script task calls call → ⊥
    unrefused-plain least missing b m none (inl fault) = let some : refusal least missing e.bay call.answer.reply ≡ Some (causes.Fault e.bay) = ap (refusal least missing e.bay) fault in cc
    unrefused-plain least missing b m none (inr (inl behind)) =
        let told = behind.3 in
        let gap = unrefused-gap least missing e.bay behind.2 (sym (ap (refusal least missing e.bay) told.0) ∙ none) in
        not-behind behind.2 told.0 least b gap.0 behind
    unrefused-plain least missing b m none (inr (inr second)) =
        let miss = second.0 in
        let gap = unrefused-gap least missing e.bay miss.0 (sym (ap (refusal least missing e.bay) miss.1) ∙ none) in
        second.2 (broken-agrees missing e.bay second.1 gap.1 (m.1 second.1 second.3) ∙ sym (bay-asked is))

    pub refusal-stands : (least : Option Number) (missing : Option BayNo) → BehindRightly least e.request → MissingTold missing calls
        → Refused (call ∷ calls) (refusal least missing e.bay call.answer.reply)
    refusal-stands least missing b m = by call.answer.reply refl where
      lacks : (floor : Number) → call.answer.reply ≡ replies.Missing floor → (t : Bool) → is_behind least floor ≡ t
          → Refused (call ∷ calls) (if t then Some (causes.Behind floor) else broken missing e.bay)
      lacks floor same true h = floor-stands floor same least b h
      lacks floor same false h = broken-stands floor same (not-behind floor same least b h) missing m

      by : (r : Reply) → call.answer.reply ≡ r → Refused (call ∷ calls) (refusal least missing e.bay r)
      by (replies.Granted cell read_no write_no last life seized) same = tt
      by (replies.Busy holder) same = inl same
      by (replies.Late above) same = inl same
      by (replies.Young note) same = inl same
      by (replies.Missing floor) same = lacks floor same (is_behind least floor) refl
      by (replies.Held cell) same = tt
      by (replies.NoNote life) same = tt
      by replies.Done same = tt
      by replies.Fault same = inl (bay-asked is, same)
      by replies.Emptied same = tt
      by replies.Fitted same = tt

  -- the cause of a reply that stops
  pub else-stands : (calls : List Call) (o : Option Cause) (other : Cause) → Refused calls o → (o ≡ None → Stands script host S task calls other) → Stands script host S task calls (unwrap_or o other)
  else-stands calls None other r s = s refl
  else-stands calls (Some cause) other r s = r

  pub stopped-refused : {X Y : Type 0} (o : Option Cause) (x : X) (g : X → Y) → option_map g (unless o x) ≡ None → o ≡ None → ⊥
  stopped-refused None x g stop e = cc
  stopped-refused (Some cause) x g stop e = cc

  -- Shares and claims
  pub record Takes (least : Option Number) (e : Errand) : Type 0 where
    pub take : IsTake e.request
    pub rightly : BehindRightly least e.request

  pub with-missing : (keep : Option Grant → Row → Row) (taken : Taken) (bay : BayNo) (calls : List Call) (call : Call) → call.bay ≡ bay
      → (o : Option Grant) → GrantOrGap taken.missing bay call.answer.reply o → MissingTold taken.missing calls → MissingTold (with_grant keep taken bay o).missing (call ∷ calls)
  with-missing keep taken bay calls call at (Some grant) g m = missing-more taken.missing calls call (grant-there call grant g) m
  with-missing keep taken bay calls call at None g m = (inl (at, (g.0, g.1)), only) where
    only : (b : BayNo) → Happened (IsMissingAt b) (call ∷ calls) → Some bay ≡ Some b
    only b (inl x) = ap (λ (c : BayNo). Some c) (sym at ∙ x.0)
    only b (inr h) = ap (λ (c : BayNo). Some c) (sym (broken-agrees taken.missing bay b g.2 (m.1 b h)))

  module _ (least : Option Number) (f : Walk Taken → Steps Finish)
      (off : (calls : List Call) (taken : Taken) (e : Errand) (r : Reply) → Stands script host S task calls (why least taken e r) → Caused host S FinishStands calls (f (Stopped taken e r))) where
    stop-stands : (keep : Option Grant → Row → Row) (calls : List Call) (taken : Taken) (e : Errand) (call : Call) → Takes least e → IsReply e call → MissingTold taken.missing calls
        → (taking least keep).step taken e call.answer.reply ≡ None → Caused host S FinishStands (call ∷ calls) (f (Stopped taken e call.answer.reply))
    stop-stands keep calls taken e call t is m stop =
        off (call ∷ calls) taken e call.answer.reply
        (else-stands (call ∷ calls) (refusal least taken.missing e.bay call.answer.reply) causes.Quit (refusal-stands calls e call is least taken.missing t.rightly m)
        (λ none. absurd (stopped-refused (refusal least taken.missing e.bay call.answer.reply) (grant_of call.answer.reply) (with_grant keep taken e.bay) stop none)))

    pub caused-takes : (keep : Option Grant → Row → Row) (K : List Call → Taken → Type 0)
        → ((calls : List Call) (taken : Taken) (call : Call) (bay : BayNo) (o : Option Grant) → GrantOrGap taken.missing bay call.answer.reply o
        → K calls taken → K (call ∷ calls) (with_grant keep taken bay o))
        → ((calls : List Call) (taken : Taken) → MissingTold taken.missing calls → K calls taken → Caused host S FinishStands calls (f (Through taken)))
        → (es : List Errand) (calls : List Call) (taken : Taken) → AllByRecursion (Takes least) es → MissingTold taken.missing calls → K calls taken
        → Caused host S FinishStands calls (bind (run (taking least keep) es taken) f)
    caused-takes keep K more on es calls taken all m k =
        caused-walk host S FinishStands (Takes least) (λ cs t. MissingTold t.missing cs × K cs t) (taking least keep) f (λ t. tt) kept
        (λ cs t i. on cs t i.0 i.1) (λ e cs t call p i is stop. stop-stands keep cs t e call p is i.0 stop) es calls taken all (m, k) where
          given : (e : Errand) (cs : List Call) (t : Taken) (call : Call) → call.bay ≡ e.bay → MissingTold t.missing cs → K cs t → (o : Option (Option Grant)) → IfSome o (GrantOrGap t.missing e.bay call.answer.reply)
              → IfSome (option_map (with_grant keep t e.bay) o) (λ t. MissingTold t.missing (call ∷ cs) × K (call ∷ cs) t)
          given e cs t call at m k None g = tt
          given e cs t call at m k (Some o) g = (with-missing keep t e.bay cs call at o g m, more cs t call e.bay o g k)

          kept : (e : Errand) (cs : List Call) (t : Taken) (call : Call) → Takes least e → MissingTold t.missing cs × K cs t → IsReply e call
              → IfSome ((taking least keep).step t e call.answer.reply) (λ t. MissingTold t.missing (call ∷ cs) × K (call ∷ cs) t)
          kept e cs t call p i is =
              given e cs t call (bay-asked is) i.0 i.1 (unless (refusal least t.missing e.bay call.answer.reply) (grant_of call.answer.reply))
              (take-told e.request p.take least t.missing e.bay call.answer.reply is.fit)

    -- the claim of a row's parity
    parity-told : (row : RowNo) (id : Number) (how : How) (mask : ℕ) (want : Bool) (calls : List Call) (call : Call) → IsReply (claim id row how mask want (parity_bay script.n row)) call
        → (missing : Option BayNo) (o : Option Grant) → GrantOrGap missing (parity_bay script.n row) call.answer.reply o → ParityTold script.n row o (call ∷ calls)
    parity-told row id how mask want calls call is missing (Some grant) g = inl ((bay-asked is, id, how, mask, want, what-asked is), grant, g)
    parity-told row id how mask want calls call is missing None g = inl ((bay-asked is, id, how, mask, want, what-asked is), (g.0, g.1))

    pub caused-parity : (row : RowNo) (id : Number) (how : How) (mask : ℕ) (want : Bool) (calls : List Call) (taken : Taken)
        → BehindRightly least (Claim row id how mask want) → MissingTold taken.missing calls
        → ((call : Call) (o : Option Grant) → MissingTold (with_grant with_parity taken (parity_bay script.n row) o).missing (call ∷ calls) → ParityTold script.n row o (call ∷ calls)
        → Caused host S FinishStands (call ∷ calls) (f (Through (with_grant with_parity taken (parity_bay script.n row) o))))
        → Caused host S FinishStands calls (bind (run (taking least with_parity) (claim id row how mask want (parity_bay script.n row) ∷ []) taken) f)
    caused-parity row id how mask want calls taken b m on =
        caused-one host S FinishStands (taking least with_parity) f e calls taken tt
        (λ call is. given call is (unless (refusal least taken.missing e.bay call.answer.reply) (grant_of call.answer.reply))
        (take-told e.request (claim-takes row id how mask want) least taken.missing e.bay call.answer.reply is.fit))
        (λ call is stop. stop-stands with_parity calls taken e call (record { take = claim-takes row id how mask want; rightly = b }) is m stop) where
          e : Errand
          e = claim id row how mask want (parity_bay script.n row)

          given : (call : Call) → IsReply e call → (o : Option (Option Grant)) → IfSome o (GrantOrGap taken.missing e.bay call.answer.reply)
              → IfSome (option_map (with_grant with_parity taken e.bay) o) (λ t. Caused host S FinishStands (call ∷ calls) (f (Through t)))
          given call is None g = tt
          given call is (Some o) g =
              on call o (with-missing with_parity taken (parity_bay script.n row) calls call (bay-asked is) o g m) (parity-told row id how mask want calls call is taken.missing o g)

  pub shares-take : (least : Option Number) (id : Number) (row : RowNo) → BehindRightly least (Share row id true) → (bays : List BayNo) → AllByRecursion (Takes least) (shares id row bays)
  shares-take least id row b [] = tt
  shares-take least id row b (bay ∷ bays) = (record { take = share-takes row id true; rightly = b }, shares-take least id row b bays)

  pub claims-take : (least : Option Number) (id : Number) (row : RowNo) (how : How) (want : Bool) → BehindRightly least (Claim row id how 0 want) → (bays : List BayNo)
      → AllByRecursion (Takes least) (claims id row how want bays)
  claims-take least id row how want b [] = tt
  claims-take least id row how want b (bay ∷ bays) = (record { take = claim-takes row id how 0 want; rightly = b }, claims-take least id row how want b bays)
