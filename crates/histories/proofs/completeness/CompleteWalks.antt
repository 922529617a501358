-- Walks whose replies do not refuse.
use Rattle.std.proofs.Common.{◌≡◌, refl, ℕ, Bool, true, false, List, [], ◌∷◌, Option, Some, None, Result, option_map}
use Rattle.std.specs.List.{AllByRecursion}
use Rattle.raid_base.specs.declared.numbers.BayNo.{BayNo}
use Rattle.raid_base.specs.declared.numbers.RowNo.{RowNo}
use Rattle.raid_base.specs.declared.numbers.Number.{Number}
use Rattle.raid_base.specs.declared.numbers.Spent.{Spent}
use Rattle.raid_base.specs.declared.cells.Cell.{Cell}
use Rattle.raid_base.specs.declared.messages.How.{How}
use Rattle.raid_base.specs.declared.messages.Request.{Request}
use Rattle.raid_base.specs.declared.messages.Request.TheVariants.{Put, Release}
use Rattle.raid_base.specs.declared.messages.Reply.{Reply}
use Rattle.raid_base.specs.declared.messages.Reply.TheVariants as replies
use Rattle.raid_base.specs.declared.messages.Errand.{Errand}
use Rattle.raid_base.specs.declared.messages.Grant.{Grant}
use Rattle.raid_base.specs.declared.jobs.Cause.TheVariants as causes
use Rattle.raid_base.specs.declared.jobs.Ended.{Ended}
use Rattle.raid_base.specs.declared.jobs.Ended.TheVariants as ends
use Rattle.raid_base.specs.declared.jobs.JobEnd.{JobEnd}
use Rattle.raid_base.specs.declared.jobs.JobEnd.TheVariants as job_ends
use Rattle.raid_base.specs.Fits.{fits, fits_confirm}
use Rattle.raid_base.specs.Replies.{grant_of}
use Rattle.raid_base.specs.Steps.{Steps, Asks, Draws, Ends, bind, go_on, Walk, Through, Stopped, Phase, run}
use Rattle.slot_rules.specs.Laws.{is_refused}
use Rattle.attempts.specs.Taking.{Finish, refusal, unless, shares, claims}
use Rattle.attempts.specs.Releases.{releases, releasing, end_as, refused_steps}
use Rattle.histories.specs.Smallness.{wants_numbers}
use Rattle.histories.proofs.causes.CauseLemmas.{IsTake, share-takes, claim-takes, any-errands}

-- Whatever the replies that fit and do not refuse, and whatever the numbers drawn: the end is Q.
abbrev pub Plainly : {A : Type 0} → (A → Type 0) → Steps A → Type 0
Plainly Q (Ends a) = Q a
Plainly Q (Draws k) = (d : Result Number Spent) → Plainly Q (k d)
Plainly Q (Asks e s c k) = (r : Reply) → fits e.request r ≡ true → is_refused r ≡ false → Plainly Q (k r)

-- there is a value, and it is such
abbrev pub Has : {X : Type 0} → (X → Type 0) → Option X → Type 0
Has J None = ⊥
Has J (Some x) = J x

pub has-map : {X Y : Type 0} (f : X → Y) (J : Y → Type 0) (o : Option X) → Has (λ x. J (f x)) o → Has J (option_map f o)
has-map f J (Some x) h = h
has-map f J None h = absurd h

-- Walks
module _ {A B : Type 0} (Q : B → Type 0) where
  pub plain-go : (J : A → Type 0) (o : Option A) (g : A → Steps (Walk A)) (s : Steps (Walk A)) (f : Walk A → Steps B) → Has J o
      → ((a : A) → J a → Plainly Q (bind (g a) f)) → Plainly Q (bind (go_on o g s) f)
  plain-go J (Some a) g s f h on = on a h
  plain-go J None g s f h on = absurd h

  pub plain-walk : (P : Errand → Type 0) (I : A → Type 0) (phase : Phase A) (f : Walk A → Steps B)
      → ((e : Errand) (a : A) (r : Reply) → P e → I a → fits e.request r ≡ true → is_refused r ≡ false → Has I (phase.step a e r))
      → ((a : A) → I a → Plainly Q (f (Through a)))
      → (es : List Errand) (a : A) → AllByRecursion P es → I a → Plainly Q (bind (run phase es a) f)
  plain-walk P I phase f kept on [] a all i = on a i
  plain-walk P I phase f kept on (e ∷ es) a all i = λ r fit good.
      plain-go I (phase.step a e r) (λ b. run phase es b) (Ends (Stopped a e r)) f (kept e a r all.0 i fit good) (λ b ib. plain-walk P I phase f kept on es b all.1 ib)

  -- of one errand
  pub plain-one : (phase : Phase A) (f : Walk A → Steps B) (e : Errand) (a : A)
      → ((r : Reply) → fits e.request r ≡ true → is_refused r ≡ false → Has (λ b. Plainly Q (f (Through b))) (phase.step a e r))
      → Plainly Q (bind (run phase (e ∷ []) a) f)
  plain-one phase f e a h = λ r fit good.
      plain-go (λ b. Plainly Q (f (Through b))) (phase.step a e r) (λ b. run phase [] b) (Ends (Stopped a e r)) f (h r fit good) (λ b ok. ok)

-- What a reply is that fits and does not refuse. A share or a claim is granted
pub granted : (what : Request) → IsTake what → (r : Reply) → fits what r ≡ true → is_refused r ≡ false → (G : Option Grant → Type 0) → ((grant : Grant) → G (Some grant)) → G (grant_of r)
granted what t (replies.Granted cell read_no write_no last life seized) fit good G some = some _
granted what t (replies.Busy holder) fit good G some = cc
granted what t (replies.Late above) fit good G some = cc
granted what t (replies.Young note) fit good G some = cc
granted what t (replies.Missing floor) fit good G some = cc
granted what t (replies.Held cell) fit good G some = let h : fits what (replies.Held cell) ≡ false = t.held cell in cc
granted what t (replies.NoNote life) fit good G some = cc
granted what t replies.Done fit good G some = let h : fits what replies.Done ≡ false = t.done in cc
granted what t replies.Fault fit good G some = cc
granted what t replies.Emptied fit good G some = let h : fits what replies.Emptied ≡ false = t.emptied in cc
granted what t replies.Fitted fit good G some = let h : fits what replies.Fitted ≡ false = t.fitted in cc

pub taken : (what : Request) → IsTake what → (least : Option Number) (missing : Option BayNo) (bay : BayNo) (r : Reply) → fits what r ≡ true → is_refused r ≡ false
    → (G : Option (Option Grant) → Type 0) → ((grant : Grant) → G (Some (Some grant))) → G (unless (refusal least missing bay r) (grant_of r))
taken what t least missing bay (replies.Granted cell read_no write_no last life seized) fit good G some = some _
taken what t least missing bay (replies.Busy holder) fit good G some = cc
taken what t least missing bay (replies.Late above) fit good G some = cc
taken what t least missing bay (replies.Young note) fit good G some = cc
taken what t least missing bay (replies.Missing floor) fit good G some = cc
taken what t least missing bay (replies.Held cell) fit good G some = let h : fits what (replies.Held cell) ≡ false = t.held cell in cc
taken what t least missing bay (replies.NoNote life) fit good G some = cc
taken what t least missing bay replies.Done fit good G some = let h : fits what replies.Done ≡ false = t.done in cc
taken what t least missing bay replies.Fault fit good G some = cc
taken what t least missing bay replies.Emptied fit good G some = let h : fits what replies.Emptied ≡ false = t.emptied in cc
taken what t least missing bay replies.Fitted fit good G some = let h : fits what replies.Fitted ≡ false = t.fitted in cc

-- a confirm is held
pub held : (want : Bool) (r : Reply) → fits_confirm want r ≡ true → is_refused r ≡ false → (G : Reply → Type 0) → ((cell : Option Cell) → G (replies.Held cell)) → G r
held want (replies.Held cell) fit good G some = some cell
held want (replies.Granted cell read_no write_no last life seized) fit good G some = cc
held want (replies.Busy holder) fit good G some = cc
held want (replies.Late above) fit good G some = cc
held want (replies.Young note) fit good G some = cc
held want (replies.Missing floor) fit good G some = cc
held want (replies.NoNote life) fit good G some = cc
held want replies.Done fit good G some = cc
held want replies.Fault fit good G some = cc
held want replies.Emptied fit good G some = cc
held want replies.Fitted fit good G some = cc

-- the errand can only be done
abbrev pub IsDoable : Errand → Type 0
IsDoable e = (r : Reply) → fits e.request r ≡ true → is_refused r ≡ false → r ≡ replies.Done

put-done : (row : RowNo) (id n : Number) (cell : Cell) (r : Reply) → fits (Put row id n cell) r ≡ true → is_refused r ≡ false → r ≡ replies.Done
put-done row id n cell replies.Done fit good = refl
put-done row id n cell (replies.NoNote life) fit good = cc
put-done row id n cell (replies.Granted c read_no write_no last life seized) fit good = cc
put-done row id n cell (replies.Busy holder) fit good = cc
put-done row id n cell (replies.Late above) fit good = cc
put-done row id n cell (replies.Young note) fit good = cc
put-done row id n cell (replies.Missing floor) fit good = cc
put-done row id n cell (replies.Held c) fit good = cc
put-done row id n cell replies.Fault fit good = cc
put-done row id n cell replies.Emptied fit good = cc
put-done row id n cell replies.Fitted fit good = cc

release-done : (row : RowNo) (id : Number) (n : Option Number) (r : Reply) → fits (Release row id n) r ≡ true → is_refused r ≡ false → r ≡ replies.Done
release-done row id n replies.Done fit good = refl
release-done row id n (replies.NoNote life) fit good = cc
release-done row id n (replies.Granted c read_no write_no last life seized) fit good = cc
release-done row id n (replies.Busy holder) fit good = cc
release-done row id n (replies.Late above) fit good = cc
release-done row id n (replies.Young note) fit good = cc
release-done row id n (replies.Missing floor) fit good = cc
release-done row id n (replies.Held c) fit good = cc
release-done row id n replies.Fault fit good = cc
release-done row id n replies.Emptied fit good = cc
release-done row id n replies.Fitted fit good = cc

pub put-doable : (row : RowNo) (id n : Number) (cell : Cell) (bay : BayNo) → IsDoable (record { bay = bay; request = Put row id n cell })
put-doable row id n cell bay = λ r fit good. put-done row id n cell r fit good

pub releases-doable : (id : Number) (row : RowNo) (n : Option Number) (bays : List BayNo) → AllByRecursion IsDoable (releases id row n bays)
releases-doable id row n [] = tt
releases-doable id row n (bay ∷ bays) = (λ r fit good. release-done row id n r fit good, releases-doable id row n bays)

-- shares and claims take a slot
abbrev pub Takes : Errand → Type 0
Takes e = IsTake e.request

pub shares-take : (id : Number) (row : RowNo) (bays : List BayNo) → AllByRecursion Takes (shares id row bays)
shares-take id row [] = tt
shares-take id row (bay ∷ bays) = (share-takes row id true, shares-take id row bays)

pub claims-take : (id : Number) (row : RowNo) (how : How) (want : Bool) (bays : List BayNo) → AllByRecursion Takes (claims id row how want bays)
claims-take id row how want [] = tt
claims-take id row how want (bay ∷ bays) = (claim-takes row id how 0 want, claims-take id row how want bays)

-- How a job ends whose last attempt ends so
abbrev pub job_end : ℕ → Ended → JobEnd
job_end tries (ends.Read n) = job_ends.Read n
job_end tries (ends.Wrote n) = job_ends.Wrote n
job_end tries (ends.Part n made cause) = job_ends.Part n made cause
job_end tries (ends.Recovered n closed lost) = job_ends.Recovered n closed lost
job_end tries (ends.Refused cause) = job_ends.Gave tries cause
job_end tries ends.Mended = job_ends.Rebuilt

-- the job is done then, unless numbers are spent
abbrev pub Does : (JobEnd → Type 0) → Finish → Type 0
Does D f = (tries : ℕ) → wants_numbers (job_end tries f.ended) ≡ false → D (job_end tries f.ended)

-- an attempt without a number gives back what it holds
pub spent-does : (D : JobEnd → Type 0) (es : List Errand) (seen : Number) → Plainly (Does D) (refused_steps es (causes.Spent seen))
spent-does D es seen =
    plain-walk (Does D) (λ e. Unit {0}) (λ u. Unit {0}) releasing (end_as (ends.Refused (causes.Spent seen))) (λ e u r p i fit good. tt)
    (λ u i tries numbers. absurd (let bad : true ≡ false = numbers in cc)) es tt (any-errands es) tt
