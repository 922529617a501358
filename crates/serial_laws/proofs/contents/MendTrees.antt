-- What a rebuild puts and commits, whatever the replies: it commits nothing, and before it puts a unit its claim of the parity
-- was granted and showed a cell.
use Rattle.std.proofs.Common.{◌≡◌, ◌⊎◌, inl, inr, refl, sym, ap, ℕ, ◌&&◌, not, Bool, true, false, if◌then◌else◌, List, [], ◌∷◌, ◌++◌, Option, Some, None, option_map, is_none, IsSome, Result, Ok, Err, arith}
use Rattle.std.proofs.lemmas.Bool.Decides.{nat_tests}
use Rattle.raid_base.specs.declared.numbers.BayNo.{BayNo}
use Rattle.raid_base.specs.declared.numbers.RowNo.{RowNo}
use Rattle.raid_base.specs.declared.numbers.Number.{Number}
use Rattle.raid_base.specs.declared.numbers.Spent.{Spent}
use Rattle.raid_base.specs.declared.cells.Cell.{Cell}
use Rattle.raid_base.specs.declared.messages.How.TheVariants.{Mend}
use Rattle.raid_base.specs.declared.messages.Call.{Call}
use Rattle.raid_base.specs.declared.messages.Errand.{Errand}
use Rattle.raid_base.specs.declared.messages.Grant.{Grant}
use Rattle.raid_base.specs.declared.messages.Request.TheVariants.{Put}
use Rattle.raid_base.specs.declared.jobs.Cause.{Cause}
use Rattle.raid_base.specs.declared.jobs.Cause.TheVariants as causes
use Rattle.raid_base.specs.declared.jobs.Ended.{Ended}
use Rattle.raid_base.specs.declared.jobs.Ended.TheVariants as ends
use Rattle.raid_base.specs.Replies.{grant_of}
use Rattle.raid_base.specs.Steps.{Steps, Asks, Draws, Ends, Commit, bind, go_on, Walk, Through, Stopped, Phase, run, errand_of}
use Rattle.stripe_layout.specs.Placement.{parity_bay, bays_of, units}
use Rattle.attempts.specs.declared.Repair.{Repair}
use Rattle.attempts.specs.declared.Hold.{Hold}
use Rattle.attempts.specs.Taking.{Finish, claim, claims, confirm}
use Rattle.attempts.specs.Releases.{releases, released_steps, refused_steps}
use Rattle.attempts.specs.Puts.{put}
use Rattle.attempts.specs.Mending.{is_at, is_bare, is_shown, with_hold, good_grant, hold_of, mending, mend_why, mend_releases, mended_cell, put_cause, mend_putting, mend_put, mend_numbered, mend_drawn, mend_confirming, mend_confirmed, mend_claimed, mend_steps}
use Rattle.histories.specs.Calls.{Happened, IsClaim}
use Rattle.row_laws.proofs.owners.RowOwnersTrees.{Asking}
use Rattle.serial_laws.proofs.contents.CommittingTrees.{Committing}

-- the claim of the row's parity was granted, and showed a cell
abbrev pub ShowedParity : ℕ → RowNo → Call → Type 0
ShowedParity n row call = IsClaim (parity_bay n row) row call × (grant : Grant) × (grant_of call.answer.reply ≡ Some grant) × IsSome grant.cell

-- before it puts another slot than the parity
abbrev pub PutsShown : Repair → List Call → Errand → Type 0
PutsShown m calls e = (row : RowNo) (id n : Number) (cell : Cell) → e.request ≡ Put row id n cell → (e.bay ≡ parity_bay m.n m.row) ⊎ Happened (ShowedParity m.n m.row) calls

-- and nothing is committed
abbrev pub PutsQuietly : Repair → List Call → Errand → List Commit → Type 0
PutsQuietly m calls e commits = (commits ≡ []) × PutsShown m calls e

-- what is so of requests and commits is so of requests
pub asking-of : {A : Type 0} (P : List Call → Errand → List Commit → Type 0) (Q : List Call → Errand → Type 0) → ((calls : List Call) (e : Errand) (commits : List Commit) → P calls e commits → Q calls e) →
    (calls : List Call) (s : Steps A) → Committing P calls s → Asking Q calls s
asking-of P Q f calls (Ends a) h = tt
asking-of P Q f calls (Draws k) h = λ d. asking-of P Q f calls (k d) (h d)
asking-of P Q f calls (Asks e t c k) h = (f calls e c h.0, λ call is fit. asking-of P Q f (call ∷ calls) (k call.answer.reply) (h.1 call is fit))

-- a walk goes on or stops
module _ {A B : Type 0} (P : List Call → Errand → List Commit → Type 0) where
  go-committing : (calls : List Call) (o : Option A) (g : A → Steps (Walk A)) (s : Steps (Walk A)) (f : Walk A → Steps B) →
      ((a : A) → o ≡ Some a → Committing P calls (bind (g a) f)) → (o ≡ None → Committing P calls (bind s f)) → Committing P calls (bind (go_on o g s) f)
  go-committing calls (Some a) g s f on off = on a refl
  go-committing calls None g s f on off = off refl

  walk-committing : (phase : Phase A) (f : Walk A → Steps B) (e : Errand) (es : List Errand) (a : A) (calls : List Call) → P calls e (phase.commits a e) →
      ((call : Call) → errand_of call ≡ e → (b : A) → phase.step a e call.answer.reply ≡ Some b → Committing P (call ∷ calls) (bind (run phase es b) f)) →
      ((call : Call) → errand_of call ≡ e → phase.step a e call.answer.reply ≡ None → Committing P (call ∷ calls) (f (Stopped a e call.answer.reply))) →
      Committing P calls (bind (run phase (e ∷ es) a) f)
  walk-committing phase f e es a calls may on off = (
    may,
    λ call is fit. go-committing (call ∷ calls) (phase.step a e call.answer.reply) (λ b. run phase es b) (Ends (Stopped a e call.answer.reply)) f (on call is) (off call is),
  )

module _ (m : Repair) where
  abbrev Mends : List Call → Steps Finish → Type 0
  Mends calls s = Committing (PutsQuietly m) calls s

  mend-released : (bays : List BayNo) (last : Ended) (calls : List Call) → Mends calls (released_steps (releases m.id m.row None bays) last)
  mend-released [] last calls = tt
  mend-released (bay ∷ bays) last calls = ((refl, λ row id n cell is. absurd (cc)), λ call is fit. mend-released bays last (call ∷ calls))

  mend-refused : (holds : List Hold) (cause : Cause) (calls : List Call) → Mends calls (refused_steps (mend_releases m holds) cause)
  mend-refused holds cause calls = mend-released _ (ends.Refused cause) calls

  -- the target is the parity, or the parity showed a cell
  abbrev IsReady : List Call → Type 0
  IsReady calls = (m.target ≡ parity_bay m.n m.row) ⊎ Happened (ShowedParity m.n m.row) calls

  ready-more : (calls : List Call) (call : Call) → IsReady calls → IsReady (call ∷ calls)
  ready-more calls call (inl same) = inl same
  ready-more calls call (inr showed) = inr (inr showed)

  mend-puts : (holds : List Hold) (calls : List Call) (walk : Walk (Unit {0})) → Mends calls (mend_put m holds walk)
  mend-puts holds calls (Through u) = mend-released _ ends.Mended calls
  mend-puts holds calls (Stopped u e r) = mend-refused holds (put_cause m.row e r) calls

  mend-numbered : (holds : List Hold) (n : Number) (calls : List Call) → IsReady calls → (shown : Bool) → Mends calls (mend_numbered m holds n shown)
  mend-numbered holds n calls ready true = mend-released _ ends.Mended calls
  mend-numbered holds n calls ready false =
      walk-committing (PutsQuietly m) mend_putting (mend_put m holds) (put m.id m.row n (mended_cell m holds) m.target) [] tt calls
      (refl, λ row id k cell is. ready)
      (λ call is u e. mend-puts holds (call ∷ calls) (Through u))
      (λ call is none. mend-puts holds (call ∷ calls) (Stopped tt (put m.id m.row n (mended_cell m holds) m.target) call.answer.reply))

  mend-draws : (holds : List Hold) (calls : List Call) → IsReady calls → (d : Result Number Spent) → Mends calls (mend_drawn m holds d)
  mend-draws holds calls ready (Err spent) = mend-refused holds (causes.Spent spent.seen) calls
  mend-draws holds calls ready (Ok n) = mend-numbered holds n calls ready (is_shown m.target holds)

  mend-confirms : (holds : List Hold) (calls : List Call) → IsReady calls → Mends calls (mend_claimed m (Through holds))
  mend-confirms holds calls ready =
      walk-committing (PutsQuietly m) mend_confirming (mend_confirmed m holds) (confirm m.id m.row false (parity_bay m.n m.row)) [] tt calls
      (refl, λ row id k cell is. absurd (cc))
      (λ call is u e. λ d. mend-draws holds (call ∷ calls) (ready-more calls call ready) d)
      (λ call is none. mend-refused holds (mend_why (confirm m.id m.row false (parity_bay m.n m.row)) call.answer.reply (causes.Changed m.row)) (call ∷ calls))

  mend-claims : (bays : List BayNo) (holds : List Hold) (calls : List Call) → IsReady calls → Mends calls (bind (run (mending m) (claims m.id m.row Mend true bays) holds) (mend_claimed m))
  mend-claims [] holds calls ready = mend-confirms holds calls ready
  mend-claims (bay ∷ bays) holds calls ready =
      walk-committing (PutsQuietly m) (mending m) (mend_claimed m) (claim m.id m.row Mend 0 true bay) (claims m.id m.row Mend true bays) holds calls
      (refl, λ row id k cell is. absurd (cc))
      (λ call is hs e. mend-claims bays hs (call ∷ calls) (ready-more calls call ready))
      (λ call is none. mend-refused (with_hold holds bay (grant_of call.answer.reply)) (mend_why (claim m.id m.row Mend 0 true bay) call.answer.reply (causes.Gone bay)) (call ∷ calls))

  -- the first claim is that of the parity
  map-some : {X Y : Type 0} (f : X → Y) (o : Option X) (y : Y) → option_map f o ≡ Some y → (x : X) × (o ≡ Some x)
  map-some f None y e = absurd (cc)
  map-some f (Some x) y e = (x, refl)

  same-bay : (x y : BayNo) → is_at x y ≡ true → x ≡ y
  same-bay x y e = let same : x.0 ≡ y.0 = grind (arith, nat_tests) in ap (λ (k : ℕ). let b : BayNo = record { 0 = k } in b) same

  bare-none : (bay : BayNo) (grant : Grant) → is_bare m bay grant ≡ false → (m.target ≡ bay) ⊎ IsSome grant.cell
  bare-none bay grant bare = by grant.cell (is_at bay m.target) refl bare
    where
      by : (c : Option Cell) (b : Bool) → is_at bay m.target ≡ b → (is_none c && not b) ≡ false → (m.target ≡ bay) ⊎ IsSome c
      by (Some cell) b same e = inr refl
      by None true same e = inl (sym (same-bay bay m.target same))
      by None false same e = absurd (cc)

  good-shown : (bay : BayNo) (o : Option Grant) (hold : Hold) → good_grant m bay o ≡ Some hold → (m.target ≡ bay) ⊎ ((grant : Grant) × (o ≡ Some grant) × IsSome grant.cell)
  good-shown bay None hold e = absurd (cc)
  good-shown bay (Some grant) hold e = by (is_bare m bay grant) refl e
    where
      shown : (m.target ≡ bay) ⊎ IsSome grant.cell → (m.target ≡ bay) ⊎ ((g : Grant) × (Some grant ≡ Some g) × IsSome g.cell)
      shown (inl same) = inl same
      shown (inr there) = inr (grant, refl, there)

      by : (b : Bool) → is_bare m bay grant ≡ b → (if b then None else Some (record { bay = bay; grant = grant })) ≡ Some hold → (m.target ≡ bay) ⊎ ((g : Grant) × (Some grant ≡ Some g) × IsSome g.cell)
      by true bare e = absurd (cc)
      by false bare e = shown (bare-none bay grant bare)

  first-ready : (call : Call) → errand_of call ≡ claim m.id m.row Mend 0 true (parity_bay m.n m.row) →
      (m.target ≡ parity_bay m.n m.row) ⊎ ((grant : Grant) × (grant_of call.answer.reply ≡ Some grant) × IsSome grant.cell) → IsReady (call ∷ [])
  first-ready call is (inl same) = inl same
  first-ready call is (inr (grant, granted, there)) =
      inr (inl ((ap (λ (e : Errand). e.bay) is, m.id, Mend, 0, true, ap (λ (e : Errand). e.request) is), grant, granted, there))

  pub mends-quietly : Committing (PutsQuietly m) [] (mend_steps m)
  mends-quietly =
      walk-committing (PutsQuietly m) (mending m) (mend_claimed m) (claim m.id m.row Mend 0 true (parity_bay m.n m.row)) (claims m.id m.row Mend true (bays_of m.n m.row (units m.n))) [] []
      (refl, λ row id k cell is. absurd (cc))
      (λ call is hs e. mend-claims (bays_of m.n m.row (units m.n)) hs (call ∷ [])
      (first-ready call is
      (let found = map-some (λ (hold : Hold). [] ++ hold ∷ []) (hold_of m (parity_bay m.n m.row) call.answer.reply) hs e in good-shown (parity_bay m.n m.row) (grant_of call.answer.reply) found.0 found.1)))
      (λ call is none. mend-refused (with_hold [] (parity_bay m.n m.row) (grant_of call.answer.reply)) (mend_why (claim m.id m.row Mend 0 true (parity_bay m.n m.row)) call.answer.reply (causes.Gone (parity_bay m.n m.row))) (call ∷ []))
