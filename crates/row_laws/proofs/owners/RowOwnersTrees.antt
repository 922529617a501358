-- What a rebuild and a recovery have done before they put, and a recovery before it gives back the parity.
use Rattle.std.proofs.Common.{◌≡◌, ◌⊎◌, inl, inr, refl, sym, ap, subst, ◌∙◌, ℕ, ◌==◌, Bool, true, false, if◌then◌else◌, List, [], ◌∷◌, ◌++◌, zip, Option, Some, None, option_map, is_some, IsSome, Result, Ok, Err}
use Rattle.std.specs.List.{AllByRecursion}
use Rattle.raid_base.specs.declared.numbers.BayNo.{BayNo}
use Rattle.raid_base.specs.declared.numbers.HostNo.{HostNo}
use Rattle.raid_base.specs.declared.numbers.RowNo.{RowNo}
use Rattle.raid_base.specs.declared.numbers.Number.{Number}
use Rattle.raid_base.specs.declared.numbers.Spent.{Spent}
use Rattle.raid_base.specs.declared.messages.How.TheVariants.{Seize, Mend}
use Rattle.raid_base.specs.declared.messages.Call.{Call}
use Rattle.raid_base.specs.declared.messages.Errand.{Errand}
use Rattle.raid_base.specs.declared.messages.Grant.{Grant}
use Rattle.raid_base.specs.declared.messages.Request.{Request}
use Rattle.raid_base.specs.declared.messages.Request.TheVariants.{Claim, Confirm, Put, Release}
use Rattle.raid_base.specs.declared.messages.Reply.{Reply}
use Rattle.raid_base.specs.declared.messages.Reply.TheVariants.{Granted, Busy, Late, Young, Missing, Held, NoNote, Done, Fault, Emptied, Fitted}
use Rattle.raid_base.specs.declared.jobs.Cause.{Cause}
use Rattle.raid_base.specs.declared.jobs.Cause.TheVariants as causes
use Rattle.raid_base.specs.declared.jobs.Ended.{Ended}
use Rattle.raid_base.specs.declared.jobs.Ended.TheVariants as ends
use Rattle.raid_base.specs.declared.messages.Note.{Note}
use Rattle.raid_base.specs.Fits.{fits, fits_claim}
use Rattle.raid_base.specs.Numbers.{draw, seen_drawn, sees}
use Rattle.raid_base.specs.Replies.{grant_of}
use Rattle.raid_base.specs.Steps.{Steps, Asks, Draws, Ends, Standing, Commit, bind, go_on, Walk, Through, Stopped, Phase, run, settled, behind, next_errand, errand_of}
use Rattle.stripe_layout.specs.Placement.{parity_bay, bay_of, bays_of, units, parity_first}
use Rattle.attempts.specs.declared.Repair.{Repair}
use Rattle.attempts.specs.declared.Rescue.{Rescue}
use Rattle.attempts.specs.declared.Hold.{Hold}
use Rattle.attempts.specs.Taking.{Finish, refused_by_quit, Row, Taken, begun, no_rows, with_grant, with_parity, with_wanted, refusal, unless, taking, why, claim, claims, confirm}
use Rattle.attempts.specs.Releases.{release, releases, released_steps, refused_steps, parity_granted, end_as}
use Rattle.attempts.specs.Puts.{put}
use Rattle.attempts.specs.Mending.{is_shown, with_hold, good_grant, hold_of, mending, mend_why, mend_releases, mended_cell, put_cause, mend_putting, mend_put, mend_numbered, mend_drawn, mend_confirming, mend_confirmed, mend_claimed, mend_steps}
use Rattle.attempts.specs.Recovery.{whole_part, is_seized, unseized, unseized_data, unseized_parity, granted_data, give_back, recover_refused, Verdict, Leaves, Sums, verdict, recovered_parity, recover_putting, recover_put, recover_by, recover_drawn, recover_confirming, recover_confirmed, units_seized, seize_units, parity_taken, parity_seized, recover_steps}
use Rattle.attempts.specs.Phases.{IsIn}
use Rattle.attempts.proofs.PhaseLemmas.{Aside, units-aside}
use Rattle.attempts.proofs.RoomLemmas.{all-append}
use Rattle.histories.specs.Calls.{Happened, IsClaim}
use Rattle.histories.specs.Hands.{Led}
use Rattle.row_laws.specs.Hands.{IsAnswered}

-- Whatever the calls: each errand is P of the calls before it, the newest first
abbrev pub Asking : {A : Type 0} → (List Call → Errand → Type 0) → List Call → Steps A → Type 0
Asking P calls (Ends f) = Unit {0}
Asking P calls (Draws k) = (d : Result Number Spent) → Asking P calls (k d)
Asking P calls (Asks e s c k) = P calls e × ((call : Call) → errand_of call ≡ e → fits call.ask.what call.answer.reply ≡ true → Asking P (call ∷ calls) (k call.answer.reply))

module _ (P : List Call → Errand → Type 0) where
  pub next-asking : (calls : List Call) (s : Steps Finish) (e : Errand) → Asking P calls s → next_errand s ≡ Some e → P calls e
  next-asking calls (Asks first t c k) e h asked = let same : first ≡ e = cc in subst (λ (x : Errand). P calls x) same h.0
  next-asking calls (Draws k) e h asked = absurd (cc)
  next-asking calls (Ends f) e h asked = absurd (cc)

  pub settled-asking : (host : HostNo) (seen : Number) (calls : List Call) (s : Steps Finish) → Asking P calls s → Asking P calls (settled host seen s).steps
  settled-asking host seen calls (Asks e t c k) h = h
  settled-asking host seen calls (Draws k) h = settled-asking host (seen_drawn seen (draw host seen)) calls (k (draw host seen)) (h (draw host seen))
  settled-asking host seen calls (Ends f) h = h

  told-asking : (host : HostNo) (seen : Number) (calls : List Call) (call : Call) (s : Steps Finish) → Asking P calls s → next_errand s ≡ Some (errand_of call) →
      fits call.ask.what call.answer.reply ≡ true → Asking P (call ∷ calls) (settled host seen (behind s call.answer.reply)).steps
  told-asking host seen calls call (Asks e t c k) h asked fit =
      let is : errand_of call ≡ e = cc in
      settled-asking host seen (call ∷ calls) (k call.answer.reply) (h.1 call is fit)
  told-asking host seen calls call (Draws k) h asked fit = absurd (cc)
  told-asking host seen calls call (Ends f) h asked fit = absurd (cc)

  -- so it is where its calls have led
  pub led-asking : (host : HostNo) (start : Standing Finish) (calls : List Call) (now : Standing Finish) → Asking P [] start.steps → Led host start calls now → Asking P calls now.steps
  led-asking host start [] now h led = subst (λ (x : Standing Finish). Asking P [] x.steps) led h
  led-asking host start (call ∷ earlier) now h (before, led, asked, fit, later) =
      subst (λ (x : Standing Finish). Asking P (call ∷ earlier) x.steps) later
      (told-asking host (sees before.seen call.answer.reply) earlier call before.steps (led-asking host start earlier before h led) asked fit)

-- a walk goes on or stops
go-asking : {A B : Type 0} (P : List Call → Errand → Type 0) (calls : List Call) (o : Option A) (g : A → Steps (Walk A)) (s : Steps (Walk A)) (f : Walk A → Steps B) →
    ((a : A) → o ≡ Some a → Asking P calls (bind (g a) f)) → (o ≡ None → Asking P calls (bind s f)) → Asking P calls (bind (go_on o g s) f)
go-asking P calls (Some a) g s f on off = on a refl
go-asking P calls None g s f on off = off refl

-- and so does one over these errands
pub walk-asking : {A B : Type 0} (P : List Call → Errand → Type 0) (phase : Phase A) (f : Walk A → Steps B) (e : Errand) (es : List Errand) (a : A) (calls : List Call) → P calls e →
    ((call : Call) → errand_of call ≡ e → fits call.ask.what call.answer.reply ≡ true → (b : A) → phase.step a e call.answer.reply ≡ Some b → Asking P (call ∷ calls) (bind (run phase es b) f)) →
    ((call : Call) → errand_of call ≡ e → fits call.ask.what call.answer.reply ≡ true → phase.step a e call.answer.reply ≡ None → Asking P (call ∷ calls) (f (Stopped a e call.answer.reply))) →
    Asking P calls (bind (run phase (e ∷ es) a) f)
walk-asking P phase f e es a calls may on off = (
  may,
  λ call is fit. go-asking P (call ∷ calls) (phase.step a e call.answer.reply) (λ b. run phase es b) (Ends (Stopped a e call.answer.reply)) f (on call is fit) (off call is fit),
)

-- the same request, and bay
pub what-is : (call : Call) (e : Errand) → errand_of call ≡ e → call.ask.what ≡ e.request
what-is call e is = ap (λ (x : Errand). x.request) is

pub bay-is : (call : Call) (e : Errand) → errand_of call ≡ e → call.bay ≡ e.bay
bay-is call e is = ap (λ (x : Errand). x.bay) is

-- Rebuilds. A request that takes
abbrev pub IsTaking : Request → Type 0
IsTaking (Claim row id how mask want) = Unit {0}
IsTaking (Confirm row id want) = Unit {0}
IsTaking _ = ⊥

abbrev pub IsGranted : BayNo → RowNo → Call → Type 0
IsGranted bay row call = IsClaim bay row call × IsSome (grant_of call.answer.reply)

abbrev pub AreGranted : ℕ → RowNo → List BayNo → List Call → Type 0
AreGranted n row left calls = (bay : BayNo) → IsIn bay (parity_first n row) → IsIn bay left ⊎ Happened (IsGranted bay row) calls

-- It has claimed: every slot of the row was granted to it but those that are left
pub record HasClaimed (n : ℕ) (row : RowNo) (left : List BayNo) (calls : List Call) : Type 0 where
  pub only : AllByRecursion (λ (call : Call). IsTaking call.ask.what) calls
  pub got : AreGranted n row left calls

-- before it puts
abbrev pub MendAsks : Repair → List Call → Errand → Type 0
MendAsks m calls e = (row : RowNo) (id n : Number) (cell : _) → e.request ≡ Put row id n cell → (row ≡ m.row) × HasClaimed m.n m.row [] calls

module _ (m : Repair) where
  mend-released : (bays : List BayNo) (last : Ended) (calls : List Call) → Asking (MendAsks m) calls (released_steps (releases m.id m.row None bays) last)
  mend-released [] last calls = tt
  mend-released (bay ∷ bays) last calls = (λ row id n cell is. absurd (cc), λ call is fit. mend-released bays last (call ∷ calls))

  mend-refused : (holds : List Hold) (cause : Cause) (calls : List Call) → Asking (MendAsks m) calls (refused_steps (mend_releases m holds) cause)
  mend-refused holds cause calls = mend-released _ (ends.Refused cause) calls

  mend-puts : (holds : List Hold) (calls : List Call) (walk : Walk (Unit {0})) → Asking (MendAsks m) calls (mend_put m holds walk)
  mend-puts holds calls (Through u) = mend-released _ ends.Mended calls
  mend-puts holds calls (Stopped u e r) = mend-refused holds (put_cause m.row e r) calls

  mend-numbered : (holds : List Hold) (n : Number) (calls : List Call) → HasClaimed m.n m.row [] calls → (shown : Bool) → Asking (MendAsks m) calls (mend_numbered m holds n shown)
  mend-numbered holds n calls c true = mend-released _ ends.Mended calls
  mend-numbered holds n calls c false =
      walk-asking (MendAsks m) mend_putting (mend_put m holds) (put m.id m.row n (mended_cell m holds) m.target) [] tt calls
      (λ row id k cell is. (let same : Put m.row m.id n (mended_cell m holds) ≡ Put row id k cell = is in let one : m.row ≡ row = cc in sym one, c))
      (λ call is fit u e. mend-puts holds (call ∷ calls) (Through u))
      (λ call is fit none. mend-puts holds (call ∷ calls) (Stopped tt (put m.id m.row n (mended_cell m holds) m.target) call.answer.reply))

  mend-draws : (holds : List Hold) (calls : List Call) → HasClaimed m.n m.row [] calls → (d : Result Number Spent) → Asking (MendAsks m) calls (mend_drawn m holds d)
  mend-draws holds calls c (Err spent) = mend-refused holds (causes.Spent spent.seen) calls
  mend-draws holds calls c (Ok n) = mend-numbered holds n calls c (is_shown m.target holds)

  -- one call more that takes
  more : (left : List BayNo) (calls : List Call) (call : Call) → HasClaimed m.n m.row left calls → IsTaking call.ask.what → HasClaimed m.n m.row left (call ∷ calls)
  more left calls call c is = record { only = (is, c.only); got = λ bay i. by (c.got bay i) }
    where
      by : {bay : BayNo} → IsIn bay left ⊎ Happened (IsGranted bay m.row) calls → IsIn bay left ⊎ Happened (IsGranted bay m.row) (call ∷ calls)
      by (inl i) = inl i
      by (inr h) = inr (inr h)

  mend-confirms : (holds : List Hold) (calls : List Call) → HasClaimed m.n m.row [] calls → Asking (MendAsks m) calls (mend_claimed m (Through holds))
  mend-confirms holds calls c =
      walk-asking (MendAsks m) mend_confirming (mend_confirmed m holds) (confirm m.id m.row false (parity_bay m.n m.row)) [] tt calls
      (λ row id k cell is. absurd (cc))
      (λ call is fit u e. λ d. mend-draws holds (call ∷ calls) (more [] calls call c (subst IsTaking (sym (what-is call (confirm m.id m.row false (parity_bay m.n m.row)) is)) tt)) d)
      (λ call is fit none. mend-refused holds (mend_why (confirm m.id m.row false (parity_bay m.n m.row)) call.answer.reply (causes.Changed m.row)) (call ∷ calls))

  good-some : (bay : BayNo) (g : Option Grant) (hold : Hold) → good_grant m bay g ≡ Some hold → IsSome g
  good-some bay None hold e = absurd (cc)
  good-some bay (Some grant) hold e = refl

  map-some : {X Y : Type 0} (f : X → Y) (o : Option X) (y : Y) → option_map f o ≡ Some y → (x : X) × (o ≡ Some x)
  map-some f None y e = absurd (cc)
  map-some f (Some x) y e = (x, refl)

  claimed-more : (bay : BayNo) (bays : List BayNo) (calls : List Call) (call : Call) → HasClaimed m.n m.row (bay ∷ bays) calls → errand_of call ≡ claim m.id m.row Mend 0 true bay →
      IsSome (grant_of call.answer.reply) → HasClaimed m.n m.row bays (call ∷ calls)
  claimed-more bay bays calls call c is grant =
      let what : call.ask.what ≡ Claim m.row m.id Mend 0 true = what-is call (claim m.id m.row Mend 0 true bay) is in
      record { only = (subst IsTaking (sym what) tt, c.only); got = λ other i. by what other (c.got other i) }
    where
      by : call.ask.what ≡ Claim m.row m.id Mend 0 true → (other : BayNo) → IsIn other (bay ∷ bays) ⊎ Happened (IsGranted other m.row) calls → IsIn other bays ⊎ Happened (IsGranted other m.row) (call ∷ calls)
      by what other (inl (inl same)) = inr (inl ((bay-is call (claim m.id m.row Mend 0 true bay) is ∙ same, m.id, Mend, 0, true, what), grant))
      by what other (inl (inr i)) = inl i
      by what other (inr h) = inr (inr h)

  mend-claims : (bays : List BayNo) (holds : List Hold) (calls : List Call) → HasClaimed m.n m.row bays calls →
      Asking (MendAsks m) calls (bind (run (mending m) (claims m.id m.row Mend true bays) holds) (mend_claimed m))
  mend-claims [] holds calls c = mend-confirms holds calls c
  mend-claims (bay ∷ bays) holds calls c =
      walk-asking (MendAsks m) (mending m) (mend_claimed m) (claim m.id m.row Mend 0 true bay) (claims m.id m.row Mend true bays) holds calls
      (λ row id k cell is. absurd (cc))
      (λ call is fit hs e. mend-claims bays hs (call ∷ calls)
      (claimed-more bay bays calls call c is
      (let found = map-some (λ (hold : Hold). holds ++ hold ∷ []) (hold_of m bay call.answer.reply) hs e in good-some bay (grant_of call.answer.reply) found.0 found.1)))
      (λ call is fit none. mend-refused (with_hold holds bay (grant_of call.answer.reply)) (mend_why (claim m.id m.row Mend 0 true bay) call.answer.reply (causes.Gone bay)) (call ∷ calls))

  pub rebuilds-ask : Asking (MendAsks m) [] (mend_steps m)
  rebuilds-ask = mend-claims (parity_first m.n m.row) [] [] (record { only = tt; got = λ bay i. inl i })

-- Recoveries. Its claims of the units were answered, but of those that are left
abbrev pub AreAnswered : ℕ → RowNo → List ℕ → List Call → Type 0
AreAnswered n row left calls = (bay : BayNo) → IsIn bay (bays_of n row (units n)) → IsIn bay (bays_of n row left) ⊎ Happened (IsAnswered bay row) calls

-- what the claims of the parity were granted
abbrev pub ShowsParity : ℕ → RowNo → Option Grant → List Call → Type 0
ShowsParity n row o calls = (call : Call) → IsIn call calls → IsClaim (parity_bay n row) row call → (grant : Grant) → grant_of call.answer.reply ≡ Some grant → o ≡ Some grant

-- no claim of the parity seized a note
abbrev pub HasSeizedNone : ℕ → RowNo → List Call → Type 0
HasSeizedNone n row calls = (call : Call) → IsIn call calls → IsClaim (parity_bay n row) row call → (grant : Grant) → grant_of call.answer.reply ≡ Some grant → grant.seized ≡ None

-- it was answered everywhere, or has seized no note of the parity
abbrev pub MayFree : ℕ → RowNo → List Call → Type 0
MayFree n row calls = AreAnswered n row [] calls ⊎ HasSeizedNone n row calls

-- before it puts the parity it was answered everywhere; and so it was before it gives the parity back, if it has seized its note
pub record RecoverAsks (r : Rescue) (calls : List Call) (e : Errand) : Type 0 where
  pub puts : (row : RowNo) (id n : Number) (cell : _) → e.request ≡ Put row id n cell → (row ≡ r.row) × AreAnswered r.n r.row [] calls
  pub frees : (row : RowNo) (id : Number) (n : Option Number) → e.request ≡ Release row id n → (row ≡ r.row) × (e.bay ≡ parity_bay r.n r.row → MayFree r.n r.row calls)

-- a claim that doesn't refuse was granted, or its slot is missing
pub answers : (missing : Option BayNo) (bay : BayNo) (reply : Reply) → fits_claim Seize true reply ≡ true → refusal None missing bay reply ≡ None → IsSome (grant_of reply) ⊎ ((floor : Number) × (reply ≡ Missing floor))
answers missing bay (Granted cell read_no write_no last life seized) fit e = inl refl
answers missing bay (Missing floor) fit e = inr (floor, refl)
answers missing bay (Busy holder) fit e = absurd (cc)
answers missing bay (Late above) fit e = absurd (cc)
answers missing bay (Young note) fit e = absurd (cc)
answers missing bay (Held cell) fit e = absurd (cc)
answers missing bay (NoNote life) fit e = absurd (cc)
answers missing bay Done fit e = absurd (cc)
answers missing bay Fault fit e = absurd (cc)
answers missing bay Emptied fit e = absurd (cc)
answers missing bay Fitted fit e = absurd (cc)

-- and one that refuses wasn't granted
pub refuses-grant : (missing : Option BayNo) (bay : BayNo) (reply : Reply) (keep : Option Grant → Taken) (grant : Grant) → option_map keep (unless (refusal None missing bay reply) (grant_of reply)) ≡ None →
    grant_of reply ≡ Some grant → ⊥
refuses-grant missing bay (Granted cell read_no write_no last life seized) keep grant e is = absurd (cc)
refuses-grant missing bay (Missing floor) keep grant e is = absurd (cc)
refuses-grant missing bay (Busy holder) keep grant e is = absurd (cc)
refuses-grant missing bay (Late above) keep grant e is = absurd (cc)
refuses-grant missing bay (Young note) keep grant e is = absurd (cc)
refuses-grant missing bay (Held cell) keep grant e is = absurd (cc)
refuses-grant missing bay (NoNote life) keep grant e is = absurd (cc)
refuses-grant missing bay Done keep grant e is = absurd (cc)
refuses-grant missing bay Fault keep grant e is = absurd (cc)
refuses-grant missing bay Emptied keep grant e is = absurd (cc)
refuses-grant missing bay Fitted keep grant e is = absurd (cc)

pub not-seized : (grant : Grant) → is_seized grant ≡ false → grant.seized ≡ None
not-seized grant e = by grant.seized e
  where
    by : (o : Option Note) → is_some o ≡ false → o ≡ None
    by None e = refl
    by (Some note) e = absurd (cc)

module _ (r : Rescue) where
  abbrev parity : BayNo
  parity = parity_bay r.n r.row

  abbrev Recovers : List Call → Steps Finish → Type 0
  Recovers calls s = Asking (RecoverAsks r) calls s

  asks-claim : (calls : List Call) (bay : BayNo) → RecoverAsks r calls (claim r.id r.row Seize 0 true bay)
  asks-claim calls bay = record { puts = λ row id n cell is. absurd (cc); frees = λ row id n is. absurd (cc) }

  asks-confirm : (calls : List Call) (bay : BayNo) → RecoverAsks r calls (confirm r.id r.row false bay)
  asks-confirm calls bay = record { puts = λ row id n cell is. absurd (cc); frees = λ row id n is. absurd (cc) }

  -- one call more
  answered-more : (left : List ℕ) (calls : List Call) (call : Call) → AreAnswered r.n r.row left calls → AreAnswered r.n r.row left (call ∷ calls)
  answered-more left calls call h bay i = by (h bay i)
    where
      by : IsIn bay (bays_of r.n r.row left) ⊎ Happened (IsAnswered bay r.row) calls → IsIn bay (bays_of r.n r.row left) ⊎ Happened (IsAnswered bay r.row) (call ∷ calls)
      by (inl i) = inl i
      by (inr h) = inr (inr h)

  shows-more : (o : Option Grant) (calls : List Call) (call : Call) → (IsClaim parity r.row call → (grant : Grant) → grant_of call.answer.reply ≡ Some grant → o ≡ Some grant) → ShowsParity r.n r.row o calls →
      ShowsParity r.n r.row o (call ∷ calls)
  shows-more o calls call first h c (inl same) of grant e =
      first (subst (IsClaim parity r.row) (sym same) of) grant (subst (λ (x : Call). grant_of x.answer.reply ≡ Some grant) (sym same) e)
  shows-more o calls call first h c (inr i) of grant e = h c i of grant e

  free-more : (calls : List Call) (call : Call) (id : Number) (n : Option Number) → call.ask.what ≡ Release r.row id n → MayFree r.n r.row calls → MayFree r.n r.row (call ∷ calls)
  free-more calls call id n is (inl h) = inl (answered-more [] calls call h)
  free-more calls call id n is (inr h) = inr (λ c i of grant e. by c i of grant e)
    where
      by : HasSeizedNone r.n r.row (call ∷ calls)
      by c (inl same) of grant e =
          let released : c.ask.what ≡ Release r.row id n = subst (λ (x : Call). x.ask.what ≡ Release r.row id n) same is in
          let both : Release r.row id n ≡ Claim r.row of.1 of.2 of.3 of.4 = sym released ∙ of.5 in
          absurd (cc)
      by c (inr i) of grant e = h c i of grant e

  -- it gives back
  abbrev Gives : List BayNo → List Call → Type 0
  Gives bays calls = MayFree r.n r.row calls ⊎ AllByRecursion (λ (bay : BayNo). bay ≡ parity → ⊥) bays

  freeing : (stop : Unit {0} → Ended) (commits : Unit {0} → Errand → List Commit) (last : Ended) (bays : List BayNo) (calls : List Call) → Gives bays calls →
      Recovers calls (bind (run (record { step = λ u errand reply. Some u; stop = stop; commits = commits }) (give_back r bays) tt) (end_as last))
  freeing stop commits last [] calls h = tt
  freeing stop commits last (bay ∷ bays) calls h = (
    record {
      puts = λ row id n cell is. absurd (cc);
      frees = λ row id n is. (let same : Release r.row r.id None ≡ Release row id n = is in let one : r.row ≡ row = cc in sym one, λ at. first h at);
    },
    λ call is fit. freeing stop commits last bays (call ∷ calls) (rest call (what-is call (release r.id r.row None bay) is) h),
  )
    where
      first : Gives (bay ∷ bays) calls → bay ≡ parity → MayFree r.n r.row calls
      first (inl h) at = h
      first (inr h) at = absurd (h.0 at)

      rest : (call : Call) → call.ask.what ≡ Release r.row r.id None → Gives (bay ∷ bays) calls → Gives bays (call ∷ calls)
      rest call is (inl h) = inl (free-more calls call r.id None is h)
      rest call is (inr h) = inr h.1

  unseized-aside : (us : List ℕ) (grants : List (Option Grant)) → AllByRecursion (Aside r.n r.row) us →
      AllByRecursion (λ (bay : BayNo). bay ≡ parity → ⊥) (bays_of r.n r.row (unseized (zip us grants)))
  unseized-aside [] grants h = tt
  unseized-aside (u ∷ us) [] h = tt
  unseized-aside (u ∷ us) (None ∷ grants) h = unseized-aside us grants h.1
  unseized-aside (u ∷ us) (Some grant ∷ grants) h = by (is_seized grant) (unseized-aside us grants h.1)
    where
      by : (b : Bool) → AllByRecursion (λ (bay : BayNo). bay ≡ parity → ⊥) (bays_of r.n r.row (unseized (zip us grants))) →
          AllByRecursion (λ (bay : BayNo). bay ≡ parity → ⊥) (bays_of r.n r.row (if b then unseized (zip us grants) else u ∷ unseized (zip us grants)))
      by true rest = rest
      by false rest = (h.0, rest)

  data-aside : (row : Row) → AllByRecursion (λ (bay : BayNo). bay ≡ parity → ⊥) (unseized_data r row)
  data-aside row = unseized-aside (units r.n) row.wanted (units-aside r.n r.row)

  data-only : (row : Row) → AllByRecursion (λ (bay : BayNo). bay ≡ parity → ⊥) (unseized_data r row ++ [])
  data-only row = all-append (λ (bay : BayNo). bay ≡ parity → ⊥) (unseized_data r row) [] (data-aside row) tt

  refuses : (row : Row) (cause : Cause) (calls : List Call) → ShowsParity r.n r.row row.parity calls → Recovers calls (recover_refused r row cause)
  refuses row cause calls shows = by row.parity shows
    where
      seized-or : (grant : Grant) → ShowsParity r.n r.row (Some grant) calls → (b : Bool) → is_seized grant ≡ b →
          Recovers calls (refused_steps (give_back r (unseized_data r row ++ (if b then [] else parity ∷ []))) cause)
      seized-or grant shows true e = freeing refused_by_quit (λ _ _. []) (ends.Refused cause) (unseized_data r row ++ []) calls (inr (data-only row))
      seized-or grant shows false e =
          freeing refused_by_quit (λ _ _. []) (ends.Refused cause) (unseized_data r row ++ parity ∷ []) calls
          (inl (inr (λ c i of other is. let both : Some grant ≡ Some other = shows c i of other is in let same : grant ≡ other = cc in subst (λ (g : Grant). g.seized ≡ None) same (not-seized grant e))))

      by : (o : Option Grant) → ShowsParity r.n r.row o calls → Recovers calls (refused_steps (give_back r (unseized_data r row ++ unseized_parity r o)) cause)
      by None shows = freeing refused_by_quit (λ _ _. []) (ends.Refused cause) (unseized_data r row ++ []) calls (inr (data-only row))
      by (Some grant) shows = seized-or grant shows (is_seized grant) refl

  puts-ask : (row : Row) (n : Number) (lost : Option ℕ) (calls : List Call) → AreAnswered r.n r.row [] calls → (walk : Walk (Unit {0})) → Recovers calls (recover_put r row n lost walk)
  puts-ask row n lost calls h (Stopped u e reply) = freeing refused_by_quit (λ _ _. []) (ends.Refused (put_cause r.row e reply)) (unseized_data r row) calls (inr (data-aside row))
  puts-ask row n lost calls h (Through u) = freeing (λ _. ends.Recovered n false lost) (λ _ _. []) (ends.Recovered n true lost) (granted_data r row) calls (inl (inl h))

  by-asks : (row : Row) (n : Number) (calls : List Call) → AreAnswered r.n r.row [] calls → (v : Verdict) → Recovers calls (recover_by r row n v)
  by-asks row n calls h Leaves =
      freeing refused_by_quit (λ _ _. []) (ends.Recovered n true None) (granted_data r row ++ parity_granted r.n r.row row.parity) calls (inl (inl h))
  by-asks row n calls h (Sums lost) =
      walk-asking (RecoverAsks r) (recover_putting r lost) (recover_put r row n lost) (put r.id r.row n (recovered_parity row lost) parity) [] tt calls
      (record {
        puts = λ at id k cell is. (let same : Put r.row r.id n (recovered_parity row lost) ≡ Put at id k cell = is in let one : r.row ≡ at = cc in sym one, h);
        frees = λ at id k is. absurd (cc);
      })
      (λ call is fit u e. puts-ask row n lost (call ∷ calls) (answered-more [] calls call h) (Through u))
      (λ call is fit none. puts-ask row n lost (call ∷ calls) (answered-more [] calls call h) (Stopped tt (put r.id r.row n (recovered_parity row lost) parity) call.answer.reply))

  draws-ask : (row : Row) (calls : List Call) → ShowsParity r.n r.row row.parity calls → AreAnswered r.n r.row [] calls → (d : Result Number Spent) → Recovers calls (recover_drawn r row d)
  draws-ask row calls shows h (Err spent) = refuses row (causes.Spent spent.seen) calls shows
  draws-ask row calls shows h (Ok n) = by-asks row n calls h (verdict r row)

  -- what is known while the units are claimed
  record Seizing (left : List ℕ) (calls : List Call) (taken : Taken) : Type 0 where
    shows : ShowsParity r.n r.row taken.row.parity calls
    answered : AreAnswered r.n r.row left calls
    aside : AllByRecursion (Aside r.n r.row) left

  shows-confirmed : (o : Option Grant) (calls : List Call) (call : Call) → call.ask.what ≡ Confirm r.row r.id false → ShowsParity r.n r.row o calls → ShowsParity r.n r.row o (call ∷ calls)
  shows-confirmed o calls call is h =
      shows-more o calls call (λ of grant e. (let both : Confirm r.row r.id false ≡ Claim r.row of.1 of.2 of.3 of.4 = sym is ∙ of.5 in absurd (cc))) h

  confirms-ask : (taken : Taken) (calls : List Call) → Seizing [] calls taken → Recovers calls (units_seized r (Through taken))
  confirms-ask taken calls s =
      walk-asking (RecoverAsks r) (recover_confirming taken) (recover_confirmed r taken) (confirm r.id r.row false parity) [] tt calls
      (asks-confirm calls parity)
      (λ call is fit u e. λ d. draws-ask taken.row (call ∷ calls) (shows-confirmed taken.row.parity calls call (what-is call (confirm r.id r.row false parity) is) s.shows)
      (answered-more [] calls call s.answered) d)
      (λ call is fit none. refuses taken.row _ (call ∷ calls) (shows-confirmed taken.row.parity calls call (what-is call (confirm r.id r.row false parity) is) s.shows))

  shows-unit : (u : ℕ) (o : Option Grant) (calls : List Call) (call : Call) → Aside r.n r.row u → call.bay ≡ bay_of r.n r.row u → ShowsParity r.n r.row o calls → ShowsParity r.n r.row o (call ∷ calls)
  shows-unit u o calls call aside is h = shows-more o calls call (λ of grant e. absurd (aside (sym is ∙ of.0))) h

  unit-answered : (u : ℕ) (us : List ℕ) (calls : List Call) (call : Call) → AreAnswered r.n r.row (u ∷ us) calls → IsAnswered (bay_of r.n r.row u) r.row call → AreAnswered r.n r.row us (call ∷ calls)
  unit-answered u us calls call h is bay i = by (h bay i)
    where
      by : IsIn bay (bays_of r.n r.row (u ∷ us)) ⊎ Happened (IsAnswered bay r.row) calls → IsIn bay (bays_of r.n r.row us) ⊎ Happened (IsAnswered bay r.row) (call ∷ calls)
      by (inl (inl same)) = inr (inl (subst (λ (x : BayNo). IsAnswered x r.row call) same is))
      by (inl (inr i)) = inl i
      by (inr h) = inr (inr h)

  kept-parity : (bay : BayNo) (taken b : Taken) (c : Option Cause) (o : Option Grant) → option_map (with_grant with_wanted taken bay) (unless c o) ≡ Some b → (c ≡ None) × (taken.row.parity ≡ b.row.parity)
  kept-parity bay taken b (Some cause) o e = absurd (cc)
  kept-parity bay taken b None None e =
      (refl, let same : with_grant with_wanted taken bay None ≡ b = cc in ap (λ (t : Taken). t.row.parity) same)
  kept-parity bay taken b None (Some grant) e =
      (refl, let same : with_grant with_wanted taken bay (Some grant) ≡ b = cc in ap (λ (t : Taken). t.row.parity) same)

  seizing-more : (u : ℕ) (us : List ℕ) (calls : List Call) (call : Call) (taken b : Taken) → Seizing (u ∷ us) calls taken → errand_of call ≡ claim r.id r.row Seize 0 true (bay_of r.n r.row u) →
      fits call.ask.what call.answer.reply ≡ true →
      option_map (with_grant with_wanted taken (bay_of r.n r.row u)) (unless (refusal None taken.missing (bay_of r.n r.row u) call.answer.reply) (grant_of call.answer.reply)) ≡ Some b → Seizing us (call ∷ calls) b
  seizing-more u us calls call taken b s is fit e =
      let kept = kept-parity (bay_of r.n r.row u) taken b (refusal None taken.missing (bay_of r.n r.row u) call.answer.reply) (grant_of call.answer.reply) e in
      let what : call.ask.what ≡ Claim r.row r.id Seize 0 true = what-is call (claim r.id r.row Seize 0 true (bay_of r.n r.row u)) is in
      let at : call.bay ≡ bay_of r.n r.row u = bay-is call (claim r.id r.row Seize 0 true (bay_of r.n r.row u)) is in
      record {
        shows = subst (λ (o : Option Grant). ShowsParity r.n r.row o (call ∷ calls)) kept.1 (shows-unit u taken.row.parity calls call s.aside.0 at s.shows);
        answered = unit-answered u us calls call s.answered
            ((at, r.id, Seize, 0, true, what), answers taken.missing (bay_of r.n r.row u) call.answer.reply (subst (λ (w : Request). fits w call.answer.reply ≡ true) what fit) kept.0);
        aside = s.aside.1;
      }

  units-ask : (us : List ℕ) (taken : Taken) (calls : List Call) → Seizing us calls taken →
      Recovers calls (bind (run (taking None with_wanted) (claims r.id r.row Seize true (bays_of r.n r.row us)) taken) (units_seized r))
  units-ask [] taken calls s = confirms-ask taken calls s
  units-ask (u ∷ us) taken calls s =
      walk-asking (RecoverAsks r) (taking None with_wanted) (units_seized r) (claim r.id r.row Seize 0 true (bay_of r.n r.row u)) (claims r.id r.row Seize true (bays_of r.n r.row us)) taken calls
      (asks-claim calls (bay_of r.n r.row u))
      (λ call is fit b e. units-ask us b (call ∷ calls) (seizing-more u us calls call taken b s is fit e))
      (λ call is fit none. refuses taken.row (why None taken (claim r.id r.row Seize 0 true (bay_of r.n r.row u)) call.answer.reply) (call ∷ calls)
      (shows-unit u taken.row.parity calls call s.aside.0 (bay-is call (claim r.id r.row Seize 0 true (bay_of r.n r.row u)) is) s.shows))

  parity-asks : (taken : Taken) (calls : List Call) → ShowsParity r.n r.row taken.row.parity calls → Recovers calls (parity_seized r (Through taken))
  parity-asks taken calls shows = by taken.row.parity
    where
      begins : Recovers calls (seize_units r taken)
      begins = units-ask (units r.n) taken calls (record { shows = shows; answered = λ bay i. inl i; aside = units-aside r.n r.row })

      operator : (b : Bool) → Recovers calls (if b then seize_units r taken else recover_refused r taken.row (causes.Gone parity))
      operator true = begins
      operator false = refuses taken.row (causes.Gone parity) calls shows

      by : (o : Option Grant) → Recovers calls (parity_taken r taken o)
      by (Some grant) = begins
      by None = operator (r.host.0 == 0)

  taken-parity : (bay : BayNo) (taken b : Taken) (c : Option Cause) (o : Option Grant) → option_map (with_grant with_parity taken bay) (unless c o) ≡ Some b → o ≡ b.row.parity
  taken-parity bay taken b (Some cause) o e = absurd (cc)
  taken-parity bay taken b None None e = let same : with_grant with_parity taken bay None ≡ b = cc in ap (λ (t : Taken). t.row.parity) same
  taken-parity bay taken b None (Some grant) e = let same : with_grant with_parity taken bay (Some grant) ≡ b = cc in ap (λ (t : Taken). t.row.parity) same

  none-yet : (o : Option Grant) → ShowsParity r.n r.row o []
  none-yet o c i of grant e = absurd i

  pub recoveries-ask : Asking (RecoverAsks r) [] (recover_steps r)
  recoveries-ask =
      let first : Taken = begun (whole_part r) no_rows in
      walk-asking (RecoverAsks r) (taking None with_parity) (parity_seized r) (claim r.id r.row Seize 0 true parity) [] first []
      (asks-claim [] parity)
      (λ call is fit b e. parity-asks b (call ∷ [])
      (shows-more b.row.parity [] call
      (λ of grant e1. sym (taken-parity parity first b (refusal None first.missing parity call.answer.reply) (grant_of call.answer.reply) e) ∙ e1) (none-yet b.row.parity)))
      (λ call is fit none. refuses first.row (why None first (claim r.id r.row Seize 0 true parity) call.answer.reply) (call ∷ [])
      (shows-more None [] call (λ of grant e1. absurd (refuses-grant first.missing parity call.answer.reply (with_grant with_parity first parity) grant none e1)) (none-yet None)))
