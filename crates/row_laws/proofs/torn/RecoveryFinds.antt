-- What a recovery has found where it gives back a parity whose note it seized: every unit answered, and the row is not torn. After
-- a put it gives back the data alone, and where it is refused it keeps a parity whose note it seized.
use Rattle.std.proofs.Common.{arith, ◌≡◌, ◌⊎◌, inl, inr, refl, sym, ap, subst, ◌∙◌, ℕ, zero, suc, ◌+◌, ◌-◌, ◌<◌, ◌≤◌, ◌==◌, not, ◌&&◌, ◌||◌, Bool, true, false, if◌then◌else◌, List, [], ◌∷◌, ◌++◌, zip, Option, Some, None, option_map, Result, Ok, Err}
use Rattle.std.specs.List.{AllByRecursion, range_with_len}
use Rattle.std.proofs.lemmas.Bool.Decides.{nat_tests}
use Rattle.raid_base.specs.declared.numbers.BayNo.{BayNo}
use Rattle.raid_base.specs.declared.numbers.RowNo.{RowNo}
use Rattle.raid_base.specs.declared.numbers.Number.{Number}
use Rattle.raid_base.specs.declared.numbers.Spent.{Spent}
use Rattle.raid_base.specs.declared.messages.How.TheVariants.{Seize}
use Rattle.raid_base.specs.declared.messages.Call.{Call}
use Rattle.raid_base.specs.declared.messages.Errand.{Errand}
use Rattle.raid_base.specs.declared.messages.Grant.{Grant}
use Rattle.raid_base.specs.declared.messages.Note.{Note}
use Rattle.raid_base.specs.declared.messages.Request.{Request}
use Rattle.raid_base.specs.declared.messages.Request.TheVariants.{Claim, Confirm, Release}
use Rattle.raid_base.specs.declared.messages.Reply.{Reply}
use Rattle.raid_base.specs.declared.messages.Reply.TheVariants.{Granted, Busy, Late, Young, Missing, Held, NoNote, Done, Fault, Emptied, Fitted}
use Rattle.raid_base.specs.declared.jobs.Cause.{Cause}
use Rattle.raid_base.specs.declared.jobs.Cause.TheVariants as causes
use Rattle.raid_base.specs.declared.jobs.Ended.{Ended}
use Rattle.raid_base.specs.declared.jobs.Ended.TheVariants as ends
use Rattle.raid_base.specs.Cells.{has_unit}
use Rattle.raid_base.specs.Fits.{fits, fits_claim}
use Rattle.raid_base.specs.Replies.{grant_of}
use Rattle.raid_base.specs.declared.numbers.HostNo.{HostNo}
use Rattle.raid_base.specs.Steps.{Standing, settled, next_errand, Steps, Asks, Draws, Ends, Commit, bind, Walk, Through, Stopped, run, errand_of}
use Rattle.stripe_layout.specs.Placement.{bay, parity_bay, bay_of, bays_of, units}
use Rattle.stripe_layout.proofs.LayoutLemmas.{unit_distinct}
use Rattle.attempts.specs.declared.Rescue.{Rescue}
use Rattle.attempts.specs.Taking.{Finish, refused_by_quit, Row, Taken, begun, no_rows, with_grant, with_parity, with_wanted, refusal, broken, unless, taking, why, claim, claims, confirm}
use Rattle.attempts.specs.Releases.{release, refused_steps, parity_granted, end_as, granted_of}
use Rattle.attempts.specs.Puts.{put}
use Rattle.attempts.specs.Mending.{put_cause}
use Rattle.attempts.specs.Recovery.{whole_part, is_seized, unseized, unseized_data, unseized_parity, granted_data, give_back, recover_refused, missing_in, is_put, is_torn_by, seized_note, is_torn, Verdict, Leaves, Sums, hole_verdict, verdict_of, verdict, recovered_parity, recover_putting, recover_put, recover_by, recover_drawn, recover_confirming, recover_confirmed, units_seized, seize_units, parity_taken, parity_seized, recover_steps}
use Rattle.attempts.specs.Phases.{IsIn}
use Rattle.attempts.proofs.PhaseLemmas.{Aside, units-aside}
use Rattle.attempts.proofs.RoomLemmas.{all-append}
use Rattle.attempts.proofs.SoundLemmas.{units-all}
use Rattle.histories.specs.Calls.{Happened, IsClaim}
use Rattle.histories.specs.Torn.{Seizes, ShowsLast, IsMissing}
use Rattle.histories.specs.Hands.{Led}
use Rattle.row_laws.proofs.owners.RowOwnersTrees.{Asking, next-asking, settled-asking, led-asking, ShowsParity, AreAnswered, MayFree, RecoverAsks, recoveries-ask, refuses-grant, walk-asking, not-seized, what-is, bay-is}

-- the calls claimed the parity and seized this note
abbrev pub HasSeized : ℕ → RowNo → Note → List Call → Type 0
HasSeized n row note calls = Happened (λ call. IsClaim (parity_bay n row) row call × Seizes note call) calls

-- no unit of the note was missing
abbrev pub NoneMissing : ℕ → RowNo → Note → List Call → Type 0
NoneMissing n row note calls = (unit : ℕ) → unit < n - 1 → has_unit note.mask unit ≡ true → Happened (λ call. IsClaim (bay_of n row unit) row call × IsMissing call) calls → ⊥

-- and none that was granted was put by its origin
abbrev pub NoneShown : ℕ → RowNo → Note → List Call → Type 0
NoneShown n row note calls = (unit : ℕ) → unit < n - 1 → has_unit note.mask unit ≡ true → Happened (λ call. IsClaim (bay_of n row unit) row call × ShowsLast note.origin call) calls → ⊥

-- the calls found the row not torn
abbrev pub FoundSound : ℕ → RowNo → Note → List Call → Type 0
FoundSound n row note calls = (note.mask ≡ 0) ⊎ (NoneMissing n row note calls × NoneShown n row note calls)

-- before it gives back a parity whose note it seized
abbrev pub FreesSound : Rescue → List Call → Errand → Type 0
FreesSound r calls e = (row : RowNo) (id : Number) (n : Option Number) → e.request ≡ Release row id n → e.bay ≡ parity_bay r.n r.row → (note : Note) → HasSeized r.n r.row note calls → FoundSound r.n r.row note calls

-- a second bay is not missing

agrees-test : (first at : BayNo) (b : Bool) → (first.0 == at.0) ≡ b → (if b then None else Some (causes.Broken first at)) ≡ None → first ≡ at
agrees-test first at true is e = let same : first.0 ≡ at.0 = grind (arith, nat_tests) in ap bay same
agrees-test first at false is e = absurd (cc)

agrees-broken : (missing : Option BayNo) (at : BayNo) → broken missing at ≡ None → (first : BayNo) → missing ≡ Some first → first ≡ at
agrees-broken None at e first is = absurd (cc)
agrees-broken (Some other) at e first is = let same : other ≡ first = cc in sym same ∙ agrees-test other at (other.0 == at.0) refl e

gap-agrees : (missing : Option BayNo) (at : BayNo) (reply : Reply) → fits_claim Seize true reply ≡ true → refusal None missing at reply ≡ None → grant_of reply ≡ None →
    (first : BayNo) → missing ≡ Some first → first ≡ at
gap-agrees missing at (Granted cell read_no write_no last life seized) fit e none = absurd (cc)
gap-agrees missing at (Missing floor) fit e none = agrees-broken missing at e
gap-agrees missing at (Busy holder) fit e none = absurd (cc)
gap-agrees missing at (Late above) fit e none = absurd (cc)
gap-agrees missing at (Young note) fit e none = absurd (cc)
gap-agrees missing at (Held cell) fit e none = absurd (cc)
gap-agrees missing at (NoNote life) fit e none = absurd (cc)
gap-agrees missing at Done fit e none = absurd (cc)
gap-agrees missing at Fault fit e none = absurd (cc)
gap-agrees missing at Emptied fit e none = absurd (cc)
gap-agrees missing at Fitted fit e none = absurd (cc)

-- Truth values
or-left : (a b c : Bool) → a ≡ true → b ≡ true → ((a && b) || c) ≡ true
or-left true true c ea eb = refl
or-left true false c ea eb = absurd (cc)
or-left false b c ea eb = absurd (cc)

or-right : (a c : Bool) → c ≡ true → (a || c) ≡ true
or-right true c e = refl
or-right false c e = e

not-torn : (a b c : Bool) → (not a && (b || c)) ≡ false → (a ≡ true) ⊎ ((b ≡ false) × (c ≡ false))
not-torn true b c e = inl refl
not-torn false true c e = absurd (cc)
not-torn false false true e = absurd (cc)
not-torn false false false e = inr (refl, refl)

-- Units. On one bay stands one unit
pub one-unit : (n : ℕ) (row : RowNo) (u v : ℕ) → u < n - 1 → v < n - 1 → bay_of n row u ≡ bay_of n row v → u ≡ v
one-unit zero row u v hu hv e = absurd (omega arith)
one-unit (suc zero) row u v hu hv e = absurd (omega arith)
one-unit (suc (suc zero)) row u v hu hv e = omega arith
one-unit (suc (suc (suc k))) row u v hu hv e = unit_distinct (suc (suc (suc k))) row u v (omega arith) hu hv e

in-range : (first count u : ℕ) → first ≤ u → u < first + count → IsIn u (range_with_len first count)
in-range first zero u low high = absurd (omega arith)
in-range first (suc count) u low high = by (first == u) refl (λ (apart : first < u). in-range (first + 1) count u (omega arith) (omega arith))
  where
    by : (b : Bool) → (first == u) ≡ b → (first < u → IsIn u (range_with_len (first + 1) count)) → (first ≡ u) ⊎ IsIn u (range_with_len (first + 1) count)
    by true e later = inl (grind (arith, nat_tests))
    by false e later = let apart : first < u = grind (arith, nat_tests) in inr (later apart)

pub in-units : (n u : ℕ) → u < n - 1 → IsIn u (units n)
in-units n u below = in-range 0 (n - 1) u (omega arith) (omega arith)

-- a call that happened, and where
record HappenedIn (P : Call → Type 0) (calls : List Call) : Type 0 where
  call : Call
  inside : IsIn call calls
  is : P call

happened-in : (P : Call → Type 0) (calls : List Call) → Happened P calls → HappenedIn P calls
happened-in P [] h = absurd h
happened-in P (c ∷ cs) (inl p) = record { call = c; inside = inl refl; is = p }
happened-in P (c ∷ cs) (inr h) = let rest : HappenedIn P cs = happened-in P cs h in record { call = rest.call; inside = inr rest.inside; is = rest.is }

some-same : {x y : BayNo} → Some x ≡ Some y → x ≡ y
some-same e = cc

module _ (r : Rescue) where
  abbrev parity : BayNo
  parity = parity_bay r.n r.row

  abbrev at_unit : ℕ → BayNo
  at_unit u = bay_of r.n r.row u

  abbrev Frees : List Call → Steps Finish → Type 0
  Frees calls s = Asking (FreesSound r) calls s

  -- Calls that claim nothing
  abbrev pub NoClaim : Call → Type 0
  NoClaim call = (at : BayNo) → IsClaim at r.row call → ⊥

  pub released-no-claim : (call : Call) → call.ask.what ≡ Release r.row r.id None → NoClaim call
  released-no-claim call is at of = let both : Release r.row r.id None ≡ Claim r.row of.1 of.2 of.3 of.4 = sym is ∙ of.5 in absurd (cc)

  pub confirmed-no-claim : (call : Call) → call.ask.what ≡ Confirm r.row r.id false → NoClaim call
  confirmed-no-claim call is at of = let both : Confirm r.row r.id false ≡ Claim r.row of.1 of.2 of.3 of.4 = sym is ∙ of.5 in absurd (cc)

  abbrev pub Sound : List Call → Type 0
  Sound calls = (note : Note) → HasSeized r.n r.row note calls → FoundSound r.n r.row note calls

  found-more : (note : Note) (calls : List Call) (call : Call) → NoClaim call → FoundSound r.n r.row note calls → FoundSound r.n r.row note (call ∷ calls)
  found-more note calls call none (inl blank) = inl blank
  found-more note calls call none (inr sound) = inr (missing, shown)
    where
      missing : NoneMissing r.n r.row note (call ∷ calls)
      missing u below has (inl x) = absurd (none (at_unit u) x.0)
      missing u below has (inr h) = sound.0 u below has h

      shown : NoneShown r.n r.row note (call ∷ calls)
      shown u below has (inl x) = absurd (none (at_unit u) x.0)
      shown u below has (inr h) = sound.1 u below has h

  sound-more : (calls : List Call) (call : Call) → NoClaim call → Sound calls → Sound (call ∷ calls)
  sound-more calls call none s note (inl x) = absurd (none parity x.0)
  sound-more calls call none s note (inr h) = found-more note calls call none (s note h)

  pub shows-more : (o : Option Grant) (calls : List Call) (call : Call) → (IsClaim parity r.row call → (grant : Grant) → grant_of call.answer.reply ≡ Some grant → o ≡ Some grant) → ShowsParity r.n r.row o calls →
      ShowsParity r.n r.row o (call ∷ calls)
  shows-more o calls call first h c (inl same) of grant e =
      first (subst (IsClaim parity r.row) (sym same) of) grant (subst (λ (x : Call). grant_of x.answer.reply ≡ Some grant) (sym same) e)
  shows-more o calls call first h c (inr i) of grant e = h c i of grant e

  -- it gives back
  abbrev Gives : List BayNo → List Call → Type 0
  Gives bays calls = Sound calls ⊎ AllByRecursion (λ (bay : BayNo). bay ≡ parity → ⊥) bays

  freeing : (stop : Unit {0} → Ended) (commits : Unit {0} → Errand → List Commit) (last : Ended) (bays : List BayNo) (calls : List Call) → Gives bays calls →
      Frees calls (bind (run (record { step = λ u errand reply. Some u; stop = stop; commits = commits }) (give_back r bays) tt) (end_as last))
  freeing stop commits last [] calls h = tt
  freeing stop commits last (bay ∷ bays) calls h = (
    λ row id n is at. first h at,
    λ call is fit. freeing stop commits last bays (call ∷ calls) (rest call (what-is call (release r.id r.row None bay) is) h),
  )
    where
      first : Gives (bay ∷ bays) calls → bay ≡ parity → Sound calls
      first (inl h) at = h
      first (inr h) at = absurd (h.0 at)

      rest : (call : Call) → call.ask.what ≡ Release r.row r.id None → Gives (bay ∷ bays) calls → Gives bays (call ∷ calls)
      rest call is (inl h) = inl (sound-more calls call (released-no-claim call is) h)
      rest call is (inr h) = inr h.1

  -- the data alone
  abbrev IsData : BayNo → Type 0
  IsData bay = bay ≡ parity → ⊥

  unseized-aside : (us : List ℕ) (grants : List (Option Grant)) → AllByRecursion (Aside r.n r.row) us → AllByRecursion (λ (bay : BayNo). IsData bay) (bays_of r.n r.row (unseized (zip us grants)))
  unseized-aside [] grants h = tt
  unseized-aside (u ∷ us) [] h = tt
  unseized-aside (u ∷ us) (None ∷ grants) h = unseized-aside us grants h.1
  unseized-aside (u ∷ us) (Some grant ∷ grants) h = by (is_seized grant) (unseized-aside us grants h.1)
    where
      by : (b : Bool) → AllByRecursion (λ (bay : BayNo). IsData bay) (bays_of r.n r.row (unseized (zip us grants))) →
          AllByRecursion (λ (bay : BayNo). IsData bay) (bays_of r.n r.row (if b then unseized (zip us grants) else u ∷ unseized (zip us grants)))
      by true rest = rest
      by false rest = (h.0, rest)

  granted-aside : (us : List ℕ) (grants : List (Option Grant)) → AllByRecursion (Aside r.n r.row) us → AllByRecursion (λ (bay : BayNo). IsData bay) (bays_of r.n r.row (granted_of (zip us grants)))
  granted-aside [] grants h = tt
  granted-aside (u ∷ us) [] h = tt
  granted-aside (u ∷ us) (None ∷ grants) h = granted-aside us grants h.1
  granted-aside (u ∷ us) (Some grant ∷ grants) h = (h.0, granted-aside us grants h.1)

  data-aside : (row : Row) → AllByRecursion (λ (bay : BayNo). IsData bay) (unseized_data r row)
  data-aside row = unseized-aside (units r.n) row.wanted (units-aside r.n r.row)

  data-only : (row : Row) → AllByRecursion (λ (bay : BayNo). IsData bay) (unseized_data r row ++ [])
  data-only row = all-append (λ (bay : BayNo). IsData bay) (unseized_data r row) [] (data-aside row) tt

  -- the grant of the parity has the note
  parity-seized : (o : Option Grant) (calls : List Call) (note : Note) → ShowsParity r.n r.row o calls → HasSeized r.n r.row note calls → (grant : Grant) × (o ≡ Some grant) × (grant.seized ≡ Some note)
  parity-seized o calls note shows h =
      let x : HappenedIn (λ call. IsClaim parity r.row call × Seizes note call) calls = happened-in (λ call. IsClaim parity r.row call × Seizes note call) calls h in
      (x.is.1.0, shows x.call x.inside x.is.0 x.is.1.0 x.is.1.1, x.is.1.2)

  unseized-sound : (calls : List Call) (grant : Grant) → ShowsParity r.n r.row (Some grant) calls → grant.seized ≡ None → Sound calls
  unseized-sound calls grant shows none note h =
      let p = parity-seized (Some grant) calls note shows h in
      let both : Some grant ≡ Some p.0 = p.1 in
      let same : grant ≡ p.0 = cc in
      let clash : None ≡ Some note = sym none ∙ ap (λ (g : Grant). g.seized) same ∙ p.2 in
      absurd (cc)

  refuses : (row : Row) (cause : Cause) (calls : List Call) → ShowsParity r.n r.row row.parity calls → Frees calls (recover_refused r row cause)
  refuses row cause calls shows = by row.parity shows
    where
      seized-or : (grant : Grant) → ShowsParity r.n r.row (Some grant) calls → (b : Bool) → is_seized grant ≡ b →
          Frees calls (refused_steps (give_back r (unseized_data r row ++ (if b then [] else parity ∷ []))) cause)
      seized-or grant shows true e = freeing refused_by_quit (λ _ _. []) (ends.Refused cause) (unseized_data r row ++ []) calls (inr (data-only row))
      seized-or grant shows false e =
          freeing refused_by_quit (λ _ _. []) (ends.Refused cause) (unseized_data r row ++ parity ∷ []) calls (inl (unseized-sound calls grant shows (not-seized grant e)))

      by : (o : Option Grant) → ShowsParity r.n r.row o calls → Frees calls (refused_steps (give_back r (unseized_data r row ++ unseized_parity r o)) cause)
      by None shows = freeing refused_by_quit (λ _ _. []) (ends.Refused cause) (unseized_data r row ++ []) calls (inr (data-only row))
      by (Some grant) shows = seized-or grant shows (is_seized grant) refl

  -- Units. What the claims of one were answered
  pub record Tells (missing : Option BayNo) (calls : List Call) (u : ℕ) (o : Option Grant) : Type 0 where
    pub told : (call : Call) → IsIn call calls → IsClaim (bay_of r.n r.row u) r.row call → grant_of call.answer.reply ≡ o
    pub gap : o ≡ None → missing ≡ Some (bay_of r.n r.row u)

  abbrev Fresh : List Call → ℕ → Type 0
  Fresh calls u = (call : Call) → IsIn call calls → IsClaim (at_unit u) r.row call → ⊥

  abbrev pub Got : Option BayNo → List Call → List ℕ → List ℕ → List (Option Grant) → Type 0
  Got missing calls us left [] = us ≡ left
  Got missing calls [] left (o ∷ gs) = ⊥
  Got missing calls (u ∷ us) left (o ∷ gs) = Tells missing calls u o × Got missing calls us left gs

  abbrev Other : ℕ → ℕ → Type 0
  Other u v = at_unit u ≡ at_unit v → ⊥

  abbrev Apart : List ℕ → Type 0
  Apart [] = Unit {0}
  Apart (u ∷ us) = AllByRecursion (λ v. Other u v) us × Apart us

  range-other : (u first count : ℕ) → u < first → first + count ≤ r.n - 1 → AllByRecursion (λ v. Other u v) (range_with_len first count)
  range-other u first zero less le = tt
  range-other u first (suc count) less le =
      (λ same. apart (one-unit r.n r.row u first (omega arith) (omega arith) same), range-other u (first + 1) count (omega arith) (omega arith))
    where
      apart : u ≡ first → ⊥
      apart same = absurd (omega arith)

  range-apart : (first count : ℕ) → first + count ≤ r.n - 1 → Apart (range_with_len first count)
  range-apart first zero le = tt
  range-apart first (suc count) le = (range-other first (first + 1) count (omega arith) (omega arith), range-apart (first + 1) count (omega arith))

  pub apart-units : Apart (units r.n)
  apart-units = range-apart 0 (r.n - 1) (omega arith)

  got-head : (P : ℕ → Type 0) (missing : Option BayNo) (calls : List Call) (us left : List ℕ) (u : ℕ) (gs : List (Option Grant)) → Got missing calls us (u ∷ left) gs → AllByRecursion P us → P u
  got-head P missing calls us left u [] h all = let both : us ≡ u ∷ left = h in (subst (λ (xs : List ℕ). AllByRecursion P xs) both all).0
  got-head P missing calls [] left u (g ∷ gs) h all = absurd h
  got-head P missing calls (v ∷ us) left u (g ∷ gs) h all = got-head P missing calls us left u gs h.1 all.1

  tells-more : (missing next : Option BayNo) (calls : List Call) (call : Call) (u v : ℕ) (o : Option Grant) → call.bay ≡ at_unit u → Other v u → (missing ≡ Some (at_unit v) → next ≡ Some (at_unit v)) →
      Tells missing calls v o → Tells next (call ∷ calls) v o
  tells-more missing next calls call u v o at other keeps t = record { told = by; gap = λ none. keeps (t.gap none) }
    where
      by : (c : Call) → IsIn c (call ∷ calls) → IsClaim (at_unit v) r.row c → grant_of c.answer.reply ≡ o
      by c (inl same) of = let here : call.bay ≡ at_unit v = subst (λ (x : Call). x.bay ≡ at_unit v) (sym same) of.0 in absurd (other (sym here ∙ at))
      by c (inr i) of = t.told c i of

  got-next : (missing next : Option BayNo) (calls : List Call) (call : Call) (us left : List ℕ) (u : ℕ) (gs : List (Option Grant)) (o : Option Grant) → call.bay ≡ at_unit u →
      ((v : ℕ) → missing ≡ Some (at_unit v) → next ≡ Some (at_unit v)) → Tells next (call ∷ calls) u o → Apart us → Got missing calls us (u ∷ left) gs → Got next (call ∷ calls) us left (gs ++ o ∷ [])
  got-next missing next calls call us left u [] o at keeps new apart h =
      let e : u ∷ left ≡ us = sym h in subst (λ (xs : List ℕ). Got next (call ∷ calls) xs left (o ∷ [])) e (new, refl)
  got-next missing next calls call [] left u (g ∷ gs) o at keeps new apart h = absurd h
  got-next missing next calls call (v ∷ us) left u (g ∷ gs) o at keeps new apart h = (
    tells-more missing next calls call u v g at (got-head (λ w. Other v w) missing calls us left u gs h.1 apart.0) (keeps v) h.0,
    got-next missing next calls call us left u gs o at keeps new apart.1 h.1,
  )

  tells-new : (next : Option BayNo) (calls : List Call) (call : Call) (u : ℕ) (o : Option Grant) → grant_of call.answer.reply ≡ o → Fresh calls u → (o ≡ None → next ≡ Some (at_unit u)) → Tells next (call ∷ calls) u o
  tells-new next calls call u o is fresh gap = record { told = by; gap = gap }
    where
      by : (c : Call) → IsIn c (call ∷ calls) → IsClaim (at_unit u) r.row c → grant_of c.answer.reply ≡ o
      by c (inl same) of = subst (λ (x : Call). grant_of x.answer.reply ≡ o) same is
      by c (inr i) of = absurd (fresh c i of)

  fresh-more : (calls : List Call) (call : Call) (u : ℕ) (us : List ℕ) → call.bay ≡ at_unit u → AllByRecursion (λ v. Other u v) us → AllByRecursion (λ v. Fresh calls v) us → AllByRecursion (λ v. Fresh (call ∷ calls) v) us
  fresh-more calls call u [] at others all = tt
  fresh-more calls call u (v ∷ us) at others all = (by, fresh-more calls call u us at others.1 all.1)
    where
      by : Fresh (call ∷ calls) v
      by c (inl same) of = let here : call.bay ≡ at_unit v = subst (λ (x : Call). x.bay ≡ at_unit v) (sym same) of.0 in absurd (others.0 (sym at ∙ here))
      by c (inr i) of = all.0 c i of

  -- what is known while the units are claimed
  pub record Finding (left : List ℕ) (calls : List Call) (taken : Taken) : Type 0 where
    pub shows : ShowsParity r.n r.row taken.row.parity calls
    pub got : Got taken.missing calls (units r.n) left taken.row.wanted
    pub fresh : AllByRecursion (λ v. Fresh calls v) left
    pub aside : AllByRecursion (Aside r.n r.row) left
    pub apart : Apart left

  pub kept : (at : BayNo) (taken b : Taken) (c : Option Cause) (o : Option Grant) → option_map (with_grant with_wanted taken at) (unless c o) ≡ Some b → (c ≡ None) × (with_grant with_wanted taken at o ≡ b)
  kept at taken b (Some cause) o e = absurd (cc)
  kept at taken b None o e = (refl, cc)

  shows-unit : (u : ℕ) (o : Option Grant) (calls : List Call) (call : Call) → Aside r.n r.row u → call.bay ≡ at_unit u → ShowsParity r.n r.row o calls → ShowsParity r.n r.row o (call ∷ calls)
  shows-unit u o calls call aside is h = shows-more o calls call (λ of grant e. absurd (aside (sym is ∙ of.0))) h

  finds : (u : ℕ) (us : List ℕ) (calls : List Call) (call : Call) (taken : Taken) → Finding (u ∷ us) calls taken → call.bay ≡ at_unit u → (o : Option Grant) → grant_of call.answer.reply ≡ o →
      (o ≡ None → (first : BayNo) → taken.missing ≡ Some first → first ≡ at_unit u) → Finding us (call ∷ calls) (with_grant with_wanted taken (at_unit u) o)
  finds u us calls call taken s at (Some grant) is agrees = record {
    shows = shows-unit u taken.row.parity calls call s.aside.0 at s.shows;
    got = got-next taken.missing taken.missing calls call (units r.n) us u taken.row.wanted (Some grant) at (λ v k. k) (tells-new taken.missing calls call u (Some grant) is s.fresh.0 (λ none. absurd (cc))) apart-units s.got;
    fresh = fresh-more calls call u us at s.apart.0 s.fresh.1;
    aside = s.aside.1;
    apart = s.apart.1;
  }
  finds u us calls call taken s at None is agrees = record {
    shows = shows-unit u taken.row.parity calls call s.aside.0 at s.shows;
    got = got-next taken.missing (Some (at_unit u)) calls call (units r.n) us u taken.row.wanted None at (λ v k. ap (λ (x : BayNo). Some x) (sym (agrees refl (at_unit v) k)))
        (tells-new (Some (at_unit u)) calls call u None is s.fresh.0 (λ none. refl)) apart-units s.got;
    fresh = fresh-more calls call u us at s.apart.0 s.fresh.1;
    aside = s.aside.1;
    apart = s.apart.1;
  }

  pub finding-more : (u : ℕ) (us : List ℕ) (calls : List Call) (call : Call) (taken b : Taken) → Finding (u ∷ us) calls taken → errand_of call ≡ claim r.id r.row Seize 0 true (at_unit u) →
      fits call.ask.what call.answer.reply ≡ true →
      option_map (with_grant with_wanted taken (at_unit u)) (unless (refusal None taken.missing (at_unit u) call.answer.reply) (grant_of call.answer.reply)) ≡ Some b → Finding us (call ∷ calls) b
  finding-more u us calls call taken b s is fit e =
      let k = kept (at_unit u) taken b (refusal None taken.missing (at_unit u) call.answer.reply) (grant_of call.answer.reply) e in
      let what : call.ask.what ≡ Claim r.row r.id Seize 0 true = what-is call (claim r.id r.row Seize 0 true (at_unit u)) is in
      subst (λ (t : Taken). Finding us (call ∷ calls) t) k.1
      (finds u us calls call taken s (bay-is call (claim r.id r.row Seize 0 true (at_unit u)) is) (grant_of call.answer.reply) refl
      (λ none. gap-agrees taken.missing (at_unit u) call.answer.reply (subst (λ (w : Request). fits w call.answer.reply ≡ true) what fit) k.0 none))

  -- Verdicts. Where all units were claimed
  pub gap-at : (missing : Option BayNo) (calls : List Call) (us : List ℕ) (gs : List (Option Grant)) (unit : ℕ) → Got missing calls us [] gs → missing_in (zip us gs) ≡ Some unit → missing ≡ Some (at_unit unit)
  gap-at missing calls [] gs unit h e = absurd (cc)
  gap-at missing calls (u ∷ us) [] unit h e = absurd (cc)
  gap-at missing calls (u ∷ us) (Some grant ∷ gs) unit h e = gap-at missing calls us gs unit h.1 e
  gap-at missing calls (u ∷ us) (None ∷ gs) unit h e = let same : u ≡ unit = cc in h.0.gap refl ∙ ap (λ v. Some (at_unit v)) same

  pub gap-below : (us : List ℕ) (gs : List (Option Grant)) (unit : ℕ) → AllByRecursion (λ u. u < r.n - 1) us → missing_in (zip us gs) ≡ Some unit → unit < r.n - 1
  gap-below [] gs unit all e = absurd (cc)
  gap-below (u ∷ us) [] unit all e = absurd (cc)
  gap-below (u ∷ us) (Some grant ∷ gs) unit all e = gap-below us gs unit all.1 e
  gap-below (u ∷ us) (None ∷ gs) unit all e = let same : u ≡ unit = cc in subst (λ (v : ℕ). v < r.n - 1) same all.0

  -- a claim that was not granted
  missing-at : (missing : Option BayNo) (calls : List Call) (us : List ℕ) (gs : List (Option Grant)) (u : ℕ) → Got missing calls us [] gs → IsIn u us → (call : Call) → IsIn call calls → IsClaim (at_unit u) r.row call →
      grant_of call.answer.reply ≡ None → missing ≡ Some (at_unit u)
  missing-at missing calls [] gs u h i call inside of none = absurd i
  missing-at missing calls (v ∷ us) [] u h i call inside of none = absurd (cc)
  missing-at missing calls (v ∷ us) (g ∷ gs) u h (inr i) call inside of none = missing-at missing calls us gs u h.1 i call inside of none
  missing-at missing calls (v ∷ us) (g ∷ gs) u h (inl same) call inside of none =
      let t : Tells missing calls u g = subst (λ (w : ℕ). Tells missing calls w g) same h.0 in t.gap (sym (t.told call inside of) ∙ none)

  -- and one that shows the note's origin
  put-at : (missing : Option BayNo) (calls : List Call) (note : Note) (us : List ℕ) (gs : List (Option Grant)) (u : ℕ) → Got missing calls us [] gs → IsIn u us → has_unit note.mask u ≡ true → (call : Call) → IsIn call calls →
      IsClaim (at_unit u) r.row call → (grant : Grant) → grant_of call.answer.reply ≡ Some grant → grant.last ≡ note.origin → is_put note (zip us gs) ≡ true
  put-at missing calls note [] gs u h i has call inside of grant is last = absurd i
  put-at missing calls note (v ∷ us) [] u h i has call inside of grant is last = absurd (cc)
  put-at missing calls note (v ∷ us) (None ∷ gs) u h (inr i) has call inside of grant is last = put-at missing calls note us gs u h.1 i has call inside of grant is last
  put-at missing calls note (v ∷ us) (None ∷ gs) u h (inl same) has call inside of grant is last =
      let t : Tells missing calls u None = subst (λ (w : ℕ). Tells missing calls w None) same h.0 in
      let clash : None ≡ Some grant = sym (t.told call inside of) ∙ is in absurd (cc)
  put-at missing calls note (v ∷ us) (Some g ∷ gs) u h (inr i) has call inside of grant is last =
      or-right (has_unit note.mask v && (g.last.0 == note.origin.0)) (is_put note (zip us gs)) (put-at missing calls note us gs u h.1 i has call inside of grant is last)
  put-at missing calls note (v ∷ us) (Some g ∷ gs) u h (inl same) has call inside of grant is last =
      let t : Tells missing calls u (Some g) = subst (λ (w : ℕ). Tells missing calls w (Some g)) same h.0 in
      let both : Some grant ≡ Some g = sym is ∙ t.told call inside of in
      let one : grant ≡ g = cc in
      let shown : g.last ≡ note.origin = subst (λ (x : Grant). x.last ≡ note.origin) one last in
      or-left (has_unit note.mask v) (g.last.0 == note.origin.0) (is_put note (zip us gs)) (subst (λ (w : ℕ). has_unit note.mask w ≡ true) (sym same) has) (same-number g.last note.origin shown)
    where
      same-number : (a b : Number) → a ≡ b → (a.0 == b.0) ≡ true
      same-number a b e = let numbers : a.0 ≡ b.0 = ap (λ (x : Number). x.0) e in grind (arith, nat_tests)

  leaves-not : (b : Bool) (unit : ℕ) → (if b then Sums (Some unit) else Leaves) ≡ Leaves → b ≡ false
  leaves-not true unit e = absurd (cc)
  leaves-not false unit e = refl

  no-mask : (note : Note) → (note.mask == 0) ≡ true → note.mask ≡ 0
  no-mask note e = grind (arith, nat_tests)

  untorn : (calls : List Call) (taken : Taken) (note : Note) (unit : ℕ) → Finding [] calls taken → missing_in (zip (units r.n) taken.row.wanted) ≡ Some unit →
      (note.mask == 0 ≡ true) ⊎ ((has_unit note.mask unit ≡ false) × (is_put note (zip (units r.n) taken.row.wanted) ≡ false)) → FoundSound r.n r.row note calls
  untorn calls taken note unit s hole (inl none) = inl (no-mask note none)
  untorn calls taken note unit s hole (inr aside) = inr (missing, shown)
    where
      missing : NoneMissing r.n r.row note calls
      missing u below has h =
          let x : HappenedIn (λ call. IsClaim (bay_of r.n r.row u) r.row call × IsMissing call) calls = happened-in (λ call. IsClaim (bay_of r.n r.row u) r.row call × IsMissing call) calls h in
          let here : taken.missing ≡ Some (at_unit u) = missing-at taken.missing calls (units r.n) taken.row.wanted u s.got (in-units r.n u below) x.call x.inside x.is.0 (ap grant_of x.is.1.1) in
          let there : taken.missing ≡ Some (at_unit unit) = gap-at taken.missing calls (units r.n) taken.row.wanted unit s.got hole in
          let one : u ≡ unit = one-unit r.n r.row u unit below (gap-below (units r.n) taken.row.wanted unit (units-all r.n) hole) (some-same (sym here ∙ there)) in
          let clash : true ≡ false = sym has ∙ ap (has_unit note.mask) one ∙ aside.0 in
          absurd (cc)

      shown : NoneShown r.n r.row note calls
      shown u below has h =
          let x : HappenedIn (λ call. IsClaim (bay_of r.n r.row u) r.row call × ShowsLast note.origin call) calls = happened-in (λ call. IsClaim (bay_of r.n r.row u) r.row call × ShowsLast note.origin call) calls h in
          let put : is_put note (zip (units r.n) taken.row.wanted) ≡ true =
          put-at taken.missing calls note (units r.n) taken.row.wanted u s.got (in-units r.n u below) has x.call x.inside x.is.0 x.is.1.0 x.is.1.1 x.is.1.2 in
          let clash : true ≡ false = sym put ∙ aside.1 in
          absurd (cc)

  pub leaves-sound : (calls : List Call) (taken : Taken) → Finding [] calls taken → verdict r taken.row ≡ Leaves → Sound calls
  leaves-sound calls taken s leaves note h =
      let p = parity-seized taken.row.parity calls note s.shows h in
      let noted : seized_note taken.row.parity ≡ Some note = ap seized_note p.1 ∙ p.2 in
      by noted (missing_in (zip (units r.n) taken.row.wanted)) refl (subst (λ (o : Option Grant). verdict_of r taken.row o ≡ Leaves) p.1 leaves)
    where
      by : seized_note taken.row.parity ≡ Some note → (m : Option ℕ) → missing_in (zip (units r.n) taken.row.wanted) ≡ m → hole_verdict r taken.row m ≡ Leaves → FoundSound r.n r.row note calls
      by noted None is e = absurd (cc)
      by noted (Some unit) is e =
          untorn calls taken note unit s is
          (not-torn (note.mask == 0) (has_unit note.mask unit) (is_put note (zip (units r.n) taken.row.wanted))
          (subst (λ (o : Option Note). is_torn_by o (zip (units r.n) taken.row.wanted) unit ≡ false) noted (leaves-not (is_torn r taken.row unit) unit e)))

  -- The recovery
  puts-free : (row : Row) (n : Number) (lost : Option ℕ) (calls : List Call) (walk : Walk (Unit {0})) → Frees calls (recover_put r row n lost walk)
  puts-free row n lost calls (Stopped u e reply) = freeing refused_by_quit (λ _ _. []) (ends.Refused (put_cause r.row e reply)) (unseized_data r row) calls (inr (data-aside row))
  puts-free row n lost calls (Through u) =
      freeing (λ _. ends.Recovered n false lost) (λ _ _. []) (ends.Recovered n true lost) (granted_data r row) calls (inr (granted-aside (units r.n) row.wanted (units-aside r.n r.row)))

  by-frees : (row : Row) (n : Number) (calls : List Call) (v : Verdict) → (v ≡ Leaves → Sound calls) → Frees calls (recover_by r row n v)
  by-frees row n calls Leaves sound =
      freeing refused_by_quit (λ _ _. []) (ends.Recovered n true None) (granted_data r row ++ parity_granted r.n r.row row.parity) calls (inl (sound refl))
  by-frees row n calls (Sums lost) sound =
      walk-asking (FreesSound r) (recover_putting r lost) (recover_put r row n lost) (put r.id r.row n (recovered_parity row lost) parity) [] tt calls
      (λ at id k is. absurd (cc))
      (λ call is fit u e. puts-free row n lost (call ∷ calls) (Through u))
      (λ call is fit none. puts-free row n lost (call ∷ calls) (Stopped tt (put r.id r.row n (recovered_parity row lost) parity) call.answer.reply))

  draws-free : (row : Row) (calls : List Call) → ShowsParity r.n r.row row.parity calls → (verdict r row ≡ Leaves → Sound calls) → (d : Result Number Spent) → Frees calls (recover_drawn r row d)
  draws-free row calls shows sound (Err spent) = refuses row (causes.Spent spent.seen) calls shows
  draws-free row calls shows sound (Ok n) = by-frees row n calls (verdict r row) sound

  shows-aside : (o : Option Grant) (calls : List Call) (call : Call) → NoClaim call → ShowsParity r.n r.row o calls → ShowsParity r.n r.row o (call ∷ calls)
  shows-aside o calls call none h = shows-more o calls call (λ of grant e. absurd (none parity of)) h

  confirms-free : (taken : Taken) (calls : List Call) → Finding [] calls taken → Frees calls (units_seized r (Through taken))
  confirms-free taken calls s =
      walk-asking (FreesSound r) (recover_confirming taken) (recover_confirmed r taken) (confirm r.id r.row false parity) [] tt calls
      (λ row id n is. absurd (cc))
      (λ call is fit u e. λ d. draws-free taken.row (call ∷ calls) (shows-aside taken.row.parity calls call (aside call is) s.shows) (λ leaves. sound-more calls call (aside call is) (leaves-sound calls taken s leaves)) d)
      (λ call is fit none. refuses taken.row _ (call ∷ calls) (shows-aside taken.row.parity calls call (aside call is) s.shows))
    where
      aside : (call : Call) → errand_of call ≡ confirm r.id r.row false parity → NoClaim call
      aside call is = confirmed-no-claim call (what-is call (confirm r.id r.row false parity) is)

  units-free : (us : List ℕ) (taken : Taken) (calls : List Call) → Finding us calls taken →
      Frees calls (bind (run (taking None with_wanted) (claims r.id r.row Seize true (bays_of r.n r.row us)) taken) (units_seized r))
  units-free [] taken calls s = confirms-free taken calls s
  units-free (u ∷ us) taken calls s =
      walk-asking (FreesSound r) (taking None with_wanted) (units_seized r) (claim r.id r.row Seize 0 true (bay_of r.n r.row u)) (claims r.id r.row Seize true (bays_of r.n r.row us)) taken calls
      (λ row id n is. absurd (cc))
      (λ call is fit b e. units-free us b (call ∷ calls) (finding-more u us calls call taken b s is fit e))
      (λ call is fit none. refuses taken.row (why None taken (claim r.id r.row Seize 0 true (bay_of r.n r.row u)) call.answer.reply) (call ∷ calls)
      (shows-unit u taken.row.parity calls call s.aside.0 (bay-is call (claim r.id r.row Seize 0 true (bay_of r.n r.row u)) is) s.shows))

  -- the parity's claim is the first call
  pub fresh-after : (call : Call) → call.bay ≡ parity → (us : List ℕ) → AllByRecursion (Aside r.n r.row) us → AllByRecursion (λ v. Fresh (call ∷ []) v) us
  fresh-after call at [] all = tt
  fresh-after call at (v ∷ us) all = (by, fresh-after call at us all.1)
    where
      by : Fresh (call ∷ []) v
      by c (inl same) of = let here : call.bay ≡ at_unit v = subst (λ (x : Call). x.bay ≡ at_unit v) (sym same) of.0 in absurd (all.0 (sym here ∙ at))
      by c (inr i) of = absurd i

  parity-frees : (taken : Taken) (calls : List Call) → ShowsParity r.n r.row taken.row.parity calls → Finding (units r.n) calls taken → Frees calls (parity_seized r (Through taken))
  parity-frees taken calls shows s = by taken.row.parity
    where
      begins : Frees calls (seize_units r taken)
      begins = units-free (units r.n) taken calls s

      operator : (b : Bool) → Frees calls (if b then seize_units r taken else recover_refused r taken.row (causes.Gone parity))
      operator true = begins
      operator false = refuses taken.row (causes.Gone parity) calls shows

      by : (o : Option Grant) → Frees calls (parity_taken r taken o)
      by (Some grant) = begins
      by None = operator (r.host.0 == 0)

  -- the first reply gives the parity, and no unit yet
  pub taken-parity : (at : BayNo) (taken b : Taken) (c : Option Cause) (o : Option Grant) → option_map (with_grant with_parity taken at) (unless c o) ≡ Some b → (o ≡ b.row.parity) × (taken.row.wanted ≡ b.row.wanted)
  taken-parity at taken b (Some cause) o e = absurd (cc)
  taken-parity at taken b None None e =
      let same : with_grant with_parity taken at None ≡ b = cc in (ap (λ (t : Taken). t.row.parity) same, ap (λ (t : Taken). t.row.wanted) same)
  taken-parity at taken b None (Some grant) e =
      let same : with_grant with_parity taken at (Some grant) ≡ b = cc in (ap (λ (t : Taken). t.row.parity) same, ap (λ (t : Taken). t.row.wanted) same)

  pub none-yet : (o : Option Grant) → ShowsParity r.n r.row o []
  none-yet o c i of grant e = absurd i

  pub recoveries-free : Asking (FreesSound r) [] (recover_steps r)
  recoveries-free =
      let first : Taken = begun (whole_part r) no_rows in
      walk-asking (FreesSound r) (taking None with_parity) (parity_seized r) (claim r.id r.row Seize 0 true parity) [] first []
      (λ row id n is. absurd (cc))
      (λ call is fit b e. begin call b (bay-is call (claim r.id r.row Seize 0 true parity) is)
      (taken-parity parity first b (refusal None first.missing parity call.answer.reply) (grant_of call.answer.reply) e))
      (λ call is fit none. refuses first.row (why None first (claim r.id r.row Seize 0 true parity) call.answer.reply) (call ∷ [])
      (shows-more None [] call (λ of grant e1. absurd (refuses-grant first.missing parity call.answer.reply (with_grant with_parity first parity) grant none e1)) (none-yet None)))
    where
      begin : (call : Call) (b : Taken) → call.bay ≡ parity → (grant_of call.answer.reply ≡ b.row.parity) × ([] ≡ b.row.wanted) → Frees (call ∷ []) (parity_seized r (Through b))
      begin call b at k =
          let shows : ShowsParity r.n r.row b.row.parity (call ∷ []) = shows-more b.row.parity [] call (λ of grant e1. sym k.0 ∙ e1) (none-yet b.row.parity) in
          parity-frees b (call ∷ []) shows (record {
            shows = shows;
            got = subst (λ (gs : List (Option Grant)). Got b.missing (call ∷ []) (units r.n) (units r.n) gs) k.1 refl;
            fresh = fresh-after call at (units r.n) (units-aside r.n r.row);
            aside = units-aside r.n r.row;
            apart = apart-units;
          })

-- With what was answered: before a recovery gives back a parity whose note it seized, each claim of its units was answered,
-- and the row is not torn
pub record FoundWhole (r : Rescue) (note : Note) (calls : List Call) : Type 0 where
  pub answered : AreAnswered r.n r.row [] calls
  pub sound : FoundSound r.n r.row note calls

abbrev pub FreesWhole : Rescue → List Call → Errand → Type 0
FreesWhole r calls e = (row : RowNo) (id : Number) (n : Option Number) → e.request ≡ Release row id n → e.bay ≡ parity_bay r.n r.row → (note : Note) → HasSeized r.n r.row note calls → FoundWhole r note calls

both-asking : {A : Type 0} (P Q R : List Call → Errand → Type 0) → ((calls : List Call) (e : Errand) → P calls e → Q calls e → R calls e) → (calls : List Call) (s : Steps A) → Asking P calls s → Asking Q calls s → Asking R calls s
both-asking P Q R join calls (Ends a) p q = tt
both-asking P Q R join calls (Draws k) p q = λ d. both-asking P Q R join calls (k d) (p d) (q d)
both-asking P Q R join calls (Asks e t c k) p q = (join calls e p.0 q.0, λ call is fit. both-asking P Q R join (call ∷ calls) (k call.answer.reply) (p.1 call is fit) (q.1 call is fit))

all-answered : (r : Rescue) (note : Note) (calls : List Call) → HasSeized r.n r.row note calls → MayFree r.n r.row calls → AreAnswered r.n r.row [] calls
all-answered r note calls h (inl answered) = answered
all-answered r note calls h (inr none) =
    let x : HappenedIn (λ call. IsClaim (parity_bay r.n r.row) r.row call × Seizes note call) calls = happened-in (λ call. IsClaim (parity_bay r.n r.row) r.row call × Seizes note call) calls h in
    let clash : None ≡ Some note = sym (none x.call x.inside x.is.0 x.is.1.0 x.is.1.1) ∙ x.is.1.2 in
    absurd (cc)

pub recoveries-find : (r : Rescue) → Asking (FreesWhole r) [] (recover_steps r)
recoveries-find r =
    both-asking (RecoverAsks r) (FreesSound r) (FreesWhole r)
    (λ calls e asks frees row id n is at note h. record { answered = all-answered r note calls h ((asks.frees row id n is).1 at); sound = frees row id n is at note h })
    [] (recover_steps r) (recoveries-ask r) (recoveries-free r)

-- so it is where a recovery in hand asks to give it back
pub recovery-found : (r : Rescue) (host : HostNo) (seen : Number) (calls : List Call) (now : Standing Finish) (e : Errand) → Led host (settled host seen (recover_steps r)) calls now →
    next_errand now.steps ≡ Some e → FreesWhole r calls e
recovery-found r host seen calls now e led asked =
    next-asking (FreesWhole r) calls now.steps e
    (led-asking (FreesWhole r) host (settled host seen (recover_steps r)) calls now (settled-asking (FreesWhole r) host seen [] (recover_steps r) (recoveries-find r)) led) asked
