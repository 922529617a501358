-- How a recovery ends, by what its calls found: it names a unit lost where they found the row torn with that unit missing, and
-- none where they did not.
use Rattle.std.proofs.Common.{arith, ◌≡◌, ◌≢◌, ◌⊎◌, inl, inr, refl, sym, ap, subst, ◌∙◌, ℕ, ◌+◌, ◌-◌, ◌%◌, ◌<◌, ◌≤◌, ◌==◌, nat_lt, not, ◌&&◌, ◌||◌, Bool, true, false, if◌then◌else◌, List, [], ◌∷◌, ◌++◌, zip, Option, Some, None, option_map, IsSome, Result, Ok, Err}
use Rattle.std.specs.List.{AllByRecursion}
use Rattle.std.proofs.lemmas.Bool.Decides.{nat_tests}
use Rattle.raid_base.specs.declared.numbers.BayNo.{BayNo}
use Rattle.raid_base.specs.declared.numbers.HostNo.{HostNo}
use Rattle.raid_base.specs.declared.numbers.RowNo.{RowNo}
use Rattle.raid_base.specs.declared.numbers.Number.{Number}
use Rattle.raid_base.specs.declared.numbers.Spent.{Spent}
use Rattle.raid_base.specs.declared.cells.Cell.{Cell}
use Rattle.raid_base.specs.declared.messages.How.TheVariants.{Seize}
use Rattle.raid_base.specs.declared.messages.Call.{Call}
use Rattle.raid_base.specs.declared.messages.Errand.{Errand}
use Rattle.raid_base.specs.declared.messages.Grant.{Grant}
use Rattle.raid_base.specs.declared.messages.Note.{Note}
use Rattle.raid_base.specs.declared.messages.Request.{Request}
use Rattle.raid_base.specs.declared.messages.Request.TheVariants.{Claim, Put}
use Rattle.raid_base.specs.declared.messages.Reply.TheVariants.{Missing}
use Rattle.raid_base.specs.declared.jobs.Cause.{Cause}
use Rattle.raid_base.specs.declared.jobs.Cause.TheVariants as causes
use Rattle.raid_base.specs.declared.jobs.Ended.{Ended}
use Rattle.raid_base.specs.declared.jobs.Ended.TheVariants as ends
use Rattle.raid_base.specs.Cells.{has_unit}
use Rattle.raid_base.specs.Fits.{fits}
use Rattle.raid_base.specs.Numbers.{draw, seen_drawn, sees}
use Rattle.raid_base.specs.Replies.{grant_of}
use Rattle.raid_base.specs.Steps.{Steps, Asks, Draws, Ends, Standing, Commit, bind, go_on, Walk, Through, Stopped, Phase, run, settled, behind, next_errand, errand_of}
use Rattle.stripe_layout.specs.Placement.{bay, parity_at, parity_bay, bay_of, bays_of, units}
use Rattle.stripe_layout.proofs.Wrapping.{wrap}
use Rattle.attempts.specs.declared.Rescue.{Rescue}
use Rattle.attempts.specs.Taking.{Finish, refused_by_quit, Row, no_rows, Taken, begun, with_grant, with_parity, with_wanted, refusal, unless, taking, why, claim, claims, confirm}
use Rattle.attempts.specs.Releases.{release, refused_steps, parity_granted, end_as}
use Rattle.attempts.specs.Puts.{put}
use Rattle.attempts.specs.Mending.{put_cause}
use Rattle.attempts.specs.Recovery.{whole_part, unseized_data, unseized_parity, granted_data, give_back, recover_refused, missing_in, is_put, is_torn_by, seized_note, is_torn, Verdict, Leaves, Sums, hole_verdict, verdict_of, verdict, recovered_parity, recover_putting, recover_put, recover_by, recover_drawn, recover_confirming, recover_confirmed, units_seized, seize_units, parity_taken, parity_seized, recover_steps}
use Rattle.attempts.specs.Phases.{IsIn}
use Rattle.attempts.proofs.PhaseLemmas.{units-aside}
use Rattle.attempts.proofs.SoundLemmas.{units-all}
use Rattle.histories.specs.Calls.{Happened, IsClaim}
use Rattle.histories.specs.Torn.{Seizes, ShowsLast, IsMissing, FoundTorn}
use Rattle.histories.specs.Hands.{Led}
use Rattle.row_laws.proofs.holders.AnsweredFree.{happened-map}
use Rattle.row_laws.proofs.owners.RowOwnersTrees.{answers, what-is, bay-is}
use Rattle.row_laws.proofs.owners.RowOwnersHands.{happened-in}
use Rattle.row_laws.proofs.torn.RecoveryFinds.{FoundSound, one-unit, in-units, NoClaim, Sound, shows-more, Tells, Got, apart-units, Finding, kept, finding-more, gap-at, gap-below, leaves-sound, fresh-after, taken-parity, none-yet, released-no-claim, confirmed-no-claim}

-- Whatever the calls: where the steps end, or their host stops before a request, P holds of the calls so far, the newest first,
-- and of that end
abbrev pub Telling : (List Call → Ended → Type 0) → List Call → Steps Finish → Type 0
Telling P calls (Ends f) = P calls f.ended
Telling P calls (Draws k) = (d : Result Number Spent) → Telling P calls (k d)
Telling P calls (Asks e s c k) = P calls s × ((call : Call) → errand_of call ≡ e → fits call.ask.what call.answer.reply ≡ true → Telling P (call ∷ calls) (k call.answer.reply))

module _ (P : List Call → Ended → Type 0) where
  pub settled-telling : (host : HostNo) (seen : Number) (calls : List Call) (s : Steps Finish) → Telling P calls s → Telling P calls (settled host seen s).steps
  settled-telling host seen calls (Asks e t c k) h = h
  settled-telling host seen calls (Draws k) h = settled-telling host (seen_drawn seen (draw host seen)) calls (k (draw host seen)) (h (draw host seen))
  settled-telling host seen calls (Ends f) h = h

  pub told-telling : (host : HostNo) (seen : Number) (calls : List Call) (call : Call) (s : Steps Finish) → Telling P calls s → next_errand s ≡ Some (errand_of call) →
      fits call.ask.what call.answer.reply ≡ true → Telling P (call ∷ calls) (settled host seen (behind s call.answer.reply)).steps
  told-telling host seen calls call (Asks e t c k) h asked fit =
      let is : errand_of call ≡ e = cc in
      settled-telling host seen (call ∷ calls) (k call.answer.reply) (h.1 call is fit)
  told-telling host seen calls call (Draws k) h asked fit = absurd (cc)
  told-telling host seen calls call (Ends f) h asked fit = absurd (cc)

  -- so it is where its calls have led
  pub led-telling : (host : HostNo) (start : Standing Finish) (calls : List Call) (now : Standing Finish) → Telling P [] start.steps → Led host start calls now → Telling P calls now.steps
  led-telling host start [] now h led = subst (λ (x : Standing Finish). Telling P [] x.steps) led h
  led-telling host start (call ∷ earlier) now h (before, led, asked, fit, later) =
      subst (λ (x : Standing Finish). Telling P (call ∷ earlier) x.steps) later
      (told-telling host (sees before.seen call.answer.reply) earlier call before.steps (led-telling host start earlier before h led) asked fit)

  -- a walk goes on or stops
  go-telling : {A : Type 0} (calls : List Call) (o : Option A) (g : A → Steps (Walk A)) (s : Steps (Walk A)) (f : Walk A → Steps Finish) →
      ((a : A) → o ≡ Some a → Telling P calls (bind (g a) f)) → (o ≡ None → Telling P calls (bind s f)) → Telling P calls (bind (go_on o g s) f)
  go-telling calls (Some a) g s f on off = on a refl
  go-telling calls None g s f on off = off refl

  walk-telling : {A : Type 0} (phase : Phase A) (f : Walk A → Steps Finish) (e : Errand) (es : List Errand) (a : A) (calls : List Call) → P calls (phase.stop a) →
      ((call : Call) → errand_of call ≡ e → fits call.ask.what call.answer.reply ≡ true → (b : A) → phase.step a e call.answer.reply ≡ Some b → Telling P (call ∷ calls) (bind (run phase es b) f)) →
      ((call : Call) → errand_of call ≡ e → fits call.ask.what call.answer.reply ≡ true → phase.step a e call.answer.reply ≡ None → Telling P (call ∷ calls) (f (Stopped a e call.answer.reply))) →
      Telling P calls (bind (run phase (e ∷ es) a) f)
  walk-telling phase f e es a calls stop on off = (
    stop,
    λ call is fit. go-telling (call ∷ calls) (phase.step a e call.answer.reply) (λ b. run phase es b) (Ends (Stopped a e call.answer.reply)) f (on call is fit) (off call is fit),
  )

-- all units of a mask are units of a row
abbrev pub IsWithin : ℕ → ℕ → Type 0
IsWithin n mask = (unit : ℕ) → has_unit mask unit ≡ true → unit < n - 1

-- What the calls of a recovery found that has named this unit lost, or none: that unit was missing of a torn row, and no other
-- one was; and all claims of one unit were answered alike
pub record Named (n : ℕ) (row : RowNo) (lost : Option ℕ) (calls : List Call) : Type 0 where
  pub torn : (unit : ℕ) → lost ≡ Some unit → (unit < n - 1) × ((note : Note) × FoundTorn n row calls unit note)
  pub names : (unit : ℕ) (note : Note) → unit < n → IsWithin n note.mask → FoundTorn n row calls unit note → lost ≡ Some unit
  pub once : (unit : ℕ) → unit < n - 1 → (c d : Call) → IsIn c calls → IsIn d calls → IsClaim (bay_of n row unit) row c → IsClaim (bay_of n row unit) row d →
      grant_of c.answer.reply ≡ grant_of d.answer.reply

-- so it ends
abbrev pub EndsNamed : ℕ → RowNo → List Call → Ended → Type 0
EndsNamed n row calls (ends.Recovered number closed lost) = Named n row lost calls
EndsNamed n row calls (ends.Read number) = Unit {0}
EndsNamed n row calls (ends.Wrote number) = Unit {0}
EndsNamed n row calls (ends.Part number made cause) = Unit {0}
EndsNamed n row calls (ends.Refused cause) = Unit {0}
EndsNamed n row calls ends.Mended = Unit {0}

-- Places. A unit of a row has a bay of its own, and the last number that of the parity
wraps-back : (n p u : ℕ) → p < n → u < n → n - 1 ≤ u → (p + 1 + u) % n ≡ p
wraps-back n p u hp hu le = elim (wrap n (p + 1 + u) (omega arith)) [ inl w ↦ omega arith | inr w ↦ omega arith ]

unit-or-parity : (n : ℕ) (row : RowNo) (unit : ℕ) → unit < n → (unit < n - 1) ⊎ (bay_of n row unit ≡ parity_bay n row)
unit-or-parity n row unit below = by (nat_lt unit (n - 1)) refl
  where
    by : (b : Bool) → nat_lt unit (n - 1) ≡ b → (unit < n - 1) ⊎ (bay_of n row unit ≡ parity_bay n row)
    by true e = inl (grind (arith, nat_tests))
    by false e =
        let le : n - 1 ≤ unit = grind (arith, nat_tests) in
        let inside : parity_at n row < n = omega (arith, below) in
        inr (ap bay (wraps-back n (parity_at n row) unit inside below le))

-- Truth values
torn-parts : (a b c : Bool) → (not a && (b || c)) ≡ true → (a ≡ false) × ((b ≡ true) ⊎ (c ≡ true))
torn-parts true b c e = absurd (cc)
torn-parts false true c e = (refl, inl refl)
torn-parts false false true e = (refl, inr refl)
torn-parts false false false e = absurd (cc)

both-parts : (a b c : Bool) → ((a && b) || c) ≡ true → ((a ≡ true) × (b ≡ true)) ⊎ (c ≡ true)
both-parts true true c e = inl (refl, refl)
both-parts true false c e = inr e
both-parts false b c e = inr e

-- what is there
pub some-one : {X : Type 0} {x y : X} → Some x ≡ Some y → x ≡ y
some-one e = cc

-- what a verdict names lost
abbrev lost_in : Verdict → Option ℕ
lost_in Leaves = None
lost_in (Sums lost) = lost

module _ (r : Rescue) where
  abbrev parity : BayNo
  parity = parity_bay r.n r.row

  abbrev at_unit : ℕ → BayNo
  at_unit u = bay_of r.n r.row u

  abbrev Torn : List Call → ℕ → Note → Type 0
  Torn calls unit note = FoundTorn r.n r.row calls unit note

  -- One call more that claims nothing
  torn-more : (calls : List Call) (call : Call) (unit : ℕ) (note : Note) → Torn calls unit note → Torn (call ∷ calls) unit note
  torn-more calls call unit note f = record { noted = inr f.noted; mask = f.mask; missing = inr f.missing; reached = by f.reached }
    where
      by : (has_unit note.mask unit ≡ true) ⊎ ((other : ℕ) × (other + 1 < r.n) × (has_unit note.mask other ≡ true) × Happened (λ call. IsClaim (at_unit other) r.row call × ShowsLast note.origin call) calls) →
          (has_unit note.mask unit ≡ true) ⊎ ((other : ℕ) × (other + 1 < r.n) × (has_unit note.mask other ≡ true) × Happened (λ call. IsClaim (at_unit other) r.row call × ShowsLast note.origin call) (call ∷ calls))
      by (inl has) = inl has
      by (inr (other, inside, has, shown)) = inr (other, inside, has, inr shown)

  before-it : (at : BayNo) (Q : Call → Type 0) (calls : List Call) (call : Call) → NoClaim r call → Happened (λ c. IsClaim at r.row c × Q c) (call ∷ calls) → Happened (λ c. IsClaim at r.row c × Q c) calls
  before-it at Q calls call none (inl x) = absurd (none at x.0)
  before-it at Q calls call none (inr h) = h

  torn-before : (calls : List Call) (call : Call) (unit : ℕ) (note : Note) → NoClaim r call → Torn (call ∷ calls) unit note → Torn calls unit note
  torn-before calls call unit note none f = record {
    noted = before-it parity (Seizes note) calls call none f.noted;
    mask = f.mask;
    missing = before-it (at_unit unit) IsMissing calls call none f.missing;
    reached = by f.reached;
  }
    where
      by : (has_unit note.mask unit ≡ true) ⊎ ((other : ℕ) × (other + 1 < r.n) × (has_unit note.mask other ≡ true) × Happened (λ call. IsClaim (at_unit other) r.row call × ShowsLast note.origin call) (call ∷ calls)) →
          (has_unit note.mask unit ≡ true) ⊎ ((other : ℕ) × (other + 1 < r.n) × (has_unit note.mask other ≡ true) × Happened (λ call. IsClaim (at_unit other) r.row call × ShowsLast note.origin call) calls)
      by (inl has) = inl has
      by (inr (other, inside, has, shown)) = inr (other, inside, has, before-it (at_unit other) (ShowsLast note.origin) calls call none shown)

  named-more : (lost : Option ℕ) (calls : List Call) (call : Call) → NoClaim r call → Named r.n r.row lost calls → Named r.n r.row lost (call ∷ calls)
  named-more lost calls call none h = record {
    torn = λ unit is. (let t = h.torn unit is in (t.0, (t.1.0, torn-more calls call unit t.1.0 t.1.1)));
    names = λ unit note below within f. h.names unit note below within (torn-before calls call unit note none f);
    once = λ unit below c d i j of for. by unit below c d i j of for;
  }
    where
      among : (unit : ℕ) (c : Call) → IsIn c (call ∷ calls) → IsClaim (at_unit unit) r.row c → IsIn c calls
      among unit c (inl same) of = absurd (none (at_unit unit) (subst (IsClaim (at_unit unit) r.row) (sym same) of))
      among unit c (inr i) of = i

      by : (unit : ℕ) → unit < r.n - 1 → (c d : Call) → IsIn c (call ∷ calls) → IsIn d (call ∷ calls) → IsClaim (at_unit unit) r.row c → IsClaim (at_unit unit) r.row d → grant_of c.answer.reply ≡ grant_of d.answer.reply
      by unit below c d i j of too = h.once unit below c d (among unit c i of) (among unit d j too) of too

  put-no-claim : (call : Call) (n : Number) (cell : Cell) → call.ask.what ≡ Put r.row r.id n cell → NoClaim r call
  put-no-claim call n cell is at of = let both : Put r.row r.id n cell ≡ Claim r.row of.1 of.2 of.3 of.4 = sym is ∙ of.5 in absurd (cc)

  -- What is known while the units are claimed. What was answered to the claims of each
  abbrev Says : List Call → ℕ → Option Grant → Type 0
  Says calls u None = Happened (λ call. IsClaim (at_unit u) r.row call × IsMissing call) calls
  Says calls u (Some grant) = Happened (λ call. IsClaim (at_unit u) r.row call × (grant_of call.answer.reply ≡ Some grant)) calls

  abbrev Said : List Call → List ℕ → List ℕ → List (Option Grant) → Type 0
  Said calls us left [] = us ≡ left
  Said calls [] left (o ∷ gs) = ⊥
  Said calls (u ∷ us) left (o ∷ gs) = Says calls u o × Said calls us left gs

  says-more : (calls : List Call) (call : Call) (u : ℕ) (o : Option Grant) → Says calls u o → Says (call ∷ calls) u o
  says-more calls call u None h = inr h
  says-more calls call u (Some grant) h = inr h

  said-next : (calls : List Call) (call : Call) (us left : List ℕ) (u : ℕ) (gs : List (Option Grant)) (o : Option Grant) → Says (call ∷ calls) u o → Said calls us (u ∷ left) gs →
      Said (call ∷ calls) us left (gs ++ o ∷ [])
  said-next calls call us left u [] o new h = let e : u ∷ left ≡ us = sym h in subst (λ (xs : List ℕ). Said (call ∷ calls) xs left (o ∷ [])) e (new, refl)
  said-next calls call [] left u (g ∷ gs) o new h = absurd h
  said-next calls call (v ∷ us) left u (g ∷ gs) o new h = (says-more calls call v g h.0, said-next calls call us left u gs o new h.1)

  record Knowing (left : List ℕ) (calls : List Call) (taken : Taken) : Type 0 where
    finding : Finding r left calls taken
    told : (call : Call) → IsIn call calls → IsClaim parity r.row call → grant_of call.answer.reply ≡ taken.row.parity
    granted : (grant : Grant) → taken.row.parity ≡ Some grant → Happened (λ call. IsClaim parity r.row call × (grant_of call.answer.reply ≡ Some grant)) calls
    said : Said calls (units r.n) left taken.row.wanted

  same-parity : (at : BayNo) (taken : Taken) (o : Option Grant) → taken.row.parity ≡ (with_grant with_wanted taken at o).row.parity
  same-parity at taken None = refl
  same-parity at taken (Some grant) = refl

  more-wanted : (at : BayNo) (taken : Taken) (o : Option Grant) → taken.row.wanted ++ o ∷ [] ≡ (with_grant with_wanted taken at o).row.wanted
  more-wanted at taken None = refl
  more-wanted at taken (Some grant) = refl

  knowing-more : (u : ℕ) (us : List ℕ) (calls : List Call) (call : Call) (taken b : Taken) → Knowing (u ∷ us) calls taken → errand_of call ≡ claim r.id r.row Seize 0 true (at_unit u) →
      fits call.ask.what call.answer.reply ≡ true →
      option_map (with_grant with_wanted taken (at_unit u)) (unless (refusal None taken.missing (at_unit u) call.answer.reply) (grant_of call.answer.reply)) ≡ Some b → Knowing us (call ∷ calls) b
  knowing-more u us calls call taken b s is fit e =
      let k = kept r (at_unit u) taken b (refusal None taken.missing (at_unit u) call.answer.reply) (grant_of call.answer.reply) e in
      let same : taken.row.parity ≡ b.row.parity = same-parity (at_unit u) taken (grant_of call.answer.reply) ∙ ap (λ (t : Taken). t.row.parity) k.1 in
      let wanted : taken.row.wanted ++ grant_of call.answer.reply ∷ [] ≡ b.row.wanted = more-wanted (at_unit u) taken (grant_of call.answer.reply) ∙ ap (λ (t : Taken). t.row.wanted) k.1 in
      record {
        finding = finding-more r u us calls call taken b s.finding is fit e;
        told = λ c i of. told c i of ∙ same;
        granted = λ grant g. inr (s.granted grant (same ∙ g));
        said = subst (λ (gs : List (Option Grant)). Said (call ∷ calls) (units r.n) us gs) wanted
            (said-next calls call (units r.n) us u taken.row.wanted (grant_of call.answer.reply) (says (grant_of call.answer.reply) refl k.0) s.said);
      }
    where
      at : call.bay ≡ at_unit u
      at = bay-is call (claim r.id r.row Seize 0 true (at_unit u)) is

      what : call.ask.what ≡ Claim r.row r.id Seize 0 true
      what = what-is call (claim r.id r.row Seize 0 true (at_unit u)) is

      of-unit : IsClaim (at_unit u) r.row call
      of-unit = (at, r.id, Seize, 0, true, what)

      told : (c : Call) → IsIn c (call ∷ calls) → IsClaim parity r.row c → grant_of c.answer.reply ≡ taken.row.parity
      told c (inl same) of = let here : call.bay ≡ parity = subst (λ (x : Call). x.bay ≡ parity) (sym same) of.0 in absurd (s.finding.aside.0 (sym at ∙ here))
      told c (inr i) of = s.told c i of

      lacks : (grant_of call.answer.reply ≡ None) → IsSome (grant_of call.answer.reply) ⊎ ((floor : Number) × (call.answer.reply ≡ Missing floor)) → IsMissing call
      lacks none (inl some) = absurd (let bad : false ≡ true = subst (λ (o : Option Grant). IsSome o) none some in cc)
      lacks none (inr gap) = gap

      says : (o : Option Grant) → grant_of call.answer.reply ≡ o → refusal None taken.missing (at_unit u) call.answer.reply ≡ None → Says (call ∷ calls) u o
      says None none fine = inl (of-unit, lacks none (answers taken.missing (at_unit u) call.answer.reply (subst (λ (w : Request). fits w call.answer.reply ≡ true) what fit) fine))
      says (Some grant) some fine = inl (of-unit, some)

  -- Verdicts. What was answered to the claims of a unit
  told-at : (missing : Option BayNo) (calls : List Call) (us : List ℕ) (gs : List (Option Grant)) (u : ℕ) → Got r missing calls us [] gs → IsIn u us →
      (o : Option Grant) × Tells r missing calls u o × (o ≡ None → (v : ℕ) × (missing_in (zip us gs) ≡ Some v))
  told-at missing calls [] gs u h i = absurd i
  told-at missing calls (v ∷ us) [] u h i = absurd (cc)
  told-at missing calls (v ∷ us) (g ∷ gs) u h (inl same) = (g, subst (λ (w : ℕ). Tells r missing calls w g) same h.0, λ none. (v, here g none))
    where
      here : (g : Option Grant) → g ≡ None → missing_in ((v, g) ∷ zip us gs) ≡ Some v
      here None e = refl
      here (Some grant) e = absurd (cc)
  told-at missing calls (v ∷ us) (g ∷ gs) u h (inr i) = let rest = told-at missing calls us gs u h.1 i in (rest.0, rest.1, λ none. there g (rest.2 none))
    where
      there : (g : Option Grant) → (w : ℕ) × (missing_in (zip us gs) ≡ Some w) → (w : ℕ) × (missing_in ((v, g) ∷ zip us gs) ≡ Some w)
      there None x = (v, refl)
      there (Some grant) x = x

  missing-said : (calls : List Call) (us : List ℕ) (gs : List (Option Grant)) (unit : ℕ) → Said calls us [] gs → missing_in (zip us gs) ≡ Some unit →
      Happened (λ call. IsClaim (at_unit unit) r.row call × IsMissing call) calls
  missing-said calls [] gs unit h e = absurd (cc)
  missing-said calls (u ∷ us) [] unit h e = absurd (cc)
  missing-said calls (u ∷ us) (Some grant ∷ gs) unit h e = missing-said calls us gs unit h.1 e
  missing-said calls (u ∷ us) (None ∷ gs) unit h e =
      let same : u ≡ unit = cc in subst (λ (v : ℕ). Happened (λ call. IsClaim (at_unit v) r.row call × IsMissing call) calls) same h.0

  abbrev WasPut : List Call → Note → Type 0
  WasPut calls note = (other : ℕ) × (other + 1 < r.n) × (has_unit note.mask other ≡ true) × Happened (λ call. IsClaim (at_unit other) r.row call × ShowsLast note.origin call) calls

  put-said : (calls : List Call) (note : Note) (us : List ℕ) (gs : List (Option Grant)) → AllByRecursion (λ (u : ℕ). u < r.n - 1) us → Said calls us [] gs → is_put note (zip us gs) ≡ true → WasPut calls note
  put-said calls note [] gs inside h e = absurd (cc)
  put-said calls note (u ∷ us) [] inside h e = absurd (cc)
  put-said calls note (u ∷ us) (None ∷ gs) inside h e = put-said calls note us gs inside.1 h.1 e
  put-said calls note (u ∷ us) (Some grant ∷ gs) inside h e = by (both-parts (has_unit note.mask u) (grant.last.0 == note.origin.0) (is_put note (zip us gs)) e) (put-said calls note us gs inside.1 h.1)
    where
      by : ((has_unit note.mask u ≡ true) × ((grant.last.0 == note.origin.0) ≡ true)) ⊎ (is_put note (zip us gs) ≡ true) → (is_put note (zip us gs) ≡ true → WasPut calls note) → WasPut calls note
      by (inl (has, same)) rest =
          let numbers : grant.last.0 ≡ note.origin.0 = grind (arith, nat_tests) in
          let last : grant.last ≡ note.origin = ap (λ (k : ℕ). let x : Number = record { 0 = k } in x) numbers in (
            u,
            (let low : u < r.n - 1 = inside.0 in omega (arith, low)),
            has,
            happened-map (λ call. IsClaim (at_unit u) r.row call × (grant_of call.answer.reply ≡ Some grant)) (λ call. IsClaim (at_unit u) r.row call × ShowsLast note.origin call)
                (λ call x. (x.0, (grant, x.1, last))) calls h.0,
          )
      by (inr more) rest = rest more

  module _ (calls : List Call) (taken : Taken) (s : Knowing [] calls taken) where
    abbrev Pairs : List (ℕ × Option Grant)
    Pairs = zip (units r.n) taken.row.wanted

    -- the parity's claim was granted, and so it was not missing
    parity-there : (unit : ℕ) (note : Note) → Torn calls unit note → at_unit unit ≡ parity → ⊥
    parity-there unit note f at =
        let m = happened-in calls f.missing in
        let g = happened-in calls f.noted in
        let none : grant_of m.0.answer.reply ≡ None = ap grant_of m.2.1.1 in
        let clash : None ≡ Some g.2.1.0 = sym none ∙ s.told m.0 m.1 (subst (λ (b : BayNo). IsClaim b r.row m.0) at m.2.0) ∙ sym (s.told g.0 g.1 g.2.0) ∙ g.2.1.1 in
        absurd (cc)

    unit-of : (unit : ℕ) (note : Note) → unit < r.n → Torn calls unit note → unit < r.n - 1
    unit-of unit note below f = by (unit-or-parity r.n r.row unit below)
      where
        by : (unit < r.n - 1) ⊎ (at_unit unit ≡ parity) → unit < r.n - 1
        by (inl inside) = inside
        by (inr at) = absurd (parity-there unit note f at)

    -- a unit that is missing of a torn row is the only missing one
    hole-is : (unit : ℕ) (note : Note) → unit < r.n → Torn calls unit note → missing_in Pairs ≡ Some unit
    hole-is unit note below f =
        let inside : unit < r.n - 1 = unit-of unit note below f in
        let t = told-at taken.missing calls (units r.n) taken.row.wanted unit s.finding.got (in-units r.n unit inside) in
        let m = happened-in calls f.missing in
        let none : t.0 ≡ None = sym (t.1.told m.0 m.1 m.2.0) ∙ ap grant_of m.2.1.1 in
        let hole = t.2 none in
        let here : taken.missing ≡ Some (at_unit unit) = t.1.gap none in
        let there : taken.missing ≡ Some (at_unit hole.0) = gap-at r taken.missing calls (units r.n) taken.row.wanted hole.0 s.finding.got hole.1 in
        let one : hole.0 ≡ unit = one-unit r.n r.row hole.0 unit (gap-below r (units r.n) taken.row.wanted hole.0 (units-all r.n) hole.1) inside (some-one (sym there ∙ here)) in
        hole.1 ∙ ap (λ (u : ℕ). Some u) one

    answered-once : (unit : ℕ) → unit < r.n - 1 → (c d : Call) → IsIn c calls → IsIn d calls → IsClaim (at_unit unit) r.row c → IsClaim (at_unit unit) r.row d → grant_of c.answer.reply ≡ grant_of d.answer.reply
    answered-once unit inside c d i j of too =
        let t = told-at taken.missing calls (units r.n) taken.row.wanted unit s.finding.got (in-units r.n unit inside) in
        t.1.told c i of ∙ sym (t.1.told d j too)

    -- where it names none
    names-none : ((unit : ℕ) (note : Note) → unit < r.n → IsWithin r.n note.mask → Torn calls unit note → ⊥) → Named r.n r.row None calls
    names-none never = record {
      torn = λ unit is. absurd (cc);
      names = λ unit note below within f. absurd (never unit note below within f);
      once = answered-once;
    }

    names-hole : (hole : ℕ) (note : Note) → missing_in Pairs ≡ Some hole → Torn calls hole note → Named r.n r.row (Some hole) calls
    names-hole hole note is f = record {
      torn = λ unit named.
          (let same : hole ≡ unit = some-one named in
          subst (λ (u : ℕ). (u < r.n - 1) × ((x : Note) × Torn calls u x)) same (gap-below r (units r.n) taken.row.wanted hole (units-all r.n) is, (note, f)));
      names = λ unit other below within g. sym is ∙ hole-is unit other below g;
      once = answered-once;
    }

    sound-never : Sound r calls → (unit : ℕ) (note : Note) → unit < r.n → IsWithin r.n note.mask → Torn calls unit note → ⊥
    sound-never sound unit note below within f = by (sound note f.noted)
      where
        by : FoundSound r.n r.row note calls → ⊥
        by (inl blank) = f.mask blank
        by (inr fine) = reached f.reached
          where
            reached : (has_unit note.mask unit ≡ true) ⊎ WasPut calls note → ⊥
            reached (inl has) = fine.0 unit (within unit has) has f.missing
            reached (inr (other, inside, has, shown)) = fine.1 other (within other has) has shown

    torn-by : (hole : ℕ) (grant : Grant) → taken.row.parity ≡ Some grant → missing_in Pairs ≡ Some hole → (o : Option Note) → grant.seized ≡ o → is_torn_by o Pairs hole ≡ true → (note : Note) × Torn calls hole note
    torn-by hole grant there is None none e = absurd (cc)
    torn-by hole grant there is (Some note) noted e =
        let parts = torn-parts (note.mask == 0) (has_unit note.mask hole) (is_put note Pairs) e in (
          note,
          record {
            noted = happened-map (λ call. IsClaim parity r.row call × (grant_of call.answer.reply ≡ Some grant)) (λ call. IsClaim parity r.row call × Seizes note call)
                (λ call x. (x.0, (grant, x.1, noted))) calls (s.granted grant there);
            mask = some-mask parts.0;
            missing = missing-said calls (units r.n) taken.row.wanted hole s.said is;
            reached = reached parts.1;
          },
        )
      where
        some-mask : (note.mask == 0) ≡ false → note.mask ≢ 0
        some-mask some none = absurd (grind (arith, nat_tests))

        reached : (has_unit note.mask hole ≡ true) ⊎ (is_put note Pairs ≡ true) → (has_unit note.mask hole ≡ true) ⊎ WasPut calls note
        reached (inl has) = inl has
        reached (inr put) = inr (put-said calls note (units r.n) taken.row.wanted (units-all r.n) s.said put)

    verdict-names : Named r.n r.row (lost_in (verdict r taken.row)) calls
    verdict-names = by taken.row.parity refl
      where
        never-noted : taken.row.parity ≡ None → (unit : ℕ) (note : Note) → unit < r.n → IsWithin r.n note.mask → Torn calls unit note → ⊥
        never-noted none unit note below within f =
            let g = happened-in calls f.noted in
            let clash : None ≡ Some g.2.1.0 = sym none ∙ sym (s.told g.0 g.1 g.2.0) ∙ g.2.1.1 in
            absurd (cc)

        torn-or : (grant : Grant) → taken.row.parity ≡ Some grant → (hole : ℕ) → missing_in Pairs ≡ Some hole → (b : Bool) → is_torn r taken.row hole ≡ b → Named r.n r.row (lost_in (if b then Sums (Some hole) else Leaves)) calls
        torn-or grant there hole is true e =
            let found = torn-by hole grant there is grant.seized refl (subst (λ (o : Option Grant). is_torn_by (seized_note o) Pairs hole ≡ true) there e) in
            names-hole hole found.0 is found.1
        torn-or grant there hole is false e =
            let leaves : verdict r taken.row ≡ Leaves =
            ap (λ (o : Option Grant). verdict_of r taken.row o) there ∙ ap (λ (m : Option ℕ). hole_verdict r taken.row m) is ∙ ap (λ (b : Bool). if b then Sums (Some hole) else Leaves) e in
            names-none (sound-never (leaves-sound r calls taken s.finding leaves))

        holes : (grant : Grant) → taken.row.parity ≡ Some grant → (m : Option ℕ) → missing_in Pairs ≡ m → Named r.n r.row (lost_in (hole_verdict r taken.row m)) calls
        holes grant there None none =
            names-none (λ unit note below within f. (let clash : None ≡ Some unit = sym none ∙ hole-is unit note below f in absurd (cc)))
        holes grant there (Some hole) is = torn-or grant there hole is (is_torn r taken.row hole) refl

        by : (o : Option Grant) → taken.row.parity ≡ o → Named r.n r.row (lost_in (verdict_of r taken.row o)) calls
        by None none = names-none (never-noted none)
        by (Some grant) there = holes grant there (missing_in Pairs) refl

  -- The recovery
  abbrev Tell : List Call → Steps Finish → Type 0
  Tell calls s = Telling (EndsNamed r.n r.row) calls s

  refusing : (es : List Errand) (cause : Cause) (calls : List Call) → Tell calls (refused_steps es cause)
  refusing [] cause calls = tt
  refusing (e ∷ es) cause calls = (tt, λ call is fit. refusing es cause (call ∷ calls))

  refuses : (row : Row) (cause : Cause) (calls : List Call) → Tell calls (recover_refused r row cause)
  refuses row cause calls = refusing (give_back r (unseized_data r row ++ unseized_parity r row.parity)) cause calls

  -- it gives back
  freeing : (stop : Unit {0} → Ended) (commits : Unit {0} → Errand → List Commit) (last : Ended) (lost : Option ℕ) →
      ((calls : List Call) → Named r.n r.row lost calls → EndsNamed r.n r.row calls (stop tt)) → ((calls : List Call) → Named r.n r.row lost calls → EndsNamed r.n r.row calls last) →
      (bays : List BayNo) (calls : List Call) → Named r.n r.row lost calls →
      Tell calls (bind (run (record { step = λ u errand reply. Some u; stop = stop; commits = commits }) (give_back r bays) tt) (end_as last))
  freeing stop commits last lost stops over [] calls h = over calls h
  freeing stop commits last lost stops over (bay ∷ bays) calls h = (
    stops calls h,
    λ call is fit. freeing stop commits last lost stops over bays (call ∷ calls) (named-more lost calls call (released-no-claim r call (what-is call (release r.id r.row None bay) is)) h),
  )

  puts-tell : (row : Row) (n : Number) (lost : Option ℕ) (calls : List Call) → Named r.n r.row lost calls → (walk : Walk (Unit {0})) → Tell calls (recover_put r row n lost walk)
  puts-tell row n lost calls h (Stopped u e reply) = refusing (give_back r (unseized_data r row)) (put_cause r.row e reply) calls
  puts-tell row n lost calls h (Through u) =
      freeing (λ _. ends.Recovered n false lost) (λ _ _. []) (ends.Recovered n true lost) lost (λ cs named. named) (λ cs named. named) (granted_data r row) calls h

  by-tells : (row : Row) (n : Number) (calls : List Call) (v : Verdict) → Named r.n r.row (lost_in v) calls → Tell calls (recover_by r row n v)
  by-tells row n calls Leaves h =
      freeing refused_by_quit (λ _ _. []) (ends.Recovered n true None) None (λ cs named. tt) (λ cs named. named) (granted_data r row ++ parity_granted r.n r.row row.parity) calls h
  by-tells row n calls (Sums lost) h =
      walk-telling (EndsNamed r.n r.row) (recover_putting r lost) (recover_put r row n lost) (put r.id r.row n (recovered_parity row lost) parity) [] tt calls tt
      (λ call is fit u e. puts-tell row n lost (call ∷ calls) (after call is) (Through u))
      (λ call is fit stop. puts-tell row n lost (call ∷ calls) (after call is) (Stopped tt (put r.id r.row n (recovered_parity row lost) parity) call.answer.reply))
    where
      after : (call : Call) → errand_of call ≡ put r.id r.row n (recovered_parity row lost) parity → Named r.n r.row lost (call ∷ calls)
      after call is = named-more lost calls call (put-no-claim call n (recovered_parity row lost) (what-is call (put r.id r.row n (recovered_parity row lost) parity) is)) h

  draws-tell : (row : Row) (calls : List Call) → Named r.n r.row (lost_in (verdict r row)) calls → (d : Result Number Spent) → Tell calls (recover_drawn r row d)
  draws-tell row calls h (Err spent) = refuses row (causes.Spent spent.seen) calls
  draws-tell row calls h (Ok n) = by-tells row n calls (verdict r row) h

  confirms-tell : (taken : Taken) (calls : List Call) → Knowing [] calls taken → Tell calls (units_seized r (Through taken))
  confirms-tell taken calls s =
      walk-telling (EndsNamed r.n r.row) (recover_confirming taken) (recover_confirmed r taken) (confirm r.id r.row false parity) [] tt calls tt
      (λ call is fit u e. λ d. draws-tell taken.row (call ∷ calls)
      (named-more (lost_in (verdict r taken.row)) calls call (confirmed-no-claim r call (what-is call (confirm r.id r.row false parity) is)) (verdict-names calls taken s)) d)
      (λ call is fit none. refuses taken.row _ (call ∷ calls))

  units-tell : (us : List ℕ) (taken : Taken) (calls : List Call) → Knowing us calls taken →
      Tell calls (bind (run (taking None with_wanted) (claims r.id r.row Seize true (bays_of r.n r.row us)) taken) (units_seized r))
  units-tell [] taken calls s = confirms-tell taken calls s
  units-tell (u ∷ us) taken calls s =
      walk-telling (EndsNamed r.n r.row) (taking None with_wanted) (units_seized r) (claim r.id r.row Seize 0 true (bay_of r.n r.row u)) (claims r.id r.row Seize true (bays_of r.n r.row us)) taken calls tt
      (λ call is fit b e. units-tell us b (call ∷ calls) (knowing-more u us calls call taken b s is fit e))
      (λ call is fit none. refuses taken.row (why None taken (claim r.id r.row Seize 0 true (bay_of r.n r.row u)) call.answer.reply) (call ∷ calls))

  parity-tells : (taken : Taken) (calls : List Call) → Knowing (units r.n) calls taken → Tell calls (parity_seized r (Through taken))
  parity-tells taken calls s = by taken.row.parity
    where
      begins : Tell calls (seize_units r taken)
      begins = units-tell (units r.n) taken calls s

      operator : (b : Bool) → Tell calls (if b then seize_units r taken else recover_refused r taken.row (causes.Gone parity))
      operator true = begins
      operator false = refuses taken.row (causes.Gone parity) calls

      by : (o : Option Grant) → Tell calls (parity_taken r taken o)
      by (Some grant) = begins
      by None = operator (r.host.0 == 0)

  pub recoveries-tell : Telling (EndsNamed r.n r.row) [] (recover_steps r)
  recoveries-tell =
      let first : Taken = begun (whole_part r) no_rows in
      walk-telling (EndsNamed r.n r.row) (taking None with_parity) (parity_seized r) (claim r.id r.row Seize 0 true parity) [] first [] tt
      (λ call is fit b e. begin call b is (taken-parity r parity first b (refusal None first.missing parity call.answer.reply) (grant_of call.answer.reply) e))
      (λ call is fit none. refuses first.row (why None first (claim r.id r.row Seize 0 true parity) call.answer.reply) (call ∷ []))
    where
      begin : (call : Call) (b : Taken) → errand_of call ≡ claim r.id r.row Seize 0 true parity → (grant_of call.answer.reply ≡ b.row.parity) × ([] ≡ b.row.wanted) → Tell (call ∷ []) (parity_seized r (Through b))
      begin call b is k = parity-tells b (call ∷ []) (record {
        finding = record {
          shows = shows-more r b.row.parity [] call (λ of grant e1. sym k.0 ∙ e1) (none-yet r b.row.parity);
          got = subst (λ (gs : List (Option Grant)). Got r b.missing (call ∷ []) (units r.n) (units r.n) gs) k.1 refl;
          fresh = fresh-after r call at (units r.n) (units-aside r.n r.row);
          aside = units-aside r.n r.row;
          apart = apart-units r;
        };
        told = told;
        granted = λ grant e1. inl ((at, r.id, Seize, 0, true, what-is call (claim r.id r.row Seize 0 true parity) is), k.0 ∙ e1);
        said = subst (λ (gs : List (Option Grant)). Said (call ∷ []) (units r.n) (units r.n) gs) k.1 refl;
      })
        where
          at : call.bay ≡ parity
          at = bay-is call (claim r.id r.row Seize 0 true parity) is

          told : (c : Call) → IsIn c (call ∷ []) → IsClaim parity r.row c → grant_of c.answer.reply ≡ b.row.parity
          told c (inl same) of = subst (λ (x : Call). grant_of x.answer.reply ≡ b.row.parity) same k.0
          told c (inr i) of = absurd i
