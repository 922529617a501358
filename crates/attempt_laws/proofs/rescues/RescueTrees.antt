-- A recovery that goes through has had each slot of its row granted or found missing, and holds none of them any more.
use Rattle.std.proofs.Common.{◌≡◌, inl, inr, refl, sym, ap, subst, ◌∙◌, ℕ, ◌==◌, ◌||◌, Bool, true, false, if◌then◌else◌, List, [], ◌∷◌, ◌++◌, Option, Some, None, is_some, option_map, IfSome, Result, Ok, Err}
use Rattle.std.specs.Prelude.{unwrap_or}
use Rattle.std.specs.List.{AllByRecursion}
use Rattle.raid_base.specs.declared.numbers.BayNo.{BayNo}
use Rattle.raid_base.specs.declared.numbers.HostNo.{HostNo}
use Rattle.raid_base.specs.declared.numbers.RowNo.{RowNo}
use Rattle.raid_base.specs.declared.numbers.Number.{Number}
use Rattle.raid_base.specs.declared.numbers.Spent.{Spent}
use Rattle.raid_base.specs.declared.messages.Mode.{Mode}
use Rattle.raid_base.specs.declared.messages.How.TheVariants.{Seize}
use Rattle.raid_base.specs.declared.messages.Errand.{Errand}
use Rattle.raid_base.specs.declared.messages.Grant.{Grant}
use Rattle.raid_base.specs.declared.messages.Reply.{Reply}
use Rattle.raid_base.specs.declared.messages.Request.{Request}
use Rattle.raid_base.specs.declared.messages.Request.TheVariants.{Share, Claim, Confirm, Put, Release, Lose, Fit}
use Rattle.raid_base.specs.declared.messages.Call.{Call}
use Rattle.raid_base.specs.declared.jobs.Cause.{Cause}
use Rattle.raid_base.specs.declared.jobs.Cause.TheVariants as causes
use Rattle.raid_base.specs.declared.jobs.Ended.{Ended}
use Rattle.raid_base.specs.declared.jobs.Ended.TheVariants as ends
use Rattle.raid_base.specs.Fits.{fits}
use Rattle.raid_base.specs.Numbers.{draw, seen_drawn}
use Rattle.raid_base.specs.Replies.{grant_of, is_missing}
use Rattle.raid_base.specs.Steps.{Steps, Asks, Draws, Ends, bind, go_on, Walk, Through, Stopped, Phase, run, settled, behind, next_errand, errand_of}
use Rattle.stripe_layout.specs.Placement.{parity_bay, bays_of, units, parity_first}
use Rattle.attempts.specs.declared.Rescue.{Rescue}
use Rattle.attempts.specs.Taking.{Finish, Row, no_rows, Taken, begun, with_parity, with_wanted, with_grant, refusal, unless, taking, why, claims, confirm}
use Rattle.attempts.specs.Releases.{releases, releasing, end_as, released_steps, refused_steps, parity_granted}
use Rattle.attempts.specs.Puts.{put}
use Rattle.attempts.specs.Mending.{put_cause}
use Rattle.attempts.specs.Recovery.{whole_part, unseized_data, granted_data, unseized_parity, give_back, recover_refused, Verdict, Leaves, Sums, verdict, recovered_parity, recover_putting, closing, recover_put, recover_by, recover_drawn, recover_confirmed, recover_confirming, units_seized, seize_units, parity_taken, parity_seized, recover_steps}
use Rattle.attempts.specs.Phases.{IsIn, Past, begins, MayAsk, after, after_number, Keeps, HasRepaired}
use Rattle.attempts.specs.Once.{ClaimsSo, EachClaims}
use Rattle.attempts.specs.Returns.{Holding, held_after, Returns, RecoveryHolds, HasRecovered}
use Rattle.attempts.proofs.OnceClaims.{claims_are_of_their_kind}
use Rattle.attempts.proofs.RepairPhases.{recoveries_keep_phases}
use Rattle.attempts.proofs.RepairReturns.{recoveries_return}
use Rattle.histories.specs.Calls.{Happened}
use Rattle.histories.proofs.causes.CauseLemmas.{claim-takes, GrantOrGap, take-told}

-- a claim was granted, or its slot is missing
abbrev pub is_answer : Reply → Bool
is_answer r = is_some (grant_of r) || is_missing r

abbrev pub IsAnswered : BayNo → RowNo → Call → Type 0
IsAnswered at row call = (call.bay ≡ at) × (id : Number) × (how : _) × (mask : ℕ) × (want : Bool) × (call.ask.what ≡ Claim row id how mask want) × (is_answer call.answer.reply ≡ true)

-- what is held after these calls
abbrev pub held_of : Mode → List Call → List Holding
held_of mode [] = []
held_of mode (call ∷ earlier) = held_after mode (held_of mode earlier) call.bay call.ask.what call.answer.reply

-- it did not end as closed
abbrev pub IsUnclosed : Ended → Type 0
IsUnclosed (ends.Recovered n closed lost) = closed ≡ false
IsUnclosed (ends.Read n) = ⊥
IsUnclosed (ends.Wrote n) = ⊥
IsUnclosed _ = Unit {0}

module _ (r : Rescue) where
  -- a request of the recovery
  abbrev pub IsOwnAsk : BayNo → Request → Type 0
  IsOwnAsk bay (Share row by want) = ⊥
  IsOwnAsk bay (Claim row by how mask want) = (by ≡ r.id) × (how ≡ Seize) × (row ≡ r.row)
  IsOwnAsk bay (Confirm row by want) = by ≡ r.id
  IsOwnAsk bay (Put row by n cell) = (by ≡ r.id) × (bay ≡ parity_bay r.n row)
  IsOwnAsk bay (Release row by n) = by ≡ r.id
  IsOwnAsk bay Lose = ⊥
  IsOwnAsk bay Fit = ⊥

  -- the bays of which a claim was answered
  abbrev answered : BayNo → Request → Reply → List BayNo → List BayNo
  answered bay (Claim row by how mask want) reply done = if is_answer reply then bay ∷ done else done
  answered bay _ reply done = done

  abbrev AllIn : List BayNo → Type 0
  AllIn done = (bay : BayNo) → IsIn bay (parity_first r.n r.row) → IsIn bay done

  abbrev AnsweredAll : List BayNo → Ended → Type 0
  AnsweredAll done (ends.Recovered n closed lost) = AllIn done
  AnsweredAll done _ = Unit {0}

  abbrev OfRow : BayNo → Request → Type 0
  OfRow bay (Claim row by how mask want) = row ≡ r.row
  OfRow bay (Put row by n cell) = bay ≡ parity_bay r.n row
  OfRow bay (Share row by want) = ⊥
  OfRow bay _ = Unit {0}

  abbrev Answering : List BayNo → Steps Finish → Type 0
  Answering done (Ends f) = AnsweredAll done f.ended
  Answering done (Draws k) = (d : Result Number Spent) → Answering done (k d)
  Answering done (Asks e s c k) = OfRow e.bay e.request × IsUnclosed s × ((reply : Reply) → fits e.request reply ≡ true → Answering (answered e.bay e.request reply done) (k reply))

  if-more : (b : Bool) (bay at : BayNo) (done : List BayNo) → IsIn at done → IsIn at (if b then bay ∷ done else done)
  if-more true bay at done i = inr i
  if-more false bay at done i = i

  answered-more : (bay : BayNo) (what : Request) (reply : Reply) (done : List BayNo) (at : BayNo) → IsIn at done → IsIn at (answered bay what reply done)
  answered-more bay (Claim row by how mask want) reply done at i = if-more (is_answer reply) bay at done i
  answered-more bay (Share row by want) reply done at i = i
  answered-more bay (Confirm row by want) reply done at i = i
  answered-more bay (Put row by n cell) reply done at i = i
  answered-more bay (Release row by n) reply done at i = i
  answered-more bay Lose reply done at i = i
  answered-more bay Fit reply done at i = i

  -- walks after which all that was answered still is
  abbrev AllOf : List Errand → Type 0
  AllOf es = AllByRecursion (λ (e : Errand). OfRow e.bay e.request) es

  releases-of : (id : Number) (row : RowNo) (n : Option Number) (bays : List BayNo) → AllOf (releases id row n bays)
  releases-of id row n [] = tt
  releases-of id row n (bay ∷ bays) = (tt, releases-of id row n bays)

  abbrev Rises : (List BayNo → Type 0) → Type 0
  Rises G = (bay : BayNo) (what : Request) (reply : Reply) (done : List BayNo) → G done → G (answered bay what reply done)

  all-rises : Rises AllIn
  all-rises bay what reply done g = λ at i. answered-more bay what reply done at (g at i)

  any-rises : Rises (λ done. Unit {0})
  any-rises bay what reply done g = tt

  module _ {A : Type 0} (G : List BayNo → Type 0) (rises : Rises G) (phase : Phase A) (f : Walk A → Steps Finish) (stops : (a : A) → IsUnclosed (phase.stop a)) where
    rises-go : (done : List BayNo) (o : Option A) (g : A → Steps (Walk A)) (s : Steps (Walk A)) → ((a : A) → Answering done (bind (g a) f)) → Answering done (bind s f) → Answering done (bind (go_on o g s) f)
    rises-go done (Some a) g s on off = on a
    rises-go done None g s on off = off

    rises-run : ((done : List BayNo) → G done → (walk : Walk A) → Answering done (f walk)) → (es : List Errand) → AllOf es → (done : List BayNo) → G done → (a : A) → Answering done (bind (run phase es a) f)
    rises-run on [] all done g a = on done g (Through a)
    rises-run on (e ∷ es) all done g a = (
      all.0,
      stops a,
      λ reply fit.
          let now = answered e.bay e.request reply done in
          let h : G now = rises e.bay e.request reply done g in
          rises-go now (phase.step a e reply) (λ b. run phase es b) (Ends (Stopped a e reply)) (λ b. rises-run on es all.1 now h b) (on now h (Stopped a e reply)),
    )

  released-answers : (bays : List BayNo) (ended : Ended) (done : List BayNo) → AllIn done → Answering done (released_steps (give_back r bays) ended)
  released-answers bays ended done g = rises-run AllIn all-rises releasing (end_as ended) (λ u. tt) (λ now h walk. by now h ended) (give_back r bays) (releases-of r.id r.row None bays) done g tt
    where
      by : (now : List BayNo) → AllIn now → (e : Ended) → AnsweredAll now e
      by now h (ends.Recovered n closed lost) = h
      by now h (ends.Read n) = tt
      by now h (ends.Wrote n) = tt
      by now h (ends.Part n made cause) = tt
      by now h (ends.Refused cause) = tt
      by now h ends.Mended = tt

  refused-answers : (bays : List BayNo) (cause : Cause) (done : List BayNo) → Answering done (refused_steps (give_back r bays) cause)
  refused-answers bays cause done =
      rises-run (λ now. Unit {0}) any-rises releasing (end_as (ends.Refused cause)) (λ u. tt) (λ now h walk. tt) (give_back r bays) (releases-of r.id r.row None bays) done tt tt

  recover-refuses : (row : Row) (cause : Cause) (done : List BayNo) → Answering done (recover_refused r row cause)
  recover-refuses row cause done = refused-answers (unseized_data r row ++ unseized_parity r row.parity) cause done

  -- after the claims
  put-answers : (n : Number) (row : Row) (lost : Option ℕ) (done : List BayNo) → AllIn done → (walk : Walk (Unit {0})) → Answering done (recover_put r row n lost walk)
  put-answers n row lost done g (Stopped u e reply) = refused-answers (unseized_data r row) (put_cause r.row e reply) done
  put-answers n row lost done g (Through u) =
      rises-run AllIn all-rises (closing n lost) (end_as (ends.Recovered n true lost)) (λ u. refl) (λ now h walk. h) (give_back r (granted_data r row)) (releases-of r.id r.row None (granted_data r row)) done g tt

  by-answers : (n : Number) (row : Row) (v : Verdict) (done : List BayNo) → AllIn done → Answering done (recover_by r row n v)
  by-answers n row Leaves done g = released-answers (granted_data r row ++ parity_granted r.n r.row row.parity) (ends.Recovered n true None) done g
  by-answers n row (Sums lost) done g =
      rises-run AllIn all-rises (recover_putting r lost) (recover_put r row n lost) (λ u. tt) (put-answers n row lost)
      (put r.id r.row n (recovered_parity row lost) (parity_bay r.n r.row) ∷ []) (refl, tt) done g tt

  drawn-answers : (row : Row) (d : Result Number Spent) (done : List BayNo) → AllIn done → Answering done (recover_drawn r row d)
  drawn-answers row (Err spent) done g = recover-refuses row (causes.Spent spent.seen) done
  drawn-answers row (Ok n) done g = by-answers n row (verdict r row) done g

  confirmed-answers : (taken : Taken) (done : List BayNo) → AllIn done → (walk : Walk (Unit {0})) → Answering done (recover_confirmed r taken walk)
  confirmed-answers taken done g (Stopped u e reply) = recover-refuses taken.row (unwrap_or (refusal None taken.missing e.bay reply) (causes.Changed r.row)) done
  confirmed-answers taken done g (Through u) = λ d. drawn-answers taken.row d done g

  seized-answers : (taken : Taken) (done : List BayNo) → AllIn done → Answering done (units_seized r (Through taken))
  seized-answers taken done g =
      rises-run AllIn all-rises (recover_confirming taken) (recover_confirmed r taken) (λ u. tt) (confirmed-answers taken) (confirm r.id r.row false (parity_bay r.n r.row) ∷ []) (tt, tt) done g tt

  -- the claims: each that goes on was answered
  answer-of : (missing : Option BayNo) (bay : BayNo) (reply : Reply) (o : Option (Option Grant)) → IfSome o (GrantOrGap missing bay reply) → {B : Type 0} (f : Option Grant → B) (b : B) → option_map f o ≡ Some b → is_answer reply ≡ true
  answer-of missing bay reply None h f b e = absurd (cc)
  answer-of missing bay reply (Some (Some grant)) h f b e = ap (λ (g : Option Grant). is_some g || is_missing reply) h
  answer-of missing bay reply (Some None) h f b e = ap (λ (x : Reply). is_answer x) h.1

  claim-answer : (keep : Option Grant → Row → Row) (row : RowNo) (id : Number) (mask : ℕ) (want : Bool) (taken later : Taken) (bay : BayNo) (reply : Reply) → fits (Claim row id Seize mask want) reply ≡ true →
      (taking None keep).step taken (record { bay = bay; request = Claim row id Seize mask want }) reply ≡ Some later → is_answer reply ≡ true
  claim-answer keep row id mask want taken later bay reply fit e =
      answer-of taken.missing bay reply (unless (refusal None taken.missing bay reply) (grant_of reply))
      (take-told (Claim row id Seize mask want) (claim-takes row id Seize mask want) None taken.missing bay reply fit) (with_grant keep taken bay) later e

  module _ (f : Walk Taken → Steps Finish) (off : (taken : Taken) (e : Errand) (reply : Reply) (done : List BayNo) → Answering done (f (Stopped taken e reply))) where
    claim-go : (now : List BayNo) (o : Option Taken) (g : Taken → Steps (Walk Taken)) (s : Steps (Walk Taken)) → ((t : Taken) → o ≡ Some t → Answering now (bind (g t) f)) → Answering now (bind s f) → Answering now (bind (go_on o g s) f)
    claim-go now (Some t) g s on stopped = on t refl
    claim-go now None g s on stopped = stopped

    -- this bay is answered now, and those before still are
    now-in : (b : Bool) (bay : BayNo) (done : List BayNo) → b ≡ true → IsIn bay (if b then bay ∷ done else done)
    now-in true bay done e = inl refl
    now-in false bay done e = absurd (let bad : false ≡ true = e in cc)

    claims-answer : (keep : Option Grant → Row → Row) (bays : List BayNo) (done : List BayNo) (taken : Taken) →
        ((now : List BayNo) (later : Taken) → ((at : BayNo) → IsIn at done → IsIn at now) → ((at : BayNo) → IsIn at bays → IsIn at now) → Answering now (f (Through later))) →
        Answering done (bind (run (taking None keep) (claims r.id r.row Seize true bays) taken) f)
    claims-answer keep [] done taken on = on done taken (λ at i. i) (λ at i. absurd i)
    claims-answer keep (bay ∷ bays) done taken on = (
      refl,
      tt,
      λ reply fit.
          let e : Errand = record { bay = bay; request = Claim r.row r.id Seize 0 true } in
          let now = answered bay e.request reply done in
          claim-go now ((taking None keep).step taken e reply) (λ b. run (taking None keep) (claims r.id r.row Seize true bays) b) (Ends (Stopped taken e reply))
          (λ t step.
          let own : IsIn bay now = now-in (is_answer reply) bay done (claim-answer keep r.row r.id 0 true taken t bay reply fit step) in
          claims-answer keep bays now t (λ last later old rest.
          on last later (λ at i. old at (answered-more bay e.request reply done at i)) (λ at i. both now at last own old rest i)))
          (off taken e reply now),
    )
      where
        both : (now : List BayNo) (at : BayNo) (last : List BayNo) → IsIn bay now → ((x : BayNo) → IsIn x now → IsIn x last) → ((x : BayNo) → IsIn x bays → IsIn x last) → IsIn at (bay ∷ bays) → IsIn at last
        both now at last own old rest (inl same) = subst (λ (x : BayNo). IsIn x last) same (old bay own)
        both now at last own old rest (inr i) = rest at i

  stopped-units : (taken : Taken) (e : Errand) (reply : Reply) (done : List BayNo) → Answering done (units_seized r (Stopped taken e reply))
  stopped-units taken e reply done = recover-refuses taken.row (why None taken e reply) done

  units-answer : (taken : Taken) (done : List BayNo) → IsIn (parity_bay r.n r.row) done → Answering done (seize_units r taken)
  units-answer taken done i =
      claims-answer (units_seized r) stopped-units with_wanted (bays_of r.n r.row (units r.n)) done taken
      (λ now later old rest. seized-answers later now (λ at j. each at now old rest j))
    where
      each : (at : BayNo) (now : List BayNo) → ((x : BayNo) → IsIn x done → IsIn x now) → ((x : BayNo) → IsIn x (bays_of r.n r.row (units r.n)) → IsIn x now) → IsIn at (parity_first r.n r.row) → IsIn at now
      each at now old rest (inl same) = subst (λ (x : BayNo). IsIn x now) same (old (parity_bay r.n r.row) i)
      each at now old rest (inr j) = rest at j

  lacking-answers : (taken : Taken) (done : List BayNo) → IsIn (parity_bay r.n r.row) done → (operator : Bool) → Answering done (if operator then seize_units r taken else recover_refused r taken.row (causes.Gone (parity_bay r.n r.row)))
  lacking-answers taken done i true = units-answer taken done i
  lacking-answers taken done i false = recover-refuses taken.row (causes.Gone (parity_bay r.n r.row)) done

  taken-answers : (taken : Taken) (done : List BayNo) → IsIn (parity_bay r.n r.row) done → (grant : Option Grant) → Answering done (parity_taken r taken grant)
  taken-answers taken done i (Some grant) = units-answer taken done i
  taken-answers taken done i None = lacking-answers taken done i (r.host.0 == 0)

  stopped-parity : (taken : Taken) (e : Errand) (reply : Reply) (done : List BayNo) → Answering done (parity_seized r (Stopped taken e reply))
  stopped-parity taken e reply done = recover-refuses taken.row (why None taken e reply) done

  all-answer : Answering [] (recover_steps r)
  all-answer =
      claims-answer (parity_seized r) stopped-parity with_parity (parity_bay r.n r.row ∷ []) [] (begun (whole_part r) no_rows)
      (λ now later old rest. taken-answers later now (rest (parity_bay r.n r.row) (inl refl)) later.row.parity)

  -- what is so of the calls of a recovery that has gone through
  pub record IsRescue (mode : Mode) (calls : List Call) : Type 0 where
    pub own : AllByRecursion (λ (call : Call). IsOwnAsk call.bay call.ask.what) calls
    pub none : held_of mode calls ≡ []
    pub all : (bay : BayNo) → IsIn bay (parity_first r.n r.row) → Happened (IsAnswered bay r.row) calls

  abbrev pub RescueEnd : Mode → List Call → Ended → Type 0
  RescueEnd mode calls (ends.Recovered n closed lost) = IsRescue mode calls
  RescueEnd mode calls (ends.Refused cause) = RecoveryHolds (held_of mode calls) (ends.Refused cause)
  RescueEnd mode calls _ = ⊥

  -- Whatever the replies that fit and the numbers drawn, after these calls
  abbrev pub Rescues : Mode → List Call → Steps Finish → Type 0
  Rescues mode calls (Ends f) = RescueEnd mode calls f.ended
  Rescues mode calls (Draws k) = (d : Result Number Spent) → Rescues mode calls (k d)
  Rescues mode calls (Asks e s c k) = IsOwnAsk e.bay e.request × IsUnclosed s × ((call : Call) → errand_of call ≡ e → fits call.ask.what call.answer.reply ≡ true → Rescues mode (call ∷ calls) (k call.answer.reply))

  own-ask : (past : Past) (bay : BayNo) (what : Request) → MayAsk r.n r.id past bay what → ClaimsSo r.n Seize bay what → OfRow bay what → IsOwnAsk bay what
  own-ask past bay (Share row by want) may so of = of
  own-ask past bay (Claim row by how mask want) may so of = (may.0, so.0, of)
  own-ask past bay (Confirm row by want) may so of = may.0
  own-ask past bay (Put row by n cell) may so of = (may.0, of)
  own-ask past bay (Release row by n) may so of = may
  own-ask past bay Lose may so of = may
  own-ask past bay Fit may so of = may

  -- the bays that were answered are so in the calls
  abbrev AreTold : List BayNo → List Call → Type 0
  AreTold done calls = (bay : BayNo) → IsIn bay done → Happened (IsAnswered bay r.row) calls

  told-more : (done : List BayNo) (calls : List Call) (call : Call) (what : Request) → call.ask.what ≡ what → OfRow call.bay what → AreTold done calls → AreTold (answered call.bay what call.answer.reply done) (call ∷ calls)
  told-more done calls call (Claim row by how mask want) same of told = λ at i. go (is_answer call.answer.reply) refl at i
    where
      go : (b : Bool) → is_answer call.answer.reply ≡ b → (at : BayNo) → IsIn at (if b then call.bay ∷ done else done) → Happened (IsAnswered at r.row) (call ∷ calls)
      go true e at (inl own) = inl (own, by, how, mask, want, same ∙ ap (λ (x : RowNo). Claim x by how mask want) of, e)
      go true e at (inr i) = inr (told at i)
      go false e at i = inr (told at i)
  told-more done calls call (Share row by want) same of told = absurd of
  told-more done calls call (Confirm row by want) same of told = λ at i. inr (told at i)
  told-more done calls call (Put row by n cell) same of told = λ at i. inr (told at i)
  told-more done calls call (Release row by n) same of told = λ at i. inr (told at i)
  told-more done calls call Lose same of told = λ at i. inr (told at i)
  told-more done calls call Fit same of told = λ at i. inr (told at i)

  ends-rescue : (mode : Mode) (calls : List Call) (held : List Holding) (done : List BayNo) → AllByRecursion (λ (call : Call). IsOwnAsk call.bay call.ask.what) calls → held_of mode calls ≡ held → AreTold done calls →
      (f : Finish) → HasRecovered held f → (ended : Ended) → f.ended ≡ ended → AnsweredAll done ended → RescueEnd mode calls ended
  ends-rescue mode calls held done own same told f h (ends.Recovered n closed lost) e all = record {
    own = own;
    none = same ∙ subst (λ (x : Ended). RecoveryHolds held x) e h;
    all = λ bay i. told bay (all bay i);
  }
  ends-rescue mode calls held done own same told f h (ends.Read n) e all = subst (λ (x : Ended). RecoveryHolds held x) e h
  ends-rescue mode calls held done own same told f h (ends.Wrote n) e all = subst (λ (x : Ended). RecoveryHolds held x) e h
  ends-rescue mode calls held done own same told f h (ends.Part n made cause) e all = subst (λ (x : Ended). RecoveryHolds held x) e h
  ends-rescue mode calls held done own same told f h (ends.Refused cause) e all =
      subst (λ (hs : List Holding). RecoveryHolds hs (ends.Refused cause)) (sym same) (subst (λ (x : Ended). RecoveryHolds held x) e h)
  ends-rescue mode calls held done own same told f h ends.Mended e all = subst (λ (x : Ended). RecoveryHolds held x) e h

  rescue-all : (mode : Mode) (past : Past) (held : List Holding) (done : List BayNo) (calls : List Call) (s : Steps Finish) → AllByRecursion (λ (call : Call). IsOwnAsk call.bay call.ask.what) calls →
      held_of mode calls ≡ held → AreTold done calls → Keeps r.n r.id HasRepaired past s → EachClaims r.n Seize s → Returns mode HasRecovered held s → Answering done s → Rescues mode calls s
  rescue-all mode past held done calls (Ends f) own same told k c h a = ends-rescue mode calls held done own same told f h f.ended refl a
  rescue-all mode past held done calls (Draws g) own same told k c h a = λ d. rescue-all mode (after_number past d) held done calls (g d) own same told (k.2 d) (c d) (h d) (a d)
  rescue-all mode past held done calls (Asks e s o g) own same told k c h a = (
    own-ask past e.bay e.request k.0 c.0 a.0,
    a.1,
    λ call is fit. by (own-ask past e.bay e.request k.0 c.0 a.0) a.0 call is fit (k.1 call.answer.reply) (c.1 call.answer.reply) (h call.answer.reply) (a.2 call.answer.reply)
        (λ p hs bs cs. rescue-all mode p hs bs cs (g call.answer.reply)),
  )
    where
      by : IsOwnAsk e.bay e.request → OfRow e.bay e.request → (call : Call) → errand_of call ≡ e → fits call.ask.what call.answer.reply ≡ true → Keeps r.n r.id HasRepaired (after past e call.answer.reply) (g call.answer.reply) →
          EachClaims r.n Seize (g call.answer.reply) → Returns mode HasRecovered (held_after mode held e.bay e.request call.answer.reply) (g call.answer.reply) →
          (fits e.request call.answer.reply ≡ true → Answering (answered e.bay e.request call.answer.reply done) (g call.answer.reply)) →
          ((p : Past) (hs : List Holding) (bs : List BayNo) (cs : List Call) → AllByRecursion (λ (x : Call). IsOwnAsk x.bay x.ask.what) cs → held_of mode cs ≡ hs → AreTold bs cs → Keeps r.n r.id HasRepaired p (g call.answer.reply) →
          EachClaims r.n Seize (g call.answer.reply) → Returns mode HasRecovered hs (g call.answer.reply) → Answering bs (g call.answer.reply) → Rescues mode cs (g call.answer.reply)) →
          Rescues mode (call ∷ calls) (g call.answer.reply)
      by mine of call is fit kk cc_ hh aa go =
          let place : call.bay ≡ e.bay = ap (λ (x : Errand). x.bay) is in
          let asked : call.ask.what ≡ e.request = ap (λ (x : Errand). x.request) is in
          go (after past e call.answer.reply) (held_after mode held e.bay e.request call.answer.reply) (answered e.bay e.request call.answer.reply done) (call ∷ calls)
          (subst (λ (x : Errand). IsOwnAsk x.bay x.request) (sym is) mine, own)
          (ap (λ (hs : List Holding). held_after mode hs call.bay call.ask.what call.answer.reply) same ∙ ap (λ (x : Errand). held_after mode held x.bay x.request call.answer.reply) is)
          (subst (λ (b : BayNo). AreTold (answered b e.request call.answer.reply done) (call ∷ calls)) place (told-more done calls call e.request asked (subst (λ (b : BayNo). OfRow b e.request) (sym place) of) told))
          kk cc_ hh (aa (subst (λ (w : Request). fits w call.answer.reply ≡ true) asked fit))

  pub recoveries-rescue : (mode : Mode) → Rescues mode [] (recover_steps r)
  recoveries-rescue mode =
      rescue-all mode (begins None) [] [] [] (recover_steps r) tt refl (λ bay i. absurd i) (recoveries_keep_phases r) (claims_are_of_their_kind.3 r) (recoveries_return r mode) all-answer

  -- what is left once numbers were drawn, or a reply was told
  pub settled-rescues : (mode : Mode) (host : HostNo) (seen : Number) (calls : List Call) (s : Steps Finish) → Rescues mode calls s → Rescues mode calls (settled host seen s).steps
  settled-rescues mode host seen calls (Asks e t c k) h = h
  settled-rescues mode host seen calls (Draws k) h = settled-rescues mode host (seen_drawn seen (draw host seen)) calls (k (draw host seen)) (h (draw host seen))
  settled-rescues mode host seen calls (Ends f) h = h

  pub asks-rescue : (mode : Mode) (calls : List Call) (steps : Steps Finish) (e : Errand) → Rescues mode calls steps → next_errand steps ≡ Some e → IsOwnAsk e.bay e.request
  asks-rescue mode calls (Asks x s c k) e h asked = let same : x ≡ e = cc in subst (λ (y : Errand). IsOwnAsk y.bay y.request) same h.0
  asks-rescue mode calls (Draws k) e h asked = absurd (cc)
  asks-rescue mode calls (Ends f) e h asked = absurd (cc)

  pub behind-rescues : (mode : Mode) (calls : List Call) (steps : Steps Finish) (call : Call) → Rescues mode calls steps → next_errand steps ≡ Some (errand_of call) → fits call.ask.what call.answer.reply ≡ true →
      Rescues mode (call ∷ calls) (behind steps call.answer.reply)
  behind-rescues mode calls (Asks e s c k) call h asked fit = let same : e ≡ errand_of call = cc in h.2 call (sym same) fit
  behind-rescues mode calls (Draws k) call h asked fit = absurd (cc)
  behind-rescues mode calls (Ends f) call h asked fit = absurd (cc)
