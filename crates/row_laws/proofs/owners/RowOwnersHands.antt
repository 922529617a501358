-- What is known of the attempts in hand by their calls: with which kind of claims, what their notes came from, and what may
-- still come.
use Rattle.std.proofs.Common.{◌≡◌, ◌⊎◌, inl, inr, refl, sym, ap, subst, ◌∙◌, ℕ, ◌%◌, ◌<◌, ◌≤◌, ◌==◌, if◌then◌else◌, Bool, true, false, List, [], ◌∷◌, Option, Some, None, is_some, Result, Ok, Err, arith}
use Rattle.std.specs.List.{AllByRecursion}
use Rattle.std.proofs.lemmas.Bool.{eq-eqb}
use Rattle.std.proofs.lemmas.Bool.Decides.{nat_tests}
use Rattle.raid_base.specs.declared.numbers.BayNo.{BayNo}
use Rattle.raid_base.specs.declared.numbers.HostNo.{HostNo}
use Rattle.raid_base.specs.declared.numbers.RowNo.{RowNo}
use Rattle.raid_base.specs.declared.numbers.Number.{Number}
use Rattle.raid_base.specs.declared.numbers.Spent.{Spent}
use Rattle.raid_base.specs.declared.messages.Note.{Note}
use Rattle.raid_base.specs.declared.messages.Call.{Call}
use Rattle.raid_base.specs.declared.messages.Errand.{Errand}
use Rattle.raid_base.specs.declared.messages.Grant.{Grant}
use Rattle.raid_base.specs.declared.messages.Request.{Request}
use Rattle.raid_base.specs.declared.messages.Request.TheVariants.{Share, Claim, Confirm, Put, Release, Lose, Fit}
use Rattle.raid_base.specs.declared.messages.Reply.{Reply}
use Rattle.raid_base.specs.declared.jobs.Task.{Task}
use Rattle.raid_base.specs.Numbers.{draw, seen_drawn, sees}
use Rattle.raid_base.specs.Replies.{grant_of}
use Rattle.raid_base.specs.Steps.{Steps, Asks, Draws, Ends, Standing, Leads, settled, behind, told, next_errand, errand_of}
use Rattle.attempts.specs.Taking.{Finish}
use Rattle.attempts.specs.Phases.{Slot, parity_slot, IsIn, Past, MayAsk, after, after_asking, after_number, Keeps}
use Rattle.script_text.specs.Script.{Script, jobs_of}
use Rattle.script_text.specs.Ranges.{IsScript}
use Rattle.histories.specs.Calls.{Happened, id_of, row_of, IsClaim}
use Rattle.histories.specs.Hands.{InHand, HasWork, IsInHand, Led, Any}
use Rattle.histories.specs.Progress.{Work, Trying, Losing, Fitting, Over, Progress, attempt, work_errand}
use Rattle.histories.specs.History.{if_taken, progress_at, bay_at, IsNext, IsHistory}
use Rattle.histories.proofs.hands.Attempting.{hand-at, asked-errand, own-errand}
use Rattle.histories.proofs.bounds.BoundsTakes.{before_start}
use Rattle.histories.proofs.hands.HandSteps.{GoesOn, jobs-bare, takes-after}
use Rattle.histories.specs.RowStates.{slot_at}
use Rattle.row_laws.specs.Hands.{HasHand, calls_at}
use Rattle.histories.specs.Ids.{is_id, calls_with, IsNoteClaim}
use Rattle.row_laws.specs.Holding.{MayPutTo, origin_of}
use Rattle.histories.proofs.accesses.AccessHosts.{this-id}
use Rattle.histories.proofs.accesses.AccessIds.{ids_are_apart}
use Rattle.histories.proofs.missing.MissingBays.{asks-rows, every-host}
use Rattle.row_laws.proofs.hands.HandMoves.{may-next, asked-id, Came, Goes, Stayed, Begun, Went, came, next-id}
use Rattle.row_laws.proofs.owners.RowOwnersSlots.{FromClaim, note-from, life-kept, claim-life}

-- Calls. What has happened is a call
pub happened-in : {P : Call → Type 0} (calls : List Call) → Happened P calls → (call : Call) × IsIn call calls × P call
happened-in [] h = absurd h
happened-in (call ∷ calls) (inl x) = (call, inl refl, x)
happened-in (call ∷ calls) (inr h) = let found = happened-in calls h in (found.0, inr found.1, found.2)

pub happened-all : {P Q : Call → Type 0} → (calls : List Call) → Happened P calls → AllByRecursion Q calls → (call : Call) × IsIn call calls × P call × Q call
happened-all [] h all = absurd h
happened-all (call ∷ calls) (inl x) all = (call, inl refl, x, all.0)
happened-all (call ∷ calls) (inr h) all = let found = happened-all calls h all.1 in (found.0, inr found.1, found.2, found.3)

happened-with : {P : Call → Type 0} (id : Number) → ((call : Call) → P call → id_of call.ask.what ≡ Some id) → (calls : List Call) → Happened P calls → Happened P (calls_with id calls)
happened-with id named [] h = absurd h
happened-with {P} id named (call ∷ calls) (inl x) = by (is_id id (id_of call.ask.what)) (this-id id (id_of call.ask.what) (named call x))
  where
    by : (b : Bool) → b ≡ true → Happened P (if b then call ∷ calls_with id calls else calls_with id calls)
    by true e = inl x
    by false e = absurd (cc)
happened-with {P} id named (call ∷ calls) (inr h) = by (is_id id (id_of call.ask.what)) (happened-with id named calls h)
  where
    by : (b : Bool) → Happened P (calls_with id calls) → Happened P (if b then call ∷ calls_with id calls else calls_with id calls)
    by true rest = inr rest
    by false rest = rest

module _ (script : Script) (is : IsScript script) where
  -- what happened with its id has happened in its calls
  pub happened-own : {P : Call → Type 0} (history : List Call) → IsHistory script history → (host : HostNo) (steps : Steps Finish) (h : HasHand script history host steps) (e : Errand) → next_errand steps ≡ Some e →
      ((call : Call) → P call → id_of call.ask.what ≡ Some h.hand.id) → Happened P history → Happened P (calls_at script history host)
  happened-own {P} history along host steps h e asked named happened =
      let work : work_errand (progress_at script host history).work ≡ Some e = subst (λ (w : Work). work_errand w ≡ Some e) (sym h.work) asked in
      subst (λ (calls : List Call). Happened P calls) ((ids_are_apart script history is along).in_hand host e h.hand.id work (next-id script is history host steps h e asked))
      (happened-with h.hand.id named history happened)

  -- the attempt that asked
  pub record Asker (earlier : List Call) (call : Call) : Type 0 where
    pub steps : Steps Finish
    pub hand : HasHand script earlier call.ask.host steps
    pub asked : next_errand steps ≡ Some (errand_of call)

  pub asker : (earlier : List Call) (call : Call) → IsHistory script earlier → IsNext script earlier call → (row : RowNo) → row_of call.ask.what ≡ Some row → Asker earlier call
  asker earlier call along next row of = by (Earlier).work refl (own-errand script earlier call next call.ask.host (same-eqb call.ask.host.0)) (hand-at script is call.ask.host earlier along)
    where
      Earlier : Progress
      Earlier = progress_at script call.ask.host earlier

      same-eqb : (k : ℕ) → (k == k) ≡ true
      same-eqb k = grind (arith, nat_tests)

      by : (w : Work) → (Earlier).work ≡ w → work_errand (Earlier).work ≡ Some (errand_of call) → IsInHand script call.ask.host (Earlier) → Asker earlier call
      by (Trying steps) was asked hand = record {
        steps = steps;
        hand = record { work = was; hand = subst (λ (w : Work). HasWork script call.ask.host (Earlier).jobs (Earlier).row (Earlier).seen (Earlier).calls w) was hand };
        asked = subst (λ (w : Work). work_errand w ≡ Some (errand_of call)) was asked;
      }
      by (Losing bay) was asked hand =
          let sent : Some (record { bay = bay; request = Lose }) ≡ Some (errand_of call) = sym (ap (λ (w : Work). work_errand w) was) ∙ asked in
          let what : Lose ≡ call.ask.what = (let same : record { bay = bay; request = Lose } ≡ errand_of call = cc in ap (λ (x : Errand). x.request) same) in
          absurd (let bad : None ≡ Some row = ap (λ (w : Request). row_of w) what ∙ of in cc)
      by (Fitting bay) was asked hand =
          let sent : Some (record { bay = bay; request = Fit }) ≡ Some (errand_of call) = sym (ap (λ (w : Work). work_errand w) was) ∙ asked in
          let what : Fit ≡ call.ask.what = (let same : record { bay = bay; request = Fit } ≡ errand_of call = cc in ap (λ (x : Errand). x.request) same) in
          absurd (let bad : None ≡ Some row = ap (λ (w : Request). row_of w) what ∙ of in cc)
      by Over was asked hand = absurd (let bad : None ≡ Some (errand_of call) = sym (ap (λ (w : Work). work_errand w) was) ∙ asked in cc)

  -- an id of another host is another
  pub other-id : (earlier : List Call) (call : Call) → IsHistory script (call ∷ earlier) → (host : HostNo) (id : Number) → (call.ask.host.0 == host.0) ≡ false → id.0 % 16 ≡ host.0 → id_of call.ask.what ≡ Some id → ⊥
  other-id earlier call along host id other own named =
      let theirs : id.0 % 16 ≡ call.ask.host.0 = (ids_are_apart script (call ∷ earlier) is along).own.0 id named in
      let same : call.ask.host.0 ≡ host.0 = sym theirs ∙ own in
      absurd (grind (arith, nat_tests))

  -- Notes. What a claim of the attempt was shown when it got its note
  abbrev pub IsNotedBy : BayNo → RowNo → Note → Call → Type 0
  IsNotedBy at row note call = IsClaim at row call × (grant : Grant) × (grant_of call.answer.reply ≡ Some grant) × (note.origin ≡ origin_of note.id grant.seized)

  pub own-note : (history : List Call) → IsHistory script history → (host : HostNo) (steps : Steps Finish) (h : HasHand script history host steps) (e : Errand) → next_errand steps ≡ Some e →
      (at : BayNo) (row : RowNo) → row.0 < script.rows → (note : Note) → (slot_at script history at row).note ≡ Some note → note.id ≡ h.hand.id → Happened (IsNotedBy at row note) (calls_at script history host)
  own-note [] along host steps h e asked at row below note noted named =
      absurd ((ids_are_apart script [] is along).notes at row note below noted)
  own-note (call ∷ earlier) along host steps h e asked at row below note noted named =
      by (λ s hs es asks noted same. own-note earlier along.0 host s hs es asks at row below note noted same) (note-from script is earlier call along.1 at row below note noted) (came script is earlier call along.0 along.1 host steps h)
    where
      claimed : (call.bay ≡ at) × FromClaim call.ask row (slot_at script earlier at row).note call.ask.what call.answer.reply note → IsNotedBy at row note call
      claimed from =
          let f = from.1 in
          ((from.0, note.id, f.how, f.mask, f.want, f.claims), f.grant, f.grants, f.origin ∙ ap (λ (o : Option Note). origin_of note.id o) (sym f.seized))

      by : ((s : Steps Finish) (hs : HasHand script earlier host s) (es : Errand) → next_errand s ≡ Some es → (slot_at script earlier at row).note ≡ Some note → note.id ≡ hs.hand.id →
          Happened (IsNotedBy at row note) (calls_at script earlier host)) →
          ((slot_at script earlier at row).note ≡ Some note)
          ⊎ ((call.bay ≡ at) × FromClaim call.ask row (slot_at script earlier at row).note call.ask.what call.answer.reply note) →
          Came script is earlier call along.0 along.1 host steps h.hand.id h.hand.task (calls_at script (call ∷ earlier) host) → Happened (IsNotedBy at row note) (calls_at script (call ∷ earlier) host)
      by before from (Begun own bare) =
          let claim = (ids_are_apart script (call ∷ earlier) is along).notes at row note below noted in
          let mine = happened-own (call ∷ earlier) along host steps h e asked (λ c k. ap (λ (w : Request). id_of w) k.5 ∙ ap (λ (x : Number). Some x) named) claim in
          absurd (subst (λ (calls : List Call). Happened (IsNoteClaim at row note) calls) bare mine)
      by before (inl same) (Stayed stays) =
          subst (λ (calls : List Call). Happened (IsNotedBy at row note) calls) (sym stays.calls) (before steps stays.before e asked same (named ∙ sym stays.same_id))
      by before (inr from) (Stayed stays) =
          absurd (other-id earlier call along host h.hand.id stays.other h.hand.own (ap (λ (w : Request). id_of w) from.1.claims ∙ ap (λ (x : Number). Some x) named))
      by before (inl same) (Went goes) =
          subst (λ (calls : List Call). Happened (IsNotedBy at row note) calls) (sym goes.calls) (inr (before goes.steps goes.before (errand_of call) goes.asked same (named ∙ sym goes.same_id)))
      by before (inr from) (Went goes) =
          subst (λ (calls : List Call). Happened (IsNotedBy at row note) calls) (sym goes.calls) (inl (claimed from))

  -- What a claim of the operator's attempt was granted was not lost since
  others-lose-not : (earlier : List Call) (call : Call) → IsHistory script earlier → IsNext script earlier call → (call.ask.host.0 ≡ 0 → ⊥) → call.ask.what ≡ Lose → ⊥
  others-lose-not earlier call along next other what =
      let p : Progress = progress_at script call.ask.host earlier in
      let rowed = asks-rows script is call.ask.host (λ at row. Unit {0}) (λ at row. Unit {0}) (λ at. ⊥) (λ at. ⊥) p.jobs p.gone p.row p.work (errand_of call) call.answer.reply other
      (every-host script is earlier along call.ask.host).work (asked-errand script earlier call next) in
      let bad : false ≡ true = sym (ap (λ (w : Request). is_some (row_of w)) what) ∙ rowed in
      cc

  pub grants-live : (history : List Call) → IsHistory script history → (host : HostNo) (steps : Steps Finish) (h : HasHand script history host steps) → host.0 ≡ 0 → (at : BayNo) (row : RowNo) → row.0 < script.rows →
      (c : Call) → IsIn c (calls_at script history host) → IsClaim at row c → (grant : Grant) → grant_of c.answer.reply ≡ Some grant → grant.life ≡ (bay_at script at history).life
  grants-live [] along host steps h operator at row below c i of grant granted = absurd (subst (λ (calls : List Call). IsIn c calls) (jobs-bare script host (jobs_of script host) (before_start script host) refl) i)
  grants-live (call ∷ earlier) along host steps h operator at row below c i of grant granted =
      by (λ s hs j. grants-live earlier along.0 host s hs operator at row below c j of grant granted) (came script is earlier call along.0 along.1 host steps h)
    where
      asked-lose : (s : Steps Finish) (hs : HasHand script earlier host s) → next_errand s ≡ Some (errand_of call) → call.ask.what ≡ Lose → ⊥
      asked-lose s hs asks what =
          let named : id_of call.ask.what ≡ Some hs.hand.id = asked-id script is earlier host s hs call asks in
          let bad : None ≡ Some hs.hand.id = sym (ap (λ (w : Request). id_of w) what) ∙ named in
          cc

      first : (s : Steps Finish) (hs : HasHand script earlier host s) → next_errand s ≡ Some (errand_of call) →
          ((s : Steps Finish) (hs : HasHand script earlier host s) → IsIn c (calls_at script earlier host) → grant.life ≡ (bay_at script at earlier).life) →
          IsIn c (call ∷ calls_at script earlier host) → grant.life ≡ (bay_at script at (call ∷ earlier)).life
      first s hs asks before (inl same) =
          claim-life script is earlier call along.1 at row below (subst (IsClaim at row) (sym same) of) grant (subst (λ (x : Call). grant_of x.answer.reply ≡ Some grant) (sym same) granted)
          ∙ sym (life-kept script is earlier call along.1 at row below (asked-lose s hs asks))
      first s hs asks before (inr j) = before s hs j ∙ sym (life-kept script is earlier call along.1 at row below (asked-lose s hs asks))

      by : ((s : Steps Finish) (hs : HasHand script earlier host s) → IsIn c (calls_at script earlier host) → grant.life ≡ (bay_at script at earlier).life) →
          Came script is earlier call along.0 along.1 host steps h.hand.id h.hand.task (calls_at script (call ∷ earlier) host) → grant.life ≡ (bay_at script at (call ∷ earlier)).life
      by before (Begun own bare) = absurd (subst (λ (calls : List Call). IsIn c calls) bare i)
      by before (Stayed stays) =
          let other : (call.ask.host.0 ≡ 0) → ⊥ = λ zero_host. (let apart : (call.ask.host.0 == host.0) ≡ false = stays.other in absurd (grind (arith, nat_tests))) in
          before steps stays.before (subst (λ (calls : List Call). IsIn c calls) stays.calls i)
          ∙ sym (life-kept script is earlier call along.1 at row below (others-lose-not earlier call along.0 along.1 other))
      by before (Went goes) = first goes.steps goes.before goes.asked before (subst (λ (calls : List Call). IsIn c calls) goes.calls i)

-- What may come. Calls lead to one standing
led-one : (host : HostNo) (start : Standing Finish) (calls : List Call) (x y : Standing Finish) → Led host start calls x → Led host start calls y → x ≡ y
led-one host start [] x y one two = sym one ∙ two
led-one host start (call ∷ earlier) x y (before, led, asked, fit, later) (before1, led1, asked1, fit1, later1) =
    sym later ∙ ap (λ (s : Standing Finish). told host s call.answer.reply) (led-one host start earlier before before1 led led1) ∙ later1

module _ (script : Script) (is : IsScript script) (earlier : List Call) (call : Call) (along : IsHistory script earlier) (next : IsNext script earlier call) where
  abbrev Earlier : HostNo → Progress
  Earlier host = progress_at script host earlier

  -- the attempt that asked stands behind the reply
  pub stands-behind : (host : HostNo) (steps : Steps Finish) (h : HasHand script (call ∷ earlier) host steps) → (goes : Goes script is earlier call along next host h.hand.id h.hand.task (calls_at script (call ∷ earlier) host)) →
      told host (record { seen = (Earlier host).seen; steps = goes.steps }) call.answer.reply ≡ record { seen = (progress_at script host (call ∷ earlier)).seen; steps = steps }
  stands-behind host steps h goes = by (call.ask.host.0 == host.0) refl h.hand goes.calls goes.same_id goes.same_task
    where
      p : Progress
      p = progress_at script host earlier

      at : Bool → Progress
      at b = if_taken script host p call b

      start : ℕ → Number → Task → Standing Finish
      start row id task = settled host id (attempt script host id row task)

      same-start : (row : ℕ) (id id1 : Number) (task task1 : Task) (row1 : ℕ) → row ≡ row1 → id ≡ id1 → task ≡ task1 → start row id task ≡ start row1 id1 task1
      same-start row id id1 task task1 row1 r i t = ap (λ (x : ℕ). start x id task) r ∙ ap (λ (x : Number). start row1 x task) i ∙ ap (λ (x : Task). start row1 id1 x) t

      begins : (q : Progress) (x : InHand script host q.jobs q.row q.seen q.calls steps) → q.calls ≡ call ∷ p.calls → goes.before.hand.id ≡ x.id → goes.before.hand.task ≡ x.task → q.row ≡ p.row →
          told host (record { seen = p.seen; steps = goes.steps }) call.answer.reply ≡ record { seen = q.seen; steps = steps }
      begins q x calls same_id same_task row = from (subst (λ (cs : List Call). Led host (start q.row x.id x.task) cs (record { seen = q.seen; steps = steps })) calls x.led)
        where
          from : Led host (start q.row x.id x.task) (call ∷ p.calls) (record { seen = q.seen; steps = steps }) →
              told host (record { seen = p.seen; steps = goes.steps }) call.answer.reply ≡ record { seen = q.seen; steps = steps }
          from (before, led, asked, fit, later) =
              let old : Led host (start q.row x.id x.task) p.calls (record { seen = p.seen; steps = goes.steps }) =
              subst (λ (s : Standing Finish). Led host s p.calls (record { seen = p.seen; steps = goes.steps }))
              (same-start p.row goes.before.hand.id x.id goes.before.hand.task x.task q.row (sym row) same_id same_task) goes.before.hand.led in
              ap (λ (s : Standing Finish). told host s call.answer.reply) (led-one host (start q.row x.id x.task) p.calls (record { seen = p.seen; steps = goes.steps }) before old led) ∙ later

      by : (b : Bool) → (call.ask.host.0 == host.0) ≡ b → (x : InHand script host (at b).jobs (at b).row (at b).seen (at b).calls steps) → (at b).calls ≡ call ∷ p.calls → goes.before.hand.id ≡ x.id →
          goes.before.hand.task ≡ x.task → told host (record { seen = p.seen; steps = goes.steps }) call.answer.reply ≡ record { seen = (at b).seen; steps = steps }
      by false e x calls same_id same_task =
          let same : (call.ask.host.0 == host.0) ≡ true = eq-eqb call.ask.host.0 host.0 (ap (λ (k : HostNo). k.0) goes.own) in
          absurd (let bad : true ≡ false = sym same ∙ e in cc)
      by true e x calls same_id same_task = after (takes-after script host p call (errand_of call) (own-errand script earlier call next host e) (hand-at script is host earlier along))
        where
          after : ((at true).calls ≡ []) ⊎ GoesOn p call (at true) → told host (record { seen = p.seen; steps = goes.steps }) call.answer.reply ≡ record { seen = (at true).seen; steps = steps }
          after (inl bare) = absurd (let bad : [] ≡ call ∷ p.calls = sym bare ∙ calls in cc)
          after (inr g) = begins (at true) x calls same_id same_task g.row

-- a put that may come may come from before the call
pub may-before : (host : HostNo) (before now : Standing Finish) (call : Call) (at : BayNo) (row : RowNo) (id : Number) → next_errand before.steps ≡ Some (errand_of call) → told host before call.answer.reply ≡ now →
    MayPutTo host now at row id → MayPutTo host before at row id
may-before host before now call at row id asked stands (calls, later, leads, n, cell, put) =
    (call ∷ calls, later, (asked, subst (λ (s : Standing Finish). Leads host s calls later) (sym stands) leads), n, cell, put)

pub may-asks : (host : HostNo) (now : Standing Finish) (at : BayNo) (row : RowNo) (id : Number) → MayPutTo host now at row id → (e : Errand) × (next_errand now.steps ≡ Some e)
may-asks host now at row id ([], later, leads, n, cell, put) =
    (record { bay = at; request = Put row id n cell }, subst (λ (s : Standing Finish). next_errand s.steps ≡ Some (record { bay = at; request = Put row id n cell })) (sym leads) put)
may-asks host now at row id (call ∷ calls, later, leads, n, cell, put) = (errand_of call, leads.0)

-- what has been put stays, and where it only gives back it goes on so
record Onward (past later : Past) : Type 0 where
  put : (slot : Slot) → IsIn slot past.put → IsIn slot later.put
  free : 3 ≤ past.phase → 3 ≤ later.phase

onward-itself : (past : Past) → Onward past past
onward-itself past = record { put = λ slot i. i; free = λ h. h }

onward-next : (x y z : Past) → Onward x y → Onward y z → Onward x z
onward-next x y z one two = record { put = λ slot i. two.put slot (one.put slot i); free = λ h. two.free (one.free h) }

asking-onward : (n : ℕ) (id : Number) (past : Past) (bay : BayNo) (what : Request) (r : Reply) → MayAsk n id past bay what → Onward past (after_asking past bay what r)
asking-onward n id past bay (Share row by want) r may = onward-itself past
asking-onward n id past bay (Claim row by how mask want) r may = record { put = λ slot i. i; free = λ h. h }
asking-onward n id past bay (Confirm row by want) r may = record { put = λ slot i. i; free = λ h. absurd (let le = may.1 in omega (arith, le, h)) }
asking-onward n id past bay (Put row by number cell) r may = record { put = λ slot i. inr i; free = λ h. absurd (let le = may.1 in omega (arith, le, h)) }
asking-onward n id past bay (Release row by number) r may = record { put = λ slot i. i; free = λ h. omega arith }
asking-onward n id past bay Lose r may = absurd may
asking-onward n id past bay Fit r may = absurd may

number-onward : (past : Past) (d : Result Number Spent) → past.phase ≤ 1 → Onward past (after_number past d)
number-onward past (Ok n) early = record { put = λ slot i. i; free = λ h. absurd (omega (arith, early, h)) }
number-onward past (Err spent) early = record { put = λ slot i. i; free = λ h. absurd (omega (arith, early, h)) }

module _ (n : ℕ) (id : Number) (host : HostNo) where
  settled-onward : (seen : Number) (past : Past) (s : Steps Finish) → Keeps n id Any past s → (later : Past) × Keeps n id Any later (settled host seen s).steps × Onward past later
  settled-onward seen past (Asks e t c k) h = (past, h, onward-itself past)
  settled-onward seen past (Draws k) h =
      let d : Result Number Spent = draw host seen in
      let found = settled-onward (seen_drawn seen d) (after_number past d) (k d) (h.2 d) in
      (found.0, found.1, onward-next past (after_number past d) found.0 (number-onward past d h.1) found.2)
  settled-onward seen past (Ends f) h = (past, tt, onward-itself past)

  told-onward : (seen : Number) (past : Past) (s : Steps Finish) (call : Call) → Keeps n id Any past s → next_errand s ≡ Some (errand_of call) →
      (later : Past) × Keeps n id Any later (settled host seen (behind s call.answer.reply)).steps × Onward past later
  told-onward seen past (Asks e t c k) call h asked =
      let r : Reply = call.answer.reply in
      let found = settled-onward seen (after past e r) (k r) (h.1 r) in
      (found.0, found.1, onward-next past (after past e r) found.0 (asking-onward n id past e.bay e.request r h.0) found.2)
  told-onward seen past (Draws k) call h asked = absurd (cc)
  told-onward seen past (Ends f) call h asked = absurd (cc)

  leads-onward : (calls : List Call) (now later : Standing Finish) (past : Past) → Keeps n id Any past now.steps → Leads host now calls later → (last : Past) × Keeps n id Any last later.steps × Onward past last
  leads-onward [] now later past h leads = (past, subst (λ (s : Standing Finish). Keeps n id Any past s.steps) leads h, onward-itself past)
  leads-onward (call ∷ calls) now later past h leads =
      let one = told-onward (sees now.seen call.answer.reply) past now.steps call h leads.0 in
      let rest = leads-onward calls (told host now call.answer.reply) later one.0 one.1 leads.1 in
      (rest.0, rest.1, onward-next past one.0 rest.0 one.2 rest.2)

  -- a put that may come is before the parity's and before all that is given back
  pub put-to-come : (now : Standing Finish) (past : Past) (at : BayNo) (row : RowNo) → Keeps n id Any past now.steps → MayPutTo host now at row id → (IsIn (parity_slot n row) past.put → ⊥) × (3 ≤ past.phase → ⊥)
  put-to-come now past at row h (calls, later, leads, k, cell, put) =
      let found = leads-onward calls now later past h leads in
      let may : MayAsk n id found.0 at (Put row id k cell) = may-next n id found.0 later.steps (record { bay = at; request = Put row id k cell }) found.1 put in
      (λ i. may.3.parity_last (found.2.put (parity_slot n row) i), λ late. (let low = may.1 in let high = found.2.free late in omega (arith, low, high)))
