-- Calls and the attempts in hand that asked them.
use Rattle.std.proofs.Common.{◌≡◌, ◌⊎◌, inl, inr, refl, sym, ap, subst, ◌∙◌, ℕ, ◌==◌, Bool, true, false, if◌then◌else◌, List, [], ◌∷◌, Option, Some, None, arith}
use Rattle.std.proofs.lemmas.Bool.{eq-eqb}
use Rattle.std.proofs.lemmas.Bool.Decides.{nat_tests}
use Rattle.raid_base.specs.declared.numbers.BayNo.{BayNo}
use Rattle.raid_base.specs.declared.numbers.HostNo.{HostNo}
use Rattle.raid_base.specs.declared.numbers.RowNo.{RowNo}
use Rattle.raid_base.specs.declared.numbers.Number.{Number}
use Rattle.raid_base.specs.declared.messages.How.{How}
use Rattle.raid_base.specs.declared.messages.How.TheVariants.{Seize, Mend}
use Rattle.raid_base.specs.declared.messages.Note.{Note}
use Rattle.raid_base.specs.declared.messages.Request.{Request}
use Rattle.raid_base.specs.declared.messages.Request.TheVariants.{Claim, Lose, Fit}
use Rattle.raid_base.specs.declared.messages.Errand.{Errand}
use Rattle.raid_base.specs.declared.messages.Call.{Call}
use Rattle.raid_base.specs.declared.jobs.Task.TheVariants as tasks
use Rattle.raid_base.specs.Steps.{Steps, next_errand, errand_of}
use Rattle.attempts.specs.Taking.{Finish}
use Rattle.attempts.specs.Once.{AttemptsAskOnce, ClaimsAreOfTheirKind}
use Rattle.attempts.specs.Phases.{IsIn}
use Rattle.script_text.specs.Script.{Script, jobs_of}
use Rattle.script_text.specs.Ranges.{IsScript}
use Rattle.histories.specs.Calls.{Happened, id_of}
use Rattle.histories.specs.Hands.{HasWork}
use Rattle.histories.specs.Progress.{Work, Trying, Losing, Fitting, Over, Progress, work_errand}
use Rattle.histories.specs.History.{progress_at, IsHistory}
use Rattle.histories.proofs.hands.Attempting.{hand-at, asked-errand}
use Rattle.histories.proofs.bounds.BoundsTakes.{before_start}
use Rattle.histories.proofs.hands.HandSteps.{jobs-bare}
use Rattle.histories.specs.Ids.{is_id, calls_with}
use Rattle.histories.specs.Leftovers.{IsSeizure}
use Rattle.row_laws.specs.Holding.{IsMendClaim}
use Rattle.row_laws.specs.Hands.{HasHand, calls_at}
use Rattle.histories.proofs.accesses.AccessIds.{ids_are_apart}
use Rattle.row_laws.proofs.hands.HandMoves.{asked-id, Came, Stayed, Begun, Went, came}
use Rattle.row_laws.proofs.holders.HolderNotesHands.{claim-kind, mend-operator}
use Rattle.row_laws.proofs.hands.HandClaims.{kind_of, seize-recovers}
use Rattle.row_laws.proofs.owners.RowOwnersHands.{other-id}

-- The calls with an id
with-own : (id : Number) (call : Call) (earlier : List Call) → id_of call.ask.what ≡ Some id → calls_with id (call ∷ earlier) ≡ call ∷ calls_with id earlier
with-own id call earlier e =
    let same : is_id id (id_of call.ask.what) ≡ true = subst (λ (o : Option Number). is_id id o ≡ true) (sym e) (eq-eqb id.0 id.0 refl) in
    ap (λ (b : Bool). if b then call ∷ calls_with id earlier else calls_with id earlier) same

with-other : (id : Number) (call : Call) (earlier : List Call) → (id_of call.ask.what ≡ Some id → ⊥) → calls_with id (call ∷ earlier) ≡ calls_with id earlier
with-other id call earlier apart = ap (λ (b : Bool). if b then call ∷ calls_with id earlier else calls_with id earlier) (by (id_of call.ask.what) refl)
  where
    differs : (n : Number) → id_of call.ask.what ≡ Some n → (b : Bool) → (n.0 == id.0) ≡ b → b ≡ false
    differs n e true same =
        let one : n.0 ≡ id.0 = grind (arith, nat_tests) in absurd (apart (e ∙ ap (λ (k : ℕ). let x : Number = record { 0 = k } in Some x) one))
    differs n e false same = refl

    by : (o : Option Number) → id_of call.ask.what ≡ o → is_id id o ≡ false
    by None e = refl
    by (Some n) e = differs n e (n.0 == id.0) refl

in-with : (id : Number) (history : List Call) (call : Call) → IsIn call (calls_with id history) → IsIn call history
in-with id [] call i = i
in-with id (first ∷ earlier) call i = by (is_id id (id_of first.ask.what)) i (in-with id earlier call)
  where
    by : (b : Bool) → IsIn call (if b then first ∷ calls_with id earlier else calls_with id earlier) → (IsIn call (calls_with id earlier) → IsIn call earlier) → (first ≡ call) ⊎ IsIn call earlier
    by true (inl same) rest = inl same
    by true (inr i) rest = inr (rest i)
    by false i rest = inr (rest i)

-- what has happened with this id is among them
pub record Among (P : Call → Type 0) (calls : List Call) : Type 0 where
  pub call : Call
  pub among : IsIn call calls
  pub is : P call

happened-with : (P : Call → Type 0) (id : Number) → ((call : Call) → P call → id_of call.ask.what ≡ Some id) → (history : List Call) → Happened P history → Among P (calls_with id history)
happened-with P id named [] h = absurd h
happened-with P id named (call ∷ earlier) (inl here) = record { call = call; among = subst (λ (xs : List Call). IsIn call xs) (sym (with-own id call earlier (named call here))) (inl refl); is = here }
happened-with P id named (call ∷ earlier) (inr h) =
    let found : Among P (calls_with id earlier) = happened-with P id named earlier h in
    record { call = found.call; among = by found.call (is_id id (id_of call.ask.what)) found.among; is = found.is }
  where
    by : (x : Call) (b : Bool) → IsIn x (calls_with id earlier) → IsIn x (if b then call ∷ calls_with id earlier else calls_with id earlier)
    by x true i = inr i
    by x false i = i

module _ (script : Script) (is : IsScript script) where
  -- at the start nothing was asked
  pub none-first : (host : HostNo) → calls_at script [] host ≡ []
  none-first host = jobs-bare script host (jobs_of script host) (before_start script host) refl

  -- The attempt that asked a call
  pub record Asker (earlier : List Call) (call : Call) : Type 0 where
    pub steps : Steps Finish
    pub before : HasHand script earlier call.ask.host steps
    pub asked : next_errand steps ≡ Some (errand_of call)

  module _ (earlier : List Call) (call : Call) (along : IsHistory script (call ∷ earlier)) where
    pub asker : (id : Number) → id_of call.ask.what ≡ Some id → Asker earlier call
    asker id named = by p.work refl (asked-errand script earlier call along.1) (hand-at script is call.ask.host earlier along.0)
      where
        p : Progress
        p = progress_at script call.ask.host earlier

        unnamed : (what : Request) → what ≡ call.ask.what → id_of what ≡ None → ⊥
        unnamed what same none = absurd (let bad : None ≡ Some id = sym none ∙ ap (λ (w : Request). id_of w) same ∙ named in cc)

        by : (w : Work) → p.work ≡ w → work_errand w ≡ Some (errand_of call) → HasWork script call.ask.host p.jobs p.row p.seen p.calls w → Asker earlier call
        by (Trying s) was asked h = record { steps = s; before = record { work = was; hand = h }; asked = asked }
        by (Losing bay) was asked h = let same : record { bay = bay; request = Lose } ≡ errand_of call = cc in absurd (unnamed Lose (ap (λ (e : Errand). e.request) same) refl)
        by (Fitting bay) was asked h = let same : record { bay = bay; request = Fit } ≡ errand_of call = cc in absurd (unnamed Fit (ap (λ (e : Errand). e.request) same) refl)
        by Over was asked h = absurd (cc)

    -- all calls before with the asker's id are its calls
    pub asker-calls : (host : HostNo) (steps : Steps Finish) → (before : HasHand script earlier host steps) → next_errand steps ≡ Some (errand_of call) → calls_with before.hand.id earlier ≡ calls_at script earlier host
    asker-calls host steps before asked =
        (ids_are_apart script earlier is along.0).in_hand host (errand_of call) before.hand.id (ap work_errand before.work ∙ asked) (asked-id script is earlier host steps before call asked)

  -- and so it is with every attempt in hand that has made a call
  pub calls-mine : (history : List Call) → IsHistory script history → (host : HostNo) (steps : Steps Finish) (h : HasHand script history host steps) (x : Call) → IsIn x (calls_at script history host) →
      calls_with h.hand.id history ≡ calls_at script history host
  calls-mine [] along host steps h x i = absurd (subst (λ (xs : List Call). IsIn x xs) (none-first host) i)
  calls-mine (call ∷ earlier) along host steps h x i = by (came script is earlier call along.0 along.1 host steps h) (calls-mine earlier along.0 host)
    where
      by : Came script is earlier call along.0 along.1 host steps h.hand.id h.hand.task (calls_at script (call ∷ earlier) host) →
          ((s : Steps Finish) (before : HasHand script earlier host s) (x : Call) → IsIn x (calls_at script earlier host) → calls_with before.hand.id earlier ≡ calls_at script earlier host) →
          calls_with h.hand.id (call ∷ earlier) ≡ calls_at script (call ∷ earlier) host
      by (Stayed s) rest =
          with-other h.hand.id call earlier (other-id script is earlier call along host h.hand.id s.other h.hand.own)
          ∙ ap (λ (n : Number). calls_with n earlier) (sym s.same_id)
          ∙ rest steps s.before x (subst (λ (xs : List Call). IsIn x xs) s.calls i)
          ∙ sym s.calls
      by (Begun own bare) rest = absurd (subst (λ (xs : List Call). IsIn x xs) bare i)
      by (Went g) rest =
          with-own h.hand.id call earlier (asked-id script is earlier host g.steps g.before call g.asked ∙ ap (λ (n : Number). Some n) g.same_id)
          ∙ ap (λ (xs : List Call). call ∷ xs) (ap (λ (n : Number). calls_with n earlier) (sym g.same_id) ∙ asker-calls earlier call along host g.steps g.before g.asked)
          ∙ sym g.calls

  pub in-history : (history : List Call) → IsHistory script history → (host : HostNo) (steps : Steps Finish) (h : HasHand script history host steps) (x : Call) → IsIn x (calls_at script history host) → IsIn x history
  in-history history along host steps h x i = in-with h.hand.id history x (subst (λ (xs : List Call). IsIn x xs) (sym (calls-mine history along host steps h x i)) i)

  -- Claims with an attempt's id tell its kind
  module _ (once : AttemptsAskOnce) (kinds : ClaimsAreOfTheirKind) where
    module _ (history : List Call) (host : HostNo) (steps : Steps Finish) (h : HasHand script history host steps) (mine : calls_with h.hand.id history ≡ calls_at script history host) where
      pub mine-among : (P : Call → Type 0) → ((call : Call) → P call → id_of call.ask.what ≡ Some h.hand.id) → Happened P history → Among P (calls_at script history host)
      mine-among P named happened = subst (λ (xs : List Call). Among P xs) mine (happened-with P h.hand.id named history happened)

      kind-by : (call : Call) → IsIn call (calls_at script history host) → (row : RowNo) (id : Number) (how : How) (mask : ℕ) (want : Bool) → call.ask.what ≡ Claim row id how mask want → how ≡ kind_of h.hand.task
      kind-by call i row id how mask want what =
          let p : Progress = progress_at script host history in
          claim-kind script is once kinds host p.jobs p.row p.seen p.calls steps h.hand call row id how mask want i what

      pub mends-operator : (at : BayNo) (row : RowNo) (note : Note) → note.id ≡ h.hand.id → Happened (IsMendClaim at row note) history → host.0 ≡ 0
      mends-operator at row note same happened =
          let found : Among (IsMendClaim at row note) (calls_at script history host) =
          mine-among (IsMendClaim at row note) (λ call claim. ap (λ (w : Request). id_of w) claim.4 ∙ ap (λ (n : Number). Some n) same) happened in
          mend-operator script host h.hand.task h.hand.is (kind-by found.call found.among row note.id Mend found.is.2 found.is.3 found.is.4)

      pub seizes-recover : (of : HostNo) (id : Number) → id ≡ h.hand.id → Happened (IsSeizure of id) history → (row : RowNo) × (h.hand.task ≡ tasks.Recover row)
      seizes-recover of id same happened =
          let found : Among (IsSeizure of id) (calls_at script history host) =
          mine-among (IsSeizure of id) (λ call claim. ap (λ (w : Request). id_of w) claim.4 ∙ ap (λ (n : Number). Some n) same) happened in
          seize-recovers h.hand.task (kind-by found.call found.among found.is.1 id Seize found.is.2 found.is.3 found.is.4)
