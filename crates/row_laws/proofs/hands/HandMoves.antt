-- What a call of a history does to the attempts in hand: those of other hosts stay, and that of its host is the one that
-- asked it, or a new one.
use Rattle.std.proofs.Common.{◌≡◌, ◌⊎◌, inl, inr, refl, sym, ap, subst, ◌∙◌, ℕ, ◌==◌, Bool, true, false, List, [], ◌∷◌, Some}
use Rattle.raid_base.specs.declared.numbers.BayNo.{BayNo}
use Rattle.raid_base.specs.declared.numbers.HostNo.{HostNo}
use Rattle.raid_base.specs.declared.numbers.Number.{Number}
use Rattle.raid_base.specs.declared.messages.Call.{Call}
use Rattle.raid_base.specs.declared.messages.Errand.{Errand}
use Rattle.raid_base.specs.declared.messages.Request.{Request}
use Rattle.raid_base.specs.declared.messages.Request.TheVariants.{Share, Claim, Confirm, Put, Release, Lose, Fit}
use Rattle.raid_base.specs.declared.jobs.Task.{Task}
use Rattle.raid_base.specs.Steps.{Steps, Asks, Draws, Ends, settled, next_errand, errand_of}
use Rattle.attempts.specs.Taking.{Finish}
use Rattle.attempts.specs.Phases.{Past, MayAsk, Keeps}
use Rattle.script_text.specs.Script.{Script}
use Rattle.script_text.specs.Ranges.{IsScript}
use Rattle.histories.specs.Calls.{id_of}
use Rattle.histories.specs.Hands.{InHand, HasWork, IsInHand, Led, Phased, Any}
use Rattle.histories.specs.Progress.{Work, Trying, Progress, attempt, work_errand, task_of}
use Rattle.histories.specs.History.{if_taken, progress_at, IsNext, IsHistory}
use Rattle.histories.proofs.hands.Attempting.{hand-at, own-errand}
use Rattle.histories.proofs.hands.PhasedHands.{phased}
use Rattle.histories.proofs.hands.HandSteps.{GoesOn, takes-after}
use Rattle.row_laws.specs.Hands.{HasHand, calls_at}
use Rattle.histories.proofs.steps.SameNumbers.{same-host, same-some}

-- what is asked has the attempt's id
pub may-id : (n : ℕ) (id : Number) (past : Past) (bay : BayNo) (what : Request) → MayAsk n id past bay what → id_of what ≡ Some id
may-id n id past bay (Share row by want) h = ap (λ (x : Number). Some x) h.0
may-id n id past bay (Claim row by how mask want) h = ap (λ (x : Number). Some x) h.0
may-id n id past bay (Confirm row by want) h = ap (λ (x : Number). Some x) h.0
may-id n id past bay (Put row by number cell) h = ap (λ (x : Number). Some x) h.0
may-id n id past bay (Release row by number) h = ap (λ (x : Number). Some x) h
may-id n id past bay Lose h = absurd h
may-id n id past bay Fit h = absurd h

pub may-next : (n : ℕ) (id : Number) (past : Past) (s : Steps Finish) (e : Errand) → Keeps n id Any past s → next_errand s ≡ Some e → MayAsk n id past e.bay e.request
may-next n id past (Asks first t c k) e h asked = let same : first ≡ e = cc in subst (λ (x : Errand). MayAsk n id past x.bay x.request) same h.0
may-next n id past (Draws k) e h asked = absurd (cc)
may-next n id past (Ends f) e h asked = absurd (cc)

module _ (script : Script) (is : IsScript script) where
  -- the id of what an attempt in hand asks is its own
  pub next-id : (history : List Call) (host : HostNo) (steps : Steps Finish) (h : HasHand script history host steps) (e : Errand) → next_errand steps ≡ Some e → id_of e.request ≡ Some h.hand.id
  next-id history host steps h e asked =
      let f : Phased script.n h.hand.id (calls_at script history host) steps = phased script is host (progress_at script host history) steps h.hand in
      may-id script.n h.hand.id f.past e.bay e.request (may-next script.n h.hand.id f.past steps e f.keeps asked)

  pub asked-id : (history : List Call) (host : HostNo) (steps : Steps Finish) (h : HasHand script history host steps) (call : Call) → next_errand steps ≡ Some (errand_of call) →
      id_of call.ask.what ≡ Some h.hand.id
  asked-id history host steps h call asked = next-id history host steps h (errand_of call) asked

  pub id-is-own : (history : List Call) (host : HostNo) (steps : Steps Finish) (h : HasHand script history host steps) (call : Call) → next_errand steps ≡ Some (errand_of call) →
      (id : Number) → id_of call.ask.what ≡ Some id → id ≡ h.hand.id
  id-is-own history host steps h call asked id named = same-some id h.hand.id (sym named ∙ asked-id history host steps h call asked)

  module _ (earlier : List Call) (call : Call) (along : IsHistory script earlier) (next : IsNext script earlier call) where
    abbrev Earlier : HostNo → Progress
    Earlier host = progress_at script host earlier

    -- it asked the call
    pub record Goes (host : HostNo) (id : Number) (task : Task) (later : List Call) : Type 0 where
      pub own : call.ask.host ≡ host
      pub steps : Steps Finish
      pub before : HasHand script earlier host steps
      pub same_id : before.hand.id ≡ id
      pub same_task : before.hand.task ≡ task
      pub calls : later ≡ call ∷ calls_at script earlier host
      pub asked : next_errand steps ≡ Some (errand_of call)

    -- it was there before
    pub record Stays (host : HostNo) (steps : Steps Finish) (id : Number) (task : Task) (later : List Call) : Type 0 where
      pub other : (call.ask.host.0 == host.0) ≡ false
      pub before : HasHand script earlier host steps
      pub same_id : before.hand.id ≡ id
      pub same_task : before.hand.task ≡ task
      pub calls : later ≡ calls_at script earlier host

    -- it was there before, or has asked nothing yet, or asked the call
    pub data Came (host : HostNo) (steps : Steps Finish) (id : Number) (task : Task) (later : List Call) : Type 0 where
      Stayed : (stays : Stays host steps id task later) → Came host steps id task later
      Begun : (own : call.ask.host ≡ host) (bare : later ≡ []) → Came host steps id task later
      Went : (goes : Goes host id task later) → Came host steps id task later

    -- the attempt that asked
    goes-on : (host : HostNo) → call.ask.host ≡ host → (s : Steps Finish) → (Earlier host).work ≡ Trying s → work_errand (Trying s) ≡ Some (errand_of call) → IsInHand script host (Earlier host) →
        (q : Progress) → GoesOn (Earlier host) call q → (steps : Steps Finish) → (h : InHand script host q.jobs q.row q.seen q.calls steps) → Goes host h.id h.task q.calls
    goes-on host own s was asked hand q g steps h =
        let p : Progress = Earlier host in
        let at : InHand script host p.jobs p.row p.seen p.calls s = subst (λ (w : Work). HasWork script host p.jobs p.row p.seen p.calls w) was hand in
        let before : HasHand script earlier host s = record { work = was; hand = at } in
        let first : id_of call.ask.what ≡ Some at.id = asked-id earlier host s before call asked in
        record {
          own = own;
          steps = s;
          before = before;
          same_id = same-some at.id h.id (sym first ∙ last-as q steps h p.calls g.calls);
          same_task = same-some at.task h.task (sym at.first ∙ ap task_of (sym g.jobs) ∙ h.first);
          calls = g.calls;
          asked = asked;
        }
      where
        last-as : (q : Progress) (steps : Steps Finish) (h : InHand script host q.jobs q.row q.seen q.calls steps) (cs : List Call) → q.calls ≡ call ∷ cs → id_of call.ask.what ≡ Some h.id
        last-as q steps h cs e = by q.calls e h.led
          where
            by : (all : List Call) → all ≡ call ∷ cs → Led host (settled host h.id (attempt script host h.id q.row h.task)) all (record { seen = q.seen; steps = steps }) → id_of call.ask.what ≡ Some h.id
            by [] none led = absurd (cc)
            by (c ∷ rest) same (before, led, asked, fit, later) =
                let hand : InHand script host q.jobs q.row before.seen rest before.steps =
                record { task = h.task; first = h.first; is = h.is; tried = h.tried; id = h.id; own = h.own; least = h.least; most = h.most; led = led } in
                let f : Phased script.n h.id rest before.steps = phased script is host (record q { seen = before.seen; calls = rest }) before.steps hand in
                let named : id_of c.ask.what ≡ Some h.id = may-id script.n h.id f.past c.bay c.ask.what (may-next script.n h.id f.past before.steps (errand_of c) f.keeps asked) in
                let one : c ≡ call = cc in
                subst (λ (x : Call). id_of x.ask.what ≡ Some h.id) one named

    pub came : (host : HostNo) (steps : Steps Finish) (h : HasHand script (call ∷ earlier) host steps) → Came host steps h.hand.id h.hand.task (calls_at script (call ∷ earlier) host)
    came host steps h = by (call.ask.host.0 == host.0) refl h.work h.hand
      where
        p : Progress
        p = progress_at script host earlier

        at : (b : Bool) → Progress
        at b = if_taken script host p call b

        by : (b : Bool) → (call.ask.host.0 == host.0) ≡ b → (at b).work ≡ Trying steps → (x : InHand script host (at b).jobs (at b).row (at b).seen (at b).calls steps) → Came host steps x.id x.task (at b).calls
        by false e work x = Stayed (record { other = e; before = record { work = work; hand = x }; same_id = refl; same_task = refl; calls = refl })
        by true e work x = after (takes-after script host p call (errand_of call) asked (hand-at script is host earlier along))
          where
            own : call.ask.host ≡ host
            own = same-host call.ask.host host e

            asked : work_errand p.work ≡ Some (errand_of call)
            asked = own-errand script earlier call next host e

            after : ((at true).calls ≡ []) ⊎ GoesOn p call (at true) → Came host steps x.id x.task (at true).calls
            after (inl bare) = Begun own bare
            after (inr g) = Went (goes-on host own g.steps g.work (subst (λ (w : Work). work_errand w ≡ Some (errand_of call)) g.work asked) (hand-at script is host earlier along) (at true) g steps x)
