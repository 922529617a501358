-- The attempt that asked a put that is done: whose notes it found, which rows it has confirmed, and what a rebuild has left there.
use Rattle.std.proofs.Common.{◌≡◌, ◌⊎◌, inl, inr, sym, ap, subst, ◌∙◌, ℕ, ◌<◌, true, false, is_some, List, [], ◌∷◌, Option, Some, None, arith}
use Rattle.raid_base.specs.declared.numbers.BayNo.{BayNo}
use Rattle.raid_base.specs.declared.numbers.HostNo.{HostNo}
use Rattle.raid_base.specs.declared.numbers.RowNo.{RowNo}
use Rattle.raid_base.specs.declared.numbers.Number.{Number}
use Rattle.raid_base.specs.declared.cells.Cell.{Cell}
use Rattle.raid_base.specs.declared.messages.How.TheVariants.{Seize}
use Rattle.raid_base.specs.declared.messages.Note.{Note}
use Rattle.raid_base.specs.declared.messages.Call.{Call}
use Rattle.raid_base.specs.declared.messages.Errand.{Errand}
use Rattle.raid_base.specs.declared.messages.Request.{Request}
use Rattle.raid_base.specs.declared.messages.Request.TheVariants.{Put}
use Rattle.raid_base.specs.declared.jobs.Job.{Job}
use Rattle.raid_base.specs.declared.jobs.Task.{Task}
use Rattle.raid_base.specs.declared.jobs.Task.TheVariants as tasks
use Rattle.raid_base.specs.Steps.{Steps, next_errand, errand_of}
use Rattle.stripe_layout.specs.Placement.{parity_bay}
use Rattle.attempts.specs.Taking.{Finish}
use Rattle.attempts.specs.Phases.{Slot, IsIn, MayAsk}
use Rattle.attempts.proofs.OnceClaims.{claims_are_of_their_kind}
use Rattle.attempts.proofs.RoomLemmas.{parity-below}
use Rattle.script_text.specs.Script.{Script}
use Rattle.script_text.specs.Ranges.{IsScript, IsTask}
use Rattle.histories.specs.Calls.{Happened, id_of, IsDone}
use Rattle.histories.specs.Hands.{Phased, past_of}
use Rattle.histories.specs.Progress.{Work, Trying, Progress, task_of}
use Rattle.histories.specs.History.{progress_at, IsHistory}
use Rattle.histories.specs.declared.operator.Gone.{Gone}
use Rattle.histories.proofs.hands.PhasedHands.{phased}
use Rattle.histories.specs.RowStates.{slot_at, cell_at}
use Rattle.histories.specs.Leftovers.{IsSeizure}
use Rattle.row_laws.specs.Hands.{HasHand, calls_at}
use Rattle.row_laws.specs.Holding.{HasNote, CameFrom, GivesNothing, IsRelease}
use Rattle.row_laws.proofs.hands.HandMoves.{may-next, id-is-own}
use Rattle.histories.proofs.missing.MissingHosts.{IsGone, Ready, SafeWork, Safe}
use Rattle.histories.proofs.missing.MissingBays.{Here, Empty, operator-safe}
use Rattle.row_laws.proofs.owners.OwnedPuts.{all-in}
use Rattle.row_laws.proofs.owners.RowOwnersSlots.{origins}
use Rattle.row_laws.proofs.owners.RowOwnersCalls.{has-noted, taking-frees}
use Rattle.row_laws.proofs.owners.RowOwnersTasks.{seizes, rebuild-asks}
use Rattle.row_laws.proofs.owners.RowOwnersTrees.{MendAsks}
use Rattle.serial_laws.proofs.contents.ContentSlots.{noted-at}
use Rattle.histories.proofs.steps.SameNumbers.{same-some}
use Rattle.row_laws.proofs.hands.HandClaims.{kind_of}

came-by : (o : Option Note) (id : Number) (note : Note) → o ≡ Some note → note.origin ≡ id → CameFrom id o
came-by o id note is same = subst (λ (x : Option Note). CameFrom id x) (sym is) same

module _ (script : Script) (is : IsScript script) (earlier : List Call) (call : Call) (along : IsHistory script (call ∷ earlier)) (row : RowNo) (below : row.0 < script.rows) (at : BayNo) (id k : Number) (cell : Cell)
    (place : call.bay ≡ at) (what : call.ask.what ≡ Put row id k cell) (done : IsDone call)
    (steps : Steps Finish) (h : HasHand script earlier call.ask.host steps) (asked : next_errand steps ≡ Some (errand_of call)) where
  abbrev Host : HostNo
  Host = call.ask.host

  abbrev Now : Progress
  Now = progress_at script call.ask.host earlier

  abbrev Calls : List Call
  Calls = calls_at script earlier call.ask.host

  -- it finds its own note
  pub own-noted : HasNote h.hand.id (slot_at script earlier at row).note
  own-noted =
      subst (λ (x : Number). HasNote x (slot_at script earlier at row).note) (id-is-own script is earlier call.ask.host steps h call asked id (ap (λ (w : Request). id_of w) what))
      (noted-at script is earlier call along.1 at row below id k cell place what done)

  -- where it seizes nothing, the note that it found came from it
  pub own-origin : (kind_of h.hand.task ≡ Seize → ⊥) → CameFrom h.hand.id (slot_at script earlier at row).note
  own-origin plain =
      let found = has-noted (slot_at script earlier at row).note h.hand.id own-noted in
      came-by (slot_at script earlier at row).note h.hand.id found.0 found.1 (by found.0 found.2 (origins script is earlier along.0 at row below found.0 found.1))
    where
      by : (note : Note) → note.id ≡ h.hand.id → (note.origin ≡ note.id) ⊎ Happened (IsSeizure note.host note.id) earlier → note.origin ≡ h.hand.id
      by note named (inl own) = own ∙ named
      by note named (inr seized) = absurd (plain (seizes claims_are_of_their_kind script is earlier along.0 call.ask.host steps h (errand_of call) asked note.host note.id named seized))

  past : Phased script.n h.hand.id Calls steps
  past = phased script is call.ask.host (progress_at script call.ask.host earlier) steps h.hand

  may-ask : MayAsk script.n h.hand.id (past).past call.bay (Put row id k cell)
  may-ask =
      subst (λ (w : Request). MayAsk script.n h.hand.id (past).past call.bay w) what (may-next script.n h.hand.id (past).past steps (errand_of call) (past).keeps asked)

  -- each row of which it has claimed a slot is confirmed
  pub all-confirmed : (slot : Slot) → IsIn slot (past_of Calls).claimed → IsIn slot.row (past_of Calls).confirmed
  all-confirmed slot i =
      subst (λ (rows : List RowNo). IsIn slot.row rows) (past).same.confirmed
      (all-in (λ (x : Slot). IsIn x.row (past).past.confirmed) slot (past).past.claimed may-ask.3.confirmed (subst (λ (slots : List Slot). IsIn slot slots) (sym (past).same.claimed) i))

  -- A rebuild
  module _ (bay : BayNo) (mends : h.hand.task ≡ tasks.Rebuild bay) where
    mend-asks : MendAsks (record { n = script.n; id = h.hand.id; row = record { 0 = (Now).row }; target = bay }) Calls (errand_of call)
    mend-asks = rebuild-asks claims_are_of_their_kind script is earlier along.0 call.ask.host steps h (errand_of call) asked bay mends

    pub mends-row : row ≡ record { 0 = (Now).row }
    mends-row = (mend-asks row id k cell what).0

    -- it has given nothing back
    pub mends-keep : GivesNothing steps Calls
    mends-keep = record {
      so_far = taking-frees Calls (mend-asks row id k cell what).1.only;
      next = λ errand asks release.
          let same : errand_of call ≡ errand = same-some (errand_of call) errand (sym asked ∙ asks) in
          subst (λ (w : Request). IsRelease w) what (subst (λ (e : Errand). IsRelease e.request) (sym same) release);
    }

    aim : IsTask script call.ask.host (tasks.Rebuild bay)
    aim = subst (IsTask script call.ask.host) mends h.hand.is

    safe : Safe script is call.ask.host (Here script is earlier) (Empty script is earlier) (Now)
    safe = operator-safe script is earlier along.0 call.ask.host (aim).0

    gone-is : (Now).gone ≡ Some (record { bay = bay; fitted = true })
    gone-is = by (Now).jobs h.hand.first (subst (λ (w : Work). SafeWork script is call.ask.host (Here script is earlier) (Empty script is earlier) (Now).jobs (Now).gone (Now).row w) h.work (safe).work)
      where
        by : (jobs : List Job) → task_of jobs ≡ Some h.hand.task → SafeWork script is call.ask.host (Here script is earlier) (Empty script is earlier) jobs (Now).gone (Now).row (Trying steps) → (Now).gone ≡ Some (record { bay = bay; fitted = true })
        by [] none w = absurd w
        by (job ∷ jobs) first w =
            let same : job.task ≡ tasks.Rebuild bay = same-some job.task h.hand.task first ∙ mends in
            (subst (λ (t : Task). Ready script is call.ask.host (Here script is earlier) (Empty script is earlier) t (Now).gone (Now).row) same w.ready).0

    -- the parity is there, where the rebuild is of another bay
    pub parity-there : (bay ≡ parity_bay script.n row → ⊥) → cell_at script earlier row (parity_bay script.n row) ≡ None → ⊥
    parity-there other none =
        let here : Here script is earlier (parity_bay script.n row) row =
        (safe).sound.others (parity_bay script.n row) row (parity-below script.n row (let least = is.devices_least in omega (arith, least))) below
        (λ g. other (ap (λ (x : ℕ). let y : BayNo = record { 0 = x } in y) (subst (λ (o : Option Gone). IsGone (parity_bay script.n row) o) gone-is g))) in
        let bad : false ≡ true = sym (ap (λ (c : Option Cell). is_some c) none) ∙ here in absurd (cc)
