-- What attempts in hand have asked of a row before and after its parity, and what they may ask next.
use Rattle.std.proofs.Common.{◌≡◌, ◌⊎◌, inl, inr, sym, subst, ℕ, ◌≤◌, Bool, true, List, [], ◌∷◌, Some, IsSome, Result, Ok, Err}
use Rattle.raid_base.specs.declared.numbers.BayNo.{BayNo}
use Rattle.raid_base.specs.declared.numbers.HostNo.{HostNo}
use Rattle.raid_base.specs.declared.numbers.RowNo.{RowNo}
use Rattle.raid_base.specs.declared.numbers.Number.{Number}
use Rattle.raid_base.specs.declared.messages.Call.{Call}
use Rattle.raid_base.specs.declared.messages.Errand.{Errand}
use Rattle.raid_base.specs.declared.jobs.RowPart.{RowPart}
use Rattle.raid_base.specs.declared.jobs.PartsFault.{PartsFault}
use Rattle.raid_base.specs.declared.jobs.Task.{Task}
use Rattle.raid_base.specs.declared.jobs.Task.TheVariants as tasks
use Rattle.raid_base.specs.Replies.{grant_of}
use Rattle.raid_base.specs.Steps.{Steps, settled, errand_of}
use Rattle.stripe_layout.specs.Placement.{parity_bay}
use Rattle.attempts.specs.declared.Repair.{Repair}
use Rattle.attempts.specs.declared.Rescue.{Rescue}
use Rattle.attempts.specs.Taking.{Finish}
use Rattle.attempts.specs.Phases.{IsIn}
use Rattle.script_text.specs.Script.{Script, parts_of, blocks_of}
use Rattle.script_text.specs.Ranges.{IsScript}
use Rattle.histories.specs.Calls.{Happened, row_of, IsClaim}
use Rattle.histories.specs.Progress.{Progress, access, attempt, write_of}
use Rattle.histories.specs.History.{progress_at, IsHistory}
use Rattle.row_laws.specs.Hands.{HasHand, calls_at}
use Rattle.row_laws.proofs.owners.RowOwnersTrees.{Asking, settled-asking, led-asking}
use Rattle.row_laws.proofs.owners.RowOwnersHands.{happened-in}
use Rattle.row_laws.proofs.hands.WriteMasks.{AskedAfter, led-asked, asked-one}
use Rattle.row_laws.proofs.covered.CoveredPutsHands.{in-happened}
use Rattle.serial_laws.proofs.contents.ContentStates.{IsWriteTask}
use Rattle.serial_laws.proofs.reads.ShownTrees.{ParityGranted, TakesSo, writes-take, IsOfRow, mends-of-row, recoveries-of-row, ClaimsParityFirst, mends-claim, recoveries-claim}
use Rattle.serial_laws.proofs.contents.CommittingTrees.{Committing, settled-committing, led-committing}
use Rattle.serial_laws.proofs.contents.RecoveryCommits.{CommitsMissing, recoveries-commit}

-- The attempt of a task to write
write-takes : (script : Script) → 3 ≤ script.n → (id : Number) (blocks : List (List ℕ)) (r : Result (List RowPart) PartsFault) → Asking (TakesSo script.n) [] (write_of script id blocks r)
write-takes script least id blocks (Ok parts) = writes-take (access script id parts blocks) least
write-takes script least id blocks (Err fault) = tt

task-takes : (script : Script) → 3 ≤ script.n → (host : HostNo) (id : Number) (row : ℕ) (task : Task) → IsWriteTask task → Asking (TakesSo script.n) [] (attempt script host id row task)
task-takes script least host id row (tasks.Write object first from count) writes = write-takes script least id (blocks_of script from count) (parts_of script object first count)
task-takes script least host id row (tasks.Read object first count) writes = absurd writes
task-takes script least host id row (tasks.Recover at) writes = absurd writes
task-takes script least host id row (tasks.Rebuild bay) writes = absurd writes
task-takes script least host id row (tasks.Lose bay) writes = absurd writes
task-takes script least host id row (tasks.Fit bay) writes = absurd writes

-- What has happened in earlier calls, among all of them
happened-among : (P : Call → Type 0) (before calls : List Call) → ((other : Call) → IsIn other before → IsIn other calls) → Happened P before → Happened P calls
happened-among P before calls among h = let found = happened-in before h in in-happened P found.0 calls (among found.0 found.1) found.2

-- a parity that was granted was claimed
pub granted-claimed : (n : ℕ) (row : RowNo) (calls : List Call) → ParityGranted n row calls → Happened (IsClaim (parity_bay n row) row) calls
granted-claimed n row [] h = absurd h
granted-claimed n row (call ∷ calls) (inl x) = inl x.0
granted-claimed n row (call ∷ calls) (inr h) = inr (granted-claimed n row calls h)

-- what was so after earlier calls
module _ (n : ℕ) (before calls : List Call) (among : (other : Call) → IsIn other before → IsIn other calls) (e : Errand) where
  takes-among : TakesSo n before e → TakesSo n calls e
  takes-among t = record {
    shares = λ row id want is. granted row (t.shares row id want is);
    claims = λ row id how mask want is. by row want (t.claims row id how mask want is);
    confirms = λ row id is. granted row (t.confirms row id is);
  }
    where
      granted : (row : RowNo) → ParityGranted n row before → ParityGranted n row calls
      granted row h = happened-among (λ call. IsClaim (parity_bay n row) row call × IsSome (grant_of call.answer.reply)) before calls among h

      by : (row : RowNo) (want : Bool) → (e.bay ≡ parity_bay n row) ⊎ (Happened (IsClaim (parity_bay n row) row) before × (want ≡ true → ParityGranted n row before)) →
          (e.bay ≡ parity_bay n row) ⊎ (Happened (IsClaim (parity_bay n row) row) calls × (want ≡ true → ParityGranted n row calls))
      by row want (inl at) = inl at
      by row want (inr h) = inr (happened-among (IsClaim (parity_bay n row) row) before calls among h.0, λ wants. granted row (h.1 wants))

  first-among : ClaimsParityFirst n before e → ClaimsParityFirst n calls e
  first-among c = record { shares = c.shares; claims = λ row id how mask want is. by row (c.claims row id how mask want is) }
    where
      by : (row : RowNo) → (e.bay ≡ parity_bay n row) ⊎ Happened (IsClaim (parity_bay n row) row) before → (e.bay ≡ parity_bay n row) ⊎ Happened (IsClaim (parity_bay n row) row) calls
      by row (inl at) = inl at
      by row (inr h) = inr (happened-among (IsClaim (parity_bay n row) row) before calls among h)

module _ (script : Script) (is : IsScript script) (history : List Call) (along : IsHistory script history) (host : HostNo) (steps : Steps Finish) (h : HasHand script history host steps) where
  abbrev Row : RowNo
  Row = record { 0 = (progress_at script host history).row }

  abbrev RescueOf : RowNo → Rescue
  RescueOf row = record { n = script.n; host = host; id = h.hand.id; row = row }

  abbrev RepairOf : BayNo → Repair
  RepairOf bay = record { n = script.n; id = h.hand.id; row = Row; target = bay }

  abbrev Begun : Task → Steps Finish
  Begun task = attempt script host h.hand.id (progress_at script host history).row task

  -- a discipline of its tree holds where its calls have led, and held of each call
  hand-asking : (P : List Call → Errand → Type 0) → Asking P [] (Begun h.hand.task) → Asking P (calls_at script history host) steps
  hand-asking P begins =
      let p : Progress = progress_at script host history in
      led-asking P host (settled host h.hand.id (Begun h.hand.task)) p.calls (record { seen = p.seen; steps = steps }) (settled-asking P host h.hand.id [] (Begun h.hand.task) begins) h.hand.led

  call-asked : (P : List Call → Errand → Type 0) → Asking P [] (Begun h.hand.task) → (call : Call) → IsIn call (calls_at script history host) → AskedAfter P (calls_at script history host) call
  call-asked P begins call i =
      let p : Progress = progress_at script host history in
      asked-one P p.calls
      (led-asked P host (settled host h.hand.id (Begun h.hand.task)) p.calls (record { seen = p.seen; steps = steps }) (settled-asking P host h.hand.id [] (Begun h.hand.task) begins) h.hand.led) call i

  -- that of its task
  begins-so : (P : List Call → Errand → Type 0) (task : Task) → h.hand.task ≡ task → Asking P [] (Begun task) → Asking P [] (Begun h.hand.task)
  begins-so P task same begins = subst (λ (t : Task). Asking P [] (Begun t)) (sym same) begins

  -- Writes
  begins-take : IsWriteTask h.hand.task → Asking (TakesSo script.n) [] (Begun h.hand.task)
  begins-take writes = task-takes script is.devices_least host h.hand.id (progress_at script host history).row h.hand.task writes

  pub hand-takes : IsWriteTask h.hand.task → Asking (TakesSo script.n) (calls_at script history host) steps
  hand-takes writes = hand-asking (TakesSo script.n) (begins-take writes)

  -- each of its calls, by all calls so far
  pub calls-take : IsWriteTask h.hand.task → (call : Call) → IsIn call (calls_at script history host) → TakesSo script.n (calls_at script history host) (errand_of call)
  calls-take writes call i =
      let a = call-asked (TakesSo script.n) (begins-take writes) call i in
      takes-among script.n a.before (calls_at script history host) a.among (errand_of call) a.asks

  -- Rebuilds
  pub hand-mends : (bay : BayNo) → h.hand.task ≡ tasks.Rebuild bay → Asking (IsOfRow (record { 0 = (progress_at script host history).row })) (calls_at script history host) steps
  hand-mends bay mends = hand-asking (IsOfRow Row) (begins-so (IsOfRow Row) (tasks.Rebuild bay) mends (mends-of-row (RepairOf bay)))

  pub mend-claims : (bay : BayNo) → h.hand.task ≡ tasks.Rebuild bay → Asking (ClaimsParityFirst script.n) (calls_at script history host) steps
  mend-claims bay mends = hand-asking (ClaimsParityFirst script.n) (begins-so (ClaimsParityFirst script.n) (tasks.Rebuild bay) mends (mends-claim (RepairOf bay)))

  pub mend-calls : (bay : BayNo) → h.hand.task ≡ tasks.Rebuild bay → (call : Call) → IsIn call (calls_at script history host) →
      (row_of call.ask.what ≡ Some (record { 0 = (progress_at script host history).row })) × ClaimsParityFirst script.n (calls_at script history host) (errand_of call)
  mend-calls bay mends call i =
      let of = call-asked (IsOfRow Row) (begins-so (IsOfRow Row) (tasks.Rebuild bay) mends (mends-of-row (RepairOf bay))) call i in
      let first = call-asked (ClaimsParityFirst script.n) (begins-so (ClaimsParityFirst script.n) (tasks.Rebuild bay) mends (mends-claim (RepairOf bay))) call i in
      (of.asks, first-among script.n first.before (calls_at script history host) first.among (errand_of call) first.asks)

  -- Recoveries
  pub hand-recovers : (row : RowNo) → h.hand.task ≡ tasks.Recover row → Asking (IsOfRow row) (calls_at script history host) steps
  hand-recovers row recovers = hand-asking (IsOfRow row) (begins-so (IsOfRow row) (tasks.Recover row) recovers (recoveries-of-row (RescueOf row)))

  pub recovery-claims : (row : RowNo) → h.hand.task ≡ tasks.Recover row → Asking (ClaimsParityFirst script.n) (calls_at script history host) steps
  recovery-claims row recovers = hand-asking (ClaimsParityFirst script.n) (begins-so (ClaimsParityFirst script.n) (tasks.Recover row) recovers (recoveries-claim (RescueOf row)))

  pub recovery-calls : (row : RowNo) → h.hand.task ≡ tasks.Recover row → (call : Call) → IsIn call (calls_at script history host) →
      (row_of call.ask.what ≡ Some row) × ClaimsParityFirst script.n (calls_at script history host) (errand_of call)
  recovery-calls row recovers call i =
      let of = call-asked (IsOfRow row) (begins-so (IsOfRow row) (tasks.Recover row) recovers (recoveries-of-row (RescueOf row))) call i in
      let first = call-asked (ClaimsParityFirst script.n) (begins-so (ClaimsParityFirst script.n) (tasks.Recover row) recovers (recoveries-claim (RescueOf row))) call i in
      (of.asks, first-among script.n first.before (calls_at script history host) first.among (errand_of call) first.asks)

  pub recovery-commits : (row : RowNo) → h.hand.task ≡ tasks.Recover row →
      Committing (CommitsMissing (record { n = script.n; host = host; id = h.hand.id; row = row })) (calls_at script history host) steps
  recovery-commits row recovers =
      let p : Progress = progress_at script host history in
      let begins : Committing (CommitsMissing (RescueOf row)) [] (Begun h.hand.task) =
      subst (λ (t : Task). Committing (CommitsMissing (RescueOf row)) [] (Begun t)) (sym recovers) (recoveries-commit (RescueOf row) is.devices_least) in
      led-committing (CommitsMissing (RescueOf row)) host (settled host h.hand.id (Begun h.hand.task)) p.calls (record { seen = p.seen; steps = steps })
      (settled-committing (CommitsMissing (RescueOf row)) host h.hand.id [] (Begun h.hand.task) begins) h.hand.led
