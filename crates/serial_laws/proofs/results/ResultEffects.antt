-- What an attempt of a task has committed by its end, what its host has seen by its number, and what commits give to units.
use Rattle.std.proofs.Common.{◌≡◌, inl, inr, refl, ap, subst, ℕ, ◌≤◌, ◌==◌, ◌&&◌, Bool, true, false, if◌then◌else◌, List, [], ◌∷◌, Option, Some, None, Result, Ok, Err}
use Rattle.std.specs.Prelude.{IsOk}
use Rattle.std.proofs.lemmas.Bool.{eq-eqb}
use Rattle.raid_base.specs.declared.numbers.HostNo.{HostNo}
use Rattle.raid_base.specs.declared.numbers.RowNo.{RowNo}
use Rattle.raid_base.specs.declared.numbers.Number.{Number}
use Rattle.raid_base.specs.declared.names.Name.{Name}
use Rattle.raid_base.specs.declared.jobs.Cause.{Cause}
use Rattle.raid_base.specs.declared.jobs.Ended.{Ended}
use Rattle.raid_base.specs.declared.jobs.Ended.TheVariants as ends
use Rattle.raid_base.specs.declared.jobs.RowPart.{RowPart}
use Rattle.raid_base.specs.declared.jobs.PartsFault.{PartsFault}
use Rattle.raid_base.specs.declared.jobs.Task.{Task}
use Rattle.raid_base.specs.declared.jobs.Task.TheVariants as tasks
use Rattle.raid_base.specs.Numbers.{draw, seen_drawn}
use Rattle.raid_base.specs.Steps.{Commit, Steps, Asks, Draws, Ends, settled}
use Rattle.attempts.specs.declared.Repair.{Repair}
use Rattle.attempts.specs.declared.Rescue.{Rescue}
use Rattle.attempts.specs.Taking.{Access, Finish}
use Rattle.attempts.specs.Reading.{read_steps}
use Rattle.attempts.specs.Writing.{write_steps}
use Rattle.attempts.specs.Mending.{mend_steps}
use Rattle.attempts.specs.Recovery.{recover_steps}
use Rattle.attempts.specs.Phases.{IsIn}
use Rattle.script_text.specs.Script.{Script, parts_of, blocks_of}
use Rattle.script_text.specs.Ranges.{IsScript, IsTask}
use Rattle.histories.specs.Plain.{IsTried}
use Rattle.histories.specs.Progress.{access, attempt, read_of, write_of}
use Rattle.histories.proofs.hands.PhasedHands.{found-parts}
use Rattle.row_laws.specs.Effects.{done_after, Effecting, HasWrittenSo, RecoveryTells, CommitsNothing}
use Rattle.serial_laws.specs.Laws.{is_of}
use Rattle.serial_laws.specs.Rising.{Taken, taken_by}
use Rattle.serial_laws.specs.Told.{TaskTells}
use Rattle.row_laws.proofs.effects.EffectsLaws.{attempts_tell_commits}

-- What follows from what is committed
effecting-map : (P Q : List Commit → Ended → Type 0) → ((done : List Commit) (ended : Ended) → P done ended → Q done ended) → (done : List Commit) (s : Steps Finish) →
    Effecting P done s → Effecting Q done s
effecting-map P Q f done (Ends finish) h = f done finish.ended h
effecting-map P Q f done (Draws k) h = λ d. effecting-map P Q f done (k d) (h d)
effecting-map P Q f done (Asks e stop commits k) h = (f done stop h.0, λ r fit. effecting-map P Q f (done_after r commits done) (k r) (h.1 r fit))

-- draws commit nothing
pub settled-effecting : (Q : List Commit → Ended → Type 0) (host : HostNo) (seen : Number) (done : List Commit) (s : Steps Finish) → Effecting Q done s → Effecting Q done (settled host seen s).steps
settled-effecting Q host seen done (Asks e stop commits k) h = h
settled-effecting Q host seen done (Draws k) h = settled-effecting Q host (seen_drawn seen (draw host seen)) done (k (draw host seen)) (h (draw host seen))
settled-effecting Q host seen done (Ends finish) h = h

-- an attempt of a task tells at its end what it has committed
module _ (script : Script) (is : IsScript script) (host : HostNo) (id : Number) where
  reads-tell : (object : Name) (first count : ℕ) (r : Result (List RowPart) PartsFault) → IsOk r → Effecting (TaskTells script host id (tasks.Read object first count)) [] (read_of script id r)
  reads-tell object first count (Ok parts) ok =
      let a : Access = access script id parts [] in
      effecting-map CommitsNothing (TaskTells script host id (tasks.Read object first count)) (λ done ended h. h) [] (read_steps a) (attempts_tell_commits.2 a)
  reads-tell object first count (Err fault) ok = absurd (let bad : false ≡ true = ok in cc)

  writes-tell : (object : Name) (first from count : ℕ) → 1 ≤ count → (r : Result (List RowPart) PartsFault) → parts_of script object first count ≡ r → IsOk r →
      Effecting (TaskTells script host id (tasks.Write object first from count)) [] (write_of script id (blocks_of script from count) r)
  writes-tell object first from count some (Ok parts) found ok =
      let a : Access = access script id parts (blocks_of script from count) in
      effecting-map (HasWrittenSo a) (TaskTells script host id (tasks.Write object first from count)) (λ done ended h. (parts, found, h)) [] (write_steps a)
      (attempts_tell_commits.0 a is.devices_least (found-parts script is host id object first count parts some found))
  writes-tell object first from count some (Err fault) found ok = absurd (let bad : false ≡ true = ok in cc)

  pub attempt-effecting : (row : ℕ) (task : Task) → IsTask script host task → IsTried script task → Effecting (TaskTells script host id task) [] (attempt script host id row task)
  attempt-effecting row (tasks.Read object first count) aim tried = reads-tell object first count (parts_of script object first count) tried
  attempt-effecting row (tasks.Write object first from count) aim tried = writes-tell object first from count aim.some (parts_of script object first count) refl tried
  attempt-effecting row (tasks.Recover at) aim tried =
      let r : Rescue = record { n = script.n; host = host; id = id; row = at } in
      effecting-map (RecoveryTells r) (TaskTells script host id (tasks.Recover at)) (λ done ended h. h) [] (recover_steps r) (attempts_tell_commits.1 r is.devices_least)
  attempt-effecting row (tasks.Rebuild bay) aim tried =
      let m : Repair = record { n = script.n; id = id; row = record { 0 = row }; target = bay } in
      effecting-map CommitsNothing (TaskTells script host id (tasks.Rebuild bay)) (λ done ended h. h) [] (mend_steps m) (attempts_tell_commits.3 m)
  attempt-effecting row (tasks.Lose bay) aim tried = absurd tried
  attempt-effecting row (tasks.Fit bay) aim tried = absurd tried

  -- one that is refused, or has mended its row, has committed nothing
  pub refused-nothing : (task : Task) (done : List Commit) (cause : Cause) → TaskTells script host id task done (ends.Refused cause) → done ≡ []
  refused-nothing (tasks.Read object first count) done cause h = h
  refused-nothing (tasks.Write object first from count) done cause h = (h.2).tells
  refused-nothing (tasks.Recover at) done cause h = h
  refused-nothing (tasks.Rebuild bay) done cause h = h
  refused-nothing (tasks.Lose bay) done cause h = h
  refused-nothing (tasks.Fit bay) done cause h = h

  pub mended-nothing : (task : Task) (done : List Commit) → TaskTells script host id task done ends.Mended → done ≡ []
  mended-nothing (tasks.Read object first count) done h = h
  mended-nothing (tasks.Write object first from count) done h = absurd (h.2).tells
  mended-nothing (tasks.Recover at) done h = absurd h
  mended-nothing (tasks.Rebuild bay) done h = h
  mended-nothing (tasks.Lose bay) done h = h
  mended-nothing (tasks.Fit bay) done h = h

-- Contents that units have taken stay
pub taken-stays : (row : RowNo) (unit : ℕ) (o : Option Number) (commits : List Commit) (takens : List Taken) (t : Taken) → IsIn t takens → IsIn t (taken_by row unit o commits takens)
taken-stays row unit None commits takens t i = i
taken-stays row unit (Some n) [] takens t i = i
taken-stays row unit (Some n) (c ∷ commits) takens t i =
    taken-stays row unit (Some n) commits (if is_of row unit c then record { number = n; content = c.content } ∷ takens else takens) t (by (is_of row unit c))
  where
    by : (b : Bool) → IsIn t (if b then record { number = n; content = c.content } ∷ takens else takens)
    by true = inr i
    by false = i

-- a commit is of its own row and unit
of-own : (c : Commit) → is_of c.row c.unit c ≡ true
of-own c = both (c.row.0 == c.row.0) (c.unit == c.unit) (eq-eqb c.row.0 c.row.0 refl) (eq-eqb c.unit c.unit refl)
  where
    both : (x y : Bool) → x ≡ true → y ≡ true → (x && y) ≡ true
    both true y p q = q
    both false y p q = p

-- its unit takes its content
pub commit-taken : (n : Number) (commit : Commit) (commits : List Commit) (takens : List Taken) → IsIn commit commits →
    IsIn (record { number = n; content = commit.content }) (taken_by commit.row commit.unit (Some n) commits takens)
commit-taken n commit [] takens i = absurd i
commit-taken n commit (c ∷ commits) takens (inl same) =
    taken-stays commit.row commit.unit (Some n) commits (if is_of commit.row commit.unit c then record { number = n; content = c.content } ∷ takens else takens)
    (record { number = n; content = commit.content }) (by (is_of commit.row commit.unit c) (subst (λ (x : Commit). is_of x.row x.unit c ≡ true) same (of-own c)))
  where
    by : (b : Bool) → b ≡ true → IsIn (record { number = n; content = commit.content }) (if b then record { number = n; content = c.content } ∷ takens else takens)
    by true e = inl (ap (λ (x : Commit). record { number = n; content = x.content }) same)
    by false e = absurd (cc)
commit-taken n commit (c ∷ commits) takens (inr i) =
    commit-taken n commit commits (if is_of commit.row commit.unit c then record { number = n; content = c.content } ∷ takens else takens) i
