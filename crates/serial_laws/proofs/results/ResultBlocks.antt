-- What a result gives a block is what was committed on the block's unit.
use Rattle.std.proofs.Common.{◌≡◌, ◌↔◌, inl, inr, refl, sym, ap, subst, ◌∙◌, ℕ, ◌+◌, ◌-◌, ◌<◌, ◌≤◌, ◌==◌, ◌&&◌, Bool, true, false, if◌then◌else◌, List, [], ◌∷◌, Option, Some, None, Ok, arith}
use Rattle.std.specs.List.{AllByRecursion}
use Rattle.std.proofs.lemmas.Bool.Decides.{nat_tests}
use Rattle.raid_base.specs.declared.names.Name.{Name}
use Rattle.raid_base.specs.declared.numbers.HostNo.{HostNo}
use Rattle.raid_base.specs.declared.numbers.RowNo.{RowNo}
use Rattle.raid_base.specs.declared.numbers.Number.{Number}
use Rattle.raid_base.specs.declared.cells.Content.{Content}
use Rattle.raid_base.specs.declared.cells.Content.TheVariants.{Bytes, Lost}
use Rattle.raid_base.specs.declared.jobs.Ended.{Ended}
use Rattle.raid_base.specs.declared.jobs.Ended.TheVariants as ends
use Rattle.raid_base.specs.declared.jobs.JobEnd.{JobEnd}
use Rattle.raid_base.specs.declared.jobs.JobEnd.TheVariants as job_ends
use Rattle.raid_base.specs.declared.jobs.RowPart.{RowPart}
use Rattle.raid_base.specs.declared.jobs.Task.{Task}
use Rattle.raid_base.specs.declared.jobs.Task.TheVariants as tasks
use Rattle.raid_base.specs.Cells.{has_unit}
use Rattle.raid_base.specs.Steps.{Commit}
use Rattle.virtual_objects.specs.Objects.{Address, place}
use Rattle.attempts.specs.declared.Rescue.{Rescue}
use Rattle.attempts.specs.Phases.{IsIn}
use Rattle.attempts.specs.Puts.{block_no, block_at}
use Rattle.attempts.specs.Recovery.{lost_commits}
use Rattle.attempts.specs.Taking.{Access}
use Rattle.script_text.specs.Script.{Script, parts_of, blocks_of}
use Rattle.script_text.specs.Ranges.{IsScript, IsTask}
use Rattle.serial_array.specs.Serial.{zero_array, is_within, new_content, Written, written_by, with_written, is_place, recovered_by, effect}
use Rattle.serial_array.specs.Ordered.{touches_written, touches_lost, touches_by}
use Rattle.histories.specs.Progress.{quit_end, access}
use Rattle.row_laws.specs.Effects.{commit_in, IsOfParts, HasWrittenSo, RecoveryTells}
use Rattle.serial_laws.specs.Told.{TaskTells}
use Rattle.row_laws.proofs.owners.OwnedPuts.{all-in}
use Rattle.serial_laws.proofs.serial.Placed.{within-unit, unit-within, unit-block, new-block, IsUnitOf}

two-true : (b c : Bool) → (b && c) ≡ true → (b ≡ true) × (c ≡ true)
two-true true true e = (refl, refl)
two-true true false e = absurd (cc)
two-true false c e = absurd (cc)

from-two : (b c : Bool) → b ≡ true → c ≡ true → (b && c) ≡ true
from-two true true x y = refl
from-two true false x y = absurd (cc)
from-two false c x y = absurd (cc)

module _ (script : Script) (is : IsScript script) (address : Address) (row : RowNo) (unit : ℕ) (stands : place script.n script.objects address ≡ Some (row, unit)) where
  abbrev pub CommitOf : Content → Commit
  CommitOf content = record { row = row; unit = unit; content = content }

  -- the block takes a content just where it was committed on its unit
  pub record Acts (task : Task) (ended : JobEnd) (done : List Commit) : Type 0 where
    pub gives : touches_by script task ended address ≡ true → (content : Content) × IsIn (CommitOf content) done × (effect script task ended zero_array address ≡ content)
    pub given : (content : Content) → IsIn (CommitOf content) done → touches_by script task ended address ≡ true

  nothing : (task : Task) (ended : JobEnd) (done : List Commit) → touches_by script task ended address ≡ false → done ≡ [] → Acts task ended done
  nothing task ended done off none = record {
    gives = λ on. absurd (let bad : false ≡ true = sym off ∙ on in cc);
    given = λ content among. absurd (subst (λ (cs : List Commit). IsIn (CommitOf content) cs) none among);
  }

  -- Writes
  module _ (id : Number) (object : Name) (first from count : ℕ) (some : 1 ≤ count) (parts : List RowPart) (ok : parts_of script object first count ≡ Ok parts) (done : List Commit) where
    abbrev Writing : Access
    Writing = access script id parts (blocks_of script from count)

    abbrev Blocks : Written
    Blocks = record { object = object; first = first; from = from; count = count }

    -- the blocks that are made are those that were committed
    abbrev TellsSo : (ℕ → Bool) → Type 0
    TellsSo is_made =
        (part : RowPart) (u : ℕ) → IsIn part parts → u + 1 < script.n → has_unit part.mask u ≡ true → (is_made (block_no Writing part u) ≡ true) ↔ IsIn (commit_in Writing part u) done

    write-gives : (is_made : ℕ → Bool) → TellsSo is_made → (is_within object first count address && is_made (address.block - first)) ≡ true →
        (content : Content) × IsIn (CommitOf content) done × (with_written script (Some Blocks) is_made zero_array address ≡ content)
    write-gives is_made tells on =
        let both = two-true (is_within object first count address) (is_made (address.block - first)) on in
        let u : IsUnitOf script is object first count parts some ok address.block row unit = within-unit script is object first count parts some ok address row unit stands both.0 in
        let number : address.block ≡ first + block_no Writing u.part unit = u.number in
        let no : address.block - first ≡ block_no Writing u.part unit = omega (arith, number) in
        let made : is_made (block_no Writing u.part unit) ≡ true = subst (λ (k : ℕ). is_made k ≡ true) no both.1 in
        let commit : IsIn (commit_in Writing u.part unit) done = (tells u.part unit u.among u.inside u.masked).0 made in (
          Bytes (block_at Writing u.part unit),
          subst (λ (r : RowNo). IsIn (record { row = r; unit = unit; content = Bytes (block_at Writing u.part unit) }) done) u.of_row commit,
          ap (λ (b : Bool). if b then new_content script first from address.block else zero_array address) on
              ∙ new-block script is object first count parts some ok id from address.block u.part unit number (unit-block script is object first count parts some ok u.part unit u.among u.inside u.masked).below,
        )

    write-given : (is_made : ℕ → Bool) → TellsSo is_made → AllByRecursion (IsOfParts Writing) done → (content : Content) → IsIn (CommitOf content) done →
        (is_within object first count address && is_made (address.block - first)) ≡ true
    write-given is_made tells only content among = of-part (all-in (IsOfParts Writing) (CommitOf content) done only among)
      where
        of-part : IsOfParts Writing (CommitOf content) → (is_within object first count address && is_made (address.block - first)) ≡ true
        of-part (part, u, part_in, inside, masked, same) =
            let rows : row ≡ part.row = ap (λ (c : Commit). c.row) same in
            let units : unit ≡ u = ap (λ (c : Commit). c.unit) same in
            let w = unit-within script is object first count parts some ok address row unit stands part part_in (sym rows) (subst (λ (k : ℕ). has_unit part.mask k ≡ true) (sym units) masked) in
            let number : address.block ≡ first + block_no Writing part unit = w.1 in
            let no : address.block - first ≡ block_no Writing part unit = omega (arith, number) in
            let made : is_made (block_no Writing part u) ≡ true = (tells part u part_in inside masked).1 (subst (λ (c : Commit). IsIn c done) same among) in
            let its : block_no Writing part u ≡ address.block - first = ap (block_no Writing part) (sym units) ∙ sym no in
            from-two (is_within object first count address) (is_made (address.block - first)) w.0 (subst (λ (k : ℕ). is_made k ≡ true) its made)

    write-acts : (tries : ℕ) (ended : Ended) → HasWrittenSo Writing done ended → Acts (tasks.Write object first from count) (quit_end tries ended) done
    write-acts tries (ends.Wrote n) has =
        let tells : TellsSo (λ block. true) = λ part u part_in inside masked. ((λ made. has.tells part u part_in inside masked), (λ committed. refl)) in
        record { gives = write-gives (λ block. true) tells; given = write-given (λ block. true) tells has.only }
    write-acts tries (ends.Part n made cause) has = record { gives = write-gives (has_unit made) has.tells; given = write-given (has_unit made) has.tells has.only }
    write-acts tries (ends.Refused cause) has = nothing (tasks.Write object first from count) (quit_end tries (ends.Refused cause)) done refl has.tells
    write-acts tries (ends.Read n) has = absurd has.tells
    write-acts tries (ends.Recovered n closed lost) has = absurd has.tells
    write-acts tries ends.Mended has = absurd has.tells

  -- Recoveries
  module _ (r : Rescue) where
    lost-acts : (tries : ℕ) (n : Number) (closed : Bool) (lost : Option ℕ) → Acts (tasks.Recover r.row) (quit_end tries (ends.Recovered n closed lost)) (lost_commits r lost)
    lost-acts tries n closed None = nothing (tasks.Recover r.row) (quit_end tries (ends.Recovered n closed None)) [] refl refl
    lost-acts tries n closed (Some lost) = record {
      gives = λ on.
          let here : is_place r.row lost (Some (row, unit)) ≡ true = ap (is_place r.row lost) (sym stands) ∙ on in
          let both = two-true (row.0 == r.row.0) (unit == lost) here in
          let rows : row.0 ≡ r.row.0 = (let e : (row.0 == r.row.0) ≡ true = both.0 in grind (arith, nat_tests)) in
          let units : unit ≡ lost = (let e : (unit == lost) ≡ true = both.1 in grind (arith, nat_tests)) in
          let same : r.row ≡ row = ap (λ (k : ℕ). let x : RowNo = record { 0 = k } in x) (sym rows) in (
            Lost,
            inl (ap (λ (x : RowNo). let c : Commit = record { row = x; unit = lost; content = Lost } in c) same ∙ ap (λ (u : ℕ). let c : Commit = record { row = row; unit = u; content = Lost } in c) (sym units)),
            ap (λ (b : Bool). if b then Lost else zero_array address) on,
          );
      given = λ content among. its content among;
    }
      where
        its : (content : Content) → IsIn (CommitOf content) (record { row = r.row; unit = lost; content = Lost } ∷ []) → is_place r.row lost (place script.n script.objects address) ≡ true
        its content (inr none) = absurd none
        its content (inl same) =
            let rows : r.row.0 ≡ row.0 = ap (λ (c : Commit). c.row.0) same in
            let units : lost ≡ unit = ap (λ (c : Commit). c.unit) same in
            ap (is_place r.row lost) stands ∙ from-two (row.0 == r.row.0) (unit == lost) (grind (arith, nat_tests)) (grind (arith, nat_tests))

    recovery-acts : (tries : ℕ) (ended : Ended) (done : List Commit) → RecoveryTells r done ended → Acts (tasks.Recover r.row) (quit_end tries ended) done
    recovery-acts tries (ends.Recovered n closed lost) done tells =
        subst (λ (cs : List Commit). Acts (tasks.Recover r.row) (quit_end tries (ends.Recovered n closed lost)) cs) (sym tells) (lost-acts tries n closed lost)
    recovery-acts tries (ends.Refused cause) done tells = nothing (tasks.Recover r.row) (quit_end tries (ends.Refused cause)) done refl tells
    recovery-acts tries (ends.Read n) done tells = absurd tells
    recovery-acts tries (ends.Wrote n) done tells = absurd tells
    recovery-acts tries (ends.Part n made cause) done tells = absurd tells
    recovery-acts tries ends.Mended done tells = absurd tells

  -- Others
  abbrev IsQuiet : Task → Type 0
  IsQuiet task = (ended : JobEnd) → touches_by script task ended address ≡ false

  others-quiet : (task : Task) → ((made : ℕ → Bool) → touches_written (written_by task) made address ≡ false) → ((lost : Option ℕ) → touches_lost script (recovered_by task) lost address ≡ false) → IsQuiet task
  others-quiet task written recovered (job_ends.Read n) = refl
  others-quiet task written recovered (job_ends.Wrote n) = written (λ block. true)
  others-quiet task written recovered (job_ends.Part n made cause) = written (has_unit made)
  others-quiet task written recovered (job_ends.Gave tries cause) = refl
  others-quiet task written recovered (job_ends.Recovered n closed lost) = recovered lost
  others-quiet task written recovered job_ends.Lost = refl
  others-quiet task written recovered job_ends.Fitted = refl
  others-quiet task written recovered job_ends.Rebuilt = refl
  others-quiet task written recovered (job_ends.StillMissing bay) = refl
  others-quiet task written recovered (job_ends.NotLost bay) = refl
  others-quiet task written recovered (job_ends.NotFitted bay) = refl
  others-quiet task written recovered job_ends.NoObject = refl
  others-quiet task written recovered (job_ends.PastEnd held) = refl
  others-quiet task written recovered (job_ends.TooManyRows rows) = refl

  quiet-acts : (task : Task) (ended : JobEnd) (done : List Commit) → IsQuiet task → done ≡ [] → Acts task ended done
  quiet-acts task ended done quiet none = nothing task ended done (quiet ended) none

  pub acts : (host : HostNo) (id : Number) (tries : ℕ) (task : Task) (ended : Ended) (done : List Commit) → IsTask script host task → TaskTells script host id task done ended → Acts task (quit_end tries ended) done
  acts host id tries (tasks.Write object first from count) ended done aim tells = write-acts id object first from count aim.some tells.0 tells.1 done tries ended tells.2
  acts host id tries (tasks.Recover at) ended done aim tells = recovery-acts (record { n = script.n; host = host; id = id; row = at }) tries ended done tells
  acts host id tries (tasks.Read object first count) ended done aim tells =
      quiet-acts (tasks.Read object first count) (quit_end tries ended) done (others-quiet (tasks.Read object first count) (λ made. refl) (λ lost. refl)) tells
  acts host id tries (tasks.Lose bay) ended done aim tells = quiet-acts (tasks.Lose bay) (quit_end tries ended) done (others-quiet (tasks.Lose bay) (λ made. refl) (λ lost. refl)) tells
  acts host id tries (tasks.Fit bay) ended done aim tells = quiet-acts (tasks.Fit bay) (quit_end tries ended) done (others-quiet (tasks.Fit bay) (λ made. refl) (λ lost. refl)) tells
  acts host id tries (tasks.Rebuild bay) ended done aim tells = quiet-acts (tasks.Rebuild bay) (quit_end tries ended) done (others-quiet (tasks.Rebuild bay) (λ made. refl) (λ lost. refl)) tells
