-- The writes of a script: they have the blocks that they write, of 64 bytes each, and no two of their rows are one.
use Rattle.std.proofs.Common.{◌≡◌, refl, subst, ℕ, zero, suc, ◌+◌, ◌-◌, ◌<◌, ◌≤◌, ◌&&◌, Bool, true, false, List, [], ◌∷◌, take, drop, length, length-drop, slice_index_or, Option, Some, None, Result, Ok, Err, arith}
use Rattle.std.specs.List.{AllByRecursion}
use Rattle.std.proofs.lemmas.Bool.Decides.{nat_tests}
use Rattle.std.proofs.lemmas.List.{length-take-le}
use Rattle.std.proofs.lemmas.List.Elements.{recursion_from_All}
use Rattle.raid_base.specs.declared.numbers.HostNo.{HostNo}
use Rattle.raid_base.specs.declared.numbers.RowNo.{RowNo}
use Rattle.raid_base.specs.declared.numbers.Number.{Number}
use Rattle.raid_base.specs.declared.names.Name.{Name}
use Rattle.raid_base.specs.declared.messages.Call.{Call}
use Rattle.raid_base.specs.declared.jobs.Job.{Job}
use Rattle.raid_base.specs.declared.jobs.PartsFault.{PartsFault}
use Rattle.raid_base.specs.declared.jobs.RowPart.{RowPart}
use Rattle.raid_base.specs.declared.jobs.Task.{Task}
use Rattle.raid_base.specs.declared.jobs.Task.TheVariants as tasks
use Rattle.raid_base.specs.Cells.{zeros}
use Rattle.raid_base.specs.Steps.{Steps}
use Rattle.stripe_layout.specs.Placement.{units_in}
use Rattle.virtual_objects.specs.Objects.{rows_of, parts_found, place}
use Rattle.virtual_objects.specs.RowParts.{IsPart, ArePartsOf}
use Rattle.virtual_objects.proofs.JobLemmas.{are_parts}
use Rattle.virtual_objects.proofs.PlaceLemmas.{are_places}
use Rattle.attempts.specs.Taking.{Access, Finish}
use Rattle.attempts.specs.Parts.{blocks_in}
use Rattle.attempts.specs.Phases.{RowsDiffer}
use Rattle.attempts.specs.Puts.{block_no, block_at}
use Rattle.attempts.specs.Sound.{IsWriting}
use Rattle.script_text.specs.Script.{Script, jobs_of, parts_of, blocks_of}
use Rattle.script_text.specs.Ranges.{IsScript, IsTask, table_of}
use Rattle.histories.specs.Plain.{is_held_task, are_held}
use Rattle.histories.specs.Progress.{access}
use Rattle.histories.specs.History.{progress_at}
use Rattle.histories.proofs.hands.PhasedHands.{rows-differ, found-parts}
use Rattle.histories.proofs.bounds.ScriptLemmas.{jobs-held}
use Rattle.row_laws.specs.Hands.{HasHand}
use Rattle.row_laws.proofs.hands.WriteMasks.{parts_in}
use Rattle.serial_laws.proofs.contents.ContentJobs.{held-jobs, held-task}

-- Lists of blocks
abbrev pub AreLong : List (List ℕ) → Type 0
AreLong blocks = AllByRecursion (λ (block : List ℕ). length block ≡ 64) blocks

long-drop : (k : ℕ) (blocks : List (List ℕ)) → AreLong blocks → AreLong (drop k blocks)
long-drop zero blocks long = long
long-drop (suc k) [] long = tt
long-drop (suc k) (block ∷ blocks) long = long-drop k blocks long.1

long-take : (k : ℕ) (blocks : List (List ℕ)) → AreLong blocks → AreLong (take k blocks)
long-take zero blocks long = tt
long-take (suc k) [] long = tt
long-take (suc k) (block ∷ blocks) long = (long.0, long-take k blocks long.1)

long-at : (blocks : List (List ℕ)) (k : ℕ) → AreLong blocks → length (slice_index_or blocks k zeros) ≡ 64
long-at [] k long = refl
long-at (block ∷ blocks) zero long = long.0
long-at (block ∷ blocks) (suc k) long = long-at blocks k long.1

-- the jobs of a host have their blocks
each-held : (most : ℕ) (jobs : List Job) → are_held most jobs ≡ true → AllByRecursion (λ (job : Job). is_held_task most job.task ≡ true) jobs
each-held most [] h = tt
each-held most (job ∷ jobs) h = by (each-held most jobs) (is_held_task most job.task) refl h
  where
    by : (are_held most jobs ≡ true → AllByRecursion (λ (j : Job). is_held_task most j.task ≡ true) jobs) → (b : Bool) → is_held_task most job.task ≡ b → (b && are_held most jobs) ≡ true →
        (is_held_task most job.task ≡ true) × AllByRecursion (λ (j : Job). is_held_task most j.task ≡ true) jobs
    by rest true e h = (e, rest h)
    by rest false e h = absurd (cc)

module _ (script : Script) (is : IsScript script) where
  pub script-long : (from count : ℕ) → AreLong (blocks_of script from count)
  script-long from count =
      long-take count (drop from script.blocks)
      (long-drop from script.blocks (recursion_from_All (λ (block : List ℕ). length block ≡ 64) script.blocks (λ i d inside. (is.blocks i d inside).size)))

  -- each block of a write is one
  pub block-long : (id : Number) (parts : List RowPart) (from count : ℕ) (part : RowPart) (unit : ℕ) → length (block_at (access script id parts (blocks_of script from count)) part unit) ≡ 64
  block-long id parts from count part unit = long-at (blocks_of script from count) (block_no (access script id parts (blocks_of script from count)) part unit) (script-long from count)

  pub found-so : (object : Name) (first count : ℕ) (parts : List RowPart) → 1 ≤ count → parts_of script object first count ≡ Ok parts → ArePartsOf script.n script.objects object first count parts
  found-so object first count parts some ok = by (rows_of script.objects object) refl ok
    where
      by : (found : Option (List RowNo)) → rows_of script.objects object ≡ found → parts_found (script.n - 1) first count found ≡ Ok parts → ArePartsOf script.n script.objects object first count parts
      by None none ok = absurd (cc)
      by (Some rows) found ok =
          are_parts script.n first count script.objects object rows parts (let h = is.devices_least in omega arith) some found is.objects.rows_apart ok

  -- the row of a part is one of its object
  pub rows-below : (object : Name) (first : ℕ) (parts : List RowPart) → AllByRecursion (IsPart script.n) parts →
      AllByRecursion (λ (part : RowPart). (k : ℕ) → k < part.count → place script.n script.objects (record { object = object; block = first + part.at + k }) ≡ Some (part.row, slice_index_or (units_in script.n part.mask) k 0)) parts →
      AllByRecursion (λ (part : RowPart). part.row.0 < script.rows) parts
  rows-below object first [] each placed = tt
  rows-below object first (part ∷ parts) each placed = (
    is.objects.rows_below part.row.0
        ((are_places (table_of script) is.objects).row_held (record { object = object; block = first + part.at + 0 }) part.row (slice_index_or (units_in script.n part.mask) 0 0)
        (placed.0 0 (let some = (each.0).some in omega (arith, some)))),
    rows-below object first parts each.1 placed.1,
  )

  module _ (history : List Call) (host : HostNo) (steps : Steps Finish) (h : HasHand script history host steps) (object : Name) (first from count : ℕ) (writes : h.hand.task ≡ tasks.Write object first from count) where
    abbrev pub Parts : List RowPart
    Parts = parts_in (parts_of script object first count)

    abbrev pub Writing : Access
    Writing = access script h.hand.id (Parts) (blocks_of script from count)

    task-is : IsTask script host (tasks.Write object first from count)
    task-is = subst (IsTask script host) writes h.hand.is

    -- it has them all
    held : is_held_task (length script.blocks) (tasks.Write object first from count) ≡ true
    held =
        let p = progress_at script host history in
        subst (λ (t : Task). is_held_task (length script.blocks) t ≡ true) writes
        (held-task script host (λ (job : Job). is_held_task (length script.blocks) job.task ≡ true) (λ (t : Task). is_held_task (length script.blocks) t ≡ true) (λ job is_so. is_so) p.jobs
        (held-jobs script host (λ (job : Job). is_held_task (length script.blocks) job.task ≡ true) (each-held (length script.blocks) (jobs_of script host) (jobs-held script is host)) history)
        h.hand.task h.hand.first)

    has-blocks : length (blocks_of script from count) ≡ count
    has-blocks =
        let within : from + count ≤ length script.blocks = (let e = held in grind (arith, nat_tests)) in
        let many : length (drop from script.blocks) ≡ length script.blocks - from = length-drop from script.blocks in
        length-take-le count (drop from script.blocks) (omega (arith, within, many))

    -- its parts
    pub write-parts : (parts : List RowPart) → parts_of script object first count ≡ Ok parts → IsWriting (access script h.hand.id parts (blocks_of script from count))
    write-parts parts ok =
        let sound = found-parts script is host h.hand.id object first count parts (task-is).some ok in
        record {
          least = is.devices_least;
          most = is.devices_most;
          parts = sound;
          blocks = script-long from count;
          enough = let total : blocks_in parts ≡ count = (found-so object first count parts (task-is).some ok).total in let long = has-blocks in omega (arith, total, long);
        }

    pub parts-differ : RowsDiffer (Parts)
    parts-differ = by (parts_of script object first count) refl
      where
        by : (r : Result (List RowPart) PartsFault) → parts_of script object first count ≡ r → RowsDiffer (parts_in r)
        by (Ok parts) ok = rows-differ parts (write-parts parts ok).parts.rows_apart
        by (Err fault) ok = tt

    -- and their rows are of the array
    pub parts-within : AllByRecursion (λ (part : RowPart). part.row.0 < script.rows) (Parts)
    parts-within = by (parts_of script object first count) refl
      where
        by : (r : Result (List RowPart) PartsFault) → parts_of script object first count ≡ r → AllByRecursion (λ (part : RowPart). part.row.0 < script.rows) (parts_in r)
        by (Ok parts) ok =
            let are = found-so object first count parts (task-is).some ok in
            rows-below object first parts (recursion_from_All (IsPart script.n) parts are.sound.each) (recursion_from_All _ parts are.placed)
        by (Err fault) ok = tt
