-- All contents that an array without devices ever has are blocks, or lost; and so are those that a play's reads give.
use Rattle.std.proofs.Common.{◌≡◌, refl, sym, ap, subst, ◌∙◌, ℕ, zero, suc, ◌+◌, ◌-◌, ◌<◌, ◌&&◌, Bool, true, false, cond, List, [], ◌∷◌, ◌++◌, map, slice_index, slice_index_or, replicate, Option, Some, None, is_some, arith}
use Rattle.std.specs.Prelude.{flat_map}
use Rattle.std.specs.List.{AllByRecursion, range_with_len}
use Rattle.std.proofs.lemmas.List.{length-replicate}
use Rattle.std.proofs.lemmas.List.Sorted.{All-permutation}
use Rattle.std.proofs.lemmas.List.Elements.{recursion_from_All, All-from_recursion, filter-append}
use Rattle.raid_base.specs.declared.numbers.HostNo.{HostNo}
use Rattle.raid_base.specs.declared.numbers.RowNo.{RowNo}
use Rattle.raid_base.specs.declared.numbers.Number.{Number}
use Rattle.raid_base.specs.declared.names.Name.{Name}
use Rattle.raid_base.specs.declared.cells.Content.{Content}
use Rattle.raid_base.specs.declared.cells.Content.TheVariants.{Lost}
use Rattle.raid_base.specs.declared.messages.Call.{Call}
use Rattle.raid_base.specs.declared.jobs.Task.{Task}
use Rattle.raid_base.specs.declared.jobs.Task.TheVariants as tasks
use Rattle.raid_base.specs.declared.jobs.JobEnd.{JobEnd}
use Rattle.raid_base.specs.declared.jobs.JobEnd.TheVariants as ends
use Rattle.raid_base.specs.Cells.{zeros, has_unit}
use Rattle.text_lines.specs.Blocks.{IsBlock}
use Rattle.virtual_objects.specs.Objects.{Address, place}
use Rattle.script_text.specs.Script.{Script, host_numbers}
use Rattle.script_text.specs.Ranges.{IsScript}
use Rattle.report_text.specs.Ranges.{IsContent}
use Rattle.histories.specs.Progress.{Ending}
use Rattle.histories.specs.History.{endings_at}
use Rattle.serial_array.specs.Serial.{Reported, Array, zero_array, is_within, new_content, Written, written_by, with_written, is_place, recovered_by, with_lost_at, effect, read_contents, Agrees, Runs, number_of, numbered}
use Rattle.serial_laws.specs.Headline.{IsSerialPlay, reported, reported_at}

-- a block of zeros
low-zeros : (n k : ℕ) → slice_index (replicate n 0) k < 256
low-zeros zero k = omega arith
low-zeros (suc n) zero = omega arith
low-zeros (suc n) (suc k) = low-zeros n k

zeros-in : IsBlock zeros
zeros-in = record { size = length-replicate {A = ℕ} 64 0; bytes = low-zeros 64 }

module _ (script : Script) (is : IsScript script) where
  abbrev pub ArrayIn : Array → Type 0
  ArrayIn array = (address : Address) → IsContent (array address)

  block-in : (blocks : List (List ℕ)) (k : ℕ) → AllByRecursion IsBlock blocks → IsBlock (slice_index_or blocks k zeros)
  block-in [] k all = zeros-in
  block-in (block ∷ blocks) zero all = all.0
  block-in (block ∷ blocks) (suc k) all = block-in blocks k all.1

  new-in : (first from block : ℕ) → IsContent (new_content script first from block)
  new-in first from block = block-in script.blocks (from + (block - first)) (recursion_from_All IsBlock script.blocks is.blocks)

  either-in : (b : Bool) (one other : Content) → IsContent one → IsContent other → IsContent (cond b one other)
  either-in true one other x y = x
  either-in false one other x y = y

  written-in : (w : Option Written) (is_made : ℕ → Bool) (array : Array) → ArrayIn array → ArrayIn (with_written script w is_made array)
  written-in None is_made array all address = all address
  written-in (Some w) is_made array all address =
      either-in (is_within w.object w.first w.count address && is_made (address.block - w.first)) (new_content script w.first w.from address.block) (array address)
      (new-in w.first w.from address.block) (all address)

  lost-in : (o : Option RowNo) (lost : Option ℕ) (array : Array) → ArrayIn array → ArrayIn (with_lost_at script o lost array)
  lost-in (Some row) (Some unit) array all address = either-in (is_place row unit (place script.n script.objects address)) Lost (array address) tt (all address)
  lost-in (Some row) None array all address = all address
  lost-in None lost array all address = all address

  effect-in : (task : Task) (ended : JobEnd) (array : Array) → ArrayIn array → ArrayIn (effect script task ended array)
  effect-in task (ends.Read n) array all = all
  effect-in task (ends.Wrote n) array all = written-in (written_by task) (λ block. true) array all
  effect-in task (ends.Part n made cause) array all = written-in (written_by task) (has_unit made) array all
  effect-in task (ends.Recovered n closed lost) array all = lost-in (recovered_by task) lost array all
  effect-in task ends.Lost array all = all
  effect-in task ends.Fitted array all = all
  effect-in task ends.Rebuilt array all = all
  effect-in task (ends.Gave tries cause) array all = all
  effect-in task (ends.StillMissing bay) array all = all
  effect-in task (ends.NotLost bay) array all = all
  effect-in task (ends.NotFitted bay) array all = all
  effect-in task ends.NoObject array all = all
  effect-in task (ends.PastEnd blocks) array all = all
  effect-in task (ends.TooManyRows rows) array all = all

  -- what is read
  some-in : (array : Array) → ArrayIn array → (object : Name) (blocks : List ℕ) →
      AllByRecursion IsContent (map (λ block. array (record { object = object; block = block })) blocks)
  some-in array all object [] = tt
  some-in array all object (block ∷ blocks) = (all (record { object = object; block = block }), some-in array all object blocks)

  read-in : (array : Array) → ArrayIn array → (task : Task) → AllByRecursion IsContent (read_contents task array)
  read-in array all (tasks.Read object first count) = some-in array all object (range_with_len first count)
  read-in array all (tasks.Write object first from count) = tt
  read-in array all (tasks.Recover row) = tt
  read-in array all (tasks.Lose bay) = tt
  read-in array all (tasks.Fit bay) = tt
  read-in array all (tasks.Rebuild bay) = tt

  -- a read gives blocks
  abbrev pub ReadIn : JobEnd → List Content → Type 0
  ReadIn ended contents = (n : Number) → ended ≡ ends.Read n → AllByRecursion IsContent contents

  abbrev pub IsReadIn : Reported → Type 0
  IsReadIn e = ReadIn e.ended e.contents

  agrees-in : (array : Array) → ArrayIn array → (e : Reported) → Agrees e.job.task array e.ended e.contents → IsReadIn e
  agrees-in array all e agrees n ended =
      let same : e.contents ≡ read_contents e.job.task array = subst (λ (x : JobEnd). Agrees e.job.task array x e.contents) ended agrees in
      subst (AllByRecursion IsContent) (sym same) (read-in array all e.job.task)

  -- a run over such an array
  runs-in : (array : Array) (es : List Reported) (last : Array) → ArrayIn array → Runs script array es last → AllByRecursion IsReadIn es × ArrayIn last
  runs-in array [] last all runs = (tt, λ address. subst IsContent (sym (runs address)) (all address))
  runs-in array (e ∷ es) last all runs =
      let rest = runs-in (effect script e.job.task e.ended array) es last (effect-in e.job.task e.ended array all) runs.1 in
      ((agrees-in array all e runs.0, rest.0), rest.1)

  -- Of each host's results those that are reads
  abbrev has-number : Reported → Bool
  has-number e = is_some (number_of e.ended)

  all-left : {X : Type 0} (P : X → Type 0) (xs ys : List X) → AllByRecursion P (xs ++ ys) → AllByRecursion P xs × AllByRecursion P ys
  all-left P [] ys all = (tt, all)
  all-left P (x ∷ xs) ys all = let rest = all-left P xs ys all.1 in ((all.0, rest.0), rest.1)

  abbrev pub EndingIn : Ending → Type 0
  EndingIn e = ReadIn e.ended e.contents

  numbered-in : (es : List Ending) → AllByRecursion IsReadIn (numbered (map reported es)) → AllByRecursion EndingIn es
  numbered-in [] all = tt
  numbered-in (e ∷ es) all = by (is_some (number_of e.ended)) refl (numbered-in es) all
    where
      by : (b : Bool) → is_some (number_of e.ended) ≡ b → (AllByRecursion IsReadIn (numbered (map reported es)) → AllByRecursion EndingIn es) →
          AllByRecursion IsReadIn (cond b (reported e ∷ numbered (map reported es)) (numbered (map reported es))) → AllByRecursion EndingIn (e ∷ es)
      by true some rest all = (all.0, rest all.1)
      by false none rest all = (
        λ n ended. absurd (let bad : true ≡ false = sym (ap (λ (x : JobEnd). is_some (number_of x)) ended) ∙ none in cc),
        rest all,
      )

  module _ (history : List Call) where
    hosts-in : (hosts : List HostNo) → AllByRecursion IsReadIn (numbered (flat_map (reported_at script history) hosts)) →
        AllByRecursion (λ (host : HostNo). AllByRecursion EndingIn (endings_at script history host)) hosts
    hosts-in [] all = tt
    hosts-in (host ∷ hosts) all =
        let split = all-left IsReadIn (numbered (reported_at script history host)) (numbered (flat_map (reported_at script history) hosts))
        (subst (AllByRecursion IsReadIn) (filter-append has-number (reported_at script history host) (flat_map (reported_at script history) hosts)) all) in
        (numbered-in (endings_at script history host) split.0, hosts-in hosts split.1)

    zero-in : ArrayIn zero_array
    zero-in address = zeros-in

    pub record PlayIn (play : IsSerialPlay script history) : Type 0 where
      pub reads : AllByRecursion (λ (host : HostNo). AllByRecursion EndingIn (endings_at script history host)) (host_numbers script)
      pub last : ArrayIn play.0

    pub play-in : (play : IsSerialPlay script history) → PlayIn play
    play-in play =
        let s = play.1 in
        let run = runs-in zero_array s.order play.0 zero-in s.runs in
        record {
          reads = hosts-in (host_numbers script)
              (recursion_from_All IsReadIn (numbered (flat_map (reported_at script history) (host_numbers script)))
              (All-permutation IsReadIn s.order (numbered (flat_map (reported_at script history) (host_numbers script))) s.same (All-from_recursion IsReadIn s.order run.0)));
          last = run.1;
        }
