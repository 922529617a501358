-- Every play is serial: its results take their effects in the order of their numbers, each read has found what those with lower
-- numbers leave, and what is shown at the end is what all of them leave.
use Rattle.std.proofs.Common.{◌≡◌, ◌⊎◌, inl, inr, refl, sym, ap, subst, ◌∙◌, ℕ, zero, suc, ◌+◌, ◌-◌, ◌<◌, Bool, true, false, cond, if◌then◌else◌, List, [], ◌∷◌, ◌++◌, map, length, Option, Some, None, IsSome, is_some, Result, Ok, Err, arith}
use Rattle.std.specs.Prelude.{nat_le, flat_map}
use Rattle.std.specs.List.{AllByRecursion, range_with_len}
use Rattle.std.proofs.lemmas.List.{map-append}
use Rattle.raid_base.specs.declared.names.Name.{Name}
use Rattle.raid_base.specs.declared.numbers.HostNo.{HostNo}
use Rattle.raid_base.specs.declared.numbers.RowNo.{RowNo}
use Rattle.raid_base.specs.declared.numbers.Number.{Number}
use Rattle.raid_base.specs.declared.cells.Content.{Content}
use Rattle.raid_base.specs.declared.cells.Shown.TheVariants.{Seen}
use Rattle.raid_base.specs.declared.messages.Call.{Call}
use Rattle.raid_base.specs.declared.jobs.Ended.{Ended}
use Rattle.raid_base.specs.declared.jobs.Ended.TheVariants as ends
use Rattle.raid_base.specs.declared.jobs.JobEnd.{JobEnd}
use Rattle.raid_base.specs.declared.jobs.JobEnd.TheVariants as job_ends
use Rattle.raid_base.specs.declared.jobs.PartsFault.{PartsFault}
use Rattle.raid_base.specs.declared.jobs.RowPart.{RowPart}
use Rattle.raid_base.specs.declared.jobs.Task.{Task}
use Rattle.raid_base.specs.declared.jobs.Task.TheVariants as tasks
use Rattle.raid_base.specs.Cells.{content_of}
use Rattle.raid_base.specs.Steps.{Commit, Steps, Asks, Draws, Ends, Standing, settled, next_errand}
use Rattle.stripe_layout.specs.Placement.{units_in}
use Rattle.virtual_objects.specs.Objects.{Address, place}
use Rattle.virtual_objects.specs.RowParts.{part_places, ArePartsOf}
use Rattle.virtual_objects.proofs.PlaceLemmas.{are_places}
use Rattle.degraded_plans.specs.Laws.{cell_of}
use Rattle.attempts.specs.Phases.{IsIn}
use Rattle.attempts.specs.Sound.{Cells, part_contents}
use Rattle.attempts.specs.Taking.{Finish}
use Rattle.attempts.proofs.ReturnLemmas.{in-left, in-right, in-either, in-filter, in-filtered, in-map}
use Rattle.script_text.specs.Script.{Script, host_numbers, parts_of}
use Rattle.script_text.specs.Ranges.{IsScript, IsTask, table_of}
use Rattle.serial_array.specs.Serial.{Reported, Array, zero_array, effect, Agrees, number_of, numbered}
use Rattle.serial_array.specs.Ordered.{number_or, number_in, inserted, in_order, below, array_after, AgreesBelow, touches}
use Rattle.serial_array.proofs.OrderedLemmas.{all-in-order, in-order-ascend, results_are_serial, Ascend}
use Rattle.histories.specs.Plain.{task_count}
use Rattle.histories.specs.Hands.{Led}
use Rattle.histories.specs.Progress.{Ending, quit_end, no_steps, read_of, attempt}
use Rattle.histories.specs.History.{IsHistory, endings_at}
use Rattle.histories.specs.Endings.{contents_due, IsFilled}
use Rattle.histories.proofs.endings.EndingLemmas.{endings_are_filled}
use Rattle.histories.specs.Turns.{all_ended}
use Rattle.serial_laws.specs.Headline.{reported, reported_at, ShowsLast}
use Rattle.histories.specs.Results.{shown_place}
use Rattle.row_laws.specs.Laws.{commits_of}
use Rattle.serial_laws.specs.Laws.{is_of, last_of, content_at, PlaysAreSerial}
use Rattle.row_laws.specs.Commits.{IsOwnPut, IsParityPut, IsGiven}
use Rattle.serial_laws.specs.Rising.{Taken, put_no, taken_by, taken_at, AreRising}
use Rattle.serial_laws.specs.Seen.{newest_below, content_below, cells_below, TellsBelow}
use Rattle.serial_laws.specs.Told.{TaskTells, Tells, IsOfResult}
use Rattle.serial_laws.proofs.contents.ContentFacts.{cells-at, content-back}
use Rattle.serial_laws.proofs.contents.ContentParity.{contents_are_shown}
use Rattle.serial_laws.proofs.results.HostResults.{hosts_have_results, numbers_are_apart}
use Rattle.serial_laws.proofs.serial.Latest.{passes, newest, taken_below, newest-below, rising-below, ascend-below, AreTaken, leaves-newest, taken-below}
use Rattle.row_laws.proofs.commits.OwnedCommits.{commits_are_of_owners}
use Rattle.row_laws.proofs.owners.OwnedPuts.{all-in}
use Rattle.serial_laws.proofs.serial.Placed.{are-parts}
use Rattle.serial_laws.proofs.results.ResultBlocks.{Acts, acts}
use Rattle.serial_laws.proofs.results.ResultTells.{results_tell}
use Rattle.serial_laws.proofs.rising.Rising.{contents_rise}
use Rattle.serial_laws.proofs.results.Stories.{HowEnded, Finished, Halted, Story, stories}
use Rattle.serial_laws.proofs.reads.Telling.{reads_tell_below}

-- Lists
all-of : {X : Type 0} (P : X → Type 0) (xs : List X) → ((x : X) → IsIn x xs → P x) → AllByRecursion P xs
all-of P [] h = tt
all-of P (x ∷ xs) h = (h x (inl refl), all-of P xs (λ y among. h y (inr among)))

from-map : {X Y : Type 0} (f : X → Y) (y : Y) (xs : List X) → IsIn y (map f xs) → (x : X) × IsIn x xs × (f x ≡ y)
from-map f y [] among = absurd among
from-map f y (x ∷ xs) (inl same) = (x, inl refl, same)
from-map f y (x ∷ xs) (inr later) = (let rest = from-map f y xs later in (rest.0, inr rest.1, rest.2))

from-flat : {X Y : Type 0} (f : X → List Y) (y : Y) (xs : List X) → IsIn y (flat_map f xs) → (x : X) × IsIn x xs × IsIn y (f x)
from-flat f y [] among = absurd among
from-flat f y (x ∷ xs) among = elim (in-either y (f x) (flat_map f xs) among) [
  | inl here ↦ (x, inl refl, here)
  | inr later ↦ (let rest = from-flat f y xs later in (rest.0, inr rest.1, rest.2))
]

in-flat : {X Y : Type 0} (f : X → List Y) (x : X) (y : Y) (xs : List X) → IsIn x xs → IsIn y (f x) → IsIn y (flat_map f xs)
in-flat f x y [] among here = absurd among
in-flat f x y (z ∷ xs) (inl same) here = in-left y (f z) (flat_map f xs) (subst (λ (w : _). IsIn y (f w)) (sym same) here)
in-flat f x y (z ∷ xs) (inr later) here = in-right y (f z) (flat_map f xs) (in-flat f x y xs later here)

no-contents : (contents : List Content) → length contents ≡ 0 → contents ≡ []
no-contents [] none = refl
no-contents (c ∷ contents) none = absurd (omega (arith, none))

-- the results in order are the same
in-inserted : (x e : Reported) (es : List Reported) → (e ≡ x) ⊎ IsIn x es → IsIn x (inserted e es)
in-inserted x e [] i = i
in-inserted x e (next ∷ es) i = by (nat_le (number_in e) (number_in next)) (λ j. in-inserted x e es j) i
  where
    by : (b : Bool) → ((e ≡ x) ⊎ IsIn x es → IsIn x (inserted e es)) → (e ≡ x) ⊎ ((next ≡ x) ⊎ IsIn x es) → IsIn x (cond b (e ∷ next ∷ es) (next ∷ inserted e es))
    by true rest i = i
    by false rest (inl same) = inr (rest (inl same))
    by false rest (inr (inl same)) = inl same
    by false rest (inr (inr later)) = inr (rest (inr later))

in-ordered : (x : Reported) (es : List Reported) → IsIn x es → IsIn x (in_order es)
in-ordered x [] among = among
in-ordered x (e ∷ es) (inl same) = in-inserted x e (in_order es) (inl same)
in-ordered x (e ∷ es) (inr later) = in-inserted x e (in_order es) (inr (in-ordered x es later))

from-ordered : (x : Reported) (es : List Reported) → IsIn x (in_order es) → IsIn x es
from-ordered x es among = all-in (λ (y : Reported). IsIn y es) x (in_order es) (all-in-order (λ (y : Reported). IsIn y es) es (all-of (λ (y : Reported). IsIn y es) es (λ y i. i))) among

-- The content of a unit is the newest that it has taken.
newest-taken : (row : RowNo) (unit : ℕ) (n : Number) (commits : List Commit) (takens : List Taken) (content : Content) → content ≡ newest takens →
    last_of row unit commits content ≡ newest (taken_by row unit (Some n) commits takens)
newest-taken row unit n [] takens content same = same
newest-taken row unit n (c ∷ commits) takens content same =
    newest-taken row unit n commits (if is_of row unit c then record { number = n; content = c.content } ∷ takens else takens) (if is_of row unit c then c.content else content) (by (is_of row unit c))
  where
    by : (b : Bool) → (if b then c.content else content) ≡ newest (if b then record { number = n; content = c.content } ∷ takens else takens)
    by true = refl
    by false = same

module _ (script : Script) (earlier : List Call) (call : Call) (none : put_no call.ask.what ≡ None) where
  no-given : (commit : Commit) → IsGiven script earlier call commit → ⊥
  no-given commit given = by given.whose
    where
      by : IsOwnPut script earlier call commit ⊎ IsParityPut script call commit → ⊥
      by (inl o) = let some : put_no call.ask.what ≡ Some o.number = ap put_no o.put in absurd (cc)
      by (inr (id, (at, k, cell, puts))) = let some : put_no call.ask.what ≡ Some k = ap put_no puts in absurd (cc)

  no-commits : (commits : List Commit) → AllByRecursion (IsGiven script earlier call) commits → commits ≡ []
  no-commits [] all = refl
  no-commits (c ∷ commits) all = absurd (no-given c all.0)

content-newest : (script : Script) (history : List Call) → IsScript script → IsHistory script history → (row : RowNo) (unit : ℕ) → content_at script history row unit ≡ newest (taken_at script history row unit)
content-newest script [] is along row unit = refl
content-newest script (call ∷ earlier) is along row unit = by (put_no call.ask.what) refl (content-newest script earlier is along.0 row unit)
  where
    Commits : List Commit
    Commits = commits_of script earlier call

    by : (o : Option Number) → put_no call.ask.what ≡ o → content_at script earlier row unit ≡ newest (taken_at script earlier row unit) →
        last_of row unit Commits (content_at script earlier row unit) ≡ newest (taken_by row unit o Commits (taken_at script earlier row unit))
    by (Some n) e before = newest-taken row unit n Commits (taken_at script earlier row unit) (content_at script earlier row unit) before
    by None e before =
        ap (λ (commits : List Commit). last_of row unit commits (content_at script earlier row unit)) (no-commits script earlier call e Commits (commits_are_of_owners script earlier call is along)) ∙ before

-- An attempt without parts asks nothing.
led-none : (host : HostNo) (seen : Number) (calls : List Call) (now : Standing Finish) → Led host (record { seen = seen; steps = no_steps }) calls now → now.steps ≡ no_steps
led-none host seen [] now led = sym (ap (λ (x : Standing Finish). x.steps) led)
led-none host seen (call ∷ earlier) now (before, led, asked, fit, later) =
    let same : before.steps ≡ no_steps = led-none host seen earlier before led in
    let none : next_errand before.steps ≡ None = ap (λ (s : Steps Finish). next_errand s) same in
    absurd (cc)

abbrev ended_of : Steps Finish → Ended
ended_of (Ends f) = f.ended
ended_of (Asks errand stop commits go) = stop
ended_of (Draws go) = ends.Mended

-- a read that is done has parts, and no write ends as a read
abbrev IsReadable : Script → Task → JobEnd → Type 0
IsReadable script (tasks.Read object first count) (job_ends.Read n) = (parts : List RowPart) × (parts_of script object first count ≡ Ok parts)
IsReadable script (tasks.Write object first from count) (job_ends.Read n) = ⊥
IsReadable script _ _ = Unit {0}

module _ (script : Script) (history : List Call) (is : IsScript script) (along : IsHistory script history) (host : HostNo) (e : Ending) (among : IsIn e (endings_at script history host)) (has : IsSome (number_of e.ended)) where
  its-story : Story script history host e
  its-story = all-in (λ (x : Ending). IsSome (number_of x.ended) → Story script history host x) e (endings_at script history host) (stories script history is along host) among has

  its-tells : Tells script history host e
  its-tells = all-in (λ (x : Ending). IsSome (number_of x.ended) → Tells script history host x) e (endings_at script history host) ((results_tell script history is along).0 host) among has

  its-task : its-story.hand.task ≡ e.job.task
  its-task = let first : Some e.job.task ≡ Some its-story.hand.task = its-story.hand.first in cc

  its-aim : IsTask script host e.job.task
  its-aim = subst (IsTask script host) its-task its-story.hand.is

  no-fault : (object : Name) (first count : ℕ) (fault : PartsFault) → e.job.task ≡ tasks.Read object first count → parts_of script object first count ≡ Err fault → ⊥
  no-fault object first count fault reads none = by its-story.how
    where
      s : Story script history host e
      s = its-story

      without : attempt script host s.hand.id s.row s.hand.task ≡ no_steps
      without = ap (attempt script host s.hand.id s.row) (its-task ∙ reads) ∙ ap (read_of script s.hand.id) none

      stands : s.steps ≡ no_steps
      stands = led-none host s.hand.id e.calls (record { seen = s.seen; steps = s.steps }) (subst (λ (x : Steps Finish). Led host (settled host s.hand.id x) e.calls (record { seen = s.seen; steps = s.steps })) without s.hand.led)

      by : HowEnded s.steps e → ⊥
      by (Finished f at ended contents) =
          let refused : f.ended ≡ ended_of no_steps = ap ended_of (sym at ∙ stands) in
          let none : number_of e.ended ≡ None = ap number_of (ended ∙ ap (quit_end e.tries) refused) in
          let bad : false ≡ true = sym (ap is_some none) ∙ has in
          absurd (cc)
      by (Halted errand stop commits go at ended contents) = let bad : Asks errand stop commits go ≡ no_steps = sym at ∙ stands in absurd (cc)

  readable : IsReadable script e.job.task e.ended
  readable = subst (λ (j : JobEnd). IsReadable script e.job.task j) (sym its-tells.same) (by e.job.task refl its-tells.ended its-tells.tells)
    where
      found : (object : Name) (first count : ℕ) → e.job.task ≡ tasks.Read object first count → (r : Result (List RowPart) PartsFault) → parts_of script object first count ≡ r →
          (parts : List RowPart) × (r ≡ Ok parts)
      found object first count reads (Ok parts) ok = (parts, refl)
      found object first count reads (Err fault) none = absurd (no-fault object first count fault reads none)

      by : (task : Task) → e.job.task ≡ task → (ended : Ended) → TaskTells script host its-tells.id task its-tells.done ended → IsReadable script task (quit_end e.tries ended)
      by (tasks.Read object first count) reads (ends.Read n) tells = found object first count reads (parts_of script object first count) refl
      by (tasks.Read object first count) reads (ends.Wrote n) tells = tt
      by (tasks.Read object first count) reads (ends.Part n made cause) tells = tt
      by (tasks.Read object first count) reads (ends.Refused cause) tells = tt
      by (tasks.Read object first count) reads (ends.Recovered n closed lost) tells = tt
      by (tasks.Read object first count) reads ends.Mended tells = tt
      by (tasks.Write object first from count) writes (ends.Read n) tells = absurd (tells.2.tells)
      by (tasks.Write object first from count) writes (ends.Wrote n) tells = tt
      by (tasks.Write object first from count) writes (ends.Part n made cause) tells = tt
      by (tasks.Write object first from count) writes (ends.Refused cause) tells = tt
      by (tasks.Write object first from count) writes (ends.Recovered n closed lost) tells = tt
      by (tasks.Write object first from count) writes ends.Mended tells = tt
      by (tasks.Recover row) other _ tells = tt
      by (tasks.Lose bay) other _ tells = tt
      by (tasks.Fit bay) other _ tells = tt
      by (tasks.Rebuild bay) other _ tells = tt

module _ (script : Script) (history : List Call) (is : IsScript script) (along : IsHistory script history) (over : all_ended script history ≡ true) where
  -- the results that have numbers
  abbrev AllResults : List Reported
  AllResults = numbered (flat_map (reported_at script history) (host_numbers script))

  abbrev InOrder : List Reported
  InOrder = in_order AllResults

  abbrev has_number : Reported → Bool
  has_number e = is_some (number_of e.ended)

  -- each is that of an ending
  record IsOf (e : Reported) : Type 0 where
    host : HostNo
    ending : Ending
    among : IsIn ending (endings_at script history host)
    has : IsSome (number_of ending.ended)
    same : reported ending ≡ e

  of-ending : (e : Reported) → IsIn e AllResults → IsOf e
  of-ending e among =
      let flat = from-flat (reported_at script history) e (host_numbers script) (in-filtered e has_number (flat_map (reported_at script history) (host_numbers script)) among) in
      let one = from-map reported e (endings_at script history flat.0) flat.2 in
      let has : is_some (number_of e.ended) ≡ true = passes has_number e (flat_map (reported_at script history) (host_numbers script)) among in
      record { host = flat.0; ending = one.0; among = one.1; has = subst (λ (x : Reported). is_some (number_of x.ended) ≡ true) (sym one.2) has; same = one.2 }

  ascends : Ascend InOrder
  ascends = in-order-ascend AllResults (numbers_are_apart script history is along)

  -- Blocks and what their units have taken
  module _ (address : Address) (row : RowNo) (unit : ℕ) (stands : place script.n script.objects address ≡ Some (row, unit)) where
    abbrev Takens : List Taken
    Takens = taken_at script history row unit

    row-below : row.0 < script.rows
    row-below = is.objects.rows_below row.0 ((are_places (table_of script) is.objects).row_held address row unit stands)

    unit-inside : unit + 1 < script.n
    unit-inside = let below : unit < script.n - 1 = (are_places (table_of script) is.objects).unit_in address row unit stands in omega (arith, below)

    its-acts : (host : HostNo) (e : Ending) (t : Tells script history host e) → IsTask script host e.job.task → Acts script is address row unit stands e.job.task e.ended t.done
    its-acts host e t aim =
        subst (λ (j : JobEnd). Acts script is address row unit stands e.job.task j t.done) (sym t.same) (acts script is address row unit stands host t.id e.tries e.job.task t.ended t.done aim t.tells)

    abbrev Gives : Reported → Type 0
    Gives e = touches script e address ≡ true → (t : Taken) × IsIn t Takens × (t.number.0 ≡ number_in e) × (effect script e.job.task e.ended zero_array address ≡ t.content)

    own-gives : (host : HostNo) (e : Ending) → IsIn e (endings_at script history host) → IsSome (number_of e.ended) → Gives (reported e)
    own-gives host e among has on =
        let t : Tells script history host e = its-tells script history is along host e among has in
        let g = (its-acts host e t (its-aim script history is along host e among has)).gives on in
        (record { number = t.number; content = g.0 }, t.taken (record { row = row; unit = unit; content = g.0 }) g.1, sym (ap number_or t.numbered), g.2)

    own-given : (t : Taken) → IsIn t Takens → IsOfResult script history t → (e : Reported) × IsIn e InOrder × (touches script e address ≡ true) × (number_in e ≡ t.number.0)
    own-given t among (host, e, host_in, e_in, number) =
        let has : IsSome (number_of e.ended) = ap is_some number in
        let its : Tells script history host e = its-tells script history is along host e e_in has in
        let both : Some t.number ≡ Some its.number = sym number ∙ its.numbered in
        let same : t.number ≡ its.number = cc in
        let commit : IsIn (record { row = row; unit = unit; content = t.content }) its.done = its.only row unit t row-below unit-inside among same in (
          reported e,
          in-ordered (reported e) AllResults
              (in-filter (reported e) has_number (flat_map (reported_at script history) (host_numbers script))
              (in-flat (reported_at script history) host (reported e) (host_numbers script) host_in (in-map reported e (endings_at script history host) e_in)) has),
          (its-acts host e its (its-aim script history is along host e e_in has)).given t.content commit,
          ap number_or number,
        )

    are-taken : AreTaken script address InOrder Takens
    are-taken = record {
      gives = λ e among. (let o : IsOf e = of-ending e (from-ordered e AllResults among) in subst Gives o.same (own-gives o.host o.ending o.among o.has));
      given = λ t among. own-given t among (all-in (IsOfResult script history) t Takens ((results_tell script history is along).1 over row unit row-below unit-inside) among);
    }

    rises : AreRising Takens
    rises = contents_rise script history is along row unit row-below unit-inside

    at-end : array_after script zero_array InOrder address ≡ newest Takens
    at-end = leaves-newest script address InOrder Takens ascends rises are-taken

    at-number : (n : ℕ) → array_after script zero_array (below n InOrder) address ≡ newest_below n Takens
    at-number n =
        leaves-newest script address (below n InOrder) (taken_below n Takens) (ascend-below n InOrder ascends) (rising-below n Takens rises) (taken-below script address n InOrder Takens are-taken)
        ∙ newest-below n Takens

  -- Reads
  module _ (n : Number) where
    abbrev Table : Cells
    Table = cells_below script history n

    abbrev Lower : Array
    Lower = array_after script zero_array (below n.0 InOrder)

    abbrev value : RowNo × ℕ → Content
    value at = content_of (cell_of (Table.units at.0) at.1)

    part-values : (row : RowNo) (us : List ℕ) → map (λ unit. content_of (cell_of (Table.units row) unit)) us ≡ map value (map (λ unit. (row, unit)) us)
    part-values row [] = refl
    part-values row (u ∷ us) = ap (λ (cs : List Content). content_of (cell_of (Table.units row) u) ∷ cs) (part-values row us)

    flat-values : (parts : List RowPart) → flat_map (part_contents script.n Table) parts ≡ map value (flat_map (part_places script.n) parts)
    flat-values [] = refl
    flat-values (part ∷ parts) =
        ap (λ (cs : List Content). cs ++ flat_map (part_contents script.n Table) parts) (part-values part.row (units_in script.n part.mask))
        ∙ ap (λ (cs : List Content). map value (part_places script.n part) ++ cs) (flat-values parts)
        ∙ sym (map-append value (part_places script.n part) (flat_map (part_places script.n) parts))

    block-value : (address : Address) (at : RowNo × ℕ) → place script.n script.objects address ≡ Some at → value at ≡ Lower address
    block-value address (row, unit) stands =
        ap content_of (cells-at script.n (content_below script history n row) unit (unit-inside address row unit stands))
        ∙ content-back unit (content_below script history n row unit) ∙ sym (at-number address row unit stands n.0)

    values-same : (object : Name) (first count : ℕ) (ats : List (RowNo × ℕ)) →
        map (λ at. Some at) ats ≡ map (λ block. place script.n script.objects (record { object = object; block = block })) (range_with_len first count) →
        map value ats ≡ map (λ block. Lower (record { object = object; block = block })) (range_with_len first count)
    values-same object first zero [] same = refl
    values-same object first zero (at ∷ ats) same = absurd (cc)
    values-same object first (suc count) [] same = absurd (cc)
    values-same object first (suc count) (at ∷ ats) same =
        let head : Some at ≡ place script.n script.objects (record { object = object; block = first }) = cc in
        let tail : map (λ at. Some at) ats ≡ map (λ block. place script.n script.objects (record { object = object; block = block })) (range_with_len (first + 1) count) = cc in
        ap (λ (c : Content). c ∷ map value ats) (block-value (record { object = object; block = first }) at (sym head))
        ∙ ap (λ (cs : List Content). Lower (record { object = object; block = first }) ∷ cs) (values-same object (first + 1) count ats tail)

  own-agrees : (host : HostNo) (e : Ending) → IsIn e (endings_at script history host) → IsSome (number_of e.ended) → AgreesBelow script AllResults (reported e)
  own-agrees host e among has =
      by e.job.task e.ended (its-aim script history is along host e among has)
      (all-in IsFilled e (endings_at script history host) (endings_are_filled script history host is).filled among)
      (all-in (λ (x : Ending). TellsBelow script history x.job.task x.ended x.contents) e (endings_at script history host) (reads_tell_below script history is along host) among)
      (readable script history is along host e among has)
    where
      by : (task : Task) (ended : JobEnd) → IsTask script host task → length e.contents ≡ contents_due ended (task_count task) → TellsBelow script history task ended e.contents →
          IsReadable script task ended → Agrees task (array_after script zero_array (below (number_or (number_of ended)) InOrder)) ended e.contents
      by (tasks.Read object first count) (job_ends.Read n) aim filled tells reads =
          let are : ArePartsOf script.n script.objects object first count reads.0 = are-parts script is object first count reads.0 aim.some reads.1 in
          tells reads.0 reads.1 ∙ flat-values n reads.0 ∙ values-same n object first count (flat_map (part_places script.n) reads.0) are.covers
      by (tasks.Write object first from count) (job_ends.Read n) aim filled tells reads = absurd reads
      by (tasks.Recover row) (job_ends.Read n) aim filled tells reads = no-contents e.contents filled
      by (tasks.Lose bay) (job_ends.Read n) aim filled tells reads = no-contents e.contents filled
      by (tasks.Fit bay) (job_ends.Read n) aim filled tells reads = no-contents e.contents filled
      by (tasks.Rebuild bay) (job_ends.Read n) aim filled tells reads = no-contents e.contents filled
      by task (job_ends.Wrote n) aim filled tells reads = tt
      by task (job_ends.Part n made cause) aim filled tells reads = tt
      by task (job_ends.Recovered n closed lost) aim filled tells reads = tt
      by task job_ends.Lost aim filled tells reads = tt
      by task job_ends.Fitted aim filled tells reads = tt
      by task job_ends.Rebuilt aim filled tells reads = tt
      by task (job_ends.Gave tries cause) aim filled tells reads = tt
      by task (job_ends.StillMissing bay) aim filled tells reads = tt
      by task (job_ends.NotLost bay) aim filled tells reads = tt
      by task (job_ends.NotFitted bay) aim filled tells reads = tt
      by task job_ends.NoObject aim filled tells reads = tt
      by task (job_ends.PastEnd blocks) aim filled tells reads = tt
      by task (job_ends.TooManyRows rows) aim filled tells reads = tt

  agree : AllByRecursion (AgreesBelow script AllResults) AllResults
  agree = all-of (AgreesBelow script AllResults) AllResults (λ e among. (let o : IsOf e = of-ending e among in subst (AgreesBelow script AllResults) o.same (own-agrees o.host o.ending o.among o.has)))

  have-numbers : AllByRecursion (λ (e : Reported). IsSome (number_of e.ended)) AllResults
  have-numbers = all-of (λ (e : Reported). IsSome (number_of e.ended)) AllResults (λ e among. passes has_number e (flat_map (reported_at script history) (host_numbers script)) among)

  -- What is shown at the end
  shows-last : ShowsLast script history (array_after script zero_array InOrder)
  shows-last address content shown = by (place script.n script.objects address) refl shown
    where
      by : (o : Option (RowNo × ℕ)) → place script.n script.objects address ≡ o → shown_place script history o ≡ Seen content → content ≡ array_after script zero_array InOrder address
      by None e shown = absurd (cc)
      by (Some (row, unit)) e shown =
          contents_are_shown script history is along row unit (row-below address row unit e) content shown ∙ content-newest script history is along row unit ∙ sym (at-end address row unit e)

pub plays_are_serial : PlaysAreSerial
plays_are_serial script history is along over =
    let all : List Reported = numbered (flat_map (reported_at script history) (host_numbers script)) in
    let serial = results_are_serial script all (have-numbers script history is along over) (numbers_are_apart script history is along) (agree script history is along over) in (
      array_after script zero_array (in_order all),
      record {
        hosts = hosts_have_results script history is along over;
        order = in_order all;
        same = serial.same;
        rise = serial.rise;
        runs = serial.runs;
      },
      shows-last script history is along over,
    )
