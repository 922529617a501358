-- An attempt keeps to the bounds of its job.
use Rattle.std.proofs.Common.{◌≡◌, ℕ, zero, suc, ◌+◌, ◌-◌, ◌*◌, ◌/◌, ◌%◌, ◌^◌, ◌<◌, ◌≤◌, List, [], ◌∷◌, ◌++◌, length, take, drop, Bool, true, false, cond, if◌then◌else◌, Option, Some, None, option_map, Result, Ok, Err, find, sum_by, refl, sym, ap, subst, ◌∙◌, arith}
use Rattle.std.specs.Prelude.{nat_lt, ok_or, IsOk}
use Rattle.std.specs.List.{AllByRecursion, list_any}
use Rattle.std.specs.Prelude.{eqb, ◌||◌}
use Rattle.std.proofs.lemmas.Bool.{eq-eqb}
use Rattle.std.proofs.lemmas.List.Sums.{sum_by-cons}
use Rattle.std.proofs.lemmas.List.Elements.{recursion_from_All}
use Rattle.std.proofs.lemmas.Bool.Decides.{nat_tests}
use Rattle.raid_base.specs.declared.numbers.HostNo.{HostNo}
use Rattle.raid_base.specs.declared.numbers.RowNo.{RowNo}
use Rattle.raid_base.specs.declared.numbers.BayNo.{BayNo}
use Rattle.raid_base.specs.declared.numbers.Number.{Number}
use Rattle.raid_base.specs.declared.names.Name.{Name}
use Rattle.raid_base.specs.declared.jobs.Task.{Task}
use Rattle.raid_base.specs.declared.jobs.Task.TheVariants as tasks
use Rattle.raid_base.specs.declared.jobs.RowPart.{RowPart}
use Rattle.raid_base.specs.declared.jobs.PartsFault.{PartsFault}
use Rattle.raid_base.specs.declared.jobs.PartsFault.TheVariants.{PastEnd, TooManyRows}
use Rattle.raid_base.specs.Names.{is_text}
use Rattle.raid_base.specs.Numbers.{draw, seen_drawn, least_above}
use Rattle.raid_base.specs.Steps.{Steps, Asks, Draws, Ends, draws, settled}
use Rattle.stripe_layout.specs.Placement.{units_in}
use Rattle.virtual_objects.specs.Objects.{Object, rows_of, rows_touched, parts_from, parts_in, parts_found}
use Rattle.virtual_objects.specs.Table.{numbers, held}
use Rattle.virtual_objects.specs.RowParts.{IsPart, ArePartsOf}
use Rattle.virtual_objects.proofs.JobLemmas.{are_parts}
use Rattle.attempts.specs.Discipline.{Obeys, IsDrawn, IsNumber, IsWithin, IsPlainFinish, IsAccess}
use Rattle.attempts.specs.BayBounds.{ObeysAt}
use Rattle.attempts.proofs.ReadObeys.{reads_keep_bounds}
use Rattle.attempts.proofs.WriteObeys.{writes_keep_bounds}
use Rattle.attempts.proofs.RepairObeys.{rebuilds_keep_bounds, recoveries_keep_bounds}
use Rattle.attempts.proofs.ReadBays.{reads_keep_bay_bounds}
use Rattle.attempts.proofs.WriteBays.{writes_keep_bay_bounds}
use Rattle.attempts.proofs.RepairBays.{rebuilds_keep_bay_bounds, recoveries_keep_bay_bounds}
use Rattle.attempts.specs.Taking.{Finish}
use Rattle.script_text.specs.Script.{Script, parts_of, blocks_of}
use Rattle.script_text.specs.Ranges.{IsScript}
use Rattle.script_text.specs.Weights.{touched}
use Rattle.histories.specs.Progress.{access, attempt, read_of, write_of}
use Rattle.histories.specs.Plain.{IsTried}
use Rattle.histories.specs.Bounds.{IsAimed, IsFinish, parts_requests, task_requests, task_contents}

-- a drawn number is within
drawn-within : (n : ℕ) (b : Bool) → nat_lt n (2 ^ 62) ≡ b → 1 ≤ n → (spent : _) → IsDrawn (ok_or (if b then Some (record { 0 = n }) else None) spent)
drawn-within n true e some spent = record { least = some; most = grind (arith, nat_tests) }
drawn-within n false e some spent = tt

least-some : (host floor : ℕ) (b : Bool) → nat_lt (floor % 16) host ≡ b → 1 ≤ least_above host floor
least-some host floor true e = rw e (let h : floor % 16 < host = grind (arith, nat_tests) in omega arith)
least-some host floor false e = rw e (omega arith)

pub draw-within : (host : HostNo) (seen : Number) → IsDrawn (draw host seen)
draw-within host seen = drawn-within (least_above host.0 seen.0) _ refl (least-some host.0 seen.0 _ refl) _

-- once settled nothing is to be drawn
pub settled-still : {A : Type 0} (host : HostNo) (seen : Number) (s : Steps A) → draws (settled host seen s).steps ≡ false
settled-still host seen (Asks e t c k) = refl
settled-still host seen (Draws k) = settled-still host (seen_drawn seen (draw host seen)) (k (draw host seen))
settled-still host seen (Ends a) = refl

-- Rows
below-left : (rows : ℕ) (xs : List RowNo) (ys : List ℕ) → AllByRecursion (λ (r : ℕ). r < rows) (numbers xs ++ ys) → AllByRecursion (λ (r : RowNo). r.0 < rows) xs
below-left rows [] ys h = tt
below-left rows (x ∷ xs) ys h = (h.0, below-left rows xs ys h.1)

below-right : (rows : ℕ) (xs : List RowNo) (ys : List ℕ) → AllByRecursion (λ (r : ℕ). r < rows) (numbers xs ++ ys) → AllByRecursion (λ (r : ℕ). r < rows) ys
below-right rows [] ys h = h
below-right rows (x ∷ xs) ys h = below-right rows xs ys h.1

below-found : (rows : ℕ) (objects : List Object) (name : Name) (found : List RowNo) → AllByRecursion (λ (r : ℕ). r < rows) (held objects) →
    rows_of objects name ≡ Some found → AllByRecursion (λ (r : RowNo). r.0 < rows) found
below-found rows [] name found h e = absurd (cc)
below-found rows (object ∷ objects) name found h e =
    by (is_text object.name name) e (below-found rows objects name found (below-right rows object.rows (held objects) h))
  where
    by : (b : Bool) → option_map (λ (o : Object). o.rows) (cond b (Some object) (find (λ (o : Object). is_text o.name name) objects)) ≡ Some found →
        (rows_of objects name ≡ Some found → AllByRecursion (λ (r : RowNo). r.0 < rows) found) → AllByRecursion (λ (r : RowNo). r.0 < rows) found
    by true t rest =
        let same : object.rows ≡ found = cc in
        subst (λ (rs : List RowNo). AllByRecursion (λ (r : RowNo). r.0 < rows) rs) same (below-left rows object.rows (held objects) h)
    by false t rest = rest t

below-take : (rows t : ℕ) (xs : List RowNo) → AllByRecursion (λ (r : RowNo). r.0 < rows) xs → AllByRecursion (λ (r : RowNo). r.0 < rows) (take t xs)
below-take rows zero xs h = tt
below-take rows (suc t) [] h = tt
below-take rows (suc t) (x ∷ xs) h = (h.0, below-take rows t xs h.1)

below-drop : (rows i : ℕ) (xs : List RowNo) → AllByRecursion (λ (r : RowNo). r.0 < rows) xs → AllByRecursion (λ (r : RowNo). r.0 < rows) (drop i xs)
below-drop rows zero xs h = h
below-drop rows (suc i) [] h = tt
below-drop rows (suc i) (x ∷ xs) h = below-drop rows i xs h.1

below-parts : (rows d first last index : ℕ) (rs : List RowNo) → AllByRecursion (λ (r : RowNo). r.0 < rows) rs →
    AllByRecursion (λ (part : RowPart). part.row.0 < rows) (parts_from d first last index rs)
below-parts rows d first last index [] h = tt
below-parts rows d first last index (r ∷ rs) h = (h.0, below-parts rows d first last (index + 1) rs h.1)

-- a job that is granted
grants : (b c : Bool) (e f : PartsFault) (x ps : List RowPart) → (if b then Err e else (if c then Err f else Ok x)) ≡ Ok ps → x ≡ ps
grants true c e f x ps h = absurd (cc)
grants false true e f x ps h = absurd (cc)
grants false false e f x ps h = cc

parts-below : (rows d first count : ℕ) (found : List RowNo) (ps : List RowPart) → AllByRecursion (λ (r : RowNo). r.0 < rows) found →
    parts_in d first count found ≡ Ok ps → AllByRecursion (λ (part : RowPart). part.row.0 < rows) ps
parts-below rows d first count found ps h ok =
    subst (λ (xs : List RowPart). AllByRecursion (λ (part : RowPart). part.row.0 < rows) xs) (grants (nat_lt (length found * d) (first + count)) (nat_lt 8 (rows_touched d first count)) (PastEnd (length found * d)) (TooManyRows (rows_touched d first count)) (parts_from d first (first + count) (first / d) (take (rows_touched d first count) (drop (first / d) found))) ps ok)
    (below-parts rows d first (first + count) (first / d) (take (rows_touched d first count) (drop (first / d) found))
    (below-take rows (rows_touched d first count) (drop (first / d) found) (below-drop rows (first / d) found h)))

units-counted : (n : ℕ) (parts : List RowPart) → AllByRecursion (IsPart n) parts →
    sum_by (λ (part : RowPart). length (units_in n part.mask)) parts ≡ sum_by (λ (part : RowPart). part.count) parts
units-counted n [] h = refl
units-counted n (part ∷ parts) h =
    sum_by-cons (λ (p : RowPart). length (units_in n p.mask)) part parts
    ∙ ap (λ (k : ℕ). k + sum_by (λ (p : RowPart). length (units_in n p.mask)) parts) h.0.counted
    ∙ ap (λ (k : ℕ). part.count + k) (units-counted n parts h.1)
    ∙ sym (sum_by-cons (λ (p : RowPart). p.count) part parts)

-- what holds of each row that is held holds of all in turn
held-below : (n : ℕ) (rows : List ℕ) → ((row : ℕ) → list_any (eqb row) rows ≡ true → row < n) → AllByRecursion (λ (r : ℕ). r < n) rows
held-below n [] all = tt
held-below n (x ∷ xs) all = (
  all x (rw (eq-eqb x x refl) refl),
  held-below n xs (λ row h. all row (either-true (eqb row x) (list_any (eqb row) xs) h)),
)
  where
    either-true : (a b : Bool) → b ≡ true → (a || b) ≡ true
    either-true true b h = refl
    either-true false b h = h

-- an attempt of a task asks one bay so often at most
abbrev pub task_weight : Script → Task → ℕ
task_weight script (tasks.Read object first count) = 4 * touched (parts_of script object first count)
task_weight script (tasks.Write object first from count) = 4 * touched (parts_of script object first count)
task_weight script (tasks.Recover row) = 4
task_weight script (tasks.Lose bay) = 1
task_weight script (tasks.Fit bay) = 1
task_weight script (tasks.Rebuild bay) = 4

module _ (script : Script) (is : IsScript script) (id : Number) (drawn : IsNumber id) where
  -- the access of a granted job
  found-access : (object : Name) (first count : ℕ) (parts : List RowPart) (blocks : List (List ℕ)) → 1 ≤ count → (found : Option (List RowNo)) →
      rows_of script.objects object ≡ found → parts_found (script.n - 1) first count found ≡ Ok parts → IsAccess (access script id parts blocks) script.rows count
  found-access object first count parts blocks some None none ok = absurd (cc)
  found-access object first count parts blocks some (Some rows) found ok =
      let are : ArePartsOf script.n script.objects object first count parts =
      are_parts script.n first count script.objects object rows parts (let h = is.devices_least in omega arith) some found is.objects.rows_apart ok in
      let below : AllByRecursion (λ (r : ℕ). r < script.rows) (held script.objects) =
      held-below script.rows (held script.objects) is.objects.rows_below in
      record {
        least = is.devices_least;
        most = is.devices_most;
        id = drawn;
        within = parts-below script.rows (script.n - 1) first count rows parts (below-found script.rows script.objects object rows below found) ok;
        covered = let e = units-counted script.n parts (recursion_from_All (IsPart script.n) parts are.sound.each) in let t = are.total in omega (arith, e, t);
      }

  granted-access : (object : Name) (first count : ℕ) (parts : List RowPart) (blocks : List (List ℕ)) → 1 ≤ count →
      parts_of script object first count ≡ Ok parts → IsAccess (access script id parts blocks) script.rows count
  granted-access object first count parts blocks some ok = found-access object first count parts blocks some (rows_of script.objects object) refl ok

  read-obeys : (object : Name) (first count : ℕ) → 1 ≤ count → (r : Result (List RowPart) PartsFault) → parts_of script object first count ≡ r → IsOk r →
      Obeys (IsWithin script.n script.rows) (IsPlainFinish count) (parts_requests script.n r) (read_of script id r)
  read-obeys object first count some (Ok parts) ok granted = reads_keep_bounds (access script id parts []) script.rows count (granted-access object first count parts [] some ok)
  read-obeys object first count some (Err fault) ok granted = absurd (cc granted)

  write-obeys : (object : Name) (first count : ℕ) (blocks : List (List ℕ)) → 1 ≤ count → (r : Result (List RowPart) PartsFault) → parts_of script object first count ≡ r → IsOk r →
      Obeys (IsWithin script.n script.rows) (IsPlainFinish 0) (parts_requests script.n r) (write_of script id blocks r)
  write-obeys object first count blocks some (Ok parts) ok granted =
      writes_keep_bounds (access script id parts blocks) script.rows count (granted-access object first count parts blocks some ok)
  write-obeys object first count blocks some (Err fault) ok granted = absurd (cc granted)

  -- an attempt of a task, whatever its id
  pub attempt-obeys : (host : HostNo) (row : ℕ) (task : Task) → row < script.rows → IsAimed script task → IsTried script task →
      Obeys (IsWithin script.n script.rows) (IsFinish script task) (task_requests script task) (attempt script host id row task)
  attempt-obeys host row (tasks.Read object first count) below aim tried = read-obeys object first count aim (parts_of script object first count) refl tried
  attempt-obeys host row (tasks.Write object first from count) below aim tried =
      write-obeys object first count (blocks_of script from count) aim (parts_of script object first count) refl tried
  attempt-obeys host row (tasks.Recover at) below aim tried =
      recoveries_keep_bounds (record { n = script.n; host = host; id = id; row = at }) script.rows
      (record { least = is.devices_least; most = is.devices_most; id = drawn; row = aim })
  attempt-obeys host row (tasks.Lose bay) below aim tried = absurd tried
  attempt-obeys host row (tasks.Fit bay) below aim tried = absurd tried
  attempt-obeys host row (tasks.Rebuild bay) below aim tried =
      rebuilds_keep_bounds (record { n = script.n; id = id; row = record { 0 = row }; target = bay }) script.rows
      (record { least = is.devices_least; most = is.devices_most; id = drawn; row = below; target = tried })

  -- one bay alone
  module _ (bay : BayNo) where
    read-obeys-at : (object : Name) (first count : ℕ) → 1 ≤ count → (r : Result (List RowPart) PartsFault) → parts_of script object first count ≡ r → IsOk r →
        ObeysAt bay (4 * touched r) (read_of script id r)
    read-obeys-at object first count some (Ok parts) ok granted =
        reads_keep_bay_bounds (access script id parts []) script.rows count (granted-access object first count parts [] some ok) bay
    read-obeys-at object first count some (Err fault) ok granted = absurd (cc granted)

    write-obeys-at : (object : Name) (first count : ℕ) (blocks : List (List ℕ)) → 1 ≤ count → (r : Result (List RowPart) PartsFault) → parts_of script object first count ≡ r → IsOk r →
        ObeysAt bay (4 * touched r) (write_of script id blocks r)
    write-obeys-at object first count blocks some (Ok parts) ok granted =
        writes_keep_bay_bounds (access script id parts blocks) script.rows count (granted-access object first count parts blocks some ok) bay
    write-obeys-at object first count blocks some (Err fault) ok granted = absurd (cc granted)

    pub attempt-obeys-at : (host : HostNo) (row : ℕ) (task : Task) → row < script.rows → IsAimed script task → IsTried script task →
        ObeysAt bay (task_weight script task) (attempt script host id row task)
    attempt-obeys-at host row (tasks.Read object first count) below aim tried = read-obeys-at object first count aim (parts_of script object first count) refl tried
    attempt-obeys-at host row (tasks.Write object first from count) below aim tried =
        write-obeys-at object first count (blocks_of script from count) aim (parts_of script object first count) refl tried
    attempt-obeys-at host row (tasks.Recover at) below aim tried =
        recoveries_keep_bay_bounds (record { n = script.n; host = host; id = id; row = at }) script.rows
        (record { least = is.devices_least; most = is.devices_most; id = drawn; row = aim }) bay
    attempt-obeys-at host row (tasks.Lose lost) below aim tried = absurd tried
    attempt-obeys-at host row (tasks.Fit lost) below aim tried = absurd tried
    attempt-obeys-at host row (tasks.Rebuild target) below aim tried =
        rebuilds_keep_bay_bounds (record { n = script.n; id = id; row = record { 0 = row }; target = target }) script.rows
        (record { least = is.devices_least; most = is.devices_most; id = drawn; row = below; target = tried }) bay

-- what an attempt of a task may have read
pub read-most : (script : Script) (task : Task) (f : Finish) → IsFinish script task f → length f.contents ≤ task_contents task
read-most script (tasks.Read object first count) f fine = fine.contents
read-most script (tasks.Write object first from count) f fine = fine.contents
read-most script (tasks.Recover row) f fine = let none = ap length fine.contents in omega (arith, none)
read-most script (tasks.Lose bay) f fine = absurd fine
read-most script (tasks.Fit bay) f fine = absurd fine
read-most script (tasks.Rebuild bay) f fine = let none = ap length fine.contents in omega (arith, none)
