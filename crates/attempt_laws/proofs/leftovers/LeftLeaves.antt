-- What an attempt may ask, and that it holds nothing at its end but where it is done in part, or seizes.
use Rattle.std.proofs.Common.{◌≡◌, ◌⊎◌, inl, inr, ℕ, ◌+◌, ◌<◌, ◌≤◌, not, Bool, true, false, if◌then◌else◌, List, [], ◌∷◌, map, Option, Some, None, IsSome, Result, Ok, Err, refl, sym, ap, subst, ◌∙◌, arith}
use Rattle.std.specs.Prelude.{nat_lt, ok_or, ◌*◌, ◌/◌, ◌%◌}
use Rattle.std.specs.List.{AllByRecursion}
use Rattle.std.proofs.lemmas.Bool.Decides.{nat_tests}
use Rattle.raid_base.specs.declared.numbers.BayNo.{BayNo}
use Rattle.raid_base.specs.declared.numbers.HostNo.{HostNo}
use Rattle.raid_base.specs.declared.numbers.RowNo.{RowNo}
use Rattle.raid_base.specs.declared.numbers.Number.{Number}
use Rattle.raid_base.specs.declared.numbers.Spent.{Spent}
use Rattle.raid_base.specs.declared.names.Name.{Name}
use Rattle.raid_base.specs.declared.messages.Mode.{Mode}
use Rattle.raid_base.specs.declared.messages.Mode.TheVariants.{Lock, Order}
use Rattle.raid_base.specs.declared.messages.Grant.{Grant}
use Rattle.raid_base.specs.declared.messages.PutEnd.{PutEnd}
use Rattle.raid_base.specs.declared.messages.PutEnd.TheVariants.{Made, Unnoted, Failed}
use Rattle.raid_base.specs.declared.messages.Request.{Request}
use Rattle.raid_base.specs.declared.messages.Request.TheVariants.{Share, Claim, Confirm, Put, Release, Lose, Fit}
use Rattle.raid_base.specs.declared.messages.Reply.{Reply}
use Rattle.raid_base.specs.declared.messages.Errand.{Errand}
use Rattle.raid_base.specs.declared.jobs.RowPart.{RowPart}
use Rattle.raid_base.specs.declared.jobs.PartsFault.{PartsFault}
use Rattle.raid_base.specs.declared.jobs.Cause.TheVariants as causes
use Rattle.raid_base.specs.declared.jobs.Ended.{Ended}
use Rattle.raid_base.specs.declared.jobs.Ended.TheVariants as ends
use Rattle.raid_base.specs.declared.jobs.Task.{Task}
use Rattle.raid_base.specs.declared.jobs.Task.TheVariants as tasks
use Rattle.raid_base.specs.Fits.{fits}
use Rattle.raid_base.specs.Numbers.{number, least_above, draw, seen_drawn}
use Rattle.raid_base.specs.Replies.{grant_of, put_end}
use Rattle.raid_base.specs.Steps.{Steps, Asks, Draws, Ends, next_errand, behind, settled}
use Rattle.attempts.specs.declared.Repair.{Repair}
use Rattle.attempts.specs.declared.Rescue.{Rescue}
use Rattle.attempts.specs.Taking.{Access, Finish}
use Rattle.attempts.specs.Phases.{IsIn, Past, MayAsk, MayPut, grants, after, after_number, Keeps, begins, number_of, HasRow, RowsDiffer, HasOnlyRead, HasWritten, HasRepaired}
use Rattle.attempts.specs.Phases as phases
use Rattle.attempts.specs.Reading.{read_steps}
use Rattle.attempts.specs.Writing.{write_steps}
use Rattle.attempts.specs.Mending.{mend_steps}
use Rattle.attempts.specs.Recovery.{recover_steps}
use Rattle.attempts.specs.Returns.{Holding, without_slot, claimed, shared, mark_failed, after_put, held_after, Returns, FittingReturns, HoldsNothing, WrittenHolds, HasLetGoAll, HasRecovered}
use Rattle.attempts.proofs.ReadPhases.{reads_keep_phases}
use Rattle.attempts.proofs.WritePhases.{writes_keep_phases}
use Rattle.attempts.proofs.RepairPhases.{rebuilds_keep_phases, recoveries_keep_phases}
use Rattle.attempts.proofs.ReadReturns.{reads_return}
use Rattle.attempts.proofs.WrittenReturns.{written_writes_return}
use Rattle.attempts.proofs.RepairReturns.{rebuilds_return, recoveries_return}
use Rattle.script_text.specs.Script.{Script, parts_of, blocks_of}
use Rattle.script_text.specs.Ranges.{IsScript, IsTask}
use Rattle.histories.specs.Progress.{access, attempt, read_of, write_of}
use Rattle.histories.proofs.hands.PhasedHands.{rows-differ, found-parts}
use Rattle.attempt_laws.proofs.leftovers.LeftTrees.{IfSeizes, StopsWell, IsWell, Walks, NoSlot, AnySlot, Claimed, reads-walk, writes-walk, mends-walk, recoveries-walk}

-- which slots an attempt claims
pub data Aim : Type 0 where
  Nowhere : Aim
  Anywhere : Aim
  Wanted : (a : Access) → Aim

abbrev pub Aims : Aim → BayNo → RowNo → Type 0
Aims Nowhere bay row = NoSlot bay row
Aims Anywhere bay row = AnySlot bay row
Aims (Wanted a) bay row = Claimed a bay row

abbrev pub EndsWell : Bool → List Holding → Ended → Type 0
EndsWell true held _ = Unit {0}
EndsWell false held (ends.Read n) = held ≡ []
EndsWell false held (ends.Wrote n) = held ≡ []
EndsWell false held (ends.Part n made cause) = Unit {0}
EndsWell false held (ends.Refused cause) = held ≡ []
EndsWell false held (ends.Recovered n closed lost) = held ≡ []
EndsWell false held ends.Mended = held ≡ []

module _ (mode : Mode) (W : BayNo → RowNo → Type 0) (seizes : Bool) (id : Number) where
  abbrev pub IsAsked : BayNo → Request → Type 0
  IsAsked bay (Share row by want) = (by ≡ id) × (seizes ≡ false) × (W bay row → ⊥)
  IsAsked bay (Claim row by how mask want) = (by ≡ id) × W bay row × IfSeizes seizes how
  IsAsked bay (Confirm row by want) = Unit {0}
  IsAsked bay (Put row by n cell) = (by ≡ id) × W bay row
  IsAsked bay (Release row by n) = by ≡ id
  IsAsked bay Lose = Unit {0}
  IsAsked bay Fit = Unit {0}

  -- Whatever the numbers drawn, and the replies that fit
  abbrev pub Leaves : List Holding → Steps Finish → Type 0
  Leaves held (Ends f) = EndsWell seizes held f.ended
  Leaves held (Draws k) = (d : Result Number Spent) → Leaves held (k d)
  Leaves held (Asks e s c k) =
      IsAsked e.bay e.request × StopsWell seizes s × ((r : Reply) → fits e.request r ≡ true → Leaves (held_after mode held e.bay e.request r) (k r))

  abbrev InW : phases.Slot → Type 0
  InW slot = W slot.bay slot.row

  in-all : (slot : phases.Slot) (slots : List phases.Slot) → AllByRecursion InW slots → IsIn slot slots → InW slot
  in-all slot [] all i = absurd i
  in-all slot (x ∷ xs) all (inl same) = subst InW same all.0
  in-all slot (x ∷ xs) all (inr i) = in-all slot xs all.1 i

  granted-all : (g : Option Grant) (slot : phases.Slot) (slots : List phases.Slot) → InW slot → AllByRecursion InW slots → AllByRecursion InW (grants g slot slots)
  granted-all None slot slots w all = all
  granted-all (Some grant) slot slots w all = (w, all)

  asked : (n : ℕ) (past : Past) (bay : BayNo) (what : Request) → AllByRecursion InW past.granted → MayAsk n id past bay what → IsWell W seizes bay what → IsAsked bay what
  asked n past bay (Share row by want) all may well = (may.0, well.0, well.1)
  asked n past bay (Claim row by how mask want) all may well = (may.0, well.0, well.1)
  asked n past bay (Confirm row by want) all may well = tt
  asked n past bay (Put row by number cell) all may well = (may.0, in-all (record { bay = bay; row = row }) past.granted all (may.3).granted)
  asked n past bay (Release row by number) all may well = may
  asked n past bay Lose all may well = tt
  asked n past bay Fit all may well = tt

  after-all : (past : Past) (e : Errand) (r : Reply) (what : Request) → e.request ≡ what → AllByRecursion InW past.granted → IsWell W seizes e.bay what → AllByRecursion InW (after past (record { bay = e.bay; request = what }) r).granted
  after-all past e r (Share row by want) same all well = all
  after-all past e r (Claim row by how mask want) same all well = granted-all (grant_of r) (record { bay = e.bay; row = row }) past.granted well.0 all
  after-all past e r (Confirm row by want) same all well = all
  after-all past e r (Put row by number cell) same all well = all
  after-all past e r (Release row by number) same all well = all
  after-all past e r Lose same all well = all
  after-all past e r Fit same all well = all

  drawn-all : (past : Past) (d : Result Number Spent) → AllByRecursion InW past.granted → AllByRecursion InW (after_number past d).granted
  drawn-all past (Ok n) all = all
  drawn-all past (Err spent) all = all

  pub leaves-all : (n : ℕ) (Q : Past → Finish → Type 0) (R : List Holding → Finish → Type 0) → ((held : List Holding) (f : Finish) → R held f → EndsWell seizes held f.ended) →
      (past : Past) (held : List Holding) (s : Steps Finish) → AllByRecursion InW past.granted → Keeps n id Q past s → Walks W seizes s → FittingReturns mode R held s → Leaves held s
  leaves-all n Q R well past held (Ends f) all k w r = well held f r
  leaves-all n Q R well past held (Draws k) all h w r = λ d. leaves-all n Q R well (after_number past d) held (k d) (drawn-all past d all) (h.2 d) (w d) (r d)
  leaves-all n Q R well past held (Asks e s c k) all h w r = (
    asked n past e.bay e.request all h.0 w.0,
    w.1,
    λ reply fit. leaves-all n Q R well (after past e reply) (held_after mode held e.bay e.request reply) (k reply)
        (after-all past e reply e.request refl all w.0) (h.1 reply) (w.2 reply) (r reply fit),
  )

  -- what is left once numbers were drawn, or a reply was told
  pub settled-leaves : (host : HostNo) (seen : Number) (held : List Holding) (s : Steps Finish) → Leaves held s → Leaves held (settled host seen s).steps
  settled-leaves host seen held (Asks e t c k) h = h
  settled-leaves host seen held (Draws k) h = settled-leaves host (seen_drawn seen (draw host seen)) held (k (draw host seen)) (h (draw host seen))
  settled-leaves host seen held (Ends f) h = h

  pub record Told (held : List Holding) (steps : Steps Finish) (e : Errand) (r : Reply) : Type 0 where
    pub asked : IsAsked e.bay e.request
    pub leaves : Leaves (held_after mode held e.bay e.request r) (behind steps r)

  pub told-leaves : (held : List Holding) (steps : Steps Finish) (e : Errand) (r : Reply) → Leaves held steps → next_errand steps ≡ Some e → fits e.request r ≡ true → Told held steps e r
  told-leaves held (Asks e s c k) x r h is fit =
      let same : e ≡ x = cc in
      subst (λ (y : Errand). Told held (Asks e s c k) y r) same
      (record { asked = h.0; leaves = h.2 r (subst (λ (y : Errand). fits y.request r ≡ true) (sym same) fit) })
  told-leaves held (Draws k) x r h is fit = absurd (cc)
  told-leaves held (Ends f) x r h is fit = absurd (cc)

fitting : {A : Type 0} (mode : Mode) (Q : List Holding → A → Type 0) (held : List Holding) (s : Steps A) → Returns mode Q held s → FittingReturns mode Q held s
fitting mode Q held (Ends a) h = h
fitting mode Q held (Draws k) h = λ d. fitting mode Q held (k d) (h d)
fitting mode Q held (Asks e s c k) h = λ r fit. fitting mode Q (held_after mode held e.bay e.request r) (k r) (h r)

nothing-ends : (held : List Holding) (ended : Ended) → held ≡ [] → EndsWell false held ended
nothing-ends held (ends.Read n) e = e
nothing-ends held (ends.Wrote n) e = e
nothing-ends held (ends.Part n made cause) e = tt
nothing-ends held (ends.Refused cause) e = e
nothing-ends held (ends.Recovered n closed lost) e = e
nothing-ends held ends.Mended e = e

written-ends : (held : List Holding) (ended : Ended) → WrittenHolds held ended → EndsWell false held ended
written-ends held (ends.Read n) e = absurd e
written-ends held (ends.Wrote n) e = e
written-ends held (ends.Part n made cause) e = tt
written-ends held (ends.Refused cause) e = e
written-ends held (ends.Recovered n closed lost) e = absurd e
written-ends held ends.Mended e = absurd e

-- an attempt of a task
pub record Leaving (mode : Mode) (id : Number) (held : List Holding) (steps : Steps Finish) : Type 0 where
  pub aim : Aim
  pub seizes : Bool
  pub leaves : Leaves mode (Aims aim) seizes id held steps

module _ (script : Script) (is : IsScript script) (host : HostNo) (id : Number) where
  abbrev Leads : Steps Finish → Type 0
  Leads s = Leaving script.mode id [] s

  nothing-done : Leads (Ends (record { ended = ends.Refused causes.Quit; contents = [] }))
  nothing-done = record { aim = Nowhere; seizes = false; leaves = refl }

  reads-lead : (r : Result (List RowPart) PartsFault) → Leads (read_of script id r)
  reads-lead (Err fault) = nothing-done
  reads-lead (Ok parts) =
      let a : Access = access script id parts [] in
      record {
        aim = Nowhere;
        seizes = false;
        leaves = leaves-all script.mode (Aims Nowhere) false id a.n HasOnlyRead HoldsNothing (λ held f e. nothing-ends held f.ended e) (begins (number_of a.mode a.id)) [] (read_steps a) tt
            (reads_keep_phases a) (reads-walk a) (fitting a.mode HoldsNothing [] (read_steps a) (reads_return a));
      }

  writes-lead : (object : Name) (first count : ℕ) (blocks : List (List ℕ)) → 1 ≤ count → (r : Result (List RowPart) PartsFault) → parts_of script object first count ≡ r → Leads (write_of script id blocks r)
  writes-lead object first count blocks some (Err fault) ok = nothing-done
  writes-lead object first count blocks some (Ok parts) ok =
      let a : Access = access script id parts blocks in
      let sound = found-parts script is host id object first count parts some ok in
      let differ = rows-differ parts sound.rows_apart in
      record {
        aim = Wanted a;
        seizes = false;
        leaves = leaves-all script.mode (Aims (Wanted a)) false id a.n HasWritten HasLetGoAll (λ held f e. written-ends held f.ended e) (begins (number_of a.mode a.id)) [] (write_steps a) tt
            (writes_keep_phases a is.devices_least differ) (writes-walk a is.devices_least differ) (written_writes_return a is.devices_least sound);
      }

  pub attempt-leads : (row : ℕ) (task : Task) → IsTask script host task → Leads (attempt script host id row task)
  attempt-leads row (tasks.Read object first count) aim = reads-lead (parts_of script object first count)
  attempt-leads row (tasks.Write object first from count) aim = writes-lead object first count (blocks_of script from count) aim.some (parts_of script object first count) refl
  attempt-leads row (tasks.Recover at) aim =
      let r : Rescue = record { n = script.n; host = host; id = id; row = at } in
      record {
        aim = Anywhere;
        seizes = true;
        leaves = leaves-all script.mode (Aims Anywhere) true id r.n HasRepaired HasRecovered (λ held f e. tt) (begins None) [] (recover_steps r) tt
            (recoveries_keep_phases r) (recoveries-walk r) (fitting script.mode HasRecovered [] (recover_steps r) (recoveries_return r script.mode));
      }
  attempt-leads row (tasks.Rebuild bay) aim =
      let m : Repair = record { n = script.n; id = id; row = record { 0 = row }; target = bay } in
      record {
        aim = Anywhere;
        seizes = false;
        leaves = leaves-all script.mode (Aims Anywhere) false id m.n HasRepaired HoldsNothing (λ held f e. nothing-ends held f.ended e) (begins None) [] (mend_steps m) tt
            (rebuilds_keep_phases m is.devices_least aim.1) (mends-walk m) (fitting script.mode HoldsNothing [] (mend_steps m) (rebuilds_return m script.mode));
      }
  attempt-leads row (tasks.Lose bay) aim = nothing-done
  attempt-leads row (tasks.Fit bay) aim = nothing-done

-- Numbers that a host draws are above all that it has seen.
least-more : (host floor : ℕ) (b : Bool) → nat_lt (floor % 16) host ≡ b → floor < (if b then 16 * (floor / 16) + host else 16 * (floor / 16) + 16 + host)
least-more host floor true e = let below : floor % 16 < host = grind (arith, nat_tests) in omega arith
least-more host floor false e = omega arith

drawn-more : (m seen : ℕ) (spent : Spent) (n : Number) (b : Bool) → seen < m → ok_or (if b then Some (number m) else None) spent ≡ Ok n → seen < n.0
drawn-more m seen spent n true more e = let same : number m ≡ n = cc in omega (arith, more, ap (λ (x : Number). x.0) same)
drawn-more m seen spent n false more e = absurd (cc)

pub draw-more : (host : HostNo) (seen n : Number) → draw host seen ≡ Ok n → seen.0 < n.0
draw-more host seen n e = drawn-more (least_above host.0 seen.0) seen.0 (record { seen = seen }) n _ (least-more host.0 seen.0 (nat_lt (seen.0 % 16) host.0) refl) e

seen-more : (host : HostNo) (seen : Number) (d : Result Number Spent) → draw host seen ≡ d → seen.0 ≤ (seen_drawn seen d).0
seen-more host seen (Ok n) e = let h = draw-more host seen n e in omega (arith, h)
seen-more host seen (Err spent) e = omega arith

pub settled-more : (host : HostNo) (seen : Number) (s : Steps Finish) → seen.0 ≤ (settled host seen s).seen.0
settled-more host seen (Asks e t c k) = omega arith
settled-more host seen (Draws k) =
    let one = seen-more host seen (draw host seen) refl in
    let rest = settled-more host (seen_drawn seen (draw host seen)) (k (draw host seen)) in
    omega (arith, one, rest)
settled-more host seen (Ends f) = omega arith

-- Slots that are held
abbrev pub on : BayNo → RowNo → phases.Slot
on bay row = record { bay = bay; row = row }

abbrev pub Holds : phases.Slot → List Holding → Type 0
Holds slot [] = ⊥
Holds slot (h ∷ hs) = (phases.is_slot h.slot slot ≡ true) ⊎ Holds slot hs

own-slot : (slot : phases.Slot) → phases.is_slot slot slot ≡ true
own-slot slot = grind (arith, nat_tests)

not-slot : (x slot other : phases.Slot) → phases.is_slot x slot ≡ true → phases.is_slot slot other ≡ false → phases.is_slot x other ≡ false
not-slot x slot other e f = grind (arith, nat_tests)

claimed-holds : (slot new : phases.Slot) (g : Option Grant) (held : List Holding) → Holds slot held → Holds slot (claimed new g held)
claimed-holds slot new None held h = h
claimed-holds slot new (Some grant) held h = inr h

pub claimed-new : (slot : phases.Slot) (g : Option Grant) (held : List Holding) → IsSome g → Holds slot (claimed slot g held)
claimed-new slot None held some = absurd (let bad : false ≡ true = some in cc)
claimed-new slot (Some grant) held some = inl (own-slot slot)

shared-holds : (mode : Mode) (slot new : phases.Slot) (g : Option Grant) (held : List Holding) → Holds slot held → Holds slot (shared mode new g held)
shared-holds Lock slot new g held h = claimed-holds slot new g held h
shared-holds Order slot new g held h = h

without-holds : (slot other : phases.Slot) (held : List Holding) → phases.is_slot slot other ≡ false → Holds slot held → Holds slot (without_slot other held)
without-holds slot other [] apart h = h
without-holds slot other (x ∷ xs) apart h = by (phases.is_slot x.slot other) refl h (λ i. without-holds slot other xs apart i)
  where
    by : (b : Bool) → phases.is_slot x.slot other ≡ b → Holds slot (x ∷ xs) → (Holds slot xs → Holds slot (without_slot other xs)) → Holds slot (if not b then x ∷ without_slot other xs else without_slot other xs)
    by false e (inl same) more = inl same
    by false e (inr i) more = inr (more i)
    by true e (inl same) more = let bad : true ≡ false = sym e ∙ not-slot x.slot slot other same apart in absurd (cc)
    by true e (inr i) more = more i

marked-same : (slot other : phases.Slot) (h : Holding) → phases.is_slot h.slot slot ≡ true → phases.is_slot (mark_failed other h).slot slot ≡ true
marked-same slot other h e = by (phases.is_slot h.slot other)
  where
    by : (b : Bool) → phases.is_slot (if b then record h { failed = true } else h).slot slot ≡ true
    by true = e
    by false = e

marked-holds : (slot other : phases.Slot) (held : List Holding) → Holds slot held → Holds slot (map (mark_failed other) held)
marked-holds slot other [] h = h
marked-holds slot other (x ∷ xs) (inl same) = inl (marked-same slot other x same)
marked-holds slot other (x ∷ xs) (inr i) = inr (marked-holds slot other xs i)

-- what a request gives back
abbrev pub GivesPut : PutEnd → Type 0
GivesPut Made = Unit {0}
GivesPut (Unnoted life) = Unit {0}
GivesPut Failed = ⊥

abbrev pub Gives : BayNo → Request → Reply → phases.Slot → Type 0
Gives bay (Share row id want) r slot = ⊥
Gives bay (Claim row id how mask want) r slot = ⊥
Gives bay (Confirm row id want) r slot = ⊥
Gives bay (Put row id n cell) r slot = (phases.is_slot slot (on bay row) ≡ true) × GivesPut (put_end r)
Gives bay (Release row id n) r slot = phases.is_slot slot (on bay row) ≡ true
Gives bay Lose r slot = ⊥
Gives bay Fit r slot = ⊥

without-or : (slot other : phases.Slot) (held : List Holding) → (phases.is_slot slot other ≡ true → ⊥) → Holds slot held → Holds slot (without_slot other held)
without-or slot other held free h = by (phases.is_slot slot other) refl
  where
    by : (b : Bool) → phases.is_slot slot other ≡ b → Holds slot (without_slot other held)
    by true e = absurd (free e)
    by false e = without-holds slot other held e h

put-holds : (slot other : phases.Slot) (p : PutEnd) (held : List Holding) → ((phases.is_slot slot other ≡ true) × GivesPut p → ⊥) → Holds slot held → Holds slot (after_put other p held)
put-holds slot other Made held free h = without-or slot other held (λ e. free (e, tt)) h
put-holds slot other (Unnoted life) held free h = without-or slot other held (λ e. free (e, tt)) h
put-holds slot other Failed held free h = marked-holds slot other held h

pub after-holds : (mode : Mode) (slot : phases.Slot) (held : List Holding) (bay : BayNo) (what : Request) (r : Reply) → (Gives bay what r slot → ⊥) → Holds slot held →
    Holds slot (held_after mode held bay what r)
after-holds mode slot held bay (Share row id want) r free h = shared-holds mode slot (on bay row) (grant_of r) held h
after-holds mode slot held bay (Claim row id how mask want) r free h = claimed-holds slot (on bay row) (grant_of r) held h
after-holds mode slot held bay (Confirm row id want) r free h = h
after-holds mode slot held bay (Put row id n cell) r free h = put-holds slot (on bay row) (put_end r) held free h
after-holds mode slot held bay (Release row id n) r free h = without-or slot (on bay row) held free h
after-holds mode slot held bay Lose r free h = h
after-holds mode slot held bay Fit r free h = h
