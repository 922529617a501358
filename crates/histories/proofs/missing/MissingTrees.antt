-- An attempt asks for rows alone, and a rebuild that has mended its row has filled the slot, or has seen a cell in it.
use Rattle.std.proofs.Common.{◌≡◌, ◌⊎◌, inl, inr, ℕ, zero, suc, ◌-◌, ◌*◌, ◌≤◌, ◌&&◌, ◌||◌, Bool, true, false, if◌then◌else◌, is_some, option_map, List, [], ◌∷◌, ◌++◌, Option, Some, None, Result, Ok, Err, refl, ap, subst, ◌∙◌, arith}
use Rattle.std.proofs.lemmas.Bool.{eq-eqb}
use Rattle.raid_base.specs.declared.numbers.BayNo.{BayNo}
use Rattle.raid_base.specs.declared.numbers.HostNo.{HostNo}
use Rattle.raid_base.specs.declared.numbers.RowNo.{RowNo}
use Rattle.raid_base.specs.declared.numbers.Number.{Number}
use Rattle.raid_base.specs.declared.numbers.Spent.{Spent}
use Rattle.raid_base.specs.declared.names.Name.{Name}
use Rattle.raid_base.specs.declared.messages.How.TheVariants.{Mend}
use Rattle.raid_base.specs.declared.messages.Grant.{Grant}
use Rattle.raid_base.specs.declared.messages.Reply.{Reply}
use Rattle.raid_base.specs.declared.messages.Request.{Request}
use Rattle.raid_base.specs.declared.messages.Request.TheVariants.{Share, Claim, Confirm, Put, Release, Lose, Fit}
use Rattle.raid_base.specs.declared.messages.Errand.{Errand}
use Rattle.raid_base.specs.declared.jobs.RowPart.{RowPart}
use Rattle.raid_base.specs.declared.jobs.PartsFault.{PartsFault}
use Rattle.raid_base.specs.declared.jobs.Cause.{Cause}
use Rattle.raid_base.specs.declared.jobs.Cause.TheVariants as causes
use Rattle.raid_base.specs.declared.jobs.Ended.{Ended}
use Rattle.raid_base.specs.declared.jobs.Ended.TheVariants as ends
use Rattle.raid_base.specs.declared.jobs.Task.{Task}
use Rattle.raid_base.specs.declared.jobs.Task.TheVariants as tasks
use Rattle.raid_base.specs.Numbers.{draw, seen_drawn, sees}
use Rattle.raid_base.specs.Replies.{grant_of, is_held, is_done}
use Rattle.raid_base.specs.Steps.{Steps, Asks, Draws, Ends, bind, go_on, next_errand, behind, settled, told, Through, Stopped, run}
use Rattle.stripe_layout.specs.Placement.{parity_bay, parity_first}
use Rattle.virtual_objects.specs.Objects.{rows_of, parts_found}
use Rattle.virtual_objects.specs.RowParts.{ArePartsOf}
use Rattle.virtual_objects.proofs.JobLemmas.{are_parts}
use Rattle.slot_rules.specs.Serving.{row_of}
use Rattle.slot_rules.specs.Laws.{is_row}
use Rattle.attempts.specs.declared.Repair.{Repair}
use Rattle.attempts.specs.declared.Rescue.{Rescue}
use Rattle.attempts.specs.declared.Hold.{Hold}
use Rattle.attempts.specs.Taking.{Access, Finish, claims, confirm}
use Rattle.attempts.specs.Releases.{release, releases, released_steps, refused_steps}
use Rattle.attempts.specs.Puts.{put}
use Rattle.attempts.specs.Mending.{is_at, is_bare, good_grant, hold_of, with_hold, mending, mend_releases, without_target, is_shown, mended_cell, put_cause, mend_putting, mend_put, mend_numbered, mend_drawn, mend_confirming, mend_confirmed, mend_claimed, mend_steps}
use Rattle.attempts.specs.Recovery.{recover_steps}
use Rattle.attempts.specs.Discipline.{IsNumber, IsDrawn, IsWithin, IsRecoveryEnd, IsRecoveryFinish, Obeys}
use Rattle.attempts.specs.Finishes.{Finishes, IsReadEnd, unit_count}
use Rattle.attempts.specs.Phases.{Past, MayAsk, after, after_number, Keeps, begins, number_of, HasOnlyRead, WriteEnds, HasWritten, HasRepaired, RowsDiffer}
use Rattle.attempts.proofs.ReadFinishes.{reads_finish}
use Rattle.attempts.proofs.RepairObeys.{recoveries_keep_bounds}
use Rattle.attempts.proofs.ReadPhases.{reads_keep_phases}
use Rattle.attempts.proofs.WritePhases.{writes_keep_phases}
use Rattle.attempts.proofs.RepairPhases.{recoveries_keep_phases}
use Rattle.script_text.specs.Script.{Script, parts_of, blocks_of}
use Rattle.script_text.specs.Ranges.{IsScript, IsTask}
use Rattle.histories.specs.Progress.{access, attempt, read_of, write_of}
use Rattle.histories.proofs.bounds.BoundsTries.{draw-within}
use Rattle.histories.proofs.hands.PhasedHands.{rows-differ}
use Rattle.histories.proofs.missing.MissingSlots.{has_cell, is_filled}

-- Truth values
pub or-left : (a b : Bool) → a ≡ true → (a || b) ≡ true
or-left true b h = refl
or-left false b h = absurd (let bad : false ≡ true = h in cc)

pub or-right : (a b : Bool) → b ≡ true → (a || b) ≡ true
or-right true b h = refl
or-right false b h = h

pub or-either : (a b : Bool) → (a || b) ≡ true → (a ≡ true) ⊎ (b ≡ true)
or-either true b h = inl refl
or-either false b h = inr h

pub and-all : (a b c : Bool) → a ≡ true → b ≡ true → c ≡ true → (a && (b && c)) ≡ true
and-all a b c x y z = rw x (rw y z)

-- the slot is filled by this reply
abbrev pub fills : BayNo → RowNo → Errand → Reply → Bool
fills at row errand reply = is_at errand.bay at && (is_row row (row_of errand.request) && is_filled errand.request reply)

abbrev pub fills_none : Errand → Reply → Bool
fills_none errand reply = false

-- Whatever the replies and the numbers drawn: each errand is of a row, and where it ends as mended the slot was filled.
abbrev pub Mends : (Errand → Reply → Bool) → Bool → Steps Finish → Type 0
Mends fill filled (Ends f) = f.ended ≡ ends.Mended → filled ≡ true
Mends fill filled (Draws k) = (d : Result Number Spent) → IsDrawn d → Mends fill filled (k d)
Mends fill filled (Asks e s c k) = (is_some (row_of e.request) ≡ true) × ((r : Reply) → Mends fill (filled || fill e r) (k r))

pub settled-mends : (fill : Errand → Reply → Bool) (filled : Bool) (host : HostNo) (seen : Number) (s : Steps Finish) → Mends fill filled s → Mends fill filled (settled host seen s).steps
settled-mends fill filled host seen (Asks e t c k) h = h
settled-mends fill filled host seen (Draws k) h =
    settled-mends fill filled host (seen_drawn seen (draw host seen)) (k (draw host seen)) (h (draw host seen) (draw-within host seen))
settled-mends fill filled host seen (Ends f) h = h

pub asked-mends : (fill : Errand → Reply → Bool) (filled : Bool) (steps : Steps Finish) (e : Errand) (r : Reply) → Mends fill filled steps → next_errand steps ≡ Some e →
    (is_some (row_of e.request) ≡ true) × Mends fill (filled || fill e r) (behind steps r)
asked-mends fill filled (Asks e t c k) x r h is =
    let same : e ≡ x = cc in
    subst (λ (y : Errand). (is_some (row_of y.request) ≡ true) × Mends fill (filled || fill y r) (k r)) same (h.0, h.1 r)
asked-mends fill filled (Draws k) x r h is = absurd (cc)
asked-mends fill filled (Ends f) x r h is = absurd (cc)

pub told-mends : (fill : Errand → Reply → Bool) (filled : Bool) (host : HostNo) (seen : Number) (steps : Steps Finish) (e : Errand) (r : Reply) → Mends fill filled steps → next_errand steps ≡ Some e →
    (is_some (row_of e.request) ≡ true) × Mends fill (filled || fill e r) (told host (record { seen = seen; steps = steps }) r).steps
told-mends fill filled host seen steps e r h is =
    let next = asked-mends fill filled steps e r h is in
    (next.0, settled-mends fill (filled || fill e r) host (sees seen r) (behind steps r) next.1)

-- Rebuilds
shown-more : (t : BayNo) (holds : List Hold) (hold : Hold) → is_shown t (holds ++ hold ∷ []) ≡ true →
    (is_shown t holds ≡ true) ⊎ ((is_at hold.bay t ≡ true) × (is_some hold.grant.cell ≡ true))
shown-more t [] hold h = by (is_at hold.bay t) refl h
  where
    by : (b : Bool) → is_at hold.bay t ≡ b → (if b then is_some hold.grant.cell else false) ≡ true →
        (false ≡ true) ⊎ ((is_at hold.bay t ≡ true) × (is_some hold.grant.cell ≡ true))
    by true e s = inr (e, s)
    by false e s = inl s
shown-more t (x ∷ holds) hold h = by (is_at x.bay t) h (shown-more t holds hold)
  where
    by : (b : Bool) → (if b then is_some x.grant.cell else is_shown t (holds ++ hold ∷ [])) ≡ true →
        (is_shown t (holds ++ hold ∷ []) ≡ true → (is_shown t holds ≡ true) ⊎ ((is_at hold.bay t ≡ true) × (is_some hold.grant.cell ≡ true))) →
        ((if b then is_some x.grant.cell else is_shown t holds) ≡ true) ⊎ ((is_at hold.bay t ≡ true) × (is_some hold.grant.cell ≡ true))
    by true s more = inl s
    by false s more = more s

good-hold : (m : Repair) (bay : BayNo) (g : Option Grant) (hold : Hold) → good_grant m bay g ≡ Some hold → (bay ≡ hold.bay) × (has_cell g ≡ is_some hold.grant.cell)
good-hold m bay None hold e = absurd (cc)
good-hold m bay (Some grant) hold e = by (is_bare m bay grant) e
  where
    by : (b : Bool) → (if b then None else Some (record { bay = bay; grant = grant })) ≡ Some hold → (bay ≡ hold.bay) × (is_some grant.cell ≡ is_some hold.grant.cell)
    by true s = absurd (cc)
    by false s =
        let same : record { bay = bay; grant = grant } ≡ hold = cc in
        (ap (λ (h : Hold). h.bay) same, ap (λ (h : Hold). is_some h.grant.cell) same)

own-row : (row : RowNo) → is_row row (Some row) ≡ true
own-row row = eq-eqb row.0 row.0 refl

own-bay : (bay : BayNo) → is_at bay bay ≡ true
own-bay bay = eq-eqb bay.0 bay.0 refl

module _ (m : Repair) where
  abbrev fill : Errand → Reply → Bool
  fill e r = fills m.target m.row e r

  released-mends : (bays : List BayNo) (last : Ended) (filled : Bool) → (last ≡ ends.Mended → filled ≡ true) →
      Mends fill filled (released_steps (releases m.id m.row None bays) last)
  released-mends [] last filled is = is
  released-mends (bay ∷ bays) last filled is = (
    refl,
    λ r. released-mends bays last (filled || fill (release m.id m.row None bay) r) (λ e. or-left filled (fill (release m.id m.row None bay) r) (is e)),
  )

  refused-mends : (holds : List Hold) (cause : Cause) (filled : Bool) → Mends fill filled (refused_steps (mend_releases m holds) cause)
  refused-mends holds cause filled = released-mends _ (ends.Refused cause) filled (λ e. absurd (cc))

  ended-mends : (holds : List Hold) (filled : Bool) → filled ≡ true → Mends fill filled (released_steps (mend_releases m holds) ends.Mended)
  ended-mends holds filled is = released-mends _ ends.Mended filled (λ e. is)

  numbered-mends : (holds : List Hold) (n : Number) (shown filled : Bool) → (shown ≡ true → filled ≡ true) → Mends fill filled (mend_numbered m holds n shown)
  numbered-mends holds n true filled is = ended-mends holds filled (is refl)
  numbered-mends holds n false filled is = (refl, λ r. by r (is_done r) refl)
    where
      e : Errand
      e = put m.id m.row n (mended_cell m holds) m.target

      by : (r : Reply) (b : Bool) → is_done r ≡ b →
          Mends fill (filled || fill e r) (bind (go_on (if b then Some tt else None) (λ u. run mend_putting [] u) (Ends (Stopped tt e r))) (mend_put m holds))
      by r true done =
          ended-mends (without_target m holds) (filled || fill e r)
          (or-right filled (fill e r) (and-all (is_at m.target m.target) (is_row m.row (Some m.row)) (is_done r) (own-bay m.target) (own-row m.row) done))
      by r false done = refused-mends holds (put_cause m.row e r) (filled || fill e r)

  drawn-mends : (holds : List Hold) (filled : Bool) → (is_shown m.target holds ≡ true → filled ≡ true) → (d : Result Number Spent) → Mends fill filled (mend_drawn m holds d)
  drawn-mends holds filled is (Err spent) = refused-mends holds (causes.Spent spent.seen) filled
  drawn-mends holds filled is (Ok n) = numbered-mends holds n (is_shown m.target holds) filled is

  claimed-mends : (holds : List Hold) (filled : Bool) → (is_shown m.target holds ≡ true → filled ≡ true) → Mends fill filled (mend_claimed m (Through holds))
  claimed-mends holds filled is = (refl, λ r. by r (is_held r))
    where
      e : Errand
      e = confirm m.id m.row false (parity_bay m.n m.row)

      by : (r : Reply) (b : Bool) →
          Mends fill (filled || fill e r) (bind (go_on (if b then Some tt else None) (λ u. run mend_confirming [] u) (Ends (Stopped tt e r))) (mend_confirmed m holds))
      by r true = λ d drawn. drawn-mends holds (filled || fill e r) (λ s. or-left filled (fill e r) (is s)) d
      by r false = refused-mends holds _ (filled || fill e r)

  claims-mend : (bays : List BayNo) (holds : List Hold) (filled : Bool) → (is_shown m.target holds ≡ true → filled ≡ true) →
      Mends fill filled (bind (run (mending m) (claims m.id m.row Mend true bays) holds) (mend_claimed m))
  claims-mend [] holds filled is = claimed-mends holds filled is
  claims-mend (bay ∷ bays) holds filled is = (refl, λ r. by (λ hs b i. claims-mend bays hs b i) r (hold_of m bay r) refl)
    where
      e : Errand
      e = record { bay = bay; request = Claim m.row m.id Mend 0 true }

      by : ((hs : List Hold) (b : Bool) → (is_shown m.target hs ≡ true → b ≡ true) → Mends fill b (bind (run (mending m) (claims m.id m.row Mend true bays) hs) (mend_claimed m))) →
          (r : Reply) (found : Option Hold) → hold_of m bay r ≡ found →
          Mends fill (filled || fill e r)
          (bind (go_on (option_map (λ (hold : Hold). holds ++ hold ∷ []) found) (λ b. run (mending m) (claims m.id m.row Mend true bays) b) (Ends (Stopped holds e r))) (mend_claimed m))
      by more r None found = refused-mends (with_hold holds bay (grant_of r)) _ (filled || fill e r)
      by more r (Some hold) found = more (holds ++ hold ∷ []) (filled || fill e r) (λ s. seen (shown-more m.target holds hold s))
        where
          good : (bay ≡ hold.bay) × (has_cell (grant_of r) ≡ is_some hold.grant.cell)
          good = good-hold m bay (grant_of r) hold found

          seen : (is_shown m.target holds ≡ true) ⊎ ((is_at hold.bay m.target ≡ true) × (is_some hold.grant.cell ≡ true)) → (filled || fill e r) ≡ true
          seen (inl s) = or-left filled (fill e r) (is s)
          seen (inr s) =
              or-right filled (fill e r)
              (and-all (is_at bay m.target) (is_row m.row (Some m.row)) (has_cell (grant_of r)) (ap (λ (b : BayNo). is_at b m.target) good.0 ∙ s.0) (own-row m.row) (good.1 ∙ s.1))

  pub rebuild-mends : Mends fill false (mend_steps m)
  rebuild-mends = claims-mend (parity_first m.n m.row) [] false (λ s. s)

-- What other attempts ask
may-rows : (n : ℕ) (id : Number) (past : Past) (bay : BayNo) (what : Request) → MayAsk n id past bay what → is_some (row_of what) ≡ true
may-rows n id past bay (Share row by want) may = refl
may-rows n id past bay (Claim row by how mask want) may = refl
may-rows n id past bay (Confirm row by want) may = refl
may-rows n id past bay (Put row by number cell) may = refl
may-rows n id past bay (Release row by number) may = refl
may-rows n id past bay Lose may = absurd may
may-rows n id past bay Fit may = absurd may

no-write : (past : Past) (last : Ended) → WriteEnds past last → last ≡ ends.Mended → ⊥
no-write past last w e = subst (WriteEnds past) e w

no-read : (count : ℕ) (f : Finish) → IsReadEnd count f.contents f.ended → f.ended ≡ ends.Mended → ⊥
no-read count f is e = subst (IsReadEnd count f.contents) e is

no-recovery : (n : ℕ) (f : Finish) → IsRecoveryFinish n f → f.ended ≡ ends.Mended → ⊥
no-recovery n f is e = subst (IsRecoveryEnd n) e is.ended

write-mends : (n : ℕ) (id : Number) (past : Past) (s : Steps Finish) → Keeps n id HasWritten past s → Mends fills_none false s
write-mends n id past (Ends f) h = λ e. absurd (no-write past f.ended h.ended e)
write-mends n id past (Draws k) h = λ d drawn. write-mends n id (after_number past d) (k d) (h.2 d)
write-mends n id past (Asks e s c k) h = (may-rows n id past e.bay e.request h.0, λ r. write-mends n id (after past e r) (k r) (h.1 r))

read-mends : (n : ℕ) (id : Number) (count : ℕ) (past : Past) (s : Steps Finish) → Keeps n id HasOnlyRead past s → Finishes (λ (f : Finish). IsReadEnd count f.contents f.ended) s →
    Mends fills_none false s
read-mends n id count past (Ends f) h g = λ e. absurd (no-read count f g e)
read-mends n id count past (Draws k) h g = λ d drawn. read-mends n id count (after_number past d) (k d) (h.2 d) (g d)
read-mends n id count past (Asks e s c k) h g = (may-rows n id past e.bay e.request h.0, λ r. read-mends n id count (after past e r) (k r) (h.1 r) (g.1 r))

recovery-mends : (P : Errand → Type 0) (n : ℕ) (id : Number) (most : ℕ) (past : Past) (s : Steps Finish) → Keeps n id HasRepaired past s → Obeys P (IsRecoveryFinish n) most s →
    Mends fills_none false s
recovery-mends P n id most past (Ends f) h g = λ e. absurd (no-recovery n f g e)
recovery-mends P n id most past (Draws k) h g = λ d drawn. recovery-mends P n id most (after_number past d) (k d) (h.2 d) (g d drawn)
recovery-mends P n id zero past (Asks e s c k) h g = absurd g
recovery-mends P n id (suc most) past (Asks e s c k) h g =
    (may-rows n id past e.bay e.request h.0, λ r. recovery-mends P n id most (after past e r) (k r) (h.1 r) (g.1 r))

-- what fills the slot that a task is to mend
abbrev pub fill_of : Task → ℕ → Errand → Reply → Bool
fill_of (tasks.Read object first count) row = fills_none
fill_of (tasks.Write object first from count) row = fills_none
fill_of (tasks.Recover at) row = fills_none
fill_of (tasks.Lose bay) row = fills_none
fill_of (tasks.Fit bay) row = fills_none
fill_of (tasks.Rebuild bay) row = fills bay (record { 0 = row })

module _ (script : Script) (is : IsScript script) (host : HostNo) (id : Number) (drawn : IsNumber id) where
  found-differ : (object : Name) (first count : ℕ) (parts : List RowPart) → 1 ≤ count → (found : Option (List RowNo)) →
      rows_of script.objects object ≡ found → parts_found (script.n - 1) first count found ≡ Ok parts → RowsDiffer parts
  found-differ object first count parts some None none ok = absurd (cc)
  found-differ object first count parts some (Some rows) found ok =
      let are : ArePartsOf script.n script.objects object first count parts =
      are_parts script.n first count script.objects object rows parts (let h = is.devices_least in omega arith) some found is.objects.rows_apart ok in
      rows-differ parts are.sound.rows_apart

  reads-mend : (r : Result (List RowPart) PartsFault) → Mends fills_none false (read_of script id r)
  reads-mend (Ok parts) =
      let a : Access = access script id parts [] in
      read-mends a.n a.id (unit_count a.n a.parts) (begins (number_of a.mode a.id)) _ (reads_keep_phases a) (reads_finish a)
  reads-mend (Err fault) = λ e. absurd (cc)

  writes-mend : (object : Name) (first count : ℕ) (blocks : List (List ℕ)) → 1 ≤ count → (r : Result (List RowPart) PartsFault) → parts_of script object first count ≡ r →
      Mends fills_none false (write_of script id blocks r)
  writes-mend object first count blocks some (Ok parts) ok =
      let a : Access = access script id parts blocks in
      write-mends a.n a.id (begins (number_of a.mode a.id)) _
      (writes_keep_phases a is.devices_least (found-differ object first count parts some (rows_of script.objects object) refl ok))
  writes-mend object first count blocks some (Err fault) ok = λ e. absurd (cc)

  -- an attempt of a task
  pub attempt-mends : (row : ℕ) (task : Task) → IsTask script host task → Mends (fill_of task row) false (attempt script host id row task)
  attempt-mends row (tasks.Read object first count) aim = reads-mend (parts_of script object first count)
  attempt-mends row (tasks.Write object first from count) aim = writes-mend object first count (blocks_of script from count) aim.some (parts_of script object first count) refl
  attempt-mends row (tasks.Recover at) aim =
      let r : Rescue = record { n = script.n; host = host; id = id; row = at } in
      recovery-mends (IsWithin script.n script.rows) script.n id (4 * script.n) (begins None) (recover_steps r) (recoveries_keep_phases r)
      (recoveries_keep_bounds r script.rows (record { least = is.devices_least; most = is.devices_most; id = drawn; row = aim }))
  attempt-mends row (tasks.Rebuild bay) aim = rebuild-mends (record { n = script.n; id = id; row = record { 0 = row }; target = bay })
  attempt-mends row (tasks.Lose bay) aim = λ e. absurd (cc)
  attempt-mends row (tasks.Fit bay) aim = λ e. absurd (cc)
