-- An attempt in hand keeps its phases: what its calls have done so far, and what it may ask next.
use Rattle.std.proofs.Common.{◌≡◌, refl, sym, ap, subst, ◌∙◌, ℕ, ◌≤◌, ◌-◌, eqb, true, false, if◌then◌else◌, List, [], ◌∷◌, Option, Some, None, Result, Ok, Err, inl, inr, arith}
use Rattle.std.specs.List.{AllByRecursion, IsDistinct}
use Rattle.std.proofs.lemmas.Bool.{eq-eqb}
use Rattle.std.proofs.lemmas.Map.Keys.{IsDistinct-head, IsDistinct-tail}
use Rattle.raid_base.specs.declared.numbers.BayNo.{BayNo}
use Rattle.raid_base.specs.declared.numbers.HostNo.{HostNo}
use Rattle.raid_base.specs.declared.numbers.RowNo.{RowNo}
use Rattle.raid_base.specs.declared.numbers.Number.{Number}
use Rattle.raid_base.specs.declared.numbers.Spent.{Spent}
use Rattle.raid_base.specs.declared.names.Name.{Name}
use Rattle.raid_base.specs.declared.messages.Call.{Call}
use Rattle.raid_base.specs.declared.messages.Errand.{Errand}
use Rattle.raid_base.specs.declared.messages.Reply.{Reply}
use Rattle.raid_base.specs.declared.messages.Request.{Request}
use Rattle.raid_base.specs.declared.messages.Request.TheVariants.{Share, Claim, Confirm, Put, Release, Lose, Fit}
use Rattle.raid_base.specs.declared.jobs.Task.{Task}
use Rattle.raid_base.specs.declared.jobs.Task.TheVariants as tasks
use Rattle.raid_base.specs.declared.jobs.RowPart.{RowPart}
use Rattle.raid_base.specs.declared.jobs.PartsFault.{PartsFault}
use Rattle.raid_base.specs.Numbers.{draw, seen_drawn, sees}
use Rattle.raid_base.specs.Replies.{grant_of}
use Rattle.raid_base.specs.Steps.{Steps, Asks, Draws, Ends, Standing, settled, behind, next_errand, errand_of}
use Rattle.attempts.specs.Taking.{Access, Finish}
use Rattle.attempts.specs.Phases.{Slot, Past, begins, number_of, is_due, grants, has_slot, after, after_asking, after_number, Keeps, HasRow, RowsDiffer, HasOnlyRead, HasWritten, HasRepaired}
use Rattle.attempts.specs.Mending.{mend_steps}
use Rattle.attempts.specs.Recovery.{recover_steps}
use Rattle.attempts.specs.declared.Repair.{Repair}
use Rattle.attempts.specs.declared.Rescue.{Rescue}
use Rattle.attempts.proofs.ReadPhases.{reads_keep_phases}
use Rattle.attempts.proofs.WritePhases.{writes_keep_phases}
use Rattle.attempts.proofs.RepairPhases.{rebuilds_keep_phases, recoveries_keep_phases}
use Rattle.virtual_objects.specs.Objects.{rows_of, parts_found}
use Rattle.virtual_objects.specs.Table.{numbers}
use Rattle.virtual_objects.specs.RowParts.{AreRowParts, part_rows}
use Rattle.virtual_objects.proofs.JobLemmas.{are_parts}
use Rattle.script_text.specs.Script.{Script, parts_of, blocks_of}
use Rattle.script_text.specs.Ranges.{IsScript, IsTask}
use Rattle.histories.specs.Progress.{access, attempt, no_steps, read_of, write_of, Progress}
use Rattle.histories.specs.History.{progress_at}
use Rattle.histories.specs.Hands.{Led, InHand, past_of, Same, Any, Phased, HandsKeepPhases}

weakened : (n : ℕ) (id : Number) (Q : Past → Finish → Type 0) (past : Past) (s : Steps Finish) → Keeps n id Q past s → Keeps n id Any past s
weakened n id Q past (Asks e t c k) h = (h.0, λ r. weakened n id Q (after past e r) (k r) (h.1 r))
weakened n id Q past (Draws k) h = (h.0, h.1, λ d. weakened n id Q (after_number past d) (k d) (h.2 d))
weakened n id Q past (Ends f) h = tt

number-same : (x y : Past) (d : Result Number Spent) → x.phase ≤ 1 → Same x y → Same (after_number x d) y
number-same x y (Ok n) early s = record { claimed = s.claimed; granted = s.granted; confirmed = s.confirmed; put = s.put; phase = let le = s.phase in omega (arith, le, early) }
number-same x y (Err spent) early s = record { claimed = s.claimed; granted = s.granted; confirmed = s.confirmed; put = s.put; phase = let le = s.phase in omega (arith, le, early) }

asking-same : (x y : Past) (bay : BayNo) (what : Request) (r : Reply) → Same x y → Same (after_asking x bay what r) (after_asking y bay what r)
asking-same x y bay (Share row id want) r s = s
asking-same x y bay (Claim row id how mask want) r s = record {
  claimed = ap (λ (xs : List Slot). record { bay = bay; row = row } ∷ xs) s.claimed;
  granted = ap (λ (xs : List Slot). grants (grant_of r) (record { bay = bay; row = row }) xs) s.granted;
  confirmed = s.confirmed;
  put = s.put;
  phase = s.phase;
}
asking-same x y bay (Confirm row id want) r s = record {
  claimed = s.claimed;
  granted = s.granted;
  confirmed = ap (λ (xs : List Slot). if is_due (has_slot (record { bay = bay; row = row }) xs) r then row ∷ x.confirmed else x.confirmed) s.granted
      ∙ ap (λ (rows : List RowNo). if is_due (has_slot (record { bay = bay; row = row }) y.granted) r then row ∷ rows else rows) s.confirmed;
  put = s.put;
  phase = omega arith;
}
asking-same x y bay (Put row id n cell) r s = record {
  claimed = s.claimed;
  granted = s.granted;
  confirmed = s.confirmed;
  put = ap (λ (xs : List Slot). record { bay = bay; row = row } ∷ xs) s.put;
  phase = omega arith;
}
asking-same x y bay (Release row id n) r s = record { claimed = s.claimed; granted = s.granted; confirmed = s.confirmed; put = s.put; phase = omega arith }
asking-same x y bay Lose r s = s
asking-same x y bay Fit r s = s

module _ (n : ℕ) (id : Number) (host : HostNo) where
  settled-phased : (seen : Number) (calls : List Call) (past : Past) (s : Steps Finish) → Keeps n id Any past s → Same past (past_of calls) → Phased n id calls (settled host seen s).steps
  settled-phased seen calls past (Asks e t c k) h same = record { past = past; keeps = h; same = same }
  settled-phased seen calls past (Draws k) h same =
      let d : Result Number Spent = draw host seen in
      settled-phased (seen_drawn seen d) calls (after_number past d) (k d) (h.2 d) (number-same past (past_of calls) d h.1 same)
  settled-phased seen calls past (Ends f) h same = record { past = past; keeps = tt; same = same }

  told-phased : (seen : Number) (calls : List Call) (call : Call) (s : Steps Finish) → Phased n id calls s → next_errand s ≡ Some (errand_of call) →
      Phased n id (call ∷ calls) (settled host seen (behind s call.answer.reply)).steps
  told-phased seen calls call (Asks e t c k) h asked =
      let is : e ≡ errand_of call = cc in
      let r : Reply = call.answer.reply in
      settled-phased seen (call ∷ calls) (after h.past (errand_of call) r) (k r)
      (subst (λ (x : Errand). Keeps n id Any (after h.past x r) (k r)) is (h.keeps.1 r))
      (asking-same h.past (past_of calls) call.bay call.ask.what r h.same)
  told-phased seen calls call (Draws k) h asked = absurd (cc)
  told-phased seen calls call (Ends f) h asked = absurd (cc)

  led-phased : (start : Standing Finish) (calls : List Call) (now : Standing Finish) → Phased n id [] start.steps → Led host start calls now → Phased n id calls now.steps
  led-phased start [] now h led = subst (λ (x : Standing Finish). Phased n id [] x.steps) led h
  led-phased start (call ∷ earlier) now h (before, led, asked, fit, later) =
      subst (λ (x : Standing Finish). Phased n id (call ∷ earlier) x.steps) later
      (told-phased (sees before.seen call.answer.reply) earlier call before.steps (led-phased start earlier before h led) asked)

-- the rows of a job differ
row-apart : (row : RowNo) (parts : List RowPart) → AllByRecursion (λ y. eqb row.0 y ≡ false) (numbers (part_rows parts)) → HasRow row parts → ⊥
row-apart row [] h has = has
row-apart row (part ∷ parts) h (inl same) =
    let own : eqb row.0 part.row.0 ≡ true = eq-eqb row.0 part.row.0 (ap (λ (r : RowNo). r.0) (sym same)) in
    let bad : true ≡ false = sym own ∙ h.0 in
    cc
row-apart row (part ∷ parts) h (inr has) = row-apart row parts h.1 has

pub rows-differ : (parts : List RowPart) → IsDistinct eqb (numbers (part_rows parts)) → RowsDiffer parts
rows-differ [] h = tt
rows-differ (part ∷ parts) h =
    (row-apart part.row parts (IsDistinct-head eqb part.row.0 (numbers (part_rows parts)) h), rows-differ parts (IsDistinct-tail eqb part.row.0 (numbers (part_rows parts)) h))

module _ (script : Script) (is : IsScript script) (host : HostNo) (id : Number) where
  pub found-parts : (object : Name) (first count : ℕ) (parts : List RowPart) → 1 ≤ count → parts_of script object first count ≡ Ok parts → AreRowParts script.n parts
  found-parts object first count parts some ok = by (rows_of script.objects object) refl ok
    where
      by : (found : Option (List RowNo)) → rows_of script.objects object ≡ found → parts_found (script.n - 1) first count found ≡ Ok parts → AreRowParts script.n parts
      by None none ok = absurd (cc)
      by (Some rows) found ok =
          (are_parts script.n first count script.objects object rows parts (let h = is.devices_least in omega arith) some found is.objects.rows_apart ok).sound

  begin-phased : (past : Past) (s : Steps Finish) → past.claimed ≡ [] → past.granted ≡ [] → past.confirmed ≡ [] → past.put ≡ [] → (seen : Number) → Keeps script.n id Any past s →
      Phased script.n id [] (settled host seen s).steps
  begin-phased past s claimed granted confirmed put seen h =
      settled-phased script.n id host seen [] past s h (record { claimed = claimed; granted = granted; confirmed = confirmed; put = put; phase = omega arith })

  reads-phased : (r : Result (List RowPart) PartsFault) → Phased script.n id [] (settled host id (read_of script id r)).steps
  reads-phased (Ok parts) =
      let a : Access = access script id parts [] in
      begin-phased (begins (number_of a.mode a.id)) (read_of script id (Ok parts)) refl refl refl refl id (weakened a.n a.id HasOnlyRead (begins (number_of a.mode a.id)) (read_of script id (Ok parts)) (reads_keep_phases a))
  reads-phased (Err fault) = begin-phased (begins None) no_steps refl refl refl refl id tt

  writes-phased : (object : Name) (first count : ℕ) (blocks : List (List ℕ)) → 1 ≤ count → (r : Result (List RowPart) PartsFault) → parts_of script object first count ≡ r →
      Phased script.n id [] (settled host id (write_of script id blocks r)).steps
  writes-phased object first count blocks some (Ok parts) ok =
      let a : Access = access script id parts blocks in
      let sound = found-parts object first count parts some ok in
      begin-phased (begins (number_of a.mode a.id)) (write_of script id blocks (Ok parts)) refl refl refl refl id
      (weakened a.n a.id HasWritten (begins (number_of a.mode a.id)) (write_of script id blocks (Ok parts)) (writes_keep_phases a is.devices_least (rows-differ parts sound.rows_apart)))
  writes-phased object first count blocks some (Err fault) ok = begin-phased (begins None) no_steps refl refl refl refl id tt

  pub attempt-phased : (row : ℕ) (task : Task) → IsTask script host task → Phased script.n id [] (settled host id (attempt script host id row task)).steps
  attempt-phased row (tasks.Read object first count) aim = reads-phased (parts_of script object first count)
  attempt-phased row (tasks.Write object first from count) aim = writes-phased object first count (blocks_of script from count) aim.some (parts_of script object first count) refl
  attempt-phased row (tasks.Recover at) aim =
      let r : Rescue = record { n = script.n; host = host; id = id; row = at } in
      begin-phased (begins None) (recover_steps r) refl refl refl refl id (weakened r.n r.id HasRepaired (begins None) (recover_steps r) (recoveries_keep_phases r))
  attempt-phased row (tasks.Rebuild bay) aim =
      let m : Repair = record { n = script.n; id = id; row = record { 0 = row }; target = bay } in
      begin-phased (begins None) (mend_steps m) refl refl refl refl id (weakened m.n m.id HasRepaired (begins None) (mend_steps m) (rebuilds_keep_phases m is.devices_least aim.1))
  attempt-phased row (tasks.Lose bay) aim = begin-phased (begins None) no_steps refl refl refl refl id tt
  attempt-phased row (tasks.Fit bay) aim = begin-phased (begins None) no_steps refl refl refl refl id tt

pub phased : (script : Script) → IsScript script → (host : HostNo) (p : Progress) (steps : Steps Finish) → (h : InHand script host p.jobs p.row p.seen p.calls steps) → Phased script.n h.id p.calls steps
phased script is host p steps h =
    led-phased script.n h.id host (settled host h.id (attempt script host h.id p.row h.task)) p.calls (record { seen = p.seen; steps = steps }) (attempt-phased script is host h.id p.row h.task h.is) h.led

pub hands_keep_phases : HandsKeepPhases
hands_keep_phases script history host steps is along h = phased script is host (progress_at script host history) steps h
