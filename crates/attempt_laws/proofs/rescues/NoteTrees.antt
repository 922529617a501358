-- What a recovery's calls say of the slots that it holds, and that no other attempt seizes.
use Rattle.std.proofs.Common.{◌≡◌, inl, inr, refl, sym, ap, subst, ◌∙◌, ℕ, ◌≤◌, not, Bool, true, false, if◌then◌else◌, List, [], ◌∷◌, map, Option, Some, None, IsSome, Result, Ok, Err, arith}
use Rattle.std.specs.List.{AllByRecursion}
use Rattle.std.proofs.lemmas.Bool.Decides.{nat_tests}
use Rattle.raid_base.specs.declared.numbers.BayNo.{BayNo}
use Rattle.raid_base.specs.declared.numbers.HostNo.{HostNo}
use Rattle.raid_base.specs.declared.numbers.RowNo.{RowNo}
use Rattle.raid_base.specs.declared.numbers.Number.{Number}
use Rattle.raid_base.specs.declared.numbers.Spent.{Spent}
use Rattle.raid_base.specs.declared.names.Name.{Name}
use Rattle.raid_base.specs.declared.messages.Mode.{Mode}
use Rattle.raid_base.specs.declared.messages.How.{How}
use Rattle.raid_base.specs.declared.messages.How.TheVariants.{Plain, Seize, Mend}
use Rattle.raid_base.specs.declared.messages.Errand.{Errand}
use Rattle.raid_base.specs.declared.messages.Grant.{Grant}
use Rattle.raid_base.specs.declared.messages.PutEnd.{PutEnd}
use Rattle.raid_base.specs.declared.messages.PutEnd.TheVariants.{Made, Unnoted, Failed}
use Rattle.raid_base.specs.declared.messages.Reply.{Reply}
use Rattle.raid_base.specs.declared.messages.Reply.TheVariants as replies
use Rattle.raid_base.specs.declared.messages.Request.{Request}
use Rattle.raid_base.specs.declared.messages.Request.TheVariants.{Share, Claim, Confirm, Put, Release, Lose, Fit}
use Rattle.raid_base.specs.declared.messages.Call.{Call}
use Rattle.raid_base.specs.declared.jobs.RowPart.{RowPart}
use Rattle.raid_base.specs.declared.jobs.PartsFault.{PartsFault}
use Rattle.raid_base.specs.declared.jobs.Task.TheVariants as tasks
use Rattle.raid_base.specs.Fits.{fits, fits_put}
use Rattle.raid_base.specs.Numbers.{draw, seen_drawn}
use Rattle.raid_base.specs.Replies.{grant_of, put_end}
use Rattle.raid_base.specs.Steps.{Steps, Asks, Draws, Ends, settled, behind, next_errand}
use Rattle.stripe_layout.specs.Placement.{parity_bay}
use Rattle.attempts.specs.declared.Repair.{Repair}
use Rattle.attempts.specs.declared.Rescue.{Rescue}
use Rattle.attempts.specs.Taking.{Access, Finish}
use Rattle.attempts.specs.Reading.{read_steps}
use Rattle.attempts.specs.Writing.{write_steps}
use Rattle.attempts.specs.Mending.{mend_steps}
use Rattle.attempts.specs.Phases.{Past, begins, number_of, MayAsk, after, after_number, Keeps, HasOnlyRead, HasWritten, HasRepaired, is_slot}
use Rattle.attempts.specs.Phases as phases
use Rattle.attempts.specs.Once.{ClaimsSo, EachClaims}
use Rattle.attempts.specs.Returns.{Holding, without_slot, mark_failed, after_put, claimed, held_after}
use Rattle.attempts.proofs.OnceClaims.{claims_are_of_their_kind}
use Rattle.attempts.proofs.ReadPhases.{reads_keep_phases}
use Rattle.attempts.proofs.WritePhases.{writes_keep_phases}
use Rattle.attempts.proofs.RepairPhases.{rebuilds_keep_phases}
use Rattle.script_text.specs.Script.{Script, parts_of, blocks_of}
use Rattle.script_text.specs.Ranges.{IsScript, IsTask}
use Rattle.histories.specs.Calls.{Happened}
use Rattle.histories.specs.Progress.{access, attempt, read_of, write_of}
use Rattle.histories.proofs.hands.PhasedHands.{found-parts, rows-differ}
use Rattle.attempt_laws.proofs.leftovers.LeftLeaves.{on}
use Rattle.attempt_laws.proofs.rescues.RescueTrees.{held_of, IsOwnAsk}

-- What is held was seized by a claim, or has a put that failed
module _ (r : Rescue) where
  abbrev pub SeizedHere : phases.Slot → Call → Type 0
  SeizedHere slot call = (call.bay ≡ slot.bay) × (mask : ℕ) × (want : Bool) × (call.ask.what ≡ Claim slot.row r.id Seize mask want) × (grant : Grant) × (grant_of call.answer.reply ≡ Some grant) × IsSome grant.seized

  abbrev pub FailedHere : phases.Slot → Call → Type 0
  FailedHere slot call = (call.bay ≡ slot.bay) × (n : Number) × (cell : _) × (call.ask.what ≡ Put slot.row r.id n cell) × (call.answer.reply ≡ replies.Fault)

  pub record IsTold (calls : List Call) (h : Holding) : Type 0 where
    pub seized : h.seized ≡ true → Happened (SeizedHere h.slot) calls
    pub failed : h.failed ≡ true → (h.slot.bay ≡ parity_bay r.n h.slot.row) × Happened (FailedHere h.slot) calls

  told-more : (calls : List Call) (call : Call) (hs : List Holding) → AllByRecursion (IsTold calls) hs → AllByRecursion (IsTold (call ∷ calls)) hs
  told-more calls call [] all = tt
  told-more calls call (h ∷ hs) all = (record { seized = λ e. inr ((all.0).seized e); failed = λ e. (((all.0).failed e).0, inr ((all.0).failed e).1) }, told-more calls call hs all.1)

  told-without : (calls : List Call) (slot : phases.Slot) (hs : List Holding) → AllByRecursion (IsTold calls) hs → AllByRecursion (IsTold calls) (without_slot slot hs)
  told-without calls slot [] all = tt
  told-without calls slot (h ∷ hs) all = by (is_slot h.slot slot) (told-without calls slot hs all.1)
    where
      by : (b : Bool) → AllByRecursion (IsTold calls) (without_slot slot hs) → AllByRecursion (IsTold calls) (if not b then h ∷ without_slot slot hs else without_slot slot hs)
      by true rest = rest
      by false rest = (all.0, rest)

  -- the same slot
  pub slot-same : (x y : phases.Slot) → is_slot x y ≡ true → x ≡ y
  slot-same x y e =
      let b : x.bay.0 ≡ y.bay.0 = grind (arith, nat_tests) in
      let w : x.row.0 ≡ y.row.0 = grind (arith, nat_tests) in
      ap (λ (k : ℕ). let z : phases.Slot = record { bay = record { 0 = k }; row = x.row } in z) b ∙ ap (λ (k : ℕ). let z : phases.Slot = record { bay = y.bay; row = record { 0 = k } } in z) w

  told-failed : (calls : List Call) (call : Call) (slot : phases.Slot) → (slot.bay ≡ parity_bay r.n slot.row) × FailedHere slot call → (hs : List Holding) → AllByRecursion (IsTold calls) hs → AllByRecursion (IsTold (call ∷ calls)) (map (mark_failed slot) hs)
  told-failed calls call slot f [] all = tt
  told-failed calls call slot f (h ∷ hs) all = (by (is_slot h.slot slot) refl, told-failed calls call slot f hs all.1)
    where
      by : (b : Bool) → is_slot h.slot slot ≡ b → IsTold (call ∷ calls) (if b then record h { failed = true } else h)
      by true e = record {
        seized = λ s. inr ((all.0).seized s);
        failed = λ s. subst (λ (x : phases.Slot). (x.bay ≡ parity_bay r.n x.row) × Happened (FailedHere x) (call ∷ calls)) (sym (slot-same h.slot slot e)) (f.0, inl f.1);
      }
      by false e = record { seized = λ s. inr ((all.0).seized s); failed = λ s. (((all.0).failed s).0, inr ((all.0).failed s).1) }

  failed-fault : (reply : Reply) → fits_put reply ≡ true → put_end reply ≡ Failed → reply ≡ replies.Fault
  failed-fault replies.Fault fit e = refl
  failed-fault replies.Done fit e = cc
  failed-fault (replies.NoNote life) fit e = cc
  failed-fault (replies.Granted cell read_no write_no last life seized) fit e = cc
  failed-fault (replies.Busy holder) fit e = cc
  failed-fault (replies.Late above) fit e = cc
  failed-fault (replies.Young note) fit e = cc
  failed-fault (replies.Missing floor) fit e = cc
  failed-fault (replies.Held cell) fit e = cc
  failed-fault replies.Emptied fit e = cc
  failed-fault replies.Fitted fit e = cc

  pub held-told : (mode : Mode) (calls : List Call) → AllByRecursion (λ (c : Call). IsOwnAsk r c.bay c.ask.what × (fits c.ask.what c.answer.reply ≡ true)) calls → AllByRecursion (IsTold calls) (held_of mode calls)
  held-told mode [] all = tt
  held-told mode (call ∷ calls) all = by call.ask.what refl (all.0).0 (all.0).1 (held-told mode calls all.1)
    where
      put : (row : RowNo) (id n : Number) (cell : _) → call.ask.what ≡ Put row id n cell → (id ≡ r.id) × (call.bay ≡ parity_bay r.n row) → fits_put call.answer.reply ≡ true → (hs : List Holding) → AllByRecursion (IsTold calls) hs →
          (p : PutEnd) → put_end call.answer.reply ≡ p → AllByRecursion (IsTold (call ∷ calls)) (after_put (on call.bay row) p hs)
      put row id n cell same own fit hs told Made e = told-without (call ∷ calls) (on call.bay row) hs (told-more calls call hs told)
      put row id n cell same own fit hs told (Unnoted life) e = told-without (call ∷ calls) (on call.bay row) hs (told-more calls call hs told)
      put row id n cell same own fit hs told Failed e =
          told-failed calls call (on call.bay row) (own.1, (refl, n, cell, same ∙ ap (λ (x : Number). Put row x n cell) own.0, failed-fault call.answer.reply fit e)) hs told

      claims : (row : RowNo) (id : Number) (how : How) (mask : ℕ) (want : Bool) → call.ask.what ≡ Claim row id how mask want → (id ≡ r.id) × (how ≡ Seize) × (row ≡ r.row) → (hs : List Holding) → AllByRecursion (IsTold calls) hs →
          (g : Option Grant) → grant_of call.answer.reply ≡ g → AllByRecursion (IsTold (call ∷ calls)) (claimed (on call.bay row) g hs)
      claims row id how mask want same own hs told None e = told-more calls call hs told
      claims row id how mask want same own hs told (Some grant) e = (
        record {
          seized = λ s. inl (refl, mask, want, same ∙ ap (λ (x : Number). Claim row x how mask want) own.0 ∙ ap (λ (w : How). Claim row r.id w mask want) own.1, grant, e, s);
          failed = λ s. absurd (let bad : false ≡ true = s in cc);
        },
        told-more calls call hs told,
      )

      by : (what : Request) → call.ask.what ≡ what → IsOwnAsk r call.bay call.ask.what → fits call.ask.what call.answer.reply ≡ true → AllByRecursion (IsTold calls) (held_of mode calls) → AllByRecursion (IsTold (call ∷ calls)) (held_of mode (call ∷ calls))
      by what same own fit told = go what same (subst (λ (w : Request). IsOwnAsk r call.bay w) same own) (subst (λ (w : Request). fits w call.answer.reply ≡ true) same fit)
        where
          go : (w : Request) → call.ask.what ≡ w → IsOwnAsk r call.bay w → fits w call.answer.reply ≡ true → AllByRecursion (IsTold (call ∷ calls)) (held_of mode (call ∷ calls))
          go (Share row id want) s o f = absurd o
          go (Claim row id how mask want) s o f =
              subst (λ (w : Request). AllByRecursion (IsTold (call ∷ calls)) (held_after mode (held_of mode calls) call.bay w call.answer.reply)) (sym s) (claims row id how mask want s o (held_of mode calls) told (grant_of call.answer.reply) refl)
          go (Confirm row id want) s o f = subst (λ (w : Request). AllByRecursion (IsTold (call ∷ calls)) (held_after mode (held_of mode calls) call.bay w call.answer.reply)) (sym s) (told-more calls call (held_of mode calls) told)
          go (Put row id n cell) s o f =
              subst (λ (w : Request). AllByRecursion (IsTold (call ∷ calls)) (held_after mode (held_of mode calls) call.bay w call.answer.reply)) (sym s) (put row id n cell s o f (held_of mode calls) told (put_end call.answer.reply) refl)
          go (Release row id n) s o f =
              subst (λ (w : Request). AllByRecursion (IsTold (call ∷ calls)) (held_after mode (held_of mode calls) call.bay w call.answer.reply)) (sym s)
              (told-without (call ∷ calls) (on call.bay row) (held_of mode calls) (told-more calls call (held_of mode calls) told))
          go Lose s o f = absurd o
          go Fit s o f = absurd o

-- Other attempts ask with their id, and do not seize
module _ (id : Number) where
  abbrev pub IsOtherAsk : Request → Type 0
  IsOtherAsk (Share row by want) = by ≡ id
  IsOtherAsk (Claim row by how mask want) = (by ≡ id) × (how ≡ Seize → ⊥)
  IsOtherAsk (Confirm row by want) = by ≡ id
  IsOtherAsk (Put row by n cell) = by ≡ id
  IsOtherAsk (Release row by n) = by ≡ id
  IsOtherAsk Lose = ⊥
  IsOtherAsk Fit = ⊥

  abbrev pub Others : Steps Finish → Type 0
  Others (Ends f) = Unit {0}
  Others (Draws k) = (d : Result Number Spent) → Others (k d)
  Others (Asks e s c k) = IsOtherAsk e.request × ((r : Reply) → Others (k r))

  other-ask : (n : ℕ) (kind : How) → (kind ≡ Seize → ⊥) → (past : Past) (bay : BayNo) (what : Request) → MayAsk n id past bay what → ClaimsSo n kind bay what → IsOtherAsk what
  other-ask n kind apart past bay (Share row by want) may so = may.0
  other-ask n kind apart past bay (Claim row by how mask want) may so = (may.0, λ e. apart (sym so.0 ∙ e))
  other-ask n kind apart past bay (Confirm row by want) may so = may.0
  other-ask n kind apart past bay (Put row by m cell) may so = may.0
  other-ask n kind apart past bay (Release row by m) may so = may
  other-ask n kind apart past bay Lose may so = may
  other-ask n kind apart past bay Fit may so = may

  others-all : (n : ℕ) (kind : How) → (kind ≡ Seize → ⊥) → (Q : Past → Finish → Type 0) (past : Past) (s : Steps Finish) → Keeps n id Q past s → EachClaims n kind s → Others s
  others-all n kind apart Q past (Ends f) k c = tt
  others-all n kind apart Q past (Draws g) k c = λ d. others-all n kind apart Q (after_number past d) (g d) (k.2 d) (c d)
  others-all n kind apart Q past (Asks e s o g) k c = (other-ask n kind apart past e.bay e.request k.0 c.0, λ r. others-all n kind apart Q (after past e r) (g r) (k.1 r) (c.1 r))

  pub settled-others : (host : HostNo) (seen : Number) (s : Steps Finish) → Others s → Others (settled host seen s).steps
  settled-others host seen (Asks e t c k) h = h
  settled-others host seen (Draws k) h = settled-others host (seen_drawn seen (draw host seen)) (k (draw host seen)) (h (draw host seen))
  settled-others host seen (Ends f) h = h

  pub asks-other : (steps : Steps Finish) (e : Errand) → Others steps → next_errand steps ≡ Some e → IsOtherAsk e.request
  asks-other (Asks x s c k) e h asked = let same : x ≡ e = cc in subst (λ (y : Errand). IsOtherAsk y.request) same h.0
  asks-other (Draws k) e h asked = absurd (cc)
  asks-other (Ends f) e h asked = absurd (cc)

  pub behind-others : (steps : Steps Finish) (r : Reply) → Others steps → Others (behind steps r)
  behind-others (Asks e s c k) r h = h.1 r
  behind-others (Draws k) r h = h
  behind-others (Ends f) r h = h

plain-no : Plain ≡ Seize → ⊥
plain-no e = cc

mend-no : Mend ≡ Seize → ⊥
mend-no e = cc

module _ (script : Script) (is : IsScript script) (host : HostNo) (id : Number) where
  reads-other : (r : Result (List RowPart) PartsFault) → Others id (read_of script id r)
  reads-other (Err fault) = tt
  reads-other (Ok parts) =
      let a : Access = access script id parts [] in
      others-all id a.n Plain plain-no HasOnlyRead (begins (number_of a.mode a.id)) (read_steps a) (reads_keep_phases a) (claims_are_of_their_kind.0 a)

  writes-other : (object : Name) (first count : ℕ) (blocks : List (List ℕ)) → 1 ≤ count → (r : Result (List RowPart) PartsFault) → parts_of script object first count ≡ r → Others id (write_of script id blocks r)
  writes-other object first count blocks some (Err fault) ok = tt
  writes-other object first count blocks some (Ok parts) ok =
      let a : Access = access script id parts blocks in
      let sound = found-parts script is host id object first count parts some ok in
      others-all id a.n Plain plain-no HasWritten (begins (number_of a.mode a.id)) (write_steps a) (writes_keep_phases a is.devices_least (rows-differ parts sound.rows_apart)) (claims_are_of_their_kind.1 a)

  pub read-others : (row : ℕ) (object : Name) (first count : ℕ) → Others id (attempt script host id row (tasks.Read object first count))
  read-others row object first count = reads-other (parts_of script object first count)

  pub write-others : (row : ℕ) (object : Name) (first from count : ℕ) → IsTask script host (tasks.Write object first from count) → Others id (attempt script host id row (tasks.Write object first from count))
  write-others row object first from count aim = writes-other object first count (blocks_of script from count) aim.some (parts_of script object first count) refl

  pub mend-others : (row : ℕ) (bay : BayNo) → IsTask script host (tasks.Rebuild bay) → Others id (attempt script host id row (tasks.Rebuild bay))
  mend-others row bay aim =
      let m : Repair = record { n = script.n; id = id; row = record { 0 = row }; target = bay } in
      others-all id m.n Mend mend-no HasRepaired (begins None) (mend_steps m) (rebuilds_keep_phases m is.devices_least aim.1) (claims_are_of_their_kind.2 m)
