-- While the note of an attempt stands on a slot, or its reader, the numbers of the slot are below what the attempt may have
-- for its number.
use Rattle.std.proofs.Common.{◌≡◌, ◌⊎◌, inl, inr, refl, sym, ap, subst, ◌∙◌, ℕ, ◌<◌, ◌≤◌, nat_lt, Bool, true, false, List, [], ◌∷◌, Option, Some, None, arith}
use Rattle.std.proofs.lemmas.Bool.Decides.{nat_tests}
use Rattle.raid_base.specs.declared.numbers.BayNo.{BayNo}
use Rattle.raid_base.specs.declared.numbers.HostNo.{HostNo}
use Rattle.raid_base.specs.declared.numbers.RowNo.{RowNo}
use Rattle.raid_base.specs.declared.numbers.Number.{Number}
use Rattle.raid_base.specs.declared.messages.Ask.{Ask}
use Rattle.raid_base.specs.declared.messages.Call.{Call}
use Rattle.raid_base.specs.declared.messages.Errand.{Errand}
use Rattle.raid_base.specs.declared.messages.How.{How}
use Rattle.raid_base.specs.declared.messages.How.TheVariants.{Plain, Seize}
use Rattle.raid_base.specs.declared.messages.Mode.{Mode}
use Rattle.raid_base.specs.declared.messages.Mode.TheVariants.{Order}
use Rattle.raid_base.specs.declared.messages.Note.{Note}
use Rattle.raid_base.specs.declared.messages.Reply.{Reply}
use Rattle.raid_base.specs.declared.messages.Request.{Request}
use Rattle.raid_base.specs.declared.jobs.Task.{Task}
use Rattle.raid_base.specs.Numbers.{greater}
use Rattle.raid_base.specs.Steps.{Steps, next_errand, errand_of}
use Rattle.slot_rules.specs.Slots.{Slot, Bay}
use Rattle.slot_rules.specs.Rules.{granted}
use Rattle.slot_rules.specs.Laws.{claimed_note}
use Rattle.attempts.specs.Numbering.{IsOrigin, ShowsNumber}
use Rattle.attempts.specs.Taking.{Finish}
use Rattle.script_text.specs.Script.{Script}
use Rattle.script_text.specs.Ranges.{IsScript}
use Rattle.histories.specs.Calls.{Happened, id_of}
use Rattle.histories.specs.History.{IsHistory, bay_at}
use Rattle.histories.specs.RowStates.{slot_at}
use Rattle.row_laws.specs.Hands.{HasHand, calls_at}
use Rattle.histories.specs.Ids.{IsNoteClaim}
use Rattle.histories.proofs.accesses.AccessIds.{ids_are_apart}
use Rattle.row_laws.proofs.holders.AnsweredFree.{happened-map}
use Rattle.row_laws.proofs.hands.HandClaims.{kind_of, IsTake, next-kind, next-new}
use Rattle.row_laws.proofs.hands.HandMoves.{Came, Stayed, Begun, Went, came}
use Rattle.histories.proofs.steps.LeftSlots.{HasReader}
use Rattle.row_laws.proofs.owners.RowOwnersHands.{happened-own, other-id}
use Rattle.row_laws.proofs.numbers.RisenDraws.{ShownBelow}
use Rattle.row_laws.proofs.numbers.RisenSlots.{NoteMove, Stood, Shared, Made, ReaderMove, Sat, Came as Joined, note-moved, reader-moved}
use Rattle.histories.proofs.steps.BayRows.{starts-first, bay-mode}

pub below-from : (a b : ℕ) → a ≤ b → (a ≡ b → ⊥) → a < b
below-from a b le apart = by (nat_lt a b) refl
  where
    by : (t : Bool) → nat_lt a b ≡ t → a < b
    by true e = grind (arith, nat_tests)
    by false e = absurd (let ge : b ≤ a = grind (arith, nat_tests) in apart (omega (arith, le, ge)))

-- The numbers of a slot and the origin of its note are below each number that is above the id of the note's attempt and all
-- that its calls were shown. Under stamps they are below the id of a write.
pub record Low (mode : Mode) (slot : Slot) (note : Note) (id : Number) (kind : How) (calls : List Call) : Type 0 where
  pub drawn : (m : ℕ) → ShownBelow m calls → id.0 < m → (slot.write_no.0 < m) × (slot.read_no.0 < m) × (note.origin.0 < m)
  pub plain : kind ≡ Plain → mode ≡ Order → (slot.write_no.0 < id.0) × (slot.read_no.0 < id.0) × (note.origin ≡ id)

module _ (mode : Mode) (note : Note) (id : Number) (kind : How) where
  low-kept : (slot new : Slot) (calls : List Call) → new.write_no ≡ slot.write_no → new.read_no ≡ slot.read_no → Low mode slot note id kind calls → Low mode new note id kind calls
  low-kept slot new calls write read h =
      let w : new.write_no.0 ≡ slot.write_no.0 = ap (λ (x : Number). x.0) write in
      let r : new.read_no.0 ≡ slot.read_no.0 = ap (λ (x : Number). x.0) read in
      record {
        drawn = λ m shown above.
            let low = h.drawn m shown above in
            let first = low.0 in
            let second = low.1 in
            (omega (arith, w, first), omega (arith, r, second), low.2);
        plain = λ is order.
            let low = h.plain is order in
            let first = low.0 in
            let second = low.1 in
            (omega (arith, w, first), omega (arith, r, second), low.2);
      }

  low-shared : (slot new : Slot) (calls : List Call) (by : Number) → new.write_no ≡ slot.write_no → by.0 ≤ note.origin.0 → (by ≡ id → ⊥) → new.read_no ≡ greater slot.read_no by →
      Low mode slot note id kind calls → Low mode new note id kind calls
  low-shared slot new calls by write le apart read h =
      let w : new.write_no.0 ≡ slot.write_no.0 = ap (λ (x : Number). x.0) write in
      let r : new.read_no.0 ≡ (greater slot.read_no by).0 = ap (λ (x : Number). x.0) read in
      record {
        drawn = λ m shown above.
            let low = h.drawn m shown above in
            let first = low.0 in
            let second = low.1 in
            let third = low.2 in
            (omega (arith, w, first), omega (arith, r, second, third, le), third);
        plain = λ is order.
            let low = h.plain is order in
            let first = low.0 in
            let second = low.1 in
            let origin : note.origin.0 ≡ id.0 = ap (λ (x : Number). x.0) low.2 in
            let less : by.0 < id.0 = below-from by.0 id.0 (omega (arith, le, origin)) (λ e. apart (ap (λ (k : ℕ). let x : Number = record { 0 = k } in x) e)) in
            (omega (arith, w, first), omega (arith, r, second, less), low.2);
      }

  low-more : (slot : Slot) (call : Call) (calls : List Call) → Low mode slot note id kind calls → Low mode slot note id kind (call ∷ calls)
  low-more slot call calls h = record { drawn = λ m shown above. h.drawn m shown.1 above; plain = h.plain }

origin-low : (ask : Ask) (note : Note) (mask m : ℕ) (o : Option Note) → claimed_note ask note.id mask o ≡ note → ((k : Number) → IsOrigin o k → k.0 < m) → note.id.0 < m → note.origin.0 < m
origin-low ask note mask m None left shown above = let same : note.id.0 ≡ note.origin.0 = ap (λ (x : Note). x.origin.0) left in omega (arith, same, above)
origin-low ask note mask m (Some was) left shown above =
    let same : was.origin.0 ≡ note.origin.0 = ap (λ (x : Note). x.origin.0) left in
    let low = shown was.origin refl in
    omega (arith, same, low)

origin-own : (ask : Ask) (note : Note) (mask : ℕ) (o : Option Note) → claimed_note ask note.id mask o ≡ note → o ≡ None → note.origin ≡ note.id
origin-own ask note mask o left none =
    sym (ap (λ (x : Note). x.origin) (ap (λ (y : Option Note). claimed_note ask note.id mask y) (sym none) ∙ left))

module _ (mode : Mode) (note : Note) (kind : How) (old : Bay) (slot new : Slot) (call : Call) (calls : List Call) where
  low-made : (how : How) (mask : ℕ) (want : Bool) → call.answer.reply ≡ granted old slot want slot.note → claimed_note call.ask note.id mask slot.note ≡ note → new.write_no ≡ slot.write_no →
      new.read_no ≡ slot.read_no → (slot.note ≡ None) ⊎ (how ≡ Seize) → (how ≡ Plain → mode ≡ Order → (slot.read_no.0 < note.id.0) × (slot.write_no.0 < note.id.0)) → how ≡ kind →
      Low mode new note note.id kind (call ∷ calls)
  low-made how mask want reply left write read free late is_kind =
      let w : new.write_no.0 ≡ slot.write_no.0 = ap (λ (x : Number). x.0) write in
      let r : new.read_no.0 ≡ slot.read_no.0 = ap (λ (x : Number). x.0) read in
      record {
        drawn = λ m shown above.
            let all : (k : Number) → ShowsNumber (granted old slot want slot.note) k → k.0 < m = subst (λ (x : Reply). (k : Number) → ShowsNumber x k → k.0 < m) reply shown.0 in
            let first = all slot.write_no (inr (inl refl)) in
            let second = all slot.read_no (inl refl) in
            (omega (arith, w, first), omega (arith, r, second), origin-low call.ask note mask m slot.note left (λ k is. all k (inr (inr is))) above);
        plain = λ is order.
            let plain : how ≡ Plain = is_kind ∙ is in
            let low = late plain order in
            let first = low.0 in
            let second = low.1 in
            (omega (arith, w, second), omega (arith, r, first), origin-own call.ask note mask slot.note left (none free plain));
      }
    where
      none : (slot.note ≡ None) ⊎ (how ≡ Seize) → how ≡ Plain → slot.note ≡ None
      none (inl e) plain = e
      none (inr e) plain = absurd (let bad : Seize ≡ Plain = sym e ∙ plain in cc)

module _ (script : Script) (is : IsScript script) (at : BayNo) (row : RowNo) (below : row.0 < script.rows) where
  abbrev slot_now : List Call → Slot
  slot_now history = slot_at script history at row

  -- The note of an attempt in hand
  pub own-low : (history : List Call) → IsHistory script history → (host : HostNo) (steps : Steps Finish) (h : HasHand script history host steps) (e : Errand) → next_errand steps ≡ Some e →
      (note : Note) → (slot_at script history at row).note ≡ Some note → note.id ≡ h.hand.id →
      Low script.mode (slot_at script history at row) note h.hand.id (kind_of h.hand.task) (calls_at script history host)
  own-low [] along host steps h e asked note noted named = absurd ((ids_are_apart script [] is along).notes at row note below noted)
  own-low (call ∷ earlier) along host steps h e asked note noted named =
      by (λ s hs es asks was same. own-low earlier along.0 host s hs es asks note was same) (came script is earlier call along.0 along.1 host steps h)
      (note-moved script is at row below earlier call along note noted)
    where
      old : Bay
      old = bay_at script at earlier

      Before : Type 0
      Before = (s : Steps Finish) (hs : HasHand script earlier host s) (es : Errand) → next_errand s ≡ Some es → (slot_now earlier).note ≡ Some note → note.id ≡ hs.hand.id →
          Low script.mode (slot_now earlier) note hs.hand.id (kind_of hs.hand.task) (calls_at script earlier host)

      LowAs : Slot → Number → Task → List Call → Type 0
      LowAs slot id task calls = Low script.mode slot note id (kind_of task) calls

      turned : (slot : Slot) (id id1 : Number) (task task1 : Task) (calls calls1 : List Call) → id ≡ id1 → task ≡ task1 → calls1 ≡ calls → LowAs slot id task calls → LowAs slot id1 task1 calls1
      turned slot id id1 task task1 calls calls1 i t c low =
          subst (λ (x : Number). LowAs slot x task1 calls1) i (subst (λ (x : Task). LowAs slot id x calls1) t (subst (λ (x : List Call). LowAs slot id task x) (sym c) low))

      by : Before → Came script is earlier call along.0 along.1 host steps h.hand.id h.hand.task (calls_at script (call ∷ earlier) host) → NoteMove old at row call (bay_at script at (call ∷ earlier)) note →
          LowAs (slot_now (call ∷ earlier)) h.hand.id h.hand.task (calls_at script (call ∷ earlier) host)
      by before (Begun own bare) move =
          let claim = (ids_are_apart script (call ∷ earlier) is along).notes at row note below noted in
          let mine = happened-own script is (call ∷ earlier) along host steps h e asked (λ c k. ap (λ (w : Request). id_of w) k.5 ∙ ap (λ (x : Number). Some x) named) claim in
          absurd (subst (λ (calls : List Call). Happened (IsNoteClaim at row note) calls) bare mine)
      by before (Stayed stays) (Stood was write read) =
          turned (slot_now (call ∷ earlier)) stays.before.hand.id h.hand.id stays.before.hand.task h.hand.task (calls_at script earlier host) (calls_at script (call ∷ earlier) host) stays.same_id stays.same_task stays.calls
          (low-kept script.mode note stays.before.hand.id (kind_of stays.before.hand.task) (slot_now earlier) (slot_now (call ∷ earlier)) (calls_at script earlier host) write read
          (before steps stays.before e asked was (named ∙ sym stays.same_id)))
      by before (Stayed stays) (Shared was write place id want what low read) =
          let apart : id ≡ stays.before.hand.id → ⊥ = (λ same.
          other-id script is earlier call along host h.hand.id stays.other h.hand.own
          (ap (λ (w : Request). id_of w) what ∙ ap (λ (x : Number). Some x) (same ∙ stays.same_id))) in
          turned (slot_now (call ∷ earlier)) stays.before.hand.id h.hand.id stays.before.hand.task h.hand.task (calls_at script earlier host) (calls_at script (call ∷ earlier) host) stays.same_id stays.same_task stays.calls
          (low-shared script.mode note stays.before.hand.id (kind_of stays.before.hand.task) (slot_now earlier) (slot_now (call ∷ earlier)) (calls_at script earlier host) id write low apart read
          (before steps stays.before e asked was (named ∙ sym stays.same_id)))
      by before (Stayed stays) (Made place how mask want what reply left write read free late) =
          absurd (other-id script is earlier call along host h.hand.id stays.other h.hand.own (ap (λ (w : Request). id_of w) what ∙ ap (λ (x : Number). Some x) named))
      by before (Went goes) (Stood was write read) =
          turned (slot_now (call ∷ earlier)) goes.before.hand.id h.hand.id goes.before.hand.task h.hand.task (call ∷ calls_at script earlier host) (calls_at script (call ∷ earlier) host) goes.same_id goes.same_task goes.calls
          (low-more script.mode note goes.before.hand.id (kind_of goes.before.hand.task) (slot_now (call ∷ earlier)) call (calls_at script earlier host)
          (low-kept script.mode note goes.before.hand.id (kind_of goes.before.hand.task) (slot_now earlier) (slot_now (call ∷ earlier)) (calls_at script earlier host) write read
          (before goes.steps goes.before (errand_of call) goes.asked was (named ∙ sym goes.same_id))))
      by before (Went goes) (Shared was write place id want what low read) =
          let claim = (ids_are_apart script earlier is along.0).notes at row note below was in
          let mine = happened-own script is earlier along.0 host goes.steps goes.before (errand_of call) goes.asked
          (λ c k. ap (λ (w : Request). id_of w) k.5 ∙ ap (λ (x : Number). Some x) (named ∙ sym goes.same_id)) claim in
          absurd (next-new script is earlier host goes.steps goes.before call goes.asked at row (inl (place, id, want, what))
          (happened-map (IsNoteClaim at row note) (IsTake at row) (λ c k. inr (k.0, note.id, k.2, k.3, k.4, k.5)) (calls_at script earlier host) mine))
      by before (Went goes) (Made place how mask want what reply left write read free late) =
          let kind : how ≡ kind_of goes.before.hand.task = (next-kind script is earlier host goes.steps goes.before call goes.asked row note.id how mask want what).0 in
          turned (slot_now (call ∷ earlier)) note.id h.hand.id goes.before.hand.task h.hand.task (call ∷ calls_at script earlier host) (calls_at script (call ∷ earlier) host) named goes.same_task goes.calls
          (low-made script.mode note (kind_of goes.before.hand.task) old (slot_now earlier) (slot_now (call ∷ earlier)) call (calls_at script earlier host) how mask want reply left write read free
          (λ plain order. late plain (bay-mode script at earlier ∙ order)) kind)

  -- The reader of an attempt in hand. It is of a share with its id
  reader-asked : (history : List Call) → IsHistory script history → (id : Number) → HasReader id (slot_at script history at row) → Happened (λ (c : Call). id_of c.ask.what ≡ Some id) history
  reader-asked [] along id has = absurd (subst (λ (s : Slot). HasReader id s) (starts-first script at row below) has).1
  reader-asked (call ∷ earlier) along id has = by (reader-asked earlier along.0 id) (reader-moved script is at row below earlier call along id has)
    where
      by : (HasReader id (slot_now earlier) → Happened (λ (c : Call). id_of c.ask.what ≡ Some id) earlier) → ReaderMove (bay_at script at earlier) at row call (bay_at script at (call ∷ earlier)) id →
          Happened (λ (c : Call). id_of c.ask.what ≡ Some id) (call ∷ earlier)
      by before (Sat was write) = inr (before was)
      by before (Joined place want what reply write) = inl (ap (λ (w : Request). id_of w) what)

  pub reader-low : (history : List Call) → IsHistory script history → (host : HostNo) (steps : Steps Finish) (h : HasHand script history host steps) (e : Errand) → next_errand steps ≡ Some e →
      HasReader h.hand.id (slot_at script history at row) → (m : ℕ) → ShownBelow m (calls_at script history host) → (slot_at script history at row).write_no.0 < m
  reader-low [] along host steps h e asked has m shown = absurd (subst (λ (s : Slot). HasReader h.hand.id s) (starts-first script at row below) has).1
  reader-low (call ∷ earlier) along host steps h e asked has m shown =
      by (λ s hs es asks was low. reader-low earlier along.0 host s hs es asks was m low) (came script is earlier call along.0 along.1 host steps h)
      (reader-moved script is at row below earlier call along h.hand.id has)
    where
      old : Bay
      old = bay_at script at earlier

      Before : Type 0
      Before = (s : Steps Finish) (hs : HasHand script earlier host s) (es : Errand) → next_errand s ≡ Some es → HasReader hs.hand.id (slot_now earlier) → ShownBelow m (calls_at script earlier host) →
          (slot_now earlier).write_no.0 < m

      kept : (slot_now (call ∷ earlier)).write_no ≡ (slot_now earlier).write_no → (slot_now earlier).write_no.0 < m → (slot_now (call ∷ earlier)).write_no.0 < m
      kept write low = subst (λ (x : Number). x.0 < m) (sym write) low

      by : Before → Came script is earlier call along.0 along.1 host steps h.hand.id h.hand.task (calls_at script (call ∷ earlier) host) →
          ReaderMove old at row call (bay_at script at (call ∷ earlier)) h.hand.id → (slot_now (call ∷ earlier)).write_no.0 < m
      by before (Begun own bare) move =
          let mine = happened-own script is (call ∷ earlier) along host steps h e asked (λ c k. k) (reader-asked (call ∷ earlier) along h.hand.id has) in
          absurd (subst (λ (calls : List Call). Happened (λ (c : Call). id_of c.ask.what ≡ Some h.hand.id) calls) bare mine)
      by before (Stayed stays) (Sat was write) =
          kept write (before steps stays.before e asked (subst (λ (x : Number). HasReader x (slot_now earlier)) (sym stays.same_id) was) (subst (λ (calls : List Call). ShownBelow m calls) stays.calls shown))
      by before (Stayed stays) (Joined place want what reply write) =
          absurd (other-id script is earlier call along host h.hand.id stays.other h.hand.own (ap (λ (w : Request). id_of w) what))
      by before (Went goes) (Sat was write) =
          kept write
          (before goes.steps goes.before (errand_of call) goes.asked (subst (λ (x : Number). HasReader x (slot_now earlier)) (sym goes.same_id) was)
          (subst (λ (calls : List Call). ShownBelow m calls) goes.calls shown).1)
      by before (Went goes) (Joined place want what reply write) =
          let first = (subst (λ (calls : List Call). ShownBelow m calls) goes.calls shown).0 in
          let all : (k : Number) → ShowsNumber (granted old (slot_now earlier) want None) k → k.0 < m = subst (λ (x : Reply). (k : Number) → ShowsNumber x k → k.0 < m) reply first in
          kept write (all (slot_now earlier).write_no (inr (inl refl)))
