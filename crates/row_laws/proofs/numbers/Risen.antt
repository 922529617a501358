-- Numbers rise: each write's number is above those of all earlier writes and reads of its slot, and each read's above those of
-- all earlier writes.
use Rattle.std.proofs.Common.{◌≡◌, ◌⊎◌, inl, inr, refl, sym, ap, subst, ◌∙◌, ◌<◌, ◌≤◌, nat_lt, Bool, true, false, List, [], ◌∷◌, ◌++◌, length, find, Option, Some, None, IsSome, arith}
use Rattle.std.specs.List.{AllByRecursion}
use Rattle.std.proofs.lemmas.Bool.Decides.{nat_tests}
use Rattle.std.proofs.lemmas.List.{get_or_past}
use Rattle.raid_base.specs.declared.numbers.BayNo.{BayNo}
use Rattle.raid_base.specs.declared.numbers.RowNo.{RowNo}
use Rattle.raid_base.specs.declared.numbers.Number.{Number}
use Rattle.raid_base.specs.declared.cells.Cell.{Cell}
use Rattle.raid_base.specs.declared.messages.Ask.{Ask}
use Rattle.raid_base.specs.declared.messages.Call.{Call}
use Rattle.raid_base.specs.declared.messages.Mode.{Mode}
use Rattle.raid_base.specs.declared.messages.Mode.TheVariants.{Lock, Order}
use Rattle.raid_base.specs.declared.messages.Note.{Note}
use Rattle.raid_base.specs.declared.messages.Reply.{Reply}
use Rattle.raid_base.specs.declared.messages.Reply.TheVariants.{Granted, Busy, Late, Young, Missing, Held, NoNote, Done, Fault, Emptied, Fitted}
use Rattle.raid_base.specs.declared.messages.Request.{Request}
use Rattle.raid_base.specs.declared.messages.Request.TheVariants.{Share, Claim, Confirm, Put, Release, Lose, Fit}
use Rattle.raid_base.specs.Numbers.{number}
use Rattle.raid_base.specs.Replies.{is_fault, grant_of}
use Rattle.raid_base.specs.Steps.{errand_of}
use Rattle.slot_rules.specs.declared.Reader.{Reader}
use Rattle.slot_rules.specs.Slots.{Slot, Bay, bare_slot, slot_of}
use Rattle.slot_rules.specs.Rules.{Outcome, note_id, is_reader}
use Rattle.slot_rules.specs.Laws.{is_refused, put_number, CoversRead, CoversWrite}
use Rattle.slot_rules.proofs.TableParts.{rule_of-row}
use Rattle.attempts.specs.Phases.{IsIn, MayAsk}
use Rattle.script_text.specs.Script.{Script}
use Rattle.script_text.specs.Ranges.{IsScript}
use Rattle.histories.specs.Calls.{row_of, id_of, write_of, read_of, is_at, IsDone}
use Rattle.histories.specs.Progress.{Progress}
use Rattle.histories.specs.History.{IsHistory, progress_at, bay_at}
use Rattle.histories.specs.Accesses.{writes, reads, AllBelow}
use Rattle.row_laws.specs.Laws.{NumbersRise}
use Rattle.histories.proofs.accesses.AccessCovers.{all-map, all-if, lock-read, covers-all, written-as}
use Rattle.row_laws.proofs.holders.AnsweredFreeNotes.{empty-bare}
use Rattle.row_laws.proofs.hands.HandClaims.{kind_of}
use Rattle.row_laws.proofs.hands.HandMoves.{may-next, id-is-own}
use Rattle.histories.proofs.steps.LeftSlots.{HasReader}
use Rattle.row_laws.proofs.owners.RowOwnersCalls.{noted-by}
use Rattle.row_laws.proofs.owners.RowOwnersHands.{Asker, asker}
use Rattle.row_laws.proofs.hands.SlotMoves.{outcome_at}
use Rattle.row_laws.proofs.hands.SlotDoes.{Does, Refuses, Closes, Grants, Shows, Holds, Puts, Frees, Leaves, slot-does, share-does, Shares}
use Rattle.row_laws.proofs.numbers.RisenTrees.{FreesWith, next-frees}
use Rattle.row_laws.proofs.numbers.RisenDraws.{Numbered, IsNumber, Own, Drawn, numbered}
use Rattle.row_laws.proofs.numbers.RisenSlots.{found-reader, clear-at}
use Rattle.row_laws.proofs.numbers.RisenHands.{below-from, Low, own-low, reader-low}
use Rattle.row_laws.proofs.numbers.RisenPuts.{put-as, puts-apart}
use Rattle.histories.proofs.steps.BayRows.{bay-rows, bay-mode}

-- a read is under stamps a share that was granted
pub shown-as : (row : RowNo) (id : Number) (want : Bool) (reply : Reply) (n : Number) → read_of Order (Share row id want) reply ≡ Some n → (id ≡ n) × IsSome (grant_of reply)
shown-as row id want (Granted cell read_no write_no last life seized) n h = (cc, refl)
shown-as row id want (Busy holder) n h = absurd (let bad : None ≡ Some n = h in cc)
shown-as row id want (Late above) n h = absurd (let bad : None ≡ Some n = h in cc)
shown-as row id want (Young note) n h = absurd (let bad : None ≡ Some n = h in cc)
shown-as row id want (Missing floor) n h = absurd (let bad : None ≡ Some n = h in cc)
shown-as row id want (Held cell) n h = absurd (let bad : None ≡ Some n = h in cc)
shown-as row id want (NoNote life) n h = absurd (let bad : None ≡ Some n = h in cc)
shown-as row id want Done n h = absurd (let bad : None ≡ Some n = h in cc)
shown-as row id want Fault n h = absurd (let bad : None ≡ Some n = h in cc)
shown-as row id want Emptied n h = absurd (let bad : None ≡ Some n = h in cc)
shown-as row id want Fitted n h = absurd (let bad : None ≡ Some n = h in cc)

-- No write has a number that no put has
writes-from : (P : Number → Type 0) (at : BayNo) (row : RowNo) (history : List Call) → AllByRecursion (λ (c : Call). (m : Number) → put_number c.ask.what ≡ Some m → P m) history →
    AllByRecursion P (writes at row history)
writes-from P at row [] h = tt
writes-from P at row (call ∷ earlier) h =
    all-if P (is_at at row call) (write_of call.ask.what call.answer.reply) (writes at row earlier) (λ here m e. h.0 m (written-as call.ask.what call.answer.reply m e).0)
    (writes-from P at row earlier h.1)

all-both : (P Q R : Number → Type 0) (ns : List Number) → ((n : Number) → P n → Q n → R n) → AllByRecursion P ns → AllByRecursion Q ns → AllByRecursion R ns
all-both P Q R [] f p q = tt
all-both P Q R (n ∷ ns) f p q = (f n p.0 q.0, all-both P Q R ns f p.1 q.1)

-- What the slot rule did
module _ (bay : Bay) (ask : Ask) (slot : Slot) where
  put-noted : (row : RowNo) (id n : Number) (cell : Cell) (what : Request) (reply : Reply) (left : Slot) → Does bay ask slot what reply left → what ≡ Put row id n cell → reply ≡ Done → note_id slot.note id ≡ true
  put-noted row id n cell what reply left (Refuses r refused missing) is done = absurd (let bad : false ≡ true = ap is_refused (sym done) ∙ refused in cc)
  put-noted row id n cell what reply left (Closes there none) is done = absurd (cc)
  put-noted row id n cell what reply left (Grants claims) is done = absurd (cc)
  put-noted row id n cell what reply left (Shows shares) is done = absurd (cc)
  put-noted row id n cell what reply left (Holds own) is done = absurd (cc)
  put-noted row id n cell what reply left (Puts {row = r} {id = by} {n = m} {cell = c} own) is done =
      let both : Put r by m c ≡ Put row id n cell = is in
      let same : by ≡ id = cc in
      subst (λ (x : Number). note_id slot.note x ≡ true) same own
  put-noted row id n cell what reply left (Frees own) is done = absurd (cc)
  put-noted row id n cell what reply left (Leaves free reader found) is done = absurd (cc)

  -- a share that was granted found a cell, and its id is not below the write number
  record Shown (id : Number) : Type 0 where
    there : bay.empty ≡ false
    cell : IsSome slot.cell
    late : bay.mode ≡ Order → slot.write_no.0 ≤ id.0

  share-shown : (row : RowNo) (id : Number) (want : Bool) (what : Request) (reply : Reply) (left : Slot) → Does bay ask slot what reply left → what ≡ Share row id want → IsSome (grant_of reply) → Shown id
  share-shown row id want what reply left step is some =
      let shares : Shares bay slot id want reply left = share-does bay ask slot row id want what reply left step is some in
      record { there = shares.there; cell = shares.cell; late = shares.late }

  -- a release that was done found a note or a reader
  abbrev pub Found : Number → Type 0
  Found id = (note_id slot.note id ≡ true) ⊎ ((reader : Reader) × (find (is_reader id) slot.readers ≡ Some reader))

  pub release-found : (row : RowNo) (id : Number) (n : Option Number) (what : Request) (reply : Reply) (left : Slot) → Does bay ask slot what reply left → what ≡ Release row id n → reply ≡ Done → Found id
  release-found row id n what reply left (Refuses r refused missing) is done = absurd (let bad : false ≡ true = ap is_refused (sym done) ∙ refused in cc)
  release-found row id n what reply left (Closes there none) is done = absurd (cc)
  release-found row id n what reply left (Grants claims) is done = absurd (cc)
  release-found row id n what reply left (Shows shares) is done = absurd (cc)
  release-found row id n what reply left (Holds own) is done = absurd (cc)
  release-found row id n what reply left (Puts own) is done = absurd (cc)
  release-found row id n what reply left (Frees {row = r} {id = by} {n = m} own) is done =
      let both : Release r by m ≡ Release row id n = is in
      let same : by ≡ id = cc in
      subst Found same (inl own)
  release-found row id n what reply left (Leaves {row = r} {id = by} {n = m} free reader found) is done =
      let both : Release r by m ≡ Release row id n = is in
      let same : by ≡ id = cc in
      subst Found same (inr (reader, found))

-- The call after a history
module _ (script : Script) (is : IsScript script) (earlier : List Call) (call : Call) (along : IsHistory script (call ∷ earlier)) (row : RowNo) (of : row_of call.ask.what ≡ Some row) where
  abbrev bay : Bay
  bay = bay_at script call.bay earlier

  abbrev slot : Slot
  slot = slot_of bay row

  pub reply-is : call.answer.reply ≡ (outcome_at bay row call).reply
  reply-is = ap (λ (c : Call). c.answer.reply) along.1.replied ∙ ap (λ (x : Outcome). x.reply) (rule_of-row bay call.ask (is_fault call.answer.reply) call.ask.what row of)

  pub does : Does bay call.ask slot call.ask.what (outcome_at bay row call).reply (outcome_at bay row call).slot
  does = slot-does bay call.ask slot (is_fault call.answer.reply) call.ask.what row of

  -- the row is one of the script's, or its slot is bare
  row-or-bare : (row.0 < script.rows) ⊎ (slot ≡ bare_slot (number 0))
  row-or-bare = by (nat_lt row.0 script.rows) refl
    where
      by : (b : Bool) → nat_lt row.0 script.rows ≡ b → (row.0 < script.rows) ⊎ (slot ≡ bare_slot (number 0))
      by true e = inl (grind (arith, nat_tests))
      by false e =
          let rows : length bay.slots ≡ script.rows = bay-rows script call.bay earlier in
          let past : script.rows ≤ row.0 = grind (arith, nat_tests) in
          inr (get_or_past bay.slots row.0 (bare_slot (number 0)) (omega (arith, rows, past)))

  a : Asker script is earlier call
  a = asker script is earlier call along.0 along.1 row of

  abbrev p : Progress
  p = progress_at script call.ask.host earlier

  -- an id of the request is its own
  is-own : (by : Number) → id_of call.ask.what ≡ Some by → by ≡ a.hand.hand.id
  is-own = id-is-own script is earlier call.ask.host a.steps a.hand call a.asked

  -- what is known of its number
  x : Numbered script.n a.hand.hand.id script.mode (kind_of a.hand.hand.task) call.ask.host p.calls (record { seen = p.seen; steps = a.steps })
  x = numbered script is call.ask.host p a.steps a.hand.hand

  -- while its note stands, the numbers of the slot are below it
  low-noted : (row.0 < script.rows) → (note : Note) → slot.note ≡ Some note → note.id ≡ a.hand.hand.id → (n : Number) → x.past.number ≡ Some n → (slot.write_no.0 < n.0) × (slot.read_no.0 < n.0)
  low-noted below note noted named n e = by (x.number n e).is
    where
      low : Low script.mode slot note a.hand.hand.id (kind_of a.hand.hand.task) p.calls
      low = own-low script is call.bay row below earlier along.0 call.ask.host a.steps a.hand (errand_of call) a.asked note noted named

      by : IsNumber a.hand.hand.id script.mode (kind_of a.hand.hand.task) x.past p.calls n → (slot.write_no.0 < n.0) × (slot.read_no.0 < n.0)
      by (Own same order plain) =
          let h = low.plain plain order in
          let first = h.0 in
          let second = h.1 in
          let own : n.0 ≡ a.hand.hand.id.0 = ap (λ (y : Number). y.0) same in
          (omega (arith, first, own), omega (arith, second, own))
      by (Drawn late above shown) = let h = low.drawn n.0 shown above in (h.0, h.1)

  -- Numbers of accesses before the call
  writes-below : (row.0 < script.rows) → bay.empty ≡ false → (n : Number) → slot.write_no.0 < n.0 → AllBelow n (writes call.bay row earlier)
  writes-below below there n less =
      all-map (CoversWrite bay row) (λ (y : Number). y.0 < n.0) (writes call.bay row earlier) (λ m c. let low = c.1 there in omega (arith, low, less))
      (covers-all script is call.bay row below earlier along.0).written

  reads-below : (row.0 < script.rows) → bay.empty ≡ false → (n : Number) → slot.read_no.0 < n.0 → AllBelow n (reads script call.bay row earlier)
  reads-below below there n less =
      all-map (CoversRead bay row) (λ (y : Number). y.0 < n.0) (reads script call.bay row earlier) (λ m c. let low = c.1 there in omega (arith, low, less))
      (covers-all script is call.bay row below earlier along.0).read

  -- a slot with a note or a reader is one of the script's, and its device is there
  noted-row : (note : Note) → slot.note ≡ Some note → row.0 < script.rows
  noted-row note noted = by row-or-bare
    where
      by : (row.0 < script.rows) ⊎ (slot ≡ bare_slot (number 0)) → row.0 < script.rows
      by (inl below) = below
      by (inr bare) = absurd (let bad : None ≡ Some note = sym (ap (λ (s : Slot). s.note) bare) ∙ noted in cc)

  noted-there : (row.0 < script.rows) → (note : Note) → slot.note ≡ Some note → bay.empty ≡ false
  noted-there below note noted = by bay.empty refl
    where
      by : (b : Bool) → bay.empty ≡ b → b ≡ false
      by true e = absurd (let bad : None ≡ Some note = sym (empty-bare script is call.bay row below earlier along.0 e) ∙ noted in cc)
      by false e = refl

  -- A put: its number is above those of the slot, whose device is there
  pub record IsAbove (n : Number) : Type 0 where
    pub below : row.0 < script.rows
    pub there : bay.empty ≡ false
    pub write : slot.write_no.0 < n.0
    pub read : slot.read_no.0 < n.0

  pub put-low : (r : RowNo) (pid n : Number) (cell : Cell) → call.ask.what ≡ Put r pid n cell → call.answer.reply ≡ Done → IsAbove n
  put-low r pid n cell what done =
      let noted = noted-by slot.note pid
      (put-noted bay call.ask slot r pid n cell call.ask.what (outcome_at bay row call).reply (outcome_at bay row call).slot does what (sym reply-is ∙ done)) in
      let own : pid ≡ a.hand.hand.id = is-own pid (ap (λ (w : Request). id_of w) what) in
      let may : MayAsk script.n a.hand.hand.id x.past call.bay (Put r pid n cell) =
      subst (λ (w : Request). MayAsk script.n a.hand.hand.id x.past call.bay w) what (may-next script.n a.hand.hand.id x.past a.steps (errand_of call) x.keeps a.asked) in
      let below : row.0 < script.rows = noted-row noted.0 noted.1 in
      let there : bay.empty ≡ false = noted-there below noted.0 noted.1 in
      let low = low-noted below noted.0 noted.1 (noted.2 ∙ own) n may.2 in
      record { below = below; there = there; write = low.0; read = low.1 }

  put-rises : (r : RowNo) (pid n : Number) (cell : Cell) → call.ask.what ≡ Put r pid n cell → call.answer.reply ≡ Done →
      AllBelow n (writes call.bay row earlier) × AllBelow n (reads script call.bay row earlier)
  put-rises r pid n cell what done =
      let low = put-low r pid n cell what done in
      (writes-below low.below low.there n low.write, reads-below low.below low.there n low.read)

  -- A read under stamps
  share-rises : (r : RowNo) (n : Number) (want : Bool) → script.mode ≡ Order → call.ask.what ≡ Share r n want → IsSome (grant_of call.answer.reply) → AllBelow n (writes call.bay row earlier)
  share-rises r n want order what some =
      all-both (λ (y : Number). y.0 ≤ n.0) (λ (y : Number). y.0 ≡ n.0 → ⊥) (λ (y : Number). y.0 < n.0) (writes call.bay row earlier) (λ y le apart. below-from y.0 n.0 le apart)
      (all-map (CoversWrite bay row) (λ (y : Number). y.0 ≤ n.0) (writes call.bay row earlier) (λ m c. let low = c.1 shown.there in omega (arith, low, late))
      (covers-all script is call.bay row below earlier along.0).written)
      (writes-from (λ (y : Number). y.0 ≡ n.0 → ⊥) call.bay row earlier
      (subst (λ (k : Number). AllByRecursion (λ (c : Call). (m : Number) → put_number c.ask.what ≡ Some m → m.0 ≡ k.0 → ⊥) earlier) (sym own)
      (puts-apart script is earlier along.0 call.ask.host a.steps a.hand call a.asked r want (what ∙ ap (λ (y : Number). Share r y want) own))))
    where
      own : n ≡ a.hand.hand.id
      own = is-own n (ap (λ (w : Request). id_of w) what)

      shown : Shown bay call.ask slot n
      shown =
          share-shown bay call.ask slot r n want call.ask.what (outcome_at bay row call).reply (outcome_at bay row call).slot does what
          (subst (λ (y : Reply). IsSome (grant_of y)) reply-is some)

      late : slot.write_no.0 ≤ n.0
      late = shown.late (bay-mode script call.bay earlier ∙ order)

      below : row.0 < script.rows
      below = by row-or-bare
        where
          by : (row.0 < script.rows) ⊎ (slot ≡ bare_slot (number 0)) → row.0 < script.rows
          by (inl inside) = inside
          by (inr bare) = absurd (let bad : false ≡ true = subst (λ (s : Slot). IsSome s.cell) bare shown.cell in cc)

  -- A read under locks
  release-rises : (r : RowNo) (rid n : Number) → script.mode ≡ Lock → call.ask.what ≡ Release r rid (Some n) → call.answer.reply ≡ Done → AllBelow n (writes call.bay row earlier)
  release-rises r rid n lock what done =
      by (release-found bay call.ask slot r rid (Some n) call.ask.what (outcome_at bay row call).reply (outcome_at bay row call).slot does what (sym reply-is ∙ done))
    where
      own : rid ≡ a.hand.hand.id
      own = is-own rid (ap (λ (w : Request). id_of w) what)

      its : x.past.number ≡ Some n
      its = subst (λ (w : Request). FreesWith x.past.number w) what (next-frees x.past.number a.steps (errand_of call) x.frees a.asked) n refl

      -- beside a reader
      read-row : (reader : Reader) → IsIn reader slot.readers → row.0 < script.rows
      read-row reader i = decide row-or-bare
        where
          decide : (row.0 < script.rows) ⊎ (slot ≡ bare_slot (number 0)) → row.0 < script.rows
          decide (inl inside) = inside
          decide (inr bare) = absurd (subst (λ (s : Slot). IsIn reader s.readers) bare i)

      read-there : (row.0 < script.rows) → (reader : Reader) → IsIn reader slot.readers → bay.empty ≡ false
      read-there below reader i = decide bay.empty refl
        where
          decide : (b : Bool) → bay.empty ≡ b → b ≡ false
          decide true e = absurd (subst (λ (xs : List Reader). IsIn reader xs) ((clear-at script is call.bay row below earlier along.0).bare e) i)
          decide false e = refl

      read-low : (row.0 < script.rows) → HasReader a.hand.hand.id slot → IsNumber a.hand.hand.id script.mode (kind_of a.hand.hand.task) x.past p.calls n → slot.write_no.0 < n.0
      read-low below has (Own same order plain) = absurd (let bad : Order ≡ Lock = sym order ∙ lock in cc)
      read-low below has (Drawn late above shown) = reader-low script is call.bay row below earlier along.0 call.ask.host a.steps a.hand (errand_of call) a.asked has n.0 shown

      by : Found bay call.ask slot rid → AllBelow n (writes call.bay row earlier)
      by (inl noted) =
          let found = noted-by slot.note rid noted in
          let below : row.0 < script.rows = noted-row found.0 found.1 in
          writes-below below (noted-there below found.0 found.1) n (low-noted below found.0 found.1 (found.2 ∙ own) n its).0
      by (inr (reader, found)) =
          let sits = found-reader rid slot.readers reader found in
          let below : row.0 < script.rows = read-row reader sits.0 in
          writes-below below (read-there below reader sits.0) n (read-low below (reader, sits.0, sits.1 ∙ own) (x.number n its).is)

  writes-rise : (n : Number) → write_of call.ask.what call.answer.reply ≡ Some n → AllBelow n (writes call.bay row earlier) × AllBelow n (reads script call.bay row earlier)
  writes-rise n e =
      let h = written-as call.ask.what call.answer.reply n e in
      let put = put-as call.ask.what n h.0 in
      put-rises put.0 put.1 n put.2 put.3 h.1

  reads-rise : (n : Number) (mode : Mode) → script.mode ≡ mode → (what : Request) → call.ask.what ≡ what → read_of mode what call.answer.reply ≡ Some n → AllBelow n (writes call.bay row earlier)
  reads-rise n Order m (Share r id want) w e =
      let h = shown-as r id want call.answer.reply n e in
      share-rises r n want m (w ∙ ap (λ (y : Number). Share r y want) h.0) h.1
  reads-rise n Order m (Claim r id how mask want) w e = absurd (let bad : None ≡ Some n = e in cc)
  reads-rise n Order m (Confirm r id want) w e = absurd (let bad : None ≡ Some n = e in cc)
  reads-rise n Order m (Put r id k cell) w e = absurd (let bad : None ≡ Some n = e in cc)
  reads-rise n Order m (Release r id k) w e = absurd (let bad : None ≡ Some n = e in cc)
  reads-rise n Order m Lose w e = absurd (let bad : None ≡ Some n = e in cc)
  reads-rise n Order m Fit w e = absurd (let bad : None ≡ Some n = e in cc)
  reads-rise n Lock m (Release r id k) w e =
      let done : call.answer.reply ≡ Done = lock-read (Release r id k) call.answer.reply n e in
      let same : k ≡ Some n = subst (λ (y : Reply). read_of Lock (Release r id k) y ≡ Some n) done e in
      release-rises r id n m (w ∙ ap (λ (y : Option Number). Release r id y) same) done
  reads-rise n Lock m (Share r id want) w e = absurd (let bad : None ≡ Some n = e in cc)
  reads-rise n Lock m (Claim r id how mask want) w e = absurd (let bad : None ≡ Some n = e in cc)
  reads-rise n Lock m (Confirm r id want) w e = absurd (let bad : None ≡ Some n = e in cc)
  reads-rise n Lock m (Put r id k cell) w e = absurd (let bad : None ≡ Some n = e in cc)
  reads-rise n Lock m Lose w e = absurd (let bad : None ≡ Some n = e in cc)
  reads-rise n Lock m Fit w e = absurd (let bad : None ≡ Some n = e in cc)

-- a history up to a call
pub up-to : (script : Script) (later before : List Call) → IsHistory script (later ++ before) → IsHistory script before
up-to script [] before along = along
up-to script (call ∷ later) before along = up-to script later before along.0

pub numbers_rise : NumbersRise
numbers_rise script later earlier call row n is along of =
    let now : IsHistory script (call ∷ earlier) = up-to script later (call ∷ earlier) along in
    (λ e. writes-rise script is earlier call now row of n e, λ e. reads-rise script is earlier call now row of n script.mode refl call.ask.what refl e)

-- the number of a put that is done is above those of all writes and reads of its slot
pub done-rises : (script : Script) → IsScript script → (earlier : List Call) (call : Call) → IsHistory script (call ∷ earlier) → (row : RowNo) (id n : Number) (cell : Cell) → call.ask.what ≡ Put row id n cell →
    IsDone call → AllBelow n (writes call.bay row earlier) × AllBelow n (reads script call.bay row earlier)
done-rises script is earlier call along row id n cell what done = put-rises script is earlier call along row (ap (λ (w : Request). row_of w) what) row id n cell what done
