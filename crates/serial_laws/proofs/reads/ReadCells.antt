-- What the shares of a read that is done were shown: the cells that the contents below its number give.
use Rattle.std.proofs.Common.{◌≡◌, ◌⊎◌, inl, inr, refl, sym, ap, subst, ◌∙◌, ◌<◌, ◌≤◌, Bool, false, true, List, [], ◌∷◌, ◌++◌, Option, Some, None, arith}
use Rattle.std.specs.List.{AllByRecursion}
use Rattle.std.proofs.lemmas.Bool.{eq-eqb}
use Rattle.raid_base.specs.declared.numbers.BayNo.{BayNo}
use Rattle.raid_base.specs.declared.numbers.HostNo.{HostNo}
use Rattle.raid_base.specs.declared.numbers.RowNo.{RowNo}
use Rattle.raid_base.specs.declared.numbers.Number.{Number}
use Rattle.raid_base.specs.declared.cells.Cell.{Cell}
use Rattle.raid_base.specs.declared.messages.Ask.{Ask}
use Rattle.raid_base.specs.declared.messages.Call.{Call}
use Rattle.raid_base.specs.declared.messages.Errand.{Errand}
use Rattle.raid_base.specs.declared.messages.Grant.{Grant}
use Rattle.raid_base.specs.declared.messages.Mode.{Mode}
use Rattle.raid_base.specs.declared.messages.Mode.TheVariants.{Lock, Order}
use Rattle.raid_base.specs.declared.messages.Request.{Request}
use Rattle.raid_base.specs.declared.messages.Request.TheVariants.{Share, Claim, Confirm, Put, Release, Lose, Fit}
use Rattle.raid_base.specs.declared.messages.Reply.{Reply}
use Rattle.raid_base.specs.declared.messages.Reply.TheVariants.{Granted, Busy, Late, Young, Missing, Held, NoNote, Done, Fault, Emptied, Fitted}
use Rattle.raid_base.specs.Replies.{grant_of, is_fault}
use Rattle.raid_base.specs.Steps.{Steps, next_errand, errand_of}
use Rattle.slot_rules.specs.Slots.{Slot, Bay, slot_of}
use Rattle.slot_rules.specs.Rules.{Outcome, note_id}
use Rattle.slot_rules.specs.Laws.{is_refused}
use Rattle.slot_rules.specs.Laws as slots
use Rattle.slot_rules.specs.Serving as serving
use Rattle.slot_rules.proofs.TableParts.{rule_of-row}
use Rattle.attempts.specs.Discipline.{IsAskable}
use Rattle.attempts.specs.Phases.{IsIn, MayAsk, after_asking}
use Rattle.attempts.specs.Returns.{Holding}
use Rattle.attempts.specs.Sound.{Cells, cell_on, IsThis, GrantShows, ReplyShows}
use Rattle.attempts.specs.Taking.{Finish}
use Rattle.attempts.proofs.ReturnLemmas.{in-either}
use Rattle.script_text.specs.Script.{Script}
use Rattle.script_text.specs.Ranges.{IsScript}
use Rattle.histories.specs.Calls.{Happened, row_of, id_of, read_of}
use Rattle.histories.specs.Hands.{Phased, past_of}
use Rattle.histories.specs.History.{IsHistory, progress_at, bay_at}
use Rattle.histories.proofs.bounds.BoundsTakes.{asks-within}
use Rattle.histories.proofs.bounds.BoundsHistory.{requests_are_bounded}
use Rattle.histories.proofs.smallness.SmallHistory.{are-asked}
use Rattle.histories.proofs.hands.PhasedHands.{phased}
use Rattle.row_laws.specs.Hands.{HasHand, calls_at}
use Rattle.histories.specs.RowStates.{slot_at, cell_at}
use Rattle.serial_laws.specs.Seen.{cells_below}
use Rattle.histories.proofs.accesses.AccessCovers.{covers-all, unnoted}
use Rattle.histories.proofs.accesses.AccessIds.{all-apart}
use Rattle.serial_laws.proofs.contents.ContentCalls.{call-within, call-shown}
use Rattle.serial_laws.proofs.contents.ContentStates.{IsShownOf}
use Rattle.row_laws.proofs.covered.CoveredPutsHands.{in-happened}
use Rattle.row_laws.proofs.hands.HandMoves.{may-next, asked-id}
use Rattle.histories.proofs.steps.LeftSlots.{HasReader}
use Rattle.row_laws.proofs.owners.OwnedPuts.{all-in}
use Rattle.row_laws.proofs.reads.ReadSlots.{SharedAt, reader-shared}
use Rattle.row_laws.proofs.reads.ReadingTrees.{IsReading, IsFreedWith, IsDoneWith, holds, HasSlot, IsFreeing, given-back}
use Rattle.row_laws.proofs.numbers.RisenSlots.{found-reader}
use Rattle.row_laws.proofs.owners.RowOwnersHands.{Asker, asker, happened-in, happened-own}
use Rattle.serial_laws.proofs.reads.Seeing.{reads_see_below}
use Rattle.row_laws.proofs.hands.SlotDoes.{Does, slot-does}
use Rattle.row_laws.proofs.hands.SlotMoves.{outcome_at}
use Rattle.row_laws.proofs.numbers.Risen.{up-to, Found, release-found}
use Rattle.serial_laws.proofs.contents.ContentWriteFacts.{late-stays}

-- Lists of calls. Where a call stands in one
split-at : (c : Call) (history : List Call) → IsIn c history → (later : List Call) × (earlier : List Call) × (later ++ c ∷ earlier ≡ history)
split-at c [] i = absurd i
split-at c (x ∷ xs) (inl same) = ([], xs, ap (λ (y : Call). y ∷ xs) (sym same))
split-at c (x ∷ xs) (inr i) = let s = split-at c xs i in (x ∷ s.0, s.1, ap (λ (ys : List Call). x ∷ ys) s.2)

in-later : (c : Call) (later : List Call) (d : Call) (earlier : List Call) → IsIn c (d ∷ earlier) → IsIn c (later ++ d ∷ earlier)
in-later c [] d earlier i = i
in-later c (x ∷ later) d earlier i = inr (in-later c later d earlier i)

-- once something was released a share may not come any more
freed-late : (calls : List Call) (d : Call) (row : RowNo) (id : Number) (o : Option Number) → IsIn d calls → d.ask.what ≡ Release row id o → 1 ≤ (past_of calls).phase
freed-late [] d row id o i what = absurd i
freed-late (call ∷ earlier) d row id o (inl same) what =
    let asks : call.ask.what ≡ Release row id o = ap (λ (c : Call). c.ask.what) same ∙ what in
    subst (λ (w : Request). 1 ≤ (after_asking (past_of earlier) call.bay w call.answer.reply).phase) (sym asks) (omega arith)
freed-late (call ∷ earlier) d row id o (inr i) what = late-stays (past_of earlier) call.bay call.ask.what call.answer.reply (freed-late earlier d row id o i what)

-- a share that was granted is a read under stamps
granted-read : (row : RowNo) (by : Number) (want : Bool) (reply : Reply) (grant : Grant) → grant_of reply ≡ Some grant → read_of Order (Share row by want) reply ≡ Some by
granted-read row by want (Granted cell read_no write_no last life seized) grant e = refl
granted-read row by want (Busy holder) grant e = absurd (let bad : None ≡ Some grant = e in cc)
granted-read row by want (Late above) grant e = absurd (let bad : None ≡ Some grant = e in cc)
granted-read row by want (Young note) grant e = absurd (let bad : None ≡ Some grant = e in cc)
granted-read row by want (Missing floor) grant e = absurd (let bad : None ≡ Some grant = e in cc)
granted-read row by want (Held cell) grant e = absurd (let bad : None ≡ Some grant = e in cc)
granted-read row by want (NoNote life) grant e = absurd (let bad : None ≡ Some grant = e in cc)
granted-read row by want Done grant e = absurd (let bad : None ≡ Some grant = e in cc)
granted-read row by want Fault grant e = absurd (let bad : None ≡ Some grant = e in cc)
granted-read row by want Emptied grant e = absurd (let bad : None ≡ Some grant = e in cc)
granted-read row by want Fitted grant e = absurd (let bad : None ≡ Some grant = e in cc)

-- a release that was done without a note of its id found a reader
release-reader : (bay : Bay) (ask : Ask) (slot : Slot) (row : RowNo) (id : Number) (o : Option Number) (what : Request) (reply : Reply) (left : Slot) → Does bay ask slot what reply left →
    what ≡ Release row id o → reply ≡ Done → note_id slot.note id ≡ false → HasReader id slot
release-reader bay ask slot row id o what reply left step is done free = by (release-found bay ask slot row id o what reply left step is done)
  where
    by : Found bay ask slot id → HasReader id slot
    by (inl own) = absurd (let bad : true ≡ false = sym own ∙ free in cc)
    by (inr (reader, found)) = let sits = found-reader id slot.readers reader found in (reader, sits.0, sits.1)

module _ (script : Script) (is : IsScript script) where
  -- a call asks what a bay of the array may take
  askable : (earlier : List Call) (call : Call) → IsHistory script (call ∷ earlier) → IsAskable script.rows call.ask.what
  askable earlier call along =
      (asks-within script call.ask.host (progress_at script call.ask.host earlier) _ _ call.ask.moment (record { bay = call.bay; ask = call.ask })
      ((requests_are_bounded script earlier (record { ranges = is }) (are-asked script is earlier along.0)).keeps call.ask.host) along.1.asked).request

  -- a call with the id of an attempt in hand is one of its calls
  own-call : (history : List Call) → IsHistory script history → (host : HostNo) (steps : Steps Finish) (h : HasHand script history host steps) (e : Errand) → next_errand steps ≡ Some e →
      (c : Call) → IsIn c history → id_of c.ask.what ≡ Some h.hand.id → IsIn c (calls_at script history host)
  own-call history along host steps h e asked c i named =
      let among : Happened (λ (x : Call). x ≡ c) history = in-happened (λ (x : Call). x ≡ c) c history i refl in
      let own : Happened (λ (x : Call). x ≡ c) (calls_at script history host) =
      happened-own script is history along host steps h e asked (λ x same. ap (λ (y : Call). id_of y.ask.what) same ∙ named) among in
      let found = happened-in (calls_at script history host) own in
      subst (λ (x : Call). IsIn x (calls_at script history host)) found.2 found.1

  -- no share of an attempt comes after a release of it
  share-first : (later earlier : List Call) (d c : Call) → IsHistory script (later ++ d ∷ earlier) → (id : Number) (at row : RowNo) (o : Option Number) (want : Bool) →
      d.ask.what ≡ Release at id o → c.ask.what ≡ Share row id want → IsIn c later → ⊥
  share-first [] earlier d c along id at row o want frees shares i = i
  share-first (x ∷ later) earlier d c along id at row o want frees shares (inr i) = share-first later earlier d c along.0 id at row o want frees shares i
  share-first (x ∷ later) earlier d c along id at row o want frees shares (inl same) =
      let asks : x.ask.what ≡ Share row id want = ap (λ (y : Call). y.ask.what) same ∙ shares in
      let a : Asker script is (later ++ d ∷ earlier) x = asker script is (later ++ d ∷ earlier) x along.0 along.1 row (ap (λ (w : Request). row_of w) asks) in
      let own : Some id ≡ Some a.hand.hand.id = sym (ap (λ (w : Request). id_of w) asks) ∙ asked-id script is (later ++ d ∷ earlier) x.ask.host a.steps a.hand x a.asked in
      let mine : id ≡ a.hand.hand.id = cc in
      let among : IsIn d (calls_at script (later ++ d ∷ earlier) x.ask.host) =
      own-call (later ++ d ∷ earlier) along.0 x.ask.host a.steps a.hand (errand_of x) a.asked d (in-later d later d earlier (inl refl)) (ap (λ (w : Request). id_of w) frees ∙ own) in
      let f : Phased script.n a.hand.hand.id (calls_at script (later ++ d ∷ earlier) x.ask.host) a.steps =
      phased script is x.ask.host (progress_at script x.ask.host (later ++ d ∷ earlier)) a.steps a.hand.hand in
      let may : MayAsk script.n a.hand.hand.id f.past x.bay (Share row id want) =
      subst (λ (w : Request). MayAsk script.n a.hand.hand.id f.past x.bay w) asks (may-next script.n a.hand.hand.id f.past a.steps (errand_of x) f.keeps a.asked) in
      let late : 1 ≤ (past_of (calls_at script (later ++ d ∷ earlier) x.ask.host)).phase = freed-late (calls_at script (later ++ d ∷ earlier) x.ask.host) d at id o among frees in
      let early : f.past.phase ≤ 0 = may.1 in
      let le : (past_of (calls_at script (later ++ d ∷ earlier) x.ask.host)).phase ≤ f.past.phase = f.same.phase in
      absurd (omega (arith, early, late, le))

  -- A release with a number that was done
  module _ (earlier : List Call) (d : Call) (now : IsHistory script (d ∷ earlier)) (row : RowNo) (id n : Number) (what : d.ask.what ≡ Release row id (Some n)) (done : d.answer.reply ≡ Done) where
    abbrev At : Bay
    At = bay_at script d.bay earlier

    freed-of : row_of d.ask.what ≡ Some row
    freed-of = ap (λ (w : Request). row_of w) what

    freed-below : row.0 < script.rows
    freed-below = (subst (λ (w : Request). IsAskable script.rows w) what (askable earlier d now)).0

    freed-reader : HasReader id (slot_at script earlier d.bay row)
    freed-reader =
        release-reader (At) d.ask (slot_of (At) row) row id (Some n) d.ask.what (outcome_at (At) row d).reply (outcome_at (At) row d).slot
        (slot-does (At) d.ask (slot_of (At) row) (is_fault d.answer.reply) d.ask.what row freed-of) what (sym reply ∙ done) free
      where
        reply : d.answer.reply ≡ (outcome_at (At) row d).reply
        reply = ap (λ (c : Call). c.answer.reply) now.1.replied ∙ ap (λ (x : Outcome). x.reply) (rule_of-row (At) d.ask (is_fault d.answer.reply) d.ask.what row freed-of)

        mine : slots.is_row row (serving.row_of d.ask.what) ≡ true
        mine = subst (λ (w : Request). slots.is_row row (serving.row_of w) ≡ true) (sym what) (eq-eqb row.0 row.0 refl)

        free : note_id (slot_of (At) row).note id ≡ false
        free =
            unnoted script is d.bay row freed-below earlier d now.1 (all-apart script is earlier now.0) (covers-all script is d.bay row freed-below earlier now.0) row id n what mine
            (slot_of (At) row).note refl

  -- The calls of a read that is done
  module _ (history : List Call) (along : IsHistory script history) (calls : List Call) (among : (c : Call) → IsIn c calls → IsIn c history) (n id : Number)
      (mine : AllByRecursion (λ (c : Call). IsReading id c.ask.what) calls) where
    abbrev Table : Cells
    Table = cells_below script history n

    -- a share that was granted
    module _ (c : Call) (i : IsIn c calls) (row : RowNo) (by : Number) (want : Bool) (what : c.ask.what ≡ Share row by want) (grant : Grant) (granted : grant_of c.answer.reply ≡ Some grant) where
      own-id : by ≡ id
      own-id = subst (λ (w : Request). IsReading id w) what (all-in (λ (x : Call). IsReading id x.ask.what) c calls mine i)

      granted-shown : IsThis (cell_on script.n (Table) c.bay row) grant.cell → IsShownOf script.n (Table) c
      granted-shown cell =
          subst (λ (w : Request). ReplyShows script.n (Table) c.bay w c.answer.reply) (sym what)
          (subst (λ (o : Option Grant). GrantShows (cell_on script.n (Table) c.bay row) o) (sym granted) cell)

      order-shown : script.mode ≡ Order → n ≡ id → IsShownOf script.n (Table) c
      order-shown order same = let s = split-at c history (among c i) in at s.0 s.1 s.2
        where
          at : (later earlier : List Call) → later ++ c ∷ earlier ≡ history → IsShownOf script.n (Table) c
          at later earlier split =
              let whole : IsHistory script (later ++ c ∷ earlier) = subst (λ (h : List Call). IsHistory script h) (sym split) along in
              let now : IsHistory script (c ∷ earlier) = up-to script later (c ∷ earlier) whole in
              let of : row_of c.ask.what ≡ Some row = ap (λ (w : Request). row_of w) what in
              let below : row.0 < script.rows = (subst (λ (w : Request). IsAskable script.rows w) what (askable earlier c now)).0 in
              let reads : read_of script.mode c.ask.what c.answer.reply ≡ Some n =
              ap (λ (m : Mode). read_of m c.ask.what c.answer.reply) order ∙ ap (λ (w : Request). read_of Order w c.answer.reply) what
              ∙ granted-read row by want c.answer.reply grant granted ∙ ap (λ (x : Number). Some x) (own-id ∙ sym same) in
              let sees : IsThis (cell_on script.n (cells_below script (later ++ c ∷ earlier) n) c.bay row) (cell_at script earlier row c.bay) =
              reads_see_below script later earlier c row n is whole below (call-within script is earlier c now) of reads in
              call-shown script is earlier c now.1 row below (Table) of
              (subst (λ (h : List Call). IsThis (cell_on script.n (cells_below script h n) c.bay row) (cell_at script earlier row c.bay)) split sees)

      -- and a release of its slot that was done
      module _ (lock : script.mode ≡ Lock) (d : Call) (j : IsIn d calls) (place : d.bay ≡ c.bay) (did : Number) (asks : d.ask.what ≡ Release row did (Some n)) (done : d.answer.reply ≡ Done)
          (later earlier : List Call) (split : later ++ d ∷ earlier ≡ history) where
        whole : IsHistory script (later ++ d ∷ earlier)
        whole = subst (λ (h : List Call). IsHistory script h) (sym split) along

        now : IsHistory script (d ∷ earlier)
        now = up-to script later (d ∷ earlier) whole

        of : row_of d.ask.what ≡ Some row
        of = freed-of earlier d now row did n asks done

        below : row.0 < script.rows
        below = freed-below earlier d now row did n asks done

        reads : read_of Lock d.ask.what d.answer.reply ≡ Some n
        reads = ap (λ (w : Request). read_of Lock w d.answer.reply) asks ∙ ap (λ (r : Reply). read_of Lock (Release row did (Some n)) r) done

        sees : IsThis (cell_on script.n (Table) d.bay row) (cell_at script earlier row d.bay)
        sees =
            subst (λ (h : List Call). IsThis (cell_on script.n (cells_below script h n) d.bay row) (cell_at script earlier row d.bay)) split
            (reads_see_below script later earlier d row n is whole below (call-within script is earlier d now) of (ap (λ (m : Mode). read_of m d.ask.what d.answer.reply) lock ∙ reads))

        a : Asker script is earlier d
        a = asker script is earlier d now.0 now.1 row of

        named : id_of d.ask.what ≡ Some a.hand.hand.id
        named = asked-id script is earlier d.ask.host a.steps a.hand d a.asked

        hand-is : did ≡ a.hand.hand.id
        hand-is = let both : Some did ≡ Some a.hand.hand.id = sym (ap (λ (w : Request). id_of w) asks) ∙ named in cc

        reader : HasReader a.hand.hand.id (slot_at script earlier d.bay row)
        reader = subst (λ (x : Number). HasReader x (slot_at script earlier d.bay row)) hand-is (freed-reader earlier d now row did n asks done)

        stood : SharedAt script earlier d.bay row (calls_at script earlier d.ask.host)
        stood = reader-shared script is earlier now.0 d.bay row below d.ask.host a.steps a.hand d a.asked n reads reader

        shares : c.ask.what ≡ Share row did want
        shares =
            let its : did ≡ id = subst (λ (w : Request). IsReading id w) asks (all-in (λ (x : Call). IsReading id x.ask.what) d calls mine j) in
            what ∙ ap (λ (x : Number). Share row x want) (own-id ∙ sym its)

        before : IsIn c earlier
        before = by_place (in-either c later (d ∷ earlier) (subst (λ (h : List Call). IsIn c h) (sym split) (among c i)))
          where
            by_place : IsIn c later ⊎ IsIn c (d ∷ earlier) → IsIn c earlier
            by_place (inl l) = absurd (share-first later earlier d c whole did row row (Some n) want asks shares l)
            by_place (inr (inl same)) = absurd (let bad : Release row did (Some n) ≡ Share row did want = sym asks ∙ ap (λ (x : Call). x.ask.what) same ∙ shares in cc)
            by_place (inr (inr l)) = l

        called : IsIn c (calls_at script earlier d.ask.host)
        called =
            own-call earlier now.0 d.ask.host a.steps a.hand (errand_of d) a.asked c before
            (ap (λ (w : Request). id_of w) shares ∙ ap (λ (x : Number). Some x) hand-is)

        freed-shown : IsShownOf script.n (Table) c
        freed-shown =
            let shown : grant.cell ≡ Some stood.cell = stood.shown c grant called (sym place, did, want, shares) granted in
            let this : stood.cell ≡ cell_on script.n (Table) d.bay row = subst (λ (o : Option Cell). IsThis (cell_on script.n (Table) d.bay row) o) stood.now sees in
            granted-shown
            (subst (λ (o : Option Cell). IsThis (cell_on script.n (Table) c.bay row) o) (sym shown) (this ∙ ap (λ (b : BayNo). cell_on script.n (Table) b row) place))

      lock-shown : script.mode ≡ Lock → AllByRecursion (IsFreedWith n) calls → holds Lock calls ≡ [] → IsShownOf script.n (Table) c
      lock-shown lock freed none = by_end (given-back id c.bay row calls mine c grant i (refl, by, want, what) granted)
        where
          by_end : HasSlot (record { bay = c.bay; row = row }) (holds Lock calls) ⊎ ((d : Call) × IsIn d calls × IsFreeing c.bay row d) → IsShownOf script.n (Table) c
          by_end (inl held) = absurd (subst (λ (hs : List Holding). HasSlot (record { bay = c.bay; row = row }) hs) none held)
          by_end (inr (d, j, f)) =
              let so = all-in (IsFreedWith n) d calls freed j row f.1 f.2 f.3 in
              let s = split-at d history (among d j) in
              freed-shown lock d j f.0 f.1 (f.3 ∙ ap (λ (x : Option Number). Release row f.1 x) so.0) so.1 s.0 s.1 s.2

    -- all of them
    pub all-shown : IsDoneWith script.mode id calls n → holds script.mode calls ≡ [] → (c : Call) → IsIn c calls → IsShownOf script.n (Table) c
    all-shown done none c i = each c.ask.what refl (all-in (λ (x : Call). IsReading id x.ask.what) c calls mine i)
      where
        shared : (row : RowNo) (by : Number) (want : Bool) → c.ask.what ≡ Share row by want → (o : Option Grant) → grant_of c.answer.reply ≡ o → IsShownOf script.n (Table) c
        shared row by want what None e =
            subst (λ (w : Request). ReplyShows script.n (Table) c.bay w c.answer.reply) (sym what) (subst (λ (o : Option Grant). GrantShows (cell_on script.n (Table) c.bay row) o) (sym e) tt)
        shared row by want what (Some grant) e = modes script.mode refl
          where
            modes : (m : Mode) → script.mode ≡ m → IsShownOf script.n (Table) c
            modes Order order = order-shown c i row by want what grant e order (done.order order)
            modes Lock lock = lock-shown c i row by want what grant e lock (done.lock lock) (subst (λ (m : Mode). holds m calls ≡ []) lock none)

        each : (w : Request) → c.ask.what ≡ w → IsReading id w → IsShownOf script.n (Table) c
        each (Share row by want) what so = shared row by want what (grant_of c.answer.reply) refl
        each (Release row by o) what so = subst (λ (w : Request). ReplyShows script.n (Table) c.bay w c.answer.reply) (sym what) tt
        each (Claim row by how mask want) what so = absurd so
        each (Confirm row by want) what so = absurd so
        each (Put row by k cell) what so = absurd so
        each Lose what so = absurd so
        each Fit what so = absurd so
