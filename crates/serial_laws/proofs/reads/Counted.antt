-- What the parity of a row counts, and what its units have taken since it was put. What a unit has taken since then was put by the
-- one write from which the parity's note came, all with the number that the write puts the parity with; and a rebuild or a recovery
-- puts the parity with a number above all that the units have taken.
use Rattle.std.proofs.Common.{◌≡◌, ◌⊎◌, inl, inr, refl, sym, ap, subst, ◌∙◌, ℕ, ◌+◌, ◌-◌, ◌<◌, ◌≤◌, Bool, true, false, if◌then◌else◌, List, [], ◌∷◌, ◌++◌, Option, Some, None, is_some, arith}
use Rattle.std.specs.List.{AllByRecursion}
use Rattle.raid_base.specs.declared.numbers.BayNo.{BayNo}
use Rattle.raid_base.specs.declared.numbers.RowNo.{RowNo}
use Rattle.raid_base.specs.declared.numbers.Number.{Number}
use Rattle.raid_base.specs.declared.cells.Cell.{Cell}
use Rattle.raid_base.specs.declared.messages.How.{How}
use Rattle.raid_base.specs.declared.messages.How.TheVariants.{Plain, Seize}
use Rattle.raid_base.specs.declared.messages.Note.{Note}
use Rattle.raid_base.specs.declared.messages.Request.{Request}
use Rattle.raid_base.specs.declared.messages.Request.TheVariants.{Claim, Put}
use Rattle.raid_base.specs.declared.messages.Call.{Call}
use Rattle.raid_base.specs.declared.jobs.Task.{Task}
use Rattle.raid_base.specs.declared.jobs.Task.TheVariants as tasks
use Rattle.raid_base.specs.declared.names.Name.{Name}
use Rattle.raid_base.specs.Steps.{Commit, errand_of}
use Rattle.stripe_layout.specs.Placement.{parity_bay, bay_of, bays_of}
use Rattle.attempts.specs.Phases.{IsIn}
use Rattle.attempts.proofs.OnceClaims.{claims_are_of_their_kind}
use Rattle.script_text.specs.Script.{Script}
use Rattle.script_text.specs.Ranges.{IsScript}
use Rattle.histories.specs.Calls.{Happened, row_of, id_of, IsPut, IsDone}
use Rattle.histories.specs.Torn.{IsWriteClaim}
use Rattle.histories.specs.History.{IsHistory}
use Rattle.histories.specs.RowStates.{slot_at, cell_at}
use Rattle.row_laws.specs.Hands.{calls_at, IsPutter, IsRecoveryOf, IsAnswered}
use Rattle.row_laws.specs.Holding.{HasNote, CameFrom, Owns}
use Rattle.histories.specs.Accesses.{writes, AllBelow}
use Rattle.row_laws.specs.Laws.{IsWrite, IsPutSince}
use Rattle.serial_laws.specs.Contents.{is_parity_put}
use Rattle.serial_laws.specs.Rising.{Taken, taken_at}
use Rattle.serial_laws.specs.Seen.{counted_at, IsCounted, ParitiesCount}
use Rattle.row_laws.proofs.hands.HandClaims.{kind_of, made-kind}
use Rattle.row_laws.proofs.holders.HolderNotesCalls.{in-history}
use Rattle.row_laws.proofs.owners.OwnedPuts.{all-in, putter, puts_are_of_owners}
use Rattle.row_laws.proofs.owners.RowOwnersTrees.{IsTaking, IsGranted, HasClaimed, AreAnswered}
use Rattle.row_laws.proofs.owners.RowOwnersHands.{Asker, asker, happened-in, happened-own}
use Rattle.row_laws.proofs.owners.RowOwnersCalls.{unit-in}
use Rattle.row_laws.proofs.owners.RowOwnersTasks.{recovery-asks, rebuild-asks}
use Rattle.row_laws.proofs.covered.CoveredPutsSlots.{IsGrantedClaim, origin-granted}
use Rattle.row_laws.proofs.covered.CoveredPutsHands.{in-happened}
use Rattle.row_laws.proofs.covered.CoveredPuts.{came-some, granted-write, Covered, covered}
use Rattle.serial_laws.proofs.contents.ContentPutters.{own-noted, own-origin, mends-keep}
use Rattle.serial_laws.proofs.contents.ContentPuts.{commits-are, may-put, mend-puts}
use Rattle.serial_laws.proofs.contents.ContentRows.{Stands, stands}
use Rattle.serial_laws.proofs.contents.ContentSlots.{CellTurn, Same, Bare, Filled, cell-turned, ParityPut, parity-put, puts-parity}
use Rattle.serial_laws.proofs.contents.ContentTrees.{MayPut, Writes, Rebuilds, Recovers}
use Rattle.serial_laws.proofs.contents.ContentWriteFacts.{one-origin}
use Rattle.serial_laws.proofs.contents.ContentWriteParity as parity_writes
use Rattle.row_laws.proofs.numbers.RisingClaims.{WriteMove, Quiet, Wrote, write-moved, Covering}
use Rattle.serial_laws.proofs.rising.RisingCommits.{TakesOne, taken-moved}
use Rattle.serial_laws.proofs.rising.RisingPuts.{calls-named, number-above, id-least}
use Rattle.serial_laws.proofs.rising.RisingShown.{UnitShown, unit-covered}
use Rattle.serial_laws.proofs.rising.Rising.{wrote-below, covered-below, facts}
use Rattle.row_laws.proofs.numbers.PutNumbers.{puts-alike}
use Rattle.serial_laws.proofs.reads.CountedShown.{answered-covered, granted-covered}
use Rattle.row_laws.proofs.hands.HandMoves.{id-is-own}
use Rattle.row_laws.proofs.numbers.Risen.{done-rises}

-- Lists of contents
abbrev All : (Taken → Type 0) → List Taken → Type 0
All P ts = AllByRecursion P ts

all-taken : (P Q : Taken → Type 0) → ((t : Taken) → P t → Q t) → (ts : List Taken) → All P ts → All Q ts
all-taken P Q f [] h = tt
all-taken P Q f (t ∷ ts) h = (f t h.0, all-taken P Q f ts h.1)

all-joined : (P : Taken → Type 0) (xs ys : List Taken) → All P xs → All P ys → All P (xs ++ ys)
all-joined P [] ys h k = k
all-joined P (x ∷ xs) ys h k = (h.0, all-joined P xs ys h.1 k)

module _ (script : Script) (is : IsScript script) (row : RowNo) (below : row.0 < script.rows) (unit : ℕ) (inside : unit + 1 < script.n) where
  abbrev P : BayNo
  P = parity_bay script.n row

  abbrev U : BayNo
  U = bay_of script.n row unit

  abbrev Takens : List Call → List Taken
  Takens history = taken_at script history row unit

  abbrev Counteds : List Call → List Taken
  Counteds history = counted_at script history row unit

  abbrev IsThere : List Call → Type 0
  IsThere history = cell_at script history row (parity_bay script.n row) ≡ None → ⊥

  -- a write with this id has put the unit, and the parity was not put since
  record Since (history : List Call) (id : Number) : Type 0 where
    later : List Call
    earlier : List Call
    call : Call
    split : history ≡ later ++ call ∷ earlier
    put : IsPut (bay_of script.n row unit) row id call
    done : IsDone call
    write : IsWrite script.n row id earlier
    quiet : IsPutSince script.n row later → ⊥

  -- a put of the row with this id and number
  abbrev IsNumbered : Number → Number → Call → Type 0
  IsNumbered id k call = (cell : Cell) × (call.ask.what ≡ Put row id k cell)

  -- a content with the number of such a put, which is not below its id
  record IsGiven (history : List Call) (id : Number) (t : Taken) : Type 0 where
    least : id.0 ≤ t.number.0
    put : Happened (IsNumbered id t.number) history

  -- all of these are of one write
  record AreOfOne (history : List Call) (newer : List Taken) : Type 0 where
    id : Number
    since : Since history id
    each : AllByRecursion (λ t. IsGiven history id t) newer

  -- What has been taken since the parity was put is of one write, and what was taken before is below
  record Counts (history : List Call) : Type 0 where
    newer : List Taken
    split : taken_at script history row unit ≡ newer ++ counted_at script history row unit
    given : (newer ≡ []) ⊎ AreOfOne history newer
    low : (m : Number) → AllBelow m (writes (parity_bay script.n row) row history) → AllByRecursion (λ (t : Taken). t.number.0 < m.0) (counted_at script history row unit)

  -- the parity's note came from that write
  from-since : (history : List Call) → IsHistory script history → IsThere history → (id : Number) → Since history id → CameFrom id (slot_at script history (P) row).note
  from-since history along there id s =
      by (subst (λ (h : List Call). Covered script is row below unit inside id h) (sym s.split)
      (covered script is row below unit inside id s.later s.earlier s.call (subst (λ (h : List Call). IsHistory script h) s.split along) s.write s.put s.done s.quiet))
    where
      by : Covered script is row below unit inside id history → CameFrom id (slot_at script history (P) row).note
      by (inl none) = absurd (there none)
      by (inr (note, c)) = subst (λ (o : Option Note). CameFrom id o) (sym c.noted) c.origin

  -- A put of the row
  module _ (earlier : List Call) (call : Call) (along : IsHistory script (call ∷ earlier)) (id n : Number) (cell : Cell) (what : call.ask.what ≡ Put row id n cell) (done : IsDone call) where
    abbrev Calls : List Call
    Calls = calls_at script earlier call.ask.host

    a : Asker script is earlier call
    a = asker script is earlier call along.0 along.1 row (ap (λ (w : Request). row_of w) what)

    -- above what a claim of its attempt covers
    above-covered : (c : Call) → IsIn c Calls → (ns : List Number) → Covering script.mode c ns → (kind_of a.hand.hand.task ≡ Plain → ⊥) → AllBelow n ns
    above-covered c i ns cover odd =
        covered-below script c ns cover n
        (number-above script is earlier call.ask.host a.steps a.hand call a.asked row id n cell what c i cover.number cover.shown (λ order plain. absurd (odd plain)))

    -- of the parity
    module _ (place : call.bay ≡ P) where
      abbrev IsLow : List Taken → Type 0
      IsLow ts = AllByRecursion (λ (t : Taken). t.number.0 ≤ n.0) ts

      above : AllBelow n (writes (P) row earlier)
      above = subst (λ (b : BayNo). AllBelow n (writes b row earlier)) place (done-rises script is earlier call along row id n cell what done).0

      stood : Stands script earlier
      stood = stands script is earlier along.0

      noted : HasNote a.hand.hand.id (slot_at script earlier (P) row).note
      noted = own-noted script is earlier call along row below (P) id n cell place what done a.steps a.hand a.asked

      under : (ts : List Taken) → All (λ t. t.number.0 < n.0) ts → IsLow ts
      under ts h = all-taken (λ (t : Taken). t.number.0 < n.0) (λ (t : Taken). t.number.0 ≤ n.0) (λ t less. omega (arith, less)) ts h

      by-either : AllBelow n (writes (U) row earlier) → IsLow (Takens earlier)
      by-either units = under (Takens earlier) ((facts script is row below unit inside earlier along.0).either n units above)

      -- by a write
      module _ (object : Name) (first from count : ℕ) (writes_it : a.hand.hand.task ≡ tasks.Write object first from count) where
        there : IsThere earlier
        there = parity_writes.there script is earlier call along (stood).holds (stood).owned (stood).shown row below place id n cell what done a.steps a.hand a.asked object first from count writes_it

        came : CameFrom a.hand.hand.id (slot_at script earlier (P) row).note
        came = parity_writes.came script is earlier call along (stood).holds (stood).owned (stood).shown row below place id n cell what done a.steps a.hand a.asked object first from count writes_it

        given-low : (other : Number) → other ≡ a.hand.hand.id → (t : Taken) → IsGiven earlier other t → t.number.0 ≤ n.0
        given-low other own t g =
            let mine =
            happened-own script is earlier along.0 call.ask.host a.steps a.hand (errand_of call) a.asked (λ c q. ap (λ (w : Request). id_of w) q.1 ∙ ap (λ (x : Number). Some x) own) g.put in
            let c = happened-in Calls mine in
            let same : t.number ≡ n = puts-alike script is earlier call.ask.host a.steps a.hand call a.asked row id n cell what c.0 c.1 row other t.number c.2.0 c.2.1 in
            let one : t.number.0 ≡ n.0 = ap (λ (x : Number). x.0) same in
            omega (arith, one)

        newer-low : (newer : List Taken) → (newer ≡ []) ⊎ AreOfOne earlier newer → IsLow newer
        newer-low newer (inl none) = subst (λ (ts : List Taken). IsLow ts) (sym none) tt
        newer-low newer (inr one) =
            all-taken (λ (t : Taken). IsGiven earlier one.id t) (λ (t : Taken). t.number.0 ≤ n.0)
            (given-low one.id (one-origin one.id a.hand.hand.id (slot_at script earlier (P) row).note (from-since earlier along.0 there one.id one.since) came)) newer one.each

        write-low : Counts earlier → IsLow (Takens earlier)
        write-low c =
            subst (λ (ts : List Taken). IsLow ts) (sym c.split)
            (all-joined (λ (t : Taken). t.number.0 ≤ n.0) c.newer (Counteds earlier) (newer-low c.newer c.given) (under (Counteds earlier) (c.low n above)))

      -- by a recovery
      recovery-low : (at : RowNo) → a.hand.hand.task ≡ tasks.Recover at → IsLow (Takens earlier)
      recovery-low at recovers = got (asks.1 (bay_of script.n at unit) (unit-in script.n at unit 0 (script.n - 1) (omega arith) (omega (arith, inside))))
        where
          asks : (row ≡ at) × AreAnswered script.n at [] Calls
          asks = (recovery-asks claims_are_of_their_kind script is earlier along.0 call.ask.host a.steps a.hand (errand_of call) a.asked at recovers).puts row id n cell what

          odd : kind_of a.hand.hand.task ≡ Plain → ⊥
          odd plain = let bad : kind_of (tasks.Recover at) ≡ Plain = subst (λ (t : Task). kind_of t ≡ Plain) recovers plain in absurd (cc)

          got : IsIn (bay_of script.n at unit) (bays_of script.n at []) ⊎ Happened (IsAnswered (bay_of script.n at unit) at) Calls → IsLow (Takens earlier)
          got (inl i) = absurd i
          got (inr answered) =
              let c = happened-in Calls (subst (λ (r : RowNo). Happened (IsAnswered (bay_of script.n r unit) r) Calls) (sym asks.0) answered) in
              by-either
              (above-covered c.0 c.1 (writes (U) row earlier)
              (answered-covered script is row below unit inside earlier along.0 call.ask.host a.steps a.hand (subst (λ (t : Task). IsRecoveryOf row t) (sym recovers) (sym asks.0)) noted c.0 c.1 c.2) odd)

      -- by a rebuild
      module _ (bay : BayNo) (mends : a.hand.hand.task ≡ tasks.Rebuild bay) where
        not-plain : kind_of a.hand.hand.task ≡ Plain → ⊥
        not-plain plain = let bad : kind_of (tasks.Rebuild bay) ≡ Plain = subst (λ (t : Task). kind_of t ≡ Plain) mends plain in absurd (cc)

        not-seizing : kind_of a.hand.hand.task ≡ Seize → ⊥
        not-seizing seizes = let bad : kind_of (tasks.Rebuild bay) ≡ Seize = subst (λ (t : Task). kind_of t ≡ Seize) mends seizes in absurd (cc)

        claimed : HasClaimed script.n row [] Calls
        claimed =
            let asks = rebuild-asks claims_are_of_their_kind script is earlier along.0 call.ask.host a.steps a.hand (errand_of call) a.asked bay mends row id n cell what in
            subst (λ (r : RowNo). HasClaimed script.n r [] Calls) (sym asks.0) asks.1

        not-put : (x : Call) → IsIn x Calls → (by k : Number) (other : Cell) → x.ask.what ≡ Put row by k other → ⊥
        not-put x i by k other put = subst IsTaking put (all-in (λ (y : Call). IsTaking y.ask.what) x Calls (claimed).only i)

        covers : (c : Call) → IsIn c Calls → IsGranted (U) row c → (o : Option Cell) → cell_at script earlier row (P) ≡ o → Covering script.mode c (writes (U) row earlier)
        covers c i granted None e =
            granted-covered script is row below unit inside earlier along.0 call.ask.host a.steps a.hand
            (record {
              bay = bay;
              task = mends;
              noted = noted;
              bare = e;
              only = (claimed).only;
              next = (mends-keep script is earlier call along row below (P) id n cell place what done a.steps a.hand a.asked bay mends).next;
            }) c i granted.0 granted.1
        covers c i granted (Some old) e =
            by (unit-covered script is row below unit inside earlier along.0 a.hand.hand.id
            (own-origin script is earlier call along row below (P) id n cell place what done a.steps a.hand a.asked not-seizing)
            (λ none. (let bad : None ≡ Some old = sym none ∙ e in absurd (cc))) c (in-history script is earlier along.0 call.ask.host a.steps a.hand c i)
            (granted.0, calls-named script is earlier call.ask.host a.steps a.hand c i, inl granted.1))
          where
            by : UnitShown script is row below unit inside a.hand.hand.id c earlier → Covering script.mode c (writes (U) row earlier)
            by (inl cover) = cover
            by (inr put) =
                let mine = happened-own script is earlier along.0 call.ask.host a.steps a.hand (errand_of call) a.asked (λ x q. ap (λ (w : Request). id_of w) q.0.3) put in
                let x = happened-in Calls mine in
                absurd (not-put x.0 x.1 a.hand.hand.id x.2.0.1 x.2.0.2 x.2.0.3)

        mend-low : IsLow (Takens earlier)
        mend-low = got ((claimed).got (U) (inr (unit-in script.n row unit 0 (script.n - 1) (omega arith) (omega (arith, inside)))))
          where
            got : IsIn (U) [] ⊎ Happened (IsGranted (U) row) Calls → IsLow (Takens earlier)
            got (inl i) = absurd i
            got (inr granted) =
                let c = happened-in Calls granted in
                by-either (above-covered c.0 c.1 (writes (U) row earlier) (covers c.0 c.1 c.2 (cell_at script earlier row (P)) refl) not-plain)

      put-low : (IsThere earlier → Counts earlier) → IsLow (Takens earlier)
      put-low rest = by (may-put script is earlier call a.steps a.hand a.asked row id n cell what)
        where
          by : MayPut a.hand.hand.task → IsLow (Takens earlier)
          by (Writes object first from count writes_it) = write-low object first from count writes_it (rest (there object first from count writes_it))
          by (Rebuilds bay mends) = mend-low bay mends
          by (Recovers at recovers) = recovery-low at recovers

      -- with what the put itself gives
      put-now : (IsThere earlier → Counts earlier) → IsLow (Takens (call ∷ earlier))
      put-now rest = by (taken-moved script is earlier call along row unit)
        where
          one : (t : TakesOne script earlier call row unit) → t.number.0 ≤ n.0
          one t =
              let both : Put row t.id t.number t.cell ≡ Put row id n cell = sym t.what ∙ what in
              let same : t.number ≡ n = cc in
              let equal : t.number.0 ≡ n.0 = ap (λ (x : Number). x.0) same in
              omega (arith, equal)

          by : (Takens (call ∷ earlier) ≡ Takens earlier) ⊎ TakesOne script earlier call row unit → IsLow (Takens (call ∷ earlier))
          by (inl same) = subst (λ (ts : List Taken). IsLow ts) (sym same) (put-low rest)
          by (inr t) = subst (λ (ts : List Taken). IsLow ts) (sym t.now) (one t, put-low rest)

    -- of the unit, that gives it a content: by a write
    module _ (place : call.bay ≡ U) (t : TakesOne script earlier call row unit) (from : CameFrom id (slot_at script earlier (P) row).note) where
      own : id ≡ a.hand.hand.id
      own = id-is-own script is earlier call.ask.host a.steps a.hand call a.asked id (ap (λ (w : Request). id_of w) what)

      plain : kind_of a.hand.hand.task ≡ Plain
      plain = by (may-put script is earlier call a.steps a.hand a.asked row id n cell what)
        where
          by : MayPut a.hand.hand.task → kind_of a.hand.hand.task ≡ Plain
          by (Writes object first from count writes_it) = subst (λ (x : Task). kind_of x ≡ Plain) (sym writes_it) refl
          by (Rebuilds bay mends) =
              absurd
              (subst (λ (cs : List Commit). IsIn t.commit cs)
              (commits-are script is earlier call a.steps a.hand a.asked done ∙ (mend-puts script is earlier call a.steps a.hand a.asked bay mends).none) t.among)
          by (Recovers at recovers) = absurd (subst IsPutter recovers (putter script is earlier call along row unit below inside id n cell place what done a.steps a.hand a.asked))

      is-write : IsWrite script.n row id earlier
      is-write = by (came-some id (slot_at script earlier (P) row).note from)
        where
          by : (note : Note) × ((slot_at script earlier (P) row).note ≡ Some note) × (note.origin ≡ id) → IsWrite script.n row id earlier
          by (note, noted, origin) =
              let granted : Happened (IsGrantedClaim (P) row id note.mask) earlier =
              subst (λ (x : Number). Happened (IsGrantedClaim (P) row x note.mask) earlier) origin (origin-granted script is (P) row below earlier along.0 note noted) in
              let found = happened-in earlier granted in
              let mine : Happened (λ x. (x ≡ found.0) × IsGrantedClaim (P) row id note.mask x) Calls =
              happened-own script is earlier along.0 call.ask.host a.steps a.hand (errand_of call) a.asked (λ c q. ap (λ (w : Request). id_of w) q.1.0.3 ∙ ap (λ (x : Number). Some x) own)
              (in-happened (λ x. (x ≡ found.0) × IsGrantedClaim (P) row id note.mask x) found.0 earlier found.1 (refl, found.2)) in
              let c = happened-in Calls mine in
              let claim : IsGrantedClaim (P) row id note.mask c.0 = c.2.1 in
              let kind : claim.0.1 ≡ Plain = (made-kind script is earlier call.ask.host a.steps a.hand c.0 c.1 row id claim.0.1 note.mask claim.0.2 claim.0.3).0 ∙ plain in
              let write : IsWriteClaim script.n row id note.mask c.0 =
              (claim.0.0, claim.0.2, claim.0.3 ∙ ap (λ (how : How). Claim row id how note.mask claim.0.2) kind, claim.1, claim.2) in
              granted-write script.n row id note.mask earlier
              (in-happened (IsWriteClaim script.n row id note.mask) found.0 earlier found.1 (subst (λ (x : Call). IsWriteClaim script.n row id note.mask x) c.2.0 write))

      least : id.0 ≤ n.0
      least =
          let low : a.hand.hand.id.0 ≤ n.0 = id-least script is earlier call.ask.host a.steps a.hand call a.asked row id n cell what in
          let same : id.0 ≡ a.hand.hand.id.0 = ap (λ (x : Number). x.0) own in
          omega (arith, low, same)

  -- A call
  module _ (earlier : List Call) (call : Call) (along : IsHistory script (call ∷ earlier)) (rest : IsThere earlier → Counts earlier) where
    -- a put of the parity counts all
    put-counts : is_parity_put script.n row call ≡ true → Counts (call ∷ earlier)
    put-counts e = record { newer = []; split = sym all; given = inl refl; low = λ m above. subst (λ (ts : List Taken). All (λ t. t.number.0 < m.0) ts) (sym all) (under m above) }
      where
        put : ParityPut script.n row call
        put = parity-put script.n row call e

        all : Counteds (call ∷ earlier) ≡ Takens (call ∷ earlier)
        all = ap (λ (b : Bool). if b then taken_at script (call ∷ earlier) row unit else counted_at script earlier row unit) e

        under : (m : Number) → AllBelow m (writes (P) row (call ∷ earlier)) → All (λ t. t.number.0 < m.0) (Takens (call ∷ earlier))
        under m above =
            let less : put.number.0 < m.0 = wrote-below (P) row call earlier put.id put.number put.cell put.place put.what put.done m above in
            all-taken (λ (t : Taken). t.number.0 ≤ put.number.0) (λ (t : Taken). t.number.0 < m.0) (λ t low. omega (arith, low, less)) (Takens (call ∷ earlier))
            (put-now earlier call along put.id put.number put.cell put.what put.done put.place rest)

    -- Another call
    module _ (e : is_parity_put script.n row call ≡ false) (there : IsThere (call ∷ earlier)) where
      no-put : (id n : Number) (cell : Cell) → call.bay ≡ P → call.ask.what ≡ Put row id n cell → IsDone call → ⊥
      no-put id n cell place what done = let bad : true ≡ false = sym (puts-parity script.n row call id n cell place what done) ∙ e in absurd (cc)

      there-before : IsThere earlier
      there-before none = by (cell-turned script is earlier call along.1 (P) row below)
        where
          by : CellTurn (cell_at script earlier row (P)) (P) row call (cell_at script (call ∷ earlier) row (P)) → ⊥
          by (Same now) = there (now ∙ none)
          by (Bare now) = there now
          by (Filled place id n cell what done now) = no-put id n cell place what done

      old : Counts earlier
      old = rest there-before

      writes-same : writes (P) row (call ∷ earlier) ≡ writes (P) row earlier
      writes-same = by (write-moved (P) row call earlier)
        where
          by : WriteMove (P) row call earlier → writes (P) row (call ∷ earlier) ≡ writes (P) row earlier
          by (Quiet same) = same
          by (Wrote place id n cell what done now) = absurd (no-put id n cell place what done)

      counted-same : Counteds (call ∷ earlier) ≡ Counteds earlier
      counted-same = ap (λ (b : Bool). if b then taken_at script (call ∷ earlier) row unit else counted_at script earlier row unit) e

      low-still : (m : Number) → AllBelow m (writes (P) row (call ∷ earlier)) → All (λ t. t.number.0 < m.0) (Counteds (call ∷ earlier))
      low-still m above =
          subst (λ (ts : List Taken). All (λ t. t.number.0 < m.0) ts) (sym counted-same) (old.low m (subst (λ (ns : List Number). AllBelow m ns) writes-same above))

      each-later : (id : Number) (ts : List Taken) → All (λ t. IsGiven earlier id t) ts → All (λ t. IsGiven (call ∷ earlier) id t) ts
      each-later id ts h = all-taken (λ (t : Taken). IsGiven earlier id t) (λ (t : Taken). IsGiven (call ∷ earlier) id t) (λ t g. record { least = g.least; put = inr g.put }) ts h

      since-later : (id : Number) → Since earlier id → Since (call ∷ earlier) id
      since-later id s = record {
        later = call ∷ s.later;
        earlier = s.earlier;
        call = s.call;
        split = ap (λ (cs : List Call). call ∷ cs) s.split;
        put = s.put;
        done = s.done;
        write = s.write;
        quiet = both;
      }
        where
          both : IsPutSince script.n row (call ∷ s.later) → ⊥
          both (inl (id, put, done)) = no-put id put.1 put.2 put.0 put.3 done
          both (inr since) = s.quiet since

      -- that gives nothing
      stays : Takens (call ∷ earlier) ≡ Takens earlier → Counts (call ∷ earlier)
      stays same = record {
        newer = old.newer;
        split = same ∙ old.split ∙ ap (λ (ts : List Taken). old.newer ++ ts) (sym counted-same);
        given = later old.given;
        low = low-still;
      }
        where
          later : (old.newer ≡ []) ⊎ AreOfOne earlier old.newer → (old.newer ≡ []) ⊎ AreOfOne (call ∷ earlier) old.newer
          later (inl none) = inl none
          later (inr one) = inr (record { id = one.id; since = since-later one.id one.since; each = each-later one.id old.newer one.each })

      -- that gives the unit a content
      takes : TakesOne script earlier call row unit → Counts (call ∷ earlier)
      takes t = placed t.place
        where
          new_one : Taken
          new_one = record { number = t.number; content = t.commit.content }

          by-write : call.bay ≡ U → CameFrom t.id (slot_at script earlier (P) row).note → Counts (call ∷ earlier)
          by-write place from = record {
            newer = new_one ∷ old.newer;
            split = t.now ∙ ap (λ (ts : List Taken). new_one ∷ ts) (old.split ∙ ap (λ (ts : List Taken). old.newer ++ ts) (sym counted-same));
            given = inr (record {
              id = t.id;
              since = record {
                later = [];
                earlier = earlier;
                call = call;
                split = refl;
                put = (place, t.number, t.cell, t.what);
                done = t.done;
                write = is-write earlier call along t.id t.number t.cell t.what t.done place t from;
                quiet = λ since. since;
              };
              each = (record { least = least earlier call along t.id t.number t.cell t.what t.done place t from; put = inl (t.cell, t.what) }, each-later t.id old.newer (before old.given));
            });
            low = low-still;
          }
            where
              before : (old.newer ≡ []) ⊎ AreOfOne earlier old.newer → All (λ x. IsGiven earlier t.id x) old.newer
              before (inl none) = subst (λ (ts : List Taken). All (λ x. IsGiven earlier t.id x) ts) (sym none) tt
              before (inr one) =
                  subst (λ (y : Number). All (λ x. IsGiven earlier y x) old.newer)
                  (one-origin one.id t.id (slot_at script earlier (P) row).note (from-since earlier along.0 there-before one.id one.since) from) one.each

          owned : call.bay ≡ U → Owns script earlier row t.id → Counts (call ∷ earlier)
          owned place (inl none) = absurd (there-before none)
          owned place (inr from) = by-write place from

          placed : (call.bay ≡ U) ⊎ (call.bay ≡ P) → Counts (call ∷ earlier)
          placed (inl place) = owned place (puts_are_of_owners script earlier call is along row unit t.id below inside (place, t.number, t.cell, t.what) t.done)
          placed (inr place) = absurd (no-put t.id t.number t.cell place t.what t.done)

      other-counts : Counts (call ∷ earlier)
      other-counts = by (taken-moved script is earlier call along row unit)
        where
          by : (Takens (call ∷ earlier) ≡ Takens earlier) ⊎ TakesOne script earlier call row unit → Counts (call ∷ earlier)
          by (inl same) = stays same
          by (inr t) = takes t

    counts-next : IsThere (call ∷ earlier) → Counts (call ∷ earlier)
    counts-next there = by (is_parity_put script.n row call) refl
      where
        by : (b : Bool) → is_parity_put script.n row call ≡ b → Counts (call ∷ earlier)
        by true e = put-counts e
        by false e = other-counts e there

  counts : (history : List Call) → IsHistory script history → IsThere history → Counts history
  counts [] along has = record { newer = []; split = refl; given = inl refl; low = λ m above. tt }
  counts (call ∷ earlier) along has = counts-next earlier call along (λ before. counts earlier along.0 before) has

  counted : (history : List Call) → IsHistory script history → IsThere history → IsCounted script history row unit
  counted history along there = record { newer = c.newer; split = c.split; noted = by c.given; counted = c.low }
    where
      c : Counts history
      c = counts history along there

      by : (c.newer ≡ []) ⊎ AreOfOne history c.newer → (c.newer ≡ []) ⊎ ((note : Note) × ((slot_at script history (P) row).note ≡ Some note) × AllByRecursion (λ (t : Taken). note.origin.0 ≤ t.number.0) c.newer)
      by (inl none) = inl none
      by (inr one) = noted (came-some one.id (slot_at script history (P) row).note (from-since history along there one.id one.since))
        where
          noted : (note : Note) × ((slot_at script history (P) row).note ≡ Some note) × (note.origin ≡ one.id) →
              (c.newer ≡ []) ⊎ ((note : Note) × ((slot_at script history (P) row).note ≡ Some note) × AllByRecursion (λ (t : Taken). note.origin.0 ≤ t.number.0) c.newer)
          noted (note, is_note, origin) = inr (
            note,
            is_note,
            all-taken (λ (t : Taken). IsGiven history one.id t) (λ (t : Taken). note.origin.0 ≤ t.number.0)
                (λ t g. (let low = g.least in let same : note.origin.0 ≡ one.id.0 = ap (λ (x : Number). x.0) origin in omega (arith, low, same))) c.newer one.each,
          )

pub parities_count : ParitiesCount
parities_count script history is along row unit below inside some = counted script is row below unit inside history along (λ none. (let bad : false ≡ true = sym (ap (λ (o : Option Cell). is_some o) none) ∙ some in absurd (cc)))
