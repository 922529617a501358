-- Contents rise: each content that a unit takes has a number above those that it took before. What it took came with the numbers of
-- writes of its slot and of its parity's. While the unit has a cell, those of its slot alone cover them.
use Rattle.std.proofs.Common.{◌≡◌, ◌⊎◌, inl, inr, refl, sym, ap, subst, ◌∙◌, ℕ, ◌+◌, ◌<◌, ◌≤◌, Bool, if◌then◌else◌, List, [], ◌∷◌, Option, Some, None, IsSome, is_some, arith}
use Rattle.std.specs.List.{AllByRecursion}
use Rattle.raid_base.specs.declared.numbers.BayNo.{BayNo}
use Rattle.raid_base.specs.declared.numbers.RowNo.{RowNo}
use Rattle.raid_base.specs.declared.numbers.Number.{Number}
use Rattle.raid_base.specs.declared.cells.Cell.{Cell}
use Rattle.raid_base.specs.declared.messages.Call.{Call}
use Rattle.raid_base.specs.declared.messages.Grant.{Grant}
use Rattle.raid_base.specs.declared.messages.How.{How}
use Rattle.raid_base.specs.declared.messages.How.TheVariants.{Plain}
use Rattle.raid_base.specs.declared.messages.Mode.TheVariants.{Order}
use Rattle.raid_base.specs.declared.messages.Reply.{Reply}
use Rattle.raid_base.specs.declared.messages.Reply.TheVariants.{Missing, NoNote}
use Rattle.raid_base.specs.declared.messages.Request.{Request}
use Rattle.raid_base.specs.declared.messages.Request.TheVariants.{Claim, Put}
use Rattle.raid_base.specs.declared.jobs.Task.{Task}
use Rattle.raid_base.specs.declared.jobs.Task.TheVariants as tasks
use Rattle.raid_base.specs.declared.names.Name.{Name}
use Rattle.raid_base.specs.Replies.{grant_of}
use Rattle.raid_base.specs.Steps.{Commit, commits_next, errand_of}
use Rattle.stripe_layout.specs.Placement.{parity_bay, bay_of}
use Rattle.stripe_layout.proofs.LayoutLemmas.{parity_in}
use Rattle.attempts.specs.Numbering.{ShowsNumber}
use Rattle.attempts.specs.Phases.{IsIn}
use Rattle.attempts.proofs.RoomLemmas.{bay-below}
use Rattle.script_text.specs.Script.{Script}
use Rattle.script_text.specs.Ranges.{IsScript}
use Rattle.histories.specs.Calls.{Happened, row_of, id_of, write_of, IsClaim, IsPut, IsDone}
use Rattle.histories.specs.Torn.{IsMissing}
use Rattle.histories.specs.History.{IsHistory}
use Rattle.histories.specs.RowStates.{slot_at, cell_at}
use Rattle.row_laws.specs.Hands.{calls_at, IsPutter, IsRecoveryOf}
use Rattle.row_laws.specs.Holding.{CameFrom, Owns}
use Rattle.histories.specs.Accesses.{with_some, writes, AllBelow}
use Rattle.row_laws.specs.Laws.{commits_of}
use Rattle.serial_laws.specs.Rising.{Taken, taken_at, AreRising, ContentsRise}
use Rattle.histories.proofs.accesses.AccessCovers.{all-map}
use Rattle.row_laws.proofs.hands.HandClaims.{kind_of, made-kind}
use Rattle.row_laws.proofs.holders.HolderNotesCalls.{in-history}
use Rattle.histories.proofs.missing.MissingBays.{one_bay_is_missing}
use Rattle.row_laws.proofs.notes.NoteUnits.{put-at}
use Rattle.row_laws.proofs.owners.OwnedPuts as owned
use Rattle.row_laws.proofs.owners.OwnedPuts.{all-in, puts_are_of_owners}
use Rattle.row_laws.proofs.owners.RowOwnersCalls.{has-noted}
use Rattle.row_laws.proofs.owners.RowOwnersHands.{Asker, asker, happened-in, happened-own}
use Rattle.serial_laws.proofs.contents.WritePuts.{WasGone}
use Rattle.row_laws.proofs.covered.CoveredPutsHands.{in-happened}
use Rattle.serial_laws.proofs.contents.ContentParityPuts as parities
use Rattle.serial_laws.proofs.contents.ContentPutters.{own-noted}
use Rattle.serial_laws.proofs.contents.ContentPuts.{commits-are, may-put, mend-puts}
use Rattle.serial_laws.proofs.contents.ContentRows.{Stands, stands}
use Rattle.serial_laws.proofs.contents.ContentSlots.{CellTurn, Same, Bare, Filled, cell-turned}
use Rattle.serial_laws.proofs.contents.ContentStates.{IsWriteTask}
use Rattle.serial_laws.proofs.contents.ContentTrees.{MayPut, Writes, Rebuilds, Recovers}
use Rattle.serial_laws.proofs.contents.ContentWriteFacts.{not-blank, units-aside}
use Rattle.serial_laws.proofs.contents.ContentWriteParity as parity_writes
use Rattle.row_laws.proofs.numbers.RisingClaims.{WriteMove, Quiet, Wrote, write-moved, Covering}
use Rattle.serial_laws.proofs.rising.RisingShown.{UnitShown, parity-covered, unit-covered, recovery-covered}
use Rattle.serial_laws.proofs.rising.RisingCommits.{write-rises, TakesOne, taken-moved}
use Rattle.serial_laws.proofs.rising.RisingPuts.{calls-named, puts-once, missing-unput, number-above}
use Rattle.row_laws.proofs.hands.HandMoves.{id-is-own}
use Rattle.row_laws.proofs.numbers.Risen.{done-rises}

-- Numbers below
abbrev Below : Number → List Taken → Type 0
Below m ts = AllByRecursion (λ (x : Taken). x.number.0 < m.0) ts

below-more : (n m : Number) → n.0 < m.0 → (ts : List Taken) → Below n ts → Below m ts
below-more n m less [] h = tt
below-more n m less (t ∷ ts) h = (let low = h.0 in omega (arith, less, low), below-more n m less ts h.1)

-- Writes after a call
less-before : (at : BayNo) (row : RowNo) (call : Call) (earlier : List Call) (m : Number) → AllBelow m (writes at row (call ∷ earlier)) → AllBelow m (writes at row earlier)
less-before at row call earlier m h = by (write-moved at row call earlier)
  where
    by : WriteMove at row call earlier → AllBelow m (writes at row earlier)
    by (Quiet same) = subst (λ (ns : List Number). AllBelow m ns) same h
    by (Wrote place id n cell what done now) = (subst (λ (ns : List Number). AllBelow m ns) now h).1

wrote-now : (at : BayNo) (row : RowNo) (call : Call) (earlier : List Call) (id n : Number) (cell : Cell) → call.bay ≡ at → call.ask.what ≡ Put row id n cell → IsDone call →
    writes at row (call ∷ earlier) ≡ n ∷ writes at row earlier
wrote-now at row call earlier id n cell place what done =
    ap (λ (b : Bool). if b then with_some (write_of call.ask.what call.answer.reply) (writes at row earlier) else writes at row earlier) (put-at at row id call (place, n, cell, what))
    ∙ ap (λ (w : Request). with_some (write_of w call.answer.reply) (writes at row earlier)) what
    ∙ ap (λ (r : Reply). with_some (write_of (Put row id n cell) r) (writes at row earlier)) done

pub wrote-below : (at : BayNo) (row : RowNo) (call : Call) (earlier : List Call) (id n : Number) (cell : Cell) → call.bay ≡ at → call.ask.what ≡ Put row id n cell → IsDone call → (m : Number) →
    AllBelow m (writes at row (call ∷ earlier)) → n.0 < m.0
wrote-below at row call earlier id n cell place what done m h = (subst (λ (ns : List Number). AllBelow m ns) (wrote-now at row call earlier id n cell place what done) h).0

-- Covered by a number that is below
pub covered-below : (script : Script) (c : Call) (ns : List Number) (cover : Covering script.mode c ns) (n : Number) → cover.number.0 < n.0 → AllBelow n ns
covered-below script c ns cover n less = all-map (λ (x : Number). x.0 ≤ cover.number.0) (λ (x : Number). x.0 < n.0) ns (λ x le. omega (arith, le, less)) cover.covers

module _ (script : Script) (is : IsScript script) (row : RowNo) (below : row.0 < script.rows) (unit : ℕ) (inside : unit + 1 < script.n) where
  abbrev P : BayNo
  P = parity_bay script.n row

  abbrev U : BayNo
  U = bay_of script.n row unit

  abbrev Takens : List Call → List Taken
  Takens history = taken_at script history row unit

  -- what the unit took is below a number that all writes of its slot and of its parity are below; and while it has a cell, those of
  -- its slot alone tell it
  pub record Facts (history : List Call) : Type 0 where
    pub either : (m : Number) → AllBelow m (writes (U) row history) → AllBelow m (writes (P) row history) → Below m (taken_at script history row unit)
    pub celled : (cell_at script history row (U) ≡ None → ⊥) → (m : Number) → AllBelow m (writes (U) row history) → Below m (taken_at script history row unit)
    pub rising : AreRising (taken_at script history row unit)

  -- A put
  module _ (earlier : List Call) (call : Call) (along : IsHistory script (call ∷ earlier)) (id n : Number) (cell : Cell) (what : call.ask.what ≡ Put row id n cell) (done : IsDone call) where
    abbrev Calls : List Call
    Calls = calls_at script earlier call.ask.host

    pub a : Asker script is earlier call
    a = asker script is earlier call along.0 along.1 row (ap (λ (w : Request). row_of w) what)

    may : MayPut a.hand.hand.task
    may = may-put script is earlier call a.steps a.hand a.asked row id n cell what

    stood : Stands script earlier
    stood = stands script is earlier along.0

    -- a rebuild commits nothing
    pub mends-none : (bay : BayNo) → a.hand.hand.task ≡ tasks.Rebuild bay → (commit : Commit) → IsIn commit (commits_of script earlier call) → ⊥
    mends-none bay mends commit among =
        subst (λ (cs : List Commit). IsIn commit cs) (commits-are script is earlier call a.steps a.hand a.asked done ∙ (mend-puts script is earlier call a.steps a.hand a.asked bay mends).none) among

    module _ (place : call.bay ≡ U) where
      -- a write puts no slot without a cell
      writes-celled : (object : Name) (first from count : ℕ) → a.hand.hand.task ≡ tasks.Write object first from count → cell_at script earlier row (U) ≡ None → ⊥
      writes-celled object first from count writes none =
          let note = has-noted (slot_at script earlier (U) row).note a.hand.hand.id (own-noted script is earlier call along row below (U) id n cell place what done a.steps a.hand a.asked) in
          not-blank script is row below earlier along.0 call.ask.host a.steps a.hand (subst IsWriteTask (sym writes) tt) (U) (bay-below script.n row unit (let least = is.devices_least in omega (arith, least))) note.0 note.1 note.2 none

      recovers-none : (at : RowNo) → a.hand.hand.task ≡ tasks.Recover at → ⊥
      recovers-none at recovers = subst IsPutter recovers (owned.putter script is earlier call along row unit below inside id n cell place what done a.steps a.hand a.asked)

      -- where it commits, the unit has a cell
      own-celled : (commit : Commit) → IsIn commit (commits_of script earlier call) → cell_at script earlier row (U) ≡ None → ⊥
      own-celled commit among none = by (may)
        where
          by : MayPut a.hand.hand.task → ⊥
          by (Writes object first from count writes) = writes-celled object first from count writes none
          by (Rebuilds bay mends) = mends-none bay mends commit among
          by (Recovers at recovers) = recovers-none at recovers

      -- and where it has none, the put is a rebuild's, and its number above those of all writes of the parity
      fills-above : cell_at script earlier row (U) ≡ None → AllBelow n (writes (P) row earlier)
      fills-above none = by (may)
        where
          two : cell_at script earlier row (P) ≡ None → ⊥
          two bare =
              units-aside script is row below unit inside
              (one_bay_is_missing script earlier is along.0 (U) (P) (bay-below script.n row unit (let least = is.devices_least in omega (arith, least))) (parity_in script.n row is.devices_least) (row, below, ap (λ (o : Option Cell). is_some o) none) (row, below, ap (λ (o : Option Cell). is_some o) bare))

          mends : (bay : BayNo) → a.hand.hand.task ≡ tasks.Rebuild bay → CameFrom id (slot_at script earlier (P) row).note → AllBelow n (writes (P) row earlier)
          mends bay same from =
              let own : id ≡ a.hand.hand.id = id-is-own script is earlier call.ask.host a.steps a.hand call a.asked id (ap (λ (w : Request). id_of w) what) in
              let mine =
              happened-own script is earlier along.0 call.ask.host a.steps a.hand (errand_of call) a.asked (λ c q. q.1 ∙ ap (λ (x : Number). Some x) own) (parity-covered script is row below earlier along.0 id from) in
              let c = happened-in Calls mine in
              covered-below script c.0 (writes (P) row earlier) c.2.2 n
              (number-above script is earlier call.ask.host a.steps a.hand call a.asked row id n cell what c.0 c.1 c.2.2.number c.2.2.shown
              (λ order plain. (let bad : kind_of (tasks.Rebuild bay) ≡ Plain = subst (λ (t : Task). kind_of t ≡ Plain) same plain in absurd (cc))))

          owner : (bay : BayNo) → a.hand.hand.task ≡ tasks.Rebuild bay → Owns script earlier row id → AllBelow n (writes (P) row earlier)
          owner bay same (inl bare) = absurd (two bare)
          owner bay same (inr from) = mends bay same from

          by : MayPut a.hand.hand.task → AllBelow n (writes (P) row earlier)
          by (Writes object first from count writes) = absurd (writes-celled object first from count writes none)
          by (Rebuilds bay same) = owner bay same (puts_are_of_owners script earlier call is along row unit id below inside (place, n, cell, what) done)
          by (Recovers at recovers) = absurd (recovers-none at recovers)

    -- A put of the parity that commits the unit: the unit has no cell, and the number is above those of all its writes
    module _ (place : call.bay ≡ P) (commit : Commit) (among : IsIn commit (commits_of script earlier call)) (of_row : commit.row ≡ row) (of_unit : commit.unit ≡ unit) where
      record Gone : Type 0 where
        none : cell_at script earlier row (U) ≡ None
        above : AllBelow n (writes (U) row earlier)

      -- by a write
      module _ (object : Name) (first from count : ℕ) (writes_it : a.hand.hand.task ≡ tasks.Write object first from count) where
        pub gone : WasGone script.n row unit Calls
        gone =
            let s = parity_writes.settles script is earlier call along (stood).holds (stood).owned (stood).shown row below place id n cell what done a.steps a.hand a.asked object first from count writes_it in
            let so =
            all-in _ commit (commits_next a.steps) s.2.committed (subst (λ (cs : List Commit). IsIn commit cs) (commits-are script is earlier call a.steps a.hand a.asked done) among) in
            subst (λ (u : ℕ). WasGone script.n row u Calls) of_unit (subst (λ (r : RowNo). WasGone script.n r commit.unit Calls) s.1.1 so.4)

        came : CameFrom a.hand.hand.id (slot_at script earlier (P) row).note
        came = parity_writes.came script is earlier call along (stood).holds (stood).owned (stood).shown row below place id n cell what done a.steps a.hand a.asked object first from count writes_it

        there : cell_at script earlier row (P) ≡ None → ⊥
        there = parity_writes.there script is earlier call along (stood).holds (stood).owned (stood).shown row below place id n cell what done a.steps a.hand a.asked object first from count writes_it

        plain : kind_of a.hand.hand.task ≡ Plain
        plain = subst (λ (t : Task). kind_of t ≡ Plain) (sym writes_it) refl

        abbrev Cover : Call → Type 0
        Cover c = Covering script.mode c (writes (U) row earlier)

        shown : (c : Call) → IsIn c Calls → IsClaim (U) row c → IsSome (grant_of c.answer.reply) ⊎ IsMissing c → UnitShown script is row below unit inside a.hand.hand.id c earlier
        shown c i claim answered =
            unit-covered script is row below unit inside earlier along.0 a.hand.hand.id came there c (in-history script is earlier along.0 call.ask.host a.steps a.hand c i)
            (claim, calls-named script is earlier call.ask.host a.steps a.hand c i, answered)

        own-calls : Happened (λ x. IsPut (U) row a.hand.hand.id x × IsDone x) earlier → Happened (λ x. IsPut (U) row a.hand.hand.id x × IsDone x) Calls
        own-calls h = happened-own script is earlier along.0 call.ask.host a.steps a.hand (errand_of call) a.asked (λ c q. ap (λ (w : Request). id_of w) q.0.3) h

        cover-above : (c : Call) → IsIn c Calls → (cover : Cover c) → (script.mode ≡ Order → cover.number.0 < a.hand.hand.id.0) → AllBelow n (writes (U) row earlier)
        cover-above c i cover late =
            covered-below script c (writes (U) row earlier) cover n
            (number-above script is earlier call.ask.host a.steps a.hand call a.asked row id n cell what c i cover.number cover.shown (λ order kind. late order))

        by-missing : (c : Call) → IsIn c Calls → IsClaim (U) row c → IsMissing c → AllBelow n (writes (U) row earlier)
        by-missing c i claim (floor, said) = by (shown c i claim (inr (floor, said)))
          where
            late : (cover : Cover c) → script.mode ≡ Order → cover.number.0 < a.hand.hand.id.0
            late cover order =
                let rises = write-rises script is earlier call a.steps a.hand a.asked object first from count writes_it in
                let low : floor.0 < a.hand.hand.id.0 =
                all-in (λ (y : Call). (k : Number) → y.answer.reply ≡ Missing k → k.0 < a.hand.hand.id.0) c Calls (rises.floors row id n cell what order) i floor said in
                let same : cover.number ≡ floor = subst (λ (r : Reply). ShowsNumber r cover.number) said cover.shown in
                let one : cover.number.0 ≡ floor.0 = ap (λ (x : Number). x.0) same in
                omega (arith, low, one)

            by : UnitShown script is row below unit inside a.hand.hand.id c earlier → AllBelow n (writes (U) row earlier)
            by (inl cover) = cover-above c i cover (late cover)
            by (inr put) = absurd (missing-unput script is earlier call.ask.host a.steps a.hand (U) row a.hand.hand.id c i claim (floor, said) (own-calls put))

        by-lost : (c : Call) → IsIn c Calls → IsClaim (U) row c → IsSome (grant_of c.answer.reply) → (Happened (λ x. IsPut (U) row a.hand.hand.id x × IsDone x) Calls → ⊥) → AllBelow n (writes (U) row earlier)
        by-lost c i claim some unput = by (shown c i claim (inl some))
          where
            late : (cover : Cover c) → script.mode ≡ Order → cover.number.0 < a.hand.hand.id.0
            late cover order = named claim
              where
                named : IsClaim (U) row c → cover.number.0 < a.hand.hand.id.0
                named (at, by, how, mask, want, asks) =
                    let kind : how ≡ Plain = (made-kind script is earlier call.ask.host a.steps a.hand c i row by how mask want asks).0 ∙ plain in
                    let both : Some by ≡ Some a.hand.hand.id = sym (ap (λ (w : Request). id_of w) asks) ∙ calls-named script is earlier call.ask.host a.steps a.hand c i in
                    let one : by ≡ a.hand.hand.id = cc in
                    let less : cover.number.0 < by.0 = cover.late order row by mask want (asks ∙ ap (λ (x : How). Claim row by x mask want) kind) some in
                    let same : by.0 ≡ a.hand.hand.id.0 = ap (λ (x : Number). x.0) one in
                    omega (arith, less, same)

            by : UnitShown script is row below unit inside a.hand.hand.id c earlier → AllBelow n (writes (U) row earlier)
            by (inl cover) = cover-above c i cover (late cover)
            by (inr put) = absurd (unput (own-calls put))

        by-gone : WasGone script.n row unit Calls → AllBelow n (writes (U) row earlier)
        by-gone (inl missing) = let c = happened-in Calls missing in by-missing c.0 c.1 c.2.0 c.2.1
        by-gone (inr (grant, life, other, granted, unnoted, apart)) =
            let c = happened-in Calls granted in
            let d = happened-in Calls unnoted in
            by-lost c.0 c.1 c.2.0 (ap (λ (o : Option Grant). is_some o) c.2.1)
            (λ put. puts-once script is earlier call.ask.host a.steps a.hand (U) row a.hand.hand.id d.2.0.1 life put
            (in-happened (λ x. IsPut (U) row d.2.0.1 x × (x.answer.reply ≡ NoNote life)) d.0 Calls d.1 ((d.2.0.0, d.2.0.2, other, d.2.0.3), d.2.1)))

        write-gone : Gone
        write-gone = record {
          none = parity_writes.gone-bare script is earlier call along (stood).holds (stood).owned (stood).shown row below place id n cell what done a.steps a.hand a.asked object first from count writes_it unit inside gone;
          above = by-gone gone;
        }

      -- by a recovery
      recovery-gone : (at : RowNo) → a.hand.hand.task ≡ tasks.Recover at → Gone
      recovery-gone at recovers =
          let s : Stands script earlier = stood in
          let so = all-in _ commit (commits_of script earlier call) (parities.all-lost script is earlier call along s.holds row below place s.shown id n cell what done a.steps a.hand a.asked at recovers) among in
          let missing : Happened (λ c. IsClaim (U) row c × IsMissing c) Calls = subst (λ (u : ℕ). Happened (λ c. IsClaim (bay_of script.n row u) row c × IsMissing c) Calls) of_unit so.2 in
          let here : row ≡ at = parities.here script is earlier call along s.holds row below place s.shown id n cell what done a.steps a.hand a.asked at recovers in
          let c = happened-in Calls missing in
          let cover =
          recovery-covered script is row below unit inside earlier along.0 call.ask.host a.steps a.hand (subst (IsRecoveryOf row) (sym recovers) (sym here))
          (own-noted script is earlier call along row below (P) id n cell place what done a.steps a.hand a.asked) c.0 c.1 c.2.0 c.2.1 in
          record {
            none = (parities.shown script is earlier call along s.holds row below place s.shown id n cell what done a.steps a.hand a.asked at recovers).missing unit inside missing;
            above = covered-below script c.0 (writes (U) row earlier) cover n
                (number-above script is earlier call.ask.host a.steps a.hand call a.asked row id n cell what c.0 c.1 cover.number cover.shown
                (λ order plain. seizing plain cover.number));
          }
        where
          seizing : kind_of a.hand.hand.task ≡ Plain → (k : Number) → k.0 < a.hand.hand.id.0
          seizing plain k = let bad : kind_of (tasks.Recover at) ≡ Plain = subst (λ (t : Task). kind_of t ≡ Plain) recovers plain in absurd (cc)

      parity-gone : Gone
      parity-gone = by (may)
        where
          by : MayPut a.hand.hand.task → Gone
          by (Writes object first from count writes_it) = write-gone object first from count writes_it
          by (Rebuilds bay mends) = absurd (mends-none bay mends commit among)
          by (Recovers at recovers) = recovery-gone at recovers

  -- A call
  module _ (earlier : List Call) (call : Call) (along : IsHistory script (call ∷ earlier)) (f : Facts earlier) where
    -- it gives nothing
    stays : Takens (call ∷ earlier) ≡ Takens earlier → Facts (call ∷ earlier)
    stays same = record {
      either = λ m us ps. subst (λ (ts : List Taken). Below m ts) (sym same) (f.either m (less-before (U) row call earlier m us) (less-before (P) row call earlier m ps));
      celled = λ there m us. subst (λ (ts : List Taken). Below m ts) (sym same) (old there m us);
      rising = subst AreRising (sym same) f.rising;
    }
      where
        filled : (id k : Number) (cell : Cell) → call.bay ≡ U → call.ask.what ≡ Put row id k cell → IsDone call → (o : Option Cell) → cell_at script earlier row (U) ≡ o → (m : Number) →
            AllBelow m (writes (U) row (call ∷ earlier)) → Below m (Takens earlier)
        filled id k cell place what done (Some old) e m us = f.celled (λ none. (let bad : None ≡ Some old = sym none ∙ e in absurd (cc))) m (less-before (U) row call earlier m us)
        filled id k cell place what done None e m us =
            let less = wrote-below (U) row call earlier id k cell place what done m us in
            f.either m (less-before (U) row call earlier m us)
            (all-map (λ (x : Number). x.0 < k.0) (λ (x : Number). x.0 < m.0) (writes (P) row earlier) (λ x low. omega (arith, low, less)) (fills-above earlier call along id k cell what done place e))

        old : (cell_at script (call ∷ earlier) row (U) ≡ None → ⊥) → (m : Number) → AllBelow m (writes (U) row (call ∷ earlier)) → Below m (Takens earlier)
        old there m us = by (cell-turned script is earlier call along.1 (U) row below)
          where
            by : CellTurn (cell_at script earlier row (U)) (U) row call (cell_at script (call ∷ earlier) row (U)) → Below m (Takens earlier)
            by (Same now) = f.celled (λ none. there (now ∙ none)) m (less-before (U) row call earlier m us)
            by (Bare now) = absurd (there now)
            by (Filled place id k cell what done now) = filled id k cell place what done (cell_at script earlier row (U)) refl m us

    -- it gives one, with a number above all before it
    takes : TakesOne script earlier call row unit → Facts (call ∷ earlier)
    takes t = by t.place
      where
        more : Below t.number (Takens earlier) → ((m : Number) → AllBelow m (writes (U) row (call ∷ earlier)) → AllBelow m (writes (P) row (call ∷ earlier)) → t.number.0 < m.0) →
            ((cell_at script (call ∷ earlier) row (U) ≡ None → ⊥) → (m : Number) → AllBelow m (writes (U) row (call ∷ earlier)) → t.number.0 < m.0) → Facts (call ∷ earlier)
        more low less celled = record {
          either = λ m us ps. all m (less m us ps);
          celled = λ there m us. all m (celled there m us);
          rising = subst AreRising (sym t.now) (low, f.rising);
        }
          where
            all : (m : Number) → t.number.0 < m.0 → Below m (Takens (call ∷ earlier))
            all m under = subst (λ (ts : List Taken). Below m ts) (sym t.now) (under, below-more t.number m under (Takens earlier) low)

        own : call.bay ≡ U → Facts (call ∷ earlier)
        own place =
            let above : AllBelow t.number (writes (U) row earlier) =
            subst (λ (b : BayNo). AllBelow t.number (writes b row earlier)) place (done-rises script is earlier call along row t.id t.number t.cell t.what t.done).0 in
            more (f.celled (own-celled earlier call along t.id t.number t.cell t.what t.done place t.commit t.among) t.number above)
            (λ m us ps. wrote-below (U) row call earlier t.id t.number t.cell place t.what t.done m us)
            (λ there m us. wrote-below (U) row call earlier t.id t.number t.cell place t.what t.done m us)

        parity : call.bay ≡ P → Facts (call ∷ earlier)
        parity place =
            let above : AllBelow t.number (writes (P) row earlier) =
            subst (λ (b : BayNo). AllBelow t.number (writes b row earlier)) place (done-rises script is earlier call along row t.id t.number t.cell t.what t.done).0 in
            let gone : Gone earlier call along t.id t.number t.cell t.what t.done place t.commit t.among t.of_row t.of_unit =
            parity-gone earlier call along t.id t.number t.cell t.what t.done place t.commit t.among t.of_row t.of_unit in
            let bare : cell_at script (call ∷ earlier) row (U) ≡ None = parities.unit-bare script is earlier call along (stands script is earlier along.0).holds row below place unit inside gone.none in
            more (f.either t.number gone.above above)
            (λ m us ps. wrote-below (P) row call earlier t.id t.number t.cell place t.what t.done m ps)
            (λ there m us. absurd (there bare))

        by : (call.bay ≡ U) ⊎ (call.bay ≡ P) → Facts (call ∷ earlier)
        by (inl place) = own place
        by (inr place) = parity place

    facts-next : Facts (call ∷ earlier)
    facts-next = by (taken-moved script is earlier call along row unit)
      where
        by : (Takens (call ∷ earlier) ≡ Takens earlier) ⊎ TakesOne script earlier call row unit → Facts (call ∷ earlier)
        by (inl same) = stays same
        by (inr t) = takes t

  pub facts : (history : List Call) → IsHistory script history → Facts history
  facts [] along = record { either = λ m us ps. tt; celled = λ there m us. tt; rising = tt }
  facts (call ∷ earlier) along = facts-next earlier call along (facts earlier along.0)

pub contents_rise : ContentsRise
contents_rise script history is along row unit below inside = (facts script is row below unit inside history along).rising
