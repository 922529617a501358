-- Where the content of a unit is not the one that its parity counts, the parity has no cell, or its note came from a write that has
-- put the unit: a content comes by a put of the unit by an owner of its row or by a put of its parity, and puts are covered.
use Rattle.std.proofs.Common.{◌≡◌, ◌⊎◌, inl, inr, refl, sym, ap, subst, ◌∙◌, ℕ, ◌+◌, ◌<◌, ◌==◌, ◌&&◌, Bool, true, false, if◌then◌else◌, List, [], ◌∷◌, ◌++◌, Option, Some, None, is_some, arith}
use Rattle.std.proofs.lemmas.Bool.Decides.{nat_tests}
use Rattle.std.specs.List.{AllByRecursion}
use Rattle.raid_base.specs.declared.numbers.BayNo.{BayNo}
use Rattle.raid_base.specs.declared.numbers.HostNo.{HostNo}
use Rattle.raid_base.specs.declared.numbers.RowNo.{RowNo}
use Rattle.raid_base.specs.declared.numbers.Number.{Number}
use Rattle.raid_base.specs.declared.cells.Cell.{Cell}
use Rattle.raid_base.specs.declared.cells.Content.{Content}
use Rattle.raid_base.specs.declared.messages.How.{How}
use Rattle.raid_base.specs.declared.messages.How.TheVariants.{Plain}
use Rattle.raid_base.specs.declared.messages.Note.{Note}
use Rattle.raid_base.specs.declared.messages.Request.{Request}
use Rattle.raid_base.specs.declared.messages.Request.TheVariants.{Claim, Put}
use Rattle.raid_base.specs.declared.messages.Reply.{Reply}
use Rattle.raid_base.specs.declared.messages.Call.{Call}
use Rattle.raid_base.specs.declared.jobs.Task.{Task}
use Rattle.raid_base.specs.declared.jobs.Task.TheVariants as tasks
use Rattle.raid_base.specs.Cells.{content_of}
use Rattle.raid_base.specs.Replies.{is_done}
use Rattle.raid_base.specs.Steps.{Commit, Steps, next_errand, errand_of}
use Rattle.stripe_layout.specs.Placement.{parity_bay, bay_of}
use Rattle.attempts.specs.Taking.{Finish}
use Rattle.attempts.proofs.RoomLemmas.{parity-below}
use Rattle.script_text.specs.Script.{Script}
use Rattle.script_text.specs.Ranges.{IsScript}
use Rattle.histories.specs.Calls.{Happened, row_of, id_of, write_of, is_at, IsPut, IsDone}
use Rattle.histories.specs.Torn.{IsWriteClaim}
use Rattle.histories.specs.Progress.{Work, Trying}
use Rattle.histories.specs.History.{IsNext, IsHistory, bay_at}
use Rattle.histories.specs.RowStates.{slot_at, cell_at}
use Rattle.row_laws.specs.Hands.{HasHand, calls_at, IsPutter}
use Rattle.row_laws.specs.Holding.{CameFrom, Owns}
use Rattle.row_laws.specs.Laws.{IsWrite, IsPutSince, commits_in, commits_of}
use Rattle.serial_laws.specs.Laws.{is_of, last_of, content_at}
use Rattle.row_laws.specs.Commits.{IsOwnPut, IsParityPut, IsGiven}
use Rattle.serial_laws.specs.Contents.{is_parity_put, base_at, IsPending, ContentsAreCovered}
use Rattle.row_laws.proofs.hands.HandClaims.{kind_of, made-kind}
use Rattle.row_laws.proofs.notes.NoteUnits.{put-at, units_are_of_writes}
use Rattle.row_laws.proofs.owners.RowOwnersHands.{Asker, asker, happened-in, happened-own}
use Rattle.row_laws.proofs.owners.OwnedPuts as owned
use Rattle.row_laws.proofs.commits.OwnedCommits.{commits_are_of_owners}
use Rattle.serial_laws.proofs.contents.MendCommits.{rebuild-commits}
use Rattle.row_laws.proofs.covered.CoveredPutsSlots.{Turn, Same, Bare, Taken, Marked, Freed, turned, IsGrantedClaim, origin-granted}
use Rattle.row_laws.proofs.covered.CoveredPutsHands.{Writes, in-happened, no-unit}
use Rattle.row_laws.proofs.covered.CoveredPuts.{came-some, granted-write, Covered, happened-later, covered}
use Rattle.row_laws.proofs.hands.HandMoves.{id-is-own}

-- Commits. The last of some that is of the unit
record LastOf (P : Commit → Type 0) (row : RowNo) (unit : ℕ) (commits : List Commit) (content : Content) : Type 0 where
  commit : Commit
  holds : P commit
  same_row : commit.row ≡ row
  same_unit : commit.unit ≡ unit
  same : content ≡ commit.content
  some : commits ≡ [] → ⊥

pub of-this : (row : RowNo) (unit : ℕ) (commit : Commit) → is_of row unit commit ≡ true → (commit.row ≡ row) × (commit.unit ≡ unit)
of-this row unit commit e =
    let two = both (commit.row.0 == row.0) (commit.unit == unit) e in
    let rows : (commit.row.0 == row.0) ≡ true = two.0 in
    let units : (commit.unit == unit) ≡ true = two.1 in
    let same : commit.row.0 ≡ row.0 = grind (arith, nat_tests) in
    (ap (λ (k : ℕ). record { 0 = k }) same, grind (arith, nat_tests))
  where
    both : (x y : Bool) → (x && y) ≡ true → (x ≡ true) × (y ≡ true)
    both true y p = (refl, p)
    both false y p = absurd (cc)

-- either none of them is, or one gives the content
last-given : (P : Commit → Type 0) (row : RowNo) (unit : ℕ) (commits : List Commit) → AllByRecursion P commits → (content : Content) →
    (last_of row unit commits content ≡ content) ⊎ LastOf P row unit commits (last_of row unit commits content)
last-given P row unit [] all content = inl refl
last-given P row unit (commit ∷ commits) all content =
    by (is_of row unit commit) refl (last-given P row unit commits all.1 (if is_of row unit commit then commit.content else content))
  where
    by : (b : Bool) → is_of row unit commit ≡ b →
        ((last_of row unit commits (if b then commit.content else content) ≡ (if b then commit.content else content)) ⊎ LastOf P row unit commits (last_of row unit commits (if b then commit.content else content))) →
        (last_of row unit commits (if b then commit.content else content) ≡ content) ⊎ LastOf P row unit (commit ∷ commits) (last_of row unit commits (if b then commit.content else content))
    by b e (inr l) = inr (record { commit = l.commit; holds = l.holds; same_row = l.same_row; same_unit = l.same_unit; same = l.same; some = λ none. absurd (cc) })
    by true e (inl same) =
        let this = of-this row unit commit e in
        inr (record { commit = commit; holds = all.0; same_row = this.0; same_unit = this.1; same = same; some = λ none. absurd (cc) })
    by false e (inl same) = inl same

-- a put of a parity that is done is one
pub parity-put : (n : ℕ) (row : RowNo) (id : Number) (call : Call) → IsPut (parity_bay n row) row id call → IsDone call → is_parity_put n row call ≡ true
parity-put n row id call (place, k, cell, what) done =
    let here : is_at (parity_bay n row) row call ≡ true = put-at (parity_bay n row) row id call (place, k, cell, what) in
    let wrote : write_of call.ask.what call.answer.reply ≡ Some k = ap (λ (w : Request). write_of w call.answer.reply) what ∙ ap (λ (r : Reply). write_of (Put row id k cell) r) done in
    ap (λ (b : Bool). b && is_some (write_of call.ask.what call.answer.reply)) here ∙ ap (λ (o : Option Number). is_some o) wrote

-- the call puts the unit, of an attempt that owns the row, and gives it its content
pub record IsOwnCommit (script : Script) (earlier : List Call) (call : Call) (row : RowNo) (unit : ℕ) : Type 0 where
  pub id : Number
  pub number : Number
  pub cell : Cell
  pub place : call.bay ≡ bay_of script.n row unit
  pub put : call.ask.what ≡ Put row id number cell
  pub done : IsDone call
  pub content : content_at script (call ∷ earlier) row unit ≡ content_of cell
  pub owns : Owns script earlier row id

abbrev Commits : Script → List Call → Call → Type 0
Commits script earlier call = commits_of script earlier call ≡ [] → ⊥

module _ (script : Script) (is : IsScript script) (row : RowNo) (below : row.0 < script.rows) (unit : ℕ) (inside : unit + 1 < script.n) where
  abbrev P : BayNo
  P = parity_bay script.n row

  abbrev U : BayNo
  U = bay_of script.n row unit

  -- A call leaves the content, or puts the unit, or puts the parity.
  abbrev Change : List Call → Call → Type 0
  Change earlier call = (IsOwnCommit script earlier call row unit × Commits script earlier call) ⊎ (is_parity_put script.n row call ≡ true)

  changes : (earlier : List Call) (call : Call) → IsHistory script (call ∷ earlier) → (content_at script (call ∷ earlier) row unit ≡ content_at script earlier row unit) ⊎ Change earlier call
  changes earlier call along =
      by (last-given (IsGiven script earlier call) row unit (commits_of script earlier call) (commits_are_of_owners script earlier call is along) (content_at script earlier row unit))
    where
      New : Content
      New = content_at script (call ∷ earlier) row unit

      whose : (l : LastOf (IsGiven script earlier call) row unit (commits_of script earlier call) New) → IsOwnPut script earlier call l.commit ⊎ IsParityPut script call l.commit → Change earlier call
      whose l (inl o) = inl (
        record {
          id = o.id;
          number = o.number;
          cell = o.cell;
          place = o.place ∙ ap (λ (r : RowNo). bay_of script.n r l.commit.unit) l.same_row ∙ ap (λ (u : ℕ). bay_of script.n row u) l.same_unit;
          put = o.put ∙ ap (λ (r : RowNo). Put r o.id o.number o.cell) l.same_row;
          done = l.holds.done;
          content = l.same ∙ o.content;
          owns = subst (λ (r : RowNo). Owns script earlier r o.id) l.same_row (o.owns (subst (λ (r : RowNo). r.0 < script.rows) (sym l.same_row) below));
        },
        l.some,
      )
      whose l (inr (id, put)) = inr (parity-put script.n row id call (subst (λ (r : RowNo). IsPut (parity_bay script.n r) r id call) l.same_row put) l.holds.done)

      by : (New ≡ content_at script earlier row unit) ⊎ LastOf (IsGiven script earlier call) row unit (commits_of script earlier call) New →
          (New ≡ content_at script earlier row unit) ⊎ Change earlier call
      by (inl same) = inl same
      by (inr l) = inr (whose l l.holds.whose)

  -- a parity without a cell has none until it is put
  bare-stays : (earlier : List Call) (call : Call) → IsNext script earlier call → is_parity_put script.n row call ≡ false → cell_at script earlier row P ≡ None → cell_at script (call ∷ earlier) row P ≡ None
  bare-stays earlier call next quiet none = by (turned script is P row below earlier call next)
    where
      by : Turn (bay_at script P earlier) P row call (bay_at script P (call ∷ earlier)) → cell_at script (call ∷ earlier) row P ≡ None
      by (Same kept same last) = same ∙ none
      by (Bare free bare) = bare
      by (Taken c last) = c.cell ∙ none
      by (Marked at id n cell what done free last) = absurd (let bad : true ≡ false = sym (parity-put script.n row id call (at, n, cell, what) done) ∙ quiet in cc)
      by (Freed at id n what own free same last) = same ∙ none

  -- The attempt that gives a unit its content
  module _ (earlier : List Call) (call : Call) (along : IsHistory script (call ∷ earlier)) (g : IsOwnCommit script earlier call row unit) (some : Commits script earlier call) where
    abbrev Host : HostNo
    Host = call.ask.host

    -- is a write
    giver-writes : (steps : Steps Finish) (h : HasHand script earlier Host steps) → next_errand steps ≡ Some (errand_of call) → Writes h.hand.task
    giver-writes steps h asked = by h.hand.task refl (owned.putter script is earlier call along row unit below inside g.id g.number g.cell g.place g.put g.done steps h asked)
      where
        none : (b : Bool) (bay : BayNo) → h.hand.task ≡ tasks.Rebuild bay → (if b then commits_in (Trying steps) else []) ≡ []
        none true bay task = rebuild-commits script earlier Host steps h bay task
        none false bay task = refl

        by : (task : Task) → h.hand.task ≡ task → IsPutter task → Writes task
        by (tasks.Write object first from count) e p = record { object = object; first = first; from = from; count = count; is = refl }
        by (tasks.Rebuild bay) e p =
            absurd (some (ap (λ (w : Work). if is_done call.answer.reply then commits_in w else []) h.work ∙ none (is_done call.answer.reply) bay e))
        by (tasks.Read object first count) e p = absurd p
        by (tasks.Recover at) e p = absurd p
        by (tasks.Lose bay) e p = absurd p
        by (tasks.Fit bay) e p = absurd p

    asking : Asker script is earlier call
    asking = asker script is earlier call along.0 along.1 row (ap (λ (w : Request). row_of w) g.put)

    own-id : g.id ≡ (asking).hand.hand.id
    own-id = id-is-own script is earlier Host (asking).steps (asking).hand call (asking).asked g.id (ap (λ (w : Request). id_of w) g.put)

    -- its claim of the parity is a write's
    plain-claim : (mask : ℕ) (c : Call) → IsGrantedClaim P row g.id mask c → Happened (λ x. (x ≡ c) × IsGrantedClaim P row g.id mask x) (calls_at script earlier Host) → IsWriteClaim script.n row g.id mask c
    plain-claim mask c claim mine =
        let task : Writes (asking).hand.hand.task = giver-writes (asking).steps (asking).hand (asking).asked in
        let found = happened-in (calls_at script earlier Host) mine in
        let x : Call = found.0 in
        let claims : IsGrantedClaim P row g.id mask x = found.2.1 in
        let kind : claims.0.1 ≡ kind_of (asking).hand.hand.task =
        (made-kind script is earlier Host (asking).steps (asking).hand x found.1 row g.id claims.0.1 mask claims.0.2 claims.0.3).0 in
        let plain : claims.0.1 ≡ Plain = kind ∙ ap (λ (t : Task). kind_of t) task.is in
        let write : IsWriteClaim script.n row g.id mask x =
        (claims.0.0, claims.0.2, claims.0.3 ∙ ap (λ (how : How). Claim row g.id how mask claims.0.2) plain, claims.1, claims.2) in
        subst (λ (y : Call). IsWriteClaim script.n row g.id mask y) found.2.0 write

    -- and where the parity's note came from it, it has claimed the parity
    giver-claims : CameFrom g.id (slot_at script earlier P row).note → IsWrite script.n row g.id earlier
    giver-claims from = by (came-some g.id (slot_at script earlier P row).note from)
      where
        by : (note : Note) × ((slot_at script earlier P row).note ≡ Some note) × (note.origin ≡ g.id) → IsWrite script.n row g.id earlier
        by (note, noted, origin) =
            let claimed : Happened (IsGrantedClaim P row g.id note.mask) earlier =
            subst (λ (x : Number). Happened (IsGrantedClaim P row x note.mask) earlier) origin (origin-granted script is P row below earlier along.0 note noted) in
            let found = happened-in earlier claimed in
            let mine : Happened (λ x. (x ≡ found.0) × IsGrantedClaim P row g.id note.mask x) (calls_at script earlier Host) =
            happened-own script is earlier along.0 Host (asking).steps (asking).hand (errand_of call) (asking).asked
            (λ c q. ap (λ (w : Request). id_of w) q.1.0.3 ∙ ap (λ (x : Number). Some x) own-id)
            (in-happened (λ x. (x ≡ found.0) × IsGrantedClaim P row g.id note.mask x) found.0 earlier found.1 (refl, found.2)) in
            granted-write script.n row g.id note.mask earlier
            (in-happened (IsWriteClaim script.n row g.id note.mask) found.0 earlier found.1 (plain-claim note.mask found.0 found.2 mine))

  -- Along a history: a write has put the unit, and the parity was not put since
  record Since (history : List Call) : Type 0 where
    later : List Call
    earlier : List Call
    call : Call
    id : Number
    split : history ≡ later ++ call ∷ earlier
    put : IsPut U row id call
    done : IsDone call
    write : IsWrite script.n row id earlier
    quiet : IsPutSince script.n row later → ⊥

  abbrev Standing : List Call → Type 0
  Standing history = (content_at script history row unit ≡ base_at script history row unit) ⊎ ((cell_at script history row P ≡ None) ⊎ Since history)

  stands : (history : List Call) → IsHistory script history → Standing history
  stands [] along = inl refl
  stands (call ∷ earlier) along = by (is_parity_put script.n row call) refl (stands earlier along.0)
    where
      New : Content
      New = content_at script (call ∷ earlier) row unit

      Next : Bool → Type 0
      Next b = (New ≡ (if b then New else base_at script earlier row unit)) ⊎ ((cell_at script (call ∷ earlier) row P ≡ None) ⊎ Since (call ∷ earlier))

      since-later : is_parity_put script.n row call ≡ false → Since earlier → Since (call ∷ earlier)
      since-later e s = record {
        later = call ∷ s.later;
        earlier = s.earlier;
        call = s.call;
        id = s.id;
        split = ap (λ (cs : List Call). call ∷ cs) s.split;
        put = s.put;
        done = s.done;
        write = s.write;
        quiet = both s.quiet;
      }
        where
          both : (IsPutSince script.n row s.later → ⊥) → IsPutSince script.n row (call ∷ s.later) → ⊥
          both quiet (inl (id, put, done)) = absurd (let bad : true ≡ false = sym (parity-put script.n row id call put done) ∙ e in cc)
          both quiet (inr since) = quiet since

      given : is_parity_put script.n row call ≡ false → (g : IsOwnCommit script earlier call row unit) → Commits script earlier call → Owns script earlier row g.id → Next false
      given e g some (inl none) = inr (inl (bare-stays earlier call along.1 e none))
      given e g some (inr from) = inr (inr (record {
        later = [];
        earlier = earlier;
        call = call;
        id = g.id;
        split = refl;
        put = (g.place, g.number, g.cell, g.put);
        done = g.done;
        write = giver-claims earlier call along g some from;
        quiet = λ since. since;
      }))

      next : is_parity_put script.n row call ≡ false → Standing earlier → (New ≡ content_at script earlier row unit) ⊎ Change earlier call → Next false
      next e before (inr (inl (g, some))) = given e g some g.owns
      next e before (inr (inr put)) = absurd (let bad : true ≡ false = sym put ∙ e in cc)
      next e (inl same) (inl kept) = inl (kept ∙ same)
      next e (inr (inl none)) (inl kept) = inr (inl (bare-stays earlier call along.1 e none))
      next e (inr (inr s)) (inl kept) = inr (inr (since-later e s))

      by : (b : Bool) → is_parity_put script.n row call ≡ b → Standing earlier → Next b
      by true e before = inl refl
      by false e before = next e before (changes earlier call along)

  abbrev Due : List Call → Type 0
  Due history = (cell_at script history row P ≡ None) ⊎ ((note : Note) × IsPending script history row unit note)

  since-covered : (history : List Call) → IsHistory script history → Since history → Due history
  since-covered history along s =
      subst (λ (h : List Call). Due h) (sym s.split)
      (by (covered script is row below unit inside s.id s.later s.earlier s.call (subst (λ (h : List Call). IsHistory script h) s.split along) s.write s.put s.done s.quiet))
    where
      by : Covered script is row below unit inside s.id (s.later ++ s.call ∷ s.earlier) → Due (s.later ++ s.call ∷ s.earlier)
      by (inl none) = inl none
      by (inr (note, c)) = inr (
        note,
        record {
          noted = c.noted;
          masked = c.masked;
          put = happened-later (λ call. IsPut U row note.origin call × IsDone call) s.later s.earlier s.call (inl (subst (λ (x : Number). IsPut U row x s.call) (sym c.origin) s.put, s.done));
        },
      )

-- a content stays but for such a put, and for one of the parity
pub quiet-content : (script : Script) → IsScript script → (earlier : List Call) (call : Call) → IsHistory script (call ∷ earlier) → (row : RowNo) → row.0 < script.rows → (unit : ℕ) → unit + 1 < script.n →
    (content_at script (call ∷ earlier) row unit ≡ content_at script earlier row unit) ⊎ (IsOwnCommit script earlier call row unit ⊎ (is_parity_put script.n row call ≡ true))
quiet-content script is earlier call along row below unit inside = by (changes script is row below unit inside earlier call along)
  where
    by : (content_at script (call ∷ earlier) row unit ≡ content_at script earlier row unit) ⊎ Change script is row below unit inside earlier call →
        (content_at script (call ∷ earlier) row unit ≡ content_at script earlier row unit) ⊎ (IsOwnCommit script earlier call row unit ⊎ (is_parity_put script.n row call ≡ true))
    by (inl same) = inl same
    by (inr (inl (g, some))) = inr (inl g)
    by (inr (inr put)) = inr (inr put)

pub contents_are_covered : ContentsAreCovered
contents_are_covered script history is along row unit below inside = by (stands script is row below unit inside history along)
  where
    by : Standing script is row below unit inside history →
        (content_at script history row unit ≡ base_at script history row unit)
        ⊎ ((cell_at script history row (parity_bay script.n row) ≡ None) ⊎ ((note : Note) × IsPending script history row unit note))
    by (inl same) = inl same
    by (inr (inl none)) = inr (inl none)
    by (inr (inr s)) = inr (since-covered script is row below unit inside history along s)

-- the write that has put the unit claimed the parity with it
pub pending-by : (script : Script) → IsScript script → (history : List Call) → IsHistory script history → (row : RowNo) → row.0 < script.rows → (unit : ℕ) (note : Note) → IsPending script history row unit note →
    Happened (IsWriteClaim script.n row note.origin note.mask) history
pending-by script is history along row below unit note p =
    let least = is.devices_least in
    let found = units_are_of_writes script history is along (parity_bay script.n row) row note (parity-below script.n row (omega (arith, least))) below p.noted (λ none. no-unit note.mask unit none p.masked) in
    found.1.claimed
