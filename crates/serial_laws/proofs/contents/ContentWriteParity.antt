-- A put of a parity by a write leaves the parity of the contents that the row then has: each unit that the write wants has its
-- block, and each other one the content that the old parity counted.
use Rattle.std.proofs.Common.{◌≡◌, ◌⊎◌, inl, inr, refl, sym, ap, subst, ◌∙◌, ℕ, ◌+◌, ◌<◌, ◌==◌, Bool, true, false, if◌then◌else◌, List, [], ◌∷◌, Option, Some, None, IsSome, arith}
use Rattle.std.specs.List.{AllByRecursion}
use Rattle.std.proofs.lemmas.Bool.{eq-eqb}
use Rattle.std.proofs.lemmas.Bool.Decides.{nat_tests}
use Rattle.raid_base.specs.declared.numbers.BayNo.{BayNo}
use Rattle.raid_base.specs.declared.numbers.HostNo.{HostNo}
use Rattle.raid_base.specs.declared.numbers.RowNo.{RowNo}
use Rattle.raid_base.specs.declared.numbers.Number.{Number}
use Rattle.raid_base.specs.declared.names.Name.{Name}
use Rattle.raid_base.specs.declared.cells.Cell.{Cell}
use Rattle.raid_base.specs.declared.cells.Content.{Content}
use Rattle.raid_base.specs.declared.cells.Content.TheVariants.{Bytes}
use Rattle.raid_base.specs.declared.messages.How.{How}
use Rattle.raid_base.specs.declared.messages.How.TheVariants.{Mend, Seize}
use Rattle.raid_base.specs.declared.messages.Note.{Note}
use Rattle.raid_base.specs.declared.messages.Call.{Call}
use Rattle.raid_base.specs.declared.messages.Request.{Request}
use Rattle.raid_base.specs.declared.messages.Request.TheVariants.{Share, Claim, Confirm, Put, Release, Lose, Fit}
use Rattle.raid_base.specs.declared.jobs.RowPart.{RowPart}
use Rattle.raid_base.specs.declared.jobs.Task.{Task}
use Rattle.raid_base.specs.declared.jobs.Task.TheVariants as tasks
use Rattle.raid_base.specs.Cells.{plain_cell, has_unit}
use Rattle.raid_base.specs.Fits.{fits}
use Rattle.raid_base.specs.Replies.{grant_of}
use Rattle.raid_base.specs.Steps.{Commit, Steps, settled, commits_next, next_errand, errand_of}
use Rattle.raid_xor.specs.Laws.{AreBlocks}
use Rattle.stripe_layout.specs.Placement.{parity_bay, bay_of, units, units_in}
use Rattle.raid_xor.specs.Parities.{parity_of}
use Rattle.degraded_plans.specs.Laws.{changed}
use Rattle.attempts.specs.Taking.{Access, Finish}
use Rattle.attempts.specs.Phases.{IsIn, HasRow, RowsDiffer}
use Rattle.attempts.specs.Puts.{block_at}
use Rattle.attempts.specs.Sound.{Cells, ReplyShows, IfPut, cell_on, AreSoundRows, part_changes, written_parity, written_cells}
use Rattle.attempts.proofs.OnceClaims.{claims_are_of_their_kind}
use Rattle.attempts.proofs.RoomLemmas.{parity-below}
use Rattle.attempts.proofs.SoundLemmas.{parity-on}
use Rattle.script_text.specs.Script.{Script, parts_of}
use Rattle.script_text.specs.Ranges.{IsScript}
use Rattle.histories.specs.Calls.{Happened, row_of, id_of, IsClaim, IsDone}
use Rattle.histories.specs.Hands.{past_of}
use Rattle.histories.specs.Progress.{Progress, attempt}
use Rattle.histories.specs.History.{progress_at, IsHistory}
use Rattle.histories.specs.RowStates.{slot_at, cell_at}
use Rattle.row_laws.specs.Hands.{HasHand, calls_at}
use Rattle.row_laws.specs.Laws.{commits_of}
use Rattle.serial_laws.specs.Laws.{content_at}
use Rattle.row_laws.specs.Holding.{CameFrom}
use Rattle.serial_laws.specs.Contents.{base_at, cells_with, IsPending}
use Rattle.row_laws.proofs.notes.BlankNotes.{blank_notes_mend}
use Rattle.serial_laws.proofs.contents.ContentBlocks.{block-long, parts-differ, parts-within}
use Rattle.serial_laws.proofs.contents.ContentChanges.{AreSo, LastOf, Stays, Takes, last-of, taken_by, changed-after, taken-other, taken-this, filter-has, filter-lacks, units-has}
use Rattle.serial_laws.proofs.contents.ContentFacts.{cells-same, table-sound}
use Rattle.serial_laws.proofs.contents.ContentParityPuts.{ParityGood, units-good}
use Rattle.serial_laws.proofs.contents.ContentPuts.{AccessOf, commits-are, put-settles, put-written}
use Rattle.serial_laws.proofs.contents.ContentPutters.{own-noted, own-origin, all-confirmed}
use Rattle.serial_laws.proofs.contents.ContentShows.{AreShown, shown-one, each-shown, led-fits}
use Rattle.serial_laws.proofs.contents.ContentStates.{table, IsShownOf, IsWriteTask, is_from, owned_at, IsWriteHeld, AreHandsShown, AllHold, IsUnitPut}
use Rattle.serial_laws.proofs.contents.ContentUnitPuts.{Good}
use Rattle.serial_laws.proofs.contents.ContentsCovered.{contents_are_covered}
use Rattle.row_laws.proofs.covered.CoveredPutsSlots.{IsMaskClaim, origin-claimed}
use Rattle.row_laws.proofs.covered.CoveredPutsHands.{in-happened}
use Rattle.row_laws.proofs.holders.HolderNotesHands.{claim-in}
use Rattle.row_laws.proofs.owners.OwnedPuts.{all-in}
use Rattle.row_laws.proofs.owners.RowOwnersCalls.{has-noted, came-noted}
use Rattle.row_laws.proofs.owners.RowOwnersHands.{happened-in, happened-own}
use Rattle.row_laws.proofs.owners.RowOwnersTasks.{mends}
use Rattle.serial_laws.proofs.reads.ShownTrees.{ParityGranted, TakesSo}
use Rattle.serial_laws.proofs.reads.ShownHands.{calls-take}
use Rattle.row_laws.proofs.hands.WriteMasks.{HasMask, has-row, one-part, AskedAfter, WriteAsks, hand-asked, parts_in}
use Rattle.serial_laws.proofs.contents.WritePuts.{AreSettled, WasGone, PartOf}
use Rattle.row_laws.proofs.hands.HandClaims.{kind_of}
use Rattle.serial_laws.proofs.contents.ContentWrites.{unwanted-held}

-- the contents that an attempt owned are of blocks
abbrev pub OwnedBlocks : Script → List Call → Type 0
OwnedBlocks script history = (id : Number) (row : RowNo) → row.0 < script.rows → AreBlocks (cells_with script.n (owned_at script id history row))

-- while the note came from it, they are those that the parity counts
from-id : (id : Number) (o : Option Note) → CameFrom id o → is_from id o ≡ true
from-id id None came = absurd came
from-id id (Some note) came = eq-eqb note.origin.0 id.0 (ap (λ (x : Number). x.0) came)

pub owned-base : (script : Script) (id : Number) (history : List Call) (row : RowNo) (unit : ℕ) → CameFrom id (slot_at script history (parity_bay script.n row) row).note → owned_at script id history row unit ≡ base_at script history row unit
owned-base script id [] row unit came = refl
owned-base script id (call ∷ earlier) row unit came =
    ap (λ (b : Bool). if b then base_at script (call ∷ earlier) row unit else owned_at script id earlier row unit)
    (from-id id (slot_at script (call ∷ earlier) (parity_bay script.n row) row).note came)

-- the parity of a row that a part is of
written-at : (a : Access) (parts : List RowPart) → RowsDiffer parts → (part : RowPart) → IsIn part parts → (row : RowNo) → part.row ≡ row → (p : Cell) (cells : List Cell) →
    written_parity a parts row p cells ≡ parity_of (changed cells (part_changes a part))
written-at a [] differ part i row at p cells = absurd i
written-at a (first ∷ parts) differ part (inl same) row at p cells =
    ap (λ (b : Bool). if b then parity_of (changed cells (part_changes a first)) else written_parity a parts row p cells)
    (eq-eqb first.row.0 row.0 (ap (λ (q : RowPart). q.row.0) same ∙ ap (λ (r : RowNo). r.0) at))
    ∙ ap (λ (q : RowPart). parity_of (changed cells (part_changes a q))) same
written-at a (first ∷ parts) differ part (inr i) row at p cells = by (first.row.0 == row.0) refl ∙ written-at a parts differ.1 part i row at p cells
  where
    by : (b : Bool) → (first.row.0 == row.0) ≡ b → (if first.row.0 == row.0 then parity_of (changed cells (part_changes a first)) else written_parity a parts row p cells) ≡ written_parity a parts row p cells
    by true e =
        let number : row.0 ≡ first.row.0 = grind (arith, nat_tests) in
        let same : row ≡ first.row = ap (λ (k : ℕ). let r : RowNo = record { 0 = k } in r) number in
        absurd (differ.0 (subst (λ (r : RowNo). HasRow r parts) (at ∙ same) (has-row part parts i)))
    by false e = ap (λ (b : Bool). if b then parity_of (changed cells (part_changes a first)) else written_parity a parts row p cells) e

module _ (script : Script) (is : IsScript script) (earlier : List Call) (call : Call) (along : IsHistory script (call ∷ earlier)) (hold : AllHold script earlier) (owned : OwnedBlocks script earlier) (hands : AreHandsShown script earlier)
    (row : RowNo) (below : row.0 < script.rows) (place : call.bay ≡ parity_bay script.n row) (id k : Number) (cell : Cell) (what : call.ask.what ≡ Put row id k cell) (done : IsDone call)
    (steps : Steps Finish) (h : HasHand script earlier call.ask.host steps) (asked : next_errand steps ≡ Some (errand_of call))
    (object : Name) (first from count : ℕ) (writes : h.hand.task ≡ tasks.Write object first from count) where
  abbrev P : BayNo
  P = parity_bay script.n row

  abbrev Host : HostNo
  Host = call.ask.host

  abbrev Calls : List Call
  Calls = calls_at script earlier call.ask.host

  abbrev Now : Progress
  Now = progress_at script call.ask.host earlier

  abbrev Acc : Access
  Acc = AccessOf script is earlier call steps h asked object first from count writes

  abbrev Owned : RowNo → ℕ → Content
  Owned = owned_at script h.hand.id earlier

  abbrev Table : Cells
  Table = table script.n (owned_at script h.hand.id earlier) (owned_at script h.hand.id earlier)

  -- it is a write
  is-write : IsWriteTask h.hand.task
  is-write = subst IsWriteTask (sym writes) tt

  not-seizing : kind_of h.hand.task ≡ Seize → ⊥
  not-seizing e = let bad : kind_of (tasks.Write object first from count) ≡ Seize = subst (λ (t : Task). kind_of t ≡ Seize) writes e in absurd (cc)

  not-mending : kind_of h.hand.task ≡ Mend → ⊥
  not-mending e = let bad : kind_of (tasks.Write object first from count) ≡ Mend = subst (λ (t : Task). kind_of t ≡ Mend) writes e in absurd (cc)

  pub came : CameFrom h.hand.id (slot_at script earlier (P) row).note
  came = own-origin script is earlier call along row below (P) id k cell place what done steps h asked not-seizing

  -- the parity has a cell
  pub there : cell_at script earlier row (P) ≡ None → ⊥
  there none =
      let found = has-noted (slot_at script earlier (P) row).note h.hand.id (own-noted script is earlier call along row below (P) id k cell place what done steps h asked) in
      let blank = blank_notes_mend script earlier is along.0 (P) row found.0 (parity-below script.n row (let least = is.devices_least in omega (arith, least))) below none found.1 in
      not-mending (mends claims_are_of_their_kind script is earlier along.0 (Host) steps h (errand_of call) asked (P) row found.0 found.2 blank.0)

  held : (unit : ℕ) → unit + 1 < script.n → IsWriteHeld script earlier row unit Calls
  held unit inside = (hands.writes (Host) steps h row below is-write).held came unit inside

  -- what its part of the row has settled
  pub settles : (part : RowPart) × PartOf (Acc).parts row part × AreSettled (Acc) part Calls (commits_next steps)
  settles = (put-settles script is earlier call steps h asked object first from count writes).parity_put row id k cell what place

  abbrev Part : RowPart
  Part = settles.0

  part-row : (Part).row ≡ row
  part-row = settles.1.1

  abbrev Block : ℕ → List ℕ
  Block unit = block_at (Acc) (Part) unit

  -- the units that it commits are wanted, and have no cell
  abbrev IsGone : ℕ → Type 0
  IsGone unit = (has_unit (Part).mask unit ≡ true) × WasGone script.n row unit Calls

  pub gone-bare : (unit : ℕ) → unit + 1 < script.n → WasGone script.n row unit Calls → cell_at script earlier row (bay_of script.n row unit) ≡ None
  gone-bare unit inside (inl missing) = (held unit inside).missing missing
  gone-bare unit inside (inr (grant, life, put, granted, unnoted, other)) = (held unit inside).lost grant life put granted unnoted other

  all-so : (commits : List Commit) →
      AllByRecursion (λ (c : Commit). (c.row ≡ (Part).row) × (c.unit + 1 < script.n) × (has_unit (Part).mask c.unit ≡ true) × (c.content ≡ Bytes (Block c.unit)) × WasGone script.n (Part).row c.unit Calls) commits →
      AreSo row (λ unit. Bytes (Block unit)) IsGone commits
  all-so [] so = tt
  all-so (c ∷ commits) so = (
    (so.0.0 ∙ part-row, so.0.3, (so.0.2, subst (λ (r : RowNo). WasGone script.n r c.unit Calls) part-row so.0.4)),
    all-so commits so.1,
  )

  committed : AreSo row (λ unit. Bytes (Block unit)) IsGone (commits_of script earlier call)
  committed =
      subst (λ (cs : List Commit). AreSo row (λ unit. Bytes (Block unit)) IsGone cs) (sym (commits-are script is earlier call steps h asked done))
      (all-so (commits_next steps) settles.2.committed)

  good : (unit : ℕ) → unit + 1 < script.n → Good script (call ∷ earlier) row unit
  good =
      units-good script is earlier call along hold row below place (λ unit. Bytes (Block unit)) IsGone (λ unit inside gone. gone-bare unit inside gone.1)
      (λ unit inside. block-long script is h.hand.id (Acc).parts from count (Part) unit) committed

  -- a unit that is not wanted has the content that the parity counts
  asked-so : (c : Call) → IsIn c Calls → AskedAfter (WriteAsks script.n (parts_in (parts_of script object first count))) Calls c
  asked-so c i = hand-asked script is (Host) (Now).jobs (Now).row (Now).seen Calls steps h.hand object first from count writes c i

  unwanted : (unit : ℕ) → unit + 1 < script.n → has_unit (Part).mask unit ≡ false → content_at script earlier row unit ≡ base_at script earlier row unit
  unwanted unit inside other = by (contents_are_covered script earlier is along.0 row unit below inside)
    where
      pending : (note : Note) → IsPending script earlier row unit note → ⊥
      pending note p =
          let mine : note.origin ≡ h.hand.id = came-noted (slot_at script earlier (P) row).note h.hand.id note p.noted came in
          let claims : Happened (IsMaskClaim (P) row note.origin note.mask) Calls =
          happened-own script is earlier along.0 (Host) steps h (errand_of call) asked (λ c q. ap (λ (w : Request). id_of w) q.3 ∙ ap (λ (x : Number). Some x) mine)
          (origin-claimed script is (P) row below earlier along.0 note p.noted) in
          let found = happened-in Calls claims in
          let masked : HasMask (Acc).parts row note.mask = (asked-so found.0 found.1).asks.claims row note.origin found.2.1 note.mask found.2.2 found.2.3 found.2.0 in
          let same : masked.0 ≡ Part =
          one-part (Acc).parts (parts-differ script is earlier (Host) steps h object first from count writes) masked.0 (Part) masked.1 settles.1.0 (masked.2 ∙ sym part-row) in
          let mask : note.mask ≡ (Part).mask = sym masked.3 ∙ ap (λ (q : RowPart). q.mask) same in
          let has : has_unit (Part).mask unit ≡ true = subst (λ (m : ℕ). has_unit m unit ≡ true) mask p.masked in
          let bad : false ≡ true = sym other ∙ has in absurd (cc)

      by : (content_at script earlier row unit ≡ base_at script earlier row unit)
          ⊎ ((cell_at script earlier row (parity_bay script.n row) ≡ None) ⊎ ((note : Note) × IsPending script earlier row unit note)) → content_at script earlier row unit ≡ base_at script earlier row unit
      by (inl same) = same
      by (inr (inl none)) = absurd (there none)
      by (inr (inr p)) = absurd (pending p.0 p.1)

  -- All its calls were shown the cells that it owned
  claimed-row : (r : RowNo) → Happened (IsClaim (parity_bay script.n r) r) Calls → (r.0 < script.rows) × IsIn r (past_of Calls).confirmed
  claimed-row r claims =
      let found = happened-in Calls claims in
      let masked = (asked-so found.0 found.1).asks.claims r found.2.1 found.2.2 found.2.3 found.2.4 found.2.5 found.2.0 in
      let within : (masked.0).row.0 < script.rows =
      all-in (λ (q : RowPart). q.row.0 < script.rows) masked.0 (Acc).parts (parts-within script is earlier (Host) steps h object first from count writes) masked.1 in (
        subst (λ (x : RowNo). x.0 < script.rows) masked.2 within,
        all-confirmed script is earlier call along row below (P) id k cell place what done steps h asked (record { bay = parity_bay script.n r; row = r })
            (claim-in (parity_bay script.n r) r Calls found.0 found.1 found.2),
      )

  granted-row : (r : RowNo) → ParityGranted script.n r Calls → Happened (IsClaim (parity_bay script.n r) r) Calls
  granted-row r granted = by Calls granted
    where
      by : (calls : List Call) → Happened (λ c. IsClaim (parity_bay script.n r) r c × IsSome (grant_of c.answer.reply)) calls → Happened (IsClaim (parity_bay script.n r) r) calls
      by [] x = x
      by (c ∷ calls) (inl x) = inl x.0
      by (c ∷ calls) (inr x) = inr (by calls x)

  of-row : (c : Call) → IsIn c Calls → (r : RowNo) → row_of c.ask.what ≡ Some r → Happened (IsClaim (parity_bay script.n r) r) Calls → IsShownOf script.n (Table) c
  of-row c i r of claims =
      let known = claimed-row r claims in
      shown-one script.n (Table) r Calls ((hands.writes (Host) steps h r known.0 is-write).shown (inr known.1)) c i of

  was-shown : (c : Call) → IsIn c Calls → IsShownOf script.n (Table) c
  was-shown c i = by c.ask.what refl
    where
      takes : TakesSo script.n Calls (errand_of c)
      takes = calls-take script is earlier along.0 (call.ask.host) steps h is-write c i

      fit : fits c.ask.what c.answer.reply ≡ true
      fit =
          led-fits call.ask.host (settled call.ask.host h.hand.id (attempt script call.ask.host h.hand.id (progress_at script call.ask.host earlier).row h.hand.task)) Calls
          (record { seen = (progress_at script call.ask.host earlier).seen; steps = steps }) h.hand.led c i

      claimed : (r : RowNo) (by_id : Number) (how : How) (mask : ℕ) (want : Bool) → c.ask.what ≡ Claim r by_id how mask want →
          (c.bay ≡ parity_bay script.n r) ⊎ (Happened (IsClaim (parity_bay script.n r) r) Calls × (want ≡ true → ParityGranted script.n r Calls)) → Happened (IsClaim (parity_bay script.n r) r) Calls
      claimed r by_id how mask want e (inl at) = in-happened (IsClaim (parity_bay script.n r) r) c Calls i (at, by_id, how, mask, want, e)
      claimed r by_id how mask want e (inr x) = x.0

      confirmed : (r : RowNo) (by_id : Number) (want : Bool) → c.ask.what ≡ Confirm r by_id want → IsShownOf script.n (Table) c
      confirmed r by_id true e = of-row c i r (ap (λ (w : Request). row_of w) e) (granted-row r (takes.confirms r by_id e))
      confirmed r by_id false e =
          subst (λ (w : Request). ReplyShows script.n (Table) c.bay w c.answer.reply) (sym e)
          (unwanted-held (cell_on script.n (Table) c.bay r) c.answer.reply (subst (λ (w : Request). fits w c.answer.reply ≡ true) e fit))

      by : (w : Request) → c.ask.what ≡ w → IsShownOf script.n (Table) c
      by (Share r by_id want) e = of-row c i r (ap (λ (w : Request). row_of w) e) (granted-row r (takes.shares r by_id want e))
      by (Claim r by_id how mask want) e = of-row c i r (ap (λ (w : Request). row_of w) e) (claimed r by_id how mask want e (takes.claims r by_id how mask want e))
      by (Confirm r by_id want) e = confirmed r by_id want e
      by (Put r by_id number put) e = subst (λ (w : Request). ReplyShows script.n (Table) c.bay w c.answer.reply) (sym e) tt
      by (Release r by_id number) e = subst (λ (w : Request). ReplyShows script.n (Table) c.bay w c.answer.reply) (sym e) tt
      by Lose e = subst (λ (w : Request). ReplyShows script.n (Table) c.bay w c.answer.reply) (sym e) tt
      by Fit e = subst (λ (w : Request). ReplyShows script.n (Table) c.bay w c.answer.reply) (sym e) tt

  all-shown : AreShown script.n (Table) Calls
  all-shown = each-shown script.n (Table) Calls was-shown

  sound-parts : (parts : List RowPart) → AllByRecursion (λ (part : RowPart). part.row.0 < script.rows) parts → AreSoundRows script.n (Table) parts
  sound-parts [] within = tt
  sound-parts (part ∷ parts) within = (table-sound script.n Owned part.row (owned h.hand.id part.row within.0), sound-parts parts within.1)

  -- what each unit has once the parity is put
  wanted-so : (unit : ℕ) → unit + 1 < script.n → has_unit (Part).mask unit ≡ true → content_at script (call ∷ earlier) row unit ≡ Bytes (Block unit)
  wanted-so unit inside has = by (last-of row (λ u. Bytes (Block u)) IsGone unit (commits_of script earlier call) (content_at script earlier row unit) committed) (settles.2.wanted unit inside has)
    where
      by : LastOf row (λ u. Bytes (Block u)) IsGone unit (commits_of script earlier call) (content_at script earlier row unit) →
          Happened (λ c. IsUnitPut script.n (Part).row unit (plain_cell (Block unit)) c × IsDone c) Calls ⊎ IsIn (record { row = (Part).row; unit = unit; content = Bytes (Block unit) }) (commits_next steps) →
          content_at script (call ∷ earlier) row unit ≡ Bytes (Block unit)
      by (Takes now gone) x = now
      by (Stays none same) (inl put) =
          same ∙ (held unit inside).put (plain_cell (Block unit)) (subst (λ (r : RowNo). Happened (λ c. IsUnitPut script.n r unit (plain_cell (Block unit)) c × IsDone c) Calls) part-row put)
      by (Stays none same) (inr i) =
          absurd (none (subst (λ (cs : List Commit). IsIn (record { row = row; unit = unit; content = Bytes (Block unit) }) cs) (sym (commits-are script is earlier call steps h asked done))
          (subst (λ (r : RowNo). IsIn (record { row = r; unit = unit; content = Bytes (Block unit) }) (commits_next steps)) part-row i)))

  unwanted-so : (unit : ℕ) → unit + 1 < script.n → has_unit (Part).mask unit ≡ false → content_at script (call ∷ earlier) row unit ≡ Owned row unit
  unwanted-so unit inside other =
      by (last-of row (λ u. Bytes (Block u)) IsGone unit (commits_of script earlier call) (content_at script earlier row unit) committed)
      ∙ unwanted unit inside other ∙ sym (owned-base script h.hand.id earlier row unit came)
    where
      by : LastOf row (λ u. Bytes (Block u)) IsGone unit (commits_of script earlier call) (content_at script earlier row unit) → content_at script (call ∷ earlier) row unit ≡ content_at script earlier row unit
      by (Stays none same) = same
      by (Takes now gone) = let bad : false ≡ true = sym other ∙ gone.0 in absurd (cc)

  each-so : (unit : ℕ) → unit + 1 < script.n → taken_by (Block) (units_in script.n (Part).mask) (Owned row) unit ≡ content_at script (call ∷ earlier) row unit
  each-so unit inside = by (has_unit (Part).mask unit) refl
    where
      by : (b : Bool) → has_unit (Part).mask unit ≡ b → taken_by (Block) (units_in script.n (Part).mask) (Owned row) unit ≡ content_at script (call ∷ earlier) row unit
      by true e =
          taken-this (Block) (units_in script.n (Part).mask) (Owned row) unit (filter-has (has_unit (Part).mask) (units script.n) unit e (units-has script.n unit inside))
          ∙ sym (wanted-so unit inside e)
      by false e =
          taken-other (Block) (units_in script.n (Part).mask) (Owned row) unit (filter-lacks (has_unit (Part).mask) (units script.n) unit e)
          ∙ sym (unwanted-so unit inside e)

  pub parity-written : ParityGood script (call ∷ earlier) row cell
  parity-written =
      let later : Cells = written_cells (Acc) (Table) in
      let puts = put-written script is earlier call steps h asked object first from count writes (Table)
      (sound-parts (Acc).parts (parts-within script is earlier (Host) steps h object first from count writes)) all-shown in
      let put : cell ≡ cell_on script.n later (P) row =
      subst (λ (b : BayNo). cell ≡ cell_on script.n later b row) place (subst (λ (w : Request). IfPut (λ r c. c ≡ cell_on script.n later call.bay r) w) what puts.cell) in
      record {
        units = good;
        sums =
            put
            ∙ parity-on script.n later row
            ∙ written-at (Acc) (Acc).parts (parts-differ script is earlier (Host) steps h object first from count writes) (Part) settles.1.0 row part-row (parity_of (cells_with script.n (Owned row))) (cells_with script.n (Owned row))
            ∙ ap parity_of (changed-after (Block) script.n (units_in script.n (Part).mask) (Owned row))
            ∙ ap parity_of (cells-same script.n (taken_by (Block) (units_in script.n (Part).mask) (Owned row)) (content_at script (call ∷ earlier) row) each-so);
      }
