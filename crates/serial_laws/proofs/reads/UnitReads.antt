-- A put of a parity that gives a unit a content has a number above those of all reads of the unit's slot.
use Rattle.std.proofs.Common.{◌≡◌, ◌⊎◌, inl, inr, refl, sym, ap, subst, ◌∙◌, ℕ, ◌+◌, ◌<◌, ◌≤◌, List, [], ◌∷◌, Option, Some, None, IsSome, is_some, arith}
use Rattle.raid_base.specs.declared.numbers.BayNo.{BayNo}
use Rattle.raid_base.specs.declared.numbers.HostNo.{HostNo}
use Rattle.raid_base.specs.declared.numbers.RowNo.{RowNo}
use Rattle.raid_base.specs.declared.numbers.Number.{Number}
use Rattle.raid_base.specs.declared.names.Name.{Name}
use Rattle.raid_base.specs.declared.cells.Cell.{Cell}
use Rattle.raid_base.specs.declared.messages.Call.{Call}
use Rattle.raid_base.specs.declared.messages.Errand.{Errand}
use Rattle.raid_base.specs.declared.messages.Grant.{Grant}
use Rattle.raid_base.specs.declared.messages.How.{How}
use Rattle.raid_base.specs.declared.messages.How.TheVariants.{Plain, Seize}
use Rattle.raid_base.specs.declared.messages.Mode.TheVariants.{Order}
use Rattle.raid_base.specs.declared.messages.Note.{Note}
use Rattle.raid_base.specs.declared.messages.Reply.{Reply}
use Rattle.raid_base.specs.declared.messages.Reply.TheVariants.{Missing, NoNote}
use Rattle.raid_base.specs.declared.messages.Request.{Request}
use Rattle.raid_base.specs.declared.messages.Request.TheVariants.{Share, Claim, Confirm, Put, Release, Lose, Fit}
use Rattle.raid_base.specs.declared.jobs.Task.{Task}
use Rattle.raid_base.specs.declared.jobs.Task.TheVariants as tasks
use Rattle.raid_base.specs.Replies.{grant_of}
use Rattle.raid_base.specs.Steps.{Steps, next_errand, errand_of}
use Rattle.stripe_layout.specs.Placement.{parity_bay, bay_of}
use Rattle.slot_rules.specs.Slots.{Slot}
use Rattle.attempts.specs.Taking.{Finish}
use Rattle.attempts.specs.Numbering.{ShowsNumber}
use Rattle.attempts.specs.Phases as phases
use Rattle.attempts.specs.Phases.{IsIn, MayAsk, after_asking}
use Rattle.attempts.proofs.RoomLemmas.{bay-below}
use Rattle.script_text.specs.Script.{Script}
use Rattle.script_text.specs.Ranges.{IsScript}
use Rattle.histories.specs.Calls.{Happened, id_of, IsClaim}
use Rattle.histories.specs.Torn.{IsMissing}
use Rattle.histories.specs.Hands.{InHand, Phased, past_of}
use Rattle.histories.specs.Progress.{Progress}
use Rattle.histories.specs.History.{IsHistory, progress_at, bay_at}
use Rattle.histories.proofs.hands.PhasedHands.{phased}
use Rattle.histories.specs.RowStates.{slot_at, cell_at}
use Rattle.row_laws.specs.Hands.{HasHand, calls_at, IsRecoveryOf}
use Rattle.row_laws.specs.Holding.{HasNote, IsRelease, GivesNothing, origin_of, IsOfOpenRecovery}
use Rattle.histories.specs.Accesses.{reads, AllBelow}
use Rattle.row_laws.specs.Laws.{commits_of}
use Rattle.histories.proofs.accesses.AccessCovers.{all-map}
use Rattle.row_laws.proofs.holders.AnsweredFreeNotes.{Takes, note-came}
use Rattle.row_laws.proofs.hands.HandClaims.{kind_of, Before, before-last, made-kind}
use Rattle.row_laws.proofs.hands.HandMoves.{may-next, Stays, Goes, Came, Stayed, Begun, Went, came}
use Rattle.row_laws.proofs.holders.HolderNotesCalls.{in-history}
use Rattle.row_laws.proofs.holders.HolderNotesHands.{put-more}
use Rattle.row_laws.proofs.holders.HolderNotesSlots.{IsGranted, grant_at, Claimed, claimed-by}
use Rattle.row_laws.proofs.owners.HoldingLaws.{holders_keep_notes}
use Rattle.row_laws.proofs.owners.OwnedPuts.{all-in}
use Rattle.row_laws.proofs.owners.RowOwnersHands.{Asker, happened-in, other-id}
use Rattle.serial_laws.proofs.contents.WritePuts.{WasGone}
use Rattle.row_laws.proofs.covered.CoveredPutsHands.{in-happened}
use Rattle.serial_laws.proofs.contents.ContentParityPuts as parities
use Rattle.serial_laws.proofs.contents.ContentPutters.{own-noted}
use Rattle.serial_laws.proofs.contents.ContentPuts.{may-put}
use Rattle.serial_laws.proofs.contents.ContentRows.{Stands, stands}
use Rattle.serial_laws.proofs.contents.ContentStates.{IsWriteTask, IsUnitPut, IsWriteHeld}
use Rattle.serial_laws.proofs.contents.ContentTrees.{MayPut, Writes, Rebuilds, Recovers}
use Rattle.serial_laws.proofs.contents.ContentWriteFacts.{own-from, writes-plain}
use Rattle.row_laws.proofs.reads.ReadSlots.{ReadMove, Quiet, Read, read-moved, ReadAt, read-at, CoversReads, claim-covers-reads, bare-unread}
use Rattle.serial_laws.proofs.rising.Rising as rising
use Rattle.serial_laws.proofs.rising.RisingCommits.{write-rises, TakesOne}
use Rattle.serial_laws.proofs.rising.RisingPuts.{calls-named, number-above, id-least}
use Rattle.serial_laws.proofs.rising.RisingShown.{none-claimed}
use Rattle.histories.proofs.steps.BayRows.{starts-first}

-- What an attempt was told by its claim of a unit: that it is missing; or it was granted to a write that gives nothing back and has
-- not put it, or whose put of it found no note, in another life than that of the grant.
data Told (n : ℕ) (row : RowNo) (unit : ℕ) (task : Task) (steps : Steps Finish) (calls : List Call) (c : Call) : Type 0 where
  Rescues : (recovers : IsRecoveryOf row task) (missing : IsMissing c) → Told n row unit task steps calls c
  Lacks : (writes : IsWriteTask task) (missing : IsMissing c) → Told n row unit task steps calls c
  Holds : (writes : IsWriteTask task) (gives : GivesNothing steps calls) (grant : Grant) (granted : grant_of c.answer.reply ≡ Some grant)
      (unput : IsIn (record { bay = bay_of n row unit; row = row }) (past_of calls).put → ⊥) → Told n row unit task steps calls c
  Finds : (writes : IsWriteTask task) (gives : GivesNothing steps calls) (grant : Grant) (granted : grant_of c.answer.reply ≡ Some grant) (life : ℕ) (cell : Cell)
      (put : Happened (λ x. IsUnitPut n row unit cell x × (x.answer.reply ≡ NoNote life)) calls) (apart : grant.life ≡ life → ⊥) → Told n row unit task steps calls c

-- so its claim was granted, or answered that its slot is missing
answered : (n : ℕ) (row : RowNo) (unit : ℕ) (task : Task) (steps : Steps Finish) (calls : List Call) (c : Call) → Told n row unit task steps calls c → IsSome (grant_of c.answer.reply) ⊎ IsMissing c
answered n row unit task steps calls c (Rescues recovers missing) = inr missing
answered n row unit task steps calls c (Lacks writes missing) = inr missing
answered n row unit task steps calls c (Holds writes gives grant granted unput) = inl (ap (λ (o : Option Grant). is_some o) granted)
answered n row unit task steps calls c (Finds writes gives grant granted life cell put apart) = inl (ap (λ (o : Option Grant). is_some o) granted)

-- before a call that it has made it gave nothing back
gave : (steps now : Steps Finish) (call : Call) (calls : List Call) → next_errand steps ≡ Some (errand_of call) → GivesNothing now (call ∷ calls) → GivesNothing steps calls
gave steps now call calls asked gives = record {
  so_far = λ happened. gives.so_far (inr happened);
  next = λ errand is_next release.
      (let both : Some errand ≡ Some (errand_of call) = sym is_next ∙ asked in
      let one : errand ≡ errand_of call = cc in
      gives.so_far (inl (subst (λ (e : Errand). IsRelease e.request) one release)));
}

module _ (script : Script) (is : IsScript script) where
  -- a plain claim that was granted seized no note
  plain-unseized : (at : BayNo) (row : RowNo) → row.0 < script.rows → (history : List Call) → IsHistory script history → (c : Call) (grant : Grant) → IsIn c history → (id : Number) (mask : ℕ) (want : _) →
      c.bay ≡ at → c.ask.what ≡ Claim row id Plain mask want → grant_of c.answer.reply ≡ Some grant → grant.seized ≡ None
  plain-unseized at row below [] along c grant i id mask want place what granted = absurd i
  plain-unseized at row below (call ∷ earlier) along c grant (inr i) id mask want place what granted = plain-unseized at row below earlier along.0 c grant i id mask want place what granted
  plain-unseized at row below (call ∷ earlier) along c grant (inl same) id mask want place what granted = by claimed.free
    where
      claimed : Claimed (bay_at script at earlier) at row call (bay_at script at (call ∷ earlier))
      claimed = claimed-by script is at row below earlier call along.1 (subst (λ (x : Call). IsGranted at row x) (sym same) ((place, id, Plain, mask, want, what), grant, granted))

      found : (slot_at script earlier at row).note ≡ grant.seized
      found =
          let both : Some (grant_at (bay_at script at earlier) (slot_at script earlier at row) claimed.want) ≡ Some grant = sym claimed.grant ∙ ap (λ (x : Call). grant_of x.answer.reply) same ∙ granted in
          let one : grant_at (bay_at script at earlier) (slot_at script earlier at row) claimed.want ≡ grant = cc in
          ap (λ (g : Grant). g.seized) one

      by : ((slot_at script earlier at row).note ≡ None) ⊎ (claimed.how ≡ Seize) → grant.seized ≡ None
      by (inl free) = sym found ∙ free
      by (inr seizing) =
          let both : Claim row claimed.id claimed.how claimed.mask claimed.want ≡ Claim row id Plain mask want = sym claimed.what ∙ ap (λ (x : Call). x.ask.what) same ∙ what in
          let kind : claimed.how ≡ Plain = cc in
          let bad : Seize ≡ Plain = sym seizing ∙ kind in
          absurd (cc)

  -- Of an attempt in hand: once it has given something back, it puts no more
  module _ (host : HostNo) (p : Progress) where
    released-late : (seen : Number) (calls : List Call) (steps : Steps Finish) → InHand script host p.jobs p.row seen calls steps → Happened (λ x. IsRelease x.ask.what) calls → 3 ≤ (past_of calls).phase
    released-late seen [] steps h happened = absurd happened
    released-late seen (call ∷ earlier) steps h (inl release) = by call.ask.what release
      where
        by : (what : Request) → IsRelease what → 3 ≤ (after_asking (past_of earlier) call.bay what call.answer.reply).phase
        by (Share row id want) r = absurd r
        by (Claim row id how mask want) r = absurd r
        by (Confirm row id want) r = absurd r
        by (Put row id n cell) r = absurd r
        by (Release row id n) r = omega arith
        by Lose r = absurd r
        by Fit r = absurd r
    released-late seen (call ∷ earlier) steps h (inr happened) =
        let b : Before script is host p earlier call h.id h.task = before-last script is host p seen call earlier steps h in
        let f : Phased script.n b.hand.id earlier b.steps = phased script is host (record p { seen = b.seen; calls = earlier }) b.steps b.hand in
        later f.past f.same.phase b.hand.id (may-next script.n b.hand.id f.past b.steps (errand_of call) f.keeps b.asked) (released-late b.seen earlier b.steps b.hand happened)
      where
        later : (past : phases.Past) → (past_of earlier).phase ≤ past.phase → (id : Number) → MayAsk script.n id past call.bay call.ask.what → 3 ≤ (past_of earlier).phase →
            3 ≤ (after_asking (past_of earlier) call.bay call.ask.what call.answer.reply).phase
        later past more id may late = by call.ask.what may
          where
            by : (what : Request) → MayAsk script.n id past call.bay what → 3 ≤ (after_asking (past_of earlier) call.bay what call.answer.reply).phase
            by (Share row by_id want) m = late
            by (Claim row by_id how mask want) m = late
            by (Confirm row by_id want) m = absurd (let low = m.1 in omega (arith, more, late, low))
            by (Put row by_id n cell) m = absurd (let low = m.1 in omega (arith, more, late, low))
            by (Release row by_id n) m = omega arith
            by Lose m = late
            by Fit m = late

  module _ (history : List Call) (host : HostNo) (steps : Steps Finish) (h : HasHand script history host steps) (call : Call) (asked : next_errand steps ≡ Some (errand_of call)) (row : RowNo) (id n : Number) (cell : Cell)
      (what : call.ask.what ≡ Put row id n cell) where
    abbrev Now : Progress
    Now = progress_at script host history

    may-put-now : (past : phases.Past) → MayAsk script.n h.hand.id past call.bay call.ask.what → MayAsk script.n h.hand.id past call.bay (Put row id n cell)
    may-put-now past may = subst (λ (w : Request). MayAsk script.n h.hand.id past call.bay w) what may

    -- while it puts, it has given nothing back
    putting-gives : GivesNothing steps (calls_at script history host)
    putting-gives = record {
      so_far = λ happened.
          let f : Phased script.n h.hand.id (calls_at script history host) steps = phased script is host (Now) steps h.hand in
          let may = may-put-now f.past (may-next script.n h.hand.id f.past steps (errand_of call) f.keeps asked) in
          let late : 3 ≤ (past_of (calls_at script history host)).phase = released-late host (Now) (Now).seen (Now).calls steps h.hand happened in
          let low = may.1 in
          let more = f.same.phase in
          absurd (omega (arith, late, low, more));
      next = λ errand is_next release.
          let both : Some (errand_of call) ≡ Some errand = sym asked ∙ is_next in
          let one : errand_of call ≡ errand = cc in
          subst (λ (w : Request). IsRelease w) what (subst (λ (e : Errand). IsRelease e.request) (sym one) release);
    }

-- A unit of a row
module _ (script : Script) (is : IsScript script) (row : RowNo) (below : row.0 < script.rows) (unit : ℕ) (inside : unit + 1 < script.n) where
  abbrev P : BayNo
  P = parity_bay script.n row

  abbrev U : BayNo
  U = bay_of script.n row unit

  abbrev ParityNote : List Call → Option Note
  ParityNote history = (slot_at script history P row).note

  abbrev Knows : Task → Steps Finish → List Call → Call → Type 0
  Knows task steps calls c = Told script.n row unit task steps calls c

  -- the claim covers the unit's reads
  abbrev Covers : Call → Number → List Call → Type 0
  Covers c id history = CoversReads script.mode c id (reads script U row history)

  -- While an attempt holds the parity, the unit is read below its id only
  module _ (earlier : List Call) (call : Call) (along : IsHistory script (call ∷ earlier)) (host : HostNo) (steps : Steps Finish) (h : HasHand script earlier host steps) (noted : HasNote h.hand.id (ParityNote earlier))
      (c : Call) (i : IsIn c (calls_at script earlier host)) (claim : IsClaim (U) row c) (cover : Covers c h.hand.id earlier) where
    abbrev Later : Type 0
    Later = Covers c h.hand.id (call ∷ earlier)

    bare : cell_at script earlier row (U) ≡ None → Later
    bare none = subst (λ (ns : List Number). CoversReads script.mode c h.hand.id ns) (sym (bare-unread script is earlier call along (U) row below none)) cover

    among : (Q : Call → Type 0) → Q c → Happened (λ x. IsClaim (U) row x × Q x) (calls_at script earlier host)
    among Q q = in-happened (λ x. IsClaim (U) row x × Q x) c (calls_at script earlier host) i (claim, q)

    held : IsWriteTask h.hand.task → IsWriteHeld script earlier row unit (calls_at script earlier host)
    held writes =
        ((stands script is earlier along.0).shown.writes host steps h row below writes).held (own-from script is row below earlier along.0 host steps h writes noted) unit inside

    read-below : (n : Number) → reads script (U) row (call ∷ earlier) ≡ n ∷ reads script (U) row earlier → n.0 < h.hand.id.0 → Later
    read-below n now less =
        subst (λ (ns : List Number). CoversReads script.mode c h.hand.id ns) (sym now)
        (record { number = cover.number; shown = cover.shown; covers = (inr less, cover.covers); late = cover.late })

    -- a write that was granted the unit
    module _ (writes : IsWriteTask h.hand.task) (gives : GivesNothing steps (calls_at script earlier host)) (grant : Grant) (granted : grant_of c.answer.reply ≡ Some grant)
        (unput : IsIn (record { bay = bay_of script.n row unit; row = row }) (past_of (calls_at script earlier host)).put → ⊥) where
      unseized : grant.seized ≡ None
      unseized = named claim
        where
          named : IsClaim (U) row c → grant.seized ≡ None
          named (place, by, how, mask, want, what) =
              let kind : how ≡ Plain = (made-kind script is earlier host steps h c i row by how mask want what).0 ∙ writes-plain h.hand.task writes in
              plain-unseized script is (U) row below earlier along.0 c grant (in-history script is earlier along.0 host steps h c i) by mask want place (what ∙ ap (λ (x : How). Claim row by x mask want) kind) granted

      there : (cell : Cell) → cell_at script earlier row (U) ≡ Some cell → grant.life ≡ (bay_at script (U) earlier).life → Later
      there cell some life = move (read-moved script (U) row call earlier)
        where
          found : (note : Note) × ((slot_at script earlier (U) row).note ≡ Some note) × (note.origin ≡ origin_of h.hand.id grant.seized) × ((note.id ≡ h.hand.id) ⊎ IsOfOpenRecovery script earlier row note)
          found =
              holders_keep_notes script earlier is along.0 host steps h gives row unit below inside noted c grant i claim granted unput
              (subst (λ (o : Option Cell). IsSome o) (sym some) refl) life

          origin : found.0.origin ≡ h.hand.id
          origin = found.2 ∙ ap (λ (o : Option Note). origin_of h.hand.id o) unseized

          less : (n : Number) → ReadAt script earlier (U) row n → n.0 < h.hand.id.0
          less n r =
              let low : n.0 < found.0.origin.0 = (r.noted found.0 found.1).1 in
              let one : found.0.origin.0 ≡ h.hand.id.0 = ap (λ (x : Number). x.0) origin in
              omega (arith, low, one)

          move : ReadMove script (U) row call earlier → Later
          move (Quiet same) = subst (λ (ns : List Number). CoversReads script.mode c h.hand.id ns) (sym same) cover
          move (Read place of n as_read now) =
              read-below n now (less n (subst (λ (b : BayNo). ReadAt script earlier b row n) place (read-at script is earlier call along row below of n as_read)))

      holding : Later
      holding = by (cell_at script earlier row (U)) refl (held writes)
        where
          by : (o : Option Cell) → cell_at script earlier row (U) ≡ o → IsWriteHeld script earlier row unit (calls_at script earlier host) → Later
          by None none w = bare none
          by (Some cell) some w = live (w.granted grant (among (λ x. grant_of x.answer.reply ≡ Some grant) granted))
            where
              live : (grant.life ≡ (bay_at script (U) earlier).life) ⊎ (cell_at script earlier row (U) ≡ None) → Later
              live (inl life) = there cell some life
              live (inr none) = bare none

    reads-next : Knows h.hand.task steps (calls_at script earlier host) c → Later
    reads-next (Rescues recovers missing) = bare (((stands script is earlier along.0).shown.recoveries host steps h row below recovers noted).missing unit inside (among IsMissing missing))
    reads-next (Lacks writes missing) = bare ((held writes).missing (among IsMissing missing))
    reads-next (Holds writes gives grant granted unput) = holding writes gives grant granted unput
    reads-next (Finds writes gives grant granted life cell put apart) = bare ((held writes).lost grant life cell (among (λ x. grant_of x.answer.reply ≡ Some grant) granted) put apart)

  -- what it was told before a call that it has made
  module _ (earlier : List Call) (call : Call) (host : HostNo) (steps : Steps Finish) (h : HasHand script earlier host steps) (asked : next_errand steps ≡ Some (errand_of call)) (now : Steps Finish) (c : Call) where
    abbrev Calls : List Call
    Calls = calls_at script earlier host

    unput-before : (cell : Cell) → IsUnitPut script.n row unit cell call → IsIn (record { bay = bay_of script.n row unit; row = row }) (past_of (calls_at script earlier host)).put → ⊥
    unput-before cell (place, id, k, what) j =
        let f : Phased script.n h.hand.id (calls_at script earlier host) steps = phased script is host (progress_at script host earlier) steps h.hand in
        let may : MayAsk script.n h.hand.id f.past call.bay call.ask.what = may-next script.n h.hand.id f.past steps (errand_of call) f.keeps asked in
        let put : MayAsk script.n h.hand.id f.past (U) (Put row id k cell) =
        subst (λ (y : BayNo). MayAsk script.n h.hand.id f.past y (Put row id k cell)) place (subst (λ (w : Request). MayAsk script.n h.hand.id f.past call.bay w) what may) in
        put.3.once (subst (λ (slots : List phases.Slot). IsIn (record { bay = bay_of script.n row unit; row = row }) slots) (sym f.same.put) j)

    told-before : Knows h.hand.task now (call ∷ calls_at script earlier host) c → Knows h.hand.task steps (calls_at script earlier host) c
    told-before (Rescues recovers missing) = Rescues recovers missing
    told-before (Lacks writes missing) = Lacks writes missing
    told-before (Holds writes gives grant granted unput) =
        Holds writes (gave steps now call (Calls) asked gives) grant granted (λ j. unput (put-more call (Calls) (record { bay = bay_of script.n row unit; row = row }) j))
    told-before (Finds writes gives grant granted life cell (inl put) apart) = Holds writes (gave steps now call (Calls) asked gives) grant granted (unput-before cell put.0)
    told-before (Finds writes gives grant granted life cell (inr put) apart) = Finds writes (gave steps now call (Calls) asked gives) grant granted life cell put apart

  -- so it is from its claim on
  reads-covered : (history : List Call) → IsHistory script history → (host : HostNo) (steps : Steps Finish) (h : HasHand script history host steps) → HasNote h.hand.id (ParityNote history) → (c : Call) →
      IsIn c (calls_at script history host) → IsClaim (U) row c → Knows h.hand.task steps (calls_at script history host) c → Covers c h.hand.id history
  reads-covered [] along host steps h noted c i claim told = absurd (subst (λ (s : Slot). HasNote h.hand.id s.note) (starts-first script (P) row below) noted)
  reads-covered (call ∷ earlier) along host steps h noted c i claim told =
      by (λ s b n j t. reads-covered earlier along.0 host s b n c j claim t) (came script is earlier call along.0 along.1 host steps h)
    where
      Past : Type 0
      Past = (s : Steps Finish) (b : HasHand script earlier host s) → HasNote b.hand.id (ParityNote earlier) → IsIn c (calls_at script earlier host) → Knows b.hand.task s (calls_at script earlier host) c →
          Covers c b.hand.id earlier

      next : Past → (s : Steps Finish) (b : HasHand script earlier host s) → b.hand.id ≡ h.hand.id → HasNote b.hand.id (ParityNote earlier) → IsIn c (calls_at script earlier host) →
          Knows b.hand.task s (calls_at script earlier host) c → Covers c h.hand.id (call ∷ earlier)
      next rest s b same n j t = subst (λ (x : Number). Covers c x (call ∷ earlier)) same (reads-next earlier call along host s b n c j claim (rest s b n j t) t)

      stayed : Past → Stays script is earlier call along.0 along.1 host steps h.hand.id h.hand.task (calls_at script (call ∷ earlier) host) → Covers c h.hand.id (call ∷ earlier)
      stayed rest s =
          next rest steps s.before s.same_id (subst (λ (x : Number). HasNote x (ParityNote earlier)) (sym s.same_id) (old (note-came script is (P) row below earlier call along.1 h.hand.id noted)))
          (subst (λ (cs : List Call). IsIn c cs) s.calls i)
          (subst (λ (t : Task). Knows t steps (calls_at script earlier host) c) (sym s.same_task) (subst (λ (cs : List Call). Knows h.hand.task steps cs c) s.calls told))
        where
          old : ((call.bay ≡ P) × Takes row h.hand.id call.ask.what) ⊎ HasNote h.hand.id (ParityNote earlier) → HasNote h.hand.id (ParityNote earlier)
          old (inl (place, takes)) = absurd (other-id script is earlier call along host h.hand.id s.other h.hand.own (ap (λ (w : Request). id_of w) takes.3))
          old (inr stood) = stood

      went : Past → Goes script is earlier call along.0 along.1 host h.hand.id h.hand.task (calls_at script (call ∷ earlier) host) → Covers c h.hand.id (call ∷ earlier)
      went rest g = at (subst (λ (cs : List Call). IsIn c cs) g.calls i)
        where
          stood : IsIn c (calls_at script earlier host) → ((call.bay ≡ P) × Takes row h.hand.id call.ask.what) ⊎ HasNote h.hand.id (ParityNote earlier) → HasNote h.hand.id (ParityNote earlier)
          stood j (inr note) = note
          stood j (inl (place, takes)) =
              absurd (none-claimed script is row below unit inside earlier call along host g.steps g.before g.asked (place, h.hand.id, takes.0, takes.1, takes.2, takes.3)
              (in-happened (IsClaim (U) row) c (calls_at script earlier host) j claim))

          at : (call ≡ c) ⊎ IsIn c (calls_at script earlier host) → Covers c h.hand.id (call ∷ earlier)
          at (inl same) =
              subst (λ (x : Call). Covers x h.hand.id (call ∷ earlier)) same
              (claim-covers-reads script is earlier call along (U) row (bay-below script.n row unit (let least = is.devices_least in omega (arith, least))) below (subst (λ (x : Call). IsClaim (U) row x) (sym same) claim)
              (subst (λ (x : Call). IsSome (grant_of x.answer.reply) ⊎ IsMissing x) (sym same) (answered script.n row unit h.hand.task steps (calls_at script (call ∷ earlier) host) c told)) h.hand.id)
          at (inr j) =
              next rest g.steps g.before g.same_id
              (subst (λ (x : Number). HasNote x (ParityNote earlier)) (sym g.same_id) (stood j (note-came script is (P) row below earlier call along.1 h.hand.id noted))) j
              (told-before earlier call host g.steps g.before g.asked steps c
              (subst (λ (t : Task). Knows t steps (call ∷ calls_at script earlier host) c) (sym g.same_task) (subst (λ (cs : List Call). Knows h.hand.task steps cs c) g.calls told)))

      by : Past → Came script is earlier call along.0 along.1 host steps h.hand.id h.hand.task (calls_at script (call ∷ earlier) host) → Covers c h.hand.id (call ∷ earlier)
      by rest (Stayed s) = stayed rest s
      by rest (Begun own none) = absurd (subst (λ (cs : List Call). IsIn c cs) none i)
      by rest (Went g) = went rest g

  -- A put of the parity that gives the unit a content
  module _ (earlier : List Call) (call : Call) (along : IsHistory script (call ∷ earlier)) (t : TakesOne script earlier call row unit) (place : call.bay ≡ P) where
    abbrev a : Asker script is earlier call
    a = rising.a script is row below unit inside earlier call along t.id t.number t.cell t.what t.done

    abbrev Mine : List Call
    Mine = calls_at script earlier call.ask.host

    noted : HasNote (a).hand.hand.id (ParityNote earlier)
    noted = own-noted script is earlier call along row below (P) t.id t.number t.cell place t.what t.done (a).steps (a).hand (a).asked

    -- its number is above what a claim of its attempt covers
    above : (c : Call) → IsIn c Mine → (cover : Covers c (a).hand.hand.id earlier) → (script.mode ≡ Order → kind_of (a).hand.hand.task ≡ Plain → cover.number.0 < (a).hand.hand.id.0) →
        AllBelow t.number (reads script (U) row earlier)
    above c i cover late =
        let more : cover.number.0 < t.number.0 =
        number-above script is earlier call.ask.host (a).steps (a).hand call (a).asked row t.id t.number t.cell t.what c i cover.number cover.shown late in
        let least : (a).hand.hand.id.0 ≤ t.number.0 = id-least script is earlier call.ask.host (a).steps (a).hand call (a).asked row t.id t.number t.cell t.what in
        all-map (λ (x : Number). (x.0 ≤ cover.number.0) ⊎ (x.0 < (a).hand.hand.id.0)) (λ (x : Number). x.0 < t.number.0) (reads script (U) row earlier) (λ x low. each x more least low) cover.covers
      where
        each : (x : Number) → cover.number.0 < t.number.0 → (a).hand.hand.id.0 ≤ t.number.0 → (x.0 ≤ cover.number.0) ⊎ (x.0 < (a).hand.hand.id.0) → x.0 < t.number.0
        each x more least (inl low) = omega (arith, more, low)
        each x more least (inr low) = omega (arith, least, low)

    covered : (c : Call) → IsIn c Mine → IsClaim (U) row c → Knows (a).hand.hand.task (a).steps Mine c → Covers c (a).hand.hand.id earlier
    covered c i claim told = reads-covered earlier along.0 call.ask.host (a).steps (a).hand noted c i claim told

    -- by a write
    module _ (object : Name) (first from count : ℕ) (writes : (a).hand.hand.task ≡ tasks.Write object first from count) where
      is-write : IsWriteTask (a).hand.hand.task
      is-write = subst IsWriteTask (sym writes) tt

      by-missing : (c : Call) → IsIn c Mine → IsClaim (U) row c → IsMissing c → AllBelow t.number (reads script (U) row earlier)
      by-missing c i claim (floor, said) = by (covered c i claim (Lacks is-write (floor, said)))
        where
          by : Covers c (a).hand.hand.id earlier → AllBelow t.number (reads script (U) row earlier)
          by cover = above c i cover (λ order plain. late order)
            where
              late : script.mode ≡ Order → cover.number.0 < (a).hand.hand.id.0
              late order =
                  let rises = write-rises script is earlier call (a).steps (a).hand (a).asked object first from count writes in
                  let low : floor.0 < (a).hand.hand.id.0 =
                  all-in (λ (y : Call). (k : Number) → y.answer.reply ≡ Missing k → k.0 < (a).hand.hand.id.0) c Mine (rises.floors row t.id t.number t.cell t.what order) i floor said in
                  let same : cover.number ≡ floor = subst (λ (r : Reply). ShowsNumber r cover.number) said cover.shown in
                  let one : cover.number.0 ≡ floor.0 = ap (λ (x : Number). x.0) same in
                  omega (arith, low, one)

      by-lost : (c : Call) → IsIn c Mine → IsClaim (U) row c → IsSome (grant_of c.answer.reply) → Covers c (a).hand.hand.id earlier → AllBelow t.number (reads script (U) row earlier)
      by-lost c i claim some cover = above c i cover (λ order plain. named order plain claim)
        where
          named : script.mode ≡ Order → kind_of (a).hand.hand.task ≡ Plain → IsClaim (U) row c → cover.number.0 < (a).hand.hand.id.0
          named order plain (at, by, how, mask, want, asks) =
              let kind : how ≡ Plain = (made-kind script is earlier call.ask.host (a).steps (a).hand c i row by how mask want asks).0 ∙ plain in
              let both : Some by ≡ Some (a).hand.hand.id = sym (ap (λ (w : Request). id_of w) asks) ∙ calls-named script is earlier call.ask.host (a).steps (a).hand c i in
              let one : by ≡ (a).hand.hand.id = cc in
              let less : cover.number.0 < by.0 = cover.late order row by mask want (asks ∙ ap (λ (x : How). Claim row by x mask want) kind) some in
              let same : by.0 ≡ (a).hand.hand.id.0 = ap (λ (x : Number). x.0) one in
              omega (arith, less, same)

      write-above : AllBelow t.number (reads script (U) row earlier)
      write-above = by (rising.gone script is row below unit inside earlier call along t.id t.number t.cell t.what t.done place t.commit t.among t.of_row t.of_unit object first from count writes)
        where
          by : WasGone script.n row unit Mine → AllBelow t.number (reads script (U) row earlier)
          by (inl missing) = let c = happened-in Mine missing in by-missing c.0 c.1 c.2.0 c.2.1
          by (inr (grant, life, cell, granted, unnoted, apart)) =
              let c = happened-in Mine granted in
              by-lost c.0 c.1 c.2.0 (ap (λ (o : Option Grant). is_some o) c.2.1)
              (covered c.0 c.1 c.2.0
              (Finds is-write (putting-gives script is earlier call.ask.host (a).steps (a).hand call (a).asked row t.id t.number t.cell t.what) grant c.2.1 life cell unnoted apart))

    -- by a recovery
    recovery-above : (at : RowNo) → (a).hand.hand.task ≡ tasks.Recover at → AllBelow t.number (reads script (U) row earlier)
    recovery-above at recovers =
        let s : Stands script earlier = stands script is earlier along.0 in
        let so =
        all-in _ t.commit (commits_of script earlier call)
        (parities.all-lost script is earlier call along s.holds row below place s.shown t.id t.number t.cell t.what t.done (a).steps (a).hand (a).asked at recovers) t.among in
        let missing : Happened (λ c. IsClaim (U) row c × IsMissing c) Mine = subst (λ (u : ℕ). Happened (λ c. IsClaim (bay_of script.n row u) row c × IsMissing c) Mine) t.of_unit so.2 in
        let here : row ≡ at = parities.here script is earlier call along s.holds row below place s.shown t.id t.number t.cell t.what t.done (a).steps (a).hand (a).asked at recovers in
        let c = happened-in Mine missing in
        let cover : Covers c.0 (a).hand.hand.id earlier = covered c.0 c.1 c.2.0 (Rescues (subst (IsRecoveryOf row) (sym recovers) (sym here)) c.2.1) in
        above c.0 c.1 cover (λ order plain. seizing plain cover.number)
      where
        seizing : kind_of (a).hand.hand.task ≡ Plain → (k : Number) → k.0 < (a).hand.hand.id.0
        seizing plain k = let bad : kind_of (tasks.Recover at) ≡ Plain = subst (λ (x : Task). kind_of x ≡ Plain) recovers plain in absurd (cc)

    put-above : AllBelow t.number (reads script (U) row earlier)
    put-above = by (may-put script is earlier call (a).steps (a).hand (a).asked row t.id t.number t.cell t.what)
      where
        by : MayPut (a).hand.hand.task → AllBelow t.number (reads script (U) row earlier)
        by (Writes object first from count writes) = write-above object first from count writes
        by (Rebuilds bay mends) = absurd (rising.mends-none script is row below unit inside earlier call along t.id t.number t.cell t.what t.done bay mends t.commit t.among)
        by (Recovers at recovers) = recovery-above at recovers

pub unit-reads-below : (script : Script) → IsScript script → (earlier : List Call) (call : Call) → IsHistory script (call ∷ earlier) → (row : RowNo) → row.0 < script.rows → (unit : ℕ) → unit + 1 < script.n →
    (t : TakesOne script earlier call row unit) → call.bay ≡ parity_bay script.n row → AllBelow t.number (reads script (bay_of script.n row unit) row earlier)
unit-reads-below script is earlier call along row below unit inside t place = put-above script is row below unit inside earlier call along t place
