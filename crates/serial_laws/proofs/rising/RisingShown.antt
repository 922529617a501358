-- What an attempt that holds the parity of a row was shown covers the writes that stand: those of the parity by its claim of the
-- parity, and those of a unit by its claim of the unit, but for its own put of the unit.
use Rattle.std.proofs.Common.{◌≡◌, ◌⊎◌, inl, inr, sym, ap, subst, ◌∙◌, ℕ, ◌+◌, ◌<◌, List, [], ◌∷◌, Option, Some, None, IsSome, is_some, arith}
use Rattle.raid_base.specs.declared.numbers.BayNo.{BayNo}
use Rattle.raid_base.specs.declared.numbers.HostNo.{HostNo}
use Rattle.raid_base.specs.declared.numbers.RowNo.{RowNo}
use Rattle.raid_base.specs.declared.numbers.Number.{Number}
use Rattle.raid_base.specs.declared.messages.Grant.{Grant}
use Rattle.raid_base.specs.declared.messages.Note.{Note}
use Rattle.raid_base.specs.declared.messages.Request.{Request}
use Rattle.raid_base.specs.declared.messages.Call.{Call}
use Rattle.raid_base.specs.declared.jobs.Task.{Task}
use Rattle.raid_base.specs.Replies.{grant_of}
use Rattle.raid_base.specs.Steps.{Steps, next_errand, errand_of}
use Rattle.stripe_layout.specs.Placement.{parity_bay, bay_of}
use Rattle.stripe_layout.proofs.LayoutLemmas.{parity_in}
use Rattle.slot_rules.specs.Slots.{Slot}
use Rattle.attempts.specs.Taking.{Finish}
use Rattle.attempts.specs.Phases.{IsIn}
use Rattle.attempts.proofs.RoomLemmas.{bay-below}
use Rattle.script_text.specs.Script.{Script}
use Rattle.script_text.specs.Ranges.{IsScript}
use Rattle.histories.specs.Calls.{Happened, row_of, id_of, IsClaim, IsPut, IsDone}
use Rattle.histories.specs.Torn.{IsMissing}
use Rattle.histories.specs.History.{IsHistory, progress_at, bay_at}
use Rattle.histories.specs.RowStates.{slot_at, cell_at}
use Rattle.histories.specs.Accesses.{writes}
use Rattle.row_laws.specs.Hands.{HasHand, calls_at, IsRecoveryOf}
use Rattle.row_laws.specs.Holding.{HasNote, CameFrom, Owns}
use Rattle.row_laws.proofs.holders.AnsweredFreeHands.{parity-claimed}
use Rattle.row_laws.proofs.holders.AnsweredFreeNotes.{Takes, note-came}
use Rattle.row_laws.proofs.hands.HandClaims.{claimed-taken, next-untaken}
use Rattle.row_laws.proofs.hands.HandMoves.{Stays, Goes, Came, Stayed, Begun, Went, came, asked-id}
use Rattle.row_laws.proofs.owners.OwnedPuts.{puts_are_of_owners}
use Rattle.row_laws.proofs.owners.RowOwnersHands.{Asker, asker, happened-own, other-id}
use Rattle.row_laws.proofs.covered.CoveredPutsHands.{in-happened}
use Rattle.row_laws.proofs.covered.CoveredPutsSlots.{Turn, Same, Bare, Taken, Marked, Freed, turned}
use Rattle.serial_laws.proofs.contents.ContentSlots.{put-filled}
use Rattle.serial_laws.proofs.contents.ContentRows.{stands}
use Rattle.serial_laws.proofs.contents.ContentWriteFacts.{Opens, came-before, one-origin, put-bares}
use Rattle.row_laws.proofs.numbers.RisingClaims.{WriteMove, Quiet, Wrote, write-moved, Covering, claim-covers}
use Rattle.histories.proofs.steps.BayRows.{starts-first}

module _ (script : Script) (is : IsScript script) (row : RowNo) (below : row.0 < script.rows) where
  abbrev P : BayNo
  P = parity_bay script.n row

  abbrev Has : Number → List Call → Type 0
  Has id history = CameFrom id (slot_at script history P row).note

  -- The parity
  parity-stays : (earlier : List Call) (call : Call) → IsHistory script (call ∷ earlier) → (id : Number) → Has id (call ∷ earlier) → writes P row (call ∷ earlier) ≡ writes P row earlier
  parity-stays earlier call along id from = by (write-moved P row call earlier)
    where
      by : WriteMove P row call earlier → writes P row (call ∷ earlier) ≡ writes P row earlier
      by (Quiet same) = same
      by (Wrote place other n cell what done now) = absurd (subst (λ (o : Option Note). CameFrom id o) (put-bares script is row below earlier call along other n cell place what done) from)

  -- the attempt's claim of the parity covers its writes
  abbrev pub ParityShown : Number → List Number → List Call → Type 0
  ParityShown id ns calls = Happened (λ c. IsClaim P row c × (id_of c.ask.what ≡ Some id) × Covering script.mode c ns) calls

  pub parity-covered : (history : List Call) → IsHistory script history → (id : Number) → Has id history → ParityShown id (writes P row history) history
  parity-covered [] along id from = absurd (subst (λ (s : Slot). CameFrom id s.note) (starts-first script P row below) from)
  parity-covered (call ∷ earlier) along id from = by (parity-covered earlier along.0 id) (came-before script is row below earlier call along id from)
    where
      by : (Has id earlier → ParityShown id (writes P row earlier) earlier) → Has id earlier ⊎ Opens script is row below earlier call along id → ParityShown id (writes P row (call ∷ earlier)) (call ∷ earlier)
      by rest (inl before) = inr (subst (λ (ns : List Number). ParityShown id ns earlier) (sym (parity-stays earlier call along id from)) (rest before))
      by rest (inr opens) =
          let c = opens.claimed in
          let claim : IsClaim P row call = (c.place, c.id, c.how, c.mask, c.want, c.what) in
          inl (
            claim,
            ap (λ (w : Request). id_of w) c.what ∙ ap (λ (x : Number). Some x) opens.own,
            claim-covers script is earlier call along P row (parity_in script.n row is.devices_least) below claim (inl (ap (λ (o : Option Grant). is_some o) c.grant)),
          )

  -- it has kept its cell
  parity-celled : (earlier : List Call) (call : Call) → IsHistory script (call ∷ earlier) → (id : Number) → Has id (call ∷ earlier) → (cell_at script (call ∷ earlier) row P ≡ None → ⊥) → cell_at script earlier row P ≡ None → ⊥
  parity-celled earlier call along id from there none = by (turned script is P row below earlier call along.1)
    where
      bares : (slot_at script (call ∷ earlier) P row).note ≡ None → ⊥
      bares free = subst (λ (o : Option Note). CameFrom id o) free from

      by : Turn (bay_at script P earlier) P row call (bay_at script P (call ∷ earlier)) → ⊥
      by (Same kept cell last) = there (cell ∙ none)
      by (Bare free cell) = there cell
      by (Taken c last) = there (c.cell ∙ none)
      by (Marked place other n cell what done free last) = bares free
      by (Freed place other n what own free cell last) = bares free

  -- A unit
  module _ (unit : ℕ) (inside : unit + 1 < script.n) where
    abbrev U : BayNo
    U = bay_of script.n row unit

    -- an attempt that claims the parity has claimed no unit of the row
    pub none-claimed : (earlier : List Call) (call : Call) → IsHistory script (call ∷ earlier) → (host : HostNo) (steps : Steps Finish) (h : HasHand script earlier host steps) → next_errand steps ≡ Some (errand_of call) →
        IsClaim P row call → Happened (IsClaim (U) row) (calls_at script earlier host) → ⊥
    none-claimed earlier call along host steps h asked claim happened =
        next-untaken script is earlier host steps h call asked P row (inr claim)
        (claimed-taken (record { bay = P; row = row }) (calls_at script earlier host)
        (parity-claimed script is host (progress_at script host earlier) steps h.hand row unit inside (calls_at script earlier host)
        (record { seen = (progress_at script host earlier).seen; steps = steps }) h.hand.led happened))

    -- its claim of the unit covers the unit's writes, or it has put the unit
    abbrev pub UnitShown : Number → Call → List Call → Type 0
    UnitShown id c history = Covering script.mode c (writes (U) row history) ⊎ Happened (λ x. IsPut (U) row id x × IsDone x) history

    abbrev IsTold : Number → Call → Type 0
    IsTold id c = IsClaim (U) row c × (id_of c.ask.what ≡ Some id) × (IsSome (grant_of c.answer.reply) ⊎ IsMissing c)

    pub unit-covered : (history : List Call) → IsHistory script history → (id : Number) → Has id history → (cell_at script history row P ≡ None → ⊥) → (c : Call) → IsIn c history → IsTold id c → UnitShown id c history
    unit-covered [] along id from there c i told = absurd i
    unit-covered (call ∷ earlier) along id from there c i told =
        by (λ before j. unit-covered earlier along.0 id before (parity-celled earlier call along id from there) c j told) (came-before script is row below earlier call along id from) i
      where
        owner : (other : Number) → Has id earlier → Owns script earlier row other → other ≡ id
        owner other before (inl none) = absurd (parity-celled earlier call along id from there none)
        owner other before (inr came) = one-origin other id (slot_at script earlier P row).note came before

        later : Has id earlier → UnitShown id c earlier → UnitShown id c (call ∷ earlier)
        later before (inr put) = inr (inr put)
        later before (inl cover) = move (write-moved (U) row call earlier)
          where
            move : WriteMove (U) row call earlier → UnitShown id c (call ∷ earlier)
            move (Quiet same) = inl (subst (λ (ns : List Number). Covering script.mode c ns) (sym same) cover)
            move (Wrote place other n cell what done now) =
                let own : other ≡ id = owner other before (puts_are_of_owners script earlier call is along row unit other below inside (place, n, cell, what) done) in
                inr (inl (subst (λ (x : Number). IsPut (U) row x call) own (place, n, cell, what), done))

        itself : call ≡ c → UnitShown id c (call ∷ earlier)
        itself same =
            inl (subst (λ (x : Call). Covering script.mode x (writes (U) row (call ∷ earlier))) same
            (let now : IsTold id call = subst (λ (x : Call). IsTold id x) (sym same) told in claim-covers script is earlier call along (U) row (bay-below script.n row unit (let least = is.devices_least in omega (arith, least))) below now.0 now.2))

        first : Opens script is row below earlier call along id → IsIn c earlier → ⊥
        first opens j =
            let k = opens.claimed in
            let claim : IsClaim P row call = (k.place, k.id, k.how, k.mask, k.want, k.what) in
            let a : Asker script is earlier call = asker script is earlier call along.0 along.1 row (ap (λ (w : Request). row_of w) k.what) in
            let both : Some id ≡ Some a.hand.hand.id =
            sym (ap (λ (w : Request). id_of w) k.what ∙ ap (λ (x : Number). Some x) opens.own) ∙ asked-id script is earlier call.ask.host a.steps a.hand call a.asked in
            let own : id ≡ a.hand.hand.id = cc in
            let mine : Happened (λ x. IsClaim (U) row x × (id_of x.ask.what ≡ Some id)) (calls_at script earlier call.ask.host) =
            happened-own script is earlier along.0 call.ask.host a.steps a.hand (errand_of call) a.asked (λ x q. q.1 ∙ ap (λ (y : Number). Some y) own)
            (in-happened (λ x. IsClaim (U) row x × (id_of x.ask.what ≡ Some id)) c earlier j (told.0, told.1)) in
            none-claimed earlier call along call.ask.host a.steps a.hand a.asked claim (claims (calls_at script earlier call.ask.host) mine)
          where
            claims : (calls : List Call) → Happened (λ x. IsClaim (U) row x × (id_of x.ask.what ≡ Some id)) calls → Happened (IsClaim (U) row) calls
            claims [] h = absurd h
            claims (x ∷ calls) (inl h) = inl h.0
            claims (x ∷ calls) (inr h) = inr (claims calls h)

        by : (Has id earlier → IsIn c earlier → UnitShown id c earlier) → Has id earlier ⊎ Opens script is row below earlier call along id → (call ≡ c) ⊎ IsIn c earlier → UnitShown id c (call ∷ earlier)
        by rest from_now (inl same) = itself same
        by rest (inl before) (inr j) = later before (rest before j)
        by rest (inr opens) (inr j) = absurd (first opens j)

    -- A recovery: the claim that found the unit missing covers its writes
    pub recovery-covered : (history : List Call) → IsHistory script history → (host : HostNo) (steps : Steps Finish) (h : HasHand script history host steps) → IsRecoveryOf row h.hand.task →
        HasNote h.hand.id (slot_at script history P row).note → (c : Call) → IsIn c (calls_at script history host) → IsClaim (U) row c → IsMissing c → Covering script.mode c (writes (U) row history)
    recovery-covered [] along host steps h recovers noted c i claim gone = absurd (subst (λ (s : Slot). HasNote h.hand.id s.note) (starts-first script P row below) noted)
    recovery-covered (call ∷ earlier) along host steps h recovers noted c i claim gone =
        by (λ s b r n j. recovery-covered earlier along.0 host s b r n c j claim gone) (came script is earlier call along.0 along.1 host steps h)
      where
        Before : Type 0
        Before = (s : Steps Finish) (b : HasHand script earlier host s) → IsRecoveryOf row b.hand.task → HasNote b.hand.id (slot_at script earlier P row).note → IsIn c (calls_at script earlier host) →
            Covering script.mode c (writes (U) row earlier)

        -- the unit is not put
        quiet : Covering script.mode c (writes (U) row earlier) → Covering script.mode c (writes (U) row (call ∷ earlier))
        quiet cover = move (write-moved (U) row call earlier)
          where
            move : WriteMove (U) row call earlier → Covering script.mode c (writes (U) row (call ∷ earlier))
            move (Quiet same) = subst (λ (ns : List Number). Covering script.mode c ns) (sym same) cover
            move (Wrote place id n cell what done now) =
                let none : cell_at script (call ∷ earlier) row (U) ≡ None =
                ((stands script is (call ∷ earlier) along).shown.recoveries host steps h row below recovers noted).missing unit inside
                (in-happened (λ x. IsClaim (U) row x × IsMissing x) c (calls_at script (call ∷ earlier) host) i (claim, gone)) in
                let some : cell_at script (call ∷ earlier) row (U) ≡ Some cell = put-filled script is earlier call along.1 (U) row below id n cell place what done in
                absurd (let bad : None ≡ Some cell = sym none ∙ some in cc)

        stayed : Before → Stays script is earlier call along.0 along.1 host steps h.hand.id h.hand.task (calls_at script (call ∷ earlier) host) → Covering script.mode c (writes (U) row (call ∷ earlier))
        stayed rest s =
            quiet (rest steps s.before (subst (λ (t : Task). IsRecoveryOf row t) (sym s.same_task) recovers)
            (subst (λ (x : Number). HasNote x (slot_at script earlier P row).note) (sym s.same_id) (old (note-came script is P row below earlier call along.1 h.hand.id noted)))
            (subst (λ (cs : List Call). IsIn c cs) s.calls i))
          where
            old : ((call.bay ≡ P) × Takes row h.hand.id call.ask.what) ⊎ HasNote h.hand.id (slot_at script earlier P row).note → HasNote h.hand.id (slot_at script earlier P row).note
            old (inl (place, takes)) = absurd (other-id script is earlier call along host h.hand.id s.other h.hand.own (ap (λ (w : Request). id_of w) takes.3))
            old (inr held) = held

        went : Before → Goes script is earlier call along.0 along.1 host h.hand.id h.hand.task (calls_at script (call ∷ earlier) host) → Covering script.mode c (writes (U) row (call ∷ earlier))
        went rest g = at (subst (λ (cs : List Call). IsIn c cs) g.calls i)
          where
            held : IsIn c (calls_at script earlier host) → ((call.bay ≡ P) × Takes row h.hand.id call.ask.what) ⊎ HasNote h.hand.id (slot_at script earlier P row).note → HasNote h.hand.id (slot_at script earlier P row).note
            held j (inr note) = note
            held j (inl (place, takes)) =
                absurd (none-claimed earlier call along host g.steps g.before g.asked (place, h.hand.id, takes.0, takes.1, takes.2, takes.3) (in-happened (IsClaim (U) row) c (calls_at script earlier host) j claim))

            at : (call ≡ c) ⊎ IsIn c (calls_at script earlier host) → Covering script.mode c (writes (U) row (call ∷ earlier))
            at (inl same) =
                subst (λ (x : Call). Covering script.mode x (writes (U) row (call ∷ earlier))) same
                (claim-covers script is earlier call along (U) row (bay-below script.n row unit (let least = is.devices_least in omega (arith, least))) below (subst (λ (x : Call). IsClaim (U) row x) (sym same) claim) (inr (subst IsMissing (sym same) gone)))
            at (inr j) =
                quiet (rest g.steps g.before (subst (λ (t : Task). IsRecoveryOf row t) (sym g.same_task) recovers)
                (subst (λ (x : Number). HasNote x (slot_at script earlier P row).note) (sym g.same_id) (held j (note-came script is P row below earlier call along.1 h.hand.id noted))) j)

        by : Before → Came script is earlier call along.0 along.1 host steps h.hand.id h.hand.task (calls_at script (call ∷ earlier) host) → Covering script.mode c (writes (U) row (call ∷ earlier))
        by rest (Stayed s) = stayed rest s
        by rest (Begun own bare) = absurd (subst (λ (cs : List Call). IsIn c cs) bare i)
        by rest (Went g) = went rest g
