-- A put of a unit has a number above those of all reads of the parity, where the parity has a note that came from its attempt.
use Rattle.std.proofs.Common.{◌≡◌, ◌⊎◌, inl, inr, refl, sym, ap, subst, ◌∙◌, ℕ, ◌+◌, ◌<◌, ◌≤◌, List, [], ◌∷◌, Option, Some, None, IsSome, is_some, arith}
use Rattle.stripe_layout.proofs.LayoutLemmas.{parity_in}
use Rattle.raid_base.specs.declared.numbers.BayNo.{BayNo}
use Rattle.raid_base.specs.declared.numbers.HostNo.{HostNo}
use Rattle.raid_base.specs.declared.numbers.RowNo.{RowNo}
use Rattle.raid_base.specs.declared.numbers.Number.{Number}
use Rattle.raid_base.specs.declared.cells.Cell.{Cell}
use Rattle.raid_base.specs.declared.messages.Call.{Call}
use Rattle.raid_base.specs.declared.messages.Grant.{Grant}
use Rattle.raid_base.specs.declared.messages.How.{How}
use Rattle.raid_base.specs.declared.messages.How.TheVariants.{Plain}
use Rattle.raid_base.specs.declared.messages.Mode.TheVariants.{Order}
use Rattle.raid_base.specs.declared.messages.Note.{Note}
use Rattle.raid_base.specs.declared.messages.Request.{Request}
use Rattle.raid_base.specs.declared.messages.Request.TheVariants.{Claim, Put}
use Rattle.raid_base.specs.Replies.{grant_of}
use Rattle.raid_base.specs.Steps.{Steps, next_errand, errand_of}
use Rattle.slot_rules.specs.Slots.{Slot}
use Rattle.stripe_layout.specs.Placement.{parity_bay, bay_of}
use Rattle.attempts.specs.Taking.{Finish}
use Rattle.attempts.specs.Phases.{IsIn}
use Rattle.script_text.specs.Script.{Script}
use Rattle.script_text.specs.Ranges.{IsScript}
use Rattle.histories.specs.Calls.{Happened, row_of, id_of, read_of, IsClaim}
use Rattle.histories.specs.History.{IsHistory, progress_at}
use Rattle.histories.specs.Progress.{Progress}
use Rattle.histories.specs.RowStates.{slot_at}
use Rattle.row_laws.specs.Hands.{HasHand, calls_at}
use Rattle.row_laws.specs.Holding.{CameFrom}
use Rattle.histories.specs.Accesses.{reads, AllBelow}
use Rattle.histories.proofs.accesses.AccessCovers.{all-map}
use Rattle.serial_laws.proofs.contents.ContentWriteFacts.{Opens, came-before}
use Rattle.row_laws.proofs.hands.HandClaims.{kind_of, made-kind}
use Rattle.row_laws.proofs.hands.HandMoves.{id-is-own}
use Rattle.row_laws.proofs.reads.ReadSlots.{ReadMove, Quiet, Read, read-moved, ReadAt, read-at, CoversReads, claim-covers-reads}
use Rattle.serial_laws.proofs.rising.RisingCommits.{TakesOne}
use Rattle.serial_laws.proofs.rising.RisingPuts.{number-above, id-least}
use Rattle.row_laws.proofs.owners.RowOwnersHands.{Asker, asker, happened-in, happened-own}
use Rattle.histories.proofs.steps.BayRows.{starts-first}

-- a claim of the attempt, which was granted, covers the reads of the parity
abbrev pub ParityRead : Script → RowNo → Number → List Call → List Call → Type 0
ParityRead script row id history calls =
    Happened (λ c. IsClaim (parity_bay script.n row) row c × (id_of c.ask.what ≡ Some id) × CoversReads script.mode c id (reads script (parity_bay script.n row) row history)
    × IsSome (grant_of c.answer.reply)) calls

module _ (script : Script) (is : IsScript script) (row : RowNo) (below : row.0 < script.rows) where
  abbrev P : BayNo
  P = parity_bay script.n row

  abbrev Has : Number → List Call → Type 0
  Has id history = CameFrom id (slot_at script history P row).note

  -- one more read is below the id, since the note's origin is above it
  more-covered : (earlier : List Call) (call : Call) → IsHistory script (call ∷ earlier) → (id : Number) → Has id earlier → (c : Call) → CoversReads script.mode c id (reads script P row earlier) →
      CoversReads script.mode c id (reads script P row (call ∷ earlier))
  more-covered earlier call along id from c cover = by (read-moved script P row call earlier)
    where
      less : call.bay ≡ P → row_of call.ask.what ≡ Some row → (n : Number) → read_of script.mode call.ask.what call.answer.reply ≡ Some n → n.0 < id.0
      less place of n read = came (slot_at script earlier P row).note refl from
        where
          at : ReadAt script earlier P row n
          at = subst (λ (b : BayNo). ReadAt script earlier b row n) place (read-at script is earlier call along row below of n read)

          came : (o : Option Note) → (slot_at script earlier P row).note ≡ o → CameFrom id o → n.0 < id.0
          came None e f = absurd f
          came (Some note) e f = let low = (at.noted note e).1 in let same : note.origin.0 ≡ id.0 = ap (λ (x : Number). x.0) f in omega (arith, low, same)

      by : ReadMove script P row call earlier → CoversReads script.mode c id (reads script P row (call ∷ earlier))
      by (Quiet same) = subst (λ (ns : List Number). CoversReads script.mode c id ns) (sym same) cover
      by (Read place of n read now) =
          subst (λ (ns : List Number). CoversReads script.mode c id ns) (sym now)
          (record { number = cover.number; shown = cover.shown; covers = (inr (less place of n read), cover.covers); late = cover.late })

  -- along a history
  covered-reads : (history : List Call) → IsHistory script history → (id : Number) → Has id history → ParityRead script row id history history
  covered-reads [] along id from = absurd (subst (λ (s : Slot). CameFrom id s.note) (starts-first script P row below) from)
  covered-reads (call ∷ earlier) along id from = by (covered-reads earlier along.0 id) (came-before script is row below earlier call along id from)
    where
      later : Has id earlier → (calls : List Call) → ParityRead script row id earlier calls → ParityRead script row id (call ∷ earlier) calls
      later before [] h = absurd h
      later before (c ∷ calls) (inl h) = inl (h.0, h.1, more-covered earlier call along id before c h.2, h.3)
      later before (c ∷ calls) (inr h) = inr (later before calls h)

      by : (Has id earlier → ParityRead script row id earlier earlier) → Has id earlier ⊎ Opens script is row below earlier call along id → ParityRead script row id (call ∷ earlier) (call ∷ earlier)
      by rest (inl before) = inr (later before earlier (rest before))
      by rest (inr opens) =
          let c = opens.claimed in
          let claim : IsClaim P row call = (c.place, c.id, c.how, c.mask, c.want, c.what) in
          let some : IsSome (grant_of call.answer.reply) = ap (λ (o : Option Grant). is_some o) c.grant in
          inl (
            claim,
            ap (λ (w : Request). id_of w) c.what ∙ ap (λ (x : Number). Some x) opens.own,
            claim-covers-reads script is earlier call along P row (parity_in script.n row is.devices_least) below claim (inl some) id,
            some,
          )

pub parity-reads-covered : (script : Script) → IsScript script → (row : RowNo) → row.0 < script.rows → (history : List Call) → IsHistory script history → (id : Number) →
    CameFrom id (slot_at script history (parity_bay script.n row) row).note → ParityRead script row id history history
parity-reads-covered script is row below history along id from = covered-reads script is row below history along id from

-- Covered reads are below the number of a put of the attempt
module _ (script : Script) (is : IsScript script) (history : List Call) (host : HostNo) (steps : Steps Finish) (h : HasHand script history host steps) where
  abbrev p : Progress
  p = progress_at script host history

  pub reads-under : (call : Call) → next_errand steps ≡ Some (errand_of call) → (row : RowNo) (id n : Number) (cell : Cell) → call.ask.what ≡ Put row id n cell → (c : Call) → IsIn c (calls_at script history host) →
      (ns : List Number) (cover : CoversReads script.mode c h.hand.id ns) → (script.mode ≡ Order → kind_of h.hand.task ≡ Plain → cover.number.0 < h.hand.id.0) → AllBelow n ns
  reads-under call asked row id n cell what c i ns cover late =
      let from = id-least script is history host steps h call asked row id n cell what in
      let above = number-above script is history host steps h call asked row id n cell what c i cover.number cover.shown late in
      all-map (λ (x : Number). (x.0 ≤ cover.number.0) ⊎ (x.0 < h.hand.id.0)) (λ (x : Number). x.0 < n.0) ns (λ x low. by x low from above) cover.covers
    where
      by : (x : Number) → (x.0 ≤ cover.number.0) ⊎ (x.0 < h.hand.id.0) → h.hand.id.0 ≤ n.0 → cover.number.0 < n.0 → x.0 < n.0
      by x (inl le) from above = omega (arith, le, above)
      by x (inr less) from above = omega (arith, less, from)

pub noted-reads-below : (script : Script) → IsScript script → (earlier : List Call) (call : Call) → IsHistory script (call ∷ earlier) → (row : RowNo) → row.0 < script.rows → (unit : ℕ) → unit + 1 < script.n →
    (t : TakesOne script earlier call row unit) → call.bay ≡ bay_of script.n row unit → CameFrom t.id (slot_at script earlier (parity_bay script.n row) row).note →
    AllBelow t.number (reads script (parity_bay script.n row) row earlier)
noted-reads-below script is earlier call along row below unit inside t place from = by (happened-in (calls_at script earlier call.ask.host) mine)
  where
    a : Asker script is earlier call
    a = asker script is earlier call along.0 along.1 row (ap (λ (w : Request). row_of w) t.what)

    own : t.id ≡ a.hand.hand.id
    own = id-is-own script is earlier call.ask.host a.steps a.hand call a.asked t.id (ap (λ (w : Request). id_of w) t.what)

    Mine : Call → Type 0
    Mine c = IsClaim (parity_bay script.n row) row c × (id_of c.ask.what ≡ Some a.hand.hand.id)
        × CoversReads script.mode c a.hand.hand.id (reads script (parity_bay script.n row) row earlier) × IsSome (grant_of c.answer.reply)

    mine : Happened Mine (calls_at script earlier call.ask.host)
    mine =
        happened-own script is earlier along.0 call.ask.host a.steps a.hand (errand_of call) a.asked (λ c q. q.1)
        (parity-reads-covered script is row below earlier along.0 a.hand.hand.id (subst (λ (x : Number). CameFrom x (slot_at script earlier (parity_bay script.n row) row).note) own from))

    by : (c : Call) × IsIn c (calls_at script earlier call.ask.host) × Mine c → AllBelow t.number (reads script (parity_bay script.n row) row earlier)
    by (c, i, (claim, named, cover, some)) =
        reads-under script is earlier call.ask.host a.steps a.hand call a.asked row t.id t.number t.cell t.what c i (reads script (parity_bay script.n row) row earlier) cover (late claim)
      where
        late : IsClaim (parity_bay script.n row) row c → script.mode ≡ Order → kind_of a.hand.hand.task ≡ Plain → cover.number.0 < a.hand.hand.id.0
        late (at, by, how, mask, want, asks) order plain =
            let kind : how ≡ Plain = (made-kind script is earlier call.ask.host a.steps a.hand c i row by how mask want asks).0 ∙ plain in
            let both : Some by ≡ Some a.hand.hand.id = sym (ap (λ (w : Request). id_of w) asks) ∙ named in
            let one : by ≡ a.hand.hand.id = cc in
            let less : cover.number.0 < by.0 = cover.late order row by mask want (asks ∙ ap (λ (x : How). Claim row by x mask want) kind) some in
            let same : by.0 ≡ a.hand.hand.id.0 = ap (λ (x : Number). x.0) one in
            omega (arith, less, same)
