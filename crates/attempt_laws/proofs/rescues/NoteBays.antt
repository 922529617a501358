-- A refused attempt leaves nothing, and a refused recovery what it seized and a parity whose put failed.
use Rattle.std.proofs.Common.{◌≡◌, ◌⊎◌, inl, inr, refl, sym, ap, subst, ◌∙◌, ℕ, ◌<◌, ◌==◌, Bool, true, false, if◌then◌else◌, List, [], ◌∷◌, Option, Some, None}
use Rattle.std.specs.List.{AllByRecursion}
use Rattle.std.proofs.lemmas.Bool.Decides.{nat_tests}
use Rattle.std.proofs.Common.{arith}
use Rattle.raid_base.specs.declared.numbers.BayNo.{BayNo}
use Rattle.raid_base.specs.declared.numbers.HostNo.{HostNo}
use Rattle.raid_base.specs.declared.numbers.RowNo.{RowNo}
use Rattle.raid_base.specs.declared.numbers.Number.{Number}
use Rattle.raid_base.specs.declared.messages.Call.{Call}
use Rattle.raid_base.specs.declared.messages.Note.{Note}
use Rattle.raid_base.specs.declared.messages.Request.{Request}
use Rattle.raid_base.specs.declared.messages.Request.TheVariants.{Share, Claim, Confirm, Put, Release, Lose, Fit}
use Rattle.raid_base.specs.declared.jobs.Job.{Job}
use Rattle.raid_base.specs.declared.jobs.JobEnd.{JobEnd}
use Rattle.raid_base.specs.declared.jobs.JobEnd.TheVariants as job_ends
use Rattle.raid_base.specs.Replies.{grant_of, put_end}
use Rattle.slot_rules.specs.declared.Reader.{Reader}
use Rattle.slot_rules.specs.Slots.{Slot}
use Rattle.slot_rules.specs.Serving.{row_of}
use Rattle.stripe_layout.specs.Placement.{parity_bay}
use Rattle.attempts.specs.Phases.{IsIn, is_slot}
use Rattle.attempts.specs.Phases as phases
use Rattle.attempts.specs.Returns.{Holding, held_after}
use Rattle.script_text.specs.Script.{Script, jobs_of}
use Rattle.script_text.specs.Ranges.{IsScript}
use Rattle.histories.specs.Calls.{Happened, id_of}
use Rattle.histories.specs.Leftovers.{HasId, IsSeizure}
use Rattle.histories.specs.Progress.{Ending, Work, Trying, Losing, Fitting, Over}
use Rattle.histories.specs.History.{IsHistory, IsNext, progress_at, if_taken, endings_at}
use Rattle.histories.specs.RowStates.{slot_at}
use Rattle.histories.proofs.bounds.BoundsTakes.{before_start}
use Rattle.histories.proofs.missing.MissingBays.{own-errand}
use Rattle.histories.proofs.steps.BayRows.{starts-first}
use Rattle.histories.proofs.steps.HostTasks.{host-tasks}
use Rattle.histories.proofs.steps.LeftSlots.{ClaimedBy, SharedBy, Frees}
use Rattle.histories.proofs.steps.SameNumbers.{same-host}
use Rattle.attempt_laws.specs.Leftovers.{MayLeave, HasLeft, IsSeizedAt, IsFailedAt, MayKeep, MayHold, MayRead, RefusedLeaveNothing}
use Rattle.attempt_laws.specs.Rescues.{calls_by}
use Rattle.attempt_laws.proofs.leftovers.LeftLeaves.{on, Holds, claimed-new, Gives, after-holds}
use Rattle.attempt_laws.proofs.leftovers.LeftHosts as left
use Rattle.attempt_laws.proofs.leftovers.LeftBays.{fitted, NoteFrom, note-from, ReaderFrom, reader-from, MayStand, refused-leave}
use Rattle.attempt_laws.proofs.leftovers.UnderWay.{hands-led}
use Rattle.attempt_laws.proofs.rescues.RescueTrees.{held_of, IsOwnAsk}
use Rattle.attempt_laws.proofs.rescues.RescueBays.{same-place, freed, there-noted, unput}
use Rattle.attempt_laws.proofs.rescues.NoteTrees.{SeizedHere, FailedHere, IsTold, held-told, slot-same}
use Rattle.attempt_laws.proofs.rescues.NoteHosts.{has, with_id, IsRec, rec-with, same-id, has-own, rescue, IsOwn, Settled, Works, Safe, start-safe, work-safe}

-- those of attempts that are no recoveries may leave too
left-map : (script : Script) (host : HostNo) (id : Number) (es : List Ending) → left.HasLeft script host id es → HasLeft script host id es
left-map script host id [] h = h
left-map script host id (e ∷ es) (inr h) = inr (left-map script host id es h)
left-map script host id (e ∷ es) (inl h) = inl (h.0, by e.ended h.1)
  where
    by : (ended : JobEnd) → left.MayLeave script host e.job.task e.calls ended → MayLeave script host e.job.task e.calls ended
    by (job_ends.Part n made cause) m = m
    by (job_ends.Gave tries cause) m = m
    by (job_ends.Recovered n closed lost) m = absurd m
    by (job_ends.Read n) m = m
    by (job_ends.Wrote n) m = m
    by job_ends.Lost m = m
    by job_ends.Fitted m = m
    by job_ends.Rebuilt m = m
    by (job_ends.StillMissing bay) m = m
    by (job_ends.NotLost bay) m = m
    by (job_ends.NotFitted bay) m = m
    by job_ends.NoObject m = m
    by (job_ends.PastEnd blocks) m = m
    by (job_ends.TooManyRows rows) m = m

itself : (k : ℕ) → (k == k) ≡ true
itself k = grind (arith, nat_tests)

-- a host's calls with an id are among all calls
among : (P : Call → Type 0) (host : HostNo) (x : Number) (history : List Call) → Happened P (with_id x (calls_by host history)) → Happened (λ (c : Call). (c.ask.host ≡ host) × P c) history
among P host x [] h = h
among P host x (call ∷ earlier) h = by (call.ask.host.0 == host.0) refl h (λ i. among P host x earlier i)
  where
    go : (b : Bool) → call.ask.host ≡ host → Happened P (if b then call ∷ with_id x (calls_by host earlier) else with_id x (calls_by host earlier)) →
        (Happened P (with_id x (calls_by host earlier)) → Happened (λ (c : Call). (c.ask.host ≡ host) × P c) earlier) → Happened (λ (c : Call). (c.ask.host ≡ host) × P c) (call ∷ earlier)
    go true own (inl p) more = inl (own, p)
    go true own (inr i) more = inr (more i)
    go false own i more = inr (more i)

    by : (b : Bool) → (call.ask.host.0 == host.0) ≡ b → Happened P (with_id x (if b then call ∷ calls_by host earlier else calls_by host earlier)) →
        (Happened P (with_id x (calls_by host earlier)) → Happened (λ (c : Call). (c.ask.host ≡ host) × P c) earlier) → Happened (λ (c : Call). (c.ask.host ≡ host) × P c) (call ∷ earlier)
    by true e i more = go (has x (id_of call.ask.what)) (same-host call.ask.host host e) i more
    by false e i more = inr (more i)

rec-of : (host : HostNo) (x : Number) (history : List Call) → Happened (IsSeizure host x) history → IsRec x (calls_by host history)
rec-of host x [] h = h
rec-of host x (call ∷ earlier) h = by (call.ask.host.0 == host.0) refl h (λ i. rec-of host x earlier i)
  where
    by : (b : Bool) → (call.ask.host.0 == host.0) ≡ b → Happened (IsSeizure host x) (call ∷ earlier) → (Happened (IsSeizure host x) earlier → IsRec x (calls_by host earlier)) →
        IsRec x (if b then call ∷ calls_by host earlier else calls_by host earlier)
    by true e (inl s) more = inl (s.1, s.2, s.3, s.4)
    by true e (inr i) more = inr (more i)
    by false e (inl s) more = absurd (let bad : true ≡ false = sym (itself host.0) ∙ ap (λ (y : HostNo). y.0 == host.0) (sym s.0) ∙ e in cc)
    by false e (inr i) more = more i

map-happened : (P Q : Call → Type 0) → ((c : Call) → P c → Q c) → (cs : List Call) → Happened P cs → Happened Q cs
map-happened P Q f [] h = h
map-happened P Q f (c ∷ cs) (inl p) = inl (f c p)
map-happened P Q f (c ∷ cs) (inr i) = inr (map-happened P Q f cs i)

abbrev Shares : Number → Call → Type 0
Shares x call = (row : RowNo) × (want : Bool) × (call.ask.what ≡ Share row x want)

module _ (script : Script) (is : IsScript script) where
  abbrev mine : HostNo → Number → List Call → List Call
  mine host x history = with_id x (calls_by host history)

  safe-at : (history : List Call) → IsHistory script history → (host : HostNo) → Safe script is host (calls_by host history) (progress_at script host history)
  safe-at [] h host =
      start-safe script is host [] (jobs_of script host) (before_start script host) refl (record { jobs = host-tasks script is host; low = λ x i. absurd i; closed_low = λ x c. absurd c }) (λ x rec. absurd rec)
  safe-at (call ∷ earlier) h host = by (call.ask.host.0 == host.0) refl (safe-at earlier h.0 host)
    where
      by : (b : Bool) → (call.ask.host.0 == host.0) ≡ b → Safe script is host (calls_by host earlier) (progress_at script host earlier) →
          Safe script is host (if b then call ∷ calls_by host earlier else calls_by host earlier) (if_taken script host (progress_at script host earlier) call b)
      by true own s =
          work-safe script is host (calls_by host earlier) call (progress_at script host earlier) (progress_at script host earlier).work (own-errand script is earlier call h.1 host own) (fitted script is earlier call h.1) s.sound (hands-led script host earlier is h.0) s.work
      by false own s = s

  -- a note's slot is held by the calls with its id, and a reader's was shared by one
  abbrev Held : List Call → BayNo → RowNo → Note → Type 0
  Held history at row note = Holds (on at row) (held_of script.mode (mine note.host note.id history))

  -- the calls with an id grow by those of its host alone
  grows : (P : List Call → Type 0) (host : HostNo) (x : Number) (call : Call) (earlier : List Call) → P (mine host x earlier) →
      (call.ask.host ≡ host → has x (id_of call.ask.what) ≡ true → P (call ∷ mine host x earlier)) → P (mine host x (call ∷ earlier))
  grows P host x call earlier old new = by (call.ask.host.0 == host.0) refl
    where
      go : (b : Bool) → has x (id_of call.ask.what) ≡ b → call.ask.host ≡ host → P (if b then call ∷ mine host x earlier else mine host x earlier)
      go true e own = new own e
      go false e own = old

      by : (b : Bool) → (call.ask.host.0 == host.0) ≡ b → P (with_id x (if b then call ∷ calls_by host earlier else calls_by host earlier))
      by true e = go (has x (id_of call.ask.what)) refl (same-host call.ask.host host e)
      by false e = old

  -- where it is the host's with this id
  grown : (P : List Call → Type 0) (host : HostNo) (x : Number) (call : Call) (earlier : List Call) → call.ask.host ≡ host → id_of call.ask.what ≡ Some x → P (call ∷ mine host x earlier) → P (mine host x (call ∷ earlier))
  grown P host x call earlier own asked p =
      subst (λ (b : Bool). P (with_id x (if b then call ∷ calls_by host earlier else calls_by host earlier))) (sym (ap (λ (y : HostNo). y.0 == host.0) own ∙ itself host.0))
      (subst (λ (b : Bool). P (if b then call ∷ mine host x earlier else mine host x earlier)) (sym (ap (λ (o : Option Number). has x o) asked ∙ has-own x)) p)

  module _ (earlier : List Call) (call : Call) (h : IsHistory script earlier) (next : IsNext script earlier call) (at : BayNo) (row : RowNo) (low : row.0 < script.rows) where
    -- what gives a slot back leaves no note of its id there
    unnoted : (note : Note) → (slot_at script (call ∷ earlier) at row).note ≡ Some note → has note.id (id_of call.ask.what) ≡ true → (what : Request) → call.ask.what ≡ what → Gives call.bay what call.answer.reply (on at row) → ⊥
    unnoted note f e (Share there by want) same give = give
    unnoted note f e (Claim there by how mask want) same give = give
    unnoted note f e (Confirm there by want) same give = give
    unnoted note f e Lose same give = give
    unnoted note f e Fit same give = give
    unnoted note f e (Release there by n) same give =
        let place : (at ≡ call.bay) × (row ≡ there) = same-place at call.bay row there give in
        let below : there.0 < script.rows = subst (λ (w : RowNo). w.0 < script.rows) place.1 low in
        let own : by ≡ note.id = same-id by note.id (ap (λ (w : Request). has note.id (id_of w)) (sym same) ∙ e) in
        last own (there-noted script is note.host note.id row low earlier call h next [] at (λ a. absurd a) there note place f)
        (subst (λ (w : Request). Frees call.answer.reply (slot_at script (call ∷ earlier) call.bay there) w ⊎ ((slot_at script (call ∷ earlier) call.bay there).note ≡ None)) same
        (freed script is note.host note.id row low earlier call h next [] at (λ a. absurd a) there below (ap (λ (w : Request). row_of w) same)))
      where
        last : by ≡ note.id → (slot_at script (call ∷ earlier) call.bay there).note ≡ Some note → Frees call.answer.reply (slot_at script (call ∷ earlier) call.bay there) (Release there by n) ⊎ ((slot_at script (call ∷ earlier) call.bay there).note ≡ None) → ⊥
        last own g (inl x) = x.0 (note, g, sym own)
        last own g (inr none) = let bad : None ≡ Some note = sym none ∙ g in cc
    unnoted note f e (Put there by n cell) same give =
        let place : (at ≡ call.bay) × (row ≡ there) = same-place at call.bay row there give.0 in
        let below : there.0 < script.rows = subst (λ (w : RowNo). w.0 < script.rows) place.1 low in
        let own : by ≡ note.id = same-id by note.id (ap (λ (w : Request). has note.id (id_of w)) (sym same) ∙ e) in
        last own (there-noted script is note.host note.id row low earlier call h next [] at (λ a. absurd a) there note place f)
        (subst (λ (w : Request). Frees call.answer.reply (slot_at script (call ∷ earlier) call.bay there) w ⊎ ((slot_at script (call ∷ earlier) call.bay there).note ≡ None)) same
        (freed script is note.host note.id row low earlier call h next [] at (λ a. absurd a) there below (ap (λ (w : Request). row_of w) same)))
      where
        last : by ≡ note.id → (slot_at script (call ∷ earlier) call.bay there).note ≡ Some note → Frees call.answer.reply (slot_at script (call ∷ earlier) call.bay there) (Put there by n cell) ⊎ ((slot_at script (call ∷ earlier) call.bay there).note ≡ None) → ⊥
        last own g (inl x) = unput script is note.host note.id row low earlier call h next [] at (λ a. absurd a) (put_end call.answer.reply) there by give.1 x note g (sym own)
        last own g (inr none) = let bad : None ≡ Some note = sym none ∙ g in cc

    held-next : ((note : Note) → (slot_at script earlier at row).note ≡ Some note → Held earlier at row note) → (note : Note) → (slot_at script (call ∷ earlier) at row).note ≡ Some note → Held (call ∷ earlier) at row note
    held-next before note f = by (note-from script is earlier call next at row low note f)
      where
        claimed : (what : Request) → call.ask.what ≡ what → call.bay ≡ at → row_of what ≡ Some row → ClaimedBy call.ask call.answer.reply note what → Held (call ∷ earlier) at row note
        claimed (Claim there by how mask want) same place of_row c =
            let there_is : there ≡ row = cc in
            let asked : call.ask.what ≡ Claim row by how mask want = same ∙ ap (λ (w : RowNo). Claim w by how mask want) there_is in
            grown (λ (cs : List Call). Holds (on at row) (held_of script.mode cs)) note.host note.id call earlier (sym c.0) (ap (λ (w : Request). id_of w) asked ∙ ap (λ (x : Number). Some x) (sym c.1))
            (subst (λ (w : Request). Holds (on at row) (held_after script.mode (held_of script.mode (mine note.host note.id earlier)) call.bay w call.answer.reply)) (sym asked)
            (subst (λ (b : BayNo). Holds (on b row) (held_after script.mode (held_of script.mode (mine note.host note.id earlier)) call.bay (Claim row by how mask want) call.answer.reply)) place
            (claimed-new (on call.bay row) (grant_of call.answer.reply) (held_of script.mode (mine note.host note.id earlier)) c.2)))
        claimed (Share there by want) same place of_row c = absurd c
        claimed (Confirm there by want) same place of_row c = absurd c
        claimed (Put there by n cell) same place of_row c = absurd c
        claimed (Release there by n) same place of_row c = absurd c
        claimed Lose same place of_row c = absurd c
        claimed Fit same place of_row c = absurd c

        by : NoteFrom script is earlier call next at row note → Held (call ∷ earlier) at row note
        by (inr c) = claimed call.ask.what refl c.0 c.1 c.2
        by (inl old) =
            grows (λ (cs : List Call). Holds (on at row) (held_of script.mode cs)) note.host note.id call earlier (before note old)
            (λ own e. after-holds script.mode (on at row) (held_of script.mode (mine note.host note.id earlier)) call.bay call.ask.what call.answer.reply (unnoted note f e call.ask.what refl) (before note old))

    shared-next : ((x : Reader) → IsIn x (slot_at script earlier at row).readers → Happened (Shares x.id) (mine x.host x.id earlier)) → (x : Reader) → IsIn x (slot_at script (call ∷ earlier) at row).readers →
        Happened (Shares x.id) (mine x.host x.id (call ∷ earlier))
    shared-next before x i = by (reader-from script is earlier call next at row low x i)
      where
        shared : (what : Request) → call.ask.what ≡ what → SharedBy script.mode call.ask call.answer.reply x what → Happened (Shares x.id) (mine x.host x.id (call ∷ earlier))
        shared (Share there by want) same c =
            let asked : call.ask.what ≡ Share there x.id want = same ∙ ap (λ (y : Number). Share there y want) (sym c.2) in
            grown (λ (cs : List Call). Happened (Shares x.id) cs) x.host x.id call earlier (sym c.1) (ap (λ (w : Request). id_of w) asked) (inl (there, want, asked))
        shared (Claim there by how mask want) same c = absurd c
        shared (Confirm there by want) same c = absurd c
        shared (Put there by n cell) same c = absurd c
        shared (Release there by n) same c = absurd c
        shared Lose same c = absurd c
        shared Fit same c = absurd c

        by : ReaderFrom script is earlier call next at row x → Happened (Shares x.id) (mine x.host x.id (call ∷ earlier))
        by (inl old) = grows (λ (cs : List Call). Happened (Shares x.id) cs) x.host x.id call earlier (before x old) (λ own e. inr (before x old))
        by (inr c) = shared call.ask.what refl c.2

  held-at : (history : List Call) → IsHistory script history → (at : BayNo) (row : RowNo) → row.0 < script.rows → (note : Note) → (slot_at script history at row).note ≡ Some note → Held history at row note
  held-at [] h at row low note f = absurd (let bad : None ≡ Some note = ap (λ (s : Slot). s.note) (sym (starts-first script at row low)) ∙ f in cc)
  held-at (call ∷ earlier) h at row low note f = held-next earlier call h.0 h.1 at row low (held-at earlier h.0 at row low) note f

  shared-at : (history : List Call) → IsHistory script history → (at : BayNo) (row : RowNo) → row.0 < script.rows → (x : Reader) → IsIn x (slot_at script history at row).readers → Happened (Shares x.id) (mine x.host x.id history)
  shared-at [] h at row low x i = absurd (subst (λ (s : Slot). IsIn x s.readers) (starts-first script at row low) i)
  shared-at (call ∷ earlier) h at row low x i = shared-next earlier call h.0 h.1 at row low (shared-at earlier h.0 at row low) x i

  -- a recovery is in hand, or may leave, or is settled
  module _ (history : List Call) (h : IsHistory script history) (host : HostNo) (x : Number) (rec : IsRec x (calls_by host history)) where
    abbrev Is : Type 0
    Is = HasId x (progress_at script host history).calls ⊎ (HasLeft script host x (endings_at script history host) ⊎ Settled script is host x (mine host x history) (endings_at script history host))

    all-id : (id : Number) (cs : List Call) → AllByRecursion (λ (c : Call). id_of c.ask.what ≡ Some id) cs → IsRec id cs → HasId id cs
    all-id id [] all r = absurd r
    all-id id (c ∷ cs) all r = inl all.0

    where_it_is : Is
    where_it_is = by (progress_at script host history).jobs (progress_at script host history).endings (progress_at script host history).calls (progress_at script host history).seen (progress_at script host history).work (safe-at history h host).work
      where
        by : (jobs : List Job) (endings : List Ending) (cs : List Call) (seen : Number) (work : Work) → Works script is host (calls_by host history) jobs endings cs seen work →
            HasId x cs ⊎ (HasLeft script host x endings ⊎ Settled script is host x (mine host x history) endings)
        by [] endings cs seen (Trying steps) w = absurd w
        by (job ∷ jobs) endings cs seen (Trying steps) w = go (x.0 == w.id.0) refl
          where
            go : (b : Bool) → (x.0 == w.id.0) ≡ b → HasId x cs ⊎ (HasLeft script host x endings ⊎ Settled script is host x (mine host x history) endings)
            go true e =
                let same : x ≡ w.id = same-id x w.id e in
                inl (subst (λ (y : Number). HasId y cs) (sym same) (all-id w.id cs w.ids (subst (λ (l : List Call). IsRec w.id l) w.same (rec-with w.id (calls_by host history) (subst (λ (y : Number). IsRec y (calls_by host history)) same rec)))))
            go false e = inr (w.others x (λ same. let bad : true ≡ false = sym (itself w.id.0) ∙ ap (λ (y : Number). y.0 == w.id.0) (sym same) ∙ e in cc) rec)
        by jobs endings cs seen (Losing bay) w = inr (w x rec)
        by jobs endings cs seen (Fitting bay) w = inr (w x rec)
        by jobs endings cs seen Over w = inr (w x rec)

  -- what it keeps
  module _ (history : List Call) (host : HostNo) (x : Number) (at : BayNo) (row : RowNo) (seizure : Happened (IsSeizure host x) history) (there : RowNo) where
    keeps-one : (slot : phases.Slot) → slot ≡ on at row → (hd : Holding) → hd.slot ≡ slot → IsTold (rescue script is host x there) (mine host x history) hd → (hd.seized ≡ true) ⊎ (hd.failed ≡ true) → MayKeep script history host at row x
    keeps-one slot place hd own told (inl s) =
        inl (map-happened (λ (c : Call). (c.ask.host ≡ host) × SeizedHere (rescue script is host x there) (on at row) c) (IsSeizedAt host at row x) (λ c p. (p.0, p.1.0, p.1.1, p.1.2, p.1.3, p.1.4, p.1.5, p.1.6)) history
        (among (SeizedHere (rescue script is host x there) (on at row)) host x history (subst (λ (y : phases.Slot). Happened (SeizedHere (rescue script is host x there) y) (mine host x history)) (own ∙ place) (told.seized s))))
    keeps-one slot place hd own told (inr f) =
        let t = subst (λ (y : phases.Slot). (y.bay ≡ parity_bay script.n y.row) × Happened (FailedHere (rescue script is host x there) y) (mine host x history)) (own ∙ place) (told.failed f) in
        inr (
          t.0,
          seizure,
          map-happened (λ (c : Call). (c.ask.host ≡ host) × FailedHere (rescue script is host x there) (on at row) c) (IsFailedAt host at row x) (λ c p. (p.0, p.1.0, p.1.1, p.1.2, p.1.3, p.1.4)) history
              (among (FailedHere (rescue script is host x there) (on at row)) host x history t.1),
        )

    keeps : (hs : List Holding) → Holds (on at row) hs → AllByRecursion (IsTold (rescue script is host x there) (mine host x history)) hs → AllByRecursion (λ (hd : Holding). (hd.seized ≡ true) ⊎ (hd.failed ≡ true)) hs → MayKeep script history host at row x
    keeps [] h told kept = absurd h
    keeps (hd ∷ hs) (inl e) told kept = keeps-one hd.slot (slot-same (rescue script is host x there) hd.slot (on at row) e) hd refl told.0 kept.0
    keeps (hd ∷ hs) (inr i) told kept = keeps hs i told.1 kept.1

  note-may : (history : List Call) → IsHistory script history → (at : BayNo) (row : RowNo) → row.0 < script.rows → (note : Note) → (slot_at script history at row).note ≡ Some note → MayStand script history note.host note.id →
      MayHold script history note.host at row note.id
  note-may history h at row low note f (inl m) = inl m
  note-may history h at row low note f (inr (inl m)) = inr (inl (left-map script note.host note.id (endings_at script history note.host) m))
  note-may history h at row low note f (inr (inr s)) = by (where_it_is history h note.host note.id (rec-of note.host note.id history s))
    where
      by : HasId note.id (progress_at script note.host history).calls ⊎ (HasLeft script note.host note.id (endings_at script history note.host) ⊎ Settled script is note.host note.id (mine note.host note.id history) (endings_at script history note.host)) →
          MayHold script history note.host at row note.id
      by (inl m) = inl m
      by (inr (inl m)) = inr (inl m)
      by (inr (inr t)) =
          let held = held-at history h at row low note f in
          inr (inr (
            keeps history note.host note.id at row s t.row (held_of script.mode (mine note.host note.id history)) held (held-told (rescue script is note.host note.id t.row) script.mode (mine note.host note.id history) t.own) t.kept,
            λ c. subst (λ (hs : List Holding). Holds (on at row) hs) (t.closed c) held,
          ))

  no-shares : (host : HostNo) (x : Number) (row : RowNo) (cs : List Call) → AllByRecursion (IsOwn script is host x row) cs → Happened (Shares x) cs → ⊥
  no-shares host x row [] own h = h
  no-shares host x row (c ∷ cs) own (inl s) = subst (λ (w : Request). IsOwnAsk (rescue script is host x row) c.bay w) s.2 (own.0).0
  no-shares host x row (c ∷ cs) own (inr h) = no-shares host x row cs own.1 h

  reader-may : (history : List Call) → IsHistory script history → (at : BayNo) (row : RowNo) → row.0 < script.rows → (x : Reader) → IsIn x (slot_at script history at row).readers → MayStand script history x.host x.id → MayRead script history x.host x.id
  reader-may history h at row low x i (inl m) = inl m
  reader-may history h at row low x i (inr (inl m)) = inr (left-map script x.host x.id (endings_at script history x.host) m)
  reader-may history h at row low x i (inr (inr s)) = by (where_it_is history h x.host x.id (rec-of x.host x.id history s))
    where
      by : HasId x.id (progress_at script x.host history).calls ⊎ (HasLeft script x.host x.id (endings_at script history x.host) ⊎ Settled script is x.host x.id (mine x.host x.id history) (endings_at script history x.host)) → MayRead script history x.host x.id
      by (inl m) = inl m
      by (inr (inl m)) = inr m
      by (inr (inr t)) = absurd (no-shares x.host x.id t.row (mine x.host x.id history) t.own (shared-at history h at row low x i))

pub refused_attempts_leave_nothing : RefusedLeaveNothing
refused_attempts_leave_nothing script history is h at row within low = (
  λ note f. note-may script is history h at row low note f ((refused-leave script history is h at row within low).0 note f),
  λ x i. reader-may script is history h at row low x i ((refused-leave script history is h at row within low).1 x i),
)
