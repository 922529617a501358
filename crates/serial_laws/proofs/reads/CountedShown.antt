-- What a recovery or a rebuild was shown of a unit covers the unit's writes while it holds the parity: a unit of which a claim of
-- a recovery was answered is put by nobody, nor is one that was granted to a rebuild of a parity without a cell.
use Rattle.std.proofs.Common.{◌≡◌, ◌⊎◌, inl, inr, refl, sym, ap, subst, ◌∙◌, ℕ, ◌+◌, ◌<◌, ◌==◌, false, List, [], ◌∷◌, Option, Some, None, IsSome, is_some, arith}
use Rattle.std.specs.List.{AllByRecursion}
use Rattle.raid_base.specs.declared.numbers.BayNo.{BayNo}
use Rattle.raid_base.specs.declared.numbers.HostNo.{HostNo}
use Rattle.raid_base.specs.declared.numbers.RowNo.{RowNo}
use Rattle.raid_base.specs.declared.numbers.Number.{Number}
use Rattle.raid_base.specs.declared.cells.Cell.{Cell}
use Rattle.raid_base.specs.declared.messages.Errand.{Errand}
use Rattle.raid_base.specs.declared.messages.Note.{Note}
use Rattle.raid_base.specs.declared.messages.Request.{Request}
use Rattle.raid_base.specs.declared.messages.Request.TheVariants.{Share, Claim, Confirm, Put, Release, Lose, Fit}
use Rattle.raid_base.specs.declared.messages.Call.{Call}
use Rattle.raid_base.specs.declared.jobs.Task.{Task}
use Rattle.raid_base.specs.declared.jobs.Task.TheVariants as tasks
use Rattle.raid_base.specs.Replies.{grant_of}
use Rattle.raid_base.specs.Steps.{Steps, next_errand, errand_of}
use Rattle.stripe_layout.specs.Placement.{parity_bay, bay_of}
use Rattle.stripe_layout.proofs.LayoutLemmas.{parity_in}
use Rattle.slot_rules.specs.Slots.{Slot}
use Rattle.attempts.specs.Taking.{Finish}
use Rattle.attempts.specs.Phases as phases
use Rattle.attempts.specs.Phases.{IsIn}
use Rattle.attempts.proofs.OnceClaims.{claims_are_of_their_kind}
use Rattle.attempts.proofs.RoomLemmas.{bay-below}
use Rattle.script_text.specs.Script.{Script}
use Rattle.script_text.specs.Ranges.{IsScript, IsTask}
use Rattle.histories.specs.Calls.{id_of, IsClaim, IsDone}
use Rattle.histories.specs.Progress.{task_of}
use Rattle.histories.specs.History.{IsHistory, progress_at}
use Rattle.histories.specs.RowStates.{slot_at, cell_at}
use Rattle.histories.specs.Accesses.{writes}
use Rattle.row_laws.specs.Hands.{HasHand, calls_at, IsRecoveryOf, IsAnswered}
use Rattle.row_laws.specs.Holding.{HasNote, IsRelease, GivesNothing, IsOfOpenRecovery}
use Rattle.row_laws.proofs.holders.AnsweredFreeNotes.{Takes, note-came}
use Rattle.row_laws.proofs.hands.HandMoves.{Stays, Goes, Came, Stayed, Begun, Went, came}
use Rattle.row_laws.proofs.owners.HoldingLaws.{answered_are_free, holders_keep_notes}
use Rattle.histories.proofs.missing.MissingBays.{one_bay_is_missing}
use Rattle.row_laws.proofs.owners.RowOwnersTrees.{IsTaking}
use Rattle.row_laws.proofs.owners.RowOwnersHands.{other-id, grants-live}
use Rattle.row_laws.proofs.owners.RowOwnersCalls.{putter-kind, some-of, taking-puts, taking-frees}
use Rattle.row_laws.proofs.owners.RowOwnersTasks.{seizes}
use Rattle.row_laws.proofs.covered.CoveredPutsHands.{in-happened, recovers-alone}
use Rattle.serial_laws.proofs.contents.ContentCalls.{unit-aside, Putting, putting}
use Rattle.serial_laws.proofs.contents.ContentMends.{blank-before}
use Rattle.row_laws.proofs.numbers.RisingClaims.{WriteMove, Quiet, Wrote, write-moved, Covering, claim-covers}
use Rattle.serial_laws.proofs.rising.RisingShown.{none-claimed}
use Rattle.histories.proofs.steps.BayRows.{starts-first}

-- a request that takes gives nothing back
taking-keeps : (what : Request) → IsTaking what → IsRelease what → ⊥
taking-keeps (Claim row id how mask want) takes gives = gives
taking-keeps (Confirm row id want) takes gives = gives
taking-keeps (Share row id want) takes gives = takes
taking-keeps (Put row id n cell) takes gives = takes
taking-keeps (Release row id n) takes gives = takes
taking-keeps Lose takes gives = takes
taking-keeps Fit takes gives = takes

module _ (script : Script) (is : IsScript script) (row : RowNo) (below : row.0 < script.rows) (unit : ℕ) (inside : unit + 1 < script.n) where
  abbrev P : BayNo
  P = parity_bay script.n row

  abbrev U : BayNo
  U = bay_of script.n row unit

  abbrev Unput : Call → Type 0
  Unput call = (id n : Number) (cell : Cell) → call.bay ≡ U → call.ask.what ≡ Put row id n cell → IsDone call → ⊥

  -- what covers the writes does so still where the unit is not put
  covers-on : (c : Call) (earlier : List Call) (call : Call) → Unput call → Covering script.mode c (writes (U) row earlier) → Covering script.mode c (writes (U) row (call ∷ earlier))
  covers-on c earlier call unput cover = by (write-moved (U) row call earlier)
    where
      by : WriteMove (U) row call earlier → Covering script.mode c (writes (U) row (call ∷ earlier))
      by (Quiet same) = subst (λ (ns : List Number). Covering script.mode c ns) (sym same) cover
      by (Wrote place id n cell what done now) = absurd (unput id n cell place what done)

  -- a claim covers them itself
  covers-now : (earlier : List Call) (call : Call) → IsHistory script (call ∷ earlier) → (c : Call) → call ≡ c → IsAnswered (U) row c → Covering script.mode c (writes (U) row (call ∷ earlier))
  covers-now earlier call along c same answered =
      let now : IsAnswered (U) row call = subst (λ (x : Call). IsAnswered (U) row x) (sym same) answered in
      subst (λ (x : Call). Covering script.mode x (writes (U) row (call ∷ earlier))) same (claim-covers script is earlier call along (U) row (bay-below script.n row unit (let least = is.devices_least in omega (arith, least))) below now.0 now.1)

  -- A recovery
  pub answered-covered : (history : List Call) → IsHistory script history → (host : HostNo) (steps : Steps Finish) (h : HasHand script history host steps) → IsRecoveryOf row h.hand.task →
      HasNote h.hand.id (slot_at script history (P) row).note → (c : Call) → IsIn c (calls_at script history host) → IsAnswered (U) row c → Covering script.mode c (writes (U) row history)
  answered-covered [] along host steps h recovers noted c i answered = absurd (subst (λ (s : Slot). HasNote h.hand.id s.note) (starts-first script (P) row below) noted)
  answered-covered (call ∷ earlier) along host steps h recovers noted c i answered =
      by (λ s b r n j. answered-covered earlier along.0 host s b r n c j answered) (came script is earlier call along.0 along.1 host steps h)
    where
      Before : Type 0
      Before = (s : Steps Finish) (b : HasHand script earlier host s) → IsRecoveryOf row b.hand.task → HasNote b.hand.id (slot_at script earlier (P) row).note → IsIn c (calls_at script earlier host) →
          Covering script.mode c (writes (U) row earlier)

      stayed : Before → Stays script is earlier call along.0 along.1 host steps h.hand.id h.hand.task (calls_at script (call ∷ earlier) host) → Covering script.mode c (writes (U) row (call ∷ earlier))
      stayed rest s = covers-on c earlier call unput (rest steps s.before recovering stood among)
        where
          recovering : IsRecoveryOf row s.before.hand.task
          recovering = subst (λ (t : Task). IsRecoveryOf row t) (sym s.same_task) recovers

          among : IsIn c (calls_at script earlier host)
          among = subst (λ (cs : List Call). IsIn c cs) s.calls i

          old : ((call.bay ≡ P) × Takes row h.hand.id call.ask.what) ⊎ HasNote h.hand.id (slot_at script earlier (P) row).note → HasNote h.hand.id (slot_at script earlier (P) row).note
          old (inl (place, takes)) = absurd (other-id script is earlier call along host h.hand.id s.other h.hand.own (ap (λ (w : Request). id_of w) takes.3))
          old (inr held) = held

          stood : HasNote s.before.hand.id (slot_at script earlier (P) row).note
          stood = subst (λ (x : Number). HasNote x (slot_at script earlier (P) row).note) (sym s.same_id) (old (note-came script is (P) row below earlier call along.1 h.hand.id noted))

          unput : Unput call
          unput id n cell place what done =
              let p : Putting script is earlier call along row below unit inside id = putting script is earlier call along row below unit inside id n cell place what done in
              answered_are_free script earlier is along.0 host call.ask.host steps p.steps s.before p.before row unit below inside recovering stood
              (in-happened (IsAnswered (U) row) c (calls_at script earlier host) among answered) p.putter p.confirmed
              (subst (λ (x : Number). HasNote x (slot_at script earlier (U) row).note) p.same p.noted)

      went : Before → Goes script is earlier call along.0 along.1 host h.hand.id h.hand.task (calls_at script (call ∷ earlier) host) → Covering script.mode c (writes (U) row (call ∷ earlier))
      went rest g = at (subst (λ (cs : List Call). IsIn c cs) g.calls i)
        where
          recovering : IsRecoveryOf row g.before.hand.task
          recovering = subst (λ (t : Task). IsRecoveryOf row t) (sym g.same_task) recovers

          held : IsIn c (calls_at script earlier host) → ((call.bay ≡ P) × Takes row h.hand.id call.ask.what) ⊎ HasNote h.hand.id (slot_at script earlier (P) row).note → HasNote h.hand.id (slot_at script earlier (P) row).note
          held j (inr note) = note
          held j (inl (place, takes)) =
              absurd
              (none-claimed script is row below unit inside earlier call along host g.steps g.before g.asked (place, h.hand.id, takes.0, takes.1, takes.2, takes.3)
              (in-happened (IsClaim (U) row) c (calls_at script earlier host) j answered.0))

          unput : Unput call
          unput id n cell place what done =
              let p : Putting script is earlier call along row below unit inside id = putting script is earlier call along row below unit inside id n cell place what done in
              let first : task_of (progress_at script host earlier).jobs ≡ Some p.before.hand.task =
              ap (λ (x : HostNo). task_of (progress_at script x earlier).jobs) (sym g.own) ∙ p.before.hand.first in
              let both : Some g.before.hand.task ≡ Some p.before.hand.task = sym g.before.hand.first ∙ first in
              let same : g.before.hand.task ≡ p.before.hand.task = cc in
              recovers-alone row p.before.hand.task (subst (λ (t : Task). IsRecoveryOf row t) same recovering) p.putter

          at : (call ≡ c) ⊎ IsIn c (calls_at script earlier host) → Covering script.mode c (writes (U) row (call ∷ earlier))
          at (inl same) = covers-now earlier call along c same answered
          at (inr j) =
              covers-on c earlier call unput
              (rest g.steps g.before recovering
              (subst (λ (x : Number). HasNote x (slot_at script earlier (P) row).note) (sym g.same_id) (held j (note-came script is (P) row below earlier call along.1 h.hand.id noted))) j)

      by : Before → Came script is earlier call along.0 along.1 host steps h.hand.id h.hand.task (calls_at script (call ∷ earlier) host) → Covering script.mode c (writes (U) row (call ∷ earlier))
      by rest (Stayed s) = stayed rest s
      by rest (Begun own bare) = absurd (subst (λ (cs : List Call). IsIn c cs) bare i)
      by rest (Went g) = went rest g

  -- A rebuild that has claimed and confirmed alone, and holds a parity without a cell
  pub record MendsBare (history : List Call) (host : HostNo) (steps : Steps Finish) (h : HasHand script history host steps) : Type 0 where
    pub bay : BayNo
    pub task : h.hand.task ≡ tasks.Rebuild bay
    pub noted : HasNote h.hand.id (slot_at script history (parity_bay script.n row) row).note
    pub bare : cell_at script history row (parity_bay script.n row) ≡ None
    pub only : AllByRecursion (λ (c : Call). IsTaking c.ask.what) (calls_at script history host)
    pub next : (errand : Errand) → next_errand steps ≡ Some errand → IsRelease errand.request → ⊥

  -- another host does not put the unit
  module _ (earlier : List Call) (call : Call) (along : IsHistory script (call ∷ earlier)) (host : HostNo) (other : (call.ask.host.0 == host.0) ≡ false) (steps : Steps Finish) (h : HasHand script earlier host steps)
      (m : MendsBare earlier host steps h) (c : Call) (i : IsIn c (calls_at script earlier host)) (claim : IsClaim (U) row c) (some : IsSome (grant_of c.answer.reply)) where
    there : IsSome (cell_at script earlier row (U))
    there = by (cell_at script earlier row (U)) refl
      where
        by : (o : Option Cell) → cell_at script earlier row (U) ≡ o → IsSome o
        by (Some cell) e = refl
        by None e =
            absurd
            (unit-aside script is row unit inside
            (one_bay_is_missing script earlier is along.0 (U) (P) (bay-below script.n row unit (let least = is.devices_least in omega (arith, least))) (parity_in script.n row is.devices_least) (row, below, ap (λ (o : Option Cell). is_some o) e)
            (row, below, ap (λ (o : Option Cell). is_some o) m.bare)))

    others-unput : Unput call
    others-unput id n cell place what done =
        let p : Putting script is earlier call along row below unit inside id = putting script is earlier call along row below unit inside id n cell place what done in
        let g = some-of (grant_of c.answer.reply) some in
        let aim : IsTask script host (tasks.Rebuild m.bay) = subst (IsTask script host) m.task h.hand.is in
        let gives : GivesNothing steps (calls_at script earlier host) = record { so_far = taking-frees (calls_at script earlier host) m.only; next = m.next } in
        let found =
        holders_keep_notes script earlier is along.0 host steps h gives row unit below inside m.noted c g.0 i claim g.1
        (λ put. subst (λ (slots : List phases.Slot). IsIn (record { bay = U; row = row }) slots) (taking-puts (calls_at script earlier host) m.only) put) there
        (grants-live script is earlier along.0 host steps h aim.0 (U) row below c i claim g.0 g.1) in
        by p found.0 (subst (λ (o : Option Note). HasNote id o) found.1 p.noted) found.3
      where
        by : Putting script is earlier call along row below unit inside id → (note : Note) → note.id ≡ id → (note.id ≡ h.hand.id) ⊎ IsOfOpenRecovery script earlier row note → ⊥
        by p note named (inl mine) = other-id script is earlier call along host h.hand.id other h.hand.own (ap (λ (w : Request). id_of w) what ∙ ap (λ (x : Number). Some x) (sym named ∙ mine))
        by p note named (inr open_recovery) =
            putter-kind p.before.hand.task p.putter
            (seizes claims_are_of_their_kind script is earlier along.0 call.ask.host p.steps p.before (errand_of call) p.asked note.host note.id (named ∙ p.same) open_recovery.seized)

  pub granted-covered : (history : List Call) → IsHistory script history → (host : HostNo) (steps : Steps Finish) (h : HasHand script history host steps) → MendsBare history host steps h →
      (c : Call) → IsIn c (calls_at script history host) → IsClaim (U) row c → IsSome (grant_of c.answer.reply) → Covering script.mode c (writes (U) row history)
  granted-covered [] along host steps h m c i claim some = absurd (subst (λ (s : Slot). HasNote h.hand.id s.note) (starts-first script (P) row below) m.noted)
  granted-covered (call ∷ earlier) along host steps h m c i claim some =
      by (λ s b bm j. granted-covered earlier along.0 host s b bm c j claim some) (came script is earlier call along.0 along.1 host steps h)
    where
      Before : Type 0
      Before = (s : Steps Finish) (b : HasHand script earlier host s) → MendsBare earlier host s b → IsIn c (calls_at script earlier host) → Covering script.mode c (writes (U) row earlier)

      blank : cell_at script earlier row (P) ≡ None
      blank = blank-before script is row below earlier call along h.hand.id m.noted m.bare

      stayed : Before → Stays script is earlier call along.0 along.1 host steps h.hand.id h.hand.task (calls_at script (call ∷ earlier) host) → Covering script.mode c (writes (U) row (call ∷ earlier))
      stayed rest s = covers-on c earlier call (others-unput earlier call along host s.other steps s.before was c among claim some) (rest steps s.before was among)
        where
          among : IsIn c (calls_at script earlier host)
          among = subst (λ (cs : List Call). IsIn c cs) s.calls i

          old : ((call.bay ≡ P) × Takes row h.hand.id call.ask.what) ⊎ HasNote h.hand.id (slot_at script earlier (P) row).note → HasNote h.hand.id (slot_at script earlier (P) row).note
          old (inl (place, takes)) = absurd (other-id script is earlier call along host h.hand.id s.other h.hand.own (ap (λ (w : Request). id_of w) takes.3))
          old (inr held) = held

          was : MendsBare earlier host steps s.before
          was = record {
            bay = m.bay;
            task = s.same_task ∙ m.task;
            noted = subst (λ (x : Number). HasNote x (slot_at script earlier (P) row).note) (sym s.same_id) (old (note-came script is (P) row below earlier call along.1 h.hand.id m.noted));
            bare = blank;
            only = subst (λ (cs : List Call). AllByRecursion (λ (x : Call). IsTaking x.ask.what) cs) s.calls m.only;
            next = m.next;
          }

      went : Before → Goes script is earlier call along.0 along.1 host h.hand.id h.hand.task (calls_at script (call ∷ earlier) host) → Covering script.mode c (writes (U) row (call ∷ earlier))
      went rest g = at (subst (λ (cs : List Call). IsIn c cs) g.calls i)
        where
          all : AllByRecursion (λ (x : Call). IsTaking x.ask.what) (call ∷ calls_at script earlier host)
          all = subst (λ (cs : List Call). AllByRecursion (λ (x : Call). IsTaking x.ask.what) cs) g.calls m.only

          held : IsIn c (calls_at script earlier host) → ((call.bay ≡ P) × Takes row h.hand.id call.ask.what) ⊎ HasNote h.hand.id (slot_at script earlier (P) row).note → HasNote h.hand.id (slot_at script earlier (P) row).note
          held j (inr note) = note
          held j (inl (place, takes)) =
              absurd
              (none-claimed script is row below unit inside earlier call along host g.steps g.before g.asked (place, h.hand.id, takes.0, takes.1, takes.2, takes.3)
              (in-happened (IsClaim (U) row) c (calls_at script earlier host) j claim))

          keeps : (errand : Errand) → next_errand g.steps ≡ Some errand → IsRelease errand.request → ⊥
          keeps errand asks gives =
              let both : Some errand ≡ Some (errand_of call) = sym asks ∙ g.asked in
              let same : errand ≡ errand_of call = cc in
              taking-keeps call.ask.what all.0 (subst (λ (e : Errand). IsRelease e.request) same gives)

          was : IsIn c (calls_at script earlier host) → MendsBare earlier host g.steps g.before
          was j = record {
            bay = m.bay;
            task = g.same_task ∙ m.task;
            noted = subst (λ (x : Number). HasNote x (slot_at script earlier (P) row).note) (sym g.same_id) (held j (note-came script is (P) row below earlier call along.1 h.hand.id m.noted));
            bare = blank;
            only = all.1;
            next = keeps;
          }

          unput : Unput call
          unput id n cell place what done = subst IsTaking what all.0

          at : (call ≡ c) ⊎ IsIn c (calls_at script earlier host) → Covering script.mode c (writes (U) row (call ∷ earlier))
          at (inl same) = covers-now earlier call along c same (claim, inl some)
          at (inr j) = covers-on c earlier call unput (rest g.steps g.before (was j) j)

      by : Before → Came script is earlier call along.0 along.1 host steps h.hand.id h.hand.task (calls_at script (call ∷ earlier) host) → Covering script.mode c (writes (U) row (call ∷ earlier))
      by rest (Stayed s) = stayed rest s
      by rest (Begun own bare) = absurd (subst (λ (cs : List Call). IsIn c cs) bare i)
      by rest (Went g) = went rest g
