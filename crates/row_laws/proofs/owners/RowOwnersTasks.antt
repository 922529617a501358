-- What the claims of an attempt in hand tell of its task, and what its task tells of its calls.
use Rattle.std.proofs.Common.{◌≡◌, sym, ap, subst, ◌∙◌, ℕ, ◌+◌, ◌<◌, List, [], Some}
use Rattle.raid_base.specs.declared.numbers.BayNo.{BayNo}
use Rattle.raid_base.specs.declared.numbers.HostNo.{HostNo}
use Rattle.raid_base.specs.declared.numbers.RowNo.{RowNo}
use Rattle.raid_base.specs.declared.numbers.Number.{Number}
use Rattle.raid_base.specs.declared.messages.How.TheVariants.{Seize, Mend}
use Rattle.raid_base.specs.declared.messages.Note.{Note}
use Rattle.raid_base.specs.declared.messages.Call.{Call}
use Rattle.raid_base.specs.declared.messages.Errand.{Errand}
use Rattle.raid_base.specs.declared.messages.Request.{Request}
use Rattle.raid_base.specs.declared.messages.Request.TheVariants.{Claim}
use Rattle.raid_base.specs.declared.jobs.Task.{Task}
use Rattle.raid_base.specs.declared.jobs.Task.TheVariants as tasks
use Rattle.raid_base.specs.Steps.{Steps, settled, next_errand}
use Rattle.stripe_layout.specs.Placement.{bay_of}
use Rattle.attempts.specs.declared.Repair.{Repair}
use Rattle.attempts.specs.declared.Rescue.{Rescue}
use Rattle.attempts.specs.Taking.{Finish}
use Rattle.attempts.specs.Phases.{IsIn}
use Rattle.attempts.specs.Once.{ClaimsSo, ClaimsAreOfTheirKind}
use Rattle.script_text.specs.Script.{Script}
use Rattle.script_text.specs.Ranges.{IsScript}
use Rattle.histories.specs.Calls.{Happened, id_of}
use Rattle.histories.specs.Hands.{past_of}
use Rattle.histories.specs.Progress.{Progress, attempt}
use Rattle.histories.specs.History.{progress_at, IsHistory}
use Rattle.histories.specs.RowStates.{slot_at}
use Rattle.row_laws.specs.Hands.{HasHand, calls_at, IsPutter}
use Rattle.histories.specs.Leftovers.{IsSeizure}
use Rattle.row_laws.specs.Holding.{HasNote, IsMendClaim, MayPutTo, Owns}
use Rattle.row_laws.proofs.owners.RowOwnersTrees.{Asking, next-asking, settled-asking, led-asking, MendAsks, rebuilds-ask, RecoverAsks, recoveries-ask}
use Rattle.row_laws.proofs.owners.RowOwnersHands.{happened-all, happened-own}
use Rattle.row_laws.proofs.hands.HandClaims.{kind_of, hand-claims}

module _ (kinds : ClaimsAreOfTheirKind) (script : Script) (is : IsScript script) where
  module _ (history : List Call) (along : IsHistory script history) (host : HostNo) (steps : Steps Finish) (h : HasHand script history host steps) (e : Errand) (asks : next_errand steps ≡ Some e) where
    abbrev Row : RowNo
    Row = record { 0 = (progress_at script host history).row }

    -- with the id of a seizure it is a recovery
    pub seizes : (of : HostNo) (id : Number) → id ≡ h.hand.id → Happened (IsSeizure of id) history → kind_of h.hand.task ≡ Seize
    seizes of id same seized =
        let mine = happened-own script is history along host steps h e asks (λ c k. ap (λ (w : Request). id_of w) k.4 ∙ ap (λ (x : Number). Some x) same) seized in
        let found = happened-all (calls_at script history host) mine (hand-claims script is history host steps h).made in
        let so : ClaimsSo script.n (kind_of h.hand.task) found.0.bay (Claim found.2.1 id Seize found.2.2 found.2.3) =
        subst (λ (w : Request). ClaimsSo script.n (kind_of h.hand.task) found.0.bay w) found.2.4 found.3 in
        sym so.0

    -- and with that of a claim to mend a rebuild
    pub mends : (at : BayNo) (row : RowNo) (note : Note) → note.id ≡ h.hand.id → Happened (IsMendClaim at row note) history → kind_of h.hand.task ≡ Mend
    mends at row note same mended =
        let mine = happened-own script is history along host steps h e asks (λ c k. ap (λ (w : Request). id_of w) k.4 ∙ ap (λ (x : Number). Some x) same) mended in
        let found = happened-all (calls_at script history host) mine (hand-claims script is history host steps h).made in
        let so : ClaimsSo script.n (kind_of h.hand.task) found.0.bay (Claim row note.id Mend found.2.2 found.2.3) =
        subst (λ (w : Request). ClaimsSo script.n (kind_of h.hand.task) found.0.bay w) found.2.4 found.3 in
        sym so.0

    abbrev RescueOf : RowNo → Rescue
    RescueOf row = record { n = script.n; host = host; id = h.hand.id; row = row }

    abbrev RepairOf : BayNo → Repair
    RepairOf bay = record { n = script.n; id = h.hand.id; row = Row; target = bay }

    -- what it has done before it asks
    pub recovery-asks : (row : RowNo) → h.hand.task ≡ tasks.Recover row → RecoverAsks (RescueOf row) (calls_at script history host) e
    recovery-asks row task =
        let p : Progress = progress_at script host history in
        let begins : Asking (RecoverAsks (RescueOf row)) [] (attempt script host h.hand.id p.row h.hand.task) =
        subst (λ (t : Task). Asking (RecoverAsks (RescueOf row)) [] (attempt script host h.hand.id p.row t)) (sym task) (recoveries-ask (RescueOf row)) in
        next-asking (RecoverAsks (RescueOf row)) (calls_at script history host) steps e
        (led-asking (RecoverAsks (RescueOf row)) host (settled host h.hand.id (attempt script host h.hand.id p.row h.hand.task)) p.calls (record { seen = p.seen; steps = steps })
        (settled-asking (RecoverAsks (RescueOf row)) host h.hand.id [] (attempt script host h.hand.id p.row h.hand.task) begins) h.hand.led) asks

    pub rebuild-asks : (bay : BayNo) → h.hand.task ≡ tasks.Rebuild bay → MendAsks (RepairOf bay) (calls_at script history host) e
    rebuild-asks bay task =
        let p : Progress = progress_at script host history in
        let begins : Asking (MendAsks (RepairOf bay)) [] (attempt script host h.hand.id p.row h.hand.task) =
        subst (λ (t : Task). Asking (MendAsks (RepairOf bay)) [] (attempt script host h.hand.id p.row t)) (sym task) (rebuilds-ask (RepairOf bay)) in
        next-asking (MendAsks (RepairOf bay)) (calls_at script history host) steps e
        (led-asking (MendAsks (RepairOf bay)) host (settled host h.hand.id (attempt script host h.hand.id p.row h.hand.task)) p.calls (record { seen = p.seen; steps = steps })
        (settled-asking (MendAsks (RepairOf bay)) host h.hand.id [] (attempt script host h.hand.id p.row h.hand.task) begins) h.hand.led) asks

-- What is said of an attempt that may put a unit
pub record Putter (script : Script) (history : List Call) (host : HostNo) (steps : Steps Finish) (h : HasHand script history host steps) (row : RowNo) (unit : ℕ) : Type 0 where
  pub putter : IsPutter h.hand.task
  pub confirmed : IsIn row (past_of (calls_at script history host)).confirmed
  pub noted : HasNote h.hand.id (slot_at script history (bay_of script.n row unit) row).note
  pub may : MayPutTo host (record { seen = (progress_at script host history).seen; steps = steps }) (bay_of script.n row unit) row h.hand.id

-- it owns its row
abbrev pub OwnedAt : Script → List Call → Type 0
OwnedAt script history = (host : HostNo) (steps : Steps Finish) (h : HasHand script history host steps) (row : RowNo) (unit : ℕ) → row.0 < script.rows → unit + 1 < script.n →
    Putter script history host steps h row unit → Owns script history row h.hand.id
