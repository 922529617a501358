-- Notes, and the attempts that hold them.
use Rattle.std.specs.Prelude.{◌≡◌, ◌≢◌, ◌⊎◌, ℕ, ◌+◌, ◌<◌, IsSome, List, ◌∷◌, Option, Some, None}
use Rattle.raid_base.specs.declared.numbers.BayNo.{BayNo}
use Rattle.raid_base.specs.declared.numbers.HostNo.{HostNo}
use Rattle.raid_base.specs.declared.numbers.RowNo.{RowNo}
use Rattle.raid_base.specs.declared.numbers.Number.{Number}
use Rattle.raid_base.specs.declared.messages.How.TheVariants.{Mend}
use Rattle.raid_base.specs.declared.messages.Note.{Note}
use Rattle.raid_base.specs.declared.messages.Grant.{Grant}
use Rattle.raid_base.specs.declared.messages.Request.{Request}
use Rattle.raid_base.specs.declared.messages.Request.TheVariants.{Claim, Put, Release}
use Rattle.raid_base.specs.declared.cells.Cell.{Cell}
use Rattle.raid_base.specs.declared.messages.Errand.{Errand}
use Rattle.raid_base.specs.declared.messages.Call.{Call}
use Rattle.raid_base.specs.Replies.{grant_of}
use Rattle.raid_base.specs.Steps.{Steps, Standing, Leads, next_errand}
use Rattle.stripe_layout.specs.Placement.{parity_bay, bay_of}
use Rattle.attempts.specs.Taking.{Finish}
use Rattle.attempts.specs.Phases.{IsIn}
use Rattle.script_text.specs.Script.{Script}
use Rattle.script_text.specs.Ranges.{IsScript}
use Rattle.histories.specs.Calls.{Happened, IsClaim, IsPut, IsDone}
use Rattle.histories.specs.Torn.{IsWriteClaim}
use Rattle.histories.specs.Hands.{past_of}
use Rattle.histories.specs.History.{IsHistory, progress_at, bay_at}
use Rattle.histories.specs.RowStates.{slot_at, cell_at}
use Rattle.histories.specs.Leftovers.{IsSeizure}
use Rattle.row_laws.specs.Hands.{HasHand, calls_at, IsPutter, IsRecoveryOf, IsAnswered}

-- the note has this id
abbrev pub HasNote : Number → Option Note → Type 0
HasNote id None = ⊥
HasNote id (Some note) = note.id ≡ id

-- Where a slot has no cell its note is a rebuild's, which claimed it to mend it.
abbrev pub IsMendClaim : BayNo → RowNo → Note → Call → Type 0
IsMendClaim at row note call =
    (call.bay ≡ at) × (call.ask.host ≡ note.host) × (mask : ℕ) × (want : _) × (call.ask.what ≡ Claim row note.id Mend mask want)

abbrev pub BlankNotesMend : Type 0
BlankNotesMend = (script : Script) (history : List Call) → IsScript script → IsHistory script history → (at : BayNo) (row : RowNo) (note : Note) →
    at.0 < script.n → row.0 < script.rows → cell_at script history row at ≡ None → (slot_at script history at row).note ≡ Some note →
    Happened (IsMendClaim at row note) history × (note.origin ≡ note.id)

-- Only a parity's note has units. It came from a write that claimed the parity with them, and that has not put it.
pub record HasUnits (n : ℕ) (row : RowNo) (history : List Call) (note : Note) : Type 0 where
  pub claimed : Happened (IsWriteClaim n row note.origin note.mask) history
  pub unfinished : ¬ (Happened (λ call. IsPut (parity_bay n row) row note.origin call × IsDone call) history)

abbrev pub UnitsAreOfWrites : Type 0
UnitsAreOfWrites = (script : Script) (history : List Call) → IsScript script → IsHistory script history → (at : BayNo) (row : RowNo) (note : Note) →
    at.0 < script.n → row.0 < script.rows → (slot_at script history at row).note ≡ Some note → note.mask ≢ 0 →
    (at ≡ parity_bay script.n row) × HasUnits script.n row history note

-- While a recovery holds the parity of its row, no write or rebuild that has confirmed the row holds a unit of which a claim
-- of the recovery was answered.
abbrev pub AnsweredAreFree : Type 0
AnsweredAreFree = (script : Script) (history : List Call) → IsScript script → IsHistory script history →
    (finder holder : HostNo) (finding holding : Steps Finish) (r : HasHand script history finder finding) (h : HasHand script history holder holding) →
    (row : RowNo) (unit : ℕ) → row.0 < script.rows → unit + 1 < script.n →
    IsRecoveryOf row r.hand.task → HasNote r.hand.id (slot_at script history (parity_bay script.n row) row).note →
    Happened (IsAnswered (bay_of script.n row unit) row) (calls_at script history finder) →
    IsPutter h.hand.task → IsIn row (past_of (calls_at script history holder)).confirmed →
    HasNote h.hand.id (slot_at script history (bay_of script.n row unit) row).note → ⊥

-- it gives nothing back, and is not about to
abbrev pub IsRelease : Request → Type 0
IsRelease (Release row id n) = Unit {0}
IsRelease _ = ⊥

pub record GivesNothing (steps : Steps Finish) (calls : List Call) : Type 0 where
  pub so_far : Happened (λ call. IsRelease call.ask.what) calls → ⊥
  pub next : (errand : Errand) → next_errand steps ≡ Some errand → IsRelease errand.request → ⊥

-- from where the note of a granted claim came
abbrev pub origin_of : Number → Option Note → Number
origin_of id None = id
origin_of id (Some note) = note.origin

-- the note is of a recovery, and none in hand with its id has confirmed the row
pub record IsOfOpenRecovery (script : Script) (history : List Call) (row : RowNo) (note : Note) : Type 0 where
  pub seized : Happened (IsSeizure note.host note.id) history
  pub closing : (host : HostNo) (steps : Steps Finish) (h : HasHand script history host steps) → h.hand.id ≡ note.id → IsIn row (past_of (calls_at script history host)).confirmed → ⊥

-- While an attempt that gives nothing back holds the parity of a row, each unit that was granted to its claim, is there, was
-- not lost since, and was not put by it, has a note of that origin, which is its own or of a recovery that may not close yet.
abbrev pub HoldersKeepNotes : Type 0
HoldersKeepNotes = (script : Script) (history : List Call) → IsScript script → IsHistory script history →
    (host : HostNo) (steps : Steps Finish) (h : HasHand script history host steps) → GivesNothing steps (calls_at script history host) →
    (row : RowNo) (unit : ℕ) → row.0 < script.rows → unit + 1 < script.n →
    HasNote h.hand.id (slot_at script history (parity_bay script.n row) row).note →
    (call : Call) (grant : Grant) → IsIn call (calls_at script history host) → IsClaim (bay_of script.n row unit) row call → grant_of call.answer.reply ≡ Some grant →
    (IsIn (record { bay = bay_of script.n row unit; row = row }) (past_of (calls_at script history host)).put → ⊥) →
    IsSome (cell_at script history row (bay_of script.n row unit)) → grant.life ≡ (bay_at script (bay_of script.n row unit) history).life →
    (note : Note) × ((slot_at script history (bay_of script.n row unit) row).note ≡ Some note) × (note.origin ≡ origin_of h.hand.id grant.seized)
    × ((note.id ≡ h.hand.id) ⊎ IsOfOpenRecovery script history row note)

-- the steps may come to a put of this slot
abbrev pub MayPutTo : HostNo → Standing Finish → BayNo → RowNo → Number → Type 0
MayPutTo host now at row id = (calls : List Call) × (later : Standing Finish) × Leads host now calls later
    × (n : Number) × (cell : Cell) × (next_errand later.steps ≡ Some (record { bay = at; request = Put row id n cell }))

-- a row is owned by an attempt: its parity has no cell, or a note that came from that attempt
abbrev pub CameFrom : Number → Option Note → Type 0
CameFrom id None = ⊥
CameFrom id (Some note) = note.origin ≡ id

abbrev pub Owns : Script → List Call → RowNo → Number → Type 0
Owns script history row id =
    (cell_at script history row (parity_bay script.n row) ≡ None) ⊎ CameFrom id (slot_at script history (parity_bay script.n row) row).note

-- A write or rebuild that has confirmed a row, and may still put a unit of it whose note it has, owns the row.
abbrev pub PuttersOwnRows : Type 0
PuttersOwnRows = (script : Script) (history : List Call) → IsScript script → IsHistory script history →
    (host : HostNo) (steps : Steps Finish) (h : HasHand script history host steps) → (row : RowNo) (unit : ℕ) → row.0 < script.rows → unit + 1 < script.n →
    IsPutter h.hand.task → IsIn row (past_of (calls_at script history host)).confirmed →
    HasNote h.hand.id (slot_at script history (bay_of script.n row unit) row).note →
    MayPutTo host (record { seen = (progress_at script host history).seen; steps = steps }) (bay_of script.n row unit) row h.hand.id →
    Owns script history row h.hand.id

-- A unit is put only by an attempt that owns its row.
abbrev pub PutsAreOfOwners : Type 0
PutsAreOfOwners = (script : Script) (earlier : List Call) (call : Call) → IsScript script → IsHistory script (call ∷ earlier) → (row : RowNo) (unit : ℕ) (id : Number) →
    row.0 < script.rows → unit + 1 < script.n → IsPut (bay_of script.n row unit) row id call → IsDone call → Owns script earlier row id
