-- What a call does to the slot of an owned parity, and what tasks and calls tell of an attempt.
use Rattle.std.proofs.Common.{◌≡◌, ◌⊎◌, inl, inr, refl, sym, ap, subst, ◌∙◌, ℕ, zero, suc, ◌+◌, ◌<◌, ◌≤◌, Bool, true, false, List, [], ◌∷◌, Option, Some, None, IsSome, arith}
use Rattle.std.specs.List.{AllByRecursion, range_with_len}
use Rattle.std.proofs.lemmas.Bool.{cases_eq}
use Rattle.std.proofs.lemmas.Bool.Decides.{nat_tests}
use Rattle.raid_base.specs.declared.numbers.BayNo.{BayNo}
use Rattle.raid_base.specs.declared.numbers.RowNo.{RowNo}
use Rattle.raid_base.specs.declared.numbers.Number.{Number}
use Rattle.raid_base.specs.declared.cells.Cell.{Cell}
use Rattle.raid_base.specs.declared.messages.How.TheVariants.{Seize, Mend}
use Rattle.raid_base.specs.declared.messages.Note.{Note}
use Rattle.raid_base.specs.declared.messages.Ask.{Ask}
use Rattle.raid_base.specs.declared.messages.Call.{Call}
use Rattle.raid_base.specs.declared.messages.Request.{Request}
use Rattle.raid_base.specs.declared.messages.Request.TheVariants.{Share, Claim, Confirm, Put, Release, Lose, Fit}
use Rattle.raid_base.specs.declared.messages.Reply.{Reply}
use Rattle.raid_base.specs.declared.messages.Reply.TheVariants.{Granted, Busy, Late, Young, Missing, Held, NoNote, Done, Fault, Emptied, Fitted}
use Rattle.raid_base.specs.declared.jobs.Task.{Task}
use Rattle.raid_base.specs.declared.jobs.Task.TheVariants as tasks
use Rattle.raid_base.specs.Replies.{is_held, is_missing}
use Rattle.stripe_layout.specs.Placement.{bay_of, bays_of}
use Rattle.slot_rules.specs.Slots.{Slot, Bay}
use Rattle.slot_rules.specs.Rules.{note_id}
use Rattle.slot_rules.specs.Laws.{is_refused, claimed_note}
use Rattle.attempts.specs.Phases.{IsIn, after_asking}
use Rattle.histories.specs.Calls.{Happened, row_of}
use Rattle.histories.specs.Hands.{past_of}
use Rattle.row_laws.specs.Hands.{IsPutter}
use Rattle.row_laws.specs.Holding.{HasNote, IsRelease, CameFrom}
use Rattle.row_laws.proofs.hands.SlotMoves.{Fitted}
use Rattle.row_laws.proofs.hands.SlotDoes.{IsGone, Does, Refuses, Closes, Grants, Shows, Holds, Puts, Frees, Leaves}
use Rattle.row_laws.proofs.owners.RowOwnersTrees.{IsTaking}
use Rattle.row_laws.proofs.hands.HandClaims.{kind_of}

-- Notes. An open one with this id
abbrev pub IsNote : Number → Option Note → Type 0
IsNote id o = (note : Note) × (o ≡ Some note) × (note.id ≡ id)

pub noted-by : (o : Option Note) (id : Number) → note_id o id ≡ true → IsNote id o
noted-by None id own = absurd (cc)
noted-by (Some note) id own = (note, refl, let same : note.id.0 ≡ id.0 = grind (arith, nat_tests) in ap (λ (k : ℕ). record { 0 = k }) same)

pub has-noted : (o : Option Note) (id : Number) → HasNote id o → IsNote id o
has-noted None id h = absurd h
has-noted (Some note) id h = (note, refl, h)

pub noted-has : (o : Option Note) (id : Number) → IsNote id o → HasNote id o
noted-has o id (note, is, named) = subst (λ (x : Option Note). HasNote id x) (sym is) named

pub came-noted : (o : Option Note) (id : Number) (note : Note) → o ≡ Some note → CameFrom id o → note.origin ≡ id
came-noted o id note is h = subst (λ (x : Option Note). CameFrom id x) is h

claimed-came : (ask : Ask) (by id : Number) (mask : ℕ) (o : Option Note) → CameFrom id o → CameFrom id (Some (claimed_note ask by mask o))
claimed-came ask by id mask None h = absurd h
claimed-came ask by id mask (Some note) h = h

-- Tasks by their kinds
pub is-rebuild : (task : Task) → kind_of task ≡ Mend → (bay : BayNo) × (task ≡ tasks.Rebuild bay)
is-rebuild (tasks.Rebuild bay) e = (bay, refl)
is-rebuild (tasks.Recover row) e = absurd (cc)
is-rebuild (tasks.Read object first count) e = absurd (cc)
is-rebuild (tasks.Write object first from count) e = absurd (cc)
is-rebuild (tasks.Lose bay) e = absurd (cc)
is-rebuild (tasks.Fit bay) e = absurd (cc)

pub putter-kind : (task : Task) → IsPutter task → kind_of task ≡ Seize → ⊥
putter-kind (tasks.Write object first from count) putter e = absurd (cc)
putter-kind (tasks.Rebuild bay) putter e = absurd (cc)
putter-kind (tasks.Recover row) putter e = putter
putter-kind (tasks.Read object first count) putter e = putter
putter-kind (tasks.Lose bay) putter e = putter
putter-kind (tasks.Fit bay) putter e = putter

pub some-of : {X : Type 0} (o : Option X) → IsSome o → (x : X) × (o ≡ Some x)
some-of None h = absurd (cc)
some-of (Some x) h = (x, refl)

-- the bay of a unit is one of its row's
pub unit-in : (n : ℕ) (row : RowNo) (unit first count : ℕ) → first ≤ unit → unit < first + count → IsIn (bay_of n row unit) (bays_of n row (range_with_len first count))
unit-in n row unit first zero from below = absurd (omega (arith, from, below))
unit-in n row unit first (suc count) from below = elim (cases_eq first unit) [
  | inl is ↦ inl (ap (bay_of n row) is)
  | inr ne ↦ inr (unit-in n row unit (first + 1) count (omega arith) (omega arith))
]

-- What it has done so far, where it has only claimed and confirmed
pub taking-puts : (calls : List Call) → AllByRecursion (λ (call : Call). IsTaking call.ask.what) calls → (past_of calls).put ≡ []
taking-puts [] all = refl
taking-puts (call ∷ calls) all = by call.ask.what all.0 (taking-puts calls all.1)
  where
    by : (what : Request) → IsTaking what → (past_of calls).put ≡ [] → (after_asking (past_of calls) call.bay what call.answer.reply).put ≡ []
    by (Claim row id how mask want) is before = before
    by (Confirm row id want) is before = before
    by (Share row id want) is before = absurd is
    by (Put row id n cell) is before = absurd is
    by (Release row id n) is before = absurd is
    by Lose is before = absurd is
    by Fit is before = absurd is

pub taking-frees : (calls : List Call) → AllByRecursion (λ (call : Call). IsTaking call.ask.what) calls → Happened (λ call. IsRelease call.ask.what) calls → ⊥
taking-frees [] all h = h
taking-frees (call ∷ calls) all (inr h) = taking-frees calls all.1 h
taking-frees (call ∷ calls) all (inl is) = by call.ask.what all.0 is
  where
    by : (what : Request) → IsTaking what → IsRelease what → ⊥
    by (Claim row id how mask want) is frees = frees
    by (Confirm row id want) is frees = frees
    by (Share row id want) is frees = is
    by (Put row id n cell) is frees = is
    by (Release row id n) is frees = is
    by Lose is frees = is
    by Fit is frees = is

-- What a call does to the slot of a parity that an attempt owns
module _ (bay : Bay) (ask : Ask) (slot : Slot) (row : RowNo) (id : Number) where
  abbrev pub IsOwned : Slot → Type 0
  IsOwned s = (s.cell ≡ None) ⊎ CameFrom id s.note

  abbrev pub NoPut : Request → Type 0
  NoPut what = (by n : Number) (cell : Cell) → what ≡ Put row by n cell → note_id slot.note by ≡ true → IsOwned slot → ⊥

  abbrev pub NoFree : Request → Type 0
  NoFree what = (by : Number) (n : Option Number) → what ≡ Release row by n → note_id slot.note by ≡ true → CameFrom id slot.note → ⊥

  pub owned-after : (what : Request) (reply : Reply) (left : Slot) → Does bay ask slot what reply left → row_of what ≡ Some row → NoPut what → NoFree what → IsOwned slot → IsOwned left
  owned-after what reply left (Refuses r refused missing) of puts frees owned = owned
  owned-after what reply left (Closes there none) of puts frees owned = inl none
  owned-after what reply left (Grants {id = by} {mask} claims) of puts frees owned = one owned
    where
      one : IsOwned slot → IsOwned left
      one (inl none) = inl (ap (λ (s : Slot). s.cell) claims.left ∙ none)
      one (inr from) = inr (subst (λ (s : Slot). CameFrom id s.note) (sym claims.left) (claimed-came ask by id mask slot.note from))
  owned-after what reply left (Shows shares) of puts frees owned = one owned
    where
      one : IsOwned slot → IsOwned left
      one (inl none) = inl (shares.cell_kept ∙ none)
      one (inr from) = inr (subst (λ (o : Option Note). CameFrom id o) (sym shares.note_kept) from)
  owned-after what reply left (Holds own) of puts frees owned = owned
  owned-after what reply left (Puts {row = r} {id = by} {n} {cell} own) of puts frees owned =
      absurd (puts by n cell (let one : r ≡ row = cc in ap (λ (x : RowNo). Put x by n cell) one) own owned)
  owned-after what reply left (Frees {row = r} {id = by} {n} own) of puts frees owned = one owned
    where
      one : IsOwned slot → IsOwned (record slot { note = None })
      one (inl none) = inl none
      one (inr from) = absurd (frees by n (let one : r ≡ row = cc in ap (λ (x : RowNo). Release x by n) one) own from)
  owned-after what reply left (Leaves free reader found) of puts frees owned = owned

  -- a confirm leaves the slot, and tells of it
  pub confirm-leaves : (by : Number) (want : Bool) (what : Request) (reply : Reply) (left : Slot) → Does bay ask slot what reply left → what ≡ Confirm row by want → left ≡ slot
  confirm-leaves by want what reply left (Refuses r refused missing) is = refl
  confirm-leaves by want what reply left (Closes there none) is = absurd (cc)
  confirm-leaves by want what reply left (Grants claims) is = absurd (cc)
  confirm-leaves by want what reply left (Shows shares) is = absurd (cc)
  confirm-leaves by want what reply left (Holds own) is = refl
  confirm-leaves by want what reply left (Puts own) is = absurd (cc)
  confirm-leaves by want what reply left (Frees own) is = absurd (cc)
  confirm-leaves by want what reply left (Leaves free reader found) is = absurd (cc)

  held-refused : (r : Reply) → is_refused r ≡ true → is_held r ≡ true → ⊥
  held-refused (Held cell) refused held = absurd (cc)
  held-refused (Granted cell read_no write_no last life seized) refused held = absurd (cc)
  held-refused (Busy holder) refused held = absurd (cc)
  held-refused (Late above) refused held = absurd (cc)
  held-refused (Young note) refused held = absurd (cc)
  held-refused (Missing floor) refused held = absurd (cc)
  held-refused (NoNote life) refused held = absurd (cc)
  held-refused Done refused held = absurd (cc)
  held-refused Fault refused held = absurd (cc)
  held-refused Emptied refused held = absurd (cc)
  held-refused Fitted refused held = absurd (cc)

  is-floor : (r : Reply) → is_missing r ≡ true → (floor : Number) × (r ≡ Missing floor)
  is-floor (Missing floor) e = (floor, refl)
  is-floor (Granted cell read_no write_no last life seized) e = absurd (cc)
  is-floor (Busy holder) e = absurd (cc)
  is-floor (Late above) e = absurd (cc)
  is-floor (Young note) e = absurd (cc)
  is-floor (Held cell) e = absurd (cc)
  is-floor (NoNote life) e = absurd (cc)
  is-floor Done e = absurd (cc)
  is-floor Fault e = absurd (cc)
  is-floor Emptied e = absurd (cc)
  is-floor Fitted e = absurd (cc)

  pub confirm-held : (by : Number) (want : Bool) (what : Request) (reply : Reply) (left : Slot) → Does bay ask slot what reply left → what ≡ Confirm row by want → is_held reply ≡ true → note_id slot.note by ≡ true
  confirm-held by want what reply left (Refuses r refused missing) is held = absurd (held-refused r refused held)
  confirm-held by want what reply left (Closes there none) is held = absurd (cc)
  confirm-held by want what reply left (Grants claims) is held = absurd (cc)
  confirm-held by want what reply left (Shows shares) is held = absurd (cc)
  confirm-held by want what reply left (Holds {row = r} {id = own_id} {want = w} own) is held =
      let same : own_id ≡ by = (let both : Confirm r own_id w ≡ Confirm row by want = is in cc) in
      subst (λ (x : Number). note_id slot.note x ≡ true) same own
  confirm-held by want what reply left (Puts own) is held = absurd (cc)
  confirm-held by want what reply left (Frees own) is held = absurd (cc)
  confirm-held by want what reply left (Leaves free reader found) is held = absurd (cc)

  pub confirm-missing : (by : Number) (want : Bool) (what : Request) (reply : Reply) (left : Slot) → Does bay ask slot what reply left → what ≡ Confirm row by want → is_missing reply ≡ true → IsGone bay slot
  confirm-missing by want what reply left (Refuses r refused missing) is gone = let floor = is-floor r gone in missing floor.0 floor.1
  confirm-missing by want what reply left (Closes there none) is gone = inr none
  confirm-missing by want what reply left (Grants claims) is gone = absurd (cc)
  confirm-missing by want what reply left (Shows shares) is gone = absurd (cc)
  confirm-missing by want what reply left (Holds own) is gone = absurd (cc)
  confirm-missing by want what reply left (Puts own) is gone = absurd (let bad : false ≡ true = gone in cc)
  confirm-missing by want what reply left (Frees own) is gone = absurd (cc)
  confirm-missing by want what reply left (Leaves free reader found) is gone = absurd (cc)
