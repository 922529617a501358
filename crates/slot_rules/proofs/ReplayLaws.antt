-- The laws of one bay over a run of asks.
use Rattle.std.proofs.Common.{◌≡◌, ℕ, ◌<◌, ◌≤◌, ◌⊎◌, inl, inr, Bool, true, false, if◌then◌else◌, nat_lt, List, [], ◌∷◌, length, Option, Some, None, refl, sym, ap, subst, ◌∙◌, arith}
use Rattle.std.proofs.lemmas.List.{get_or-replicate, length-replicate}
use Rattle.std.proofs.lemmas.Bool.Decides.{nat_tests}
use Rattle.std.specs.List.{AllByRecursion}
use Rattle.raid_base.specs.declared.cells.Cell.{Cell}
use Rattle.raid_base.specs.declared.numbers.Number.{Number}
use Rattle.raid_base.specs.declared.numbers.RowNo.{RowNo}
use Rattle.raid_base.specs.declared.messages.Mode.{Mode}
use Rattle.raid_base.specs.declared.messages.Mode.TheVariants.{Lock, Order}
use Rattle.raid_base.specs.declared.messages.How.{How}
use Rattle.raid_base.specs.declared.messages.Note.{Note}
use Rattle.raid_base.specs.declared.messages.Ask.{Ask}
use Rattle.raid_base.specs.declared.messages.Entry.{Entry}
use Rattle.raid_base.specs.declared.messages.Reply.{Reply}
use Rattle.raid_base.specs.declared.messages.Reply.TheVariants.{Granted, Busy, Late, Young, Missing, Held, NoNote, Done, Fault, Emptied, Fitted}
use Rattle.raid_base.specs.declared.messages.Request.{Request}
use Rattle.raid_base.specs.declared.messages.Request.TheVariants.{Share, Claim, Confirm, Put, Release, Lose, Fit}
use Rattle.raid_base.specs.Replies.{is_fault}
use Rattle.slot_rules.specs.declared.Reader.{Reader}
use Rattle.slot_rules.specs.Slots.{Slot, Bay, first_bay, first_slot, slot_of}
use Rattle.slot_rules.specs.Rules.{share_lock, share_order, share_by, share_at, share_rule, missing_floor, rule, rule_of}
use Rattle.slot_rules.specs.Replay.{Replays}
use Rattle.slot_rules.specs.Serving.{row_of}
use Rattle.slot_rules.specs.Laws.{is_row, is_granted, NotesHoldOffShares, claimed_note, NoteComes, seized_of, Opens, SomeEntry, NotesHaveOrigins, with_some, read_number, write_number, read_in, written_in, reads_shown, writes_shown, CoversRead, CoversWrite, NumbersAreCovered, EmptyBaysAreBare}
use Rattle.slot_rules.proofs.RowSteps.{RowStep, Touched, Passed, Bared, IsCapped, goes, capped, row_step, bare_run}

-- Shares under an opened note
held_off_lock : (bay : Bay) (slot : Slot) (ask : Ask) (id : Number) (want fails : Bool) (note : Note) (held : Option Note) (reader : Option Reader) → held ≡ Some note →
    is_granted (share_lock bay slot ask id want fails held reader).reply ≡ false
held_off_lock bay slot ask id want fails note None reader e = absurd (let bad : None ≡ Some note = e in cc)
held_off_lock bay slot ask id want fails note (Some held) reader e = refl

held_off_order : (bay : Bay) (slot : Slot) (id : Number) (want fails : Bool) (note : Note) (held : Option Note) → held ≡ Some note → note.origin.0 < id.0 →
    is_granted (share_order bay slot id want fails held).reply ≡ false
held_off_order bay slot id want fails note None e l = absurd (let bad : None ≡ Some note = e in cc)
held_off_order bay slot id want fails note (Some held) e l =
    let same : held ≡ note = cc in
    let above : nat_lt held.origin.0 id.0 ≡ true = rw same (grind (arith, nat_tests)) in
    rw above refl

held_off_at : (mode : Mode) (bay : Bay) (slot : Slot) (ask : Ask) (id : Number) (want fails : Bool) (floor : Option Number) →
    is_granted (share_by mode bay slot ask id want fails).reply ≡ false → bay.mode ≡ mode →
    is_granted (share_at bay slot ask id want fails floor).reply ≡ false
held_off_at mode bay slot ask id want fails (Some floor) h m = refl
held_off_at mode bay slot ask id want fails None h m = ap (λ (k : Mode). is_granted (share_by k bay slot ask id want fails).reply) m ∙ h

pub notes_hold_off_shares_lem : NotesHoldOffShares
notes_hold_off_shares_lem bay ask fails row id want note is opened =
    let slot = slot_of bay row in
    let asked : is_granted (rule bay ask fails).reply ≡ is_granted (share_rule bay slot ask id want fails).reply = ap (λ (w : Request). is_granted (rule_of bay ask fails w).reply) is in (
      λ m. asked ∙ held_off_at Lock bay slot ask id want fails (missing_floor bay slot) (held_off_lock bay slot ask id want fails note slot.note _ opened) m,
      λ m l. asked ∙ held_off_at Order bay slot ask id want fails (missing_floor bay slot) (held_off_order bay slot id want fails note slot.note opened l) m,
    )

-- Where notes come from
pub record NoteFrom (bay : Bay) (row : RowNo) (note : Note) : Type 0 where
  pub old : Note
  pub opened : (slot_of bay row).note ≡ Some old
  pub origin : old.origin ≡ note.origin
  pub mask : old.mask ≡ note.mask

stays : (bay : Bay) (row : RowNo) (note : Note) → (slot_of bay row).note ≡ Some note → NoteFrom bay row note
stays bay row note e = record { old = note; opened = e; origin = refl; mask = refl }

note_claimed : (bay : Bay) (row : RowNo) (ask : Ask) (reply : Reply) (id : Number) (how : How) (mask : ℕ) (want : Bool) (seized : Option Note) (note : Note) →
    ask.what ≡ Claim row id how mask want → seized_of reply ≡ Some seized → note ≡ claimed_note ask id mask seized → seized ≡ (slot_of bay row).note →
    Opens row note.origin note.mask ask reply ⊎ NoteFrom bay row note
note_claimed bay row ask reply id how mask want None note is g e s =
    let o : id ≡ note.origin = sym (ap (λ (n : Note). n.origin) e) in
    let m : mask ≡ note.mask = sym (ap (λ (n : Note). n.mask) e) in
    inl (record {
      how = how;
      want = want;
      asked = is ∙ ap (λ (x : Number). Claim row x how mask want) o ∙ ap (λ (x : ℕ). Claim row note.origin how x want) m;
      granted = g;
    })
note_claimed bay row ask reply id how mask want (Some old) note is g e s = inr (record {
  old = old;
  opened = sym s;
  origin = sym (ap (λ (n : Note). n.origin) e);
  mask = sym (ap (λ (n : Note). n.mask) e);
})

note_granted : (bay : Bay) (row : RowNo) (ask : Ask) (what : Request) (cell : Option Cell) (read_no write_no last : Number) (life : ℕ) (seized : Option Note) (note : Note) →
    ask.what ≡ what → row_of what ≡ Some row → NoteComes ask what (Granted cell read_no write_no last life seized) (slot_of bay row).note note →
    Opens row note.origin note.mask ask (Granted cell read_no write_no last life seized) ⊎ NoteFrom bay row note
note_granted bay row ask (Share r id want) cell read_no write_no last life seized note is at e = inr (stays bay row note e)
note_granted bay row ask (Claim r id how mask want) cell read_no write_no last life seized note is at e =
    let same : r ≡ row = cc in
    note_claimed bay row ask (Granted cell read_no write_no last life seized) id how mask want seized note (is ∙ ap (λ (x : RowNo). Claim x id how mask want) same) refl e.0 e.1
note_granted bay row ask (Confirm r id want) cell read_no write_no last life seized note is at e = inr (stays bay row note e)
note_granted bay row ask (Put r id n c) cell read_no write_no last life seized note is at e = inr (stays bay row note e)
note_granted bay row ask (Release r id n) cell read_no write_no last life seized note is at e = inr (stays bay row note e)
note_granted bay row ask Lose cell read_no write_no last life seized note is at e = inr (stays bay row note e)
note_granted bay row ask Fit cell read_no write_no last life seized note is at e = inr (stays bay row note e)

note_comes : (bay : Bay) (row : RowNo) (ask : Ask) (reply : Reply) (note : Note) → row_of ask.what ≡ Some row → NoteComes ask ask.what reply (slot_of bay row).note note →
    Opens row note.origin note.mask ask reply ⊎ NoteFrom bay row note
note_comes bay row ask (Granted cell read_no write_no last life seized) note at e = note_granted bay row ask ask.what cell read_no write_no last life seized note refl at e
note_comes bay row ask (Busy holder) note at e = inr (stays bay row note e)
note_comes bay row ask (Late above) note at e = inr (stays bay row note e)
note_comes bay row ask (Young young) note at e = inr (stays bay row note e)
note_comes bay row ask (Missing floor) note at e = inr (stays bay row note e)
note_comes bay row ask (Held cell) note at e = inr (stays bay row note e)
note_comes bay row ask (NoNote life) note at e = inr (stays bay row note e)
note_comes bay row ask Done note at e = inr (stays bay row note e)
note_comes bay row ask Fault note at e = inr (stays bay row note e)
note_comes bay row ask Emptied note at e = inr (stays bay row note e)
note_comes bay row ask Fitted note at e = inr (stays bay row note e)

note_step : (bay : Bay) (row : RowNo) (ask : Ask) (reply : Reply) (after : Bay) (note : Note) → RowStep bay ask row reply after → (slot_of after row).note ≡ Some note →
    Opens row note.origin note.mask ask reply ⊎ NoteFrom bay row note
note_step bay row ask reply after note (Touched at step e c) opened = note_comes bay row ask reply note at (step.note_comes note opened)
note_step bay row ask reply after note (Passed same is e) opened = inr (stays bay row note (ap (λ (s : Slot). s.note) (sym same) ∙ opened))
note_step bay row ask reply after note (Bared n same is e z l) opened = absurd (let bad : None ≡ Some note = ap (λ (s : Slot). s.note) (sym same) ∙ opened in cc)

-- the note of an entry, or from before it
entry_note : (bay : Bay) (row : RowNo) (entry : Entry) (note : Note) → row.0 < length bay.slots → entry.reply ≡ (rule bay entry.ask (is_fault entry.reply)).reply →
    (slot_of (rule bay entry.ask (is_fault entry.reply)).bay row).note ≡ Some note →
    Opens row note.origin note.mask entry.ask entry.reply ⊎ NoteFrom bay row note
entry_note bay row entry note l is opened =
    subst (λ (r : Reply). Opens row note.origin note.mask entry.ask r ⊎ NoteFrom bay row note) (sym is)
    (note_step bay row entry.ask _ (rule bay entry.ask (is_fault entry.reply)).bay note (row_step bay entry.ask (is_fault entry.reply) row l) opened)

opens_same : (row : RowNo) (o o' : Number) (m m' : ℕ) (ask : Ask) (reply : Reply) → o ≡ o' → m ≡ m' → Opens row o m ask reply → Opens row o' m' ask reply
opens_same row o o' m m' ask reply e f h = subst (λ (x : ℕ). Opens row o' x ask reply) f (subst (λ (x : Number). Opens row x m ask reply) e h)

from_same : (bay : Bay) (row : RowNo) (x note : Note) → x.origin ≡ note.origin → x.mask ≡ note.mask → NoteFrom bay row x → NoteFrom bay row note
from_same bay row x note e f h = record { old = h.old; opened = h.opened; origin = h.origin ∙ e; mask = h.mask ∙ f }

joined : (bay : Bay) (row : RowNo) (entry : Entry) (entries : List Entry) (x note : Note) → x.origin ≡ note.origin → x.mask ≡ note.mask →
    Opens row x.origin x.mask entry.ask entry.reply ⊎ NoteFrom bay row x →
    SomeEntry (λ e. Opens row note.origin note.mask e.ask e.reply) (entry ∷ entries) ⊎ NoteFrom bay row note
joined bay row entry entries x note e f (inl h) = inl (inl (opens_same row x.origin note.origin x.mask note.mask entry.ask entry.reply e f h))
joined bay row entry entries x note e f (inr h) = inr (from_same bay row x note e f h)

later : (bay next : Bay) (row : RowNo) (entry : Entry) (entries : List Entry) (note : Note) →
    ((x : Note) → (slot_of next row).note ≡ Some x → Opens row x.origin x.mask entry.ask entry.reply ⊎ NoteFrom bay row x) →
    SomeEntry (λ e. Opens row note.origin note.mask e.ask e.reply) entries ⊎ NoteFrom next row note →
    SomeEntry (λ e. Opens row note.origin note.mask e.ask e.reply) (entry ∷ entries) ⊎ NoteFrom bay row note
later bay next row entry entries note step (inl h) = inl (inr h)
later bay next row entry entries note step (inr h) = joined bay row entry entries h.old note h.origin h.mask (step h.old h.opened)

run_note : (bay : Bay) (clock : ℕ) (entries : List Entry) (bay' : Bay) (clock' : ℕ) (row : RowNo) (note : Note) → row.0 < length bay.slots →
    Replays bay clock entries bay' clock' → (slot_of bay' row).note ≡ Some note →
    SomeEntry (λ e. Opens row note.origin note.mask e.ask e.reply) entries ⊎ NoteFrom bay row note
run_note bay clock [] bay' clock' row note l r opened = inr (stays bay row note (ap (λ (b : Bay). (slot_of b row).note) r.0 ∙ opened))
run_note bay clock (entry ∷ entries) bay' clock' row note l r opened =
    let next = (rule bay entry.ask (is_fault entry.reply)).bay in
    let rows = (goes bay entry.ask (is_fault entry.reply)).rows in
    later bay next row entry entries note (λ x o. entry_note bay row entry x l r.0 o)
    (run_note next entry.clock entries bay' clock' row note (omega (arith, rows)) r.2 opened)

first_there : (mode : Mode) (rows patience : ℕ) (row : RowNo) → row.0 < rows → slot_of (first_bay mode rows patience) row ≡ first_slot
first_there mode rows patience row l = get_or-replicate rows row.0 first_slot _ l

first_rows : (mode : Mode) (rows patience : ℕ) (row : RowNo) → row.0 < rows → row.0 < length (first_bay mode rows patience).slots
first_rows mode rows patience row l = omega (arith, length-replicate rows first_slot)

not_first : (mode : Mode) (rows patience : ℕ) (row : RowNo) (note : Note) (P : Type 0) → row.0 < rows → P ⊎ NoteFrom (first_bay mode rows patience) row note → P
not_first mode rows patience row note P l (inl h) = h
not_first mode rows patience row note P l (inr h) =
    absurd (let bad : None ≡ Some h.old = ap (λ (s : Slot). s.note) (sym (first_there mode rows patience row l)) ∙ h.opened in cc)

pub notes_have_origins_lem : NotesHaveOrigins
notes_have_origins_lem mode rows patience entries bay clock row note l r opened =
    not_first mode rows patience row note _ l (run_note (first_bay mode rows patience) 0 entries bay clock row note (first_rows mode rows patience row l) r opened)

-- Covered numbers
covers_read : (bay after : Bay) (row : RowNo) (ask : Ask) (reply : Reply) (n : Number) → bay.high.0 ≤ after.high.0 → RowStep bay ask row reply after → CoversRead bay row n → CoversRead after row n
covers_read bay after row ask reply n up (Touched at step e c) h = (omega (arith, h.0), λ f. omega (arith, step.read_rises, h.1 (sym e ∙ f)))
covers_read bay after row ask reply n up (Passed same is e) h = (omega (arith, h.0), λ f. subst (λ (s : Slot). n.0 ≤ s.read_no.0) (sym same) (h.1 (sym e ∙ f)))
covers_read bay after row ask reply n up (Bared k same is e z l) h = (omega (arith, h.0), λ f. subst (λ (s : Slot). n.0 ≤ s.read_no.0) (sym same) (rw (e f) h.0))

covers_write : (bay after : Bay) (row : RowNo) (ask : Ask) (reply : Reply) (n : Number) → bay.high.0 ≤ after.high.0 → RowStep bay ask row reply after → CoversWrite bay row n → CoversWrite after row n
covers_write bay after row ask reply n up (Touched at step e c) h = (omega (arith, h.0), λ f. omega (arith, step.write_rises, h.1 (sym e ∙ f)))
covers_write bay after row ask reply n up (Passed same is e) h = (omega (arith, h.0), λ f. subst (λ (s : Slot). n.0 ≤ s.write_no.0) (sym same) (h.1 (sym e ∙ f)))
covers_write bay after row ask reply n up (Bared k same is e z l) h = (omega (arith, h.0), λ f. subst (λ (s : Slot). n.0 ≤ s.write_no.0) (sym same) (rw (e f) h.0))

is_row-same : (row : RowNo) (at : Option RowNo) → at ≡ Some row → is_row row at ≡ true
is_row-same row at e = rw e (grind (arith, nat_tests))

-- a number that is shown now
reads_now : (bay after : Bay) (row : RowNo) (ask : Ask) (reply : Reply) (n : Number) → IsCapped after row → RowStep bay ask row reply after →
    read_in row bay ask.what reply ≡ Some n → CoversRead after row n
reads_now bay after row ask reply n c (Touched at step e k) h =
    let shown : read_number bay.mode (slot_of bay row).note ask.what reply ≡ Some n =
    sym (ap (λ b. if b then read_number bay.mode (slot_of bay row).note ask.what reply else None) (is_row-same row _ at)) ∙ h in
    let within = step.read_covered n shown in
    (omega (arith, within, c.read), λ f. within)
reads_now bay after row ask reply n c (Passed same is e) h =
    absurd (let bad : None ≡ Some n = sym (ap (λ b. if b then read_number bay.mode (slot_of bay row).note ask.what reply else None) is) ∙ h in cc)
reads_now bay after row ask reply n c (Bared k same is e z l) h =
    absurd (let bad : None ≡ Some n = sym (ap (λ b. if b then read_number bay.mode (slot_of bay row).note ask.what reply else None) is) ∙ h in cc)

writes_now : (bay after : Bay) (row : RowNo) (ask : Ask) (reply : Reply) (n : Number) → IsCapped after row → RowStep bay ask row reply after →
    written_in row ask.what reply ≡ Some n → CoversWrite after row n
writes_now bay after row ask reply n c (Touched at step e k) h =
    let shown : write_number ask.what reply ≡ Some n = sym (ap (λ b. if b then write_number ask.what reply else None) (is_row-same row _ at)) ∙ h in
    let within = step.write_covered n shown in
    (omega (arith, within, c.write), λ f. within)
writes_now bay after row ask reply n c (Passed same is e) h = absurd (let bad : None ≡ Some n = sym (ap (λ b. if b then write_number ask.what reply else None) is) ∙ h in cc)
writes_now bay after row ask reply n c (Bared k same is e z l) h = absurd (let bad : None ≡ Some n = sym (ap (λ b. if b then write_number ask.what reply else None) is) ∙ h in cc)

reads_later : (bay : Bay) (clock : ℕ) (entries : List Entry) (bay' : Bay) (clock' : ℕ) (row : RowNo) (n : Number) → row.0 < length bay.slots →
    Replays bay clock entries bay' clock' → CoversRead bay row n → CoversRead bay' row n
reads_later bay clock [] bay' clock' row n l r h = subst (λ (b : Bay). CoversRead b row n) r.0 h
reads_later bay clock (entry ∷ entries) bay' clock' row n l r h =
    let fails = is_fault entry.reply in
    let next = (rule bay entry.ask fails).bay in
    let g = goes bay entry.ask fails in
    reads_later next entry.clock entries bay' clock' row n (omega (arith, g.rows)) r.2 (covers_read bay next row entry.ask _ n g.high (row_step bay entry.ask fails row l) h)

writes_later : (bay : Bay) (clock : ℕ) (entries : List Entry) (bay' : Bay) (clock' : ℕ) (row : RowNo) (n : Number) → row.0 < length bay.slots →
    Replays bay clock entries bay' clock' → CoversWrite bay row n → CoversWrite bay' row n
writes_later bay clock [] bay' clock' row n l r h = subst (λ (b : Bay). CoversWrite b row n) r.0 h
writes_later bay clock (entry ∷ entries) bay' clock' row n l r h =
    let fails = is_fault entry.reply in
    let next = (rule bay entry.ask fails).bay in
    let g = goes bay entry.ask fails in
    writes_later next entry.clock entries bay' clock' row n (omega (arith, g.rows)) r.2 (covers_write bay next row entry.ask _ n g.high (row_step bay entry.ask fails row l) h)

all_with : (P : Number → Type 0) (shown : Option Number) (ns : List Number) → ((n : Number) → shown ≡ Some n → P n) → AllByRecursion P ns → AllByRecursion P (with_some shown ns)
all_with P None ns h a = a
all_with P (Some n) ns h a = (h n refl, a)

reads_all : (bay : Bay) (clock : ℕ) (entries : List Entry) (bay' : Bay) (clock' : ℕ) (row : RowNo) → row.0 < length bay.slots → IsCapped bay row →
    Replays bay clock entries bay' clock' → AllByRecursion (CoversRead bay' row) (reads_shown row bay entries)
reads_all bay clock [] bay' clock' row l c r = tt
reads_all bay clock (entry ∷ entries) bay' clock' row l c r =
    let fails = is_fault entry.reply in
    let next = (rule bay entry.ask fails).bay in
    let g = goes bay entry.ask fails in
    let c' = capped bay entry.ask fails row l c in
    let l' : row.0 < length next.slots = omega (arith, g.rows) in
    all_with (CoversRead bay' row) (read_in row bay entry.ask.what entry.reply) (reads_shown row next entries)
    (λ n h. reads_later next entry.clock entries bay' clock' row n l' r.2
    (reads_now bay next row entry.ask _ n c' (row_step bay entry.ask fails row l) (ap (λ (x : Reply). read_in row bay entry.ask.what x) (sym r.0) ∙ h)))
    (reads_all next entry.clock entries bay' clock' row l' c' r.2)

writes_all : (bay : Bay) (clock : ℕ) (entries : List Entry) (bay' : Bay) (clock' : ℕ) (row : RowNo) → row.0 < length bay.slots → IsCapped bay row →
    Replays bay clock entries bay' clock' → AllByRecursion (CoversWrite bay' row) (writes_shown row entries)
writes_all bay clock [] bay' clock' row l c r = tt
writes_all bay clock (entry ∷ entries) bay' clock' row l c r =
    let fails = is_fault entry.reply in
    let next = (rule bay entry.ask fails).bay in
    let g = goes bay entry.ask fails in
    let c' = capped bay entry.ask fails row l c in
    let l' : row.0 < length next.slots = omega (arith, g.rows) in
    all_with (CoversWrite bay' row) (written_in row entry.ask.what entry.reply) (writes_shown row entries)
    (λ n h. writes_later next entry.clock entries bay' clock' row n l' r.2
    (writes_now bay next row entry.ask _ n c' (row_step bay entry.ask fails row l) (ap (λ (x : Reply). written_in row entry.ask.what x) (sym r.0) ∙ h)))
    (writes_all next entry.clock entries bay' clock' row l' c' r.2)

first_capped : (mode : Mode) (rows patience : ℕ) (row : RowNo) → row.0 < rows → IsCapped (first_bay mode rows patience) row
first_capped mode rows patience row l = record {
  read = subst (λ (s : Slot). s.read_no.0 ≤ 0) (sym (first_there mode rows patience row l)) (omega arith);
  write = subst (λ (s : Slot). s.write_no.0 ≤ 0) (sym (first_there mode rows patience row l)) (omega arith);
}

pub numbers_are_covered_lem : NumbersAreCovered
numbers_are_covered_lem mode rows patience entries bay clock row l r =
    let first = first_bay mode rows patience in
    let here = first_rows mode rows patience row l in
    let c = first_capped mode rows patience row l in
    (reads_all first 0 entries bay clock row here c r, writes_all first 0 entries bay clock row here c r)

pub empty_bays_are_bare_lem : EmptyBaysAreBare
empty_bays_are_bare_lem mode rows patience entries bay clock row l r =
    bare_run (first_bay mode rows patience) 0 entries bay clock row (first_rows mode rows patience row l) (λ h. absurd (let bad : false ≡ true = h in cc)) r
