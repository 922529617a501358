-- What a request does to its slot: numbers rise, notes come of claims, readers stand.
use Rattle.std.proofs.Common.{◌≡◌, ℕ, ◌≤◌, ◌||◌, ◌&&◌, Bool, true, false, if◌then◌else◌, not, nat_lt, find, Option, Some, None, is_some, refl, sym, ap, ◌∙◌, arith}
use Rattle.raid_base.specs.declared.cells.Cell.{Cell}
use Rattle.raid_base.specs.declared.numbers.Number.{Number}
use Rattle.raid_base.specs.declared.numbers.RowNo.{RowNo}
use Rattle.raid_base.specs.declared.messages.Mode.{Mode}
use Rattle.raid_base.specs.declared.messages.Mode.TheVariants.{Lock, Order}
use Rattle.raid_base.specs.declared.messages.How.{How}
use Rattle.raid_base.specs.declared.messages.How.TheVariants.{Plain, Seize, Mend}
use Rattle.raid_base.specs.declared.messages.Note.{Note}
use Rattle.raid_base.specs.declared.messages.Ask.{Ask}
use Rattle.raid_base.specs.declared.messages.Reply.{Reply}
use Rattle.raid_base.specs.declared.messages.Reply.TheVariants.{Granted, Busy, Late, Young, Missing, Held, NoNote, Done, Fault, Emptied, Fitted}
use Rattle.raid_base.specs.declared.messages.Request.{Request}
use Rattle.raid_base.specs.declared.messages.Request.TheVariants.{Share, Claim, Confirm, Put, Release}
use Rattle.raid_base.specs.Numbers.{greater}
use Rattle.slot_rules.specs.declared.Reader.{Reader}
use Rattle.slot_rules.specs.Slots.{Slot, Bay, reader_note}
use Rattle.slot_rules.specs.Rules.{SlotOutcome, keeps, reads, wanted_cell, slot_floor, missing_floor, is_reader, note_id, is_same_host, may_seize, young_note, share_lock, share_granted_lock, share_order, share_unnoted, share_granted_order, share_by, share_at, share_rule, claim_granted, claim_noted, claim_at, is_late, seize_granted, seize_unread, seize_blank, seize_noted, claim_rule, confirm_missing, confirm_rule, put_done, put_rule, read_at, release_reader, release_rule}
use Rattle.slot_rules.specs.Laws.{IsStep, is_refused, claimed_note, shown_life}

-- a step of a bay
abbrev Steps : Bay → Ask → Request → Slot → SlotOutcome → Type 0
Steps bay ask what slot o = IsStep bay.mode bay.life ask what slot o.reply o.slot

kept_slot : (bay : Bay) (ask : Ask) (what : Request) (slot : Slot) (reply : Reply) → is_refused reply ≡ true → ((l : ℕ) → shown_life reply ≡ Some l → l ≡ bay.life) →
    Steps bay ask what slot (keeps slot reply)
kept_slot bay ask what slot (Busy holder) f l = record {
  read_rises = omega arith;
  write_rises = omega arith;
  read_covered = λ n h. absurd (let bad : None ≡ Some n = h in cc);
  write_covered = λ n h. absurd (let bad : None ≡ Some n = h in cc);
  life_shown = l;
  note_comes = λ note h. h;
  readers_stand = tt;
}
kept_slot bay ask what slot (Late above) f l = record {
  read_rises = omega arith;
  write_rises = omega arith;
  read_covered = λ n h. absurd (let bad : None ≡ Some n = h in cc);
  write_covered = λ n h. absurd (let bad : None ≡ Some n = h in cc);
  life_shown = l;
  note_comes = λ note h. h;
  readers_stand = tt;
}
kept_slot bay ask what slot (Young note) f l = record {
  read_rises = omega arith;
  write_rises = omega arith;
  read_covered = λ n h. absurd (let bad : None ≡ Some n = h in cc);
  write_covered = λ n h. absurd (let bad : None ≡ Some n = h in cc);
  life_shown = l;
  note_comes = λ note h. h;
  readers_stand = tt;
}
kept_slot bay ask what slot (Missing floor) f l = record {
  read_rises = omega arith;
  write_rises = omega arith;
  read_covered = λ n h. absurd (let bad : None ≡ Some n = h in cc);
  write_covered = λ n h. absurd (let bad : None ≡ Some n = h in cc);
  life_shown = l;
  note_comes = λ note h. h;
  readers_stand = tt;
}
kept_slot bay ask what slot (NoNote life) f l = record {
  read_rises = omega arith;
  write_rises = omega arith;
  read_covered = λ n h. absurd (let bad : None ≡ Some n = h in cc);
  write_covered = λ n h. absurd (let bad : None ≡ Some n = h in cc);
  life_shown = l;
  note_comes = λ note h. h;
  readers_stand = tt;
}
kept_slot bay ask what slot Fault f l = record {
  read_rises = omega arith;
  write_rises = omega arith;
  read_covered = λ n h. absurd (let bad : None ≡ Some n = h in cc);
  write_covered = λ n h. absurd (let bad : None ≡ Some n = h in cc);
  life_shown = l;
  note_comes = λ note h. h;
  readers_stand = tt;
}
kept_slot bay ask what slot (Granted cell read_no write_no last life seized) f l = absurd (let bad : false ≡ true = f in cc)
kept_slot bay ask what slot (Held cell) f l = absurd (let bad : false ≡ true = f in cc)
kept_slot bay ask what slot Done f l = absurd (let bad : false ≡ true = f in cc)
kept_slot bay ask what slot Emptied f l = absurd (let bad : false ≡ true = f in cc)
kept_slot bay ask what slot Fitted f l = absurd (let bad : false ≡ true = f in cc)

said : (bay : Bay) (ask : Ask) (what : Request) (slot : Slot) (reply : Reply) → is_refused reply ≡ true → shown_life reply ≡ None → Steps bay ask what slot (keeps slot reply)
said bay ask what slot reply f l = kept_slot bay ask what slot reply f (λ n h. absurd (let bad : None ≡ Some n = sym l ∙ h in cc))

no_note : (bay : Bay) (ask : Ask) (what : Request) (slot : Slot) → Steps bay ask what slot (keeps slot (NoNote bay.life))
no_note bay ask what slot = kept_slot bay ask what slot (NoNote bay.life) refl (λ l h. cc)

if_step : (bay : Bay) (ask : Ask) (what : Request) (slot : Slot) (o p : SlotOutcome) (b : Bool) → Steps bay ask what slot o → Steps bay ask what slot p →
    Steps bay ask what slot (if b then o else p)
if_step bay ask what slot o p true x y = x
if_step bay ask what slot o p false x y = y

read_by : (bay : Bay) (ask : Ask) (what : Request) (slot : Slot) (o : SlotOutcome) (b fails : Bool) → Steps bay ask what slot o →
    Steps bay ask what slot (if b && fails then keeps slot Fault else o)
read_by bay ask what slot o true true x = said bay ask what slot Fault refl refl
read_by bay ask what slot o true false x = x
read_by bay ask what slot o false fails x = x

read_step : (bay : Bay) (ask : Ask) (what : Request) (slot : Slot) (want fails : Bool) (o : SlotOutcome) → Steps bay ask what slot o →
    Steps bay ask what slot (reads want fails slot o)
read_step bay ask what slot want fails o x = read_by bay ask what slot o (is_some (wanted_cell want slot)) fails x

-- Share
shared_lock : (bay : Bay) (slot : Slot) (ask : Ask) (row : RowNo) (id : Number) (want : Bool) → bay.mode ≡ Lock → slot.note ≡ None →
    Steps bay ask (Share row id want) slot (share_granted_lock bay slot ask id want)
shared_lock bay slot ask row id want m n = record {
  read_rises = omega arith;
  write_rises = omega arith;
  read_covered = λ k h. absurd (let bad : None ≡ Some k = rw m at h in cc);
  write_covered = λ k h. absurd (let bad : None ≡ Some k = h in cc);
  life_shown = λ l h. cc;
  note_comes = λ note h. h;
  readers_stand = tt;
}

shared_order : (bay : Bay) (slot : Slot) (ask : Ask) (row : RowNo) (id : Number) (want : Bool) → bay.mode ≡ Order →
    Steps bay ask (Share row id want) slot (share_granted_order bay slot id want)
shared_order bay slot ask row id want m = record {
  read_rises = omega arith;
  write_rises = omega arith;
  read_covered = λ k h. let same : Some id ≡ Some k = rw m at h in let e : id ≡ k = cc in rw (← e) (omega arith);
  write_covered = λ k h. absurd (let bad : None ≡ Some k = h in cc);
  life_shown = λ l h. cc;
  note_comes = λ note h. h;
  readers_stand = tt;
}

step_share_lock : (bay : Bay) (slot : Slot) (ask : Ask) (row : RowNo) (id : Number) (want fails : Bool) (note : Option Note) (reader : Option Reader) → bay.mode ≡ Lock → slot.note ≡ note →
    Steps bay ask (Share row id want) slot (share_lock bay slot ask id want fails note reader)
step_share_lock bay slot ask row id want fails (Some note) reader m n = said bay ask _ slot (Busy note) refl refl
step_share_lock bay slot ask row id want fails None (Some reader) m n = said bay ask _ slot (Busy (reader_note reader)) refl refl
step_share_lock bay slot ask row id want fails None None m n = read_step bay ask _ slot want fails _ (shared_lock bay slot ask row id want m n)

step_share_unnoted : (bay : Bay) (slot : Slot) (ask : Ask) (row : RowNo) (id : Number) (want fails : Bool) → bay.mode ≡ Order →
    Steps bay ask (Share row id want) slot (share_unnoted bay slot id want fails)
step_share_unnoted bay slot ask row id want fails m =
    if_step bay ask _ slot _ _ (nat_lt id.0 slot.write_no.0) (said bay ask _ slot (Late slot.write_no) refl refl) (read_step bay ask _ slot want fails _ (shared_order bay slot ask row id want m))

step_share_order : (bay : Bay) (slot : Slot) (ask : Ask) (row : RowNo) (id : Number) (want fails : Bool) (note : Option Note) → bay.mode ≡ Order →
    Steps bay ask (Share row id want) slot (share_order bay slot id want fails note)
step_share_order bay slot ask row id want fails None m = step_share_unnoted bay slot ask row id want fails m
step_share_order bay slot ask row id want fails (Some note) m =
    if_step bay ask _ slot _ _ (nat_lt note.origin.0 id.0) (said bay ask _ slot (Busy note) refl refl) (step_share_unnoted bay slot ask row id want fails m)

step_share_by : (mode : Mode) (bay : Bay) (slot : Slot) (ask : Ask) (row : RowNo) (id : Number) (want fails : Bool) → bay.mode ≡ mode →
    Steps bay ask (Share row id want) slot (share_by mode bay slot ask id want fails)
step_share_by Lock bay slot ask row id want fails m = step_share_lock bay slot ask row id want fails slot.note (find (is_same_host ask id) slot.readers) m refl
step_share_by Order bay slot ask row id want fails m = step_share_order bay slot ask row id want fails slot.note m

step_share_at : (bay : Bay) (slot : Slot) (ask : Ask) (row : RowNo) (id : Number) (want fails : Bool) (floor : Option Number) →
    Steps bay ask (Share row id want) slot (share_at bay slot ask id want fails floor)
step_share_at bay slot ask row id want fails (Some floor) = said bay ask _ slot (Missing floor) refl refl
step_share_at bay slot ask row id want fails None = step_share_by bay.mode bay slot ask row id want fails refl

pub step_share : (bay : Bay) (slot : Slot) (ask : Ask) (row : RowNo) (id : Number) (want fails : Bool) → Steps bay ask (Share row id want) slot (share_rule bay slot ask id want fails)
step_share bay slot ask row id want fails = step_share_at bay slot ask row id want fails (missing_floor bay slot)

-- Claim
claimed_plain : (bay : Bay) (slot : Slot) (ask : Ask) (row : RowNo) (id : Number) (mask : ℕ) (want : Bool) → slot.note ≡ None → find (λ reader. not (is_reader id reader)) slot.readers ≡ None →
    Steps bay ask (Claim row id Plain mask want) slot (claim_granted bay slot ask id mask want)
claimed_plain bay slot ask row id mask want n r = record {
  read_rises = omega arith;
  write_rises = omega arith;
  read_covered = λ k h. absurd (let bad : None ≡ Some k = h in cc);
  write_covered = λ k h. absurd (let bad : None ≡ Some k = h in cc);
  life_shown = λ l h. cc;
  note_comes = λ note h. (let same : note ≡ claimed_note ask id mask None = cc in same, sym n);
  readers_stand = r;
}

claimed_mend : (bay : Bay) (slot : Slot) (ask : Ask) (row : RowNo) (id : Number) (mask : ℕ) (want : Bool) → slot.note ≡ None → find (λ reader. not (is_reader id reader)) slot.readers ≡ None →
    Steps bay ask (Claim row id Mend mask want) slot (claim_granted bay slot ask id mask want)
claimed_mend bay slot ask row id mask want n r = record {
  read_rises = omega arith;
  write_rises = omega arith;
  read_covered = λ k h. absurd (let bad : None ≡ Some k = h in cc);
  write_covered = λ k h. absurd (let bad : None ≡ Some k = h in cc);
  life_shown = λ l h. cc;
  note_comes = λ note h. (let same : note ≡ claimed_note ask id mask None = cc in same, sym n);
  readers_stand = r;
}

step_claim_noted : (bay : Bay) (slot : Slot) (ask : Ask) (row : RowNo) (id : Number) (mask : ℕ) (want fails : Bool) (note : Option Note) (reader : Option Reader) →
    slot.note ≡ note → find (λ reader. not (is_reader id reader)) slot.readers ≡ reader →
    Steps bay ask (Claim row id Plain mask want) slot (claim_noted bay slot ask id Plain mask want fails note reader)
step_claim_noted bay slot ask row id mask want fails (Some note) reader n r = said bay ask _ slot (Busy note) refl refl
step_claim_noted bay slot ask row id mask want fails None (Some reader) n r = said bay ask _ slot (Busy (reader_note reader)) refl refl
step_claim_noted bay slot ask row id mask want fails None None n r =
    if_step bay ask _ slot _ _ (is_late Plain bay.mode id slot) (said bay ask _ slot (Late (greater slot.read_no slot.write_no)) refl refl)
    (read_step bay ask _ slot want fails _ (claimed_plain bay slot ask row id mask want n r))

step_mend_noted : (bay : Bay) (slot : Slot) (ask : Ask) (row : RowNo) (id : Number) (mask : ℕ) (want fails : Bool) (note : Option Note) (reader : Option Reader) →
    slot.note ≡ note → find (λ reader. not (is_reader id reader)) slot.readers ≡ reader →
    Steps bay ask (Claim row id Mend mask want) slot (claim_noted bay slot ask id Mend mask want fails note reader)
step_mend_noted bay slot ask row id mask want fails (Some note) reader n r = said bay ask _ slot (Busy note) refl refl
step_mend_noted bay slot ask row id mask want fails None (Some reader) n r = said bay ask _ slot (Busy (reader_note reader)) refl refl
step_mend_noted bay slot ask row id mask want fails None None n r = read_step bay ask _ slot want fails _ (claimed_mend bay slot ask row id mask want n r)

step_claim_at : (bay : Bay) (slot : Slot) (ask : Ask) (row : RowNo) (id : Number) (mask : ℕ) (want fails : Bool) (floor : Option Number) →
    Steps bay ask (Claim row id Plain mask want) slot (claim_at bay slot ask id Plain mask want fails floor)
step_claim_at bay slot ask row id mask want fails (Some floor) = said bay ask _ slot (Missing floor) refl refl
step_claim_at bay slot ask row id mask want fails None = step_claim_noted bay slot ask row id mask want fails slot.note (find (λ reader. not (is_reader id reader)) slot.readers) refl refl

step_mend_at : (bay : Bay) (slot : Slot) (ask : Ask) (row : RowNo) (id : Number) (mask : ℕ) (want fails : Bool) (floor : Option Number) →
    Steps bay ask (Claim row id Mend mask want) slot (claim_at bay slot ask id Mend mask want fails floor)
step_mend_at bay slot ask row id mask want fails (Some floor) = said bay ask _ slot (Missing floor) refl refl
step_mend_at bay slot ask row id mask want fails None = step_mend_noted bay slot ask row id mask want fails slot.note (find (λ reader. not (is_reader id reader)) slot.readers) refl refl

-- Claim by seizure
seized_step : (bay : Bay) (slot : Slot) (ask : Ask) (row : RowNo) (id : Number) (mask : ℕ) (want : Bool) (old : Option Note) → slot.note ≡ old →
    Steps bay ask (Claim row id Seize mask want) slot (seize_granted bay slot ask id mask want old)
seized_step bay slot ask row id mask want None n = record {
  read_rises = omega arith;
  write_rises = omega arith;
  read_covered = λ k h. absurd (let bad : None ≡ Some k = h in cc);
  write_covered = λ k h. absurd (let bad : None ≡ Some k = h in cc);
  life_shown = λ l h. cc;
  note_comes = λ note h. (let same : note ≡ claimed_note ask id mask None = cc in same, sym n);
  readers_stand = refl;
}
seized_step bay slot ask row id mask want (Some old) n = record {
  read_rises = omega arith;
  write_rises = omega arith;
  read_covered = λ k h. absurd (let bad : None ≡ Some k = h in cc);
  write_covered = λ k h. absurd (let bad : None ≡ Some k = h in cc);
  life_shown = λ l h. cc;
  note_comes = λ note h. (let same : note ≡ claimed_note ask id mask (Some old) = cc in same, sym n);
  readers_stand = refl;
}

step_seize_unread : (bay : Bay) (slot : Slot) (ask : Ask) (row : RowNo) (id : Number) (mask : ℕ) (want fails : Bool) (reader : Option Reader) →
    Steps bay ask (Claim row id Seize mask want) slot (seize_unread bay slot ask id mask want fails reader)
step_seize_unread bay slot ask row id mask want fails (Some reader) = said bay ask _ slot (Young (reader_note reader)) refl refl
step_seize_unread bay slot ask row id mask want fails None = read_step bay ask _ slot want fails _ (seized_step bay slot ask row id mask want slot.note refl)

step_seize_blank : (bay : Bay) (slot : Slot) (ask : Ask) (row : RowNo) (id : Number) (mask : ℕ) (want fails : Bool) (floor : Option Number) (reader : Option Reader) →
    Steps bay ask (Claim row id Seize mask want) slot (seize_blank slot floor (seize_unread bay slot ask id mask want fails reader))
step_seize_blank bay slot ask row id mask want fails None reader = step_seize_unread bay slot ask row id mask want fails reader
step_seize_blank bay slot ask row id mask want fails (Some floor) reader = record {
  read_rises = omega arith;
  write_rises = omega arith;
  read_covered = λ k h. absurd (let bad : None ≡ Some k = h in cc);
  write_covered = λ k h. absurd (let bad : None ≡ Some k = h in cc);
  life_shown = λ l h. absurd (let bad : None ≡ Some l = h in cc);
  note_comes = λ note h. absurd (let bad : None ≡ Some note = h in cc);
  readers_stand = tt;
}

step_seize_noted : (bay : Bay) (slot : Slot) (ask : Ask) (row : RowNo) (id : Number) (mask : ℕ) (want fails : Bool) (young : Option Note) →
    Steps bay ask (Claim row id Seize mask want) slot (seize_noted bay slot ask id mask want fails young)
step_seize_noted bay slot ask row id mask want fails (Some note) = said bay ask _ slot (Young note) refl refl
step_seize_noted bay slot ask row id mask want fails None =
    step_seize_blank bay slot ask row id mask want fails (slot_floor slot slot.cell) (find (λ reader. not (may_seize bay ask reader.host reader.moment)) slot.readers)

pub step_claim : (bay : Bay) (slot : Slot) (ask : Ask) (row : RowNo) (id : Number) (how : How) (mask : ℕ) (want fails : Bool) →
    Steps bay ask (Claim row id how mask want) slot (claim_rule how bay slot ask id mask want fails)
step_claim bay slot ask row id Plain mask want fails = step_claim_at bay slot ask row id mask want fails (missing_floor bay slot)
step_claim bay slot ask row id Mend mask want fails = step_mend_at bay slot ask row id mask want fails (if bay.empty then Some bay.high else None)
step_claim bay slot ask row id Seize mask want fails =
    if_step bay ask _ slot _ _ bay.empty (said bay ask _ slot (Missing bay.high) refl refl) (step_seize_noted bay slot ask row id mask want fails (young_note bay ask slot.note))

-- Confirm
held : (bay : Bay) (slot : Slot) (ask : Ask) (row : RowNo) (id : Number) (want : Bool) (cell : Option Cell) → Steps bay ask (Confirm row id want) slot (keeps slot (Held cell))
held bay slot ask row id want cell = record {
  read_rises = omega arith;
  write_rises = omega arith;
  read_covered = λ k h. absurd (let bad : None ≡ Some k = h in cc);
  write_covered = λ k h. absurd (let bad : None ≡ Some k = h in cc);
  life_shown = λ l h. absurd (let bad : None ≡ Some l = h in cc);
  note_comes = λ note h. h;
  readers_stand = tt;
}

step_confirm_missing : (bay : Bay) (slot : Slot) (ask : Ask) (row : RowNo) (id : Number) (want : Bool) (floor : Option Number) → Steps bay ask (Confirm row id want) slot (confirm_missing bay slot floor)
step_confirm_missing bay slot ask row id want (Some floor) = said bay ask _ slot (Missing floor) refl refl
step_confirm_missing bay slot ask row id want None = no_note bay ask _ slot

pub step_confirm : (bay : Bay) (slot : Slot) (ask : Ask) (row : RowNo) (id : Number) (want fails : Bool) → Steps bay ask (Confirm row id want) slot (confirm_rule bay slot id want fails)
step_confirm bay slot ask row id want fails =
    if_step bay ask _ slot _ _ (note_id slot.note id) (read_step bay ask _ slot want fails _ (held bay slot ask row id want (wanted_cell want slot))) (step_confirm_missing bay slot ask row id want (missing_floor bay slot))

-- Put
put_step : (bay : Bay) (slot : Slot) (ask : Ask) (row : RowNo) (id n : Number) (cell : Cell) → Steps bay ask (Put row id n cell) slot (put_done slot id n cell)
put_step bay slot ask row id n cell = record {
  read_rises = omega arith;
  write_rises = omega arith;
  read_covered = λ k h. absurd (let bad : None ≡ Some k = h in cc);
  write_covered = λ k h. let e : n ≡ k = cc in rw (← e) (omega arith);
  life_shown = λ l h. absurd (let bad : None ≡ Some l = h in cc);
  note_comes = λ note h. absurd (let bad : None ≡ Some note = h in cc);
  readers_stand = tt;
}

pub step_put : (bay : Bay) (slot : Slot) (ask : Ask) (row : RowNo) (id n : Number) (cell : Cell) (fails : Bool) → Steps bay ask (Put row id n cell) slot (put_rule bay slot id n cell fails)
step_put bay slot ask row id n cell fails =
    if_step bay ask _ slot _ _ (note_id slot.note id)
    (if_step bay ask _ slot _ _ fails (said bay ask _ slot Fault refl refl) (put_step bay slot ask row id n cell))
    (no_note bay ask _ slot)

-- Release
read_at-rises : (slot : Slot) (n : Option Number) → slot.read_no.0 ≤ (read_at slot n).0
read_at-rises slot None = omega arith
read_at-rises slot (Some n) = omega arith

read_at-covers : (slot : Slot) (n : Option Number) (k : Number) → n ≡ Some k → k.0 ≤ (read_at slot n).0
read_at-covers slot None k h = absurd (let bad : None ≡ Some k = h in cc)
read_at-covers slot (Some n) k h = let e : n ≡ k = cc in rw (← e) (omega arith)

released_by : (slot : Slot) (id : Number) (n : Option Number) (k : Number) (b : Bool) → (if b then None else n) ≡ Some k → k.0 ≤ (read_at slot n).0
released_by slot id n k true h = absurd (let bad : None ≡ Some k = h in cc)
released_by slot id n k false h = read_at-covers slot n k h

or_right : (a b : Bool) → b ≡ true → (a || b) ≡ true
or_right true b e = refl
or_right false b e = e

release_note : (bay : Bay) (slot : Slot) (ask : Ask) (row : RowNo) (id : Number) (n : Option Number) → note_id slot.note id ≡ true →
    Steps bay ask (Release row id n) slot (record { reply = Done; slot = record slot { note = None } })
release_note bay slot ask row id n e = record {
  read_rises = omega arith;
  write_rises = omega arith;
  read_covered = λ k h. absurd (let bad : None ≡ Some k = rw e at h in cc);
  write_covered = λ k h. absurd (let bad : None ≡ Some k = h in cc);
  life_shown = λ l h. absurd (let bad : None ≡ Some l = h in cc);
  note_comes = λ note h. absurd (let bad : None ≡ Some note = h in cc);
  readers_stand = rw e refl;
}

step_release_reader : (bay : Bay) (slot : Slot) (ask : Ask) (row : RowNo) (id : Number) (n : Option Number) (reader : Option Reader) → find (is_reader id) slot.readers ≡ reader →
    Steps bay ask (Release row id n) slot (release_reader bay slot id n reader)
step_release_reader bay slot ask row id n None r = no_note bay ask _ slot
step_release_reader bay slot ask row id n (Some reader) r = record {
  read_rises = read_at-rises slot n;
  write_rises = omega arith;
  read_covered = λ k h. released_by slot id n k (note_id slot.note id) h;
  write_covered = λ k h. absurd (let bad : None ≡ Some k = h in cc);
  life_shown = λ l h. absurd (let bad : None ≡ Some l = h in cc);
  note_comes = λ note h. h;
  readers_stand = or_right (note_id slot.note id) _ (ap (λ (x : Option Reader). is_some x) r);
}

step_release_by : (bay : Bay) (slot : Slot) (ask : Ask) (row : RowNo) (id : Number) (n : Option Number) (b : Bool) → note_id slot.note id ≡ b →
    Steps bay ask (Release row id n) slot (if b then record { reply = Done; slot = record slot { note = None } } else release_reader bay slot id n (find (is_reader id) slot.readers))
step_release_by bay slot ask row id n true e = release_note bay slot ask row id n e
step_release_by bay slot ask row id n false e = step_release_reader bay slot ask row id n (find (is_reader id) slot.readers) refl

pub step_release : (bay : Bay) (slot : Slot) (ask : Ask) (row : RowNo) (id : Number) (n : Option Number) → Steps bay ask (Release row id n) slot (release_rule bay slot id n)
step_release bay slot ask row id n = step_release_by bay slot ask row id n _ refl
