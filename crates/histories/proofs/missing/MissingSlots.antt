-- What a request of a row does to the cells of its bay: none goes, and one that is shown or put is there.
use Rattle.std.proofs.Common.{◌≡◌, ℕ, zero, suc, ◌<◌, ◌&&◌, Bool, true, false, if◌then◌else◌, not, nat_lt, find, List, [], ◌∷◌, length, Option, Some, None, is_some, slice_index_or, refl, sym, ap, subst, ◌∙◌}
use Rattle.std.specs.List.{slice_set}
use Rattle.std.proofs.lemmas.List.{get_or-set_same}
use Rattle.raid_base.specs.declared.numbers.Number.{Number}
use Rattle.raid_base.specs.declared.numbers.RowNo.{RowNo}
use Rattle.raid_base.specs.declared.cells.Cell.{Cell}
use Rattle.raid_base.specs.declared.messages.Mode.{Mode}
use Rattle.raid_base.specs.declared.messages.Mode.TheVariants.{Lock, Order}
use Rattle.raid_base.specs.declared.messages.How.{How}
use Rattle.raid_base.specs.declared.messages.How.TheVariants.{Plain, Seize, Mend}
use Rattle.raid_base.specs.declared.messages.Note.{Note}
use Rattle.raid_base.specs.declared.messages.Grant.{Grant}
use Rattle.raid_base.specs.declared.messages.Ask.{Ask}
use Rattle.raid_base.specs.declared.messages.Reply.{Reply}
use Rattle.raid_base.specs.declared.messages.Reply.TheVariants.{Busy, Late, Young, Missing, Held, NoNote, Done, Fault}
use Rattle.raid_base.specs.declared.messages.Request.{Request}
use Rattle.raid_base.specs.declared.messages.Request.TheVariants.{Share, Claim, Confirm, Put, Release, Lose, Fit}
use Rattle.raid_base.specs.Numbers.{number, greater}
use Rattle.raid_base.specs.Replies.{grant_of, is_done}
use Rattle.slot_rules.specs.declared.Reader.{Reader}
use Rattle.slot_rules.specs.Slots.{Slot, Bay, bare_slot, slot_of, reader_note}
use Rattle.slot_rules.specs.Rules.{SlotOutcome, Outcome, keeps, reads, wanted_cell, slot_floor, missing_floor, note_id, is_reader, may_seize, young_note, is_same_host, share_granted_lock, share_lock, share_granted_order, share_unnoted, share_order, share_by, share_at, share_rule, claim_granted, is_late, claim_noted, claim_at, seize_granted, seize_unread, seize_blank, seize_noted, claim_rule, confirm_missing, confirm_rule, put_done, release_reader, release_rule, fit_rule, rule_of, rule}
use Rattle.slot_rules.specs.Serving.{row_of, slot_rule}
use Rattle.slot_rules.proofs.TableParts.{rule_of-row}

-- a grant that shows a cell
abbrev pub has_cell : Option Grant → Bool
has_cell None = false
has_cell (Some grant) = is_some grant.cell

-- an answer to a claim that shows a cell, or to a put that is done
abbrev pub is_filled : Request → Reply → Bool
is_filled (Share row id want) reply = false
is_filled (Claim row id how mask want) reply = has_cell (grant_of reply)
is_filled (Confirm row id want) reply = false
is_filled (Put row id n cell) reply = is_done reply
is_filled (Release row id n) reply = false
is_filled Lose reply = false
is_filled Fit reply = false

-- what leaves the cell, and grants only the cell that is there
record Looks (slot : Slot) (o : SlotOutcome) : Type 0 where
  same : o.slot.cell ≡ slot.cell
  seen : has_cell (grant_of o.reply) ≡ true → is_some slot.cell ≡ true

says : (slot : Slot) (reply : Reply) → has_cell (grant_of reply) ≡ false → Looks slot (keeps slot reply)
says slot reply none = record { same = refl; seen = λ h. absurd (let bad : false ≡ true = sym none ∙ h in cc) }

looks-if : (slot : Slot) (b : Bool) (o p : SlotOutcome) → Looks slot o → Looks slot p → Looks slot (if b then o else p)
looks-if slot true o p x y = x
looks-if slot false o p x y = y

looks-read : (slot : Slot) (want fails : Bool) (o : SlotOutcome) → Looks slot o → Looks slot (reads want fails slot o)
looks-read slot want fails o x = looks-if slot (is_some (wanted_cell want slot) && fails) (keeps slot Fault) o (says slot Fault refl) x

wanted-there : (want : Bool) (slot : Slot) → is_some (wanted_cell want slot) ≡ true → is_some slot.cell ≡ true
wanted-there true slot h = h
wanted-there false slot h = absurd (let bad : false ≡ true = h in cc)

-- Share
share-looks-lock : (bay : Bay) (slot : Slot) (ask : Ask) (id : Number) (want fails : Bool) (note : Option Note) (reader : Option Reader) →
    Looks slot (share_lock bay slot ask id want fails note reader)
share-looks-lock bay slot ask id want fails (Some note) reader = says slot (Busy note) refl
share-looks-lock bay slot ask id want fails None (Some reader) = says slot (Busy (reader_note reader)) refl
share-looks-lock bay slot ask id want fails None None =
    looks-read slot want fails (share_granted_lock bay slot ask id want) (record { same = refl; seen = λ h. wanted-there want slot h })

share-looks-unnoted : (bay : Bay) (slot : Slot) (id : Number) (want fails : Bool) → Looks slot (share_unnoted bay slot id want fails)
share-looks-unnoted bay slot id want fails =
    looks-if slot (nat_lt id.0 slot.write_no.0) (keeps slot (Late slot.write_no)) (reads want fails slot (share_granted_order bay slot id want)) (says slot (Late slot.write_no) refl)
    (looks-read slot want fails (share_granted_order bay slot id want) (record { same = refl; seen = λ h. wanted-there want slot h }))

share-looks-order : (bay : Bay) (slot : Slot) (id : Number) (want fails : Bool) (note : Option Note) → Looks slot (share_order bay slot id want fails note)
share-looks-order bay slot id want fails None = share-looks-unnoted bay slot id want fails
share-looks-order bay slot id want fails (Some note) =
    looks-if slot (nat_lt note.origin.0 id.0) (keeps slot (Busy note)) (share_unnoted bay slot id want fails) (says slot (Busy note) refl) (share-looks-unnoted bay slot id want fails)

share-looks-by : (mode : Mode) (bay : Bay) (slot : Slot) (ask : Ask) (id : Number) (want fails : Bool) → Looks slot (share_by mode bay slot ask id want fails)
share-looks-by Lock bay slot ask id want fails = share-looks-lock bay slot ask id want fails slot.note (find (is_same_host ask id) slot.readers)
share-looks-by Order bay slot ask id want fails = share-looks-order bay slot id want fails slot.note

share-looks : (bay : Bay) (slot : Slot) (ask : Ask) (id : Number) (want fails : Bool) (floor : Option Number) → Looks slot (share_at bay slot ask id want fails floor)
share-looks bay slot ask id want fails (Some floor) = says slot (Missing floor) refl
share-looks bay slot ask id want fails None = share-looks-by bay.mode bay slot ask id want fails

-- Claim
claim-looks-noted : (bay : Bay) (slot : Slot) (ask : Ask) (id : Number) (how : How) (mask : ℕ) (want fails : Bool) (note : Option Note) (reader : Option Reader) →
    Looks slot (claim_noted bay slot ask id how mask want fails note reader)
claim-looks-noted bay slot ask id how mask want fails (Some note) reader = says slot (Busy note) refl
claim-looks-noted bay slot ask id how mask want fails None (Some reader) = says slot (Busy (reader_note reader)) refl
claim-looks-noted bay slot ask id how mask want fails None None =
    looks-if slot (is_late how bay.mode id slot) (keeps slot (Late (greater slot.read_no slot.write_no))) (reads want fails slot (claim_granted bay slot ask id mask want))
    (says slot (Late (greater slot.read_no slot.write_no)) refl)
    (looks-read slot want fails (claim_granted bay slot ask id mask want) (record { same = refl; seen = λ h. wanted-there want slot h }))

claim-looks-at : (bay : Bay) (slot : Slot) (ask : Ask) (id : Number) (how : How) (mask : ℕ) (want fails : Bool) (floor : Option Number) →
    Looks slot (claim_at bay slot ask id how mask want fails floor)
claim-looks-at bay slot ask id how mask want fails (Some floor) = says slot (Missing floor) refl
claim-looks-at bay slot ask id how mask want fails None =
    claim-looks-noted bay slot ask id how mask want fails slot.note (find (λ reader. not (is_reader id reader)) slot.readers)

seize-looks-granted : (bay : Bay) (slot : Slot) (ask : Ask) (id : Number) (mask : ℕ) (want : Bool) (note : Option Note) → Looks slot (seize_granted bay slot ask id mask want note)
seize-looks-granted bay slot ask id mask want None = record { same = refl; seen = λ h. wanted-there want slot h }
seize-looks-granted bay slot ask id mask want (Some note) = record { same = refl; seen = λ h. wanted-there want slot h }

seize-looks-unread : (bay : Bay) (slot : Slot) (ask : Ask) (id : Number) (mask : ℕ) (want fails : Bool) (reader : Option Reader) →
    Looks slot (seize_unread bay slot ask id mask want fails reader)
seize-looks-unread bay slot ask id mask want fails (Some reader) = says slot (Young (reader_note reader)) refl
seize-looks-unread bay slot ask id mask want fails None =
    looks-read slot want fails (seize_granted bay slot ask id mask want slot.note) (seize-looks-granted bay slot ask id mask want slot.note)

seize-looks-blank : (slot : Slot) (floor : Option Number) (o : SlotOutcome) → Looks slot o → Looks slot (seize_blank slot floor o)
seize-looks-blank slot (Some floor) o x = record { same = refl; seen = λ h. absurd (let bad : false ≡ true = h in cc) }
seize-looks-blank slot None o x = x

seize-looks-noted : (bay : Bay) (slot : Slot) (ask : Ask) (id : Number) (mask : ℕ) (want fails : Bool) (note : Option Note) →
    Looks slot (seize_noted bay slot ask id mask want fails note)
seize-looks-noted bay slot ask id mask want fails (Some note) = says slot (Young note) refl
seize-looks-noted bay slot ask id mask want fails None =
    seize-looks-blank slot (slot_floor slot slot.cell)
    (seize_unread bay slot ask id mask want fails (find (λ reader. not (may_seize bay ask reader.host reader.moment)) slot.readers))
    (seize-looks-unread bay slot ask id mask want fails (find (λ reader. not (may_seize bay ask reader.host reader.moment)) slot.readers))

claim-looks : (how : How) (bay : Bay) (slot : Slot) (ask : Ask) (id : Number) (mask : ℕ) (want fails : Bool) → Looks slot (claim_rule how bay slot ask id mask want fails)
claim-looks Plain bay slot ask id mask want fails = claim-looks-at bay slot ask id Plain mask want fails (missing_floor bay slot)
claim-looks Mend bay slot ask id mask want fails = claim-looks-at bay slot ask id Mend mask want fails (if bay.empty then Some bay.high else None)
claim-looks Seize bay slot ask id mask want fails =
    looks-if slot bay.empty (keeps slot (Missing bay.high)) (seize_noted bay slot ask id mask want fails (young_note bay ask slot.note)) (says slot (Missing bay.high) refl)
    (seize-looks-noted bay slot ask id mask want fails (young_note bay ask slot.note))

-- Confirm and release
missing-looks : (bay : Bay) (slot : Slot) (floor : Option Number) → Looks slot (confirm_missing bay slot floor)
missing-looks bay slot (Some floor) = says slot (Missing floor) refl
missing-looks bay slot None = says slot (NoNote bay.life) refl

confirm-looks : (bay : Bay) (slot : Slot) (id : Number) (want fails : Bool) → Looks slot (confirm_rule bay slot id want fails)
confirm-looks bay slot id want fails =
    looks-if slot (note_id slot.note id) (reads want fails slot (keeps slot (Held (wanted_cell want slot)))) (confirm_missing bay slot (missing_floor bay slot))
    (looks-read slot want fails (keeps slot (Held (wanted_cell want slot))) (says slot (Held (wanted_cell want slot)) refl))
    (missing-looks bay slot (missing_floor bay slot))

reader-looks : (bay : Bay) (slot : Slot) (id : Number) (n : Option Number) (reader : Option Reader) → Looks slot (release_reader bay slot id n reader)
reader-looks bay slot id n None = says slot (NoNote bay.life) refl
reader-looks bay slot id n (Some reader) = record { same = refl; seen = λ h. absurd (let bad : false ≡ true = h in cc) }

release-looks : (bay : Bay) (slot : Slot) (id : Number) (n : Option Number) → Looks slot (release_rule bay slot id n)
release-looks bay slot id n =
    looks-if slot (note_id slot.note id) (record { reply = Done; slot = record slot { note = None } }) (release_reader bay slot id n (find (is_reader id) slot.readers))
    (record { same = refl; seen = λ h. absurd (let bad : false ≡ true = h in cc) }) (reader-looks bay slot id n (find (is_reader id) slot.readers))

-- One slot: what was there stays, and what is filled is there
record Fills (what : Request) (slot : Slot) (o : SlotOutcome) : Type 0 where
  kept : is_some slot.cell ≡ true → is_some o.slot.cell ≡ true
  filled : is_filled what o.reply ≡ true → is_some o.slot.cell ≡ true

looked : (what : Request) (slot : Slot) (o : SlotOutcome) → Looks slot o → (is_filled what o.reply ≡ true → has_cell (grant_of o.reply) ≡ true) → Fills what slot o
looked what slot o x more =
    let there : is_some slot.cell ≡ is_some o.slot.cell = ap (λ cell. is_some cell) (sym x.same) in
    record { kept = λ h. sym there ∙ h; filled = λ h. sym there ∙ x.seen (more h) }

put-fills : (bay : Bay) (slot : Slot) (row : RowNo) (id n : Number) (cell : _) (fails noted : Bool) →
    Fills (Put row id n cell) slot (if noted then (if fails then keeps slot Fault else put_done slot id n cell) else keeps slot (NoNote bay.life))
put-fills bay slot row id n cell true true = record { kept = λ h. h; filled = λ h. absurd (let bad : false ≡ true = h in cc) }
put-fills bay slot row id n cell false true = record { kept = λ h. refl; filled = λ h. refl }
put-fills bay slot row id n cell fails false = record { kept = λ h. h; filled = λ h. absurd (let bad : false ≡ true = h in cc) }

no-fill : {X : Type 0} → false ≡ true → X
no-fill h = absurd (cc)

slot-fills : (bay : Bay) (slot : Slot) (ask : Ask) (fails : Bool) (what : Request) → Fills what slot (slot_rule bay slot ask fails what)
slot-fills bay slot ask fails (Share row id want) =
    looked (Share row id want) slot (share_rule bay slot ask id want fails) (share-looks bay slot ask id want fails (missing_floor bay slot)) (λ h. no-fill h)
slot-fills bay slot ask fails (Claim row id how mask want) =
    looked (Claim row id how mask want) slot (claim_rule how bay slot ask id mask want fails) (claim-looks how bay slot ask id mask want fails) (λ h. h)
slot-fills bay slot ask fails (Confirm row id want) =
    looked (Confirm row id want) slot (confirm_rule bay slot id want fails) (confirm-looks bay slot id want fails) (λ h. no-fill h)
slot-fills bay slot ask fails (Put row id n cell) = put-fills bay slot row id n cell fails (note_id slot.note id)
slot-fills bay slot ask fails (Release row id n) =
    looked (Release row id n) slot (release_rule bay slot id n) (release-looks bay slot id n) (λ h. no-fill h)
slot-fills bay slot ask fails Lose = record { kept = λ h. h; filled = λ h. no-fill h }
slot-fills bay slot ask fails Fit = record { kept = λ h. h; filled = λ h. no-fill h }

-- The slots of a bay
set-keeps : (slots : List Slot) (r row : ℕ) (new d : Slot) → (is_some (slice_index_or slots r d).cell ≡ true → is_some new.cell ≡ true) →
    is_some (slice_index_or slots row d).cell ≡ true → is_some (slice_index_or (slice_set slots r new) row d).cell ≡ true
set-keeps [] r row new d more there = there
set-keeps (s ∷ slots) zero zero new d more there = more there
set-keeps (s ∷ slots) zero (suc row) new d more there = there
set-keeps (s ∷ slots) (suc r) zero new d more there = there
set-keeps (s ∷ slots) (suc r) (suc row) new d more there = set-keeps slots r row new d more there

row-keeps : (bay : Bay) (ask : Ask) (fails : Bool) (what : Request) (r row : RowNo) → row_of what ≡ Some r → is_some (slot_of bay row).cell ≡ true →
    is_some (slot_of (rule_of bay ask fails what).bay row).cell ≡ true
row-keeps bay ask fails what r row is there =
    subst (λ (o : Outcome). is_some (slot_of o.bay row).cell ≡ true) (sym (rule_of-row bay ask fails what r is))
    (set-keeps bay.slots r.0 row.0 (slot_rule bay (slot_of bay r) ask fails what).slot (bare_slot (number 0)) (slot-fills bay (slot_of bay r) ask fails what).kept there)

-- a request of a row takes no cell away
pub cells-stay : (bay : Bay) (ask : Ask) (fails : Bool) (what : Request) (row : RowNo) → is_some (row_of what) ≡ true → is_some (slot_of bay row).cell ≡ true →
    is_some (slot_of (rule_of bay ask fails what).bay row).cell ≡ true
cells-stay bay ask fails what row rowed there = by (row_of what) refl rowed
  where
    by : (r : Option RowNo) → row_of what ≡ r → is_some r ≡ true → is_some (slot_of (rule_of bay ask fails what).bay row).cell ≡ true
    by None is some = no-fill some
    by (Some r) is some = row-keeps bay ask fails what r row is there

-- and a slot that is filled has one
pub filled-there : (bay : Bay) (ask : Ask) (fails : Bool) (what : Request) (row : RowNo) → row_of what ≡ Some row → row.0 < length bay.slots →
    is_filled what (rule_of bay ask fails what).reply ≡ true → is_some (slot_of (rule_of bay ask fails what).bay row).cell ≡ true
filled-there bay ask fails what row is within =
    let o : SlotOutcome = slot_rule bay (slot_of bay row) ask fails what in
    subst (λ (x : Outcome). is_filled what x.reply ≡ true → is_some (slot_of x.bay row).cell ≡ true) (sym (rule_of-row bay ask fails what row is))
    (λ h. subst (λ (s : Slot). is_some s.cell ≡ true) (sym (get_or-set_same bay.slots row.0 o.slot (bare_slot (number 0)) within)) ((slot-fills bay (slot_of bay row) ask fails what).filled h))

-- a request of a row leaves the device, and once one was fitted it is there
pub device-stays : (bay : Bay) (ask : Ask) (fails : Bool) (what : Request) → is_some (row_of what) ≡ true → (rule_of bay ask fails what).bay.empty ≡ bay.empty
device-stays bay ask fails (Share row id want) rowed = refl
device-stays bay ask fails (Claim row id how mask want) rowed = refl
device-stays bay ask fails (Confirm row id want) rowed = refl
device-stays bay ask fails (Put row id n cell) rowed = refl
device-stays bay ask fails (Release row id n) rowed = refl
device-stays bay ask fails Lose rowed = no-fill rowed
device-stays bay ask fails Fit rowed = no-fill rowed

pub fitted-there : (bay : Bay) (b : Bool) → bay.empty ≡ b → (fit_rule bay b).bay.empty ≡ true → ⊥
fitted-there bay true e h = no-fill h
fitted-there bay false e h = no-fill (sym e ∙ h)

-- what a claim to mend finds where the device is there: the slot is not missing, and where it has a cell the grant shows it
pub record Mendable (slot : Slot) (reply : Reply) : Type 0 where
  pub present : (floor : Number) → reply ≡ Missing floor → ⊥
  pub shown : (grant : Grant) → grant_of reply ≡ Some grant → is_some slot.cell ≡ true → is_some grant.cell ≡ true

abbrev cell_of : Option Grant → Option Cell
cell_of None = None
cell_of (Some grant) = grant.cell

unshown : (slot : Slot) (reply : Reply) → grant_of reply ≡ None → ((floor : Number) → reply ≡ Missing floor → ⊥) → Mendable slot reply
unshown slot reply none there = record { present = there; shown = λ grant e. absurd (let both : None ≡ Some grant = sym none ∙ e in cc) }

mend-read : (bay : Bay) (slot : Slot) (ask : Ask) (id : Number) (mask : ℕ) (b : Bool) → Mendable slot (if b then keeps slot Fault else claim_granted bay slot ask id mask true).reply
mend-read bay slot ask id mask true = unshown slot Fault refl (λ floor e. cc)
mend-read bay slot ask id mask false = record {
  present = λ floor e. cc;
  shown = λ grant e there. (let same : slot.cell ≡ grant.cell = ap cell_of e in subst (λ (c : Option Cell). is_some c ≡ true) same there);
}

mend-noted : (bay : Bay) (slot : Slot) (ask : Ask) (id : Number) (mask : ℕ) (fails : Bool) (note : Option Note) (reader : Option Reader) →
    Mendable slot (claim_noted bay slot ask id Mend mask true fails note reader).reply
mend-noted bay slot ask id mask fails (Some note) reader = unshown slot (Busy note) refl (λ floor e. cc)
mend-noted bay slot ask id mask fails None (Some reader) = unshown slot (Busy (reader_note reader)) refl (λ floor e. cc)
mend-noted bay slot ask id mask fails None None = mend-read bay slot ask id mask (is_some (wanted_cell true slot) && fails)

pub mends-there : (bay : Bay) (ask : Ask) (fails : Bool) (row : RowNo) (id : Number) (mask : ℕ) → ask.what ≡ Claim row id Mend mask true → bay.empty ≡ false →
    Mendable (slot_of bay row) (rule bay ask fails).reply
mends-there bay ask fails row id mask what there =
    subst (λ (w : Request). Mendable (slot_of bay row) (rule_of bay ask fails w).reply) (sym what)
    (subst (λ (b : Bool). Mendable (slot_of bay row) (claim_at bay (slot_of bay row) ask id Mend mask true fails (if b then Some bay.high else None)).reply) (sym there)
    (mend-noted bay (slot_of bay row) ask id mask fails (slot_of bay row).note (find (λ reader. not (is_reader id reader)) (slot_of bay row).readers)))
