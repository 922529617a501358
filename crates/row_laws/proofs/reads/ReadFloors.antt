-- The floor that a missing slot tells, whatever was asked: the bay's high number where its device is lost, and else the slot's
-- write number.
use Rattle.std.proofs.Common.{◌≡◌, inr, refl, ap, ◌∙◌, nat_lt, Bool, true, false, if◌then◌else◌, find, Option, Some, None}
use Rattle.raid_base.specs.declared.numbers.Number.{Number}
use Rattle.raid_base.specs.declared.cells.Cell.{Cell}
use Rattle.raid_base.specs.declared.messages.Ask.{Ask}
use Rattle.raid_base.specs.declared.messages.Mode.{Mode}
use Rattle.raid_base.specs.declared.messages.Mode.TheVariants.{Lock, Order}
use Rattle.raid_base.specs.declared.messages.Note.{Note}
use Rattle.raid_base.specs.declared.messages.Reply.{Reply}
use Rattle.raid_base.specs.declared.messages.Reply.TheVariants.{Busy, Late, Missing, Held, NoNote, Done, Fault}
use Rattle.raid_base.specs.declared.messages.Request.{Request}
use Rattle.raid_base.specs.declared.messages.Request.TheVariants.{Share, Claim, Confirm, Put, Release, Lose, Fit}
use Rattle.slot_rules.specs.declared.Reader.{Reader}
use Rattle.slot_rules.specs.Slots.{Slot, Bay}
use Rattle.slot_rules.specs.Rules.{keeps, wanted_cell, reads, missing_floor, note_id, is_reader, is_same_host, share_granted_lock, share_lock, share_granted_order, share_unnoted, share_order, share_by, share_at, confirm_missing, confirm_rule, put_done, put_rule, release_reader, release_rule}
use Rattle.slot_rules.specs.Serving.{slot_rule}
use Rattle.row_laws.proofs.numbers.RisingClaims.{IsFloor, NoFloor, none-floor, reads-none, floor-is, claim-floor}
use Rattle.row_laws.proofs.hands.SlotDoes.{IsGone, Does, Refuses, Closes, Grants, Shows, Holds, Puts, Frees, Leaves}

module _ (bay : Bay) (ask : Ask) (slot : Slot) (fails : Bool) where
  -- Share
  module _ (id : Number) (want : Bool) where
    lock-none : (note : Option Note) (other : Option Reader) → NoFloor bay ask slot (share_lock bay slot ask id want fails note other).reply
    lock-none (Some note) other floor e = absurd (cc)
    lock-none None (Some reader) floor e = absurd (cc)
    lock-none None None floor e = reads-none bay ask slot want fails (share_granted_lock bay slot ask id want) (λ k bad. absurd (cc)) floor e

    unnoted-none : NoFloor bay ask slot (share_unnoted bay slot id want fails).reply
    unnoted-none = by (nat_lt id.0 slot.write_no.0)
      where
        by : (b : Bool) → NoFloor bay ask slot (if b then keeps slot (Late slot.write_no) else reads want fails slot (share_granted_order bay slot id want)).reply
        by true floor e = absurd (cc)
        by false floor e = reads-none bay ask slot want fails (share_granted_order bay slot id want) (λ k bad. absurd (cc)) floor e

    order-none : (note : Option Note) → NoFloor bay ask slot (share_order bay slot id want fails note).reply
    order-none None = unnoted-none
    order-none (Some note) = by (nat_lt note.origin.0 id.0)
      where
        by : (b : Bool) → NoFloor bay ask slot (if b then keeps slot (Busy note) else share_unnoted bay slot id want fails).reply
        by true floor e = absurd (cc)
        by false floor e = unnoted-none floor e

    share-none : (mode : Mode) → NoFloor bay ask slot (share_by mode bay slot ask id want fails).reply
    share-none Lock = lock-none slot.note (find (is_same_host ask id) slot.readers)
    share-none Order = order-none slot.note

    share-floor : (o : Option Number) → missing_floor bay slot ≡ o → IsFloor bay ask slot (share_at bay slot ask id want fails o).reply
    share-floor (Some k) is floor e = let same : k ≡ floor = cc in floor-is bay ask slot bay.empty refl slot.cell floor (is ∙ ap (λ (x : Number). Some x) same)
    share-floor None is floor e = absurd (share-none bay.mode floor e)

    -- Confirm
    confirm-gone : (o : Option Number) → missing_floor bay slot ≡ o → IsFloor bay ask slot (confirm_missing bay slot o).reply
    confirm-gone (Some k) is floor e = let same : k ≡ floor = cc in floor-is bay ask slot bay.empty refl slot.cell floor (is ∙ ap (λ (x : Number). Some x) same)
    confirm-gone None is floor e = absurd (cc)

    confirm-floor : IsFloor bay ask slot (confirm_rule bay slot id want fails).reply
    confirm-floor = by (note_id slot.note id)
      where
        by : (b : Bool) → IsFloor bay ask slot (if b then reads want fails slot (keeps slot (Held (wanted_cell want slot))) else confirm_missing bay slot (missing_floor bay slot)).reply
        by true floor e = absurd (reads-none bay ask slot want fails (keeps slot (Held (wanted_cell want slot))) (λ k bad. absurd (cc)) floor e)
        by false floor e = confirm-gone (missing_floor bay slot) refl floor e

  -- Put and Release
  put-none : (id n : Number) (cell : Cell) → NoFloor bay ask slot (put_rule bay slot id n cell fails).reply
  put-none id n cell = by (note_id slot.note id) fails
    where
      by : (b c : Bool) → NoFloor bay ask slot (if b then (if c then keeps slot Fault else put_done slot id n cell) else keeps slot (NoNote bay.life)).reply
      by true true floor e = absurd (cc)
      by true false floor e = absurd (cc)
      by false c floor e = absurd (cc)

  left-none : (id : Number) (n : Option Number) (reader : Option Reader) → NoFloor bay ask slot (release_reader bay slot id n reader).reply
  left-none id n None floor e = absurd (cc)
  left-none id n (Some reader) floor e = absurd (cc)

  release-none : (id : Number) (n : Option Number) → NoFloor bay ask slot (release_rule bay slot id n).reply
  release-none id n = by (note_id slot.note id)
    where
      by : (b : Bool) → NoFloor bay ask slot (if b then record { reply = Done; slot = record slot { note = None } } else release_reader bay slot id n (find (is_reader id) slot.readers)).reply
      by true floor e = absurd (cc)
      by false floor e = left-none id n (find (is_reader id) slot.readers) floor e

  pub rule-floor : (what : Request) → IsFloor bay ask slot (slot_rule bay slot ask fails what).reply
  rule-floor (Share row id want) = share-floor id want (missing_floor bay slot) refl
  rule-floor (Claim row id how mask want) = claim-floor bay ask slot id mask want fails how
  rule-floor (Confirm row id want) = confirm-floor id want
  rule-floor (Put row id n cell) = none-floor bay ask slot (put_rule bay slot id n cell fails).reply (put-none id n cell)
  rule-floor (Release row id n) = none-floor bay ask slot (release_rule bay slot id n).reply (release-none id n)
  rule-floor Lose = λ floor e. absurd (cc)
  rule-floor Fit = λ floor e. absurd (cc)

-- a slot that answers so is gone
pub floor-gone : (bay : Bay) (ask : Ask) (slot : Slot) (floor : Number) (what : Request) (reply : Reply) (left : Slot) → Does bay ask slot what reply left → reply ≡ Missing floor → IsGone bay slot
floor-gone bay ask slot floor what reply left (Refuses r refused missing) e = missing floor e
floor-gone bay ask slot floor what reply left (Closes there none) e = inr none
floor-gone bay ask slot floor what reply left (Grants claims) e = let is = claims.reply in absurd (cc)
floor-gone bay ask slot floor what reply left (Shows shares) e = let is = shares.reply in absurd (cc)
floor-gone bay ask slot floor what reply left (Holds own) e = absurd (cc)
floor-gone bay ask slot floor what reply left (Puts own) e = absurd (cc)
floor-gone bay ask slot floor what reply left (Frees own) e = absurd (cc)
floor-gone bay ask slot floor what reply left (Leaves free reader found) e = absurd (cc)
