-- What a reply shows of its slot's numbers is at most these numbers, or the bay's high number while its device is lost.
use Rattle.std.proofs.Common.{◌≡◌, ◌⊎◌, inl, inr, refl, sym, ap, subst, ◌∙◌, ℕ, ◌<◌, ◌≤◌, ◌==◌, ◌&&◌, max, nat_lt, Bool, true, false, not, if◌then◌else◌, List, [], ◌∷◌, find, length, Option, Some, None, is_some, arith}
use Rattle.std.specs.List.{AllByRecursion}
use Rattle.std.proofs.lemmas.Bool.{and_parts}
use Rattle.raid_base.specs.declared.numbers.BayNo.{BayNo}
use Rattle.raid_base.specs.declared.numbers.RowNo.{RowNo}
use Rattle.raid_base.specs.declared.numbers.Number.{Number}
use Rattle.raid_base.specs.declared.cells.Cell.{Cell}
use Rattle.raid_base.specs.declared.messages.Mode.{Mode}
use Rattle.raid_base.specs.declared.messages.Mode.TheVariants.{Lock, Order}
use Rattle.raid_base.specs.declared.messages.How.{How}
use Rattle.raid_base.specs.declared.messages.How.TheVariants.{Plain, Seize, Mend}
use Rattle.raid_base.specs.declared.messages.Note.{Note}
use Rattle.raid_base.specs.declared.messages.Ask.{Ask}
use Rattle.raid_base.specs.declared.messages.Call.{Call}
use Rattle.raid_base.specs.declared.messages.Reply.{Reply}
use Rattle.raid_base.specs.declared.messages.Reply.TheVariants as replies
use Rattle.raid_base.specs.declared.messages.Reply.TheVariants.{Late, Missing, Fault}
use Rattle.raid_base.specs.declared.messages.Request.{Request}
use Rattle.raid_base.specs.declared.messages.Request.TheVariants.{Share, Claim, Confirm, Put, Release, Lose, Fit}
use Rattle.raid_base.specs.Numbers.{greater}
use Rattle.raid_base.specs.Replies.{is_fault}
use Rattle.slot_rules.specs.declared.Reader.{Reader}
use Rattle.slot_rules.specs.Slots.{Slot, Bay, slot_of}
use Rattle.slot_rules.specs.Rules.{SlotOutcome, Outcome, keeps, wanted_cell, reads, granted, slot_floor, missing_floor, may_seize, note_id, is_reader, share_granted_lock, share_lock, share_granted_order, share_unnoted, share_order, is_same_host, share_by, share_at, claim_granted, is_late, claim_free, claim_noted, claim_at, seize_granted, seize_unread, seize_blank, young_note, seize_noted, claim_rule, confirm_missing, confirm_rule, put_done, put_rule, release_reader, release_rule, rule}
use Rattle.slot_rules.specs.Serving.{row_of, slot_rule}
use Rattle.slot_rules.specs.Laws.{is_row}
use Rattle.slot_rules.proofs.TableParts.{rule_of-row}
use Rattle.slot_rules.proofs.RowSteps.{RowStep, Touched, Passed, Bared, IsCapped, row_step, goes, capped}
use Rattle.script_text.specs.Script.{Script}
use Rattle.script_text.specs.Ranges.{IsScript}
use Rattle.histories.specs.Calls as calls
use Rattle.histories.specs.Calls.{is_at}
use Rattle.histories.specs.History.{IsHistory, bay_at, if_ruled}
use Rattle.row_laws.specs.Laws.{ShowsOfSlot, ShowsBelow, PutsAreAboveWhatWasShown}
use Rattle.histories.proofs.accesses.AccessCovers.{covers-all, written-as}
use Rattle.histories.proofs.steps.BayRows.{bay-rows}
use Rattle.histories.proofs.steps.SameNumbers.{same-bay}
use Rattle.row_laws.proofs.numbers.Risen.{put-low}
use Rattle.row_laws.proofs.numbers.RisenPuts.{put-as}

module _ (bay : Bay) (ask : Ask) (slot : Slot) where
  abbrev pub IsTold : Reply → Type 0
  IsTold reply = (m : Number) → ShowsOfSlot reply m → (m.0 ≤ max slot.read_no.0 slot.write_no.0) ⊎ ((bay.empty ≡ true) × (m.0 ≤ bay.high.0))

  told-if : (o p : SlotOutcome) (b : Bool) → IsTold o.reply → (b ≡ false → IsTold p.reply) → IsTold (if b then o else p).reply
  told-if o p true x y = x
  told-if o p false x y = y refl

  told-read : (want fails : Bool) (o : SlotOutcome) → IsTold o.reply → IsTold (reads want fails slot o).reply
  told-read want fails o x = told-if (keeps slot Fault) o (is_some (wanted_cell want slot) && fails) (λ m h. absurd h) (λ e. x)

  -- a grant shows both, a late request one of them
  told-grant : (want : Bool) (seized : Option Note) → IsTold (granted bay slot want seized)
  told-grant want seized m (inl e) = inl (let same : m.0 ≡ slot.read_no.0 = ap (λ (x : Number). x.0) e in omega (arith, same))
  told-grant want seized m (inr e) = inl (let same : m.0 ≡ slot.write_no.0 = ap (λ (x : Number). x.0) e in omega (arith, same))

  told-write : (m : Number) → m ≡ slot.write_no → m.0 ≤ max slot.read_no.0 slot.write_no.0
  told-write m e = let same : m.0 ≡ slot.write_no.0 = ap (λ (x : Number). x.0) e in omega (arith, same)

  greater-most : (a b : Number) → (greater a b).0 ≤ max a.0 b.0
  greater-most a b = omega arith

  told-late : IsTold (Late (greater slot.read_no slot.write_no))
  told-late m e = inl (subst (λ (x : Number). x.0 ≤ max slot.read_no.0 slot.write_no.0) (sym e) (greater-most slot.read_no slot.write_no))

  -- a missing slot its floor
  told-floor : (floor : Number) → missing_floor bay slot ≡ Some floor → IsTold (Missing floor)
  told-floor floor said m same = by bay.empty refl slot.cell said
    where
      by : (b : Bool) → bay.empty ≡ b → (c : Option Cell) → (if b then Some bay.high else slot_floor slot c) ≡ Some floor →
          (m.0 ≤ max slot.read_no.0 slot.write_no.0) ⊎ ((bay.empty ≡ true) × (m.0 ≤ bay.high.0))
      by true was c e =
          let high : bay.high ≡ floor = cc in
          inr (was, (let one : m.0 ≡ bay.high.0 = ap (λ (x : Number). x.0) (same ∙ sym high) in omega (arith, one)))
      by false was None e = let write : slot.write_no ≡ floor = cc in inl (told-write m (same ∙ sym write))
      by false was (Some cell) e = absurd (cc)

  told-high : (b : Bool) → bay.empty ≡ b → b ≡ true → IsTold (Missing bay.high)
  told-high b was e m same = inr (was ∙ e, (let one : m.0 ≡ bay.high.0 = ap (λ (x : Number). x.0) same in omega (arith, one)))

  -- Share
  module _ (id : Number) (want fails : Bool) where
    share-locks : (note : Option Note) (other : Option Reader) → IsTold (share_lock bay slot ask id want fails note other).reply
    share-locks (Some note) other = λ m h. absurd h
    share-locks None (Some reader) = λ m h. absurd h
    share-locks None None = told-read want fails (share_granted_lock bay slot ask id want) (told-grant want None)

    share-unnoted : IsTold (share_unnoted bay slot id want fails).reply
    share-unnoted = told-if (keeps slot (Late slot.write_no)) (reads want fails slot (share_granted_order bay slot id want)) (nat_lt id.0 slot.write_no.0)
        (λ m e. inl (told-write m e)) (λ e. told-read want fails (share_granted_order bay slot id want) (told-grant want None))

    share-orders : (note : Option Note) → IsTold (share_order bay slot id want fails note).reply
    share-orders None = share-unnoted
    share-orders (Some note) = told-if (keeps slot (replies.Busy note)) (share_unnoted bay slot id want fails) (nat_lt note.origin.0 id.0) (λ m h. absurd h) (λ e. share-unnoted)

    share-bys : (mode : Mode) → IsTold (share_by mode bay slot ask id want fails).reply
    share-bys Lock = share-locks slot.note (find (is_same_host ask id) slot.readers)
    share-bys Order = share-orders slot.note

    shares : (floor : Option Number) → missing_floor bay slot ≡ floor → IsTold (share_at bay slot ask id want fails floor).reply
    shares (Some floor) e = told-floor floor e
    shares None e = share-bys bay.mode

  -- Claim
  module _ (id : Number) (mask : ℕ) (want fails : Bool) where
    claim-frees : (how : How) → IsTold (claim_free bay slot ask id how mask want fails).reply
    claim-frees how = told-if (keeps slot (Late (greater slot.read_no slot.write_no))) (reads want fails slot (claim_granted bay slot ask id mask want)) (is_late how bay.mode id slot)
        told-late (λ e. told-read want fails (claim_granted bay slot ask id mask want) (told-grant want None))

    claim-noted : (how : How) (note : Option Note) (other : Option Reader) → IsTold (claim_noted bay slot ask id how mask want fails note other).reply
    claim-noted how (Some note) other = λ m h. absurd h
    claim-noted how None (Some reader) = λ m h. absurd h
    claim-noted how None None = claim-frees how

    claim-plain : (floor : Option Number) → missing_floor bay slot ≡ floor → IsTold (claim_at bay slot ask id Plain mask want fails floor).reply
    claim-plain (Some floor) e = told-floor floor e
    claim-plain None e = claim-noted Plain slot.note (find (λ reader. not (is_reader id reader)) slot.readers)

    claim-mend : (b : Bool) → bay.empty ≡ b → IsTold (claim_at bay slot ask id Mend mask want fails (if b then Some bay.high else None)).reply
    claim-mend true e = told-high true e refl
    claim-mend false e = claim-noted Mend slot.note (find (λ reader. not (is_reader id reader)) slot.readers)

    seize-grants : (note : Option Note) → IsTold (seize_granted bay slot ask id mask want note).reply
    seize-grants None = told-grant want None
    seize-grants (Some note) = told-grant want (Some note)

    seize-unread : (reader : Option Reader) → IsTold (seize_unread bay slot ask id mask want fails reader).reply
    seize-unread (Some reader) = λ m h. absurd h
    seize-unread None = told-read want fails (seize_granted bay slot ask id mask want slot.note) (seize-grants slot.note)

    seize-blank : (c : Option Cell) (reader : Option Reader) → IsTold (seize_blank slot (slot_floor slot c) (seize_unread bay slot ask id mask want fails reader)).reply
    seize-blank None reader = λ m e. inl (told-write m e)
    seize-blank (Some cell) reader = seize-unread reader

    seize-noted : (young : Option Note) → IsTold (seize_noted bay slot ask id mask want fails young).reply
    seize-noted (Some note) = λ m h. absurd h
    seize-noted None = seize-blank slot.cell (find (λ reader. not (may_seize bay ask reader.host reader.moment)) slot.readers)

    seizes : (b : Bool) → bay.empty ≡ b → IsTold (if b then keeps slot (Missing bay.high) else seize_noted bay slot ask id mask want fails (young_note bay ask slot.note)).reply
    seizes true e = told-high true e refl
    seizes false e = seize-noted (young_note bay ask slot.note)

    claims : (how : How) → IsTold (claim_rule how bay slot ask id mask want fails).reply
    claims Plain = claim-plain (missing_floor bay slot) refl
    claims Mend = claim-mend bay.empty refl
    claims Seize = seizes bay.empty refl

  -- Confirm, Put and Release
  confirms : (id : Number) (want fails : Bool) → IsTold (confirm_rule bay slot id want fails).reply
  confirms id want fails = told-if (reads want fails slot (keeps slot (replies.Held (wanted_cell want slot)))) (confirm_missing bay slot (missing_floor bay slot)) (note_id slot.note id)
      (told-read want fails (keeps slot (replies.Held (wanted_cell want slot))) (λ m h. absurd h)) (λ e. by (missing_floor bay slot) refl)
    where
      by : (floor : Option Number) → missing_floor bay slot ≡ floor → IsTold (confirm_missing bay slot floor).reply
      by (Some floor) e = told-floor floor e
      by None e = λ m h. absurd h

  puts : (id n : Number) (cell : Cell) (fails : Bool) → IsTold (put_rule bay slot id n cell fails).reply
  puts id n cell fails = told-if (if fails then keeps slot Fault else put_done slot id n cell) (keeps slot (replies.NoNote bay.life)) (note_id slot.note id)
      (told-if (keeps slot Fault) (put_done slot id n cell) fails (λ m h. absurd h) (λ e m h. absurd h)) (λ e m h. absurd h)

  releases : (id : Number) (n : Option Number) → IsTold (release_rule bay slot id n).reply
  releases id n = told-if (record { reply = replies.Done; slot = record slot { note = None } }) (release_reader bay slot id n (find (is_reader id) slot.readers)) (note_id slot.note id)
      (λ m h. absurd h) (λ e. by (find (is_reader id) slot.readers))
    where
      by : (reader : Option Reader) → IsTold (release_reader bay slot id n reader).reply
      by None = λ m h. absurd h
      by (Some reader) = λ m h. absurd h

  pub slot-tells : (fails : Bool) (what : Request) (row : RowNo) → row_of what ≡ Some row → IsTold (slot_rule bay slot ask fails what).reply
  slot-tells fails (Share r id want) row is = shares id want fails (missing_floor bay slot) refl
  slot-tells fails (Claim r id how mask want) row is = claims id mask want fails how
  slot-tells fails (Confirm r id want) row is = confirms id want fails
  slot-tells fails (Put r id n cell) row is = puts id n cell fails
  slot-tells fails (Release r id n) row is = releases id n
  slot-tells fails Lose row is = absurd (cc)
  slot-tells fails Fit row is = absurd (cc)

-- a number is covered: by the bay's high number always, and by one of the slot's while its device is there
abbrev pub CoversNumber : Bay → RowNo → Number → Type 0
CoversNumber bay row m = (m.0 ≤ bay.high.0) × (bay.empty ≡ false → m.0 ≤ max (slot_of bay row).read_no.0 (slot_of bay row).write_no.0)

module _ (bay after : Bay) (row : RowNo) (ask : Ask) (reply : Reply) (up : bay.high.0 ≤ after.high.0) where
  still-covered : (m : Number) → RowStep bay ask row reply after → CoversNumber bay row m → CoversNumber after row m
  still-covered m (Touched at step e c) h =
      (omega (arith, up, h.0), λ f. let low = h.1 (sym e ∙ f) in let read = step.read_rises in let write = step.write_rises in omega (arith, low, read, write))
  still-covered m (Passed same is e) h = (omega (arith, up, h.0), λ f. subst (λ (s : Slot). m.0 ≤ max s.read_no.0 s.write_no.0) (sym same) (h.1 (sym e ∙ f)))
  still-covered m (Bared k same is e z l) h =
      (omega (arith, up, h.0), λ f. subst (λ (s : Slot). m.0 ≤ max s.read_no.0 s.write_no.0) (sym same) (let low : m.0 ≤ k.0 = subst (λ (x : Number). m.0 ≤ x.0) (sym (e f)) h.0 in omega (arith, low)))

  now-covered : IsCapped after row → is_row row (row_of ask.what) ≡ true → RowStep bay ask row reply after → (row_of ask.what ≡ Some row → IsTold bay ask (slot_of bay row) reply) →
      (m : Number) → ShowsOfSlot reply m → CoversNumber after row m
  now-covered caps mine (Touched at step e c) told m shows = by (told at m shows)
    where
      by : (m.0 ≤ max (slot_of bay row).read_no.0 (slot_of bay row).write_no.0) ⊎ ((bay.empty ≡ true) × (m.0 ≤ bay.high.0)) → CoversNumber after row m
      by (inl low) =
          let read = step.read_rises in
          let write = step.write_rises in
          let high_read = caps.read in
          let high_write = caps.write in
          (omega (arith, low, read, write, high_read, high_write), λ f. omega (arith, low, read, write))
      by (inr (was, low)) = (omega (arith, low, up), λ f. absurd (let bad : true ≡ false = sym was ∙ sym e ∙ f in cc))
  now-covered caps mine (Passed same is e) told m shows = absurd (let bad : true ≡ false = sym mine ∙ is in cc)
  now-covered caps mine (Bared k same is e z l) told m shows = absurd (let bad : true ≡ false = sym mine ∙ is in cc)

all-calls : (P Q : Call → Type 0) (cs : List Call) → ((c : Call) → P c → Q c) → AllByRecursion P cs → AllByRecursion Q cs
all-calls P Q [] f h = tt
all-calls P Q (c ∷ cs) f h = (f c h.0, all-calls P Q cs f h.1)

module _ (script : Script) (is : IsScript script) (at : BayNo) (row : RowNo) (below : row.0 < script.rows) where
  abbrev pub AreCovered : Bay → Call → Type 0
  AreCovered bay c = is_at at row c ≡ true → (m : Number) → ShowsOfSlot c.answer.reply m → CoversNumber bay row m

  module _ (earlier : List Call) (call : Call) (along : IsHistory script (call ∷ earlier)) (before : AllByRecursion (AreCovered (bay_at script at earlier)) earlier) where
    abbrev bay : Bay
    bay = bay_at script at earlier

    abbrev fails : Bool
    fails = is_fault call.answer.reply

    abbrev after : Bay
    after = (rule bay call.ask fails).bay

    within : row.0 < length bay.slots
    within = let rows : length bay.slots ≡ script.rows = bay-rows script at earlier in omega (arith, rows, below)

    step : RowStep bay call.ask row (rule bay call.ask fails).reply after
    step = row_step bay call.ask fails row within

    up : bay.high.0 ≤ after.high.0
    up = (goes bay call.ask fails).high

    caps : IsCapped after row
    caps = capped bay call.ask fails row within (covers-all script is at row below earlier along.0).caps

    told : row_of call.ask.what ≡ Some row → IsTold bay call.ask (slot_of bay row) (rule bay call.ask fails).reply
    told of =
        subst (λ (r : Reply). IsTold bay call.ask (slot_of bay row) r) (sym (ap (λ (x : Outcome). x.reply) (rule_of-row bay call.ask fails call.ask.what row of)))
        (slot-tells bay call.ask (slot_of bay row) fails call.ask.what row of)

    reply-is : (call.bay.0 == at.0) ≡ true → call.answer.reply ≡ (rule bay call.ask fails).reply
    reply-is here =
        subst (λ (b : BayNo). call.answer.reply ≡ (rule (bay_at script b earlier) call.ask fails).reply) (same-bay call.bay at here) (ap (λ (x : Call). x.answer.reply) along.1.replied)

    mine : is_at at row call ≡ true → ((call.bay.0 == at.0) ≡ true) × (is_row row (row_of call.ask.what) ≡ true)
    mine h =
        let first = and_parts (call.bay.0 == at.0) (calls.is_row row (calls.row_of call.ask.what)) h in
        (first.0, first.1)

    covered-by : (b : Bool) → (call.bay.0 == at.0) ≡ b → AllByRecursion (AreCovered (if_ruled bay call b)) (call ∷ earlier)
    covered-by true here = (
      (λ h m shows.
          now-covered bay after row call.ask (rule bay call.ask fails).reply up caps (mine h).1 step told m
          (subst (λ (r : Reply). ShowsOfSlot r m) (reply-is here) shows)),
      all-calls (AreCovered bay) (AreCovered after) earlier
          (λ c old h m shows. still-covered bay after row call.ask (rule bay call.ask fails).reply up m step (old h m shows)) before,
    )
    covered-by false other = ((λ h. absurd (let bad : true ≡ false = sym (mine h).0 ∙ other in cc)), before)

    covered-next : AllByRecursion (AreCovered (bay_at script at (call ∷ earlier))) (call ∷ earlier)
    covered-next = covered-by (call.bay.0 == at.0) refl

  -- what was shown of a slot is covered
  pub shown-covered : (history : List Call) → IsHistory script history → AllByRecursion (AreCovered (bay_at script at history)) history
  shown-covered [] along = tt
  shown-covered (call ∷ earlier) along = covered-next earlier call along (shown-covered earlier along.0)

pub puts_are_above_what_was_shown : PutsAreAboveWhatWasShown
puts_are_above_what_was_shown script earlier call row n is along of wrote =
    let h = written-as call.ask.what call.answer.reply n wrote in
    let put = put-as call.ask.what n h.0 in
    let low = put-low script is earlier call along row of put.0 put.1 n put.2 put.3 h.1 in
    let bay : Bay = bay_at script call.bay earlier in
    all-calls (AreCovered script is call.bay row low.below bay) (ShowsBelow call.bay row n) earlier
    (λ c old mine m shows. let most = (old mine m shows).1 low.there in let read = low.read in let write = low.write in omega (arith, most, read, write))
    (shown-covered script is call.bay row low.below earlier along.0)
