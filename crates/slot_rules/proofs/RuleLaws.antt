-- The laws of one bay that follow from one outcome.
use Rattle.std.proofs.Common.{◌≡◌, ℕ, ◌||◌, Bool, true, false, if◌then◌else◌, List, Some, None, is_some, slice_set, refl, ap, ◌∙◌, arith}
use Rattle.std.proofs.lemmas.List.{set-get_or}
use Rattle.std.proofs.lemmas.Bool.Decides.{nat_tests}
use Rattle.raid_base.specs.declared.numbers.Number.{Number}
use Rattle.raid_base.specs.declared.numbers.RowNo.{RowNo}
use Rattle.raid_base.specs.declared.messages.How.{How}
use Rattle.raid_base.specs.declared.messages.How.TheVariants.{Plain, Seize, Mend}
use Rattle.raid_base.specs.declared.messages.Ask.{Ask}
use Rattle.raid_base.specs.declared.messages.Reply.{Reply}
use Rattle.raid_base.specs.declared.messages.Reply.TheVariants.{Granted, Busy, Late, Young, Missing, Held, NoNote, Done, Fault, Emptied, Fitted}
use Rattle.raid_base.specs.declared.messages.Request.{Request}
use Rattle.raid_base.specs.declared.messages.Request.TheVariants.{Share, Claim, Confirm, Put, Release, Lose, Fit}
use Rattle.raid_base.specs.Numbers.{number}
use Rattle.raid_base.specs.Fits.{fits}
use Rattle.raid_base.specs.Replies.{is_fault}
use Rattle.slot_rules.specs.Slots.{Slot, Bay, bare_slot, slot_of}
use Rattle.slot_rules.specs.Rules.{SlotOutcome, Outcome, keeps, raised, with_slot, share_rule, claim_rule, confirm_rule, put_rule, release_rule, lose_rule, fit_rule, rule_of}
use Rattle.slot_rules.specs.declared.slot.Verdict.TheVariants.{NeedRead}
use Rattle.slot_rules.specs.Serving.{need, row_of, cell_at}
use Rattle.slot_rules.specs.Laws.{RepliesFit, is_refused, refused_slot, refused_bay, RefusalsLeaveTheBay, FaultsComeOfStores, uses_store}
use Rattle.slot_rules.proofs.RuleTrees.{Good, good-share, good-claim, good-confirm, good-put, good-release}

pub raised-same : (high n : Number) → raised high n n ≡ high
raised-same high n = grind (arith, nat_tests)

-- a slot that keeps its numbers
pub with_slot-numbers : (bay : Bay) (row : RowNo) (old : Slot) (o : SlotOutcome) → o.slot.read_no ≡ old.read_no → o.slot.write_no ≡ old.write_no →
    with_slot bay row old o ≡ record { reply = o.reply; bay = record bay { slots = slice_set bay.slots row.0 o.slot } }
with_slot-numbers bay row old o r w =
    ap (λ (h : Number). record { reply = o.reply; bay = record bay { high = h; slots = slice_set bay.slots row.0 o.slot } })
    (ap (λ (n : Number). raised (raised bay.high old.read_no n) old.write_no o.slot.write_no) r
    ∙ ap (λ (n : Number). raised (raised bay.high old.read_no old.read_no) old.write_no n) w
    ∙ raised-same (raised bay.high old.read_no old.read_no) old.write_no
    ∙ raised-same bay.high old.read_no)

-- a slot that stays
pub with_slot-same : (bay : Bay) (row : RowNo) (reply : Reply) → with_slot bay row (slot_of bay row) (keeps (slot_of bay row) reply) ≡ record { reply = reply; bay = bay }
with_slot-same bay row reply =
    with_slot-numbers bay row (slot_of bay row) (keeps (slot_of bay row) reply) refl refl
    ∙ ap (λ (slots : List Slot). record { reply = reply; bay = record bay { slots = slots } }) (set-get_or bay.slots row.0 (bare_slot (number 0)))

-- the laws of one request
pub record Lawful (bay : Bay) (what : Request) (outcome : Bool → Outcome) : Type 0 where
  pub fitting : (fails : Bool) → fits what (outcome fails).reply ≡ true
  pub kept : (fails : Bool) → is_refused (outcome fails).reply ≡ true → (outcome fails).bay ≡ refused_bay bay what (outcome fails).reply
  pub works : is_fault (outcome false).reply ≡ false
  pub failed : is_fault (outcome true).reply ≡ true → outcome true ≡ record { reply = Fault; bay = bay }
  pub spared : is_fault (outcome true).reply ≡ false → outcome true ≡ outcome false
  pub seen : is_fault (outcome true).reply ≡ true → need what ≡ NeedRead → is_some (cell_at bay (row_of what)) ≡ true

-- what a refused request leaves, from what it leaves of its slot
abbrev pub Leaves : Bay → RowNo → Request → Type 0
Leaves bay row what =
    (reply : Reply) (left : Slot) → left ≡ refused_slot bay.empty what reply (slot_of bay row) →
    (with_slot bay row (slot_of bay row) (record { reply = reply; slot = left })).bay ≡ refused_bay bay what reply

leaves-same : (bay : Bay) (row : RowNo) (reply : Reply) (left : Slot) → left ≡ slot_of bay row →
    (with_slot bay row (slot_of bay row) (record { reply = reply; slot = left })).bay ≡ bay
leaves-same bay row reply left e =
    ap (λ (s : Slot). (with_slot bay row (slot_of bay row) (record { reply = reply; slot = s })).bay) e ∙ ap (λ (o : Outcome). o.bay) (with_slot-same bay row reply)

closed_numbers : (b : Bool) (slot : Slot) → ((if b then slot else record slot { note = None }).read_no ≡ slot.read_no) × ((if b then slot else record slot { note = None }).write_no ≡ slot.write_no)
closed_numbers true slot = (refl, refl)
closed_numbers false slot = (refl, refl)

leaves-closed : (bay : Bay) (row : RowNo) (id : Number) (mask : ℕ) (want : Bool) (floor : Number) (left : Slot) →
    left ≡ refused_slot bay.empty (Claim row id Seize mask want) (Missing floor) (slot_of bay row) →
    (with_slot bay row (slot_of bay row) (record { reply = Missing floor; slot = left })).bay ≡ refused_bay bay (Claim row id Seize mask want) (Missing floor)
leaves-closed bay row id mask want floor left e =
    let slot = slot_of bay row in
    let closed = refused_slot bay.empty (Claim row id Seize mask want) (Missing floor) slot in
    let same = closed_numbers (bay.empty || is_some slot.cell) slot in
    ap (λ (s : Slot). (with_slot bay row slot (record { reply = Missing floor; slot = s })).bay) e
    ∙ ap (λ (o : Outcome). o.bay) (with_slot-numbers bay row slot (record { reply = Missing floor; slot = closed }) same.0 same.1)

leaves-claim : (bay : Bay) (row : RowNo) (id : Number) (how : How) (mask : ℕ) (want : Bool) → Leaves bay row (Claim row id how mask want)
leaves-claim bay row id Plain mask want reply left e = leaves-same bay row reply left e
leaves-claim bay row id Mend mask want reply left e = leaves-same bay row reply left e
leaves-claim bay row id Seize mask want (Missing floor) left e = leaves-closed bay row id mask want floor left e
leaves-claim bay row id Seize mask want (Granted cell read_no write_no last life seized) left e = leaves-same bay row (Granted cell read_no write_no last life seized) left e
leaves-claim bay row id Seize mask want (Busy holder) left e = leaves-same bay row (Busy holder) left e
leaves-claim bay row id Seize mask want (Late above) left e = leaves-same bay row (Late above) left e
leaves-claim bay row id Seize mask want (Young note) left e = leaves-same bay row (Young note) left e
leaves-claim bay row id Seize mask want (Held cell) left e = leaves-same bay row (Held cell) left e
leaves-claim bay row id Seize mask want (NoNote life) left e = leaves-same bay row (NoNote life) left e
leaves-claim bay row id Seize mask want Done left e = leaves-same bay row (Done) left e
leaves-claim bay row id Seize mask want Fault left e = leaves-same bay row (Fault) left e
leaves-claim bay row id Seize mask want Emptied left e = leaves-same bay row (Emptied) left e
leaves-claim bay row id Seize mask want Fitted left e = leaves-same bay row (Fitted) left e

lawful-row : (bay : Bay) (row : RowNo) (what : Request) (f : Bool → SlotOutcome) → row_of what ≡ Some row → Leaves bay row what → Good bay.empty what (slot_of bay row) f →
    Lawful bay what (λ fails. with_slot bay row (slot_of bay row) (f fails))
lawful-row bay row what f is leaves good = record {
  fitting = good.fitting;
  kept = λ fails h. leaves (f fails).reply (f fails).slot (good.kept fails h);
  works = good.works;
  failed = λ h. ap (λ (o : SlotOutcome). with_slot bay row (slot_of bay row) o) (good.failed h) ∙ with_slot-same bay row Fault;
  spared = λ h. ap (λ (o : SlotOutcome). with_slot bay row (slot_of bay row) o) (good.spared h);
  seen = λ h n. ap (λ r. is_some (cell_at bay r)) is ∙ good.seen h n;
}

lawful-lose : (bay : Bay) (b : Bool) → Lawful bay Lose (λ _. lose_rule bay b)
lawful-lose bay true = record {
  fitting = λ fails. refl;
  kept = λ fails h. refl;
  works = refl;
  failed = λ h. absurd (let bad : false ≡ true = h in cc);
  spared = λ h. refl;
  seen = λ h n. absurd (let bad : false ≡ true = h in cc);
}
lawful-lose bay false = record {
  fitting = λ fails. refl;
  kept = λ fails h. absurd (let bad : false ≡ true = h in cc);
  works = refl;
  failed = λ h. absurd (let bad : false ≡ true = h in cc);
  spared = λ h. refl;
  seen = λ h n. absurd (let bad : false ≡ true = h in cc);
}

lawful-fit : (bay : Bay) (b : Bool) → Lawful bay Fit (λ _. fit_rule bay b)
lawful-fit bay true = record {
  fitting = λ fails. refl;
  kept = λ fails h. absurd (let bad : false ≡ true = h in cc);
  works = refl;
  failed = λ h. absurd (let bad : false ≡ true = h in cc);
  spared = λ h. refl;
  seen = λ h n. absurd (let bad : false ≡ true = h in cc);
}
lawful-fit bay false = record {
  fitting = λ fails. refl;
  kept = λ fails h. refl;
  works = refl;
  failed = λ h. absurd (let bad : false ≡ true = h in cc);
  spared = λ h. refl;
  seen = λ h n. absurd (let bad : false ≡ true = h in cc);
}

pub lawful : (bay : Bay) (ask : Ask) (what : Request) → Lawful bay what (λ fails. rule_of bay ask fails what)
lawful bay ask (Share row id want) = lawful-row bay row _ (λ fails. share_rule bay (slot_of bay row) ask id want fails) refl (λ reply left e. leaves-same bay row reply left e) (good-share bay (slot_of bay row) ask row id want)
lawful bay ask (Claim row id how mask want) = lawful-row bay row _ (λ fails. claim_rule how bay (slot_of bay row) ask id mask want fails) refl (leaves-claim bay row id how mask want) (good-claim bay (slot_of bay row) ask row id how mask want)
lawful bay ask (Confirm row id want) = lawful-row bay row _ (λ fails. confirm_rule bay (slot_of bay row) id want fails) refl (λ reply left e. leaves-same bay row reply left e) (good-confirm bay (slot_of bay row) row id want)
lawful bay ask (Put row id n cell) = lawful-row bay row _ (λ fails. put_rule bay (slot_of bay row) id n cell fails) refl (λ reply left e. leaves-same bay row reply left e) (good-put bay (slot_of bay row) row id n cell)
lawful bay ask (Release row id n) = lawful-row bay row _ (λ fails. release_rule bay (slot_of bay row) id n) refl (λ reply left e. leaves-same bay row reply left e) (good-release bay (slot_of bay row) row id n)
lawful bay ask Lose = lawful-lose bay bay.empty
lawful bay ask Fit = lawful-fit bay bay.empty

pub replies_fit_lem : RepliesFit
replies_fit_lem bay ask fails = (lawful bay ask ask.what).fitting fails

pub refusals_lem : RefusalsLeaveTheBay
refusals_lem bay ask fails h = (lawful bay ask ask.what).kept fails h

pub faults_lem : FaultsComeOfStores
faults_lem bay ask =
    let l = lawful bay ask ask.what in
    record { works = l.works; failed = l.failed; spared = l.spared }

-- where a block is shown the slot has a cell
pub cells-there : (bay : Bay) (ask : Ask) → uses_store bay ask ≡ true → need ask.what ≡ NeedRead → is_some (cell_at bay (row_of ask.what)) ≡ true
cells-there bay ask = (lawful bay ask ask.what).seen
