-- What an ask does to one row of a bay, and what many asks do.
use Rattle.std.proofs.Common.{◌≡◌, ℕ, zero, suc, ◌+◌, ◌<◌, ◌≤◌, ◌==◌, ◌≢◌, Bool, true, false, List, [], ◌∷◌, length, map, Option, Some, slice_index_or, refl, sym, ap, subst, ◌∙◌, arith}
use Rattle.std.proofs.Math.ListN.{length-set}
use Rattle.std.proofs.lemmas.List.{length-map, get_or-set_same, get_or-set_other}
use Rattle.std.proofs.lemmas.Bool.Decides.{nat_tests}
use Rattle.raid_base.specs.declared.numbers.Number.{Number}
use Rattle.raid_base.specs.declared.numbers.RowNo.{RowNo}
use Rattle.raid_base.specs.declared.messages.How.{How}
use Rattle.raid_base.specs.declared.messages.How.TheVariants.{Plain, Seize, Mend}
use Rattle.raid_base.specs.declared.messages.Ask.{Ask}
use Rattle.raid_base.specs.declared.messages.Entry.{Entry}
use Rattle.raid_base.specs.declared.messages.Reply.{Reply}
use Rattle.raid_base.specs.declared.messages.Request.{Request}
use Rattle.raid_base.specs.declared.messages.Request.TheVariants.{Share, Claim, Confirm, Put, Release, Lose, Fit}
use Rattle.raid_base.specs.Numbers.{number}
use Rattle.raid_base.specs.Replies.{is_fault}
use Rattle.slot_rules.specs.Slots.{Slot, Bay, bare_slot, slot_of}
use Rattle.slot_rules.specs.Rules.{SlotOutcome, Outcome, raised, with_slot, share_rule, claim_rule, confirm_rule, put_rule, release_rule, lose_rule, fit_rule, rule_of, rule}
use Rattle.slot_rules.specs.Replay.{Replays}
use Rattle.slot_rules.specs.Serving.{row_of, slot_rule}
use Rattle.slot_rules.specs.Laws.{IsStep, SlotsStep, is_row, loses, losses, shown_life, LivesTellLosses}
use Rattle.slot_rules.proofs.RuleSteps.{step_share, step_claim, step_confirm, step_put, step_release}
use Rattle.slot_rules.proofs.TableParts.{rule_of-row}

raised_up : (high a b : Number) → high.0 ≤ (raised high a b).0
raised_up high a b = grind (arith, nat_tests)

raised_cap : (high a b : Number) → a.0 ≤ high.0 → b.0 ≤ (raised high a b).0
raised_cap high a b h = grind (arith, nat_tests)

-- the numbers of a slot are at most the bay's high number
pub record IsCapped (bay : Bay) (row : RowNo) : Type 0 where
  pub read : (slot_of bay row).read_no.0 ≤ bay.high.0
  pub write : (slot_of bay row).write_no.0 ≤ bay.high.0

slot_step : (bay : Bay) (ask : Ask) (fails : Bool) (what : Request) (slot : Slot) (row : RowNo) → row_of what ≡ Some row →
    IsStep bay.mode bay.life ask what slot (slot_rule bay slot ask fails what).reply (slot_rule bay slot ask fails what).slot
slot_step bay ask fails (Share r id want) slot row e = step_share bay slot ask r id want fails
slot_step bay ask fails (Claim r id how mask want) slot row e = step_claim bay slot ask r id how mask want fails
slot_step bay ask fails (Confirm r id want) slot row e = step_confirm bay slot ask r id want fails
slot_step bay ask fails (Put r id n cell) slot row e = step_put bay slot ask r id n cell fails
slot_step bay ask fails (Release r id n) slot row e = step_release bay slot ask r id n
slot_step bay ask fails Lose slot row e = cc
slot_step bay ask fails Fit slot row e = cc

-- what an ask does to a row: it is of the row, or the row stays, or the device is lost or fitted
pub data RowStep (bay : Bay) (ask : Ask) (row : RowNo) (reply : Reply) (after : Bay) : Type 0 where
  Touched : row_of ask.what ≡ Some row → IsStep bay.mode bay.life ask ask.what (slot_of bay row) reply (slot_of after row) → after.empty ≡ bay.empty → (IsCapped bay row → IsCapped after row) → RowStep bay ask row reply after
  Passed : slot_of after row ≡ slot_of bay row → is_row row (row_of ask.what) ≡ false → after.empty ≡ bay.empty → RowStep bay ask row reply after
  Bared : (n : Number) → slot_of after row ≡ bare_slot n → is_row row (row_of ask.what) ≡ false → (after.empty ≡ false → n ≡ bay.high) → (after.empty ≡ true → n ≡ number 0) → n.0 ≤ bay.high.0 → RowStep bay ask row reply after

slot_set-same : (bay : Bay) (row : RowNo) (old : Slot) (o : SlotOutcome) → row.0 < length bay.slots → slot_of (with_slot bay row old o).bay row ≡ o.slot
slot_set-same bay row old o l = get_or-set_same bay.slots row.0 o.slot (bare_slot (number 0)) l

slot_set-other : (bay : Bay) (r row : RowNo) (old : Slot) (o : SlotOutcome) → row.0 ≢ r.0 → slot_of (with_slot bay r old o).bay row ≡ slot_of bay row
slot_set-other bay r row old o n = get_or-set_other bay.slots r.0 row.0 o.slot (bare_slot (number 0)) n

capped_set : (bay : Bay) (row : RowNo) (o : SlotOutcome) → row.0 < length bay.slots → IsCapped bay row → IsCapped (with_slot bay row (slot_of bay row) o).bay row
capped_set bay row o l c =
    let old = slot_of bay row in
    let same = slot_set-same bay row old o l in
    let first = raised bay.high old.read_no o.slot.read_no in
    let up = raised_up first old.write_no o.slot.write_no in
    let before = raised_up bay.high old.read_no o.slot.read_no in
    let read = raised_cap bay.high old.read_no o.slot.read_no c.read in
    let within : old.write_no.0 ≤ first.0 = omega (arith, before, c.write) in
    record {
      read = subst (λ (x : Slot). x.read_no.0 ≤ (raised first old.write_no o.slot.write_no).0) (sym same) (omega (arith, up, read));
      write = subst (λ (x : Slot). x.write_no.0 ≤ (raised first old.write_no o.slot.write_no).0) (sym same) (raised_cap first old.write_no o.slot.write_no within);
    }

same_row : (r row : RowNo) → (r.0 == row.0) ≡ true → r ≡ row
same_row r row e = let same : r.0 ≡ row.0 = grind (arith, nat_tests) in ap (λ (n : ℕ). let x : RowNo = record { 0 = n } in x) same

other_row : (r row : RowNo) → (r.0 == row.0) ≡ false → row.0 ≢ r.0
other_row r row e = λ h. absurd (grind (arith, nat_tests))

row_step-by : (bay : Bay) (ask : Ask) (fails : Bool) (row r : RowNo) (b : Bool) → (r.0 == row.0) ≡ b → row_of ask.what ≡ Some r → row.0 < length bay.slots →
    RowStep bay ask row (rule bay ask fails).reply (rule bay ask fails).bay
row_step-by bay ask fails row r true e is l =
    let same = same_row r row e in
    let at_row : row_of ask.what ≡ Some row = is ∙ ap (λ (x : RowNo). Some x) same in
    let there = rule_of-row bay ask fails ask.what row at_row in
    let o = slot_rule bay (slot_of bay row) ask fails ask.what in
    subst (λ (x : Outcome). RowStep bay ask row x.reply x.bay) (sym there)
    (Touched at_row (subst (λ (s : Slot). IsStep bay.mode bay.life ask ask.what (slot_of bay row) o.reply s) (sym (slot_set-same bay row (slot_of bay row) o l)) (slot_step bay ask fails ask.what (slot_of bay row) row at_row)) refl (capped_set bay row o l))
row_step-by bay ask fails row r false e is l =
    let there = rule_of-row bay ask fails ask.what r is in
    let o = slot_rule bay (slot_of bay r) ask fails ask.what in
    subst (λ (x : Outcome). RowStep bay ask row x.reply x.bay) (sym there)
    (Passed (slot_set-other bay r row (slot_of bay r) o (other_row r row e)) (ap (λ (x : Option RowNo). is_row row x) is ∙ e) refl)

bare_there : (n : Number) (slots : List Slot) (row : ℕ) (d : Slot) → row < length slots → slice_index_or (map (λ _. bare_slot n) slots) row d ≡ bare_slot n
bare_there n [] row d l = absurd (omega arith)
bare_there n (s ∷ slots) zero d l = refl
bare_there n (s ∷ slots) (suc row) d l = bare_there n slots row d (omega arith)

lose_step : (bay : Bay) (ask : Ask) (row : RowNo) (b : Bool) → bay.empty ≡ b → is_row row (row_of ask.what) ≡ false → row.0 < length bay.slots → RowStep bay ask row (lose_rule bay b).reply (lose_rule bay b).bay
lose_step bay ask row true e i l = Passed refl i refl
lose_step bay ask row false e i l = Bared (number 0) (bare_there (number 0) bay.slots row.0 (bare_slot (number 0)) l) i (λ h. absurd (let bad : true ≡ false = h in cc)) (λ h. refl) (omega arith)

fit_step : (bay : Bay) (ask : Ask) (row : RowNo) (b : Bool) → bay.empty ≡ b → is_row row (row_of ask.what) ≡ false → row.0 < length bay.slots → RowStep bay ask row (fit_rule bay b).reply (fit_rule bay b).bay
fit_step bay ask row true e i l = Bared bay.high (bare_there bay.high bay.slots row.0 (bare_slot (number 0)) l) i (λ h. refl) (λ h. absurd (let bad : false ≡ true = h in cc)) (omega arith)
fit_step bay ask row false e i l = Passed refl i refl

row_step-what : (bay : Bay) (ask : Ask) (fails : Bool) (row : RowNo) (what : Request) → ask.what ≡ what → row.0 < length bay.slots →
    RowStep bay ask row (rule bay ask fails).reply (rule bay ask fails).bay
row_step-what bay ask fails row (Share r id want) e l = row_step-by bay ask fails row r _ refl (ap (λ (w : Request). row_of w) e) l
row_step-what bay ask fails row (Claim r id how mask want) e l = row_step-by bay ask fails row r _ refl (ap (λ (w : Request). row_of w) e) l
row_step-what bay ask fails row (Confirm r id want) e l = row_step-by bay ask fails row r _ refl (ap (λ (w : Request). row_of w) e) l
row_step-what bay ask fails row (Put r id n cell) e l = row_step-by bay ask fails row r _ refl (ap (λ (w : Request). row_of w) e) l
row_step-what bay ask fails row (Release r id n) e l = row_step-by bay ask fails row r _ refl (ap (λ (w : Request). row_of w) e) l
row_step-what bay ask fails row Lose e l =
    subst (λ (w : Request). RowStep bay ask row (rule_of bay ask fails w).reply (rule_of bay ask fails w).bay) (sym e)
    (lose_step bay ask row bay.empty refl (ap (λ (w : Request). is_row row (row_of w)) e) l)
row_step-what bay ask fails row Fit e l =
    subst (λ (w : Request). RowStep bay ask row (rule_of bay ask fails w).reply (rule_of bay ask fails w).bay) (sym e)
    (fit_step bay ask row bay.empty refl (ap (λ (w : Request). is_row row (row_of w)) e) l)

-- what any ask does to any row
pub row_step : (bay : Bay) (ask : Ask) (fails : Bool) (row : RowNo) → row.0 < length bay.slots → RowStep bay ask row (rule bay ask fails).reply (rule bay ask fails).bay
row_step bay ask fails row l = row_step-what bay ask fails row ask.what refl l

pub slots_step_lem : SlotsStep
slots_step_lem bay ask fails row is l =
    let there = rule_of-row bay ask fails ask.what row is in
    let o = slot_rule bay (slot_of bay row) ask fails ask.what in
    subst (λ (x : Outcome). IsStep bay.mode bay.life ask ask.what (slot_of bay row) x.reply (slot_of x.bay row)) (sym there)
    (subst (λ (s : Slot). IsStep bay.mode bay.life ask ask.what (slot_of bay row) o.reply s) (sym (slot_set-same bay row (slot_of bay row) o l)) (slot_step bay ask fails ask.what (slot_of bay row) row is))

-- what stays of a bay, and what rises
pub record Goes (bay : Bay) (what : Request) (after : Bay) : Type 0 where
  pub mode : after.mode ≡ bay.mode
  pub rows : length after.slots ≡ length bay.slots
  pub high : bay.high.0 ≤ after.high.0
  pub life : after.life ≡ bay.life + loses bay what

goes_with : (bay : Bay) (row : RowNo) (old : Slot) (o : SlotOutcome) (what : Request) → loses bay what ≡ 0 → Goes bay what (with_slot bay row old o).bay
goes_with bay row old o what e =
    let first = raised bay.high old.read_no o.slot.read_no in
    let up = raised_up first old.write_no o.slot.write_no in
    let before = raised_up bay.high old.read_no o.slot.read_no in
    record {
      mode = refl;
      rows = length-set bay.slots row.0 o.slot;
      high = omega (arith, up, before);
      life = rw e (omega arith);
    }

goes_lose : (bay : Bay) (b : Bool) → bay.empty ≡ b → Goes bay Lose (lose_rule bay b).bay
goes_lose bay true e = record { mode = refl; rows = refl; high = omega arith; life = rw e (omega arith) }
goes_lose bay false e = record { mode = refl; rows = length-map bay.slots _; high = omega arith; life = rw e refl }

goes_fit : (bay : Bay) (b : Bool) → Goes bay Fit (fit_rule bay b).bay
goes_fit bay true = record { mode = refl; rows = length-map bay.slots _; high = omega arith; life = omega arith }
goes_fit bay false = record { mode = refl; rows = refl; high = omega arith; life = omega arith }

goes_of : (bay : Bay) (ask : Ask) (fails : Bool) (what : Request) → Goes bay what (rule_of bay ask fails what).bay
goes_of bay ask fails (Share r id want) = goes_with bay r (slot_of bay r) (share_rule bay (slot_of bay r) ask id want fails) _ refl
goes_of bay ask fails (Claim r id how mask want) = goes_with bay r (slot_of bay r) (claim_rule how bay (slot_of bay r) ask id mask want fails) _ refl
goes_of bay ask fails (Confirm r id want) = goes_with bay r (slot_of bay r) (confirm_rule bay (slot_of bay r) id want fails) _ refl
goes_of bay ask fails (Put r id n cell) = goes_with bay r (slot_of bay r) (put_rule bay (slot_of bay r) id n cell fails) _ refl
goes_of bay ask fails (Release r id n) = goes_with bay r (slot_of bay r) (release_rule bay (slot_of bay r) id n) _ refl
goes_of bay ask fails Lose = goes_lose bay bay.empty refl
goes_of bay ask fails Fit = goes_fit bay bay.empty

pub goes : (bay : Bay) (ask : Ask) (fails : Bool) → Goes bay ask.what (rule bay ask fails).bay
goes bay ask fails = goes_of bay ask fails ask.what

capped_by : (bay : Bay) (ask : Ask) (row : RowNo) (reply : Reply) (after : Bay) → bay.high.0 ≤ after.high.0 → IsCapped bay row → RowStep bay ask row reply after → IsCapped after row
capped_by bay ask row reply after up c (Touched is step e capped) = capped c
capped_by bay ask row reply after up c (Passed same is e) = record {
  read = subst (λ (x : Slot). x.read_no.0 ≤ after.high.0) (sym same) (omega (arith, c.read));
  write = subst (λ (x : Slot). x.write_no.0 ≤ after.high.0) (sym same) (omega (arith, c.write));
}
capped_by bay ask row reply after up c (Bared n same is e z l) = record {
  read = subst (λ (x : Slot). x.read_no.0 ≤ after.high.0) (sym same) (omega arith);
  write = subst (λ (x : Slot). x.write_no.0 ≤ after.high.0) (sym same) (omega arith);
}

pub capped : (bay : Bay) (ask : Ask) (fails : Bool) (row : RowNo) → row.0 < length bay.slots → IsCapped bay row → IsCapped (rule bay ask fails).bay row
capped bay ask fails row l c = capped_by bay ask row _ (rule bay ask fails).bay (goes bay ask fails).high c (row_step bay ask fails row l)

-- the lives that are shown
lose_shows : (bay : Bay) (b : Bool) (life : ℕ) → shown_life (lose_rule bay b).reply ≡ Some life → ⊥
lose_shows bay true life h = cc
lose_shows bay false life h = cc

fit_shows : (bay : Bay) (b : Bool) (life : ℕ) → shown_life (fit_rule bay b).reply ≡ Some life → ⊥
fit_shows bay true life h = cc
fit_shows bay false life h = cc

shown_not_lose : (bay : Bay) (ask : Ask) (fails : Bool) (what : Request) (life : ℕ) → shown_life (rule_of bay ask fails what).reply ≡ Some life →
    (life ≡ bay.life) × (loses bay what ≡ 0)
shown_not_lose bay ask fails (Share r id want) life h = ((step_share bay (slot_of bay r) ask r id want fails).life_shown life h, refl)
shown_not_lose bay ask fails (Claim r id how mask want) life h = ((step_claim bay (slot_of bay r) ask r id how mask want fails).life_shown life h, refl)
shown_not_lose bay ask fails (Confirm r id want) life h = ((step_confirm bay (slot_of bay r) ask r id want fails).life_shown life h, refl)
shown_not_lose bay ask fails (Put r id n cell) life h = ((step_put bay (slot_of bay r) ask r id n cell fails).life_shown life h, refl)
shown_not_lose bay ask fails (Release r id n) life h = ((step_release bay (slot_of bay r) ask r id n).life_shown life h, refl)
shown_not_lose bay ask fails Lose life h = absurd (lose_shows bay bay.empty life h)
shown_not_lose bay ask fails Fit life h = absurd (fit_shows bay bay.empty life h)

pub life_after : (bay : Bay) (clock : ℕ) (entries : List Entry) (bay' : Bay) (clock' : ℕ) → Replays bay clock entries bay' clock' → bay'.life ≡ bay.life + losses bay entries
life_after bay clock [] bay' clock' r = let same : bay' ≡ bay = sym r.0 in ap (λ (b : Bay). b.life) same ∙ omega arith
life_after bay clock (entry ∷ entries) bay' clock' r =
    let next = (rule bay entry.ask (is_fault entry.reply)).bay in
    let later = life_after next entry.clock entries bay' clock' r.2 in
    let step = (goes bay entry.ask (is_fault entry.reply)).life in
    omega (arith, later, step)

pub lives_lem : LivesTellLosses
lives_lem bay ask fails clock between bay' clock' ask' fails' life life' h r h' =
    let shown = shown_not_lose bay ask fails ask.what life h in
    let shown' = shown_not_lose bay' ask' fails' ask'.what life' h' in
    let step = (goes bay ask fails).life in
    let later = life_after (rule bay ask fails).bay clock between bay' clock' r in
    omega (arith, shown.0, shown.1, shown'.0, step, later)

claim_stays : (how : How) (bay : Bay) (ask : Ask) (fails : Bool) (id : Number) (mask : ℕ) (want : Bool) → bay.empty ≡ true →
    (claim_rule how bay (bare_slot (number 0)) ask id mask want fails).slot ≡ bare_slot (number 0)
claim_stays Plain bay ask fails id mask want e = rw e refl
claim_stays Mend bay ask fails id mask want e = rw e refl
claim_stays Seize bay ask fails id mask want e = rw e refl

-- what stands on a lost device stays so
bare_stays : (bay : Bay) (ask : Ask) (fails : Bool) (what : Request) → bay.empty ≡ true → (slot_rule bay (bare_slot (number 0)) ask fails what).slot ≡ bare_slot (number 0)
bare_stays bay ask fails (Share r id want) e = rw e refl
bare_stays bay ask fails (Claim r id how mask want) e = claim_stays how bay ask fails id mask want e
bare_stays bay ask fails (Confirm r id want) e = rw e refl
bare_stays bay ask fails (Put r id n cell) e = refl
bare_stays bay ask fails (Release r id n) e = refl
bare_stays bay ask fails Lose e = refl
bare_stays bay ask fails Fit e = refl

bare_by : (bay : Bay) (ask : Ask) (fails : Bool) (row : RowNo) (reply : Reply) → row.0 < length bay.slots → (bay.empty ≡ true → slot_of bay row ≡ bare_slot (number 0)) →
    RowStep bay ask row reply (rule bay ask fails).bay → (rule bay ask fails).bay.empty ≡ true → slot_of (rule bay ask fails).bay row ≡ bare_slot (number 0)
bare_by bay ask fails row reply l h (Touched at step e c) f =
    let there = rule_of-row bay ask fails ask.what row at in
    let o = slot_rule bay (slot_of bay row) ask fails ask.what in
    let was : bay.empty ≡ true = sym e ∙ f in
    ap (λ (x : Outcome). slot_of x.bay row) there
    ∙ slot_set-same bay row (slot_of bay row) o l
    ∙ ap (λ (s : Slot). (slot_rule bay s ask fails ask.what).slot) (h was)
    ∙ bare_stays bay ask fails ask.what was
bare_by bay ask fails row reply l h (Passed same is e) f = same ∙ h (sym e ∙ f)
bare_by bay ask fails row reply l h (Bared n same is e z k) f = same ∙ ap (λ (m : Number). bare_slot m) (z f)

pub bare_run : (bay : Bay) (clock : ℕ) (entries : List Entry) (bay' : Bay) (clock' : ℕ) (row : RowNo) → row.0 < length bay.slots → (bay.empty ≡ true → slot_of bay row ≡ bare_slot (number 0)) →
    Replays bay clock entries bay' clock' → bay'.empty ≡ true → slot_of bay' row ≡ bare_slot (number 0)
bare_run bay clock [] bay' clock' row l h r = subst (λ (b : Bay). b.empty ≡ true → slot_of b row ≡ bare_slot (number 0)) r.0 h
bare_run bay clock (entry ∷ entries) bay' clock' row l h r =
    let fails = is_fault entry.reply in
    let next = (rule bay entry.ask fails).bay in
    let rows = (goes bay entry.ask fails).rows in
    bare_run next entry.clock entries bay' clock' row (omega (arith, rows)) (bare_by bay entry.ask fails row _ l h (row_step bay entry.ask fails row l)) r.2
