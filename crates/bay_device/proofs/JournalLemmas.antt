-- One more entry of a journal.
use Rattle.std.proofs.Common.{◌≡◌, ◌∙◌, ℕ, ◌+◌, ◌-◌, ◌^◌, ◌≤◌, min, Bool, true, false, if◌then◌else◌, List, [], ◌∷◌, ◌++◌, refl, ap, sym, subst, arith}
use Rattle.raid_base.specs.declared.messages.Ask.{Ask}
use Rattle.raid_base.specs.declared.messages.Entry.{Entry}
use Rattle.raid_base.specs.declared.messages.Reply.{Reply}
use Rattle.raid_base.specs.Replies.{is_fault}
use Rattle.raid_base.specs.Counts.{RisesBy, HasCause}
use Rattle.slot_rules.specs.Slots.{Bay}
use Rattle.slot_rules.specs.Rules.{rule}
use Rattle.slot_rules.specs.Replay.{Replays, next_clock}
use Rattle.bay_device.specs.Handling.{count_faults, RisesByFaults}

-- the reply and the bay after it are the rule's
pub record IsRuled (ask : Ask) (reply : Reply) (bay later : Bay) : Type 0 where
  pub says : reply ≡ (rule bay ask (is_fault reply)).reply
  pub leaves : later ≡ (rule bay ask (is_fault reply)).bay

-- the journal replays once an entry by the rule is appended
pub replays-more : (journal : List Entry) (first : Bay) (start : ℕ) (bay : Bay) (clock : ℕ) (ask : Ask) (reply : Reply) (later : Bay)
    → Replays first start journal bay clock → IsRuled ask reply bay later
    → Replays first start (journal ++ (record { ask = ask; clock = next_clock clock ask; reply = reply }) ∷ []) later (next_clock clock ask)
replays-more [] first start bay clock ask reply later r is = (
  is.says ∙ ap (λ (b : Bay). (rule b ask (is_fault reply)).reply) (sym r.0),
  ap (λ c. next_clock c ask) (sym r.1),
  (ap (λ (b : Bay). (rule b ask (is_fault reply)).bay) r.0 ∙ sym is.leaves, refl),
)
replays-more (entry ∷ entries) first start bay clock ask reply later r is =
    (r.0, r.1, replays-more entries _ _ bay clock ask reply later r.2 is)

count_more : (journal : List Entry) (entry : Entry) → count_faults (journal ++ entry ∷ []) ≡ count_faults journal + (if is_fault entry.reply then 1 else 0)
count_more [] entry = omega arith
count_more (e ∷ journal) entry = let rest = count_more journal entry in omega arith

rises_more : (n opening before now : ℕ) (fault : Bool) → HasCause before now fault → RisesBy n opening before → RisesBy (n + (if fault then 1 else 0)) opening now
rises_more n opening before now true cause r = let rose : min (before + 1) (2 ^ 64 - 1) ≤ now = cause.failed refl in omega arith
rises_more n opening before now false cause r = let later : before ≤ now = cause.later in omega arith

-- the count rose by the Faults of the journal once an entry with its cause is appended
pub faults-more : (journal : List Entry) (entry : Entry) (opening before now : ℕ) → HasCause before now (is_fault entry.reply) → RisesByFaults journal opening before
    → RisesByFaults (journal ++ entry ∷ []) opening now
faults-more journal entry opening before now cause r =
    subst (λ (n : ℕ). RisesBy n opening now) (sym (count_more journal entry)) (rises_more (count_faults journal) opening before now (is_fault entry.reply) cause r)
