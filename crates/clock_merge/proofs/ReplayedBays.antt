-- Where a bay stands after calls hangs on its own journal alone.
use Rattle.std.proofs.Common.{◌≡◌, ℕ, ◌<◌, ◌==◌, Bool, true, false, if◌then◌else◌, List, [], ◌∷◌, ◌++◌, refl, sym, ap, subst, ◌∙◌}
use Rattle.std.specs.List.{AllByRecursion}
use Rattle.raid_base.specs.declared.numbers.BayNo.{BayNo}
use Rattle.raid_base.specs.declared.messages.Call.{Call}
use Rattle.raid_base.specs.declared.messages.Entry.{Entry}
use Rattle.raid_base.specs.declared.messages.Reply.{Reply}
use Rattle.raid_base.specs.Replies.{is_fault}
use Rattle.slot_rules.specs.Slots.{Bay, first_bay}
use Rattle.slot_rules.specs.Rules.{rule}
use Rattle.slot_rules.specs.Replay.{next_clock, Replays}
use Rattle.script_text.specs.Script.{Script}
use Rattle.histories.specs.History.{if_ruled, bay_at, clock_at, entry_of, journal, IsHistory}
use Rattle.histories.specs.Asked.{AreAsked}
use Rattle.clock_merge.specs.Merge.{Ticks}
use Rattle.clock_merge.proofs.LineLemmas.{same-test}

-- the clock at the end is that of the last entry
ticks-last : (clock : ℕ) (before : List Entry) (entry : Entry) (end : ℕ) → Ticks clock (before ++ entry ∷ []) end → entry.clock ≡ end
ticks-last clock [] entry end ticks = ticks.1
ticks-last clock (first ∷ before) entry end ticks = ticks-last first.clock before entry end ticks.1

pub clock-told : (at : BayNo) (history : List Call) (end : ℕ) → Ticks 0 (journal at history) end → clock_at at history ≡ end
clock-told at [] end ticks = ticks
clock-told at (call ∷ earlier) end ticks = by (call.bay.0 == at.0) ticks (clock-told at earlier end) where
  by : (here : Bool) → Ticks 0 (if here then journal at earlier ++ entry_of call ∷ [] else journal at earlier) end → (Ticks 0 (journal at earlier) end → clock_at at earlier ≡ end) →
      (if here then call.answer.clock else clock_at at earlier) ≡ end
  by true told rest = ticks-last 0 (journal at earlier) (entry_of call) end told
  by false told rest = rest told

-- what replays, replays up to its last entry, and the rest of it is one step of the rule
record UpTo (first : Bay) (start : ℕ) (before : List Entry) (entry : Entry) (later : Bay) : Type 0 where
  mid : Bay
  clock : ℕ
  replays : Replays first start before mid clock
  reply : entry.reply ≡ (rule mid entry.ask (is_fault entry.reply)).reply
  bay_is : (rule mid entry.ask (is_fault entry.reply)).bay ≡ later

up-to-last : (first : Bay) (start : ℕ) (before : List Entry) (entry : Entry) (later : Bay) (end : ℕ) → Replays first start (before ++ entry ∷ []) later end → UpTo first start before entry later
up-to-last first start [] entry later end replays = record { mid = first; clock = start; replays = (refl, refl); reply = replays.0; bay_is = replays.2.0 }
up-to-last first start (e ∷ before) entry later end replays =
    let rest = up-to-last (rule first e.ask (is_fault e.reply)).bay e.clock before entry later end replays.2 in
    record { mid = rest.mid; clock = rest.clock; replays = (replays.0, replays.1, rest.replays); reply = rest.reply; bay_is = rest.bay_is }

module _ (script : Script) where
  pub bay-told : (at : BayNo) (history : List Call) (later : Bay) (end : ℕ) → Replays (first_bay script.mode script.rows script.patience) 0 (journal at history) later end →
      bay_at script at history ≡ later
  bay-told at [] later end replays = replays.0
  bay-told at (call ∷ earlier) later end replays = by (call.bay.0 == at.0) replays (bay-told at earlier) where
    by : (here : Bool) →
        Replays (first_bay script.mode script.rows script.patience) 0 (if here then journal at earlier ++ entry_of call ∷ [] else journal at earlier) later end →
        ((mid : Bay) (clock : ℕ) → Replays (first_bay script.mode script.rows script.patience) 0 (journal at earlier) mid clock → bay_at script at earlier ≡ mid) →
        if_ruled (bay_at script at earlier) call here ≡ later
    by true told rest =
        let last = up-to-last (first_bay script.mode script.rows script.patience) 0 (journal at earlier) (entry_of call) later end told in
        ap (λ (b : Bay). (rule b call.ask (is_fault call.answer.reply)).bay) (rest last.mid last.clock last.replays) ∙ last.bay_is
    by false told rest = rest later end told

  -- the journals of some bays replay
  abbrev pub AllReplay : List Call → Type 0
  AllReplay history =
      (at : BayNo) → at.0 < script.n → (later : Bay) × (end : ℕ) × Replays (first_bay script.mode script.rows script.patience) 0 (journal at history) later end

  -- so they did before the last call, which the rule has answered
  all-before : (call : Call) (earlier : List Call) → AllReplay (call ∷ earlier) → AllReplay earlier
  all-before call earlier all at inside = by (call.bay.0 == at.0) (all at inside) where
    by : (here : Bool) →
        (later : Bay) × (end : ℕ) × Replays (first_bay script.mode script.rows script.patience) 0 (if here then journal at earlier ++ entry_of call ∷ [] else journal at earlier) later end →
        (later : Bay) × (end : ℕ) × Replays (first_bay script.mode script.rows script.patience) 0 (journal at earlier) later end
    by true told =
        let last = up-to-last (first_bay script.mode script.rows script.patience) 0 (journal at earlier) (entry_of call) told.0 told.1 told.2 in
        (last.mid, last.clock, last.replays)
    by false told = told

  last-replied : (call : Call) (earlier : List Call) → call.bay.0 < script.n → AllReplay (call ∷ earlier) →
      call.answer.reply ≡ (rule (bay_at script call.bay earlier) call.ask (is_fault call.answer.reply)).reply
  last-replied call earlier inside all =
      let told = all call.bay inside in
      let own : Replays (first_bay script.mode script.rows script.patience) 0 (journal call.bay earlier ++ entry_of call ∷ []) told.0 told.1 =
      subst (λ (here : Bool). Replays (first_bay script.mode script.rows script.patience) 0 (if here then journal call.bay earlier ++ entry_of call ∷ [] else journal call.bay earlier) told.0 told.1)
      (same-test call.bay.0) told.2 in
      let last = up-to-last (first_bay script.mode script.rows script.patience) 0 (journal call.bay earlier) (entry_of call) told.0 told.1 own in
      last.reply ∙ ap (λ (b : Bay). (rule b call.ask (is_fault call.answer.reply)).reply) (sym (bay-told call.bay earlier last.mid last.clock last.replays))

  -- calls of hosts whose journals replay are a history
  pub replayed-history : (history : List Call) → AreAsked script history → AllByRecursion (λ (call : Call). call.bay.0 < script.n) history → AllReplay history → IsHistory script history
  replayed-history [] asked within all = tt
  replayed-history (call ∷ earlier) asked within all = (
    replayed-history earlier asked.0 within.1 (all-before call earlier all),
    record {
      asked = asked.1.asked;
      replied =
          ap (λ (clock : ℕ). record { bay = call.bay; ask = call.ask; answer = record { clock = clock; reply = call.answer.reply } }) asked.1.clocked
          ∙ ap (λ (reply : Reply). record { bay = call.bay; ask = call.ask; answer = record { clock = next_clock (clock_at call.bay earlier) call.ask; reply = reply } })
          (last-replied call earlier within.0 all);
    },
  )
