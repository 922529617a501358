-- A journal is a run of the rule.
use Rattle.std.specs.Prelude.{◌≡◌, ℕ, ◌+◌, max, List, [], ◌∷◌}
use Rattle.raid_base.specs.declared.messages.Ask.{Ask}
use Rattle.raid_base.specs.declared.messages.Entry.{Entry}
use Rattle.raid_base.specs.Replies.{is_fault}
use Rattle.slot_rules.specs.Slots.{Bay}
use Rattle.slot_rules.specs.Rules.{rule}

-- one above the greater of the bay's clock and the ask's
abbrev pub next_clock : ℕ → Ask → ℕ
next_clock clock ask = max clock ask.clock + 1

-- from this bay and clock the entries, the oldest first, lead to those
abbrev pub Replays : Bay → ℕ → List Entry → Bay → ℕ → Type 0
Replays bay clock [] bay' clock' = (bay ≡ bay') × (clock ≡ clock')
Replays bay clock (entry ∷ entries) bay' clock' =
    (entry.reply ≡ (rule bay entry.ask (is_fault entry.reply)).reply)
    × (entry.clock ≡ next_clock clock entry.ask)
    × Replays (rule bay entry.ask (is_fault entry.reply)).bay entry.clock entries bay' clock'
