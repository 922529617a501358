-- The simulator's turns: those of the script, and then each host in its turn until all have ended.
use Rattle.std.specs.Prelude.{ℕ, zero, suc, ◌+◌, ◌-◌, ◌^◌, min, nat_le, not, ◌&&◌, Bool, List, [], ◌∷◌, find, Option, Some, None}
use Rattle.std.specs.List.{list_all}
use Rattle.raid_base.specs.declared.numbers.HostNo.{HostNo}
use Rattle.raid_base.specs.declared.messages.Call.{Call}
use Rattle.raid_base.specs.declared.messages.Turn.{Turn}
use Rattle.script_text.specs.Script.{Script, host_numbers}
use Rattle.histories.specs.History.{Faults, has_ended, after_turn, play}

abbrev pub all_ended : Script → List Call → Bool
all_ended script history = list_all (has_ended script history) (host_numbers script)

-- the moment of the last turn, or 0
abbrev pub last_moment : List Turn → ℕ
last_moment [] = 0
last_moment (turn ∷ []) = turn.moment
last_moment (turn ∷ (other ∷ turns)) = last_moment (other ∷ turns)

-- no moment is beyond 2^40 - 1
abbrev pub next_moment : ℕ → ℕ
next_moment moment = min (moment + 1) (2 ^ 40 - 1)

abbrev pub or_first : Option HostNo → Option HostNo → Option HostNo
or_first (Some host) other = Some host
or_first None other = other

-- the next host from this number on, round and round, that has not ended
abbrev pub next_host : Script → List Call → ℕ → Option HostNo
next_host script history from =
    or_first (find (λ (host : HostNo). nat_le from host.0 && not (has_ended script history host)) (host_numbers script))
    (find (λ (host : HostNo). not (has_ended script history host)) (host_numbers script))

abbrev pub round_on : (List Call → ℕ → ℕ → List Call) → Script → Faults → List Call → ℕ → Option HostNo → List Call
round_on rest script faults history moment None = history
round_on rest script faults history moment (Some host) =
    rest (after_turn script faults history (record { host = host; moment = next_moment moment })) (host.0 + 1) (next_moment moment)

-- at most so many turns in rounds, from this host and after this moment
abbrev pub rounds : Script → Faults → ℕ → List Call → ℕ → ℕ → List Call
rounds script faults zero history from moment = history
rounds script faults (suc most) history from moment = round_on (rounds script faults most) script faults history moment (next_host script history from)

-- the simulator's history, with at most so many turns in rounds
abbrev pub sim : Script → Faults → ℕ → List Call
sim script faults most = rounds script faults most (play script faults [] script.turns) 0 (last_moment script.turns)
