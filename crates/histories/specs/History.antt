-- A play as one list of calls, the newest first. Everything else is read off it.
use Rattle.std.specs.Prelude.{◌≡◌, ℕ, ◌==◌, ◌&&◌, Bool, true, false, if◌then◌else◌, List, [], ◌∷◌, ◌++◌, length, Option, Some, None}
use Rattle.raid_base.specs.declared.numbers.HostNo.{HostNo}
use Rattle.raid_base.specs.declared.numbers.BayNo.{BayNo}
use Rattle.raid_base.specs.declared.messages.Call.{Call}
use Rattle.raid_base.specs.declared.messages.Entry.{Entry}
use Rattle.raid_base.specs.declared.messages.Turn.{Turn}
use Rattle.raid_base.specs.Replies.{is_fault}
use Rattle.slot_rules.specs.Slots.{Bay, first_bay}
use Rattle.slot_rules.specs.Rules.{rule}
use Rattle.slot_rules.specs.Replay.{next_clock}
use Rattle.script_text.specs.Script.{Script}
use Rattle.histories.specs.Progress.{Progress, Ending, Sent, at_start, takes, asks, is_over}

-- where a host stands: it has taken its calls one after another
abbrev pub if_taken : Script → HostNo → Progress → Call → Bool → Progress
if_taken script host p call true = takes script host p call
if_taken script host p call false = p

abbrev pub progress_at : Script → HostNo → List Call → Progress
progress_at script host [] = at_start script host
progress_at script host (call ∷ earlier) = if_taken script host (progress_at script host earlier) call (call.ask.host.0 == host.0)

-- a bay: the rule, call after call
abbrev pub if_ruled : Bay → Call → Bool → Bay
if_ruled bay call true = (rule bay call.ask (is_fault call.answer.reply)).bay
if_ruled bay call false = bay

abbrev pub bay_at : Script → BayNo → List Call → Bay
bay_at script bay [] = first_bay script.mode script.rows script.patience
bay_at script bay (call ∷ earlier) = if_ruled (bay_at script bay earlier) call (call.bay.0 == bay.0)

-- the clock of a bay
abbrev pub clock_at : BayNo → List Call → ℕ
clock_at bay [] = 0
clock_at bay (call ∷ earlier) = if call.bay.0 == bay.0 then call.answer.clock else clock_at bay earlier

-- the journal of a bay and the transcript of a host, the oldest first
abbrev pub entry_of : Call → Entry
entry_of call = record { ask = call.ask; clock = call.answer.clock; reply = call.answer.reply }

abbrev pub journal : BayNo → List Call → List Entry
journal bay [] = []
journal bay (call ∷ earlier) = let before = journal bay earlier in if call.bay.0 == bay.0 then before ++ entry_of call ∷ [] else before

abbrev pub transcript : HostNo → List Call → List Call
transcript host [] = []
transcript host (call ∷ earlier) = let before = transcript host earlier in if call.ask.host.0 == host.0 then before ++ call ∷ [] else before

-- the turns that handled a request, the oldest first
abbrev pub turn_of : Call → Turn
turn_of call = record { host = call.ask.host; moment = call.ask.moment }

abbrev pub turns_of : List Call → List Turn
turns_of [] = []
turns_of (call ∷ earlier) = turns_of earlier ++ turn_of call ∷ []

-- the jobs that have ended
abbrev pub endings_at : Script → List Call → HostNo → List Ending
endings_at script history host = (progress_at script host history).endings

abbrev pub has_ended : Script → List Call → HostNo → Bool
has_ended script history host = is_over (progress_at script host history).work

-- what a bay answers to an ask
abbrev pub answered : Script → List Call → Sent → Bool → Call
answered script earlier sent fails = record {
  bay = sent.bay;
  ask = sent.ask;
  answer = record {
    clock = next_clock (clock_at sent.bay earlier) sent.ask;
    reply = (rule (bay_at script sent.bay earlier) sent.ask fails).reply;
  };
}

-- the call is the next of its host, and its answer is the bay's
pub record IsNext (script : Script) (earlier : List Call) (call : Call) : Type 0 where
  pub asked : asks call.ask.host (progress_at script call.ask.host earlier) call.ask.moment ≡ Some (record { bay = call.bay; ask = call.ask })
  pub replied : call ≡ answered script earlier (record { bay = call.bay; ask = call.ask }) (is_fault call.answer.reply)

-- the script may give this history, one call after another
abbrev pub IsHistory : Script → List Call → Type 0
IsHistory script [] = Unit {0}
IsHistory script (call ∷ earlier) = IsHistory script earlier × IsNext script earlier call

-- Play. Whether the store of a bay fails at a place of its journal
abbrev pub Faults : Type 0
Faults = BayNo → ℕ → Bool

abbrev pub no_faults : Faults
no_faults bay place = false

-- the faults that a history tells
abbrev pub faults_in : List Call → Faults
faults_in [] bay place = false
faults_in (call ∷ earlier) bay place =
    let before = faults_in earlier bay place in
    if (call.bay.0 == bay.0) && (length (journal bay earlier) == place) then is_fault call.answer.reply else before

abbrev pub after_sent : Script → Faults → List Call → Option Sent → List Call
after_sent script faults earlier None = earlier
after_sent script faults earlier (Some sent) = answered script earlier sent (faults sent.bay (length (journal sent.bay earlier))) ∷ earlier

-- one turn: the host's next request is answered. A turn of a host that has ended changes nothing
abbrev pub after_turn : Script → Faults → List Call → Turn → List Call
after_turn script faults earlier turn = after_sent script faults earlier (asks turn.host (progress_at script turn.host earlier) turn.moment)

-- the history after these turns, the first of them first
abbrev pub play : Script → Faults → List Call → List Turn → List Call
play script faults history [] = history
play script faults history (turn ∷ turns) = play script faults (after_turn script faults history turn) turns
