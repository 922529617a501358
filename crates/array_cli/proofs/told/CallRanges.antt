-- Each call of a history keeps to the ranges of its script, and so do the calls of each job that has ended.
use Rattle.std.proofs.Common.{ℕ, ◌^◌, ◌<◌, ◌≤◌, ◌==◌, Bool, true, false, List, [], ◌∷◌, sym, ap, subst}
use Rattle.std.specs.List.{AllByRecursion}
use Rattle.raid_base.specs.declared.numbers.BayNo.{BayNo}
use Rattle.raid_base.specs.declared.numbers.HostNo.{HostNo}
use Rattle.raid_base.specs.declared.numbers.Number.{Number}
use Rattle.raid_base.specs.declared.messages.Call.{Call}
use Rattle.raid_base.specs.declared.messages.Request.{Request}
use Rattle.raid_base.specs.declared.messages.Request.TheVariants.{Share, Claim, Confirm, Put, Release, Lose, Fit}
use Rattle.raid_base.specs.declared.jobs.Job.{Job}
use Rattle.raid_base.specs.declared.jobs.Task.{Task}
use Rattle.raid_base.specs.Replies.{is_fault}
use Rattle.raid_base.specs.Steps.{errand_of}
use Rattle.slot_rules.specs.Slots.{Bay}
use Rattle.attempts.specs.Numbering.{ShowsNumber}
use Rattle.attempts.specs.Discipline.{IsNumber, IsAskable, IsWithin as IsAskedIn}
use Rattle.script_text.specs.Script.{Script}
use Rattle.script_text.specs.Ranges.{IsScript}
use Rattle.script_text.specs.Weights.{total}
use Rattle.histories.specs.Progress.{Progress, Ending}
use Rattle.histories.specs.History.{if_taken, progress_at, if_ruled, bay_at, endings_at, IsHistory}
use Rattle.histories.proofs.accesses.AccessIds.{all-apart, asker-few}
use Rattle.histories.proofs.bounds.BoundsTakes.{asks-within}
use Rattle.histories.proofs.bounds.BoundsHistory.{requests_are_bounded}
use Rattle.histories.proofs.endings.EndingCalls.{OfFirst, Kept, takes-kept, starts-bare}
use Rattle.histories.proofs.smallness.SmallHistory.{are-asked, numbers_stay_small}
use Rattle.array_cli.proofs.told.HolderSlots.{AsksSo, NamesSo, BaySo, rule-so, first-bay-so}

-- a host, and an id of an attempt
abbrev pub IsOne : HostNo → Number → Type 0
IsOne host id = (host.0 < 16) × IsNumber id

-- what is known of a call
pub record CallIn (script : Script) (call : Call) : Type 0 where
  pub asked : IsAskedIn script.n script.rows (errand_of call)
  pub names : NamesSo IsOne call.answer.reply
  pub shown : (n : Number) → ShowsNumber call.answer.reply n → n.0 < 2 ^ 26

asks-so : (rows : ℕ) (host : HostNo) → host.0 < 16 → (what : Request) → IsAskable rows what → AsksSo IsOne host what
asks-so rows host few (Share row id want) a = (few, a.1)
asks-so rows host few (Claim row id how mask want) a = (few, a.1)
asks-so rows host few (Confirm row id want) a = tt
asks-so rows host few (Put row id n cell) a = tt
asks-so rows host few (Release row id n) a = tt
asks-so rows host few Lose a = tt
asks-so rows host few Fit a = tt

module _ (script : Script) (is : IsScript script) (light : total script ≤ 2 ^ 20) where
  -- all calls, and all bays
  record AllIn (history : List Call) : Type 0 where
    calls : AllByRecursion (CallIn script) history
    bays : (bay : BayNo) → BaySo IsOne (bay_at script bay history)

  module _ (earlier : List Call) (call : Call) (h : IsHistory script (call ∷ earlier)) (all : AllIn earlier) where
    within : IsAskedIn script.n script.rows (errand_of call)
    within =
        asks-within script call.ask.host (progress_at script call.ask.host earlier) _ _ call.ask.moment (record { bay = call.bay; ask = call.ask })
        ((requests_are_bounded script earlier (record { ranges = is }) (are-asked script is earlier h.0)).keeps call.ask.host) h.1.asked

    few : call.ask.host.0 < 16
    few = asker-few script is earlier call h.1 (all-apart script is earlier h.0)

    abbrev fails : Bool
    fails = is_fault call.answer.reply

    asks : AsksSo IsOne call.ask.host call.ask.what
    asks = asks-so script.rows call.ask.host few call.ask.what within.request

    named : NamesSo IsOne call.answer.reply
    named = subst (NamesSo IsOne) (sym (ap (λ (c : Call). c.answer.reply) h.1.replied)) (rule-so IsOne (bay_at script call.bay earlier) call.ask fails (all.bays call.bay) asks).reply

    bay-step : (bay : Bay) (here : Bool) → BaySo IsOne bay → BaySo IsOne (if_ruled bay call here)
    bay-step bay true b = (rule-so IsOne bay call.ask fails b asks).bay
    bay-step bay false b = b

    one-in : AllIn (call ∷ earlier)
    one-in = record {
      calls = (record { asked = within; names = named; shown = ((numbers_stay_small script (call ∷ earlier) is light h).0.0).shown }, all.calls);
      bays = λ bay. bay-step (bay_at script bay earlier) (call.bay.0 == bay.0) (all.bays bay);
    }

  all-in : (history : List Call) → IsHistory script history → AllIn history
  all-in [] h = record { calls = tt; bays = λ bay. first-bay-so IsOne script.mode script.rows script.patience }
  all-in (call ∷ earlier) h = one-in earlier call h (all-in earlier h.0)

  pub calls-in : (history : List Call) → IsHistory script history → AllByRecursion (CallIn script) history
  calls-in history h = (all-in history h).calls

  -- the calls of a job
  abbrev pub TaskIn : Task → List Call → Type 0
  TaskIn task calls = AllByRecursion (CallIn script) calls

  bare-in : (task : Task) → TaskIn task []
  bare-in task = tt

  module _ (host : HostNo) where
    first-in : (jobs : List Job) (call : Call) (calls : List Call) → CallIn script call → OfFirst script host TaskIn bare-in jobs calls → OfFirst script host TaskIn bare-in jobs (call ∷ calls)
    first-in [] call calls one rest = tt
    first-in (job ∷ jobs) call calls one rest = (one, rest)

    kept-in : (history : List Call) → AllByRecursion (CallIn script) history → Kept script host TaskIn bare-in (progress_at script host history)
    kept-in [] all = starts-bare script host TaskIn bare-in
    kept-in (call ∷ earlier) all = by (call.ask.host.0 == host.0) (kept-in earlier all.1)
      where
        p : Progress
        p = progress_at script host earlier

        by : (b : Bool) → Kept script host TaskIn bare-in p → Kept script host TaskIn bare-in (if_taken script host p call b)
        by true k = takes-kept script host TaskIn bare-in p call k (first-in p.jobs call p.calls all.0 k.now)
        by false k = k

  pub endings-in : (history : List Call) → IsHistory script history → (host : HostNo) → AllByRecursion (λ (e : Ending). AllByRecursion (CallIn script) e.calls) (endings_at script history host)
  endings-in history h host = (kept-in host history (calls-in history h)).before
