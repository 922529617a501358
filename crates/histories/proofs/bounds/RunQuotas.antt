-- The run of a host by itself asks no bay more often than its quota.
use Rattle.std.proofs.Common.{◌≡◌, ℕ, ◌+◌, ◌-◌, ◌==◌, List, [], ◌∷◌, length, Bool, true, false, refl, ap, subst, arith, eq-eqb}
use Rattle.raid_base.specs.declared.numbers.HostNo.{HostNo}
use Rattle.raid_base.specs.declared.messages.Call.{Call}
use Rattle.script_text.specs.Script.{Script}
use Rattle.histories.specs.History.{if_taken, progress_at}
use Rattle.histories.specs.Bounds.{IsPlayable, host_requests, host_contents}
use Rattle.histories.specs.HostRuns.{IsHostRun, HostRunsKeepQuotas}
use Rattle.histories.proofs.bounds.BoundsCounts.{one}
use Rattle.histories.proofs.bounds.BoundsMeasures.{Measure, by_requests, by_weights, keeps-of}
use Rattle.histories.proofs.bounds.BoundsHistory.{Along, along-start, along-call, if_counted, counted}
use Rattle.histories.proofs.bounds.Quotas.{counted-at}

-- all calls of a run are its host's
all-own : (script : Script) (host : HostNo) (calls : List Call) → IsHostRun script host calls → counted one host calls ≡ length calls
all-own script host [] run = refl
all-own script host (call ∷ earlier) run =
    let own : (call.ask.host.0 == host.0) ≡ true = eq-eqb call.ask.host.0 host.0 (ap (λ (h : HostNo). h.0) run.1) in
    let one_more : counted one host (call ∷ earlier) ≡ counted one host earlier + 1 = ap (λ (b : Bool). if_counted one (counted one host earlier) call b) own in
    omega (arith, one_more, all-own script host earlier run.0)

module _ (script : Script) (is : IsPlayable script) (m : Measure script) (host : HostNo) where
  -- what the host may still do after its run
  pub along-run : (calls : List Call) → IsHostRun script host calls → Along script is m host (progress_at script host calls) (counted m.count host calls)
  along-run [] run = along-start script is m host
  along-run (call ∷ earlier) run = by (call.ask.host.0 == host.0) (eq-eqb call.ask.host.0 host.0 (ap (λ (h : HostNo). h.0) run.1)) (along-run earlier run.0) where
    by : (own : Bool) → own ≡ true → Along script is m host (progress_at script host earlier) (counted m.count host earlier) →
        Along script is m host (if_taken script host (progress_at script host earlier) call own) (if_counted m.count (counted m.count host earlier) call own)
    by true e along = (along-call script is m host (progress_at script host earlier) (counted m.count host earlier) call call.ask.moment along run.3).1
    by false e along = absurd (cc)

pub host_runs_keep_quotas : HostRunsKeepQuotas
host_runs_keep_quotas script host calls is run =
    let along : Along script is (by_requests script is.ranges) host (progress_at script host calls) (length calls) =
    subst (λ (k : ℕ). Along script is (by_requests script is.ranges) host (progress_at script host calls) k) (all-own script host calls run)
    (along-run script is (by_requests script is.ranges) host calls run) in
    record {
      asked = λ bay. omega (arith, counted-at host bay calls, (along-run script is (by_weights script is.ranges bay) host calls run).few);
      all = along.few;
      keeps = keeps-of script is.ranges (progress_at script host calls) (host_requests script host - length calls) (host_contents script host) along.keeps;
    }
