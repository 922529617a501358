-- A host that is ready takes what fits its request, and is ready again.
use Rattle.std.proofs.Common.{◌≡◌, ℕ, ◌+◌, ◌-◌, ◌≤◌, List, [], ◌∷◌, length, true, Option, Some, None, sym, ap, subst, ◌∙◌, arith}
use Rattle.std.specs.Vec.{vec_len}
use Rattle.std.proofs.lemmas.List.{length-append}
use Rattle.raid_base.specs.declared.numbers.HostNo.{HostNo}
use Rattle.raid_base.specs.declared.numbers.BayNo.{BayNo}
use Rattle.raid_base.specs.declared.messages.Ask.{Ask}
use Rattle.raid_base.specs.declared.messages.Answer.{Answer}
use Rattle.raid_base.specs.declared.messages.Call.{Call}
use Rattle.raid_base.specs.declared.messages.Errand.{Errand}
use Rattle.raid_base.specs.declared.messages.Reply.{Reply}
use Rattle.raid_base.specs.declared.jobs.Job.{Job}
use Rattle.raid_base.specs.Fits.{fits}
use Rattle.raid_base.specs.Steps.{Steps}
use Rattle.attempts.specs.Taking.{Finish}
use Rattle.attempts.specs.Discipline.{IsWithin}
use Rattle.script_text.specs.Script.{Script}
use Rattle.script_text.specs.Ranges.{IsScript}
use Rattle.histories.specs.Progress.{Progress, Work, Trying, Losing, Fitting, Over, Sent, asks, sent_by, work_errand, takes, at_start}
use Rattle.histories.specs.Plain.{FitsNext}
use Rattle.histories.specs.Bounds.{Keeps, KeepsWork, IsFinish, host_requests, host_contents}
use Rattle.host_engine.specs.Stands.{Stands, sent_pair, CanTake, Takes, IsSentBy, IsFreshHost}
use Rattle.host_engine.specs.Ready.{IsReady}
use Rattle.host_engine.specs.declared.host.Host.{Host}
use Rattle.histories.proofs.bounds.BoundsCounts.{by-one}
use Rattle.histories.proofs.bounds.BoundsMeasures.{KeepsBy, StepsBy, WorkBy, by_requests, keeps-of}
use Rattle.histories.proofs.bounds.BoundsTakes.{keeps-takes, keeps-start}
use Rattle.host_engine.proofs.TakeLemmas.{has-sent}

module _ (script : Script) (is : IsScript script) where
  steps-by : (jobs : List Job) (row tries room : ℕ) (steps : Steps Finish) → KeepsWork script jobs row tries room (Trying steps) → StepsBy script (by_requests script is) jobs row tries room steps
  steps-by [] row tries room steps k = absurd k
  steps-by (job ∷ jobs) row tries room steps k =
      (k.0, k.1, by-one (IsWithin script.n script.rows) (IsFinish script job.task) k.0 steps k.2, k.3)

  work-by : (jobs : List Job) (row tries room : ℕ) (work : Work) → KeepsWork script jobs row tries room work → WorkBy script (by_requests script is) jobs row tries room work
  work-by jobs row tries room (Trying steps) k = steps-by jobs row tries room steps k
  work-by [] row tries room (Losing bay) k = absurd k
  work-by (job ∷ jobs) row tries room (Losing bay) k = k
  work-by [] row tries room (Fitting bay) k = absurd k
  work-by (job ∷ jobs) row tries room (Fitting bay) k = k
  work-by jobs row tries room Over k = tt

  pub keeps-by : (p : Progress) (room contents : ℕ) → Keeps script p room contents → KeepsBy script (by_requests script is) p room contents
  keeps-by p room contents k = record { aims = k.aims; tries = k.tries; row = k.row; work = work-by p.jobs p.row p.tries room p.work k.work; reads = k.reads }

-- a host at its first request
pub ready-fresh : (script : Script) (host : HostNo) (now : Host) → IsScript script → IsFreshHost script host now → IsReady now
ready-fresh script host now is fresh =
    let none : vec_len now.transcript ≡ 0 = now.transcript.ok.0 ∙ ap length fresh.nothing in
    record {
      script = script;
      host = host;
      p = at_start script host;
      requests = host_requests script host;
      contents = host_contents script host;
      ranges = is;
      stands = fresh.stands;
      keeps = keeps-of script is (at_start script host) (host_requests script host) (host_contents script host) (keeps-start script (by_requests script is) host (record { ranges = is }));
      calls = omega (arith, none, fresh.calls);
      reads = fresh.reads;
    }

fits-asked : (host : HostNo) (clock moment : ℕ) (o : Option Errand) (bay : BayNo) (ask : Ask) (reply : Reply) → Some (bay, ask) ≡ sent_pair (sent_by host clock moment o) →
    fits ask.what reply ≡ true → FitsNext o reply
fits-asked host clock moment None bay ask reply is fitting = cc is
fits-asked host clock moment (Some e) bay ask reply is fitting =
    let pair : (bay, ask) ≡ (e.bay, record { host = host; clock = clock; moment = moment; what = e.request }) = cc is in
    let same : ask ≡ record { host = host; clock = clock; moment = moment; what = e.request } = ap (λ (x : BayNo × Ask). x.1) pair in
    subst (λ (a : Ask). fits a.what reply ≡ true) same fitting

-- it may take a reply that fits
pub ready-takes : (now : Host) (moment : ℕ) (given : Answer) (r : IsReady now) (result : Option (BayNo × Ask)) (bay : BayNo) (ask : Ask) →
    ((script : Script) (host : HostNo) (p : Progress) → Stands script host now p → result ≡ sent_pair (asks host p moment)) → result ≡ Some (bay, ask) → fits ask.what given.reply ≡ true →
    CanTake now moment given
ready-takes now moment given r result bay ask next is fitting = record {
  script = r.script;
  host = r.host;
  p = r.p;
  requests = r.requests;
  contents = r.contents;
  stands = r.stands;
  keeps = r.keeps;
  asked = fits-asked r.host r.p.clock moment (work_errand r.p.work) bay ask given.reply (sym is ∙ next r.script r.host r.p r.stands) fitting;
  calls = r.calls;
  reads = r.reads;
}

-- and is ready again
pub ready-again : (old new : Host) (moment : ℕ) (given : Answer) (r : IsReady old) (result : Option (BayNo × Ask)) (bay : BayNo) (ask : Ask) →
    ((script : Script) (host : HostNo) (p : Progress) → Stands script host old p → result ≡ sent_pair (asks host p moment)) → result ≡ Some (bay, ask) → fits ask.what given.reply ≡ true →
    ((sent : Sent) → IsSentBy old moment sent → Takes old new moment given sent) → IsReady new
unfolding ready-takes
ready-again old new moment given r result bay ask next is fitting took =
    let sent = has-sent old moment given (ready-takes old moment given r result bay ask next is fitting) in
    let call : Call = record { bay = sent.0.bay; ask = sent.0.ask; answer = given } in
    let takes_it = took sent.0 sent.1 in
    let kept = keeps-takes r.script (by_requests r.script r.ranges) r.host r.p r.requests r.contents moment call r.ranges (keeps-by r.script r.ranges r.p r.requests r.contents r.keeps) sent.2 in
    let grown : vec_len new.transcript ≡ vec_len old.transcript + 1 =
    new.transcript.ok.0 ∙ ap length takes_it.call ∙ length-append old.transcript.items (call ∷ []) ∙ ap (λ (k : ℕ). k + 1) (sym old.transcript.ok.0) in
    let some : 1 ≤ r.requests = kept.0 in
    record {
      script = r.script;
      host = r.host;
      p = takes r.script r.host r.p call;
      requests = r.requests - 1;
      contents = r.contents;
      ranges = r.ranges;
      stands = takes_it.stands r.script r.host r.p r.stands;
      keeps = keeps-of r.script r.ranges (takes r.script r.host r.p call) (r.requests - 1) r.contents kept.1;
      calls = omega (arith, grown, some, r.calls, takes_it.calls);
      reads = omega (arith, r.reads, takes_it.reads);
    }
