-- Along every history of a script each host has room enough for what is left.
use Rattle.std.proofs.Common.{◌≡◌, ℕ, zero, suc, ◌+◌, ◌-◌, ◌<◌, ◌≤◌, ◌==◌, List, [], ◌∷◌, ◌++◌, length, map, Bool, true, false, cond, if◌then◌else◌, Some, sum_by, refl, sym, ap, subst, arith}
use Rattle.std.specs.List.{All, Contains, find, slice_index_or}
use Rattle.std.proofs.lemmas.List.{length-append}
use Rattle.std.proofs.lemmas.List.Sums.{sum_by-cons}
use Rattle.std.proofs.lemmas.List.Elements.{All-nil, All-cons, All-head, All-tail}
use Rattle.std.proofs.lemmas.Bool.Decides.{nat_tests}
use Rattle.raid_base.specs.declared.numbers.HostNo.{HostNo}
use Rattle.raid_base.specs.declared.numbers.BayNo.{BayNo}
use Rattle.raid_base.specs.declared.messages.Call.{Call}
use Rattle.raid_base.specs.declared.messages.Entry.{Entry}
use Rattle.raid_base.specs.declared.messages.Errand.{Errand}
use Rattle.raid_base.specs.Steps.{errand_of}
use Rattle.raid_base.specs.declared.jobs.Job.{Job}
use Rattle.script_text.specs.Script.{Script, HostJobs, jobs_in, host_numbers}
use Rattle.histories.specs.Progress.{Progress, Sent, asks, takes, at_start}
use Rattle.histories.specs.History.{if_taken, progress_at, transcript, journal, entry_of}
use Rattle.histories.specs.Asked.{IsAsked, AreAsked}
use Rattle.histories.specs.Bounds.{IsPlayable, host_requests, host_contents, job_requests}
use Rattle.histories.specs.HostLaws.{IsBounded, RequestsAreBounded}
use Rattle.histories.proofs.bounds.BoundsCounts.{one}
use Rattle.histories.proofs.bounds.BoundsMeasures.{Measure, host_most, KeepsBy, by_requests, keeps-of}
use Rattle.histories.proofs.bounds.BoundsTakes.{keeps-start, keeps-takes}
use Rattle.histories.proofs.bounds.BoundsClocks.{clocks-at-most}

-- Sums
pub sums-le : {X : Type 0} (f g : X → ℕ) → ((x : X) → f x ≤ g x) → (xs : List X) → sum_by f xs ≤ sum_by g xs
sums-le f g le [] = omega arith
sums-le f g le (x ∷ xs) = omega (arith, sum_by-cons f x xs, sum_by-cons g x xs, le x, sums-le f g le xs)

pub sums-more : {X : Type 0} (f g : X → ℕ) (one : X) → ((x : X) → f x ≤ g x) → f one + 1 ≤ g one → (xs : List X) (k : ℕ) → k < length xs → slice_index_or xs k one ≡ one →
    sum_by f xs + 1 ≤ sum_by g xs
sums-more f g one le more [] k inside is = absurd (omega arith)
sums-more f g one le more (x ∷ xs) zero inside is =
    let here : f x + 1 ≤ g x = subst (λ y. f y + 1 ≤ g y) (sym is) more in
    omega (arith, sum_by-cons f x xs, sum_by-cons g x xs, here, sums-le f g le xs)
sums-more f g one le more (x ∷ xs) (suc k) inside is =
    omega (arith, sum_by-cons f x xs, sum_by-cons g x xs, le x, sums-more f g one le more xs k (omega arith) is)

-- the transcript of a host
same-host : (a b : HostNo) → (a.0 == b.0) ≡ true → a ≡ b
same-host a b e = let same : a.0 ≡ b.0 = grind (arith, nat_tests) in ap (λ (k : ℕ). record { 0 = k }) same

with-call : (before : List Call) (call : Call) (here : Bool) → length before ≤ length (if here then before ++ call ∷ [] else before)
with-call before call true = omega (arith, length-append before (call ∷ []))
with-call before call false = omega arith

own-call : (before : List Call) (call : Call) (k : ℕ) (here : Bool) → (k == k) ≡ here → length before + 1 ≤ length (if here then before ++ call ∷ [] else before)
own-call before call k true e = omega (arith, length-append before (call ∷ []))
own-call before call k false e = absurd (grind (arith, nat_tests))

-- each call is in the transcript of its host
all-counted : (hosts : List HostNo) (history : List Call) → All (λ (call : Call). Contains hosts call.ask.host) history →
    length history ≤ sum_by (λ (host : HostNo). length (transcript host history)) hosts
all-counted hosts [] among = omega arith
all-counted hosts (call ∷ earlier) among =
    let at = All-head (λ (c : Call). Contains hosts c.ask.host) call earlier among in
    let f : HostNo → ℕ = λ host. length (transcript host earlier) in
    let g : HostNo → ℕ = λ host. length (transcript host (call ∷ earlier)) in
    omega (
      arith,
      all-counted hosts earlier (All-tail (λ (c : Call). Contains hosts c.ask.host) call earlier among),
      sums-more f g call.ask.host (λ host. with-call (transcript host earlier) call (call.ask.host.0 == host.0))
          (own-call (transcript call.ask.host earlier) call call.ask.host.0 (call.ask.host.0 == call.ask.host.0) refl) hosts at.0 at.1 at.2,
    )

-- a bay's journal
with-entry : (before : List Entry) (entry : Entry) (most : ℕ) (here : Bool) → length before ≤ most → length (if here then before ++ entry ∷ [] else before) ≤ most + 1
with-entry before entry most true few = omega (arith, length-append before (entry ∷ []))
with-entry before entry most false few = omega arith

journal-few : (bay : BayNo) (history : List Call) → length (journal bay history) ≤ length history
journal-few bay [] = omega arith
journal-few bay (call ∷ earlier) = omega (arith, with-entry (journal bay earlier) (entry_of call) (length earlier) (call.bay.0 == bay.0) (journal-few bay earlier))

-- a host that may ask is one of the script
listed : (f : Job → ℕ) (host : HostNo) (hosts : List HostJobs) → 1 ≤ sum_by f (jobs_in (find (λ (h : HostJobs). h.host.0 == host.0) hosts)) →
    Contains (map (λ (h : HostJobs). h.host) hosts) host
listed f host [] some = absurd (omega arith)
listed f host (first ∷ hosts) some = by (first.host.0 == host.0) refl some (listed f host hosts)
  where
    by : (b : Bool) → (first.host.0 == host.0) ≡ b → 1 ≤ sum_by f (jobs_in (cond b (Some first) (find (λ (h : HostJobs). h.host.0 == host.0) hosts))) →
        (1 ≤ sum_by f (jobs_in (find (λ (h : HostJobs). h.host.0 == host.0) hosts)) → Contains (map (λ (h : HostJobs). h.host) hosts) host) →
        Contains (first.host ∷ map (λ (h : HostJobs). h.host) hosts) host
    by true is some rest = (0, omega arith, same-host first.host host is)
    by false is some rest = let at = rest some in (suc at.0, omega (arith, at.1), at.2)

-- how much the calls of a host count
abbrev pub if_counted : (Errand → ℕ) → ℕ → Call → Bool → ℕ
if_counted f before call true = before + f (errand_of call)
if_counted f before call false = before

abbrev pub counted : (Errand → ℕ) → HostNo → List Call → ℕ
counted f host [] = 0
counted f host (call ∷ earlier) = if_counted f (counted f host earlier) call (call.ask.host.0 == host.0)

counted-calls : (host : HostNo) (history : List Call) → counted one host history ≡ length (transcript host history)
counted-calls host [] = refl
counted-calls host (call ∷ earlier) = by (call.ask.host.0 == host.0) (counted-calls host earlier)
  where
    by : (here : Bool) → counted one host earlier ≡ length (transcript host earlier) →
        if_counted one (counted one host earlier) call here ≡ length (if here then transcript host earlier ++ call ∷ [] else transcript host earlier)
    by true same = omega (arith, same, length-append (transcript host earlier) (call ∷ []))
    by false same = same

module _ (script : Script) (is : IsPlayable script) where
  module _ (m : Measure script) where
    -- what a host may still do
    pub record Along (host : HostNo) (p : Progress) (done : ℕ) : Type 0 where
      pub keeps : KeepsBy script m p (host_most script m host - done) (host_contents script host)
      pub few : done ≤ host_most script m host

    pub along-start : (host : HostNo) → Along host (at_start script host) 0
    along-start host =
        let all : host_most script m host ≡ host_most script m host - 0 = omega arith in
        record {
          keeps = subst (λ (r : ℕ). KeepsBy script m (at_start script host) r (host_contents script host)) all (keeps-start script m host is);
          few = omega arith;
        }

    -- its own call
    pub along-call : (host : HostNo) (p : Progress) (done : ℕ) (call : Call) (moment : ℕ) → Along host p done → asks host p moment ≡ Some (record { bay = call.bay; ask = call.ask }) →
        (m.count (errand_of call) ≤ host_most script m host) × Along host (takes script host p call) (done + m.count (errand_of call))
    along-call host p done call moment along asked =
        let few = along.few in
        let taken = keeps-takes script m host p (host_most script m host - done) (host_contents script host) moment call is.ranges along.keeps asked in
        let some = taken.0 in
        let left : host_most script m host - done - m.count (errand_of call) ≡ host_most script m host - (done + m.count (errand_of call)) = omega arith in (
          omega arith,
          record {
            keeps = subst (λ (r : ℕ). KeepsBy script m (takes script host p call) r (host_contents script host)) left taken.1;
            few = omega arith;
          },
        )

    along-step : (host : HostNo) (call : Call) (earlier : List Call) → IsAsked script earlier call → (here : Bool) → (call.ask.host.0 == host.0) ≡ here →
        Along host (progress_at script host earlier) (counted m.count host earlier) →
        Along host (if_taken script host (progress_at script host earlier) call here) (if_counted m.count (counted m.count host earlier) call here)
    along-step host call earlier next true at along =
        let sent : Sent = record { bay = call.bay; ask = call.ask } in
        let asked = subst (λ (h : HostNo). asks h (progress_at script h earlier) call.ask.moment ≡ Some sent) (same-host call.ask.host host at) next.asked in
        (along-call host (progress_at script host earlier) (counted m.count host earlier) call call.ask.moment along asked).1
    along-step host call earlier next false at along = along

    pub along-history : (host : HostNo) (history : List Call) → AreAsked script history → Along host (progress_at script host history) (counted m.count host history)
    along-history host [] h = along-start host
    along-history host (call ∷ earlier) h = along-step host call earlier h.1 (call.ask.host.0 == host.0) refl (along-history host earlier h.0)

  -- all requests count
  along : (host : HostNo) (history : List Call) → AreAsked script history → Along (by_requests script is.ranges) host (progress_at script host history) (length (transcript host history))
  along host history h = subst (λ (k : ℕ). Along (by_requests script is.ranges) host (progress_at script host history) k) (counted-calls host history)
      (along-history (by_requests script is.ranges) host history h)

  -- a call is of a host of the script
  caller-listed : (call : Call) (earlier : List Call) → AreAsked script earlier → IsAsked script earlier call → Contains (host_numbers script) call.ask.host
  caller-listed call earlier h next =
      let host = call.ask.host in
      let some = along-call (by_requests script is.ranges) host (progress_at script host earlier) (length (transcript host earlier)) call call.ask.moment (along host earlier h) next.asked in
      listed (job_requests script) host script.hosts some.0

  pub callers-listed : (history : List Call) → AreAsked script history → All (λ (call : Call). Contains (host_numbers script) call.ask.host) history
  callers-listed [] h = All-nil (λ (call : Call). Contains (host_numbers script) call.ask.host)
  callers-listed (call ∷ earlier) h =
      All-cons (λ (c : Call). Contains (host_numbers script) c.ask.host) call earlier (caller-listed call earlier h.0 h.1) (callers-listed earlier h.0)

  bounded : (history : List Call) → AreAsked script history → IsBounded script history
  bounded history h =
      let clocks = clocks-at-most script history h in
      let callers = callers-listed history h in
      let few : (host : HostNo) → length (transcript host history) ≤ host_requests script host = λ host. (along host history h).few in
      record {
        keeps = λ host. keeps-of script is.ranges (progress_at script host history) (host_requests script host - length (transcript host history)) (host_contents script host)
            (along host history h).keeps;
        transcripts = few;
        callers = callers;
        calls = omega (
          arith,
          all-counted (host_numbers script) history callers,
          sums-le (λ (host : HostNo). length (transcript host history)) (host_requests script) few (host_numbers script),
        );
        journals = λ bay. journal-few bay history;
        bay_clocks = clocks.bays;
        host_clocks = clocks.hosts;
        answers = clocks.answers;
      }

pub requests_are_bounded : RequestsAreBounded
requests_are_bounded script history is h = bounded script is history h
