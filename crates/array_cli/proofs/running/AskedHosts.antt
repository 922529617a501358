-- What hosts have asked, each by itself.
use Rattle.std.proofs.Common.{◌≡◌, ℕ, zero, suc, ◌+◌, ◌-◌, ◌^◌, ◌<◌, ◌≤◌, ◌==◌, if◌then◌else◌, Bool, true, false, List, [], ◌∷◌, ◌++◌, length, map, reverse, get_or, refl, ap, subst, arith}
use Rattle.std.specs.List.{All, AllByRecursion, list_all}
use Rattle.std.proofs.lemmas.List.Elements.{All-head, All-tail}
use Rattle.raid_base.specs.declared.numbers.HostNo.{HostNo}
use Rattle.raid_base.specs.declared.messages.Call.{Call}
use Rattle.script_text.specs.Script.{Script}
use Rattle.script_text.specs.Ranges.{Rise}
use Rattle.histories.specs.History.{transcript}
use Rattle.histories.specs.HostRuns.{IsHostRun}
use Rattle.host_engine.specs.declared.host.Host.{Host}
use Rattle.clock_merge.proofs.LineLemmas.{same-host, same-test}
use Rattle.host_workers.specs.Playing.{asked_by, HasRunAlone}
use Rattle.array_cli.specs.Moments.{AreTimely}

-- the calls of a host by its number
abbrev pub calls_by : List Host → HostNo → List Call
calls_by hosts host = asked_by hosts host.0

-- each is a run of that host, of whichever number
pub runs-alone : (script : Script) (hosts : List Host) → All (HasRunAlone script) hosts → (host : HostNo) → IsHostRun script host (reverse (calls_by hosts host))
runs-alone script [] each host = tt
runs-alone script (first ∷ hosts) each host =
    by (first.no.0 == host.0) refl (runs-alone script hosts (All-tail (HasRunAlone script) first hosts each) host) where
      own : HasRunAlone script first
      own = All-head (HasRunAlone script) first hosts each

      by : (here : Bool) → (first.no.0 == host.0) ≡ here → IsHostRun script host (reverse (asked_by hosts host.0)) →
          IsHostRun script host (reverse (if here then first.transcript.items else asked_by hosts host.0))
      by true e rest = subst (λ (number : HostNo). IsHostRun script number (reverse first.transcript.items)) (same-host first.no host e) own.run
      by false e rest = rest

-- and at moments that a request may have
abbrev pub IsTimely : Call → Type 0
IsTimely call = call.ask.moment ≤ 2 ^ 40 - 1

all-timely : (calls : List Call) → All (λ (call : Call). call.ask.moment < 2 ^ 40) calls → AllByRecursion IsTimely calls
all-timely [] all = tt
all-timely (call ∷ calls) all =
    let first : call.ask.moment < 2 ^ 40 = All-head (λ (c : Call). c.ask.moment < 2 ^ 40) call calls all in
    (omega (arith, first), all-timely calls (All-tail (λ (c : Call). c.ask.moment < 2 ^ 40) call calls all))

pub timely-alone : (script : Script) (hosts : List Host) → All (HasRunAlone script) hosts → (host : HostNo) → AllByRecursion IsTimely (calls_by hosts host)
timely-alone script [] each host = tt
timely-alone script (first ∷ hosts) each host =
    by (first.no.0 == host.0) (timely-alone script hosts (All-tail (HasRunAlone script) first hosts each) host) where
      own : HasRunAlone script first
      own = All-head (HasRunAlone script) first hosts each

      by : (here : Bool) → AllByRecursion IsTimely (asked_by hosts host.0) → AllByRecursion IsTimely (if here then first.transcript.items else asked_by hosts host.0)
      by true rest = all-timely first.transcript.items own.moments
      by false rest = rest

-- a history all of whose transcripts are so is so
first-part : (xs : List Call) (x : Call) → AllByRecursion IsTimely (xs ++ x ∷ []) → AllByRecursion IsTimely xs × IsTimely x
first-part [] x all = (tt, all.0)
first-part (y ∷ xs) x all = let rest = first-part xs x all.1 in ((all.0, rest.0), rest.1)

pub timely-together : (history : List Call) → ((host : HostNo) → AllByRecursion IsTimely (transcript host history)) → AreTimely history
timely-together [] all = tt
timely-together (call ∷ earlier) all = (here, timely-together earlier before) where
  here : IsTimely call
  here = (first-part (transcript call.ask.host earlier) call
      (subst (λ (own : Bool). AllByRecursion IsTimely (if own then transcript call.ask.host earlier ++ call ∷ [] else transcript call.ask.host earlier)) (same-test call.ask.host.0)
      (all call.ask.host))).1

  before : (host : HostNo) → AllByRecursion IsTimely (transcript host earlier)
  before host = by (call.ask.host.0 == host.0) (all host) where
    by : (own : Bool) → AllByRecursion IsTimely (if own then transcript host earlier ++ call ∷ [] else transcript host earlier) → AllByRecursion IsTimely (transcript host earlier)
    by true told = (first-part (transcript host earlier) call told).0
    by false told = told

-- Numbers rise, so each host is found under its number
above : (from : ℕ) (hosts : List Host) (k : ℕ) (d : Host) → Rise from (map (λ (host : Host). host.no) hosts) → k < length hosts → from ≤ (get_or hosts k d).no.0
above from [] k d rise inside = absurd (omega arith)
above from (first ∷ hosts) zero d rise inside = rise.0
above from (first ∷ hosts) (suc k) d rise inside =
    let more : first.no.0 + 1 ≤ (get_or hosts k d).no.0 = above (first.no.0 + 1) hosts k d rise.2 (omega (arith, inside)) in
    omega (arith, rise.0, more)

pub asked-own : (from : ℕ) (hosts : List Host) (k : ℕ) (d : Host) → Rise from (map (λ (host : Host). host.no) hosts) → k < length hosts →
    calls_by hosts (get_or hosts k d).no ≡ (get_or hosts k d).transcript.items
asked-own from [] k d rise inside = absurd (omega arith)
asked-own from (first ∷ hosts) zero d rise inside =
    ap (λ (here : Bool). if here then first.transcript.items else asked_by hosts first.no.0) (same-test first.no.0)
asked-own from (first ∷ hosts) (suc k) d rise inside =
    by (first.no.0 == (get_or hosts k d).no.0) refl (asked-own (first.no.0 + 1) hosts k d rise.2 (omega (arith, inside))) where
      more : first.no.0 + 1 ≤ (get_or hosts k d).no.0
      more = above (first.no.0 + 1) hosts k d rise.2 (omega (arith, inside))

      by : (here : Bool) → (first.no.0 == (get_or hosts k d).no.0) ≡ here → asked_by hosts (get_or hosts k d).no.0 ≡ (get_or hosts k d).transcript.items →
          (if here then first.transcript.items else asked_by hosts (get_or hosts k d).no.0) ≡ (get_or hosts k d).transcript.items
      by true e rest =
          let same : first.no.0 ≡ (get_or hosts k d).no.0 = ap (λ (number : HostNo). number.0) (same-host first.no (get_or hosts k d).no e) in
          absurd (omega (arith, more, same))
      by false e rest = rest

-- what is true at each place is true of all
pub all-true : (f : HostNo → Bool) (hosts : List Host) → ((k : ℕ) (d : Host) → k < length hosts → f (get_or hosts k d).no ≡ true) → list_all f (map (λ (host : Host). host.no) hosts) ≡ true
all-true f [] each = refl
all-true f (first ∷ hosts) each =
    let here : f first.no ≡ true = each 0 first (omega arith) in
    let rest : list_all f (map (λ (host : Host). host.no) hosts) ≡ true = all-true f hosts (λ k d inside. each (suc k) d (omega (arith, inside))) in
    cc

pub each-at : {X : Type 0} (P : X → Type 0) (xs : List X) (k : ℕ) (d : X) → All P xs → k < length xs → P (get_or xs k d)
each-at P [] k d all inside = absurd (omega arith)
each-at P (x ∷ xs) zero d all inside = All-head P x xs all
each-at P (x ∷ xs) (suc k) d all inside = each-at P xs k d (All-tail P x xs all) (omega (arith, inside))
