-- The report of a play is a serial one.
use Rattle.std.proofs.Common.{◌≡◌, ℕ, zero, suc, ◌+◌, ◌<◌, ◌≤◌, ◌==◌, Bool, true, false, cond, List, [], ◌∷◌, ◌++◌, map, take, length, get_or, Option, Some, None, refl, sym, ap, subst, ◌∙◌, arith}
use Rattle.std.specs.Prelude.{flat_map, filter, find, slice_get, IsPermutation}
use Rattle.std.specs.List.{cons_option, enumerate_from, filter_map, range_with_len, zip}
use Rattle.std.proofs.lemmas.Bool.Decides.{nat_tests}
use Rattle.std.proofs.lemmas.List.{append-nil, map-append}
use Rattle.std.proofs.lemmas.List.Elements.{filter-append}
use Rattle.raid_base.specs.declared.numbers.HostNo.{HostNo}
use Rattle.raid_base.specs.declared.cells.Content.{Content}
use Rattle.raid_base.specs.declared.cells.Shown.{Shown}
use Rattle.raid_base.specs.declared.cells.Shown.TheVariants.{Seen}
use Rattle.raid_base.specs.declared.messages.Call.{Call}
use Rattle.raid_base.specs.declared.jobs.Job.{Job}
use Rattle.raid_base.specs.declared.jobs.JobResult.{JobResult}
use Rattle.virtual_objects.specs.Objects.{Address}
use Rattle.script_text.specs.Script.{Script, HostJobs, host_numbers, jobs_of, jobs_in}
use Rattle.script_text.specs.Ranges.{IsScript, Rise}
use Rattle.report_text.specs.Views.{object_blocks}
use Rattle.histories.specs.Progress.{Ending}
use Rattle.histories.specs.History.{endings_at, IsHistory}
use Rattle.histories.specs.Turns.{all_ended}
use Rattle.histories.specs.Endings.{AreEndings}
use Rattle.histories.specs.Results.{result_of, shown_block}
use Rattle.histories.proofs.endings.EndingLemmas.{endings_are_filled}
use Rattle.histories.proofs.steps.SameNumbers.{same-host}
use Rattle.serial_array.specs.Serial.{Array, IsSerial, HasResults, Reported, numbered}
use Rattle.serial_laws.specs.Headline.{IsSerialPlay, reported, reported_at}
use Rattle.serial_laws.proofs.serial.Serial.{plays_are_serial}
use Rattle.schedule_play.specs.Reported.{report_of}
use Rattle.array_cli.specs.SerialReports.{IsSerialReport, results_in, reported_in, with_job}

-- a result with what it read
abbrev Line : Type 0
Line = JobResult × List Content

abbrev is_of : HostNo → Line → Bool
is_of host r = r.0.host.0 == host.0

abbrev line_at : HostNo → ℕ → Ending → Line
line_at host job e = (record { host = host; job = job; «end» = e.ended }, e.contents)

-- the results of a host, from this job on
abbrev lines_from : HostNo → ℕ → List Ending → List Line
lines_from host job [] = []
lines_from host job (e ∷ es) = line_at host job e ∷ lines_from host (job + 1) es

-- Each result stands beside what it read.
zip-own : (host : HostNo) (job : ℕ) (es : List Ending) (rs : List JobResult) (cs : List (List Content)) →
    zip (map (result_of host) (enumerate_from job es) ++ rs) (map (λ (e : Ending). e.contents) es ++ cs) ≡ lines_from host job es ++ zip rs cs
zip-own host job [] rs cs = refl
zip-own host job (e ∷ es) rs cs = ap (λ (lines : List Line). line_at host job e ∷ lines) (zip-own host (job + 1) es rs cs)

module _ (endings : HostNo → List Ending) where
  abbrev results_of : HostNo → List JobResult
  results_of host = map (result_of host) (enumerate_from 0 (endings host))

  abbrev lines_of : HostNo → List Line
  lines_of host = lines_from host 0 (endings host)

  zip-all : (hosts : List HostNo) →
      zip (flat_map results_of hosts) (map (λ (e : Ending). e.contents) (flat_map endings hosts)) ≡ flat_map lines_of hosts
  zip-all [] = refl
  zip-all (host ∷ hosts) =
      ap (λ (cs : List (List Content)). zip (results_of host ++ flat_map results_of hosts) cs) (map-append (λ (e : Ending). e.contents) (endings host) (flat_map endings hosts))
      ∙ zip-own host 0 (endings host) (flat_map results_of hosts) (map (λ (e : Ending). e.contents) (flat_map endings hosts))
      ∙ ap (λ (lines : List Line). lines_of host ++ lines) (zip-all hosts)

-- Those of one host are told apart by its number.
is-itself : (n : ℕ) → (n == n) ≡ true
is-itself n = grind (arith, nat_tests)

filter-own : (host : HostNo) (job : ℕ) (es : List Ending) → filter (is_of host) (lines_from host job es) ≡ lines_from host job es
filter-own host job [] = refl
filter-own host job (e ∷ es) =
    let rest = filter (is_of host) (lines_from host (job + 1) es) in
    ap (λ (b : Bool). cond b (line_at host job e ∷ rest) rest) (is-itself host.0)
    ∙ ap (λ (lines : List Line). line_at host job e ∷ lines) (filter-own host (job + 1) es)

filter-other : (host other : HostNo) (job : ℕ) (es : List Ending) → (other.0 == host.0) ≡ false → filter (is_of host) (lines_from other job es) ≡ []
filter-other host other job [] apart = refl
filter-other host other job (e ∷ es) apart =
    let rest = filter (is_of host) (lines_from other (job + 1) es) in
    ap (λ (b : Bool). cond b (line_at other job e ∷ rest) rest) apart
    ∙ filter-other host other (job + 1) es apart

module _ (endings : HostNo → List Ending) (host : HostNo) where
  abbrev own : List HostJobs → List Line
  own hosts = filter (is_of host) (flat_map (lines_of endings) (map (λ (h : HostJobs). h.host) hosts))

  -- none of them is among hosts of greater numbers
  none-above : (from : ℕ) (hosts : List HostJobs) → Rise from (map (λ (h : HostJobs). h.host) hosts) → host.0 < from → own hosts ≡ []
  none-above from [] rise low = refl
  none-above from (h ∷ hosts) rise low =
      let least : from ≤ h.host.0 = rise.0 in
      let apart : (h.host.0 == host.0) ≡ false = grind (arith, nat_tests) in
      filter-append (is_of host) (lines_of endings h.host) (flat_map (lines_of endings) (map (λ (x : HostJobs). x.host) hosts))
      ∙ ap (λ (lines : List Line). lines ++ own hosts) (filter-other host h.host 0 (endings h.host) apart)
      ∙ none-above (h.host.0 + 1) hosts rise.2 (let later : host.0 < h.host.0 + 1 = omega (arith, least, low) in later)

  own-lines : (from : ℕ) (hosts : List HostJobs) → Rise from (map (λ (h : HostJobs). h.host) hosts) →
      (find (λ (h : HostJobs). h.host.0 == host.0) hosts ≡ None → endings host ≡ []) → own hosts ≡ lines_of endings host
  own-lines from [] rise none = ap (lines_from host 0) (sym (none refl))
  own-lines from (h ∷ hosts) rise none = by (h.host.0 == host.0) refl none (own-lines (h.host.0 + 1) hosts rise.2)
    where
      parts : own (h ∷ hosts) ≡ filter (is_of host) (lines_of endings h.host) ++ own hosts
      parts = filter-append (is_of host) (lines_of endings h.host) (flat_map (lines_of endings) (map (λ (x : HostJobs). x.host) hosts))

      by : (b : Bool) → (h.host.0 == host.0) ≡ b →
          (cond b (Some h) (find (λ (x : HostJobs). x.host.0 == host.0) hosts) ≡ None → endings host ≡ []) →
          ((find (λ (x : HostJobs). x.host.0 == host.0) hosts ≡ None → endings host ≡ []) → own hosts ≡ lines_of endings host) → own (h ∷ hosts) ≡ lines_of endings host
      by true e empty rest =
          let same : h.host ≡ host = same-host h.host host e in
          let low : host.0 < h.host.0 + 1 = grind (arith, nat_tests) in
          parts
          ∙ ap (λ (lines : List Line). filter (is_of host) (lines_of endings h.host) ++ lines) (none-above (h.host.0 + 1) hosts rise.2 low)
          ∙ append-nil (filter (is_of host) (lines_of endings h.host))
          ∙ ap (λ (x : HostNo). filter (is_of host) (lines_of endings x)) same
          ∙ filter-own host 0 (endings host)
      by false e empty rest =
          parts
          ∙ ap (λ (lines : List Line). lines ++ own hosts) (filter-other host h.host 0 (endings h.host) e)
          ∙ rest empty

-- Each is of the host's job with its number.
numbers-rise : (host : HostNo) (job : ℕ) (es : List Ending) → map (λ (r : Line). r.0.job) (lines_from host job es) ≡ range_with_len job (length es)
numbers-rise host job [] = refl
numbers-rise host job (e ∷ es) = ap (λ (ns : List ℕ). job ∷ ns) (numbers-rise host (job + 1) es)

told : (all : List Job) (host : HostNo) (job : ℕ) (jobs : List Job) (es : List Ending) → ((k : ℕ) → slice_get all (job + k) ≡ slice_get jobs k) →
    map (λ (e : Ending). e.job) es ≡ take (length es) jobs →
    filter_map (λ (r : Line). with_job (slice_get all r.0.job) r) (lines_from host job es) ≡ map reported es
told all host job jobs [] at are = refl
told all host job [] (e ∷ es) at are = absurd (cc)
told all host job (first ∷ jobs) (e ∷ es) at are =
    let same : e.job ≡ first = cc in
    let later : map (λ (x : Ending). x.job) es ≡ take (length es) jobs = cc in
    let here : slice_get all job ≡ Some e.job = ap (slice_get all) start ∙ at 0 ∙ ap (λ (j : Job). Some j) (sym same) in
    let rest = filter_map (λ (r : Line). with_job (slice_get all r.0.job) r) (lines_from host (job + 1) es) in
    ap (λ (o : Option Job). cons_option (with_job o (line_at host job e)) rest) here
    ∙ ap (λ (rs : List Reported). reported e ∷ rs) (told all host (job + 1) jobs es (λ k. ap (slice_get all) (next k) ∙ at (suc k)) later)
  where
    start : job ≡ job + 0
    start = omega arith

    next : (k : ℕ) → job + 1 + k ≡ job + suc k
    next k = omega arith

no-jobs : (es : List Ending) → map (λ (e : Ending). e.job) es ≡ take (length es) [] → es ≡ []
no-jobs [] are = refl
no-jobs (e ∷ es) are = absurd (cc)

module _ (script : Script) (history : List Call) (is : IsScript script) where
  are-endings : (host : HostNo) → AreEndings script host (endings_at script history host)
  are-endings host = endings_are_filled script history host is

  no-endings : (host : HostNo) → find (λ (h : HostJobs). h.host.0 == host.0) script.hosts ≡ None → endings_at script history host ≡ []
  no-endings host none =
      let es = endings_at script history host in
      no-jobs es ((are-endings host).jobs ∙ ap (λ (o : Option HostJobs). take (length es) (jobs_in o)) none)

  results-are : (host : HostNo) → results_in (report_of script history) host ≡ lines_from host 0 (endings_at script history host)
  results-are host =
      ap (filter (is_of host)) (zip-all (endings_at script history) (host_numbers script))
      ∙ own-lines (endings_at script history) host 0 script.hosts is.hosts (no-endings host)

  -- What a report tells of a host's jobs is what is reported of them.
  pub reported-is : (host : HostNo) → reported_in script (report_of script history) host ≡ reported_at script history host
  reported-is host =
      ap (filter_map (λ (r : Line). with_job (slice_get (jobs_of script host) r.0.job) r)) (results-are host)
      ∙ told (jobs_of script host) host 0 (jobs_of script host) (endings_at script history host) (λ k. ap (slice_get (jobs_of script host)) (start k)) (are-endings host).jobs
    where
      start : (k : ℕ) → 0 + k ≡ k
      start k = omega arith

  jobs-are : (host : HostNo) →
      map (λ (r : Line). r.0.job) (results_in (report_of script history) host) ≡ range_with_len 0 (length (reported_in script (report_of script history) host))
  jobs-are host =
      ap (map (λ (r : Line). r.0.job)) (results-are host)
      ∙ numbers-rise host 0 (endings_at script history host)
      ∙ ap (range_with_len 0) (sym (ap length (reported-is host) ∙ length-map (endings_at script history host)))
    where
      length-map : (es : List Ending) → length (map reported es) ≡ length es
      length-map [] = refl
      length-map (e ∷ es) = ap suc (length-map es)

flat-same : {X Y : Type 0} (f h : X → List Y) (xs : List X) → ((x : X) → f x ≡ h x) → flat_map f xs ≡ flat_map h xs
flat-same f h [] same = refl
flat-same f h (x ∷ xs) same = ap (λ ys. ys ++ flat_map f xs) (same x) ∙ ap (λ ys. h x ++ ys) (flat-same f h xs same)

-- A serial run is one of any equal results.
serial-same : (script : Script) (endings others : HostNo → List Reported) (last : Array) → ((host : HostNo) → others host ≡ endings host) → IsSerial script endings last → IsSerial script others last
serial-same script endings others last same s = record {
  hosts = λ host. subst (λ (es : List Reported). HasResults script host es) (sym (same host)) (s.hosts host);
  order = s.order;
  same = subst (λ (es : List Reported). IsPermutation s.order (numbered es)) (sym (flat-same others endings (host_numbers script) same)) s.same;
  rise = s.rise;
  runs = s.runs;
}

-- a block with what is shown of it
abbrev shown_at_end : (Address → Shown) → Address → Address × Shown
shown_at_end show address = (address, show address)

-- what is shown of a block of a list
shown-of : (show : Address → Shown) (addresses : List Address) (k : ℕ) (address : Address) (what : Shown) → k < length (map (shown_at_end show) addresses) →
    get_or (map (shown_at_end show) addresses) k (shown_at_end (λ a. what) address) ≡ shown_at_end (λ a. what) address → show address ≡ what
shown-of show [] k address what inside e = absurd (omega (arith, inside))
shown-of show (a ∷ addresses) zero address what inside e =
    ap show (sym (ap (λ (p : Address × Shown). p.0) e)) ∙ ap (λ (p : Address × Shown). p.1) e
shown-of show (a ∷ addresses) (suc k) address what inside e = shown-of show addresses k address what (omega (arith, inside)) e

addresses-are : (show : Address → Shown) (addresses : List Address) → map (λ (b : Address × Shown). b.0) (map (shown_at_end show) addresses) ≡ addresses
addresses-are show [] = refl
addresses-are show (a ∷ addresses) = ap (λ (rest : List Address). a ∷ rest) (addresses-are show addresses)

-- The report of a play whose results are serial is a serial report.
pub serial-report : (script : Script) (history : List Call) → IsScript script → IsSerialPlay script history → IsSerialReport script (report_of script history)
serial-report script history is play = record {
  last = play.0;
  serial = serial-same script (reported_at script history) (reported_in script (report_of script history)) play.0 (reported-is script history is) play.1;
  shown = λ address content listed.
      play.2 address content (shown-of (shown_block script history) (flat_map (object_blocks script.n) script.objects) listed.0 address (Seen content) listed.1 listed.2);
  jobs = jobs-are script history is;
  blocks = addresses-are (shown_block script history) (flat_map (object_blocks script.n) script.objects);
  flags = refl;
}

pub reports_are_serial : (script : Script) (history : List Call) → IsScript script → IsHistory script history → all_ended script history ≡ true → IsSerialReport script (report_of script history)
reports_are_serial script history is told ended = serial-report script history is (plays_are_serial script history is told ended)
