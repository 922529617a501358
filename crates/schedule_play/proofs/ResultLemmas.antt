-- What the hosts of a world have to tell is what its history says, and so much room is enough for it.
use Rattle.std.proofs.Common.{◌≡◌, ℕ, suc, ◌+◌, ◌≤◌, List, [], ◌∷◌, ◌++◌, length, map, refl, sym, ap, subst, ◌∙◌, arith, length-append}
use Rattle.std.specs.Prelude.{flat_map, sum_by}
use Rattle.std.specs.List.{enumerate_from}
use Rattle.std.proofs.lemmas.List.{length-map}
use Rattle.std.proofs.lemmas.List.Folds.{flat_map-map}
use Rattle.std.proofs.lemmas.List.Sums.{sum_by-cons}
use Rattle.std.proofs.lemmas.Grind.{flat_map-append}
use Rattle.raid_base.specs.declared.numbers.HostNo.{HostNo}
use Rattle.raid_base.specs.declared.cells.Content.{Content}
use Rattle.raid_base.specs.declared.jobs.JobResult.{JobResult}
use Rattle.raid_base.specs.declared.messages.Call.{Call}
use Rattle.block_store.specs.declared.store.Store.{Ghosts}
use Rattle.script_text.specs.Script.{Script, host_numbers, jobs_of}
use Rattle.host_engine.specs.declared.host.Host.{Host}
use Rattle.histories.specs.Progress.{Ending}
use Rattle.histories.specs.History.{endings_at}
use Rattle.histories.specs.Asked.{AreAsked}
use Rattle.histories.specs.Bounds.{IsPlayable, host_contents}
use Rattle.histories.specs.HostLaws.{IsBounded}
use Rattle.histories.proofs.bounds.BoundsHistory.{requests_are_bounded}
use Rattle.schedule_play.specs.declared.world.World.{World}
use Rattle.schedule_play.specs.World.{EachAt, HostShows, Shows}
use Rattle.histories.specs.Results.{host_results, results, contents}

-- what holds at each place holds of the rest
each-later : {X : Type 0} (P : ℕ → X → Type 0) (x : X) (xs : List X) → EachAt P (x ∷ xs) → EachAt (λ k y. P (suc k) y) xs
each-later P x xs each k d below = each (suc k) d (omega arith)

flat_map-each : {X Y : Type 0} (f g : X → List Y) (xs : List X) → EachAt (λ k x. f x ≡ g x) xs → flat_map f xs ≡ flat_map g xs
flat_map-each f g [] each = refl
flat_map-each f g (x ∷ xs) each =
    ap (λ ys. ys ++ flat_map f xs) (each 0 x (omega arith)) ∙ ap (λ ys. g x ++ ys) (flat_map-each f g xs (each-later (λ k y. f y ≡ g y) x xs each))

flat_map-flat_map : {X Y Z : Type 0} (f : X → List Y) (g : Y → List Z) (xs : List X) → flat_map g (flat_map f xs) ≡ flat_map (λ x. flat_map g (f x)) xs
flat_map-flat_map f g [] = refl
flat_map-flat_map f g (x ∷ xs) = flat_map-append g (f x) (flat_map f xs) ∙ ap (λ zs. flat_map g (f x) ++ zs) (flat_map-flat_map f g xs)

-- as much room as each of them needs is enough for all
length-at_most : {X Y A : Type 0} (f : X → List Y) (v : X → A) (g : A → ℕ) (xs : List X) → EachAt (λ k x. length (f x) ≤ g (v x)) xs → length (flat_map f xs) ≤ sum_by g (map v xs)
length-at_most f v g [] each = omega arith
length-at_most f v g (x ∷ xs) each =
    let here : length (f x) ≤ g (v x) = each 0 x (omega arith) in
    let rest = length-at_most f v g xs (each-later (λ k y. length (f y) ≤ g (v y)) x xs each) in
    let all : length (f x ++ flat_map f xs) ≤ sum_by g (v x ∷ map v xs) = omega (arith, length-append (f x) (flat_map f xs), sum_by-cons g (v x) (map v xs), here, rest) in
    all

length-enumerate : {X : Type 0} (k : ℕ) (xs : List X) → length (enumerate_from k xs) ≡ length xs
length-enumerate k [] = refl
length-enumerate k (x ∷ xs) = ap suc (length-enumerate (k + 1) xs)

-- the jobs of a host, and of all hosts
abbrev pub job_count : Script → HostNo → ℕ
job_count script host = length (jobs_of script host)

abbrev pub results_by : Script → List Call → Host → List JobResult
results_by script history host = host_results script history host.no

abbrev pub contents_by : Script → List Call → Host → List Content
contents_by script history host = flat_map (λ (e : Ending). e.contents) (endings_at script history host.no)

-- a host has at most so many results and contents
few-results : (script : Script) (history : List Call) (host : Host) → HostShows script history host → length host.results.items ≤ job_count script host.no
few-results script history host s =
    let endings = endings_at script history host.no in
    let all : length host.results.items ≡ length endings = ap length s.stands.counts.results ∙ length-map (enumerate_from 0 endings) _ ∙ length-enumerate 0 endings in
    omega (arith, all, s.stands.counts.place, ap length s.stands.counts.listed, host.within)

few-contents : (script : Script) (history : List Call) (host : Host) → IsPlayable script → AreAsked script history → HostShows script history host → length host.contents.items ≤ host_contents script host.no
few-contents script history host playable asked s =
    let now : IsBounded script history = requests_are_bounded script history playable asked in
    omega (arith, ap length s.stands.counts.contents, (now.keeps host.no).reads)

module _ {D : Type 0} {g : Ghosts D} where
  -- the results of all hosts, by host and then by job
  pub shows-results : (script : Script) (history : List Call) (now : World D g) → Shows script history now →
      flat_map (λ (host : Host). host.results.items) now.hosts.items ≡ results script history
  shows-results script history now s =
      flat_map-each (λ (host : Host). host.results.items) (results_by script history) now.hosts.items (λ k d below. (s.hosts k d below).stands.counts.results)
      ∙ sym (flat_map-map (host_results script history) (λ (host : Host). host.no) now.hosts.items)
      ∙ ap (flat_map (host_results script history)) s.numbers

  -- the contents of all reads, one after another
  pub shows-contents : (script : Script) (history : List Call) (now : World D g) → Shows script history now →
      flat_map (λ (host : Host). host.contents.items) now.hosts.items ≡ flat_map (λ (read : List Content). read) (contents script history)
  shows-contents script history now s =
      let read_of : Ending → List Content = λ e. e.contents in
      flat_map-each (λ (host : Host). host.contents.items) (contents_by script history) now.hosts.items (λ k d below. (s.hosts k d below).stands.counts.contents)
      ∙ sym (flat_map-map (λ (no : HostNo). flat_map read_of (endings_at script history no)) (λ (host : Host). host.no) now.hosts.items)
      ∙ ap (flat_map (λ (no : HostNo). flat_map read_of (endings_at script history no))) s.numbers
      ∙ sym (flat_map-flat_map (endings_at script history) read_of (host_numbers script))
      ∙ sym (flat_map-map (λ (read : List Content). read) read_of (flat_map (endings_at script history) (host_numbers script)))

  -- there are at most as many results as jobs
  pub results-room : (script : Script) (history : List Call) (now : World D g) → Shows script history now →
      length (flat_map (λ (host : Host). host.results.items) now.hosts.items) ≤ sum_by (job_count script) (host_numbers script)
  results-room script history now s =
      subst (λ (numbers : List HostNo). length (flat_map (λ (host : Host). host.results.items) now.hosts.items) ≤ sum_by (job_count script) numbers) s.numbers
      (length-at_most (λ (host : Host). host.results.items) (λ (host : Host). host.no) (job_count script) now.hosts.items (λ k d below. few-results script history _ (s.hosts k d below)))

  -- and at most as many contents as all reads have blocks
  pub contents-room : (script : Script) (history : List Call) (now : World D g) → IsPlayable script → Shows script history now →
      length (flat_map (λ (host : Host). host.contents.items) now.hosts.items) ≤ sum_by (host_contents script) (host_numbers script)
  contents-room script history now playable s =
      subst (λ (numbers : List HostNo). length (flat_map (λ (host : Host). host.contents.items) now.hosts.items) ≤ sum_by (host_contents script) numbers) s.numbers
      (length-at_most (λ (host : Host). host.contents.items) (λ (host : Host). host.no) (host_contents script) now.hosts.items (λ k d below. few-contents script history _ playable s.asked (s.hosts k d below)))
