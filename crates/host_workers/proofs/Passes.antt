-- Hosts get their passes one after another, the last first.
use Rattle.std.proofs.Common.{◌≡◌, ◌≢◌, ℕ, zero, suc, ◌+◌, ◌-◌, ◌<◌, ◌≤◌, ◌^◌, Bool, true, false, List, [], ◌∷◌, ◌++◌, length, set, map, min, drop, replicate, reverse, get_or, refl, sym, ap, subst, ◌∙◌, arith, append_assoc, append-nil, Some}
use Rattle.std.specs.Prelude.{All, slice_index, slice_index_or, sum_by}
use Rattle.std.specs.Vec.{vec_len}
use Rattle.std.proofs.lemmas.List.{length-append, reverse-append, get_or-set_other, get_or-replicate, length-replicate}
use Rattle.std.proofs.lemmas.List.Elements.{All-nil, All-cons, All-push, All-pop, All-same, All-from_get_or}
use Rattle.std.proofs.lemmas.List.Sums.{sum_by-cons, sum_by_push}
use Rattle.raid_base.specs.declared.numbers.HostNo.{HostNo}
use Rattle.raid_base.specs.declared.numbers.BayNo.{BayNo}
use Rattle.block_store.specs.declared.store.Store.{Ghosts}
use Rattle.script_text.specs.Script.{Script, HostJobs, host_numbers}
use Rattle.script_text.specs.Ranges.{IsScript, Rise}
use Rattle.script_text.specs.Weights.{quota}
use Rattle.histories.specs.Quotas.{all_quotas}
use Rattle.host_engine.specs.declared.host.Host.{Host}
use Rattle.host_engine.specs.Stands.{IsFreshHost}
use Rattle.rack_turns.specs.declared.pass.Pass.{Pass}
use Rattle.rack_turns.specs.declared.rack.Rack.{Rack}
use Rattle.rack_turns.specs.declared.view.View.{View}
use Rattle.rack_turns.specs.declared.view.Shadow.{Shadow}
use Rattle.rack_turns.specs.declared.view.Standing.{Standing}
use Rattle.rack_turns.specs.Views.{least_cap}
use Rattle.rack_turns.specs.Passes.{IsPassOf, IsNewFirst, HasGiven, IsNewGuest, is_first, room_of, out_count, was_given, seen, openings_of}
use Rattle.host_workers.specs.declared.workers.Worker.{Worker}
use Rattle.host_workers.specs.Workers.{IsAtStart}
use Rattle.host_workers.specs.Playing.{MayPlay}
use Rattle.host_workers.specs.Passing.{HaveTheirPasses, host_in}

abbrev pub no_of : Host → HostNo
no_of host = host.no

-- the newest worker is the first when the list is turned
pub turned-workers : (workers : List Worker) (worker : Worker) → reverse (workers ++ worker ∷ []) ≡ worker ∷ reverse workers
turned-workers workers worker = reverse-append workers (worker ∷ [])

-- numbers that rise
rise-reaches : (from : ℕ) (hosts : List Host) (x : Host) (rest : List Host) → Rise from (map no_of (hosts ++ x ∷ rest)) → (from ≤ x.no.0) × (x.no.0 < 16)
rise-reaches from [] x rest r = (r.0, r.1)
rise-reaches from (h ∷ hosts) x rest r =
    let later = rise-reaches (h.no.0 + 1) hosts x rest r.2 in
    (omega (arith, r.0, later.0), later.1)

rise-below : (from : ℕ) (hosts : List Host) (x : Host) (rest : List Host) → Rise from (map no_of (hosts ++ x ∷ rest)) → All (λ (h : Host). h.no.0 < x.no.0) hosts
rise-below from [] x rest r = All-nil (λ (h : Host). h.no.0 < x.no.0)
rise-below from (h ∷ hosts) x rest r =
    let later = rise-reaches (h.no.0 + 1) hosts x rest r.2 in
    All-cons (λ (h : Host). h.no.0 < x.no.0) h hosts (omega (arith, later.0)) (rise-below (h.no.0 + 1) hosts x rest r.2)

-- the script has its hosts in the same order
pub record IsHostAt (jobs : List HostJobs) (k : ℕ) (x : Host) : Type 0 where
  pub inside : k < length jobs
  pub same : (d : HostJobs) → (get_or jobs k d).host ≡ x.no

host-at : (hosts : List Host) (x : Host) (rest : List Host) (jobs : List HostJobs) → map no_of (hosts ++ x ∷ rest) ≡ map (λ (j : HostJobs). j.host) jobs → IsHostAt jobs (length hosts) x
host-at [] x rest [] e = absurd (cc)
host-at [] x rest (j ∷ jobs) e = record { inside = omega arith; same = λ d. sym (ap (λ (ns : List HostNo). get_or ns 0 x.no) e) }
host-at (h ∷ hosts) x rest [] e = absurd (cc)
host-at (h ∷ hosts) x rest (j ∷ jobs) e =
    let later = host-at hosts x rest jobs (ap (λ (ns : List HostNo). drop 1 ns) e) in
    record { inside = omega (arith, later.inside); same = λ d. later.same d }

-- the quotas of hosts by their numbers
quotas-by : (script : Script) (hosts : List Host) → sum_by (λ (h : Host). quota script h.no) hosts ≡ sum_by (quota script) (map no_of hosts)
quotas-by script [] = refl
quotas-by script (h ∷ hosts) =
    sum_by-cons (λ (h : Host). quota script h.no) h hosts ∙ ap (λ (n : ℕ). quota script h.no + n) (quotas-by script hosts) ∙ sym (sum_by-cons (quota script) h.no (map no_of hosts))

least-small : (openings : List Shadow) → least_cap openings < 2 ^ 32
least-small [] = omega arith
least-small (bay ∷ openings) = let e : least_cap openings < 2 ^ 32 = least-small openings in omega (arith, e)

-- what is read at that place has the host's number
pub number-same : (jobs items : List HostJobs) (k place : ℕ) (x : Host) (read : HostJobs) → IsHostAt jobs k x → items ≡ jobs → place ≡ k → read ≡ get_or items place read → read.host ≡ x.no
number-same jobs items k place x read at same e is =
    ap (λ (j : HostJobs). j.host) (is ∙ ap (λ (l : List HostJobs). get_or l place read) same ∙ ap (λ (n : ℕ). get_or jobs n read) e) ∙ at.same read

same-host : (one two : HostNo) → one.0 ≡ two.0 → one ≡ two
same-host one two e = ap (λ (n : ℕ). record { 0 = n }) e

module _ {D : Type 0} {g : Ghosts D} (script : Script) (rack : Rack D g) where
  -- these hosts have no pass yet, and these workers have
  pub record AreGiving (all hosts : List Host) (first : Pass) (workers : List Worker) : Type 0 where
    pub pass : IsPassOf rack first
    pub role : is_first first ≡ true
    pub room : sum_by (λ (h : Host). quota script h.no) hosts ≤ room_of first
    pub top : ℕ
    pub low : All (λ (h : Host). h.no.0 < top) hosts
    pub new : (host : ℕ) → host < top → slice_index_or first.standing.given host false ≡ false
    pub fresh : All (λ (h : Host). IsFreshHost script h.no h) hosts
    pub hosts_are : hosts ++ map host_in (reverse workers) ≡ all
    pub out : out_count first ≡ length workers
    pub ended : (seen first).ended ≡ replicate 16 []
    pub small : room_of first < 2 ^ 32
    pub start : All (IsAtStart script rack) workers
    pub guests : All (λ (worker : Worker). is_first worker.pass ≡ false) workers

  module _ (all : List Host) (opened : Pass) (capacity : ℕ) (may : MayPlay script rack opened all capacity) where
    numbers : map no_of all ≡ host_numbers script
    numbers = may.fresh.numbers

    pub giving-start : (workers : List Worker) → workers ≡ [] → AreGiving all all opened workers
    giving-start workers none = record {
      pass = may.pass;
      role = may.new.first;
      room = omega (arith, may.quotas, quotas-by script all, ap (λ (ns : List HostNo). sum_by (quota script) ns) numbers);
      top = 16;
      low = lows 0 all (subst (λ (ns : List HostNo). Rise 0 ns) (sym numbers) may.rack_is.ranges.hosts);
      new = λ host below. ap (λ (l : List Bool). get_or l host false) may.new.given ∙ get_or-replicate 16 host false false (omega (arith, below, length-replicate 16 false));
      fresh = may.fresh.each;
      hosts_are = ap (λ (l : List Worker). all ++ map host_in (reverse l)) none ∙ append-nil all;
      out = may.new.out ∙ sym (ap length none);
      ended = ap (λ (v : View). v.ended) may.new.view;
      small = omega (arith, may.new.room, least-small (openings_of rack));
      start = All-same (IsAtStart script rack) workers [] none (All-nil (IsAtStart script rack));
      guests = All-same (λ (worker : Worker). is_first worker.pass ≡ false) workers [] none (All-nil (λ (worker : Worker). is_first worker.pass ≡ false));
    }
      where
        lows : (from : ℕ) (hosts : List Host) → Rise from (map no_of hosts) → All (λ (h : Host). h.no.0 < 16) hosts
        lows from [] r = All-nil (λ (h : Host). h.no.0 < 16)
        lows from (h ∷ hosts) r = All-cons (λ (h : Host). h.no.0 < 16) h hosts r.1 (lows (h.no.0 + 1) hosts r.2)

    -- the last host that has none
    module _ (hosts left : List Host) (x : Host) (first : Pass) (workers : List Worker) (is : hosts ≡ left ++ x ∷ []) (a : AreGiving all hosts first workers) where
      abbrev rest : List Host
      rest = map host_in (reverse workers)

      whole : left ++ x ∷ rest ≡ all
      whole = sym (append_assoc left (x ∷ []) rest) ∙ ap (λ (l : List Host). l ++ rest) (sym is) ∙ a.hosts_are

      rising : Rise 0 (map no_of (left ++ x ∷ rest))
      rising = subst (λ (ns : List HostNo). Rise 0 ns) (sym (ap (map no_of) whole ∙ numbers)) may.rack_is.ranges.hosts

      pub next-at : IsHostAt script.hosts (length left) x
      next-at = host-at left x rest script.hosts (ap (map no_of) whole ∙ numbers)

      pub next-below : x.no.0 < 16
      next-below = (rise-reaches 0 left x rest rising).1

      sum : sum_by (λ (h : Host). quota script h.no) hosts ≡ sum_by (λ (h : Host). quota script h.no) left + quota script x.no
      sum = ap (λ (l : List Host). sum_by (λ (h : Host). quota script h.no) l) is ∙ sum_by_push (λ (h : Host). quota script h.no) left x

      pub next-room : quota script x.no ≤ room_of first
      next-room = omega (arith, sum, a.room)

      parts : (P : Host → Type 0) → All P hosts → All P left × P x
      parts P h = All-pop P hosts left (Some x) is h

      pub next-new : was_given first x.no ≡ false
      next-new = a.new x.no.0 (parts (λ (h : Host). h.no.0 < a.top) a.low).1

      -- with its pass it is a worker
      module _ (number : HostNo) (same : number ≡ x.no) (after guest : Pass) (of : IsPassOf rack after) (given : HasGiven number.0 (quota script number) first after)
          (its : IsPassOf rack guest) (new : IsNewGuest number.0 (quota script number) first guest) where
        fresh-next : IsFreshHost script x.no x
        fresh-next = (parts (λ (h : Host). IsFreshHost script h.no h) a.fresh).1

        at-start : IsAtStart script rack (record { host = x; pass = guest })
        at-start = record {
          pass = its;
          number = record { same = same-host guest.standing.host x.no (new.host_is ∙ ap (λ (h : HostNo). h.0) same) };
          quota = record {
            left = λ bay inside.
                ap (λ (l : List ℕ). slice_index l bay.0) new.left
                ∙ get_or-replicate 16 bay.0 (quota script number) 0 (omega (arith, inside, may.rack_is.ranges.devices_most, length-replicate 16 (quota script number)))
                ∙ ap (quota script) same;
          };
          asked = record { host = fresh-next; pass = ap (λ (v : View). v.asked) new.view };
          plays = record { plays = fresh-next.stands.counts.plays };
        }

        pub giving-more : AreGiving all left after (workers ++ record { host = x; pass = guest } ∷ [])
        giving-more =
            let worker : Worker = record { host = x; pass = guest } in
            let many : length (workers ++ worker ∷ []) ≡ length workers + 1 = length-append workers (worker ∷ []) in
            let less : room_of after ≡ room_of first - quota script number = ap (λ (s : Standing). s.room) given.standing in
            let more : out_count after ≡ out_count first + 1 = ap (λ (s : Standing). s.out) given.standing in
            let its_quota : quota script number ≡ quota script x.no = ap (quota script) same in
            record {
              pass = of;
              role = given.first ∙ a.role;
              room = omega (arith, sum, a.room, less, its_quota);
              top = x.no.0;
              low = rise-below 0 left x rest rising;
              new = λ host below.
                  let apart : host ≢ number.0 = λ (e : host ≡ number.0). absurd (omega (arith, below, e, ap (λ (h : HostNo). h.0) same)) in
                  let high : x.no.0 < a.top = (parts (λ (h : Host). h.no.0 < a.top) a.low).1 in
                  ap (λ (s : Standing). slice_index_or s.given host false) given.standing
                  ∙ get_or-set_other first.standing.given number.0 host true false apart
                  ∙ a.new host (omega (arith, below, high));
              fresh = (parts (λ (h : Host). IsFreshHost script h.no h) a.fresh).0;
              hosts_are = ap (λ (l : List Worker). left ++ map host_in l) (turned-workers workers worker) ∙ whole;
              out = omega (arith, more, a.out, many);
              ended = ap (λ (v : View). v.ended) given.view ∙ a.ended;
              small = omega (arith, a.small, less);
              start = All-push (IsAtStart script rack) workers worker a.start at-start;
              guests = All-push (λ (w : Worker). is_first w.pass ≡ false) workers worker a.guests new.first;
            }

    -- none is left
    pub giving-ended : (first : Pass) (hosts : List Host) (workers : List Worker) → hosts ≡ [] → AreGiving all hosts first workers → HaveTheirPasses script rack all first workers
    giving-ended first hosts workers none a = record {
      pass = a.pass;
      role = a.role;
      out = a.out;
      ended = a.ended;
      hosts_are = ap (λ (l : List Host). l ++ map host_in (reverse workers)) (sym none) ∙ a.hosts_are;
      start = a.start;
      guests = a.guests;
    }
