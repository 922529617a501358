-- Workers that have run give their passes back, and what the first pass keeps of each host is what that has asked.
use Rattle.std.proofs.Common.{◌≡◌, ◌≢◌, ℕ, zero, suc, ◌+◌, ◌-◌, ◌<◌, ◌≤◌, ◌^◌, ◌==◌, if◌then◌else◌, eqb, Bool, true, false, List, [], ◌∷◌, ◌++◌, length, set, map, replicate, reverse, get_or, Some, refl, sym, ap, subst, ◌∙◌, ◌⊎◌, inl, inr, arith, append_assoc, append-nil, eq-eqb}
use Rattle.std.specs.Prelude.{All, slice_index_or}
use Rattle.std.specs.Vec.{vec_len, vec_capacity}
use mathlib.Core.Option.{some}
use lib.ListN.{get_elem?}
use Rattle.std.proofs.lemmas.Bool.Decides.{eqb_tells}
use Rattle.std.proofs.lemmas.List.{length-append, length-reverse, length-set, reverse-append, get_or-set_same, get_or-set_other, get_or-replicate, length-replicate}
use Rattle.std.proofs.lemmas.List.Elements.{All-nil, All-cons, All-push, All-pop, All-head, All-tail, All-weaker, All-map, All-append}
use Rattle.raid_base.specs.declared.numbers.HostNo.{HostNo}
use Rattle.raid_base.specs.declared.messages.Call.{Call}
use Rattle.block_store.specs.declared.store.Store.{Ghosts}
use Rattle.bay_device.specs.declared.bay.Bay.{Bay}
use Rattle.script_text.specs.Script.{Script, host_numbers}
use Rattle.script_text.specs.Ranges.{IsScript, Rise}
use Rattle.histories.specs.Progress.{is_over}
use Rattle.host_engine.specs.declared.host.Host.{Host}
use Rattle.host_engine.specs.Stands.{IsFreshHost}
use Rattle.rack_turns.specs.declared.pass.Pass.{Pass}
use Rattle.rack_turns.specs.declared.rack.Rack.{Rack}
use Rattle.rack_turns.specs.declared.view.View.{View}
use Rattle.rack_turns.specs.declared.view.Shadow.{Shadow}
use Rattle.rack_turns.specs.declared.view.Standing.{Standing}
use Rattle.rack_turns.specs.Views.{calls_at, entries_of}
use Rattle.rack_turns.specs.Shadows.{shadows}
use Rattle.rack_turns.specs.Passes.{IsPassOf, HasJoined, is_first, out_count, seen, openings_of}
use Rattle.rack_turns.specs.Closing.{AreClosed, IsClosedBay}
use Rattle.host_workers.specs.declared.workers.Worker.{Worker}
use Rattle.host_workers.specs.Workers.{IsAtStart, IsAlong, IsRackFor, HasRun, HaveRun, HasEnded, MayRun, AreReady}
use Rattle.host_workers.specs.Playing.{MayPlay, HavePlayed, HasRunAlone, AreTiedBays, IsTiedBay, asked_by}
use Rattle.host_workers.specs.Passing.{IsBack, HaveTheirPasses, HasTakenBack, ended_with, host_in}
use Rattle.host_workers.proofs.Passes.{turned-workers, no_of}

-- a turned list
All-reverse : {X : Type 0} (P : X → Type 0) (xs : List X) → All P xs → All P (reverse xs)
All-reverse P [] h = h
All-reverse P (x ∷ xs) h =
    subst (All P) (sym (reverse-append (x ∷ []) xs))
    (All-append P (reverse xs) (x ∷ []) (All-reverse P xs (All-tail P x xs h)) (All-cons P x [] (All-head P x xs h) (All-nil P)))

module _ {X Y : Type 0} (f : X → Y) where
  map-append : (xs ys : List X) → map f (xs ++ ys) ≡ map f xs ++ map f ys
  map-append [] ys = refl
  map-append (x ∷ xs) ys = ap (λ (l : List Y). f x ∷ l) (map-append xs ys)

  turned-map : (xs : List X) → map f (reverse xs) ≡ reverse (map f xs)
  turned-map [] = refl
  turned-map (x ∷ xs) =
      ap (map f) (reverse-append (x ∷ []) xs) ∙ map-append (reverse xs) (x ∷ []) ∙ ap (λ (l : List Y). l ++ f x ∷ []) (turned-map xs)
      ∙ sym (reverse-append (f x ∷ []) (map f xs))

element-at : {X : Type 0} (xs : List X) (k : ℕ) (d : X) → k < length xs → get_elem? xs k ≡ some (get_or xs k d)
element-at [] k d h = absurd (omega arith)
element-at (x ∷ xs) zero d h = refl
element-at (x ∷ xs) (suc k) d h = element-at xs k d (omega arith)

module _ {D : Type 0} {g : Ghosts D} (rack : Rack D g) where
  -- these workers' passes are not back yet
  pub record AreTaking (opened now : Pass) (before hosts : List Host) (old new : List Worker) (most : ℕ) : Type 0 where
    pub pass : IsPassOf rack now
    pub role : is_first now ≡ true
    pub back : All (IsBack rack) new
    pub out : out_count now - length new ≡ out_count opened - length old
    pub ended : ended_with (seen now).ended (reverse new) ≡ ended_with (seen opened).ended (reverse old)
    pub hosts_are : hosts ++ map host_in (reverse new) ≡ before ++ map host_in (reverse old)
    pub room : length hosts + length new ≤ most

  pub taking-start : (first : Pass) (hosts : List Host) (workers : List Worker) (most : ℕ) → IsPassOf rack first → is_first first ≡ true → All (IsBack rack) workers →
      length hosts + length workers ≤ most → AreTaking first first hosts hosts workers workers most
  taking-start first hosts workers most pass role back room =
      record { pass = pass; role = role; back = back; out = refl; ended = refl; hosts_are = refl; room = room }

  module _ (opened now : Pass) (before hosts : List Host) (old new left : List Worker) (worker : Worker) (most : ℕ)
      (is : new ≡ left ++ worker ∷ []) (a : AreTaking opened now before hosts old new most) where
    turned : reverse new ≡ worker ∷ reverse left
    turned = ap reverse is ∙ turned-workers left worker

    many : length new ≡ length left + 1
    many = ap length is ∙ length-append left (worker ∷ [])

    pub last-back : IsBack rack worker
    last-back = (All-pop (IsBack rack) new left (Some worker) is a.back).1

    pub last-room : length hosts < most
    last-room = omega (arith, many, a.room)

    -- one more is back
    pub taking-more : (after : Pass) → IsPassOf rack after → HasJoined worker.pass now after → AreTaking opened after before (hosts ++ worker.host ∷ []) old left most
    taking-more after of joined =
        let less : out_count after ≡ out_count now - 1 = ap (λ (s : Standing). s.out) joined.standing in
        let longer : length (hosts ++ worker.host ∷ []) ≡ length hosts + 1 = length-append hosts (worker.host ∷ []) in
        record {
          pass = of;
          role = joined.first ∙ a.role;
          back = (All-pop (IsBack rack) new left (Some worker) is a.back).0;
          out = omega (arith, less, many, a.out);
          ended = ap (λ (v : View). ended_with v.ended (reverse left)) joined.view ∙ ap (ended_with (seen now).ended) (sym turned) ∙ a.ended;
          hosts_are = append_assoc hosts (worker.host ∷ []) (map host_in (reverse left)) ∙ ap (λ (l : List Worker). hosts ++ map host_in l) (sym turned) ∙ a.hosts_are;
          room = omega (arith, longer, many, a.room);
        }

  module _ (opened now : Pass) (before hosts : List Host) (old new : List Worker) (most : ℕ) (none : new ≡ []) (a : AreTaking opened now before hosts old new most) where
    pub taken-hosts : hosts ≡ before ++ map host_in (reverse old)
    taken-hosts = sym (append-nil hosts) ∙ ap (λ (l : List Worker). hosts ++ map host_in (reverse l)) (sym none) ∙ a.hosts_are

    pub taken-back : HasTakenBack rack (reverse old) opened now
    taken-back = record {
      pass = a.pass;
      role = a.role;
      out = (let e : length new ≡ 0 = ap length none in omega (arith, e, a.out, length-reverse old));
      ended = ap (λ (l : List Worker). ended_with (seen now).ended (reverse l)) (sym none) ∙ a.ended;
    }

-- what is kept of a host is what it has asked
pub record KeepsItsCalls (worker : Worker) : Type 0 where
  pub number : (seen worker.pass).standing.host ≡ worker.host.no
  pub asked : (seen worker.pass).asked ≡ worker.host.transcript.items

kept-before : (from host : ℕ) (workers : List Worker) (kept : List (List Call)) → All KeepsItsCalls workers → Rise from (map no_of (map host_in workers)) → host < from →
    get_or (ended_with kept workers) host [] ≡ get_or kept host []
kept-before from host [] kept all r below = refl
kept-before from host (worker ∷ workers) kept all r below =
    let first = All-head KeepsItsCalls worker workers all in
    let place : ℕ = (seen worker.pass).standing.host.0 in
    let same : place ≡ worker.host.no.0 = ap (λ (h : HostNo). h.0) first.number in
    let apart : host ≢ place = λ (e : host ≡ place). absurd (omega (arith, below, e, same, r.0)) in
    kept-before (worker.host.no.0 + 1) host workers (set kept place (seen worker.pass).asked) (All-tail KeepsItsCalls worker workers all) r.2 (omega (arith, below, r.0))
    ∙ get_or-set_other kept place host (seen worker.pass).asked [] apart

-- or what was kept before where there is no such host
abbrev asked_or : List Call → List Host → ℕ → List Call
asked_or none [] host = none
asked_or none (first ∷ hosts) host = if first.no.0 == host then first.transcript.items else asked_or none hosts host

asked-none : (hosts : List Host) (host : ℕ) → asked_or [] hosts host ≡ asked_by hosts host
asked-none [] host = refl
asked-none (first ∷ hosts) host = ap (λ (l : List Call). if first.no.0 == host then first.transcript.items else l) (asked-none hosts host)

module _ (from host : ℕ) (worker : Worker) (workers : List Worker) (kept : List (List Call)) where
  abbrev place : ℕ
  place = (seen worker.pass).standing.host.0

  abbrev asked : List Call
  asked = (seen worker.pass).asked

  abbrev more : List (List Call)
  more = set kept place asked

  abbrev KeptBy : Bool → Type 0
  KeptBy b = get_or (ended_with more workers) host [] ≡ (if b then worker.host.transcript.items else asked_or (get_or kept host []) (map host_in workers) host)

  kept-more : All KeepsItsCalls (worker ∷ workers) → Rise from (map no_of (map host_in (worker ∷ workers))) → length kept ≡ 16 →
      get_or (ended_with more workers) host [] ≡ asked_or (get_or more host []) (map host_in workers) host → KeptBy (worker.host.no.0 == host)
  kept-more all r long later = by (eqb_tells worker.host.no.0 host)
    where
      first : KeepsItsCalls worker
      first = All-head KeepsItsCalls worker workers all

      same : place ≡ worker.host.no.0
      same = ap (λ (h : HostNo). h.0) first.number

      by : ((eqb worker.host.no.0 host ≡ true) × (worker.host.no.0 ≡ host)) ⊎ ((eqb worker.host.no.0 host ≡ false) × (worker.host.no.0 ≢ host)) → KeptBy (worker.host.no.0 == host)
      by (inl (is, e)) =
          let here : place ≡ host = same ∙ e in
          subst KeptBy (sym is)
          (kept-before (worker.host.no.0 + 1) host workers more (All-tail KeepsItsCalls worker workers all) r.2 (omega (arith, e))
          ∙ ap (λ (k : ℕ). get_or (set kept k asked) host []) here
          ∙ get_or-set_same kept host asked [] (omega (arith, r.1, e, long))
          ∙ first.asked)
      by (inr (is, apart)) =
          let other : host ≢ place = λ (e : host ≡ place). apart (sym (e ∙ same)) in
          subst KeptBy (sym is) (later ∙ ap (λ (l : List Call). asked_or l (map host_in workers) host) (get_or-set_other kept place host asked [] other))

kept-is : (from host : ℕ) (workers : List Worker) (kept : List (List Call)) → All KeepsItsCalls workers → Rise from (map no_of (map host_in workers)) → length kept ≡ 16 →
    get_or (ended_with kept workers) host [] ≡ asked_or (get_or kept host []) (map host_in workers) host
kept-is from host [] kept all r long = refl
kept-is from host (worker ∷ workers) kept all r long =
    let placed : List (List Call) = set kept (seen worker.pass).standing.host.0 (seen worker.pass).asked in
    kept-more from host worker workers kept all r long
    (kept-is (worker.host.no.0 + 1) host workers placed (All-tail KeepsItsCalls worker workers all) r.2
    (length-set kept (seen worker.pass).standing.host.0 (seen worker.pass).asked ∙ long))

none-kept : (n host : ℕ) (none : List Call) → get_or (replicate n none) host none ≡ none
none-kept zero host none = refl
none-kept (suc n) zero none = refl
none-kept (suc n) (suc host) none = none-kept n host none

pub none-left : (workers : List Worker) → length workers ≡ 0 → workers ≡ []
none-left [] e = refl
none-left (worker ∷ workers) e = absurd (omega (arith, e))

module _ {D : Type 0} {g : Ghosts D} (script : Script) (rack : Rack D g) where
  -- a worker that has run to its end
  pub record HasComeBack (worker : Worker) : Type 0 where
    pub along : IsAlong script rack worker.host.no worker
    pub over : HasEnded script worker.host.no worker
    pub guest : is_first worker.pass ≡ false

  come-back : (old new : Worker) → HasRun script rack old new → is_first old.pass ≡ false → HasComeBack new
  come-back old new run guest = record {
    along = subst (λ (h : HostNo). IsAlong script rack h new) (sym run.stays.number) run.along;
    over = subst (λ (h : HostNo). HasEnded script h new) (sym run.stays.number) run.ended;
    guest = run.stays.first ∙ guest;
  }

  pub record HaveComeBack (old new : List Worker) : Type 0 where
    pub numbers : map no_of (map host_in new) ≡ map no_of (map host_in old)
    pub each : All HasComeBack new

  come-all : (old new : List Worker) → length new ≡ length old → HaveRun script rack old new → All (λ (w : Worker). is_first w.pass ≡ false) old → HaveComeBack old new
  come-all [] [] same run guests = record { numbers = refl; each = All-nil HasComeBack }
  come-all [] (w ∷ new) same run guests = absurd (omega (arith, same))
  come-all (o ∷ old) [] same run guests = absurd (omega (arith, same))
  come-all (o ∷ old) (w ∷ new) same run guests =
      let here : HasRun script rack o w = run 0 o (omega arith) in
      let rest = come-all old new (omega (arith, same)) (λ k d inside. run (suc k) d (omega (arith, inside))) (All-tail (λ (w : Worker). is_first w.pass ≡ false) o old guests) in
      record {
        numbers = ap (λ (n : HostNo). n ∷ map no_of (map host_in new)) here.stays.number ∙ ap (λ (l : List HostNo). o.host.no ∷ l) rest.numbers;
        each = All-cons HasComeBack w new (come-back o w here (All-head (λ (w : Worker). is_first w.pass ≡ false) o old guests)) rest.each;
      }

  keeps-calls : (worker : Worker) → HasComeBack worker → KeepsItsCalls worker
  keeps-calls worker w = record {
    number = ap (λ (s : Standing). s.host) w.along.pass.standing ∙ w.along.number;
    asked = w.along.asked;
  }

  runs-alone : (worker : Worker) → HasComeBack worker → HasRunAlone script worker.host
  runs-alone worker w = record {
    run = w.along.run;
    stands = w.along.stands;
    over = w.over;
    moments = w.along.moments;
    calls = w.along.calls;
    reads = w.along.reads;
  }

  is-back : (worker : Worker) → HasComeBack worker → IsBack rack worker
  is-back worker w = record { pass = w.along.pass; guest = w.guest }

  pub may-run : (all : List Host) (opened given : Pass) (capacity : ℕ) (workers : List Worker) → MayPlay script rack opened all capacity → HaveTheirPasses script rack all given workers →
      MayRun script rack workers
  may-run all opened given capacity workers may theirs = record { rack_is = may.rack_is; each = theirs.start }

  module _ (all : List Host) (opened given first : Pass) (capacity : ℕ) (workers ran : List Worker) (may : MayPlay script rack opened all capacity)
      (theirs : HaveTheirPasses script rack all given workers) (same : length ran ≡ length workers) (run : MayRun script rack workers → HaveRun script rack workers ran) where
    back : HaveComeBack workers ran
    back = come-all workers ran same (run (may-run all opened given capacity workers may theirs)) theirs.guests

    pub all-back : All (IsBack rack) ran
    all-back = All-weaker HasComeBack (IsBack rack) is-back ran back.each

    ran-turned : All HasComeBack (reverse ran)
    ran-turned = All-reverse HasComeBack ran back.each

    counted : length workers ≡ length all
    counted = sym (length-reverse workers) ∙ sym (length-map-of (reverse workers)) ∙ ap length theirs.hosts_are
      where
        length-map-of : (ws : List Worker) → length (map host_in ws) ≡ length ws
        length-map-of [] = refl
        length-map-of (w ∷ ws) = ap suc (length-map-of ws)

    pub back-room : (most : ℕ) → length all ≤ most → length ran ≤ most
    back-room most room = omega (arith, same, counted, room)

    -- the hosts stand in their old order
    pub numbers : map no_of (map host_in (reverse ran)) ≡ host_numbers script
    numbers =
        ap (map no_of) (turned-map host_in ran) ∙ turned-map no_of (map host_in ran) ∙ ap reverse back.numbers
        ∙ sym (turned-map no_of (map host_in workers)) ∙ ap (map no_of) (sym (turned-map host_in workers) ∙ theirs.hosts_are) ∙ may.fresh.numbers

    module _ (taken : HasTakenBack rack (reverse ran) given first) where
      pub none-out : out_count first ≡ 0
      none-out = omega (arith, taken.out, length-reverse ran, same, theirs.out)

      pub kept-of : (host : ℕ) → slice_index_or (seen first).ended host [] ≡ asked_by (map host_in (reverse ran)) host
      kept-of host =
          ap (λ (l : List (List Call)). get_or l host []) (taken.ended ∙ ap (λ (l : List (List Call)). ended_with l (reverse ran)) theirs.ended)
          ∙ kept-is 0 host (reverse ran) (replicate 16 []) (All-weaker HasComeBack KeepsItsCalls keeps-calls (reverse ran) ran-turned)
          (subst (λ (ns : List HostNo). Rise 0 ns) (sym numbers) may.rack_is.ranges.hosts) (length-replicate {A = List Call} 16 [])
          ∙ ap (λ (l : List Call). asked_or l (map host_in (reverse ran)) host) (none-kept 16 host [])
          ∙ asked-none (map host_in (reverse ran)) host

      -- all have played, and the bays are back
      pub played : (hosts : List Host) (bays : List (Bay D g)) → hosts ≡ [] ++ map host_in (reverse ran) → AreClosed (openings_of rack) (seen first).ended (shadows bays) →
          HavePlayed script rack hosts bays
      played hosts bays are closed = subst (λ (l : List Host). HavePlayed script rack l bays) (sym are) (record {
        numbers = numbers;
        each = All-map (HasRunAlone script) host_in (reverse ran) (All-weaker HasComeBack (λ (w : Worker). HasRunAlone script w.host) runs-alone (reverse ran) ran-turned);
        bays_are = record {
          many = closed.many;
          each = λ bay d inside.
              let at = closed.each bay (slice_index_or (openings_of rack) bay d) (slice_index_or (shadows bays) bay d)
              (element-at (openings_of rack) bay d inside) (element-at (shadows bays) bay d (omega (arith, inside, closed.many))) in
              record {
                later = at.later;
                entries = λ host. at.entries host ∙ ap (λ (l : List Call). calls_at bay l) (kept-of host);
              };
        };
      })
