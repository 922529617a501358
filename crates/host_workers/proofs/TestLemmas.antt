-- What the tests make: bays that nobody has asked, and hosts with passes of their quotas.
use Rattle.std.proofs.Common.{◌≡◌, ℕ, zero, suc, ◌+◌, ◌*◌, ◌<◌, ◌≤◌, ◌^◌, false, List, [], ◌∷◌, ◌++◌, length, map, take, drop, replicate, refl, sym, ap, subst, ◌∙◌, arith, length-append}
use Rattle.std.specs.Prelude.{All, flat_map, slice_index, slice_index_or}
use Rattle.std.proofs.lemmas.List.{length-map, append-nil, take_all}
use Rattle.std.proofs.Math.ListN.{drop_of_length-le}
use Rattle.std.proofs.Math.Seq.{take-length}
use Rattle.std.proofs.lemmas.List.Elements.{All-head, All-tail}
use mathlib.Core.Option.{some, some-injective, some-ne-none}
use lib.ListN.{get_elem?}
use Rattle.raid_base.specs.declared.numbers.HostNo.{HostNo}
use Rattle.raid_base.specs.declared.messages.Call.{Call}
use Rattle.block_store.specs.declared.store.Store.{Ghosts}
use Rattle.bay_device.specs.declared.bay.Bay.{Bay}
use Rattle.script_text.specs.Script.{Script, HostJobs}
use Rattle.script_text.specs.Ranges.{IsScript, all_jobs}
use Rattle.script_text.specs.Weights.{quota}
use Rattle.host_engine.specs.Stands.{IsFreshHost}
use Rattle.host_engine.specs.declared.host.Host.{Host}
use Rattle.rack_turns.specs.declared.pass.Pass.{Pass}
use Rattle.rack_turns.specs.declared.rack.Rack.{Rack}
use Rattle.rack_turns.specs.declared.view.Shadow.{Shadow}
use Rattle.rack_turns.specs.declared.view.View.{View}
use Rattle.rack_turns.specs.Shadows.{shadow, shadows}
use Rattle.rack_turns.specs.Passes.{IsPassOf, IsNewGuest, AreNew, openings_of}
use Rattle.host_workers.specs.declared.workers.Worker.{Worker}
use Rattle.host_workers.specs.Workers.{IsRackFor, HasBaysOf, IsAtStart, MayRun, HaveRun}

-- few jobs of each host are few in all
pub few-jobs : (hosts : List HostJobs) → All (λ (host : HostJobs). length host.jobs ≤ 100) hosts → length (flat_map (λ (host : HostJobs). host.jobs) hosts) ≤ 100 * length hosts
few-jobs [] few = omega arith
few-jobs (host ∷ hosts) few =
    let here = All-head (λ (h : HostJobs). length h.jobs ≤ 100) host hosts few in
    let rest = few-jobs hosts (All-tail (λ (h : HostJobs). length h.jobs ≤ 100) host hosts few) in
    omega (arith, here, rest, length-append host.jobs (flat_map (λ (h : HostJobs). h.jobs) hosts))

-- so a script of at most 16 hosts has few
pub short-script : (script : Script) (hosts : List HostJobs) (k : ℕ) → hosts ≡ script.hosts → All (λ (host : HostJobs). length host.jobs ≤ 100) (take k hosts) → length hosts ≤ k → length hosts ≤ 16 →
    length (all_jobs script) < 2 ^ 32
short-script script hosts k same few done most =
    let all : All (λ (host : HostJobs). length host.jobs ≤ 100) hosts = subst (λ (l : List HostJobs). All (λ (host : HostJobs). length host.jobs ≤ 100) l) (take_all k hosts done) few in
    let jobs : length (all_jobs script) ≡ length (flat_map (λ (host : HostJobs). host.jobs) hosts) = ap (λ (l : List HostJobs). length (flat_map (λ (host : HostJobs). host.jobs) l)) (sym same) in
    omega (arith, jobs, few-jobs hosts all, most)

-- a list that was lent whole and given back
pub lent-back : {X : Type 0} (new old : List X) (n : ℕ) → length new ≡ length old → n ≡ length old → take n (new ++ drop (length new) old) ≡ new
lent-back new old n same long =
    ap (λ (rest : _). take n (new ++ rest)) (drop_of_length-le old {i = length new} (omega (arith, same)))
    ∙ ap (take n) (append-nil new) ∙ ap (λ (k : ℕ). take k new) (long ∙ sym same) ∙ take-length new

same-left : (n quota k : ℕ) → k < n → slice_index (replicate n quota) k ≡ quota
same-left zero quota k inside = absurd (omega arith)
same-left (suc n) quota zero inside = refl
same-left (suc n) quota (suc k) inside = same-left n quota k (omega arith)

module _ {D : Type 0} {g : Ghosts D} where
  -- a bay of so many rows that nobody has asked
  pub record IsNewBay (rows : ℕ) (bay : Bay D g) : Type 0 where
    pub journal : bay.journal.items ≡ []
    pub clock : bay.clock ≡ 0
    pub rows_are : length bay.slots.slots ≡ rows

  each-shadow : (P : Shadow → Type 0) (bays : List (Bay D g)) → All (λ (bay : Bay D g). P (shadow bay)) bays → (k : ℕ) (opening : Shadow) → get_elem? (shadows bays) k ≡ some opening → P opening
  each-shadow P [] all k opening at = absurd (some-ne-none opening (sym at))
  each-shadow P (bay ∷ bays) all zero opening at = subst P (some-injective (shadow bay) opening at) (All-head (λ (b : Bay D g). P (shadow b)) bay bays all)
  each-shadow P (bay ∷ bays) all (suc k) opening at = each-shadow P bays (All-tail (λ (b : Bay D g). P (shadow b)) bay bays all) k opening at

  pub new-bays : (rows : ℕ) (bays : List (Bay D g)) → All (IsNewBay rows) bays → AreNew (shadows bays)
  new-bays rows bays all = each-shadow (λ (s : Shadow). (s.journal ≡ []) × (s.clock ≡ 0)) bays (λ k d inside. ((all k d inside).journal, (all k d inside).clock))

  pub rack-for : (script : Script) (bays : List (Bay D g)) (rack : Rack D g) → IsScript script → All (IsNewBay script.rows) bays → length bays ≡ script.n → openings_of rack ≡ shadows bays → IsRackFor script rack
  rack-for script bays rack is all many opened = record {
    ranges = is;
    bays = subst (λ (openings : List Shadow). HasBaysOf script openings) (sym opened)
        (record {
          many = length-map bays shadow ∙ many;
          rows = each-shadow (λ (s : Shadow). length s.slots.slots ≡ script.rows) bays (λ k d inside. (all k d inside).rows_are);
        });
  }

  -- a host at its start with the pass that it was given
  pub starts : (script : Script) (rack : Rack D g) (host : HostNo) (most : ℕ) (runs : Host) (first pass : Pass) → IsScript script → IsFreshHost script host runs → most ≡ quota script host →
      IsPassOf rack pass → IsNewGuest host.0 most first pass → IsAtStart script rack (record { host = runs; pass = pass })
  starts script rack host most runs first pass is fresh same of_rack guest =
      let number : runs.no ≡ host = fresh.stands.counts.number in
      record {
        pass = of_rack;
        number = record { same = ap (λ (k : ℕ). let h : HostNo = record { 0 = k } in h) guest.host_is ∙ sym number };
        quota = record {
          left = λ bay inside.
              ap (λ (l : List ℕ). slice_index l bay.0) guest.left ∙ same-left 16 most bay.0 (let h = is.devices_most in omega arith) ∙ same
              ∙ ap (λ (h : HostNo). quota script h) (sym number);
        };
        asked = record { host = subst (λ (h : HostNo). IsFreshHost script h runs) (sym number) fresh; pass = ap (λ (v : View). v.asked) guest.view };
        plays = record { plays = fresh.stands.counts.plays };
      }

  -- after the run each has a pass of the rack that isn't the first
  pub guests-back : (script : Script) (rack : Rack D g) (old lent new back : List Worker) → MayRun script rack old → lent ≡ old → (MayRun script rack lent → HaveRun script rack lent new) → length new ≡ length lent →
      All (λ (worker : Worker). worker.pass.is_first ≡ false) old → back ≡ new → All (λ (worker : Worker). IsPassOf rack worker.pass × (worker.pass.is_first ≡ false)) back
  guests-back script rack old lent new back may is ran same guests back_is =
      let done = ran (subst (λ (l : List Worker). MayRun script rack l) (sym is) may) in
      let others : All (λ (worker : Worker). worker.pass.is_first ≡ false) lent = subst (λ (l : List Worker). All (λ (worker : Worker). worker.pass.is_first ≡ false) l) (sym is) guests in
      subst (λ (l : List Worker). All (λ (worker : Worker). IsPassOf rack worker.pass × (worker.pass.is_first ≡ false)) l) (sym back_is)
      (λ k d inside.
      let at : k < length lent = omega (arith, inside, same) in
      let one = done k d at in
      (one.along.pass, one.stays.first ∙ others k d at))
