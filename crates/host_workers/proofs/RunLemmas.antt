-- A worker that runs: from its start, through its requests, to its end.
use Rattle.std.proofs.Common.{◌≡◌, ◌+◌, ◌-◌, ◌<◌, ◌≤◌, ◌^◌, Bool, true, false, List, [], length, reverse, refl, sym, ap, subst, ◌∙◌, arith}
use Rattle.std.specs.Prelude.{slice_index}
use Rattle.std.specs.Vec.{vec_len}
use Rattle.std.proofs.lemmas.List.{length-reverse}
use Rattle.std.proofs.lemmas.List.Elements.{All-nil, All-same}
use Rattle.raid_base.specs.declared.numbers.HostNo.{HostNo}
use Rattle.raid_base.specs.declared.messages.Call.{Call}
use Rattle.block_store.specs.declared.store.Store.{Ghosts}
use Rattle.script_text.specs.Script.{Script}
use Rattle.script_text.specs.Weights.{quota}
use Rattle.histories.specs.History.{progress_at}
use Rattle.histories.specs.HostRuns.{IsHostRun}
use Rattle.histories.specs.Bounds.{host_requests}
use Rattle.histories.specs.Quotas.{calls_at}
use Rattle.histories.proofs.bounds.RunQuotas.{host_runs_keep_quotas}
use Rattle.host_engine.specs.Stands.{Stands}
use Rattle.rack_turns.specs.declared.rack.Rack.{Rack}
use Rattle.host_workers.specs.declared.workers.Worker.{Worker}
use Rattle.host_workers.specs.Workers.{IsRackFor, IsAtStart, IsAlong, HasGoneOn, HasTurned, TakesTurn, MayGoOn, MayStart, HasRun, calls_of}

-- how far a worker has come since its start
pub record HasCome {D : Type 0} {g : Ghosts D} (script : Script) (rack : Rack D g) (old new : Worker) : Type 0 where
  pub along : IsAlong script rack old.host.no new
  pub first : new.pass.is_first ≡ old.pass.is_first

module _ {D : Type 0} {g : Ghosts D} (rack : Rack D g) where
  -- by its script
  abbrev pub Comes : Worker → Worker → Type 0
  Comes old new = (script : Script) → IsRackFor script rack → IsAtStart script rack old → HasCome script rack old new

  -- at its start it has asked nothing
  pub come-start : (worker : Worker) → Comes worker worker
  come-start worker script rack_is start =
      let host = worker.host.no in
      let fresh = start.asked.host in
      let none : calls_of worker ≡ [] = ap reverse fresh.nothing in
      record {
        along = record {
          pass = start.pass;
          number = start.number.same;
          asked = start.asked.pass ∙ sym fresh.nothing;
          run = subst (λ (l : List Call). IsHostRun script host l) (sym none) tt;
          stands = subst (λ (l : List Call). Stands script host worker.host (progress_at script host l)) (sym none) fresh.stands;
          moments = All-same (λ (c : Call). c.ask.moment < 2 ^ 40) worker.host.transcript.items [] fresh.nothing (All-nil (λ (c : Call). c.ask.moment < 2 ^ 40));
          left = λ bay inside.
              let all = start.quota.left bay inside in
              subst (λ (l : List Call). slice_index worker.pass.standing.left bay.0 + calls_at host bay l ≡ quota script host) (sym none) (omega (arith, all));
          calls = fresh.calls;
          reads = fresh.reads;
        };
        first = refl;
      }

  -- it may go on
  pub come-may : (old new : Worker) → MayStart rack old → Comes old new → MayGoOn rack new
  come-may old new r come = record { script = r.script; host = old.host.no; rack_is = r.rack_is; along = (come r.script r.rack_is r.start).along }

  -- one request more
  pub come-more : (old mid new : Worker) → Comes old mid → (on : Bool) → TakesTurn rack mid new on → on ≡ true → Comes old new
  come-more old mid new come on turns is script rack_is start =
      let before = come script rack_is start in
      let more : HasGoneOn script rack old.host.no mid new =
      subst (λ (b : Bool). HasTurned script rack old.host.no mid new b) is (turns script old.host.no rack_is before.along) in
      record { along = more.along; first = more.first ∙ before.first }

  -- of which there are so many at most
  pub come-smaller : (old mid new : Worker) → MayStart rack old → Comes old mid → (on : Bool) → TakesTurn rack mid new on → on ≡ true →
      host_requests old.host.script.now old.host.no - vec_len new.host.transcript < host_requests old.host.script.now old.host.no - vec_len mid.host.transcript
  come-smaller old mid new r come on turns is =
      let host = old.host.no in
      let before = come r.script r.rack_is r.start in
      let more : HasGoneOn r.script rack host mid new =
      subst (λ (b : Bool). HasTurned r.script rack host mid new b) is (turns r.script host r.rack_is before.along) in
      let all = host_runs_keep_quotas r.script host (calls_of new) (record { ranges = r.rack_is.ranges }) more.along.run in
      let few : length (calls_of new) ≤ host_requests r.script host = all.all in
      let long : length (calls_of new) ≡ length new.host.transcript.items = length-reverse new.host.transcript.items in
      let same : host_requests old.host.script.now host ≡ host_requests r.script host = ap (λ (s : Script). host_requests s host) r.start.plays.plays in
      omega (arith, few, long, same, more.more, mid.host.transcript.ok.0, new.host.transcript.ok.0)

  -- at the end
  pub come-ended : (old mid new : Worker) → Comes old mid → (on : Bool) → TakesTurn rack mid new on → on ≡ false →
      (script : Script) → IsRackFor script rack → IsAtStart script rack old → HasRun script rack old new
  come-ended old mid new come on turns is script rack_is start =
      let host = old.host.no in
      let before = come script rack_is start in
      let none : HasTurned script rack host mid new false = subst (λ (b : Bool). HasTurned script rack host mid new b) is (turns script host rack_is before.along) in
      let stays : mid ≡ new = sym none.0 in
      subst (λ (w : Worker). HasRun script rack old w) stays
      (record {
        along = before.along;
        stays = record { number = before.along.stands.counts.number; plays = before.along.stands.counts.plays ∙ sym start.plays.plays; first = before.first };
        ended = none.1;
      })
