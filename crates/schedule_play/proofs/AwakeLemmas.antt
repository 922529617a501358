-- A host waits exactly while it has not ended.
use Rattle.std.proofs.Common.{◌≡◌, ℕ, List, Bool, true, false, Option, Some, None, refl, ap}
use Rattle.std.specs.Prelude.{IsSome}
use Rattle.raid_base.specs.declared.numbers.HostNo.{HostNo}
use Rattle.raid_base.specs.declared.numbers.BayNo.{BayNo}
use Rattle.raid_base.specs.declared.messages.Errand.{Errand}
use Rattle.raid_base.specs.declared.messages.Call.{Call}
use Rattle.script_text.specs.Script.{Script}
use Rattle.histories.specs.Progress.{Sent, asks, sent_by, work_errand}
use Rattle.histories.specs.History.{progress_at, has_ended}
use Rattle.raid_base.specs.declared.messages.Ask.{Ask}
use Rattle.host_engine.specs.Stands.{sent_pair}
use Rattle.schedule_play.specs.Plays.{unless_ended}
use Rattle.histories.specs.Asked.{AreAsked}
use Rattle.histories.specs.Bounds.{IsPlayable}
use Rattle.histories.proofs.bounds.Awake.{work-asks, asks-none, history-awake}

-- the host that asks
abbrev pub asker-of : Option (BayNo × Ask) → Option HostNo
asker-of None = None
asker-of (Some (bay, ask)) = Some ask.host

asker : (host : HostNo) (clock moment : ℕ) (o : Option Errand) → IsSome o → asker-of (sent_pair (sent_by host clock moment o)) ≡ Some host
asker host clock moment None some = absurd (cc some)
asker host clock moment (Some e) some = refl

pub waits-or-not : (script : Script) (host : HostNo) (history : List Call) → IsPlayable script → AreAsked script history →
    asker-of (sent_pair (asks host (progress_at script host history) 0)) ≡ unless_ended (has_ended script history host) host
waits-or-not script host history is h = by _ refl
  where
    by : (b : Bool) → has_ended script history host ≡ b → asker-of (sent_pair (asks host (progress_at script host history) 0)) ≡ unless_ended b host
    by true e = ap (λ (o : Option Sent). asker-of (sent_pair o)) (asks-none script host history 0 e)
    by false e =
        let p = progress_at script host history in
        asker host p.clock 0 (work_errand p.work) (work-asks p.work (history-awake script host history is h) e)
