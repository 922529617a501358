use Rattle.std.proofs.Common.{◌≡◌, ℕ, ◌<◌, List, [], ◌∷◌, ◌++◌, ap, sym, subst, ◌∙◌, arith, take, length, get_or, map}
use Rattle.std.proofs.lemmas.List.{map-append, take_more}
use Rattle.raid_base.specs.declared.numbers.HostNo.{HostNo}
use Rattle.host_engine.specs.declared.host.Host.{Host}
use Rattle.host_engine.specs.Stands.{IsFreshHost}
use Rattle.script_text.specs.Script.{HostJobs}
use Rattle.schedule_play.proofs.MakeLemmas.{jobs-aimed, jobs-sized, jobs-held, small-of-item, each-push}
use Rattle.schedule_play.proofs.making.make_hosts.Goals as goal

pub make-requires-clause-host : goal.make-requires-clause-host
make-requires-clause-host c =
    let h = c.jobs-item.result in
    let small = small-of-item c.args.script.now c.requires.playable.ranges c.loop-jobs.jobs-index h c.hosts-jobs-items.result.now c.hosts-jobs-items.ensures c.loop-jobs-test.true c.jobs-item.is in
    subst (λ (x : HostJobs). x.host.0 < 16) (sym c.jobs.view_is) small

pub make-requires-clause-aimed : goal.make-requires-clause-aimed
make-requires-clause-aimed c = jobs-aimed c.args.script.now c.requires.playable.ranges _

pub make-requires-clause-sized : goal.make-requires-clause-sized
make-requires-clause-sized c = jobs-sized c.args.script.now c.requires.playable.ranges _

pub make-requires-clause-held : goal.make-requires-clause-held
make-requires-clause-held c = jobs-held c.args.script.now c.requires.playable.ranges _

pub loop-jobs-preserved : goal.loop-jobs-preserved
loop-jobs-preserved c =
    let h = c.jobs-item.result in
    let items = c.hosts-jobs-items.result.now in
    let made = c.in_ok-make.field-0 in
    let fresh : IsFreshHost c.args.script.now c.jobs.inside.host made = c.in_ok-make.ensures in
    let no : made.no ≡ h.host = fresh.stands.counts.number ∙ ap (λ (x : HostJobs). x.host) c.jobs.view_is in
    let there : get_or items c.loop-jobs.jobs-index h ≡ h = sym c.jobs-item.is in
    record {
      numbers = ap (λ (hs : List Host). map (λ (x : Host). x.no) hs) c.push_reserved.ensures.items ∙ map-append (λ (x : Host). x.no) c.loop-jobs.hosts.items (made ∷ [])
          ∙ ap (λ (ns : List HostNo). ns ++ made.no ∷ []) c.loop-jobs.invariant.numbers
          ∙ ap (λ (n : HostNo). map (λ (x : HostJobs). x.host) (take c.loop-jobs.jobs-index items) ++ n ∷ []) (no ∙ ap (λ (x : HostJobs). x.host) (sym there))
          ∙ sym (map-append (λ (x : HostJobs). x.host) (take c.loop-jobs.jobs-index items) (get_or items c.loop-jobs.jobs-index h ∷ []))
          ∙ ap (λ (xs : List HostJobs). map (λ (x : HostJobs). x.host) xs) (sym (take_more items c.loop-jobs.jobs-index h c.loop-jobs-test.true));
      fresh = subst (λ (hs : List Host). (k : ℕ) (d : Host) → k < length hs → IsFreshHost c.args.script.now (get_or hs k d).no (get_or hs k d)) (sym c.push_reserved.ensures.items)
          (each-push (λ (k : ℕ) (x : Host). IsFreshHost c.args.script.now x.no x) c.loop-jobs.hosts.items made c.loop-jobs.invariant.fresh
          (subst (λ (n : HostNo). IsFreshHost c.args.script.now n made) (sym fresh.stands.counts.number) fresh));
      count = omega (arith, c.push_reserved.ensures.len, c.loop-jobs.invariant.count);
      room = omega (arith, c.push_reserved.ensures.capacity, c.loop-jobs.invariant.room);
    }
