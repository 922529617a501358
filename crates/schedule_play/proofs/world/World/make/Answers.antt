use Rattle.std.proofs.Common.{ℕ, ◌<◌, Bool, IsTrue, refl, sym, subst, arith, ap, length, get_or}
use Rattle.script_text.specs.Script.{Script}
use Rattle.schedule_play.specs.Making.{IsMade}
use Rattle.schedule_play.proofs.MakeLemmas.{host-at-start, bay-at-start}
use Rattle.schedule_play.proofs.KeepLemmas.{made-over}
use Rattle.schedule_play.proofs.QuotaLemmas.{jobs-few, requests-few, quotas-few}
use Rattle.schedule_play.proofs.world.World.make.Goals as goal

pub all_requests-requests-requires-clause-few : goal.all_requests-requests-requires-clause-few
all_requests-requests-requires-clause-few g c = requests-few c.args.script.now c.requires.playable c.requires.few

pub all_requests-requests-requires-clause-jobs : goal.all_requests-requests-requires-clause-jobs
all_requests-requests-requires-clause-jobs g c = jobs-few c.args.script.now c.requires.jobs

pub all_quotas-quotas-requires-clause-few : goal.all_quotas-quotas-requires-clause-few
all_quotas-quotas-requires-clause-few g c = quotas-few c.args.script.now c.requires.playable c.requires.few

pub make_hosts-requires-clause-jobs : goal.make_hosts-requires-clause-jobs
make_hosts-requires-clause-jobs g c = jobs-few c.args.script.now c.requires.jobs

pub make-requires-clause-jobs : goal.make-requires-clause-jobs
make-requires-clause-jobs g c = jobs-few c.args.script.now c.requires.jobs

pub returns-clause-shows : goal.returns-clause-shows
returns-clause-shows g c = record {
  plays = refl;
  asked = tt;
  hosts = λ k d h. host-at-start c.args.script.now (get_or c.in-Ok-make_hosts.hosts.items k d) (c.in-Ok-make_hosts.ensures.fresh k d h);
  numbers = c.in-Ok-make_hosts.ensures.numbers;
  bays = λ k e h.
      let m = c.in_ok-bays.ensures.made k e.store e h in
      bay-at-start c.args.script.now k (get_or c.args.stores.items k e.store) (get_or c.in_ok-bays.bays.items k e) (subst (λ (n : ℕ). IsMade {D = g.row.D.Denot} {g = g.D.Store} c.args.script.now n (get_or c.args.stores.items k e.store) (get_or c.in_ok-bays.bays.items k e)) c.all_quotas-quotas.ensures m);
  bay_count = c.in_ok-bays.ensures.count;
  turns = c.in-Ok.ensures.items;
  turn_room = omega (arith, c.in-Ok.ensures.room, c.all_requests-requests.ensures);
  told = λ _. tt;
}

pub returns-clause-tells : goal.returns-clause-tells
returns-clause-tells g c = λ all k e h.
    let m = c.in_ok-bays.ensures.made k e.store e h in
    let below : k < c.args.script.now.n = omega (arith, h, c.in_ok-bays.ensures.count) in
    let inside : k < length c.args.stores.items = omega (arith, below, c.if-len-script.false, c.len.ensures, c.args.stores.ok.0, ap (λ (s : Script). s.n) c.script.view_is) in
    subst (λ (b : Bool). IsTrue b) (sym m.tells) (all k e.store inside below)

pub returns-clause-made : goal.returns-clause-made
returns-clause-made g c = λ k d e h.
    subst (λ (n : ℕ). IsMade {D = g.row.D.Denot} {g = g.D.Store} c.args.script.now n (get_or c.args.stores.items k d) (get_or c.in_ok-bays.bays.items k e)) c.all_quotas-quotas.ensures
    (c.in_ok-bays.ensures.made k d e h)

pub returns-clause-over : goal.returns-clause-over
returns-clause-over g c = λ k d e h. made-over c.args.script.now c.all_quotas-quotas.result (get_or c.args.stores.items k d) (get_or c.in_ok-bays.bays.items k e) (c.in_ok-bays.ensures.made k d e h)
