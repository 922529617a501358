use Rattle.std.proofs.Common.{◌<◌, List, ap, sym, subst, arith, length, get_or}
use Rattle.script_text.specs.Script.{Script}
use Rattle.bay_device.specs.Making.{IsRefusal, IsUncleared}
use Rattle.schedule_play.specs.Making.{IsMade, AreMade}
use Rattle.schedule_play.proofs.MakeLemmas.{next-store, count-left, made-push, put-back, none-risen, rises-none}
use Rattle.schedule_play.proofs.making.make_bays.Goals as goal

pub returns-in-NoMemory-clause-refused : goal.returns-in-NoMemory-clause-refused
returns-in-NoMemory-clause-refused g c =
    let v = c.loop-bay.invariant in
    let inside : c.loop-bay.bay < length c.args.stores.items = omega (arith, c.loop-bay-test.true, c.requires.enough, ap (λ (s : Script). s.n) c.script.view_is) in
    let r = subst (λ (f : _). IsRefusal g.D.Store c.script.inside.rows c.in-Some.store f) c.in-NoMemory.is c.in-Err-make.ensures.refused in
    let p = put-back c.args.script.now c.args.cap c.loop-bay.bays.items c.args.stores.items c.loop-bay.stores.items c.pop.new.self.items c.push_reserved-in-NoMemory.new.self.items c.put_back.result.items c.in-Some.store c.in-NoMemory.store c.args.script.now.n c.loop-bay.bay
    v.made (omega (arith, v.count, c.loop-bay.bays.ok.0)) (omega (arith, c.loop-bay-test.true, ap (λ (s : Script). s.n) c.script.view_is)) inside v.rest c.in-Some.ensures.items c.push_reserved-in-NoMemory.ensures.items c.put_back.ensures
    (record { tells_is = ap g.D.Store.tells r.1; size_is = ap g.D.Store.size r.1; faults_least = none-risen _ _ (omega (arith, ap g.D.Store.faults r.1)) }) in
    (c.requires, p.back_is, p.unopened r.1)

pub put_back-requires-in-Fault : goal.put_back-requires-in-Fault
put_back-requires-in-Fault g c =
    let v = c.loop-bay.invariant in
    let inside : c.loop-bay.bay < length c.args.stores.items = omega (arith, c.loop-bay-test.true, c.requires.enough, ap (λ (s : Script). s.n) c.script.view_is) in
    let left = count-left c.args.stores.items c.loop-bay.stores.items c.loop-bay.bay v.rest inside in
    omega (arith, left, v.count, v.spare, c.push_reserved-in-Fault.ensures.len, c.push_reserved-in-Fault.ensures.capacity, c.pop.ensures.capacity, c.in-Some.ensures.cases, c.args.stores.ok.0, c.loop-bay.stores.ok.0)

pub returns-in-Fault-clause-refused : goal.returns-in-Fault-clause-refused
returns-in-Fault-clause-refused g c =
    let v = c.loop-bay.invariant in
    let inside : c.loop-bay.bay < length c.args.stores.items = omega (arith, c.loop-bay-test.true, c.requires.enough, ap (λ (s : Script). s.n) c.script.view_is) in
    let r = subst (λ (f : _). IsRefusal g.D.Store c.script.inside.rows c.in-Some.store f) c.in-Fault.is c.in-Err-make.ensures.refused in
    let p = put-back c.args.script.now c.args.cap c.loop-bay.bays.items c.args.stores.items c.loop-bay.stores.items c.pop.new.self.items c.push_reserved-in-Fault.new.self.items c.put_back-in-Fault.result.items c.in-Some.store c.in-Fault.store c.args.script.now.n c.loop-bay.bay
    v.made (omega (arith, v.count, c.loop-bay.bays.ok.0)) (omega (arith, c.loop-bay-test.true, ap (λ (s : Script). s.n) c.script.view_is)) inside v.rest c.in-Some.ensures.items c.push_reserved-in-Fault.ensures.items c.put_back-in-Fault.ensures
    (record { tells_is = r.1.tells_is; size_is = r.1.size_is; faults_least = rises-none _ _ r.1.rises }) in
    let failed = subst (λ (s : Script). IsUncleared g.D.Store s.rows c.in-Some.store c.in-Fault.store) c.script.view_is r.1 in (
      c.requires,
      p.back_is,
      omega (arith, c.loop-bay-test.true, ap (λ (s : Script). s.n) c.script.view_is),
      record {
        failed = λ d. subst (λ (x : g.row.D.Denot). IsUncleared g.D.Store c.args.script.now.rows x (get_or c.put_back-in-Fault.result.items c.loop-bay.bay d)) (sym (p.was d))
            (subst (λ (x : g.row.D.Denot). IsUncleared g.D.Store c.args.script.now.rows c.in-Some.store x) (sym (p.now d)) failed);
        behind = p.behind;
      },
    )

pub unreachable-requires-in-TooSmall : goal.unreachable-requires-in-TooSmall
unreachable-requires-in-TooSmall g c =
    let v = c.loop-bay.invariant in
    let inside : c.loop-bay.bay < length c.args.stores.items = omega (arith, c.loop-bay-test.true, c.requires.enough, ap (λ (s : Script). s.n) c.script.view_is) in
    let next = next-store c.args.stores.items c.loop-bay.stores.items c.pop.new.self.items c.in-Some.store c.loop-bay.bay c.in-Some.ensures.items v.rest inside in
    let large = c.requires.large c.loop-bay.bay c.in-Some.store (omega (arith, c.loop-bay-test.true, ap (λ (s : Script). s.n) c.script.view_is)) in
    let r = subst (λ (f : _). IsRefusal g.D.Store c.script.inside.rows c.in-Some.store f) c.in-TooSmall.is c.in-Err-make.ensures.refused in
    omega (arith, large, ap g.D.Store.size (next.here c.in-Some.store), r.0, ap (λ (s : Script). s.rows) c.script.view_is)

pub loop-bay-preserved : goal.loop-bay-preserved
loop-bay-preserved g c =
    let v = c.loop-bay.invariant in
    let e = c.in-Ok-make.ensures in
    let inside : c.loop-bay.bay < length c.args.stores.items = omega (arith, c.loop-bay-test.true, c.requires.enough, ap (λ (s : Script). s.n) c.script.view_is) in
    let next = next-store c.args.stores.items c.loop-bay.stores.items _ c.in-Some.store c.loop-bay.bay c.in-Some.ensures.items v.rest inside in
    let made = subst (λ (s : Script). IsMade {D = g.row.D.Denot} {g = g.D.Store} s c.args.cap c.in-Some.store c.in-Ok-make.made) c.script.view_is (record {
      told = e.told;
      rows = e.rows;
      clock = e.clock;
      entries = e.journal;
      cap_is = e.cap;
      tells = e.store.0;
      size = e.store.1;
      faults = e.store.2;
    }) in
    record {
      rest = next.rest;
      made = subst (λ (bs : List _). AreMade c.args.script.now c.args.cap c.args.stores.items bs) (sym c.push_reserved.ensures.items)
          (made-push c.args.script.now c.args.cap c.args.stores.items c.loop-bay.bays.items c.in-Ok-make.made c.in-Some.store c.loop-bay.bay (omega (arith, v.count, c.loop-bay.bays.ok.0)) next.here v.made made);
      count = omega (arith, c.push_reserved.ensures.len, v.count);
      room = omega (arith, c.push_reserved.ensures.capacity, v.room);
      spare = omega (arith, c.pop.ensures.capacity, v.spare);
    }
