use Rattle.std.proofs.Common.{refl}
use Rattle.host_workers.proofs.WorkerLemmas.{now-asks, now-sent, now-takes, now-gone-on, ended-of}
use Rattle.host_workers.proofs.workers.turn.Goals as goal

pub ask-answer-requires-clause-pass : goal.ask-answer-requires-clause-pass
ask-answer-requires-clause-pass g c = c.requires.ready.along.pass

pub ask-answer-requires-clause-bay : goal.ask-answer-requires-clause-bay
ask-answer-requires-clause-bay g c =
    (now-asks c.args.rack.now c.args.worker.now c.args.moment c.next.result c.in-Some.sent.0 c.in-Some.sent.1 c.next.ensures c.in-Some.is c.requires.ready).bay_is

pub ask-answer-requires-clause-host : goal.ask-answer-requires-clause-host
ask-answer-requires-clause-host g c =
    (now-asks c.args.rack.now c.args.worker.now c.args.moment c.next.result c.in-Some.sent.0 c.in-Some.sent.1 c.next.ensures c.in-Some.is c.requires.ready).host

pub ask-answer-requires-clause-left : goal.ask-answer-requires-clause-left
ask-answer-requires-clause-left g c =
    (now-asks c.args.rack.now c.args.worker.now c.args.moment c.next.result c.in-Some.sent.0 c.in-Some.sent.1 c.next.ensures c.in-Some.is c.requires.ready).left

pub ask-answer-requires-clause-clock : goal.ask-answer-requires-clause-clock
ask-answer-requires-clause-clock g c =
    (now-asks c.args.rack.now c.args.worker.now c.args.moment c.next.result c.in-Some.sent.0 c.in-Some.sent.1 c.next.ensures c.in-Some.is c.requires.ready).clock

pub ask-answer-requires-clause-ask : goal.ask-answer-requires-clause-ask
ask-answer-requires-clause-ask g c =
    (now-asks c.args.rack.now c.args.worker.now c.args.moment c.next.result c.in-Some.sent.0 c.in-Some.sent.1 c.next.ensures c.in-Some.is c.requires.ready).fitting

pub heard-requires : goal.heard-requires
heard-requires g c = record {
  ready = now-takes c.args.rack.now c.args.worker.now c.args.moment c.next.result c.in-Some.sent.0 c.in-Some.sent.1 c.next.ensures c.in-Some.is c.requires.ready c.ask-answer.result
      c.ask-answer.ensures.answer.fitting;
  sent = now-sent c.args.rack.now c.args.worker.now c.args.moment c.next.result c.in-Some.sent.0 c.in-Some.sent.1 c.next.ensures c.in-Some.is c.requires.ready;
}

pub returns-in-None : goal.returns-in-None
returns-in-None g c script host rack_is along = (
  refl,
  ended-of script c.args.rack.now host rack_is c.args.worker.now c.args.moment c.next.result along c.next.ensures c.in-None.is,
)

pub returns : goal.returns
returns g c script host rack_is along =
    now-gone-on c.args.rack.now c.args.worker.now c.args.moment c.next.result c.in-Some.sent.0 c.in-Some.sent.1 c.next.ensures c.in-Some.is script host rack_is along
    (record { host = c.heard.new.self; pass = c.ask-answer.new.pass }) c.ask-answer.result c.requires.moment c.ask-answer.ensures.pass c.ask-answer.ensures.asked c.heard.ensures
