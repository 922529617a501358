use Rattle.std.proofs.Common.{sym, ◌∙◌}
use Rattle.host_engine.proofs.TakeLemmas.{next-none, sent-of}
use Rattle.host_engine.proofs.host.Host.take.Goals as goal

pub unreachable-requires : goal.unreachable-requires
unreachable-requires c = next-none c.args.self.now c.args.moment c.args.answer.now c.requires.ready c.next.result c.next.ensures c.in-None.is

pub heard-requires : goal.heard-requires
heard-requires c = record {
  ready = c.requires.ready;
  sent = sent-of c.args.self.now c.args.moment c.args.answer.now c.requires.ready c.in-Some.bay c.in-Some.ask (λ script host p s. sym c.in-Some.is ∙ c.next.ensures script host p s);
}
