use Rattle.std.proofs.Common.{sym, ◌∙◌}
use Rattle.host_engine.proofs.ReadyLemmas.{ready-takes, ready-again}
use Rattle.host_plays.proofs.hosts.tell.Goals as goal

pub take-requires : goal.take-requires
take-requires c = record {
  ready = ready-takes c.args.host.now 7 (record { clock = c.saturating_add.result; reply = c.args.reply.now }) c.requires c.next.result c.in-Some.sent.0 c.in-Some.sent.1 c.next.ensures c.in-Some.is
      (sym c.fits.ensures ∙ c.if-fits.true);
}

pub returns-then-fits : goal.returns-then-fits
returns-then-fits c =
    ready-again c.args.host.now c.take.new.self 7 (record { clock = c.saturating_add.result; reply = c.args.reply.now }) c.requires c.next.result c.in-Some.sent.0 c.in-Some.sent.1 c.next.ensures c.in-Some.is
    (sym c.fits.ensures ∙ c.if-fits.true) c.take.ensures
