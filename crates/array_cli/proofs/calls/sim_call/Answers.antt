use Rattle.array_cli.proofs.CallLemmas.{no-script-call, played-call}
use Rattle.array_cli.proofs.calls.sim_call.Goals as goal

pub returns-in-Ok : goal.returns-in-Ok
returns-in-Ok g c =
    let from = c.in-Ok.ensures.read in
    played-call g.S.Source g.K.Sink g.D.Store c.in-Ok.script c.args.source.now c.read_input.new.source c.args.sink.now c.play.new.sink c.args.stores.items c.play.result from.read from.few c.play.ensures
