use Rattle.array_cli.proofs.ThreadLemmas.{no-script-run, run-call}
use Rattle.array_cli.proofs.thread_runs.run_call.Goals as goal

pub returns-in-Ok : goal.returns-in-Ok
returns-in-Ok g c =
    run-call g.S.Source g.K.Sink g.D.Store c.in-Ok.script c.args.source.now c.read_input.new.source c.args.sink.now c.run_script.new.sink c.args.stores.items c.run_script.result
    c.in-Ok.ensures.read c.run_script.ensures.run c.run_script.ensures.merged
