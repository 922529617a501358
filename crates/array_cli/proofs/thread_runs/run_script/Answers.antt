use Rattle.std.proofs.Common.{subst}
use Rattle.script_text.specs.Script.{Script}
use Rattle.report_text.specs.Report.{report_text}
use Rattle.report_text.specs.Views.{report_in}
use Rattle.array_cli.specs.Parts.{HasPrinted}
use Rattle.array_cli.proofs.ThreadLemmas.{merged-handed, reported-run, stopped-run}
use Rattle.array_cli.proofs.thread_runs.run_script.Goals as goal

pub returns-in-Ok-clause-run : goal.returns-in-Ok-clause-run
returns-in-Ok-clause-run g c =
    let world = c.in-Ok.world in
    let f = c.in-Ok.ensures.finished in
    reported-run g.K.Sink g.D.Store (g.met.D.Store g.world.𝓛 g.world.𝓜 g.world.𝓡 ((λ s x. x), (λ x. x), (λ x. x), λ x. x)).whole c.args.script.now c.requires.script c.requires.jobs c.requires.few c.args.sink.now c.reported.new.sink c.args.stores.items world c.reported.result f
    (record { journals = c.reported.ensures.journals; results = c.reported.ensures.results; turns = c.reported.ensures.turns; stores = c.reported.ensures.stores })
    (subst (λ (s : Script). HasPrinted g.K.Sink
    (report_text (report_in s world.gathered.results.items world.gathered.contents.items world.turns.items world.gathered.cells.items world.gathered.opened.items))
    c.args.sink.now c.reported.new.sink c.reported.result.status) f.shows.plays c.reported.ensures.printed)

pub returns-in-Ok-clause-merged : goal.returns-in-Ok-clause-merged
returns-in-Ok-clause-merged g c =
    merged-handed c.in-Ok.world c.reported.result
    (record { journals = c.reported.ensures.journals; results = c.reported.ensures.results; turns = c.reported.ensures.turns; stores = c.reported.ensures.stores })
    c.in-Ok.ensures.finished.merged

pub returns-in-Err-clause-run : goal.returns-in-Err-clause-run
returns-in-Err-clause-run g c = stopped-run g.K.Sink g.D.Store c.args.script.now c.args.sink.now c.args.stores.items c.in-Err.outcome c.in-Err.outcome.status c.in-Err.ensures.refused.stopped
