use Rattle.std.proofs.Common.{subst}
use Rattle.script_text.specs.Script.{Script}
use Rattle.report_text.specs.Report.{report_text}
use Rattle.report_text.specs.Views.{report_in}
use Rattle.array_cli.specs.Parts.{HasPrinted}
use Rattle.array_cli.proofs.CallLemmas.{reported-played}
use Rattle.array_cli.proofs.calls.play.Goals as goal

pub returns-in-Ok : goal.returns-in-Ok
returns-in-Ok g c =
    let world = c.in-Ok.world in
    let f = c.in-Ok.ensures.finished in
    reported-played g.K.Sink g.D.Store g.met.D.Store.whole c.args.script.now c.requires.script c.requires.jobs c.requires.few c.args.sink.now c.reported.new.sink c.args.stores.items world c.reported.result report_text f
    (record { journals = c.reported.ensures.journals; results = c.reported.ensures.results; turns = c.reported.ensures.turns; stores = c.reported.ensures.stores })
    (subst (λ (s : Script). HasPrinted g.K.Sink
    (report_text (report_in s world.gathered.results.items world.gathered.contents.items world.turns.items world.gathered.cells.items world.gathered.opened.items))
    c.args.sink.now c.reported.new.sink c.reported.result.status) f.shows.plays c.reported.ensures.printed)
