use Rattle.std.proofs.Common.{ap, sym, subst, length, arith}
use Rattle.script_text.specs.Script.{Script}
use Rattle.script_text.specs.Ranges.{IsScript, all_jobs}
use Rattle.script_text.specs.Weights.{total}
use Rattle.report_text.specs.Views.{report_in}
use Rattle.load_maker.specs.Summary.{summary_text}
use Rattle.load_maker.proofs.LoadScripts.{load-is-script}
use Rattle.load_maker.proofs.LoadWeights.{load-count, load-weight}
use Rattle.array_cli.specs.Parts.{HasPrinted}
use Rattle.array_cli.proofs.CallLemmas.{reported-played, loaded}
use Rattle.array_cli.proofs.calls.load_call.Goals as goal

pub played-requires-clause-script : goal.played-requires-clause-script
played-requires-clause-script g c = subst IsScript (sym c.in-Ok.ensures) (load-is-script c.args.n)

pub played-requires-clause-few : goal.played-requires-clause-few
played-requires-clause-few g c = omega (arith, ap total c.in-Ok.ensures, load-weight c.args.n, c.requires.most)

pub played-requires-clause-jobs : goal.played-requires-clause-jobs
played-requires-clause-jobs g c = omega (arith, ap (λ (s : Script). length (all_jobs s)) c.in-Ok.ensures, load-count c.args.n, c.requires.most)

pub returns-in-Ok-played : goal.returns-in-Ok-played
returns-in-Ok-played g c =
    let world = c.in-Ok-played.world in
    let f = c.in-Ok-played.ensures.finished in
    loaded g.K.Sink g.D.Store c.args.n c.in-Ok.script c.args.sink.now c.summed.new.sink c.args.stores.items c.summed.result c.in-Ok.ensures
    (reported-played g.K.Sink g.D.Store g.met.D.Store.whole c.in-Ok.script (subst IsScript (sym c.in-Ok.ensures) (load-is-script c.args.n))
    (omega (arith, ap (λ (s : Script). length (all_jobs s)) c.in-Ok.ensures, load-count c.args.n, c.requires.most)) (omega (arith, ap total c.in-Ok.ensures, load-weight c.args.n, c.requires.most)) c.args.sink.now c.summed.new.sink c.args.stores.items world c.summed.result (summary_text c.args.n) f
    (record { journals = c.summed.ensures.journals; results = c.summed.ensures.results; turns = c.summed.ensures.turns; stores = c.summed.ensures.stores })
    (subst (λ (s : Script). HasPrinted g.K.Sink
    (summary_text c.args.n (report_in s world.gathered.results.items world.gathered.contents.items world.turns.items world.gathered.cells.items world.gathered.opened.items))
    c.args.sink.now c.summed.new.sink c.summed.result.status) f.shows.plays c.summed.ensures.printed))
