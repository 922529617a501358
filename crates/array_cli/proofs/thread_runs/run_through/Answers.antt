use Rattle.std.proofs.Common.{[], ℕ, ap, sym, subst, ◌∙◌, arith}
use Rattle.script_text.specs.Script.{Script}
use Rattle.schedule_play.proofs.CloseLemmas.{closed-back}
use Rattle.array_cli.specs.Parts.{IsRefused}
use Rattle.array_cli.proofs.CallLemmas.{ready, blank-on, closable-on, over-start, over-on}
use Rattle.array_cli.proofs.ThreadLemmas.{has-merged, merged-on, merged-handed, no-memory-run, none-taken, refused-run, unread-run}
use Rattle.array_cli.proofs.thread_runs.run_through.Goals as goal

pub returns-in-Err-make-clause-refused : goal.returns-in-Err-make-clause-refused
returns-in-Err-make-clause-refused g c =
    refused-run g.D.Store c.args.script.now c.args.stores.items c.in-Err-make.fault c.refused.result c.in-Err-make.ensures.refused
    (subst (λ (n : ℕ). IsRefused n c.in-Err-make.fault c.refused.result) (ap (λ (s : Script). s.n) c.script.view_is) c.refused.ensures)

pub returns-in-Err-run_beside-clause-refused : goal.returns-in-Err-run_beside-clause-refused
returns-in-Err-run_beside-clause-refused g c =
    let script = c.args.script.now in
    let made = c.in-Ok-make.ensures in
    let world = c.in-Ok-make.world in
    let start = over-start script c.args.stores.items world made.large made.over made.shows made.others in
    no-memory-run g.D.Store script c.args.stores.items c.early-in-Err-run_beside.result c.early-in-Err-run_beside.ensures.status
    (closed-back script.n c.args.stores.items world.bays.items world.others.items c.early-in-Err-run_beside.result.stores.items start.over start.count start.large.enough start.others
    (ap (λ (v : _). v.items) c.early-in-Err-run_beside.ensures.stores ∙ c.in-Err-run_beside.ensures.back))
    c.early-in-Err-run_beside.ensures.empty

pub finish-requires-clause-ready : goal.finish-requires-clause-ready
finish-requires-clause-ready g c =
    let run = c.in-Ok-run_beside.ensures.run in
    ready c.args.script.now c.requires.script c.requires.few run.history c.in-Ok-run_beside.world run.shows

pub finish-requires-clause-blank : goal.finish-requires-clause-blank
finish-requires-clause-blank g c =
    let run = c.in-Ok-run_beside.ensures.run in
    blank-on c.args.script.now run.history c.in-Ok-make.world c.in-Ok-run_beside.world c.in-Ok-make.ensures.blank run.keeps run.shows

pub returns-in-Ok-finish-clause-finished : goal.returns-in-Ok-finish-clause-finished
returns-in-Ok-finish-clause-finished g c =
    let script = c.args.script.now in
    let stores = c.args.stores.items in
    let run = c.in-Ok-run_beside.ensures.run in
    let made = c.in-Ok-make.ensures in
    let k = run.keeps in
    let shows = c.finish.ensures.shows script run.history run.shows in
    let start = over-start script stores c.in-Ok-make.world made.large made.over made.shows made.others in
    let over = over-on script run.history stores c.in-Ok-make.world c.in-Ok-run_beside.world start (k.over stores) run.shows k.others in
    let last = over-on script run.history stores c.in-Ok-run_beside.world c.finish.new.self over (c.finish.ensures.over stores) shows c.finish.ensures.others in
    record {
      history = run.history;
      shows = shows;
      closable = closable-on script [] run.history c.in-Ok-make.world c.finish.new.self made.closable made.shows shows (c.finish.ensures.others ∙ k.others)
          (c.finish.ensures.journals ∙ ap (λ (x : _). x.journals) k.gathered);
      large = last.large;
      over = last.over;
      others = last.others;
      merged = merged-on script run.history c.in-Ok-run_beside.world c.finish.new.self run.shows shows run.merged;
      ended = λ tells.
          let told = run.telling (made.tells tells) in
          (has-merged script c.in-Ok-make.world c.in-Ok-run_beside.world c.finish.new.self run told (c.finish.ensures.tells told) shows, c.in-Ok-finish.ensures.gathered told script run.history run.shows);
    }

pub closed-requires : goal.closed-requires
closed-requires g c =
    let run = c.in-Ok-run_beside.ensures.run in
    let k = run.keeps in
    closable-on c.args.script.now [] run.history c.in-Ok-make.world c.finish.new.self c.in-Ok-make.ensures.closable c.in-Ok-make.ensures.shows (c.finish.ensures.shows c.args.script.now run.history run.shows)
    (c.finish.ensures.others ∙ k.others) (c.finish.ensures.journals ∙ ap (λ (x : _). x.journals) k.gathered)

pub returns-in-Err-finish-clause-refused : goal.returns-in-Err-finish-clause-refused
returns-in-Err-finish-clause-refused g c =
    let script = c.args.script.now in
    let stores = c.args.stores.items in
    let run = c.in-Ok-run_beside.ensures.run in
    let made = c.in-Ok-make.ensures in
    let k = run.keeps in
    let shows = c.finish.ensures.shows script run.history run.shows in
    let start = over-start script stores c.in-Ok-make.world made.large made.over made.shows made.others in
    let over = over-on script run.history stores c.in-Ok-make.world c.in-Ok-run_beside.world start (k.over stores) run.shows k.others in
    let last = over-on script run.history stores c.in-Ok-run_beside.world c.finish.new.self over (c.finish.ensures.over stores) shows c.finish.ensures.others in
    unread-run (g.met.D.Store g.world.𝓛 g.world.𝓜 g.world.𝓡 ((λ s x. x), (λ x. x), (λ x. x), λ x. x)).whole script c.requires.script c.requires.few stores run.history c.in-Ok-run_beside.world c.finish.new.self c.in-Err-finish.bay c.closed.result over last run.shows shows
    c.closed.ensures.status
    (record { journals = c.closed.ensures.journals; results = c.closed.ensures.results; turns = c.closed.ensures.turns; stores = c.closed.ensures.stores })
    (ap (λ (r : _). r.items) c.closed.ensures.results ∙ c.finish.ensures.results script run.history run.shows)
    c.in-Err-finish.ensures.failed
    (merged-on script run.history c.in-Ok-run_beside.world c.finish.new.self run.shows shows run.merged)
    (λ tells. let told = run.telling (made.tells tells) in has-merged script c.in-Ok-make.world c.in-Ok-run_beside.world c.finish.new.self run told (c.finish.ensures.tells told) shows)
