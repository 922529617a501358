use Rattle.std.proofs.Common.{[], ℕ, ap, subst, ◌∙◌, arith}
use Rattle.array_cli.proofs.CallLemmas.{ready, blank-on, closable-on, over-start, over-on, refused-stops, unread-stops}
use Rattle.script_text.specs.Script.{Script}
use Rattle.schedule_play.specs.World.{all_requests}
use Rattle.array_cli.specs.Parts.{IsRefused}
use Rattle.array_cli.proofs.calls.played.Goals as goal

pub returns-in-Err-clause-refused : goal.returns-in-Err-clause-refused
returns-in-Err-clause-refused g c =
    refused-stops g.D.Store c.args.script.now c.args.stores.items c.in-Err.fault c.refused.result c.in-Err.ensures.refused
    (subst (λ (n : ℕ). IsRefused n c.in-Err.fault c.refused.result) (ap (λ (s : Script). s.n) c.script.view_is) c.refused.ensures)

pub finish-requires-clause-ready : goal.finish-requires-clause-ready
finish-requires-clause-ready g c =
    let p = c.play.ensures.played c.args.script.now [] c.in-Ok.ensures.shows in
    ready c.args.script.now c.requires.script c.requires.few p.history c.play.new.self p.shows

pub finish-requires-clause-blank : goal.finish-requires-clause-blank
finish-requires-clause-blank g c =
    let p = c.play.ensures.played c.args.script.now [] c.in-Ok.ensures.shows in
    blank-on c.args.script.now p.history c.in-Ok.world c.play.new.self c.in-Ok.ensures.blank c.play.ensures.keeps p.shows

pub closed-requires : goal.closed-requires
closed-requires g c =
    let p = c.play.ensures.played c.args.script.now [] c.in-Ok.ensures.shows in
    let k = c.play.ensures.keeps in
    closable-on c.args.script.now [] p.history c.in-Ok.world c.finish.new.self c.in-Ok.ensures.closable c.in-Ok.ensures.shows (c.finish.ensures.shows c.args.script.now p.history p.shows)
    (c.finish.ensures.others ∙ k.others) (c.finish.ensures.journals ∙ ap (λ (x : _). x.journals) k.gathered)

pub returns-in-Ok-finish-clause-finished : goal.returns-in-Ok-finish-clause-finished
returns-in-Ok-finish-clause-finished g c =
    let script = c.args.script.now in
    let stores = c.args.stores.items in
    let p = c.play.ensures.played script [] c.in-Ok.ensures.shows in
    let k = c.play.ensures.keeps in
    let shows = c.finish.ensures.shows script p.history p.shows in
    let start = over-start script stores c.in-Ok.world c.in-Ok.ensures.large c.in-Ok.ensures.over c.in-Ok.ensures.shows c.in-Ok.ensures.others in
    let over = over-on script p.history stores c.in-Ok.world c.play.new.self start (k.over stores) p.shows k.others in
    let last = over-on script p.history stores c.play.new.self c.finish.new.self over (c.finish.ensures.over stores) shows c.finish.ensures.others in
    record {
      history = p.history;
      shows = shows;
      closable = closable-on script [] p.history c.in-Ok.world c.finish.new.self c.in-Ok.ensures.closable c.in-Ok.ensures.shows shows
          (c.finish.ensures.others ∙ k.others) (c.finish.ensures.journals ∙ ap (λ (x : _). x.journals) k.gathered);
      large = last.large;
      over = last.over;
      others = last.others;
      ended = λ tells.
          let told = c.play.ensures.telling (c.in-Ok.ensures.tells tells) in (
            record { told = c.finish.ensures.tells told; played = p.simulated told (all_requests script) (omega arith); over = p.ended },
            c.in-Ok-finish.ensures.gathered told script p.history p.shows,
          );
    }

pub returns-in-Err-finish-clause-refused : goal.returns-in-Err-finish-clause-refused
returns-in-Err-finish-clause-refused g c =
    let script = c.args.script.now in
    let stores = c.args.stores.items in
    let p = c.play.ensures.played script [] c.in-Ok.ensures.shows in
    let k = c.play.ensures.keeps in
    let shows = c.finish.ensures.shows script p.history p.shows in
    let start = over-start script stores c.in-Ok.world c.in-Ok.ensures.large c.in-Ok.ensures.over c.in-Ok.ensures.shows c.in-Ok.ensures.others in
    let over = over-on script p.history stores c.in-Ok.world c.play.new.self start (k.over stores) p.shows k.others in
    let last = over-on script p.history stores c.play.new.self c.finish.new.self over (c.finish.ensures.over stores) shows c.finish.ensures.others in
    unread-stops g.met.D.Store.whole script c.requires.script c.requires.few stores p.history c.play.new.self c.finish.new.self c.in-Err-finish.bay c.closed.result over last p.shows shows
    c.closed.ensures.status
    (record { journals = c.closed.ensures.journals; results = c.closed.ensures.results; turns = c.closed.ensures.turns; stores = c.closed.ensures.stores })
    (ap (λ (r : _). r.items) c.closed.ensures.results ∙ c.finish.ensures.results script p.history p.shows)
    c.in-Err-finish.ensures.failed
    (λ tells.
    let told = c.play.ensures.telling (c.in-Ok.ensures.tells tells) in
    record { told = c.finish.ensures.tells told; played = p.simulated told (all_requests script) (omega arith); over = p.ended })
