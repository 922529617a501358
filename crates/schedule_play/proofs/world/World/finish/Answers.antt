use Rattle.std.proofs.Common.{◌≤◌, List, ◌++◌, length, sym, ap, ◌∙◌, subst, arith, Option, Bool, IfErr}
use Rattle.std.specs.Prelude.{flat_map, sum_by}
use Rattle.std.specs.Vec.{vec_capacity}
use Rattle.std.proofs.lemmas.Result.{IfOk-weaker}
use Rattle.raid_base.specs.declared.jobs.JobResult.{JobResult}
use Rattle.raid_base.specs.declared.cells.Cell.{Cell}
use Rattle.raid_base.specs.declared.cells.Content.{Content}
use Rattle.script_text.specs.Script.{Script, host_numbers}
use Rattle.host_engine.specs.declared.host.Host.{Host}
use Rattle.histories.specs.Bounds.{host_contents}
use Rattle.schedule_play.specs.Gathering.{job_count}
use Rattle.schedule_play.specs.Rows.{ShowRows, HasFailed, cells_after, opened_after}
use Rattle.schedule_play.specs.World.{EachAt, BayShows, AllTell, AreOver}
use Rattle.schedule_play.proofs.ResultLemmas.{results-room, contents-room, shows-results, shows-contents}
use Rattle.schedule_play.proofs.RowLemmas.{tell-back, overs-kept}
use Rattle.schedule_play.proofs.GatherLemmas.{given-back}
use Rattle.schedule_play.proofs.world.World.finish.Goals as goal

pub collect_results-requires : goal.collect_results-requires
collect_results-requires g c =
    let r = c.requires.ready in
    let b = c.requires.blank in
    let few = results-room r.script r.history c.args.self.now r.shows in
    let room = subst (λ (s : Script). sum_by (job_count s) (host_numbers s) ≤ vec_capacity c.args.self.now.gathered.results) r.shows.plays b.results_room in
    let same = ap (λ (hosts : List Host). length (flat_map (λ (host : Host). host.results.items) hosts)) c.as_slice.ensures.value in
    record { room = omega (arith, few, room, same, ap length b.results, c.args.self.now.gathered.results.ok.0) }

pub collect_contents-requires : goal.collect_contents-requires
collect_contents-requires g c =
    let r = c.requires.ready in
    let b = c.requires.blank in
    let few = contents-room r.script r.history c.args.self.now r.playable r.shows in
    let room = subst (λ (s : Script). sum_by (host_contents s) (host_numbers s) ≤ vec_capacity c.args.self.now.gathered.contents) r.shows.plays b.contents_room in
    let same = ap (λ (hosts : List Host). length (flat_map (λ (host : Host). host.contents.items) hosts)) c.as_slice-2.ensures.value in
    record { room = omega (arith, few, room, same, ap length b.contents, c.args.self.now.gathered.contents.ok.0) }

pub returns-clause-results : goal.returns-clause-results
returns-clause-results g c = λ script history shows.
    c.collect_results.ensures.items ∙ ap (λ (xs : List JobResult). xs ++ flat_map (λ (host : Host). host.results.items) c.as_slice.result.now) c.requires.blank.results
    ∙ ap (flat_map (λ (host : Host). host.results.items)) c.as_slice.ensures.value ∙ shows-results script history c.args.self.now shows

pub returns-clause-gathered : goal.returns-clause-gathered
returns-clause-gathered g c = λ told script history shows.
    let b = c.requires.blank in
    let lent = c.as_mut_slice-bays.ensures.value in
    let playable = c.requires.ready.playable in
    let wide = subst (λ (s : Script). 3 ≤ s.n) (sym c.requires.ready.shows.plays ∙ shows.plays) playable.ranges.devices_least in
    let shown = subst (ShowRows script history) (sym lent) (record { wide = wide; count = shows.bay_count; shows = shows.bays; told = told }) in
    let rows = c.row_count-rows.ensures ∙ ap (λ (s : Script). s.rows) shows.plays in
    IfOk-weaker c.read_rows.result _ _ (λ u after. record {
      results = returns-clause-results g c script history shows;
      contents = c.collect_contents.ensures.items ∙ ap (λ (xs : List Content). xs ++ flat_map (λ (host : Host). host.contents.items) c.as_slice-2.result.now) b.contents
          ∙ ap (flat_map (λ (host : Host). host.contents.items)) c.as_slice-2.ensures.value ∙ shows-contents script history c.args.self.now shows;
      cells = after.0 ∙ ap (λ (xs : List (Option Cell)). xs ++ cells_after script history) b.cells;
      opened = after.1 ∙ ap (λ (xs : List Bool). xs ++ opened_after script history) b.opened;
    }) (c.read_rows.ensures.after script history shown rows)

pub returns-clause-shows : goal.returns-clause-shows
returns-clause-shows g c = λ script history shows.
    let lent = c.as_mut_slice-bays.ensures.value in
    let back = given-back c.read_rows.new.bays c.args.self.now.bays.items c.args.self.now.bays.len (c.read_rows.ensures.looked.count ∙ ap length lent) c.args.self.now.bays.ok.0 in
    let bays = c.read_rows.ensures.shows script history (subst (λ (bs : List _). EachAt (BayShows script history) bs) (sym lent) shows.bays) in
    record {
      plays = shows.plays;
      asked = shows.asked;
      hosts = shows.hosts;
      numbers = shows.numbers;
      bays = subst (λ (bs : List _). EachAt (BayShows script history) bs) (sym back) bays;
      bay_count = ap length back ∙ c.read_rows.ensures.looked.count ∙ ap length lent ∙ shows.bay_count;
      turns = shows.turns;
      turn_room = shows.turn_room;
      told = λ all. shows.told (subst (λ (bs : List _). AllTell bs) lent (tell-back c.as_mut_slice-bays.result.now c.read_rows.new.bays (subst (λ (bs : List _). AllTell bs) back all) c.read_rows.ensures.looked));
    }

pub returns-clause-over : goal.returns-clause-over
returns-clause-over g c = λ stores over.
    let lent = c.as_mut_slice-bays.ensures.value in
    let back = given-back c.read_rows.new.bays c.args.self.now.bays.items c.args.self.now.bays.len (c.read_rows.ensures.looked.count ∙ ap length lent) c.args.self.now.bays.ok.0 in
    subst (λ (bs : List _). AreOver stores bs) (sym back)
    (overs-kept stores c.as_mut_slice-bays.result.now c.read_rows.new.bays c.read_rows.ensures.looked (subst (λ (bs : List _). AreOver stores bs) (sym lent) over))

pub returns-clause-failed : goal.returns-clause-failed
returns-clause-failed g c =
    let lent = c.as_mut_slice-bays.ensures.value in
    let back = given-back c.read_rows.new.bays c.args.self.now.bays.items c.args.self.now.bays.len (c.read_rows.ensures.looked.count ∙ ap length lent) c.args.self.now.bays.ok.0 in
    subst (λ (bs : List _). IfErr c.read_rows.result (λ bay. HasFailed bay.0 c.args.self.now.bays.items bs)) (sym back)
    (subst (λ (bs : List _). IfErr c.read_rows.result (λ bay. HasFailed bay.0 bs c.read_rows.new.bays)) lent c.read_rows.ensures.failed)
