use Rattle.std.proofs.Common.{[], None, refl, sym, ap, ◌∙◌, arith}
use Rattle.std.specs.Prelude.{List, sum_by}
use Rattle.std.specs.Vec.{vec_capacity}
use Rattle.raid_base.specs.declared.jobs.Job.{Job}
use Rattle.histories.specs.Bounds.{job_requests, job_contents}
use Rattle.raid_base.specs.Numbers.{number}
use Rattle.script_text.specs.Script.{jobs_of}
use Rattle.histories.specs.Progress.{Progress, Over}
use Rattle.host_engine.proofs.host.Host.make.Goals as goal

pub returns : goal.returns
returns c =
    let script = c.args.script.now in
    let no = c.args.no in
    let p : Progress = record { jobs = jobs_of script no; asked = 0; tries = 0; row = 0; gone = None; seen = number 0; clock = 0; work = Over; calls = []; endings = [] } in
    record {
      stands = c.start.ensures.stands script no p (record {
        number = refl;
        plays = refl;
        listed = c.jobs_of-jobs.ensures;
        place = refl;
        jobs = refl;
        asked = refl;
        tries = refl;
        row = refl;
        gone = refl;
        draws = c.new.ensures.host;
        seen = sym c.new.ensures.seen;
        clock = refl;
        results = c.in_ok-with_room.ensures.items;
        contents = c.in_ok-with_room-2.ensures.items;
      });
      nothing = ap (λ (v : _). v.items) c.start.ensures.room.transcript ∙ c.in_ok-with_room-3.ensures.items;
      calls = omega (arith, c.in_ok-with_room-3.ensures.room, ap vec_capacity c.start.ensures.room.transcript, c.requests_in.ensures, ap (λ (js : List Job). sum_by (job_requests script) js) c.jobs_of-jobs.ensures);
      reads = omega (arith, c.in_ok-with_room-2.ensures.room, c.start.ensures.room.contents, c.contents_in.ensures, ap (λ (js : List Job). sum_by job_contents js) c.jobs_of-jobs.ensures);
    }
