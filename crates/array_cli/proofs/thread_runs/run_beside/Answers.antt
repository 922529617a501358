use Rattle.std.proofs.Common.{ap, sym, refl, subst, length, map, sum_by, List, ◌+◌, ◌≤◌, ◌∙◌, arith, rules}
use Rattle.std.specs.Vec.{vec_capacity}
use Rattle.std.specs.List.{AllByRecursion}
use Rattle.raid_base.specs.declared.messages.Entry.{Entry}
use Rattle.raid_base.specs.declared.messages.Turn.{Turn}
use Rattle.bay_device.specs.declared.bay.Bay.{Bay}
use Rattle.script_text.specs.Ranges.{IsScript}
use Rattle.clock_merge.specs.Merge.{ClocksRise}
use Rattle.clock_merge.specs.Heads.{AreShort}
use Rattle.schedule_play.specs.Parts.{world_of}
use Rattle.schedule_play.proofs.QuotaLemmas.{quotas-few}
use Rattle.array_cli.specs.ThreadParts.{IsStartedWorld}
use Rattle.array_cli.proofs.CallLemmas.{playable}
use Rattle.array_cli.proofs.ThreadLemmas.{back-few, back-rising, back-room, back-short, bays-new, may-play, put-together}
use Rattle.array_cli.proofs.thread_runs.run_beside.Goals as goal

pub make-requires-clause-new : goal.make-requires-clause-new
make-requires-clause-new g c =
    let script = c.args.script.now in
    bays-new script c.requires.script (world_of c.into_parts-parts.result) (subst (IsStartedWorld script) (sym c.into_parts-parts.ensures.parts) c.requires.started)

pub play_hosts-bays-requires-clause-may : goal.play_hosts-bays-requires-clause-may
play_hosts-bays-requires-clause-may g c =
    let script = c.args.script.now in
    let may = may-play script c.requires.script (world_of c.into_parts-parts.result) (subst (IsStartedWorld script) (sym c.into_parts-parts.ensures.parts) c.requires.started)
    (vec_capacity c.args.room.workers) c.in-Ok.made.0 c.in-Ok.made.1 (quotas-few script (playable script c.requires.script) c.requires.few) c.requires.jobs c.in-Ok.ensures.bays
    c.in-Ok.ensures.pass c.in-Ok.ensures.first c.requires.room.workers in
    search rules

pub merge_bays-requires-clause-short : goal.merge_bays-requires-clause-short
merge_bays-requires-clause-short g c =
    let script = c.args.script.now in
    subst (λ (bays : List (Bay _ _)). AreShort (map (λ bay. bay.journal.items) bays)) (sym c.as_slice.ensures.value)
    (back-short script c.requires.script (world_of c.into_parts-parts.result) (subst (IsStartedWorld script) (sym c.into_parts-parts.ensures.parts) c.requires.started)
    c.in-Ok.made.0 c.play_hosts-bays.new.hosts.items c.play_hosts-bays.result.items c.in-Ok.ensures.bays c.play_hosts-bays.ensures)

pub merge_bays-requires-clause-rising : goal.merge_bays-requires-clause-rising
merge_bays-requires-clause-rising g c =
    let script = c.args.script.now in
    subst (λ (bays : List (Bay _ _)). AllByRecursion ClocksRise (map (λ bay. bay.journal.items) bays)) (sym c.as_slice.ensures.value)
    (back-rising script c.requires.script (world_of c.into_parts-parts.result) (subst (IsStartedWorld script) (sym c.into_parts-parts.ensures.parts) c.requires.started)
    c.in-Ok.made.0 c.play_hosts-bays.new.hosts.items c.play_hosts-bays.result.items c.in-Ok.ensures.bays c.play_hosts-bays.ensures)

pub merge_bays-requires-clause-few : goal.merge_bays-requires-clause-few
merge_bays-requires-clause-few g c =
    let script = c.args.script.now in
    omega (
      arith,
      ap length c.as_slice.ensures.value,
      back-few script c.requires.script (world_of c.into_parts-parts.result) (subst (IsStartedWorld script) (sym c.into_parts-parts.ensures.parts) c.requires.started)
          c.in-Ok.made.0 c.play_hosts-bays.new.hosts.items c.play_hosts-bays.result.items c.in-Ok.ensures.bays c.play_hosts-bays.ensures,
    )

pub merge_bays-requires-clause-room : goal.merge_bays-requires-clause-room
merge_bays-requires-clause-room g c =
    let script = c.args.script.now in
    let all = back-room script c.requires.script (world_of c.into_parts-parts.result) (subst (IsStartedWorld script) (sym c.into_parts-parts.ensures.parts) c.requires.started)
    c.in-Ok.made.0 c.play_hosts-bays.new.hosts.items c.play_hosts-bays.result.items c.in-Ok.ensures.bays c.play_hosts-bays.ensures in
    omega (arith, ap (λ (bays : List (Bay _ _)). sum_by length (map (λ bay. bay.journal.items) bays)) c.as_slice.ensures.value, all, ap length c.requires.room.no_turns, c.requires.room.turns)

pub returns-clause-run : goal.returns-clause-run
returns-clause-run g c =
    let script = c.args.script.now in
    put-together script c.requires.script c.args.world c.from_parts-2.result c.into_parts-parts.result
    (record {
      script = c.args.script;
      hosts = c.play_hosts-bays.new.hosts;
      bays = c.play_hosts-bays.result;
      turns = c.into_vec-turns.result;
      others = c.into_parts-parts.result.others;
      gathered = c.into_parts-parts.result.gathered;
    })
    c.in-Ok.made.0 c.as_slice.result.now c.args.room.turns.items c.merge_bays.new.turns.items c.requires.started c.into_parts-parts.ensures.parts c.from_parts-2.ensures.world
    c.in-Ok.ensures.bays c.play_hosts-bays.ensures c.as_slice.ensures.value c.requires.room.no_turns c.into_vec-turns.ensures.items c.merge_bays.ensures.merged refl
    (omega (arith, c.into_vec-turns.ensures.room, c.merge_bays.ensures.room, c.requires.room.turns)) refl refl
