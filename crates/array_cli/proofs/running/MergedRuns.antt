-- The merge of the journals of hosts that have run beside each other is a history, which they and the bays have come to.
use Rattle.std.proofs.Common.{◌≡◌, ◌∙◌, ℕ, ◌<◌, ◌≤◌, true, List, [], length, map, reverse, get_or, sym, ap, subst, arith}
use Rattle.std.specs.List.{list_all, AllByRecursion}
use Rattle.std.specs.Vec.{vec_capacity}
use Rattle.raid_base.specs.declared.numbers.HostNo.{HostNo}
use Rattle.raid_base.specs.declared.messages.Call.{Call}
use Rattle.raid_base.specs.declared.messages.Entry.{Entry}
use Rattle.raid_base.specs.declared.messages.Turn.{Turn}
use Rattle.block_store.specs.declared.store.Store.{Ghosts}
use Rattle.slot_rules.specs.Tables.{with_blocks}
use Rattle.bay_device.specs.declared.bay.Bay.{Bay}
use Rattle.script_text.specs.Script.{Script}
use Rattle.script_text.specs.Ranges.{IsScript, Rise}
use Rattle.script_text.specs.Weights.{total}
use Rattle.histories.specs.Progress.{Progress, is_over}
use Rattle.histories.specs.History.{progress_at, turns_of, has_ended}
use Rattle.histories.specs.Quotas.{all_quotas}
use Rattle.histories.specs.Turns.{all_ended}
use Rattle.histories.proofs.bounds.Quotas.{totals_cover_requests}
use Rattle.host_engine.specs.declared.host.Host.{Host}
use Rattle.host_engine.specs.Stands.{Stands}
use Rattle.clock_merge.specs.Merge.{Line}
use Rattle.clock_merge.specs.Tied.{AreCallsOfMerge, IsPlayOfMerge, calls_of}
use Rattle.clock_merge.specs.Turns.{AppendsMerge}
use Rattle.clock_merge.proofs.MergedCalls.{merged_calls_are_tied}
use Rattle.clock_merge.proofs.MergedPlays.{merged_plays_are_tied}
use Rattle.rack_turns.specs.declared.rack.Rack.{Rack}
use Rattle.rack_turns.specs.Passes.{openings_of}
use Rattle.rack_turns.specs.Shadows.{shadows}
use Rattle.host_workers.specs.Playing.{HavePlayed, HasRunAlone}
use Rattle.schedule_play.specs.Making.{AreMade}
use Rattle.schedule_play.specs.Parts.{PartsShow}
use Rattle.schedule_play.specs.World.{EachAt, AllTell, BayShows, HostShows, all_requests}
use Rattle.schedule_play.specs.declared.parting.Parts.{Parts}
use Rattle.array_cli.specs.Moments.{AreTimely}
use Rattle.array_cli.proofs.CallLemmas.{playable, a-bay}
use Rattle.array_cli.proofs.running.AskedHosts.{IsTimely, calls_by, runs-alone, timely-alone, timely-together, asked-own, all-true, each-at}
use Rattle.array_cli.proofs.running.ComeBack.{bay-count, journal-count, journal-of, ticks-at, tied, replays-at, rows-at, caps-at}

module _ {D : Type 0} {g : Ghosts D} (script : Script) (is : IsScript script) (rack : Rack D g) (stores : List D) (before after : List (Bay D g)) (hosts : List Host)
    (opened : openings_of rack ≡ shadows before) (count : length before ≡ script.n) (made : AreMade script (all_quotas script) stores before) (played : HavePlayed script rack hosts after)
    (turns : List Turn) (merged : AppendsMerge (map (λ (b : Bay D g). b.journal.items) after) [] turns) where
  abbrev pub lists : List (List Entry)
  lists = map (λ (b : Bay D g). b.journal.items) after

  abbrev pub lines : List Line
  lines = merged.0

  -- the calls of the merge, the newest first
  abbrev pub history : List Call
  history = calls_of lines

  bays-back : length after ≡ script.n
  bays-back = bay-count script is rack stores before after hosts opened count made played

  many : length lists ≡ script.n
  many = journal-count script is rack stores before after hosts opened count made played

  some-bay : Bay D g
  some-bay = a-bay after (omega (arith, bays-back, is.devices_least))

  pub are-calls : AreCallsOfMerge script lists (calls_by hosts) history
  are-calls = merged_calls_are_tied script lists (calls_by hosts) lines many
      (λ k inside. ((get_or after k some-bay).clock, ticks-at script is rack stores before after hosts opened count made played k some-bay inside))
      (runs-alone script hosts played.each) (tied script is rack stores before after hosts opened count made played) merged.1

  -- over stores that tell their contents it is a history
  pub is-play : AllTell after → IsPlayOfMerge script lists (calls_by hosts) history
  is-play tells =
      let play = merged_plays_are_tied script lists (calls_by hosts) lines is many
      (λ k inside. (
        with_blocks (get_or after k some-bay).slots (g.content (get_or after k some-bay).store),
        (get_or after k some-bay).clock,
        replays-at script is rack stores before after hosts opened count made played k some-bay inside (tells k some-bay (omega (arith, inside, bays-back))),
      ))
      (runs-alone script hosts played.each) (tied script is rack stores before after hosts opened count made played) merged.1 in
      subst (λ (calls : List Call). IsPlayOfMerge script lists (calls_by hosts) calls) (play.is lines merged.1) play

  -- Hosts
  rise : Rise 0 (map (λ (host : Host). host.no) hosts)
  rise = subst (λ (numbers : List HostNo). Rise 0 numbers) (sym played.numbers) is.hosts

  own-calls : (k : ℕ) (d : Host) → k < length hosts → calls_by hosts (get_or hosts k d).no ≡ (get_or hosts k d).transcript.items
  own-calls k d inside = asked-own 0 hosts k d rise inside

  alone : (k : ℕ) (d : Host) → k < length hosts → HasRunAlone script (get_or hosts k d)
  alone k d inside = each-at (HasRunAlone script) hosts k d played.each inside

  progress-of : (k : ℕ) (d : Host) → k < length hosts →
      progress_at script (get_or hosts k d).no history ≡ progress_at script (get_or hosts k d).no (reverse (get_or hosts k d).transcript.items)
  progress-of k d inside =
      are-calls.progress (get_or hosts k d).no ∙ ap (λ (calls : List Call). progress_at script (get_or hosts k d).no (reverse calls)) (own-calls k d inside)

  pub hosts-show : EachAt (λ k host. HostShows script history host) hosts
  hosts-show k d inside = record {
    stands = subst (λ (p : Progress). Stands script (get_or hosts k d).no (get_or hosts k d) p) (sym (progress-of k d inside)) (alone k d inside).stands;
    calls = sym (own-calls k d inside) ∙ sym (are-calls.transcripts_are (get_or hosts k d).no);
    room = (alone k d inside).calls;
    reads = (alone k d inside).reads;
  }

  pub over : all_ended script history ≡ true
  over =
      let ended-alone : (k : ℕ) (d : Host) → k < length hosts → has_ended script (reverse (calls_by hosts (get_or hosts k d).no)) (get_or hosts k d).no ≡ true =
      λ k d inside. ap (λ (calls : List Call). is_over (progress_at script (get_or hosts k d).no (reverse calls)).work) (own-calls k d inside) ∙ (alone k d inside).over in
      are-calls.ended ∙ ap (λ (numbers : List HostNo). list_all (λ (host : HostNo). has_ended script (reverse (calls_by hosts host)) host) numbers) (sym played.numbers)
      ∙ all-true (λ (host : HostNo). has_ended script (reverse (calls_by hosts host)) host) hosts ended-alone

  pub timely : AreTimely history
  timely = timely-together history (λ host. subst (λ (calls : List Call). AllByRecursion IsTimely calls) (sym (are-calls.transcripts_are host)) (timely-alone script hosts played.each host))

  -- Bays
  pub bays-show : EachAt (BayShows script history) after
  bays-show k d inside =
      let here : k < script.n = omega (arith, inside, bays-back) in
      record {
        told = λ tells. sym (are-calls.bays k here (with_blocks (get_or after k d).slots (g.content (get_or after k d).store)) (get_or after k d).clock
            (replays-at script is rack stores before after hosts opened count made played k d here tells));
        clock = sym (are-calls.clocks k here (get_or after k d).clock (ticks-at script is rack stores before after hosts opened count made played k d here));
        entries = sym (journal-of script is rack stores before after hosts opened count made played k d here) ∙ sym (are-calls.journals_are k here);
        rows = rows-at script is rack stores before after hosts opened count made played k d here;
        room = caps-at script is rack stores before after hosts opened count made played k d here;
      }

  pub turns-are : turns ≡ turns_of history
  turns-are = merged.2 ∙ sym (are-calls.turns lines merged.1)

  -- and all of it together
  pub parts-show : (parts : Parts D g) → parts.script.now ≡ script → parts.hosts.items ≡ hosts → parts.bays.items ≡ after → parts.turns.items ≡ turns → total script ≤ vec_capacity parts.turns →
      PartsShow script history parts
  parts-show parts plays of-hosts of-bays of-turns room = record {
    plays = plays;
    asked = are-calls.asked;
    hosts_stand = subst (λ (hs : List Host). EachAt (λ k host. HostShows script history host) hs) (sym of-hosts) hosts-show;
    numbers = ap (λ (hs : List Host). map (λ (host : Host). host.no) hs) of-hosts ∙ played.numbers;
    bays_stand = subst (λ (bs : List (Bay D g)). EachAt (BayShows script history) bs) (sym of-bays) bays-show;
    bay_count = ap (λ (bs : List (Bay D g)). length bs) of-bays ∙ bays-back;
    turns_are = of-turns ∙ turns-are;
    turn_room = let all : all_requests script ≤ total script = (totals_cover_requests script (playable script is)).all in omega (arith, all, room);
    told = λ tells. (is-play (subst (λ (bs : List (Bay D g)). AllTell bs) of-bays tells)).along;
  }
