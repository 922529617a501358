-- What a world has come to whose hosts have run beside each other, and its report.
use Rattle.std.proofs.Common.{◌≡◌, ◌∙◌, ◌-◌, ◌^◌, ◌<◌, ◌≤◌, true, List, [], ◌∷◌, length, map, sym, ap, subst, arith}
use Rattle.std.specs.List.{All, Contains}
use Rattle.std.proofs.lemmas.List.Elements.{All-nil, All-cons, All-head, All-tail, All-append}
use Rattle.raid_base.specs.declared.numbers.HostNo.{HostNo}
use Rattle.raid_base.specs.declared.messages.Call.{Call}
use Rattle.raid_base.specs.declared.messages.Entry.{Entry}
use Rattle.raid_base.specs.declared.messages.Turn.{Turn}
use Rattle.block_store.specs.declared.store.Store.{Ghosts}
use Rattle.bay_device.specs.declared.bay.Bay.{Bay}
use Rattle.script_text.specs.Script.{Script, host_numbers}
use Rattle.script_text.specs.Ranges.{IsScript, all_jobs}
use Rattle.script_text.specs.Weights.{total}
use Rattle.report_text.specs.Report.{ReportOf}
use Rattle.report_text.specs.Told.{IsTold}
use Rattle.report_text.specs.Views.{report_in}
use Rattle.histories.specs.History.{IsHistory, turns_of, play}
use Rattle.histories.specs.Results.{results}
use Rattle.histories.specs.Simulated.{with_turns, AreTheSame}
use Rattle.histories.specs.Stored.{StoresHold}
use Rattle.histories.specs.Turns.{all_ended}
use Rattle.histories.proofs.causes.HostCauses.{causes_are_met}
use Rattle.histories.proofs.completeness.CompleteHistory.{unrefused_jobs_are_done}
use Rattle.histories.proofs.completeness.CompleteSteps.{unrefused_attempts_go_on}
use Rattle.histories.proofs.plays.OtherTurns.{turn_lines_are_free}
use Rattle.histories.proofs.plays.PlayedHistories.{turns-played}
use Rattle.histories.proofs.plays.SimulatedHistories.{history-same, ended-same, ended_are_simulated}
use Rattle.clock_merge.specs.Tied.{faults_of, IsPlayOfMerge}
use Rattle.clock_merge.specs.Turns.{AppendsMerge}
use Rattle.attempt_laws.proofs.lone.LoneBays.{lone_hosts_are_done}
use Rattle.row_laws.proofs.torn.TornEndings.{lost_blocks_are_torn}
use Rattle.serial_laws.proofs.contents.ContentParity.{parity_is_kept, contents_are_shown}
use Rattle.serial_laws.proofs.serial.Serial.{plays_are_serial}
use Rattle.schedule_play.specs.Gathering.{IsGathered}
use Rattle.schedule_play.specs.Reported.{report_of}
use Rattle.schedule_play.specs.World.{Shows, AllTell}
use Rattle.schedule_play.specs.declared.world.World.{World}
use Rattle.schedule_play.proofs.CloseLemmas.{closed-journals, closed-stores}
use Rattle.array_cli.specs.Merged.{IsMergedPlay, IsMergedReport}
use Rattle.array_cli.specs.Moments.{AreTimely}
use Rattle.array_cli.specs.Calls.{handed_out, IsPlayed, IsReported}
use Rattle.array_cli.specs.SerialReports.{IsSerialReport}
use Rattle.array_cli.specs.declared.calls.Outcome.{Outcome}
use Rattle.array_cli.proofs.CallLemmas.{Whole, IsHandedOut, report-of}
use Rattle.array_cli.proofs.SerialReportLemmas.{serial-report}
use Rattle.array_cli.proofs.merged.OtherTurnLines.{other-script, total-same, results-same, report-same, stores-same}
use Rattle.array_cli.proofs.told.ToldReports.{reports_have_texts}

-- turns of hosts of a script, at moments that a turn line may have
abbrev pub IsLine : Script → Turn → Type 0
IsLine script turn = Contains (host_numbers script) turn.host × (turn.moment < 2 ^ 40)

turns-are-lines : (script : Script) (history : List Call) → All (λ (call : Call). Contains (host_numbers script) call.ask.host) history → AreTimely history → All (IsLine script) (turns_of history)
turns-are-lines script [] callers timely = All-nil (IsLine script)
turns-are-lines script (call ∷ earlier) callers timely =
    let early : call.ask.moment ≤ 2 ^ 40 - 1 = timely.0 in
    let low : call.ask.moment < 2 ^ 40 = omega (arith, early) in
    let turn : Turn = record { host = call.ask.host; moment = call.ask.moment } in
    All-append (IsLine script) (turns_of earlier) (turn ∷ [])
    (turns-are-lines script earlier (All-tail (λ (c : Call). Contains (host_numbers script) c.ask.host) call earlier callers) timely.1)
    (All-cons (IsLine script) turn [] (All-head (λ (c : Call). Contains (host_numbers script) c.ask.host) call earlier callers, low) (All-nil (IsLine script)))

module _ (script : Script) (is : IsScript script) (few : total script ≤ 2 ^ 20) (history : List Call) (along : IsHistory script history) (over : all_ended script history ≡ true)
    (timely : AreTimely history) (callers : All (λ (call : Call). Contains (host_numbers script) call.ask.host) history) where
  abbrev pub Simulated : Script
  Simulated = with_turns script (turns_of history)

  same : (later : List Call) → AreTheSame script Simulated later
  same = turn_lines_are_free script (turns_of history)

  pub is-script : IsScript Simulated
  is-script = other-script script (turns_of history) is (turns-are-lines script history callers timely)

  pub is-few : total Simulated ≤ 2 ^ 20
  is-few = omega (arith, total-same script (turns_of history), few)

  pub is-history : IsHistory Simulated history
  is-history = history-same script Simulated same history along

  pub is-over : all_ended Simulated history ≡ true
  is-over = sym (ended-same script Simulated same (host_numbers script) history) ∙ over

  module _ {D : Type 0} {g : Ghosts D} (whole : Whole g) (now : World D g) (shows : Shows script history now) (told : AllTell now.bays.items) (outcome : Outcome D)
      (out : IsHandedOut now outcome) (read : outcome.results.items ≡ results script history) where
    -- all that the simulator promises
    pub is-simulated : IsPlayed Simulated (handed_out g outcome) history
    is-simulated = record {
      headline = record {
        play = record {
          most = 0;
          played = ended_are_simulated script history 0 along over;
          over = is-over;
          journals = out.journals ∙ closed-journals script history now.bays.items shows.bays shows.bay_count;
          results = read ∙ sym (results-same script (turns_of history) history);
          turns = ap (λ (t : _). t.items) out.turns ∙ shows.turns;
          stores = stores-same script (turns_of history) history (map g.content outcome.stores.items)
              (subst (λ (stores : List D). StoresHold script history (map g.content stores)) (sym out.stores)
              (closed-stores script history now.bays.items now.others.items shows.bays told shows.bay_count whole));
        };
        serial = plays_are_serial Simulated history is-script is-history is-over;
        parity = parity_is_kept Simulated history is-script is-history;
        lost_blocks = lost_blocks_are_torn Simulated history is-script is-history;
        causes = λ host. causes_are_met Simulated history is-script is-history host;
      };
      contents = contents_are_shown Simulated history is-script is-history;
      attempts = unrefused_attempts_go_on Simulated history is-script is-few is-history;
      unrefused = unrefused_jobs_are_done Simulated history is-script is-few is-history;
      alone = lone_hosts_are_done Simulated history is-script is-few is-history;
    }

    handed : outcome.turns.items ≡ turns_of history
    handed = ap (λ (t : _). t.items) out.turns ∙ shows.turns

    module _ (transcripts : HostNo → List Call) (play_is : IsPlayOfMerge script (map (λ (b : Bay D g). b.journal.items) now.bays.items) transcripts history)
        (merge : AppendsMerge (map (λ (b : Bay D g). b.journal.items) now.bays.items) [] now.turns.items) where
      journals_are : (handed_out g outcome).journals ≡ map (λ (b : Bay D g). b.journal.items) now.bays.items
      journals_are = out.journals

      -- the history and its order
      pub is-merged-play : IsMergedPlay script (handed_out g outcome) history
      is-merged-play = record {
        merged =
            subst (λ (turns : List Turn). AppendsMerge (handed_out g outcome).journals [] turns) (sym (ap (λ (t : _). t.items) out.turns))
            (subst (λ (journals : List (List Entry)). AppendsMerge journals [] now.turns.items) (sym journals_are) merge);
        played =
            sym (turns-played script (faults_of (map (λ (b : Bay D g). b.journal.items) now.bays.items)) history along play_is.told)
            ∙ ap (λ (turns : List Turn). play script (faults_of (map (λ (b : Bay D g). b.journal.items) now.bays.items)) [] turns) (sym handed)
            ∙ ap (λ (journals : List (List Entry)). play script (faults_of journals) [] outcome.turns.items) (sym journals_are);
        simulated = subst (λ (turns : List Turn). IsPlayed (with_turns script turns) (handed_out g outcome) history) (sym handed) is-simulated;
      }

      -- and its report
      pub is-merged-report : length (all_jobs script) < 2 ^ 32 → IsGathered script history now.gathered →
          IsMergedReport script (handed_out g outcome)
          (report_in script now.gathered.results.items now.gathered.contents.items now.turns.items now.gathered.cells.items now.gathered.opened.items)
      is-merged-report jobs at =
          let report : ReportOf =
          report_in script now.gathered.results.items now.gathered.contents.items now.turns.items now.gathered.cells.items now.gathered.opened.items in
          let here : report ≡ report_of script history = report-of script is history now shows at in
          let there : report ≡ report_of Simulated history = here ∙ sym (report-same script (turns_of history) history) in
          record {
            history = history;
            input_output = here;
            play = is-merged-play;
            simulated = subst (λ (turns : List Turn). IsReported (with_turns script turns) (handed_out g outcome) report) (sym handed) (record {
              serial = subst (λ (r : ReportOf). IsSerialReport Simulated r) (sym there) (serial-report Simulated history is-script is-simulated.headline.serial);
              told = subst IsTold (sym there) (reports_have_texts Simulated history is-script jobs is-few is-history is-over timely);
              history = history;
              input_output = there;
              played = is-simulated;
            });
          }
