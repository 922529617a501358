-- The report of every play has a text.
use Rattle.std.proofs.Common.{◌≡◌, refl, sym, ap, subst, ◌∙◌, ℕ, zero, suc, ◌+◌, ◌^◌, ◌<◌, ◌≤◌, not, true, List, [], ◌∷◌, length, arith, length-append}
use Rattle.std.specs.List.{AllByRecursion, range_with_len}
use Rattle.std.proofs.lemmas.List.{length-map}
use Rattle.std.proofs.lemmas.List.Elements.{All-from_recursion}
use Rattle.raid_base.specs.declared.numbers.HostNo.{HostNo}
use Rattle.raid_base.specs.declared.cells.Shown.{Shown}
use Rattle.raid_base.specs.declared.cells.Shown.TheVariants.{Seen, Hidden}
use Rattle.raid_base.specs.declared.messages.Call.{Call}
use Rattle.virtual_objects.specs.Objects.{Address}
use Rattle.attempts.specs.Phases.{IsIn}
use Rattle.attempts.proofs.RoomLemmas.{all-append}
use Rattle.script_text.specs.Script.{Script, host_numbers}
use Rattle.script_text.specs.Ranges.{IsScript, all_jobs}
use Rattle.script_text.specs.Weights.{total}
use Rattle.report_text.specs.Ranges.{IsShown, IsContent, IsTurn, IsBlockShown, IsReport}
use Rattle.report_text.specs.Told.{as_told}
use Rattle.report_text.proofs.ToldTexts.{is-told}
use Rattle.histories.specs.Progress.{Ending}
use Rattle.histories.specs.History.{IsHistory, endings_at, turn_of, turns_of}
use Rattle.histories.specs.Turns.{all_ended}
use Rattle.histories.specs.RowStates.{is_open}
use Rattle.histories.specs.Results.{shown_block}
use Rattle.histories.specs.Causes.{MeetsCause}
use Rattle.histories.specs.Endings.{IsFilled}
use Rattle.histories.specs.Smallness.{HasNumbers}
use Rattle.histories.specs.Torn.{IsLostRightly}
use Rattle.histories.proofs.accesses.AccessIds.{all-apart, asker-few}
use Rattle.histories.proofs.bounds.BoundsHistory.{requests_are_bounded}
use Rattle.histories.proofs.bounds.Quotas.{totals_cover_requests}
use Rattle.histories.proofs.causes.HostCauses.{causes_are_met}
use Rattle.histories.proofs.endings.EndingLemmas.{endings_are_filled}
use Rattle.histories.proofs.smallness.SmallHistory.{are-asked, numbers_stay_small}
use Rattle.row_laws.proofs.owners.OwnedPuts.{all-in}
use Rattle.row_laws.proofs.torn.TornEndings.{lost_blocks_are_torn}
use Rattle.serial_laws.specs.Headline.{IsSerialPlay}
use Rattle.serial_laws.proofs.serial.Serial.{plays_are_serial}
use Rattle.schedule_play.specs.Reported.{report_of}
use Rattle.array_cli.specs.Moments.{AreTimely}
use Rattle.array_cli.specs.Laws.{ReportsHaveTexts}
use Rattle.array_cli.proofs.told.CallRanges.{CallIn, endings-in}
use Rattle.array_cli.proofs.told.ContentRanges.{EndingIn, PlayIn, play-in}
use Rattle.array_cli.proofs.told.HostEnds.{EndsIn, ends-in}
use Rattle.array_cli.proofs.told.NumberEnds.{all-of, has-closed}
use Rattle.array_cli.proofs.told.JobRanges.{EndTold, jobs-in-range, jobs-rise}
use Rattle.array_cli.proofs.told.BlockRanges.{blocks-follow, blocks-in}
use Rattle.array_cli.proofs.told.EndRanges.{Known, end-told}

length-range : (from count : ℕ) → length (range_with_len from count) ≡ count
length-range from zero = refl
length-range from (suc count) = ap suc (length-range (from + 1) count)

module _ (script : Script) (history : List Call) (is : IsScript script) (few : length (all_jobs script) < 2 ^ 32) (light : total script ≤ 2 ^ 20) (along : IsHistory script history)
    (over : all_ended script history ≡ true) (timely : AreTimely history) where
  play : IsSerialPlay script history
  play = plays_are_serial script history is along over

  contents-in : PlayIn script is history play
  contents-in = play-in script is history play

  -- results
  host-told : (host : HostNo) → IsIn host (host_numbers script) → AllByRecursion EndTold (endings_at script history host)
  host-told host among = all-of EndTold es (λ e in_es. end-told script is history host e (known e in_es))
    where
      es : List Ending
      es = endings_at script history host

      known : (e : Ending) → IsIn e (endings_at script history host) → Known script is history host e
      known e in_es = record {
        ends = all-in (EndsIn script host) e (endings_at script history host) (ends-in script is host history) in_es;
        filled = all-in IsFilled e (endings_at script history host) (endings_are_filled script history host is).filled in_es;
        met = all-in (λ (x : Ending). MeetsCause script history host x x.ended) e (endings_at script history host) (causes_are_met script history is along host) in_es;
        numbers = all-in HasNumbers e (endings_at script history host) ((numbers_stay_small script history is light along).2 host) in_es;
        calls = all-in (λ (x : Ending). AllByRecursion (CallIn script) x.calls) e (endings_at script history host) (endings-in script is light history along host) in_es;
        reads = all-in (EndingIn script is) e (endings_at script history host)
            (all-in (λ (h : HostNo). AllByRecursion (EndingIn script is) (endings_at script history h)) host (host_numbers script) contents-in.reads among) in_es;
        closed = has-closed script is host history along e in_es;
        lost = all-in (λ (x : Ending). IsLostRightly script history x x.job.task x.ended) e (endings_at script history host) (lost_blocks_are_torn script history is along host) in_es;
      }

  -- turns
  turns-in : (calls : List Call) → IsHistory script calls → AreTimely calls → AllByRecursion IsTurn (turns_of calls)
  turns-in [] h early = tt
  turns-in (call ∷ earlier) h early =
      let low : call.ask.host.0 < 16 = asker-few script is earlier call h.1 (all-apart script is earlier h.0) in
      all-append IsTurn (turns_of earlier) (turn_of call ∷ []) (turns-in earlier h.0 early.1)
      (record { host = record { low = omega arith; high = omega (arith, low) }; moment = record { low = omega arith; high = early.0 } }, tt)

  count-turns : (calls : List Call) → length (turns_of calls) ≡ length calls
  count-turns [] = refl
  count-turns (call ∷ earlier) = let all = length-append (turns_of earlier) (turn_of call ∷ []) in let rest = count-turns earlier in omega (arith, all, rest)

  calls-few : length history ≤ 2 ^ 20
  calls-few =
      omega (
        arith,
        light,
        (requests_are_bounded script history (record { ranges = is }) (are-asked script is history along)).calls,
        (totals_cover_requests script (record { ranges = is })).all,
      )

  -- blocks
  shows : (address : Address) → IsShown (shown_block script history address)
  shows address = by (shown_block script history address) refl
    where
      by : (shown : Shown) → shown_block script history address ≡ shown → IsShown shown
      by (Seen content) seen = subst IsContent (sym (play.2 address content seen)) (contents-in.last address)
      by Hidden seen = tt

  -- rows
  count-rows : length (report_of script history).closed ≡ script.rows
  count-rows = length-map (range_with_len 0 script.rows) (λ row. not (is_open script history (record { 0 = row }))) ∙ length-range 0 script.rows

  pub is-report : IsReport (as_told (report_of script history))
  is-report = record {
    jobs = jobs-in-range script history is few (all-of (λ (host : HostNo). AllByRecursion EndTold (endings_at script history host)) (host_numbers script) host-told);
    jobs_rise = jobs-rise script history is;
    turns = All-from_recursion IsTurn (turns_of history) (turns-in history along timely);
    turns_few = (let all = count-turns history in record { low = omega arith; high = omega (arith, all, calls-few) });
    blocks = All-from_recursion IsBlockShown (report_of script history).blocks (blocks-in script is (shown_block script history) shows);
    blocks_in_order = blocks-follow script is (shown_block script history);
    rows_some = omega (arith, count-rows, is.rows_least);
    rows_few = omega (arith, count-rows, is.rows_most);
  }

pub reports_have_texts : ReportsHaveTexts
reports_have_texts script history is few light along over timely = is-told (report_of script history) (is-report script history is few light along over timely)
