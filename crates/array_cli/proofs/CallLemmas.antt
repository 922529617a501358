-- What a run needs and leaves.
use Rattle.std.proofs.Common.{◌≡◌, ℕ, zero, suc, ◌+◌, ◌-◌, ◌^◌, ◌<◌, ◌≤◌, ◌++◌, Bool, Option, List, [], ◌∷◌, length, map, drop, get_or, inl, inr, refl, sym, ap, subst, ◌∙◌, arith, IsTrue}
use Rattle.std.specs.Prelude.{flat_map}
use Rattle.raid_base.specs.declared.status.Status.{Status}
use Rattle.raid_base.specs.declared.status.Status.TheVariants.{Done, Words, ReadFault, TooLong, BadScript, TooMuch, TooFewStores, TooSmall, StoreFault, WriteFault, Memory}
use Rattle.raid_base.specs.declared.jobs.JobResult.{JobResult}
use Rattle.raid_base.specs.declared.messages.Turn.{Turn}
use Rattle.raid_base.specs.declared.messages.Call.{Call}
use Rattle.raid_base.specs.declared.messages.Entry.{Entry}
use Rattle.raid_base.specs.declared.cells.Cell.{Cell}
use Rattle.raid_base.specs.declared.cells.Content.{Content}
use Rattle.raid_base.specs.declared.numbers.BayNo.{BayNo}
use Rattle.raid_base.specs.declared.streams.Source.{Ghosts as SourceGhosts}
use Rattle.raid_base.specs.declared.streams.Sink.{Ghosts as SinkGhosts}
use Rattle.raid_base.specs.Counts.{Rises, RisesBy}
use Rattle.block_store.specs.declared.store.Store.{Ghosts}
use Rattle.bay_device.specs.declared.bay.Bay.{Bay}
use Rattle.bay_device.specs.Handling.{count_faults}
use Rattle.script_text.specs.Script.{Script}
use Rattle.script_text.specs.Ranges.{IsScript, all_jobs}
use Rattle.script_text.specs.Weights.{total}
use Rattle.histories.specs.Bounds.{IsPlayable}
use Rattle.histories.specs.History.{faults_in, turns_of}
use Rattle.histories.proofs.bounds.Quotas.{totals_cover_requests}
use Rattle.histories.proofs.causes.HostCauses.{causes_are_met}
use Rattle.histories.proofs.completeness.CompleteHistory.{unrefused_jobs_are_done}
use Rattle.histories.proofs.completeness.CompleteSteps.{unrefused_attempts_go_on}
use Rattle.report_text.specs.Report.{ReportOf, report_text}
use Rattle.report_text.specs.Told.{IsTold}
use Rattle.report_text.specs.Views.{report_in}
use Rattle.load_maker.specs.Load.{load_script}
use Rattle.load_maker.specs.Summary.{summary_text}
use Rattle.std.specs.Vec.{vec_len, vec_capacity}
use Rattle.schedule_play.specs.declared.gathering.Gathered.{Gathered}
use Rattle.schedule_play.specs.World.{AreOver, Keeps, Shows, IsReady, all_requests}
use Rattle.schedule_play.specs.Making.{AreBack, AreLarge, IsHalted, IsRefusal, stores_of}
use Rattle.schedule_play.specs.Gathering.{IsBlank, IsClosable, IsGathered}
use Rattle.schedule_play.specs.Rows.{HasFailed, cells_after}
use Rattle.histories.specs.Stored.{StoresHold}
use Rattle.histories.specs.Results.{results, contents}
use Rattle.schedule_play.specs.Reported.{report_of}
use Rattle.schedule_play.specs.declared.world.World.{World}
use Rattle.schedule_play.specs.declared.making.WorldFault.{WorldFault}
use Rattle.schedule_play.specs.declared.making.WorldFault.TheVariants as faults
use Rattle.attempt_laws.proofs.lone.LoneBays.{lone_hosts_are_done}
use Rattle.row_laws.proofs.torn.TornEndings.{lost_blocks_are_torn}
use Rattle.serial_laws.proofs.contents.ContentParity.{parity_is_kept, contents_are_shown}
use Rattle.serial_laws.proofs.serial.Serial.{plays_are_serial}
use Rattle.schedule_play.proofs.CloseLemmas.{closed-journals, closed-stores, closed-back}
use Rattle.schedule_play.proofs.ReportLemmas.{report-is}
use Rattle.schedule_play.proofs.ContentLemmas.{contents-whole}
use Rattle.array_cli.specs.SerialReports.{IsSerialReport}
use Rattle.array_cli.specs.declared.calls.Outcome.{Outcome}
use Rattle.array_cli.specs.Calls.{handed_out, journal_of, AllTell, HasFailedBy, HasPlayed, HasStopped, HasCalled, HasLoaded, IsLoad, IsCall, IsEmpty, IsIdle, IsOpened, IsPlayed, IsRead, IsReported, IsUnopened}
use Rattle.array_cli.specs.Moments.{AreTimely}
use Rattle.array_cli.proofs.SerialReportLemmas.{serial-report}
use Rattle.array_cli.proofs.told.PlayMoments.{moments_are_bounded}
use Rattle.array_cli.proofs.told.ToldReports.{reports_have_texts}
use Rattle.array_cli.specs.Parts.{HasEnded, HasNoScript, HasPrinted, IsFinished, IsReadFrom, IsRefused, IsUnplayed}

pub playable : (script : Script) → IsScript script → IsPlayable script
playable script is = record { ranges = is }

-- a store that tells its blocks tells all
abbrev pub Whole : {D : Type 0} → Ghosts D → Type 0
Whole {D} g = (store : D) → IsTrue (g.tells store) → length (g.content store) ≡ g.size store

rises-plain : (n before now : ℕ) → RisesBy n before now → RisesBy (n + 0) before now
rises-plain n before now r = subst (λ (m : ℕ). RisesBy m before now) (let e : n ≡ n + 0 = omega arith in e) r

rises-more : (n before mid now : ℕ) → RisesBy n before mid → Rises mid now → RisesBy (n + 1) before now
rises-more n before mid now r s = grind (arith)

module _ {D : Type 0} {g : Ghosts D} where
  -- some bay of a list
  pub a-bay : (bays : List (Bay D g)) → 1 ≤ length bays → Bay D g
  a-bay [] some = absurd (omega arith)
  a-bay (b ∷ bays) some = b

  journal-at : (bays : List (Bay D g)) (k : ℕ) (e : Bay D g) → k < length bays → get_or (map (λ (b : Bay D g). b.journal.items) bays) k [] ≡ (get_or bays k e).journal.items
  journal-at [] k e inside = absurd (omega arith)
  journal-at (b ∷ bays) zero e inside = refl
  journal-at (b ∷ bays) (suc k) e inside = journal-at bays k e (omega (arith, inside))

  stored-at : (bays : List (Bay D g)) (others : List D) (k : ℕ) (d : D) (e : Bay D g) → k < length bays → get_or (stores_of bays ++ others) k d ≡ (get_or bays k e).store
  stored-at [] others k d e inside = absurd (omega arith)
  stored-at (b ∷ bays) others zero d e inside = refl
  stored-at (b ∷ bays) others (suc k) d e inside = stored-at bays others k d e (omega (arith, inside))

  -- a world over these stores
  pub record IsOverStores (script : Script) (stores : List D) (now : World D g) : Type 0 where
    pub large : AreLarge g.size script.n script.rows stores
    pub over : AreOver stores now.bays.items
    pub count : length now.bays.items ≡ script.n
    pub others : now.others.items ≡ drop script.n stores

  -- all that is handed out of it
  pub record IsHandedOut (now : World D g) (outcome : Outcome D) : Type 0 where
    pub journals : map (λ journal. journal.items) outcome.journals.items ≡ map (λ (b : Bay D g). b.journal.items) now.bays.items
    pub results : outcome.results ≡ now.gathered.results
    pub turns : outcome.turns ≡ now.turns
    pub stores : outcome.stores.items ≡ stores_of now.bays.items ++ now.others.items

  pub ready : (script : Script) → IsScript script → total script ≤ 2 ^ 20 → (history : List Call) (now : World D g) → Shows script history now → IsReady now
  ready script is few history now shows = record {
    script = script;
    history = history;
    playable = playable script is;
    few = let h : all_requests script ≤ total script = (totals_cover_requests script (playable script is)).all in omega (arith, h, few);
    shows = shows;
  }

  pub blank-on : (script : Script) (history : List Call) (old new : World D g) → IsBlank script old.gathered → Keeps old new → Shows script history new → IsBlank new.script.now new.gathered
  blank-on script history old new blank keeps shows =
      subst (λ (s : Script). IsBlank s new.gathered) (sym shows.plays) (subst (λ (now : Gathered). IsBlank script now) (sym keeps.gathered) blank)

  pub closable-on : (script : Script) (before after : List Call) (old new : World D g) → IsClosable old → Shows script before old → Shows script after new → new.others ≡ old.others →
      new.gathered.journals ≡ old.gathered.journals → IsClosable new
  closable-on script before after old new is shows later others journals =
      let same : length new.bays.items ≡ length old.bays.items = later.bay_count ∙ sym shows.bay_count in
      record {
        stores = omega (arith, is.stores, ap vec_len others, ap vec_capacity others, same, new.bays.ok.0, old.bays.ok.0);
        none = ap (λ (v : _). v.items) journals ∙ is.none;
        journals = omega (arith, is.journals, ap vec_capacity journals, same, new.bays.ok.0, old.bays.ok.0);
      }

  pub over-start : (script : Script) (stores : List D) (now : World D g) → AreLarge g.size script.n script.rows stores → AreOver stores now.bays.items → Shows script [] now →
      now.others.items ≡ drop script.n stores → IsOverStores script stores now
  over-start script stores now large over shows others = record { large = large; over = over; count = shows.bay_count; others = others }

  pub over-on : (script : Script) (history : List Call) (stores : List D) (old new : World D g) → IsOverStores script stores old → (AreOver stores old.bays.items → AreOver stores new.bays.items) →
      Shows script history new → new.others ≡ old.others → IsOverStores script stores new
  over-on script history stores old new at over shows others = record {
    large = at.large;
    over = over at.over;
    count = shows.bay_count;
    others = ap (λ (v : _). v.items) others ∙ at.others;
  }

  pub over-finished : (script : Script) (stores : List D) (now : World D g) → IsFinished g script stores now → IsOverStores script stores now
  over-finished script stores now f = record { large = f.large; over = f.over; count = f.shows.bay_count; others = f.others }

  -- the count of each store has risen by the Faults of its journal
  failed-by : (more : ℕ) (script : Script) (stores : List D) (now : World D g) (outcome : Outcome D) (at : ℕ) → IsOverStores script stores now → IsHandedOut now outcome → at < length now.bays.items →
      ((d : D) (e : Bay D g) → RisesBy (count_faults (get_or now.bays.items at e).journal.items + more) (g.faults (get_or stores at d)) (g.faults (get_or now.bays.items at e).store)) →
      HasFailedBy g more at stores outcome
  failed-by more script stores now outcome at over out inside each d =
      let b = a-bay now.bays.items (omega (arith, inside)) in
      let told : journal_of outcome at ≡ (get_or now.bays.items at b).journal.items =
      ap (λ (js : List (List Entry)). get_or js at []) out.journals ∙ journal-at now.bays.items at b inside in
      let held : get_or outcome.stores.items at d ≡ (get_or now.bays.items at b).store = ap (λ (xs : List D). get_or xs at d) out.stores ∙ stored-at now.bays.items now.others.items at d b inside in
      subst (λ (x : D). RisesBy (count_faults (journal_of outcome at) + more) (g.faults (get_or stores at d)) (g.faults x)) (sym held)
      (subst (λ (js : List Entry). RisesBy (count_faults js + more) (g.faults (get_or stores at d)) (g.faults (get_or now.bays.items at b).store)) (sym told) (each d b))

  pub opened : (script : Script) (stores : List D) (now : World D g) (outcome : Outcome D) → IsOverStores script stores now → IsHandedOut now outcome → IsOpened g script stores outcome
  opened script stores now outcome over out = record {
    large = over.large;
    stores_back = closed-back script.n stores now.bays.items now.others.items outcome.stores.items over.over over.count over.large.enough over.others out.stores;
    faults = λ at below.
        let inside : at < length now.bays.items = omega (arith, below, over.count) in
        failed-by 0 script stores now outcome at over out inside
        (λ d e. rises-plain (count_faults (get_or now.bays.items at e).journal.items) (g.faults (get_or stores at d)) (g.faults (get_or now.bays.items at e).store) (over.over at d e inside).faults);
  }

  -- the play that is handed out
  pub is-played : Whole g → (script : Script) → IsScript script → total script ≤ 2 ^ 20 → (history : List Call) (now : World D g) (outcome : Outcome D) → Shows script history now → HasEnded script history now →
      outcome.results.items ≡ results script history → IsHandedOut now outcome → IsPlayed script (handed_out g outcome) history
  is-played whole script is few history now outcome shows at read out = record {
    headline = record {
      play = record {
        most = all_requests script;
        played = at.played;
        over = at.over;
        journals = out.journals ∙ closed-journals script history now.bays.items shows.bays shows.bay_count;
        results = read;
        turns = ap (λ (t : _). t.items) out.turns ∙ shows.turns;
        stores = subst (λ (stores : List D). StoresHold script history (map g.content stores)) (sym out.stores)
            (closed-stores script history now.bays.items now.others.items shows.bays at.told shows.bay_count whole);
      };
      serial = plays_are_serial script history is (shows.told at.told) at.over;
      parity = parity_is_kept script history is (shows.told at.told);
      lost_blocks = lost_blocks_are_torn script history is (shows.told at.told);
      causes = λ host. causes_are_met script history is (shows.told at.told) host;
    };
    contents = contents_are_shown script history is (shows.told at.told);
    attempts = unrefused_attempts_go_on script history is few (shows.told at.told);
    unrefused = unrefused_jobs_are_done script history is few (shows.told at.told);
    alone = lone_hosts_are_done script history is few (shows.told at.told);
  }

  -- and its report
  pub report-of : (script : Script) → IsScript script → (history : List Call) (now : World D g) → Shows script history now → IsGathered script history now.gathered →
      report_in script now.gathered.results.items now.gathered.contents.items now.turns.items now.gathered.cells.items now.gathered.opened.items ≡ report_of script history
  report-of script is history now shows at =
      let told : List JobResult → List Content → List Turn → List (Option Cell) → List Bool → ReportOf = report_in script in
      let reads = flat_map (λ (read : List Content). read) (contents script history) in
      ap (λ (x : List JobResult). told x now.gathered.contents.items now.turns.items now.gathered.cells.items now.gathered.opened.items) at.results
      ∙ ap (λ (x : List Content). told (results script history) x now.turns.items now.gathered.cells.items now.gathered.opened.items) at.contents
      ∙ ap (λ (x : List Turn). told (results script history) reads x now.gathered.cells.items now.gathered.opened.items) shows.turns
      ∙ ap (λ (x : List (Option Cell)). told (results script history) reads (turns_of history) x now.gathered.opened.items) at.cells
      ∙ ap (λ (x : List Bool). told (results script history) reads (turns_of history) (cells_after script history) x) at.opened
      ∙ report-is script history is (contents-whole script history is)

  -- a store has failed in the final reading
  pub failed-reading : (script : Script) (stores : List D) (history : List Call) (before now : World D g) (bay : BayNo) (outcome : Outcome D) → IsOverStores script stores before →
      IsOverStores script stores now → Shows script history before → Shows script history now → IsHandedOut now outcome → HasFailed bay.0 before.bays.items now.bays.items → HasFailedBy g 1 bay.0 stores outcome
  failed-reading script stores history before now bay outcome was over shown shows out failed =
      let here : bay.0 < length now.bays.items = omega (arith, failed.inside, was.count, over.count) in
      let same : (d e : Bay D g) → (get_or before.bays.items bay.0 d).journal.items ≡ (get_or now.bays.items bay.0 e).journal.items =
      (λ d e. (shown.bays bay.0 d failed.inside).entries ∙ sym (shows.bays bay.0 e here).entries) in
      failed-by 1 script stores now outcome bay.0 over out here
      (λ d e.
      subst (λ (js : List Entry). RisesBy (count_faults js + 1) (g.faults (get_or stores bay.0 d)) (g.faults (get_or now.bays.items bay.0 e).store)) (same e e)
      (rises-more (count_faults (get_or before.bays.items bay.0 e).journal.items) (g.faults (get_or stores bay.0 d)) (g.faults (get_or before.bays.items bay.0 e).store) (g.faults (get_or now.bays.items bay.0 e).store)
      (was.over bay.0 d e failed.inside).faults (failed.risen e)))

  pub unread-stops : Whole g → (script : Script) → IsScript script → total script ≤ 2 ^ 20 → (stores : List D) (history : List Call) (before now : World D g) (bay : BayNo) (outcome : Outcome D) → IsOverStores script stores before →
      IsOverStores script stores now → Shows script history before → Shows script history now → outcome.status ≡ StoreFault bay → IsHandedOut now outcome → outcome.results.items ≡ results script history →
      HasFailed bay.0 before.bays.items now.bays.items → (AllTell g script stores → HasEnded script history now) → IsUnplayed g script stores outcome
  unread-stops whole script valid few stores history before now bay outcome was over shown shows is out read failed ends =
      let here : bay.0 < script.n = omega (arith, failed.inside, was.count) in
      subst (HasStopped g script stores outcome) (sym is) (
        opened script stores now outcome over out,
        here,
        inr (record {
          failed = failed-reading script stores history before now bay outcome was over shown shows out failed;
          played = λ tells. (history, is-played whole script valid few history now outcome shows (ends tells) read out);
        }),
      )

module _ {D : Type 0} (g : Ghosts D) where
  no-journal : (outcome : Outcome D) → IsEmpty outcome → (at : ℕ) → count_faults (journal_of outcome at) ≡ 0
  no-journal outcome empty at = ap (λ (js : List _). count_faults (get_or (map (λ journal. journal.items) js) at [])) empty.journals

  -- a store has failed before the first request
  pub unopened : (script : Script) (stores : List D) (bay : BayNo) (back : _) (outcome : Outcome D) → IsRefusal g script.n script.rows stores (faults.Fault bay back) → IsRefused script.n (faults.Fault bay back) outcome →
      IsOpened g script stores outcome × IsUnopened g script bay.0 stores outcome
  unopened script stores bay back outcome is out =
      let same : outcome.stores.items ≡ back.items = ap (λ (v : _). v.items) out.1 in
      let all : AreBack g script.n stores outcome.stores.items = subst (λ (xs : List D). AreBack g script.n stores xs) (sym same) is.1 in
      let none : (at : ℕ) → count_faults (journal_of outcome at) ≡ 0 = no-journal outcome out.0 in
      let enough = is.0.enough in (
        record {
          large = is.0;
          stores_back = all;
          faults = λ at below d.
              subst (λ (n : ℕ). RisesBy (n + 0) (g.faults (get_or stores at d)) (g.faults (get_or outcome.stores.items at d))) (sym (none at))
              (all.each at d (omega (arith, below, enough))).faults_least;
        },
        record {
          empty = out.0;
          failed = λ d.
              subst (λ (n : ℕ). RisesBy (n + 1) (g.faults (get_or stores bay.0 d)) (g.faults (get_or outcome.stores.items bay.0 d))) (sym (none bay.0))
              (subst (λ (xs : List D). Rises (g.faults (get_or stores bay.0 d)) (g.faults (get_or xs bay.0 d))) (sym same) (is.3.failed d).rises);
          halted = subst (λ (xs : List D). IsHalted g script.rows bay.0 stores xs) (sym same) is.3;
        },
      )

  -- no world was made
  pub refused-stops : (script : Script) (stores : List D) (fault : WorldFault D) (outcome : Outcome D) →
      IsRefusal g script.n script.rows stores fault → IsRefused script.n fault outcome → IsUnplayed g script stores outcome
  refused-stops script stores (faults.TooFew back) outcome is out =
      let given : back.items ≡ stores = is.1 in
      let few : length back.items < script.n = omega (arith, is.0, ap length given) in
      subst (HasStopped g script stores outcome) (sym (out.2 few))
      (record { stores_back = ap (λ (v : _). v.items) out.1 ∙ given; empty = out.0 }, ap length given, refl, few)
  refused-stops script stores (faults.TooSmall bay back) outcome is out =
      subst (HasStopped g script stores outcome) (sym out.2) (record { stores_back = ap (λ (v : _). v.items) out.1 ∙ is.1; empty = out.0 }, is.0)
  refused-stops script stores (faults.NoMemory back) outcome is out =
      let same : outcome.stores.items ≡ back.items = ap (λ (v : _). v.items) out.1 in
      subst (HasStopped g script stores outcome) (sym out.2) (subst (λ (xs : List D). AreBack g script.n stores xs) (sym same) is.1, out.0, ap (λ (xs : List D). drop (script.n - 1) xs) same ∙ is.2)
  refused-stops script stores (faults.Fault bay back) outcome is out =
      let halted = unopened script stores bay back outcome is out in
      subst (HasStopped g script stores outcome) (sym out.2) (halted.0, is.2, inl halted.1)

module _ {K D : Type 0} (k : SinkGhosts K) (g : Ghosts D) where
  -- an end before the report
  pub stopped-played : (script : Script) (sink : K) (stores : List D) (outcome : Outcome D) (print : ReportOf → List ℕ) (status : Status) → HasStopped g script stores outcome status →
      HasPlayed k g print script sink sink stores outcome status
  stopped-played script sink stores outcome print Done h = absurd h
  stopped-played script sink stores outcome print WriteFault h = absurd h
  stopped-played script sink stores outcome print Words h = absurd h
  stopped-played script sink stores outcome print ReadFault h = absurd h
  stopped-played script sink stores outcome print TooLong h = absurd h
  stopped-played script sink stores outcome print (BadScript line kind) h = absurd h
  stopped-played script sink stores outcome print (TooMuch weight) h = absurd h
  stopped-played script sink stores outcome print (TooFewStores have need) h = (refl, h)
  stopped-played script sink stores outcome print (TooSmall bay) h = (refl, h)
  stopped-played script sink stores outcome print (StoreFault bay) h = (refl, h)
  stopped-played script sink stores outcome print Memory h = (refl, h)

  -- the report was printed, or a part of it
  pub reported-played : Whole g → (script : Script) → IsScript script → length (all_jobs script) < 2 ^ 32 → total script ≤ 2 ^ 20 → (sink after : K) (stores : List D) (now : World D g) (outcome : Outcome D) (print : ReportOf → List ℕ) →
      IsFinished g script stores now → IsHandedOut now outcome →
      HasPrinted k (print (report_in script now.gathered.results.items now.gathered.contents.items now.turns.items now.gathered.cells.items now.gathered.opened.items)) sink after outcome.status →
      HasPlayed k g print script sink after stores outcome outcome.status
  reported-played whole script is jobs few sink after stores now outcome print f out printed = go outcome.status printed
    where
      report : ReportOf
      report = report_in script now.gathered.results.items now.gathered.contents.items now.turns.items now.gathered.cells.items now.gathered.opened.items

      open-now : IsOpened g script stores outcome
      open-now = opened script stores now outcome (over-finished script stores now f) out

      told-of : AllTell g script stores → IsReported script (handed_out g outcome) report
      told-of tells =
          let end = f.ended tells in
          let same : report ≡ report_of script f.history = report-of script is f.history now f.shows end.1 in
          let play : IsPlayed script (handed_out g outcome) f.history =
          is-played whole script is few f.history now outcome f.shows end.0 (ap (λ (r : _). r.items) out.results ∙ end.1.results) out in
          let timely : AreTimely f.history = subst AreTimely (sym end.0.played) (moments_are_bounded script (faults_in f.history) (all_requests script) is) in
          record {
            serial = subst (λ (r : ReportOf). IsSerialReport script r) (sym same) (serial-report script f.history is play.headline.serial);
            told = subst IsTold (sym same) (reports_have_texts script f.history is jobs few (f.shows.told end.0.told) end.0.over timely);
            history = f.history;
            input_output = same;
            played = play;
          }

      go : (status : Status) → HasPrinted k (print report) sink after status → HasPlayed k g print script sink after stores outcome status
      go Done p = (open-now, p.0, λ tells. (report, told-of tells, p.1))
      go WriteFault p = (open-now, p.0, λ tells. (report, told-of tells, p.1))
      go Words p = absurd p
      go ReadFault p = absurd p
      go TooLong p = absurd p
      go (BadScript line kind) p = absurd p
      go (TooMuch weight) p = absurd p
      go (TooFewStores have need) p = absurd p
      go (TooSmall bay) p = absurd p
      go (StoreFault bay) p = absurd p
      go Memory p = absurd p

module _ {K D : Type 0} (k : SinkGhosts K) (g : Ghosts D) where
  -- the playing of a load
  pub loaded : (n : ℕ) (script : Script) (sink after : K) (stores : List D) (outcome : Outcome D) → script ≡ load_script n →
      HasPlayed k g (summary_text n) script sink after stores outcome outcome.status → IsLoad k g n sink after stores outcome
  loaded n script sink after stores outcome is p =
      record { loaded = go outcome.status (subst (λ (s : Script). HasPlayed k g (summary_text n) s sink after stores outcome outcome.status) is p) }
    where
      go : (status : Status) → HasPlayed k g (summary_text n) (load_script n) sink after stores outcome status → HasLoaded k g n sink after stores outcome status
      go Done p = p
      go WriteFault p = p
      go Words p = p
      go ReadFault p = p
      go TooLong p = p
      go (BadScript line kind) p = p
      go (TooMuch weight) p = p
      go (TooFewStores have need) p = p
      go (TooSmall bay) p = p
      go (StoreFault bay) p = p
      go Memory p = inr p

module _ {S K D : Type 0} (s : SourceGhosts S) (k : SinkGhosts K) (g : Ghosts D) where
  -- no script was read
  pub no-script-call : (source later : S) (sink : K) (stores : List D) (outcome : Outcome D) (status : Status) → outcome.status ≡ status → outcome.stores.items ≡ stores → IsEmpty outcome →
      HasNoScript s source later status → IsCall s k g source later sink sink stores outcome
  no-script-call source later sink stores outcome status is same empty none = record { called = subst (HasCalled s k g source later sink sink stores outcome) (sym is) (go status none) }
    where
      idle : IsIdle sink sink stores outcome
      idle = record { silent = refl; untouched = record { stores_back = same; empty = empty } }

      go : (status : Status) → HasNoScript s source later status → HasCalled s k g source later sink sink stores outcome status
      go Done n = absurd n
      go WriteFault n = absurd n
      go Words n = absurd n
      go ReadFault n = (idle, n)
      go TooLong n = (idle, n)
      go (BadScript line kind) n = (idle, n)
      go (TooMuch weight) n = (idle, n.0, n.1, n.2, n.3)
      go (TooFewStores have need) n = absurd n
      go (TooSmall bay) n = absurd n
      go (StoreFault bay) n = absurd n
      go Memory n = inl idle

  -- the playing of the script that was read
  pub played-call : (script : Script) (source later : S) (sink after : K) (stores : List D) (outcome : Outcome D) → IsRead s source later script → total script ≤ 2 ^ 20 →
      HasPlayed k g report_text script sink after stores outcome outcome.status → IsCall s k g source later sink after stores outcome
  played-call script source later sink after stores outcome read few p = record { called = go outcome.status p }
    where
      go : (status : Status) → HasPlayed k g report_text script sink after stores outcome status → HasCalled s k g source later sink after stores outcome status
      go Done p = (script, read, few, p)
      go WriteFault p = (script, read, few, p)
      go Words p = (script, read, few, p)
      go ReadFault p = absurd p.1
      go TooLong p = absurd p.1
      go (BadScript line kind) p = absurd p.1
      go (TooMuch weight) p = absurd p.1
      go (TooFewStores have need) p = (script, read, few, p)
      go (TooSmall bay) p = (script, read, few, p)
      go (StoreFault bay) p = (script, read, few, p)
      go Memory p = inr (script, read, p)
