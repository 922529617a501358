-- What a run needs and leaves whose hosts run beside each other.
use Rattle.std.proofs.Common.{◌≡◌, ◌∙◌, ℕ, zero, suc, ◌+◌, ◌-◌, ◌^◌, ◌<◌, ◌≤◌, ◌++◌, true, List, [], ◌∷◌, length, map, drop, get_or, sum_by, inl, inr, refl, sym, ap, subst, arith}
use Rattle.std.specs.Prelude.{min}
use Rattle.std.specs.List.{All, AllByRecursion}
use Rattle.std.specs.Vec.{vec_capacity}
use Rattle.std.proofs.lemmas.List.Elements.{All-nil, All-cons}
use Rattle.std.proofs.lemmas.List.{length-map}
use mathlib.Core.Option.{some, some-injective, some-ne-none}
use lib.ListN.{get_elem?}
use Rattle.raid_base.specs.declared.status.Status.{Status}
use Rattle.raid_base.specs.declared.status.Status.TheVariants.{Done, Words, ReadFault, TooLong, BadScript, TooMuch, TooFewStores, TooSmall, StoreFault, WriteFault, Memory}
use Rattle.raid_base.specs.declared.numbers.BayNo.{BayNo}
use Rattle.raid_base.specs.declared.numbers.HostNo.{HostNo}
use Rattle.raid_base.specs.declared.messages.Call.{Call}
use Rattle.raid_base.specs.declared.messages.Entry.{Entry}
use Rattle.raid_base.specs.declared.messages.Turn.{Turn}
use Rattle.raid_base.specs.declared.streams.Source.{Ghosts as SourceGhosts}
use Rattle.raid_base.specs.declared.streams.Sink.{Ghosts as SinkGhosts}
use Rattle.block_store.specs.declared.store.Store.{Ghosts}
use Rattle.bay_device.specs.declared.bay.Bay.{Bay}
use Rattle.script_text.specs.Script.{Script, host_numbers}
use Rattle.script_text.specs.Ranges.{IsScript, all_jobs}
use Rattle.script_text.specs.Weights.{total}
use Rattle.report_text.specs.Report.{ReportOf, report_text}
use Rattle.report_text.specs.Views.{report_in}
use Rattle.histories.specs.Quotas.{all_quotas}
use Rattle.histories.specs.Results.{results}
use Rattle.histories.proofs.bounds.BoundsHistory.{requests_are_bounded}
use Rattle.host_engine.specs.declared.host.Host.{Host}
use Rattle.host_engine.specs.Stands.{IsFreshHost}
use Rattle.clock_merge.specs.Merge.{ClocksRise, Line}
use Rattle.clock_merge.specs.Heads.{AreShort}
use Rattle.clock_merge.specs.Tied.{IsPlayOfMerge}
use Rattle.clock_merge.specs.Turns.{AppendsMerge}
use Rattle.rack_turns.specs.declared.pass.Pass.{Pass}
use Rattle.rack_turns.specs.declared.rack.Rack.{Rack}
use Rattle.rack_turns.specs.declared.view.Shadow.{Shadow}
use Rattle.rack_turns.specs.Passes.{AreNew, IsNewFirst, IsPassOf, openings_of, room_of}
use Rattle.rack_turns.specs.Shadows.{shadow, shadows}
use Rattle.rack_turns.specs.Views.{least_cap}
use Rattle.host_workers.specs.Playing.{AreFresh, HavePlayed, MayPlay}
use Rattle.host_workers.specs.Workers.{IsRackFor}
use Rattle.schedule_play.specs.declared.making.WorldFault.{WorldFault}
use Rattle.schedule_play.specs.declared.world.World.{World}
use Rattle.schedule_play.specs.Gathering.{IsClosable, IsGathered}
use Rattle.schedule_play.specs.Making.{AreBack, AreLarge, AreMade, IsRefusal, stores_of}
use Rattle.schedule_play.specs.Rows.{HasFailed}
use Rattle.schedule_play.specs.World.{AreOver, EachAt, HostShows, Keeps, Shows}
use Rattle.schedule_play.specs.World.{AllTell as BaysTell}
use Rattle.schedule_play.specs.declared.parting.Parts.{Parts}
use Rattle.schedule_play.specs.Parts.{world_of}
use Rattle.schedule_play.specs.declared.making.WorldFault.TheVariants as faults
use Rattle.schedule_play.proofs.CloseLemmas.{closed-journals}
use Rattle.array_cli.specs.Merged.{IsMergedPlay, IsMergedReport}
use Rattle.array_cli.specs.Parts.{HasNoScript, HasPrinted, IsReadFrom, IsRefused, IsUnplayed}
use Rattle.array_cli.specs.Calls.{handed_out, AllTell, HasCalled, HasPlayed, HasStopped, IsCall, IsEmpty, IsIdle, IsOpened, IsRead}
use Rattle.array_cli.specs.ThreadParts.{HasMerged, HaveRunBeside, IsRunFinished, IsRunStopped, IsStartedWorld, journals_in}
use Rattle.array_cli.specs.ThreadRuns.{AreMerged, HasRun, HasRunCalled, HasRunStopped, IsRun, IsRunUnread}
use Rattle.array_cli.specs.declared.calls.Outcome.{Outcome}
use Rattle.array_cli.proofs.CallLemmas.{Whole, IsHandedOut, IsOverStores, playable, opened, failed-reading, unopened, refused-stops}
use Rattle.array_cli.proofs.running.AskedHosts.{calls_by}
use Rattle.array_cli.proofs.running.ComeBack as come
use Rattle.array_cli.proofs.running.MergedRuns as runs
use Rattle.array_cli.proofs.merged.MergedReports.{is-merged-play, is-merged-report}

-- what holds at each place holds of all
all-of : {X : Type 0} (P : X → Type 0) (xs : List X) → ((k : ℕ) (d : X) → k < length xs → P (get_or xs k d)) → All P xs
all-of P [] each = All-nil P
all-of P (x ∷ xs) each = All-cons P x xs (each 0 x (omega arith)) (all-of P xs (λ k d inside. each (suc k) d (omega (arith, inside))))

-- nothing is the merge of nothing
nothing-merged : AppendsMerge [] [] []
nothing-merged = let none : List Line = [] in (none, record { within = tt; whole = λ k inside. absurd (omega (arith, inside)); rise = tt }, refl)

empty-merged : {D : Type 0} (outcome : Outcome D) → IsEmpty outcome → AreMerged outcome
empty-merged outcome empty =
    subst (λ (turns : List Turn). AppendsMerge (map (λ journal. journal.items) outcome.journals.items) [] turns) (sym empty.turns)
    (subst (λ (journals : List _). AppendsMerge (map (λ journal. journal.items) journals) [] []) (sym empty.journals) nothing-merged)

module _ {D : Type 0} {g : Ghosts D} where
  -- a fact of each bay is one of each shadow
  at-shadow : (P : Shadow → Type 0) (bays : List (Bay D g)) → ((k : ℕ) (d : Bay D g) → k < length bays → P (shadow (get_or bays k d))) →
      (k : ℕ) (opening : Shadow) → get_elem? (shadows bays) k ≡ some opening → P opening
  at-shadow P [] each k opening at = absurd (some-ne-none opening (sym at))
  at-shadow P (b ∷ bays) each zero opening at = subst P (some-injective (shadow b) opening at) (each 0 b (omega arith))
  at-shadow P (b ∷ bays) each (suc k) opening at = at-shadow P bays (λ j d inside. each (suc j) d (omega (arith, inside))) k opening at

  least-of : (most : ℕ) (bays : List (Bay D g)) → most ≤ 2 ^ 32 - 1 → ((k : ℕ) (d : Bay D g) → k < length bays → most ≤ (get_or bays k d).cap) → most ≤ least_cap (shadows bays)
  least-of most [] few each = few
  least-of most (b ∷ bays) few each =
      let rest : most ≤ least_cap (shadows bays) = least-of most bays few (λ k d inside. each (suc k) d (omega (arith, inside))) in
      let first : most ≤ b.cap = each 0 b (omega arith) in
      omega (arith, rest, first)

  module _ (script : Script) (is : IsScript script) (now : World D g) (started : IsStartedWorld script now) where
    some-store : (d : Bay D g) → D
    some-store d = d.store

    pub bays-new : AreNew (shadows now.bays.items)
    bays-new = at-shadow (λ (opening : Shadow). (opening.journal ≡ []) × (opening.clock ≡ 0)) now.bays.items
        (λ k d inside. let made = started.made k d.store d inside in (made.entries, made.clock))

    pub hosts-fresh : AreFresh script now.hosts.items
    hosts-fresh = record {
      numbers = started.shows.numbers;
      each = all-of (λ (host : Host). IsFreshHost script host.no host) now.hosts.items
          (λ k d inside. let at = started.shows.hosts k d inside in record { stands = at.stands; nothing = at.calls; calls = at.room; reads = at.reads });
    }

    pub may-play : (room : ℕ) (rack : Rack D g) (first : Pass) → all_quotas script < 2 ^ 32 → length (all_jobs script) < 2 ^ 32 → openings_of rack ≡ shadows now.bays.items →
        IsPassOf rack first → IsNewFirst (shadows now.bays.items) first → length (host_numbers script) ≤ room → MayPlay script rack first now.hosts.items room
    may-play room rack first few jobs opened pass new enough = record {
      rack_is = record {
        ranges = is;
        bays = record {
          many = ap (λ (bays : List Shadow). length bays) opened ∙ length-map now.bays.items shadow ∙ started.shows.bay_count;
          rows = λ k opening at. at-shadow (λ (o : Shadow). length o.slots.slots ≡ script.rows) now.bays.items (λ j d inside. (started.made j d.store d inside).rows)
              k opening (ap (λ (bays : List Shadow). get_elem? bays k) (sym opened) ∙ at);
        };
      };
      pass = pass;
      new = subst (λ (bays : List Shadow). IsNewFirst bays first) (sym opened) new;
      quotas =
          let least : all_quotas script ≤ least_cap (shadows now.bays.items) =
          least-of (all_quotas script) now.bays.items (omega (arith, few)) (λ k d inside. let cap : (get_or now.bays.items k d).cap ≡ all_quotas script = (started.made k d.store d inside).cap_is in omega (arith, cap)) in
          omega (arith, least, new.room);
      fresh = hosts-fresh;
      workers =
          let many : length (host_numbers script) ≡ length now.hosts.items = ap (λ (numbers : List HostNo). length numbers) (sym started.shows.numbers) ∙ length-map now.hosts.items (λ (host : Host). host.no) in
          omega (arith, many, enough);
      jobs = jobs;
    }

    -- what a merge asks of the bays that come back
    module _ (rack : Rack D g) (hosts : List Host) (bays : List (Bay D g)) (opened : openings_of rack ≡ shadows now.bays.items)
        (played : HavePlayed script rack hosts bays) where
      abbrev pub back-journals : List (List Entry)
      back-journals = map (λ (b : Bay D g). b.journal.items) bays

      pub back-few : length bays ≤ 16
      back-few =
          let many : length bays ≡ script.n = come.bay-count script is rack started.stores now.bays.items bays hosts opened started.shows.bay_count started.made played in
          omega (arith, many, is.devices_most)

      pub back-short : AreShort back-journals
      back-short = come.short script is rack started.stores now.bays.items bays hosts opened started.shows.bay_count started.made played

      pub back-rising : AllByRecursion ClocksRise back-journals
      back-rising = come.rising script is rack started.stores now.bays.items bays hosts opened started.shows.bay_count started.made played

      pub back-room : sum_by (λ (entries : List Entry). length entries) back-journals ≤ total script
      back-room = come.room-for-all script is rack started.stores now.bays.items bays hosts opened started.shows.bay_count started.made played

    -- the hosts have run over the bays of a rack, and their journals were merged into the turns
    module _ (rack : Rack D g) (new : World D g) (opened : openings_of rack ≡ shadows now.bays.items) (played : HavePlayed script rack new.hosts.items new.bays.items)
        (merged : AppendsMerge (map (λ (b : Bay D g). b.journal.items) new.bays.items) [] new.turns.items) where
      pub beside : new.script.now ≡ script → total script ≤ vec_capacity new.turns → new.others ≡ now.others → new.gathered ≡ now.gathered → HaveRunBeside script now new
      beside plays room others gathered =
          let parts : Parts D g =
          record { script = new.script; hosts = new.hosts; bays = new.bays; turns = new.turns; others = new.others; gathered = new.gathered } in
          let shown =
          runs.parts-show script is rack started.stores now.bays.items new.bays.items new.hosts.items opened started.shows.bay_count started.made played new.turns.items merged parts plays refl refl refl room in
          record {
            history = runs.history script is rack started.stores now.bays.items new.bays.items new.hosts.items opened started.shows.bay_count started.made played new.turns.items merged;
            transcripts = calls_by new.hosts.items;
            shows = record {
              plays = shown.plays;
              asked = shown.asked;
              hosts = shown.hosts_stand;
              numbers = shown.numbers;
              bays = shown.bays_stand;
              bay_count = shown.bay_count;
              turns = shown.turns_are;
              turn_room = shown.turn_room;
              told = shown.told;
            };
            ended = runs.over script is rack started.stores now.bays.items new.bays.items new.hosts.items opened started.shows.bay_count started.made played new.turns.items merged;
            timely = runs.timely script is rack started.stores now.bays.items new.bays.items new.hosts.items opened started.shows.bay_count started.made played new.turns.items merged;
            merged = merged;
            play = runs.is-play script is rack started.stores now.bays.items new.bays.items new.hosts.items opened started.shows.bay_count started.made played new.turns.items merged;
            keeps = record {
              others = others;
              gathered = gathered;
              over = come.over-still script is rack started.stores now.bays.items new.bays.items new.hosts.items opened started.shows.bay_count started.made played;
            };
            telling = come.tells-still script is rack started.stores now.bays.items new.bays.items new.hosts.items opened started.shows.bay_count started.made played;
          }

  -- a world that was taken apart, and put together of what hosts beside each other have come to
  pub put-together : (script : Script) (is : IsScript script) (world later : World D g) (parts ended : Parts D g) (rack : Rack D g) (bays : List (Bay D g)) (none turns : List Turn) →
      IsStartedWorld script world → world_of parts ≡ world → later ≡ world_of ended → openings_of rack ≡ shadows parts.bays.items →
      HavePlayed script rack ended.hosts.items ended.bays.items → bays ≡ ended.bays.items → none ≡ [] → ended.turns.items ≡ turns →
      AppendsMerge (map (λ (b : Bay D g). b.journal.items) bays) none turns → ended.script.now ≡ script → total script ≤ vec_capacity ended.turns →
      ended.others ≡ parts.others → ended.gathered ≡ parts.gathered → HaveRunBeside script world later
  put-together script is world later parts ended rack bays none turns started apart together opened played shown no_turns turns_are merged plays room others gathered =
      let whole : AppendsMerge (map (λ (b : Bay D g). b.journal.items) ended.bays.items) [] ended.turns.items =
      subst (λ (ts : List Turn). AppendsMerge (map (λ (b : Bay D g). b.journal.items) ended.bays.items) [] ts) (sym turns_are)
      (subst (λ (ts : List Turn). AppendsMerge (map (λ (b : Bay D g). b.journal.items) ended.bays.items) ts turns) no_turns
      (subst (λ (bs : List (Bay D g)). AppendsMerge (map (λ (b : Bay D g). b.journal.items) bs) none turns) shown merged)) in
      subst (λ (w : World D g). HaveRunBeside script w later) apart
      (subst (λ (w : World D g). HaveRunBeside script (world_of parts) w) (sym together)
      (beside script is (world_of parts) (subst (λ (w : World D g). IsStartedWorld script w) (sym apart) started) rack (world_of ended) opened played whole plays room others gathered))

  -- what shows one history has one list of journals, and one of turns
  same-journals : (script : Script) (history : List Call) (before now : World D g) → Shows script history before → Shows script history now → journals_in now ≡ journals_in before
  same-journals script history before now was is =
      closed-journals script history now.bays.items is.bays is.bay_count ∙ sym (closed-journals script history before.bays.items was.bays was.bay_count)

  pub merged-on : (script : Script) (history : List Call) (before now : World D g) → Shows script history before → Shows script history now →
      AppendsMerge (journals_in before) [] before.turns.items → AppendsMerge (journals_in now) [] now.turns.items
  merged-on script history before now was is merged =
      subst (λ (turns : List Turn). AppendsMerge (journals_in now) [] turns) (was.turns ∙ sym is.turns)
      (subst (λ (journals : List (List Entry)). AppendsMerge journals [] before.turns.items) (sym (same-journals script history before now was is)) merged)

  pub has-merged : (script : Script) (old before now : World D g) (run : HaveRunBeside script old before) → BaysTell before.bays.items → BaysTell now.bays.items →
      Shows script run.history now → HasMerged script run.history now
  has-merged script old before now run were told shows = record {
    told = told;
    ended = run.ended;
    timely = run.timely;
    transcripts = run.transcripts;
    play = subst (λ (journals : List (List Entry)). IsPlayOfMerge script journals run.transcripts run.history) (sym (same-journals script run.history before now run.shows shows)) (run.play were);
  }

  -- what is handed out
  pub merged-handed : (now : World D g) (outcome : Outcome D) → IsHandedOut now outcome → AppendsMerge (journals_in now) [] now.turns.items → AreMerged outcome
  merged-handed now outcome out merged =
      subst (λ (turns : List Turn). AppendsMerge (map (λ journal. journal.items) outcome.journals.items) [] turns) (sym (ap (λ (t : _). t.items) out.turns))
      (subst (λ (journals : List (List Entry)). AppendsMerge journals [] now.turns.items) (sym out.journals) merged)

  -- the play that is handed out
  played-run : Whole g → (script : Script) → IsScript script → total script ≤ 2 ^ 20 → (history : List Call) (now : World D g) (outcome : Outcome D) → Shows script history now →
      HasMerged script history now → outcome.results.items ≡ results script history → IsHandedOut now outcome → AppendsMerge (journals_in now) [] now.turns.items →
      IsMergedPlay script (handed_out g outcome) history
  played-run whole script is few history now outcome shows at read out merged =
      let callers = (requests_are_bounded script history (playable script is) shows.asked).callers in
      is-merged-play script is few history (shows.told at.told) at.ended at.timely callers whole now shows at.told outcome out read at.transcripts at.play merged

  -- a store has failed in the final reading
  pub unread-run : Whole g → (script : Script) → IsScript script → total script ≤ 2 ^ 20 → (stores : List D) (history : List Call) (before now : World D g) (bay : BayNo) (outcome : Outcome D) →
      IsOverStores script stores before → IsOverStores script stores now → Shows script history before → Shows script history now → outcome.status ≡ StoreFault bay → IsHandedOut now outcome →
      outcome.results.items ≡ results script history → HasFailed bay.0 before.bays.items now.bays.items → AppendsMerge (journals_in now) [] now.turns.items →
      (AllTell g script stores → HasMerged script history now) → IsRunStopped g script stores outcome
  unread-run whole script valid few stores history before now bay outcome was over shown shows is out read failed merged ends = record {
    stopped = subst (HasRunStopped g script stores outcome) (sym is) (
      opened script stores now outcome over out,
      (let here : bay.0 < length before.bays.items = failed.inside in omega (arith, here, was.count)),
      inr (record {
        failed = failed-reading script stores history before now bay outcome was over shown shows out failed;
        played = λ tells. (history, played-run whole script valid few history now outcome shows (ends tells) read out merged);
      }),
    );
    merged = merged-handed now outcome out merged;
  }

module _ {D : Type 0} (g : Ghosts D) where
  -- no world was made
  pub refused-run : (script : Script) (stores : List D) (fault : WorldFault D) (outcome : Outcome D) → IsRefusal g script.n script.rows stores fault → IsRefused script.n fault outcome →
      IsRunStopped g script stores outcome
  refused-run script stores (faults.TooFew back) outcome is out =
      let few : length back.items < script.n = omega (arith, is.0, ap length is.1) in
      record {
        stopped = subst (HasRunStopped g script stores outcome) (sym (out.2 few))
            (subst (HasStopped g script stores outcome) (out.2 few) (refused-stops g script stores (faults.TooFew back) outcome is out));
        merged = empty-merged outcome out.0;
      }
  refused-run script stores (faults.TooSmall bay back) outcome is out = record {
    stopped = subst (HasRunStopped g script stores outcome) (sym out.2)
        (subst (HasStopped g script stores outcome) out.2 (refused-stops g script stores (faults.TooSmall bay back) outcome is out));
    merged = empty-merged outcome out.0;
  }
  refused-run script stores (faults.NoMemory back) outcome is out =
      let stops : HasStopped g script stores outcome Memory = subst (HasStopped g script stores outcome) out.2 (refused-stops g script stores (faults.NoMemory back) outcome is out) in
      record { stopped = subst (HasRunStopped g script stores outcome) (sym out.2) (stops.0, stops.1); merged = empty-merged outcome out.0 }
  refused-run script stores (faults.Fault bay back) outcome is out =
      let halted = unopened g script stores bay back outcome is out in
      record { stopped = subst (HasRunStopped g script stores outcome) (sym out.2) (halted.0, is.2, inl halted.1); merged = empty-merged outcome out.0 }

  -- all stores come back, in order
  pub none-taken : (n : ℕ) (stores : List D) → AreBack g n stores stores
  none-taken n stores = record { count = refl; each = λ k d inside. record { tells_is = refl; size_is = refl; faults_least = omega arith }; others = refl }

  pub no-memory-run : (script : Script) (stores : List D) (outcome : Outcome D) → outcome.status ≡ Memory → AreBack g script.n stores outcome.stores.items → IsEmpty outcome → IsRunStopped g script stores outcome
  no-memory-run script stores outcome is back empty = record { stopped = subst (HasRunStopped g script stores outcome) (sym is) (back, empty); merged = empty-merged outcome empty }

module _ {K D : Type 0} (k : SinkGhosts K) (g : Ghosts D) where
  -- an end before the report
  pub stopped-run : (script : Script) (sink : K) (stores : List D) (outcome : Outcome D) (status : Status) → HasRunStopped g script stores outcome status → HasRun k g script sink sink stores outcome status
  stopped-run script sink stores outcome Done h = absurd h
  stopped-run script sink stores outcome WriteFault h = absurd h
  stopped-run script sink stores outcome Words h = absurd h
  stopped-run script sink stores outcome ReadFault h = absurd h
  stopped-run script sink stores outcome TooLong h = absurd h
  stopped-run script sink stores outcome (BadScript line kind) h = absurd h
  stopped-run script sink stores outcome (TooMuch weight) h = absurd h
  stopped-run script sink stores outcome (TooFewStores have need) h = (refl, h)
  stopped-run script sink stores outcome (TooSmall bay) h = (refl, h)
  stopped-run script sink stores outcome (StoreFault bay) h = (refl, h)
  stopped-run script sink stores outcome Memory h = (refl, h)

  -- the report was printed, or a part of it
  pub reported-run : Whole g → (script : Script) → IsScript script → length (all_jobs script) < 2 ^ 32 → total script ≤ 2 ^ 20 → (sink after : K) (stores : List D) (now : World D g) (outcome : Outcome D) →
      IsRunFinished g script stores now → IsHandedOut now outcome →
      HasPrinted k (report_text (report_in script now.gathered.results.items now.gathered.contents.items now.turns.items now.gathered.cells.items now.gathered.opened.items)) sink after outcome.status →
      HasRun k g script sink after stores outcome outcome.status
  reported-run whole script is jobs few sink after stores now outcome f out printed = go outcome.status printed
    where
      report : ReportOf
      report = report_in script now.gathered.results.items now.gathered.contents.items now.turns.items now.gathered.cells.items now.gathered.opened.items

      open-now : IsOpened g script stores outcome
      open-now = opened script stores now outcome (record { large = f.large; over = f.over; count = f.shows.bay_count; others = f.others }) out

      told-of : AllTell g script stores → IsMergedReport script (handed_out g outcome) report
      told-of tells =
          let end = f.ended tells in
          let at = end.0 in
          let callers = (requests_are_bounded script f.history (playable script is) f.shows.asked).callers in
          is-merged-report script is few f.history (f.shows.told at.told) at.ended at.timely callers whole now f.shows at.told outcome out
          (ap (λ (r : _). r.items) out.results ∙ end.1.results) at.transcripts at.play f.merged jobs end.1

      go : (status : Status) → HasPrinted k (report_text report) sink after status → HasRun k g script sink after stores outcome status
      go Done p = (open-now, p.0, λ tells. (report, told-of tells, p.1))
      go WriteFault p = (open-now, p.0, λ tells. (report, told-of tells, p.1))
      go Words p = absurd p
      go ReadFault p = absurd p
      go TooLong p = absurd p
      go (BadScript line kind) p = absurd p
      go (TooMuch weight) p = absurd p
      go (TooFewStores have need) p = absurd p
      go (TooSmall bay) p = absurd p
      go (StoreFault bay) p = absurd p
      go Memory p = absurd p

module _ {S K D : Type 0} (s : SourceGhosts S) (k : SinkGhosts K) (g : Ghosts D) where
  -- no script was read
  pub no-script-run : (source later : S) (sink : K) (stores : List D) (outcome : Outcome D) (status : Status) → outcome.status ≡ status → outcome.stores.items ≡ stores → IsEmpty outcome →
      HasNoScript s source later status → IsRun s k g source later sink sink stores outcome
  no-script-run source later sink stores outcome status is same empty none = record { called = subst (HasRunCalled s k g source later sink sink stores outcome) (sym is) (go status none); merged = empty-merged outcome empty }
    where
      idle : IsIdle sink sink stores outcome
      idle = record { silent = refl; untouched = record { stores_back = same; empty = empty } }

      go : (status : Status) → HasNoScript s source later status → HasRunCalled s k g source later sink sink stores outcome status
      go Done n = absurd n
      go WriteFault n = absurd n
      go Words n = absurd n
      go ReadFault n = (idle, n)
      go TooLong n = (idle, n)
      go (BadScript line kind) n = (idle, n)
      go (TooMuch weight) n = (idle, n.0, n.1, n.2, n.3)
      go (TooFewStores have need) n = absurd n
      go (TooSmall bay) n = absurd n
      go (StoreFault bay) n = absurd n
      go Memory n = inl idle

  -- the run of the script that was read
  pub run-call : (script : Script) (source later : S) (sink after : K) (stores : List D) (outcome : Outcome D) → IsReadFrom s source later script →
      HasRun k g script sink after stores outcome outcome.status → AreMerged outcome → IsRun s k g source later sink after stores outcome
  run-call script source later sink after stores outcome from p merged = record { called = go outcome.status p; merged = merged }
    where
      go : (status : Status) → HasRun k g script sink after stores outcome status → HasRunCalled s k g source later sink after stores outcome status
      go Done p = (script, from.read, from.few, p)
      go WriteFault p = (script, from.read, from.few, p)
      go Words p = (script, from.read, from.few, p)
      go ReadFault p = absurd p.1
      go TooLong p = absurd p.1
      go (BadScript line kind) p = absurd p.1
      go (TooMuch weight) p = absurd p.1
      go (TooFewStores have need) p = (script, from.read, from.few, p)
      go (TooSmall bay) p = (script, from.read, from.few, p)
      go (StoreFault bay) p = (script, from.read, from.few, p)
      go Memory p = inr (script, from.read, p)
