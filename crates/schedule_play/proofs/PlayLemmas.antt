-- A world's play is the simulator's, with the faults that it tells.
use Rattle.std.proofs.Common.{◌≡◌, ℕ, zero, suc, ◌+◌, ◌-◌, ◌^◌, ◌<◌, ◌≤◌, Bool, true, false, eqb, ◌&&◌, Option, Some, None, List, [], ◌∷◌, ◌++◌, length, take, get_or, map, cond, inl, inr, ◌⊎◌, refl, sym, ap, subst, ◌∙◌, arith, eq-eqb}
use Rattle.std.proofs.Math.Path.{fun_ext}
use Rattle.std.specs.Prelude.{find, not, nat_le, is_some, IsSome}
use Rattle.std.specs.List.{list_all, Contains, AllByRecursion}
use Rattle.std.proofs.lemmas.List.Elements.{recursion_from_All}
use Rattle.std.proofs.lemmas.Bool.Decides.{nat_tests}
use Rattle.raid_base.specs.declared.numbers.HostNo.{HostNo}
use Rattle.raid_base.specs.declared.messages.Call.{Call}
use Rattle.raid_base.specs.declared.messages.Turn.{Turn}
use Rattle.script_text.specs.Script.{Script, host_numbers}
use Rattle.histories.specs.Progress.{Sent, asks}
use Rattle.histories.specs.History.{Faults, faults_in, IsHistory, after_sent, after_turn, has_ended, progress_at}
use Rattle.histories.specs.Played.{Told}
use Rattle.histories.specs.Turns.{rounds, round_on, next_host, next_moment, last_moment, all_ended, or_first}
use Rattle.histories.specs.Asked.{AreAsked}
use Rattle.histories.specs.Bounds.{IsPlayable}
use Rattle.script_text.specs.Ranges.{Rise, IsScript}
use Rattle.host_engine.specs.declared.host.Host.{Host}
use Rattle.histories.proofs.bounds.Awake.{asks-on, asks-none}
use Rattle.schedule_play.proofs.WorldLemmas.{rise-least, default-free}
use Rattle.std.proofs.lemmas.Bool.{cases_lt}
use Rattle.std.specs.Vec.{vec_len}
use Rattle.histories.proofs.bounds.BoundsHistory.{requests_are_bounded}
use Rattle.histories.proofs.plays.ToldFaults.{history-told}
use Rattle.histories.proofs.plays.PlayedHistories.{play-more}
use Rattle.schedule_play.proofs.TurnLemmas.{length-turns}
use Rattle.block_store.specs.declared.store.Store.{Ghosts}
use Rattle.schedule_play.specs.declared.world.World.{World}
use Rattle.schedule_play.specs.World.{LeadsTo, TurnLeads, Turned, turn_of, IsReady, Shows, HostShows, all_requests}
use Rattle.schedule_play.specs.Plays.{HasPlayed, Played, Plays, sim_from, IsFound, waits, unless_ended}

-- a turn with these faults
turn-by : (script : Script) (faults : Faults) (o : Option Sent) (earlier later : List Call) → LeadsTo o earlier later → Told script faults later →
    Told script faults earlier × (after_sent script faults earlier o ≡ later)
turn-by script faults None earlier later leads told = (subst (Told script faults) leads told, sym leads)
turn-by script faults (Some sent) earlier later leads told =
    let last = subst (Told script faults) leads.1 told in
    (last.0, ap (λ (call : Call). call ∷ earlier) (sym last.1) ∙ sym leads.1)

pub turn-told : (script : Script) (faults : Faults) (turn : Turn) (earlier later : List Call) → TurnLeads script turn earlier later → Told script faults later →
    Told script faults earlier × (after_turn script faults earlier turn ≡ later)
turn-told script faults turn earlier later leads told = turn-by script faults (asks turn.host (progress_at script turn.host earlier) turn.moment) earlier later leads told

-- one more turn
pub plays-more : (script : Script) (first : List Call) (turns : List Turn) (turn : Turn) (earlier later : List Call) → Plays script first turns earlier → TurnLeads script turn earlier later →
    Plays script first (turns ++ turn ∷ []) later
plays-more script first turns turn earlier later plays leads faults told =
    let t = turn-told script faults turn earlier later leads told in
    play-more script faults first turns turn ∙ ap (λ (h : List Call). after_turn script faults h turn) (plays faults t.0) ∙ t.1

-- where the rounds stand after so many turns in rounds
pub record Reaches (script : Script) (first history : List Call) (from moment : ℕ) : Type 0 where
  pub taken : ℕ
  pub few : taken ≤ length history
  pub leads : (faults : Faults) → Told script faults history → (more : ℕ) → sim_from script faults first (taken + more) ≡ rounds script faults more history from moment

pub reaches-start : (script : Script) (first history : List Call) → Plays script first script.turns history → Reaches script first history 0 (last_moment script.turns)
reaches-start script first history plays = record {
  taken = 0;
  few = omega arith;
  leads = λ faults told more.
      let same : 0 + more ≡ more = omega arith in
      ap (sim_from script faults first) same ∙ ap (λ (h : List Call). rounds script faults more h 0 (last_moment script.turns)) (plays faults told);
}

-- the moment of the last turn
pub last-at : (turns : List Turn) (d : Turn) → 1 ≤ length turns → (get_or turns (length turns - 1) d).moment ≡ last_moment turns
last-at [] d some = absurd (omega arith)
last-at (turn ∷ []) d some = refl
last-at (turn ∷ (other ∷ turns)) d some =
    let one : length (turn ∷ (other ∷ turns)) - 1 ≡ suc (length (other ∷ turns) - 1) = omega arith in
    ap (λ (k : ℕ). (get_or (turn ∷ (other ∷ turns)) k d).moment) one ∙ last-at (other ∷ turns) d (omega arith)

-- a round turn of a host that has not ended
round-step : (script : Script) (faults : Faults) (more : ℕ) (history later : List Call) (from moment : ℕ) (o : Option HostNo) (host : HostNo) → o ≡ Some host →
    after_turn script faults history (record { host = host; moment = next_moment moment }) ≡ later →
    round_on (rounds script faults more) script faults history moment o ≡ rounds script faults more later (host.0 + 1) (next_moment moment)
round-step script faults more history later from moment o host e led =
    ap (round_on (rounds script faults more) script faults history moment) e
    ∙ ap (λ (h : List Call). rounds script faults more h (host.0 + 1) (next_moment moment)) led

leads-longer : (o : Option Sent) (earlier later : List Call) → IsSome o → LeadsTo o earlier later → length later ≡ length earlier + 1
leads-longer None earlier later some leads = absurd (cc some)
leads-longer (Some sent) earlier later some leads = let e = ap length leads.1 in omega (arith, e)

pub turn-longer : (script : Script) (earlier later : List Call) (host : HostNo) (moment : ℕ) → IsPlayable script → AreAsked script earlier → has_ended script earlier host ≡ false →
    TurnLeads script (record { host = host; moment = moment }) earlier later → length later ≡ length earlier + 1
turn-longer script earlier later host moment is asked on leads =
    leads-longer (asks host (progress_at script host earlier) moment) earlier later (asks-on script host earlier moment is asked on) leads

pub reaches-on : (script : Script) (first history later : List Call) (from moment : ℕ) (host : HostNo) → length later ≡ length history + 1 → Reaches script first history from moment →
    next_host script history from ≡ Some host → TurnLeads script (record { host = host; moment = next_moment moment }) history later →
    Reaches script first later (host.0 + 1) (next_moment moment)
reaches-on script first history later from moment host longer r next leads = record {
  taken = r.taken + 1;
  few = let f = r.few in omega (arith, f, longer);
  leads = λ faults told more.
      let t = turn-told script faults (record { host = host; moment = next_moment moment }) history later leads told in
      let same : r.taken + 1 + more ≡ r.taken + suc more = omega arith in
      ap (λ (k : ℕ). sim_from script faults first k) same ∙ r.leads faults t.0 (suc more)
      ∙ round-step script faults more history later from moment (next_host script history from) host next t.1;
}

-- no host is left
rounds-stay : (script : Script) (faults : Faults) (more : ℕ) (history : List Call) (from moment : ℕ) → next_host script history from ≡ None →
    rounds script faults more history from moment ≡ history
rounds-stay script faults zero history from moment e = refl
rounds-stay script faults (suc more) history from moment e = ap (round_on (rounds script faults more) script faults history moment) e

pub reaches-end : (script : Script) (first history : List Call) (from moment : ℕ) → Reaches script first history from moment → next_host script history from ≡ None → IsHistory script history →
    (most : ℕ) → length history ≤ most → history ≡ sim_from script (faults_in history) first most
reaches-end script first history from moment r e is most few =
    let f = r.few in
    let same : most ≡ r.taken + (most - r.taken) = omega (arith, f, few) in
    sym (ap (sim_from script (faults_in history) first) same ∙ r.leads (faults_in history) (history-told script history is) (most - r.taken)
    ∙ rounds-stay script (faults_in history) (most - r.taken) history from moment e)

-- Finding a host
or-none : (a b : Option HostNo) → or_first a b ≡ None → b ≡ None
or-none None b e = e
or-none (Some host) b e = absurd (cc)

none-left : (test : HostNo → Bool) (hosts : List HostNo) → find (λ (host : HostNo). not (test host)) hosts ≡ None → list_all test hosts ≡ true
none-left test [] e = refl
none-left test (host ∷ hosts) e = by (test host) refl e (none-left test hosts)
  where
    by : (b : Bool) → test host ≡ b → cond (not b) (Some host) (find (λ (h : HostNo). not (test h)) hosts) ≡ None →
        (find (λ (h : HostNo). not (test h)) hosts ≡ None → list_all test hosts ≡ true) → list_all test (host ∷ hosts) ≡ true
    by true is f rest = rw is (rest f)
    by false is f rest = absurd (cc)

pub none-ended : (script : Script) (history : List Call) (from : ℕ) → next_host script history from ≡ None → all_ended script history ≡ true
none-ended script history from e = none-left (has_ended script history) (host_numbers script) (or-none _ _ e)

found-is : (test : HostNo → Bool) (hosts : List HostNo) (host : HostNo) → find test hosts ≡ Some host → test host ≡ true
found-is test [] host e = absurd (cc)
found-is test (first ∷ hosts) host e = by (test first) refl e (found-is test hosts host)
  where
    by : (b : Bool) → test first ≡ b → cond b (Some first) (find test hosts) ≡ Some host → (find test hosts ≡ Some host → test host ≡ true) → test host ≡ true
    by true is f rest = let same : first ≡ host = cc in subst (λ (h : HostNo). test h ≡ true) same is
    by false is f rest = rest f

not-true : (a : Bool) → not a ≡ true → a ≡ false
not-true true e = absurd (cc)
not-true false e = refl

and-right : (a b : Bool) → (a && b) ≡ true → b ≡ true
and-right true b e = e
and-right false b e = absurd (cc)

next-by : (test : HostNo → Bool) (other : HostNo → Bool) (hosts : List HostNo) (host : HostNo) (o : Option HostNo) → find test hosts ≡ o → or_first o (find other hosts) ≡ Some host →
    ((h : HostNo) → test h ≡ true → other h ≡ true) → other host ≡ true
next-by test other hosts host None a e less = found-is other hosts host e
next-by test other hosts host (Some h) a e less = let same : h ≡ host = cc in less host (subst (λ (x : HostNo). test x ≡ true) same (found-is test hosts h a))

pub next-on : (script : Script) (history : List Call) (from : ℕ) (host : HostNo) → next_host script history from ≡ Some host → has_ended script history host ≡ false
next-on script history from host e =
    not-true _ (next-by (λ (h : HostNo). nat_le from h.0 && not (has_ended script history h)) (λ (h : HostNo). not (has_ended script history h)) (host_numbers script) host _ refl e
    (λ h t. and-right (nat_le from h.0) _ t))

-- a search through the hosts of a world
pub find-at : (test : HostNo → Bool) (hosts : List Host) (i : ℕ) (d : Host) → ((k : ℕ) (e : Host) → k < i → test (get_or hosts k e).no ≡ false) → i < length hosts →
    test (get_or hosts i d).no ≡ true → find test (map (λ (h : Host). h.no) hosts) ≡ Some (get_or hosts i d).no
find-at test [] i d before inside is = absurd (omega arith)
find-at test (host ∷ hosts) zero d before inside is = rw is refl
find-at test (host ∷ hosts) (suc i) d before inside is =
    let not_here : test host.no ≡ false = before 0 host (omega arith) in
    rw not_here (find-at test hosts i d (λ k e l. before (suc k) e (omega arith)) (omega arith) is)

pub find-none : (test : HostNo → Bool) (hosts : List Host) → ((k : ℕ) (e : Host) → k < length hosts → test (get_or hosts k e).no ≡ false) →
    find test (map (λ (h : Host). h.no) hosts) ≡ None
find-none test [] all = refl
find-none test (host ∷ hosts) all =
    let not_here : test host.no ≡ false = all 0 host (omega arith) in
    rw not_here (find-none test hosts (λ k e l. all (suc k) e (omega arith)))

-- the host of a turn, if it waits, is the first that waits from its number on
first-of : (test : HostNo → Bool) (from : ℕ) (host : HostNo) (hosts : List HostNo) (k : ℕ) → Rise from hosts → k < length hosts → get_or hosts k host ≡ host →
    ((h : HostNo) → h.0 < host.0 → test h ≡ false) → test host ≡ true → find test hosts ≡ Some host
first-of test from host [] k rise inside is below here = absurd (omega arith)
first-of test from host (first ∷ hosts) zero rise inside is below here = let t : test first ≡ true = subst (λ (h : HostNo). test h ≡ true) (sym is) here in rw t (ap (λ (h : HostNo). Some h) is)
first-of test from host (first ∷ hosts) (suc k) rise inside is below here =
    let least = rise-least (first.0 + 1) hosts k host rise.2 (omega arith) in
    let less : first.0 < host.0 = omega (arith, least, ap (λ (h : HostNo). h.0) is) in
    let not_here : test first ≡ false = below first less in
    rw not_here (first-of test (first.0 + 1) host hosts k rise.2 (omega arith) is below here)

pub turn-waits : (script : Script) (history : List Call) (host : HostNo) → IsScript script → Contains (host_numbers script) host → has_ended script history host ≡ false →
    find (waits script history host.0) (host_numbers script) ≡ Some host
turn-waits script history host is at on =
    let least : nat_le host.0 host.0 ≡ true = grind (arith, nat_tests) in
    first-of (waits script history host.0) 0 host (host_numbers script) at.0 is.hosts at.1 at.2
    (λ h less. let t : nat_le host.0 h.0 ≡ false = grind (arith, nat_tests) in rw t refl) (rw (least, on) refl)

-- whether a host waits
unless-some : (b : Bool) (host number : HostNo) → Some number ≡ unless_ended b host → (number ≡ host) × (b ≡ false)
unless-some true host number e = absurd (cc)
unless-some false host number e = (cc, refl)

unless-none : (b : Bool) (host : HostNo) → None ≡ unless_ended b host → b ≡ true
unless-none true host e = refl
unless-none false host e = absurd (cc)

pub waits-some : (script : Script) (history : List Call) (from : ℕ) (host number : HostNo) → Some number ≡ unless_ended (has_ended script history host) host → from ≤ number.0 →
    waits script history from host ≡ true
waits-some script history from host number e least =
    let u = unless-some (has_ended script history host) host number e in
    let same = ap (λ (h : HostNo). h.0) u.0 in
    let t : nat_le from host.0 ≡ true = grind (arith, nat_tests) in
    rw (t, u.1) refl

pub waits-below : (script : Script) (history : List Call) (from : ℕ) (host number : HostNo) → Some number ≡ unless_ended (has_ended script history host) host → number.0 < from →
    waits script history from host ≡ false
waits-below script history from host number e less =
    let u = unless-some (has_ended script history host) host number e in
    let same = ap (λ (h : HostNo). h.0) u.0 in
    let t : nat_le from host.0 ≡ false = grind (arith, nat_tests) in
    rw t refl

pub waits-none : (script : Script) (history : List Call) (from : ℕ) (host : HostNo) → None ≡ unless_ended (has_ended script history host) host → waits script history from host ≡ false
waits-none script history from host e = rw (unless-none (has_ended script history host) host e) (never (nat_le from host.0))
  where
    never : (b : Bool) → (b && false) ≡ false
    never true = refl
    never false = refl

-- an element
element : {X : Type 0} (xs : List X) (i : ℕ) → i < length xs → (x : X) × (x ≡ get_or xs i x)
element [] i inside = absurd (omega arith)
element (x ∷ xs) zero inside = (x, refl)
element (x ∷ xs) (suc i) inside = element xs i (omega arith)

module _ {D : Type 0} {g : Ghosts D} where
  -- a world that shows a history of this script plays this script
  pub same-script : (now : World D g) (r : IsReady now) (script : Script) (history : List Call) → Shows script history now → r.script ≡ script
  same-script now r script history s = let shows = r.shows in sym shows.plays ∙ s.plays

  pub is-playable : (now : World D g) → IsReady now → (script : Script) (history : List Call) → Shows script history now → IsPlayable script
  is-playable now r script history s = subst IsPlayable (same-script now r script history s) r.playable

  pub ready-again : (old new : World D g) → IsReady old → (script : Script) (history later : List Call) → Shows script history old → Shows script later new → IsReady new
  ready-again old new r script history later s t = record {
    script = script;
    history = later;
    playable = is-playable old r script history s;
    few = subst (λ (x : Script). all_requests x < 2 ^ 62) (same-script old r script history s) r.few;
    shows = t;
  }

  -- what a host that is read says
  pub host-says : (now : World D g) (items : List Host) (i : ℕ) (host : Host) (result : Option HostNo) → IsReady now → items ≡ now.hosts.items → i < length items → host ≡ get_or items i host →
      ((script : Script) (history : List Call) → IsPlayable script → AreAsked script history → HostShows script history host → result ≡ unless_ended (has_ended script history host.no) host.no) →
      (script : Script) (history : List Call) → Shows script history now → result ≡ unless_ended (has_ended script history host.no) host.no
  host-says now items i host result r same inside is says script history s =
      let at : host ≡ get_or now.hosts.items i host = is ∙ ap (λ (xs : List Host). get_or xs i host) same in
      let within : i < length now.hosts.items = omega (arith, inside, ap length same) in
      says script history (is-playable now r script history s) s.asked (subst (λ (h : Host). HostShows script history h) (sym at) (s.hosts i host within))

  pub found-here : (now : World D g) (items : List Host) (i from : ℕ) (host : Host) (number : HostNo) (result : Option HostNo) → items ≡ now.hosts.items → i < length items →
      host ≡ get_or items i host → result ≡ Some number → from ≤ number.0 → (script : Script) (history : List Call) → Shows script history now →
      result ≡ unless_ended (has_ended script history host.no) host.no →
      ((k : ℕ) (d : Host) → k < i → waits script history from (get_or now.hosts.items k d).no ≡ false) →
      IsFound now.hosts.items (find (waits script history from) (host_numbers script)) (Some (i, number))
  found-here now items i from host number result same inside is some least script history s says before =
      let at : host ≡ get_or now.hosts.items i host = is ∙ ap (λ (xs : List Host). get_or xs i host) same in
      let within : i < length now.hosts.items = omega (arith, inside, ap length same) in
      let told : Some number ≡ unless_ended (has_ended script history host.no) host.no = sym some ∙ says in
      let u = unless-some (has_ended script history host.no) host.no number told in
      let here : waits script history from (get_or now.hosts.items i host).no ≡ true =
      subst (λ (h : Host). waits script history from h.no ≡ true) at (waits-some script history from host.no number told least) in
      let found = find-at (waits script history from) now.hosts.items i host before within here in
      let numbered : (get_or now.hosts.items i host).no ≡ number = ap (λ (h : Host). h.no) (sym at) ∙ sym u.0 in (
        ap (find (waits script history from)) (sym s.numbers) ∙ found ∙ ap (λ (h : HostNo). Some h) numbered,
        within,
        λ other e. ap (λ (h : Host). h.no) (e ∙ default-free now.hosts.items i other host within) ∙ numbered,
      )

  pub none-here : (now : World D g) (items : List Host) (i from : ℕ) → items ≡ now.hosts.items → length items ≤ i → (script : Script) (history : List Call) → Shows script history now →
      ((k : ℕ) (d : Host) → k < i → waits script history from (get_or now.hosts.items k d).no ≡ false) → find (waits script history from) (host_numbers script) ≡ None
  none-here now items i from same past script history s before =
      ap (find (waits script history from)) (sym s.numbers)
      ∙ find-none (waits script history from) now.hosts.items (λ k d l. before k d (omega (arith, ap length same)))

  pub passed : (now : World D g) (items : List Host) (i from : ℕ) (host : Host) → items ≡ now.hosts.items → i < length items → host ≡ get_or items i host →
      (script : Script) (history : List Call) → ((k : ℕ) (d : Host) → k < i → waits script history from (get_or now.hosts.items k d).no ≡ false) →
      waits script history from host.no ≡ false → (k : ℕ) (d : Host) → k < i + 1 → waits script history from (get_or now.hosts.items k d).no ≡ false
  passed now items i from host same inside is script history before here k d less = go (cases_lt k i)
    where
      within : i < length now.hosts.items
      within = omega (arith, inside, ap length same)

      at : host ≡ get_or now.hosts.items i d
      at = is ∙ ap (λ (xs : List Host). get_or xs i host) same ∙ default-free now.hosts.items i host d within

      go : (k < i) ⊎ (i ≤ k) → waits script history from (get_or now.hosts.items k d).no ≡ false
      go (inl l) = before k d l
      go (inr l) =
          let e : i ≡ k = omega arith in
          subst (λ (n : ℕ). waits script history from (get_or now.hosts.items n d).no ≡ false) e (subst (λ (h : Host). waits script history from h.no ≡ false) at here)

  -- where a world stands after so many turns in rounds
  pub record HasReached (script : Script) (first : List Call) (now : World D g) (from moment : ℕ) : Type 0 where
    pub history : List Call
    pub shows : Shows script history now
    pub reaches : Reaches script first history from moment

  -- a turn of the host that was found
  pub turned-found : (old new : World D g) (place moment : ℕ) (number : HostNo) (wanted : Option HostNo) → IsFound old.hosts.items wanted (Some (place, number)) →
      ((host : Host) → host ≡ get_or old.hosts.items place host → (script : Script) (history : List Call) → Shows script history old → Turned script (turn_of host moment) history new) →
      (turn : Turn) → number ≡ turn.host → moment ≡ turn.moment → (script : Script) (history : List Call) → Shows script history old → Turned script turn history new
  turned-found old new place moment number wanted found turned turn same at script history s =
      let one = element old.hosts.items place found.1 in
      let t = turned one.0 one.1 script history s in
      let e : turn_of one.0 moment ≡ turn = ap (λ (h : HostNo). record { host = h; moment = moment }) (found.2 one.0 one.1 ∙ same) ∙ ap (λ (m : ℕ). record { host = turn.host; moment = m }) at in
      subst (λ (x : Turn). Turned script x history new) e t

  stays : (script : Script) (turn : Turn) (history : List Call) (now : World D g) (o : Option Sent) → asks turn.host (progress_at script turn.host history) turn.moment ≡ o → o ≡ None →
      Shows script history now → Turned script turn history now
  stays script turn history now o e none s = record { later = history; leads = subst (λ (x : Option Sent). LeadsTo x history history) (sym (e ∙ none)) refl; shows = s }

  pub turned-ended : (now : World D g) → IsReady now → (turn : Turn) → Contains (host_numbers now.script.now) turn.host → (script : Script) (history : List Call) → Shows script history now →
      (find (waits script history turn.host.0) (host_numbers script) ≡ Some turn.host → ⊥) → Turned script turn history now
  turned-ended now r turn among script history s apart = by (has_ended script history turn.host) refl
    where
      by : (b : Bool) → has_ended script history turn.host ≡ b → Turned script turn history now
      by true e = stays script turn history now _ refl (asks-none script turn.host history turn.moment e) s
      by false e = let is = is-playable now r script history s in absurd (apart (turn-waits script history turn.host is.ranges (subst (λ (x : Script). Contains (host_numbers x) turn.host) s.plays among) e))

module _ {D : Type 0} {g : Ghosts D} where
  -- whether a host asks is told by the turn of the host that was found
  pub asked-found : (old : World D g) (place moment : ℕ) (number host : HostNo) (wanted : Option HostNo) (result : Bool) → IsFound old.hosts.items wanted (Some (place, number)) →
      ((h : Host) → h ≡ get_or old.hosts.items place h → (script : Script) (history : List Call) → Shows script history old → result ≡ is_some (asks h.no (progress_at script h.no history) moment)) →
      number ≡ host → (script : Script) (history : List Call) → Shows script history old → result ≡ is_some (asks host (progress_at script host history) moment)
  asked-found old place moment number host wanted result found asked same script history s =
      let one = element old.hosts.items place found.1 in
      subst (λ (no : HostNo). result ≡ is_some (asks no (progress_at script no history) moment)) (found.2 one.0 one.1 ∙ same) (asked one.0 one.1 script history s)

  -- and one that was not found asks nothing
  pub asked-ended : (now : World D g) → IsReady now → (host : HostNo) (moment : ℕ) → Contains (host_numbers now.script.now) host → (script : Script) (history : List Call) → Shows script history now →
      (find (waits script history host.0) (host_numbers script) ≡ Some host → ⊥) → false ≡ is_some (asks host (progress_at script host history) moment)
  asked-ended now r host moment among script history s apart = by (has_ended script history host) refl
    where
      by : (b : Bool) → has_ended script history host ≡ b → false ≡ is_some (asks host (progress_at script host history) moment)
      by true e = sym (ap is_some (asks-none script host history moment e))
      by false e = let is = is-playable now r script history s in absurd (apart (turn-waits script history host is.ranges (subst (λ (x : Script). Contains (host_numbers x) host) s.plays among) e))

all-from : (test : HostNo → Bool) → (λ (host : HostNo). nat_le 0 host.0 && test host) ≡ test
all-from test = fun_ext (λ host. let t : nat_le 0 host.0 ≡ true = grind (arith, nat_tests) in rw t refl)

pub next-zero : (script : Script) (history : List Call) (from : ℕ) → find (waits script history from) (host_numbers script) ≡ None →
    next_host script history from ≡ find (waits script history 0) (host_numbers script)
next-zero script history from e =
    ap (λ (o : Option HostNo). or_first o (find (λ (host : HostNo). not (has_ended script history host)) (host_numbers script))) e
    ∙ sym (ap (λ (test : HostNo → Bool). find test (host_numbers script)) (all-from (λ (host : HostNo). not (has_ended script history host))))

pub found-other : (hosts : List Host) (wanted : Option HostNo) (place : ℕ) (number host : HostNo) → IsFound hosts wanted (Some (place, number)) → false ≡ eqb number.0 host.0 →
    wanted ≡ Some host → ⊥
found-other hosts wanted place number host found e same =
    let is : Some number ≡ Some host = sym found.0 ∙ same in
    let one : number ≡ host = cc in
    let t : eqb number.0 host.0 ≡ true = eq-eqb _ _ (ap (λ (h : HostNo). h.0) one) in
    cc

pub found-nobody : {wanted : Option HostNo} (host : HostNo) → wanted ≡ None → wanted ≡ Some host → ⊥
found-nobody host none same = cc

pub same-number : (a b : HostNo) → true ≡ eqb a.0 b.0 → a ≡ b
same-number a b e = let same : a.0 ≡ b.0 = grind (arith, nat_tests) in ap (λ (k : ℕ). record { 0 = k }) same

-- lists, by place
at-index : {X : Type 0} (P : X → Type 0) (xs : List X) (i : ℕ) (d : X) → AllByRecursion P xs → i < length xs → P (get_or xs i d)
at-index P [] i d all inside = absurd (omega arith)
at-index P (x ∷ xs) zero d all inside = all.0
at-index P (x ∷ xs) (suc i) d all inside = at-index P xs i d all.1 (omega arith)

take-next : {X : Type 0} (xs : List X) (i : ℕ) (d : X) → i < length xs → take (suc i) xs ≡ take i xs ++ get_or xs i d ∷ []
take-next [] i d inside = absurd (omega arith)
take-next (x ∷ xs) zero d inside = refl
take-next (x ∷ xs) (suc i) d inside = ap (λ (ys : List _). x ∷ ys) (take-next xs i d (omega arith))

take-past : {X : Type 0} (xs : List X) (i : ℕ) → length xs ≤ i → take i xs ≡ xs
take-past [] zero past = refl
take-past [] (suc i) past = refl
take-past (x ∷ xs) zero past = absurd (omega arith)
take-past (x ∷ xs) (suc i) past = ap (λ (ys : List _). x ∷ ys) (take-past xs i (omega arith))

module _ {D : Type 0} {g : Ghosts D} where
  -- a turn of the script
  pub turn-of-script : (now : World D g) → IsReady now → (items : List Turn) → items ≡ now.script.now.turns → (i : ℕ) (d : Turn) → i < length items →
      Contains (host_numbers now.script.now) (get_or items i d).host × ((get_or items i d).moment < 2 ^ 40)
  turn-of-script now r items same i d inside =
      let playable : IsPlayable now.script.now = let s = r.shows in subst IsPlayable (sym s.plays) r.playable in
      let is = playable.ranges in
      let all = recursion_from_All (λ (turn : Turn). Contains (host_numbers now.script.now) turn.host × (turn.moment < 2 ^ 40)) now.script.now.turns is.turns in
      at-index (λ (turn : Turn). Contains (host_numbers now.script.now) turn.host × (turn.moment < 2 ^ 40)) items i d
      (subst (AllByRecursion (λ (turn : Turn). Contains (host_numbers now.script.now) turn.host × (turn.moment < 2 ^ 40))) (sym same) all) inside

  pub turned-ready : (old new : World D g) → IsReady old → (turn : Turn) → ((script : Script) (history : List Call) → Shows script history old → Turned script turn history new) →
      IsReady new × (new.script.now ≡ old.script.now)
  turned-ready old new r turn turned =
      let shows = r.shows in
      let t = turned r.script r.history shows in
      let after = t.shows in
      (ready-again old new r r.script r.history t.later shows after, after.plays ∙ sym shows.plays)

  pub played-more : (old new : World D g) (script : Script) (first : List Call) (items : List Turn) (i : ℕ) (d : Turn) → items ≡ script.turns → i < length items →
      ((s : Script) (history : List Call) → Shows s history old → Turned s (get_or items i d) history new) → HasPlayed script first (take i script.turns) old →
      HasPlayed script first (take (i + 1) script.turns) new
  played-more old new script first items i d same inside turned h =
      let t = turned script h.history h.shows in
      let more : take (i + 1) script.turns ≡ take i script.turns ++ get_or items i d ∷ [] =
      let one : i + 1 ≡ suc i = omega arith in
      ap (λ (n : ℕ). take n script.turns) one
      ∙ take-next script.turns i d (omega (arith, inside, ap length same))
      ∙ ap (λ (xs : List Turn). take i script.turns ++ get_or xs i d ∷ []) (sym same) in
      record {
        history = t.later;
        shows = t.shows;
        plays = subst (λ (turns : List Turn). Plays script first turns t.later) (sym more) (plays-more script first (take i script.turns) (get_or items i d) h.history t.later h.plays t.leads);
      }

  pub played-all : (now : World D g) (script : Script) (first : List Call) (items : List Turn) (i : ℕ) → items ≡ script.turns → length items ≤ i → HasPlayed script first (take i script.turns) now →
      HasPlayed script first script.turns now
  played-all now script first items i same past h =
      subst (λ (turns : List Turn). HasPlayed script first turns now) (take-past script.turns i (omega (arith, past, ap length same))) h

  pub played-none : (now : World D g) (script : Script) (first : List Call) → Shows script first now → HasPlayed script first [] now
  played-none now script first s = record { history = first; shows = s; plays = λ faults told. refl }

  -- a turn in rounds
  pub record RoundTurn (script : Script) (history : List Call) (new : World D g) (from moment : ℕ) (number : HostNo) : Type 0 where
    pub later : List Call
    pub shows : Shows script later new
    pub next : next_host script history from ≡ Some number
    pub leads : TurnLeads script (record { host = number; moment = moment }) history later
    pub longer : length later ≡ length history + 1

  pub round-turn : (old new : World D g) → IsReady old → (place from moment : ℕ) (number : HostNo) (result : Option (ℕ × HostNo)) →
      ((script : Script) (history : List Call) → Shows script history old → IsFound old.hosts.items (next_host script history from) result) → result ≡ Some (place, number) →
      ((host : Host) → host ≡ get_or old.hosts.items place host → (script : Script) (history : List Call) → Shows script history old → Turned script (turn_of host moment) history new) →
      (script : Script) (history : List Call) → Shows script history old → RoundTurn script history new from moment number
  round-turn old new r place from moment number result finds is turned script history s =
      let found : IsFound old.hosts.items (next_host script history from) (Some (place, number)) =
      subst (λ (x : Option (ℕ × HostNo)). IsFound old.hosts.items (next_host script history from) x) is (finds script history s) in
      let turn : Turn = record { host = number; moment = moment } in
      let t : Turned script turn history new = turned-found old new place moment number (next_host script history from) found turned turn refl refl script history s in
      record {
        later = t.later;
        shows = t.shows;
        next = found.0;
        leads = t.leads;
        longer = turn-longer script history t.later number moment (is-playable old r script history s) s.asked (next-on script history from number found.0) t.leads;
      }

  pub round-smaller : (old new : World D g) (r : IsReady old) (from moment : ℕ) (number : HostNo) →
      ((script : Script) (history : List Call) → Shows script history old → RoundTurn script history new from moment number) →
      all_requests new.script.now - vec_len new.turns < all_requests old.script.now - vec_len old.turns
  round-smaller old new r from moment number turn =
      let s = r.shows in
      let t = turn r.script r.history s in
      let after = t.shows in
      let bounded = requests_are_bounded r.script t.later r.playable after.asked in
      let most : length t.later ≤ all_requests r.script = bounded.calls in
      omega (
        arith,
        new.turns.ok.0,
        old.turns.ok.0,
        ap length s.turns,
        length-turns r.history,
        ap length after.turns,
        length-turns t.later,
        t.longer,
        most,
        ap all_requests s.plays,
        ap all_requests after.plays,
      )

  pub round-ready : (old new : World D g) (r : IsReady old) (from moment : ℕ) (number : HostNo) →
      ((script : Script) (history : List Call) → Shows script history old → RoundTurn script history new from moment number) → IsReady new
  round-ready old new r from moment number turn =
      let t = turn r.script r.history r.shows in ready-again old new r r.script r.history t.later r.shows t.shows

  pub round-reaches : (old new : World D g) (from last moment : ℕ) (number : HostNo) → moment ≡ next_moment last → (script : Script) (first : List Call) →
      ((history : List Call) → Shows script history old → RoundTurn script history new from moment number) → HasReached script first old from last →
      HasReached script first new (number.0 + 1) moment
  round-reaches old new from last moment number at script first turn h =
      let t = turn h.history h.shows in
      record {
        history = t.later;
        shows = t.shows;
        reaches = subst (λ (m : ℕ). Reaches script first t.later (number.0 + 1) m) (sym at)
            (reaches-on script first h.history t.later from last number t.longer h.reaches t.next
            (subst (λ (m : ℕ). TurnLeads script (record { host = number; moment = m }) h.history t.later) at t.leads));
      }

  pub rounds-start : (now : World D g) (last : ℕ) (script : Script) (first : List Call) → HasPlayed script first script.turns now → last ≡ last_moment script.turns → HasReached script first now 0 last
  rounds-start now last script first h at = record {
    history = h.history;
    shows = h.shows;
    reaches = subst (λ (m : ℕ). Reaches script first h.history 0 m) (sym at) (reaches-start script first h.history h.plays);
  }

  pub rounds-end : (now : World D g) → IsReady now → (from moment : ℕ) (script : Script) (first : List Call) → ((history : List Call) → Shows script history now → next_host script history from ≡ None) →
      HasReached script first now from moment → Played script first now
  rounds-end now r from moment script first none h =
      let s = h.shows in
      let bounded = requests_are_bounded script h.history (is-playable now r script h.history s) s.asked in
      let most : length h.history ≤ all_requests script = bounded.calls in
      let e = none h.history s in
      record {
        history = h.history;
        shows = s;
        ended = none-ended script h.history from e;
        simulated = λ tell m enough. reaches-end script first h.history from moment h.reaches e (s.told tell) m (omega (arith, most, enough));
      }

pub found-nothing : (hosts : List Host) (wanted : Option HostNo) (result : Option (ℕ × HostNo)) → IsFound hosts wanted result → ((x : ℕ × HostNo) → result ≡ Some x → ⊥) → wanted ≡ None
found-nothing hosts wanted None found none = found
found-nothing hosts wanted (Some x) found none = absurd (none x refl)

pub found-inside : (hosts : List Host) (wanted : Option HostNo) (result : Option (ℕ × HostNo)) (place : ℕ) (number : HostNo) → IsFound hosts wanted result → result ≡ Some (place, number) →
    place < length hosts
found-inside hosts wanted result place number found is = (subst (λ (x : Option (ℕ × HostNo)). IsFound hosts wanted x) is found).1

pub next-small : (moment : ℕ) → next_moment moment < 2 ^ 40
next-small moment = omega arith

moments-small : (turns : List Turn) → AllByRecursion (λ (turn : Turn). turn.moment < 2 ^ 40) turns → last_moment turns < 2 ^ 40
moments-small [] all = omega arith
moments-small (turn ∷ []) all = all.0
moments-small (turn ∷ (other ∷ turns)) all = moments-small (other ∷ turns) all.1

turn-moments : (script : Script) (turns : List Turn) → AllByRecursion (λ (turn : Turn). Contains (host_numbers script) turn.host × (turn.moment < 2 ^ 40)) turns →
    AllByRecursion (λ (turn : Turn). turn.moment < 2 ^ 40) turns
turn-moments script [] all = tt
turn-moments script (turn ∷ turns) all = (all.0.1, turn-moments script turns all.1)

pub last-small : {D : Type 0} {g : Ghosts D} (now : World D g) → IsReady now → last_moment now.script.now.turns < 2 ^ 40
last-small now r =
    let playable : IsPlayable now.script.now = let s = r.shows in subst IsPlayable (sym s.plays) r.playable in
    let is = playable.ranges in
    moments-small now.script.now.turns (turn-moments now.script.now now.script.now.turns
    (recursion_from_All (λ (turn : Turn). Contains (host_numbers now.script.now) turn.host × (turn.moment < 2 ^ 40)) now.script.now.turns is.turns))
