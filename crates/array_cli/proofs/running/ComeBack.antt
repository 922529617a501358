-- The bays of a rack before hosts have run over them, and as they come back.
use Rattle.std.proofs.Common.{◌≡◌, ◌∙◌, ℕ, suc, ◌*◌, ◌^◌, ◌<◌, ◌≤◌, ◌==◌, if◌then◌else◌, Bool, IsTrue, List, [], ◌∷◌, length, map, get_or, sum_by, refl, sym, ap, subst, arith}
use Rattle.std.specs.List.{All, AllByRecursion}
use Rattle.std.proofs.lemmas.List.Elements.{All-nil, All-cons}
use Rattle.std.proofs.lemmas.List.Sums.{sum_by-le}
use Rattle.std.proofs.lemmas.List.{get_or-map, length-map}
use Rattle.raid_base.specs.declared.numbers.HostNo.{HostNo}
use Rattle.raid_base.specs.declared.messages.Call.{Call}
use Rattle.raid_base.specs.declared.messages.Entry.{Entry}
use Rattle.block_store.specs.declared.store.Store.{Ghosts}
use Rattle.slot_rules.specs.Slots.{first_bay}
use Rattle.slot_rules.specs.Slots.{Bay as SlotBay}
use Rattle.slot_rules.specs.Tables.{Table, with_blocks}
use Rattle.slot_rules.specs.Replay.{Replays}
use Rattle.bay_device.specs.declared.bay.Bay.{Bay}
use Rattle.bay_device.specs.Handling.{count_faults}
use Rattle.raid_base.specs.Counts.{RisesBy}
use Rattle.stripe_layout.specs.Placement.{bay}
use Rattle.script_text.specs.Script.{Script}
use Rattle.script_text.specs.Ranges.{IsScript}
use Rattle.script_text.specs.Weights.{total}
use Rattle.histories.specs.Quotas.{all_quotas}
use Rattle.histories.proofs.bounds.Quotas.{totals_cover_requests}
use Rattle.host_engine.specs.declared.host.Host.{Host}
use Rattle.clock_merge.specs.Merge.{ClocksRise, Ticks}
use Rattle.clock_merge.specs.Heads.{AreShort}
use Rattle.clock_merge.specs.Tied.{AreTied, entries_of, calls_at}
use Rattle.clock_merge.proofs.JournalsRise.{ticks_rise}
use Rattle.rack_turns.specs.declared.rack.Rack.{Rack}
use Rattle.rack_turns.specs.declared.view.Shadow.{Shadow}
use Rattle.rack_turns.specs.Passes.{openings_of}
use Rattle.rack_turns.specs.Shadows.{shadow, shadows, ReplaysSomehow}
use Rattle.rack_turns.specs.Views.{entries_of as entries_by, calls_at as calls_by_bay}
use Rattle.host_workers.specs.Playing.{HavePlayed, IsTiedBay}
use Rattle.schedule_play.specs.Making.{AreMade, IsMade}
use Rattle.schedule_play.specs.World.{AllTell, AreOver, IsOver}
use Rattle.array_cli.proofs.CallLemmas.{playable, a-bay}
use Rattle.array_cli.proofs.running.AskedHosts.{calls_by}

-- clocks tick also over blocks that aren't told
somehow-ticks : (slots later : Table) (clock end : ℕ) (entries : List Entry) → ReplaysSomehow slots clock entries later end → Ticks clock entries end
somehow-ticks slots later clock end [] replays = replays.1
somehow-ticks slots later clock end (entry ∷ entries) replays = (replays.2, somehow-ticks replays.0 later entry.clock end entries replays.3)

-- what holds at each place holds of all
from-each : (P : List Entry → Type 0) (journals : List (List Entry)) → ((k : ℕ) → k < length journals → P (get_or journals k [])) → AllByRecursion P journals
from-each P [] each = tt
from-each P (journal ∷ journals) each = (each 0 (omega arith), from-each P journals (λ k inside. each (suc k) (omega (arith, inside))))

all-most : (most : ℕ) (journals : List (List Entry)) → ((k : ℕ) → k < length journals → length (get_or journals k []) ≤ most) →
    All (λ (entries : List Entry). length entries ≤ most) journals
all-most most [] each = All-nil (λ (entries : List Entry). length entries ≤ most)
all-most most (journal ∷ journals) each =
    All-cons (λ (entries : List Entry). length entries ≤ most) journal journals (each 0 (omega arith)) (all-most most journals (λ k inside. each (suc k) (omega (arith, inside))))

-- entries and calls by numbers
same-entries : (host : HostNo) (entries : List Entry) → entries_of host entries ≡ entries_by host.0 entries
same-entries host [] = refl
same-entries host (entry ∷ entries) =
    ap (λ (rest : List Entry). if entry.ask.host.0 == host.0 then entry ∷ rest else rest) (same-entries host entries)

same-calls : (k : ℕ) (calls : List Call) → calls_by_bay k calls ≡ calls_at (bay k) calls
same-calls k [] = refl
same-calls k (call ∷ calls) =
    ap (λ (rest : List Entry). if call.bay.0 == k then record { ask = call.ask; clock = call.answer.clock; reply = call.answer.reply } ∷ rest else rest) (same-calls k calls)

module _ {D : Type 0} {g : Ghosts D} where
  lists-short : (bays : List (Bay D g)) → AreShort (map (λ (b : Bay D g). b.journal.items) bays)
  lists-short [] = tt
  lists-short (b ∷ bays) = (let few : length b.journal.items < 2 ^ 63 = omega (arith, b.journal.ok.0, b.journal.ok.1, b.journal.small) in few, lists-short bays)

module _ {D : Type 0} {g : Ghosts D} (script : Script) (is : IsScript script) (rack : Rack D g) (stores : List D) (before after : List (Bay D g)) (hosts : List Host)
    (opened : openings_of rack ≡ shadows before) (count : length before ≡ script.n) (made : AreMade script (all_quotas script) stores before) (played : HavePlayed script rack hosts after) where
  abbrev pub journals : List (List Entry)
  journals = map (λ (b : Bay D g). b.journal.items) after

  openings-count : length (openings_of rack) ≡ script.n
  openings-count = ap (λ (bays : List Shadow). length bays) opened ∙ length-map before shadow ∙ count

  pub bay-count : length after ≡ script.n
  bay-count = sym (length-map after shadow) ∙ played.bays_are.many ∙ openings-count

  pub journal-count : length journals ≡ script.n
  journal-count = length-map after (λ (b : Bay D g). b.journal.items) ∙ bay-count

  -- what has become of each bay
  pub come-back : (k : ℕ) (d : Bay D g) → k < script.n → IsTiedBay (shadow (get_or before k d)) hosts k (shadow (get_or after k d))
  come-back k d inside =
      let was : get_or (openings_of rack) k (shadow d) ≡ shadow (get_or before k d) =
      ap (λ (bays : List Shadow). get_or bays k (shadow d)) opened ∙ get_or-map shadow before k d (shadow d) (omega (arith, inside, count)) in
      let now : get_or (shadows after) k (shadow d) ≡ shadow (get_or after k d) = get_or-map shadow after k d (shadow d) (omega (arith, inside, bay-count)) in
      subst (λ (opening : Shadow). IsTiedBay opening hosts k (shadow (get_or after k d))) was
      (subst (λ (later : Shadow). IsTiedBay (get_or (openings_of rack) k (shadow d)) hosts k later) now
      (played.bays_are.each k (shadow d) (omega (arith, inside, openings-count))))

  opening-of : (k : ℕ) (d : Bay D g) → k < script.n → IsMade script (all_quotas script) (get_or stores k d.store) (get_or before k d)
  opening-of k d inside = made k d.store d (omega (arith, inside, count))

  pub journal-of : (k : ℕ) (d : Bay D g) → k < script.n → get_or journals k [] ≡ (get_or after k d).journal.items
  journal-of k d inside = get_or-map (λ (b : Bay D g). b.journal.items) after k d [] (omega (arith, inside, bay-count))

  some-bay : Bay D g
  some-bay = a-bay after (omega (arith, bay-count, is.devices_least))

  pub ticks-at : (k : ℕ) (d : Bay D g) → k < script.n → Ticks 0 (get_or journals k []) (get_or after k d).clock
  ticks-at k d inside =
      let at = come-back k d inside in
      let start : (get_or before k d).clock ≡ 0 = (opening-of k d inside).clock in
      let told : Ticks (get_or before k d).clock (get_or after k d).journal.items (get_or after k d).clock =
      somehow-ticks (get_or before k d).slots (get_or after k d).slots (get_or before k d).clock (get_or after k d).clock (get_or after k d).journal.items at.later.somehow in
      subst (λ (entries : List Entry). Ticks 0 entries (get_or after k d).clock) (sym (journal-of k d inside))
      (subst (λ (clock : ℕ). Ticks clock (get_or after k d).journal.items (get_or after k d).clock) start told)

  -- What a merge asks of the journals
  pub rising : AllByRecursion ClocksRise journals
  rising = from-each ClocksRise journals
      (λ k inside. ticks_rise 0 (get_or after k some-bay).clock (get_or journals k []) (ticks-at k some-bay (omega (arith, inside, journal-count))))

  pub short : AreShort journals
  short = lists-short after

  cap-is : (k : ℕ) (d : Bay D g) → k < script.n → (get_or after k d).cap ≡ all_quotas script
  cap-is k d inside = (come-back k d inside).later.cap ∙ (opening-of k d inside).cap_is

  pub few-entries : (k : ℕ) → k < script.n → length (get_or journals k []) ≤ all_quotas script
  few-entries k inside =
      let b : Bay D g = get_or after k some-bay in
      let same : length (get_or journals k []) ≡ length b.journal.items = ap (λ (entries : List Entry). length entries) (journal-of k some-bay inside) in
      omega (arith, same, b.held, b.journal.ok.0, cap-is k some-bay inside)

  pub room-for-all : sum_by (λ (entries : List Entry). length entries) journals ≤ total script
  room-for-all =
      let most = sum_by-le (λ (entries : List Entry). length entries) (all_quotas script) journals
      (all-most (all_quotas script) journals (λ k inside. few-entries k (omega (arith, inside, journal-count)))) in
      let all : script.n * all_quotas script ≡ total script = (totals_cover_requests script (playable script is)).quotas in
      let same : length journals * all_quotas script ≡ script.n * all_quotas script = ap (λ (n : ℕ). n * all_quotas script) journal-count in
      omega (arith, most, all, same)

  -- each bay's journal has for each host what that has asked there
  pub tied : AreTied journals (calls_by hosts)
  tied k inside host =
      let here : k < script.n = omega (arith, inside, journal-count) in
      same-entries host (get_or journals k []) ∙ ap (λ (entries : List Entry). entries_by host.0 entries) (journal-of k some-bay here)
      ∙ (come-back k some-bay here).entries host.0 ∙ same-calls k (calls_by hosts host)

  -- over a store that tells its content the journal replays from the first bay on
  pub replays-at : (k : ℕ) (d : Bay D g) → k < script.n → IsTrue (g.tells (get_or after k d).store) →
      Replays (first_bay script.mode script.rows script.patience) 0 (get_or journals k []) (with_blocks (get_or after k d).slots (g.content (get_or after k d).store)) (get_or after k d).clock
  replays-at k d inside tells =
      let at = come-back k d inside in
      let opening = opening-of k d inside in
      let opening-tells : IsTrue (g.tells (get_or before k d).store) = subst (λ (b : Bool). IsTrue b) at.later.tells tells in
      let store-tells : IsTrue (g.tells (get_or stores k d.store)) = subst (λ (b : Bool). IsTrue b) opening.tells opening-tells in
      let first : with_blocks (get_or before k d).slots (g.content (get_or before k d).store) ≡ first_bay script.mode script.rows script.patience = opening.told store-tells in
      let told = at.later.replays opening-tells in
      let later : SlotBay = with_blocks (get_or after k d).slots (g.content (get_or after k d).store) in
      subst (λ (entries : List Entry). Replays (first_bay script.mode script.rows script.patience) 0 entries later (get_or after k d).clock) (sym (journal-of k d inside))
      (subst (λ (clock : ℕ). Replays (first_bay script.mode script.rows script.patience) clock (get_or after k d).journal.items later (get_or after k d).clock) opening.clock
      (subst (λ (b : SlotBay). Replays b (get_or before k d).clock (get_or after k d).journal.items later (get_or after k d).clock) first told))

  pub rows-at : (k : ℕ) (d : Bay D g) → k < script.n → length (get_or after k d).slots.slots ≡ script.rows
  rows-at k d inside = (come-back k d inside).later.rows ∙ (opening-of k d inside).rows

  pub caps-at : (k : ℕ) (d : Bay D g) → k < script.n → all_quotas script ≤ (get_or after k d).cap
  caps-at k d inside = omega (arith, cap-is k d inside)

  -- the stores: each tells as it did, and has failed as often as its journal says
  pub tells-still : AllTell before → AllTell after
  tells-still all k d inside =
      let here : k < script.n = omega (arith, inside, bay-count) in
      subst (λ (b : Bool). IsTrue b) (sym (come-back k d here).later.tells) (all k d (omega (arith, here, count)))

  pub over-still : (handed : List D) → AreOver handed before → AreOver handed after
  over-still handed over k s d inside =
      let here : k < script.n = omega (arith, inside, bay-count) in
      let at = come-back k d here in
      let was : IsOver (get_or handed k s) (get_or before k d) = over k s d (omega (arith, here, count)) in
      let nothing : count_faults (get_or before k d).journal.items ≡ 0 = ap count_faults (opening-of k d here).entries in
      let first : RisesBy (count_faults (get_or before k d).journal.items) (g.faults (get_or handed k s)) (g.faults (get_or before k d).store) = was.faults in
      let rest : RisesBy (count_faults (get_or after k d).journal.items) (g.faults (get_or before k d).store) (g.faults (get_or after k d).store) = at.later.faults in
      record {
        tells = at.later.tells ∙ was.tells;
        size = at.later.size ∙ was.size;
        faults = grind (arith, nothing, first, rest);
      }
