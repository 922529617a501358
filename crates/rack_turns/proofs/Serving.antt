-- A bay in hand answers, and what that makes of a turn.
use Rattle.std.proofs.Common.{◌≡◌, ℕ, ◌+◌, ◌<◌, ◌≤◌, max, List, [], ◌∷◌, ◌++◌, get_or, refl, sym, ap, ◌∙◌, subst, arith, Some}
use Rattle.std.specs.Prelude.{slice_index}
use mathlib.Core.Option.{some}
use lib.ListN.{get_elem?}
use Rattle.atomic_table.specs.Table.{Me}
use Rattle.raid_base.specs.declared.messages.Answer.{Answer}
use Rattle.raid_base.specs.declared.messages.Ask.{Ask}
use Rattle.raid_base.specs.declared.messages.Entry.{Entry}
use Rattle.slot_rules.specs.Replay.{next_clock}
use Rattle.slot_rules.specs.Tables.{Table}
use Rattle.bay_device.specs.Handling.{IsHandledSomehow}
use Rattle.rack_turns.specs.declared.view.Shadow.{Shadow}
use Rattle.rack_turns.specs.declared.view.View.{View}
use Rattle.rack_turns.specs.Views.{held, last_clock, greatest_clock}
use Rattle.rack_turns.specs.Shadows.{ReplaysSomehow, IsLater}
use Rattle.rack_turns.specs.Plays.{HasBegun}
use Rattle.rack_turns.specs.Passes.{IsReady, HoldsBay, HasServed, MayEnd, entry_by}

-- a run by the slot rule over blocks that aren't told, and one step more
pub somehow-snoc : (a b c : Table) (start clock : ℕ) (es : List Entry) (e : Entry) → ReplaysSomehow a start es b clock → IsHandledSomehow e.ask e.reply b c → e.clock ≡ next_clock clock e.ask → ReplaysSomehow a start (es ++ e ∷ []) c e.clock
somehow-snoc a b c start clock [] e run step ticks = (
  c,
  subst (λ (x : Table). IsHandledSomehow e.ask e.reply x c) (sym run.0) step,
  ticks ∙ ap (λ (n : ℕ). next_clock n e.ask) (sym run.1),
  (refl, refl),
)
somehow-snoc a b c start clock (x ∷ es) e run step ticks = (run.0, run.1, run.2, somehow-snoc run.0 b c x.clock clock es e run.3 step ticks)

module _ {S : Type 0} (now : S → Shadow) (bay : ℕ) where
  -- after a turn began and the bay answered it may end
  pub may-end : (ask : Ask) (answer : Answer) (m m' m'' : Me S View) (opening : Shadow) → IsReady ask.host.0 m.0 → m.1 ≡ [] → 0 < slice_index m.0.standing.left bay → ask.clock ≤ greatest_clock m.0.asked
      → get_elem? m.0.openings bay ≡ some opening → HasBegun now bay m m' → m''.0 ≡ m'.0
      → HoldsBay bay m' (λ before. HoldsBay bay m'' (λ after. HasServed ask answer (now before) (now after))) → MayEnd now bay m''
  may-end ask answer m m' m'' opening ready empty left clock at-o begun same served =
      let before : S = served.0 in
      let after : S = served.2.0 in
      let serves : HasServed ask answer (now before) (now after) = served.2.2 in
      let is : begun.value ≡ before = ap (λ (l : List (ℕ × S)). (get_or l 0 (0, begun.value)).1) (sym begun.hand ∙ served.1) in
      let view : m''.0 ≡ record m.0 { turn = Some (held bay (now begun.value).journal) } = same ∙ begun.view in
      let late : IsLater opening (now before) = subst (λ (x : S). IsLater opening (now x)) is (begun.later opening at-o) in
      record {
        value = after;
        journal = (now before).journal;
        entry = entry_by ask answer;
        opening = opening;
        guest = ap (λ (x : View). x.role) view ∙ ready.guest;
        turn = ap (λ (x : View). x.turn) view ∙ ap (λ (x : S). Some (held bay (now x).journal)) is;
        hand = served.2.1;
        gained = serves.journal;
        host = sym (ap (λ (x : View). x.standing.host.0) view ∙ ready.host_is);
        clock =
            let a : answer.clock ≡ max (now before).clock ask.clock + 1 = serves.clock in
            let b : (now before).clock ≡ last_clock (now before).journal = late.clock in
            let c : greatest_clock m''.0.asked ≡ greatest_clock m.0.asked = ap (λ (x : View). greatest_clock x.asked) view in
            omega (arith, a, b, c, clock);
        opening_is = ap (λ (x : View). get_elem? x.openings bay) view ∙ at-o;
        later = serves.later opening late;
        left = let c : slice_index m''.0.standing.left bay ≡ slice_index m.0.standing.left bay = ap (λ (x : View). slice_index x.standing.left bay) view in omega (arith, c, left);
      }
