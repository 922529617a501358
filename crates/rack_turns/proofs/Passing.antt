-- A pass shows what it knows, after a call too.
use Rattle.std.proofs.Common.{◌≡◌, Bool, false, length-set, ℕ, zero, suc, ◌+◌, ◌-◌, ◌<◌, ◌≤◌, max, true, List, [], ◌∷◌, length, set, replicate, refl, sym, ap, ◌∙◌, arith}
use Rattle.std.specs.Prelude.{slice_index, slice_index_or}
use Rattle.atomic_table.specs.Seated.{TableId}
use Rattle.raid_base.specs.declared.messages.Entry.{Entry}
use Rattle.rack_turns.specs.declared.pass.Pass.{Pass}
use Rattle.rack_turns.specs.declared.view.Shadow.{Shadow}
use Rattle.rack_turns.specs.declared.view.Standing.{Standing}
use Rattle.rack_turns.specs.declared.view.View.{View}
use Rattle.rack_turns.specs.Views.{total, flag, call_of, greatest_clock, gone, giving, joined, with_call}
use Rattle.rack_turns.specs.Passes.{seen, IsPass}
use lib.ListN.{get_elem?}
use mathlib.Core.Option.{some}
use Rattle.rack_turns.proofs.Counts.{total-set}
use Rattle.rack_turns.proofs.Entries.{greatest-snoc}

-- the only view
pub only : (views : List View) (v : View) → views ≡ v ∷ [] → slice_index_or views 0 gone ≡ v
only views v is = ap (λ (l : List View). slice_index_or l 0 gone) is

pub no-zeros : (n k : ℕ) → slice_index (replicate n 0) k ≡ 0
no-zeros zero k = refl
no-zeros (suc n) zero = refl
no-zeros (suc n) (suc k) = no-zeros n k

-- after an answer
pub asked-is-pass : (table : TableId) (openings : List Shadow) (bay : ℕ) (entry : Entry) (old new : Pass) (w : View) → IsPass table openings old → new.badge.table_id ≡ table → new.badge.views ≡ w ∷ [] → w ≡ with_call bay entry (seen old)
    → new.is_first ≡ old.is_first → new.standing ≡ record old.standing { left = set old.standing.left bay (slice_index old.standing.left bay - 1) } → new.clock ≡ max old.clock entry.clock → 0 < slice_index old.standing.left bay → IsPass table openings new
asked-is-pass table openings bay entry old new w is table-is one view first standing clock left =
    let now : seen new ≡ with_call bay entry (seen old) = only new.badge.views w one ∙ view in
    record {
      table_is = table-is;
      one = one ∙ ap (λ (x : View). x ∷ []) (view ∙ sym now);
      opened = ap (λ (x : View). x.openings) now ∙ is.opened;
      role = ap (λ (x : View). x.role) now ∙ (is.role ∙ ap (λ b. Rattle.rack_turns.specs.Passes.role_of b) (sym first));
      standing = ap (λ (x : View). x.standing) now ∙ (ap (λ (x : Standing). let y : Standing = record x { left = set x.left bay (slice_index x.left bay - 1) } in y) is.standing ∙ sym standing);
      no_turn = ap (λ (x : View). x.turn) now;
      clock = clock ∙ (ap (λ (n : ℕ). max n entry.clock) is.clock ∙ (sym (greatest-snoc (seen old).asked (call_of bay entry)) ∙ ap (λ (x : View). greatest_clock x.asked) (sym now)));
      many = ap (λ (x : Standing). length x.given) standing ∙ is.many;
      few =
          let a : new.standing.out ≡ old.standing.out = ap (λ (x : Standing). x.out) standing in
          let b : total flag new.standing.given ≡ total flag old.standing.given = ap (λ (x : Standing). total flag x.given) standing in
          let d : old.standing.out ≤ total flag old.standing.given = is.few in
          omega (arith, a, b, d);
      first_asks_not = λ is-first. absurd (
          let none : old.standing.left ≡ replicate 16 0 = is.first_asks_not (sym first ∙ is-first) in
          let bad : slice_index old.standing.left bay ≡ 0 = ap (λ (l : List ℕ). slice_index l bay) none ∙ no-zeros 16 bay in
          omega (arith, bad, left));
    }

flags-below : (l : List Bool) → total flag l ≤ length l
flags-below [] = omega arith
flags-below (true ∷ l) = let rest : total flag l ≤ length l = flags-below l in omega (arith, rest)
flags-below (false ∷ l) = let rest : total flag l ≤ length l = flags-below l in omega (arith, rest)

at-free : (l : List Bool) (k : ℕ) → k < length l → slice_index_or l k false ≡ false → get_elem? l k ≡ some false
at-free [] k inner free = absurd (omega arith)
at-free (x ∷ l) zero inner free = ap (λ (b : Bool). some b) free
at-free (x ∷ l) (suc k) inner free = at-free l k (omega arith) free

-- one flag more is set
pub one-flag : (given : List Bool) (host : ℕ) → length given ≡ 16 → host < 16 → slice_index_or given host false ≡ false → total flag (set given host true) ≡ total flag given + 1
one-flag given host many below free =
    let a : total flag (set given host true) + flag false ≡ total flag given + flag true = total-set flag given host false true (at-free given host (omega (arith, many, below)) free) in
    omega (arith, a)

-- where a host was given no pass yet fewer than 16 are out
pub some-free : (given : List Bool) (host out : ℕ) → length given ≡ 16 → host < 16 → slice_index_or given host false ≡ false → out ≤ total flag given → out < 16
some-free given host out many below free few =
    let a : total flag (set given host true) ≡ total flag given + 1 = one-flag given host many below free in
    let b : total flag (set given host true) ≤ length (set given host true) = flags-below (set given host true) in
    let d : length (set given host true) ≡ length given = length-set given host true in
    omega (arith, a, b, d, many, few)

module _ (table : TableId) (openings : List Shadow) where
  -- the first pass after it gave one
  pub given-is-pass : (host quota : ℕ) (old new : Pass) (w : View) → IsPass table openings old → new.badge.table_id ≡ table → new.badge.views ≡ w ∷ [] → w ≡ giving host quota (seen old) → new.is_first ≡ old.is_first
      → new.standing ≡ record old.standing { room = old.standing.room - quota; out = old.standing.out + 1; given = set old.standing.given host true } → new.clock ≡ old.clock → host < 16 → slice_index_or old.standing.given host false ≡ false → IsPass table openings new
  given-is-pass host quota old new w is table-is one view first standing clock below free =
      let now : seen new ≡ giving host quota (seen old) = only new.badge.views w one ∙ view in
      record {
        table_is = table-is;
        one = one ∙ ap (λ (x : View). x ∷ []) (view ∙ sym now);
        opened = ap (λ (x : View). x.openings) now ∙ is.opened;
        role = ap (λ (x : View). x.role) now ∙ (is.role ∙ ap (λ b. Rattle.rack_turns.specs.Passes.role_of b) (sym first));
        standing = ap (λ (x : View). x.standing) now ∙ (ap (λ (x : Standing). let y : Standing = record x { room = x.room - quota; out = x.out + 1; given = set x.given host true } in y) is.standing ∙ sym standing);
        no_turn = ap (λ (x : View). x.turn) now ∙ is.no_turn;
        clock = clock ∙ (is.clock ∙ ap (λ (x : View). greatest_clock x.asked) (sym now));
        many = ap (λ (x : Standing). length x.given) standing ∙ (length-set old.standing.given host true ∙ is.many);
        few =
            let a : new.standing.out ≡ old.standing.out + 1 = ap (λ (x : Standing). x.out) standing in
            let b : total flag new.standing.given ≡ total flag old.standing.given + 1 = ap (λ (x : Standing). total flag x.given) standing ∙ one-flag old.standing.given host is.many below free in
            let d : old.standing.out ≤ total flag old.standing.given = is.few in
            omega (arith, a, b, d);
        first_asks_not = λ is-first. ap (λ (x : Standing). x.left) standing ∙ is.first_asks_not (sym first ∙ is-first);
      }

  -- the first pass after another was joined
  pub joined-is-pass : (other old new : Pass) (w : View) → IsPass table openings old → new.badge.table_id ≡ table → new.badge.views ≡ w ∷ [] → w ≡ joined (seen old) (seen other) → new.is_first ≡ old.is_first
      → new.standing ≡ record old.standing { out = old.standing.out - 1 } → new.clock ≡ old.clock → IsPass table openings new
  joined-is-pass other old new w is table-is one view first standing clock =
      let now : seen new ≡ joined (seen old) (seen other) = only new.badge.views w one ∙ view in
      record {
        table_is = table-is;
        one = one ∙ ap (λ (x : View). x ∷ []) (view ∙ sym now);
        opened = ap (λ (x : View). x.openings) now ∙ is.opened;
        role = ap (λ (x : View). x.role) now ∙ (is.role ∙ ap (λ b. Rattle.rack_turns.specs.Passes.role_of b) (sym first));
        standing = ap (λ (x : View). x.standing) now ∙ (ap (λ (x : Standing). let y : Standing = record x { out = x.out - 1 } in y) is.standing ∙ sym standing);
        no_turn = ap (λ (x : View). x.turn) now ∙ is.no_turn;
        clock = clock ∙ (is.clock ∙ ap (λ (x : View). greatest_clock x.asked) (sym now));
        many = ap (λ (x : Standing). length x.given) standing ∙ is.many;
        few =
            let a : new.standing.out ≡ old.standing.out - 1 = ap (λ (x : Standing). x.out) standing in
            let b : total flag new.standing.given ≡ total flag old.standing.given = ap (λ (x : Standing). total flag x.given) standing in
            let d : old.standing.out ≤ total flag old.standing.given = is.few in
            omega (arith, a, b, d);
        first_asks_not = λ is-first. ap (λ (x : Standing). x.left) standing ∙ is.first_asks_not (sym first ∙ is-first);
      }
