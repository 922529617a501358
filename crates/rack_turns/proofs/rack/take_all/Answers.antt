use Rattle.std.proofs.Common.{◌≡◌, ◌<◌, ◌≤◌, ◌+◌, ℕ, suc, Bool, false, List, [], ◌∷◌, ◌++◌, length, set, take, sym, ap, ◌∙◌, arith, get_or-set_other, get_or-set_same}
use Rattle.std.specs.Prelude.{slice_index_or}
use Rattle.std.specs.Vec.{vec_capacity}
use mathlib.Core.Logic.{dite}
use native.Mathlib.Decide.{ℕ_discrete}
use Rattle.std.specs.Mem.Slots.{slots_items, slots_filled, slots_len, slots_counts}
use Rattle.rack_turns.proofs.Closes.{take-more}
use Rattle.rack_turns.proofs.rack.take_all.Goals as goal

pub loop-i-preserved : goal.loop-i-preserved
loop-i-preserved g c =
    let inv = c.loop-i.invariant in
    let i : ℕ = c.loop-i.i in
    let slots = c.loop-i.closed.slots in
    let others = c.take.ensures.others in
    let filled : List Bool = slots_filled slots in
    let near : i < slots_len slots = (let a : i < c.slot_count.result = c.loop-i-test.true in let b : c.slot_count.result ≡ slots_len slots = c.slot_count.ensures in omega (arith, a, b)) in
    let wide : i < length filled = (let a : slots_len slots ≡ length filled = (slots_counts slots).1 in omega (arith, a, near)) in
    let long : slots_len c.take.new.self.slots ≡ slots_len slots = others.2 in
    let now : (k : ℕ) → slice_index_or (slots_filled c.take.new.self.slots) k false ≡ slice_index_or (set filled i false) k false = (λ k. ap (λ (f : List Bool). slice_index_or f k false) others.1) in
    let step : suc i ≡ i + 1 = omega arith in (
      omega (arith, near, long),
      (λ k low high. now k ∙ (get_or-set_other filled i k false false (λ e. omega (arith, low, e)) ∙ inv.1 k (omega (arith, low)) (omega (arith, high, long)))),
      (λ k low. dite (ℕ_discrete k i)
          (λ (same : k ≡ i). now k ∙ (ap (λ (n : ℕ). slice_index_or (set filled i false) n false) same ∙ get_or-set_same filled i false false wide))
          (λ other. now k ∙ (get_or-set_other filled i k false false other ∙ inv.2 k (omega (arith, low, other))))),
      c.push_reserved.ensures.items
          ∙ (ap (λ l. l ++ c.take.result ∷ []) inv.3
          ∙ (sym (take-more (slots_items slots) i c.take.result c.take.ensures.value)
          ∙ (ap (λ (n : ℕ). take n (slots_items slots)) step ∙ ap (λ l. take (i + 1) l) (sym others.0)))),
      (let a : slots_len slots ≤ vec_capacity c.loop-i.list = inv.4 in let b : vec_capacity c.push_reserved.new.self ≡ vec_capacity c.loop-i.list = c.push_reserved.ensures.capacity in omega (arith, a, b, long)),
      others.0 ∙ inv.5,
    )
