use Rattle.std.proofs.Common.{◌≡◌, ◌≤◌, ◌<◌, ◌+◌, ◌-◌, ◌^◌, ◌++◌, ◌∷◌, List, [], get_or, set, length, sum_by, refl, sym, ap, subst, ◌∙◌, arith, rules, length-append, length-set}
use Rattle.raid_base.specs.declared.messages.Entry.{Entry}
use Rattle.raid_base.specs.declared.messages.Turn.{Turn}
use Rattle.clock_merge.specs.Heads.{entries_in}
use Rattle.clock_merge.proofs.LinesSoFar.{Merging, zeros, merging-start, round-next, round-room, round-fits, round-end}
use Rattle.clock_merge.proofs.merging.merge_slices.Goals as goal

pub lines-init : goal.lines-init
lines-init c = record { merging = merging-start (entries_in c.args.journals.now) _ c.args.turns.now.items (zeros 16); room = refl; long = refl }

pub push-requires : goal.push-requires
push-requires c =
    let m = c.lines.invariant.merging in
    let more = round-room c.args.journals.now c.lines.places c.args.turns.now.items c.lines.turns.items m c.in-Some.bay c.in-Some.entry c.in-Some.ensures c.requires.few c.lines.invariant.long in
    let room : sum_by (λ (es : List Entry). length es) (entries_in c.args.journals.now) + length c.args.turns.now.items ≤ c.args.turns.now.room = c.requires.room in
    let same : c.lines.turns.room ≡ c.args.turns.now.room = c.lines.invariant.room in
    omega (arith, more, room, same)

pub overflow_add-places : goal.overflow_add-places
overflow_add-places c =
    let m = c.lines.invariant.merging in
    let fits : get_or c.lines.places c.in-Some.bay 0 + 1 < 2 ^ 64 =
    round-fits c.args.journals.now c.lines.places c.args.turns.now.items c.lines.turns.items m c.in-Some.bay c.in-Some.entry c.in-Some.ensures c.requires.few c.lines.invariant.long
    c.requires.short in
    omega (arith, fits)

pub lines-smaller : goal.lines-smaller
lines-smaller c =
    let m = c.lines.invariant.merging in
    let more = round-room c.args.journals.now c.lines.places c.args.turns.now.items c.lines.turns.items m c.in-Some.bay c.in-Some.entry c.in-Some.ensures c.requires.few c.lines.invariant.long in
    let room : sum_by (λ (es : List Entry). length es) (entries_in c.args.journals.now) + length c.args.turns.now.items ≤ c.args.turns.now.room = c.requires.room in
    let same : c.lines.turns.room ≡ c.args.turns.now.room = c.lines.invariant.room in
    let kept : c.push.new.self.room ≡ c.lines.turns.room = c.push.ensures.room in
    let longer : length c.push.new.self.items ≡ length c.lines.turns.items + 1 =
    ap (λ (turns : List Turn). length turns) c.push.ensures.items ∙ length-append c.lines.turns.items (c.turn_of.result ∷ []) in
    let less : c.push.new.self.room - length c.push.new.self.items < c.lines.turns.room - length c.lines.turns.items = omega (arith, more, room, same, kept, longer) in
    less

pub lines-preserved : goal.lines-preserved
lines-preserved c =
    let m = c.lines.invariant.merging in
    let next = round-next c.args.journals.now c.lines.places c.args.turns.now.items c.lines.turns.items m c.in-Some.bay c.in-Some.entry c.in-Some.ensures c.requires.few c.lines.invariant.long
    c.requires.rising in
    let turn : Turn = record { host = c.in-Some.entry.ask.host; moment = c.in-Some.entry.ask.moment } in
    let same : c.turn_of.result ≡ turn = search rules in
    let turned : c.push.new.self.items ≡ c.lines.turns.items ++ turn ∷ [] = c.push.ensures.items ∙ ap (λ (t : Turn). c.lines.turns.items ++ t ∷ []) same in
    record {
      merging = subst (λ (turns : List Turn). Merging (entries_in c.args.journals.now) (set c.lines.places c.in-Some.bay (get_or c.lines.places c.in-Some.bay 0 + 1)) c.args.turns.now.items turns)
          (sym turned) next;
      room = c.push.ensures.room ∙ c.lines.invariant.room;
      long = length-set c.lines.places c.in-Some.bay (get_or c.lines.places c.in-Some.bay 0 + 1) ∙ c.lines.invariant.long;
    }

pub returns-clause-merged : goal.returns-clause-merged
returns-clause-merged c =
    round-end c.args.journals.now c.lines.places c.args.turns.now.items c.lines.turns.items c.lines.invariant.merging c.in_default.ensures
