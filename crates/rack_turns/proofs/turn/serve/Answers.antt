use Rattle.std.proofs.Common.{◌≡◌, ℕ, List, [], ◌∷◌, sym, ap, subst, ◌∙◌}
use Rattle.atomic_table.specs.Table.{rest}
use Rattle.slot_rules.specs.Tables.{with_blocks}
use Rattle.raid_base.specs.declared.messages.Entry.{Entry}
use Rattle.rack_turns.specs.Shadows.{ReplaysSomehow}
use Rattle.rack_turns.specs.Views.{last_clock}
use Rattle.rack_turns.specs.Passes.{entry_by}
use Rattle.rack_turns.proofs.Entries.{clock-snoc}
use Rattle.rack_turns.proofs.Serving.{somehow-snoc}
use Rattle.rack_turns.proofs.turn.serve.Goals as goal

pub slot_mut-held-requires : goal.slot_mut-held-requires
slot_mut-held-requires g c = let t = c.requires.held in (c.requires.table, (t.0, t.1 ∙ ap (λ l. (c.args.bay.0, t.0) ∷ rest l) (sym t.1)))

pub returns-clause-served : goal.returns-clause-served
returns-clause-served g c =
    let t = c.requires.held in
    let none-left : rest c.args.sitter.now.me.1 ≡ [] = ap rest t.1 in
    let before = c.slot_mut-held.result.now in
    let after = c.handle.new.self in
    let says = c.handle.ensures in (
      before,
      c.slot_mut-held.ensures.value ∙ ap (λ l. (c.args.bay.0, before) ∷ l) none-left,
      (
        after,
        ap (λ l. (c.args.bay.0, after) ∷ l) none-left,
        record {
          journal = says.journal;
          clock = says.answered ∙ says.clock;
          later = λ o l. record {
            mode = says.mode.0 ∙ l.mode;
            patience = says.mode.1 ∙ l.patience;
            rows = says.rows ∙ l.rows;
            cap = says.cap ∙ l.cap;
            tells = says.store.0 ∙ l.tells;
            size = says.store.1 ∙ l.size;
            replays = λ told. says.replays (l.tells ∙ told) (with_blocks o.slots o.blocks) o.clock (l.replays told);
            somehow = subst (λ (z : List Entry × ℕ). ReplaysSomehow o.slots o.clock z.0 after.slots z.1) (λ i. (sym says.journal i, says.answered i))
                (somehow-snoc o.slots before.slots after.slots o.clock before.clock before.journal.items (entry_by c.args.ask.now c.handle.result) l.somehow says.somehow (says.answered ∙ says.clock));
            faults = says.faults o.faults l.faults;
            clock = sym says.answered ∙ sym (ap (λ (x : List Entry). last_clock x) says.journal ∙ clock-snoc 0 before.journal.items (entry_by c.args.ask.now c.handle.result));
          };
        },
      ),
    )
