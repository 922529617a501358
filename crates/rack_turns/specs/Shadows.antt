-- A bay with what its store tells, and what became of it since it was brought in.
use Rattle.std.specs.Prelude.{◌≡◌, ℕ, IsTrue, List, [], ◌∷◌, map, length}
use Rattle.block_store.specs.declared.store.Store.{Ghosts}
use Rattle.raid_base.specs.declared.messages.Entry.{Entry}
use Rattle.slot_rules.specs.Tables.{Table, with_blocks}
use Rattle.slot_rules.specs.Replay.{Replays, next_clock}
use Rattle.bay_device.specs.declared.bay.Bay.{Bay}
use Rattle.bay_device.specs.Handling.{IsHandledSomehow, RisesByFaults}
use Rattle.rack_turns.specs.declared.view.Shadow.{Shadow}
use Rattle.rack_turns.specs.Views.{last_clock}

module _ {D : Type 0} {g : Ghosts D} where
  abbrev pub shadow : Bay D g → Shadow
  shadow bay = record {
    slots = bay.slots;
    blocks = g.content bay.store;
    tells = g.tells bay.store;
    size = g.size bay.store;
    faults = g.faults bay.store;
    cap = bay.cap;
    clock = bay.clock;
    journal = bay.journal.items;
  }

  abbrev pub shadows : List (Bay D g) → List Shadow
  shadows bays = map shadow bays

-- from these slots and this clock the entries, the oldest first, lead to those by the slot rule, over blocks that aren't told
abbrev pub ReplaysSomehow : Table → ℕ → List Entry → Table → ℕ → Type 0
ReplaysSomehow slots clock [] slots' clock' = (slots ≡ slots') × (clock ≡ clock')
ReplaysSomehow slots clock (entry ∷ entries) slots' clock' =
    (next : Table)
    × IsHandledSomehow entry.ask entry.reply slots next
    × (entry.clock ≡ next_clock clock entry.ask)
    × ReplaysSomehow next entry.clock entries slots' clock'

-- the journal replays by the slot rule, over the store's content
abbrev pub ReplaysTold : Shadow → Shadow → Type 0
ReplaysTold opening now =
    Replays (with_blocks opening.slots opening.blocks) opening.clock now.journal (with_blocks now.slots now.blocks) now.clock

-- since it was brought in a bay has kept its mode, patience, rows and cap, it replays its journal, over its store's content
-- where that is told, and the count of its store's faults has risen by the Faults in it
pub record IsLater (opening now : Shadow) : Type 0 where
  pub mode : now.slots.state.mode ≡ opening.slots.state.mode
  pub patience : now.slots.state.patience ≡ opening.slots.state.patience
  pub rows : length now.slots.slots ≡ length opening.slots.slots
  pub cap : now.cap ≡ opening.cap
  pub tells : now.tells ≡ opening.tells
  pub size : now.size ≡ opening.size
  pub replays : IsTrue opening.tells → ReplaysTold opening now
  pub somehow : ReplaysSomehow opening.slots opening.clock now.journal now.slots now.clock
  pub faults : RisesByFaults now.journal opening.faults now.faults
  pub clock : now.clock ≡ last_clock now.journal
