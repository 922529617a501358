-- A bay at its start.
use Rattle.std.specs.Prelude.{◌≡◌, ℕ, ◌<◌, ◌≤◌, List, drop}
use Rattle.raid_base.specs.Counts.{Rises}
use Rattle.block_store.specs.declared.store.Store.{Ghosts}
use Rattle.bay_device.specs.declared.bay.BayFault.{BayFault}
use Rattle.bay_device.specs.declared.bay.BayFault.TheVariants.{TooSmall, NoMemory, Fault}

-- from some row on, which is one of the first so many, these blocks are as they were
pub record IsCutOff (rows : ℕ) (blocks later : List (List ℕ)) : Type 0 where
  pub row : ℕ
  pub inside : row < rows
  pub kept : drop row later ≡ drop row blocks

-- a store that failed before its first blocks were all cleared
pub record IsUncleared {D : Type 0} (g : Ghosts D) (rows : ℕ) (store back : D) : Type 0 where
  pub tells_is : g.tells back ≡ g.tells store
  pub size_is : g.size back ≡ g.size store
  pub rises : Rises (g.faults store) (g.faults back)
  pub cut_off : IsCutOff rows (g.content store) (g.content back)

-- why no bay of so many rows was made: the store is too small, or there was no memory, and it is handed back as it was,
-- or it failed in this call
abbrev pub IsRefusal : {D : Type 0} → Ghosts D → ℕ → D → BayFault D → Type 0
IsRefusal g rows store (TooSmall back) = (g.size store < rows) × (back ≡ store)
IsRefusal g rows store (NoMemory back) = (rows ≤ g.size store) × (back ≡ store)
IsRefusal g rows store (Fault back) = (rows ≤ g.size store) × IsUncleared g rows store back
