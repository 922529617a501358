-- A world at its start.
use Rattle.std.specs.Prelude.{◌≡◌, ℕ, ◌+◌, ◌-◌, ◌<◌, ◌≤◌, IsTrue, List, [], length, map, drop, slice_index_or}
use Rattle.raid_base.specs.Counts.{RisesBy}
use Rattle.slot_rules.specs.Slots.{first_bay}
use Rattle.slot_rules.specs.Tables.{with_blocks}
use Rattle.block_store.specs.declared.store.Store.{Ghosts}
use Rattle.bay_device.specs.declared.bay.Bay.{Bay}
use Rattle.bay_device.specs.Making.{IsUncleared}
use Rattle.script_text.specs.Script.{Script}
use Rattle.schedule_play.specs.declared.making.WorldFault.{WorldFault}
use Rattle.schedule_play.specs.declared.making.WorldFault.TheVariants.{TooFew, TooSmall, NoMemory, Fault}

-- a bay of this script over this store, asked nothing yet
pub record IsMade {D : Type 0} {g : Ghosts D} (script : Script) (cap : ℕ) (store : D) (now : Bay D g) : Type 0 where
  pub told : IsTrue (g.tells store) → with_blocks now.slots (g.content now.store) ≡ first_bay script.mode script.rows script.patience
  pub rows : length now.slots.slots ≡ script.rows
  pub clock : now.clock ≡ 0
  pub entries : now.journal.items ≡ []
  pub cap_is : now.cap ≡ cap
  pub tells : g.tells now.store ≡ g.tells store
  pub size : g.size now.store ≡ g.size store
  pub faults : g.faults store ≤ g.faults now.store

-- the bays are those of the first stores
abbrev pub AreMade : {D : Type 0} {g : Ghosts D} → Script → ℕ → List D → List (Bay D g) → Type 0
AreMade {D} {g} script cap stores bays = (k : ℕ) (d : D) (e : Bay D g) → k < length bays → IsMade script cap (slice_index_or stores k d) (slice_index_or bays k e)

-- the stores of some bays
abbrev pub stores_of : {D : Type 0} {g : Ghosts D} → List (Bay D g) → List D
stores_of {D} {g} bays = map (λ (b : Bay D g). b.store) bays

-- each of the first n stores has a block for each row
pub record AreLarge {D : Type 0} (size : D → ℕ) (n rows : ℕ) (stores : List D) : Type 0 where
  pub enough : n ≤ length stores
  pub large : (k : ℕ) (d : D) → k < n → rows ≤ size (slice_index_or stores k d)

-- this one is the first that hasn't
pub record IsFirstSmall {D : Type 0} (size : D → ℕ) (n rows at : ℕ) (stores : List D) : Type 0 where
  pub enough : n ≤ length stores
  pub inside : at < n
  pub small : (d : D) → size (slice_index_or stores at d) < rows
  pub first : (k : ℕ) (d : D) → k < at → rows ≤ size (slice_index_or stores k d)

-- a store as it was, but for its content and more faults
pub record IsBack {D : Type 0} (g : Ghosts D) (store back : D) : Type 0 where
  pub tells_is : g.tells back ≡ g.tells store
  pub size_is : g.size back ≡ g.size store
  pub faults_least : RisesBy 0 (g.faults store) (g.faults back)

-- all stores, in order; those beyond the first n are as they were
pub record AreBack {D : Type 0} (g : Ghosts D) (n : ℕ) (stores back : List D) : Type 0 where
  pub count : length back ≡ length stores
  pub each : (k : ℕ) (d : D) → k < length stores → IsBack g (slice_index_or stores k d) (slice_index_or back k d)
  pub others : drop n back ≡ drop n stores

-- the stores from this place on were not touched
abbrev pub AreUntouchedFrom : {D : Type 0} → ℕ → List D → List D → Type 0
AreUntouchedFrom at stores back = drop at back ≡ drop at stores

-- the store at this place failed before its first blocks were all cleared, and those behind it were not touched
pub record IsHalted {D : Type 0} (g : Ghosts D) (rows at : ℕ) (stores back : List D) : Type 0 where
  pub failed : (d : D) → IsUncleared g rows (slice_index_or stores at d) (slice_index_or back at d)
  pub behind : AreUntouchedFrom (at + 1) stores back

-- Why no world was made, with all stores. Where there was no memory that of the last device was not touched
abbrev pub IsRefusal : {D : Type 0} → Ghosts D → ℕ → ℕ → List D → WorldFault D → Type 0
IsRefusal g n rows stores (TooFew back) = (length stores < n) × (back.items ≡ stores)
IsRefusal g n rows stores (TooSmall bay back) = IsFirstSmall g.size n rows bay.0 stores × (back.items ≡ stores)
IsRefusal g n rows stores (NoMemory back) = AreLarge g.size n rows stores × AreBack g n stores back.items × AreUntouchedFrom (n - 1) stores back.items
IsRefusal g n rows stores (Fault bay back) = AreLarge g.size n rows stores × AreBack g n stores back.items × (bay.0 < n) × IsHalted g rows bay.0 stores back.items
