-- What each step on the table tells the pass that makes it.
use Rattle.std.specs.Prelude.{◌≡◌, ◌≢◌, ℕ, suc, ◌+◌, ◌-◌, ◌≤◌, List, [], ◌∷◌, ◌++◌, length, slice_index, Some}
use Rattle.atomic_table.specs.Table.{Me, Step}
use Rattle.raid_base.specs.declared.messages.Entry.{Entry}
use Rattle.rack_turns.specs.declared.view.Shadow.{Shadow}
use Rattle.rack_turns.specs.declared.view.View.{View}
use Rattle.rack_turns.specs.Views.{IfAt, total, greatest_clock, held, cap_of, with_call, with_meeting}
use Rattle.rack_turns.specs.Shadows.{IsLater}

-- the turn of a bay begins: the pass has the bay, and keeps its journal
pub record HasBegun {S : Type 0} (now : S → Shadow) (bay : ℕ) (m m' : Me S View) : Type 0 where
  pub value : S
  pub hand : m'.1 ≡ (bay, value) ∷ m.1
  pub view : m'.0 ≡ record m.0 { turn = Some (held bay (now value).journal) }
  pub later : IfAt m.0.openings bay (λ opening. IsLater opening (now value))
  pub room : IfAt m.0.openings bay (λ opening.
      length (now value).journal + slice_index m.0.standing.left bay ≤ opening.cap)
  pub clock : greatest_clock m.0.asked ≤ total cap_of m.0.openings

-- another host has the turn, by the word that was found, and is met: the pass's meetings grow by it, and nothing else changes
pub record HasMet {S : Type 0} (bay word : ℕ) (m m' : Me S View) : Type 0 where
  pub hand : m'.1 ≡ m.1
  pub view : m'.0 ≡ with_meeting bay (word - 1) m.0
  pub host : word ≤ 16
  pub other : word ≢ suc m.0.standing.host.0

-- by the word that was found: 0, or that of a host
abbrev pub began : {S : Type 0} → (S → Shadow) → Step S → Me S View → ℕ → Me S View → Type 0
began now st m word m' =
    (word ≡ 0 → HasBegun now st.word m m') × (word ≢ 0 → HasMet st.word word m m')

-- the turn of a bay ends: the bay is back, and the entry that it gained is the pass's
pub record HasEnded {S : Type 0} (now : S → Shadow) (bay : ℕ) (m m' : Me S View) : Type 0 where
  pub entry : Entry
  pub hand : m'.1 ≡ []
  pub view : m'.0 ≡ with_call bay entry m.0
  pub which : (value : S) (journal : List Entry) (e : Entry) → m.1 ≡ (bay, value) ∷ []
      → (now value).journal ≡ journal ++ e ∷ [] → entry ≡ e
  pub clock : entry.clock ≤ total cap_of m.0.openings

abbrev pub ended : {S : Type 0} → (S → Shadow) → Step S → Me S View → ℕ → Me S View → Type 0
ended now st m word m' = HasEnded now st.word m m'
