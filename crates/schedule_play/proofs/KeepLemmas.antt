-- Turns keep over which stores the bays are.
use Rattle.std.proofs.Common.{◌≡◌, ℕ, ◌<◌, List, length, get_or, refl, sym, subst, ◌∙◌}
use Rattle.std.proofs.Math.ListN.{set}
use Rattle.raid_base.specs.declared.messages.Entry.{Entry}
use Rattle.script_text.specs.Script.{Script}
use Rattle.schedule_play.specs.Making.{IsMade}
use Rattle.schedule_play.proofs.MakeLemmas.{none-risen}
use Rattle.block_store.specs.declared.store.Store.{Ghosts}
use Rattle.bay_device.specs.declared.bay.Bay.{Bay}
use Rattle.bay_device.specs.Handling.{RisesByFaults}
use Rattle.schedule_play.specs.declared.world.World.{World}
use Rattle.schedule_play.specs.World.{EachAt, IsOver, AreOver, Keeps}
use Rattle.schedule_play.proofs.WorldLemmas.{each-set}

module _ {D : Type 0} {g : Ghosts D} where
  pub keeps-nothing : (now : World D g) → Keeps now now
  keeps-nothing now = record { others = refl; gathered = refl; over = λ stores over. over }

  pub keeps-both : (old mid new : World D g) → Keeps old mid → Keeps mid new → Keeps old new
  keeps-both old mid new a b = record {
    others = b.others ∙ a.others;
    gathered = b.gathered ∙ a.gathered;
    over = λ stores over. b.over stores (a.over stores over);
  }

  -- a bay at its start
  pub made-over : (script : Script) (cap : ℕ) (store : D) (now : Bay D g) → IsMade script cap store now → IsOver store now
  made-over script cap store now made = record {
    tells = made.tells;
    size = made.size;
    faults = subst (λ (entries : List Entry). RisesByFaults entries (g.faults store) (g.faults now.store)) (sym made.entries) (none-risen (g.faults store) (g.faults now.store) made.faults);
  }

  -- what a bay that was asked keeps of its store
  pub record KeepsStore (old new : Bay D g) : Type 0 where
    pub tells : g.tells new.store ≡ g.tells old.store
    pub size : g.size new.store ≡ g.size old.store
    pub faults : (opening : ℕ) → RisesByFaults old.journal.items opening (g.faults old.store) → RisesByFaults new.journal.items opening (g.faults new.store)

  still-over : (store : D) (old new : Bay D g) → KeepsStore old new → IsOver store old → IsOver store new
  still-over store old new k over = record {
    tells = k.tells ∙ over.tells;
    size = k.size ∙ over.size;
    faults = k.faults (g.faults store) over.faults;
  }

  over-set : (stores : List D) (bays : List (Bay D g)) (i : ℕ) (old new : Bay D g) → i < length bays → old ≡ get_or bays i old → KeepsStore old new → AreOver stores bays → AreOver stores (set bays i new)
  over-set stores bays i old new inside is k over =
      let all : EachAt (λ j now. (d : D) → IsOver (get_or stores j d) now) (set bays i new) =
      each-set (λ j now. (d : D) → IsOver (get_or stores j d) now) (λ j now. (d : D) → IsOver (get_or stores j d) now) bays i new
      (λ j e within d. over j d e within) (λ j e within apart other. other)
      (λ d. still-over (get_or stores i d) old new k (subst (λ (b : Bay D g). IsOver (get_or stores i d) b) (sym is) (over i d old inside))) in
      λ j d e within. all j e within d

  -- a turn in which one bay was asked
  pub keeps-turn : (old new : World D g) (i : ℕ) (was now : Bay D g) → i < length old.bays.items → was ≡ get_or old.bays.items i was → KeepsStore was now →
      new.bays.items ≡ set old.bays.items i now → new.others ≡ old.others → new.gathered ≡ old.gathered → Keeps old new
  keeps-turn old new i was now inside is k bays others gathered = record {
    others = others;
    gathered = gathered;
    over = λ stores over. subst (λ (bs : List (Bay D g)). AreOver stores bs) (sym bays) (over-set stores old.bays.items i was now inside is k over);
  }
