-- Each slot that has a cell has the one that is due: kept by each call, together with what the attempts in hand were shown.
use Rattle.std.proofs.Common.{List, [], ◌∷◌}
use Rattle.raid_base.specs.declared.messages.Call.{Call}
use Rattle.script_text.specs.Script.{Script}
use Rattle.script_text.specs.Ranges.{IsScript}
use Rattle.histories.specs.History.{IsHistory}
use Rattle.serial_laws.specs.Contents.{RowsHoldContents}
use Rattle.serial_laws.proofs.contents.ContentStates.{AreHandsShown, AllHold}
use Rattle.serial_laws.proofs.contents.ContentMends.{mends-next}
use Rattle.serial_laws.proofs.contents.ContentRecoveries.{recoveries-next}
use Rattle.serial_laws.proofs.contents.ContentWrites.{writes-next}
use Rattle.serial_laws.proofs.contents.ContentWriteParity.{OwnedBlocks}
use Rattle.serial_laws.proofs.contents.ContentHolds.{holds-first, owned-first, shown-first, holds-next, owned-next}

pub record Stands (script : Script) (history : List Call) : Type 0 where
  pub holds : AllHold script history
  pub owned : OwnedBlocks script history
  pub shown : AreHandsShown script history

module _ (script : Script) (is : IsScript script) where
  stands-next : (earlier : List Call) (call : Call) → IsHistory script (call ∷ earlier) → Stands script earlier → Stands script (call ∷ earlier)
  stands-next earlier call along s =
      let holds : AllHold script (call ∷ earlier) = holds-next script is earlier call along s.holds s.owned s.shown in
      record {
        holds = holds;
        owned = owned-next script earlier call holds s.owned;
        shown = record {
          mends = mends-next script is earlier call along s.holds s.shown;
          recoveries = recoveries-next script is earlier call along s.holds s.shown;
          writes = writes-next script is earlier call along s.holds s.shown;
        };
      }

  pub stands : (history : List Call) → IsHistory script history → Stands script history
  stands [] along = record { holds = holds-first script is; owned = owned-first script; shown = shown-first script is }
  stands (call ∷ earlier) along = stands-next earlier call along (stands earlier along.0)

pub rows_hold_contents : RowsHoldContents
rows_hold_contents script history is along row below = (stands script is history along).holds row below
