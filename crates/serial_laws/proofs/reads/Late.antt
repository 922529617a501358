-- Contents come late: each has a number above those of all reads of its unit's slot and of its row's parity.
use Rattle.std.proofs.Common.{◌≡◌, ◌⊎◌, inl, inr, sym, ap, subst, ◌∙◌, ℕ, ◌+◌, ◌<◌, List, ◌∷◌, length, arith}
use Rattle.raid_base.specs.declared.numbers.BayNo.{BayNo}
use Rattle.raid_base.specs.declared.numbers.RowNo.{RowNo}
use Rattle.raid_base.specs.declared.numbers.Number.{Number}
use Rattle.raid_base.specs.declared.messages.Call.{Call}
use Rattle.stripe_layout.specs.Placement.{parity_bay, bay_of}
use Rattle.script_text.specs.Script.{Script}
use Rattle.script_text.specs.Ranges.{IsScript}
use Rattle.histories.specs.History.{IsHistory}
use Rattle.row_laws.specs.Holding.{Owns}
use Rattle.histories.specs.Accesses.{reads, AllBelow}
use Rattle.serial_laws.specs.Rising.{Taken, taken_at}
use Rattle.serial_laws.specs.Seen.{IsLate, ContentsAreLate}
use Rattle.serial_laws.proofs.reads.BareReads.{bare-reads-below}
use Rattle.row_laws.proofs.owners.OwnedPuts.{puts_are_of_owners}
use Rattle.serial_laws.proofs.reads.ParityReads.{noted-reads-below}
use Rattle.serial_laws.proofs.rising.RisingCommits.{TakesOne, taken-moved}
use Rattle.serial_laws.proofs.reads.UnitReads.{unit-reads-below}
use Rattle.row_laws.proofs.numbers.Risen.{done-rises}

-- a list is not longer than itself
pub no-longer : {X : Type 0} (x : X) (xs : List X) → x ∷ xs ≡ xs → ⊥
no-longer x xs same = let long : length (x ∷ xs) ≡ length xs = ap length same in omega (arith, long)

module _ (script : Script) (is : IsScript script) (earlier : List Call) (call : Call) (along : IsHistory script (call ∷ earlier)) (row : RowNo) (below : row.0 < script.rows) (unit : ℕ) (inside : unit + 1 < script.n)
    (t : TakesOne script earlier call row unit) where
  -- the number is above those of all reads of the slot that is put
  put-late : AllBelow t.number (reads script call.bay row earlier)
  put-late = (done-rises script is earlier call along row t.id t.number t.cell t.what t.done).1

  own-late : call.bay ≡ bay_of script.n row unit → Owns script earlier row t.id → AllBelow t.number (reads script (parity_bay script.n row) row earlier)
  own-late place (inl none) = bare-reads-below script is earlier call along row below unit inside t place none
  own-late place (inr from) = noted-reads-below script is earlier call along row below unit inside t place from

  pub one-late : IsLate script earlier row unit t.number
  one-late = by t.place
    where
      by : (call.bay ≡ bay_of script.n row unit) ⊎ (call.bay ≡ parity_bay script.n row) → IsLate script earlier row unit t.number
      by (inl place) = record {
        unit_reads = subst (λ (b : BayNo). AllBelow t.number (reads script b row earlier)) place put-late;
        parity_reads = own-late place (puts_are_of_owners script earlier call is along row unit t.id below inside (place, t.number, t.cell, t.what) t.done);
      }
      by (inr place) = record {
        unit_reads = unit-reads-below script is earlier call along row below unit inside t place;
        parity_reads = subst (λ (b : BayNo). AllBelow t.number (reads script b row earlier)) place put-late;
      }

pub contents_are_late : ContentsAreLate
contents_are_late script earlier call is along row unit below inside t now = by (taken-moved script is earlier call along row unit)
  where
    by : (taken_at script (call ∷ earlier) row unit ≡ taken_at script earlier row unit) ⊎ TakesOne script earlier call row unit → IsLate script earlier row unit t.number
    by (inl same) = absurd (no-longer t (taken_at script earlier row unit) (sym now ∙ same))
    by (inr x) =
        let heads : t ∷ taken_at script earlier row unit ≡ record { number = x.number; content = x.commit.content } ∷ taken_at script earlier row unit = sym now ∙ x.now in
        let one : t ≡ record { number = x.number; content = x.commit.content } = cc in
        subst (λ (n : Number). IsLate script earlier row unit n) (sym (ap (λ (y : Taken). y.number) one)) (one-late script is earlier call along row below unit inside x)
