-- Reads give back what they hold.
use Rattle.std.proofs.Common.{◌≡◌, ◌⊎◌, inl, inr, refl, sym, subst, ℕ, Bool, true, false, if◌then◌else◌, List, [], ◌∷◌, ◌++◌, Option, Some, None, Result, Ok, Err}
use Rattle.raid_base.specs.declared.numbers.BayNo.{BayNo}
use Rattle.raid_base.specs.declared.numbers.RowNo.{RowNo}
use Rattle.raid_base.specs.declared.numbers.Number.{Number}
use Rattle.raid_base.specs.declared.numbers.Spent.{Spent}
use Rattle.raid_base.specs.declared.messages.Mode.{Mode}
use Rattle.raid_base.specs.declared.messages.Mode.TheVariants.{Lock, Order}
use Rattle.raid_base.specs.declared.messages.Request.TheVariants.{Share}
use Rattle.raid_base.specs.declared.messages.Reply.{Reply}
use Rattle.raid_base.specs.declared.messages.Errand.{Errand}
use Rattle.raid_base.specs.declared.messages.Grant.{Grant}
use Rattle.raid_base.specs.declared.jobs.Cause.{Cause}
use Rattle.raid_base.specs.declared.jobs.Cause.TheVariants as causes
use Rattle.raid_base.specs.declared.jobs.Ended.TheVariants as ends
use Rattle.raid_base.specs.declared.jobs.RowPart.{RowPart}
use Rattle.raid_base.specs.Replies.{is_done}
use Rattle.raid_base.specs.Steps.{Steps, Through}
use Rattle.stripe_layout.specs.Placement.{parity_bay, bay_of, units_in, units_out}
use Rattle.attempts.specs.Taking.{Access, Finish, refused_by_quit, Row, fresh_row, Rows, no_rows, Taken, begun, row_ended, lacks, behind_from, why, with_grant, with_parity, with_wanted, with_other}
use Rattle.attempts.specs.Releases.{end_as, refused_steps, read_holds, read_releases}
use Rattle.attempts.specs.Reading.{read_refused, row_readers, numbered_releases, first_row, read_freed, read_drawn, read_numbered, row_shared, parity_shared, share_rest, wanted_shared, read_rows, read_steps}
use Rattle.attempts.specs.Phases.{Slot}
use Rattle.attempts.specs.Returns.{Holding, shared, HoldsNothing, ReadsReturn}
use Rattle.attempts.proofs.PhaseLemmas.{all-weaken, row-releases, slot_on}
use Rattle.attempts.proofs.ReturnLemmas.{Among, IsFreed, nothing-held, Walked, walked-more, readers-wanted, readers-other, readers-parity, readers-all, readers-wanted_new, readers-other_new, readers-parity_new, InRow, InRows, HeldIn, rows-more, rows-freed, IfHeld, take-holds, gives-all-back, ReturnsIf, Any, returns-all, returns-one, returns-units}

module _ (a : Access) where
  -- what a read holds of a row
  abbrev gives : Mode → Row → List BayNo
  gives Lock row = row_readers a.n row
  gives Order row = []

  abbrev Reads : List Holding → Steps Finish → Type 0
  Reads held s = ReturnsIf Any a.mode HoldsNothing held s

  abbrev Held : List Row → List Holding → Type 0
  Held rows held = HeldIn (gives a.mode) rows held

  -- the end
  refuses : (rows : List Row) (cause : Cause) (held : List Holding) → Held rows held → Reads held (refused_steps (read_releases a rows) cause)
  refuses rows cause held all =
      gives-all-back Any a.mode HoldsNothing a.id (λ h. ⊥) (λ u e r. u) refused_by_quit (λ _ _. []) (end_as (ends.Refused cause)) (λ held u none. nothing-held held none)
      (read_releases a rows) held tt (row-releases a.id None (read_holds a.mode a.n) rows)
      (all-weaken (λ (h : Holding). InRows (gives a.mode) rows h.slot) (λ (h : Holding). ⊥ ⊎ IsFreed (read_releases a rows) h.slot)
      (λ h i. inr (rows-freed (gives a.mode) a.id None (read_holds a.mode a.n) (each a.mode) rows h.slot i)) held all) where
        each : (mode : Mode) (row : Row) → Among (gives mode row) (read_holds mode a.n row)
        each Lock row = readers-all a.n row
        each Order row = λ bay i. i

  freed-returns : (n : Number) (rows : List Row) (o : Option RowNo) (held : List Holding) → held ≡ [] → Reads held (read_freed a n rows (Through o))
  freed-returns n rows None held none = none
  freed-returns n rows (Some row) held none = none

  drawn-returns : (rows : List Row) (held : List Holding) → Held rows held → (d : Result Number Spent) → Reads held (read_drawn a rows d)
  drawn-returns rows held all (Err spent) = refuses rows (causes.Spent spent.seen) held all
  drawn-returns rows held all (Ok n) =
      gives-all-back Any a.mode HoldsNothing a.id (λ h. ⊥) (λ row e r. if is_done r then row else first_row row e.request) refused_by_quit (λ _ _. []) (read_freed a n rows)
      (λ held o none. freed-returns n rows o held (nothing-held held none))
      (numbered_releases a n rows) held None (row-releases a.id (Some n) (row_readers a.n) rows)
      (all-weaken (λ (h : Holding). InRows (gives a.mode) rows h.slot) (λ (h : Holding). ⊥ ⊎ IsFreed (numbered_releases a n rows) h.slot)
      (λ h i. inr (rows-freed (gives a.mode) a.id (Some n) (row_readers a.n) (each a.mode) rows h.slot i)) held all) where
        each : (mode : Mode) (row : Row) → Among (gives mode row) (row_readers a.n row)
        each Lock row = λ bay i. i
        each Order row = λ bay i. absurd i

  none-in : (rows : List Row) (slot : Slot) → InRows (gives Order) rows slot → ⊥
  none-in [] slot i = i
  none-in (row ∷ rows) slot (inl i) = i.1
  none-in (row ∷ rows) slot (inr i) = none-in rows slot i

  numbered-returns : (mode : Mode) (rows : List Row) (held : List Holding) → a.mode ≡ mode → Held rows held → Reads held (read_numbered mode a rows)
  numbered-returns Order rows held same all =
      nothing-held held
      (all-weaken (λ (h : Holding). InRows (gives Order) rows h.slot) (λ (h : Holding). ⊥) (λ h i. none-in rows h.slot i) held
      (subst (λ (mode : Mode). HeldIn (gives mode) rows held) same all))
  numbered-returns Lock rows held same all = λ d. drawn-returns rows held all d

  -- a row in hand: what is left of its units, and what is held
  record Wanting (part : RowPart) (us : List ℕ) (held : List Holding) (taken : Taken) : Type 0 where
    same : taken.row.part ≡ part
    parity : taken.row.parity ≡ None
    others : taken.row.others ≡ []
    walked : Walked (units_in a.n taken.row.part.mask) taken.row.wanted us
    all : Held (taken.before ++ taken.row ∷ []) held

  wanted-grows : (mode : Mode) (o : Option Grant) (row : Row) (slot : Slot) → InRow (gives mode) row slot → InRow (gives mode) (with_wanted o row) slot
  wanted-grows Lock o row slot i = (i.0, readers-wanted a.n o row slot.bay i.1)
  wanted-grows Order o row slot i = i

  wanted-new : (mode : Mode) (grant : Grant) (row : Row) (part : RowPart) (u : ℕ) (us : List ℕ) → row.part ≡ part → Walked (units_in a.n row.part.mask) row.wanted (u ∷ us)
      → IfHeld (Some grant) mode (InRow (gives mode) (with_wanted (Some grant) row) (slot_on part.row (bay_of a.n part.row u)))
  wanted-new Order grant row part u us same walked = tt
  wanted-new Lock grant row part u us same walked = readers-wanted_new a.n grant row part u us same walked

  wanted-kept : (part : RowPart) (u : ℕ) (us : List ℕ) (held : List Holding) (taken : Taken) (o : Option Grant) → Wanting part (u ∷ us) held taken
      → Wanting part us (shared a.mode (slot_on part.row (bay_of a.n part.row u)) o held) (with_grant with_wanted taken (bay_of a.n part.row u) o)
  wanted-kept part u us held taken None j = record {
    same = j.same;
    parity = j.parity;
    others = j.others;
    walked = walked-more (units_in a.n taken.row.part.mask) taken.row.wanted None u us j.walked;
    all = take-holds (gives a.mode) a.mode taken.before taken.row (with_wanted None taken.row) (slot_on part.row (bay_of a.n part.row u)) None held (wanted-grows a.mode None taken.row) tt j.all;
  }
  wanted-kept part u us held taken (Some grant) j = record {
    same = j.same;
    parity = j.parity;
    others = j.others;
    walked = walked-more (units_in a.n taken.row.part.mask) taken.row.wanted (Some grant) u us j.walked;
    all =
        take-holds (gives a.mode) a.mode taken.before taken.row (with_wanted (Some grant) taken.row) (slot_on part.row (bay_of a.n part.row u)) (Some grant) held (wanted-grows a.mode (Some grant) taken.row)
        (wanted-new a.mode grant taken.row part u us j.same j.walked) j.all;
  }

  record Othering (part : RowPart) (us : List ℕ) (held : List Holding) (taken : Taken) : Type 0 where
    same : taken.row.part ≡ part
    walked : Walked (units_out a.n taken.row.part.mask) taken.row.others us
    all : Held (taken.before ++ taken.row ∷ []) held

  other-grows : (mode : Mode) (o : Option Grant) (row : Row) (slot : Slot) → InRow (gives mode) row slot → InRow (gives mode) (with_other o row) slot
  other-grows Lock o row slot i = (i.0, readers-other a.n o row slot.bay i.1)
  other-grows Order o row slot i = i

  other-new : (mode : Mode) (grant : Grant) (row : Row) (part : RowPart) (u : ℕ) (us : List ℕ) → row.part ≡ part → Walked (units_out a.n row.part.mask) row.others (u ∷ us)
      → IfHeld (Some grant) mode (InRow (gives mode) (with_other (Some grant) row) (slot_on part.row (bay_of a.n part.row u)))
  other-new Order grant row part u us same walked = tt
  other-new Lock grant row part u us same walked = readers-other_new a.n grant row part u us same walked

  other-kept : (part : RowPart) (u : ℕ) (us : List ℕ) (held : List Holding) (taken : Taken) (o : Option Grant) → Othering part (u ∷ us) held taken
      → Othering part us (shared a.mode (slot_on part.row (bay_of a.n part.row u)) o held) (with_grant with_other taken (bay_of a.n part.row u) o)
  other-kept part u us held taken None j = record {
    same = j.same;
    walked = walked-more (units_out a.n taken.row.part.mask) taken.row.others None u us j.walked;
    all = take-holds (gives a.mode) a.mode taken.before taken.row (with_other None taken.row) (slot_on part.row (bay_of a.n part.row u)) None held (other-grows a.mode None taken.row) tt j.all;
  }
  other-kept part u us held taken (Some grant) j = record {
    same = j.same;
    walked = walked-more (units_out a.n taken.row.part.mask) taken.row.others (Some grant) u us j.walked;
    all =
        take-holds (gives a.mode) a.mode taken.before taken.row (with_other (Some grant) taken.row) (slot_on part.row (bay_of a.n part.row u)) (Some grant) held (other-grows a.mode (Some grant) taken.row)
        (other-new a.mode grant taken.row part u us j.same j.walked) j.all;
  }

  parity-grows : (mode : Mode) (o : Option Grant) (row : Row) → row.parity ≡ None → (slot : Slot) → InRow (gives mode) row slot → InRow (gives mode) (with_parity o row) slot
  parity-grows Lock o row none slot i = (i.0, readers-parity a.n o row none slot.bay i.1)
  parity-grows Order o row none slot i = i

  parity-new : (mode : Mode) (grant : Grant) (row : Row) → IfHeld (Some grant) mode (InRow (gives mode) (with_parity (Some grant) row) (slot_on row.part.row (parity_bay a.n row.part.row)))
  parity-new Order grant row = tt
  parity-new Lock grant row = readers-parity_new a.n grant row

  module _ (rest : Rows → Steps Finish) (rest_returns : (done : Rows) (held : List Holding) → Held done.rows held → Reads held (rest done)) where
    stopped-returns : (taken : Taken) (held : List Holding) (e : Errand) (r : Reply) → Held (taken.before ++ taken.row ∷ []) held → Reads held (read_refused a taken e r)
    stopped-returns taken held e r all = refuses (taken.before ++ taken.row ∷ []) (why (behind_from a.mode a.id) taken e r) held all

    others-return : (taken : Taken) (held : List Holding) → Othering taken.row.part (units_out a.n taken.row.part.mask) held taken → Reads held (parity_shared a rest (Through taken))
    others-return taken held j =
        let part : RowPart = taken.row.part in
        returns-units Any a.mode HoldsNothing a.mode part.row (Share part.row a.id true) (λ held bay r. refl) (behind_from a.mode a.id) with_other (bay_of a.n part.row) (Othering part)
        (row_shared a rest)
        (λ u us held taken o j. other-kept part u us held taken o j)
        (λ held taken j. rest_returns (row_ended taken) held j.all)
        (λ u us held taken e r j. stopped-returns taken held e r j.all)
        (units_out a.n part.mask) held taken j

    rest-returns : (b : Bool) (part : RowPart) (held : List Holding) (taken : Taken) → Wanting part [] held taken → Reads held (share_rest a rest taken b)
    rest-returns false part held taken j = rest_returns (row_ended taken) held j.all
    rest-returns true part held taken j =
        returns-one Any a.mode HoldsNothing a.mode taken.row.part.row (Share taken.row.part.row a.id true) (λ held bay r. refl) (behind_from a.mode a.id) with_parity (parity_shared a rest)
        (parity_bay a.n taken.row.part.row) held taken
        given
        (λ e r. stopped-returns taken held e r j.all) where
          given : (o : Option Grant) → Reads (shared a.mode (slot_on taken.row.part.row (parity_bay a.n taken.row.part.row)) o held)
              (parity_shared a rest (Through (with_grant with_parity taken (parity_bay a.n taken.row.part.row) o)))
          given None =
              others-return (with_grant with_parity taken (parity_bay a.n taken.row.part.row) None) (shared a.mode (slot_on taken.row.part.row (parity_bay a.n taken.row.part.row)) None held)
              (record {
                same = refl;
                walked = subst (λ os. Walked (units_out a.n taken.row.part.mask) os (units_out a.n taken.row.part.mask)) (sym j.others) refl;
                all =
                    take-holds (gives a.mode) a.mode taken.before taken.row (with_parity None taken.row) (slot_on taken.row.part.row (parity_bay a.n taken.row.part.row)) None held
                    (parity-grows a.mode None taken.row j.parity) tt j.all;
              })
          given (Some grant) =
              others-return (with_grant with_parity taken (parity_bay a.n taken.row.part.row) (Some grant))
              (shared a.mode (slot_on taken.row.part.row (parity_bay a.n taken.row.part.row)) (Some grant) held)
              (record {
                same = refl;
                walked = subst (λ os. Walked (units_out a.n taken.row.part.mask) os (units_out a.n taken.row.part.mask)) (sym j.others) refl;
                all =
                    take-holds (gives a.mode) a.mode taken.before taken.row (with_parity (Some grant) taken.row) (slot_on taken.row.part.row (parity_bay a.n taken.row.part.row)) (Some grant) held
                    (parity-grows a.mode (Some grant) taken.row j.parity) (parity-new a.mode grant taken.row) j.all;
              })

  rows-return : (left : List RowPart) (done : Rows) (held : List Holding) → Held done.rows held → Reads held (read_rows a left done)
  rows-return [] done held all = numbered-returns a.mode done.rows held refl all
  rows-return (part ∷ left) done held all =
      returns-units Any a.mode HoldsNothing a.mode part.row (Share part.row a.id true) (λ held bay r. refl) (behind_from a.mode a.id) with_wanted (bay_of a.n part.row) (Wanting part)
      (wanted_shared a (read_rows a left))
      (λ u us held taken o j. wanted-kept part u us held taken o j)
      (λ held taken j. rest-returns (read_rows a left) (λ done held all. rows-return left done held all) (lacks taken.row.wanted) part held taken j)
      (λ u us held taken e r j. stopped-returns (read_rows a left) (λ done held all. rows-return left done held all) taken held e r j.all)
      (units_in a.n part.mask) held (begun part done)
      (record {
        same = refl;
        parity = refl;
        others = refl;
        walked = refl;
        all = all-weaken (λ (h : Holding). InRows (gives a.mode) done.rows h.slot) (λ (h : Holding). InRows (gives a.mode) (done.rows ++ fresh_row part ∷ []) h.slot)
            (λ h i. rows-more (gives a.mode) done.rows (fresh_row part) h.slot i) held all;
      })

pub reads_return : ReadsReturn
reads_return a = returns-all a.mode HoldsNothing [] (read_steps a) (rows-return a a.parts no_rows [] tt)
