-- Reads take each slot once.
use Rattle.std.proofs.Common.{◌≡◌, sym, subst, ◌≤◌, Bool, true, false, List, [], ◌∷◌, ◌++◌, Option, Some, None, Result, Ok, Err, refl}
use Rattle.raid_base.specs.declared.numbers.BayNo.{BayNo}
use Rattle.raid_base.specs.declared.numbers.RowNo.{RowNo}
use Rattle.raid_base.specs.declared.numbers.Number.{Number}
use Rattle.raid_base.specs.declared.numbers.Spent.{Spent}
use Rattle.raid_base.specs.declared.messages.Mode.{Mode}
use Rattle.raid_base.specs.declared.messages.Mode.TheVariants.{Lock, Order}
use Rattle.raid_base.specs.declared.messages.Reply.{Reply}
use Rattle.raid_base.specs.declared.messages.Errand.{Errand}
use Rattle.raid_base.specs.declared.jobs.Cause.TheVariants as causes
use Rattle.raid_base.specs.declared.jobs.Ended.TheVariants as ends
use Rattle.raid_base.specs.declared.jobs.RowPart.{RowPart}
use Rattle.raid_base.specs.Steps.{Steps, Walk, Through, Stopped}
use Rattle.stripe_layout.specs.Placement.{parity_bay, bays_of, units_in, units_out}
use Rattle.attempts.specs.Taking.{Access, Finish, Row, Rows, no_rows, Taken, begun, row_ended, with_parity, with_wanted, with_other, lacks, behind_from, why, share}
use Rattle.attempts.specs.Releases.{releases, read_holds, read_releases}
use Rattle.attempts.specs.Reading.{sharing, read_refused, row_readers, numbered_releases, freeing, read_freed, read_drawn, read_numbered, row_shared, parity_shared, share_rest, wanted_shared, read_rows, read_steps}
use Rattle.attempts.specs.Phases.{Slot, RowsDiffer}
use Rattle.attempts.specs.Once.{Once}
use Rattle.attempts.proofs.TakenLemmas.{keeps-parity, keeps-wanted, keeps-other}
use Rattle.attempts.proofs.OnceLemmas.{others-more, wanted-apart, unwanted-apart, parity-wanted, parity-unwanted, wanted-others, AreAhead, Stands, go-later, go-first, begin-row, taking-part, share-takes, once-take, AreIdle, idle-releases, idle-flat, once-idle, once-released}

module _ (a : Access) where
  idle-reads : (rows : List Row) → AreIdle (read_releases a rows)
  idle-reads rows =
      idle-flat (λ (row : Row). releases a.id row.part.row None (read_holds a.mode a.n row))
      (λ row. idle-releases a.id row.part.row None (read_holds a.mode a.n row)) rows

  idle-numbered : (n : Number) (rows : List Row) → AreIdle (numbered_releases a n rows)
  idle-numbered n rows =
      idle-flat (λ (row : Row). releases a.id row.part.row (Some n) (row_readers a.n row))
      (λ row. idle-releases a.id row.part.row (Some n) (row_readers a.n row)) rows

  -- Once the rows are shared nothing is taken
  module _ (slots : List Slot) where
    freed : (n : Number) (rows : List Row) (walk : Walk (Option RowNo)) → Once slots (read_freed a n rows walk)
    freed n rows (Through None) = tt
    freed n rows (Through (Some row)) = tt
    freed n rows (Stopped row e r) = tt

    read-drawn : (rows : List Row) (d : Result Number Spent) → Once slots (read_drawn a rows d)
    read-drawn rows (Err spent) = once-released slots (read_releases a rows) (ends.Refused (causes.Spent spent.seen)) (idle-reads rows)
    read-drawn rows (Ok n) = once-idle slots freeing (read_freed a n rows) (freed n rows) (numbered_releases a n rows) (idle-numbered n rows) None

    read-numbered : (mode : Mode) (rows : List Row) → Once slots (read_numbered mode a rows)
    read-numbered Order rows = tt
    read-numbered Lock rows = read-drawn rows

    read-stopped : (taken : Taken) (e : Errand) (r : Reply) → Once slots (read_refused a taken e r)
    read-stopped taken e r =
        once-released slots (read_releases a (taken.before ++ taken.row ∷ [])) (ends.Refused (why (behind_from a.mode a.id) taken e r))
        (idle-reads (taken.before ++ taken.row ∷ []))

  -- A row: the units that are wanted, and where one is missing the parity and the others
  module _ (least : 3 ≤ a.n) where
    abbrev wanted : RowPart → List BayNo
    wanted part = bays_of a.n part.row (units_in a.n part.mask)

    abbrev unwanted : RowPart → List BayNo
    unwanted part = bays_of a.n part.row (units_out a.n part.mask)

    module _ (left : List RowPart) (rest : Rows → Steps Finish) (on : (slots : List Slot) (done : Rows) → AreAhead left slots → Once slots (rest done)) where
      unwanted-shares : (slots : List Slot) (taken : Taken) (part : RowPart) → taken.row.part ≡ part → Stands left part.row [] (unwanted part) slots
          → Once slots (parity_shared a rest (Through taken))
      unwanted-shares slots taken part same s =
          let q : RowPart = taken.row.part in
          once-take (λ (t : Taken). t.row.part ≡ q) left q.row [] (share a.id q.row) (share-takes a.id q.row) (sharing a with_other) (row_shared a rest)
          (taking-part q with_other keeps-other (behind_from a.mode a.id))
          (λ slots t same s. on slots (row_ended t) s.ahead)
          (λ now slots t bay r same s. read-stopped slots t (share a.id q.row bay) r)
          (unwanted q) slots taken refl
          (go-later left q.row [] (unwanted q) slots (unwanted-apart a.n q.row least q.mask)
          (subst (λ (p : RowPart). Stands left p.row [] (unwanted p) slots) (sym same) s))

      rest-shares : (slots : List Slot) (taken : Taken) (part : RowPart) → taken.row.part ≡ part
          → Stands left part.row [] (parity_bay a.n part.row ∷ unwanted part) slots → (b : Bool) → Once slots (share_rest a rest taken b)
      rest-shares slots taken part same s false = on slots (row_ended taken) s.ahead
      rest-shares slots taken part same s true =
          let q : RowPart = taken.row.part in
          once-take (λ (t : Taken). t.row.part ≡ q) left q.row (unwanted q) (share a.id q.row) (share-takes a.id q.row) (sharing a with_parity) (parity_shared a rest)
          (taking-part q with_parity keeps-parity (behind_from a.mode a.id))
          (λ slots t same s. unwanted-shares slots t q same s)
          (λ now slots t bay r same s. read-stopped slots t (share a.id q.row bay) r)
          (parity_bay a.n q.row ∷ []) slots taken refl
          (go-first left q.row [] (parity_bay a.n q.row) (unwanted q) slots (parity-unwanted a.n q.row least q.mask)
          (subst (λ (p : RowPart). Stands left p.row [] (parity_bay a.n p.row ∷ unwanted p) slots) (sym same) s))

    rows-read : (left : List RowPart) → RowsDiffer left → (slots : List Slot) → AreAhead left slots → (done : Rows) → Once slots (read_rows a left done)
    rows-read [] differ slots ahead done = read-numbered slots a.mode done.rows
    rows-read (part ∷ left) differ slots ahead done =
        let parity : BayNo = parity_bay a.n part.row in
        once-take (λ (t : Taken). t.row.part ≡ part) left part.row (parity ∷ unwanted part) (share a.id part.row) (share-takes a.id part.row) (sharing a with_wanted)
        (wanted_shared a (read_rows a left))
        (taking-part part with_wanted keeps-wanted (behind_from a.mode a.id))
        (λ slots t same s. rest-shares left (read_rows a left) (λ slots done ahead. rows-read left differ.1 slots ahead done) slots t part same s (lacks t.row.wanted))
        (λ now slots t bay r same s. read-stopped slots t (share a.id part.row bay) r)
        (wanted part) slots (begun part done) refl
        (begin-row part left (wanted part) (parity ∷ unwanted part) slots differ ahead (wanted-apart a.n part.row least part.mask)
        (others-more parity (wanted part) (unwanted part) (parity-wanted a.n part.row least part.mask) (wanted-others a.n part.row least part.mask)))

pub reads-once : (a : Access) → 3 ≤ a.n → RowsDiffer a.parts → Once [] (read_steps a)
reads-once a least differ = rows-read a least a.parts differ [] tt no_rows
