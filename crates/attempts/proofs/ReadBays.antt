-- Reads keep to the bound of each bay.
use Rattle.std.proofs.Common.{ℕ, ◌+◌, ◌*◌, ◌≤◌, Bool, true, false, List, [], ◌∷◌, ◌++◌, Option, Some, None, Result, Ok, Err, length, refl, ap, arith}
use Rattle.raid_base.specs.declared.numbers.BayNo.{BayNo}
use Rattle.raid_base.specs.declared.numbers.RowNo.{RowNo}
use Rattle.raid_base.specs.declared.numbers.Number.{Number}
use Rattle.raid_base.specs.declared.numbers.Spent.{Spent}
use Rattle.raid_base.specs.declared.messages.Mode.{Mode}
use Rattle.raid_base.specs.declared.messages.Mode.TheVariants.{Lock, Order}
use Rattle.raid_base.specs.declared.messages.Reply.{Reply}
use Rattle.raid_base.specs.declared.messages.Errand.{Errand}
use Rattle.raid_base.specs.declared.jobs.Cause.{Cause}
use Rattle.raid_base.specs.declared.jobs.Cause.TheVariants as causes
use Rattle.raid_base.specs.declared.jobs.Ended.TheVariants as ends
use Rattle.raid_base.specs.declared.jobs.RowPart.{RowPart}
use Rattle.raid_base.specs.Steps.{Steps, Walk, Through, Stopped}
use Rattle.stripe_layout.specs.Placement.{parity_bay, bays_of, units_in, units_out}
use Rattle.attempts.specs.Taking.{Access, Finish, Row, Rows, no_rows, Taken, begun, row_ended, lacks, behind_from, why, with_parity, with_wanted, with_other, share, shares}
use Rattle.attempts.specs.Releases.{releasing, end_as, refused_steps, read_holds, read_releases}
use Rattle.attempts.specs.Reading.{sharing, read_refused, row_readers, numbered_releases, freeing, read_freed, read_drawn, read_numbered, row_shared, parity_shared, share_rest, wanted_shared, read_rows}
use Rattle.attempts.specs.Discipline.{IsAccess}
use Rattle.attempts.specs.BayBounds.{ObeysAt, ReadsObeyAt}
use Rattle.attempts.proofs.TakenLemmas.{SoFar, IsTaking, taking-ended, keeps-parity, keeps-wanted, keeps-other, taking-step, rows-le}
use Rattle.attempts.proofs.BayLemmas.{hit, hits, asks, asks-map, asks-rows, mask-both, row-once, readers-once, read-holds-once, at-more, at-run}

-- an attempt that is refused gives back what it holds
pub refused-at : (at : BayNo) (es : List Errand) (cause : Cause) (room : ℕ) → asks at es ≤ room → ObeysAt at room (refused_steps es cause)
refused-at at es cause room le =
    at-run at (λ (u : Unit {0}). Unit {0}) releasing (end_as (ends.Refused cause)) 0 (λ u e r i. tt) (λ u i. tt) (λ u e r i. tt) es tt room (omega arith) tt

module _ (at : BayNo) (a : Access) (rows count : ℕ) (is : IsAccess a rows count) where
  read-refused-at : (cause : Cause) (taken : List Row) (left : List RowPart) (room : ℕ) → SoFar a taken left → length a.parts ≤ room
      → ObeysAt at room (refused_steps (read_releases a taken) cause)
  read-refused-at cause taken left room so_far le =
      refused-at at (read_releases a taken) cause room
      (omega (arith, asks-rows at a.id None (read_holds a.mode a.n) (read-holds-once at a.n is.least a.mode) taken, rows-le a rows count is taken left so_far))

  freed-at : (n : Number) (taken : List Row) (walk : Walk (Option RowNo)) → ObeysAt at 0 (read_freed a n taken walk)
  freed-at n taken (Through None) = tt
  freed-at n taken (Through (Some row)) = tt
  freed-at n taken (Stopped row e r) = tt

  drawn-at : (taken : List Row) → SoFar a taken [] → (d : Result Number Spent) → ObeysAt at (length a.parts) (read_drawn a taken d)
  drawn-at taken so_far (Err spent) = read-refused-at (causes.Spent spent.seen) taken [] (length a.parts) so_far (omega arith)
  drawn-at taken so_far (Ok n) =
      at-run at (λ (row : Option RowNo). Unit {0}) freeing (read_freed a n taken) 0
      (λ row e r i. tt) (λ row i. freed-at n taken (Through row)) (λ row e r i. freed-at n taken (Stopped row e r))
      (numbered_releases a n taken) None (length a.parts)
      (omega (arith, asks-rows at a.id (Some n) (row_readers a.n) (readers-once at a.n is.least) taken, rows-le a rows count is taken [] so_far)) tt

  numbered-at : (mode : Mode) (taken : List Row) → SoFar a taken [] → ObeysAt at (length a.parts) (read_numbered mode a taken)
  numbered-at Order taken so_far = tt
  numbered-at Lock taken so_far = λ d drawn. drawn-at taken so_far d

  -- A row
  module _ (part : RowPart) (left : List RowPart) (rest : Rows → Steps Finish) (m : ℕ) (enough : length a.parts ≤ m)
      (rest_at : (done : Rows) → SoFar a done.rows left → ObeysAt at m (rest done)) where
    abbrev parity_hits : RowPart → ℕ
    parity_hits p = hit at (parity_bay a.n p.row)

    abbrev out_hits : RowPart → ℕ
    out_hits p = hits at (bays_of a.n p.row (units_out a.n p.mask))

    stopped-at : (room : ℕ) → m ≤ room → (taken : Taken) (e : Errand) (r : Reply) → IsTaking a part left taken → ObeysAt at room (read_refused a taken e r)
    stopped-at room le taken e r t =
        read-refused-at (why (behind_from a.mode a.id) taken e r) (taken.before ++ taken.row ∷ []) left room (taking-ended a part left taken t) (omega arith)

    ended-at : (taken : Taken) → IsTaking a part left taken → ObeysAt at m (rest (row_ended taken))
    ended-at taken t = rest_at (row_ended taken) (taking-ended a part left taken t)

    others-at : (taken : Taken) → IsTaking a part left taken → ObeysAt at (out_hits part + m) (parity_shared a rest (Through taken))
    others-at taken t =
        at-run at (IsTaking a part left) (sharing a with_other) (row_shared a rest) m
        (taking-step a part left with_other keeps-other) ended-at (stopped-at m (omega arith))
        (shares a.id taken.row.part.row (bays_of a.n taken.row.part.row (units_out a.n taken.row.part.mask))) taken (out_hits part + m)
        (omega (
          arith,
          asks-map at (share a.id taken.row.part.row) (λ other. refl) (bays_of a.n taken.row.part.row (units_out a.n taken.row.part.mask)),
          ap out_hits t.row,
        ))
        t

    rest-at : (b : Bool) (taken : Taken) → IsTaking a part left taken → ObeysAt at (parity_hits part + (out_hits part + m)) (share_rest a rest taken b)
    rest-at false taken t =
        at-more at m (parity_hits part + (out_hits part + m)) (rest (row_ended taken)) (omega arith) (ended-at taken t)
    rest-at true taken t =
        at-run at (IsTaking a part left) (sharing a with_parity) (parity_shared a rest) (out_hits part + m)
        (taking-step a part left with_parity keeps-parity) others-at (stopped-at (out_hits part + m) (omega arith))
        (share a.id taken.row.part.row (parity_bay a.n taken.row.part.row) ∷ []) taken (parity_hits part + (out_hits part + m))
        (omega (arith, ap parity_hits t.row)) t

  rows-at : (left : List RowPart) (done : Rows) → SoFar a done.rows left → (room : ℕ) → length left + length a.parts ≤ room → ObeysAt at room (read_rows a left done)
  rows-at [] done so_far room le =
      at-more at (length a.parts) room (read_numbered a.mode a done.rows) (omega arith) (numbered-at a.mode done.rows so_far)
  rows-at (part ∷ left) done so_far room le =
      let m : ℕ = length left + length a.parts in
      let enough : length a.parts ≤ m = omega arith in
      let rest_at : (done : Rows) → SoFar a done.rows left → ObeysAt at m (read_rows a left done) = (λ done so_far. rows-at left done so_far m (omega arith)) in
      let begins : IsTaking a part left (begun part done) = record { row = refl; parts = so_far } in
      let between : ℕ = hit at (parity_bay a.n part.row) + (hits at (bays_of a.n part.row (units_out a.n part.mask)) + m) in
      at-run at (IsTaking a part left) (sharing a with_wanted) (wanted_shared a (read_rows a left)) between
      (taking-step a part left with_wanted keeps-wanted)
      (λ taken t. rest-at part left (read_rows a left) m enough rest_at (lacks taken.row.wanted) taken t)
      (stopped-at part left (read_rows a left) m enough rest_at between (omega arith))
      (shares a.id part.row (bays_of a.n part.row (units_in a.n part.mask))) (begun part done) room
      (omega (
        arith,
        asks-map at (share a.id part.row) (λ other. refl) (bays_of a.n part.row (units_in a.n part.mask)),
        mask-both at a.n part.row is.least part.mask,
        row-once at a.n part.row is.least,
      ))
      begins

pub reads_keep_bay_bounds : ReadsObeyAt
reads_keep_bay_bounds a rows count is at = rows-at at a rows count is a.parts no_rows refl (4 * length a.parts) (omega arith)
