-- Reads keep to their bounds.
use Rattle.std.proofs.Common.{◌≡◌, ℕ, ◌+◌, ◌*◌, ◌≤◌, Bool, true, false, List, [], ◌∷◌, ◌++◌, Option, Some, None, Result, Ok, Err, sum_by, length, refl, sym, ap, subst, ◌∙◌, arith}
use Rattle.std.proofs.lemmas.List.{append-nil, length-map}
use Rattle.raid_base.specs.declared.numbers.RowNo.{RowNo}
use Rattle.raid_base.specs.declared.numbers.Number.{Number}
use Rattle.raid_base.specs.declared.numbers.Spent.{Spent}
use Rattle.raid_base.specs.declared.messages.Mode.{Mode}
use Rattle.raid_base.specs.declared.messages.Mode.TheVariants.{Lock, Order}
use Rattle.raid_base.specs.declared.messages.Reply.{Reply}
use Rattle.raid_base.specs.declared.messages.Errand.{Errand}
use Rattle.raid_base.specs.declared.jobs.Cause.TheVariants as causes
use Rattle.raid_base.specs.declared.jobs.RowPart.{RowPart}
use Rattle.raid_base.specs.Steps.{Steps, Walk, Through, Stopped}
use Rattle.stripe_layout.specs.Placement.{parity_bay, bay_of, bays_of, units_in, units_out}
use Rattle.attempts.specs.Taking.{Access, Finish, Row, Rows, no_rows, Taken, begun, row_ended, lacks, behind_from, why, with_parity, with_wanted, with_other, share, shares}
use Rattle.attempts.specs.Reading.{sharing, read_refused, read_finish, row_readers, numbered_releases, freeing, read_freed, read_drawn, read_numbered, row_shared, parity_shared, share_rest, wanted_shared, read_rows}
use Rattle.attempts.specs.Discipline.{IsDrawn, IsWithin, Obeys, IsPlainFinish, IsAccess, ReadsObey}
use Rattle.attempts.proofs.ObeyLemmas.{obeys-more, obeys-run}
use Rattle.attempts.proofs.RoomLemmas.{both-units, readers-below, readers-le, contents-le, parts_of}
use Rattle.attempts.proofs.TakenLemmas.{SoFar, IsTaking, taking-ended, keeps-parity, keeps-wanted, keeps-other, taking-step, shares-within, parity-within, some-bays, row_releases-le, row_releases-within, read-refused}

module _ (a : Access) (rows count : ℕ) (is : IsAccess a rows count) where
  abbrev Within : Errand → Type 0
  Within = IsWithin a.n rows

  abbrev Plain : Finish → Type 0
  Plain = IsPlainFinish count

  -- all that is held at once
  abbrev holds : ℕ
  holds = a.n * length a.parts

  -- The end
  read-plain : (n : Number) (taken : List Row) → SoFar a taken [] → Plain (read_finish a n taken)
  read-plain n taken so_far =
      let all : parts_of taken ≡ a.parts = sym (append-nil (parts_of taken)) ∙ so_far in
      let few : sum_by (λ (part : RowPart). length (units_in a.n part.mask)) (parts_of taken) ≤ count =
      subst (λ ps. sum_by (λ (part : RowPart). length (units_in a.n part.mask)) ps ≤ count) (sym all) is.covered in
      record { ended = tt; contents = omega (arith, contents-le a.n taken) }

  freed-plain : (n : Number) (taken : List Row) → SoFar a taken [] → (walk : Walk (Option RowNo)) → Obeys Within Plain 0 (read_freed a n taken walk)
  freed-plain n taken so_far (Through None) = read-plain n taken so_far
  freed-plain n taken so_far (Through (Some row)) = record { ended = tt; contents = omega arith }
  freed-plain n taken so_far (Stopped row errand reply) = read-plain n taken so_far

  drawn-obeys : (taken : List Row) → SoFar a taken [] → (d : Result Number Spent) → IsDrawn d → Obeys Within Plain holds (read_drawn a taken d)
  drawn-obeys taken so_far (Err spent) drawn = read-refused a rows count is count (causes.Spent spent.seen) taken [] holds so_far (omega arith)
  drawn-obeys taken so_far (Ok n) drawn =
      obeys-run Within Plain (λ (row : Option RowNo). Unit {0}) freeing (read_freed a n taken) 0
      (λ row e r i. tt) (λ row i. freed-plain n taken so_far (Through row)) (λ row e r i. freed-plain n taken so_far (Stopped row e r))
      (numbered_releases a n taken) None holds
      (omega (arith, row_releases-le a rows count is (Some n) (row_readers a.n) (readers-le a.n (some-bays a rows count is)) taken [] so_far))
      (row_releases-within a rows count is (Some n) (row_readers a.n) drawn (readers-below a.n (some-bays a rows count is)) taken [] so_far)
      tt

  numbered-obeys : (mode : Mode) (taken : List Row) → SoFar a taken [] → Obeys Within Plain holds (read_numbered mode a taken)
  numbered-obeys Order taken so_far = read-plain a.id taken so_far
  numbered-obeys Lock taken so_far = λ d drawn. drawn-obeys taken so_far d drawn

  -- A row
  module _ (part : RowPart) (left : List RowPart) (rest : Rows → Steps Finish) (m : ℕ) (enough : holds ≤ m)
      (rest_obeys : (done : Rows) → SoFar a done.rows left → Obeys Within Plain m (rest done)) where
    stopped-obeys : (room : ℕ) → m ≤ room → (taken : Taken) (e : Errand) (r : Reply) → IsTaking a part left taken → Obeys Within Plain room (read_refused a taken e r)
    stopped-obeys room le taken e r t =
        read-refused a rows count is count (why (behind_from a.mode a.id) taken e r) (taken.before ++ taken.row ∷ []) left room (taking-ended a part left taken t) (omega arith)

    ended-obeys : (taken : Taken) → IsTaking a part left taken → Obeys Within Plain m (rest (row_ended taken))
    ended-obeys taken t = rest_obeys (row_ended taken) (taking-ended a part left taken t)

    others-obey : (taken : Taken) → IsTaking a part left taken → Obeys Within Plain (length (units_out a.n part.mask) + m) (parity_shared a rest (Through taken))
    others-obey taken t =
        obeys-run Within Plain (IsTaking a part left) (sharing a with_other) (row_shared a rest) m
        (taking-step a part left with_other keeps-other) ended-obeys (stopped-obeys m (omega arith))
        (shares a.id taken.row.part.row (bays_of a.n taken.row.part.row (units_out a.n taken.row.part.mask))) taken (length (units_out a.n part.mask) + m)
        (omega (
          arith,
          length-map (bays_of a.n taken.row.part.row (units_out a.n taken.row.part.mask)) (share a.id taken.row.part.row),
          length-map (units_out a.n taken.row.part.mask) (bay_of a.n taken.row.part.row),
          ap (λ (p : RowPart). length (units_out a.n p.mask)) t.row,
        ))
        (shares-within a rows count is part left taken t (units_out a.n taken.row.part.mask)) t

    rest-obeys : (b : Bool) (taken : Taken) → IsTaking a part left taken → Obeys Within Plain (1 + (length (units_out a.n part.mask) + m)) (share_rest a rest taken b)
    rest-obeys false taken t =
        obeys-more Within Plain m (1 + (length (units_out a.n part.mask) + m)) (rest (row_ended taken)) (omega arith) (ended-obeys taken t)
    rest-obeys true taken t =
        obeys-run Within Plain (IsTaking a part left) (sharing a with_parity) (parity_shared a rest) (length (units_out a.n part.mask) + m)
        (taking-step a part left with_parity keeps-parity) others-obey (stopped-obeys (length (units_out a.n part.mask) + m) (omega arith))
        (share a.id taken.row.part.row (parity_bay a.n taken.row.part.row) ∷ []) taken (1 + (length (units_out a.n part.mask) + m))
        (omega arith) (parity-within a rows count is part left taken t, tt) t

  rows-obey : (left : List RowPart) (done : Rows) → SoFar a done.rows left → (room : ℕ) → a.n * length left + holds ≤ room → Obeys Within Plain room (read_rows a left done)
  rows-obey [] done so_far room le =
      obeys-more Within Plain holds room (read_numbered a.mode a done.rows) (omega arith)
      (numbered-obeys a.mode done.rows so_far)
  rows-obey (part ∷ left) done so_far room le =
      let m : ℕ = a.n * length left + holds in
      let enough : holds ≤ m = omega arith in
      let rest_obeys : (done : Rows) → SoFar a done.rows left → Obeys Within Plain m (read_rows a left done) = (λ done so_far. rows-obey left done so_far m (omega arith)) in
      let begins : IsTaking a part left (begun part done) = record { row = refl; parts = so_far } in
      obeys-run Within Plain (IsTaking a part left) (sharing a with_wanted) (wanted_shared a (read_rows a left)) (1 + (length (units_out a.n part.mask) + m))
      (taking-step a part left with_wanted keeps-wanted)
      (λ taken t. rest-obeys part left (read_rows a left) m enough rest_obeys (lacks taken.row.wanted) taken t)
      (stopped-obeys part left (read_rows a left) m enough rest_obeys (1 + (length (units_out a.n part.mask) + m)) (omega arith))
      (shares a.id part.row (bays_of a.n part.row (units_in a.n part.mask))) (begun part done) room
      (omega (
        arith,
        length-map (bays_of a.n part.row (units_in a.n part.mask)) (share a.id part.row),
        length-map (units_in a.n part.mask) (bay_of a.n part.row),
        both-units a.n part.mask,
        some-bays a rows count is,
      ))
      (shares-within a rows count is part left (begun part done) begins (units_in a.n part.mask)) begins

pub reads_keep_bounds : ReadsObey
reads_keep_bounds a rows count is = rows-obey a rows count is a.parts no_rows refl (4 * a.n * length a.parts) (omega arith)
