-- Writes keep to their bounds.
use Rattle.std.proofs.Common.{◌≡◌, ℕ, ◌+◌, ◌*◌, ◌<◌, ◌≤◌, Bool, true, false, cond, List, [], ◌∷◌, ◌++◌, Option, Some, None, Result, Ok, Err, IfSome, option_map, zip, length, refl, sym, ap, ◌∙◌, mul-le-mul_left, mul-le-mul_right, arith}
use Rattle.std.specs.List.{AllByRecursion}
use Rattle.std.proofs.lemmas.List.{append-nil, length-map}
use Rattle.raid_base.specs.declared.numbers.BayNo.{BayNo}
use Rattle.raid_base.specs.declared.numbers.Number.{Number}
use Rattle.raid_base.specs.declared.numbers.Spent.{Spent}
use Rattle.raid_base.specs.declared.messages.How.TheVariants as hows
use Rattle.raid_base.specs.declared.messages.Mode.{Mode}
use Rattle.raid_base.specs.declared.messages.Mode.TheVariants.{Lock, Order}
use Rattle.raid_base.specs.declared.messages.Reply.{Reply}
use Rattle.raid_base.specs.declared.messages.Errand.{Errand}
use Rattle.raid_base.specs.declared.messages.Grant.{Grant}
use Rattle.raid_base.specs.declared.cells.Cell.{Cell}
use Rattle.raid_base.specs.declared.jobs.Cause.{Cause}
use Rattle.raid_base.specs.declared.jobs.Cause.TheVariants as causes
use Rattle.raid_base.specs.declared.jobs.Plan.{Plan}
use Rattle.raid_base.specs.declared.jobs.Plan.TheVariants.{Full, Small, Reconstruct}
use Rattle.raid_base.specs.declared.jobs.RowPart.{RowPart}
use Rattle.raid_base.specs.Replies.{held_of, is_missing}
use Rattle.raid_base.specs.Steps.{Steps, ◌>>=◌, Walk, Through, Stopped, run}
use Rattle.stripe_layout.specs.Placement.{parity_bay, bay_of, bays_of, units_in, units_out}
use Rattle.attempts.specs.Taking.{Access, Finish, finish, Row, Rows, no_rows, Taken, begun, row_ended, lacks, behind_from, refusal, with_grant, taking_until, why, with_parity, with_wanted, with_other, share, claim}
use Rattle.attempts.specs.Releases.{granted_of, others_granted}
use Rattle.attempts.specs.Puts.{wanted_units, plan_of, Puts, no_puts, at_row, data_put, data_puts, putting_data, parity_put, putting_parity, written_or, with_trouble, trouble_of, first_cause}
use Rattle.attempts.specs.Writing.{write_refused, write_stopped, finishing, reader_releases, write_end, write_last, parity_done, put_parity, data_done, put_rows, put_steps, write_drawn, write_numbered, held_row, confirmed_row, unrefused_row, row_or_change, confirming, row_confirm, confirm_cause, row_confirmed, confirm_rows, claiming, row_claimed, wanted_claims, other_shares, claim_wanted, share_others, small_claimed, share_stopped, others_shared, claim_row, parity_claimed, parity_claim, claim_rows}
use Rattle.attempts.specs.Discipline.{IsNumber, IsDrawn, IsWithin, Obeys, IsPlainFinish, IsAccess, WritesObey}
use Rattle.attempts.proofs.ObeyLemmas.{obeys-more, obeys-run, obeys-one}
use Rattle.attempts.proofs.RoomLemmas.{all-made, both-units, granted-le, parity-below, bay-below, others-below, other-bays-le, parts_of}
use Rattle.attempts.proofs.TakenLemmas.{SoFar, so_far-more, IsTaking, taking-ended, keeps-parity, keeps-wanted, keeps-other, taking-granted, taking-step, until-step, some-bays, IsRowWithin, rows-within, part-within, rows-le, shares-within, claims-within, row_releases-le, row_releases-within, write-refused}

pub any : {A : Type 0} (o : Option A) → IfSome o (λ a. Unit {0})
any (Some a) = tt
any None = tt

-- a row that is confirmed keeps its part
held-part : (row : Row) (grant : Grant) (want : Bool) (o : Option (Option Cell)) → IfSome (held_row row grant want o) (λ (r : Row). r.part ≡ row.part)
held-part row grant want None = tt
held-part row grant true (Some None) = tt
held-part row grant true (Some (Some cell)) = refl
held-part row grant false (Some cell) = refl

missing-part : (row : Row) (b : Bool) → IfSome (cond b (Some row) None) (λ (r : Row). r.part ≡ row.part)
missing-part row true = refl
missing-part row false = tt

confirmed-part : (row : Row) (reply : Reply) (o : Option Grant) → IfSome (confirmed_row row reply o) (λ (r : Row). r.part ≡ row.part)
confirmed-part row reply None = missing-part row (is_missing reply)
confirmed-part row reply (Some grant) = held-part row grant (lacks row.others) (held_of reply)

pub unrefused-part : (row : Row) (reply : Reply) (o : Option Cause) → IfSome (unrefused_row row reply o) (λ (r : Row). r.part ≡ row.part)
unrefused-part row reply (Some cause) = tt
unrefused-part row reply None = confirmed-part row reply row.parity

module _ (a : Access) (rows count : ℕ) (is : IsAccess a rows count) where
  abbrev Within : Errand → Type 0
  Within = IsWithin a.n rows

  abbrev Plain : Finish → Type 0
  Plain = IsPlainFinish 0

  -- all that is held at once
  abbrev holds : ℕ
  holds = a.n * length a.parts

  -- The end
  written-plain : (n : Number) (made : List ℕ) (o : Option Cause) → Plain (finish (written_or n made o))
  written-plain n made None = record { ended = tt; contents = omega arith }
  written-plain n made (Some cause) = record { ended = tt; contents = omega arith }

  end-plain : (n : Number) (walk : Walk Puts) → Obeys Within Plain 0 (write_end a n walk)
  end-plain n (Through puts) = written-plain n puts.made (first_cause a puts.made puts.troubles)
  end-plain n (Stopped puts errand reply) = written-plain n puts.made (first_cause a puts.made puts.troubles)

  readers-few : (mode : Mode) (taken : List Row) → SoFar a taken [] → length (reader_releases mode a taken) ≤ holds
  readers-few Order taken so_far = omega arith
  readers-few Lock taken so_far = row_releases-le a rows count is None (λ (row : Row). bays_of a.n row.part.row (others_granted a.n row)) few taken [] so_far where
    few : (row : Row) → length (bays_of a.n row.part.row (others_granted a.n row)) ≤ a.n
    few row = omega (arith, other-bays-le a.n (some-bays a rows count is) row, both-units a.n row.part.mask)

  readers-within : (mode : Mode) (taken : List Row) → SoFar a taken [] → AllByRecursion Within (reader_releases mode a taken)
  readers-within Order taken so_far = tt
  readers-within Lock taken so_far =
      row_releases-within a rows count is None (λ (row : Row). bays_of a.n row.part.row (others_granted a.n row)) tt (others-below a.n (some-bays a rows count is)) taken [] so_far

  last-obeys : (n : Number) (taken : List Row) → SoFar a taken [] → (puts : Puts) → Obeys Within Plain holds (write_last a n taken puts)
  last-obeys n taken so_far puts =
      obeys-run Within Plain (λ (puts : Puts). Unit {0}) (finishing a n) (write_end a n) 0
      (λ puts e r i. tt) (λ puts i. end-plain n (Through puts)) (λ puts e r i. end-plain n (Stopped puts e r))
      (reader_releases a.mode a taken) puts holds (omega (arith, readers-few a.mode taken so_far)) (readers-within a.mode taken so_far) tt

  -- The puts of a row
  module _ (n : Number) (numbered : IsNumber n) (row : Row) (low : row.part.row.0 < rows) (rest : Puts → Steps Finish) (m : ℕ)
      (rest_obeys : (puts : Puts) → Obeys Within Plain m (rest puts)) where
    parity-put-within : Within (parity_put a n row)
    parity-put-within = record { bay = parity-below a.n row.part.row (some-bays a rows count is); request = (low, is.id, numbered) }

    data-put-within : (unit : ℕ) → Within (data_put a n row unit)
    data-put-within unit = record { bay = bay-below a.n row.part.row unit (some-bays a rows count is); request = (low, is.id, numbered) }

    parity-done-obeys : (walk : Walk Puts) → Obeys Within Plain m (parity_done row rest walk)
    parity-done-obeys (Through puts) = rest_obeys puts
    parity-done-obeys (Stopped puts errand reply) = rest_obeys (with_trouble puts (trouble_of row errand reply))

    put-parity-obeys : (puts : Puts) (o : Option Grant) → Obeys Within Plain (1 + m) (put_parity a n row rest puts o)
    put-parity-obeys puts None = obeys-more Within Plain m (1 + m) (rest puts) (omega arith) (rest_obeys puts)
    put-parity-obeys puts (Some grant) =
        obeys-run Within Plain (λ (puts : Puts). Unit {0}) (putting_parity a n row) (parity_done row rest) m
        (λ puts e r i. any ((putting_parity a n row).step puts e r)) (λ puts i. parity-done-obeys (Through puts)) (λ puts e r i. parity-done-obeys (Stopped puts e r))
        (parity_put a n row ∷ []) puts (1 + m) (omega arith) (parity-put-within, tt) tt

    data-done-obeys : (walk : Walk Puts) → Obeys Within Plain (1 + m) (data_done a n row rest walk)
    data-done-obeys (Through puts) = put-parity-obeys puts row.parity
    data-done-obeys (Stopped puts errand reply) =
        obeys-more Within Plain m (1 + m) (rest (with_trouble puts (trouble_of row errand reply))) (omega arith) (rest_obeys (with_trouble puts (trouble_of row errand reply)))

    data-few : length (data_puts a n row) + 1 ≤ a.n
    data-few =
        omega (
          arith,
          length-map (granted_of (zip (wanted_units a row) row.wanted)) (data_put a n row),
          granted-le (wanted_units a row) row.wanted,
          both-units a.n row.part.mask,
          some-bays a rows count is,
        )

    row-put-obeys : (puts : Puts) (room : ℕ) → a.n + m ≤ room → Obeys Within Plain room (run (putting_data a n row) (data_puts a n row) puts >>= data_done a n row rest)
    row-put-obeys puts room le =
        obeys-run Within Plain (λ (puts : Puts). Unit {0}) (putting_data a n row) (data_done a n row rest) (1 + m)
        (λ puts e r i. any ((putting_data a n row).step puts e r)) (λ puts i. data-done-obeys (Through puts)) (λ puts e r i. data-done-obeys (Stopped puts e r))
        (data_puts a n row) puts room (omega (arith, data-few))
        (all-made Within (data_put a n row) data-put-within (granted_of (zip (wanted_units a row) row.wanted))) tt

  rows-put-obey : (n : Number) → IsNumber n → (last : Puts → Steps Finish) (m : ℕ) → ((puts : Puts) → Obeys Within Plain m (last puts))
      → (left : List Row) → AllByRecursion (IsRowWithin a rows count is) left → (puts : Puts) (room : ℕ) → a.n * length left + m ≤ room → Obeys Within Plain room (put_rows a n last left puts)
  rows-put-obey n numbered last m last_obeys [] low puts room le = obeys-more Within Plain m room (last puts) (omega arith) (last_obeys puts)
  rows-put-obey n numbered last m last_obeys (row ∷ left) low puts room le =
      row-put-obeys n numbered row low.0 (put_rows a n last left) (a.n * length left + m)
      (λ puts. rows-put-obey n numbered last m last_obeys left low.1 puts (a.n * length left + m) (omega arith))
      (at_row puts) room (omega arith)

  put-obeys : (n : Number) → IsNumber n → (taken : List Row) → SoFar a taken [] → Obeys Within Plain (holds + holds) (put_steps a n taken)
  put-obeys n numbered taken so_far =
      rows-put-obey n numbered (write_last a n taken) holds (last-obeys n taken so_far) taken (rows-within a rows count is taken [] so_far) no_puts (holds + holds)
      (omega (arith, mul-le-mul_left a.n (rows-le a rows count is taken [] so_far)))

  -- The lock point
  write-drawn-obeys : (taken : List Row) → SoFar a taken [] → (d : Result Number Spent) → IsDrawn d → Obeys Within Plain (holds + holds) (write_drawn a taken d)
  write-drawn-obeys taken so_far (Ok n) drawn = put-obeys n drawn taken so_far
  write-drawn-obeys taken so_far (Err spent) drawn = write-refused a rows count is 0 (causes.Spent spent.seen) taken [] (holds + holds) so_far (omega arith)

  write-numbered-obeys : (mode : Mode) (taken : List Row) → SoFar a taken [] → Obeys Within Plain (holds + holds) (write_numbered mode a taken)
  write-numbered-obeys Order taken so_far = put-obeys a.id is.id taken so_far
  write-numbered-obeys Lock taken so_far = λ d drawn. write-drawn-obeys taken so_far d drawn

  -- Confirms
  confirm-within : (row : Row) → row.part.row.0 < rows → Within (row_confirm a row)
  confirm-within row low = record { bay = parity-below a.n row.part.row (some-bays a rows count is); request = (low, is.id) }

  confirmed-goes : (m : ℕ) (row : Row) (left : List RowPart) (done : Rows) (rest : Rows → Steps Finish) → SoFar a done.rows (row.part ∷ left)
      → ((done : Rows) → SoFar a done.rows left → Obeys Within Plain m (rest done)) → (o : Option Row) → IfSome o (λ (r : Row). r.part ≡ row.part)
      → IfSome (option_map (λ (r : Row). record done { rows = done.rows ++ r ∷ [] }) o) (λ (done : Rows). Obeys Within Plain m (rest done))
  confirmed-goes m row left done rest so_far rest_obeys (Some r) same =
      rest_obeys (record done { rows = done.rows ++ r ∷ [] }) (so_far-more a done.rows r row.part left same so_far)
  confirmed-goes m row left done rest so_far rest_obeys None same = tt

  confirm-obeys : (taken : List Row) → SoFar a taken [] → (left : List Row) (done : Rows) → SoFar a done.rows (parts_of left) → (room : ℕ) → length left + (holds + holds) ≤ room
      → Obeys Within Plain room (confirm_rows a taken left done)
  confirm-obeys taken all [] done so_far room le =
      obeys-more Within Plain (holds + holds) room (write_numbered a.mode a done.rows) (omega arith) (write-numbered-obeys a.mode done.rows so_far)
  confirm-obeys taken all (row ∷ left) done so_far room le =
      let m : ℕ = length left + (holds + holds) in
      obeys-one Within Plain (confirming a row) (row_confirmed a taken row (confirm_rows a taken left)) m (row_confirm a row) done room (omega arith)
      (confirm-within row (part-within a rows count is done.rows row.part (parts_of left) so_far))
      (λ r. confirmed-goes m row (parts_of left) done (confirm_rows a taken left) so_far
      (λ done so_far. confirm-obeys taken all left done so_far m (omega arith))
      (row_or_change (behind_from a.mode a.id) done.missing (parity_bay a.n row.part.row) row r)
      (unrefused-part row r (refusal (behind_from a.mode a.id) done.missing (parity_bay a.n row.part.row) r)))
      (λ r. write-refused a rows count is 0 (confirm_cause a row done (row_confirm a row) r) taken [] m all (omega arith))

  -- The claims of a row
  module _ (part : RowPart) (left : List RowPart) (rest : Rows → Steps Finish) (m : ℕ) (enough : holds ≤ m)
      (rest_obeys : (done : Rows) → SoFar a done.rows left → Obeys Within Plain m (rest done)) where
    abbrev ins : ℕ
    ins = length (units_in a.n part.mask)

    abbrev outs : ℕ
    outs = length (units_out a.n part.mask)

    refused-obeys : (cause : Cause) (room : ℕ) → m ≤ room → (taken : Taken) → IsTaking a part left taken → Obeys Within Plain room (write_refused a taken cause)
    refused-obeys cause room le taken t =
        write-refused a rows count is 0 cause (taken.before ++ taken.row ∷ []) left room (taking-ended a part left taken t) (omega arith)

    stopped-obeys : (room : ℕ) → m ≤ room → (taken : Taken) (e : Errand) (r : Reply) → IsTaking a part left taken → Obeys Within Plain room (write_stopped a taken e r)
    stopped-obeys room le taken e r t = refused-obeys (why (behind_from a.mode a.id) taken e r) room le taken t

    ended-obeys : (taken : Taken) → IsTaking a part left taken → Obeys Within Plain m (rest (row_ended taken))
    ended-obeys taken t = rest_obeys (row_ended taken) (taking-ended a part left taken t)

    wanted-few : (want : Bool) (taken : Taken) → IsTaking a part left taken → length (wanted_claims a want taken.row.part) ≤ ins
    wanted-few want taken t =
        omega (
          arith,
          length-map (bays_of a.n taken.row.part.row (units_in a.n taken.row.part.mask)) (claim a.id taken.row.part.row hows.Plain 0 want),
          length-map (units_in a.n taken.row.part.mask) (bay_of a.n taken.row.part.row),
          ap (λ (p : RowPart). length (units_in a.n p.mask)) t.row,
        )

    others-few : (taken : Taken) → IsTaking a part left taken → length (other_shares a taken.row.part) ≤ outs
    others-few taken t =
        omega (
          arith,
          length-map (bays_of a.n taken.row.part.row (units_out a.n taken.row.part.mask)) (share a.id taken.row.part.row),
          length-map (units_out a.n taken.row.part.mask) (bay_of a.n taken.row.part.row),
          ap (λ (p : RowPart). length (units_out a.n p.mask)) t.row,
        )

    claim-wanted-obeys : (want : Bool) (taken : Taken) → IsTaking a part left taken → (room : ℕ) → ins + m ≤ room → Obeys Within Plain room (claim_wanted a rest want taken)
    claim-wanted-obeys want taken t room le =
        obeys-run Within Plain (IsTaking a part left) (claiming a with_wanted) (row_claimed a rest) m
        (taking-step a part left with_wanted keeps-wanted) ended-obeys (stopped-obeys m (omega arith))
        (wanted_claims a want taken.row.part) taken room (omega (arith, wanted-few want taken t))
        (claims-within a rows count is part left taken t want (units_in a.n taken.row.part.mask)) t

    share-others-obeys : (b : Bool) (taken : Taken) → IsTaking a part left taken → Obeys Within Plain (outs + m) (share_others a rest taken b)
    share-others-obeys false taken t = obeys-more Within Plain m (outs + m) (rest (row_ended taken)) (omega arith) (ended-obeys taken t)
    share-others-obeys true taken t =
        obeys-run Within Plain (IsTaking a part left) (claiming a with_other) (row_claimed a rest) m
        (taking-step a part left with_other keeps-other) ended-obeys (stopped-obeys m (omega arith))
        (other_shares a taken.row.part) taken (outs + m) (omega (arith, others-few taken t))
        (shares-within a rows count is part left taken t (units_out a.n taken.row.part.mask)) t

    share-stopped-obeys : (taken : Taken) (bay : BayNo) (o : Option Cause) → IsTaking a part left taken → Obeys Within Plain (ins + m) (share_stopped a rest taken bay o)
    share-stopped-obeys taken bay (Some cause) t = refused-obeys cause (ins + m) (omega arith) taken t
    share-stopped-obeys taken bay None t =
        claim-wanted-obeys true (with_grant with_other taken bay None) (taking-granted a part left with_other keeps-other taken bay None t) (ins + m) (omega arith)

    claim-row-obeys : (taken : Taken) → IsTaking a part left taken → (o : Option Grant) (plan : Plan) → Obeys Within Plain (ins + (outs + m)) (claim_row a rest taken o plan)
    claim-row-obeys taken t None plan = claim-wanted-obeys false taken t (ins + (outs + m)) (omega arith)
    claim-row-obeys taken t (Some grant) Full = claim-wanted-obeys false taken t (ins + (outs + m)) (omega arith)
    claim-row-obeys taken t (Some grant) Small =
        obeys-run Within Plain (IsTaking a part left) (claiming a with_wanted) (small_claimed a rest) (outs + m)
        (taking-step a part left with_wanted keeps-wanted) (λ taken t. share-others-obeys (lacks taken.row.wanted) taken t) (stopped-obeys (outs + m) (omega arith))
        (wanted_claims a true taken.row.part) taken (ins + (outs + m)) (omega (arith, wanted-few true taken t))
        (claims-within a rows count is part left taken t true (units_in a.n taken.row.part.mask)) t
    claim-row-obeys taken t (Some grant) Reconstruct =
        obeys-run Within Plain (IsTaking a part left) (taking_until with_other) (others_shared a rest) (ins + m)
        (until-step a part left with_other keeps-other) (λ taken t. claim-wanted-obeys false taken t (ins + m) (omega arith))
        (λ taken e r t. share-stopped-obeys taken e.bay (refusal (behind_from a.mode a.id) taken.missing e.bay r) t)
        (other_shares a taken.row.part) taken (ins + (outs + m)) (omega (arith, others-few taken t))
        (shares-within a rows count is part left taken t (units_out a.n taken.row.part.mask)) t

    claims-obey : (done : Rows) → SoFar a done.rows (part ∷ left) → (room : ℕ) → a.n + m ≤ room
        → Obeys Within Plain room (run (claiming a with_parity) (parity_claim a part ∷ []) (begun part done) >>= parity_claimed a rest)
    claims-obey done so_far room le =
        obeys-run Within Plain (IsTaking a part left) (claiming a with_parity) (parity_claimed a rest) (ins + (outs + m))
        (taking-step a part left with_parity keeps-parity) (λ taken t. claim-row-obeys taken t taken.row.parity (plan_of a taken.row.part))
        (stopped-obeys (ins + (outs + m)) (omega arith))
        (parity_claim a part ∷ []) (begun part done) room (omega (arith, both-units a.n part.mask, some-bays a rows count is))
        (record { bay = parity-below a.n part.row (some-bays a rows count is); request = (part-within a rows count is done.rows part left so_far, is.id) }, tt)
        (record { row = refl; parts = so_far })

  rows-obey : (left : List RowPart) (done : Rows) → SoFar a done.rows left → (room : ℕ) → a.n * length left + (length a.parts + (holds + holds)) ≤ room
      → Obeys Within Plain room (claim_rows a left done)
  rows-obey [] done so_far room le =
      confirm-obeys done.rows so_far done.rows (record done { rows = [] }) (sym (append-nil (parts_of done.rows)) ∙ so_far) room
      (omega (arith, rows-le a rows count is done.rows [] so_far))
  rows-obey (part ∷ left) done so_far room le =
      let m : ℕ = a.n * length left + (length a.parts + (holds + holds)) in
      claims-obey part left (claim_rows a left) m (omega arith) (λ done so_far. rows-obey left done so_far m (omega arith)) done so_far room (omega arith)

pub writes_keep_bounds : WritesObey
writes_keep_bounds a rows count is =
    let least : 1 ≤ a.n = some-bays a rows count is in
    rows-obey a rows count is a.parts no_rows refl (4 * a.n * length a.parts) (omega (arith, mul-le-mul_right (length a.parts) least))
