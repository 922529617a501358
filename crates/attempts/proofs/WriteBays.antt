-- Writes keep to the bound of each bay.
use Rattle.std.proofs.Common.{◌≡◌, ℕ, ◌+◌, ◌*◌, ◌≤◌, Bool, true, false, List, [], ◌∷◌, ◌++◌, Option, Some, None, Result, Ok, Err, IfSome, option_map, zip, length, refl, sym, ap, ◌∙◌, arith}
use Rattle.std.proofs.lemmas.List.{append-nil}
use Rattle.raid_base.specs.declared.numbers.BayNo.{BayNo}
use Rattle.raid_base.specs.declared.numbers.Number.{Number}
use Rattle.raid_base.specs.declared.numbers.Spent.{Spent}
use Rattle.raid_base.specs.declared.messages.How.TheVariants as hows
use Rattle.raid_base.specs.declared.messages.Mode.{Mode}
use Rattle.raid_base.specs.declared.messages.Mode.TheVariants.{Lock, Order}
use Rattle.raid_base.specs.declared.messages.Reply.{Reply}
use Rattle.raid_base.specs.declared.messages.Errand.{Errand}
use Rattle.raid_base.specs.declared.messages.Grant.{Grant}
use Rattle.raid_base.specs.declared.jobs.Cause.{Cause}
use Rattle.raid_base.specs.declared.jobs.Cause.TheVariants as causes
use Rattle.raid_base.specs.declared.jobs.Plan.{Plan}
use Rattle.raid_base.specs.declared.jobs.Plan.TheVariants.{Full, Small, Reconstruct}
use Rattle.raid_base.specs.declared.jobs.RowPart.{RowPart}
use Rattle.raid_base.specs.Steps.{Steps, ◌>>=◌, Walk, Through, Stopped, run}
use Rattle.stripe_layout.specs.Placement.{parity_bay, bay_of, bays_of, units_in, units_out}
use Rattle.attempts.specs.Taking.{Access, Finish, Row, Rows, no_rows, Taken, begun, row_ended, lacks, behind_from, refusal, with_grant, taking_until, why, with_parity, with_wanted, with_other, share, claim}
use Rattle.attempts.specs.Releases.{refused_steps, granted_of, others_granted, write_holds, write_releases}
use Rattle.attempts.specs.Puts.{wanted_units, plan_of, Puts, no_puts, at_row, data_put, data_puts, putting_data, parity_put, putting_parity, with_trouble, trouble_of}
use Rattle.attempts.specs.Writing.{write_refused, write_stopped, finishing, reader_releases, write_end, write_last, parity_done, put_parity, data_done, put_rows, put_steps, write_drawn, write_numbered, row_or_change, confirming, row_confirm, confirm_cause, row_confirmed, confirm_rows, claiming, row_claimed, wanted_claims, other_shares, claim_wanted, share_others, small_claimed, share_stopped, others_shared, claim_row, parity_claimed, parity_claim, claim_rows}
use Rattle.attempts.specs.Discipline.{IsAccess}
use Rattle.attempts.specs.BayBounds.{ObeysAt, WritesObeyAt}
use Rattle.attempts.proofs.RoomLemmas.{parts_of}
use Rattle.attempts.proofs.TakenLemmas.{SoFar, so_far-more, IsTaking, taking-ended, keeps-parity, keeps-wanted, keeps-other, taking-granted, taking-step, until-step, rows-le}
use Rattle.attempts.proofs.WriteObeys.{any, unrefused-part}
use Rattle.attempts.proofs.BayLemmas.{hit, hits, asks, hit-le, asks-map, asks-units, asks-rows, granted-hits, mask-both, row-once, others-once, write-holds-once, at-more, at-run, at-one}
use Rattle.attempts.proofs.ReadBays.{refused-at}

module _ (at : BayNo) (a : Access) (rows count : ℕ) (is : IsAccess a rows count) where
  abbrev all_rows : ℕ
  all_rows = length a.parts

  -- a row's units that are wanted, its other units and its parity
  abbrev in_hits : RowPart → ℕ
  in_hits p = hits at (bays_of a.n p.row (units_in a.n p.mask))

  abbrev out_hits : RowPart → ℕ
  out_hits p = hits at (bays_of a.n p.row (units_out a.n p.mask))

  abbrev parity_hits : RowPart → ℕ
  parity_hits p = hit at (parity_bay a.n p.row)

  part-once : (p : RowPart) → in_hits p + out_hits p + parity_hits p ≤ 1
  part-once p = omega (arith, mask-both at a.n p.row is.least p.mask, row-once at a.n p.row is.least)

  write-refused-at : (cause : Cause) (taken : List Row) (left : List RowPart) (room : ℕ) → SoFar a taken left → all_rows ≤ room
      → ObeysAt at room (refused_steps (write_releases a taken) cause)
  write-refused-at cause taken left room so_far le =
      refused-at at (write_releases a taken) cause room
      (omega (arith, asks-rows at a.id None (write_holds a.mode a.n) (write-holds-once at a.n is.least a.mode) taken, rows-le a rows count is taken left so_far))

  -- The end
  end-at : (n : Number) (walk : Walk Puts) → ObeysAt at 0 (write_end a n walk)
  end-at n (Through puts) = tt
  end-at n (Stopped puts e r) = tt

  readers-at : (mode : Mode) (taken : List Row) → SoFar a taken [] → asks at (reader_releases mode a taken) ≤ all_rows
  readers-at Order taken so_far = omega arith
  readers-at Lock taken so_far =
      omega (
        arith,
        asks-rows at a.id None (λ (row : Row). bays_of a.n row.part.row (others_granted a.n row)) (others-once at a.n is.least) taken,
        rows-le a rows count is taken [] so_far,
      )

  last-at : (n : Number) (taken : List Row) → SoFar a taken [] → (puts : Puts) → ObeysAt at all_rows (write_last a n taken puts)
  last-at n taken so_far puts =
      at-run at (λ (puts : Puts). Unit {0}) (finishing a n) (write_end a n) 0
      (λ puts e r i. tt) (λ puts i. end-at n (Through puts)) (λ puts e r i. end-at n (Stopped puts e r))
      (reader_releases a.mode a taken) puts all_rows (omega (arith, readers-at a.mode taken so_far)) tt

  -- The puts of a row
  module _ (n : Number) (row : Row) (rest : Puts → Steps Finish) (m : ℕ) (rest_at : (puts : Puts) → ObeysAt at m (rest puts)) where
    parity-done-at : (walk : Walk Puts) → ObeysAt at m (parity_done row rest walk)
    parity-done-at (Through puts) = rest_at puts
    parity-done-at (Stopped puts e r) = rest_at (with_trouble puts (trouble_of row e r))

    put-parity-at : (puts : Puts) (o : Option Grant) → ObeysAt at (parity_hits row.part + m) (put_parity a n row rest puts o)
    put-parity-at puts None = at-more at m (parity_hits row.part + m) (rest puts) (omega arith) (rest_at puts)
    put-parity-at puts (Some grant) =
        at-run at (λ (puts : Puts). Unit {0}) (putting_parity a n row) (parity_done row rest) m
        (λ puts e r i. any ((putting_parity a n row).step puts e r)) (λ puts i. parity-done-at (Through puts)) (λ puts e r i. parity-done-at (Stopped puts e r))
        (parity_put a n row ∷ []) puts (parity_hits row.part + m) (omega arith) tt

    data-done-at : (walk : Walk Puts) → ObeysAt at (parity_hits row.part + m) (data_done a n row rest walk)
    data-done-at (Through puts) = put-parity-at puts row.parity
    data-done-at (Stopped puts e r) =
        at-more at m (parity_hits row.part + m) (rest (with_trouble puts (trouble_of row e r))) (omega arith) (rest_at (with_trouble puts (trouble_of row e r)))

    row-put-at : (puts : Puts) (room : ℕ) → 1 + m ≤ room → ObeysAt at room (run (putting_data a n row) (data_puts a n row) puts >>= data_done a n row rest)
    row-put-at puts room le =
        at-run at (λ (puts : Puts). Unit {0}) (putting_data a n row) (data_done a n row rest) (parity_hits row.part + m)
        (λ puts e r i. any ((putting_data a n row).step puts e r)) (λ puts i. data-done-at (Through puts)) (λ puts e r i. data-done-at (Stopped puts e r))
        (data_puts a n row) puts room
        (omega (
          arith,
          asks-units at (data_put a n row) (bay_of a.n row.part.row) (λ unit. refl) (granted_of (zip (wanted_units a row) row.wanted)),
          granted-hits at (bay_of a.n row.part.row) (wanted_units a row) row.wanted,
          part-once row.part,
        ))
        tt

  rows-put-at : (n : Number) (last : Puts → Steps Finish) (m : ℕ) → ((puts : Puts) → ObeysAt at m (last puts))
      → (left : List Row) (puts : Puts) (room : ℕ) → length left + m ≤ room → ObeysAt at room (put_rows a n last left puts)
  rows-put-at n last m last_at [] puts room le = at-more at m room (last puts) (omega arith) (last_at puts)
  rows-put-at n last m last_at (row ∷ left) puts room le =
      row-put-at n row (put_rows a n last left) (length left + m) (λ puts. rows-put-at n last m last_at left puts (length left + m) (omega arith)) (at_row puts) room (omega arith)

  put-at : (n : Number) (taken : List Row) → SoFar a taken [] → ObeysAt at (all_rows + all_rows) (put_steps a n taken)
  put-at n taken so_far =
      rows-put-at n (write_last a n taken) all_rows (last-at n taken so_far) taken no_puts (all_rows + all_rows) (omega (arith, rows-le a rows count is taken [] so_far))

  -- The lock point
  write-drawn-at : (taken : List Row) → SoFar a taken [] → (d : Result Number Spent) → ObeysAt at (all_rows + all_rows) (write_drawn a taken d)
  write-drawn-at taken so_far (Ok n) = put-at n taken so_far
  write-drawn-at taken so_far (Err spent) = write-refused-at (causes.Spent spent.seen) taken [] (all_rows + all_rows) so_far (omega arith)

  write-numbered-at : (mode : Mode) (taken : List Row) → SoFar a taken [] → ObeysAt at (all_rows + all_rows) (write_numbered mode a taken)
  write-numbered-at Order taken so_far = put-at a.id taken so_far
  write-numbered-at Lock taken so_far = λ d drawn. write-drawn-at taken so_far d

  -- Confirms
  confirmed-goes-at : (m : ℕ) (row : Row) (left : List RowPart) (done : Rows) (rest : Rows → Steps Finish) → SoFar a done.rows (row.part ∷ left)
      → ((done : Rows) → SoFar a done.rows left → ObeysAt at m (rest done)) → (o : Option Row) → IfSome o (λ (r : Row). r.part ≡ row.part)
      → IfSome (option_map (λ (r : Row). record done { rows = done.rows ++ r ∷ [] }) o) (λ (done : Rows). ObeysAt at m (rest done))
  confirmed-goes-at m row left done rest so_far rest_at (Some r) same = rest_at (record done { rows = done.rows ++ r ∷ [] }) (so_far-more a done.rows r row.part left same so_far)
  confirmed-goes-at m row left done rest so_far rest_at None same = tt

  confirm-at : (taken : List Row) → SoFar a taken [] → (left : List Row) (done : Rows) → SoFar a done.rows (parts_of left) → (room : ℕ) → length left + (all_rows + all_rows) ≤ room
      → ObeysAt at room (confirm_rows a taken left done)
  confirm-at taken all [] done so_far room le =
      at-more at (all_rows + all_rows) room (write_numbered a.mode a done.rows) (omega arith) (write-numbered-at a.mode done.rows so_far)
  confirm-at taken all (row ∷ left) done so_far room le =
      let m : ℕ = length left + (all_rows + all_rows) in
      at-one at (confirming a row) (row_confirmed a taken row (confirm_rows a taken left)) m (row_confirm a row) done room
      (omega (arith, hit-le at (parity_bay a.n row.part.row)))
      (λ r. confirmed-goes-at m row (parts_of left) done (confirm_rows a taken left) so_far
      (λ done so_far. confirm-at taken all left done so_far m (omega arith))
      (row_or_change (behind_from a.mode a.id) done.missing (parity_bay a.n row.part.row) row r)
      (unrefused-part row r (refusal (behind_from a.mode a.id) done.missing (parity_bay a.n row.part.row) r)))
      (λ r. write-refused-at (confirm_cause a row done (row_confirm a row) r) taken [] m all (omega arith))

  -- The claims of a row
  module _ (part : RowPart) (left : List RowPart) (rest : Rows → Steps Finish) (m : ℕ) (enough : all_rows ≤ m)
      (rest_at : (done : Rows) → SoFar a done.rows left → ObeysAt at m (rest done)) where
    refused-row-at : (cause : Cause) (room : ℕ) → m ≤ room → (taken : Taken) → IsTaking a part left taken → ObeysAt at room (write_refused a taken cause)
    refused-row-at cause room le taken t = write-refused-at cause (taken.before ++ taken.row ∷ []) left room (taking-ended a part left taken t) (omega arith)

    stopped-at : (room : ℕ) → m ≤ room → (taken : Taken) (e : Errand) (r : Reply) → IsTaking a part left taken → ObeysAt at room (write_stopped a taken e r)
    stopped-at room le taken e r t = refused-row-at (why (behind_from a.mode a.id) taken e r) room le taken t

    ended-at : (taken : Taken) → IsTaking a part left taken → ObeysAt at m (rest (row_ended taken))
    ended-at taken t = rest_at (row_ended taken) (taking-ended a part left taken t)

    wanted-asks : (want : Bool) (taken : Taken) → IsTaking a part left taken → asks at (wanted_claims a want taken.row.part) ≡ in_hits part
    wanted-asks want taken t =
        asks-map at (claim a.id taken.row.part.row hows.Plain 0 want) (λ other. refl) (bays_of a.n taken.row.part.row (units_in a.n taken.row.part.mask)) ∙ ap in_hits t.row

    others-asks : (taken : Taken) → IsTaking a part left taken → asks at (other_shares a taken.row.part) ≡ out_hits part
    others-asks taken t =
        asks-map at (share a.id taken.row.part.row) (λ other. refl) (bays_of a.n taken.row.part.row (units_out a.n taken.row.part.mask)) ∙ ap out_hits t.row

    claim-wanted-at : (want : Bool) (taken : Taken) → IsTaking a part left taken → (room : ℕ) → in_hits part + m ≤ room → ObeysAt at room (claim_wanted a rest want taken)
    claim-wanted-at want taken t room le =
        at-run at (IsTaking a part left) (claiming a with_wanted) (row_claimed a rest) m
        (taking-step a part left with_wanted keeps-wanted) ended-at (stopped-at m (omega arith))
        (wanted_claims a want taken.row.part) taken room (omega (arith, wanted-asks want taken t)) t

    share-others-at : (b : Bool) (taken : Taken) → IsTaking a part left taken → ObeysAt at (out_hits part + m) (share_others a rest taken b)
    share-others-at false taken t = at-more at m (out_hits part + m) (rest (row_ended taken)) (omega arith) (ended-at taken t)
    share-others-at true taken t =
        at-run at (IsTaking a part left) (claiming a with_other) (row_claimed a rest) m
        (taking-step a part left with_other keeps-other) ended-at (stopped-at m (omega arith))
        (other_shares a taken.row.part) taken (out_hits part + m) (omega (arith, others-asks taken t)) t

    share-stopped-at : (taken : Taken) (bay : BayNo) (o : Option Cause) → IsTaking a part left taken → ObeysAt at (in_hits part + m) (share_stopped a rest taken bay o)
    share-stopped-at taken bay (Some cause) t = refused-row-at cause (in_hits part + m) (omega arith) taken t
    share-stopped-at taken bay None t =
        claim-wanted-at true (with_grant with_other taken bay None) (taking-granted a part left with_other keeps-other taken bay None t) (in_hits part + m) (omega arith)

    claim-row-at : (taken : Taken) → IsTaking a part left taken → (o : Option Grant) (plan : Plan) → ObeysAt at (in_hits part + (out_hits part + m)) (claim_row a rest taken o plan)
    claim-row-at taken t None plan = claim-wanted-at false taken t (in_hits part + (out_hits part + m)) (omega arith)
    claim-row-at taken t (Some grant) Full = claim-wanted-at false taken t (in_hits part + (out_hits part + m)) (omega arith)
    claim-row-at taken t (Some grant) Small =
        at-run at (IsTaking a part left) (claiming a with_wanted) (small_claimed a rest) (out_hits part + m)
        (taking-step a part left with_wanted keeps-wanted) (λ taken t. share-others-at (lacks taken.row.wanted) taken t) (stopped-at (out_hits part + m) (omega arith))
        (wanted_claims a true taken.row.part) taken (in_hits part + (out_hits part + m)) (omega (arith, wanted-asks true taken t)) t
    claim-row-at taken t (Some grant) Reconstruct =
        at-run at (IsTaking a part left) (taking_until with_other) (others_shared a rest) (in_hits part + m)
        (until-step a part left with_other keeps-other) (λ taken t. claim-wanted-at false taken t (in_hits part + m) (omega arith))
        (λ taken e r t. share-stopped-at taken e.bay (refusal (behind_from a.mode a.id) taken.missing e.bay r) t)
        (other_shares a taken.row.part) taken (in_hits part + (out_hits part + m)) (omega (arith, others-asks taken t)) t

    claims-at : (done : Rows) → SoFar a done.rows (part ∷ left) → (room : ℕ) → 1 + m ≤ room
        → ObeysAt at room (run (claiming a with_parity) (parity_claim a part ∷ []) (begun part done) >>= parity_claimed a rest)
    claims-at done so_far room le =
        at-run at (IsTaking a part left) (claiming a with_parity) (parity_claimed a rest) (in_hits part + (out_hits part + m))
        (taking-step a part left with_parity keeps-parity) (λ taken t. claim-row-at taken t taken.row.parity (plan_of a taken.row.part))
        (stopped-at (in_hits part + (out_hits part + m)) (omega arith))
        (parity_claim a part ∷ []) (begun part done) room (omega (arith, part-once part))
        (record { row = refl; parts = so_far })

  rows-at : (left : List RowPart) (done : Rows) → SoFar a done.rows left → (room : ℕ) → length left + (all_rows + (all_rows + all_rows)) ≤ room
      → ObeysAt at room (claim_rows a left done)
  rows-at [] done so_far room le =
      confirm-at done.rows so_far done.rows (record done { rows = [] }) (sym (append-nil (parts_of done.rows)) ∙ so_far) room
      (omega (arith, rows-le a rows count is done.rows [] so_far))
  rows-at (part ∷ left) done so_far room le =
      let m : ℕ = length left + (all_rows + (all_rows + all_rows)) in
      claims-at part left (claim_rows a left) m (omega arith) (λ done so_far. rows-at left done so_far m (omega arith)) done so_far room (omega arith)

pub writes_keep_bay_bounds : WritesObeyAt
writes_keep_bay_bounds a rows count is at = rows-at at a rows count is a.parts no_rows refl (4 * length a.parts) (omega arith)
