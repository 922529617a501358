-- How writes end.
use Rattle.std.proofs.Common.{if◌then◌else◌, refl, Bool, true, false, List, [], ◌∷◌, ◌++◌, Option, Some, None, Result, Ok, Err}
use Rattle.raid_base.specs.declared.numbers.BayNo.{BayNo}
use Rattle.raid_base.specs.declared.numbers.Number.{Number}
use Rattle.raid_base.specs.declared.numbers.Spent.{Spent}
use Rattle.raid_base.specs.declared.messages.Mode.{Mode}
use Rattle.raid_base.specs.declared.messages.Mode.TheVariants.{Lock, Order}
use Rattle.raid_base.specs.declared.messages.Reply.{Reply}
use Rattle.raid_base.specs.declared.messages.Errand.{Errand}
use Rattle.raid_base.specs.declared.messages.Grant.{Grant}
use Rattle.raid_base.specs.declared.jobs.Cause.{Cause}
use Rattle.raid_base.specs.declared.jobs.Cause.TheVariants as causes
use Rattle.raid_base.specs.declared.jobs.Ended.TheVariants as ends
use Rattle.raid_base.specs.declared.jobs.Plan.{Plan}
use Rattle.raid_base.specs.declared.jobs.Plan.TheVariants.{Full, Small, Reconstruct}
use Rattle.raid_base.specs.declared.jobs.RowPart.{RowPart}
use Rattle.raid_base.specs.Steps.{Steps, Walk, Through, Stopped}
use Rattle.attempts.specs.Taking.{Access, Finish, finish, Row, Rows, no_rows, Taken, begun, row_ended, with_parity, with_wanted, with_other, with_grant, lacks, behind_from, refusal, why, taking_until}
use Rattle.attempts.specs.Releases.{releasing, end_as, refused_steps, write_releases}
use Rattle.attempts.specs.Puts.{plan_of, flags, part_by_quit, Puts, no_puts, at_row, data_puts, putting_data, parity_put, putting_parity, with_trouble, trouble_of, first_cause, written_or}
use Rattle.attempts.specs.Writing.{write_stopped, finishing, reader_releases, write_end, write_last, parity_done, put_parity, data_done, put_rows, write_drawn, write_numbered, row_confirm, confirming, confirm_cause, row_confirmed, confirm_rows, claiming, row_claimed, wanted_claims, other_shares, claim_wanted, share_others, small_claimed, share_stopped, others_shared, claim_row, parity_claimed, parity_claim, claim_rows, write_steps}
use Rattle.attempts.specs.Finishes.{IsNoRead, GivesNone, Finishes}
use Rattle.attempts.proofs.FinishLemmas.{finishes-run}

-- where the host stops
parted : (n : Number) (puts : Puts) → IsNoRead (part_by_quit n puts)
parted n puts = by puts.answered where
  by : (b : Bool) → IsNoRead (if b then ends.Part n (flags puts.made) causes.Quit else ends.Refused causes.Quit)
  by true = tt
  by false = tt

module _ (a : Access) where
  refused-ends : (es : List Errand) (cause : Cause) → Finishes GivesNone (refused_steps es cause)
  refused-ends es cause = finishes-run GivesNone releasing (end_as (ends.Refused cause)) (λ u. tt) (λ walk. record { ended = tt; contents = refl }) es tt

  -- puts
  end-ends : (n : Number) (walk : Walk Puts) → Finishes GivesNone (write_end a n walk)
  end-ends n (Through puts) = by (first_cause a puts.made puts.troubles) where
    by : (cause : Option Cause) → GivesNone (finish (written_or n puts.made cause))
    by None = record { ended = tt; contents = refl }
    by (Some cause) = record { ended = tt; contents = refl }
  end-ends n (Stopped puts e r) = by (first_cause a puts.made puts.troubles) where
    by : (cause : Option Cause) → GivesNone (finish (written_or n puts.made cause))
    by None = record { ended = tt; contents = refl }
    by (Some cause) = record { ended = tt; contents = refl }

  last-ends : (n : Number) (rows : List Row) (puts : Puts) → Finishes GivesNone (write_last a n rows puts)
  last-ends n rows puts = finishes-run GivesNone (finishing a n) (write_end a n) (parted n) (end-ends n) (reader_releases a.mode a rows) puts

  module _ (n : Number) (rest : Puts → Steps Finish) (rest_ends : (puts : Puts) → Finishes GivesNone (rest puts)) (row : Row) where
    parity-ends : (walk : Walk Puts) → Finishes GivesNone (parity_done row rest walk)
    parity-ends (Through puts) = rest_ends puts
    parity-ends (Stopped puts e r) = rest_ends (with_trouble puts (trouble_of row e r))

    put-ends : (puts : Puts) (grant : Option Grant) → Finishes GivesNone (put_parity a n row rest puts grant)
    put-ends puts None = rest_ends puts
    put-ends puts (Some grant) = finishes-run GivesNone (putting_parity a n row) (parity_done row rest) (parted n) parity-ends (parity_put a n row ∷ []) puts

    data-ends : (walk : Walk Puts) → Finishes GivesNone (data_done a n row rest walk)
    data-ends (Through puts) = put-ends puts row.parity
    data-ends (Stopped puts e r) = rest_ends (with_trouble puts (trouble_of row e r))

  rows-end : (n : Number) (all rows : List Row) (puts : Puts) → Finishes GivesNone (put_rows a n (write_last a n all) rows puts)
  rows-end n all [] puts = last-ends n all puts
  rows-end n all (row ∷ rows) puts =
      finishes-run GivesNone (putting_data a n row) (data_done a n row (put_rows a n (write_last a n all) rows)) (parted n)
      (data-ends n (put_rows a n (write_last a n all) rows) (rows-end n all rows) row) (data_puts a n row) (at_row puts)

  drawn-ends : (rows : List Row) (d : Result Number Spent) → Finishes GivesNone (write_drawn a rows d)
  drawn-ends rows (Ok n) = rows-end n rows rows no_puts
  drawn-ends rows (Err spent) = refused-ends (write_releases a rows) (causes.Spent spent.seen)

  numbered-ends : (mode : Mode) (rows : List Row) → Finishes GivesNone (write_numbered mode a rows)
  numbered-ends Order rows = rows-end a.id rows rows no_puts
  numbered-ends Lock rows = λ d. drawn-ends rows d

  -- confirms
  confirmed : (rows : List Row) (row : Row) (rest : Rows → Steps Finish) → ((done : Rows) → Finishes GivesNone (rest done)) → (walk : Walk Rows) → Finishes GivesNone (row_confirmed a rows row rest walk)
  confirmed rows row rest on (Through done) = on done
  confirmed rows row rest on (Stopped done e r) = refused-ends (write_releases a rows) (confirm_cause a row done e r)

  confirms-end : (rows left : List Row) (done : Rows) → Finishes GivesNone (confirm_rows a rows left done)
  confirms-end rows [] done = numbered-ends a.mode done.rows
  confirms-end rows (row ∷ left) done =
      finishes-run GivesNone (confirming a row) (row_confirmed a rows row (confirm_rows a rows left)) (λ u. tt)
      (confirmed rows row (confirm_rows a rows left) (confirms-end rows left)) (row_confirm a row ∷ []) done

  -- claims
  stopped-ends : (taken : Taken) (e : Errand) (r : Reply) → Finishes GivesNone (write_stopped a taken e r)
  stopped-ends taken e r = refused-ends (write_releases a (taken.before ++ taken.row ∷ [])) (why (behind_from a.mode a.id) taken e r)

  module _ (rest : Rows → Steps Finish) (rest_ends : (rows : Rows) → Finishes GivesNone (rest rows)) where
    claimed-ends : (walk : Walk Taken) → Finishes GivesNone (row_claimed a rest walk)
    claimed-ends (Through taken) = rest_ends (row_ended taken)
    claimed-ends (Stopped taken e r) = stopped-ends taken e r

    wanted-ends : (want : Bool) (taken : Taken) → Finishes GivesNone (claim_wanted a rest want taken)
    wanted-ends want taken = finishes-run GivesNone (claiming a with_wanted) (row_claimed a rest) (λ u. tt) claimed-ends (wanted_claims a want taken.row.part) taken

    others-end : (taken : Taken) (lacking : Bool) → Finishes GivesNone (share_others a rest taken lacking)
    others-end taken false = rest_ends (row_ended taken)
    others-end taken true = finishes-run GivesNone (claiming a with_other) (row_claimed a rest) (λ u. tt) claimed-ends (other_shares a taken.row.part) taken

    small-ends : (walk : Walk Taken) → Finishes GivesNone (small_claimed a rest walk)
    small-ends (Stopped taken e r) = stopped-ends taken e r
    small-ends (Through taken) = others-end taken (lacks taken.row.wanted)

    stop-ends : (taken : Taken) (bay : BayNo) (cause : Option Cause) → Finishes GivesNone (share_stopped a rest taken bay cause)
    stop-ends taken bay (Some cause) = refused-ends (write_releases a (taken.before ++ taken.row ∷ [])) cause
    stop-ends taken bay None = wanted-ends true (with_grant with_other taken bay None)

    shared-ends : (walk : Walk Taken) → Finishes GivesNone (others_shared a rest walk)
    shared-ends (Through taken) = wanted-ends false taken
    shared-ends (Stopped taken e r) = stop-ends taken e.bay (refusal (behind_from a.mode a.id) taken.missing e.bay r)

    row-ends : (taken : Taken) (grant : Option Grant) (plan : Plan) → Finishes GivesNone (claim_row a rest taken grant plan)
    row-ends taken None plan = wanted-ends false taken
    row-ends taken (Some grant) Full = wanted-ends false taken
    row-ends taken (Some grant) Small = finishes-run GivesNone (claiming a with_wanted) (small_claimed a rest) (λ u. tt) small-ends (wanted_claims a true taken.row.part) taken
    row-ends taken (Some grant) Reconstruct = finishes-run GivesNone (taking_until with_other) (others_shared a rest) (λ u. tt) shared-ends (other_shares a taken.row.part) taken

    parity-claim-ends : (walk : Walk Taken) → Finishes GivesNone (parity_claimed a rest walk)
    parity-claim-ends (Stopped taken e r) = stopped-ends taken e r
    parity-claim-ends (Through taken) = row-ends taken taken.row.parity (plan_of a taken.row.part)

  claims-end : (left : List RowPart) (done : Rows) → Finishes GivesNone (claim_rows a left done)
  claims-end [] done = confirms-end done.rows done.rows (record done { rows = [] })
  claims-end (part ∷ left) done =
      finishes-run GivesNone (claiming a with_parity) (parity_claimed a (claim_rows a left)) (λ u. tt) (parity-claim-ends (claim_rows a left) (claims-end left)) (parity_claim a part ∷ []) (begun part done)

pub writes_finish : (a : Access) → Finishes GivesNone (write_steps a)
writes_finish a = claims-end a a.parts no_rows
