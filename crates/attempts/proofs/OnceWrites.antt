-- Writes take each slot once.
use Rattle.std.proofs.Common.{◌≡◌, sym, subst, ◌≤◌, Bool, true, false, List, [], ◌∷◌, ◌++◌, Option, Some, None, Result, Ok, Err, refl}
use Rattle.raid_base.specs.declared.numbers.BayNo.{BayNo}
use Rattle.raid_base.specs.declared.numbers.Number.{Number}
use Rattle.raid_base.specs.declared.numbers.Spent.{Spent}
use Rattle.raid_base.specs.declared.messages.Mode.{Mode}
use Rattle.raid_base.specs.declared.messages.Mode.TheVariants.{Lock, Order}
use Rattle.raid_base.specs.declared.messages.How.TheVariants.{Plain}
use Rattle.raid_base.specs.declared.messages.Reply.{Reply}
use Rattle.raid_base.specs.declared.messages.Errand.{Errand}
use Rattle.raid_base.specs.declared.messages.Grant.{Grant}
use Rattle.raid_base.specs.declared.jobs.Cause.{Cause}
use Rattle.raid_base.specs.declared.jobs.Cause.TheVariants as causes
use Rattle.raid_base.specs.declared.jobs.Ended.TheVariants as ends
use Rattle.raid_base.specs.declared.jobs.Plan.{Plan}
use Rattle.raid_base.specs.declared.jobs.Plan.TheVariants.{Full, Small, Reconstruct}
use Rattle.raid_base.specs.declared.jobs.RowPart.{RowPart}
use Rattle.raid_base.specs.Steps.{Steps, Walk, Through, Stopped}
use Rattle.stripe_layout.specs.Placement.{parity_bay, bays_of, units_in, units_out}
use Rattle.attempts.specs.Taking.{Access, Finish, Row, Rows, no_rows, Taken, begun, row_ended, with_parity, with_wanted, with_other, with_grant, lacks, behind_from, refusal, taking_until, why, share, claim}
use Rattle.attempts.specs.Releases.{releases, refused_steps, write_holds, write_releases, others_granted}
use Rattle.attempts.specs.Puts.{plan_of, is_small_plan, Puts, no_puts, at_row, data_put, data_puts, putting_data, parity_put, putting_parity, with_trouble, trouble_of}
use Rattle.attempts.specs.Writing.{write_stopped, finishing, reader_releases, write_end, write_last, parity_done, put_parity, data_done, put_rows, write_drawn, write_numbered, row_confirm, confirming, confirm_cause, row_confirmed, confirm_rows, claiming, row_claimed, claim_wanted, share_others, small_claimed, share_stopped, others_shared, claim_row, parity_claimed, parity_claim, claim_rows, write_steps}
use Rattle.attempts.specs.Phases.{Slot, RowsDiffer}
use Rattle.attempts.specs.Once.{Once}
use Rattle.attempts.proofs.TakenLemmas.{keeps-parity, keeps-wanted, keeps-other}
use Rattle.attempts.proofs.PhaseLemmas.{slot_on}
use Rattle.attempts.proofs.OnceLemmas.{wanted-apart, unwanted-apart, parity-wanted, parity-unwanted, wanted-others, unwanted-others, AreAhead, row-free, Stands, take-one, go-later, begin-row, part-granted, taking-part, until-part, share-takes, claim-takes, once-take, once-one, AreIdle, idle-map, idle-releases, idle-flat, once-idle, once-released}

module _ (a : Access) where
  idle-writes : (rows : List Row) → AreIdle (write_releases a rows)
  idle-writes rows =
      idle-flat (λ (row : Row). releases a.id row.part.row None (write_holds a.mode a.n row))
      (λ row. idle-releases a.id row.part.row None (write_holds a.mode a.n row)) rows

  idle-readers : (mode : Mode) (rows : List Row) → AreIdle (reader_releases mode a rows)
  idle-readers Order rows = tt
  idle-readers Lock rows =
      idle-flat (λ (row : Row). releases a.id row.part.row None (bays_of a.n row.part.row (others_granted a.n row)))
      (λ row. idle-releases a.id row.part.row None (bays_of a.n row.part.row (others_granted a.n row))) rows

  -- Once the rows are claimed nothing is taken
  module _ (slots : List Slot) where
    module _ (n : Number) where
      write-ends : (walk : Walk Puts) → Once slots (write_end a n walk)
      write-ends (Through puts) = tt
      write-ends (Stopped puts e r) = tt

      lasts : (rows : List Row) (puts : Puts) → Once slots (write_last a n rows puts)
      lasts rows puts = once-idle slots (finishing a n) (write_end a n) write-ends (reader_releases a.mode a rows) (idle-readers a.mode rows) puts

      module _ (rest : Puts → Steps Finish) (on : (puts : Puts) → Once slots (rest puts)) (row : Row) where
        parity-ends : (walk : Walk Puts) → Once slots (parity_done row rest walk)
        parity-ends (Through puts) = on puts
        parity-ends (Stopped puts e r) = on (with_trouble puts (trouble_of row e r))

        parity-puts : (puts : Puts) (grant : Option Grant) → Once slots (put_parity a n row rest puts grant)
        parity-puts puts None = on puts
        parity-puts puts (Some grant) =
            once-idle slots (putting_parity a n row) (parity_done row rest) parity-ends (parity_put a n row ∷ []) (tt, tt) puts

        data-ends : (walk : Walk Puts) → Once slots (data_done a n row rest walk)
        data-ends (Through puts) = parity-puts puts row.parity
        data-ends (Stopped puts e r) = on (with_trouble puts (trouble_of row e r))

      rows-put : (all rows : List Row) (puts : Puts) → Once slots (put_rows a n (write_last a n all) rows puts)
      rows-put all [] puts = lasts all puts
      rows-put all (row ∷ rows) puts =
          once-idle slots (putting_data a n row) (data_done a n row (put_rows a n (write_last a n all) rows))
          (data-ends (put_rows a n (write_last a n all) rows) (rows-put all rows) row)
          (data_puts a n row) (idle-map (data_put a n row) (λ unit. tt) _) (at_row puts)

    write-refuses : (rows : List Row) (cause : Cause) → Once slots (refused_steps (write_releases a rows) cause)
    write-refuses rows cause = once-released slots (write_releases a rows) (ends.Refused cause) (idle-writes rows)

    write-drawn : (rows : List Row) (d : Result Number Spent) → Once slots (write_drawn a rows d)
    write-drawn rows (Err spent) = write-refuses rows (causes.Spent spent.seen)
    write-drawn rows (Ok n) = rows-put n rows rows no_puts

    write-numbers : (mode : Mode) (rows : List Row) → Once slots (write_numbered mode a rows)
    write-numbers Order rows = rows-put a.id rows rows no_puts
    write-numbers Lock rows = write-drawn rows

    row-confirms : (rows : List Row) (row : Row) (rest : Rows → Steps Finish) → ((done : Rows) → Once slots (rest done)) → (walk : Walk Rows) →
        Once slots (row_confirmed a rows row rest walk)
    row-confirms rows row rest on (Through done) = on done
    row-confirms rows row rest on (Stopped done e r) = write-refuses rows (confirm_cause a row done e r)

    write-stops : (taken : Taken) (e : Errand) (r : Reply) → Once slots (write_stopped a taken e r)
    write-stops taken e r = write-refuses (taken.before ++ taken.row ∷ []) (why (behind_from a.mode a.id) taken e r)

    confirms : (rows left : List Row) (done : Rows) → Once slots (confirm_rows a rows left done)
    confirms rows [] done = write-numbers a.mode done.rows
    confirms rows (row ∷ left) done =
        once-idle slots (confirming a row) (row_confirmed a rows row (confirm_rows a rows left))
        (row-confirms rows row (confirm_rows a rows left) (confirms rows left)) (row_confirm a row ∷ []) (tt, tt) done

  -- A row: the parity, and then the units that are wanted and the others, or the others first
  module _ (least : 3 ≤ a.n) where
    abbrev wanted : RowPart → List BayNo
    wanted part = bays_of a.n part.row (units_in a.n part.mask)

    abbrev unwanted : RowPart → List BayNo
    unwanted part = bays_of a.n part.row (units_out a.n part.mask)

    module _ (left : List RowPart) (rest : Rows → Steps Finish) (on : (slots : List Slot) (done : Rows) → AreAhead left slots → Once slots (rest done)) where
      -- the part is in hand
      abbrev Holds : RowPart → Taken → Type 0
      Holds part taken = taken.row.part ≡ part

      -- its wanted units come, and then the others may
      abbrev AtWanted : RowPart → List Slot → Type 0
      AtWanted part slots = Stands left part.row (wanted part) (unwanted part) slots

      -- and the other way round
      abbrev AtUnwanted : RowPart → List Slot → Type 0
      AtUnwanted part slots = Stands left part.row (unwanted part) (wanted part) slots

      wanted-claimed : (want : Bool) (slots : List Slot) (taken : Taken) (part : RowPart) (later : List BayNo) → Holds part taken → Stands left part.row (wanted part) later slots
          → Once slots (claim_wanted a rest want taken)
      wanted-claimed want slots taken part later same s =
          let q : RowPart = taken.row.part in
          once-take (Holds q) left q.row later (claim a.id q.row Plain 0 want) (claim-takes a.id q.row Plain 0 want) (claiming a with_wanted) (row_claimed a rest)
          (taking-part q with_wanted keeps-wanted (behind_from a.mode a.id))
          (λ slots t same s. on slots (row_ended t) s.ahead)
          (λ now slots t bay r same s. write-stops slots t (claim a.id q.row Plain 0 want bay) r)
          (wanted q) slots taken refl (subst (λ (p : RowPart). Stands left p.row (wanted p) later slots) (sym same) s)

      unwanted-shared : (slots : List Slot) (taken : Taken) (part : RowPart) → Holds part taken → Stands left part.row [] (unwanted part) slots → (b : Bool)
          → Once slots (share_others a rest taken b)
      unwanted-shared slots taken part same s false = on slots (row_ended taken) s.ahead
      unwanted-shared slots taken part same s true =
          let q : RowPart = taken.row.part in
          once-take (Holds q) left q.row [] (share a.id q.row) (share-takes a.id q.row) (claiming a with_other) (row_claimed a rest)
          (taking-part q with_other keeps-other (behind_from a.mode a.id))
          (λ slots t same s. on slots (row_ended t) s.ahead)
          (λ now slots t bay r same s. write-stops slots t (share a.id q.row bay) r)
          (unwanted q) slots taken refl
          (go-later left q.row [] (unwanted q) slots (unwanted-apart a.n q.row least q.mask)
          (subst (λ (p : RowPart). Stands left p.row [] (unwanted p) slots) (sym same) s))

      -- the wanted units come after the others, or after some of these
      then-wanted : (slots : List Slot) (part : RowPart) (now : List BayNo) → Stands left part.row now (wanted part) slots → Stands left part.row (wanted part) [] slots
      then-wanted slots part now s = go-later left part.row now (wanted part) slots (wanted-apart a.n part.row least part.mask) s

      share-stops : (slots : List Slot) (taken : Taken) (bay : BayNo) (part : RowPart) (now : List BayNo) → Holds part taken → Stands left part.row now (wanted part) slots
          → (cause : Option Cause) → Once slots (share_stopped a rest taken bay cause)
      share-stops slots taken bay part now same s (Some cause) = write-refuses slots (taken.before ++ taken.row ∷ []) cause
      share-stops slots taken bay part now same s None =
          wanted-claimed true slots (with_grant with_other taken bay None) part [] (part-granted part with_other keeps-other taken bay None same) (then-wanted slots part now s)

      row-begins : (slots : List Slot) (taken : Taken) → AtWanted taken.row.part slots → AtUnwanted taken.row.part slots → (grant : Option Grant) (plan : Plan)
          → Once slots (claim_row a rest taken grant plan)
      row-begins slots taken s later None plan = wanted-claimed false slots taken taken.row.part (unwanted taken.row.part) refl s
      row-begins slots taken s later (Some grant) Full = wanted-claimed false slots taken taken.row.part (unwanted taken.row.part) refl s
      row-begins slots taken s later (Some grant) Small =
          let q : RowPart = taken.row.part in
          once-take (Holds q) left q.row (unwanted q) (claim a.id q.row Plain 0 true) (claim-takes a.id q.row Plain 0 true) (claiming a with_wanted) (small_claimed a rest)
          (taking-part q with_wanted keeps-wanted (behind_from a.mode a.id))
          (λ slots t same s. unwanted-shared slots t q same s (lacks t.row.wanted))
          (λ now slots t bay r same s. write-stops slots t (claim a.id q.row Plain 0 true bay) r)
          (wanted q) slots taken refl s
      row-begins slots taken s later (Some grant) Reconstruct =
          let q : RowPart = taken.row.part in
          once-take (Holds q) left q.row (wanted q) (share a.id q.row) (share-takes a.id q.row) (taking_until with_other) (others_shared a rest)
          (until-part q with_other keeps-other)
          (λ slots t same s. wanted-claimed false slots t q [] same (then-wanted slots q [] s))
          (λ now slots t bay r same s. share-stops slots t bay q now same s (refusal (behind_from a.mode a.id) t.missing bay r))
          (unwanted q) slots taken refl later

      parity-claims : (slots : List Slot) (taken : Taken) (part : RowPart) → Holds part taken → AtWanted part slots → AtUnwanted part slots
          → Once slots (parity_claimed a rest (Through taken))
      parity-claims slots taken part same s later =
          row-begins slots taken (subst (λ (p : RowPart). AtWanted p slots) (sym same) s) (subst (λ (p : RowPart). AtUnwanted p slots) (sym same) later)
          taken.row.parity (plan_of a taken.row.part)

    -- the parity was taken, and no other slot of the row
    at-wanted : (part : RowPart) (left : List RowPart) (slots : List Slot) → RowsDiffer (part ∷ left) → AreAhead (part ∷ left) slots
        → Stands left part.row (wanted part) (unwanted part) (slot_on part.row (parity_bay a.n part.row) ∷ slots)
    at-wanted part left slots differ ahead =
        take-one left part.row (parity_bay a.n part.row) (wanted part) (unwanted part) slots
        (begin-row part left (parity_bay a.n part.row ∷ wanted part) (unwanted part) slots differ ahead
        (parity-wanted a.n part.row least part.mask, wanted-apart a.n part.row least part.mask)
        (parity-unwanted a.n part.row least part.mask, wanted-others a.n part.row least part.mask))

    at-unwanted : (part : RowPart) (left : List RowPart) (slots : List Slot) → RowsDiffer (part ∷ left) → AreAhead (part ∷ left) slots
        → Stands left part.row (unwanted part) (wanted part) (slot_on part.row (parity_bay a.n part.row) ∷ slots)
    at-unwanted part left slots differ ahead =
        take-one left part.row (parity_bay a.n part.row) (unwanted part) (wanted part) slots
        (begin-row part left (parity_bay a.n part.row ∷ unwanted part) (wanted part) slots differ ahead
        (parity-unwanted a.n part.row least part.mask, unwanted-apart a.n part.row least part.mask)
        (parity-wanted a.n part.row least part.mask, unwanted-others a.n part.row least part.mask))

    rows-claimed : (left : List RowPart) → RowsDiffer left → (slots : List Slot) → AreAhead left slots → (done : Rows) → Once slots (claim_rows a left done)
    rows-claimed [] differ slots ahead done = confirms slots done.rows done.rows (record done { rows = [] })
    rows-claimed (part ∷ left) differ slots ahead done =
        let want : Bool = is_small_plan (plan_of a part) in
        let parity : BayNo = parity_bay a.n part.row in
        once-one (λ (t : Taken). t.row.part ≡ part) part.row (claim a.id part.row Plain part.mask want) (claim-takes a.id part.row Plain part.mask want) (claiming a with_parity)
        (parity_claimed a (claim_rows a left)) parity slots (begun part done)
        (row-free part left slots parity ahead)
        (λ r. taking-part part with_parity keeps-parity (behind_from a.mode a.id) (begun part done) (parity_claim a part) r refl)
        (λ t same. parity-claims left (claim_rows a left) (λ slots done ahead. rows-claimed left differ.1 slots ahead done) (slot_on part.row parity ∷ slots) t part same
        (at-wanted part left slots differ ahead) (at-unwanted part left slots differ ahead))
        (λ r. write-stops (slot_on part.row parity ∷ slots) (begun part done) (parity_claim a part) r)

pub writes-once : (a : Access) → 3 ≤ a.n → RowsDiffer a.parts → Once [] (write_steps a)
writes-once a least differ = rows-claimed a least a.parts differ [] tt no_rows
