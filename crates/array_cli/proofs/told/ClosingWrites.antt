-- A write closes as done, as refused, or as a part that tells of blocks of its job alone.
use Rattle.std.proofs.Common.{◌≡◌, sym, ap, subst, ℕ, ◌-◌, ◌^◌, ◌<◌, ◌≤◌, ◌==◌, Bool, true, false, cond, fold, bit_or, List, [], ◌∷◌, ◌++◌, map, zip, Option, Some, None, IfSome, option_map, unwrap_or, Result, Ok, Err}
use Rattle.std.specs.List.{AllByRecursion}
use Rattle.std.proofs.lemmas.Nat.{or_lt, pow_pos}
use Rattle.raid_base.specs.declared.numbers.BayNo.{BayNo}
use Rattle.raid_base.specs.declared.numbers.Number.{Number}
use Rattle.raid_base.specs.declared.numbers.Spent.{Spent}
use Rattle.raid_base.specs.declared.messages.Mode.{Mode}
use Rattle.raid_base.specs.declared.messages.Mode.TheVariants.{Lock, Order}
use Rattle.raid_base.specs.declared.messages.Reply.{Reply}
use Rattle.raid_base.specs.declared.messages.Errand.{Errand}
use Rattle.raid_base.specs.declared.messages.Grant.{Grant}
use Rattle.raid_base.specs.declared.jobs.Cause.{Cause}
use Rattle.raid_base.specs.declared.jobs.Cause.TheVariants as causes
use Rattle.raid_base.specs.declared.jobs.Ended.{Ended}
use Rattle.raid_base.specs.declared.jobs.Ended.TheVariants as ends
use Rattle.raid_base.specs.declared.jobs.Plan.{Plan}
use Rattle.raid_base.specs.declared.jobs.Plan.TheVariants.{Full, Small, Reconstruct}
use Rattle.raid_base.specs.declared.jobs.RowPart.{RowPart}
use Rattle.raid_base.specs.Replies.{is_missing, held_of, grant_of, put_end}
use Rattle.raid_base.specs.Steps.{Steps, bind, run, Through}
use Rattle.stripe_layout.specs.Placement.{units_in}
use Rattle.stripe_layout.proofs.LayoutLemmas.{unit_back}
use Rattle.attempts.specs.Taking.{Access, Finish, Row, Rows, no_rows, Taken, begun, row_ended, with_parity, with_wanted, with_other, with_grant, grant_or_gap, lacks, behind_from, refusal, why, taking_until}
use Rattle.attempts.specs.Releases.{refused_steps, write_releases, granted_of}
use Rattle.attempts.specs.Puts.{plan_of, wanted_units, block_no, flags, part_by_quit, Puts, no_puts, at_row, data_put, data_put_by, unit_of, granted_life, putting_data, parity_units, missing_units, parity_put, parity_put_by, putting_parity, with_left, with_trouble, trouble_of, first_cause, written, written_or}
use Rattle.attempts.specs.Writing.{write_stopped, finishing, reader_releases, write_end, write_last, parity_done, put_parity, data_done, put_rows, put_steps, write_drawn, write_numbered, held_row, confirmed_row, unrefused_row, row_or_change, row_confirm, confirming, confirm_cause, row_confirmed, confirm_rows, claiming, row_claimed, wanted_claims, other_shares, claim_wanted, share_others, small_claimed, share_stopped, others_shared, claim_row, parity_claimed, parity_claim, claim_rows, write_steps}
use Rattle.attempts.proofs.RoomLemmas.{all-append}
use Rattle.attempts.proofs.WritePhases.{all-granted}
use Rattle.raid_base.specs.declared.messages.PutEnd.{PutEnd}
use Rattle.raid_base.specs.declared.messages.PutEnd.TheVariants.{Made, Failed, Unnoted}
use Rattle.row_laws.proofs.effects.EffectsMade.{missing-all}
use Rattle.array_cli.proofs.told.ClosingTrees.{Closes, closes-head, closes-kept, released-closes}

-- with so many blocks
abbrev pub WriteCloses : ℕ → Ended → Type 0
WriteCloses count (ends.Wrote n) = Unit {0}
WriteCloses count (ends.Part n made cause) = made < 2 ^ count
WriteCloses count (ends.Refused cause) = Unit {0}
WriteCloses count (ends.Read n) = ⊥
WriteCloses count (ends.Recovered n closed lost) = ⊥
WriteCloses count ends.Mended = ⊥

-- flags of these blocks
flags-from : (count start : ℕ) (made : List ℕ) → start < 2 ^ count → AllByRecursion (λ (b : ℕ). 2 ^ b < 2 ^ count) made → fold (λ n block. bit_or n (2 ^ block)) start made < 2 ^ count
flags-from count start [] less all = less
flags-from count start (b ∷ made) less all = flags-from count (bit_or start (2 ^ b)) made (or_lt count start (2 ^ b) less all.0) all.1

module _ (a : Access) (count : ℕ) where
  -- a unit of a part, whose block is one of the job's
  abbrev pub IsFit : RowPart → ℕ → Type 0
  IsFit part u = (u < a.n - 1) × (2 ^ block_no a part u < 2 ^ count)

  abbrev pub AreFit : RowPart → Type 0
  AreFit part = AllByRecursion (IsFit part) (units_in a.n part.mask)

module _ (a : Access) (least : 3 ≤ a.n) (count : ℕ) where
  abbrev Writes : Steps Finish → Type 0
  Writes s = Closes (WriteCloses count) s

  abbrev RowsFit : List Row → Type 0
  RowsFit rows = AllByRecursion (λ (row : Row). AreFit a count row.part) rows

  refuses : (rows : List Row) (cause : Cause) → Writes (refused_steps (write_releases a rows) cause)
  refuses rows cause = released-closes (WriteCloses count) tt (write_releases a rows) (ends.Refused cause) tt

  -- Puts
  abbrev IsBlock : ℕ → Type 0
  IsBlock b = 2 ^ b < 2 ^ count

  flags-less : (made : List ℕ) → AllByRecursion IsBlock made → flags made < 2 ^ count
  flags-less made all = flags-from count 0 made (pow_pos count) all

  stops : (n : Number) (puts : Puts) → AllByRecursion IsBlock puts.made → WriteCloses count (part_by_quit n puts)
  stops n puts all = by puts.answered
    where
      by : (b : Bool) → WriteCloses count (cond b (ends.Part n (flags puts.made) causes.Quit) (ends.Refused causes.Quit))
      by true = flags-less puts.made all
      by false = tt

  ends-so : (n : Number) (puts : Puts) → AllByRecursion IsBlock puts.made → WriteCloses count (written a n puts)
  ends-so n puts all = by (first_cause a puts.made puts.troubles)
    where
      by : (o : Option Cause) → WriteCloses count (written_or n puts.made o)
      by None = tt
      by (Some cause) = flags-less puts.made all

  abbrev MadeFit : Puts → Type 0
  MadeFit puts = AllByRecursion IsBlock puts.made

  module _ (n : Number) where
    lasts : (rows : List Row) (puts : Puts) → MadeFit puts → Writes (write_last a n rows puts)
    lasts rows puts fit =
        closes-kept (WriteCloses count) MadeFit (finishing a n) (write_end a n) (λ q h. stops n q h) (λ q e r h. h) (λ q h. ends-so n q h) (λ q e r h. ends-so n q h)
        (reader_releases a.mode a rows) puts fit

    module _ (row : Row) (own : AreFit a count row.part) (rest : Puts → Steps Finish) (on : (puts : Puts) → MadeFit puts → Writes (rest puts)) where
      -- what is made, and what is left to the parity
      abbrev Putting : Puts → Type 0
      Putting puts = AllByRecursion IsBlock puts.made × AllByRecursion (IsFit a count row.part) puts.left

      blocks-fit : (us : List ℕ) → AllByRecursion (IsFit a count row.part) us → AllByRecursion IsBlock (map (block_no a row.part) us)
      blocks-fit [] all = tt
      blocks-fit (u ∷ us) all = (all.0.1, blocks-fit us all.1)

      units-fit : (puts : Puts) → Putting puts → AllByRecursion (IsFit a count row.part) (parity_units a row puts)
      units-fit puts h =
          all-append (IsFit a count row.part) (missing_units (zip (wanted_units a row) row.wanted)) puts.left (missing-all (IsFit a count row.part) (wanted_units a row) row.wanted own) h.1

      parity-step : (puts : Puts) (end : PutEnd) → Putting puts → IfSome (parity_put_by a row puts end) MadeFit
      parity-step puts Made h =
          all-append IsBlock puts.made (map (block_no a row.part) (parity_units a row puts)) h.0 (blocks-fit (parity_units a row puts) (units-fit puts h))
      parity-step puts Failed h = tt
      parity-step puts (Unnoted life) h = tt

      parity-puts : (puts : Puts) (grant : Option Grant) → Putting puts → Writes (put_parity a n row rest puts grant)
      parity-puts puts None h = on puts h.0
      parity-puts puts (Some grant) h =
          closes-head (WriteCloses count) MadeFit (putting_parity a n row) (parity_done row rest) (parity_put a n row) [] puts (stops n puts h.0)
          (λ r. parity-step puts (put_end r) h) (λ q fit. on q fit) (λ r. on (with_trouble puts (trouble_of row (parity_put a n row) r)) h.0)

      is-unit : (u : ℕ) → u < a.n - 1 → unit_of a row (data_put a n row u) ≡ u
      is-unit u below = ap (λ (o : Option ℕ). unwrap_or o 0) (unit_back a.n row.part.row u least below)

      unit-step : (puts : Puts) (u : ℕ) (end : PutEnd) → IsFit a count row.part u → Putting puts → IfSome (data_put_by a row puts u end) Putting
      unit-step puts u Made is h = (all-append IsBlock puts.made (block_no a row.part u ∷ []) h.0 (is.1, tt), h.1)
      unit-step puts u Failed is h = tt
      unit-step puts u (Unnoted life) is h = by (life == granted_life a row u)
        where
          by : (b : Bool) → IfSome (cond b None (Some (with_left puts row.part u))) Putting
          by true = tt
          by false = (h.0, all-append (IsFit a count row.part) puts.left (u ∷ []) h.1 (is, tt))

      data-puts : (us : List ℕ) → AllByRecursion (IsFit a count row.part) us → (puts : Puts) → Putting puts →
          Writes (bind (run (putting_data a n row) (map (data_put a n row) us) puts) (data_done a n row rest))
      data-puts [] all puts h = parity-puts puts row.parity h
      data-puts (u ∷ us) all puts h =
          closes-head (WriteCloses count) Putting (putting_data a n row) (data_done a n row rest) (data_put a n row u) (map (data_put a n row) us) puts (stops n puts h.0)
          (λ r. subst (λ (v : ℕ). IfSome (data_put_by a row puts v (put_end r)) Putting) (sym (is-unit u all.0.0)) (unit-step puts u (put_end r) all.0 h))
          (λ q fit. data-puts us all.1 q fit) (λ r. on (with_trouble puts (trouble_of row (data_put a n row u) r)) h.0)

    rows-put : (all rows : List Row) → RowsFit rows → (puts : Puts) → MadeFit puts → Writes (put_rows a n (write_last a n all) rows puts)
    rows-put all [] fit puts h = lasts all puts h
    rows-put all (row ∷ rows) fit puts h =
        data-puts row fit.0 (put_rows a n (write_last a n all) rows) (λ q made. rows-put all rows fit.1 q made) (granted_of (zip (wanted_units a row) row.wanted))
        (all-granted (IsFit a count row.part) (wanted_units a row) row.wanted fit.0) (at_row puts) (h, tt)

    puts-close : (rows : List Row) → RowsFit rows → Writes (put_steps a n rows)
    puts-close rows fit = rows-put rows rows fit no_puts tt

  drawn : (rows : List Row) → RowsFit rows → (d : Result Number Spent) → Writes (write_drawn a rows d)
  drawn rows fit (Ok n) = puts-close n rows fit
  drawn rows fit (Err spent) = refuses rows (causes.Spent spent.seen)

  numbered : (mode : Mode) (rows : List Row) → RowsFit rows → Writes (write_numbered mode a rows)
  numbered Order rows fit = puts-close a.id rows fit
  numbered Lock rows fit = λ d is. drawn rows fit d

  -- Confirms
  module _ (row : Row) (own : AreFit a count row.part) where
    abbrev Stays : Row → Type 0
    Stays r = AreFit a count r.part

    held-stays : (grant : Grant) (want : Bool) (held : Option (Option _)) → IfSome (held_row row grant want held) Stays
    held-stays grant want None = tt
    held-stays grant true (Some None) = tt
    held-stays grant true (Some (Some cell)) = own
    held-stays grant false (Some cell) = own

    there-stays : (missing : Bool) → IfSome (cond missing (Some row) None) Stays
    there-stays true = own
    there-stays false = tt

    confirmed-stays : (r : Reply) (parity : Option Grant) → IfSome (confirmed_row row r parity) Stays
    confirmed-stays r None = there-stays (is_missing r)
    confirmed-stays r (Some grant) = held-stays grant (lacks row.others) (held_of r)

    unrefused-stays : (r : Reply) (cause : Option Cause) → IfSome (unrefused_row row r cause) Stays
    unrefused-stays r (Some cause) = tt
    unrefused-stays r None = confirmed-stays r row.parity

    more-rows : (done : Rows) → RowsFit done.rows → (o : Option Row) → IfSome o Stays → IfSome (option_map (λ (r : Row). record done { rows = done.rows ++ r ∷ [] }) o) (λ (d : Rows). RowsFit d.rows)
    more-rows done fit None h = tt
    more-rows done fit (Some r) h = all-append (λ (x : Row). AreFit a count x.part) done.rows (r ∷ []) fit (h, tt)

  confirms : (rows left : List Row) → RowsFit left → (done : Rows) → RowsFit done.rows → Writes (confirm_rows a rows left done)
  confirms rows [] known done fit = numbered a.mode done.rows fit
  confirms rows (row ∷ left) known done fit =
      closes-head (WriteCloses count) (λ (d : Rows). RowsFit d.rows) (confirming a row) (row_confirmed a rows row (confirm_rows a rows left)) (row_confirm a row) [] done tt
      (λ r. more-rows row known.0 done fit (row_or_change (behind_from a.mode a.id) done.missing (row_confirm a row).bay row r)
      (unrefused-stays row known.0 r (refusal (behind_from a.mode a.id) done.missing (row_confirm a row).bay r)))
      (λ d more. confirms rows left known.1 d more) (λ r. refuses rows (confirm_cause a row done (row_confirm a row) r))

  -- Claims
  abbrev TakenFit : Taken → Type 0
  TakenFit taken = RowsFit taken.before × AreFit a count taken.row.part

  stopped : (taken : Taken) (e : Errand) (r : Reply) → Writes (write_stopped a taken e r)
  stopped taken e r = refuses (taken.before ++ taken.row ∷ []) (why (behind_from a.mode a.id) taken e r)

  ended-fit : (taken : Taken) → TakenFit taken → RowsFit (row_ended taken).rows
  ended-fit taken h = all-append (λ (x : Row). AreFit a count x.part) taken.before (taken.row ∷ []) h.0 (h.1, tt)

  parity-fit : (taken : Taken) (bay : BayNo) (o : Option (Option Grant)) → TakenFit taken → IfSome (option_map (with_grant with_parity taken bay) o) TakenFit
  parity-fit taken bay None h = tt
  parity-fit taken bay (Some None) h = h
  parity-fit taken bay (Some (Some grant)) h = h

  wanted-fit : (taken : Taken) (bay : BayNo) (o : Option (Option Grant)) → TakenFit taken → IfSome (option_map (with_grant with_wanted taken bay) o) TakenFit
  wanted-fit taken bay None h = tt
  wanted-fit taken bay (Some None) h = h
  wanted-fit taken bay (Some (Some grant)) h = h

  other-fit : (taken : Taken) (bay : BayNo) (o : Option (Option Grant)) → TakenFit taken → IfSome (option_map (with_grant with_other taken bay) o) TakenFit
  other-fit taken bay None h = tt
  other-fit taken bay (Some None) h = h
  other-fit taken bay (Some (Some grant)) h = h

  until-fit : (taken : Taken) (bay : BayNo) (o : Option Grant) → TakenFit taken → IfSome (option_map (λ (grant : Grant). with_grant with_other taken bay (Some grant)) o) TakenFit
  until-fit taken bay None h = tt
  until-fit taken bay (Some grant) h = h

  module _ (rest : Rows → Steps Finish) (on : (rows : Rows) → RowsFit rows.rows → Writes (rest rows)) where
    row-through : (taken : Taken) → TakenFit taken → Writes (row_claimed a rest (Through taken))
    row-through taken h = on (row_ended taken) (ended-fit taken h)

    claims-wanted : (want : Bool) (taken : Taken) → TakenFit taken → Writes (claim_wanted a rest want taken)
    claims-wanted want taken h =
        closes-kept (WriteCloses count) TakenFit (claiming a with_wanted) (row_claimed a rest) (λ t i. tt)
        (λ t e r i. wanted-fit t e.bay (grant_or_gap (behind_from a.mode a.id) t.missing e.bay r) i) row-through (λ t e r i. stopped t e r) (wanted_claims a want taken.row.part) taken h

    shares-others : (taken : Taken) (lacking : Bool) → TakenFit taken → Writes (share_others a rest taken lacking)
    shares-others taken false h = on (row_ended taken) (ended-fit taken h)
    shares-others taken true h =
        closes-kept (WriteCloses count) TakenFit (claiming a with_other) (row_claimed a rest) (λ t i. tt)
        (λ t e r i. other-fit t e.bay (grant_or_gap (behind_from a.mode a.id) t.missing e.bay r) i) row-through (λ t e r i. stopped t e r) (other_shares a taken.row.part) taken h

    stops-share : (taken : Taken) (bay : BayNo) (cause : Option Cause) → TakenFit taken → Writes (share_stopped a rest taken bay cause)
    stops-share taken bay (Some cause) h = refuses (taken.before ++ taken.row ∷ []) cause
    stops-share taken bay None h = claims-wanted true (with_grant with_other taken bay None) h

    claims-row : (taken : Taken) (grant : Option Grant) (plan : Plan) → TakenFit taken → Writes (claim_row a rest taken grant plan)
    claims-row taken None plan h = claims-wanted false taken h
    claims-row taken (Some grant) Full h = claims-wanted false taken h
    claims-row taken (Some grant) Small h =
        closes-kept (WriteCloses count) TakenFit (claiming a with_wanted) (small_claimed a rest) (λ t i. tt)
        (λ t e r i. wanted-fit t e.bay (grant_or_gap (behind_from a.mode a.id) t.missing e.bay r) i) (λ t i. shares-others t (lacks t.row.wanted) i) (λ t e r i. stopped t e r)
        (wanted_claims a true taken.row.part) taken h
    claims-row taken (Some grant) Reconstruct h =
        closes-kept (WriteCloses count) TakenFit (taking_until with_other) (others_shared a rest) (λ t i. tt)
        (λ t e r i. until-fit t e.bay (grant_of r) i) (λ t i. claims-wanted false t i)
        (λ t e r i. stops-share t e.bay (refusal (behind_from a.mode a.id) t.missing e.bay r) i) (other_shares a taken.row.part) taken h

  rows-claim : (left : List RowPart) → AllByRecursion (AreFit a count) left → (done : Rows) → RowsFit done.rows → Writes (claim_rows a left done)
  rows-claim [] fits done h = confirms done.rows done.rows h (record done { rows = [] }) tt
  rows-claim (part ∷ left) fits done h =
      closes-kept (WriteCloses count) TakenFit (claiming a with_parity) (parity_claimed a (claim_rows a left)) (λ t i. tt)
      (λ t e r i. parity-fit t e.bay (grant_or_gap (behind_from a.mode a.id) t.missing e.bay r) i)
      (λ t i. claims-row (claim_rows a left) (λ rows fit. rows-claim left fits.1 rows fit) t t.row.parity (plan_of a t.row.part) i)
      (λ t e r i. stopped t e r) (parity_claim a part ∷ []) (begun part done) (h, fits.0)

  pub writes-close : AllByRecursion (AreFit a count) a.parts → Writes (write_steps a)
  writes-close fits = rows-claim a.parts fits no_rows tt
